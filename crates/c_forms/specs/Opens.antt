-- Statements that end open: an `else` after them would belong to a part of them.
use Rattle.std.specs.Prelude.{Bool, true, ◌&&◌}
use Rattle.c_forms.specs.Forests.{Plain, Forest, empty, tree}
use Rattle.c_forms.specs.Measures.{ends_as_last_part}

-- whether the last of trees side by side ends open, or where there is none, what they are the parts of
abbrev pub last_opens : Forest → Bool
last_opens empty = true
last_opens (tree f s ps empty) = ends_as_last_part f && last_opens ps
last_opens (tree f s ps (tree g t qs rest)) = last_opens (tree g t qs rest)

-- whether a tree ends open
abbrev pub ends_open : Plain → Bool
ends_open t = ends_as_last_part t.form && last_opens t.parts
