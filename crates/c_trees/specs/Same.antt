-- Trees that are equal but for their spans.
use Rattle.std.specs.Prelude.{Bool, true, false, ◌&&◌}
use Rattle.c_forms.specs.Equal.{one_form}
use Rattle.c_forms.specs.Forests.{Plain, Forest, empty, tree}

abbrev pub same : Forest → Forest → Bool
same empty empty = true
same empty (tree g t qs others) = false
same (tree f s ps rest) empty = false
same (tree f s ps rest) (tree g t qs others) = one_form f g && same ps qs && same rest others

abbrev pub same_tree : Plain → Plain → Bool
same_tree a b = one_form a.form b.form && same a.parts b.parts
