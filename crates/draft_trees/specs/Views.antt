-- A draft as a tree.
use Rattle.std.specs.Prelude.{[]}
use Rattle.draft_trees.specs.declared.draft.Held.{Held}
use Rattle.draft_trees.specs.declared.draft.Held.TheVariants as held
use Rattle.c_forms.specs.Forests.{Plain, node}

abbrev pub plain : Held → Plain
plain (held.Leaf f s) = node f s []
plain (held.Branch b) = node b.value.form b.value.span b.value.parts
