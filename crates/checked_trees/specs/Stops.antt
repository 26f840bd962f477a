-- Why a node over parts is not made: it breaks a rule, or it would be too high, or else no memory is left.
use Rattle.std.specs.Prelude.{◌≡◌, ◌+◌, ◌≤◌, ◌<◌, List, Some, None}
use Rattle.c_forms.specs.declared.forms.Form.{Form}
use Rattle.c_forms.specs.Forests.{Plain, forest}
use Rattle.c_forms.specs.Measures.{star}
use Rattle.c_forms.specs.Rules.{broken}
use Rattle.c_trees.specs.Counts.{high}
use Rattle.checked_trees.specs.declared.making.TreeStop.{TreeStop}
use Rattle.checked_trees.specs.declared.making.TreeStop.TheVariants.{Broken, Tall, Memory}

-- nothing but memory can be wanting
abbrev pub May : Form → List Plain → Type 0
May f ps = (broken f (forest ps) ≡ None) × (star f + high (forest ps) ≤ 1000)

abbrev pub Stops : TreeStop → Form → List Plain → Type 0
Stops (Broken rule) f ps = broken f (forest ps) ≡ Some rule
Stops Tall f ps = (broken f (forest ps) ≡ None) × (1000 < star f + high (forest ps))
Stops Memory f ps = May f ps
