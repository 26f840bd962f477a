use Rattle.std.proofs.Common.{◌≡◌, ◌+◌, ◌*◌, ◌++◌, length, drop}
use denote.Param.Weighed.{most}
use Rattle.c_forms.specs.Forests.{forest}
use Rattle.c_layout.specs.Layout.{others, heads, laid}
use Rattle.c_layout.specs.Marks.{if_any}
use Rattle.c_trees.specs.Deep.{deep, deep_tree}
use Rattle.c_layout.proofs.layout.+put.Given as goal

abbrev pub invariant-put_joined-loop-one : goal.invariant-put_joined-loop-one
invariant-put_joined-loop-one l = l.marks.items ++ others l.starts (if_any l.separator) l.due l.depth (heads (laid (forest (drop l.one-index l.others)))) ≡ l.initial.marks.items ++ others l.starts (if_any l.separator) l.due l.depth (heads (laid (forest l.others)))

abbrev pub decreases-put_tree : goal.decreases-put_tree
decreases-put_tree l = 40 * deep l.tree.now.parts + 20

abbrev pub decreases-put_placed : goal.decreases-put_placed
decreases-put_placed l = 40 * deep l.tree.now.parts + 21

abbrev pub decreases-put_body : goal.decreases-put_body
decreases-put_body l = 40 * deep l.tree.now.parts + 22

abbrev pub decreases-put_part : goal.decreases-put_part
decreases-put_part l = 40 * deep l.tree.now.parts + 23

abbrev pub decreases-put_joined : goal.decreases-put_joined
decreases-put_joined l = 40 * most deep_tree l.all.now + 1

abbrev pub decreases-put_inside : goal.decreases-put_inside
decreases-put_inside l = 40 * most deep_tree l.all.now + 2

abbrev pub decreases-put_elements : goal.decreases-put_elements
decreases-put_elements l = 40 * most deep_tree l.all.now + 3

abbrev pub decreases-put : goal.decreases-put
decreases-put l = 40 * most deep_tree l.parts.now + length l.pieces.now
