use Rattle.std.proofs.Common.{◌≡◌, take, flat_map}
use Rattle.c_layout.specs.Layout.{layout}
use Rattle.item_printer.proofs.printing.marks_of.Given as goal

abbrev pub invariant-loop-item : goal.invariant-loop-item
invariant-loop-item l = l.marks.items ≡ flat_map layout (take l.item-index l.items)
