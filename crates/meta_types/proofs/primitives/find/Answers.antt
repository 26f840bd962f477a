use Rattle.std.proofs.Common.{◌∙◌, sym, arith, []}
use Rattle.meta_types.specs.declared.primitives.Prim.TheVariants.{Length}
use Rattle.meta_types.proofs.Rows.{find-hit, find-miss, find-end}
use Rattle.meta_types.proofs.primitives.find.Goals as goal

pub returns-then-eq : goal.returns-then-eq
returns-then-eq c = sym (find-hit c.args.name.now c.args.table.now c.loop-spelled.spelled-index (record { ref_ptr = (0, 0); now = [] }, Length) (omega arith) (sym c.eq.ensures ∙ c.if-eq.true) c.loop-spelled.invariant)

pub loop-spelled-preserved : goal.loop-spelled-preserved
loop-spelled-preserved c = find-miss c.args.name.now c.args.table.now c.loop-spelled.spelled-index (record { ref_ptr = (0, 0); now = [] }, Length) (omega arith) (sym c.eq.ensures ∙ c.if-eq.false) c.loop-spelled.invariant

pub returns : goal.returns
returns c = sym (c.loop-spelled.invariant ∙ find-end c.args.name.now c.args.table.now c.loop-spelled.spelled-index (omega arith))
