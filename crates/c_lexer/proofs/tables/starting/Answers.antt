use Rattle.std.proofs.Common.{ap, ◌∙◌, sym, arith, length, option_map, []}
use Rattle.c_lexer.specs.declared.piece.Meaning.TheVariants as m
use Rattle.c_lexer.proofs.Rows.{starting-hit, starting-miss, starting-end}
use Rattle.c_lexer.proofs.tables.starting.Goals as goal

pub returns-then-starts_with : goal.returns-then-starts_with
returns-then-starts_with c =
    sym (ap (option_map (λ entry. (length entry.0, entry.1)))
    (starting-hit c.args.text.now c.args.table.now c.loop-spelled.spelled-index (record { ref_ptr = (0, 0); now = [] }, m.Space) (omega arith) (sym c.starts_with.ensures.value ∙ c.if-starts_with.true) c.loop-spelled.invariant))

pub loop-spelled-preserved : goal.loop-spelled-preserved
loop-spelled-preserved c =
    starting-miss c.args.text.now c.args.table.now c.loop-spelled.spelled-index (record { ref_ptr = (0, 0); now = [] }, m.Space) (omega arith) (sym c.starts_with.ensures.value ∙ c.if-starts_with.false) c.loop-spelled.invariant

pub returns : goal.returns
returns c = sym (ap (option_map (λ entry. (length entry.0, entry.1))) (c.loop-spelled.invariant ∙ starting-end c.args.text.now c.args.table.now c.loop-spelled.spelled-index (omega arith)))
