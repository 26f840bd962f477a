use Rattle.std.proofs.Common.{ap, sym, ◌∙◌, arith, not, ◌&&◌, get_or}
use Rattle.c_tokens.specs.Bytes.{is_backslash}
use Rattle.c_tokens.specs.Literals as literal
use Rattle.c_tokens.proofs.Opened.{escaped-next}
use Rattle.c_lexer.specs.Meanings.{met_by}
use Rattle.c_lexer.proofs.Heads.{met_next, met_end}
use Rattle.c_lexer.proofs.literals.literal_end.Goals as goal

pub returns-in-Closing : goal.returns-in-Closing
returns-in-Closing c =
    sym (c.loop-index.invariant.so_far ∙ met_next c.args.quote c.args.text.now c.loop-index.index literal.closing c.loop-index-test.true (sym c.met_at.ensures ∙ ap met_by c.in-Closing.is))

pub returns-in-Spoiled : goal.returns-in-Spoiled
returns-in-Spoiled c =
    sym (c.loop-index.invariant.so_far ∙ met_next c.args.quote c.args.text.now c.loop-index.index (literal.spoiled c.in-Spoiled.cause) c.loop-index-test.true (sym c.met_at.ensures ∙ ap met_by c.in-Spoiled.is))

pub loop-index-preserved : goal.loop-index-preserved
loop-index-preserved c = record {
  from = let f = c.loop-index.invariant.from in omega arith;
  within = let t = c.loop-index-test.true in omega arith;
  escaped = c.next_escaped-escaped.ensures ∙ ap (λ e. is_backslash (get_or c.args.text.now c.loop-index.index 0) && not e) c.loop-index.invariant.escaped ∙ sym (escaped-next c.args.text.now c.loop-index.index c.loop-index-test.true);
  so_far = c.loop-index.invariant.so_far ∙ met_next c.args.quote c.args.text.now c.loop-index.index literal.inside c.loop-index-test.true (sym c.met_at.ensures ∙ ap met_by c.in-Inside.is);
}

pub returns : goal.returns
returns c = sym (c.loop-index.invariant.so_far ∙ met_end c.args.quote c.args.text.now c.loop-index.index c.loop-index-test.false)
