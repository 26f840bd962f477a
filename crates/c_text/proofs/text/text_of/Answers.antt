use Rattle.std.proofs.Common.{◌+◌, ◌<◌, ◌++◌, length, ap, ◌∙◌, subst, rules, arith}
use Rattle.c_text.proofs.Steps.{text_steps, text_too_large, text_finished, text_end_too_large}
use Rattle.c_text.proofs.text.text_of.Goals as goal

pub loop-mark-preserved : goal.loop-mark-preserved
loop-mark-preserved c = record {
  whole = text_steps c.args.words.now c.loop-mark.last c.args.marks.now c.loop-mark.mark-index _ c.loop-mark.text.items _ _ c.loop-mark-test.true
      c.in_ok-put_mark.ensures.added c.loop-mark.invariant.whole;
  within = c.in_ok-put_mark.ensures.within;
}

pub returns-in_err-put_mark-clause-too_large : goal.returns-in_err-put_mark-clause-too_large
returns-in_err-put_mark-clause-too_large c h =
    text_too_large c.args.words.now c.loop-mark.last c.args.marks.now c.loop-mark.mark-index _ c.args.most c.loop-mark.text.items _ c.loop-mark-test.true
    (c.put_mark.ensures.too_large (search rules)) c.loop-mark.invariant.whole

pub returns-in_err-put-clause-too_large : goal.returns-in_err-put-clause-too_large
returns-in_err-put-clause-too_large c h =
    text_end_too_large c.args.words.now c.loop-mark.last c.args.marks.now c.loop-mark.mark-index c.args.most c.loop-mark.text.items _ (omega arith)
    (subst (λ u. c.args.most < length c.loop-mark.text.items + length u) c.line_end.ensures (c.put.ensures.too_large (search rules)))
    c.loop-mark.invariant.whole

pub returns-clause-text : goal.returns-clause-text
returns-clause-text c =
    text_finished c.args.words.now c.loop-mark.last c.args.marks.now c.loop-mark.mark-index c.loop-mark.text.items _ _ (omega arith)
    (c.in_ok-put.ensures.added ∙ ap (λ u. c.loop-mark.text.items ++ u) c.line_end.ensures) c.loop-mark.invariant.whole
