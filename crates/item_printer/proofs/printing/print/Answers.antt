use Rattle.std.proofs.Common.{◌≡◌, ap, sym, subst, ◌∙◌, flat_map}
use Rattle.std.proofs.lemmas.Result.{IfOk-weaker}
use Rattle.c_layout.specs.Spelled.{tokens}
use Rattle.c_text.specs.Text.{text}
use Rattle.text_tokens.specs.Written.{HasTokens}
use Rattle.text_tokens.proofs.Layouts.{items-tokens}
use Rattle.item_printer.specs.ReadAgain.{IsReadAgain}
use Rattle.item_printer.proofs.Again.{read_again}
use Rattle.item_printer.proofs.printing.print.Goals as goal

pub returns-clause-tokens : goal.returns-clause-tokens
returns-clause-tokens c h =
    IfOk-weaker c.text_of.result (λ all. all.items ≡ text c.args.words.now c.deref.result.now) (λ all. HasTokens c.args.words.now all.items (flat_map tokens c.args.items.now))
    (λ all e. subst (λ bytes. HasTokens c.args.words.now bytes (flat_map tokens c.args.items.now)) (sym (e ∙ ap (text c.args.words.now) (c.deref.ensures.value ∙ c.in_ok-marks.ensures.marks)))
    (items-tokens c.args.words.now c.args.items.now c.len-count.ensures.distinct h)) c.text_of.ensures.text

pub returns-clause-read : goal.returns-clause-read
returns-clause-read c h depth after b e =
    IfOk-weaker c.text_of.result (λ all. HasTokens c.args.words.now all.items (flat_map tokens c.args.items.now)) (λ all. IsReadAgain c.args.words.now all.items depth c.args.items.now after)
    (λ all t. read_again c.args.words.now all.items depth c.args.items.now after h b e t) (returns-clause-tokens c h)
