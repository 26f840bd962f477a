use Rattle.std.proofs.Common.{◌<◌, ◌-◌, ap, sym, ◌∙◌, rules, arith, length, get_or, nat_eq}
use Rattle.c_tokens.specs.Literals as literal
use Rattle.c_tokens.specs.Spelling as spelled
use Rattle.c_tokens.proofs.Opened.{contents-start}
use Rattle.c_lexer.specs.Meanings.{ending_by}
use Rattle.c_lexer.proofs.Found.{contents_within, contents_free, literal_found, literal_spoiled, ends_by, closed_here, decided}
use Rattle.c_lexer.proofs.literals.literal.Goals as goal

pub overflow_sub-quote : goal.overflow_sub-quote
overflow_sub-quote c = omega (arith, c.contents_start-start.ensures, contents-start c.args.text.now)

pub bounds-text-start : goal.bounds-text-start
bounds-text-start c = omega (arith, c.contents_start-start.ensures, contents-start c.args.text.now, contents_within c.args.text.now c.requires)

pub literal_end-requires-clause-within : goal.literal_end-requires-clause-within
literal_end-requires-clause-within c = omega (arith, c.contents_start-start.ensures, contents_within c.args.text.now c.requires)

pub literal_end-requires-clause-free : goal.literal_end-requires-clause-free
literal_end-requires-clause-free c = ap (literal.is_escaped c.args.text.now) c.contents_start-start.ensures ∙ contents_free c.args.text.now c.requires

pub overflow_add-result : goal.overflow_add-result
overflow_add-result c =
    let closes = closed_here c.args.text.now c.in-Closed.place c.requires (ends_by c.args.text.now c.contents_start-start.result c.contents_start-start.ensures ∙ sym c.literal_end.ensures ∙ ap ending_by c.in-Closed.is) in
    let w : c.in-Closed.place < length c.args.text.now = closes.within in
    search rules

pub returns-in-Closed : goal.returns-in-Closed
returns-in-Closed c d =
    literal_found d c.args.text.now c.in-Closed.place c.closed.result (closed_here c.args.text.now c.in-Closed.place c.requires (ends_by c.args.text.now c.contents_start-start.result c.contents_start-start.ensures ∙ sym c.literal_end.ensures ∙ ap ending_by c.in-Closed.is))
    (c.closed.ensures ∙ ap (λ s. spelled.closed_spelling (get_or c.args.text.now (s - 1) 0) (nat_eq c.in-Closed.place s)) c.contents_start-start.ensures ∙ decided c.args.text.now c.in-Closed.place)

pub returns-in-Spoiled : goal.returns-in-Spoiled
returns-in-Spoiled c d =
    literal_spoiled d c.args.text.now c.in-Spoiled.place c.in-Spoiled.cause c.spoiled.result (omega (arith, contents-start c.args.text.now, contents_within c.args.text.now c.requires)) c.requires (ends_by c.args.text.now c.contents_start-start.result c.contents_start-start.ensures ∙ sym c.literal_end.ensures ∙ ap ending_by c.in-Spoiled.is) c.spoiled.ensures
