use Rattle.std.proofs.Common.{ap, sym, ◌∙◌}
use Rattle.c_tokens.specs.declared.token.Shape.TheVariants as shape
use Rattle.c_tokens.specs.Tokens.{shape_of}
use Rattle.c_lexer.specs.Meanings.{sort_by}
use Rattle.c_lexer.proofs.Turns.{number_some}
use Rattle.c_lexer.proofs.lexer.shape.Goals as goal

pub returns-in_ok-number-in-Word-clause-shape : goal.returns-in_ok-number-in-Word-clause-shape
returns-in_ok-number-in-Word-clause-shape c =
    ap (λ n. shape.Word (record { 0 = n })) (sym (number_some c.number.new.self c.args.text.now c.in_ok-number-in-Word.field-0.0 c.in_ok-number-in-Word.ensures.number))
    ∙ ap (λ sort. shape_of c.number.new.self c.args.text.now (sort_by sort)) (sym c.in-Word.is)

pub returns-in_ok-number-in-Int-clause-shape : goal.returns-in_ok-number-in-Int-clause-shape
returns-in_ok-number-in-Int-clause-shape c =
    ap (λ n. shape.Int (record { 0 = n })) (sym (number_some c.number-in-Int.new.self c.args.text.now c.in_ok-number-in-Int.field-0.0 c.in_ok-number-in-Int.ensures.number))
    ∙ ap (λ sort. shape_of c.number-in-Int.new.self c.args.text.now (sort_by sort)) (sym c.in-Int.is)

pub returns-in_ok-number-in-Float-clause-shape : goal.returns-in_ok-number-in-Float-clause-shape
returns-in_ok-number-in-Float-clause-shape c =
    ap (λ n. shape.Float (record { 0 = n })) (sym (number_some c.number-in-Float.new.self c.args.text.now c.in_ok-number-in-Float.field-0.0 c.in_ok-number-in-Float.ensures.number))
    ∙ ap (λ sort. shape_of c.number-in-Float.new.self c.args.text.now (sort_by sort)) (sym c.in-Float.is)

pub returns-in_ok-number-in-Char-clause-shape : goal.returns-in_ok-number-in-Char-clause-shape
returns-in_ok-number-in-Char-clause-shape c =
    ap (λ n. shape.Char (record { 0 = n })) (sym (number_some c.number-in-Char.new.self c.args.text.now c.in_ok-number-in-Char.field-0.0 c.in_ok-number-in-Char.ensures.number))
    ∙ ap (λ sort. shape_of c.number-in-Char.new.self c.args.text.now (sort_by sort)) (sym c.in-Char.is)

pub returns-in_ok-number-in-Str-clause-shape : goal.returns-in_ok-number-in-Str-clause-shape
returns-in_ok-number-in-Str-clause-shape c =
    ap (λ n. shape.Str (record { 0 = n })) (sym (number_some c.number-in-Str.new.self c.args.text.now c.in_ok-number-in-Str.field-0.0 c.in_ok-number-in-Str.ensures.number))
    ∙ ap (λ sort. shape_of c.number-in-Str.new.self c.args.text.now (sort_by sort)) (sym c.in-Str.is)
