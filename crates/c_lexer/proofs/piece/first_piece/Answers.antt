use Rattle.std.proofs.Common.{◌∙◌, sym}
use Rattle.c_lexer.proofs.Found.{opens_nothing, letter_starts, white_starts, space_found, after_at_found, after_backquote_found, some_after_backquote, sign_left}
use Rattle.c_lexer.proofs.piece.first_piece.Goals as goal

pub returns-then-is_literal : goal.returns-then-is_literal
returns-then-is_literal c = c.literal.ensures c.args.dialect

pub returns-then-is_comment : goal.returns-then-is_comment
returns-then-is_comment c = c.comment.ensures c.args.dialect

pub word-requires : goal.word-requires
word-requires c = letter_starts c.args.text.now c.requires (sym c.is_letter.ensures ∙ c.if-is_letter.true)

pub returns-then-is_letter : goal.returns-then-is_letter
returns-then-is_letter c = c.word.ensures c.args.dialect (opens_nothing c.args.dialect c.args.text.now (sym c.is_literal.ensures ∙ c.if-is_literal.false) (sym c.is_comment.ensures ∙ c.if-is_comment.false) (sym c.is_directive.ensures ∙ c.if-is_directive.false))

pub returns-then-is_white_space : goal.returns-then-is_white_space
returns-then-is_white_space c = space_found c.args.dialect c.args.text.now (white_starts c.args.text.now c.requires (sym c.is_white_space.ensures ∙ c.if-is_white_space.true)) (opens_nothing c.args.dialect c.args.text.now (sym c.is_literal.ensures ∙ c.if-is_literal.false) (sym c.is_comment.ensures ∙ c.if-is_comment.false) (sym c.is_directive.ensures ∙ c.if-is_directive.false))

pub returns-then-is_number : goal.returns-then-is_number
returns-then-is_number c = c.number.ensures c.args.dialect (opens_nothing c.args.dialect c.args.text.now (sym c.is_literal.ensures ∙ c.if-is_literal.false) (sym c.is_comment.ensures ∙ c.if-is_comment.false) (sym c.is_directive.ensures ∙ c.if-is_directive.false))

pub returns-then-is_after_at : goal.returns-then-is_after_at
returns-then-is_after_at c = after_at_found c.args.dialect c.args.text.now c.marked_word.result (sym c.is_after_at.ensures ∙ c.if-is_after_at.true) c.marked_word.ensures.length c.marked_word.ensures.meaning

pub marked_word-requires-then-is_after_backquote :
    goal.marked_word-requires-then-is_after_backquote
marked_word-requires-then-is_after_backquote c = some_after_backquote c.args.text.now (sym c.is_after_backquote.ensures ∙ c.if-is_after_backquote.true)

pub returns-then-is_after_backquote : goal.returns-then-is_after_backquote
returns-then-is_after_backquote c =
    after_backquote_found c.args.dialect c.args.text.now c.marked_word-then-is_after_backquote.result (sym c.is_after_backquote.ensures ∙ c.if-is_after_backquote.true) c.marked_word-then-is_after_backquote.ensures.length c.marked_word-then-is_after_backquote.ensures.meaning

pub sign-requires-clause-sign : goal.sign-requires-clause-sign
sign-requires-clause-sign c =
    sign_left c.args.text.now c.requires (sym c.is_letter.ensures ∙ c.if-is_letter.false) (sym c.is_white_space.ensures ∙ c.if-is_white_space.false) (sym c.is_number.ensures ∙ c.if-is_number.false)
    (sym c.is_after_at.ensures ∙ c.if-is_after_at.false) (sym c.is_after_backquote.ensures ∙ c.if-is_after_backquote.false)

pub sign-requires-clause-opens : goal.sign-requires-clause-opens
sign-requires-clause-opens c = opens_nothing c.args.dialect c.args.text.now (sym c.is_literal.ensures ∙ c.if-is_literal.false) (sym c.is_comment.ensures ∙ c.if-is_comment.false) (sym c.is_directive.ensures ∙ c.if-is_directive.false)
