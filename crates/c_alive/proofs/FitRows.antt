-- Which rows without groups can be completed piece by piece, computed form by form.
use Rattle.std.proofs.Common.{◌≡◌, refl, ℕ, nat_eq, nat_lt, not, Bool, true, false, Option, Some, None}
use Rattle.c_tokens.specs.declared.token.Punct.{Punct}
use Rattle.c_tokens.specs.declared.token.Punct.TheVariants as punct
use Rattle.c_tokens.specs.declared.class.Class.TheVariants as class
use Rattle.c_tokens.specs.ClassNumbers.{class_number}
use Rattle.c_forms.specs.declared.pieces.Sort.{Sort}
use Rattle.c_forms.specs.declared.pieces.Sort.TheVariants as s
use Rattle.c_forms.specs.declared.forms.Form.{Form}
use Rattle.c_forms.specs.declared.forms.Form.TheVariants as form
use Rattle.c_forms.specs.declared.forms.ExpForm.TheVariants as exp
use Rattle.c_forms.specs.Measures.{level, pieces}
use Rattle.c_forms.specs.Sets.{goes_on}
use Rattle.c_forms.specs.Tokens.{continued}
use Rattle.c_syntax.specs.Grammar.{after_first, after_paren}
use Rattle.c_alive.proofs.Rows.{fit_from, begins_with}

-- the levels of expressions and declarators that are read
abbrev pub is_reached : Sort → ℕ → Bool
is_reached s.Exp least = not (nat_lt 15 least)
is_reached s.Declarator least = nat_eq least 1
is_reached s.AbstractDeclarator least = nat_eq least 1
is_reached s.ParamDeclarator least = nat_eq least 1
is_reached s.MemberName least = nat_eq least 1
is_reached _ least = true

-- the sorts of the operands of expressions
abbrev pub operand : Sort → ℕ → Bool
operand s.Exp least = not (nat_lt 15 least)
operand s.Id least = true
operand s.TypeName least = true
operand _ least = false

-- and which of them are completed by their phrase
abbrev pub operand_ends : Sort → ℕ → Bool
operand_ends s.Exp least = not (nat_lt 15 least)
operand_ends s.Id least = true
operand_ends _ least = false

-- what goes on with an expression
abbrev pub tail_fits : Option Form → Bool
tail_fits (Some f) = fit_from operand operand_ends s.Exp false (after_first (pieces f)) (goes_on s.Exp (level f))
tail_fits None = true

pub exp_tail_fits : (p : Punct) → tail_fits (continued s.Exp p) ≡ true
exp_tail_fits punct.LeftBracket = refl
exp_tail_fits _ = refl

-- it begins with the punctuator that decides for it
abbrev pub tail_begins : Punct → Option Form → Bool
tail_begins p (Some f) = begins_with f (after_first (pieces f)) (class_number (class.Punct p))
tail_begins p None = true

pub exp_tail_begins : (p : Punct) → tail_begins p (continued s.Exp p) ≡ true
exp_tail_begins punct.LeftBracket = refl
exp_tail_begins _ = refl

-- what begins an expression
pub cast_fits : fit_from operand operand_ends s.Exp true (after_paren (pieces (form.Exp exp.Cast))) (goes_on s.Exp 14) ≡ true
cast_fits = refl

pub sizeof_type_fits : fit_from operand operand_ends s.Exp true (after_paren (pieces (form.Exp exp.SizeofType))) (goes_on s.Exp 15) ≡ true
sizeof_type_fits = refl
