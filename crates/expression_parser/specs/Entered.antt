-- After an opening parenthesis.
use Rattle.std.specs.Prelude.{ℕ, Bool, true, false}
use Rattle.c_tokens.specs.declared.token.Punct.TheVariants as punct
use Rattle.c_forms.specs.declared.forms.ExpForm.TheVariants as exp
use Rattle.c_forms.specs.declared.forms.Form.TheVariants as form
use Rattle.c_forms.specs.Measures.{pieces}
use Rattle.c_forms.specs.declared.pieces.Event.TheVariants as event
use Rattle.c_forms.specs.declared.pieces.Sort.TheVariants as sort
use Rattle.c_reader.specs.States.{happens}
use Rattle.c_reader.specs.Readers.{Input, Reader, Look, choose, here, next, change}
use Rattle.c_syntax.specs.Grammar.{Standing, after_first, after_paren, begins, is_sign, parenthesized, sized_opened, standing, tight, type_or}
use Rattle.c_syntax.specs.Reading.{called, completed, nothing}

-- the token after it, where what the declaration has so far is put aside
abbrev pub set_aside : Input → Input
set_aside i = change (happens event.Aside) (next i)

-- whether a type name begins there
abbrev pub is_type_next : Input → Bool
is_type_next i = begins sort.TypeName (here (set_aside i))

-- where reading goes on
abbrev pub beyond : Bool → Input → Input
beyond true i = set_aside i
beyond false i = change (happens event.Resume) (set_aside i)

-- what begins with a parenthesis
abbrev pub cast_or_parentheses : ℕ → ℕ → Reader Standing
cast_or_parentheses least i = type_or (tight least (form.Exp exp.Cast) (completed called sort.Exp (form.Exp exp.Cast) i nothing (after_paren (pieces (form.Exp exp.Cast)))))
    (standing 17 (parenthesized sort.Exp))

-- what follows `sizeof`
abbrev pub after_sizeof : ℕ → ℕ → Reader Standing
after_sizeof least i = Look (λ x. choose (is_sign punct.LeftParen x)
    (type_or (tight least (form.Exp exp.SizeofType) (completed called sort.Exp (form.Exp exp.SizeofType) i nothing (after_paren (pieces (form.Exp exp.SizeofType)))))
    (tight least (form.Exp exp.SizeofExp) (sized_opened i)))
    (tight least (form.Exp exp.SizeofExp) (completed called sort.Exp (form.Exp exp.SizeofExp) i nothing (after_first (pieces (form.Exp exp.SizeofExp))))))
