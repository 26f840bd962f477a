-- What is spelled in plain C90 leaves each scope that it enters.
use Rattle.std.proofs.Common.{◌≡◌, inl, inr, refl, ap, sym, ◌∙◌, subst, ℕ, zero, suc, Bool, true, false, List}
use Rattle.c_tokens.specs.declared.token.Shape.{Shape}
use Rattle.c_forms.specs.declared.pieces.Sort.{Sort}
use Rattle.c_forms.specs.declared.pieces.Sort.TheVariants as s
use Rattle.c_forms.specs.declared.forms.Form.{Form}
use Rattle.c_forms.specs.declared.forms.Form.TheVariants as form
use Rattle.c_forms.specs.declared.forms.ItemForm.TheVariants as item
use Rattle.c_forms.specs.declared.forms.DeclaratorForm.{DeclaratorForm}
use Rattle.c_forms.specs.declared.forms.DeclaratorForm.TheVariants as declarator
use Rattle.c_forms.specs.Forests.{Plain}
use Rattle.c_forms.specs.Measures.{pieces}
use Rattle.c_reader.specs.States.{State, AsValue, parameters}
use Rattle.c_reader.specs.Tokens.{Spot, step}
use Rattle.c_syntax.specs.Allowed.{places}
use Rattle.c_syntax.specs.Reading.{Usual, is_starred}
use Rattle.c_syntax.specs.Spells.{Spelling, Matches, IsNode, At, InPlace, Spells, nothing_spelled, may_be, parts_spelled, after_name, started_by, has_no_specifiers}
use Rattle.spelled_trees.specs.Effects.{is_plain_sort}
use Rattle.spelled_trees.specs.Scoped.{are_words, Grown, Scoped, Parametered}
use Rattle.spelled_trees.proofs.Suits.{is_declarator}
use Rattle.spelled_trees.proofs.Rows.{Right, right}
use Rattle.spelled_trees.proofs.Declarators.{pointer, array, function}
use Rattle.spelled_trees.proofs.Valid.{Telling, Spelled, parts_tell}
use Rattle.spelled_trees.proofs.Trees.{nothing_telling, telling_in_place, telling}
use Rattle.spelled_trees.proofs.Scopes.{grown_none, grown_declared, Outside, Scopes, row_in, function_in}

abbrev ScopedAt : Sort → Spot → Spot → Type 0
ScopedAt own i j = Scoped own i.state j.state × Parametered own j.state.kept

by_kind : (b : Bool) (deeper inner : Spelling) → Scopes deeper → Scopes inner → Scopes (parts_spelled b deeper inner)
by_kind true deeper inner D I = D
by_kind false deeper inner D I = I

module _ (w : List Shape) (P : Spelling) (T : Telling w P) (C : Scopes P) where
  -- a row, from where it begins
  row_out : (own : Sort) (f : Form) (ts : List Plain) (i j : Spot) → Right own f → Outside i.state.entries i.state.is_late i.state → Matches P w own f Usual (pieces f) ts i j → Outside i.state.entries i.state.is_late j.state
  row_out own (form.Item item.Function) ts i j R O M = function_in w P C own Usual i.state.entries i.state.is_late ts i j O M
  row_out own f ts i j R O M = row_in w P C own f Usual (pieces f) false i.state.entries i.state.is_late ts i j R.scoped O M

  -- the words next to a declarator's name
  parametered : (g : DeclaratorForm) (ts : List Plain) (i j : Spot) → may_be s.Declarator (form.Declarator g) ≡ true → Matches P w s.Declarator (form.Declarator g) Usual (pieces (form.Declarator g)) ts i j → are_words (parameters j.state.kept.near) ≡ true
  parametered declarator.Named ts i j m M = ap (λ n. are_words (parameters n)) (sym (ap (λ (x : Spot). x.state.kept.near) M.are_others.1) ∙ (T.tells s.DeclaredId 0 M.first i M.place M.is_first refl tt).besides)
  parametered declarator.Absent ts i j m M = absurd (cc m)
  parametered declarator.Pointer ts i j m M = let W = (pointer w P T.tells T.stand s.Declarator Usual ts i j M).within in W.words (C s.Declarator W.least W.part W.from W.upto W.spelled refl).1
  parametered declarator.ArrayOf ts i j m M = let W = (array w P T.tells T.stand s.Declarator Usual ts i j M).within in W.words (C s.Declarator W.least W.part W.from W.upto W.spelled refl).1
  parametered declarator.FunctionOf ts i j m M = let W = (function w P T.tells T.stand s.Declarator refl Usual ts i j M).within in W.words (C s.Declarator W.least W.part W.from W.upto W.spelled refl).1

  as_parametered : (f : Form) (ts : List Plain) (i j : Spot) → is_declarator f ≡ true → may_be s.Declarator f ≡ true → Matches P w s.Declarator f Usual (pieces f) ts i j → are_words (parameters j.state.kept.near) ≡ true
  as_parametered (form.Declarator g) ts i j h m M = parametered g ts i j m M
  as_parametered f ts i j h m M = absurd (cc h)

same_started : (b : Bool) (i : Spot) (new : State) → Scoped s.Item (started_by b i).state new → Scoped s.Item i.state new
same_started true i new S = record { entries = S.entries; late = S.late }
same_started false i new S = S

module _ (levels : Type 0) (deeper inner : Spelling) (w : List Shape) (D : Telling w deeper) (I : Telling w inner) (DC : Scopes deeper) (IC : Scopes inner) where
  scoped_node : (own : Sort) (least : ℕ) (t : Plain) (i j : Spot) → IsNode levels deeper inner w own least t i j → is_plain_sort own ≡ true → Scoped own i.state j.state
  scoped_node own least t i j N p = let O = row_out w (Spelled levels deeper inner w D I t) (parts_tell levels deeper inner w D I t) (by_kind (is_starred t.form) deeper inner DC IC) own t.form N.parts i j (right own t.form p N.may)
      (record { entries = grown_none i.state.entries; same = refl }) N.matches in record { entries = O.entries; late = λ h. O.same }

  -- a word that is noted
  noted_word : (own : Sort) (i j : Spot) → j.state.entries ≡ i.state.entries → j.state.is_late ≡ i.state.is_late → Scoped own i.state j.state
  noted_word own i j e l = record { entries = subst (λ x. Grown i.state.entries x) (sym e) (grown_none i.state.entries); late = λ h. l }

  scoped_at : Scopes (At levels deeper inner w)
  scoped_at s.Exp least t i j (inl N) p = (scoped_node s.Exp least t i j N p, tt)
  scoped_at s.Exp least t i j (inr W) p = let R = DC s.Exp 1 t (step i) W.last W.within refl in subst (λ k. ScopedAt s.Exp i k) W.ends R
  scoped_at s.Declarator least t i j (inl N) p = (scoped_node s.Declarator least t i j N p, as_parametered w (Spelled levels deeper inner w D I t) (parts_tell levels deeper inner w D I t) (by_kind (is_starred t.form) deeper inner DC IC) t.form N.parts i j (right s.Declarator t.form refl N.may).suits N.may N.matches)
  scoped_at s.Declarator least t i j (inr W) p = let R = DC s.Declarator 1 t (step i) W.last W.within refl in subst (λ k. ScopedAt s.Declarator i k) W.ends R
  scoped_at s.AbstractDeclarator least t i j (inl N) p = (scoped_node s.AbstractDeclarator least t i j N p, tt)
  scoped_at s.AbstractDeclarator least t i j (inr W) p = let R = DC s.AbstractDeclarator 1 t (step i) W.last W.within refl in subst (λ k. ScopedAt s.AbstractDeclarator i k) W.ends R
  scoped_at s.ParamDeclarator least t i j (inl N) p = (scoped_node s.ParamDeclarator least t i j N p, tt)
  scoped_at s.ParamDeclarator least t i j (inr W) p = let R = DC s.ParamDeclarator 1 t (step i) W.last W.within refl in subst (λ k. ScopedAt s.ParamDeclarator i k) W.ends R
  scoped_at s.MemberName least t i j (inl N) p = (scoped_node s.MemberName least t i j N p, tt)
  scoped_at s.MemberName least t i j (inr W) p = let R = DC s.Declarator 1 t (step i) W.last W.within refl in subst (λ k. ScopedAt s.MemberName i k) W.ends (record { entries = R.0.entries; late = R.0.late }, tt)
  scoped_at s.Id least t i j A p = subst (λ k. ScopedAt s.Id i k) A.1 (noted_word s.Id i (step i) refl refl, tt)
  scoped_at s.DeclaredId least t i j A p = subst (λ k. ScopedAt s.DeclaredId i k) A.1 (noted_word s.DeclaredId i (after_name w i) refl refl, tt)
  scoped_at s.ParameterId least t i j A p = subst (λ k. ScopedAt s.ParameterId i k) A.1 (record { entries = grown_declared AsValue (λ n. refl) (after_name w i).state.kept.name i.state.entries; late = λ h. refl }, tt)
  scoped_at s.EnumeratorId least t i j A p = subst (λ k. ScopedAt s.EnumeratorId i k) A.1 (noted_word s.EnumeratorId i (after_name w i) refl refl, tt)
  scoped_at s.Literal least t i j A p = subst (λ k. ScopedAt s.Literal i k) A.1 (noted_word s.Literal i (step i) refl refl, tt)
  scoped_at s.Spec least t i j A p = (scoped_node s.Spec least t i j A.1 p, tt)
  scoped_at s.PlainSpec least t i j A p = (scoped_node s.PlainSpec least t i j A.1 p, tt)
  scoped_at s.Params least t i j A p = (scoped_node s.Params least t i j A.1 p, tt)
  scoped_at s.BlockItem least t i j (inl A) p = let R = scoped_node s.Decl least t i j A.1 refl in (record { entries = R.entries; late = λ h. absurd (cc h) }, tt)
  scoped_at s.BlockItem least t i j (inr A) p = let R = scoped_node s.Stmt least t i A.0 A.1.0 refl in subst (λ k. ScopedAt s.BlockItem i k) A.1.1
      (record { entries = R.entries; late = λ h. absurd (cc h) }, tt)
  scoped_at s.Item least t i j A p = (same_started (has_no_specifiers t) i j.state (scoped_node s.Item least t (started_by (has_no_specifiers t) i) j A refl), tt)
  scoped_at due least t i j A p = (scoped_node due least t i j A p, tt)

pub scoped_in_place : (n : ℕ) (levels : Type 0) (deeper : Spelling) (w : List Shape) → Telling w deeper → Scopes deeper → Scopes (InPlace n levels deeper w)
unfolding InPlace
scoped_in_place zero levels deeper w D C due least t i j P = absurd P
scoped_in_place (suc n) levels deeper w D C due least t i j P = scoped_at levels deeper (InPlace n levels deeper w) w D (telling_in_place n levels deeper w D) C (scoped_in_place n levels deeper w D C) due least t i j P

-- What is spelled declares words in the scope where it begins, and leaves each other that it enters.
pub spelled_scoped : (d : ℕ) (w : List Shape) (due : Sort) (least : ℕ) (t : Plain) (i j : Spot) → Spells d w due least t i j → is_plain_sort due ≡ true → Scoped due i.state j.state × Parametered due j.state.kept
unfolding Spells
spelled_scoped zero w = scoped_in_place places ⊥ nothing_spelled w (nothing_telling w) (λ due least t i j P. absurd P)
spelled_scoped (suc d) w = scoped_in_place places (Unit {0}) (Spells d w) w (telling d w) (spelled_scoped d w)
