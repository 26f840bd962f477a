-- A declarator that was read is spelled.
use Rattle.std.proofs.Common.{◌≡◌, inl, inr, refl, subst, ap, sym, ◌∙◌, ℕ, zero, suc, Bool, true, false, List, [], ◌∷◌}
use Rattle.c_tokens.specs.declared.token.Punct.TheVariants as punct
use Rattle.c_tokens.specs.declared.token.Shape.{Shape}
use Rattle.c_tokens.specs.declared.class.Class.TheVariants as class
use Rattle.c_tokens.specs.ClassNumbers.{class_number}
use Rattle.c_forms.specs.declared.pieces.Sort.{Sort}
use Rattle.c_forms.specs.declared.pieces.Sort.TheVariants as s
use Rattle.c_forms.specs.declared.pieces.Piece.{Piece}
use Rattle.c_forms.specs.declared.pieces.Piece.TheVariants.{Token, Maybe, Own, One, Group, Then}
use Rattle.c_forms.specs.declared.forms.Form.{Form}
use Rattle.c_forms.specs.declared.forms.Form.TheVariants as form
use Rattle.c_forms.specs.declared.forms.DeclaratorForm.TheVariants as declarator
use Rattle.c_forms.specs.Forests.{Plain}
use Rattle.c_forms.specs.Measures.{pieces}
use Rattle.c_forms.specs.Sets.{has}
use Rattle.c_reader.specs.States.{State}
use Rattle.c_reader.specs.Tokens.{Spot, class_at}
use Rattle.c_reader.proofs.Sets.{not_true}
use Rattle.c_syntax.specs.Reading.{Before, Usual, before_by, is_absent, is_absent_form, inside, is_starred}
use Rattle.c_syntax.specs.Grammar.{after_first, left_level, may_follow}
use Rattle.c_syntax.specs.Spells.{Spelling, Is, may_be, Matches, parts_spelled, nameless_starts}
use Rattle.c_syntax.proofs.Told.{lower, In, in_spelled}
use Rattle.c_syntax.proofs.Nodes.{IsForm, node_of, as_node, in_at}
use Rattle.c_syntax.proofs.Rows.{declarator_tails, abstract_tails, param_tails, member_tails, begins_one}
use Rattle.c_syntax.proofs.Climbs.{Leveled}

declarator_first : (ps : List Piece) → begins_one s.Declarator ps ≡ true → ps ≡ One s.InnerDeclarator (left_level ps) ∷ after_first ps
declarator_first (One s.InnerDeclarator least ∷ ps) e = refl
declarator_first _ e = absurd (cc e)

abstract_first : (ps : List Piece) → begins_one s.AbstractDeclarator ps ≡ true → ps ≡ One s.InnerDeclarator (left_level ps) ∷ after_first ps
abstract_first (One s.InnerDeclarator least ∷ ps) e = refl
abstract_first _ e = absurd (cc e)

param_first : (ps : List Piece) → begins_one s.ParamDeclarator ps ≡ true → ps ≡ One s.InnerDeclarator (left_level ps) ∷ after_first ps
param_first (One s.InnerDeclarator least ∷ ps) e = refl
param_first _ e = absurd (cc e)

member_first : (ps : List Piece) → begins_one s.MemberName ps ≡ true → ps ≡ One s.InnerDeclarator (left_level ps) ∷ after_first ps
member_first (One s.InnerDeclarator least ∷ ps) e = refl
member_first _ e = absurd (cc e)

pub declarator_leveled : Leveled s.Declarator
declarator_leveled = record {
  tails = declarator_tails;
  first = declarator_first;
  same = refl;
  go = λ st t f e. tt;
  wrapped = λ w l f n k t i j go may le F. inl (node_of w s.Declarator l f n k t i j may le F);
  node = λ levels deeper inner w l t i j N. inl N;
  wraps = λ levels deeper inner w l t i j W. inr W;
  wrapped_wraps = λ levels deeper inner w l t i j go W. inr W;
}

pub abstract_leveled : Leveled s.AbstractDeclarator
abstract_leveled = record {
  tails = abstract_tails;
  first = abstract_first;
  same = refl;
  go = λ st t f e. tt;
  wrapped = λ w l f n k t i j go may le F. inl (node_of w s.AbstractDeclarator l f n k t i j may le F);
  node = λ levels deeper inner w l t i j N. inl N;
  wraps = λ levels deeper inner w l t i j W. inr W;
  wrapped_wraps = λ levels deeper inner w l t i j go W. inr W;
}

pub param_leveled : Leveled s.ParamDeclarator
param_leveled = record {
  tails = param_tails;
  first = param_first;
  same = refl;
  go = λ st t f e. tt;
  wrapped = λ w l f n k t i j go may le F. inl (node_of w s.ParamDeclarator l f n k t i j may le F);
  node = λ levels deeper inner w l t i j N. inl N;
  wraps = λ levels deeper inner w l t i j W. inr W;
  wrapped_wraps = λ levels deeper inner w l t i j go W. inr W;
}

-- ---- a member's declarator that is there is a declarator

member_sort : (due : Sort) → inside s.MemberName due ≡ inside s.Declarator due
member_sort s.InnerDeclarator = refl
member_sort _ = refl

member_matches : (P : Spelling) (w : List Shape) (f : Form) (b : Before) (ps : List Piece) (ts : List Plain) (i j : Spot) → Matches P w s.MemberName f b ps ts i j → Matches P w s.Declarator f b ps ts i j
member_matches P w f b [] ts i j M = M
member_matches P w f b (Token x ∷ ps) ts i j M = (M.0, member_matches P w f Usual ps ts _ j M.1)
member_matches P w f b (Maybe x ∷ ps) ts i j (inl M) = inl (M.0, member_matches P w f Usual ps ts _ j M.1)
member_matches P w f b (Maybe x ∷ ps) ts i j (inr M) = inr (member_matches P w f Usual ps ts i j M)
member_matches P w f b (Own ∷ ps) ts i j M = (M.0, member_matches P w f Usual ps ts _ j M.1)
member_matches P w f b (One due least ∷ ps) ts i j M = record {
  first = M.first;
  others = M.others;
  place = M.place;
  value = M.value;
  is_first = subst (λ q. P q least M.first i M.place) (member_sort due) M.is_first;
  are_others = member_matches P w f (before_by (is_absent M.first)) ps M.others M.place j M.are_others;
}
member_matches P w f b (Group r due least ∷ ps) ts i j M = record {
  first = M.first;
  others = M.others;
  place = M.place;
  value = M.value;
  is_first = M.is_first;
  are_others = member_matches P w f _ ps M.others M.place j M.are_others;
}
member_matches P w f b (Then x ∷ ps) ts i j M = (M.0, member_matches P w f b ps ts _ j M.1)
member_matches P w f b (_ ∷ ps) ts i j M = absurd M

member_may : (f : Form) → is_absent_form f ≡ false → may_be s.MemberName f ≡ true → may_be s.Declarator f ≡ true
member_may (form.Declarator declarator.Absent) e m = absurd (cc e)
member_may (form.Declarator declarator.Named) e m = m
member_may (form.Declarator declarator.Pointer) e m = m
member_may (form.Declarator declarator.ArrayOf) e m = m
member_may (form.Declarator declarator.FunctionOf) e m = m
member_may _ e m = m

member_go : (st : State) (t : Plain) (f : Form) → may_follow s.MemberName st t f ≡ true → is_absent t ≡ false
member_go st t f e = not_true (is_absent t) e

form_absent : (w : List Shape) (f : Form) (n k : ℕ) (t : Plain) (i j : Spot) → is_absent t ≡ false → IsForm w s.MemberName f n k t i j → is_absent_form f ≡ false
form_absent w f n k t i j e F = ap is_absent (sym F.value) ∙ e

pub member_leveled : Leveled s.MemberName
member_leveled = record {
  tails = member_tails;
  first = member_first;
  same = refl;
  go = member_go;
  wrapped = λ w l f n k t i j go may le F. inl (as_node w s.MemberName s.Declarator l f n k t i j (λ ts M. member_matches (parts_spelled (is_starred f) (lower n w) (In k n w)) w f Usual (pieces f) ts i j M) (member_may f (form_absent w f n k t i j go F) may) le F);
  node = λ levels deeper inner w l t i j N. inl N;
  wraps = λ levels deeper inner w l t i j W. inr W;
  wrapped_wraps = λ levels deeper inner w l t i j go W. inr (record { last = W.last; left = W.left; opens = W.opens; begins = tt; within = W.within; is_there = W.is_there; closes = W.closes; ends = W.ends });
}

-- ---- in parentheses something is declared

declarator_there : (f : Form) → may_be s.Declarator f ≡ true → is_absent_form f ≡ false
declarator_there (form.Declarator declarator.Absent) e = absurd (cc e)
declarator_there (form.Declarator _) e = refl
declarator_there _ e = refl

pub there : (n : ℕ) (w : List Shape) (t : Plain) (i j : Spot) → lower n w s.Declarator 1 t i j → is_absent t ≡ false
there zero w t i j P = absurd P
there (suc n) w t i j P = elim (in_at 8 n w s.Declarator 1 t i j (in_spelled n w s.Declarator 1 t i j P)) [
  | inl N ↦ declarator_there t.form N.may
  | inr W ↦ W.is_there
]

-- an absent declarator has no token
absent_empty : (P : Spelling) (w : List Shape) (own : Sort) (f : Form) (ts : List Plain) (i j : Spot) → is_absent_form f ≡ true → Matches P w own f Usual (pieces f) ts i j → i ≡ j
absent_empty P w own (form.Declarator declarator.Absent) ts i j e M = M.1
absent_empty P w own (form.Declarator declarator.Named) ts i j e M = absurd (cc e)
absent_empty P w own (form.Declarator declarator.Pointer) ts i j e M = absurd (cc e)
absent_empty P w own (form.Declarator declarator.ArrayOf) ts i j e M = absurd (cc e)
absent_empty P w own (form.Declarator declarator.FunctionOf) ts i j e M = absurd (cc e)
absent_empty P w own _ ts i j e M = absurd (cc e)

no_paren : (c : ℕ) → has nameless_starts c ≡ true → c ≡ class_number (class.Punct punct.RightParen) → ⊥
no_paren c h e = let z : false ≡ true = ap (has nameless_starts) (sym e) ∙ h in cc z

node_there : (P : Spelling) (w : List Shape) (own : Sort) (t : Plain) (ts : List Plain) (b : Bool) (i j : Spot) → is_absent t ≡ b → Matches P w own t.form Usual (pieces t.form) ts i j
    → has nameless_starts (class_at w i) ≡ true → Is w (class.Punct punct.RightParen) j → is_absent t ≡ false
node_there P w own t ts true i j e M begins closes = absurd (no_paren (class_at w j) (subst (λ i. has nameless_starts (class_at w i) ≡ true) (absent_empty P w own t.form ts i j e M) begins) closes)
node_there P w own t ts false i j e M begins closes = e

pub abstract_there : (n : ℕ) (w : List Shape) (t : Plain) (i j : Spot) → lower n w s.AbstractDeclarator 1 t i j → has nameless_starts (class_at w i) ≡ true → Is w (class.Punct punct.RightParen) j → is_absent t ≡ false
abstract_there zero w t i j P begins closes = absurd P
abstract_there (suc n) w t i j P begins closes = elim (in_at 8 n w s.AbstractDeclarator 1 t i j (in_spelled n w s.AbstractDeclarator 1 t i j P)) [
  | inl N ↦ node_there (parts_spelled (is_starred t.form) (lower n w) (In 8 n w)) w s.AbstractDeclarator t N.parts (is_absent t) i j refl N.matches begins closes
  | inr W ↦ W.is_there
]

pub param_there : (n : ℕ) (w : List Shape) (t : Plain) (i j : Spot) → lower n w s.ParamDeclarator 1 t i j → has nameless_starts (class_at w i) ≡ true → Is w (class.Punct punct.RightParen) j → is_absent t ≡ false
param_there zero w t i j P begins closes = absurd P
param_there (suc n) w t i j P begins closes = elim (in_at 8 n w s.ParamDeclarator 1 t i j (in_spelled n w s.ParamDeclarator 1 t i j P)) [
  | inl N ↦ node_there (parts_spelled (is_starred t.form) (lower n w) (In 8 n w)) w s.ParamDeclarator t N.parts (is_absent t) i j refl N.matches begins closes
  | inr W ↦ W.is_there
]
