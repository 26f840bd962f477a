-- What spells a tree begins with a class of its sort, or has no token.
use Rattle.std.proofs.Common.{◌≡◌, ◌⊎◌, inl, inr, refl, subst, ap, sym, ◌∙◌, ℕ, zero, suc, ◌+◌, ◌<◌, ◌≤◌, not, Bool, true, false, ◌&&◌, List, [], if◌then◌else◌, arith}
use Rattle.c_tokens.specs.declared.token.Punct.TheVariants as punct
use Rattle.c_tokens.specs.declared.token.Shape.{Shape}
use Rattle.c_tokens.specs.declared.class.Class.TheVariants as class
use Rattle.c_tokens.specs.ClassNumbers.{class_number}
use Rattle.c_forms.specs.declared.pieces.Sort.{Sort}
use Rattle.c_forms.specs.declared.pieces.Sort.TheVariants as s
use Rattle.c_forms.specs.declared.forms.Form.{Form}
use Rattle.c_forms.specs.Forests.{Plain}
use Rattle.c_forms.specs.Forests as forests
use Rattle.c_forms.specs.Measures.{pieces}
use Rattle.c_forms.specs.Sets.{has, within, starts, may_be_empty}
use Rattle.c_reader.specs.States.{class as class_in, is_type, word_class}
use Rattle.c_reader.specs.Tokens.{Spot, step, raw_at, class_at}
use Rattle.c_syntax.specs.Allowed.{places}
use Rattle.c_syntax.specs.Reading.{Usual, is_absent, is_starred, spanned}
use Rattle.c_syntax.specs.Spells.{Spelling, nothing_spelled, parts_spelled, IsNode, Wraps, wrapped_sort, may_be, AnyWord, At, InPlace, Spells}
use Rattle.c_reader.proofs.Sets.{both, not_true, within_has, has_left, has_right}
use Rattle.c_spelled.specs.Fitting.{is_read, is_nameless, opens, blank, is_calm, reads, begins_so, blank_fits, is_balanced}
use Rattle.c_spelled.proofs.Opens.{Begun, starts_so}
use Rattle.c_spelled.proofs.Rows.{has_row, rows}

-- all trees of a spelling begin so
abbrev pub AllBegin : List Shape → Spelling → Type 0
AllBegin w P = (due : Sort) (least : ℕ) (t : Plain) (i j : Spot) → is_read due ≡ true → P due least t i j → Begun w due t i j

pub onward : (w : List Shape) (due : Sort) (t : Plain) (i j : Spot) → Begun w due t i j → i.place ≤ j.place
onward w due t i j (inl b) = omega (arith, b.1)
onward w due t i j (inr e) = omega (arith, ap (λ (k : Spot). k.place) e.1)

pub choose_begin : (b : Bool) (w : List Shape) (deeper inner : Spelling) → AllBegin w deeper → AllBegin w inner → AllBegin w (parts_spelled b deeper inner)
choose_begin true w deeper inner D I = D
choose_begin false w deeper inner D I = I

-- a form alone
abbrev leaf : Form → Plain
leaf f = forests.node f (spanned 0 0) []

name_of : (n a : Bool) → (if n then a else not a) ≡ true → a ≡ n
name_of true a h = h
name_of false a h = not_true a h

-- the parts of what is computed of a row
pub record Row (due : Sort) (f : Form) : Type 0 where
  pub reads : reads due (pieces f) ≡ true
  pub calm : is_calm due (pieces f) ≡ true
  pub opens : within (opens due f (pieces f)) (starts due) ≡ true
  pub absent : blank due Usual (pieces f) ≡ true → (may_be_empty due ≡ true) × (is_absent (leaf f) ≡ is_nameless due)

pub row : (due : Sort) (f : Form) → begins_so due f ≡ true → Row due f
row due f h = let a = both (reads due (pieces f)) _ h in let b = both (is_calm due (pieces f)) _ a.1 in let c = both (within (opens due f (pieces f)) (starts due)) _ b.1 in
    record { reads = a.0; calm = b.0; opens = c.0; absent = λ e. let k = both (may_be_empty due) _ (subst (λ b. blank_fits due f b ≡ true) e c.1) in let l = both (is_calm due (pieces f)) _ k.1 in (k.0, name_of (is_nameless due) (is_absent (leaf f)) l.1) }

pub row_of : (due : Sort) (f : Form) → has_row due ≡ true → may_be due f ≡ true → Row due f
row_of due f h m = row due f (both (begins_so due f) _ (both (begins_so due f && is_balanced 0 (pieces f)) _ (rows due f h m)).0).0

module _ (levels : Type 0) (deeper inner : Spelling) (w : List Shape) (D : AllBegin w deeper) (I : AllBegin w inner) where
  pub node_begins : (due : Sort) (least : ℕ) (t : Plain) (i j : Spot) → has_row due ≡ true → IsNode levels deeper inner w due least t i j → Begun w due t i j
  node_begins due least t i j h N = let R = row_of due t.form h N.may in
      elim (starts_so w (parts_spelled (is_starred t.form) deeper inner) (choose_begin (is_starred t.form) w deeper inner D I) due t.form Usual (pieces t.form) N.parts i j R.reads N.matches) [
        | inl o ↦ inl (within_has (opens due t.form (pieces t.form)) (starts due) (class_at w i) R.opens (ap (λ s. has (opens due t.form (pieces t.form)) (class_in s (raw_at w i.place))) (sym (o.calm R.calm)) ∙ o.isin), o.less)
        | inr b ↦ let k = R.absent b.may in inr (k.0, b.calm R.calm, k.1)
      ]

  paren_begins : (due : Sort) → has (starts due) (class_number (class.Punct punct.LeftParen)) ≡ true → is_read (wrapped_sort due) ≡ true → (t : Plain) (i j : Spot) → Wraps levels deeper w due t i j → Begun w due t i j
  paren_begins due h r t i j W = inl (ap (has (starts due)) W.opens ∙ h, omega (arith, onward w (wrapped_sort due) t (step i) W.last (D (wrapped_sort due) 1 t (step i) W.last r W.within), ap (λ (k : Spot). k.place) W.ends))

  either_begins : (due : Sort) (least : ℕ) → has_row due ≡ true → has (starts due) (class_number (class.Punct punct.LeftParen)) ≡ true → is_read (wrapped_sort due) ≡ true → (t : Plain) (i j : Spot)
      → IsNode levels deeper inner w due least t i j ⊎ Wraps levels deeper w due t i j → Begun w due t i j
  either_begins due least r h k t i j (inl N) = node_begins due least t i j r N
  either_begins due least r h k t i j (inr W) = paren_begins due h k t i j W

  word_in : (b : Bool) → has (starts s.Id) (word_class b) ≡ true
  word_in true = refl
  word_in false = refl

  pub any_word : (t : Plain) (i : Spot) → AnyWord w t i → has (starts s.Id) (class_at w i) ≡ true
  any_word t i A = ap (λ x. has (starts s.Id) (class_in i.state x)) A.1.0 ∙ word_in (not i.state.kept.has_type && is_type i.state.entries A.0.0)

  further : (i j : Spot) → i.place + 1 ≡ j.place → i.place < j.place
  further i j e = omega (arith, e)

  pub at_begins : AllBegin w (At levels deeper inner w)
  at_begins s.Exp least t i j r A = either_begins s.Exp least refl refl refl t i j A
  at_begins s.Declarator least t i j r A = either_begins s.Declarator least refl refl refl t i j A
  at_begins s.AbstractDeclarator least t i j r A = either_begins s.AbstractDeclarator least refl refl refl t i j A
  at_begins s.ParamDeclarator least t i j r A = either_begins s.ParamDeclarator least refl refl refl t i j A
  at_begins s.MemberName least t i j r A = either_begins s.MemberName least refl refl refl t i j A
  at_begins s.Id least t i j r A = inl (any_word t i A.0, further i j (ap (λ (k : Spot). k.place) A.1))
  at_begins s.DeclaredId least t i j r A = inl (ap (has (starts s.DeclaredId)) A.0.1 ∙ refl, further i j (ap (λ (k : Spot). k.place) A.1))
  at_begins s.ParameterId least t i j r A = inl (ap (has (starts s.ParameterId)) A.0.1 ∙ refl, further i j (ap (λ (k : Spot). k.place) A.1))
  at_begins s.EnumeratorId least t i j r A = inl (any_word t i A.0, further i j (ap (λ (k : Spot). k.place) A.1))
  at_begins s.Literal least t i j r A = inl (ap (λ x. has (starts s.Literal) (class_in i.state x)) A.0.1.0 ∙ refl, further i j (ap (λ (k : Spot). k.place) A.1))
  at_begins s.Spec least t i j r A = node_begins s.Spec least t i j refl A.1
  at_begins s.PlainSpec least t i j r A = node_begins s.PlainSpec least t i j refl A.1
  at_begins s.Params least t i j r A = node_begins s.Params least t i j refl A.1
  at_begins s.BlockItem least t i j r (inl A) = elim (node_begins s.Decl least t i j refl A.1) [
    | inl b ↦ inl (has_right (starts s.Stmt) (starts s.Decl) (class_at w i) b.0, b.1)
    | inr e ↦ absurd (cc e.0)
  ]
  at_begins s.BlockItem least t i j r (inr A) = elim (node_begins s.Stmt least t i A.0 refl A.1.0) [
    | inl b ↦ inl (has_left (starts s.Stmt) (starts s.Decl) (class_at w i) b.0, omega (arith, b.1, ap (λ (k : Spot). k.place) A.1.1))
    | inr e ↦ absurd (cc e.0)
  ]
  at_begins s.Qualifier least t i j r A = node_begins s.Qualifier least t i j refl A
  at_begins s.TypeName least t i j r A = node_begins s.TypeName least t i j refl A
  at_begins s.Member least t i j r A = node_begins s.Member least t i j refl A
  at_begins s.Enumerator least t i j r A = node_begins s.Enumerator least t i j refl A
  at_begins s.Param least t i j r A = node_begins s.Param least t i j refl A
  at_begins s.Init least t i j r A = node_begins s.Init least t i j refl A
  at_begins s.Decl least t i j r A = node_begins s.Decl least t i j refl A
  at_begins s.Stmt least t i j r A = node_begins s.Stmt least t i j refl A
  at_begins s.Block least t i j r A = node_begins s.Block least t i j refl A
  at_begins s.InitDeclarator least t i j r A = node_begins s.InitDeclarator least t i j refl A
  at_begins s.Initializer least t i j r A = node_begins s.Initializer least t i j refl A
  at_begins s.MemberDeclarator least t i j r A = node_begins s.MemberDeclarator least t i j refl A
  at_begins s.Width least t i j r A = node_begins s.Width least t i j refl A
  at_begins s.Members least t i j r A = node_begins s.Members least t i j refl A
  at_begins s.Enumerators least t i j r A = node_begins s.Enumerators least t i j refl A
  at_begins s.EnumeratorValue least t i j r A = node_begins s.EnumeratorValue least t i j refl A
  at_begins s.ElsePart least t i j r A = node_begins s.ElsePart least t i j refl A
  at_begins _ least t i j r A = absurd (cc r)

pub in_place_begins : (n : ℕ) (levels : Type 0) (deeper : Spelling) (w : List Shape) → AllBegin w deeper → AllBegin w (InPlace n levels deeper w)
unfolding InPlace
in_place_begins zero levels deeper w D = λ due least t i j r A. absurd A
in_place_begins (suc n) levels deeper w D = at_begins levels deeper (InPlace n levels deeper w) w D (in_place_begins n levels deeper w D)

pub spells_begin : (d : ℕ) (w : List Shape) → AllBegin w (Spells d w)
unfolding Spells
spells_begin zero w = in_place_begins places ⊥ nothing_spelled w (λ due least t i j r A. absurd A)
spells_begin (suc d) w = in_place_begins places (Unit {0}) (Spells d w) w (spells_begin d w)
