-- A list of specifiers: a type that allows no other stands alone.
use Rattle.std.proofs.Common.{◌≡◌, refl, ap, sym, ◌∙◌, subst, ℕ, zero, suc, ◌+◌, Bool, true, false, not, ◌||◌, List, [], ◌∷◌, ◌++◌, nat_lt, arith}
use Rattle.c_tokens.specs.declared.token.Shape.{Shape}
use Rattle.c_forms.specs.declared.pieces.Sort.{Sort}
use Rattle.c_forms.specs.declared.pieces.Repetition.{Repetition}
use Rattle.c_forms.specs.declared.forms.Form.{Form}
use Rattle.c_forms.specs.declared.forms.Form.TheVariants as form
use Rattle.c_forms.specs.declared.forms.SpecForm.{SpecForm}
use Rattle.c_forms.specs.declared.forms.SpecForm.TheVariants as spec
use Rattle.c_forms.specs.Forests.{Plain, forest}
use Rattle.c_forms.specs.Rules.{is_type, is_sole, one_if, types, has_sole, are_specifiers}
use Rattle.c_reader.specs.States.{State}
use Rattle.c_reader.specs.Tokens.{Spot}
use Rattle.c_syntax.specs.Allowed.{fits_beside, may_stand}
use Rattle.c_syntax.specs.Reading.{Before}
use Rattle.c_syntax.specs.Spells.{IsGroup}
use Rattle.spelled_trees.specs.Effects.{IsNew}
use Rattle.spelled_trees.specs.Told.{Specified}
use Rattle.spelled_trees.proofs.Parts.{group_fold}

sole_spec : (f : SpecForm) → is_sole (form.Spec f) ≡ true → is_type (form.Spec f) ≡ true
sole_spec (spec.Storage c) h = absurd (cc h)
sole_spec (spec.Qualifier c) h = absurd (cc h)
sole_spec f h = refl

-- one that allows no other is one
sole_type : (f : Form) → is_sole f ≡ true → is_type f ≡ true
sole_type (form.Spec f) h = sole_spec f h
sole_type (form.Hole f) h = refl
sole_type (form.Call n gives tail) h = refl
sole_type f h = absurd (cc h)

or_assoc : (a b c : Bool) → (a || (b || c)) ≡ ((a || b) || c)
or_assoc true b c = refl
or_assoc false b c = refl

or_false : (a : Bool) → (a || false) ≡ a
or_false true = refl
or_false false = refl

types_append : (ts : List Plain) (t : Plain) → types (forest (ts ++ (t ∷ []))) ≡ types (forest ts) + one_if (is_type t.form)
types_append [] t = omega arith
types_append (x ∷ ts) t = let e = types_append ts t in omega (arith, e)

sole_append : (ts : List Plain) (t : Plain) → has_sole (forest (ts ++ (t ∷ []))) ≡ (has_sole (forest ts) || is_sole t.form)
sole_append [] t = or_false (is_sole t.form)
sole_append (x ∷ ts) t = ap (λ b. is_sole x.form || b) (sole_append ts t) ∙ or_assoc (is_sole x.form) (has_sole (forest ts)) (is_sole t.form)

more : (n : ℕ) (b : Bool) → nat_lt 0 (n + one_if b) ≡ (nat_lt 0 n || b)
more n true = grind arith
more n false = grind arith

first_sole : (n : ℕ) → not (nat_lt 0 n) ≡ true → nat_lt (n + 1) 2 ≡ true
first_sole zero h = refl
first_sole (suc n) h = let e : nat_lt 0 (suc n) ≡ true = grind arith in absurd (cc (e, h))

-- what may stand beside a type, by what there is
abbrev beside : Bool → Bool → Bool → Bool
beside sole typed true = not typed
beside sole typed false = not sole

beside_is : (x : State) (b : Bool) → fits_beside x b ≡ beside x.kept.is_sole x.kept.has_type b
beside_is x true = refl
beside_is x false = refl

may_beside : (x : State) (f : Form) → may_stand x f ≡ true → (not (is_type f) || beside x.kept.is_sole x.kept.has_type (is_sole f)) ≡ true
may_beside x f h = sym (ap (λ b. not (is_type f) || b) (beside_is x (is_sole f))) ∙ h

-- a further specifier that may stand there
fits_on : (n : ℕ) (had is so : Bool) → (so ≡ true → is ≡ true) → (not is || beside had (nat_lt 0 n) so) ≡ true → (not had || nat_lt n 2) ≡ true → (not (had || so) || nat_lt (n + one_if is) 2) ≡ true
fits_on n had false true k m h = absurd (cc (k refl))
fits_on n true false false k m h = let e : n + 0 ≡ n = omega arith in rw e h
fits_on n false false false k m h = refl
fits_on n true true false k m h = absurd (cc m)
fits_on n false true false k m h = refl
fits_on n true true true k m h = first_sole n m
fits_on n false true true k m h = first_sole n m

-- what a list of specifiers has, where no declaration had begun
pub record Listed (ts : List Plain) (new : State) : Type 0 where
  pub typed : new.kept.has_type ≡ nat_lt 0 (types (forest ts))
  pub settled : new.kept.is_sole ≡ has_sole (forest ts)
  pub are : are_specifiers (forest ts) ≡ true

module _ (w : List Shape) (one : Plain → Spot → Spot → Type 0) (S : (t : Plain) (i j : Spot) → one t i j → Specified t i.state j.state) where
  abbrev Lists : List Plain → Spot → Spot → Type 0
  Lists ts i j = IsNew i.state.kept → Listed ts j.state

  nil : (i : Spot) → Lists [] i i
  nil i N = record { typed = N.untyped; settled = N.unsettled; are = refl }

  one_more : (ts : List Plain) (t : Plain) (old mid new : State) → Listed ts old → mid ≡ old → Specified t mid new → Listed (ts ++ (t ∷ [])) new
  one_more ts t old mid new L s S = let p = subst (λ x. Specified t x new) s S in record {
    typed = p.typed ∙ (ap (λ b. b || is_type t.form) L.typed ∙ (sym (more (types (forest ts)) (is_type t.form)) ∙ ap (λ n. nat_lt 0 n) (sym (types_append ts t))));
    settled = p.settled ∙ (ap (λ b. b || is_sole t.form) L.settled ∙ sym (sole_append ts t));
    are = rw (types_append ts t, sole_append ts t) (fits_on (types (forest ts)) (has_sole (forest ts)) (is_type t.form) (is_sole t.form) (sole_type t.form) (rw (L.typed, L.settled) at (may_beside old t.form p.may)) L.are);
  }

  pub specifiers : (r : Repetition) (due : Sort) (before : Before) (ts : List Plain) (i j : Spot) → IsGroup r due one before w ts i j → IsNew i.state.kept → Listed ts j.state
  specifiers r due before ts i j G N = group_fold w one Lists nil (λ ts t i j k m R s p N. one_more ts t j.state k.state m.state (R N) s (S t k m p)) r due before ts i j G N
