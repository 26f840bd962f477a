-- In a block no declaration comes after a statement.
use Rattle.std.proofs.Common.{◌≡◌, refl, ap, sym, ◌∙◌, subst, ℕ, Bool, true, false, not, ◌&&◌, ◌||◌, if◌then◌else◌, List, [], ◌∷◌, ◌++◌}
use Rattle.c_tokens.specs.declared.token.Shape.{Shape}
use Rattle.c_forms.specs.declared.pieces.Sort.{Sort}
use Rattle.c_forms.specs.declared.pieces.Sort.TheVariants as s
use Rattle.c_forms.specs.declared.pieces.Repetition.{Repetition}
use Rattle.c_forms.specs.Forests.{Plain, forest}
use Rattle.c_forms.specs.Rules.{is_decl, ordered}
use Rattle.c_reader.specs.States.{State}
use Rattle.c_reader.specs.Tokens.{Spot}
use Rattle.c_syntax.specs.Reading.{Before}
use Rattle.c_syntax.specs.Spells.{Spelling, IsGroup}
use Rattle.spelled_trees.specs.Effects.{needs, Meets, IsNew, is_plain_sort}
use Rattle.spelled_trees.specs.Told.{Told}
use Rattle.spelled_trees.proofs.Parts.{group_fold}

-- whether one of these is no declaration
abbrev has_other : List Plain → Bool
has_other [] = false
has_other (t ∷ ts) = not (is_decl t.form) || has_other ts

-- whether there was one, and a declaration follows
abbrev is_clear : Bool → Bool → Bool
is_clear late d = not (d && late)

ordered_append : (late : Bool) (ts : List Plain) (t : Plain) → ordered late (forest ts) ≡ true → is_clear (late || has_other ts) (is_decl t.form) ≡ true → ordered late (forest (ts ++ (t ∷ []))) ≡ true
ordered_append late [] t h c = one (is_decl t.form) late c
  where
    one : (d late : Bool) → is_clear (late || false) d ≡ true → (if d then not late && true else true) ≡ true
    one true true c = absurd (cc c)
    one true false c = refl
    one false late c = refl
ordered_append late (x ∷ ts) t h c = first (is_decl x.form) late (λ l. ordered_append l ts t) h c
  where
    first : (d late : Bool) → ((l : Bool) → ordered l (forest ts) ≡ true → is_clear (l || has_other ts) (is_decl t.form) ≡ true → ordered l (forest (ts ++ (t ∷ []))) ≡ true)
        → (if d then not late && ordered late (forest ts) else ordered true (forest ts)) ≡ true → is_clear (late || (not d || has_other ts)) (is_decl t.form) ≡ true
        → (if d then not late && ordered late (forest (ts ++ (t ∷ []))) else ordered true (forest (ts ++ (t ∷ [])))) ≡ true
    first true true go h c = absurd (cc h)
    first true false go h c = go false h c
    first false true go h c = go true h c
    first false false go h c = go true h c

other_append : (ts : List Plain) (t : Plain) → has_other (ts ++ (t ∷ [])) ≡ (has_other ts || not (is_decl t.form))
other_append [] t = or_no (is_decl t.form)
  where
    or_no : (d : Bool) → (not d || false) ≡ not d
    or_no true = refl
    or_no false = refl
other_append (x ∷ ts) t = ap (λ b. not (is_decl x.form) || b) (other_append ts t) ∙ grouped (not (is_decl x.form)) (has_other ts) (not (is_decl t.form))
  where
    grouped : (a b c : Bool) → (a || (b || c)) ≡ ((a || b) || c)
    grouped true b c = refl
    grouped false b c = refl

-- what holds of the items of a block so far
pub record Items (ts : List Plain) (new : State) : Type 0 where
  pub anew : IsNew new.kept
  pub order : ordered false (forest ts) ≡ true
  pub late : has_other ts ≡ true → new.is_late ≡ true

module _ (w : List Shape) (P : Spelling) (T : (due : Sort) (least : ℕ) (t : Plain) (i j : Spot) → P due least t i j → is_plain_sort due ≡ true → Meets (needs due) i.state.kept → Told w due t i j) where
  abbrev Ordered : List Plain → Spot → Spot → Type 0
  Ordered ts i j = IsNew i.state.kept → Items ts j.state

  clear : (ts : List Plain) (d late : Bool) → (has_other ts ≡ true → late ≡ true) → (d ≡ true → late ≡ false) → is_clear (has_other ts) d ≡ true
  clear ts d late f g = by (has_other ts) d late f g
    where
      by : (h d late : Bool) → (h ≡ true → late ≡ true) → (d ≡ true → late ≡ false) → is_clear h d ≡ true
      by h false late f g = refl
      by false true late f g = refl
      by true true late f g = absurd (cc (f refl, g refl))

  lately : (h d old new : Bool) → (h ≡ true → old ≡ true) → (d ≡ true → old ≡ false) → (d ≡ false → new ≡ true) → (h || not d) ≡ true → new ≡ true
  lately h false old new f g k e = k refl
  lately true true old new f g k e = absurd (cc (f refl, g refl))
  lately false true old new f g k e = absurd (cc e)

  one_more : (ts : List Plain) (t : Plain) (least : ℕ) (i j k m : Spot) → Items ts j.state → k.state ≡ j.state → P s.BlockItem least t k m → Items (ts ++ (t ∷ [])) m.state
  one_more ts t least i j k m I e p = let N = subst (λ (x : State). IsNew x.kept) (sym e) I.anew in let R = T s.BlockItem least t k m p refl N in let late = λ (h : has_other ts ≡ true). ap (λ (x : State). x.is_late) e ∙ I.late h in record {
    anew = R.leaves.kept;
    order = ordered_append false ts t I.order (clear ts (is_decl t.form) k.state.is_late late R.besides.0);
    late = λ h. lately (has_other ts) (is_decl t.form) k.state.is_late m.state.is_late late R.besides.0 R.besides.1 (sym (other_append ts t) ∙ h);
  }

  pub items : (least : ℕ) (r : Repetition) (before : Before) (ts : List Plain) (i j : Spot) → IsGroup r s.BlockItem (P s.BlockItem least) before w ts i j → IsNew i.state.kept → Items ts j.state
  items least r before ts i j G = group_fold w (P s.BlockItem least) Ordered (λ i N. record { anew = N; order = refl; late = λ h. absurd (cc h) })
      (λ ts t i j k m R e p N. one_more ts t least i j k m (R N) e p) r s.BlockItem before ts i j G
