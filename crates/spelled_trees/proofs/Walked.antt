-- What a row does, where its parts do what their sorts say.
use Rattle.std.proofs.Common.{◌≡◌, inl, inr, refl, ap, sym, ◌∙◌, subst, ℕ, true, ◌&&◌, List, [], ◌∷◌}
use Rattle.c_tokens.specs.declared.span.Span.{Span}
use Rattle.c_tokens.specs.declared.token.Shape.{Shape}
use Rattle.c_forms.specs.declared.pieces.Event.{Event}
use Rattle.c_forms.specs.declared.pieces.Event.TheVariants as event
use Rattle.c_forms.specs.declared.pieces.Sort.{Sort}
use Rattle.c_forms.specs.declared.pieces.Repetition.{Repetition}
use Rattle.c_forms.specs.declared.pieces.Piece.{Piece}
use Rattle.c_forms.specs.declared.pieces.Piece.TheVariants.{Token, Maybe, Own, TypeTokens, KindName, One, Group, Rest, Anything, Then}
use Rattle.c_forms.specs.declared.forms.Form.{Form}
use Rattle.c_forms.specs.Forests.{Plain, node}
use Rattle.c_reader.specs.States.{State, Kept, happens}
use Rattle.c_reader.specs.Tokens.{Spot}
use Rattle.c_syntax.specs.Reading.{Before, Usual, inside, the_list, spanned}
use Rattle.c_syntax.specs.Spells.{Spelling, IsGroup, Matches}
use Rattle.spelled_trees.specs.Effects.{Need, NoMatter, Anew, Unnamed, needs, Meets, Does, Keeps, Renews, LeavesName, Changes, does, Done, Leaves, is_plain_sort}
use Rattle.spelled_trees.proofs.Parts.{left_of, right_of, Each, each_append, group_fold}
use Rattle.spelled_trees.proofs.Walks.{Know, Same, New, Nameless, Knows, meets, after, is_met, blurred, ends, now_after, aside_after, is_fit, is_due, walks}

-- ---- knowledge

weaken : (d : Does) (k : Know) (first now : Kept) → Knows k first now → Knows (after d k) first now
weaken Keeps k first now K = K
weaken Renews k first now K = K
weaken LeavesName New first now K = K.nameless
weaken LeavesName Nameless first now K = K
weaken LeavesName k first now K = tt
weaken Changes k first now K = tt

again : (d : Does) (k : Know) → after d (after d k) ≡ after d k
again Keeps k = refl
again Renews k = refl
again LeavesName New = refl
again LeavesName k = refl
again Changes k = refl

advance : (d : Does) (k : Know) (first old new : Kept) → is_met d k ≡ true → Knows k first old → Done d old new → Knows (after d k) first new
advance Keeps k first old new m K D = subst (λ x. Knows k first x) (sym D) K
advance Renews New first old new m K D = D
advance Renews k first old new m K D = absurd (cc m)
advance LeavesName New first old new m K D = D ∙ K.nameless
advance LeavesName Nameless first old new m K D = D ∙ K
advance LeavesName k first old new m K D = tt
advance Changes k first old new m K D = tt

pub met : (n : Need) (k : Know) (first now : Kept) → meets n k ≡ true → Knows k first now → Meets n now
met NoMatter k first now m K = tt
met Anew New first now m K = K
met Anew k first now m K = absurd (cc m)
met Unnamed New first now m K = K.nameless
met Unnamed Nameless first now m K = K
met Unnamed k first now m K = absurd (cc m)

-- ---- what is put aside

abbrev pub KnowsAside : List Know → Kept → List Kept → List Kept → Type 0
KnowsAside [] first aside now = now ≡ aside
KnowsAside (k ∷ ks) first aside now = (kept : Kept) × ((others : List Kept) × ((now ≡ kept ∷ others) × (Knows k first kept × KnowsAside ks first aside others)))

new_near : (k : Know) (first now changed : Kept) → changed.has_type ≡ now.has_type → changed.is_sole ≡ now.is_sole → changed.name ≡ now.name → Knows k first now → Knows (blurred k) first changed
new_near New first now changed a b c K = record { untyped = a ∙ K.untyped; unsettled = b ∙ K.unsettled; nameless = c ∙ K.nameless }
new_near Nameless first now changed a b c K = c ∙ K
new_near k first now changed a b c K = tt

module _ (first : Kept) (aside : List Kept) where
  now_known : (e : Event) (k : Know) (ks : List Know) (x : State) → is_fit e ks ≡ true → Knows k first x.kept → KnowsAside ks first aside x.aside → Knows (now_after e k ks) first (happens e x).kept
  now_known event.Begin k ks x h K A = record { untyped = refl; unsettled = refl; nameless = refl }
  now_known event.Typedef Same ks x h K A = ap (λ (y : Kept). record y { is_typedef = true }) K
  now_known event.Typedef k ks x h K A = tt
  now_known event.Typed Same ks x h K A = ap (λ (y : Kept). record y { has_type = true }) K
  now_known event.Typed k ks x h K A = tt
  now_known event.SoleType Same ks x h K A = ap (λ (y : Kept). record y { has_type = true; is_sole = true }) K
  now_known event.SoleType k ks x h K A = tt
  now_known event.Aside k ks x h K A = record { untyped = refl; unsettled = refl; nameless = refl }
  now_known event.Resume k [] x h K A = absurd (cc h)
  now_known event.Resume k (l ∷ ks) x h K A = rw (A.1.1.0) (A.1.1.1.0)
  now_known event.Seal k ks x h K A = new_near k first x.kept (happens event.Seal x).kept refl refl refl K
  now_known event.Close k [] x h K A = absurd (cc h)
  now_known event.Close k (l ∷ ks) x h K A = rw (A.1.1.0) (new_near l first A.0 _ refl refl refl (A.1.1.1.0))
  now_known event.FunctionDue k ks x h K A = new_near k first x.kept (happens event.FunctionDue x).kept refl refl refl K
  now_known event.Open k ks x h K A = record { untyped = refl; unsettled = refl; nameless = refl }
  now_known event.Shut k ks x h K A = record { untyped = refl; unsettled = refl; nameless = refl }
  now_known e k ks x h K A = K

  aside_known : (e : Event) (k : Know) (ks : List Know) (x : State) → is_fit e ks ≡ true → Knows k first x.kept → KnowsAside ks first aside x.aside → KnowsAside (aside_after e k ks) first aside (happens e x).aside
  aside_known event.Aside k ks x h K A = (x.kept, (x.aside, (refl, (K, A))))
  aside_known event.Resume k [] x h K A = absurd (cc h)
  aside_known event.Resume k (l ∷ ks) x h K A = rw (A.1.1.0) (A.1.1.1.1)
  aside_known event.Close k [] x h K A = absurd (cc h)
  aside_known event.Close k (l ∷ ks) x h K A = rw (A.1.1.0) (A.1.1.1.1)
  aside_known e k ks x h K A = A

-- ---- the pieces

-- what holds of each tree that is spelled where its sort may begin
abbrev pub Tells : Spelling → (Plain → Type 0) → Type 0
Tells P Q = (due : Sort) (least : ℕ) (t : Plain) (i j : Spot) → P due least t i j → is_plain_sort due ≡ true → Meets (needs due) i.state.kept → Leaves due i.state j.state × Q t

pub record Walked (own : Sort) (f : Form) (Q : Plain → Type 0) (first : Kept) (aside : List Kept) (ts : List Plain) (j : Spot) : Type 0 where
  pub know : Know
  pub ended : ends own f know ≡ true
  pub knows : Knows know first j.state.kept
  pub aside_same : j.state.aside ≡ aside
  pub each : Each Q ts

module _ (w : List Shape) (P : Spelling) (Q : Plain → Type 0) (lists : (s : Span) (ts : List Plain) → Each Q ts → Q (node the_list s ts)) (T : Tells P Q) where
  -- what is known after an element
  part_done : (due : Sort) (k : Know) (first : Kept) (least : ℕ) (t : Plain) (i j : Spot) → is_due due k ≡ true → Knows k first i.state.kept → P due least t i j
      → Knows (after (does due) k) first j.state.kept × ((j.state.aside ≡ i.state.aside) × Q t)
  part_done due k first least t i j h K p = let a = is_plain_sort due in let b = meets (needs due) k in let c = is_met (does due) k in
      let t = T due least t i j p (left_of a b (left_of (a && b) c h)) (met (needs due) k first i.state.kept (right_of a b (left_of (a && b) c h)) K) in
      (advance (does due) k first i.state.kept j.state.kept (right_of (a && b) c h) K t.0.kept, (t.0.aside, t.1))

  record Grouped (k : Know) (first : Kept) (ts : List Plain) (i j : Spot) : Type 0 where
    knows : Knows k first i.state.kept → Knows k first j.state.kept
    same : Knows k first i.state.kept → j.state.aside ≡ i.state.aside
    all : Knows k first i.state.kept → Each Q ts

  elements_done : (due : Sort) (k : Know) (first : Kept) (least : ℕ) → is_due due k ≡ true → after (does due) k ≡ k → (r : Repetition) (before : Before) (ts : List Plain) (i j : Spot) → IsGroup r due (P due least) before w ts i j → Grouped k first ts i j
  elements_done due k first least h e r before ts i j G = group_fold w (P due least) (Grouped k first) (λ i. record { knows = λ K. K; same = λ K. refl; all = λ K. tt })
      (λ ts t i j k' m R s p. record {
        knows = λ K. rw e at (part_done due k first least t k' m h (rw s (R.knows K)) p).0;
        same = λ K. (part_done due k first least t k' m h (rw s (R.knows K)) p).1.0 ∙ (ap (λ (x : State). x.aside) s ∙ R.same K);
        all = λ K. each_append Q ts t (R.all K) (part_done due k first least t k' m h (rw s (R.knows K)) p).1.1;
      }) r due before ts i j G

  with_part : (own : Sort) (f : Form) (first : Kept) (aside : List Kept) (t : Plain) (ts : List Plain) (j : Spot) → Q t → Walked own f Q first aside ts j → Walked own f Q first aside (t ∷ ts) j
  with_part own f first aside t ts j q W = record { know = W.know; ended = W.ended; knows = W.knows; aside_same = W.aside_same; each = (q, W.each) }

  pub walked : (own : Sort) (f : Form) (first : Kept) (aside : List Kept) (before : Before) (ps : List Piece) (k : Know) (ks : List Know) (ts : List Plain) (i j : Spot)
      → walks own f k ks ps ≡ true → Knows k first i.state.kept → KnowsAside ks first aside i.state.aside → Matches P w own f before ps ts i j → Walked own f Q first aside ts j
  walked own f first aside before [] k [] ts i j h K A M = rw (M.0) (record { know = k; ended = h; knows = subst (λ (x : Spot). Knows k first x.state.kept) M.1 K; aside_same = subst (λ (x : Spot). x.state.aside ≡ aside) M.1 A; each = tt })
  walked own f first aside before [] k (l ∷ ks) ts i j h K A M = absurd (cc h)
  walked own f first aside before (Token c ∷ ps) k ks ts i j h K A M = walked own f first aside Usual ps k ks ts _ j h K A M.1
  walked own f first aside before (Maybe c ∷ ps) k ks ts i j h K A (inl M) = walked own f first aside Usual ps k ks ts _ j h K A M.1
  walked own f first aside before (Maybe c ∷ ps) k ks ts i j h K A (inr M) = walked own f first aside Usual ps k ks ts _ j h K A M
  walked own f first aside before (Own ∷ ps) k ks ts i j h K A M = walked own f first aside Usual ps k ks ts _ j h K A M.1
  walked own f first aside before (One due least ∷ ps) k ks ts i j h K A M = let d = inside own due in let a = is_due d k in let b = walks own f (after (does d) k) ks ps in
      let D = part_done d k first least M.first i M.place (left_of a b h) K M.is_first in
      rw M.value (with_part own f first aside M.first M.others j D.1.1
      (walked own f first aside _ ps (after (does d) k) ks M.others M.place j (right_of a b h) D.0 (rw (D.1.0) A) M.are_others))
  walked own f first aside before (Group r due least ∷ ps) k ks ts i j h K A M = let n = after (does due) k in let a = is_due due k in let b = is_due due n in let c = walks own f n ks ps in
      let G = elements_done due n first least (right_of a b (left_of (a && b) c h)) (again (does due) k) r before M.is_first.0 i M.place M.is_first.1.1 in let N = weaken (does due) k first i.state.kept K in
      rw M.value (with_part own f first aside M.first M.others j (rw (M.is_first.1.0) (lists (spanned i.place M.place.place) M.is_first.0 (G.all N)))
      (walked own f first aside _ ps n ks M.others M.place j (right_of (a && b) c h) (G.knows N) (rw (G.same N) A) M.are_others))
  walked own f first aside before (Then e ∷ ps) k ks ts i j h K A M = let a = is_fit e ks in let b = walks own f (now_after e k ks) (aside_after e k ks) ps in let m = left_of a b h in
      walked own f first aside before ps (now_after e k ks) (aside_after e k ks) ts _ j (right_of a b h) (now_known first aside e k ks i.state m K A) (aside_known first aside e k ks i.state m K A) M.1
  walked own f first aside before (TypeTokens ∷ ps) k ks ts i j h K A M = absurd M
  walked own f first aside before (KindName ∷ ps) k ks ts i j h K A M = absurd M
  walked own f first aside before (Rest due ∷ ps) k ks ts i j h K A M = absurd M
  walked own f first aside before (Anything ∷ ps) k ks ts i j h K A M = absurd M
