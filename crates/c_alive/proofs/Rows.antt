-- The pieces of a row can be completed, one after the other.
use Rattle.std.proofs.Common.{◌≡◌, refl, ap, ℕ, not, Bool, true, false, ◌&&◌, ◌||◌, nat_eq, List, [], ◌∷◌, Option, Some}
use Rattle.c_tokens.specs.declared.token.Shape.{Shape}
use Rattle.c_tokens.specs.ClassNumbers.{class_number}
use Rattle.c_forms.specs.declared.pieces.Event.{Event}
use Rattle.c_forms.specs.declared.pieces.Event.TheVariants as event
use Rattle.c_forms.specs.declared.pieces.Sort.{Sort}
use Rattle.c_forms.specs.declared.pieces.Repetition.{Repetition}
use Rattle.c_forms.specs.declared.pieces.Repetition.TheVariants.{Ended}
use Rattle.c_forms.specs.declared.pieces.Piece.{Piece}
use Rattle.c_forms.specs.declared.pieces.Piece.TheVariants.{Token, Maybe, Own, TypeTokens, KindName, One, Group, Rest, Anything, Then}
use Rattle.c_forms.specs.declared.forms.Form.{Form}
use Rattle.c_forms.specs.Sets.{Classes, has, held_class}
use Rattle.c_reader.specs.States.{State, Seen, Kept, class, seen, happens, is_bare}
use Rattle.c_reader.specs.Readers.{Reader, Give, Refuse, Look, Next, Pick, Bind, Change, below, choose, only, token}
use Rattle.c_reader.proofs.Sets.{both, contrary, not_true}
use Rattle.c_reader.proofs.Seen.{written}
use Rattle.c_reader.proofs.Leaves.{Leaves, leaving_pick, leaving_more}
use Rattle.c_reader.proofs.Phrases.{Tokens, Begun, begun_bind, begun_pick, anything, opens_anything, Finishes, fin_give, fin_bind, fin_map, fin_token, fin_ask, fin_look, fin_choose, fin_change, fin_fewer}
use Rattle.c_reader.proofs.Live.{Calls, Live, live_bind, live_choose, live_map, live_next}
use Rattle.c_syntax.specs.Allowed.{may_happen}
use Rattle.c_syntax.specs.Reading.{Before, Usual, Parts, Gathered, nothing, with_first, before_by, has_none, is_absent, is_class, list_from, inside, gathered, pieces_in}
use Rattle.c_syntax.specs.Grammar.{body}
use Rattle.c_alive.proofs.Tame.{Firmly, sound}
use Rattle.c_alive.proofs.Kept.{Still, Within, allowed, pending, event_within, stays_gathered}
use Rattle.c_alive.proofs.Phrased.{phrase, pieces_phrase, group_phrase, shape_of, shape_class_of, token_written, none_of, past, opens_so, opens_if, live_weaker}
use Rattle.c_alive.proofs.Gathers.{group_past, group_ends, needs, is_plain, opens_not, fin_gathered, live_gathered}
use Rattle.c_alive.proofs.EndedLists.{fin_listed, live_listed}

-- an event that is refused in no state where no function's declarator is due
abbrev free : Event → Bool
free event.Open = false
free _ = true

abbrev pub Known : Type 0
Known = Sort → ℕ → Bool

-- whether the phrase of a repetition completes it
abbrev group_done : Known → Repetition → Sort → ℕ → Bool
group_done done r due least = (not (needs r) || done due least) && (group_ends r due && sound r due)

if_needed : (b c : Bool) → (not b || c) ≡ true → b ≡ true → c ≡ true
if_needed true c h e = h
if_needed false c h e = absurd (cc e)

-- Whether pieces without a token that the form holds can be completed by their phrase, where no token of `out` follows.
-- `done` says which sorts are completed by theirs.
abbrev pub fit : Known → Sort → Bool → List Piece → Classes → Bool
fit done own b [] out = not b
fit done own b (Token c ∷ ps) out = shape_class_of c && fit done own b ps out
fit done own b (Maybe c ∷ ps) out = opens_not c (pieces_phrase own ps) && fit done own b ps out
fit done own b (One due least ∷ ps) out = done (inside own due) least && (opens_so (past (inside own due) least) (pieces_phrase own ps) out && fit done own b ps out)
fit done own b (Group (Ended c d) due least ∷ (p ∷ ps)) out = group_done done (Ended c d) due least && (opens_so (group_past (Ended c d) due least) (pieces_phrase own (p ∷ ps)) out && fit done own b (p ∷ ps) out)
fit done own b (Group r due least ∷ ps) out = is_plain r && (group_done done r due least && (opens_so (group_past r due least) (pieces_phrase own ps) out && fit done own b ps out))
fit done own b (Then e ∷ ps) out = free e && (allowed e b && fit done own (pending e b) ps out)
fit done own b (p ∷ ps) out = false

-- and each prefix of them too, which may begin with a token that the form holds
abbrev pub fit_from : Known → Known → Sort → Bool → List Piece → Classes → Bool
fit_from live done own b [] out = not b
fit_from live done own b (Token c ∷ ps) out = fit done own b ps out && fit_from live done own b ps out
fit_from live done own b (Own ∷ ps) out = fit done own b ps out && fit_from live done own b ps out
fit_from live done own b (Maybe c ∷ ps) out = fit done own b ps out && fit_from live done own b ps out
fit_from live done own b (One due least ∷ ps) out = live (inside own due) least && (opens_so (past (inside own due) least) (pieces_phrase own ps) out && (fit done own b ps out && fit_from live done own b ps out))
fit_from live done own b (Group (Ended c d) due least ∷ (p ∷ ps)) out =
    (live due least && done due least) && (group_done done (Ended c d) due least && (opens_so (group_past (Ended c d) due least) (pieces_phrase own (p ∷ ps)) out && (fit done own b (p ∷ ps) out && (fit_from live done own b ps out && fit_from live done own b (p ∷ ps) out))))
fit_from live done own b (Group r due least ∷ ps) out = is_plain r && ((live due least && done due least) && (group_done done r due least && (opens_so (group_past r due least) (pieces_phrase own ps) out && (fit done own b ps out && fit_from live done own b ps out))))
fit_from live done own b (Then e ∷ ps) out = allowed e b && fit_from live done own (pending e b) ps out
fit_from live done own b (p ∷ ps) out = false

-- whether a form's pieces begin with a token of this class
abbrev pub begins_with : Form → List Piece → ℕ → Bool
begins_with f (Token c ∷ ps) n = nat_eq n (class_number c)
begins_with f (Own ∷ ps) n = has (held_class f) n
begins_with f ps n = false

not_due : (b : Bool) (a : List Kept) (z : State) → Within b a z → z.kept.is_function_due ≡ false
not_due false a z W = W.1
not_due true a z W = W.1.1.1

pub happens_freely : (e : Event) (z : State) → free e ≡ true → z.kept.is_function_due ≡ false → may_happen e z ≡ true
happens_freely event.Open z h k = absurd (cc h)
happens_freely event.Seal z h k = by_due z.kept.is_function_due k
  where
    by_due : (b : Bool) → b ≡ false → not (b && is_bare z.kept.near) ≡ true
    by_due true e = absurd (cc e)
    by_due false e = refl
happens_freely _ z h k = refl

-- ---- with one declaration put aside, or none

abbrev Stays : {A : Type 0} → Bool → List Kept → A → State → Type 0
Stays b a x t = Within b a t

fin_within : {A : Type 0} (b : Bool) (Q : Tokens) (r : Reader A) (u : List Shape) → ((a : List Kept) (z : State) → Still a z → Finishes body z Q (λ _ t. Still a t) r u) → (a : List Kept) (z : State) → Within b a z → Finishes body z Q (Stays b a) r u
fin_within false Q r u F a z w = F a z w
fin_within true Q r u F a z w = fin_fewer body z Q Q (λ _ t. Still (w.0 ∷ a) t) (Stays true a) r u (λ x q. q) (λ x t k. (w.0, (w.1.0, k))) (F (w.0 ∷ a) z w.1.1)

live_within : {A : Type 0} (calls : Calls) (deep : ℕ) (b : Bool) (Q : Tokens) (r : Reader A) → ((a : List Kept) (z : State) (y : Shape) → Still a z → Live body calls deep z y Q (λ _ t. Still a t) r) → (a : List Kept) (z : State) (y : Shape) → Within b a z → Live body calls deep z y Q (Stays b a) r
live_within calls deep false Q r L a z y w = L a z y w
live_within calls deep true Q r L a z y w = live_weaker body calls deep z y Q Q (λ _ t. Still (w.0 ∷ a) t) (Stays true a) r (λ x q. q) (λ x t k. (w.0, (w.1.0, k))) (L (w.0 ∷ a) z y w.1.1)

leaves_within : {A : Type 0} (b : Bool) (r : Reader A) → ((a : List Kept) (z : State) (y : Shape) → Still a z → Leaves body z y r (λ _ t. Still a t)) → (a : List Kept) (z : State) (y : Shape) → Within b a z → Leaves body z y r (Stays b a)
leaves_within false r L a z y w d = L a z y w d
leaves_within true r L a z y w d = leaving_more (below body d) d z y r (λ _ t. Still (w.0 ∷ a) t) (Stays true a) (λ x t k. (w.0, (w.1.0, k))) (L (w.0 ∷ a) z y w.1.1 d)

-- the same of lists that may have ended
abbrev Unending : Bool → List Kept → ℕ × Gathered → State → Type 0
Unending b a x t = Within b a t × (x.1.is_ended ≡ false)

fin_unended : (b : Bool) (Q : Tokens) (r : Reader (ℕ × Gathered)) (u : List Shape) → ((a : List Kept) (z : State) → Still a z → Finishes body z Q (λ x t. Still a t × (x.1.is_ended ≡ false)) r u) → (a : List Kept) (z : State) → Within b a z → Finishes body z Q (Unending b a) r u
fin_unended false Q r u F a z w = F a z w
fin_unended true Q r u F a z w = fin_fewer body z Q Q (λ x t. Still (w.0 ∷ a) t × (x.1.is_ended ≡ false)) (Unending true a) r u (λ x q. q) (λ x t k. ((w.0, (w.1.0, k.0)), k.1)) (F (w.0 ∷ a) z w.1.1)

live_unended : (calls : Calls) (deep : ℕ) (b : Bool) (Q : Tokens) (r : Reader (ℕ × Gathered)) → ((a : List Kept) (z : State) (y : Shape) → Still a z → Live body calls deep z y Q (λ x t. Still a t × (x.1.is_ended ≡ false)) r) → (a : List Kept) (z : State) (y : Shape) → Within b a z
    → Live body calls deep z y Q (Unending b a) r
live_unended calls deep false Q r L a z y w = L a z y w
live_unended calls deep true Q r L a z y w = live_weaker body calls deep z y Q Q (λ x t. Still (w.0 ∷ a) t × (x.1.is_ended ≡ false)) (Unending true a) r (λ x q. q) (λ x t k. ((w.0, (w.1.0, k.0)), k.1)) (L (w.0 ∷ a) z y w.1.1)

-- ---- parts that are completed by their phrase, where one of their sort is known to be

pub record Ending (part : Parts) (done : Known) : Type 0 where
  pub firm : Firmly part
  pub ends : (due : Sort) (least : ℕ) → done due least ≡ true → (a : List Kept) (z : State) → Still a z → Finishes body z (none_of (past due least)) (λ _ t. Still a t) (part due least) (phrase due)

module _ (part : Parts) (own : Sort) (f : Form) (done : Known) (E : Ending part done) (out : Classes) where
  abbrev pub Ended_so : {A : Type 0} → List Kept → A → State → Type 0
  Ended_so a x t = Still a t

  pub fin_pieces : (b : Bool) (before : Before) (ps : List Piece) → fit done own b ps out ≡ true → (a : List Kept) (z : State) → Within b a z → Finishes body z (none_of out) (Ended_so a) (pieces_in part own f before ps) (pieces_phrase own ps)
  unfolding pieces_in
  fin_pieces true before [] h a z w = absurd (cc h)
  fin_pieces false before [] h a z w = fin_give body z (none_of out) (Ended_so a) nothing w
  fin_pieces b before (Token c ∷ ps) h a z w = let k = both (shape_class_of c) (fit done own b ps out) h in
      fin_bind body z (Stays b a) anything (none_of out) (Ended_so a) (token (class_number c)) (λ _. pieces_in part own f Usual ps) (shape_of c ∷ []) (pieces_phrase own ps) (fin_token body z anything (Stays b a) (shape_of c) (class_number c) (token_written c k.0) w)
      (opens_anything (pieces_phrase own ps) (none_of out)) (λ _ t m. fin_pieces b Usual ps k.1 a t m)
  fin_pieces b before (Maybe c ∷ ps) h a z w = let k = both (opens_not c (pieces_phrase own ps)) (fit done own b ps out) h in by_first (pieces_phrase own ps) k.0 (fin_pieces b Usual ps k.1 a z w)
    where
      by_first : (u : List Shape) → opens_not c u ≡ true → Finishes body z (none_of out) (Ended_so a) (pieces_in part own f Usual ps) u → Finishes body z (none_of out) (Ended_so a) (Look (λ x. choose (is_class c x) (Next (pieces_in part own f Usual ps)) (pieces_in part own f Usual ps))) u
      by_first [] o F = absurd (cc o)
      by_first (x ∷ u) o F = fin_look body z (none_of out) (Ended_so a) (λ x. choose (is_class c x) (Next (pieces_in part own f Usual ps)) (pieces_in part own f Usual ps)) x u
          (λ n. fin_choose body z (none_of out) (Ended_so a) (is_class c (record { shape = x; class = written x })) (Next (pieces_in part own f Usual ps)) (pieces_in part own f Usual ps) (x ∷ u)
          (λ e. contrary (is_class c (record { shape = x; class = written x })) e (not_true (is_class c (record { shape = x; class = written x })) o)) (λ _. F))
  fin_pieces b before (Own ∷ ps) h a z w = absurd (cc h)
  fin_pieces b before (TypeTokens ∷ ps) h a z w = absurd (cc h)
  fin_pieces b before (KindName ∷ ps) h a z w = absurd (cc h)
  fin_pieces b before (Rest due ∷ ps) h a z w = absurd (cc h)
  fin_pieces b before (Anything ∷ ps) h a z w = absurd (cc h)
  fin_pieces b before (Group (Ended c d) due least ∷ (p ∷ ps)) h a z w =
      let k = both (group_done done (Ended c d) due least) (opens_so (group_past (Ended c d) due least) (pieces_phrase own (p ∷ ps)) out && fit done own b (p ∷ ps) out) h in
      let m = both (opens_so (group_past (Ended c d) due least) (pieces_phrase own (p ∷ ps)) out) (fit done own b (p ∷ ps) out) k.1 in
      let g = both (done due least) (group_ends (Ended c d) due && sound (Ended c d) due) k.0 in
      let o = both (group_ends (Ended c d) due) (sound (Ended c d) due) g.1 in
      fin_bind body z (Unending b a) (none_of (group_past (Ended c d) due least)) (none_of out) (Ended_so a) (gathered (Ended c d) due (part due least) before)
      (λ g. Bind (choose g.1.is_ended (pieces_in part own f Usual ps) (pieces_in part own f Usual (p ∷ ps))) (λ h. Give (with_first (list_from g.0 g.1) h))) (phrase due) (pieces_phrase own (p ∷ ps))
      (fin_unended b (none_of (group_past (Ended c d) due least)) (gathered (Ended c d) due (part due least) before) (phrase due) (λ a z k. fin_listed a due least (part due least) c d o.1 (E.ends due least g.0 a) o.0 before z k) a z w)
      (opens_if (group_past (Ended c d) due least) (pieces_phrase own (p ∷ ps)) out m.0)
      (λ g t n. fin_map body t (Ended_so a) (none_of out) (Ended_so a) (choose g.1.is_ended (pieces_in part own f Usual ps) (pieces_in part own f Usual (p ∷ ps))) (λ h. with_first (list_from g.0 g.1) h) (pieces_phrase own (p ∷ ps))
      (fin_choose body t (none_of out) (Ended_so a) g.1.is_ended (pieces_in part own f Usual ps) (pieces_in part own f Usual (p ∷ ps)) (pieces_phrase own (p ∷ ps)) (λ e. contrary g.1.is_ended e n.1) (λ _. fin_pieces b Usual (p ∷ ps) m.1 a t n.0)) (λ h t k. k))
  fin_pieces b before (Group r due least ∷ ps) h a z w =
      let j = both (is_plain r) (group_done done r due least && (opens_so (group_past r due least) (pieces_phrase own ps) out && fit done own b ps out)) h in
      let k = both (group_done done r due least) (opens_so (group_past r due least) (pieces_phrase own ps) out && fit done own b ps out) j.1 in
      let m = both (opens_so (group_past r due least) (pieces_phrase own ps) out) (fit done own b ps out) k.1 in
      let g = both (not (needs r) || done due least) (group_ends r due && sound r due) k.0 in
      let o = both (group_ends r due) (sound r due) g.1 in
      fin_bind body z (Stays b a) (none_of (group_past r due least)) (none_of out) (Ended_so a) (gathered r due (part due least) before)
      (λ g. Bind (pieces_in part own f (before_by (has_none g.1.trees)) ps) (λ h. Give (with_first (list_from g.0 g.1) h))) (group_phrase r due) (pieces_phrase own ps)
      (fin_within b (none_of (group_past r due least)) (gathered r due (part due least) before) (group_phrase r due) (λ a z k. fin_gathered (Still a) due least (part due least) (E.firm due least) r before (λ e. E.ends due least (if_needed (needs r) (done due least) g.0 e) a) j.0 o.1 o.0 z k) a z w)
      (opens_if (group_past r due least) (pieces_phrase own ps) out m.0)
      (λ g t n. fin_map body t (Ended_so a) (none_of out) (Ended_so a) (pieces_in part own f (before_by (has_none g.1.trees)) ps) (λ h. with_first (list_from g.0 g.1) h) (pieces_phrase own ps) (fin_pieces b (before_by (has_none g.1.trees)) ps m.1 a t n) (λ h t k. k))
  fin_pieces b before (One due least ∷ ps) h a z w =
      let k = both (done (inside own due) least) (opens_so (past (inside own due) least) (pieces_phrase own ps) out && fit done own b ps out) h in
      let m = both (opens_so (past (inside own due) least) (pieces_phrase own ps) out) (fit done own b ps out) k.1 in
      fin_bind body z (Stays b a) (none_of (past (inside own due) least)) (none_of out) (Ended_so a) (part (inside own due) least) (λ x. Bind (pieces_in part own f (before_by (is_absent x.tree)) ps) (λ g. Give (with_first x g))) (phrase (inside own due)) (pieces_phrase own ps)
      (fin_within b (none_of (past (inside own due) least)) (part (inside own due) least) (phrase (inside own due)) (E.ends (inside own due) least k.0) a z w) (opens_if (past (inside own due) least) (pieces_phrase own ps) out m.0)
      (λ x t n. fin_map body t (Ended_so a) (none_of out) (Ended_so a) (pieces_in part own f (before_by (is_absent x.tree)) ps) (λ g. with_first x g) (pieces_phrase own ps) (fin_pieces b (before_by (is_absent x.tree)) ps m.1 a t n) (λ g t n. n))
  fin_pieces b before (Then e ∷ ps) h a z w =
      let k = both (free e) (allowed e b && fit done own (pending e b) ps out) h in
      let m = both (allowed e b) (fit done own (pending e b) ps out) k.1 in
      fin_ask body z (none_of out) (Ended_so a) (λ i. choose (may_happen e i.state) (Change e (pieces_in part own f before ps)) Refuse) (pieces_phrase own ps)
      (λ place. fin_choose body z (none_of out) (Ended_so a) (may_happen e z) (Change e (pieces_in part own f before ps)) Refuse (pieces_phrase own ps)
      (λ _. fin_change body z (none_of out) (Ended_so a) e (pieces_in part own f before ps) (pieces_phrase own ps) (fin_pieces (pending e b) before ps m.1 a (happens e z) (event_within e b a z m.0 w)))
      (λ no. absurd (contrary (may_happen e z) (happens_freely e z k.0 (not_due b a z w)) no)))

-- ---- parts each of whose prefixes can be completed

pub record Able (calls : Calls) (deep : ℕ) (part : Parts) (live : Known) : Type 1 where
  pub lives : (due : Sort) (least : ℕ) → live due least ≡ true → (a : List Kept) (z : State) (y : Shape) → Still a z → Live body calls deep z y (none_of (past due least)) (λ _ t. Still a t) (part due least)
  pub leaves : (due : Sort) (least : ℕ) → live due least ≡ true → (a : List Kept) (z : State) (y : Shape) → Still a z → Leaves body z y (part due least) (λ _ t. Still a t)

module _ (calls : Calls) (deep : ℕ) (part : Parts) (own : Sort) (f : Form) (live done : Known) (E : Ending part done) (L : Able calls deep part live) (out : Classes) where
  abbrev Ends_so : {A : Type 0} → List Kept → A → State → Type 0
  Ends_so a x t = Still a t

  live_taken : (b : Bool) (pick : Reader (Unit {0})) (ps : List Piece) (a : List Kept) (z : State) (y : Shape) → Live body calls deep z y anything (Stays b a) pick → Leaves body z y pick (Stays b a)
      → fit done own b ps out ≡ true → ((t : State) (x : Shape) → Within b a t → Live body calls deep t x (none_of out) (Ends_so a) (pieces_in part own f Usual ps)) → Live body calls deep z y (none_of out) (Ends_so a) (Bind pick (λ _. pieces_in part own f Usual ps))
  live_taken b pick ps a z y L K h R = live_bind body calls deep z y (Stays b a) (Stays b a) anything (none_of out) (Ends_so a) pick (λ _. pieces_in part own f Usual ps) L K
      (record { tokens = pieces_phrase own ps; opens = opens_anything (pieces_phrase own ps) (none_of out); finishes = λ _ t m. fin_pieces part own f done E out b Usual ps h a t m }) (λ _ t x m. R t x m)

  pub live_pieces : (b : Bool) (before : Before) (ps : List Piece) → fit_from live done own b ps out ≡ true → (a : List Kept) (z : State) (y : Shape) → Within b a z → Live body calls deep z y (none_of out) (Ends_so a) (pieces_in part own f before ps)
  unfolding pieces_in
  live_pieces b before [] h a z y w = tt
  live_pieces b before (Token c ∷ ps) h a z y w = let k = both (fit done own b ps out) (fit_from live done own b ps out) h in
      live_taken b (token (class_number c)) ps a z y (λ _ _. w, tt) (λ d. leaving_pick (below body d) d z y (λ x. only (nat_eq x.class (class_number c))) (Stays b a) (λ _ _. w)) k.0 (λ t x m. live_pieces b Usual ps k.1 a t x m)
  live_pieces b before (Own ∷ ps) h a z y w = let k = both (fit done own b ps out) (fit_from live done own b ps out) h in
      live_taken b (Pick (λ x. only (has (held_class f) x.class))) ps a z y (λ _ _. w, tt) (λ d. leaving_pick (below body d) d z y (λ x. only (has (held_class f) x.class)) (Stays b a) (λ _ _. w)) k.0 (λ t x m. live_pieces b Usual ps k.1 a t x m)
  live_pieces b before (Maybe c ∷ ps) h a z y w = let k = both (fit done own b ps out) (fit_from live done own b ps out) h in
      live_choose body calls deep z y (none_of out) (Ends_so a) (is_class c (seen z y)) (Next (pieces_in part own f Usual ps)) (pieces_in part own f Usual ps)
      (λ _. live_next body calls deep z y (none_of out) (Ends_so a) (pieces_in part own f Usual ps) (pieces_phrase own ps) (fin_pieces part own f done E out b Usual ps k.0 a z w) (λ x. live_pieces b Usual ps k.1 a z x w)) (λ _. live_pieces b Usual ps k.1 a z y w)
  live_pieces b before (TypeTokens ∷ ps) h a z y w = absurd (cc h)
  live_pieces b before (KindName ∷ ps) h a z y w = absurd (cc h)
  live_pieces b before (Rest due ∷ ps) h a z y w = absurd (cc h)
  live_pieces b before (Anything ∷ ps) h a z y w = absurd (cc h)
  live_pieces b before (Group (Ended c d) due least ∷ (p ∷ ps)) h a z y w =
      let i = both (live due least && done due least) (group_done done (Ended c d) due least && (opens_so (group_past (Ended c d) due least) (pieces_phrase own (p ∷ ps)) out && (fit done own b (p ∷ ps) out && (fit_from live done own b ps out && fit_from live done own b (p ∷ ps) out)))) h in
      let k = both (group_done done (Ended c d) due least) (opens_so (group_past (Ended c d) due least) (pieces_phrase own (p ∷ ps)) out && (fit done own b (p ∷ ps) out && (fit_from live done own b ps out && fit_from live done own b (p ∷ ps) out))) i.1 in
      let m = both (opens_so (group_past (Ended c d) due least) (pieces_phrase own (p ∷ ps)) out) (fit done own b (p ∷ ps) out && (fit_from live done own b ps out && fit_from live done own b (p ∷ ps) out)) k.1 in
      let n = both (fit done own b (p ∷ ps) out) (fit_from live done own b ps out && fit_from live done own b (p ∷ ps) out) m.1 in
      let e = both (fit_from live done own b ps out) (fit_from live done own b (p ∷ ps) out) n.1 in
      let g = both (done due least) (group_ends (Ended c d) due && sound (Ended c d) due) k.0 in
      let o = both (group_ends (Ended c d) due) (sound (Ended c d) due) g.1 in
      let l = both (live due least) (done due least) i.0 in
      live_bind body calls deep z y (Stays b a) (Unending b a) (none_of (group_past (Ended c d) due least)) (none_of out) (Ends_so a) (gathered (Ended c d) due (part due least) before)
      (λ g. Bind (choose g.1.is_ended (pieces_in part own f Usual ps) (pieces_in part own f Usual (p ∷ ps))) (λ h. Give (with_first (list_from g.0 g.1) h)))
      (live_unended calls deep b (none_of (group_past (Ended c d) due least)) (gathered (Ended c d) due (part due least) before)
      (λ a z y k. live_listed a due least (part due least) c d o.1 (E.ends due least l.1 a) o.0 calls deep (L.lives due least l.0 a) (L.leaves due least l.0) before z y k) a z y w)
      (leaves_within b (gathered (Ended c d) due (part due least) before) (λ a z y k e. stays_gathered (below body e) e Still (Ended c d) due (part due least) before (λ a z y k. L.leaves due least l.0 a z y k e) a z y k) a z y w)
      (record {
        tokens = pieces_phrase own (p ∷ ps);
        opens = opens_if (group_past (Ended c d) due least) (pieces_phrase own (p ∷ ps)) out m.0;
        finishes = λ g t q. fin_map body t (Ends_so a) (none_of out) (Ends_so a) (choose g.1.is_ended (pieces_in part own f Usual ps) (pieces_in part own f Usual (p ∷ ps))) (λ h. with_first (list_from g.0 g.1) h) (pieces_phrase own (p ∷ ps))
            (fin_choose body t (none_of out) (Ends_so a) g.1.is_ended (pieces_in part own f Usual ps) (pieces_in part own f Usual (p ∷ ps)) (pieces_phrase own (p ∷ ps)) (λ e. contrary g.1.is_ended e q.1) (λ _. fin_pieces part own f done E out b Usual (p ∷ ps) n.0 a t q.0)) (λ h t k. k);
      })
      (λ g t y q. live_map body calls deep t y (Ends_so a) (none_of out) (none_of out) (Ends_so a) (choose g.1.is_ended (pieces_in part own f Usual ps) (pieces_in part own f Usual (p ∷ ps))) (λ h. with_first (list_from g.0 g.1) h) (λ x q. q) (λ h t k. k)
      (live_choose body calls deep t y (none_of out) (Ends_so a) g.1.is_ended (pieces_in part own f Usual ps) (pieces_in part own f Usual (p ∷ ps)) (λ _. live_pieces b Usual ps e.0 a t y q) (λ _. live_pieces b Usual (p ∷ ps) e.1 a t y q)))
  live_pieces b before (Group r due least ∷ ps) h a z y w =
      let j = both (is_plain r) ((live due least && done due least) && (group_done done r due least && (opens_so (group_past r due least) (pieces_phrase own ps) out && (fit done own b ps out && fit_from live done own b ps out)))) h in
      let i = both (live due least && done due least) (group_done done r due least && (opens_so (group_past r due least) (pieces_phrase own ps) out && (fit done own b ps out && fit_from live done own b ps out))) j.1 in
      let k = both (group_done done r due least) (opens_so (group_past r due least) (pieces_phrase own ps) out && (fit done own b ps out && fit_from live done own b ps out)) i.1 in
      let m = both (opens_so (group_past r due least) (pieces_phrase own ps) out) (fit done own b ps out && fit_from live done own b ps out) k.1 in
      let n = both (fit done own b ps out) (fit_from live done own b ps out) m.1 in
      let g = both (not (needs r) || done due least) (group_ends r due && sound r due) k.0 in
      let o = both (group_ends r due) (sound r due) g.1 in
      let l = both (live due least) (done due least) i.0 in
      live_bind body calls deep z y (Stays b a) (Stays b a) (none_of (group_past r due least)) (none_of out) (Ends_so a) (gathered r due (part due least) before)
      (λ g. Bind (pieces_in part own f (before_by (has_none g.1.trees)) ps) (λ h. Give (with_first (list_from g.0 g.1) h)))
      (live_within calls deep b (none_of (group_past r due least)) (gathered r due (part due least) before)
      (λ a z y k. live_gathered (Still a) due least (part due least) (E.firm due least) (E.ends due least l.1 a) calls deep (L.lives due least l.0 a) (L.leaves due least l.0 a) r before j.0 o.1 z y k) a z y w)
      (leaves_within b (gathered r due (part due least) before) (λ a z y k e. stays_gathered (below body e) e Still r due (part due least) before (λ a z y k. L.leaves due least l.0 a z y k e) a z y k) a z y w)
      (record {
        tokens = pieces_phrase own ps;
        opens = opens_if (group_past r due least) (pieces_phrase own ps) out m.0;
        finishes = λ g t q. fin_map body t (Ends_so a) (none_of out) (Ends_so a) (pieces_in part own f (before_by (has_none g.1.trees)) ps) (λ h. with_first (list_from g.0 g.1) h) (pieces_phrase own ps) (fin_pieces part own f done E out b (before_by (has_none g.1.trees)) ps n.0 a t q) (λ h t k. k);
      })
      (λ g t y q. live_map body calls deep t y (Ends_so a) (none_of out) (none_of out) (Ends_so a) (pieces_in part own f (before_by (has_none g.1.trees)) ps) (λ h. with_first (list_from g.0 g.1) h) (λ x q. q) (λ h t k. k) (live_pieces b (before_by (has_none g.1.trees)) ps n.1 a t y q))
  live_pieces b before (One due least ∷ ps) h a z y w =
      let k = both (live (inside own due) least) (opens_so (past (inside own due) least) (pieces_phrase own ps) out && (fit done own b ps out && fit_from live done own b ps out)) h in
      let m = both (opens_so (past (inside own due) least) (pieces_phrase own ps) out) (fit done own b ps out && fit_from live done own b ps out) k.1 in
      let n = both (fit done own b ps out) (fit_from live done own b ps out) m.1 in
      live_bind body calls deep z y (Stays b a) (Stays b a) (none_of (past (inside own due) least)) (none_of out) (Ends_so a) (part (inside own due) least) (λ x. Bind (pieces_in part own f (before_by (is_absent x.tree)) ps) (λ g. Give (with_first x g)))
      (live_within calls deep b (none_of (past (inside own due) least)) (part (inside own due) least) (L.lives (inside own due) least k.0) a z y w) (leaves_within b (part (inside own due) least) (L.leaves (inside own due) least k.0) a z y w)
      (record {
        tokens = pieces_phrase own ps;
        opens = opens_if (past (inside own due) least) (pieces_phrase own ps) out m.0;
        finishes = λ x t q. fin_map body t (Ends_so a) (none_of out) (Ends_so a) (pieces_in part own f (before_by (is_absent x.tree)) ps) (λ g. with_first x g) (pieces_phrase own ps) (fin_pieces part own f done E out b (before_by (is_absent x.tree)) ps n.0 a t q) (λ g t q. q);
      })
      (λ x t y q. live_map body calls deep t y (Ends_so a) (none_of out) (none_of out) (Ends_so a) (pieces_in part own f (before_by (is_absent x.tree)) ps) (λ g. with_first x g) (λ x q. q) (λ g t q. q) (live_pieces b (before_by (is_absent x.tree)) ps n.1 a t y q))
  live_pieces b before (Then e ∷ ps) h a z y w =
      let m = both (allowed e b) (fit_from live done own (pending e b) ps out) h in
      λ place. live_choose body calls deep z y (none_of out) (Ends_so a) (may_happen e z) (Change e (pieces_in part own f before ps)) Refuse (λ _. live_pieces (pending e b) before ps m.1 a (happens e z) y (event_within e b a z m.0 w)) (λ _. tt)

-- after the token that stands there and begins them
module _ (part : Parts) (own : Sort) (f : Form) (live done : Known) (E : Ending part done) (out : Classes) where
  abbrev After : {A : Type 0} → List Kept → A → State → Type 0
  After a x t = Still a t

  begun_taken : (pick : Seen → Option (Unit {0})) (b : Bool) (ps : List Piece) → fit done own b ps out ≡ true → (a : List Kept) (z : State) (y : Shape) → Within b a z → pick (seen z y) ≡ Some tt → Begun body z y (none_of out) (After a) (Bind (Pick pick) (λ _. pieces_in part own f Usual ps))
  begun_taken pick b ps h a z y w e = begun_bind body z y (Stays b a) anything (none_of out) (After a) (Pick pick) (λ _. pieces_in part own f Usual ps) (begun_pick body z y anything (Stays b a) pick tt e w)
      (record { tokens = pieces_phrase own ps; opens = opens_anything (pieces_phrase own ps) (none_of out); finishes = λ _ t m. fin_pieces part own f done E out b Usual ps h a t m })

  pub begun_pieces : (b : Bool) (before : Before) (ps : List Piece) → fit_from live done own b ps out ≡ true → (a : List Kept) (z : State) (y : Shape) → Within b a z → begins_with f ps (class z y) ≡ true → Begun body z y (none_of out) (After a) (pieces_in part own f before ps)
  unfolding pieces_in
  begun_pieces b before [] h a z y w o = absurd (cc o)
  begun_pieces b before (Token c ∷ ps) h a z y w o = begun_taken (λ x. only (nat_eq x.class (class_number c))) b ps (both (fit done own b ps out) (fit_from live done own b ps out) h).0 a z y w (ap only o)
  begun_pieces b before (Own ∷ ps) h a z y w o = begun_taken (λ x. only (has (held_class f) x.class)) b ps (both (fit done own b ps out) (fit_from live done own b ps out) h).0 a z y w (ap only o)
  begun_pieces b before (Maybe c ∷ ps) h a z y w o = absurd (cc o)
  begun_pieces b before (TypeTokens ∷ ps) h a z y w o = absurd (cc o)
  begun_pieces b before (KindName ∷ ps) h a z y w o = absurd (cc o)
  begun_pieces b before (One due least ∷ ps) h a z y w o = absurd (cc o)
  begun_pieces b before (Group r due least ∷ ps) h a z y w o = absurd (cc o)
  begun_pieces b before (Rest due ∷ ps) h a z y w o = absurd (cc o)
  begun_pieces b before (Anything ∷ ps) h a z y w o = absurd (cc o)
  begun_pieces b before (Then e ∷ ps) h a z y w o = absurd (cc o)
