-- What a live reader took, or lacks levels for, can be completed.
use Rattle.std.proofs.Common.{◌≡◌, inl, inr, refl, subst, ap, sym, ◌∙◌, ℕ, zero, suc, ◌+◌, ◌<◌, ◌≤◌, nat_lt, Bool, true, false, List, [], ◌++◌, length, Option, Some, None, Ok, Err, arith}
use Rattle.std.proofs.lemmas.Bool.{cases_lt}
use borrow.Author.Tests.{ltb-true}
use Rattle.c_tokens.specs.declared.token.Shape.{Shape}
use Rattle.c_forms.specs.declared.pieces.Event.{Event}
use Rattle.c_reader.specs.declared.refusal.Refusal.TheVariants.{Memory, Syntax, TooDeep}
use Rattle.c_reader.specs.States.{State, Seen, seen, happens, noted}
use Rattle.c_reader.specs.Tokens.{Spot, spot, step, turned, raw_at, seen_at}
use Rattle.c_reader.specs.Readers.{Input, Reader, Outcome, Turn, More, Last, Rule, Body, Found, Give, Refuse, Look, Next, Pick, Note, Bind, Fits, Call, Loop, Ask, Change, read, below, pick, when, and_then, after, loop}
use Rattle.c_reader.proofs.Bounds.{Bounded, Tame}
use Rattle.c_reader.proofs.Local.{from, already, Onward, onward}
use Rattle.c_reader.proofs.Fresh.{freshly, fresh_step, fresh_event}
use Rattle.c_reader.proofs.Leaves.{Leaves, Turned, anyhow}
use Rattle.c_reader.proofs.Phrases.{ends_so, Tokens, Here, Ends, Finishes, Phrase, Way, Begun, here_split, opens_first, still, ends_bind, raised, called, ends_more, ends_turn}
use Rattle.c_reader.proofs.Live.{Calls, Live, Before, Continues}

module _ (body : Body) (bodies : (n : Rule) → Tame body (body n)) where
  then_way : {A B : Type 0} (K : B → State → Type 0) (P Q : Tokens) (J : A → State → Type 0) (r : Reader B) (f : B → Reader A) (w : List Shape) (i : Spot) (p : ℕ) → Way body K P Q J f → Continues body P K r w i p → Continues body Q J (Bind r f) w i p
  then_way K P Q J r f w i p W C = record {
    tokens = C.tokens ++ W.tokens;
    finishes = λ N v j z agree here quiet.
        let s = here_split N C.tokens W.tokens v (p + 1) j here in
        let E : Ends body K r v i s.0 = C.finishes N v s.0 z agree s.1.0 (opens_first N P Q W.tokens v s.0 j W.opens s.1.1 quiet) in
        ends_bind body K J r f v i s.0 j E (W.finishes E.value E.state E.meets N v s.0 j (still body K N v i s.0 r z E) s.1.1 quiet);
  }

  after_first : {A B : Type 0} (Q : Tokens) (J : A → State → Type 0) (d : ℕ) (r : Reader B) (f : B → Reader A) (w : List Shape) (i m : Spot) (p : ℕ) (b : B) → Tame body r → read body d r (from w i) ≡ Ok (b, from w m) → m.place ≤ p
      → Continues body Q J (f b) w m p → Continues body Q J (Bind r f) w i p
  after_first Q J d r f w i m p b T e le C = record {
    tokens = C.tokens;
    finishes = λ N v j z agree here quiet.
        let A : read body d r (from v i) ≡ Ok (b, from v m) = already body bodies d r w v p i m b T e le agree in
        ends_bind body anyhow J r f v i m.place j (record { levels = d; value = b; state = m.state; reads = A; meets = tt }) (C.finishes N v j (freshly body N v i z d r b m A) agree here quiet);
  }

  live_part : {A B : Type 0} (I K : B → State → Type 0) (P Q : Tokens) (J : A → State → Type 0) (d : ℕ) (r : Reader B) (f : B → Reader A) (w : List Shape) (i : Spot) (p : ℕ) (o : Outcome B) → Tame body r → Leaves body i.state (raw_at w i.place) r I → read body d r (from w i) ≡ o → Onward w i.place o
      → Way body K P Q J f → (Before p o → Continues body P K r w i p) → ((b : B) (m : Spot) → I b m.state → m.place ≤ p → Before p (read body d (f b) (from w m)) → Continues body Q J (f b) w m p)
      → Before p (and_then o (λ b j. read body d (f b) j)) → Continues body Q J (Bind r f) w i p
  live_part I K P Q J d r f w i p (Err Memory) T L e on W R F b = absurd b
  live_part I K P Q J d r f w i p (Err (Syntax k)) T L e on W R F b = then_way K P Q J r f w i p W (R b)
  live_part I K P Q J d r f w i p (Err (TooDeep k)) T L e on W R F b = then_way K P Q J r f w i p W (R b)
  live_part I K P Q J d r f w i p (Ok q) T L e on W R F b = elim (cases_lt p q.1.at.place) [
    | inl within ↦ then_way K P Q J r f w i p W (R within)
    | inr past ↦ after_first Q J d r f w i q.1.at p q.0 T (e ∙ ap (λ j. Ok (q.0, j)) on.0) past (F q.0 q.1.at (L d (from w i) refl refl q.0 (from w q.1.at) (e ∙ ap (λ j. Ok (q.0, j)) on.0)) past (subst (λ j. Before p (read body d (f q.0) j)) on.0 b))
  ]

  -- ---- loops

  module _ {A S : Type 0} (Q : Tokens) (J : A → State → Type 0) (f : S → Reader (Turn S A)) (B : Bounded body f) (T : (s : S) → Tame body (f s)) (I K : S → State → Type 0) (leaves : (s : S) (z : State) (y : Shape) → I s z → Leaves body z y (f s) (Turned I anyhow)) (quiet : (s : S) (z : State) → K s z → Finishes body z Q J (Loop f s) []) (d : ℕ) (w : List Shape) (p : ℕ) where
    in_turn : (s : S) (i : Spot) → Continues body Q (Turned K J) (f s) w i p → Continues body Q J (Loop f s) w i p
    in_turn s i C = record {
      tokens = C.tokens;
      finishes = λ N v j z agree here q. let E : Ends body (Turned K J) (f s) v i j = C.finishes N v j z agree here q in ends_turn body f B J K Q quiet N s v i j E.state E.levels E.value z E.meets E.reads q;
    }

    after_turn : (s t : S) (i m : Spot) → read body d (f s) (from w i) ≡ Ok (More t, from w m) → m.place ≤ p → Continues body Q J (Loop f t) w m p → Continues body Q J (Loop f s) w i p
    after_turn s t i m e le C = record {
      tokens = C.tokens;
      finishes = λ N v j z agree here q.
          let A : read body d (f s) (from v i) ≡ Ok (More t, from v m) = already body bodies d (f s) w v p i m (More t) (T s) e le agree in
          ends_more body f B J s t v i m j d A (C.finishes N v j (freshly body N v i z d (f s) (More t) m A) agree here q);
    }

    by_result : (s : S) (i m : Spot) (g : S → Input → Outcome A) (r : Turn S A)
        → read body d (f s) (from w i) ≡ Ok (r, from w m) → m.place ≤ p
        → ((t : S) → read body d (f s) (from w i) ≡ Ok (More t, from w m) → Before p (g t (from w m)) → Continues body Q J (Loop f t) w m p)
        → Before p (after g r (from w m)) → Continues body Q J (Loop f s) w i p
    by_result s i m g (More t) e le G b = after_turn s t i m e le (G t e b)
    by_result s i m g (Last a) e le G b = absurd (omega arith)

    by_turn : (s : S) (i : Spot) (g : S → Input → Outcome A) (o : Outcome (Turn S A))
        → read body d (f s) (from w i) ≡ o → Onward w i.place o → (Before p o → Continues body Q (Turned K J) (f s) w i p)
        → ((t : S) (m : Spot) → read body d (f s) (from w i) ≡ Ok (More t, from w m) → m.place ≤ p → Before p (g t (from w m)) → Continues body Q J (Loop f t) w m p)
        → Before p (and_then o (after g)) → Continues body Q J (Loop f s) w i p
    by_turn s i g (Err Memory) e on R G b = absurd b
    by_turn s i g (Err (Syntax k)) e on R G b = in_turn s i (R b)
    by_turn s i g (Err (TooDeep k)) e on R G b = in_turn s i (R b)
    by_turn s i g (Ok q) e on R G b = elim (cases_lt p q.1.at.place) [
      | inl within ↦ in_turn s i (R within)
      | inr past ↦ by_result s i q.1.at g q.0 (e ∙ ap (λ j. Ok (q.0, j)) on.0) past (λ t e b. G t q.1.at e past b) (subst (λ j. Before p (after g q.0 j)) on.0 b)
    ]

    -- `n` turns are left, which are enough for the size
    live_loop : ((s : S) (i : Spot) → I s i.state → i.place ≤ p → Before p (read body d (f s) (from w i)) → Continues body Q (Turned K J) (f s) w i p)
        → (n : ℕ) (s : S) (i : Spot) → B.left d s (from w i) ≤ n → I s i.state → i.place ≤ p → Before p (loop n (λ s j. read body d (f s) j) s (from w i)) → Continues body Q J (Loop f s) w i p
    unfolding loop
    live_loop R zero s i enough k le b = by_turn s i (λ _ j. Err (TooDeep j.at.place)) _ refl (onward body d w (f s) i) (R s i k le)
        (λ t m e past b. absurd (omega (arith, (B.shrinks d).falls s (from w i) t (from w m) e))) b
    live_loop R (suc n) s i enough k le b = by_turn s i (loop n (λ s j. read body d (f s) j)) _ refl (onward body d w (f s) i) (R s i k le)
        (λ t m e past b. live_loop R n t m (omega (arith, (B.shrinks d).falls s (from w i) t (from w m) e)) (leaves s i.state (raw_at w i.place) k d (from w i) refl refl (More t) (from w m) e) past b) b

  -- ---- all readers

  ends_look : {A : Type 0} (Q : Tokens) (J : A → State → Type 0) (f : Seen → Reader A) (w : List Shape) (i : Spot) (p : ℕ) → i.place ≤ p → Continues body Q J (f (seen_at w i)) w i p → Continues body Q J (Look f) w i p
  ends_look Q J f w i p le C = record {
    tokens = C.tokens;
    finishes = λ N v j z agree here q. let E : Ends body J (f (seen_at w i)) v i j = C.finishes N v j z agree here q in record {
      levels = E.levels;
      value = E.value;
      state = E.state;
      reads = subst (λ x. read body E.levels (f x) (from v i) ≡ Ok (E.value, from v (spot j E.state))) (ap (seen i.state) (agree i.place le)) E.reads;
      meets = E.meets;
    };
  }

  ends_next : {A : Type 0} (Q : Tokens) (J : A → State → Type 0) (r : Reader A) (w : List Shape) (i : Spot) (p : ℕ) → i.place ≤ p → Phrase body i.state Q J r → (i.place + 1 ≤ p → Continues body Q J r w (step i) p) → Continues body Q J (Next r) w i p
  ends_next Q J r w i p le P C = elim (cases_lt i.place p) [
    | inl more ↦ (let D : Continues body Q J r w (step i) p = C (omega arith) in record {
      tokens = D.tokens;
      finishes = λ N v j z agree here q. let E : Ends body J r v (step i) j = D.finishes N v j (fresh_step N v i z) agree here q in record { levels = E.levels; value = E.value; state = E.state; reads = E.reads; meets = E.meets };
    })
    | inr here ↦ record {
      tokens = P.tokens;
      finishes = λ N v j z agree h q. let at : p + 1 ≡ i.place + 1 = omega arith in
          let E : Ends body J r v (step i) j = P.finishes N v (i.place + 1) j (fresh_step N v i z) (subst (λ k. Here N P.tokens v k j) at h) q in record { levels = E.levels; value = E.value; state = E.state; reads = E.reads; meets = E.meets };
    }
  ]

  ends_raised : {A : Type 0} (Q : Tokens) (J : A → State → Type 0) (h : ℕ) (r : Reader A) (w : List Shape) (i : Spot) (p : ℕ) → Continues body Q J r w i p → Continues body Q J (Fits h r) w i p
  ends_raised Q J h r w i p C = record { tokens = C.tokens; finishes = λ N v j z agree here q. raised body J h r v i j (C.finishes N v j z agree here q) }

  -- levels are missing at the token that stands there
  ends_begun : {A : Type 0} (Q : Tokens) (J : A → State → Type 0) (h : ℕ) (r : Reader A) (w : List Shape) (i : Spot) (p : ℕ) → p ≡ i.place → Begun body i.state (raw_at w i.place) Q J r → Continues body Q J (Fits h r) w i p
  ends_begun Q J h r w i p at G = record {
    tokens = G.tokens;
    finishes = λ N v j z agree here q.
        let le : i.place ≤ p = omega (arith, at) in
        raised body J h r v i j (G.finishes N v i.place j z (sym (agree i.place le)) (subst (λ k. Here N G.tokens v (k + 1) j) at here) q);
  }

  ends_fits : {A : Type 0} (Q : Tokens) (J : A → State → Type 0) (h d : ℕ) (r : Reader A) (w : List Shape) (i : Spot) (p : ℕ) (b : Bool) → nat_lt h d ≡ b → i.place ≤ p → Begun body i.state (raw_at w i.place) Q J r
      → (suc h ≤ d → Before p (read body d r (from w i)) → Continues body Q J r w i p) → Before p (when b (read body d r (from w i)) i.place) → Continues body Q J (Fits h r) w i p
  ends_fits Q J h d r w i p true e le G R b = ends_raised Q J h r w i p (R (omega (arith, ltb-true h d e)) b)
  ends_fits Q J h d r w i p false e le G R b = ends_begun Q J h r w i p (omega (arith, b, le)) G

  ends_pick : {A : Type 0} (Q : Tokens) (J : A → State → Type 0) (f : Seen → Option A) (w : List Shape) (i : Spot) (p : ℕ) → i.place ≤ p → ((a : A) → f (seen_at w i) ≡ Some a → J a i.state) → (o : Option A) → f (seen_at w i) ≡ o → Before p (pick o (from w i)) → Continues body Q J (Pick f) w i p
  ends_pick Q J f w i p le k None e b = absurd (omega arith)
  ends_pick Q J f w i p le k (Some a) e b = record {
    tokens = [];
    finishes = λ N v j z agree here q. let at : i.place + 1 ≡ j = (let near : i.place + 1 ≡ p + 1 = omega arith in near ∙ here) in
        let same : f (seen_at v i) ≡ Some a = ap f (ap (seen i.state) (sym (agree i.place le))) ∙ e in record { levels = 0; value = a; state = i.state; reads = rw (same, at); meets = k a e };
  }

  ends_note : {A : Type 0} (Q : Tokens) (J : A → State → Type 0) (f : Seen → Option A) (w : List Shape) (i : Spot) (p : ℕ) → i.place ≤ p → ((a : A) → f (seen_at w i) ≡ Some a → J a (noted (raw_at w i.place) i.state)) → (o : Option A) → f (seen_at w i) ≡ o
      → Before p (pick o (from w (turned (noted (raw_at w i.place)) i))) → Continues body Q J (Note f) w i p
  ends_note Q J f w i p le k None e b = absurd (omega arith)
  ends_note Q J f w i p le k (Some a) e b = record {
    tokens = [];
    finishes = λ N v j z agree here q. let at : i.place + 1 ≡ j = (let near : i.place + 1 ≡ p + 1 = omega arith in near ∙ here) in record {
      levels = 0;
      value = a;
      state = noted (raw_at w i.place) i.state;
      reads = subst (λ x. pick (f (seen i.state x)) (from v (turned (noted x) i)) ≡ Ok (a, from v (spot j (noted (raw_at w i.place) i.state)))) (agree i.place le)
          (ap (λ o. pick o (from v (turned (noted (raw_at w i.place)) i))) e ∙ ap (λ k. Ok (a, from v (spot k (noted (raw_at w i.place) i.state)))) at);
      meets = k a e;
    };
  }

  ends_ask : {A : Type 0} (Q : Tokens) (J : A → State → Type 0) (f : Spot → Reader A) (w : List Shape) (i : Spot) (p : ℕ) → Continues body Q J (f i) w i p → Continues body Q J (Ask f) w i p
  ends_ask Q J f w i p C = record {
    tokens = C.tokens;
    finishes = λ N v j z agree here q. let E : Ends body J (f i) v i j = C.finishes N v j z agree here q in record { levels = E.levels; value = E.value; state = E.state; reads = E.reads; meets = E.meets };
  }

  ends_change : {A : Type 0} (Q : Tokens) (J : A → State → Type 0) (e : Event) (r : Reader A) (w : List Shape) (i : Spot) (p : ℕ) → Continues body Q J r w (turned (happens e) i) p → Continues body Q J (Change e r) w i p
  ends_change Q J e r w i p C = record {
    tokens = C.tokens;
    finishes = λ N v j z agree here q. let E : Ends body J r v (turned (happens e) i) j = C.finishes N v j (fresh_event N v i e z) agree here q in record { levels = E.levels; value = E.value; state = E.state; reads = E.reads; meets = E.meets };
  }

  weaker : {A : Type 0} (P Q : Tokens) (K J : A → State → Type 0) (r : Reader A) (w : List Shape) (i : Spot) (p : ℕ) → ((x : Shape) → Q x ≡ true → P x ≡ true) → ((a : A) (t : State) → K a t → J a t) → Continues body P K r w i p → Continues body Q J r w i p
  weaker P Q K J r w i p up so C = record { tokens = C.tokens; finishes = λ N v j z agree here q. ends_so body K J r v i j so (C.finishes N v j z agree here (up (raw_at v j) q)) }

  module _ (calls : Calls) where
    module _ (d : ℕ) (w : List Shape) (p : ℕ)
        (deeper : (n : Rule) (i : Spot) → calls.Good n i.state (raw_at w i.place) → calls.needs n < d → i.place ≤ p → Before p (below body d n (from w i)) → Continues body (calls.following n) (calls.Gives n i.state) (Call n) w i p) where
      live_run : {A : Type 0} (r : Reader A) (deep : ℕ) (Q : Tokens) (J : A → State → Type 0) (i : Spot) → Tame body r → Live body calls deep i.state (raw_at w i.place) Q J r → deep ≤ d → i.place ≤ p → Before p (read body d r (from w i)) → Continues body Q J r w i p
      live_run (Give a) deep Q J i T L D le b = absurd (omega arith)
      live_run Refuse deep Q J i T L D le b = absurd (omega arith)
      live_run (Look f) deep Q J i T L D le b = ends_look Q J f w i p le (live_run (f (seen_at w i)) deep Q J i (T (seen_at w i)) L D le b)
      live_run (Next r) deep Q J i T L D le b = ends_next Q J r w i p le L.0 (λ more. live_run r deep Q J (step i) T (L.1 (raw_at w (i.place + 1))) D more b)
      live_run (Pick f) deep Q J i T L D le b = ends_pick Q J f w i p le L.0 (f (seen_at w i)) refl b
      live_run (Note f) deep Q J i T L D le b = ends_note Q J f w i p le L.0 (f (seen_at w i)) refl b
      live_run (Bind r f) deep Q J i T L D le b = live_part L.1.0 L.1.1.0 L.0 Q J d r f w i p _ T.0 L.1.1.1.1.0 refl (onward body d w r i) L.1.1.1.1.1.0
          (λ b. live_run r deep L.0 L.1.1.0 i T.0 L.1.1.1.0 D le b) (λ x m k past b. live_run (f x) deep Q J m (T.1 x) (L.1.1.1.1.1.1 x m.state (raw_at w m.place) k) D past b) b
      live_run (Fits h r) deep Q J i T L D le b = ends_fits Q J h d r w i p (nat_lt h d) refl le L.0 (λ room b. live_run r (suc h) Q J i T L.1 room le b) b
      live_run (Call n) deep Q J i T L D le b = weaker (calls.following n) Q (calls.Gives n i.state) J (Call n) w i p L.1.1.0 L.1.1.1.0 (deeper n i L.0 (omega (arith, L.1.0)) le b)
      live_run (Loop f s) deep Q J i T L D le b = live_loop Q J f T.0 T.1 L.0 L.1.0 L.1.1.1.1.0 L.1.1.1.1.1 d w p (λ s i k le b. live_run (f s) deep Q (Turned L.1.0 J) i (T.1 s) (L.1.1.1.0 s i.state (raw_at w i.place) k) D le b)
          (d + length w) s i (T.0.few d s (from w i)) L.1.1.0 le b
      live_run (Ask f) deep Q J i T L D le b = ends_ask Q J f w i p (live_run (f i) deep Q J i (T i) (L i.place) D le b)
      live_run (Change e r) deep Q J i T L D le b = ends_change Q J e r w i p (live_run r deep Q J (turned (happens e) i) T L D le b)

    module _ (lives : (n : Rule) (s : State) (y : Shape) → calls.Good n s y → Live body calls (calls.needs n) s y (calls.following n) (calls.Gives n s) (body n)) where
      continues_call : (n : Rule) (J : Found → State → Type 0) (w : List Shape) (i : Spot) (p : ℕ) → Continues body (calls.following n) J (body n) w i p → Continues body (calls.following n) J (Call n) w i p
      continues_call n J w i p C = record { tokens = C.tokens; finishes = λ N v j z agree here q. called body J n v i j (C.finishes N v j z agree here q) }

      live_call : (d : ℕ) (w : List Shape) (p : ℕ) (n : Rule) (i : Spot) → calls.Good n i.state (raw_at w i.place) → calls.needs n < d → i.place ≤ p → Before p (below body d n (from w i)) → Continues body (calls.following n) (calls.Gives n i.state) (Call n) w i p
      unfolding below
      live_call zero w p n i good some le b = absurd (omega arith)
      live_call (suc d) w p n i good some le b = continues_call n (calls.Gives n i.state) w i p (live_run d w p (live_call d w p) (body n) (calls.needs n) (calls.following n) (calls.Gives n i.state) i (bodies n) (lives n i.state (raw_at w i.place) good) (omega arith) le b)

      -- a prefix that was taken, or that lacks levels alone, can be completed
      pub live : {A : Type 0} (deep d : ℕ) → deep ≤ d → (w : List Shape) (p : ℕ) (Q : Tokens) (J : A → State → Type 0) (r : Reader A) (i : Spot) → Tame body r → Live body calls deep i.state (raw_at w i.place) Q J r → i.place ≤ p → Before p (read body d r (from w i)) → Continues body Q J r w i p
      live deep d D w p Q J r i T L le b = live_run d w p (live_call d w p) r deep Q J i T L D le b
