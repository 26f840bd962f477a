-- The elements of a repetition that were read are those that are spelled.
use Rattle.std.proofs.Common.{◌≡◌, inl, inr, refl, subst, ap, sym, ◌∙◌, ℕ, zero, suc, ◌≤◌, nat_lt, nat_eq, Bool, true, false, List, [], ◌∷◌, ◌++◌, Option, Some, None, Ok, arith}
use borrow.Author.Tests.{ltb-true}
use Rattle.c_tokens.specs.declared.class.Class.{Class}
use Rattle.c_tokens.specs.declared.token.Shape.{Shape}
use Rattle.c_tokens.specs.ClassNumbers.{class_number}
use Rattle.c_forms.specs.declared.pieces.Sort.{Sort}
use Rattle.c_forms.specs.declared.pieces.Repetition.{Repetition}
use Rattle.c_forms.specs.declared.pieces.Repetition.TheVariants.{Optional, Greedy, Due, All, Any, Many, Spliced, Ended}
use Rattle.c_forms.specs.Forests.{Plain}
use Rattle.c_forms.specs.Sets.{Classes, has, starts, element_starts, goes_on_with}
use Rattle.c_reader.specs.Tokens.{Spot, step, class_at, seen_at}
use Rattle.c_reader.specs.Readers.{Input, Reader, Found, Turn, More, Last, Give, Next, Look, read, choose, here, turn_while, ◌>>=◌}
use Rattle.c_reader.proofs.Local.{from}
use Rattle.c_reader.proofs.Loops.{Both, split, kept, same_answer, same_place, same_pair}
use Rattle.c_reader.proofs.Advance.{grew, stayed}
use Rattle.c_reader.proofs.Sets.{has_neither, only_single, same_class}
use Rattle.c_syntax.specs.Reading.{Gathered, none_at, with_last, ended, element_after, separated, separator_of, is_class, goes, others, ended_turn, others_ended, many, at_most_one, any_number, gathered_by, Before, is_missing}
use Rattle.c_syntax.specs.Grammar.{body}
use Rattle.c_syntax.specs.Spells.{Is, Separated, Elements, Once, NoneBegins, IsGroup}
use Rattle.c_syntax.proofs.Told.{Says}

-- where a list ends: at its last element, or after a separator
abbrev pub Ends : List Shape → Repetition → Spot → Bool → Input → Type 0
Ends w r place false p = p ≡ from w place
Ends w (Ended separator end_token) place true p = Is w separator place × (p ≡ from w (step place))
Ends w r place true p = ⊥

-- elements that were read
pub record Gathers (d : ℕ) (w : List Shape) (r : Repetition) (T : ℕ → Spot → Type 0) (g : Gathered) (p : Input) : Type 0 where
  pub place : Spot
  pub ends : Ends w r place g.is_ended p
  pub last : g.last ≡ place.place
  pub high : g.height ≤ d
  pub spelled : (n : ℕ) → g.height ≤ n → T n place

-- `least` of a repetition is 0 or 1
abbrev pub is_small : Repetition → Bool
is_small (Many separator least) = nat_lt least 2
is_small (Spliced separator least) = nat_lt least 2
is_small _ = true

-- a token goes on with a list: the separator, where there is one
abbrev pub On : Option Class → ℕ → Type 0
On (Some c) x = x ≡ class_number c
On None x = Unit {0}

-- what r reads, T spells
module _ (d : ℕ) (w : List Shape) (T : ℕ → Plain → Spot → Spot → Type 0) (r : Reader Found) (R : (i : Spot) (x : Found) (p : Input) → read body d r (from w i) ≡ Ok (x, p) → Says d w T i x p) where
  -- one element more
  record Added (g h : Gathered) (k : Spot) (p : Input) : Type 0 where
    found : Found
    place : Spot
    placed : p ≡ from w place
    value : with_last g found place.place ≡ h
    high : found.height ≤ d
    spelled : (n : ℕ) → found.height ≤ n → T n found.tree k place

  added : (g h : Gathered) (k : Spot) (p : Input) → read body d (element_after r g) (from w k) ≡ Ok (h, p) → Added g h k p
  unfolding element_after
  added g h k p e =
      let a = split (read body d r (from w k)) (λ x j. Ok (with_last g x j.at.place, j)) h p e in
      let S = R k a.value a.place a.first in
      record {
        found = a.value;
        place = S.place;
        placed = sym (same_place (with_last g a.value a.place.at.place) h a.place p a.second) ∙ S.placed;
        value = ap (λ q. with_last g a.value q.at.place) (sym S.placed) ∙ same_answer (with_last g a.value a.place.at.place) h a.place p a.second;
        high = S.high;
        spelled = S.spelled;
      }

  -- elements so far
  pub record Chained (separator : Option Class) (i : Spot) (g : Gathered) (p : Input) : Type 0 where
    pub place : Spot
    pub placed : p ≡ from w place
    pub last : g.last ≡ place.place
    pub open_end : g.is_ended ≡ false
    pub high : g.height ≤ d
    pub spelled : (n : ℕ) → g.height ≤ n → Elements (T n) w separator g.trees i place

  first : (separator : Option Class) (g : Gathered) (m : ℕ) (i : Spot) (p : Input) → read body d (element_after r (none_at m)) (from w i) ≡ Ok (g, p) → Chained separator i g p
  first separator g m i p e =
      let A = added (none_at m) g i p e in
      subst (λ g. Chained separator i g p) A.value (record {
        place = A.place;
        placed = A.placed;
        last = refl;
        open_end = refl;
        high = omega (arith, A.high);
        spelled = λ n le. (zero, (A.found.tree, (refl, A.spelled n (omega arith))));
      })

  longer : (separator : Option Class) (i : Spot) (g h : Gathered) (q : Input) (C : Chained separator i g q) (k : Spot) (p : Input) → Separated w separator C.place k
      → read body d (element_after r g) (from w k) ≡ Ok (h, p) → Chained separator i h p
  longer separator i g h q C k p B e =
      let A = added g h k p e in
      subst (λ h. Chained separator i h p) A.value (record {
        place = A.place;
        placed = A.placed;
        last = refl;
        open_end = refl;
        high = omega (arith, A.high, C.high);
        spelled = λ n le. let c = C.spelled n (omega arith) in
            (suc c.0, record { before = g.trees; last = A.found.tree; place = C.place; next = k; value = refl; first = c.1; between = B; second = A.spelled n (omega arith) });
      })

  -- ---- the elements after the first

  passed : (separator : Option Class) (g h : Gathered) (m : Spot) (p : Input) → On separator (class_at w m) → read body d (separated separator (element_after r g)) (from w m) ≡ Ok (h, p)
      → (k : Spot) × (Separated w separator m k × (read body d (element_after r g) (from w k) ≡ Ok (h, p)))
  passed None g h m p on e = (m, (refl, e))
  passed (Some c) g h m p on e = (step m, ((on, refl), e))

  module _ (k : Repetition) (due : Sort) (separated_on : (x : ℕ) → has (goes_on_with k (element_starts k due)) x ≡ true → On (separator_of k) x) where
    grown : (i : Spot) (g h : Gathered) (q p : Input) → Chained (separator_of k) i g q
        → read body d (turn_while (goes k due) (λ _ g. separated (separator_of k) (element_after r g)) g) q ≡ Ok (More h, p) → Chained (separator_of k) i h p
    grown i g h q p C e =
        let G : (goes k due g (here q) ≡ true) × (read body d (separated (separator_of k) (element_after r g)) q ≡ Ok (h, p)) = grew body (goes k due) (λ _ g. separated (separator_of k) (element_after r g)) d g h q p _ e in
        let P = passed (separator_of k) g h C.place p (separated_on (class_at w C.place) (subst (λ q. goes k due g (here q) ≡ true) C.placed G.0))
        (subst (λ q. read body d (separated (separator_of k) (element_after r g)) q ≡ Ok (h, p)) C.placed G.1) in
        longer (separator_of k) i g h q C P.0 p P.1.0 P.1.1

    over : (i : Spot) (g h : Gathered) (q p : Input) → Chained (separator_of k) i g q
        → read body d (turn_while (goes k due) (λ _ g. separated (separator_of k) (element_after r g)) g) q ≡ Ok (Last h, p) → Chained (separator_of k) i h p × (goes k due h (here p) ≡ false)
    over i g h q p C e =
        let b : (goes k due g (here q) ≡ false) × Both (g, q) (h, p) = stayed body (goes k due) (λ _ g. separated (separator_of k) (element_after r g)) d g h q p _ e in
        (subst (λ (y : Gathered × Input). Chained (separator_of k) i y.0 y.1) b.1 C, ap (λ (y : Gathered × Input). goes k due y.0 (here y.1)) (sym b.1) ∙ b.0)

    pub others_read : (i : Spot) (g h : Gathered) (q p : Input) → Chained (separator_of k) i g q → read body d (others k due r g) q ≡ Ok (h, p) → Chained (separator_of k) i h p × (goes k due h (here p) ≡ false)
    unfolding others
    others_read i g h q p C e = kept (λ g j. read body d (turn_while (goes k due) (λ _ g. separated (separator_of k) (element_after r g)) g) j) (Chained (separator_of k) i)
        (λ h p. Chained (separator_of k) i h p × (goes k due h (here p) ≡ false)) (λ g q h p. grown i g h q p) (λ g q h p. over i g h q p) _ g q h p C e

    pub many_read : (i : Spot) (h : Gathered) (p : Input) → read body d (element_after r (none_at i.place) >>= λ g. others k due r g) (from w i) ≡ Ok (h, p) → Chained (separator_of k) i h p × (goes k due h (here p) ≡ false)
    many_read i h p e =
        let a = split (read body d (element_after r (none_at i.place)) (from w i)) (λ g j. read body d (others k due r g) j) h p e in
        others_read i a.value h a.place p (first (separator_of k) a.value i.place i a.place a.first) a.second

  -- ---- after a separator an element or the end

  record Stopped (c : Class) (e : Class) (i : Spot) (g : Gathered) (p : Input) : Type 0 where
    place : Spot
    ends : Ends w (Ended c e) place g.is_ended p
    last : g.last ≡ place.place
    high : g.height ≤ d
    spelled : (n : ℕ) → g.height ≤ n → Elements (T n) w (Some c) g.trees i place

  abbrev By : Class → Class → Spot → Turn Gathered Gathered → Input → Type 0
  By c e i (More g) p = Chained (Some c) i g p
  By c e i (Last g) p = Stopped c e i g p

  stops : (c e : Class) (i : Spot) (g : Gathered) (q : Input) → Chained (Some c) i g q → Stopped c e i g q
  stops c e i g q C = record { place = C.place; ends = subst (λ b. Ends w (Ended c e) C.place b q) (sym C.open_end) C.placed; last = C.last; high = C.high; spelled = C.spelled }

  by_next : (c e : Class) (i : Spot) (g : Gathered) (q : Input) (C : Chained (Some c) i g q) (b : Bool) (t : Turn Gathered Gathered) (p : Input) → class_at w C.place ≡ class_number c
      → read body d (choose b (Give (Last (ended g))) (element_after r g >>= λ h. Give (More h))) (from w (step C.place)) ≡ Ok (t, p) → By c e i t p
  by_next c e i g q C true t p on h =
      subst (λ (y : Turn Gathered Gathered × Input). By c e i y.0 y.1) (same_pair (Last (ended g)) t (from w (step C.place)) p h)
      (record { place = C.place; ends = (on, refl); last = C.last; high = C.high; spelled = C.spelled })
  by_next c e i g q C false t p on h =
      let a = split (read body d (element_after r g) (from w (step C.place))) (λ h j. Ok (More h, j)) t p h in
      subst (λ (y : Turn Gathered Gathered × Input). By c e i y.0 y.1) (same_pair (More a.value) t a.place p a.second)
      (longer (Some c) i g a.value q C (step C.place) a.place (on, refl) a.first)

  by_separator : (c e : Class) (i : Spot) (g : Gathered) (q : Input) (C : Chained (Some c) i g q) (b : Bool) (t : Turn Gathered Gathered) (p : Input) → nat_eq (class_at w C.place) (class_number c) ≡ b
      → read body d (choose b (Next (Look (λ y. choose (is_class e y) (Give (Last (ended g))) (element_after r g >>= λ h. Give (More h))))) (Give (Last g))) (from w C.place) ≡ Ok (t, p) → By c e i t p
  by_separator c e i g q C true t p on h = by_next c e i g q C (is_class e (seen_at w (step C.place))) t p (same_class (class_at w C.place) (class_number c) on) h
  by_separator c e i g q C false t p on h = subst (λ (y : Turn Gathered Gathered × Input). By c e i y.0 y.1) (same_pair (Last g) t (from w C.place) p h) (stops c e i g (from w C.place) (record { place = C.place; placed = refl; last = C.last; open_end = C.open_end; high = C.high; spelled = C.spelled }))

  turned_on : (c e : Class) (i : Spot) (g : Gathered) (q : Input) (t : Turn Gathered Gathered) (p : Input) → Chained (Some c) i g q → read body d (ended_turn c e r g) q ≡ Ok (t, p) → By c e i t p
  turned_on c e i g q t p C h = by_separator c e i g q C (nat_eq (class_at w C.place) (class_number c)) t p refl (subst (λ q. read body d (ended_turn c e r g) q ≡ Ok (t, p)) C.placed h)

  ended_read : (c e : Class) (i : Spot) (h : Gathered) (p : Input) → read body d (element_after r (none_at i.place) >>= λ g. others_ended c e r g) (from w i) ≡ Ok (h, p) → Stopped c e i h p
  unfolding others_ended
  ended_read c e i h p k =
      let a = split (read body d (element_after r (none_at i.place)) (from w i)) (λ g j. read body d (others_ended c e r g) j) h p k in
      kept (λ g j. read body d (ended_turn c e r g) j) (Chained (Some c) i) (Stopped c e i) (λ g q h p C. turned_on c e i g q (More h) p C) (λ g q h p C. turned_on c e i g q (Last h) p C)
      _ a.value a.place h p (first (Some c) a.value i.place i a.place a.first) a.second

  -- ---- all repetitions

  abbrev Group : Repetition → Sort → Before → Spot → Gathered → Input → Type 0
  Group k due before i g p = Gathers d w k (λ n j. IsGroup k due (T n) before w g.trees i j) g p

  open_ends : (k : Repetition) (place : Spot) (b : Bool) (p : Input) → b ≡ false → p ≡ from w place → Ends w k place b p
  open_ends k place true p e h = absurd (cc e)
  open_ends k place false p e h = h

  once : (k : Repetition) (due : Sort) (before : Before) (i : Spot) (g : Gathered) (p : Input) → ((n : ℕ) (ts : List Plain) (j : Spot) → Once (T n) ts i j → IsGroup k due (T n) before w ts i j)
      → read body d (element_after r (none_at i.place)) (from w i) ≡ Ok (g, p) → Group k due before i g p
  once k due before i g p by e =
      let A = added (none_at i.place) g i p e in
      subst (λ g. Group k due before i g p) A.value
      (record { place = A.place; ends = open_ends k A.place false p refl A.placed; last = refl; high = omega (arith, A.high); spelled = λ n le. by n (A.found.tree ∷ []) A.place (A.found.tree, (refl, A.spelled n (omega arith))) })

  none : (k : Repetition) (due : Sort) (before : Before) (i : Spot) (g : Gathered) (p : Input) → ((n : ℕ) → IsGroup k due (T n) before w [] i i) → read body d (Give (none_at i.place)) (from w i) ≡ Ok (g, p) → Group k due before i g p
  none k due before i g p by e = subst (λ (y : Gathered × Input). Group k due before i y.0 y.1) (same_pair (none_at i.place) g (from w i) p e)
      (record { place = i; ends = open_ends k i false (from w i) refl refl; last = refl; high = omega arith; spelled = λ n le. by n })

  at_most : (k : Repetition) (due : Sort) (before : Before) (i : Spot) (b : Bool) (g : Gathered) (p : Input) → has (starts due) (class_at w i) ≡ b → ((n : ℕ) (ts : List Plain) (j : Spot) → Once (T n) ts i j → IsGroup k due (T n) before w ts i j)
      → (NoneBegins w (starts due) i → (n : ℕ) → IsGroup k due (T n) before w [] i i) → read body d (choose b (element_after r (none_at i.place)) (Give (none_at i.place))) (from w i) ≡ Ok (g, p) → Group k due before i g p
  at_most k due before i true g p e there absent h = once k due before i g p there h
  at_most k due before i false g p e there absent h = none k due before i g p (absent e) h

  some : (k : Repetition) (due : Sort) (before : Before) (i : Spot) (g : Gathered) (p : Input) (on : (x : ℕ) → has (goes_on_with k (element_starts k due)) x ≡ true → On (separator_of k) x)
      → ((n : ℕ) (ts : List Plain) (j : Spot) → has (goes_on_with k (element_starts k due)) (class_at w j) ≡ false → Elements (T n) w (separator_of k) ts i j → IsGroup k due (T n) before w ts i j)
      → read body d (element_after r (none_at i.place) >>= λ g. others k due r g) (from w i) ≡ Ok (g, p) → Group k due before i g p
  some k due before i g p on by e =
      let C = many_read k due on i g p e in
      record {
        place = C.0.place;
        ends = open_ends k C.0.place g.is_ended p C.0.open_end C.0.placed;
        last = C.0.last;
        high = C.0.high;
        spelled = λ n le. by n g.trees C.0.place (subst (λ q. goes k due g (here q) ≡ false) C.0.placed C.1) (C.0.spelled n le);
      }

  due_read : (due : Sort) (before : Before) (i : Spot) (b : Bool) (g : Gathered) (p : Input) → is_missing before ≡ b → read body d (choose b (element_after r (none_at i.place)) (at_most_one r (starts due) i.place)) (from w i) ≡ Ok (g, p) → Group Due due before i g p
  due_read due before i true g p e h = once Due due before i g p (λ n ts j. inr) h
  due_read due before i false g p e h = at_most Due due before i (has (starts due) (class_at w i)) g p refl (λ n ts j. inr) (λ _ n. inl (e, (refl, refl))) h

  pub plain_end : (due : Sort) (j : Spot) → has (starts due ++ []) (class_at w j) ≡ false → NoneBegins w (starts due) j
  plain_end due j e = (has_neither (starts due) [] (class_at w j) e).0

  any_read : (due : Sort) (before : Before) (i : Spot) (b : Bool) (g : Gathered) (p : Input) → has (element_starts Any due) (class_at w i) ≡ b → read body d (choose b (many Any due r i.place) (Give (none_at i.place))) (from w i) ≡ Ok (g, p) → Group Any due before i g p
  unfolding many
  any_read due before i true g p e h = some Any due before i g p (λ x _. tt) (λ n ts j over E. (inr E, plain_end due j over)) h
  any_read due before i false g p e h = none Any due before i g p (λ n. (inl (refl, (refl, refl)), plain_end due i e)) h

  goes_between : (separator : Option Class) (begin : Classes) (x : ℕ) → has (goes_on_with (Many separator 0) begin) x ≡ true → On separator x
  goes_between None begin x h = tt
  goes_between (Some c) begin x h = only_single (class_number c) x h

  none_or : (least : ℕ) → nat_lt least 2 ≡ true → nat_eq least 1 ≡ false → least ≡ 0
  none_or zero a b = refl
  none_or (suc zero) a b = absurd (cc b)
  none_or (suc (suc n)) a b = absurd (omega (arith, ltb-true (suc (suc n)) 2 a))

  many_or : (separator : Option Class) (least : ℕ) (due : Sort) (before : Before) (i : Spot) (b : Bool) (g : Gathered) (p : Input) → nat_lt least 2 ≡ true → nat_eq least 1 ≡ b
      → read body d (any_number b (Many separator least) due r i.place) (from w i) ≡ Ok (g, p) → Group (Many separator least) due before i g p
  unfolding many
  many_or separator least due before i true g p small e h = some (Many separator least) due before i g p (goes_between separator (element_starts (Many separator least) due)) (λ n ts j over E. inr E) h
  many_or separator least due before i false g p small e h = by_test (has (element_starts (Many separator least) due) (class_at w i)) h
    where
      by_test : (b : Bool) → read body d (choose b (many (Many separator least) due r i.place) (Give (none_at i.place))) (from w i) ≡ Ok (g, p) → Group (Many separator least) due before i g p
      by_test true h = some (Many separator least) due before i g p (goes_between separator (element_starts (Many separator least) due)) (λ n ts j over E. inr E) h
      by_test false h = none (Many separator least) due before i g p (λ n. inl (none_or least small e, (refl, refl))) h

  spliced_or : (separator : Option Class) (least : ℕ) (due : Sort) (before : Before) (i : Spot) (b : Bool) (g : Gathered) (p : Input) → nat_lt least 2 ≡ true → nat_eq least 1 ≡ b
      → read body d (any_number b (Spliced separator least) due r i.place) (from w i) ≡ Ok (g, p) → Group (Spliced separator least) due before i g p
  unfolding many
  spliced_or separator least due before i true g p small e h = some (Spliced separator least) due before i g p (goes_between separator (element_starts (Spliced separator least) due)) (λ n ts j over E. inr E) h
  spliced_or separator least due before i false g p small e h = by_test (has (element_starts (Spliced separator least) due) (class_at w i)) h
    where
      by_test : (b : Bool) → read body d (choose b (many (Spliced separator least) due r i.place) (Give (none_at i.place))) (from w i) ≡ Ok (g, p) → Group (Spliced separator least) due before i g p
      by_test true h = some (Spliced separator least) due before i g p (goes_between separator (element_starts (Spliced separator least) due)) (λ n ts j over E. inr E) h
      by_test false h = none (Spliced separator least) due before i g p (λ n. inl (none_or least small e, (refl, refl))) h

  pub gathered_says : (k : Repetition) (due : Sort) (before : Before) (i : Spot) (g : Gathered) (p : Input) → is_small k ≡ true → read body d (gathered_by k due r before i.place) (from w i) ≡ Ok (g, p) → Group k due before i g p
  unfolding many
  gathered_says Optional due before i g p small h = at_most Optional due before i (has (starts due) (class_at w i)) g p refl (λ n ts j. inr) (λ _ n. inl (refl, refl)) h
  gathered_says Greedy due before i g p small h = at_most Greedy due before i (has (starts due) (class_at w i)) g p refl (λ n ts j. inr) (λ e n. inl (e, (refl, refl))) h
  gathered_says Due due before i g p small h = due_read due before i (is_missing before) g p refl h
  gathered_says All due before i g p small h = some All due before i g p (λ x _. tt) (λ n ts j over E. (E, plain_end due j over)) h
  gathered_says Any due before i g p small h = any_read due before i (has (element_starts Any due) (class_at w i)) g p refl h
  gathered_says (Many separator least) due before i g p small h = many_or separator least due before i (nat_eq least 1) g p small refl h
  gathered_says (Spliced separator least) due before i g p small h = spliced_or separator least due before i (nat_eq least 1) g p small refl h
  gathered_says (Ended separator end_token) due before i g p small h = let S = ended_read separator end_token i g p h in
      record { place = S.place; ends = S.ends; last = S.last; high = S.high; spelled = S.spelled }
