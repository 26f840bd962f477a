-- What spells the elements of a repetition is read.
use Rattle.std.proofs.Common.{◌≡◌, ◌⊎◌, inl, inr, refl, subst, ap, sym, ◌∙◌, ℕ, zero, suc, ◌+◌, ◌<◌, ◌≤◌, max, Bool, true, false, List, length, [], ◌∷◌, ◌++◌, nat_eq, Option, Some, None, Ok, arith}
use Rattle.c_tokens.specs.declared.token.Shape.{Shape}
use Rattle.c_tokens.specs.declared.class.Class.{Class}
use Rattle.c_tokens.specs.ClassNumbers.{class_number}
use Rattle.c_forms.specs.declared.pieces.Sort.{Sort}
use Rattle.c_forms.specs.declared.pieces.Repetition.{Repetition}
use Rattle.c_forms.specs.declared.pieces.Repetition.TheVariants.{Optional, Greedy, Due, All, Any, Many, Spliced, Ended}
use Rattle.c_forms.specs.Forests.{Plain}
use Rattle.c_forms.specs.Sets.{Classes, has, given, starts, element_starts, goes_on, goes_on_with}
use Rattle.c_reader.specs.Tokens.{Spot, step, seen_at, class_at}
use Rattle.c_reader.specs.Readers.{Input, Reader, Found, Outcome, Turn, More, Last, Body, Give, Look, Next, Bind, read, and_then, choose, turn_while, ◌>>=◌}
use Rattle.c_reader.proofs.Local.{from}
use Rattle.c_reader.proofs.Sets.{both, not_true, has_left, has_none, itself, single, same_class}
use Rattle.c_syntax.specs.Reading.{Gathered, none_at, with_last, ended, element_after, separated, separator_of, goes, others, others_ended, ended_turn, is_class, many, at_most_one, any_number, gathered_by, Before, is_missing}
use Rattle.c_syntax.specs.Spells.{Is, Separated, Chain, Elements, Absent, Once, IsGroup}
use Rattle.c_spelled.specs.Fitting.{parted, between_set, between_fits, elements_fit, goes_after, group_goes_on, absent_ends, source_end}
use Rattle.c_spelled.proofs.Off.{Off, on_here, off, off_left, off_right, in_list}
use Rattle.c_spelled.proofs.Opens.{chain_begins}
use Rattle.c_spelled.proofs.Turns.{Comes, stay, go, stop}

-- it answers this tree, of no more than this height
pub record Got (o : Outcome Found) (top : ℕ) (t : Plain) (w : List Shape) (j : Spot) : Type 0 where
  pub height : ℕ
  pub low : height ≤ top
  pub reads : o ≡ Ok (record { tree = t; height = height }, from w j)

abbrev pub listed : List Plain → ℕ → ℕ → Bool → Gathered
listed ts height last is_ended = record { trees = ts; height = height; last = last; is_ended = is_ended }

-- it answers these elements, the last of which ends at a place
pub record GotAll (o : Outcome Gathered) (top : ℕ) (ts : List Plain) (is_ended : Bool) (last : ℕ) (w : List Shape) (j : Spot) : Type 0 where
  pub height : ℕ
  pub low : height ≤ top
  pub reads : o ≡ Ok (listed ts height last is_ended, from w j)

abbrev pub is_unended : Repetition → Bool
is_unended (Ended s e) = false
is_unended r = true

module _ (body : Body) (d top : ℕ) (w : List Shape) (due : Sort) (least : ℕ) (one : Plain → Spot → Spot → Type 0) (element : Reader Found)
    (B : (t : Plain) (i j : Spot) → one t i j → (has (starts due) (class_at w i) ≡ true) × (i.place < j.place))
    (E : (t : Plain) (i j : Spot) → one t i j → Off (goes_on due least) w j.place → Got (read body d element (from w i)) top t w j) where
  after_element : (g : Gathered) (t : Plain) (i j : Spot) (G : Got (read body d element (from w i)) top t w j) → read body d (element_after element g) (from w i) ≡ Ok (with_last g (record { tree = t; height = G.height }) j.place, from w j)
  unfolding element_after
  after_element g t i j G = ap (λ o. and_then o (λ x j. Ok (with_last g x j.at.place, j))) G.reads

  next_begins : (c : Option Class) (t : Plain) (i k j : Spot) → Separated w c i k → one t k j → has (between_set c due) (class_at w i) ≡ true
  next_begins None t i k j e o = ap (λ i. has (starts due) (class_at w i)) e ∙ (B t k j o).0
  next_begins (Some c) t i k j e o = single (class_number c) (class_at w i) e.0

  separated_onward : (c : Option Class) (i k : Spot) → Separated w c i k → i.place ≤ k.place
  separated_onward None i k s = omega (arith, ap (λ (k : Spot). k.place) s)
  separated_onward (Some c) i k s = omega (arith, ap (λ (k : Spot). k.place) s.1)

  module _ (turn : Gathered → Input → Outcome (Turn Gathered Gathered)) (c : Option Class) (F : between_fits c due least ≡ true)
      (step_on : (g h : Gathered) (t : Plain) (i k j : Spot) → Separated w c i k → one t k j → read body d (element_after element g) (from w k) ≡ Ok (h, from w j) → turn g (from w i) ≡ Ok (More h, from w j)) where
    -- after the first element the loop comes to all that were read
    pub record Chained (ts : List Plain) (p : ℕ) (i j : Spot) : Type 0 where
      pub first : Gathered
      pub place : Spot
      pub start : read body d (element_after element (none_at p)) (from w i) ≡ Ok (first, from w place)
      pub height : ℕ
      pub low : height ≤ top
      pub comes : Comes w turn first place (listed ts height j.place false) j

    pub chain_read : (n : ℕ) (ts : List Plain) (p : ℕ) (i j : Spot) → Chain one w c n ts i j → Off (goes_on due least) w j.place → Chained ts p i j
    chain_read zero ts p i j C o = let G : Got (read body d element (from w i)) top C.0 w j = E C.0 i j C.1.1 o in
        record {
          first = listed (C.0 ∷ []) (max 0 G.height) j.place false;
          place = j;
          start = after_element (none_at p) C.0 i j G;
          height = max 0 G.height;
          low = omega (arith, G.low);
          comes = subst (λ us. Comes w turn (listed (C.0 ∷ []) (max 0 G.height) j.place false) j (listed us (max 0 G.height) j.place false) j) (sym C.1.0) (stay w turn (listed (C.0 ∷ []) (max 0 G.height) j.place false) j);
        }
    chain_read (suc n) ts p i j C o =
        let fit = both (parted (between_set c due) (goes_on due least)) _ F in
        let on : has (between_set c due) (class_at w C.place) ≡ true = next_begins c C.last C.place C.next j C.between C.second in
        let H : Chained C.before p i C.place = chain_read n C.before p i C.place C.first (off (between_set c due) (goes_on due least) w C.place.place fit.0 (on_here (between_set c due) w C.place on)) in
        let G : Got (read body d element (from w C.next)) top C.last w j = E C.last C.next j C.second o in
        let here : Gathered = listed C.before H.height C.place.place false in
        let there : Gathered = listed (C.before ++ (C.last ∷ [])) (max H.height G.height) j.place false in
        let turned : turn here (from w C.place) ≡ Ok (More there, from w j) = step_on here there C.last C.place C.next j C.between C.second (after_element here C.last C.next j G) in
        let ahead : C.place.place < j.place = omega (arith, separated_onward c C.place C.next C.between, (B C.last C.next j C.second).1) in
        record {
          first = H.first;
          place = H.place;
          start = H.start;
          height = max H.height G.height;
          low = omega (arith, G.low, H.low);
          comes = subst (λ us. Comes w turn H.first H.place (listed us (max H.height G.height) j.place false) j) (sym C.value)
              (go w turn H.first H.place here C.place there j H.comes turned (in_list (between_set c due) w C.place on (not_true (has (between_set c due) source_end) fit.1)) ahead);
        }

    -- the first element, and what comes after it, with whatever height that was read
    pub record Onward (ts : List Plain) (j : Spot) (t : Plain) (k : Spot) (h : ℕ) : Type 0 where
      pub height : ℕ
      pub low : height ≤ top
      pub comes : Comes w turn (listed (t ∷ []) h k.place false) k (listed ts height j.place false) j

    pub record FirstOf (ts : List Plain) (i j : Spot) : Type 0 where
      pub tree : Plain
      pub place : Spot
      pub is_first : one tree i place
      pub ends : Off (goes_on due least) w place.place
      pub next : (place ≡ j) ⊎ (has (between_set c due) (class_at w place) ≡ true)
      pub onward : (h : ℕ) → h ≤ top → Onward ts j tree place h

    pub chain_on : (n : ℕ) (ts : List Plain) (i j : Spot) → Chain one w c n ts i j → Off (goes_on due least) w j.place → FirstOf ts i j
    chain_on zero ts i j C o = record {
      tree = C.0;
      place = j;
      is_first = C.1.1;
      ends = o;
      next = inl refl;
      onward = λ h le. record { height = h; low = le; comes = subst (λ us. Comes w turn (listed (C.0 ∷ []) h j.place false) j (listed us h j.place false) j) (sym C.1.0) (stay w turn (listed (C.0 ∷ []) h j.place false) j) };
    }
    chain_on (suc n) ts i j C o =
        let fit = both (parted (between_set c due) (goes_on due least)) _ F in
        let on : has (between_set c due) (class_at w C.place) ≡ true = next_begins c C.last C.place C.next j C.between C.second in
        let H : FirstOf C.before i C.place = chain_on n C.before i C.place C.first (off (between_set c due) (goes_on due least) w C.place.place fit.0 (on_here (between_set c due) w C.place on)) in
        let G : Got (read body d element (from w C.next)) top C.last w j = E C.last C.next j C.second o in
        let ahead : C.place.place < j.place = omega (arith, separated_onward c C.place C.next C.between, (B C.last C.next j C.second).1) in
        record {
          tree = H.tree;
          place = H.place;
          is_first = H.is_first;
          ends = H.ends;
          next = inr (elim (H.next) [ inl e ↦ ap (λ k. has (between_set c due) (class_at w k)) e ∙ on | inr e ↦ e ]);
          onward = λ h le. let R : Onward C.before C.place H.tree H.place h = H.onward h le in
              let here : Gathered = listed C.before R.height C.place.place false in
              let there : Gathered = listed (C.before ++ (C.last ∷ [])) (max R.height G.height) j.place false in
              let turned : turn here (from w C.place) ≡ Ok (More there, from w j) = step_on here there C.last C.place C.next j C.between C.second (after_element here C.last C.next j G) in
              record {
                height = max R.height G.height;
                low = omega (arith, G.low, R.low);
                comes = subst (λ us. Comes w turn (listed (H.tree ∷ []) h H.place.place false) H.place (listed us (max R.height G.height) j.place false) j) (sym C.value)
                    (go w turn (listed (H.tree ∷ []) h H.place.place false) H.place here C.place there j R.comes turned (in_list (between_set c due) w C.place on (not_true (has (between_set c due) source_end) fit.1)) ahead);
              };
        }

  -- ---- loops over a test of the next token

  module _ (r : Repetition) where
    abbrev turns : Gathered → Input → Outcome (Turn Gathered Gathered)
    turns g i = read body d (turn_while (goes r due) (λ _ g. separated (separator_of r) (element_after element g)) g) i

    choice : (g : Gathered) (i : Spot) (b : Bool) → goes r due g (seen_at w i) ≡ b
        → turns g (from w i) ≡ read body d (choose b (Bind (separated (separator_of r) (element_after element g)) (λ t. Give (More t))) (Give (Last g))) (from w i)
    choice g i b e = ap (λ b. read body d (choose b (Bind (separated (separator_of r) (element_after element g)) (λ t. Give (More t))) (Give (Last g))) (from w i)) e

    after_separator : (c : Option Class) (g : Gathered) (i k : Spot) → Separated w c i k → read body d (separated c (element_after element g)) (from w i) ≡ read body d (element_after element g) (from w k)
    after_separator None g i k e = ap (λ k. read body d (element_after element g) (from w k)) e
    after_separator (Some c) g i k e = ap (λ k. read body d (element_after element g) (from w k)) e.1

    turn_on : ((c : ℕ) → has (between_set (separator_of r) due) c ≡ true → has (goes_on_with r (element_starts r due)) c ≡ true)
        → (g h : Gathered) (t : Plain) (i k j : Spot) → Separated w (separator_of r) i k → one t k j → read body d (element_after element g) (from w k) ≡ Ok (h, from w j) → turns g (from w i) ≡ Ok (More h, from w j)
    turn_on on g h t i k j s o e = choice g i true (on (class_at w i) (next_begins (separator_of r) t i k j s o))
        ∙ ap (λ o. and_then o (λ t j. Ok (More t, j))) (after_separator (separator_of r) g i k s ∙ e)

    pub all_read : ((c : ℕ) → has (between_set (separator_of r) due) c ≡ true → has (goes_on_with r (element_starts r due)) c ≡ true)
        → between_fits (separator_of r) due least ≡ true → (ts : List Plain) (p : ℕ) (i j : Spot) → Elements one w (separator_of r) ts i j → Off (goes_on due least) w j.place → has (goes_on_with r (element_starts r due)) (class_at w j) ≡ false
        → GotAll (read body d (element_after element (none_at p) >>= λ g. others r due element g) (from w i)) top ts false j.place w j
    unfolding others
    all_read on F ts p i j C o e =
        let H : Chained turns (separator_of r) F (turn_on on) ts p i j = chain_read turns (separator_of r) F (turn_on on) C.0 ts p i j C.1 o in
        record {
          height = H.height;
          low = H.low;
          reads = ap (λ o. and_then o (λ g j. read body d (others r due element g) j)) H.start
              ∙ stop w turns H.first H.place (listed ts H.height j.place false) j (listed ts H.height j.place false) (from w j) H.comes (choice (listed ts H.height j.place false) j false e) (d + length w) (omega arith);
        }

    -- the elements after the first
    pub record Others (ts : List Plain) (i j : Spot) : Type 0 where
      pub tree : Plain
      pub place : Spot
      pub is_first : one tree i place
      pub ends : Off (goes_on due least) w place.place
      pub next : (place ≡ j) ⊎ (has (between_set (separator_of r) due) (class_at w place) ≡ true)
      pub reads : (h : ℕ) → h ≤ top → GotAll (read body d (others r due element (listed (tree ∷ []) h place.place false)) (from w place)) top ts false j.place w j

    pub others_read : ((c : ℕ) → has (between_set (separator_of r) due) c ≡ true → has (goes_on_with r (element_starts r due)) c ≡ true)
        → between_fits (separator_of r) due least ≡ true → (ts : List Plain) (i j : Spot) → Elements one w (separator_of r) ts i j → Off (goes_on due least) w j.place → has (goes_on_with r (element_starts r due)) (class_at w j) ≡ false → Others ts i j
    unfolding others
    others_read on F ts i j C o e =
        let H : FirstOf turns (separator_of r) F (turn_on on) ts i j = chain_on turns (separator_of r) F (turn_on on) C.0 ts i j C.1 o in
        record {
          tree = H.tree;
          place = H.place;
          is_first = H.is_first;
          ends = H.ends;
          next = H.next;
          reads = λ h le. let R = H.onward h le in record {
            height = R.height;
            low = R.low;
            reads = stop w turns (listed (H.tree ∷ []) h H.place.place false) H.place (listed ts R.height j.place false) j (listed ts R.height j.place false) (from w j) R.comes (choice (listed ts R.height j.place false) j false e) (d + length w) (omega arith);
          };
        }

    -- where none follows
    pub over_read : (g : Gathered) (i : Spot) → has (goes_on_with r (element_starts r due)) (class_at w i) ≡ false → read body d (others r due element g) (from w i) ≡ Ok (g, from w i)
    unfolding others
    over_read g i e = stop w turns g i g i g (from w i) (stay w turns g i) (choice g i false e) (d + length w) (omega arith)

  -- ---- loops whose end may follow the separator

  module _ (c e : Class) where
    abbrev pub end_turns : Gathered → Input → Outcome (Turn Gathered Gathered)
    end_turns g i = read body d (ended_turn c e element g) i

    abbrev at_end : Gathered → Bool → Reader (Turn Gathered Gathered)
    at_end g b = choose b (Give (Last (ended g))) (element_after element g >>= λ h. Give (More h))

    abbrev at_separator : Gathered → Bool → Reader (Turn Gathered Gathered)
    at_separator g b = choose b (Next (Look (λ y. at_end g (is_class e y)))) (Give (Last g))

    pub sees_separator : (g : Gathered) (i : Spot) (b : Bool) → is_class c (seen_at w i) ≡ b → end_turns g (from w i) ≡ read body d (at_separator g b) (from w i)
    sees_separator g i b x = ap (λ b. read body d (at_separator g b) (from w i)) x

    pub sees_end : (g : Gathered) (i : Spot) (b : Bool) → is_class e (seen_at w i) ≡ b → read body d (Look (λ y. at_end g (is_class e y))) (from w i) ≡ read body d (at_end g b) (from w i)
    sees_end g i b x = ap (λ b. read body d (at_end g b) (from w i)) x

    is_it : (c : Class) (i : Spot) → Is w c i → is_class c (seen_at w i) ≡ true
    is_it c i x = ap (λ n. nat_eq n (class_number c)) x ∙ itself (class_number c)

    end_turn_on : parted (class_number e ∷ []) (starts due) ≡ true
        → (g h : Gathered) (t : Plain) (i k j : Spot) → Separated w (Some c) i k → one t k j → read body d (element_after element g) (from w k) ≡ Ok (h, from w j) → end_turns g (from w i) ≡ Ok (More h, from w j)
    end_turn_on F g h t i k j s o x = sees_separator g i true (is_it c i s.0) ∙ ap (λ k. read body d (Look (λ y. at_end g (is_class e y))) (from w k)) s.1
        ∙ sees_end g k false (by_test (is_class e (seen_at w k)) refl) ∙ ap (λ o. and_then o (λ t j. Ok (More t, j))) x
      where
        by_test : (b : Bool) → is_class e (seen_at w k) ≡ b → is_class e (seen_at w k) ≡ false
        by_test false y = y
        by_test true y = absurd (let l : has (starts due) (class_at w k) ≡ false = off (class_number e ∷ []) (starts due) w k.place F (on_here (class_number e ∷ []) w k (single (class_number e) (class_at w k) (same_class (class_at w k) (class_number e) y))) k.state in
            let f : true ≡ false = sym (B t k j o).0 ∙ l in cc f)

    abbrev all_ended : ℕ → Reader Gathered
    all_ended p = element_after element (none_at p) >>= λ g. others_ended c e element g

    pub ended_read : between_fits (Some c) due least ≡ true → parted (class_number e ∷ []) (starts due) ≡ true → (ts : List Plain) (p : ℕ) (i j : Spot) → Elements one w (Some c) ts i j → Off (goes_on due least) w j.place
        → (is_class c (seen_at w j) ≡ false → GotAll (read body d (all_ended p) (from w i)) top ts false j.place w j)
        × (Is w c j → Is w e (step j) → GotAll (read body d (all_ended p) (from w i)) top ts true j.place w (step j))
    unfolding others_ended
    ended_read F G ts p i j C o =
        let H : Chained end_turns (Some c) F (end_turn_on G) ts p i j = chain_read end_turns (Some c) F (end_turn_on G) C.0 ts p i j C.1 o in
        let here : Gathered = listed ts H.height j.place false in (
          (λ x. record {
            height = H.height;
            low = H.low;
            reads = ap (λ o. and_then o (λ g j. read body d (others_ended c e element g) j)) H.start
                ∙ stop w end_turns H.first H.place here j here (from w j) H.comes (sees_separator here j false x) (d + length w) (omega arith);
          }),
          (λ x y. record {
            height = H.height;
            low = H.low;
            reads = ap (λ o. and_then o (λ g j. read body d (others_ended c e element g) j)) H.start
                ∙ stop w end_turns H.first H.place here j (ended here) (from w (step j)) H.comes (sees_separator here j true (is_it c j x) ∙ sees_end here (step j) true (is_it e (step j) y)) (d + length w) (omega arith);
          }),
        )

  -- ---- each repetition

  at_most : (p : ℕ) (i : Spot) (b : Bool) → has (starts due) (class_at w i) ≡ b → read body d (at_most_one element (starts due) p) (from w i) ≡ read body d (choose b (element_after element (none_at p)) (Give (none_at p))) (from w i)
  at_most p i b e = ap (λ b. read body d (choose b (element_after element (none_at p)) (Give (none_at p))) (from w i)) e

  absent_read : (ts : List Plain) (i j : Spot) → Absent ts i j → (o : Outcome Gathered) → o ≡ Ok (none_at i.place, from w i) → GotAll o top ts false j.place w j
  absent_read ts i j A o e = record { height = 0; low = omega arith; reads = e ∙ ap (λ (k : Spot). Ok (listed [] 0 k.place false, from w k)) A.1 ∙ ap (λ us. Ok (listed us 0 j.place false, from w j)) (sym A.0) }

  once_read : (ts : List Plain) (i j : Spot) → Once one ts i j → Off (goes_on due least) w j.place → (o : Outcome Gathered) → o ≡ read body d (element_after element (none_at i.place)) (from w i) → GotAll o top ts false j.place w j
  once_read ts i j O c o e = let G : Got (read body d element (from w i)) top O.0 w j = E O.0 i j O.1.1 c in
      record { height = max 0 G.height; low = omega (arith, G.low); reads = e ∙ after_element (none_at i.place) O.0 i j G ∙ ap (λ us. Ok (listed us (max 0 G.height) j.place false, from w j)) (sym O.1.0) }

  pub starts_all : (r : Repetition) (c : ℕ) → has (starts due) c ≡ true → has (element_starts r due) c ≡ true
  starts_all r c h = has_left (starts due) _ c h

  pub nothing_on : (c : ℕ) → has (starts due) c ≡ false → has (starts due ++ []) c ≡ false
  nothing_on c h = has_none (starts due) [] c h refl

  many_on : (c : Option Class) (n few : ℕ) → has (between_set c due) n ≡ true → has (goes_on_with (Many c few) (element_starts (Many c few) due)) n ≡ true
  many_on None n few h = starts_all (Many None few) n h
  many_on (Some c) n few h = h

  spliced_on : (c : Option Class) (n few : ℕ) → has (between_set c due) n ≡ true → has (goes_on_with (Spliced c few) (element_starts (Spliced c few) due)) n ≡ true
  spliced_on None n few h = starts_all (Spliced None few) n h
  spliced_on (Some c) n few h = h

  any_at : (r : Repetition) (p : ℕ) (i : Spot) (b : Bool) → has (element_starts r due) (class_at w i) ≡ b → read body d (any_number false r due element p) (from w i) ≡ read body d (choose b (many r due element p) (Give (none_at p))) (from w i)
  any_at r p i b e = ap (λ b. read body d (choose b (many r due element p) (Give (none_at p))) (from w i)) e

  number_at : (b : Bool) (r : Repetition) (p : ℕ) (i : Spot) → has (element_starts r due) (class_at w i) ≡ true → read body d (any_number b r due element p) (from w i) ≡ read body d (many r due element p) (from w i)
  number_at true r p i e = refl
  number_at false r p i e = any_at r p i true e

  not_one : (n : ℕ) → n ≡ 0 → nat_eq n 1 ≡ false
  not_one n e = ap (λ n. nat_eq n 1) e

  none_given : (n : ℕ) (a : Classes) (c : ℕ) → n ≡ 0 → has (given (nat_eq n 0) a) c ≡ false → has a c ≡ false
  none_given n a c e h = ap (λ n. has (given (nat_eq n 0) a) c) (sym e) ∙ h

  same_reads : {o q : Outcome Gathered} (top : ℕ) (ts : List Plain) (j : Spot) → o ≡ q → GotAll q top ts false j.place w j → GotAll o top ts false j.place w j
  same_reads top ts j e G = record { height = G.height; low = G.low; reads = e ∙ G.reads }

  abbrev Reads : Repetition → Before → List Plain → Spot → Spot → Type 0
  Reads r before ts i j = GotAll (read body d (gathered_by r due element before i.place) (from w i)) top ts false j.place w j

  due_read : (b : Bool) (ts : List Plain) (i j : Spot) → ((b ≡ false) × Absent ts i j) ⊎ Once one ts i j → Off (goes_on due least) w j.place → (ts ≡ [] → Off (starts due) w j.place)
      → GotAll (read body d (choose b (element_after element (none_at i.place)) (at_most_one element (starts due) i.place)) (from w i)) top ts false j.place w j
  due_read true ts i j (inl A) c n = absurd (cc A.0)
  due_read false ts i j (inl A) c n = absent_read ts i j A.1 _ (at_most i.place i false (ap (λ k. has (starts due) (class_at w k)) A.1.1 ∙ n A.1.0 j.state))
  due_read true ts i j (inr O) c n = once_read ts i j O c _ refl
  due_read false ts i j (inr O) c n = once_read ts i j O c _ (at_most i.place i true (B O.0 i j O.1.1).0)

  pub group_read : (r : Repetition) (before : Before) (ts : List Plain) (i j : Spot) → is_unended r ≡ true → elements_fit r due least ≡ true → IsGroup r due one before w ts i j → Off (group_goes_on r due least) w j.place → (ts ≡ [] → Off (absent_ends r due) w j.place)
      → GotAll (read body d (gathered_by r due element before i.place) (from w i)) top ts false j.place w j
  unfolding many
  group_read Optional before ts i j U F (inl A) c n = absent_read ts i j A _ (at_most i.place i false (ap (λ k. has (starts due) (class_at w k)) A.1 ∙ n A.0 j.state))
  group_read Optional before ts i j U F (inr O) c n = once_read ts i j O (off_left (goes_on due least) [] w j.place c) _ (at_most i.place i true (B O.0 i j O.1.1).0)
  group_read Greedy before ts i j U F (inl A) c n = absent_read ts i j A.1 _ (at_most i.place i false A.0)
  group_read Greedy before ts i j U F (inr O) c n = once_read ts i j O (off_left (goes_on due least) [] w j.place c) _ (at_most i.place i true (B O.0 i j O.1.1).0)
  group_read Due before ts i j U F G c n = due_read (is_missing before) ts i j G (off_left (goes_on due least) [] w j.place c) n
  group_read All before ts i j U F G c n = all_read All (λ c h. starts_all All c h) F ts i.place i j G.0 (off_left (goes_on due least) [] w j.place c) (nothing_on (class_at w j) G.1)
  group_read Any before ts i j U F G c n = elim (G.0) [
    | inl A ↦ absent_read ts i j A.1 _ (any_at Any i.place i false (nothing_on (class_at w i) (ap (λ k. has (starts due) (class_at w k)) A.1.1 ∙ G.1)))
    | inr C ↦ same_reads top ts j (any_at Any i.place i true (starts_all Any (class_at w i) (chain_begins w due one B None C.0 ts i j C.1).0))
        (all_read Any (λ c h. starts_all Any c h) F ts i.place i j C (off_left (goes_on due least) [] w j.place c) (nothing_on (class_at w j) G.1))
  ]
  group_read (Many s few) before ts i j U F (inl A) c n = absent_read ts i j A.1 _ (ap (λ b. read body d (any_number b (Many s few) due element i.place) (from w i)) (not_one few A.0)
      ∙ any_at (Many s few) i.place i false (ap (λ k. has (element_starts (Many s few) due) (class_at w k)) A.1.1 ∙ none_given few (element_starts (Many s few) due) (class_at w j) A.0 (n A.1.0 j.state)))
  group_read (Many s few) before ts i j U F (inr C) c n = same_reads top ts j (number_at (nat_eq few 1) (Many s few) i.place i (starts_all (Many s few) (class_at w i) (chain_begins w due one B s C.0 ts i j C.1).0))
      (all_read (Many s few) (λ c h. many_on s c few h) F ts i.place i j C (off_left (goes_on due least) (goes_after (Many s few) due) w j.place c) (off_right (goes_on due least) (goes_after (Many s few) due) w j.place c j.state))
  group_read (Spliced s few) before ts i j U F (inl A) c n = absent_read ts i j A.1 _ (ap (λ b. read body d (any_number b (Spliced s few) due element i.place) (from w i)) (not_one few A.0)
      ∙ any_at (Spliced s few) i.place i false (ap (λ k. has (element_starts (Spliced s few) due) (class_at w k)) A.1.1 ∙ none_given few (element_starts (Spliced s few) due) (class_at w j) A.0 (n A.1.0 j.state)))
  group_read (Spliced s few) before ts i j U F (inr C) c n = same_reads top ts j (number_at (nat_eq few 1) (Spliced s few) i.place i (starts_all (Spliced s few) (class_at w i) (chain_begins w due one B s C.0 ts i j C.1).0))
      (all_read (Spliced s few) (λ c h. spliced_on s c few h) F ts i.place i j C (off_left (goes_on due least) (goes_after (Spliced s few) due) w j.place c) (off_right (goes_on due least) (goes_after (Spliced s few) due) w j.place c j.state))
  group_read (Ended s e) before ts i j U F C c n = absurd (cc U)
