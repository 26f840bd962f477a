-- What is known, by what is kept of it.
use Rattle.std.proofs.Common.{◌≡◌, refl, ap, sym, subst, ◌∙◌, ℕ, suc, ◌-◌, ◌<◌, Bool, false, List, [], ◌∷◌, ◌++◌, length, reverse, Option, arith}
use Rattle.std.proofs.lemmas.List.{length-append, length-reverse}
use Rattle.c_tokens.specs.declared.token.Word.{Word}
use Rattle.scope_tables.specs.declared.table.WordClass.{WordClass}
use Rattle.scope_tables.specs.Frames.{Frame, declared, entered}
use Rattle.c_reader.specs.States.{Entry}
use Rattle.reader_states.specs.Scopes.{Known, entry_as, entries_of, entries_at, entered as known_entered, left, with_entries, outer_of, first_late, lates_outside, before_in, IsKept, MayLeave}
use Rattle.reader_states.proofs.Entries.{of-entered, of-declared, of-left, late-left, kept-deep, kept-entered, kept-declared, kept-left, reverse-push}

abbrev pub known_of : Option (List Frame) → ℕ → List Bool → Bool → List Frame → Known
known_of put_by steps lates late frames = record { entries = entries_of frames (reverse lates); is_late = late; before = before_in put_by steps frames }

abbrev known_by : List Entry → Bool → List Frame → Known
known_by entries late before = record { entries = entries; is_late = late; before = before }

same_known : (e f : List Entry) (k l : Bool) (b c : List Frame) → e ≡ f → k ≡ l → b ≡ c → known_by e k b ≡ known_by f l c
same_known e f k l b c p q r = ap (λ x. known_by x k b) p ∙ ap (λ x. known_by f x b) q ∙ ap (known_by f l) r

some : (put_by : Option (List Frame)) (steps edges : ℕ) (frames : List Frame) → IsKept put_by steps edges frames → 0 < length frames
some put_by steps edges frames h = let deep = kept-deep put_by steps edges frames h in omega (arith, deep)

pub entering : (put_by : Option (List Frame)) (steps : ℕ) (lates : List Bool) (late : Bool) (frames : List Frame) → IsKept put_by steps (length lates) frames
    → IsKept put_by steps (length (lates ++ late ∷ [])) (entered frames) × (known_of put_by steps (lates ++ late ∷ []) false (entered frames) ≡ known_entered (known_of put_by steps lates late frames))
entering put_by steps lates late frames h =
    let k = kept-entered put_by steps (length lates) frames h in
    let more : length (lates ++ late ∷ []) ≡ suc (length lates) = length-append lates (late ∷ []) ∙ omega arith in (
      subst (λ n. IsKept put_by steps n (entered frames)) (sym more) k.0,
      same_known _ _ _ _ _ _ (ap (entries_of (entered frames)) (reverse-push lates late) ∙ of-entered late (reverse lates) frames (some put_by steps (length lates) frames h)) refl k.1,
    )

pub declaring : (word : ℕ) (class : WordClass) (put_by : Option (List Frame)) (steps : ℕ) (lates : List Bool) (late : Bool) (frames : List Frame) → IsKept put_by steps (length lates) frames
    → IsKept put_by steps (length lates) (declared word class frames) × (known_of put_by steps lates late (declared word class frames) ≡ with_entries (entry_as class word ∷ []) (known_of put_by steps lates late frames))
declaring word class put_by steps lates late frames h =
    let k = kept-declared word class put_by steps (length lates) frames h in
    (k.0, same_known _ _ _ _ _ _ (of-declared word class (reverse lates) frames (some put_by steps (length lates) frames h)) refl k.1)

pub leaving : (put_by : Option (List Frame)) (steps : ℕ) (lates fewer : List Bool) (late : Bool) (frames : List Frame) → IsKept put_by steps (length lates) frames → MayLeave put_by (length lates)
    → reverse fewer ≡ lates_outside (reverse lates)
    → IsKept put_by steps (length fewer) (outer_of frames) × (known_of put_by steps fewer (first_late (reverse lates)) (outer_of frames) ≡ left (known_of put_by steps lates late frames))
leaving put_by steps lates fewer late frames h may e =
    let k = kept-left put_by steps (length lates) frames h may in
    let deep : length (reverse lates) < length frames = subst (λ n. n < length frames) (sym (length-reverse lates)) (kept-deep put_by steps (length lates) frames h) in
    let less : length fewer ≡ length lates - 1 = sym (length-reverse fewer) ∙ ap length e ∙ one_fewer (reverse lates) ∙ ap (λ n. n - 1) (length-reverse lates) in (
      subst (λ n. IsKept put_by steps n (outer_of frames)) (sym less) k.0,
      same_known _ _ _ _ _ _ (ap (entries_of (outer_of frames)) e ∙ of-left (reverse lates) frames deep) (late-left (reverse lates) frames deep) k.1,
    )
  where
    one_fewer : (xs : List Bool) → length (lates_outside xs) ≡ length xs - 1
    one_fewer [] = refl
    one_fewer (x ∷ xs) = omega arith

-- what is put by, and what is known
pub put-by : (old new : Option (List Frame)) (steps : ℕ) (lates : List Bool) (late : Bool) (frames : List Frame) → before_in new steps frames ≡ before_in old steps frames → known_of new steps lates late frames ≡ known_of old steps lates late frames
put-by old new steps lates late frames e = same_known _ _ _ _ _ _ refl refl e

-- the last of some words is declared first
pub last-first : (words : List (Word × WordClass)) (word : Word) (class : WordClass) (k : Known) → with_entries (entries_at words) (with_entries (entry_as class word.0 ∷ []) k) ≡ with_entries (entries_at (words ++ (word, class) ∷ [])) k
last-first words word class k = ap (λ entries. known_by entries k.is_late k.before) (by words)
  where
    by : (xs : List (Word × WordClass)) → entries_at xs ++ (entry_as class word.0 ∷ k.entries) ≡ entries_at (xs ++ (word, class) ∷ []) ++ k.entries
    by [] = refl
    by ((other, c) ∷ xs) = ap (λ entries. entry_as c other.0 ∷ entries) (by xs)
