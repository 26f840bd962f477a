-- What the table of words keeps, as words are declared and scopes are left.
use Rattle.std.proofs.Common.{◌≡◌, refl, ap, sym, subst, ◌∙◌, ℕ, suc, ◌<◌, Bool, true, false, cond, List, [], ◌∷◌, ◌++◌, length, take, get_or, reverse, append_assoc, zero, ◌-◌, ◌≤◌, IsSome, Option, Some, None, nat_eq, unwrap_or, arith, true≢false, is_some, Result, Ok, Err, OnOk, OnErr}
use Rattle.std.proofs.Math.Dec.{eqb}
use Rattle.std.proofs.lemmas.Bool.Decides.{nat_tests}
use Rattle.std.proofs.lemmas.List.{reverse-append, length-reverse}
use Rattle.std.specs.Map.{lookup}
use Rattle.c_tokens.specs.declared.token.Word.{Word}
use Rattle.scope_tables.specs.declared.table.WordClass.{WordClass}
use Rattle.scope_tables.specs.declared.table.WordClass.TheVariants.{Value}
use Rattle.scope_tables.specs.declared.table.Step.{Step}
use Rattle.scope_tables.specs.declared.table.Step.TheVariants.{Entered, Declared}
use Rattle.scope_tables.specs.Frames.{Frame, class_of, declared, undone, is_bare, steps_in, innermost, words_in}
use Rattle.scope_tables.specs.Log.{frames_from, AreKept, IsKept}

-- frames are never none

pub some_frame : (steps : List Step) → (inner : Frame) × (outer : List Frame) × (frames_from steps ≡ inner ∷ outer)
some_frame [] = ([], [], refl)
some_frame (Entered ∷ older) = ([], frames_from older, refl)
some_frame (Declared word class before ∷ older) = let f = some_frame older in ((word, class) ∷ f.0, f.1, ap (declared word class) f.2)

-- the class of a word after one is declared

same_number : (m n : ℕ) → nat_eq m n ≡ true → m ≡ n
same_number m n e = grind (arith, nat_tests)

eq-sym : (m n : ℕ) → nat_eq m n ≡ nat_eq n m
eq-sym m n = grind (arith, nat_tests)

class_here : (word : ℕ) (class : WordClass) (inner : Frame) (outer : List Frame) (q : ℕ) → class_of q (declared word class (inner ∷ outer)) ≡ cond (nat_eq word q) class (class_of q (inner ∷ outer))
class_here word class inner outer q = by (nat_eq q word) refl
  where
    by : (b : Bool) → nat_eq q word ≡ b → class_of q (declared word class (inner ∷ outer)) ≡ cond (nat_eq word q) class (class_of q (inner ∷ outer))
    by true e = rw (e, eq-sym word q, e) refl
    by false e = rw (e, eq-sym word q, e) refl

pub class-declared : (word : ℕ) (class : WordClass) (steps : List Step) (q : ℕ) → class_of q (declared word class (frames_from steps)) ≡ cond (nat_eq word q) class (class_of q (frames_from steps))
class-declared word class steps q =
    let f = some_frame steps in
    subst (λ frames. class_of q (declared word class frames) ≡ cond (nat_eq word q) class (class_of q frames)) (sym f.2) (class_here word class f.0 f.1 q)

-- what a change of one word's entry keeps

abbrev pub IsChanged : List (ℕ × WordClass) → List (ℕ × WordClass) → ℕ → WordClass → Type 0
IsChanged old new word class = (q : ℕ) → lookup (nat_eq q) new ≡ cond (nat_eq word q) (Some class) (lookup (nat_eq q) old)

still_there : (b : Bool) (class : WordClass) (o : Option WordClass) → IsSome o → IsSome (cond b (Some class) o)
still_there true class o h = refl
still_there false class o h = h

kept_after : (old new : List (ℕ × WordClass)) (word : ℕ) (class : WordClass) (steps : List Step) → IsChanged old new word class → AreKept old steps → AreKept new steps
kept_after old new word class [] changed h = tt
kept_after old new word class (Entered ∷ older) changed h = kept_after old new word class older changed h
kept_after old new word class (Declared w c before ∷ older) changed h =
    (h.0, subst (λ o. IsSome o) (sym (changed w)) (still_there (nat_eq word w) class (lookup (nat_eq w) old) h.1), kept_after old new word class older changed h.2)

unwrap_cond : (b : Bool) (class : WordClass) (o : Option WordClass) → unwrap_or (cond b (Some class) o) Value ≡ cond b class (unwrap_or o Value)
unwrap_cond true class o = refl
unwrap_cond false class o = refl

eq-refl : (n : ℕ) → nat_eq n n ≡ true
eq-refl n = grind (arith, nat_tests)

pub declare-keeps : (old new : List (ℕ × WordClass)) (word : ℕ) (class before : WordClass) (steps : List Step) → IsChanged old new word class → before ≡ class_of word (frames_from steps)
    → IsKept old steps → IsKept new (Declared word class before ∷ steps)
declare-keeps old new word class before steps changed was h = record {
  classes = λ q.
      ap (λ o. unwrap_or o Value) (changed q) ∙ unwrap_cond (nat_eq word q) class (lookup (nat_eq q) old)
      ∙ ap (cond (nat_eq word q) class) (h.classes q) ∙ sym (class-declared word class steps q);
  befores = (was, subst (λ o. IsSome o) (sym (changed word ∙ ap (λ b. cond b (Some class) (lookup (nat_eq word) old)) (eq-refl word))) refl, kept_after old new word class steps changed h.befores);
}

taken_back : (b : Bool) (before class was : WordClass) → (b ≡ true → before ≡ was) → cond b before (cond b class was) ≡ was
taken_back true before class was e = e refl
taken_back false before class was e = refl

pub undo-keeps : (old new : List (ℕ × WordClass)) (word : ℕ) (class before : WordClass) (steps : List Step) → IsChanged old new word before
    → IsKept old (Declared word class before ∷ steps) → IsKept new steps
undo-keeps old new word class before steps changed h = record {
  classes = λ q.
      ap (λ o. unwrap_or o Value) (changed q) ∙ unwrap_cond (nat_eq word q) before (lookup (nat_eq q) old)
      ∙ ap (cond (nat_eq word q) before) (h.classes q ∙ class-declared word class steps q)
      ∙ taken_back (nat_eq word q) before class (class_of q (frames_from steps)) (λ e. h.befores.0 ∙ ap (λ w. class_of w (frames_from steps)) (same_number word q e));
  befores = kept_after old new word before steps changed h.befores.2;
}

-- a word that has an entry can get another class
pub changed_surely : {T E : Type 0} (result : Result T E) (old new : List (ℕ × WordClass)) (word : ℕ) (class : WordClass) → OnOk result (IsChanged old new word class) → OnErr result (lookup (nat_eq word) old ≡ None)
    → IsSome (lookup (nat_eq word) old) → IsChanged old new word class
changed_surely (Ok x) old new word class yes_ok no_ok there = yes_ok
changed_surely (Err e) old new word class yes_ok no_ok there = absurd (true≢false (sym there ∙ ap is_some no_ok))

pub on_ok_first : {T E : Type 0} {A B : Type 0} (result : Result T E) → (A → B) → OnOk result A → OnOk result B
on_ok_first (Ok x) f a = f a
on_ok_first (Err e) f a = tt

-- undoing

pub undone-entered : (steps : List Step) → undone (frames_from (Entered ∷ steps)) ≡ frames_from steps
undone-entered steps = refl

pub undone-declared : (word : ℕ) (class before : WordClass) (steps : List Step) → undone (frames_from (Declared word class before ∷ steps)) ≡ frames_from steps
undone-declared word class before steps =
    let f = some_frame steps in subst (λ frames. undone (declared word class frames) ≡ frames) (sym f.2) refl

pub bare-declared : (word : ℕ) (class before : WordClass) (steps : List Step) → is_bare (frames_from (Declared word class before ∷ steps)) ≡ false
bare-declared word class before steps =
    let f = some_frame steps in subst (λ frames. is_bare (declared word class frames) ≡ false) (sym f.2) refl

pub reverse-push : {A : Type 0} (xs : List A) (x : A) → reverse (xs ++ x ∷ []) ≡ x ∷ reverse xs
reverse-push xs x = reverse-append xs (x ∷ [])

pub length_declared : (word : ℕ) (class : WordClass) (frames : List Frame) → length (declared word class frames) ≡ length frames
length_declared word class [] = refl
length_declared word class (frame ∷ outer) = refl

pub steps_in_from : (steps : List Step) → steps_in (frames_from steps) ≡ length steps
steps_in_from [] = refl
steps_in_from (Entered ∷ older) =
    let f = some_frame older in
    subst (λ frames. steps_in frames ≡ length older → steps_in ([] ∷ frames) ≡ suc (length older)) (sym f.2) (λ e. omega arith) (steps_in_from older)
steps_in_from (Declared word class before ∷ older) =
    let f = some_frame older in
    subst (λ frames. steps_in frames ≡ length older → steps_in (declared word class frames) ≡ suc (length older)) (sym f.2) (by f.1) (steps_in_from older)
  where
    by : (outer : List Frame) → steps_in ((some_frame older).0 ∷ outer) ≡ length older → steps_in (((word, class) ∷ (some_frame older).0) ∷ outer) ≡ suc (length older)
    by [] e = omega arith
    by (inner ∷ outer) e = omega arith

pub steps_in_view : (log : List Step) → steps_in (frames_from (reverse log)) ≡ length log
steps_in_view log = steps_in_from (reverse log) ∙ length-reverse log

pub deep_view : (log : List Step) → 0 < length (frames_from (reverse log))
deep_view log = let f = some_frame (reverse log) in subst (λ frames. 0 < length frames) (sym f.2) (omega arith)

-- the words of the innermost scope

-- by the first steps of a log
abbrev pub words_before : List Step → List (Word × WordClass)
words_before steps = words_in (innermost (frames_from steps))

words-declared : (word : ℕ) (class before : WordClass) (older : List Step) → words_before (Declared word class before ∷ older) ≡ (record { 0 = word }, class) ∷ words_before older
words-declared word class before older =
    let f = some_frame older in
    subst (λ frames. words_in (innermost (declared word class frames)) ≡ (record { 0 = word }, class) ∷ words_in (innermost frames)) (sym f.2) refl

-- the log read from its last step on
take_more : (log : List Step) (at : ℕ) (step : Step) → at < length log → step ≡ get_or log at step → take (suc at) log ≡ take at log ++ step ∷ []
take_more [] at step h e = absurd (omega arith)
take_more (s ∷ log) zero step h e = ap (λ x. x ∷ []) (sym e)
take_more (s ∷ log) (suc at) step h e = ap (λ xs. s ∷ xs) (take_more log at step (omega arith) e)

words_more : (log : List Step) (at before : ℕ) (step is : Step) → 0 < at → at ≤ length log → before ≡ at - 1 → step ≡ get_or log before step → step ≡ is → words_before (reverse (take at log)) ≡ words_before (is ∷ reverse (take before log))
words_more log at before step is h within b e i =
    let more : at ≡ suc before = omega arith in
    ap (λ n. words_before (reverse (take n log))) more
    ∙ ap words_before (ap reverse (take_more log before step (omega arith) e) ∙ reverse-push (take before log) step)
    ∙ ap (λ s. words_before (s ∷ reverse (take before log))) i

pub words-step : (log : List Step) (at : ℕ) (step : Step) (word : ℕ) (class before : WordClass) (words new all : List (Word × WordClass)) → 0 < at → at ≤ length log → step ≡ get_or log (at - 1) step → step ≡ Declared word class before
    → new ≡ words ++ (record { 0 = word }, class) ∷ [] → words ++ words_before (reverse (take at log)) ≡ all → new ++ words_before (reverse (take (at - 1) log)) ≡ all
words-step log at step word class before words new all h within e i pushed same =
    ap (λ xs. xs ++ words_before (reverse (take (at - 1) log))) pushed ∙ append_assoc words _ _
    ∙ ap (λ xs. words ++ xs) (sym (words_more log at (at - 1) step (Declared word class before) h within refl e i ∙ words-declared word class before (reverse (take (at - 1) log)))) ∙ same
