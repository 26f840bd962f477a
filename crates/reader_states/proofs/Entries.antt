-- How scopes and their entries change together.
use Rattle.std.proofs.Common.{◌≡◌, refl, ap, sym, subst, ◌∙◌, ℕ, zero, suc, ◌+◌, ◌-◌, ◌<◌, ◌≤◌, Bool, true, false, cond, List, [], ◌∷◌, ◌++◌, length, reverse, Option, Some, None, nat_eq, arith, nat_le, unwrap_or, true≢false}
use Rattle.std.proofs.lemmas.Bool.Decides.{nat_tests}
use Rattle.std.proofs.lemmas.List.{reverse-append}
use Rattle.std.specs.Map.{lookup}
use Rattle.scope_tables.specs.declared.table.WordClass.{WordClass}
use Rattle.scope_tables.specs.declared.table.WordClass.TheVariants.{TypeName, Value}
use Rattle.scope_tables.specs.Frames.{Frame, declared, entered, undone, is_bare, steps_in, class_of, class_among, or_else, innermost as innermost_of, words_in}
use Rattle.c_reader.specs.States.{Entry, outside, late_outside, innermost, is_type}
use Rattle.c_reader.specs.States.Entry.{Edge, AsType, AsValue}
use Rattle.reader_states.specs.Scopes.{entry_as, entries_in, first_late, lates_outside, entries_of, entries_at, outer_of, back, back_to, before_in, IsKept, MayLeave}

-- ---- entries

pub of-entered : (late : Bool) (lates : List Bool) (frames : List Frame) → 0 < length frames → entries_of (entered frames) (late ∷ lates) ≡ Edge late ∷ entries_of frames lates
of-entered late lates [] h = absurd (omega arith)
of-entered late lates (frame ∷ outer) h = refl

pub of-declared : (word : ℕ) (class : WordClass) (lates : List Bool) (frames : List Frame) → 0 < length frames → entries_of (declared word class frames) lates ≡ entry_as class word ∷ entries_of frames lates
of-declared word class lates [] h = absurd (omega arith)
of-declared word class lates (frame ∷ []) h = refl
of-declared word class lates (frame ∷ inner ∷ outer) h = refl

-- what stands after a frame's own entries

outside_in : (frame : Frame) (late : Bool) (rest : List Entry) → outside (entries_in frame ++ Edge late ∷ rest) ≡ rest
outside_in [] late rest = refl
outside_in ((word, TypeName) ∷ frame) late rest = outside_in frame late rest
outside_in ((word, Value) ∷ frame) late rest = outside_in frame late rest

outside_all : (frame : Frame) → outside (entries_in frame) ≡ []
outside_all [] = refl
outside_all ((word, TypeName) ∷ frame) = outside_all frame
outside_all ((word, Value) ∷ frame) = outside_all frame

late_in : (frame : Frame) (late : Bool) (rest : List Entry) → late_outside (entries_in frame ++ Edge late ∷ rest) ≡ late
late_in [] late rest = refl
late_in ((word, TypeName) ∷ frame) late rest = late_in frame late rest
late_in ((word, Value) ∷ frame) late rest = late_in frame late rest

late_all : (frame : Frame) → late_outside (entries_in frame) ≡ false
late_all [] = refl
late_all ((word, TypeName) ∷ frame) = late_all frame
late_all ((word, Value) ∷ frame) = late_all frame

innermost_in : (frame : Frame) (late : Bool) (rest : List Entry) → innermost (entries_in frame ++ Edge late ∷ rest) ≡ entries_in frame
innermost_in [] late rest = refl
innermost_in ((word, TypeName) ∷ frame) late rest = ap (λ xs. AsType word ∷ xs) (innermost_in frame late rest)
innermost_in ((word, Value) ∷ frame) late rest = ap (λ xs. AsValue word ∷ xs) (innermost_in frame late rest)

innermost_all : (frame : Frame) → innermost (entries_in frame) ≡ entries_in frame
innermost_all [] = refl
innermost_all ((word, TypeName) ∷ frame) = ap (λ xs. AsType word ∷ xs) (innermost_all frame)
innermost_all ((word, Value) ∷ frame) = ap (λ xs. AsValue word ∷ xs) (innermost_all frame)

pub of-left : (lates : List Bool) (frames : List Frame) → length lates < length frames → entries_of (outer_of frames) (lates_outside lates) ≡ outside (entries_of frames lates)
of-left lates [] h = refl
of-left lates (frame ∷ []) h = sym (outside_all frame)
of-left lates (frame ∷ inner ∷ outer) h = sym (outside_in frame (first_late lates) _)

pub late-left : (lates : List Bool) (frames : List Frame) → length lates < length frames → first_late lates ≡ late_outside (entries_of frames lates)
late-left lates [] h = absurd (omega arith)
late-left [] (frame ∷ []) h = sym (late_all frame)
late-left (late ∷ lates) (frame ∷ []) h = absurd (omega arith)
late-left lates (frame ∷ inner ∷ outer) h = sym (late_in frame (first_late lates) _)

pub of-words : (frame : Frame) → entries_at (words_in frame) ≡ entries_in frame
of-words [] = refl
of-words ((word, class) ∷ frame) = ap (λ xs. entry_as class word ∷ xs) (of-words frame)

pub of-innermost : (lates : List Bool) (frames : List Frame) → entries_at (words_in (innermost_of frames)) ≡ innermost (entries_of frames lates)
of-innermost lates [] = refl
of-innermost lates (frame ∷ []) = of-words frame ∙ sym (innermost_all frame)
of-innermost lates (frame ∷ inner ∷ outer) = of-words frame ∙ sym (innermost_in frame (first_late lates) _)

-- ---- types

abbrev type_by : Option WordClass → Bool → Bool
type_by (Some TypeName) outer = true
type_by (Some Value) outer = false
type_by None outer = outer

abbrev is_name : WordClass → Bool
is_name TypeName = true
is_name Value = false

type_next : (t : Bool) (o : Option WordClass) (b : Bool) → (cond t true (type_by o b) ≡ type_by (cond t (Some TypeName) o) b) × (cond t false (type_by o b) ≡ type_by (cond t (Some Value) o) b)
type_next true o b = (refl, refl)
type_next false o b = (refl, refl)

type_in : (word : ℕ) (frame : Frame) (rest : List Entry) → is_type (entries_in frame ++ rest) word ≡ type_by (lookup (nat_eq word) frame) (is_type rest word)
type_in word [] rest = refl
type_in word ((other, TypeName) ∷ frame) rest = ap (cond (nat_eq word other) true) (type_in word frame rest) ∙ (type_next (nat_eq word other) (lookup (nat_eq word) frame) (is_type rest word)).0
type_in word ((other, Value) ∷ frame) rest = ap (cond (nat_eq word other) false) (type_in word frame rest) ∙ (type_next (nat_eq word other) (lookup (nat_eq word) frame) (is_type rest word)).1

type_or : (o outer : Option WordClass) → type_by o (type_by outer false) ≡ type_by (or_else o outer) false
type_or (Some TypeName) outer = refl
type_or (Some Value) outer = refl
type_or None outer = refl

append_none : (xs : List Entry) → xs ++ [] ≡ xs
append_none [] = refl
append_none (x ∷ xs) = ap (λ ys. x ∷ ys) (append_none xs)

type_among : (word : ℕ) (frames : List Frame) (lates : List Bool) → is_type (entries_of frames lates) word ≡ type_by (class_among word frames) false
type_among word [] lates = refl
type_among word (frame ∷ []) lates = ap (λ es. is_type es word) (sym (append_none (entries_in frame))) ∙ type_in word frame [] ∙ type_or (lookup (nat_eq word) frame) None
type_among word (frame ∷ inner ∷ outer) lates =
    type_in word frame (Edge (first_late lates) ∷ entries_of (inner ∷ outer) (lates_outside lates))
    ∙ ap (type_by (lookup (nat_eq word) frame)) (type_among word (inner ∷ outer) (lates_outside lates))
    ∙ type_or (lookup (nat_eq word) frame) (class_among word (inner ∷ outer))

type_named : (o : Option WordClass) → type_by o false ≡ is_name (unwrap_or o Value)
type_named (Some TypeName) = refl
type_named (Some Value) = refl
type_named None = refl

-- a word's class tells whether it is a type
pub is-type : (word : ℕ) (class : WordClass) (frames : List Frame) (lates : List Bool) → class_of word frames ≡ class → is_type (entries_of frames lates) word ≡ is_name class
is-type word class frames lates e = type_among word frames lates ∙ type_named (class_among word frames) ∙ ap is_name e

-- ---- steps

pub steps-undone : (frames : List Frame) → 0 < steps_in frames → suc (steps_in (undone frames)) ≡ steps_in frames
steps-undone [] h = absurd (omega arith)
steps-undone ([] ∷ []) h = absurd (omega arith)
steps-undone ([] ∷ frame ∷ outer) h = omega arith
steps-undone ((word ∷ frame) ∷ []) h = refl
steps-undone ((word ∷ frame) ∷ inner ∷ outer) h = omega arith

pub back-undone : (steps : ℕ) (frames : List Frame) → steps < steps_in frames → back_to steps (undone frames) ≡ back_to steps frames
back-undone steps frames h =
    let e : suc (steps_in (undone frames)) ≡ steps_in frames = steps-undone frames (omega arith) in
    let more : suc (steps_in (undone frames) - steps) ≡ steps_in frames - steps = omega arith in
    ap (λ k. back k frames) more

pub back-end : (steps : ℕ) (frames : List Frame) → steps_in frames ≤ steps → back_to steps frames ≡ frames
back-end steps frames h = let e : steps_in frames - steps ≡ 0 = omega arith in ap (λ k. back k frames) e

pub steps-entered : (frames : List Frame) → 0 < length frames → steps_in (entered frames) ≡ suc (steps_in frames)
steps-entered [] h = absurd (omega arith)
steps-entered (frame ∷ outer) h = omega arith

pub steps-declared : (word : ℕ) (class : WordClass) (frames : List Frame) → 0 < length frames → steps_in (declared word class frames) ≡ suc (steps_in frames)
steps-declared word class [] h = absurd (omega arith)
steps-declared word class (frame ∷ []) h = refl
steps-declared word class (frame ∷ inner ∷ outer) h = omega arith

undone_declared : (word : ℕ) (class : WordClass) (frames : List Frame) → undone (declared word class frames) ≡ frames
undone_declared word class [] = refl
undone_declared word class (frame ∷ outer) = refl

pub length-declared : (word : ℕ) (class : WordClass) (frames : List Frame) → length (declared word class frames) ≡ length frames
length-declared word class [] = refl
length-declared word class (frame ∷ outer) = refl

back_more : (steps : ℕ) (frames more : List Frame) → steps_in more ≡ suc (steps_in frames) → undone more ≡ frames → steps ≤ steps_in frames → back_to steps more ≡ back_to steps frames
back_more steps frames more e u h = sym (back-undone steps more (omega arith)) ∙ ap (back_to steps) u

pub back-entered : (steps : ℕ) (frames : List Frame) → 0 < length frames → steps ≤ steps_in frames → back_to steps (entered frames) ≡ back_to steps frames
back-entered steps frames some h = back_more steps frames (entered frames) (steps-entered frames some) refl h

pub back-declared : (word : ℕ) (class : WordClass) (steps : ℕ) (frames : List Frame) → 0 < length frames → steps ≤ steps_in frames → back_to steps (declared word class frames) ≡ back_to steps frames
back-declared word class steps frames some h = back_more steps frames (declared word class frames) (steps-declared word class frames some) (undone_declared word class frames) h

-- leaving

outer_undone : (frame : Frame) (outer : List Frame) (d : ℕ × WordClass) → outer_of ((d ∷ frame) ∷ outer) ≡ outer_of (frame ∷ outer)
outer_undone frame [] d = refl
outer_undone frame (inner ∷ outer) d = refl

pub outer-undone : (frames : List Frame) → is_bare frames ≡ false → outer_of (undone frames) ≡ outer_of frames
outer-undone [] h = refl
outer-undone ([] ∷ outer) h = absurd (true≢false h)
outer-undone ((d ∷ frame) ∷ outer) h = sym (outer_undone frame outer d)

pub outer-bare : (frames : List Frame) → 0 < steps_in frames → is_bare frames ≡ true → undone frames ≡ outer_of frames
outer-bare [] s h = refl
outer-bare ([] ∷ []) s h = absurd (omega arith)
outer-bare ([] ∷ inner ∷ outer) s h = refl
outer-bare ((d ∷ frame) ∷ outer) s h = absurd (true≢false (sym h))

pub outer-none : (frames : List Frame) → steps_in frames ≤ 0 → frames ≡ outer_of frames
outer-none [] s = refl
outer-none ([] ∷ []) s = refl
outer-none ((d ∷ frame) ∷ []) s = absurd (omega arith)
outer-none (frame ∷ inner ∷ outer) s = absurd (omega arith)

pub length-outer : (frames : List Frame) → 1 < length frames → suc (length (outer_of frames)) ≡ length frames
length-outer [] h = absurd (omega arith)
length-outer (frame ∷ []) h = absurd (omega arith)
length-outer (frame ∷ inner ∷ outer) h = refl

pub some-outer : (frames : List Frame) → 0 < length frames → 0 < length (outer_of frames)
some-outer [] h = absurd (omega arith)
some-outer (frame ∷ []) h = omega arith
some-outer (frame ∷ inner ∷ outer) h = omega arith

-- a scope is left that was entered since
pub record IsLeft (steps : ℕ) (frames : List Frame) : Type 0 where
  pub within : steps ≤ steps_in (outer_of frames)
  pub same : back_to steps (outer_of frames) ≡ back_to steps frames

left_scope : (steps : ℕ) (inner : Frame) (outer : List Frame) (b : Bool) → nat_le steps (steps_in (inner ∷ outer)) ≡ b → length (back_to steps ([] ∷ inner ∷ outer)) < length ([] ∷ inner ∷ outer) → IsLeft steps ([] ∷ inner ∷ outer)
left_scope steps inner outer true e h =
    let within : steps ≤ steps_in (inner ∷ outer) = grind (arith, nat_tests) in
    record { within = within; same = sym (back-entered steps (inner ∷ outer) (omega arith) within) }
left_scope steps inner outer false e h =
    let less : steps_in (inner ∷ outer) < steps = grind (arith, nat_tests) in
    let same : length (back_to steps ([] ∷ inner ∷ outer)) ≡ length ([] ∷ inner ∷ outer) = ap length (back-end steps ([] ∷ inner ∷ outer) (omega (arith, less))) in
    absurd (omega (arith, h, same))

left_word : (steps : ℕ) (d : ℕ × WordClass) (frame inner : Frame) (outer : List Frame) (b : Bool) → nat_le steps (steps_in (frame ∷ inner ∷ outer)) ≡ b
    → (steps ≤ steps_in (frame ∷ inner ∷ outer) → length (back_to steps (frame ∷ inner ∷ outer)) < length (frame ∷ inner ∷ outer) → IsLeft steps (frame ∷ inner ∷ outer))
    → length (back_to steps ((d ∷ frame) ∷ inner ∷ outer)) < length (frame ∷ inner ∷ outer) → IsLeft steps ((d ∷ frame) ∷ inner ∷ outer)
left_word steps d frame inner outer true e rest h =
    let within : steps ≤ steps_in (frame ∷ inner ∷ outer) = grind (arith, nat_tests) in
    let same : back_to steps ((d ∷ frame) ∷ inner ∷ outer) ≡ back_to steps (frame ∷ inner ∷ outer) = back-declared d.0 d.1 steps (frame ∷ inner ∷ outer) (omega arith) within in
    let kept : IsLeft steps (frame ∷ inner ∷ outer) = rest within (subst (λ fs. length fs < length (frame ∷ inner ∷ outer)) same h) in
    record { within = kept.within; same = kept.same ∙ sym same }
left_word steps d frame inner outer false e rest h =
    let less : steps_in (frame ∷ inner ∷ outer) < steps = grind (arith, nat_tests) in
    let same : length (back_to steps ((d ∷ frame) ∷ inner ∷ outer)) ≡ length (frame ∷ inner ∷ outer) = ap length (back-end steps ((d ∷ frame) ∷ inner ∷ outer) (omega (arith, less))) in
    absurd (omega (arith, h, same))

pub left-over : (steps : ℕ) (frames : List Frame) → steps ≤ steps_in frames → length (back_to steps frames) < length frames → 1 < length frames → IsLeft steps frames
left-over steps [] s h two = absurd (omega arith)
left-over steps (frame ∷ []) s h two = absurd (omega arith)
left-over steps ([] ∷ inner ∷ outer) s h two = left_scope steps inner outer (nat_le steps (steps_in (inner ∷ outer))) refl h
left-over steps ((d ∷ frame) ∷ inner ∷ outer) s h two =
    left_word steps d frame inner outer (nat_le steps (steps_in (frame ∷ inner ∷ outer))) refl (λ w g. left-over steps (frame ∷ inner ∷ outer) w g (omega arith)) h

-- ---- what is kept

pub kept-deep : (put_by : Option (List Frame)) (steps edges : ℕ) (frames : List Frame) → IsKept put_by steps edges frames → edges < length frames
kept-deep (Some before) steps edges frames h = h
kept-deep None steps edges frames h = let s = h.scopes in let o = h.some in omega (arith, h.scopes, h.some)

pub kept-entered : (put_by : Option (List Frame)) (steps edges : ℕ) (frames : List Frame) → IsKept put_by steps edges frames
    → IsKept put_by steps (suc edges) (entered frames) × (before_in put_by steps (entered frames) ≡ before_in put_by steps frames)
kept-entered (Some before) steps edges frames h = (omega arith, refl)
kept-entered None steps edges frames h =
    let deep = kept-deep None steps edges frames h in
    let same : back_to steps (entered frames) ≡ back_to steps frames = back-entered steps frames (omega (arith, deep)) h.within in (
      record {
        within = let e = steps-entered frames (omega (arith, deep)) in omega (arith, h.within, e);
        scopes = subst (λ fs. suc edges + length fs ≡ length (entered frames)) (sym same) (omega (arith, h.scopes));
        some = subst (λ fs. 0 < length fs) (sym same) h.some;
      },
      same,
    )

pub kept-declared : (word : ℕ) (class : WordClass) (put_by : Option (List Frame)) (steps edges : ℕ) (frames : List Frame) → IsKept put_by steps edges frames
    → IsKept put_by steps edges (declared word class frames) × (before_in put_by steps (declared word class frames) ≡ before_in put_by steps frames)
kept-declared word class (Some before) steps edges frames h = (subst (λ n. edges < n) (sym (length-declared word class frames)) h, refl)
kept-declared word class None steps edges frames h =
    let deep = kept-deep None steps edges frames h in
    let same : back_to steps (declared word class frames) ≡ back_to steps frames = back-declared word class steps frames (omega (arith, deep)) h.within in (
      record {
        within = let e = steps-declared word class frames (omega (arith, deep)) in omega (arith, h.within, e);
        scopes = subst (λ fs. edges + length fs ≡ length (declared word class frames)) (sym same) (h.scopes ∙ sym (length-declared word class frames));
        some = subst (λ fs. 0 < length fs) (sym same) h.some;
      },
      same,
    )

pub kept-left : (put_by : Option (List Frame)) (steps edges : ℕ) (frames : List Frame) → IsKept put_by steps edges frames → MayLeave put_by edges
    → IsKept put_by steps (edges - 1) (outer_of frames) × (before_in put_by steps (outer_of frames) ≡ before_in put_by steps frames)
kept-left (Some before) steps zero frames h may = (some-outer frames h, refl)
kept-left (Some before) steps (suc edges) frames h may = (let e = length-outer frames (omega (arith, h)) in omega (arith, e, h), refl)
kept-left None steps edges frames h may =
    let two : 1 < length frames = omega (arith, h.scopes, h.some, may) in
    let l = left-over steps frames h.within (omega (arith, h.scopes, may)) two in
    let e = length-outer frames two in (
      record {
        within = l.within;
        scopes = subst (λ fs. edges - 1 + length fs ≡ length (outer_of frames)) (sym l.same) (omega (arith, h.scopes, e, may));
        some = subst (λ fs. 0 < length fs) (sym l.same) h.some;
      },
      l.same,
    )

pub kept-begun : (frames : List Frame) → 0 < length frames → IsKept None (steps_in frames) 0 frames × (before_in None (steps_in frames) frames ≡ frames)
kept-begun frames some =
    let same = back-end (steps_in frames) frames (omega arith) in (
      record {
        within = omega arith;
        scopes = let e : length (back_to (steps_in frames) frames) ≡ length frames = ap length same in omega (arith, e);
        some = subst (λ fs. 0 < length fs) (sym same) some;
      },
      same,
    )

-- ---- lists of the vector

pub reverse-push : {A : Type 0} (xs : List A) (x : A) → reverse (xs ++ x ∷ []) ≡ x ∷ reverse xs
reverse-push xs x = reverse-append xs (x ∷ [])
