-- The entries of a state and the scopes that they mean.
use Rattle.std.proofs.Common.{◌≡◌, ◌≢◌, refl, ap, sym, subst, ◌∙◌, ℕ, Bool, true, false, List, [], ◌∷◌, ◌++◌, Option, Some, if◌then◌else◌, nat_eq}
use Rattle.std.specs.Prelude.{unwrap_or}
use Rattle.std.specs.Map.{lookup}
use Rattle.c_reader.specs.States.{Entry, Edge, AsType, AsValue, is_type, outside, innermost, entry}
use Rattle.scope_tables.specs.declared.table.WordClass.{WordClass}
use Rattle.scope_tables.specs.declared.table.WordClass.TheVariants.{TypeName, Value}
use Rattle.scope_tables.specs.Frames.{Frame, class_named, class_among, class_of, or_else, entered, left, declared}
use Rattle.scopes.specs.declared.event.Event.{Event}
use Rattle.scopes.specs.declared.event.Event.TheVariants.{Enter, Leave, Must, Declare}
use Rattle.scopes.specs.Settling.{Settled, Scoped, Clashes, settled, is_same}
use Rattle.spelled_scopes.specs.Meant.{frames, entry_as, after_words}

-- ---- scopes

-- there is always one
pub some_frame : (es : List Entry) → (f : Frame) × ((fs : List Frame) × (frames es ≡ f ∷ fs))
some_frame [] = ([], ([], refl))
some_frame (Edge late ∷ es) = ([], (frames es, refl))
some_frame (AsType word ∷ es) = let o = some_frame es in ((word, TypeName) ∷ o.0, (o.1.0, ap (declared word TypeName) o.1.1))
some_frame (AsValue word ∷ es) = let o = some_frame es in ((word, Value) ∷ o.0, (o.1.0, ap (declared word Value) o.1.1))

found_first : (c : Bool) (k : WordClass) (inner outer : Option WordClass) → unwrap_or (or_else (if c then Some k else inner) outer) Value ≡ (if c then k else unwrap_or (or_else inner outer) Value)
found_first true k inner outer = refl
found_first false k inner outer = refl

class_declared : (n m : ℕ) (k : WordClass) (es : List Entry) → class_of n (declared m k (frames es)) ≡ (if nat_eq n m then k else class_of n (frames es))
class_declared n m k es =
    let o = some_frame es in
    subst (λ fs. class_of n (declared m k fs) ≡ (if nat_eq n m then k else class_of n fs)) (sym o.1.1) (found_first (nat_eq n m) k (lookup (nat_eq n) o.0) (class_among n o.1.0))

by_type : (c b : Bool) → (if c then TypeName else class_named b) ≡ class_named (if c then true else b)
by_type true b = refl
by_type false b = refl

by_value : (c b : Bool) → (if c then Value else class_named b) ≡ class_named (if c then false else b)
by_value true b = refl
by_value false b = refl

-- a word is what the entries make it
pub meant : (es : List Entry) (n : ℕ) → class_of n (frames es) ≡ class_named (is_type es n)
meant [] n = refl
meant (Edge late ∷ es) n = meant es n
meant (AsType m ∷ es) n = class_declared n m TypeName es ∙ ap (λ k. if nat_eq n m then TypeName else k) (meant es n) ∙ by_type (nat_eq n m) (is_type es n)
meant (AsValue m ∷ es) n = class_declared n m Value es ∙ ap (λ k. if nat_eq n m then Value else k) (meant es n) ∙ by_value (nat_eq n m) (is_type es n)

pub left_declared : (m : ℕ) (k : WordClass) (fs : List Frame) → left (declared m k fs) ≡ left fs
left_declared m k [] = refl
left_declared m k (f ∷ fs) = refl

pub entry_frames : (k : WordClass) (m : ℕ) (es : List Entry) → frames (entry_as k m ∷ es) ≡ declared m k (frames es)
entry_frames TypeName m es = refl
entry_frames Value m es = refl

pub entry_named : (b : Bool) (m : ℕ) → entry b m ≡ entry_as (class_named b) m
entry_named true m = refl
entry_named false m = refl

-- ---- words

entry_outside : (k : WordClass) (m : ℕ) (es : List Entry) → outside (entry_as k m ∷ es) ≡ outside es
entry_outside TypeName m es = refl
entry_outside Value m es = refl

pub words_outside : (ws : List Event) (es : List Entry) → outside (after_words ws es) ≡ outside es
words_outside [] es = refl
words_outside (Declare w k ∷ ws) es = words_outside ws (entry_as k w.0 ∷ es) ∙ entry_outside k w.0 es
words_outside (Enter ∷ ws) es = words_outside ws es
words_outside (Leave ∷ ws) es = words_outside ws es
words_outside (Must w k s ∷ ws) es = words_outside ws es

pub words_left : (ws : List Event) (es : List Entry) → left (frames (after_words ws es)) ≡ left (frames es)
words_left [] es = refl
words_left (Declare w k ∷ ws) es = words_left ws (entry_as k w.0 ∷ es) ∙ ap left (entry_frames k w.0 es) ∙ left_declared w.0 k (frames es)
words_left (Enter ∷ ws) es = words_left ws es
words_left (Leave ∷ ws) es = words_left ws es
words_left (Must w k s ∷ ws) es = words_left ws es

entry_innermost : (k : WordClass) (m : ℕ) (es : List Entry) → innermost (entry_as k m ∷ es) ≡ entry_as k m ∷ innermost es
entry_innermost TypeName m es = refl
entry_innermost Value m es = refl

pub words_innermost : (ws : List Event) (es : List Entry) → innermost (after_words ws es) ≡ after_words ws (innermost es)
words_innermost [] es = refl
words_innermost (Declare w k ∷ ws) es = words_innermost ws (entry_as k w.0 ∷ es) ∙ ap (after_words ws) (entry_innermost k w.0 es)
words_innermost (Enter ∷ ws) es = words_innermost ws es
words_innermost (Leave ∷ ws) es = words_innermost ws es
words_innermost (Must w k s ∷ ws) es = words_innermost ws es

pub words_over : (ws : List Event) (es os : List Entry) → (after_words ws es ++ os) ≡ after_words ws (es ++ os)
words_over [] es os = refl
words_over (Declare w k ∷ ws) es os = words_over ws (entry_as k w.0 ∷ es) os
words_over (Enter ∷ ws) es os = words_over ws es os
words_over (Leave ∷ ws) es os = words_over ws es os
words_over (Must w k s ∷ ws) es os = words_over ws es os

pub words_on : (xs bs : List Event) (es : List Entry) → after_words (xs ++ bs) es ≡ after_words bs (after_words xs es)
words_on [] bs es = refl
words_on (Declare w k ∷ xs) bs es = words_on xs bs (entry_as k w.0 ∷ es)
words_on (Enter ∷ xs) bs es = words_on xs bs es
words_on (Leave ∷ xs) bs es = words_on xs bs es
words_on (Must w k s ∷ xs) bs es = words_on xs bs es

-- ---- events one after the other

joined_if : (c : Bool) (x y z stop : Settled) (fs : List Frame) → stop ≢ Scoped fs → (x ≡ Scoped fs → y ≡ z) → (if c then x else stop) ≡ Scoped fs → (if c then y else stop) ≡ z
joined_if true x y z stop fs n f e = f e
joined_if false x y z stop fs n f e = absurd (n e)

pub settled_on : (xs bs : List Event) (fs gs : List Frame) → settled xs fs ≡ Scoped gs → settled (xs ++ bs) fs ≡ settled bs gs
settled_on [] bs fs gs e = ap (settled bs) (cc e)
settled_on (Enter ∷ xs) bs fs gs e = settled_on xs bs (entered fs) gs e
settled_on (Leave ∷ xs) bs fs gs e = settled_on xs bs (left fs) gs e
settled_on (Declare w k ∷ xs) bs fs gs e = settled_on xs bs (declared w.0 k fs) gs e
settled_on (Must w k s ∷ xs) bs fs gs e = joined_if (is_same k (class_of w.0 fs)) (settled xs fs) (settled (xs ++ bs) fs) (settled bs gs) (Clashes w k (class_of w.0 fs) s) gs (λ c. absurd (cc c)) (settled_on xs bs fs gs) e
