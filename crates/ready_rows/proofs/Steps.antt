-- Events that hold, one after the other.
use Rattle.std.proofs.Common.{◌≡◌, ◌≢◌, refl, ap, sym, subst, ◌∙◌, Bool, true, false, if◌then◌else◌, List, [], ◌∷◌, ◌++◌}
use Rattle.c_tokens.specs.declared.span.Span.{Span}
use Rattle.c_tokens.specs.declared.token.Word.{Word}
use Rattle.c_reader.specs.States.{Entry, State, is_type}
use Rattle.scope_tables.specs.declared.table.WordClass.{WordClass}
use Rattle.scope_tables.specs.declared.table.WordClass.TheVariants.{TypeName, Value}
use Rattle.scope_tables.specs.Frames.{Frame, class_named, class_of, entered, left, declared}
use Rattle.scopes.specs.declared.event.Event.{Event}
use Rattle.scopes.specs.declared.event.Event.TheVariants.{Enter, Leave, Must, Declare}
use Rattle.scopes.specs.Settling.{Settled, Scoped, Clashes, settled, is_same}
use Rattle.spelled_scopes.specs.Meant.{frames}
use Rattle.spelled_scopes.proofs.Frames.{meant}
use Rattle.ready_rows.proofs.Standing.{Holds, Ran}

-- ---- events in two parts

if_true : (c : Bool) (x stop : Settled) (gs : List Frame) → stop ≢ Scoped gs → (if c then x else stop) ≡ Scoped gs → c ≡ true
if_true true x stop gs n e = refl
if_true false x stop gs n e = absurd (n e)

taken : (c : Bool) (x stop : Settled) → c ≡ true → (if c then x else stop) ≡ x
taken true x stop e = refl
taken false x stop e = absurd (cc e)

pub must_same : (word : Word) (k : WordClass) (sp : Span) (es : List Event) (fs gs : List Frame) → settled (Must word k sp ∷ es) fs ≡ Scoped gs → (is_same k (class_of word.0 fs) ≡ true) × (settled es fs ≡ Scoped gs)
must_same word k sp es fs gs e = let c = is_same k (class_of word.0 fs) in let stop : Settled = Clashes word k (class_of word.0 fs) sp in let h = if_true c (settled es fs) stop gs (λ c. absurd (cc c)) e in (h, sym (taken c (settled es fs) stop h) ∙ e)

pub split_at : (xs ys : List Event) (fs gs : List Frame) → settled (xs ++ ys) fs ≡ Scoped gs → (m : List Frame) × ((settled xs fs ≡ Scoped m) × (settled ys m ≡ Scoped gs))
split_at [] ys fs gs e = (fs, (refl, e))
split_at (Enter ∷ xs) ys fs gs e = split_at xs ys (entered fs) gs e
split_at (Leave ∷ xs) ys fs gs e = split_at xs ys (left fs) gs e
split_at (Declare w k ∷ xs) ys fs gs e = split_at xs ys (declared w.0 k fs) gs e
split_at (Must w k sp ∷ xs) ys fs gs e = let h = must_same w k sp (xs ++ ys) fs gs e in let r = split_at xs ys fs gs h.1 in
    (r.0, (taken (is_same k (class_of w.0 fs)) (settled xs fs) (Clashes w k (class_of w.0 fs) sp) h.0 ∙ r.1.0, r.1.1))

pub earlier : (xs ys : List Event) (s : State) → Holds (xs ++ ys) s → Holds xs s
earlier xs ys s h = let r = split_at xs ys (frames s.entries) h.0 h.1 in (r.0, r.1.0)

pub one_end : (m n : List Frame) → Scoped m ≡ Scoped n → m ≡ n
one_end m n e = cc e

-- what holds after the first of them
pub later : (xs ys : List Event) (fs m gs : List Frame) → settled xs fs ≡ Scoped m → settled (xs ++ ys) fs ≡ Scoped gs → settled ys m ≡ Scoped gs
later xs ys fs m gs r e = let c = split_at xs ys fs gs e in subst (λ n. settled ys n ≡ Scoped gs) (one_end c.0 m (sym c.1.0 ∙ r)) c.1.1

pub append_nil : {A : Type 0} (xs : List A) → (xs ++ []) ≡ xs
append_nil [] = refl
append_nil (a ∷ xs) = ap (λ l. a ∷ l) (append_nil xs)

pub same_end : (es : List Event) (fs m gs : List Frame) → settled es fs ≡ Scoped m → settled es fs ≡ Scoped gs → m ≡ gs
same_end es fs m gs a b = one_end m gs (sym a ∙ b)

-- ---- what words are

same_value : (b : Bool) → is_same Value (class_named b) ≡ true → b ≡ false
same_value true e = absurd (cc e)
same_value false e = refl

same_type : (b : Bool) → is_same TypeName (class_named b) ≡ true → b ≡ true
same_type true e = refl
same_type false e = absurd (cc e)

pub must_value : (word : Word) (sp : Span) (es : List Event) (en : List Entry) (gs : List Frame) → settled (Must word Value sp ∷ es) (frames en) ≡ Scoped gs → (is_type en word.0 ≡ false) × (settled es (frames en) ≡ Scoped gs)
must_value word sp es en gs e = let h = must_same word Value sp es (frames en) gs e in (same_value (is_type en word.0) (ap (is_same Value) (sym (meant en word.0)) ∙ h.0), h.1)

pub must_type : (word : Word) (sp : Span) (es : List Event) (en : List Entry) (gs : List Frame) → settled (Must word TypeName sp ∷ es) (frames en) ≡ Scoped gs → (is_type en word.0 ≡ true) × (settled es (frames en) ≡ Scoped gs)
must_type word sp es en gs e = let h = must_same word TypeName sp es (frames en) gs e in (same_type (is_type en word.0) (ap (is_same TypeName) (sym (meant en word.0)) ∙ h.0), h.1)

-- ---- one state after another

pub stays : (s : State) → Ran [] s s
stays s = record { scoped = refl; aside = refl }

pub after_all : (es : List Event) (s u : State) (gs : List Frame) → settled es (frames s.entries) ≡ Scoped gs → frames u.entries ≡ gs → u.aside ≡ s.aside → Ran es s u
after_all es s u gs e f a = record { scoped = e ∙ ap Scoped (sym f); aside = a }
