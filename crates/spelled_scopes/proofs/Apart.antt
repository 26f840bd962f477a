-- What is put aside and taken up again, and scopes that are left again.
use Rattle.std.proofs.Common.{◌≡◌, refl, ap, ◌∙◌, Bool, true, false, List, [], ◌∷◌, if◌then◌else◌}
use Rattle.c_tokens.specs.declared.span.Span.{Span}
use Rattle.c_tokens.specs.declared.token.Word.{Word}
use Rattle.c_forms.specs.declared.pieces.Event.TheVariants as event
use Rattle.c_reader.specs.States.{State, Entry, Edge, happens, is_type, top, under, outside}
use Rattle.scope_tables.specs.declared.table.WordClass.{WordClass}
use Rattle.scope_tables.specs.declared.table.WordClass.TheVariants.{TypeName, Value}
use Rattle.scope_tables.specs.Frames.{Frame, class_named, class_of, left}
use Rattle.scopes.specs.declared.event.Event.{Event}
use Rattle.scopes.specs.declared.event.Event.TheVariants.{Leave, Must}
use Rattle.scopes.specs.Events.{scope}
use Rattle.scopes.specs.Settling.{Settled, Scoped, Clashes, settled, is_same}
use Rattle.spelled_scopes.specs.Meant.{frames, after_words, Runs}
use Rattle.spelled_scopes.proofs.Frames.{meant, settled_on, words_left, words_outside}

-- ---- what is put aside

pub apart : (es ws : List Event) (s z : State) → Runs es ws (happens event.Aside s) z → Runs es ws s (happens event.Resume z) × ((happens event.Resume z).kept ≡ s.kept)
apart es ws s z r = (record { scoped = r.scoped; declared = r.declared; aside = ap under r.aside }, ap top r.aside)

-- ---- what must be

same_class : (k : WordClass) → is_same k k ≡ true
same_class TypeName = refl
same_class Value = refl

chosen : (c : Bool) (x y : Settled) → c ≡ true → (if c then x else y) ≡ x
chosen true x y e = refl
chosen false x y e = absurd (cc e)

pub must : (word : Word) (k : WordClass) (sp : Span) (es : List Event) (fs : List Frame) → class_of word.0 fs ≡ k → settled (Must word k sp ∷ es) fs ≡ settled es fs
must word k sp es fs e = chosen (is_same k (class_of word.0 fs)) (settled es fs) (Clashes word k (class_of word.0 fs) sp) (ap (is_same k) e ∙ same_class k)

pub must_be_value : (word : Word) (sp : Span) (es : List Event) (s : State) → is_type s.entries word.0 ≡ false → settled (Must word Value sp ∷ es) (frames s.entries) ≡ settled es (frames s.entries)
must_be_value word sp es s e = must word Value sp es (frames s.entries) (meant s.entries word.0 ∙ ap class_named e)

pub must_be_type : (word : Word) (sp : Span) (es : List Event) (s : State) → is_type s.entries word.0 ≡ true → settled (Must word TypeName sp ∷ es) (frames s.entries) ≡ settled es (frames s.entries)
must_be_type word sp es s e = must word TypeName sp es (frames s.entries) (meant s.entries word.0 ∙ ap class_named e)

-- ---- scopes

-- the entries around a scope that is left
pub around : (ws : List Event) (late : Bool) (es zs : List Entry) → zs ≡ after_words ws (Edge late ∷ es) → outside zs ≡ es
around ws late es zs e = ap outside e ∙ words_outside ws (Edge late ∷ es)

left_around : (ws : List Event) (late : Bool) (es zs : List Entry) → zs ≡ after_words ws (Edge late ∷ es) → left (frames zs) ≡ frames es
left_around ws late es zs e = ap (λ es. left (frames es)) e ∙ words_left ws (Edge late ∷ es)

pub scope_settled : (es ws : List Event) (late : Bool) (ns zs : List Entry) (last : List Frame) → settled es (frames (Edge late ∷ ns)) ≡ Scoped last → left last ≡ left (frames zs) → zs ≡ after_words ws (Edge late ∷ ns) → settled (scope es) (frames ns) ≡ Scoped (frames ns)
scope_settled es ws late ns zs last r k e = settled_on es (Leave ∷ []) (frames (Edge late ∷ ns)) last r ∙ ap Scoped (k ∙ left_around ws late ns zs e)
