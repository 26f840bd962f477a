-- Specifiers are ready where they may stand and their events hold.
use Rattle.std.proofs.Common.{◌≡◌, ◌≤◌, ◌<◌, refl, ap, sym, subst, ◌∙◌, ℕ, ◌+◌, Bool, true, false, not, ◌&&◌, ◌||◌, if◌then◌else◌, List, [], ◌∷◌, ◌++◌, append_assoc, Option, None, nat_lt, arith}
use Rattle.c_tokens.specs.declared.span.Span.{Span}
use Rattle.c_tokens.specs.declared.token.Word.{Word}
use Rattle.c_tokens.specs.declared.token.Shape.{Shape}
use Rattle.c_tokens.specs.declared.token.Shape.TheVariants as shape
use Rattle.c_forms.specs.declared.pieces.Event.TheVariants as event
use Rattle.c_forms.specs.declared.pieces.Repetition.TheVariants.{Optional, Due}
use Rattle.c_forms.specs.declared.pieces.Sort.{Sort}
use Rattle.c_forms.specs.declared.pieces.Sort.TheVariants as s
use Rattle.c_forms.specs.declared.operators.StorageClass.{StorageClass}
use Rattle.c_forms.specs.declared.operators.StorageClass.TheVariants as storage
use Rattle.c_forms.specs.declared.operators.TypeQualifier.{TypeQualifier}
use Rattle.c_forms.specs.declared.operators.BasicType.{BasicType}
use Rattle.c_forms.specs.declared.operators.StructOrUnion.{StructOrUnion}
use Rattle.c_tokens.specs.declared.class.Class.{Class}
use Rattle.c_forms.specs.declared.pieces.Repetition.{Repetition}
use Rattle.c_forms.specs.declared.forms.Form.{Form}
use Rattle.c_forms.specs.declared.forms.Form.TheVariants as form
use Rattle.c_forms.specs.declared.forms.SpecForm.{SpecForm}
use Rattle.c_forms.specs.declared.forms.SpecForm.TheVariants as spec
use Rattle.c_forms.specs.declared.forms.GroupForm.TheVariants as group
use Rattle.c_forms.specs.declared.rules.Rule.{Rule}
use Rattle.c_forms.specs.Forests.{Plain, Forest, empty, tree}
use Rattle.c_forms.specs.Fits.{fits, elements, is_list_of, is_spliced, all_stand}
use Rattle.c_forms.specs.Measures.{is_plain, pieces}
use Rattle.c_forms.specs.Places.{stands}
use Rattle.c_forms.specs.Rules.{unless, is_none, is_type, is_sole, types, has_sole, one_if, are_specifiers, is_nothing, among_rules}
use Rattle.c_forms.specs.Sets.{has, type_word}
use Rattle.c_forms.specs.Tokens.{storage_token, qualifier_token, basic_token, group_token}
use Rattle.c_reader.specs.States.{State, Kept, AsValue, nothing_kept, happens, word_class, top, under}
use Rattle.c_reader.specs.States as States
use Rattle.c_reader.specs.Tokens.{Spot, step, turned}
use Rattle.c_syntax.specs.Allowed.{may_stand, fits_beside}
use Rattle.c_syntax.specs.Reading.{Before, Usual, before_by, is_missing}
use Rattle.c_trees.specs.Counts.{pure}
use Rattle.scope_tables.specs.Frames.{Frame}
use Rattle.scope_meanings.specs.declared.meaning.NameUse.TheVariants as naming
use Rattle.scope_meanings.specs.Meanings.{has_type, has_typedef, is_typedef}
use Rattle.scopes.specs.declared.event.Event.{Event}
use Rattle.scopes.specs.Events.{events_of}
use Rattle.scopes.specs.Settling.{Scoped, settled}
use Rattle.spelled_scopes.specs.Meant.{frames}
use Rattle.spelled_trees.proofs.Parts.{left_of, right_of}
use Rattle.ready_rows.proofs.Ready.{the_tree, past}
use Rattle.ready_rows.proofs.Rows.{list_form, list_stand, stand_by}
use Rattle.ready_rows.proofs.Standing.{Follows, asks, Holds, Ran, Ready, Made, Specifies}
use Rattle.ready_rows.proofs.Steps.{earlier, later, append_nil, one_end, must_type}
use Rattle.ready_rows.proofs.Calm.{Here, RowReady, AreReady, OthersReady, GroupReady, calm_elements, at_end, at_past}
use Rattle.ready_expressions.proofs.Expressions.{never, never_two, seen_alike}

-- ---- what may stand

sole_type : (f : Form) → is_sole f ≡ true → is_type f ≡ true
sole_type (form.Spec (spec.Storage c)) e = absurd (cc e)
sole_type (form.Spec (spec.Qualifier c)) e = absurd (cc e)
sole_type (form.Spec f) e = refl
sole_type (form.Hole h) e = refl
sole_type (form.Call n gives tail) e = refl
sole_type f e = absurd (cc e)

-- of what there is already: whether a type specifier, and one that allows no other
pub record Allows (typed sole : Bool) (ts : Forest) : Type 0 where
  pub first : sole ≡ true → typed ≡ true
  pub few : (sole || has_sole ts) ≡ true → one_if typed + types ts < 2

one_or : (a b : Bool) → one_if (a || b) ≤ one_if a + one_if b
one_or true b = omega arith
one_or false b = omega arith

or_left : (a b : Bool) → a ≡ true → (a || b) ≡ true
or_left true b e = refl
or_left false b e = absurd (cc e)

or_right : (a b : Bool) → b ≡ true → (a || b) ≡ true
or_right true b e = refl
or_right false b e = e

or_cases : (a b c : Bool) → (a ≡ true → c ≡ true) → (b ≡ true → c ≡ true) → (a || b) ≡ true → c ≡ true
or_cases true b c f g e = f refl
or_cases false b c f g e = g e

or_turn : (a b c : Bool) → ((a || b) || c) ≡ (a || (b || c))
or_turn true b c = refl
or_turn false b c = refl

allows_next : (a b : Bool) (f : Form) (sp : Span) (ps rest : Forest) → Allows a b (tree f sp ps rest) → Allows (a || is_type f) (b || is_sole f) rest
allows_next a b f sp ps rest A = record {
  first = λ e. or_cases b (is_sole f) (a || is_type f) (λ e. or_left a (is_type f) (A.first e)) (λ e. or_right a (is_type f) (sole_type f e)) e;
  few = λ e. let h : one_if a + (one_if (is_type f) + types rest) < 2 = A.few (sym (or_turn b (is_sole f) (has_sole rest)) ∙ e) in let o = one_or a (is_type f) in omega (arith, h, o);
}

by_typed : (a b t c : Bool) (n : ℕ) → (c ≡ true → t ≡ true) → (b ≡ true → a ≡ true) → ((b || (c || false)) ≡ true → one_if a + (one_if t + n) < 2) → (not t || (if c then not a else not b)) ≡ true
by_typed a b false c n s f e = refl
by_typed false b true true n s f e = refl
by_typed true b true true n s f e = let h : 1 + (1 + n) < 2 = e (or_right b true refl) in absurd (omega (arith, h))
by_typed a false true false n s f e = refl
by_typed a true true false n s f e = let h : one_if a + (1 + n) < 2 = e refl in let g : a ≡ true = f refl in let k : 1 + (1 + n) < 2 = subst (λ a. one_if a + (1 + n) < 2) g h in absurd (omega (arith, k))

beside_by : (u : State) (c : Bool) → (if c then not u.kept.has_type else not u.kept.is_sole) ≡ fits_beside u c
beside_by u true = refl
beside_by u false = refl

or_more : (b c d : Bool) → (b || (c || false)) ≡ true → (b || (c || d)) ≡ true
or_more true c d e = refl
or_more false true d e = refl
or_more false false d e = absurd (cc e)

stands_allowed : (u : State) (f : Form) (sp : Span) (ps rest : Forest) → Allows u.kept.has_type u.kept.is_sole (tree f sp ps rest) → may_stand u f ≡ true
stands_allowed u f sp ps rest A = ap (λ b. not (is_type f) || b) (sym (beside_by u (is_sole f))) ∙ by_typed u.kept.has_type u.kept.is_sole (is_type f) (is_sole f) (types rest) (sole_type f) A.first (λ e. A.few (or_more u.kept.is_sole (is_sole f) (has_sole rest) e))

few_by : (b : Bool) (n : ℕ) → (not b || nat_lt n 2) ≡ true → b ≡ true → 0 + n < 2
few_by true n e f = grind (arith)
few_by false n e f = absurd (cc f)

pub allows_all : (ts : Forest) → are_specifiers ts ≡ true → Allows false false ts
allows_all ts e = record { first = λ f. f; few = λ f. few_by (has_sole ts) (types ts) e f }

-- ---- lists of specifiers

abbrev pub is_spec : Sort → Bool
is_spec s.Spec = true
is_spec s.PlainSpec = true
is_spec due = false

spec_is_ready : (due : Sort) (t : Plain) (u : State) → is_spec due ≡ true → may_stand u t.form ≡ true → Holds (events_of naming.Nothing t) u → Ready due t u
spec_is_ready s.Spec t u c m h = (m, h)
spec_is_ready s.PlainSpec t u c m h = (m, h)
spec_is_ready due t u c m h = absurd (cc c)

spec_follows : (due : Sort) (t : Plain) (after : List Shape) → is_spec due ≡ true → Follows due t after
spec_follows s.Spec t after c = tt
spec_follows s.PlainSpec t after c = tt
spec_follows due t after c = absurd (cc c)

spec_made : (due : Sort) (t : Plain) (u v : State) → is_spec due ≡ true → Made due t u v → Specifies t u v
spec_made s.Spec t u v c m = m
spec_made s.PlainSpec t u v c m = m
spec_made due t u v c m = absurd (cc c)

-- after specifiers, from a state
pub record Specified (ts : Forest) (more : List Event) (gs : List Frame) (u v : State) : Type 0 where
  pub holds : settled more (frames v.entries) ≡ Scoped gs
  pub aside : v.aside ≡ u.aside
  pub typed : v.kept.has_type ≡ (u.kept.has_type || has_type ts)
  pub typedef : v.kept.is_typedef ≡ (u.kept.is_typedef || has_typedef ts)
  pub name : v.kept.name ≡ u.kept.name
  pub due : v.kept.is_function_due ≡ u.kept.is_function_due

or_false : (b : Bool) → b ≡ (b || false)
or_false true = refl
or_false false = refl

no_specs : (more : List Event) (gs : List Frame) (u : State) → settled more (frames u.entries) ≡ Scoped gs → Specified empty more gs u u
no_specs more gs u h = record { holds = h; aside = refl; typed = or_false u.kept.has_type; typedef = or_false u.kept.is_typedef; name = refl; due = refl }

one_spec : (f : Form) (sp : Span) (ps rest : Forest) (more : List Event) (gs : List Frame) (u v z : State) → Specifies (the_tree f sp ps) u v → Specified rest more gs v z → Specified (tree f sp ps rest) more gs u z
one_spec f sp ps rest more gs u v z a b = record {
  holds = b.holds;
  aside = b.aside ∙ a.ran.aside;
  typed = b.typed ∙ ap (λ x. x || has_type rest) a.typed ∙ or_turn u.kept.has_type (is_type f) (has_type rest);
  typedef = b.typedef ∙ ap (λ x. x || has_typedef rest) a.typedef ∙ or_turn u.kept.is_typedef (is_typedef f) (has_typedef rest);
  name = b.name ∙ a.name;
  due = b.due ∙ a.due;
}

specs_after : (due : Sort) (es : Forest) (i : Spot) (after : List Shape) (more : List Event) (gs : List Frame) (K : Spot → Type 0) → is_spec due ≡ true → Allows i.state.kept.has_type i.state.kept.is_sole es
    → settled (asks naming.Nothing es ++ more) (frames i.state.entries) ≡ Scoped gs → ((j : Spot) → Specified es more gs i.state j.state → K j) → OthersReady due 0 None es i after K
specs_after due empty i after more gs K c A h k = k i (no_specs more gs i.state h)
specs_after due (tree f sp ps rest) i after more gs K c A h k =
    let t : Plain = the_tree f sp ps in
    let ds : List Event = events_of naming.Nothing t in
    let H : settled (ds ++ (asks naming.Nothing rest ++ more)) (frames i.state.entries) ≡ Scoped gs = ap (λ l. settled l (frames i.state.entries)) (sym (append_assoc ds (asks naming.Nothing rest) more)) ∙ h in (
      spec_is_ready due t i.state c (stands_allowed i.state f sp ps rest A) (earlier ds (asks naming.Nothing rest ++ more) i.state (gs, H)),
      (
        spec_follows due t _ c,
        λ j d. let S = spec_made due t i.state j.state c d.made in
            specs_after due rest j after more gs K c (subst (λ a. Allows a j.state.kept.is_sole rest) (sym S.typed) (subst (λ b. Allows (i.state.kept.has_type || is_type f) b rest) (sym S.sole) (allows_next i.state.kept.has_type i.state.kept.is_sole f sp ps rest A)))
            (later ds (asks naming.Nothing rest ++ more) (frames i.state.entries) (frames j.state.entries) gs S.ran.scoped H) (λ m e. k m (one_spec f sp ps rest more gs i.state j.state m.state S e)),
      ),
    )

pub as_elements : (due : Sort) (es : Forest) (i : Spot) (after : List Shape) (K : Spot → Type 0) → OthersReady due 0 None es i after K → AreReady due 0 None es i after K
as_elements due empty i after K r = r
as_elements due (tree f sp ps rest) i after K r = r

pub specs_ready : (due : Sort) (es : Forest) (i : Spot) (after : List Shape) (more : List Event) (gs : List Frame) (K : Spot → Type 0) → is_spec due ≡ true → Allows i.state.kept.has_type i.state.kept.is_sole es
    → settled (asks naming.Nothing es ++ more) (frames i.state.entries) ≡ Scoped gs → ((j : Spot) → Specified es more gs i.state j.state → K j) → AreReady due 0 None es i after K
specs_ready due es i after more gs K c A h k = as_elements due es i after K (specs_after due es i after more gs K c A h k)

-- ---- one token

or_true : (b : Bool) → true ≡ (b || true)
or_true true = refl
or_true false = refl

plain_spec : (f : Form) (sp : Span) (ps : Forest) (u : State) → events_of naming.Nothing (the_tree f sp ps) ≡ [] → is_type f ≡ false → is_sole f ≡ false → is_typedef f ≡ false → Specifies (the_tree f sp ps) u u
plain_spec f sp ps u e t b d = record {
  ran = record { scoped = ap (λ es. settled es (frames u.entries)) e; aside = refl };
  typed = or_false u.kept.has_type ∙ ap (λ b. u.kept.has_type || b) (sym t);
  sole = or_false u.kept.is_sole ∙ ap (λ b. u.kept.is_sole || b) (sym b);
  typedef = or_false u.kept.is_typedef ∙ ap (λ b. u.kept.is_typedef || b) (sym d);
  name = refl;
  due = refl;
}

abbrev SpecRow : Sort → SpecForm → Span → Forest → Spot → List Shape → Type 0
SpecRow own f sp ts i after = RowReady own (form.Spec f) Usual (pieces (form.Spec f)) ts i after (λ j. Specifies (the_tree (form.Spec f) sp ts) i.state j.state)

storage_row : (own : Sort) (c : StorageClass) (sp : Span) (ts : Forest) (i : Spot) (after : List Shape) → fits (pieces (form.Spec (spec.Storage c))) ts ≡ true → SpecRow own (spec.Storage c) sp ts i after
storage_row own storage.Typedef sp empty i after t = (
  record { shape = shape.Key (storage_token storage.Typedef); held = refl; seen = refl },
  (refl, record { ran = record { scoped = refl; aside = refl }; typed = or_false _; sole = or_false _; typedef = or_true _; name = refl; due = refl }),
)
storage_row own storage.Typedef sp (tree g gp qs rest) i after t = absurd (cc t)
storage_row own c sp empty i after t = (record { shape = shape.Key (storage_token c); held = refl; seen = refl }, plain_spec (form.Spec (spec.Storage c)) sp empty i.state refl refl refl refl)
storage_row own c sp (tree g gp qs rest) i after t = absurd (cc t)

-- a qualifier changes nothing
pub qualifier_row : (own : Sort) (q : TypeQualifier) (sp : Span) (ts : Forest) (i : Spot) (after : List Shape) (K : State → Type 0) → fits (pieces (form.Spec (spec.Qualifier q))) ts ≡ true → (ts ≡ empty → K i.state) → RowReady own (form.Spec (spec.Qualifier q)) Usual (pieces (form.Spec (spec.Qualifier q))) ts i after (λ j. K j.state)
qualifier_row own q sp empty i after K t k = (record { shape = shape.Key (qualifier_token q); held = refl; seen = seen_alike (shape.Key (qualifier_token q)) i.state refl }, k refl)
qualifier_row own q sp (tree g gp qs rest) i after K t k = absurd (cc t)

basic_row : (own : Sort) (b : BasicType) (sp : Span) (ts : Forest) (i : Spot) (after : List Shape) → fits (pieces (form.Spec (spec.Basic b))) ts ≡ true → SpecRow own (spec.Basic b) sp ts i after
basic_row own b sp empty i after t = (
  record { shape = shape.Key (basic_token b); held = refl; seen = seen_alike (shape.Key (basic_token b)) i.state refl },
  (refl, record { ran = record { scoped = refl; aside = refl }; typed = or_true _; sole = or_false _; typedef = or_false _; name = refl; due = refl }),
)
basic_row own b sp (tree g gp qs rest) i after t = absurd (cc t)

type_seen : (u : State) (w : Word) → not u.kept.has_type ≡ true → States.is_type u.entries w.0 ≡ true → has (type_word ∷ []) (States.class u (shape.Word w)) ≡ true
type_seen u w n e = ap (λ b. has (type_word ∷ []) (word_class (b && States.is_type u.entries w.0))) n ∙ ap (λ b. has (type_word ∷ []) (word_class b)) e

typedef_row : (own : Sort) (w : Word) (sp : Span) (ts : Forest) (i : Spot) (after : List Shape) → fits (pieces (form.Spec (spec.Typedef w))) ts ≡ true → may_stand i.state (form.Spec (spec.Typedef w)) ≡ true → Holds (events_of naming.Nothing (the_tree (form.Spec (spec.Typedef w)) sp ts)) i.state → SpecRow own (spec.Typedef w) sp ts i after
typedef_row own w sp empty i after t m h = let o = must_type w sp [] i.state.entries h.0 h.1 in (
  record { shape = shape.Word w; held = refl; seen = type_seen i.state w m o.0 },
  (refl, record { ran = record { scoped = h.1 ∙ sym o.1; aside = refl }; typed = or_true _; sole = or_true _; typedef = or_false _; name = refl; due = refl }),
)
typedef_row own w sp (tree g gp qs rest) i after t m h = absurd (cc t)

-- ---- sorts that stand whatever is begun

abbrev pub is_running : Sort → Bool
is_running s.Enumerator = true
is_running s.Enumerators = true
is_running due = false

running_ready : (due : Sort) (t : Plain) (u : State) → is_running due ≡ true → Holds (events_of naming.Nothing t) u → Ready due t u
running_ready s.Enumerator t u c h = h
running_ready s.Enumerators t u c h = h
running_ready due t u c h = absurd (cc c)

running_follows : (due : Sort) (t : Plain) (after : List Shape) → is_running due ≡ true → Follows due t after
running_follows s.Enumerator t after c = tt
running_follows s.Enumerators t after c = tt
running_follows due t after c = absurd (cc c)

running_made : (due : Sort) (t : Plain) (u v : State) → is_running due ≡ true → Made due t u v → Ran (events_of naming.Nothing t) u v
running_made s.Enumerator t u v c m = m
running_made s.Enumerators t u v c m = m
running_made due t u v c m = absurd (cc c)

running_after : (due : Sort) (least : ℕ) (c : Option Class) (es : Forest) (i : Spot) (after : List Shape) (more : List Event) (gs : List Frame) (a : List Kept) (K : Spot → Type 0) → is_running due ≡ true
    → settled (asks naming.Nothing es ++ more) (frames i.state.entries) ≡ Scoped gs → i.state.aside ≡ a → ((j : Spot) → settled more (frames j.state.entries) ≡ Scoped gs → j.state.aside ≡ a → K j) → OthersReady due least c es i after K
running_after due least c empty i after more gs a K x h e k = k i h e
running_after due least c (tree f sp ps rest) i after more gs a K x h e k =
    let t : Plain = the_tree f sp ps in
    let ds : List Event = events_of naming.Nothing t in
    let H : settled (ds ++ (asks naming.Nothing rest ++ more)) (frames (past c i).state.entries) ≡ Scoped gs = at_past (λ u. settled (ds ++ (asks naming.Nothing rest ++ more)) (frames u.entries) ≡ Scoped gs) c i (ap (λ l. settled l (frames i.state.entries)) (sym (append_assoc ds (asks naming.Nothing rest) more)) ∙ h) in (
      running_ready due t (past c i).state x (earlier ds (asks naming.Nothing rest ++ more) (past c i).state (gs, H)),
      (
        running_follows due t _ x,
        λ j d. let R = running_made due t (past c i).state j.state x d.made in
            running_after due least c rest j after more gs a K x (later ds (asks naming.Nothing rest ++ more) (frames (past c i).state.entries) (frames j.state.entries) gs R.scoped H) (R.aside ∙ at_past (λ u. u.aside ≡ a) c i e) k,
      ),
    )

pub running_elements : (due : Sort) (least : ℕ) (c : Option Class) (es : Forest) (i : Spot) (after : List Shape) (more : List Event) (gs : List Frame) (a : List Kept) (K : Spot → Type 0) → is_running due ≡ true
    → settled (asks naming.Nothing es ++ more) (frames i.state.entries) ≡ Scoped gs → i.state.aside ≡ a → ((j : Spot) → settled more (frames j.state.entries) ≡ Scoped gs → j.state.aside ≡ a → K j) → AreReady due least c es i after K
running_elements due least c empty i after more gs a K x h e k = k i h e
running_elements due least c (tree f sp ps rest) i after more gs a K x h e k =
    let t : Plain = the_tree f sp ps in
    let ds : List Event = events_of naming.Nothing t in
    let H : settled (ds ++ (asks naming.Nothing rest ++ more)) (frames i.state.entries) ≡ Scoped gs = ap (λ l. settled l (frames i.state.entries)) (sym (append_assoc ds (asks naming.Nothing rest) more)) ∙ h in (
      running_ready due t i.state x (earlier ds (asks naming.Nothing rest ++ more) i.state (gs, H)),
      (
        running_follows due t _ x,
        λ j d. let R = running_made due t i.state j.state x d.made in
            running_after due least c rest j after more gs a K x (later ds (asks naming.Nothing rest ++ more) (frames i.state.entries) (frames j.state.entries) gs R.scoped H) (R.aside ∙ e) k,
      ),
    )

-- ---- structures, unions and enumerations

pub due_group : (due : Sort) (before : Before) (ms : Forest) (i : Spot) (after : List Shape) (K : Spot → Type 0) → (is_none ms ≡ true → is_missing before ≡ false) → AreReady due 0 None ms i after K → GroupReady Due due 0 before ms i after K
due_group due before empty i after K m r = (m refl, r)
due_group due before (tree f sp ps rest) i after K m r = r

tag_or_body : (a b : Bool) (r : Rule) → is_nothing (unless (not a || not b) r None) ≡ true → b ≡ true → is_missing (before_by a) ≡ false
tag_or_body false b r e f = refl
tag_or_body true true r e f = absurd (cc e)
tag_or_body true false r e f = absurd (cc f)

tagged : (f : Form) (sp : Span) (ts : Forest) (u m : State) (gs : List Frame) → settled (events_of naming.Nothing (the_tree f sp ts)) (frames u.entries) ≡ Scoped gs → is_type f ≡ true → is_sole f ≡ true → is_typedef f ≡ false → frames m.entries ≡ gs → m.aside ≡ u.kept ∷ u.aside
    → Specifies (the_tree f sp ts) u (happens event.SoleType (happens event.Resume m))
tagged f sp ts u m gs e t b d n a = record {
  ran = record { scoped = e ∙ ap Scoped (sym n); aside = ap under a };
  typed = or_true u.kept.has_type ∙ ap (λ b. u.kept.has_type || b) (sym t);
  sole = or_true u.kept.is_sole ∙ ap (λ b. u.kept.is_sole || b) (sym b);
  typedef = ap (λ a. (top a).is_typedef) a ∙ or_false u.kept.is_typedef ∙ ap (λ b. u.kept.is_typedef || b) (sym d);
  name = ap (λ a. (top a).name) a;
  due = ap (λ a. (top a).is_function_due) a;
}

two_lists : (xs bs : List Event) → (((xs ++ []) ++ ((bs ++ []) ++ [])) ++ []) ≡ (xs ++ (bs ++ []))
two_lists xs bs = append_nil _ ∙ ap (λ l. l ++ ((bs ++ []) ++ [])) (append_nil xs) ∙ ap (λ l. xs ++ l) (append_nil _)

struct_row : (own : Sort) (k : StructOrUnion) (sp kp : Span) (is : Forest) (lp : Span) (ms : Forest) (i : Spot) (after : List Shape) → pure is ≡ true → all_stand s.Id is ≡ true → pure ms ≡ true → all_stand s.Members ms ≡ true
    → is_nothing (among_rules (form.Spec (spec.StructOf k)) (tree (form.Group group.List) kp is (tree (form.Group group.List) lp ms empty))) ≡ true → Holds (events_of naming.Nothing (the_tree (form.Spec (spec.StructOf k)) sp (tree (form.Group group.List) kp is (tree (form.Group group.List) lp ms empty)))) i.state
    → SpecRow own (spec.StructOf k) sp (tree (form.Group group.List) kp is (tree (form.Group group.List) lp ms empty)) i after
struct_row own k sp kp is lp ms i after p a o b q h =
    let u : State = happens event.Aside i.state in
    let H : Here u (asks naming.Nothing is ++ (asks naming.Nothing ms ++ [])) h.0 (i.state.kept ∷ i.state.aside) = record { free = refl; holds = ap (λ l. settled l (frames i.state.entries)) (sym (two_lists (asks naming.Nothing is) (asks naming.Nothing ms))) ∙ h.1; aside = refl } in (
      record { shape = shape.Key (group_token k); held = refl; seen = seen_alike (shape.Key (group_token k)) i.state refl },
      (
        refl,
        calm_elements s.Id 0 None is (turned (happens event.Aside) (step i)) _ (asks naming.Nothing ms ++ []) h.0 (i.state.kept ∷ i.state.aside) _ refl p a H
            (λ j G. due_group s.Members (before_by (is_none is)) ms j _ _ (tag_or_body (is_none is) (is_none ms) _ q)
            (calm_elements s.Members 0 None ms j _ [] h.0 (i.state.kept ∷ i.state.aside) _ refl o b G
            (λ m F. (refl, (refl, tagged (form.Spec (spec.StructOf k)) sp _ i.state m.state h.0 h.1 refl refl refl (at_end m.state h.0 (i.state.kept ∷ i.state.aside) F) F.aside))))),
      ),
    )

enum_row : (own : Sort) (sp kp : Span) (is : Forest) (lp : Span) (ms : Forest) (i : Spot) (after : List Shape) → pure is ≡ true → all_stand s.Id is ≡ true
    → is_nothing (among_rules (form.Spec spec.EnumOf) (tree (form.Group group.List) kp is (tree (form.Group group.List) lp ms empty))) ≡ true → Holds (events_of naming.Nothing (the_tree (form.Spec spec.EnumOf) sp (tree (form.Group group.List) kp is (tree (form.Group group.List) lp ms empty)))) i.state
    → SpecRow own spec.EnumOf sp (tree (form.Group group.List) kp is (tree (form.Group group.List) lp ms empty)) i after
enum_row own sp kp is lp ms i after p a q h =
    let u : State = happens event.Aside i.state in
    let H : Here u (asks naming.Nothing is ++ (asks naming.Nothing ms ++ [])) h.0 (i.state.kept ∷ i.state.aside) = record { free = refl; holds = ap (λ l. settled l (frames i.state.entries)) (sym (two_lists (asks naming.Nothing is) (asks naming.Nothing ms))) ∙ h.1; aside = refl } in (
      refl,
      calm_elements s.Id 0 None is (turned (happens event.Aside) (step i)) _ (asks naming.Nothing ms ++ []) h.0 (i.state.kept ∷ i.state.aside) _ refl p a H
          (λ j G. due_group s.Enumerators (before_by (is_none is)) ms j _ _ (tag_or_body (is_none is) (is_none ms) _ q)
          (running_elements s.Enumerators 0 None ms j _ [] h.0 (i.state.kept ∷ i.state.aside) _ refl G.holds G.aside
          (λ m e f. (refl, (refl, tagged (form.Spec spec.EnumOf) sp _ i.state m.state h.0 h.1 refl refl refl (one_end (frames m.state.entries) h.0 e) f))))),
    )

-- two lists, each of a sort
pub record Lists (r : Repetition) (due : Sort) (o : Repetition) (other : Sort) (f : Form) (is : Forest) (g : Form) (ms : Forest) : Type 0 where
  pub first : f ≡ form.Group group.List
  pub second : g ≡ form.Group group.List
  pub first_pure : pure is ≡ true
  pub second_pure : pure ms ≡ true
  pub first_stand : all_stand due is ≡ true
  pub second_stand : all_stand other ms ≡ true

pub a_list : (r : Repetition) (due : Sort) (f : Form) (fp : Span) (is rest : Forest) → is_list_of r due f is ≡ true → pure (tree f fp is rest) ≡ true → (f ≡ form.Group group.List) × ((pure is ≡ true) × (all_stand due is ≡ true))
a_list r due f fp is rest l p = let x = left_of (is_plain f && pure is) (pure rest) p in let y = right_of (is_plain f) (pure is) x in
    (list_form f (left_of (is_plain f) (pure is) x) (left_of (stands f s.List) (elements r due is) l), (y, stand_by (is_spliced r) due is y (list_stand r due is (right_of (stands f s.List) (elements r due is) l))))

two_of_lists : (r : Repetition) (due : Sort) (o : Repetition) (other : Sort) (f : Form) (fp : Span) (is : Forest) (g : Form) (gp : Span) (ms : Forest) → (is_list_of r due f is && (is_list_of o other g ms && true)) ≡ true → pure (tree f fp is (tree g gp ms empty)) ≡ true → Lists r due o other f is g ms
two_of_lists r due o other f fp is g gp ms t p =
    let a = a_list r due f fp is (tree g gp ms empty) (left_of (is_list_of r due f is) _ t) p in
    let b = a_list o other g gp ms empty (left_of (is_list_of o other g ms) true (right_of (is_list_of r due f is) _ t)) (right_of (is_plain f && pure is) (pure (tree g gp ms empty)) p) in
    record { first = a.0; second = b.0; first_pure = a.1.0; second_pure = b.1.0; first_stand = a.1.1; second_stand = b.1.1 }

-- ---- each form

pub spec_ready : (own : Sort) (f : SpecForm) (sp : Span) (ts : Forest) (i : Spot) (after : List Shape) → fits (pieces (form.Spec f)) ts ≡ true → pure ts ≡ true → is_nothing (among_rules (form.Spec f) ts) ≡ true → may_stand i.state (form.Spec f) ≡ true
    → Holds (events_of naming.Nothing (the_tree (form.Spec f) sp ts)) i.state → SpecRow own f sp ts i after
spec_ready own (spec.Storage c) sp ts i after t p q m h = storage_row own c sp ts i after t
spec_ready own (spec.Qualifier k) sp ts i after t p q m h = qualifier_row own k sp ts i after (λ u. Specifies (the_tree (form.Spec (spec.Qualifier k)) sp ts) i.state u) t
    (λ e. subst (λ ts. Specifies (the_tree (form.Spec (spec.Qualifier k)) sp ts) i.state i.state) (sym e) (plain_spec (form.Spec (spec.Qualifier k)) sp empty i.state refl refl refl refl))
spec_ready own (spec.Basic b) sp ts i after t p q m h = basic_row own b sp ts i after t
spec_ready own (spec.Typedef w) sp ts i after t p q m h = typedef_row own w sp ts i after t m h
spec_ready own (spec.StructOf k) sp empty i after t p q m h = absurd (cc t)
spec_ready own (spec.StructOf k) sp (tree f fp is empty) i after t p q m h = absurd (never _ t)
spec_ready own (spec.StructOf k) sp (tree f fp is (tree g gp ms (tree n np vs rest))) i after t p q m h = absurd (never_two (is_list_of Optional s.Id f is) (is_list_of Due s.Members g ms) t)
spec_ready own (spec.StructOf k) sp (tree f fp is (tree g gp ms empty)) i after t p q m h =
    let L = two_of_lists Optional s.Id Due s.Members f fp is g gp ms t p in
    subst (λ f. is_nothing (among_rules (form.Spec (spec.StructOf k)) (tree f fp is (tree g gp ms empty))) ≡ true → Holds (events_of naming.Nothing (the_tree (form.Spec (spec.StructOf k)) sp (tree f fp is (tree g gp ms empty)))) i.state → SpecRow own (spec.StructOf k) sp (tree f fp is (tree g gp ms empty)) i after) (sym L.first)
    (subst (λ g. is_nothing (among_rules (form.Spec (spec.StructOf k)) (tree (form.Group group.List) fp is (tree g gp ms empty))) ≡ true → Holds (events_of naming.Nothing (the_tree (form.Spec (spec.StructOf k)) sp (tree (form.Group group.List) fp is (tree g gp ms empty)))) i.state → SpecRow own (spec.StructOf k) sp (tree (form.Group group.List) fp is (tree g gp ms empty)) i after) (sym L.second)
    (λ q h. struct_row own k sp fp is gp ms i after L.first_pure L.first_stand L.second_pure L.second_stand q h)) q h
spec_ready own spec.EnumOf sp empty i after t p q m h = absurd (cc t)
spec_ready own spec.EnumOf sp (tree f fp is empty) i after t p q m h = absurd (never _ t)
spec_ready own spec.EnumOf sp (tree f fp is (tree g gp ms (tree n np vs rest))) i after t p q m h = absurd (never_two (is_list_of Optional s.Id f is) (is_list_of Due s.Enumerators g ms) t)
spec_ready own spec.EnumOf sp (tree f fp is (tree g gp ms empty)) i after t p q m h =
    let L = two_of_lists Optional s.Id Due s.Enumerators f fp is g gp ms t p in
    subst (λ f. is_nothing (among_rules (form.Spec spec.EnumOf) (tree f fp is (tree g gp ms empty))) ≡ true → Holds (events_of naming.Nothing (the_tree (form.Spec spec.EnumOf) sp (tree f fp is (tree g gp ms empty)))) i.state → SpecRow own spec.EnumOf sp (tree f fp is (tree g gp ms empty)) i after) (sym L.first)
    (subst (λ g. is_nothing (among_rules (form.Spec spec.EnumOf) (tree (form.Group group.List) fp is (tree g gp ms empty))) ≡ true → Holds (events_of naming.Nothing (the_tree (form.Spec spec.EnumOf) sp (tree (form.Group group.List) fp is (tree g gp ms empty)))) i.state → SpecRow own spec.EnumOf sp (tree (form.Group group.List) fp is (tree g gp ms empty)) i after) (sym L.second)
    (λ q h. enum_row own sp fp is gp ms i after L.first_pure L.first_stand q h)) q h
