-- Rows whose parts stand where no declaration is begun.
use Rattle.std.proofs.Common.{◌≡◌, refl, ap, sym, subst, ◌∙◌, ◌⊎◌, inl, inr, ℕ, Bool, true, false, ◌&&◌, ◌||◌, List, [], ◌∷◌, ◌++◌, append_assoc, Option, Some, None}
use Rattle.c_tokens.specs.declared.span.Span.{Span}
use Rattle.c_tokens.specs.declared.token.Shape.{Shape}
use Rattle.c_tokens.specs.declared.class.Class.{Class}
use Rattle.c_forms.specs.declared.pieces.Sort.{Sort}
use Rattle.c_forms.specs.declared.pieces.Sort.TheVariants as s
use Rattle.c_forms.specs.declared.pieces.Repetition.{Repetition}
use Rattle.c_forms.specs.declared.pieces.Repetition.TheVariants.{Optional, Many, Spliced, Ended}
use Rattle.c_forms.specs.declared.pieces.Piece.{Piece}
use Rattle.c_forms.specs.declared.pieces.Piece.TheVariants.{Token, Maybe, Own, TypeTokens, KindName, One, Group, Rest, Anything, Then}
use Rattle.c_forms.specs.declared.forms.Form.{Form}
use Rattle.c_forms.specs.declared.forms.Form.TheVariants as form
use Rattle.c_forms.specs.declared.forms.ExpForm.TheVariants as exp
use Rattle.c_forms.specs.declared.forms.SpecForm.TheVariants as spec
use Rattle.c_forms.specs.declared.forms.StmtForm.TheVariants as stmt
use Rattle.c_forms.specs.declared.forms.TemplateForm.TheVariants as template
use Rattle.c_forms.specs.declared.forms.GroupForm.TheVariants as group
use Rattle.c_forms.specs.Forests.{Plain, Forest, empty, tree}
use Rattle.c_forms.specs.Fits.{fits, elements, all_stand, is_spliced, is_list_of}
use Rattle.c_forms.specs.Measures.{is_plain, ends_as_last_part}
use Rattle.c_forms.specs.Opens.{last_opens}
use Rattle.c_forms.specs.Places.{stands}
use Rattle.c_forms.specs.Rules.{is_none}
use Rattle.c_reader.specs.States.{State, Kept, nothing_kept}
use Rattle.c_reader.specs.Tokens.{Spot, step}
use Rattle.c_syntax.specs.Reading.{Before, Usual, before_by, is_absent, inside, separator_of}
use Rattle.c_trees.specs.Counts.{pure}
use Rattle.c_layout.specs.Spelled.{spell, all_spelled}
use Rattle.scope_tables.specs.Frames.{Frame}
use Rattle.scope_meanings.specs.declared.meaning.NameUse.TheVariants as naming
use Rattle.scopes.specs.declared.event.Event.{Event}
use Rattle.scopes.specs.Events.{events_of}
use Rattle.scopes.specs.Settling.{Scoped, settled}
use Rattle.spelled_scopes.specs.Meant.{frames}
use Rattle.spelled_trees.proofs.Parts.{left_of, right_of}
use Rattle.ready_rows.proofs.Ready as ready
use Rattle.ready_rows.proofs.Ready.{the_tree, past, others, IsOwn}
use Rattle.ready_rows.proofs.Rows.{list_stand, list_form, stand_by}
use Rattle.ready_rows.proofs.Standing.{asks, Holds, Ran, Ready, Follows, begins_else, Calms, Made, Does}
use Rattle.ready_rows.proofs.Steps.{earlier, later, append_nil, stays, one_end}

-- ---- where no declaration is begun

-- these events hold and lead to these scopes, and what was put aside is this
pub record Here (s : State) (es : List Event) (gs : List Frame) (a : List Kept) : Type 0 where
  pub free : s.kept ≡ nothing_kept
  pub holds : settled es (frames s.entries) ≡ Scoped gs
  pub aside : s.aside ≡ a

pub first_holds : (s : State) (xs ys : List Event) (gs : List Frame) (a : List Kept) → Here s (xs ++ ys) gs a → Holds xs s
first_holds s xs ys gs a h = earlier xs ys s (gs, h.holds)

pub goes_on : (s u : State) (xs ys : List Event) (gs : List Frame) (a : List Kept) → Here s (xs ++ ys) gs a → Ran xs s u → u.kept ≡ nothing_kept → Here u ys gs a
goes_on s u xs ys gs a h r k = record { free = k; holds = later xs ys (frames s.entries) (frames u.entries) gs r.scoped h.holds; aside = r.aside ∙ h.aside }

-- the same events in another order of joining
pub regrouped : (s : State) (xs ys : List Event) (gs : List Frame) (a : List Kept) → xs ≡ ys → Here s xs gs a → Here s ys gs a
regrouped s xs ys gs a e h = subst (λ es. Here s es gs a) e h

pub at_end : (s : State) (gs : List Frame) (a : List Kept) → Here s [] gs a → frames s.entries ≡ gs
at_end s gs a h = one_end (frames s.entries) gs h.holds

-- ---- sorts

abbrev pub is_calm : Sort → Bool
is_calm s.Exp = true
is_calm s.Literal = true
is_calm s.Id = true
is_calm s.Member = true
is_calm s.Init = true
is_calm s.Decl = true
is_calm s.Block = true
is_calm s.Members = true
is_calm due = false

pub id_quiet : (f : Form) (sp : Span) (ps : Forest) → is_plain f ≡ true → stands f s.Id ≡ true → events_of naming.Nothing (the_tree f sp ps) ≡ []
id_quiet (form.Id w) sp ps p e = refl
id_quiet (form.Hole h) sp ps p e = absurd (cc p)
id_quiet (form.Call n gives tail) sp ps p e = absurd (cc p)
id_quiet (form.Exp (exp.Int w)) sp ps p e = absurd (cc e)
id_quiet (form.Spec (spec.Storage c)) sp ps p e = absurd (cc e)
id_quiet (form.Spec (spec.Qualifier q)) sp ps p e = absurd (cc e)
id_quiet (form.Stmt stmt.Block) sp ps p e = absurd (cc e)
id_quiet (form.Template (template.Many k)) sp ps p e = absurd (cc e)
id_quiet (form.Group group.List) sp ps p e = absurd (cc e)
id_quiet f sp ps p e = absurd (cc e)

calm_ready : (due : Sort) (t : Plain) (u : State) → is_calm due ≡ true → u.kept ≡ nothing_kept → Holds (events_of naming.Nothing t) u → Ready due t u
calm_ready s.Exp t u c k h = (k, h)
calm_ready s.Literal t u c k h = (k, h)
calm_ready s.Id t u c k h = tt
calm_ready s.Member t u c k h = (k, h)
calm_ready s.Init t u c k h = (k, h)
calm_ready s.Decl t u c k h = (k, h)
calm_ready s.Block t u c k h = (k, h)
calm_ready s.Members t u c k h = (k, h)
calm_ready due t u c k h = absurd (cc c)

calm_follows : (due : Sort) (t : Plain) (after : List Shape) → is_calm due ≡ true → Follows due t after
calm_follows s.Exp t after c = tt
calm_follows s.Literal t after c = tt
calm_follows s.Id t after c = tt
calm_follows s.Member t after c = tt
calm_follows s.Init t after c = tt
calm_follows s.Decl t after c = tt
calm_follows s.Block t after c = tt
calm_follows s.Members t after c = tt
calm_follows due t after c = absurd (cc c)

calm_made : (due : Sort) (f : Form) (sp : Span) (ps : Forest) (v u : State) → is_calm due ≡ true → is_plain f ≡ true → stands f due ≡ true → v.kept ≡ nothing_kept → Made due (the_tree f sp ps) v u → Calms (the_tree f sp ps) v u
calm_made s.Exp f sp ps v u c p e k m = m
calm_made s.Literal f sp ps v u c p e k m = m
calm_made s.Id f sp ps v u c p e k m = (
  subst (λ es. Ran es v u) (sym (id_quiet f sp ps p e)) (subst (λ u. Ran [] v u) (sym m) (stays v)),
  ap (λ (x : State). x.kept) m ∙ k,
)
calm_made s.Member f sp ps v u c p e k m = m
calm_made s.Init f sp ps v u c p e k m = m
calm_made s.Decl f sp ps v u c p e k m = m
calm_made s.Block f sp ps v u c p e k m = m
calm_made s.Members f sp ps v u c p e k m = m
calm_made due f sp ps v u c p e k m = absurd (cc c)

-- a part that is no declarator inside one is of the sort that its piece names
abbrev pub is_inside : Sort → Bool
is_inside s.InnerDeclarator = true
is_inside due = false

pub no_inner : (own due : Sort) → is_inside due ≡ false → inside own due ≡ due
no_inner s.MemberName s.InnerDeclarator e = absurd (cc e)
no_inner s.MemberName due e = refl
no_inner own s.InnerDeclarator e = absurd (cc e)
no_inner own due e = refl

pub calm_inside : (due : Sort) → is_calm due ≡ true → is_inside due ≡ false
calm_inside s.InnerDeclarator c = absurd (cc c)
calm_inside due c = refl

abbrev pub IsReady : Sort → Plain → Spot → List Shape → (Spot → Type 0) → Type 0
IsReady due t i after K = ready.IsReady Ready Follows Does due t i after K

abbrev pub OthersReady : Sort → ℕ → Option Class → Forest → Spot → List Shape → (Spot → Type 0) → Type 0
OthersReady due least c es i after K = ready.OthersReady Ready Follows Does due least c es i after K

abbrev pub AreReady : Sort → ℕ → Option Class → Forest → Spot → List Shape → (Spot → Type 0) → Type 0
AreReady due least c es i after K = ready.AreReady Ready Follows Does due least c es i after K

abbrev pub GroupReady : Repetition → Sort → ℕ → Before → Forest → Spot → List Shape → (Spot → Type 0) → Type 0
GroupReady r due least before es i after K = ready.GroupReady Ready Follows Does r due least before es i after K

abbrev pub RowReady : Sort → Form → Before → List Piece → Forest → Spot → List Shape → (Spot → Type 0) → Type 0
RowReady own f before ps ts i after K = ready.RowReady Ready Follows Does own f before ps ts i after K

pub part : (own due : Sort) (t : Plain) (i : Spot) (after : List Shape) (K : Spot → Type 0) → is_inside due ≡ false → IsReady due t i after K → IsReady (inside own due) t i after K
part own due t i after K e r = subst (λ d. IsReady d t i after K) (sym (no_inner own due e)) r

-- ---- elements

-- a separator changes nothing
pub at_past : (P : State → Type 0) (c : Option Class) (i : Spot) → P i.state → P (past c i).state
at_past P None i p = p
at_past P (Some c) i p = p

pub calm_one : (due : Sort) (f : Form) (sp : Span) (ps : Forest) (i : Spot) (after : List Shape) (more : List Event) (gs : List Frame) (a : List Kept) (K : Spot → Type 0) → is_calm due ≡ true → is_plain f ≡ true → stands f due ≡ true
    → Here i.state (events_of naming.Nothing (the_tree f sp ps) ++ more) gs a → ((j : Spot) → Here j.state more gs a → K j) → IsReady due (the_tree f sp ps) i after K
calm_one due f sp ps i after more gs a K c p e h k = let t : Plain = the_tree f sp ps in (
  calm_ready due t i.state c h.free (first_holds i.state (events_of naming.Nothing t) more gs a h),
  (calm_follows due t after c, λ j d. let m = calm_made due f sp ps i.state j.state c p e h.free d.made in k j (goes_on i.state j.state (events_of naming.Nothing t) more gs a h m.0 m.1)),
)

first_plain : (f : Form) (ps rest : Forest) → (is_plain f && pure ps && pure rest) ≡ true → is_plain f ≡ true
first_plain f ps rest h = left_of (is_plain f) (pure ps) (left_of (is_plain f && pure ps) (pure rest) h)

rest_pure : (f : Form) (ps rest : Forest) → (is_plain f && pure ps && pure rest) ≡ true → pure rest ≡ true
rest_pure f ps rest h = right_of (is_plain f && pure ps) (pure rest) h

calm_others : (due : Sort) (least : ℕ) (c : Option Class) (es : Forest) (i : Spot) (after : List Shape) (more : List Event) (gs : List Frame) (a : List Kept) (K : Spot → Type 0) → is_calm due ≡ true → pure es ≡ true → all_stand due es ≡ true
    → Here i.state (asks naming.Nothing es ++ more) gs a → ((j : Spot) → Here j.state more gs a → K j) → OthersReady due least c es i after K
calm_others due least c empty i after more gs a K x p e h k = k i h
calm_others due least c (tree f sp ps rest) i after more gs a K x p e h k =
    let t : Plain = the_tree f sp ps in
    let g : Here i.state (events_of naming.Nothing t ++ (asks naming.Nothing rest ++ more)) gs a = regrouped i.state _ _ gs a (append_assoc (events_of naming.Nothing t) (asks naming.Nothing rest) more) h in
    calm_one due f sp ps (past c i) (others c least rest ++ after) (asks naming.Nothing rest ++ more) gs a (λ j. OthersReady due least c rest j after K) x (first_plain f ps rest p) (left_of (stands f due) (all_stand due rest) e)
    (at_past (λ s. Here s (events_of naming.Nothing t ++ (asks naming.Nothing rest ++ more)) gs a) c i g)
    (λ j H. calm_others due least c rest j after more gs a K x (rest_pure f ps rest p) (right_of (stands f due) (all_stand due rest) e) H k)

pub calm_elements : (due : Sort) (least : ℕ) (c : Option Class) (es : Forest) (i : Spot) (after : List Shape) (more : List Event) (gs : List Frame) (a : List Kept) (K : Spot → Type 0) → is_calm due ≡ true → pure es ≡ true → all_stand due es ≡ true
    → Here i.state (asks naming.Nothing es ++ more) gs a → ((j : Spot) → Here j.state more gs a → K j) → AreReady due least c es i after K
calm_elements due least c empty i after more gs a K x p e h k = k i h
calm_elements due least c (tree f sp ps rest) i after more gs a K x p e h k =
    let t : Plain = the_tree f sp ps in
    let g : Here i.state (events_of naming.Nothing t ++ (asks naming.Nothing rest ++ more)) gs a = regrouped i.state _ _ gs a (append_assoc (events_of naming.Nothing t) (asks naming.Nothing rest) more) h in
    calm_one due f sp ps i (others c least rest ++ after) (asks naming.Nothing rest ++ more) gs a (λ j. OthersReady due least c rest j after K) x (first_plain f ps rest p) (left_of (stands f due) (all_stand due rest) e) g
    (λ j H. calm_others due least c rest j after more gs a K x (rest_pure f ps rest p) (right_of (stands f due) (all_stand due rest) e) H k)

-- a group whose elements decide alone whether they stand
abbrev pub is_loose : Repetition → Bool
is_loose Optional = true
is_loose (Many c n) = true
is_loose (Spliced c n) = true
is_loose (Ended c e) = true
is_loose r = false

pub loose_group : (r : Repetition) (due : Sort) (least : ℕ) (before : Before) (es : Forest) (i : Spot) (after : List Shape) (K : Spot → Type 0) → is_loose r ≡ true → AreReady due least (separator_of r) es i after K → GroupReady r due least before es i after K
loose_group Optional due least before es i after K l r = r
loose_group (Many c n) due least before es i after K l r = r
loose_group (Spliced c n) due least before es i after K l r = r
loose_group (Ended c e) due least before es i after K l r = r
loose_group r due least before es i after K l x = absurd (cc l)

-- ---- rows

abbrev is_stmt : Sort → Bool
is_stmt s.Stmt = true
is_stmt due = false

abbrev is_end : List Piece → Bool
is_end [] = true
is_end (p ∷ ps) = false

-- rows of such parts, where the last may be a statement
abbrev pub are_calm : Bool → List Piece → Bool
are_calm with_stmt [] = true
are_calm with_stmt (Token c ∷ ps) = are_calm with_stmt ps
are_calm with_stmt (Maybe c ∷ ps) = are_calm with_stmt ps
are_calm with_stmt (Own ∷ ps) = are_calm with_stmt ps
are_calm with_stmt (One due least ∷ ps) = (is_calm due || (with_stmt && (is_stmt due && is_end ps))) && are_calm with_stmt ps
are_calm with_stmt (Group r due least ∷ ps) = (is_loose r && is_calm due) && are_calm with_stmt ps
are_calm with_stmt _ = false

abbrev pub has_own : List Piece → Bool
has_own [] = false
has_own (Own ∷ ps) = true
has_own (p ∷ ps) = has_own ps

-- no `else` follows the last of some trees if it ends open
abbrev pub Closed : Forest → List Shape → Type 0
Closed empty after = Unit {0}
Closed (tree f sp ps empty) after = (ends_as_last_part f && last_opens ps) ≡ true → begins_else after ≡ false
Closed (tree f sp ps (tree g tp qs rest)) after = Closed (tree g tp qs rest) after

pub closed : (ts : Forest) (after : List Shape) → (last_opens ts ≡ true → begins_else after ≡ false) → Closed ts after
closed empty after h = tt
closed (tree f sp ps empty) after h = h
closed (tree f sp ps (tree g tp qs rest)) after h = closed (tree g tp qs rest) after h

rest_closed : (f : Form) (sp : Span) (ps rest : Forest) (after : List Shape) → Closed (tree f sp ps rest) after → Closed rest after
rest_closed f sp ps empty after h = tt
rest_closed f sp ps (tree g tp qs rest) after h = h

by_either : (a b : Bool) → (a || b) ≡ true → (a ≡ true) ⊎ (b ≡ true)
by_either true b e = inl refl
by_either false b e = inr e

a_stmt : (due : Sort) → is_stmt due ≡ true → due ≡ s.Stmt
a_stmt s.Stmt e = refl
a_stmt due e = absurd (cc e)

stmt_inside : (due : Sort) → is_stmt due ≡ true → is_inside due ≡ false
stmt_inside s.InnerDeclarator c = absurd (cc c)
stmt_inside due c = refl

stmt_last : (f : Form) (sp : Span) (qs rest : Forest) (ps : List Piece) (own : Sort) (g : Form) (before : Before) (i : Spot) (after : List Shape) (more : List Event) (gs : List Frame) (a : List Kept) (K : Spot → Type 0) → is_end ps ≡ true → fits ps rest ≡ true → Closed (tree f sp qs rest) after
    → Here i.state (events_of naming.Nothing (the_tree f sp qs) ++ (asks naming.Nothing rest ++ more)) gs a → ((j : Spot) → Here j.state more gs a → K j) → IsReady s.Stmt (the_tree f sp qs) i (spell ps g (all_spelled rest) ++ after) (λ j. RowReady own g before ps rest j after K)
stmt_last f sp qs empty [] own g before i after more gs a K e t c h k = let v : Plain = the_tree f sp qs in (
  (h.free, first_holds i.state (events_of naming.Nothing v) more gs a h),
  (c, λ j d. k j (goes_on i.state j.state (events_of naming.Nothing v) more gs a h d.made.0 d.made.1)),
)
stmt_last f sp qs (tree g tp rs rest) [] own l before i after more gs a K e t c h k = absurd (cc t)
stmt_last f sp qs rest (p ∷ ps) own g before i after more gs a K e t c h k = absurd (cc e)

-- a part, and the row after it
calm_part : (b : Bool) (own : Sort) (f : Form) (due : Sort) (ps : List Piece) (g : Form) (sp : Span) (qs rest : Forest) (i : Spot) (after : List Shape) (more : List Event) (gs : List Frame) (a : List Kept) (K : Spot → Type 0)
    → ((is_calm due ≡ true) ⊎ ((b && (is_stmt due && is_end ps)) ≡ true)) → is_plain g ≡ true → stands g due ≡ true → fits ps rest ≡ true → (b ≡ true → Closed (tree g sp qs rest) after)
    → Here i.state (events_of naming.Nothing (the_tree g sp qs) ++ (asks naming.Nothing rest ++ more)) gs a → ((j : Spot) → Here j.state more gs a → K j)
    → ((j : Spot) → Here j.state (asks naming.Nothing rest ++ more) gs a → RowReady own f (before_by (is_absent (the_tree g sp qs))) ps rest j after K)
    → IsReady (inside own due) (the_tree g sp qs) i (spell ps f (all_spelled rest) ++ after) (λ j. RowReady own f (before_by (is_absent (the_tree g sp qs))) ps rest j after K)
calm_part b own f due ps g sp qs rest i after more gs a K (inl y) p e t l H k again = part own due (the_tree g sp qs) i (spell ps f (all_spelled rest) ++ after) (λ j. RowReady own f (before_by (is_absent (the_tree g sp qs))) ps rest j after K) (calm_inside due y)
    (calm_one due g sp qs i (spell ps f (all_spelled rest) ++ after) (asks naming.Nothing rest ++ more) gs a (λ j. RowReady own f (before_by (is_absent (the_tree g sp qs))) ps rest j after K) y p e H again)
calm_part b own f due ps g sp qs rest i after more gs a K (inr y) p e t l H k again = let u = right_of b (is_stmt due && is_end ps) y in let n = left_of (is_stmt due) (is_end ps) u in
    part own due (the_tree g sp qs) i (spell ps f (all_spelled rest) ++ after) (λ j. RowReady own f (before_by (is_absent (the_tree g sp qs))) ps rest j after K) (stmt_inside due n)
    (subst (λ d. IsReady d (the_tree g sp qs) i (spell ps f (all_spelled rest) ++ after) (λ j. RowReady own f (before_by (is_absent (the_tree g sp qs))) ps rest j after K)) (sym (a_stmt due n))
    (stmt_last g sp qs rest ps own f (before_by (is_absent (the_tree g sp qs))) i after more gs a K (right_of (is_stmt due) (is_end ps) u) t (l (left_of b (is_stmt due && is_end ps) y)) H k))

-- Such a row is ready where the events of its parts hold.
pub calm_row : (with_stmt : Bool) (own : Sort) (f : Form) (before : Before) (ps : List Piece) (ts : Forest) (i : Spot) (after : List Shape) (more : List Event) (gs : List Frame) (a : List Kept) (K : Spot → Type 0)
    → are_calm with_stmt ps ≡ true → fits ps ts ≡ true → pure ts ≡ true → (has_own ps ≡ true → (u : State) → IsOwn f u) → (with_stmt ≡ true → Closed ts after)
    → Here i.state (asks naming.Nothing ts ++ more) gs a → ((j : Spot) → Here j.state more gs a → K j) → RowReady own f before ps ts i after K
calm_row b own f before [] empty i after more gs a K c t p o l h k = k i h
calm_row b own f before [] (tree g sp qs rest) i after more gs a K c t p o l h k = absurd (cc t)
calm_row b own f before (Token e ∷ ps) ts i after more gs a K c t p o l h k = calm_row b own f Usual ps ts (step i) after more gs a K c t p o l h k
calm_row b own f before (Maybe e ∷ ps) ts i after more gs a K c t p o l h k = calm_row b own f Usual ps ts i after more gs a K c t p o l h k
calm_row b own f before (Own ∷ ps) ts i after more gs a K c t p o l h k = (o refl i.state, calm_row b own f Usual ps ts (step i) after more gs a K c t p (λ _. o refl) l h k)
calm_row b own f before (One due least ∷ ps) empty i after more gs a K c t p o l h k = absurd (cc t)
calm_row b own f before (One due least ∷ ps) (tree g sp qs rest) i after more gs a K c t p o l h k =
    let v : Plain = the_tree g sp qs in
    let x = is_calm due || (b && (is_stmt due && is_end ps)) in
    let y = left_of x (are_calm b ps) c in
    let z = right_of x (are_calm b ps) c in
    let H : Here i.state (events_of naming.Nothing v ++ (asks naming.Nothing rest ++ more)) gs a = regrouped i.state _ _ gs a (append_assoc (events_of naming.Nothing v) (asks naming.Nothing rest) more) h in
    calm_part b own f due ps g sp qs rest i after more gs a K (by_either (is_calm due) (b && (is_stmt due && is_end ps)) y) (first_plain g qs rest p) (left_of (stands g due) (fits ps rest) t) (right_of (stands g due) (fits ps rest) t) l H k
    (λ j G. calm_row b own f (before_by (is_absent (the_tree g sp qs))) ps rest j after more gs a K z (right_of (stands g due) (fits ps rest) t) (rest_pure g qs rest p) o (λ e. rest_closed g sp qs rest after (l e)) G k)
calm_row b own f before (Group r due least ∷ ps) empty i after more gs a K c t p o l h k = absurd (cc t)
calm_row b own f before (Group r due least ∷ ps) (tree g sp es rest) i after more gs a K c t p o l h k =
    let x = left_of (is_loose r && is_calm due) (are_calm b ps) c in
    let y = left_of (is_list_of r due g es) (fits ps rest) t in
    let q = right_of (is_plain g) (pure es) (left_of (is_plain g && pure es) (pure rest) p) in
    let n = list_form g (first_plain g es rest p) (left_of (stands g s.List) (elements r due es) y) in
    let H : Here i.state ((events_of naming.Nothing (the_tree (form.Group group.List) sp es) ++ asks naming.Nothing rest) ++ more) gs a = subst (λ g. Here i.state ((events_of naming.Nothing (the_tree g sp es) ++ asks naming.Nothing rest) ++ more) gs a) n h in
    let G : Here i.state (asks naming.Nothing es ++ (asks naming.Nothing rest ++ more)) gs a = regrouped i.state _ _ gs a (ap (λ es. (es ++ asks naming.Nothing rest) ++ more) (append_nil (asks naming.Nothing es)) ∙ append_assoc (asks naming.Nothing es) (asks naming.Nothing rest) more) H in
    loose_group r due least before es i (spell ps f (all_spelled rest) ++ after) (λ j. RowReady own f (before_by (is_none es)) ps rest j after K) (left_of (is_loose r) (is_calm due) x)
    (calm_elements due least (separator_of r) es i (spell ps f (all_spelled rest) ++ after) (asks naming.Nothing rest ++ more) gs a (λ j. RowReady own f (before_by (is_none es)) ps rest j after K) (right_of (is_loose r) (is_calm due) x) q
    (stand_by (is_spliced r) due es q (list_stand r due es (right_of (stands g s.List) (elements r due es) y))) G
    (λ j H. calm_row b own f (before_by (is_none es)) ps rest j after more gs a K (right_of (is_loose r && is_calm due) (are_calm b ps) c) (right_of (is_list_of r due g es) (fits ps rest) t) (rest_pure g es rest p) o (λ e. rest_closed g sp es rest after (l e)) H k))
calm_row b own f before (TypeTokens ∷ ps) ts i after more gs a K c t p o l h k = absurd (cc c)
calm_row b own f before (KindName ∷ ps) ts i after more gs a K c t p o l h k = absurd (cc c)
calm_row b own f before (Rest due ∷ ps) ts i after more gs a K c t p o l h k = absurd (cc c)
calm_row b own f before (Anything ∷ ps) ts i after more gs a K c t p o l h k = absurd (cc c)
calm_row b own f before (Then e ∷ ps) ts i after more gs a K c t p o l h k = absurd (cc c)
