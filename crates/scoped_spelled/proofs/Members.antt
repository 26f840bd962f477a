-- Enumerators, and declarators with what goes with them, are ready where their events hold.
use Rattle.std.proofs.Common.{◌≡◌, refl, ap, sym, subst, ◌∙◌, ℕ, Bool, true, false, not, ◌&&◌, ◌||◌, List, [], ◌∷◌, ◌++◌, append_assoc, Option, Some}
use Rattle.c_tokens.specs.declared.span.Span.{Span}
use Rattle.c_tokens.specs.declared.token.Word.{Word}
use Rattle.c_tokens.specs.declared.token.Shape.{Shape}
use Rattle.c_tokens.specs.declared.class.Class.{Class}
use Rattle.c_forms.specs.declared.pieces.Event.TheVariants as event
use Rattle.c_forms.specs.declared.pieces.Repetition.TheVariants.{Optional}
use Rattle.c_forms.specs.declared.pieces.Sort.{Sort}
use Rattle.c_forms.specs.declared.pieces.Sort.TheVariants as s
use Rattle.c_forms.specs.declared.forms.Form.{Form}
use Rattle.c_forms.specs.declared.forms.Form.TheVariants as form
use Rattle.c_forms.specs.declared.forms.DeclaratorForm.{DeclaratorForm}
use Rattle.c_forms.specs.declared.forms.DeclaratorForm.TheVariants as declarator
use Rattle.scope_meanings.specs.declared.meaning.NameUse.{NameUse}
use Rattle.c_forms.specs.declared.forms.GroupForm.TheVariants as group
use Rattle.c_forms.specs.Forests.{Plain, Forest, empty, tree}
use Rattle.c_forms.specs.Fits.{fits, is_list_of, all_stand}
use Rattle.c_forms.specs.Measures.{is_plain, pieces}
use Rattle.c_forms.specs.Places.{stands}
use Rattle.c_forms.specs.Rules.{is_nothing, among_rules}
use Rattle.c_reader.specs.States.{Entry, AsValue, State, Kept, happens, entry}
use Rattle.c_reader.specs.States as States
use Rattle.c_reader.specs.Tokens.{Spot, turned}
use Rattle.c_syntax.specs.Reading.{Usual}
use Rattle.c_trees.specs.Counts.{pure}
use Rattle.c_trees.specs.Valid.{valid}
use Rattle.scope_tables.specs.declared.table.WordClass.{WordClass}
use Rattle.scope_tables.specs.declared.table.WordClass.TheVariants.{Value}
use Rattle.scope_tables.specs.Frames.{Frame, class_named}
use Rattle.scope_tables.specs.Frames as Frames
use Rattle.scope_meanings.specs.declared.meaning.NameUse.TheVariants as naming
use Rattle.scope_meanings.specs.declared.meaning.Name.{Name}
use Rattle.scope_meanings.specs.Meanings.{checked_if}
use Rattle.scopes.specs.declared.event.Event.{Event}
use Rattle.scopes.specs.declared.event.Event.TheVariants.{Declare}
use Rattle.scopes.specs.Events.{events_of, declared}
use Rattle.scopes.specs.Settling.{Scoped, settled}
use Rattle.spelled_scopes.specs.Meant.{frames}
use Rattle.spelled_trees.specs.Told.{is_named}
use Rattle.spelled_trees.proofs.Parts.{left_of, right_of}
use Rattle.ready_rows.proofs.Ready.{the_tree}
use Rattle.ready_rows.proofs.Standing.{number_or, asks, Holds, Ran, name_of, Goes, declaring}
use Rattle.ready_rows.proofs.Steps.{earlier, later, append_nil, one_end}
use Rattle.ready_rows.proofs.Calm.{RowReady, AreReady, OthersReady, part}
use Rattle.ready_expressions.proofs.Expressions.{never, never_two}
use Rattle.ready_expressions.proofs.Heads.{Good, first_good, id_form}
use Rattle.ready_expressions.proofs.Declarators.{declarator_form, head_plain, or_none, next_none}
use Rattle.scoped_spelled.proofs.Specifiers.{a_list}
use Rattle.scoped_spelled.proofs.Uses.{by_declarator, all_free, uses_name, declared_last}
use Rattle.scoped_spelled.proofs.Declarations.{keeping_elements, two_rules, opposed}

-- ---- enumerators

pub enumerated_stands : (f : Form) → is_plain f ≡ true → stands f s.EnumeratorId ≡ true → stands f s.Id ≡ true
enumerated_stands (form.Hole h) p e = absurd (cc p)
enumerated_stands (form.Call n gives tail) p e = absurd (cc p)
enumerated_stands f p e = e

enumerator_row : (own : Sort) (sp : Span) (w : Word) (gp : Span) (qs : Forest) (kp : Span) (vs : Forest) (i : Spot) (after : List Shape) → Holds (events_of naming.Nothing (the_tree form.Enumerator sp (tree (form.Id w) gp qs (tree (form.Group group.List) kp vs empty)))) i.state
    → RowReady own form.Enumerator Usual (pieces form.Enumerator) (tree (form.Id w) gp qs (tree (form.Group group.List) kp vs empty)) i after (λ j. Ran (events_of naming.Nothing (the_tree form.Enumerator sp (tree (form.Id w) gp qs (tree (form.Group group.List) kp vs empty)))) i.state j.state)
enumerator_row own sp w gp qs kp vs i after h =
    let T : Plain = the_tree form.Enumerator sp (tree (form.Id w) gp qs (tree (form.Group group.List) kp vs empty)) in
    let bs : List Event = asks naming.Nothing vs in
    let last : List Event = Declare w Value ∷ [] in
    let x : (((bs ++ []) ++ []) ++ last) ≡ (bs ++ last) = ap (λ l. l ++ last) (append_nil _ ∙ append_nil bs) in
    let H : settled (bs ++ last) (frames i.state.entries) ≡ Scoped h.0 = ap (λ l. settled l (frames i.state.entries)) (sym x) ∙ h.1 in
    let L : Spot → Type 0 = λ m. (true ≡ true) × Ran (events_of naming.Nothing T) i.state (happens event.DeclareValue m.state) in
    part own s.EnumeratorId (the_tree (form.Id w) gp qs) i _ _ refl (
      tt,
      (
        tt,
        λ j d.
            keeping_elements s.EnumeratorValue vs j _ last h.0 L refl (ap (λ es. settled (bs ++ last) (frames es)) d.made.entries ∙ H)
            (λ m e a k. (
              refl,
              record {
                scoped = h.1 ∙ ap Scoped (sym (ap (λ x. frames (States.declared AsValue x m.state.entries)) (ap (λ (k : Kept). k.name) k ∙ d.made.name w refl) ∙ one_end (frames (AsValue w.0 ∷ m.state.entries)) h.0 e));
                aside = a ∙ d.made.aside;
              },
            )),
      ),
    )

pub enumerator_ready : (own : Sort) (sp : Span) (ts : Forest) (i : Spot) (after : List Shape) → fits (pieces form.Enumerator) ts ≡ true → pure ts ≡ true → Holds (events_of naming.Nothing (the_tree form.Enumerator sp ts)) i.state
    → RowReady own form.Enumerator Usual (pieces form.Enumerator) ts i after (λ j. Ran (events_of naming.Nothing (the_tree form.Enumerator sp ts)) i.state j.state)
enumerator_ready own sp empty i after t p h = absurd (cc t)
enumerator_ready own sp (tree g gp qs empty) i after t p h = absurd (never _ t)
enumerator_ready own sp (tree g gp qs (tree k kp vs (tree l lp es rest))) i after t p h = absurd (never_two (stands g s.EnumeratorId) (is_list_of Optional s.EnumeratorValue k vs) t)
enumerator_ready own sp (tree g gp qs (tree k kp vs empty)) i after t p h =
    let c = head_plain g gp qs (tree k kp vs empty) p in
    let o = id_form g c (enumerated_stands g c (left_of (stands g s.EnumeratorId) _ t)) in
    let a = a_list Optional s.EnumeratorValue k kp vs empty (left_of (is_list_of Optional s.EnumeratorValue k vs) true (right_of (stands g s.EnumeratorId) _ t)) (right_of (is_plain g && pure qs) (pure (tree k kp vs empty)) p) in
    subst (λ g. Holds (events_of naming.Nothing (the_tree form.Enumerator sp (tree g gp qs (tree k kp vs empty)))) i.state → RowReady own form.Enumerator Usual (pieces form.Enumerator) (tree g gp qs (tree k kp vs empty)) i after (λ j. Ran (events_of naming.Nothing (the_tree form.Enumerator sp (tree g gp qs (tree k kp vs empty)))) i.state j.state)) (sym o.1)
    (λ h. subst (λ k. Holds (events_of naming.Nothing (the_tree form.Enumerator sp (tree (form.Id o.0) gp qs (tree k kp vs empty)))) i.state → RowReady own form.Enumerator Usual (pieces form.Enumerator) (tree (form.Id o.0) gp qs (tree k kp vs empty)) i after (λ j. Ran (events_of naming.Nothing (the_tree form.Enumerator sp (tree (form.Id o.0) gp qs (tree k kp vs empty)))) i.state j.state)) (sym a.0)
    (λ h. enumerator_row own sp o.0 gp qs kp vs i after h) h) h

-- ---- declarators with their initializers

-- a declarator that is named has a name
abbrev IsThere : Form → Span → Forest → Type 0
IsThere f sp ps = is_named (the_tree f sp ps) ≡ true → (n : Name) × (name_of (the_tree f sp ps) ≡ Some n)

inner_there : (t v : Plain) → is_named t ≡ is_named v → name_of t ≡ name_of v → (is_named v ≡ true → (n : Name) × (name_of v ≡ Some n)) → is_named t ≡ true → (n : Name) × (name_of t ≡ Some n)
inner_there t v a b h e = let o = h (sym a ∙ e) in (o.0, b ∙ o.1)

pub name_there : (f : Form) (sp : Span) (ps : Forest) → Good s.Declarator (the_tree f sp ps) → IsThere f sp ps
name_there f sp ps n = by_declarator IsThere (λ sp w gp qs e. (record { word = w; span = gp }, refl)) (λ sp e. absurd (cc e))
    (λ sp kp es g gp qs p v e h. inner_there (the_tree (form.Declarator declarator.Pointer) sp (tree (form.Group group.List) kp es (tree g gp qs empty))) (the_tree g gp qs) (or_none _) (next_none _) h)
    (λ sp g gp qs kp es p e h. inner_there (the_tree (form.Declarator declarator.ArrayOf) sp (tree g gp qs (tree (form.Group group.List) kp es empty))) (the_tree g gp qs) (or_none _) (next_none _) h)
    (λ sp g gp qs x fp ps h. inner_there (the_tree (form.Declarator declarator.FunctionOf) sp (tree g gp qs (tree (form.Params x) fp ps empty))) (the_tree g gp qs) (or_none _) (next_none _) h) f sp ps n

entry_frames : (b : Bool) (w : ℕ) (es : List Entry) → frames (entry b w ∷ es) ≡ Frames.declared w (class_named b) (frames es)
entry_frames true w es = refl
entry_frames false w es = refl

declare_as : (b c : Bool) (w : ℕ) (x : Option ℕ) (es : List Entry) → b ≡ c → x ≡ Some w → frames (States.declared (entry b) x es) ≡ Frames.declared w (class_named c) (frames es)
declare_as b c w x es e f = ap (λ x. frames (States.declared (entry b) x es)) f ∙ entry_frames b w es ∙ ap (λ b. Frames.declared w (class_named b) (frames es)) e

init_declarator_row : (own : Sort) (sp : Span) (f : DeclaratorForm) (gp : Span) (qs : Forest) (kp : Span) (is : Forest) (i : Spot) (after : List Shape) → pure is ≡ true → all_stand s.Initializer is ≡ true → Good s.Declarator (the_tree (form.Declarator f) gp qs)
    → is_nothing (among_rules (form.Group group.InitDeclarator) (tree (form.Declarator f) gp qs (tree (form.Group group.List) kp is empty))) ≡ true
    → Holds (events_of (declaring i.state) (the_tree (form.Group group.InitDeclarator) sp (tree (form.Declarator f) gp qs (tree (form.Group group.List) kp is empty)))) i.state → i.state.kept.is_function_due ≡ false
    → RowReady own (form.Group group.InitDeclarator) Usual (pieces (form.Group group.InitDeclarator)) (tree (form.Declarator f) gp qs (tree (form.Group group.List) kp is empty)) i after
    (λ j. Goes (declaring i.state) (the_tree (form.Group group.InitDeclarator) sp (tree (form.Declarator f) gp qs (tree (form.Group group.List) kp is empty))) i.state j.state)
init_declarator_row own sp f gp qs kp is i after p a n q h due =
    let D : Plain = the_tree (form.Declarator f) gp qs in
    let T : Plain = the_tree (form.Group group.InitDeclarator) sp (tree (form.Declarator f) gp qs (tree (form.Group group.List) kp is empty)) in
    let k : WordClass = class_named i.state.kept.is_typedef in
    let b : Bool = not i.state.kept.has_type in
    let u : NameUse = declaring i.state in
    let gs = h.0 in
    let ds : List Event = events_of naming.Nothing D in
    let bs : List Event = asks naming.Nothing is in
    let names : List Event = declared k (name_of D) in
    let z : is_named D ≡ true = sym (or_none (is_named D)) ∙ (two_rules (is_named D || false) _ _ q).0 in
    let o = name_there (form.Declarator f) gp qs n z in
    let x : ((events_of u D ++ ((asks u is ++ []) ++ [])) ++ []) ≡ (events_of (checked_if b) D ++ (names ++ (bs ++ []))) =
    append_nil _ ∙ ap (λ l. events_of u D ++ l) (append_nil _ ∙ ap (λ l. l ++ []) (all_free u s.Initializer is refl p a)) ∙ ap (λ l. l ++ (bs ++ [])) (declared_last k b f gp qs) ∙ append_assoc (events_of (checked_if b) D) names (bs ++ []) in
    let U = uses_name (form.Declarator f) gp qs i.state (names ++ (bs ++ [])) gs n (ap (λ l. settled l (frames i.state.entries)) (sym x) ∙ h.1) in
    let K : Spot → Type 0 = λ m. Goes u T i.state m.state in
    part own s.Declarator D i _ _ refl (
      (record { holds = earlier ds (names ++ (bs ++ [])) i.state (gs, U.0); value = U.1; function = λ e. opposed e due }, z),
      (
        tt,
        λ j d.
            let N = d.made in
            let e : settled (names ++ (bs ++ [])) (frames j.state.entries) ≡ Scoped gs = later ds (names ++ (bs ++ [])) (frames i.state.entries) (frames j.state.entries) gs N.ran.scoped U.0 in
            let g : settled (bs ++ []) (Frames.declared o.0.word.0 k (frames j.state.entries)) ≡ Scoped gs = ap (λ n. settled (declared k n ++ (bs ++ [])) (frames j.state.entries)) (sym o.1) ∙ e in
            let y : frames (happens event.Declare j.state).entries ≡ Frames.declared o.0.word.0 k (frames j.state.entries) = declare_as j.state.kept.is_typedef i.state.kept.is_typedef o.0.word.0 j.state.kept.name j.state.entries N.typedef (N.name ∙ ap (λ n. number_or n i.state.kept.name) o.1) in (
              refl,
              keeping_elements s.Initializer is (turned (happens event.Declare) j) _ [] gs K refl (ap (λ fs. settled (bs ++ []) fs) y ∙ g)
                  (λ m s v w. record {
                    ran = record { scoped = h.1 ∙ ap Scoped (sym (one_end (frames m.state.entries) gs s)); aside = v ∙ N.ran.aside };
                    typed = ap (λ (k : Kept). k.has_type) w ∙ N.typed;
                    typedef = ap (λ (k : Kept). k.is_typedef) w ∙ N.typedef;
                    due = ap (λ (k : Kept). k.is_function_due) w ∙ N.due;
                  }),
            ),
      ),
    )

-- ---- declarators of a declaration

pub init_declarator_ready : (own : Sort) (sp : Span) (ts : Forest) (i : Spot) (after : List Shape) → fits (pieces (form.Group group.InitDeclarator)) ts ≡ true → pure ts ≡ true → valid ts ≡ true → is_nothing (among_rules (form.Group group.InitDeclarator) ts) ≡ true
    → Holds (events_of (declaring i.state) (the_tree (form.Group group.InitDeclarator) sp ts)) i.state → i.state.kept.is_function_due ≡ false
    → RowReady own (form.Group group.InitDeclarator) Usual (pieces (form.Group group.InitDeclarator)) ts i after (λ j. Goes (declaring i.state) (the_tree (form.Group group.InitDeclarator) sp ts) i.state j.state)
init_declarator_ready own sp empty i after t p v q h due = absurd (cc t)
init_declarator_ready own sp (tree g gp qs empty) i after t p v q h due = absurd (never _ t)
init_declarator_ready own sp (tree g gp qs (tree k kp is (tree l lp es rest))) i after t p v q h due = absurd (never_two (stands g s.Declarator) (is_list_of Optional s.Initializer k is) t)
init_declarator_ready own sp (tree g gp qs (tree k kp is empty)) i after t p v q h due =
    let a = a_list Optional s.Initializer k kp is empty (left_of (is_list_of Optional s.Initializer k is) true (right_of (stands g s.Declarator) _ t)) (right_of (is_plain g && pure qs) (pure (tree k kp is empty)) p) in
    let n = first_good s.Declarator g gp qs (tree k kp is empty) p v (left_of (stands g s.Declarator) _ t) in
    let d = declarator_form g n.is_plain n.stands in
    subst (λ g. Good s.Declarator (the_tree g gp qs) → is_nothing (among_rules (form.Group group.InitDeclarator) (tree g gp qs (tree k kp is empty))) ≡ true → Holds (events_of (declaring i.state) (the_tree (form.Group group.InitDeclarator) sp (tree g gp qs (tree k kp is empty)))) i.state
    → RowReady own (form.Group group.InitDeclarator) Usual (pieces (form.Group group.InitDeclarator)) (tree g gp qs (tree k kp is empty)) i after (λ j. Goes (declaring i.state) (the_tree (form.Group group.InitDeclarator) sp (tree g gp qs (tree k kp is empty))) i.state j.state)) (sym d.1)
    (λ n q h. subst (λ k. is_nothing (among_rules (form.Group group.InitDeclarator) (tree (form.Declarator d.0) gp qs (tree k kp is empty))) ≡ true → Holds (events_of (declaring i.state) (the_tree (form.Group group.InitDeclarator) sp (tree (form.Declarator d.0) gp qs (tree k kp is empty)))) i.state
    → RowReady own (form.Group group.InitDeclarator) Usual (pieces (form.Group group.InitDeclarator)) (tree (form.Declarator d.0) gp qs (tree k kp is empty)) i after (λ j. Goes (declaring i.state) (the_tree (form.Group group.InitDeclarator) sp (tree (form.Declarator d.0) gp qs (tree k kp is empty))) i.state j.state)) (sym a.0)
    (λ q h. init_declarator_row own sp d.0 gp qs kp is i after a.1.0 a.1.1 n q h due) q h) n q h

same_declaring : (u v : State) → v.kept.has_type ≡ u.kept.has_type → v.kept.is_typedef ≡ u.kept.is_typedef → declaring v ≡ declaring u
same_declaring u v a b = ap (λ x. naming.Declared (class_named x) (not v.kept.has_type)) b ∙ ap (λ x. naming.Declared (class_named u.kept.is_typedef) (not x)) a

-- after some of them, the others; each is declared as the specifiers say
inits_after : (c : Class) (es : Forest) (i : Spot) (after : List Shape) (u : NameUse) (gs : List Frame) (a : List Kept) (K : Spot → Type 0) → declaring i.state ≡ u → i.state.kept.is_function_due ≡ false → i.state.aside ≡ a → settled (asks u es ++ []) (frames i.state.entries) ≡ Scoped gs
    → ((j : Spot) → frames j.state.entries ≡ gs → j.state.aside ≡ a → K j) → OthersReady s.InitDeclarator 0 (Some c) es i after K
inits_after c empty i after u gs a K e due x h k = k i (one_end (frames i.state.entries) gs h) x
inits_after c (tree f sp ps rest) i after u gs a K e due x h k =
    let t : Plain = the_tree f sp ps in
    let ds : List Event = events_of u t in
    let H : settled (ds ++ (asks u rest ++ [])) (frames i.state.entries) ≡ Scoped gs = ap (λ l. settled l (frames i.state.entries)) (sym (append_assoc ds (asks u rest) [])) ∙ h in (
      (subst (λ u. Holds (events_of u t) i.state) (sym e) (earlier ds (asks u rest ++ []) i.state (gs, H)), due),
      (
        tt,
        λ j d. let G = d.made in
            inits_after c rest j after u gs a K (same_declaring i.state j.state G.typed G.typedef ∙ e) (G.due ∙ due) (G.ran.aside ∙ x)
            (later ds (asks u rest ++ []) (frames i.state.entries) (frames j.state.entries) gs (ap (λ u. settled (events_of u t) (frames i.state.entries)) (sym e) ∙ G.ran.scoped) H) k,
      ),
    )

pub inits_ready : (c : Class) (es : Forest) (i : Spot) (after : List Shape) (u : NameUse) (gs : List Frame) (K : Spot → Type 0) → declaring i.state ≡ u → i.state.kept.is_function_due ≡ false → settled (asks u es ++ []) (frames i.state.entries) ≡ Scoped gs
    → ((j : Spot) → frames j.state.entries ≡ gs → j.state.aside ≡ i.state.aside → K j) → AreReady s.InitDeclarator 0 (Some c) es i after K
inits_ready c empty i after u gs K e due h k = k i (one_end (frames i.state.entries) gs h) refl
inits_ready c (tree f sp ps rest) i after u gs K e due h k =
    let t : Plain = the_tree f sp ps in
    let ds : List Event = events_of u t in
    let H : settled (ds ++ (asks u rest ++ [])) (frames i.state.entries) ≡ Scoped gs = ap (λ l. settled l (frames i.state.entries)) (sym (append_assoc ds (asks u rest) [])) ∙ h in (
      (subst (λ u. Holds (events_of u t) i.state) (sym e) (earlier ds (asks u rest ++ []) i.state (gs, H)), due),
      (
        tt,
        λ j d. let G = d.made in
            inits_after c rest j after u gs i.state.aside K (same_declaring i.state j.state G.typed G.typedef ∙ e) (G.due ∙ due) G.ran.aside
            (later ds (asks u rest ++ []) (frames i.state.entries) (frames j.state.entries) gs (ap (λ u. settled (events_of u t) (frames i.state.entries)) (sym e) ∙ G.ran.scoped) H) k,
      ),
    )
