-- Members of structures and unions are ready where their events hold.
use Rattle.std.proofs.Common.{◌≡◌, refl, ap, sym, subst, ◌∙◌, Bool, true, false, not, ◌&&◌, ◌||◌, List, [], ◌∷◌, ◌++◌, append_assoc, Some, None}
use Rattle.c_tokens.specs.declared.span.Span.{Span}
use Rattle.c_tokens.specs.declared.token.Shape.{Shape}
use Rattle.c_tokens.specs.declared.token.Shape.TheVariants as shape
use Rattle.c_tokens.specs.declared.token.Punct.TheVariants as punct
use Rattle.c_tokens.specs.declared.class.Class.TheVariants as class
use Rattle.c_forms.specs.declared.pieces.Event.TheVariants as event
use Rattle.c_forms.specs.declared.pieces.Repetition.TheVariants.{Due, All, Spliced}
use Rattle.c_forms.specs.declared.pieces.Sort.{Sort}
use Rattle.c_forms.specs.declared.pieces.Sort.TheVariants as s
use Rattle.c_forms.specs.declared.forms.Form.{Form}
use Rattle.c_forms.specs.declared.forms.Form.TheVariants as form
use Rattle.c_forms.specs.declared.forms.ExpForm.TheVariants as exp
use Rattle.c_forms.specs.declared.forms.SpecForm.TheVariants as spec
use Rattle.c_forms.specs.declared.forms.StmtForm.TheVariants as stmt
use Rattle.c_forms.specs.declared.forms.TemplateForm.TheVariants as template
use Rattle.c_forms.specs.declared.forms.DeclaratorForm.{DeclaratorForm}
use Rattle.c_forms.specs.declared.forms.DeclaratorForm.TheVariants as declarator
use Rattle.c_forms.specs.declared.forms.GroupForm.TheVariants as group
use Rattle.c_forms.specs.Forests.{Plain, Forest, empty, tree}
use Rattle.c_forms.specs.Fits.{fits, is_list_of, all_stand}
use Rattle.c_forms.specs.Measures.{is_plain, pieces}
use Rattle.c_forms.specs.Places.{stands}
use Rattle.c_forms.specs.Rules.{is_none, is_right, are_specifiers, is_nothing, among_rules}
use Rattle.c_forms.specs.Sets.{starts}
use Rattle.c_reader.specs.States.{State, Kept, happens}
use Rattle.c_reader.specs.Tokens.{Spot}
use Rattle.c_syntax.specs.Reading.{Usual, before_by, is_missing, is_absent}
use Rattle.c_trees.specs.Counts.{pure}
use Rattle.c_trees.specs.Valid.{valid}
use Rattle.c_layout.specs.Spelled.{tokens, all_spelled, wholes, separated}
use Rattle.scope_tables.specs.Frames.{Frame}
use Rattle.scope_meanings.specs.declared.meaning.NameUse.{NameUse}
use Rattle.scope_meanings.specs.declared.meaning.NameUse.TheVariants as naming
use Rattle.scope_meanings.specs.Meanings.{checked_if, has_type}
use Rattle.scopes.specs.declared.event.Event.{Event}
use Rattle.scopes.specs.Events.{events_of}
use Rattle.scopes.specs.Settling.{Scoped, settled}
use Rattle.spelled_scopes.specs.Meant.{frames}
use Rattle.spelled_trees.specs.Told.{is_named}
use Rattle.spelled_trees.proofs.Parts.{left_of, right_of}
use Rattle.ready_rows.proofs.Ready.{the_tree, placed, others, IsOff}
use Rattle.ready_rows.proofs.Standing.{asks, Holds, IsCalm, Calms, Goes, checking}
use Rattle.ready_rows.proofs.Steps.{earlier, later, append_nil, one_end}
use Rattle.ready_rows.proofs.Calm.{RowReady, AreReady, OthersReady, part}
use Rattle.ready_expressions.proofs.Expressions.{never, never_two}
use Rattle.ready_expressions.proofs.Heads.{parts_of, Good, first_good, good_fits, placed_head}
use Rattle.ready_expressions.proofs.Statements.{holds_rule}
use Rattle.ready_expressions.proofs.Declarators.{declarator_form, or_none}
use Rattle.scoped_spelled.proofs.Specifiers.{a_list, due_group, specs_ready}
use Rattle.scoped_spelled.proofs.Uses.{all_free, uses_name}
use Rattle.scoped_spelled.proofs.Declarations.{sign_off, declarator_off, keeping_elements, no_type, opposed}

-- ---- a declarator with its width

member_stands : (f : Form) → is_plain f ≡ true → stands f s.MemberName ≡ true → stands f s.Declarator ≡ true
member_stands (form.Hole h) p e = absurd (cc p)
member_stands (form.Call n gives tail) p e = absurd (cc p)
member_stands f p e = e

not_none : {A : Type 0} (b : Bool) → b ≡ true → not b ≡ true → A
not_none true e f = absurd (cc f)
not_none false e f = absurd (cc e)

-- a member has a name or a width (ISO/IEC 9899:1990, 6.5.2.1)
name_or_width : (d : DeclaratorForm) (gp : Span) (qs : Forest) (kp : Span) (is : Forest) → is_nothing (among_rules (form.Group group.MemberDeclarator) (tree (form.Declarator d) gp qs (tree (form.Group group.List) kp is empty))) ≡ true
    → ((is_absent (the_tree (form.Declarator d) gp qs) || is_named (the_tree (form.Declarator d) gp qs)) ≡ true) × (is_none is ≡ true → is_missing (before_by (is_absent (the_tree (form.Declarator d) gp qs))) ≡ false)
name_or_width declarator.Absent gp qs kp is q = (refl, λ n. not_none (is_none is) n (holds_rule _ _ q))
name_or_width declarator.Named gp qs kp is q = (refl, λ e. refl)
name_or_width d gp qs kp is q = let n = is_named (the_tree (form.Declarator d) gp qs) in (sym (or_none n) ∙ sym (or_none (n || false)) ∙ holds_rule ((n || false) || false) _ q, λ e. refl)

abbrev MemberDeclaratorRow : Sort → Span → Forest → Spot → List Shape → Type 0
MemberDeclaratorRow own sp ts i after = Holds (events_of (checking i.state) (the_tree (form.Group group.MemberDeclarator) sp ts)) i.state
    → RowReady own (form.Group group.MemberDeclarator) Usual (pieces (form.Group group.MemberDeclarator)) ts i after (λ j. Goes (checking i.state) (the_tree (form.Group group.MemberDeclarator) sp ts) i.state j.state)

member_declarator_row : (own : Sort) (sp : Span) (d : DeclaratorForm) (gp : Span) (qs : Forest) (kp : Span) (is : Forest) (i : Spot) (after : List Shape) → pure is ≡ true → all_stand s.Width is ≡ true → Good s.Declarator (the_tree (form.Declarator d) gp qs)
    → is_nothing (among_rules (form.Group group.MemberDeclarator) (tree (form.Declarator d) gp qs (tree (form.Group group.List) kp is empty))) ≡ true → i.state.kept.is_function_due ≡ false
    → MemberDeclaratorRow own sp (tree (form.Declarator d) gp qs (tree (form.Group group.List) kp is empty)) i after
member_declarator_row own sp d gp qs kp is i after p a n q due h =
    let D : Plain = the_tree (form.Declarator d) gp qs in
    let T : Plain = the_tree (form.Group group.MemberDeclarator) sp (tree (form.Declarator d) gp qs (tree (form.Group group.List) kp is empty)) in
    let u : NameUse = checking i.state in
    let gs = h.0 in
    let ds : List Event = events_of naming.Nothing D in
    let bs : List Event = asks naming.Nothing is in
    let r = name_or_width d gp qs kp is q in
    let x : ((events_of u D ++ ((asks u is ++ []) ++ [])) ++ []) ≡ (events_of u D ++ (bs ++ [])) =
    append_nil _ ∙ ap (λ l. events_of u D ++ l) (append_nil _ ∙ ap (λ l. l ++ []) (all_free u s.Width is refl p a)) in
    let U = uses_name (form.Declarator d) gp qs i.state (bs ++ []) gs n (ap (λ l. settled l (frames i.state.entries)) (sym x) ∙ h.1) in
    let K : Spot → Type 0 = λ m. Goes u T i.state m.state in
    part own s.MemberName D i _ _ refl (
      (record { holds = earlier ds (bs ++ []) i.state (gs, U.0); value = U.1; function = λ e. opposed e due }, r.0),
      (
        tt,
        λ j y.
            let N = y.made in
            due_group s.Width (before_by (is_absent D)) is j _ K r.1
            (keeping_elements s.Width is j _ [] gs K refl (later ds (bs ++ []) (frames i.state.entries) (frames j.state.entries) gs N.ran.scoped U.0)
            (λ m e v w. record {
              ran = record { scoped = h.1 ∙ ap Scoped (sym (one_end (frames m.state.entries) gs e)); aside = v ∙ N.ran.aside };
              typed = ap (λ (k : Kept). k.has_type) w ∙ N.typed;
              typedef = ap (λ (k : Kept). k.is_typedef) w ∙ N.typedef;
              due = ap (λ (k : Kept). k.is_function_due) w ∙ N.due;
            })),
      ),
    )

pub member_declarator_ready : (own : Sort) (sp : Span) (ts : Forest) (i : Spot) (after : List Shape) → fits (pieces (form.Group group.MemberDeclarator)) ts ≡ true → pure ts ≡ true → valid ts ≡ true → is_nothing (among_rules (form.Group group.MemberDeclarator) ts) ≡ true
    → i.state.kept.is_function_due ≡ false → MemberDeclaratorRow own sp ts i after
member_declarator_ready own sp empty i after t p v q due h = absurd (cc t)
member_declarator_ready own sp (tree g gp qs empty) i after t p v q due h = absurd (never _ t)
member_declarator_ready own sp (tree g gp qs (tree k kp is (tree l lp es rest))) i after t p v q due h = absurd (never_two (stands g s.MemberName) (is_list_of Due s.Width k is) t)
member_declarator_ready own sp (tree g gp qs (tree k kp is empty)) i after t p v q due h =
    let a = a_list Due s.Width k kp is empty (left_of (is_list_of Due s.Width k is) true (right_of (stands g s.MemberName) _ t)) (right_of (is_plain g && pure qs) (pure (tree k kp is empty)) p) in
    let c = left_of (is_plain g) (pure qs) (left_of (is_plain g && pure qs) (pure (tree k kp is empty)) p) in
    let n = first_good s.Declarator g gp qs (tree k kp is empty) p v (member_stands g c (left_of (stands g s.MemberName) _ t)) in
    let d = declarator_form g n.is_plain n.stands in
    subst (λ g. Good s.Declarator (the_tree g gp qs) → is_nothing (among_rules (form.Group group.MemberDeclarator) (tree g gp qs (tree k kp is empty))) ≡ true → MemberDeclaratorRow own sp (tree g gp qs (tree k kp is empty)) i after) (sym d.1)
    (λ n q. subst (λ k. is_nothing (among_rules (form.Group group.MemberDeclarator) (tree (form.Declarator d.0) gp qs (tree k kp is empty))) ≡ true → MemberDeclaratorRow own sp (tree (form.Declarator d.0) gp qs (tree k kp is empty)) i after) (sym a.0)
    (λ q. member_declarator_row own sp d.0 gp qs kp is i after a.1.0 a.1.1 n q due) q) n q h

-- ---- where specifiers end

width_form : (f : Form) → is_plain f ≡ true → stands f s.Width ≡ true → f ≡ form.Group group.Width
width_form (form.Group group.Width) p e = refl
width_form (form.Group g) p e = absurd (cc e)
width_form (form.Hole h) p e = absurd (cc p)
width_form (form.Call n gives tail) p e = absurd (cc p)
width_form (form.Exp (exp.Int w)) p e = absurd (cc e)
width_form (form.Spec (spec.Storage c)) p e = absurd (cc e)
width_form (form.Spec (spec.Qualifier q)) p e = absurd (cc e)
width_form (form.Stmt stmt.Block) p e = absurd (cc e)
width_form (form.Template (template.Many k)) p e = absurd (cc e)
width_form f p e = absurd (cc e)

-- a width begins with `:`
widths_off : (is : Forest) (u : State) (xs : List Shape) → pure is ≡ true → all_stand s.Width is ≡ true → IsOff (starts s.PlainSpec) u xs → IsOff (starts s.PlainSpec) u ((separated [] 0 (wholes (all_spelled is)) ++ []) ++ xs)
widths_off empty u xs p e o = o
widths_off (tree f sp ps rest) u xs p e o =
    let c = width_form f (left_of (is_plain f) (pure ps) (left_of (is_plain f && pure ps) (pure rest) p)) (left_of (stands f s.Width) (all_stand s.Width rest) e) in
    let ys : List Shape = others None 0 rest in
    subst (IsOff (starts s.PlainSpec) u) (sym (append_assoc (placed 0 (the_tree f sp ps) ++ ys) [] xs ∙ append_assoc (placed 0 (the_tree f sp ps)) ys xs))
    (placed_head (IsOff (starts s.PlainSpec) u) 0 (the_tree f sp ps) (ys ++ xs) (λ zs. sign_off s.PlainSpec punct.LeftParen u zs refl) (subst (λ f. IsOff (starts s.PlainSpec) u (tokens (the_tree f sp ps) ++ (ys ++ xs))) (sym c) (sign_off s.PlainSpec punct.Colon u [] refl)))

member_form : (f : Form) → is_plain f ≡ true → stands f s.MemberDeclarator ≡ true → f ≡ form.Group group.MemberDeclarator
member_form (form.Group group.MemberDeclarator) p e = refl
member_form (form.Group g) p e = absurd (cc e)
member_form (form.Hole h) p e = absurd (cc p)
member_form (form.Call n gives tail) p e = absurd (cc p)
member_form (form.Exp (exp.Int w)) p e = absurd (cc e)
member_form (form.Spec (spec.Storage c)) p e = absurd (cc e)
member_form (form.Spec (spec.Qualifier q)) p e = absurd (cc e)
member_form (form.Stmt stmt.Block) p e = absurd (cc e)
member_form (form.Template (template.Many k)) p e = absurd (cc e)
member_form f p e = absurd (cc e)

first_off : (sp : Span) (ps : Forest) (u : State) (more : List Event) (gs : List Frame) (xs : List Shape) → Good s.MemberDeclarator (the_tree (form.Group group.MemberDeclarator) sp ps)
    → settled (events_of (checking u) (the_tree (form.Group group.MemberDeclarator) sp ps) ++ more) (frames u.entries) ≡ Scoped gs → IsOff (starts s.PlainSpec) u xs → IsOff (starts s.PlainSpec) u (placed 0 (the_tree (form.Group group.MemberDeclarator) sp ps) ++ xs)
first_off sp empty u more gs xs n h o = absurd (cc (good_fits s.MemberDeclarator _ n))
first_off sp (tree g gp qs empty) u more gs xs n h o = absurd (never _ (good_fits s.MemberDeclarator _ n))
first_off sp (tree g gp qs (tree k kp is (tree l lp es rest))) u more gs xs n h o = absurd (never_two (stands g s.MemberName) (is_list_of Due s.Width k is) (good_fits s.MemberDeclarator _ n))
first_off sp (tree g gp qs (tree k kp is empty)) u more gs xs n h o =
    let t = good_fits s.MemberDeclarator _ n in
    let c = left_of (is_plain g) (pure qs) (left_of (is_plain g && pure qs) (pure (tree k kp is empty)) n.pure) in
    let d = first_good s.Declarator g gp qs (tree k kp is empty) n.pure n.valid (member_stands g c (left_of (stands g s.MemberName) _ t)) in
    let a = a_list Due s.Width k kp is empty (left_of (is_list_of Due s.Width k is) true (right_of (stands g s.MemberName) _ t)) (right_of (is_plain g && pure qs) (pure (tree k kp is empty)) n.pure) in
    let ds : List Event = events_of (checking u) (the_tree g gp qs) in
    let X : List Event = events_of (checking u) (the_tree k kp is) ++ [] in
    let H : settled (ds ++ (X ++ more)) (frames u.entries) ≡ Scoped gs = ap (λ l. settled l (frames u.entries)) (sym (ap (λ l. l ++ more) (append_nil (ds ++ X)) ∙ append_assoc ds X more)) ∙ h in
    let zs : List Shape = separated [] 0 (wholes (all_spelled is)) ++ [] in
    subst (IsOff (starts s.PlainSpec) u) (sym (append_assoc (placed 1 (the_tree g gp qs)) zs xs)) (declarator_off s.PlainSpec u 1 g gp qs (zs ++ xs) refl d (uses_name g gp qs u (X ++ more) gs d H).1 (widths_off is u xs a.1.0 a.1.1 o))

members_off : (es : Forest) (u : State) (more : List Event) (gs : List Frame) (xs : List Shape) → pure es ≡ true → valid es ≡ true → all_stand s.MemberDeclarator es ≡ true → settled (asks (checking u) es ++ more) (frames u.entries) ≡ Scoped gs
    → IsOff (starts s.PlainSpec) u (separated (shape.Punct punct.Comma ∷ []) 0 (wholes (all_spelled es)) ++ (shape.Punct punct.Semicolon ∷ xs))
members_off empty u more gs xs p v e h = sign_off s.PlainSpec punct.Semicolon u xs refl
members_off (tree f sp ps rest) u more gs xs p v e h =
    let n = first_good s.MemberDeclarator f sp ps rest p v (left_of (stands f s.MemberDeclarator) (all_stand s.MemberDeclarator rest) e) in
    let c = member_form f n.is_plain n.stands in
    let ys : List Shape = others (Some (class.Punct punct.Comma)) 0 rest in
    let H : settled (events_of (checking u) (the_tree f sp ps) ++ (asks (checking u) rest ++ more)) (frames u.entries) ≡ Scoped gs = ap (λ l. settled l (frames u.entries)) (sym (append_assoc (events_of (checking u) (the_tree f sp ps)) (asks (checking u) rest) more)) ∙ h in
    subst (IsOff (starts s.PlainSpec) u) (sym (append_assoc (placed 0 (the_tree f sp ps)) ys (shape.Punct punct.Semicolon ∷ xs)))
    (subst (λ f. Good s.MemberDeclarator (the_tree f sp ps) → settled (events_of (checking u) (the_tree f sp ps) ++ (asks (checking u) rest ++ more)) (frames u.entries) ≡ Scoped gs → IsOff (starts s.PlainSpec) u (placed 0 (the_tree f sp ps) ++ (ys ++ (shape.Punct punct.Semicolon ∷ xs)))) (sym c)
    (λ n H. first_off sp ps u (asks (checking u) rest ++ more) gs (ys ++ (shape.Punct punct.Semicolon ∷ xs)) n H (next_off rest u xs)) n H)
  where
    next_off : (rest : Forest) (u : State) (xs : List Shape) → IsOff (starts s.PlainSpec) u (others (Some (class.Punct punct.Comma)) 0 rest ++ (shape.Punct punct.Semicolon ∷ xs))
    next_off empty u xs = sign_off s.PlainSpec punct.Semicolon u [] refl
    next_off (tree f sp ps rest) u xs = sign_off s.PlainSpec punct.Comma u [] refl

-- ---- declarators of a member

same_checking : (u v : State) → v.kept.has_type ≡ u.kept.has_type → checking v ≡ checking u
same_checking u v e = ap (λ b. checked_if (not b)) e

-- after some of them, the others
members_after : (es : Forest) (i : Spot) (after : List Shape) (u : NameUse) (gs : List Frame) (a : List Kept) (K : Spot → Type 0) → checking i.state ≡ u → i.state.kept.is_function_due ≡ false → i.state.aside ≡ a → settled (asks u es ++ []) (frames i.state.entries) ≡ Scoped gs
    → ((j : Spot) → frames j.state.entries ≡ gs → j.state.aside ≡ a → K j) → OthersReady s.MemberDeclarator 0 (Some (class.Punct punct.Comma)) es i after K
members_after empty i after u gs a K e due x h k = k i (one_end (frames i.state.entries) gs h) x
members_after (tree f sp ps rest) i after u gs a K e due x h k =
    let t : Plain = the_tree f sp ps in
    let ds : List Event = events_of u t in
    let H : settled (ds ++ (asks u rest ++ [])) (frames i.state.entries) ≡ Scoped gs = ap (λ l. settled l (frames i.state.entries)) (sym (append_assoc ds (asks u rest) [])) ∙ h in (
      (subst (λ u. Holds (events_of u t) i.state) (sym e) (earlier ds (asks u rest ++ []) i.state (gs, H)), due),
      (
        tt,
        λ j d. let G = d.made in
            members_after rest j after u gs a K (same_checking i.state j.state G.typed ∙ e) (G.due ∙ due) (G.ran.aside ∙ x)
            (later ds (asks u rest ++ []) (frames i.state.entries) (frames j.state.entries) gs (ap (λ u. settled (events_of u t) (frames i.state.entries)) (sym e) ∙ G.ran.scoped) H) k,
      ),
    )

members_elements : (es : Forest) (i : Spot) (after : List Shape) (u : NameUse) (gs : List Frame) (K : Spot → Type 0) → checking i.state ≡ u → i.state.kept.is_function_due ≡ false → settled (asks u es ++ []) (frames i.state.entries) ≡ Scoped gs
    → ((j : Spot) → frames j.state.entries ≡ gs → j.state.aside ≡ i.state.aside → K j) → AreReady s.MemberDeclarator 0 (Some (class.Punct punct.Comma)) es i after K
members_elements empty i after u gs K e due h k = k i (one_end (frames i.state.entries) gs h) refl
members_elements (tree f sp ps rest) i after u gs K e due h k =
    let t : Plain = the_tree f sp ps in
    let ds : List Event = events_of u t in
    let H : settled (ds ++ (asks u rest ++ [])) (frames i.state.entries) ≡ Scoped gs = ap (λ l. settled l (frames i.state.entries)) (sym (append_assoc ds (asks u rest) [])) ∙ h in (
      (subst (λ u. Holds (events_of u t) i.state) (sym e) (earlier ds (asks u rest ++ []) i.state (gs, H)), due),
      (
        tt,
        λ j d. let G = d.made in
            members_after rest j after u gs i.state.aside K (same_checking i.state j.state G.typed ∙ e) (G.due ∙ due) G.ran.aside
            (later ds (asks u rest ++ []) (frames i.state.entries) (frames j.state.entries) gs (ap (λ u. settled (events_of u t) (frames i.state.entries)) (sym e) ∙ G.ran.scoped) H) k,
      ),
    )

-- ---- members

abbrev MemberRow : Sort → Span → Forest → Spot → List Shape → Type 0
MemberRow own sp ts i after = IsCalm (the_tree form.Member sp ts) i.state → RowReady own form.Member Usual (pieces form.Member) ts i after (λ j. Calms (the_tree form.Member sp ts) i.state j.state)

member_row : (own : Sort) (sp lp : Span) (ss : Forest) (mp : Span) (es : Forest) (i : Spot) (after : List Shape) → pure ss ≡ true → all_stand s.PlainSpec ss ≡ true → pure es ≡ true → valid es ≡ true → all_stand s.MemberDeclarator es ≡ true
    → is_nothing (among_rules form.Member (tree (form.Group group.List) lp ss (tree (form.Group group.List) mp es empty))) ≡ true → MemberRow own sp (tree (form.Group group.List) lp ss (tree (form.Group group.List) mp es empty)) i after
member_row own sp lp ss mp es i after p a o v b q h =
    let T : Plain = the_tree form.Member sp (tree (form.Group group.List) lp ss (tree (form.Group group.List) mp es empty)) in
    let U : NameUse = checked_if (not (has_type ss)) in
    let gs = h.1.0 in
    let x : (((asks U ss ++ []) ++ ((asks U es ++ []) ++ [])) ++ []) ≡ (asks naming.Nothing ss ++ (asks U es ++ [])) =
    append_nil _ ∙ ap (λ l. l ++ ((asks U es ++ []) ++ [])) (append_nil _ ∙ all_free U s.PlainSpec ss refl p a) ∙ ap (λ l. asks naming.Nothing ss ++ l) (append_nil _) in
    let H : settled (asks naming.Nothing ss ++ (asks U es ++ [])) (frames i.state.entries) ≡ Scoped gs = ap (λ l. settled l (frames i.state.entries)) (sym x) ∙ h.1.1 in
    let front : List Shape = separated (shape.Punct punct.Comma ∷ []) 0 (wholes (all_spelled es)) in
    let L : Spot → Type 0 = λ m. (true ≡ true) × Calms T i.state (happens event.Begin m.state) in
    let K : Spot → Type 0 = λ j. IsOff (starts s.PlainSpec) j.state ((front ++ (shape.Punct punct.Semicolon ∷ [])) ++ after) × AreReady s.MemberDeclarator 0 (Some (class.Punct punct.Comma)) es j (shape.Punct punct.Semicolon ∷ after) L in
    specs_ready s.PlainSpec ss i ((front ++ (shape.Punct punct.Semicolon ∷ [])) ++ after) (asks U es ++ []) gs K refl (no_type i.state h.0 ss (holds_rule (are_specifiers ss) _ q)) H (λ j S.
    let e : checking j.state ≡ U = ap (λ b. checked_if (not b)) (S.typed ∙ ap (λ (k : Kept). k.has_type || has_type ss) h.0) in (
      subst (IsOff (starts s.PlainSpec) j.state) (sym (append_assoc front (shape.Punct punct.Semicolon ∷ []) after)) (members_off es j.state [] gs after o v b (subst (λ u. settled (asks u es ++ []) (frames j.state.entries) ≡ Scoped gs) (sym e) S.holds)),
      members_elements es j (shape.Punct punct.Semicolon ∷ after) U gs L e (S.due ∙ ap (λ (k : Kept). k.is_function_due) h.0) S.holds
          (λ m f c. (refl, (record { scoped = h.1.1 ∙ ap Scoped (sym f); aside = c ∙ S.aside }, refl))),
    ))

pub member_ready : (own : Sort) (sp : Span) (ts : Forest) (i : Spot) (after : List Shape) → fits (pieces form.Member) ts ≡ true → pure ts ≡ true → valid ts ≡ true → is_nothing (among_rules form.Member ts) ≡ true → MemberRow own sp ts i after
member_ready own sp empty i after t p v q h = absurd (cc t)
member_ready own sp (tree f fp ss empty) i after t p v q h = absurd (never _ t)
member_ready own sp (tree f fp ss (tree g gp es (tree k kp vs rest))) i after t p v q h = absurd (never_two (is_list_of All s.PlainSpec f ss) (is_list_of (Spliced (Some (class.Punct punct.Comma)) 1) s.MemberDeclarator g es) t)
member_ready own sp (tree f fp ss (tree g gp es empty)) i after t p v q h =
    let l = left_of (is_list_of All s.PlainSpec f ss) _ t in
    let m = left_of (is_list_of (Spliced (Some (class.Punct punct.Comma)) 1) s.MemberDeclarator g es) true (right_of (is_list_of All s.PlainSpec f ss) _ t) in
    let o = right_of (is_plain f && pure ss) (pure (tree g gp es empty)) p in
    let w = right_of (is_right f ss && valid ss) (valid (tree g gp es empty)) v in
    let a = a_list All s.PlainSpec f fp ss (tree g gp es empty) l p in
    let b = a_list (Spliced (Some (class.Punct punct.Comma)) 1) s.MemberDeclarator g gp es empty m o in
    let d = parts_of g gp es empty o w in
    subst (λ f. is_nothing (among_rules form.Member (tree f fp ss (tree g gp es empty))) ≡ true → MemberRow own sp (tree f fp ss (tree g gp es empty)) i after) (sym a.0)
    (subst (λ g. is_nothing (among_rules form.Member (tree (form.Group group.List) fp ss (tree g gp es empty))) ≡ true → MemberRow own sp (tree (form.Group group.List) fp ss (tree g gp es empty)) i after) (sym b.0)
    (member_row own sp fp ss gp es i after a.1.0 a.1.1 d.0 d.1 b.1.1)) q h
