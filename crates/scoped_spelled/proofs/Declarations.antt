-- Type names, parameters and what is put aside in declarations are ready where their events hold.
use Rattle.std.proofs.Common.{◌≡◌, refl, ap, sym, subst, ◌∙◌, ℕ, Bool, true, false, not, ◌&&◌, ◌||◌, List, [], ◌∷◌, ◌++◌, append_assoc, Option, Some, None}
use Rattle.c_tokens.specs.declared.span.Span.{Span}
use Rattle.c_tokens.specs.declared.token.Word.{Word}
use Rattle.c_tokens.specs.declared.token.Shape.{Shape}
use Rattle.c_tokens.specs.declared.token.Shape.TheVariants as shape
use Rattle.c_tokens.specs.declared.token.Punct.{Punct}
use Rattle.c_tokens.specs.declared.token.Punct.TheVariants as punct
use Rattle.c_tokens.specs.declared.class.Class.TheVariants as class
use Rattle.c_forms.specs.declared.pieces.Event.TheVariants as event
use Rattle.c_forms.specs.declared.pieces.Repetition.TheVariants.{All, Spliced}
use Rattle.c_forms.specs.declared.pieces.Sort.{Sort}
use Rattle.c_forms.specs.declared.pieces.Sort.TheVariants as s
use Rattle.c_forms.specs.declared.forms.Form.{Form}
use Rattle.c_forms.specs.declared.forms.Form.TheVariants as form
use Rattle.c_forms.specs.declared.forms.DeclaratorForm.{DeclaratorForm}
use Rattle.c_forms.specs.declared.forms.GroupForm.TheVariants as group
use Rattle.c_forms.specs.declared.rules.Rule.{Rule}
use Rattle.c_forms.specs.Forests.{Plain, Forest, empty, tree}
use Rattle.c_forms.specs.Fits.{fits, is_list_of, all_stand}
use Rattle.c_forms.specs.Measures.{is_plain, pieces}
use Rattle.c_forms.specs.Places.{stands}
use Rattle.c_forms.specs.Rules.{is_right, unless, are_specifiers, is_nothing, among_rules}
use Rattle.c_forms.specs.Sets.{has, starts}
use Rattle.c_reader.specs.States.{Entry, AsValue, State, Kept, nothing_kept, happens, word_class, is_type, top, under}
use Rattle.c_reader.specs.States as States
use Rattle.c_reader.specs.Tokens.{Spot, step, turned}
use Rattle.c_syntax.specs.Reading.{Usual, inside}
use Rattle.c_trees.specs.Counts.{pure}
use Rattle.c_trees.specs.Valid.{valid}
use Rattle.scope_tables.specs.declared.table.WordClass.TheVariants.{Value}
use Rattle.scope_tables.specs.Frames.{Frame}
use Rattle.scope_meanings.specs.declared.meaning.NameUse.TheVariants as naming
use Rattle.scope_meanings.specs.declared.meaning.Name.{Name}
use Rattle.scope_meanings.specs.Meanings.{has_type, checked_if}
use Rattle.scopes.specs.declared.event.Event.{Event}
use Rattle.scopes.specs.Events.{events_of, declared}
use Rattle.scopes.specs.Settling.{Scoped, settled}
use Rattle.spelled_scopes.specs.Meant.{frames}
use Rattle.spelled_trees.specs.Told.{is_named}
use Rattle.spelled_trees.proofs.Parts.{left_of, right_of}
use Rattle.ready_rows.proofs.Ready.{the_tree, placed, IsOff}
use Rattle.ready_rows.proofs.Standing.{Follows, asks, Holds, Ran, name_of, IsValue, IsCalm, begins_sign, Ready, Made, Keeps, Calms, number_or}
use Rattle.ready_rows.proofs.Steps.{earlier, later, append_nil, one_end}
use Rattle.ready_rows.proofs.Calm.{Here, is_calm, IsReady, RowReady, AreReady, OthersReady, calm_one, calm_inside, at_end, part}
use Rattle.ready_expressions.proofs.Expressions.{never, never_two, seen_value}
use Rattle.ready_expressions.proofs.Heads.{Good, first_good, placed_head}
use Rattle.ready_expressions.proofs.Declarators.{or_none, head_plain, declarator_form, declarator_head}
use Rattle.scoped_spelled.proofs.Specifiers.{is_spec, Allows, allows_all, specs_ready, as_elements, running_elements, a_list}
use Rattle.scoped_spelled.proofs.Uses.{all_free, has_name, uses_name, declared_last}

-- ---- rules

pub two_rules : (b : Bool) (r : Rule) (o : Option Rule) → is_nothing (unless b r o) ≡ true → (b ≡ true) × (is_nothing o ≡ true)
two_rules true r o e = (refl, e)
two_rules false r o e = absurd (cc e)

-- ---- what follows specifiers

spec_sign : (p : Punct) (u : State) (xs : List Shape) → IsOff (starts s.Spec) u (shape.Punct p ∷ xs)
spec_sign punct.LeftBracket u xs = refl
spec_sign p u xs = refl

plain_spec_sign : (p : Punct) (u : State) (xs : List Shape) → IsOff (starts s.PlainSpec) u (shape.Punct p ∷ xs)
plain_spec_sign punct.LeftBracket u xs = refl
plain_spec_sign p u xs = refl

pub sign_off : (due : Sort) (p : Punct) (u : State) (xs : List Shape) → is_spec due ≡ true → IsOff (starts due) u (shape.Punct p ∷ xs)
sign_off s.Spec p u xs c = spec_sign p u xs
sign_off s.PlainSpec p u xs c = plain_spec_sign p u xs
sign_off due p u xs c = absurd (cc c)

pub word_off : (due : Sort) (w : Word) (u : State) (xs : List Shape) → is_spec due ≡ true → (not u.kept.has_type && is_type u.entries w.0) ≡ false → IsOff (starts due) u (shape.Word w ∷ xs)
word_off s.Spec w u xs c e = ap (λ c. has (starts s.Spec) c) (seen_value u w e)
word_off s.PlainSpec w u xs c e = ap (λ c. has (starts s.PlainSpec) c) (seen_value u w e)
word_off due w u xs c e = absurd (cc c)

pub after_sign : (due : Sort) (u : State) (after : List Shape) → is_spec due ≡ true → begins_sign after ≡ true → IsOff (starts due) u after
after_sign due u (shape.Punct p ∷ xs) c e = sign_off due p u xs c
after_sign due u [] c e = absurd (cc e)
after_sign due u (x ∷ xs) c e = absurd (cc e)

-- a declarator whose name is a value
pub declarator_off : (due : Sort) (u : State) (least : ℕ) (f : Form) (sp : Span) (ps : Forest) (xs : List Shape) → is_spec due ≡ true → Good s.Declarator (the_tree f sp ps) → IsValue u (name_of (the_tree f sp ps)) → IsOff (starts due) u xs → IsOff (starts due) u (placed least (the_tree f sp ps) ++ xs)
declarator_off due u least f sp ps xs c n v o = placed_head (IsOff (starts due) u) least (the_tree f sp ps) xs (λ ys. sign_off due punct.LeftParen u ys c)
    (declarator_head (IsOff (starts due) u) (λ p ys. sign_off due p u ys c) f sp ps n (λ name e ys. word_off due name.word u ys c (v name e)) xs o)

pub abstract_stands : (f : Form) → is_plain f ≡ true → stands f s.AbstractDeclarator ≡ true → stands f s.Declarator ≡ true
abstract_stands (form.Hole h) p e = absurd (cc p)
abstract_stands (form.Call n gives tail) p e = absurd (cc p)
abstract_stands f p e = e

pub param_stands : (f : Form) → is_plain f ≡ true → stands f s.ParamDeclarator ≡ true → stands f s.Declarator ≡ true
param_stands (form.Hole h) p e = absurd (cc p)
param_stands (form.Call n gives tail) p e = absurd (cc p)
param_stands f p e = e

-- ---- what is put aside

aside_part : (own due : Sort) (f : Form) (sp : Span) (g : Form) (gp : Span) (qs : Forest) (i : Spot) (after : List Shape) → is_calm due ≡ true → is_plain g ≡ true → stands g due ≡ true
    → events_of naming.Nothing (the_tree f sp (tree g gp qs empty)) ≡ ((events_of naming.Nothing (the_tree g gp qs) ++ []) ++ []) → Holds (events_of naming.Nothing (the_tree f sp (tree g gp qs empty))) i.state
    → IsReady (inside own due) (the_tree g gp qs) (turned (happens event.Aside) i) after (λ j. (true ≡ true) × Keeps (the_tree f sp (tree g gp qs empty)) i.state (happens event.Resume j.state))
aside_part own due f sp g gp qs i after c p e q h =
    let H : Here (happens event.Aside i.state) (events_of naming.Nothing (the_tree g gp qs) ++ []) h.0 (i.state.kept ∷ i.state.aside) = record { free = refl; holds = ap (λ l. settled l (frames i.state.entries)) (sym (q ∙ append_nil _)) ∙ h.1; aside = refl } in
    part own due (the_tree g gp qs) (turned (happens event.Aside) i) after _ (calm_inside due c) (calm_one due g gp qs (turned (happens event.Aside) i) after [] h.0 (i.state.kept ∷ i.state.aside) _ c p e H
    (λ j G. (refl, (record { scoped = h.1 ∙ ap Scoped (sym (at_end j.state h.0 (i.state.kept ∷ i.state.aside) G)); aside = ap under G.aside }, ap top G.aside))))

pub value_ready : (own : Sort) (sp : Span) (ts : Forest) (i : Spot) (after : List Shape) → fits (pieces (form.Group group.EnumeratorValue)) ts ≡ true → pure ts ≡ true → Holds (events_of naming.Nothing (the_tree (form.Group group.EnumeratorValue) sp ts)) i.state
    → RowReady own (form.Group group.EnumeratorValue) Usual (pieces (form.Group group.EnumeratorValue)) ts i after (λ j. Keeps (the_tree (form.Group group.EnumeratorValue) sp ts) i.state j.state)
value_ready own sp empty i after t p h = absurd (cc t)
value_ready own sp (tree g gp qs (tree k kp vs rest)) i after t p h = absurd (never _ t)
value_ready own sp (tree g gp qs empty) i after t p h = (refl, aside_part own s.Exp (form.Group group.EnumeratorValue) sp g gp qs (step i) _ refl (head_plain g gp qs empty p) (left_of (stands g s.Exp) true t) refl h)

pub width_ready : (own : Sort) (sp : Span) (ts : Forest) (i : Spot) (after : List Shape) → fits (pieces (form.Group group.Width)) ts ≡ true → pure ts ≡ true → Holds (events_of naming.Nothing (the_tree (form.Group group.Width) sp ts)) i.state
    → RowReady own (form.Group group.Width) Usual (pieces (form.Group group.Width)) ts i after (λ j. Keeps (the_tree (form.Group group.Width) sp ts) i.state j.state)
width_ready own sp empty i after t p h = absurd (cc t)
width_ready own sp (tree g gp qs (tree k kp vs rest)) i after t p h = absurd (never _ t)
width_ready own sp (tree g gp qs empty) i after t p h = (refl, aside_part own s.Exp (form.Group group.Width) sp g gp qs (step i) _ refl (head_plain g gp qs empty p) (left_of (stands g s.Exp) true t) refl h)

pub initializer_ready : (own : Sort) (sp : Span) (ts : Forest) (i : Spot) (after : List Shape) → fits (pieces (form.Group group.Initializer)) ts ≡ true → pure ts ≡ true → Holds (events_of naming.Nothing (the_tree (form.Group group.Initializer) sp ts)) i.state
    → RowReady own (form.Group group.Initializer) Usual (pieces (form.Group group.Initializer)) ts i after (λ j. Keeps (the_tree (form.Group group.Initializer) sp ts) i.state j.state)
initializer_ready own sp empty i after t p h = absurd (cc t)
initializer_ready own sp (tree g gp qs (tree k kp vs rest)) i after t p h = absurd (never _ t)
initializer_ready own sp (tree g gp qs empty) i after t p h = (refl, aside_part own s.Init (form.Group group.Initializer) sp g gp qs (step i) _ refl (head_plain g gp qs empty p) (left_of (stands g s.Init) true t) refl h)

-- sorts that leave what is begun
abbrev pub is_keeping : Sort → Bool
is_keeping s.EnumeratorValue = true
is_keeping s.Width = true
is_keeping s.Initializer = true
is_keeping due = false

keeping_is_ready : (due : Sort) (t : Plain) (u : State) → is_keeping due ≡ true → Holds (events_of naming.Nothing t) u → Ready due t u
keeping_is_ready s.EnumeratorValue t u c h = h
keeping_is_ready s.Width t u c h = h
keeping_is_ready s.Initializer t u c h = h
keeping_is_ready due t u c h = absurd (cc c)

keeping_follows : (due : Sort) (t : Plain) (after : List Shape) → is_keeping due ≡ true → Follows due t after
keeping_follows s.EnumeratorValue t after c = tt
keeping_follows s.Width t after c = tt
keeping_follows s.Initializer t after c = tt
keeping_follows due t after c = absurd (cc c)

keeping_made : (due : Sort) (t : Plain) (u v : State) → is_keeping due ≡ true → Made due t u v → Keeps t u v
keeping_made s.EnumeratorValue t u v c m = m
keeping_made s.Width t u v c m = m
keeping_made s.Initializer t u v c m = m
keeping_made due t u v c m = absurd (cc c)

keeping_after : (due : Sort) (es : Forest) (i : Spot) (after : List Shape) (more : List Event) (gs : List Frame) (a : List Kept) (k : Kept) (K : Spot → Type 0) → is_keeping due ≡ true → settled (asks naming.Nothing es ++ more) (frames i.state.entries) ≡ Scoped gs
    → i.state.aside ≡ a → i.state.kept ≡ k → ((j : Spot) → settled more (frames j.state.entries) ≡ Scoped gs → j.state.aside ≡ a → j.state.kept ≡ k → K j) → OthersReady due 0 None es i after K
keeping_after due empty i after more gs a k K c h e f g = g i h e f
keeping_after due (tree f sp ps rest) i after more gs a k K c h e x g =
    let t : Plain = the_tree f sp ps in
    let ds : List Event = events_of naming.Nothing t in
    let H : settled (ds ++ (asks naming.Nothing rest ++ more)) (frames i.state.entries) ≡ Scoped gs = ap (λ l. settled l (frames i.state.entries)) (sym (append_assoc ds (asks naming.Nothing rest) more)) ∙ h in (
      keeping_is_ready due t i.state c (earlier ds (asks naming.Nothing rest ++ more) i.state (gs, H)),
      (
        keeping_follows due t _ c,
        λ j d. let R = keeping_made due t i.state j.state c d.made in
            keeping_after due rest j after more gs a k K c (later ds (asks naming.Nothing rest ++ more) (frames i.state.entries) (frames j.state.entries) gs R.0.scoped H) (R.0.aside ∙ e) (R.1 ∙ x) g,
      ),
    )

pub keeping_elements : (due : Sort) (es : Forest) (i : Spot) (after : List Shape) (more : List Event) (gs : List Frame) (K : Spot → Type 0) → is_keeping due ≡ true → settled (asks naming.Nothing es ++ more) (frames i.state.entries) ≡ Scoped gs
    → ((j : Spot) → settled more (frames j.state.entries) ≡ Scoped gs → j.state.aside ≡ i.state.aside → j.state.kept ≡ i.state.kept → K j) → AreReady due 0 None es i after K
keeping_elements due es i after more gs K c h g = as_elements due es i after K (keeping_after due es i after more gs i.state.aside i.state.kept K c h refl refl g)

-- ---- enumerators

pub enumerators_ready : (own : Sort) (sp : Span) (ts : Forest) (i : Spot) (after : List Shape) → fits (pieces (form.Group group.Enumerators)) ts ≡ true → pure ts ≡ true → Holds (events_of naming.Nothing (the_tree (form.Group group.Enumerators) sp ts)) i.state
    → RowReady own (form.Group group.Enumerators) Usual (pieces (form.Group group.Enumerators)) ts i after (λ j. Ran (events_of naming.Nothing (the_tree (form.Group group.Enumerators) sp ts)) i.state j.state)
enumerators_ready own sp empty i after t p h = absurd (cc t)
enumerators_ready own sp (tree k kp es (tree g gp qs rest)) i after t p h = absurd (never _ t)
enumerators_ready own sp (tree k kp es empty) i after t p h =
    let l = a_list (Spliced (Some (class.Punct punct.Comma)) 1) s.Enumerator k kp es empty (left_of (is_list_of (Spliced (Some (class.Punct punct.Comma)) 1) s.Enumerator k es) true t) p in
    let H : settled (((asks naming.Nothing es ++ []) ++ []) ++ []) (frames i.state.entries) ≡ Scoped h.0 = subst (λ k. settled ((events_of naming.Nothing (the_tree k kp es) ++ []) ++ []) (frames i.state.entries) ≡ Scoped h.0) l.0 h.1 in
    let x : (((asks naming.Nothing es ++ []) ++ []) ++ []) ≡ (asks naming.Nothing es ++ []) = append_nil _ ∙ append_nil _ in
    let K : Spot → Type 0 = λ j. Ran (events_of naming.Nothing (the_tree (form.Group group.Enumerators) sp (tree k kp es empty))) i.state j.state in
    running_elements s.Enumerator 0 (Some (class.Punct punct.Comma)) es (step i) (shape.Punct punct.RightBrace ∷ after) [] h.0 i.state.aside K refl (ap (λ l. settled l (frames i.state.entries)) (sym x) ∙ H) refl
    (λ j e a. record { scoped = h.1 ∙ ap Scoped (sym (one_end (frames j.state.entries) h.0 e)); aside = a })

-- ---- type names

pub no_type : (u : State) → u.kept ≡ nothing_kept → (ts : Forest) → are_specifiers ts ≡ true → Allows u.kept.has_type u.kept.is_sole ts
no_type u e ts r = subst (λ (k : Kept). Allows k.has_type k.is_sole ts) (sym e) (allows_all ts r)

not_true : (b : Bool) → not b ≡ true → b ≡ false
not_true true e = absurd (cc e)
not_true false e = refl

pub opposed : {A : Type 0} {b : Bool} → b ≡ true → b ≡ false → A
opposed e f = absurd (cc (e, f))

type_name_row : (own : Sort) (sp lp : Span) (ss : Forest) (g : Form) (gp : Span) (qs : Forest) (i : Spot) (after : List Shape) → Good s.Declarator (the_tree g gp qs)
    → is_nothing (among_rules form.TypeName (tree (form.Group group.List) lp ss (tree g gp qs empty))) ≡ true → begins_sign after ≡ true → IsCalm (the_tree form.TypeName sp (tree (form.Group group.List) lp ss (tree g gp qs empty))) i.state
    → RowReady own form.TypeName Usual (pieces form.TypeName) (tree (form.Group group.List) lp ss (tree g gp qs empty)) i after (λ j. Ran (events_of naming.Nothing (the_tree form.TypeName sp (tree (form.Group group.List) lp ss (tree g gp qs empty)))) i.state j.state)
type_name_row own sp lp ss g gp qs i after n q c h =
    let D : Plain = the_tree g gp qs in
    let ds : List Event = events_of naming.Nothing D in
    let gs = h.1.0 in
    let r = two_rules (are_specifiers ss) _ _ q in
    let z : is_named D ≡ false = sym (or_none (is_named D)) ∙ not_true (is_named D || false) (two_rules (not (is_named D || false)) _ _ r.1).0 in
    let x : (((asks naming.Nothing ss ++ []) ++ (ds ++ [])) ++ []) ≡ (asks naming.Nothing ss ++ (ds ++ [])) = append_nil _ ∙ ap (λ l. l ++ (ds ++ [])) (append_nil (asks naming.Nothing ss)) in
    let H : settled (asks naming.Nothing ss ++ (ds ++ [])) (frames i.state.entries) ≡ Scoped gs = ap (λ l. settled l (frames i.state.entries)) (sym x) ∙ h.1.1 in
    let value : (u : State) → IsValue u (name_of D) = λ u name e. opposed (has_name g gp qs n name e) z in
    let K : Spot → Type 0 = λ j. IsOff (starts s.PlainSpec) j.state ((placed 1 D ++ []) ++ after) × IsReady (inside own s.AbstractDeclarator) D j ([] ++ after) (λ m. Ran (events_of naming.Nothing (the_tree form.TypeName sp (tree (form.Group group.List) lp ss (tree g gp qs empty)))) i.state m.state) in
    specs_ready s.PlainSpec ss i ((placed 1 D ++ []) ++ after) (ds ++ []) gs K refl (no_type i.state h.0 ss r.0) H (λ j S. (
      subst (IsOff (starts s.PlainSpec) j.state) (sym (append_assoc (placed 1 D) [] after)) (declarator_off s.PlainSpec j.state 1 g gp qs after refl n (value j.state) (after_sign s.PlainSpec j.state after refl c)),
      part own s.AbstractDeclarator D j ([] ++ after) (λ m. Ran (events_of naming.Nothing (the_tree form.TypeName sp (tree (form.Group group.List) lp ss (tree g gp qs empty)))) i.state m.state) refl (
        (record { holds = earlier ds [] j.state (gs, S.holds); value = value j.state; function = λ e. opposed e (S.due ∙ ap (λ (k : Kept). k.is_function_due) h.0) }, (z, S.name ∙ ap (λ (k : Kept). k.name) h.0)),
        (tt, λ m d. record { scoped = h.1.1 ∙ ap Scoped (sym (one_end (frames m.state.entries) gs (later ds [] (frames j.state.entries) (frames m.state.entries) gs d.made.ran.scoped S.holds))); aside = d.made.ran.aside ∙ S.aside }),
      ),
    ))

pub type_name_ready : (own : Sort) (sp : Span) (ts : Forest) (i : Spot) (after : List Shape) → fits (pieces form.TypeName) ts ≡ true → pure ts ≡ true → valid ts ≡ true → is_nothing (among_rules form.TypeName ts) ≡ true → begins_sign after ≡ true → IsCalm (the_tree form.TypeName sp ts) i.state
    → RowReady own form.TypeName Usual (pieces form.TypeName) ts i after (λ j. Ran (events_of naming.Nothing (the_tree form.TypeName sp ts)) i.state j.state)
type_name_ready own sp empty i after t p v q c h = absurd (cc t)
type_name_ready own sp (tree l lp ss empty) i after t p v q c h = absurd (never _ t)
type_name_ready own sp (tree l lp ss (tree g gp qs (tree k kp es rest))) i after t p v q c h = absurd (never_two (is_list_of All s.PlainSpec l ss) (stands g s.AbstractDeclarator) t)
type_name_ready own sp (tree l lp ss (tree g gp qs empty)) i after t p v q c h =
    let a = a_list All s.PlainSpec l lp ss (tree g gp qs empty) (left_of (is_list_of All s.PlainSpec l ss) _ t) p in
    let o = right_of (is_plain l && pure ss) (pure (tree g gp qs empty)) p in
    let w = right_of (is_right l ss && valid ss) (valid (tree g gp qs empty)) v in
    let e = abstract_stands g (head_plain g gp qs empty o) (left_of (stands g s.AbstractDeclarator) true (right_of (is_list_of All s.PlainSpec l ss) _ t)) in
    let n = first_good s.Declarator g gp qs empty o w e in
    subst (λ l. is_nothing (among_rules form.TypeName (tree l lp ss (tree g gp qs empty))) ≡ true → IsCalm (the_tree form.TypeName sp (tree l lp ss (tree g gp qs empty))) i.state
    → RowReady own form.TypeName Usual (pieces form.TypeName) (tree l lp ss (tree g gp qs empty)) i after (λ j. Ran (events_of naming.Nothing (the_tree form.TypeName sp (tree l lp ss (tree g gp qs empty)))) i.state j.state)) (sym a.0)
    (λ q h. type_name_row own sp lp ss g gp qs i after n q c h) q h

-- ---- parameters

-- a name that is declared as a value
pub declare_value : (n : Option Name) (x before : Option ℕ) (es : List Entry) (gs : List Frame) → before ≡ None → x ≡ number_or n before → settled (declared Value n) (frames es) ≡ Scoped gs → frames (States.declared AsValue x es) ≡ gs
declare_value (Some n) x before es gs b e h = ap (λ x. frames (States.declared AsValue x es)) e ∙ one_end (frames (AsValue n.word.0 ∷ es)) gs h
declare_value None x before es gs b e h = ap (λ x. frames (States.declared AsValue x es)) (e ∙ b) ∙ one_end (frames es) gs h

param_row : (own : Sort) (sp lp : Span) (ss : Forest) (f : DeclaratorForm) (gp : Span) (qs : Forest) (i : Spot) (after : List Shape) → pure ss ≡ true → all_stand s.Spec ss ≡ true → Good s.Declarator (the_tree (form.Declarator f) gp qs)
    → is_nothing (among_rules form.Param (tree (form.Group group.List) lp ss (tree (form.Declarator f) gp qs empty))) ≡ true → begins_sign after ≡ true → IsCalm (the_tree form.Param sp (tree (form.Group group.List) lp ss (tree (form.Declarator f) gp qs empty))) i.state
    → RowReady own form.Param Usual (pieces form.Param) (tree (form.Group group.List) lp ss (tree (form.Declarator f) gp qs empty)) i after (λ j. Calms (the_tree form.Param sp (tree (form.Group group.List) lp ss (tree (form.Declarator f) gp qs empty))) i.state j.state)
param_row own sp lp ss f gp qs i after p a n q c h =
    let D : Plain = the_tree (form.Declarator f) gp qs in
    let T : Plain = the_tree form.Param sp (tree (form.Group group.List) lp ss (tree (form.Declarator f) gp qs empty)) in
    let ds : List Event = events_of naming.Nothing D in
    let b : Bool = not (has_type ss) in
    let gs = h.1.0 in
    let r = two_rules (are_specifiers ss) _ _ q in
    let names : List Event = declared Value (name_of D) in
    let x : (((asks (naming.Declared Value b) ss ++ []) ++ (events_of (naming.Declared Value b) D ++ [])) ++ []) ≡ (asks naming.Nothing ss ++ (events_of (checked_if b) D ++ names)) =
    append_nil _ ∙ ap (λ l. (asks (naming.Declared Value b) ss ++ []) ++ l) (append_nil _ ∙ declared_last Value b f gp qs) ∙ ap (λ l. l ++ (events_of (checked_if b) D ++ names)) (append_nil _ ∙ all_free (naming.Declared Value b) s.Spec ss refl p a) in
    let H : settled (asks naming.Nothing ss ++ (events_of (checked_if b) D ++ names)) (frames i.state.entries) ≡ Scoped gs = ap (λ l. settled l (frames i.state.entries)) (sym x) ∙ h.1.1 in
    let L : Spot → Type 0 = λ m. (true ≡ true) × ((true ≡ true) × Calms T i.state (happens event.Begin (happens event.DeclareValue m.state))) in
    let K : Spot → Type 0 = λ j. IsOff (starts s.Spec) j.state ((placed 1 D ++ []) ++ after) × IsReady (inside own s.ParamDeclarator) D j ([] ++ after) L in
    specs_ready s.Spec ss i ((placed 1 D ++ []) ++ after) (events_of (checked_if b) D ++ names) gs K refl (no_type i.state h.0 ss r.0) H (λ j S.
    let typed : has_type ss ≡ j.state.kept.has_type = sym (S.typed ∙ ap (λ (k : Kept). k.has_type || has_type ss) h.0) in
    let U = uses_name (form.Declarator f) gp qs j.state names gs n (subst (λ b. settled (events_of (checked_if (not b)) D ++ names) (frames j.state.entries) ≡ Scoped gs) typed S.holds) in
    let nameless : j.state.kept.name ≡ None = S.name ∙ ap (λ (k : Kept). k.name) h.0 in (
      subst (IsOff (starts s.Spec) j.state) (sym (append_assoc (placed 1 D) [] after)) (declarator_off s.Spec j.state 1 (form.Declarator f) gp qs after refl n U.1 (after_sign s.Spec j.state after refl c)),
      part own s.ParamDeclarator D j ([] ++ after) L refl (
        (record { holds = earlier ds names j.state (gs, U.0); value = U.1; function = λ e. opposed e (S.due ∙ ap (λ (k : Kept). k.is_function_due) h.0) }, nameless),
        (
          tt,
          λ m d. (
            refl,
            (
              refl,
              (
                record {
                  scoped = h.1.1 ∙ ap Scoped (sym (declare_value (name_of D) m.state.kept.name j.state.kept.name m.state.entries gs nameless d.made.name (later ds names (frames j.state.entries) (frames m.state.entries) gs d.made.ran.scoped U.0)));
                  aside = d.made.ran.aside ∙ S.aside;
                },
                refl,
              ),
            ),
          ),
        ),
      ),
    ))

pub param_ready : (own : Sort) (sp : Span) (ts : Forest) (i : Spot) (after : List Shape) → fits (pieces form.Param) ts ≡ true → pure ts ≡ true → valid ts ≡ true → is_nothing (among_rules form.Param ts) ≡ true → begins_sign after ≡ true → IsCalm (the_tree form.Param sp ts) i.state
    → RowReady own form.Param Usual (pieces form.Param) ts i after (λ j. Calms (the_tree form.Param sp ts) i.state j.state)
param_ready own sp empty i after t p v q c h = absurd (cc t)
param_ready own sp (tree l lp ss empty) i after t p v q c h = absurd (never _ t)
param_ready own sp (tree l lp ss (tree g gp qs (tree k kp es rest))) i after t p v q c h = absurd (never_two (is_list_of All s.Spec l ss) (stands g s.ParamDeclarator) t)
param_ready own sp (tree l lp ss (tree g gp qs empty)) i after t p v q c h =
    let a = a_list All s.Spec l lp ss (tree g gp qs empty) (left_of (is_list_of All s.Spec l ss) _ t) p in
    let o = right_of (is_plain l && pure ss) (pure (tree g gp qs empty)) p in
    let w = right_of (is_right l ss && valid ss) (valid (tree g gp qs empty)) v in
    let e = param_stands g (head_plain g gp qs empty o) (left_of (stands g s.ParamDeclarator) true (right_of (is_list_of All s.Spec l ss) _ t)) in
    let d = declarator_form g (head_plain g gp qs empty o) e in
    subst (λ g. Good s.Declarator (the_tree g gp qs) → is_nothing (among_rules form.Param (tree l lp ss (tree g gp qs empty))) ≡ true → IsCalm (the_tree form.Param sp (tree l lp ss (tree g gp qs empty))) i.state
    → RowReady own form.Param Usual (pieces form.Param) (tree l lp ss (tree g gp qs empty)) i after (λ j. Calms (the_tree form.Param sp (tree l lp ss (tree g gp qs empty))) i.state j.state)) (sym d.1)
    (λ n q h. subst (λ l. is_nothing (among_rules form.Param (tree l lp ss (tree (form.Declarator d.0) gp qs empty))) ≡ true → IsCalm (the_tree form.Param sp (tree l lp ss (tree (form.Declarator d.0) gp qs empty))) i.state
    → RowReady own form.Param Usual (pieces form.Param) (tree l lp ss (tree (form.Declarator d.0) gp qs empty)) i after (λ j. Calms (the_tree form.Param sp (tree l lp ss (tree (form.Declarator d.0) gp qs empty))) i.state j.state)) (sym a.0)
    (λ q h. param_row own sp lp ss d.0 gp qs i after a.1.0 a.1.1 n q c h) q h) (first_good s.Declarator g gp qs empty o w e) q h
