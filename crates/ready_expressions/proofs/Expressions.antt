-- Expressions, initializers and statements that declare nothing are ready where their events hold.
use Rattle.std.proofs.Common.{◌≡◌, refl, ap, sym, ◌∙◌, ℕ, Bool, true, false, not, ◌&&◌, List, [], ◌∷◌, ◌++◌, arith}
use Rattle.c_tokens.specs.declared.span.Span.{Span}
use Rattle.c_tokens.specs.declared.token.Word.{Word}
use Rattle.c_tokens.specs.declared.token.Shape.{Shape}
use Rattle.c_tokens.specs.declared.token.Shape.TheVariants as shape
use Rattle.c_tokens.specs.declared.class.Class.TheVariants as class
use Rattle.c_tokens.specs.ClassNumbers.{class_number}
use Rattle.c_tokens.specs.ClassOf.{class_of}
use Rattle.c_forms.specs.declared.pieces.Event.TheVariants as event
use Rattle.c_forms.specs.declared.pieces.Sort.{Sort}
use Rattle.c_forms.specs.declared.pieces.Sort.TheVariants as s
use Rattle.c_forms.specs.declared.forms.Form.{Form}
use Rattle.c_forms.specs.declared.forms.Form.TheVariants as form
use Rattle.c_forms.specs.declared.forms.ExpForm.{ExpForm}
use Rattle.c_forms.specs.declared.forms.ExpForm.TheVariants as exp
use Rattle.c_forms.specs.declared.operators.BinaryOperator.{BinaryOperator}
use Rattle.c_forms.specs.declared.operators.BinaryOperator.TheVariants as operator
use Rattle.c_forms.specs.declared.forms.InitForm.{InitForm}
use Rattle.c_forms.specs.declared.forms.InitForm.TheVariants as init
use Rattle.c_forms.specs.declared.forms.ItemForm.TheVariants as item
use Rattle.c_forms.specs.declared.forms.GroupForm.TheVariants as group
use Rattle.c_forms.specs.Opens.{last_opens}
use Rattle.c_forms.specs.Forests.{Plain, Forest, empty, tree}
use Rattle.c_forms.specs.Fits.{fits}
use Rattle.c_forms.specs.Measures.{pieces}
use Rattle.c_forms.specs.Tokens.{unary_token, binary_token, assignment_token}
use Rattle.c_forms.specs.Sets.{has}
use Rattle.c_reader.specs.States.{State, Kept, nothing_kept, is_type, word_class, happens, top, under}
use Rattle.c_reader.specs.States as States
use Rattle.c_reader.specs.Tokens.{Spot, step, turned}
use Rattle.c_syntax.specs.Reading.{Usual}
use Rattle.c_trees.specs.Counts.{pure}
use Rattle.scope_tables.specs.Frames.{Frame}
use Rattle.scope_meanings.specs.declared.meaning.NameUse.TheVariants as naming
use Rattle.scopes.specs.declared.event.Event.{Event}
use Rattle.scopes.specs.Events.{events_of}
use Rattle.scopes.specs.Settling.{Scoped, settled}
use Rattle.spelled_scopes.specs.Meant.{frames}
use Rattle.spelled_trees.proofs.Parts.{right_of}
use Rattle.ready_rows.proofs.Ready.{the_tree, IsOwn}
use Rattle.ready_rows.proofs.Standing.{begins_else, asks, Ran, IsCalm, Calms}
use Rattle.ready_rows.proofs.Steps.{append_nil, must_value, after_all}
use Rattle.ready_rows.proofs.Calm.{Here, first_holds, goes_on, at_end, RowReady, are_calm, has_own, Closed, closed, calm_row, part}

-- ---- tokens

pub same_number : (n : ℕ) → has (n ∷ []) n ≡ true
same_number n = grind (arith)

-- a token that is no word is seen alike everywhere
abbrev pub is_word : Shape → Bool
is_word (shape.Word w) = true
is_word x = false

pub seen_alike : (x : Shape) (u : State) → is_word x ≡ false → has (class_number (class_of x) ∷ []) (States.class u x) ≡ true
seen_alike (shape.Word w) u e = absurd (cc e)
seen_alike x u e = same_number (class_number (class_of x))

pub seen_value : (u : State) (w : Word) → (not u.kept.has_type && is_type u.entries w.0) ≡ false → States.class u (shape.Word w) ≡ class_number class.Word
seen_value u w e = ap word_class e

-- ---- nodes of calm rows

pub calms_end : (t : Plain) (u v : State) (gs : List Frame) → settled (events_of naming.Nothing t) (frames u.entries) ≡ Scoped gs → Here v [] gs u.aside → Calms t u v
calms_end t u v gs e h = (after_all (events_of naming.Nothing t) u v gs e (at_end v gs u.aside h) h.aside, h.free)

pub calm_node : (b : Bool) (own : Sort) (f : Form) (sp : Span) (ts : Forest) (i : Spot) (after : List Shape) → are_calm b (pieces f) ≡ true → fits (pieces f) ts ≡ true → pure ts ≡ true → (has_own (pieces f) ≡ true → (u : State) → IsOwn f u)
    → (b ≡ true → Closed ts after) → events_of naming.Nothing (the_tree f sp ts) ≡ (asks naming.Nothing ts ++ []) → IsCalm (the_tree f sp ts) i.state → RowReady own f Usual (pieces f) ts i after (λ j. Calms (the_tree f sp ts) i.state j.state)
calm_node b own f sp ts i after c t p o l e h = calm_row b own f Usual (pieces f) ts i after [] h.1.0 i.state.aside (λ j. Calms (the_tree f sp ts) i.state j.state) c t p o l
    (record { free = h.0; holds = ap (λ es. settled es (frames i.state.entries)) (sym e) ∙ h.1.1; aside = refl })
    (λ j H. calms_end (the_tree f sp ts) i.state j.state h.1.0 h.1.1 H)

-- ---- what is put aside

pub resumed : (u v : State) (xs ys : List Event) (gs : List Frame) (a : List Kept) → Here u (xs ++ ys) gs a → Ran xs (happens event.Aside u) v → Here (happens event.Resume v) ys gs a
resumed u v xs ys gs a h r = let o = goes_on (record u { kept = nothing_kept }) (record v { kept = nothing_kept; aside = u.aside }) xs ys gs a (record { free = refl; holds = h.holds; aside = h.aside }) (record { scoped = r.scoped; aside = refl }) refl in
    record { free = ap top r.aside ∙ h.free; holds = o.holds; aside = ap under r.aside ∙ h.aside }

-- ---- expressions

pub never : (a : Bool) → (a && false) ≡ true → ⊥
never true e = absurd (cc e)
never false e = absurd (cc e)

pub never_two : (a b : Bool) → (a && (b && false)) ≡ true → ⊥
never_two a b e = never b (right_of a (b && false) e)

name_row : (own : Sort) (w : Word) (sp : Span) (ts : Forest) (i : Spot) (after : List Shape) → fits (pieces (form.Exp (exp.Name w))) ts ≡ true → IsCalm (the_tree (form.Exp (exp.Name w)) sp ts) i.state
    → RowReady own (form.Exp (exp.Name w)) Usual (pieces (form.Exp (exp.Name w))) ts i after (λ j. Calms (the_tree (form.Exp (exp.Name w)) sp ts) i.state j.state)
name_row own w sp (tree g tp qs rest) i after t h = absurd (cc t)
name_row own w sp empty i after t h =
    let m = must_value w sp [] i.state.entries h.1.0 h.1.1 in
    let untyped : i.state.kept.has_type ≡ false = ap (λ (k : Kept). k.has_type) h.0 in
    let v : (not i.state.kept.has_type && is_type i.state.entries w.0) ≡ false = ap (λ b. not b && is_type i.state.entries w.0) untyped ∙ m.0 in (
      record { shape = shape.Word w; held = refl; seen = ap (λ c. has (class_number class.Word ∷ []) c) (seen_value i.state w v) ∙ same_number (class_number class.Word) },
      (record { scoped = h.1.1 ∙ sym m.1; aside = refl }, h.0),
    )

cast_row : (own : Sort) (sp : Span) (ts : Forest) (i : Spot) (after : List Shape) → fits (pieces (form.Exp exp.Cast)) ts ≡ true → IsCalm (the_tree (form.Exp exp.Cast) sp ts) i.state
    → RowReady own (form.Exp exp.Cast) Usual (pieces (form.Exp exp.Cast)) ts i after (λ j. Calms (the_tree (form.Exp exp.Cast) sp ts) i.state j.state)
cast_row own sp empty i after t h = absurd (cc t)
cast_row own sp (tree g gp qs empty) i after t h = absurd (never _ t)
cast_row own sp (tree g gp qs (tree f fp rs (tree k kp vs rest))) i after t h = absurd (never_two _ _ t)
cast_row own sp (tree g gp qs (tree f fp rs empty)) i after t h =
    let T : Plain = the_tree g gp qs in
    let E : Plain = the_tree f fp rs in
    let es : List Event = events_of naming.Nothing T in
    let ds : List Event = events_of naming.Nothing E in
    let H : Here i.state (es ++ (ds ++ [])) h.1.0 i.state.aside = record { free = h.0; holds = ap (λ l. settled l (frames i.state.entries)) (sym (append_nil (es ++ (ds ++ [])))) ∙ h.1.1; aside = refl } in (
      refl,
      part own s.TypeName T (turned (happens event.Aside) (step i)) _ _ refl (
        (refl, first_holds i.state es (ds ++ []) h.1.0 i.state.aside H),
        (
          refl,
          λ j d. let G = resumed i.state j.state es (ds ++ []) h.1.0 i.state.aside H d.made in (
            refl,
            part own s.Exp E (step (turned (happens event.Resume) j)) _ _ refl (
              (G.free, first_holds (happens event.Resume j.state) ds [] h.1.0 i.state.aside G),
              (tt, λ m e. calms_end (the_tree (form.Exp exp.Cast) sp (tree g gp qs (tree f fp rs empty))) i.state m.state h.1.0 h.1.1 (goes_on (happens event.Resume j.state) m.state ds [] h.1.0 i.state.aside G e.made.0 e.made.1)),
            ),
          ),
        ),
      ),
    )

sizeof_row : (own : Sort) (sp : Span) (ts : Forest) (i : Spot) (after : List Shape) → fits (pieces (form.Exp exp.SizeofType)) ts ≡ true → IsCalm (the_tree (form.Exp exp.SizeofType) sp ts) i.state
    → RowReady own (form.Exp exp.SizeofType) Usual (pieces (form.Exp exp.SizeofType)) ts i after (λ j. Calms (the_tree (form.Exp exp.SizeofType) sp ts) i.state j.state)
sizeof_row own sp empty i after t h = absurd (cc t)
sizeof_row own sp (tree g gp qs (tree f fp rs rest)) i after t h = absurd (never _ t)
sizeof_row own sp (tree g gp qs empty) i after t h =
    let T : Plain = the_tree g gp qs in
    let es : List Event = events_of naming.Nothing T in
    let H : Here i.state (es ++ []) h.1.0 i.state.aside = record { free = h.0; holds = ap (λ l. settled l (frames i.state.entries)) (sym (append_nil (es ++ []))) ∙ h.1.1; aside = refl } in (
      refl,
      part own s.TypeName T (turned (happens event.Aside) (step (step i))) _ _ refl (
        (refl, first_holds i.state es [] h.1.0 i.state.aside H),
        (refl, λ j d. (refl, calms_end (the_tree (form.Exp exp.SizeofType) sp (tree g gp qs empty)) i.state (happens event.Resume j.state) h.1.0 h.1.1 (resumed i.state j.state es [] h.1.0 i.state.aside H d.made))),
      ),
    )

binary_calm : (o : BinaryOperator) → are_calm false (pieces (form.Exp (exp.Binary o))) ≡ true
binary_calm operator.LogicalOr = refl
binary_calm o = refl

abbrev is_name : ExpForm → Bool
is_name (exp.Name w) = true
is_name f = false

exp_own : (f : ExpForm) → is_name f ≡ false → has_own (pieces (form.Exp f)) ≡ true → (u : State) → IsOwn (form.Exp f) u
exp_own (exp.Name w) n h u = absurd (cc n)
exp_own (exp.Int w) n h u = record { shape = shape.Int w; held = refl; seen = seen_alike (shape.Int w) u refl }
exp_own (exp.Float w) n h u = record { shape = shape.Float w; held = refl; seen = seen_alike (shape.Float w) u refl }
exp_own (exp.Char w) n h u = record { shape = shape.Char w; held = refl; seen = seen_alike (shape.Char w) u refl }
exp_own (exp.Unary o) n h u = record { shape = shape.Punct (unary_token o); held = refl; seen = seen_alike (shape.Punct (unary_token o)) u refl }
exp_own (exp.Binary o) n h u = record { shape = shape.Punct (binary_token o); held = refl; seen = seen_alike (shape.Punct (binary_token o)) u refl }
exp_own (exp.Assign o) n h u = record { shape = shape.Punct (assignment_token o); held = refl; seen = seen_alike (shape.Punct (assignment_token o)) u refl }
exp_own f n h u = absurd (cc h)

pub exp_ready : (own : Sort) (f : ExpForm) (sp : Span) (ts : Forest) (i : Spot) (after : List Shape) → fits (pieces (form.Exp f)) ts ≡ true → pure ts ≡ true → IsCalm (the_tree (form.Exp f) sp ts) i.state
    → RowReady own (form.Exp f) Usual (pieces (form.Exp f)) ts i after (λ j. Calms (the_tree (form.Exp f) sp ts) i.state j.state)
exp_ready own (exp.Name w) sp ts i after t p h = name_row own w sp ts i after t h
exp_ready own exp.Cast sp ts i after t p h = cast_row own sp ts i after t h
exp_ready own exp.SizeofType sp ts i after t p h = sizeof_row own sp ts i after t h
exp_ready own (exp.Binary o) sp ts i after t p h = calm_node false own (form.Exp (exp.Binary o)) sp ts i after (binary_calm o) t p (exp_own (exp.Binary o) refl) (λ b. absurd (cc b)) refl h
exp_ready own f sp ts i after t p h = calm_node false own (form.Exp f) sp ts i after refl t p (exp_own f refl) (λ b. absurd (cc b)) refl h

-- ---- initializers, and what else is calm

pub init_ready : (own : Sort) (f : InitForm) (sp : Span) (ts : Forest) (i : Spot) (after : List Shape) → fits (pieces (form.Init f)) ts ≡ true → pure ts ≡ true → IsCalm (the_tree (form.Init f) sp ts) i.state
    → RowReady own (form.Init f) Usual (pieces (form.Init f)) ts i after (λ j. Calms (the_tree (form.Init f) sp ts) i.state j.state)
init_ready own init.One sp ts i after t p h = calm_node false own (form.Init init.One) sp ts i after refl t p (λ e. absurd (cc e)) (λ b. absurd (cc b)) refl h
init_ready own init.Braces sp ts i after t p h = calm_node false own (form.Init init.Braces) sp ts i after refl t p (λ e. absurd (cc e)) (λ b. absurd (cc b)) refl h

pub members_ready : (own : Sort) (sp : Span) (ts : Forest) (i : Spot) (after : List Shape) → fits (pieces (form.Group group.Members)) ts ≡ true → pure ts ≡ true → IsCalm (the_tree (form.Group group.Members) sp ts) i.state
    → RowReady own (form.Group group.Members) Usual (pieces (form.Group group.Members)) ts i after (λ j. Calms (the_tree (form.Group group.Members) sp ts) i.state j.state)
members_ready own sp ts i after t p h = calm_node false own (form.Group group.Members) sp ts i after refl t p (λ e. absurd (cc e)) (λ b. absurd (cc b)) refl h

pub else_ready : (own : Sort) (sp : Span) (ts : Forest) (i : Spot) (after : List Shape) → fits (pieces (form.Group group.ElsePart)) ts ≡ true → pure ts ≡ true → (last_opens ts ≡ true → begins_else after ≡ false)
    → IsCalm (the_tree (form.Group group.ElsePart) sp ts) i.state → RowReady own (form.Group group.ElsePart) Usual (pieces (form.Group group.ElsePart)) ts i after (λ j. Calms (the_tree (form.Group group.ElsePart) sp ts) i.state j.state)
else_ready own sp ts i after t p l h = calm_node true own (form.Group group.ElsePart) sp ts i after refl t p (λ e. absurd (cc e)) (λ b. closed ts after l) refl h

pub declaration_ready : (own : Sort) (sp : Span) (ts : Forest) (i : Spot) (after : List Shape) → fits (pieces (form.Item item.Declaration)) ts ≡ true → pure ts ≡ true → IsCalm (the_tree (form.Item item.Declaration) sp ts) i.state
    → RowReady own (form.Item item.Declaration) Usual (pieces (form.Item item.Declaration)) ts i after (λ j. Calms (the_tree (form.Item item.Declaration) sp ts) i.state j.state)
declaration_ready own sp ts i after t p h = calm_node false own (form.Item item.Declaration) sp ts i after refl t p (λ e. absurd (cc e)) (λ b. absurd (cc b)) refl h
