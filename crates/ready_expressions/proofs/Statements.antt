-- Statements are ready where their events hold and no `else` follows that would belong to them.
use Rattle.std.proofs.Common.{◌≡◌, refl, ap, sym, subst, ◌∙◌, ℕ, ◌+◌, Bool, true, false, not, ◌&&◌, ◌||◌, if◌then◌else◌, List, [], ◌∷◌, ◌++◌, append_assoc, None, nat_lt, arith}
use Rattle.c_tokens.specs.declared.span.Span.{Span}
use Rattle.c_tokens.specs.declared.token.Shape.{Shape}
use Rattle.c_tokens.specs.declared.token.Shape.TheVariants as shape
use Rattle.c_tokens.specs.declared.token.Punct.{Punct}
use Rattle.c_tokens.specs.declared.token.Punct.TheVariants as punct
use Rattle.c_tokens.specs.declared.token.Key.{Key}
use Rattle.c_tokens.specs.declared.token.Key.TheVariants as key
use Rattle.c_tokens.specs.declared.token.Mark.{Mark}
use Rattle.c_tokens.specs.declared.token.Mark.TheVariants as mark
use Rattle.c_forms.specs.declared.pieces.Event.TheVariants as event
use Rattle.c_forms.specs.declared.pieces.Repetition.TheVariants.{Greedy, Spliced}
use Rattle.c_forms.specs.declared.pieces.Sort.{Sort}
use Rattle.c_forms.specs.declared.pieces.Sort.TheVariants as s
use Rattle.c_forms.specs.declared.forms.Form.{Form}
use Rattle.c_forms.specs.declared.forms.Form.TheVariants as form
use Rattle.c_forms.specs.declared.forms.StmtForm.{StmtForm}
use Rattle.c_forms.specs.declared.forms.StmtForm.TheVariants as stmt
use Rattle.c_forms.specs.declared.forms.GroupForm.TheVariants as group
use Rattle.c_forms.specs.declared.rules.Rule.{Rule}
use Rattle.c_forms.specs.Forests.{Plain, Forest, empty, tree}
use Rattle.c_forms.specs.Fits.{fits, elements, is_list_of, all_stand, number}
use Rattle.c_forms.specs.Measures.{is_plain, ends_as_last_part, pieces}
use Rattle.c_forms.specs.Opens.{ends_open}
use Rattle.c_forms.specs.Places.{stands}
use Rattle.c_forms.specs.Rules.{is_decl, ordered, is_nothing, among_rules, unless, is_right}
use Rattle.c_forms.specs.Sets.{has, starts}
use Rattle.c_reader.specs.States.{Entry, Edge, AsType, AsValue, State, Kept, happens, outside, word_class}
use Rattle.c_reader.specs.Tokens.{Spot, step, turned}
use Rattle.c_syntax.specs.Reading.{Usual}
use Rattle.c_trees.specs.Counts.{pure}
use Rattle.c_trees.specs.Valid.{valid}
use Rattle.scope_tables.specs.Frames.{Frame, left}
use Rattle.scope_tables.specs.declared.table.WordClass.TheVariants.{TypeName, Value}
use Rattle.scope_meanings.specs.declared.meaning.NameUse.TheVariants as naming
use Rattle.scopes.specs.declared.event.Event.{Event}
use Rattle.scopes.specs.declared.event.Event.TheVariants.{Leave}
use Rattle.scopes.specs.Events.{events_of}
use Rattle.scopes.specs.Settling.{Scoped, settled}
use Rattle.spelled_scopes.specs.Meant.{frames}
use Rattle.spelled_scopes.proofs.Frames.{left_declared}
use Rattle.spelled_trees.specs.Scoped.{are_words, Grown}
use Rattle.spelled_trees.proofs.Parts.{left_of, right_of}
use Rattle.spelled_trees.proofs.Scopes.{grown_none, grown_more}
use Rattle.ready_rows.proofs.Ready.{the_tree, placed, others, IsOff}
use Rattle.ready_rows.proofs.Rows.{list_form, list_stand, list_most, stand_by}
use Rattle.ready_rows.proofs.Standing.{asks, begins_else, IsCalm, Calms}
use Rattle.ready_rows.proofs.Steps.{append_nil, one_end}
use Rattle.ready_rows.proofs.Calm.{Here, first_holds, goes_on, regrouped, RowReady, AreReady, OthersReady, closed, part}
use Rattle.ready_expressions.proofs.Expressions.{calms_end, calm_node, never, never_two}
use Rattle.ready_expressions.proofs.Heads.{first_good, parts_of, item_no_else, placed_head}

-- ---- no `else`

sign_no_else : (p : Punct) (u : State) → IsOff (starts s.ElsePart) u (shape.Punct p ∷ [])
sign_no_else punct.LeftBracket u = refl
sign_no_else p u = refl

key_no_else : (k : Key) (u : State) → begins_else (shape.Key k ∷ []) ≡ false → IsOff (starts s.ElsePart) u (shape.Key k ∷ [])
key_no_else key.Else u e = absurd (cc e)
key_no_else k u e = refl

mark_no_else : (m : Mark) (u : State) → IsOff (starts s.ElsePart) u (shape.Mark m ∷ [])
mark_no_else mark.Syntax u = refl
mark_no_else m u = refl

word_no_else : (b : Bool) → has (starts s.ElsePart) (word_class b) ≡ false
word_no_else true = refl
word_no_else false = refl

else_key : (k : Key) (xs : List Shape) → begins_else (shape.Key k ∷ xs) ≡ false → begins_else (shape.Key k ∷ []) ≡ false
else_key key.Else xs e = absurd (cc e)
else_key k xs e = refl

pub off_else : (after : List Shape) (u : State) → begins_else after ≡ false → IsOff (starts s.ElsePart) u after
off_else [] u e = absurd (cc e)
off_else (shape.Word w ∷ xs) u e = word_no_else _
off_else (shape.Key k ∷ xs) u e = key_no_else k u (else_key k xs e)
off_else (shape.Punct p ∷ xs) u e = sign_no_else p u
off_else (shape.Mark m ∷ xs) u e = mark_no_else m u
off_else (x ∷ xs) u e = refl

-- ---- `do`

do_row : (own : Sort) (sp : Span) (ts : Forest) (i : Spot) (after : List Shape) → fits (pieces (form.Stmt stmt.Do)) ts ≡ true → IsCalm (the_tree (form.Stmt stmt.Do) sp ts) i.state
    → RowReady own (form.Stmt stmt.Do) Usual (pieces (form.Stmt stmt.Do)) ts i after (λ j. Calms (the_tree (form.Stmt stmt.Do) sp ts) i.state j.state)
do_row own sp empty i after t h = absurd (cc t)
do_row own sp (tree g gp qs empty) i after t h = absurd (never _ t)
do_row own sp (tree g gp qs (tree f fp rs (tree k kp vs rest))) i after t h = absurd (never_two _ _ t)
do_row own sp (tree g gp qs (tree f fp rs empty)) i after t h =
    let T : Plain = the_tree g gp qs in
    let E : Plain = the_tree f fp rs in
    let es : List Event = events_of naming.Nothing T in
    let ds : List Event = events_of naming.Nothing E in
    let H : Here i.state (es ++ (ds ++ [])) h.1.0 i.state.aside = record { free = h.0; holds = ap (λ l. settled l (frames i.state.entries)) (sym (append_nil (es ++ (ds ++ [])))) ∙ h.1.1; aside = refl } in
    part own s.Stmt T (step i) _ _ refl (
      (h.0, first_holds i.state es (ds ++ []) h.1.0 i.state.aside H),
      (
        (λ _. refl),
        λ j d. let G = goes_on i.state j.state es (ds ++ []) h.1.0 i.state.aside H d.made.0 d.made.1 in
            part own s.Exp E (step (step j)) _ _ refl (
              (G.free, first_holds j.state ds [] h.1.0 i.state.aside G),
              (tt, λ m e. calms_end (the_tree (form.Stmt stmt.Do) sp (tree g gp qs (tree f fp rs empty))) i.state m.state h.1.0 h.1.1 (goes_on j.state m.state ds [] h.1.0 i.state.aside G e.made.0 e.made.1)),
            ),
      ),
    )

-- ---- `if`

never_three : (a b c : Bool) → (a && (b && (c && false))) ≡ true → ⊥
never_three a b c e = never_two b c (right_of a (b && (c && false)) e)

closes_by : (a b : Bool) (r : Rule) → is_nothing (unless (a || not b) r None) ≡ true → a ≡ false → b ≡ false
closes_by true b r e f = absurd (cc f)
closes_by false true r e f = absurd (cc e)
closes_by false false r e f = refl

two_of : (n : ℕ) → (not true || nat_lt (n + 1 + 1) 2) ≡ true → ⊥
two_of n e = grind (arith)

else_list : (g : Form) (gp : Span) (qs : Forest) (f : Form) (fp : Span) (rs : Forest) (k : Form) (kp : Span) (es : Forest) → fits (pieces (form.Stmt stmt.If)) (tree g gp qs (tree f fp rs (tree k kp es empty))) ≡ true → pure (tree g gp qs (tree f fp rs (tree k kp es empty))) ≡ true → k ≡ form.Group group.List
else_list g gp qs f fp rs k kp es t p =
    let a = right_of (is_plain f && pure rs) (is_plain k && pure es && true) (right_of (is_plain g && pure qs) _ p) in
    list_form k (left_of (is_plain k) (pure es) (left_of (is_plain k && pure es) true a)) (left_of (stands k s.List) (elements Greedy s.ElsePart es) (left_of (is_list_of Greedy s.ElsePart k es) true (right_of (stands f s.Stmt) _ (right_of (stands g s.Exp) _ t))))

opposed : {A : Type 0} {b : Bool} → b ≡ true → b ≡ false → A
opposed e f = absurd (cc (e, f))

if_row : (own : Sort) (sp : Span) (ts : Forest) (i : Spot) (after : List Shape) → fits (pieces (form.Stmt stmt.If)) ts ≡ true → pure ts ≡ true → is_nothing (among_rules (form.Stmt stmt.If) ts) ≡ true
    → (ends_open (the_tree (form.Stmt stmt.If) sp ts) ≡ true → begins_else after ≡ false) → IsCalm (the_tree (form.Stmt stmt.If) sp ts) i.state
    → RowReady own (form.Stmt stmt.If) Usual (pieces (form.Stmt stmt.If)) ts i after (λ j. Calms (the_tree (form.Stmt stmt.If) sp ts) i.state j.state)
if_row own sp empty i after t p q l h = absurd (cc t)
if_row own sp (tree g gp qs empty) i after t p q l h = absurd (never _ t)
if_row own sp (tree g gp qs (tree f fp rs empty)) i after t p q l h = absurd (never_two _ _ t)
if_row own sp (tree g gp qs (tree f fp rs (tree k kp es (tree m mp vs rest)))) i after t p q l h = absurd (never_three (stands g s.Exp) (stands f s.Stmt) (is_list_of Greedy s.ElsePart k es) t)
if_row own sp (tree g gp qs (tree f fp rs (tree k kp empty empty))) i after t p q l h =
    let C : Plain = the_tree g gp qs in
    let T : Plain = the_tree f fp rs in
    let es : List Event = events_of naming.Nothing C in
    let ds : List Event = events_of naming.Nothing T in
    let n = else_list g gp qs f fp rs k kp empty t p in
    let c : begins_else after ≡ false = l (ap (λ k. ends_as_last_part k && true) n) in
    let e : settled ((es ++ (ds ++ [])) ++ []) (frames i.state.entries) ≡ Scoped h.1.0 = subst (λ k. settled ((es ++ (ds ++ (events_of naming.Nothing (the_tree k kp empty) ++ []))) ++ []) (frames i.state.entries) ≡ Scoped h.1.0) n h.1.1 in
    let H : Here i.state (es ++ (ds ++ [])) h.1.0 i.state.aside = record { free = h.0; holds = ap (λ l. settled l (frames i.state.entries)) (sym (append_nil (es ++ (ds ++ [])))) ∙ e; aside = refl } in
    part own s.Exp C (step (step i)) _ _ refl (
      (h.0, first_holds i.state es (ds ++ []) h.1.0 i.state.aside H),
      (
        tt,
        λ j d. let G = goes_on i.state j.state es (ds ++ []) h.1.0 i.state.aside H d.made.0 d.made.1 in
            part own s.Stmt T (step j) _ _ refl (
              (G.free, first_holds j.state ds [] h.1.0 i.state.aside G),
              ((λ o. c), λ m x. (off_else after m.state c, calms_end (the_tree (form.Stmt stmt.If) sp (tree g gp qs (tree f fp rs (tree k kp empty empty)))) i.state m.state h.1.0 h.1.1 (goes_on j.state m.state ds [] h.1.0 i.state.aside G x.made.0 x.made.1))),
            ),
      ),
    )
if_row own sp (tree g gp qs (tree f fp rs (tree k kp (tree e ep vs (tree m mp zs rest)) empty))) i after t p q l h =
    absurd (two_of (number rest) (list_most Greedy s.ElsePart (tree e ep vs (tree m mp zs rest)) (right_of (stands k s.List) (elements Greedy s.ElsePart (tree e ep vs (tree m mp zs rest))) (left_of (is_list_of Greedy s.ElsePart k (tree e ep vs (tree m mp zs rest))) true (right_of (stands f s.Stmt) _ (right_of (stands g s.Exp) _ t))))))
if_row own sp (tree g gp qs (tree f fp rs (tree k kp (tree e ep vs empty) empty))) i after t p q l h =
    let C : Plain = the_tree g gp qs in
    let T : Plain = the_tree f fp rs in
    let E : Plain = the_tree e ep vs in
    let es : List Event = events_of naming.Nothing C in
    let ds : List Event = events_of naming.Nothing T in
    let bs : List Event = events_of naming.Nothing E in
    let n = else_list g gp qs f fp rs k kp (tree e ep vs empty) t p in
    let c : ends_open T ≡ false = closes_by false (ends_open T) _ q refl in
    let x : settled ((es ++ (ds ++ (((bs ++ []) ++ []) ++ []))) ++ []) (frames i.state.entries) ≡ Scoped h.1.0 = subst (λ k. settled ((es ++ (ds ++ (events_of naming.Nothing (the_tree k kp (tree e ep vs empty)) ++ []))) ++ []) (frames i.state.entries) ≡ Scoped h.1.0) n h.1.1 in
    let y : ((es ++ (ds ++ (((bs ++ []) ++ []) ++ []))) ++ []) ≡ (es ++ (ds ++ (bs ++ []))) = append_nil _ ∙ ap (λ l. es ++ (ds ++ l)) (append_nil _ ∙ append_nil _) in
    let H : Here i.state (es ++ (ds ++ (bs ++ []))) h.1.0 i.state.aside = record { free = h.0; holds = ap (λ l. settled l (frames i.state.entries)) (sym y) ∙ x; aside = refl } in
    part own s.Exp C (step (step i)) _ _ refl (
      (h.0, first_holds i.state es (ds ++ (bs ++ [])) h.1.0 i.state.aside H),
      (
        tt,
        λ j d. let G = goes_on i.state j.state es (ds ++ (bs ++ [])) h.1.0 i.state.aside H d.made.0 d.made.1 in
            part own s.Stmt T (step j) _ _ refl (
              (G.free, first_holds j.state ds (bs ++ []) h.1.0 i.state.aside G),
              (
                (λ o. opposed o c),
                λ m z. let F = goes_on j.state m.state ds (bs ++ []) h.1.0 i.state.aside G z.made.0 z.made.1 in (
                  (F.free, first_holds m.state bs [] h.1.0 i.state.aside F),
                  ((λ o. l (ap (λ k. ends_as_last_part k && ends_open E) n ∙ o)), λ v b. calms_end (the_tree (form.Stmt stmt.If) sp (tree g gp qs (tree f fp rs (tree k kp (tree e ep vs empty) empty)))) i.state v.state h.1.0 h.1.1 (goes_on m.state v.state bs [] h.1.0 i.state.aside F b.made.0 b.made.1)),
                ),
              ),
            ),
      ),
    )

-- ---- blocks

around_words : (ws : List Entry) (late : Bool) (es : List Entry) → are_words ws ≡ true → (outside (ws ++ (Edge late ∷ es)) ≡ es) × (left (frames (ws ++ (Edge late ∷ es))) ≡ frames es)
around_words [] late es h = (refl, refl)
around_words (Edge l ∷ ws) late es h = absurd (cc h)
around_words (AsType n ∷ ws) late es h = let o = around_words ws late es h in (o.0, left_declared n TypeName (frames (ws ++ (Edge late ∷ es))) ∙ o.1)
around_words (AsValue n ∷ ws) late es h = let o = around_words ws late es h in (o.0, left_declared n Value (frames (ws ++ (Edge late ∷ es))) ∙ o.1)

-- what lies around a scope
pub around : (late : Bool) (es zs : List Entry) → Grown (Edge late ∷ es) zs → (outside zs ≡ es) × (left (frames zs) ≡ frames es)
around late es zs G = let o = around_words G.words late es G.are in (ap outside G.value ∙ o.0, ap (λ zs. left (frames zs)) G.value ∙ o.1)

late_by : (b late x y : Bool) → (if b then not late && x else y) ≡ true → b ≡ true → late ≡ false
late_by true true x y e d = absurd (cc e)
late_by true false x y e d = refl
late_by false late x y e d = absurd (cc d)

next_ordered : (b late : Bool) (rest : Forest) → (if b then not late && ordered late rest else ordered true rest) ≡ true → ordered (if b then late else true) rest ≡ true
next_ordered true late rest e = right_of (not late) (ordered late rest) e
next_ordered false late rest e = e

next_late : (b late : Bool) (u v : State) → (late ≡ false → u.is_late ≡ false) → (b ≡ true → v.is_late ≡ u.is_late) → (if b then late else true) ≡ false → v.is_late ≡ false
next_late true late u v h k e = k refl ∙ h e
next_late false late u v h k e = absurd (cc e)

next_no_else : (rest : Forest) (after : List Shape) → pure rest ≡ true → valid rest ≡ true → all_stand s.BlockItem rest ≡ true → begins_else after ≡ false → begins_else (others None 0 rest ++ after) ≡ false
next_no_else empty after p v e c = c
next_no_else (tree g gp qs rest) after p v e c = subst (λ xs. begins_else xs ≡ false) (sym (append_assoc (placed 0 (the_tree g gp qs)) (others None 0 rest) after))
    (placed_head (λ xs. begins_else xs ≡ false) 0 (the_tree g gp qs) (others None 0 rest ++ after) (λ ys. refl) (item_no_else g gp qs (first_good s.BlockItem g gp qs rest p v (left_of (stands g s.BlockItem) (all_stand s.BlockItem rest) e)) (others None 0 rest ++ after)))

items_ready : (es : Forest) (i : Spot) (after : List Shape) (late : Bool) (base : List Entry) (more : List Event) (gs : List Frame) (a : List Kept) (K : Spot → Type 0) → pure es ≡ true → valid es ≡ true → all_stand s.BlockItem es ≡ true → ordered late es ≡ true
    → (late ≡ false → i.state.is_late ≡ false) → begins_else after ≡ false → Here i.state (asks naming.Nothing es ++ more) gs a → Grown base i.state.entries → ((j : Spot) → Here j.state more gs a → Grown base j.state.entries → K j)
    → OthersReady s.BlockItem 0 None es i after K
items_ready empty i after late base more gs a K p v e o l c h g k = k i h g
items_ready (tree f sp ps rest) i after late base more gs a K p v e o l c h g k =
    let T : Plain = the_tree f sp ps in
    let ds : List Event = events_of naming.Nothing T in
    let H : Here i.state (ds ++ (asks naming.Nothing rest ++ more)) gs a = regrouped i.state _ _ gs a (append_assoc ds (asks naming.Nothing rest) more) h in
    let q = right_of (is_plain f && pure ps) (pure rest) p in
    let w = right_of (is_right f ps && valid ps) (valid rest) v in
    let x = right_of (stands f s.BlockItem) (all_stand s.BlockItem rest) e in (
      ((h.free, first_holds i.state ds (asks naming.Nothing rest ++ more) gs a H), λ d. l (late_by (is_decl f) late (ordered late rest) (ordered true rest) o d)),
      (
        (λ o. next_no_else rest after q w x c),
        λ j d.
            items_ready rest j after (if is_decl f then late else true) base more gs a K q w x (next_ordered (is_decl f) late rest o) (next_late (is_decl f) late i.state j.state l d.made.1) c
            (goes_on i.state j.state ds (asks naming.Nothing rest ++ more) gs a H d.made.0.0 d.made.0.1) (grown_more g d.scoped.entries) k,
      ),
    )

as_elements : (es : Forest) (i : Spot) (after : List Shape) (K : Spot → Type 0) → OthersReady s.BlockItem 0 None es i after K → AreReady s.BlockItem 0 None es i after K
as_elements empty i after K r = r
as_elements (tree f sp ps rest) i after K r = r

pub holds_rule : (b : Bool) (r : Rule) → is_nothing (unless b r None) ≡ true → b ≡ true
holds_rule true r e = refl
holds_rule false r e = absurd (cc e)

block_row : (own : Sort) (sp : Span) (ts : Forest) (i : Spot) (after : List Shape) → fits (pieces (form.Stmt stmt.Block)) ts ≡ true → pure ts ≡ true → valid ts ≡ true → is_nothing (among_rules (form.Stmt stmt.Block) ts) ≡ true → IsCalm (the_tree (form.Stmt stmt.Block) sp ts) i.state
    → RowReady own (form.Stmt stmt.Block) Usual (pieces (form.Stmt stmt.Block)) ts i after (λ j. Calms (the_tree (form.Stmt stmt.Block) sp ts) i.state j.state)
block_row own sp empty i after t p v q h = absurd (cc t)
block_row own sp (tree g gp es (tree k kp vs rest)) i after t p v q h = absurd (never _ t)
block_row own sp (tree g gp es empty) i after t p v q h =
    let y = left_of (is_list_of (Spliced None 0) s.BlockItem g es) true t in
    let n = list_form g (left_of (is_plain g) (pure es) (left_of (is_plain g && pure es) true p)) (left_of (stands g s.List) (elements (Spliced None 0) s.BlockItem es) y) in
    let d = parts_of g gp es empty p v in
    let u : State = happens event.Enter i.state in
    let e : settled (((asks naming.Nothing es ++ []) ++ []) ++ (Leave ∷ [])) (frames u.entries) ≡ Scoped h.1.0 = subst (λ g. settled ((events_of naming.Nothing (the_tree g gp es) ++ []) ++ (Leave ∷ [])) (frames u.entries) ≡ Scoped h.1.0) n h.1.1 in
    let H : Here u (asks naming.Nothing es ++ (Leave ∷ [])) h.1.0 i.state.aside = record { free = h.0; holds = ap (λ l. settled (l ++ (Leave ∷ [])) (frames u.entries)) (sym (append_nil (asks naming.Nothing es ++ []) ∙ append_nil (asks naming.Nothing es))) ∙ e; aside = refl } in (
      refl,
      as_elements es (turned (happens event.Enter) (step i)) _ _ (items_ready es (turned (happens event.Enter) (step i)) _ false (Edge i.state.is_late ∷ i.state.entries) (Leave ∷ []) h.1.0 i.state.aside _ d.0 d.1
          (stand_by true s.BlockItem es d.0 (list_stand (Spliced None 0) s.BlockItem es (right_of (stands g s.List) (elements (Spliced None 0) s.BlockItem es) y))) (holds_rule (ordered false es) _ q) (λ _. refl) refl H (grown_none (Edge i.state.is_late ∷ i.state.entries))
          (λ j G X. let o = around i.state.is_late i.state.entries j.state.entries X in
          (refl, (record { scoped = h.1.1 ∙ ap Scoped (sym (one_end (left (frames j.state.entries)) h.1.0 G.holds) ∙ o.1 ∙ ap frames (sym o.0)); aside = G.aside }, G.free)))),
    )

pub stmt_ready : (own : Sort) (f : StmtForm) (sp : Span) (ts : Forest) (i : Spot) (after : List Shape) → fits (pieces (form.Stmt f)) ts ≡ true → pure ts ≡ true → valid ts ≡ true → is_nothing (among_rules (form.Stmt f) ts) ≡ true
    → (ends_open (the_tree (form.Stmt f) sp ts) ≡ true → begins_else after ≡ false) → IsCalm (the_tree (form.Stmt f) sp ts) i.state → RowReady own (form.Stmt f) Usual (pieces (form.Stmt f)) ts i after (λ j. Calms (the_tree (form.Stmt f) sp ts) i.state j.state)
stmt_ready own stmt.Block sp ts i after t p v q l h = block_row own sp ts i after t p v q h
stmt_ready own stmt.Do sp ts i after t p v q l h = do_row own sp ts i after t h
stmt_ready own stmt.If sp ts i after t p v q l h = if_row own sp ts i after t p q l h
stmt_ready own stmt.Label sp ts i after t p v q l h = calm_node true own (form.Stmt stmt.Label) sp ts i after refl t p (λ e. absurd (cc e)) (λ b. closed ts after l) refl h
stmt_ready own stmt.Case sp ts i after t p v q l h = calm_node true own (form.Stmt stmt.Case) sp ts i after refl t p (λ e. absurd (cc e)) (λ b. closed ts after l) refl h
stmt_ready own stmt.Default sp ts i after t p v q l h = calm_node true own (form.Stmt stmt.Default) sp ts i after refl t p (λ e. absurd (cc e)) (λ b. closed ts after l) refl h
stmt_ready own stmt.Switch sp ts i after t p v q l h = calm_node true own (form.Stmt stmt.Switch) sp ts i after refl t p (λ e. absurd (cc e)) (λ b. closed ts after l) refl h
stmt_ready own stmt.While sp ts i after t p v q l h = calm_node true own (form.Stmt stmt.While) sp ts i after refl t p (λ e. absurd (cc e)) (λ b. closed ts after l) refl h
stmt_ready own stmt.For sp ts i after t p v q l h = calm_node true own (form.Stmt stmt.For) sp ts i after refl t p (λ e. absurd (cc e)) (λ b. closed ts after l) refl h
stmt_ready own f sp ts i after t p v q l h = calm_node false own (form.Stmt f) sp ts i after refl t p (λ e. absurd (cc e)) (λ b. absurd (cc b)) refl h
