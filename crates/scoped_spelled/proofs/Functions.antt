-- Function definitions are ready where their events hold.
use Rattle.std.proofs.Common.{◌≡◌, refl, ap, sym, subst, ◌∙◌, ℕ, Bool, true, false, not, ◌&&◌, ◌||◌, if◌then◌else◌, List, [], ◌∷◌, ◌++◌, append_assoc, Option, Some, None}
use Rattle.c_tokens.specs.declared.span.Span.{Span}
use Rattle.c_tokens.specs.declared.token.Shape.{Shape}
use Rattle.c_tokens.specs.declared.token.Punct.TheVariants as punct
use Rattle.c_forms.specs.declared.pieces.Event.TheVariants as event
use Rattle.c_forms.specs.declared.pieces.Repetition.TheVariants.{Any, Many}
use Rattle.c_forms.specs.declared.pieces.Sort.{Sort}
use Rattle.c_forms.specs.declared.pieces.Sort.TheVariants as s
use Rattle.c_forms.specs.declared.forms.Form.{Form}
use Rattle.c_forms.specs.declared.forms.Form.TheVariants as form
use Rattle.c_forms.specs.declared.forms.ExpForm.TheVariants as exp
use Rattle.c_forms.specs.declared.forms.SpecForm.TheVariants as spec
use Rattle.c_forms.specs.declared.forms.StmtForm.TheVariants as stmt
use Rattle.c_forms.specs.declared.forms.ItemForm.TheVariants as item
use Rattle.c_forms.specs.declared.forms.TemplateForm.TheVariants as template
use Rattle.c_forms.specs.declared.forms.DeclaratorForm.{DeclaratorForm}
use Rattle.c_forms.specs.declared.forms.GroupForm.TheVariants as group
use Rattle.c_forms.specs.Forests.{Plain, Forest, empty, tree}
use Rattle.c_forms.specs.Fits.{fits, is_list_of, all_stand}
use Rattle.c_forms.specs.Measures.{is_plain, pieces}
use Rattle.c_forms.specs.Places.{stands}
use Rattle.c_forms.specs.Rules.{is_none, is_right, are_specifiers, is_nothing, among_rules}
use Rattle.c_forms.specs.Sets.{starts}
use Rattle.c_reader.specs.States.{Entry, Edge, AsType, AsValue, State, Kept, nothing_kept, is_type, happens, outside, parameters}
use Rattle.c_reader.specs.States as States
use Rattle.c_reader.specs.Tokens.{Spot, turned}
use Rattle.c_syntax.specs.Reading.{Usual}
use Rattle.c_syntax.specs.Spells.{started_by, has_no_specifiers}
use Rattle.c_trees.specs.Counts.{pure}
use Rattle.c_trees.specs.Valid.{valid}
use Rattle.c_layout.specs.Spelled.{tokens, all_spelled, wholes, separated}
use Rattle.scope_tables.specs.declared.table.WordClass.TheVariants.{TypeName, Value}
use Rattle.scope_tables.specs.Frames.{Frame, left}
use Rattle.scope_meanings.specs.declared.meaning.NameUse.TheVariants as naming
use Rattle.scope_meanings.specs.declared.meaning.Name.{Name}
use Rattle.scope_meanings.specs.Meanings.{has_type, or_next}
use Rattle.scopes.specs.declared.event.Event.{Event}
use Rattle.scopes.specs.declared.event.Event.TheVariants.{Leave, Declare}
use Rattle.scopes.specs.Events.{events_of, checked, declared, scope, beside_at, beside_name, words}
use Rattle.scopes.specs.Settling.{Scoped, settled}
use Rattle.spelled_scopes.specs.Meant.{frames, after_words}
use Rattle.spelled_scopes.proofs.Frames.{some_frame, left_declared, words_left}
use Rattle.spelled_scopes.proofs.Words.{only_beside}
use Rattle.spelled_trees.specs.Told.{is_named, is_function, is_bare_name}
use Rattle.spelled_trees.proofs.Parts.{both, left_of, right_of}
use Rattle.ready_rows.proofs.Ready.{the_tree, placed, IsOff}
use Rattle.ready_rows.proofs.Standing.{number_or, asks, Holds, IsCalm, Calms, Nears, IsValue, name_of}
use Rattle.ready_rows.proofs.Steps.{split_at, earlier, later, append_nil, one_end}
use Rattle.ready_rows.proofs.Calm.{RowReady, calm_one, calm_elements, part}
use Rattle.ready_expressions.proofs.Expressions.{never, never_two}
use Rattle.ready_expressions.proofs.Heads.{parts_of, Good, first_good, placed_head}
use Rattle.ready_expressions.proofs.Statements.{holds_rule}
use Rattle.ready_expressions.proofs.Declarators.{declarator_form, head_plain, or_none, next_none}
use Rattle.scoped_spelled.proofs.Specifiers.{a_list, allows_all, Allows, specs_ready}
use Rattle.scoped_spelled.proofs.Uses.{by_declarator, by_checked}
use Rattle.scoped_spelled.proofs.Declarations.{sign_off, word_off, two_rules}
use Rattle.scoped_spelled.proofs.Members.{name_there}
use Rattle.scoped_spelled.proofs.Words.{Tells, are_inner, inner_forms, parts_tell}

-- ---- where specifiers end

-- nothing goes on with specifiers at a declarator with a name that is a value
abbrev Begins : State → Form → Span → Forest → Type 0
Begins u f sp ps = is_named (the_tree f sp ps) ≡ true → IsValue u (name_of (the_tree f sp ps)) → (xs : List Shape) → IsOff (starts s.Spec) u (tokens (the_tree f sp ps) ++ xs)

inner_begins : (u : State) (g : Form) (gp : Span) (qs : Forest) (more : List Shape) → Begins u g gp qs → (is_named (the_tree g gp qs) || false) ≡ true → IsValue u (or_next (name_of (the_tree g gp qs)) None) → (xs : List Shape) → IsOff (starts s.Spec) u ((placed 2 (the_tree g gp qs) ++ more) ++ xs)
inner_begins u g gp qs more h z v xs = let G : Plain = the_tree g gp qs in
    subst (IsOff (starts s.Spec) u) (sym (append_assoc (placed 2 G) more xs))
    (placed_head (IsOff (starts s.Spec) u) 2 G (more ++ xs) (λ ys. sign_off s.Spec punct.LeftParen u ys refl) (h (sym (or_none (is_named G)) ∙ z) (λ name e. v name (next_none (name_of G) ∙ e)) (more ++ xs)))

named_off : (u : State) (least : ℕ) (f : Form) (sp : Span) (ps : Forest) (xs : List Shape) → Good s.Declarator (the_tree f sp ps) → is_named (the_tree f sp ps) ≡ true → IsValue u (name_of (the_tree f sp ps)) → IsOff (starts s.Spec) u (placed least (the_tree f sp ps) ++ xs)
named_off u least f sp ps xs n z v = placed_head (IsOff (starts s.Spec) u) least (the_tree f sp ps) xs (λ ys. sign_off s.Spec punct.LeftParen u ys refl)
    (by_declarator (Begins u) (λ sp w gp qs z v xs. word_off s.Spec w u xs refl (v (record { word = w; span = gp }) refl)) (λ sp z. absurd (cc z))
    (λ sp kp es g gp qs p w e h z v xs. sign_off s.Spec punct.Star u [] refl)
    (λ sp g gp qs kp es p e h z v xs. inner_begins u g gp qs _ h z v xs)
    (λ sp g gp qs x fp ps h z v xs. inner_begins u g gp qs _ h z v xs) f sp ps n z v xs)

-- ---- names

-- where specifiers hold no type, a name that is checked is a value
value_unless : (b : Bool) (n : Option Name) (es : List Event) (en : List Entry) (gs : List Frame) → settled ((if b then [] else checked n) ++ es) (frames en) ≡ Scoped gs → (settled es (frames en) ≡ Scoped gs) × ((name : Name) → n ≡ Some name → (not b && is_type en name.word.0) ≡ false)
value_unless true n es en gs h = (h, λ name e. refl)
value_unless false n es en gs h = by_checked n es en gs h

-- ---- scopes

-- what is left of some entries
left_outside : (es : List Entry) (f : Frame) (fs : List Frame) → left (frames es) ≡ f ∷ fs → frames (outside es) ≡ f ∷ fs
left_outside [] f fs e = absurd (cc e)
left_outside (Edge late ∷ es) f fs e = e
left_outside (AsType n ∷ es) f fs e = left_outside es f fs (sym (left_declared n TypeName (frames es)) ∙ e)
left_outside (AsValue n ∷ es) f fs e = left_outside es f fs (sym (left_declared n Value (frames es)) ∙ e)

-- a scope that is left leads back to what was around it
left_again : (es ws : List Event) (fs gs : List Frame) (en : List Entry) → Tells es ws → settled (es ++ Leave ∷ []) (frames en) ≡ Scoped gs → left (frames en) ≡ fs → gs ≡ fs
left_again es ws fs gs en t h e =
    let f = some_frame en in
    let c = split_at es (Leave ∷ []) (frames en) gs h in
    let r = t f.0 f.1.0 c.0 (ap (settled es) (sym f.1.1) ∙ c.1.0) in
    one_end gs (left c.0) (sym c.1.1) ∙ ap left r.1.0 ∙ sym (ap left f.1.1) ∙ e

-- ---- definitions

-- where a definition begins, no declarator is begun
record Started (u m : State) : Type 0 where
  entries : m.entries ≡ u.entries
  aside : m.aside ≡ u.aside
  untyped : m.kept.has_type ≡ false
  unsettled : m.kept.is_sole ≡ false

started : (b : Bool) (i : Spot) → i.state.kept ≡ nothing_kept → Started i.state (started_by b i).state
started true i e = record { entries = refl; aside = refl; untyped = ap (λ (k : Kept). k.has_type) e; unsettled = ap (λ (k : Kept). k.is_sole) e }
started false i e = record { entries = refl; aside = refl; untyped = ap (λ (k : Kept). k.has_type) e; unsettled = ap (λ (k : Kept). k.is_sole) e }

module _ (sp lp : Span) (ss : Forest) (d : DeclaratorForm) (gp : Span) (qs : Forest) (kp : Span) (ds : Forest) (bp : Span) (vs : Forest) where
  abbrev the_declarator : Plain
  the_declarator = the_tree (form.Declarator d) gp qs

  abbrev the_block : Plain
  the_block = the_tree (form.Stmt stmt.Block) bp vs

  abbrev its_others : Forest
  its_others = tree (form.Group group.List) kp ds (tree (form.Stmt stmt.Block) bp vs empty)

  abbrev its_parts : Forest
  its_parts = tree (form.Group group.List) lp ss (tree (form.Declarator d) gp qs its_others)

  abbrev a_definition : Plain
  a_definition = the_tree (form.Item item.Function) sp its_parts

  -- the words that its body begins with
  abbrev its_words : List Event
  its_words = beside_at (form.Declarator d) qs (beside_name qs)

  -- what comes after its declarator
  abbrev its_body : Name → List Event
  its_body n = Declare n.word Value ∷ scope (its_words ++ asks naming.Nothing its_others)

  its_events : (n : Name) → name_of the_declarator ≡ Some n
      → events_of naming.Nothing a_definition ≡ (asks naming.Nothing ss ++ ((if has_type ss then [] else checked (Some n)) ++ (events_of naming.Nothing the_declarator ++ its_body n)))
  its_events n e =
      let os : List Event = asks naming.Nothing its_others in
      let es : List Event = events_of naming.Nothing the_declarator in
      let x = name_of the_declarator in
      ap (λ l. l ++ ((if has_type ss then [] else checked (or_next x None)) ++ (es ++ (declared Value (or_next x None) ++ scope ((its_words ++ []) ++ os))))) (append_nil (asks naming.Nothing ss))
      ∙ ap (λ x. asks naming.Nothing ss ++ ((if has_type ss then [] else checked x) ++ (es ++ (declared Value x ++ scope ((its_words ++ []) ++ os))))) (next_none x ∙ e)
      ∙ ap (λ l. asks naming.Nothing ss ++ ((if has_type ss then [] else checked (Some n)) ++ (es ++ (Declare n.word Value ∷ scope (l ++ os))))) (append_nil its_words)

  -- the scope of the body
  abbrev opened : State → State
  opened m = happens event.Open m

  abbrev around : State → List Entry
  around m = States.declared AsValue m.kept.name m.entries

  -- in the scope of the body, after the words of the parameters
  body_holds : (n : Name) (m : State) (gs : List Frame) → Nears the_declarator m.kept.near → m.kept.name ≡ Some n.word.0 → settled (its_body n) (frames m.entries) ≡ Scoped gs → settled (asks naming.Nothing its_others ++ Leave ∷ []) (frames (opened m).entries) ≡ Scoped gs
  body_holds n m gs N e h =
      let os : List Event = asks naming.Nothing its_others in
      later its_words (os ++ Leave ∷ []) (frames (Edge m.is_late ∷ around m)) (frames (opened m).entries) gs (N.words (Edge m.is_late ∷ around m))
      (ap (λ x. settled (its_words ++ (os ++ Leave ∷ [])) (frames (Edge m.is_late ∷ States.declared AsValue x m.entries))) e
      ∙ ap (λ l. settled l (frames (Edge m.is_late ∷ (AsValue n.word.0 ∷ m.entries)))) (sym (append_assoc its_words os (Leave ∷ []))) ∙ h)

  -- what lies around it
  body_around : (m : State) → Nears the_declarator m.kept.near → left (frames (opened m).entries) ≡ frames (around m)
  body_around m N = let es : List Entry = Edge m.is_late ∷ around m in
      ap left (one_end (frames (opened m).entries) (frames (after_words (its_words ++ []) es)) (sym (N.words es) ∙ ap (λ l. settled l (frames es)) (sym (append_nil its_words)) ∙ only_beside (tree (form.Declarator d) gp qs empty) es))
      ∙ words_left (its_words ++ []) es

  -- after the body
  body_left : (m z : State) (gs : List Frame) → pure its_others ≡ true → valid its_others ≡ true → all_stand s.Decl ds ≡ true → Nears the_declarator m.kept.near
      → settled (asks naming.Nothing its_others ++ Leave ∷ []) (frames (opened m).entries) ≡ Scoped gs → settled (Leave ∷ []) (frames z.entries) ≡ Scoped gs → frames (outside z.entries) ≡ gs
  body_left m z gs p v e N h k =
      let o = parts_of (form.Group group.List) kp ds (tree (form.Stmt stmt.Block) bp vs empty) p v in
      let t = parts_tell naming.Nothing its_others (both (are_inner ds) true (inner_forms s.Decl ds refl o.0 e) refl) p v in
      let f = some_frame (around m) in
      let x : gs ≡ f.0 ∷ f.1.0 = left_again (asks naming.Nothing its_others) (words naming.Nothing its_others) (frames (around m)) gs (opened m).entries t h (body_around m N) ∙ f.1.1 in
      left_outside z.entries f.0 f.1.0 (one_end (left (frames z.entries)) gs k ∙ x) ∙ sym x

  function_row : (own : Sort) (i m : Spot) (after : List Shape) → pure ss ≡ true → all_stand s.Spec ss ≡ true → Good s.Declarator the_declarator → pure its_others ≡ true → valid its_others ≡ true → all_stand s.Decl ds ≡ true
      → is_nothing (among_rules (form.Item item.Function) its_parts) ≡ true → Started i.state m.state → Holds (events_of naming.Nothing a_definition) i.state
      → RowReady own (form.Item item.Function) Usual (pieces (form.Item item.Function)) its_parts m after (λ j. Calms a_definition i.state j.state)
  function_row own i m after p a n op ov oe q B h =
      let gs = h.0 in
      let r = two_rules (are_specifiers ss) _ _ q in
      let r' = two_rules (is_named the_declarator || false) _ _ r.1 in
      let z : is_named the_declarator ≡ true = sym (or_none (is_named the_declarator)) ∙ r'.0 in
      let y : is_function the_declarator ≡ true = sym (or_none (is_function the_declarator)) ∙ holds_rule (is_function the_declarator || false) _ r'.1 in
      let o = name_there (form.Declarator d) gp qs n z in
      let es : List Event = events_of naming.Nothing the_declarator in
      let body : List Event = its_body o.0 in
      let check : List Event = if has_type ss then [] else checked (Some o.0) in
      let H : settled (asks naming.Nothing ss ++ (check ++ (es ++ body))) (frames m.state.entries) ≡ Scoped gs = ap (λ en. settled (asks naming.Nothing ss ++ (check ++ (es ++ body))) (frames en)) B.entries ∙ ap (λ l. settled l (frames i.state.entries)) (sym (its_events o.0 o.1)) ∙ h.1 in
      let w = parts_of (form.Group group.List) kp ds (tree (form.Stmt stmt.Block) bp vs empty) op ov in
      let EB : List Event = events_of naming.Nothing the_block in
      specs_ready s.Spec ss m _ (check ++ (es ++ body)) gs _ refl (subst (λ t. Allows t m.state.kept.is_sole ss) (sym B.untyped) (subst (λ b. Allows false b ss) (sym B.unsettled) (allows_all ss r.0))) H (λ j S.
      let typed : j.state.kept.has_type ≡ has_type ss = S.typed ∙ ap (λ b. b || has_type ss) B.untyped in
      let V = value_unless (has_type ss) (Some o.0) (es ++ body) j.state.entries gs S.holds in
      let value : IsValue j.state (name_of the_declarator) = λ name e. ap (λ b. not b && is_type j.state.entries name.word.0) typed ∙ V.1 name (sym o.1 ∙ e) in (
        subst (IsOff (starts s.Spec) j.state) (sym (append_assoc (placed 1 the_declarator) (separated [] 0 (wholes (all_spelled ds)) ++ (placed 0 the_block ++ [])) after)) (named_off j.state 1 (form.Declarator d) gp qs _ n z value),
        part own s.Declarator the_declarator j _ _ refl (
          (record { holds = earlier es body j.state (gs, V.0); value = value; function = λ e. ap (λ b. b || is_bare_name the_declarator) y }, z),
          (
            tt,
            λ k D.
                let N = D.made in
                let M = N.near z in
                let x : k.state.kept.name ≡ Some o.0.word.0 = N.name ∙ ap (λ n. number_or n j.state.kept.name) o.1 in
                let G = body_holds o.0 k.state gs M x (later es body (frames j.state.entries) (frames k.state.entries) gs N.ran.scoped V.0) in
                let e : (asks naming.Nothing its_others ++ Leave ∷ []) ≡ (asks naming.Nothing ds ++ (EB ++ Leave ∷ [])) =
                ap (λ l. (l ++ (EB ++ [])) ++ Leave ∷ []) (append_nil (asks naming.Nothing ds)) ∙ append_assoc (asks naming.Nothing ds) (EB ++ []) (Leave ∷ []) ∙ ap (λ l. asks naming.Nothing ds ++ (l ++ Leave ∷ [])) (append_nil EB) in (
                  M.function ∙ y,
                  calm_elements s.Decl 0 None ds (turned (happens event.Open) k) _ (EB ++ Leave ∷ []) gs k.state.aside _ refl w.0 oe (record { free = refl; holds = ap (λ l. settled l (frames (opened k.state).entries)) (sym e) ∙ G; aside = refl })
                      (λ l L. part own s.Block the_block l after _ refl
                      (calm_one s.Block (form.Stmt stmt.Block) bp vs l after (Leave ∷ []) gs k.state.aside _ refl refl refl L
                      (λ u U. (refl, (record { scoped = h.1 ∙ ap Scoped (sym (body_left k.state u.state gs op ov oe M G U.holds)); aside = U.aside ∙ N.ran.aside ∙ S.aside ∙ B.aside }, refl))))),
                ),
          ),
        ),
      ))

-- ---- each part

block_form : (f : Form) → is_plain f ≡ true → stands f s.Block ≡ true → f ≡ form.Stmt stmt.Block
block_form (form.Stmt stmt.Block) p e = refl
block_form (form.Stmt f) p e = absurd (cc e)
block_form (form.Hole h) p e = absurd (cc p)
block_form (form.Call n gives tail) p e = absurd (cc p)
block_form (form.Exp (exp.Int w)) p e = absurd (cc e)
block_form (form.Spec (spec.Storage c)) p e = absurd (cc e)
block_form (form.Spec (spec.Qualifier q)) p e = absurd (cc e)
block_form (form.Template (template.Many k)) p e = absurd (cc e)
block_form (form.Group group.List) p e = absurd (cc e)
block_form f p e = absurd (cc e)

abbrev FunctionRow : Sort → Span → Forest → Spot → Spot → List Shape → Type 0
FunctionRow own sp ts i m after = Holds (events_of naming.Nothing (the_tree (form.Item item.Function) sp ts)) i.state
    → RowReady own (form.Item item.Function) Usual (pieces (form.Item item.Function)) ts m after (λ j. Calms (the_tree (form.Item item.Function) sp ts) i.state j.state)

never_three : (a b c : Bool) → (a && (b && (c && false))) ≡ true → ⊥
never_three a b c e = never c (right_of b (c && false) (right_of a (b && (c && false)) e))

never_four : (a b c d : Bool) → (a && (b && (c && (d && false)))) ≡ true → ⊥
never_four a b c d e = never_three b c d (right_of a (b && (c && (d && false))) e)

pub function_ready : (own : Sort) (sp : Span) (ts : Forest) (i : Spot) (after : List Shape) → fits (pieces (form.Item item.Function)) ts ≡ true → pure ts ≡ true → valid ts ≡ true → is_nothing (among_rules (form.Item item.Function) ts) ≡ true
    → IsCalm (the_tree (form.Item item.Function) sp ts) i.state
    → RowReady own (form.Item item.Function) Usual (pieces (form.Item item.Function)) ts (started_by (has_no_specifiers (the_tree (form.Item item.Function) sp ts)) i) after (λ j. Calms (the_tree (form.Item item.Function) sp ts) i.state j.state)
function_ready own sp empty i after t p v q h = absurd (cc t)
function_ready own sp (tree f fp ss empty) i after t p v q h = absurd (never _ t)
function_ready own sp (tree f fp ss (tree g gp qs empty)) i after t p v q h = absurd (never_two _ _ t)
function_ready own sp (tree f fp ss (tree g gp qs (tree k kp ds empty))) i after t p v q h = absurd (never_three (is_list_of Any s.Spec f ss) (stands g s.Declarator) (is_list_of (Many None 0) s.Decl k ds) t)
function_ready own sp (tree f fp ss (tree g gp qs (tree k kp ds (tree b bp vs (tree l lp es rest))))) i after t p v q h = absurd (never_four (is_list_of Any s.Spec f ss) (stands g s.Declarator) (is_list_of (Many None 0) s.Decl k ds) (stands b s.Block) t)
function_ready own sp (tree f fp ss (tree g gp qs (tree k kp ds (tree b bp vs empty)))) i after t p v q h =
    let m = started_by (is_none ss) i in
    let block : Forest = tree b bp vs empty in
    let others : Forest = tree k kp ds block in
    let rest : Forest = tree g gp qs others in
    let a = a_list Any s.Spec f fp ss rest (left_of (is_list_of Any s.Spec f ss) _ t) p in
    let t' = right_of (is_list_of Any s.Spec f ss) _ t in
    let p' = right_of (is_plain f && pure ss) (pure rest) p in
    let v' = right_of (is_right f ss && valid ss) (valid rest) v in
    let n = first_good s.Declarator g gp qs others p' v' (left_of (stands g s.Declarator) _ t') in
    let o = declarator_form g n.is_plain n.stands in
    let u = right_of (stands g s.Declarator) _ t' in
    let op = right_of (is_plain g && pure qs) (pure others) p' in
    let ov = right_of (is_right g qs && valid qs) (valid others) v' in
    let c = a_list (Many None 0) s.Decl k kp ds block (left_of (is_list_of (Many None 0) s.Decl k ds) _ u) op in
    let e = block_form b (head_plain b bp vs empty (right_of (is_plain k && pure ds) (pure block) op)) (left_of (stands b s.Block) true (right_of (is_list_of (Many None 0) s.Decl k ds) _ u)) in
    subst (λ f. is_nothing (among_rules (form.Item item.Function) (tree f fp ss rest)) ≡ true → FunctionRow own sp (tree f fp ss rest) i m after) (sym a.0)
    (subst (λ g. Good s.Declarator (the_tree g gp qs) → is_nothing (among_rules (form.Item item.Function) (tree (form.Group group.List) fp ss (tree g gp qs others))) ≡ true → FunctionRow own sp (tree (form.Group group.List) fp ss (tree g gp qs others)) i m after) (sym o.1)
    (λ n. subst (λ k. pure (tree k kp ds block) ≡ true → valid (tree k kp ds block) ≡ true → is_nothing (among_rules (form.Item item.Function) (tree (form.Group group.List) fp ss (tree (form.Declarator o.0) gp qs (tree k kp ds block)))) ≡ true
    → FunctionRow own sp (tree (form.Group group.List) fp ss (tree (form.Declarator o.0) gp qs (tree k kp ds block))) i m after) (sym c.0)
    (subst (λ b. pure (tree (form.Group group.List) kp ds (tree b bp vs empty)) ≡ true → valid (tree (form.Group group.List) kp ds (tree b bp vs empty)) ≡ true
    → is_nothing (among_rules (form.Item item.Function) (tree (form.Group group.List) fp ss (tree (form.Declarator o.0) gp qs (tree (form.Group group.List) kp ds (tree b bp vs empty))))) ≡ true
    → FunctionRow own sp (tree (form.Group group.List) fp ss (tree (form.Declarator o.0) gp qs (tree (form.Group group.List) kp ds (tree b bp vs empty)))) i m after) (sym e)
    (λ op ov q. function_row sp fp ss o.0 gp qs kp ds bp vs own i m after a.1.0 a.1.1 n op ov c.1.1 q (started (is_none ss) i h.0))) op ov) n) q h.1
