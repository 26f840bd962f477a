-- Nothing goes on with the specifiers of a declaration where its declarators come next.
use Rattle.std.proofs.Common.{◌≡◌, refl, ap, sym, subst, ◌∙◌, Bool, true, not, ◌&&◌, ◌||◌, List, [], ◌∷◌, ◌++◌, append_assoc, Some, None}
use Rattle.c_tokens.specs.declared.span.Span.{Span}
use Rattle.c_tokens.specs.declared.token.Shape.{Shape}
use Rattle.c_tokens.specs.declared.token.Shape.TheVariants as shape
use Rattle.c_tokens.specs.declared.token.Punct.TheVariants as punct
use Rattle.c_forms.specs.declared.pieces.Repetition.TheVariants.{Optional, All, Spliced}
use Rattle.c_forms.specs.declared.pieces.Sort.TheVariants as s
use Rattle.c_forms.specs.declared.forms.Form.{Form}
use Rattle.c_forms.specs.declared.forms.Form.TheVariants as form
use Rattle.c_forms.specs.declared.forms.ExpForm.TheVariants as exp
use Rattle.c_forms.specs.declared.forms.SpecForm.TheVariants as spec
use Rattle.c_forms.specs.declared.forms.StmtForm.TheVariants as stmt
use Rattle.c_forms.specs.declared.forms.TemplateForm.TheVariants as template
use Rattle.c_forms.specs.declared.forms.GroupForm.TheVariants as group
use Rattle.c_forms.specs.Forests.{Plain, Forest, empty, tree}
use Rattle.c_forms.specs.Fits.{fits, is_list_of, all_stand}
use Rattle.c_forms.specs.Measures.{is_plain}
use Rattle.c_forms.specs.Places.{stands}
use Rattle.c_forms.specs.Sets.{starts}
use Rattle.c_reader.specs.States.{State}
use Rattle.c_trees.specs.Counts.{pure}
use Rattle.c_trees.specs.Valid.{valid}
use Rattle.c_layout.specs.Spelled.{tokens, all_spelled, wholes, separated}
use Rattle.spelled_trees.proofs.Parts.{left_of, right_of}
use Rattle.ready_rows.proofs.Ready.{the_tree, placed, others, IsOff}
use Rattle.ready_rows.proofs.Standing.{name_of, IsValue}
use Rattle.ready_expressions.proofs.Heads.{parts_of, Good, first_good, good_fits, placed_head}
use Rattle.scoped_spelled.proofs.Specifiers.{a_list}
use Rattle.scoped_spelled.proofs.Declarations.{sign_off, declarator_off}
use Rattle.c_tokens.specs.declared.class.Class.TheVariants as class
use Rattle.c_forms.specs.declared.forms.DeclaratorForm.{DeclaratorForm}
use Rattle.scope_tables.specs.declared.table.WordClass.{WordClass}
use Rattle.scope_tables.specs.Frames.{Frame, class_named}
use Rattle.scope_meanings.specs.Meanings.{checked_if}
use Rattle.scopes.specs.declared.event.Event.{Event}
use Rattle.scopes.specs.Events.{events_of, declared}
use Rattle.scopes.specs.Settling.{Scoped, settled}
use Rattle.spelled_scopes.specs.Meant.{frames}
use Rattle.ready_rows.proofs.Standing.{asks, declaring}
use Rattle.ready_rows.proofs.Steps.{append_nil}
use Rattle.ready_expressions.proofs.Expressions.{never, never_two}
use Rattle.ready_expressions.proofs.Declarators.{declarator_form}
use Rattle.scoped_spelled.proofs.Uses.{uses_name, declared_last}
use Rattle.c_forms.specs.declared.pieces.Event.TheVariants as event
use Rattle.c_forms.specs.declared.pieces.Sort.{Sort}
use Rattle.c_forms.specs.Measures.{pieces}
use Rattle.c_forms.specs.Rules.{is_right, are_specifiers, is_nothing, among_rules}
use Rattle.c_reader.specs.States.{Kept, happens}
use Rattle.c_reader.specs.Tokens.{Spot}
use Rattle.c_syntax.specs.Reading.{Usual}
use Rattle.scope_meanings.specs.declared.meaning.NameUse.{NameUse}
use Rattle.scope_meanings.specs.declared.meaning.NameUse.TheVariants as naming
use Rattle.scope_meanings.specs.Meanings.{has_type, has_typedef}
use Rattle.ready_rows.proofs.Standing.{IsCalm, Calms}
use Rattle.ready_rows.proofs.Calm.{RowReady, AreReady}
use Rattle.scoped_spelled.proofs.Specifiers.{specs_ready}
use Rattle.scoped_spelled.proofs.Uses.{all_free}
use Rattle.scoped_spelled.proofs.Members.{inits_ready}
use Rattle.scoped_spelled.proofs.Declarations.{two_rules, no_type}

initializer_form : (f : Form) → is_plain f ≡ true → stands f s.Initializer ≡ true → f ≡ form.Group group.Initializer
initializer_form (form.Group group.Initializer) p e = refl
initializer_form (form.Group g) p e = absurd (cc e)
initializer_form (form.Hole h) p e = absurd (cc p)
initializer_form (form.Call n gives tail) p e = absurd (cc p)
initializer_form (form.Exp (exp.Int w)) p e = absurd (cc e)
initializer_form (form.Spec (spec.Storage c)) p e = absurd (cc e)
initializer_form (form.Spec (spec.Qualifier q)) p e = absurd (cc e)
initializer_form (form.Stmt stmt.Block) p e = absurd (cc e)
initializer_form (form.Template (template.Many k)) p e = absurd (cc e)
initializer_form f p e = absurd (cc e)

-- an initializer begins with `=`
initializers_off : (is : Forest) (u : State) (xs : List Shape) → pure is ≡ true → all_stand s.Initializer is ≡ true → IsOff (starts s.Spec) u xs → IsOff (starts s.Spec) u ((separated [] 0 (wholes (all_spelled is)) ++ []) ++ xs)
initializers_off empty u xs p e o = o
initializers_off (tree f sp ps rest) u xs p e o =
    let c = initializer_form f (left_of (is_plain f) (pure ps) (left_of (is_plain f && pure ps) (pure rest) p)) (left_of (stands f s.Initializer) (all_stand s.Initializer rest) e) in
    let ys : List Shape = others None 0 rest in
    subst (IsOff (starts s.Spec) u) (sym (append_assoc (placed 0 (the_tree f sp ps) ++ ys) [] xs ∙ append_assoc (placed 0 (the_tree f sp ps)) ys xs))
    (placed_head (IsOff (starts s.Spec) u) 0 (the_tree f sp ps) (ys ++ xs) (λ zs. sign_off s.Spec punct.LeftParen u zs refl) (subst (λ f. IsOff (starts s.Spec) u (tokens (the_tree f sp ps) ++ (ys ++ xs))) (sym c) (sign_off s.Spec punct.Equal u [] refl)))

-- Nothing goes on with specifiers at a declarator with its initializer, and what begins with a sign.
pub init_declarator_off : (sp : Span) (g : Form) (gp : Span) (qs : Forest) (k : Form) (kp : Span) (is : Forest) (u : State) (xs : List Shape) → Good s.InitDeclarator (the_tree (form.Group group.InitDeclarator) sp (tree g gp qs (tree k kp is empty))) → IsValue u (name_of (the_tree g gp qs)) → IsOff (starts s.Spec) u xs
    → IsOff (starts s.Spec) u (placed 0 (the_tree (form.Group group.InitDeclarator) sp (tree g gp qs (tree k kp is empty))) ++ xs)
init_declarator_off sp g gp qs k kp is u xs n v o =
    let t = good_fits s.InitDeclarator _ n in
    let d = first_good s.Declarator g gp qs (tree k kp is empty) n.pure n.valid (left_of (stands g s.Declarator) _ t) in
    let a = a_list Optional s.Initializer k kp is empty (left_of (is_list_of Optional s.Initializer k is) true (right_of (stands g s.Declarator) _ t)) (right_of (is_plain g && pure qs) (pure (tree k kp is empty)) n.pure) in
    let zs : List Shape = separated [] 0 (wholes (all_spelled is)) ++ [] in
    subst (IsOff (starts s.Spec) u) (sym (append_assoc (placed 1 (the_tree g gp qs)) zs xs)) (declarator_off s.Spec u 1 g gp qs (zs ++ xs) refl d v (initializers_off is u xs a.1.0 a.1.1 o))

init_form : (f : Form) → is_plain f ≡ true → stands f s.InitDeclarator ≡ true → f ≡ form.Group group.InitDeclarator
init_form (form.Group group.InitDeclarator) p e = refl
init_form (form.Group g) p e = absurd (cc e)
init_form (form.Hole h) p e = absurd (cc p)
init_form (form.Call n gives tail) p e = absurd (cc p)
init_form (form.Exp (exp.Int w)) p e = absurd (cc e)
init_form (form.Spec (spec.Storage c)) p e = absurd (cc e)
init_form (form.Spec (spec.Qualifier q)) p e = absurd (cc e)
init_form (form.Stmt stmt.Block) p e = absurd (cc e)
init_form (form.Template (template.Many k)) p e = absurd (cc e)
init_form f p e = absurd (cc e)

-- the name of the first declarator is a value where no type is told
first_value : (sp : Span) (d : DeclaratorForm) (gp : Span) (qs : Forest) (k : Form) (kp : Span) (vs : Forest) (u : State) (more : List Event) (gs : List Frame) → Good s.Declarator (the_tree (form.Declarator d) gp qs)
    → settled (events_of (declaring u) (the_tree (form.Group group.InitDeclarator) sp (tree (form.Declarator d) gp qs (tree k kp vs empty))) ++ more) (frames u.entries) ≡ Scoped gs → IsValue u (name_of (the_tree (form.Declarator d) gp qs))
first_value sp d gp qs k kp vs u more gs n h =
    let D : Plain = the_tree (form.Declarator d) gp qs in
    let w : WordClass = class_named u.kept.is_typedef in
    let b : Bool = not u.kept.has_type in
    let X : List Event = events_of (declaring u) (the_tree k kp vs) ++ [] in
    let x : (((events_of (declaring u) D ++ X) ++ []) ++ more) ≡ (events_of (checked_if b) D ++ (declared w (name_of D) ++ (X ++ more))) =
    ap (λ l. l ++ more) (append_nil (events_of (declaring u) D ++ X)) ∙ append_assoc (events_of (declaring u) D) X more ∙ ap (λ l. l ++ (X ++ more)) (declared_last w b d gp qs) ∙ append_assoc (events_of (checked_if b) D) (declared w (name_of D)) (X ++ more) in
    (uses_name (form.Declarator d) gp qs u (declared w (name_of D) ++ (X ++ more)) gs n (ap (λ l. settled l (frames u.entries)) (sym x) ∙ h)).1

first_off : (sp : Span) (ps : Forest) (u : State) (more : List Event) (gs : List Frame) (xs : List Shape) → Good s.InitDeclarator (the_tree (form.Group group.InitDeclarator) sp ps)
    → settled (events_of (declaring u) (the_tree (form.Group group.InitDeclarator) sp ps) ++ more) (frames u.entries) ≡ Scoped gs → IsOff (starts s.Spec) u xs → IsOff (starts s.Spec) u (placed 0 (the_tree (form.Group group.InitDeclarator) sp ps) ++ xs)
first_off sp empty u more gs xs n h o = absurd (cc (good_fits s.InitDeclarator _ n))
first_off sp (tree g gp qs empty) u more gs xs n h o = absurd (never _ (good_fits s.InitDeclarator _ n))
first_off sp (tree g gp qs (tree k kp vs (tree l lp es rest))) u more gs xs n h o = absurd (never_two (stands g s.Declarator) (is_list_of Optional s.Initializer k vs) (good_fits s.InitDeclarator _ n))
first_off sp (tree g gp qs (tree k kp vs empty)) u more gs xs n h o =
    let d = first_good s.Declarator g gp qs (tree k kp vs empty) n.pure n.valid (left_of (stands g s.Declarator) _ (good_fits s.InitDeclarator _ n)) in
    let e = declarator_form g d.is_plain d.stands in
    init_declarator_off sp g gp qs k kp vs u xs n (subst (λ g. Good s.Declarator (the_tree g gp qs) → settled (events_of (declaring u) (the_tree (form.Group group.InitDeclarator) sp (tree g gp qs (tree k kp vs empty))) ++ more) (frames u.entries) ≡ Scoped gs → IsValue u (name_of (the_tree g gp qs))) (sym e.1)
    (λ d h. first_value sp e.0 gp qs k kp vs u more gs d h) d h) o

-- Nothing goes on with the specifiers of a declaration where its declarators come next, or none.
pub declarators_off : (es : Forest) (u : State) (more : List Event) (gs : List Frame) (xs : List Shape) → pure es ≡ true → valid es ≡ true → all_stand s.InitDeclarator es ≡ true → settled (asks (declaring u) es ++ more) (frames u.entries) ≡ Scoped gs
    → IsOff (starts s.Spec) u (separated (shape.Punct punct.Comma ∷ []) 0 (wholes (all_spelled es)) ++ (shape.Punct punct.Semicolon ∷ xs))
declarators_off empty u more gs xs p v e h = sign_off s.Spec punct.Semicolon u xs refl
declarators_off (tree f sp ps rest) u more gs xs p v e h =
    let n = first_good s.InitDeclarator f sp ps rest p v (left_of (stands f s.InitDeclarator) (all_stand s.InitDeclarator rest) e) in
    let c = init_form f n.is_plain n.stands in
    let ys : List Shape = others (Some (class.Punct punct.Comma)) 0 rest in
    let H : settled (events_of (declaring u) (the_tree f sp ps) ++ (asks (declaring u) rest ++ more)) (frames u.entries) ≡ Scoped gs = ap (λ l. settled l (frames u.entries)) (sym (append_assoc (events_of (declaring u) (the_tree f sp ps)) (asks (declaring u) rest) more)) ∙ h in
    subst (IsOff (starts s.Spec) u) (sym (append_assoc (placed 0 (the_tree f sp ps)) ys (shape.Punct punct.Semicolon ∷ xs)))
    (subst (λ f. Good s.InitDeclarator (the_tree f sp ps) → settled (events_of (declaring u) (the_tree f sp ps) ++ (asks (declaring u) rest ++ more)) (frames u.entries) ≡ Scoped gs → IsOff (starts s.Spec) u (placed 0 (the_tree f sp ps) ++ (ys ++ (shape.Punct punct.Semicolon ∷ xs)))) (sym c)
    (λ n H. first_off sp ps u (asks (declaring u) rest ++ more) gs (ys ++ (shape.Punct punct.Semicolon ∷ xs)) n H (next_off rest u xs)) n H)
  where
    next_off : (rest : Forest) (u : State) (xs : List Shape) → IsOff (starts s.Spec) u (others (Some (class.Punct punct.Comma)) 0 rest ++ (shape.Punct punct.Semicolon ∷ xs))
    next_off empty u xs = sign_off s.Spec punct.Semicolon u [] refl
    next_off (tree f sp ps rest) u xs = sign_off s.Spec punct.Comma u [] refl

-- ---- declarations

decl_row : (own : Sort) (sp lp : Span) (ss : Forest) (mp : Span) (es : Forest) (i : Spot) (after : List Shape) → pure ss ≡ true → all_stand s.Spec ss ≡ true → pure es ≡ true → valid es ≡ true → all_stand s.InitDeclarator es ≡ true
    → is_nothing (among_rules form.Decl (tree (form.Group group.List) lp ss (tree (form.Group group.List) mp es empty))) ≡ true → IsCalm (the_tree form.Decl sp (tree (form.Group group.List) lp ss (tree (form.Group group.List) mp es empty))) i.state
    → RowReady own form.Decl Usual (pieces form.Decl) (tree (form.Group group.List) lp ss (tree (form.Group group.List) mp es empty)) i after (λ j. Calms (the_tree form.Decl sp (tree (form.Group group.List) lp ss (tree (form.Group group.List) mp es empty))) i.state j.state)
decl_row own sp lp ss mp es i after p a o v b q h =
    let T : Plain = the_tree form.Decl sp (tree (form.Group group.List) lp ss (tree (form.Group group.List) mp es empty)) in
    let U : NameUse = naming.Declared (class_named (has_typedef ss)) (not (has_type ss)) in
    let gs = h.1.0 in
    let r = two_rules (are_specifiers ss) _ _ q in
    let x : (((asks U ss ++ []) ++ ((asks U es ++ []) ++ [])) ++ []) ≡ (asks naming.Nothing ss ++ (asks U es ++ [])) =
    append_nil _ ∙ ap (λ l. l ++ ((asks U es ++ []) ++ [])) (append_nil _ ∙ all_free U s.Spec ss refl p a) ∙ ap (λ l. asks naming.Nothing ss ++ l) (append_nil _) in
    let H : settled (asks naming.Nothing ss ++ (asks U es ++ [])) (frames i.state.entries) ≡ Scoped gs = ap (λ l. settled l (frames i.state.entries)) (sym x) ∙ h.1.1 in
    let front : List Shape = separated (shape.Punct punct.Comma ∷ []) 0 (wholes (all_spelled es)) in
    let L : Spot → Type 0 = λ m. (true ≡ true) × Calms T i.state (happens event.Begin m.state) in
    let K : Spot → Type 0 = λ j. IsOff (starts s.Spec) j.state ((front ++ (shape.Punct punct.Semicolon ∷ [])) ++ after) × AreReady s.InitDeclarator 0 (Some (class.Punct punct.Comma)) es j (shape.Punct punct.Semicolon ∷ after) L in
    specs_ready s.Spec ss i ((front ++ (shape.Punct punct.Semicolon ∷ [])) ++ after) (asks U es ++ []) gs K refl (no_type i.state h.0 ss r.0) H (λ j S.
    let typed : j.state.kept.has_type ≡ has_type ss = S.typed ∙ ap (λ (k : Kept). k.has_type || has_type ss) h.0 in
    let typedef : j.state.kept.is_typedef ≡ has_typedef ss = S.typedef ∙ ap (λ (k : Kept). k.is_typedef || has_typedef ss) h.0 in
    let e : declaring j.state ≡ U = ap (λ x. naming.Declared (class_named x) (not j.state.kept.has_type)) typedef ∙ ap (λ x. naming.Declared (class_named (has_typedef ss)) (not x)) typed in (
      subst (IsOff (starts s.Spec) j.state) (sym (append_assoc front (shape.Punct punct.Semicolon ∷ []) after)) (declarators_off es j.state [] gs after o v b (subst (λ u. settled (asks u es ++ []) (frames j.state.entries) ≡ Scoped gs) (sym e) S.holds)),
      inits_ready (class.Punct punct.Comma) es j (shape.Punct punct.Semicolon ∷ after) U gs L e (S.due ∙ ap (λ (k : Kept). k.is_function_due) h.0) S.holds
          (λ m f c. (refl, (record { scoped = h.1.1 ∙ ap Scoped (sym f); aside = c ∙ S.aside }, refl))),
    ))

pub decl_ready : (own : Sort) (sp : Span) (ts : Forest) (i : Spot) (after : List Shape) → fits (pieces form.Decl) ts ≡ true → pure ts ≡ true → valid ts ≡ true → is_nothing (among_rules form.Decl ts) ≡ true → IsCalm (the_tree form.Decl sp ts) i.state
    → RowReady own form.Decl Usual (pieces form.Decl) ts i after (λ j. Calms (the_tree form.Decl sp ts) i.state j.state)
decl_ready own sp empty i after t p v q h = absurd (cc t)
decl_ready own sp (tree f fp ss empty) i after t p v q h = absurd (never _ t)
decl_ready own sp (tree f fp ss (tree g gp es (tree k kp vs rest))) i after t p v q h = absurd (never_two (is_list_of All s.Spec f ss) (is_list_of (Spliced (Some (class.Punct punct.Comma)) 0) s.InitDeclarator g es) t)
decl_ready own sp (tree f fp ss (tree g gp es empty)) i after t p v q h =
    let l = left_of (is_list_of All s.Spec f ss) _ t in
    let m = left_of (is_list_of (Spliced (Some (class.Punct punct.Comma)) 0) s.InitDeclarator g es) true (right_of (is_list_of All s.Spec f ss) _ t) in
    let o = right_of (is_plain f && pure ss) (pure (tree g gp es empty)) p in
    let w = right_of (is_right f ss && valid ss) (valid (tree g gp es empty)) v in
    let a = a_list All s.Spec f fp ss (tree g gp es empty) l p in
    let b = a_list (Spliced (Some (class.Punct punct.Comma)) 0) s.InitDeclarator g gp es empty m o in
    let d = parts_of g gp es empty o w in
    subst (λ f. is_nothing (among_rules form.Decl (tree f fp ss (tree g gp es empty))) ≡ true → IsCalm (the_tree form.Decl sp (tree f fp ss (tree g gp es empty))) i.state → RowReady own form.Decl Usual (pieces form.Decl) (tree f fp ss (tree g gp es empty)) i after (λ j. Calms (the_tree form.Decl sp (tree f fp ss (tree g gp es empty))) i.state j.state)) (sym a.0)
    (λ q h. subst (λ g. is_nothing (among_rules form.Decl (tree (form.Group group.List) fp ss (tree g gp es empty))) ≡ true → IsCalm (the_tree form.Decl sp (tree (form.Group group.List) fp ss (tree g gp es empty))) i.state
    → RowReady own form.Decl Usual (pieces form.Decl) (tree (form.Group group.List) fp ss (tree g gp es empty)) i after (λ j. Calms (the_tree form.Decl sp (tree (form.Group group.List) fp ss (tree g gp es empty))) i.state j.state)) (sym b.0)
    (λ q h. decl_row own sp fp ss gp es i after a.1.0 a.1.1 d.0 d.1 b.1.1 q h) q h) q h
