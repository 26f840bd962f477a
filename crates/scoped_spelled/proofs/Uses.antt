-- What the use of a declarator's name adds to its events.
use Rattle.std.proofs.Common.{◌≡◌, refl, ap, sym, subst, ◌∙◌, Bool, true, false, not, ◌&&◌, List, [], ◌++◌, append_assoc, Option, Some, None}
use Rattle.c_tokens.specs.declared.span.Span.{Span}
use Rattle.c_tokens.specs.declared.token.Word.{Word}
use Rattle.c_forms.specs.declared.pieces.Repetition.TheVariants.{Optional, Many}
use Rattle.c_forms.specs.declared.pieces.Sort.{Sort}
use Rattle.c_forms.specs.declared.pieces.Sort.TheVariants as s
use Rattle.c_forms.specs.declared.forms.Form.{Form}
use Rattle.c_forms.specs.declared.forms.Form.TheVariants as form
use Rattle.c_forms.specs.declared.forms.ExpForm.TheVariants as exp
use Rattle.c_forms.specs.declared.forms.SpecForm.TheVariants as spec
use Rattle.c_forms.specs.declared.forms.StmtForm.TheVariants as stmt
use Rattle.c_forms.specs.declared.forms.TemplateForm.TheVariants as template
use Rattle.c_forms.specs.declared.forms.DeclaratorForm.{DeclaratorForm}
use Rattle.c_forms.specs.declared.forms.DeclaratorForm.TheVariants as declarator
use Rattle.c_forms.specs.declared.forms.GroupForm.TheVariants as group
use Rattle.c_forms.specs.declared.forms.ParamsForm.{ParamsForm}
use Rattle.c_forms.specs.Forests.{Plain, Forest, empty, tree}
use Rattle.c_forms.specs.Fits.{is_list_of, all_stand}
use Rattle.c_forms.specs.Measures.{is_plain}
use Rattle.c_forms.specs.Places.{stands}
use Rattle.c_forms.specs.Rules.{is_right}
use Rattle.c_reader.specs.States.{Entry, State, is_type}
use Rattle.c_trees.specs.Counts.{pure}
use Rattle.c_trees.specs.Valid.{valid}
use Rattle.scope_tables.specs.declared.table.WordClass.{WordClass}
use Rattle.scope_tables.specs.Frames.{Frame}
use Rattle.scope_meanings.specs.declared.meaning.NameUse.{NameUse}
use Rattle.scope_meanings.specs.declared.meaning.NameUse.TheVariants as naming
use Rattle.scope_meanings.specs.declared.meaning.Name.{Name}
use Rattle.scope_meanings.specs.Meanings.{checked_if, name_in, or_next}
use Rattle.scopes.specs.declared.event.Event.{Event}
use Rattle.scopes.specs.Events.{events_of, checked, declared}
use Rattle.scopes.specs.Settling.{Scoped, settled}
use Rattle.spelled_scopes.specs.Meant.{frames}
use Rattle.spelled_trees.specs.Told.{is_named}
use Rattle.spelled_trees.proofs.Parts.{left_of, right_of}
use Rattle.ready_rows.proofs.Ready.{the_tree}
use Rattle.ready_rows.proofs.Standing.{asks, name_of, IsValue}
use Rattle.ready_rows.proofs.Steps.{append_nil, must_value}
use Rattle.ready_expressions.proofs.Expressions.{never, never_two}
use Rattle.ready_expressions.proofs.Heads.{Good, first_good, good_fits, id_form, exp_form}
use Rattle.ready_expressions.proofs.Declarators.{head_plain, qualifiers_quiet, declared_stands, inner_stands, params_form, or_none, next_none}
use Rattle.scoped_spelled.proofs.Specifiers.{a_list}

-- ---- what does not depend on the use

-- forms whose events are the same however names are used
abbrev pub is_plain_use : Form → Bool
is_plain_use (form.Exp f) = true
is_plain_use (form.Spec f) = true
is_plain_use (form.Params f) = true
is_plain_use (form.Group group.Width) = true
is_plain_use (form.Group group.Initializer) = true
is_plain_use f = false

pub any_use : (u : NameUse) (f : Form) (sp : Span) (ps : Forest) → is_plain_use f ≡ true → events_of u (the_tree f sp ps) ≡ events_of naming.Nothing (the_tree f sp ps)
any_use u (form.Exp (exp.Name w)) sp ps e = refl
any_use u (form.Exp f) sp ps e = refl
any_use u (form.Spec (spec.Typedef w)) sp ps e = refl
any_use u (form.Spec f) sp ps e = refl
any_use u (form.Params f) sp ps e = refl
any_use u (form.Group group.Width) sp ps e = refl
any_use u (form.Group group.Initializer) sp ps e = refl
any_use u (form.Group f) sp ps e = absurd (cc e)
any_use u f sp ps e = absurd (cc e)

-- sorts of such forms
abbrev pub is_use_free : Sort → Bool
is_use_free s.Exp = true
is_use_free s.Spec = true
is_use_free s.PlainSpec = true
is_use_free s.Qualifier = true
is_use_free s.Width = true
is_use_free s.Initializer = true
is_use_free due = false

free_use : (due : Sort) (f : Form) → is_use_free due ≡ true → is_plain f ≡ true → stands f due ≡ true → is_plain_use f ≡ true
free_use s.Exp f c p e = let o = exp_form f p e in ap is_plain_use o.1
free_use due (form.Exp f) c p e = refl
free_use due (form.Spec f) c p e = refl
free_use due (form.Params f) c p e = refl
free_use due (form.Group group.Width) c p e = refl
free_use due (form.Group group.Initializer) c p e = refl
free_use s.Spec (form.Hole h) c p e = absurd (cc p)
free_use s.Spec (form.Call n gives tail) c p e = absurd (cc p)
free_use s.Spec (form.Stmt stmt.Block) c p e = absurd (cc e)
free_use s.Spec (form.Template (template.Many k)) c p e = absurd (cc e)
free_use s.Spec (form.Group group.List) c p e = absurd (cc e)
free_use s.Spec f c p e = absurd (cc e)
free_use s.PlainSpec (form.Hole h) c p e = absurd (cc p)
free_use s.PlainSpec (form.Call n gives tail) c p e = absurd (cc p)
free_use s.PlainSpec (form.Stmt stmt.Block) c p e = absurd (cc e)
free_use s.PlainSpec (form.Template (template.Many k)) c p e = absurd (cc e)
free_use s.PlainSpec (form.Group group.List) c p e = absurd (cc e)
free_use s.PlainSpec f c p e = absurd (cc e)
free_use s.Qualifier (form.Hole h) c p e = absurd (cc p)
free_use s.Qualifier (form.Call n gives tail) c p e = absurd (cc p)
free_use s.Qualifier (form.Stmt stmt.Block) c p e = absurd (cc e)
free_use s.Qualifier (form.Template (template.Many k)) c p e = absurd (cc e)
free_use s.Qualifier (form.Group group.List) c p e = absurd (cc e)
free_use s.Qualifier f c p e = absurd (cc e)
free_use s.Width (form.Hole h) c p e = absurd (cc p)
free_use s.Width (form.Call n gives tail) c p e = absurd (cc p)
free_use s.Width (form.Stmt stmt.Block) c p e = absurd (cc e)
free_use s.Width (form.Template (template.Many k)) c p e = absurd (cc e)
free_use s.Width (form.Group group.List) c p e = absurd (cc e)
free_use s.Width f c p e = absurd (cc e)
free_use s.Initializer (form.Hole h) c p e = absurd (cc p)
free_use s.Initializer (form.Call n gives tail) c p e = absurd (cc p)
free_use s.Initializer (form.Stmt stmt.Block) c p e = absurd (cc e)
free_use s.Initializer (form.Template (template.Many k)) c p e = absurd (cc e)
free_use s.Initializer (form.Group group.List) c p e = absurd (cc e)
free_use s.Initializer f c p e = absurd (cc e)
free_use due f c p e = absurd (cc c)

pub all_free : (u : NameUse) (due : Sort) (es : Forest) → is_use_free due ≡ true → pure es ≡ true → all_stand due es ≡ true → asks u es ≡ asks naming.Nothing es
all_free u due empty c p e = refl
all_free u due (tree f sp ps rest) c p e =
    let x = any_use u f sp ps (free_use due f c (left_of (is_plain f) (pure ps) (left_of (is_plain f && pure ps) (pure rest) p)) (left_of (stands f due) (all_stand due rest) e)) in
    ap (λ l. l ++ asks u rest) x ∙ ap (λ l. events_of naming.Nothing (the_tree f sp ps) ++ l) (all_free u due rest c (right_of (is_plain f && pure ps) (pure rest) p) (right_of (stands f due) (all_stand due rest) e))

-- ---- declarators, one inside of the other

module _ (P : Form → Span → Forest → Type 0) (named : (sp : Span) (w : Word) (gp : Span) (qs : Forest) → P (form.Declarator declarator.Named) sp (tree (form.Id w) gp qs empty)) (absent : (sp : Span) → P (form.Declarator declarator.Absent) sp empty)
    (pointer : (sp kp : Span) (es : Forest) (g : Form) (gp : Span) (qs : Forest) → pure es ≡ true → valid es ≡ true → all_stand s.Qualifier es ≡ true → P g gp qs → P (form.Declarator declarator.Pointer) sp (tree (form.Group group.List) kp es (tree g gp qs empty)))
    (array : (sp : Span) (g : Form) (gp : Span) (qs : Forest) (kp : Span) (es : Forest) → pure es ≡ true → all_stand s.Exp es ≡ true → P g gp qs → P (form.Declarator declarator.ArrayOf) sp (tree g gp qs (tree (form.Group group.List) kp es empty)))
    (function : (sp : Span) (g : Form) (gp : Span) (qs : Forest) (x : ParamsForm) (fp : Span) (ps : Forest) → P g gp qs → P (form.Declarator declarator.FunctionOf) sp (tree g gp qs (tree (form.Params x) fp ps empty))) where
  pub by_declarator : (f : Form) (sp : Span) (ps : Forest) → Good s.Declarator (the_tree f sp ps) → P f sp ps
  by_declarator (form.Declarator declarator.Named) sp empty n = absurd (cc (good_fits s.Declarator _ n))
  by_declarator (form.Declarator declarator.Named) sp (tree g gp qs (tree k kp es rest)) n = absurd (never _ (good_fits s.Declarator _ n))
  by_declarator (form.Declarator declarator.Named) sp (tree g gp qs empty) n =
      let c = head_plain g gp qs empty n.pure in
      let o = id_form g c (declared_stands g c (left_of (stands g s.DeclaredId) true (good_fits s.Declarator _ n))) in
      subst (λ g. P (form.Declarator declarator.Named) sp (tree g gp qs empty)) (sym o.1) (named sp o.0 gp qs)
  by_declarator (form.Declarator declarator.Absent) sp empty n = absent sp
  by_declarator (form.Declarator declarator.Absent) sp (tree g gp qs rest) n = absurd (cc (good_fits s.Declarator _ n))
  by_declarator (form.Declarator declarator.Pointer) sp empty n = absurd (cc (good_fits s.Declarator _ n))
  by_declarator (form.Declarator declarator.Pointer) sp (tree k kp es empty) n = absurd (never _ (good_fits s.Declarator _ n))
  by_declarator (form.Declarator declarator.Pointer) sp (tree k kp es (tree g gp qs (tree h hp rs rest))) n = absurd (never_two (is_list_of (Many None 0) s.Qualifier k es) (stands g s.InnerDeclarator) (good_fits s.Declarator _ n))
  by_declarator (form.Declarator declarator.Pointer) sp (tree k kp es (tree g gp qs empty)) n =
      let t = good_fits s.Declarator _ n in
      let l = a_list (Many None 0) s.Qualifier k kp es (tree g gp qs empty) (left_of (is_list_of (Many None 0) s.Qualifier k es) _ t) n.pure in
      let p = right_of (is_plain k && pure es) (pure (tree g gp qs empty)) n.pure in
      let v = right_of (is_right k es && valid es) (valid (tree g gp qs empty)) n.valid in
      let w = right_of (is_right k es) (valid es) (left_of (is_right k es && valid es) (valid (tree g gp qs empty)) n.valid) in
      let c = inner_stands g (head_plain g gp qs empty p) (left_of (stands g s.InnerDeclarator) true (right_of (is_list_of (Many None 0) s.Qualifier k es) _ t)) in
      subst (λ k. P (form.Declarator declarator.Pointer) sp (tree k kp es (tree g gp qs empty))) (sym l.0) (pointer sp kp es g gp qs l.1.0 w l.1.1 (by_declarator g gp qs (first_good s.Declarator g gp qs empty p v c)))
  by_declarator (form.Declarator declarator.ArrayOf) sp empty n = absurd (cc (good_fits s.Declarator _ n))
  by_declarator (form.Declarator declarator.ArrayOf) sp (tree g gp qs empty) n = absurd (never _ (good_fits s.Declarator _ n))
  by_declarator (form.Declarator declarator.ArrayOf) sp (tree g gp qs (tree k kp es (tree h hp rs rest))) n = absurd (never_two (stands g s.InnerDeclarator) (is_list_of Optional s.Exp k es) (good_fits s.Declarator _ n))
  by_declarator (form.Declarator declarator.ArrayOf) sp (tree g gp qs (tree k kp es empty)) n =
      let t = good_fits s.Declarator _ n in
      let l = a_list Optional s.Exp k kp es empty (left_of (is_list_of Optional s.Exp k es) true (right_of (stands g s.InnerDeclarator) _ t)) (right_of (is_plain g && pure qs) (pure (tree k kp es empty)) n.pure) in
      let c = inner_stands g (head_plain g gp qs (tree k kp es empty) n.pure) (left_of (stands g s.InnerDeclarator) _ t) in
      subst (λ k. P (form.Declarator declarator.ArrayOf) sp (tree g gp qs (tree k kp es empty))) (sym l.0) (array sp g gp qs kp es l.1.0 l.1.1 (by_declarator g gp qs (first_good s.Declarator g gp qs (tree k kp es empty) n.pure n.valid c)))
  by_declarator (form.Declarator declarator.FunctionOf) sp empty n = absurd (cc (good_fits s.Declarator _ n))
  by_declarator (form.Declarator declarator.FunctionOf) sp (tree g gp qs empty) n = absurd (never _ (good_fits s.Declarator _ n))
  by_declarator (form.Declarator declarator.FunctionOf) sp (tree g gp qs (tree k kp es (tree h hp rs rest))) n = absurd (never_two (stands g s.InnerDeclarator) (stands k s.Params) (good_fits s.Declarator _ n))
  by_declarator (form.Declarator declarator.FunctionOf) sp (tree g gp qs (tree k kp es empty)) n =
      let t = good_fits s.Declarator _ n in
      let o = params_form k (head_plain k kp es empty (right_of (is_plain g && pure qs) (pure (tree k kp es empty)) n.pure)) (left_of (stands k s.Params) true (right_of (stands g s.InnerDeclarator) _ t)) in
      let c = inner_stands g (head_plain g gp qs (tree k kp es empty) n.pure) (left_of (stands g s.InnerDeclarator) _ t) in
      subst (λ k. P (form.Declarator declarator.FunctionOf) sp (tree g gp qs (tree k kp es empty))) (sym o.1) (function sp g gp qs o.0 kp es (by_declarator g gp qs (first_good s.Declarator g gp qs (tree k kp es empty) n.pure n.valid c)))
  by_declarator (form.Hole h) sp ps n = absurd (cc n.is_plain)
  by_declarator (form.Call m gives tail) sp ps n = absurd (cc n.is_plain)
  by_declarator (form.Exp (exp.Int w)) sp ps n = absurd (cc n.stands)
  by_declarator (form.Spec (spec.Storage c)) sp ps n = absurd (cc n.stands)
  by_declarator (form.Spec (spec.Qualifier k)) sp ps n = absurd (cc n.stands)
  by_declarator (form.Stmt stmt.Block) sp ps n = absurd (cc n.stands)
  by_declarator (form.Template (template.Many k)) sp ps n = absurd (cc n.stands)
  by_declarator (form.Group group.List) sp ps n = absurd (cc n.stands)
  by_declarator f sp ps n = absurd (cc n.stands)

-- ---- a name that must be a value

-- what is checked comes first
abbrev IsFirst : Form → Span → Forest → Type 0
IsFirst f sp ps = events_of naming.Checked (the_tree f sp ps) ≡ (checked (name_of (the_tree f sp ps)) ++ events_of naming.Nothing (the_tree f sp ps))

-- before other events
before : (c d xs : List Event) (n m : Option Name) → c ≡ (checked n ++ d) → m ≡ n → (c ++ xs) ≡ (checked m ++ (d ++ xs))
before c d xs n m e f = ap (λ l. l ++ xs) e ∙ append_assoc (checked n) d xs ∙ ap (λ n. checked n ++ (d ++ xs)) (sym f)

no_qualifiers : (u : NameUse) (es : Forest) → pure es ≡ true → valid es ≡ true → all_stand s.Qualifier es ≡ true → asks u es ≡ []
no_qualifiers u es p v e = all_free u s.Qualifier es refl p e ∙ qualifiers_quiet es p v e

pointer_first : (sp kp : Span) (es : Forest) (g : Form) (gp : Span) (qs : Forest) → pure es ≡ true → valid es ≡ true → all_stand s.Qualifier es ≡ true → IsFirst g gp qs → IsFirst (form.Declarator declarator.Pointer) sp (tree (form.Group group.List) kp es (tree g gp qs empty))
pointer_first sp kp es g gp qs p v e h =
    let x = no_qualifiers naming.Checked es p v e in
    let y = no_qualifiers naming.Nothing es p v e in
    let G : Plain = the_tree g gp qs in
    append_nil _ ∙ ap (λ l. (l ++ []) ++ (events_of naming.Checked G ++ [])) x ∙ before (events_of naming.Checked G) (events_of naming.Nothing G) [] (name_of G) _ h (next_none (name_of G))
    ∙ ap (λ l. checked (or_next (name_of G) None) ++ l) (ap (λ l. (l ++ []) ++ (events_of naming.Nothing G ++ [])) (sym y) ∙ sym (append_nil _))

array_first : (sp : Span) (g : Form) (gp : Span) (qs : Forest) (kp : Span) (es : Forest) → pure es ≡ true → all_stand s.Exp es ≡ true → IsFirst g gp qs → IsFirst (form.Declarator declarator.ArrayOf) sp (tree g gp qs (tree (form.Group group.List) kp es empty))
array_first sp g gp qs kp es p e h =
    let x = all_free naming.Checked s.Exp es refl p e in
    let G : Plain = the_tree g gp qs in
    append_nil _ ∙ ap (λ l. events_of naming.Checked G ++ ((l ++ []) ++ [])) x ∙ before (events_of naming.Checked G) (events_of naming.Nothing G) ((asks naming.Nothing es ++ []) ++ []) (name_of G) _ h (next_none (name_of G))
    ∙ ap (λ l. checked (or_next (name_of G) None) ++ l) (sym (append_nil _))

function_first : (sp : Span) (g : Form) (gp : Span) (qs : Forest) (x : ParamsForm) (fp : Span) (ps : Forest) → IsFirst g gp qs → IsFirst (form.Declarator declarator.FunctionOf) sp (tree g gp qs (tree (form.Params x) fp ps empty))
function_first sp g gp qs x fp ps h =
    let G : Plain = the_tree g gp qs in
    let P : Plain = the_tree (form.Params x) fp ps in
    append_nil _ ∙ before (events_of naming.Checked G) (events_of naming.Nothing G) (events_of naming.Nothing P ++ []) (name_of G) _ h (next_none (name_of G))
    ∙ ap (λ l. checked (or_next (name_of G) None) ++ l) (sym (append_nil _))

pub checked_first : (f : Form) (sp : Span) (ps : Forest) → Good s.Declarator (the_tree f sp ps) → IsFirst f sp ps
checked_first f sp ps n = by_declarator IsFirst (λ sp w gp qs. refl) (λ sp. refl) pointer_first array_first function_first f sp ps n

-- what has a name is named
abbrev HasName : Form → Span → Forest → Type 0
HasName f sp ps = (n : Name) → name_of (the_tree f sp ps) ≡ Some n → is_named (the_tree f sp ps) ≡ true

inner_name : (t v : Plain) → is_named t ≡ is_named v → name_of t ≡ name_of v → ((n : Name) → name_of v ≡ Some n → is_named v ≡ true) → (n : Name) → name_of t ≡ Some n → is_named t ≡ true
inner_name t v a b h n e = a ∙ h n (sym b ∙ e)

pub has_name : (f : Form) (sp : Span) (ps : Forest) → Good s.Declarator (the_tree f sp ps) → HasName f sp ps
has_name f sp ps n = by_declarator HasName (λ sp w gp qs n e. refl) (λ sp n e. absurd (cc e))
    (λ sp kp es g gp qs p v e h. inner_name (the_tree (form.Declarator declarator.Pointer) sp (tree (form.Group group.List) kp es (tree g gp qs empty))) (the_tree g gp qs) (or_none _) (next_none _) h)
    (λ sp g gp qs kp es p e h. inner_name (the_tree (form.Declarator declarator.ArrayOf) sp (tree g gp qs (tree (form.Group group.List) kp es empty))) (the_tree g gp qs) (or_none _) (next_none _) h)
    (λ sp g gp qs x fp ps h. inner_name (the_tree (form.Declarator declarator.FunctionOf) sp (tree g gp qs (tree (form.Params x) fp ps empty))) (the_tree g gp qs) (or_none _) (next_none _) h) f sp ps n

-- ---- where specifiers hold a type, the name is not checked

same_name : (m n : Name) → Some m ≡ Some n → m ≡ n
same_name m n e = cc e

pub by_checked : (n : Option Name) (es : List Event) (en : List Entry) (gs : List Frame) → settled (checked n ++ es) (frames en) ≡ Scoped gs → (settled es (frames en) ≡ Scoped gs) × ((name : Name) → n ≡ Some name → is_type en name.word.0 ≡ false)
by_checked (Some m) es en gs e = let o = must_value m.word m.span es en gs e in (o.1, λ name q. subst (λ (name : Name). is_type en name.word.0 ≡ false) (same_name m name q) o.0)
by_checked None es en gs e = (e, λ name q. absurd (cc q))

pub uses_name : (f : Form) (sp : Span) (ps : Forest) (u : State) (more : List Event) (gs : List Frame) → Good s.Declarator (the_tree f sp ps) → settled (events_of (checked_if (not u.kept.has_type)) (the_tree f sp ps) ++ more) (frames u.entries) ≡ Scoped gs
    → (settled (events_of naming.Nothing (the_tree f sp ps) ++ more) (frames u.entries) ≡ Scoped gs) × IsValue u (name_of (the_tree f sp ps))
uses_name f sp ps u more gs n h = by_type u.kept.has_type refl h
  where
    by_type : (b : Bool) → u.kept.has_type ≡ b → settled (events_of (checked_if (not b)) (the_tree f sp ps) ++ more) (frames u.entries) ≡ Scoped gs → (settled (events_of naming.Nothing (the_tree f sp ps) ++ more) (frames u.entries) ≡ Scoped gs) × IsValue u (name_of (the_tree f sp ps))
    by_type true e h = (h, λ name q. ap (λ b. not b && is_type u.entries name.word.0) e)
    by_type false e h =
        let t : Plain = the_tree f sp ps in
        let o = by_checked (name_of t) (events_of naming.Nothing t ++ more) u.entries gs (ap (λ l. settled l (frames u.entries)) (sym (ap (λ l. l ++ more) (checked_first f sp ps n) ∙ append_assoc (checked (name_of t)) (events_of naming.Nothing t) more)) ∙ h) in
        (o.0, λ name q. ap (λ b. not b && is_type u.entries name.word.0) e ∙ o.1 name q)

-- a declarator whose name is declared after it
pub declared_last : (c : WordClass) (b : Bool) (f : DeclaratorForm) (sp : Span) (ps : Forest) → events_of (naming.Declared c b) (the_tree (form.Declarator f) sp ps) ≡ (events_of (checked_if b) (the_tree (form.Declarator f) sp ps) ++ declared c (name_of (the_tree (form.Declarator f) sp ps)))
declared_last c true f sp ps = ap (λ l. l ++ declared c (name_in ps)) (sym (append_nil _))
declared_last c false f sp ps = ap (λ l. l ++ declared c (name_in ps)) (sym (append_nil _))
