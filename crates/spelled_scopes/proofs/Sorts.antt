-- What the form of a node makes of what stands where a sort is due.
use Rattle.std.proofs.Common.{◌≡◌, refl, Bool, true, false, ◌&&◌, [], ◌∷◌}
use Rattle.c_forms.specs.declared.pieces.Sort.{Sort}
use Rattle.c_forms.specs.declared.pieces.Sort.TheVariants as s
use Rattle.c_forms.specs.declared.forms.Form.{Form}
use Rattle.c_forms.specs.declared.forms.Form.TheVariants as form
use Rattle.c_forms.specs.declared.forms.ExpForm.TheVariants as exp
use Rattle.c_forms.specs.declared.forms.SpecForm.{SpecForm}
use Rattle.c_forms.specs.declared.forms.SpecForm.TheVariants as spec
use Rattle.c_forms.specs.declared.forms.StmtForm.TheVariants as stmt
use Rattle.c_forms.specs.declared.forms.ItemForm.{ItemForm}
use Rattle.c_forms.specs.declared.forms.ItemForm.TheVariants as item
use Rattle.c_forms.specs.declared.forms.TemplateForm.TheVariants as template
use Rattle.c_forms.specs.declared.forms.GroupForm.{GroupForm}
use Rattle.c_forms.specs.declared.forms.GroupForm.TheVariants as group
use Rattle.c_forms.specs.Forests.{Plain, forest}
use Rattle.c_forms.specs.Measures.{is_plain}
use Rattle.c_forms.specs.Places.{stands}
use Rattle.c_reader.specs.States.{State, nothing_kept}
use Rattle.scope_meanings.specs.declared.meaning.NameUse.{NameUse}
use Rattle.scopes.specs.Events.{beside_name}
use Rattle.spelled_scopes.proofs.Laws.{Says, Keeps, Lists, Specifies, Members, Inits, Names, Nears, Parameters, Finishes, Law}

abbrev pub is_qualifier : SpecForm → Bool
is_qualifier (spec.Qualifier q) = true
is_qualifier f = false

-- nothing is known of a declaration but that a function may be due
abbrev pub Starts : ItemForm → State → Type 0
Starts item.Declaration i = i.kept ≡ nothing_kept
Starts f i = (i.kept.has_type ≡ false) × ((i.kept.is_typedef ≡ false) × (i.kept.name ≡ nothing_kept.name))

abbrev pub GroupLaw : GroupForm → Plain → State → State → Type 0
GroupLaw group.InitDeclarator t i j = Inits (t ∷ []) i j
GroupLaw group.Initializer t i j = Keeps (t ∷ []) i j
GroupLaw group.MemberDeclarator t i j = Members (t ∷ []) i j
GroupLaw group.Width t i j = Keeps (t ∷ []) i j
GroupLaw group.Members t i j = (u : NameUse) → Says u (t ∷ []) i j
GroupLaw group.Enumerators t i j = Lists (t ∷ []) i j
GroupLaw group.EnumeratorValue t i j = Keeps (t ∷ []) i j
GroupLaw group.ElsePart t i j = (u : NameUse) → Says u (t ∷ []) i j
GroupLaw _ t i j = Unit {0}

abbrev pub FormLaw : Sort → Form → Plain → State → State → Type 0
FormLaw due (form.Exp f) t i j = (u : NameUse) → Says u (t ∷ []) i j
FormLaw due form.TypeName t i j = i.kept ≡ nothing_kept → Lists (t ∷ []) i j
FormLaw due (form.Spec f) t i j = Specifies (t ∷ []) i j × (is_qualifier f ≡ true → (j.kept ≡ i.kept) × (j.entries ≡ i.entries))
FormLaw due form.Member t i j = (u : NameUse) → Says u (t ∷ []) i j
FormLaw due form.Enumerator t i j = Lists (t ∷ []) i j
FormLaw due (form.Declarator f) t i j = Names t i j × (due ≡ s.Declarator → Nears t j)
FormLaw due (form.Params f) t i j = Parameters t i j
FormLaw due form.Param t i j = (u : NameUse) → Says u (t ∷ []) i j
FormLaw due (form.Init f) t i j = (u : NameUse) → Says u (t ∷ []) i j
FormLaw due form.Decl t i j = (u : NameUse) → Says u (t ∷ []) i j
FormLaw due (form.Stmt f) t i j = ((u : NameUse) → Says u (t ∷ []) i j) × (beside_name (forest (t ∷ [])) ≡ [])
FormLaw due (form.Item f) t i j = Starts f i → Finishes t i j
FormLaw due (form.Group g) t i j = GroupLaw g t i j
FormLaw due _ t i j = Unit {0}

neither : (a b : Bool) → a ≡ true → b ≡ true → (a && b) ≡ false → ⊥
neither true b p e n = absurd (cc (e, n))
neither false b p e n = absurd (cc p)

pub at_exp : (f : Form) (t : Plain) (i j : State) → is_plain f ≡ true → stands f s.Exp ≡ true → FormLaw s.Exp f t i j → Law s.Exp t i j
at_exp (form.Exp f) t i j p e l = l
at_exp (form.Spec (spec.Storage c)) t i j p e l = absurd (neither (is_plain (form.Spec (spec.Storage c))) (stands (form.Spec (spec.Storage c)) s.Exp) p e refl)
at_exp (form.Spec (spec.Qualifier q)) t i j p e l = absurd (neither (is_plain (form.Spec (spec.Qualifier q))) (stands (form.Spec (spec.Qualifier q)) s.Exp) p e refl)
at_exp (form.Stmt stmt.Block) t i j p e l = absurd (neither (is_plain (form.Stmt stmt.Block)) (stands (form.Stmt stmt.Block) s.Exp) p e refl)
at_exp (form.Template (template.Many k)) t i j p e l = absurd (neither (is_plain (form.Template (template.Many k))) (stands (form.Template (template.Many k)) s.Exp) p e refl)
at_exp (form.Group group.List) t i j p e l = absurd (neither (is_plain (form.Group group.List)) (stands (form.Group group.List) s.Exp) p e refl)
at_exp (form.Item item.Function) t i j p e l = absurd (neither true (stands (form.Item item.Function) s.Exp) p e refl)
at_exp f t i j p e l = absurd (neither (is_plain f) (stands f s.Exp) p e refl)

pub at_type_name : (f : Form) (t : Plain) (i j : State) → is_plain f ≡ true → stands f s.TypeName ≡ true → FormLaw s.TypeName f t i j → Law s.TypeName t i j
at_type_name (form.TypeName) t i j p e l = l
at_type_name (form.Exp (exp.Int w)) t i j p e l = absurd (neither (is_plain (form.Exp (exp.Int w))) (stands (form.Exp (exp.Int w)) s.TypeName) p e refl)
at_type_name (form.Spec (spec.Storage c)) t i j p e l = absurd (neither (is_plain (form.Spec (spec.Storage c))) (stands (form.Spec (spec.Storage c)) s.TypeName) p e refl)
at_type_name (form.Spec (spec.Qualifier q)) t i j p e l = absurd (neither (is_plain (form.Spec (spec.Qualifier q))) (stands (form.Spec (spec.Qualifier q)) s.TypeName) p e refl)
at_type_name (form.Stmt stmt.Block) t i j p e l = absurd (neither (is_plain (form.Stmt stmt.Block)) (stands (form.Stmt stmt.Block) s.TypeName) p e refl)
at_type_name (form.Template (template.Many k)) t i j p e l = absurd (neither (is_plain (form.Template (template.Many k))) (stands (form.Template (template.Many k)) s.TypeName) p e refl)
at_type_name (form.Group group.List) t i j p e l = absurd (neither (is_plain (form.Group group.List)) (stands (form.Group group.List) s.TypeName) p e refl)
at_type_name (form.Item item.Function) t i j p e l = absurd (neither true (stands (form.Item item.Function) s.TypeName) p e refl)
at_type_name f t i j p e l = absurd (neither (is_plain f) (stands f s.TypeName) p e refl)

pub at_spec : (f : Form) (t : Plain) (i j : State) → is_plain f ≡ true → stands f s.Spec ≡ true → FormLaw s.Spec f t i j → Law s.Spec t i j
at_spec (form.Spec f) t i j p e l = l.0
at_spec (form.Exp (exp.Int w)) t i j p e l = absurd (neither (is_plain (form.Exp (exp.Int w))) (stands (form.Exp (exp.Int w)) s.Spec) p e refl)
at_spec (form.Stmt stmt.Block) t i j p e l = absurd (neither (is_plain (form.Stmt stmt.Block)) (stands (form.Stmt stmt.Block) s.Spec) p e refl)
at_spec (form.Template (template.Many k)) t i j p e l = absurd (neither (is_plain (form.Template (template.Many k))) (stands (form.Template (template.Many k)) s.Spec) p e refl)
at_spec (form.Group group.List) t i j p e l = absurd (neither (is_plain (form.Group group.List)) (stands (form.Group group.List) s.Spec) p e refl)
at_spec (form.Item item.Function) t i j p e l = absurd (neither true (stands (form.Item item.Function) s.Spec) p e refl)
at_spec f t i j p e l = absurd (neither (is_plain f) (stands f s.Spec) p e refl)

pub at_plain_spec : (f : Form) (t : Plain) (i j : State) → is_plain f ≡ true → stands f s.PlainSpec ≡ true → FormLaw s.PlainSpec f t i j → Law s.PlainSpec t i j
at_plain_spec (form.Spec (spec.Storage c)) t i j p e l = absurd (neither (is_plain (form.Spec (spec.Storage c))) (stands (form.Spec (spec.Storage c)) s.PlainSpec) p e refl)
at_plain_spec (form.Spec f) t i j p e l = l.0
at_plain_spec (form.Exp (exp.Int w)) t i j p e l = absurd (neither (is_plain (form.Exp (exp.Int w))) (stands (form.Exp (exp.Int w)) s.PlainSpec) p e refl)
at_plain_spec (form.Stmt stmt.Block) t i j p e l = absurd (neither (is_plain (form.Stmt stmt.Block)) (stands (form.Stmt stmt.Block) s.PlainSpec) p e refl)
at_plain_spec (form.Template (template.Many k)) t i j p e l = absurd (neither (is_plain (form.Template (template.Many k))) (stands (form.Template (template.Many k)) s.PlainSpec) p e refl)
at_plain_spec (form.Group group.List) t i j p e l = absurd (neither (is_plain (form.Group group.List)) (stands (form.Group group.List) s.PlainSpec) p e refl)
at_plain_spec (form.Item item.Function) t i j p e l = absurd (neither true (stands (form.Item item.Function) s.PlainSpec) p e refl)
at_plain_spec f t i j p e l = absurd (neither (is_plain f) (stands f s.PlainSpec) p e refl)

pub at_qualifier : (f : Form) (t : Plain) (i j : State) → is_plain f ≡ true → stands f s.Qualifier ≡ true → FormLaw s.Qualifier f t i j → Law s.Qualifier t i j
at_qualifier (form.Spec (spec.Qualifier q)) t i j p e l = ((l.0.goes, (l.1 refl).0), (l.1 refl).1)
at_qualifier (form.Exp (exp.Int w)) t i j p e l = absurd (neither (is_plain (form.Exp (exp.Int w))) (stands (form.Exp (exp.Int w)) s.Qualifier) p e refl)
at_qualifier (form.Spec (spec.Storage c)) t i j p e l = absurd (neither (is_plain (form.Spec (spec.Storage c))) (stands (form.Spec (spec.Storage c)) s.Qualifier) p e refl)
at_qualifier (form.Stmt stmt.Block) t i j p e l = absurd (neither (is_plain (form.Stmt stmt.Block)) (stands (form.Stmt stmt.Block) s.Qualifier) p e refl)
at_qualifier (form.Template (template.Many k)) t i j p e l = absurd (neither (is_plain (form.Template (template.Many k))) (stands (form.Template (template.Many k)) s.Qualifier) p e refl)
at_qualifier (form.Group group.List) t i j p e l = absurd (neither (is_plain (form.Group group.List)) (stands (form.Group group.List) s.Qualifier) p e refl)
at_qualifier (form.Item item.Function) t i j p e l = absurd (neither true (stands (form.Item item.Function) s.Qualifier) p e refl)
at_qualifier f t i j p e l = absurd (neither (is_plain f) (stands f s.Qualifier) p e refl)

pub at_member : (f : Form) (t : Plain) (i j : State) → is_plain f ≡ true → stands f s.Member ≡ true → FormLaw s.Member f t i j → Law s.Member t i j
at_member (form.Member) t i j p e l = l
at_member (form.Exp (exp.Int w)) t i j p e l = absurd (neither (is_plain (form.Exp (exp.Int w))) (stands (form.Exp (exp.Int w)) s.Member) p e refl)
at_member (form.Spec (spec.Storage c)) t i j p e l = absurd (neither (is_plain (form.Spec (spec.Storage c))) (stands (form.Spec (spec.Storage c)) s.Member) p e refl)
at_member (form.Spec (spec.Qualifier q)) t i j p e l = absurd (neither (is_plain (form.Spec (spec.Qualifier q))) (stands (form.Spec (spec.Qualifier q)) s.Member) p e refl)
at_member (form.Stmt stmt.Block) t i j p e l = absurd (neither (is_plain (form.Stmt stmt.Block)) (stands (form.Stmt stmt.Block) s.Member) p e refl)
at_member (form.Template (template.Many k)) t i j p e l = absurd (neither (is_plain (form.Template (template.Many k))) (stands (form.Template (template.Many k)) s.Member) p e refl)
at_member (form.Group group.List) t i j p e l = absurd (neither (is_plain (form.Group group.List)) (stands (form.Group group.List) s.Member) p e refl)
at_member (form.Item item.Function) t i j p e l = absurd (neither true (stands (form.Item item.Function) s.Member) p e refl)
at_member f t i j p e l = absurd (neither (is_plain f) (stands f s.Member) p e refl)

pub at_enumerator : (f : Form) (t : Plain) (i j : State) → is_plain f ≡ true → stands f s.Enumerator ≡ true → FormLaw s.Enumerator f t i j → Law s.Enumerator t i j
at_enumerator (form.Enumerator) t i j p e l = l
at_enumerator (form.Exp (exp.Int w)) t i j p e l = absurd (neither (is_plain (form.Exp (exp.Int w))) (stands (form.Exp (exp.Int w)) s.Enumerator) p e refl)
at_enumerator (form.Spec (spec.Storage c)) t i j p e l = absurd (neither (is_plain (form.Spec (spec.Storage c))) (stands (form.Spec (spec.Storage c)) s.Enumerator) p e refl)
at_enumerator (form.Spec (spec.Qualifier q)) t i j p e l = absurd (neither (is_plain (form.Spec (spec.Qualifier q))) (stands (form.Spec (spec.Qualifier q)) s.Enumerator) p e refl)
at_enumerator (form.Stmt stmt.Block) t i j p e l = absurd (neither (is_plain (form.Stmt stmt.Block)) (stands (form.Stmt stmt.Block) s.Enumerator) p e refl)
at_enumerator (form.Template (template.Many k)) t i j p e l = absurd (neither (is_plain (form.Template (template.Many k))) (stands (form.Template (template.Many k)) s.Enumerator) p e refl)
at_enumerator (form.Group group.List) t i j p e l = absurd (neither (is_plain (form.Group group.List)) (stands (form.Group group.List) s.Enumerator) p e refl)
at_enumerator (form.Item item.Function) t i j p e l = absurd (neither true (stands (form.Item item.Function) s.Enumerator) p e refl)
at_enumerator f t i j p e l = absurd (neither (is_plain f) (stands f s.Enumerator) p e refl)

pub at_declarator : (f : Form) (t : Plain) (i j : State) → is_plain f ≡ true → stands f s.Declarator ≡ true → FormLaw s.Declarator f t i j → Law s.Declarator t i j
at_declarator (form.Declarator f) t i j p e l = (l.0, l.1 refl)
at_declarator (form.Exp (exp.Int w)) t i j p e l = absurd (neither (is_plain (form.Exp (exp.Int w))) (stands (form.Exp (exp.Int w)) s.Declarator) p e refl)
at_declarator (form.Spec (spec.Storage c)) t i j p e l = absurd (neither (is_plain (form.Spec (spec.Storage c))) (stands (form.Spec (spec.Storage c)) s.Declarator) p e refl)
at_declarator (form.Spec (spec.Qualifier q)) t i j p e l = absurd (neither (is_plain (form.Spec (spec.Qualifier q))) (stands (form.Spec (spec.Qualifier q)) s.Declarator) p e refl)
at_declarator (form.Stmt stmt.Block) t i j p e l = absurd (neither (is_plain (form.Stmt stmt.Block)) (stands (form.Stmt stmt.Block) s.Declarator) p e refl)
at_declarator (form.Template (template.Many k)) t i j p e l = absurd (neither (is_plain (form.Template (template.Many k))) (stands (form.Template (template.Many k)) s.Declarator) p e refl)
at_declarator (form.Group group.List) t i j p e l = absurd (neither (is_plain (form.Group group.List)) (stands (form.Group group.List) s.Declarator) p e refl)
at_declarator (form.Item item.Function) t i j p e l = absurd (neither true (stands (form.Item item.Function) s.Declarator) p e refl)
at_declarator f t i j p e l = absurd (neither (is_plain f) (stands f s.Declarator) p e refl)

pub at_abstract : (f : Form) (t : Plain) (i j : State) → is_plain f ≡ true → stands f s.AbstractDeclarator ≡ true → FormLaw s.AbstractDeclarator f t i j → Law s.AbstractDeclarator t i j
at_abstract (form.Declarator f) t i j p e l = l.0
at_abstract (form.Exp (exp.Int w)) t i j p e l = absurd (neither (is_plain (form.Exp (exp.Int w))) (stands (form.Exp (exp.Int w)) s.AbstractDeclarator) p e refl)
at_abstract (form.Spec (spec.Storage c)) t i j p e l = absurd (neither (is_plain (form.Spec (spec.Storage c))) (stands (form.Spec (spec.Storage c)) s.AbstractDeclarator) p e refl)
at_abstract (form.Spec (spec.Qualifier q)) t i j p e l = absurd (neither (is_plain (form.Spec (spec.Qualifier q))) (stands (form.Spec (spec.Qualifier q)) s.AbstractDeclarator) p e refl)
at_abstract (form.Stmt stmt.Block) t i j p e l = absurd (neither (is_plain (form.Stmt stmt.Block)) (stands (form.Stmt stmt.Block) s.AbstractDeclarator) p e refl)
at_abstract (form.Template (template.Many k)) t i j p e l = absurd (neither (is_plain (form.Template (template.Many k))) (stands (form.Template (template.Many k)) s.AbstractDeclarator) p e refl)
at_abstract (form.Group group.List) t i j p e l = absurd (neither (is_plain (form.Group group.List)) (stands (form.Group group.List) s.AbstractDeclarator) p e refl)
at_abstract (form.Item item.Function) t i j p e l = absurd (neither true (stands (form.Item item.Function) s.AbstractDeclarator) p e refl)
at_abstract f t i j p e l = absurd (neither (is_plain f) (stands f s.AbstractDeclarator) p e refl)

pub at_param_declarator : (f : Form) (t : Plain) (i j : State) → is_plain f ≡ true → stands f s.ParamDeclarator ≡ true → FormLaw s.ParamDeclarator f t i j → Law s.ParamDeclarator t i j
at_param_declarator (form.Declarator f) t i j p e l = l.0
at_param_declarator (form.Exp (exp.Int w)) t i j p e l = absurd (neither (is_plain (form.Exp (exp.Int w))) (stands (form.Exp (exp.Int w)) s.ParamDeclarator) p e refl)
at_param_declarator (form.Spec (spec.Storage c)) t i j p e l = absurd (neither (is_plain (form.Spec (spec.Storage c))) (stands (form.Spec (spec.Storage c)) s.ParamDeclarator) p e refl)
at_param_declarator (form.Spec (spec.Qualifier q)) t i j p e l = absurd (neither (is_plain (form.Spec (spec.Qualifier q))) (stands (form.Spec (spec.Qualifier q)) s.ParamDeclarator) p e refl)
at_param_declarator (form.Stmt stmt.Block) t i j p e l = absurd (neither (is_plain (form.Stmt stmt.Block)) (stands (form.Stmt stmt.Block) s.ParamDeclarator) p e refl)
at_param_declarator (form.Template (template.Many k)) t i j p e l = absurd (neither (is_plain (form.Template (template.Many k))) (stands (form.Template (template.Many k)) s.ParamDeclarator) p e refl)
at_param_declarator (form.Group group.List) t i j p e l = absurd (neither (is_plain (form.Group group.List)) (stands (form.Group group.List) s.ParamDeclarator) p e refl)
at_param_declarator (form.Item item.Function) t i j p e l = absurd (neither true (stands (form.Item item.Function) s.ParamDeclarator) p e refl)
at_param_declarator f t i j p e l = absurd (neither (is_plain f) (stands f s.ParamDeclarator) p e refl)

pub at_member_name : (f : Form) (t : Plain) (i j : State) → is_plain f ≡ true → stands f s.MemberName ≡ true → FormLaw s.MemberName f t i j → Law s.MemberName t i j
at_member_name (form.Declarator f) t i j p e l = l.0
at_member_name (form.Exp (exp.Int w)) t i j p e l = absurd (neither (is_plain (form.Exp (exp.Int w))) (stands (form.Exp (exp.Int w)) s.MemberName) p e refl)
at_member_name (form.Spec (spec.Storage c)) t i j p e l = absurd (neither (is_plain (form.Spec (spec.Storage c))) (stands (form.Spec (spec.Storage c)) s.MemberName) p e refl)
at_member_name (form.Spec (spec.Qualifier q)) t i j p e l = absurd (neither (is_plain (form.Spec (spec.Qualifier q))) (stands (form.Spec (spec.Qualifier q)) s.MemberName) p e refl)
at_member_name (form.Stmt stmt.Block) t i j p e l = absurd (neither (is_plain (form.Stmt stmt.Block)) (stands (form.Stmt stmt.Block) s.MemberName) p e refl)
at_member_name (form.Template (template.Many k)) t i j p e l = absurd (neither (is_plain (form.Template (template.Many k))) (stands (form.Template (template.Many k)) s.MemberName) p e refl)
at_member_name (form.Group group.List) t i j p e l = absurd (neither (is_plain (form.Group group.List)) (stands (form.Group group.List) s.MemberName) p e refl)
at_member_name (form.Item item.Function) t i j p e l = absurd (neither true (stands (form.Item item.Function) s.MemberName) p e refl)
at_member_name f t i j p e l = absurd (neither (is_plain f) (stands f s.MemberName) p e refl)

pub at_inner : (f : Form) (t : Plain) (i j : State) → is_plain f ≡ true → stands f s.InnerDeclarator ≡ true → FormLaw s.InnerDeclarator f t i j → Law s.InnerDeclarator t i j
at_inner (form.Declarator f) t i j p e l = l.0
at_inner (form.Exp (exp.Int w)) t i j p e l = absurd (neither (is_plain (form.Exp (exp.Int w))) (stands (form.Exp (exp.Int w)) s.InnerDeclarator) p e refl)
at_inner (form.Spec (spec.Storage c)) t i j p e l = absurd (neither (is_plain (form.Spec (spec.Storage c))) (stands (form.Spec (spec.Storage c)) s.InnerDeclarator) p e refl)
at_inner (form.Spec (spec.Qualifier q)) t i j p e l = absurd (neither (is_plain (form.Spec (spec.Qualifier q))) (stands (form.Spec (spec.Qualifier q)) s.InnerDeclarator) p e refl)
at_inner (form.Stmt stmt.Block) t i j p e l = absurd (neither (is_plain (form.Stmt stmt.Block)) (stands (form.Stmt stmt.Block) s.InnerDeclarator) p e refl)
at_inner (form.Template (template.Many k)) t i j p e l = absurd (neither (is_plain (form.Template (template.Many k))) (stands (form.Template (template.Many k)) s.InnerDeclarator) p e refl)
at_inner (form.Group group.List) t i j p e l = absurd (neither (is_plain (form.Group group.List)) (stands (form.Group group.List) s.InnerDeclarator) p e refl)
at_inner (form.Item item.Function) t i j p e l = absurd (neither true (stands (form.Item item.Function) s.InnerDeclarator) p e refl)
at_inner f t i j p e l = absurd (neither (is_plain f) (stands f s.InnerDeclarator) p e refl)

pub at_params : (f : Form) (t : Plain) (i j : State) → is_plain f ≡ true → stands f s.Params ≡ true → FormLaw s.Params f t i j → Law s.Params t i j
at_params (form.Params f) t i j p e l = l
at_params (form.Exp (exp.Int w)) t i j p e l = absurd (neither (is_plain (form.Exp (exp.Int w))) (stands (form.Exp (exp.Int w)) s.Params) p e refl)
at_params (form.Spec (spec.Storage c)) t i j p e l = absurd (neither (is_plain (form.Spec (spec.Storage c))) (stands (form.Spec (spec.Storage c)) s.Params) p e refl)
at_params (form.Spec (spec.Qualifier q)) t i j p e l = absurd (neither (is_plain (form.Spec (spec.Qualifier q))) (stands (form.Spec (spec.Qualifier q)) s.Params) p e refl)
at_params (form.Stmt stmt.Block) t i j p e l = absurd (neither (is_plain (form.Stmt stmt.Block)) (stands (form.Stmt stmt.Block) s.Params) p e refl)
at_params (form.Template (template.Many k)) t i j p e l = absurd (neither (is_plain (form.Template (template.Many k))) (stands (form.Template (template.Many k)) s.Params) p e refl)
at_params (form.Group group.List) t i j p e l = absurd (neither (is_plain (form.Group group.List)) (stands (form.Group group.List) s.Params) p e refl)
at_params (form.Item item.Function) t i j p e l = absurd (neither true (stands (form.Item item.Function) s.Params) p e refl)
at_params f t i j p e l = absurd (neither (is_plain f) (stands f s.Params) p e refl)

pub at_param : (f : Form) (t : Plain) (i j : State) → is_plain f ≡ true → stands f s.Param ≡ true → FormLaw s.Param f t i j → Law s.Param t i j
at_param (form.Param) t i j p e l = l
at_param (form.Exp (exp.Int w)) t i j p e l = absurd (neither (is_plain (form.Exp (exp.Int w))) (stands (form.Exp (exp.Int w)) s.Param) p e refl)
at_param (form.Spec (spec.Storage c)) t i j p e l = absurd (neither (is_plain (form.Spec (spec.Storage c))) (stands (form.Spec (spec.Storage c)) s.Param) p e refl)
at_param (form.Spec (spec.Qualifier q)) t i j p e l = absurd (neither (is_plain (form.Spec (spec.Qualifier q))) (stands (form.Spec (spec.Qualifier q)) s.Param) p e refl)
at_param (form.Stmt stmt.Block) t i j p e l = absurd (neither (is_plain (form.Stmt stmt.Block)) (stands (form.Stmt stmt.Block) s.Param) p e refl)
at_param (form.Template (template.Many k)) t i j p e l = absurd (neither (is_plain (form.Template (template.Many k))) (stands (form.Template (template.Many k)) s.Param) p e refl)
at_param (form.Group group.List) t i j p e l = absurd (neither (is_plain (form.Group group.List)) (stands (form.Group group.List) s.Param) p e refl)
at_param (form.Item item.Function) t i j p e l = absurd (neither true (stands (form.Item item.Function) s.Param) p e refl)
at_param f t i j p e l = absurd (neither (is_plain f) (stands f s.Param) p e refl)

pub at_init : (f : Form) (t : Plain) (i j : State) → is_plain f ≡ true → stands f s.Init ≡ true → FormLaw s.Init f t i j → Law s.Init t i j
at_init (form.Init f) t i j p e l = l
at_init (form.Exp (exp.Int w)) t i j p e l = absurd (neither (is_plain (form.Exp (exp.Int w))) (stands (form.Exp (exp.Int w)) s.Init) p e refl)
at_init (form.Spec (spec.Storage c)) t i j p e l = absurd (neither (is_plain (form.Spec (spec.Storage c))) (stands (form.Spec (spec.Storage c)) s.Init) p e refl)
at_init (form.Spec (spec.Qualifier q)) t i j p e l = absurd (neither (is_plain (form.Spec (spec.Qualifier q))) (stands (form.Spec (spec.Qualifier q)) s.Init) p e refl)
at_init (form.Stmt stmt.Block) t i j p e l = absurd (neither (is_plain (form.Stmt stmt.Block)) (stands (form.Stmt stmt.Block) s.Init) p e refl)
at_init (form.Template (template.Many k)) t i j p e l = absurd (neither (is_plain (form.Template (template.Many k))) (stands (form.Template (template.Many k)) s.Init) p e refl)
at_init (form.Group group.List) t i j p e l = absurd (neither (is_plain (form.Group group.List)) (stands (form.Group group.List) s.Init) p e refl)
at_init (form.Item item.Function) t i j p e l = absurd (neither true (stands (form.Item item.Function) s.Init) p e refl)
at_init f t i j p e l = absurd (neither (is_plain f) (stands f s.Init) p e refl)

pub at_decl : (f : Form) (t : Plain) (i j : State) → is_plain f ≡ true → stands f s.Decl ≡ true → FormLaw s.Decl f t i j → Law s.Decl t i j
at_decl (form.Decl) t i j p e l = l
at_decl (form.Exp (exp.Int w)) t i j p e l = absurd (neither (is_plain (form.Exp (exp.Int w))) (stands (form.Exp (exp.Int w)) s.Decl) p e refl)
at_decl (form.Spec (spec.Storage c)) t i j p e l = absurd (neither (is_plain (form.Spec (spec.Storage c))) (stands (form.Spec (spec.Storage c)) s.Decl) p e refl)
at_decl (form.Spec (spec.Qualifier q)) t i j p e l = absurd (neither (is_plain (form.Spec (spec.Qualifier q))) (stands (form.Spec (spec.Qualifier q)) s.Decl) p e refl)
at_decl (form.Stmt stmt.Block) t i j p e l = absurd (neither (is_plain (form.Stmt stmt.Block)) (stands (form.Stmt stmt.Block) s.Decl) p e refl)
at_decl (form.Template (template.Many k)) t i j p e l = absurd (neither (is_plain (form.Template (template.Many k))) (stands (form.Template (template.Many k)) s.Decl) p e refl)
at_decl (form.Group group.List) t i j p e l = absurd (neither (is_plain (form.Group group.List)) (stands (form.Group group.List) s.Decl) p e refl)
at_decl (form.Item item.Function) t i j p e l = absurd (neither true (stands (form.Item item.Function) s.Decl) p e refl)
at_decl f t i j p e l = absurd (neither (is_plain f) (stands f s.Decl) p e refl)

pub at_stmt : (f : Form) (t : Plain) (i j : State) → is_plain f ≡ true → stands f s.Stmt ≡ true → FormLaw s.Stmt f t i j → Law s.Stmt t i j
at_stmt (form.Stmt f) t i j p e l = l.0
at_stmt (form.Exp (exp.Int w)) t i j p e l = absurd (neither (is_plain (form.Exp (exp.Int w))) (stands (form.Exp (exp.Int w)) s.Stmt) p e refl)
at_stmt (form.Spec (spec.Storage c)) t i j p e l = absurd (neither (is_plain (form.Spec (spec.Storage c))) (stands (form.Spec (spec.Storage c)) s.Stmt) p e refl)
at_stmt (form.Spec (spec.Qualifier q)) t i j p e l = absurd (neither (is_plain (form.Spec (spec.Qualifier q))) (stands (form.Spec (spec.Qualifier q)) s.Stmt) p e refl)
at_stmt (form.Template (template.Many k)) t i j p e l = absurd (neither (is_plain (form.Template (template.Many k))) (stands (form.Template (template.Many k)) s.Stmt) p e refl)
at_stmt (form.Group group.List) t i j p e l = absurd (neither (is_plain (form.Group group.List)) (stands (form.Group group.List) s.Stmt) p e refl)
at_stmt (form.Item item.Function) t i j p e l = absurd (neither true (stands (form.Item item.Function) s.Stmt) p e refl)
at_stmt f t i j p e l = absurd (neither (is_plain f) (stands f s.Stmt) p e refl)

pub at_block : (f : Form) (t : Plain) (i j : State) → is_plain f ≡ true → stands f s.Block ≡ true → FormLaw s.Block f t i j → Law s.Block t i j
at_block (form.Stmt f) t i j p e l = l
at_block (form.Exp (exp.Int w)) t i j p e l = absurd (neither (is_plain (form.Exp (exp.Int w))) (stands (form.Exp (exp.Int w)) s.Block) p e refl)
at_block (form.Spec (spec.Storage c)) t i j p e l = absurd (neither (is_plain (form.Spec (spec.Storage c))) (stands (form.Spec (spec.Storage c)) s.Block) p e refl)
at_block (form.Spec (spec.Qualifier q)) t i j p e l = absurd (neither (is_plain (form.Spec (spec.Qualifier q))) (stands (form.Spec (spec.Qualifier q)) s.Block) p e refl)
at_block (form.Template (template.Many k)) t i j p e l = absurd (neither (is_plain (form.Template (template.Many k))) (stands (form.Template (template.Many k)) s.Block) p e refl)
at_block (form.Group group.List) t i j p e l = absurd (neither (is_plain (form.Group group.List)) (stands (form.Group group.List) s.Block) p e refl)
at_block (form.Item item.Function) t i j p e l = absurd (neither true (stands (form.Item item.Function) s.Block) p e refl)
at_block f t i j p e l = absurd (neither (is_plain f) (stands f s.Block) p e refl)

pub at_init_declarator : (f : Form) (t : Plain) (i j : State) → is_plain f ≡ true → stands f s.InitDeclarator ≡ true → FormLaw s.InitDeclarator f t i j → Law s.InitDeclarator t i j
at_init_declarator (form.Group group.InitDeclarator) t i j p e l = l
at_init_declarator (form.Exp (exp.Int w)) t i j p e l = absurd (neither (is_plain (form.Exp (exp.Int w))) (stands (form.Exp (exp.Int w)) s.InitDeclarator) p e refl)
at_init_declarator (form.Spec (spec.Storage c)) t i j p e l = absurd (neither (is_plain (form.Spec (spec.Storage c))) (stands (form.Spec (spec.Storage c)) s.InitDeclarator) p e refl)
at_init_declarator (form.Spec (spec.Qualifier q)) t i j p e l = absurd (neither (is_plain (form.Spec (spec.Qualifier q))) (stands (form.Spec (spec.Qualifier q)) s.InitDeclarator) p e refl)
at_init_declarator (form.Stmt stmt.Block) t i j p e l = absurd (neither (is_plain (form.Stmt stmt.Block)) (stands (form.Stmt stmt.Block) s.InitDeclarator) p e refl)
at_init_declarator (form.Template (template.Many k)) t i j p e l = absurd (neither (is_plain (form.Template (template.Many k))) (stands (form.Template (template.Many k)) s.InitDeclarator) p e refl)
at_init_declarator (form.Group group.List) t i j p e l = absurd (neither (is_plain (form.Group group.List)) (stands (form.Group group.List) s.InitDeclarator) p e refl)
at_init_declarator (form.Item item.Function) t i j p e l = absurd (neither true (stands (form.Item item.Function) s.InitDeclarator) p e refl)
at_init_declarator f t i j p e l = absurd (neither (is_plain f) (stands f s.InitDeclarator) p e refl)

pub at_initializer : (f : Form) (t : Plain) (i j : State) → is_plain f ≡ true → stands f s.Initializer ≡ true → FormLaw s.Initializer f t i j → Law s.Initializer t i j
at_initializer (form.Group group.Initializer) t i j p e l = l
at_initializer (form.Exp (exp.Int w)) t i j p e l = absurd (neither (is_plain (form.Exp (exp.Int w))) (stands (form.Exp (exp.Int w)) s.Initializer) p e refl)
at_initializer (form.Spec (spec.Storage c)) t i j p e l = absurd (neither (is_plain (form.Spec (spec.Storage c))) (stands (form.Spec (spec.Storage c)) s.Initializer) p e refl)
at_initializer (form.Spec (spec.Qualifier q)) t i j p e l = absurd (neither (is_plain (form.Spec (spec.Qualifier q))) (stands (form.Spec (spec.Qualifier q)) s.Initializer) p e refl)
at_initializer (form.Stmt stmt.Block) t i j p e l = absurd (neither (is_plain (form.Stmt stmt.Block)) (stands (form.Stmt stmt.Block) s.Initializer) p e refl)
at_initializer (form.Template (template.Many k)) t i j p e l = absurd (neither (is_plain (form.Template (template.Many k))) (stands (form.Template (template.Many k)) s.Initializer) p e refl)
at_initializer (form.Group group.List) t i j p e l = absurd (neither (is_plain (form.Group group.List)) (stands (form.Group group.List) s.Initializer) p e refl)
at_initializer (form.Item item.Function) t i j p e l = absurd (neither true (stands (form.Item item.Function) s.Initializer) p e refl)
at_initializer f t i j p e l = absurd (neither (is_plain f) (stands f s.Initializer) p e refl)

pub at_member_declarator : (f : Form) (t : Plain) (i j : State) → is_plain f ≡ true → stands f s.MemberDeclarator ≡ true → FormLaw s.MemberDeclarator f t i j → Law s.MemberDeclarator t i j
at_member_declarator (form.Group group.MemberDeclarator) t i j p e l = l
at_member_declarator (form.Exp (exp.Int w)) t i j p e l = absurd (neither (is_plain (form.Exp (exp.Int w))) (stands (form.Exp (exp.Int w)) s.MemberDeclarator) p e refl)
at_member_declarator (form.Spec (spec.Storage c)) t i j p e l = absurd (neither (is_plain (form.Spec (spec.Storage c))) (stands (form.Spec (spec.Storage c)) s.MemberDeclarator) p e refl)
at_member_declarator (form.Spec (spec.Qualifier q)) t i j p e l = absurd (neither (is_plain (form.Spec (spec.Qualifier q))) (stands (form.Spec (spec.Qualifier q)) s.MemberDeclarator) p e refl)
at_member_declarator (form.Stmt stmt.Block) t i j p e l = absurd (neither (is_plain (form.Stmt stmt.Block)) (stands (form.Stmt stmt.Block) s.MemberDeclarator) p e refl)
at_member_declarator (form.Template (template.Many k)) t i j p e l = absurd (neither (is_plain (form.Template (template.Many k))) (stands (form.Template (template.Many k)) s.MemberDeclarator) p e refl)
at_member_declarator (form.Group group.List) t i j p e l = absurd (neither (is_plain (form.Group group.List)) (stands (form.Group group.List) s.MemberDeclarator) p e refl)
at_member_declarator (form.Item item.Function) t i j p e l = absurd (neither true (stands (form.Item item.Function) s.MemberDeclarator) p e refl)
at_member_declarator f t i j p e l = absurd (neither (is_plain f) (stands f s.MemberDeclarator) p e refl)

pub at_width : (f : Form) (t : Plain) (i j : State) → is_plain f ≡ true → stands f s.Width ≡ true → FormLaw s.Width f t i j → Law s.Width t i j
at_width (form.Group group.Width) t i j p e l = l
at_width (form.Exp (exp.Int w)) t i j p e l = absurd (neither (is_plain (form.Exp (exp.Int w))) (stands (form.Exp (exp.Int w)) s.Width) p e refl)
at_width (form.Spec (spec.Storage c)) t i j p e l = absurd (neither (is_plain (form.Spec (spec.Storage c))) (stands (form.Spec (spec.Storage c)) s.Width) p e refl)
at_width (form.Spec (spec.Qualifier q)) t i j p e l = absurd (neither (is_plain (form.Spec (spec.Qualifier q))) (stands (form.Spec (spec.Qualifier q)) s.Width) p e refl)
at_width (form.Stmt stmt.Block) t i j p e l = absurd (neither (is_plain (form.Stmt stmt.Block)) (stands (form.Stmt stmt.Block) s.Width) p e refl)
at_width (form.Template (template.Many k)) t i j p e l = absurd (neither (is_plain (form.Template (template.Many k))) (stands (form.Template (template.Many k)) s.Width) p e refl)
at_width (form.Group group.List) t i j p e l = absurd (neither (is_plain (form.Group group.List)) (stands (form.Group group.List) s.Width) p e refl)
at_width (form.Item item.Function) t i j p e l = absurd (neither true (stands (form.Item item.Function) s.Width) p e refl)
at_width f t i j p e l = absurd (neither (is_plain f) (stands f s.Width) p e refl)

pub at_members : (f : Form) (t : Plain) (i j : State) → is_plain f ≡ true → stands f s.Members ≡ true → FormLaw s.Members f t i j → Law s.Members t i j
at_members (form.Group group.Members) t i j p e l = l
at_members (form.Exp (exp.Int w)) t i j p e l = absurd (neither (is_plain (form.Exp (exp.Int w))) (stands (form.Exp (exp.Int w)) s.Members) p e refl)
at_members (form.Spec (spec.Storage c)) t i j p e l = absurd (neither (is_plain (form.Spec (spec.Storage c))) (stands (form.Spec (spec.Storage c)) s.Members) p e refl)
at_members (form.Spec (spec.Qualifier q)) t i j p e l = absurd (neither (is_plain (form.Spec (spec.Qualifier q))) (stands (form.Spec (spec.Qualifier q)) s.Members) p e refl)
at_members (form.Stmt stmt.Block) t i j p e l = absurd (neither (is_plain (form.Stmt stmt.Block)) (stands (form.Stmt stmt.Block) s.Members) p e refl)
at_members (form.Template (template.Many k)) t i j p e l = absurd (neither (is_plain (form.Template (template.Many k))) (stands (form.Template (template.Many k)) s.Members) p e refl)
at_members (form.Group group.List) t i j p e l = absurd (neither (is_plain (form.Group group.List)) (stands (form.Group group.List) s.Members) p e refl)
at_members (form.Item item.Function) t i j p e l = absurd (neither true (stands (form.Item item.Function) s.Members) p e refl)
at_members f t i j p e l = absurd (neither (is_plain f) (stands f s.Members) p e refl)

pub at_enumerators : (f : Form) (t : Plain) (i j : State) → is_plain f ≡ true → stands f s.Enumerators ≡ true → FormLaw s.Enumerators f t i j → Law s.Enumerators t i j
at_enumerators (form.Group group.Enumerators) t i j p e l = l
at_enumerators (form.Exp (exp.Int w)) t i j p e l = absurd (neither (is_plain (form.Exp (exp.Int w))) (stands (form.Exp (exp.Int w)) s.Enumerators) p e refl)
at_enumerators (form.Spec (spec.Storage c)) t i j p e l = absurd (neither (is_plain (form.Spec (spec.Storage c))) (stands (form.Spec (spec.Storage c)) s.Enumerators) p e refl)
at_enumerators (form.Spec (spec.Qualifier q)) t i j p e l = absurd (neither (is_plain (form.Spec (spec.Qualifier q))) (stands (form.Spec (spec.Qualifier q)) s.Enumerators) p e refl)
at_enumerators (form.Stmt stmt.Block) t i j p e l = absurd (neither (is_plain (form.Stmt stmt.Block)) (stands (form.Stmt stmt.Block) s.Enumerators) p e refl)
at_enumerators (form.Template (template.Many k)) t i j p e l = absurd (neither (is_plain (form.Template (template.Many k))) (stands (form.Template (template.Many k)) s.Enumerators) p e refl)
at_enumerators (form.Group group.List) t i j p e l = absurd (neither (is_plain (form.Group group.List)) (stands (form.Group group.List) s.Enumerators) p e refl)
at_enumerators (form.Item item.Function) t i j p e l = absurd (neither true (stands (form.Item item.Function) s.Enumerators) p e refl)
at_enumerators f t i j p e l = absurd (neither (is_plain f) (stands f s.Enumerators) p e refl)

pub at_enumerator_value : (f : Form) (t : Plain) (i j : State) → is_plain f ≡ true → stands f s.EnumeratorValue ≡ true → FormLaw s.EnumeratorValue f t i j → Law s.EnumeratorValue t i j
at_enumerator_value (form.Group group.EnumeratorValue) t i j p e l = l
at_enumerator_value (form.Exp (exp.Int w)) t i j p e l = absurd (neither (is_plain (form.Exp (exp.Int w))) (stands (form.Exp (exp.Int w)) s.EnumeratorValue) p e refl)
at_enumerator_value (form.Spec (spec.Storage c)) t i j p e l = absurd (neither (is_plain (form.Spec (spec.Storage c))) (stands (form.Spec (spec.Storage c)) s.EnumeratorValue) p e refl)
at_enumerator_value (form.Spec (spec.Qualifier q)) t i j p e l = absurd (neither (is_plain (form.Spec (spec.Qualifier q))) (stands (form.Spec (spec.Qualifier q)) s.EnumeratorValue) p e refl)
at_enumerator_value (form.Stmt stmt.Block) t i j p e l = absurd (neither (is_plain (form.Stmt stmt.Block)) (stands (form.Stmt stmt.Block) s.EnumeratorValue) p e refl)
at_enumerator_value (form.Template (template.Many k)) t i j p e l = absurd (neither (is_plain (form.Template (template.Many k))) (stands (form.Template (template.Many k)) s.EnumeratorValue) p e refl)
at_enumerator_value (form.Group group.List) t i j p e l = absurd (neither (is_plain (form.Group group.List)) (stands (form.Group group.List) s.EnumeratorValue) p e refl)
at_enumerator_value (form.Item item.Function) t i j p e l = absurd (neither true (stands (form.Item item.Function) s.EnumeratorValue) p e refl)
at_enumerator_value f t i j p e l = absurd (neither (is_plain f) (stands f s.EnumeratorValue) p e refl)

pub at_else_part : (f : Form) (t : Plain) (i j : State) → is_plain f ≡ true → stands f s.ElsePart ≡ true → FormLaw s.ElsePart f t i j → Law s.ElsePart t i j
at_else_part (form.Group group.ElsePart) t i j p e l = l
at_else_part (form.Exp (exp.Int w)) t i j p e l = absurd (neither (is_plain (form.Exp (exp.Int w))) (stands (form.Exp (exp.Int w)) s.ElsePart) p e refl)
at_else_part (form.Spec (spec.Storage c)) t i j p e l = absurd (neither (is_plain (form.Spec (spec.Storage c))) (stands (form.Spec (spec.Storage c)) s.ElsePart) p e refl)
at_else_part (form.Spec (spec.Qualifier q)) t i j p e l = absurd (neither (is_plain (form.Spec (spec.Qualifier q))) (stands (form.Spec (spec.Qualifier q)) s.ElsePart) p e refl)
at_else_part (form.Stmt stmt.Block) t i j p e l = absurd (neither (is_plain (form.Stmt stmt.Block)) (stands (form.Stmt stmt.Block) s.ElsePart) p e refl)
at_else_part (form.Template (template.Many k)) t i j p e l = absurd (neither (is_plain (form.Template (template.Many k))) (stands (form.Template (template.Many k)) s.ElsePart) p e refl)
at_else_part (form.Group group.List) t i j p e l = absurd (neither (is_plain (form.Group group.List)) (stands (form.Group group.List) s.ElsePart) p e refl)
at_else_part (form.Item item.Function) t i j p e l = absurd (neither true (stands (form.Item item.Function) s.ElsePart) p e refl)
at_else_part f t i j p e l = absurd (neither (is_plain f) (stands f s.ElsePart) p e refl)
