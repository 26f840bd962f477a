-- Each node keeps the law of its form.
use Rattle.std.proofs.Common.{◌≡◌, refl, sym, subst, ℕ, Bool, true, false, List}
use Rattle.c_tokens.specs.declared.span.Span.{Span}
use Rattle.c_tokens.specs.declared.token.Shape.{Shape}
use Rattle.c_forms.specs.declared.pieces.Sort.{Sort}
use Rattle.c_forms.specs.declared.pieces.Sort.TheVariants as s
use Rattle.c_forms.specs.declared.forms.Form.{Form}
use Rattle.c_forms.specs.declared.forms.Form.TheVariants as form
use Rattle.c_forms.specs.declared.forms.DeclaratorForm.{DeclaratorForm}
use Rattle.c_forms.specs.declared.forms.DeclaratorForm.TheVariants as declarator
use Rattle.c_forms.specs.declared.forms.ItemForm.TheVariants as item
use Rattle.c_forms.specs.declared.forms.GroupForm.{GroupForm}
use Rattle.c_forms.specs.declared.forms.GroupForm.TheVariants as group
use Rattle.c_forms.specs.Forests.{Plain, node}
use Rattle.c_forms.specs.Measures.{pieces}
use Rattle.c_forms.specs.Places.{serves}
use Rattle.c_reader.specs.States.{State}
use Rattle.c_reader.specs.Tokens.{Spot}
use Rattle.c_syntax.specs.Reading.{Usual, inside, is_starred, spanned}
use Rattle.c_syntax.specs.Spells.{Spelling, Matches, IsNode, may_be, parts_spelled}
use Rattle.spelled_scopes.proofs.Declarations.{width_says, enumerator_value_says, initializer_says, type_name_says, member_declarator_says, member_says}
use Rattle.spelled_scopes.proofs.Declarators.{declarator_says}
use Rattle.spelled_scopes.proofs.Declared.{init_declarator_says, decl_says, param_says}
use Rattle.spelled_scopes.proofs.Expressions.{exp_says, init_says, stmt_says}
use Rattle.spelled_scopes.proofs.Functions.{function_says, declaration_says}
use Rattle.spelled_scopes.proofs.Laws.{Law, Names, Nears}
use Rattle.spelled_scopes.proofs.Parameters.{params_say}
use Rattle.spelled_scopes.proofs.Quiet.{Lawful, both}
use Rattle.spelled_scopes.proofs.Sorts.{FormLaw, GroupLaw}
use Rattle.spelled_scopes.proofs.Specifiers.{spec_says, members_say, else_says, enumerators_say, enumerator_says}

-- inside of a declarator there is one of its sort, and with a name where it has one
inner_law : (due : Sort) (t : Plain) (i j : State) → serves s.Declarator due ≡ true → Law (inside due s.InnerDeclarator) t i j → Names t i j × (due ≡ s.Declarator → Nears t j)
inner_law s.Declarator t i j e l = (l.0, λ d. l.1)
inner_law s.AbstractDeclarator t i j e l = (l, λ d. absurd (cc d))
inner_law s.ParamDeclarator t i j e l = (l, λ d. absurd (cc d))
inner_law s.MemberName t i j e l = (l.0, λ d. absurd (cc d))
inner_law s.InnerDeclarator t i j e l = (l, λ d. absurd (cc d))
inner_law due t i j e l = absurd (cc e)

not_absent : (due : Sort) (f : DeclaratorForm) → may_be due (form.Declarator f) ≡ true → f ≡ declarator.Absent → due ≡ s.Declarator → ⊥
not_absent due f m p q =
    let e : may_be s.Declarator (form.Declarator declarator.Absent) ≡ true = subst (λ d. may_be d (form.Declarator declarator.Absent) ≡ true) q (subst (λ f. may_be due (form.Declarator f) ≡ true) p m) in
    absurd (cc e)

module _ (w : List Shape) (S : Spelling) (lawful : Lawful S) (due : Sort) where
  group_law : (g : GroupForm) (sp : Span) (ts : List Plain) (i j : Spot) → Matches S w due (form.Group g) Usual (pieces (form.Group g)) ts i j → GroupLaw g (node (form.Group g) sp ts) i.state j.state
  group_law group.InitDeclarator sp ts i j m = init_declarator_says w S lawful due sp ts i j m
  group_law group.Initializer sp ts i j m = initializer_says w S lawful due sp ts i j m
  group_law group.MemberDeclarator sp ts i j m = member_declarator_says w S lawful due sp ts i j m
  group_law group.Width sp ts i j m = width_says w S lawful due sp ts i j m
  group_law group.Members sp ts i j m = members_say w S lawful due sp ts i j m
  group_law group.Enumerators sp ts i j m = enumerators_say w S lawful due sp ts i j m
  group_law group.EnumeratorValue sp ts i j m = enumerator_value_says w S lawful due sp ts i j m
  group_law group.ElsePart sp ts i j m = else_says w S lawful due sp ts i j m
  group_law g sp ts i j m = tt

  form_law : (f : Form) (sp : Span) (ts : List Plain) (i j : Spot) → may_be due f ≡ true → Matches S w due f Usual (pieces f) ts i j → FormLaw due f (node f sp ts) i.state j.state
  form_law (form.Exp f) sp ts i j e m = exp_says w S lawful due f sp ts i j m
  form_law form.TypeName sp ts i j e m = λ free. type_name_says w S lawful due sp ts i j m
  form_law (form.Spec f) sp ts i j e m = spec_says w S lawful due f sp ts i j m
  form_law form.Member sp ts i j e m = member_says w S lawful due sp ts i j m
  form_law form.Enumerator sp ts i j e m = enumerator_says w S lawful due sp ts i j m
  form_law (form.Declarator f) sp ts i j e m =
      let serving : serves s.Declarator due ≡ true = (both (serves s.Declarator due) _ e).0 in
      declarator_says w S lawful due (λ least t i j x. inner_law due t i.state j.state serving (lawful (inside due s.InnerDeclarator) least t i j x)) f sp ts i j (not_absent due f e) m
  form_law (form.Params f) sp ts i j e m = params_say w S lawful due f sp ts i j m
  form_law form.Param sp ts i j e m = param_says w S lawful due sp ts i j m
  form_law (form.Init f) sp ts i j e m = init_says w S lawful due f sp ts i j m
  form_law form.Decl sp ts i j e m = decl_says w S lawful due sp ts i j m
  form_law (form.Stmt f) sp ts i j e m = (stmt_says w S lawful due f sp ts i j m, refl)
  form_law (form.Item item.Function) sp ts i j e m = function_says w S lawful due sp ts i j m
  form_law (form.Item item.Declaration) sp ts i j e m = declaration_says w S lawful due sp ts i j m
  form_law (form.Item f) sp ts i j e m = absurd (cc e)
  form_law (form.Group g) sp ts i j e m = group_law g sp ts i j m
  form_law f sp ts i j e m = tt

either : (deeper inner : Spelling) → Lawful deeper → Lawful inner → (b : Bool) → Lawful (parts_spelled b deeper inner)
either deeper inner p q true = p
either deeper inner p q false = q

pub node_law : (levels : Type 0) (deeper inner : Spelling) (w : List Shape) → Lawful deeper → Lawful inner → (due : Sort) (least : ℕ) (t : Plain) (i j : Spot) → IsNode levels deeper inner w due least t i j → FormLaw due t.form t i.state j.state
node_law levels deeper inner w p q due least t i j n = subst (λ x. FormLaw due t.form x i.state j.state) (sym n.value)
    (form_law w (parts_spelled (is_starred t.form) deeper inner) (either deeper inner p q (is_starred t.form)) due t.form (spanned i.place j.place) n.parts i j n.may n.matches)
