-- The row of each node is ready where its tree stands.
use Rattle.std.proofs.Common.{◌≡◌, ◌⊎◌, inl, inr, refl, sym, subst, Bool, true, false, List}
use Rattle.c_tokens.specs.declared.span.Span.{Span}
use Rattle.c_tokens.specs.declared.token.Shape.{Shape}
use Rattle.c_forms.specs.declared.pieces.Sort.{Sort}
use Rattle.c_forms.specs.declared.pieces.Sort.TheVariants as s
use Rattle.c_forms.specs.declared.forms.Form.{Form}
use Rattle.c_forms.specs.declared.forms.Form.TheVariants as form
use Rattle.c_forms.specs.declared.forms.SpecForm.{SpecForm}
use Rattle.c_forms.specs.declared.forms.SpecForm.TheVariants as spec
use Rattle.c_forms.specs.declared.forms.DeclaratorForm.{DeclaratorForm}
use Rattle.c_forms.specs.declared.forms.DeclaratorForm.TheVariants as declarator
use Rattle.c_forms.specs.declared.forms.ParamsForm.TheVariants as params
use Rattle.c_forms.specs.declared.forms.InitForm.TheVariants as init
use Rattle.c_forms.specs.declared.forms.StmtForm.TheVariants as stmt
use Rattle.c_forms.specs.Forests.{Forest}
use Rattle.c_forms.specs.Fits.{fits}
use Rattle.c_forms.specs.Measures.{is_plain, pieces}
use Rattle.c_forms.specs.Places.{stands}
use Rattle.c_forms.specs.Rules.{is_nothing, among_rules}
use Rattle.c_reader.specs.States.{State}
use Rattle.c_reader.specs.Tokens.{Spot}
use Rattle.c_syntax.specs.Reading.{Usual}
use Rattle.c_syntax.specs.Spells.{is_declarator_of, is_of, may_be}
use Rattle.spelled_trees.specs.Told.{is_named}
use Rattle.spelled_trees.proofs.Parts.{both}
use Rattle.c_spelled.proofs.Alone.{type_name_form, member_form, enumerator_form, param_form, decl_form, block_form, init_declarator_form, initializer_form, member_declarator_form, width_form, members_form, enumerators_form, enumerator_value_form, else_part_form, spec_is, plain_spec_is, qualifier_is, init_is, params_is, exp_is, declarator_is, abstract_is, param_is, member_name_is, stmt_is}
use Rattle.ready_rows.proofs.Ready.{the_tree}
use Rattle.ready_rows.proofs.Standing.{Ready, Follows, Made}
use Rattle.ready_rows.proofs.Calm.{RowReady}
use Rattle.ready_expressions.proofs.Expressions.{exp_ready, init_ready, members_ready, else_ready}
use Rattle.ready_expressions.proofs.Statements.{stmt_ready}
use Rattle.ready_expressions.proofs.Declarators.{declarator_ready}
use Rattle.ready_expressions.proofs.Heads.{Good, good_fits, right_rules}
use Rattle.scoped_spelled.proofs.Specifiers.{qualifier_row, spec_ready}
use Rattle.scoped_spelled.proofs.Declarations.{value_ready, width_ready, initializer_ready, enumerators_ready, type_name_ready, param_ready}
use Rattle.scoped_spelled.proofs.Members.{enumerator_ready, init_declarator_ready}
use Rattle.scoped_spelled.proofs.Decls.{decl_ready}
use Rattle.scoped_spelled.proofs.Params.{params_ready}
use Rattle.scoped_spelled.proofs.MemberRows.{member_declarator_ready, member_ready}
use Rattle.printed_items.proofs.Ranks.{is_node, spec_form}

-- the row of a form that stands as a sort
abbrev pub Row : Sort → Form → Span → Forest → Spot → List Shape → Type 0
Row own f sp ts i after = Good own (the_tree f sp ts) → Ready own (the_tree f sp ts) i.state → Follows own (the_tree f sp ts) after → RowReady own f Usual (pieces f) ts i after (λ j. Made own (the_tree f sp ts) i.state j.state)

-- ---- which form may stand

of_declarator : (f : Form) (sp : Span) (ps : Forest) → is_named (the_tree f sp ps) ≡ true → is_of s.Declarator f ≡ true
of_declarator (form.Declarator declarator.Absent) sp ps n = absurd (cc n)
of_declarator (form.Declarator g) sp ps n = refl
of_declarator f sp ps n = refl

of_abstract : (f : Form) (sp : Span) (ps : Forest) → is_named (the_tree f sp ps) ≡ false → is_of s.AbstractDeclarator f ≡ true
of_abstract (form.Declarator declarator.Named) sp ps n = absurd (cc n)
of_abstract (form.Declarator g) sp ps n = refl
of_abstract f sp ps n = refl

-- sorts that ask for a name, or for none
abbrev is_strict : Sort → Bool
is_strict s.Declarator = true
is_strict s.AbstractDeclarator = true
is_strict due = false

of_loose_declarator : (due : Sort) (g : DeclaratorForm) → is_strict due ≡ false → is_declarator_of due g ≡ true
of_loose_declarator s.Declarator g e = absurd (cc e)
of_loose_declarator s.AbstractDeclarator g e = absurd (cc e)
of_loose_declarator due g e = refl

of_loose : (due : Sort) (f : Form) → is_strict due ≡ false → is_of due f ≡ true
of_loose due (form.Declarator g) e = of_loose_declarator due g e
of_loose due f e = refl

of_sort : (due : Sort) (f : Form) (sp : Span) (ps : Forest) (u : State) → Ready due (the_tree f sp ps) u → is_of due f ≡ true
of_sort s.Declarator f sp ps u r = of_declarator f sp ps r.1
of_sort s.AbstractDeclarator f sp ps u r = of_abstract f sp ps r.1.0
of_sort due f sp ps u r = of_loose due f refl

pub may_of : (due : Sort) (f : Form) (sp : Span) (ps : Forest) (u : State) → is_plain f ≡ true → stands f due ≡ true → Ready due (the_tree f sp ps) u → may_be due f ≡ true
may_of due f sp ps u p e r = both (is_plain f) _ p (both (stands f due) (is_of due f) e (of_sort due f sp ps u r))

-- ---- the row of each sort

-- sorts whose nodes begin where their trees do
abbrev pub is_row : Sort → Bool
is_row s.Item = false
is_row own = is_node own

pub row_is_node : (own : Sort) → is_row own ≡ true → is_node own ≡ true
row_is_node s.Item e = absurd (cc e)
row_is_node own e = e

one_row : (own : Sort) (f g : Form) (sp : Span) (ts : Forest) (i : Spot) (after : List Shape) → f ≡ g → Row own g sp ts i after → Row own f sp ts i after
one_row own f g sp ts i after e h = subst (λ f. Row own f sp ts i after) (sym e) h

fitting : (own : Sort) (f : Form) (sp : Span) (ts : Forest) → Good own (the_tree f sp ts) → fits (pieces f) ts ≡ true
fitting own f sp ts n = good_fits own (the_tree f sp ts) n

ruled : (own : Sort) (f : Form) (sp : Span) (ts : Forest) → Good own (the_tree f sp ts) → is_nothing (among_rules f ts) ≡ true
ruled own f sp ts n = right_rules f ts n.right

qualified : (g : SpecForm) (sp : Span) (ts : Forest) (i : Spot) (after : List Shape) → Row s.Qualifier (form.Spec g) sp ts i after
qualified (spec.Qualifier q) sp ts i after n r c = qualifier_row s.Qualifier q sp ts i after (λ u. u ≡ i.state) (fitting s.Qualifier (form.Spec (spec.Qualifier q)) sp ts n) (λ e. refl)
qualified (spec.Storage k) sp ts i after n r c = absurd (cc n.stands)
qualified g sp ts i after n r c = absurd (cc n.stands)

module _ (sp : Span) (ts : Forest) (i : Spot) (after : List Shape) where
  params_row : (f : Form) → (f ≡ form.Params params.Ids) ⊎ ((f ≡ form.Params params.Typed) ⊎ (f ≡ form.Params params.TypedAndMore)) → Row s.Params f sp ts i after
  params_row f (inl e) = one_row s.Params f _ sp ts i after e (λ n r c. params_ready s.Params params.Ids sp ts i after (fitting s.Params _ sp ts n) n.pure n.valid c r.0 r.1.0)
  params_row f (inr (inl e)) = one_row s.Params f _ sp ts i after e (λ n r c. params_ready s.Params params.Typed sp ts i after (fitting s.Params _ sp ts n) n.pure n.valid c r.0 r.1.0)
  params_row f (inr (inr e)) = one_row s.Params f _ sp ts i after e (λ n r c. params_ready s.Params params.TypedAndMore sp ts i after (fitting s.Params _ sp ts n) n.pure n.valid c r.0 r.1.0)

  init_row : (f : Form) → (f ≡ form.Init init.One) ⊎ (f ≡ form.Init init.Braces) → Row s.Init f sp ts i after
  init_row f (inl e) = one_row s.Init f _ sp ts i after e (λ n r c. init_ready s.Init init.One sp ts i after (fitting s.Init _ sp ts n) n.pure r)
  init_row f (inr e) = one_row s.Init f _ sp ts i after e (λ n r c. init_ready s.Init init.Braces sp ts i after (fitting s.Init _ sp ts n) n.pure r)

  pub row_of : (own : Sort) (f : Form) → is_row own ≡ true → may_be own f ≡ true → Row own f sp ts i after
  row_of s.Exp f x m = let o = exp_is f m in one_row s.Exp f _ sp ts i after o.1 (λ n r c. exp_ready s.Exp o.0 sp ts i after (fitting s.Exp _ sp ts n) n.pure r)
  row_of s.TypeName f x m = one_row s.TypeName f _ sp ts i after (type_name_form f m) (λ n r c. type_name_ready s.TypeName sp ts i after (fitting s.TypeName _ sp ts n) n.pure n.valid (ruled s.TypeName _ sp ts n) c r)
  row_of s.Spec f x m = let o = spec_form f (spec_is f m) in one_row s.Spec f _ sp ts i after o.1 (λ n r c. spec_ready s.Spec o.0 sp ts i after (fitting s.Spec _ sp ts n) n.pure (ruled s.Spec _ sp ts n) r.0 r.1)
  row_of s.PlainSpec f x m = let o = spec_form f (plain_spec_is f m) in one_row s.PlainSpec f _ sp ts i after o.1 (λ n r c. spec_ready s.PlainSpec o.0 sp ts i after (fitting s.PlainSpec _ sp ts n) n.pure (ruled s.PlainSpec _ sp ts n) r.0 r.1)
  row_of s.Qualifier f x m = let o = spec_form f (qualifier_is f m) in one_row s.Qualifier f _ sp ts i after o.1 (qualified o.0 sp ts i after)
  row_of s.Member f x m = one_row s.Member f _ sp ts i after (member_form f m) (λ n r c. member_ready s.Member sp ts i after (fitting s.Member _ sp ts n) n.pure n.valid (ruled s.Member _ sp ts n) r)
  row_of s.Enumerator f x m = one_row s.Enumerator f _ sp ts i after (enumerator_form f m) (λ n r c. enumerator_ready s.Enumerator sp ts i after (fitting s.Enumerator _ sp ts n) n.pure r)
  row_of s.Declarator f x m = let o = declarator_is f m in one_row s.Declarator f _ sp ts i after o.1 (λ n r c. declarator_ready s.Declarator o.0 sp ts i after (fitting s.Declarator _ sp ts n) n.pure n.valid (ruled s.Declarator _ sp ts n) r.0 r.1)
  row_of s.AbstractDeclarator f x m = let o = abstract_is f m in one_row s.AbstractDeclarator f _ sp ts i after o.1 (λ n r c. declarator_ready s.AbstractDeclarator o.0 sp ts i after (fitting s.AbstractDeclarator _ sp ts n) n.pure n.valid (ruled s.AbstractDeclarator _ sp ts n) r.0 r.1)
  row_of s.ParamDeclarator f x m = let o = param_is f m in one_row s.ParamDeclarator f _ sp ts i after o.1 (λ n r c. declarator_ready s.ParamDeclarator o.0 sp ts i after (fitting s.ParamDeclarator _ sp ts n) n.pure n.valid (ruled s.ParamDeclarator _ sp ts n) r.0 r.1)
  row_of s.MemberName f x m = let o = member_name_is f m in one_row s.MemberName f _ sp ts i after o.1 (λ n r c. declarator_ready s.MemberName o.0 sp ts i after (fitting s.MemberName _ sp ts n) n.pure n.valid (ruled s.MemberName _ sp ts n) r.0 r.1)
  row_of s.Params f x m = params_row f (params_is f m)
  row_of s.Param f x m = one_row s.Param f _ sp ts i after (param_form f m) (λ n r c. param_ready s.Param sp ts i after (fitting s.Param _ sp ts n) n.pure n.valid (ruled s.Param _ sp ts n) c r)
  row_of s.Init f x m = init_row f (init_is f m)
  row_of s.Decl f x m = one_row s.Decl f _ sp ts i after (decl_form f m) (λ n r c. decl_ready s.Decl sp ts i after (fitting s.Decl _ sp ts n) n.pure n.valid (ruled s.Decl _ sp ts n) r)
  row_of s.Stmt f x m = let o = stmt_is f m in one_row s.Stmt f _ sp ts i after o.1 (λ n r c. stmt_ready s.Stmt o.0 sp ts i after (fitting s.Stmt _ sp ts n) n.pure n.valid (ruled s.Stmt _ sp ts n) c r)
  row_of s.Block f x m = one_row s.Block f _ sp ts i after (block_form f m) (λ n r c. stmt_ready s.Block stmt.Block sp ts i after (fitting s.Block _ sp ts n) n.pure n.valid (ruled s.Block _ sp ts n) (λ e. absurd (cc e)) r)
  row_of s.InitDeclarator f x m = one_row s.InitDeclarator f _ sp ts i after (init_declarator_form f m) (λ n r c. init_declarator_ready s.InitDeclarator sp ts i after (fitting s.InitDeclarator _ sp ts n) n.pure n.valid (ruled s.InitDeclarator _ sp ts n) r.0 r.1)
  row_of s.Initializer f x m = one_row s.Initializer f _ sp ts i after (initializer_form f m) (λ n r c. initializer_ready s.Initializer sp ts i after (fitting s.Initializer _ sp ts n) n.pure r)
  row_of s.MemberDeclarator f x m = one_row s.MemberDeclarator f _ sp ts i after (member_declarator_form f m) (λ n r c. member_declarator_ready s.MemberDeclarator sp ts i after (fitting s.MemberDeclarator _ sp ts n) n.pure n.valid (ruled s.MemberDeclarator _ sp ts n) r.1 r.0)
  row_of s.Width f x m = one_row s.Width f _ sp ts i after (width_form f m) (λ n r c. width_ready s.Width sp ts i after (fitting s.Width _ sp ts n) n.pure r)
  row_of s.Members f x m = one_row s.Members f _ sp ts i after (members_form f m) (λ n r c. members_ready s.Members sp ts i after (fitting s.Members _ sp ts n) n.pure r)
  row_of s.Enumerators f x m = one_row s.Enumerators f _ sp ts i after (enumerators_form f m) (λ n r c. enumerators_ready s.Enumerators sp ts i after (fitting s.Enumerators _ sp ts n) n.pure r)
  row_of s.EnumeratorValue f x m = one_row s.EnumeratorValue f _ sp ts i after (enumerator_value_form f m) (λ n r c. value_ready s.EnumeratorValue sp ts i after (fitting s.EnumeratorValue _ sp ts n) n.pure r)
  row_of s.ElsePart f x m = one_row s.ElsePart f _ sp ts i after (else_part_form f m) (λ n r c. else_ready s.ElsePart sp ts i after (fitting s.ElsePart _ sp ts n) n.pure c r)
  row_of own f x m = absurd (cc x)
