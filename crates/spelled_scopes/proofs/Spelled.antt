-- What is spelled keeps the law of its sort.
use Rattle.std.proofs.Common.{◌≡◌, refl, ap, sym, subst, ◌∙◌, inl, inr, ℕ, zero, suc, Bool, true, false, List, [], ◌∷◌, Some}
use Rattle.c_tokens.specs.declared.span.Span.{Span}
use Rattle.c_tokens.specs.declared.token.Word.{Word}
use Rattle.c_tokens.specs.declared.token.Shape.{Shape}
use Rattle.c_forms.specs.declared.pieces.Event.TheVariants as event
use Rattle.c_forms.specs.declared.pieces.Sort.{Sort}
use Rattle.c_forms.specs.declared.pieces.Sort.TheVariants as s
use Rattle.c_forms.specs.declared.forms.Form.{Form}
use Rattle.c_forms.specs.declared.forms.Form.TheVariants as form
use Rattle.c_forms.specs.declared.forms.ExpForm.TheVariants as exp
use Rattle.c_forms.specs.declared.forms.SpecForm.TheVariants as spec
use Rattle.c_forms.specs.declared.forms.StmtForm.TheVariants as stmt
use Rattle.c_forms.specs.declared.forms.ItemForm.TheVariants as item
use Rattle.c_forms.specs.declared.forms.TemplateForm.TheVariants as template
use Rattle.c_forms.specs.declared.forms.GroupForm.TheVariants as group
use Rattle.c_forms.specs.Forests.{Plain, Forest, node}
use Rattle.c_forms.specs.Measures.{is_plain}
use Rattle.c_forms.specs.Places.{stands}
use Rattle.c_reader.specs.States.{AsValue, State, nothing_kept, happens}
use Rattle.c_reader.specs.States as States
use Rattle.c_reader.specs.Tokens.{Spot, step, turned, raw_at}
use Rattle.c_syntax.specs.Allowed.{places}
use Rattle.c_syntax.specs.Spells.{Spelling, nothing_spelled, IsNode, Wraps, AnyWord, ValueWord, after_name, may_be, started_by, has_no_specifiers, At, InPlace, Spells}
use Rattle.scope_meanings.specs.declared.meaning.NameUse.{NameUse}
use Rattle.scope_meanings.specs.declared.meaning.NameUse.TheVariants as naming
use Rattle.spelled_scopes.specs.Meant.{Goes}
use Rattle.spelled_scopes.proofs.Joined.{state_at}
use Rattle.spelled_scopes.proofs.Laws.{Law, Says, Named, Noted, Listed, Finishes}
use Rattle.spelled_scopes.proofs.Nodes.{node_law}
use Rattle.spelled_scopes.proofs.Quiet.{Lawful, both}
use Rattle.spelled_scopes.proofs.Seen.{value_word}
use Rattle.spelled_scopes.proofs.Sorts.{FormLaw, Starts, at_exp, at_type_name, at_spec, at_plain_spec, at_qualifier, at_member, at_enumerator, at_declarator, at_abstract, at_param_declarator, at_member_name, at_inner, at_params, at_param, at_init, at_decl, at_stmt, at_block, at_init_declarator, at_initializer, at_member_declarator, at_width, at_members, at_enumerators, at_enumerator_value, at_else_part}

-- ---- words and literals

id_says : (word : Word) (sp : Span) (t : Plain) (i j : State) → t ≡ node (form.Id word) sp [] → i ≡ j → Says naming.Nothing (t ∷ []) i j
id_says word sp t i j v e = subst (λ j. Says naming.Nothing (t ∷ []) i j) e (subst (λ t. Says naming.Nothing (t ∷ []) i i) (sym v) (λ f. (record { scoped = refl; declared = refl; aside = refl }, f)))

literal_says : (word : Word) (sp : Span) (t : Plain) (i j : State) → t ≡ node (form.Literal word) sp [] → i ≡ j → (u : NameUse) → Says u (t ∷ []) i j
literal_says word sp t i j v e u = subst (λ j. Says u (t ∷ []) i j) e (subst (λ t. Says u (t ∷ []) i i) (sym v) (λ f. (record { scoped = refl; declared = refl; aside = refl }, f)))

abbrev noted_says : (w : List Shape) (t : Plain) (i j : Spot) → AnyWord w t i → after_name w i ≡ j → Noted t i.state j.state
noted_says w t i j a e =
    let end : (after_name w i).state ≡ j.state = state_at (after_name w i) j e in record {
      word = a.0;
      span = _;
      value = a.1.1;
      entries = ap (λ (s : State). s.entries) (sym end);
      aside = ap (λ (s : State). s.aside) (sym end);
      name = ap (λ (s : State). s.kept.name) (sym end) ∙ ap (λ x. Some (States.number_of x)) a.1.0;
    }

named_says : (w : List Shape) (t : Plain) (i j : Spot) → ValueWord w t i → after_name w i ≡ j → Named t i.state j.state
named_says w t i j v e =
    let end : (after_name w i).state ≡ j.state = state_at (after_name w i) j e in record {
      noted = noted_says w t i j v.0 e;
      near = ap (λ (s : State). s.kept.near) (sym end);
      has = ap (λ (s : State). s.kept.has_type) (sym end);
      typedef = ap (λ (s : State). s.kept.is_typedef) (sym end);
      is_value = value_word i.state (raw_at w i.place) v.0.0 v.0.1.0 v.1;
    }

listed_says : (w : List Shape) (t : Plain) (i j : Spot) → ValueWord w t i → turned (happens event.DeclareValue) (after_name w i) ≡ j → Listed t i.state j.state
listed_says w t i j v e =
    let end : happens event.DeclareValue (after_name w i).state ≡ j.state = state_at (turned (happens event.DeclareValue) (after_name w i)) j e in record {
      word = v.0.0;
      span = _;
      value = v.0.1.1;
      entries = ap (λ (s : State). s.entries) (sym end) ∙ ap (λ x. AsValue (States.number_of x) ∷ i.state.entries) v.0.1.0;
      aside = ap (λ (s : State). s.aside) (sym end);
      has = ap (λ (s : State). s.kept.has_type) (sym end);
      is_value = value_word i.state (raw_at w i.place) v.0.0 v.0.1.0 v.1;
    }

-- ---- items

started : (b : Bool) (t : Plain) (i : Spot) (j : State) → Finishes t (started_by b i).state j → Finishes t i.state j
started true t i j x = record { scoped = x.scoped; aside = x.aside; free = x.free }
started false t i j x = x

starts : (b : Bool) (i : Spot) → i.state.kept ≡ nothing_kept → Starts item.Function (started_by b i).state
starts true i f = (ap (λ k. k.has_type) f, (ap (λ k. k.is_typedef) f, ap (λ k. k.name) f))
starts false i f = (ap (λ k. k.has_type) f, (ap (λ k. k.is_typedef) f, ap (λ k. k.name) f))

item_says : (f : Form) (sp : Span) (ps : Forest) (i : Spot) (j : State) → may_be s.Item f ≡ true
    → FormLaw s.Item f (record { form = f; span = sp; parts = ps }) (started_by (has_no_specifiers (record { form = f; span = sp; parts = ps })) i).state j
    → i.state.kept ≡ nothing_kept → Finishes (record { form = f; span = sp; parts = ps }) i.state j
item_says (form.Item item.Function) sp ps i j e l f =
    let t : Plain = record { form = form.Item item.Function; span = sp; parts = ps } in
    started (has_no_specifiers t) t i j (l (starts (has_no_specifiers t) i f))
item_says (form.Item item.Declaration) sp ps i j e l f = l f
item_says (form.Item f) sp ps i j e l g = absurd (cc e)
item_says (form.Exp (exp.Int w)) sp ps i j e l g = absurd (cc e)
item_says (form.Spec (spec.Storage c)) sp ps i j e l g = absurd (cc e)
item_says (form.Spec (spec.Qualifier q)) sp ps i j e l g = absurd (cc e)
item_says (form.Stmt stmt.Block) sp ps i j e l g = absurd (cc e)
item_says (form.Template (template.Many k)) sp ps i j e l g = absurd (cc e)
item_says (form.Group group.List) sp ps i j e l g = absurd (cc e)
item_says f sp ps i j e l g = absurd (cc e)

-- ---- each sort

module _ (levels : Type 0) (deeper inner : Spelling) (w : List Shape) (p : Lawful deeper) (q : Lawful inner) where
  -- a node, by what its form makes of it
  by_node : (due : Sort) → ((f : Form) (t : Plain) (i j : State) → is_plain f ≡ true → stands f due ≡ true → FormLaw due f t i j → Law due t i j)
      → (least : ℕ) (t : Plain) (i j : Spot) → IsNode levels deeper inner w due least t i j → Law due t i.state j.state
  by_node due by least t i j n =
      let a = both (is_plain t.form) _ n.may in
      let b = both (stands t.form due) _ a.1 in
      by t.form t i.state j.state a.0 b.0 (node_law levels deeper inner w p q due least t i j n)

  wrapped : (R : Plain → State → State → Type 0) (due : Sort) (t : Plain) (i j : Spot) (x : Wraps levels deeper w due t i j) → R t i.state x.last.state → R t i.state j.state
  wrapped R due t i j x r = subst (λ s. R t i.state s) (state_at (step x.last) j x.ends) r

  pub at_law : Lawful (At levels deeper inner w)
  at_law s.Exp least t i j (inl n) = by_node s.Exp at_exp least t i j n
  at_law s.Exp least t i j (inr x) = wrapped (Law s.Exp) s.Exp t i j x (p s.Exp 1 t (step i) x.last x.within)
  at_law s.Declarator least t i j (inl n) = by_node s.Declarator at_declarator least t i j n
  at_law s.Declarator least t i j (inr x) = wrapped (Law s.Declarator) s.Declarator t i j x (p s.Declarator 1 t (step i) x.last x.within)
  at_law s.AbstractDeclarator least t i j (inl n) = by_node s.AbstractDeclarator at_abstract least t i j n
  at_law s.AbstractDeclarator least t i j (inr x) = wrapped (Law s.AbstractDeclarator) s.AbstractDeclarator t i j x (p s.AbstractDeclarator 1 t (step i) x.last x.within)
  at_law s.ParamDeclarator least t i j (inl n) = by_node s.ParamDeclarator at_param_declarator least t i j n
  at_law s.ParamDeclarator least t i j (inr x) = wrapped (Law s.ParamDeclarator) s.ParamDeclarator t i j x (p s.ParamDeclarator 1 t (step i) x.last x.within)
  at_law s.MemberName least t i j (inl n) = by_node s.MemberName at_member_name least t i j n
  at_law s.MemberName least t i j (inr x) = wrapped (Law s.MemberName) s.MemberName t i j x (p s.Declarator 1 t (step i) x.last x.within).0
  at_law s.Id least t i j x = id_says x.0.0 _ t i.state j.state x.0.1.1 (state_at (step i) j x.1)
  at_law s.DeclaredId least t i j x = named_says w t i j x.0 x.1
  at_law s.ParameterId least t i j x = listed_says w t i j x.0 x.1
  at_law s.EnumeratorId least t i j x = noted_says w t i j x.0 x.1
  at_law s.Literal least t i j x = literal_says x.0.0 _ t i.state j.state x.0.1.1 (state_at (step i) j x.1)
  at_law s.Spec least t i j x = by_node s.Spec at_spec least t i j x.1
  at_law s.PlainSpec least t i j x = by_node s.PlainSpec at_plain_spec least t i j x.1
  at_law s.Params least t i j x = by_node s.Params at_params least t i j x.1
  at_law s.BlockItem least t i j (inl x) = by_node s.Decl at_decl least t i j x.1
  at_law s.BlockItem least t i j (inr x) = λ u f.
      let l = by_node s.Stmt at_stmt least t i x.0 x.1.0 u f in
      subst (λ z. Goes u (t ∷ []) i.state z × (z.kept ≡ nothing_kept)) (state_at (turned (happens event.Statements) x.0) j x.1.1) (record { scoped = l.0.scoped; declared = l.0.declared; aside = l.0.aside }, l.1)
  at_law s.Item least t i j x = item_says t.form t.span t.parts i j.state x.may (node_law levels deeper inner w p q s.Item least t (started_by (has_no_specifiers t) i) j x)
  at_law s.TypeName least t i j n = by_node s.TypeName at_type_name least t i j n
  at_law s.Qualifier least t i j n = by_node s.Qualifier at_qualifier least t i j n
  at_law s.Member least t i j n = by_node s.Member at_member least t i j n
  at_law s.Enumerator least t i j n = by_node s.Enumerator at_enumerator least t i j n
  at_law s.InnerDeclarator least t i j n = by_node s.InnerDeclarator at_inner least t i j n
  at_law s.Param least t i j n = by_node s.Param at_param least t i j n
  at_law s.Init least t i j n = by_node s.Init at_init least t i j n
  at_law s.Decl least t i j n = by_node s.Decl at_decl least t i j n
  at_law s.Stmt least t i j n = by_node s.Stmt at_stmt least t i j n
  at_law s.Block least t i j n = by_node s.Block at_block least t i j n
  at_law s.InitDeclarator least t i j n = by_node s.InitDeclarator at_init_declarator least t i j n
  at_law s.Initializer least t i j n = by_node s.Initializer at_initializer least t i j n
  at_law s.MemberDeclarator least t i j n = by_node s.MemberDeclarator at_member_declarator least t i j n
  at_law s.Width least t i j n = by_node s.Width at_width least t i j n
  at_law s.Members least t i j n = by_node s.Members at_members least t i j n
  at_law s.Enumerators least t i j n = by_node s.Enumerators at_enumerators least t i j n
  at_law s.EnumeratorValue least t i j n = by_node s.EnumeratorValue at_enumerator_value least t i j n
  at_law s.ElsePart least t i j n = by_node s.ElsePart at_else_part least t i j n
  at_law due least t i j n = tt

nothing_law : Lawful nothing_spelled
nothing_law due least t i j x = absurd x

in_place_law : (n : ℕ) (levels : Type 0) (deeper : Spelling) (w : List Shape) → Lawful deeper → Lawful (InPlace n levels deeper w)
unfolding InPlace
in_place_law zero levels deeper w p = nothing_law
in_place_law (suc n) levels deeper w p = at_law levels deeper (InPlace n levels deeper w) w p (in_place_law n levels deeper w p)

-- What is spelled keeps the law of its sort.
pub spelled_law : (d : ℕ) (w : List Shape) → Lawful (Spells d w)
unfolding Spells
spelled_law zero w = in_place_law places ⊥ nothing_spelled w nothing_law
spelled_law (suc d) w = in_place_law places (Unit {0}) (Spells d w) w (spelled_law d w)
