-- What a declarator tells, by the sort as which it is spelled.
use Rattle.std.proofs.Common.{◌≡◌, ◌⊎◌, inl, inr, refl, ap, sym, ◌∙◌, ℕ, Bool, true, false, not, ◌||◌, List, Option, None, is_some}
use Rattle.c_tokens.specs.declared.span.Span.{Span}
use Rattle.c_tokens.specs.declared.token.Shape.{Shape}
use Rattle.c_forms.specs.declared.pieces.Sort.{Sort}
use Rattle.c_forms.specs.declared.pieces.Sort.TheVariants as s
use Rattle.c_forms.specs.declared.forms.Form.TheVariants as form
use Rattle.c_forms.specs.declared.forms.DeclaratorForm.{DeclaratorForm}
use Rattle.c_forms.specs.declared.forms.DeclaratorForm.TheVariants as declarator
use Rattle.c_forms.specs.Forests.{Plain, forest, node}
use Rattle.c_forms.specs.Measures.{pieces}
use Rattle.c_forms.specs.Places.{stands, serves}
use Rattle.c_forms.specs.Rules.{names, has_ids}
use Rattle.c_reader.specs.States.{is_bare, has_parameters}
use Rattle.c_reader.specs.Tokens.{Spot}
use Rattle.c_syntax.specs.Reading.{Usual, is_absent}
use Rattle.c_syntax.specs.Spells.{Spelling, Matches, may_be}
use Rattle.spelled_trees.specs.Effects.{needs, Meets, is_plain_sort}
use Rattle.spelled_trees.specs.Told.{is_named, Declared, Told}
use Rattle.spelled_trees.proofs.Declarators.{Within, pointer, array, function}

or_not : (n h b : Bool) → (h ≡ true → b ≡ true) → (b ≡ true → n ≡ true) → (n || not h) ≡ true
or_not true h b f g = refl
or_not false true b f g = absurd (cc (g (f refl)))
or_not false false b f g = refl

or_both : {a b c d : Bool} → a ≡ c → b ≡ d → (a || b) ≡ (c || d)
or_both {b = b} {c = c} e f = ap (λ x. x || b) e ∙ ap (λ x. c || x) f

unnamed : {o : Option ℕ} → o ≡ None → is_some o ≡ true → ⊥
unnamed e h = cc (e, h)

module _ (w : List Shape) (P : Spelling) (T : (due : Sort) (least : ℕ) (t : Plain) (i j : Spot) → P due least t i j → is_plain_sort due ≡ true → Meets (needs due) i.state.kept → Told w due t i j)
    (S : (due : Sort) (least : ℕ) (t : Plain) (i j : Spot) → P due least t i j → stands t.form due ≡ true) where
  abbrev Spelled : Sort → DeclaratorForm → List Plain → Spot → Spot → Type 0
  Spelled own g ts i j = Matches P w own (form.Declarator g) Usual (pieces (form.Declarator g)) ts i j

  inner_declared : (ts : List Plain) (i j : Spot) (W : Within P s.Declarator ts i j) → Declared W.part W.upto.state.kept
  inner_declared ts i j W = (T s.Declarator W.least W.part W.from W.upto W.spelled refl tt).besides

  inner_abstract : (ts : List Plain) (i j : Spot) (W : Within P s.AbstractDeclarator ts i j) → i.state.kept.name ≡ None → (is_named W.part ≡ false) × (W.upto.state.kept.name ≡ None)
  inner_abstract ts i j W h = let R = T s.AbstractDeclarator W.least W.part W.from W.upto W.spelled refl (W.begins h) in (R.besides, R.leaves.kept ∙ W.begins h)

  inner_of_param : (ts : List Plain) (i j : Spot) (W : Within P s.ParamDeclarator ts i j) → i.state.kept.name ≡ None → is_some W.upto.state.kept.name ≡ true → is_named W.part ≡ true
  inner_of_param ts i j W h = (T s.ParamDeclarator W.least W.part W.from W.upto W.spelled refl (W.begins h)).besides

  inner_of_member : (ts : List Plain) (i j : Spot) (W : Within P s.MemberName ts i j) → is_named W.part ≡ true
  inner_of_member ts i j W = (T s.Declarator W.least W.part W.from W.upto W.spelled refl tt).besides.named

  -- ---- a declarator with a name

  pub declared : (g : DeclaratorForm) (sp : Span) (ts : List Plain) (i j : Spot) → may_be s.Declarator (form.Declarator g) ≡ true → Spelled s.Declarator g ts i j → Declared (node (form.Declarator g) sp ts) j.state.kept
  declared declarator.Named sp ts i j m M = let b = (T s.DeclaredId 0 M.first i M.place M.is_first refl tt).besides in
      let e = sym (ap (λ (x : Spot). x.state.kept.near) M.are_others.1) ∙ b in record { named = refl; bare = ap is_bare e; function = ap has_parameters e }
  declared declarator.Absent sp ts i j m M = absurd (cc m)
  declared declarator.Pointer sp ts i j m M = let A = pointer w P T S s.Declarator Usual ts i j M in let D = inner_declared ts i j A.within in
      record { named = A.within.named ∙ D.named; bare = A.within.bare; function = A.parameters ∙ (D.function ∙ sym A.function) }
  declared declarator.ArrayOf sp ts i j m M = let A = array w P T S s.Declarator Usual ts i j M in let D = inner_declared ts i j A.within in
      record { named = A.within.named ∙ D.named; bare = A.within.bare; function = A.parameters ∙ (D.function ∙ sym A.function) }
  declared declarator.FunctionOf sp ts i j m M = let A = function w P T S s.Declarator refl Usual ts i j M in let D = inner_declared ts i j A.within in
      record { named = A.within.named ∙ D.named; bare = A.within.bare; function = A.parameters ∙ or_both (D.bare ∙ sym A.next) (D.function ∙ sym A.function) }

  -- ---- one without

  pub abstract : (g : DeclaratorForm) (sp : Span) (ts : List Plain) (i j : Spot) → may_be s.AbstractDeclarator (form.Declarator g) ≡ true → i.state.kept.name ≡ None → Spelled s.AbstractDeclarator g ts i j → is_named (node (form.Declarator g) sp ts) ≡ false
  abstract declarator.Named sp ts i j m h M = absurd (cc m)
  abstract declarator.Absent sp ts i j m h M = refl
  abstract declarator.Pointer sp ts i j m h M = let A = pointer w P T S s.AbstractDeclarator Usual ts i j M in A.within.named ∙ (inner_abstract ts i j A.within h).0
  abstract declarator.ArrayOf sp ts i j m h M = let A = array w P T S s.AbstractDeclarator Usual ts i j M in A.within.named ∙ (inner_abstract ts i j A.within h).0
  abstract declarator.FunctionOf sp ts i j m h M = let A = function w P T S s.AbstractDeclarator refl Usual ts i j M in A.within.named ∙ (inner_abstract ts i j A.within h).0

  -- ---- one of a parameter

  by_name : (ts : List Plain) (i j : Spot) (W : Within P s.ParamDeclarator ts i j) → i.state.kept.name ≡ None → is_some j.state.kept.name ≡ true → names (forest ts) ≡ true
  by_name ts i j W h k = W.named ∙ inner_of_param ts i j W h (sym (ap is_some W.name) ∙ k)

  pub of_param : (g : DeclaratorForm) (sp : Span) (ts : List Plain) (i j : Spot) → i.state.kept.name ≡ None → Spelled s.ParamDeclarator g ts i j → is_some j.state.kept.name ≡ true → is_named (node (form.Declarator g) sp ts) ≡ true
  of_param declarator.Named sp ts i j h M k = refl
  of_param declarator.Absent sp ts i j h M k = absurd (unnamed (sym (ap (λ (x : Spot). x.state.kept.name) M.1) ∙ h) k)
  of_param declarator.Pointer sp ts i j h M k = by_name ts i j (pointer w P T S s.ParamDeclarator Usual ts i j M).within h k
  of_param declarator.ArrayOf sp ts i j h M k = by_name ts i j (array w P T S s.ParamDeclarator Usual ts i j M).within h k
  of_param declarator.FunctionOf sp ts i j h M k = by_name ts i j (function w P T S s.ParamDeclarator refl Usual ts i j M).within h k

  -- ---- one of a member

  of_named : (ts : List Plain) (i j : Spot) (W : Within P s.MemberName ts i j) → names (forest ts) ≡ true
  of_named ts i j W = W.named ∙ inner_of_member ts i j W

  pub of_member : (g : DeclaratorForm) (sp : Span) (ts : List Plain) (i j : Spot) → Spelled s.MemberName g ts i j → (is_absent (node (form.Declarator g) sp ts) ≡ true) ⊎ (is_named (node (form.Declarator g) sp ts) ≡ true)
  of_member declarator.Named sp ts i j M = inr refl
  of_member declarator.Absent sp ts i j M = inl refl
  of_member declarator.Pointer sp ts i j M = inr (of_named ts i j (pointer w P T S s.MemberName Usual ts i j M).within)
  of_member declarator.ArrayOf sp ts i j M = inr (of_named ts i j (array w P T S s.MemberName Usual ts i j M).within)
  of_member declarator.FunctionOf sp ts i j M = inr (of_named ts i j (function w P T S s.MemberName refl Usual ts i j M).within)

  -- ---- an identifier list stands where there is a name

  pub listed : (own : Sort) → is_plain_sort own ≡ true → serves s.Declarator own ≡ true → (ts : List Plain) (i j : Spot) → Meets (needs own) i.state.kept → Spelled own declarator.FunctionOf ts i j → (names (forest ts) || not (has_ids (forest ts))) ≡ true
  listed s.Declarator p q ts i j h M = let A = function w P T S s.Declarator refl Usual ts i j M in or_not (names (forest ts)) (has_ids (forest ts)) (is_some A.within.upto.state.kept.name) A.ids
      (λ k. A.within.named ∙ (inner_declared ts i j A.within).named)
  listed s.AbstractDeclarator p q ts i j h M = let A = function w P T S s.AbstractDeclarator refl Usual ts i j M in or_not (names (forest ts)) (has_ids (forest ts)) (is_some A.within.upto.state.kept.name) A.ids
      (λ k. absurd (unnamed (inner_abstract ts i j A.within h).1 k))
  listed s.ParamDeclarator p q ts i j h M = let A = function w P T S s.ParamDeclarator refl Usual ts i j M in or_not (names (forest ts)) (has_ids (forest ts)) (is_some A.within.upto.state.kept.name) A.ids
      (λ k. A.within.named ∙ inner_of_param ts i j A.within h k)
  listed s.MemberName p q ts i j h M = let A = function w P T S s.MemberName refl Usual ts i j M in or_not (names (forest ts)) (has_ids (forest ts)) (is_some A.within.upto.state.kept.name) A.ids
      (λ k. of_named ts i j A.within)
  listed s.InnerDeclarator p q ts i j h M = absurd (cc p)
  listed own p q ts i j h M = absurd (cc q)
