-- What the calls keep, where a function's declarator is due or none is.
use Rattle.std.proofs.Common.{◌≡◌, refl, subst, sym, ◌∙◌, ℕ, true, false, List}
use Rattle.std.proofs.lemmas.Bool.{eqb-true}
use Rattle.c_tokens.specs.declared.token.Shape.{Shape}
use Rattle.c_forms.specs.declared.pieces.Sort.{Sort}
use Rattle.c_forms.specs.declared.pieces.Sort.TheVariants as s
use Rattle.c_reader.specs.States.{State, Kept}
use Rattle.c_reader.specs.Readers.{Outcome, Input, Rule, Of, Opened, Found, Call, below}
use Rattle.c_reader.proofs.Leaves.{Leaves, Leaving, leaving_more, leaves_call}
use Rattle.c_syntax.specs.Reading.{called}
use Rattle.c_syntax.specs.Grammar.{body, Standing, continued_by, tail_by, declarator_head, in_place}
use Rattle.c_alive.proofs.Kept.{StaysBy, Stays, KeptBy, stays_call, stays_body, is_called}
use Rattle.c_alive.proofs.Called.{Due, is_due, is_other}
use Rattle.c_lively.proofs.DueKept.{due_called, qualifier_keeps, tail_keeps, head_keeps, declarator_keeps}

-- what a rule that is called where one is due keeps
abbrev DueBy : Rule → State → Shape → Found → State → Type 0
DueBy n z y x t = is_due n ≡ true → z.kept.is_function_due ≡ true → is_other z.kept.near ≡ false → Due z.aside t

abbrev Both : Rule → State → Shape → Found → State → Type 0
Both n z y x t = KeptBy n z y x t × DueBy n z y x t

module _ (B : Rule → Input → Outcome Found) (d : ℕ) (E : (n : Rule) (z : State) (y : Shape) → Leaving B d z y (Call n) (Both n z y)) where
  plainly : (n : Rule) → is_called n ≡ true → Stays B d (Call n)
  plainly = stays_call B d (λ n z y. leaving_more B d z y (Call n) (Both n z y) (KeptBy n z y) (λ x t m. m.0) (E n z y))

  when_due : (n : Rule) → is_due n ≡ true → StaysBy B d Due (Call n)
  when_due n h a z y k = leaving_more B d z y (Call n) (Both n z y) (λ _ t. Due a t) (λ x t m. let r = m.1 h k.1.0 k.1.1 in (r.0 ∙ k.0, r.1)) (E n z y)

  due_body : (n : Rule) → is_due n ≡ true → StaysBy B d Due (body n)
  unfolding in_place
  due_body (Of s.Declarator least) h = subst (λ least. StaysBy B d Due (in_place 9 s.Declarator least)) (sym (eqb-true least 1 h)) (declarator_keeps B d plainly when_due 9)
  due_body (Of s.Qualifier least) h = qualifier_keeps B d (in_place 8)
  due_body (Of _ least) h = absurd (cc h)
  due_body Opened h = absurd (cc h)

kept_both : (n : Rule) (z : State) (y : Shape) → Leaves body z y (Call n) (Both n z y)
kept_both = leaves_call body Both (λ B d E n z y i e f x j h. ((λ c g. stays_body B d (plainly B d E) n c z.aside z y (refl, g) i e f x j h), (λ u w o. due_body B d E n u z.aside z y (refl, (w, o)) i e f x j h)))

module _ (a : List Kept) (z : State) (y : Shape) (k : Due a z) where
  pub leaves_rule : (n : Rule) → is_due n ≡ true → Leaves body z y (Call n) (λ _ t. Due a t)
  leaves_rule n h d = when_due (below body d) d (λ n z y. kept_both n z y d) n h a z y k

  pub leaves_called : (due : Sort) (least : ℕ) → is_due (Of due least) ≡ true → Leaves body z y (called due least) (λ _ t. Due a t)
  leaves_called due least h d = due_called (below body d) d (plainly (below body d) d (λ n z y. kept_both n z y d)) (when_due (below body d) d (λ n z y. kept_both n z y d)) due least h a z y k

  pub leaves_tail : (i : ℕ) (so_far : Standing) (x : Shape) → Leaves body z y (tail_by s.Declarator i so_far (continued_by s.Declarator x)) (λ _ t. Due a t)
  leaves_tail i so_far x d = tail_keeps (below body d) d (plainly (below body d) d (λ n z y. kept_both n z y d)) (when_due (below body d) d (λ n z y. kept_both n z y d)) i so_far x a z y k

  pub leaves_head : (n : ℕ) → Leaves body z y (declarator_head (in_place n) s.Declarator 1) (λ _ t. Due a t)
  leaves_head n d = head_keeps (below body d) d (plainly (below body d) d (λ n z y. kept_both n z y d)) (when_due (below body d) d (λ n z y. kept_both n z y d)) n a z y k

  pub leaves_declarator : (n : ℕ) → Leaves body z y (in_place n s.Declarator 1) (λ _ t. Due a t)
  leaves_declarator n d = declarator_keeps (below body d) d (plainly (below body d) d (λ n z y. kept_both n z y d)) (when_due (below body d) d (λ n z y. kept_both n z y d)) n a z y k
