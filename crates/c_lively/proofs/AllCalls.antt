-- What is called can be completed, as it is promised.
use Rattle.std.proofs.Common.{◌≡◌, refl, subst, sym, ℕ, not, Bool, true, false, ◌&&◌, List, [], nat_lt}
use Rattle.std.proofs.lemmas.Bool.{eqb-true, and_from}
use Rattle.c_tokens.specs.declared.token.Key.{Key}
use Rattle.c_tokens.specs.declared.token.Key.TheVariants as key
use Rattle.c_tokens.specs.declared.token.Shape.{Shape}
use Rattle.c_tokens.specs.declared.token.Shape.TheVariants as shape
use Rattle.c_forms.specs.declared.pieces.Sort.{Sort}
use Rattle.c_forms.specs.declared.pieces.Sort.TheVariants as s
use Rattle.c_forms.specs.declared.forms.Form.{Form}
use Rattle.c_forms.specs.declared.forms.Form.TheVariants as form
use Rattle.c_forms.specs.declared.forms.SpecForm.TheVariants as spec
use Rattle.c_forms.specs.declared.operators.TypeQualifier.{TypeQualifier}
use Rattle.c_forms.specs.declared.operators.TypeQualifier.TheVariants as qualifier
use Rattle.c_forms.specs.Measures.{pieces}
use Rattle.c_forms.specs.Sets.{has, starts, goes_on, held_class}
use Rattle.c_reader.specs.States.{State, Kept, seen, is_type}
use Rattle.c_reader.specs.Readers.{Reader, Rule, Of, Opened, Found, Refuse, Pick, choose, only}
use Rattle.c_reader.proofs.Sets.{not_true}
use Rattle.c_reader.proofs.Seen.{written}
use Rattle.c_reader.proofs.Live.{Live, live_choose, live_map}
use Rattle.c_syntax.specs.Allowed.{may_stand}
use Rattle.c_syntax.specs.Reading.{Parts, nothing, pieces_in}
use Rattle.c_syntax.specs.Grammar.{body, whole, begins, is_type_word, spec_of, specifier_by, specifier, in_place}
use Rattle.c_alive.proofs.Kept.{Still, is_item}
use Rattle.c_alive.proofs.Phrased.{none_of, past, live_weaker}
use Rattle.c_alive.proofs.Nodes.{live_completed}
use Rattle.c_alive.proofs.FitRows.{is_reached}
use Rattle.c_alive.proofs.Called.{calls, follows, Due, GivesBy, Good}
use Rattle.c_lively.proofs.Ranks.{rank, met_reads}
use Rattle.c_lively.proofs.Alive.{able}
use Rattle.c_lively.proofs.AfterSizeof.{live_opened}
use Rattle.c_lively.proofs.DueRows.{Function}
use Rattle.c_lively.proofs.DueKept.{no_word, no_sign, no_mark}
use Rattle.c_lively.proofs.DueDeclarators.{live_due}

-- a sort that no part of plain C is read as is refused
refused : (due : Sort) (least : ℕ) → is_item due ≡ false → nat_lt (rank due) 9 ≡ false → (z : State) (y : Shape) (J : Found → State → Type 0) → Live body calls 0 z y (none_of (past due least)) J (in_place 9 due least)
unfolding in_place
refused s.Item least h r z y J = absurd (cc h)
refused s.Id least h r z y J = absurd (cc r)
refused s.DeclaredId least h r z y J = absurd (cc r)
refused s.ParameterId least h r z y J = absurd (cc r)
refused s.EnumeratorId least h r z y J = absurd (cc r)
refused s.Literal least h r z y J = absurd (cc r)
refused s.Spec least h r z y J = absurd (cc r)
refused s.PlainSpec least h r z y J = absurd (cc r)
refused s.Qualifier least h r z y J = absurd (cc r)
refused s.Block least h r z y J = absurd (cc r)
refused s.Exp least h r z y J = absurd (cc r)
refused s.Declarator least h r z y J = absurd (cc r)
refused s.AbstractDeclarator least h r z y J = absurd (cc r)
refused s.ParamDeclarator least h r z y J = absurd (cc r)
refused s.MemberName least h r z y J = absurd (cc r)
refused s.TypeName least h r z y J = absurd (cc r)
refused s.Init least h r z y J = absurd (cc r)
refused s.Width least h r z y J = absurd (cc r)
refused s.EnumeratorValue least h r z y J = absurd (cc r)
refused s.Param least h r z y J = absurd (cc r)
refused s.Stmt least h r z y J = absurd (cc r)
refused s.Params least h r z y J = absurd (cc r)
refused s.MemberDeclarator least h r z y J = absurd (cc r)
refused s.Enumerator least h r z y J = absurd (cc r)
refused s.Initializer least h r z y J = absurd (cc r)
refused s.ElsePart least h r z y J = absurd (cc r)
refused s.Member least h r z y J = absurd (cc r)
refused s.Enumerators least h r z y J = absurd (cc r)
refused s.InitDeclarator least h r z y J = absurd (cc r)
refused s.Members least h r z y J = absurd (cc r)
refused s.Decl least h r z y J = absurd (cc r)
refused s.BlockItem least h r z y J = absurd (cc r)
refused _ least h r z y J = tt

-- where none is due
plainly : (due : Sort) (least : ℕ) → is_item due ≡ false → is_reached due least ≡ true → (z : State) (y : Shape) → z.kept.is_function_due ≡ false → Live body calls 0 z y (none_of (past due least)) (λ _ t. Still z.aside t) (in_place 9 due least)
plainly due least h r z y k = by_rank (nat_lt (rank due) 9) refl
  where
    by_rank : (b : Bool) → nat_lt (rank due) 9 ≡ b → Live body calls 0 z y (none_of (past due least)) (λ _ t. Still z.aside t) (in_place 9 due least)
    by_rank true e = (able 0 9).lives due least (met_reads due least (and_from (is_reached due least) (nat_lt (rank due) 9) r e)) z.aside z y (refl, k)
    by_rank false e = refused due least h e z y (λ _ t. Still z.aside t)

-- a qualifier where one is
module _ (a : List Kept) (inner : Parts) (z : State) (k : Due a z) where
  abbrev Dues : {A : Type 0} → A → State → Type 0
  Dues x t = Due a t

  abbrev form_of : TypeQualifier → Form
  form_of w = form.Spec (spec.Qualifier w)

  live_form : (y : Shape) (w : TypeQualifier) → Live body calls 0 z y (none_of []) Dues (choose (may_stand z (form_of w)) (whole inner s.Qualifier (form_of w)) Refuse)
  unfolding whole pieces_in
  live_form y w = live_choose body calls 0 z y (none_of []) Dues (may_stand z (form_of w)) (whole inner s.Qualifier (form_of w)) Refuse
      (λ _ place. live_completed (Due a) (none_of []) inner s.Qualifier (form_of w) place nothing (pieces (form_of w)) calls 0 z y
      (live_map body calls 0 z y Dues (none_of []) (none_of []) Dues (Pick (λ x. only (has (held_class (form_of w)) x.class))) (λ _. nothing) (λ x q. q) (λ _ t k. k) ((λ _ _. k), tt))) (λ _. tt)

  abbrev may_be : Shape → Reader Found
  may_be y = specifier_by inner s.Qualifier z (spec_of s.Qualifier (is_type_word (seen z y)) (seen z y))

  by_key : (x : Key) → has (starts s.Qualifier) (written (shape.Key x)) ≡ true → Live body calls 0 z (shape.Key x) (none_of []) Dues (may_be (shape.Key x))
  by_key key.Const h = live_form (shape.Key key.Const) qualifier.Const
  by_key key.Volatile h = live_form (shape.Key key.Volatile) qualifier.Volatile
  by_key _ h = absurd (cc h)

  by_shape : (y : Shape) → begins s.Qualifier (seen z y) ≡ true → Live body calls 0 z y (none_of []) Dues (may_be y)
  by_shape (shape.Key x) h = by_key x h
  by_shape (shape.Word w) h = absurd (no_word (not z.kept.has_type && is_type z.entries w.0) h)
  by_shape (shape.Punct p) h = absurd (no_sign p h)
  by_shape (shape.Mark m) h = absurd (no_mark m h)
  by_shape _ h = absurd (cc h)

  live_qualifier : (y : Shape) → Live body calls 0 z y (none_of []) Dues (specifier inner s.Qualifier)
  unfolding specifier
  live_qualifier y = λ place. live_choose body calls 0 z y (none_of []) Dues (begins s.Qualifier (seen z y)) (may_be y) Refuse (by_shape y) (λ _. tt)

qualified : (least : ℕ) (z : State) (y : Shape) → Due z.aside z → Live body calls 0 z y (none_of (past s.Qualifier least)) (λ _ t. Due z.aside t) (in_place 9 s.Qualifier least)
unfolding in_place
qualified least z y k = live_qualifier z.aside (in_place 8) z k y

by_due : (n : Rule) (z : State) (y : Shape) (b : Bool) → z.kept.is_function_due ≡ b → Good n z y → Live body calls 0 z y (follows n) (λ _ t. GivesBy b n z.aside t) (body n)
by_due (Of due least) z y false e g = plainly due least (not_true (is_item due) g.0) g.1.0 z y e
by_due Opened z y false e g = live_opened z.aside 0 z y (refl, e)
by_due (Of s.Declarator least) z y true e g = let d : Due z.aside z = (refl, (e, (g.1.1 e).1)) in
    subst (λ l. Live body calls 0 z y (none_of (past s.Declarator l)) (λ _ t. GivesBy true (Of s.Declarator l) z.aside t) (in_place 9 s.Declarator l)) (sym (eqb-true least 1 g.1.0))
    (live_weaker body calls 0 z y (none_of (goes_on s.Declarator 1)) (none_of (goes_on s.Declarator 1)) (λ _ t. Function z.aside t) (λ _ t. GivesBy true (Of s.Declarator 1) z.aside t) (in_place 9 s.Declarator 1) (λ x q. q) (λ x t f. (f.0, λ _. f.1)) (live_due z.aside 0 7 z y d))
by_due (Of s.Qualifier least) z y true e g = let d : Due z.aside z = (refl, (e, (g.1.1 e).1)) in
    live_weaker body calls 0 z y (none_of (past s.Qualifier least)) (none_of (past s.Qualifier least)) (λ _ t. Due z.aside t) (λ _ t. GivesBy true (Of s.Qualifier least) z.aside t) (in_place 9 s.Qualifier least) (λ x q. q) (λ x t f. (f, λ e. absurd (cc e))) (qualified least z y d)
by_due (Of _ least) z y true e g = absurd (let f = (g.1.1 e).0 in cc f)
by_due Opened z y true e g = absurd (let f = (g.1.1 e).0 in cc f)

-- each rule, as it is called
pub lives : (n : Rule) (z : State) (y : Shape) → calls.Good n z y → Live body calls (calls.needs n) z y (calls.following n) (calls.Gives n z) (body n)
lives n z y g = by_due n z y z.kept.is_function_due refl g
