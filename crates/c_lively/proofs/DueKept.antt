-- What is kept where a function's declarator is due.
use Rattle.std.proofs.Common.{◌≡◌, refl, ℕ, zero, suc, not, Bool, true, false, ◌&&◌, List, ◌∷◌, None, nat_eq}
use Rattle.c_tokens.specs.declared.token.Key.{Key}
use Rattle.c_tokens.specs.declared.token.Key.TheVariants as key
use Rattle.c_tokens.specs.declared.token.Mark.{Mark}
use Rattle.c_tokens.specs.declared.token.Mark.TheVariants as mark
use Rattle.c_tokens.specs.declared.token.Punct.{Punct}
use Rattle.c_tokens.specs.declared.token.Punct.TheVariants as punct
use Rattle.c_tokens.specs.declared.token.Shape.{Shape}
use Rattle.c_tokens.specs.declared.token.Shape.TheVariants as shape
use Rattle.c_forms.specs.declared.pieces.Event.{Event}
use Rattle.c_forms.specs.declared.pieces.Event.TheVariants as event
use Rattle.c_forms.specs.declared.pieces.Piece.{Piece}
use Rattle.c_forms.specs.declared.pieces.Repetition.TheVariants.{Many, Optional}
use Rattle.c_forms.specs.declared.pieces.Sort.{Sort}
use Rattle.c_forms.specs.declared.pieces.Sort.TheVariants as s
use Rattle.c_forms.specs.declared.forms.Form.{Form}
use Rattle.c_forms.specs.declared.forms.Form.TheVariants as form
use Rattle.c_forms.specs.declared.forms.SpecForm.TheVariants as spec
use Rattle.c_forms.specs.declared.forms.DeclaratorForm.TheVariants as declarator
use Rattle.c_forms.specs.declared.operators.TypeQualifier.{TypeQualifier}
use Rattle.c_forms.specs.declared.operators.TypeQualifier.TheVariants as qualifier
use Rattle.c_forms.specs.Measures.{level, pieces}
use Rattle.c_forms.specs.Sets.{has, starts, held_class}
use Rattle.c_reader.specs.States.{State, Seen, seen, happens, word_class, is_type}
use Rattle.c_reader.specs.Tokens.{Spot, spot}
use Rattle.c_reader.specs.Readers.{Outcome, Input, Reader, Turn, More, Last, Rule, Of, Found, Give, Refuse, Look, Next, Pick, Note, Bind, Fits, Call, Loop, Ask, Change, choose, only, token}
use Rattle.c_reader.proofs.Seen.{written}
use Rattle.c_reader.proofs.Leaves.{Leaving, leaving_give, leaving_refuse, leaving_look, leaving_ask, leaving_bind, leaving_change, leaving_choose}
use Rattle.c_syntax.specs.Allowed.{may_happen, may_stand}
use Rattle.c_syntax.specs.Reading.{Usual, Parts, Listed, nothing, one, node, joined, with_first, list_from, deeper, called, pieces_in, completed}
use Rattle.c_syntax.specs.Grammar.{whole, begins, is_sign, is_value, is_type_word, leaf_if, Standing, standing, tight, the_declarator, parenthesized, opened_declarator, spec_of, specifier_by, specifier, after_first, after_part, continued_by, is_tail, tail_by, turn, climb, declarator_head, declarator_of, in_place}
use Rattle.c_alive.proofs.Kept.{Still, StaysBy, Stays, stays_give, stays_refuse, stays_look, stays_next, stays_pick, stays_note, stays_bind, stays_map, stays_fits, stays_ask, stays_choose, stays_loop, stays_gathered, is_called}
use Rattle.c_alive.proofs.Called.{Due, is_due}
use Rattle.c_lively.proofs.DueRows.{event_then, sign_of, pointer, array, function, after_tree, qualifiers, sealing, pointed, after_star, pointer_row, size, bracket, array_end, sized_array, after_bracket, array_row, closing, parameters_end, listed, entering, after_paren, function_row, seal_due, resume_due, close_function, aside_still}

-- no word, punctuator or mark is a qualifier
pub no_word : (b : Bool) → has (starts s.Qualifier) (word_class b) ≡ true → ⊥
no_word true h = cc h
no_word false h = cc h

pub no_sign : (p : Punct) → has (starts s.Qualifier) (written (shape.Punct p)) ≡ true → ⊥
no_sign punct.LeftBracket h = cc h
no_sign _ h = cc h

pub no_mark : (m : Mark) → has (starts s.Qualifier) (written (shape.Mark m)) ≡ true → ⊥
no_mark mark.Syntax h = cc h
no_mark _ h = cc h

module _ (B : Rule → Input → Outcome Found) (d : ℕ) where
  pub leaving_event : {A : Type 0} (e : Event) (r : Reader A) (z : State) (y : Shape) (J : A → State → Type 0) → (may_happen e z ≡ true → Leaving B d (happens e z) y r J) → Leaving B d z y (event_then e r) J
  leaving_event e r z y J R = leaving_ask B d z y (λ i. choose (may_happen e i.state) (Change e r) Refuse) J (λ place. leaving_choose B d z y (may_happen e z) (Change e r) Refuse J (λ m. leaving_change B d z y e r J (R m)) (λ _. leaving_refuse B d z y J))

  pub leaving_map : {A C : Type 0} (r : Reader C) (f : C → A) (P : State → Type 0) (z : State) (y : Shape) → Leaving B d z y r (λ _ t. P t) → Leaving B d z y (Bind r (λ c. Give (f c))) (λ _ t. P t)
  leaving_map r f P z y L = leaving_bind B d z y r (λ c. Give (f c)) (λ _ t. P t) (λ _ t. P t) L (λ c t x k. leaving_give B d t x (f c) (λ _ t. P t) k)

  made_keeps : (part : Parts) (own : Sort) (f : Form) (i : ℕ) (done : Listed) (ps : List Piece) → StaysBy B d Due (pieces_in part own f Usual ps) → StaysBy B d Due (completed part own f i done ps)
  unfolding completed
  made_keeps part own f i done ps P = stays_bind B d Due (pieces_in part own f Usual ps) (λ g. Ask (λ j. Give (node f i j.place (joined done g)))) P (λ g. stays_ask B d Due (λ j. Give (node f i j.place (joined done g))) (λ j. stays_give B d Due (node f i j.place (joined done g))))

  -- ---- a qualifier

  qualified : (inner : Parts) (w : TypeQualifier) → StaysBy B d Due (whole inner s.Qualifier (form.Spec (spec.Qualifier w)))
  unfolding whole pieces_in
  qualified inner w = stays_ask B d Due (λ i. completed inner s.Qualifier (form.Spec (spec.Qualifier w)) i.place nothing (pieces (form.Spec (spec.Qualifier w)))) (λ i. made_keeps inner s.Qualifier (form.Spec (spec.Qualifier w)) i.place nothing (pieces (form.Spec (spec.Qualifier w)))
      (stays_map B d Due (Pick (λ x. only (has (held_class (form.Spec (spec.Qualifier w))) x.class))) (λ _. nothing) (stays_pick B d Due (λ x. only (has (held_class (form.Spec (spec.Qualifier w))) x.class)))))

  abbrev may_be : Parts → State → Shape → Reader Found
  may_be inner z y = specifier_by inner s.Qualifier z (spec_of s.Qualifier (is_type_word (seen z y)) (seen z y))

  kept_key : (inner : Parts) (x : Key) → has (starts s.Qualifier) (written (shape.Key x)) ≡ true → (z : State) → StaysBy B d Due (may_be inner z (shape.Key x))
  kept_key inner key.Const h z = stays_choose B d Due (may_stand z (form.Spec (spec.Qualifier qualifier.Const))) (whole inner s.Qualifier (form.Spec (spec.Qualifier qualifier.Const))) Refuse (qualified inner qualifier.Const) (stays_refuse B d Due)
  kept_key inner key.Volatile h z = stays_choose B d Due (may_stand z (form.Spec (spec.Qualifier qualifier.Volatile))) (whole inner s.Qualifier (form.Spec (spec.Qualifier qualifier.Volatile))) Refuse (qualified inner qualifier.Volatile) (stays_refuse B d Due)
  kept_key inner _ h z = absurd (cc h)

  kept_shape : (inner : Parts) (z : State) (y : Shape) → begins s.Qualifier (seen z y) ≡ true → StaysBy B d Due (may_be inner z y)
  kept_shape inner z (shape.Key x) h = kept_key inner x h z
  kept_shape inner z (shape.Word w) h = absurd (no_word (not z.kept.has_type && is_type z.entries w.0) h)
  kept_shape inner z (shape.Punct p) h = absurd (no_sign p h)
  kept_shape inner z (shape.Mark m) h = absurd (no_mark m h)
  kept_shape inner z _ h = absurd (cc h)

  abbrev by_start : Parts → Spot → Seen → Reader Found
  by_start inner i x = choose (begins s.Qualifier x) (specifier_by inner s.Qualifier i.state (spec_of s.Qualifier (is_type_word x) x)) Refuse

  pub qualifier_keeps : (inner : Parts) → StaysBy B d Due (specifier inner s.Qualifier)
  unfolding specifier
  qualifier_keeps inner a z y k = leaving_ask B d z y (λ i. Look (by_start inner i)) (λ _ t. Due a t) (λ place. leaving_look B d z y (by_start inner (spot place z)) (λ _ t. Due a t) (leaving_choose B d z y (begins s.Qualifier (seen z y)) (may_be inner z y) Refuse (λ _ t. Due a t)
      (λ e. kept_shape inner z y e a z y k) (λ _. leaving_refuse B d z y (λ _ t. Due a t))))

  -- ---- declarators

  module _ (C : (n : Rule) → is_called n ≡ true → Stays B d (Call n)) (D : (n : Rule) → is_due n ≡ true → StaysBy B d Due (Call n)) where
    pub due_called : (due : Sort) (least : ℕ) → is_due (Of due least) ≡ true → StaysBy B d Due (called due least)
    due_called due least h = stays_map B d Due (Call (Of due least)) deeper (D (Of due least) h)

    sealing_keeps : StaysBy B d Due sealing
    sealing_keeps a z y k = leaving_event event.Seal (Give nothing) z y (λ _ t. Due a t) (λ e. leaving_give B d (happens event.Seal z) y nothing (λ _ t. Due a t) (seal_due a z k e).0)

    pointer_keeps : StaysBy B d Due pointer_row
    pointer_keeps = stays_bind B d Due (token (sign_of punct.Star)) (λ _. after_star) (stays_pick B d Due (λ x. only (nat_eq x.class (sign_of punct.Star))))
        (λ _. stays_bind B d Due qualifiers (λ g. Bind pointed (λ h. Give (with_first (list_from g.0 g.1) h))) (stays_gathered B d Due (Many None 0) s.Qualifier (called s.Qualifier 0) Usual (due_called s.Qualifier 0 refl))
        (λ g. stays_map B d Due pointed (λ h. with_first (list_from g.0 g.1) h) (stays_bind B d Due (called s.Declarator 1) (after_tree sealing) (due_called s.Declarator 1 refl) (λ x. stays_map B d Due sealing (λ g. with_first x g) sealing_keeps))))

    bracket_keeps : StaysBy B d Due bracket
    bracket_keeps = stays_map B d Due (token (sign_of punct.RightBracket)) (λ _. nothing) (stays_pick B d Due (λ x. only (nat_eq x.class (sign_of punct.RightBracket))))

    array_keeps : StaysBy B d Due array_row
    array_keeps = stays_bind B d Due (token (sign_of punct.LeftBracket)) (λ _. after_bracket) (stays_pick B d Due (λ x. only (nat_eq x.class (sign_of punct.LeftBracket))))
        (λ _ a z y k. leaving_event event.Aside sized_array z y (λ _ t. Due a t) (λ _. leaving_bind B d (happens event.Aside z) y size (λ g. Bind array_end (λ h. Give (with_first (list_from g.0 g.1) h))) (λ _ t. Still (z.kept ∷ a) t) (λ _ t. Due a t)
        (stays_gathered B d Still Optional s.Exp (called s.Exp 3) Usual (stays_map B d Still (Call (Of s.Exp 3)) deeper (C (Of s.Exp 3) refl)) (z.kept ∷ a) (happens event.Aside z) y (aside_still a z k.0))
        (λ g t w m. leaving_map array_end (λ h. with_first (list_from g.0 g.1) h) (Due a) t w (leaving_event event.Resume (event_then event.Seal bracket) t w (λ _ t. Due a t)
        (λ _. let r : Due a (happens event.Resume t) = resume_due z.kept a t k.1.0 k.1.1 m in leaving_event event.Seal bracket (happens event.Resume t) w (λ _ t. Due a t) (λ e. bracket_keeps a (happens event.Seal (happens event.Resume t)) w (seal_due a (happens event.Resume t) r e).0))))))

    function_keeps : StaysBy B d Due function_row
    function_keeps = stays_bind B d Due (token (sign_of punct.LeftParen)) (λ _. after_paren) (stays_pick B d Due (λ x. only (nat_eq x.class (sign_of punct.LeftParen))))
        (λ _ a z y k. leaving_event event.Aside entering z y (λ _ t. Due a t) (λ _. leaving_event event.Enter listed (happens event.Aside z) y (λ _ t. Due a t)
        (λ _. leaving_bind B d (happens event.Enter (happens event.Aside z)) y (called s.Params 0) (after_tree parameters_end) (λ _ t. Still (z.kept ∷ a) t) (λ _ t. Due a t)
        (stays_map B d Still (Call (Of s.Params 0)) deeper (C (Of s.Params 0) refl) (z.kept ∷ a) (happens event.Enter (happens event.Aside z)) y (aside_still a z k.0))
        (λ x t w m. leaving_map parameters_end (λ g. with_first x g) (Due a) t w (leaving_bind B d t w (token (sign_of punct.RightParen)) (λ _. closing) (λ _ t. Still (z.kept ∷ a) t) (λ _ t. Due a t)
        (stays_pick B d Still (λ x. only (nat_eq x.class (sign_of punct.RightParen))) (z.kept ∷ a) t w m)
        (λ _ t w m. leaving_event event.Close (Give nothing) t w (λ _ t. Due a t) (λ _. leaving_give B d (happens event.Close t) w nothing (λ _ t. Due a t) (close_function z.kept a t k.1.0 k.1.1 m).0)))))))

    -- what goes on

    pub tail_keeps : (i : ℕ) (y : Standing) (x : Shape) → StaysBy B d Due (tail_by s.Declarator i y (continued_by s.Declarator x))
    unfolding pieces_in
    tail_keeps i y (shape.Punct p) = by_sign p
      where
        raised : (f : Form) (r : Reader Found) → StaysBy B d Due r → StaysBy B d Due (Fits y.found.height (standing (level f) r))
        raised f r R = stays_fits B d Due y.found.height (standing (level f) r) (stays_map B d Due r (λ x. record { found = x; level = level f }) R)

        by_sign : (p : Punct) → StaysBy B d Due (tail_by s.Declarator i y (continued_by s.Declarator (shape.Punct p)))
        by_sign punct.LeftBracket = raised array (after_part called s.Declarator array i (deeper y.found)) (made_keeps called s.Declarator array i (one (deeper y.found)) (after_first (pieces array)) array_keeps)
        by_sign punct.LeftParen = raised function (after_part called s.Declarator function i (deeper y.found)) (made_keeps called s.Declarator function i (one (deeper y.found)) (after_first (pieces function)) function_keeps)
        by_sign _ = stays_refuse B d Due
    tail_keeps i y _ = stays_refuse B d Due

    abbrev looked : ℕ → Spot → Standing → Seen → Reader (Turn Standing Standing)
    looked i k y x = choose (is_tail s.Declarator 1 k.state y (continued_by s.Declarator x.shape)) (Bind (tail_by s.Declarator i y (continued_by s.Declarator x.shape)) (λ t. Give (More t))) (Give (Last y))

    climb_keeps : (i : ℕ) (y : Standing) → StaysBy B d Due (climb s.Declarator 1 i y)
    unfolding climb
    climb_keeps i y = stays_map B d Due (Loop (turn s.Declarator 1 i) y) (λ z. z.found) (stays_loop B d Due (turn s.Declarator 1 i) y (λ y. stays_ask B d Due (λ k. Look (looked i k y)) (λ k. stays_look B d Due (looked i k y)
        (λ x. stays_choose B d Due (is_tail s.Declarator 1 k.state y (continued_by s.Declarator x.shape)) (Bind (tail_by s.Declarator i y (continued_by s.Declarator x.shape)) (λ t. Give (More t))) (Give (Last y))
        (stays_map B d Due (tail_by s.Declarator i y (continued_by s.Declarator x.shape)) More (tail_keeps i y x.shape)) (stays_give B d Due (Last y))))))

    -- what begins one

    wrapped_keeps : StaysBy B d Due (standing 17 (parenthesized s.Declarator))
    wrapped_keeps = stays_map B d Due (parenthesized s.Declarator) (λ x. record { found = x; level = 17 }) (stays_bind B d Due (Call (Of s.Declarator 1)) (λ x. Bind (token (sign_of punct.RightParen)) (λ _. Give (deeper x))) (D (Of s.Declarator 1) refl)
        (λ x. stays_map B d Due (token (sign_of punct.RightParen)) (λ _. deeper x) (stays_pick B d Due (λ y. only (nat_eq y.class (sign_of punct.RightParen))))))

    star_keeps : (inner : Parts) → StaysBy B d Due (tight 1 pointer (whole inner s.Declarator pointer))
    unfolding whole pieces_in
    star_keeps inner = stays_map B d Due (Ask (λ i. Fits 0 (completed called s.Declarator pointer i.place nothing (pieces pointer)))) (λ x. record { found = x; level = 1 })
        (stays_ask B d Due (λ i. Fits 0 (completed called s.Declarator pointer i.place nothing (pieces pointer))) (λ i. stays_fits B d Due 0 (completed called s.Declarator pointer i.place nothing (pieces pointer)) (made_keeps called s.Declarator pointer i.place nothing (pieces pointer) pointer_keeps)))

    named_word : (n : ℕ) → StaysBy B d Due (in_place n s.DeclaredId 0)
    unfolding in_place
    named_word zero = stays_refuse B d Due
    named_word (suc n) = stays_ask B d Due (λ i. Note (λ x. leaf_if (is_value x) form.Id i.place x)) (λ i. stays_note B d Due (λ x. leaf_if (is_value x) form.Id i.place x) (λ a z y k. (k.0, (k.1.0, refl))))

    abbrev named : Form
    named = the_declarator declarator.Named

    name_keeps : (n : ℕ) → StaysBy B d Due (standing 17 (whole (in_place n) s.Declarator named))
    unfolding whole pieces_in
    name_keeps n = stays_map B d Due (Ask (λ i. completed (in_place n) s.Declarator named i.place nothing (pieces named))) (λ x. record { found = x; level = 17 })
        (stays_ask B d Due (λ i. completed (in_place n) s.Declarator named i.place nothing (pieces named)) (λ i. made_keeps (in_place n) s.Declarator named i.place nothing (pieces named)
        (stays_bind B d Due (in_place n s.DeclaredId 0) (after_tree (Give nothing)) (named_word n) (λ x. stays_map B d Due (Give nothing) (λ g. with_first x g) (stays_give B d Due nothing)))))

    abbrev at_name : ℕ → Seen → Reader Standing
    at_name n x = choose (is_value x && true) (standing 17 (whole (in_place n) s.Declarator named)) Refuse

    abbrev at_star : ℕ → Seen → Reader Standing
    at_star n x = choose (is_sign punct.Star x) (tight 1 pointer (whole (in_place n) s.Declarator pointer)) (at_name n x)

    abbrev at_paren : ℕ → ℕ → Seen → Reader Standing
    at_paren n i x = choose (is_sign punct.LeftParen x) (opened_declarator s.Declarator i) (at_star n x)

    pub head_keeps : (n : ℕ) → StaysBy B d Due (declarator_head (in_place n) s.Declarator 1)
    unfolding declarator_head
    head_keeps n = stays_ask B d Due (λ i. Look (at_paren n i.place)) (λ i. stays_look B d Due (at_paren n i.place) (λ x. stays_choose B d Due (is_sign punct.LeftParen x) (opened_declarator s.Declarator i.place) (at_star n x)
        (stays_fits B d Due 0 (Next (standing 17 (parenthesized s.Declarator))) (stays_next B d Due (standing 17 (parenthesized s.Declarator)) wrapped_keeps))
        (stays_choose B d Due (is_sign punct.Star x) (tight 1 pointer (whole (in_place n) s.Declarator pointer)) (at_name n x) (star_keeps (in_place n))
        (stays_choose B d Due (is_value x && true) (standing 17 (whole (in_place n) s.Declarator named)) Refuse (name_keeps n) (stays_refuse B d Due)))))

    pub declarator_keeps : (n : ℕ) → StaysBy B d Due (in_place n s.Declarator 1)
    unfolding in_place declarator_of
    declarator_keeps zero = stays_refuse B d Due
    declarator_keeps (suc n) = stays_ask B d Due (λ i. Bind (declarator_head (in_place n) s.Declarator 1) (λ y. climb s.Declarator 1 i.place y)) (λ i. stays_bind B d Due (declarator_head (in_place n) s.Declarator 1) (λ y. climb s.Declarator 1 i.place y) (head_keeps n) (λ y. climb_keeps i.place y))
