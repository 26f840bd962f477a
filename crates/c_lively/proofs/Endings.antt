-- What completes a tree of a sort that is read in place: its phrase.
use Rattle.std.proofs.Common.{◌≡◌, refl, sym, ap, ◌∙◌, ℕ, zero, suc, ◌≤◌, not, Bool, true, false, ◌&&◌, nat_eq, List, [], ◌∷◌, ◌++◌, arith}
use Rattle.c_tokens.specs.declared.token.Key.TheVariants as key
use Rattle.c_tokens.specs.declared.token.Punct.TheVariants as punct
use Rattle.c_tokens.specs.declared.token.Shape.{Shape}
use Rattle.c_tokens.specs.declared.token.Shape.TheVariants as shape
use Rattle.c_tokens.specs.declared.class.Class.TheVariants as class
use Rattle.c_tokens.specs.ClassNumbers.{class_number}
use Rattle.c_forms.specs.declared.pieces.Event.TheVariants as event
use Rattle.c_forms.specs.declared.pieces.Sort.{Sort}
use Rattle.c_forms.specs.declared.pieces.Sort.TheVariants as s
use Rattle.c_forms.specs.declared.forms.Form.{Form}
use Rattle.c_forms.specs.declared.forms.Form.TheVariants as form
use Rattle.c_forms.specs.declared.forms.SpecForm.TheVariants as spec
use Rattle.c_forms.specs.declared.forms.StmtForm.TheVariants as stmt
use Rattle.c_forms.specs.declared.forms.InitForm.TheVariants as init
use Rattle.c_forms.specs.declared.forms.ParamsForm.TheVariants as params
use Rattle.c_forms.specs.declared.forms.DeclaratorForm.TheVariants as declarator
use Rattle.c_forms.specs.declared.forms.GroupForm.TheVariants as group
use Rattle.c_forms.specs.declared.operators.TypeQualifier.TheVariants as qualifier
use Rattle.c_forms.specs.Measures.{pieces}
use Rattle.c_forms.specs.Sets.{Classes, has, starts, goes_on, held_class}
use Rattle.c_reader.specs.States.{State, Kept, Seen, class, seen, happens}
use Rattle.c_reader.specs.Tokens.{Spot}
use Rattle.c_reader.specs.Readers.{Reader, Found, Give, Refuse, Look, Pick, Bind, Change, choose, only}
use Rattle.c_reader.proofs.Sets.{both, contrary, same_class, has_right}
use Rattle.c_reader.proofs.Phrases.{Tokens, Finishes, quiet, fin_give, fin_ask, fin_look, fin_look_past, fin_choose, fin_change, fin_fits, fin_map, fin_last, fin_pick}
use Rattle.c_syntax.specs.Allowed.{has_name}
use Rattle.c_syntax.specs.Reading.{Usual, Parts, nothing, parts_of, is_starred, called, pieces_in, completed}
use Rattle.c_syntax.specs.Grammar.{body, whole, charged, is_sign, is_value, sign, Standing, standing, begins, may_be_absent, may_be_named, absent_at, the_declarator, opened_declarator, tight, climb, declarator_head, declarator_of, is_tail, continued_by, specifier, parameters, typed, initializer, statement, block, late, block_item, declaration_at, at_sort, in_place, declared_identifier}
use Rattle.c_alive.proofs.Tame.{firm_in_place, firm_called}
use Rattle.c_alive.proofs.Kept.{Still, is_declarator, event_within}
use Rattle.c_alive.proofs.Phrased.{none_of, none_within, past, phrase, pieces_phrase, a_word}
use Rattle.c_alive.proofs.Rows.{Known, Ending, fit, fin_pieces}
use Rattle.c_alive.proofs.Tails.{ends_tails}
use Rattle.c_alive.proofs.Climbs.{fin_climb}
use Rattle.c_alive.proofs.Words.{fin_expression}
use Rattle.c_alive.proofs.Nodes.{fin_completed}
use Rattle.c_alive.proofs.Operands.{below_words, fin_identifier}
use Rattle.c_alive.proofs.Names.{fin_declared, fin_enumerator}
use Rattle.c_alive.proofs.FitRows.{is_reached}
use Rattle.c_alive.proofs.Prefixes.{fin_literal}
use Rattle.c_alive.proofs.Called.{fin_called}
use Rattle.c_lively.proofs.Ranks.{rank, met, reads, reads_at, met_reads, reads_more, none_read, fewer_end}

-- ---- nodes

fin_charged : {A : Type 0} (b : Bool) (z : State) (Q : Tokens) (J : A → State → Type 0) (r : Reader A) (u : _) → Finishes body z Q J r u → Finishes body z Q J (charged b r) u
fin_charged true z Q J r u F = fin_fits body z Q J 0 r u F
fin_charged false z Q J r u F = F

pub fin_whole : (inner : Parts) (own : Sort) (f : Form) (done : Known) → Ending (parts_of f inner) done → (out : Classes) → fit done own false (pieces f) out ≡ true → (a : List Kept) (z : State) → Still a z
    → Finishes body z (none_of out) (λ _ t. Still a t) (whole inner own f) (pieces_phrase own (pieces f))
unfolding whole
fin_whole inner own f done E out h a z k = fin_ask body z (none_of out) (λ _ t. Still a t) (λ i. charged (is_starred f) (completed (parts_of f inner) own f i.place nothing (pieces f))) (pieces_phrase own (pieces f))
    (λ place. fin_charged (is_starred f) z (none_of out) (λ _ t. Still a t) (completed (parts_of f inner) own f place nothing (pieces f)) (pieces_phrase own (pieces f))
    (fin_completed (Still a) (none_of out) (parts_of f inner) own f place nothing (pieces f) z (pieces_phrase own (pieces f)) (fin_pieces (parts_of f inner) own f done E out false Usual (pieces f) h a z k)))

-- ---- specifiers: a qualifier

abbrev a_const : Shape
a_const = shape.Key key.Const

abbrev const_form : Form
const_form = form.Spec (spec.Qualifier qualifier.Const)

fin_const : (inner : Parts) (own : Sort) (Q : Tokens) (S : State → Type 0) (z : State) → S z → Finishes body z Q (λ _ t. S t) (whole inner own const_form) (a_const ∷ [])
unfolding whole pieces_in
fin_const inner own Q S z k = fin_ask body z Q (λ _ t. S t) (λ i. completed inner own const_form i.place nothing (pieces const_form)) (a_const ∷ []) (λ place. fin_completed S Q inner own const_form place nothing (pieces const_form) z (a_const ∷ [])
    (fin_last body z (λ _ t. S t) Q Q (λ _ t. S t) (Pick (λ x. only (has (held_class const_form) x.class))) (λ _. Give nothing) (a_const ∷ []) (fin_pick body z Q (λ _ t. S t) (λ x. only (has (held_class const_form) x.class)) a_const (λ m. tt) (λ m. refl) (λ m. k)) (λ x q. q) (λ b t k. fin_give body t Q (λ _ t. S t) nothing k)))

abbrev pub is_spec : Sort → Bool
is_spec s.Spec = true
is_spec s.PlainSpec = true
is_spec s.Qualifier = true
is_spec due = false

pub fin_specifier : (inner : Parts) (due : Sort) → is_spec due ≡ true → (Q : Tokens) (S : State → Type 0) (z : State) → S z → Finishes body z Q (λ _ t. S t) (specifier inner due) (a_const ∷ [])
unfolding specifier
fin_specifier inner s.Spec h Q S z k = fin_ask body z Q (λ _ t. S t) _ (a_const ∷ []) (λ place. fin_look body z Q (λ _ t. S t) _ a_const [] (λ n. fin_const inner s.Spec Q S z k))
fin_specifier inner s.PlainSpec h Q S z k = fin_ask body z Q (λ _ t. S t) _ (a_const ∷ []) (λ place. fin_look body z Q (λ _ t. S t) _ a_const [] (λ n. fin_const inner s.PlainSpec Q S z k))
fin_specifier inner s.Qualifier h Q S z k = fin_ask body z Q (λ _ t. S t) _ (a_const ∷ []) (λ place. fin_look body z Q (λ _ t. S t) _ a_const [] (λ n. fin_const inner s.Qualifier Q S z k))
fin_specifier inner _ h Q S z k = absurd (cc h)

-- ---- declarators: a name, or nothing

has_tails : (due : Sort) (least : ℕ) → is_declarator due ≡ true → (c : ℕ) → has (goes_on s.Declarator least) c ≡ true → has (goes_on due least) c ≡ true
has_tails s.Declarator least h c o = o
has_tails s.AbstractDeclarator least h c o = has_right (starts s.AbstractDeclarator) (starts s.Qualifier ++ goes_on s.Declarator least) c (has_right (starts s.Qualifier) (goes_on s.Declarator least) c o)
has_tails s.ParamDeclarator least h c o = has_right (starts s.ParamDeclarator) (starts s.Qualifier ++ goes_on s.Declarator least) c (has_right (starts s.Qualifier) (goes_on s.Declarator least) c o)
has_tails s.MemberName least h c o = has_right (starts s.Declarator) (goes_on s.Declarator least) c o
has_tails _ least h c o = absurd (cc h)

pub declarators_over : (due : Sort) (least : ℕ) → is_declarator due ≡ true → (y : Standing) (z : State) (x : Shape) → none_of (goes_on due least) x ≡ true → is_tail due least z y (continued_by due x) ≡ false
declarators_over s.Declarator least h y z x q = ends_tails s.Declarator least (goes_on s.Declarator least) (has_tails s.Declarator least refl) z y x q
declarators_over s.AbstractDeclarator least h y z x q = ends_tails s.AbstractDeclarator least (goes_on s.AbstractDeclarator least) (has_tails s.AbstractDeclarator least refl) z y x q
declarators_over s.ParamDeclarator least h y z x q = ends_tails s.ParamDeclarator least (goes_on s.ParamDeclarator least) (has_tails s.ParamDeclarator least refl) z y x q
declarators_over s.MemberName least h y z x q = ends_tails s.MemberName least (goes_on s.MemberName least) (has_tails s.MemberName least refl) z y x q
declarators_over _ least h y z x q = absurd (cc h)

-- a class of a set that has no token there
lacks_class : (set : Classes) (c n : ℕ) → has set c ≡ true → has set n ≡ false → nat_eq n c ≡ false
lacks_class set c n h l = by_test (nat_eq n c) refl
  where
    by_test : (b : Bool) → nat_eq n c ≡ b → nat_eq n c ≡ false
    by_test false e = e
    by_test true e = contrary (has set c) h (ap (has set) (sym (same_class n c e)) ∙ l)

abbrev is_nameless : Sort → Bool
is_nameless s.AbstractDeclarator = true
is_nameless s.ParamDeclarator = true
is_nameless s.MemberName = true
is_nameless due = false

module _ (least : ℕ) (z : State) (x : Shape) where
  lacks : (due : Sort) → none_of (goes_on due least) x ≡ true → (c : ℕ) → has (goes_on due least) c ≡ true → nat_eq (class z x) c ≡ false
  lacks due q c h = lacks_class (goes_on due least) c (class z x) h (quiet (goes_on due least) z x q)

  no_paren : (due : Sort) → is_nameless due ≡ true → none_of (goes_on due least) x ≡ true → is_sign punct.LeftParen (seen z x) ≡ false
  no_paren s.AbstractDeclarator h q = lacks s.AbstractDeclarator q (class_number (sign punct.LeftParen)) refl
  no_paren s.ParamDeclarator h q = lacks s.ParamDeclarator q (class_number (sign punct.LeftParen)) refl
  no_paren s.MemberName h q = lacks s.MemberName q (class_number (sign punct.LeftParen)) refl
  no_paren _ h q = absurd (cc h)

  no_star : (due : Sort) → is_nameless due ≡ true → none_of (goes_on due least) x ≡ true → is_sign punct.Star (seen z x) ≡ false
  no_star s.AbstractDeclarator h q = lacks s.AbstractDeclarator q (class_number (sign punct.Star)) refl
  no_star s.ParamDeclarator h q = lacks s.ParamDeclarator q (class_number (sign punct.Star)) refl
  no_star s.MemberName h q = lacks s.MemberName q (class_number (sign punct.Star)) refl
  no_star _ h q = absurd (cc h)

  no_name : (due : Sort) → is_nameless due ≡ true → none_of (goes_on due least) x ≡ true → (is_value (seen z x) && may_be_named due) ≡ false
  no_name s.AbstractDeclarator h q = and_false (is_value (seen z x))
    where
      and_false : (b : Bool) → (b && false) ≡ false
      and_false true = refl
      and_false false = refl
  no_name s.ParamDeclarator h q = ap (λ b. b && true) (lacks s.ParamDeclarator q (class_number class.Word) refl)
  no_name s.MemberName h q = ap (λ b. b && true) (lacks s.MemberName q (class_number class.Word) refl)
  no_name _ h q = absurd (cc h)

  may_lack : (due : Sort) → is_nameless due ≡ true → may_be_absent due ≡ true
  may_lack s.AbstractDeclarator h = refl
  may_lack s.ParamDeclarator h = refl
  may_lack s.MemberName h = refl
  may_lack _ h = absurd (cc h)

module _ (inner : Parts) (due : Sort) (least : ℕ) (a : List Kept) where
  abbrev Held : {A : Type 0} → A → State → Type 0
  Held x t = Still a t

  abbrev beyond : Tokens
  beyond = none_of (goes_on due least)

  abbrev no_declarator : ℕ → Reader Standing
  no_declarator i = Give (record { found = absent_at i; level = 17 })

  abbrev at_absent : ℕ → Reader Standing
  at_absent i = choose (may_be_absent due) (no_declarator i) Refuse

  abbrev at_name : ℕ → Seen → Reader Standing
  at_name i x = choose (is_value x && may_be_named due) (standing 17 (whole inner due (the_declarator declarator.Named))) (at_absent i)

  abbrev at_star : ℕ → Seen → Reader Standing
  at_star i x = choose (is_sign punct.Star x) (tight least (the_declarator declarator.Pointer) (whole inner due (the_declarator declarator.Pointer))) (at_name i x)

  abbrev at_paren : ℕ → Seen → Reader Standing
  at_paren i x = choose (is_sign punct.LeftParen x) (opened_declarator due i) (at_star i x)

  fin_none_at : is_nameless due ≡ true → (i : ℕ) (z : State) (x : Shape) → beyond x ≡ true → Still a z → Finishes body z beyond Held (at_paren i (seen z x)) []
  fin_none_at h i z x q k =
      fin_choose body z beyond Held (is_sign punct.LeftParen (seen z x)) (opened_declarator due i) (at_star i (seen z x)) [] (λ e. contrary (is_sign punct.LeftParen (seen z x)) e (no_paren least z x due h q))
      (λ _. fin_choose body z beyond Held (is_sign punct.Star (seen z x)) (tight least (the_declarator declarator.Pointer) (whole inner due (the_declarator declarator.Pointer))) (at_name i (seen z x)) [] (λ e. contrary (is_sign punct.Star (seen z x)) e (no_star least z x due h q))
      (λ _. fin_choose body z beyond Held (is_value (seen z x) && may_be_named due) (standing 17 (whole inner due (the_declarator declarator.Named))) (at_absent i) [] (λ e. contrary (is_value (seen z x) && may_be_named due) e (no_name least z x due h q))
      (λ _. fin_choose body z beyond Held (may_be_absent due) (no_declarator i) Refuse [] (λ _. fin_give body z beyond Held (record { found = absent_at i; level = 17 }) k) (λ e. contrary (may_be_absent due) (may_lack least z x due h) e))))

  fin_none : is_nameless due ≡ true → (z : State) → Still a z → Finishes body z beyond Held (declarator_head inner due least) []
  unfolding declarator_head
  fin_none h z k = fin_ask body z beyond Held (λ i. Look (at_paren i.place)) [] (λ place. fin_look_past body z beyond Held (at_paren place) (λ x q. fin_none_at h place z x q k))

  pub fin_after_head : is_declarator due ≡ true → (u : _) → ((z : State) → Still a z → Finishes body z beyond Held (declarator_head inner due least) u) → (z : State) → Still a z → Finishes body z beyond Held (declarator_of inner due least) u
  unfolding declarator_of
  fin_after_head h u F z k = fin_ask body z beyond Held (λ i. Bind (declarator_head inner due least) (λ y. climb due least i.place y)) u (λ place. fin_last body z Held beyond beyond Held (declarator_head inner due least) (λ y. climb due least place y) u (F z k) (λ x q. q)
      (λ y t k. fin_climb due least place (Still a) beyond (λ y z x q. declarators_over due least h y z x q) t y k))

fin_named : (inner : Parts) (least : ℕ) (a : List Kept) → Ending inner (reads 1) → (z : State) → Still a z → Finishes body z (none_of (goes_on s.Declarator least)) (λ _ t. Still a t) (declarator_head inner s.Declarator least) (a_word ∷ [])
unfolding declarator_head
fin_named inner least a E z k = fin_ask body z (none_of (goes_on s.Declarator least)) (λ _ t. Still a t) _ (a_word ∷ []) (λ place. fin_look body z (none_of (goes_on s.Declarator least)) (λ _ t. Still a t) _ a_word []
    (λ n. fin_map body z (λ _ t. Still a t) (none_of (goes_on s.Declarator least)) (λ _ t. Still a t) (whole inner s.Declarator (the_declarator declarator.Named)) (λ x. record { found = x; level = 17 }) (a_word ∷ [])
    (fin_whole inner s.Declarator (the_declarator declarator.Named) (reads 1) E (goes_on s.Declarator least) refl a z k) (λ x t k. k)))

fin_declarator : (inner : Parts) (due : Sort) (least : ℕ) → is_declarator due ≡ true → Ending inner (reads 1) → (a : List Kept) (z : State) → Still a z → Finishes body z (none_of (goes_on due least)) (λ _ t. Still a t) (declarator_of inner due least) (phrase due)
fin_declarator inner s.Declarator least h E a z k = fin_after_head inner s.Declarator least a refl (a_word ∷ []) (fin_named inner least a E) z k
fin_declarator inner s.AbstractDeclarator least h E a z k = fin_after_head inner s.AbstractDeclarator least a refl [] (fin_none inner s.AbstractDeclarator least a refl) z k
fin_declarator inner s.ParamDeclarator least h E a z k = fin_after_head inner s.ParamDeclarator least a refl [] (fin_none inner s.ParamDeclarator least a refl) z k
fin_declarator inner s.MemberName least h E a z k = fin_after_head inner s.MemberName least a refl [] (fin_none inner s.MemberName least a refl) z k
fin_declarator inner _ least h E a z k = absurd (cc h)

-- ---- parameters: none

fin_parameters : (inner : Parts) → Ending inner (reads 1) → (a : List Kept) (z : State) → Still a z → Finishes body z (none_of (goes_on s.Params 0)) (λ _ t. Still a t) (parameters inner) []
unfolding parameters
fin_parameters inner E a z k = fin_ask body z (none_of (goes_on s.Params 0)) (λ _ t. Still a t) (λ i. Look (by_start i)) [] (λ place. fin_look_past body z (none_of (goes_on s.Params 0)) (λ _ t. Still a t) (by_start (record { place = place; state = z })) (λ x q. by_none place x q))
  where
    by_name : Spot → Seen → Reader Found
    by_name i x = choose (is_value x && not (has_name i.state)) Refuse (whole inner s.Params (form.Params params.Ids))

    by_start : Spot → Seen → Reader Found
    by_start i x = choose (begins s.Spec x) (typed inner i.place) (by_name i x)

    by_none : (place : ℕ) (x : Shape) → none_of (goes_on s.Params 0) x ≡ true → Finishes body z (none_of (goes_on s.Params 0)) (λ _ t. Still a t) (by_start (record { place = place; state = z }) (seen z x)) []
    by_none place x q = fin_choose body z (none_of (goes_on s.Params 0)) (λ _ t. Still a t) (begins s.Spec (seen z x)) (typed inner place) (by_name (record { place = place; state = z }) (seen z x)) []
        (λ e. contrary (begins s.Spec (seen z x)) e (quiet (starts s.Spec) z x (none_within (starts s.Spec) (goes_on s.Params 0) x refl q)))
        (λ _. fin_choose body z (none_of (goes_on s.Params 0)) (λ _ t. Still a t) (is_value (seen z x) && not (has_name z)) Refuse (whole inner s.Params (form.Params params.Ids)) []
        (λ e. contrary (is_value (seen z x)) (both (is_value (seen z x)) (not (has_name z)) e).0 (lacks_class (goes_on s.Params 0) (class_number class.Word) (class z x) refl (quiet (goes_on s.Params 0) z x q)))
        (λ _. fin_whole inner s.Params (form.Params params.Ids) (reads 1) E (goes_on s.Params 0) refl a z k))

-- ---- statements: nothing but a semicolon

abbrev semicolon : Shape
semicolon = shape.Punct punct.Semicolon

fin_statement : (inner : Parts) → Ending inner (reads 1) → (out : Classes) (a : List Kept) (z : State) → Still a z → Finishes body z (none_of out) (λ _ t. Still a t) (statement inner) (semicolon ∷ [])
unfolding statement
fin_statement inner E out a z k = fin_ask body z (none_of out) (λ _ t. Still a t) _ (semicolon ∷ []) (λ place. fin_look body z (none_of out) (λ _ t. Still a t) _ semicolon [] (λ n. fin_whole inner s.Stmt (form.Stmt stmt.Empty) (reads 1) E out refl a z k))

nothing_known : Known
nothing_known due least = false

calls_end : Ending called nothing_known
unfolding nothing_known
calls_end = record { firm = firm_called; ends = λ due least h. absurd (cc h) }

fin_block : (inner : Parts) (out : Classes) (a : List Kept) (z : State) → Still a z → Finishes body z (none_of out) (λ _ t. Still a t) (block inner) (phrase s.Block)
unfolding nothing_known
fin_block inner out a z k = fin_look body z (none_of out) (λ _ t. Still a t) _ (shape.Punct punct.LeftBrace) (shape.Punct punct.RightBrace ∷ []) (λ n. fin_whole inner s.Stmt (form.Stmt stmt.Block) nothing_known calls_end out refl a z k)

abbrev any_item : Parts → Spot → Seen → Reader Found
any_item inner i x = choose (not i.state.is_late && begins s.Decl x) (declaration_at inner i.place x) (late (statement inner))

fin_block_item : (inner : Parts) → Ending inner (reads 1) → (out : Classes) (a : List Kept) (z : State) → Still a z → Finishes body z (none_of out) (λ _ t. Still a t) (block_item inner) (semicolon ∷ [])
unfolding block_item
fin_block_item inner E out a z k = fin_ask body z (none_of out) (λ _ t. Still a t) (λ i. Look (any_item inner i)) (semicolon ∷ []) (λ place. fin_look body z (none_of out) (λ _ t. Still a t) (any_item inner (record { place = place; state = z })) semicolon []
    (λ n. fin_choose body z (none_of out) (λ _ t. Still a t) (not z.is_late && false) (declaration_at inner place (record { shape = semicolon; class = class_number (sign punct.Semicolon) })) (late (statement inner)) (semicolon ∷ [])
    (λ e. absurd (let w : false ≡ true = (both (not z.is_late) false e).1 in cc w))
    (λ _. fin_last body z (λ _ t. Still a t) (none_of out) (none_of out) (λ _ t. Still a t) (statement inner) (λ x. Change event.Statements (Give x)) (semicolon ∷ []) (fin_statement inner E out a z k) (λ x q. q)
    (λ x t k. fin_change body t (none_of out) (λ _ t. Still a t) event.Statements (Give x) [] (fin_give body (happens event.Statements t) (none_of out) (λ _ t. Still a t) x (event_within event.Statements false a t refl k))))))

fin_initializer : (inner : Parts) → Ending inner (reads 2) → (a : List Kept) (z : State) → Still a z → Finishes body z (none_of (goes_on s.Init 0)) (λ _ t. Still a t) (initializer inner) (a_word ∷ [])
fin_initializer inner E a z k = fin_look body z (none_of (goes_on s.Init 0)) (λ _ t. Still a t) _ a_word [] (λ n. fin_whole inner s.Init (form.Init init.One) (reads 2) E (goes_on s.Init 0) refl a z k)

fin_parameter_id : (Q : Tokens) (a : List Kept) (z : State) → Still a z → Finishes body z Q (λ _ t. Still a t) (Bind declared_identifier (λ x. Change event.DeclareValue (Give x))) (a_word ∷ [])
fin_parameter_id Q a z k = fin_last body z (λ _ t. Still a t) Q Q (λ _ t. Still a t) declared_identifier (λ x. Change event.DeclareValue (Give x)) (a_word ∷ []) (fin_declared a Q z k) (λ x q. q)
    (λ x t k. fin_change body t Q (λ _ t. Still a t) event.DeclareValue (Give x) [] (fin_give body (happens event.DeclareValue t) Q (λ _ t. Still a t) x (event_within event.DeclareValue false a t refl k)))

-- ---- all sorts

module _ (m : ℕ) (E : Ending (in_place m) (reads m)) where
  few : (n : ℕ) → n ≤ m → Ending (in_place m) (reads n)
  few n le = fewer_end (in_place m) (reads n) (reads m) (λ due least h. reads_more n m le due least h) E

  ends_at : (due : Sort) (least : ℕ) → rank due ≤ suc m → met due least ≡ true → (a : List Kept) (z : State) → Still a z → Finishes body z (none_of (past due least)) (λ _ t. Still a t) (at_sort (in_place m) due least) (phrase due)
  ends_at s.Exp least le h a z k = fin_expression (in_place m) least (below_words least (both (is_reached s.Exp least) true h).0) a z k
  ends_at s.Declarator least le h a z k = fin_declarator (in_place m) s.Declarator least refl (few 1 (omega (arith, le))) a z k
  ends_at s.AbstractDeclarator least le h a z k = fin_declarator (in_place m) s.AbstractDeclarator least refl (few 1 (omega (arith, le))) a z k
  ends_at s.ParamDeclarator least le h a z k = fin_declarator (in_place m) s.ParamDeclarator least refl (few 1 (omega (arith, le))) a z k
  ends_at s.MemberName least le h a z k = fin_declarator (in_place m) s.MemberName least refl (few 1 (omega (arith, le))) a z k
  ends_at s.Id least le h a z k = fin_identifier a z (none_of []) k
  ends_at s.DeclaredId least le h a z k = fin_declared a (none_of []) z k
  ends_at s.ParameterId least le h a z k = fin_parameter_id (none_of []) a z k
  ends_at s.EnumeratorId least le h a z k = fin_enumerator a (none_of []) z k
  ends_at s.Literal least le h a z k = fin_literal a z k
  ends_at s.Spec least le h a z k = fin_specifier (in_place m) s.Spec refl (none_of (past s.Spec least)) (Still a) z k
  ends_at s.PlainSpec least le h a z k = fin_specifier (in_place m) s.PlainSpec refl (none_of (past s.PlainSpec least)) (Still a) z k
  ends_at s.Qualifier least le h a z k = fin_specifier (in_place m) s.Qualifier refl (none_of (past s.Qualifier least)) (Still a) z k
  ends_at s.TypeName least le h a z k = fin_whole (in_place m) s.TypeName form.TypeName (reads 2) (few 2 (omega (arith, le))) (past s.TypeName 0) refl a z k
  ends_at s.Member least le h a z k = fin_whole (in_place m) s.Member form.Member (reads 4) (few 4 (omega (arith, le))) (past s.Member 0) refl a z k
  ends_at s.Enumerator least le h a z k = fin_whole (in_place m) s.Enumerator form.Enumerator (reads 3) (few 3 (omega (arith, le))) (past s.Enumerator 0) refl a z k
  ends_at s.Params least le h a z k = fin_parameters (in_place m) (few 1 (omega (arith, le))) a z k
  ends_at s.Param least le h a z k = fin_whole (in_place m) s.Param form.Param (reads 2) (few 2 (omega (arith, le))) (past s.Param 0) refl a z k
  ends_at s.Init least le h a z k = fin_initializer (in_place m) (few 2 (omega (arith, le))) a z k
  ends_at s.Decl least le h a z k = fin_whole (in_place m) s.Decl form.Decl (reads 5) (few 5 (omega (arith, le))) (past s.Decl 0) refl a z k
  ends_at s.Stmt least le h a z k = fin_statement (in_place m) (few 1 (omega (arith, le))) (past s.Stmt 0) a z k
  ends_at s.Block least le h a z k = fin_block (in_place m) (past s.Block 0) a z k
  ends_at s.BlockItem least le h a z k = fin_block_item (in_place m) (few 1 (omega (arith, le))) (past s.BlockItem 0) a z k
  ends_at s.InitDeclarator least le h a z k = fin_whole (in_place m) s.InitDeclarator (form.Group group.InitDeclarator) (reads 4) (few 4 (omega (arith, le))) (past s.InitDeclarator 0) refl a z k
  ends_at s.Initializer least le h a z k = fin_whole (in_place m) s.Initializer (form.Group group.Initializer) (reads 3) (few 3 (omega (arith, le))) (past s.Initializer 0) refl a z k
  ends_at s.MemberDeclarator least le h a z k = fin_whole (in_place m) s.MemberDeclarator (form.Group group.MemberDeclarator) (reads 3) (few 3 (omega (arith, le))) (past s.MemberDeclarator 0) refl a z k
  ends_at s.Width least le h a z k = fin_whole (in_place m) s.Width (form.Group group.Width) (reads 2) (few 2 (omega (arith, le))) (past s.Width 0) refl a z k
  ends_at s.Members least le h a z k = fin_whole (in_place m) s.Members (form.Group group.Members) (reads 5) (few 5 (omega (arith, le))) (past s.Members 0) refl a z k
  ends_at s.Enumerators least le h a z k = fin_whole (in_place m) s.Enumerators (form.Group group.Enumerators) (reads 4) (few 4 (omega (arith, le))) (past s.Enumerators 0) refl a z k
  ends_at s.EnumeratorValue least le h a z k = fin_whole (in_place m) s.EnumeratorValue (form.Group group.EnumeratorValue) (reads 2) (few 2 (omega (arith, le))) (past s.EnumeratorValue 0) refl a z k
  ends_at s.ElsePart least le h a z k = fin_whole (in_place m) s.ElsePart (form.Group group.ElsePart) (reads 3) (few 3 (omega (arith, le))) (past s.ElsePart 0) refl a z k
  ends_at _ least le h a z k = absurd (cc h)

ends_in : (n : ℕ) (due : Sort) (least : ℕ) → reads n due least ≡ true → (a : List Kept) (z : State) → Still a z → Finishes body z (none_of (past due least)) (λ _ t. Still a t) (in_place n due least) (phrase due)
unfolding in_place
ends_in zero due least h a z k = absurd (none_read due least h)
ends_in (suc m) due least h a z k = let r = reads_at (suc m) due least h in ends_at m (record { firm = firm_in_place m; ends = ends_in m }) due least r.0 r.1 a z k

pub ending : (n : ℕ) → Ending (in_place n) (reads n)
ending n = record { firm = firm_in_place n; ends = ends_in n }

-- and where they are called
pub calling : Ending called met
unfolding in_place
calling = record { firm = firm_called; ends = λ due least h a z k. fin_called due least a z (ends_in 9 due least (met_reads due least h) a z k) }
