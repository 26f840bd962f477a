-- A declarator can be completed where a function's is due.
use Rattle.std.proofs.Common.{◌≡◌, refl, sym, ◌∙◌, ℕ, suc, not, Bool, true, false, ◌&&◌, List, [], ◌∷◌, ◌++◌, Some, nat_lt, nat_eq, arith}
use Rattle.c_tokens.specs.declared.token.Punct.{Punct}
use Rattle.c_tokens.specs.declared.token.Punct.TheVariants as punct
use Rattle.c_tokens.specs.declared.token.Shape.{Shape}
use Rattle.c_tokens.specs.declared.token.Shape.TheVariants as shape
use Rattle.c_forms.specs.declared.pieces.Sort.TheVariants as s
use Rattle.c_forms.specs.declared.forms.Form.{Form}
use Rattle.c_forms.specs.declared.forms.DeclaratorForm.TheVariants as declarator
use Rattle.c_forms.specs.Measures.{pieces}
use Rattle.c_forms.specs.Sets.{goes_on}
use Rattle.c_reader.specs.States.{State, Kept, Seen, seen, class, is_bare}
use Rattle.c_reader.specs.Tokens.{Spot, spot}
use Rattle.c_reader.specs.Readers.{Reader, Found, Turn, More, Last, Of, Give, Refuse, Bind, Call, Loop, Ask, below, choose, turn_while, token}
use Rattle.c_reader.proofs.Sets.{both, contrary, same_class}
use Rattle.c_reader.proofs.Leaves.{Leaves, Turned, anyhow, leaves_anyhow, leaves_turn, leaving_ask}
use Rattle.c_reader.proofs.Phrases.{Tokens, Finishes, anything, opens_anything, fin_give, fin_bind, fin_map, fin_token, begun_next}
use Rattle.c_reader.proofs.Live.{Live, live_bind, live_choose, live_map, live_next}
use Rattle.c_syntax.specs.Reading.{nothing, one, deeper, called, with_first, pieces_in, completed}
use Rattle.c_syntax.specs.Grammar.{body, whole, is_sign, is_value, Standing, standing, parenthesized, opened_declarator, the_declarator, after_first, after_part, is_tail, continued_by, tail_by, turn, climb, declarator_head, declarator_of, in_place}
use Rattle.c_alive.proofs.Phrased.{none_of, a_word, opens_if}
use Rattle.c_alive.proofs.Nodes.{live_completed, begun_completed, begun_map}
use Rattle.c_alive.proofs.Called.{calls, Due}
use Rattle.c_lively.proofs.DueRows.{sign_of, pointer, array, function, after_tree, after_bracket, after_paren, Function, near_function, not_bare}
use Rattle.c_lively.proofs.DueEnds.{close, parens, Named, fin_after_paren, fin_over, fin_none, fin_parens, fin_called_due}
use Rattle.c_lively.proofs.DueLives.{live_declared, live_star, fin_after_bracket, live_after_bracket, live_after_paren, begun_led, live_led}
use Rattle.c_lively.proofs.DueLeaves.{leaves_rule, leaves_tail, leaves_head}

module _ (a : List Kept) where
  abbrev Made : {A : Type 0} → A → State → Type 0
  Made x t = Function a t

  abbrev Dues : {A : Type 0} → A → State → Type 0
  Dues x t = Due a t

  abbrev beyond : Tokens
  beyond = none_of (goes_on s.Declarator 1)

  abbrev at_level_two : Found → Standing
  at_level_two x = record { found = x; level = 2 }

  -- ---- what goes on

  module _ (i deep : ℕ) where
    live_array : (y : Standing) (z : State) → Function a z → Live body calls deep z (shape.Punct punct.LeftBracket) beyond Made (tail_by s.Declarator i y (Some array))
    unfolding pieces_in
    live_array y z k = let part : Reader Found = after_part called s.Declarator array i (deeper y.found) in (
      begun_map (Function a) beyond z (shape.Punct punct.LeftBracket) part at_level_two (begun_completed (Function a) beyond called s.Declarator array i (one (deeper y.found)) (after_first (pieces array)) z (shape.Punct punct.LeftBracket)
          (begun_led a (Function a) punct.LeftBracket after_bracket (shape.Punct punct.RightBracket ∷ []) (fin_after_bracket a) z (shape.Punct punct.LeftBracket) refl k)),
      live_map body calls (suc y.found.height) z (shape.Punct punct.LeftBracket) Made beyond beyond Made part at_level_two (λ x q. q) (λ x t k. k) (live_completed (Function a) beyond called s.Declarator array i (one (deeper y.found)) (after_first (pieces array)) calls (suc y.found.height) z (shape.Punct punct.LeftBracket)
          (live_led a (Function a) punct.LeftBracket after_bracket (shape.Punct punct.RightBracket ∷ []) (fin_after_bracket a) (suc y.found.height) z (shape.Punct punct.LeftBracket) k (λ t x k. live_after_bracket a (suc y.found.height) (omega arith) t x k))),
    )

    live_function : (y : Standing) (z : State) → Due a z → Live body calls deep z (shape.Punct punct.LeftParen) beyond Made (tail_by s.Declarator i y (Some function))
    unfolding pieces_in
    live_function y z k = let part : Reader Found = after_part called s.Declarator function i (deeper y.found) in (
      begun_map (Function a) beyond z (shape.Punct punct.LeftParen) part at_level_two (begun_completed (Function a) beyond called s.Declarator function i (one (deeper y.found)) (after_first (pieces function)) z (shape.Punct punct.LeftParen)
          (begun_led a (Due a) punct.LeftParen after_paren close (fin_after_paren a beyond) z (shape.Punct punct.LeftParen) refl k)),
      live_map body calls (suc y.found.height) z (shape.Punct punct.LeftParen) Made beyond beyond Made part at_level_two (λ x q. q) (λ x t k. k) (live_completed (Function a) beyond called s.Declarator function i (one (deeper y.found)) (after_first (pieces function)) calls (suc y.found.height) z (shape.Punct punct.LeftParen)
          (live_led a (Due a) punct.LeftParen after_paren close (fin_after_paren a beyond) (suc y.found.height) z (shape.Punct punct.LeftParen) k (λ t x k. live_after_paren a (suc y.found.height) (omega arith) t x k))),
    )

    -- an array stands next to parameters alone
    after_parameters : (y : Standing) (z : State) → Due a z → is_tail s.Declarator 1 z y (Some array) ≡ true → Function a z
    after_parameters y z k e = (k, near_function z.kept.near k.1.1 (not_bare z k.1.0 (both (not (nat_lt y.level 2)) (not (z.kept.is_function_due && is_bare z.kept.near)) e).1))

    by_sign : (y : Standing) (z : State) (p : Punct) → Due a z → is_tail s.Declarator 1 z y (continued_by s.Declarator (shape.Punct p)) ≡ true → Live body calls deep z (shape.Punct p) beyond Made (tail_by s.Declarator i y (continued_by s.Declarator (shape.Punct p)))
    by_sign y z punct.LeftBracket k e = live_array y z (after_parameters y z k e)
    by_sign y z punct.LeftParen k e = live_function y z k
    by_sign y z _ k e = absurd (cc e)

    live_tail : (y : Standing) (z : State) (x : Shape) → Due a z → is_tail s.Declarator 1 z y (continued_by s.Declarator x) ≡ true → Live body calls deep z x beyond Made (tail_by s.Declarator i y (continued_by s.Declarator x))
    live_tail y z (shape.Punct p) k e = by_sign y z p k e
    live_tail y z _ k e = absurd (cc e)

    abbrev Turns : Turn Standing Standing → State → Type 0
    Turns = Turned {A = Standing} {S = Standing} Made Made

    abbrev Going : Turn Standing Standing → State → Type 0
    Going = Turned {A = Standing} {S = Standing} Dues anyhow

    live_turn : (y : Standing) (z : State) (x : Shape) → Due a z → Live body calls deep z x beyond Turns (turn s.Declarator 1 i y)
    live_turn y z x k = λ place. live_choose body calls deep z x beyond Turns (is_tail s.Declarator 1 z y (continued_by s.Declarator x)) (Bind (tail_by s.Declarator i y (continued_by s.Declarator x)) (λ t. Give (More t))) (Give (Last y))
        (λ e. live_map body calls deep z x Made beyond beyond Turns (tail_by s.Declarator i y (continued_by s.Declarator x)) More (λ x q. q) (λ s t k. k) (live_tail y z x k e)) (λ _. tt)

    leaves_one : (y : Standing) (z : State) (x : Shape) → Due a z → Leaves body z x (turn s.Declarator 1 i y) Going
    leaves_one y z x k d = leaving_ask (below body d) d z x (λ k. turn_while (goes k) item y) Going (λ place. leaves_turn body Dues anyhow (goes (spot place z)) item y z x (λ e. leaves_tail a z x k i y x) (λ _. tt) d)
      where
        goes : Spot → Standing → Seen → Bool
        goes k y x = is_tail s.Declarator 1 k.state y (continued_by s.Declarator x.shape)

        item : Seen → Standing → Reader Standing
        item x y = tail_by s.Declarator i y (continued_by s.Declarator x.shape)

    live_climbing : (z : State) (x : Shape) (y : Standing) → Due a z → Live body calls deep z x beyond Made (climb s.Declarator 1 i y)
    unfolding climb
    live_climbing z x y k = live_map body calls deep z x Made beyond beyond Made (Loop (turn s.Declarator 1 i) y) (λ s. s.found) (λ x q. q) (λ s t k. k)
        (Dues, (Made, (k, ((λ y z x k. live_turn y z x k), ((λ y z x k. leaves_one y z x k), (λ y z k. fin_over a i y z k))))))

  -- ---- what begins it

  abbrev level_seventeen : Found → Standing
  level_seventeen x = record { found = x; level = 17 }

  abbrev closing : Found → Reader Found
  closing x = Bind (token (sign_of punct.RightParen)) (λ _. Give (deeper x))

  abbrev words : List Shape
  words = (a_word ∷ parens) ++ close

  fin_closing : (x : Found) (t : State) → Due a t → Finishes body t anything Dues (closing x) close
  fin_closing x t k = fin_map body t Dues anything Dues (token (sign_of punct.RightParen)) (λ _. deeper x) close (fin_token body t anything Dues (shape.Punct punct.RightParen) (sign_of punct.RightParen) refl k) (λ _ t k. k)

  fin_wrapped : (z : State) → Due a z → Finishes body z anything (Named a) (standing 17 (parenthesized s.Declarator)) words
  fin_wrapped z k = fin_map body z Dues anything (Named a) (parenthesized s.Declarator) level_seventeen words
      (fin_bind body z Made beyond anything Dues (Call (Of s.Declarator 1)) closing (a_word ∷ parens) close (fin_called_due a z k) (opens_if (goes_on s.Declarator 1) close [] refl) (λ x t k. fin_closing x t k.0)) (λ x t k. (refl, k))

  live_wrapped : (z : State) (y : Shape) → Due a z → Live body calls 1 z y anything (Named a) (standing 17 (parenthesized s.Declarator))
  live_wrapped z y k = live_map body calls 1 z y Dues anything anything (Named a) (parenthesized s.Declarator) level_seventeen (λ x q. q) (λ x t k. (refl, k))
      (live_bind body calls 1 z y Dues Made beyond anything Dues (Call (Of s.Declarator 1)) closing (live_declared a 1 (omega arith) z y k) (leaves_rule a z y k (Of s.Declarator 1) refl)
      (record { tokens = close; opens = opens_if (goes_on s.Declarator 1) close [] refl; finishes = λ x t k. fin_closing x t k.0 })
      (λ x t y k. live_map body calls 1 t y Dues anything anything Dues (token (sign_of punct.RightParen)) (λ _. deeper x) (λ x q. q) (λ _ t k. k) ((λ _ _. k), tt)))

  module _ (deep n : ℕ) where
    live_opened : (i : ℕ) (z : State) (y : Shape) → Due a z → Live body calls deep z y anything (Named a) (opened_declarator s.Declarator i)
    live_opened i z y k = (
      begun_next body z y anything (Named a) (standing 17 (parenthesized s.Declarator)) (record { tokens = words; finishes = fin_wrapped z k }),
      live_next body calls 1 z y anything (Named a) (standing 17 (parenthesized s.Declarator)) words (fin_wrapped z k) (λ x. live_wrapped z x k),
    )

    abbrev named : Form
    named = the_declarator declarator.Named

    live_word : (z : State) (y : Shape) → Due a z → Live body calls deep z y anything Dues (in_place (suc n) s.DeclaredId 0)
    unfolding in_place
    live_word z y k = λ place. ((λ x e. (k.0, (k.1.0, refl))), tt)

    fin_nothing : (x : Found) (t : State) → Due a t → Finishes body t anything Dues (after_tree (Give nothing) x) []
    fin_nothing x t k = fin_map body t Dues anything Dues (Give nothing) (λ g. with_first x g) [] (fin_give body t anything Dues nothing k) (λ g t k. k)

    live_named : (z : State) (y : Shape) → Due a z → Live body calls deep z y anything (Named a) (standing 17 (whole (in_place (suc n)) s.Declarator named))
    unfolding whole pieces_in
    live_named z y k = live_map body calls deep z y Dues anything anything (Named a) (Ask (λ i. completed (in_place (suc n)) s.Declarator named i.place nothing (pieces named))) level_seventeen (λ x q. q) (λ x t k. (refl, k))
        (λ place. live_completed (Due a) anything (in_place (suc n)) s.Declarator named place nothing (pieces named) calls deep z y
        (live_bind body calls deep z y anyhow Dues anything anything Dues (in_place (suc n) s.DeclaredId 0) (after_tree (Give nothing)) (live_word z y k) (leaves_anyhow body z y (in_place (suc n) s.DeclaredId 0))
        (record { tokens = []; opens = λ x q. q; finishes = λ x t k. fin_nothing x t k }) (λ x t y _. live_map body calls deep t y Dues anything anything Dues (Give nothing) (λ g. with_first x g) (λ x q. q) (λ g t k. k) tt)))

    abbrev head : Reader Standing
    head = declarator_head (in_place (suc n)) s.Declarator 1

    abbrev a_pointer : Reader Standing
    a_pointer = standing 1 (whole (in_place (suc n)) s.Declarator pointer)

    abbrev a_name : Reader Standing
    a_name = standing 17 (whole (in_place (suc n)) s.Declarator named)

    abbrev by_name : Seen → Reader Standing
    by_name x = choose (is_value x && true) a_name Refuse

    abbrev by_star : Seen → Reader Standing
    by_star x = choose (is_sign punct.Star x) a_pointer (by_name x)

    not_both : (c : ℕ) → nat_eq c (sign_of punct.LeftParen) ≡ true → nat_eq c (sign_of punct.Star) ≡ true → ⊥
    not_both c e f = let same : sign_of punct.LeftParen ≡ sign_of punct.Star = sym (same_class c (sign_of punct.LeftParen) e) ∙ same_class c (sign_of punct.Star) f in omega (arith, same)

    live_starred : (z : State) (y : Shape) → is_sign punct.Star (seen z y) ≡ true → Due a z → Live body calls deep z y beyond Made head
    unfolding declarator_head
    live_starred z y e k = λ place. live_choose body calls deep z y beyond Made (is_sign punct.LeftParen (seen z y)) (opened_declarator s.Declarator place) (by_star (seen z y)) (λ f. absurd (not_both (class z y) f e))
        (λ _. live_choose body calls deep z y beyond Made (is_sign punct.Star (seen z y)) a_pointer (by_name (seen z y)) (λ _. live_star a deep (suc n) z y e k) (λ no. absurd (contrary (is_sign punct.Star (seen z y)) e no)))

    live_other : (z : State) (y : Shape) → is_sign punct.Star (seen z y) ≡ false → Due a z → Live body calls deep z y anything (Named a) head
    unfolding declarator_head
    live_other z y e k = λ place. live_choose body calls deep z y anything (Named a) (is_sign punct.LeftParen (seen z y)) (opened_declarator s.Declarator place) (by_star (seen z y)) (λ _. live_opened place z y k)
        (λ _. live_choose body calls deep z y anything (Named a) (is_sign punct.Star (seen z y)) a_pointer (by_name (seen z y)) (λ yes. absurd (contrary (is_sign punct.Star (seen z y)) yes e))
        (λ _. live_choose body calls deep z y anything (Named a) (is_value (seen z y) && true) a_name Refuse (λ _. live_named z y k) (λ _. tt)))

    -- ---- the whole

    pub live_due : (z : State) (y : Shape) → Due a z → Live body calls deep z y beyond Made (in_place (suc (suc n)) s.Declarator 1)
    unfolding in_place declarator_of
    live_due z y k = λ place. by_first place (is_sign punct.Star (seen z y)) refl
      where
        by_first : (place : ℕ) (b : Bool) → is_sign punct.Star (seen z y) ≡ b → Live body calls deep z y beyond Made (Bind head (λ y. climb s.Declarator 1 place y))
        by_first place true e = live_bind body calls deep z y Dues Made beyond beyond Made head (λ y. climb s.Declarator 1 place y) (live_starred z y e k) (leaves_head a z y k (suc n))
            (record { tokens = []; opens = λ x q. q; finishes = λ y t k. fin_none a place y t k }) (λ y t x k. live_climbing place deep t x y k)
        by_first place false e = live_bind body calls deep z y Dues (Named a) anything beyond Made head (λ y. climb s.Declarator 1 place y) (live_other z y e k) (leaves_head a z y k (suc n))
            (record { tokens = parens; opens = opens_anything parens beyond; finishes = λ y t m. fin_parens a place y t m.0 m.1 }) (λ y t x k. live_climbing place deep t x y k)
