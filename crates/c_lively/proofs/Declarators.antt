-- Declarators can be completed, where no function's is due.
use Rattle.std.proofs.Common.{◌≡◌, refl, subst, ℕ, suc, Bool, true, false, ◌&&◌, List, [], ◌∷◌, Option, Some, None, arith}
use Rattle.c_tokens.specs.declared.token.Punct.{Punct}
use Rattle.c_tokens.specs.declared.token.Punct.TheVariants as punct
use Rattle.c_tokens.specs.declared.token.Shape.{Shape}
use Rattle.c_tokens.specs.declared.token.Shape.TheVariants as shape
use Rattle.c_forms.specs.declared.pieces.Sort.{Sort}
use Rattle.c_forms.specs.declared.pieces.Sort.TheVariants as s
use Rattle.c_forms.specs.declared.pieces.Piece.{Piece}
use Rattle.c_forms.specs.declared.forms.Form.{Form}
use Rattle.c_forms.specs.declared.forms.DeclaratorForm.TheVariants as declarator
use Rattle.c_forms.specs.Measures.{level, pieces}
use Rattle.c_forms.specs.Tokens.{continued}
use Rattle.c_forms.specs.Sets.{goes_on}
use Rattle.c_reader.specs.States.{State, Seen, Kept, class, seen}
use Rattle.c_reader.specs.Readers.{Reader, Found, Give, Refuse, Look, choose}
use Rattle.c_reader.proofs.Sets.{both}
use Rattle.c_reader.proofs.Phrases.{Tokens, Finishes, begun_next, fin_look, fin_map}
use Rattle.c_reader.proofs.Live.{Live, live_bind, live_choose, live_map, live_next}
use Rattle.c_syntax.specs.Reading.{Usual, one, deeper, called, parts_of, is_starred, pieces_in, completed}
use Rattle.c_syntax.specs.Grammar.{body, whole, is_sign, is_value, Standing, standing, tight, may_be_absent, may_be_named, absent_at, the_declarator, parenthesized, parenthesized_sort, begins_parenthesized, is_nameable, nameless_function, opened_declarator, declarator_head, declarator_of, after_first, after_part, continued_by, is_tail, tail_by, climb, in_place}
use Rattle.c_alive.proofs.Kept.{Still, is_declarator, kept_head}
use Rattle.c_alive.proofs.Phrased.{none_of, pieces_phrase, a_word}
use Rattle.c_alive.proofs.Rows.{Ending, Able, fit, fit_from, begins_with, fin_pieces, live_pieces, begun_pieces}
use Rattle.c_alive.proofs.Nodes.{fin_completed, live_completed, begun_completed, begun_map}
use Rattle.c_alive.proofs.Climbs.{fin_climb, live_climb}
use Rattle.c_alive.proofs.Parens.{and_close, fin_wrapped, live_wrapped}
use Rattle.c_alive.proofs.Called.{calls}
use Rattle.c_lively.proofs.Ranks.{met, reads}
use Rattle.c_lively.proofs.Endings.{ending, calling, declarators_over}
use Rattle.c_lively.proofs.Wholes.{fits, calling_by, callable, callable_by, live_whole}

-- ---- facts of the rows

abbrev function_of : Form
function_of = the_declarator declarator.FunctionOf

abbrev parameters_after : List Piece
parameters_after = after_first (after_first (pieces function_of))

abbrev tail_so : Sort → State → Shape → Option Form → Bool
tail_so due z x (Some f) = fit_from met met due false (after_first (pieces f)) (goes_on due 1) && begins_with f (after_first (pieces f)) (class z x)
tail_so due z x None = true

-- what a row of a declarator must meet where it is read as a sort
record Fitting (due : Sort) : Type 0 where
  over : (y : Standing) (z : State) (x : Shape) → none_of (goes_on due 1) x ≡ true → is_tail due 1 z y (continued_by due x) ≡ false
  pointer : fits (reads 1) due (the_declarator declarator.Pointer) (pieces (the_declarator declarator.Pointer)) (goes_on due 1) ≡ true
  named : fits (reads 1) due (the_declarator declarator.Named) (pieces (the_declarator declarator.Named)) (goes_on due 1) ≡ true
  nameless : fit_from met met due false parameters_after (goes_on due 1) ≡ true
  closed : pieces_phrase due parameters_after ≡ and_close
  nameless_ends : fit met due false parameters_after (goes_on due 1) ≡ true
  tails : (z : State) (p : Punct) → tail_so due z (shape.Punct p) (continued due p) ≡ true

named_tails : (z : State) (p : Punct) → tail_so s.Declarator z (shape.Punct p) (continued s.Declarator p) ≡ true
named_tails z punct.LeftBracket = refl
named_tails z _ = refl

abstract_tails : (z : State) (p : Punct) → tail_so s.AbstractDeclarator z (shape.Punct p) (continued s.AbstractDeclarator p) ≡ true
abstract_tails z punct.LeftBracket = refl
abstract_tails z _ = refl

parameter_tails : (z : State) (p : Punct) → tail_so s.ParamDeclarator z (shape.Punct p) (continued s.ParamDeclarator p) ≡ true
parameter_tails z punct.LeftBracket = refl
parameter_tails z _ = refl

member_tails : (z : State) (p : Punct) → tail_so s.MemberName z (shape.Punct p) (continued s.MemberName p) ≡ true
member_tails z punct.LeftBracket = refl
member_tails z _ = refl

fitting : (due : Sort) → is_declarator due ≡ true → Fitting due
fitting s.Declarator h = record { over = declarators_over s.Declarator 1 refl; pointer = refl; named = refl; nameless = refl; closed = refl; nameless_ends = refl; tails = named_tails }
fitting s.AbstractDeclarator h = record { over = declarators_over s.AbstractDeclarator 1 refl; pointer = refl; named = refl; nameless = refl; closed = refl; nameless_ends = refl; tails = abstract_tails }
fitting s.ParamDeclarator h = record { over = declarators_over s.ParamDeclarator 1 refl; pointer = refl; named = refl; nameless = refl; closed = refl; nameless_ends = refl; tails = parameter_tails }
fitting s.MemberName h = record { over = declarators_over s.MemberName 1 refl; pointer = refl; named = refl; nameless = refl; closed = refl; nameless_ends = refl; tails = member_tails }
fitting _ h = absurd (cc h)

-- ---- after an opening parenthesis

abbrev by_start : Sort → ℕ → Seen → Reader Standing
by_start due i y = choose (begins_parenthesized y) (standing 17 (parenthesized due)) (nameless_function due i)

module _ (due : Sort) (a : List Kept) where
  abbrev Held : {A : Type 0} → A → State → Type 0
  Held x t = Still a t

  abbrev beyond : Tokens
  beyond = none_of (goes_on due 1)

  fin_inner : (z : State) → Still a z → Finishes body z beyond Held (standing 17 (parenthesized s.Declarator)) (a_word ∷ and_close)
  fin_inner z k = fin_wrapped s.Declarator a (goes_on due 1) refl (λ z k. (ending 9).ends s.Declarator 1 refl a z k) z k

  live_inner : (z : State) (y : Shape) → Still a z → Live body calls 1 z y beyond Held (standing 17 (parenthesized s.Declarator))
  live_inner z y k = live_wrapped s.Declarator a (goes_on due 1) refl refl refl 1 (omega arith) z y k

  abbrev nameless_node : ℕ → Reader Found
  nameless_node i = completed called due function_of i (one (deeper (absent_at i))) parameters_after

  module _ (F : Fitting due) where
    fin_nameless : (i : ℕ) (z : State) → Still a z → Finishes body z beyond Held (nameless_function due i) and_close
    fin_nameless i z k = fin_map body z Held beyond Held (nameless_node i) (λ x. record { found = x; level = level function_of }) and_close
        (fin_completed (Still a) beyond called due function_of i (one (deeper (absent_at i))) parameters_after z and_close
        (subst (λ u. Finishes body z beyond Held (pieces_in called due function_of Usual parameters_after) u) F.closed (fin_pieces called due function_of met calling (goes_on due 1) false Usual parameters_after F.nameless_ends a z k))) (λ x t k. k)

    fin_start : (i : ℕ) (z : State) → Still a z → Finishes body z beyond Held (Look (by_start due i)) and_close
    fin_start i z k = fin_look body z beyond Held (by_start due i) (shape.Punct punct.RightParen) [] (λ n. fin_nameless i z k)

    live_nameless : (i : ℕ) (z : State) (y : Shape) → Still a z → Live body calls 1 z y beyond Held (nameless_function due i)
    live_nameless i z y k = live_map body calls 1 z y Held beyond beyond Held (nameless_node i) (λ x. record { found = x; level = level function_of }) (λ x q. q) (λ x t k. k)
        (live_completed (Still a) beyond called due function_of i (one (deeper (absent_at i))) parameters_after calls 1 z y (live_pieces calls 1 called due function_of met met calling (callable 1 (omega arith)) (goes_on due 1) false Usual parameters_after F.nameless a z y k))

  live_start : (F : Fitting due) → ((z : State) (y : Shape) → Still a z → Live body calls 1 z y beyond Held (standing 17 (parenthesized due))) → (i : ℕ) (z : State) (y : Shape) → Still a z → Live body calls 1 z y beyond Held (Look (by_start due i))
  live_start F W i z y k = live_choose body calls 1 z y beyond Held (begins_parenthesized (seen z y)) (standing 17 (parenthesized due)) (nameless_function due i) (λ _. W z y k) (λ _. live_nameless F i z y k)

-- what follows the parenthesis can be completed, and by a phrase
record Opening (due : Sort) : Type 1 where
  words : List Shape
  ends : (i : ℕ) (a : List Kept) (z : State) → Still a z → Finishes body z (none_of (goes_on due 1)) (λ _ t. Still a t) (choose (is_nameable due) (standing 17 (parenthesized (parenthesized_sort due))) (Look (by_start due i))) words
  lives : (i : ℕ) (a : List Kept) (z : State) (y : Shape) → Still a z → Live body calls 1 z y (none_of (goes_on due 1)) (λ _ t. Still a t) (choose (is_nameable due) (standing 17 (parenthesized (parenthesized_sort due))) (Look (by_start due i)))

opening : (due : Sort) → is_declarator due ≡ true → Opening due
opening s.Declarator h = record { words = a_word ∷ and_close; ends = λ i a z k. fin_inner s.Declarator a z k; lives = λ i a z y k. live_inner s.Declarator a z y k }
opening s.MemberName h = record { words = a_word ∷ and_close; ends = λ i a z k. fin_inner s.MemberName a z k; lives = λ i a z y k. live_inner s.MemberName a z y k }
opening s.AbstractDeclarator h = record {
  words = and_close;
  ends = λ i a z k. fin_start s.AbstractDeclarator a (fitting s.AbstractDeclarator refl) i z k;
  lives = λ i a z y k. live_start s.AbstractDeclarator a (fitting s.AbstractDeclarator refl) (λ z y k. live_wrapped s.AbstractDeclarator a (goes_on s.AbstractDeclarator 1) refl refl refl 1 (omega arith) z y k) i z y k;
}
opening s.ParamDeclarator h = record {
  words = and_close;
  ends = λ i a z k. fin_start s.ParamDeclarator a (fitting s.ParamDeclarator refl) i z k;
  lives = λ i a z y k. live_start s.ParamDeclarator a (fitting s.ParamDeclarator refl) (λ z y k. live_wrapped s.ParamDeclarator a (goes_on s.ParamDeclarator 1) refl refl refl 1 (omega arith) z y k) i z y k;
}
opening _ h = absurd (cc h)

-- ---- the whole

module _ (deep : ℕ) (n : ℕ) (E : Ending (in_place n) (reads 1)) (L : Able calls deep (in_place n) (reads 1)) (due : Sort) (is_one : is_declarator due ≡ true) (a : List Kept) where
  abbrev Keeps : {A : Type 0} → A → State → Type 0
  Keeps x t = Still a t

  abbrev after : Tokens
  after = none_of (goes_on due 1)

  F : Fitting due
  F = fitting due is_one

  abbrev pointed : Reader Standing
  pointed = tight 1 (the_declarator declarator.Pointer) (whole (in_place n) due (the_declarator declarator.Pointer))

  abbrev named : Reader Standing
  named = standing 17 (whole (in_place n) due (the_declarator declarator.Named))

  abbrev none_there : ℕ → Reader Standing
  none_there i = choose (may_be_absent due) (Give (record { found = absent_at i; level = 17 })) Refuse

  live_opened : (i : ℕ) (z : State) (y : Shape) → Still a z → Live body calls deep z y after Keeps (opened_declarator due i)
  live_opened i z y k = let O : Opening due = opening due is_one in let r : Reader Standing = choose (is_nameable due) (standing 17 (parenthesized (parenthesized_sort due))) (Look (by_start due i)) in (
    begun_next body z y after Keeps r (record { tokens = O.words; finishes = O.ends i a z k }),
    live_next body calls 1 z y after Keeps r O.words (O.ends i a z k) (λ x. O.lives i a z x k),
  )

  live_pointed : (z : State) (y : Shape) → is_sign punct.Star (seen z y) ≡ true → Still a z → Live body calls deep z y after Keeps pointed
  live_pointed z y o k = live_map body calls deep z y Keeps after after Keeps (whole (in_place n) due (the_declarator declarator.Pointer)) (λ x. record { found = x; level = 1 }) (λ x q. q) (λ x t k. k)
      (live_whole deep (in_place n) (reads 1) E L due (the_declarator declarator.Pointer) (goes_on due 1) a F.pointer z y o k)

  live_named : (z : State) (y : Shape) → Still a z → Live body calls deep z y after Keeps named
  live_named z y k = live_map body calls deep z y Keeps after after Keeps (whole (in_place n) due (the_declarator declarator.Named)) (λ x. record { found = x; level = 17 }) (λ x q. q) (λ x t k. k)
      (live_whole deep (in_place n) (reads 1) E L due (the_declarator declarator.Named) (goes_on due 1) a F.named z y refl k)

  live_head : (z : State) (y : Shape) → Still a z → Live body calls deep z y after Keeps (declarator_head (in_place n) due 1)
  unfolding declarator_head
  live_head z y k = λ place. live_choose body calls deep z y after Keeps (is_sign punct.LeftParen (seen z y)) (opened_declarator due place) (choose (is_sign punct.Star (seen z y)) pointed (choose (is_value (seen z y) && may_be_named due) named (none_there place)))
      (λ _. live_opened place z y k)
      (λ _. live_choose body calls deep z y after Keeps (is_sign punct.Star (seen z y)) pointed (choose (is_value (seen z y) && may_be_named due) named (none_there place)) (λ e. live_pointed z y e k)
      (λ _. live_choose body calls deep z y after Keeps (is_value (seen z y) && may_be_named due) named (none_there place) (λ _. live_named z y k)
      (λ _. live_choose body calls deep z y after Keeps (may_be_absent due) (Give (record { found = absent_at place; level = 17 })) Refuse (λ _. tt) (λ _. tt))))

  live_tail : (i : ℕ) (y : Standing) (z : State) (x : Shape) (o : Option Form) → tail_so due z x o ≡ true → Still a z → Live body calls deep z x after Keeps (tail_by due i y o)
  live_tail i y z x None h k = tt
  live_tail i y z x (Some f) h k = let r = both (fit_from met met due false (after_first (pieces f)) (goes_on due 1)) (begins_with f (after_first (pieces f)) (class z x)) h in let part = after_part called due f i (deeper y.found) in (
    begun_map (Still a) after z x part (λ x. record { found = x; level = level f }) (begun_completed (Still a) after (parts_of f called) due f i (one (deeper y.found)) (after_first (pieces f)) z x
        (begun_pieces (parts_of f called) due f met met (calling_by (is_starred f)) (goes_on due 1) false Usual (after_first (pieces f)) r.0 a z x k r.1)),
    live_map body calls (suc y.found.height) z x Keeps after after Keeps part (λ x. record { found = x; level = level f }) (λ x q. q) (λ x t k. k) (live_completed (Still a) after (parts_of f called) due f i (one (deeper y.found)) (after_first (pieces f)) calls (suc y.found.height) z x
        (live_pieces calls (suc y.found.height) (parts_of f called) due f met met (calling_by (is_starred f)) (callable_by (suc y.found.height) (omega arith) (is_starred f)) (goes_on due 1) false Usual (after_first (pieces f)) r.0 a z x k)),
  )

  live_tails : (i : ℕ) (y : Standing) (z : State) (x : Shape) → Still a z → is_tail due 1 z y (continued_by due x) ≡ true → Live body calls deep z x after Keeps (tail_by due i y (continued_by due x))
  live_tails i y z (shape.Punct p) k e = live_tail i y z (shape.Punct p) (continued due p) (F.tails z p) k
  live_tails i y z _ k e = absurd (cc e)

  pub live_declarator : (z : State) (y : Shape) → Still a z → Live body calls deep z y after Keeps (declarator_of (in_place n) due 1)
  unfolding declarator_of
  live_declarator z y k = λ place. live_bind body calls deep z y Keeps Keeps after after Keeps (declarator_head (in_place n) due 1) (λ y. climb due 1 place y) (live_head z y k) (kept_head n due is_one 1 a z y k)
      (record { tokens = []; opens = λ x q. q; finishes = λ y t k. fin_climb due 1 place (Still a) after F.over t y k }) (λ y t x k. live_climb due 1 place a after F.over calls deep (live_tails place) t x y k)
