-- Expressions can be completed at each level that rows call.
use Rattle.std.proofs.Common.{◌≡◌, ℕ, suc, nat_lt, true, List, []}
use Rattle.c_tokens.specs.declared.token.Punct.TheVariants as punct
use Rattle.c_tokens.specs.declared.token.Key.TheVariants as key
use Rattle.c_tokens.specs.declared.token.Shape.{Shape}
use Rattle.c_tokens.specs.declared.class.Class.TheVariants as class
use Rattle.c_forms.specs.declared.pieces.Sort.TheVariants as s
use Rattle.c_forms.specs.Tokens.{begun}
use Rattle.c_forms.specs.Sets.{goes_on}
use Rattle.c_reader.specs.States.{State, Kept, seen}
use Rattle.c_reader.specs.Readers.{Refuse, choose}
use Rattle.c_reader.proofs.Sets.{not_true}
use Rattle.c_reader.proofs.Phrases.{Tokens}
use Rattle.c_reader.proofs.Live.{Live, live_bind, live_choose}
use Rattle.c_syntax.specs.Reading.{is_class}
use Rattle.c_syntax.specs.Grammar.{body, in_place, is_sign, begins, entered, sized, begun_by, primary, climb, expression}
use Rattle.c_alive.proofs.Kept.{Still, kept_primary}
use Rattle.c_alive.proofs.Phrased.{none_of}
use Rattle.c_alive.proofs.FitRows.{is_reached}
use Rattle.c_alive.proofs.Tails.{exp_over}
use Rattle.c_alive.proofs.Climbs.{fin_climb}
use Rattle.c_alive.proofs.ExpTails.{live_climbing}
use Rattle.c_alive.proofs.Entered.{live_entered}
use Rattle.c_alive.proofs.Sized.{live_sized}
use Rattle.c_alive.proofs.Prefixes.{live_begun}
use Rattle.c_alive.proofs.Called.{calls}

module _ (a : List Kept) (n least deep : ℕ) (low : is_reached s.Exp least ≡ true) where
  abbrev Held : {A : Type 0} → A → State → Type 0
  Held x t = Still a t

  abbrev past : Tokens
  past = none_of (goes_on s.Exp least)

  live_primary : (z : State) (y : Shape) → Still a z → Live body calls deep z y past Held (primary (in_place (suc n)) least)
  unfolding primary
  live_primary z y k = λ place. live_choose body calls deep z y past Held (is_sign punct.LeftParen (seen z y)) (entered least place)
      (choose (is_class (class.Key key.Sizeof) (seen z y)) (sized (in_place (suc n)) least place) (choose (begins s.Exp (seen z y)) (begun_by (in_place (suc n)) least (begun s.Exp y)) Refuse))
      (λ _. live_entered least a deep place z y k)
      (λ _. live_choose body calls deep z y past Held (is_class (class.Key key.Sizeof) (seen z y)) (sized (in_place (suc n)) least place) (choose (begins s.Exp (seen z y)) (begun_by (in_place (suc n)) least (begun s.Exp y)) Refuse)
      (λ _. live_sized a least (not_true (nat_lt 15 least) low) (in_place (suc n)) deep place z y k)
      (λ _. live_choose body calls deep z y past Held (begins s.Exp (seen z y)) (begun_by (in_place (suc n)) least (begun s.Exp y)) Refuse
      (λ _. live_begun a n least deep z y k) (λ _. tt)))

  pub live_expression : (z : State) (y : Shape) → Still a z → Live body calls deep z y past Held (expression (in_place (suc n)) least)
  unfolding expression
  live_expression z y k = λ place. live_bind body calls deep z y Held Held past past Held (primary (in_place (suc n)) least) (λ y. climb s.Exp least place y) (live_primary z y k) (kept_primary (suc n) least a z y k)
      (record { tokens = []; opens = λ x q. q; finishes = λ y t k. fin_climb s.Exp least place (Still a) past (λ y z x q. exp_over least z y x q) t y k }) (λ y t x k. live_climbing least place a deep t x y k)
