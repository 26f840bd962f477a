-- The operand of `sizeof` that begins in parentheses can be completed after the first of them.
use Rattle.std.proofs.Common.{◌≡◌, refl, ℕ, ◌-◌, true, List, [], arith}
use Rattle.c_tokens.specs.declared.token.Shape.{Shape}
use Rattle.c_forms.specs.declared.pieces.Sort.TheVariants as s
use Rattle.c_forms.specs.Sets.{goes_on}
use Rattle.c_reader.specs.States.{State, Kept, Seen, seen}
use Rattle.c_reader.specs.Readers.{Reader, Of, Refuse, Look, Fits, Call, below, choose}
use Rattle.c_reader.proofs.Leaves.{Leaves, leaving_look, leaving_choose, leaving_fits, leaving_refuse}
use Rattle.c_reader.proofs.Phrases.{Tokens, Begun, begun_bind, begun_call}
use Rattle.c_reader.proofs.Live.{Live, live_bind, live_choose}
use Rattle.c_syntax.specs.Grammar.{body, Standing, standing, begins, parenthesized, climb, opened, in_place}
use Rattle.c_alive.proofs.Kept.{Still, kept_wrapped}
use Rattle.c_alive.proofs.Phrased.{none_of}
use Rattle.c_alive.proofs.Tails.{exp_over}
use Rattle.c_alive.proofs.Nodes.{begun_map}
use Rattle.c_alive.proofs.Parens.{closing, way, live_wrapped}
use Rattle.c_alive.proofs.Climbs.{fin_climb}
use Rattle.c_alive.proofs.ExpTails.{live_climbing}
use Rattle.c_alive.proofs.Called.{calls}
use Rattle.c_lively.proofs.Firsts.{begun_expression}

module _ (a : List Kept) where
  abbrev Held : {A : Type 0} → A → State → Type 0
  Held x t = Still a t

  abbrev beyond : Tokens
  beyond = none_of (goes_on s.Exp 15)

  begun_called : (z : State) (y : Shape) → begins s.Exp (seen z y) ≡ true → Still a z → Begun body z y (none_of (goes_on s.Exp 1)) Held (Call (Of s.Exp 1))
  unfolding in_place
  begun_called z y e k = begun_call body z y (none_of (goes_on s.Exp 1)) Held (Of s.Exp 1) (begun_expression a 7 z y e k)

  begun_wrapped : (z : State) (y : Shape) → begins s.Exp (seen z y) ≡ true → Still a z → Begun body z y beyond Held (standing 17 (parenthesized s.Exp))
  begun_wrapped z y e k = begun_map (Still a) beyond z y (parenthesized s.Exp) (λ x. record { found = x; level = 17 })
      (begun_bind body z y Held (none_of (goes_on s.Exp 1)) beyond Held (Call (Of s.Exp 1)) (closing s.Exp a (goes_on s.Exp 15) refl) (begun_called z y e k) (way s.Exp a (goes_on s.Exp 15) refl))

  abbrev by_start : Seen → Reader Standing
  by_start x = choose (begins s.Exp x) (Fits 0 (standing 17 (parenthesized s.Exp))) Refuse

  leaves_first : (z : State) (y : Shape) → Still a z → Leaves body z y (Look by_start) Held
  leaves_first z y k d = leaving_look (below body d) d z y by_start Held (leaving_choose (below body d) d z y (begins s.Exp (seen z y)) (Fits 0 (standing 17 (parenthesized s.Exp))) Refuse Held
      (λ _. leaving_fits (below body d) d z y 0 (standing 17 (parenthesized s.Exp)) Held (kept_wrapped s.Exp refl a z y k d)) (λ _. leaving_refuse (below body d) d z y Held))

  pub live_opened : (deep : ℕ) (z : State) (y : Shape) → Still a z → Live body calls deep z y beyond Held opened
  unfolding opened
  live_opened deep z y k = λ place. live_bind body calls deep z y Held Held beyond beyond Held (Look by_start) (λ y. climb s.Exp 15 (place - 1) y)
      (live_choose body calls deep z y beyond Held (begins s.Exp (seen z y)) (Fits 0 (standing 17 (parenthesized s.Exp))) Refuse (λ e. (begun_wrapped z y e k, live_wrapped s.Exp a (goes_on s.Exp 15) refl refl refl 1 (omega arith) z y k)) (λ _. tt))
      (leaves_first z y k) (record { tokens = []; opens = λ x q. q; finishes = λ y t k. fin_climb s.Exp 15 (place - 1) (Still a) beyond (λ y z x q. exp_over 15 z y x q) t y k })
      (λ y t x k. live_climbing 15 (place - 1) a deep t x y k)
