-- Expressions can be completed after their first part.
use Rattle.std.proofs.Common.{◌≡◌, refl, ℕ, suc, ◌<◌, nat_lt, not, Bool, true, false, ◌&&◌, List, Option, Some, None, arith}
use Rattle.std.proofs.lemmas.Bool.{ltb-false}
use Rattle.c_tokens.specs.declared.token.Punct.{Punct}
use Rattle.c_tokens.specs.declared.token.Shape.{Shape}
use Rattle.c_tokens.specs.declared.token.Shape.TheVariants as shape
use Rattle.c_forms.specs.declared.pieces.Sort.TheVariants as s
use Rattle.c_forms.specs.declared.forms.Form.{Form}
use Rattle.c_forms.specs.Measures.{level, pieces}
use Rattle.c_forms.specs.Tokens.{continued}
use Rattle.c_forms.specs.Sets.{goes_on}
use Rattle.c_reader.specs.States.{State, Kept, class}
use Rattle.c_reader.specs.Readers.{Reader}
use Rattle.c_reader.proofs.Sets.{both, not_true}
use Rattle.c_reader.proofs.Phrases.{Begun, begun_fewer}
use Rattle.c_reader.proofs.Live.{Live, live_map}
use Rattle.c_syntax.specs.Reading.{Usual, Listed, one, deeper, called, parts_of, is_starred, pieces_in}
use Rattle.c_syntax.specs.Grammar.{body, Standing, standing, after_first, after_part, continued_by, is_tail, tail_by, left_level, may_follow, climb}
use Rattle.c_alive.proofs.Kept.{Still}
use Rattle.c_alive.proofs.Phrased.{none_of, none_within, live_fewer}
use Rattle.c_alive.proofs.FitRows.{operand, operand_ends, tail_fits, tail_begins, exp_tail_fits, exp_tail_begins}
use Rattle.c_alive.proofs.Tails.{exp_over, exp_within}
use Rattle.c_alive.proofs.Rows.{live_pieces, begun_pieces, begins_with}
use Rattle.c_alive.proofs.Nodes.{live_completed, begun_completed, begun_map}
use Rattle.c_alive.proofs.Operands.{operands_ending, operands_able}
use Rattle.c_alive.proofs.Called.{calls}
use Rattle.c_alive.proofs.Climbs.{live_climb}

abbrev begins_so : State → Shape → Option Form → Bool
begins_so z x (Some f) = begins_with f (after_first (pieces f)) (class z x)
begins_so z x None = true

begins_here : (z : State) (p : Punct) (o : Option Form) → tail_begins p o ≡ true → begins_so z (shape.Punct p) o ≡ true
begins_here z p (Some f) h = h
begins_here z p None h = refl

-- fewer tokens go on with what is tight enough
pub fewer : (least : ℕ) (f : Form) → nat_lt (level f) least ≡ false → (x : Shape) → none_of (goes_on s.Exp least) x ≡ true → none_of (goes_on s.Exp (level f)) x ≡ true
fewer least f low x q = none_within (goes_on s.Exp (level f)) (goes_on s.Exp least) x (exp_within (level f) least (ltb-false (level f) least low)) q

module _ (least i : ℕ) (a : List Kept) where
  abbrev Held : {A : Type 0} → A → State → Type 0
  Held x t = Still a t

  abbrev pieces_after : Form → Reader Listed
  pieces_after f = pieces_in (parts_of f called) s.Exp f Usual (after_first (pieces f))

  begun_after : (f : Form) (z : State) (x : Shape) → tail_fits (Some f) ≡ true → begins_with f (after_first (pieces f)) (class z x) ≡ true → Still a z → Begun body z x (none_of (goes_on s.Exp (level f))) Held (pieces_after f)
  begun_after f z x h o k = begun_pieces (parts_of f called) s.Exp f operand operand_ends (operands_ending (is_starred f)) (goes_on s.Exp (level f)) false Usual (after_first (pieces f)) h a z x k o

  live_after : (deep : ℕ) → 0 < deep → (f : Form) (z : State) (x : Shape) → tail_fits (Some f) ≡ true → Still a z → Live body calls deep z x (none_of (goes_on s.Exp (level f))) Held (pieces_after f)
  live_after deep room f z x h k = live_pieces calls deep (parts_of f called) s.Exp f operand operand_ends (operands_ending (is_starred f)) (operands_able deep room (is_starred f)) (goes_on s.Exp (level f)) false Usual (after_first (pieces f)) h a z x k

  live_tail : (deep : ℕ) (y : Standing) (z : State) (x : Shape) (o : Option Form) → tail_fits o ≡ true → begins_so z x o ≡ true → Still a z → is_tail s.Exp least z y o ≡ true → Live body calls deep z x (none_of (goes_on s.Exp least)) Held (tail_by s.Exp i y o)
  live_tail deep y z x None h o k e = absurd (cc e)
  live_tail deep y z x (Some f) h o k e = let low = not_true (nat_lt (level f) least) (both (not (nat_lt (level f) least)) (not (nat_lt y.level (left_level (pieces f))) && may_follow s.Exp z y.found.tree f) e).0 in let part = after_part called s.Exp f i (deeper y.found) in (
    begun_fewer body z x (none_of (goes_on s.Exp (level f))) (none_of (goes_on s.Exp least)) Held Held (standing (level f) part) (fewer least f low) (λ x t k. k)
        (begun_map (Still a) (none_of (goes_on s.Exp (level f))) z x part (λ x. record { found = x; level = level f }) (begun_completed (Still a) (none_of (goes_on s.Exp (level f))) (parts_of f called) s.Exp f i (one (deeper y.found)) (after_first (pieces f)) z x (begun_after f z x h o k))),
    live_fewer body calls (suc y.found.height) z x (none_of (goes_on s.Exp (level f))) (none_of (goes_on s.Exp least)) Held (standing (level f) part) (fewer least f low)
        (live_map body calls (suc y.found.height) z x Held (none_of (goes_on s.Exp (level f))) (none_of (goes_on s.Exp (level f))) Held part (λ x. record { found = x; level = level f }) (λ x q. q) (λ x t k. k)
        (live_completed (Still a) (none_of (goes_on s.Exp (level f))) (parts_of f called) s.Exp f i (one (deeper y.found)) (after_first (pieces f)) calls (suc y.found.height) z x (live_after (suc y.found.height) (omega arith) f z x h k))),
  )

  live_shape : (deep : ℕ) (y : Standing) (z : State) (x : Shape) → Still a z → is_tail s.Exp least z y (continued_by s.Exp x) ≡ true → Live body calls deep z x (none_of (goes_on s.Exp least)) Held (tail_by s.Exp i y (continued_by s.Exp x))
  live_shape deep y z (shape.Punct p) k e = live_tail deep y z (shape.Punct p) (continued s.Exp p) (exp_tail_fits p) (begins_here z p (continued s.Exp p) (exp_tail_begins p)) k e
  live_shape deep y z _ k e = absurd (cc e)

  pub live_climbing : (deep : ℕ) (z : State) (x : Shape) (y : Standing) → Still a z → Live body calls deep z x (none_of (goes_on s.Exp least)) Held (climb s.Exp least i y)
  live_climbing deep = live_climb s.Exp least i a (none_of (goes_on s.Exp least)) (λ y z x q. exp_over least z y x q) calls deep (λ y z x k e. live_shape deep y z x k e)
