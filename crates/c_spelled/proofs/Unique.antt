-- What tokens spell they spell in one way.
use Rattle.std.proofs.Common.{◌≡◌, ap, sym, ◌∙◌, ℕ, max, true, List, Ok, arith}
use Rattle.c_tokens.specs.declared.token.Shape.{Shape}
use Rattle.c_forms.specs.declared.pieces.Sort.{Sort}
use Rattle.c_forms.specs.declared.pieces.Sort.TheVariants as s
use Rattle.c_forms.specs.Forests.{Plain}
use Rattle.c_forms.specs.Sets.{goes_on}
use Rattle.c_reader.specs.Tokens.{Spot}
use Rattle.c_reader.specs.Readers.{Input, Found, Outcome, read}
use Rattle.c_reader.proofs.Local.{from}
use Rattle.c_reader.proofs.Loops.{same_answer, same_place}
use Rattle.c_syntax.specs.Allowed.{places}
use Rattle.c_syntax.specs.Grammar.{in_place, body, item_reader}
use Rattle.c_syntax.specs.Spells.{Spells}
use Rattle.c_spelled.specs.Fitting.{is_read}
use Rattle.c_spelled.proofs.Off.{Off}
use Rattle.c_spelled.proofs.Groups.{Got}
use Rattle.c_spelled.proofs.Depths.{spelled_read}
use Rattle.c_spelled.proofs.Complete.{complete_at}

-- what is read twice is the same, and ends at the same place
same_twice : (o : Outcome Found) (a b : ℕ) (w : List Shape) (t u : Plain) (j k : Spot) → Got o a t w j → Got o b u w k → (t ≡ u) × (j ≡ k)
same_twice o a b w t u j k G H = let both : Ok (record { tree = t; height = G.height }, from w j) ≡ Ok (record { tree = u; height = H.height }, from w k) = sym G.reads ∙ H.reads in (
  ap (λ (x : Found). x.tree) (same_answer (record { tree = t; height = G.height }) (record { tree = u; height = H.height }) (from w j) (from w k) both),
  ap (λ (i : Input). i.at) (same_place (record { tree = t; height = G.height }) (record { tree = u; height = H.height }) (from w j) (from w k) both),
)

-- of an external declaration, however deep
pub one_item : (d e : ℕ) (w : List Shape) (t u : Plain) (i j k : Spot) → Spells d w s.Item 0 t i j → Spells e w s.Item 0 u i k → (t ≡ u) × (j ≡ k)
one_item d e w t u i j k A C = same_twice (read body (max d e) item_reader (from w i)) d e w t u j k (complete_at d (max d e) w (omega arith) t i j A) (complete_at e (max d e) w (omega arith) u i k C)

-- and of any part that does not go on where it ends
pub one_tree : (d e : ℕ) (w : List Shape) (due : Sort) (least : ℕ) (t u : Plain) (i j k : Spot) → is_read due ≡ true → Spells d w due least t i j → Spells e w due least u i k → Off (goes_on due least) w j.place → Off (goes_on due least) w k.place → (t ≡ u) × (j ≡ k)
one_tree d e w due least t u i j k r A C o p = same_twice (read body (max d e) (in_place places due least) (from w i)) d e w t u j k
    (spelled_read d (max d e) w (omega arith) due least t i j r A o) (spelled_read e (max d e) w (omega arith) due least u i k r C p)
