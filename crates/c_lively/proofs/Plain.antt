-- Each answer of the reader of items says what the tokens are: a token that is refused is the first that no tokens have
-- that are read, and one for which levels are missing is too deep in all those.
use Rattle.std.proofs.Common.{◌≡◌, refl, ap, ℕ, List, [], Err, arith}
use Rattle.c_tokens.specs.declared.token.Shape.{Shape}
use Rattle.c_forms.specs.declared.pieces.Event.TheVariants as event
use Rattle.c_reader.specs.declared.refusal.Refusal.TheVariants.{Syntax, TooDeep}
use Rattle.c_reader.specs.States.{State, nothing_kept, happens}
use Rattle.c_reader.specs.Tokens.{Spot, raw_at}
use Rattle.c_reader.specs.Readers.{read}
use Rattle.c_reader.specs.Laws.{from, IsFirstDead, IsTooDeep}
use Rattle.c_reader.proofs.Live.{Live}
use Rattle.c_reader.proofs.Finished.{first_dead, only_deep}
use Rattle.c_syntax.specs.Grammar.{body, item_reader, in_place}
use Rattle.c_alive.proofs.Tame.{bodies, tame_item}
use Rattle.c_alive.proofs.Kept.{Still}
use Rattle.c_alive.proofs.Phrased.{none_of}
use Rattle.c_alive.proofs.Called.{calls, Due, is_other}
use Rattle.c_lively.proofs.AllCalls.{lives}
use Rattle.c_lively.proofs.External.{live_external}

-- between items nothing is kept of a declaration, and none is put aside
abbrev pub Idle : State → Type 0
Idle z = (z.kept ≡ nothing_kept) × (z.aside ≡ [])

pub idle_still : (z : State) → Idle z → Still [] z
idle_still z k = (k.1, ap (λ kept. kept.is_function_due) k.0)

pub idle_due : (z : State) → Idle z → Due [] (happens event.FunctionDue z)
idle_due z k = (k.1, (refl, ap (λ kept. is_other kept.near) k.0))

pub live_item : (z : State) (y : Shape) → Idle z → Live body calls 0 z y (none_of []) (λ _ t. Still [] t) item_reader
unfolding in_place
live_item z y k = live_external 0 [] z y (idle_still z k) (idle_due z k)

module _ (i : Spot) (idle : Idle i.state) (d : ℕ) (w : List Shape) (k : ℕ) where
  pub item_first_dead : read body d item_reader (from w i) ≡ Err (Syntax k) → IsFirstDead body item_reader i w k
  item_first_dead e = first_dead body bodies item_reader tame_item i calls lives 0 d (omega arith) (none_of []) refl (λ _ t. Still [] t) w (live_item i.state (raw_at w i.place) idle) k e

  pub item_only_deep : read body d item_reader (from w i) ≡ Err (TooDeep k) → IsTooDeep d body item_reader i w k
  item_only_deep e = only_deep body bodies item_reader tame_item i calls lives 0 d (omega arith) (none_of []) refl (λ _ t. Still [] t) w (live_item i.state (raw_at w i.place) idle) k e
