-- What the answers of a reader say of the tokens: a token that is refused is the first that no tokens have that are read,
-- and one for which levels are missing is too deep in all those.
use Rattle.std.proofs.Common.{◌≡◌, ℕ, ◌<◌, ◌≤◌, max, true, List, Ok, Err, arith}
use Rattle.c_tokens.specs.declared.token.Shape.{Shape}
use Rattle.c_tokens.specs.declared.token.Shape.TheVariants as shape
use Rattle.c_reader.specs.declared.refusal.Refusal.TheVariants.{Syntax, TooDeep}
use Rattle.c_reader.specs.States.{State}
use Rattle.c_reader.specs.Tokens.{Spot, spot, raw_at}
use Rattle.c_reader.specs.Readers.{Input, Reader, Outcome, Rule, Body, Reads, read}
use Rattle.c_reader.specs.Laws.{from, any_levels, Dead, Completion, IsFirstDead, IsTooDeep}
use Rattle.c_reader.proofs.Bounds.{Tame}
use Rattle.c_reader.proofs.Local.{Same, local, Onward, onward}
use Rattle.c_reader.proofs.Deeper.{Deeper, deeper, still_ok}
use Rattle.c_reader.proofs.Phrases.{Tokens}
use Rattle.c_reader.proofs.Live.{Calls, Live, Before}
use Rattle.c_reader.proofs.Completed.{Whole, completed}

still_refused : {A : Type 0} (v : List Shape) (k : ℕ) (o q x : Outcome A) → o ≡ Err (Syntax k) → Same k v o q → Deeper q x → x ≡ Err (Syntax k)
still_refused v k o q x e S D = (rw ((rw e at S) (omega arith)) at D)

still_lacking : {A : Type 0} (v : List Shape) (k : ℕ) (o q : Outcome A) → o ≡ Err (TooDeep k) → Same k v o q → q ≡ Err (TooDeep k)
still_lacking v k o q e S = (rw e at S) (omega arith)

refuses : {A : Type 0} (o : Outcome A) (k p : ℕ) → o ≡ Err (Syntax k) → p < k → Before p o
refuses o k p e less = rw e less

lacks : {A : Type 0} (o : Outcome A) (k : ℕ) → o ≡ Err (TooDeep k) → Before k o
lacks o k e = let same : k ≤ k = omega arith in rw e same

lacks_at : {A : Type 0} (i : ℕ) (w : List Shape) (k : ℕ) (o : Outcome A) → o ≡ Err (TooDeep k) → Onward w i o → i ≤ k
lacks_at i w k o e on = rw e at on

module _ {A : Type 0} (body : Body) (bodies : (n : Rule) → Tame body (body n)) (r : Reader A) (T : Tame body r) (i : Spot) where
  -- no tokens with a token there that is refused are read
  pub dead : (d : ℕ) (w : List Shape) (k : ℕ) → read body d r (from w i) ≡ Err (Syntax k) → Dead any_levels body r i w k
  dead d w k e v a R =
      let more : ℕ = max d R.levels in
      let bad : read body more r (from v i) ≡ Err (Syntax k) = still_refused v k _ _ _ e (local body bodies k w v a d r i T) (deeper body d more (omega arith) r (from v i)) in
      let good : read body more r (from v i) ≡ Ok (R.answer, from v R.after) = still_ok body R.levels more (omega arith) r (from v i) R.answer (from v R.after) R.reads in
      absurd (cc (bad, good))

  -- nor with one for which levels are missing, with as many levels
  pub too_deep : (d : ℕ) (w : List Shape) (k : ℕ) → read body d r (from w i) ≡ Err (TooDeep k) → Dead (λ e. e ≤ d) body r i w k
  too_deep d w k e v a R =
      let bad : read body d r (from v i) ≡ Err (TooDeep k) = still_lacking v k _ _ e (local body bodies k w v a d r i T) in
      let good : read body d r (from v i) ≡ Ok (R.answer, from v R.after) = still_ok body R.levels d R.allowed r (from v i) R.answer (from v R.after) R.reads in
      absurd (cc (bad, good))

  whole_read : (w : List Shape) (p : ℕ) → Whole body r i w p → Completion body r i w p
  whole_read w p W = record {
    source = W.source;
    agrees = W.agrees;
    is_read = record { levels = W.ends.levels; allowed = tt; answer = W.ends.value; after = spot W.place W.ends.state; reads = W.ends.reads };
  }

  module _ (calls : Calls) (lives : (n : Rule) (s : State) (y : Shape) → calls.Good n s y → Live body calls (calls.needs n) s y (calls.following n) (calls.Gives n s) (body n))
      (deep d : ℕ) (enough : deep ≤ d) (Q : Tokens) (quiet : Q shape.End ≡ true) (J : A → State → Type 0) (w : List Shape) (L : Live body calls deep i.state (raw_at w i.place) Q J r) where
    completion : (p : ℕ) → i.place ≤ p → Before p (read body d r (from w i)) → Completion body r i w p
    completion p le b = whole_read w p (completed body bodies calls lives deep d enough Q quiet J r w i T L p le b)

    -- a refused token is the first that no tokens have that are read
    pub first_dead : (k : ℕ) → read body d r (from w i) ≡ Err (Syntax k) → IsFirstDead body r i w k
    first_dead k e = (dead d w k e, λ p le less. completion p le (refuses _ k p e less))

    -- one for which levels are missing stands in tokens that are read, and is too deep in all those
    pub only_deep : (k : ℕ) → read body d r (from w i) ≡ Err (TooDeep k) → IsTooDeep d body r i w k
    only_deep k e = (too_deep d w k e, completion k (lacks_at i.place w k _ e (onward body d w r i)) (lacks _ k e))

-- ---- what a function's answer says of the outcome

pub refused_so : {A : Type 0} (o : Outcome A) (k : ℕ) (new : Input) → Reads o (Err (Syntax k)) new → o ≡ Err (Syntax k)
refused_so o k new h = h (λ e. absurd (cc e))

pub lacking_so : {A : Type 0} (o : Outcome A) (k : ℕ) (new : Input) → Reads o (Err (TooDeep k)) new → o ≡ Err (TooDeep k)
lacking_so o k new h = h (λ e. absurd (cc e))
