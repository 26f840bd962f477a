-- What goes on after a first part can be completed, where each tail can.
use Rattle.std.proofs.Common.{◌≡◌, ap, ◌∙◌, ℕ, Bool, true, false, List, [], Ok}
use Rattle.c_tokens.specs.declared.token.Shape.{Shape}
use Rattle.c_forms.specs.declared.pieces.Sort.{Sort}
use Rattle.c_reader.specs.States.{State, Kept, Seen}
use Rattle.c_reader.specs.Tokens.{Spot, spot, raw_at}
use Rattle.c_reader.specs.Readers.{Reader, More, Last, Give, Bind, Loop, below, choose, turn_while, read}
use Rattle.c_reader.specs.Laws.{from}
use Rattle.c_reader.proofs.Leaves.{Leaves, Turned, anyhow, leaving_ask, leaves_turn}
use Rattle.c_reader.proofs.Phrases.{Tokens, Finishes, ends_last, fin_give, fin_last}
use Rattle.c_reader.proofs.Live.{Calls, Live, live_choose, live_map}
use Rattle.c_syntax.specs.Grammar.{body, Standing, continued_by, is_tail, tail_by, turn, climb}
use Rattle.c_alive.proofs.Tame.{bounded_turn}
use Rattle.c_alive.proofs.Kept.{Still, kept_tail}

module _ (due : Sort) (least i : ℕ) (S : State → Type 0) (Q : Tokens) (over : (y : Standing) (z : State) (x : Shape) → Q x ≡ true → is_tail due least z y (continued_by due x) ≡ false) where
  abbrev Held : {A : Type 0} → A → State → Type 0
  Held x t = S t

  pub fin_loop : (z : State) (y : Standing) → S z → Finishes body z Q Held (Loop (turn due least i) y) []
  fin_loop z y k N v place j new h q = ends_last body (turn due least i) (bounded_turn due least i) Held y v (spot place z) j z 0 y k
      (ap (λ b. read body 0 (choose b (Bind (tail_by due i y (continued_by due (raw_at v place))) (λ t. Give (More t))) (Give (Last y))) (from v (spot place z))) (over y z (raw_at v place) (ap (λ k. Q (raw_at v k)) h ∙ q))
      ∙ ap (λ k. Ok (Last y, from v (spot k z))) h)

  -- nothing goes on
  pub fin_climb : (z : State) (y : Standing) → S z → Finishes body z Q Held (climb due least i y) []
  unfolding climb
  fin_climb z y k = fin_last body z Held Q Q Held (Loop (turn due least i) y) (λ s. Give s.found) [] (fin_loop z y k) (λ x q. q) (λ s t k. fin_give body t Q Held s.found k)

-- ---- and each prefix of it

module _ (due : Sort) (least i : ℕ) (a : List Kept) (Q : Tokens) (over : (y : Standing) (z : State) (x : Shape) → Q x ≡ true → is_tail due least z y (continued_by due x) ≡ false) where
  abbrev Keeps : {A : Type 0} → A → State → Type 0
  Keeps x t = Still a t

  module _ (calls : Calls) (deep : ℕ) (tails : (y : Standing) (z : State) (x : Shape) → Still a z → is_tail due least z y (continued_by due x) ≡ true → Live body calls deep z x Q Keeps (tail_by due i y (continued_by due x))) where
    live_turn : (y : Standing) (z : State) (x : Shape) → Still a z → Live body calls deep z x Q (Turned {A = Standing} {S = Standing} Keeps Keeps) (turn due least i y)
    live_turn y z x k place = live_choose body calls deep z x Q (Turned {A = Standing} {S = Standing} Keeps Keeps) (is_tail due least z y (continued_by due x)) (Bind (tail_by due i y (continued_by due x)) (λ t. Give (More t))) (Give (Last y))
        (λ e. live_map body calls deep z x Keeps Q Q (Turned {A = Standing} {S = Standing} Keeps Keeps) (tail_by due i y (continued_by due x)) More (λ x q. q) (λ s t k. k) (tails y z x k e)) (λ e. tt)

    leaves_turned : (y : Standing) (z : State) (x : Shape) → Still a z → Leaves body z x (turn due least i y) (Turned {A = Standing} {S = Standing} Keeps anyhow)
    leaves_turned y z x k d = leaving_ask (below body d) d z x (λ k. turn_while (goes k) item y) (Turned {A = Standing} {S = Standing} Keeps anyhow) (λ place. leaves_turn body Keeps anyhow (goes (spot place z)) item y z x (λ e. kept_tail due i y x a z x k) (λ _. tt) d)
      where
        goes : Spot → Standing → Seen → Bool
        goes k y x = is_tail due least k.state y (continued_by due x.shape)

        item : Seen → Standing → Reader Standing
        item x y = tail_by due i y (continued_by due x.shape)

    pub live_climb : (z : State) (x : Shape) (y : Standing) → Still a z → Live body calls deep z x Q Keeps (climb due least i y)
    unfolding climb
    live_climb z x y k = live_map body calls deep z x Keeps Q Q Keeps (Loop (turn due least i) y) (λ s. s.found) (λ x q. q) (λ s t k. k)
        (Keeps, (Keeps, (k, ((λ y z x k. live_turn y z x k), ((λ y z x k. leaves_turned y z x k), (λ y z k. fin_loop due least i (Still a) Q over z y k))))))
