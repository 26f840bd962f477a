-- Readers that the token that stands there completes.
use Rattle.std.proofs.Common.{◌≡◌, refl, subst, sym, ap, ◌∙◌, ℕ, ◌+◌, true, List, [], Option, Some, Ok}
use Rattle.c_tokens.specs.declared.token.Shape.{Shape}
use Rattle.c_reader.specs.States.{State, Seen, seen}
use Rattle.c_reader.specs.Tokens.{Spot, spot, raw_at}
use Rattle.c_reader.specs.Readers.{Reader, Give, Look, Pick, Bind, Ask, read, pick}
use Rattle.c_reader.proofs.Local.{from}
use Rattle.c_reader.proofs.Fresh.{Fresh}
use Rattle.c_reader.proofs.Phrases.{Tokens, Ends, Finishes, Begun, ends_bind, fin_give, still}
use Rattle.c_syntax.specs.Grammar.{body}

-- after the token y a token of Q follows
abbrev pub Alone : {A : Type 0} → State → Shape → Tokens → (A → State → Type 0) → Reader A → Type 0
Alone s y Q J r = (N : ℕ) (v : List Shape) (place j : ℕ) → Fresh N v (spot place s) → raw_at v place ≡ y → place + 1 ≡ j → Q (raw_at v j) ≡ true → Ends body J r v (spot place s) j

module _ (s : State) (y : Shape) (Q : Tokens) where
  pub alone_begun : {A : Type 0} (J : A → State → Type 0) (r : Reader A) → Alone s y Q J r → Begun body s y Q J r
  alone_begun J r R = record { tokens = []; finishes = λ N v place j new e h q. R N v place j new e h q }

  pub alone_ask : {A : Type 0} (J : A → State → Type 0) (f : Spot → Reader A) → ((place : ℕ) → Alone s y Q J (f (spot place s))) → Alone s y Q J (Ask f)
  alone_ask J f F N v i j new e h q = let E : Ends body J (f (spot i s)) v (spot i s) j = F i N v i j new e h q in record { levels = E.levels; value = E.value; state = E.state; reads = E.reads; meets = E.meets }

  pub alone_look : {A : Type 0} (J : A → State → Type 0) (f : Seen → Reader A) → Alone s y Q J (f (seen s y)) → Alone s y Q J (Look f)
  alone_look J f F N v i j new e h q = let E : Ends body J (f (seen s y)) v (spot i s) j = F N v i j new e h q in record {
    levels = E.levels;
    value = E.value;
    state = E.state;
    reads = subst (λ x. read body E.levels (f (seen s x)) (from v (spot i s)) ≡ Ok (E.value, from v (spot j E.state))) (sym e) E.reads;
    meets = E.meets;
  }

  pub alone_pick : {A : Type 0} (J : A → State → Type 0) (f : Seen → Option A) (a : A) → f (seen s y) ≡ Some a → J a s → Alone s y Q J (Pick f)
  alone_pick J f a F k N v i j new e h q = record { levels = 0; value = a; state = s; reads = ap (λ x. pick (f (seen s x)) (from v (spot i s))) e ∙ ap (λ o. pick o (from v (spot i s))) F ∙ ap (λ k. Ok (a, from v (spot k s))) h; meets = k }

  pub alone_bind : {A B : Type 0} (K : B → State → Type 0) (J : A → State → Type 0) (r : Reader B) (f : B → Reader A) → Alone s y Q K r → ((b : B) (t : State) → K b t → Finishes body t Q J (f b) []) → Alone s y Q J (Bind r f)
  alone_bind K J r f R F N v i j new e h q =
      let E : Ends body K r v (spot i s) j = R N v i j new e h q in
      ends_bind body K J r f v (spot i s) j j E (F E.value E.state E.meets N v j j (still body K N v (spot i s) j r new E) refl q)

  pub alone_map : {A B : Type 0} (K : B → State → Type 0) (J : A → State → Type 0) (r : Reader B) (f : B → A) → Alone s y Q K r → ((b : B) (t : State) → K b t → J (f b) t) → Alone s y Q J (Bind r (λ b. Give (f b)))
  alone_map K J r f R up = alone_bind K J r (λ b. Give (f b)) R (λ b t k. fin_give body t Q J (f b) (up b t k))
