-- A loop of a reader, turn by turn.
use Rattle.std.proofs.Common.{◌≡◌, refl, ap, ℕ, zero, suc, ◌-◌, ◌<◌, Bool, true, false, Ok, Err, arith}
use Rattle.c_reader.specs.declared.refusal.Refusal.{Refusal}
use Rattle.c_reader.specs.declared.refusal.Refusal.TheVariants.{TooDeep}
use Rattle.c_reader.specs.States.{Seen}
use Rattle.c_reader.specs.Readers.{Reader, Input, Outcome, Turn, More, Last, loop, here, turn_while, choose, Bind, Give}
use Rattle.table_parser.specs.Nests.{read}

pub chosen : {A : Type 0} (d : ℕ) (b : Bool) (r q : Reader A) (i : Input) → b ≡ true → read d (choose b r q) i ≡ read d r i
chosen d true r q i e = refl
chosen d false r q i e = grind (arith, e)

pub unchosen : {A : Type 0} (d : ℕ) (b : Bool) (r q : Reader A) (i : Input) → b ≡ false → read d (choose b r q) i ≡ read d q i
unchosen d true r q i e = grind (arith, e)
unchosen d false r q i e = refl

module _ {A S : Type 0} (turn : S → Input → Outcome (Turn S A)) (s : S) (i : Input) where
  pub loop_last : (n : ℕ) (a : A) (j : Input) → turn s i ≡ Ok (Last a, j) → loop n turn s i ≡ Ok (a, j)
  unfolding loop
  loop_last zero a j e = rw e refl
  loop_last (suc n) a j e = rw e refl

  pub loop_more : (n : ℕ) (t : S) (j : Input) → 0 < n → turn s i ≡ Ok (More t, j) → loop n turn s i ≡ loop (n - 1) turn t j
  unfolding loop
  loop_more zero t j p e = absurd (omega arith)
  loop_more (suc n) t j p e = rw e (ap (λ k. loop k turn t j) (omega arith))

  pub loop_out : (n : ℕ) (t : S) (j : Input) → n ≡ 0 → turn s i ≡ Ok (More t, j) → loop n turn s i ≡ Err (TooDeep j.at.place)
  unfolding loop
  loop_out zero t j p e = rw e refl
  loop_out (suc n) t j p e = absurd (omega arith)

  pub loop_broken : (n : ℕ) (x : Refusal) → turn s i ≡ Err x → loop n turn s i ≡ Err x
  unfolding loop
  loop_broken zero x e = rw e refl
  loop_broken (suc n) x e = rw e refl

module _ {S : Type 0} (d : ℕ) (s : S) (i : Input) where
  pub on_by : (b : Bool) (r : Reader S) (t : S) (j : Input) → b ≡ true → read d r i ≡ Ok (t, j) → read d (choose b (Bind r (λ t. Give (More t))) (Give (Last s))) i ≡ Ok (More t, j)
  on_by true r t j g e = rw e refl
  on_by false r t j g e = grind (arith, g)

  pub off_by : (b : Bool) (r : Reader S) → b ≡ false → read d (choose b (Bind r (λ t. Give (More t))) (Give (Last s))) i ≡ Ok (Last s, i)
  off_by true r g = grind (arith, g)
  off_by false r g = refl

  pub broken_by : (b : Bool) (r : Reader S) (x : Refusal) → b ≡ true → read d r i ≡ Err x → read d (choose b (Bind r (λ t. Give (More t))) (Give (Last s))) i ≡ Err x
  broken_by true r x g e = rw e refl
  broken_by false r x g e = grind (arith, g)

module _ {S : Type 0} (d : ℕ) (goes : S → Seen → Bool) (item : Seen → S → Reader S) (s : S) (i : Input) where
  pub on : (n : ℕ) (t : S) (j : Input) → 0 < n → goes s (here i) ≡ true → read d (item (here i) s) i ≡ Ok (t, j) → loop n (λ s j. read d (turn_while goes item s) j) s i ≡ loop (n - 1) (λ s j. read d (turn_while goes item s) j) t j
  on n t j p g e = loop_more (λ s j. read d (turn_while goes item s) j) s i n t j p (on_by d s i (goes s (here i)) (item (here i) s) t j g e)

  pub out : (n : ℕ) (t : S) (j : Input) → n ≡ 0 → goes s (here i) ≡ true → read d (item (here i) s) i ≡ Ok (t, j) → loop n (λ s j. read d (turn_while goes item s) j) s i ≡ Err (TooDeep j.at.place)
  out n t j p g e = loop_out (λ s j. read d (turn_while goes item s) j) s i n t j p (on_by d s i (goes s (here i)) (item (here i) s) t j g e)

  pub over : (n : ℕ) → goes s (here i) ≡ false → loop n (λ s j. read d (turn_while goes item s) j) s i ≡ Ok (s, i)
  over n g = loop_last (λ s j. read d (turn_while goes item s) j) s i n s i (off_by d s i (goes s (here i)) (item (here i) s) g)

  pub broken : (n : ℕ) (x : Refusal) → goes s (here i) ≡ true → read d (item (here i) s) i ≡ Err x → loop n (λ s j. read d (turn_while goes item s) j) s i ≡ Err x
  broken n x g e = loop_broken (λ s j. read d (turn_while goes item s) j) s i n x (broken_by d s i (goes s (here i)) (item (here i) s) x g e)
