-- The laws at two small readers: a number in any number of parentheses, and numbers in a state that is known.
use Rattle.std.proofs.Common.{◌≡◌, refl, ℕ, Bool, true, false, List, [], ◌∷◌, Option, Some, None, Err, nat_eq, arith}
use Rattle.c_tokens.specs.declared.token.Shape.{Shape}
use Rattle.c_tokens.specs.declared.token.Shape.TheVariants as shape
use Rattle.c_tokens.specs.declared.token.Punct.TheVariants as punct
use Rattle.c_forms.specs.declared.pieces.Event.TheVariants.{Statements}
use Rattle.c_forms.specs.declared.pieces.Sort.TheVariants as s
use Rattle.c_forms.specs.Sets.{has}
use Rattle.c_reader.specs.declared.refusal.Refusal.TheVariants.{Syntax, TooDeep}
use Rattle.c_reader.specs.States.{State, Seen, nothing_kept, seen, class, happens}
use Rattle.c_reader.specs.Tokens.{spot}
use Rattle.c_reader.specs.Readers.{◌>>=◌, ◌>>◌, Found, Rule, Of, Body, Reader, More, Last, Give, Refuse, Look, Next, Pick, Fits, Call, Ask, Change, choose, token, turn_while, repeat, read, below, loop}
use Rattle.c_reader.specs.Laws.{from, IsFirstDead, IsTooDeep}
use Rattle.c_reader.proofs.Sets.{contrary, single, same_class}
use Rattle.c_reader.proofs.Seen.{written, blur}
use Rattle.c_reader.proofs.Bounds.{Bounded, Tame}
use Rattle.c_reader.proofs.Advance.{bounded_while}
use Rattle.c_reader.proofs.Leaves.{anyhow, leaves_anyhow, Leaves, leaving_next, leaving_give, leaves_repeat}
use Rattle.c_reader.proofs.Phrases.{Tokens, anything, but, quiet, opens_but, fin_ask, fin_choose, opens_anything, Finishes, fin_give, fin_bind, fin_look, fin_pick, fin_token, fin_call, begun_next}
use Rattle.c_reader.proofs.Live.{Calls, Live, live_bind, live_choose, live_next, live_repeat, live_map}
use Rattle.c_reader.proofs.Finished.{first_dead, only_deep}

abbrev left : Shape
left = shape.Punct punct.LeftParen

abbrev right : Shape
right = shape.Punct punct.RightParen

abbrev number : Shape
number = shape.Int (record { 0 = 0 })

abbrev semicolon : Shape
semicolon = shape.Punct punct.Semicolon

abbrev start : State
start = record { entries = []; is_late = false; kept = nothing_kept; aside = [] }

-- whichever tree a number makes
module _ (leaf : Found) where
  abbrev made : Bool → Option Found
  made true = Some leaf
  made false = None

  abbrev a_number : Seen → Option Found
  a_number x = made (nat_eq x.class (written number))

  abbrev inner : Rule
  inner = Of s.Exp 0

  abbrev closed : Reader Found
  closed = Call inner >>= λ a. token (written right) >> Give a

  abbrev by_token : Seen → Reader Found
  by_token x = choose (nat_eq x.class (written left)) (Fits 0 (Next closed)) (Pick a_number)

  abbrev nested : Reader Found
  nested = Look by_token

  abbrev body : Body
  body n = nested

  tame_by : (b : Bool) → Tame body (choose b (Fits 0 (Next closed)) (Pick a_number))
  tame_by true = (tt, λ a. (tt, λ b. tt))
  tame_by false = tt

  tame : Tame body nested
  tame x = tame_by (nat_eq x.class (written left))

  abbrev calls : Calls
  calls = record { Good = λ n z y. Unit {0}; needs = λ n. 0; following = λ n. anything; Gives = λ n z. anyhow }

  fin_nested : (z : State) → Finishes body z anything anyhow nested (number ∷ [])
  fin_nested z = fin_look body z anything anyhow by_token number [] (λ n. fin_pick body z anything anyhow a_number number (λ k. leaf) (λ k. refl) (λ k. tt))

  fin_right : (z : State) (a : Found) → Finishes body z anything anyhow (token (written right) >> Give a) (right ∷ [])
  fin_right z a = fin_bind body z anyhow anything anything anyhow (token (written right)) (λ _. Give a) (right ∷ []) [] (fin_token body z anything anyhow right (written right) refl tt) (opens_anything [] anything) (λ b t k. fin_give body t anything anyhow a tt)

  fin_closed : (z : State) → Finishes body z anything anyhow closed (number ∷ right ∷ [])
  fin_closed z = fin_bind body z anyhow anything anything anyhow (Call inner) (λ a. token (written right) >> Give a) (number ∷ []) (right ∷ []) (fin_call body z anything anyhow inner (number ∷ []) (fin_nested z)) (opens_anything (right ∷ []) anything) (λ a t k. fin_right t a)

  live_right : (z : State) (y : Shape) (a : Found) → Live body calls 1 z y anything anyhow (token (written right) >> Give a)
  live_right z y a = live_map body calls 1 z y anyhow anything anything anyhow (token (written right)) (λ _. a) (λ x q. q) (λ b t k. tt) (λ b e. tt, tt)

  live_closed : (z : State) (y : Shape) → Live body calls 1 z y anything anyhow closed
  live_closed z y = live_bind body calls 1 z y anyhow anyhow anything anything anyhow (Call inner) (λ a. token (written right) >> Give a) (tt, (omega arith, (λ x q. q, (λ a t k. tt, tt)))) (leaves_anyhow body z y (Call inner))
      (record { tokens = right ∷ []; opens = opens_anything (right ∷ []) anything; finishes = λ a t k. fin_right t a }) (λ a t x k. live_right t x a)

  live_nested : (z : State) (y : Shape) → Live body calls 0 z y anything anyhow nested
  live_nested z y = live_choose body calls 0 z y anything anyhow (nat_eq (seen z y).class (written left)) (Fits 0 (Next closed)) (Pick a_number)
      (λ e. (begun_next body z y anything anyhow closed (record { tokens = number ∷ right ∷ []; finishes = fin_closed z }), live_next body calls 1 z y anything anyhow closed (number ∷ right ∷ []) (fin_closed z) (λ x. live_closed z x))) (λ e. (λ a k. tt, tt))

  first : (d : ℕ) (w : List Shape) (k : ℕ) → read body d nested (from w (spot 0 start)) ≡ Err (Syntax k) → IsFirstDead body nested (spot 0 start) w k
  first d w k e = first_dead body (λ n. tame) nested tame (spot 0 start) calls (λ n z y good. live_nested z y) 0 d (omega arith) anything refl anyhow w (live_nested start _) k e

  deep : (d : ℕ) (w : List Shape) (k : ℕ) → read body d nested (from w (spot 0 start)) ≡ Err (TooDeep k) → IsTooDeep d body nested (spot 0 start) w k
  deep d w k e = only_deep body (λ n. tame) nested tame (spot 0 start) calls (λ n z y good. live_nested z y) 0 d (omega arith) anything refl anyhow w (live_nested start _) k e

  -- ( ( 1 ;
  bad : List Shape
  bad = left ∷ left ∷ number ∷ semicolon ∷ []

  refused : read body 5 nested (from bad (spot 0 start)) ≡ Err (Syntax 3)
  unfolding bad below
  refused = refl

  lacking : read body 1 nested (from bad (spot 0 start)) ≡ Err (TooDeep 1)
  unfolding bad below
  lacking = refl

  bad_is_first_dead : IsFirstDead body nested (spot 0 start) bad 3
  bad_is_first_dead = first 5 bad 3 refused

  bad_is_too_deep : IsTooDeep 1 body nested (spot 0 start) bad 1
  bad_is_too_deep = deep 1 bad 1 lacking

-- statements begin, and the semicolon after the numbers is taken only where they have begun
module _ (leaf : Found) where
  abbrev nothing_called : Body
  nothing_called n = Refuse

  abbrev goes : Found → Seen → Bool
  goes a x = nat_eq x.class (written number)

  abbrev item : Seen → Found → Reader Found
  item x a = Next (Give a)

  abbrev last_of : Found → Reader Found
  last_of a = Ask (λ i. choose i.state.is_late (token (written semicolon) >> Give a) Refuse)

  abbrev numbers : Reader Found
  numbers = Change Statements (repeat goes item leaf >>= last_of)

  abbrev no_calls : Calls
  no_calls = record { Good = λ n z y. ⊥; needs = λ n. 0; following = λ n. anything; Gives = λ n z. anyhow }

  bounded : Bounded nothing_called (turn_while goes item)
  bounded = bounded_while nothing_called goes item (λ n. ⊥) (λ n none. absurd none) (λ x a. tt) (λ a. refl)

  tame_item : (b : Bool) (x : Seen) (a : Found) → Tame nothing_called (choose b (item x a >>= λ t. Give (More t)) (Give (Last a)))
  tame_item true x a = (tt, λ b. tt)
  tame_item false x a = tt

  tame_last : (b : Bool) (a : Found) → Tame nothing_called (choose b (token (written semicolon) >> Give a) Refuse)
  tame_last true a = (tt, λ b. tt)
  tame_last false a = tt

  tame_numbers : Tame nothing_called numbers
  tame_numbers = ((bounded, λ a x. tame_item (goes a x) x a), λ a i. tame_last i.state.is_late a)

  abbrev Late : Found → State → Type 0
  Late a z = z.is_late ≡ true

  abbrev past_numbers : Tokens
  past_numbers = but (blur (written number ∷ []))

  none_goes : (a : Found) (z : State) (x : Shape) → past_numbers x ≡ true → goes a (seen z x) ≡ false
  none_goes a z x q = flip (class z x) (written number) (quiet (written number ∷ []) z x q)
    where
      flip : (c n : ℕ) → has (n ∷ []) c ≡ false → nat_eq c n ≡ false
      flip c n h = by_test (nat_eq c n) refl
        where
          by_test : (b : Bool) → nat_eq c n ≡ b → b ≡ false
          by_test true e = absurd (contrary (has (n ∷ []) c) (single n c (same_class c n e)) h)
          by_test false e = refl

  leaves_item : (a : Found) (z : State) (x : Shape) → Late a z → Leaves nothing_called z x (item (seen z x) a) Late
  leaves_item a z x k d = leaving_next (below nothing_called d) d z x (Give a) Late (λ y. leaving_give (below nothing_called d) d z y a Late k)

  fin_last_of : (a : Found) (z : State) → Late a z → Finishes nothing_called z anything anyhow (last_of a) (semicolon ∷ [])
  fin_last_of a z k = fin_ask nothing_called z anything anyhow (λ i. choose i.state.is_late (token (written semicolon) >> Give a) Refuse) (semicolon ∷ [])
      (λ place. fin_choose nothing_called z anything anyhow z.is_late (token (written semicolon) >> Give a) Refuse (semicolon ∷ [])
      (λ e. fin_bind nothing_called z anyhow anything anything anyhow (token (written semicolon)) (λ _. Give a) (semicolon ∷ []) [] (fin_token nothing_called z anything anyhow semicolon (written semicolon) refl tt) (opens_anything [] anything) (λ b t k. fin_give nothing_called t anything anyhow a tt))
      (λ e. absurd (contrary z.is_late k e)))

  live_last_of : (a : Found) (z : State) (x : Shape) → Late a z → Live nothing_called no_calls 0 z x anything anyhow (last_of a)
  live_last_of a z x k = λ place. live_choose nothing_called no_calls 0 z x anything anyhow z.is_late (token (written semicolon) >> Give a) Refuse
      (λ e. live_map nothing_called no_calls 0 z x anyhow anything anything anyhow (token (written semicolon)) (λ _. a) (λ x q. q) (λ b t k. tt) (λ b e. tt, tt)) (λ e. tt)

  live_numbers : (z : State) (y : Shape) → Live nothing_called no_calls 0 z y anything anyhow numbers
  live_numbers z y = live_bind nothing_called no_calls 0 (happens Statements z) y Late Late past_numbers anything anyhow (repeat goes item leaf) last_of
      (live_repeat nothing_called no_calls 0 (happens Statements z) y past_numbers Late goes item bounded leaf Late Late refl (λ a z x k q. none_goes a z x q) (λ a z k. k)
      (λ a z x k e. live_next nothing_called no_calls 0 z x past_numbers Late (Give a) [] (fin_give nothing_called z past_numbers Late a k) (λ x. tt)) (λ a z x k e. leaves_item a z x k))
      (leaves_repeat nothing_called Late goes item leaf (happens Statements z) y refl (λ a z x k e. leaves_item a z x k))
      (record { tokens = semicolon ∷ []; opens = opens_but (blur (written number ∷ [])) semicolon [] anything refl; finishes = fin_last_of }) live_last_of

  -- 1 1 (
  cut : List Shape
  cut = number ∷ number ∷ left ∷ []

  cut_refused : read nothing_called 0 numbers (from cut (spot 0 start)) ≡ Err (Syntax 2)
  unfolding cut loop
  cut_refused = refl

  cut_is_first_dead : IsFirstDead nothing_called numbers (spot 0 start) cut 2
  cut_is_first_dead = first_dead nothing_called (λ n. tt) numbers tame_numbers (spot 0 start) no_calls (λ n z y good. absurd good) 0 0 (omega arith) anything refl anyhow cut (live_numbers start _) 2 cut_refused
