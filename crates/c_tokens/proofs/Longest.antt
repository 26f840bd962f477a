-- The longest spelling at a place, from what is and what is not a spelling there.
use Rattle.std.proofs.Common.{◌≡◌, sym, ap, ◌∙◌, ℕ, zero, suc, ◌<◌, ◌≤◌, Bool, true, false, cond, List, length, take, is_some, arith, ◌⊎◌, inl, inr}
use Rattle.c_tokens.specs.declared.lexical.Dialect.{Dialect}
use Rattle.c_tokens.specs.Spelling.{spelling_of}
use Rattle.c_tokens.specs.Tokens.{longest, longest_up_to}

-- The first n bytes are a spelling, and no longer beginning of the text is one.
pub record IsLongest (dialect : Dialect) (text : List ℕ) (n : ℕ) : Type 0 where
  pub some : 0 < n
  pub within : n ≤ length text
  pub spells : is_some (spelling_of dialect (take n text)) ≡ true
  pub longer : (m : ℕ) → n < m → m ≤ length text → is_some (spelling_of dialect (take m text)) ≡ false

equal_or_less : (n k : ℕ) → n ≤ suc k → (n ≡ suc k) ⊎ (n ≤ k)
equal_or_less n k h = grind arith

-- one length more
next : (dialect : Dialect) (text : List ℕ) (n k rest : ℕ) → IsLongest dialect text n → suc k ≤ length text → (n ≤ k → rest ≡ n) → (n ≡ suc k) ⊎ (n ≤ k) → cond (is_some (spelling_of dialect (take (suc k) text))) (suc k) rest ≡ n
next dialect text n k rest l b h (inl e) = ap (λ c. cond c (suc k) rest) (ap (λ m. is_some (spelling_of dialect (take m text))) (sym e) ∙ l.spells) ∙ sym e
next dialect text n k rest l b h (inr a) = ap (λ c. cond c (suc k) rest) (l.longer (suc k) (omega arith) b) ∙ h a

up_to : (dialect : Dialect) (text : List ℕ) (n k : ℕ) → IsLongest dialect text n → n ≤ k → k ≤ length text → longest_up_to dialect k text ≡ n
unfolding longest_up_to
up_to dialect text n zero l a b = absurd (let s = l.some in omega arith)
up_to dialect text n (suc k) l a b = next dialect text n k (longest_up_to dialect k text) l b (λ small. up_to dialect text n k l small (omega arith)) (equal_or_less n k a)

pub longest-is : (dialect : Dialect) (text : List ℕ) (n : ℕ) → IsLongest dialect text n → longest dialect text ≡ n
unfolding longest
longest-is dialect text n l = up_to dialect text n (length text) l l.within (omega arith)

one_or_less : (b : Bool) (k n : ℕ) → n ≤ k → cond b (suc k) n ≤ suc k
one_or_less true k n h = omega arith
one_or_less false k n h = omega arith

up_to-le : (dialect : Dialect) (text : List ℕ) (k : ℕ) → longest_up_to dialect k text ≤ k
unfolding longest_up_to
up_to-le dialect text zero = omega arith
up_to-le dialect text (suc k) = one_or_less (is_some (spelling_of dialect (take (suc k) text))) k (longest_up_to dialect k text) (up_to-le dialect text k)

pub longest-le : (dialect : Dialect) (text : List ℕ) → longest dialect text ≤ length text
unfolding longest
longest-le dialect text = up_to-le dialect text (length text)
