-- Names, fresh and given ones.
use Rattle.std.specs.Prelude.{◌≡◌, ℕ, zero, suc, ◌+◌, ◌<◌, Bool, true, false, ◌&&◌, not, List, [], ◌∷◌, ◌++◌, length, is_some, unwrap_or, slice_get, position, nat_le, bytes_eq, decimal, if◌then◌else◌}
use Rattle.c_tokens.specs.declared.token.TheConstants.{MAX_WORD_BYTES}
use Rattle.c_tokens.specs.Spelling.{find_text, keywords, is_word}
use Rattle.c_tokens.specs.Tokens.{with_text}

-- an identifier of at most 1,023 bytes that is no keyword
unfoldable pub is_name : List ℕ → Bool
is_name text = is_word text && not (is_some (find_text text keywords)) && nat_le (length text) MAX_WORD_BYTES

unfoldable pub is_among : List ℕ → List (List ℕ) → Bool
is_among text texts = is_some (position (bytes_eq text) texts)

-- The texts of the words, each at the place of its number, and the names that were given as fresh ones.
pub record NameTable : Type 0 where
  pub texts : List (List ℕ)
  pub fresh : List (List ℕ)

-- the base, an underscore and a number
unfoldable pub numbered : List ℕ → ℕ → List ℕ
numbered base number = base ++ 95 ∷ decimal number

-- all texts of the base with numbers below this one are among the texts
abbrev pub TakenBelow : List ℕ → List (List ℕ) → ℕ → Type 0
TakenBelow base texts number = (k : ℕ) → k < number → is_among (numbered base k) texts ≡ true

-- the least number with which the text of a base is not among the texts
pub record IsLeastFree (base : List ℕ) (texts : List (List ℕ)) (number : ℕ) : Type 0 where
  pub free : is_among (numbered base number) texts ≡ false
  pub below : TakenBelow base texts number

-- the first number from here on whose text is not among the texts, or the last of so many that were tried
unfoldable pub free_from : ℕ → List ℕ → List (List ℕ) → ℕ → ℕ
free_from zero base texts number = number
free_from (suc more) base texts number = if is_among (numbered base number) texts then free_from more base texts (number + 1) else number

-- The least number that is free. Of one number more than there are texts, one is free.
unfoldable pub least_free : List ℕ → List (List ℕ) → ℕ
least_free base texts = free_from (length texts) base texts 0

-- the fresh name of a base
abbrev pub fresh_name : List ℕ → List (List ℕ) → List ℕ
fresh_name base texts = numbered base (least_free base texts)

-- whether a base gives a fresh name
abbrev pub has_fresh : List ℕ → List (List ℕ) → Bool
has_fresh base texts = is_name base && nat_le (length (fresh_name base texts)) MAX_WORD_BYTES

abbrev pub text_at : List (List ℕ) → ℕ → List ℕ
text_at texts number = unwrap_or (slice_get texts number) []

-- the table after a text was looked up that gets the next number where it is new
abbrev pub with_word : NameTable → List ℕ → NameTable
with_word names text = record { texts = with_text names.texts text; fresh = names.fresh }

-- the table after a fresh name was given
abbrev pub with_fresh : NameTable → List ℕ → NameTable
with_fresh names text = record { texts = names.texts ++ text ∷ []; fresh = names.fresh ++ text ∷ [] }
