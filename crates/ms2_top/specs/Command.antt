-- Which words are a command.
use Rattle.std.specs.Prelude.{ℕ, Bool, true, false, List, [], ◌∷◌, Option, Some, None, nat_eq}

-- a word of more than one byte that begins with `-`
abbrev pub is_option : List ℕ → Bool
is_option [] = false
is_option (b ∷ []) = false
is_option (b ∷ c ∷ rest) = nat_eq b 45

abbrev pub unless_option : List ℕ → Bool → Option (List ℕ)
unless_option word true = None
unless_option word false = Some word

-- The file that the words name: they are one word that is no option. The word `-` alone is no option.
abbrev pub file_of : List (List ℕ) → Option (List ℕ)
file_of (word ∷ []) = unless_option word (is_option word)
file_of _ = None
