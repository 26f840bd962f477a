-- Words and keywords, as the program tests them.
use Rattle.std.proofs.Common.{◌≡◌, refl, ap, ◌∙◌, sym, ℕ, ◌<◌, ◌≤◌, Bool, true, false, ◌&&◌, ◌||◌, List, [], ◌∷◌, length, drop, get_or, map, arith}
use Rattle.std.specs.List.{list_all, list_any}
use Rattle.c_tokens.specs.Bytes.{is_letter, is_digit, is_word_byte}
use Rattle.c_tokens.specs.Spelling.{is_word}

pub word_empty : (text : List ℕ) → length text < 1 → is_word text ≡ false
unfolding is_word
word_empty [] h = refl
word_empty (b ∷ rest) h = absurd (omega arith)

pub word_more : (text : List ℕ) → 1 ≤ length text → is_word text ≡ (is_letter (get_or text 0 0) && list_all is_word_byte (drop 1 text))
unfolding is_word
word_more [] h = absurd (omega arith)
word_more (b ∷ rest) h = refl

pub list_any-map : {A B : Type 0} (p : B → Bool) (f : A → B) (xs : List A) → list_any p (map f xs) ≡ list_any (λ x. p (f x)) xs
list_any-map p f [] = refl
list_any-map p f (x ∷ xs) = ap (λ b. p (f x) || b) (list_any-map p f xs)

letter_word : (b : ℕ) → is_letter b ≡ true → is_word_byte b ≡ true
unfolding is_word_byte
letter_word b e = ap (λ c. c || is_digit b) e

whole : (b : ℕ) (rest : List ℕ) → is_letter b ≡ true → list_all is_word_byte (b ∷ rest) ≡ is_word (b ∷ rest)
unfolding is_word
whole b rest e = ap (λ c. c && list_all is_word_byte rest) (letter_word b e ∙ sym e)

pub word_whole : (text : List ℕ) (r : Bool) → 1 ≤ length text → is_letter (get_or text 0 0) ≡ true → r ≡ list_all is_word_byte text → r ≡ is_word text
word_whole [] r some letter same = absurd (omega arith)
word_whole (b ∷ rest) r some letter same = same ∙ whole b rest letter
