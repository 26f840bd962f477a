-- Tokens that are not of a set of classes in any state, and tokens that are in some.
use Rattle.std.proofs.Common.{◌≡◌, ◌⊎◌, inl, inr, refl, ap, sym, ◌∙◌, ℕ, ◌<◌, not, Bool, true, false, ◌||◌, List, length, ◌++◌}
use Rattle.std.proofs.lemmas.Bool.{cases_lt, or_left, or_right}
use Rattle.std.proofs.lemmas.List.{get_or_past}
use Rattle.c_tokens.specs.declared.token.Shape.{Shape}
use Rattle.c_tokens.specs.declared.token.Shape.TheVariants as shape
use Rattle.c_forms.specs.Sets.{Classes, has, apart, given, type_word}
use Rattle.c_reader.specs.States.{State, class}
use Rattle.c_reader.specs.Tokens.{Spot, raw_at, class_at}
use Rattle.c_reader.proofs.Sets.{both, contrary, apart_has, has_neither, has_none}
use Rattle.c_reader.proofs.Seen.{between_states, alike, written, word}
use Rattle.c_spelled.specs.Fitting.{parted, has_words, value_word, source_end}

-- in no state is the token at a place of the set
abbrev pub Off : Classes → List Shape → ℕ → Type 0
Off a w place = (s : State) → has a (class s (raw_at w place)) ≡ false

-- in some state it is
pub record On (a : Classes) (w : List Shape) (place : ℕ) : Type 0 where
  pub state : State
  pub isin : has a (class state (raw_at w place)) ≡ true

pub on_here : (a : Classes) (w : List Shape) (i : Spot) → has a (class_at w i) ≡ true → On a w i.place
on_here a w i h = record { state = i.state; isin = h }

word_of : (s : State) (x : Shape) → written x ≡ word → (class s x ≡ value_word) ⊎ (class s x ≡ type_word)
word_of s x e = elim (alike s x) [
  | inl a ↦ inl (a ∙ e)
  | inr a ↦ inr a.1
]

words_in : (a : Classes) (c : ℕ) → ((c ≡ value_word) ⊎ (c ≡ type_word)) → has a c ≡ true → has_words a ≡ true
words_in a c (inl e) h = or_left (has a value_word) (has a type_word) (ap (has a) (sym e) ∙ h)
words_in a c (inr e) h = or_right (has a value_word) (has a type_word) (ap (has a) (sym e) ∙ h)

by_false : (b : Bool) → (b ≡ true → ⊥) → b ≡ false
by_false true f = absurd (f refl)
by_false false f = refl

not_words : (a b : Bool) → (not a || not b) ≡ true → a ≡ true → b ≡ true → ⊥
not_words true true h k l = cc h
not_words true false h k l = cc l
not_words false b h k l = cc k

pub off : (a b : Classes) (w : List Shape) (place : ℕ) → parted a b ≡ true → On a w place → Off b w place
off a b w place p o s = let k = both (apart a b) _ p in elim (between_states o.state s (raw_at w place)) [
  | inl e ↦ ap (has b) (sym e) ∙ apart_has a b (class o.state (raw_at w place)) k.0 o.isin
  | inr e ↦ by_false (has b (class s (raw_at w place))) (λ h. not_words (has_words a) (has_words b) k.1
      (words_in a (class o.state (raw_at w place)) (word_of o.state (raw_at w place) e) o.isin) (words_in b (class s (raw_at w place)) (word_of s (raw_at w place) e) h))
]

pub off_left : (a b : Classes) (w : List Shape) (place : ℕ) → Off (a ++ b) w place → Off a w place
off_left a b w place o s = (has_neither a b _ (o s)).0

pub off_right : (a b : Classes) (w : List Shape) (place : ℕ) → Off (a ++ b) w place → Off b w place
off_right a b w place o s = (has_neither a b _ (o s)).1

pub off_both : (a b : Classes) (w : List Shape) (place : ℕ) → Off a w place → Off b w place → Off (a ++ b) w place
off_both a b w place o p s = has_none a b _ (o s) (p s)

pub off_given : (b : Bool) (a : Classes) (w : List Shape) (place : ℕ) → b ≡ true → Off (given b a) w place → Off a w place
off_given true a w place e o = o
off_given false a w place e o = absurd (cc e)

-- a token that is seen is one of the list
pub in_list : (a : Classes) (w : List Shape) (i : Spot) → has a (class_at w i) ≡ true → has a source_end ≡ false → i.place < length w
in_list a w i h e = elim (cases_lt i.place (length w)) [
  | inl less ↦ less
  | inr past ↦ absurd (contrary (has a (class_at w i)) h (ap (λ x. has a (class i.state x)) (get_or_past w i.place shape.End past) ∙ e))
]
