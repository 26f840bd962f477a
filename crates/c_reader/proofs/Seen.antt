-- How a token is seen in one state and in another.
use Rattle.std.proofs.Common.{◌≡◌, ◌⊎◌, inl, inr, refl, ap, sym, ◌∙◌, ℕ, ◌<◌, not, Bool, true, false, ◌&&◌, ◌||◌, nat_eq, lit<, arith}
use Rattle.std.proofs.lemmas.Bool.{or_parts}
use Rattle.c_tokens.specs.declared.token.Key.{Key}
use Rattle.c_tokens.specs.declared.token.Key.TheVariants as k
use Rattle.c_tokens.specs.declared.token.Punct.{Punct}
use Rattle.c_tokens.specs.declared.token.Punct.TheVariants as p
use Rattle.c_tokens.specs.declared.token.Mark.{Mark}
use Rattle.c_tokens.specs.declared.token.Mark.TheVariants as m
use Rattle.c_tokens.specs.declared.token.Shape.{Shape}
use Rattle.c_tokens.specs.declared.token.Shape.TheVariants as shape
use Rattle.c_tokens.specs.declared.token.Word.{Word}
use Rattle.c_tokens.specs.ClassNumbers.{class_number, key_number, punct_number, mark_number}
use Rattle.c_tokens.specs.ClassOf.{class_of}
use Rattle.c_tokens.proofs.ClassLimits.{class_of_common}
use Rattle.c_forms.specs.declared.pieces.Event.TheVariants.{Enter}
use Rattle.c_forms.specs.Sets.{Classes, has, type_word}
use Rattle.c_reader.specs.States.{State, happens, is_type, class, seen, word_class}
use Rattle.c_reader.proofs.Sets.{both, not_both, not_true, contrary}

-- the class of a word that is a value
abbrev pub word : ℕ
word = word_class false

-- the class of a token as it is written
abbrev pub written : Shape → ℕ
written x = class_number (class_of x)

-- a word may be seen as a type
abbrev pub Alike : ℕ → ℕ → Type 0
Alike a b = (a ≡ b) ⊎ ((b ≡ word) × (a ≡ type_word))

word_alike : (b : Bool) → Alike (word_class b) word
word_alike true = inr (refl, refl)
word_alike false = inl refl

pub alike : (s : State) (x : Shape) → Alike (class s x) (written x)
alike s (shape.Word w) = word_alike (not s.kept.has_type && is_type s.entries w.0)
alike s _ = inl refl

-- as it is written no token is a type
pub written_no_type : (x : Shape) → written x ≡ type_word → ⊥
written_no_type x e = let less : written x < 128 = class_of_common x in omega arith

-- a class that no state changes
abbrev pub fixed : ℕ → Bool
fixed c = not (nat_eq c word) && not (nat_eq c type_word)

fixed_word : (c : ℕ) → fixed c ≡ true → c ≡ word → ⊥
fixed_word c F e = contrary (nat_eq c word) (rw e refl) (not_true (nat_eq c word) (both (not (nat_eq c word)) (not (nat_eq c type_word)) F).0)

fixed_type : (c : ℕ) → fixed c ≡ true → c ≡ type_word → ⊥
fixed_type c F e = contrary (nat_eq c type_word) (rw e refl) (not_true (nat_eq c type_word) (both (not (nat_eq c word)) (not (nat_eq c type_word)) F).1)

-- such a class is seen where it is written
pub settled : (c : ℕ) (s : State) (x : Shape) → fixed c ≡ true → written x ≡ c → class s x ≡ c
settled c s x F e = elim (alike s x) [
  | inl a ↦ a ∙ e
  | inr a ↦ absurd (fixed_word c F (sym e ∙ a.0))
]

-- and is written where it is seen
pub written_so : (c : ℕ) (s : State) (x : Shape) → fixed c ≡ true → class s x ≡ c → written x ≡ c
written_so c s x F e = elim (alike s x) [
  | inl a ↦ sym a ∙ e
  | inr a ↦ absurd (fixed_type c F (sym e ∙ a.1))
]

-- so that each state sees it
pub everywhere : (c : ℕ) (s t : State) (x : Shape) → fixed c ≡ true → class s x ≡ c → class t x ≡ c
everywhere c s t x F e = settled c t x F (written_so c s x F e)

-- in two states a token is of one class, or a word that is a type in one of them
pub between_states : (s t : State) (x : Shape) → (class s x ≡ class t x) ⊎ (written x ≡ word)
between_states s t x = elim (alike s x) [
  | inl a ↦ elim (alike t x) [
    | inl b ↦ inl (a ∙ sym b)
    | inr b ↦ inr b.0
  ]
  | inr a ↦ inr a.0
]

-- a set that has both classes of words, or none of them, is the same in all states
pub unseeing : (f : Classes) (s t : State) (x : Shape) → has f word ≡ has f type_word → has f (class s x) ≡ has f (class t x)
unseeing f s t x B = one s ∙ sym (one t)
  where
    one : (s : State) → has f (class s x) ≡ has f (written x)
    one s = elim (alike s x) [
      | inl e ↦ ap (has f) e
      | inr e ↦ ap (has f) e.1 ∙ sym B ∙ ap (has f) (sym e.0)
    ]

-- whether a token that is written with this class may be seen as one of the set
abbrev pub blur : Classes → ℕ → Bool
blur f c = has f c || (nat_eq c word && has f type_word)

pub blurred : (f : Classes) (s : State) (x : Shape) → blur f (written x) ≡ false → has f (class s x) ≡ false
blurred f s x h = let b = or_parts (has f (written x)) (nat_eq (written x) word && has f type_word) h in elim (alike s x) [
  | inl e ↦ ap (has f) e ∙ b.0
  | inr e ↦ ap (has f) e.1 ∙ not_both (nat_eq (written x) word) (has f type_word) (ap (λ c. nat_eq c word) e.0) b.1
]

-- that a scope begins makes no word another
pub entered_alike : (s : State) (x : Shape) → seen (happens Enter s) x ≡ seen s x
entered_alike s (shape.Word w) = refl
entered_alike s _ = refl

-- where a type specifier stands before it a word is a value
pub typed_word : (s : State) (w : Word) → s.kept.has_type ≡ true → class s (shape.Word w) ≡ word
typed_word s w e = ap (λ b. word_class (not b && is_type s.entries w.0)) e

-- so each token is seen there as it is written
pub typed_as_written : (s : State) (x : Shape) → s.kept.has_type ≡ true → class s x ≡ written x
typed_as_written s (shape.Word w) e = typed_word s w e
typed_as_written s _ e = refl

-- a word that is seen as a value where no type specifier was read is no type
pub is_value : (s : State) (w : Word) → class s (shape.Word w) ≡ word → s.kept.has_type ≡ false → is_type s.entries w.0 ≡ false
is_value s w e k = by_both s.kept.has_type (is_type s.entries w.0) e k
  where
    by_both : (t b : Bool) → word_class (not t && b) ≡ word → t ≡ false → b ≡ false
    by_both true b e k = absurd (cc k)
    by_both false false e k = refl
    by_both false true e k = absurd (let y : false ≡ true = ap (λ c. nat_eq c word) e in cc y)

-- one that is seen as a type is one, and no type specifier was read
pub is_a_type : (s : State) (w : Word) → class s (shape.Word w) ≡ type_word → (s.kept.has_type ≡ false) × (is_type s.entries w.0 ≡ true)
is_a_type s w e = by_both s.kept.has_type (is_type s.entries w.0) e
  where
    by_both : (t b : Bool) → word_class (not t && b) ≡ type_word → (t ≡ false) × (b ≡ true)
    by_both true b e = absurd (let y : false ≡ true = ap (λ c. nat_eq c type_word) e in cc y)
    by_both false false e = absurd (let y : false ≡ true = ap (λ c. nat_eq c type_word) e in cc y)
    by_both false true e = (refl, refl)

-- ---- what is seen as a word is one

few_keys : (key : Key) → key_number key < 32
few_keys k.Auto = lit< tt
few_keys _ = lit< tt

few_puncts : (punct : Punct) → punct_number punct < 46
few_puncts p.LeftBracket = lit< tt
few_puncts _ = lit< tt

few_marks : (mark : Mark) → mark_number mark < 35
few_marks m.Syntax = lit< tt
few_marks _ = lit< tt

pub written_word : (x : Shape) → written x ≡ word → (w : Word) × (x ≡ shape.Word w)
written_word (shape.Word w) e = (w, refl)
written_word (shape.Key key) e = absurd (omega (arith, e, few_keys key))
written_word (shape.Punct punct) e = absurd (omega (arith, e, few_puncts punct))
written_word (shape.Mark mark) e = absurd (omega (arith, e, few_marks mark))
written_word (shape.Int n) e = absurd (let y : false ≡ true = ap (λ c. nat_eq c word) e in cc y)
written_word (shape.Float n) e = absurd (let y : false ≡ true = ap (λ c. nat_eq c word) e in cc y)
written_word (shape.Char n) e = absurd (let y : false ≡ true = ap (λ c. nat_eq c word) e in cc y)
written_word (shape.Str n) e = absurd (let y : false ≡ true = ap (λ c. nat_eq c word) e in cc y)
written_word shape.End e = absurd (let y : false ≡ true = ap (λ c. nat_eq c word) e in cc y)

pub seen_word : (s : State) (x : Shape) → class s x ≡ word → (w : Word) × (x ≡ shape.Word w)
seen_word s x e = elim (alike s x) [
  | inl a ↦ written_word x (sym a ∙ e)
  | inr a ↦ written_word x a.0
]

pub seen_type : (s : State) (x : Shape) → class s x ≡ type_word → (w : Word) × (x ≡ shape.Word w)
seen_type s x e = elim (alike s x) [
  | inl a ↦ absurd (written_no_type x (sym a ∙ e))
  | inr a ↦ written_word x a.0
]
