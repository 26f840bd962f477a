-- What a token that is seen so says of its word.
use Rattle.std.proofs.Common.{◌≡◌, refl, ap, sym, ◌∙◌, ℕ, Bool, true, false, not, ◌&&◌, ◌||◌, nat_eq, [], ◌∷◌, arith}
use borrow.Author.Tests.{eqb-true}
use Rattle.c_tokens.specs.declared.token.Word.{Word}
use Rattle.c_tokens.specs.declared.token.Shape.{Shape}
use Rattle.c_tokens.specs.declared.token.Shape.TheVariants as shape
use Rattle.c_tokens.specs.declared.class.Class.TheVariants as class
use Rattle.c_tokens.specs.ClassNumbers.{class_number}
use Rattle.c_forms.specs.Sets.{has, type_word}
use Rattle.c_reader.specs.States.{State, is_type, word_class}
use Rattle.c_reader.specs.States as states

not_type : (b c : Bool) → word_class (not b && c) ≡ class_number class.Word → b ≡ false → c ≡ false
not_type true c e f = absurd (cc f)
not_type false true e f = let q : 3000 ≡ 113 = e in absurd (omega (arith, q))
not_type false false e f = refl

pub value_word : (s : State) (x : Shape) (word : Word) → x ≡ shape.Word word → states.class s x ≡ class_number class.Word → s.kept.has_type ≡ false → is_type s.entries word.0 ≡ false
value_word s x word e c f = not_type s.kept.has_type (is_type s.entries word.0) (ap (states.class s) (sym e) ∙ c) f

type_there : (b c : Bool) → word_class (not b && c) ≡ type_word → c ≡ true
type_there true c e = let q : 113 ≡ 3000 = e in absurd (omega (arith, q))
type_there false true e = refl
type_there false false e = let q : 113 ≡ 3000 = e in absurd (omega (arith, q))

pub type_named : (s : State) (x : Shape) (word : Word) → x ≡ shape.Word word → states.class s x ≡ type_word → is_type s.entries word.0 ≡ true
type_named s x word e c = type_there s.kept.has_type (is_type s.entries word.0) (ap (states.class s) (sym e) ∙ c)

or_last : (b : Bool) → (b || false) ≡ true → b ≡ true
or_last true e = refl
or_last false e = absurd (cc e)

pub one_class : (c n : ℕ) → has (c ∷ []) n ≡ true → n ≡ c
one_class c n e = let q : nat_eq c n ≡ true = or_last (nat_eq c n) e in sym (eqb-true c n q)
