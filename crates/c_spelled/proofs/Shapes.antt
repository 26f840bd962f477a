-- A token that is seen as a keyword or as a punctuator is that one, and no token is seen as a placeholder.
use Rattle.std.proofs.Common.{◌≡◌, refl, ap, sym, ◌∙◌, ℕ, ◌+◌, ◌<◌, Bool, true, false, nat_eq, if◌then◌else◌, List, [], ◌∷◌, Option, Some, None, lit<, arith}
use Rattle.c_tokens.specs.declared.token.Key.{Key}
use Rattle.c_tokens.specs.declared.token.Key.TheVariants as k
use Rattle.c_tokens.specs.declared.token.Punct.{Punct}
use Rattle.c_tokens.specs.declared.token.Punct.TheVariants as p
use Rattle.c_tokens.specs.declared.token.Mark.{Mark}
use Rattle.c_tokens.specs.declared.token.Mark.TheVariants as m
use Rattle.c_tokens.specs.declared.token.Shape.{Shape}
use Rattle.c_tokens.specs.declared.token.Shape.TheVariants as shape
use Rattle.c_tokens.specs.declared.class.Class.TheVariants as class
use Rattle.c_tokens.specs.ClassNumbers.{class_number, key_number, punct_number, mark_number}
use Rattle.c_forms.specs.Sets.{all_puncts}
use Rattle.c_reader.specs.States.{State, class as class_in, word_class}
use Rattle.c_reader.proofs.Sets.{same_class}
use Rattle.c_reader.proofs.Seen.{written, written_so, fixed}

few_keys : (key : Key) → key_number key < 32
few_keys k.Auto = lit< tt
few_keys _ = lit< tt

few_puncts : (punct : Punct) → punct_number punct < 46
few_puncts p.LeftBracket = lit< tt
few_puncts _ = lit< tt

few_marks : (mark : Mark) → mark_number mark < 35
few_marks m.Syntax = lit< tt
few_marks _ = lit< tt

all_keys : List Key
all_keys = k.Auto ∷ k.Break ∷ k.Case ∷ k.Char ∷ k.Const ∷ k.Continue ∷ k.Default ∷ k.Do ∷ k.Double ∷ k.Else ∷ k.Enum ∷ k.Extern ∷ k.Float ∷ k.For ∷ k.Goto ∷ k.If ∷ k.Int ∷ k.Long ∷ k.Register ∷ k.Return ∷ k.Short ∷ k.Signed ∷ k.Sizeof ∷ k.Static ∷ k.Struct ∷ k.Switch ∷ k.Typedef ∷ k.Union ∷ k.Unsigned ∷ k.Void ∷ k.Volatile ∷ k.While ∷ []

find_key : List Key → ℕ → Option Key
find_key [] n = None
find_key (key ∷ keys) n = if nat_eq (key_number key) n then Some key else find_key keys n

find_punct : List Punct → ℕ → Option Punct
find_punct [] n = None
find_punct (punct ∷ puncts) n = if nat_eq (punct_number punct) n then Some punct else find_punct puncts n

key_found : (key : Key) → find_key all_keys (key_number key) ≡ Some key
unfolding all_keys find_key
key_found k.Auto = refl
key_found _ = refl

punct_found : (punct : Punct) → find_punct all_puncts (punct_number punct) ≡ Some punct
unfolding find_punct
punct_found p.LeftBracket = refl
punct_found _ = refl

abbrev the : {A : Type 0} → A → Option A → A
the a (Some b) = b
the a None = a

same_key : (a b : Key) → key_number a ≡ key_number b → a ≡ b
same_key a b e = ap (the a) (sym (key_found a) ∙ ap (find_key all_keys) e ∙ key_found b)

pub same_punct : (a b : Punct) → punct_number a ≡ punct_number b → a ≡ b
same_punct a b e = ap (the a) (sym (punct_found a) ∙ ap (find_punct all_puncts) e ∙ punct_found b)

fixed_key : (key : Key) → fixed (key_number key) ≡ true
fixed_key k.Auto = refl
fixed_key _ = refl

fixed_punct : (punct : Punct) → fixed (class_number (class.Punct punct)) ≡ true
fixed_punct p.LeftBracket = refl
fixed_punct _ = refl

written_key : (x : Shape) (key : Key) → written x ≡ key_number key → x ≡ shape.Key key
written_key (shape.Key other) key e = ap (λ a. shape.Key a) (same_key other key e)
written_key (shape.Punct punct) key e = absurd (omega (arith, e, few_keys key))
written_key (shape.Mark mark) key e = absurd (omega (arith, e, few_keys key))
written_key (shape.Word w) key e = absurd (omega (arith, e, few_keys key))
written_key (shape.Int w) key e = absurd (omega (arith, e, few_keys key))
written_key (shape.Float w) key e = absurd (omega (arith, e, few_keys key))
written_key (shape.Char w) key e = absurd (omega (arith, e, few_keys key))
written_key (shape.Str w) key e = absurd (omega (arith, e, few_keys key))
written_key shape.End key e = absurd (omega (arith, e, few_keys key))

written_punct : (x : Shape) (punct : Punct) → written x ≡ class_number (class.Punct punct) → x ≡ shape.Punct punct
written_punct (shape.Punct other) punct e = ap (λ a. shape.Punct a) (same_punct other punct (omega (arith, e)))
written_punct (shape.Key key) punct e = absurd (omega (arith, e, few_keys key))
written_punct (shape.Mark mark) punct e = absurd (omega (arith, e, few_puncts punct))
written_punct (shape.Word w) punct e = absurd (omega (arith, e, few_puncts punct))
written_punct (shape.Int w) punct e = absurd (omega (arith, e, few_puncts punct))
written_punct (shape.Float w) punct e = absurd (omega (arith, e, few_puncts punct))
written_punct (shape.Char w) punct e = absurd (omega (arith, e, few_puncts punct))
written_punct (shape.Str w) punct e = absurd (omega (arith, e, few_puncts punct))
written_punct shape.End punct e = absurd (omega (arith, e, few_puncts punct))

pub is_key : (s : State) (x : Shape) (key : Key) → class_in s x ≡ class_number (class.Key key) → x ≡ shape.Key key
is_key s x key e = written_key x key (written_so (key_number key) s x (fixed_key key) e)

pub is_punct : (s : State) (x : Shape) (punct : Punct) → class_in s x ≡ class_number (class.Punct punct) → x ≡ shape.Punct punct
is_punct s x punct e = written_punct x punct (written_so (class_number (class.Punct punct)) s x (fixed_punct punct) e)

-- ---- no token is a placeholder

abbrev a_hole : ℕ
a_hole = 126

unlike : (n : ℕ) → n < a_hole → nat_eq a_hole n ≡ false
unlike n less = by_test (nat_eq a_hole n) refl
  where
    by_test : (b : Bool) → nat_eq a_hole n ≡ b → nat_eq a_hole n ≡ false
    by_test false e = e
    by_test true e = absurd (let same : a_hole ≡ n = same_class a_hole n e in omega (arith, same, less))

no_word : (b : Bool) → nat_eq a_hole (word_class b) ≡ false
no_word true = refl
no_word false = refl

-- none is seen as one of a parameter
pub no_hole : (s : State) (x : Shape) → nat_eq a_hole (class_in s x) ≡ false
no_hole s (shape.Key key) = unlike (key_number key) (omega (arith, few_keys key))
no_hole s (shape.Punct punct) = unlike (32 + punct_number punct) (omega (arith, few_puncts punct))
no_hole s (shape.Mark mark) = unlike (78 + mark_number mark) (omega (arith, few_marks mark))
no_hole s (shape.Word w) = no_word _
no_hole s (shape.Int w) = refl
no_hole s (shape.Float w) = refl
no_hole s (shape.Char w) = refl
no_hole s (shape.Str w) = refl
no_hole s shape.End = refl
