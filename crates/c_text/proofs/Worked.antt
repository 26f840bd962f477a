-- Texts of marks, worked by hand.
use Rattle.std.proofs.Common.{◌≡◌, refl, ℕ, List, [], ◌∷◌}
use Rattle.std.specs.Prelude.{true, false, codes}
use Rattle.c_tokens.specs.declared.token.Word.{Word}
use Rattle.c_tokens.specs.declared.token.Key.{Key}
use Rattle.c_tokens.specs.declared.token.Key.TheVariants as key
use Rattle.c_tokens.specs.declared.token.Punct.{Punct}
use Rattle.c_tokens.specs.declared.token.Punct.TheVariants.{LeftParen, RightParen, LeftBracket, RightBracket, LeftBrace, Dot, PlusPlus, Ampersand, Star, Plus, Minus, Exclamation, Colon, Comma, Semicolon}
use Rattle.c_tokens.specs.declared.token.Shape.{Shape}
use Rattle.c_tokens.specs.declared.token.Shape.TheVariants as shape
use Rattle.c_layout.specs.declared.marks.Use.TheVariants.{Plain, Prefix, Pointer, Postfix, CallParen, LabelColon}
use Rattle.c_layout.specs.declared.marks.Mark.{Mark}
use Rattle.c_layout.specs.declared.marks.Mark.TheVariants.{Token, Line}
use Rattle.c_text.specs.Spacing.{is_close}
use Rattle.c_text.specs.Text.{text, text_after}

-- words and numbers, by their places in the table below

abbrev number_of : ℕ → Word
number_of n = record { 0 = n }

abbrev names : List (List ℕ)
names = codes "a" ∷ codes "b" ∷ codes "c" ∷ codes "f" ∷ codes "1" ∷ []

abbrev a : Shape
a = shape.Word (number_of 0)

abbrev b : Shape
b = shape.Word (number_of 1)

abbrev c : Shape
c = shape.Word (number_of 2)

abbrev f : Shape
f = shape.Word (number_of 3)

abbrev one : Shape
one = shape.Int (number_of 4)

abbrev sign : Punct → Shape
sign x = shape.Punct x

abbrev k : Key → Mark
k x = Token (shape.Key x) Plain

abbrev w : Shape → Mark
w x = Token x Plain

abbrev p : Punct → Mark
p x = Token (shape.Punct x) Plain

abbrev prefix : Punct → Mark
prefix x = Token (shape.Punct x) Prefix

abbrev pointer : Mark
pointer = Token (shape.Punct Star) Pointer

abbrev opening : Mark
opening = Token (shape.Punct LeftParen) CallParen

abbrev colon : Mark
colon = Token (shape.Punct Colon) LabelColon

abbrev postfix : Mark
postfix = Token (shape.Punct PlusPlus) Postfix

-- neighbours

minus_minus : is_close (sign Minus) Prefix (sign Minus) Prefix ≡ false
minus_minus = refl

minus_word : is_close (sign Minus) Prefix c Plain ≡ true
minus_word = refl

difference : is_close (sign Minus) Plain c Plain ≡ false
difference = refl

address_of_target : is_close (sign Ampersand) Prefix (sign Star) Prefix ≡ false
address_of_target = refl

target_of_address : is_close (sign Star) Prefix (sign Ampersand) Prefix ≡ true
target_of_address = refl

pointer_to_pointer : is_close (sign Star) Pointer (sign Star) Pointer ≡ true
pointer_to_pointer = refl

not_minus : is_close (sign Exclamation) Prefix (sign Minus) Prefix ≡ true
not_minus = refl

pointer_qualifier : is_close (sign Star) Pointer (shape.Key key.Const) Plain ≡ false
pointer_qualifier = refl

number_member : is_close one Plain (sign Dot) Plain ≡ false
number_member = refl

word_member : is_close a Plain (sign Dot) Plain ≡ true
word_member = refl

number_postfix : is_close one Plain (sign PlusPlus) Postfix ≡ false
number_postfix = refl

-- texts

no_marks : text names [] ≡ []
unfolding text_after
no_marks = refl

two_minuses : text names (prefix Minus ∷ prefix Minus ∷ w c ∷ []) ≡ codes "- -c\n"
unfolding text_after
two_minuses = refl

-- a keyword is no word, so it stands off from the pointer's `*`
constant_pointer : text names (k key.Int ∷ pointer ∷ k key.Const ∷ w a ∷ p Semicolon ∷ []) ≡ codes "int * const a;\n"
unfolding text_after
constant_pointer = refl

pointer_declared : text names (k key.Int ∷ pointer ∷ w a ∷ p Semicolon ∷ []) ≡ codes "int *a;\n"
unfolding text_after
pointer_declared = refl

address_first : text names (prefix Ampersand ∷ prefix Star ∷ w a ∷ []) ≡ codes "& *a\n"
unfolding text_after
address_first = refl

target_first : text names (prefix Star ∷ prefix Ampersand ∷ w a ∷ []) ≡ codes "*&a\n"
unfolding text_after
target_first = refl

two_arguments : text names (w f ∷ opening ∷ w a ∷ p Comma ∷ w b ∷ p RightParen ∷ []) ≡ codes "f(a, b)\n"
unfolding text_after
two_arguments = refl

size_less_one : text names (k key.Sizeof ∷ p LeftParen ∷ k key.Int ∷ p RightParen ∷ p Minus ∷ w one ∷ []) ≡ codes "sizeof (int) - 1\n"
unfolding text_after
size_less_one = refl

element : text names (w a ∷ p LeftBracket ∷ w one ∷ p RightBracket ∷ []) ≡ codes "a[1]\n"
unfolding text_after
element = refl

member_of_number : text names (w one ∷ p Dot ∷ w a ∷ []) ≡ codes "1 .a\n"
unfolding text_after
member_of_number = refl

label : text names (w a ∷ colon ∷ w f ∷ opening ∷ p RightParen ∷ p Semicolon ∷ []) ≡ codes "a: f();\n"
unfolding text_after
label = refl

sum_after_step : text names (w a ∷ postfix ∷ p Plus ∷ w b ∷ []) ≡ codes "a++ + b\n"
unfolding text_after
sum_after_step = refl

two_lines : text names (Line 0 ∷ w a ∷ p LeftBrace ∷ Line 1 ∷ w b ∷ p Semicolon ∷ []) ≡ codes "a {\n    b;\n"
unfolding text_after
two_lines = refl
