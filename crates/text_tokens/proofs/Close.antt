-- What stands side by side is apart, but for the pairs that go on one another.
use Rattle.std.proofs.Common.{◌≡◌, refl, ap, sym, ◌∙◌, ℕ, Bool, true, false, ◌&&◌, ◌||◌, not, List, [], ◌∷◌}
use Rattle.std.specs.List.{IsDistinct}
use Rattle.std.specs.Prelude.{bytes_eq}
use Rattle.c_tokens.specs.declared.token.Punct.{Punct}
use Rattle.c_tokens.specs.declared.token.Punct.TheVariants as punct
use Rattle.c_tokens.specs.declared.token.Shape.{Shape}
use Rattle.c_tokens.specs.declared.token.Shape.TheVariants as s
use Rattle.c_tokens.specs.Bytes.{is_digit, is_sign}
use Rattle.c_tokens.specs.Spelling.{punctuators}
use Rattle.c_tokens.proofs.Tables.{and_true}
use Rattle.c_layout.specs.declared.marks.Use.{Use}
use Rattle.c_layout.specs.declared.marks.Use.TheVariants as use_as
use Rattle.c_layout.specs.declared.marks.Mark.{Mark}
use Rattle.c_layout.specs.declared.marks.Mark.TheVariants as mark
use Rattle.c_layout.specs.Spelled.{tokens_among}
use Rattle.c_text.specs.Text.{text}
use Rattle.c_text.specs.Spacing.{is_opening, is_closing, is_member_sign, is_number, is_operand_start, is_short_operator, is_call_paren, is_label_colon, is_leading, is_close_operand, is_trailing, is_close}
use Rattle.text_tokens.specs.Written.{IsWritten, AllWritten, HasTokens}
use Rattle.text_tokens.specs.Neighbours.{first_byte, is_dot, ends_punct, goes_on_number, ends_sign, is_apart, IsSet, NextIsSet, AllSet, is_merged, goes_on_point, is_equal_prefix, NextIsFree, AllFree}
use Rattle.text_tokens.proofs.Lexed.{text-tokens}

-- a token of plain C
abbrev pub is_plain : Shape → Bool
is_plain (s.Mark m) = false
is_plain s.End = false
is_plain _ = true

-- ---- a punctuator that goes on no other

record GoesOnNone (q : Punct) : Type 0 where
  after_punct : (p : Punct) → ends_punct p (first_byte q) ≡ true
  after_number : goes_on_number (first_byte q) ≡ false

none_apart : (a : Shape) (q : Punct) → GoesOnNone q → is_plain a ≡ true → is_apart a (s.Punct q) ≡ true
none_apart (s.Key k) q g h = refl
none_apart (s.Punct p) q g h = g.after_punct p
none_apart (s.Mark m) q g h = absurd cc
none_apart (s.Word n) q g h = refl
none_apart (s.Int n) q g h = ap not g.after_number
none_apart (s.Float n) q g h = ap not g.after_number
none_apart (s.Char n) q g h = refl
none_apart (s.Str n) q g h = refl
none_apart s.End q g h = absurd cc

ends_before_41 : (p : Punct) → ends_punct p 41 ≡ true
unfolding punctuators is_digit
ends_before_41 punct.Comma = refl
ends_before_41 _ = refl

ends_before_93 : (p : Punct) → ends_punct p 93 ≡ true
unfolding punctuators is_digit
ends_before_93 punct.Comma = refl
ends_before_93 _ = refl

ends_before_44 : (p : Punct) → ends_punct p 44 ≡ true
unfolding punctuators is_digit
ends_before_44 punct.Comma = refl
ends_before_44 _ = refl

ends_before_59 : (p : Punct) → ends_punct p 59 ≡ true
unfolding punctuators is_digit
ends_before_59 punct.Comma = refl
ends_before_59 _ = refl

ends_before_91 : (p : Punct) → ends_punct p 91 ≡ true
unfolding punctuators is_digit
ends_before_91 punct.Comma = refl
ends_before_91 _ = refl

ends_before_40 : (p : Punct) → ends_punct p 40 ≡ true
unfolding punctuators is_digit
ends_before_40 punct.Comma = refl
ends_before_40 _ = refl

ends_before_58 : (p : Punct) → ends_punct p 58 ≡ true
unfolding punctuators is_digit
ends_before_58 punct.Comma = refl
ends_before_58 _ = refl

right_paren : GoesOnNone punct.RightParen
unfolding is_sign
right_paren = record { after_punct = ends_before_41; after_number = refl }

right_bracket : GoesOnNone punct.RightBracket
unfolding is_sign
right_bracket = record { after_punct = ends_before_93; after_number = refl }

comma : GoesOnNone punct.Comma
unfolding is_sign
comma = record { after_punct = ends_before_44; after_number = refl }

semicolon : GoesOnNone punct.Semicolon
unfolding is_sign
semicolon = record { after_punct = ends_before_59; after_number = refl }

left_bracket : GoesOnNone punct.LeftBracket
unfolding is_sign
left_bracket = record { after_punct = ends_before_91; after_number = refl }

left_paren : GoesOnNone punct.LeftParen
unfolding is_sign
left_paren = record { after_punct = ends_before_40; after_number = refl }

colon : GoesOnNone punct.Colon
unfolding is_sign
colon = record { after_punct = ends_before_58; after_number = refl }

closing_apart : (a b : Shape) → is_plain a ≡ true → is_closing b ≡ true → is_apart a b ≡ true
closing_apart a (s.Punct punct.RightParen) h c = none_apart a punct.RightParen right_paren h
closing_apart a (s.Punct punct.RightBracket) h c = none_apart a punct.RightBracket right_bracket h
closing_apart a (s.Punct punct.Comma) h c = none_apart a punct.Comma comma h
closing_apart a (s.Punct punct.Semicolon) h c = none_apart a punct.Semicolon semicolon h
closing_apart a (s.Punct punct.LeftBracket) h c = none_apart a punct.LeftBracket left_bracket h
closing_apart a _ h c = absurd cc

call_apart : (a b : Shape) (v : Use) → is_plain a ≡ true → is_call_paren b v ≡ true → is_apart a b ≡ true
call_apart a (s.Punct punct.LeftParen) use_as.CallParen h c = none_apart a punct.LeftParen left_paren h
call_apart a _ use_as.CallParen h c = absurd cc
call_apart a b _ h c = absurd cc

colon_apart : (a b : Shape) (v : Use) → is_plain a ≡ true → is_label_colon b v ≡ true → is_apart a b ≡ true
colon_apart a (s.Punct punct.Colon) use_as.LabelColon h c = none_apart a punct.Colon colon h
colon_apart a _ use_as.LabelColon h c = absurd cc
colon_apart a b _ h c = absurd cc

-- ---- a punctuator that no other goes on

left_paren_ends : (q : Punct) → ends_punct punct.LeftParen (first_byte q) ≡ true
unfolding punctuators is_digit
left_paren_ends punct.Comma = refl
left_paren_ends _ = refl

left_bracket_ends : (q : Punct) → ends_punct punct.LeftBracket (first_byte q) ≡ true
unfolding punctuators is_digit
left_bracket_ends punct.Comma = refl
left_bracket_ends _ = refl

arrow_ends : (q : Punct) → ends_punct punct.Arrow (first_byte q) ≡ true
unfolding punctuators is_digit
arrow_ends punct.Comma = refl
arrow_ends _ = refl

whole_apart : (p : Punct) (b : Shape) → is_dot p ≡ false → ((q : Punct) → ends_punct p (first_byte q) ≡ true) → ends_sign p b ≡ true
whole_apart p (s.Punct q) d h = h q
whole_apart p (s.Int n) d h = ap not d
whole_apart p (s.Float n) d h = ap not d
whole_apart p _ d h = refl

opening_apart : (a b : Shape) → is_opening a ≡ true → is_apart a b ≡ true
opening_apart (s.Punct punct.LeftParen) b c = whole_apart punct.LeftParen b refl left_paren_ends
opening_apart (s.Punct punct.LeftBracket) b c = whole_apart punct.LeftBracket b refl left_bracket_ends
opening_apart _ b c = absurd cc

point_ends : (q : Punct) → goes_on_point (s.Punct q) ≡ false → ends_punct punct.Dot (first_byte q) ≡ true
unfolding punctuators is_digit
point_ends punct.Dot h = absurd cc
point_ends punct.Ellipsis h = absurd cc
point_ends _ h = refl

point_apart : (b : Shape) → goes_on_point b ≡ false → ends_sign punct.Dot b ≡ true
point_apart (s.Punct q) h = point_ends q h
point_apart (s.Int n) h = absurd cc
point_apart (s.Float n) h = absurd cc
point_apart _ h = refl

member_apart : (a b : Shape) (v : Use) → is_merged a b v ≡ false → is_member_sign a ≡ true → is_apart a b ≡ true
member_apart (s.Punct punct.Dot) b v h c = point_apart b h
member_apart (s.Punct punct.Arrow) b v h c = whole_apart punct.Arrow b refl arrow_ends
member_apart _ b v h c = absurd cc

-- ---- operators before operands

number_apart : (p : Punct) (b : Shape) (v : Use) → is_number b ≡ true → is_merged (s.Punct p) b v ≡ false → not (is_dot p) ≡ true
number_apart punct.Dot (s.Int n) v c h = absurd cc
number_apart punct.Dot (s.Float n) v c h = absurd cc
number_apart punct.Dot _ v c h = absurd cc
number_apart _ b v c h = refl

operand_apart : (p : Punct) (b : Shape) (v : Use) → is_merged (s.Punct p) b v ≡ false → is_operand_start b ≡ true → ends_sign p b ≡ true
operand_apart p (s.Word n) v h c = refl
operand_apart p (s.Int n) v h c = number_apart p (s.Int n) v refl h
operand_apart p (s.Float n) v h c = number_apart p (s.Float n) v refl h
operand_apart p (s.Char n) v h c = refl
operand_apart p (s.Str n) v h c = refl
operand_apart p (s.Punct punct.LeftParen) v h c = ends_before_40 p
operand_apart p _ v h c = absurd cc

star_ends : (q : Punct) → is_equal_prefix (s.Punct q) use_as.Prefix ≡ false → ends_punct punct.Star (first_byte q) ≡ true
unfolding punctuators is_digit
star_ends punct.Equal h = absurd cc
star_ends punct.EqualEqual h = absurd cc
star_ends _ h = refl

exclamation_ends : (q : Punct) → is_equal_prefix (s.Punct q) use_as.Prefix ≡ false → ends_punct punct.Exclamation (first_byte q) ≡ true
unfolding punctuators is_digit
exclamation_ends punct.Equal h = absurd cc
exclamation_ends punct.EqualEqual h = absurd cc
exclamation_ends _ h = refl

tilde_ends : (q : Punct) → ends_punct punct.Tilde (first_byte q) ≡ true
unfolding punctuators is_digit
tilde_ends punct.Comma = refl
tilde_ends _ = refl

short_apart : (p q : Punct) → is_short_operator (s.Punct p) ≡ true → is_merged (s.Punct p) (s.Punct q) use_as.Prefix ≡ false → ends_punct p (first_byte q) ≡ true
short_apart punct.Star q c h = star_ends q h
short_apart punct.Exclamation q c h = exclamation_ends q h
short_apart punct.Tilde q c h = tilde_ends q
short_apart _ q c h = absurd cc

before_star : (p : Punct) → is_short_operator (s.Punct p) ≡ true → ends_punct p 42 ≡ true
unfolding punctuators is_digit
before_star punct.Star c = refl
before_star punct.Exclamation c = refl
before_star punct.Tilde c = refl
before_star _ c = absurd cc

leading_apart : (p : Punct) (b : Shape) (v : Use) → is_merged (s.Punct p) b v ≡ false → is_short_operator (s.Punct p) ≡ true → is_leading b v ≡ true → ends_sign p b ≡ true
leading_apart p (s.Punct q) use_as.Prefix h c l = short_apart p q c h
leading_apart p (s.Punct punct.Star) use_as.Pointer h c l = before_star p c
leading_apart p _ use_as.Prefix h c l = absurd cc
leading_apart p _ use_as.Pointer h c l = absurd cc
leading_apart p b _ h c l = absurd cc

either_apart : (p : Punct) (b : Shape) (v : Use) (o : Bool) → is_operand_start b ≡ o → is_merged (s.Punct p) b v ≡ false → (o || (is_short_operator (s.Punct p) && is_leading b v)) ≡ true → ends_sign p b ≡ true
either_apart p b v true e h c = operand_apart p b v h e
either_apart p b v false e h c = let both = and_true (is_short_operator (s.Punct p)) (is_leading b v) c in leading_apart p b v h both.0 both.1

operator_apart : (a : Shape) (u : Use) (b : Shape) (v : Use) → is_merged a b v ≡ false → is_leading a u ≡ true → is_close_operand a b v ≡ true → is_apart a b ≡ true
operator_apart (s.Punct p) u b v h l c = either_apart p b v (is_operand_start b) refl h c
operator_apart _ use_as.Prefix b v h l c = absurd cc
operator_apart _ use_as.Pointer b v h l c = absurd cc
operator_apart _ _ b v h l c = absurd cc

-- ---- members' signs and postfix operators

before_point : (p : Punct) (v : Use) → is_merged (s.Punct p) (s.Punct punct.Dot) v ≡ false → ends_punct p 46 ≡ true
unfolding punctuators is_digit
before_point punct.Dot v h = absurd cc
before_point _ v h = refl

before_arrow : (p : Punct) (v : Use) → is_merged (s.Punct p) (s.Punct punct.Arrow) v ≡ false → ends_punct p 45 ≡ true
unfolding punctuators is_digit
before_arrow punct.Minus v h = absurd cc
before_arrow _ v h = refl

before_minus : (p : Punct) → is_merged (s.Punct p) (s.Punct punct.MinusMinus) use_as.Postfix ≡ false → ends_punct p 45 ≡ true
unfolding punctuators is_digit
before_minus punct.Minus h = absurd cc
before_minus _ h = refl

before_plus : (p : Punct) → is_merged (s.Punct p) (s.Punct punct.PlusPlus) use_as.Postfix ≡ false → ends_punct p 43 ≡ true
unfolding punctuators is_digit
before_plus punct.Plus h = absurd cc
before_plus _ h = refl

after_no_number : (a : Shape) (q : Punct) → is_plain a ≡ true → not (is_number a) ≡ true → ((p : Punct) → a ≡ s.Punct p → ends_punct p (first_byte q) ≡ true) → is_apart a (s.Punct q) ≡ true
after_no_number (s.Key k) q h n f = refl
after_no_number (s.Punct p) q h n f = f p refl
after_no_number (s.Mark m) q h n f = absurd cc
after_no_number (s.Word w) q h n f = refl
after_no_number (s.Int w) q h n f = absurd cc
after_no_number (s.Float w) q h n f = absurd cc
after_no_number (s.Char w) q h n f = refl
after_no_number (s.Str w) q h n f = refl
after_no_number s.End q h n f = absurd cc

merged_at : (a : Shape) (p : Punct) (b : Shape) (v : Use) → is_merged a b v ≡ false → a ≡ s.Punct p → is_merged (s.Punct p) b v ≡ false
merged_at a p b v h e = ap (λ x. is_merged x b v) (sym e) ∙ h

trailing_apart : (a b : Shape) (v : Use) → is_plain a ≡ true → is_merged a b v ≡ false → is_trailing b v ≡ true → not (is_number a) ≡ true → is_apart a b ≡ true
trailing_apart a (s.Punct punct.Dot) v h m c n = after_no_number a punct.Dot h n (λ p e. before_point p v (merged_at a p (s.Punct punct.Dot) v m e))
trailing_apart a (s.Punct punct.Arrow) v h m c n = after_no_number a punct.Arrow h n (λ p e. before_arrow p v (merged_at a p (s.Punct punct.Arrow) v m e))
trailing_apart a (s.Punct punct.PlusPlus) use_as.Postfix h m c n = after_no_number a punct.PlusPlus h n (λ p e. before_plus p (merged_at a p (s.Punct punct.PlusPlus) use_as.Postfix m e))
trailing_apart a (s.Punct punct.MinusMinus) use_as.Postfix h m c n = after_no_number a punct.MinusMinus h n (λ p e. before_minus p (merged_at a p (s.Punct punct.MinusMinus) use_as.Postfix m e))
trailing_apart a _ use_as.Postfix h m c n = absurd cc
trailing_apart a _ _ h m c n = absurd cc

-- ---- together

one_of : {P : Type 0} (o m c k l p t : Bool) → (o || m || c || k || l || p || t) ≡ true → (o ≡ true → P) → (m ≡ true → P) → (c ≡ true → P) → (k ≡ true → P) → (l ≡ true → P) → (p ≡ true → P) → (t ≡ true → P) → P
one_of true m c k l p t h fo fm fc fk fl fp ft = fo refl
one_of false true c k l p t h fo fm fc fk fl fp ft = fm refl
one_of false false true k l p t h fo fm fc fk fl fp ft = fc refl
one_of false false false true l p t h fo fm fc fk fl fp ft = fk refl
one_of false false false false true p t h fo fm fc fk fl fp ft = fl refl
one_of false false false false false true t h fo fm fc fk fl fp ft = fp refl
one_of false false false false false false true h fo fm fc fk fl fp ft = ft refl
one_of false false false false false false false h fo fm fc fk fl fp ft = absurd cc

-- what stands side by side, and is no such pair, is apart
pub close-apart : (a : Shape) (u : Use) (b : Shape) (v : Use) → is_plain a ≡ true → is_merged a b v ≡ false → IsSet a u b v
close-apart a u b v h m e =
    one_of (is_opening a) (is_member_sign a) (is_closing b) (is_call_paren b v) (is_label_colon b v) (is_leading a u && is_close_operand a b v) (is_trailing b v && not (is_number a)) e
    (opening_apart a b) (member_apart a b v m) (closing_apart a b h) (call_apart a b v h) (colon_apart a b v h)
    (λ c. let both = and_true (is_leading a u) (is_close_operand a b v) c in operator_apart a u b v m both.0 both.1)
    (λ c. let both = and_true (is_trailing b v) (not (is_number a)) c in trailing_apart a b v h m both.0 both.1)

star_close : (b : Shape) (v : Use) → is_equal_prefix b v ≡ true → (is_close (s.Punct punct.Star) use_as.Prefix b v ≡ true) × (ends_sign punct.Star b ≡ false)
unfolding punctuators
star_close (s.Punct punct.Equal) use_as.Prefix m = (refl, refl)
star_close (s.Punct punct.EqualEqual) use_as.Prefix m = (refl, refl)
star_close _ use_as.Prefix m = absurd cc
star_close b _ m = absurd cc

exclamation_close : (b : Shape) (v : Use) → is_equal_prefix b v ≡ true → (is_close (s.Punct punct.Exclamation) use_as.Prefix b v ≡ true) × (ends_sign punct.Exclamation b ≡ false)
unfolding punctuators
exclamation_close (s.Punct punct.Equal) use_as.Prefix m = (refl, refl)
exclamation_close (s.Punct punct.EqualEqual) use_as.Prefix m = (refl, refl)
exclamation_close _ use_as.Prefix m = absurd cc
exclamation_close b _ m = absurd cc

-- and each such pair stands side by side, after a prefix operator if need be, and is not apart
pub merged-close : (a b : Shape) (v : Use) → is_merged a b v ≡ true → (is_close a use_as.Prefix b v ≡ true) × (is_apart a b ≡ false)
unfolding punctuators is_digit
merged-close (s.Punct punct.Dot) (s.Int n) v m = (refl, refl)
merged-close (s.Punct punct.Dot) (s.Float n) v m = (refl, refl)
merged-close (s.Punct punct.Dot) (s.Punct punct.Dot) v m = (refl, refl)
merged-close (s.Punct punct.Dot) (s.Punct punct.Ellipsis) v m = (refl, refl)
merged-close (s.Punct punct.Star) b v m = star_close b v m
merged-close (s.Punct punct.Exclamation) b v m = exclamation_close b v m
merged-close (s.Punct punct.Minus) (s.Punct punct.Arrow) use_as.Plain m = (refl, refl)
merged-close (s.Punct punct.Minus) (s.Punct punct.Arrow) use_as.Prefix m = (refl, refl)
merged-close (s.Punct punct.Minus) (s.Punct punct.Arrow) use_as.Pointer m = (refl, refl)
merged-close (s.Punct punct.Minus) (s.Punct punct.Arrow) use_as.Postfix m = (refl, refl)
merged-close (s.Punct punct.Minus) (s.Punct punct.Arrow) use_as.CallParen m = (refl, refl)
merged-close (s.Punct punct.Minus) (s.Punct punct.Arrow) use_as.LabelColon m = (refl, refl)
merged-close (s.Punct punct.Minus) (s.Punct punct.MinusMinus) use_as.Postfix m = (refl, refl)
merged-close (s.Punct punct.Plus) (s.Punct punct.PlusPlus) use_as.Postfix m = (refl, refl)
merged-close _ b v m = absurd cc

written_plain : (names : List (List ℕ)) (a : Shape) → IsWritten names a → is_plain a ≡ true
written_plain names (s.Mark m) w = absurd w
written_plain names s.End w = absurd w
written_plain names _ w = refl

next_set : (names : List (List ℕ)) (a : Shape) (u : Use) (ms : List Mark) → IsWritten names a → NextIsFree a ms → NextIsSet a u ms
next_set names a u [] w free = tt
next_set names a u (mark.Line depth ∷ ms) w free = tt
next_set names a u (mark.Token b v ∷ ms) w free = close-apart a u b v (written_plain names a w) free

all_set : (names : List (List ℕ)) (ms : List Mark) → AllWritten names ms → AllFree ms → AllSet ms
all_set names [] w free = tt
all_set names (mark.Line depth ∷ ms) w free = all_set names ms w free
all_set names (mark.Token a u ∷ ms) w free = (next_set names a u ms w.0 free.0, all_set names ms w.1 free.1)

-- The text of marks among which no two neighbours are such a pair has the tokens of the marks.
pub free-tokens : (names : List (List ℕ)) (ms : List Mark) → IsDistinct bytes_eq names → AllWritten names ms → AllFree ms → HasTokens names (text names ms) (tokens_among ms)
free-tokens names ms d w free = text-tokens names ms d w (all_set names ms w free)
