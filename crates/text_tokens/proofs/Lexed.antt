-- The tokens of the text of marks are those of the marks.
use Rattle.std.proofs.Common.{◌≡◌, refl, subst, ap, sym, ◌∙◌, ℕ, zero, suc, ◌+◌, ◌*◌, ◌<◌, Bool, true, false, cond, unwrap_or, position, bytes_eq, List, [], ◌∷◌, ◌++◌, length, map, replicate, get_or, Option, Some, None, is_some, Ok, append_assoc, arith}
use Rattle.std.specs.List.{IsDistinct, position_or_len}
use Rattle.std.proofs.lemmas.Bool.{lt-ltb}
use Rattle.std.proofs.lemmas.Map.Keys.{apart_from_distinct}
use Rattle.std.proofs.lemmas.List.Sums.{position_or_len_is}
use Rattle.std.proofs.lemmas.Slice.Eq.{bytes_eq-Decides}
use Rattle.c_tokens.specs.declared.token.Key.{Key}
use Rattle.c_tokens.specs.declared.token.Key.TheVariants as k
use Rattle.c_tokens.specs.declared.token.Punct.{Punct}
use Rattle.c_tokens.specs.declared.token.Punct.TheVariants as p
use Rattle.c_tokens.specs.declared.token.Shape.{Shape}
use Rattle.c_tokens.specs.declared.token.Shape.TheVariants as s
use Rattle.c_tokens.specs.declared.token.Token.{Token}
use Rattle.c_tokens.specs.declared.token.Word.{Word}
use Rattle.c_tokens.specs.Bytes.{is_letter, is_digit, is_word_byte, is_white_space, is_quote}
use Rattle.c_tokens.specs.declared.lexical.Dialect.TheVariants.{C90}
use Rattle.c_tokens.specs.declared.lexical.LexCause.TheVariants as cause
use Rattle.c_tokens.specs.Constants.{starts_with_digit}
use Rattle.c_tokens.specs.Literals.{starts_literal, starts_with_quote, starts_wide}
use Rattle.c_tokens.specs.Skipped.{starts_comment, starts_with_byte, starts_directive, starts_percent_colon}
use Rattle.c_tokens.specs.Spelling.{Sort, keyword, punctuator, word, integer, floating, character, string, Spelling, space, token, refused, spelling_of, plain_spelling, sign_spelling, word_spelling, stray_spelling, find_text, keywords, punctuators, sign_marks, is_word, is_marked_word, is_word_after_at, is_number, is_space}
use Rattle.c_tokens.specs.Tokens.{Piece, meaning, pieces, pieces_from, unless_refused, shape_of, number_in, token_at, before, adds, tokens_in, tokens_of}
use Rattle.c_layout.specs.declared.marks.Use.{Use}
use Rattle.c_layout.specs.declared.marks.Mark.{Mark}
use Rattle.c_layout.specs.declared.marks.Mark.TheVariants as mark
use Rattle.c_layout.specs.Spelled.{tokens_among}
use Rattle.c_text.specs.Texts.{text_of_key, text_of_punct, text_of_word, text_of_shape}
use Rattle.c_text.specs.Spacing.{is_close}
use Rattle.c_text.specs.Text.{line_end, indentation, gap, text_after, text}
use Rattle.text_tokens.specs.Written.{IsSpelled, IsWritten, AllWritten, HasTokens}
use Rattle.text_tokens.specs.Neighbours.{IsSet, NextIsSet, AllSet}
use Rattle.text_tokens.proofs.Longer.{NoLonger}
use Rattle.text_tokens.proofs.Pieces.{Stops, pieces_after}
use Rattle.text_tokens.proofs.Apart.{space-ends, line_feed-ends, apart-stops}

-- ---- whole spellings

key_spelled : (key : Key) → spelling_of C90 (text_of_key key) ≡ Some (token (keyword key))
unfolding spelling_of plain_spelling starts_literal starts_with_quote starts_wide is_quote starts_comment starts_with_byte starts_directive starts_percent_colon word_spelling find_text keywords is_word is_letter is_word_byte
key_spelled k.Auto = refl
key_spelled _ = refl

punct_spelled : (punct : Punct) → spelling_of C90 (text_of_punct punct) ≡ Some (token (punctuator punct))
unfolding spelling_of plain_spelling starts_literal starts_with_quote starts_wide is_quote starts_comment starts_with_byte starts_directive starts_percent_colon sign_spelling find_text punctuators is_word is_marked_word is_word_after_at is_number starts_with_digit is_digit is_letter is_space is_white_space
punct_spelled p.Comma = refl
punct_spelled _ = refl

space_is_whole : (c : ℕ) → NoLonger (32 ∷ []) c
unfolding spelling_of plain_spelling starts_literal starts_with_quote starts_wide is_quote starts_comment starts_with_byte starts_directive starts_percent_colon stray_spelling sign_spelling find_text punctuators sign_marks is_word is_marked_word is_word_after_at is_number is_space is_letter is_digit starts_with_digit
space_is_whole c p = refl

line_feed_is_whole : (c : ℕ) → NoLonger (10 ∷ []) c
unfolding spelling_of plain_spelling starts_literal starts_with_quote starts_wide is_quote starts_comment starts_with_byte starts_directive starts_percent_colon stray_spelling sign_spelling find_text punctuators sign_marks is_word is_marked_word is_word_after_at is_number is_space is_letter is_digit starts_with_digit
line_feed_is_whole c p = refl

-- ---- numbers of texts

not_equal : (a b : List ℕ) → bytes_eq b a ≡ false → bytes_eq a b ≡ false
not_equal a b h = tested (bytes_eq a b) refl where
  tested : (is : Bool) → bytes_eq a b ≡ is → is ≡ false
  tested true e = let same : bytes_eq b a ≡ true = (bytes_eq-Decides b a).1 (sym ((bytes_eq-Decides a b).0 e)) in absurd (cc)
  tested false e = refl

-- in a table of distinct texts a number is that of its text
number_is : (names : List (List ℕ)) (n : ℕ) → IsDistinct bytes_eq names → n < length names → number_in names (get_or names n []) ≡ n
unfolding number_in
number_is names n distinct within =
    let text = get_or names n [] in
    let first : position_or_len (bytes_eq text) names ≡ n = position_or_len_is (bytes_eq text) names n [] (omega arith)
    (λ k below. not_equal text (get_or names k []) (apart_from_distinct bytes_eq names k n [] distinct below within))
    (λ _. (bytes_eq-Decides text text).1 refl) in
    let found : position (bytes_eq text) names ≡ Some n = rw first (ap (λ b. cond b (Some n) None) (lt-ltb n (length names) within)) in
    ap (λ o. unwrap_or o 0) found

-- ---- the tokens of a rest of a text

-- the tokens of the rest of a text have these shapes, where the rest begins at a place
record Lexed (names : List (List ℕ)) (whole : List ℕ) (at : ℕ) (bytes : List ℕ) (u : List Shape) : Type 0 where
  tokens : List Token
  lexed : tokens_in C90 names whole (pieces_from C90 at 0 bytes) ≡ Ok tokens
  shapes : map (λ t. t.shape) tokens ≡ u

-- wherever it begins
abbrev Lexes : List (List ℕ) → List ℕ → List ℕ → List Shape → Type 0
Lexes names whole bytes u = (at : ℕ) → Lexed names whole at bytes u

nothing_lexes : (names : List (List ℕ)) (whole : List ℕ) → Lexes names whole [] (s.End ∷ [])
unfolding tokens_in pieces_from
nothing_lexes names whole at = record { tokens = token_at s.End (length whole) (length whole) ∷ []; lexed = refl; shapes = refl }

some_of : (o : Option Spelling) (a : Spelling) → o ≡ Some a → is_some o ≡ true
some_of o a e = rw e

module _ (names : List (List ℕ)) (whole : List ℕ) where
  whole_token : (t : List ℕ) (sort : Sort) (r : List ℕ) (u : List Shape) → spelling_of C90 t ≡ Some (token sort) → Stops t r
      → Lexes names whole r u → Lexes names whole (t ++ r) (shape_of names t sort ∷ u)
  unfolding tokens_in meaning
  whole_token t sort r u e stops rest at =
      let others = rest (at + length t) in
      let meant : meaning C90 t ≡ token sort = ap (λ o. unwrap_or o (refused 0 cause.StrayByte)) e in
      let piece : Piece = record { start = at; text = t } in
      let one : Token = token_at (shape_of names t sort) at (at + length t) in
      record {
        tokens = one ∷ others.tokens;
        lexed = ap (tokens_in C90 names whole) (pieces_after t r at (some_of _ _ e) stops)
            ∙ ap (λ m. adds names whole piece m (tokens_in C90 names whole (unless_refused m (pieces_from C90 (at + length t) 0 r)))) meant
            ∙ ap (before one) others.lexed;
        shapes = ap (λ v. shape_of names t sort ∷ v) others.shapes;
      }

  white_space : (t r : List ℕ) (u : List Shape) → spelling_of C90 t ≡ Some space → Stops t r → Lexes names whole r u → Lexes names whole (t ++ r) u
  unfolding tokens_in meaning
  white_space t r u e stops rest at =
      let others = rest (at + length t) in
      let meant : meaning C90 t ≡ space = ap (λ o. unwrap_or o (refused 0 cause.StrayByte)) e in
      let piece : Piece = record { start = at; text = t } in
      record {
        tokens = others.tokens;
        lexed = ap (tokens_in C90 names whole) (pieces_after t r at (some_of _ _ e) stops)
            ∙ ap (λ m. adds names whole piece m (tokens_in C90 names whole (unless_refused m (pieces_from C90 (at + length t) 0 r)))) meant
            ∙ others.lexed;
        shapes = others.shapes;
      }

  stops_anywhere : (t r : List ℕ) → ((c : ℕ) → NoLonger t c) → Stops t r
  stops_anywhere t [] none = tt
  stops_anywhere t (c ∷ r) none = none c

  space_lexes : (r : List ℕ) (u : List Shape) → Lexes names whole r u → Lexes names whole (32 ∷ r) u
  unfolding spelling_of plain_spelling starts_literal starts_with_quote starts_wide is_quote starts_comment starts_with_byte starts_directive starts_percent_colon is_word is_marked_word is_word_after_at is_number is_space is_letter is_digit starts_with_digit is_white_space
  space_lexes r u rest = white_space (32 ∷ []) r u refl (stops_anywhere (32 ∷ []) r space_is_whole) rest

  line_feed_lexes : (r : List ℕ) (u : List Shape) → Lexes names whole r u → Lexes names whole (10 ∷ r) u
  unfolding spelling_of plain_spelling starts_literal starts_with_quote starts_wide is_quote starts_comment starts_with_byte starts_directive starts_percent_colon is_word is_marked_word is_word_after_at is_number is_space is_letter is_digit starts_with_digit is_white_space
  line_feed_lexes r u rest = white_space (10 ∷ []) r u refl (stops_anywhere (10 ∷ []) r line_feed_is_whole) rest

  -- ---- what stands between tokens

  spaces_lex : (n : ℕ) (r : List ℕ) (u : List Shape) → Lexes names whole r u → Lexes names whole (replicate n 32 ++ r) u
  spaces_lex zero r u rest = rest
  spaces_lex (suc n) r u rest = space_lexes (replicate n 32 ++ r) u (spaces_lex n r u rest)

  line_end_lexes : (last : Option Mark) (r : List ℕ) (u : List Shape) → Lexes names whole r u → Lexes names whole (line_end last ++ r) u
  line_end_lexes None r u rest = rest
  line_end_lexes (Some m) r u rest = line_feed_lexes r u rest

  space_or_none_lexes : (close : Bool) (r : List ℕ) (u : List Shape) → Lexes names whole r u → Lexes names whole (cond close [] (32 ∷ []) ++ r) u
  space_or_none_lexes true r u rest = rest
  space_or_none_lexes false r u rest = space_lexes r u rest

  gap_lexes : (last : Option Mark) (b : Shape) (v : Use) (r : List ℕ) (u : List Shape) → Lexes names whole r u → Lexes names whole (gap last b v ++ r) u
  gap_lexes None b v r u rest = rest
  gap_lexes (Some (mark.Line depth)) b v r u rest = rest
  gap_lexes (Some (mark.Token a w)) b v r u rest = space_or_none_lexes (is_close a w b v) r u rest

  -- ---- a token

  named_lexes : (n : Word) (sort : Sort) (shape : Word → Shape) (r : List ℕ) (u : List Shape) → IsDistinct bytes_eq names → IsSpelled names n sort
      → shape_of names (text_of_word names n) sort ≡ shape (record { 0 = number_in names (text_of_word names n) }) → Stops (text_of_word names n) r
      → Lexes names whole r u → Lexes names whole (text_of_word names n ++ r) (shape n ∷ u)
  named_lexes n sort shape r u distinct w is stops rest =
      let same : shape_of names (text_of_word names n) sort ≡ shape n = is ∙ ap (λ m. shape (record { 0 = m })) (number_is names n.0 distinct w.within) in
      subst (λ y. Lexes names whole (text_of_word names n ++ r) (y ∷ u)) same (whole_token (text_of_word names n) sort r u w.spelled stops rest)

  token_lexes : (x : Shape) (r : List ℕ) (u : List Shape) → IsDistinct bytes_eq names → IsWritten names x → Stops (text_of_shape names x) r
      → Lexes names whole r u → Lexes names whole (text_of_shape names x ++ r) (x ∷ u)
  token_lexes (s.Key key) r u d w stops rest = whole_token (text_of_key key) (keyword key) r u (key_spelled key) stops rest
  token_lexes (s.Punct punct) r u d w stops rest = whole_token (text_of_punct punct) (punctuator punct) r u (punct_spelled punct) stops rest
  token_lexes (s.Mark m) r u d w stops rest = absurd w
  token_lexes (s.Word n) r u d w stops rest = named_lexes n word s.Word r u d w refl stops rest
  token_lexes (s.Int n) r u d w stops rest = named_lexes n integer s.Int r u d w refl stops rest
  token_lexes (s.Float n) r u d w stops rest = named_lexes n floating s.Float r u d w refl stops rest
  token_lexes (s.Char n) r u d w stops rest = named_lexes n character s.Char r u d w refl stops rest
  token_lexes (s.Str n) r u d w stops rest = named_lexes n string s.Str r u d w refl stops rest
  token_lexes s.End r u d w stops rest = absurd w

  -- ---- marks

  abbrev after : Shape → Use → List Mark → List ℕ
  after a u ms = text_after names (Some (mark.Token a u)) ms

  -- the text of a token and of what follows it
  token_text : (last : Option Mark) (b : Shape) (v : Use) (ms : List Mark) → text_after names last (mark.Token b v ∷ ms) ≡ gap last b v ++ (text_of_shape names b ++ after b v ms)
  unfolding text_after
  token_text last b v ms = append_assoc (gap last b v) (text_of_shape names b) (after b v ms)

  line_text : (last : Option Mark) (depth : ℕ) (ms : List Mark) → text_after names last (mark.Line depth ∷ ms) ≡ line_end last ++ (indentation depth ++ text_after names (Some (mark.Line depth)) ms)
  unfolding text_after
  line_text last depth ms = append_assoc (line_end last) (indentation depth) (text_after names (Some (mark.Line depth)) ms)

  next_stops : (a : Shape) (u : Use) (b : Shape) (v : Use) (r : List ℕ) (close : Bool) → is_close a u b v ≡ close → IsWritten names a → IsWritten names b → IsSet a u b v
      → Stops (text_of_shape names a) (cond close [] (32 ∷ []) ++ (text_of_shape names b ++ r))
  next_stops a u b v r true e wa wb set = apart-stops names a b r wa wb (set e)
  next_stops a u b v r false e wa wb set = space-ends names a wa

  token_stops : (a : Shape) (u : Use) (ms : List Mark) → IsWritten names a → AllWritten names ms → NextIsSet a u ms → Stops (text_of_shape names a) (after a u ms)
  unfolding text_after
  token_stops a u [] wa w set = line_feed-ends names a wa
  token_stops a u (mark.Line depth ∷ ms) wa w set = line_feed-ends names a wa
  token_stops a u (mark.Token b v ∷ ms) wa w set =
      subst (Stops (text_of_shape names a)) (sym (token_text (Some (mark.Token a u)) b v ms)) (next_stops a u b v (after b v ms) (is_close a u b v) refl wa w.0 set)

  marks_lex : (last : Option Mark) (ms : List Mark) → IsDistinct bytes_eq names → AllWritten names ms → AllSet ms → Lexes names whole (text_after names last ms) (tokens_among ms ++ s.End ∷ [])
  unfolding text_after
  marks_lex None [] d w set = nothing_lexes names whole
  marks_lex (Some m) [] d w set = line_feed_lexes [] (s.End ∷ []) (nothing_lexes names whole)
  marks_lex last (mark.Line depth ∷ ms) d w set =
      subst (λ t. Lexes names whole t (tokens_among ms ++ s.End ∷ [])) (sym (line_text last depth ms))
      (line_end_lexes last _ _ (spaces_lex (4 * depth) _ _ (marks_lex (Some (mark.Line depth)) ms d w set)))
  marks_lex last (mark.Token b v ∷ ms) d w set =
      subst (λ t. Lexes names whole t (b ∷ (tokens_among ms ++ s.End ∷ []))) (sym (token_text last b v ms))
      (gap_lexes last b v _ _ (token_lexes b _ _ d w.0 (token_stops b v ms w.0 w.1 set.0) (marks_lex (Some (mark.Token b v)) ms d w.1 set.1)))

-- The text of marks has the tokens of the marks, where each of them is written and those side by side are apart.
pub text-tokens : (names : List (List ℕ)) (ms : List Mark) → IsDistinct bytes_eq names → AllWritten names ms → AllSet ms → HasTokens names (text names ms) (tokens_among ms)
unfolding tokens_of pieces
text-tokens names ms d w set =
    let all = marks_lex names (text names ms) None ms d w set 0 in
    record { tokens = all.tokens; lexed = all.lexed; same = all.shapes }
