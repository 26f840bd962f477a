-- The reader at work: what it reads, and the first token at which it stops. The words 1 and 2, T and U, are types.
use Rattle.std.proofs.Common.{◌≡◌, refl, ℕ, false, if◌then◌else◌, nat_eq, length, List, [], ◌∷◌, Ok, Err}
use Rattle.c_tokens.specs.declared.token.Key.TheVariants as k
use Rattle.c_tokens.specs.declared.token.Punct.TheVariants as p
use Rattle.c_tokens.specs.declared.token.Shape.{Shape}
use Rattle.c_tokens.specs.declared.token.Shape.TheVariants.{Key, Punct as Sign, Word, Int, Float, Char, Str}
use Rattle.c_reader.specs.declared.refusal.Refusal.TheVariants.{Memory, Syntax, TooDeep}
use Rattle.c_reader.specs.States.{State, AsType, nothing_kept}
use Rattle.c_reader.specs.Tokens.{spot}
use Rattle.c_reader.specs.Readers.{Outcome, Found, read, below, loop}
use Rattle.c_syntax.specs.Reading.{element_after, others, others_ended, many, gathered, pieces_in, completed}
use Rattle.c_syntax.specs.Grammar.{whole, climb, type_or, primary, expression, opened, declarator_head, declarator_of, specifier, parameters, worded, statement, type_first, block_item, external, in_place, body, item_reader}

abbrev outside : State
outside = record { entries = AsType 1 ∷ (AsType 2 ∷ []); is_late = false; kept = nothing_kept; aside = [] }

data Verdict : Type 0 where
  -- all tokens are an item, or so many are
  All : Verdict
  First : ℕ → Verdict
  Dead : ℕ → Verdict
  Deep : ℕ → Verdict
  Lacking : Verdict

abbrev verdict_of : ℕ → Outcome Found → Verdict
verdict_of n (Ok q) = if nat_eq q.1.at.place n then All else First q.1.at.place
verdict_of n (Err (Syntax place)) = Dead place
verdict_of n (Err (TooDeep place)) = Deep place
verdict_of n (Err Memory) = Lacking

abbrev verdict_in : ℕ → List Shape → Verdict
verdict_in d w = verdict_of (length w) (read body d item_reader (record { tokens = w; at = spot 0 outside }))

abbrev verdict : List Shape → Verdict
verdict w = verdict_in 20 w

abbrev w : ℕ → Shape
w n = Word (record { 0 = n })

abbrev n : Shape
n = Int (record { 0 = 90 })

abbrev d : Shape
d = Float (record { 0 = 91 })

abbrev c : Shape
c = Char (record { 0 = 92 })

abbrev s : Shape
s = Str (record { 0 = 93 })

-- ---- expressions

-- `int x = a + b * c - d ;`
row_1 : verdict (Key k.Int ∷ w 3 ∷ Sign p.Equal ∷ w 4 ∷ Sign p.Plus ∷ w 5 ∷ Sign p.Star ∷ w 6 ∷ Sign p.Minus ∷ w 7 ∷ Sign p.Semicolon ∷ []) ≡ All
unfolding element_after others others_ended many gathered pieces_in completed whole climb type_or primary expression opened declarator_head declarator_of specifier parameters worded statement type_first block_item external in_place below loop
row_1 = refl

-- `int x = a = b = c ;`
row_2 : verdict (Key k.Int ∷ w 3 ∷ Sign p.Equal ∷ w 4 ∷ Sign p.Equal ∷ w 5 ∷ Sign p.Equal ∷ w 6 ∷ Sign p.Semicolon ∷ []) ≡ All
unfolding element_after others others_ended many gathered pieces_in completed whole climb type_or primary expression opened declarator_head declarator_of specifier parameters worded statement type_first block_item external in_place below loop
row_2 = refl

-- `int x = a + b = c ;`: dead at token 6, `=`
row_3 : verdict (Key k.Int ∷ w 3 ∷ Sign p.Equal ∷ w 4 ∷ Sign p.Plus ∷ w 5 ∷ Sign p.Equal ∷ w 6 ∷ Sign p.Semicolon ∷ []) ≡ Dead 6
unfolding element_after others others_ended many gathered pieces_in completed whole climb type_or primary expression opened declarator_head declarator_of specifier parameters worded statement type_first block_item external in_place below loop
row_3 = refl

-- `int x = - a = b ;`
row_4 : verdict (Key k.Int ∷ w 3 ∷ Sign p.Equal ∷ Sign p.Minus ∷ w 4 ∷ Sign p.Equal ∷ w 5 ∷ Sign p.Semicolon ∷ []) ≡ All
unfolding element_after others others_ended many gathered pieces_in completed whole climb type_or primary expression opened declarator_head declarator_of specifier parameters worded statement type_first block_item external in_place below loop
row_4 = refl

-- `int x = * p ++ ;`
row_5 : verdict (Key k.Int ∷ w 3 ∷ Sign p.Equal ∷ Sign p.Star ∷ w 8 ∷ Sign p.PlusPlus ∷ Sign p.Semicolon ∷ []) ≡ All
unfolding element_after others others_ended many gathered pieces_in completed whole climb type_or primary expression opened declarator_head declarator_of specifier parameters worded statement type_first block_item external in_place below loop
row_5 = refl

-- `int x = a ? b : c ? d : e ;`
row_6 : verdict (Key k.Int ∷ w 3 ∷ Sign p.Equal ∷ w 4 ∷ Sign p.Question ∷ w 5 ∷ Sign p.Colon ∷ w 6 ∷ Sign p.Question ∷ w 7 ∷ Sign p.Colon ∷ w 9 ∷ Sign p.Semicolon ∷ []) ≡ All
unfolding element_after others others_ended many gathered pieces_in completed whole climb type_or primary expression opened declarator_head declarator_of specifier parameters worded statement type_first block_item external in_place below loop
row_6 = refl

-- `int x = a ? b , c : d ;`
row_7 : verdict (Key k.Int ∷ w 3 ∷ Sign p.Equal ∷ w 4 ∷ Sign p.Question ∷ w 5 ∷ Sign p.Comma ∷ w 6 ∷ Sign p.Colon ∷ w 7 ∷ Sign p.Semicolon ∷ []) ≡ All
unfolding element_after others others_ended many gathered pieces_in completed whole climb type_or primary expression opened declarator_head declarator_of specifier parameters worded statement type_first block_item external in_place below loop
row_7 = refl

-- `int x = a , 1 ;`: dead at token 5, `1`
row_8 : verdict (Key k.Int ∷ w 3 ∷ Sign p.Equal ∷ w 4 ∷ Sign p.Comma ∷ n ∷ Sign p.Semicolon ∷ []) ≡ Dead 5
unfolding element_after others others_ended many gathered pieces_in completed whole climb type_or primary expression opened declarator_head declarator_of specifier parameters worded statement type_first block_item external in_place below loop
row_8 = refl

-- `int x = f ( a , b ) [ 1 ] . m -> n ++ -- ;`
row_9 : verdict (Key k.Int ∷ w 3 ∷ Sign p.Equal ∷ w 10 ∷ Sign p.LeftParen ∷ w 4 ∷ Sign p.Comma ∷ w 5 ∷ Sign p.RightParen ∷ Sign p.LeftBracket ∷ n ∷ Sign p.RightBracket ∷ Sign p.Dot ∷ w 11 ∷ Sign p.Arrow ∷ w 12 ∷ Sign p.PlusPlus ∷ Sign p.MinusMinus ∷ Sign p.Semicolon ∷ []) ≡ All
unfolding element_after others others_ended many gathered pieces_in completed whole climb type_or primary expression opened declarator_head declarator_of specifier parameters worded statement type_first block_item external in_place below loop
row_9 = refl

-- `int x = f ( a , ) ;`: dead at token 7, `)`
row_10 : verdict (Key k.Int ∷ w 3 ∷ Sign p.Equal ∷ w 10 ∷ Sign p.LeftParen ∷ w 4 ∷ Sign p.Comma ∷ Sign p.RightParen ∷ Sign p.Semicolon ∷ []) ≡ Dead 7
unfolding element_after others others_ended many gathered pieces_in completed whole climb type_or primary expression opened declarator_head declarator_of specifier parameters worded statement type_first block_item external in_place below loop
row_10 = refl

-- `int x = ( a , b ) ;`
row_11 : verdict (Key k.Int ∷ w 3 ∷ Sign p.Equal ∷ Sign p.LeftParen ∷ w 4 ∷ Sign p.Comma ∷ w 5 ∷ Sign p.RightParen ∷ Sign p.Semicolon ∷ []) ≡ All
unfolding element_after others others_ended many gathered pieces_in completed whole climb type_or primary expression opened declarator_head declarator_of specifier parameters worded statement type_first block_item external in_place below loop
row_11 = refl

-- `int x = ( a , ) ;`: dead at token 6, `)`
row_12 : verdict (Key k.Int ∷ w 3 ∷ Sign p.Equal ∷ Sign p.LeftParen ∷ w 4 ∷ Sign p.Comma ∷ Sign p.RightParen ∷ Sign p.Semicolon ∷ []) ≡ Dead 6
unfolding element_after others others_ended many gathered pieces_in completed whole climb type_or primary expression opened declarator_head declarator_of specifier parameters worded statement type_first block_item external in_place below loop
row_12 = refl

-- `int x = ( T ) a ;`
row_13 : verdict (Key k.Int ∷ w 3 ∷ Sign p.Equal ∷ Sign p.LeftParen ∷ w 1 ∷ Sign p.RightParen ∷ w 4 ∷ Sign p.Semicolon ∷ []) ≡ All
unfolding element_after others others_ended many gathered pieces_in completed whole climb type_or primary expression opened declarator_head declarator_of specifier parameters worded statement type_first block_item external in_place below loop
row_13 = refl

-- `int x = ( T ) - a . m ;`
row_14 : verdict (Key k.Int ∷ w 3 ∷ Sign p.Equal ∷ Sign p.LeftParen ∷ w 1 ∷ Sign p.RightParen ∷ Sign p.Minus ∷ w 4 ∷ Sign p.Dot ∷ w 11 ∷ Sign p.Semicolon ∷ []) ≡ All
unfolding element_after others others_ended many gathered pieces_in completed whole climb type_or primary expression opened declarator_head declarator_of specifier parameters worded statement type_first block_item external in_place below loop
row_14 = refl

-- `int x = ( T ) ( U ) a * b ;`
row_15 : verdict (Key k.Int ∷ w 3 ∷ Sign p.Equal ∷ Sign p.LeftParen ∷ w 1 ∷ Sign p.RightParen ∷ Sign p.LeftParen ∷ w 2 ∷ Sign p.RightParen ∷ w 4 ∷ Sign p.Star ∷ w 5 ∷ Sign p.Semicolon ∷ []) ≡ All
unfolding element_after others others_ended many gathered pieces_in completed whole climb type_or primary expression opened declarator_head declarator_of specifier parameters worded statement type_first block_item external in_place below loop
row_15 = refl

-- `int x = ( T + a ) ;`: dead at token 5, `+`
row_16 : verdict (Key k.Int ∷ w 3 ∷ Sign p.Equal ∷ Sign p.LeftParen ∷ w 1 ∷ Sign p.Plus ∷ w 4 ∷ Sign p.RightParen ∷ Sign p.Semicolon ∷ []) ≡ Dead 5
unfolding element_after others others_ended many gathered pieces_in completed whole climb type_or primary expression opened declarator_head declarator_of specifier parameters worded statement type_first block_item external in_place below loop
row_16 = refl

-- `int x = ( a ) b ;`: dead at token 6, `b`
row_17 : verdict (Key k.Int ∷ w 3 ∷ Sign p.Equal ∷ Sign p.LeftParen ∷ w 4 ∷ Sign p.RightParen ∷ w 5 ∷ Sign p.Semicolon ∷ []) ≡ Dead 6
unfolding element_after others others_ended many gathered pieces_in completed whole climb type_or primary expression opened declarator_head declarator_of specifier parameters worded statement type_first block_item external in_place below loop
row_17 = refl

-- `int x = ++ ( T ) a ;`: dead at token 5, `T`
row_18 : verdict (Key k.Int ∷ w 3 ∷ Sign p.Equal ∷ Sign p.PlusPlus ∷ Sign p.LeftParen ∷ w 1 ∷ Sign p.RightParen ∷ w 4 ∷ Sign p.Semicolon ∷ []) ≡ Dead 5
unfolding element_after others others_ended many gathered pieces_in completed whole climb type_or primary expression opened declarator_head declarator_of specifier parameters worded statement type_first block_item external in_place below loop
row_18 = refl

-- `int x = ++ ( a ) ;`
row_19 : verdict (Key k.Int ∷ w 3 ∷ Sign p.Equal ∷ Sign p.PlusPlus ∷ Sign p.LeftParen ∷ w 4 ∷ Sign p.RightParen ∷ Sign p.Semicolon ∷ []) ≡ All
unfolding element_after others others_ended many gathered pieces_in completed whole climb type_or primary expression opened declarator_head declarator_of specifier parameters worded statement type_first block_item external in_place below loop
row_19 = refl

-- `int x = & * a [ 1 ] ;`
row_20 : verdict (Key k.Int ∷ w 3 ∷ Sign p.Equal ∷ Sign p.Ampersand ∷ Sign p.Star ∷ w 4 ∷ Sign p.LeftBracket ∷ n ∷ Sign p.RightBracket ∷ Sign p.Semicolon ∷ []) ≡ All
unfolding element_after others others_ended many gathered pieces_in completed whole climb type_or primary expression opened declarator_head declarator_of specifier parameters worded statement type_first block_item external in_place below loop
row_20 = refl

-- `int x = ! ~ + - a ;`
row_21 : verdict (Key k.Int ∷ w 3 ∷ Sign p.Equal ∷ Sign p.Exclamation ∷ Sign p.Tilde ∷ Sign p.Plus ∷ Sign p.Minus ∷ w 4 ∷ Sign p.Semicolon ∷ []) ≡ All
unfolding element_after others others_ended many gathered pieces_in completed whole climb type_or primary expression opened declarator_head declarator_of specifier parameters worded statement type_first block_item external in_place below loop
row_21 = refl

-- `int x = sizeof a . m ;`
row_22 : verdict (Key k.Int ∷ w 3 ∷ Sign p.Equal ∷ Key k.Sizeof ∷ w 4 ∷ Sign p.Dot ∷ w 11 ∷ Sign p.Semicolon ∷ []) ≡ All
unfolding element_after others others_ended many gathered pieces_in completed whole climb type_or primary expression opened declarator_head declarator_of specifier parameters worded statement type_first block_item external in_place below loop
row_22 = refl

-- `int x = sizeof ( T ) ;`
row_23 : verdict (Key k.Int ∷ w 3 ∷ Sign p.Equal ∷ Key k.Sizeof ∷ Sign p.LeftParen ∷ w 1 ∷ Sign p.RightParen ∷ Sign p.Semicolon ∷ []) ≡ All
unfolding element_after others others_ended many gathered pieces_in completed whole climb type_or primary expression opened declarator_head declarator_of specifier parameters worded statement type_first block_item external in_place below loop
row_23 = refl

-- `int x = sizeof ( T ) * 2 ;`
row_24 : verdict (Key k.Int ∷ w 3 ∷ Sign p.Equal ∷ Key k.Sizeof ∷ Sign p.LeftParen ∷ w 1 ∷ Sign p.RightParen ∷ Sign p.Star ∷ n ∷ Sign p.Semicolon ∷ []) ≡ All
unfolding element_after others others_ended many gathered pieces_in completed whole climb type_or primary expression opened declarator_head declarator_of specifier parameters worded statement type_first block_item external in_place below loop
row_24 = refl

-- `int x = sizeof ( T ) a ;`: dead at token 7, `a`
row_25 : verdict (Key k.Int ∷ w 3 ∷ Sign p.Equal ∷ Key k.Sizeof ∷ Sign p.LeftParen ∷ w 1 ∷ Sign p.RightParen ∷ w 4 ∷ Sign p.Semicolon ∷ []) ≡ Dead 7
unfolding element_after others others_ended many gathered pieces_in completed whole climb type_or primary expression opened declarator_head declarator_of specifier parameters worded statement type_first block_item external in_place below loop
row_25 = refl

-- `int x = sizeof ( a ) [ 2 ] . m ;`
row_26 : verdict (Key k.Int ∷ w 3 ∷ Sign p.Equal ∷ Key k.Sizeof ∷ Sign p.LeftParen ∷ w 4 ∷ Sign p.RightParen ∷ Sign p.LeftBracket ∷ n ∷ Sign p.RightBracket ∷ Sign p.Dot ∷ w 11 ∷ Sign p.Semicolon ∷ []) ≡ All
unfolding element_after others others_ended many gathered pieces_in completed whole climb type_or primary expression opened declarator_head declarator_of specifier parameters worded statement type_first block_item external in_place below loop
row_26 = refl

-- `int x = sizeof ( a , b ) ++ ;`
row_27 : verdict (Key k.Int ∷ w 3 ∷ Sign p.Equal ∷ Key k.Sizeof ∷ Sign p.LeftParen ∷ w 4 ∷ Sign p.Comma ∷ w 5 ∷ Sign p.RightParen ∷ Sign p.PlusPlus ∷ Sign p.Semicolon ∷ []) ≡ All
unfolding element_after others others_ended many gathered pieces_in completed whole climb type_or primary expression opened declarator_head declarator_of specifier parameters worded statement type_first block_item external in_place below loop
row_27 = refl

-- `int x = sizeof ( ) ;`: dead at token 5, `)`
row_28 : verdict (Key k.Int ∷ w 3 ∷ Sign p.Equal ∷ Key k.Sizeof ∷ Sign p.LeftParen ∷ Sign p.RightParen ∷ Sign p.Semicolon ∷ []) ≡ Dead 5
unfolding element_after others others_ended many gathered pieces_in completed whole climb type_or primary expression opened declarator_head declarator_of specifier parameters worded statement type_first block_item external in_place below loop
row_28 = refl

-- `int x = sizeof sizeof ( int * ) ;`
row_29 : verdict (Key k.Int ∷ w 3 ∷ Sign p.Equal ∷ Key k.Sizeof ∷ Key k.Sizeof ∷ Sign p.LeftParen ∷ Key k.Int ∷ Sign p.Star ∷ Sign p.RightParen ∷ Sign p.Semicolon ∷ []) ≡ All
unfolding element_after others others_ended many gathered pieces_in completed whole climb type_or primary expression opened declarator_head declarator_of specifier parameters worded statement type_first block_item external in_place below loop
row_29 = refl

-- `int x = sizeof - ( T ) a ;`
row_30 : verdict (Key k.Int ∷ w 3 ∷ Sign p.Equal ∷ Key k.Sizeof ∷ Sign p.Minus ∷ Sign p.LeftParen ∷ w 1 ∷ Sign p.RightParen ∷ w 4 ∷ Sign p.Semicolon ∷ []) ≡ All
unfolding element_after others others_ended many gathered pieces_in completed whole climb type_or primary expression opened declarator_head declarator_of specifier parameters worded statement type_first block_item external in_place below loop
row_30 = refl

-- `int x = sizeof T ;`: dead at token 4, `T`
row_31 : verdict (Key k.Int ∷ w 3 ∷ Sign p.Equal ∷ Key k.Sizeof ∷ w 1 ∷ Sign p.Semicolon ∷ []) ≡ Dead 4
unfolding element_after others others_ended many gathered pieces_in completed whole climb type_or primary expression opened declarator_head declarator_of specifier parameters worded statement type_first block_item external in_place below loop
row_31 = refl

-- `int x = "s" "s" "s" [ 1 ] ;`
row_32 : verdict (Key k.Int ∷ w 3 ∷ Sign p.Equal ∷ s ∷ s ∷ s ∷ Sign p.LeftBracket ∷ n ∷ Sign p.RightBracket ∷ Sign p.Semicolon ∷ []) ≡ All
unfolding element_after others others_ended many gathered pieces_in completed whole climb type_or primary expression opened declarator_head declarator_of specifier parameters worded statement type_first block_item external in_place below loop
row_32 = refl

-- `int x = "s" a ;`: dead at token 4, `a`
row_33 : verdict (Key k.Int ∷ w 3 ∷ Sign p.Equal ∷ s ∷ w 4 ∷ Sign p.Semicolon ∷ []) ≡ Dead 4
unfolding element_after others others_ended many gathered pieces_in completed whole climb type_or primary expression opened declarator_head declarator_of specifier parameters worded statement type_first block_item external in_place below loop
row_33 = refl

-- `int x = 1 2 ;`: dead at token 4, `2`
row_34 : verdict (Key k.Int ∷ w 3 ∷ Sign p.Equal ∷ n ∷ n ∷ Sign p.Semicolon ∷ []) ≡ Dead 4
unfolding element_after others others_ended many gathered pieces_in completed whole climb type_or primary expression opened declarator_head declarator_of specifier parameters worded statement type_first block_item external in_place below loop
row_34 = refl

-- `int x = 'c' + 1.5 ;`
row_35 : verdict (Key k.Int ∷ w 3 ∷ Sign p.Equal ∷ c ∷ Sign p.Plus ∷ d ∷ Sign p.Semicolon ∷ []) ≡ All
unfolding element_after others others_ended many gathered pieces_in completed whole climb type_or primary expression opened declarator_head declarator_of specifier parameters worded statement type_first block_item external in_place below loop
row_35 = refl

-- `int x = a << b >> c < d <= e == f != g & h "s" ;`: dead at token 18, `"s"`
row_36 : verdict (Key k.Int ∷ w 3 ∷ Sign p.Equal ∷ w 4 ∷ Sign p.ShiftLeft ∷ w 5 ∷ Sign p.ShiftRight ∷ w 6 ∷ Sign p.Less ∷ w 7 ∷ Sign p.LessEqual ∷ w 9 ∷ Sign p.EqualEqual ∷ w 10 ∷ Sign p.NotEqual ∷ w 13 ∷ Sign p.Ampersand ∷ w 14 ∷ s ∷ Sign p.Semicolon ∷ []) ≡ Dead 18
unfolding element_after others others_ended many gathered pieces_in completed whole climb type_or primary expression opened declarator_head declarator_of specifier parameters worded statement type_first block_item external in_place below loop
row_36 = refl

-- `int x = a & b && c | d || e ;`
row_37 : verdict (Key k.Int ∷ w 3 ∷ Sign p.Equal ∷ w 4 ∷ Sign p.Ampersand ∷ w 5 ∷ Sign p.AmpersandAmpersand ∷ w 6 ∷ Sign p.Bar ∷ w 7 ∷ Sign p.BarBar ∷ w 9 ∷ Sign p.Semicolon ∷ []) ≡ All
unfolding element_after others others_ended many gathered pieces_in completed whole climb type_or primary expression opened declarator_head declarator_of specifier parameters worded statement type_first block_item external in_place below loop
row_37 = refl

-- `int x = a ++ ++ ;`
row_38 : verdict (Key k.Int ∷ w 3 ∷ Sign p.Equal ∷ w 4 ∷ Sign p.PlusPlus ∷ Sign p.PlusPlus ∷ Sign p.Semicolon ∷ []) ≡ All
unfolding element_after others others_ended many gathered pieces_in completed whole climb type_or primary expression opened declarator_head declarator_of specifier parameters worded statement type_first block_item external in_place below loop
row_38 = refl

-- `int x = a . 1 ;`: dead at token 5, `1`
row_39 : verdict (Key k.Int ∷ w 3 ∷ Sign p.Equal ∷ w 4 ∷ Sign p.Dot ∷ n ∷ Sign p.Semicolon ∷ []) ≡ Dead 5
unfolding element_after others others_ended many gathered pieces_in completed whole climb type_or primary expression opened declarator_head declarator_of specifier parameters worded statement type_first block_item external in_place below loop
row_39 = refl

-- `int x = a . T ;`
row_40 : verdict (Key k.Int ∷ w 3 ∷ Sign p.Equal ∷ w 4 ∷ Sign p.Dot ∷ w 1 ∷ Sign p.Semicolon ∷ []) ≡ All
unfolding element_after others others_ended many gathered pieces_in completed whole climb type_or primary expression opened declarator_head declarator_of specifier parameters worded statement type_first block_item external in_place below loop
row_40 = refl

-- `int x = a -> T . U ;`
row_41 : verdict (Key k.Int ∷ w 3 ∷ Sign p.Equal ∷ w 4 ∷ Sign p.Arrow ∷ w 1 ∷ Sign p.Dot ∷ w 2 ∷ Sign p.Semicolon ∷ []) ≡ All
unfolding element_after others others_ended many gathered pieces_in completed whole climb type_or primary expression opened declarator_head declarator_of specifier parameters worded statement type_first block_item external in_place below loop
row_41 = refl

-- `int x = ( a ;`: dead at token 5, `;`
row_42 : verdict (Key k.Int ∷ w 3 ∷ Sign p.Equal ∷ Sign p.LeftParen ∷ w 4 ∷ Sign p.Semicolon ∷ []) ≡ Dead 5
unfolding element_after others others_ended many gathered pieces_in completed whole climb type_or primary expression opened declarator_head declarator_of specifier parameters worded statement type_first block_item external in_place below loop
row_42 = refl

-- ---- declarators

-- `int * p ;`
row_43 : verdict (Key k.Int ∷ Sign p.Star ∷ w 8 ∷ Sign p.Semicolon ∷ []) ≡ All
unfolding element_after others others_ended many gathered pieces_in completed whole climb type_or primary expression opened declarator_head declarator_of specifier parameters worded statement type_first block_item external in_place below loop
row_43 = refl

-- `int * const volatile * p ;`
row_44 : verdict (Key k.Int ∷ Sign p.Star ∷ Key k.Const ∷ Key k.Volatile ∷ Sign p.Star ∷ w 8 ∷ Sign p.Semicolon ∷ []) ≡ All
unfolding element_after others others_ended many gathered pieces_in completed whole climb type_or primary expression opened declarator_head declarator_of specifier parameters worded statement type_first block_item external in_place below loop
row_44 = refl

-- `int * const static p ;`: dead at token 3, `static`
row_45 : verdict (Key k.Int ∷ Sign p.Star ∷ Key k.Const ∷ Key k.Static ∷ w 8 ∷ Sign p.Semicolon ∷ []) ≡ Dead 3
unfolding element_after others others_ended many gathered pieces_in completed whole climb type_or primary expression opened declarator_head declarator_of specifier parameters worded statement type_first block_item external in_place below loop
row_45 = refl

-- `int a [ 3 ] [ ] ;`
row_46 : verdict (Key k.Int ∷ w 4 ∷ Sign p.LeftBracket ∷ n ∷ Sign p.RightBracket ∷ Sign p.LeftBracket ∷ Sign p.RightBracket ∷ Sign p.Semicolon ∷ []) ≡ All
unfolding element_after others others_ended many gathered pieces_in completed whole climb type_or primary expression opened declarator_head declarator_of specifier parameters worded statement type_first block_item external in_place below loop
row_46 = refl

-- `int ( * f ) ( int , T ) ;`
row_47 : verdict (Key k.Int ∷ Sign p.LeftParen ∷ Sign p.Star ∷ w 10 ∷ Sign p.RightParen ∷ Sign p.LeftParen ∷ Key k.Int ∷ Sign p.Comma ∷ w 1 ∷ Sign p.RightParen ∷ Sign p.Semicolon ∷ []) ≡ All
unfolding element_after others others_ended many gathered pieces_in completed whole climb type_or primary expression opened declarator_head declarator_of specifier parameters worded statement type_first block_item external in_place below loop
row_47 = refl

-- `int ( * ( * f ) ( int ) ) [ 3 ] ;`
row_48 : verdict (Key k.Int ∷ Sign p.LeftParen ∷ Sign p.Star ∷ Sign p.LeftParen ∷ Sign p.Star ∷ w 10 ∷ Sign p.RightParen ∷ Sign p.LeftParen ∷ Key k.Int ∷ Sign p.RightParen ∷ Sign p.RightParen ∷ Sign p.LeftBracket ∷ n ∷ Sign p.RightBracket ∷ Sign p.Semicolon ∷ []) ≡ All
unfolding element_after others others_ended many gathered pieces_in completed whole climb type_or primary expression opened declarator_head declarator_of specifier parameters worded statement type_first block_item external in_place below loop
row_48 = refl

-- `int * a [ 2 ] , * ( b ) , c = 1 ;`
row_49 : verdict (Key k.Int ∷ Sign p.Star ∷ w 4 ∷ Sign p.LeftBracket ∷ n ∷ Sign p.RightBracket ∷ Sign p.Comma ∷ Sign p.Star ∷ Sign p.LeftParen ∷ w 5 ∷ Sign p.RightParen ∷ Sign p.Comma ∷ w 6 ∷ Sign p.Equal ∷ n ∷ Sign p.Semicolon ∷ []) ≡ All
unfolding element_after others others_ended many gathered pieces_in completed whole climb type_or primary expression opened declarator_head declarator_of specifier parameters worded statement type_first block_item external in_place below loop
row_49 = refl

-- `int ( ( ( a ) ) ) ;`
row_50 : verdict (Key k.Int ∷ Sign p.LeftParen ∷ Sign p.LeftParen ∷ Sign p.LeftParen ∷ w 4 ∷ Sign p.RightParen ∷ Sign p.RightParen ∷ Sign p.RightParen ∷ Sign p.Semicolon ∷ []) ≡ All
unfolding element_after others others_ended many gathered pieces_in completed whole climb type_or primary expression opened declarator_head declarator_of specifier parameters worded statement type_first block_item external in_place below loop
row_50 = refl

-- `int ( ) ;`: dead at token 2, `)`
row_51 : verdict (Key k.Int ∷ Sign p.LeftParen ∷ Sign p.RightParen ∷ Sign p.Semicolon ∷ []) ≡ Dead 2
unfolding element_after others others_ended many gathered pieces_in completed whole climb type_or primary expression opened declarator_head declarator_of specifier parameters worded statement type_first block_item external in_place below loop
row_51 = refl

-- `int [ 3 ] ;`: dead at token 1, `[`
row_52 : verdict (Key k.Int ∷ Sign p.LeftBracket ∷ n ∷ Sign p.RightBracket ∷ Sign p.Semicolon ∷ []) ≡ Dead 1
unfolding element_after others others_ended many gathered pieces_in completed whole climb type_or primary expression opened declarator_head declarator_of specifier parameters worded statement type_first block_item external in_place below loop
row_52 = refl

-- `int * ;`: dead at token 2, `;`
row_53 : verdict (Key k.Int ∷ Sign p.Star ∷ Sign p.Semicolon ∷ []) ≡ Dead 2
unfolding element_after others others_ended many gathered pieces_in completed whole climb type_or primary expression opened declarator_head declarator_of specifier parameters worded statement type_first block_item external in_place below loop
row_53 = refl

-- `int f ( ) , g ( void ) ;`
row_54 : verdict (Key k.Int ∷ w 10 ∷ Sign p.LeftParen ∷ Sign p.RightParen ∷ Sign p.Comma ∷ w 13 ∷ Sign p.LeftParen ∷ Key k.Void ∷ Sign p.RightParen ∷ Sign p.Semicolon ∷ []) ≡ All
unfolding element_after others others_ended many gathered pieces_in completed whole climb type_or primary expression opened declarator_head declarator_of specifier parameters worded statement type_first block_item external in_place below loop
row_54 = refl

-- `int f ( a , b , c ) ;`
row_55 : verdict (Key k.Int ∷ w 10 ∷ Sign p.LeftParen ∷ w 4 ∷ Sign p.Comma ∷ w 5 ∷ Sign p.Comma ∷ w 6 ∷ Sign p.RightParen ∷ Sign p.Semicolon ∷ []) ≡ All
unfolding element_after others others_ended many gathered pieces_in completed whole climb type_or primary expression opened declarator_head declarator_of specifier parameters worded statement type_first block_item external in_place below loop
row_55 = refl

-- `int f ( a , int b ) ;`: dead at token 5, `int`
row_56 : verdict (Key k.Int ∷ w 10 ∷ Sign p.LeftParen ∷ w 4 ∷ Sign p.Comma ∷ Key k.Int ∷ w 5 ∷ Sign p.RightParen ∷ Sign p.Semicolon ∷ []) ≡ Dead 5
unfolding element_after others others_ended many gathered pieces_in completed whole climb type_or primary expression opened declarator_head declarator_of specifier parameters worded statement type_first block_item external in_place below loop
row_56 = refl

-- `int f ( int a , b ) ;`: dead at token 6, `b`
row_57 : verdict (Key k.Int ∷ w 10 ∷ Sign p.LeftParen ∷ Key k.Int ∷ w 4 ∷ Sign p.Comma ∷ w 5 ∷ Sign p.RightParen ∷ Sign p.Semicolon ∷ []) ≡ Dead 6
unfolding element_after others others_ended many gathered pieces_in completed whole climb type_or primary expression opened declarator_head declarator_of specifier parameters worded statement type_first block_item external in_place below loop
row_57 = refl

-- `int f ( int a , ... ) ;`
row_58 : verdict (Key k.Int ∷ w 10 ∷ Sign p.LeftParen ∷ Key k.Int ∷ w 4 ∷ Sign p.Comma ∷ Sign p.Ellipsis ∷ Sign p.RightParen ∷ Sign p.Semicolon ∷ []) ≡ All
unfolding element_after others others_ended many gathered pieces_in completed whole climb type_or primary expression opened declarator_head declarator_of specifier parameters worded statement type_first block_item external in_place below loop
row_58 = refl

-- `int f ( ... ) ;`: dead at token 3, `...`
row_59 : verdict (Key k.Int ∷ w 10 ∷ Sign p.LeftParen ∷ Sign p.Ellipsis ∷ Sign p.RightParen ∷ Sign p.Semicolon ∷ []) ≡ Dead 3
unfolding element_after others others_ended many gathered pieces_in completed whole climb type_or primary expression opened declarator_head declarator_of specifier parameters worded statement type_first block_item external in_place below loop
row_59 = refl

-- `int f ( int a , ... , int b ) ;`: dead at token 7, `,`
row_60 : verdict (Key k.Int ∷ w 10 ∷ Sign p.LeftParen ∷ Key k.Int ∷ w 4 ∷ Sign p.Comma ∷ Sign p.Ellipsis ∷ Sign p.Comma ∷ Key k.Int ∷ w 5 ∷ Sign p.RightParen ∷ Sign p.Semicolon ∷ []) ≡ Dead 7
unfolding element_after others others_ended many gathered pieces_in completed whole climb type_or primary expression opened declarator_head declarator_of specifier parameters worded statement type_first block_item external in_place below loop
row_60 = refl

-- `int f ( int a , ) ;`: dead at token 6, `)`
row_61 : verdict (Key k.Int ∷ w 10 ∷ Sign p.LeftParen ∷ Key k.Int ∷ w 4 ∷ Sign p.Comma ∷ Sign p.RightParen ∷ Sign p.Semicolon ∷ []) ≡ Dead 6
unfolding element_after others others_ended many gathered pieces_in completed whole climb type_or primary expression opened declarator_head declarator_of specifier parameters worded statement type_first block_item external in_place below loop
row_61 = refl

-- `int f ( int ( * ) ( int ) , int [ ] , int ( T ) ) ;`
row_62 : verdict (Key k.Int ∷ w 10 ∷ Sign p.LeftParen ∷ Key k.Int ∷ Sign p.LeftParen ∷ Sign p.Star ∷ Sign p.RightParen ∷ Sign p.LeftParen ∷ Key k.Int ∷ Sign p.RightParen ∷ Sign p.Comma ∷ Key k.Int ∷ Sign p.LeftBracket ∷ Sign p.RightBracket ∷ Sign p.Comma ∷ Key k.Int ∷ Sign p.LeftParen ∷ w 1 ∷ Sign p.RightParen ∷ Sign p.RightParen ∷ Sign p.Semicolon ∷ []) ≡ All
unfolding element_after others others_ended many gathered pieces_in completed whole climb type_or primary expression opened declarator_head declarator_of specifier parameters worded statement type_first block_item external in_place below loop
row_62 = refl

-- `int f ( int ( a ) ) ;`: dead at token 5, `a`
row_63 : verdict (Key k.Int ∷ w 10 ∷ Sign p.LeftParen ∷ Key k.Int ∷ Sign p.LeftParen ∷ w 4 ∷ Sign p.RightParen ∷ Sign p.RightParen ∷ Sign p.Semicolon ∷ []) ≡ Dead 5
unfolding element_after others others_ended many gathered pieces_in completed whole climb type_or primary expression opened declarator_head declarator_of specifier parameters worded statement type_first block_item external in_place below loop
row_63 = refl

-- `int f ( int ( * a ) ) ;`
row_64 : verdict (Key k.Int ∷ w 10 ∷ Sign p.LeftParen ∷ Key k.Int ∷ Sign p.LeftParen ∷ Sign p.Star ∷ w 4 ∷ Sign p.RightParen ∷ Sign p.RightParen ∷ Sign p.Semicolon ∷ []) ≡ All
unfolding element_after others others_ended many gathered pieces_in completed whole climb type_or primary expression opened declarator_head declarator_of specifier parameters worded statement type_first block_item external in_place below loop
row_64 = refl

-- `int f ( int a ( int b ) ) ;`
row_65 : verdict (Key k.Int ∷ w 10 ∷ Sign p.LeftParen ∷ Key k.Int ∷ w 4 ∷ Sign p.LeftParen ∷ Key k.Int ∷ w 5 ∷ Sign p.RightParen ∷ Sign p.RightParen ∷ Sign p.Semicolon ∷ []) ≡ All
unfolding element_after others others_ended many gathered pieces_in completed whole climb type_or primary expression opened declarator_head declarator_of specifier parameters worded statement type_first block_item external in_place below loop
row_65 = refl

-- `int f ( register int a , register b ) ;`
row_66 : verdict (Key k.Int ∷ w 10 ∷ Sign p.LeftParen ∷ Key k.Register ∷ Key k.Int ∷ w 4 ∷ Sign p.Comma ∷ Key k.Register ∷ w 5 ∷ Sign p.RightParen ∷ Sign p.Semicolon ∷ []) ≡ All
unfolding element_after others others_ended many gathered pieces_in completed whole climb type_or primary expression opened declarator_head declarator_of specifier parameters worded statement type_first block_item external in_place below loop
row_66 = refl

-- `int f ( int ( ( T ) ) ) ;`
row_67 : verdict (Key k.Int ∷ w 10 ∷ Sign p.LeftParen ∷ Key k.Int ∷ Sign p.LeftParen ∷ Sign p.LeftParen ∷ w 1 ∷ Sign p.RightParen ∷ Sign p.RightParen ∷ Sign p.RightParen ∷ Sign p.Semicolon ∷ []) ≡ All
unfolding element_after others others_ended many gathered pieces_in completed whole climb type_or primary expression opened declarator_head declarator_of specifier parameters worded statement type_first block_item external in_place below loop
row_67 = refl

-- `int f ( int ( [ 3 ] ) ) ;`
row_68 : verdict (Key k.Int ∷ w 10 ∷ Sign p.LeftParen ∷ Key k.Int ∷ Sign p.LeftParen ∷ Sign p.LeftBracket ∷ n ∷ Sign p.RightBracket ∷ Sign p.RightParen ∷ Sign p.RightParen ∷ Sign p.Semicolon ∷ []) ≡ All
unfolding element_after others others_ended many gathered pieces_in completed whole climb type_or primary expression opened declarator_head declarator_of specifier parameters worded statement type_first block_item external in_place below loop
row_68 = refl

-- `int f ( T T , T a ) ;`: dead at token 6, `T`
row_69 : verdict (Key k.Int ∷ w 10 ∷ Sign p.LeftParen ∷ w 1 ∷ w 1 ∷ Sign p.Comma ∷ w 1 ∷ w 4 ∷ Sign p.RightParen ∷ Sign p.Semicolon ∷ []) ≡ Dead 6
unfolding element_after others others_ended many gathered pieces_in completed whole climb type_or primary expression opened declarator_head declarator_of specifier parameters worded statement type_first block_item external in_place below loop
row_69 = refl

-- `int f ( int T , int b [ sizeof T ] ) ;`
row_70 : verdict (Key k.Int ∷ w 10 ∷ Sign p.LeftParen ∷ Key k.Int ∷ w 1 ∷ Sign p.Comma ∷ Key k.Int ∷ w 5 ∷ Sign p.LeftBracket ∷ Key k.Sizeof ∷ w 1 ∷ Sign p.RightBracket ∷ Sign p.RightParen ∷ Sign p.Semicolon ∷ []) ≡ All
unfolding element_after others others_ended many gathered pieces_in completed whole climb type_or primary expression opened declarator_head declarator_of specifier parameters worded statement type_first block_item external in_place below loop
row_70 = refl

-- `int x , x = 1 ;`
row_71 : verdict (Key k.Int ∷ w 3 ∷ Sign p.Comma ∷ w 3 ∷ Sign p.Equal ∷ n ∷ Sign p.Semicolon ∷ []) ≡ All
unfolding element_after others others_ended many gathered pieces_in completed whole climb type_or primary expression opened declarator_head declarator_of specifier parameters worded statement type_first block_item external in_place below loop
row_71 = refl

-- `int x = { 1 , { 2 , 3 , } , } ;`
row_72 : verdict (Key k.Int ∷ w 3 ∷ Sign p.Equal ∷ Sign p.LeftBrace ∷ n ∷ Sign p.Comma ∷ Sign p.LeftBrace ∷ n ∷ Sign p.Comma ∷ n ∷ Sign p.Comma ∷ Sign p.RightBrace ∷ Sign p.Comma ∷ Sign p.RightBrace ∷ Sign p.Semicolon ∷ []) ≡ All
unfolding element_after others others_ended many gathered pieces_in completed whole climb type_or primary expression opened declarator_head declarator_of specifier parameters worded statement type_first block_item external in_place below loop
row_72 = refl

-- `int x = { } ;`: dead at token 4, `}`
row_73 : verdict (Key k.Int ∷ w 3 ∷ Sign p.Equal ∷ Sign p.LeftBrace ∷ Sign p.RightBrace ∷ Sign p.Semicolon ∷ []) ≡ Dead 4
unfolding element_after others others_ended many gathered pieces_in completed whole climb type_or primary expression opened declarator_head declarator_of specifier parameters worded statement type_first block_item external in_place below loop
row_73 = refl

-- `int x = { 1 , , } ;`: dead at token 6, `,`
row_74 : verdict (Key k.Int ∷ w 3 ∷ Sign p.Equal ∷ Sign p.LeftBrace ∷ n ∷ Sign p.Comma ∷ Sign p.Comma ∷ Sign p.RightBrace ∷ Sign p.Semicolon ∷ []) ≡ Dead 6
unfolding element_after others others_ended many gathered pieces_in completed whole climb type_or primary expression opened declarator_head declarator_of specifier parameters worded statement type_first block_item external in_place below loop
row_74 = refl

-- `int x = ;`: dead at token 3, `;`
row_75 : verdict (Key k.Int ∷ w 3 ∷ Sign p.Equal ∷ Sign p.Semicolon ∷ []) ≡ Dead 3
unfolding element_after others others_ended many gathered pieces_in completed whole climb type_or primary expression opened declarator_head declarator_of specifier parameters worded statement type_first block_item external in_place below loop
row_75 = refl

-- `int x [ 1 ] = { { 1 } , 2 } , y ;`
row_76 : verdict (Key k.Int ∷ w 3 ∷ Sign p.LeftBracket ∷ n ∷ Sign p.RightBracket ∷ Sign p.Equal ∷ Sign p.LeftBrace ∷ Sign p.LeftBrace ∷ n ∷ Sign p.RightBrace ∷ Sign p.Comma ∷ n ∷ Sign p.RightBrace ∷ Sign p.Comma ∷ w 15 ∷ Sign p.Semicolon ∷ []) ≡ All
unfolding element_after others others_ended many gathered pieces_in completed whole climb type_or primary expression opened declarator_head declarator_of specifier parameters worded statement type_first block_item external in_place below loop
row_76 = refl

-- `int ( * f ( void ) ) ( , ) ;`: dead at token 9, `,`
row_77 : verdict (Key k.Int ∷ Sign p.LeftParen ∷ Sign p.Star ∷ w 10 ∷ Sign p.LeftParen ∷ Key k.Void ∷ Sign p.RightParen ∷ Sign p.RightParen ∷ Sign p.LeftParen ∷ Sign p.Comma ∷ Sign p.RightParen ∷ Sign p.Semicolon ∷ []) ≡ Dead 9
unfolding element_after others others_ended many gathered pieces_in completed whole climb type_or primary expression opened declarator_head declarator_of specifier parameters worded statement type_first block_item external in_place below loop
row_77 = refl

-- `int ( * f ( void ) ) ( a ) ;`
row_78 : verdict (Key k.Int ∷ Sign p.LeftParen ∷ Sign p.Star ∷ w 10 ∷ Sign p.LeftParen ∷ Key k.Void ∷ Sign p.RightParen ∷ Sign p.RightParen ∷ Sign p.LeftParen ∷ w 4 ∷ Sign p.RightParen ∷ Sign p.Semicolon ∷ []) ≡ All
unfolding element_after others others_ended many gathered pieces_in completed whole climb type_or primary expression opened declarator_head declarator_of specifier parameters worded statement type_first block_item external in_place below loop
row_78 = refl

-- `int x = sizeof ( int ( * ) ( a ) ) ;`: dead at token 10, `a`
row_79 : verdict (Key k.Int ∷ w 3 ∷ Sign p.Equal ∷ Key k.Sizeof ∷ Sign p.LeftParen ∷ Key k.Int ∷ Sign p.LeftParen ∷ Sign p.Star ∷ Sign p.RightParen ∷ Sign p.LeftParen ∷ w 4 ∷ Sign p.RightParen ∷ Sign p.RightParen ∷ Sign p.Semicolon ∷ []) ≡ Dead 10
unfolding element_after others others_ended many gathered pieces_in completed whole climb type_or primary expression opened declarator_head declarator_of specifier parameters worded statement type_first block_item external in_place below loop
row_79 = refl

-- `int x = sizeof ( int ( ) ) ;`
row_80 : verdict (Key k.Int ∷ w 3 ∷ Sign p.Equal ∷ Key k.Sizeof ∷ Sign p.LeftParen ∷ Key k.Int ∷ Sign p.LeftParen ∷ Sign p.RightParen ∷ Sign p.RightParen ∷ Sign p.Semicolon ∷ []) ≡ All
unfolding element_after others others_ended many gathered pieces_in completed whole climb type_or primary expression opened declarator_head declarator_of specifier parameters worded statement type_first block_item external in_place below loop
row_80 = refl

-- `int x = sizeof ( int ( T ) [ 3 ] ) ;`
row_81 : verdict (Key k.Int ∷ w 3 ∷ Sign p.Equal ∷ Key k.Sizeof ∷ Sign p.LeftParen ∷ Key k.Int ∷ Sign p.LeftParen ∷ w 1 ∷ Sign p.RightParen ∷ Sign p.LeftBracket ∷ n ∷ Sign p.RightBracket ∷ Sign p.RightParen ∷ Sign p.Semicolon ∷ []) ≡ All
unfolding element_after others others_ended many gathered pieces_in completed whole climb type_or primary expression opened declarator_head declarator_of specifier parameters worded statement type_first block_item external in_place below loop
row_81 = refl

-- `int x = sizeof ( int * [ 3 ] ) ;`
row_82 : verdict (Key k.Int ∷ w 3 ∷ Sign p.Equal ∷ Key k.Sizeof ∷ Sign p.LeftParen ∷ Key k.Int ∷ Sign p.Star ∷ Sign p.LeftBracket ∷ n ∷ Sign p.RightBracket ∷ Sign p.RightParen ∷ Sign p.Semicolon ∷ []) ≡ All
unfolding element_after others others_ended many gathered pieces_in completed whole climb type_or primary expression opened declarator_head declarator_of specifier parameters worded statement type_first block_item external in_place below loop
row_82 = refl

-- `int x = sizeof ( int a ) ;`: dead at token 6, `a`
row_83 : verdict (Key k.Int ∷ w 3 ∷ Sign p.Equal ∷ Key k.Sizeof ∷ Sign p.LeftParen ∷ Key k.Int ∷ w 4 ∷ Sign p.RightParen ∷ Sign p.Semicolon ∷ []) ≡ Dead 6
unfolding element_after others others_ended many gathered pieces_in completed whole climb type_or primary expression opened declarator_head declarator_of specifier parameters worded statement type_first block_item external in_place below loop
row_83 = refl

-- `int x = sizeof ( int ( * a ) ) ;`: dead at token 8, `a`
row_84 : verdict (Key k.Int ∷ w 3 ∷ Sign p.Equal ∷ Key k.Sizeof ∷ Sign p.LeftParen ∷ Key k.Int ∷ Sign p.LeftParen ∷ Sign p.Star ∷ w 4 ∷ Sign p.RightParen ∷ Sign p.RightParen ∷ Sign p.Semicolon ∷ []) ≡ Dead 8
unfolding element_after others others_ended many gathered pieces_in completed whole climb type_or primary expression opened declarator_head declarator_of specifier parameters worded statement type_first block_item external in_place below loop
row_84 = refl

-- `int x = sizeof ( int ( ( ) ) ) ;`
row_85 : verdict (Key k.Int ∷ w 3 ∷ Sign p.Equal ∷ Key k.Sizeof ∷ Sign p.LeftParen ∷ Key k.Int ∷ Sign p.LeftParen ∷ Sign p.LeftParen ∷ Sign p.RightParen ∷ Sign p.RightParen ∷ Sign p.RightParen ∷ Sign p.Semicolon ∷ []) ≡ All
unfolding element_after others others_ended many gathered pieces_in completed whole climb type_or primary expression opened declarator_head declarator_of specifier parameters worded statement type_first block_item external in_place below loop
row_85 = refl

-- `int x = ( int static ) a ;`: dead at token 5, `static`
row_86 : verdict (Key k.Int ∷ w 3 ∷ Sign p.Equal ∷ Sign p.LeftParen ∷ Key k.Int ∷ Key k.Static ∷ Sign p.RightParen ∷ w 4 ∷ Sign p.Semicolon ∷ []) ≡ Dead 5
unfolding element_after others others_ended many gathered pieces_in completed whole climb type_or primary expression opened declarator_head declarator_of specifier parameters worded statement type_first block_item external in_place below loop
row_86 = refl

-- `int x = ( const ) a ;`
row_87 : verdict (Key k.Int ∷ w 3 ∷ Sign p.Equal ∷ Sign p.LeftParen ∷ Key k.Const ∷ Sign p.RightParen ∷ w 4 ∷ Sign p.Semicolon ∷ []) ≡ All
unfolding element_after others others_ended many gathered pieces_in completed whole climb type_or primary expression opened declarator_head declarator_of specifier parameters worded statement type_first block_item external in_place below loop
row_87 = refl

-- ---- specifiers

-- `unsigned long int x ;`
row_88 : verdict (Key k.Unsigned ∷ Key k.Long ∷ Key k.Int ∷ w 3 ∷ Sign p.Semicolon ∷ []) ≡ All
unfolding element_after others others_ended many gathered pieces_in completed whole climb type_or primary expression opened declarator_head declarator_of specifier parameters worded statement type_first block_item external in_place below loop
row_88 = refl

-- `static const int x ;`
row_89 : verdict (Key k.Static ∷ Key k.Const ∷ Key k.Int ∷ w 3 ∷ Sign p.Semicolon ∷ []) ≡ All
unfolding element_after others others_ended many gathered pieces_in completed whole climb type_or primary expression opened declarator_head declarator_of specifier parameters worded statement type_first block_item external in_place below loop
row_89 = refl

-- `int static x ;`
row_90 : verdict (Key k.Int ∷ Key k.Static ∷ w 3 ∷ Sign p.Semicolon ∷ []) ≡ All
unfolding element_after others others_ended many gathered pieces_in completed whole climb type_or primary expression opened declarator_head declarator_of specifier parameters worded statement type_first block_item external in_place below loop
row_90 = refl

-- `T x ;`
row_91 : verdict (w 1 ∷ w 3 ∷ Sign p.Semicolon ∷ []) ≡ All
unfolding element_after others others_ended many gathered pieces_in completed whole climb type_or primary expression opened declarator_head declarator_of specifier parameters worded statement type_first block_item external in_place below loop
row_91 = refl

-- `T int x ;`: dead at token 1, `int`
row_92 : verdict (w 1 ∷ Key k.Int ∷ w 3 ∷ Sign p.Semicolon ∷ []) ≡ Dead 1
unfolding element_after others others_ended many gathered pieces_in completed whole climb type_or primary expression opened declarator_head declarator_of specifier parameters worded statement type_first block_item external in_place below loop
row_92 = refl

-- `int T ;`
row_93 : verdict (Key k.Int ∷ w 1 ∷ Sign p.Semicolon ∷ []) ≡ All
unfolding element_after others others_ended many gathered pieces_in completed whole climb type_or primary expression opened declarator_head declarator_of specifier parameters worded statement type_first block_item external in_place below loop
row_93 = refl

-- `const T ;`
row_94 : verdict (Key k.Const ∷ w 1 ∷ Sign p.Semicolon ∷ []) ≡ All
unfolding element_after others others_ended many gathered pieces_in completed whole climb type_or primary expression opened declarator_head declarator_of specifier parameters worded statement type_first block_item external in_place below loop
row_94 = refl

-- `const T x ;`
row_95 : verdict (Key k.Const ∷ w 1 ∷ w 3 ∷ Sign p.Semicolon ∷ []) ≡ All
unfolding element_after others others_ended many gathered pieces_in completed whole climb type_or primary expression opened declarator_head declarator_of specifier parameters worded statement type_first block_item external in_place below loop
row_95 = refl

-- `const x ;`
row_96 : verdict (Key k.Const ∷ w 3 ∷ Sign p.Semicolon ∷ []) ≡ All
unfolding element_after others others_ended many gathered pieces_in completed whole climb type_or primary expression opened declarator_head declarator_of specifier parameters worded statement type_first block_item external in_place below loop
row_96 = refl

-- `const x y ;`: dead at token 2, `y`
row_97 : verdict (Key k.Const ∷ w 3 ∷ w 15 ∷ Sign p.Semicolon ∷ []) ≡ Dead 2
unfolding element_after others others_ended many gathered pieces_in completed whole climb type_or primary expression opened declarator_head declarator_of specifier parameters worded statement type_first block_item external in_place below loop
row_97 = refl

-- `x ( ) { }`
row_98 : verdict (w 3 ∷ Sign p.LeftParen ∷ Sign p.RightParen ∷ Sign p.LeftBrace ∷ Sign p.RightBrace ∷ []) ≡ All
unfolding element_after others others_ended many gathered pieces_in completed whole climb type_or primary expression opened declarator_head declarator_of specifier parameters worded statement type_first block_item external in_place below loop
row_98 = refl

-- `T T ;`
row_99 : verdict (w 1 ∷ w 1 ∷ Sign p.Semicolon ∷ []) ≡ All
unfolding element_after others others_ended many gathered pieces_in completed whole climb type_or primary expression opened declarator_head declarator_of specifier parameters worded statement type_first block_item external in_place below loop
row_99 = refl

-- `T ( T ) ;`
row_100 : verdict (w 1 ∷ Sign p.LeftParen ∷ w 1 ∷ Sign p.RightParen ∷ Sign p.Semicolon ∷ []) ≡ All
unfolding element_after others others_ended many gathered pieces_in completed whole climb type_or primary expression opened declarator_head declarator_of specifier parameters worded statement type_first block_item external in_place below loop
row_100 = refl

-- `T * T ;`
row_101 : verdict (w 1 ∷ Sign p.Star ∷ w 1 ∷ Sign p.Semicolon ∷ []) ≡ All
unfolding element_after others others_ended many gathered pieces_in completed whole climb type_or primary expression opened declarator_head declarator_of specifier parameters worded statement type_first block_item external in_place below loop
row_101 = refl

-- `int T , * U ;`
row_102 : verdict (Key k.Int ∷ w 1 ∷ Sign p.Comma ∷ Sign p.Star ∷ w 2 ∷ Sign p.Semicolon ∷ []) ≡ All
unfolding element_after others others_ended many gathered pieces_in completed whole climb type_or primary expression opened declarator_head declarator_of specifier parameters worded statement type_first block_item external in_place below loop
row_102 = refl

-- `int struct s x ;`: dead at token 1, `struct`
row_103 : verdict (Key k.Int ∷ Key k.Struct ∷ w 16 ∷ w 3 ∷ Sign p.Semicolon ∷ []) ≡ Dead 1
unfolding element_after others others_ended many gathered pieces_in completed whole climb type_or primary expression opened declarator_head declarator_of specifier parameters worded statement type_first block_item external in_place below loop
row_103 = refl

-- `struct s x ;`
row_104 : verdict (Key k.Struct ∷ w 16 ∷ w 3 ∷ Sign p.Semicolon ∷ []) ≡ All
unfolding element_after others others_ended many gathered pieces_in completed whole climb type_or primary expression opened declarator_head declarator_of specifier parameters worded statement type_first block_item external in_place below loop
row_104 = refl

-- `struct { int a ; } x ;`
row_105 : verdict (Key k.Struct ∷ Sign p.LeftBrace ∷ Key k.Int ∷ w 4 ∷ Sign p.Semicolon ∷ Sign p.RightBrace ∷ w 3 ∷ Sign p.Semicolon ∷ []) ≡ All
unfolding element_after others others_ended many gathered pieces_in completed whole climb type_or primary expression opened declarator_head declarator_of specifier parameters worded statement type_first block_item external in_place below loop
row_105 = refl

-- `struct s { int a ; int b ; } ;`
row_106 : verdict (Key k.Struct ∷ w 16 ∷ Sign p.LeftBrace ∷ Key k.Int ∷ w 4 ∷ Sign p.Semicolon ∷ Key k.Int ∷ w 5 ∷ Sign p.Semicolon ∷ Sign p.RightBrace ∷ Sign p.Semicolon ∷ []) ≡ All
unfolding element_after others others_ended many gathered pieces_in completed whole climb type_or primary expression opened declarator_head declarator_of specifier parameters worded statement type_first block_item external in_place below loop
row_106 = refl

-- `struct ;`: dead at token 1, `;`
row_107 : verdict (Key k.Struct ∷ Sign p.Semicolon ∷ []) ≡ Dead 1
unfolding element_after others others_ended many gathered pieces_in completed whole climb type_or primary expression opened declarator_head declarator_of specifier parameters worded statement type_first block_item external in_place below loop
row_107 = refl

-- `struct s { } ;`: dead at token 3, `}`
row_108 : verdict (Key k.Struct ∷ w 16 ∷ Sign p.LeftBrace ∷ Sign p.RightBrace ∷ Sign p.Semicolon ∷ []) ≡ Dead 3
unfolding element_after others others_ended many gathered pieces_in completed whole climb type_or primary expression opened declarator_head declarator_of specifier parameters worded statement type_first block_item external in_place below loop
row_108 = refl

-- `struct T { T a ; } x ;`
row_109 : verdict (Key k.Struct ∷ w 1 ∷ Sign p.LeftBrace ∷ w 1 ∷ w 4 ∷ Sign p.Semicolon ∷ Sign p.RightBrace ∷ w 3 ∷ Sign p.Semicolon ∷ []) ≡ All
unfolding element_after others others_ended many gathered pieces_in completed whole climb type_or primary expression opened declarator_head declarator_of specifier parameters worded statement type_first block_item external in_place below loop
row_109 = refl

-- `union u { int a : 3 , : 0 , * b ; T T ; } ;`
row_110 : verdict (Key k.Union ∷ w 17 ∷ Sign p.LeftBrace ∷ Key k.Int ∷ w 4 ∷ Sign p.Colon ∷ n ∷ Sign p.Comma ∷ Sign p.Colon ∷ n ∷ Sign p.Comma ∷ Sign p.Star ∷ w 5 ∷ Sign p.Semicolon ∷ w 1 ∷ w 1 ∷ Sign p.Semicolon ∷ Sign p.RightBrace ∷ Sign p.Semicolon ∷ []) ≡ All
unfolding element_after others others_ended many gathered pieces_in completed whole climb type_or primary expression opened declarator_head declarator_of specifier parameters worded statement type_first block_item external in_place below loop
row_110 = refl

-- `struct { int ; } x ;`: dead at token 3, `;`
row_111 : verdict (Key k.Struct ∷ Sign p.LeftBrace ∷ Key k.Int ∷ Sign p.Semicolon ∷ Sign p.RightBrace ∷ w 3 ∷ Sign p.Semicolon ∷ []) ≡ Dead 3
unfolding element_after others others_ended many gathered pieces_in completed whole climb type_or primary expression opened declarator_head declarator_of specifier parameters worded statement type_first block_item external in_place below loop
row_111 = refl

-- `struct { int * ; } x ;`: dead at token 4, `;`
row_112 : verdict (Key k.Struct ∷ Sign p.LeftBrace ∷ Key k.Int ∷ Sign p.Star ∷ Sign p.Semicolon ∷ Sign p.RightBrace ∷ w 3 ∷ Sign p.Semicolon ∷ []) ≡ Dead 4
unfolding element_after others others_ended many gathered pieces_in completed whole climb type_or primary expression opened declarator_head declarator_of specifier parameters worded statement type_first block_item external in_place below loop
row_112 = refl

-- `struct { int [ 3 ] ; } x ;`: dead at token 3, `[`
row_113 : verdict (Key k.Struct ∷ Sign p.LeftBrace ∷ Key k.Int ∷ Sign p.LeftBracket ∷ n ∷ Sign p.RightBracket ∷ Sign p.Semicolon ∷ Sign p.RightBrace ∷ w 3 ∷ Sign p.Semicolon ∷ []) ≡ Dead 3
unfolding element_after others others_ended many gathered pieces_in completed whole climb type_or primary expression opened declarator_head declarator_of specifier parameters worded statement type_first block_item external in_place below loop
row_113 = refl

-- `struct { static int a ; } x ;`: dead at token 2, `static`
row_114 : verdict (Key k.Struct ∷ Sign p.LeftBrace ∷ Key k.Static ∷ Key k.Int ∷ w 4 ∷ Sign p.Semicolon ∷ Sign p.RightBrace ∷ w 3 ∷ Sign p.Semicolon ∷ []) ≡ Dead 2
unfolding element_after others others_ended many gathered pieces_in completed whole climb type_or primary expression opened declarator_head declarator_of specifier parameters worded statement type_first block_item external in_place below loop
row_114 = refl

-- `struct { int ( ) ; } x ;`: dead at token 4, `)`
row_115 : verdict (Key k.Struct ∷ Sign p.LeftBrace ∷ Key k.Int ∷ Sign p.LeftParen ∷ Sign p.RightParen ∷ Sign p.Semicolon ∷ Sign p.RightBrace ∷ w 3 ∷ Sign p.Semicolon ∷ []) ≡ Dead 4
unfolding element_after others others_ended many gathered pieces_in completed whole climb type_or primary expression opened declarator_head declarator_of specifier parameters worded statement type_first block_item external in_place below loop
row_115 = refl

-- `struct { int ( a ) [ 3 ] : 2 ; } x ;`
row_116 : verdict (Key k.Struct ∷ Sign p.LeftBrace ∷ Key k.Int ∷ Sign p.LeftParen ∷ w 4 ∷ Sign p.RightParen ∷ Sign p.LeftBracket ∷ n ∷ Sign p.RightBracket ∷ Sign p.Colon ∷ n ∷ Sign p.Semicolon ∷ Sign p.RightBrace ∷ w 3 ∷ Sign p.Semicolon ∷ []) ≡ All
unfolding element_after others others_ended many gathered pieces_in completed whole climb type_or primary expression opened declarator_head declarator_of specifier parameters worded statement type_first block_item external in_place below loop
row_116 = refl

-- `struct { const T ; } x ;`: dead at token 4, `;`
row_117 : verdict (Key k.Struct ∷ Sign p.LeftBrace ∷ Key k.Const ∷ w 1 ∷ Sign p.Semicolon ∷ Sign p.RightBrace ∷ w 3 ∷ Sign p.Semicolon ∷ []) ≡ Dead 4
unfolding element_after others others_ended many gathered pieces_in completed whole climb type_or primary expression opened declarator_head declarator_of specifier parameters worded statement type_first block_item external in_place below loop
row_117 = refl

-- `struct { const T a ; T T ; T b ; } x ;`
row_118 : verdict (Key k.Struct ∷ Sign p.LeftBrace ∷ Key k.Const ∷ w 1 ∷ w 4 ∷ Sign p.Semicolon ∷ w 1 ∷ w 1 ∷ Sign p.Semicolon ∷ w 1 ∷ w 5 ∷ Sign p.Semicolon ∷ Sign p.RightBrace ∷ w 3 ∷ Sign p.Semicolon ∷ []) ≡ All
unfolding element_after others others_ended many gathered pieces_in completed whole climb type_or primary expression opened declarator_head declarator_of specifier parameters worded statement type_first block_item external in_place below loop
row_118 = refl

-- `struct { const : 3 ; } x ;`
row_119 : verdict (Key k.Struct ∷ Sign p.LeftBrace ∷ Key k.Const ∷ Sign p.Colon ∷ n ∷ Sign p.Semicolon ∷ Sign p.RightBrace ∷ w 3 ∷ Sign p.Semicolon ∷ []) ≡ All
unfolding element_after others others_ended many gathered pieces_in completed whole climb type_or primary expression opened declarator_head declarator_of specifier parameters worded statement type_first block_item external in_place below loop
row_119 = refl

-- `struct s int x ;`: dead at token 2, `int`
row_120 : verdict (Key k.Struct ∷ w 16 ∷ Key k.Int ∷ w 3 ∷ Sign p.Semicolon ∷ []) ≡ Dead 2
unfolding element_after others others_ended many gathered pieces_in completed whole climb type_or primary expression opened declarator_head declarator_of specifier parameters worded statement type_first block_item external in_place below loop
row_120 = refl

-- `int struct s x ;`: dead at token 1, `struct`
row_121 : verdict (Key k.Int ∷ Key k.Struct ∷ w 16 ∷ w 3 ∷ Sign p.Semicolon ∷ []) ≡ Dead 1
unfolding element_after others others_ended many gathered pieces_in completed whole climb type_or primary expression opened declarator_head declarator_of specifier parameters worded statement type_first block_item external in_place below loop
row_121 = refl

-- `struct s { int a ; } T x ;`: dead at token 8, `x`
row_122 : verdict (Key k.Struct ∷ w 16 ∷ Sign p.LeftBrace ∷ Key k.Int ∷ w 4 ∷ Sign p.Semicolon ∷ Sign p.RightBrace ∷ w 1 ∷ w 3 ∷ Sign p.Semicolon ∷ []) ≡ Dead 8
unfolding element_after others others_ended many gathered pieces_in completed whole climb type_or primary expression opened declarator_head declarator_of specifier parameters worded statement type_first block_item external in_place below loop
row_122 = refl

-- `struct s T ;`
row_123 : verdict (Key k.Struct ∷ w 16 ∷ w 1 ∷ Sign p.Semicolon ∷ []) ≡ All
unfolding element_after others others_ended many gathered pieces_in completed whole climb type_or primary expression opened declarator_head declarator_of specifier parameters worded statement type_first block_item external in_place below loop
row_123 = refl

-- `enum e { a , b = 1 , c = a ? 1 : 2 } x ;`
row_124 : verdict (Key k.Enum ∷ w 9 ∷ Sign p.LeftBrace ∷ w 4 ∷ Sign p.Comma ∷ w 5 ∷ Sign p.Equal ∷ n ∷ Sign p.Comma ∷ w 6 ∷ Sign p.Equal ∷ w 4 ∷ Sign p.Question ∷ n ∷ Sign p.Colon ∷ n ∷ Sign p.RightBrace ∷ w 3 ∷ Sign p.Semicolon ∷ []) ≡ All
unfolding element_after others others_ended many gathered pieces_in completed whole climb type_or primary expression opened declarator_head declarator_of specifier parameters worded statement type_first block_item external in_place below loop
row_124 = refl

-- `enum { a , } ;`: dead at token 4, `}`
row_125 : verdict (Key k.Enum ∷ Sign p.LeftBrace ∷ w 4 ∷ Sign p.Comma ∷ Sign p.RightBrace ∷ Sign p.Semicolon ∷ []) ≡ Dead 4
unfolding element_after others others_ended many gathered pieces_in completed whole climb type_or primary expression opened declarator_head declarator_of specifier parameters worded statement type_first block_item external in_place below loop
row_125 = refl

-- `enum { } ;`: dead at token 2, `}`
row_126 : verdict (Key k.Enum ∷ Sign p.LeftBrace ∷ Sign p.RightBrace ∷ Sign p.Semicolon ∷ []) ≡ Dead 2
unfolding element_after others others_ended many gathered pieces_in completed whole climb type_or primary expression opened declarator_head declarator_of specifier parameters worded statement type_first block_item external in_place below loop
row_126 = refl

-- `enum T { T } x ;`
row_127 : verdict (Key k.Enum ∷ w 1 ∷ Sign p.LeftBrace ∷ w 1 ∷ Sign p.RightBrace ∷ w 3 ∷ Sign p.Semicolon ∷ []) ≡ All
unfolding element_after others others_ended many gathered pieces_in completed whole climb type_or primary expression opened declarator_head declarator_of specifier parameters worded statement type_first block_item external in_place below loop
row_127 = refl

-- `enum { a = 1 , , } ;`: dead at token 6, `,`
row_128 : verdict (Key k.Enum ∷ Sign p.LeftBrace ∷ w 4 ∷ Sign p.Equal ∷ n ∷ Sign p.Comma ∷ Sign p.Comma ∷ Sign p.RightBrace ∷ Sign p.Semicolon ∷ []) ≡ Dead 6
unfolding element_after others others_ended many gathered pieces_in completed whole climb type_or primary expression opened declarator_head declarator_of specifier parameters worded statement type_first block_item external in_place below loop
row_128 = refl

-- `enum e e2 e3 ;`: dead at token 3, `e3`
row_129 : verdict (Key k.Enum ∷ w 9 ∷ w 18 ∷ w 19 ∷ Sign p.Semicolon ∷ []) ≡ Dead 3
unfolding element_after others others_ended many gathered pieces_in completed whole climb type_or primary expression opened declarator_head declarator_of specifier parameters worded statement type_first block_item external in_place below loop
row_129 = refl

-- `struct s { struct t { int a ; } b ; enum { c } d ; } * x ;`
row_130 : verdict (Key k.Struct ∷ w 16 ∷ Sign p.LeftBrace ∷ Key k.Struct ∷ w 20 ∷ Sign p.LeftBrace ∷ Key k.Int ∷ w 4 ∷ Sign p.Semicolon ∷ Sign p.RightBrace ∷ w 5 ∷ Sign p.Semicolon ∷ Key k.Enum ∷ Sign p.LeftBrace ∷ w 6 ∷ Sign p.RightBrace ∷ w 7 ∷ Sign p.Semicolon ∷ Sign p.RightBrace ∷ Sign p.Star ∷ w 3 ∷ Sign p.Semicolon ∷ []) ≡ All
unfolding element_after others others_ended many gathered pieces_in completed whole climb type_or primary expression opened declarator_head declarator_of specifier parameters worded statement type_first block_item external in_place below loop
row_130 = refl

-- `int ;`
row_131 : verdict (Key k.Int ∷ Sign p.Semicolon ∷ []) ≡ All
unfolding element_after others others_ended many gathered pieces_in completed whole climb type_or primary expression opened declarator_head declarator_of specifier parameters worded statement type_first block_item external in_place below loop
row_131 = refl

-- `typedef int V ;`
row_132 : verdict (Key k.Typedef ∷ Key k.Int ∷ w 21 ∷ Sign p.Semicolon ∷ []) ≡ All
unfolding element_after others others_ended many gathered pieces_in completed whole climb type_or primary expression opened declarator_head declarator_of specifier parameters worded statement type_first block_item external in_place below loop
row_132 = refl

-- `typedef V ;`
row_133 : verdict (Key k.Typedef ∷ w 21 ∷ Sign p.Semicolon ∷ []) ≡ All
unfolding element_after others others_ended many gathered pieces_in completed whole climb type_or primary expression opened declarator_head declarator_of specifier parameters worded statement type_first block_item external in_place below loop
row_133 = refl

-- `typedef ;`
row_134 : verdict (Key k.Typedef ∷ Sign p.Semicolon ∷ []) ≡ All
unfolding element_after others others_ended many gathered pieces_in completed whole climb type_or primary expression opened declarator_head declarator_of specifier parameters worded statement type_first block_item external in_place below loop
row_134 = refl

-- `int x = sizeof ( enum { T } ) T ;`: dead at token 10, `T`
row_135 : verdict (Key k.Int ∷ w 3 ∷ Sign p.Equal ∷ Key k.Sizeof ∷ Sign p.LeftParen ∷ Key k.Enum ∷ Sign p.LeftBrace ∷ w 1 ∷ Sign p.RightBrace ∷ Sign p.RightParen ∷ w 1 ∷ Sign p.Semicolon ∷ []) ≡ Dead 10
unfolding element_after others others_ended many gathered pieces_in completed whole climb type_or primary expression opened declarator_head declarator_of specifier parameters worded statement type_first block_item external in_place below loop
row_135 = refl

-- ---- functions

-- `int f ( void ) { return 0 ; }`
row_136 : verdict (Key k.Int ∷ w 10 ∷ Sign p.LeftParen ∷ Key k.Void ∷ Sign p.RightParen ∷ Sign p.LeftBrace ∷ Key k.Return ∷ n ∷ Sign p.Semicolon ∷ Sign p.RightBrace ∷ []) ≡ All
unfolding element_after others others_ended many gathered pieces_in completed whole climb type_or primary expression opened declarator_head declarator_of specifier parameters worded statement type_first block_item external in_place below loop
row_136 = refl

-- `f ( ) { }`
row_137 : verdict (w 10 ∷ Sign p.LeftParen ∷ Sign p.RightParen ∷ Sign p.LeftBrace ∷ Sign p.RightBrace ∷ []) ≡ All
unfolding element_after others others_ended many gathered pieces_in completed whole climb type_or primary expression opened declarator_head declarator_of specifier parameters worded statement type_first block_item external in_place below loop
row_137 = refl

-- `* f ( ) { }`
row_138 : verdict (Sign p.Star ∷ w 10 ∷ Sign p.LeftParen ∷ Sign p.RightParen ∷ Sign p.LeftBrace ∷ Sign p.RightBrace ∷ []) ≡ All
unfolding element_after others others_ended many gathered pieces_in completed whole climb type_or primary expression opened declarator_head declarator_of specifier parameters worded statement type_first block_item external in_place below loop
row_138 = refl

-- `* ( * f ( ) ) ( ) { }`
row_139 : verdict (Sign p.Star ∷ Sign p.LeftParen ∷ Sign p.Star ∷ w 10 ∷ Sign p.LeftParen ∷ Sign p.RightParen ∷ Sign p.RightParen ∷ Sign p.LeftParen ∷ Sign p.RightParen ∷ Sign p.LeftBrace ∷ Sign p.RightBrace ∷ []) ≡ All
unfolding element_after others others_ended many gathered pieces_in completed whole climb type_or primary expression opened declarator_head declarator_of specifier parameters worded statement type_first block_item external in_place below loop
row_139 = refl

-- `( f ) ( ) { }`
row_140 : verdict (Sign p.LeftParen ∷ w 10 ∷ Sign p.RightParen ∷ Sign p.LeftParen ∷ Sign p.RightParen ∷ Sign p.LeftBrace ∷ Sign p.RightBrace ∷ []) ≡ All
unfolding element_after others others_ended many gathered pieces_in completed whole climb type_or primary expression opened declarator_head declarator_of specifier parameters worded statement type_first block_item external in_place below loop
row_140 = refl

-- `f ;`: dead at token 1, `;`
row_141 : verdict (w 10 ∷ Sign p.Semicolon ∷ []) ≡ Dead 1
unfolding element_after others others_ended many gathered pieces_in completed whole climb type_or primary expression opened declarator_head declarator_of specifier parameters worded statement type_first block_item external in_place below loop
row_141 = refl

-- `f , g ;`: dead at token 1, `,`
row_142 : verdict (w 10 ∷ Sign p.Comma ∷ w 13 ∷ Sign p.Semicolon ∷ []) ≡ Dead 1
unfolding element_after others others_ended many gathered pieces_in completed whole climb type_or primary expression opened declarator_head declarator_of specifier parameters worded statement type_first block_item external in_place below loop
row_142 = refl

-- `f [ 3 ] ;`: dead at token 1, `[`
row_143 : verdict (w 10 ∷ Sign p.LeftBracket ∷ n ∷ Sign p.RightBracket ∷ Sign p.Semicolon ∷ []) ≡ Dead 1
unfolding element_after others others_ended many gathered pieces_in completed whole climb type_or primary expression opened declarator_head declarator_of specifier parameters worded statement type_first block_item external in_place below loop
row_143 = refl

-- `f = 1 ;`: dead at token 1, `=`
row_144 : verdict (w 10 ∷ Sign p.Equal ∷ n ∷ Sign p.Semicolon ∷ []) ≡ Dead 1
unfolding element_after others others_ended many gathered pieces_in completed whole climb type_or primary expression opened declarator_head declarator_of specifier parameters worded statement type_first block_item external in_place below loop
row_144 = refl

-- `( * f ) ( ) { }`: dead at token 3, `)`
row_145 : verdict (Sign p.LeftParen ∷ Sign p.Star ∷ w 10 ∷ Sign p.RightParen ∷ Sign p.LeftParen ∷ Sign p.RightParen ∷ Sign p.LeftBrace ∷ Sign p.RightBrace ∷ []) ≡ Dead 3
unfolding element_after others others_ended many gathered pieces_in completed whole climb type_or primary expression opened declarator_head declarator_of specifier parameters worded statement type_first block_item external in_place below loop
row_145 = refl

-- `* f ;`: dead at token 2, `;`
row_146 : verdict (Sign p.Star ∷ w 10 ∷ Sign p.Semicolon ∷ []) ≡ Dead 2
unfolding element_after others others_ended many gathered pieces_in completed whole climb type_or primary expression opened declarator_head declarator_of specifier parameters worded statement type_first block_item external in_place below loop
row_146 = refl

-- `f ( ) ;`: dead at token 3, `;`
row_147 : verdict (w 10 ∷ Sign p.LeftParen ∷ Sign p.RightParen ∷ Sign p.Semicolon ∷ []) ≡ Dead 3
unfolding element_after others others_ended many gathered pieces_in completed whole climb type_or primary expression opened declarator_head declarator_of specifier parameters worded statement type_first block_item external in_place below loop
row_147 = refl

-- `f ( ) , g ;`: dead at token 3, `,`
row_148 : verdict (w 10 ∷ Sign p.LeftParen ∷ Sign p.RightParen ∷ Sign p.Comma ∷ w 13 ∷ Sign p.Semicolon ∷ []) ≡ Dead 3
unfolding element_after others others_ended many gathered pieces_in completed whole climb type_or primary expression opened declarator_head declarator_of specifier parameters worded statement type_first block_item external in_place below loop
row_148 = refl

-- `f ( a , b ) int a ; char * b ; { }`
row_149 : verdict (w 10 ∷ Sign p.LeftParen ∷ w 4 ∷ Sign p.Comma ∷ w 5 ∷ Sign p.RightParen ∷ Key k.Int ∷ w 4 ∷ Sign p.Semicolon ∷ Key k.Char ∷ Sign p.Star ∷ w 5 ∷ Sign p.Semicolon ∷ Sign p.LeftBrace ∷ Sign p.RightBrace ∷ []) ≡ All
unfolding element_after others others_ended many gathered pieces_in completed whole climb type_or primary expression opened declarator_head declarator_of specifier parameters worded statement type_first block_item external in_place below loop
row_149 = refl

-- `f ( a ) T a ; { }`
row_150 : verdict (w 10 ∷ Sign p.LeftParen ∷ w 4 ∷ Sign p.RightParen ∷ w 1 ∷ w 4 ∷ Sign p.Semicolon ∷ Sign p.LeftBrace ∷ Sign p.RightBrace ∷ []) ≡ All
unfolding element_after others others_ended many gathered pieces_in completed whole climb type_or primary expression opened declarator_head declarator_of specifier parameters worded statement type_first block_item external in_place below loop
row_150 = refl

-- `int f ( a ) T a ; { }`
row_151 : verdict (Key k.Int ∷ w 10 ∷ Sign p.LeftParen ∷ w 4 ∷ Sign p.RightParen ∷ w 1 ∷ w 4 ∷ Sign p.Semicolon ∷ Sign p.LeftBrace ∷ Sign p.RightBrace ∷ []) ≡ All
unfolding element_after others others_ended many gathered pieces_in completed whole climb type_or primary expression opened declarator_head declarator_of specifier parameters worded statement type_first block_item external in_place below loop
row_151 = refl

-- `int f ( int T ) T a ; { }`: dead at token 6, `T`
row_152 : verdict (Key k.Int ∷ w 10 ∷ Sign p.LeftParen ∷ Key k.Int ∷ w 1 ∷ Sign p.RightParen ∷ w 1 ∷ w 4 ∷ Sign p.Semicolon ∷ Sign p.LeftBrace ∷ Sign p.RightBrace ∷ []) ≡ Dead 6
unfolding element_after others others_ended many gathered pieces_in completed whole climb type_or primary expression opened declarator_head declarator_of specifier parameters worded statement type_first block_item external in_place below loop
row_152 = refl

-- `int f ( int a ) int b ; { a = b ; }`
row_153 : verdict (Key k.Int ∷ w 10 ∷ Sign p.LeftParen ∷ Key k.Int ∷ w 4 ∷ Sign p.RightParen ∷ Key k.Int ∷ w 5 ∷ Sign p.Semicolon ∷ Sign p.LeftBrace ∷ w 4 ∷ Sign p.Equal ∷ w 5 ∷ Sign p.Semicolon ∷ Sign p.RightBrace ∷ []) ≡ All
unfolding element_after others others_ended many gathered pieces_in completed whole climb type_or primary expression opened declarator_head declarator_of specifier parameters worded statement type_first block_item external in_place below loop
row_153 = refl

-- `int f ( ) [ 3 ] { }`
row_154 : verdict (Key k.Int ∷ w 10 ∷ Sign p.LeftParen ∷ Sign p.RightParen ∷ Sign p.LeftBracket ∷ n ∷ Sign p.RightBracket ∷ Sign p.LeftBrace ∷ Sign p.RightBrace ∷ []) ≡ All
unfolding element_after others others_ended many gathered pieces_in completed whole climb type_or primary expression opened declarator_head declarator_of specifier parameters worded statement type_first block_item external in_place below loop
row_154 = refl

-- `int x { }`: dead at token 2, `{`
row_155 : verdict (Key k.Int ∷ w 3 ∷ Sign p.LeftBrace ∷ Sign p.RightBrace ∷ []) ≡ Dead 2
unfolding element_after others others_ended many gathered pieces_in completed whole climb type_or primary expression opened declarator_head declarator_of specifier parameters worded statement type_first block_item external in_place below loop
row_155 = refl

-- `int * x { }`: dead at token 3, `{`
row_156 : verdict (Key k.Int ∷ Sign p.Star ∷ w 3 ∷ Sign p.LeftBrace ∷ Sign p.RightBrace ∷ []) ≡ Dead 3
unfolding element_after others others_ended many gathered pieces_in completed whole climb type_or primary expression opened declarator_head declarator_of specifier parameters worded statement type_first block_item external in_place below loop
row_156 = refl

-- `int ( * f ) ( ) { }`: dead at token 7, `{`
row_157 : verdict (Key k.Int ∷ Sign p.LeftParen ∷ Sign p.Star ∷ w 10 ∷ Sign p.RightParen ∷ Sign p.LeftParen ∷ Sign p.RightParen ∷ Sign p.LeftBrace ∷ Sign p.RightBrace ∷ []) ≡ Dead 7
unfolding element_after others others_ended many gathered pieces_in completed whole climb type_or primary expression opened declarator_head declarator_of specifier parameters worded statement type_first block_item external in_place below loop
row_157 = refl

-- `int ( * f ( int a ) ) ( int T ) { T * b ; }`
row_158 : verdict (Key k.Int ∷ Sign p.LeftParen ∷ Sign p.Star ∷ w 10 ∷ Sign p.LeftParen ∷ Key k.Int ∷ w 4 ∷ Sign p.RightParen ∷ Sign p.RightParen ∷ Sign p.LeftParen ∷ Key k.Int ∷ w 1 ∷ Sign p.RightParen ∷ Sign p.LeftBrace ∷ w 1 ∷ Sign p.Star ∷ w 5 ∷ Sign p.Semicolon ∷ Sign p.RightBrace ∷ []) ≡ All
unfolding element_after others others_ended many gathered pieces_in completed whole climb type_or primary expression opened declarator_head declarator_of specifier parameters worded statement type_first block_item external in_place below loop
row_158 = refl

-- `int ( * f ( int T ) ) ( int b ) { T * b ; }`
row_159 : verdict (Key k.Int ∷ Sign p.LeftParen ∷ Sign p.Star ∷ w 10 ∷ Sign p.LeftParen ∷ Key k.Int ∷ w 1 ∷ Sign p.RightParen ∷ Sign p.RightParen ∷ Sign p.LeftParen ∷ Key k.Int ∷ w 5 ∷ Sign p.RightParen ∷ Sign p.LeftBrace ∷ w 1 ∷ Sign p.Star ∷ w 5 ∷ Sign p.Semicolon ∷ Sign p.RightBrace ∷ []) ≡ All
unfolding element_after others others_ended many gathered pieces_in completed whole climb type_or primary expression opened declarator_head declarator_of specifier parameters worded statement type_first block_item external in_place below loop
row_159 = refl

-- `int f ( T ) a { }`: dead at token 5, `a`
row_160 : verdict (Key k.Int ∷ w 10 ∷ Sign p.LeftParen ∷ w 1 ∷ Sign p.RightParen ∷ w 4 ∷ Sign p.LeftBrace ∷ Sign p.RightBrace ∷ []) ≡ Dead 5
unfolding element_after others others_ended many gathered pieces_in completed whole climb type_or primary expression opened declarator_head declarator_of specifier parameters worded statement type_first block_item external in_place below loop
row_160 = refl

-- `typedef int f ( void ) { }`
row_161 : verdict (Key k.Typedef ∷ Key k.Int ∷ w 10 ∷ Sign p.LeftParen ∷ Key k.Void ∷ Sign p.RightParen ∷ Sign p.LeftBrace ∷ Sign p.RightBrace ∷ []) ≡ All
unfolding element_after others others_ended many gathered pieces_in completed whole climb type_or primary expression opened declarator_head declarator_of specifier parameters worded statement type_first block_item external in_place below loop
row_161 = refl

-- `int f ( void ) { T x ; x = 1 ; }`
row_162 : verdict (Key k.Int ∷ w 10 ∷ Sign p.LeftParen ∷ Key k.Void ∷ Sign p.RightParen ∷ Sign p.LeftBrace ∷ w 1 ∷ w 3 ∷ Sign p.Semicolon ∷ w 3 ∷ Sign p.Equal ∷ n ∷ Sign p.Semicolon ∷ Sign p.RightBrace ∷ []) ≡ All
unfolding element_after others others_ended many gathered pieces_in completed whole climb type_or primary expression opened declarator_head declarator_of specifier parameters worded statement type_first block_item external in_place below loop
row_162 = refl

-- `int f ( void ) { int T ; T = 1 ; }`
row_163 : verdict (Key k.Int ∷ w 10 ∷ Sign p.LeftParen ∷ Key k.Void ∷ Sign p.RightParen ∷ Sign p.LeftBrace ∷ Key k.Int ∷ w 1 ∷ Sign p.Semicolon ∷ w 1 ∷ Sign p.Equal ∷ n ∷ Sign p.Semicolon ∷ Sign p.RightBrace ∷ []) ≡ All
unfolding element_after others others_ended many gathered pieces_in completed whole climb type_or primary expression opened declarator_head declarator_of specifier parameters worded statement type_first block_item external in_place below loop
row_163 = refl

-- `int f ( void ) { { int T ; } T x ; }`: dead at token 12, `x`
row_164 : verdict (Key k.Int ∷ w 10 ∷ Sign p.LeftParen ∷ Key k.Void ∷ Sign p.RightParen ∷ Sign p.LeftBrace ∷ Sign p.LeftBrace ∷ Key k.Int ∷ w 1 ∷ Sign p.Semicolon ∷ Sign p.RightBrace ∷ w 1 ∷ w 3 ∷ Sign p.Semicolon ∷ Sign p.RightBrace ∷ []) ≡ Dead 12
unfolding element_after others others_ended many gathered pieces_in completed whole climb type_or primary expression opened declarator_head declarator_of specifier parameters worded statement type_first block_item external in_place below loop
row_164 = refl

-- `int f ( void ) { x = 1 ; int y ; }`: dead at token 10, `int`
row_165 : verdict (Key k.Int ∷ w 10 ∷ Sign p.LeftParen ∷ Key k.Void ∷ Sign p.RightParen ∷ Sign p.LeftBrace ∷ w 3 ∷ Sign p.Equal ∷ n ∷ Sign p.Semicolon ∷ Key k.Int ∷ w 15 ∷ Sign p.Semicolon ∷ Sign p.RightBrace ∷ []) ≡ Dead 10
unfolding element_after others others_ended many gathered pieces_in completed whole climb type_or primary expression opened declarator_head declarator_of specifier parameters worded statement type_first block_item external in_place below loop
row_165 = refl

-- `int f ( void ) { ; T x ; }`: dead at token 8, `x`
row_166 : verdict (Key k.Int ∷ w 10 ∷ Sign p.LeftParen ∷ Key k.Void ∷ Sign p.RightParen ∷ Sign p.LeftBrace ∷ Sign p.Semicolon ∷ w 1 ∷ w 3 ∷ Sign p.Semicolon ∷ Sign p.RightBrace ∷ []) ≡ Dead 8
unfolding element_after others others_ended many gathered pieces_in completed whole climb type_or primary expression opened declarator_head declarator_of specifier parameters worded statement type_first block_item external in_place below loop
row_166 = refl

-- `int f ( void ) { T : x = 1 ; }`
row_167 : verdict (Key k.Int ∷ w 10 ∷ Sign p.LeftParen ∷ Key k.Void ∷ Sign p.RightParen ∷ Sign p.LeftBrace ∷ w 1 ∷ Sign p.Colon ∷ w 3 ∷ Sign p.Equal ∷ n ∷ Sign p.Semicolon ∷ Sign p.RightBrace ∷ []) ≡ All
unfolding element_after others others_ended many gathered pieces_in completed whole climb type_or primary expression opened declarator_head declarator_of specifier parameters worded statement type_first block_item external in_place below loop
row_167 = refl

-- `int f ( void ) { T : T x ; }`: dead at token 9, `x`
row_168 : verdict (Key k.Int ∷ w 10 ∷ Sign p.LeftParen ∷ Key k.Void ∷ Sign p.RightParen ∷ Sign p.LeftBrace ∷ w 1 ∷ Sign p.Colon ∷ w 1 ∷ w 3 ∷ Sign p.Semicolon ∷ Sign p.RightBrace ∷ []) ≡ Dead 9
unfolding element_after others others_ended many gathered pieces_in completed whole climb type_or primary expression opened declarator_head declarator_of specifier parameters worded statement type_first block_item external in_place below loop
row_168 = refl

-- `int f ( void ) { ; T : ; { T x ; } }`
row_169 : verdict (Key k.Int ∷ w 10 ∷ Sign p.LeftParen ∷ Key k.Void ∷ Sign p.RightParen ∷ Sign p.LeftBrace ∷ Sign p.Semicolon ∷ w 1 ∷ Sign p.Colon ∷ Sign p.Semicolon ∷ Sign p.LeftBrace ∷ w 1 ∷ w 3 ∷ Sign p.Semicolon ∷ Sign p.RightBrace ∷ Sign p.RightBrace ∷ []) ≡ All
unfolding element_after others others_ended many gathered pieces_in completed whole climb type_or primary expression opened declarator_head declarator_of specifier parameters worded statement type_first block_item external in_place below loop
row_169 = refl

-- `int f ( void ) { if ( a ) if ( b ) ; else ; else ; }`
row_170 : verdict (Key k.Int ∷ w 10 ∷ Sign p.LeftParen ∷ Key k.Void ∷ Sign p.RightParen ∷ Sign p.LeftBrace ∷ Key k.If ∷ Sign p.LeftParen ∷ w 4 ∷ Sign p.RightParen ∷ Key k.If ∷ Sign p.LeftParen ∷ w 5 ∷ Sign p.RightParen ∷ Sign p.Semicolon ∷ Key k.Else ∷ Sign p.Semicolon ∷ Key k.Else ∷ Sign p.Semicolon ∷ Sign p.RightBrace ∷ []) ≡ All
unfolding element_after others others_ended many gathered pieces_in completed whole climb type_or primary expression opened declarator_head declarator_of specifier parameters worded statement type_first block_item external in_place below loop
row_170 = refl

-- `int f ( void ) { if ( a ) ; else ; else ; }`: dead at token 13, `else`
row_171 : verdict (Key k.Int ∷ w 10 ∷ Sign p.LeftParen ∷ Key k.Void ∷ Sign p.RightParen ∷ Sign p.LeftBrace ∷ Key k.If ∷ Sign p.LeftParen ∷ w 4 ∷ Sign p.RightParen ∷ Sign p.Semicolon ∷ Key k.Else ∷ Sign p.Semicolon ∷ Key k.Else ∷ Sign p.Semicolon ∷ Sign p.RightBrace ∷ []) ≡ Dead 13
unfolding element_after others others_ended many gathered pieces_in completed whole climb type_or primary expression opened declarator_head declarator_of specifier parameters worded statement type_first block_item external in_place below loop
row_171 = refl

-- `int f ( void ) { if ( ) ; }`: dead at token 8, `)`
row_172 : verdict (Key k.Int ∷ w 10 ∷ Sign p.LeftParen ∷ Key k.Void ∷ Sign p.RightParen ∷ Sign p.LeftBrace ∷ Key k.If ∷ Sign p.LeftParen ∷ Sign p.RightParen ∷ Sign p.Semicolon ∷ Sign p.RightBrace ∷ []) ≡ Dead 8
unfolding element_after others others_ended many gathered pieces_in completed whole climb type_or primary expression opened declarator_head declarator_of specifier parameters worded statement type_first block_item external in_place below loop
row_172 = refl

-- `int f ( void ) { while ( a ) do ; while ( b ) ; }`
row_173 : verdict (Key k.Int ∷ w 10 ∷ Sign p.LeftParen ∷ Key k.Void ∷ Sign p.RightParen ∷ Sign p.LeftBrace ∷ Key k.While ∷ Sign p.LeftParen ∷ w 4 ∷ Sign p.RightParen ∷ Key k.Do ∷ Sign p.Semicolon ∷ Key k.While ∷ Sign p.LeftParen ∷ w 5 ∷ Sign p.RightParen ∷ Sign p.Semicolon ∷ Sign p.RightBrace ∷ []) ≡ All
unfolding element_after others others_ended many gathered pieces_in completed whole climb type_or primary expression opened declarator_head declarator_of specifier parameters worded statement type_first block_item external in_place below loop
row_173 = refl

-- `int f ( void ) { do ; while ( a ) } }`: dead at token 12, `}`
row_174 : verdict (Key k.Int ∷ w 10 ∷ Sign p.LeftParen ∷ Key k.Void ∷ Sign p.RightParen ∷ Sign p.LeftBrace ∷ Key k.Do ∷ Sign p.Semicolon ∷ Key k.While ∷ Sign p.LeftParen ∷ w 4 ∷ Sign p.RightParen ∷ Sign p.RightBrace ∷ Sign p.RightBrace ∷ []) ≡ Dead 12
unfolding element_after others others_ended many gathered pieces_in completed whole climb type_or primary expression opened declarator_head declarator_of specifier parameters worded statement type_first block_item external in_place below loop
row_174 = refl

-- `int f ( void ) { for ( ; ; ) for ( a ; b ; c ) continue ; }`
row_175 : verdict (Key k.Int ∷ w 10 ∷ Sign p.LeftParen ∷ Key k.Void ∷ Sign p.RightParen ∷ Sign p.LeftBrace ∷ Key k.For ∷ Sign p.LeftParen ∷ Sign p.Semicolon ∷ Sign p.Semicolon ∷ Sign p.RightParen ∷ Key k.For ∷ Sign p.LeftParen ∷ w 4 ∷ Sign p.Semicolon ∷ w 5 ∷ Sign p.Semicolon ∷ w 6 ∷ Sign p.RightParen ∷ Key k.Continue ∷ Sign p.Semicolon ∷ Sign p.RightBrace ∷ []) ≡ All
unfolding element_after others others_ended many gathered pieces_in completed whole climb type_or primary expression opened declarator_head declarator_of specifier parameters worded statement type_first block_item external in_place below loop
row_175 = refl

-- `int f ( void ) { for ( a ; b ) ; }`: dead at token 11, `)`
row_176 : verdict (Key k.Int ∷ w 10 ∷ Sign p.LeftParen ∷ Key k.Void ∷ Sign p.RightParen ∷ Sign p.LeftBrace ∷ Key k.For ∷ Sign p.LeftParen ∷ w 4 ∷ Sign p.Semicolon ∷ w 5 ∷ Sign p.RightParen ∷ Sign p.Semicolon ∷ Sign p.RightBrace ∷ []) ≡ Dead 11
unfolding element_after others others_ended many gathered pieces_in completed whole climb type_or primary expression opened declarator_head declarator_of specifier parameters worded statement type_first block_item external in_place below loop
row_176 = refl

-- `int f ( void ) { switch ( a ) { case 1 : case 2 + 3 : ; default : break ; } }`
row_177 : verdict (Key k.Int ∷ w 10 ∷ Sign p.LeftParen ∷ Key k.Void ∷ Sign p.RightParen ∷ Sign p.LeftBrace ∷ Key k.Switch ∷ Sign p.LeftParen ∷ w 4 ∷ Sign p.RightParen ∷ Sign p.LeftBrace ∷ Key k.Case ∷ n ∷ Sign p.Colon ∷ Key k.Case ∷ n ∷ Sign p.Plus ∷ n ∷ Sign p.Colon ∷ Sign p.Semicolon ∷ Key k.Default ∷ Sign p.Colon ∷ Key k.Break ∷ Sign p.Semicolon ∷ Sign p.RightBrace ∷ Sign p.RightBrace ∷ []) ≡ All
unfolding element_after others others_ended many gathered pieces_in completed whole climb type_or primary expression opened declarator_head declarator_of specifier parameters worded statement type_first block_item external in_place below loop
row_177 = refl

-- `int f ( void ) { case 1 , 2 : ; }`: dead at token 8, `,`
row_178 : verdict (Key k.Int ∷ w 10 ∷ Sign p.LeftParen ∷ Key k.Void ∷ Sign p.RightParen ∷ Sign p.LeftBrace ∷ Key k.Case ∷ n ∷ Sign p.Comma ∷ n ∷ Sign p.Colon ∷ Sign p.Semicolon ∷ Sign p.RightBrace ∷ []) ≡ Dead 8
unfolding element_after others others_ended many gathered pieces_in completed whole climb type_or primary expression opened declarator_head declarator_of specifier parameters worded statement type_first block_item external in_place below loop
row_178 = refl

-- `int f ( void ) { goto T ; goto 1 ; }`: dead at token 10, `1`
row_179 : verdict (Key k.Int ∷ w 10 ∷ Sign p.LeftParen ∷ Key k.Void ∷ Sign p.RightParen ∷ Sign p.LeftBrace ∷ Key k.Goto ∷ w 1 ∷ Sign p.Semicolon ∷ Key k.Goto ∷ n ∷ Sign p.Semicolon ∷ Sign p.RightBrace ∷ []) ≡ Dead 10
unfolding element_after others others_ended many gathered pieces_in completed whole climb type_or primary expression opened declarator_head declarator_of specifier parameters worded statement type_first block_item external in_place below loop
row_179 = refl

-- `int f ( void ) { return ; return a , b ; }`
row_180 : verdict (Key k.Int ∷ w 10 ∷ Sign p.LeftParen ∷ Key k.Void ∷ Sign p.RightParen ∷ Sign p.LeftBrace ∷ Key k.Return ∷ Sign p.Semicolon ∷ Key k.Return ∷ w 4 ∷ Sign p.Comma ∷ w 5 ∷ Sign p.Semicolon ∷ Sign p.RightBrace ∷ []) ≡ All
unfolding element_after others others_ended many gathered pieces_in completed whole climb type_or primary expression opened declarator_head declarator_of specifier parameters worded statement type_first block_item external in_place below loop
row_180 = refl

-- `int f ( void ) { a : b : ; }`
row_181 : verdict (Key k.Int ∷ w 10 ∷ Sign p.LeftParen ∷ Key k.Void ∷ Sign p.RightParen ∷ Sign p.LeftBrace ∷ w 4 ∷ Sign p.Colon ∷ w 5 ∷ Sign p.Colon ∷ Sign p.Semicolon ∷ Sign p.RightBrace ∷ []) ≡ All
unfolding element_after others others_ended many gathered pieces_in completed whole climb type_or primary expression opened declarator_head declarator_of specifier parameters worded statement type_first block_item external in_place below loop
row_181 = refl

-- `int f ( void ) { a : }`: dead at token 8, `}`
row_182 : verdict (Key k.Int ∷ w 10 ∷ Sign p.LeftParen ∷ Key k.Void ∷ Sign p.RightParen ∷ Sign p.LeftBrace ∷ w 4 ∷ Sign p.Colon ∷ Sign p.RightBrace ∷ []) ≡ Dead 8
unfolding element_after others others_ended many gathered pieces_in completed whole climb type_or primary expression opened declarator_head declarator_of specifier parameters worded statement type_first block_item external in_place below loop
row_182 = refl

-- `int f ( void ) { a ? b : c ; }`
row_183 : verdict (Key k.Int ∷ w 10 ∷ Sign p.LeftParen ∷ Key k.Void ∷ Sign p.RightParen ∷ Sign p.LeftBrace ∷ w 4 ∷ Sign p.Question ∷ w 5 ∷ Sign p.Colon ∷ w 6 ∷ Sign p.Semicolon ∷ Sign p.RightBrace ∷ []) ≡ All
unfolding element_after others others_ended many gathered pieces_in completed whole climb type_or primary expression opened declarator_head declarator_of specifier parameters worded statement type_first block_item external in_place below loop
row_183 = refl

-- `int f ( void ) { a b ; }`: dead at token 7, `b`
row_184 : verdict (Key k.Int ∷ w 10 ∷ Sign p.LeftParen ∷ Key k.Void ∷ Sign p.RightParen ∷ Sign p.LeftBrace ∷ w 4 ∷ w 5 ∷ Sign p.Semicolon ∷ Sign p.RightBrace ∷ []) ≡ Dead 7
unfolding element_after others others_ended many gathered pieces_in completed whole climb type_or primary expression opened declarator_head declarator_of specifier parameters worded statement type_first block_item external in_place below loop
row_184 = refl

-- `int f ( void ) { T * a ; a * b ; }`
row_185 : verdict (Key k.Int ∷ w 10 ∷ Sign p.LeftParen ∷ Key k.Void ∷ Sign p.RightParen ∷ Sign p.LeftBrace ∷ w 1 ∷ Sign p.Star ∷ w 4 ∷ Sign p.Semicolon ∷ w 4 ∷ Sign p.Star ∷ w 5 ∷ Sign p.Semicolon ∷ Sign p.RightBrace ∷ []) ≡ All
unfolding element_after others others_ended many gathered pieces_in completed whole climb type_or primary expression opened declarator_head declarator_of specifier parameters worded statement type_first block_item external in_place below loop
row_185 = refl

-- `int f ( void ) { ( T ) a ; ( a ) ( b ) ; }`
row_186 : verdict (Key k.Int ∷ w 10 ∷ Sign p.LeftParen ∷ Key k.Void ∷ Sign p.RightParen ∷ Sign p.LeftBrace ∷ Sign p.LeftParen ∷ w 1 ∷ Sign p.RightParen ∷ w 4 ∷ Sign p.Semicolon ∷ Sign p.LeftParen ∷ w 4 ∷ Sign p.RightParen ∷ Sign p.LeftParen ∷ w 5 ∷ Sign p.RightParen ∷ Sign p.Semicolon ∷ Sign p.RightBrace ∷ []) ≡ All
unfolding element_after others others_ended many gathered pieces_in completed whole climb type_or primary expression opened declarator_head declarator_of specifier parameters worded statement type_first block_item external in_place below loop
row_186 = refl

-- `int f ( void ) { enum { T } a ; T + 1 ; }`
row_187 : verdict (Key k.Int ∷ w 10 ∷ Sign p.LeftParen ∷ Key k.Void ∷ Sign p.RightParen ∷ Sign p.LeftBrace ∷ Key k.Enum ∷ Sign p.LeftBrace ∷ w 1 ∷ Sign p.RightBrace ∷ w 4 ∷ Sign p.Semicolon ∷ w 1 ∷ Sign p.Plus ∷ n ∷ Sign p.Semicolon ∷ Sign p.RightBrace ∷ []) ≡ All
unfolding element_after others others_ended many gathered pieces_in completed whole climb type_or primary expression opened declarator_head declarator_of specifier parameters worded statement type_first block_item external in_place below loop
row_187 = refl

-- `int f ( void ) { struct T { int a ; } b ; T c ; }`
row_188 : verdict (Key k.Int ∷ w 10 ∷ Sign p.LeftParen ∷ Key k.Void ∷ Sign p.RightParen ∷ Sign p.LeftBrace ∷ Key k.Struct ∷ w 1 ∷ Sign p.LeftBrace ∷ Key k.Int ∷ w 4 ∷ Sign p.Semicolon ∷ Sign p.RightBrace ∷ w 5 ∷ Sign p.Semicolon ∷ w 1 ∷ w 6 ∷ Sign p.Semicolon ∷ Sign p.RightBrace ∷ []) ≡ All
unfolding element_after others others_ended many gathered pieces_in completed whole climb type_or primary expression opened declarator_head declarator_of specifier parameters worded statement type_first block_item external in_place below loop
row_188 = refl

-- `int f ( void ) { typedef int a ; a b = sizeof ( a ) ; { int a ; a = 1 ; } ( a ) b ; a c ; }`: dead at token 33, `c`
row_189 : verdict (Key k.Int ∷ w 10 ∷ Sign p.LeftParen ∷ Key k.Void ∷ Sign p.RightParen ∷ Sign p.LeftBrace ∷ Key k.Typedef ∷ Key k.Int ∷ w 4 ∷ Sign p.Semicolon ∷ w 4 ∷ w 5 ∷ Sign p.Equal ∷ Key k.Sizeof ∷ Sign p.LeftParen ∷ w 4 ∷ Sign p.RightParen ∷ Sign p.Semicolon ∷ Sign p.LeftBrace ∷ Key k.Int ∷ w 4 ∷ Sign p.Semicolon ∷ w 4 ∷ Sign p.Equal ∷ n ∷ Sign p.Semicolon ∷ Sign p.RightBrace ∷ Sign p.LeftParen ∷ w 4 ∷ Sign p.RightParen ∷ w 5 ∷ Sign p.Semicolon ∷ w 4 ∷ w 6 ∷ Sign p.Semicolon ∷ Sign p.RightBrace ∷ []) ≡ Dead 33
unfolding element_after others others_ended many gathered pieces_in completed whole climb type_or primary expression opened declarator_head declarator_of specifier parameters worded statement type_first block_item external in_place below loop
row_189 = refl

-- `int f ( void ) { int a = sizeof ( T ) , T , b = T ; }`
row_190 : verdict (Key k.Int ∷ w 10 ∷ Sign p.LeftParen ∷ Key k.Void ∷ Sign p.RightParen ∷ Sign p.LeftBrace ∷ Key k.Int ∷ w 4 ∷ Sign p.Equal ∷ Key k.Sizeof ∷ Sign p.LeftParen ∷ w 1 ∷ Sign p.RightParen ∷ Sign p.Comma ∷ w 1 ∷ Sign p.Comma ∷ w 5 ∷ Sign p.Equal ∷ w 1 ∷ Sign p.Semicolon ∷ Sign p.RightBrace ∷ []) ≡ All
unfolding element_after others others_ended many gathered pieces_in completed whole climb type_or primary expression opened declarator_head declarator_of specifier parameters worded statement type_first block_item external in_place below loop
row_190 = refl

-- `int f ( void ) { T a ( T ) , T ; }`
row_191 : verdict (Key k.Int ∷ w 10 ∷ Sign p.LeftParen ∷ Key k.Void ∷ Sign p.RightParen ∷ Sign p.LeftBrace ∷ w 1 ∷ w 4 ∷ Sign p.LeftParen ∷ w 1 ∷ Sign p.RightParen ∷ Sign p.Comma ∷ w 1 ∷ Sign p.Semicolon ∷ Sign p.RightBrace ∷ []) ≡ All
unfolding element_after others others_ended many gathered pieces_in completed whole climb type_or primary expression opened declarator_head declarator_of specifier parameters worded statement type_first block_item external in_place below loop
row_191 = refl

-- `int f ( void ) { extern int g ( int T ) , T ; T x ; }`: dead at token 17, `x`
row_192 : verdict (Key k.Int ∷ w 10 ∷ Sign p.LeftParen ∷ Key k.Void ∷ Sign p.RightParen ∷ Sign p.LeftBrace ∷ Key k.Extern ∷ Key k.Int ∷ w 13 ∷ Sign p.LeftParen ∷ Key k.Int ∷ w 1 ∷ Sign p.RightParen ∷ Sign p.Comma ∷ w 1 ∷ Sign p.Semicolon ∷ w 1 ∷ w 3 ∷ Sign p.Semicolon ∷ Sign p.RightBrace ∷ []) ≡ Dead 17
unfolding element_after others others_ended many gathered pieces_in completed whole climb type_or primary expression opened declarator_head declarator_of specifier parameters worded statement type_first block_item external in_place below loop
row_192 = refl

-- `int f ( void ) { int ; ; }`
row_193 : verdict (Key k.Int ∷ w 10 ∷ Sign p.LeftParen ∷ Key k.Void ∷ Sign p.RightParen ∷ Sign p.LeftBrace ∷ Key k.Int ∷ Sign p.Semicolon ∷ Sign p.Semicolon ∷ Sign p.RightBrace ∷ []) ≡ All
unfolding element_after others others_ended many gathered pieces_in completed whole climb type_or primary expression opened declarator_head declarator_of specifier parameters worded statement type_first block_item external in_place below loop
row_193 = refl

-- `;`: dead at token 0, `;`
row_194 : verdict (Sign p.Semicolon ∷ []) ≡ Dead 0
unfolding element_after others others_ended many gathered pieces_in completed whole climb type_or primary expression opened declarator_head declarator_of specifier parameters worded statement type_first block_item external in_place below loop
row_194 = refl

-- `1`: dead at token 0, `1`
row_195 : verdict (n ∷ []) ≡ Dead 0
unfolding element_after others others_ended many gathered pieces_in completed whole climb type_or primary expression opened declarator_head declarator_of specifier parameters worded statement type_first block_item external in_place below loop
row_195 = refl

-- `}`: dead at token 0, `}`
row_196 : verdict (Sign p.RightBrace ∷ []) ≡ Dead 0
unfolding element_after others others_ended many gathered pieces_in completed whole climb type_or primary expression opened declarator_head declarator_of specifier parameters worded statement type_first block_item external in_place below loop
row_196 = refl

-- `return`: dead at token 0, `return`
row_197 : verdict (Key k.Return ∷ []) ≡ Dead 0
unfolding element_after others others_ended many gathered pieces_in completed whole climb type_or primary expression opened declarator_head declarator_of specifier parameters worded statement type_first block_item external in_place below loop
row_197 = refl

-- `if`: dead at token 0, `if`
row_198 : verdict (Key k.If ∷ []) ≡ Dead 0
unfolding element_after others others_ended many gathered pieces_in completed whole climb type_or primary expression opened declarator_head declarator_of specifier parameters worded statement type_first block_item external in_place below loop
row_198 = refl

-- `int f ( void ) return`: dead at token 5, `return`
row_199 : verdict (Key k.Int ∷ w 10 ∷ Sign p.LeftParen ∷ Key k.Void ∷ Sign p.RightParen ∷ Key k.Return ∷ []) ≡ Dead 5
unfolding element_after others others_ended many gathered pieces_in completed whole climb type_or primary expression opened declarator_head declarator_of specifier parameters worded statement type_first block_item external in_place below loop
row_199 = refl

-- ---- with few levels left

-- `int x = ( ( a ) ) ;`, 2 levels
row_200 : verdict_in 2 (Key k.Int ∷ w 3 ∷ Sign p.Equal ∷ Sign p.LeftParen ∷ Sign p.LeftParen ∷ w 4 ∷ Sign p.RightParen ∷ Sign p.RightParen ∷ Sign p.Semicolon ∷ []) ≡ All
unfolding element_after others others_ended many gathered pieces_in completed whole climb type_or primary expression opened declarator_head declarator_of specifier parameters worded statement type_first block_item external in_place below loop
row_200 = refl

-- `int x = ( ( a ) ) ;`, 1 levels
row_201 : verdict_in 1 (Key k.Int ∷ w 3 ∷ Sign p.Equal ∷ Sign p.LeftParen ∷ Sign p.LeftParen ∷ w 4 ∷ Sign p.RightParen ∷ Sign p.RightParen ∷ Sign p.Semicolon ∷ []) ≡ Deep 4
unfolding element_after others others_ended many gathered pieces_in completed whole climb type_or primary expression opened declarator_head declarator_of specifier parameters worded statement type_first block_item external in_place below loop
row_201 = refl

-- `int x = ( ( a ) ) ;`, 0 levels
row_202 : verdict_in 0 (Key k.Int ∷ w 3 ∷ Sign p.Equal ∷ Sign p.LeftParen ∷ Sign p.LeftParen ∷ w 4 ∷ Sign p.RightParen ∷ Sign p.RightParen ∷ Sign p.Semicolon ∷ []) ≡ Deep 3
unfolding element_after others others_ended many gathered pieces_in completed whole climb type_or primary expression opened declarator_head declarator_of specifier parameters worded statement type_first block_item external in_place below loop
row_202 = refl

-- `int x = a + b * c ;`, 2 levels
row_203 : verdict_in 2 (Key k.Int ∷ w 3 ∷ Sign p.Equal ∷ w 4 ∷ Sign p.Plus ∷ w 5 ∷ Sign p.Star ∷ w 6 ∷ Sign p.Semicolon ∷ []) ≡ All
unfolding element_after others others_ended many gathered pieces_in completed whole climb type_or primary expression opened declarator_head declarator_of specifier parameters worded statement type_first block_item external in_place below loop
row_203 = refl

-- `int x = a + b * c ;`, 1 levels
row_204 : verdict_in 1 (Key k.Int ∷ w 3 ∷ Sign p.Equal ∷ w 4 ∷ Sign p.Plus ∷ w 5 ∷ Sign p.Star ∷ w 6 ∷ Sign p.Semicolon ∷ []) ≡ Deep 6
unfolding element_after others others_ended many gathered pieces_in completed whole climb type_or primary expression opened declarator_head declarator_of specifier parameters worded statement type_first block_item external in_place below loop
row_204 = refl

-- `int x = a * b + c ;`, 2 levels
row_205 : verdict_in 2 (Key k.Int ∷ w 3 ∷ Sign p.Equal ∷ w 4 ∷ Sign p.Star ∷ w 5 ∷ Sign p.Plus ∷ w 6 ∷ Sign p.Semicolon ∷ []) ≡ All
unfolding element_after others others_ended many gathered pieces_in completed whole climb type_or primary expression opened declarator_head declarator_of specifier parameters worded statement type_first block_item external in_place below loop
row_205 = refl

-- `int x = a * b + c ;`, 1 levels
row_206 : verdict_in 1 (Key k.Int ∷ w 3 ∷ Sign p.Equal ∷ w 4 ∷ Sign p.Star ∷ w 5 ∷ Sign p.Plus ∷ w 6 ∷ Sign p.Semicolon ∷ []) ≡ Deep 6
unfolding element_after others others_ended many gathered pieces_in completed whole climb type_or primary expression opened declarator_head declarator_of specifier parameters worded statement type_first block_item external in_place below loop
row_206 = refl

-- `int x = sizeof ( T ) ;`, 1 levels
row_207 : verdict_in 1 (Key k.Int ∷ w 3 ∷ Sign p.Equal ∷ Key k.Sizeof ∷ Sign p.LeftParen ∷ w 1 ∷ Sign p.RightParen ∷ Sign p.Semicolon ∷ []) ≡ All
unfolding element_after others others_ended many gathered pieces_in completed whole climb type_or primary expression opened declarator_head declarator_of specifier parameters worded statement type_first block_item external in_place below loop
row_207 = refl

-- `int x = sizeof ( a ) ;`, 1 levels
row_208 : verdict_in 1 (Key k.Int ∷ w 3 ∷ Sign p.Equal ∷ Key k.Sizeof ∷ Sign p.LeftParen ∷ w 4 ∷ Sign p.RightParen ∷ Sign p.Semicolon ∷ []) ≡ Deep 5
unfolding element_after others others_ended many gathered pieces_in completed whole climb type_or primary expression opened declarator_head declarator_of specifier parameters worded statement type_first block_item external in_place below loop
row_208 = refl

-- `int x = sizeof ( ; ) ;`, 1 levels
row_209 : verdict_in 1 (Key k.Int ∷ w 3 ∷ Sign p.Equal ∷ Key k.Sizeof ∷ Sign p.LeftParen ∷ Sign p.Semicolon ∷ Sign p.RightParen ∷ Sign p.Semicolon ∷ []) ≡ Dead 5
unfolding element_after others others_ended many gathered pieces_in completed whole climb type_or primary expression opened declarator_head declarator_of specifier parameters worded statement type_first block_item external in_place below loop
row_209 = refl

-- `int x = sizeof ( a ) ;`, 2 levels
row_210 : verdict_in 2 (Key k.Int ∷ w 3 ∷ Sign p.Equal ∷ Key k.Sizeof ∷ Sign p.LeftParen ∷ w 4 ∷ Sign p.RightParen ∷ Sign p.Semicolon ∷ []) ≡ All
unfolding element_after others others_ended many gathered pieces_in completed whole climb type_or primary expression opened declarator_head declarator_of specifier parameters worded statement type_first block_item external in_place below loop
row_210 = refl

-- `int x = - ( T ) a ;`, 1 levels
row_211 : verdict_in 1 (Key k.Int ∷ w 3 ∷ Sign p.Equal ∷ Sign p.Minus ∷ Sign p.LeftParen ∷ w 1 ∷ Sign p.RightParen ∷ w 4 ∷ Sign p.Semicolon ∷ []) ≡ Deep 4
unfolding element_after others others_ended many gathered pieces_in completed whole climb type_or primary expression opened declarator_head declarator_of specifier parameters worded statement type_first block_item external in_place below loop
row_211 = refl

-- `int x = - ;`, 1 levels
row_212 : verdict_in 1 (Key k.Int ∷ w 3 ∷ Sign p.Equal ∷ Sign p.Minus ∷ Sign p.Semicolon ∷ []) ≡ Dead 4
unfolding element_after others others_ended many gathered pieces_in completed whole climb type_or primary expression opened declarator_head declarator_of specifier parameters worded statement type_first block_item external in_place below loop
row_212 = refl

-- `int * * p ;`, 2 levels
row_213 : verdict_in 2 (Key k.Int ∷ Sign p.Star ∷ Sign p.Star ∷ w 8 ∷ Sign p.Semicolon ∷ []) ≡ All
unfolding element_after others others_ended many gathered pieces_in completed whole climb type_or primary expression opened declarator_head declarator_of specifier parameters worded statement type_first block_item external in_place below loop
row_213 = refl

-- `int * * p ;`, 1 levels
row_214 : verdict_in 1 (Key k.Int ∷ Sign p.Star ∷ Sign p.Star ∷ w 8 ∷ Sign p.Semicolon ∷ []) ≡ Deep 2
unfolding element_after others others_ended many gathered pieces_in completed whole climb type_or primary expression opened declarator_head declarator_of specifier parameters worded statement type_first block_item external in_place below loop
row_214 = refl

-- `int f ( int * ) ;`, 1 levels
row_215 : verdict_in 1 (Key k.Int ∷ w 10 ∷ Sign p.LeftParen ∷ Key k.Int ∷ Sign p.Star ∷ Sign p.RightParen ∷ Sign p.Semicolon ∷ []) ≡ Deep 4
unfolding element_after others others_ended many gathered pieces_in completed whole climb type_or primary expression opened declarator_head declarator_of specifier parameters worded statement type_first block_item external in_place below loop
row_215 = refl

-- `int f ( void ) { ; }`, 1 levels
row_216 : verdict_in 1 (Key k.Int ∷ w 10 ∷ Sign p.LeftParen ∷ Key k.Void ∷ Sign p.RightParen ∷ Sign p.LeftBrace ∷ Sign p.Semicolon ∷ Sign p.RightBrace ∷ []) ≡ All
unfolding element_after others others_ended many gathered pieces_in completed whole climb type_or primary expression opened declarator_head declarator_of specifier parameters worded statement type_first block_item external in_place below loop
row_216 = refl

-- `int f ( void ) { if ( a ) b = c ; }`, 3 levels
row_217 : verdict_in 3 (Key k.Int ∷ w 10 ∷ Sign p.LeftParen ∷ Key k.Void ∷ Sign p.RightParen ∷ Sign p.LeftBrace ∷ Key k.If ∷ Sign p.LeftParen ∷ w 4 ∷ Sign p.RightParen ∷ w 5 ∷ Sign p.Equal ∷ w 6 ∷ Sign p.Semicolon ∷ Sign p.RightBrace ∷ []) ≡ All
unfolding element_after others others_ended many gathered pieces_in completed whole climb type_or primary expression opened declarator_head declarator_of specifier parameters worded statement type_first block_item external in_place below loop
row_217 = refl

-- `int f ( void ) { if ( a ) b = c ; }`, 2 levels
row_218 : verdict_in 2 (Key k.Int ∷ w 10 ∷ Sign p.LeftParen ∷ Key k.Void ∷ Sign p.RightParen ∷ Sign p.LeftBrace ∷ Key k.If ∷ Sign p.LeftParen ∷ w 4 ∷ Sign p.RightParen ∷ w 5 ∷ Sign p.Equal ∷ w 6 ∷ Sign p.Semicolon ∷ Sign p.RightBrace ∷ []) ≡ Deep 11
unfolding element_after others others_ended many gathered pieces_in completed whole climb type_or primary expression opened declarator_head declarator_of specifier parameters worded statement type_first block_item external in_place below loop
row_218 = refl

-- `int f ( void ) { if ( a ) ; }`, 1 levels
row_219 : verdict_in 1 (Key k.Int ∷ w 10 ∷ Sign p.LeftParen ∷ Key k.Void ∷ Sign p.RightParen ∷ Sign p.LeftBrace ∷ Key k.If ∷ Sign p.LeftParen ∷ w 4 ∷ Sign p.RightParen ∷ Sign p.Semicolon ∷ Sign p.RightBrace ∷ []) ≡ Deep 6
unfolding element_after others others_ended many gathered pieces_in completed whole climb type_or primary expression opened declarator_head declarator_of specifier parameters worded statement type_first block_item external in_place below loop
row_219 = refl

-- `struct { int a ; } x ;`, 1 levels
row_220 : verdict_in 1 (Key k.Struct ∷ Sign p.LeftBrace ∷ Key k.Int ∷ w 4 ∷ Sign p.Semicolon ∷ Sign p.RightBrace ∷ w 3 ∷ Sign p.Semicolon ∷ []) ≡ All
unfolding element_after others others_ended many gathered pieces_in completed whole climb type_or primary expression opened declarator_head declarator_of specifier parameters worded statement type_first block_item external in_place below loop
row_220 = refl

-- `struct { int * a ; } x ;`, 1 levels
row_221 : verdict_in 1 (Key k.Struct ∷ Sign p.LeftBrace ∷ Key k.Int ∷ Sign p.Star ∷ w 4 ∷ Sign p.Semicolon ∷ Sign p.RightBrace ∷ w 3 ∷ Sign p.Semicolon ∷ []) ≡ Deep 3
unfolding element_after others others_ended many gathered pieces_in completed whole climb type_or primary expression opened declarator_head declarator_of specifier parameters worded statement type_first block_item external in_place below loop
row_221 = refl

-- `struct s x ;`, 0 levels
row_222 : verdict_in 0 (Key k.Struct ∷ w 16 ∷ w 3 ∷ Sign p.Semicolon ∷ []) ≡ Deep 0
unfolding element_after others others_ended many gathered pieces_in completed whole climb type_or primary expression opened declarator_head declarator_of specifier parameters worded statement type_first block_item external in_place below loop
row_222 = refl

-- `int x = { 1 , { 2 } } ;`, 1 levels
row_223 : verdict_in 1 (Key k.Int ∷ w 3 ∷ Sign p.Equal ∷ Sign p.LeftBrace ∷ n ∷ Sign p.Comma ∷ Sign p.LeftBrace ∷ n ∷ Sign p.RightBrace ∷ Sign p.RightBrace ∷ Sign p.Semicolon ∷ []) ≡ Deep 6
unfolding element_after others others_ended many gathered pieces_in completed whole climb type_or primary expression opened declarator_head declarator_of specifier parameters worded statement type_first block_item external in_place below loop
row_223 = refl

-- `int f ( void ) { a : b : ; }`, 2 levels
row_224 : verdict_in 2 (Key k.Int ∷ w 10 ∷ Sign p.LeftParen ∷ Key k.Void ∷ Sign p.RightParen ∷ Sign p.LeftBrace ∷ w 4 ∷ Sign p.Colon ∷ w 5 ∷ Sign p.Colon ∷ Sign p.Semicolon ∷ Sign p.RightBrace ∷ []) ≡ Deep 9
unfolding element_after others others_ended many gathered pieces_in completed whole climb type_or primary expression opened declarator_head declarator_of specifier parameters worded statement type_first block_item external in_place below loop
row_224 = refl

-- `int a [ 1 ] [ 2 ] ;`, 1 levels
row_225 : verdict_in 1 (Key k.Int ∷ w 4 ∷ Sign p.LeftBracket ∷ n ∷ Sign p.RightBracket ∷ Sign p.LeftBracket ∷ n ∷ Sign p.RightBracket ∷ Sign p.Semicolon ∷ []) ≡ Deep 5
unfolding element_after others others_ended many gathered pieces_in completed whole climb type_or primary expression opened declarator_head declarator_of specifier parameters worded statement type_first block_item external in_place below loop
row_225 = refl
