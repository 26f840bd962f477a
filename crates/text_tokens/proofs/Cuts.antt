-- Lists of marks that may stand one after the other without a pair of tokens that go on one another.
use Rattle.std.proofs.Common.{◌≡◌, refl, ℕ, Bool, true, false, not, ◌&&◌, List, [], ◌∷◌, ◌++◌}
use Rattle.c_tokens.specs.declared.token.Punct.TheVariants as punct
use Rattle.c_tokens.specs.declared.token.Shape.{Shape}
use Rattle.c_tokens.specs.declared.token.Shape.TheVariants as s
use Rattle.c_tokens.specs.declared.token.Word.{Word}
use Rattle.c_tokens.proofs.Tables.{and_true}
use Rattle.c_layout.specs.declared.marks.Use.{Use}
use Rattle.c_layout.specs.declared.marks.Mark.{Mark}
use Rattle.c_layout.specs.declared.marks.Mark.TheVariants as mark
use Rattle.text_tokens.specs.Neighbours.{goes_on_point, is_equal_prefix, is_minus_suffix, is_plus_suffix, is_merged, NextIsFree, AllFree}
use Rattle.text_tokens.specs.Marks.{All}
use Rattle.text_tokens.proofs.Prefixes.{IsNoEqualPrefix}

-- such a pair, but for `=` and `==` as prefix operators
abbrev is_cut : Shape → Shape → Use → Bool
is_cut (s.Punct punct.Dot) b v = goes_on_point b
is_cut (s.Punct punct.Minus) b v = is_minus_suffix b v
is_cut (s.Punct punct.Plus) b v = is_plus_suffix b v
is_cut _ b v = false

abbrev NextIsUncut : Shape → List Mark → Type 0
NextIsUncut a [] = Unit {0}
NextIsUncut a (mark.Line depth ∷ ms) = Unit {0}
NextIsUncut a (mark.Token b v ∷ ms) = is_cut a b v ≡ false

abbrev AllUncut : List Mark → Type 0
AllUncut [] = Unit {0}
AllUncut (mark.Line depth ∷ ms) = AllUncut ms
AllUncut (mark.Token a u ∷ ms) = NextIsUncut a ms × AllUncut ms

-- a token that goes on with no other after it
abbrev pub is_calm : Shape → Bool
is_calm (s.Punct punct.Dot) = false
is_calm (s.Punct punct.Minus) = false
is_calm (s.Punct punct.Plus) = false
is_calm _ = true

-- one that ends no operand
abbrev pub is_fresh : Shape → Use → Bool
is_fresh b v = not (is_minus_suffix b v) && not (is_plus_suffix b v)

abbrev begins : List Mark → Bool
begins [] = true
begins (mark.Line depth ∷ ms) = true
begins (mark.Token b v ∷ ms) = is_fresh b v

abbrev ends_in : Mark → Bool
ends_in (mark.Line depth) = true
ends_in (mark.Token a u) = is_calm a

abbrev ends : List Mark → Bool
ends [] = true
ends (m ∷ []) = ends_in m
ends (m ∷ (n ∷ ms)) = ends (n ∷ ms)

abbrev pub is_some : List Mark → Bool
is_some [] = false
is_some (m ∷ ms) = true

-- no such pair, whatever clean marks stand before and after
pub record Clean (ms : List Mark) : Type 0 where
  pub uncut : AllUncut ms
  pub first : begins ms ≡ true
  pub last : ends ms ≡ true

-- ---- one list after the other

calm_next : (a b : Shape) (v : Use) → is_calm a ≡ true → is_cut a b v ≡ false
calm_next (s.Punct punct.Dot) b v h = absurd cc
calm_next (s.Punct punct.Minus) b v h = absurd cc
calm_next (s.Punct punct.Plus) b v h = absurd cc
calm_next _ b v h = refl

after_calm : (a : Shape) (ms : List Mark) → is_calm a ≡ true → NextIsUncut a ms
after_calm a [] h = tt
after_calm a (mark.Line depth ∷ ms) h = tt
after_calm a (mark.Token b v ∷ ms) h = calm_next a b v h

uncut_both : (a b : List Mark) → AllUncut a → ends a ≡ true → AllUncut b → AllUncut (a ++ b)
uncut_both [] b h e k = k
uncut_both (mark.Line depth ∷ []) b h e k = k
uncut_both (mark.Line depth ∷ (n ∷ a)) b h e k = uncut_both (n ∷ a) b h e k
uncut_both (mark.Token c u ∷ []) b h e k = (after_calm c b e, k)
uncut_both (mark.Token c u ∷ (mark.Line depth ∷ a)) b h e k = (tt, uncut_both (mark.Line depth ∷ a) b h.1 e k)
uncut_both (mark.Token c u ∷ (mark.Token d v ∷ a)) b h e k = (h.0, uncut_both (mark.Token d v ∷ a) b h.1 e k)

ends_both : (a b : List Mark) → ends a ≡ true → ends b ≡ true → ends (a ++ b) ≡ true
ends_both [] b h k = k
ends_both (m ∷ []) [] h k = h
ends_both (m ∷ []) (n ∷ b) h k = k
ends_both (m ∷ (n ∷ a)) b h k = ends_both (n ∷ a) b h k

begins_both : (a b : List Mark) → begins a ≡ true → begins b ≡ true → begins (a ++ b) ≡ true
begins_both [] b h k = k
begins_both (mark.Line depth ∷ a) b h k = refl
begins_both (mark.Token c u ∷ a) b h k = h

begins_some : (a b : List Mark) → is_some a ≡ true → begins a ≡ true → begins (a ++ b) ≡ true
begins_some [] b e h = absurd cc
begins_some (mark.Line depth ∷ a) b e h = refl
begins_some (mark.Token c u ∷ a) b e h = h

pub none : Clean []
none = record { uncut = tt; first = refl; last = refl }

pub both : (a b : List Mark) → Clean a → Clean b → Clean (a ++ b)
both a b h k = record { uncut = uncut_both a b h.uncut h.last k.uncut; first = begins_both a b h.first k.first; last = ends_both a b h.last k.last }

pub one_line : (depth : ℕ) → Clean (mark.Line depth ∷ [])
one_line depth = record { uncut = tt; first = refl; last = refl }

pub one_token : (a : Shape) (u : Use) → is_fresh a u ≡ true → is_calm a ≡ true → Clean (mark.Token a u ∷ [])
one_token a u f c = record { uncut = (tt, tt); first = f; last = c }

-- an operand and what ends it
pub operand_suffix : (a : List Mark) (b : Shape) (v : Use) → Clean a → is_some a ≡ true → is_calm b ≡ true → Clean (a ++ mark.Token b v ∷ [])
operand_suffix a b v h e c = record { uncut = uncut_both a (mark.Token b v ∷ []) h.uncut h.last (tt, tt); first = begins_some a (mark.Token b v ∷ []) e h.first; last = ends_both a (mark.Token b v ∷ []) h.last c }

word_next : (b : Shape) (w : Word) (x : Use) → is_cut b (s.Word w) x ≡ false
word_next (s.Punct punct.Dot) w x = refl
word_next (s.Punct punct.Minus) w x = refl
word_next (s.Punct punct.Plus) w x = refl
word_next _ w x = refl

-- an operand, the sign of a member and its name
pub operand_member : (a : List Mark) (b : Shape) (v : Use) (w : Word) (x : Use) → Clean a → is_some a ≡ true → Clean (a ++ mark.Token b v ∷ mark.Token (s.Word w) x ∷ [])
operand_member a b v w x h e =
    let m : List Mark = mark.Token b v ∷ mark.Token (s.Word w) x ∷ []
    in record { uncut = uncut_both a m h.uncut h.last (word_next b w x, (tt, tt)); first = begins_some a m e h.first; last = ends_both a m h.last refl }

abbrev pub is_point : Shape → Bool
is_point (s.Punct punct.Dot) = true
is_point _ = false

not_true : (b : Bool) → not b ≡ true → b ≡ false
not_true true h = absurd cc
not_true false h = refl

fresh_next : (a b : Shape) (v : Use) → is_point a ≡ false → is_fresh b v ≡ true → is_cut a b v ≡ false
fresh_next (s.Punct punct.Dot) b v p h = absurd cc
fresh_next (s.Punct punct.Minus) b v p h = not_true (is_minus_suffix b v) (and_true (not (is_minus_suffix b v)) (not (is_plus_suffix b v)) h).0
fresh_next (s.Punct punct.Plus) b v p h = not_true (is_plus_suffix b v) (and_true (not (is_minus_suffix b v)) (not (is_plus_suffix b v)) h).1
fresh_next _ b v p h = refl

after_operator : (a : Shape) (ms : List Mark) → is_point a ≡ false → begins ms ≡ true → NextIsUncut a ms
after_operator a [] p h = tt
after_operator a (mark.Line depth ∷ ms) p h = tt
after_operator a (mark.Token b v ∷ ms) p h = fresh_next a b v p h

ends_some : (m : Mark) (ms : List Mark) → is_some ms ≡ true → ends ms ≡ true → ends (m ∷ ms) ≡ true
ends_some m [] e h = absurd cc
ends_some m (n ∷ ms) e h = h

-- an operator and its operand
pub operator_operand : (a : Shape) (u : Use) (ms : List Mark) → is_point a ≡ false → is_fresh a u ≡ true → Clean ms → is_some ms ≡ true → Clean (mark.Token a u ∷ ms)
operator_operand a u ms p f h e = record { uncut = (after_operator a ms p h.first, h.uncut); first = f; last = ends_some (mark.Token a u) ms e h.last }

-- ---- together with what is known of prefix operators

uncut_merged : (a b : Shape) (v : Use) → is_cut a b v ≡ false → is_equal_prefix b v ≡ false → is_merged a b v ≡ false
uncut_merged (s.Punct punct.Dot) b v h n = h
uncut_merged (s.Punct punct.Minus) b v h n = h
uncut_merged (s.Punct punct.Plus) b v h n = h
uncut_merged (s.Punct punct.Star) b v h n = n
uncut_merged (s.Punct punct.Exclamation) b v h n = n
uncut_merged _ b v h n = refl

next_free : (a : Shape) (ms : List Mark) → NextIsUncut a ms → All IsNoEqualPrefix ms → NextIsFree a ms
next_free a [] h n = tt
next_free a (mark.Line depth ∷ ms) h n = tt
next_free a (mark.Token b v ∷ ms) h n = uncut_merged a b v h n.0

all_free : (ms : List Mark) → AllUncut ms → All IsNoEqualPrefix ms → AllFree ms
all_free [] h n = tt
all_free (mark.Line depth ∷ ms) h n = all_free ms h n.1
all_free (mark.Token a u ∷ ms) h n = (next_free a ms h.0 n.1, all_free ms h.1 n.1)

pub clean_free : (ms : List Mark) → Clean ms → All IsNoEqualPrefix ms → AllFree ms
clean_free ms h n = all_free ms h.uncut n
