-- Which tokens go on with a tree of a sort with levels: those of a form that is tight enough.
use Rattle.std.proofs.Common.{◌≡◌, refl, subst, sym, ℕ, zero, suc, ◌≤◌, not, Bool, true, false, ◌&&◌, ◌||◌, nat_eq, nat_lt, List, [], ◌∷◌, ◌++◌, Option, Some, None, arith}
use Rattle.std.proofs.lemmas.Bool.{lt-ltb, or_parts}
use borrow.Author.Tests.{ltb-true}
use Rattle.c_tokens.specs.declared.token.Punct.{Punct}
use Rattle.c_tokens.specs.declared.token.Punct.TheVariants as punct
use Rattle.c_tokens.specs.declared.token.Shape.{Shape}
use Rattle.c_tokens.specs.declared.token.Shape.TheVariants as shape
use Rattle.c_tokens.specs.declared.class.Class.TheVariants as class
use Rattle.c_tokens.specs.ClassNumbers.{class_number, punct_number}
use Rattle.c_forms.specs.declared.pieces.Sort.{Sort}
use Rattle.c_forms.specs.declared.pieces.Sort.TheVariants as s
use Rattle.c_forms.specs.declared.forms.Form.{Form}
use Rattle.c_forms.specs.Measures.{level}
use Rattle.c_forms.specs.Tokens.{continued}
use Rattle.c_forms.specs.Sets.{Classes, has, within, given, goes_on, all_puncts}
use Rattle.c_reader.specs.States.{State}
use Rattle.c_reader.proofs.Sets.{both, not_true, contrary, itself, has_left, has_right, within_all, within_before}
use Rattle.c_reader.proofs.Seen.{blur}
use Rattle.c_syntax.specs.Grammar.{Standing, continued_by, is_tail}
use Rattle.c_alive.proofs.Phrased.{none_of}

-- whether a form is as tight as it must be
abbrev pub tight_enough : ℕ → Option Form → Bool
tight_enough least (Some f) = not (nat_lt (level f) least)
tight_enough least None = false

abbrev pub of_punct : Punct → ℕ
of_punct p = class_number (class.Punct p)

-- the punctuators that a form that is tight enough goes on with
abbrev pub tails : Sort → ℕ → List Punct → Classes
tails due least [] = []
tails due least (p ∷ ps) = given (tight_enough least (continued due p)) (of_punct p ∷ []) ++ tails due least ps

abbrev nth : ℕ → List Punct → Option Punct
nth n [] = None
nth zero (p ∷ ps) = Some p
nth (suc n) (p ∷ ps) = nth n ps

each_punct : (p : Punct) → nth (punct_number p) all_puncts ≡ Some p
each_punct punct.LeftBracket = refl
each_punct _ = refl

given_one : (b : Bool) (c : ℕ) → b ≡ true → has (given b (c ∷ [])) c ≡ true
given_one true c h = by_same (nat_eq c c) (itself c)
  where
    by_same : (e : Bool) → e ≡ true → (e || false) ≡ true
    by_same true h = refl
    by_same false h = h
given_one false c h = absurd (cc h)

same_punct : (p q : Punct) → Some p ≡ Some q → p ≡ q
same_punct p q e = cc e

in_tails : (due : Sort) (least n : ℕ) (ps : List Punct) (p : Punct) → nth n ps ≡ Some p → tight_enough least (continued due p) ≡ true → has (tails due least ps) (of_punct p) ≡ true
in_tails due least n [] p e h = absurd (cc e)
in_tails due least zero (q ∷ ps) p e h = subst (λ q. has (given (tight_enough least (continued due q)) (of_punct q ∷ []) ++ tails due least ps) (of_punct p) ≡ true) (sym (same_punct q p e))
    (has_left (given (tight_enough least (continued due p)) (of_punct p ∷ [])) (tails due least ps) (of_punct p) (given_one (tight_enough least (continued due p)) (of_punct p) h))
in_tails due least (suc n) (q ∷ ps) p e h = has_right (given (tight_enough least (continued due q)) (of_punct q ∷ [])) (tails due least ps) (of_punct p) (in_tails due least n ps p e h)

tail_tight : (due : Sort) (least : ℕ) (z : State) (y : Standing) (o : Option Form) → is_tail due least z y o ≡ true → tight_enough least o ≡ true
tail_tight due least z y (Some f) h = (both (not (nat_lt (level f) least)) _ h).0
tail_tight due least z y None h = absurd (cc h)

-- what is no tail is over
pub ends_tails : (due : Sort) (least : ℕ) (set : Classes) → ((c : ℕ) → has (tails due least all_puncts) c ≡ true → has set c ≡ true) → (z : State) (y : Standing) (x : Shape) → none_of set x ≡ true → is_tail due least z y (continued_by due x) ≡ false
ends_tails due least set has_them z y (shape.Punct p) q = by_test (is_tail due least z y (continued due p)) refl
  where
    by_test : (b : Bool) → is_tail due least z y (continued due p) ≡ b → is_tail due least z y (continued due p) ≡ false
    by_test false e = e
    by_test true e = contrary (has set (of_punct p)) (has_them (of_punct p) (in_tails due least (punct_number p) all_puncts p (each_punct p) (tail_tight due least z y (continued due p) e)))
        (or_parts (has set (of_punct p)) _ (not_true (blur set (of_punct p)) q)).0
ends_tails due least set has_them z y _ q = refl

pub exp_over : (least : ℕ) (z : State) (y : Standing) (x : Shape) → none_of (goes_on s.Exp least) x ≡ true → is_tail s.Exp least z y (continued_by s.Exp x) ≡ false
exp_over least = ends_tails s.Exp least (goes_on s.Exp least) (λ c h. has_right (class_number class.Str ∷ []) (tails s.Exp least all_puncts) c h)

pub declarator_over : (least : ℕ) (z : State) (y : Standing) (x : Shape) → none_of (goes_on s.Declarator least) x ≡ true → is_tail s.Declarator least z y (continued_by s.Declarator x) ≡ false
declarator_over least = ends_tails s.Declarator least (goes_on s.Declarator least) (λ c h. h)

-- ---- fewer tokens go on with what is tighter

tighter : (l m : ℕ) → m ≤ l → (o : Option Form) → tight_enough l o ≡ true → tight_enough m o ≡ true
tighter l m le (Some f) h = by_test (nat_lt (level f) m) refl
  where
    by_test : (b : Bool) → nat_lt (level f) m ≡ b → not b ≡ true
    by_test false e = refl
    by_test true e = absurd (contrary (nat_lt (level f) l) (lt-ltb (level f) l (omega (arith, ltb-true (level f) m e))) (not_true (nat_lt (level f) l) h))
tighter l m le None h = absurd (cc h)

given_within : (a b : Bool) (c : ℕ) (rest : Classes) → (a ≡ true → b ≡ true) → within (given a (c ∷ [])) (given b (c ∷ []) ++ rest) ≡ true
given_within false b c rest up = refl
given_within true b c rest up = by_has (has (given b (c ∷ []) ++ rest) c) (has_left (given b (c ∷ [])) rest c (given_one b c (up refl)))
  where
    by_has : (e : Bool) → e ≡ true → (e && true) ≡ true
    by_has true h = refl
    by_has false h = h

tails_within : (due : Sort) (l m : ℕ) → m ≤ l → (ps : List Punct) → within (tails due l ps) (tails due m ps) ≡ true
tails_within due l m le [] = refl
tails_within due l m le (p ∷ ps) = within_all (given (tight_enough l (continued due p)) (of_punct p ∷ [])) (tails due l ps) (given (tight_enough m (continued due p)) (of_punct p ∷ []) ++ tails due m ps)
    (given_within (tight_enough l (continued due p)) (tight_enough m (continued due p)) (of_punct p) (tails due m ps) (tighter l m le (continued due p)))
    (within_before (tails due l ps) (given (tight_enough m (continued due p)) (of_punct p ∷ [])) (tails due m ps) (tails_within due l m le ps))

pub exp_within : (l m : ℕ) → m ≤ l → within (goes_on s.Exp l) (goes_on s.Exp m) ≡ true
exp_within l m le = within_before (tails s.Exp l all_puncts) (class_number class.Str ∷ []) (tails s.Exp m all_puncts) (tails_within s.Exp l m le all_puncts)
