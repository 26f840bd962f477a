-- What may go on after a tree of a level.
use Rattle.std.proofs.Common.{◌≡◌, ◌⊎◌, inl, inr, refl, subst, ap, sym, ◌∙◌, ℕ, ◌≤◌, not, nat_lt, nat_eq, Bool, true, false, ◌||◌, List, [], ◌∷◌, ◌++◌, Option, Some, None, arith}
use borrow.Author.Tests.{ltb-false, le-ltb}
use Rattle.c_tokens.specs.declared.token.Punct.{Punct}
use Rattle.c_tokens.specs.declared.token.Punct.TheVariants as punct
use Rattle.c_tokens.specs.declared.token.Shape.{Shape}
use Rattle.c_tokens.specs.declared.token.Shape.TheVariants as shape
use Rattle.c_tokens.specs.declared.class.Class.TheVariants as class
use Rattle.c_tokens.specs.ClassNumbers.{class_number, punct_number}
use Rattle.c_forms.specs.declared.pieces.Sort.{Sort}
use Rattle.c_forms.specs.declared.pieces.Sort.TheVariants as s
use Rattle.c_forms.specs.declared.forms.Form.{Form}
use Rattle.c_forms.specs.Measures.{level}
use Rattle.c_forms.specs.Tokens.{continued}
use Rattle.c_forms.specs.Sets.{Classes, has, given, goes_on, all_puncts}
use Rattle.c_reader.specs.States.{class as class_in}
use Rattle.c_reader.specs.Tokens.{Spot, raw_at}
use Rattle.c_reader.proofs.Sets.{either, not_true, same_class, single, only_single, has_left, has_right, has_either, given_true}
use Rattle.c_spelled.specs.Fitting.{is_leveled}
use Rattle.c_spelled.specs.Operators.{is_tight, tails, is_apt, is_unapt, loose, unapt, prefix}
use Rattle.c_spelled.proofs.Off.{Off, off_left, off_right, off_both}
use Rattle.c_spelled.proofs.Shapes.{same_punct}

-- ---- tests of levels

pub at_least : (n l : ℕ) → nat_lt n l ≡ false → l ≤ n
at_least n l e = ltb-false n l e

pub not_less : (n l : ℕ) → l ≤ n → nat_lt n l ≡ false
not_less n l e = le-ltb n l e

by_false : (b : Bool) → (b ≡ true → ⊥) → b ≡ false
by_false true f = absurd (f refl)
by_false false f = refl

on_given : (b : Bool) (a : Classes) (c : ℕ) → b ≡ true → has a c ≡ true → has (given b a) c ≡ true
on_given true a c e h = h
on_given false a c e h = absurd (cc e)

or_apt : (a b : Bool) → not (a || b) ≡ true → a ≡ false
or_apt true b h = absurd (cc h)
or_apt false b h = refl

-- ---- sets

-- the set of those that are tight has less where the level is more
tighter : (due : Sort) (least l : ℕ) (ps : List Punct) (c : ℕ) → least ≤ l → has (tails due l ps) c ≡ true → has (tails due least ps) c ≡ true
tighter due least l [] c le h = absurd (cc h)
tighter due least l (p ∷ ps) c le h = by_form (continued due p) (tighter due least l ps c le) (has_either _ (tails due l ps) c h)
  where
    by_form : (o : Option Form) → (has (tails due l ps) c ≡ true → has (tails due least ps) c ≡ true) → (has (given (is_tight l o) (class_number (class.Punct p) ∷ [])) c ≡ true) ⊎ (has (tails due l ps) c ≡ true) → has (given (is_tight least o) (class_number (class.Punct p) ∷ []) ++ tails due least ps) c ≡ true
    by_form o rec (inr k) = has_right (given (is_tight least o) (class_number (class.Punct p) ∷ [])) (tails due least ps) c (rec k)
    by_form (Some f) rec (inl k) = let g = given_true (is_tight l (Some f)) (class_number (class.Punct p) ∷ []) c k in
        has_left (given (is_tight least (Some f)) (class_number (class.Punct p) ∷ [])) (tails due least ps) c (on_given (is_tight least (Some f)) (class_number (class.Punct p) ∷ []) c (ap not (not_less (level f) least (omega (arith, le, at_least (level f) l (not_true (nat_lt (level f) l) g.0))))) g.1)
    by_form None rec (inl k) = absurd (cc k)

loose_tight : (due : Sort) (l : ℕ) (ps : List Punct) (c : ℕ) → has (loose due l ps) c ≡ true → has (tails due l ps) c ≡ true
loose_tight due l [] c h = absurd (cc h)
loose_tight due l (p ∷ ps) c h = by_form (continued due p) (loose_tight due l ps c) (has_either _ (loose due l ps) c h)
  where
    by_form : (o : Option Form) → (has (loose due l ps) c ≡ true → has (tails due l ps) c ≡ true) → (has (given (is_unapt l o) (class_number (class.Punct p) ∷ [])) c ≡ true) ⊎ (has (loose due l ps) c ≡ true) → has (given (is_tight l o) (class_number (class.Punct p) ∷ []) ++ tails due l ps) c ≡ true
    by_form o rec (inr k) = has_right (given (is_tight l o) (class_number (class.Punct p) ∷ [])) (tails due l ps) c (rec k)
    by_form (Some f) rec (inl k) = let g = given_true (is_unapt l (Some f)) (class_number (class.Punct p) ∷ []) c k in
        has_left (given (is_tight l (Some f)) (class_number (class.Punct p) ∷ [])) (tails due l ps) c (on_given (is_tight l (Some f)) (class_number (class.Punct p) ∷ []) c (ap not (or_apt (nat_lt (level f) l) _ g.0)) g.1)
    by_form None rec (inl k) = absurd (cc k)

pub goes_split : (due : Sort) (l : ℕ) → is_leveled due ≡ true → goes_on due l ≡ prefix due ++ tails due l all_puncts
goes_split s.Exp l h = refl
goes_split s.Declarator l h = refl
goes_split s.AbstractDeclarator l h = refl
goes_split s.ParamDeclarator l h = refl
goes_split s.MemberName l h = refl
goes_split _ l h = absurd (cc h)

off_tighter : (due : Sort) (least l : ℕ) (w : List Shape) (place : ℕ) → least ≤ l → Off (tails due least all_puncts) w place → Off (tails due l all_puncts) w place
off_tighter due least l w place le o s = by_false (has (tails due l all_puncts) (class_in s (raw_at w place))) (λ h. let f : true ≡ false = sym (tighter due least l all_puncts _ le h) ∙ o s in cc f)

pub off_up : (due : Sort) (least l : ℕ) (w : List Shape) (place : ℕ) → is_leveled due ≡ true → least ≤ l → Off (goes_on due least) w place → Off (goes_on due l) w place
off_up due least l w place h le o = let o' : Off (prefix due ++ tails due least all_puncts) w place = subst (λ a. Off a w place) (goes_split due least h) o in
    subst (λ a. Off a w place) (sym (goes_split due l h)) (off_both (prefix due) (tails due l all_puncts) w place (off_left (prefix due) (tails due least all_puncts) w place o') (off_tighter due least l w place le (off_right (prefix due) (tails due least all_puncts) w place o')))

off_loose : (due : Sort) (l : ℕ) (w : List Shape) (place : ℕ) → is_leveled due ≡ true → Off (goes_on due l) w place → Off (loose due l all_puncts) w place
off_loose due l w place h o s = let o' : Off (prefix due ++ tails due l all_puncts) w place = subst (λ a. Off a w place) (goes_split due l h) o in
    by_false (has (loose due l all_puncts) (class_in s (raw_at w place))) (λ h. let f : true ≡ false = sym (loose_tight due l all_puncts _ h) ∙ off_right (prefix due) (tails due l all_puncts) w place o' s in cc f)

only_given : (b : Bool) (a : Classes) (w : List Shape) (place : ℕ) → Off a w place → Off (given b a) w place
only_given true a w place o = o
only_given false a w place o = λ s. refl

other_off : (due : Sort) (l : ℕ) (w : List Shape) (place : ℕ) → is_leveled due ≡ true → Off (goes_on due l) w place → Off (given (nat_lt l 2) (goes_on due l) ++ loose due l all_puncts) w place
other_off due l w place h o = off_both (given (nat_lt l 2) (goes_on due l)) (loose due l all_puncts) w place (only_given (nat_lt l 2) (goes_on due l) w place o) (off_loose due l w place h o)

-- what does not go on with a looser place is apt
pub off_unapt : (due : Sort) (least l : ℕ) (w : List Shape) (place : ℕ) → is_leveled due ≡ true → least ≤ l → Off (goes_on due least) w place → Off (unapt due l) w place
off_unapt s.Exp least l w place h le o = let u = off_up s.Exp least l w place refl le o in off_both (prefix s.Exp) (loose s.Exp l all_puncts) w place (off_left (prefix s.Exp) (tails s.Exp l all_puncts) w place u) (off_loose s.Exp l w place refl u)
off_unapt s.Declarator least l w place h le o = other_off s.Declarator l w place refl (off_up s.Declarator least l w place refl le o)
off_unapt s.AbstractDeclarator least l w place h le o = other_off s.AbstractDeclarator l w place refl (off_up s.AbstractDeclarator least l w place refl le o)
off_unapt s.ParamDeclarator least l w place h le o = other_off s.ParamDeclarator l w place refl (off_up s.ParamDeclarator least l w place refl le o)
off_unapt s.MemberName least l w place h le o = other_off s.MemberName l w place refl (off_up s.MemberName least l w place refl le o)
off_unapt _ least l w place h le o = absurd (cc h)

-- ---- the operator of a form

pub record Loose (due : Sort) (l c : ℕ) : Type 0 where
  pub sign : Punct
  pub goes : Form
  pub is_sign : c ≡ class_number (class.Punct sign)
  pub found : continued due sign ≡ Some goes
  pub unapt : is_apt l goes ≡ false

loose_has : (due : Sort) (l : ℕ) (ps : List Punct) (c : ℕ) → has (loose due l ps) c ≡ true → Loose due l c
loose_has due l [] c h = absurd (cc h)
loose_has due l (p ∷ ps) c h = by_form (continued due p) refl (loose_has due l ps c) (has_either _ (loose due l ps) c h)
  where
    by_form : (o : Option Form) → continued due p ≡ o → (has (loose due l ps) c ≡ true → Loose due l c) → (has (given (is_unapt l o) (class_number (class.Punct p) ∷ [])) c ≡ true) ⊎ (has (loose due l ps) c ≡ true) → Loose due l c
    by_form o e rec (inr k) = rec k
    by_form (Some f) e rec (inl k) = let g = given_true (is_unapt l (Some f)) (class_number (class.Punct p) ∷ []) c k in
        record { sign = p; goes = f; is_sign = only_single (class_number (class.Punct p)) c g.1; found = e; unapt = not_true (is_apt l f) g.0 }
    by_form None e rec (inl k) = absurd (cc k)

abbrev form_or : Form → Option Form → Form
form_or f (Some g) = g
form_or f None = f

-- its operator may stand after its left operand
pub off_operator : (due : Sort) (l : ℕ) (p : Punct) (f : Form) (w : List Shape) (i : Spot) → raw_at w i.place ≡ shape.Punct p → continued due p ≡ Some f → is_apt l f ≡ true → Off (loose due l all_puncts) w i.place
off_operator due l p f w i e g a s = by_false (has (loose due l all_puncts) (class_in s (raw_at w i.place))) (λ h.
    let L : Loose due l (class_in s (raw_at w i.place)) = loose_has due l all_puncts (class_in s (raw_at w i.place)) h in
    let n : class_number (class.Punct p) ≡ class_number (class.Punct L.sign) = ap (class_in s) (sym e) ∙ L.is_sign in
    let same : p ≡ L.sign = same_punct p L.sign (omega (arith, n)) in
    let form : L.goes ≡ f = ap (form_or f) (sym L.found ∙ ap (continued due) (sym same) ∙ g) in
    let bad : true ≡ false = sym a ∙ ap (is_apt l) (sym form) ∙ L.unapt in cc bad)

-- ---- the end

is_in : Punct → List Punct → Bool
is_in p [] = false
is_in p (q ∷ ps) = nat_eq (punct_number q) (punct_number p) || is_in p ps

in_all : (p : Punct) → is_in p all_puncts ≡ true
unfolding is_in
in_all punct.LeftBracket = refl
in_all _ = refl

tails_have : (due : Sort) (least : ℕ) (p : Punct) (f : Form) (ps : List Punct) → is_in p ps ≡ true → continued due p ≡ Some f → nat_lt (level f) least ≡ false → has (tails due least ps) (class_number (class.Punct p)) ≡ true
unfolding is_in
tails_have due least p f [] h e l = absurd (cc h)
tails_have due least p f (q ∷ ps) h e l = elim (either (nat_eq (punct_number q) (punct_number p)) (is_in p ps) h) [
  | inl k ↦ let same : q ≡ p = same_punct q p (same_class (punct_number q) (punct_number p) k) in
      let tight : is_tight least (continued due q) ≡ true = ap (λ q. is_tight least (continued due q)) same ∙ ap (is_tight least) e ∙ ap not l in
      has_left (given (is_tight least (continued due q)) (class_number (class.Punct q) ∷ [])) (tails due least ps) (class_number (class.Punct p))
      (on_given (is_tight least (continued due q)) (class_number (class.Punct q) ∷ []) (class_number (class.Punct p)) tight (single (class_number (class.Punct q)) (class_number (class.Punct p)) (ap (λ q. class_number (class.Punct q)) (sym same))))
  | inr k ↦ has_right (given (is_tight least (continued due q)) (class_number (class.Punct q) ∷ [])) (tails due least ps) (class_number (class.Punct p)) (tails_have due least p f ps k e l)
]

-- a form that would go on is too loose
pub too_loose : (due : Sort) (least : ℕ) (w : List Shape) (i : Spot) (p : Punct) (f : Form) → is_leveled due ≡ true → Off (goes_on due least) w i.place → raw_at w i.place ≡ shape.Punct p → continued due p ≡ Some f → nat_lt (level f) least ≡ true
too_loose due least w i p f h o e g = by_test (nat_lt (level f) least) refl
  where
    by_test : (b : Bool) → nat_lt (level f) least ≡ b → nat_lt (level f) least ≡ true
    by_test true l = l
    by_test false l = absurd (let o' : Off (prefix due ++ tails due least all_puncts) w i.place = subst (λ a. Off a w i.place) (goes_split due least h) o in
        let off : has (tails due least all_puncts) (class_number (class.Punct p)) ≡ false = ap (λ x. has (tails due least all_puncts) (class_in i.state x)) (sym e) ∙ off_right (prefix due) (tails due least all_puncts) w i.place o' i.state in
        let f : true ≡ false = sym (tails_have due least p f all_puncts (in_all p) g l) ∙ off in cc f)
