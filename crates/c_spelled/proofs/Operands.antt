-- Where the operands of an expression end, and how one in parentheses is entered.
use Rattle.std.proofs.Common.{◌≡◌, inl, inr, refl, subst, ap, sym, ◌∙◌, ℕ, ◌≤◌, nat_lt, Bool, true, false, ◌||◌, ◌&&◌, List, nat_eq, Option, Some, None, Ok, arith}
use Rattle.std.proofs.lemmas.Bool.{eq-eqb, and_from}
use borrow.Author.Tests.{ltb-false}
use Rattle.c_tokens.specs.declared.token.Punct.{Punct}
use Rattle.c_tokens.specs.declared.token.Punct.TheVariants as punct
use Rattle.c_tokens.specs.declared.token.Shape.{Shape}
use Rattle.c_tokens.specs.declared.class.Class.TheVariants as class
use Rattle.c_tokens.specs.ClassNumbers.{class_number}
use Rattle.c_forms.specs.declared.pieces.Event.TheVariants as event
use Rattle.c_forms.specs.declared.pieces.Sort.{Sort}
use Rattle.c_forms.specs.declared.pieces.Sort.TheVariants as s
use Rattle.c_forms.specs.declared.forms.Form.{Form}
use Rattle.c_forms.specs.Forests.{Plain}
use Rattle.c_forms.specs.Measures.{level, pieces}
use Rattle.c_forms.specs.Sets.{has, starts, goes_on}
use Rattle.c_reader.specs.States.{happens}
use Rattle.c_reader.specs.Tokens.{Spot, step, turned, class_at}
use Rattle.c_reader.specs.Readers.{Reader, Body, Refuse, Look, Fits, read, choose}
use Rattle.c_reader.proofs.Local.{from}
use Rattle.c_syntax.specs.Reading.{Parts}
use Rattle.c_syntax.specs.Grammar.{Standing, standing, begins, left_level, primary, parenthesized}
use Rattle.c_syntax.specs.Spells.{Is}
use Rattle.c_spelled.specs.Operators.{is_apt, unapt, prefix}
use Rattle.c_spelled.proofs.Off.{Off, off_left}
use Rattle.c_spelled.proofs.Levels.{off_unapt}
use Rattle.c_spelled.proofs.Climb.{Tight, tight_in, Rises}

abbrev held_or : Shape → Option Shape → Shape
held_or x (Some y) = y
held_or x None = x

pub held_so : (x y : Shape) → Some x ≡ Some y → y ≡ x
held_so x y e = ap (held_or x) (sym e)

pub no_string : (p : Punct) → nat_eq (class_number class.Str) (class_number (class.Punct p)) ≡ false
no_string punct.LeftBracket = refl
no_string _ = refl

-- a form may go on after a left operand that is tight enough
pub apt_so : (f : Form) (m l : ℕ) → level f ≤ m → m ≤ 17 → left_level (pieces f) ≡ m → Tight m l → is_apt l f ≡ true
apt_so f m l up few e t = by_less (nat_lt (level f) l) refl
  where
    by_less : (b : Bool) → nat_lt (level f) l ≡ b → (b || (nat_eq (level f) l && nat_eq (left_level (pieces f)) l)) ≡ true
    by_less true y = refl
    by_less false y = let le : l ≤ level f = ltb-false (level f) l y in let k : m ≤ l = tight_in m l few t in
        and_from (nat_eq (level f) l) (nat_eq (left_level (pieces f)) l) (eq-eqb (level f) l (omega (arith, le, k, up))) (eq-eqb (left_level (pieces f)) l (e ∙ omega (arith, le, k, up)))

-- an operand's end
abbrev pub EndOff : Sort → List Shape → ℕ → Spot → Type 0
EndOff due w m k = (l : ℕ) → Tight m l → Off (unapt due l) w k.place

pub end_off : (least : ℕ) (w : List Shape) (j : Spot) → Off (goes_on s.Exp least) w j.place → EndOff s.Exp w least j
end_off least w j o l (inl le) = off_unapt s.Exp least l w j.place refl le o
end_off least w j o l (inr e) = subst (λ l. Off (unapt s.Exp l) w j.place) (sym e) (off_left (prefix s.Exp) _ w j.place o)

-- the parenthesis that an operand of sizeof begins with
abbrev pub opened_head : Reader Standing
opened_head = Look (λ x. choose (begins s.Exp x) (Fits 0 (standing 17 (parenthesized s.Exp))) Refuse)

-- where it stands no type name follows it, and it is read after it
abbrev pub Enters : Body → ℕ → List Shape → ℕ → Spot → Standing → Spot → Type 0
Enters body d w l i first place = 15 ≤ l → Is w (class.Punct punct.LeftParen) i
    → (has (starts s.TypeName) (class_at w (turned (happens event.Aside) (step i))) ≡ false) × (read body d opened_head (from w (step i)) ≡ Ok (first, from w place))

abbrev pub RisesExp : Body → ℕ → List Shape → Parts → ℕ → ℕ → Spot → Plain → ℕ → Spot → Type 0
RisesExp body d w part l most i t m j = Rises body d w s.Exp l i.place (Enters body d w l i) (primary part l) most i t m j
