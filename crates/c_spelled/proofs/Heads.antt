-- What declarators share.
use Rattle.std.proofs.Common.{◌≡◌, ◌⊎◌, ap, sym, ◌∙◌, ℕ, not, true, false, ◌&&◌, List, [], ◌∷◌, nat_eq}
use Rattle.c_tokens.specs.declared.token.Punct.TheVariants as punct
use Rattle.c_tokens.specs.declared.token.Shape.{Shape}
use Rattle.c_tokens.specs.declared.class.Class.{Class}
use Rattle.c_tokens.specs.declared.class.Class.TheVariants as class
use Rattle.c_tokens.specs.ClassNumbers.{class_number}
use Rattle.c_forms.specs.declared.pieces.Event.TheVariants as event
use Rattle.c_forms.specs.declared.pieces.Sort.{Sort}
use Rattle.c_forms.specs.declared.pieces.Sort.TheVariants as s
use Rattle.c_forms.specs.Forests.{Plain}
use Rattle.c_forms.specs.Sets.{Classes}
use Rattle.c_reader.specs.States.{State, happens}
use Rattle.c_reader.specs.Tokens.{Spot, seen_at, class_at}
use Rattle.c_reader.specs.Readers.{Body}
use Rattle.c_syntax.specs.Reading.{Parts, is_class, is_absent}
use Rattle.c_syntax.specs.Grammar.{absent_at, declarator_head}
use Rattle.c_spelled.proofs.Off.{Off, On}
use Rattle.c_syntax.specs.Allowed.{may_happen}
use Rattle.c_reader.specs.States.{Kept, is_bare, top as top_kept}
use Rattle.c_spelled.proofs.Climb.{Rises}

-- a parenthesis, `*` and, where a name may stand, a word begin a declarator
abbrev pub heads : Sort → Classes
heads s.AbstractDeclarator = class_number (class.Punct punct.LeftParen) ∷ (class_number (class.Punct punct.Star) ∷ [])
heads due = class_number (class.Punct punct.LeftParen) ∷ (class_number (class.Punct punct.Star) ∷ (class_number class.Word ∷ []))

-- what follows nothing does not begin a declarator
abbrev pub Clear : Sort → List Shape → Plain → Spot → Type 0
Clear due w t k = is_absent t ≡ true → Off (heads due) w k.place

abbrev pub RisesSo : Body → ℕ → List Shape → Parts → Sort → ℕ → ℕ → Spot → Plain → ℕ → Spot → Type 0
RisesSo body d w part due l most i t m j = Rises body d w due l i.place (λ _ _. Unit {0}) (declarator_head part due l) most i t m j

-- a declarator is there, or there is nothing
abbrev pub There : Sort → Plain → Spot → Spot → Type 0
There due t i k = (is_absent t ≡ false) ⊎ ((i ≡ k) × (t ≡ (absent_at i.place).tree))

pub seal_so : (k : State) (a : List Kept) → a ≡ k.kept ∷ k.aside → (s : State) → s.aside ≡ a → may_happen event.Seal (happens event.Resume s) ≡ true → not (k.kept.is_function_due && is_bare k.kept.near) ≡ true
seal_so k a e s f h = ap (λ a. not ((top_kept a).is_function_due && is_bare (top_kept a).near)) (sym (f ∙ e)) ∙ h

pub not_class : (w : List Shape) (c : Class) (i : Spot) (num : ℕ) → class_at w i ≡ num → nat_eq num (class_number c) ≡ false → is_class c (seen_at w i) ≡ false
not_class w c i num e n = ap (λ k. nat_eq k (class_number c)) e ∙ n

pub in_set : (w : List Shape) (a : Classes) (i : Spot) (n : ℕ) → class_at w i ≡ n → On a w i.place → On a w i.place
in_set w a i n e o = o
