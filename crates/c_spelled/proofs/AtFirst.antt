-- How the readers of expressions and of specifiers begin at a word.
use Rattle.std.proofs.Common.{◌≡◌, ap, sym, ◌∙◌, ℕ, suc, Bool, true, false, ◌||◌, List, nat_eq, Ok}
use Rattle.c_tokens.specs.declared.token.Word.{Word}
use Rattle.c_tokens.specs.declared.token.Shape.{Shape}
use Rattle.c_tokens.specs.declared.token.Shape.TheVariants as shape
use Rattle.c_tokens.specs.declared.class.Class.TheVariants as class
use Rattle.c_forms.specs.declared.pieces.Event.TheVariants as event
use Rattle.c_forms.specs.declared.pieces.Sort.TheVariants as s
use Rattle.c_forms.specs.declared.forms.Form.TheVariants as form
use Rattle.c_forms.specs.declared.forms.SpecForm.TheVariants as spec
use Rattle.c_forms.specs.declared.forms.ExpForm.TheVariants as exp
use Rattle.c_forms.specs.Sets.{has, starts, type_word}
use Rattle.c_forms.specs.Tokens.{begun}
use Rattle.c_reader.specs.States.{happens}
use Rattle.c_reader.specs.Tokens.{Spot, step, turned, raw_at, class_at}
use Rattle.c_reader.specs.Readers.{Input, Found, Outcome, read, and_then, pick, only, choose, Refuse}
use Rattle.c_reader.proofs.Local.{from}
use Rattle.c_reader.proofs.Loops.{same_answer, same_place}
use Rattle.c_reader.proofs.Seen.{seen_word, seen_type}
use Rattle.c_syntax.specs.Allowed.{may_stand}
use Rattle.c_syntax.specs.Reading.{nothing, node, joined, pieces_in, completed}
use Rattle.c_syntax.specs.Grammar.{Standing, entered, sized, begun_by, spec_of, name_leaf, typedef_leaf, whole, primary, expression, climb, specifier, specifier_by, in_place, body}
use Rattle.c_syntax.specs.Spells.{Is}
use Rattle.c_spelled.proofs.Stmts.{AtWord}
use Rattle.c_spelled.proofs.Blocks.{AtType}

module _ (d : ℕ) (w : List Shape) (n : ℕ) where
  abbrev as_seen : Spot → Shape → ℕ → Outcome Standing
  as_seen i x c = read body d (choose (nat_eq c 34) (entered 1 i.place) (choose (nat_eq c 22) (sized (in_place n) 1 i.place) (choose (has (starts s.Exp) c) (begun_by (in_place n) 1 (begun s.Exp x)) Refuse))) (from w i)

  abbrev named : Word → Spot → Bool → Outcome Standing
  named word i b = and_then (and_then (and_then {A = Unit {0}} (pick (only b) (from w i)) (λ _ j. Ok (nothing, j))) (λ g j. Ok (node (form.Exp (exp.Name word)) i.place j.at.place (joined nothing g), j))) (λ x j. Ok (record { found = x; level = 17 }, j))

  name_read : (word : Word) (i : Spot) → Is w class.Word i → as_seen i (shape.Word word) 113 ≡ Ok (record { found = name_leaf i.place (shape.Word word); level = 17 }, from w (step i))
  unfolding whole completed pieces_in
  name_read word i c = ap (λ n. named word i (nat_eq 113 n || false)) c

  primary_word : (word : Word) (i : Spot) → raw_at w i.place ≡ shape.Word word → Is w class.Word i → read body d (primary (in_place n) 1) (from w i) ≡ Ok (record { found = name_leaf i.place (raw_at w i.place); level = 17 }, from w (step i))
  unfolding primary
  primary_word word i e c = ap (as_seen i (raw_at w i.place)) c ∙ ap (λ x. as_seen i x 113) e ∙ name_read word i c ∙ ap (λ x. Ok (record { found = name_leaf i.place x; level = 17 }, from w (step i))) (sym e)

  pub at_word : AtWord body d w (in_place (suc n))
  unfolding in_place expression
  at_word i c = let W = seen_word i.state (raw_at w i.place) c in
      ap (λ o. and_then o (λ y j. read body d (climb s.Exp 1 i.place y) j)) (primary_word W.0 i W.1 c)

  abbrev spec_seen : Spot → Shape → ℕ → Outcome Found
  spec_seen i x c = read body d (choose (has (starts s.Spec) c) (specifier_by (in_place n) s.Spec i.state (spec_of s.Spec (nat_eq c type_word) (record { shape = x; class = c }))) Refuse) (from w i)

  abbrev the_type : Word → Spot → Bool → Outcome Found
  the_type word i b = read body d (choose b (whole (in_place n) s.Spec (form.Spec (spec.Typedef word))) Refuse) (from w i)

  abbrev typed : Word → Spot → Bool → Outcome Found
  typed word i b = and_then (and_then {A = Unit {0}} (pick (only b) (from w i)) (λ _ j. Ok (nothing, record j { at = turned (happens event.SoleType) j.at }))) (λ g j. Ok (node (form.Spec (spec.Typedef word)) i.place j.at.place (joined nothing g), j))

  type_read : (word : Word) (i : Spot) → class_at w i ≡ type_word → the_type word i true ≡ Ok (typedef_leaf i.place (shape.Word word), from w (turned (happens event.SoleType) (step i)))
  unfolding whole completed pieces_in
  type_read word i c = ap (λ n. typed word i (nat_eq type_word n || false)) c

  pub at_type : AtType body d w (in_place (suc n))
  unfolding in_place specifier
  at_type i x j c e = let W = seen_type i.state (raw_at w i.place) c in
      let seen : read body d (specifier (in_place n) s.Spec) (from w i) ≡ the_type W.0 i (may_stand i.state (form.Spec (spec.Typedef W.0))) = ap (spec_seen i (raw_at w i.place)) c ∙ ap (λ x. spec_seen i x type_word) W.1 in
      by_stand W.0 W.1 (may_stand i.state (form.Spec (spec.Typedef W.0))) (sym seen ∙ e)
    where
      by_stand : (word : Word) → raw_at w i.place ≡ shape.Word word → (b : Bool) → the_type word i b ≡ Ok (x, j) → (x ≡ typedef_leaf i.place (raw_at w i.place)) × (j ≡ from w (turned (happens event.SoleType) (step i)))
      by_stand word r false f = absurd (cc f)
      by_stand word r true f = let leaf : Found = typedef_leaf i.place (shape.Word word) in let k : Input = from w (turned (happens event.SoleType) (step i)) in
          let both : Ok (x, j) ≡ Ok (leaf, k) = sym f ∙ type_read word i c in
          (same_answer x leaf j k both ∙ ap (λ x. typedef_leaf i.place x) (sym r), same_place x leaf j k both)
