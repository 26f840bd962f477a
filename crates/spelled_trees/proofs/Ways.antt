-- The ways in which a tree is spelled where it stands, and what holds of each part of a node.
use Rattle.std.proofs.Common.{inl, inr, ℕ, List, [], ◌∷◌}
use Rattle.c_tokens.specs.declared.span.Span.{Span}
use Rattle.c_tokens.specs.declared.token.Shape.{Shape}
use Rattle.c_forms.specs.declared.pieces.Sort.{Sort}
use Rattle.c_forms.specs.declared.pieces.Sort.TheVariants as s
use Rattle.c_forms.specs.declared.pieces.Piece.{Piece}
use Rattle.c_forms.specs.declared.pieces.Piece.TheVariants.{Token, Maybe, Own, TypeTokens, KindName, One, Group, Rest, Anything, Then}
use Rattle.c_forms.specs.declared.forms.Form.{Form}
use Rattle.c_forms.specs.Forests.{Plain, node}
use Rattle.c_reader.specs.Tokens.{Spot}
use Rattle.c_syntax.specs.Reading.{Before, Usual, inside, the_list, spanned}
use Rattle.c_syntax.specs.Spells.{Spelling, Matches, IsNode, Wraps, AnyWord, IsLiteral, At}
use Rattle.spelled_trees.proofs.Parts.{Each, group_each}

module _ (levels : Type 0) (deeper inner : Spelling) (w : List Shape) where
  -- a node of some sort from another spot or to another, one in parentheses, a word or a string literal
  pub data Way (due : Sort) (t : Plain) (i j : Spot) : Type 0 where
    as_node : (own : Sort) (least : ℕ) (k m : Spot) → IsNode levels deeper inner w own least t k m → Way due t i j
    as_wrapped : Wraps levels deeper w due t i j → Way due t i j
    as_word : AnyWord w t i → Way due t i j
    as_literal : IsLiteral w t i → Way due t i j

  pub way : (due : Sort) (least : ℕ) (t : Plain) (i j : Spot) → At levels deeper inner w due least t i j → Way due t i j
  way s.Exp least t i j (inl N) = as_node s.Exp least i j N
  way s.Exp least t i j (inr W) = as_wrapped W
  way s.Declarator least t i j (inl N) = as_node s.Declarator least i j N
  way s.Declarator least t i j (inr W) = as_wrapped W
  way s.AbstractDeclarator least t i j (inl N) = as_node s.AbstractDeclarator least i j N
  way s.AbstractDeclarator least t i j (inr W) = as_wrapped W
  way s.ParamDeclarator least t i j (inl N) = as_node s.ParamDeclarator least i j N
  way s.ParamDeclarator least t i j (inr W) = as_wrapped W
  way s.MemberName least t i j (inl N) = as_node s.MemberName least i j N
  way s.MemberName least t i j (inr W) = as_wrapped W
  way s.Id least t i j A = as_word A.0
  way s.DeclaredId least t i j A = as_word A.0.0
  way s.ParameterId least t i j A = as_word A.0.0
  way s.EnumeratorId least t i j A = as_word A.0
  way s.Literal least t i j A = as_literal A.0
  way s.Spec least t i j A = as_node s.Spec least i j A.1
  way s.PlainSpec least t i j A = as_node s.PlainSpec least i j A.1
  way s.Params least t i j A = as_node s.Params least i j A.1
  way s.BlockItem least t i j (inl A) = as_node s.Decl least i j A.1
  way s.BlockItem least t i j (inr A) = as_node s.Stmt least i A.0 A.1.0
  way s.Item least t i j A = as_node s.Item least _ j A
  way due least t i j A = as_node due least i j A

-- what holds of each tree that is spelled and of each list of such, holds of each part
module _ (w : List Shape) (P : Spelling) (Q : Plain → Type 0) (lists : (s : Span) (ts : List Plain) → Each Q ts → Q (node the_list s ts))
    (S : (due : Sort) (least : ℕ) (t : Plain) (i j : Spot) → P due least t i j → Q t) where
  pub parts_each : (own : Sort) (f : Form) (before : Before) (ps : List Piece) (ts : List Plain) (i j : Spot) → Matches P w own f before ps ts i j → Each Q ts
  parts_each own f before [] ts i j M = rw M.0 tt
  parts_each own f before (Token c ∷ ps) ts i j M = parts_each own f Usual ps ts _ j M.1
  parts_each own f before (Maybe c ∷ ps) ts i j (inl M) = parts_each own f Usual ps ts _ j M.1
  parts_each own f before (Maybe c ∷ ps) ts i j (inr M) = parts_each own f Usual ps ts _ j M
  parts_each own f before (Own ∷ ps) ts i j M = parts_each own f Usual ps ts _ j M.1
  parts_each own f before (One due least ∷ ps) ts i j M = rw M.value (S (inside own due) least M.first i M.place M.is_first, parts_each own f _ ps M.others M.place j M.are_others)
  parts_each own f before (Group r due least ∷ ps) ts i j M = rw (M.value, M.is_first.1.0) (
    lists (spanned i.place M.place.place) M.is_first.0 (group_each w (P due least) Q (S due least) r due before M.is_first.0 i M.place M.is_first.1.1),
    parts_each own f _ ps M.others M.place j M.are_others,
  )
  parts_each own f before (Then e ∷ ps) ts i j M = parts_each own f before ps ts _ j M.1
  parts_each own f before (TypeTokens ∷ ps) ts i j M = absurd M
  parts_each own f before (KindName ∷ ps) ts i j M = absurd M
  parts_each own f before (Rest due ∷ ps) ts i j M = absurd M
  parts_each own f before (Anything ∷ ps) ts i j M = absurd M
