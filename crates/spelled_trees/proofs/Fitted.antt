-- What spells the pieces of a row fits them.
use Rattle.std.proofs.Common.{◌≡◌, inl, inr, refl, ap, ◌∙◌, subst, ℕ, Bool, true, false, not, ◌&&◌, ◌||◌, if◌then◌else◌, List, [], ◌∷◌, nat_lt}
use Rattle.c_tokens.specs.declared.token.Shape.{Shape}
use Rattle.c_forms.specs.declared.pieces.Sort.{Sort}
use Rattle.c_forms.specs.declared.pieces.Sort.TheVariants as s
use Rattle.c_forms.specs.declared.pieces.Repetition.{Repetition}
use Rattle.c_forms.specs.declared.pieces.Piece.{Piece}
use Rattle.c_forms.specs.declared.pieces.Piece.TheVariants.{Token, Maybe, Own, TypeTokens, KindName, One, Group, Rest, Anything, Then}
use Rattle.c_forms.specs.declared.places.Occupant.{Occupant}
use Rattle.c_forms.specs.declared.places.Occupant.TheVariants as what
use Rattle.c_forms.specs.declared.forms.Form.{Form}
use Rattle.c_forms.specs.Forests.{Plain, forest}
use Rattle.c_forms.specs.Measures.{is_plain}
use Rattle.c_tokens.specs.declared.kind.Kind.TheVariants as kind
use Rattle.c_forms.specs.Places.{is_sort, serves, stands, stands_as, joins, joins_as, occupant_of}
use Rattle.c_forms.specs.Fits.{fits, number, is_single, is_spliced, all_stand, all_join, elements}
use Rattle.c_reader.specs.Tokens.{Spot}
use Rattle.c_syntax.specs.Reading.{Before, Usual, inside}
use Rattle.c_syntax.specs.Spells.{Spelling, Matches, IsNode, At, may_be}
use Rattle.spelled_trees.proofs.Parts.{both, left_of, right_of, Each, is_low, Numbered, numbered, group_each}

-- a declarator stands inside of one alone, and a least number is 0 or 1
abbrev pub is_fine : Sort → List Piece → Bool
is_fine own [] = true
is_fine own (One s.InnerDeclarator least ∷ ps) = serves s.Declarator own && is_fine own ps
is_fine own (Group r due least ∷ ps) = is_low r && is_fine own ps
is_fine own (p ∷ ps) = is_fine own ps

-- ---- what stands as one sort stands as another

occupies_inner : (own : Sort) (o : Occupant) → serves s.Declarator own ≡ true → stands_as o (inside own s.InnerDeclarator) ≡ true → stands_as o s.InnerDeclarator ≡ true
occupies_inner s.Declarator (what.Sort a) h k = k
occupies_inner s.Declarator (what.One a) h k = k
occupies_inner s.Declarator o h k = absurd (cc k)
occupies_inner s.AbstractDeclarator (what.Sort a) h k = k
occupies_inner s.AbstractDeclarator (what.One a) h k = k
occupies_inner s.AbstractDeclarator o h k = absurd (cc k)
occupies_inner s.ParamDeclarator (what.Sort a) h k = k
occupies_inner s.ParamDeclarator (what.One a) h k = k
occupies_inner s.ParamDeclarator o h k = absurd (cc k)
occupies_inner s.MemberName (what.Sort a) h k = k
occupies_inner s.MemberName (what.One a) h k = k
occupies_inner s.MemberName o h k = absurd (cc k)
occupies_inner s.InnerDeclarator o h k = k
occupies_inner own o h k = absurd (cc h)

occupies_member : (o : Occupant) → stands_as o s.Declarator ≡ true → stands_as o s.MemberName ≡ true
occupies_member (what.Sort a) k = k
occupies_member (what.One a) k = k
occupies_member o k = absurd (cc k)

or_last : (a b : Bool) {c : Bool} → c ≡ true → (a || b || c) ≡ true
or_last true b h = refl
or_last false true h = refl
or_last false false h = h

or_first : (a b c : Bool) → (a || b) ≡ true → (a || b || c) ≡ true
or_first true b c h = refl
or_first false true c h = refl
or_first false false c h = absurd (cc h)

occupies_block : (o : Occupant) → stands_as o s.Decl ≡ true → stands_as o s.BlockItem ≡ true
occupies_block (what.Sort a) k = or_last (is_sort a s.Stmt) (is_sort a s.Block) k
occupies_block (what.One kind.Decl) k = refl
occupies_block (what.One a) k = absurd (cc k)
occupies_block o k = absurd (cc k)

occupies_block_as : (o : Occupant) → stands_as o s.Stmt ≡ true → stands_as o s.BlockItem ≡ true
occupies_block_as (what.Sort a) k = or_first (is_sort a s.Stmt) (is_sort a s.Block) (is_sort a s.Decl) k
occupies_block_as (what.One kind.Stmt) k = refl
occupies_block_as (what.One a) k = absurd (cc k)
occupies_block_as o k = absurd (cc k)

joins_where : (o : Occupant) (due : Sort) → stands_as o due ≡ true → joins_as o due ≡ true
joins_where (what.Sort a) due k = k
joins_where (what.One a) due k = k
joins_where o due k = absurd (cc k)

-- ---- groups

all_stand_in : (due : Sort) (ts : List Plain) → Each (λ t. stands t.form due ≡ true) ts → all_stand due (forest ts) ≡ true
all_stand_in due [] E = refl
all_stand_in due (t ∷ ts) E = both (stands t.form due) (all_stand due (forest ts)) E.0 (all_stand_in due ts E.1)

all_join_in : (due : Sort) (ts : List Plain) → Each (λ t. stands t.form due ≡ true) ts → all_join due (forest ts) ≡ true
all_join_in due [] E = refl
all_join_in due (t ∷ ts) E = both (joins t.form due) (all_join due (forest ts)) (joins_where (occupant_of t.form) due E.0) (all_join_in due ts E.1)

all_by : (b : Bool) (due : Sort) (ts : List Plain) → Each (λ t. stands t.form due ≡ true) ts → (if b then all_join due (forest ts) else all_stand due (forest ts)) ≡ true
all_by true due ts E = all_join_in due ts E
all_by false due ts E = all_stand_in due ts E

most : (b c : Bool) → (b ≡ true → c ≡ true) → (not b || c) ≡ true
most true c h = h refl
most false c h = refl

counted : (r : Repetition) (due : Sort) (ts : List Plain) → Numbered r ts → Each (λ t. stands t.form due ≡ true) ts → elements r due (forest ts) ≡ true
counted r due ts N E = rw (all_by (is_spliced r) due ts E, N.least) (most (is_single r) (nat_lt (number (forest ts)) 2) N.most)

-- ---- pieces

-- where no declarator inside one is due
abbrev pub is_inner : Sort → Bool
is_inner s.InnerDeclarator = true
is_inner due = false

pub inside_is : (own due : Sort) → inside own due ≡ (if is_inner due then inside own s.InnerDeclarator else due)
inside_is s.MemberName s.InnerDeclarator = refl
inside_is s.MemberName due = refl
inside_is own s.InnerDeclarator = refl
inside_is own due = refl

-- where no declarator inside one is due, the sort is what the piece says
pub at_sort : (P : Spelling) (own due : Sort) (least : ℕ) (t : Plain) (i j : Spot) → is_inner due ≡ false → P (inside own due) least t i j → P due least t i j
at_sort P own due least t i j e p = subst (λ x. P x least t i j) (inside_is own due ∙ ap (λ b. if b then inside own s.InnerDeclarator else due) e) p

pub inside_stands : (own due : Sort) (least : ℕ) (ps : List Piece) (f : Form) → is_fine own (One due least ∷ ps) ≡ true → stands f (inside own due) ≡ true → stands f due ≡ true
inside_stands own s.InnerDeclarator least ps f h k = occupies_inner own (occupant_of f) (left_of (serves s.Declarator own) (is_fine own ps) h) k
inside_stands own due least ps f h k = rw (inside_is own due) at k

after_one : (own due : Sort) (least : ℕ) (ps : List Piece) → is_fine own (One due least ∷ ps) ≡ true → is_fine own ps ≡ true
after_one own s.InnerDeclarator least ps h = right_of (serves s.Declarator own) (is_fine own ps) h
after_one own due least ps h = h

module _ (w : List Shape) (P : Spelling) (S : (due : Sort) (least : ℕ) (t : Plain) (i j : Spot) → P due least t i j → stands t.form due ≡ true) where
  pub fitted : (own : Sort) (f : Form) (before : Before) (ps : List Piece) (ts : List Plain) (i j : Spot) → is_fine own ps ≡ true → Matches P w own f before ps ts i j → fits ps (forest ts) ≡ true
  fitted own f before [] ts i j h M = rw M.0 refl
  fitted own f before (Token c ∷ ps) ts i j h M = fitted own f Usual ps ts _ j h M.1
  fitted own f before (Maybe c ∷ ps) ts i j h (inl M) = fitted own f Usual ps ts _ j h M.1
  fitted own f before (Maybe c ∷ ps) ts i j h (inr M) = fitted own f Usual ps ts _ j h M
  fitted own f before (Own ∷ ps) ts i j h M = fitted own f Usual ps ts _ j h M.1
  fitted own f before (One due least ∷ ps) ts i j h M = rw M.value (both (stands M.first.form due) (fits ps (forest M.others))
      (inside_stands own due least ps M.first.form h (S (inside own due) least M.first i M.place M.is_first))
      (fitted own f _ ps M.others M.place j (after_one own due least ps h) M.are_others))
  fitted own f before (Group r due least ∷ ps) ts i j h M = rw (M.value, M.is_first.1.0) (both (elements r due (forest M.is_first.0)) (fits ps (forest M.others))
      (counted r due M.is_first.0 (numbered w (P due least) r due before M.is_first.0 i M.place (left_of (is_low r) (is_fine own ps) h) M.is_first.1.1)
      (group_each w (P due least) (λ t. stands t.form due ≡ true) (S due least) r due before M.is_first.0 i M.place M.is_first.1.1))
      (fitted own f _ ps M.others M.place j (right_of (is_low r) (is_fine own ps) h) M.are_others))
  fitted own f before (Then e ∷ ps) ts i j h M = fitted own f before ps ts _ j h M.1
  fitted own f before (TypeTokens ∷ ps) ts i j h M = absurd M
  fitted own f before (KindName ∷ ps) ts i j h M = absurd M
  fitted own f before (Rest due ∷ ps) ts i j h M = absurd M
  fitted own f before (Anything ∷ ps) ts i j h M = absurd M

-- ---- nodes

pub standing : (due : Sort) (f : Form) → may_be due f ≡ true → stands f due ≡ true
standing due f h = left_of (stands f due) _ (right_of (is_plain f) _ h)

module _ (levels : Type 0) (deeper inner : Spelling) (w : List Shape) (D : (due : Sort) (least : ℕ) (t : Plain) (i j : Spot) → deeper due least t i j → stands t.form due ≡ true) where
  by_node : (due : Sort) (least : ℕ) (t : Plain) (i j : Spot) → IsNode levels deeper inner w due least t i j → stands t.form due ≡ true
  by_node due least t i j N = standing due t.form N.may

  pub stands_at : (due : Sort) (least : ℕ) (t : Plain) (i j : Spot) → At levels deeper inner w due least t i j → stands t.form due ≡ true
  stands_at s.Exp least t i j (inl N) = by_node s.Exp least t i j N
  stands_at s.Exp least t i j (inr W) = D s.Exp 1 t _ W.last W.within
  stands_at s.Declarator least t i j (inl N) = by_node s.Declarator least t i j N
  stands_at s.Declarator least t i j (inr W) = D s.Declarator 1 t _ W.last W.within
  stands_at s.AbstractDeclarator least t i j (inl N) = by_node s.AbstractDeclarator least t i j N
  stands_at s.AbstractDeclarator least t i j (inr W) = D s.AbstractDeclarator 1 t _ W.last W.within
  stands_at s.ParamDeclarator least t i j (inl N) = by_node s.ParamDeclarator least t i j N
  stands_at s.ParamDeclarator least t i j (inr W) = D s.ParamDeclarator 1 t _ W.last W.within
  stands_at s.MemberName least t i j (inl N) = by_node s.MemberName least t i j N
  stands_at s.MemberName least t i j (inr W) = occupies_member (occupant_of t.form) (D s.Declarator 1 t _ W.last W.within)
  stands_at s.Id least t i j A = rw (A.0.1.1) refl
  stands_at s.DeclaredId least t i j A = rw (A.0.0.1.1) refl
  stands_at s.ParameterId least t i j A = rw (A.0.0.1.1) refl
  stands_at s.EnumeratorId least t i j A = rw (A.0.1.1) refl
  stands_at s.Literal least t i j A = rw (A.0.1.1) refl
  stands_at s.Spec least t i j A = by_node s.Spec least t i j A.1
  stands_at s.PlainSpec least t i j A = by_node s.PlainSpec least t i j A.1
  stands_at s.Params least t i j A = by_node s.Params least t i j A.1
  stands_at s.BlockItem least t i j (inl A) = occupies_block (occupant_of t.form) (by_node s.Decl least t i j A.1)
  stands_at s.BlockItem least t i j (inr A) = occupies_block_as (occupant_of t.form) (by_node s.Stmt least t i A.0 A.1.0)
  stands_at s.Item least t i j A = by_node s.Item least t _ j A
  stands_at due least t i j A = by_node due least t i j A
