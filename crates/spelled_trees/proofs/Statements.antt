-- Statements that end open, and the order of declarations and statements in a block.
use Rattle.std.proofs.Common.{◌≡◌, inl, inr, refl, ap, sym, ◌∙◌, subst, ℕ, Bool, true, false, not, ◌||◌, List, [], ◌∷◌, None}
use Rattle.c_tokens.specs.declared.token.Shape.{Shape}
use Rattle.c_tokens.specs.declared.token.Key.TheVariants as key
use Rattle.c_tokens.specs.declared.class.Class.TheVariants as class
use Rattle.c_forms.specs.declared.pieces.Sort.{Sort}
use Rattle.c_forms.specs.declared.pieces.Sort.TheVariants as s
use Rattle.c_forms.specs.declared.pieces.Repetition.TheVariants.{Greedy}
use Rattle.c_forms.specs.declared.pieces.Piece.{Piece}
use Rattle.c_forms.specs.declared.pieces.Piece.TheVariants.{Token, Maybe, Own, TypeTokens, KindName, One, Group, Rest, Anything, Then}
use Rattle.c_forms.specs.declared.forms.Form.{Form}
use Rattle.c_forms.specs.declared.forms.Form.TheVariants as form
use Rattle.c_forms.specs.declared.forms.StmtForm.{StmtForm}
use Rattle.c_forms.specs.declared.forms.StmtForm.TheVariants as stmt
use Rattle.c_forms.specs.declared.forms.GroupForm.TheVariants as group
use Rattle.c_forms.specs.Forests.{Plain, forest}
use Rattle.c_forms.specs.Measures.{pieces, ends_as_last_part}
use Rattle.c_forms.specs.Opens.{last_opens, ends_open}
use Rattle.c_forms.specs.Rules.{is_none, in_if, unless}
use Rattle.c_forms.specs.declared.rules.Rule.TheVariants.{OpenPart}
use Rattle.c_forms.specs.Sets.{has, starts}
use Rattle.c_reader.specs.Tokens.{Spot, step, class_at}
use Rattle.c_syntax.specs.Reading.{Before, before_by, is_absent, Usual}
use Rattle.c_syntax.specs.Spells.{Spelling, Is, IsGroup, Matches}
use Rattle.spelled_trees.specs.Told.{Ended}
use Rattle.spelled_trees.proofs.Parts.{right_of}
use Rattle.spelled_trees.proofs.Fitted.{is_inner, at_sort}
use Rattle.spelled_trees.proofs.Declarators.{two}

-- ---- the last part

abbrev pub is_stmt : Sort → Bool
is_stmt s.Stmt = true
is_stmt due = false

-- whether a statement is the last piece
abbrev pub ends_in : List Piece → Bool
ends_in [] = false
ends_in (One due least ∷ []) = is_stmt due
ends_in (p ∷ ps) = ends_in ps

stmt_is : (due : Sort) → is_stmt due ≡ true → due ≡ s.Stmt
stmt_is s.Stmt h = refl
stmt_is due h = absurd (cc h)

-- a list of trees that ends in a statement
pub record Last (P : Spelling) (ts : List Plain) (j : Spot) : Type 0 where
  pub part : Plain
  pub least : ℕ
  pub from : Spot
  pub spelled : P s.Stmt least part from j
  pub opens : last_opens (forest ts) ≡ ends_open part
  pub some : is_none (forest ts) ≡ false

over_first : (t : Plain) (ts : List Plain) → is_none (forest ts) ≡ false → last_opens (forest (t ∷ ts)) ≡ last_opens (forest ts)
over_first t [] h = absurd (cc h)
over_first t (x ∷ ts) h = refl

with_first : {P : Spelling} {ts us : List Plain} {j : Spot} (t : Plain) → ts ≡ t ∷ us → Last P us j → Last P ts j
with_first {us = us} t e L = record { part = L.part; least = L.least; from = L.from; spelled = L.spelled; opens = ap (λ l. last_opens (forest l)) e ∙ (over_first t us L.some ∙ L.opens); some = ap (λ l. is_none (forest l)) e }

module _ (w : List Shape) (P : Spelling) where
  last_one : (own due : Sort) (f : Form) (before : Before) (least : ℕ) (ts : List Plain) (i j : Spot) → due ≡ s.Stmt → Matches P w own f before (One due least ∷ []) ts i j → Last P ts j
  last_one own due f before least ts i j e M = let p = at_sort P own due least M.first i M.place (ap is_inner e) M.is_first in let v = M.value ∙ ap (λ l. M.first ∷ l) M.are_others.0 in record {
    part = M.first;
    least = least;
    from = i;
    spelled = subst (λ x. P x least M.first i j) e (subst (λ k. P due least M.first i k) M.are_others.1 p);
    opens = ap (λ l. last_opens (forest l)) v;
    some = ap (λ l. is_none (forest l)) v;
  }

  last_part : (own : Sort) (f : Form) (before : Before) (ps : List Piece) (ts : List Plain) (i j : Spot) → ends_in ps ≡ true → Matches P w own f before ps ts i j → Last P ts j
  last_part own f before [] ts i j h M = absurd (cc h)
  last_part own f before (One due least ∷ []) ts i j h M = last_one own due f before least ts i j (stmt_is due h) M
  last_part own f before (One due least ∷ (p ∷ ps)) ts i j h M = with_first M.first M.value (last_part own f _ (p ∷ ps) M.others M.place j h M.are_others)
  last_part own f before (Token c ∷ ps) ts i j h M = last_part own f Usual ps ts _ j h M.1
  last_part own f before (Maybe c ∷ ps) ts i j h (inl M) = last_part own f Usual ps ts _ j h M.1
  last_part own f before (Maybe c ∷ ps) ts i j h (inr M) = last_part own f Usual ps ts _ j h M
  last_part own f before (Own ∷ ps) ts i j h M = last_part own f Usual ps ts _ j h M.1
  last_part own f before (Group r due least ∷ ps) ts i j h M = with_first M.first M.value (last_part own f _ ps M.others M.place j h M.are_others)
  last_part own f before (Then e ∷ ps) ts i j h M = last_part own f before ps ts _ j h M.1
  last_part own f before (TypeTokens ∷ ps) ts i j h M = absurd M
  last_part own f before (KindName ∷ ps) ts i j h M = absurd M
  last_part own f before (Rest due ∷ ps) ts i j h M = absurd M
  last_part own f before (Anything ∷ ps) ts i j h M = absurd M

  -- ---- `if`

  -- whether an `else` begins somewhere
  abbrev Follows : Spot → Bool
  Follows i = has (starts s.ElsePart) (class_at w i)

  follows : (i : Spot) → Is w (class.Key key.Else) i → Follows i ≡ true
  follows i e = ap (λ c. has (starts s.ElsePart) c) e

  -- the parts of an `if`
  record Parts (ts : List Plain) (j : Spot) : Type 0 where
    condition : Plain
    part : Plain
    last : Plain
    elses : List Plain
    least : ℕ
    from : Spot
    at : Spot
    value : ts ≡ condition ∷ (part ∷ (last ∷ []))
    spelled : P s.Stmt least part from at
    parts : last.parts ≡ forest elses
    listed : ends_as_last_part last.form ≡ true
    chosen : IsGroup Greedy s.ElsePart (P s.ElsePart 0) (before_by (is_absent part)) w elses at j

  if_parts : (own : Sort) (before : Before) (ts : List Plain) (i j : Spot) → Matches P w own (form.Stmt stmt.If) before (pieces (form.Stmt stmt.If)) ts i j → Parts ts j
  if_parts own before ts i j M = let C = M.1.1 in let B = C.are_others.1 in let E = B.are_others in record {
    condition = C.first;
    part = B.first;
    last = E.first;
    elses = E.is_first.0;
    least = 0;
    from = step C.place;
    at = B.place;
    value = C.value ∙ ap (λ l. C.first ∷ l) (two B.value E.value E.are_others.0);
    spelled = at_sort P own s.Stmt 0 B.first _ B.place refl B.is_first;
    parts = ap (λ (x : Plain). x.parts) E.is_first.1.0;
    listed = ap (λ (x : Plain). ends_as_last_part x.form) E.is_first.1.0;
    chosen = subst (λ k. IsGroup Greedy s.ElsePart (P s.ElsePart 0) (before_by (is_absent B.first)) w E.is_first.0 B.place k) E.are_others.1 E.is_first.1.1;
  }

  by_last : (ts : List Plain) (j : Spot) → ((least : ℕ) (t : Plain) (i j : Spot) → P s.Stmt least t i j → Ended w s.Stmt t i j) → Last P ts j → last_opens (forest ts) ≡ true → Follows j ≡ false
  by_last ts j O L h = O L.least L.part L.from j L.spelled (sym L.opens ∙ h)

  open_if : (ts : List Plain) (j : Spot) → Parts ts j → ((least : ℕ) (t : Plain) (i j : Spot) → P s.ElsePart least t i j → Ended w s.ElsePart t i j) → last_opens (forest ts) ≡ true → Follows j ≡ false
  open_if ts j I E h = by_else I.chosen (right_of (ends_as_last_part I.last.form) (last_opens I.last.parts) (sym (ap (λ l. last_opens (forest l)) I.value) ∙ h))
    where
      by_else : IsGroup Greedy s.ElsePart (P s.ElsePart 0) (before_by (is_absent I.part)) w I.elses I.at j → last_opens I.last.parts ≡ true → Follows j ≡ false
      by_else (inl A) k = subst (λ x. Follows x ≡ false) A.1.1 A.0
      by_else (inr O) k = (E 0 O.0 I.at j O.1.1).1 (sym (ap last_opens (I.parts ∙ ap forest O.1.0)) ∙ k)

  contrary : {A : Type 0} {b : Bool} → b ≡ true → b ≡ false → A
  contrary e f = absurd (cc (e, f))

  unless_or : (b c : Bool) → c ≡ false → unless (b || not c) OpenPart None ≡ None
  unless_or true c e = refl
  unless_or false true e = absurd (cc e)
  unless_or false false e = refl

  close_if : (ts : List Plain) (j : Spot) → Parts ts j → ((least : ℕ) (t : Plain) (i j : Spot) → P s.Stmt least t i j → Ended w s.Stmt t i j) → ((least : ℕ) (t : Plain) (i j : Spot) → P s.ElsePart least t i j → Ended w s.ElsePart t i j) → in_if (forest ts) ≡ None
  close_if ts j I O E = rw I.value (by_else I.chosen (ends_open I.part) refl)
    where
      by_else : IsGroup Greedy s.ElsePart (P s.ElsePart 0) (before_by (is_absent I.part)) w I.elses I.at j → (b : Bool) → ends_open I.part ≡ b → in_if (forest (I.condition ∷ (I.part ∷ (I.last ∷ [])))) ≡ None
      by_else (inl A) b e = rw (I.parts, A.1.0) refl
      by_else (inr N) false e = unless_or (is_none I.last.parts) (ends_open I.part) e
      by_else (inr N) true e = contrary (follows I.at (E 0 N.0 I.at j N.1.1).0) (O I.least I.part I.from I.at I.spelled e)

  -- a statement that ends open is followed by no `else`
  pub open_stmt : (own : Sort) (g : StmtForm) (ts : List Plain) (i j : Spot) → ((least : ℕ) (t : Plain) (i j : Spot) → P s.Stmt least t i j → Ended w s.Stmt t i j) → ((least : ℕ) (t : Plain) (i j : Spot) → P s.ElsePart least t i j → Ended w s.ElsePart t i j)
      → Matches P w own (form.Stmt g) Usual (pieces (form.Stmt g)) ts i j → ends_as_last_part (form.Stmt g) ≡ true → last_opens (forest ts) ≡ true → Follows j ≡ false
  open_stmt own stmt.If ts i j O E M h k = open_if ts j (if_parts own Usual ts i j M) E k
  open_stmt own stmt.Label ts i j O E M h k = by_last ts j O (last_part own (form.Stmt stmt.Label) Usual (pieces (form.Stmt stmt.Label)) ts i j refl M) k
  open_stmt own stmt.Case ts i j O E M h k = by_last ts j O (last_part own (form.Stmt stmt.Case) Usual (pieces (form.Stmt stmt.Case)) ts i j refl M) k
  open_stmt own stmt.Default ts i j O E M h k = by_last ts j O (last_part own (form.Stmt stmt.Default) Usual (pieces (form.Stmt stmt.Default)) ts i j refl M) k
  open_stmt own stmt.Switch ts i j O E M h k = by_last ts j O (last_part own (form.Stmt stmt.Switch) Usual (pieces (form.Stmt stmt.Switch)) ts i j refl M) k
  open_stmt own stmt.While ts i j O E M h k = by_last ts j O (last_part own (form.Stmt stmt.While) Usual (pieces (form.Stmt stmt.While)) ts i j refl M) k
  open_stmt own stmt.For ts i j O E M h k = by_last ts j O (last_part own (form.Stmt stmt.For) Usual (pieces (form.Stmt stmt.For)) ts i j refl M) k
  open_stmt own g ts i j O E M h k = absurd (cc h)

  -- the same of the part after an `else`
  pub open_else : (own : Sort) (ts : List Plain) (i j : Spot) → ((least : ℕ) (t : Plain) (i j : Spot) → P s.Stmt least t i j → Ended w s.Stmt t i j)
      → Matches P w own (form.Group group.ElsePart) Usual (pieces (form.Group group.ElsePart)) ts i j → Is w (class.Key key.Else) i × (last_opens (forest ts) ≡ true → Follows j ≡ false)
  open_else own ts i j O M = (M.0, by_last ts j O (last_part own (form.Group group.ElsePart) Usual (pieces (form.Group group.ElsePart)) ts i j refl M))

  -- no `if` with an `else` has a part before it that ends open
  pub closed_if : (own : Sort) (ts : List Plain) (i j : Spot) → ((least : ℕ) (t : Plain) (i j : Spot) → P s.Stmt least t i j → Ended w s.Stmt t i j) → ((least : ℕ) (t : Plain) (i j : Spot) → P s.ElsePart least t i j → Ended w s.ElsePart t i j)
      → Matches P w own (form.Stmt stmt.If) Usual (pieces (form.Stmt stmt.If)) ts i j → in_if (forest ts) ≡ None
  closed_if own ts i j O E M = close_if ts j (if_parts own Usual ts i j M) O E
