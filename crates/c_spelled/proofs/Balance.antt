-- What was put aside stands there again after a tree.
use Rattle.std.proofs.Common.{◌≡◌, inl, inr, refl, subst, ap, sym, ◌∙◌, ℕ, zero, suc, ◌-◌, not, Bool, true, false, ◌&&◌, List, [], ◌∷◌, nat_eq, Option, Some, None, arith}
use Rattle.c_tokens.specs.declared.token.Shape.{Shape}
use Rattle.c_tokens.specs.declared.class.Class.{Class}
use Rattle.c_forms.specs.declared.pieces.Event.TheVariants as event
use Rattle.c_forms.specs.declared.pieces.Sort.{Sort}
use Rattle.c_forms.specs.declared.pieces.Sort.TheVariants as s
use Rattle.c_forms.specs.declared.pieces.Repetition.{Repetition}
use Rattle.c_forms.specs.declared.pieces.Repetition.TheVariants.{Optional, Greedy, Due, All, Any, Many, Spliced, Ended}
use Rattle.c_forms.specs.declared.pieces.Piece.{Piece}
use Rattle.c_forms.specs.declared.pieces.Piece.TheVariants.{Token, Maybe, Own, TypeTokens, KindName, One, Group, Rest, Anything, Then}
use Rattle.c_forms.specs.declared.forms.Form.{Form}
use Rattle.c_forms.specs.Forests.{Plain}
use Rattle.c_forms.specs.Measures.{pieces}
use Rattle.c_forms.specs.Rules.{is_none}
use Rattle.c_reader.specs.States.{Kept, happens, noted, under}
use Rattle.c_reader.specs.Tokens.{Spot, step, turned, raw_at}
use Rattle.c_reader.proofs.Sets.{both, same_class}
use Rattle.c_syntax.specs.Allowed.{places}
use Rattle.c_syntax.specs.Reading.{Before, Usual, before_by, is_absent, inside, is_starred}
use Rattle.c_syntax.specs.Spells.{Spelling, nothing_spelled, Separated, Chain, IsGroup, Matches, parts_spelled, IsNode, Wraps, wrapped_sort, At, InPlace, Spells}
use Rattle.c_spelled.specs.Fitting.{is_read, reads, is_balanced, begins_so}
use Rattle.c_spelled.proofs.Begins.{row_of}
use Rattle.c_spelled.proofs.Rows.{has_row, rows}

-- what stands aside ends as it stood, with so many put on it since
abbrev pub Stack : ℕ → List Kept → List Kept → Type 0
Stack zero base rest = rest ≡ base
Stack (suc n) base rest = (kept : Kept) × ((others : List Kept) × ((rest ≡ kept ∷ others) × Stack n base others))

abbrev pub Held : ℕ → List Kept → Spot → Type 0
Held n base i = Stack n base i.state.aside

-- the same stands aside
abbrev pub Same : Spot → Spot → Type 0
Same i j = j.state.aside ≡ i.state.aside

abbrev pub AllSame : Spelling → Type 0
AllSame P = (due : Sort) (least : ℕ) (t : Plain) (i j : Spot) → is_read due ≡ true → P due least t i j → Same i j

over : (n : ℕ) (base : List Kept) (i j : Spot) → Same i j → Held n base i → Held n base j
over n base i j S H = subst (λ a. Stack n base a) (sym S) H

-- what was put there last is taken off
resumed : (n : ℕ) (base : List Kept) (i : Spot) → not (nat_eq n 0) ≡ true → Held n base i → Stack (n - 1) base (under i.state.aside)
resumed zero base i e H = absurd (cc e)
resumed (suc n) base i e H = let m : n ≡ suc n - 1 = omega arith in subst (λ n. Stack n base (under i.state.aside)) m (subst (λ a. Stack n base (under a)) (sym H.1.1.0) H.1.1.1)

module _ (w : List Shape) (P : Spelling) (S : AllSame P) where
  between : (c : Option Class) (k l : Spot) → Separated w c k l → Same k l
  between None k l s = ap (λ (k : Spot). k.state.aside) (sym s)
  between (Some c) k l s = ap (λ (k : Spot). k.state.aside) (sym s.1)

  chain_same : (due : Sort) (least : ℕ) (c : Option Class) (n : ℕ) (ts : List Plain) (i j : Spot) → is_read due ≡ true → Chain (P due least) w c n ts i j → Same i j
  chain_same due least c zero ts i j r C = S due least C.0 i j r C.1.1
  chain_same due least c (suc n) ts i j r C = S due least C.last C.next j r C.second ∙ between c C.place C.next C.between ∙ chain_same due least c n C.before i C.place r C.first

  still : (i j : Spot) → i ≡ j → Same i j
  still i j e = ap (λ (k : Spot). k.state.aside) (sym e)

  pub group_same : (r : Repetition) (due : Sort) (least : ℕ) (before : Before) (ts : List Plain) (i j : Spot) → is_read due ≡ true → IsGroup r due (P due least) before w ts i j → Same i j
  group_same Optional due least before ts i j r (inl A) = still i j A.1
  group_same Optional due least before ts i j r (inr O) = S due least O.0 i j r O.1.1
  group_same Greedy due least before ts i j r (inl A) = still i j A.1.1
  group_same Greedy due least before ts i j r (inr O) = S due least O.0 i j r O.1.1
  group_same Due due least before ts i j r (inl A) = still i j A.1.1
  group_same Due due least before ts i j r (inr O) = S due least O.0 i j r O.1.1
  group_same All due least before ts i j r G = chain_same due least None G.0.0 ts i j r G.0.1
  group_same Any due least before ts i j r G = elim (G.0) [
    | inl A ↦ still i j A.1.1
    | inr C ↦ chain_same due least None C.0 ts i j r C.1
  ]
  group_same (Many c n) due least before ts i j r (inl A) = still i j A.1.1
  group_same (Many c n) due least before ts i j r (inr C) = chain_same due least c C.0 ts i j r C.1
  group_same (Spliced c n) due least before ts i j r (inl A) = still i j A.1.1
  group_same (Spliced c n) due least before ts i j r (inr C) = chain_same due least c C.0 ts i j r C.1
  group_same (Ended c e) due least before ts i j r C = chain_same due least (Some c) C.0 ts i j r C.1

  pub held_through : (own : Sort) (f : Form) (before : Before) (n : ℕ) (ps : List Piece) (ts : List Plain) (base : List Kept) (i j : Spot) → reads own ps ≡ true → is_balanced n ps ≡ true → Held n base i
      → Matches P w own f before ps ts i j → Held 0 base j
  held_through own f before n [] ts base i j r b H M = subst (λ k. Held 0 base k) M.1 (subst (λ n. Held n base i) (same_class n 0 b) H)
  held_through own f before n (Token c ∷ ps) ts base i j r b H M = held_through own f Usual n ps ts base (step i) j r b H M.1
  held_through own f before n (Maybe c ∷ ps) ts base i j r b H (inl M) = held_through own f Usual n ps ts base (step i) j r b H M.1
  held_through own f before n (Maybe c ∷ ps) ts base i j r b H (inr M) = held_through own f Usual n ps ts base i j r b H M
  held_through own f before n (Own ∷ ps) ts base i j r b H M = held_through own f Usual n ps ts base (step i) j r b H M.1
  held_through own f before n (One due least ∷ ps) ts base i j r b H M = let k = both (is_read (inside own due)) _ r in
      held_through own f (before_by (is_absent M.first)) n ps M.others base M.place j k.1 b (over n base i M.place (S (inside own due) least M.first i M.place k.0 M.is_first) H) M.are_others
  held_through own f before n (Group q due least ∷ ps) ts base i j r b H M = let k = both _ _ r in
      held_through own f (before_by (is_none M.first.parts)) n ps M.others base M.place j k.1 b (over n base i M.place (group_same q due least before M.is_first.0 i M.place (both (is_read due) _ k.0).0 M.is_first.1.1) H) M.are_others
  held_through own f before n (Then event.Aside ∷ ps) ts base i j r b H M = held_through own f before (suc n) ps ts base (turned (happens event.Aside) i) j r b (i.state.kept, (i.state.aside, (refl, H))) M.1
  held_through own f before n (Then event.Resume ∷ ps) ts base i j r b H M = let c = both (not (nat_eq n 0)) _ b in held_through own f before (n - 1) ps ts base (turned (happens event.Resume) i) j r c.1 (resumed n base i c.0 H) M.1
  held_through own f before n (Then event.Close ∷ ps) ts base i j r b H M = let c = both (not (nat_eq n 0)) _ b in held_through own f before (n - 1) ps ts base (turned (happens event.Close) i) j r c.1 (resumed n base i c.0 H) M.1
  held_through own f before n (Then event.Enter ∷ ps) ts base i j r b H M = held_through own f before n ps ts base (turned (happens event.Enter) i) j r b H M.1
  held_through own f before n (Then event.Leave ∷ ps) ts base i j r b H M = held_through own f before n ps ts base (turned (happens event.Leave) i) j r b H M.1
  held_through own f before n (Then event.Begin ∷ ps) ts base i j r b H M = held_through own f before n ps ts base (turned (happens event.Begin) i) j r b H M.1
  held_through own f before n (Then event.Typedef ∷ ps) ts base i j r b H M = held_through own f before n ps ts base (turned (happens event.Typedef) i) j r b H M.1
  held_through own f before n (Then event.Typed ∷ ps) ts base i j r b H M = held_through own f before n ps ts base (turned (happens event.Typed) i) j r b H M.1
  held_through own f before n (Then event.SoleType ∷ ps) ts base i j r b H M = held_through own f before n ps ts base (turned (happens event.SoleType) i) j r b H M.1
  held_through own f before n (Then event.Declare ∷ ps) ts base i j r b H M = held_through own f before n ps ts base (turned (happens event.Declare) i) j r b H M.1
  held_through own f before n (Then event.DeclareValue ∷ ps) ts base i j r b H M = held_through own f before n ps ts base (turned (happens event.DeclareValue) i) j r b H M.1
  held_through own f before n (Then event.Statements ∷ ps) ts base i j r b H M = held_through own f before n ps ts base (turned (happens event.Statements) i) j r b H M.1
  held_through own f before n (Then event.Seal ∷ ps) ts base i j r b H M = held_through own f before n ps ts base (turned (happens event.Seal) i) j r b H M.1
  held_through own f before n (Then event.FunctionDue ∷ ps) ts base i j r b H M = held_through own f before n ps ts base (turned (happens event.FunctionDue) i) j r b H M.1
  held_through own f before n (Then event.Open ∷ ps) ts base i j r b H M = held_through own f before n ps ts base (turned (happens event.Open) i) j r b H M.1
  held_through own f before n (Then event.Shut ∷ ps) ts base i j r b H M = held_through own f before n ps ts base (turned (happens event.Shut) i) j r b H M.1
  held_through own f before n (TypeTokens ∷ ps) ts base i j r b H M = absurd M
  held_through own f before n (KindName ∷ ps) ts base i j r b H M = absurd M
  held_through own f before n (Rest due ∷ ps) ts base i j r b H M = absurd M
  held_through own f before n (Anything ∷ ps) ts base i j r b H M = absurd M

choose_same : (b : Bool) (deeper inner : Spelling) → AllSame deeper → AllSame inner → AllSame (parts_spelled b deeper inner)
choose_same true deeper inner D I = D
choose_same false deeper inner D I = I

module _ (levels : Type 0) (deeper inner : Spelling) (w : List Shape) (D : AllSame deeper) (I : AllSame inner) where
  node_same : (due : Sort) (least : ℕ) (t : Plain) (i j : Spot) → has_row due ≡ true → IsNode levels deeper inner w due least t i j → Same i j
  node_same due least t i j h N = let b = (both (begins_so due t.form) _ (both (begins_so due t.form && is_balanced 0 (pieces t.form)) _ (rows due t.form h N.may)).0).1 in
      held_through w (parts_spelled (is_starred t.form) deeper inner) (choose_same (is_starred t.form) deeper inner D I) due t.form Usual 0 (pieces t.form) N.parts i.state.aside i j (row_of due t.form h N.may).reads b refl N.matches

  parens_same : (due : Sort) (t : Plain) (i j : Spot) → is_read (wrapped_sort due) ≡ true → Wraps levels deeper w due t i j → Same i j
  parens_same due t i j r W = ap (λ (k : Spot). k.state.aside) (sym W.ends) ∙ D (wrapped_sort due) 1 t (step i) W.last r W.within

  after : (k j : Spot) → k ≡ j → Same k j
  after k j e = ap (λ (k : Spot). k.state.aside) (sym e)

  pub at_same : AllSame (At levels deeper inner w)
  at_same s.Exp least t i j r (inl N) = node_same s.Exp least t i j refl N
  at_same s.Exp least t i j r (inr W) = parens_same s.Exp t i j refl W
  at_same s.Declarator least t i j r (inl N) = node_same s.Declarator least t i j refl N
  at_same s.Declarator least t i j r (inr W) = parens_same s.Declarator t i j refl W
  at_same s.AbstractDeclarator least t i j r (inl N) = node_same s.AbstractDeclarator least t i j refl N
  at_same s.AbstractDeclarator least t i j r (inr W) = parens_same s.AbstractDeclarator t i j refl W
  at_same s.ParamDeclarator least t i j r (inl N) = node_same s.ParamDeclarator least t i j refl N
  at_same s.ParamDeclarator least t i j r (inr W) = parens_same s.ParamDeclarator t i j refl W
  at_same s.MemberName least t i j r (inl N) = node_same s.MemberName least t i j refl N
  at_same s.MemberName least t i j r (inr W) = parens_same s.MemberName t i j refl W
  at_same s.Qualifier least t i j r A = node_same s.Qualifier least t i j refl A
  at_same s.TypeName least t i j r A = node_same s.TypeName least t i j refl A
  at_same s.Member least t i j r A = node_same s.Member least t i j refl A
  at_same s.Enumerator least t i j r A = node_same s.Enumerator least t i j refl A
  at_same s.Param least t i j r A = node_same s.Param least t i j refl A
  at_same s.Init least t i j r A = node_same s.Init least t i j refl A
  at_same s.Decl least t i j r A = node_same s.Decl least t i j refl A
  at_same s.Stmt least t i j r A = node_same s.Stmt least t i j refl A
  at_same s.Block least t i j r A = node_same s.Block least t i j refl A
  at_same s.InitDeclarator least t i j r A = node_same s.InitDeclarator least t i j refl A
  at_same s.Initializer least t i j r A = node_same s.Initializer least t i j refl A
  at_same s.MemberDeclarator least t i j r A = node_same s.MemberDeclarator least t i j refl A
  at_same s.Width least t i j r A = node_same s.Width least t i j refl A
  at_same s.Members least t i j r A = node_same s.Members least t i j refl A
  at_same s.Enumerators least t i j r A = node_same s.Enumerators least t i j refl A
  at_same s.EnumeratorValue least t i j r A = node_same s.EnumeratorValue least t i j refl A
  at_same s.ElsePart least t i j r A = node_same s.ElsePart least t i j refl A
  at_same s.Spec least t i j r A = node_same s.Spec least t i j refl A.1
  at_same s.PlainSpec least t i j r A = node_same s.PlainSpec least t i j refl A.1
  at_same s.Params least t i j r A = node_same s.Params least t i j refl A.1
  at_same s.Id least t i j r A = after (step i) j A.1
  at_same s.Literal least t i j r A = after (step i) j A.1
  at_same s.DeclaredId least t i j r A = after (turned (noted (raw_at w i.place)) (step i)) j A.1
  at_same s.EnumeratorId least t i j r A = after (turned (noted (raw_at w i.place)) (step i)) j A.1
  at_same s.ParameterId least t i j r A = after (turned (happens event.DeclareValue) (turned (noted (raw_at w i.place)) (step i))) j A.1
  at_same s.BlockItem least t i j r (inl A) = node_same s.Decl least t i j refl A.1
  at_same s.BlockItem least t i j r (inr A) = ap (λ (k : Spot). k.state.aside) (sym A.1.1) ∙ node_same s.Stmt least t i A.0 refl A.1.0
  at_same _ least t i j r A = absurd (cc r)

pub in_place_same : (n : ℕ) (levels : Type 0) (deeper : Spelling) (w : List Shape) → AllSame deeper → AllSame (InPlace n levels deeper w)
unfolding InPlace
in_place_same zero levels deeper w D = λ due least t i j r A. absurd A
in_place_same (suc n) levels deeper w D = at_same levels deeper (InPlace n levels deeper w) w D (in_place_same n levels deeper w D)

pub spells_same : (d : ℕ) (w : List Shape) → AllSame (Spells d w)
unfolding Spells
spells_same zero w = in_place_same places ⊥ nothing_spelled w (λ due least t i j r A. absurd A)
spells_same (suc d) w = in_place_same places (Unit {0}) (Spells d w) w (spells_same d w)
