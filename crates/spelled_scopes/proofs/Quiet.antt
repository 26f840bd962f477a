-- Rows that only pass on what their parts do.
use Rattle.std.proofs.Common.{◌≡◌, refl, sym, subst, inl, inr, ℕ, Bool, true, false, ◌&&◌, List, [], ◌∷◌}
use Rattle.c_tokens.specs.declared.token.Shape.{Shape}
use Rattle.c_forms.specs.declared.pieces.Sort.{Sort}
use Rattle.c_forms.specs.declared.pieces.Sort.TheVariants as s
use Rattle.c_forms.specs.declared.pieces.Repetition.{Repetition}
use Rattle.c_forms.specs.declared.pieces.Piece.{Piece}
use Rattle.c_forms.specs.declared.pieces.Piece.TheVariants.{Token, Maybe, Own, TypeTokens, KindName, One, Group, Rest, Anything, Then}
use Rattle.c_forms.specs.declared.forms.Form.{Form}
use Rattle.c_forms.specs.Forests.{Plain}
use Rattle.c_forms.specs.Rules.{is_none}
use Rattle.c_reader.specs.States.{State}
use Rattle.c_reader.specs.Tokens.{Spot, step}
use Rattle.c_syntax.specs.Reading.{Before, Usual, before_by, is_absent, inside, spanned}
use Rattle.c_syntax.specs.Spells.{Spelling, IsGroup, IsList, Matches}
use Rattle.scope_meanings.specs.declared.meaning.NameUse.TheVariants as naming
use Rattle.spelled_scopes.proofs.Joined.{listed, grouped}
use Rattle.spelled_scopes.proofs.Inside.{inside_exp, inside_id, inside_init, inside_decl, inside_stmt, inside_block}
use Rattle.spelled_scopes.proofs.Laws.{Law, Says, says_none, says_on}

-- sorts that stand where no declaration is begun, and leave none begun
abbrev pub is_quiet : Sort → Bool
is_quiet s.Exp = true
is_quiet s.Id = true
is_quiet s.Literal = true
is_quiet s.Member = true
is_quiet s.Param = true
is_quiet s.Init = true
is_quiet s.Decl = true
is_quiet s.Stmt = true
is_quiet s.Block = true
is_quiet s.BlockItem = true
is_quiet s.Members = true
is_quiet s.ElsePart = true
is_quiet due = false

pub quiet_law : (due : Sort) (t : Plain) (i j : State) → is_quiet due ≡ true → Law due t i j → Says naming.Nothing (t ∷ []) i j
quiet_law s.Exp t i j q l = l naming.Nothing
quiet_law s.Id t i j q l = l
quiet_law s.Literal t i j q l = l naming.Nothing
quiet_law s.Member t i j q l = l naming.Nothing
quiet_law s.Param t i j q l = l naming.Nothing
quiet_law s.Init t i j q l = l naming.Nothing
quiet_law s.Decl t i j q l = l naming.Nothing
quiet_law s.Stmt t i j q l = l naming.Nothing
quiet_law s.Block t i j q l = l.0 naming.Nothing
quiet_law s.BlockItem t i j q l = l naming.Nothing
quiet_law s.Members t i j q l = l naming.Nothing
quiet_law s.ElsePart t i j q l = l naming.Nothing
quiet_law due t i j q l = absurd (cc q)

-- those of them that stand alone
abbrev pub is_alone : Sort → Bool
is_alone s.Exp = true
is_alone s.Id = true
is_alone s.Init = true
is_alone s.Decl = true
is_alone s.Stmt = true
is_alone s.Block = true
is_alone due = false

inside_alone : (own due : Sort) → is_alone due ≡ true → inside own due ≡ due
inside_alone own s.Exp q = inside_exp own
inside_alone own s.Id q = inside_id own
inside_alone own s.Init q = inside_init own
inside_alone own s.Decl q = inside_decl own
inside_alone own s.Stmt q = inside_stmt own
inside_alone own s.Block q = inside_block own
inside_alone own due q = absurd (cc q)

abbrev pub are_quiet : List Piece → Bool
are_quiet [] = true
are_quiet (Token c ∷ ps) = are_quiet ps
are_quiet (Maybe c ∷ ps) = are_quiet ps
are_quiet (Own ∷ ps) = are_quiet ps
are_quiet (One due least ∷ ps) = (is_alone due && is_quiet due) && are_quiet ps
are_quiet (Group r due least ∷ ps) = is_quiet due && are_quiet ps
are_quiet _ = false

pub both : (a b : Bool) → (a && b) ≡ true → (a ≡ true) × (b ≡ true)
both true b e = (refl, e)
both false b e = absurd (cc e)

-- what is spelled keeps the laws
abbrev pub Lawful : Spelling → Type 0
Lawful S = (due : Sort) (least : ℕ) (t : Plain) (i j : Spot) → S due least t i j → Law due t i.state j.state

module _ (w : List Shape) (S : Spelling) (lawful : Lawful S) where
  -- the list of a group of which each element keeps a law
  pub quiet_list : (r : Repetition) (due : Sort) (least : ℕ) (before : Before) (t : Plain) (i j : Spot) → is_quiet due ≡ true → IsList (IsGroup r due (S due least) before w) t i j → Says naming.Nothing (t ∷ []) i.state j.state
  quiet_list r due least before t i j q l = subst (λ t. Says naming.Nothing (t ∷ []) i.state j.state) (sym l.1.0) (λ f.
      let g = grouped (Says naming.Nothing) (says_none naming.Nothing) (says_on naming.Nothing) w (S due least) (λ t i j x. quiet_law due t i.state j.state q (lawful due least t i j x)) r due before l.0 i j l.1.1 f in
      (listed naming.Nothing (spanned i.place j.place) l.0 i.state j.state g.0, g.1))

  pub quiet_parts : (own : Sort) (f : Form) (before : Before) (ps : List Piece) (ts : List Plain) (i j : Spot) → are_quiet ps ≡ true → Matches S w own f before ps ts i j → Says naming.Nothing ts i.state j.state
  quiet_parts own f before [] ts i j q m = subst (λ ts. Says naming.Nothing ts i.state j.state) (sym m.0) (subst (λ (j : Spot). Says naming.Nothing [] i.state j.state) m.1 (says_none naming.Nothing i.state))
  quiet_parts own f before (Token c ∷ ps) ts i j q m = quiet_parts own f Usual ps ts (step i) j q m.1
  quiet_parts own f before (Maybe c ∷ ps) ts i j q (inl m) = quiet_parts own f Usual ps ts (step i) j q m.1
  quiet_parts own f before (Maybe c ∷ ps) ts i j q (inr m) = quiet_parts own f Usual ps ts i j q m
  quiet_parts own f before (Own ∷ ps) ts i j q m = quiet_parts own f Usual ps ts (step i) j q m.1
  quiet_parts own f before (One due least ∷ ps) ts i j q m =
      let b = both (is_alone due && is_quiet due) (are_quiet ps) q in
      let c = both (is_alone due) (is_quiet due) b.0 in
      let x : S due least m.first i m.place = subst (λ due. S due least m.first i m.place) (inside_alone own due c.0) m.is_first in
      subst (λ ts. Says naming.Nothing ts i.state j.state) (sym m.value)
      (says_on naming.Nothing (m.first ∷ []) m.others i.state m.place.state j.state (quiet_law due m.first i.state m.place.state c.1 (lawful due least m.first i m.place x)) (quiet_parts own f (before_by (is_absent m.first)) ps m.others m.place j b.1 m.are_others))
  quiet_parts own f before (Group r due least ∷ ps) ts i j q m =
      let b = both (is_quiet due) (are_quiet ps) q in
      subst (λ ts. Says naming.Nothing ts i.state j.state) (sym m.value)
      (says_on naming.Nothing (m.first ∷ []) m.others i.state m.place.state j.state (quiet_list r due least before m.first i m.place b.0 m.is_first) (quiet_parts own f (before_by (is_none m.first.parts)) ps m.others m.place j b.1 m.are_others))
  quiet_parts own f before (TypeTokens ∷ ps) ts i j q m = absurd m
  quiet_parts own f before (KindName ∷ ps) ts i j q m = absurd m
  quiet_parts own f before (Rest due ∷ ps) ts i j q m = absurd m
  quiet_parts own f before (Anything ∷ ps) ts i j q m = absurd m
  quiet_parts own f before (Then e ∷ ps) ts i j q m = absurd (cc q)
