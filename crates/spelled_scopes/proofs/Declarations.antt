-- Declarations, members, parameters and type names.
use Rattle.std.proofs.Common.{◌≡◌, refl, ap, sym, subst, ◌∙◌, ℕ, Bool, true, false, not, ◌||◌, List, [], ◌∷◌, Option, Some, None}
use Rattle.c_tokens.specs.declared.span.Span.{Span}
use Rattle.c_tokens.specs.declared.token.Shape.{Shape}
use Rattle.c_tokens.specs.declared.token.Punct.TheVariants as punct
use Rattle.c_tokens.specs.declared.class.Class.TheVariants as class
use Rattle.c_forms.specs.declared.pieces.Event.TheVariants as event
use Rattle.c_forms.specs.declared.pieces.Repetition.{Repetition}
use Rattle.c_forms.specs.declared.pieces.Repetition.TheVariants.{Due, All, Spliced}
use Rattle.c_forms.specs.declared.pieces.Sort.{Sort}
use Rattle.c_forms.specs.declared.pieces.Sort.TheVariants as s
use Rattle.c_forms.specs.declared.forms.Form.TheVariants as form
use Rattle.c_forms.specs.declared.forms.GroupForm.TheVariants as group
use Rattle.c_forms.specs.Forests.{Plain, forest, node}
use Rattle.c_forms.specs.Measures.{pieces}
use Rattle.c_forms.specs.Rules.{is_none}
use Rattle.c_reader.specs.States.{Entry, State, AsValue, nothing_kept, happens, entry}
use Rattle.c_reader.specs.States as States
use Rattle.c_reader.specs.Tokens.{Spot, step, turned}
use Rattle.c_syntax.specs.Reading.{Before, Usual, before_by, is_absent, spanned, the_list}
use Rattle.c_syntax.specs.Spells.{Spelling, Matches, IsGroup, IsList}
use Rattle.scope_tables.specs.declared.table.WordClass.{WordClass}
use Rattle.scope_meanings.specs.declared.meaning.NameUse.{NameUse}
use Rattle.scope_meanings.specs.declared.meaning.NameUse.TheVariants as naming
use Rattle.scope_meanings.specs.declared.meaning.Name.{Name}
use Rattle.scope_meanings.specs.Meanings.{has_type, checked_if, name_in}
use Rattle.scopes.specs.Events.{declared}
use Rattle.scopes.specs.Settling.{Scoped}
use Rattle.spelled_scopes.specs.Meant.{frames, entry_as, Runs, events_in, words_in, Goes}
use Rattle.spelled_scopes.proofs.Apart.{apart}
use Rattle.spelled_scopes.proofs.Frames.{entry_frames}
use Rattle.spelled_scopes.proofs.Inside.{inside_exp, inside_init, inside_abstract_declarator, inside_member_name}
use Rattle.spelled_scopes.proofs.Joined.{state_at, goes_on, runs_on, as_runs, over_parts, listed, grouped}
use Rattle.spelled_scopes.proofs.Laws.{Says, Keeps, Lists, Specifies, Members, Inits, Names, number_or, specifies_none, specifies_on, members_none, members_on, inits_none, inits_on}
use Rattle.spelled_scopes.proofs.Quiet.{Lawful}
use Rattle.spelled_scopes.proofs.Specifiers.{keeps_list}

-- ---- what is declared

abbrev pub number_only : Option Name → Option ℕ
number_only name = number_or name None

pub declared_frames : (k : WordClass) (name : Option Name) (s z : State) → z.entries ≡ States.declared (entry_as k) (number_only name) s.entries → z.aside ≡ s.aside → Runs (declared k name) (declared k name) s z
declared_frames k (Some name) s z e a = record { scoped = ap Scoped (sym (entry_frames k name.word.0 s.entries)) ∙ ap (λ es. Scoped (frames es)) (sym e); declared = e; aside = a }
declared_frames k None s z e a = record { scoped = ap (λ es. Scoped (frames es)) (sym e); declared = e; aside = a }

-- ---- lists

module _ (w : List Shape) (S : Spelling) (lawful : Lawful S) where
  -- specifiers, all of one sort
  pub record Specified (t : Plain) (s m : State) : Type 0 where
    pub trees : List Plain
    pub span : Span
    pub value : t ≡ node the_list span trees
    pub specifies : Specifies trees s m

  pub specs_say : (r : Repetition) (due : Sort) (before : Before) (t : Plain) (i j : Spot) → ((t : Plain) (i j : Spot) → S due 0 t i j → Specifies (t ∷ []) i.state j.state) → IsList (IsGroup r due (S due 0) before w) t i j → Specified t i.state j.state
  specs_say r due before t i j each l = record { trees = l.0; span = spanned i.place j.place; value = l.1.0; specifies = grouped Specifies specifies_none specifies_on w (S due 0) each r due before l.0 i j l.1.1 }

  members_list : (r : Repetition) (before : Before) (t : Plain) (i j : Spot) → IsList (IsGroup r s.MemberDeclarator (S s.MemberDeclarator 0) before w) t i j → Members (t ∷ []) i.state j.state
  members_list r before t i j l = subst (λ t. Members (t ∷ []) i.state j.state) (sym l.1.0) (λ b f.
      let g = grouped Members members_none members_on w (S s.MemberDeclarator 0) (lawful s.MemberDeclarator 0) r s.MemberDeclarator before l.0 i j l.1.1 b f in
      (listed (checked_if b) (spanned i.place j.place) l.0 i.state j.state g.0, g.1))

  pub inits_list : (r : Repetition) (before : Before) (t : Plain) (i j : Spot) → IsList (IsGroup r s.InitDeclarator (S s.InitDeclarator 0) before w) t i j → Inits (t ∷ []) i.state j.state
  inits_list r before t i j l = subst (λ t. Inits (t ∷ []) i.state j.state) (sym l.1.0) (λ c b f k.
      let g = grouped Inits inits_none inits_on w (S s.InitDeclarator 0) (lawful s.InitDeclarator 0) r s.InitDeclarator before l.0 i j l.1.1 c b f k in
      (listed (naming.Declared c b) (spanned i.place j.place) l.0 i.state j.state g.0, g.1))

-- a declarator where its name must be a value if told
checks : (b : Bool) (t : Plain) (s m : State) → Names t s m → (b ≡ true → s.kept.has_type ≡ false) → Goes (checked_if b) (t ∷ []) s m
checks true t s m n f = n.asked (f refl)
checks false t s m n f = n.silent

pub no_type : (a b : Bool) → a ≡ (false || b) → not b ≡ true → a ≡ false
no_type a true e n = absurd (cc n)
no_type a false e n = e

-- and it is declared after it
pub declaring : (c : WordClass) (b : Bool) (t : Plain) (s m z : State) → Names t s m → (b ≡ true → s.kept.has_type ≡ false)
    → z.entries ≡ States.declared (entry_as c) (number_only (name_in (forest (t ∷ [])))) m.entries → z.aside ≡ m.aside → Goes (naming.Declared c b) (t ∷ []) s z
declaring c b t s m z n f e a =
    let name : Option Name = name_in (forest (t ∷ [])) in
    as_runs _ _ _ _ s z (sym (n.later c b)) (sym (n.later_words c b)) (runs_on (events_in (checked_if b) (t ∷ [])) (declared c name) (words_in (checked_if b) (t ∷ [])) (declared c name) s m z (checks b t s m n f) (declared_frames c name m z e a))

module _ (w : List Shape) (S : Spelling) (lawful : Lawful S) (own : Sort) where
  -- ---- what is put aside as a whole

  pub width_says : (sp : Span) (ts : List Plain) (i j : Spot) → Matches S w own (form.Group group.Width) Usual (pieces (form.Group group.Width)) ts i j → Keeps (node (form.Group group.Width) sp ts ∷ []) i.state j.state
  width_says sp ts i j m =
      let A = m.1.1 in
      let o : Spot = turned (happens event.Aside) (step i) in
      let a = lawful s.Exp 3 A.first o A.place (subst (λ due. S due 3 A.first o A.place) (inside_exp own) A.is_first) naming.Nothing refl in
      let p = apart (events_in naming.Nothing (A.first ∷ [])) (words_in naming.Nothing (A.first ∷ [])) i.state A.place.state a.0 in
      let end : happens event.Resume A.place.state ≡ j.state = state_at (turned (happens event.Resume) A.place) j A.are_others.1.1 in
      let tree : ts ≡ A.first ∷ [] = A.value ∙ ap (λ l. A.first ∷ l) A.are_others.1.0 in
      subst (λ z. Keeps (node (form.Group group.Width) sp ts ∷ []) i.state z) end
      (λ u. over_parts (events_in naming.Nothing ts) (words_in naming.Nothing ts) i.state (happens event.Resume A.place.state) (subst (λ ts. Goes naming.Nothing ts i.state (happens event.Resume A.place.state)) (sym tree) p.0), p.1)

  pub enumerator_value_says : (sp : Span) (ts : List Plain) (i j : Spot) → Matches S w own (form.Group group.EnumeratorValue) Usual (pieces (form.Group group.EnumeratorValue)) ts i j → Keeps (node (form.Group group.EnumeratorValue) sp ts ∷ []) i.state j.state
  enumerator_value_says sp ts i j m =
      let A = m.1.1 in
      let o : Spot = turned (happens event.Aside) (step i) in
      let a = lawful s.Exp 3 A.first o A.place (subst (λ due. S due 3 A.first o A.place) (inside_exp own) A.is_first) naming.Nothing refl in
      let p = apart (events_in naming.Nothing (A.first ∷ [])) (words_in naming.Nothing (A.first ∷ [])) i.state A.place.state a.0 in
      let end : happens event.Resume A.place.state ≡ j.state = state_at (turned (happens event.Resume) A.place) j A.are_others.1.1 in
      let tree : ts ≡ A.first ∷ [] = A.value ∙ ap (λ l. A.first ∷ l) A.are_others.1.0 in
      subst (λ z. Keeps (node (form.Group group.EnumeratorValue) sp ts ∷ []) i.state z) end
      (λ u. over_parts (events_in naming.Nothing ts) (words_in naming.Nothing ts) i.state (happens event.Resume A.place.state) (subst (λ ts. Goes naming.Nothing ts i.state (happens event.Resume A.place.state)) (sym tree) p.0), p.1)

  pub initializer_says : (sp : Span) (ts : List Plain) (i j : Spot) → Matches S w own (form.Group group.Initializer) Usual (pieces (form.Group group.Initializer)) ts i j → Keeps (node (form.Group group.Initializer) sp ts ∷ []) i.state j.state
  initializer_says sp ts i j m =
      let A = m.1.1 in
      let o : Spot = turned (happens event.Aside) (step i) in
      let a = lawful s.Init 0 A.first o A.place (subst (λ due. S due 0 A.first o A.place) (inside_init own) A.is_first) naming.Nothing refl in
      let p = apart (events_in naming.Nothing (A.first ∷ [])) (words_in naming.Nothing (A.first ∷ [])) i.state A.place.state a.0 in
      let end : happens event.Resume A.place.state ≡ j.state = state_at (turned (happens event.Resume) A.place) j A.are_others.1.1 in
      let tree : ts ≡ A.first ∷ [] = A.value ∙ ap (λ l. A.first ∷ l) A.are_others.1.0 in
      subst (λ z. Keeps (node (form.Group group.Initializer) sp ts ∷ []) i.state z) end
      (λ u. over_parts (events_in naming.Nothing ts) (words_in naming.Nothing ts) i.state (happens event.Resume A.place.state) (subst (λ ts. Goes naming.Nothing ts i.state (happens event.Resume A.place.state)) (sym tree) p.0), p.1)

  -- ---- type names

  pub type_name_says : (sp : Span) (ts : List Plain) (i j : Spot) → Matches S w own form.TypeName Usual (pieces form.TypeName) ts i j → Lists (node form.TypeName sp ts ∷ []) i.state j.state
  type_name_says sp ts i j m = λ u.
      let a = specs_say w S lawful All s.PlainSpec Usual m.first i m.place (lawful s.PlainSpec 0) m.is_first in
      let q : Plain = node the_list a.span a.trees in
      let g : Goes naming.Nothing (q ∷ []) i.state m.place.state = listed naming.Nothing a.span a.trees i.state m.place.state (a.specifies.goes naming.Nothing) in
      let B = m.are_others in
      let n : Names B.first m.place.state B.place.state = lawful s.AbstractDeclarator 1 B.first m.place B.place (subst (λ due. S due 1 B.first m.place B.place) (inside_abstract_declarator own) B.is_first) in
      let tree : ts ≡ q ∷ B.first ∷ [] = m.value ∙ ap (λ t. t ∷ m.others) a.value ∙ ap (λ l. q ∷ l) (B.value ∙ ap (λ l. B.first ∷ l) B.are_others.0) in
      subst (λ z. Goes u (node form.TypeName sp ts ∷ []) i.state z) (state_at B.place j B.are_others.1) (subst (λ ts. Goes u (node form.TypeName sp ts ∷ []) i.state B.place.state) (sym tree)
      (over_parts (events_in naming.Nothing (q ∷ B.first ∷ [])) (words_in naming.Nothing (q ∷ B.first ∷ [])) i.state B.place.state (goes_on naming.Nothing (q ∷ []) (B.first ∷ []) i.state m.place.state B.place.state g n.silent)))

  -- ---- members

  pub member_declarator_says : (sp : Span) (ts : List Plain) (i j : Spot) → Matches S w own (form.Group group.MemberDeclarator) Usual (pieces (form.Group group.MemberDeclarator)) ts i j → Members (node (form.Group group.MemberDeclarator) sp ts ∷ []) i.state j.state
  member_declarator_says sp ts i j m = λ b f.
      let n : Names m.first i.state m.place.state = lawful s.MemberName 1 m.first i m.place (subst (λ due. S due 1 m.first i m.place) (inside_member_name own) m.is_first) in
      let B = m.are_others in
      let k = keeps_list w S Due s.Width 0 (before_by (is_absent m.first)) B.first m.place B.place (lawful s.Width 0) B.is_first in
      let u : NameUse = checked_if b in
      let tree : ts ≡ m.first ∷ B.first ∷ [] = m.value ∙ ap (λ l. m.first ∷ l) (B.value ∙ ap (λ l. B.first ∷ l) B.are_others.0) in
      let g : Goes u (m.first ∷ B.first ∷ []) i.state B.place.state = goes_on u (m.first ∷ []) (B.first ∷ []) i.state m.place.state B.place.state (checks b m.first i.state m.place.state n f) (k.0 u) in
      subst (λ z. Goes u (node (form.Group group.MemberDeclarator) sp ts ∷ []) i.state z × (z.kept.has_type ≡ i.state.kept.has_type)) (state_at B.place j B.are_others.1)
      (over_parts (events_in u ts) (words_in u ts) i.state B.place.state (subst (λ ts. Goes u ts i.state B.place.state) (sym tree) g), ap (λ k. k.has_type) k.1 ∙ n.has)

  pub member_says : (sp : Span) (ts : List Plain) (i j : Spot) → Matches S w own form.Member Usual (pieces form.Member) ts i j → (u : NameUse) → Says u (node form.Member sp ts ∷ []) i.state j.state
  member_says sp ts i j m = λ u f.
      let a = specs_say w S lawful All s.PlainSpec Usual m.first i m.place (lawful s.PlainSpec 0) m.is_first in
      let q : Plain = node the_list a.span a.trees in
      let b : Bool = not (has_type (forest a.trees)) in
      let v : NameUse = checked_if b in
      let g : Goes v (q ∷ []) i.state m.place.state = listed v a.span a.trees i.state m.place.state (a.specifies.goes v) in
      let B = m.are_others in
      let n = members_list w S lawful (Spliced (Some (class.Punct punct.Comma)) 1) (before_by (is_none m.first.parts)) B.first m.place B.place B.is_first b
      (no_type m.place.state.kept.has_type (has_type (forest a.trees)) (a.specifies.has ∙ ap (λ k. k.has_type || has_type (forest a.trees)) f)) in
      let z : State = happens event.Begin B.place.state in
      let end : z ≡ j.state = state_at (turned (happens event.Begin) (step B.place)) j B.are_others.1.1.1 in
      let tree : ts ≡ q ∷ B.first ∷ [] = m.value ∙ ap (λ t. t ∷ m.others) a.value ∙ ap (λ l. q ∷ l) (B.value ∙ ap (λ l. B.first ∷ l) B.are_others.1.1.0) in
      let r = goes_on v (q ∷ []) (B.first ∷ []) i.state m.place.state B.place.state g n.0 in
      subst (λ z. Goes u (node form.Member sp ts ∷ []) i.state z × (z.kept ≡ nothing_kept)) end (
        subst (λ ts. Goes u (node form.Member sp ts ∷ []) i.state z) (sym tree)
            (over_parts (events_in v (q ∷ B.first ∷ [])) (words_in v (q ∷ B.first ∷ [])) i.state z (record { scoped = r.scoped; declared = r.declared; aside = r.aside })),
        refl,
      )
