-- Declarators, and what stands next to their names.
use Rattle.std.proofs.Common.{◌≡◌, refl, ap, sym, subst, ◌∙◌, ℕ, Bool, true, false, if◌then◌else◌, List, [], ◌∷◌, ◌++◌, Option, Some, None}
use Rattle.c_tokens.specs.declared.span.Span.{Span}
use Rattle.c_tokens.specs.declared.token.Shape.{Shape}
use Rattle.c_forms.specs.declared.pieces.Event.TheVariants as event
use Rattle.c_forms.specs.declared.pieces.Repetition.TheVariants.{Optional, Many}
use Rattle.c_forms.specs.declared.pieces.Sort.{Sort}
use Rattle.c_forms.specs.declared.pieces.Sort.TheVariants as s
use Rattle.c_forms.specs.declared.forms.Form.{Form}
use Rattle.c_forms.specs.declared.forms.Form.TheVariants as form
use Rattle.c_forms.specs.declared.forms.DeclaratorForm.{DeclaratorForm}
use Rattle.c_forms.specs.declared.forms.DeclaratorForm.TheVariants as declarator
use Rattle.c_forms.specs.Forests.{Plain, Forest, tree, forest, node}
use Rattle.c_forms.specs.Measures.{pieces}
use Rattle.c_forms.specs.Rules.{is_name}
use Rattle.c_reader.specs.States.{Entry, Edge, State, Near, Bare, Other, Parameters as With, happens, sealed, with_parameters, parameters, is_bare, innermost, top, under}
use Rattle.c_reader.specs.Tokens.{Spot, step, turned}
use Rattle.c_syntax.specs.Reading.{Before, Usual, inside, spanned, the_list}
use Rattle.c_syntax.specs.Spells.{Spelling, Matches, IsGroup, IsList}
use Rattle.scope_tables.specs.declared.table.WordClass.{WordClass}
use Rattle.scope_meanings.specs.declared.meaning.NameUse.{NameUse}
use Rattle.scope_meanings.specs.declared.meaning.NameUse.TheVariants as naming
use Rattle.scope_meanings.specs.declared.meaning.Name.{Name}
use Rattle.scope_meanings.specs.Meanings.{checked_if, name_in, or_next}
use Rattle.scope_meanings.specs.Meanings as Meanings
use Rattle.scopes.specs.declared.event.Event.{Event}
use Rattle.scopes.specs.Events.{checked, declared, beside_name, words_of_params}
use Rattle.scopes.specs.Events as Events
use Rattle.scopes.specs.Settling.{Scoped, settled}
use Rattle.spelled_scopes.specs.Meant.{frames, after_words, events_in, words_in, Goes}
use Rattle.spelled_scopes.proofs.Apart.{apart, must_be_value, around, scope_settled}
use Rattle.spelled_scopes.proofs.Frames.{words_innermost}
use Rattle.spelled_scopes.proofs.Inside.{inside_declared_id, inside_params}
use Rattle.spelled_scopes.proofs.Joined.{append_nil, state_at, goes_on, over_parts, listed, grouped}
use Rattle.spelled_scopes.proofs.Laws.{Says, Keeps, Passes, passes_none, passes_on, Names, Nears, Named, Parameters, Ends, number_or, says_none, says_on}
use Rattle.spelled_scopes.proofs.Quiet.{Lawful}

-- ---- names

or_next_none : (n : Option Name) → or_next n None ≡ n
or_next_none (Some n) = refl
or_next_none None = refl

-- of a declarator, from what its parts do
module _ (f : DeclaratorForm) (sp : Span) (ts : List Plain) where
  abbrev whole : Plain
  whole = node (form.Declarator f) sp ts

  named_whole : name_in (forest (whole ∷ [])) ≡ name_in (forest ts)
  named_whole = or_next_none (name_in (forest ts))

  later_by : (x y : List Event) → (x ++ y) ++ [] ≡ ((x ++ []) ++ []) ++ y
  later_by x y = append_nil (x ++ y) ∙ sym (ap (λ x. x ++ y) (append_nil (x ++ []) ∙ append_nil x))

  pub later : (c : WordClass) (b : Bool) → events_in (naming.Declared c b) (whole ∷ []) ≡ events_in (checked_if b) (whole ∷ []) ++ declared c (name_in (forest (whole ∷ [])))
  later c true = later_by (events_in naming.Checked ts) (declared c (name_in (forest ts))) ∙ ap (λ n. events_in naming.Checked (whole ∷ []) ++ declared c n) (sym named_whole)
  later c false = later_by (events_in naming.Nothing ts) (declared c (name_in (forest ts))) ∙ ap (λ n. events_in naming.Nothing (whole ∷ []) ++ declared c n) (sym named_whole)

  pub later_words : (c : WordClass) (b : Bool) → words_in (naming.Declared c b) (whole ∷ []) ≡ words_in (checked_if b) (whole ∷ []) ++ declared c (name_in (forest (whole ∷ [])))
  later_words c true = later_by (words_in naming.Checked ts) (declared c (name_in (forest ts))) ∙ ap (λ n. words_in naming.Checked (whole ∷ []) ++ declared c n) (sym named_whole)
  later_words c false = later_by (words_in naming.Nothing ts) (declared c (name_in (forest ts))) ∙ ap (λ n. words_in naming.Nothing (whole ∷ []) ++ declared c n) (sym named_whole)

  -- the parts go on so
  pub record Inner (s m : State) : Type 0 where
    pub silent : Goes naming.Nothing ts s m
    pub asked : s.kept.has_type ≡ false → Goes naming.Checked ts s m
    pub has : m.kept.has_type ≡ s.kept.has_type
    pub typedef : m.kept.is_typedef ≡ s.kept.is_typedef
    pub name : m.kept.name ≡ number_or (name_in (forest ts)) s.kept.name
    pub at_first : s.kept.has_type ≡ false → settled (checked (name_in (forest ts))) (frames s.entries) ≡ Scoped (frames s.entries)

  pub names : (s m : State) → Inner s m → Names whole s m
  names s m n = record {
    silent = over_parts (events_in naming.Nothing ts) (words_in naming.Nothing ts) s m n.silent;
    asked = λ h. over_parts (events_in naming.Checked ts) (words_in naming.Checked ts) s m (n.asked h);
    later = later;
    later_words = later_words;
    has = n.has;
    typedef = n.typedef;
    name = n.name ∙ ap (λ x. number_or x s.kept.name) (sym named_whole);
    at_first = λ h. subst (λ x. settled (checked x) (frames s.entries) ≡ Scoped (frames s.entries)) (sym named_whole) (n.at_first h);
  }

sealing : (u : NameUse) (ts : List Plain) (s z : State) → Goes u ts s z → Goes u ts s (happens event.Seal z)
sealing u ts s z g = record { scoped = g.scoped; declared = g.declared; aside = g.aside }

-- ---- what stands next to a name

sealed_words : (near : Near) → parameters (sealed near) ≡ parameters near
sealed_words Bare = refl
sealed_words (With words) = refl
sealed_words Other = refl

sealed_bare : (near : Near) → is_bare (sealed near) ≡ false
sealed_bare Bare = refl
sealed_bare (With words) = refl
sealed_bare Other = refl

with_words : (near : Near) (ws : List Entry) → parameters (with_parameters ws near) ≡ (if is_bare near then ws else parameters near)
with_words Bare ws = refl
with_words (With words) ws = refl
with_words Other ws = refl

with_bare : (near : Near) (ws : List Entry) → is_bare (with_parameters ws near) ≡ false
with_bare Bare ws = refl
with_bare (With words) ws = refl
with_bare Other ws = refl

-- whether a tree is a name does not depend on those after it
name_alone : (t : Plain) (rest : Forest) → is_name (tree t.form t.span t.parts rest) ≡ is_name (forest (t ∷ []))
name_alone t rest = by t.form
  where
    by : (f : Form) → is_name (tree f t.span t.parts rest) ≡ is_name (forest (record { form = f; span = t.span; parts = t.parts } ∷ []))
    by (form.Declarator declarator.Named) = refl
    by f = refl

module _ (w : List Shape) (S : Spelling) (lawful : Lawful S) (own : Sort)
    (within : (least : ℕ) (t : Plain) (i j : Spot) → S (inside own s.InnerDeclarator) least t i j → Names t i.state j.state × (own ≡ s.Declarator → Nears t j.state)) where
  abbrev Has : DeclaratorForm → Span → List Plain → State → State → Type 0
  Has f sp ts i j = Names (node (form.Declarator f) sp ts) i j × (own ≡ s.Declarator → Nears (node (form.Declarator f) sp ts) j)

  named_says : (sp : Span) (ts : List Plain) (i j : Spot) → Matches S w own (form.Declarator declarator.Named) Usual (pieces (form.Declarator declarator.Named)) ts i j → Has declarator.Named sp ts i.state j.state
  named_says sp ts i j m =
      let a : Named m.first i.state m.place.state = lawful s.DeclaredId 0 m.first i m.place (subst (λ due. S due 0 m.first i m.place) (inside_declared_id own) m.is_first) in
      let n = a.noted in
      let first : Plain = node (form.Id n.word) n.span [] in
      let tree : ts ≡ first ∷ [] = m.value ∙ ap (λ t. t ∷ m.others) n.value ∙ ap (λ l. first ∷ l) m.are_others.0 in
      let end : m.place.state ≡ j.state = state_at m.place j m.are_others.1 in
      let z : State = m.place.state in
      let same : Scoped (frames i.state.entries) ≡ Scoped (frames z.entries) = ap (λ es. Scoped (frames es)) (sym n.entries) in
      subst (λ z. Has declarator.Named sp ts i.state z) end (subst (λ ts. Has declarator.Named sp ts i.state z) (sym tree) (
        names declarator.Named sp (first ∷ []) i.state z (record {
          silent = record { scoped = same; declared = n.entries; aside = n.aside };
          asked = λ h. record { scoped = must_be_value n.word n.span [] i.state (a.is_value h) ∙ same; declared = n.entries; aside = n.aside };
          has = a.has;
          typedef = a.typedef;
          name = n.name;
          at_first = λ h. must_be_value n.word n.span [] i.state (a.is_value h);
        }),
        λ o. record { words = ap parameters a.near; bare = ap is_bare a.near; called = record { word = n.word; span = n.span }; is_called = refl },
      ))

  pointer_says : (sp : Span) (ts : List Plain) (i j : Spot) → Matches S w own (form.Declarator declarator.Pointer) Usual (pieces (form.Declarator declarator.Pointer)) ts i j → Has declarator.Pointer sp ts i.state j.state
  pointer_says sp ts i j m =
      let A = m.1 in
      let l = A.is_first in
      let q : Plain = node the_list (spanned (step i).place A.place.place) l.0 in
      let p : Passes l.0 i.state A.place.state = grouped Passes passes_none passes_on w (S s.Qualifier 0) (lawful s.Qualifier 0) (Many None 0) s.Qualifier Usual l.0 (step i) A.place l.1.1 in
      let a : Keeps (q ∷ []) i.state A.place.state = (λ u. listed u (spanned (step i).place A.place.place) l.0 i.state A.place.state (p.0.0 u), p.0.1) in
      let B = A.are_others in
      let b = within 1 B.first A.place B.place B.is_first in
      let z : State = happens event.Seal B.place.state in
      let end : z ≡ j.state = state_at (turned (happens event.Seal) B.place) j B.are_others.1.1 in
      let tree : ts ≡ q ∷ B.first ∷ [] = A.value ∙ ap (λ t. t ∷ A.others) l.1.0 ∙ ap (λ l. q ∷ l) (B.value ∙ ap (λ l. B.first ∷ l) B.are_others.1.0) in
      let n = b.0 in
      let typed : A.place.state.kept.has_type ≡ i.state.kept.has_type = ap (λ k. k.has_type) a.1 in
      subst (λ z. Has declarator.Pointer sp ts i.state z) end (subst (λ ts. Has declarator.Pointer sp ts i.state z) (sym tree) (
        names declarator.Pointer sp (q ∷ B.first ∷ []) i.state z (record {
          silent = goes_on naming.Nothing (q ∷ []) (B.first ∷ []) i.state A.place.state z (a.0 naming.Nothing) (sealing naming.Nothing (B.first ∷ []) A.place.state B.place.state n.silent);
          asked = λ h. goes_on naming.Checked (q ∷ []) (B.first ∷ []) i.state A.place.state z (a.0 naming.Checked) (sealing naming.Checked (B.first ∷ []) A.place.state B.place.state (n.asked (typed ∙ h)));
          has = n.has ∙ typed;
          typedef = n.typedef ∙ ap (λ k. k.is_typedef) a.1;
          name = n.name ∙ ap (λ k. number_or (name_in (forest (B.first ∷ []))) k.name) a.1;
          at_first = λ h. subst (λ es. settled (checked (name_in (forest (B.first ∷ [])))) (frames es) ≡ Scoped (frames es)) p.1 (n.at_first (typed ∙ h));
        }),
        λ o. let x = b.1 o in record {
          words = sealed_words B.place.state.kept.near ∙ x.words ∙ ap (λ ws. after_words ws []) (sym (append_nil (beside_name (forest (B.first ∷ [])))));
          bare = sealed_bare B.place.state.kept.near;
          called = x.called;
          is_called = or_next_none (name_in (forest (B.first ∷ []))) ∙ x.is_called;
        },
      ))

  -- an expression of an array's size
  sizes : (u : NameUse) (before : Before) (t : Plain) (i j : Spot) → IsList (IsGroup Optional s.Exp (S s.Exp 3) before w) t i j → Says u (t ∷ []) i.state j.state
  sizes u before t i j l = subst (λ t. Says u (t ∷ []) i.state j.state) (sym l.1.0) (λ f.
      let g = grouped (Says u) (says_none u) (says_on u) w (S s.Exp 3) (λ t i j x. lawful s.Exp 3 t i j x u) Optional s.Exp before l.0 i j l.1.1 f in
      (listed u (spanned i.place j.place) l.0 i.state j.state g.0, g.1))

  array_says : (sp : Span) (ts : List Plain) (i j : Spot) → Matches S w own (form.Declarator declarator.ArrayOf) Usual (pieces (form.Declarator declarator.ArrayOf)) ts i j → Has declarator.ArrayOf sp ts i.state j.state
  array_says sp ts i j m =
      let A = m in
      let a = within 2 A.first i A.place A.is_first in
      let n = a.0 in
      let o : Spot = turned (happens event.Aside) (step A.place) in
      let B = A.are_others.1.1 in
      let l = B.is_first in
      let q : Plain = node the_list (spanned o.place B.place.place) l.0 in
      let r : State = happens event.Resume B.place.state in
      let z : State = happens event.Seal r in
      let size : (u : NameUse) → Goes u (q ∷ []) o.state B.place.state = λ u. subst (λ t. Goes u (t ∷ []) o.state B.place.state) l.1.0 (sizes u Usual B.first o B.place B.is_first refl).0 in
      let p = λ (u : NameUse). apart (events_in u (q ∷ [])) (words_in u (q ∷ [])) A.place.state B.place.state (size u) in
      let kept : r.kept ≡ A.place.state.kept = (p naming.Nothing).1 in
      let end : z ≡ j.state = state_at (step (turned (happens event.Seal) (turned (happens event.Resume) B.place))) j B.are_others.1.1.1.1 in
      let tree : ts ≡ A.first ∷ q ∷ [] = A.value ∙ ap (λ l. A.first ∷ l) (B.value ∙ ap (λ t. t ∷ B.others) l.1.0 ∙ ap (λ l. q ∷ l) B.are_others.1.1.1.0) in
      subst (λ z. Has declarator.ArrayOf sp ts i.state z) end (subst (λ ts. Has declarator.ArrayOf sp ts i.state z) (sym tree) (
        names declarator.ArrayOf sp (A.first ∷ q ∷ []) i.state z (record {
          silent = goes_on naming.Nothing (A.first ∷ []) (q ∷ []) i.state A.place.state z n.silent (sealing naming.Nothing (q ∷ []) A.place.state r (p naming.Nothing).0);
          asked = λ h. goes_on naming.Checked (A.first ∷ []) (q ∷ []) i.state A.place.state z (n.asked h) (sealing naming.Checked (q ∷ []) A.place.state r (p naming.Checked).0);
          has = ap (λ k. k.has_type) kept ∙ n.has;
          typedef = ap (λ k. k.is_typedef) kept ∙ n.typedef;
          name = ap (λ k. k.name) kept ∙ n.name;
          at_first = n.at_first;
        }),
        λ o. let x = a.1 o in record {
          words = sealed_words r.kept.near ∙ ap (λ k. parameters k.near) kept ∙ x.words ∙ ap (λ ws. after_words ws []) (sym (append_nil (beside_name (forest (A.first ∷ [])))));
          bare = sealed_bare r.kept.near;
          called = x.called;
          is_called = or_next_none (name_in (forest (A.first ∷ []))) ∙ x.is_called;
        },
      ))

  -- which words are next to the name
  next_words : (b : Bool) (near : Near) (ws inner : List Event) → parameters near ≡ after_words inner [] → (if b then after_words ws [] else parameters near) ≡ after_words (if b then ws else inner) []
  next_words true near ws inner e = refl
  next_words false near ws inner e = e

  function_says : (sp : Span) (ts : List Plain) (i j : Spot) → Matches S w own (form.Declarator declarator.FunctionOf) Usual (pieces (form.Declarator declarator.FunctionOf)) ts i j → Has declarator.FunctionOf sp ts i.state j.state
  function_says sp ts i j m =
      let A = m in
      let a = within 2 A.first i A.place A.is_first in
      let n = a.0 in
      let c : State = A.place.state in
      let o : Spot = turned (happens event.Enter) (turned (happens event.Aside) (step A.place)) in
      let B = A.are_others.1.1.1 in
      let e : State = B.place.state in
      let P : Parameters B.first o.state e = lawful s.Params 0 B.first o B.place (subst (λ due. S due 0 B.first o B.place) (inside_params own) B.is_first) in
      let z : State = happens event.Close e in
      let end : z ≡ j.state = state_at (turned (happens event.Close) (step B.place)) j B.are_others.1.1.1 in
      let tree : ts ≡ A.first ∷ B.first ∷ [] = A.value ∙ ap (λ l. A.first ∷ l) (B.value ∙ ap (λ l. B.first ∷ l) B.are_others.1.1.0) in
      let ws : List Event = words_of_params (forest (B.first ∷ [])) in
      let declared : e.entries ≡ after_words ws (Edge c.is_late ∷ c.entries) = P.declared refl in
      let ends : Ends P.inner o.state e = P.ends refl in
      let back : z.entries ≡ c.entries = around ws c.is_late c.entries e.entries declared in
      let kept : top e.aside ≡ c.kept = ap top (P.aside refl) in
      let run : (u : NameUse) → Goes u (B.first ∷ []) c z = λ u. record {
        scoped = ap (λ es. settled es (frames c.entries)) (P.events u ∙ append_nil (Events.scope P.inner))
            ∙ scope_settled P.inner ws c.is_late c.entries e.entries ends.last ends.scoped ends.same declared
            ∙ ap (λ es. Scoped (frames es)) (sym back);
        declared = back ∙ ap (λ ws. after_words ws c.entries) (sym (P.no_words u));
        aside = ap under (P.aside refl);
      } in
      let name : name_in (forest (A.first ∷ B.first ∷ [])) ≡ name_in (forest (A.first ∷ [])) = ap (or_next (Meanings.name_at A.first.form A.first.span (name_in A.first.parts))) P.no_name in
      let beside : beside_name (forest (A.first ∷ B.first ∷ [])) ≡ beside_name (forest (A.first ∷ [])) = ap (λ l. Events.beside_at A.first.form A.first.parts (beside_name A.first.parts) ++ l) P.beside in
      let inner : innermost e.entries ≡ after_words ws [] = ap innermost declared ∙ words_innermost ws (Edge c.is_late ∷ c.entries) in
      subst (λ z. Has declarator.FunctionOf sp ts i.state z) end (subst (λ ts. Has declarator.FunctionOf sp ts i.state z) (sym tree) (
        names declarator.FunctionOf sp (A.first ∷ B.first ∷ []) i.state z (record {
          silent = goes_on naming.Nothing (A.first ∷ []) (B.first ∷ []) i.state c z n.silent (run naming.Nothing);
          asked = λ h. goes_on naming.Checked (A.first ∷ []) (B.first ∷ []) i.state c z (n.asked h) (run naming.Checked);
          has = ap (λ k. k.has_type) kept ∙ n.has;
          typedef = ap (λ k. k.is_typedef) kept ∙ n.typedef;
          name = ap (λ k. k.name) kept ∙ n.name ∙ ap (λ x. number_or x i.state.kept.name) (sym name);
          at_first = λ h. subst (λ x. settled (checked x) (frames i.state.entries) ≡ Scoped (frames i.state.entries)) (sym name) (n.at_first h);
        }),
        λ o. let x = a.1 o in record {
          words = with_words (top e.aside).near (innermost e.entries)
              ∙ ap (λ k. if is_bare k.near then innermost e.entries else parameters k.near) kept
              ∙ ap (λ b. if b then innermost e.entries else parameters c.kept.near) (x.bare ∙ sym (name_alone A.first (forest (B.first ∷ []))))
              ∙ ap (λ l. if is_name (forest (A.first ∷ B.first ∷ [])) then l else parameters c.kept.near) inner
              ∙ next_words (is_name (forest (A.first ∷ B.first ∷ []))) c.kept.near ws (beside_name (forest (A.first ∷ B.first ∷ []))) (x.words ∙ ap (λ ws. after_words ws []) (sym beside))
              ∙ ap (λ ws. after_words ws []) (sym (append_nil (if is_name (forest (A.first ∷ B.first ∷ [])) then ws else beside_name (forest (A.first ∷ B.first ∷ [])))));
          bare = with_bare (top e.aside).near (innermost e.entries);
          called = x.called;
          is_called = or_next_none (name_in (forest (A.first ∷ B.first ∷ []))) ∙ name ∙ x.is_called;
        },
      ))

  absent_says : (sp : Span) (ts : List Plain) (i j : Spot) → (own ≡ s.Declarator → ⊥) → Matches S w own (form.Declarator declarator.Absent) Usual (pieces (form.Declarator declarator.Absent)) ts i j → Has declarator.Absent sp ts i.state j.state
  absent_says sp ts i j n m = subst (λ z. Has declarator.Absent sp ts i.state z) (state_at i j m.1) (subst (λ ts. Has declarator.Absent sp ts i.state i.state) (sym m.0) (
    names declarator.Absent sp [] i.state i.state (record {
      silent = record { scoped = refl; declared = refl; aside = refl };
      asked = λ h. record { scoped = refl; declared = refl; aside = refl };
      has = refl;
      typedef = refl;
      name = refl;
      at_first = λ h. refl;
    }),
    λ o. absurd (n o),
  ))

  pub declarator_says : (f : DeclaratorForm) (sp : Span) (ts : List Plain) (i j : Spot) → (f ≡ declarator.Absent → own ≡ s.Declarator → ⊥) → Matches S w own (form.Declarator f) Usual (pieces (form.Declarator f)) ts i j → Has f sp ts i.state j.state
  declarator_says declarator.Named sp ts i j n m = named_says sp ts i j m
  declarator_says declarator.Absent sp ts i j n m = absent_says sp ts i j (n refl) m
  declarator_says declarator.Pointer sp ts i j n m = pointer_says sp ts i j m
  declarator_says declarator.ArrayOf sp ts i j n m = array_says sp ts i j m
  declarator_says declarator.FunctionOf sp ts i j n m = function_says sp ts i j m
