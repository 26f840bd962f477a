-- Specifiers, and what stands in structures and enumerations.
use Rattle.std.proofs.Common.{◌≡◌, refl, ap, sym, subst, ◌∙◌, ℕ, Bool, true, false, ◌||◌, List, [], ◌∷◌, ◌++◌, Some}
use Rattle.c_tokens.specs.declared.span.Span.{Span}
use Rattle.c_tokens.specs.declared.token.Word.{Word}
use Rattle.c_tokens.specs.declared.token.Shape.{Shape}
use Rattle.c_tokens.specs.declared.token.Shape.TheVariants as shape
use Rattle.c_tokens.specs.declared.token.Punct.TheVariants as punct
use Rattle.c_tokens.specs.declared.class.Class.TheVariants as class
use Rattle.c_forms.specs.declared.operators.StorageClass.{StorageClass}
use Rattle.c_forms.specs.declared.operators.StorageClass.TheVariants as storage
use Rattle.c_forms.specs.declared.operators.StructOrUnion.{StructOrUnion}
use Rattle.c_forms.specs.declared.pieces.Event.TheVariants as event
use Rattle.c_forms.specs.declared.pieces.Repetition.{Repetition}
use Rattle.c_forms.specs.declared.pieces.Repetition.TheVariants.{Optional, Due, Spliced}
use Rattle.c_forms.specs.declared.pieces.Sort.{Sort}
use Rattle.c_forms.specs.declared.pieces.Sort.TheVariants as s
use Rattle.c_forms.specs.declared.forms.Form.TheVariants as form
use Rattle.c_forms.specs.declared.forms.SpecForm.{SpecForm}
use Rattle.c_forms.specs.declared.forms.SpecForm.TheVariants as spec
use Rattle.c_forms.specs.declared.forms.GroupForm.TheVariants as group
use Rattle.c_forms.specs.Forests.{Plain, node}
use Rattle.c_forms.specs.Measures.{pieces}
use Rattle.c_forms.specs.Rules.{is_none}
use Rattle.c_forms.specs.Sets.{type_word}
use Rattle.c_reader.specs.States.{State, AsValue, nothing_kept, happens}
use Rattle.c_reader.specs.States as States
use Rattle.c_reader.specs.Tokens.{Spot, step, turned, raw_at, class_at}
use Rattle.c_syntax.specs.Reading.{Before, Usual, before_by, is_absent, spanned}
use Rattle.c_syntax.specs.Spells.{Spelling, Matches, IsGroup, IsList}
use Rattle.scope_tables.specs.declared.table.WordClass.TheVariants.{Value}
use Rattle.scope_meanings.specs.declared.meaning.NameUse.{NameUse}
use Rattle.scope_meanings.specs.declared.meaning.NameUse.TheVariants as naming
use Rattle.scopes.specs.declared.event.Event.{Event}
use Rattle.scopes.specs.declared.event.Event.TheVariants.{Declare}
use Rattle.scopes.specs.Settling.{Scoped}
use Rattle.spelled_scopes.specs.Meant.{frames, Runs, events_in, words_in, Goes}
use Rattle.spelled_scopes.proofs.Apart.{apart, must_be_type}
use Rattle.spelled_scopes.proofs.Inside.{inside_enumerator_id}
use Rattle.spelled_scopes.proofs.Joined.{append_nil, state_at, goes_on, runs_on, as_runs, over_parts, listed, grouped, moved}
use Rattle.spelled_scopes.proofs.Laws.{Says, Keeps, Lists, Specifies, Noted, keeps_none, keeps_on, lists_none, lists_on, or_none}
use Rattle.spelled_scopes.proofs.Quiet.{Lawful, quiet_parts, quiet_list}
use Rattle.spelled_scopes.proofs.Seen.{type_named, one_class}
use Rattle.spelled_scopes.proofs.Sorts.{is_qualifier}

or_true : (a : Bool) → true ≡ (a || true)
or_true true = refl
or_true false = refl

-- ---- lists of parts that leave what is begun as it is

module _ (w : List Shape) (S : Spelling) where
  pub keeps_list : (r : Repetition) (due : Sort) (least : ℕ) (before : Before) (t : Plain) (i j : Spot) → ((t : Plain) (i j : Spot) → S due least t i j → Keeps (t ∷ []) i.state j.state) → IsList (IsGroup r due (S due least) before w) t i j → Keeps (t ∷ []) i.state j.state
  keeps_list r due least before t i j each l = subst (λ t. Keeps (t ∷ []) i.state j.state) (sym l.1.0) (
      let g = grouped Keeps keeps_none keeps_on w (S due least) each r due before l.0 i j l.1.1 in
      (λ u. listed u (spanned i.place j.place) l.0 i.state j.state (g.0 u), g.1))

  pub lists_list : (r : Repetition) (due : Sort) (least : ℕ) (before : Before) (t : Plain) (i j : Spot) → ((t : Plain) (i j : Spot) → S due least t i j → Lists (t ∷ []) i.state j.state) → IsList (IsGroup r due (S due least) before w) t i j → Lists (t ∷ []) i.state j.state
  lists_list r due least before t i j each l = subst (λ t. Lists (t ∷ []) i.state j.state) (sym l.1.0) (
      let g = grouped Lists lists_none lists_on w (S due least) each r due before l.0 i j l.1.1 in
      λ u. listed u (spanned i.place j.place) l.0 i.state j.state (g u))

-- ---- specifiers of one token

abbrev Spec : SpecForm → Span → List Plain → State → State → Type 0
Spec f sp ts i j = Specifies (node (form.Spec f) sp ts ∷ []) i j × (is_qualifier f ≡ true → (j.kept ≡ i.kept) × (j.entries ≡ i.entries))

ended : (f : SpecForm) (sp : Span) (ts : List Plain) (i m : State) (j k : Spot) → ts ≡ [] → k ≡ j → k.state ≡ m → Spec f sp [] i m → Spec f sp ts i j.state
ended f sp ts i m j k e q r l = subst (λ ts. Spec f sp ts i j.state) (sym e) (subst (λ m. Spec f sp [] i m) (sym r ∙ state_at k j q) l)

module _ (w : List Shape) (S : Spelling) (lawful : Lawful S) (own : Sort) where
  storage_says : (c : StorageClass) (sp : Span) (ts : List Plain) (i j : Spot) → Matches S w own (form.Spec (spec.Storage c)) Usual (pieces (form.Spec (spec.Storage c))) ts i j → Spec (spec.Storage c) sp ts i.state j.state
  storage_says storage.Typedef sp ts i j m = ended (spec.Storage storage.Typedef) sp ts i.state (happens event.Typedef i.state) j (turned (happens event.Typedef) (step i)) m.1.1.0 m.1.1.1 refl
      (record { goes = λ u. record { scoped = refl; declared = refl; aside = refl }; has = or_none i.state.kept.has_type; typedef = or_true i.state.kept.is_typedef; name = refl }, λ e. absurd (cc e))
  storage_says c sp ts i j m = ended (spec.Storage c) sp ts i.state i.state j (step i) m.1.0 m.1.1 refl
      (record { goes = λ u. record { scoped = refl; declared = refl; aside = refl }; has = or_none i.state.kept.has_type; typedef = or_none i.state.kept.is_typedef; name = refl }, λ e. absurd (cc e))

  name_says : (word : Word) (sp : Span) (ts : List Plain) (i j : Spot) → Matches S w own (form.Spec (spec.Typedef word)) Usual (pieces (form.Spec (spec.Typedef word))) ts i j → Spec (spec.Typedef word) sp ts i.state j.state
  name_says word sp ts i j m =
      let raw : raw_at w i.place ≡ shape.Word word = cc m.0.0 in
      let v = type_named i.state (raw_at w i.place) word raw (one_class type_word (class_at w i) m.0.1) in
      ended (spec.Typedef word) sp ts i.state (happens event.SoleType i.state) j (turned (happens event.SoleType) (step i)) m.1.1.0 m.1.1.1 refl
      (record { goes = λ u. record { scoped = must_be_type word sp [] i.state v; declared = refl; aside = refl }; has = or_true i.state.kept.has_type; typedef = or_none i.state.kept.is_typedef; name = refl }, λ e. absurd (cc e))

  struct_says : (k : StructOrUnion) (sp : Span) (ts : List Plain) (i j : Spot) → Matches S w own (form.Spec (spec.StructOf k)) Usual (pieces (form.Spec (spec.StructOf k))) ts i j → Spec (spec.StructOf k) sp ts i.state j.state
  struct_says k sp ts i j m =
      let A = m.1.1 in
      let o : Spot = turned (happens event.Aside) (step i) in
      let a = quiet_list w S lawful Optional s.Id 0 Usual A.first o A.place refl A.is_first refl in
      let B = A.are_others in
      let b = quiet_list w S lawful Due s.Members 0 (before_by (is_none A.first.parts)) B.first A.place B.place refl B.is_first a.1 in
      let p = apart (events_in naming.Nothing (A.first ∷ B.first ∷ [])) (words_in naming.Nothing (A.first ∷ B.first ∷ [])) i.state B.place.state
      (goes_on naming.Nothing (A.first ∷ []) (B.first ∷ []) o.state A.place.state B.place.state a.0 b.0) in
      let r : State = happens event.Resume B.place.state in
      let z : State = happens event.SoleType r in
      let end : z ≡ j.state = state_at (turned (happens event.SoleType) (turned (happens event.Resume) B.place)) j B.are_others.1.1.1 in
      let tree : ts ≡ A.first ∷ B.first ∷ [] = A.value ∙ ap (λ l. A.first ∷ l) (B.value ∙ ap (λ l. B.first ∷ l) B.are_others.1.1.0) in
      subst (λ z. Spec (spec.StructOf k) sp ts i.state z) end (subst (λ ts. Spec (spec.StructOf k) sp ts i.state z) (sym tree) (
        record {
          goes = λ u. over_parts (events_in naming.Nothing (A.first ∷ B.first ∷ [])) (words_in naming.Nothing (A.first ∷ B.first ∷ [])) i.state z (record { scoped = p.0.scoped; declared = p.0.declared; aside = p.0.aside });
          has = or_true i.state.kept.has_type;
          typedef = ap (λ k. k.is_typedef) p.1 ∙ or_none i.state.kept.is_typedef;
          name = ap (λ k. k.name) p.1;
        },
        λ e. absurd (cc e),
      ))

  enum_says : (sp : Span) (ts : List Plain) (i j : Spot) → Matches S w own (form.Spec spec.EnumOf) Usual (pieces (form.Spec spec.EnumOf)) ts i j → Spec spec.EnumOf sp ts i.state j.state
  enum_says sp ts i j m =
      let A = m.1.1 in
      let o : Spot = turned (happens event.Aside) (step i) in
      let a = quiet_list w S lawful Optional s.Id 0 Usual A.first o A.place refl A.is_first refl in
      let B = A.are_others in
      let b = lists_list w S Due s.Enumerators 0 (before_by (is_none A.first.parts)) B.first A.place B.place (lawful s.Enumerators 0) B.is_first naming.Nothing in
      let p = apart (events_in naming.Nothing (A.first ∷ B.first ∷ [])) (words_in naming.Nothing (A.first ∷ B.first ∷ [])) i.state B.place.state
      (goes_on naming.Nothing (A.first ∷ []) (B.first ∷ []) o.state A.place.state B.place.state a.0 b) in
      let z : State = happens event.SoleType (happens event.Resume B.place.state) in
      let end : z ≡ j.state = state_at (turned (happens event.SoleType) (turned (happens event.Resume) B.place)) j B.are_others.1.1.1 in
      let tree : ts ≡ A.first ∷ B.first ∷ [] = A.value ∙ ap (λ l. A.first ∷ l) (B.value ∙ ap (λ l. B.first ∷ l) B.are_others.1.1.0) in
      subst (λ z. Spec spec.EnumOf sp ts i.state z) end (subst (λ ts. Spec spec.EnumOf sp ts i.state z) (sym tree) (
        record {
          goes = λ u. over_parts (events_in naming.Nothing (A.first ∷ B.first ∷ [])) (words_in naming.Nothing (A.first ∷ B.first ∷ [])) i.state z (record { scoped = p.0.scoped; declared = p.0.declared; aside = p.0.aside });
          has = or_true i.state.kept.has_type;
          typedef = ap (λ k. k.is_typedef) p.1 ∙ or_none i.state.kept.is_typedef;
          name = ap (λ k. k.name) p.1;
        },
        λ e. absurd (cc e),
      ))

  pub spec_says : (f : SpecForm) (sp : Span) (ts : List Plain) (i j : Spot) → Matches S w own (form.Spec f) Usual (pieces (form.Spec f)) ts i j → Spec f sp ts i.state j.state
  spec_says (spec.Storage c) sp ts i j m = storage_says c sp ts i j m
  spec_says (spec.Qualifier q) sp ts i j m = ended (spec.Qualifier q) sp ts i.state i.state j (step i) m.1.0 m.1.1 refl
      (record { goes = λ u. record { scoped = refl; declared = refl; aside = refl }; has = or_none i.state.kept.has_type; typedef = or_none i.state.kept.is_typedef; name = refl }, λ e. (refl, refl))
  spec_says (spec.Basic b) sp ts i j m = ended (spec.Basic b) sp ts i.state (happens event.Typed i.state) j (turned (happens event.Typed) (step i)) m.1.1.0 m.1.1.1 refl
      (record { goes = λ u. record { scoped = refl; declared = refl; aside = refl }; has = or_true i.state.kept.has_type; typedef = or_none i.state.kept.is_typedef; name = refl }, λ e. absurd (cc e))
  spec_says (spec.Typedef word) sp ts i j m = name_says word sp ts i j m
  spec_says (spec.StructOf k) sp ts i j m = struct_says k sp ts i j m
  spec_says spec.EnumOf sp ts i j m = enum_says sp ts i j m

  -- ---- members and enumerators in braces

  pub members_say : (sp : Span) (ts : List Plain) (i j : Spot) → Matches S w own (form.Group group.Members) Usual (pieces (form.Group group.Members)) ts i j → (u : NameUse) → Says u (node (form.Group group.Members) sp ts ∷ []) i.state j.state
  members_say sp ts i j m = λ u f.
      let g = quiet_parts w S lawful own (form.Group group.Members) Usual (pieces (form.Group group.Members)) ts i j refl m f in
      (over_parts (events_in naming.Nothing ts) (words_in naming.Nothing ts) i.state j.state g.0, g.1)

  pub else_says : (sp : Span) (ts : List Plain) (i j : Spot) → Matches S w own (form.Group group.ElsePart) Usual (pieces (form.Group group.ElsePart)) ts i j → (u : NameUse) → Says u (node (form.Group group.ElsePart) sp ts ∷ []) i.state j.state
  else_says sp ts i j m = λ u f.
      let g = quiet_parts w S lawful own (form.Group group.ElsePart) Usual (pieces (form.Group group.ElsePart)) ts i j refl m f in
      (over_parts (events_in naming.Nothing ts) (words_in naming.Nothing ts) i.state j.state g.0, g.1)

  pub enumerators_say : (sp : Span) (ts : List Plain) (i j : Spot) → Matches S w own (form.Group group.Enumerators) Usual (pieces (form.Group group.Enumerators)) ts i j → Lists (node (form.Group group.Enumerators) sp ts ∷ []) i.state j.state
  enumerators_say sp ts i j m = λ u.
      let A = m.1 in
      let a = lists_list w S (Spliced (Some (class.Punct punct.Comma)) 1) s.Enumerator 0 Usual A.first (step i) A.place (lawful s.Enumerator 0) A.is_first naming.Nothing in
      let tree : ts ≡ A.first ∷ [] = A.value ∙ ap (λ l. A.first ∷ l) A.are_others.1.0 in
      over_parts (events_in naming.Nothing ts) (words_in naming.Nothing ts) i.state j.state (subst (λ ts. Goes naming.Nothing ts i.state j.state) (sym tree) (subst (λ j. Goes naming.Nothing (A.first ∷ []) i.state j) (state_at (step A.place) j A.are_others.1.1) a))

  pub enumerator_says : (sp : Span) (ts : List Plain) (i j : Spot) → Matches S w own form.Enumerator Usual (pieces form.Enumerator) ts i j → Lists (node form.Enumerator sp ts ∷ []) i.state j.state
  enumerator_says sp ts i j m = λ u.
      let A = m in
      let a : Noted A.first i.state A.place.state = lawful s.EnumeratorId 0 A.first i A.place (subst (λ due. S due 0 A.first i A.place) (inside_enumerator_id own) A.is_first) in
      let first : Plain = node (form.Id a.word) a.span [] in
      let B = A.are_others in
      let b = keeps_list w S Optional s.EnumeratorValue 0 (before_by (is_absent A.first)) B.first A.place B.place (lawful s.EnumeratorValue 0) B.is_first in
      let g : Runs (events_in naming.Nothing (B.first ∷ [])) (words_in naming.Nothing (B.first ∷ [])) i.state B.place.state =
      moved (events_in naming.Nothing (B.first ∷ [])) (words_in naming.Nothing (B.first ∷ [])) A.place.state i.state B.place.state B.place.state a.entries a.aside refl refl (b.0 naming.Nothing) in
      let z : State = happens event.DeclareValue B.place.state in
      let end : z ≡ j.state = state_at (turned (happens event.DeclareValue) B.place) j B.are_others.1.1 in
      let entries : z.entries ≡ AsValue a.word.0 ∷ B.place.state.entries = ap (λ n. States.declared AsValue n B.place.state.entries) (ap (λ k. k.name) b.1 ∙ a.name) in
      let made : Runs (Declare a.word Value ∷ []) (Declare a.word Value ∷ []) B.place.state z = record { scoped = ap (λ es. Scoped (frames es)) (sym entries); declared = entries; aside = refl } in
      let tree : ts ≡ first ∷ B.first ∷ [] = A.value ∙ ap (λ t. t ∷ A.others) a.value ∙ ap (λ l. first ∷ l) (B.value ∙ ap (λ l. B.first ∷ l) B.are_others.1.0) in
      let es : List Event = events_in naming.Nothing (B.first ∷ []) ++ (Declare a.word Value ∷ []) in
      let ws : List Event = words_in naming.Nothing (B.first ∷ []) ++ (Declare a.word Value ∷ []) in
      let r : Runs es ws i.state z = runs_on (events_in naming.Nothing (B.first ∷ [])) (Declare a.word Value ∷ []) (words_in naming.Nothing (B.first ∷ [])) (Declare a.word Value ∷ []) i.state B.place.state z g made in
      subst (λ z. Goes u (node form.Enumerator sp ts ∷ []) i.state z) end (subst (λ ts. Goes u (node form.Enumerator sp ts ∷ []) i.state z) (sym tree)
      (as_runs es (es ++ []) ws (ws ++ []) i.state z (sym (append_nil es)) (sym (append_nil ws)) r))
