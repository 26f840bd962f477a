-- Function definitions, and external declarations.
use Rattle.std.proofs.Common.{◌≡◌, refl, ap, sym, subst, ◌∙◌, ℕ, Bool, true, false, ◌||◌, if◌then◌else◌, List, [], ◌∷◌, ◌++◌, Option, Some, None}
use Rattle.c_tokens.specs.declared.span.Span.{Span}
use Rattle.c_tokens.specs.declared.token.Shape.{Shape}
use Rattle.c_forms.specs.declared.pieces.Event.TheVariants as event
use Rattle.c_forms.specs.declared.pieces.Repetition.TheVariants.{Any, Many}
use Rattle.c_forms.specs.declared.pieces.Sort.{Sort}
use Rattle.c_forms.specs.declared.pieces.Sort.TheVariants as s
use Rattle.c_forms.specs.declared.forms.Form.TheVariants as form
use Rattle.c_forms.specs.declared.forms.ItemForm.TheVariants as item
use Rattle.c_forms.specs.Forests.{Plain, Forest, forest, node}
use Rattle.c_forms.specs.Measures.{pieces}
use Rattle.c_reader.specs.States.{Entry, Edge, State, AsValue, nothing_kept, happens, parameters}
use Rattle.c_reader.specs.States as States
use Rattle.c_reader.specs.Tokens.{Spot, turned}
use Rattle.c_syntax.specs.Reading.{Usual, before_by, is_absent, spanned, the_list}
use Rattle.c_syntax.specs.Spells.{Spelling, Matches}
use Rattle.scope_tables.specs.declared.table.WordClass.TheVariants.{Value}
use Rattle.scope_tables.specs.Frames.{Frame}
use Rattle.scope_meanings.specs.declared.meaning.NameUse.TheVariants as naming
use Rattle.scope_meanings.specs.declared.meaning.Name.{Name}
use Rattle.scope_meanings.specs.Meanings.{has_type, name_in, name_at, or_next}
use Rattle.scopes.specs.declared.event.Event.{Event}
use Rattle.scopes.specs.declared.event.Event.TheVariants.{Declare}
use Rattle.scopes.specs.Events as Events
use Rattle.scopes.specs.Events.{checked, scope, events_of, beside_name, beside_at}
use Rattle.scopes.specs.Settling.{Scoped, settled}
use Rattle.spelled_scopes.specs.Meant.{frames, after_words, events_in, words_in, Goes}
use Rattle.spelled_scopes.proofs.Apart.{around, scope_settled}
use Rattle.spelled_scopes.proofs.Declarations.{specs_say}
use Rattle.spelled_scopes.proofs.Frames.{settled_on, words_on, words_over}
use Rattle.spelled_scopes.proofs.Inside.{inside_declarator, inside_block, inside_decl}
use Rattle.spelled_scopes.proofs.Joined.{append_nil, state_at, goes_on, over_parts}
use Rattle.spelled_scopes.proofs.Laws.{Names, Nears, Finishes, number_or}
use Rattle.spelled_scopes.proofs.Quiet.{Lawful, quiet_list}
use Rattle.spelled_scopes.proofs.Sorts.{Starts}
use Rattle.spelled_scopes.proofs.Words.{only_beside}

or_next_none : (n : Option Name) → or_next n None ≡ n
or_next_none (Some n) = refl
or_next_none None = refl

-- events, and nothing after them
alone : (es : List Event) (fs gs : List Frame) → settled (es ++ []) fs ≡ Scoped gs → settled es fs ≡ Scoped gs
alone es fs gs e = ap (λ es. settled es fs) (sym (append_nil es)) ∙ e

-- where a type is told, a name is not checked
unless : (b : Bool) (es : List Event) (fs : List Frame) → (b ≡ false → settled es fs ≡ Scoped fs) → settled (if b then [] else es) fs ≡ Scoped fs
unless true es fs f = refl
unless false es fs f = f refl

module _ (w : List Shape) (S : Spelling) (lawful : Lawful S) (own : Sort) where
  pub function_says : (sp : Span) (ts : List Plain) (i j : Spot) → Matches S w own (form.Item item.Function) Usual (pieces (form.Item item.Function)) ts i j → Starts item.Function i.state → Finishes (node (form.Item item.Function) sp ts) i.state j.state
  function_says sp ts i j m f =
      let a = specs_say w S lawful Any s.Spec Usual m.first i m.place (lawful s.Spec 0) m.is_first in
      let q : Plain = node the_list a.span a.trees in
      let A : State = m.place.state in
      let B = m.are_others in
      let l : Names B.first A B.place.state × Nears B.first B.place.state = lawful s.Declarator 1 B.first m.place B.place (subst (λ due. S due 1 B.first m.place B.place) (inside_declarator own) B.is_first) in
      let n = l.0 in
      let x = l.1 in
      let b : State = B.place.state in
      let o : Spot = turned (happens event.Open) B.place in
      let C = B.are_others.1 in
      let c = quiet_list w S lawful (Many None 0) s.Decl 0 (before_by (is_absent B.first)) C.first o C.place refl C.is_first refl in
      let D = C.are_others in
      let y : Plain = node the_list (spanned o.place C.place.place) C.is_first.0 in
      let k = lawful s.Block 0 D.first C.place D.place (subst (λ due. S due 0 D.first C.place D.place) (inside_block own) D.is_first) in
      let d = k.0 naming.Nothing c.1 in
      let e : State = D.place.state in
      let z : State = happens event.Shut e in
      let end : z ≡ j.state = state_at (turned (happens event.Shut) D.place) j D.are_others.1.1 in
      let tree : ts ≡ q ∷ B.first ∷ y ∷ D.first ∷ [] = m.value ∙ ap (λ t. t ∷ m.others) a.value
      ∙ ap (λ l. q ∷ l) (B.value ∙ ap (λ l. B.first ∷ l) (C.value ∙ ap (λ t. t ∷ C.others) C.is_first.1.0 ∙ ap (λ l. y ∷ l) (D.value ∙ ap (λ l. D.first ∷ l) D.are_others.1.0))) in
      let ps : Forest = forest (q ∷ B.first ∷ y ∷ D.first ∷ []) in
      let word : ℕ = x.called.word.0 in
      let base : List Entry = AsValue word ∷ b.entries in
      let bw : List Event = beside_name (forest (B.first ∷ [])) in
      let named : name_in ps ≡ Some x.called = ap (λ n. or_next n (name_in (forest (D.first ∷ [])))) (sym (or_next_none (name_at B.first.form B.first.span (name_in B.first.parts))) ∙ x.is_called) in
      let beside : beside_name ps ≡ bw = ap (λ l. beside_at B.first.form B.first.parts (beside_name B.first.parts) ++ l) k.1 in
      let name : b.kept.name ≡ Some word = n.name ∙ ap (λ n. number_or n A.kept.name) x.is_called in
      let opened : o.state.entries ≡ after_words bw (Edge b.is_late ∷ base) =
      ap (λ es. es ++ (Edge b.is_late ∷ States.declared AsValue b.kept.name b.entries)) x.words
      ∙ ap (λ n. after_words bw [] ++ (Edge b.is_late ∷ States.declared AsValue n b.entries)) name
      ∙ words_over bw [] (Edge b.is_late ∷ base) in
      let inner : Goes naming.Nothing (y ∷ D.first ∷ []) o.state e = goes_on naming.Nothing (y ∷ []) (D.first ∷ []) o.state C.place.state e (subst (λ t. Goes naming.Nothing (t ∷ []) o.state C.place.state) C.is_first.1.0 c.0) d.0 in
      let es : List Event = events_in naming.Nothing (y ∷ D.first ∷ []) in
      let ws : List Event = words_in naming.Nothing (y ∷ D.first ∷ []) in
      let entries : e.entries ≡ after_words (bw ++ ws) (Edge b.is_late ∷ base) = inner.declared ∙ ap (after_words ws) opened ∙ sym (words_on bw ws (Edge b.is_late ∷ base)) in
      let ran : settled (bw ++ es) (frames (Edge b.is_late ∷ base)) ≡ Scoped (frames e.entries) =
      settled_on bw es (frames (Edge b.is_late ∷ base)) (frames o.state.entries) (only_beside (forest (B.first ∷ [])) (Edge b.is_late ∷ base) ∙ ap (λ es. Scoped (frames es)) (sym opened)) ∙ inner.scoped in
      let body : settled (scope (bw ++ es)) (frames base) ≡ Scoped (frames base) = scope_settled (bw ++ es) (bw ++ ws) b.is_late base e.entries (frames e.entries) ran refl entries in
      let back : z.entries ≡ base = around (bw ++ ws) b.is_late base e.entries entries in
      let made : settled (Declare x.called.word Value ∷ scope (bw ++ es)) (frames b.entries) ≡ Scoped (frames z.entries) = body ∙ ap (λ es. Scoped (frames es)) (sym back) in
      let rest : List Event = Declare x.called.word Value ∷ scope (bw ++ es) in
      let said : settled (events_of naming.Nothing B.first ++ rest) (frames A.entries) ≡ Scoped (frames z.entries) =
      settled_on (events_of naming.Nothing B.first) rest (frames A.entries) (frames b.entries) (alone (events_of naming.Nothing B.first) (frames A.entries) (frames b.entries) n.silent.scoped) ∙ made in
      let typed : A.kept.has_type ≡ has_type (forest a.trees) = a.specifies.has ∙ ap (λ b. b || has_type (forest a.trees)) f.0 in
      let check : List Event = if has_type (forest a.trees) then [] else checked (Some x.called) in
      let asked : settled (check ++ (events_of naming.Nothing B.first ++ rest)) (frames A.entries) ≡ Scoped (frames z.entries) =
      settled_on check (events_of naming.Nothing B.first ++ rest) (frames A.entries) (frames A.entries)
      (unless (has_type (forest a.trees)) (checked (Some x.called)) (frames A.entries) (λ h. ap (λ n. settled (checked n) (frames A.entries)) (sym x.is_called) ∙ n.at_first (typed ∙ h))) ∙ said in
      let g : Goes naming.Nothing a.trees i.state A = a.specifies.goes naming.Nothing in
      let all : List Event = events_of naming.Nothing q ++ (check ++ (events_of naming.Nothing B.first ++ rest)) in
      let whole : settled all (frames i.state.entries) ≡ Scoped (frames z.entries) =
      settled_on (events_of naming.Nothing q) (check ++ (events_of naming.Nothing B.first ++ rest)) (frames i.state.entries) (frames A.entries)
      (ap (λ l. settled l (frames i.state.entries)) (append_nil (events_in naming.Nothing a.trees)) ∙ g.scoped) ∙ asked in
      subst (λ z. Finishes (node (form.Item item.Function) sp ts) i.state z) end (subst (λ ts. Finishes (node (form.Item item.Function) sp ts) i.state z) (sym tree) (record {
        scoped = λ u. ap (λ l. settled l (frames i.state.entries)) (append_nil (events_of u (node (form.Item item.Function) sp (q ∷ B.first ∷ y ∷ D.first ∷ [])))
            ∙ ap (λ n. events_of naming.Nothing q ++ ((if has_type (forest a.trees) then [] else checked n) ++ (events_of naming.Nothing B.first ++ (Events.declared Value n ++ scope (beside_name ps ++ es))))) named
            ∙ ap (λ l. events_of naming.Nothing q ++ (check ++ (events_of naming.Nothing B.first ++ (Declare x.called.word Value ∷ scope (l ++ es))))) beside) ∙ whole;
        aside = inner.aside ∙ n.silent.aside ∙ g.aside;
        free = refl;
      }))

  pub declaration_says : (sp : Span) (ts : List Plain) (i j : Spot) → Matches S w own (form.Item item.Declaration) Usual (pieces (form.Item item.Declaration)) ts i j → Starts item.Declaration i.state → Finishes (node (form.Item item.Declaration) sp ts) i.state j.state
  declaration_says sp ts i j m f =
      let g = lawful s.Decl 0 m.first i m.place (subst (λ due. S due 0 m.first i m.place) (inside_decl own) m.is_first) naming.Nothing f in
      let tree : ts ≡ m.first ∷ [] = m.value ∙ ap (λ l. m.first ∷ l) m.are_others.0 in
      let r : Goes naming.Nothing ts i.state m.place.state = subst (λ ts. Goes naming.Nothing ts i.state m.place.state) (sym tree) g.0 in
      subst (λ z. Finishes (node (form.Item item.Declaration) sp ts) i.state z) (state_at m.place j m.are_others.1)
      (let o = over_parts (events_in naming.Nothing ts) (words_in naming.Nothing ts) i.state m.place.state r in record { scoped = λ u. o.scoped; aside = o.aside; free = g.1 })
