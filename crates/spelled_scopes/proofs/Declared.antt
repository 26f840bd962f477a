-- Declarations with their initializers, and parameters.
use Rattle.std.proofs.Common.{◌≡◌, refl, ap, sym, subst, ◌∙◌, ℕ, Bool, not, ◌||◌, List, [], ◌∷◌, Option, Some, None}
use Rattle.c_tokens.specs.declared.span.Span.{Span}
use Rattle.c_tokens.specs.declared.token.Shape.{Shape}
use Rattle.c_tokens.specs.declared.token.Punct.TheVariants as punct
use Rattle.c_tokens.specs.declared.class.Class.TheVariants as class
use Rattle.c_forms.specs.declared.pieces.Event.TheVariants as event
use Rattle.c_forms.specs.declared.pieces.Repetition.TheVariants.{Optional, All, Spliced}
use Rattle.c_forms.specs.declared.pieces.Sort.{Sort}
use Rattle.c_forms.specs.declared.pieces.Sort.TheVariants as s
use Rattle.c_forms.specs.declared.forms.Form.TheVariants as form
use Rattle.c_forms.specs.declared.forms.GroupForm.TheVariants as group
use Rattle.c_forms.specs.Forests.{Plain, forest, node}
use Rattle.c_forms.specs.Measures.{pieces}
use Rattle.c_forms.specs.Rules.{is_none}
use Rattle.c_reader.specs.States.{Entry, State, AsValue, nothing_kept, happens, entry}
use Rattle.c_reader.specs.States as States
use Rattle.c_reader.specs.Tokens.{Spot, step, turned}
use Rattle.c_syntax.specs.Reading.{Usual, before_by, is_absent, the_list}
use Rattle.c_syntax.specs.Spells.{Spelling, Matches}
use Rattle.scope_tables.specs.declared.table.WordClass.{WordClass}
use Rattle.scope_tables.specs.declared.table.WordClass.TheVariants.{Value}
use Rattle.scope_tables.specs.Frames.{class_named}
use Rattle.scope_meanings.specs.declared.meaning.NameUse.{NameUse}
use Rattle.scope_meanings.specs.declared.meaning.NameUse.TheVariants as naming
use Rattle.scope_meanings.specs.Meanings.{has_type, has_typedef, name_in}
use Rattle.spelled_scopes.specs.Meant.{entry_as, events_in, words_in, Goes}
use Rattle.spelled_scopes.proofs.Declarations.{number_only, no_type, declaring, specs_say, inits_list}
use Rattle.spelled_scopes.proofs.Frames.{entry_named}
use Rattle.spelled_scopes.proofs.Inside.{inside_declarator, inside_param_declarator}
use Rattle.spelled_scopes.proofs.Joined.{state_at, goes_on, over_parts, listed}
use Rattle.spelled_scopes.proofs.Laws.{Says, Inits, Names, Nears, number_or}
use Rattle.spelled_scopes.proofs.Quiet.{Lawful}
use Rattle.spelled_scopes.proofs.Specifiers.{keeps_list}

-- as a type or as a value
declared_as : (b : Bool) (c : WordClass) (x : Option ℕ) (es : List Entry) → class_named b ≡ c → States.declared (entry b) x es ≡ States.declared (entry_as c) x es
declared_as b c (Some n) es e = ap (λ k. k ∷ es) (entry_named b n ∙ ap (λ c. entry_as c n) e)
declared_as b c None es e = refl

pub declared_value : (x : Option ℕ) (es : List Entry) → States.declared AsValue x es ≡ States.declared (entry_as Value) x es
declared_value (Some n) es = refl
declared_value None es = refl

module _ (w : List Shape) (S : Spelling) (lawful : Lawful S) (own : Sort) where
  pub init_declarator_says : (sp : Span) (ts : List Plain) (i j : Spot) → Matches S w own (form.Group group.InitDeclarator) Usual (pieces (form.Group group.InitDeclarator)) ts i j → Inits (node (form.Group group.InitDeclarator) sp ts ∷ []) i.state j.state
  init_declarator_says sp ts i j m = λ c b f k.
      let l : Names m.first i.state m.place.state × Nears m.first m.place.state = lawful s.Declarator 1 m.first i m.place (subst (λ due. S due 1 m.first i m.place) (inside_declarator own) m.is_first) in
      let n = l.0 in
      let z : State = happens event.Declare m.place.state in
      let v : NameUse = naming.Declared c b in
      let name : m.place.state.kept.name ≡ number_only (name_in (forest (m.first ∷ []))) =
      n.name ∙ ap (λ x. number_or x i.state.kept.name) l.1.is_called ∙ sym (ap number_only l.1.is_called) in
      let entries : z.entries ≡ States.declared (entry_as c) (number_only (name_in (forest (m.first ∷ [])))) m.place.state.entries =
      declared_as m.place.state.kept.is_typedef c m.place.state.kept.name m.place.state.entries (ap class_named n.typedef ∙ k) ∙ ap (λ x. States.declared (entry_as c) x m.place.state.entries) name in
      let g : Goes v (m.first ∷ []) i.state z = declaring c b m.first i.state m.place.state z n f entries refl in
      let B = m.are_others.1 in
      let p = keeps_list w S Optional s.Initializer 0 (before_by (is_absent m.first)) B.first (turned (happens event.Declare) m.place) B.place (lawful s.Initializer 0) B.is_first in
      let tree : ts ≡ m.first ∷ B.first ∷ [] = m.value ∙ ap (λ l. m.first ∷ l) (B.value ∙ ap (λ l. B.first ∷ l) B.are_others.0) in
      let r : Goes v (m.first ∷ B.first ∷ []) i.state B.place.state = goes_on v (m.first ∷ []) (B.first ∷ []) i.state z B.place.state g (p.0 v) in
      subst (λ z. Goes v (node (form.Group group.InitDeclarator) sp ts ∷ []) i.state z × ((z.kept.has_type ≡ i.state.kept.has_type) × (z.kept.is_typedef ≡ i.state.kept.is_typedef))) (state_at B.place j B.are_others.1)
      (over_parts (events_in v ts) (words_in v ts) i.state B.place.state (subst (λ ts. Goes v ts i.state B.place.state) (sym tree) r), (ap (λ k. k.has_type) p.1 ∙ n.has, ap (λ k. k.is_typedef) p.1 ∙ n.typedef))

  pub decl_says : (sp : Span) (ts : List Plain) (i j : Spot) → Matches S w own form.Decl Usual (pieces form.Decl) ts i j → (u : NameUse) → Says u (node form.Decl sp ts ∷ []) i.state j.state
  decl_says sp ts i j m = λ u f.
      let a = specs_say w S lawful All s.Spec Usual m.first i m.place (lawful s.Spec 0) m.is_first in
      let q : Plain = node the_list a.span a.trees in
      let b : Bool = not (has_type (forest a.trees)) in
      let c : WordClass = class_named (has_typedef (forest a.trees)) in
      let v : NameUse = naming.Declared c b in
      let g : Goes v (q ∷ []) i.state m.place.state = listed v a.span a.trees i.state m.place.state (a.specifies.goes v) in
      let B = m.are_others in
      let n = inits_list w S lawful (Spliced (Some (class.Punct punct.Comma)) 0) (before_by (is_none m.first.parts)) B.first m.place B.place B.is_first c b
      (no_type m.place.state.kept.has_type (has_type (forest a.trees)) (a.specifies.has ∙ ap (λ k. k.has_type || has_type (forest a.trees)) f))
      (ap class_named (a.specifies.typedef ∙ ap (λ k. k.is_typedef || has_typedef (forest a.trees)) f)) in
      let z : State = happens event.Begin B.place.state in
      let end : z ≡ j.state = state_at (turned (happens event.Begin) (step B.place)) j B.are_others.1.1.1 in
      let tree : ts ≡ q ∷ B.first ∷ [] = m.value ∙ ap (λ t. t ∷ m.others) a.value ∙ ap (λ l. q ∷ l) (B.value ∙ ap (λ l. B.first ∷ l) B.are_others.1.1.0) in
      let r = goes_on v (q ∷ []) (B.first ∷ []) i.state m.place.state B.place.state g n.0 in
      subst (λ z. Goes u (node form.Decl sp ts ∷ []) i.state z × (z.kept ≡ nothing_kept)) end (
        subst (λ ts. Goes u (node form.Decl sp ts ∷ []) i.state z) (sym tree)
            (over_parts (events_in v (q ∷ B.first ∷ [])) (words_in v (q ∷ B.first ∷ [])) i.state z (record { scoped = r.scoped; declared = r.declared; aside = r.aside })),
        refl,
      )

  pub param_says : (sp : Span) (ts : List Plain) (i j : Spot) → Matches S w own form.Param Usual (pieces form.Param) ts i j → (u : NameUse) → Says u (node form.Param sp ts ∷ []) i.state j.state
  param_says sp ts i j m = λ u f.
      let a = specs_say w S lawful All s.Spec Usual m.first i m.place (lawful s.Spec 0) m.is_first in
      let q : Plain = node the_list a.span a.trees in
      let b : Bool = not (has_type (forest a.trees)) in
      let v : NameUse = naming.Declared Value b in
      let g : Goes v (q ∷ []) i.state m.place.state = listed v a.span a.trees i.state m.place.state (a.specifies.goes v) in
      let B = m.are_others in
      let n : Names B.first m.place.state B.place.state = lawful s.ParamDeclarator 1 B.first m.place B.place (subst (λ due. S due 1 B.first m.place B.place) (inside_param_declarator own) B.is_first) in
      let z : State = happens event.Begin (happens event.DeclareValue B.place.state) in
      let end : z ≡ j.state = state_at (turned (happens event.Begin) (turned (happens event.DeclareValue) B.place)) j B.are_others.1.1.1 in
      let name : B.place.state.kept.name ≡ number_only (name_in (forest (B.first ∷ []))) = n.name ∙ ap (number_or (name_in (forest (B.first ∷ [])))) (a.specifies.name ∙ ap (λ k. k.name) f) in
      let entries : z.entries ≡ States.declared (entry_as Value) (number_only (name_in (forest (B.first ∷ [])))) B.place.state.entries =
      declared_value B.place.state.kept.name B.place.state.entries ∙ ap (λ x. States.declared (entry_as Value) x B.place.state.entries) name in
      let d : Goes v (B.first ∷ []) m.place.state z = declaring Value b B.first m.place.state B.place.state z n
      (no_type m.place.state.kept.has_type (has_type (forest a.trees)) (a.specifies.has ∙ ap (λ k. k.has_type || has_type (forest a.trees)) f)) entries refl in
      let tree : ts ≡ q ∷ B.first ∷ [] = m.value ∙ ap (λ t. t ∷ m.others) a.value ∙ ap (λ l. q ∷ l) (B.value ∙ ap (λ l. B.first ∷ l) B.are_others.1.1.0) in
      subst (λ z. Goes u (node form.Param sp ts ∷ []) i.state z × (z.kept ≡ nothing_kept)) end (
        subst (λ ts. Goes u (node form.Param sp ts ∷ []) i.state z) (sym tree)
            (over_parts (events_in v (q ∷ B.first ∷ [])) (words_in v (q ∷ B.first ∷ [])) i.state z (goes_on v (q ∷ []) (B.first ∷ []) i.state m.place.state z g d)),
        refl,
      )
