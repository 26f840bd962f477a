-- Expressions, initializers and statements without declarations of their own.
use Rattle.std.proofs.Common.{◌≡◌, refl, ap, sym, subst, ◌∙◌, true, List, [], ◌∷◌, ◌++◌, None}
use Rattle.c_tokens.specs.declared.span.Span.{Span}
use Rattle.c_tokens.specs.declared.token.Word.{Word}
use Rattle.c_tokens.specs.declared.token.Shape.{Shape}
use Rattle.c_tokens.specs.declared.token.Shape.TheVariants as shape
use Rattle.c_tokens.specs.declared.class.Class.TheVariants as class
use Rattle.c_tokens.specs.ClassNumbers.{class_number}
use Rattle.c_forms.specs.declared.pieces.Event.TheVariants as event
use Rattle.c_forms.specs.declared.pieces.Repetition.TheVariants.{Spliced}
use Rattle.c_forms.specs.declared.pieces.Sort.{Sort}
use Rattle.c_forms.specs.declared.pieces.Sort.TheVariants as s
use Rattle.c_forms.specs.declared.forms.Form.TheVariants as form
use Rattle.c_forms.specs.declared.forms.ExpForm.{ExpForm}
use Rattle.c_forms.specs.declared.forms.ExpForm.TheVariants as exp
use Rattle.c_forms.specs.declared.forms.InitForm.{InitForm}
use Rattle.c_forms.specs.declared.forms.InitForm.TheVariants as init
use Rattle.c_forms.specs.declared.operators.BinaryOperator.{BinaryOperator}
use Rattle.c_forms.specs.declared.operators.BinaryOperator.TheVariants as operator
use Rattle.c_forms.specs.declared.forms.StmtForm.{StmtForm}
use Rattle.c_forms.specs.declared.forms.StmtForm.TheVariants as stmt
use Rattle.c_forms.specs.Forests.{Plain, node}
use Rattle.c_forms.specs.Measures.{pieces}
use Rattle.c_reader.specs.States.{State, nothing_kept, happens}
use Rattle.c_reader.specs.Tokens.{Spot, step, turned, raw_at, class_at}
use Rattle.c_syntax.specs.Reading.{Usual}
use Rattle.c_syntax.specs.Spells.{Spelling, Matches}
use Rattle.scope_meanings.specs.declared.meaning.NameUse.{NameUse}
use Rattle.scope_meanings.specs.declared.meaning.NameUse.TheVariants as naming
use Rattle.scopes.specs.declared.event.Event.{Event}
use Rattle.scopes.specs.Events.{scope}
use Rattle.scopes.specs.Settling.{Scoped, settled}
use Rattle.spelled_scopes.specs.Meant.{frames, Runs, events_in, words_in, Goes}
use Rattle.spelled_scopes.proofs.Apart.{apart, must_be_value, scope_settled, around}
use Rattle.spelled_scopes.proofs.Inside.{inside_exp, inside_type_name}
use Rattle.spelled_scopes.proofs.Joined.{append_nil, state_at, goes_on, over_parts}
use Rattle.spelled_scopes.proofs.Laws.{Says, Lists}
use Rattle.spelled_scopes.proofs.Quiet.{Lawful, are_quiet, quiet_parts, quiet_list}
use Rattle.spelled_scopes.proofs.Seen.{value_word, one_class}

-- ---- names

name_says : (w : List Shape) (S : Spelling) (own : Sort) (word : Word) (sp : Span) (ts : List Plain) (i j : Spot) → Matches S w own (form.Exp (exp.Name word)) Usual (pieces (form.Exp (exp.Name word))) ts i j
    → (u : NameUse) → Says u (node (form.Exp (exp.Name word)) sp ts ∷ []) i.state j.state
name_says w S own word sp ts i j m = λ u f.
    let raw : raw_at w i.place ≡ shape.Word word = cc m.0.0 in
    let v = value_word i.state (raw_at w i.place) word raw (one_class (class_number class.Word) (class_at w i) m.0.1) (ap (λ k. k.has_type) f) in
    let same : i.state ≡ j.state = state_at (step i) j m.1.1 in (
      record {
        scoped = must_be_value word sp [] i.state v ∙ ap (λ (s : State). Scoped (frames s.entries)) same;
        declared = ap (λ (s : State). s.entries) (sym same);
        aside = ap (λ (s : State). s.aside) (sym same);
      },
      ap (λ (s : State). s.kept) (sym same) ∙ f,
    )

binary_quiet : (o : BinaryOperator) → are_quiet (pieces (form.Exp (exp.Binary o))) ≡ true
binary_quiet operator.LogicalOr = refl
binary_quiet o = refl

module _ (w : List Shape) (S : Spelling) (lawful : Lawful S) (own : Sort) where
  -- ---- type names in expressions

  -- what stands around a part that is put aside
  cast_says : (sp : Span) (ts : List Plain) (i j : Spot) → Matches S w own (form.Exp exp.Cast) Usual (pieces (form.Exp exp.Cast)) ts i j → (u : NameUse) → Says u (node (form.Exp exp.Cast) sp ts ∷ []) i.state j.state
  cast_says sp ts i j m = λ u f.
      let A = m.1.1 in
      let k : Spot = turned (happens event.Aside) (step i) in
      let a : Lists (A.first ∷ []) k.state A.place.state = lawful s.TypeName 0 A.first k A.place (subst (λ due. S due 0 A.first k A.place) (inside_type_name own) A.is_first) refl in
      let p = apart (events_in naming.Nothing (A.first ∷ [])) (words_in naming.Nothing (A.first ∷ [])) i.state A.place.state (a naming.Nothing) in
      let B = A.are_others.1.1 in
      let r : Spot = step (turned (happens event.Resume) A.place) in
      let b = lawful s.Exp 14 B.first r B.place (subst (λ due. S due 14 B.first r B.place) (inside_exp own) B.is_first) naming.Nothing (p.1 ∙ f) in
      let tree : ts ≡ A.first ∷ B.first ∷ [] = A.value ∙ ap (λ l. A.first ∷ l) (B.value ∙ ap (λ l. B.first ∷ l) B.are_others.0) in
      let g : Goes naming.Nothing (A.first ∷ B.first ∷ []) i.state B.place.state = goes_on naming.Nothing (A.first ∷ []) (B.first ∷ []) i.state r.state B.place.state p.0 b.0 in
      subst (λ (j : Spot). Goes u (node (form.Exp exp.Cast) sp ts ∷ []) i.state j.state × (j.state.kept ≡ nothing_kept)) B.are_others.1
      (over_parts (events_in naming.Nothing ts) (words_in naming.Nothing ts) i.state B.place.state (subst (λ ts. Goes naming.Nothing ts i.state B.place.state) (sym tree) g), b.1)

  sizeof_says : (sp : Span) (ts : List Plain) (i j : Spot) → Matches S w own (form.Exp exp.SizeofType) Usual (pieces (form.Exp exp.SizeofType)) ts i j → (u : NameUse) → Says u (node (form.Exp exp.SizeofType) sp ts ∷ []) i.state j.state
  sizeof_says sp ts i j m = λ u f.
      let A = m.1.1.1 in
      let k : Spot = turned (happens event.Aside) (step (step i)) in
      let a : Lists (A.first ∷ []) k.state A.place.state = lawful s.TypeName 0 A.first k A.place (subst (λ due. S due 0 A.first k A.place) (inside_type_name own) A.is_first) refl in
      let p = apart (events_in naming.Nothing (A.first ∷ [])) (words_in naming.Nothing (A.first ∷ [])) i.state A.place.state (a naming.Nothing) in
      let r : Spot = step (turned (happens event.Resume) A.place) in
      let tree : ts ≡ A.first ∷ [] = A.value ∙ ap (λ l. A.first ∷ l) A.are_others.1.1.0 in
      subst (λ (j : Spot). Goes u (node (form.Exp exp.SizeofType) sp ts ∷ []) i.state j.state × (j.state.kept ≡ nothing_kept)) A.are_others.1.1.1
      (over_parts (events_in naming.Nothing ts) (words_in naming.Nothing ts) i.state r.state (subst (λ ts. Goes naming.Nothing ts i.state r.state) (sym tree) p.0), p.1 ∙ f)

  -- ---- expressions

  pub exp_says : (f : ExpForm) (sp : Span) (ts : List Plain) (i j : Spot) → Matches S w own (form.Exp f) Usual (pieces (form.Exp f)) ts i j → (u : NameUse) → Says u (node (form.Exp f) sp ts ∷ []) i.state j.state
  exp_says (exp.Name word) sp ts i j m = name_says w S own word sp ts i j m
  exp_says exp.Cast sp ts i j m = cast_says sp ts i j m
  exp_says exp.SizeofType sp ts i j m = sizeof_says sp ts i j m
  exp_says (exp.Binary o) sp ts i j m = λ u f.
      let g = quiet_parts w S lawful own (form.Exp (exp.Binary o)) Usual (pieces (form.Exp (exp.Binary o))) ts i j (binary_quiet o) m f in
      (over_parts (events_in naming.Nothing ts) (words_in naming.Nothing ts) i.state j.state g.0, g.1)
  exp_says e sp ts i j m = λ u f.
      let g = quiet_parts w S lawful own (form.Exp e) Usual (pieces (form.Exp e)) ts i j refl m f in
      (over_parts (events_in naming.Nothing ts) (words_in naming.Nothing ts) i.state j.state g.0, g.1)

  -- ---- initializers

  pub init_says : (f : InitForm) (sp : Span) (ts : List Plain) (i j : Spot) → Matches S w own (form.Init f) Usual (pieces (form.Init f)) ts i j → (u : NameUse) → Says u (node (form.Init f) sp ts ∷ []) i.state j.state
  init_says init.One sp ts i j m = λ u f.
      let g = quiet_parts w S lawful own (form.Init init.One) Usual (pieces (form.Init init.One)) ts i j refl m f in
      (over_parts (events_in naming.Nothing ts) (words_in naming.Nothing ts) i.state j.state g.0, g.1)
  init_says init.Braces sp ts i j m = λ u f.
      let g = quiet_parts w S lawful own (form.Init init.Braces) Usual (pieces (form.Init init.Braces)) ts i j refl m f in
      (over_parts (events_in naming.Nothing ts) (words_in naming.Nothing ts) i.state j.state g.0, g.1)

  -- ---- statements

  block_says : (sp : Span) (ts : List Plain) (i j : Spot) → Matches S w own (form.Stmt stmt.Block) Usual (pieces (form.Stmt stmt.Block)) ts i j → (u : NameUse) → Says u (node (form.Stmt stmt.Block) sp ts ∷ []) i.state j.state
  block_says sp ts i j m = λ u f.
      let A = m.1.1 in
      let k : Spot = turned (happens event.Enter) (step i) in
      let a = quiet_list w S lawful (Spliced None 0) s.BlockItem 0 Usual A.first k A.place refl A.is_first f in
      let o : Spot = step (turned (happens event.Leave) A.place) in
      let tree : ts ≡ A.first ∷ [] = A.value ∙ ap (λ l. A.first ∷ l) A.are_others.1.1.0 in
      let es : List Event = events_in naming.Nothing (A.first ∷ []) in
      let ws : List Event = words_in naming.Nothing (A.first ∷ []) in
      let back : o.state.entries ≡ i.state.entries = around ws i.state.is_late i.state.entries A.place.state.entries a.0.declared in
      let ran : Runs (scope es ++ []) [] i.state o.state = record {
        scoped = ap (λ l. settled l (frames i.state.entries)) (append_nil (scope es))
            ∙ scope_settled es ws i.state.is_late i.state.entries A.place.state.entries (frames A.place.state.entries) a.0.scoped refl a.0.declared
            ∙ ap (λ es. Scoped (frames es)) (sym back);
        declared = back;
        aside = a.0.aside;
      } in
      subst (λ (j : Spot). Goes u (node (form.Stmt stmt.Block) sp ts ∷ []) i.state j.state × (j.state.kept ≡ nothing_kept)) A.are_others.1.1.1
      (subst (λ ts. Goes u (node (form.Stmt stmt.Block) sp ts ∷ []) i.state o.state) (sym tree) ran, a.1)

  pub stmt_says : (f : StmtForm) (sp : Span) (ts : List Plain) (i j : Spot) → Matches S w own (form.Stmt f) Usual (pieces (form.Stmt f)) ts i j → (u : NameUse) → Says u (node (form.Stmt f) sp ts ∷ []) i.state j.state
  stmt_says stmt.Block sp ts i j m = block_says sp ts i j m
  stmt_says t sp ts i j m = λ u f.
      let g = quiet_parts w S lawful own (form.Stmt t) Usual (pieces (form.Stmt t)) ts i j refl m f in
      (over_parts (events_in naming.Nothing ts) (words_in naming.Nothing ts) i.state j.state g.0, g.1)
