-- A node that is spelled breaks no rule beside the table.
use Rattle.std.proofs.Common.{◌≡◌, ◌⊎◌, inl, inr, refl, ap, sym, ◌∙◌, ℕ, Bool, true, false, not, ◌&&◌, ◌||◌, List, [], ◌∷◌, Option, None}
use Rattle.c_tokens.specs.declared.span.Span.{Span}
use Rattle.c_tokens.specs.declared.token.Shape.{Shape}
use Rattle.c_forms.specs.declared.pieces.Event.TheVariants as event
use Rattle.c_forms.specs.declared.pieces.Sort.{Sort}
use Rattle.c_forms.specs.declared.pieces.Sort.TheVariants as s
use Rattle.c_forms.specs.declared.pieces.Repetition.{Repetition}
use Rattle.c_forms.specs.declared.pieces.Repetition.TheVariants.{Optional, Due, All, Any, Spliced}
use Rattle.c_forms.specs.declared.pieces.Piece.{Piece}
use Rattle.c_forms.specs.declared.pieces.Piece.TheVariants.{Group}
use Rattle.c_forms.specs.declared.forms.Form.{Form}
use Rattle.c_forms.specs.declared.forms.Form.TheVariants as form
use Rattle.c_forms.specs.declared.forms.SpecForm.{SpecForm}
use Rattle.c_forms.specs.declared.forms.SpecForm.TheVariants as spec
use Rattle.c_forms.specs.declared.forms.DeclaratorForm.{DeclaratorForm}
use Rattle.c_forms.specs.declared.forms.DeclaratorForm.TheVariants as declarator
use Rattle.c_forms.specs.declared.forms.StmtForm.{StmtForm}
use Rattle.c_forms.specs.declared.forms.StmtForm.TheVariants as stmt
use Rattle.c_forms.specs.declared.forms.ItemForm.{ItemForm}
use Rattle.c_forms.specs.declared.forms.ItemForm.TheVariants as item
use Rattle.c_forms.specs.declared.forms.GroupForm.{GroupForm}
use Rattle.c_forms.specs.declared.forms.GroupForm.TheVariants as group
use Rattle.c_forms.specs.declared.rules.Rule.{Rule}
use Rattle.c_forms.specs.declared.rules.Rule.TheVariants.{TagOrBody, NameOrWidth, NoName, Name, NoFunction, SoleType, AbstractIds, LateDeclaration}
use Rattle.c_forms.specs.Forests.{Plain, Forest, tree, forest, node}
use Rattle.c_forms.specs.Measures.{pieces}
use Rattle.c_forms.specs.Places.{stands, serves}
use Rattle.c_forms.specs.Rules.{is_none, in_first, after_first, are_specifiers, ordered, is_absent, names, has_function, unless, among_rules, in_spec, in_declarator, in_stmt, in_item, in_group}
use Rattle.c_reader.specs.States.{State, Kept, happens}
use Rattle.c_reader.specs.Tokens.{Spot, step, turned}
use Rattle.c_syntax.specs.Reading.{Before, Usual, before_by, is_missing, the_list}
use Rattle.c_syntax.specs.Reading as reading
use Rattle.c_syntax.specs.Spells.{Spelling, IsGroup, Matches}
use Rattle.spelled_trees.specs.Effects.{Need, Anew, needs, Meets, IsNew, is_plain_sort}
use Rattle.spelled_trees.specs.Told.{is_named, is_function, Specified, Told, Ended}
use Rattle.spelled_trees.proofs.Parts.{left_of, group_fold}
use Rattle.spelled_trees.proofs.Fitted.{at_sort}
use Rattle.spelled_trees.proofs.Suits.{is_anew}
use Rattle.spelled_trees.proofs.Rows.{Right}
use Rattle.spelled_trees.proofs.Specifiers.{specifiers}
use Rattle.spelled_trees.proofs.Declarators.{two, listed_names}
use Rattle.spelled_trees.proofs.Named.{listed}
use Rattle.spelled_trees.proofs.Statements.{closed_if}
use Rattle.spelled_trees.proofs.Blocks.{items}

-- the pieces after the first
abbrev behind : List Piece → List Piece
behind [] = []
behind (p ∷ ps) = ps

passes : (b : Bool) (r : Rule) (o : Option Rule) → b ≡ true → o ≡ None → unless b r o ≡ None
passes true r o e k = k
passes false r o e k = absurd (cc e)

new_by : (n : Need) (kept : Kept) → is_anew n ≡ true → Meets n kept → IsNew kept
new_by Anew kept h M = M
new_by n kept h M = absurd (cc h)

not_false : (b : Bool) → b ≡ false → not b ≡ true
not_false true e = absurd (cc e)
not_false false e = refl

or_here : (a b : Bool) → a ≡ true → (a || b) ≡ true
or_here true b e = refl
or_here false b e = absurd (cc e)

absent_is : (f : Form) (sp : Span) (ps rest : Forest) → reading.is_absent (record { form = f; span = sp; parts = ps }) ≡ true → is_absent (tree f sp ps rest) ≡ true
absent_is (form.Declarator declarator.Absent) sp ps rest h = refl
absent_is f sp ps rest h = absurd (cc h)

-- the second part is a declarator
second_named : (list part : Plain) (rest : List Plain) (sp : Span) (xs : List Plain) → list ≡ node the_list sp xs → is_named part ≡ true → names (forest (list ∷ (part ∷ rest))) ≡ true
second_named list part rest sp xs e n = rw e (or_here (is_named part) (names (forest rest)) n)

second_function : (list part : Plain) (rest : List Plain) (sp : Span) (xs : List Plain) → list ≡ node the_list sp xs → is_function part ≡ true → has_function (forest (list ∷ (part ∷ rest))) ≡ true
second_function list part rest sp xs e n = rw e (or_here (is_function part) (has_function (forest rest)) n)

module _ (w : List Shape) (P : Spelling) (T : (due : Sort) (least : ℕ) (t : Plain) (i j : Spot) → P due least t i j → is_plain_sort due ≡ true → Meets (needs due) i.state.kept → Told w due t i j)
    (S : (due : Sort) (least : ℕ) (t : Plain) (i j : Spot) → P due least t i j → stands t.form due ≡ true) (E : (due : Sort) (least : ℕ) (t : Plain) (i j : Spot) → P due least t i j → Ended w due t i j) where
  -- ---- lists of specifiers

  specified : (t : Plain) (i j : Spot) → P s.Spec 0 t i j → Specified t i.state j.state
  specified t i j p = (T s.Spec 0 t i j p refl tt).besides

  specified_plain : (t : Plain) (i j : Spot) → P s.PlainSpec 0 t i j → Specified t i.state j.state
  specified_plain t i j p = (T s.PlainSpec 0 t i j p refl tt).besides

  first_are : (own due : Sort) (f : Form) (before : Before) (r : Repetition) (ps : List Piece) (ts : List Plain) (i j : Spot) → ((t : Plain) (i j : Spot) → P due 0 t i j → Specified t i.state j.state)
      → Matches P w own f before (Group r due 0 ∷ ps) ts i j → IsNew i.state.kept → are_specifiers (in_first (forest ts)) ≡ true
  first_are own due f before r ps ts i j B M N = ap (λ l. are_specifiers (in_first (forest l))) M.value ∙ (ap (λ (x : Plain). are_specifiers x.parts) M.is_first.1.0
      ∙ (specifiers w (P due 0) B r due before M.is_first.0 i M.place M.is_first.1.1 N).are)

  still_unnamed : (r : Repetition) (before : Before) (ts : List Plain) (i j : Spot) → IsGroup r s.PlainSpec (P s.PlainSpec 0) before w ts i j → j.state.kept.name ≡ i.state.kept.name
  still_unnamed r before ts i j G = group_fold w (P s.PlainSpec 0) (λ ts i j. j.state.kept.name ≡ i.state.kept.name) (λ i. refl)
      (λ ts t i j k m R e q. (T s.PlainSpec 0 t k m q refl tt).leaves.kept ∙ (ap (λ (x : State). x.kept.name) e ∙ R)) r s.PlainSpec before ts i j G

  -- ---- each form

  type_name : (own : Sort) (ts : List Plain) (i j : Spot) → IsNew i.state.kept → Matches P w own form.TypeName Usual (pieces form.TypeName) ts i j → among_rules form.TypeName (forest ts) ≡ None
  type_name own ts i j N M = let Q = M.are_others in
      let n = still_unnamed All Usual M.is_first.0 i M.place M.is_first.1.1 ∙ N.nameless in
      let d = (T s.AbstractDeclarator 1 Q.first M.place Q.place (at_sort P own s.AbstractDeclarator 1 Q.first M.place Q.place refl Q.is_first) refl n).besides in
      let e = ap (λ l. names (forest l)) (two M.value Q.value Q.are_others.0) ∙ (listed_names M.first Q.first _ M.is_first.0 M.is_first.1.0 ∙ d) in
      passes _ SoleType _ (first_are own s.PlainSpec form.TypeName Usual All (behind (pieces form.TypeName)) ts i j specified_plain M N) (passes _ Name None (not_false (names (forest ts)) e) refl)

  function : (own : Sort) (ts : List Plain) (i j : Spot) → IsNew i.state.kept → Matches P w own (form.Item item.Function) Usual (pieces (form.Item item.Function)) ts i j → in_item item.Function (forest ts) ≡ None
  function own ts i j N M = let D = M.are_others in
      let d = (T s.Declarator 1 D.first M.place D.place (at_sort P own s.Declarator 1 D.first M.place D.place refl D.is_first) refl tt).besides in
      let v = M.value ∙ ap (λ l. M.first ∷ l) D.value in
      let n = ap (λ l. names (forest l)) v ∙ second_named M.first D.first D.others _ M.is_first.0 M.is_first.1.0 d.named in
      let k = ap (λ l. has_function (forest l)) v ∙ second_function M.first D.first D.others _ M.is_first.0 M.is_first.1.0 (sym d.function ∙ D.are_others.0) in
      passes _ SoleType _ (first_are own s.Spec (form.Item item.Function) Usual Any (behind (pieces (form.Item item.Function))) ts i j specified M N) (passes _ NoName _ n (passes _ NoFunction None k refl))

  init_declarator : (own : Sort) (ts : List Plain) (i j : Spot) → Matches P w own (form.Group group.InitDeclarator) Usual (pieces (form.Group group.InitDeclarator)) ts i j → in_group group.InitDeclarator (forest ts) ≡ None
  init_declarator own ts i j M = let d = (T s.Declarator 1 M.first i M.place (at_sort P own s.Declarator 1 M.first i M.place refl M.is_first) refl tt).besides in
      passes _ NoName None (ap (λ l. names (forest l)) M.value ∙ or_here (is_named M.first) (names (forest M.others)) d.named) refl

  -- a part that must be there where the part before it is missing
  is_there : (b : Bool) (due : Sort) (first t : Plain) (xs : List Plain) (i j : Spot) → t.parts ≡ forest xs → IsGroup Due due (P due 0) (before_by b) w xs i j → (not b || not (is_none t.parts)) ≡ true
  is_there false due first t xs i j e G = refl
  is_there true due first t xs i j e (inl A) = absurd (cc (A.0))
  is_there true due first t xs i j e (inr O) = rw (e, O.1.0) refl

  member_declarator : (own : Sort) (ts : List Plain) (i j : Spot) → Matches P w own (form.Group group.MemberDeclarator) Usual (pieces (form.Group group.MemberDeclarator)) ts i j → in_group group.MemberDeclarator (forest ts) ≡ None
  member_declarator own ts i j M = let G = M.are_others in let e = two M.value G.value G.are_others.0 in
      passes _ NameOrWidth None (ap (λ l. names (forest l) || (is_absent (forest l) && not (is_none (in_first (after_first (forest l)))))) e
      ∙ by M.first G.first ((T s.MemberName 1 M.first i M.place (at_sort P own s.MemberName 1 M.first i M.place refl M.is_first) refl tt).besides)
      (is_there (reading.is_absent M.first) s.Width M.first G.first G.is_first.0 M.place G.place (ap (λ (x : Plain). x.parts) G.is_first.1.0) G.is_first.1.1)) refl
    where
      named : (a b c : Bool) → a ≡ true → ((a || b) || c) ≡ true
      named true b c h = refl
      named false b c h = absurd (cc h)

      absent : (a b c d : Bool) → b ≡ true → d ≡ true → (not d || c) ≡ true → (a || (b && c)) ≡ true
      absent true b c d x y z = refl
      absent false true true d x y z = refl
      absent false true false true x y z = absurd (cc z)
      absent false true false false x y z = absurd (cc y)
      absent false false c d x y z = absurd (cc x)

      by : (t u : Plain) → (reading.is_absent t ≡ true) ⊎ (is_named t ≡ true) → (not (reading.is_absent t) || not (is_none u.parts)) ≡ true
          → (names (forest (t ∷ (u ∷ []))) || (is_absent (forest (t ∷ (u ∷ []))) && not (is_none u.parts))) ≡ true
      by t u (inl a) h = absent (names (forest (t ∷ (u ∷ [])))) (is_absent (forest (t ∷ (u ∷ [])))) (not (is_none u.parts)) (reading.is_absent t) (absent_is t.form t.span t.parts (forest (u ∷ [])) a) a h
      by t u (inr n) h = named (is_named t) (names (forest (u ∷ []))) (is_absent (forest (t ∷ (u ∷ []))) && not (is_none u.parts)) n

  tagged : (own due : Sort) (f : Form) (before : Before) (ps : List Piece) (ts : List Plain) (i j : Spot) → Matches P w own f before (Group Optional s.Id 0 ∷ (Group Due due 0 ∷ ps)) ts i j
      → unless (not (is_none (in_first (forest ts))) || not (is_none (in_first (after_first (forest ts))))) TagOrBody None ≡ None
  tagged own due f before ps ts i j M = let G = M.are_others in let v = M.value ∙ ap (λ l. M.first ∷ l) G.value in
      passes _ TagOrBody None (ap (λ l. not (is_none (in_first (forest l))) || not (is_none (in_first (after_first (forest l))))) v
      ∙ is_there (is_none M.first.parts) due M.first G.first G.is_first.0 M.place G.place (ap (λ (x : Plain). x.parts) G.is_first.1.0) G.is_first.1.1) refl

  block : (own : Sort) (ts : List Plain) (i j : Spot) → IsNew i.state.kept → Matches P w own (form.Stmt stmt.Block) Usual (pieces (form.Stmt stmt.Block)) ts i j → in_stmt stmt.Block (forest ts) ≡ None
  block own ts i j N M = let G = M.1.1 in passes _ LateDeclaration None (ap (λ l. ordered false (in_first (forest l))) G.value ∙ (ap (λ (x : Plain). ordered false x.parts) G.is_first.1.0
      ∙ (items w P T 0 (Spliced None 0) Usual G.is_first.0 (turned (happens event.Enter) (step i)) G.place G.is_first.1.1 N).order)) refl

  -- ---- all forms

  spec_rules : (f : SpecForm) (own : Sort) (ts : List Plain) (i j : Spot) → Matches P w own (form.Spec f) Usual (pieces (form.Spec f)) ts i j → in_spec f (forest ts) ≡ None
  spec_rules (spec.StructOf k) own ts i j M = tagged own s.Members (form.Spec (spec.StructOf k)) Usual (behind (behind (behind (behind (pieces (form.Spec (spec.StructOf k))))))) ts _ j M.1.1
  spec_rules spec.EnumOf own ts i j M = tagged own s.Enumerators (form.Spec spec.EnumOf) Usual (behind (behind (behind (behind (pieces (form.Spec spec.EnumOf)))))) ts _ j M.1.1
  spec_rules f own ts i j M = refl

  declarator_rules : (f : DeclaratorForm) (own : Sort) (ts : List Plain) (i j : Spot) → Right own (form.Declarator f) → is_plain_sort own ≡ true → Meets (needs own) i.state.kept → Matches P w own (form.Declarator f) Usual (pieces (form.Declarator f)) ts i j → in_declarator f (forest ts) ≡ None
  declarator_rules declarator.FunctionOf own ts i j R p N M = passes _ AbstractIds None (listed w P T S own p (left_of (serves s.Declarator own) _ R.fine) ts i j N M) refl
  declarator_rules f own ts i j R p N M = refl

  stmt_rules : (f : StmtForm) (own : Sort) (ts : List Plain) (i j : Spot) → IsNew i.state.kept → Matches P w own (form.Stmt f) Usual (pieces (form.Stmt f)) ts i j → in_stmt f (forest ts) ≡ None
  stmt_rules stmt.Block own ts i j N M = block own ts i j N M
  stmt_rules stmt.If own ts i j N M = closed_if w P own ts i j (E s.Stmt) (E s.ElsePart) M
  stmt_rules f own ts i j N M = refl

  item_rules : (f : ItemForm) (own : Sort) (ts : List Plain) (i j : Spot) → Right own (form.Item f) → Meets (needs own) i.state.kept → Matches P w own (form.Item f) Usual (pieces (form.Item f)) ts i j → in_item f (forest ts) ≡ None
  item_rules item.Function own ts i j R N M = function own ts i j (new_by (needs own) i.state.kept R.anew N) M
  item_rules item.Declaration own ts i j R N M = refl
  item_rules (item.Syntax gives name) own ts i j R N M = absurd (cc (R.is_form))
  item_rules (item.MetaFunction gives name) own ts i j R N M = absurd (cc (R.is_form))
  item_rules (item.MetaVariable type name) own ts i j R N M = absurd (cc (R.is_form))

  group_rules : (f : GroupForm) (own : Sort) (ts : List Plain) (i j : Spot) → Right own (form.Group f) → Matches P w own (form.Group f) Usual (pieces (form.Group f)) ts i j → in_group f (forest ts) ≡ None
  group_rules group.InitDeclarator own ts i j R M = init_declarator own ts i j M
  group_rules group.MemberDeclarator own ts i j R M = member_declarator own ts i j M
  group_rules (group.MetaParam type name) own ts i j R M = absurd (cc (R.is_form))
  group_rules f own ts i j R M = refl

  -- a node that is spelled, with parts that tell what they must, breaks no rule
  pub rules : (f : Form) (own : Sort) (ts : List Plain) (i j : Spot) → Right own f → is_plain_sort own ≡ true → Meets (needs own) i.state.kept → Matches P w own f Usual (pieces f) ts i j → among_rules f (forest ts) ≡ None
  rules form.TypeName own ts i j R p N M = type_name own ts i j (new_by (needs own) i.state.kept R.anew N) M
  rules form.Specs own ts i j R p N M = absurd (cc (R.is_form))
  rules (form.Spec f) own ts i j R p N M = spec_rules f own ts i j M
  rules form.Member own ts i j R p N M = passes _ SoleType None (first_are own s.PlainSpec form.Member Usual All (behind (pieces form.Member)) ts i j specified_plain M (new_by (needs own) i.state.kept R.anew N)) refl
  rules (form.Declarator f) own ts i j R p N M = declarator_rules f own ts i j R p N M
  rules form.Param own ts i j R p N M = passes _ SoleType None (first_are own s.Spec form.Param Usual All (behind (pieces form.Param)) ts i j specified M (new_by (needs own) i.state.kept R.anew N)) refl
  rules form.Decl own ts i j R p N M = passes _ SoleType None (first_are own s.Spec form.Decl Usual All (behind (pieces form.Decl)) ts i j specified M (new_by (needs own) i.state.kept R.anew N)) refl
  rules (form.Stmt f) own ts i j R p N M = stmt_rules f own ts i j (new_by (needs own) i.state.kept R.anew N) M
  rules (form.Item f) own ts i j R p N M = item_rules f own ts i j R N M
  rules (form.Template f) own ts i j R p N M = absurd (cc (R.is_form))
  rules (form.MetaStmt f) own ts i j R p N M = absurd (cc (R.is_form))
  rules (form.Local type name) own ts i j R p N M = absurd (cc (R.is_form))
  rules (form.Element f) own ts i j R p N M = absurd (cc (R.is_form))
  rules (form.Call n gives tail) own ts i j R p N M = absurd (cc (R.is_form))
  rules (form.Group f) own ts i j R p N M = group_rules f own ts i j R M
  rules f own ts i j R p N M = refl
