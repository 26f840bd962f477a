-- Each tree is spelled where it is ready, if what it holds is.
use Rattle.std.proofs.Common.{◌≡◌, ◌⊎◌, inl, inr, refl, ap, sym, subst, ◌∙◌, ℕ, suc, ◌+◌, ◌≤◌, Bool, true, false, not, ◌&&◌, ◌||◌, List, nat_eq, nat_lt, arith}
use Rattle.c_tokens.specs.declared.span.Span.{Span}
use Rattle.c_tokens.specs.declared.token.Shape.{Shape}
use Rattle.c_forms.specs.declared.pieces.Event.TheVariants as event
use Rattle.c_forms.specs.declared.pieces.Sort.{Sort}
use Rattle.c_forms.specs.declared.pieces.Sort.TheVariants as s
use Rattle.c_forms.specs.declared.forms.Form.{Form}
use Rattle.c_forms.specs.declared.forms.Form.TheVariants as form
use Rattle.c_forms.specs.declared.forms.ExpForm.TheVariants as exp
use Rattle.c_forms.specs.declared.forms.SpecForm.TheVariants as spec
use Rattle.c_forms.specs.declared.forms.StmtForm.TheVariants as stmt
use Rattle.c_forms.specs.declared.forms.ItemForm.TheVariants as item
use Rattle.c_forms.specs.declared.forms.TemplateForm.TheVariants as template
use Rattle.c_forms.specs.declared.forms.GroupForm.TheVariants as group
use Rattle.c_forms.specs.Forests.{Plain, Forest, empty, tree}
use Rattle.c_forms.specs.Fits.{fits}
use Rattle.c_forms.specs.Measures.{is_plain, level, pieces, star}
use Rattle.c_forms.specs.Places.{stands}
use Rattle.c_forms.specs.Rules.{is_none, in_first, is_decl}
use Rattle.c_reader.specs.States.{State, happens}
use Rattle.c_reader.specs.Tokens.{Spot, turned}
use Rattle.c_syntax.specs.Allowed.{places, may_stand, has_name}
use Rattle.c_syntax.specs.Reading.{Usual, is_starred}
use Rattle.c_syntax.specs.Spells.{Spelling, At, IsNode, Levels, parts_spelled, may_be, is_ids, may_list, is_function_form, has_no_specifiers, started_by}
use Rattle.c_layout.specs.Spelled.{tokens}
use Rattle.c_trees.specs.Counts.{high, high_tree}
use Rattle.c_spelled.proofs.Alone.{item_is}
use Rattle.spelled_scopes.specs.Agreement.{Alike, unspanned}
use Rattle.spelled_trees.specs.Effects.{is_plain_sort}
use Rattle.spelled_trees.proofs.Parts.{left_of, right_of}
use Rattle.spelled_trees.proofs.Rows.{right}
use Rattle.spelled_trees.proofs.Scopes.{Scopes}
use Rattle.ready_rows.specs.Printed.{Run}
use Rattle.ready_rows.proofs.Ready.{the_tree}
use Rattle.ready_rows.proofs.Rows.{Fit, Prints}
use Rattle.ready_rows.proofs.Nodes.{Spelled, node_spelled}
use Rattle.ready_rows.proofs.Standing.{Ready, Follows, Made, Does, Calms}
use Rattle.ready_rows.proofs.Calm.{RowReady}
use Rattle.ready_expressions.proofs.Expressions.{declaration_ready}
use Rattle.ready_expressions.proofs.Heads.{Good, good_fits, right_fits, right_rules, id_form, literal_form}
use Rattle.ready_expressions.proofs.Declarators.{declared_stands}
use Rattle.scoped_spelled.proofs.Declarations.{opposed}
use Rattle.scoped_spelled.proofs.Members.{enumerated_stands}
use Rattle.scoped_spelled.proofs.Params.{parameter_stands}
use Rattle.scoped_spelled.proofs.Functions.{function_ready}
use Rattle.printed_items.proofs.Ranks.{rank, low, most, room, may_wrap, is_node, printable, level_top}
use Rattle.printed_items.proofs.Leaves.{Stood, stood, id_stood, declared_stood, parameter_stood, enumerator_stood, literal_stood}
use Rattle.printed_items.proofs.Forms.{is_row, row_is_node, row_of, may_of}
use Rattle.printed_items.proofs.Wrapped.{PrintsStarred, counted, unwrapped, wrapped, good_of, in_parentheses}

-- ---- trees that are equal but for their spans

none_in : (ps : Forest) → is_none (in_first (unspanned ps)) ≡ is_none (in_first ps)
none_in empty = refl
none_in (tree f sp empty rest) = refl
none_in (tree f sp (tree g gp qs more) rest) = refl

same_first : (t v : Plain) → Alike t v → is_none (in_first t.parts) ≡ is_none (in_first v.parts)
same_first t v a = sym (none_in t.parts) ∙ ap (λ ps. is_none (in_first ps)) a.1 ∙ none_in v.parts

same_start : (t v : Plain) → Alike t v → has_no_specifiers t ≡ has_no_specifiers v
same_start t v a = ap (λ f. is_function_form f && is_none (in_first t.parts)) a.0 ∙ ap (λ b. is_function_form v.form && b) (same_first t v a)

same_list : (u : State) (t v : Plain) → Alike t v → may_list u t ≡ may_list u v
same_list u t v a = ap (λ f. has_name u || (not (is_ids f) || is_none (in_first t.parts))) a.0 ∙ ap (λ b. has_name u || (not (is_ids v.form) || b)) (same_first t v a)

-- ---- sorts

ranked_plain : (own : Sort) → is_node own ≡ true → is_plain_sort own ≡ true
ranked_plain s.Id x = refl
ranked_plain s.DeclaredId x = refl
ranked_plain s.ParameterId x = refl
ranked_plain s.EnumeratorId x = refl
ranked_plain s.Literal x = refl
ranked_plain s.BlockItem x = refl
ranked_plain own x = x

-- an item of a block is a declaration or a statement
block_item : (f : Form) → is_plain f ≡ true → stands f s.BlockItem ≡ true → (f ≡ form.Decl) ⊎ ((stands f s.Stmt ≡ true) × (is_decl f ≡ false))
block_item form.Decl p e = inl refl
block_item (form.Stmt stmt.Block) p e = inr (refl, refl)
block_item (form.Stmt g) p e = inr (refl, refl)
block_item (form.Hole h) p e = absurd (cc p)
block_item (form.Call n gives tail) p e = absurd (cc p)
block_item (form.Exp (exp.Int w)) p e = absurd (cc e)
block_item (form.Spec (spec.Storage c)) p e = absurd (cc e)
block_item (form.Spec (spec.Qualifier q)) p e = absurd (cc e)
block_item (form.Template (template.Many k)) p e = absurd (cc e)
block_item (form.Group group.List) p e = absurd (cc e)
block_item f p e = absurd (cc e)

at_least : (l n : ℕ) → nat_lt l n ≡ false → n ≤ l
at_least l n e = grind arith

less_high : (a b k : ℕ) → a + b ≤ k → b ≤ k
less_high a b k h = omega (arith, h)

left_high : (a b k : ℕ) → nat_eq a 1 ≡ true → a + b ≤ k → suc b ≤ k
left_high a b k e h = grind arith

fewer : (n : ℕ) → nat_lt 5 (suc n) ≡ true → nat_lt 2 (suc n) ≡ true
fewer n e = grind arith

pub started_place : (b : Bool) (i : Spot) → (started_by b i).place ≡ i.place
started_place true i = refl
started_place false i = refl

-- ---- nodes

module _ (levels : Type 0) (deeper inner : Spelling) (w : List Shape) (n k : ℕ) (left : 1 ≤ k → levels) (scopes : Scopes (At levels deeper inner w)) (D : (j : ℕ) → suc j ≤ k → Prints Ready Follows Does w deeper (low places) j) where
  -- what is spelled in place, where a node does not count for the height
  abbrev pub Inner : Form → Type 0
  Inner f = is_starred f ≡ false → Prints Ready Follows Does w inner (low n) k

  -- what spells the parts of a node, however high they are
  record Below (b : Bool) (ts : Forest) : Type 0 where
    pub limit : ℕ
    pub within : high ts ≤ limit
    pub prints : Prints Ready Follows Does w (parts_spelled b deeper inner) (low (room b n)) limit
    pub levels_left : Levels b levels

  below : (f : Form) (ts : Forest) → star f + high ts ≤ k → Inner f → (b : Bool) → is_starred f ≡ b → Below b ts
  below f ts h I true e = record { limit = high ts; within = omega arith; prints = D (high ts) (left_high (star f) (high ts) k e h); levels_left = left (counted (star f) (high ts) k e h) }
  below f ts h I false e = record { limit = k; within = less_high (star f) (high ts) k h; prints = I e; levels_left = tt }

  abbrev Node : Sort → ℕ → Plain → Spot → ℕ → (Spot → Type 0) → Type 0
  Node own least t i m K = Spelled Ready Follows Does w levels deeper inner own least t i m K

  -- a node of a sort that has place
  node_at : (own : Sort) (least : ℕ) (f : Form) (sp : Span) (ts : Forest) (i : Spot) (after : List Shape) (m z : ℕ) (K : Spot → Type 0) → Inner f → is_node own ≡ true → nat_lt (rank own) (suc n) ≡ true → may_be own f ≡ true → Good own (the_tree f sp ts) → high_tree (the_tree f sp ts) ≤ k
      → nat_lt (level f) least ≡ false → Run w i.place (tokens (the_tree f sp ts)) m → Run w m after z → RowReady own f Usual (pieces f) ts i after K → Node own least (the_tree f sp ts) i m K
  node_at own least f sp ts i after m z K I x r may g d l run next R = let B = below f ts d I (is_starred f) refl in
      node_spelled Ready Follows Does w levels deeper inner (low (room (is_starred f) n)) B.limit own least f sp ts i after m z K B.prints may (at_least (level f) least l)
      B.levels_left (printable n own f x may r) (right own f (ranked_plain own x) may).fine (good_fits own (the_tree f sp ts) g) (record { valid = g.valid; pure = g.pure; high = B.within }) run next R

  -- the same, where its tree is ready
  row_at : (own : Sort) (least : ℕ) (f : Form) (sp : Span) (ts : Forest) (i : Spot) (after : List Shape) (m z : ℕ) → Inner f → is_row own ≡ true → nat_lt (rank own) (suc n) ≡ true → Good own (the_tree f sp ts) → high_tree (the_tree f sp ts) ≤ k
      → nat_lt (level f) least ≡ false → Run w i.place (tokens (the_tree f sp ts)) m → Run w m after z → Ready own (the_tree f sp ts) i.state → Follows own (the_tree f sp ts) after → Node own least (the_tree f sp ts) i m (λ j. Made own (the_tree f sp ts) i.state j.state)
  row_at own least f sp ts i after m z I x r g d l run next R O = let may = may_of own f sp ts i.state g.is_plain g.stands R in
      node_at own least f sp ts i after m z (λ j. Made own (the_tree f sp ts) i.state j.state) I (row_is_node own x) r may g d l run next (row_of sp ts i after own f x may g R O)

  ranked : (due : Sort) (least : ℕ) (t : Plain) → Fit (low (suc n)) k due least t → nat_lt (rank due) (suc n) ≡ true
  ranked due least t F = left_of (nat_lt (rank due) (suc n)) (nat_lt least (most due)) F.low

  by_row : (own : Sort) (least : ℕ) (f : Form) (sp : Span) (ts : Forest) (i : Spot) (after : List Shape) (m z : ℕ) → Inner f → is_row own ≡ true
      → ((v : Plain) (j : Spot) → Alike (the_tree f sp ts) v → IsNode levels deeper inner w own least v i j → At levels deeper inner w own least v i j) → Fit (low (suc n)) k own least (the_tree f sp ts)
      → nat_lt (level f) least ≡ false → Run w i.place (tokens (the_tree f sp ts)) m → Run w m after z → Ready own (the_tree f sp ts) i.state → Follows own (the_tree f sp ts) after → Stood levels deeper inner w scopes own least (the_tree f sp ts) i m
  by_row own least f sp ts i after m z I x inject F l run next R O =
      let N = row_at own least f sp ts i after m z I x (ranked own least (the_tree f sp ts) F) (good_of (low (suc n)) k own least (the_tree f sp ts) F) F.high l run next R O in
      stood levels deeper inner w scopes own least (the_tree f sp ts) N.tree i N.last m (ranked_plain own (row_is_node own x)) (inject N.tree N.last N.alike N.is_node) N.alike N.place N.done

  -- ---- items of blocks

  good_as : (due own : Sort) (t : Plain) → Good due t → stands t.form own ≡ true → Good own t
  good_as due own t g e = record { is_plain = g.is_plain; pure = g.pure; stands = e; right = g.right; valid = g.valid }

  decl_at : (least : ℕ) (f : Form) (sp : Span) (ts : Forest) (i : Spot) (after : List Shape) (m z : ℕ) → Inner f → f ≡ form.Decl → nat_lt 5 (suc n) ≡ true → Good s.BlockItem (the_tree f sp ts) → high_tree (the_tree f sp ts) ≤ k → nat_lt (level f) least ≡ false
      → Run w i.place (tokens (the_tree f sp ts)) m → Run w m after z → Ready s.BlockItem (the_tree f sp ts) i.state → Stood levels deeper inner w scopes s.BlockItem least (the_tree f sp ts) i m
  decl_at least f sp ts i after m z I e r g d l run next R = let t : Plain = the_tree f sp ts in
      let N = row_at s.Decl least f sp ts i after m z I refl r (good_as s.BlockItem s.Decl t g (ap (λ f. stands f s.Decl) e)) d l run next R.0 tt in
      stood levels deeper inner w scopes s.BlockItem least t N.tree i N.last m refl (inl (R.1 (ap is_decl e), N.is_node)) N.alike N.place (N.done, λ x. (scopes s.Decl least N.tree i N.last N.is_node refl).0.late refl)

  stmt_at : (least : ℕ) (f : Form) (sp : Span) (ts : Forest) (i : Spot) (after : List Shape) (m z : ℕ) → Inner f → is_decl f ≡ false → nat_lt 5 (suc n) ≡ true → Good s.Stmt (the_tree f sp ts) → high_tree (the_tree f sp ts) ≤ k → nat_lt (level f) least ≡ false
      → Run w i.place (tokens (the_tree f sp ts)) m → Run w m after z → Ready s.BlockItem (the_tree f sp ts) i.state → Follows s.BlockItem (the_tree f sp ts) after → Stood levels deeper inner w scopes s.BlockItem least (the_tree f sp ts) i m
  stmt_at least f sp ts i after m z I e r g d l run next R O = let t : Plain = the_tree f sp ts in
      let N = row_at s.Stmt least f sp ts i after m z I refl (fewer n r) g d l run next R.0 O in
      stood levels deeper inner w scopes s.BlockItem least t N.tree i (turned (happens event.Statements) N.last) m refl (inr (N.last, (N.is_node, refl))) N.alike N.place
      ((record { scoped = N.done.0.scoped; aside = N.done.0.aside }, N.done.1), λ x. opposed x e)

  -- ---- items

  item_row : (sp : Span) (ts : Forest) (i : Spot) (after : List Shape) (f : Form) → (f ≡ form.Item item.Function) ⊎ (f ≡ form.Item item.Declaration) → Good s.Item (the_tree f sp ts) → Ready s.Item (the_tree f sp ts) i.state
      → RowReady s.Item f Usual (pieces f) ts (started_by (has_no_specifiers (the_tree f sp ts)) i) after (λ j. Calms (the_tree f sp ts) i.state j.state)
  item_row sp ts i after f (inl e) g R = subst (λ f. Good s.Item (the_tree f sp ts) → Ready s.Item (the_tree f sp ts) i.state → RowReady s.Item f Usual (pieces f) ts (started_by (has_no_specifiers (the_tree f sp ts)) i) after (λ j. Calms (the_tree f sp ts) i.state j.state)) (sym e)
      (λ g R. function_ready s.Item sp ts i after (good_fits s.Item (the_tree (form.Item item.Function) sp ts) g) g.pure g.valid (right_rules (form.Item item.Function) ts g.right) R) g R
  item_row sp ts i after f (inr e) g R = subst (λ f. Good s.Item (the_tree f sp ts) → Ready s.Item (the_tree f sp ts) i.state → RowReady s.Item f Usual (pieces f) ts (started_by (has_no_specifiers (the_tree f sp ts)) i) after (λ j. Calms (the_tree f sp ts) i.state j.state)) (sym e)
      (λ g R. declaration_ready s.Item sp ts i after (good_fits s.Item (the_tree (form.Item item.Declaration) sp ts) g) g.pure R) g R

  item_at : (least : ℕ) (f : Form) (sp : Span) (ts : Forest) (i : Spot) (after : List Shape) (m z : ℕ) → Inner f → Fit (low (suc n)) k s.Item least (the_tree f sp ts) → nat_lt (level f) least ≡ false
      → Run w i.place (tokens (the_tree f sp ts)) m → Run w m after z → Ready s.Item (the_tree f sp ts) i.state → Stood levels deeper inner w scopes s.Item least (the_tree f sp ts) i m
  item_at least f sp ts i after m z I F l run next R = let t : Plain = the_tree f sp ts in
      let b = has_no_specifiers t in
      let g = good_of (low (suc n)) k s.Item least t F in
      let may = may_of s.Item f sp ts i.state F.is_plain F.stands R in
      let N = node_at s.Item least f sp ts (started_by b i) after m z (λ j. Calms t i.state j.state) I refl (ranked s.Item least t F) may g F.high l (subst (λ p. Run w p (tokens t) m) (sym (started_place b i)) run) next
      (item_row sp ts i after f (item_is f may) g R) in
      stood levels deeper inner w scopes s.Item least t N.tree i N.last m refl (subst (λ b. IsNode levels deeper inner w s.Item least N.tree (started_by b i) N.last) (same_start t N.tree N.alike) N.is_node) N.alike N.place N.done

  -- ---- each sort

  fitted : (due : Sort) (least : ℕ) (t : Plain) → Fit (low (suc n)) k due least t → fits (pieces t.form) t.parts ≡ true
  fitted due least t F = right_fits t.form t.parts F.right

  at_block_item : (least : ℕ) (t : Plain) (i : Spot) (after : List Shape) (m z : ℕ) → Inner t.form → Fit (low (suc n)) k s.BlockItem least t → nat_lt (level t.form) least ≡ false → Run w i.place (tokens t) m → Run w m after z → Ready s.BlockItem t i.state → Follows s.BlockItem t after
      → (t.form ≡ form.Decl) ⊎ ((stands t.form s.Stmt ≡ true) × (is_decl t.form ≡ false)) → Stood levels deeper inner w scopes s.BlockItem least t i m
  at_block_item least t i after m z I F l run next R O (inl e) = decl_at least t.form t.span t.parts i after m z I e (ranked s.BlockItem least t F) (good_of (low (suc n)) k s.BlockItem least t F) F.high l run next R
  at_block_item least t i after m z I F l run next R O (inr e) = stmt_at least t.form t.span t.parts i after m z I e.1 (ranked s.BlockItem least t F) (good_as s.BlockItem s.Stmt t (good_of (low (suc n)) k s.BlockItem least t F) e.0) F.high l run next R O

  pub at_tight : (due : Sort) (least : ℕ) (t : Plain) (i : Spot) (after : List Shape) (m z : ℕ) → Inner t.form → Fit (low (suc n)) k due least t → nat_lt (level t.form) least ≡ false → Run w i.place (tokens t) m → Run w m after z → Ready due t i.state → Follows due t after → Stood levels deeper inner w scopes due least t i m
  at_tight s.Id least t i after m z I F l run next R O = id_stood levels deeper inner w scopes least t.form t.span t.parts i m F.is_plain F.stands (fitted s.Id least t F) run
  at_tight s.DeclaredId least t i after m z I F l run next R O = declared_stood levels deeper inner w scopes least t.form t.span t.parts i m F.is_plain F.stands (fitted s.DeclaredId least t F) run R
  at_tight s.ParameterId least t i after m z I F l run next R O = parameter_stood levels deeper inner w scopes least t.form t.span t.parts i m F.is_plain F.stands (fitted s.ParameterId least t F) run R
  at_tight s.EnumeratorId least t i after m z I F l run next R O = enumerator_stood levels deeper inner w scopes least t.form t.span t.parts i m F.is_plain F.stands (fitted s.EnumeratorId least t F) run
  at_tight s.Literal least t i after m z I F l run next R O = literal_stood levels deeper inner w scopes least t.form t.span t.parts i m F.is_plain F.stands (fitted s.Literal least t F) run R
  at_tight s.Exp least t i after m z I F l run next R O = by_row s.Exp least t.form t.span t.parts i after m z I refl (λ v j a N. inl N) F l run next R O
  at_tight s.Declarator least t i after m z I F l run next R O = by_row s.Declarator least t.form t.span t.parts i after m z I refl (λ v j a N. inl N) F l run next R O
  at_tight s.AbstractDeclarator least t i after m z I F l run next R O = by_row s.AbstractDeclarator least t.form t.span t.parts i after m z I refl (λ v j a N. inl N) F l run next R O
  at_tight s.ParamDeclarator least t i after m z I F l run next R O = by_row s.ParamDeclarator least t.form t.span t.parts i after m z I refl (λ v j a N. inl N) F l run next R O
  at_tight s.MemberName least t i after m z I F l run next R O = by_row s.MemberName least t.form t.span t.parts i after m z I refl (λ v j a N. inl N) F l run next R O
  at_tight s.Spec least t i after m z I F l run next R O = by_row s.Spec least t.form t.span t.parts i after m z I refl (λ v j a N. (ap (λ f. may_stand i.state f) (sym a.0) ∙ R.0, N)) F l run next R O
  at_tight s.PlainSpec least t i after m z I F l run next R O = by_row s.PlainSpec least t.form t.span t.parts i after m z I refl (λ v j a N. (ap (λ f. may_stand i.state f) (sym a.0) ∙ R.0, N)) F l run next R O
  at_tight s.Params least t i after m z I F l run next R O = by_row s.Params least t.form t.span t.parts i after m z I refl (λ v j a N. (sym (same_list i.state t v a) ∙ R.1.1, N)) F l run next R O
  at_tight s.BlockItem least t i after m z I F l run next R O = at_block_item least t i after m z I F l run next R O (block_item t.form F.is_plain F.stands)
  at_tight s.Item least t i after m z I F l run next R O = item_at least t.form t.span t.parts i after m z I F l run next R
  at_tight s.TypeName least t i after m z I F l run next R O = by_row s.TypeName least t.form t.span t.parts i after m z I refl (λ v j a N. N) F l run next R O
  at_tight s.Qualifier least t i after m z I F l run next R O = by_row s.Qualifier least t.form t.span t.parts i after m z I refl (λ v j a N. N) F l run next R O
  at_tight s.Member least t i after m z I F l run next R O = by_row s.Member least t.form t.span t.parts i after m z I refl (λ v j a N. N) F l run next R O
  at_tight s.Enumerator least t i after m z I F l run next R O = by_row s.Enumerator least t.form t.span t.parts i after m z I refl (λ v j a N. N) F l run next R O
  at_tight s.Param least t i after m z I F l run next R O = by_row s.Param least t.form t.span t.parts i after m z I refl (λ v j a N. N) F l run next R O
  at_tight s.Init least t i after m z I F l run next R O = by_row s.Init least t.form t.span t.parts i after m z I refl (λ v j a N. N) F l run next R O
  at_tight s.Decl least t i after m z I F l run next R O = by_row s.Decl least t.form t.span t.parts i after m z I refl (λ v j a N. N) F l run next R O
  at_tight s.Stmt least t i after m z I F l run next R O = by_row s.Stmt least t.form t.span t.parts i after m z I refl (λ v j a N. N) F l run next R O
  at_tight s.Block least t i after m z I F l run next R O = by_row s.Block least t.form t.span t.parts i after m z I refl (λ v j a N. N) F l run next R O
  at_tight s.InitDeclarator least t i after m z I F l run next R O = by_row s.InitDeclarator least t.form t.span t.parts i after m z I refl (λ v j a N. N) F l run next R O
  at_tight s.Initializer least t i after m z I F l run next R O = by_row s.Initializer least t.form t.span t.parts i after m z I refl (λ v j a N. N) F l run next R O
  at_tight s.MemberDeclarator least t i after m z I F l run next R O = by_row s.MemberDeclarator least t.form t.span t.parts i after m z I refl (λ v j a N. N) F l run next R O
  at_tight s.Width least t i after m z I F l run next R O = by_row s.Width least t.form t.span t.parts i after m z I refl (λ v j a N. N) F l run next R O
  at_tight s.Members least t i after m z I F l run next R O = by_row s.Members least t.form t.span t.parts i after m z I refl (λ v j a N. N) F l run next R O
  at_tight s.Enumerators least t i after m z I F l run next R O = by_row s.Enumerators least t.form t.span t.parts i after m z I refl (λ v j a N. N) F l run next R O
  at_tight s.EnumeratorValue least t i after m z I F l run next R O = by_row s.EnumeratorValue least t.form t.span t.parts i after m z I refl (λ v j a N. N) F l run next R O
  at_tight s.ElsePart least t i after m z I F l run next R O = by_row s.ElsePart least t.form t.span t.parts i after m z I refl (λ v j a N. N) F l run next R O
  at_tight due least t i after m z I F l run next R O = absurd R

  -- ---- with parentheses where they are due

  -- where none may be added, none are due
  level_of : (due : Sort) (f : Form) (sp : Span) (ps : Forest) (u : State) → is_plain f ≡ true → stands f due ≡ true → may_wrap due ≡ false → Ready due (the_tree f sp ps) u → nat_lt (level f) 17 ≡ false
  level_of s.Id f sp ps u p e x r = ap (λ f. nat_lt (level f) 17) (id_form f p e).1
  level_of s.DeclaredId f sp ps u p e x r = ap (λ f. nat_lt (level f) 17) (id_form f p (declared_stands f p e)).1
  level_of s.ParameterId f sp ps u p e x r = ap (λ f. nat_lt (level f) 17) (id_form f p (parameter_stands f p e)).1
  level_of s.EnumeratorId f sp ps u p e x r = ap (λ f. nat_lt (level f) 17) (id_form f p (enumerated_stands f p e)).1
  level_of s.Literal f sp ps u p e x r = ap (λ f. nat_lt (level f) 17) (literal_form f p e).1
  level_of s.BlockItem f sp ps u p e x r = level_in_block f sp ps u p r (block_item f p e)
    where
      level_in_block : (f : Form) (sp : Span) (ps : Forest) (u : State) → is_plain f ≡ true → Ready s.BlockItem (the_tree f sp ps) u → (f ≡ form.Decl) ⊎ ((stands f s.Stmt ≡ true) × (is_decl f ≡ false)) → nat_lt (level f) 17 ≡ false
      level_in_block f sp ps u p r (inl d) = ap (λ f. nat_lt (level f) 17) d
      level_in_block f sp ps u p r (inr d) = level_top s.Stmt f refl (may_of s.Stmt f sp ps u p d.0 r.0) refl
  level_of s.TypeName f sp ps u p e x r = level_top s.TypeName f refl (may_of s.TypeName f sp ps u p e r) refl
  level_of s.Spec f sp ps u p e x r = level_top s.Spec f refl (may_of s.Spec f sp ps u p e r) refl
  level_of s.PlainSpec f sp ps u p e x r = level_top s.PlainSpec f refl (may_of s.PlainSpec f sp ps u p e r) refl
  level_of s.Qualifier f sp ps u p e x r = level_top s.Qualifier f refl (may_of s.Qualifier f sp ps u p e r) refl
  level_of s.Member f sp ps u p e x r = level_top s.Member f refl (may_of s.Member f sp ps u p e r) refl
  level_of s.Enumerator f sp ps u p e x r = level_top s.Enumerator f refl (may_of s.Enumerator f sp ps u p e r) refl
  level_of s.Params f sp ps u p e x r = level_top s.Params f refl (may_of s.Params f sp ps u p e r) refl
  level_of s.Param f sp ps u p e x r = level_top s.Param f refl (may_of s.Param f sp ps u p e r) refl
  level_of s.Init f sp ps u p e x r = level_top s.Init f refl (may_of s.Init f sp ps u p e r) refl
  level_of s.Decl f sp ps u p e x r = level_top s.Decl f refl (may_of s.Decl f sp ps u p e r) refl
  level_of s.Stmt f sp ps u p e x r = level_top s.Stmt f refl (may_of s.Stmt f sp ps u p e r) refl
  level_of s.Block f sp ps u p e x r = level_top s.Block f refl (may_of s.Block f sp ps u p e r) refl
  level_of s.Item f sp ps u p e x r = level_top s.Item f refl (may_of s.Item f sp ps u p e r) refl
  level_of s.InitDeclarator f sp ps u p e x r = level_top s.InitDeclarator f refl (may_of s.InitDeclarator f sp ps u p e r) refl
  level_of s.Initializer f sp ps u p e x r = level_top s.Initializer f refl (may_of s.Initializer f sp ps u p e r) refl
  level_of s.MemberDeclarator f sp ps u p e x r = level_top s.MemberDeclarator f refl (may_of s.MemberDeclarator f sp ps u p e r) refl
  level_of s.Width f sp ps u p e x r = level_top s.Width f refl (may_of s.Width f sp ps u p e r) refl
  level_of s.Members f sp ps u p e x r = level_top s.Members f refl (may_of s.Members f sp ps u p e r) refl
  level_of s.Enumerators f sp ps u p e x r = level_top s.Enumerators f refl (may_of s.Enumerators f sp ps u p e r) refl
  level_of s.EnumeratorValue f sp ps u p e x r = level_top s.EnumeratorValue f refl (may_of s.EnumeratorValue f sp ps u p e r) refl
  level_of s.ElsePart f sp ps u p e x r = level_top s.ElsePart f refl (may_of s.ElsePart f sp ps u p e r) refl
  level_of s.Exp f sp ps u p e x r = absurd (cc x)
  level_of s.Declarator f sp ps u p e x r = absurd (cc x)
  level_of s.AbstractDeclarator f sp ps u p e x r = absurd (cc x)
  level_of s.ParamDeclarator f sp ps u p e x r = absurd (cc x)
  level_of s.MemberName f sp ps u p e x r = absurd (cc x)
  level_of due f sp ps u p e x r = absurd r

  none_due : (l least : ℕ) → nat_lt least 18 ≡ true → nat_lt l 17 ≡ false → nat_lt l least ≡ true → ⊥
  none_due l least a b c = grind arith

  most_of : (due : Sort) → may_wrap due ≡ false → most due ≡ 18
  most_of s.Exp e = absurd (cc e)
  most_of s.Declarator e = absurd (cc e)
  most_of s.AbstractDeclarator e = absurd (cc e)
  most_of s.ParamDeclarator e = absurd (cc e)
  most_of s.MemberName e = absurd (cc e)
  most_of due e = refl

  -- Where a tree has place and is ready, its tokens spell it, if its parts are spelled one level deeper or in place, and
  -- itself one level deeper.
  pub at_placed : PrintsStarred w deeper (low places) k → Prints Ready Follows Does w inner (low n) k → Prints Ready Follows Does w (At levels deeper inner w) (low (suc n)) k
  at_placed T I due least t i after m z F run next R O = by_level (nat_lt (level t.form) least) refl
    where
      by_wrap : (c : Bool) → may_wrap due ≡ c → nat_lt (level t.form) least ≡ true → Stood levels deeper inner w scopes due least t i m
      by_wrap true c e = in_parentheses levels deeper inner w n k left scopes T due least t.form t.span t.parts i after m z c F e (subst (λ xs. Run w i.place xs m) (wrapped least t e) run) next R
      by_wrap false c e = absurd (none_due (level t.form) least (subst (λ m. nat_lt least m ≡ true) (most_of due c) (right_of (nat_lt (rank due) (suc n)) (nat_lt least (most due)) F.low)) (level_of due t.form t.span t.parts i.state F.is_plain F.stands c R) e)

      by_level : (b : Bool) → nat_lt (level t.form) least ≡ b → Stood levels deeper inner w scopes due least t i m
      by_level true e = by_wrap (may_wrap due) refl e
      by_level false e = at_tight due least t i after m z (λ e. I) F e (subst (λ xs. Run w i.place xs m) (unwrapped least t e) run) next R O
