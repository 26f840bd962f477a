-- What is read as a tree of a sort is spelled as one.
use Rattle.std.proofs.Common.{◌≡◌, refl, ℕ, zero, suc, ◌<◌, ◌≤◌, nat_lt, true, List, Ok, arith}
use borrow.Author.Tests.{ltb-true}
use Rattle.c_tokens.specs.declared.token.Shape.{Shape}
use Rattle.c_forms.specs.declared.pieces.Sort.{Sort}
use Rattle.c_forms.specs.declared.pieces.Sort.TheVariants as s
use Rattle.c_forms.specs.declared.forms.Form.{Form}
use Rattle.c_forms.specs.declared.forms.Form.TheVariants as form
use Rattle.c_forms.specs.declared.forms.GroupForm.TheVariants as group
use Rattle.c_forms.specs.Measures.{level, pieces}
use Rattle.c_reader.specs.Tokens.{Spot, raw_at}
use Rattle.c_reader.specs.Readers.{Input, Found, read}
use Rattle.c_reader.proofs.Local.{from}
use Rattle.c_syntax.specs.Reading.{Parts, is_starred}
use Rattle.c_syntax.specs.Grammar.{body, whole, block_item, statement, parameters as params_reader, external, at_sort}
use Rattle.c_syntax.specs.Spells.{may_be, IsNode}
use Rattle.c_syntax.proofs.Told.{levels, lower, In, Says, Calls, CallsOpened, Inner, is_due, need}
use Rattle.c_syntax.proofs.Parts.{fine_first, Holds}
use Rattle.c_syntax.proofs.Nodes.{ok, node_says, at_in}
use Rattle.c_syntax.proofs.Expressions.{expression_says}
use Rattle.c_syntax.proofs.Heads.{declarator_says, declarators, abstracts, parameters, member_names}
use Rattle.c_syntax.proofs.Words.{id_says, declared_says, parameter_says, enumerator_says, literal_says, specifier_says, specs, plain_specs, qualifiers, init_says}
use Rattle.c_syntax.proofs.Params.{parameters_say}
use Rattle.c_syntax.proofs.Statements.{statement_says, block_says}
use Rattle.c_syntax.proofs.BlockItems.{block_item_says}
use Rattle.c_syntax.proofs.External.{external_says}

at_most_17 : (least : ℕ) → nat_lt least 18 ≡ true → least ≤ 17
at_most_17 least e = let z : least < 18 = ltb-true least 18 e in omega arith

at_most_2 : (least : ℕ) → nat_lt least 3 ≡ true → least ≤ 2
at_most_2 least e = let z : least < 3 = ltb-true least 3 e in omega arith

module _ (d : ℕ) (w : List Shape) (E : Calls d w) (EO : CallsOpened d w) (inner : Parts) (IS : Inner d w inner) where
  -- the only form of a sort
  node_in : (l k : ℕ) (due : Sort) (least : ℕ) (f : Form) (i : Spot) (x : Found) (p : Input) → l ≤ k → may_be due f ≡ true → least ≤ level f → fine_first (ok (is_starred f) l) due (pieces f) ≡ true → Holds f (pieces f) (raw_at w i.place)
      → ((n : ℕ) (j : Spot) → IsNode (levels n) (lower n w) (In k n w) w due least x.tree i j → In (suc k) n w due least x.tree i j)
      → read body d (whole inner due f) (from w i) ≡ Ok (x, p) → Says d w (λ n. In (suc k) n w due least) i x p
  node_in l k due least f i x p small may tight F o to h = let S = node_says d w E inner IS l k small due least f i x p may tight F o h in
      record { place = S.place; placed = S.placed; high = S.high; spelled = λ n le. to n S.place (S.spelled n le) }

  params_in : (k least : ℕ) (i : Spot) (x : Found) (p : Input) → 4 ≤ suc k → least ≤ 17 → read body d (params_reader inner) (from w i) ≡ Ok (x, p) → Says d w (λ n. In (suc k) n w s.Params least) i x p
  params_in zero least i x p small low h = absurd (omega arith)
  params_in (suc m) least i x p small low h = parameters_say d w E inner IS m (omega arith) least low i x p h

  stmt_in : (k least : ℕ) (i : Spot) (x : Found) (p : Input) → 3 ≤ suc k → least ≤ 17 → read body d (statement inner) (from w i) ≡ Ok (x, p) → Says d w (λ n. In (suc k) n w s.Stmt least) i x p
  stmt_in zero least i x p small low h = absurd (omega arith)
  stmt_in (suc m) least i x p small low h = let S = statement_says d w E EO inner IS m (omega arith) least low i x p h in
      record { place = S.place; placed = S.placed; high = S.high; spelled = λ n le. at_in (suc m) n w s.Stmt least x.tree i S.place (S.spelled n le) }

  block_item_in : (k least : ℕ) (i : Spot) (x : Found) (p : Input) → 6 ≤ suc k → least ≤ 17 → read body d (block_item inner) (from w i) ≡ Ok (x, p) → Says d w (λ n. In (suc k) n w s.BlockItem least) i x p
  block_item_in zero least i x p small low h = absurd (omega arith)
  block_item_in (suc m) least i x p small low h = block_item_says d w E EO inner IS m (omega arith) least low i x p h

  item_in : (k least : ℕ) (i : Spot) (x : Found) (p : Input) → 7 ≤ suc k → least ≤ 17 → read body d (external inner) (from w i) ≡ Ok (x, p) → Says d w (λ n. In (suc k) n w s.Item least) i x p
  item_in zero least i x p small low h = absurd (omega arith)
  item_in (suc zero) least i x p small low h = absurd (omega arith)
  item_in (suc (suc b)) least i x p small low h = external_says d w E inner IS b (omega arith) least low i x p h

  pub at_sort_says : (k : ℕ) (due : Sort) (least : ℕ) (i : Spot) (x : Found) (p : Input) → is_due due least ≡ true → need due ≤ suc k → read body d (at_sort inner due least) (from w i) ≡ Ok (x, p) → Says d w (λ n. In (suc k) n w due least) i x p
  at_sort_says k s.Exp least i x p g small h = expression_says d w E EO inner IS k (omega arith) least i x p h
  at_sort_says k s.Declarator least i x p g small h = declarator_says d w E inner IS s.Declarator declarators k (omega arith) least (at_most_2 least g) i x p h
  at_sort_says k s.AbstractDeclarator least i x p g small h = declarator_says d w E inner IS s.AbstractDeclarator abstracts k (omega arith) least (at_most_2 least g) i x p h
  at_sort_says k s.ParamDeclarator least i x p g small h = declarator_says d w E inner IS s.ParamDeclarator parameters k (omega arith) least (at_most_2 least g) i x p h
  at_sort_says k s.MemberName least i x p g small h = declarator_says d w E inner IS s.MemberName member_names k (omega arith) least (at_most_2 least g) i x p h
  at_sort_says k s.Id least i x p g small h = id_says d w k least i x p h
  at_sort_says k s.DeclaredId least i x p g small h = declared_says d w k least i x p h
  at_sort_says k s.ParameterId least i x p g small h = parameter_says d w k least i x p h
  at_sort_says k s.EnumeratorId least i x p g small h = enumerator_says d w k least i x p h
  at_sort_says k s.Literal least i x p g small h = literal_says d w k least i x p h
  at_sort_says k s.Spec least i x p g small h = specifier_says d w E inner IS k least (at_most_17 least g) s.Spec specs i x p (omega arith) h
  at_sort_says k s.PlainSpec least i x p g small h = specifier_says d w E inner IS k least (at_most_17 least g) s.PlainSpec plain_specs i x p (omega arith) h
  at_sort_says k s.Qualifier least i x p g small h = specifier_says d w E inner IS k least (at_most_17 least g) s.Qualifier qualifiers i x p (omega arith) h
  at_sort_says k s.TypeName least i x p g small h = node_in 2 k s.TypeName least form.TypeName i x p (omega arith) refl (at_most_17 least g) refl refl (λ n j N. at_in k n w s.TypeName least x.tree i j N) h
  at_sort_says k s.Member least i x p g small h = node_in 4 k s.Member least form.Member i x p (omega arith) refl (at_most_17 least g) refl refl (λ n j N. at_in k n w s.Member least x.tree i j N) h
  at_sort_says k s.Enumerator least i x p g small h = node_in 3 k s.Enumerator least form.Enumerator i x p (omega arith) refl (at_most_17 least g) refl refl (λ n j N. at_in k n w s.Enumerator least x.tree i j N) h
  at_sort_says k s.Params least i x p g small h = params_in k least i x p small (at_most_17 least g) h
  at_sort_says k s.Param least i x p g small h = node_in 2 k s.Param least form.Param i x p (omega arith) refl (at_most_17 least g) refl refl (λ n j N. at_in k n w s.Param least x.tree i j N) h
  at_sort_says k s.Init least i x p g small h = init_says d w E inner IS k least (at_most_17 least g) i x p (omega arith) h
  at_sort_says k s.Decl least i x p g small h = node_in 5 k s.Decl least form.Decl i x p (omega arith) refl (at_most_17 least g) refl refl (λ n j N. at_in k n w s.Decl least x.tree i j N) h
  at_sort_says k s.Stmt least i x p g small h = stmt_in k least i x p small (at_most_17 least g) h
  at_sort_says k s.Block least i x p g small h = block_says d w E inner IS k least (at_most_17 least g) i x p h
  at_sort_says k s.BlockItem least i x p g small h = block_item_in k least i x p small (at_most_17 least g) h
  at_sort_says k s.Item least i x p g small h = item_in k least i x p small (at_most_17 least g) h
  at_sort_says k s.InitDeclarator least i x p g small h = node_in 4 k s.InitDeclarator least (form.Group group.InitDeclarator) i x p (omega arith) refl (at_most_17 least g) refl refl (λ n j N. at_in k n w s.InitDeclarator least x.tree i j N) h
  at_sort_says k s.Initializer least i x p g small h = node_in 3 k s.Initializer least (form.Group group.Initializer) i x p (omega arith) refl (at_most_17 least g) refl refl (λ n j N. at_in k n w s.Initializer least x.tree i j N) h
  at_sort_says k s.MemberDeclarator least i x p g small h = node_in 3 k s.MemberDeclarator least (form.Group group.MemberDeclarator) i x p (omega arith) refl (at_most_17 least g) refl refl (λ n j N. at_in k n w s.MemberDeclarator least x.tree i j N) h
  at_sort_says k s.Width least i x p g small h = node_in 2 k s.Width least (form.Group group.Width) i x p (omega arith) refl (at_most_17 least g) refl refl (λ n j N. at_in k n w s.Width least x.tree i j N) h
  at_sort_says k s.Members least i x p g small h = node_in 5 k s.Members least (form.Group group.Members) i x p (omega arith) refl (at_most_17 least g) refl refl (λ n j N. at_in k n w s.Members least x.tree i j N) h
  at_sort_says k s.Enumerators least i x p g small h = node_in 4 k s.Enumerators least (form.Group group.Enumerators) i x p (omega arith) refl (at_most_17 least g) refl refl (λ n j N. at_in k n w s.Enumerators least x.tree i j N) h
  at_sort_says k s.EnumeratorValue least i x p g small h = node_in 2 k s.EnumeratorValue least (form.Group group.EnumeratorValue) i x p (omega arith) refl (at_most_17 least g) refl refl (λ n j N. at_in k n w s.EnumeratorValue least x.tree i j N) h
  at_sort_says k s.ElsePart least i x p g small h = node_in 3 k s.ElsePart least (form.Group group.ElsePart) i x p (omega arith) refl (at_most_17 least g) refl refl (λ n j N. at_in k n w s.ElsePart least x.tree i j N) h
  at_sort_says k _ least i x p g small h = absurd (cc h)
