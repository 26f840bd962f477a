-- How many nodes that do not count for the height may lie in one another, by the sort, and that each row is printed as it is read.
use Rattle.std.proofs.Common.{◌≡◌, ◌⊎◌, inl, inr, refl, sym, subst, ℕ, suc, Bool, true, false, not, ◌&&◌, ◌||◌, List, [], ◌∷◌, nat_lt, arith}
use Rattle.c_forms.specs.declared.operators.BinaryOperator.{BinaryOperator}
use Rattle.c_forms.specs.declared.operators.BinaryOperator.TheVariants as operator
use Rattle.c_forms.specs.declared.operators.StorageClass.{StorageClass}
use Rattle.c_forms.specs.declared.operators.StorageClass.TheVariants as storage
use Rattle.c_forms.specs.declared.pieces.Sort.{Sort}
use Rattle.c_forms.specs.declared.pieces.Sort.TheVariants as s
use Rattle.c_forms.specs.declared.pieces.Piece.{Piece}
use Rattle.c_forms.specs.declared.pieces.Piece.TheVariants.{Token, Maybe, Own, TypeTokens, KindName, One, Group, Rest, Anything, Then}
use Rattle.c_forms.specs.declared.forms.Form.{Form}
use Rattle.c_forms.specs.declared.forms.Form.TheVariants as form
use Rattle.c_forms.specs.declared.forms.ExpForm.{ExpForm}
use Rattle.c_forms.specs.declared.forms.ExpForm.TheVariants as exp
use Rattle.c_forms.specs.declared.forms.SpecForm.{SpecForm}
use Rattle.c_forms.specs.declared.forms.SpecForm.TheVariants as spec
use Rattle.c_forms.specs.declared.forms.DeclaratorForm.{DeclaratorForm}
use Rattle.c_forms.specs.declared.forms.DeclaratorForm.TheVariants as declarator
use Rattle.c_forms.specs.declared.forms.StmtForm.{StmtForm}
use Rattle.c_forms.specs.declared.forms.StmtForm.TheVariants as stmt
use Rattle.c_forms.specs.declared.forms.ParamsForm.TheVariants as params
use Rattle.c_forms.specs.declared.forms.InitForm.TheVariants as init
use Rattle.c_forms.specs.declared.forms.ItemForm.TheVariants as item
use Rattle.c_forms.specs.Measures.{level, pieces}
use Rattle.c_syntax.specs.Allowed.{places}
use Rattle.c_syntax.specs.Reading.{is_starred, inside, separator_of}
use Rattle.c_syntax.specs.Spells.{may_be}
use Rattle.c_spelled.proofs.Alone.{type_name_form, member_form, enumerator_form, param_form, decl_form, block_form, init_declarator_form, initializer_form, member_declarator_form, width_form, members_form, enumerators_form, enumerator_value_form, else_part_form, is_spec, spec_is, plain_spec_is, qualifier_is, init_is, params_is, exp_is, declarator_is, abstract_is, param_is, member_name_is, stmt_is, item_is}
use Rattle.spelled_trees.proofs.Parts.{both, left_of, right_of}
use Rattle.ready_rows.proofs.Rows.{is_fixed, is_fixed_if, is_printable}

-- ---- ranks

-- Where a tree of a sort stands, no more nodes that do not count for the height lie in one another than this and one more.
abbrev pub rank : Sort → ℕ
rank s.Id = 0
rank s.DeclaredId = 0
rank s.ParameterId = 0
rank s.EnumeratorId = 0
rank s.Literal = 0
rank s.Spec = 0
rank s.PlainSpec = 0
rank s.Qualifier = 0
rank s.Block = 0
rank s.Exp = 1
rank s.Declarator = 1
rank s.AbstractDeclarator = 1
rank s.ParamDeclarator = 1
rank s.MemberName = 1
rank s.TypeName = 2
rank s.Width = 2
rank s.EnumeratorValue = 2
rank s.Init = 2
rank s.Param = 2
rank s.Stmt = 2
rank s.Initializer = 3
rank s.MemberDeclarator = 3
rank s.Enumerator = 3
rank s.Params = 3
rank s.ElsePart = 3
rank s.Member = 4
rank s.Enumerators = 4
rank s.InitDeclarator = 4
rank s.Members = 5
rank s.Decl = 5
rank s.BlockItem = 5
rank s.Item = 6
rank due = places

-- sorts around whose trees parentheses may be added
abbrev pub may_wrap : Sort → Bool
may_wrap s.Exp = true
may_wrap s.Declarator = true
may_wrap s.AbstractDeclarator = true
may_wrap s.ParamDeclarator = true
may_wrap s.MemberName = true
may_wrap due = false

-- Levels that are due are less than this: of declarators only pointers are put in parentheses.
abbrev pub most : Sort → ℕ
most s.Declarator = 3
most s.AbstractDeclarator = 3
most s.ParamDeclarator = 3
most s.MemberName = 3
most due = 18

-- whether so many nodes in one another leave place for a tree of a sort, and its level may be due
abbrev pub low : ℕ → Sort → ℕ → Bool
low n due least = nat_lt (rank due) n && nat_lt least (most due)

-- the places that are left for the parts of a node
abbrev pub room : Bool → ℕ → ℕ
room true n = places
room false n = n

-- ---- the rows of each form

abbrev pub is_ranked : Sort → Form → Bool
is_ranked own f = is_printable (low (room (is_starred f) (rank own))) own (pieces f) && (nat_lt 0 (level f) && (not (nat_lt (level f) 17) || may_wrap own))

binaries : (g : BinaryOperator) → is_ranked s.Exp (form.Exp (exp.Binary g)) ≡ true
binaries operator.LogicalOr = refl
binaries g = refl

exps : (g : ExpForm) → is_ranked s.Exp (form.Exp g) ≡ true
exps (exp.Name w) = refl
exps (exp.Binary g) = binaries g
exps g = refl

storages : (own : Sort) (g : StorageClass) → is_ranked own (form.Spec (spec.Storage g)) ≡ true
storages own storage.Typedef = refl
storages own g = refl

specs : (g : SpecForm) → is_ranked s.Spec (form.Spec g) ≡ true
specs (spec.Storage c) = storages s.Spec c
specs g = refl

plain_specs : (g : SpecForm) → is_ranked s.PlainSpec (form.Spec g) ≡ true
plain_specs (spec.Storage c) = storages s.PlainSpec c
plain_specs g = refl

qualifiers : (g : SpecForm) → is_ranked s.Qualifier (form.Spec g) ≡ true
qualifiers (spec.Storage c) = storages s.Qualifier c
qualifiers g = refl

declarators : (g : DeclaratorForm) → is_ranked s.Declarator (form.Declarator g) ≡ true
declarators declarator.Named = refl
declarators g = refl

abstracts : (g : DeclaratorForm) → is_ranked s.AbstractDeclarator (form.Declarator g) ≡ true
abstracts declarator.Named = refl
abstracts g = refl

param_declarators : (g : DeclaratorForm) → is_ranked s.ParamDeclarator (form.Declarator g) ≡ true
param_declarators declarator.Named = refl
param_declarators g = refl

member_names : (g : DeclaratorForm) → is_ranked s.MemberName (form.Declarator g) ≡ true
member_names declarator.Named = refl
member_names g = refl

stmts : (g : StmtForm) → is_ranked s.Stmt (form.Stmt g) ≡ true
stmts stmt.Label = refl
stmts g = refl

pub spec_form : (f : Form) → is_spec f ≡ true → (g : SpecForm) × (f ≡ form.Spec g)
spec_form (form.Spec g) e = (g, refl)
spec_form f e = absurd (cc e)

-- whether a tree of a sort is a node
abbrev pub is_node : Sort → Bool
is_node s.Exp = true
is_node s.TypeName = true
is_node s.Spec = true
is_node s.PlainSpec = true
is_node s.Qualifier = true
is_node s.Member = true
is_node s.Enumerator = true
is_node s.Declarator = true
is_node s.AbstractDeclarator = true
is_node s.ParamDeclarator = true
is_node s.MemberName = true
is_node s.Params = true
is_node s.Param = true
is_node s.Init = true
is_node s.Decl = true
is_node s.Stmt = true
is_node s.Block = true
is_node s.Item = true
is_node s.InitDeclarator = true
is_node s.Initializer = true
is_node s.MemberDeclarator = true
is_node s.Width = true
is_node s.Members = true
is_node s.Enumerators = true
is_node s.EnumeratorValue = true
is_node s.ElsePart = true
is_node due = false

one_form : (own : Sort) (f g : Form) → f ≡ g → is_ranked own g ≡ true → is_ranked own f ≡ true
one_form own f g e h = subst (λ f. is_ranked own f ≡ true) (sym e) h

params_ranked : (f : Form) → (f ≡ form.Params params.Ids) ⊎ ((f ≡ form.Params params.Typed) ⊎ (f ≡ form.Params params.TypedAndMore)) → is_ranked s.Params f ≡ true
params_ranked f (inl e) = one_form s.Params f _ e refl
params_ranked f (inr (inl e)) = one_form s.Params f _ e refl
params_ranked f (inr (inr e)) = one_form s.Params f _ e refl

init_ranked : (f : Form) → (f ≡ form.Init init.One) ⊎ (f ≡ form.Init init.Braces) → is_ranked s.Init f ≡ true
init_ranked f (inl e) = one_form s.Init f _ e refl
init_ranked f (inr e) = one_form s.Init f _ e refl

item_ranked : (f : Form) → (f ≡ form.Item item.Function) ⊎ (f ≡ form.Item item.Declaration) → is_ranked s.Item f ≡ true
item_ranked f (inl e) = one_form s.Item f _ e refl
item_ranked f (inr e) = one_form s.Item f _ e refl

by_rank : (own : Sort) (f : Form) → is_node own ≡ true → may_be own f ≡ true → is_ranked own f ≡ true
by_rank s.Exp f n m = let o = exp_is f m in one_form s.Exp f _ o.1 (exps o.0)
by_rank s.TypeName f n m = one_form s.TypeName f _ (type_name_form f m) refl
by_rank s.Spec f n m = let o = spec_form f (spec_is f m) in one_form s.Spec f _ o.1 (specs o.0)
by_rank s.PlainSpec f n m = let o = spec_form f (plain_spec_is f m) in one_form s.PlainSpec f _ o.1 (plain_specs o.0)
by_rank s.Qualifier f n m = let o = spec_form f (qualifier_is f m) in one_form s.Qualifier f _ o.1 (qualifiers o.0)
by_rank s.Member f n m = one_form s.Member f _ (member_form f m) refl
by_rank s.Enumerator f n m = one_form s.Enumerator f _ (enumerator_form f m) refl
by_rank s.Declarator f n m = let o = declarator_is f m in one_form s.Declarator f _ o.1 (declarators o.0)
by_rank s.AbstractDeclarator f n m = let o = abstract_is f m in one_form s.AbstractDeclarator f _ o.1 (abstracts o.0)
by_rank s.ParamDeclarator f n m = let o = param_is f m in one_form s.ParamDeclarator f _ o.1 (param_declarators o.0)
by_rank s.MemberName f n m = let o = member_name_is f m in one_form s.MemberName f _ o.1 (member_names o.0)
by_rank s.Params f n m = params_ranked f (params_is f m)
by_rank s.Param f n m = one_form s.Param f _ (param_form f m) refl
by_rank s.Init f n m = init_ranked f (init_is f m)
by_rank s.Decl f n m = one_form s.Decl f _ (decl_form f m) refl
by_rank s.Stmt f n m = let o = stmt_is f m in one_form s.Stmt f _ o.1 (stmts o.0)
by_rank s.Block f n m = one_form s.Block f _ (block_form f m) refl
by_rank s.Item f n m = item_ranked f (item_is f m)
by_rank s.InitDeclarator f n m = one_form s.InitDeclarator f _ (init_declarator_form f m) refl
by_rank s.Initializer f n m = one_form s.Initializer f _ (initializer_form f m) refl
by_rank s.MemberDeclarator f n m = one_form s.MemberDeclarator f _ (member_declarator_form f m) refl
by_rank s.Width f n m = one_form s.Width f _ (width_form f m) refl
by_rank s.Members f n m = one_form s.Members f _ (members_form f m) refl
by_rank s.Enumerators f n m = one_form s.Enumerators f _ (enumerators_form f m) refl
by_rank s.EnumeratorValue f n m = one_form s.EnumeratorValue f _ (enumerator_value_form f m) refl
by_rank s.ElsePart f n m = one_form s.ElsePart f _ (else_part_form f m) refl
by_rank own f n m = absurd (cc n)

-- ---- what follows

-- where more is low, a row is printed too
higher : (a b : Sort → ℕ → Bool) → ((due : Sort) (least : ℕ) → a due least ≡ true → b due least ≡ true) → (own : Sort) (ps : List Piece) → is_printable a own ps ≡ true → is_printable b own ps ≡ true
higher a b h own [] e = refl
higher a b h own (Token c ∷ ps) e = both (is_fixed c) (is_printable b own ps) (left_of (is_fixed c) (is_printable a own ps) e) (higher a b h own ps (right_of (is_fixed c) (is_printable a own ps) e))
higher a b h own (Maybe c ∷ ps) e = higher a b h own ps e
higher a b h own (Own ∷ ps) e = higher a b h own ps e
higher a b h own (One due least ∷ ps) e = both (b (inside own due) least) (is_printable b own ps) (h (inside own due) least (left_of (a (inside own due) least) (is_printable a own ps) e)) (higher a b h own ps (right_of (a (inside own due) least) (is_printable a own ps) e))
higher a b h own (Group r due least ∷ ps) e =
    let x = left_of (a due least && is_fixed_if (separator_of r)) (is_printable a own ps) e in
    both (b due least && is_fixed_if (separator_of r)) (is_printable b own ps) (both (b due least) (is_fixed_if (separator_of r)) (h due least (left_of (a due least) (is_fixed_if (separator_of r)) x)) (right_of (a due least) (is_fixed_if (separator_of r)) x))
    (higher a b h own ps (right_of (a due least && is_fixed_if (separator_of r)) (is_printable a own ps) e))
higher a b h own (Then x ∷ ps) e = higher a b h own ps e
higher a b h own (TypeTokens ∷ ps) e = absurd (cc e)
higher a b h own (KindName ∷ ps) e = absurd (cc e)
higher a b h own (Rest due ∷ ps) e = absurd (cc e)
higher a b h own (Anything ∷ ps) e = absurd (cc e)

below : (m n r : ℕ) → nat_lt m (suc n) ≡ true → nat_lt r m ≡ true → nat_lt r n ≡ true
below m n r h k = grind (arith)

-- The parts of a node have place where it has.
pub printable : (n : ℕ) (own : Sort) (f : Form) → is_node own ≡ true → may_be own f ≡ true → nat_lt (rank own) (suc n) ≡ true → is_printable (low (room (is_starred f) n)) own (pieces f) ≡ true
printable n own f x m r = higher (low (room (is_starred f) (rank own))) (low (room (is_starred f) n)) (by_star (is_starred f)) own (pieces f) (left_of (is_printable (low (room (is_starred f) (rank own))) own (pieces f)) _ (by_rank own f x m))
  where
    by_star : (b : Bool) (due : Sort) (least : ℕ) → low (room b (rank own)) due least ≡ true → low (room b n) due least ≡ true
    by_star true due least e = e
    by_star false due least e = both (nat_lt (rank due) n) (nat_lt least (most due)) (below (rank own) n (rank due) r (left_of (nat_lt (rank due) (rank own)) (nat_lt least (most due)) e)) (right_of (nat_lt (rank due) (rank own)) (nat_lt least (most due)) e)

pub level_above : (own : Sort) (f : Form) → is_node own ≡ true → may_be own f ≡ true → nat_lt 0 (level f) ≡ true
level_above own f x m = left_of (nat_lt 0 (level f)) _ (right_of (is_printable (low (room (is_starred f) (rank own))) own (pieces f)) _ (by_rank own f x m))

or_not : (a b : Bool) → (not a || b) ≡ true → b ≡ false → a ≡ false
or_not true true h e = absurd (cc e)
or_not true false h e = absurd (cc h)
or_not false b h e = refl

pub level_top : (own : Sort) (f : Form) → is_node own ≡ true → may_be own f ≡ true → may_wrap own ≡ false → nat_lt (level f) 17 ≡ false
level_top own f x m w = or_not (nat_lt (level f) 17) (may_wrap own) (right_of (nat_lt 0 (level f)) _ (right_of (is_printable (low (room (is_starred f) (rank own))) own (pieces f)) _ (by_rank own f x m))) w
