-- Which forms may stand where.
use Rattle.std.specs.Prelude.{ℕ, Bool, true, false, ◌&&◌, ◌||◌, nat_eq, nat_lt, if◌then◌else◌}
use Rattle.c_tokens.specs.Kinds.{is_same_kind}
use Rattle.c_tokens.specs.declared.kind.Kind.{Kind}
use Rattle.c_tokens.specs.declared.kind.Kind.TheVariants as kind
use Rattle.c_tokens.specs.declared.kind.Base.{Base}
use Rattle.c_tokens.specs.declared.kind.Base.TheVariants as base
use Rattle.c_tokens.specs.declared.kind.MetaType.{MetaType}
use Rattle.c_forms.specs.declared.pieces.Sort.{Sort}
use Rattle.c_forms.specs.declared.pieces.Sort.TheVariants as s
use Rattle.c_forms.specs.contracts.pieces.SortPartialEq.TheImpl.{ghosts}
use Rattle.c_forms.specs.declared.places.Occupant.{Occupant}
use Rattle.c_forms.specs.declared.places.Occupant.TheVariants as what
use Rattle.c_forms.specs.declared.forms.Form.{Form}
use Rattle.c_forms.specs.declared.forms.Form.TheVariants as form
use Rattle.c_forms.specs.declared.forms.ExpForm.{ExpForm}
use Rattle.c_forms.specs.declared.forms.ExpForm.TheVariants as exp
use Rattle.c_forms.specs.declared.forms.SpecForm.{SpecForm}
use Rattle.c_forms.specs.declared.forms.SpecForm.TheVariants as spec
use Rattle.c_forms.specs.declared.forms.StmtForm.{StmtForm}
use Rattle.c_forms.specs.declared.forms.StmtForm.TheVariants as stmt
use Rattle.c_forms.specs.declared.forms.TemplateForm.{TemplateForm}
use Rattle.c_forms.specs.declared.forms.TemplateForm.TheVariants as template
use Rattle.c_forms.specs.declared.forms.HoleForm.{HoleForm}
use Rattle.c_forms.specs.declared.forms.HoleForm.TheVariants as hole
use Rattle.c_forms.specs.declared.forms.GroupForm.{GroupForm}
use Rattle.c_forms.specs.declared.forms.GroupForm.TheVariants as group

abbrev pub is_sort : Sort → Sort → Bool
is_sort = ghosts.eq

abbrev pub sort_of_kind : Kind → Sort
sort_of_kind kind.Id = s.Id
sort_of_kind kind.Num = s.Num
sort_of_kind kind.Exp = s.Exp
sort_of_kind kind.Stmt = s.Stmt
sort_of_kind kind.Decl = s.Decl
sort_of_kind kind.Item = s.Item
sort_of_kind kind.Spec = s.PlainSpec
sort_of_kind kind.Param = s.Param
sort_of_kind kind.Member = s.Member

abbrev pub sort_of_group : GroupForm → Sort
sort_of_group group.List = s.List
sort_of_group group.Rounds = s.Rounds
sort_of_group group.Row = s.Row
sort_of_group group.InitDeclarator = s.InitDeclarator
sort_of_group group.Initializer = s.Initializer
sort_of_group group.MemberDeclarator = s.MemberDeclarator
sort_of_group group.Width = s.Width
sort_of_group group.Members = s.Members
sort_of_group group.Enumerators = s.Enumerators
sort_of_group group.EnumeratorValue = s.EnumeratorValue
sort_of_group group.ElsePart = s.ElsePart
sort_of_group group.MetaElsePart = s.MetaElsePart
sort_of_group (group.Assignment w) = s.Assignment
sort_of_group group.MetaValue = s.MetaValue
sort_of_group (group.MetaParam type name) = s.MetaParam
sort_of_group (group.Binder k name) = s.Binder
sort_of_group group.Elements = s.Repeated

-- an integer constant is a tree of kind num and an expression
abbrev pub sort_of_exp : ExpForm → Sort
sort_of_exp (exp.Int w) = s.Num
sort_of_exp _ = s.Exp

abbrev pub sort_of_spec : SpecForm → Sort
sort_of_spec (spec.Storage c) = s.Spec
sort_of_spec (spec.Qualifier q) = s.Qualifier
sort_of_spec _ = s.PlainSpec

abbrev pub sort_of_stmt : StmtForm → Sort
sort_of_stmt stmt.Block = s.Block
sort_of_stmt _ = s.Stmt

abbrev pub sort_of_template : TemplateForm → Sort
sort_of_template (template.Many k) = s.Template
sort_of_template _ = s.Shape

abbrev pub occupant_of_trees : Kind → Bool → Occupant
occupant_of_trees k is_list = if is_list then what.List k else what.One k

abbrev pub occupant_of_hole : HoleForm → Occupant
occupant_of_hole (hole.Variable k is_list name) = occupant_of_trees k is_list
occupant_of_hole (hole.Computed k is_list) = occupant_of_trees k is_list
occupant_of_hole (hole.Binder k name) = what.One k

abbrev pub occupant_of_base : Base → ℕ → Occupant
occupant_of_base (base.Tree k) lists = if nat_lt lists 2 then occupant_of_trees k (nat_eq lists 1) else what.Nowhere
occupant_of_base _ lists = what.Nowhere

abbrev pub occupant_of_call : MetaType → Occupant
occupant_of_call gives = occupant_of_base gives.base gives.lists

-- what a node of a form is to a place
abbrev pub occupant_of : Form → Occupant
occupant_of (form.Exp f) = what.Sort (sort_of_exp f)
occupant_of form.TypeName = what.Sort s.TypeName
occupant_of form.Specs = what.Sort s.Specs
occupant_of (form.Spec f) = what.Sort (sort_of_spec f)
occupant_of form.Member = what.Sort s.Member
occupant_of form.Enumerator = what.Sort s.Enumerator
occupant_of (form.Declarator f) = what.Sort s.Declarator
occupant_of (form.Params f) = what.Sort s.Params
occupant_of form.Param = what.Sort s.Param
occupant_of (form.Init f) = what.Sort s.Init
occupant_of form.Decl = what.Sort s.Decl
occupant_of (form.Stmt f) = what.Sort (sort_of_stmt f)
occupant_of (form.Item f) = what.Sort s.Item
occupant_of (form.Id w) = what.Sort s.Id
occupant_of (form.Literal w) = what.Sort s.Literal
occupant_of (form.MetaExp f) = what.Sort s.MetaExp
occupant_of (form.Template f) = what.Sort (sort_of_template f)
occupant_of (form.MetaStmt f) = what.Sort s.MetaStmt
occupant_of form.MetaBlock = what.Sort s.MetaBlock
occupant_of (form.Local type name) = what.Sort s.Local
occupant_of (form.Element f) = what.Sort s.Element
occupant_of (form.Hole f) = occupant_of_hole f
occupant_of (form.Call n gives tail) = occupant_of_call gives
occupant_of (form.Group f) = what.Sort (sort_of_group f)

abbrev pub is_argument : Sort → Bool
is_argument s.Id = true
is_argument s.Num = true
is_argument s.Exp = true
is_argument s.Stmt = true
is_argument s.Block = true
is_argument s.Decl = true
is_argument s.Item = true
is_argument s.Specs = true
is_argument s.Param = true
is_argument s.Member = true
is_argument s.Rounds = true
is_argument _ = false

-- whether all that is of one sort may stand where another is due
abbrev pub serves : Sort → Sort → Bool
serves sort s.Exp = is_sort sort s.Exp || is_sort sort s.Num
serves sort s.DeclaredId = is_sort sort s.Id
serves sort s.ParameterId = is_sort sort s.Id
serves sort s.EnumeratorId = is_sort sort s.Id
serves sort s.Spec = is_sort sort s.Spec || is_sort sort s.PlainSpec || is_sort sort s.Qualifier
serves sort s.PlainSpec = is_sort sort s.PlainSpec || is_sort sort s.Qualifier
serves sort s.AbstractDeclarator = is_sort sort s.Declarator
serves sort s.ParamDeclarator = is_sort sort s.Declarator
serves sort s.MemberName = is_sort sort s.Declarator
serves sort s.InnerDeclarator = is_sort sort s.Declarator
serves sort s.Stmt = is_sort sort s.Stmt || is_sort sort s.Block
serves sort s.BlockItem = is_sort sort s.Stmt || is_sort sort s.Block || is_sort sort s.Decl
serves sort s.Template = is_sort sort s.Template || is_sort sort s.Shape
serves sort s.MetaStmt = is_sort sort s.MetaStmt || is_sort sort s.MetaBlock
serves sort s.Repeated = is_sort sort s.Repeated || is_sort sort s.Binder
serves sort s.Argument = is_argument sort
serves sort s.Round = is_argument sort || is_sort sort s.Row
serves sort due = is_sort sort due

-- whether one tree of a kind may stand where a sort is due, as a placeholder or call:
-- identifiers are expressions too, and declarations are items
abbrev pub serves_as_one : Kind → Sort → Bool
serves_as_one k due = serves (sort_of_kind k) due || (is_same_kind k kind.Id && is_sort due s.Exp) || (is_same_kind k kind.Decl && is_sort due s.Item)

-- a list of identifiers may stand among enumerators and among declarators
abbrev pub is_named_element : Sort → Bool
is_named_element s.Enumerator = true
is_named_element s.InitDeclarator = true
is_named_element s.MemberDeclarator = true
is_named_element _ = false

-- whether trees of a kind may stand among elements of a sort, as a placeholder or call for a list
abbrev pub serves_as_list : Kind → Sort → Bool
serves_as_list k due = serves_as_one k due || (is_sort due s.Init && serves_as_one k s.Exp) || (is_sort due s.Specs && is_same_kind k kind.Spec) || (is_same_kind k kind.Id && is_named_element due)

abbrev pub stands_as : Occupant → Sort → Bool
stands_as (what.Sort sort) due = serves sort due
stands_as (what.One k) due = serves_as_one k due
stands_as _ due = false

abbrev pub joins_as : Occupant → Sort → Bool
joins_as (what.Sort sort) due = serves sort due
joins_as (what.One k) due = serves_as_one k due
joins_as (what.List k) due = serves_as_list k due
joins_as what.Nowhere due = false

-- whether a node of a form may stand alone where a sort is due
abbrev pub stands : Form → Sort → Bool
stands f due = stands_as (occupant_of f) due

-- whether a node of a form may stand among elements of a sort into which lists are spliced
abbrev pub joins : Form → Sort → Bool
joins f due = joins_as (occupant_of f) due
