-- The row of a form.
use Rattle.std.specs.Prelude.{if◌then◌else◌}
use Rattle.c_tokens.specs.declared.kind.Kind.{Kind}
use Rattle.c_tokens.specs.declared.kind.Kind.TheVariants as kind
use Rattle.c_forms.specs.declared.operators.StorageClass.{StorageClass}
use Rattle.c_forms.specs.declared.operators.StorageClass.TheVariants as storage
use Rattle.c_forms.specs.declared.operators.BinaryOperator.{BinaryOperator}
use Rattle.c_forms.specs.declared.operators.BinaryOperator.TheVariants as operator
use Rattle.std.specs.Prelude.{ℕ, List}
use Rattle.c_forms.specs.declared.pieces.Piece.{Piece}
use Rattle.c_forms.specs.declared.pieces.Row.{Row}
use Rattle.c_forms.specs.declared.pieces.Role.{Role}
use Rattle.c_forms.specs.declared.pieces.Role.TheVariants.{Leafed, Prefixed, Entered, Tailed, Led, Marked, Declared, Due, Bare, Carried}
use Rattle.c_forms.specs.declared.pieces.Counts.{Counts}
use Rattle.c_forms.specs.declared.pieces.Counts.TheVariants.{Nothing, Size, SizeAndHeight}
use Rattle.c_forms.specs.declared.forms.ExpForm.{ExpForm}
use Rattle.c_forms.specs.declared.forms.ExpForm.TheVariants as exp
use Rattle.c_forms.specs.declared.forms.SpecForm.{SpecForm}
use Rattle.c_forms.specs.declared.forms.SpecForm.TheVariants as spec
use Rattle.c_forms.specs.declared.forms.DeclaratorForm.{DeclaratorForm}
use Rattle.c_forms.specs.declared.forms.DeclaratorForm.TheVariants as declarator
use Rattle.c_forms.specs.declared.forms.ParamsForm.{ParamsForm}
use Rattle.c_forms.specs.declared.forms.ParamsForm.TheVariants as params
use Rattle.c_forms.specs.declared.forms.InitForm.{InitForm}
use Rattle.c_forms.specs.declared.forms.InitForm.TheVariants as init
use Rattle.c_forms.specs.declared.forms.StmtForm.{StmtForm}
use Rattle.c_forms.specs.declared.forms.StmtForm.TheVariants as stmt
use Rattle.c_forms.specs.declared.forms.ItemForm.{ItemForm}
use Rattle.c_forms.specs.declared.forms.ItemForm.TheVariants as item
use Rattle.c_forms.specs.declared.forms.MetaExpForm.{MetaExpForm}
use Rattle.c_forms.specs.declared.forms.MetaExpForm.TheVariants as meta_exp
use Rattle.c_forms.specs.declared.forms.TemplateForm.{TemplateForm}
use Rattle.c_forms.specs.declared.forms.TemplateForm.TheVariants as template
use Rattle.c_forms.specs.declared.forms.MetaStmtForm.{MetaStmtForm}
use Rattle.c_forms.specs.declared.forms.MetaStmtForm.TheVariants as meta_stmt
use Rattle.c_forms.specs.declared.forms.ElementForm.{ElementForm}
use Rattle.c_forms.specs.declared.forms.ElementForm.TheVariants as element
use Rattle.c_forms.specs.declared.forms.HoleForm.{HoleForm}
use Rattle.c_forms.specs.declared.forms.HoleForm.TheVariants as hole
use Rattle.c_forms.specs.declared.forms.GroupForm.{GroupForm}
use Rattle.c_forms.specs.declared.forms.GroupForm.TheVariants as group
use Rattle.c_forms.specs.declared.forms.Form.{Form}
use Rattle.c_forms.specs.declared.forms.Form.TheVariants as form
use Rattle.c_forms.specs.declared.table.TheConstants.{TOKEN_EXP, STR, INDEX, APPLY, FIELD, ARROW_OF, POST_INC, POST_DEC, PRE_INC, PRE_DEC, UNARY, SIZEOF_EXP, SIZEOF_TYPE, CAST, BINARY_13, BINARY_12, BINARY_11, BINARY_10, BINARY_9, BINARY_8, BINARY_7, BINARY_6, BINARY_5, BINARY_4, CONDITIONAL, ASSIGN, COMMA_OF, TYPE_NAME, SPECS, TOKEN_SPEC, TYPEDEF_KEY, BASIC_TYPE, TYPEDEF_NAME, STRUCT_OF, ENUM_OF, MEMBERS, MEMBER, MEMBER_DECLARATOR, WIDTH, ENUMERATORS, ENUMERATOR, ENUMERATOR_VALUE, NAMED, ABSENT, POINTER, ARRAY_OF, FUNCTION_OF, IDS, TYPED, TYPED_AND_MORE, PARAM, INIT_ONE, BRACES, DECL, INIT_DECLARATOR, INITIALIZER, LABEL, CASE, DEFAULT, EXPRESS, EMPTY, BLOCK, IF, ELSE_PART, SWITCH, WHILE, DO, FOR, GOTO, CONTINUE, BREAK, RETURN, FUNCTION, DECLARATION, SYNTAX, META_FUNCTION, META_VARIABLE, META_PARAM, META_VALUE, ELEMENT_LITERAL, ELEMENT_BIND, ELEMENT_ONE_OR_MORE, ELEMENT_ZERO_OR_MORE, ELEMENT_ONE_OR_MORE_BETWEEN, ELEMENT_ZERO_OR_MORE_BETWEEN, ELEMENT_MAYBE, BINDER, ELEMENTS, TOKEN_META_EXP, META_UNARY, META_BINARY_13, META_BINARY_12, META_BINARY_11, META_BINARY_10, META_BINARY_9, META_BINARY_8, META_BINARY_7, META_BINARY_6, META_BINARY_5, META_BINARY_4, CHOOSE, NAMED_CALL, QUOTE, TEMPLATE_PARENS, TEMPLATE_BRACES, TEMPLATE_ID, TEMPLATE_NUM, TEMPLATE_EXP, TEMPLATE_STMT, TEMPLATE_DECL, TEMPLATE_ITEM, TEMPLATE_SPEC, TEMPLATE_PARAM, TEMPLATE_MEMBER, TEMPLATE_IDS, TEMPLATE_NUMS, TEMPLATE_EXPS, TEMPLATE_STMTS, TEMPLATE_DECLS, TEMPLATE_ITEMS, TEMPLATE_SPECS, TEMPLATE_PARAMS, TEMPLATE_MEMBERS, VALUE, SET, ASSIGNMENT, META_IF, META_ELSE_PART, META_WHILE, META_DO, META_FOR, META_RETURN, MATCH, META_BLOCK, LOCAL, HOLE_VARIABLE, HOLE_COMPUTED, HOLE_COMPUTED_LIST, HOLE_BINDER, CALL, PART_TOKEN, LITERAL, LIST, ROUNDS, ROW}

-- a row as definitions see it
pub record Line : Type 0 where
  pub role : Role
  pub level : ℕ
  pub counts : Counts
  pub pieces : List Piece

abbrev pub line : Role → ℕ → Counts → List Piece → Line
line role level counts pieces = record { role = role; level = level; counts = counts; pieces = pieces }

abbrev pub shown : Row → Line
shown r = line r.role r.level r.counts r.pieces.now

abbrev pub template_row : Kind → Line
template_row kind.Id = line Due 17 Nothing TEMPLATE_ID.now
template_row kind.Num = line Due 17 Nothing TEMPLATE_NUM.now
template_row kind.Exp = line Due 17 Nothing TEMPLATE_EXP.now
template_row kind.Stmt = line Due 17 Nothing TEMPLATE_STMT.now
template_row kind.Decl = line Due 17 Nothing TEMPLATE_DECL.now
template_row kind.Item = line Due 17 Nothing TEMPLATE_ITEM.now
template_row kind.Spec = line Due 17 Nothing TEMPLATE_SPEC.now
template_row kind.Param = line Due 17 Nothing TEMPLATE_PARAM.now
template_row kind.Member = line Due 17 Nothing TEMPLATE_MEMBER.now

abbrev pub list_template_row : Kind → Line
list_template_row kind.Id = line Due 17 Nothing TEMPLATE_IDS.now
list_template_row kind.Num = line Due 17 Nothing TEMPLATE_NUMS.now
list_template_row kind.Exp = line Due 17 Nothing TEMPLATE_EXPS.now
list_template_row kind.Stmt = line Due 17 Nothing TEMPLATE_STMTS.now
list_template_row kind.Decl = line Due 17 Nothing TEMPLATE_DECLS.now
list_template_row kind.Item = line Due 17 Nothing TEMPLATE_ITEMS.now
list_template_row kind.Spec = line Due 17 Nothing TEMPLATE_SPECS.now
list_template_row kind.Param = line Due 17 Nothing TEMPLATE_PARAMS.now
list_template_row kind.Member = line Due 17 Nothing TEMPLATE_MEMBERS.now

abbrev pub binary_row : BinaryOperator → Line
binary_row operator.LogicalOr = line Tailed 4 SizeAndHeight BINARY_4.now
binary_row operator.LogicalAnd = line Tailed 5 SizeAndHeight BINARY_5.now
binary_row operator.BitOr = line Tailed 6 SizeAndHeight BINARY_6.now
binary_row operator.BitXor = line Tailed 7 SizeAndHeight BINARY_7.now
binary_row operator.BitAnd = line Tailed 8 SizeAndHeight BINARY_8.now
binary_row operator.Equal = line Tailed 9 SizeAndHeight BINARY_9.now
binary_row operator.NotEqual = line Tailed 9 SizeAndHeight BINARY_9.now
binary_row operator.Less = line Tailed 10 SizeAndHeight BINARY_10.now
binary_row operator.Greater = line Tailed 10 SizeAndHeight BINARY_10.now
binary_row operator.LessEqual = line Tailed 10 SizeAndHeight BINARY_10.now
binary_row operator.GreaterEqual = line Tailed 10 SizeAndHeight BINARY_10.now
binary_row operator.ShiftLeft = line Tailed 11 SizeAndHeight BINARY_11.now
binary_row operator.ShiftRight = line Tailed 11 SizeAndHeight BINARY_11.now
binary_row operator.Add = line Tailed 12 SizeAndHeight BINARY_12.now
binary_row operator.Subtract = line Tailed 12 SizeAndHeight BINARY_12.now
binary_row operator.Multiply = line Tailed 13 SizeAndHeight BINARY_13.now
binary_row operator.Divide = line Tailed 13 SizeAndHeight BINARY_13.now
binary_row operator.Remainder = line Tailed 13 SizeAndHeight BINARY_13.now

abbrev pub meta_binary_row : BinaryOperator → Line
meta_binary_row operator.LogicalOr = line Tailed 4 SizeAndHeight META_BINARY_4.now
meta_binary_row operator.LogicalAnd = line Tailed 5 SizeAndHeight META_BINARY_5.now
meta_binary_row operator.BitOr = line Tailed 6 SizeAndHeight META_BINARY_6.now
meta_binary_row operator.BitXor = line Tailed 7 SizeAndHeight META_BINARY_7.now
meta_binary_row operator.BitAnd = line Tailed 8 SizeAndHeight META_BINARY_8.now
meta_binary_row operator.Equal = line Tailed 9 SizeAndHeight META_BINARY_9.now
meta_binary_row operator.NotEqual = line Tailed 9 SizeAndHeight META_BINARY_9.now
meta_binary_row operator.Less = line Tailed 10 SizeAndHeight META_BINARY_10.now
meta_binary_row operator.Greater = line Tailed 10 SizeAndHeight META_BINARY_10.now
meta_binary_row operator.LessEqual = line Tailed 10 SizeAndHeight META_BINARY_10.now
meta_binary_row operator.GreaterEqual = line Tailed 10 SizeAndHeight META_BINARY_10.now
meta_binary_row operator.ShiftLeft = line Tailed 11 SizeAndHeight META_BINARY_11.now
meta_binary_row operator.ShiftRight = line Tailed 11 SizeAndHeight META_BINARY_11.now
meta_binary_row operator.Add = line Tailed 12 SizeAndHeight META_BINARY_12.now
meta_binary_row operator.Subtract = line Tailed 12 SizeAndHeight META_BINARY_12.now
meta_binary_row operator.Multiply = line Tailed 13 SizeAndHeight META_BINARY_13.now
meta_binary_row operator.Divide = line Tailed 13 SizeAndHeight META_BINARY_13.now
meta_binary_row operator.Remainder = line Tailed 13 SizeAndHeight META_BINARY_13.now

abbrev pub exp_row : ExpForm → Line
exp_row (exp.Name w) = line Leafed 17 Size TOKEN_EXP.now
exp_row (exp.Int w) = line Leafed 17 Size TOKEN_EXP.now
exp_row (exp.Float w) = line Leafed 17 Size TOKEN_EXP.now
exp_row (exp.Char w) = line Leafed 17 Size TOKEN_EXP.now
exp_row exp.Str = line Due 17 Nothing STR.now
exp_row exp.Index = line Tailed 16 SizeAndHeight INDEX.now
exp_row exp.Apply = line Tailed 16 SizeAndHeight APPLY.now
exp_row exp.Field = line Tailed 16 SizeAndHeight FIELD.now
exp_row exp.Arrow = line Tailed 16 SizeAndHeight ARROW_OF.now
exp_row exp.PostInc = line Tailed 16 SizeAndHeight POST_INC.now
exp_row exp.PostDec = line Tailed 16 SizeAndHeight POST_DEC.now
exp_row exp.PreInc = line Prefixed 15 SizeAndHeight PRE_INC.now
exp_row exp.PreDec = line Prefixed 15 SizeAndHeight PRE_DEC.now
exp_row (exp.Unary w) = line Prefixed 15 SizeAndHeight UNARY.now
exp_row exp.SizeofExp = line Prefixed 15 SizeAndHeight SIZEOF_EXP.now
exp_row exp.SizeofType = line Entered 15 SizeAndHeight SIZEOF_TYPE.now
exp_row exp.Cast = line Entered 14 SizeAndHeight CAST.now
exp_row (exp.Binary operator) = binary_row operator
exp_row exp.Conditional = line Tailed 3 SizeAndHeight CONDITIONAL.now
exp_row (exp.Assign w) = line Tailed 2 SizeAndHeight ASSIGN.now
exp_row exp.Comma = line Tailed 1 SizeAndHeight COMMA_OF.now

abbrev pub storage_row : StorageClass → Line
storage_row storage.Typedef = line Leafed 17 Size TYPEDEF_KEY.now
storage_row _ = line Leafed 17 Size TOKEN_SPEC.now

abbrev pub spec_row : SpecForm → Line
spec_row (spec.Storage class) = storage_row class
spec_row (spec.Qualifier w) = line Leafed 17 Size TOKEN_SPEC.now
spec_row (spec.Basic w) = line Leafed 17 Size BASIC_TYPE.now
spec_row (spec.Typedef w) = line Due 17 Size TYPEDEF_NAME.now
spec_row (spec.StructOf w) = line Prefixed 17 SizeAndHeight STRUCT_OF.now
spec_row spec.EnumOf = line Prefixed 17 SizeAndHeight ENUM_OF.now

abbrev pub declarator_row : DeclaratorForm → Line
declarator_row declarator.Named = line Due 17 Size NAMED.now
declarator_row declarator.Absent = line Bare 17 Size ABSENT.now
declarator_row declarator.Pointer = line Prefixed 1 SizeAndHeight POINTER.now
declarator_row declarator.ArrayOf = line Tailed 2 SizeAndHeight ARRAY_OF.now
declarator_row declarator.FunctionOf = line Tailed 2 SizeAndHeight FUNCTION_OF.now

abbrev pub params_row : ParamsForm → Line
params_row params.Ids = line Due 17 Size IDS.now
params_row params.Typed = line Due 17 Size TYPED.now
params_row params.TypedAndMore = line Due 17 Size TYPED_AND_MORE.now

abbrev pub init_row : InitForm → Line
init_row init.One = line Due 17 Size INIT_ONE.now
init_row init.Braces = line Prefixed 17 SizeAndHeight BRACES.now

abbrev pub stmt_row : StmtForm → Line
stmt_row stmt.Label = line Marked 17 SizeAndHeight LABEL.now
stmt_row stmt.Case = line Prefixed 17 SizeAndHeight CASE.now
stmt_row stmt.Default = line Prefixed 17 SizeAndHeight DEFAULT.now
stmt_row stmt.Express = line Led 17 Size EXPRESS.now
stmt_row stmt.Empty = line Prefixed 17 Size EMPTY.now
stmt_row stmt.Block = line Prefixed 17 SizeAndHeight BLOCK.now
stmt_row stmt.If = line Prefixed 17 SizeAndHeight IF.now
stmt_row stmt.Switch = line Prefixed 17 SizeAndHeight SWITCH.now
stmt_row stmt.While = line Prefixed 17 SizeAndHeight WHILE.now
stmt_row stmt.Do = line Prefixed 17 SizeAndHeight DO.now
stmt_row stmt.For = line Prefixed 17 SizeAndHeight FOR.now
stmt_row stmt.Goto = line Prefixed 17 Size GOTO.now
stmt_row stmt.Continue = line Prefixed 17 Size CONTINUE.now
stmt_row stmt.Break = line Prefixed 17 Size BREAK.now
stmt_row stmt.Return = line Prefixed 17 Size RETURN.now

abbrev pub item_row : ItemForm → Line
item_row item.Function = line Declared 17 Size FUNCTION.now
item_row item.Declaration = line Declared 17 Size DECLARATION.now
item_row (item.Syntax result name) = line Due 17 Size SYNTAX.now
item_row (item.MetaFunction result name) = line Due 17 Size META_FUNCTION.now
item_row (item.MetaVariable type name) = line Due 17 Size META_VARIABLE.now

abbrev pub meta_exp_row : MetaExpForm → Line
meta_exp_row (meta_exp.Int w) = line Leafed 17 Size TOKEN_META_EXP.now
meta_exp_row (meta_exp.Text w) = line Leafed 17 Size TOKEN_META_EXP.now
meta_exp_row (meta_exp.Variable w) = line Leafed 17 Size TOKEN_META_EXP.now
meta_exp_row (meta_exp.Unary w) = line Prefixed 15 SizeAndHeight META_UNARY.now
meta_exp_row (meta_exp.Binary operator) = meta_binary_row operator
meta_exp_row meta_exp.Choose = line Tailed 3 SizeAndHeight CHOOSE.now
meta_exp_row (meta_exp.Named w) = line Marked 17 SizeAndHeight NAMED_CALL.now
meta_exp_row meta_exp.Quote = line Due 17 SizeAndHeight QUOTE.now

abbrev pub template_form_row : TemplateForm → Line
template_form_row template.Parens = line Prefixed 17 Nothing TEMPLATE_PARENS.now
template_form_row template.Braces = line Prefixed 17 SizeAndHeight TEMPLATE_BRACES.now
template_form_row (template.One kind) = template_row kind
template_form_row (template.Many kind) = list_template_row kind

abbrev pub meta_stmt_row : MetaStmtForm → Line
meta_stmt_row meta_stmt.Empty = line Prefixed 17 Size EMPTY.now
meta_stmt_row meta_stmt.Value = line Led 17 Size VALUE.now
meta_stmt_row (meta_stmt.Set w) = line Marked 17 Size SET.now
meta_stmt_row meta_stmt.If = line Prefixed 17 SizeAndHeight META_IF.now
meta_stmt_row meta_stmt.While = line Prefixed 17 SizeAndHeight META_WHILE.now
meta_stmt_row meta_stmt.Do = line Prefixed 17 SizeAndHeight META_DO.now
meta_stmt_row meta_stmt.For = line Prefixed 17 SizeAndHeight META_FOR.now
meta_stmt_row meta_stmt.Break = line Prefixed 17 Size BREAK.now
meta_stmt_row meta_stmt.Continue = line Prefixed 17 Size CONTINUE.now
meta_stmt_row meta_stmt.Return = line Prefixed 17 Size META_RETURN.now
meta_stmt_row meta_stmt.Match = line Prefixed 17 SizeAndHeight MATCH.now

abbrev pub element_row : ElementForm → Line
element_row (element.Literal w) = line Leafed 17 Nothing ELEMENT_LITERAL.now
element_row element.Bind = line Prefixed 17 Nothing ELEMENT_BIND.now
element_row element.OneOrMore = line Prefixed 17 SizeAndHeight ELEMENT_ONE_OR_MORE.now
element_row element.ZeroOrMore = line Prefixed 17 SizeAndHeight ELEMENT_ZERO_OR_MORE.now
element_row (element.OneOrMoreBetween w) = line Due 17 SizeAndHeight ELEMENT_ONE_OR_MORE_BETWEEN.now
element_row (element.ZeroOrMoreBetween w) = line Due 17 SizeAndHeight ELEMENT_ZERO_OR_MORE_BETWEEN.now
element_row (element.Maybe w) = line Due 17 SizeAndHeight ELEMENT_MAYBE.now

abbrev pub hole_row : HoleForm → Line
hole_row (hole.Variable kind is_list name) = line Carried 17 SizeAndHeight HOLE_VARIABLE.now
hole_row (hole.Computed kind is_list) = if is_list then line Carried 17 SizeAndHeight HOLE_COMPUTED_LIST.now else line Carried 17 SizeAndHeight HOLE_COMPUTED.now
hole_row (hole.Binder kind name) = line Carried 17 SizeAndHeight HOLE_BINDER.now

abbrev pub group_row : GroupForm → Line
group_row group.List = line Bare 17 Nothing LIST.now
group_row group.Rounds = line Bare 17 Nothing ROUNDS.now
group_row group.Row = line Bare 17 Nothing ROW.now
group_row group.InitDeclarator = line Due 17 Nothing INIT_DECLARATOR.now
group_row group.Initializer = line Due 17 Nothing INITIALIZER.now
group_row group.MemberDeclarator = line Due 17 Nothing MEMBER_DECLARATOR.now
group_row group.Width = line Due 17 Nothing WIDTH.now
group_row group.Members = line Due 17 Nothing MEMBERS.now
group_row group.Enumerators = line Due 17 Nothing ENUMERATORS.now
group_row group.EnumeratorValue = line Due 17 Nothing ENUMERATOR_VALUE.now
group_row group.ElsePart = line Due 17 Nothing ELSE_PART.now
group_row group.MetaElsePart = line Due 17 Nothing META_ELSE_PART.now
group_row (group.Assignment w) = line Due 17 Nothing ASSIGNMENT.now
group_row group.MetaValue = line Due 17 Nothing META_VALUE.now
group_row (group.MetaParam type name) = line Due 17 Nothing META_PARAM.now
group_row (group.Binder kind name) = line Due 17 Nothing BINDER.now
group_row group.Elements = line Due 17 Nothing ELEMENTS.now

-- the row of each form
abbrev pub row : Form → Line
row (form.Exp form) = exp_row form
row form.TypeName = line Declared 17 Size TYPE_NAME.now
row form.Specs = line Declared 17 Nothing SPECS.now
row (form.Spec form) = spec_row form
row form.Member = line Declared 17 Size MEMBER.now
row form.Enumerator = line Due 17 Size ENUMERATOR.now
row (form.Declarator form) = declarator_row form
row (form.Params form) = params_row form
row form.Param = line Declared 17 Size PARAM.now
row (form.Init form) = init_row form
row form.Decl = line Declared 17 Size DECL.now
row (form.Stmt form) = stmt_row form
row (form.Item form) = item_row form
row (form.Id w) = line Due 17 Nothing PART_TOKEN.now
row (form.Literal w) = line Due 17 Size LITERAL.now
row (form.MetaExp form) = meta_exp_row form
row (form.Template form) = template_form_row form
row (form.MetaStmt form) = meta_stmt_row form
row form.MetaBlock = line Due 17 SizeAndHeight META_BLOCK.now
row (form.Local type name) = line Due 17 Size LOCAL.now
row (form.Element form) = element_row form
row (form.Hole form) = hole_row form
row (form.Call number result tail) = line Carried 17 SizeAndHeight CALL.now
row (form.Group form) = group_row form
