-- The tokens that forms hold, and the forms that tokens decide for.
use Rattle.std.specs.Prelude.{Option, Some, None}
use Rattle.c_tokens.specs.declared.token.Key.{Key}
use Rattle.c_tokens.specs.declared.token.Key.TheVariants as the_Key
use Rattle.c_tokens.specs.declared.token.Punct.{Punct}
use Rattle.c_tokens.specs.declared.token.Punct.TheVariants as the_Punct
use Rattle.c_tokens.specs.declared.token.Mark.{Mark}
use Rattle.c_tokens.specs.declared.token.Mark.TheVariants as the_Mark
use Rattle.c_tokens.specs.declared.token.Shape.{Shape}
use Rattle.c_tokens.specs.declared.token.Shape.TheVariants as the_Shape
use Rattle.c_tokens.specs.declared.kind.Kind.{Kind}
use Rattle.c_tokens.specs.declared.kind.Kind.TheVariants as the_Kind
use Rattle.c_forms.specs.declared.operators.UnaryOperator.{UnaryOperator}
use Rattle.c_forms.specs.declared.operators.UnaryOperator.TheVariants as the_UnaryOperator
use Rattle.c_forms.specs.declared.operators.BinaryOperator.{BinaryOperator}
use Rattle.c_forms.specs.declared.operators.BinaryOperator.TheVariants as the_BinaryOperator
use Rattle.c_forms.specs.declared.operators.AssignmentOperator.{AssignmentOperator}
use Rattle.c_forms.specs.declared.operators.AssignmentOperator.TheVariants as the_AssignmentOperator
use Rattle.c_forms.specs.declared.operators.MetaUnaryOperator.{MetaUnaryOperator}
use Rattle.c_forms.specs.declared.operators.MetaUnaryOperator.TheVariants as the_MetaUnaryOperator
use Rattle.c_forms.specs.declared.operators.StorageClass.{StorageClass}
use Rattle.c_forms.specs.declared.operators.StorageClass.TheVariants as the_StorageClass
use Rattle.c_forms.specs.declared.operators.TypeQualifier.{TypeQualifier}
use Rattle.c_forms.specs.declared.operators.TypeQualifier.TheVariants as the_TypeQualifier
use Rattle.c_forms.specs.declared.operators.BasicType.{BasicType}
use Rattle.c_forms.specs.declared.operators.BasicType.TheVariants as the_BasicType
use Rattle.c_forms.specs.declared.operators.StructOrUnion.{StructOrUnion}
use Rattle.c_forms.specs.declared.operators.StructOrUnion.TheVariants as the_StructOrUnion
use Rattle.c_forms.specs.declared.forms.Form.{Form}
use Rattle.c_forms.specs.declared.forms.Form.TheVariants as the_Form
use Rattle.c_forms.specs.declared.forms.ExpForm.{ExpForm}
use Rattle.c_forms.specs.declared.forms.ExpForm.TheVariants as the_ExpForm
use Rattle.c_forms.specs.declared.forms.SpecForm.{SpecForm}
use Rattle.c_forms.specs.declared.forms.SpecForm.TheVariants as the_SpecForm
use Rattle.c_forms.specs.declared.forms.DeclaratorForm.{DeclaratorForm}
use Rattle.c_forms.specs.declared.forms.DeclaratorForm.TheVariants as the_DeclaratorForm
use Rattle.c_forms.specs.declared.forms.InitForm.{InitForm}
use Rattle.c_forms.specs.declared.forms.InitForm.TheVariants as the_InitForm
use Rattle.c_forms.specs.declared.forms.StmtForm.{StmtForm}
use Rattle.c_forms.specs.declared.forms.StmtForm.TheVariants as the_StmtForm
use Rattle.c_forms.specs.declared.forms.ItemForm.{ItemForm}
use Rattle.c_forms.specs.declared.forms.ItemForm.TheVariants as the_ItemForm
use Rattle.c_forms.specs.declared.forms.MetaExpForm.{MetaExpForm}
use Rattle.c_forms.specs.declared.forms.MetaExpForm.TheVariants as the_MetaExpForm
use Rattle.c_forms.specs.declared.forms.TemplateForm.{TemplateForm}
use Rattle.c_forms.specs.declared.forms.TemplateForm.TheVariants as the_TemplateForm
use Rattle.c_forms.specs.declared.forms.MetaStmtForm.{MetaStmtForm}
use Rattle.c_forms.specs.declared.forms.MetaStmtForm.TheVariants as the_MetaStmtForm
use Rattle.c_forms.specs.declared.forms.ElementForm.{ElementForm}
use Rattle.c_forms.specs.declared.forms.ElementForm.TheVariants as the_ElementForm
use Rattle.c_forms.specs.declared.forms.HoleForm.{HoleForm}
use Rattle.c_forms.specs.declared.forms.HoleForm.TheVariants as the_HoleForm
use Rattle.c_forms.specs.declared.forms.GroupForm.{GroupForm}
use Rattle.c_forms.specs.declared.forms.GroupForm.TheVariants as the_GroupForm
use Rattle.c_forms.specs.declared.pieces.Sort.{Sort}
use Rattle.c_forms.specs.declared.pieces.Sort.TheVariants as the_Sort

abbrev pub map_option : {A B : Type 0} → (A → B) → Option A → Option B
map_option f None = None
map_option f (Some x) = Some (f x)

abbrev pub unary_token : UnaryOperator → Punct
unary_token the_UnaryOperator.Address = the_Punct.Ampersand
unary_token the_UnaryOperator.Dereference = the_Punct.Star
unary_token the_UnaryOperator.Plus = the_Punct.Plus
unary_token the_UnaryOperator.Minus = the_Punct.Minus
unary_token the_UnaryOperator.Complement = the_Punct.Tilde
unary_token the_UnaryOperator.Not = the_Punct.Exclamation

abbrev pub binary_token : BinaryOperator → Punct
binary_token the_BinaryOperator.LogicalOr = the_Punct.BarBar
binary_token the_BinaryOperator.LogicalAnd = the_Punct.AmpersandAmpersand
binary_token the_BinaryOperator.BitOr = the_Punct.Bar
binary_token the_BinaryOperator.BitXor = the_Punct.Caret
binary_token the_BinaryOperator.BitAnd = the_Punct.Ampersand
binary_token the_BinaryOperator.Equal = the_Punct.EqualEqual
binary_token the_BinaryOperator.NotEqual = the_Punct.NotEqual
binary_token the_BinaryOperator.Less = the_Punct.Less
binary_token the_BinaryOperator.Greater = the_Punct.Greater
binary_token the_BinaryOperator.LessEqual = the_Punct.LessEqual
binary_token the_BinaryOperator.GreaterEqual = the_Punct.GreaterEqual
binary_token the_BinaryOperator.ShiftLeft = the_Punct.ShiftLeft
binary_token the_BinaryOperator.ShiftRight = the_Punct.ShiftRight
binary_token the_BinaryOperator.Add = the_Punct.Plus
binary_token the_BinaryOperator.Subtract = the_Punct.Minus
binary_token the_BinaryOperator.Multiply = the_Punct.Star
binary_token the_BinaryOperator.Divide = the_Punct.Slash
binary_token the_BinaryOperator.Remainder = the_Punct.Percent

abbrev pub assignment_token : AssignmentOperator → Punct
assignment_token the_AssignmentOperator.Assign = the_Punct.Equal
assignment_token the_AssignmentOperator.Multiply = the_Punct.StarEqual
assignment_token the_AssignmentOperator.Divide = the_Punct.SlashEqual
assignment_token the_AssignmentOperator.Remainder = the_Punct.PercentEqual
assignment_token the_AssignmentOperator.Add = the_Punct.PlusEqual
assignment_token the_AssignmentOperator.Subtract = the_Punct.MinusEqual
assignment_token the_AssignmentOperator.ShiftLeft = the_Punct.ShiftLeftEqual
assignment_token the_AssignmentOperator.ShiftRight = the_Punct.ShiftRightEqual
assignment_token the_AssignmentOperator.BitAnd = the_Punct.AmpersandEqual
assignment_token the_AssignmentOperator.BitXor = the_Punct.CaretEqual
assignment_token the_AssignmentOperator.BitOr = the_Punct.BarEqual

abbrev pub meta_unary_token : MetaUnaryOperator → Punct
meta_unary_token the_MetaUnaryOperator.Plus = the_Punct.Plus
meta_unary_token the_MetaUnaryOperator.Minus = the_Punct.Minus
meta_unary_token the_MetaUnaryOperator.Complement = the_Punct.Tilde
meta_unary_token the_MetaUnaryOperator.Not = the_Punct.Exclamation

abbrev pub storage_token : StorageClass → Key
storage_token the_StorageClass.Typedef = the_Key.Typedef
storage_token the_StorageClass.Extern = the_Key.Extern
storage_token the_StorageClass.Static = the_Key.Static
storage_token the_StorageClass.Auto = the_Key.Auto
storage_token the_StorageClass.Register = the_Key.Register

abbrev pub qualifier_token : TypeQualifier → Key
qualifier_token the_TypeQualifier.Const = the_Key.Const
qualifier_token the_TypeQualifier.Volatile = the_Key.Volatile

abbrev pub basic_token : BasicType → Key
basic_token the_BasicType.Void = the_Key.Void
basic_token the_BasicType.Char = the_Key.Char
basic_token the_BasicType.Short = the_Key.Short
basic_token the_BasicType.Int = the_Key.Int
basic_token the_BasicType.Long = the_Key.Long
basic_token the_BasicType.Float = the_Key.Float
basic_token the_BasicType.Double = the_Key.Double
basic_token the_BasicType.Signed = the_Key.Signed
basic_token the_BasicType.Unsigned = the_Key.Unsigned

abbrev pub group_token : StructOrUnion → Key
group_token the_StructOrUnion.Struct = the_Key.Struct
group_token the_StructOrUnion.Union = the_Key.Union

abbrev pub kind_token : Kind → Mark
kind_token the_Kind.Id = the_Mark.Id
kind_token the_Kind.Num = the_Mark.Num
kind_token the_Kind.Exp = the_Mark.Exp
kind_token the_Kind.Stmt = the_Mark.Stmt
kind_token the_Kind.Decl = the_Mark.Decl
kind_token the_Kind.Item = the_Mark.Item
kind_token the_Kind.Spec = the_Mark.Spec
kind_token the_Kind.Param = the_Mark.Param
kind_token the_Kind.Member = the_Mark.Member

abbrev pub template_token : Kind → Mark
template_token the_Kind.Id = the_Mark.QuoteId
template_token the_Kind.Num = the_Mark.QuoteNum
template_token the_Kind.Exp = the_Mark.QuoteExp
template_token the_Kind.Stmt = the_Mark.QuoteStmt
template_token the_Kind.Decl = the_Mark.QuoteDecl
template_token the_Kind.Item = the_Mark.QuoteItem
template_token the_Kind.Spec = the_Mark.QuoteSpec
template_token the_Kind.Param = the_Mark.QuoteParam
template_token the_Kind.Member = the_Mark.QuoteMember

abbrev pub held_by_exp : ExpForm → Option Shape
held_by_exp (the_ExpForm.Name w) = Some (the_Shape.Word w)
held_by_exp (the_ExpForm.Int w) = Some (the_Shape.Int w)
held_by_exp (the_ExpForm.Float w) = Some (the_Shape.Float w)
held_by_exp (the_ExpForm.Char w) = Some (the_Shape.Char w)
held_by_exp (the_ExpForm.Unary o) = Some (the_Shape.Punct (unary_token o))
held_by_exp (the_ExpForm.Binary o) = Some (the_Shape.Punct (binary_token o))
held_by_exp (the_ExpForm.Assign o) = Some (the_Shape.Punct (assignment_token o))
held_by_exp _ = None

abbrev pub held_by_spec : SpecForm → Option Shape
held_by_spec (the_SpecForm.Storage o) = Some (the_Shape.Key (storage_token o))
held_by_spec (the_SpecForm.Qualifier o) = Some (the_Shape.Key (qualifier_token o))
held_by_spec (the_SpecForm.Basic o) = Some (the_Shape.Key (basic_token o))
held_by_spec (the_SpecForm.Typedef w) = Some (the_Shape.Word w)
held_by_spec (the_SpecForm.StructOf o) = Some (the_Shape.Key (group_token o))
held_by_spec _ = None

abbrev pub held_by_item : ItemForm → Option Shape
held_by_item (the_ItemForm.Syntax gives name) = Some (the_Shape.Word name)
held_by_item (the_ItemForm.MetaFunction gives name) = Some (the_Shape.Word name)
held_by_item (the_ItemForm.MetaVariable type name) = Some (the_Shape.Word name)
held_by_item _ = None

abbrev pub held_by_meta_exp : MetaExpForm → Option Shape
held_by_meta_exp (the_MetaExpForm.Int w) = Some (the_Shape.Int w)
held_by_meta_exp (the_MetaExpForm.Text w) = Some (the_Shape.Str w)
held_by_meta_exp (the_MetaExpForm.Variable w) = Some (the_Shape.Word w)
held_by_meta_exp (the_MetaExpForm.Unary o) = Some (the_Shape.Punct (meta_unary_token o))
held_by_meta_exp (the_MetaExpForm.Binary o) = Some (the_Shape.Punct (binary_token o))
held_by_meta_exp (the_MetaExpForm.Named w) = Some (the_Shape.Word w)
held_by_meta_exp _ = None

abbrev pub held_by_template : TemplateForm → Option Shape
held_by_template (the_TemplateForm.One o) = Some (the_Shape.Mark (template_token o))
held_by_template (the_TemplateForm.Many o) = Some (the_Shape.Mark (template_token o))
held_by_template _ = None

abbrev pub held_by_meta_stmt : MetaStmtForm → Option Shape
held_by_meta_stmt (the_MetaStmtForm.Set w) = Some (the_Shape.Word w)
held_by_meta_stmt _ = None

abbrev pub held_by_element : ElementForm → Option Shape
held_by_element (the_ElementForm.Literal t) = Some t
held_by_element (the_ElementForm.OneOrMoreBetween t) = Some t
held_by_element (the_ElementForm.ZeroOrMoreBetween t) = Some t
held_by_element (the_ElementForm.Maybe t) = Some t
held_by_element _ = None

abbrev pub held_by_hole : HoleForm → Option Shape
held_by_hole (the_HoleForm.Variable k is_list name) = Some (the_Shape.Word name)
held_by_hole (the_HoleForm.Computed k is_list) = Some (the_Shape.Mark (kind_token k))
held_by_hole (the_HoleForm.Binder k name) = Some (the_Shape.Word name)

abbrev pub held_by_group : GroupForm → Option Shape
held_by_group (the_GroupForm.Assignment w) = Some (the_Shape.Word w)
held_by_group (the_GroupForm.MetaParam type name) = Some (the_Shape.Word name)
held_by_group (the_GroupForm.Binder k name) = Some (the_Shape.Word name)
held_by_group _ = None

-- the token that a form holds
abbrev pub held : Form → Option Shape
held (the_Form.Exp f) = held_by_exp f
held (the_Form.Spec f) = held_by_spec f
held (the_Form.Item f) = held_by_item f
held (the_Form.Id w) = Some (the_Shape.Word w)
held (the_Form.Literal w) = Some (the_Shape.Str w)
held (the_Form.MetaExp f) = held_by_meta_exp f
held (the_Form.Template f) = held_by_template f
held (the_Form.MetaStmt f) = held_by_meta_stmt f
held (the_Form.Local type name) = Some (the_Shape.Word name)
held (the_Form.Element f) = held_by_element f
held (the_Form.Hole f) = held_by_hole f
held (the_Form.Group f) = held_by_group f
held _ = None

abbrev pub exp_of_punct : Punct → Option ExpForm
exp_of_punct the_Punct.Ampersand = Some (the_ExpForm.Unary the_UnaryOperator.Address)
exp_of_punct the_Punct.Star = Some (the_ExpForm.Unary the_UnaryOperator.Dereference)
exp_of_punct the_Punct.Plus = Some (the_ExpForm.Unary the_UnaryOperator.Plus)
exp_of_punct the_Punct.Minus = Some (the_ExpForm.Unary the_UnaryOperator.Minus)
exp_of_punct the_Punct.Tilde = Some (the_ExpForm.Unary the_UnaryOperator.Complement)
exp_of_punct the_Punct.Exclamation = Some (the_ExpForm.Unary the_UnaryOperator.Not)
exp_of_punct the_Punct.PlusPlus = Some the_ExpForm.PreInc
exp_of_punct the_Punct.MinusMinus = Some the_ExpForm.PreDec
exp_of_punct _ = None

abbrev pub exp_of_key : Key → Option ExpForm
exp_of_key the_Key.Sizeof = Some the_ExpForm.SizeofExp
exp_of_key _ = None

abbrev pub exp_begun : Shape → Option ExpForm
exp_begun (the_Shape.Word w) = Some (the_ExpForm.Name w)
exp_begun (the_Shape.Int w) = Some (the_ExpForm.Int w)
exp_begun (the_Shape.Float w) = Some (the_ExpForm.Float w)
exp_begun (the_Shape.Char w) = Some (the_ExpForm.Char w)
exp_begun (the_Shape.Str w) = Some the_ExpForm.Str
exp_begun (the_Shape.Punct x) = exp_of_punct x
exp_begun (the_Shape.Key x) = exp_of_key x
exp_begun _ = None

abbrev pub exp_continued : Punct → Option ExpForm
exp_continued the_Punct.BarBar = Some (the_ExpForm.Binary the_BinaryOperator.LogicalOr)
exp_continued the_Punct.AmpersandAmpersand = Some (the_ExpForm.Binary the_BinaryOperator.LogicalAnd)
exp_continued the_Punct.Bar = Some (the_ExpForm.Binary the_BinaryOperator.BitOr)
exp_continued the_Punct.Caret = Some (the_ExpForm.Binary the_BinaryOperator.BitXor)
exp_continued the_Punct.Ampersand = Some (the_ExpForm.Binary the_BinaryOperator.BitAnd)
exp_continued the_Punct.EqualEqual = Some (the_ExpForm.Binary the_BinaryOperator.Equal)
exp_continued the_Punct.NotEqual = Some (the_ExpForm.Binary the_BinaryOperator.NotEqual)
exp_continued the_Punct.Less = Some (the_ExpForm.Binary the_BinaryOperator.Less)
exp_continued the_Punct.Greater = Some (the_ExpForm.Binary the_BinaryOperator.Greater)
exp_continued the_Punct.LessEqual = Some (the_ExpForm.Binary the_BinaryOperator.LessEqual)
exp_continued the_Punct.GreaterEqual = Some (the_ExpForm.Binary the_BinaryOperator.GreaterEqual)
exp_continued the_Punct.ShiftLeft = Some (the_ExpForm.Binary the_BinaryOperator.ShiftLeft)
exp_continued the_Punct.ShiftRight = Some (the_ExpForm.Binary the_BinaryOperator.ShiftRight)
exp_continued the_Punct.Plus = Some (the_ExpForm.Binary the_BinaryOperator.Add)
exp_continued the_Punct.Minus = Some (the_ExpForm.Binary the_BinaryOperator.Subtract)
exp_continued the_Punct.Star = Some (the_ExpForm.Binary the_BinaryOperator.Multiply)
exp_continued the_Punct.Slash = Some (the_ExpForm.Binary the_BinaryOperator.Divide)
exp_continued the_Punct.Percent = Some (the_ExpForm.Binary the_BinaryOperator.Remainder)
exp_continued the_Punct.Equal = Some (the_ExpForm.Assign the_AssignmentOperator.Assign)
exp_continued the_Punct.StarEqual = Some (the_ExpForm.Assign the_AssignmentOperator.Multiply)
exp_continued the_Punct.SlashEqual = Some (the_ExpForm.Assign the_AssignmentOperator.Divide)
exp_continued the_Punct.PercentEqual = Some (the_ExpForm.Assign the_AssignmentOperator.Remainder)
exp_continued the_Punct.PlusEqual = Some (the_ExpForm.Assign the_AssignmentOperator.Add)
exp_continued the_Punct.MinusEqual = Some (the_ExpForm.Assign the_AssignmentOperator.Subtract)
exp_continued the_Punct.ShiftLeftEqual = Some (the_ExpForm.Assign the_AssignmentOperator.ShiftLeft)
exp_continued the_Punct.ShiftRightEqual = Some (the_ExpForm.Assign the_AssignmentOperator.ShiftRight)
exp_continued the_Punct.AmpersandEqual = Some (the_ExpForm.Assign the_AssignmentOperator.BitAnd)
exp_continued the_Punct.CaretEqual = Some (the_ExpForm.Assign the_AssignmentOperator.BitXor)
exp_continued the_Punct.BarEqual = Some (the_ExpForm.Assign the_AssignmentOperator.BitOr)
exp_continued the_Punct.Comma = Some the_ExpForm.Comma
exp_continued the_Punct.Question = Some the_ExpForm.Conditional
exp_continued the_Punct.LeftBracket = Some the_ExpForm.Index
exp_continued the_Punct.LeftParen = Some the_ExpForm.Apply
exp_continued the_Punct.Dot = Some the_ExpForm.Field
exp_continued the_Punct.Arrow = Some the_ExpForm.Arrow
exp_continued the_Punct.PlusPlus = Some the_ExpForm.PostInc
exp_continued the_Punct.MinusMinus = Some the_ExpForm.PostDec
exp_continued _ = None

abbrev pub spec_begun : Key → Option SpecForm
spec_begun the_Key.Typedef = Some (the_SpecForm.Storage the_StorageClass.Typedef)
spec_begun the_Key.Extern = Some (the_SpecForm.Storage the_StorageClass.Extern)
spec_begun the_Key.Static = Some (the_SpecForm.Storage the_StorageClass.Static)
spec_begun the_Key.Auto = Some (the_SpecForm.Storage the_StorageClass.Auto)
spec_begun the_Key.Register = Some (the_SpecForm.Storage the_StorageClass.Register)
spec_begun the_Key.Const = Some (the_SpecForm.Qualifier the_TypeQualifier.Const)
spec_begun the_Key.Volatile = Some (the_SpecForm.Qualifier the_TypeQualifier.Volatile)
spec_begun the_Key.Void = Some (the_SpecForm.Basic the_BasicType.Void)
spec_begun the_Key.Char = Some (the_SpecForm.Basic the_BasicType.Char)
spec_begun the_Key.Short = Some (the_SpecForm.Basic the_BasicType.Short)
spec_begun the_Key.Int = Some (the_SpecForm.Basic the_BasicType.Int)
spec_begun the_Key.Long = Some (the_SpecForm.Basic the_BasicType.Long)
spec_begun the_Key.Float = Some (the_SpecForm.Basic the_BasicType.Float)
spec_begun the_Key.Double = Some (the_SpecForm.Basic the_BasicType.Double)
spec_begun the_Key.Signed = Some (the_SpecForm.Basic the_BasicType.Signed)
spec_begun the_Key.Unsigned = Some (the_SpecForm.Basic the_BasicType.Unsigned)
spec_begun the_Key.Struct = Some (the_SpecForm.StructOf the_StructOrUnion.Struct)
spec_begun the_Key.Union = Some (the_SpecForm.StructOf the_StructOrUnion.Union)
spec_begun the_Key.Enum = Some the_SpecForm.EnumOf
spec_begun _ = None

abbrev pub declarator_continued : Punct → Option DeclaratorForm
declarator_continued the_Punct.LeftBracket = Some the_DeclaratorForm.ArrayOf
declarator_continued the_Punct.LeftParen = Some the_DeclaratorForm.FunctionOf
declarator_continued _ = None

abbrev pub stmt_of_key : Key → Option StmtForm
stmt_of_key the_Key.Case = Some the_StmtForm.Case
stmt_of_key the_Key.Default = Some the_StmtForm.Default
stmt_of_key the_Key.If = Some the_StmtForm.If
stmt_of_key the_Key.Switch = Some the_StmtForm.Switch
stmt_of_key the_Key.While = Some the_StmtForm.While
stmt_of_key the_Key.Do = Some the_StmtForm.Do
stmt_of_key the_Key.For = Some the_StmtForm.For
stmt_of_key the_Key.Goto = Some the_StmtForm.Goto
stmt_of_key the_Key.Continue = Some the_StmtForm.Continue
stmt_of_key the_Key.Break = Some the_StmtForm.Break
stmt_of_key the_Key.Return = Some the_StmtForm.Return
stmt_of_key _ = None

abbrev pub stmt_of_punct : Punct → Option StmtForm
stmt_of_punct the_Punct.Semicolon = Some the_StmtForm.Empty
stmt_of_punct the_Punct.LeftBrace = Some the_StmtForm.Block
stmt_of_punct _ = None

abbrev pub stmt_begun : Shape → Option StmtForm
stmt_begun (the_Shape.Key x) = stmt_of_key x
stmt_begun (the_Shape.Punct x) = stmt_of_punct x
stmt_begun _ = None

abbrev pub meta_exp_of_punct : Punct → Option MetaExpForm
meta_exp_of_punct the_Punct.Plus = Some (the_MetaExpForm.Unary the_MetaUnaryOperator.Plus)
meta_exp_of_punct the_Punct.Minus = Some (the_MetaExpForm.Unary the_MetaUnaryOperator.Minus)
meta_exp_of_punct the_Punct.Tilde = Some (the_MetaExpForm.Unary the_MetaUnaryOperator.Complement)
meta_exp_of_punct the_Punct.Exclamation = Some (the_MetaExpForm.Unary the_MetaUnaryOperator.Not)
meta_exp_of_punct _ = None

abbrev pub meta_exp_begun : Shape → Option MetaExpForm
meta_exp_begun (the_Shape.Int w) = Some (the_MetaExpForm.Int w)
meta_exp_begun (the_Shape.Str w) = Some (the_MetaExpForm.Text w)
meta_exp_begun (the_Shape.Word w) = Some (the_MetaExpForm.Variable w)
meta_exp_begun (the_Shape.Punct x) = meta_exp_of_punct x
meta_exp_begun _ = None

abbrev pub meta_exp_continued : Punct → Option MetaExpForm
meta_exp_continued the_Punct.BarBar = Some (the_MetaExpForm.Binary the_BinaryOperator.LogicalOr)
meta_exp_continued the_Punct.AmpersandAmpersand = Some (the_MetaExpForm.Binary the_BinaryOperator.LogicalAnd)
meta_exp_continued the_Punct.Bar = Some (the_MetaExpForm.Binary the_BinaryOperator.BitOr)
meta_exp_continued the_Punct.Caret = Some (the_MetaExpForm.Binary the_BinaryOperator.BitXor)
meta_exp_continued the_Punct.Ampersand = Some (the_MetaExpForm.Binary the_BinaryOperator.BitAnd)
meta_exp_continued the_Punct.EqualEqual = Some (the_MetaExpForm.Binary the_BinaryOperator.Equal)
meta_exp_continued the_Punct.NotEqual = Some (the_MetaExpForm.Binary the_BinaryOperator.NotEqual)
meta_exp_continued the_Punct.Less = Some (the_MetaExpForm.Binary the_BinaryOperator.Less)
meta_exp_continued the_Punct.Greater = Some (the_MetaExpForm.Binary the_BinaryOperator.Greater)
meta_exp_continued the_Punct.LessEqual = Some (the_MetaExpForm.Binary the_BinaryOperator.LessEqual)
meta_exp_continued the_Punct.GreaterEqual = Some (the_MetaExpForm.Binary the_BinaryOperator.GreaterEqual)
meta_exp_continued the_Punct.ShiftLeft = Some (the_MetaExpForm.Binary the_BinaryOperator.ShiftLeft)
meta_exp_continued the_Punct.ShiftRight = Some (the_MetaExpForm.Binary the_BinaryOperator.ShiftRight)
meta_exp_continued the_Punct.Plus = Some (the_MetaExpForm.Binary the_BinaryOperator.Add)
meta_exp_continued the_Punct.Minus = Some (the_MetaExpForm.Binary the_BinaryOperator.Subtract)
meta_exp_continued the_Punct.Star = Some (the_MetaExpForm.Binary the_BinaryOperator.Multiply)
meta_exp_continued the_Punct.Slash = Some (the_MetaExpForm.Binary the_BinaryOperator.Divide)
meta_exp_continued the_Punct.Percent = Some (the_MetaExpForm.Binary the_BinaryOperator.Remainder)
meta_exp_continued the_Punct.Question = Some the_MetaExpForm.Choose
meta_exp_continued _ = None

abbrev pub meta_stmt_of_key : Key → Option MetaStmtForm
meta_stmt_of_key the_Key.If = Some the_MetaStmtForm.If
meta_stmt_of_key the_Key.While = Some the_MetaStmtForm.While
meta_stmt_of_key the_Key.Do = Some the_MetaStmtForm.Do
meta_stmt_of_key the_Key.For = Some the_MetaStmtForm.For
meta_stmt_of_key the_Key.Break = Some the_MetaStmtForm.Break
meta_stmt_of_key the_Key.Continue = Some the_MetaStmtForm.Continue
meta_stmt_of_key the_Key.Return = Some the_MetaStmtForm.Return
meta_stmt_of_key _ = None

abbrev pub meta_stmt_of_punct : Punct → Option MetaStmtForm
meta_stmt_of_punct the_Punct.Semicolon = Some the_MetaStmtForm.Empty
meta_stmt_of_punct _ = None

abbrev pub meta_stmt_of_mark : Mark → Option MetaStmtForm
meta_stmt_of_mark the_Mark.Match = Some the_MetaStmtForm.Match
meta_stmt_of_mark _ = None

abbrev pub meta_stmt_begun : Shape → Option MetaStmtForm
meta_stmt_begun (the_Shape.Key x) = meta_stmt_of_key x
meta_stmt_begun (the_Shape.Punct x) = meta_stmt_of_punct x
meta_stmt_begun (the_Shape.Mark x) = meta_stmt_of_mark x
meta_stmt_begun _ = None

abbrev pub template_begun : Mark → Option TemplateForm
template_begun the_Mark.QuoteParen = Some the_TemplateForm.Parens
template_begun the_Mark.QuoteBrace = Some the_TemplateForm.Braces
template_begun _ = None

abbrev pub element_of_mark : Mark → Option ElementForm
element_of_mark the_Mark.Bind = Some the_ElementForm.Bind
element_of_mark the_Mark.OneOrMore = Some the_ElementForm.OneOrMore
element_of_mark the_Mark.ZeroOrMore = Some the_ElementForm.ZeroOrMore
element_of_mark _ = None

abbrev pub element_begun : Shape → Option ElementForm
element_begun (the_Shape.Key x) = Some (the_ElementForm.Literal (the_Shape.Key x))
element_begun (the_Shape.Punct x) = Some (the_ElementForm.Literal (the_Shape.Punct x))
element_begun (the_Shape.Word w) = Some (the_ElementForm.Literal (the_Shape.Word w))
element_begun (the_Shape.Mark x) = element_of_mark x
element_begun _ = None

abbrev pub spec_of_shape : Shape → Option SpecForm
spec_of_shape (the_Shape.Key x) = spec_begun x
spec_of_shape _ = None

abbrev pub declarator_of_punct : Punct → Option DeclaratorForm
declarator_of_punct the_Punct.Star = Some the_DeclaratorForm.Pointer
declarator_of_punct _ = None

abbrev pub declarator_begun : Shape → Option DeclaratorForm
declarator_begun (the_Shape.Punct x) = declarator_of_punct x
declarator_begun _ = None

abbrev pub init_of_punct : Punct → Option InitForm
init_of_punct the_Punct.LeftBrace = Some the_InitForm.Braces
init_of_punct _ = None

abbrev pub init_begun : Shape → Option InitForm
init_begun (the_Shape.Punct x) = init_of_punct x
init_begun _ = None

abbrev pub template_of_shape : Shape → Option TemplateForm
template_of_shape (the_Shape.Mark x) = template_begun x
template_of_shape _ = None

-- the form of a sort that begins with a token, where the token alone decides
abbrev pub begun : Sort → Shape → Option Form
begun the_Sort.Exp t = map_option the_Form.Exp (exp_begun t)
begun the_Sort.Spec t = map_option the_Form.Spec (spec_of_shape t)
begun the_Sort.PlainSpec t = map_option the_Form.Spec (spec_of_shape t)
begun the_Sort.Qualifier t = map_option the_Form.Spec (spec_of_shape t)
begun the_Sort.Declarator t = map_option the_Form.Declarator (declarator_begun t)
begun the_Sort.AbstractDeclarator t = map_option the_Form.Declarator (declarator_begun t)
begun the_Sort.ParamDeclarator t = map_option the_Form.Declarator (declarator_begun t)
begun the_Sort.MemberName t = map_option the_Form.Declarator (declarator_begun t)
begun the_Sort.InnerDeclarator t = map_option the_Form.Declarator (declarator_begun t)
begun the_Sort.Init t = map_option the_Form.Init (init_begun t)
begun the_Sort.Stmt t = map_option the_Form.Stmt (stmt_begun t)
begun the_Sort.Block t = map_option the_Form.Stmt (stmt_begun t)
begun the_Sort.BlockItem t = map_option the_Form.Stmt (stmt_begun t)
begun the_Sort.MetaExp t = map_option the_Form.MetaExp (meta_exp_begun t)
begun the_Sort.MetaStmt t = map_option the_Form.MetaStmt (meta_stmt_begun t)
begun the_Sort.Template t = map_option the_Form.Template (template_of_shape t)
begun the_Sort.Shape t = map_option the_Form.Template (template_of_shape t)
begun the_Sort.Element t = map_option the_Form.Element (element_begun t)
begun _ t = None

-- the form of a sort with levels that goes on with a punctuator after its first part
abbrev pub continued : Sort → Punct → Option Form
continued the_Sort.Exp p = map_option the_Form.Exp (exp_continued p)
continued the_Sort.MetaExp p = map_option the_Form.MetaExp (meta_exp_continued p)
continued the_Sort.Declarator p = map_option the_Form.Declarator (declarator_continued p)
continued the_Sort.AbstractDeclarator p = map_option the_Form.Declarator (declarator_continued p)
continued the_Sort.ParamDeclarator p = map_option the_Form.Declarator (declarator_continued p)
continued the_Sort.MemberName p = map_option the_Form.Declarator (declarator_continued p)
continued the_Sort.InnerDeclarator p = map_option the_Form.Declarator (declarator_continued p)
continued _ p = None
