-- How sorts are read.
use Rattle.std.specs.Prelude.{Option, Some, None}
use Rattle.c_forms.specs.declared.pieces.Sort.{Sort}
use Rattle.c_forms.specs.declared.pieces.Sort.TheVariants as s
use Rattle.c_forms.specs.declared.forms.Form.{Form}
use Rattle.c_forms.specs.declared.forms.Form.TheVariants as form
use Rattle.c_forms.specs.declared.forms.GroupForm.TheVariants as group
use Rattle.c_reader.specs.Readers.{Reader, Found, Refuse}
use Rattle.c_syntax.specs.Reading.{Parts}
use Rattle.c_syntax.specs.Grammar.{whole}
use Rattle.sort_parser.specs.declared.sorts.Way.{Way}
use Rattle.sort_parser.specs.declared.sorts.Way.TheVariants as way

-- the form as whose node a sort is read, where it is one form's
abbrev pub whole_form : Sort → Option Form
whole_form s.TypeName = Some form.TypeName
whole_form s.Member = Some form.Member
whole_form s.Enumerator = Some form.Enumerator
whole_form s.Param = Some form.Param
whole_form s.Decl = Some form.Decl
whole_form s.InitDeclarator = Some (form.Group group.InitDeclarator)
whole_form s.Initializer = Some (form.Group group.Initializer)
whole_form s.MemberDeclarator = Some (form.Group group.MemberDeclarator)
whole_form s.Width = Some (form.Group group.Width)
whole_form s.Members = Some (form.Group group.Members)
whole_form s.Enumerators = Some (form.Group group.Enumerators)
whole_form s.EnumeratorValue = Some (form.Group group.EnumeratorValue)
whole_form s.ElsePart = Some (form.Group group.ElsePart)
whole_form _ = None

abbrev pub whole_by : Parts → Sort → Option Form → Reader Found
whole_by inner due (Some f) = whole inner due f
whole_by inner due None = Refuse

abbrev pub way_of : Sort → Way
way_of s.Exp = way.Expression
way_of s.Declarator = way.Declarator
way_of s.AbstractDeclarator = way.Declarator
way_of s.ParamDeclarator = way.Declarator
way_of s.MemberName = way.Declarator
way_of s.Spec = way.Specifier
way_of s.PlainSpec = way.Specifier
way_of s.Qualifier = way.Specifier
way_of s.Params = way.Parameters
way_of s.Id = way.Identifier
way_of s.DeclaredId = way.DeclaredIdentifier
way_of s.ParameterId = way.ParameterIdentifier
way_of s.EnumeratorId = way.EnumeratorIdentifier
way_of s.Literal = way.Literal
way_of s.Init = way.Initializer
way_of s.Stmt = way.Statement
way_of s.Block = way.Block
way_of s.BlockItem = way.BlockItem
way_of s.Item = way.External
way_of _ = way.Whole
