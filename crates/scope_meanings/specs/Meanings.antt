-- What the forms of nodes mean to the scopes.
use Rattle.std.specs.Prelude.{Bool, true, false, not, ◌||◌, Option, Some, None}
use Rattle.c_tokens.specs.declared.span.Span.{Span}
use Rattle.c_forms.specs.declared.operators.StorageClass.{StorageClass}
use Rattle.c_forms.specs.declared.operators.StorageClass.TheVariants as storage
use Rattle.c_forms.specs.declared.forms.Form.{Form}
use Rattle.c_forms.specs.declared.forms.Form.TheVariants as form
use Rattle.c_forms.specs.declared.forms.ExpForm.{ExpForm}
use Rattle.c_forms.specs.declared.forms.ExpForm.TheVariants as exp
use Rattle.c_forms.specs.declared.forms.SpecForm.{SpecForm}
use Rattle.c_forms.specs.declared.forms.SpecForm.TheVariants as spec
use Rattle.c_forms.specs.declared.forms.ParamsForm.{ParamsForm}
use Rattle.c_forms.specs.declared.forms.ParamsForm.TheVariants as params
use Rattle.c_forms.specs.declared.forms.StmtForm.{StmtForm}
use Rattle.c_forms.specs.declared.forms.StmtForm.TheVariants as stmt
use Rattle.c_forms.specs.declared.forms.ItemForm.{ItemForm}
use Rattle.c_forms.specs.declared.forms.ItemForm.TheVariants as item
use Rattle.c_forms.specs.declared.forms.GroupForm.{GroupForm}
use Rattle.c_forms.specs.declared.forms.GroupForm.TheVariants as group
use Rattle.c_forms.specs.Forests.{Forest, empty, tree}
use Rattle.c_forms.specs.Rules.{in_first, is_type}
use Rattle.scope_tables.specs.declared.table.WordClass.{WordClass}
use Rattle.scope_tables.specs.declared.table.WordClass.TheVariants.{TypeName, Value}
use Rattle.scope_meanings.specs.declared.meaning.NameUse.{NameUse}
use Rattle.scope_meanings.specs.declared.meaning.NameUse.TheVariants as naming
use Rattle.scope_meanings.specs.declared.meaning.Meaning.{Meaning}
use Rattle.scope_meanings.specs.declared.meaning.Meaning.TheVariants as means
use Rattle.scope_meanings.specs.declared.meaning.Name.{Name}
use Rattle.scope_tables.specs.Frames.{class_named}

-- ---- a form by itself

abbrev pub exp_meaning : ExpForm → Meaning
exp_meaning (exp.Name word) = means.Use word Value
exp_meaning _ = means.Parts

abbrev pub spec_meaning : SpecForm → Meaning
spec_meaning (spec.Typedef word) = means.Use word TypeName
spec_meaning _ = means.Parts

abbrev pub stmt_meaning : StmtForm → Meaning
stmt_meaning stmt.Block = means.Scope
stmt_meaning _ = means.Parts

-- a definition of the macro notation means nothing
abbrev pub item_meaning : ItemForm → Meaning
item_meaning item.Function = means.Function
item_meaning item.Declaration = means.Parts
item_meaning _ = means.Nothing

-- parameters, a block and a call of a macro are each a scope. Placeholders, meta code and templates mean nothing.
abbrev pub meaning : Form → Meaning
meaning (form.Exp f) = exp_meaning f
meaning (form.Spec f) = spec_meaning f
meaning (form.Params f) = means.Scope
meaning (form.Stmt f) = stmt_meaning f
meaning (form.Item f) = item_meaning f
meaning (form.Id word) = means.Identifier word
meaning (form.MetaExp f) = means.Nothing
meaning (form.Template f) = means.Nothing
meaning (form.MetaStmt f) = means.Nothing
meaning form.MetaBlock = means.Nothing
meaning (form.Local type name) = means.Nothing
meaning (form.Element f) = means.Nothing
meaning (form.Hole h) = means.Nothing
meaning (form.Call n gives tail) = means.Scope
meaning _ = means.Parts

-- ---- specifiers

-- a type specifier, a placeholder or a call
abbrev pub has_type : Forest → Bool
has_type empty = false
has_type (tree f s ps rest) = is_type f || has_type rest

abbrev pub is_typedef_class : StorageClass → Bool
is_typedef_class storage.Typedef = true
is_typedef_class _ = false

abbrev pub is_typedef_spec : SpecForm → Bool
is_typedef_spec (spec.Storage class) = is_typedef_class class
is_typedef_spec _ = false

abbrev pub is_typedef : Form → Bool
is_typedef (form.Spec f) = is_typedef_spec f
is_typedef _ = false

abbrev pub has_typedef : Forest → Bool
has_typedef empty = false
has_typedef (tree f s ps rest) = is_typedef f || has_typedef rest

-- ---- names

-- without a type specifier a name must be a value
abbrev pub checked_if : Bool → NameUse
checked_if true = naming.Checked
checked_if false = naming.Nothing

-- inside a declarator its name is not declared yet
abbrev pub at_name : NameUse → NameUse
at_name (naming.Declared class is_checked) = checked_if is_checked
at_name used = used

abbrev pub in_group : GroupForm → NameUse → NameUse
in_group group.List used = used
in_group group.InitDeclarator used = used
in_group group.MemberDeclarator used = used
in_group _ used = naming.Nothing

abbrev pub in_params : ParamsForm → NameUse
in_params params.Ids = naming.Checked
in_params _ = naming.Nothing

abbrev pub in_param : Bool → NameUse
in_param is_typed = naming.Declared Value (not is_typed)

-- What happens at the names in the parts of a node, by its own use. The first part of a declaration holds its specifiers.
abbrev pub inside : Form → NameUse → Forest → NameUse
inside (form.Declarator f) used ps = at_name used
inside (form.Group f) used ps = in_group f used
inside (form.Params f) used ps = in_params f
inside form.Decl used ps = naming.Declared (class_named (has_typedef (in_first ps))) (not (has_type (in_first ps)))
inside form.Member used ps = checked_if (not (has_type (in_first ps)))
inside form.Param used ps = in_param (has_type (in_first ps))
inside _ used ps = naming.Nothing

abbrev pub class_declared : NameUse → Option WordClass
class_declared (naming.Declared class is_checked) = Some class
class_declared _ = None

-- as what a node declares its name after its parts
abbrev pub declares : Form → NameUse → Option WordClass
declares form.Enumerator used = Some Value
declares (form.Declarator f) used = class_declared used
declares _ used = None

abbrev pub or_next : Option Name → Option Name → Option Name
or_next (Some name) next = Some name
or_next None next = next

abbrev pub name_at : Form → Span → Option Name → Option Name
name_at (form.Id word) s inner = Some (record { word = word; span = s })
name_at (form.Declarator f) s inner = inner
name_at _ s inner = None

-- the first identifier among these or in the declarators among them
abbrev pub name_in : Forest → Option Name
name_in empty = None
name_in (tree f s ps rest) = or_next (name_at f s (name_in ps)) (name_in rest)
