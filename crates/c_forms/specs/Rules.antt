-- The rules beside the table: what the parts of a node must be besides the pieces of its row.
use Rattle.std.specs.Prelude.{ℕ, Bool, true, false, not, ◌&&◌, ◌||◌, ◌+◌, nat_lt, nat_eq, Option, Some, None, if◌then◌else◌}
use Rattle.c_tokens.specs.declared.kind.Kind.{Kind}
use Rattle.c_tokens.specs.declared.kind.Kind.TheVariants as kind
use Rattle.c_tokens.specs.declared.kind.Base.{Base}
use Rattle.c_tokens.specs.declared.kind.Base.TheVariants as base
use Rattle.c_tokens.specs.declared.kind.MetaType.{MetaType}
use Rattle.c_tokens.specs.declared.token.Shape.{Shape}
use Rattle.c_tokens.specs.declared.token.Shape.TheVariants as shape
use Rattle.c_tokens.specs.Kinds.{is_same_kind}
use Rattle.c_forms.specs.declared.forms.Form.{Form}
use Rattle.c_forms.specs.declared.forms.Form.TheVariants as form
use Rattle.c_forms.specs.declared.forms.SpecForm.{SpecForm}
use Rattle.c_forms.specs.declared.forms.SpecForm.TheVariants as spec
use Rattle.c_forms.specs.declared.forms.DeclaratorForm.{DeclaratorForm}
use Rattle.c_forms.specs.declared.forms.DeclaratorForm.TheVariants as declarator
use Rattle.c_forms.specs.declared.forms.ParamsForm.TheVariants as params
use Rattle.c_forms.specs.declared.forms.StmtForm.{StmtForm}
use Rattle.c_forms.specs.declared.forms.StmtForm.TheVariants as stmt
use Rattle.c_forms.specs.declared.forms.ItemForm.{ItemForm}
use Rattle.c_forms.specs.declared.forms.ItemForm.TheVariants as item
use Rattle.c_forms.specs.declared.forms.MetaStmtForm.{MetaStmtForm}
use Rattle.c_forms.specs.declared.forms.MetaStmtForm.TheVariants as metastmt
use Rattle.c_forms.specs.declared.forms.TemplateForm.{TemplateForm}
use Rattle.c_forms.specs.declared.forms.TemplateForm.TheVariants as template
use Rattle.c_forms.specs.declared.forms.ElementForm.{ElementForm}
use Rattle.c_forms.specs.declared.forms.ElementForm.TheVariants as element
use Rattle.c_forms.specs.declared.forms.GroupForm.{GroupForm}
use Rattle.c_forms.specs.declared.forms.GroupForm.TheVariants as group
use Rattle.c_forms.specs.declared.places.Occupant.{Occupant}
use Rattle.c_forms.specs.declared.places.Occupant.TheVariants as what
use Rattle.c_forms.specs.declared.rules.Rule.{Rule}
use Rattle.c_forms.specs.declared.rules.Rule.TheVariants.{Parts, SoleType, NoType, TagOrBody, NameOrWidth, NoName, Name, AbstractIds, NoFunction, OpenPart, LateDeclaration, MetaType as MetaTypeRule, PatternToken}
use Rattle.c_forms.specs.Forests.{Forest, empty, tree}
use Rattle.c_forms.specs.Opens.{last_opens}
use Rattle.c_forms.specs.Measures.{ends_as_last_part, pieces}
use Rattle.c_forms.specs.Places.{occupant_of}
use Rattle.c_forms.specs.Fits.{fits}

-- ---- parts

abbrev pub is_none : Forest → Bool
is_none empty = true
is_none (tree f s ps rest) = false

-- the parts of the first
abbrev pub in_first : Forest → Forest
in_first empty = empty
in_first (tree f s ps rest) = ps

abbrev pub after_first : Forest → Forest
after_first empty = empty
after_first (tree f s ps rest) = rest

-- ---- specifiers

-- a type specifier; a placeholder and a call are each one
abbrev pub is_type_spec : SpecForm → Bool
is_type_spec (spec.Storage c) = false
is_type_spec (spec.Qualifier q) = false
is_type_spec _ = true

abbrev pub is_type : Form → Bool
is_type (form.Spec f) = is_type_spec f
is_type (form.Hole h) = true
is_type (form.Call n gives tail) = true
is_type _ = false

-- one that allows no other
abbrev pub is_sole_spec : SpecForm → Bool
is_sole_spec (spec.Typedef w) = true
is_sole_spec (spec.StructOf k) = true
is_sole_spec spec.EnumOf = true
is_sole_spec _ = false

abbrev pub is_sole : Form → Bool
is_sole (form.Spec f) = is_sole_spec f
is_sole (form.Hole h) = true
is_sole (form.Call n gives tail) = true
is_sole _ = false

abbrev pub one_if : Bool → ℕ
one_if true = 1
one_if false = 0

-- how many type specifiers a list has
abbrev pub types : Forest → ℕ
types empty = 0
types (tree f s ps rest) = one_if (is_type f) + types rest

abbrev pub has_sole : Forest → Bool
has_sole empty = false
has_sole (tree f s ps rest) = is_sole f || has_sole rest

abbrev pub are_specifiers : Forest → Bool
are_specifiers specs = not (has_sole specs) || nat_lt (types specs) 2

-- ---- declarators

abbrev pub is_absent : Forest → Bool
is_absent (tree (form.Declarator declarator.Absent) s ps rest) = true
is_absent _ = false

abbrev pub is_name : Forest → Bool
is_name (tree (form.Declarator declarator.Named) s ps rest) = true
is_name _ = false

abbrev pub named_by : DeclaratorForm → Bool → Bool
named_by declarator.Named inside = true
named_by declarator.Absent inside = false
named_by _ inside = inside

abbrev pub named_at : Form → Bool → Bool
named_at (form.Declarator f) inside = named_by f inside
named_at _ inside = false

-- whether one of these is a declarator with a name
abbrev pub names : Forest → Bool
names empty = false
names (tree f s ps rest) = named_at f (names ps) || names rest

abbrev pub function_by : DeclaratorForm → Bool → Bool → Bool
function_by declarator.Named next inside = false
function_by declarator.Absent next inside = false
function_by declarator.FunctionOf next inside = next || inside
function_by _ next inside = inside

abbrev pub function_at : Form → Bool → Bool → Bool
function_at (form.Declarator f) next inside = function_by f next inside
function_at _ next inside = false

-- whether one of these is a declarator with a function part next to its name
abbrev pub has_function : Forest → Bool
has_function empty = false
has_function (tree f s ps rest) = function_at f (is_name ps) (has_function ps) || has_function rest

-- whether one of these is an identifier list that is not empty
abbrev pub has_ids : Forest → Bool
has_ids empty = false
has_ids (tree (form.Params params.Ids) s ps rest) = not (is_none (in_first ps))
has_ids (tree f s ps rest) = has_ids rest

-- ---- statements

-- whether the first ends open
abbrev pub first_opens : Forest → Bool
first_opens empty = false
first_opens (tree f s ps rest) = ends_as_last_part f && last_opens ps

-- a declaration, or what stands for some
abbrev pub is_decl_as : Occupant → Bool
is_decl_as (what.One k) = is_same_kind k kind.Decl
is_decl_as (what.List k) = is_same_kind k kind.Decl
is_decl_as _ = false

abbrev pub is_decl : Form → Bool
is_decl form.Decl = true
is_decl f = is_decl_as (occupant_of f)

-- no declaration after a statement, where `late` is whether there was one before
abbrev pub ordered : Bool → Forest → Bool
ordered late empty = true
ordered late (tree f s ps rest) = (if is_decl f then not late && ordered late rest else ordered true rest)

-- ---- meta code

abbrev pub is_few : MetaType → Bool
is_few type = nat_lt type.lists 4

-- what a macro may give: one tree that is called for as such, or a list of statements, declarations or items
abbrev pub is_one_result : Kind → Bool
is_one_result kind.Exp = true
is_one_result kind.Stmt = true
is_one_result kind.Decl = true
is_one_result kind.Item = true
is_one_result kind.Spec = true
is_one_result _ = false

abbrev pub is_list_result : Kind → Bool
is_list_result kind.Stmt = true
is_list_result kind.Decl = true
is_list_result kind.Item = true
is_list_result _ = false

abbrev pub is_result_base : Base → ℕ → Bool
is_result_base (base.Tree k) lists = (nat_eq lists 0 && is_one_result k) || (nat_eq lists 1 && is_list_result k)
is_result_base _ lists = false

abbrev pub is_result : MetaType → Bool
is_result type = is_result_base type.base type.lists

abbrev pub is_pattern_token : Shape → Bool
is_pattern_token (shape.Key k) = true
is_pattern_token (shape.Punct p) = true
is_pattern_token (shape.Word w) = true
is_pattern_token _ = false

-- ---- the rules of each form, and the first that is broken

abbrev pub unless : Bool → Rule → Option Rule → Option Rule
unless true rule others = others
unless false rule others = Some rule

abbrev pub in_spec : SpecForm → Forest → Option Rule
in_spec (spec.StructOf k) ps = unless (not (is_none (in_first ps)) || not (is_none (in_first (after_first ps)))) TagOrBody None
in_spec spec.EnumOf ps = unless (not (is_none (in_first ps)) || not (is_none (in_first (after_first ps)))) TagOrBody None
in_spec _ ps = None

abbrev pub in_declarator : DeclaratorForm → Forest → Option Rule
in_declarator declarator.FunctionOf ps = unless (names ps || not (has_ids ps)) AbstractIds None
in_declarator _ ps = None

-- of a condition, a part and an else-part
abbrev pub in_if : Forest → Option Rule
in_if ps = unless (is_none (in_first (after_first (after_first ps))) || not (first_opens (after_first ps))) OpenPart None

abbrev pub in_stmt : StmtForm → Forest → Option Rule
in_stmt stmt.Block ps = unless (ordered false (in_first ps)) LateDeclaration None
in_stmt stmt.If ps = in_if ps
in_stmt _ ps = None

abbrev pub in_item : ItemForm → Forest → Option Rule
in_item item.Function ps = unless (are_specifiers (in_first ps)) SoleType (unless (names ps) NoName (unless (has_function ps) NoFunction None))
in_item item.Declaration ps = None
in_item (item.Syntax gives name) ps = unless (is_result gives) MetaTypeRule None
in_item (item.MetaFunction gives name) ps = unless (is_few gives) MetaTypeRule None
in_item (item.MetaVariable type name) ps = unless (is_few type) MetaTypeRule None

abbrev pub in_template : TemplateForm → Forest → Option Rule
in_template template.Braces ps = unless (ordered false (in_first ps)) LateDeclaration None
in_template _ ps = None

abbrev pub in_meta_stmt : MetaStmtForm → Forest → Option Rule
in_meta_stmt metastmt.If ps = in_if ps
in_meta_stmt metastmt.Match ps = unless (not (first_opens (after_first (after_first ps)))) OpenPart None
in_meta_stmt _ ps = None

abbrev pub in_element : ElementForm → Option Rule
in_element (element.Literal t) = unless (is_pattern_token t) PatternToken None
in_element (element.OneOrMoreBetween t) = unless (is_pattern_token t) PatternToken None
in_element (element.ZeroOrMoreBetween t) = unless (is_pattern_token t) PatternToken None
in_element (element.Maybe t) = unless (is_pattern_token t) PatternToken None
in_element _ = None

abbrev pub in_group : GroupForm → Forest → Option Rule
in_group group.InitDeclarator ps = unless (names ps) NoName None
in_group group.MemberDeclarator ps = unless (names ps || (is_absent ps && not (is_none (in_first (after_first ps))))) NameOrWidth None
in_group (group.MetaParam type name) ps = unless (is_few type) MetaTypeRule None
in_group _ ps = None

abbrev pub among_rules : Form → Forest → Option Rule
among_rules form.TypeName ps = unless (are_specifiers (in_first ps)) SoleType (unless (not (names ps)) Name None)
among_rules form.Specs ps = unless (are_specifiers (in_first ps)) SoleType (unless (nat_lt 0 (types (in_first ps))) NoType None)
among_rules (form.Spec f) ps = in_spec f ps
among_rules form.Member ps = unless (are_specifiers (in_first ps)) SoleType None
among_rules (form.Declarator f) ps = in_declarator f ps
among_rules form.Param ps = unless (are_specifiers (in_first ps)) SoleType None
among_rules form.Decl ps = unless (are_specifiers (in_first ps)) SoleType None
among_rules (form.Stmt f) ps = in_stmt f ps
among_rules (form.Item f) ps = in_item f ps
among_rules (form.Template f) ps = in_template f ps
among_rules (form.MetaStmt f) ps = in_meta_stmt f ps
among_rules (form.Local type name) ps = unless (is_few type) MetaTypeRule None
among_rules (form.Element f) ps = in_element f
among_rules (form.Call n gives tail) ps = unless (is_result gives) MetaTypeRule None
among_rules (form.Group f) ps = in_group f ps
among_rules _ ps = None

-- the first rule that a node of a form breaks with its parts, each of which is valid
abbrev pub broken : Form → Forest → Option Rule
broken f ps = if fits (pieces f) ps then among_rules f ps else Some Parts

abbrev pub is_nothing : Option Rule → Bool
is_nothing None = true
is_nothing (Some rule) = false

-- whether a node of a form breaks none
abbrev pub is_right : Form → Forest → Bool
is_right f ps = is_nothing (broken f ps)
