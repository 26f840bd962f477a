-- Which forms stand as a sort of plain C90.
use Rattle.std.proofs.Common.{List, [], ◌∷◌, ◌&&◌, Bool, true, false, not, ◌||◌}
use Rattle.c_forms.specs.declared.pieces.Sort.{Sort}
use Rattle.c_forms.specs.declared.pieces.Sort.TheVariants as s
use Rattle.c_forms.specs.declared.forms.Form.{Form}
use Rattle.c_forms.specs.declared.forms.Form.TheVariants as form
use Rattle.c_forms.specs.declared.forms.ItemForm.{ItemForm}
use Rattle.c_forms.specs.declared.forms.ItemForm.TheVariants as item
use Rattle.c_forms.specs.declared.forms.GroupForm.{GroupForm}
use Rattle.c_forms.specs.declared.forms.GroupForm.TheVariants as group
use Rattle.c_forms.specs.Rules.{is_decl}
use Rattle.c_forms.specs.Measures.{pieces}
use Rattle.c_forms.specs.declared.pieces.Event.{Event}
use Rattle.c_forms.specs.declared.pieces.Event.TheVariants as event
use Rattle.c_forms.specs.declared.pieces.Piece.{Piece}
use Rattle.c_forms.specs.declared.pieces.Piece.TheVariants.{Token, Maybe, Own, One, Group, Then}
use Rattle.c_syntax.specs.Reading.{inside}
use Rattle.spelled_trees.specs.Scoped.{keeps_late}
use Rattle.spelled_trees.specs.Effects.{is_plain_sort, Need, Anew, needs}

abbrev pub is_group : GroupForm → Bool
is_group group.InitDeclarator = true
is_group group.Initializer = true
is_group group.MemberDeclarator = true
is_group group.Width = true
is_group group.Members = true
is_group group.Enumerators = true
is_group group.EnumeratorValue = true
is_group group.ElsePart = true
is_group f = false

abbrev pub is_item : ItemForm → Bool
is_item item.Function = true
is_item item.Declaration = true
is_item f = false

-- a form of C90
abbrev pub is_form : Form → Bool
is_form (form.Exp f) = true
is_form form.TypeName = true
is_form (form.Spec f) = true
is_form form.Member = true
is_form form.Enumerator = true
is_form (form.Declarator f) = true
is_form (form.Params f) = true
is_form form.Param = true
is_form (form.Init f) = true
is_form form.Decl = true
is_form (form.Stmt f) = true
is_form (form.Item f) = is_item f
is_form (form.Id w) = true
is_form (form.Literal w) = true
is_form (form.Group f) = is_group f
is_form f = false

abbrev pub is_declarator : Form → Bool
is_declarator (form.Declarator f) = true
is_declarator f = false

abbrev pub is_stmt : Form → Bool
is_stmt (form.Stmt f) = true
is_stmt f = false

abbrev pub is_else : Form → Bool
is_else (form.Group group.ElsePart) = true
is_else f = false

-- what stands as these sorts is such
abbrev pub suits : Sort → Form → Bool
suits s.Declarator f = is_declarator f
suits s.AbstractDeclarator f = is_declarator f
suits s.ParamDeclarator f = is_declarator f
suits s.MemberName f = is_declarator f
suits s.Decl f = is_decl f
suits s.Stmt f = is_stmt f
suits s.ElsePart f = is_else f
suits own f = true

-- a form that begins with specifiers
abbrev pub has_specifiers : Form → Bool
has_specifiers form.TypeName = true
has_specifiers form.Member = true
has_specifiers form.Param = true
has_specifiers form.Decl = true
has_specifiers (form.Item item.Function) = true
has_specifiers (form.Stmt f) = true
has_specifiers f = false

abbrev pub is_anew : Need → Bool
is_anew Anew = true
is_anew n = false

-- stands where no declaration has begun
abbrev pub begins_anew : Sort → Form → Bool
begins_anew own f = not (has_specifiers f) || is_anew (needs own)

-- ---- scopes

abbrev pub is_in_after : Event → Bool → Bool
is_in_after event.Enter b = true
is_in_after event.Leave b = false
is_in_after event.Close b = false
is_in_after e b = b

-- whether it may happen in a scope of the row's own, or outside
abbrev pub may_be_in : Event → Bool → Bool
may_be_in event.Enter b = not b
may_be_in event.Leave b = b
may_be_in event.Close b = b
may_be_in event.Open b = false
may_be_in event.Shut b = false
may_be_in event.Statements b = false
may_be_in e b = true

abbrev pub may_part : Sort → Bool → Bool
may_part due b = is_plain_sort due && (keeps_late due || b)

-- whether a row leaves each scope that it enters
abbrev pub scopes : Sort → Bool → List Piece → Bool
scopes own b [] = not b
scopes own b (Token c ∷ ps) = scopes own b ps
scopes own b (Maybe c ∷ ps) = scopes own b ps
scopes own b (Own ∷ ps) = scopes own b ps
scopes own b (One due least ∷ ps) = may_part (inside own due) b && scopes own b ps
scopes own b (Group r due least ∷ ps) = may_part due b && scopes own b ps
scopes own b (Then e ∷ ps) = may_be_in e b && scopes own (is_in_after e b) ps
scopes own b (p ∷ ps) = false

-- a function's body is in a scope that begins with its parameters
abbrev pub is_function : Form → Bool
is_function (form.Item item.Function) = true
is_function f = false

abbrev pub is_scoped : Bool → Sort → Form → Bool
is_scoped true own f = true
is_scoped false own f = scopes own false (pieces f)
