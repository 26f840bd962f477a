-- The rows of plain C: which of their tokens may go on one another, and which never do.
use Rattle.std.proofs.Common.{◌≡◌, refl, Bool, true, false, ◌&&◌, ◌||◌, nat_lt, List, [], ◌∷◌, Option, Some, None}
use Rattle.c_tokens.specs.ClassOf.{class_of}
use Rattle.c_tokens.specs.declared.token.Shape.{Shape}
use Rattle.c_tokens.specs.declared.token.Shape.TheVariants as shape
use Rattle.c_tokens.proofs.Tables.{and_true}
use Rattle.c_forms.specs.declared.operators.AssignmentOperator.{AssignmentOperator}
use Rattle.c_forms.specs.declared.operators.AssignmentOperator.TheVariants as assignment
use Rattle.c_forms.specs.declared.operators.BinaryOperator.{BinaryOperator}
use Rattle.c_forms.specs.declared.operators.BinaryOperator.TheVariants as operator
use Rattle.c_forms.specs.declared.operators.StorageClass.{StorageClass}
use Rattle.c_forms.specs.declared.operators.StorageClass.TheVariants as storage
use Rattle.c_forms.specs.declared.pieces.Sort.{Sort}
use Rattle.c_forms.specs.declared.pieces.Sort.TheVariants as s
use Rattle.c_forms.specs.declared.pieces.Piece.{Piece}
use Rattle.c_forms.specs.declared.pieces.Piece.TheVariants.{Token, Maybe, Own, TypeTokens, KindName, One, Group, Rest, Anything, Then}
use Rattle.c_forms.specs.declared.places.Occupant.{Occupant}
use Rattle.c_forms.specs.declared.places.Occupant.TheVariants as what
use Rattle.c_forms.specs.declared.forms.ExpForm.{ExpForm}
use Rattle.c_forms.specs.declared.forms.ExpForm.TheVariants as exp
use Rattle.c_forms.specs.declared.forms.SpecForm.{SpecForm}
use Rattle.c_forms.specs.declared.forms.SpecForm.TheVariants as spec
use Rattle.c_forms.specs.declared.forms.DeclaratorForm.{DeclaratorForm}
use Rattle.c_forms.specs.declared.forms.DeclaratorForm.TheVariants as declarator
use Rattle.c_forms.specs.declared.forms.ParamsForm.{ParamsForm}
use Rattle.c_forms.specs.declared.forms.ParamsForm.TheVariants as params
use Rattle.c_forms.specs.declared.forms.InitForm.{InitForm}
use Rattle.c_forms.specs.declared.forms.InitForm.TheVariants as init
use Rattle.c_forms.specs.declared.forms.StmtForm.{StmtForm}
use Rattle.c_forms.specs.declared.forms.StmtForm.TheVariants as stmt
use Rattle.c_forms.specs.declared.forms.ItemForm.{ItemForm}
use Rattle.c_forms.specs.declared.forms.ItemForm.TheVariants as item
use Rattle.c_forms.specs.declared.forms.TemplateForm.{TemplateForm}
use Rattle.c_forms.specs.declared.forms.TemplateForm.TheVariants as template
use Rattle.c_forms.specs.declared.forms.GroupForm.{GroupForm}
use Rattle.c_forms.specs.declared.forms.GroupForm.TheVariants as group
use Rattle.c_forms.specs.declared.forms.Form.{Form}
use Rattle.c_forms.specs.declared.forms.Form.TheVariants as form
use Rattle.c_forms.specs.Measures.{pieces, is_plain}
use Rattle.c_forms.specs.Places.{occupant_of}
use Rattle.c_forms.specs.Fits.{least_of}
use Rattle.c_forms.specs.Tokens.{held}
use Rattle.c_layout.specs.Marks.{use_of, separator_of, shape_of}
use Rattle.text_tokens.proofs.Cuts.{is_fresh, is_calm}
use Rattle.text_tokens.specs.Plain.{is_of_c, is_c}

-- of the forms of a sort each node has a token: expressions, identifiers and literals
abbrev pub is_solid : Sort → Bool
is_solid s.Exp = true
is_solid s.Num = true
is_solid s.Id = true
is_solid s.Literal = true
is_solid _ = false

abbrev pub is_solid_as : Occupant → Bool
is_solid_as (what.Sort sort) = is_solid sort
is_solid_as _ = false

-- ---- tokens of C

-- a keyword or a punctuator, or none
abbrev pub is_fixed : Option Shape → Bool
is_fixed None = true
is_fixed (Some (shape.Key k)) = true
is_fixed (Some (shape.Punct p)) = true
is_fixed _ = false

-- pieces that name such tokens alone, and ask for what is of plain C
abbrev pub is_spelled : List Piece → Bool
is_spelled [] = true
is_spelled (Token c ∷ q) = is_fixed (shape_of c) && is_spelled q
is_spelled (Own ∷ q) = is_spelled q
is_spelled (One due least ∷ q) = is_of_c due && is_spelled q
is_spelled (Group r due least ∷ q) = is_of_c due && (is_fixed (separator_of r) && is_spelled q)
is_spelled (Maybe c ∷ q) = is_spelled q
is_spelled (Then e ∷ q) = is_spelled q
is_spelled (TypeTokens ∷ q) = is_spelled q
is_spelled (KindName ∷ q) = is_spelled q
is_spelled (Rest due ∷ q) = false
is_spelled (Anything ∷ q) = false

-- ---- tokens that go on no other

-- a token that goes on with no other after it and ends no operand
abbrev pub is_neat : Form → Option Shape → Bool
is_neat f None = true
is_neat f (Some t) = is_fresh t (use_of f (class_of t)) && is_calm t

-- pieces that name such tokens alone
abbrev pub is_tidy : Form → List Piece → Bool
is_tidy f [] = true
is_tidy f (Token c ∷ q) = is_neat f (shape_of c) && is_tidy f q
is_tidy f (Own ∷ q) = is_neat f (held f) && is_tidy f q
is_tidy f (One due least ∷ q) = is_tidy f q
is_tidy f (Group r due least ∷ q) = is_neat f (separator_of r) && is_tidy f q
is_tidy f (Maybe c ∷ q) = is_tidy f q
is_tidy f (Then e ∷ q) = is_tidy f q
is_tidy f (TypeTokens ∷ q) = is_tidy f q
is_tidy f (KindName ∷ q) = is_tidy f q
is_tidy f (Rest due ∷ q) = false
is_tidy f (Anything ∷ q) = false

-- unary operators, `+` and `-` between operands, and what ends an operand
abbrev pub is_special_exp : ExpForm → Bool
is_special_exp (exp.Unary o) = true
is_special_exp (exp.Binary o) = true
is_special_exp exp.Field = true
is_special_exp exp.Arrow = true
is_special_exp exp.PostInc = true
is_special_exp exp.PostDec = true
is_special_exp _ = false

abbrev pub is_special : Form → Bool
is_special (form.Exp e) = is_special_exp e
is_special _ = false

-- A row has tokens of C alone, and asks for what is of plain C; but for these forms its tokens go on no other.
abbrev is_sound : Form → Bool
is_sound f = is_spelled (pieces f) && (is_special f || is_tidy f (pieces f))

sound_binary : (o : BinaryOperator) → is_sound (form.Exp (exp.Binary o)) ≡ true
sound_binary operator.LogicalOr = refl
sound_binary _ = refl

sound_assign : (o : AssignmentOperator) → is_sound (form.Exp (exp.Assign o)) ≡ true
sound_assign assignment.Assign = refl
sound_assign _ = refl

sound_exp : (e : ExpForm) → is_sound (form.Exp e) ≡ true
sound_exp (exp.Binary o) = sound_binary o
sound_exp (exp.Assign o) = sound_assign o
sound_exp _ = refl

sound_storage : (c : StorageClass) → is_sound (form.Spec (spec.Storage c)) ≡ true
sound_storage storage.Typedef = refl
sound_storage _ = refl

sound_spec : (f : SpecForm) → is_sound (form.Spec f) ≡ true
sound_spec (spec.Storage c) = sound_storage c
sound_spec _ = refl

sound_declarator : (f : DeclaratorForm) → is_sound (form.Declarator f) ≡ true
sound_declarator declarator.Named = refl
sound_declarator _ = refl

sound_params : (f : ParamsForm) → is_sound (form.Params f) ≡ true
sound_params params.Ids = refl
sound_params _ = refl

sound_init : (f : InitForm) → is_sound (form.Init f) ≡ true
sound_init init.One = refl
sound_init _ = refl

sound_stmt : (f : StmtForm) → is_sound (form.Stmt f) ≡ true
sound_stmt stmt.Label = refl
sound_stmt _ = refl

sound_item : (f : ItemForm) → is_c (form.Item f) ≡ true → is_sound (form.Item f) ≡ true
sound_item item.Function h = refl
sound_item item.Declaration h = refl
sound_item _ h = absurd cc

no_template : (f : TemplateForm) → is_c (form.Template f) ≡ true → ⊥
no_template (template.Many k) h = absurd cc
no_template _ h = absurd cc

sound_group : (f : GroupForm) → is_c (form.Group f) ≡ true → is_sound (form.Group f) ≡ true
sound_group group.InitDeclarator h = refl
sound_group group.Initializer h = refl
sound_group group.MemberDeclarator h = refl
sound_group group.Width h = refl
sound_group group.Members h = refl
sound_group group.Enumerators h = refl
sound_group group.EnumeratorValue h = refl
sound_group group.ElsePart h = refl
sound_group _ h = absurd cc

sound : (f : Form) → is_c f ≡ true → is_sound f ≡ true
sound (form.Exp e) h = sound_exp e
sound form.TypeName h = refl
sound form.Specs h = refl
sound (form.Spec f) h = sound_spec f
sound form.Member h = refl
sound form.Enumerator h = refl
sound (form.Declarator f) h = sound_declarator f
sound (form.Params f) h = sound_params f
sound form.Param h = refl
sound (form.Init f) h = sound_init f
sound form.Decl h = refl
sound (form.Stmt f) h = sound_stmt f
sound (form.Item f) h = sound_item f h
sound (form.Id w) h = refl
sound (form.Literal w) h = refl
sound (form.Template f) h = absurd (no_template f h)
sound (form.Group f) h = sound_group f h
sound _ h = absurd cc

pub spelled : (f : Form) → is_c f ≡ true → is_spelled (pieces f) ≡ true
spelled f h = (and_true (is_spelled (pieces f)) (is_special f || is_tidy f (pieces f)) (sound f h)).0

other : (a b : Bool) → (a || b) ≡ true → a ≡ false → b ≡ true
other true b h n = absurd cc
other false b h n = h

pub tidy : (f : Form) → is_c f ≡ true → is_special f ≡ false → is_tidy f (pieces f) ≡ true
tidy f h n = other (is_special f) (is_tidy f (pieces f)) (and_true (is_spelled (pieces f)) (is_special f || is_tidy f (pieces f)) (sound f h)).1 n

-- ---- rows that begin with a token

abbrev pub has_token : Option Shape → Bool
has_token None = false
has_token (Some t) = true

abbrev pub opens : Form → List Piece → Bool
opens f (Token c ∷ q) = has_token (shape_of c)
opens f (Own ∷ q) = has_token (held f)
opens f (One due least ∷ q) = is_solid due
opens f (Group r due least ∷ q) = is_solid due && nat_lt 0 (least_of r)
opens f _ = false

opens_binary : (o : BinaryOperator) → opens (form.Exp (exp.Binary o)) (pieces (form.Exp (exp.Binary o))) ≡ true
opens_binary operator.LogicalOr = refl
opens_binary _ = refl

opens_exp : (e : ExpForm) → opens (form.Exp e) (pieces (form.Exp e)) ≡ true
opens_exp (exp.Binary o) = opens_binary o
opens_exp _ = refl

no_spec : (f : SpecForm) → is_solid_as (occupant_of (form.Spec f)) ≡ true → ⊥
no_spec (spec.Storage c) h = absurd cc
no_spec _ h = absurd cc

no_stmt : (f : StmtForm) → is_solid_as (occupant_of (form.Stmt f)) ≡ true → ⊥
no_stmt stmt.Block h = absurd cc
no_stmt _ h = absurd cc

no_solid_template : (f : TemplateForm) → is_solid_as (occupant_of (form.Template f)) ≡ true → ⊥
no_solid_template (template.Many k) h = absurd cc
no_solid_template _ h = absurd cc

no_group : (f : GroupForm) → is_solid_as (occupant_of (form.Group f)) ≡ true → ⊥
no_group group.List h = absurd cc
no_group _ h = absurd cc

-- The row of a form of such a sort does.
pub solid_opens : (f : Form) → is_plain f ≡ true → is_solid_as (occupant_of f) ≡ true → opens f (pieces f) ≡ true
solid_opens (form.Exp e) p h = opens_exp e
solid_opens (form.Id w) p h = refl
solid_opens (form.Literal w) p h = refl
solid_opens (form.Spec f) p h = absurd (no_spec f h)
solid_opens (form.Stmt f) p h = absurd (no_stmt f h)
solid_opens (form.Template f) p h = absurd (no_solid_template f h)
solid_opens (form.Group f) p h = absurd (no_group f h)
solid_opens (form.Hole f) p h = absurd cc
solid_opens (form.Call n gives tail) p h = absurd cc
solid_opens _ p h = absurd cc
