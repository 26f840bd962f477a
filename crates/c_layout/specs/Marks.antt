-- The marks of tokens.
use Rattle.std.specs.Prelude.{ℕ, Option, Some, None, List, [], ◌∷◌}
use Rattle.c_tokens.specs.ClassOf.{class_of}
use Rattle.c_tokens.specs.declared.class.Class.{Class}
use Rattle.c_tokens.specs.declared.class.Class.TheVariants as class
use Rattle.c_tokens.specs.declared.token.Punct.{Punct}
use Rattle.c_tokens.specs.declared.token.Punct.TheVariants as punct
use Rattle.c_tokens.specs.declared.token.Shape.{Shape}
use Rattle.c_tokens.specs.declared.token.Shape.TheVariants as shape
use Rattle.c_forms.specs.declared.pieces.Repetition.{Repetition}
use Rattle.c_forms.specs.declared.pieces.Repetition.TheVariants.{Many, Spliced, Ended}
use Rattle.c_forms.specs.declared.forms.ExpForm.{ExpForm}
use Rattle.c_forms.specs.declared.forms.ExpForm.TheVariants as exp
use Rattle.c_forms.specs.declared.forms.DeclaratorForm.{DeclaratorForm}
use Rattle.c_forms.specs.declared.forms.DeclaratorForm.TheVariants as declarator
use Rattle.c_forms.specs.declared.forms.StmtForm.{StmtForm}
use Rattle.c_forms.specs.declared.forms.StmtForm.TheVariants as stmt
use Rattle.c_forms.specs.declared.forms.Form.{Form}
use Rattle.c_forms.specs.declared.forms.Form.TheVariants as form
use Rattle.c_layout.specs.declared.marks.Use.{Use}
use Rattle.c_layout.specs.declared.marks.Use.TheVariants as use_as
use Rattle.c_layout.specs.declared.marks.Mark.{Mark}
use Rattle.c_layout.specs.declared.marks.Mark.TheVariants as mark

-- the `(` of arguments or of parameters
abbrev pub use_at_paren : Class → Use
use_at_paren (class.Punct punct.LeftParen) = use_as.CallParen
use_at_paren _ = use_as.Plain

-- the `:` of a label
abbrev pub use_at_colon : Class → Use
use_at_colon (class.Punct punct.Colon) = use_as.LabelColon
use_at_colon _ = use_as.Plain

abbrev pub use_in_exp : ExpForm → Class → Use
use_in_exp (exp.Unary o) c = use_as.Prefix
use_in_exp exp.PreInc c = use_as.Prefix
use_in_exp exp.PreDec c = use_as.Prefix
use_in_exp exp.PostInc c = use_as.Postfix
use_in_exp exp.PostDec c = use_as.Postfix
use_in_exp exp.Apply c = use_at_paren c
use_in_exp _ c = use_as.Plain

abbrev pub use_in_declarator : DeclaratorForm → Class → Use
use_in_declarator declarator.Pointer c = use_as.Pointer
use_in_declarator declarator.FunctionOf c = use_at_paren c
use_in_declarator _ c = use_as.Plain

abbrev pub use_in_stmt : StmtForm → Class → Use
use_in_stmt stmt.Label c = use_at_colon c
use_in_stmt stmt.Case c = use_at_colon c
use_in_stmt stmt.Default c = use_at_colon c
use_in_stmt _ c = use_as.Plain

-- what a token of a class is to a node of a form
abbrev pub use_of : Form → Class → Use
use_of (form.Exp f) c = use_in_exp f c
use_of (form.Declarator f) c = use_in_declarator f c
use_of (form.Stmt f) c = use_in_stmt f c
use_of _ c = use_as.Plain

-- the token of a class that has only one
abbrev pub shape_of : Class → Option Shape
shape_of (class.Key k) = Some (shape.Key k)
shape_of (class.Punct p) = Some (shape.Punct p)
shape_of (class.Mark m) = Some (shape.Mark m)
shape_of _ = None

abbrev pub shape_if : Option Class → Option Shape
shape_if None = None
shape_if (Some c) = shape_of c

-- the token between two elements
abbrev pub separator_of : Repetition → Option Shape
separator_of (Many separator least) = shape_if separator
separator_of (Spliced separator least) = shape_if separator
separator_of (Ended separator end_token) = shape_of separator
separator_of _ = None

-- the mark of a token of a node of a form, if there is one
abbrev pub token_in : Form → Option Shape → Option Mark
token_in f None = None
token_in f (Some s) = Some (mark.Token s (use_of f (class_of s)))

abbrev pub if_any : {A : Type 0} → Option A → List A
if_any None = []
if_any (Some x) = x ∷ []

-- a punctuator that belongs to no form
abbrev pub plain : Punct → Mark
plain p = mark.Token (shape.Punct p) use_as.Plain

abbrev pub line : ℕ → Mark
line depth = mark.Line depth
