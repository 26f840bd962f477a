-- No `=` or `==` stands as a prefix operator in a layout.
use Rattle.std.proofs.Common.{◌≡◌, refl, Bool, true, false, List, [], ◌∷◌, Option, Some, None}
use Rattle.c_tokens.specs.ClassOf.{class_of}
use Rattle.c_tokens.specs.declared.class.Class.{Class}
use Rattle.c_tokens.specs.declared.class.Class.TheVariants as class
use Rattle.c_tokens.specs.declared.token.Punct.TheVariants as punct
use Rattle.c_tokens.specs.declared.token.Shape.{Shape}
use Rattle.c_forms.specs.declared.operators.UnaryOperator.{UnaryOperator}
use Rattle.c_forms.specs.declared.operators.UnaryOperator.TheVariants as unary
use Rattle.c_forms.specs.declared.pieces.Piece.{Piece}
use Rattle.c_forms.specs.declared.pieces.Piece.TheVariants.{Token, Maybe, Own, TypeTokens, KindName, One, Group, Rest, Anything, Then}
use Rattle.c_forms.specs.declared.forms.ExpForm.{ExpForm}
use Rattle.c_forms.specs.declared.forms.ExpForm.TheVariants as exp
use Rattle.c_forms.specs.declared.forms.DeclaratorForm.{DeclaratorForm}
use Rattle.c_forms.specs.declared.forms.DeclaratorForm.TheVariants as declarator
use Rattle.c_forms.specs.declared.forms.StmtForm.{StmtForm}
use Rattle.c_forms.specs.declared.forms.StmtForm.TheVariants as stmt
use Rattle.c_forms.specs.declared.forms.Form.{Form}
use Rattle.c_forms.specs.declared.forms.Form.TheVariants as form
use Rattle.c_forms.specs.Forests.{Plain, Forest, empty, tree}
use Rattle.c_forms.specs.Measures.{pieces}
use Rattle.c_forms.specs.Tokens.{held}
use Rattle.c_layout.specs.declared.marks.Use.{Use}
use Rattle.c_layout.specs.declared.marks.Use.TheVariants as use_as
use Rattle.c_layout.specs.declared.marks.Mark.{Mark}
use Rattle.c_layout.specs.declared.marks.Mark.TheVariants as mark
use Rattle.c_layout.specs.Marks.{use_at_paren, use_at_colon, use_of, separator_of, shape_of, token_in, if_any}
use Rattle.c_layout.specs.Layout.{layout}
use Rattle.text_tokens.specs.Neighbours.{is_equal_prefix}
use Rattle.text_tokens.specs.Marks.{All, AllOfPieces, AllOfRows}
use Rattle.text_tokens.proofs.Marks.{layout-all}

-- a mark that is no `=` or `==` as a prefix operator
abbrev pub IsNoEqualPrefix : Mark → Type 0
IsNoEqualPrefix (mark.Line depth) = Unit {0}
IsNoEqualPrefix (mark.Token b v) = is_equal_prefix b v ≡ false

abbrev is_prefix : Use → Bool
is_prefix use_as.Prefix = true
is_prefix _ = false

abbrev HasNoPrefix : Form → Type 0
HasNoPrefix f = (c : Class) → is_prefix (use_of f c) ≡ false

no_prefix : (b : Shape) (v : Use) → is_prefix v ≡ false → is_equal_prefix b v ≡ false
no_prefix b use_as.Prefix h = absurd cc
no_prefix b _ h = refl

at_paren : (c : Class) → is_prefix (use_at_paren c) ≡ false
at_paren (class.Punct punct.LeftParen) = refl
at_paren _ = refl

at_colon : (c : Class) → is_prefix (use_at_colon c) ≡ false
at_colon (class.Punct punct.Colon) = refl
at_colon _ = refl

one_token : (f : Form) → HasNoPrefix f → (o : Option Shape) → All IsNoEqualPrefix (if_any (token_in f o))
one_token f h None = tt
one_token f h (Some b) = (no_prefix b (use_of f (class_of b)) (h (class_of b)), tt)

any_row : (f : Form) → HasNoPrefix f → (q : List Piece) → AllOfPieces IsNoEqualPrefix f q
any_row f h [] = tt
any_row f h (Token c ∷ q) = (one_token f h (shape_of c), any_row f h q)
any_row f h (Own ∷ q) = (one_token f h (held f), any_row f h q)
any_row f h (Group r due least ∷ q) = (one_token f h (separator_of r), any_row f h q)
any_row f h (One due least ∷ q) = any_row f h q
any_row f h (Maybe c ∷ q) = any_row f h q
any_row f h (Then e ∷ q) = any_row f h q
any_row f h (TypeTokens ∷ q) = any_row f h q
any_row f h (KindName ∷ q) = any_row f h q
any_row f h (Rest due ∷ q) = any_row f h q
any_row f h (Anything ∷ q) = any_row f h q

unary_row : (o : UnaryOperator) → AllOfPieces IsNoEqualPrefix (form.Exp (exp.Unary o)) (pieces (form.Exp (exp.Unary o)))
unary_row unary.Plus = ((refl, tt), tt)
unary_row _ = ((refl, tt), tt)

exp_row : (e : ExpForm) → AllOfPieces IsNoEqualPrefix (form.Exp e) (pieces (form.Exp e))
exp_row (exp.Unary o) = unary_row o
exp_row exp.PreInc = ((refl, tt), tt)
exp_row exp.PreDec = ((refl, tt), tt)
exp_row exp.Apply = any_row (form.Exp exp.Apply) at_paren (pieces (form.Exp exp.Apply))
exp_row e = any_row (form.Exp e) (λ c. refl) (pieces (form.Exp e))

declarator_row : (d : DeclaratorForm) → AllOfPieces IsNoEqualPrefix (form.Declarator d) (pieces (form.Declarator d))
declarator_row declarator.FunctionOf = any_row (form.Declarator declarator.FunctionOf) at_paren (pieces (form.Declarator declarator.FunctionOf))
declarator_row d = any_row (form.Declarator d) (λ c. refl) (pieces (form.Declarator d))

stmt_row : (t : StmtForm) → AllOfPieces IsNoEqualPrefix (form.Stmt t) (pieces (form.Stmt t))
stmt_row stmt.Label = any_row (form.Stmt stmt.Label) at_colon (pieces (form.Stmt stmt.Label))
stmt_row stmt.Case = any_row (form.Stmt stmt.Case) at_colon (pieces (form.Stmt stmt.Case))
stmt_row stmt.Default = any_row (form.Stmt stmt.Default) at_colon (pieces (form.Stmt stmt.Default))
stmt_row t = any_row (form.Stmt t) (λ c. refl) (pieces (form.Stmt t))

row : (f : Form) → AllOfPieces IsNoEqualPrefix f (pieces f)
row (form.Exp e) = exp_row e
row (form.Declarator d) = declarator_row d
row (form.Stmt t) = stmt_row t
row f = any_row f (λ c. refl) (pieces f)

rows : (t : Forest) → AllOfRows IsNoEqualPrefix t
rows empty = tt
rows (tree f s ps rest) = (row f, (rows ps, rows rest))

-- the layout of any tree
pub layout-no_equal_prefix : (t : Plain) → All IsNoEqualPrefix (layout t)
layout-no_equal_prefix t = layout-all IsNoEqualPrefix (record { lines = λ depth. tt; opening = refl; closing = refl }) t (row t.form) (rows t.parts)
