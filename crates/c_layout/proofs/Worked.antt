-- Trees and their layouts, worked by hand.
use Rattle.std.proofs.Common.{◌≡◌, refl, ℕ, List, [], ◌∷◌}
use Rattle.c_tokens.specs.declared.token.Word.{Word}
use Rattle.c_tokens.specs.declared.token.Key.{Key}
use Rattle.c_tokens.specs.declared.token.Key.TheVariants as key
use Rattle.c_tokens.specs.declared.token.Punct.{Punct}
use Rattle.c_tokens.specs.declared.token.Punct.TheVariants.{LeftParen, RightParen, LeftBracket, RightBracket, LeftBrace, RightBrace, Arrow, Ampersand, Star, Plus, Minus, Colon, Equal, Comma, Semicolon}
use Rattle.c_tokens.specs.declared.token.Shape.TheVariants as shape
use Rattle.c_forms.specs.declared.operators.UnaryOperator.TheVariants as unary
use Rattle.c_forms.specs.declared.operators.BinaryOperator.TheVariants as binary
use Rattle.c_forms.specs.declared.operators.TypeQualifier.TheVariants as qualifier
use Rattle.c_forms.specs.declared.operators.BasicType.TheVariants as basic
use Rattle.c_forms.specs.declared.forms.ExpForm.{ExpForm}
use Rattle.c_forms.specs.declared.forms.ExpForm.TheVariants as exp
use Rattle.c_forms.specs.declared.forms.SpecForm.TheVariants as spec
use Rattle.c_forms.specs.declared.forms.DeclaratorForm.TheVariants as declarator
use Rattle.c_forms.specs.declared.forms.ParamsForm.TheVariants as params
use Rattle.c_forms.specs.declared.forms.InitForm.TheVariants as init
use Rattle.c_forms.specs.declared.forms.StmtForm.TheVariants as stmt
use Rattle.c_forms.specs.declared.forms.ItemForm.TheVariants as item
use Rattle.c_forms.specs.declared.forms.GroupForm.TheVariants as group
use Rattle.c_forms.specs.declared.forms.Form.{Form}
use Rattle.c_forms.specs.declared.forms.Form.TheVariants as form
use Rattle.c_forms.specs.Forests.{Plain, node}
use Rattle.c_layout.specs.declared.marks.Use.TheVariants.{Prefix, Pointer, CallParen, LabelColon}
use Rattle.c_layout.specs.declared.marks.Use.TheVariants as use_as
use Rattle.c_layout.specs.declared.marks.Mark.{Mark}
use Rattle.c_layout.specs.declared.marks.Mark.TheVariants.{Token, Line}
use Rattle.c_layout.specs.Marks.{plain}
use Rattle.c_layout.specs.Layout.{laid_at, layout}

-- trees

abbrev over : Form → List Plain → Plain
over f ps = node f (record { start = 0; end = 0 }) ps

abbrev list : List Plain → Plain
list ps = over (form.Group group.List) ps

abbrev none : Plain
none = list []

abbrev one : Plain → Plain
one p = list (p ∷ [])

abbrev word : ℕ → Word
word n = record { 0 = n }

abbrev name : ℕ → Plain
name n = over (form.Exp (exp.Name (word n))) []

abbrev number : ℕ → Plain
number n = over (form.Exp (exp.Int (word n))) []

abbrev id : ℕ → Plain
id n = over (form.Id (word n)) []

abbrev two : ExpForm → Plain → Plain → Plain
two f p q = over (form.Exp f) (p ∷ q ∷ [])

abbrev call : ℕ → List Plain → Plain
call f ps = over (form.Exp exp.Apply) (name f ∷ list ps ∷ [])

abbrev express : Plain → Plain
express p = over (form.Stmt stmt.Express) (p ∷ [])

abbrev block : List Plain → Plain
block ps = over (form.Stmt stmt.Block) (list ps ∷ [])

abbrev choice : Plain → Plain → Plain → Plain
choice test chosen otherwise = over (form.Stmt stmt.If) (test ∷ chosen ∷ otherwise ∷ [])

abbrev else_part : Plain → Plain
else_part p = one (over (form.Group group.ElsePart) (p ∷ []))

abbrev int_spec : Plain
int_spec = over (form.Spec (spec.Basic basic.Int)) []

abbrev named : ℕ → Plain
named n = over (form.Declarator declarator.Named) (id n ∷ [])

abbrev declaration : Plain → Plain → Plain
declaration d initializer = over form.Decl (one int_spec ∷ one (over (form.Group group.InitDeclarator) (d ∷ initializer ∷ [])) ∷ [])

abbrev function : Plain → Plain → Plain → Plain → Plain
function p params declarations body = over (form.Item item.Function) (one int_spec ∷ over (form.Declarator declarator.FunctionOf) (p ∷ params ∷ []) ∷ declarations ∷ body ∷ [])

-- marks

abbrev k : Key → Mark
k x = Token (shape.Key x) use_as.Plain

abbrev w : ℕ → Mark
w n = Token (shape.Word (word n)) use_as.Plain

abbrev i : ℕ → Mark
i n = Token (shape.Int (word n)) use_as.Plain

abbrev p : Punct → Mark
p x = plain x

abbrev prefix : Punct → Mark
prefix x = Token (shape.Punct x) Prefix

abbrev pointer : Mark
pointer = Token (shape.Punct Star) Pointer

abbrev opening : Mark
opening = Token (shape.Punct LeftParen) CallParen

abbrev colon : Mark
colon = Token (shape.Punct Colon) LabelColon

-- `x ( ) ;`
abbrev called : ℕ → List Mark → List Mark
called n ms = w n ∷ opening ∷ p RightParen ∷ p Semicolon ∷ ms

-- a + b * c
product_in_sum : laid_at 0 (two (exp.Binary binary.Add) (name 1) (two (exp.Binary binary.Multiply) (name 2) (name 3))) ≡
    w 1 ∷ p Plus ∷ w 2 ∷ p Star ∷ w 3 ∷ []
product_in_sum = refl

-- (a + b) * c
sum_in_product : laid_at 0 (two (exp.Binary binary.Multiply) (two (exp.Binary binary.Add) (name 1) (name 2)) (name 3)) ≡
    p LeftParen ∷ w 1 ∷ p Plus ∷ w 2 ∷ p RightParen ∷ p Star ∷ w 3 ∷ []
sum_in_product = refl

-- a - b - c, and a - (b - c)
left_difference : laid_at 0 (two (exp.Binary binary.Subtract) (two (exp.Binary binary.Subtract) (name 1) (name 2)) (name 3)) ≡
    w 1 ∷ p Minus ∷ w 2 ∷ p Minus ∷ w 3 ∷ []
left_difference = refl

right_difference : laid_at 0 (two (exp.Binary binary.Subtract) (name 1) (two (exp.Binary binary.Subtract) (name 2) (name 3))) ≡
    w 1 ∷ p Minus ∷ p LeftParen ∷ w 2 ∷ p Minus ∷ w 3 ∷ p RightParen ∷ []
right_difference = refl

-- -(-a) needs no parentheses: the later layout of the line keeps the operators apart
minus_minus : laid_at 0 (over (form.Exp (exp.Unary unary.Minus)) (over (form.Exp (exp.Unary unary.Minus)) (name 1 ∷ []) ∷ [])) ≡
    prefix Minus ∷ prefix Minus ∷ w 1 ∷ []
minus_minus = refl

-- &*p
address_of_target : laid_at 0 (over (form.Exp (exp.Unary unary.Address)) (over (form.Exp (exp.Unary unary.Dereference)) (name 1 ∷ []) ∷ [])) ≡
    prefix Ampersand ∷ prefix Star ∷ w 1 ∷ []
address_of_target = refl

-- -(a + b)
minus_sum : laid_at 0 (over (form.Exp (exp.Unary unary.Minus)) (two (exp.Binary binary.Add) (name 1) (name 2) ∷ [])) ≡
    prefix Minus ∷ p LeftParen ∷ w 1 ∷ p Plus ∷ w 2 ∷ p RightParen ∷ []
minus_sum = refl

-- f(a, b), and f((a, b))
two_arguments : laid_at 0 (call 1 (name 2 ∷ name 3 ∷ [])) ≡
    w 1 ∷ opening ∷ w 2 ∷ p Comma ∷ w 3 ∷ p RightParen ∷ []
two_arguments = refl

one_argument : laid_at 0 (call 1 (two exp.Comma (name 2) (name 3) ∷ [])) ≡
    w 1 ∷ opening ∷ p LeftParen ∷ w 2 ∷ p Comma ∷ w 3 ∷ p RightParen ∷ p RightParen ∷ []
one_argument = refl

-- a[b]
indexed : laid_at 0 (two exp.Index (name 1) (name 2)) ≡ w 1 ∷ p LeftBracket ∷ w 2 ∷ p RightBracket ∷ []
indexed = refl

-- x->m
arrow : laid_at 0 (two exp.Arrow (name 1) (id 2)) ≡ w 1 ∷ p Arrow ∷ w 2 ∷ []
arrow = refl

-- int *const p = {1, 2};
constant_pointer : laid_at 0 (declaration
    (over (form.Declarator declarator.Pointer) (one (over (form.Spec (spec.Qualifier qualifier.Const)) []) ∷ named 1 ∷ []))
    (one (over (form.Group group.Initializer) (over (form.Init init.Braces) (list (over (form.Init init.One) (number 2 ∷ []) ∷ over (form.Init init.One) (number 3 ∷ []) ∷ []) ∷ []) ∷ [])))) ≡
    k key.Int ∷ pointer ∷ k key.Const ∷ w 1 ∷ p Equal ∷ p LeftBrace ∷ i 2 ∷ p Comma ∷ i 3 ∷ p RightBrace ∷ p Semicolon ∷ []
constant_pointer = refl

-- int (*f)(int);
function_pointer : laid_at 0 (declaration
    (over (form.Declarator declarator.FunctionOf) (over (form.Declarator declarator.Pointer) (none ∷ named 1 ∷ []) ∷
    over (form.Params params.Typed) (one (over form.Param (one int_spec ∷ over (form.Declarator declarator.Absent) [] ∷ [])) ∷ []) ∷ []))
    none) ≡
    k key.Int ∷ p LeftParen ∷ pointer ∷ w 1 ∷ p RightParen ∷ opening ∷ k key.Int ∷ p RightParen ∷ p Semicolon ∷ []
function_pointer = refl

-- if (a) { x(); } else if (b) y(); else { }
two_choices : laid_at 0 (choice (name 1) (block (express (call 2 []) ∷ [])) (else_part (choice (name 3) (express (call 4 [])) (else_part (block []))))) ≡
    k key.If ∷ p LeftParen ∷ w 1 ∷ p RightParen ∷ p LeftBrace ∷
    Line 1 ∷ called 2 (
    Line 0 ∷ p RightBrace ∷
    Line 0 ∷ k key.Else ∷ k key.If ∷ p LeftParen ∷ w 3 ∷ p RightParen ∷
    Line 1 ∷ called 4 (
    Line 0 ∷ k key.Else ∷ p LeftBrace ∷
    Line 0 ∷ p RightBrace ∷ []))
two_choices = refl

-- do x(); while (a);
do_while : laid_at 0 (over (form.Stmt stmt.Do) (express (call 1 []) ∷ name 2 ∷ [])) ≡
    k key.Do ∷
    Line 1 ∷ called 1 (
    Line 0 ∷ k key.While ∷ p LeftParen ∷ w 2 ∷ p RightParen ∷ p Semicolon ∷ [])
do_while = refl

-- L: case 1: x();
labels : laid_at 0 (over (form.Stmt stmt.Label) (id 1 ∷ over (form.Stmt stmt.Case) (number 2 ∷ express (call 3 []) ∷ []) ∷ [])) ≡
    w 1 ∷ colon ∷ k key.Case ∷ i 2 ∷ colon ∷ called 3 []
labels = refl

-- while (a) for (;; b) { { } x(); }
loops : laid_at 0 (over (form.Stmt stmt.While) (name 1 ∷ over (form.Stmt stmt.For) (none ∷ none ∷ one (name 2) ∷ block (block [] ∷ express (call 3 []) ∷ []) ∷ []) ∷ [])) ≡
    k key.While ∷ p LeftParen ∷ w 1 ∷ p RightParen ∷
    Line 1 ∷ k key.For ∷ p LeftParen ∷ p Semicolon ∷ p Semicolon ∷ w 2 ∷ p RightParen ∷ p LeftBrace ∷
    Line 2 ∷ p LeftBrace ∷
    Line 2 ∷ p RightBrace ∷
    Line 2 ∷ called 3 (
    Line 1 ∷ p RightBrace ∷ [])
loops = refl

-- int f() { int b; return b; }
function_alone : layout (function (named 1) (over (form.Params params.Ids) (none ∷ [])) none
    (block (declaration (named 2) none ∷ over (form.Stmt stmt.Return) (one (name 2) ∷ []) ∷ []))) ≡
    Line 0 ∷ k key.Int ∷ w 1 ∷ opening ∷ p RightParen ∷ p LeftBrace ∷
    Line 1 ∷ k key.Int ∷ w 2 ∷ p Semicolon ∷
    Line 1 ∷ k key.Return ∷ w 2 ∷ p Semicolon ∷
    Line 0 ∷ p RightBrace ∷ []
function_alone = refl

-- int f(a) int a; { return a; }
function_with_declarations : layout (function (named 1) (over (form.Params params.Ids) (one (id 2) ∷ [])) (one (declaration (named 2) none))
    (block (over (form.Stmt stmt.Return) (one (name 2) ∷ []) ∷ []))) ≡
    Line 0 ∷ k key.Int ∷ w 1 ∷ opening ∷ w 2 ∷ p RightParen ∷
    Line 1 ∷ k key.Int ∷ w 2 ∷ p Semicolon ∷
    Line 0 ∷ p LeftBrace ∷
    Line 1 ∷ k key.Return ∷ w 2 ∷ p Semicolon ∷
    Line 0 ∷ p RightBrace ∷ []
function_with_declarations = refl
