-- The trees that the reader makes, with the tokens from which and to which each node goes. The words 1 and 2, T and U, are types.
use Rattle.std.proofs.Common.{◌≡◌, refl, ℕ, ◌+◌, false, List, [], ◌∷◌, Option, Some, None, Result, Ok, Err}
use Rattle.c_tokens.specs.declared.token.Key.TheVariants as k
use Rattle.c_tokens.specs.declared.token.Punct.TheVariants as p
use Rattle.c_tokens.specs.declared.token.Word.{Word as Text}
use Rattle.c_tokens.specs.declared.token.Shape.{Shape}
use Rattle.c_tokens.specs.declared.token.Shape.TheVariants.{Key, Punct as Sign, Word, Int}
use Rattle.c_forms.specs.declared.operators.UnaryOperator.TheVariants as unary
use Rattle.c_forms.specs.declared.operators.BinaryOperator.TheVariants as binary
use Rattle.c_forms.specs.declared.operators.BasicType.TheVariants as basic
use Rattle.c_forms.specs.declared.operators.StructOrUnion.TheVariants as key
use Rattle.c_forms.specs.declared.forms.Form.{Form}
use Rattle.c_forms.specs.declared.forms.Form.TheVariants as form
use Rattle.c_forms.specs.declared.forms.ExpForm.TheVariants as exp
use Rattle.c_forms.specs.declared.forms.SpecForm.TheVariants as spec
use Rattle.c_forms.specs.declared.forms.DeclaratorForm.TheVariants as declarator
use Rattle.c_forms.specs.declared.forms.ParamsForm.TheVariants as params
use Rattle.c_forms.specs.declared.forms.InitForm.TheVariants as init
use Rattle.c_forms.specs.declared.forms.StmtForm.TheVariants as stmt
use Rattle.c_forms.specs.declared.forms.ItemForm.TheVariants as item
use Rattle.c_forms.specs.declared.forms.GroupForm.TheVariants as group
use Rattle.c_forms.specs.Forests.{Plain}
use Rattle.c_forms.specs.Forests as forests
use Rattle.c_reader.specs.States.{State, AsType, nothing_kept}
use Rattle.c_reader.specs.Tokens.{spot}
use Rattle.c_reader.specs.Readers.{Outcome, Found, read, below, loop}
use Rattle.c_syntax.specs.Reading.{spanned, element_after, others, others_ended, many, gathered, pieces_in, completed}
use Rattle.c_syntax.specs.Grammar.{whole, climb, type_or, primary, expression, opened, declarator_head, declarator_of, specifier, parameters, worded, statement, type_first, block_item, external, in_place, body, item_reader}

abbrev outside : State
outside = record { entries = AsType 1 ∷ (AsType 2 ∷ []); is_late = false; kept = nothing_kept; aside = [] }

abbrev tree_of : Outcome Found → Option Plain
tree_of (Ok q) = Some q.0.tree
tree_of (Err e) = None

abbrev tree : List Shape → Option Plain
tree w = tree_of (read body 20 item_reader (record { tokens = w; at = spot 0 outside }))

abbrev word : ℕ → Text
word n = record { 0 = n }

abbrev w : ℕ → Shape
w n = Word (word n)

abbrev n : ℕ → Shape
n value = Int (word value)

-- ---- nodes, each from a token to the one before another

abbrev over : Form → ℕ → ℕ → List Plain → Plain
over f i j ps = forests.node f (spanned i j) ps

abbrev list : ℕ → ℕ → List Plain → Plain
list i j ps = over (form.Group group.List) i j ps

abbrev no_list : ℕ → Plain
no_list i = list i i []

abbrev name : ℕ → ℕ → Plain
name i x = over (form.Exp (exp.Name (word x))) i (i + 1) []

abbrev number : ℕ → ℕ → Plain
number i x = over (form.Exp (exp.Int (word x))) i (i + 1) []

abbrev int : ℕ → Plain
int i = over (form.Spec (spec.Basic basic.Int)) i (i + 1) []

abbrev named : ℕ → ℕ → Plain
named i x = over (form.Declarator declarator.Named) i (i + 1) (over (form.Id (word x)) i (i + 1) [] ∷ [])

abbrev absent : ℕ → Plain
absent i = over (form.Declarator declarator.Absent) i i []

-- a declaration of one declarator after `int`, up to its semicolon
abbrev declares : ℕ → Plain → Plain → Plain
declares j d initializer = over (form.Item item.Declaration) 0 (j + 1) (over form.Decl 0 (j + 1) (list 0 1 (int 0 ∷ []) ∷ (list 1 j (over (form.Group group.InitDeclarator) 1 j (d ∷ (initializer ∷ [])) ∷ []) ∷ [])) ∷ [])

-- `= e` from a token on
abbrev is_first : ℕ → ℕ → Plain → Plain
is_first i j e = list i j (over (form.Group group.Initializer) i j (over (form.Init init.One) (i + 1) j (e ∷ []) ∷ []) ∷ [])

-- `int x ;`
simple : tree (Key k.Int ∷ w 3 ∷ Sign p.Semicolon ∷ []) ≡ Some (declares 2 (named 1 3) (no_list 2))
unfolding element_after others others_ended many gathered pieces_in completed whole climb type_or primary expression opened declarator_head declarator_of specifier parameters worded statement type_first block_item external in_place below loop
simple = refl

-- `f ( ) { }`
function : tree (w 3 ∷ Sign p.LeftParen ∷ Sign p.RightParen ∷ Sign p.LeftBrace ∷ Sign p.RightBrace ∷ [])
    ≡ Some (over (form.Item item.Function) 0 5 (no_list 0 ∷ (over (form.Declarator declarator.FunctionOf) 0 3 (named 0 3 ∷ (over (form.Params params.Ids) 2 2 (no_list 2 ∷ []) ∷ [])) ∷ (no_list 3 ∷ (over (form.Stmt stmt.Block) 3 5 (no_list 4 ∷ []) ∷ [])))))
unfolding element_after others others_ended many gathered pieces_in completed whole climb type_or primary expression opened declarator_head declarator_of specifier parameters worded statement type_first block_item external in_place below loop
function = refl

-- `int x = ( a + b ) * c ;`: the product begins at the parenthesis, the sum after it
product : tree (Key k.Int ∷ w 3 ∷ Sign p.Equal ∷ Sign p.LeftParen ∷ w 4 ∷ Sign p.Plus ∷ w 5 ∷ Sign p.RightParen ∷ Sign p.Star ∷ w 6 ∷ Sign p.Semicolon ∷ [])
    ≡ Some (declares 10 (named 1 3) (is_first 2 10 (over (form.Exp (exp.Binary binary.Multiply)) 3 10 (over (form.Exp (exp.Binary binary.Add)) 4 7 (name 4 4 ∷ (name 6 5 ∷ [])) ∷ (name 9 6 ∷ [])))))
unfolding element_after others others_ended many gathered pieces_in completed whole climb type_or primary expression opened declarator_head declarator_of specifier parameters worded statement type_first block_item external in_place below loop
product = refl

-- `int x = sizeof ( a ) [ 1 ] ;`
size : tree (Key k.Int ∷ w 3 ∷ Sign p.Equal ∷ Key k.Sizeof ∷ Sign p.LeftParen ∷ w 4 ∷ Sign p.RightParen ∷ Sign p.LeftBracket ∷ n 9 ∷ Sign p.RightBracket ∷ Sign p.Semicolon ∷ [])
    ≡ Some (declares 10 (named 1 3) (is_first 2 10 (over (form.Exp exp.SizeofExp) 3 10 (over (form.Exp exp.Index) 4 10 (name 5 4 ∷ (number 8 9 ∷ [])) ∷ []))))
unfolding element_after others others_ended many gathered pieces_in completed whole climb type_or primary expression opened declarator_head declarator_of specifier parameters worded statement type_first block_item external in_place below loop
size = refl

abbrev width : ℕ → ℕ → Plain
width i x = list i (i + 2) (over (form.Group group.Width) i (i + 2) (number (i + 1) x ∷ []) ∷ [])

-- `struct { int a : 3 , : 0 ; } x ;`
fields : tree (Key k.Struct ∷ Sign p.LeftBrace ∷ Key k.Int ∷ w 4 ∷ Sign p.Colon ∷ n 8 ∷ Sign p.Comma ∷ Sign p.Colon ∷ n 9 ∷ Sign p.Semicolon ∷ Sign p.RightBrace ∷ w 3 ∷ Sign p.Semicolon ∷ [])
    ≡ Some (over (form.Item item.Declaration) 0 13 (over form.Decl 0 13 (list 0 11 (over (form.Spec (spec.StructOf key.Struct)) 0 11 (no_list 1 ∷ (list 1 11
    (over (form.Group group.Members) 1 11 (list 2 10 (over form.Member 2 10 (list 2 3 (int 2 ∷ []) ∷ (list 3 9
    (over (form.Group group.MemberDeclarator) 3 6 (named 3 4 ∷ (width 4 8 ∷ [])) ∷ (over (form.Group group.MemberDeclarator) 7 9 (absent 7 ∷ (width 7 9 ∷ [])) ∷ []))
    ∷ [])) ∷ []) ∷ []) ∷ []) ∷ [])) ∷ [])
    ∷ (list 11 12 (over (form.Group group.InitDeclarator) 11 12 (named 11 3 ∷ (no_list 12 ∷ [])) ∷ []) ∷ [])) ∷ []))
unfolding element_after others others_ended many gathered pieces_in completed whole climb type_or primary expression opened declarator_head declarator_of specifier parameters worded statement type_first block_item external in_place below loop
fields = refl

-- `int f ( int a , ... ) ;`
more_parameters : tree (Key k.Int ∷ w 3 ∷ Sign p.LeftParen ∷ Key k.Int ∷ w 4 ∷ Sign p.Comma ∷ Sign p.Ellipsis ∷ Sign p.RightParen ∷ Sign p.Semicolon ∷ [])
    ≡ Some (declares 8 (over (form.Declarator declarator.FunctionOf) 1 8 (named 1 3 ∷ (over (form.Params params.TypedAndMore) 3 7 (list 3 5 (over form.Param 3 5 (list 3 4 (int 3 ∷ []) ∷ (named 4 4 ∷ [])) ∷ []) ∷ []) ∷ []))) (no_list 8))
unfolding element_after others others_ended many gathered pieces_in completed whole climb type_or primary expression opened declarator_head declarator_of specifier parameters worded statement type_first block_item external in_place below loop
more_parameters = refl

-- `int x [ ] = { 1 , 2 , } ;`
braces : tree (Key k.Int ∷ w 3 ∷ Sign p.LeftBracket ∷ Sign p.RightBracket ∷ Sign p.Equal ∷ Sign p.LeftBrace ∷ n 8 ∷ Sign p.Comma ∷ n 9 ∷ Sign p.Comma ∷ Sign p.RightBrace ∷ Sign p.Semicolon ∷ [])
    ≡ Some (declares 11 (over (form.Declarator declarator.ArrayOf) 1 4 (named 1 3 ∷ (no_list 3 ∷ []))) (list 4 11 (over (form.Group group.Initializer) 4 11
    (over (form.Init init.Braces) 5 11 (list 6 9 (over (form.Init init.One) 6 7 (number 6 8 ∷ []) ∷ (over (form.Init init.One) 8 9 (number 8 9 ∷ []) ∷ [])) ∷ []) ∷ []) ∷ [])))
unfolding element_after others others_ended many gathered pieces_in completed whole climb type_or primary expression opened declarator_head declarator_of specifier parameters worded statement type_first block_item external in_place below loop
braces = refl

-- `f ( ) { if ( a ) if ( b ) ; else T : ; }`: the `else` is the inner one's, and T a label
nested : tree (w 3 ∷ Sign p.LeftParen ∷ Sign p.RightParen ∷ Sign p.LeftBrace ∷ Key k.If ∷ Sign p.LeftParen ∷ w 4 ∷ Sign p.RightParen ∷ Key k.If ∷ Sign p.LeftParen ∷ w 5 ∷ Sign p.RightParen ∷ Sign p.Semicolon ∷ Key k.Else ∷ w 1 ∷ Sign p.Colon ∷ Sign p.Semicolon ∷ Sign p.RightBrace ∷ [])
    ≡ Some (over (form.Item item.Function) 0 18 (no_list 0 ∷ (over (form.Declarator declarator.FunctionOf) 0 3 (named 0 3 ∷ (over (form.Params params.Ids) 2 2 (no_list 2 ∷ []) ∷ [])) ∷ (no_list 3 ∷ (over (form.Stmt stmt.Block) 3 18 (list 4 17
    (over (form.Stmt stmt.If) 4 17 (name 6 4 ∷ (over (form.Stmt stmt.If) 8 17 (name 10 5 ∷ (over (form.Stmt stmt.Empty) 12 13 [] ∷ (list 13 17 (over (form.Group group.ElsePart) 13 17
    (over (form.Stmt stmt.Label) 14 17 (over (form.Id (word 1)) 14 15 [] ∷ (over (form.Stmt stmt.Empty) 16 17 [] ∷ [])) ∷ []) ∷ []) ∷ []))) ∷ (no_list 17 ∷ []))) ∷ []) ∷ []) ∷ [])))))
unfolding element_after others others_ended many gathered pieces_in completed whole climb type_or primary expression opened declarator_head declarator_of specifier parameters worded statement type_first block_item external in_place below loop
nested = refl

-- `int ( * f ) ( T ) ;`
pointer_to_function : tree (Key k.Int ∷ Sign p.LeftParen ∷ Sign p.Star ∷ w 3 ∷ Sign p.RightParen ∷ Sign p.LeftParen ∷ w 1 ∷ Sign p.RightParen ∷ Sign p.Semicolon ∷ [])
    ≡ Some (declares 8 (over (form.Declarator declarator.FunctionOf) 1 8 (over (form.Declarator declarator.Pointer) 2 4 (no_list 3 ∷ (named 3 3 ∷ [])) ∷ (over (form.Params params.Typed) 6 7 (list 6 7
    (over form.Param 6 7 (list 6 7 (over (form.Spec (spec.Typedef (word 1))) 6 7 [] ∷ []) ∷ (absent 7 ∷ [])) ∷ []) ∷ []) ∷ []))) (no_list 8))
unfolding element_after others others_ended many gathered pieces_in completed whole climb type_or primary expression opened declarator_head declarator_of specifier parameters worded statement type_first block_item external in_place below loop
pointer_to_function = refl

-- `int x = ( T * ) & a ;`
cast : tree (Key k.Int ∷ w 3 ∷ Sign p.Equal ∷ Sign p.LeftParen ∷ w 1 ∷ Sign p.Star ∷ Sign p.RightParen ∷ Sign p.Ampersand ∷ w 4 ∷ Sign p.Semicolon ∷ [])
    ≡ Some (declares 9 (named 1 3) (is_first 2 9 (over (form.Exp exp.Cast) 3 9 (over form.TypeName 4 6 (list 4 5 (over (form.Spec (spec.Typedef (word 1))) 4 5 [] ∷ []) ∷ (over (form.Declarator declarator.Pointer) 5 6 (no_list 6 ∷ (absent 6 ∷ [])) ∷ []))
    ∷ (over (form.Exp (exp.Unary unary.Address)) 7 9 (name 8 4 ∷ []) ∷ [])))))
unfolding element_after others others_ended many gathered pieces_in completed whole climb type_or primary expression opened declarator_head declarator_of specifier parameters worded statement type_first block_item external in_place below loop
cast = refl
