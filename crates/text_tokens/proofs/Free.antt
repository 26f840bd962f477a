-- No two neighbours in the layout of a tree of plain C go on one another.
use Rattle.std.proofs.Common.{◌≡◌, refl, ap, sym, ◌∙◌, subst, ℕ, ◌+◌, ◌<◌, ltb-true, arith, Bool, true, false, not, ◌&&◌, ◌||◌, nat_lt, cond, List, [], ◌∷◌, ◌++◌, Option, Some, None}
use Rattle.c_tokens.specs.ClassOf.{class_of}
use Rattle.c_tokens.specs.declared.token.Punct.TheVariants as punct
use Rattle.c_tokens.specs.declared.token.Shape.{Shape}
use Rattle.c_tokens.specs.declared.token.Shape.TheVariants as shape
use Rattle.c_tokens.proofs.Tables.{and_true}
use Rattle.c_forms.specs.declared.operators.UnaryOperator.{UnaryOperator}
use Rattle.c_forms.specs.declared.operators.UnaryOperator.TheVariants as unary
use Rattle.c_forms.specs.declared.operators.BinaryOperator.{BinaryOperator}
use Rattle.c_forms.specs.declared.operators.BinaryOperator.TheVariants as operator
use Rattle.c_forms.specs.declared.pieces.Sort.{Sort}
use Rattle.c_forms.specs.declared.pieces.Sort.TheVariants as sort
use Rattle.c_forms.specs.declared.pieces.Repetition.{Repetition}
use Rattle.c_forms.specs.declared.pieces.Piece.{Piece}
use Rattle.c_forms.specs.declared.pieces.Piece.TheVariants.{Token, Maybe, Own, TypeTokens, KindName, One, Group, Rest, Anything, Then}
use Rattle.c_forms.specs.declared.rules.Rule.{Rule}
use Rattle.c_forms.specs.declared.rules.Rule.TheVariants.{Parts}
use Rattle.c_forms.specs.declared.forms.ExpForm.{ExpForm}
use Rattle.c_forms.specs.declared.forms.ExpForm.TheVariants as exp
use Rattle.c_forms.specs.declared.forms.Form.{Form}
use Rattle.c_forms.specs.declared.forms.Form.TheVariants as form
use Rattle.c_forms.specs.Forests.{Plain, Forest, empty, tree}
use Rattle.c_forms.specs.Measures.{pieces, is_plain}
use Rattle.c_forms.specs.Places.{occupant_of, stands, joins}
use Rattle.c_forms.specs.Fits.{number, all_stand, all_join, is_spliced, is_single, least_of, elements, fits}
use Rattle.c_forms.specs.Rules.{is_nothing, among_rules, is_right}
use Rattle.c_forms.specs.Tokens.{held, unary_token, binary_token}
use Rattle.c_trees.specs.Valid.{valid, valid_tree}
use Rattle.c_trees.specs.Counts.{pure, pure_tree}
use Rattle.c_layout.specs.declared.marks.Use.TheVariants as use_as
use Rattle.c_layout.specs.declared.marks.Mark.{Mark}
use Rattle.c_layout.specs.Marks.{line, use_of, separator_of, shape_of, token_in, if_any}
use Rattle.c_layout.specs.Standing.{standing_of_part, standing_of_group}
use Rattle.c_layout.specs.Layout.{heads, part, placed, put, laid, layout}
use Rattle.c_layout.specs.Layout.{elements as laid_elements}
use Rattle.text_tokens.specs.Neighbours.{AllFree}
use Rattle.text_tokens.specs.Plain.{is_of_c, is_c}
use Rattle.text_tokens.proofs.Prefixes.{layout-no_equal_prefix}
use Rattle.text_tokens.proofs.Cuts.{is_calm, is_fresh, is_point, is_some, Clean, none, both, one_line, one_token, operand_suffix, operand_member, operator_operand, clean_free}
use Rattle.text_tokens.proofs.Parts.{CleanHeads, clean_placed, clean_part, clean_elements, some_before, some_placed, some_part, some_elements}
use Rattle.text_tokens.proofs.Tidy.{is_solid, is_solid_as, is_fixed, is_spelled, spelled, is_neat, is_tidy, is_special, is_special_exp, tidy, has_token, opens, solid_opens}
use Rattle.text_tokens.proofs.Standing.{joins-stands, stands-is_c, stands-solid, stands-id}

abbrev marks_of : Form → Forest → ℕ → List Mark
marks_of f ps depth = put (pieces f) f (laid ps) depth

-- what is known of the layout of a node
record Node (f : Form) (ps : Forest) : Type 0 where
  plain : is_plain f ≡ true
  pure_parts : pure ps ≡ true
  clean : is_c f ≡ true → (depth : ℕ) → Clean (marks_of f ps depth)
  some : is_solid_as (occupant_of f) ≡ true → (depth : ℕ) → is_some (marks_of f ps depth) ≡ true

-- of those of all nodes
abbrev Nodes : Forest → Type 0
Nodes empty = Unit {0}
Nodes (tree f s ps rest) = Node f ps × (Nodes ps × Nodes rest)

-- ---- elements

all_standing : (due : Sort) (es : Forest) → pure es ≡ true → all_join due es ≡ true → all_stand due es ≡ true
all_standing due empty p h = refl
all_standing due (tree f s ps rest) p h =
    let b = and_true (joins f due) (all_join due rest) h in
    let c = and_true (is_plain f && pure ps) (pure rest) p in
    ap (λ x. x && all_stand due rest) (joins-stands f due (and_true (is_plain f) (pure ps) c.0).0 b.0) ∙ all_standing due rest c.1 b.1

spliced_or_not : (b : Bool) (due : Sort) (es : Forest) → pure es ≡ true → cond b (all_join due es) (all_stand due es) ≡ true → all_stand due es ≡ true
spliced_or_not true due es p h = all_standing due es p h
spliced_or_not false due es p h = h

pub elements-stand : (r : Repetition) (due : Sort) (es : Forest) → pure es ≡ true → elements r due es ≡ true → all_stand due es ≡ true
elements-stand r due es p h =
    let single : Bool = not (is_single r) || nat_lt (number es) 2 in
    let a = and_true (cond (is_spliced r) (all_join due es) (all_stand due es) && nat_lt (least_of r) (number es + 1)) single h in
    spliced_or_not (is_spliced r) due es p (and_true (cond (is_spliced r) (all_join due es) (all_stand due es)) (nat_lt (least_of r) (number es + 1)) a.0).0

clean_heads : (due : Sort) (es : Forest) → is_of_c due ≡ true → Nodes es → all_stand due es ≡ true → CleanHeads (heads (laid es))
clean_heads due empty d n h = tt
clean_heads due (tree f s ps rest) d n h =
    let b = and_true (stands f due) (all_stand due rest) h in
    (n.0.clean (stands-is_c f due n.0.plain d b.0), clean_heads due rest d n.1.1 b.1)

-- ---- rows of tokens that go on no other

neat_token : (f : Form) (o : Option Shape) → is_neat f o ≡ true → Clean (if_any (token_in f o))
neat_token f None h = none
neat_token f (Some t) h = let b = and_true (is_fresh t (use_of f (class_of t))) (is_calm t) h in one_token t (use_of f (class_of t)) b.0 b.1

clean_put : (q : List Piece) (f : Form) (ts : Forest) (depth : ℕ) → is_spelled q ≡ true → is_tidy f q ≡ true → fits q ts ≡ true → Nodes ts → Clean (put q f (laid ts) depth)
clean_put [] f ts depth k t h n = none
clean_put (Token c ∷ q) f ts depth k t h n =
    let b = and_true (is_neat f (shape_of c)) (is_tidy f q) t in
    both (if_any (token_in f (shape_of c))) _ (neat_token f (shape_of c) b.0) (clean_put q f ts depth (and_true (is_fixed (shape_of c)) (is_spelled q) k).1 b.1 h n)
clean_put (Own ∷ q) f ts depth k t h n =
    let b = and_true (is_neat f (held f)) (is_tidy f q) t in
    both (if_any (token_in f (held f))) _ (neat_token f (held f) b.0) (clean_put q f ts depth k b.1 h n)
clean_put (One due least ∷ q) f empty depth k t h n = none
clean_put (One due least ∷ q) f (tree g s ps rest) depth k t h n =
    let d = and_true (is_of_c due) (is_spelled q) k in
    let a = and_true (stands g due) (fits q rest) h in
    both (part (standing_of_part f due) least depth (record { form = g; marks = marks_of g ps })) _
    (clean_part (standing_of_part f due) least depth (record { form = g; marks = marks_of g ps }) (n.0.clean (stands-is_c g due n.0.plain d.0 a.0)))
    (clean_put q f rest depth d.1 t a.1 n.1.1)
clean_put (Group r due least ∷ q) f empty depth k t h n = none
clean_put (Group r due least ∷ q) f (tree g s es rest) depth k t h n =
    let d = and_true (is_of_c due) (is_fixed (separator_of r) && is_spelled q) k in
    let e = and_true (is_fixed (separator_of r)) (is_spelled q) d.1 in
    let b = and_true (is_neat f (separator_of r)) (is_tidy f q) t in
    let a = and_true (stands g sort.List && elements r due es) (fits q rest) h in
    let l = and_true (stands g sort.List) (elements r due es) a.0 in
    both (laid_elements (standing_of_group due) (if_any (token_in f (separator_of r))) least depth (heads (laid es))) _
    (clean_elements (standing_of_group due) (if_any (token_in f (separator_of r))) least depth (heads (laid es)) (neat_token f (separator_of r) b.0) (clean_heads due es d.0 n.1.0 (elements-stand r due es n.0.pure_parts l.1)))
    (clean_put q f rest depth e.1 b.1 a.1 n.1.1)
clean_put (Maybe c ∷ q) f ts depth k t h n = clean_put q f ts depth k t h n
clean_put (Then e ∷ q) f ts depth k t h n = clean_put q f ts depth k t h n
clean_put (TypeTokens ∷ q) f ts depth k t h n = clean_put q f ts depth k t h n
clean_put (KindName ∷ q) f ts depth k t h n = clean_put q f ts depth k t h n
clean_put (Rest due ∷ q) f ts depth k t h n = absurd cc
clean_put (Anything ∷ q) f ts depth k t h n = absurd cc

-- ---- rows that begin with a token

some_token : (f : Form) (o : Option Shape) (ms : List Mark) → has_token o ≡ true → is_some (if_any (token_in f o) ++ ms) ≡ true
some_token f None ms h = absurd cc
some_token f (Some t) ms h = refl

none_asked : (n : ℕ) → nat_lt 0 n ≡ true → nat_lt n 1 ≡ true → ⊥
none_asked n h k = let a : 0 < n = ltb-true 0 n h in let b : n < 1 = ltb-true n 1 k in omega arith

some_put : (q : List Piece) (f : Form) (ts : Forest) (depth : ℕ) → opens f q ≡ true → fits q ts ≡ true → Nodes ts → is_some (put q f (laid ts) depth) ≡ true
some_put (Token c ∷ q) f ts depth o h n = some_token f (shape_of c) (put q f (laid ts) depth) o
some_put (Own ∷ q) f ts depth o h n = some_token f (held f) (put q f (laid ts) depth) o
some_put (One due least ∷ q) f empty depth o h n = absurd cc
some_put (One due least ∷ q) f (tree g s ps rest) depth o h n =
    let k = and_true (stands g due) (fits q rest) h in
    some_before (part (standing_of_part f due) least depth (record { form = g; marks = marks_of g ps })) (put q f (laid rest) depth)
    (some_part (standing_of_part f due) least depth (record { form = g; marks = marks_of g ps }) (n.0.some (stands-solid g due n.0.plain o k.0)))
some_put (Group r due least ∷ q) f empty depth o h n = absurd cc
some_put (Group r due least ∷ q) f (tree g s empty rest) depth o h n =
    let b = and_true (is_solid due) (nat_lt 0 (least_of r)) o in
    let k = and_true _ (fits q rest) h in
    let l = and_true (stands g sort.List) (elements r due empty) k.0 in
    let m = and_true (cond (is_spliced r) (all_join due empty) (all_stand due empty) && nat_lt (least_of r) 1) (not (is_single r) || true) l.1 in
    absurd (none_asked (least_of r) b.1 (and_true (cond (is_spliced r) (all_join due empty) (all_stand due empty)) (nat_lt (least_of r) 1) m.0).1)
some_put (Group r due least ∷ q) f (tree g s (tree e t ps es) rest) depth o h n =
    let b = and_true (is_solid due) (nat_lt 0 (least_of r)) o in
    let k = and_true _ (fits q rest) h in
    let l = and_true (stands g sort.List) (elements r due (tree e t ps es)) k.0 in
    let m = and_true (stands e due) (all_stand due es) (elements-stand r due (tree e t ps es) n.0.pure_parts l.1) in
    some_before (laid_elements (standing_of_group due) (if_any (token_in f (separator_of r))) least depth (heads (laid (tree e t ps es)))) (put q f (laid rest) depth)
    (some_elements (standing_of_group due) (if_any (token_in f (separator_of r))) least depth (record { form = e; marks = marks_of e ps }) (heads (laid es)) (n.1.0.0.some (stands-solid e due n.1.0.0.plain b.0 m.0)))
some_put [] f ts depth o h n = absurd cc
some_put (Maybe c ∷ q) f ts depth o h n = absurd cc
some_put (Then e ∷ q) f ts depth o h n = absurd cc
some_put (TypeTokens ∷ q) f ts depth o h n = absurd cc
some_put (KindName ∷ q) f ts depth o h n = absurd cc
some_put (Rest due ∷ q) f ts depth o h n = absurd cc
some_put (Anything ∷ q) f ts depth o h n = absurd cc

-- ---- operands

record IsOperand (f : Form) (ps : Forest) : Type 0 where
  clean : (depth : ℕ) → Clean (marks_of f ps depth)
  some : (depth : ℕ) → is_some (marks_of f ps depth) ≡ true

operand : (f : Form) (ps : Forest) → Node f ps → stands f sort.Exp ≡ true → IsOperand f ps
operand f ps n h = record { clean = n.clean (stands-is_c f sort.Exp n.plain refl h); some = n.some (stands-solid f sort.Exp n.plain refl h) }

abbrev in_place : ℕ → ℕ → Form → Forest → List Mark
in_place least depth g ps = placed least depth (record { form = g; marks = marks_of g ps })

operand_placed : (least depth : ℕ) (g : Form) (ps : Forest) → IsOperand g ps → Clean (in_place least depth g ps)
operand_placed least depth g ps o = clean_placed least depth (record { form = g; marks = marks_of g ps }) o.clean

operand_some : (least depth : ℕ) (g : Form) (ps : Forest) → IsOperand g ps → is_some (in_place least depth g ps) ≡ true
operand_some least depth g ps o = some_placed least depth (record { form = g; marks = marks_of g ps }) o.some

-- the last operand of a row
last_clean : (least depth : ℕ) (g : Form) (ps : Forest) → IsOperand g ps → Clean (in_place least depth g ps ++ [])
last_clean least depth g ps o = both (in_place least depth g ps) [] (operand_placed least depth g ps o) none

last_some : (least depth : ℕ) (g : Form) (ps : Forest) → IsOperand g ps → is_some (in_place least depth g ps ++ []) ≡ true
last_some least depth g ps o = some_before (in_place least depth g ps) [] (operand_some least depth g ps o)

-- ---- the other rows

unary_no_point : (o : UnaryOperator) → is_point (shape.Punct (unary_token o)) ≡ false
unary_no_point unary.Plus = refl
unary_no_point _ = refl

unary_fresh : (o : UnaryOperator) → is_fresh (shape.Punct (unary_token o)) use_as.Prefix ≡ true
unary_fresh unary.Plus = refl
unary_fresh _ = refl

unary_clean : (o : UnaryOperator) (ts : Forest) (depth : ℕ) → fits (pieces (form.Exp (exp.Unary o))) ts ≡ true → Nodes ts → Clean (marks_of (form.Exp (exp.Unary o)) ts depth)
unary_clean o empty depth h n = absurd cc
unary_clean o (tree g s ps rest) depth h n =
    let x = operand g ps n.0 (and_true (stands g sort.Exp) (fits [] rest) h).0 in
    operator_operand (shape.Punct (unary_token o)) use_as.Prefix (in_place 14 depth g ps ++ []) (unary_no_point o) (unary_fresh o) (last_clean 14 depth g ps x) (last_some 14 depth g ps x)

binary_no_point : (o : BinaryOperator) → is_point (shape.Punct (binary_token o)) ≡ false
binary_no_point operator.LogicalOr = refl
binary_no_point _ = refl

binary_fresh : (o : BinaryOperator) → is_fresh (shape.Punct (binary_token o)) use_as.Plain ≡ true
binary_fresh operator.LogicalOr = refl
binary_fresh _ = refl

between_clean : (o : BinaryOperator) (i j : ℕ) (ts : Forest) (depth : ℕ) → fits (One sort.Exp i ∷ Own ∷ One sort.Exp j ∷ []) ts ≡ true → Nodes ts
    → Clean (put (One sort.Exp i ∷ Own ∷ One sort.Exp j ∷ []) (form.Exp (exp.Binary o)) (laid ts) depth)
between_clean o i j empty depth h n = absurd cc
between_clean o i j (tree f s ps empty) depth h n = absurd (let b = (and_true (stands f sort.Exp) false h).1 in cc)
between_clean o i j (tree f s ps (tree g t qs rest)) depth h n =
    let b = and_true (stands f sort.Exp) (stands g sort.Exp && fits [] rest) h in
    let x = operand f ps n.0 b.0 in
    let y = operand g qs n.1.1.0 (and_true (stands g sort.Exp) (fits [] rest) b.1).0 in
    both (in_place i depth f ps) _ (operand_placed i depth f ps x)
    (operator_operand (shape.Punct (binary_token o)) use_as.Plain (in_place j depth g qs ++ []) (binary_no_point o) (binary_fresh o) (last_clean j depth g qs y) (last_some j depth g qs y))

binary_clean : (o : BinaryOperator) (ts : Forest) (depth : ℕ) → fits (pieces (form.Exp (exp.Binary o))) ts ≡ true → Nodes ts → Clean (marks_of (form.Exp (exp.Binary o)) ts depth)
binary_clean operator.LogicalOr ts depth h n = between_clean operator.LogicalOr 4 5 ts depth h n
binary_clean operator.LogicalAnd ts depth h n = between_clean operator.LogicalAnd 5 6 ts depth h n
binary_clean operator.BitOr ts depth h n = between_clean operator.BitOr 6 7 ts depth h n
binary_clean operator.BitXor ts depth h n = between_clean operator.BitXor 7 8 ts depth h n
binary_clean operator.BitAnd ts depth h n = between_clean operator.BitAnd 8 9 ts depth h n
binary_clean operator.Equal ts depth h n = between_clean operator.Equal 9 10 ts depth h n
binary_clean operator.NotEqual ts depth h n = between_clean operator.NotEqual 9 10 ts depth h n
binary_clean operator.Less ts depth h n = between_clean operator.Less 10 11 ts depth h n
binary_clean operator.Greater ts depth h n = between_clean operator.Greater 10 11 ts depth h n
binary_clean operator.LessEqual ts depth h n = between_clean operator.LessEqual 10 11 ts depth h n
binary_clean operator.GreaterEqual ts depth h n = between_clean operator.GreaterEqual 10 11 ts depth h n
binary_clean operator.ShiftLeft ts depth h n = between_clean operator.ShiftLeft 11 12 ts depth h n
binary_clean operator.ShiftRight ts depth h n = between_clean operator.ShiftRight 11 12 ts depth h n
binary_clean operator.Add ts depth h n = between_clean operator.Add 12 13 ts depth h n
binary_clean operator.Subtract ts depth h n = between_clean operator.Subtract 12 13 ts depth h n
binary_clean operator.Multiply ts depth h n = between_clean operator.Multiply 13 14 ts depth h n
binary_clean operator.Divide ts depth h n = between_clean operator.Divide 13 14 ts depth h n
binary_clean operator.Remainder ts depth h n = between_clean operator.Remainder 13 14 ts depth h n

inc_clean : (ts : Forest) (depth : ℕ) → fits (pieces (form.Exp exp.PostInc)) ts ≡ true → Nodes ts → Clean (marks_of (form.Exp exp.PostInc) ts depth)
inc_clean empty depth h n = absurd cc
inc_clean (tree f s ps rest) depth h n =
    let x = operand f ps n.0 (and_true (stands f sort.Exp) (fits [] rest) h).0 in
    operand_suffix (in_place 16 depth f ps) (shape.Punct punct.PlusPlus) use_as.Postfix (operand_placed 16 depth f ps x) (operand_some 16 depth f ps x) refl

dec_clean : (ts : Forest) (depth : ℕ) → fits (pieces (form.Exp exp.PostDec)) ts ≡ true → Nodes ts → Clean (marks_of (form.Exp exp.PostDec) ts depth)
dec_clean empty depth h n = absurd cc
dec_clean (tree f s ps rest) depth h n =
    let x = operand f ps n.0 (and_true (stands f sort.Exp) (fits [] rest) h).0 in
    operand_suffix (in_place 16 depth f ps) (shape.Punct punct.MinusMinus) use_as.Postfix (operand_placed 16 depth f ps x) (operand_some 16 depth f ps x) refl

field_clean : (ts : Forest) (depth : ℕ) → fits (pieces (form.Exp exp.Field)) ts ≡ true → Nodes ts → Clean (marks_of (form.Exp exp.Field) ts depth)
field_clean empty depth h n = absurd cc
field_clean (tree f s ps empty) depth h n = absurd (let b = (and_true (stands f sort.Exp) false h).1 in cc)
field_clean (tree f s ps (tree g t qs rest)) depth h n =
    let b = and_true (stands f sort.Exp) (stands g sort.Id && fits [] rest) h in
    let x = operand f ps n.0 b.0 in
    let m = stands-id g n.1.1.0.plain (and_true (stands g sort.Id) (fits [] rest) b.1).0 in
    subst (λ g. Clean (marks_of (form.Exp exp.Field) (tree f s ps (tree g t qs rest)) depth)) (sym m.1)
    (operand_member (in_place 16 depth f ps) (shape.Punct punct.Dot) use_as.Plain m.0 use_as.Plain (operand_placed 16 depth f ps x) (operand_some 16 depth f ps x))

arrow_clean : (ts : Forest) (depth : ℕ) → fits (pieces (form.Exp exp.Arrow)) ts ≡ true → Nodes ts → Clean (marks_of (form.Exp exp.Arrow) ts depth)
arrow_clean empty depth h n = absurd cc
arrow_clean (tree f s ps empty) depth h n = absurd (let b = (and_true (stands f sort.Exp) false h).1 in cc)
arrow_clean (tree f s ps (tree g t qs rest)) depth h n =
    let b = and_true (stands f sort.Exp) (stands g sort.Id && fits [] rest) h in
    let x = operand f ps n.0 b.0 in
    let m = stands-id g n.1.1.0.plain (and_true (stands g sort.Id) (fits [] rest) b.1).0 in
    subst (λ g. Clean (marks_of (form.Exp exp.Arrow) (tree f s ps (tree g t qs rest)) depth)) (sym m.1)
    (operand_member (in_place 16 depth f ps) (shape.Punct punct.Arrow) use_as.Plain m.0 use_as.Plain (operand_placed 16 depth f ps x) (operand_some 16 depth f ps x))

special_exp : (e : ExpForm) (ts : Forest) (depth : ℕ) → is_special_exp e ≡ true → fits (pieces (form.Exp e)) ts ≡ true → Nodes ts → Clean (marks_of (form.Exp e) ts depth)
special_exp (exp.Unary o) ts depth k h n = unary_clean o ts depth h n
special_exp (exp.Binary o) ts depth k h n = binary_clean o ts depth h n
special_exp exp.Field ts depth k h n = field_clean ts depth h n
special_exp exp.Arrow ts depth k h n = arrow_clean ts depth h n
special_exp exp.PostInc ts depth k h n = inc_clean ts depth h n
special_exp exp.PostDec ts depth k h n = dec_clean ts depth h n
special_exp _ ts depth k h n = absurd cc

special : (f : Form) (ts : Forest) (depth : ℕ) → is_special f ≡ true → fits (pieces f) ts ≡ true → Nodes ts → Clean (marks_of f ts depth)
special (form.Exp e) ts depth k h n = special_exp e ts depth k h n
special _ ts depth k h n = absurd cc

row_clean : (b : Bool) (f : Form) (ts : Forest) (depth : ℕ) → is_special f ≡ b → is_c f ≡ true → fits (pieces f) ts ≡ true → Nodes ts → Clean (marks_of f ts depth)
row_clean true f ts depth k c h n = special f ts depth k h n
row_clean false f ts depth k c h n = clean_put (pieces f) f ts depth (spelled f c) (tidy f c k) h n

-- ---- all nodes

fits_if : (b : Bool) (o : Option Rule) → is_nothing (cond b o (Some Parts)) ≡ true → b ≡ true
fits_if true o h = refl
fits_if false o h = absurd cc

pub right-fits : (f : Form) (ps : Forest) → is_right f ps ≡ true → fits (pieces f) ps ≡ true
right-fits f ps h = fits_if (fits (pieces f) ps) (among_rules f ps) h

node : (f : Form) (ps : Forest) → is_plain f ≡ true → pure ps ≡ true → is_right f ps ≡ true → Nodes ps → Node f ps
node f ps p u r n =
    record {
      plain = p;
      pure_parts = u;
      clean = λ c. λ depth. row_clean (is_special f) f ps depth refl c (right-fits f ps r) n;
      some = λ k. λ depth. some_put (pieces f) f ps depth (solid_opens f p k) (right-fits f ps r) n;
    }

nodes : (t : Forest) → valid t ≡ true → pure t ≡ true → Nodes t
nodes empty v p = tt
nodes (tree f s ps rest) v p =
    let a = and_true (is_right f ps && valid ps) (valid rest) v in
    let b = and_true (is_right f ps) (valid ps) a.0 in
    let c = and_true (is_plain f && pure ps) (pure rest) p in
    let d = and_true (is_plain f) (pure ps) c.0 in
    let n = nodes ps b.1 d.1 in
    (node f ps d.0 d.1 b.0 n, (n, nodes rest a.1 c.1))

-- The layout of a valid tree of plain C is clean.
pub layout-clean : (t : Plain) → is_c t.form ≡ true → valid_tree t ≡ true → pure_tree t ≡ true → Clean (layout t)
layout-clean t c v p =
    let a = and_true (is_right t.form t.parts) (valid t.parts) v in
    let b = and_true (is_plain t.form) (pure t.parts) p in
    let n = nodes t.parts a.1 b.1 in
    both (line 0 ∷ []) _ (one_line 0) ((node t.form t.parts b.0 b.1 a.0 n).clean c 0)

-- So no two neighbours in it go on one another.
pub layout-free : (t : Plain) → is_c t.form ≡ true → valid_tree t ≡ true → pure_tree t ≡ true → AllFree (layout t)
layout-free t c v p = clean_free (layout t) (layout-clean t c v p) (layout-no_equal_prefix t)
