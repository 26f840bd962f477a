-- The first token of a tree.
use Rattle.std.proofs.Common.{◌≡◌, refl, sym, subst, ◌∙◌, ℕ, Bool, true, false, ◌&&◌, if◌then◌else◌, List, [], ◌∷◌, ◌++◌, append_assoc, Option, Some, None, nat_lt}
use Rattle.c_tokens.specs.declared.span.Span.{Span}
use Rattle.c_tokens.specs.declared.token.Word.{Word}
use Rattle.c_tokens.specs.declared.token.Shape.{Shape}
use Rattle.c_tokens.specs.declared.token.Shape.TheVariants as shape
use Rattle.c_tokens.specs.declared.token.Punct.{Punct}
use Rattle.c_tokens.specs.declared.token.Punct.TheVariants as punct
use Rattle.c_tokens.specs.declared.token.Key.{Key}
use Rattle.c_tokens.specs.declared.token.Key.TheVariants as key
use Rattle.c_forms.specs.declared.pieces.Sort.{Sort}
use Rattle.c_forms.specs.declared.pieces.Sort.TheVariants as s
use Rattle.c_forms.specs.declared.pieces.Repetition.TheVariants.{All, Many}
use Rattle.c_forms.specs.declared.pieces.Piece.{Piece}
use Rattle.c_forms.specs.declared.pieces.Piece.TheVariants.{Token, One}
use Rattle.ready_rows.proofs.Rows.{list_least, list_stand}
use Rattle.ready_rows.proofs.Steps.{append_nil}
use Rattle.c_forms.specs.declared.operators.UnaryOperator.{UnaryOperator}
use Rattle.c_forms.specs.declared.operators.UnaryOperator.TheVariants as unary
use Rattle.c_forms.specs.declared.operators.BinaryOperator.{BinaryOperator}
use Rattle.c_forms.specs.declared.operators.BinaryOperator.TheVariants as operator
use Rattle.c_forms.specs.declared.operators.StorageClass.{StorageClass}
use Rattle.c_forms.specs.declared.operators.StorageClass.TheVariants as storage
use Rattle.c_forms.specs.declared.operators.TypeQualifier.{TypeQualifier}
use Rattle.c_forms.specs.declared.operators.TypeQualifier.TheVariants as qualifier
use Rattle.c_forms.specs.declared.operators.BasicType.{BasicType}
use Rattle.c_forms.specs.declared.operators.BasicType.TheVariants as basic
use Rattle.c_forms.specs.declared.operators.StructOrUnion.{StructOrUnion}
use Rattle.c_forms.specs.declared.operators.StructOrUnion.TheVariants as struct
use Rattle.c_tokens.specs.declared.class.Class.TheVariants as class
use Rattle.c_forms.specs.declared.forms.Form.{Form}
use Rattle.c_forms.specs.declared.forms.Form.TheVariants as form
use Rattle.c_forms.specs.declared.forms.ExpForm.{ExpForm}
use Rattle.c_forms.specs.declared.forms.ExpForm.TheVariants as exp
use Rattle.c_forms.specs.declared.forms.SpecForm.TheVariants as spec
use Rattle.c_forms.specs.declared.forms.StmtForm.TheVariants as stmt
use Rattle.c_forms.specs.declared.forms.TemplateForm.TheVariants as template
use Rattle.c_forms.specs.declared.forms.GroupForm.TheVariants as group
use Rattle.c_forms.specs.declared.rules.Rule.{Rule}
use Rattle.c_forms.specs.Forests.{Plain, Forest, empty, tree}
use Rattle.c_forms.specs.Fits.{fits, all_stand, elements}
use Rattle.c_forms.specs.Measures.{is_plain, level, pieces}
use Rattle.c_forms.specs.Places.{stands}
use Rattle.c_forms.specs.Rules.{is_right, is_nothing, among_rules}
use Rattle.c_forms.specs.Tokens.{unary_token, storage_token, qualifier_token, basic_token, group_token}
use Rattle.c_trees.specs.Counts.{pure}
use Rattle.c_trees.specs.Valid.{valid}
use Rattle.c_layout.specs.Spelled.{spell, all_spelled, tokens}
use Rattle.scope_tables.specs.declared.table.WordClass.TheVariants.{Value}
use Rattle.scope_meanings.specs.declared.meaning.NameUse.TheVariants as naming
use Rattle.scopes.specs.declared.event.Event.{Event}
use Rattle.scopes.specs.declared.event.Event.TheVariants.{Must}
use Rattle.scopes.specs.Events.{events_of}
use Rattle.spelled_trees.proofs.Parts.{left_of, right_of}
use Rattle.ready_rows.proofs.Ready.{the_tree, placed, others}
use Rattle.ready_rows.proofs.Standing.{begins_else}

-- ---- validity

fits_by : (b : Bool) (o : Option Rule) (r : Rule) → is_nothing (if b then o else Some r) ≡ true → b ≡ true
fits_by true o r e = refl
fits_by false o r e = absurd (cc e)

pub right_fits : (f : Form) (ps : Forest) → is_right f ps ≡ true → fits (pieces f) ps ≡ true
right_fits f ps e = fits_by (fits (pieces f) ps) (among_rules f ps) _ e

rules_by : (b : Bool) (o : Option Rule) (r : Rule) → is_nothing (if b then o else Some r) ≡ true → is_nothing o ≡ true
rules_by true o r e = e
rules_by false o r e = absurd (cc e)

pub right_rules : (f : Form) (ps : Forest) → is_right f ps ≡ true → is_nothing (among_rules f ps) ≡ true
right_rules f ps e = rules_by (fits (pieces f) ps) (among_rules f ps) _ e

-- ---- expressions

abbrev pub begins_exp_sign : Punct → Bool
begins_exp_sign punct.LeftParen = true
begins_exp_sign punct.Ampersand = true
begins_exp_sign punct.Star = true
begins_exp_sign punct.Plus = true
begins_exp_sign punct.Minus = true
begins_exp_sign punct.Tilde = true
begins_exp_sign punct.Exclamation = true
begins_exp_sign punct.PlusPlus = true
begins_exp_sign punct.MinusMinus = true
begins_exp_sign p = false

abbrev pub begins_exp_key : Key → Bool
begins_exp_key key.Sizeof = true
begins_exp_key k = false

-- what an expression begins with that is no word
abbrev pub begins_exp : Shape → Bool
begins_exp (shape.Int w) = true
begins_exp (shape.Float w) = true
begins_exp (shape.Char w) = true
begins_exp (shape.Str w) = true
begins_exp (shape.Punct p) = begins_exp_sign p
begins_exp (shape.Key k) = begins_exp_key k
begins_exp x = false

unary_begins : (o : UnaryOperator) → begins_exp_sign (unary_token o) ≡ true
unary_begins unary.Address = refl
unary_begins o = refl

-- an expression's form
pub exp_form : (f : Form) → is_plain f ≡ true → stands f s.Exp ≡ true → (g : ExpForm) × (f ≡ form.Exp g)
exp_form (form.Exp g) p e = (g, refl)
exp_form (form.Hole h) p e = absurd (cc p)
exp_form (form.Call n gives tail) p e = absurd (cc p)
exp_form (form.Spec (spec.Storage c)) p e = absurd (cc e)
exp_form (form.Spec (spec.Qualifier q)) p e = absurd (cc e)
exp_form (form.Stmt stmt.Block) p e = absurd (cc e)
exp_form (form.Template (template.Many k)) p e = absurd (cc e)
exp_form (form.Group group.List) p e = absurd (cc e)
exp_form f p e = absurd (cc e)

pub literal_form : (f : Form) → is_plain f ≡ true → stands f s.Literal ≡ true → (w : Word) × (f ≡ form.Literal w)
literal_form (form.Literal w) p e = (w, refl)
literal_form (form.Hole h) p e = absurd (cc p)
literal_form (form.Call n gives tail) p e = absurd (cc p)
literal_form (form.Exp (exp.Int w)) p e = absurd (cc e)
literal_form (form.Spec (spec.Storage c)) p e = absurd (cc e)
literal_form (form.Spec (spec.Qualifier q)) p e = absurd (cc e)
literal_form (form.Stmt stmt.Block) p e = absurd (cc e)
literal_form (form.Template (template.Many k)) p e = absurd (cc e)
literal_form (form.Group group.List) p e = absurd (cc e)
literal_form f p e = absurd (cc e)

-- what holds of parentheses and of tokens, holds of a part
pub placed_head : (P : List Shape → Type 0) (least : ℕ) (t : Plain) (xs : List Shape) → ((ys : List Shape) → P (shape.Punct punct.LeftParen ∷ ys)) → P (tokens t ++ xs) → P (placed least t ++ xs)
placed_head P least t xs left h = by_level (nat_lt (level t.form) least)
  where
    by_level : (b : Bool) → P ((if b then shape.Punct punct.LeftParen ∷ (tokens t ++ shape.Punct punct.RightParen ∷ []) else tokens t) ++ xs)
    by_level true = left _
    by_level false = h

-- a tree that is right where a sort is due
pub record Good (due : Sort) (t : Plain) : Type 0 where
  pub is_plain : is_plain t.form ≡ true
  pub pure : pure t.parts ≡ true
  pub stands : stands t.form due ≡ true
  pub right : is_right t.form t.parts ≡ true
  pub valid : valid t.parts ≡ true

pub first_good : (due : Sort) (g : Form) (gp : Span) (qs rest : Forest) → pure (tree g gp qs rest) ≡ true → valid (tree g gp qs rest) ≡ true → stands g due ≡ true → Good due (the_tree g gp qs)
first_good due g gp qs rest p v e = let a = left_of (is_plain g && pure qs) (pure rest) p in let b = left_of (is_right g qs && valid qs) (valid rest) v in
    record { is_plain = left_of (is_plain g) (pure qs) a; pure = right_of (is_plain g) (pure qs) a; stands = e; right = left_of (is_right g qs) (valid qs) b; valid = right_of (is_right g qs) (valid qs) b }

pub good_fits : (due : Sort) (t : Plain) → Good due t → fits (pieces t.form) t.parts ≡ true
good_fits due t n = right_fits t.form t.parts n.right

abbrev pub after_group : List Piece → List Piece
after_group [] = []
after_group (p ∷ ps) = ps

pub none_less : nat_lt 1 1 ≡ true → ⊥
none_less e = cc e

-- rows that begin with an expression
abbrev is_led : List Piece → Bool
is_led (One s.Exp least ∷ ps) = true
is_led ps = false

led_by : (ps : List Piece) → is_led ps ≡ true → (least : ℕ) × ((more : List Piece) × (ps ≡ One s.Exp least ∷ more))
led_by (One s.Exp least ∷ ps) e = (least, (ps, refl))
led_by (One due least ∷ ps) e = absurd (cc e)
led_by [] e = absurd (cc e)
led_by (p ∷ ps) e = absurd (cc e)

led_empty : (f : ExpForm) → is_led (pieces (form.Exp f)) ≡ true → fits (pieces (form.Exp f)) empty ≡ true → ⊥
led_empty f l t = let o = led_by (pieces (form.Exp f)) l in let t' : fits (One s.Exp o.0 ∷ o.1.0) empty ≡ true = subst (λ ps. fits ps empty ≡ true) o.1.1 t in cc t'

-- the elements of a list
pub parts_of : (g : Form) (gp : Span) (es rest : Forest) → pure (tree g gp es rest) ≡ true → valid (tree g gp es rest) ≡ true → (pure es ≡ true) × (valid es ≡ true)
parts_of g gp es rest p v = (right_of (is_plain g) (pure es) (left_of (is_plain g && pure es) (pure rest) p), right_of (is_right g es) (valid es) (left_of (is_right g es && valid es) (valid rest) v))

binary_led : (o : BinaryOperator) → is_led (pieces (form.Exp (exp.Binary o))) ≡ true
binary_led operator.LogicalOr = refl
binary_led o = refl

-- What holds of whatever begins with a token that begins an expression, and of a word whose event is asked first, holds of
-- an expression.
module _ (P : List Shape → Type 0) (Q : List Event → Type 0) (front : (xs ys : List Event) → Q (xs ++ ys) → Q xs) (fixed : (x : Shape) (xs : List Shape) → begins_exp x ≡ true → P (x ∷ xs))
    (word : (w : Word) (sp : Span) (xs : List Shape) → Q (Must w Value sp ∷ []) → P (shape.Word w ∷ xs)) where
  lead : (least : ℕ) (t : Plain) (more xs : List Shape) → P (tokens t ++ (more ++ xs)) → P ((placed least t ++ more) ++ xs)
  lead least t more xs h = subst P (sym (append_assoc (placed least t) more xs)) (placed_head P least t (more ++ xs) (λ ys. fixed (shape.Punct punct.LeftParen) ys refl) h)

  -- where the first part is an expression
  led : (f : ExpForm) (g : Form) (gp : Span) (qs rest : Forest) → is_led (pieces (form.Exp f)) ≡ true → fits (pieces (form.Exp f)) (tree g gp qs rest) ≡ true → ((xs : List Shape) → stands g s.Exp ≡ true → P (tokens (the_tree g gp qs) ++ xs))
      → (xs : List Shape) → P (spell (pieces (form.Exp f)) (form.Exp f) (all_spelled (tree g gp qs rest)) ++ xs)
  led f g gp qs rest l t h xs =
      let o = led_by (pieces (form.Exp f)) l in
      let t' : fits (One s.Exp o.0 ∷ o.1.0) (tree g gp qs rest) ≡ true = subst (λ ps. fits ps (tree g gp qs rest) ≡ true) o.1.1 t in
      subst (λ ps. P (spell ps (form.Exp f) (all_spelled (tree g gp qs rest)) ++ xs)) (sym o.1.1)
      (lead o.0 (the_tree g gp qs) (spell o.1.0 (form.Exp f) (all_spelled rest)) xs (h (spell o.1.0 (form.Exp f) (all_spelled rest) ++ xs) (left_of (stands g s.Exp) (fits o.1.0 rest) t')))

  str_head : (l : Form) (lp : Span) (rs : Forest) (more xs : List Shape) → Good s.Literal (the_tree l lp rs) → P ((placed 0 (the_tree l lp rs) ++ more) ++ xs)
  str_head l lp rs more xs n = let o = literal_form l n.is_plain n.stands in subst (λ l. P ((placed 0 (the_tree l lp rs) ++ more) ++ xs)) (sym o.1) (fixed (shape.Str o.0) _ refl)

  pub exp_head : (f : Form) (sp : Span) (ps : Forest) → Good s.Exp (the_tree f sp ps) → Q (events_of naming.Nothing (the_tree f sp ps)) → (xs : List Shape) → P (tokens (the_tree f sp ps) ++ xs)
  exp_head (form.Exp (exp.Name w)) sp empty n q xs = word w sp xs q
  exp_head (form.Exp (exp.Name w)) sp (tree g gp qs rest) n q xs = absurd (cc (good_fits s.Exp _ n))
  exp_head (form.Exp (exp.Int w)) sp ps n q xs = fixed (shape.Int w) xs refl
  exp_head (form.Exp (exp.Float w)) sp ps n q xs = fixed (shape.Float w) xs refl
  exp_head (form.Exp (exp.Char w)) sp ps n q xs = fixed (shape.Char w) xs refl
  exp_head (form.Exp exp.Str) sp empty n q xs = absurd (cc (good_fits s.Exp _ n))
  exp_head (form.Exp exp.Str) sp (tree g gp empty rest) n q xs = absurd (none_less (list_least (Many None 1) s.Literal empty (right_of (stands g s.List) (elements (Many None 1) s.Literal empty) (left_of _ _ (good_fits s.Exp _ n)))))
  exp_head (form.Exp exp.Str) sp (tree g gp (tree l lp rs more) rest) n q xs =
      let a = parts_of g gp (tree l lp rs more) rest n.pure n.valid in
      subst (λ ys. P (ys ++ xs)) (sym (append_nil _)) (str_head l lp rs _ xs (first_good s.Literal l lp rs more a.0 a.1 (left_of (stands l s.Literal) (all_stand s.Literal more) (list_stand (Many None 1) s.Literal (tree l lp rs more) (right_of (stands g s.List) (elements (Many None 1) s.Literal (tree l lp rs more)) (left_of _ _ (good_fits s.Exp _ n)))))))
  exp_head (form.Exp exp.PreInc) sp ps n q xs = fixed (shape.Punct punct.PlusPlus) _ refl
  exp_head (form.Exp exp.PreDec) sp ps n q xs = fixed (shape.Punct punct.MinusMinus) _ refl
  exp_head (form.Exp (exp.Unary o)) sp ps n q xs = fixed (shape.Punct (unary_token o)) _ (unary_begins o)
  exp_head (form.Exp exp.SizeofExp) sp ps n q xs = fixed (shape.Key key.Sizeof) _ refl
  exp_head (form.Exp exp.SizeofType) sp ps n q xs = fixed (shape.Key key.Sizeof) _ refl
  exp_head (form.Exp exp.Cast) sp ps n q xs = fixed (shape.Punct punct.LeftParen) _ refl
  exp_head (form.Exp (exp.Binary o)) sp empty n q xs = absurd (led_empty (exp.Binary o) (binary_led o) (good_fits s.Exp _ n))
  exp_head (form.Exp (exp.Binary o)) sp (tree g gp qs rest) n q xs = led (exp.Binary o) g gp qs rest (binary_led o) (good_fits s.Exp _ n) (λ xs e. exp_head g gp qs (first_good s.Exp g gp qs rest n.pure n.valid e) (front _ _ (front _ _ q)) xs) xs
  exp_head (form.Exp f) sp empty n q xs = absurd (cc (good_fits s.Exp _ n))
  exp_head (form.Exp f) sp (tree g gp qs rest) n q xs = led f g gp qs rest refl (good_fits s.Exp _ n) (λ xs e. exp_head g gp qs (first_good s.Exp g gp qs rest n.pure n.valid e) (front _ _ (front _ _ q)) xs) xs
  exp_head (form.Hole h) sp ps n q xs = absurd (cc n.is_plain)
  exp_head (form.Call m gives tail) sp ps n q xs = absurd (cc n.is_plain)
  exp_head (form.Spec (spec.Storage c)) sp ps n q xs = absurd (cc n.stands)
  exp_head (form.Spec (spec.Qualifier k)) sp ps n q xs = absurd (cc n.stands)
  exp_head (form.Stmt stmt.Block) sp ps n q xs = absurd (cc n.stands)
  exp_head (form.Template (template.Many k)) sp ps n q xs = absurd (cc n.stands)
  exp_head (form.Group group.List) sp ps n q xs = absurd (cc n.stands)
  exp_head f sp ps n q xs = absurd (cc n.stands)

-- ---- items of a block

abbrev NoElse : List Shape → Type 0
NoElse xs = begins_else xs ≡ false

no_else_sign : (x : Shape) (xs : List Shape) → begins_exp x ≡ true → NoElse (x ∷ xs)
no_else_sign (shape.Key key.Sizeof) xs e = refl
no_else_sign (shape.Key k) xs e = absurd (cc e)
no_else_sign x xs e = refl

exp_no_else : (f : Form) (sp : Span) (ps : Forest) → Good s.Exp (the_tree f sp ps) → (xs : List Shape) → NoElse (tokens (the_tree f sp ps) ++ xs)
exp_no_else f sp ps n xs = exp_head NoElse (λ es. Unit {0}) (λ xs ys q. tt) no_else_sign (λ w sp xs q. refl) f sp ps n tt xs

storage_no_else : (c : StorageClass) (xs : List Shape) → NoElse (shape.Key (storage_token c) ∷ xs)
storage_no_else storage.Typedef xs = refl
storage_no_else c xs = refl

qualifier_no_else : (c : TypeQualifier) (xs : List Shape) → NoElse (shape.Key (qualifier_token c) ∷ xs)
qualifier_no_else qualifier.Const xs = refl
qualifier_no_else c xs = refl

basic_no_else : (c : BasicType) (xs : List Shape) → NoElse (shape.Key (basic_token c) ∷ xs)
basic_no_else basic.Void xs = refl
basic_no_else c xs = refl

group_no_else : (c : StructOrUnion) (xs : List Shape) → NoElse (shape.Key (group_token c) ∷ xs)
group_no_else struct.Struct xs = refl
group_no_else c xs = refl

spec_no_else : (f : Form) (sp : Span) (ps : Forest) → Good s.Spec (the_tree f sp ps) → (xs : List Shape) → NoElse (tokens (the_tree f sp ps) ++ xs)
spec_no_else (form.Spec (spec.Storage storage.Typedef)) sp ps n xs = refl
spec_no_else (form.Spec (spec.Storage c)) sp ps n xs = refl
spec_no_else (form.Spec (spec.Qualifier c)) sp ps n xs = qualifier_no_else c xs
spec_no_else (form.Spec (spec.Basic c)) sp ps n xs = basic_no_else c xs
spec_no_else (form.Spec (spec.Typedef w)) sp ps n xs = refl
spec_no_else (form.Spec (spec.StructOf c)) sp ps n xs = group_no_else c _
spec_no_else (form.Spec spec.EnumOf) sp ps n xs = refl
spec_no_else (form.Hole h) sp ps n xs = absurd (cc n.is_plain)
spec_no_else (form.Call m gives tail) sp ps n xs = absurd (cc n.is_plain)
spec_no_else (form.Exp (exp.Int w)) sp ps n xs = absurd (cc n.stands)
spec_no_else (form.Stmt stmt.Block) sp ps n xs = absurd (cc n.stands)
spec_no_else (form.Template (template.Many k)) sp ps n xs = absurd (cc n.stands)
spec_no_else (form.Group group.List) sp ps n xs = absurd (cc n.stands)
spec_no_else f sp ps n xs = absurd (cc n.stands)

-- an identifier's form
pub id_form : (f : Form) → is_plain f ≡ true → stands f s.Id ≡ true → (w : Word) × (f ≡ form.Id w)
id_form (form.Id w) p e = (w, refl)
id_form (form.Hole h) p e = absurd (cc p)
id_form (form.Call n gives tail) p e = absurd (cc p)
id_form (form.Exp (exp.Int w)) p e = absurd (cc e)
id_form (form.Spec (spec.Storage c)) p e = absurd (cc e)
id_form (form.Spec (spec.Qualifier q)) p e = absurd (cc e)
id_form (form.Stmt stmt.Block) p e = absurd (cc e)
id_form (form.Template (template.Many k)) p e = absurd (cc e)
id_form (form.Group group.List) p e = absurd (cc e)
id_form f p e = absurd (cc e)

id_no_else : (least : ℕ) (f : Form) (sp : Span) (ps : Forest) (more xs : List Shape) → Good s.Id (the_tree f sp ps) → NoElse ((placed least (the_tree f sp ps) ++ more) ++ xs)
id_no_else least f sp ps more xs n = let o = id_form f n.is_plain n.stands in subst NoElse (sym (append_assoc (placed least (the_tree f sp ps)) more xs))
    (placed_head NoElse least (the_tree f sp ps) (more ++ xs) (λ ys. refl) (subst (λ f. NoElse (tokens (the_tree f sp ps) ++ (more ++ xs))) (sym o.1) refl))

-- no item of a block begins with `else`
pub item_no_else : (f : Form) (sp : Span) (ps : Forest) → Good s.BlockItem (the_tree f sp ps) → (xs : List Shape) → NoElse (tokens (the_tree f sp ps) ++ xs)
item_no_else (form.Stmt stmt.Label) sp empty n xs = absurd (cc (good_fits s.BlockItem _ n))
item_no_else (form.Stmt stmt.Label) sp (tree g gp qs rest) n xs = id_no_else 0 g gp qs _ xs (first_good s.Id g gp qs rest n.pure n.valid (left_of (stands g s.Id) _ (good_fits s.BlockItem _ n)))
item_no_else (form.Stmt stmt.Express) sp empty n xs = absurd (cc (good_fits s.BlockItem _ n))
item_no_else (form.Stmt stmt.Express) sp (tree g gp qs rest) n xs = let more : List Shape = spell (Token (class.Punct punct.Semicolon) ∷ []) (form.Stmt stmt.Express) (all_spelled rest) in
    subst NoElse (sym (append_assoc (placed 1 (the_tree g gp qs)) more xs)) (placed_head NoElse 1 (the_tree g gp qs) (more ++ xs) (λ ys. refl) (exp_no_else g gp qs (first_good s.Exp g gp qs rest n.pure n.valid (left_of (stands g s.Exp) _ (good_fits s.BlockItem _ n))) (more ++ xs)))
item_no_else (form.Stmt f) sp ps n xs = refl
item_no_else form.Decl sp empty n xs = absurd (cc (good_fits s.BlockItem _ n))
item_no_else form.Decl sp (tree g gp empty rest) n xs = absurd (none_less (list_least All s.Spec empty (right_of (stands g s.List) (elements All s.Spec empty) (left_of _ _ (good_fits s.BlockItem _ n)))))
item_no_else form.Decl sp (tree g gp (tree l lp rs more) rest) n xs =
    let a = parts_of g gp (tree l lp rs more) rest n.pure n.valid in
    let e = left_of (stands l s.Spec) (all_stand s.Spec more) (list_stand All s.Spec (tree l lp rs more) (right_of (stands g s.List) (elements All s.Spec (tree l lp rs more)) (left_of _ _ (good_fits s.BlockItem _ n)))) in
    let t : Plain = the_tree l lp rs in
    let ys : List Shape = others None 0 more in
    let zs : List Shape = spell (after_group (pieces form.Decl)) form.Decl (all_spelled rest) in
    subst NoElse (sym (append_assoc (placed 0 t ++ ys) zs xs ∙ append_assoc (placed 0 t) ys (zs ++ xs))) (placed_head NoElse 0 t (ys ++ (zs ++ xs)) (λ ys. refl) (spec_no_else l lp rs (first_good s.Spec l lp rs more a.0 a.1 e) (ys ++ (zs ++ xs))))
item_no_else (form.Hole h) sp ps n xs = absurd (cc n.is_plain)
item_no_else (form.Call m gives tail) sp ps n xs = absurd (cc n.is_plain)
item_no_else (form.Exp (exp.Int w)) sp ps n xs = absurd (cc n.stands)
item_no_else (form.Spec (spec.Storage c)) sp ps n xs = absurd (cc n.stands)
item_no_else (form.Spec (spec.Qualifier q)) sp ps n xs = absurd (cc n.stands)
item_no_else (form.Template (template.Many k)) sp ps n xs = absurd (cc n.stands)
item_no_else (form.Group group.List) sp ps n xs = absurd (cc n.stands)
item_no_else f sp ps n xs = absurd (cc n.stands)
