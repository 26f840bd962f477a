-- The tokens of a row spell the node, where each part is ready and what is ready is spelled.
use Rattle.std.proofs.Common.{◌≡◌, ◌≤◌, refl, ap, sym, subst, ◌∙◌, inl, inr, ℕ, suc, ◌+◌, max, Bool, true, false, not, ◌&&◌, ◌||◌, if◌then◌else◌, List, [], ◌∷◌, ◌++◌, append_assoc, Option, Some, None, nat_lt, arith}
use Rattle.std.specs.Prelude.{is_some}
use Rattle.c_tokens.specs.declared.span.Span.{Span}
use Rattle.c_tokens.specs.declared.token.Shape.{Shape}
use Rattle.c_tokens.specs.declared.class.Class.{Class}
use Rattle.c_tokens.specs.declared.class.Class.TheVariants as class
use Rattle.c_forms.specs.declared.pieces.Sort.{Sort}
use Rattle.c_forms.specs.declared.pieces.Sort.TheVariants as s
use Rattle.c_forms.specs.declared.pieces.Repetition.{Repetition}
use Rattle.c_forms.specs.declared.pieces.Repetition.TheVariants.{Optional, Greedy, Due, All, Any, Many, Spliced, Ended}
use Rattle.c_forms.specs.declared.pieces.Piece.{Piece}
use Rattle.c_forms.specs.declared.pieces.Piece.TheVariants.{Token, Maybe, Own, TypeTokens, KindName, One, Group, Rest, Anything, Then}
use Rattle.c_forms.specs.declared.forms.Form.{Form}
use Rattle.c_forms.specs.declared.forms.Form.TheVariants as form
use Rattle.c_forms.specs.declared.forms.ExpForm.TheVariants as exp
use Rattle.c_forms.specs.declared.forms.SpecForm.TheVariants as spec
use Rattle.c_forms.specs.declared.forms.StmtForm.TheVariants as stmt
use Rattle.c_forms.specs.declared.forms.TemplateForm.TheVariants as template
use Rattle.c_forms.specs.declared.forms.GroupForm.TheVariants as group
use Rattle.c_forms.specs.Forests.{Plain, Forest, empty, tree, forest, node}
use Rattle.c_forms.specs.Fits.{fits, elements, all_stand, all_join, number, least_of, is_single, is_spliced, is_list_of}
use Rattle.c_forms.specs.Measures.{is_plain, star}
use Rattle.c_forms.specs.declared.places.Occupant.{Occupant}
use Rattle.c_forms.specs.declared.places.Occupant.TheVariants as what
use Rattle.c_forms.specs.Places.{serves, stands, stands_as, occupant_of, joins}
use Rattle.c_forms.specs.Rules.{is_none, is_right}
use Rattle.c_forms.specs.Sets.{Classes, has, starts, held_class}
use Rattle.c_forms.specs.Tokens.{held}
use Rattle.c_reader.specs.States.{State, happens}
use Rattle.c_reader.specs.States as States
use Rattle.c_reader.specs.Tokens.{Spot, step, turned, raw_at}
use Rattle.c_syntax.specs.Reading.{Before, Usual, before_by, is_absent_form, is_absent, inside, spanned, the_list, separator_of}
use Rattle.c_syntax.specs.Spells.{Spelling, Is, Separated, Chain, Elements, IsGroup, NoneBegins, Matches}
use Rattle.c_trees.specs.Counts.{pure, high, high_tree}
use Rattle.c_trees.specs.Valid.{valid}
use Rattle.c_layout.specs.Marks.{shape_of, shape_if, if_any}
use Rattle.c_layout.specs.Marks as Marks
use Rattle.c_layout.specs.Spelled.{spell, all_spelled, wholes, separated}
use Rattle.spelled_scopes.specs.Agreement.{no_span, unspanned, Alike}
use Rattle.spelled_trees.proofs.Parts.{left_of, right_of, is_low}
use Rattle.spelled_trees.proofs.Fitted.{is_fine, inside_is}
use Rattle.ready_rows.specs.Printed.{Run}
use Rattle.ready_rows.proofs.Runs.{Cut, cut, joined}
use Rattle.ready_rows.proofs.Ready as ready
use Rattle.ready_rows.proofs.Ready.{the_tree, placed, others, past, IsOff, IsOwn}

-- ---- tokens that are fixed

abbrev pub is_fixed : Class → Bool
is_fixed c = is_some (shape_of c)

abbrev pub is_fixed_if : Option Class → Bool
is_fixed_if None = true
is_fixed_if (Some c) = is_fixed c

pub fixed : (w : List Shape) (c : Class) (i : Spot) (xs : List Shape) (m : ℕ) → is_fixed c ≡ true → Run w i.place (if_any (shape_of c) ++ xs) m → Is w c i × Run w (i.place + 1) xs m
fixed w (class.Key k) i xs m f r = (ap (States.class i.state) r.0, r.1)
fixed w (class.Punct p) i xs m f r = (ap (States.class i.state) r.0, r.1)
fixed w (class.Mark q) i xs m f r = (ap (States.class i.state) r.0, r.1)
fixed w c i xs m f r = absurd (cc f)

separator : (w : List Shape) (c : Option Class) (i : Spot) (xs : List Shape) (m : ℕ) → is_fixed_if c ≡ true → Run w i.place (if_any (shape_if c) ++ xs) m → Separated w c i (past c i) × Run w (past c i).place xs m
separator w None i xs m f r = (refl, r)
separator w (Some c) i xs m f r = let g = fixed w c i xs m f r in ((g.0, refl), g.1)

pub off : (w : List Shape) (begin : Classes) (j : Spot) (m r : ℕ) (after : List Shape) → j.place ≡ m → Run w m after r → IsOff begin j.state after → NoneBegins w begin j
off w begin j m r [] p a o = absurd o
off w begin j m r (x ∷ xs) p a o = ap (λ n. has begin (States.class j.state (raw_at w n))) p ∙ ap (λ y. has begin (States.class j.state y)) a.0 ∙ o

marks_separator : (r : Repetition) → Marks.separator_of r ≡ shape_if (separator_of r)
marks_separator Optional = refl
marks_separator Greedy = refl
marks_separator Due = refl
marks_separator All = refl
marks_separator Any = refl
marks_separator (Many c n) = refl
marks_separator (Spliced c n) = refl
marks_separator (Ended c e) = refl

-- ---- trees that are equal but for their spans

pub one_more : (f : Form) (sp : Span) (ps rest : Forest) (v : Plain) (vs : List Plain) → Alike (the_tree f sp ps) v → unspanned rest ≡ unspanned (forest vs) → unspanned (tree f sp ps rest) ≡ unspanned (forest (v ∷ vs))
one_more f sp ps rest v vs a e = ap (λ f. tree f no_span (unspanned ps) (unspanned rest)) a.0 ∙ ap (λ ps. tree v.form no_span ps (unspanned rest)) a.1 ∙ ap (λ rest. tree v.form no_span (unspanned v.parts) rest) e

none_bare : (es : Forest) → is_none (unspanned es) ≡ is_none es
none_bare empty = refl
none_bare (tree f sp ps rest) = refl

same_none : (es : Forest) (vs : List Plain) → unspanned es ≡ unspanned (forest vs) → is_none es ≡ is_none (forest vs)
same_none es vs e = sym (none_bare es) ∙ ap is_none e ∙ none_bare (forest vs)

-- ---- what may stand among elements

joins_plain : (f : Form) (due : Sort) → is_plain f ≡ true → joins f due ≡ true → stands f due ≡ true
joins_plain (form.Hole h) due p j = absurd (cc p)
joins_plain (form.Call n gives tail) due p j = absurd (cc p)
joins_plain f due p j = j

all_plain : (due : Sort) (es : Forest) → pure es ≡ true → all_join due es ≡ true → all_stand due es ≡ true
all_plain due empty p j = refl
all_plain due (tree f sp ps rest) p j = let a = left_of (is_plain f && pure ps) (pure rest) p in
    rw (joins_plain f due (left_of (is_plain f) (pure ps) a) (left_of (joins f due) (all_join due rest) j), all_plain due rest (right_of (is_plain f && pure ps) (pure rest) p) (right_of (joins f due) (all_join due rest) j)) refl

pub stand_by : (b : Bool) (due : Sort) (es : Forest) → pure es ≡ true → (if b then all_join due es else all_stand due es) ≡ true → all_stand due es ≡ true
stand_by true due es p e = all_plain due es p e
stand_by false due es p e = e

-- a declarator inside one is of its sort
inner_stands : (own : Sort) (o : Occupant) → serves s.Declarator own ≡ true → stands_as o s.InnerDeclarator ≡ true → stands_as o (inside own s.InnerDeclarator) ≡ true
inner_stands s.Declarator (what.Sort a) h k = k
inner_stands s.Declarator (what.One a) h k = k
inner_stands s.Declarator o h k = absurd (cc k)
inner_stands s.AbstractDeclarator (what.Sort a) h k = k
inner_stands s.AbstractDeclarator (what.One a) h k = k
inner_stands s.AbstractDeclarator o h k = absurd (cc k)
inner_stands s.ParamDeclarator (what.Sort a) h k = k
inner_stands s.ParamDeclarator (what.One a) h k = k
inner_stands s.ParamDeclarator o h k = absurd (cc k)
inner_stands s.MemberName (what.Sort a) h k = k
inner_stands s.MemberName (what.One a) h k = k
inner_stands s.MemberName o h k = absurd (cc k)
inner_stands s.InnerDeclarator o h k = k
inner_stands own o h k = absurd (cc h)

after_one : (own due : Sort) (least : ℕ) (ps : List Piece) → is_fine own (One due least ∷ ps) ≡ true → is_fine own ps ≡ true
after_one own s.InnerDeclarator least ps h = right_of (serves s.Declarator own) (is_fine own ps) h
after_one own due least ps h = h

pub list_form : (g : Form) → is_plain g ≡ true → stands g s.List ≡ true → g ≡ the_list
list_form (form.Group group.List) p e = refl
list_form (form.Group g) p e = absurd (cc e)
list_form (form.Hole h) p e = absurd (cc p)
list_form (form.Call n gives tail) p e = absurd (cc p)
list_form (form.Exp (exp.Int w)) p e = absurd (cc e)
list_form (form.Spec (spec.Storage c)) p e = absurd (cc e)
list_form (form.Spec (spec.Qualifier q)) p e = absurd (cc e)
list_form (form.Stmt stmt.Block) p e = absurd (cc e)
list_form (form.Template (template.Many k)) p e = absurd (cc e)
list_form g p e = absurd (cc e)

stands_inside : (own due : Sort) (least : ℕ) (ps : List Piece) (f : Form) → is_fine own (One due least ∷ ps) ≡ true → stands f due ≡ true → stands f (inside own due) ≡ true
stands_inside own s.InnerDeclarator least ps f h k = inner_stands own (occupant_of f) (left_of (serves s.Declarator own) (is_fine own ps) h) k
stands_inside own due least ps f h k = rw (inside_is own due) k

-- ---- rows that can be printed

-- each token is fixed, and each part is of a sort that is low enough
abbrev pub is_printable : (Sort → ℕ → Bool) → Sort → List Piece → Bool
is_printable low own [] = true
is_printable low own (Token c ∷ ps) = is_fixed c && is_printable low own ps
is_printable low own (Maybe c ∷ ps) = is_printable low own ps
is_printable low own (Own ∷ ps) = is_printable low own ps
is_printable low own (One due least ∷ ps) = low (inside own due) least && is_printable low own ps
is_printable low own (Group r due least ∷ ps) = (low due least && is_fixed_if (separator_of r)) && is_printable low own ps
is_printable low own (Then e ∷ ps) = is_printable low own ps
is_printable low own _ = false

pub record Fit (lows : Sort → ℕ → Bool) (k : ℕ) (due : Sort) (least : ℕ) (t : Plain) : Type 0 where
  pub stands : stands t.form due ≡ true
  pub is_plain : is_plain t.form ≡ true
  pub right : is_right t.form t.parts ≡ true
  pub valid : valid t.parts ≡ true
  pub pure : pure t.parts ≡ true
  pub low : lows due least ≡ true
  pub high : high_tree t ≤ k

-- what is right, pure and not too high side by side
pub record Fine (k : ℕ) (ts : Forest) : Type 0 where
  pub valid : valid ts ≡ true
  pub pure : pure ts ≡ true
  pub high : high ts ≤ k

-- elements of a list
pub list_stand : (r : Repetition) (due : Sort) (es : Forest) → elements r due es ≡ true → (if is_spliced r then all_join due es else all_stand due es) ≡ true
list_stand r due es e = left_of (if is_spliced r then all_join due es else all_stand due es) (nat_lt (least_of r) (number es + 1)) (left_of ((if is_spliced r then all_join due es else all_stand due es) && nat_lt (least_of r) (number es + 1)) (not (is_single r) || nat_lt (number es) 2) e)

pub list_least : (r : Repetition) (due : Sort) (es : Forest) → elements r due es ≡ true → nat_lt (least_of r) (number es + 1) ≡ true
list_least r due es e = right_of (if is_spliced r then all_join due es else all_stand due es) (nat_lt (least_of r) (number es + 1)) (left_of ((if is_spliced r then all_join due es else all_stand due es) && nat_lt (least_of r) (number es + 1)) (not (is_single r) || nat_lt (number es) 2) e)

pub list_most : (r : Repetition) (due : Sort) (es : Forest) → elements r due es ≡ true → (not (is_single r) || nat_lt (number es) 2) ≡ true
list_most r due es e = right_of ((if is_spliced r then all_join due es else all_stand due es) && nat_lt (least_of r) (number es + 1)) (not (is_single r) || nat_lt (number es) 2) e

first_fit : (lows : Sort → ℕ → Bool) (k : ℕ) (due : Sort) (least : ℕ) (f : Form) (sp : Span) (ps rest : Forest) → lows due least ≡ true → stands f due ≡ true → Fine k (tree f sp ps rest) → Fit lows k due least (the_tree f sp ps)
first_fit lows k due least f sp ps rest l s n = let a = is_right f ps in let b = valid ps in let v = left_of (a && b) (valid rest) n.valid in let c = is_plain f in let d = pure ps in let p = left_of (c && d) (pure rest) n.pure in
    record { stands = s; is_plain = left_of c d p; right = left_of a b v; valid = right_of a b v; pure = right_of c d p; low = l; high = let h : max (star f + high ps) (high rest) ≤ k = n.high in omega (arith, h) }

rest_fine : (k : ℕ) (f : Form) (sp : Span) (ps rest : Forest) → Fine k (tree f sp ps rest) → Fine k rest
rest_fine k f sp ps rest n = record { valid = right_of (is_right f ps && valid ps) (valid rest) n.valid; pure = right_of (is_plain f && pure ps) (pure rest) n.pure; high = let h : max (star f + high ps) (high rest) ≤ k = n.high in omega (arith, h) }

parts_fine : (k : ℕ) (f : Form) (sp : Span) (ps rest : Forest) → Fine k (tree f sp ps rest) → Fine k ps
parts_fine k f sp ps rest n = record {
  valid = right_of (is_right f ps) (valid ps) (left_of (is_right f ps && valid ps) (valid rest) n.valid);
  pure = right_of (is_plain f) (pure ps) (left_of (is_plain f && pure ps) (pure rest) n.pure);
  high = let h : max (star f + high ps) (high rest) ≤ k = n.high in omega (arith, h);
}

module _ (Ready : Sort → Plain → State → Type 0) (Follows : Sort → Plain → List Shape → Type 0) (Does : Sort → Plain → Spot → Spot → Type 0) (w : List Shape) where
  -- the tokens to a place spell a tree of a sort that is equal to another but for its spans
  pub record Found (S : Spelling) (due : Sort) (least : ℕ) (t : Plain) (i : Spot) (m : ℕ) : Type 0 where
    pub tree : Plain
    pub last : Spot
    pub spelled : S due least tree i last
    pub alike : Alike t tree
    pub place : last.place ≡ m
    pub does : Does due t i last

  -- what is ready and low enough is spelled
  abbrev pub Prints : Spelling → (Sort → ℕ → Bool) → ℕ → Type 0
  Prints S lows k = (due : Sort) (least : ℕ) (t : Plain) (i : Spot) (after : List Shape) (m r : ℕ) → Fit lows k due least t → Run w i.place (placed least t) m → Run w m after r → Ready due t i.state → Follows due t after → Found S due least t i m

  module _ (S : Spelling) (lows : Sort → ℕ → Bool) (k : ℕ) (prints : Prints S lows k) where
    -- ---- elements

    -- more elements after others
    record Further (due : Sort) (least : ℕ) (c : Option Class) (vs : List Plain) (es : Forest) (i : Spot) (m : ℕ) (K : Spot → Type 0) : Type 0 where
      pub more : List Plain
      pub number : ℕ
      pub last : Spot
      pub chain : Chain (S due least) w c number (vs ++ more) i last
      pub same : unspanned es ≡ unspanned (forest more)
      pub place : last.place ≡ m
      pub done : K last

    append_nil : (vs : List Plain) → (vs ++ []) ≡ vs
    append_nil [] = refl
    append_nil (v ∷ vs) = ap (λ l. v ∷ l) (append_nil vs)

    further : (due : Sort) (least : ℕ) (c : Option Class) (n : ℕ) (vs : List Plain) (es : Forest) (i j : Spot) (after : List Shape) (m r : ℕ) (K : Spot → Type 0) → lows due least ≡ true → is_fixed_if c ≡ true → all_stand due es ≡ true → Fine k es
        → Chain (S due least) w c n vs i j → Run w j.place (others c least es) m → Run w m after r → ready.OthersReady Ready Follows Does due least c es j after K → Further due least c vs es i m K
    further due least c n vs empty i j after m r K l x s f h run next R = record { more = []; number = n; last = j; chain = subst (λ ts. Chain (S due least) w c n ts i j) (sym (append_nil vs)) h; same = refl; place = run; done = R }
    further due least c n vs (tree g sp ps rest) i j after m r K l x s f h run next R =
        let t : Plain = the_tree g sp ps in
        let b = separator w c j (placed least t ++ others c least rest) m x run in
        let d = cut w (past c j).place (placed least t) (others c least rest) m b.1 in
        let a = prints due least t (past c j) (others c least rest ++ after) d.middle r (first_fit lows k due least g sp ps rest l (left_of (stands g due) (all_stand due rest) s) f) d.first
        (joined w d.middle m (others c least rest) after r d.second next) R.0 R.1.0 in
        let o = further due least c (suc n) (vs ++ (a.tree ∷ [])) rest i a.last after m r K l x (right_of (stands g due) (all_stand due rest) s) (rest_fine k g sp ps rest f)
        (record { before = vs; last = a.tree; place = j; next = past c j; value = refl; first = h; between = b.0; second = a.spelled })
        (subst (λ p. Run w p (others c least rest) m) (sym a.place) d.second) next (R.1.1 a.last a.does) in
        record {
          more = a.tree ∷ o.more;
          number = o.number;
          last = o.last;
          chain = subst (λ ts. Chain (S due least) w c o.number ts i o.last) (append_assoc vs (a.tree ∷ []) o.more) o.chain;
          same = one_more g sp ps rest a.tree o.more a.alike o.same;
          place = o.place;
          done = o.done;
        }

    -- one or more elements
    record Some_of (due : Sort) (least : ℕ) (c : Option Class) (es : Forest) (i : Spot) (m : ℕ) (K : Spot → Type 0) : Type 0 where
      pub trees : List Plain
      pub last : Spot
      pub elements : Elements (S due least) w c trees i last
      pub same : unspanned es ≡ unspanned (forest trees)
      pub place : last.place ≡ m
      pub done : K last

    -- the tokens of elements
    abbrev all_of : Option Class → ℕ → Forest → List Shape
    all_of c least es = separated (if_any (shape_if c)) least (wholes (all_spelled es))

    some_of : (due : Sort) (least : ℕ) (c : Option Class) (g : Form) (sp : Span) (ps rest : Forest) (i : Spot) (after : List Shape) (m r : ℕ) (K : Spot → Type 0) → lows due least ≡ true → is_fixed_if c ≡ true → all_stand due (tree g sp ps rest) ≡ true → Fine k (tree g sp ps rest)
        → Run w i.place (all_of c least (tree g sp ps rest)) m → Run w m after r → ready.AreReady Ready Follows Does due least c (tree g sp ps rest) i after K → Some_of due least c (tree g sp ps rest) i m K
    some_of due least c g sp ps rest i after m r K l x s f run next R =
        let t : Plain = the_tree g sp ps in
        let d = cut w i.place (placed least t) (others c least rest) m run in
        let a = prints due least t i (others c least rest ++ after) d.middle r (first_fit lows k due least g sp ps rest l (left_of (stands g due) (all_stand due rest) s) f) d.first
        (joined w d.middle m (others c least rest) after r d.second next) R.0 R.1.0 in
        let o = further due least c 0 (a.tree ∷ []) rest i a.last after m r K l x (right_of (stands g due) (all_stand due rest) s) (rest_fine k g sp ps rest f)
        (a.tree, (refl, a.spelled))
        (subst (λ p. Run w p (others c least rest) m) (sym a.place) d.second) next (R.1.1 a.last a.does) in
        record { trees = a.tree ∷ o.more; last = o.last; elements = (o.number, o.chain); same = one_more g sp ps rest a.tree o.more a.alike o.same; place = o.place; done = o.done }

    -- ---- groups

    record Grouped (r : Repetition) (due : Sort) (least : ℕ) (before : Before) (es : Forest) (i : Spot) (m : ℕ) (K : Spot → Type 0) : Type 0 where
      pub trees : List Plain
      pub last : Spot
      pub group : IsGroup r due (S due least) before w trees i last
      pub same : unspanned es ≡ unspanned (forest trees)
      pub place : last.place ≡ m
      pub done : K last

    two_of : (n : ℕ) → nat_lt (n + 1 + 1) 2 ≡ true → ⊥
    two_of n e = grind arith

    none_of : (n : ℕ) → nat_lt 1 1 ≡ true → ⊥
    none_of n e = absurd (cc e)

    no_least : (n : ℕ) → nat_lt n 1 ≡ true → n ≡ 0
    no_least n e = grind arith

    at_most_one : (due : Sort) (least : ℕ) (g : Form) (sp : Span) (ps rest : Forest) (i : Spot) (after : List Shape) (m r : ℕ) (K : Spot → Type 0) → lows due least ≡ true → all_stand due (tree g sp ps rest) ≡ true → nat_lt (number (tree g sp ps rest)) 2 ≡ true → Fine k (tree g sp ps rest)
        → Run w i.place (all_of None least (tree g sp ps rest)) m → Run w m after r → ready.AreReady Ready Follows Does due least None (tree g sp ps rest) i after K → (v : Plain) × ((j : Spot) × (S due least v i j × ((unspanned (tree g sp ps rest) ≡ unspanned (forest (v ∷ []))) × ((j.place ≡ m) × K j))))
    at_most_one due least g sp ps empty i after m r K l s o f run next R =
        let t : Plain = the_tree g sp ps in
        let d = cut w i.place (placed least t) [] m run in
        let a = prints due least t i after d.middle r (first_fit lows k due least g sp ps empty l (left_of (stands g due) true s) f) d.first (subst (λ m. Run w m after r) (sym d.second) next) R.0 R.1.0 in
        (a.tree, (a.last, (a.spelled, (one_more g sp ps empty a.tree [] a.alike refl, (a.place ∙ d.second, R.1.1 a.last a.does)))))
    at_most_one due least g sp ps (tree h hp qs rest) i after m r K l s o f run next R = absurd (two_of (number rest) o)

    group_of : (r : Repetition) (due : Sort) (least : ℕ) (before : Before) (es : Forest) (i : Spot) (after : List Shape) (m z : ℕ) (K : Spot → Type 0) → lows due least ≡ true → is_fixed_if (separator_of r) ≡ true → all_stand due es ≡ true
        → nat_lt (least_of r) (number es + 1) ≡ true → (not (is_single r) || nat_lt (number es) 2) ≡ true → Fine k es → Run w i.place (all_of (separator_of r) least es) m → Run w m after z → ready.GroupReady Ready Follows Does r due least before es i after K → Grouped r due least before es i m K
    group_of Optional due least before empty i after m z K l x s a o f run next R = record { trees = []; last = i; group = inl (refl, refl); same = refl; place = run; done = R }
    group_of Optional due least before (tree g sp ps rest) i after m z K l x s a o f run next R =
        let e = at_most_one due least g sp ps rest i after m z K l s o f run next R in
        record { trees = e.0 ∷ []; last = e.1.0; group = inr (e.0, (refl, e.1.1.0)); same = e.1.1.1.0; place = e.1.1.1.1.0; done = e.1.1.1.1.1 }
    group_of Greedy due least before empty i after m z K l x s a o f run next R = record { trees = []; last = i; group = inl (off w (starts due) i m z after run next R.0, (refl, refl)); same = refl; place = run; done = R.1 }
    group_of Greedy due least before (tree g sp ps rest) i after m z K l x s a o f run next R =
        let e = at_most_one due least g sp ps rest i after m z K l s o f run next R in
        record { trees = e.0 ∷ []; last = e.1.0; group = inr (e.0, (refl, e.1.1.0)); same = e.1.1.1.0; place = e.1.1.1.1.0; done = e.1.1.1.1.1 }
    group_of Due due least before empty i after m z K l x s a o f run next R = record { trees = []; last = i; group = inl (R.0, (refl, refl)); same = refl; place = run; done = R.1 }
    group_of Due due least before (tree g sp ps rest) i after m z K l x s a o f run next R =
        let e = at_most_one due least g sp ps rest i after m z K l s o f run next R in
        record { trees = e.0 ∷ []; last = e.1.0; group = inr (e.0, (refl, e.1.1.0)); same = e.1.1.1.0; place = e.1.1.1.1.0; done = e.1.1.1.1.1 }
    group_of All due least before empty i after m z K l x s a o f run next R = absurd (none_of 0 a)
    group_of All due least before (tree g sp ps rest) i after m z K l x s a o f run next R =
        let e = some_of due least None g sp ps rest i after m z (λ j. IsOff (starts due) j.state after × K j) l x s f run next R in
        record { trees = e.trees; last = e.last; group = (e.elements, off w (starts due) e.last m z after e.place next e.done.0); same = e.same; place = e.place; done = e.done.1 }
    group_of Any due least before empty i after m z K l x s a o f run next R = record { trees = []; last = i; group = (inl (refl, (refl, refl)), off w (starts due) i m z after run next R.0); same = refl; place = run; done = R.1 }
    group_of Any due least before (tree g sp ps rest) i after m z K l x s a o f run next R =
        let e = some_of due least None g sp ps rest i after m z (λ j. IsOff (starts due) j.state after × K j) l x s f run next R in
        record { trees = e.trees; last = e.last; group = (inr e.elements, off w (starts due) e.last m z after e.place next e.done.0); same = e.same; place = e.place; done = e.done.1 }
    group_of (Many c n) due least before empty i after m z K l x s a o f run next R = record { trees = []; last = i; group = inl (no_least n a, (refl, refl)); same = refl; place = run; done = R }
    group_of (Many c n) due least before (tree g sp ps rest) i after m z K l x s a o f run next R =
        let e = some_of due least c g sp ps rest i after m z K l x s f run next R in record { trees = e.trees; last = e.last; group = inr e.elements; same = e.same; place = e.place; done = e.done }
    group_of (Spliced c n) due least before empty i after m z K l x s a o f run next R = record { trees = []; last = i; group = inl (no_least n a, (refl, refl)); same = refl; place = run; done = R }
    group_of (Spliced c n) due least before (tree g sp ps rest) i after m z K l x s a o f run next R =
        let e = some_of due least c g sp ps rest i after m z K l x s f run next R in record { trees = e.trees; last = e.last; group = inr e.elements; same = e.same; place = e.place; done = e.done }
    group_of (Ended c end_token) due least before empty i after m z K l x s a o f run next R = absurd (none_of 0 a)
    group_of (Ended c end_token) due least before (tree g sp ps rest) i after m z K l x s a o f run next R =
        let e = some_of due least (Some c) g sp ps rest i after m z K l x s f run next R in record { trees = e.trees; last = e.last; group = e.elements; same = e.same; place = e.place; done = e.done }

    -- ---- rows

    pub record Completed (own : Sort) (f : Form) (before : Before) (ps : List Piece) (ts : Forest) (i : Spot) (m : ℕ) (K : Spot → Type 0) : Type 0 where
      pub trees : List Plain
      pub last : Spot
      pub matches : Matches S w own f before ps trees i last
      pub same : unspanned ts ≡ unspanned (forest trees)
      pub place : last.place ≡ m
      pub done : K last

    group_run : (r : Repetition) (least : ℕ) (es : Forest) (xs : List Shape) (p m : ℕ) → Run w p (separated (if_any (Marks.separator_of r)) least (wholes (all_spelled es)) ++ xs) m → Cut w p (all_of (separator_of r) least es) xs m
    group_run r least es xs p m run = cut w p (all_of (separator_of r) least es) xs m (subst (λ c. Run w p (separated (if_any c) least (wholes (all_spelled es)) ++ xs) m) (marks_separator r) run)

    own_run : (f : Form) (x : Shape) (p m : ℕ) (xs : List Shape) → held f ≡ Some x → Run w p (if_any (held f) ++ xs) m → (raw_at w p ≡ x) × Run w (p + 1) xs m
    own_run f x p m xs e run = subst (λ o. Run w p (if_any o ++ xs) m) e run

    -- The tokens of a row spell its parts.
    pub completed : (own : Sort) (f : Form) (before : Before) (ps : List Piece) (ts : Forest) (i : Spot) (after : List Shape) (m z : ℕ) (K : Spot → Type 0) → is_printable lows own ps ≡ true → is_fine own ps ≡ true → fits ps ts ≡ true → Fine k ts
        → Run w i.place (spell ps f (all_spelled ts)) m → Run w m after z → ready.RowReady Ready Follows Does own f before ps ts i after K → Completed own f before ps ts i m K
    completed own f before [] empty i after m z K b c t n run next R = record { trees = []; last = i; matches = (refl, refl); same = refl; place = run; done = R }
    completed own f before [] (tree g sp qs rest) i after m z K b c t n run next R = absurd R
    completed own f before (Token e ∷ ps) ts i after m z K b c t n run next R =
        let a = fixed w e i (spell ps f (all_spelled ts)) m (left_of (is_fixed e) (is_printable lows own ps) b) run in
        let o = completed own f Usual ps ts (step i) after m z K (right_of (is_fixed e) (is_printable lows own ps) b) c t n a.1 next R in
        record { trees = o.trees; last = o.last; matches = (a.0, o.matches); same = o.same; place = o.place; done = o.done }
    completed own f before (Maybe e ∷ ps) ts i after m z K b c t n run next R =
        let o = completed own f Usual ps ts i after m z K b c t n run next R in
        record { trees = o.trees; last = o.last; matches = inr o.matches; same = o.same; place = o.place; done = o.done }
    completed own f before (Own ∷ ps) ts i after m z K b c t n run next R =
        let a = own_run f R.0.shape i.place m (spell ps f (all_spelled ts)) R.0.held run in
        let o = completed own f Usual ps ts (step i) after m z K b c t n a.1 next R.1 in
        record { trees = o.trees; last = o.last; matches = ((R.0.held ∙ ap Some (sym a.0), ap (λ x. has (held_class f) (States.class i.state x)) a.0 ∙ R.0.seen), o.matches); same = o.same; place = o.place; done = o.done }
    completed own f before (One due least ∷ ps) empty i after m z K b c t n run next R = absurd R
    completed own f before (One due least ∷ ps) (tree g sp qs rest) i after m z K b c t n run next R =
        let q : Plain = the_tree g sp qs in
        let d = cut w i.place (placed least q) (spell ps f (all_spelled rest)) m run in
        let a = prints (inside own due) least q i (spell ps f (all_spelled rest) ++ after) d.middle z
        (first_fit lows k (inside own due) least g sp qs rest (left_of (lows (inside own due) least) (is_printable lows own ps) b) (stands_inside own due least ps g c (left_of (stands g due) (fits ps rest) t)) n) d.first
        (joined w d.middle m (spell ps f (all_spelled rest)) after z d.second next) R.0 R.1.0 in
        let o = completed own f (before_by (is_absent q)) ps rest a.last after m z K (right_of (lows (inside own due) least) (is_printable lows own ps) b) (after_one own due least ps c) (right_of (stands g due) (fits ps rest) t) (rest_fine k g sp qs rest n)
        (subst (λ p. Run w p (spell ps f (all_spelled rest)) m) (sym a.place) d.second) next (R.1.1 a.last a.does) in
        record {
          trees = a.tree ∷ o.trees;
          last = o.last;
          matches = record { first = a.tree; others = o.trees; place = a.last; value = refl; is_first = a.spelled; are_others = subst (λ h. Matches S w own f (before_by (is_absent_form h)) ps o.trees a.last o.last) a.alike.0 o.matches };
          same = one_more g sp qs rest a.tree o.trees a.alike o.same;
          place = o.place;
          done = o.done;
        }
    completed own f before (Group r due least ∷ ps) empty i after m z K b c t n run next R = absurd R
    completed own f before (Group r due least ∷ ps) (tree g sp es rest) i after m z K b c t n run next R =
        let x = is_printable lows own ps in
        let l = left_of (lows due least && is_fixed_if (separator_of r)) x b in
        let y = is_list_of r due g es in
        let u = right_of (stands g s.List) (elements r due es) (left_of y (fits ps rest) t) in
        let v = nat_lt (least_of r) (number es + 1) in
        let h = not (is_single r) || nat_lt (number es) 2 in
        let N = parts_fine k g sp es rest n in
        let d = group_run r least es (spell ps f (all_spelled rest)) i.place m run in
        let a = group_of r due least before es i (spell ps f (all_spelled rest) ++ after) d.middle z (λ j. ready.RowReady Ready Follows Does own f (before_by (is_none es)) ps rest j after K)
        (left_of (lows due least) (is_fixed_if (separator_of r)) l) (right_of (lows due least) (is_fixed_if (separator_of r)) l)
        (stand_by (is_spliced r) due es N.pure (list_stand r due es u)) (list_least r due es u) (list_most r due es u) N d.first
        (joined w d.middle m (spell ps f (all_spelled rest)) after z d.second next) R in
        let o = completed own f (before_by (is_none es)) ps rest a.last after m z K (right_of (lows due least && is_fixed_if (separator_of r)) x b) (right_of (is_low r) (is_fine own ps) c) (right_of y (fits ps rest) t) (rest_fine k g sp es rest n)
        (subst (λ p. Run w p (spell ps f (all_spelled rest)) m) (sym a.place) d.second) next a.done in
        let q : Plain = node the_list (spanned i.place a.last.place) a.trees in
        let alike : Alike (the_tree g sp es) q = (list_form g (left_of (is_plain g) (pure es) (left_of (is_plain g && pure es) (pure rest) n.pure)) (left_of (stands g s.List) (elements r due es) (left_of y (fits ps rest) t)), a.same) in
        record {
          trees = q ∷ o.trees;
          last = o.last;
          matches = record {
            first = q;
            others = o.trees;
            place = a.last;
            value = refl;
            is_first = (a.trees, (refl, a.group));
            are_others = subst (λ h. Matches S w own f (before_by h) ps o.trees a.last o.last) (same_none es a.trees a.same) o.matches;
          };
          same = one_more g sp es rest q o.trees alike o.same;
          place = o.place;
          done = o.done;
        }
    completed own f before (Then e ∷ ps) ts i after m z K b c t n run next R =
        let o = completed own f before ps ts (turned (happens e) i) after m z K b c t n run next R.1 in
        record { trees = o.trees; last = o.last; matches = (R.0, o.matches); same = o.same; place = o.place; done = o.done }
    completed own f before (TypeTokens ∷ ps) ts i after m z K b c t n run next R = absurd R
    completed own f before (KindName ∷ ps) ts i after m z K b c t n run next R = absurd R
    completed own f before (Rest due ∷ ps) ts i after m z K b c t n run next R = absurd R
    completed own f before (Anything ∷ ps) ts i after m z K b c t n run next R = absurd R
