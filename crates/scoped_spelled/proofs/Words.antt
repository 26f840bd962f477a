-- What the events of trees declare in the innermost scope is what their words say.
use Rattle.std.proofs.Common.{◌≡◌, refl, ap, sym, subst, ◌∙◌, Bool, true, false, ◌&&◌, List, [], ◌∷◌, ◌++◌, Option, Some, None}
use Rattle.c_tokens.specs.declared.span.Span.{Span}
use Rattle.c_tokens.specs.declared.token.Word.{Word}
use Rattle.c_forms.specs.declared.operators.BinaryOperator.TheVariants as operator
use Rattle.c_forms.specs.declared.operators.StorageClass.TheVariants as storage
use Rattle.c_forms.specs.declared.pieces.Sort.{Sort}
use Rattle.c_forms.specs.declared.pieces.Sort.TheVariants as s
use Rattle.c_forms.specs.declared.pieces.Repetition.{Repetition}
use Rattle.c_forms.specs.declared.pieces.Piece.{Piece}
use Rattle.c_forms.specs.declared.pieces.Piece.TheVariants.{Token, Maybe, Own, TypeTokens, KindName, One, Group, Rest, Anything, Then}
use Rattle.c_forms.specs.declared.forms.Form.{Form}
use Rattle.c_forms.specs.declared.forms.Form.TheVariants as form
use Rattle.c_forms.specs.declared.forms.ExpForm.TheVariants as exp
use Rattle.c_forms.specs.declared.forms.SpecForm.TheVariants as spec
use Rattle.c_forms.specs.declared.forms.StmtForm.TheVariants as stmt
use Rattle.c_forms.specs.declared.forms.DeclaratorForm.TheVariants as declarator
use Rattle.c_forms.specs.declared.forms.ParamsForm.TheVariants as params
use Rattle.c_forms.specs.declared.forms.InitForm.TheVariants as init
use Rattle.c_forms.specs.declared.forms.GroupForm.TheVariants as group
use Rattle.c_forms.specs.Forests.{Forest, empty, tree}
use Rattle.c_forms.specs.Fits.{fits, elements, all_stand, is_list_of, is_spliced}
use Rattle.c_forms.specs.Measures.{is_plain, pieces}
use Rattle.c_forms.specs.Places.{serves, stands}
use Rattle.c_forms.specs.Rules.{is_right}
use Rattle.c_trees.specs.Counts.{pure}
use Rattle.c_trees.specs.Valid.{valid}
use Rattle.scope_tables.specs.declared.table.WordClass.{WordClass}
use Rattle.scope_tables.specs.declared.table.WordClass.TheVariants.{Value}
use Rattle.scope_tables.specs.Frames.{Frame, left}
use Rattle.scope_meanings.specs.declared.meaning.NameUse.{NameUse}
use Rattle.scope_meanings.specs.declared.meaning.NameUse.TheVariants as naming
use Rattle.scope_meanings.specs.declared.meaning.Meaning.{Meaning}
use Rattle.scope_meanings.specs.declared.meaning.Meaning.TheVariants as means
use Rattle.scope_meanings.specs.declared.meaning.Name.{Name}
use Rattle.scope_meanings.specs.Meanings.{meaning, inside, declares, name_in}
use Rattle.scopes.specs.declared.event.Event.{Event}
use Rattle.scopes.specs.declared.event.Event.TheVariants.{Leave, Must, Declare}
use Rattle.scopes.specs.Events.{in_order, each, scope, at_identifier, redeclared, declared_as, words, words_by, by_meaning}
use Rattle.scopes.specs.Settling.{Scoped, settled}
use Rattle.spelled_scopes.proofs.Frames.{settled_on}
use Rattle.spelled_trees.proofs.Parts.{both, left_of, right_of}
use Rattle.ready_rows.proofs.Rows.{list_form, list_stand, stand_by}
use Rattle.ready_rows.proofs.Standing.{asks}
use Rattle.ready_rows.proofs.Steps.{split_at, must_same, one_end}
use Rattle.ready_expressions.proofs.Heads.{right_fits}

-- ---- events and the words that they declare

-- Where these events hold, they leave the scopes around the innermost as they were, and do no more than these words.
abbrev pub Tells : List Event → List Event → Type 0
Tells es ws = (f : Frame) (fs gs : List Frame) → settled es (f ∷ fs) ≡ Scoped gs → (g : Frame) × ((gs ≡ g ∷ fs) × (settled ws (f ∷ fs) ≡ Scoped gs))

none : Tells [] []
none f fs gs e = (f, (one_end gs (f ∷ fs) (sym e), e))

one : (word : Word) (k : WordClass) → Tells (Declare word k ∷ []) (Declare word k ∷ [])
one word k f fs gs e = ((word.0, k) ∷ f, (one_end gs (((word.0, k) ∷ f) ∷ fs) (sym e), e))

asked : (word : Word) (k : WordClass) (sp : Span) → Tells (Must word k sp ∷ []) []
asked word k sp f fs gs e = none f fs gs (must_same word k sp [] (f ∷ fs) gs e).1

join : (xs vs ys ws : List Event) → Tells xs vs → Tells ys ws → Tells (xs ++ ys) (vs ++ ws)
join xs vs ys ws p q f fs gs e =
    let c = split_at xs ys (f ∷ fs) gs e in
    let a = p f fs c.0 c.1.0 in
    let b = q a.0 fs gs (subst (λ m. settled ys m ≡ Scoped gs) a.1.0 c.1.1) in
    (b.0, (b.1.0, settled_on vs ws (f ∷ fs) c.0 a.1.1 ∙ ap (settled ws) a.1.0 ∙ b.1.1))

-- a scope declares nothing outside of it
enclosed : (es ws : List Event) → Tells es ws → Tells (scope es) []
enclosed es ws p f fs gs e =
    let c = split_at es (Leave ∷ []) ([] ∷ (f ∷ fs)) gs e in
    let a = p [] (f ∷ fs) c.0 c.1.0 in
    let r : Scoped (f ∷ fs) ≡ Scoped gs = ap (λ m. Scoped (left m)) (sym a.1.0) ∙ c.1.1 in
    (f, (one_end gs (f ∷ fs) (sym r), r))

by_name : (c : Option WordClass) (n : Option Name) → Tells (declared_as c n) (declared_as c n)
by_name (Some k) (Some name) = one name.word k
by_name (Some k) None = none
by_name None n = none

by_word : (u : NameUse) (word : Word) (sp : Span) → Tells (at_identifier u word sp) (redeclared u word)
by_word naming.Checked word sp = asked word Value sp
by_word naming.CheckedAndDeclared word sp = join (Must word Value sp ∷ []) [] (Declare word Value ∷ []) (Declare word Value ∷ []) (asked word Value sp) (one word Value)
by_word u word sp = none

-- whether the parts of what means so ask for something
abbrev asks_parts : Meaning → Bool
asks_parts means.Scope = true
asks_parts means.Parts = true
asks_parts m = false

abbrev is_definition : Meaning → Bool
is_definition means.Function = true
is_definition m = false

node_tells : (m : Meaning) (u : NameUse) (c : Option WordClass) (sp : Span) (ps : Forest) (parts : List (List Event)) (ws : List Event) → is_definition m ≡ false → (asks_parts m ≡ true → Tells (in_order parts) ws) → Tells (by_meaning m u c sp ps parts) (words_by m u c ps ws)
node_tells means.Nothing u c sp ps parts ws d h = none
node_tells (means.Use word wanted) u c sp ps parts ws d h = asked word wanted sp
node_tells (means.Identifier word) u c sp ps parts ws d h = by_word u word sp
node_tells means.Scope u c sp ps parts ws d h = enclosed (in_order parts) ws (h refl)
node_tells means.Function u c sp ps parts ws d h = absurd (cc d)
node_tells means.Parts u c sp ps parts ws d h = join (in_order parts) ws (declared_as c (name_in ps)) (declared_as c (name_in ps)) (h refl) (by_name c (name_in ps))

-- ---- trees without definitions of functions

-- neither an external declaration, nor a list, nor an argument of a macro
abbrev pub is_inner : Form → Bool
is_inner (form.Item f) = false
is_inner (form.Hole h) = false
is_inner (form.Call n gives tail) = false
is_inner (form.Group group.List) = false
is_inner (form.Group group.Rounds) = false
is_inner (form.Group group.Row) = false
is_inner f = true

abbrev pub are_inner : Forest → Bool
are_inner empty = true
are_inner (tree f sp ps rest) = is_inner f && are_inner rest

abbrev pub is_part : Form → Forest → Bool
is_part (form.Group group.List) ps = are_inner ps
is_part f ps = is_inner f

-- parts of a node, or elements of a list
abbrev pub are_parts : Forest → Bool
are_parts empty = true
are_parts (tree f sp ps rest) = is_part f ps && are_parts rest

inner_part : (f : Form) (ps : Forest) → is_inner f ≡ true → is_part f ps ≡ true
inner_part (form.Group group.List) ps e = absurd (cc e)
inner_part (form.Group f) ps e = e
inner_part f ps e = e

inner_parts : (ts : Forest) → are_inner ts ≡ true → are_parts ts ≡ true
inner_parts empty e = refl
inner_parts (tree f sp ps rest) e = both (is_part f ps) (are_parts rest) (inner_part f ps (left_of (is_inner f) (are_inner rest) e)) (inner_parts rest (right_of (is_inner f) (are_inner rest) e))

-- sorts of such trees
abbrev pub is_inner_sort : Sort → Bool
is_inner_sort s.Item = false
is_inner_sort s.Argument = false
is_inner_sort s.Round = false
is_inner_sort s.Rounds = false
is_inner_sort s.Row = false
is_inner_sort s.List = false
is_inner_sort due = true

no_item : (due : Sort) → (is_inner_sort due && serves s.Item due) ≡ false
no_item s.Exp = refl
no_item due = refl

no_list : (due : Sort) → (is_inner_sort due && serves s.List due) ≡ false
no_list s.Exp = refl
no_list due = refl

no_rounds : (due : Sort) → (is_inner_sort due && serves s.Rounds due) ≡ false
no_rounds s.Exp = refl
no_rounds due = refl

no_row : (due : Sort) → (is_inner_sort due && serves s.Row due) ≡ false
no_row s.Exp = refl
no_row due = refl

unless_both : {A : Type 0} (a b : Bool) → (a && b) ≡ false → a ≡ true → b ≡ true → A
unless_both true true h e k = absurd (cc h)
unless_both true false h e k = absurd (cc k)
unless_both false b h e k = absurd (cc e)

inner_form : (f : Form) (due : Sort) → is_plain f ≡ true → is_inner_sort due ≡ true → stands f due ≡ true → is_inner f ≡ true
inner_form (form.Item f) due p c e = unless_both (is_inner_sort due) (serves s.Item due) (no_item due) c e
inner_form (form.Hole h) due p c e = absurd (cc p)
inner_form (form.Call n gives tail) due p c e = absurd (cc p)
inner_form (form.Group group.List) due p c e = unless_both (is_inner_sort due) (serves s.List due) (no_list due) c e
inner_form (form.Group group.Rounds) due p c e = unless_both (is_inner_sort due) (serves s.Rounds due) (no_rounds due) c e
inner_form (form.Group group.Row) due p c e = unless_both (is_inner_sort due) (serves s.Row due) (no_row due) c e
inner_form (form.Group f) due p c e = refl
inner_form f due p c e = refl

pub inner_forms : (due : Sort) (ts : Forest) → is_inner_sort due ≡ true → pure ts ≡ true → all_stand due ts ≡ true → are_inner ts ≡ true
inner_forms due empty c p e = refl
inner_forms due (tree f sp ps rest) c p e = both (is_inner f) (are_inner rest) (inner_form f due (left_of (is_plain f) (pure ps) (left_of (is_plain f && pure ps) (pure rest) p)) c (left_of (stands f due) (all_stand due rest) e))
    (inner_forms due rest c (right_of (is_plain f && pure ps) (pure rest) p) (right_of (stands f due) (all_stand due rest) e))

-- ---- rows of such parts

abbrev is_inner_row : List Piece → Bool
is_inner_row [] = true
is_inner_row (One due least ∷ ps) = is_inner_sort due && is_inner_row ps
is_inner_row (Group r due least ∷ ps) = is_inner_sort due && is_inner_row ps
is_inner_row (Rest due ∷ ps) = false
is_inner_row (Anything ∷ ps) = false
is_inner_row (p ∷ ps) = is_inner_row ps

list_part : (r : Repetition) (due : Sort) (f : Form) (ps : Forest) → is_inner_sort due ≡ true → is_plain f ≡ true → pure ps ≡ true → is_list_of r due f ps ≡ true → is_part f ps ≡ true
list_part r due f ps c p q l = subst (λ f. is_part f ps ≡ true) (sym (list_form f p (left_of (stands f s.List) (elements r due ps) l)))
    (inner_forms due ps c q (stand_by (is_spliced r) due ps q (list_stand r due ps (right_of (stands f s.List) (elements r due ps) l))))

row_parts : (ps : List Piece) (ts : Forest) → is_inner_row ps ≡ true → fits ps ts ≡ true → pure ts ≡ true → are_parts ts ≡ true
row_parts [] empty c t p = refl
row_parts [] (tree f sp qs rest) c t p = absurd (cc t)
row_parts (Token k ∷ ps) ts c t p = row_parts ps ts c t p
row_parts (Maybe k ∷ ps) ts c t p = row_parts ps ts c t p
row_parts (Own ∷ ps) ts c t p = row_parts ps ts c t p
row_parts (TypeTokens ∷ ps) ts c t p = row_parts ps ts c t p
row_parts (KindName ∷ ps) ts c t p = row_parts ps ts c t p
row_parts (Then e ∷ ps) ts c t p = row_parts ps ts c t p
row_parts (One due least ∷ ps) empty c t p = absurd (cc t)
row_parts (One due least ∷ ps) (tree f sp qs rest) c t p = both (is_part f qs) (are_parts rest)
    (inner_part f qs (inner_form f due (left_of (is_plain f) (pure qs) (left_of (is_plain f && pure qs) (pure rest) p)) (left_of (is_inner_sort due) (is_inner_row ps) c) (left_of (stands f due) (fits ps rest) t)))
    (row_parts ps rest (right_of (is_inner_sort due) (is_inner_row ps) c) (right_of (stands f due) (fits ps rest) t) (right_of (is_plain f && pure qs) (pure rest) p))
row_parts (Group r due least ∷ ps) empty c t p = absurd (cc t)
row_parts (Group r due least ∷ ps) (tree f sp qs rest) c t p = let x = left_of (is_plain f && pure qs) (pure rest) p in both (is_part f qs) (are_parts rest)
    (list_part r due f qs (left_of (is_inner_sort due) (is_inner_row ps) c) (left_of (is_plain f) (pure qs) x) (right_of (is_plain f) (pure qs) x) (left_of (is_list_of r due f qs) (fits ps rest) t))
    (row_parts ps rest (right_of (is_inner_sort due) (is_inner_row ps) c) (right_of (is_list_of r due f qs) (fits ps rest) t) (right_of (is_plain f && pure qs) (pure rest) p))
row_parts (Rest due ∷ ps) ts c t p = absurd (cc c)
row_parts (Anything ∷ ps) ts c t p = absurd (cc c)

inner_row : (f : Form) → is_inner f ≡ true → asks_parts (meaning f) ≡ true → is_inner_row (pieces f) ≡ true
inner_row (form.Exp (exp.Name w)) c a = refl
inner_row (form.Exp (exp.Binary operator.LogicalOr)) c a = refl
inner_row (form.Exp (exp.Binary o)) c a = refl
inner_row (form.Exp f) c a = refl
inner_row (form.Spec (spec.Typedef w)) c a = refl
inner_row (form.Spec (spec.Storage storage.Typedef)) c a = refl
inner_row (form.Spec (spec.Storage k)) c a = refl
inner_row (form.Spec f) c a = refl
inner_row (form.Declarator declarator.Named) c a = refl
inner_row (form.Declarator f) c a = refl
inner_row (form.Params params.Ids) c a = refl
inner_row (form.Params f) c a = refl
inner_row (form.Init init.One) c a = refl
inner_row (form.Init f) c a = refl
inner_row (form.Stmt stmt.Block) c a = refl
inner_row (form.Stmt f) c a = refl
inner_row (form.Item f) c a = absurd (cc c)
inner_row (form.MetaExp f) c a = absurd (cc a)
inner_row (form.Template f) c a = absurd (cc a)
inner_row (form.MetaStmt f) c a = absurd (cc a)
inner_row form.MetaBlock c a = absurd (cc a)
inner_row (form.Local type name) c a = absurd (cc a)
inner_row (form.Element f) c a = absurd (cc a)
inner_row (form.Hole h) c a = absurd (cc a)
inner_row (form.Call n gives tail) c a = absurd (cc c)
inner_row (form.Group group.List) c a = absurd (cc c)
inner_row (form.Group group.Rounds) c a = absurd (cc c)
inner_row (form.Group group.Row) c a = absurd (cc c)
inner_row (form.Group f) c a = refl
inner_row f c a = refl

no_definition : (f : Form) (ps : Forest) → is_part f ps ≡ true → is_definition (meaning f) ≡ false
no_definition (form.Exp (exp.Name w)) ps e = refl
no_definition (form.Exp f) ps e = refl
no_definition (form.Spec (spec.Typedef w)) ps e = refl
no_definition (form.Spec f) ps e = refl
no_definition (form.Stmt stmt.Block) ps e = refl
no_definition (form.Stmt f) ps e = refl
no_definition (form.Item f) ps e = absurd (cc e)
no_definition f ps e = refl

-- the parts of a part are parts
parts_in : (f : Form) (ps : Forest) → is_part f ps ≡ true → is_right f ps ≡ true → pure ps ≡ true → asks_parts (meaning f) ≡ true → are_parts ps ≡ true
parts_in (form.Group group.List) ps e r p a = inner_parts ps e
parts_in (form.Group f) ps e r p a = row_parts (pieces (form.Group f)) ps (inner_row (form.Group f) e a) (right_fits (form.Group f) ps r) p
parts_in f ps e r p a = row_parts (pieces f) ps (inner_row f e a) (right_fits f ps r) p

-- ---- trees

pub parts_tell : (u : NameUse) (ts : Forest) → are_parts ts ≡ true → pure ts ≡ true → valid ts ≡ true → Tells (asks u ts) (words u ts)
parts_tell u empty c p v = none
parts_tell u (tree f sp ps rest) c p v =
    let x = left_of (is_part f ps) (are_parts rest) c in
    let y = left_of (is_plain f && pure ps) (pure rest) p in
    let z = left_of (is_right f ps && valid ps) (valid rest) v in
    let q = right_of (is_plain f) (pure ps) y in
    join (by_meaning (meaning f) u (declares f u) sp ps (each (inside f u ps) ps)) (words_by (meaning f) u (declares f u) ps (words (inside f u ps) ps)) (asks u rest) (words u rest)
    (node_tells (meaning f) u (declares f u) sp ps (each (inside f u ps) ps) (words (inside f u ps) ps) (no_definition f ps x)
    (λ a. parts_tell (inside f u ps) ps (parts_in f ps x (left_of (is_right f ps) (valid ps) z) q a) q (right_of (is_right f ps) (valid ps) z)))
    (parts_tell u rest (right_of (is_part f ps) (are_parts rest) c) (right_of (is_plain f && pure ps) (pure rest) p) (right_of (is_right f ps && valid ps) (valid rest) v))

-- elements of a sort
elements_tell : (u : NameUse) (due : Sort) (ts : Forest) → is_inner_sort due ≡ true → pure ts ≡ true → valid ts ≡ true → all_stand due ts ≡ true → Tells (asks u ts) (words u ts)
elements_tell u due ts c p v e = parts_tell u ts (inner_parts ts (inner_forms due ts c p e)) p v

-- their list
pub list_tells : (u : NameUse) (due : Sort) (kp : Span) (ts : Forest) → is_inner_sort due ≡ true → pure ts ≡ true → valid ts ≡ true → all_stand due ts ≡ true → Tells (asks u (tree (form.Group group.List) kp ts empty)) (words u (tree (form.Group group.List) kp ts empty))
list_tells u due kp ts c p v e = join (asks u ts ++ []) (words u ts ++ []) [] [] (join (asks u ts) (words u ts) [] [] (elements_tell u due ts c p v e) none) none
