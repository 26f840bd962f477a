-- What does not change with the spans of trees: sizes, heights, which rules their nodes break, and which trees are the same.
use Rattle.std.proofs.Common.{◌≡◌, refl, ap, ◌∙◌, ℕ, ◌+◌, max, Bool, true, false, ◌&&◌, ◌||◌, not, nat_lt, if◌then◌else◌, List, [], ◌∷◌, Option, Some, None}
use Rattle.c_tokens.specs.declared.span.Span.{Span}
use Rattle.c_forms.specs.declared.pieces.Sort.{Sort}
use Rattle.c_forms.specs.declared.pieces.Sort.TheVariants as sort
use Rattle.c_forms.specs.declared.pieces.Repetition.{Repetition}
use Rattle.c_forms.specs.declared.pieces.Piece.{Piece}
use Rattle.c_forms.specs.declared.pieces.Piece.TheVariants.{Token, Maybe, Own, TypeTokens, KindName, One, Group, Rest, Anything, Then}
use Rattle.c_forms.specs.declared.forms.Form.{Form}
use Rattle.c_forms.specs.declared.forms.Form.TheVariants as form
use Rattle.c_forms.specs.declared.forms.SpecForm.{SpecForm}
use Rattle.c_forms.specs.declared.forms.SpecForm.TheVariants as spec
use Rattle.c_forms.specs.declared.forms.DeclaratorForm.{DeclaratorForm}
use Rattle.c_forms.specs.declared.forms.DeclaratorForm.TheVariants as declarator
use Rattle.c_forms.specs.declared.forms.ParamsForm.TheVariants as params
use Rattle.c_forms.specs.declared.forms.StmtForm.{StmtForm}
use Rattle.c_forms.specs.declared.forms.StmtForm.TheVariants as stmt
use Rattle.c_forms.specs.declared.forms.ItemForm.{ItemForm}
use Rattle.c_forms.specs.declared.forms.ItemForm.TheVariants as item
use Rattle.c_forms.specs.declared.forms.MetaStmtForm.{MetaStmtForm}
use Rattle.c_forms.specs.declared.forms.MetaStmtForm.TheVariants as metastmt
use Rattle.c_forms.specs.declared.forms.TemplateForm.{TemplateForm}
use Rattle.c_forms.specs.declared.forms.TemplateForm.TheVariants as template
use Rattle.c_forms.specs.declared.forms.GroupForm.{GroupForm}
use Rattle.c_forms.specs.declared.forms.GroupForm.TheVariants as group
use Rattle.c_forms.specs.declared.rules.Rule.{Rule}
use Rattle.c_forms.specs.declared.rules.Rule.TheVariants as rule
use Rattle.c_forms.specs.Forests.{Forest, empty, tree}
use Rattle.c_forms.specs.Opens.{last_opens}
use Rattle.c_forms.specs.Measures.{weight, star, is_plain, ends_as_last_part, pieces}
use Rattle.c_forms.specs.Places.{stands, joins}
use Rattle.c_forms.specs.Fits.{number, all_stand, all_join, elements, is_single, is_spliced, least_of, is_list_of, fits}
use Rattle.c_forms.specs.Rules.{is_none, in_first, after_first, is_type, is_sole, one_if, types, has_sole, are_specifiers, is_absent, is_name, names, named_at, has_function, function_at, has_ids, first_opens, is_decl, ordered, unless, in_spec, in_declarator, in_if, in_stmt, in_item, in_template, in_meta_stmt, in_group, among_rules, broken, is_nothing, is_right}
use Rattle.c_forms.specs.contracts.forms.FormEq.TheImpl.Laws.{laws-law}
use Rattle.c_forms.specs.Equal.{one_form}
use Rattle.c_trees.specs.Same.{same}
use Rattle.c_trees.specs.Counts.{count, high, pure}
use Rattle.c_trees.specs.Valid.{valid}
use Rattle.draft_trees.specs.Placing.{respanned}

-- ---- two values at once

and_same : (a b c d : Bool) → a ≡ b → c ≡ d → (a && c) ≡ (b && d)
and_same a b c d e f = ap (λ x. x && c) e ∙ ap (λ x. b && x) f

or_same : (a b c d : Bool) → a ≡ b → c ≡ d → (a || c) ≡ (b || d)
or_same a b c d e f = ap (λ x. x || c) e ∙ ap (λ x. b || x) f

unless_same : (a b : Bool) (r : Rule) (o p : Option Rule) → a ≡ b → o ≡ p → unless a r o ≡ unless b r p
unless_same a b r o p e f = ap (λ x. unless x r o) e ∙ ap (λ x. unless b r x) f

-- ---- sizes and heights

pub count_kept : (g : Span → Span) (t : Forest) → count (respanned g t) ≡ count t
count_kept g empty = refl
count_kept g (tree f s ps rest) = ap (λ n. weight f + n + count (respanned g rest)) (count_kept g ps) ∙ ap (λ n. weight f + count ps + n) (count_kept g rest)

pub high_kept : (g : Span → Span) (t : Forest) → high (respanned g t) ≡ high t
high_kept g empty = refl
high_kept g (tree f s ps rest) = ap (λ n. max (star f + n) (high (respanned g rest))) (high_kept g ps) ∙ ap (λ n. max (star f + high ps) n) (high_kept g rest)

pub pure_kept : (g : Span → Span) (t : Forest) → pure (respanned g t) ≡ pure t
pure_kept g empty = refl
pure_kept g (tree f s ps rest) = and_same (is_plain f && pure (respanned g ps)) (is_plain f && pure ps) (pure (respanned g rest)) (pure rest) (ap (λ b. is_plain f && b) (pure_kept g ps)) (pure_kept g rest)

-- ---- what the pieces of a row ask for

number_kept : (g : Span → Span) (t : Forest) → number (respanned g t) ≡ number t
number_kept g empty = refl
number_kept g (tree f s ps rest) = ap (λ n. n + 1) (number_kept g rest)

all_stand_kept : (g : Span → Span) (due : Sort) (t : Forest) → all_stand due (respanned g t) ≡ all_stand due t
all_stand_kept g due empty = refl
all_stand_kept g due (tree f s ps rest) = ap (λ b. stands f due && b) (all_stand_kept g due rest)

all_join_kept : (g : Span → Span) (due : Sort) (t : Forest) → all_join due (respanned g t) ≡ all_join due t
all_join_kept g due empty = refl
all_join_kept g due (tree f s ps rest) = ap (λ b. joins f due && b) (all_join_kept g due rest)

abbrev so_many : Repetition → Sort → Bool → Bool → ℕ → Bool
so_many r due join stand n = (if is_spliced r then join else stand) && nat_lt (least_of r) (n + 1) && (not (is_single r) || nat_lt n 2)

elements_kept : (g : Span → Span) (r : Repetition) (due : Sort) (t : Forest) → elements r due (respanned g t) ≡ elements r due t
elements_kept g r due t = ap (λ b. so_many r due b (all_stand due (respanned g t)) (number (respanned g t))) (all_join_kept g due t)
    ∙ ap (λ b. so_many r due (all_join due t) b (number (respanned g t))) (all_stand_kept g due t)
    ∙ ap (so_many r due (all_join due t) (all_stand due t)) (number_kept g t)

list_kept : (g : Span → Span) (r : Repetition) (due : Sort) (f : Form) (t : Forest) → is_list_of r due f (respanned g t) ≡ is_list_of r due f t
list_kept g r due f t = ap (λ b. stands f sort.List && b) (elements_kept g r due t)

fits_kept : (g : Span → Span) (all : List Piece) (t : Forest) → fits all (respanned g t) ≡ fits all t
fits_kept g [] empty = refl
fits_kept g [] (tree f s ps rest) = refl
fits_kept g (Token c ∷ all) t = fits_kept g all t
fits_kept g (Maybe c ∷ all) t = fits_kept g all t
fits_kept g (Own ∷ all) t = fits_kept g all t
fits_kept g (TypeTokens ∷ all) t = fits_kept g all t
fits_kept g (KindName ∷ all) t = fits_kept g all t
fits_kept g (Then e ∷ all) t = fits_kept g all t
fits_kept g (One due level ∷ all) empty = refl
fits_kept g (One due level ∷ all) (tree f s ps rest) = ap (λ b. stands f due && b) (fits_kept g all rest)
fits_kept g (Group r due level ∷ all) empty = refl
fits_kept g (Group r due level ∷ all) (tree f s ps rest) = and_same (is_list_of r due f (respanned g ps)) (is_list_of r due f ps) (fits all (respanned g rest)) (fits all rest) (list_kept g r due f ps) (fits_kept g all rest)
fits_kept g (Rest due ∷ all) t = all_stand_kept g due t
fits_kept g (Anything ∷ all) t = refl

-- ---- what the rules ask of parts

first_kept : (g : Span → Span) (t : Forest) → in_first (respanned g t) ≡ respanned g (in_first t)
first_kept g empty = refl
first_kept g (tree f s ps rest) = refl

after_kept : (g : Span → Span) (t : Forest) → after_first (respanned g t) ≡ respanned g (after_first t)
after_kept g empty = refl
after_kept g (tree f s ps rest) = refl

none_kept : (g : Span → Span) (t : Forest) → is_none (respanned g t) ≡ is_none t
none_kept g empty = refl
none_kept g (tree f s ps rest) = refl

no_first : (g : Span → Span) (t : Forest) → is_none (in_first (respanned g t)) ≡ is_none (in_first t)
no_first g t = ap is_none (first_kept g t) ∙ none_kept g (in_first t)

no_second : (g : Span → Span) (t : Forest) → is_none (in_first (after_first (respanned g t))) ≡ is_none (in_first (after_first t))
no_second g t = ap (λ u. is_none (in_first u)) (after_kept g t) ∙ no_first g (after_first t)

no_third : (g : Span → Span) (t : Forest) → is_none (in_first (after_first (after_first (respanned g t)))) ≡ is_none (in_first (after_first (after_first t)))
no_third g t = ap (λ u. is_none (in_first (after_first u))) (after_kept g t) ∙ no_second g (after_first t)

types_kept : (g : Span → Span) (t : Forest) → types (respanned g t) ≡ types t
types_kept g empty = refl
types_kept g (tree f s ps rest) = ap (λ n. one_if (is_type f) + n) (types_kept g rest)

sole_kept : (g : Span → Span) (t : Forest) → has_sole (respanned g t) ≡ has_sole t
sole_kept g empty = refl
sole_kept g (tree f s ps rest) = ap (λ b. is_sole f || b) (sole_kept g rest)

specifiers_kept : (g : Span → Span) (t : Forest) → are_specifiers (respanned g t) ≡ are_specifiers t
specifiers_kept g t = ap (λ b. not b || nat_lt (types (respanned g t)) 2) (sole_kept g t) ∙ ap (λ n. not (has_sole t) || nat_lt n 2) (types_kept g t)

first_specifiers : (g : Span → Span) (t : Forest) → are_specifiers (in_first (respanned g t)) ≡ are_specifiers (in_first t)
first_specifiers g t = ap are_specifiers (first_kept g t) ∙ specifiers_kept g (in_first t)

first_types : (g : Span → Span) (t : Forest) → types (in_first (respanned g t)) ≡ types (in_first t)
first_types g t = ap types (first_kept g t) ∙ types_kept g (in_first t)

absent_at : (f : Form) (s r : Span) (ps qs rest others : Forest) → is_absent (tree f s ps rest) ≡ is_absent (tree f r qs others)
absent_at (form.Declarator declarator.Absent) s r ps qs rest others = refl
absent_at f s r ps qs rest others = refl

absent_kept : (g : Span → Span) (t : Forest) → is_absent (respanned g t) ≡ is_absent t
absent_kept g empty = refl
absent_kept g (tree f s ps rest) = absent_at f (g s) s (respanned g ps) ps (respanned g rest) rest

name_at : (f : Form) (s r : Span) (ps qs rest others : Forest) → is_name (tree f s ps rest) ≡ is_name (tree f r qs others)
name_at (form.Declarator declarator.Named) s r ps qs rest others = refl
name_at f s r ps qs rest others = refl

name_kept : (g : Span → Span) (t : Forest) → is_name (respanned g t) ≡ is_name t
name_kept g empty = refl
name_kept g (tree f s ps rest) = name_at f (g s) s (respanned g ps) ps (respanned g rest) rest

names_kept : (g : Span → Span) (t : Forest) → names (respanned g t) ≡ names t
names_kept g empty = refl
names_kept g (tree f s ps rest) = or_same (named_at f (names (respanned g ps))) (named_at f (names ps)) (names (respanned g rest)) (names rest) (ap (named_at f) (names_kept g ps)) (names_kept g rest)

function_kept : (g : Span → Span) (t : Forest) → has_function (respanned g t) ≡ has_function t
function_kept g empty = refl
function_kept g (tree f s ps rest) = or_same (function_at f (is_name (respanned g ps)) (has_function (respanned g ps))) (function_at f (is_name ps) (has_function ps)) (has_function (respanned g rest)) (has_function rest)
    (ap (λ b. function_at f b (has_function (respanned g ps))) (name_kept g ps) ∙ ap (function_at f (is_name ps)) (function_kept g ps)) (function_kept g rest)

ids_kept : (g : Span → Span) (t : Forest) → has_ids (respanned g t) ≡ has_ids t
ids_kept g empty = refl
ids_kept g (tree (form.Params params.Ids) s ps rest) = ap not (no_first g ps)
ids_kept g (tree f s ps rest) = ids_kept g rest

last_kept : (g : Span → Span) (t : Forest) → last_opens (respanned g t) ≡ last_opens t
last_kept g empty = refl
last_kept g (tree f s ps empty) = ap (λ b. ends_as_last_part f && b) (last_kept g ps)
last_kept g (tree f s ps (tree h r qs rest)) = last_kept g (tree h r qs rest)

opens_kept : (g : Span → Span) (t : Forest) → first_opens (respanned g t) ≡ first_opens t
opens_kept g empty = refl
opens_kept g (tree f s ps rest) = ap (λ b. ends_as_last_part f && b) (last_kept g ps)

second_opens : (g : Span → Span) (t : Forest) → first_opens (after_first (respanned g t)) ≡ first_opens (after_first t)
second_opens g t = ap first_opens (after_kept g t) ∙ opens_kept g (after_first t)

third_opens : (g : Span → Span) (t : Forest) → first_opens (after_first (after_first (respanned g t))) ≡ first_opens (after_first (after_first t))
third_opens g t = ap (λ u. first_opens (after_first u)) (after_kept g t) ∙ second_opens g (after_first t)

ordered_kept : (g : Span → Span) (late : Bool) (t : Forest) → ordered late (respanned g t) ≡ ordered late t
ordered_kept g late empty = refl
ordered_kept g late (tree f s ps rest) = ap (λ b. if is_decl f then not late && b else ordered true (respanned g rest)) (ordered_kept g late rest)
    ∙ ap (λ b. if is_decl f then not late && ordered late rest else b) (ordered_kept g true rest)

first_ordered : (g : Span → Span) (t : Forest) → ordered false (in_first (respanned g t)) ≡ ordered false (in_first t)
first_ordered g t = ap (ordered false) (first_kept g t) ∙ ordered_kept g false (in_first t)

-- ---- the rules

tagged_kept : (g : Span → Span) (t : Forest) → (not (is_none (in_first (respanned g t))) || not (is_none (in_first (after_first (respanned g t))))) ≡ (not (is_none (in_first t)) || not (is_none (in_first (after_first t))))
tagged_kept g t = or_same (not (is_none (in_first (respanned g t)))) (not (is_none (in_first t))) (not (is_none (in_first (after_first (respanned g t))))) (not (is_none (in_first (after_first t)))) (ap not (no_first g t)) (ap not (no_second g t))

spec_kept : (g : Span → Span) (f : SpecForm) (t : Forest) → in_spec f (respanned g t) ≡ in_spec f t
spec_kept g (spec.StructOf k) t = ap (λ b. unless b rule.TagOrBody None) (tagged_kept g t)
spec_kept g spec.EnumOf t = ap (λ b. unless b rule.TagOrBody None) (tagged_kept g t)
spec_kept g f t = refl

declarator_kept : (g : Span → Span) (f : DeclaratorForm) (t : Forest) → in_declarator f (respanned g t) ≡ in_declarator f t
declarator_kept g declarator.FunctionOf t = ap (λ b. unless b rule.AbstractIds None) (or_same (names (respanned g t)) (names t) (not (has_ids (respanned g t))) (not (has_ids t)) (names_kept g t) (ap not (ids_kept g t)))
declarator_kept g f t = refl

if_kept : (g : Span → Span) (t : Forest) → in_if (respanned g t) ≡ in_if t
if_kept g t = ap (λ b. unless b rule.OpenPart None) (or_same (is_none (in_first (after_first (after_first (respanned g t))))) (is_none (in_first (after_first (after_first t)))) (not (first_opens (after_first (respanned g t)))) (not (first_opens (after_first t))) (no_third g t) (ap not (second_opens g t)))

stmt_kept : (g : Span → Span) (f : StmtForm) (t : Forest) → in_stmt f (respanned g t) ≡ in_stmt f t
stmt_kept g stmt.Block t = ap (λ b. unless b rule.LateDeclaration None) (first_ordered g t)
stmt_kept g stmt.If t = if_kept g t
stmt_kept g f t = refl

abbrev of_function : Bool → Bool → Bool → Option Rule
of_function a b c = unless a rule.SoleType (unless b rule.NoName (unless c rule.NoFunction None))

item_kept : (g : Span → Span) (f : ItemForm) (t : Forest) → in_item f (respanned g t) ≡ in_item f t
item_kept g item.Function t = ap (λ b. of_function b (names (respanned g t)) (has_function (respanned g t))) (first_specifiers g t)
    ∙ ap (λ b. of_function (are_specifiers (in_first t)) b (has_function (respanned g t))) (names_kept g t)
    ∙ ap (of_function (are_specifiers (in_first t)) (names t)) (function_kept g t)
item_kept g f t = refl

template_kept : (g : Span → Span) (f : TemplateForm) (t : Forest) → in_template f (respanned g t) ≡ in_template f t
template_kept g template.Braces t = ap (λ b. unless b rule.LateDeclaration None) (first_ordered g t)
template_kept g f t = refl

meta_stmt_kept : (g : Span → Span) (f : MetaStmtForm) (t : Forest) → in_meta_stmt f (respanned g t) ≡ in_meta_stmt f t
meta_stmt_kept g metastmt.If t = if_kept g t
meta_stmt_kept g metastmt.Match t = ap (λ b. unless (not b) rule.OpenPart None) (third_opens g t)
meta_stmt_kept g f t = refl

group_kept : (g : Span → Span) (f : GroupForm) (t : Forest) → in_group f (respanned g t) ≡ in_group f t
group_kept g group.InitDeclarator t = ap (λ b. unless b rule.NoName None) (names_kept g t)
group_kept g group.MemberDeclarator t = ap (λ b. unless b rule.NameOrWidth None) (or_same (names (respanned g t)) (names t) (is_absent (respanned g t) && not (is_none (in_first (after_first (respanned g t))))) (is_absent t && not (is_none (in_first (after_first t)))) (names_kept g t)
    (and_same (is_absent (respanned g t)) (is_absent t) (not (is_none (in_first (after_first (respanned g t))))) (not (is_none (in_first (after_first t)))) (absent_kept g t) (ap not (no_second g t))))
group_kept g f t = refl

sole_type_kept : (g : Span → Span) (t : Forest) → unless (are_specifiers (in_first (respanned g t))) rule.SoleType None ≡ unless (are_specifiers (in_first t)) rule.SoleType None
sole_type_kept g t = ap (λ b. unless b rule.SoleType None) (first_specifiers g t)

among_kept : (g : Span → Span) (f : Form) (t : Forest) → among_rules f (respanned g t) ≡ among_rules f t
among_kept g form.TypeName t = unless_same (are_specifiers (in_first (respanned g t))) (are_specifiers (in_first t)) rule.SoleType (unless (not (names (respanned g t))) rule.Name None) (unless (not (names t)) rule.Name None) (first_specifiers g t) (ap (λ b. unless (not b) rule.Name None) (names_kept g t))
among_kept g form.Specs t = unless_same (are_specifiers (in_first (respanned g t))) (are_specifiers (in_first t)) rule.SoleType (unless (nat_lt 0 (types (in_first (respanned g t)))) rule.NoType None) (unless (nat_lt 0 (types (in_first t))) rule.NoType None) (first_specifiers g t) (ap (λ n. unless (nat_lt 0 n) rule.NoType None) (first_types g t))
among_kept g (form.Spec f) t = spec_kept g f t
among_kept g form.Member t = sole_type_kept g t
among_kept g (form.Declarator f) t = declarator_kept g f t
among_kept g form.Param t = sole_type_kept g t
among_kept g form.Decl t = sole_type_kept g t
among_kept g (form.Stmt f) t = stmt_kept g f t
among_kept g (form.Item f) t = item_kept g f t
among_kept g (form.Template f) t = template_kept g f t
among_kept g (form.MetaStmt f) t = meta_stmt_kept g f t
among_kept g (form.Group f) t = group_kept g f t
among_kept g f t = refl

broken_kept : (g : Span → Span) (f : Form) (t : Forest) → broken f (respanned g t) ≡ broken f t
broken_kept g f t = ap (λ b. if b then among_rules f (respanned g t) else Some rule.Parts) (fits_kept g (pieces f) t)
    ∙ ap (λ o. if fits (pieces f) t then o else Some rule.Parts) (among_kept g f t)

pub right_kept : (g : Span → Span) (f : Form) (t : Forest) → is_right f (respanned g t) ≡ is_right f t
right_kept g f t = ap is_nothing (broken_kept g f t)

pub valid_kept : (g : Span → Span) (t : Forest) → valid (respanned g t) ≡ valid t
valid_kept g empty = refl
valid_kept g (tree f s ps rest) = and_same (is_right f (respanned g ps) && valid (respanned g ps)) (is_right f ps && valid ps) (valid (respanned g rest)) (valid rest)
    (and_same (is_right f (respanned g ps)) (is_right f ps) (valid (respanned g ps)) (valid ps) (right_kept g f ps) (valid_kept g ps)) (valid_kept g rest)

-- ---- sameness

same_left : (g : Span → Span) (t u : Forest) → same (respanned g t) u ≡ same t u
same_left g empty empty = refl
same_left g empty (tree h r qs others) = refl
same_left g (tree f s ps rest) empty = refl
same_left g (tree f s ps rest) (tree h r qs others) = and_same (one_form f h && same (respanned g ps) qs) (one_form f h && same ps qs) (same (respanned g rest) others) (same rest others) (ap (λ b. one_form f h && b) (same_left g ps qs)) (same_left g rest others)

same_right : (g : Span → Span) (t u : Forest) → same t (respanned g u) ≡ same t u
same_right g empty empty = refl
same_right g empty (tree h r qs others) = refl
same_right g (tree f s ps rest) empty = refl
same_right g (tree f s ps rest) (tree h r qs others) = and_same (one_form f h && same ps (respanned g qs)) (one_form f h && same ps qs) (same rest (respanned g others)) (same rest others) (ap (λ b. one_form f h && b) (same_right g ps qs)) (same_right g rest others)

same_self : (t : Forest) → same t t ≡ true
same_self empty = refl
same_self (tree f s ps rest) = and_same (one_form f f && same ps ps) true (same rest rest) true (and_same (one_form f f) true (same ps ps) true (laws-law.refl f) (same_self ps)) (same_self rest)

pub same_as_before : (g : Span → Span) (t : Forest) → same (respanned g t) t ≡ true
same_as_before g t = same_left g t t ∙ same_self t

pub same_kept : (g h : Span → Span) (t u : Forest) → same (respanned g t) (respanned h u) ≡ same t u
same_kept g h t u = same_left g t (respanned h u) ∙ same_right h t u

-- ---- other spans in place of other ones

pub respanned_twice : (g h : Span → Span) (t : Forest) → respanned g (respanned h t) ≡ respanned (λ s. g (h s)) t
respanned_twice g h empty = refl
respanned_twice g h (tree f s ps rest) = ap (λ t. tree f (g (h s)) t (respanned g (respanned h rest))) (respanned_twice g h ps) ∙ ap (λ t. tree f (g (h s)) (respanned (λ s. g (h s)) ps) t) (respanned_twice g h rest)
