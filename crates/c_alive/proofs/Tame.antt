-- Each loop of the grammar ends, since each turn of it takes a token.
use Rattle.std.proofs.Common.{◌≡◌, inl, inr, refl, subst, ap, sym, ℕ, zero, suc, ◌+◌, ◌-◌, max, ◌<◌, not, Bool, true, false, ◌&&◌, ◌||◌, nat_eq, nat_lt, List, [], ◌∷◌, length, Option, Some, None, Ok, arith}
use Rattle.c_tokens.specs.declared.token.Shape.{Shape}
use Rattle.c_tokens.specs.declared.token.Shape.TheVariants as shape
use Rattle.c_tokens.specs.declared.token.Punct.{Punct}
use Rattle.c_tokens.specs.declared.token.Punct.TheVariants as punct
use Rattle.c_tokens.specs.declared.token.Key.TheVariants as key
use Rattle.c_tokens.specs.declared.class.Class.{Class}
use Rattle.c_tokens.specs.declared.class.Class.TheVariants as class
use Rattle.c_tokens.specs.ClassNumbers.{class_number}
use Rattle.c_forms.specs.declared.pieces.Event.TheVariants as event
use Rattle.c_forms.specs.declared.pieces.Sort.{Sort}
use Rattle.c_forms.specs.declared.pieces.Sort.TheVariants as s
use Rattle.c_forms.specs.declared.pieces.Repetition.{Repetition}
use Rattle.c_forms.specs.declared.pieces.Repetition.TheVariants.{Optional, Greedy, Due, All, Any, Many, Spliced, Ended}
use Rattle.c_forms.specs.declared.pieces.Piece.{Piece}
use Rattle.c_forms.specs.declared.pieces.Piece.TheVariants.{Token, Maybe, Own, TypeTokens, KindName, One, Group, Rest, Anything, Then}
use Rattle.c_forms.specs.declared.forms.Form.{Form}
use Rattle.c_forms.specs.declared.forms.Form.TheVariants as form
use Rattle.c_forms.specs.declared.forms.ExpForm.{ExpForm}
use Rattle.c_forms.specs.declared.forms.ExpForm.TheVariants as exp
use Rattle.c_forms.specs.declared.forms.SpecForm.{SpecForm}
use Rattle.c_forms.specs.declared.forms.SpecForm.TheVariants as spec
use Rattle.c_forms.specs.declared.forms.StmtForm.{StmtForm}
use Rattle.c_forms.specs.declared.forms.StmtForm.TheVariants as stmt
use Rattle.c_forms.specs.declared.forms.DeclaratorForm.{DeclaratorForm}
use Rattle.c_forms.specs.declared.forms.DeclaratorForm.TheVariants as declarator
use Rattle.c_forms.specs.declared.forms.ParamsForm.TheVariants as params
use Rattle.c_forms.specs.declared.forms.InitForm.TheVariants as init
use Rattle.c_forms.specs.declared.forms.ItemForm.TheVariants as item
use Rattle.c_forms.specs.declared.forms.GroupForm.TheVariants as group
use Rattle.c_forms.specs.declared.operators.StorageClass.TheVariants as storage
use Rattle.c_forms.specs.declared.operators.BinaryOperator.TheVariants as operator
use Rattle.c_forms.specs.Measures.{level, pieces}
use Rattle.c_forms.specs.Tokens.{map_option, declarator_continued, begun, continued, exp_begun, spec_of_shape, stmt_begun}
use Rattle.c_forms.specs.Sets.{has, starts, element_starts, goes_on_with}
use Rattle.c_reader.specs.States.{State, Seen, is_function}
use Rattle.c_reader.specs.Tokens.{Spot}
use Rattle.c_reader.specs.Readers.{Input, Reader, Turn, More, Last, Rule, Of, Opened, Found, Give, Refuse, Look, Next, Bind, Fits, Ask, Change, ◌>>◌, read, here, choose, token, turn_while}
use Rattle.c_reader.proofs.Loops.{same_answer}
use Rattle.c_reader.proofs.Sets.{both, either, not_true}
use Rattle.c_reader.proofs.Bounds.{Bounded, Tame}
use Rattle.c_reader.proofs.Advance.{Takes, advances, the_end, in_tokens, bounded_while, grew}
use Rattle.c_syntax.specs.Allowed.{may_happen, may_stand, has_name, places}
use Rattle.c_syntax.specs.Reading.{Before, Usual, has_none, before_by, is_absent, ended, list_from, none_at, with_last, one, deeper, node, Listed, Gathered, Parts, called, parts_by, parts_of, is_starred, is_class, separated, separator_of, goes, element_after, others, ended_turn, others_ended, many, at_most_one, any_number, is_missing, gathered_by, gathered, pieces_in, completed, inside, nothing}
use Rattle.c_syntax.specs.Grammar.{body, sign, whole, charged, is_sign, is_word, is_type_word, begins, Standing, standing, tight, entered, type_or, sized, begun_by, primary, expression, opened, parenthesized, after_paren, after_first, after_part, sized_opened, continued_by, is_tail, tail_by, turn, climb, the_declarator, may_be_absent, may_be_named, is_value, absent_at, parenthesized_sort, begins_parenthesized, nameless_function, is_nameable, opened_declarator, declarator_head, declarator_of, typed, parameters, initializer, label, id_leaf, name_leaf, word_led, type_led, typedef_leaf, block, function_from, declaration_of, declaration_from, outer, specified, unspecified, external, goes_on_declaring, item_reader, typedef_of, spec_of, specifier_by, specifier, worded, statement_by, statement, late, declaration_at, type_first, block_item, at_sort, in_place}

-- the sorts each of whose trees has a token, as far as loops ask
abbrev pub takes : Sort → Bool
takes s.Exp = true
takes s.Id = true
takes s.Literal = true
takes s.Spec = true
takes s.PlainSpec = true
takes s.Qualifier = true
takes s.Member = true
takes s.Decl = true
takes s.Stmt = true
takes s.BlockItem = true
takes _ = false

abbrev pub Taking : Rule → Type 0
Taking (Of due least) = takes due ≡ true
Taking Opened = ⊥

-- such a reader takes a token
abbrev pub Firm : {A : Type 0} → Reader A → Type 0
Firm r = Takes Taking r

abbrev pub Firmly : Parts → Type 0
Firmly part = (due : Sort) (least : ℕ) → takes due ≡ true → Firm (part due least)

abbrev pub Tamely : Parts → Type 0
Tamely part = (due : Sort) (least : ℕ) → Tame body (part due least)

pub firm_choose : {A : Type 0} (b : Bool) (r q : Reader A) → Firm r → Firm q → Firm (choose b r q)
firm_choose true r q R Q = R
firm_choose false r q R Q = Q

pub tame_choose : {A : Type 0} (b : Bool) (r q : Reader A) → Tame body r → Tame body q → Tame body (choose b r q)
tame_choose true r q R Q = R
tame_choose false r q R Q = Q

pub firm_called : Firmly called
firm_called due least h = inl h

pub tame_called : Tamely called
tame_called due least = (tt, λ x. tt)

pub firm_parts : (f : Form) (inner : Parts) → Firmly inner → Firmly (parts_of f inner)
firm_parts f inner F = by_test (is_starred f)
  where
    by_test : (b : Bool) → Firmly (parts_by b inner)
    by_test true = firm_called
    by_test false = F

pub tame_parts : (f : Form) (inner : Parts) → Tamely inner → Tamely (parts_of f inner)
tame_parts f inner F = by_test (is_starred f)
  where
    by_test : (b : Bool) → Tamely (parts_by b inner)
    by_test true = tame_called
    by_test false = F

-- ---- what takes a token

pub firm_element : (element : Reader Found) (g : Gathered) → Firm element → Firm (element_after element g)
unfolding element_after
firm_element element g F = inl F

pub firm_many : (r : Repetition) (due : Sort) (element : Reader Found) (i : ℕ) → Firm element → Firm (many r due element i)
unfolding many element_after
firm_many (Ended separator end_token) due element i F = inl (inl F)
firm_many _ due element i F = inl (inl F)

firm_some : (r : Repetition) (due : Sort) (element : Reader Found) (i : ℕ) (b : Bool) → b ≡ true → Firm element → Firm (any_number b r due element i)
firm_some r due element i true h F = firm_many r due element i F
firm_some r due element i false h F = absurd (cc h)

-- whether a repetition has an element
abbrev is_some : Repetition → Bool
is_some All = true
is_some (Many separator least) = nat_eq least 1
is_some (Spliced separator least) = nat_eq least 1
is_some (Ended separator end_token) = true
is_some _ = false

pub firm_gathered : (r : Repetition) (due : Sort) (element : Reader Found) (before : Before) → is_some r ≡ true → Firm element → Firm (gathered r due element before)
unfolding gathered
firm_gathered Optional due element before h F = absurd (cc h)
firm_gathered Greedy due element before h F = absurd (cc h)
firm_gathered Due due element before h F = absurd (cc h)
firm_gathered All due element before h F = λ i. inl (firm_many All due element i.place F)
firm_gathered Any due element before h F = absurd (cc h)
firm_gathered (Many separator least) due element before h F = λ i. inl (firm_some (Many separator least) due element i.place (nat_eq least 1) h F)
firm_gathered (Spliced separator least) due element before h F = λ i. inl (firm_some (Spliced separator least) due element i.place (nat_eq least 1) h F)
firm_gathered (Ended separator end_token) due element before h F = λ i. inl (firm_many (Ended separator end_token) due element i.place F)

-- whether pieces of a form that is read as a sort have a token
abbrev pub firm : Sort → List Piece → Bool
firm own [] = false
firm own (Token c ∷ ps) = true
firm own (Maybe c ∷ ps) = firm own ps
firm own (Own ∷ ps) = true
firm own (TypeTokens ∷ ps) = true
firm own (KindName ∷ ps) = true
firm own (One due least ∷ ps) = takes (inside own due) || firm own ps
firm own (Group r due least ∷ ps) = is_some r && takes due
firm own (Rest due ∷ ps) = true
firm own (Anything ∷ ps) = true
firm own (Then e ∷ ps) = firm own ps

pub firm_pieces : (part : Parts) → Firmly part → (own : Sort) (f : Form) (before : Before) (ps : List Piece) → firm own ps ≡ true → Firm (pieces_in part own f before ps)
unfolding pieces_in
firm_pieces part F own f before [] h = absurd (cc h)
firm_pieces part F own f before (Token c ∷ ps) h = inl tt
firm_pieces part F own f before (Maybe c ∷ ps) h = λ x. firm_choose (is_class c x) _ _ tt (firm_pieces part F own f Usual ps h)
firm_pieces part F own f before (Own ∷ ps) h = inl tt
firm_pieces part F own f before (TypeTokens ∷ ps) h = tt
firm_pieces part F own f before (KindName ∷ ps) h = tt
firm_pieces part F own f before (One due least ∷ ps) h = elim (either (takes (inside own due)) (firm own ps) h) [
  | inl e ↦ inl (F (inside own due) least e)
  | inr e ↦ inr (λ x. inl (firm_pieces part F own f _ ps e))
]
firm_pieces part F own f before (Group (Ended separator end_token) due least ∷ (p ∷ ps)) h = inl (firm_gathered (Ended separator end_token) due (part due least) before refl (F due least h))
firm_pieces part F own f before (Group (Ended separator end_token) due least ∷ []) h = inl (firm_gathered (Ended separator end_token) due (part due least) before refl (F due least h))
firm_pieces part F own f before (Group Optional due least ∷ ps) h = absurd (cc h)
firm_pieces part F own f before (Group Greedy due least ∷ ps) h = absurd (cc h)
firm_pieces part F own f before (Group Due due least ∷ ps) h = absurd (cc h)
firm_pieces part F own f before (Group All due least ∷ ps) h = inl (firm_gathered All due (part due least) before refl (F due least h))
firm_pieces part F own f before (Group Any due least ∷ ps) h = absurd (cc h)
firm_pieces part F own f before (Group (Many separator n) due least ∷ ps) h = let k = both (nat_eq n 1) (takes due) h in inl (firm_gathered (Many separator n) due (part due least) before k.0 (F due least k.1))
firm_pieces part F own f before (Group (Spliced separator n) due least ∷ ps) h = let k = both (nat_eq n 1) (takes due) h in inl (firm_gathered (Spliced separator n) due (part due least) before k.0 (F due least k.1))
firm_pieces part F own f before (Rest due ∷ ps) h = tt
firm_pieces part F own f before (Anything ∷ ps) h = tt
firm_pieces part F own f before (Then e ∷ ps) h = λ i. firm_choose (may_happen e i.state) (Change e (pieces_in part own f before ps)) Refuse (firm_pieces part F own f before ps h) tt

pub firm_completed : (part : Parts) → Firmly part → (own : Sort) (f : Form) (i : ℕ) (done : Listed) (ps : List Piece) → firm own ps ≡ true → Firm (completed part own f i done ps)
unfolding completed
firm_completed part F own f i done ps h = inl (firm_pieces part F own f Usual ps h)

firm_charged : {A : Type 0} (b : Bool) (r : Reader A) → Firm r → Firm (charged b r)
firm_charged true r F = F
firm_charged false r F = F

pub firm_whole : (inner : Parts) → Firmly inner → (own : Sort) (f : Form) → firm own (pieces f) ≡ true → Firm (whole inner own f)
unfolding whole
firm_whole inner F own f h = λ i. firm_charged (is_starred f) _ (firm_completed (parts_of f inner) (firm_parts f inner F) own f i.place nothing (pieces f) h)

-- ---- the grammar takes a token where a sort's trees have one

firm_tight : (least : ℕ) (f : Form) (r : Reader Found) → Firm r → Firm (tight least f r)
firm_tight least f r F = firm_choose (nat_lt (level f) least) Refuse (standing (level f) r) tt (inl F)

exp_firm : (f : ExpForm) → firm s.Exp (pieces (form.Exp f)) ≡ true
exp_firm (exp.Name w) = refl
exp_firm (exp.Binary operator.LogicalOr) = refl
exp_firm (exp.Binary _) = refl
exp_firm _ = refl

spec_firm : (own : Sort) (f : SpecForm) → firm own (pieces (form.Spec f)) ≡ true
spec_firm own (spec.Storage storage.Typedef) = refl
spec_firm own (spec.Storage _) = refl
spec_firm own _ = refl

stmt_firm : (f : StmtForm) → firm s.Stmt (pieces (form.Stmt f)) ≡ true
stmt_firm stmt.Label = refl
stmt_firm _ = refl

firm_primary : (inner : Parts) → Firmly inner → (least : ℕ) → Firm (primary inner least)
unfolding primary type_or
firm_primary inner F least = λ i x. firm_choose (is_sign punct.LeftParen x) (entered least i.place) (by_key i x) tt
    (firm_choose (is_class (class.Key key.Sizeof) x) (sized inner least i.place) (by_start x) tt
    (firm_choose (begins s.Exp x) (begun_by inner least (begun s.Exp x.shape)) Refuse (by_form (exp_begun x.shape)) tt))
  where
    by_start : Seen → Reader Standing
    by_start x = choose (begins s.Exp x) (begun_by inner least (begun s.Exp x.shape)) Refuse

    by_key : Spot → Seen → Reader Standing
    by_key i x = choose (is_class (class.Key key.Sizeof) x) (sized inner least i.place) (by_start x)

    by_form : (o : Option ExpForm) → Firm (begun_by inner least (map_option form.Exp o))
    by_form (Some f) = firm_tight least (form.Exp f) (whole inner s.Exp (form.Exp f)) (firm_whole inner F s.Exp (form.Exp f) (exp_firm f))
    by_form None = tt

firm_specifier : (inner : Parts) → Firmly inner → (due : Sort) → ((x : Seen) → (o : Option SpecForm) × (begun due x.shape ≡ map_option form.Spec o)) → Firm (specifier inner due)
unfolding specifier
firm_specifier inner F due B = λ i x. firm_choose (begins due x) (specifier_by inner due i.state (spec_of due (is_type_word x) x)) Refuse (by_word i.state x (is_type_word x)) tt
  where
    by_form : (z : State) (o : Option SpecForm) → Firm (specifier_by inner due z (map_option form.Spec o))
    by_form z (Some f) = firm_choose (may_stand z (form.Spec f)) (whole inner due (form.Spec f)) Refuse (firm_whole inner F due (form.Spec f) (spec_firm due f)) tt
    by_form z None = tt

    by_type : (z : State) (x : Shape) → Firm (specifier_by inner due z (typedef_of x))
    by_type z (shape.Word w) = by_form z (Some (spec.Typedef w))
    by_type z _ = tt

    by_word : (z : State) (x : Seen) (b : Bool) → Firm (specifier_by inner due z (spec_of due b x))
    by_word z x true = by_type z x.shape
    by_word z x false = subst (λ o. Firm (specifier_by inner due z o)) (sym (B x).1) (by_form z (B x).0)

firm_statement : (inner : Parts) → Firmly inner → Firm (statement inner)
unfolding statement worded
firm_statement inner F = λ i x. firm_choose (is_word x) (worded inner i.place x) (statement_by inner (begun s.Stmt x.shape)) tt (by_form (stmt_begun x.shape))
  where
    by_form : (o : Option StmtForm) → Firm (statement_by inner (map_option form.Stmt o))
    by_form (Some f) = firm_whole inner F s.Stmt (form.Stmt f) (stmt_firm f)
    by_form None = firm_whole inner F s.Stmt (form.Stmt stmt.Express) refl

firm_block_item : (inner : Parts) → Firmly inner → Firm (block_item inner)
unfolding block_item type_first
firm_block_item inner F = λ i x. firm_choose (not i.state.is_late && begins s.Decl x) (declaration_at inner i.place x) (late (statement inner))
    (firm_choose (is_type_word x) (type_first inner i.place x) (whole inner s.Decl form.Decl) tt (firm_whole inner F s.Decl form.Decl refl)) (inl (firm_statement inner F))

firm_at : (inner : Parts) → Firmly inner → Firmly (at_sort inner)
unfolding expression
firm_at inner F s.Exp least h = λ i. inl (firm_primary inner F least)
firm_at inner F s.Id least h = λ i. tt
firm_at inner F s.Literal least h = λ i. tt
firm_at inner F s.Spec least h = firm_specifier inner F s.Spec (λ x. (spec_of_shape x.shape, refl))
firm_at inner F s.PlainSpec least h = firm_specifier inner F s.PlainSpec (λ x. (spec_of_shape x.shape, refl))
firm_at inner F s.Qualifier least h = firm_specifier inner F s.Qualifier (λ x. (spec_of_shape x.shape, refl))
firm_at inner F s.Member least h = firm_whole inner F s.Member form.Member refl
firm_at inner F s.Decl least h = firm_whole inner F s.Decl form.Decl refl
firm_at inner F s.Stmt least h = firm_statement inner F
firm_at inner F s.BlockItem least h = firm_block_item inner F
firm_at inner F _ least h = absurd (cc h)

pub firm_in_place : (n : ℕ) → Firmly (in_place n)
unfolding in_place
firm_in_place zero due least h = tt
firm_in_place (suc n) due least h = firm_at (in_place n) (firm_in_place n) due least h

pub every : (n : Rule) → Taking n → Firm (body n)
every (Of due least) h = firm_in_place places due least h
every Opened h = absurd h

-- ---- loops end

-- each turn that goes on takes a token of those that there are
bounded_by : {A S : Type 0} (f : S → Reader (Turn S A)) → ((d : ℕ) (s : S) (i : Input) (t : S) (j : Input) → read body d (f s) i ≡ Ok (More t, j) → ((j.tokens ≡ i.tokens) × (i.at.place < j.at.place)) × (i.at.place < length i.tokens)) → Bounded body f
bounded_by f F = record {
  left = λ d s i. length i.tokens - i.at.place;
  few = λ d s i. omega arith;
  shrinks = λ d. record { falls = λ s i t j e. let a = F d s i t j e in let same : length j.tokens ≡ length i.tokens = ap length a.0.0 in omega (arith, a.0.1, a.1) };
}

-- whether the loops of a repetition end
abbrev pub ends_so : Repetition → Sort → Bool
ends_so r due = not (has (goes_on_with r (element_starts r due)) the_end.class)

pub bounded_others : (r : Repetition) (due : Sort) (element : Reader Found) → ends_so r due ≡ true → ((g : Gathered) → Firm (separated (separator_of r) (element_after element g))) → Bounded body (turn_while (goes r due) (λ _ g. separated (separator_of r) (element_after element g)))
bounded_others r due element h F = bounded_while body (goes r due) (λ _ g. separated (separator_of r) (element_after element g)) Taking every (λ x g. F g) (λ g. not_true _ h)

pub bounded_ended : (separator end_token : Class) (element : Reader Found) → is_class separator the_end ≡ false → Bounded body (ended_turn separator end_token element)
bounded_ended separator end_token element never = bounded_by (ended_turn separator end_token element) (λ d g i t j e. by_test d g i t j (is_class separator (here i)) refl e)
  where
    After : Gathered → Seen → Reader (Turn Gathered Gathered)
    After g y = choose (is_class end_token y) (Give (Last (ended g))) (Bind (element_after element g) (λ h. Give (More h)))

    Ending : Turn Gathered Gathered → Type 0
    Ending (More t) = ⊥
    Ending (Last t) = Unit {0}

    by_test : (d : ℕ) (g : Gathered) (i : Input) (t : Gathered) (j : Input) (b : Bool) → is_class separator (here i) ≡ b → read body d (choose b (Next (Look (After g))) (Give (Last g))) i ≡ Ok (More t, j)
        → ((j.tokens ≡ i.tokens) × (i.at.place < j.at.place)) × (i.at.place < length i.tokens)
    by_test d g i t j true b e = (advances Taking body every d (Next (Look (After g))) i (More t) j tt e, in_tokens i.tokens i.at (is_class separator) never b)
    by_test d g i t j false b e = absurd (subst Ending (same_answer (Last g) (More t) i j e) tt)

-- ---- groups

tame_element : (element : Reader Found) (g : Gathered) → Tame body element → Tame body (element_after element g)
unfolding element_after
tame_element element g T = (T, λ x j. tt)

tame_separated : (o : Option Class) (r : Reader Gathered) → Tame body r → Tame body (separated o r)
tame_separated None r T = T
tame_separated (Some c) r T = T

pub tame_others : (r : Repetition) (due : Sort) (element : Reader Found) (g : Gathered) → Bounded body (turn_while (goes r due) (λ _ g. separated (separator_of r) (element_after element g))) → Tame body element → Tame body (others r due element g)
unfolding others
tame_others r due element g B T = (B, λ h x. tame_choose (goes r due h x) (Bind (separated (separator_of r) (element_after element h)) (λ t. Give (More t))) (Give (Last h)) (tame_separated (separator_of r) (element_after element h) (tame_element element h T), λ t. tt) tt)

pub tame_others_ended : (separator end_token : Class) (element : Reader Found) (g : Gathered) → is_class separator the_end ≡ false → Tame body element → Tame body (others_ended separator end_token element g)
unfolding others_ended
tame_others_ended separator end_token element g never T = (
  bounded_ended separator end_token element never,
  λ h x. tame_choose (is_class separator x) (Next (Look (λ y. choose (is_class end_token y) (Give (Last (ended h))) (Bind (element_after element h) (λ k. Give (More k)))))) (Give (Last h))
      (λ y. tame_choose (is_class end_token y) (Give (Last (ended h))) (Bind (element_after element h) (λ k. Give (More k))) tt (tame_element element h T, λ k. tt)) tt,
)

-- whether a repetition of a sort ends
abbrev pub sound : Repetition → Sort → Bool
sound All due = ends_so All due && takes due
sound Any due = ends_so Any due && takes due
sound (Many None n) due = ends_so (Many None n) due && takes due
sound (Many (Some c) n) due = ends_so (Many (Some c) n) due
sound (Spliced None n) due = ends_so (Spliced None n) due && takes due
sound (Spliced (Some c) n) due = ends_so (Spliced (Some c) n) due
sound (Ended separator end_token) due = not (is_class separator the_end)
sound _ due = true

abbrev pub is_loop : Repetition → Bool
is_loop Optional = false
is_loop Greedy = false
is_loop Due = false
is_loop (Ended separator end_token) = false
is_loop _ = true

abbrev FirmIf : Sort → Reader Found → Type 0
FirmIf due element = takes due ≡ true → Firm element

pub bounded_group : (r : Repetition) (due : Sort) (element : Reader Found) → is_loop r ≡ true → sound r due ≡ true → FirmIf due element → Bounded body (turn_while (goes r due) (λ _ g. separated (separator_of r) (element_after element g)))
bounded_group All due element l h F = let k = both (ends_so All due) (takes due) h in bounded_others All due element k.0 (λ g. firm_element element g (F k.1))
bounded_group Any due element l h F = let k = both (ends_so Any due) (takes due) h in bounded_others Any due element k.0 (λ g. firm_element element g (F k.1))
bounded_group (Many None n) due element l h F = let k = both (ends_so (Many None n) due) (takes due) h in bounded_others (Many None n) due element k.0 (λ g. firm_element element g (F k.1))
bounded_group (Many (Some c) n) due element l h F = bounded_others (Many (Some c) n) due element h (λ g. tt)
bounded_group (Spliced None n) due element l h F = let k = both (ends_so (Spliced None n) due) (takes due) h in bounded_others (Spliced None n) due element k.0 (λ g. firm_element element g (F k.1))
bounded_group (Spliced (Some c) n) due element l h F = bounded_others (Spliced (Some c) n) due element h (λ g. tt)
bounded_group (Ended separator end_token) due element l h F = absurd (cc l)
bounded_group Optional due element l h F = absurd (cc l)
bounded_group Greedy due element l h F = absurd (cc l)
bounded_group Due due element l h F = absurd (cc l)

abbrev is_many : Repetition → Bool
is_many Optional = false
is_many Greedy = false
is_many Due = false
is_many _ = true

tame_many : (r : Repetition) (due : Sort) (element : Reader Found) (i : ℕ) → is_many r ≡ true → sound r due ≡ true → FirmIf due element → Tame body element → Tame body (many r due element i)
unfolding many
tame_many (Ended separator end_token) due element i l h F T = (tame_element element (none_at i) T, λ g. tame_others_ended separator end_token element g (not_true (is_class separator the_end) h) T)
tame_many All due element i l h F T = (tame_element element (none_at i) T, λ g. tame_others All due element g (bounded_group All due element refl h F) T)
tame_many Any due element i l h F T = (tame_element element (none_at i) T, λ g. tame_others Any due element g (bounded_group Any due element refl h F) T)
tame_many (Many separator n) due element i l h F T = (tame_element element (none_at i) T, λ g. tame_others (Many separator n) due element g (bounded_group (Many separator n) due element refl h F) T)
tame_many (Spliced separator n) due element i l h F T = (tame_element element (none_at i) T, λ g. tame_others (Spliced separator n) due element g (bounded_group (Spliced separator n) due element refl h F) T)
tame_many Optional due element i l h F T = absurd (cc l)
tame_many Greedy due element i l h F T = absurd (cc l)
tame_many Due due element i l h F T = absurd (cc l)

pub tame_gathered : (r : Repetition) (due : Sort) (element : Reader Found) (before : Before) → sound r due ≡ true → FirmIf due element → Tame body element → Tame body (gathered r due element before)
unfolding gathered
tame_gathered r due element before h F T = λ i. (by_kind r h i.place, λ g. tt)
  where
    at_most : (i : ℕ) → Tame body (at_most_one element (starts due) i)
    at_most i = λ x. tame_choose (has (starts due) x.class) (element_after element (none_at i)) (Give (none_at i)) (tame_element element (none_at i) T) tt

    any : (b : Bool) (r : Repetition) (i : ℕ) → Tame body (many r due element i) → Tame body (any_number b r due element i)
    any true r i M = M
    any false r i M = λ x. tame_choose (has (element_starts r due) x.class) (many r due element i) (Give (none_at i)) M tt

    by_kind : (r : Repetition) → sound r due ≡ true → (i : ℕ) → Tame body (gathered_by r due element before i)
    by_kind Optional h i = at_most i
    by_kind Greedy h i = at_most i
    by_kind Due h i = tame_choose (is_missing before) (element_after element (none_at i)) (at_most_one element (starts due) i) (tame_element element (none_at i) T) (at_most i)
    by_kind All h i = tame_many All due element i refl h F T
    by_kind Any h i = any false Any i (tame_many Any due element i refl h F T)
    by_kind (Many separator n) h i = any (nat_eq n 1) (Many separator n) i (tame_many (Many separator n) due element i refl h F T)
    by_kind (Spliced separator n) h i = any (nat_eq n 1) (Spliced separator n) i (tame_many (Spliced separator n) due element i refl h F T)
    by_kind (Ended separator end_token) h i = tame_many (Ended separator end_token) due element i refl h F T

-- whether all the repetitions among pieces end
abbrev pub regular : List Piece → Bool
regular [] = true
regular (Group r due least ∷ ps) = sound r due && regular ps
regular (p ∷ ps) = regular ps

regular_rest : (p : Piece) (ps : List Piece) → regular (p ∷ ps) ≡ true → regular ps ≡ true
regular_rest (Group r due least) ps h = (both (sound r due) (regular ps) h).1
regular_rest _ ps h = h

pub tame_pieces : (part : Parts) → Firmly part → Tamely part → (own : Sort) (f : Form) (before : Before) (ps : List Piece) → regular ps ≡ true → Tame body (pieces_in part own f before ps)
unfolding pieces_in
tame_pieces part F T own f before [] h = tt
tame_pieces part F T own f before (Token c ∷ ps) h = (tt, λ x. tame_pieces part F T own f Usual ps h)
tame_pieces part F T own f before (Maybe c ∷ ps) h = λ x. tame_choose (is_class c x) (Next (pieces_in part own f Usual ps)) (pieces_in part own f Usual ps) (tame_pieces part F T own f Usual ps h) (tame_pieces part F T own f Usual ps h)
tame_pieces part F T own f before (Own ∷ ps) h = (tt, λ x. tame_pieces part F T own f Usual ps h)
tame_pieces part F T own f before (One due least ∷ ps) h = (T (inside own due) least, λ x. (tame_pieces part F T own f (before_by (is_absent x.tree)) ps h, λ g. tt))
tame_pieces part F T own f before (Group (Ended separator end_token) due least ∷ (p ∷ ps)) h = let k = both (not (is_class separator the_end)) (regular (p ∷ ps)) h in (
  tame_gathered (Ended separator end_token) due (part due least) before k.0 (F due least) (T due least),
  λ g. (tame_choose g.1.is_ended (pieces_in part own f Usual ps) (pieces_in part own f Usual (p ∷ ps)) (tame_pieces part F T own f Usual ps (regular_rest p ps k.1)) (tame_pieces part F T own f Usual (p ∷ ps) k.1), λ h. tt),
)
tame_pieces part F T own f before (Group (Ended separator end_token) due least ∷ []) h = let k = both (not (is_class separator the_end)) true h in
    (tame_gathered (Ended separator end_token) due (part due least) before k.0 (F due least) (T due least), λ g. (tt, λ h. tt))
tame_pieces part F T own f before (Group Optional due least ∷ ps) h = (tame_gathered Optional due (part due least) before refl (F due least) (T due least), λ g. (tame_pieces part F T own f (before_by (has_none g.1.trees)) ps h, λ h. tt))
tame_pieces part F T own f before (Group Greedy due least ∷ ps) h = (tame_gathered Greedy due (part due least) before refl (F due least) (T due least), λ g. (tame_pieces part F T own f (before_by (has_none g.1.trees)) ps h, λ h. tt))
tame_pieces part F T own f before (Group Due due least ∷ ps) h = (tame_gathered Due due (part due least) before refl (F due least) (T due least), λ g. (tame_pieces part F T own f (before_by (has_none g.1.trees)) ps h, λ h. tt))
tame_pieces part F T own f before (Group All due least ∷ ps) h = let k = both (sound All due) (regular ps) h in (tame_gathered All due (part due least) before k.0 (F due least) (T due least), λ g. (tame_pieces part F T own f (before_by (has_none g.1.trees)) ps k.1, λ h. tt))
tame_pieces part F T own f before (Group Any due least ∷ ps) h = let k = both (sound Any due) (regular ps) h in (tame_gathered Any due (part due least) before k.0 (F due least) (T due least), λ g. (tame_pieces part F T own f (before_by (has_none g.1.trees)) ps k.1, λ h. tt))
tame_pieces part F T own f before (Group (Many separator n) due least ∷ ps) h = let k = both (sound (Many separator n) due) (regular ps) h in
    (tame_gathered (Many separator n) due (part due least) before k.0 (F due least) (T due least), λ g. (tame_pieces part F T own f (before_by (has_none g.1.trees)) ps k.1, λ h. tt))
tame_pieces part F T own f before (Group (Spliced separator n) due least ∷ ps) h = let k = both (sound (Spliced separator n) due) (regular ps) h in
    (tame_gathered (Spliced separator n) due (part due least) before k.0 (F due least) (T due least), λ g. (tame_pieces part F T own f (before_by (has_none g.1.trees)) ps k.1, λ h. tt))
tame_pieces part F T own f before (Then e ∷ ps) h = λ i. tame_choose (may_happen e i.state) (Change e (pieces_in part own f before ps)) Refuse (tame_pieces part F T own f before ps h) tt
tame_pieces part F T own f before (TypeTokens ∷ ps) h = tt
tame_pieces part F T own f before (KindName ∷ ps) h = tt
tame_pieces part F T own f before (Rest due ∷ ps) h = tt
tame_pieces part F T own f before (Anything ∷ ps) h = tt

pub tame_completed : (part : Parts) → Firmly part → Tamely part → (own : Sort) (f : Form) (i : ℕ) (done : Listed) (ps : List Piece) → regular ps ≡ true → Tame body (completed part own f i done ps)
unfolding completed
tame_completed part F T own f i done ps h = (tame_pieces part F T own f Usual ps h, λ g j. tt)

tame_charged : {A : Type 0} (b : Bool) (r : Reader A) → Tame body r → Tame body (charged b r)
tame_charged true r T = T
tame_charged false r T = T

pub tame_whole : (inner : Parts) → Firmly inner → Tamely inner → (own : Sort) (f : Form) → regular (pieces f) ≡ true → Tame body (whole inner own f)
unfolding whole
tame_whole inner F T own f h = λ i. tame_charged (is_starred f) (completed (parts_of f inner) own f i.place nothing (pieces f)) (tame_completed (parts_of f inner) (firm_parts f inner F) (tame_parts f inner T) own f i.place nothing (pieces f) h)

-- ---- what goes on

tail_right : Sort → Option Form → Bool
tail_right due (Some f) = regular (after_first (pieces f)) && firm due (after_first (pieces f))
tail_right due None = true

exp_tail : (p : Punct) → tail_right s.Exp (continued s.Exp p) ≡ true
unfolding tail_right
exp_tail punct.LeftBracket = refl
exp_tail _ = refl

meta_tail : (p : Punct) → tail_right s.MetaExp (continued s.MetaExp p) ≡ true
unfolding tail_right
meta_tail punct.LeftBracket = refl
meta_tail _ = refl

declarator_tail : (due : Sort) (p : Punct) → tail_right due (map_option form.Declarator (declarator_continued p)) ≡ true
unfolding tail_right
declarator_tail due punct.LeftBracket = refl
declarator_tail due _ = refl

any_tail : (due : Sort) (p : Punct) → tail_right due (continued due p) ≡ true
any_tail s.Exp p = exp_tail p
any_tail s.MetaExp p = meta_tail p
any_tail s.Declarator p = declarator_tail s.Declarator p
any_tail s.AbstractDeclarator p = declarator_tail s.AbstractDeclarator p
any_tail s.ParamDeclarator p = declarator_tail s.ParamDeclarator p
any_tail s.MemberName p = declarator_tail s.MemberName p
any_tail s.InnerDeclarator p = declarator_tail s.InnerDeclarator p
any_tail _ p = unfold tail_right in refl

shape_tail : (due : Sort) (x : Shape) → tail_right due (continued_by due x) ≡ true
shape_tail due (shape.Punct p) = any_tail due p
shape_tail due _ = unfold tail_right in refl

module _ (due : Sort) (i : ℕ) (y : Standing) where
  tame_tail : (o : Option Form) → tail_right due o ≡ true → Tame body (tail_by due i y o)
  unfolding tail_right
  tame_tail (Some f) h = let k = both (regular (after_first (pieces f))) (firm due (after_first (pieces f))) h in (tame_completed (parts_of f called) (firm_parts f called firm_called) (tame_parts f called tame_called) due f i (one (deeper y.found)) (after_first (pieces f)) k.0, λ x. tt)
  tame_tail None h = tt

  firm_tail : (o : Option Form) → tail_right due o ≡ true → Firm (tail_by due i y o)
  unfolding tail_right
  firm_tail (Some f) h = let k = both (regular (after_first (pieces f))) (firm due (after_first (pieces f))) h in inl (firm_completed (parts_of f called) (firm_parts f called firm_called) due f i (one (deeper y.found)) (after_first (pieces f)) k.1)
  firm_tail None h = tt

end_tails : (due : Sort) (least : ℕ) (z : State) (y : Standing) → is_tail due least z y (continued_by due shape.End) ≡ false
end_tails due least z y = refl

pub bounded_turn : (due : Sort) (least i : ℕ) → Bounded body (turn due least i)
bounded_turn due least i = bounded_by (turn due least i) falls
  where
    going : Spot → Standing → Seen → Bool
    going k y x = is_tail due least k.state y (continued_by due x.shape)

    item : Seen → Standing → Reader Standing
    item x y = tail_by due i y (continued_by due x.shape)

    falls : (d : ℕ) (y : Standing) (k : Input) (t : Standing) (j : Input) → read body d (turn due least i y) k ≡ Ok (More t, j) → ((j.tokens ≡ k.tokens) × (k.at.place < j.at.place)) × (k.at.place < length k.tokens)
    falls d y k t j e =
        let g = grew body (going k.at) item d y t k j (going k.at y (here k)) e in
        (advances Taking body every d (item (here k) y) k t j (firm_tail due i y (continued_by due (here k).shape) (shape_tail due (here k).shape)) g.1, in_tokens k.tokens k.at (going k.at y) refl g.0)

pub tame_climb : (due : Sort) (least i : ℕ) (y : Standing) → Tame body (climb due least i y)
unfolding climb
tame_climb due least i y = (
  (
    bounded_turn due least i,
    λ y k x. tame_choose (is_tail due least k.state y (continued_by due x.shape)) (Bind (tail_by due i y (continued_by due x.shape)) (λ t. Give (More t))) (Give (Last y))
        (tame_tail due i y (continued_by due x.shape) (shape_tail due x.shape), λ t. tt) tt,
  ),
  λ z. tt,
)

-- ---- expressions

exp_regular : (f : ExpForm) → regular (pieces (form.Exp f)) ≡ true
exp_regular (exp.Name w) = refl
exp_regular (exp.Binary operator.LogicalOr) = refl
exp_regular (exp.Binary _) = refl
exp_regular _ = refl

spec_regular : (f : SpecForm) → regular (pieces (form.Spec f)) ≡ true
spec_regular (spec.Storage storage.Typedef) = refl
spec_regular (spec.Storage _) = refl
spec_regular _ = refl

stmt_regular : (f : StmtForm) → regular (pieces (form.Stmt f)) ≡ true
stmt_regular stmt.Label = refl
stmt_regular _ = refl

tame_tight : (least : ℕ) (f : Form) (r : Reader Found) → Tame body r → Tame body (tight least f r)
tame_tight least f r T = tame_choose (nat_lt (level f) least) Refuse (standing (level f) r) tt (T, λ x. tt)

tame_deeper : (own : Sort) (f : Form) (i : ℕ) (done : Listed) (ps : List Piece) → regular ps ≡ true → Tame body (completed called own f i done ps)
tame_deeper own f i done ps h = tame_completed called firm_called tame_called own f i done ps h

tame_parenthesized : (due : Sort) → Tame body (parenthesized due)
tame_parenthesized due = (tt, λ x. (tt, λ y. tt))

tame_type_or : (named other : Reader Standing) → Tame body named → Tame body other → Tame body (type_or named other)
unfolding type_or
tame_type_or named other N O = λ y. tame_choose (begins s.TypeName y) named (Change event.Resume other) N O

module _ (inner : Parts) (F : Firmly inner) (T : Tamely inner) where
  tame_entered : (least i : ℕ) → Tame body (entered least i)
  tame_entered least i = tame_type_or (tight least (form.Exp exp.Cast) (completed called s.Exp (form.Exp exp.Cast) i nothing (after_paren (pieces (form.Exp exp.Cast))))) (standing 17 (parenthesized s.Exp))
      (tame_tight least (form.Exp exp.Cast) (completed called s.Exp (form.Exp exp.Cast) i nothing (after_paren (pieces (form.Exp exp.Cast)))) (tame_deeper s.Exp (form.Exp exp.Cast) i nothing (after_paren (pieces (form.Exp exp.Cast))) refl)) (tame_parenthesized s.Exp, λ x. tt)

  tame_sized : (least i : ℕ) → Tame body (sized inner least i)
  tame_sized least i = λ x. tame_choose (is_sign punct.LeftParen x) (type_or ofType ofOpened) ofExp
      (tame_type_or ofType ofOpened (tame_tight least (form.Exp exp.SizeofType) typed_one (tame_deeper s.Exp (form.Exp exp.SizeofType) i nothing (after_paren (pieces (form.Exp exp.SizeofType))) refl)) (tame_tight least (form.Exp exp.SizeofExp) (sized_opened i) (tt, λ x j. tt)))
      (tame_tight least (form.Exp exp.SizeofExp) whole_one (tame_deeper s.Exp (form.Exp exp.SizeofExp) i nothing (after_first (pieces (form.Exp exp.SizeofExp))) refl))
    where
      typed_one : Reader Found
      typed_one = completed called s.Exp (form.Exp exp.SizeofType) i nothing (after_paren (pieces (form.Exp exp.SizeofType)))

      whole_one : Reader Found
      whole_one = completed called s.Exp (form.Exp exp.SizeofExp) i nothing (after_first (pieces (form.Exp exp.SizeofExp)))

      ofType : Reader Standing
      ofType = tight least (form.Exp exp.SizeofType) typed_one

      ofOpened : Reader Standing
      ofOpened = tight least (form.Exp exp.SizeofExp) (sized_opened i)

      ofExp : Reader Standing
      ofExp = tight least (form.Exp exp.SizeofExp) whole_one

  tame_begun : (least : ℕ) (o : Option ExpForm) → Tame body (begun_by inner least (map_option form.Exp o))
  tame_begun least (Some f) = tame_tight least (form.Exp f) (whole inner s.Exp (form.Exp f)) (tame_whole inner F T s.Exp (form.Exp f) (exp_regular f))
  tame_begun least None = tt

  tame_primary : (least : ℕ) → Tame body (primary inner least)
  unfolding primary
  tame_primary least = λ i x. tame_choose (is_sign punct.LeftParen x) (entered least i.place)
      (choose (is_class (class.Key key.Sizeof) x) (sized inner least i.place) (choose (begins s.Exp x) (begun_by inner least (begun s.Exp x.shape)) Refuse)) (tame_entered least i.place)
      (tame_choose (is_class (class.Key key.Sizeof) x) (sized inner least i.place) (choose (begins s.Exp x) (begun_by inner least (begun s.Exp x.shape)) Refuse) (tame_sized least i.place)
      (tame_choose (begins s.Exp x) (begun_by inner least (begun s.Exp x.shape)) Refuse (tame_begun least (exp_begun x.shape)) tt))

  tame_expression : (least : ℕ) → Tame body (expression inner least)
  unfolding expression
  tame_expression least = λ i. (tame_primary least, λ y. tame_climb s.Exp least i.place y)

tame_opened : Tame body opened
unfolding opened
tame_opened = λ i. (λ x. tame_choose (begins s.Exp x) (Fits 0 (standing 17 (parenthesized s.Exp))) Refuse (tame_parenthesized s.Exp, λ y. tt) tt, λ y. tame_climb s.Exp 15 (i.place - 1) y)

-- ---- all sorts

declarator_regular : (f : DeclaratorForm) → regular (pieces (form.Declarator f)) ≡ true
declarator_regular declarator.Named = refl
declarator_regular _ = refl

module _ (inner : Parts) (F : Firmly inner) (T : Tamely inner) where
  tame_nameless : (due : Sort) (i : ℕ) → Tame body (nameless_function due i)
  tame_nameless due i = (tame_deeper due (the_declarator declarator.FunctionOf) i (one (deeper (absent_at i))) (after_first (after_first (pieces (the_declarator declarator.FunctionOf)))) refl, λ x. tt)

  tame_opened_declarator : (due : Sort) (i : ℕ) → Tame body (opened_declarator due i)
  tame_opened_declarator due i = tame_choose (is_nameable due) (standing 17 (parenthesized (parenthesized_sort due))) (Look (λ y. choose (begins_parenthesized y) (standing 17 (parenthesized due)) (nameless_function due i)))
      (tame_parenthesized (parenthesized_sort due), λ x. tt)
      (λ y. tame_choose (begins_parenthesized y) (standing 17 (parenthesized due)) (nameless_function due i) (tame_parenthesized due, λ x. tt) (tame_nameless due i))

  tame_head : (due : Sort) (least : ℕ) → Tame body (declarator_head inner due least)
  unfolding declarator_head
  tame_head due least = λ i x. tame_choose (is_sign punct.LeftParen x) (opened_declarator due i.place) (starred i x) (tame_opened_declarator due i.place)
      (tame_choose (is_sign punct.Star x) (tight least (the_declarator declarator.Pointer) (whole inner due (the_declarator declarator.Pointer))) (named i x)
      (tame_tight least (the_declarator declarator.Pointer) (whole inner due (the_declarator declarator.Pointer)) (tame_whole inner F T due (the_declarator declarator.Pointer) refl))
      (tame_choose (is_value x && may_be_named due) (standing 17 (whole inner due (the_declarator declarator.Named))) (absent i)
      (tame_whole inner F T due (the_declarator declarator.Named) refl, λ y. tt)
      (tame_choose (may_be_absent due) (Give (record { found = absent_at i.place; level = 17 })) Refuse tt tt)))
    where
      absent : Spot → Reader Standing
      absent i = choose (may_be_absent due) (Give (record { found = absent_at i.place; level = 17 })) Refuse

      named : Spot → Seen → Reader Standing
      named i x = choose (is_value x && may_be_named due) (standing 17 (whole inner due (the_declarator declarator.Named))) (absent i)

      starred : Spot → Seen → Reader Standing
      starred i x = choose (is_sign punct.Star x) (tight least (the_declarator declarator.Pointer) (whole inner due (the_declarator declarator.Pointer))) (named i x)

  tame_declarator : (due : Sort) (least : ℕ) → Tame body (declarator_of inner due least)
  unfolding declarator_of
  tame_declarator due least = λ i. (tame_head due least, λ y. tame_climb due least i.place y)

  tame_specifier : (due : Sort) → ((x : Seen) → (o : Option SpecForm) × (begun due x.shape ≡ map_option form.Spec o)) → Tame body (specifier inner due)
  unfolding specifier
  tame_specifier due B = λ i x. tame_choose (begins due x) (specifier_by inner due i.state (spec_of due (is_type_word x) x)) Refuse (by_word i.state x (is_type_word x)) tt
    where
      by_form : (z : State) (o : Option SpecForm) → Tame body (specifier_by inner due z (map_option form.Spec o))
      by_form z (Some f) = tame_choose (may_stand z (form.Spec f)) (whole inner due (form.Spec f)) Refuse (tame_whole inner F T due (form.Spec f) (spec_regular f)) tt
      by_form z None = tt

      by_type : (z : State) (x : Shape) → Tame body (specifier_by inner due z (typedef_of x))
      by_type z (shape.Word w) = by_form z (Some (spec.Typedef w))
      by_type z _ = tt

      by_word : (z : State) (x : Seen) (b : Bool) → Tame body (specifier_by inner due z (spec_of due b x))
      by_word z x true = by_type z x.shape
      by_word z x false = subst (λ o. Tame body (specifier_by inner due z o)) (sym (B x).1) (by_form z (B x).0)

  tame_typed : (i : ℕ) → Tame body (typed inner i)
  tame_typed i = (
    tame_gathered (Ended (sign punct.Comma) (sign punct.Ellipsis)) s.Param (inner s.Param 0) Usual refl (F s.Param 0) (T s.Param 0),
    λ g. tame_choose g.1.is_ended (token (class_number (sign punct.Ellipsis)) >> Ask (λ j. Give (node (form.Params params.TypedAndMore) i j.place (one (list_from g.0 g.1)))))
        (Ask (λ j. Give (node (form.Params params.Typed) i j.place (one (list_from g.0 g.1))))) (tt, λ _ j. tt) (λ j. tt),
  )

  tame_parameters : Tame body (parameters inner)
  unfolding parameters
  tame_parameters = λ i x. tame_choose (begins s.Spec x) (typed inner i.place) (choose (is_value x && not (has_name i.state)) Refuse (whole inner s.Params (form.Params params.Ids))) (tame_typed i.place)
      (tame_choose (is_value x && not (has_name i.state)) Refuse (whole inner s.Params (form.Params params.Ids)) tt (tame_whole inner F T s.Params (form.Params params.Ids) refl))

  tame_initializer : Tame body (initializer inner)
  tame_initializer = λ x. tame_choose (is_sign punct.LeftBrace x) (whole inner s.Init (form.Init init.Braces)) (whole inner s.Init (form.Init init.One)) (tame_whole inner F T s.Init (form.Init init.Braces) refl) (tame_whole inner F T s.Init (form.Init init.One) refl)

  tame_after : (own : Sort) (f : Form) (i : ℕ) (x : Found) → regular (after_first (pieces f)) ≡ true → Tame body (after_part inner own f i x)
  tame_after own f i x h = tame_completed (parts_of f inner) (firm_parts f inner F) (tame_parts f inner T) own f i (one x) (after_first (pieces f)) h

  tame_label : (i : ℕ) (x : Found) → Tame body (label i x)
  tame_label i x = tame_completed (parts_of (form.Stmt stmt.Label) called) (firm_parts (form.Stmt stmt.Label) called firm_called) (tame_parts (form.Stmt stmt.Label) called tame_called) s.Stmt (form.Stmt stmt.Label) i (one (deeper x)) (after_first (pieces (form.Stmt stmt.Label))) refl

  tame_word_led : (i : ℕ) (x : Seen) → Tame body (word_led inner i x)
  tame_word_led i x = (tame_climb s.Exp 1 i (record { found = name_leaf i x.shape; level = 17 }), λ y. tame_after s.Stmt (form.Stmt stmt.Express) i y refl)

  tame_worded : (i : ℕ) (x : Seen) → Tame body (worded inner i x)
  unfolding worded
  tame_worded i x = λ y. tame_choose (is_sign punct.Colon y) (label i (id_leaf i x.shape)) (choose (is_value x) (word_led inner i x) Refuse) (tame_label i (id_leaf i x.shape)) (tame_choose (is_value x) (word_led inner i x) Refuse (tame_word_led i x) tt)

  tame_statement : Tame body (statement inner)
  unfolding statement
  tame_statement = λ i x. tame_choose (is_word x) (worded inner i.place x) (statement_by inner (begun s.Stmt x.shape)) (tame_worded i.place x) (by_form (stmt_begun x.shape))
    where
      by_form : (o : Option StmtForm) → Tame body (statement_by inner (map_option form.Stmt o))
      by_form (Some f) = tame_whole inner F T s.Stmt (form.Stmt f) (stmt_regular f)
      by_form None = tame_whole inner F T s.Stmt (form.Stmt stmt.Express) refl

  tame_block : Tame body (block inner)
  tame_block = λ x. tame_choose (is_sign punct.LeftBrace x) (whole inner s.Stmt (form.Stmt stmt.Block)) Refuse (tame_whole inner F T s.Stmt (form.Stmt stmt.Block) refl) tt

  tame_list : (r : Repetition) (due : Sort) (g : Gathered) → is_loop r ≡ true → sound r due ≡ true → Tame body (others r due (inner due 0) g)
  tame_list r due g l h = tame_others r due (inner due 0) g (bounded_group r due (inner due 0) l h (F due 0)) (T due 0)

  tame_type_led : (i : ℕ) (x : Seen) → Tame body (type_led inner i x)
  tame_type_led i x = (tame_list All s.Spec (with_last (none_at i) (typedef_leaf i x.shape) (i + 1)) refl refl, λ g. tame_after s.Decl form.Decl i (list_from i g) refl)

  tame_type_first : (i : ℕ) (x : Seen) → Tame body (type_first inner i x)
  unfolding type_first
  tame_type_first i x = λ y. tame_choose (is_sign punct.Colon y) (late (label i (id_leaf i x.shape))) (type_led inner i x) (tame_label i (id_leaf i x.shape), λ x. tt) (tame_type_led i x)

  tame_block_item : Tame body (block_item inner)
  unfolding block_item
  tame_block_item = λ i x. tame_choose (not i.state.is_late && begins s.Decl x) (declaration_at inner i.place x) (late (statement inner))
      (tame_choose (is_type_word x) (type_first inner i.place x) (whole inner s.Decl form.Decl) (tame_type_first i.place x) (tame_whole inner F T s.Decl form.Decl refl)) (tame_statement, λ x. tt)

  tame_function : (i : ℕ) (specs d : Found) → Tame body (function_from inner i specs d)
  tame_function i specs d = tame_completed inner F T s.Item (form.Item item.Function) i (record { trees = specs.tree ∷ (d.tree ∷ []); height = max specs.height d.height }) (after_first (after_first (pieces (form.Item item.Function)))) refl

  tame_declaration : (i : ℕ) (specs list : Found) → Tame body (declaration_of inner i specs list)
  tame_declaration i specs list = (tame_completed inner F T s.Decl form.Decl i (record { trees = specs.tree ∷ (list.tree ∷ []); height = max specs.height list.height }) (after_first (after_first (pieces form.Decl))) refl, λ x j. tt)

  tame_declaration_from : (i : ℕ) (specs : Found) (j : ℕ) (d : Found) → Tame body (declaration_from inner i specs j d)
  tame_declaration_from i specs j d = (
    tame_after s.InitDeclarator (form.Group group.InitDeclarator) j d refl,
    λ x. (λ k. tame_list (Spliced (Some (sign punct.Comma)) 0) s.InitDeclarator (with_last (none_at j) x k.place) refl refl, λ g. tame_declaration i specs (list_from j g)),
  )

  tame_outer : (due : Bool) (i : ℕ) (specs : Found) → Tame body (outer due inner i specs)
  tame_outer due i specs = λ j. (T s.Declarator 1, λ d k y. tame_choose (due || (is_function k.state && not (goes_on_declaring y))) (function_from inner i specs d) (declaration_from inner i specs j.place d) (tame_function i specs d) (tame_declaration_from i specs j.place d))

  tame_external : Tame body (external inner)
  unfolding external
  tame_external = λ i x. tame_choose (begins s.Spec x) (specified inner i.place) (unspecified inner i.place) (
    (tame_gathered All s.Spec (inner s.Spec 0) Usual refl (F s.Spec 0) (T s.Spec 0), λ g. tt),
    λ specs j y. tame_choose (is_sign punct.Semicolon y) (declaration_of inner i.place specs (list_from j.place (none_at j.place))) (outer false inner i.place specs) (tame_declaration i.place specs (list_from j.place (none_at j.place))) (tame_outer false i.place specs),
  )
      (tame_outer true i.place (list_from i.place (none_at i.place)))

  tame_at : Tamely (at_sort inner)
  tame_at s.Exp least = tame_expression inner F T least
  tame_at s.Declarator least = tame_declarator s.Declarator least
  tame_at s.AbstractDeclarator least = tame_declarator s.AbstractDeclarator least
  tame_at s.ParamDeclarator least = tame_declarator s.ParamDeclarator least
  tame_at s.MemberName least = tame_declarator s.MemberName least
  tame_at s.Id least = λ i. tt
  tame_at s.DeclaredId least = λ i. tt
  tame_at s.ParameterId least = (λ i. tt, λ x. tt)
  tame_at s.EnumeratorId least = λ i. tt
  tame_at s.Literal least = λ i. tt
  tame_at s.Spec least = tame_specifier s.Spec (λ x. (spec_of_shape x.shape, refl))
  tame_at s.PlainSpec least = tame_specifier s.PlainSpec (λ x. (spec_of_shape x.shape, refl))
  tame_at s.Qualifier least = tame_specifier s.Qualifier (λ x. (spec_of_shape x.shape, refl))
  tame_at s.TypeName least = tame_whole inner F T s.TypeName form.TypeName refl
  tame_at s.Member least = tame_whole inner F T s.Member form.Member refl
  tame_at s.Enumerator least = tame_whole inner F T s.Enumerator form.Enumerator refl
  tame_at s.Params least = tame_parameters
  tame_at s.Param least = tame_whole inner F T s.Param form.Param refl
  tame_at s.Init least = tame_initializer
  tame_at s.Decl least = tame_whole inner F T s.Decl form.Decl refl
  tame_at s.Stmt least = tame_statement
  tame_at s.Block least = tame_block
  tame_at s.BlockItem least = tame_block_item
  tame_at s.Item least = tame_external
  tame_at s.InitDeclarator least = tame_whole inner F T s.InitDeclarator (form.Group group.InitDeclarator) refl
  tame_at s.Initializer least = tame_whole inner F T s.Initializer (form.Group group.Initializer) refl
  tame_at s.MemberDeclarator least = tame_whole inner F T s.MemberDeclarator (form.Group group.MemberDeclarator) refl
  tame_at s.Width least = tame_whole inner F T s.Width (form.Group group.Width) refl
  tame_at s.Members least = tame_whole inner F T s.Members (form.Group group.Members) refl
  tame_at s.Enumerators least = tame_whole inner F T s.Enumerators (form.Group group.Enumerators) refl
  tame_at s.EnumeratorValue least = tame_whole inner F T s.EnumeratorValue (form.Group group.EnumeratorValue) refl
  tame_at s.ElsePart least = tame_whole inner F T s.ElsePart (form.Group group.ElsePart) refl
  tame_at _ least = tt

pub tame_in_place : (n : ℕ) → Tamely (in_place n)
unfolding in_place
tame_in_place zero due least = tt
tame_in_place (suc n) due least = tame_at (in_place n) (firm_in_place n) (tame_in_place n) due least

-- the loops of what each rule reads end
pub bodies : (n : Rule) → Tame body (body n)
bodies (Of due least) = tame_in_place places due least
bodies Opened = tame_opened

pub tame_item : Tame body item_reader
tame_item = tame_in_place places s.Item 0
