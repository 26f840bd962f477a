-- What each reader of the grammar keeps: the declarations around, and that no function's declarator is due.
use Rattle.std.proofs.Common.{◌≡◌, refl, subst, ap, sym, ◌∙◌, ℕ, zero, suc, ◌+◌, ◌-◌, not, Bool, true, false, ◌&&◌, nat_eq, nat_lt, List, [], ◌∷◌, Option, Some, None}
use Rattle.c_tokens.specs.declared.token.Shape.{Shape}
use Rattle.c_tokens.specs.declared.token.Shape.TheVariants as shape
use Rattle.c_tokens.specs.declared.token.Punct.{Punct}
use Rattle.c_tokens.specs.declared.token.Punct.TheVariants as punct
use Rattle.c_tokens.specs.declared.token.Key.TheVariants as key
use Rattle.c_tokens.specs.declared.class.Class.{Class}
use Rattle.c_tokens.specs.declared.class.Class.TheVariants as class
use Rattle.c_tokens.specs.ClassNumbers.{class_number}
use Rattle.c_forms.specs.declared.pieces.Event.{Event}
use Rattle.c_forms.specs.declared.pieces.Event.TheVariants as event
use Rattle.c_forms.specs.declared.pieces.Sort.{Sort}
use Rattle.c_forms.specs.declared.pieces.Sort.TheVariants as s
use Rattle.c_forms.specs.declared.pieces.Repetition.{Repetition}
use Rattle.c_forms.specs.declared.pieces.Repetition.TheVariants.{Optional, Greedy, Due, All, Any, Many, Spliced, Ended}
use Rattle.c_forms.specs.declared.pieces.Piece.{Piece}
use Rattle.c_forms.specs.declared.pieces.Piece.TheVariants.{Token, Maybe, Own, TypeTokens, KindName, One, Group, Rest, Anything, Then}
use Rattle.c_forms.specs.declared.forms.Form.{Form}
use Rattle.c_forms.specs.declared.forms.Form.TheVariants as form
use Rattle.c_forms.specs.declared.forms.ExpForm.{ExpForm}
use Rattle.c_forms.specs.declared.forms.ExpForm.TheVariants as exp
use Rattle.c_forms.specs.declared.forms.SpecForm.{SpecForm}
use Rattle.c_forms.specs.declared.forms.SpecForm.TheVariants as spec
use Rattle.c_forms.specs.declared.forms.StmtForm.{StmtForm}
use Rattle.c_forms.specs.declared.forms.StmtForm.TheVariants as stmt
use Rattle.c_forms.specs.declared.forms.DeclaratorForm.TheVariants as declarator
use Rattle.c_forms.specs.declared.forms.ParamsForm.TheVariants as params
use Rattle.c_forms.specs.declared.forms.InitForm.TheVariants as init
use Rattle.c_forms.specs.declared.forms.GroupForm.TheVariants as group
use Rattle.c_forms.specs.declared.operators.StorageClass.TheVariants as storage
use Rattle.c_forms.specs.declared.operators.BinaryOperator.TheVariants as operator
use Rattle.c_forms.specs.Measures.{level, pieces}
use Rattle.c_forms.specs.Tokens.{map_option, begun, continued, exp_begun, spec_of_shape, stmt_begun}
use Rattle.c_forms.specs.Sets.{has, starts, element_starts, held_class}
use Rattle.c_reader.specs.States.{State, Seen, Kept, seen, happens, noted, top, under}
use Rattle.c_reader.specs.Tokens.{Spot, spot}
use Rattle.c_reader.specs.Readers.{Outcome, Input, Reader, Turn, More, Last, Rule, Of, Opened, Found, Give, Refuse, Look, Next, Pick, Note, Bind, Fits, Call, Loop, Ask, Change, below, ◌>>=◌, ◌>>◌, only, choose, token, turn_while, repeat}
use Rattle.c_reader.proofs.Leaves.{Leaves, Leaving, Turned, leaving_give, leaving_refuse, leaving_look, leaving_next, leaving_pick, leaving_note, leaving_bind, leaving_fits, leaving_ask, leaving_change, leaving_loop, leaving_more, leaving_choose, leaves_call}
use Rattle.c_reader.proofs.Sets.{both, not_true}
use Rattle.c_syntax.specs.Allowed.{may_happen, may_stand, has_name, places}
use Rattle.c_syntax.specs.Reading.{with_first, Before, Usual, has_none, before_by, is_absent, ended, list_from, none_at, with_last, one, deeper, joined, node, Listed, Gathered, Parts, called, parts_by, parts_of, is_starred, is_class, separated, separator_of, goes, element_after, others, ended_turn, others_ended, many, at_most_one, any_number, is_missing, gathered_by, gathered, pieces_in, completed, inside, nothing}
use Rattle.c_syntax.specs.Grammar.{leaf_if, literal_of, declared_identifier, body, sign, whole, charged, is_sign, is_word, is_type_word, begins, Standing, standing, tight, entered, type_or, sized, begun_by, primary, expression, opened, parenthesized, after_paren, after_first, after_part, sized_opened, continued_by, is_tail, tail_by, turn, climb, the_declarator, may_be_absent, may_be_named, is_value, absent_at, parenthesized_sort, begins_parenthesized, nameless_function, is_nameable, opened_declarator, declarator_head, declarator_of, typed, parameters, label, id_leaf, name_leaf, word_led, type_led, typedef_leaf, typedef_of, spec_of, specifier_by, specifier, worded, statement_by, statement, late, declaration_at, type_first, block_item, at_sort, in_place}

-- among the same declarations around, and no function's declarator is due
abbrev pub Still : List Kept → State → Type 0
Still a z = (z.aside ≡ a) × (z.kept.is_function_due ≡ false)

abbrev pub is_item : Sort → Bool
is_item s.Item = true
is_item _ = false

abbrev pub is_declarator : Sort → Bool
is_declarator s.Declarator = true
is_declarator s.AbstractDeclarator = true
is_declarator s.ParamDeclarator = true
is_declarator s.MemberName = true
is_declarator due = false

-- the rules that are called
abbrev pub is_called : Rule → Bool
is_called (Of due least) = not (is_item due)
is_called Opened = true

-- with one declaration put aside, or none
abbrev pub Within : Bool → List Kept → State → Type 0
Within false a z = Still a z
Within true a z = (k : Kept) × ((k.is_function_due ≡ false) × Still (k ∷ a) z)

-- whether an event may happen with one put aside or none
abbrev pub allowed : Event → Bool → Bool
allowed event.Aside b = not b
allowed event.Resume b = b
allowed event.Close b = b
allowed event.FunctionDue b = false
allowed _ b = true

abbrev pub pending : Event → Bool → Bool
pending event.Aside b = true
pending event.Resume b = false
pending event.Close b = false
pending _ b = b

same_within : (b : Bool) (a : List Kept) (z t : State) → z.aside ≡ t.aside → z.kept.is_function_due ≡ t.kept.is_function_due → Within b a t → Within b a z
same_within false a z t e f W = (e ∙ W.0, f ∙ W.1)
same_within true a z t e f W = (W.0, (W.1.0, (e ∙ W.1.1.0, f ∙ W.1.1.1)))

new_within : (b : Bool) (a : List Kept) (z t : State) → z.aside ≡ t.aside → z.kept.is_function_due ≡ false → Within b a t → Within b a z
new_within false a z t e f W = (e ∙ W.0, f)
new_within true a z t e f W = (W.0, (W.1.0, (e ∙ W.1.1.0, f)))

pub event_within : (e : Event) (b : Bool) (a : List Kept) (z : State) → allowed e b ≡ true → Within b a z → Within (pending e b) a (happens e z)
event_within event.Aside true a z h W = absurd (cc h)
event_within event.Aside false a z h W = (z.kept, (W.1, (ap (λ l. z.kept ∷ l) W.0, refl)))
event_within event.Resume false a z h W = absurd (cc h)
event_within event.Resume true a z h W = (ap under W.1.1.0, ap (λ l. (top l).is_function_due) W.1.1.0 ∙ W.1.0)
event_within event.Close false a z h W = absurd (cc h)
event_within event.Close true a z h W = (ap under W.1.1.0, ap (λ l. (top l).is_function_due) W.1.1.0 ∙ W.1.0)
event_within event.FunctionDue b a z h W = absurd (cc h)
event_within event.Begin b a z h W = new_within b a (happens event.Begin z) z refl refl W
event_within event.Open b a z h W = new_within b a (happens event.Open z) z refl refl W
event_within event.Shut b a z h W = new_within b a (happens event.Shut z) z refl refl W
event_within event.Enter b a z h W = same_within b a (happens event.Enter z) z refl refl W
event_within event.Leave b a z h W = same_within b a (happens event.Leave z) z refl refl W
event_within event.Typedef b a z h W = same_within b a (happens event.Typedef z) z refl refl W
event_within event.Typed b a z h W = same_within b a (happens event.Typed z) z refl refl W
event_within event.SoleType b a z h W = same_within b a (happens event.SoleType z) z refl refl W
event_within event.Declare b a z h W = same_within b a (happens event.Declare z) z refl refl W
event_within event.DeclareValue b a z h W = same_within b a (happens event.DeclareValue z) z refl refl W
event_within event.Statements b a z h W = same_within b a (happens event.Statements z) z refl refl W
event_within event.Seal b a z h W = same_within b a (happens event.Seal z) z refl refl W

-- whether the pieces of a form that is read as a sort take up what they put aside
abbrev pub calm : Sort → Bool → List Piece → Bool
calm own b [] = not b
calm own b (Then e ∷ ps) = allowed e b && calm own (pending e b) ps
calm own b (One due least ∷ ps) = not (is_item (inside own due)) && calm own b ps
calm own b (Group (Ended separator end_token) due least ∷ (p ∷ ps)) = not (is_item due) && (calm own b ps && calm own b (p ∷ ps))
calm own b (Group r due least ∷ ps) = not (is_item due) && calm own b ps
calm own b (p ∷ ps) = calm own b ps

module _ (B : Rule → Input → Outcome Found) (d : ℕ) where
  -- what each part keeps, all do
  module _ (S : List Kept → State → Type 0) where
    abbrev pub StaysBy : {A : Type 0} → Reader A → Type 0
    StaysBy r = (a : List Kept) (z : State) (y : Shape) → S a z → Leaving B d z y r (λ _ t. S a t)

    pub stays_give : {A : Type 0} (x : A) → StaysBy (Give x)
    stays_give x a z y h = leaving_give B d z y x (λ _ t. S a t) h

    pub stays_refuse : {A : Type 0} → StaysBy (Refuse {A = A})
    stays_refuse {A = A} a z y h = leaving_refuse B d z y (λ _ t. S a t)

    pub stays_look : {A : Type 0} (f : Seen → Reader A) → ((x : Seen) → StaysBy (f x)) → StaysBy (Look f)
    stays_look f F a z y h = leaving_look B d z y f (λ _ t. S a t) (F (seen z y) a z y h)

    pub stays_next : {A : Type 0} (r : Reader A) → StaysBy r → StaysBy (Next r)
    stays_next r R a z y h = leaving_next B d z y r (λ _ t. S a t) (λ x. R a z x h)

    pub stays_pick : {A : Type 0} (f : Seen → Option A) → StaysBy (Pick f)
    stays_pick f a z y h = leaving_pick B d z y f (λ _ t. S a t) (λ x e. h)

    pub stays_note : {A : Type 0} (f : Seen → Option A) → ((a : List Kept) (z : State) (y : Shape) → S a z → S a (noted y z)) → StaysBy (Note f)
    stays_note f N a z y h = leaving_note B d z y f (λ _ t. S a t) (λ x e. N a z y h)

    pub stays_bind : {A C : Type 0} (r : Reader C) (f : C → Reader A) → StaysBy r → ((c : C) → StaysBy (f c)) → StaysBy (Bind r f)
    stays_bind r f R F a z y h = leaving_bind B d z y r f (λ _ t. S a t) (λ _ t. S a t) (R a z y h) (λ c t x k. F c a t x k)

    pub stays_map : {A C : Type 0} (r : Reader C) (f : C → A) → StaysBy r → StaysBy (Bind r (λ c. Give (f c)))
    stays_map r f R = stays_bind r (λ c. Give (f c)) R (λ c. stays_give (f c))

    pub stays_fits : {A : Type 0} (n : ℕ) (r : Reader A) → StaysBy r → StaysBy (Fits n r)
    stays_fits n r R a z y h = leaving_fits B d z y n r (λ _ t. S a t) (R a z y h)

    pub stays_ask : {A : Type 0} (f : Spot → Reader A) → ((i : Spot) → StaysBy (f i)) → StaysBy (Ask f)
    stays_ask f F a z y h = leaving_ask B d z y f (λ _ t. S a t) (λ place. F (spot place z) a z y h)

    pub stays_change : {A : Type 0} (e : Event) (r : Reader A) → ((a : List Kept) (z : State) → S a z → S a (happens e z)) → StaysBy r → StaysBy (Change e r)
    stays_change e r E R a z y h = leaving_change B d z y e r (λ _ t. S a t) (R a (happens e z) y (E a z h))

    pub stays_choose : {A : Type 0} (b : Bool) (r q : Reader A) → StaysBy r → StaysBy q → StaysBy (choose b r q)
    stays_choose true r q R Q = R
    stays_choose false r q R Q = Q

    pub stays_loop : {A T : Type 0} (f : T → Reader (Turn T A)) (t : T) → ((t : T) → StaysBy (f t)) → StaysBy (Loop f t)
    stays_loop {A = A} {T = T} f t F a z y h = leaving_loop B d z y f t (λ _ t. S a t) (λ _ t. S a t) h (λ t u x k. leaving_more B d u x (f t) (λ _ v. S a v) (Turned (λ _ v. S a v) (λ _ v. S a v)) (turned_so a) (F t a u x k))
      where
        turned_so : (a : List Kept) (r : Turn T A) (v : State) → S a v → Turned {A = A} {S = T} (λ _ v. S a v) (λ _ v. S a v) r v
        turned_so a (More t) v k = k
        turned_so a (Last x) v k = k

    pub stays_repeat : {T : Type 0} (goes : T → Seen → Bool) (item : Seen → T → Reader T) (t : T) → ((x : Seen) (t : T) → StaysBy (item x t)) → StaysBy (repeat goes item t)
    stays_repeat goes item t F = stays_loop (turn_while goes item) t (λ t. stays_look (λ x. choose (goes t x) (Bind (item x t) (λ u. Give (More u))) (Give (Last t)))
        (λ x. stays_choose (goes t x) (Bind (item x t) (λ u. Give (More u))) (Give (Last t)) (stays_map (item x t) More (F x t)) (stays_give (Last t))))

    -- ---- groups

    pub stays_element : (element : Reader Found) (g : Gathered) → StaysBy element → StaysBy (element_after element g)
    unfolding element_after
    stays_element element g E = stays_bind element (λ x. Ask (λ j. Give (with_last g x j.place))) E (λ x. stays_ask (λ j. Give (with_last g x j.place)) (λ j. stays_give (with_last g x j.place)))

    stays_separated : (o : Option Class) (r : Reader Gathered) → StaysBy r → StaysBy (separated o r)
    stays_separated None r R = R
    stays_separated (Some c) r R = stays_next r R

    pub stays_others : (r : Repetition) (due : Sort) (element : Reader Found) (g : Gathered) → StaysBy element → StaysBy (others r due element g)
    unfolding others
    stays_others r due element g E = stays_repeat (goes r due) (λ _ g. separated (separator_of r) (element_after element g)) g (λ x g. stays_separated (separator_of r) (element_after element g) (stays_element element g E))

    stays_ended : (separator end_token : Class) (element : Reader Found) (g : Gathered) → StaysBy element → StaysBy (others_ended separator end_token element g)
    unfolding others_ended
    stays_ended separator end_token element g E = stays_loop (ended_turn separator end_token element) g (λ g. stays_look (by_separator g) (λ x. stays_choose (is_class separator x) (Next (Look (by_end g))) (Give (Last g))
        (stays_next (Look (by_end g)) (stays_look (by_end g) (λ y. stays_choose (is_class end_token y) (Give (Last (ended g))) (Bind (element_after element g) (λ h. Give (More h))) (stays_give (Last (ended g))) (stays_map (element_after element g) More (stays_element element g E)))))
        (stays_give (Last g))))
      where
        by_end : Gathered → Seen → Reader (Turn Gathered Gathered)
        by_end g y = choose (is_class end_token y) (Give (Last (ended g))) (Bind (element_after element g) (λ h. Give (More h)))

        by_separator : Gathered → Seen → Reader (Turn Gathered Gathered)
        by_separator g x = choose (is_class separator x) (Next (Look (by_end g))) (Give (Last g))

    stays_many : (r : Repetition) (due : Sort) (element : Reader Found) (i : ℕ) → StaysBy element → StaysBy (many r due element i)
    unfolding many
    stays_many (Ended separator end_token) due element i E = stays_bind (element_after element (none_at i)) (λ g. others_ended separator end_token element g) (stays_element element (none_at i) E) (λ g. stays_ended separator end_token element g E)
    stays_many Optional due element i E = stays_bind (element_after element (none_at i)) (λ g. others Optional due element g) (stays_element element (none_at i) E) (λ g. stays_others Optional due element g E)
    stays_many Greedy due element i E = stays_bind (element_after element (none_at i)) (λ g. others Greedy due element g) (stays_element element (none_at i) E) (λ g. stays_others Greedy due element g E)
    stays_many Due due element i E = stays_bind (element_after element (none_at i)) (λ g. others Due due element g) (stays_element element (none_at i) E) (λ g. stays_others Due due element g E)
    stays_many All due element i E = stays_bind (element_after element (none_at i)) (λ g. others All due element g) (stays_element element (none_at i) E) (λ g. stays_others All due element g E)
    stays_many Any due element i E = stays_bind (element_after element (none_at i)) (λ g. others Any due element g) (stays_element element (none_at i) E) (λ g. stays_others Any due element g E)
    stays_many (Many separator n) due element i E = stays_bind (element_after element (none_at i)) (λ g. others (Many separator n) due element g) (stays_element element (none_at i) E) (λ g. stays_others (Many separator n) due element g E)
    stays_many (Spliced separator n) due element i E = stays_bind (element_after element (none_at i)) (λ g. others (Spliced separator n) due element g) (stays_element element (none_at i) E) (λ g. stays_others (Spliced separator n) due element g E)

    pub stays_gathered : (r : Repetition) (due : Sort) (element : Reader Found) (before : Before) → StaysBy element → StaysBy (gathered r due element before)
    unfolding gathered
    stays_gathered r due element before E = stays_ask (λ i. Bind (gathered_by r due element before i.place) (λ g. Give (i.place, g))) (λ i. stays_map (gathered_by r due element before i.place) (λ g. (i.place, g)) (by_kind r i.place))
      where
        at_most : (i : ℕ) → StaysBy (at_most_one element (starts due) i)
        at_most i = stays_look (λ x. choose (has (starts due) x.class) (element_after element (none_at i)) (Give (none_at i))) (λ x. stays_choose (has (starts due) x.class) (element_after element (none_at i)) (Give (none_at i)) (stays_element element (none_at i) E) (stays_give (none_at i)))

        any : (b : Bool) (r : Repetition) (i : ℕ) → StaysBy (any_number b r due element i)
        any true r i = stays_many r due element i E
        any false r i = stays_look (λ x. choose (has (element_starts r due) x.class) (many r due element i) (Give (none_at i))) (λ x. stays_choose (has (element_starts r due) x.class) (many r due element i) (Give (none_at i)) (stays_many r due element i E) (stays_give (none_at i)))

        by_kind : (r : Repetition) (i : ℕ) → StaysBy (gathered_by r due element before i)
        by_kind Optional i = at_most i
        by_kind Greedy i = at_most i
        by_kind Due i = stays_choose (is_missing before) (element_after element (none_at i)) (at_most_one element (starts due) i) (stays_element element (none_at i) E) (at_most i)
        by_kind All i = stays_many All due element i E
        by_kind Any i = any false Any i
        by_kind (Many separator n) i = any (nat_eq n 1) (Many separator n) i
        by_kind (Spliced separator n) i = any (nat_eq n 1) (Spliced separator n) i
        by_kind (Ended separator end_token) i = stays_many (Ended separator end_token) due element i E

  -- the declarations around are the same, and no function's declarator is due
  abbrev pub Stays : {A : Type 0} → Reader A → Type 0
  Stays r = StaysBy Still r

  abbrev pub Staying : Parts → Type 0
  Staying part = (due : Sort) (least : ℕ) → is_item due ≡ false → Stays (part due least)

  -- with one declaration put aside, or none
  stays_within : {A : Type 0} (b : Bool) (r : Reader A) → Stays r → (a : List Kept) (z : State) (y : Shape) → Within b a z → Leaving B d z y r (λ _ t. Within b a t)
  stays_within false r R a z y h = R a z y h
  stays_within true r R a z y h = leaving_more B d z y r (λ _ t. Still (h.0 ∷ a) t) (λ _ t. Within true a t) (λ _ t k. (h.0, (h.1.0, k))) (R (h.0 ∷ a) z y h.1.1)

  -- ---- pieces

  module _ (part : Parts) (P : Staying part) (own : Sort) (f : Form) where
    pub Left : Bool → {A : Type 0} → Reader A → Type 0
    Left b r = (a : List Kept) (z : State) (y : Shape) → Within b a z → Leaving B d z y r (λ _ t. Within false a t)

    within_bind : {A C : Type 0} (b : Bool) (r : Reader C) (g : C → Reader A) → Stays r → ((c : C) → Left b (g c)) → Left b (Bind r g)
    unfolding Left
    within_bind b r g R G a z y h = leaving_bind B d z y r g (λ _ t. Within b a t) (λ _ t. Within false a t) (stays_within b r R a z y h) (λ c t x k. G c a t x k)

    within_map : {A C : Type 0} (b : Bool) (r : Reader C) (g : C → A) → Left b r → Left b (Bind r (λ c. Give (g c)))
    unfolding Left
    within_map b r g R a z y h = leaving_bind B d z y r (λ c. Give (g c)) (λ _ t. Within false a t) (λ _ t. Within false a t) (R a z y h) (λ c t x k. leaving_give B d t x (g c) (λ _ t. Within false a t) k)

    within_choose : {A : Type 0} (b c : Bool) (r q : Reader A) → Left b r → Left b q → Left b (choose c r q)
    within_choose b true r q R Q = R
    within_choose b false r q R Q = Q

    pub stays_pieces : (b : Bool) (before : Before) (ps : List Piece) → calm own b ps ≡ true → Left b (pieces_in part own f before ps)
    unfolding pieces_in Left
    stays_pieces true before [] h = absurd (cc h)
    stays_pieces false before [] h = λ a z y k. leaving_give B d z y nothing (λ _ t. Still a t) k
    stays_pieces b before (Token c ∷ ps) h = within_bind b (token (class_number c)) (λ _. pieces_in part own f Usual ps) ((stays_pick Still) (λ x. only (nat_eq x.class (class_number c)))) (λ _. stays_pieces b Usual ps h)
    stays_pieces b before (Maybe c ∷ ps) h = λ a z y k. leaving_look B d z y (λ x. choose (is_class c x) (Next (pieces_in part own f Usual ps)) (pieces_in part own f Usual ps)) (λ _ t. Within false a t)
        (leaving_choose B d z y (is_class c (seen z y)) (Next (pieces_in part own f Usual ps)) (pieces_in part own f Usual ps) (λ _ t. Within false a t)
        (λ e. leaving_next B d z y (pieces_in part own f Usual ps) (λ _ t. Within false a t) (λ x. stays_pieces b Usual ps h a z x k)) (λ e. stays_pieces b Usual ps h a z y k))
    stays_pieces b before (Own ∷ ps) h = within_bind b (Pick (λ x. only (has (held_class f) x.class))) (λ _. pieces_in part own f Usual ps) ((stays_pick Still) (λ x. only (has (held_class f) x.class))) (λ _. stays_pieces b Usual ps h)
    stays_pieces b before (One due least ∷ ps) h = let k = both (not (is_item (inside own due))) (calm own b ps) h in
        within_bind b (part (inside own due) least) (λ x. Bind (pieces_in part own f (before_by (is_absent x.tree)) ps) (λ g. Give (with_first x g))) (P (inside own due) least (not_true (is_item (inside own due)) k.0))
        (λ x. within_map b (pieces_in part own f (before_by (is_absent x.tree)) ps) (λ g. with_first x g) (stays_pieces b (before_by (is_absent x.tree)) ps k.1))
    stays_pieces b before (Group (Ended separator end_token) due least ∷ (p ∷ ps)) h = let k = both (not (is_item due)) (calm own b ps && calm own b (p ∷ ps)) h in let m = both (calm own b ps) (calm own b (p ∷ ps)) k.1 in
        within_bind b (gathered (Ended separator end_token) due (part due least) before) (λ g. Bind (choose g.1.is_ended (pieces_in part own f Usual ps) (pieces_in part own f Usual (p ∷ ps))) (λ h. Give (with_first (list_from g.0 g.1) h)))
        ((stays_gathered Still) (Ended separator end_token) due (part due least) before (P due least (not_true (is_item due) k.0)))
        (λ g. within_map b (choose g.1.is_ended (pieces_in part own f Usual ps) (pieces_in part own f Usual (p ∷ ps))) (λ h. with_first (list_from g.0 g.1) h) (within_choose b g.1.is_ended (pieces_in part own f Usual ps) (pieces_in part own f Usual (p ∷ ps)) (stays_pieces b Usual ps m.0) (stays_pieces b Usual (p ∷ ps) m.1)))
    stays_pieces b before (Group (Ended separator end_token) due least ∷ []) h = let k = both (not (is_item due)) (calm own b []) h in
        within_bind b (gathered (Ended separator end_token) due (part due least) before) (λ g. Bind (pieces_in part own f (before_by (has_none g.1.trees)) []) (λ h. Give (with_first (list_from g.0 g.1) h))) ((stays_gathered Still) (Ended separator end_token) due (part due least) before (P due least (not_true (is_item due) k.0)))
        (λ g. within_map b (pieces_in part own f (before_by (has_none g.1.trees)) []) (λ h. with_first (list_from g.0 g.1) h) (stays_pieces b (before_by (has_none g.1.trees)) [] k.1))
    stays_pieces b before (Group Optional due least ∷ ps) h = let k = both (not (is_item due)) (calm own b ps) h in
        within_bind b (gathered Optional due (part due least) before) (λ g. Bind (pieces_in part own f (before_by (has_none g.1.trees)) ps) (λ h. Give (with_first (list_from g.0 g.1) h))) ((stays_gathered Still) Optional due (part due least) before (P due least (not_true (is_item due) k.0)))
        (λ g. within_map b (pieces_in part own f (before_by (has_none g.1.trees)) ps) (λ h. with_first (list_from g.0 g.1) h) (stays_pieces b (before_by (has_none g.1.trees)) ps k.1))
    stays_pieces b before (Group Greedy due least ∷ ps) h = let k = both (not (is_item due)) (calm own b ps) h in
        within_bind b (gathered Greedy due (part due least) before) (λ g. Bind (pieces_in part own f (before_by (has_none g.1.trees)) ps) (λ h. Give (with_first (list_from g.0 g.1) h))) ((stays_gathered Still) Greedy due (part due least) before (P due least (not_true (is_item due) k.0)))
        (λ g. within_map b (pieces_in part own f (before_by (has_none g.1.trees)) ps) (λ h. with_first (list_from g.0 g.1) h) (stays_pieces b (before_by (has_none g.1.trees)) ps k.1))
    stays_pieces b before (Group Due due least ∷ ps) h = let k = both (not (is_item due)) (calm own b ps) h in
        within_bind b (gathered Due due (part due least) before) (λ g. Bind (pieces_in part own f (before_by (has_none g.1.trees)) ps) (λ h. Give (with_first (list_from g.0 g.1) h))) ((stays_gathered Still) Due due (part due least) before (P due least (not_true (is_item due) k.0)))
        (λ g. within_map b (pieces_in part own f (before_by (has_none g.1.trees)) ps) (λ h. with_first (list_from g.0 g.1) h) (stays_pieces b (before_by (has_none g.1.trees)) ps k.1))
    stays_pieces b before (Group All due least ∷ ps) h = let k = both (not (is_item due)) (calm own b ps) h in
        within_bind b (gathered All due (part due least) before) (λ g. Bind (pieces_in part own f (before_by (has_none g.1.trees)) ps) (λ h. Give (with_first (list_from g.0 g.1) h))) ((stays_gathered Still) All due (part due least) before (P due least (not_true (is_item due) k.0)))
        (λ g. within_map b (pieces_in part own f (before_by (has_none g.1.trees)) ps) (λ h. with_first (list_from g.0 g.1) h) (stays_pieces b (before_by (has_none g.1.trees)) ps k.1))
    stays_pieces b before (Group Any due least ∷ ps) h = let k = both (not (is_item due)) (calm own b ps) h in
        within_bind b (gathered Any due (part due least) before) (λ g. Bind (pieces_in part own f (before_by (has_none g.1.trees)) ps) (λ h. Give (with_first (list_from g.0 g.1) h))) ((stays_gathered Still) Any due (part due least) before (P due least (not_true (is_item due) k.0)))
        (λ g. within_map b (pieces_in part own f (before_by (has_none g.1.trees)) ps) (λ h. with_first (list_from g.0 g.1) h) (stays_pieces b (before_by (has_none g.1.trees)) ps k.1))
    stays_pieces b before (Group (Many separator n) due least ∷ ps) h = let k = both (not (is_item due)) (calm own b ps) h in
        within_bind b (gathered (Many separator n) due (part due least) before) (λ g. Bind (pieces_in part own f (before_by (has_none g.1.trees)) ps) (λ h. Give (with_first (list_from g.0 g.1) h))) ((stays_gathered Still) (Many separator n) due (part due least) before (P due least (not_true (is_item due) k.0)))
        (λ g. within_map b (pieces_in part own f (before_by (has_none g.1.trees)) ps) (λ h. with_first (list_from g.0 g.1) h) (stays_pieces b (before_by (has_none g.1.trees)) ps k.1))
    stays_pieces b before (Group (Spliced separator n) due least ∷ ps) h = let k = both (not (is_item due)) (calm own b ps) h in
        within_bind b (gathered (Spliced separator n) due (part due least) before) (λ g. Bind (pieces_in part own f (before_by (has_none g.1.trees)) ps) (λ h. Give (with_first (list_from g.0 g.1) h))) ((stays_gathered Still) (Spliced separator n) due (part due least) before (P due least (not_true (is_item due) k.0)))
        (λ g. within_map b (pieces_in part own f (before_by (has_none g.1.trees)) ps) (λ h. with_first (list_from g.0 g.1) h) (stays_pieces b (before_by (has_none g.1.trees)) ps k.1))
    stays_pieces b before (Then e ∷ ps) h = let k = both (allowed e b) (calm own (pending e b) ps) h in λ a z y w.
        leaving_ask B d z y (λ i. choose (may_happen e i.state) (Change e (pieces_in part own f before ps)) Refuse) (λ _ t. Within false a t)
        (λ place. leaving_choose B d z y (may_happen e z) (Change e (pieces_in part own f before ps)) Refuse (λ _ t. Within false a t)
        (λ _. leaving_change B d z y e (pieces_in part own f before ps) (λ _ t. Within false a t) (stays_pieces (pending e b) before ps k.1 a (happens e z) y (event_within e b a z k.0 w)))
        (λ _. leaving_refuse B d z y (λ _ t. Within false a t)))
    stays_pieces b before (TypeTokens ∷ ps) h = λ a z y k. leaving_refuse B d z y (λ _ t. Within false a t)
    stays_pieces b before (KindName ∷ ps) h = λ a z y k. leaving_refuse B d z y (λ _ t. Within false a t)
    stays_pieces b before (Rest due ∷ ps) h = λ a z y k. leaving_refuse B d z y (λ _ t. Within false a t)
    stays_pieces b before (Anything ∷ ps) h = λ a z y k. leaving_refuse B d z y (λ _ t. Within false a t)

    pub stays_completed : (i : ℕ) (done : Listed) (b : Bool) (ps : List Piece) → calm own b ps ≡ true → Left b (completed part own f i done ps)
    unfolding completed Left
    stays_completed i done b ps h a z y w = leaving_bind B d z y (pieces_in part own f Usual ps) (λ g. Ask (λ j. Give (node f i j.place (joined done g)))) (λ _ t. Within false a t) (λ _ t. Within false a t) (stays_pieces b Usual ps h a z y w)
        (λ g t x k. (stays_ask Still) (λ j. Give (node f i j.place (joined done g))) (λ j. (stays_give Still) (node f i j.place (joined done g))) a t x k)

  stays_charged : {A : Type 0} (b : Bool) (r : Reader A) → Stays r → Stays (charged b r)
  stays_charged true r R = (stays_fits Still) 0 r R
  stays_charged false r R = R

  stays_tight : (least : ℕ) (f : Form) (r : Reader Found) → Stays r → Stays (tight least f r)
  stays_tight least f r R = (stays_choose Still) (nat_lt (level f) least) Refuse (standing (level f) r) (stays_refuse Still) ((stays_map Still) r (λ x. record { found = x; level = level f }) R)

  -- where calls keep to it
  module _ (C : (n : Rule) → is_called n ≡ true → Stays (Call n)) where
    stays_called : Staying called
    stays_called due least h = (stays_map Still) (Call (Of due least)) deeper (C (Of due least) (ap not h))

    stays_parts : (b : Bool) (inner : Parts) → Staying inner → Staying (parts_by b inner)
    stays_parts true inner I = stays_called
    stays_parts false inner I = I

    stays_whole : (inner : Parts) → Staying inner → (own : Sort) (f : Form) → calm own false (pieces f) ≡ true → Stays (whole inner own f)
    unfolding whole Left
    stays_whole inner I own f h = (stays_ask Still) (λ i. charged (is_starred f) (completed (parts_of f inner) own f i.place nothing (pieces f)))
        (λ i. stays_charged (is_starred f) (completed (parts_of f inner) own f i.place nothing (pieces f)) (stays_completed (parts_of f inner) (stays_parts (is_starred f) inner I) own f i.place nothing false (pieces f) h))

    stays_after : (inner : Parts) → Staying inner → (own : Sort) (f : Form) (i : ℕ) (done : Listed) (ps : List Piece) → calm own false ps ≡ true → Stays (completed (parts_of f inner) own f i done ps)
    unfolding Left
    stays_after inner I own f i done ps h = stays_completed (parts_of f inner) (stays_parts (is_starred f) inner I) own f i done false ps h

    -- ---- what goes on

    calm_tail : Sort → Option Form → Bool
    calm_tail due (Some f) = calm due false (after_first (pieces f))
    calm_tail due None = true

    exp_calm_tail : (p : Punct) → calm_tail s.Exp (continued s.Exp p) ≡ true
    unfolding calm_tail
    exp_calm_tail punct.LeftBracket = refl
    exp_calm_tail _ = refl

    meta_calm_tail : (p : Punct) → calm_tail s.MetaExp (continued s.MetaExp p) ≡ true
    unfolding calm_tail
    meta_calm_tail punct.LeftBracket = refl
    meta_calm_tail _ = refl

    named_calm_tail : (p : Punct) → calm_tail s.Declarator (continued s.Declarator p) ≡ true
    unfolding calm_tail
    named_calm_tail punct.LeftBracket = refl
    named_calm_tail _ = refl

    abstract_calm_tail : (p : Punct) → calm_tail s.AbstractDeclarator (continued s.AbstractDeclarator p) ≡ true
    unfolding calm_tail
    abstract_calm_tail punct.LeftBracket = refl
    abstract_calm_tail _ = refl

    parameter_calm_tail : (p : Punct) → calm_tail s.ParamDeclarator (continued s.ParamDeclarator p) ≡ true
    unfolding calm_tail
    parameter_calm_tail punct.LeftBracket = refl
    parameter_calm_tail _ = refl

    member_calm_tail : (p : Punct) → calm_tail s.MemberName (continued s.MemberName p) ≡ true
    unfolding calm_tail
    member_calm_tail punct.LeftBracket = refl
    member_calm_tail _ = refl

    inner_calm_tail : (p : Punct) → calm_tail s.InnerDeclarator (continued s.InnerDeclarator p) ≡ true
    unfolding calm_tail
    inner_calm_tail punct.LeftBracket = refl
    inner_calm_tail _ = refl

    shape_calm_tail : (due : Sort) (x : Shape) → calm_tail due (continued_by due x) ≡ true
    shape_calm_tail due (shape.Punct p) = by_sort due p
      where
        by_sort : (due : Sort) (p : Punct) → calm_tail due (continued due p) ≡ true
        by_sort s.Exp p = exp_calm_tail p
        by_sort s.MetaExp p = meta_calm_tail p
        by_sort s.Declarator p = named_calm_tail p
        by_sort s.AbstractDeclarator p = abstract_calm_tail p
        by_sort s.ParamDeclarator p = parameter_calm_tail p
        by_sort s.MemberName p = member_calm_tail p
        by_sort s.InnerDeclarator p = inner_calm_tail p
        by_sort _ p = unfold calm_tail in refl
    shape_calm_tail due _ = unfold calm_tail in refl

    stays_tail : (due : Sort) (i : ℕ) (y : Standing) (o : Option Form) → calm_tail due o ≡ true → Stays (tail_by due i y o)
    unfolding calm_tail
    stays_tail due i y (Some f) h = (stays_fits Still) y.found.height (standing (level f) (after_part called due f i (deeper y.found))) ((stays_map Still) (after_part called due f i (deeper y.found)) (λ x. record { found = x; level = level f }) (stays_after called stays_called due f i (one (deeper y.found)) (after_first (pieces f)) h))
    stays_tail due i y None h = (stays_refuse Still)

    pub stays_climb : (due : Sort) (least i : ℕ) (y : Standing) → Stays (climb due least i y)
    unfolding climb
    stays_climb due least i y = (stays_map Still) (Loop (turn due least i) y) (λ z. z.found) ((stays_loop Still) (turn due least i) y (λ y. (stays_ask Still) (asked y) (λ k. (stays_look Still) (looked k y)
        (λ x. (stays_choose Still) (is_tail due least k.state y (continued_by due x.shape)) (Bind (tail_by due i y (continued_by due x.shape)) (λ t. Give (More t))) (Give (Last y)) ((stays_map Still) (tail_by due i y (continued_by due x.shape)) More (stays_tail due i y (continued_by due x.shape) (shape_calm_tail due x.shape))) ((stays_give Still) (Last y))))))
      where
        looked : Spot → Standing → Seen → Reader (Turn Standing Standing)
        looked k y x = choose (is_tail due least k.state y (continued_by due x.shape)) (Bind (tail_by due i y (continued_by due x.shape)) (λ t. Give (More t))) (Give (Last y))

        asked : Standing → Spot → Reader (Turn Standing Standing)
        asked y k = Look (looked k y)

    -- ---- expressions

    stays_parenthesized : (due : Sort) → is_item due ≡ false → Stays (parenthesized due)
    stays_parenthesized due h = (stays_bind Still) (Call (Of due 1)) (λ x. token (class_number (sign punct.RightParen)) >> Give (deeper x)) (C (Of due 1) (ap not h))
        (λ x. (stays_map Still) (token (class_number (sign punct.RightParen))) (λ _. deeper x) ((stays_pick Still) (λ y. only (nat_eq y.class (class_number (sign punct.RightParen))))))

    stays_wrapped : (due : Sort) → is_item due ≡ false → Stays (standing 17 (parenthesized due))
    stays_wrapped due h = (stays_map Still) (parenthesized due) (λ x. record { found = x; level = 17 }) (stays_parenthesized due h)

    -- after an opening parenthesis, where the declaration was put aside
    stays_type_or : (named other : Reader Standing) → ((a : List Kept) (z : State) (y : Shape) → Within true a z → Leaving B d z y named (λ _ t. Still a t)) → Stays other → Stays (type_or named other)
    unfolding type_or
    stays_type_or named other N O a z y k = leaving_next B d z y (Change event.Aside (Look after)) (λ _ t. Still a t) (λ x. leaving_change B d z x event.Aside (Look after) (λ _ t. Still a t)
        (leaving_look B d (happens event.Aside z) x after (λ _ t. Still a t) (leaving_choose B d (happens event.Aside z) x (begins s.TypeName (seen (happens event.Aside z) x)) named (Change event.Resume other) (λ _ t. Still a t)
        (λ _. N a (happens event.Aside z) x (event_within event.Aside false a z refl k))
        (λ _. leaving_change B d (happens event.Aside z) x event.Resume other (λ _ t. Still a t) (O a (happens event.Resume (happens event.Aside z)) x k)))))
      where
        after : Seen → Reader Standing
        after y = choose (begins s.TypeName y) named (Change event.Resume other)

    stays_named : (least : ℕ) (f : Form) (i : ℕ) → calm s.Exp true (after_paren (pieces f)) ≡ true → (a : List Kept) (z : State) (y : Shape) → Within true a z
        → Leaving B d z y (tight least f (completed called s.Exp f i nothing (after_paren (pieces f)))) (λ _ t. Still a t)
    unfolding Left
    stays_named least f i h a z y w = leaving_choose B d z y (nat_lt (level f) least) Refuse (standing (level f) (completed called s.Exp f i nothing (after_paren (pieces f)))) (λ _ t. Still a t) (λ _. leaving_refuse B d z y (λ _ t. Still a t))
        (λ _. within_map called stays_called s.Exp f true (completed called s.Exp f i nothing (after_paren (pieces f))) (λ x. record { found = x; level = level f }) (stays_completed called stays_called s.Exp f i nothing true (after_paren (pieces f)) h) a z y w)

    exp_calm : (f : ExpForm) → calm s.Exp false (pieces (form.Exp f)) ≡ true
    exp_calm (exp.Name w) = refl
    exp_calm (exp.Binary operator.LogicalOr) = refl
    exp_calm (exp.Binary _) = refl
    exp_calm _ = refl

    spec_calm : (own : Sort) (f : SpecForm) → calm own false (pieces (form.Spec f)) ≡ true
    spec_calm own (spec.Storage storage.Typedef) = refl
    spec_calm own (spec.Storage _) = refl
    spec_calm own _ = refl

    stmt_calm : (f : StmtForm) → calm s.Stmt false (pieces (form.Stmt f)) ≡ true
    stmt_calm stmt.Label = refl
    stmt_calm _ = refl

    module _ (inner : Parts) (I : Staying inner) where
      stays_entered : (least i : ℕ) → Stays (entered least i)
      stays_entered least i = (stays_fits Still) 0 (type_or (tight least (form.Exp exp.Cast) (completed called s.Exp (form.Exp exp.Cast) i nothing (after_paren (pieces (form.Exp exp.Cast))))) (standing 17 (parenthesized s.Exp)))
          (stays_type_or (tight least (form.Exp exp.Cast) (completed called s.Exp (form.Exp exp.Cast) i nothing (after_paren (pieces (form.Exp exp.Cast))))) (standing 17 (parenthesized s.Exp)) (stays_named least (form.Exp exp.Cast) i refl) (stays_wrapped s.Exp refl))

      stays_sized : (least i : ℕ) → Stays (sized inner least i)
      stays_sized least i = (stays_fits Still) 0 (Next (Look by_paren)) ((stays_next Still) (Look by_paren) ((stays_look Still) by_paren (λ x. (stays_choose Still) (is_sign punct.LeftParen x) (type_or of_type of_opened) of_exp
          (stays_type_or of_type of_opened (stays_named least (form.Exp exp.SizeofType) i refl) (stays_tight least (form.Exp exp.SizeofExp) (sized_opened i) ((stays_bind Still) (Call Opened) sized_from (C Opened refl) (λ x. (stays_ask Still) (sized_node x) (λ j. (stays_give Still) _)))))
          (stays_tight least (form.Exp exp.SizeofExp) whole_one (stays_after called stays_called s.Exp (form.Exp exp.SizeofExp) i nothing (after_first (pieces (form.Exp exp.SizeofExp))) refl)))))
        where
          sized_node : Found → Spot → Reader Found
          sized_node x j = Give (node (form.Exp exp.SizeofExp) i j.place (one (deeper x)))

          sized_from : Found → Reader Found
          sized_from x = Ask (sized_node x)

          of_type : Reader Standing
          of_type = tight least (form.Exp exp.SizeofType) (completed called s.Exp (form.Exp exp.SizeofType) i nothing (after_paren (pieces (form.Exp exp.SizeofType))))

          of_opened : Reader Standing
          of_opened = tight least (form.Exp exp.SizeofExp) (sized_opened i)

          whole_one : Reader Found
          whole_one = completed called s.Exp (form.Exp exp.SizeofExp) i nothing (after_first (pieces (form.Exp exp.SizeofExp)))

          of_exp : Reader Standing
          of_exp = tight least (form.Exp exp.SizeofExp) whole_one

          by_paren : Seen → Reader Standing
          by_paren x = choose (is_sign punct.LeftParen x) (type_or of_type of_opened) of_exp

      stays_begun : (least : ℕ) (o : Option ExpForm) → Stays (begun_by inner least (map_option form.Exp o))
      stays_begun least (Some f) = stays_tight least (form.Exp f) (whole inner s.Exp (form.Exp f)) (stays_whole inner I s.Exp (form.Exp f) (exp_calm f))
      stays_begun least None = (stays_refuse Still)

      stays_primary : (least : ℕ) → Stays (primary inner least)
      unfolding primary
      stays_primary least = (stays_ask Still) (λ i. Look (by_paren i)) (λ i. (stays_look Still) (by_paren i) (λ x. (stays_choose Still) (is_sign punct.LeftParen x) (entered least i.place) (by_key i x) (stays_entered least i.place)
          ((stays_choose Still) (is_class (class.Key key.Sizeof) x) (sized inner least i.place) (by_start x) (stays_sized least i.place)
          ((stays_choose Still) (begins s.Exp x) (begun_by inner least (begun s.Exp x.shape)) Refuse (stays_begun least (exp_begun x.shape)) (stays_refuse Still)))))
        where
          by_start : Seen → Reader Standing
          by_start x = choose (begins s.Exp x) (begun_by inner least (begun s.Exp x.shape)) Refuse

          by_key : Spot → Seen → Reader Standing
          by_key i x = choose (is_class (class.Key key.Sizeof) x) (sized inner least i.place) (by_start x)

          by_paren : Spot → Seen → Reader Standing
          by_paren i x = choose (is_sign punct.LeftParen x) (entered least i.place) (by_key i x)

      stays_expression : (least : ℕ) → Stays (expression inner least)
      unfolding expression
      stays_expression least = (stays_ask Still) (λ i. Bind (primary inner least) (λ y. climb s.Exp least i.place y)) (λ i. (stays_bind Still) (primary inner least) (λ y. climb s.Exp least i.place y) (stays_primary least) (λ y. stays_climb s.Exp least i.place y))

      -- ---- declarators

      stays_nameless : (due : Sort) → is_item (inside due s.Params) ≡ false → (i : ℕ) → Stays (nameless_function due i)
      stays_nameless due h i = (stays_map Still) function_of (λ x. record { found = x; level = level (the_declarator declarator.FunctionOf) }) (stays_after called stays_called due (the_declarator declarator.FunctionOf) i (one (deeper (absent_at i))) (after_first (after_first (pieces (the_declarator declarator.FunctionOf)))) (rw h refl))
        where
          function_of : Reader Found
          function_of = completed called due (the_declarator declarator.FunctionOf) i (one (deeper (absent_at i))) (after_first (after_first (pieces (the_declarator declarator.FunctionOf))))

      module _ (due : Sort) (self : is_item due ≡ false) (wrapped : is_item (parenthesized_sort due) ≡ false) (listed : is_item (inside due s.Params) ≡ false) (starred : calm due false (pieces (the_declarator declarator.Pointer)) ≡ true) (named : calm due false (pieces (the_declarator declarator.Named)) ≡ true) where
        stays_opened : (i : ℕ) → Stays (opened_declarator due i)
        stays_opened i = (stays_fits Still) 0 (Next by_kind) ((stays_next Still) by_kind ((stays_choose Still) (is_nameable due) (standing 17 (parenthesized (parenthesized_sort due))) (Look by_start) (stays_wrapped (parenthesized_sort due) wrapped)
            ((stays_look Still) by_start (λ y. (stays_choose Still) (begins_parenthesized y) (standing 17 (parenthesized due)) (nameless_function due i) (stays_wrapped due self) (stays_nameless due listed i)))))
          where
            by_start : Seen → Reader Standing
            by_start y = choose (begins_parenthesized y) (standing 17 (parenthesized due)) (nameless_function due i)

            by_kind : Reader Standing
            by_kind = choose (is_nameable due) (standing 17 (parenthesized (parenthesized_sort due))) (Look by_start)

        stays_head : (least : ℕ) → Stays (declarator_head inner due least)
        unfolding declarator_head
        stays_head least = (stays_ask Still) (λ i. Look (by_paren i)) (λ i. (stays_look Still) (by_paren i) (λ x. (stays_choose Still) (is_sign punct.LeftParen x) (opened_declarator due i.place) (by_star i x) (stays_opened i.place)
            ((stays_choose Still) (is_sign punct.Star x) pointer (by_name i x) (stays_tight least (the_declarator declarator.Pointer) (whole inner due (the_declarator declarator.Pointer)) (stays_whole inner I due (the_declarator declarator.Pointer) starred))
            ((stays_choose Still) (is_value x && may_be_named due) (standing 17 (whole inner due (the_declarator declarator.Named))) (absent i)
            ((stays_map Still) (whole inner due (the_declarator declarator.Named)) (λ x. record { found = x; level = 17 }) (stays_whole inner I due (the_declarator declarator.Named) named))
            ((stays_choose Still) (may_be_absent due) (Give (record { found = absent_at i.place; level = 17 })) Refuse ((stays_give Still) _) (stays_refuse Still))))))
          where
            absent : Spot → Reader Standing
            absent i = choose (may_be_absent due) (Give (record { found = absent_at i.place; level = 17 })) Refuse

            by_name : Spot → Seen → Reader Standing
            by_name i x = choose (is_value x && may_be_named due) (standing 17 (whole inner due (the_declarator declarator.Named))) (absent i)

            pointer : Reader Standing
            pointer = tight least (the_declarator declarator.Pointer) (whole inner due (the_declarator declarator.Pointer))

            by_star : Spot → Seen → Reader Standing
            by_star i x = choose (is_sign punct.Star x) pointer (by_name i x)

            by_paren : Spot → Seen → Reader Standing
            by_paren i x = choose (is_sign punct.LeftParen x) (opened_declarator due i.place) (by_star i x)

        stays_declarator : (least : ℕ) → Stays (declarator_of inner due least)
        unfolding declarator_of
        stays_declarator least = (stays_ask Still) (λ i. Bind (declarator_head inner due least) (λ y. climb due least i.place y)) (λ i. (stays_bind Still) (declarator_head inner due least) (λ y. climb due least i.place y) (stays_head least) (λ y. stays_climb due least i.place y))

      -- ---- specifiers and parameters

      stays_specifier : (due : Sort) → ((x : Seen) → (o : Option SpecForm) × (begun due x.shape ≡ map_option form.Spec o)) → Stays (specifier inner due)
      unfolding specifier
      stays_specifier due S = (stays_ask Still) (λ i. Look (by_start i)) (λ i. (stays_look Still) (by_start i) (λ x. (stays_choose Still) (begins due x) (specifier_by inner due i.state (spec_of due (is_type_word x) x)) Refuse (by_word i.state x (is_type_word x)) (stays_refuse Still)))
        where
          by_start : Spot → Seen → Reader Found
          by_start i x = choose (begins due x) (specifier_by inner due i.state (spec_of due (is_type_word x) x)) Refuse

          by_form : (z : State) (o : Option SpecForm) → Stays (specifier_by inner due z (map_option form.Spec o))
          by_form z (Some f) = (stays_choose Still) (may_stand z (form.Spec f)) (whole inner due (form.Spec f)) Refuse (stays_whole inner I due (form.Spec f) (spec_calm due f)) (stays_refuse Still)
          by_form z None = (stays_refuse Still)

          by_type : (z : State) (x : Shape) → Stays (specifier_by inner due z (typedef_of x))
          by_type z (shape.Word w) = by_form z (Some (spec.Typedef w))
          by_type z _ = (stays_refuse Still)

          by_word : (z : State) (x : Seen) (b : Bool) → Stays (specifier_by inner due z (spec_of due b x))
          by_word z x true = by_type z x.shape
          by_word z x false = subst (λ o. Stays (specifier_by inner due z o)) (sym (S x).1) (by_form z (S x).0)

      stays_typed : (i : ℕ) → Stays (typed inner i)
      stays_typed i = (stays_bind Still) (gathered (Ended (sign punct.Comma) (sign punct.Ellipsis)) s.Param (inner s.Param 0) Usual) by_end ((stays_gathered Still) (Ended (sign punct.Comma) (sign punct.Ellipsis)) s.Param (inner s.Param 0) Usual (I s.Param 0 refl))
          (λ g. (stays_choose Still) g.1.is_ended (token (class_number (sign punct.Ellipsis)) >> Ask (more g)) (Ask (all g))
          ((stays_bind Still) (token (class_number (sign punct.Ellipsis))) (λ _. Ask (more g)) ((stays_pick Still) (λ y. only (nat_eq y.class (class_number (sign punct.Ellipsis))))) (λ _. (stays_ask Still) (more g) (λ j. (stays_give Still) _))) ((stays_ask Still) (all g) (λ j. (stays_give Still) _)))
        where
          more : ℕ × Gathered → Spot → Reader Found
          more g j = Give (node (form.Params params.TypedAndMore) i j.place (one (list_from g.0 g.1)))

          all : ℕ × Gathered → Spot → Reader Found
          all g j = Give (node (form.Params params.Typed) i j.place (one (list_from g.0 g.1)))

          by_end : ℕ × Gathered → Reader Found
          by_end g = choose g.1.is_ended (token (class_number (sign punct.Ellipsis)) >> Ask (more g)) (Ask (all g))

      stays_parameters : Stays (parameters inner)
      unfolding parameters
      stays_parameters = (stays_ask Still) (λ i. Look (by_start i)) (λ i. (stays_look Still) (by_start i) (λ x. (stays_choose Still) (begins s.Spec x) (typed inner i.place) (by_name i x) (stays_typed i.place)
          ((stays_choose Still) (is_value x && not (has_name i.state)) Refuse (whole inner s.Params (form.Params params.Ids)) (stays_refuse Still) (stays_whole inner I s.Params (form.Params params.Ids) refl))))
        where
          by_name : Spot → Seen → Reader Found
          by_name i x = choose (is_value x && not (has_name i.state)) Refuse (whole inner s.Params (form.Params params.Ids))

          by_start : Spot → Seen → Reader Found
          by_start i x = choose (begins s.Spec x) (typed inner i.place) (by_name i x)

      -- ---- statements

      stays_late : (r : Reader Found) → Stays r → Stays (late r)
      stays_late r R = (stays_bind Still) r (λ x. Change event.Statements (Give x)) R (λ x. (stays_change Still) event.Statements (Give x) (λ a z h. h) ((stays_give Still) x))

      stays_label : (i : ℕ) (x : Found) → Stays (label i x)
      stays_label i x = (stays_fits Still) 0 (after_part called s.Stmt (form.Stmt stmt.Label) i (deeper x)) (stays_after called stays_called s.Stmt (form.Stmt stmt.Label) i (one (deeper x)) (after_first (pieces (form.Stmt stmt.Label))) refl)

      stays_word_led : (i : ℕ) (x : Seen) → Stays (word_led inner i x)
      stays_word_led i x = (stays_bind Still) (climb s.Exp 1 i (record { found = name_leaf i x.shape; level = 17 })) (λ y. after_part inner s.Stmt (form.Stmt stmt.Express) i y) (stays_climb s.Exp 1 i (record { found = name_leaf i x.shape; level = 17 }))
          (λ y. stays_after inner I s.Stmt (form.Stmt stmt.Express) i (one y) (after_first (pieces (form.Stmt stmt.Express))) refl)

      stays_worded : (i : ℕ) (x : Seen) → Stays (worded inner i x)
      unfolding worded
      stays_worded i x = (stays_next Still) (Look by_colon) ((stays_look Still) by_colon (λ y. (stays_choose Still) (is_sign punct.Colon y) (label i (id_leaf i x.shape)) (choose (is_value x) (word_led inner i x) Refuse) (stays_label i (id_leaf i x.shape)) ((stays_choose Still) (is_value x) (word_led inner i x) Refuse (stays_word_led i x) (stays_refuse Still))))
        where
          by_colon : Seen → Reader Found
          by_colon y = choose (is_sign punct.Colon y) (label i (id_leaf i x.shape)) (choose (is_value x) (word_led inner i x) Refuse)

      stays_statement : Stays (statement inner)
      unfolding statement
      stays_statement = (stays_ask Still) (λ i. Look (by_word i)) (λ i. (stays_look Still) (by_word i) (λ x. (stays_choose Still) (is_word x) (worded inner i.place x) (statement_by inner (begun s.Stmt x.shape)) (stays_worded i.place x) (by_form (stmt_begun x.shape))))
        where
          by_word : Spot → Seen → Reader Found
          by_word i x = choose (is_word x) (worded inner i.place x) (statement_by inner (begun s.Stmt x.shape))

          by_form : (o : Option StmtForm) → Stays (statement_by inner (map_option form.Stmt o))
          by_form (Some f) = stays_whole inner I s.Stmt (form.Stmt f) (stmt_calm f)
          by_form None = stays_whole inner I s.Stmt (form.Stmt stmt.Express) refl

      stays_type_first : (i : ℕ) (x : Seen) → Stays (type_first inner i x)
      unfolding type_first
      stays_type_first i x = (stays_next Still) (Look by_colon) ((stays_look Still) by_colon (λ y. (stays_choose Still) (is_sign punct.Colon y) (late (label i (id_leaf i x.shape))) (type_led inner i x) (stays_late (label i (id_leaf i x.shape)) (stays_label i (id_leaf i x.shape)))
          ((stays_change Still) event.SoleType (others All s.Spec (inner s.Spec 0) front >>= after) (λ a z h. h) ((stays_bind Still) (others All s.Spec (inner s.Spec 0) front) after ((stays_others Still) All s.Spec (inner s.Spec 0) front (I s.Spec 0 refl)) (λ g. stays_after inner I s.Decl form.Decl i (one (list_from i g)) (after_first (pieces form.Decl)) refl)))))
        where
          front : Gathered
          front = with_last (none_at i) (typedef_leaf i x.shape) (i + 1)

          after : Gathered → Reader Found
          after g = after_part inner s.Decl form.Decl i (list_from i g)

          by_colon : Seen → Reader Found
          by_colon y = choose (is_sign punct.Colon y) (late (label i (id_leaf i x.shape))) (type_led inner i x)

      stays_block_item : Stays (block_item inner)
      unfolding block_item
      stays_block_item = (stays_ask Still) (λ i. Look (by_start i)) (λ i. (stays_look Still) (by_start i) (λ x. (stays_choose Still) (not i.state.is_late && begins s.Decl x) (declaration_at inner i.place x) (late (statement inner))
          ((stays_choose Still) (is_type_word x) (type_first inner i.place x) (whole inner s.Decl form.Decl) (stays_type_first i.place x) (stays_whole inner I s.Decl form.Decl refl)) (stays_late (statement inner) stays_statement)))
        where
          by_start : Spot → Seen → Reader Found
          by_start i x = choose (not i.state.is_late && begins s.Decl x) (declaration_at inner i.place x) (late (statement inner))

      stays_leaf : (f : Spot → Seen → Option Found) → Stays (Ask (λ i. Pick (f i)))
      stays_leaf f = (stays_ask Still) (λ i. Pick (f i)) (λ i. (stays_pick Still) (f i))

      stays_noted : (f : Spot → Seen → Option Found) → Stays (Ask (λ i. Note (f i)))
      stays_noted f = (stays_ask Still) (λ i. Note (f i)) (λ i. (stays_note Still) (f i) (λ a z y h. h))

      -- all sorts but items
      stays_at : Staying (at_sort inner)
      stays_at s.Exp least h = stays_expression least
      stays_at s.Declarator least h = stays_declarator s.Declarator refl refl refl refl refl least
      stays_at s.AbstractDeclarator least h = stays_declarator s.AbstractDeclarator refl refl refl refl refl least
      stays_at s.ParamDeclarator least h = stays_declarator s.ParamDeclarator refl refl refl refl refl least
      stays_at s.MemberName least h = stays_declarator s.MemberName refl refl refl refl refl least
      stays_at s.Id least h = stays_leaf (λ i x. leaf_if (is_word x) form.Id i.place x)
      stays_at s.DeclaredId least h = stays_noted (λ i x. leaf_if (is_value x) form.Id i.place x)
      stays_at s.ParameterId least h = (stays_bind Still) declared_identifier (λ x. Change event.DeclareValue (Give x)) (stays_noted (λ i x. leaf_if (is_value x) form.Id i.place x)) (λ x. (stays_change Still) event.DeclareValue (Give x) (λ a z h. h) ((stays_give Still) x))
      stays_at s.EnumeratorId least h = stays_noted (λ i x. leaf_if (is_word x) form.Id i.place x)
      stays_at s.Literal least h = stays_leaf (λ i x. literal_of x.shape i.place)
      stays_at s.Spec least h = stays_specifier s.Spec (λ x. (spec_of_shape x.shape, refl))
      stays_at s.PlainSpec least h = stays_specifier s.PlainSpec (λ x. (spec_of_shape x.shape, refl))
      stays_at s.Qualifier least h = stays_specifier s.Qualifier (λ x. (spec_of_shape x.shape, refl))
      stays_at s.TypeName least h = stays_whole inner I s.TypeName form.TypeName refl
      stays_at s.Member least h = stays_whole inner I s.Member form.Member refl
      stays_at s.Enumerator least h = stays_whole inner I s.Enumerator form.Enumerator refl
      stays_at s.Params least h = stays_parameters
      stays_at s.Param least h = stays_whole inner I s.Param form.Param refl
      stays_at s.Init least h = (stays_look Still) (λ x. choose (is_sign punct.LeftBrace x) (whole inner s.Init (form.Init init.Braces)) (whole inner s.Init (form.Init init.One)))
          (λ x. (stays_choose Still) (is_sign punct.LeftBrace x) (whole inner s.Init (form.Init init.Braces)) (whole inner s.Init (form.Init init.One)) (stays_whole inner I s.Init (form.Init init.Braces) refl) (stays_whole inner I s.Init (form.Init init.One) refl))
      stays_at s.Decl least h = stays_whole inner I s.Decl form.Decl refl
      stays_at s.Stmt least h = stays_statement
      stays_at s.Block least h = (stays_look Still) (λ x. choose (is_sign punct.LeftBrace x) (whole inner s.Stmt (form.Stmt stmt.Block)) Refuse) (λ x. (stays_choose Still) (is_sign punct.LeftBrace x) (whole inner s.Stmt (form.Stmt stmt.Block)) Refuse (stays_whole inner I s.Stmt (form.Stmt stmt.Block) refl) (stays_refuse Still))
      stays_at s.BlockItem least h = stays_block_item
      stays_at s.Item least h = absurd (cc h)
      stays_at s.InitDeclarator least h = stays_whole inner I s.InitDeclarator (form.Group group.InitDeclarator) refl
      stays_at s.Initializer least h = stays_whole inner I s.Initializer (form.Group group.Initializer) refl
      stays_at s.MemberDeclarator least h = stays_whole inner I s.MemberDeclarator (form.Group group.MemberDeclarator) refl
      stays_at s.Width least h = stays_whole inner I s.Width (form.Group group.Width) refl
      stays_at s.Members least h = stays_whole inner I s.Members (form.Group group.Members) refl
      stays_at s.Enumerators least h = stays_whole inner I s.Enumerators (form.Group group.Enumerators) refl
      stays_at s.EnumeratorValue least h = stays_whole inner I s.EnumeratorValue (form.Group group.EnumeratorValue) refl
      stays_at s.ElsePart least h = stays_whole inner I s.ElsePart (form.Group group.ElsePart) refl
      stays_at _ least h = (stays_refuse Still)

    pub stays_in_place : (n : ℕ) → Staying (in_place n)
    unfolding in_place
    stays_in_place zero due least h = (stays_refuse Still)
    stays_in_place (suc n) due least h = stays_at (in_place n) (stays_in_place n) due least h

    stays_after_sizeof : Stays opened
    unfolding opened
    stays_after_sizeof = (stays_ask Still) begun_so (λ i. (stays_bind Still) (Look by_start) (climbing i) ((stays_look Still) by_start (λ x. (stays_choose Still) (begins s.Exp x) (Fits 0 (standing 17 (parenthesized s.Exp))) Refuse ((stays_fits Still) 0 (standing 17 (parenthesized s.Exp)) (stays_wrapped s.Exp refl)) (stays_refuse Still))) (λ y. stays_climb s.Exp 15 (i.place - 1) y))
      where
        by_start : Seen → Reader Standing
        by_start x = choose (begins s.Exp x) (Fits 0 (standing 17 (parenthesized s.Exp))) Refuse

        climbing : Spot → Standing → Reader Found
        climbing i y = climb s.Exp 15 (i.place - 1) y

        begun_so : Spot → Reader Found
        begun_so i = Bind (Look by_start) (climbing i)

    pub stays_body : (n : Rule) → is_called n ≡ true → Stays (body n)
    stays_body (Of due least) h = stays_in_place places due least (not_true (is_item due) h)
    stays_body Opened h = stays_after_sizeof

-- what a rule that is called keeps
abbrev pub KeptBy : Rule → State → Shape → Found → State → Type 0
KeptBy n z y x t = is_called n ≡ true → z.kept.is_function_due ≡ false → Still z.aside t

pub stays_call : (B : Rule → Input → Outcome Found) (d : ℕ) → ((n : Rule) (z : State) (y : Shape) → Leaving B d z y (Call n) (KeptBy n z y)) → (n : Rule) → is_called n ≡ true → Stays B d (Call n)
stays_call B d C n h a z y k = leaving_more B d z y (Call n) (KeptBy n z y) (λ _ t. Still a t) (λ x t m. let r = m h k.1 in (r.0 ∙ k.0, r.1)) (C n z y)

pub kept_call : (n : Rule) (z : State) (y : Shape) → Leaves body z y (Call n) (KeptBy n z y)
kept_call = leaves_call body KeptBy (λ B d C n z y i e f x j h c g. stays_body B d (stays_call B d C) n c z.aside z y (refl, g) i e f x j h)

-- each reader of a sort in place keeps to it
pub kept_in_place : (n : ℕ) (due : Sort) (least : ℕ) (a : List Kept) (z : State) (y : Shape) → is_item due ≡ false → Still a z → Leaves body z y (in_place n due least) (λ _ t. Still a t)
kept_in_place n due least a z y h k d = stays_in_place (below body d) d (stays_call (below body d) d (λ n z y. kept_call n z y d)) n due least h a z y k

-- and so does what goes on with a first part
pub kept_tail : (due : Sort) (i : ℕ) (s : Standing) (x : Shape) (a : List Kept) (z : State) (y : Shape) → Still a z → Leaves body z y (tail_by due i s (continued_by due x)) (λ _ t. Still a t)
kept_tail due i s x a z y k d = let C : (n : Rule) → is_called n ≡ true → Stays (below body d) d (Call n) = stays_call (below body d) d (λ n z y. kept_call n z y d) in
    stays_tail (below body d) d C due i s (continued_by due x) (shape_calm_tail (below body d) d C due x) a z y k

-- and an expression without what goes on after it
pub kept_primary : (n least : ℕ) (a : List Kept) (z : State) (y : Shape) → Still a z → Leaves body z y (primary (in_place n) least) (λ _ t. Still a t)
kept_primary n least a z y k d = let C : (n : Rule) → is_called n ≡ true → Stays (below body d) d (Call n) = stays_call (below body d) d (λ n z y. kept_call n z y d) in
    stays_primary (below body d) d C (in_place n) (stays_in_place (below body d) d C n) least a z y k

-- a climb
pub kept_climb : (due : Sort) (least i : ℕ) (s : Standing) (a : List Kept) (z : State) (y : Shape) → Still a z → Leaves body z y (climb due least i s) (λ _ t. Still a t)
kept_climb due least i s a z y k d = stays_climb (below body d) d (stays_call (below body d) d (λ n z y. kept_call n z y d)) due least i s a z y k

-- and the first part of a declarator
pub kept_head : (n : ℕ) (due : Sort) → is_declarator due ≡ true → (least : ℕ) (a : List Kept) (z : State) (y : Shape) → Still a z → Leaves body z y (declarator_head (in_place n) due least) (λ _ t. Still a t)
kept_head n due h least a z y k d = by_sort due h
  where
    C : (n : Rule) → is_called n ≡ true → Stays (below body d) d (Call n)
    C = stays_call (below body d) d (λ n z y. kept_call n z y d)

    by_sort : (due : Sort) → is_declarator due ≡ true → Leaving (below body d) d z y (declarator_head (in_place n) due least) (λ _ t. Still a t)
    by_sort s.Declarator h = stays_head (below body d) d C (in_place n) (stays_in_place (below body d) d C n) s.Declarator refl refl refl refl refl least a z y k
    by_sort s.AbstractDeclarator h = stays_head (below body d) d C (in_place n) (stays_in_place (below body d) d C n) s.AbstractDeclarator refl refl refl refl refl least a z y k
    by_sort s.ParamDeclarator h = stays_head (below body d) d C (in_place n) (stays_in_place (below body d) d C n) s.ParamDeclarator refl refl refl refl refl least a z y k
    by_sort s.MemberName h = stays_head (below body d) d C (in_place n) (stays_in_place (below body d) d C n) s.MemberName refl refl refl refl refl least a z y k
    by_sort _ h = absurd (cc h)

-- and what stands in parentheses that are added
pub kept_wrapped : (due : Sort) → is_item due ≡ false → (a : List Kept) (z : State) (y : Shape) → Still a z → Leaves body z y (standing 17 (parenthesized due)) (λ _ t. Still a t)
kept_wrapped due h a z y k d = stays_wrapped (below body d) d (stays_call (below body d) d (λ n z y. kept_call n z y d)) due h a z y k

-- and what follows the first parts of a node
pub kept_after : (n : ℕ) (own : Sort) (f : Form) (i : ℕ) (done : Listed) (ps : List Piece) → calm own false ps ≡ true → (a : List Kept) (z : State) (y : Shape) → Still a z → Leaves body z y (completed (parts_of f (in_place n)) own f i done ps) (λ _ t. Still a t)
kept_after n own f i done ps h a z y k d = let C : (n : Rule) → is_called n ≡ true → Stays (below body d) d (Call n) = stays_call (below body d) d (λ n z y. kept_call n z y d) in
    stays_after (below body d) d C (in_place n) (stays_in_place (below body d) d C n) own f i done ps h a z y k
