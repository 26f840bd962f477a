-- The pieces of a row, read one after the other.
use Rattle.std.specs.Prelude.{ℕ, ◌+◌, max, Bool, true, false, nat_eq, List, [], ◌∷◌, ◌++◌, Option, Some, None}
use Rattle.c_tokens.specs.declared.span.Span.{Span}
use Rattle.c_tokens.specs.declared.class.Class.{Class}
use Rattle.c_tokens.specs.ClassNumbers.{class_number}
use Rattle.c_forms.specs.declared.pieces.Sort.{Sort}
use Rattle.c_forms.specs.declared.pieces.Sort.TheVariants as s
use Rattle.c_forms.specs.declared.pieces.Repetition.{Repetition}
use Rattle.c_forms.specs.declared.pieces.Repetition.TheVariants.{Optional, Greedy, Due, All, Any, Many, Spliced, Ended}
use Rattle.c_forms.specs.declared.pieces.Piece.{Piece}
use Rattle.c_forms.specs.declared.pieces.Piece.TheVariants.{Token, Maybe, Own, TypeTokens, KindName, One, Group, Rest, Anything, Then}
use Rattle.c_forms.specs.declared.forms.Form.{Form}
use Rattle.c_forms.specs.declared.forms.Form.TheVariants as form
use Rattle.c_forms.specs.declared.forms.DeclaratorForm.TheVariants as declarator
use Rattle.c_forms.specs.declared.forms.GroupForm.TheVariants as group
use Rattle.c_forms.specs.Forests.{Plain}
use Rattle.c_forms.specs.Forests as forests
use Rattle.c_forms.specs.Measures.{star}
use Rattle.c_forms.specs.Sets.{Classes, has, starts, element_starts, goes_on_with, held_class}
use Rattle.c_reader.specs.States.{Seen}
use Rattle.c_syntax.specs.Allowed.{may_happen}
use Rattle.c_reader.specs.Readers.{Reader, Found, Turn, More, Last, Give, Refuse, Look, Next, Pick, Call, Of, Loop, Ask, Change, ◌>>=◌, ◌>>◌, choose, only, token, repeat}

-- ---- nodes

-- from a token to the one before another; where these are one, nothing
abbrev pub spanned : ℕ → ℕ → Span
spanned i j = record { start = i; «end» = j }

-- trees side by side, and the height that they have as parts
pub record Listed : Type 0 where
  pub trees : List Plain
  pub height : ℕ

abbrev pub nothing : Listed
nothing = record { trees = []; height = 0 }

abbrev pub one : Found → Listed
one x = record { trees = x.tree ∷ []; height = x.height }

abbrev pub with_first : Found → Listed → Listed
with_first x g = record { trees = x.tree ∷ g.trees; height = max x.height g.height }

abbrev pub joined : Listed → Listed → Listed
joined a b = record { trees = a.trees ++ b.trees; height = max a.height b.height }

abbrev pub is_starred : Form → Bool
is_starred f = nat_eq (star f) 1

abbrev pub height_over : Bool → ℕ → ℕ
height_over true height = max 1 height
height_over false height = height

abbrev pub node : Form → ℕ → ℕ → Listed → Found
node f i j g = record { tree = forests.node f (spanned i j) g.trees; height = height_over (is_starred f) g.height }

-- a part of a node that counts for the height
abbrev pub deeper : Found → Found
deeper x = record { tree = x.tree; height = x.height + 1 }

-- what reads a tree of a sort, of at least a level
abbrev pub Parts : Type 1
Parts = Sort → ℕ → Reader Found

-- a part one level deeper
abbrev pub called : Parts
called due least = Call (Of due least) >>= λ x. Give (deeper x)

-- the parts of a node that counts for the height are one level deeper
abbrev pub parts_by : Bool → Parts → Parts
parts_by true inner = called
parts_by false inner = inner

abbrev pub parts_of : Form → Parts → Parts
parts_of f inner = parts_by (is_starred f) inner

-- ---- groups

-- the elements of a list so far, and the place after the last
pub record Gathered : Type 0 where
  pub trees : List Plain
  pub height : ℕ
  pub last : ℕ
  -- whether the separator was read after it, before an end
  pub is_ended : Bool

abbrev pub the_list : Form
the_list = form.Group group.List

abbrev pub none_at : ℕ → Gathered
none_at i = record { trees = []; height = 0; last = i; is_ended = false }

abbrev pub with_last : Gathered → Found → ℕ → Gathered
with_last g x j = record { trees = g.trees ++ (x.tree ∷ []); height = max g.height x.height; last = j; is_ended = false }

abbrev pub ended : Gathered → Gathered
ended g = record g { is_ended = true }

abbrev pub list_from : ℕ → Gathered → Found
list_from i g = node the_list i g.last (record { trees = g.trees; height = g.height })

-- one element, after those that were read
unfoldable pub element_after : Reader Found → Gathered → Reader Gathered
element_after element g = element >>= λ x. Ask (λ j. Give (with_last g x j.place))

abbrev pub separated : {A : Type 0} → Option Class → Reader A → Reader A
separated None r = r
separated (Some c) r = Next r

abbrev pub separator_of : Repetition → Option Class
separator_of (Many separator least) = separator
separator_of (Spliced separator least) = separator
separator_of (Ended separator end_token) = Some separator
separator_of _ = None

abbrev pub is_class : Class → Seen → Bool
is_class c x = nat_eq x.class (class_number c)

-- whether what follows an element goes on with the list
abbrev pub goes : Repetition → Sort → Gathered → Seen → Bool
goes r due g x = has (goes_on_with r (element_starts r due)) x.class

-- the elements after the first
unfoldable pub others : Repetition → Sort → Reader Found → Gathered → Reader Gathered
others r due element g = repeat (goes r due) (λ _ g. separated (separator_of r) (element_after element g)) g

-- after a separator comes an element or the end
abbrev pub ended_turn : Class → Class → Reader Found → Gathered → Reader (Turn Gathered Gathered)
ended_turn separator end_token element g = Look (λ x. choose (is_class separator x)
    (Next (Look (λ y. choose (is_class end_token y) (Give (Last (ended g))) (element_after element g >>= λ h. Give (More h)))))
    (Give (Last g)))

unfoldable pub others_ended : Class → Class → Reader Found → Gathered → Reader Gathered
others_ended separator end_token element g = Loop (ended_turn separator end_token element) g

unfoldable pub many : Repetition → Sort → Reader Found → ℕ → Reader Gathered
many (Ended separator end_token) due element i = element_after element (none_at i) >>= λ g. others_ended separator end_token element g
many r due element i = element_after element (none_at i) >>= λ g. others r due element g

abbrev pub at_most_one : Reader Found → Classes → ℕ → Reader Gathered
at_most_one element begin i = Look (λ x. choose (has begin x.class) (element_after element (none_at i)) (Give (none_at i)))

abbrev pub any_number : Bool → Repetition → Sort → Reader Found → ℕ → Reader Gathered
any_number true r due element i = many r due element i
any_number false r due element i = Look (λ x. choose (has (element_starts r due) x.class) (many r due element i) (Give (none_at i)))

-- what stood before a piece: an optional part that is absent, one that is there, or something else
pub data Before : Type 0 where
  Usual : Before
  Missing : Before
  Taken : Before

abbrev pub is_missing : Before → Bool
is_missing Missing = true
is_missing before = false

abbrev pub gathered_by : Repetition → Sort → Reader Found → Before → ℕ → Reader Gathered
gathered_by Optional due element before i = at_most_one element (starts due) i
gathered_by Greedy due element before i = at_most_one element (starts due) i
gathered_by Due due element before i = choose (is_missing before) (element_after element (none_at i)) (at_most_one element (starts due) i)
gathered_by All due element before i = many All due element i
gathered_by Any due element before i = any_number false Any due element i
gathered_by (Many separator least) due element before i = any_number (nat_eq least 1) (Many separator least) due element i
gathered_by (Spliced separator least) due element before i = any_number (nat_eq least 1) (Spliced separator least) due element i
gathered_by (Ended separator end_token) due element before i = many (Ended separator end_token) due element i

-- the elements of a repetition
unfoldable pub gathered : Repetition → Sort → Reader Found → Before → Reader (ℕ × Gathered)
gathered r due element before = Ask (λ i. gathered_by r due element before i.place >>= λ g. Give (i.place, g))

-- and their list
abbrev pub grouped : Repetition → Sort → Reader Found → Before → Reader Found
grouped r due element before = gathered r due element before >>= λ g. Give (list_from g.0 g.1)

-- ---- pieces

abbrev pub is_absent_form : Form → Bool
is_absent_form (form.Declarator declarator.Absent) = true
is_absent_form f = false

abbrev pub is_absent : Plain → Bool
is_absent t = is_absent_form t.form

abbrev pub before_by : Bool → Before
before_by true = Missing
before_by false = Taken

abbrev pub has_none : List Plain → Bool
has_none [] = true
has_none (t ∷ ts) = false

-- a declarator inside one is of the same sort; inside a member's with a name there is one with a name
abbrev pub inside : Sort → Sort → Sort
inside s.MemberName s.InnerDeclarator = s.Declarator
inside own s.InnerDeclarator = own
inside own due = due

-- the pieces of a form that is read as a sort
unfoldable pub pieces_in : Parts → Sort → Form → Before → List Piece → Reader Listed
pieces_in part own f before [] = Give nothing
pieces_in part own f before (Token c ∷ ps) = token (class_number c) >> pieces_in part own f Usual ps
pieces_in part own f before (Maybe c ∷ ps) = Look (λ x. choose (is_class c x) (Next (pieces_in part own f Usual ps)) (pieces_in part own f Usual ps))
pieces_in part own f before (Own ∷ ps) = Pick (λ x. only (has (held_class f) x.class)) >> pieces_in part own f Usual ps
pieces_in part own f before (One due least ∷ ps) = part (inside own due) least >>= λ x. pieces_in part own f (before_by (is_absent x.tree)) ps >>= λ g. Give (with_first x g)
pieces_in part own f before (Group (Ended separator end_token) due least ∷ (p ∷ ps)) = gathered (Ended separator end_token) due (part due least) before
    >>= λ g. choose g.1.is_ended (pieces_in part own f Usual ps) (pieces_in part own f Usual (p ∷ ps)) >>= λ h. Give (with_first (list_from g.0 g.1) h)
pieces_in part own f before (Group r due least ∷ ps) = gathered r due (part due least) before
    >>= λ g. pieces_in part own f (before_by (has_none g.1.trees)) ps >>= λ h. Give (with_first (list_from g.0 g.1) h)
pieces_in part own f before (Then e ∷ ps) = Ask (λ i. choose (may_happen e i.state) (Change e (pieces_in part own f before ps)) Refuse)
pieces_in part own f before (TypeTokens ∷ ps) = Refuse
pieces_in part own f before (KindName ∷ ps) = Refuse
pieces_in part own f before (Rest due ∷ ps) = Refuse
pieces_in part own f before (Anything ∷ ps) = Refuse

-- the node of a form from a place on, with these parts and those of the pieces that are left
unfoldable pub completed : Parts → Sort → Form → ℕ → Listed → List Piece → Reader Found
completed part own f i done ps = pieces_in part own f Usual ps >>= λ g. Ask (λ j. Give (node f i j.place (joined done g)))
