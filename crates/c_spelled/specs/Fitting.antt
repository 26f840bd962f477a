-- What the pieces of a row must meet, so that what spells them is read. It is computed.
use Rattle.std.specs.Prelude.{ℕ, suc, ◌+◌, ◌-◌, max, Bool, true, false, not, ◌&&◌, ◌||◌, nat_eq, nat_lt, List, [], ◌∷◌, ◌++◌, Option, Some, None, if◌then◌else◌}
use Rattle.c_tokens.specs.declared.class.Class.{Class}
use Rattle.c_tokens.specs.declared.class.Class.TheVariants as class
use Rattle.c_tokens.specs.ClassNumbers.{class_number}
use Rattle.c_forms.specs.declared.pieces.Event.TheVariants as event
use Rattle.c_forms.specs.declared.pieces.Sort.{Sort}
use Rattle.c_forms.specs.declared.pieces.Sort.TheVariants as s
use Rattle.c_forms.specs.declared.pieces.Repetition.{Repetition}
use Rattle.c_forms.specs.declared.pieces.Repetition.TheVariants.{Optional, Due, All, Any, Many, Spliced, Ended}
use Rattle.c_forms.specs.declared.pieces.Piece.{Piece}
use Rattle.c_forms.specs.declared.pieces.Piece.TheVariants.{Token, Maybe, Own, One, Group, Then}
use Rattle.c_forms.specs.declared.forms.Form.{Form}
use Rattle.c_forms.specs.declared.forms.Form.TheVariants as form
use Rattle.c_forms.specs.declared.forms.ParamsForm.TheVariants as params
use Rattle.c_forms.specs.Forests as forests
use Rattle.c_forms.specs.Measures.{pieces}
use Rattle.c_forms.specs.Sets.{Classes, has, within, apart, given, starts, element_starts, goes_on, goes_on_with, may_be_empty, is_optional, held_class, type_word}
use Rattle.c_reader.specs.States.{word_class}
use Rattle.c_syntax.specs.Reading.{Before, Usual, Missing, is_missing, before_by, inside, is_absent, is_starred, spanned}
use Rattle.c_syntax.specs.Allowed.{places}

abbrev pub value_word : ℕ
value_word = word_class false

abbrev pub has_words : Classes → Bool
has_words a = has a value_word || has a type_word

-- apart, and so in all states, in which a word may be a value or a type
abbrev pub parted : Classes → Classes → Bool
parted a b = apart a b && (not (has_words a) || not (has_words b))

-- the sorts of plain C that are parts
abbrev pub is_read : Sort → Bool
is_read s.Exp = true
is_read s.Declarator = true
is_read s.AbstractDeclarator = true
is_read s.ParamDeclarator = true
is_read s.MemberName = true
is_read s.Id = true
is_read s.DeclaredId = true
is_read s.ParameterId = true
is_read s.EnumeratorId = true
is_read s.Literal = true
is_read s.Spec = true
is_read s.PlainSpec = true
is_read s.Qualifier = true
is_read s.TypeName = true
is_read s.Member = true
is_read s.Enumerator = true
is_read s.Params = true
is_read s.Param = true
is_read s.Init = true
is_read s.Decl = true
is_read s.Stmt = true
is_read s.Block = true
is_read s.BlockItem = true
is_read s.InitDeclarator = true
is_read s.Initializer = true
is_read s.MemberDeclarator = true
is_read s.Width = true
is_read s.Members = true
is_read s.Enumerators = true
is_read s.EnumeratorValue = true
is_read s.ElsePart = true
is_read _ = false

-- those with no token and no name, where nothing stands
abbrev pub is_nameless : Sort → Bool
is_nameless s.AbstractDeclarator = true
is_nameless s.ParamDeclarator = true
is_nameless s.MemberName = true
is_nameless _ = false

-- what may begin the pieces of a form that is read as a sort
abbrev pub opens : Sort → Form → List Piece → Classes
opens own f [] = []
opens own f (Token c ∷ ps) = class_number c ∷ []
opens own f (Maybe c ∷ ps) = class_number c ∷ opens own f ps
opens own f (Own ∷ ps) = held_class f
opens own f (Then e ∷ ps) = opens own f ps
opens own f (One due least ∷ ps) = starts (inside own due) ++ given (may_be_empty (inside own due)) (opens own f ps)
opens own f (Group r due least ∷ ps) = starts due ++ given (is_optional r) (opens own f ps)
opens own f (_ ∷ ps) = []

abbrev pub is_due_after : Repetition → Before → Bool
is_due_after Due before = is_missing before
is_due_after r before = false

-- whether the pieces may have no token
abbrev pub blank : Sort → Before → List Piece → Bool
blank own before [] = true
blank own before (Maybe c ∷ ps) = blank own Usual ps
blank own before (Then e ∷ ps) = blank own before ps
blank own before (One due least ∷ ps) = may_be_empty (inside own due) && blank own (before_by (is_nameless (inside own due))) ps
blank own before (Group r due least ∷ ps) = is_optional r && (not (is_due_after r before) && blank own Missing ps)
blank own before _ = false

-- whether nothing happens before the first token
abbrev pub is_calm : Sort → List Piece → Bool
is_calm own [] = true
is_calm own (Maybe c ∷ ps) = is_calm own ps
is_calm own (Then e ∷ ps) = false
is_calm own (One due least ∷ ps) = not (may_be_empty (inside own due)) || is_calm own ps
is_calm own (Group r due least ∷ ps) = not (is_optional r) || is_calm own ps
is_calm own _ = true

-- whether the parts are of sorts that are read, and no element of a repetition is empty
abbrev pub reads : Sort → List Piece → Bool
reads own [] = true
reads own (Token c ∷ ps) = reads own ps
reads own (Maybe c ∷ ps) = reads own ps
reads own (Own ∷ ps) = reads own ps
reads own (Then e ∷ ps) = reads own ps
reads own (One due least ∷ ps) = is_read (inside own due) && reads own ps
reads own (Group r due least ∷ ps) = (is_read due && not (may_be_empty due)) && reads own ps
reads own _ = false

-- ---- what follows

abbrev pub is_due : List Piece → Bool
is_due (Group Due due least ∷ ps) = true
is_due _ = false

-- what goes on with a repetition after an element, where the relation does not say that none does
abbrev pub goes_after : Repetition → Sort → Classes
goes_after (Many separator least) due = goes_on_with (Many separator least) (element_starts (Many separator least) due)
goes_after (Spliced separator least) due = goes_on_with (Spliced separator least) (element_starts (Spliced separator least) due)
goes_after _ due = []

abbrev pub group_goes_on : Repetition → Sort → ℕ → Classes
group_goes_on r due least = goes_on due least ++ goes_after r due

-- what would begin a repetition that is absent
abbrev pub absent_ends : Repetition → Sort → Classes
absent_ends Optional due = starts due
absent_ends Due due = starts due
absent_ends (Many separator least) due = given (nat_eq least 0) (element_starts (Many separator least) due)
absent_ends (Spliced separator least) due = given (nat_eq least 0) (element_starts (Spliced separator least) due)
absent_ends _ due = []

-- what may go on with pieces
abbrev pub follows : Sort → List Piece → Classes
follows own [] = []
follows own (Maybe c ∷ ps) = given (blank own Usual ps) (class_number c ∷ []) ++ follows own ps
follows own (One due least ∷ ps) = given (blank own Usual ps) (goes_on (inside own due) least) ++ follows own ps
follows own (Group r due least ∷ ps) = given (blank own Usual ps) (group_goes_on r due least ++ given (not (is_due ps)) (absent_ends r due)) ++ follows own ps
follows own (p ∷ ps) = follows own ps

-- what may stand after an element, where another follows
abbrev pub between_set : Option Class → Sort → Classes
between_set (Some c) due = class_number c ∷ []
between_set None due = starts due

abbrev pub source_end : ℕ
source_end = class_number class.End

abbrev pub between_fits : Option Class → Sort → ℕ → Bool
between_fits c due least = parted (between_set c due) (goes_on due least) && not (has (between_set c due) source_end)

-- what stands between two elements does not go on with the first
abbrev pub elements_fit : Repetition → Sort → ℕ → Bool
elements_fit (Many separator few) due least = between_fits separator due least
elements_fit (Spliced separator few) due least = between_fits separator due least
elements_fit (Ended separator end_token) due least = between_fits (Some separator) due least && parted (class_number end_token ∷ []) (starts due)
elements_fit All due least = between_fits None due least
elements_fit Any due least = between_fits None due least
elements_fit _ due least = true

abbrev same_class : Class → Class → Bool
same_class c d = nat_eq (class_number c) (class_number d)

-- after a repetition that may end in its separator stand the separator, which may be absent, and the end
abbrev pub is_ended_by : Class → Class → List Piece → Bool
is_ended_by separator end_token (Maybe c ∷ (Token d ∷ ps)) = same_class c separator && same_class d end_token
is_ended_by separator end_token _ = false

abbrev pub group_fits : Sort → Form → Repetition → Sort → ℕ → List Piece → Bool
group_fits own f (Ended separator end_token) due least ps = (elements_fit (Ended separator end_token) due least && parted (class_number separator ∷ (class_number end_token ∷ [])) (goes_on due least))
    && (is_ended_by separator end_token ps && not (nat_eq (class_number end_token) (class_number separator)))
group_fits own f r due least ps = elements_fit r due least && parted (opens own f ps) (group_goes_on r due least ++ absent_ends r due)

-- what follows a part does not go on with it
abbrev pub fitting : Sort → Form → List Piece → Bool
fitting own f [] = true
fitting own f (Token c ∷ ps) = fitting own f ps
fitting own f (Maybe c ∷ ps) = parted (opens own f ps) (class_number c ∷ []) && fitting own f ps
fitting own f (Own ∷ ps) = fitting own f ps
fitting own f (Then e ∷ ps) = fitting own f ps
fitting own f (One due least ∷ ps) = parted (opens own f ps) (goes_on (inside own due) least) && fitting own f ps
fitting own f (Group r due least ∷ ps) = group_fits own f r due least ps && fitting own f ps
fitting own f (_ ∷ ps) = false

-- ---- how deep nodes that do not count for the height lie in one another

-- the most of a sort, itself included
abbrev pub need : Sort → ℕ
need s.Literal = 1
need s.DeclaredId = 1
need s.Id = 2
need s.ParameterId = 2
need s.EnumeratorId = 2
need s.Spec = 2
need s.PlainSpec = 2
need s.Qualifier = 2
need s.Exp = 2
need s.Declarator = 2
need s.AbstractDeclarator = 2
need s.ParamDeclarator = 2
need s.MemberName = 2
need s.Init = 3
need s.Initializer = 4
need s.InitDeclarator = 5
need s.Decl = 6
need s.Item = 7
need s.BlockItem = 6
need s.Stmt = 3
need s.Block = 3
need s.ElsePart = 4
need s.MemberDeclarator = 4
need s.Width = 3
need s.Member = 5
need s.Members = 6
need s.EnumeratorValue = 3
need s.Enumerator = 4
need s.Enumerators = 5
need s.Params = 4
need s.Param = 3
need s.TypeName = 3
need _ = 0

-- the most of the parts
abbrev pub needs : Sort → List Piece → ℕ
needs own [] = 0
needs own (One due least ∷ ps) = max (need (inside own due)) (needs own ps)
needs own (Group r due least ∷ ps) = max (need due) (needs own ps)
needs own (p ∷ ps) = needs own ps

-- as many may lie in a part, where so many may lie in one that does not count
abbrev pub bound : Bool → ℕ → ℕ
bound true n = places
bound false n = n

abbrev pub needs_so : Sort → Form → Bool
needs_so due f = if is_starred f then nat_lt (needs due (pieces f)) (places + 1) else nat_lt (needs due (pieces f)) (need due)

-- ---- what is put aside is taken up again

abbrev pub is_balanced : ℕ → List Piece → Bool
is_balanced n [] = nat_eq n 0
is_balanced n (Then event.Aside ∷ ps) = is_balanced (suc n) ps
is_balanced n (Then event.Resume ∷ ps) = not (nat_eq n 0) && is_balanced (n - 1) ps
is_balanced n (Then event.Close ∷ ps) = not (nat_eq n 0) && is_balanced (n - 1) ps
is_balanced n (p ∷ ps) = is_balanced n ps

-- ---- rows

abbrev pub is_leveled : Sort → Bool
is_leveled s.Exp = true
is_leveled s.Declarator = true
is_leveled s.AbstractDeclarator = true
is_leveled s.ParamDeclarator = true
is_leveled s.MemberName = true
is_leveled _ = false

abbrev is_absent_form : Form → Bool
is_absent_form f = is_absent (forests.node f (spanned 0 0) [])

abbrev pub blank_fits : Sort → Form → Bool → Bool
blank_fits due f true = may_be_empty due && (is_calm due (pieces f) && (if is_nameless due then is_absent_form f else not (is_absent_form f)))
blank_fits due f false = true

-- what begins a form begins its sort
abbrev pub begins_so : Sort → Form → Bool
begins_so due f = reads due (pieces f) && (is_calm due (pieces f) && (within (opens due f (pieces f)) (starts due) && blank_fits due f (blank due Usual (pieces f))))

abbrev pub is_typed_list : Form → Bool
is_typed_list (form.Params params.Ids) = false
is_typed_list (form.Params f) = true
is_typed_list _ = false

-- and what goes on with it goes on with its sort
abbrev pub fits_so : Sort → Form → Bool
fits_so due f = fitting due f (pieces f) && within (follows due (pieces f)) (goes_on due 0)

-- the row of a form that is read as a sort
abbrev pub row_fits : Sort → Form → Bool
row_fits due f = (begins_so due f && is_balanced 0 (pieces f)) && (is_leveled due || (is_typed_list f || (fits_so due f && needs_so due f)))
