-- What the row of a form must meet, so that the next token decides all that its reader decides. It is computed.
use Rattle.std.specs.Prelude.{ℕ, Bool, true, false, not, ◌&&◌, ◌||◌, nat_lt, nat_eq, List, [], ◌∷◌, map, Option, Some, None, if◌then◌else◌}
use Rattle.c_tokens.specs.declared.token.Punct.{Punct}
use Rattle.c_tokens.specs.declared.token.Shape.{Shape}
use Rattle.c_tokens.specs.declared.token.Shape.TheVariants as shape
use Rattle.c_tokens.specs.declared.class.Class.{Class}
use Rattle.c_tokens.specs.declared.class.Class.TheVariants as class
use Rattle.c_tokens.specs.ClassNumbers.{class_number}
use Rattle.c_forms.specs.declared.pieces.Sort.{Sort}
use Rattle.c_forms.specs.declared.pieces.Sort.TheVariants as s
use Rattle.c_forms.specs.declared.pieces.Repetition.{Repetition}
use Rattle.c_forms.specs.declared.pieces.Repetition.TheVariants.{All, Any, Many, Spliced, Ended}
use Rattle.c_forms.specs.declared.pieces.Piece.{Piece}
use Rattle.c_forms.specs.declared.pieces.Piece.TheVariants.{Token, Maybe, Own, TypeTokens, KindName, One, Group, Rest, Anything, Then}
use Rattle.c_forms.specs.declared.pieces.Role.{Role}
use Rattle.c_forms.specs.declared.pieces.Role.TheVariants as role
use Rattle.c_forms.specs.declared.places.Occupant.{Occupant}
use Rattle.c_forms.specs.declared.places.Occupant.TheVariants as what
use Rattle.c_forms.specs.declared.forms.Form.{Form}
use Rattle.c_forms.specs.Equal.{one_form}
use Rattle.c_forms.specs.Rows.{row}
use Rattle.c_forms.specs.Measures.{level, pieces}
use Rattle.c_forms.specs.Places.{occupant_of, is_sort}
use Rattle.c_forms.specs.Tokens.{held, begun, continued}
use Rattle.c_forms.specs.Sets.{Classes, has, within, apart, starts, goes_on, part_goes_on, first, ends}

abbrev sort_as : Occupant → Sort
sort_as (what.Sort s.Num) = s.Exp
sort_as (what.Sort sort) = sort
sort_as _ = s.List

-- the sort as which a form is read
abbrev pub sort_of : Form → Sort
sort_of f = sort_as (occupant_of f)

-- a declarator inside one is of the same sort
abbrev inside : Sort → Sort → Sort
inside own s.InnerDeclarator = own
inside own due = due

abbrev piece_inside : Sort → Piece → Piece
piece_inside own (One due least) = One (inside own due) least
piece_inside own p = p

-- the pieces of a form where it is read as a sort
abbrev pub pieces_as : Sort → Form → List Piece
pieces_as own f = map (piece_inside own) (pieces f)

-- ---- the token that decides for a form finds it

abbrev shape_of : Class → Option Shape
shape_of (class.Key k) = Some (shape.Key k)
shape_of (class.Punct p) = Some (shape.Punct p)
shape_of (class.Mark m) = Some (shape.Mark m)
shape_of _ = None

abbrev is_found : Form → Option Form → Bool
is_found f (Some g) = one_form f g
is_found f None = false

abbrev begun_by : Sort → Option Shape → Option Form
begun_by due (Some t) = begun due t
begun_by due None = None

abbrev begins_with : Sort → Form → List Piece → Bool
begins_with own f (Token c ∷ ps) = is_found f (begun_by own (shape_of c))
begins_with own f (Own ∷ ps) = is_found f (begun_by own (held f))
begins_with own f _ = false

abbrev continued_by : Sort → Option Shape → Option Form
continued_by due (Some (shape.Punct p)) = continued due p
continued_by due _ = None

abbrev goes_on_by : Sort → Form → List Piece → Bool
goes_on_by own f (One due least ∷ (Token c ∷ ps)) = is_sort due own && is_found f (continued_by due (shape_of c))
goes_on_by own f (One due least ∷ (Own ∷ ps)) = is_sort due own && is_found f (continued_by due (held f))
goes_on_by own f _ = false

-- ---- levels

abbrev left_level : List Piece → ℕ
left_level (One due least ∷ ps) = least
left_level _ = 0

-- a form that may go on after a tree of level l does not go on with its last operand, of level k
abbrev is_clear : ℕ → ℕ → Option Form → Bool
is_clear l k None = true
is_clear l k (Some g) = not (nat_lt (level g) l || (nat_eq (level g) l && nat_eq (left_level (pieces g)) l)) || nat_lt (level g) k

abbrev all_clear : Sort → ℕ → ℕ → List Punct → Bool
all_clear due l k [] = true
all_clear due l k (p ∷ ps) = is_clear l k (continued due p) && all_clear due l k ps

-- ---- the pieces

-- after a separator, what follows ends the repetition
abbrev is_end : Class → Class → List Piece → Bool
is_end separator end_token (Token c ∷ (Token d ∷ ps)) = nat_eq (class_number c) (class_number separator) && nat_eq (class_number d) (class_number end_token)
is_end separator end_token (Maybe c ∷ (Token d ∷ ps)) = nat_eq (class_number c) (class_number separator) && nat_eq (class_number d) (class_number end_token)
is_end separator end_token _ = false

abbrev rest_goes_on : Repetition → Sort → ℕ → List Piece → Classes
rest_goes_on (Ended separator end_token) due least ps = if is_end separator end_token ps then goes_on due least else part_goes_on (Ended separator end_token) due least
rest_goes_on r due least ps = part_goes_on r due least

abbrev separated : Option Class → Classes → Bool
separated (Some c) elements = not (has elements (class_number c))
separated None elements = true

-- the token between two elements does not go on with the first
abbrev right_group : Repetition → Sort → ℕ → Bool
right_group (Many separator least) due l = separated separator (goes_on due l)
right_group (Spliced separator least) due l = separated separator (goes_on due l)
right_group (Ended separator end_token) due l = separated (Some separator) (goes_on due l) && not (has (starts due) (class_number end_token))
right_group All due l = apart (starts due) (goes_on due l)
right_group Any due l = apart (starts due) (goes_on due l)
right_group _ due l = true

-- what follows a part does not go on with it
abbrev pub fit : Form → List Piece → Bool
fit f [] = true
fit f (One due l ∷ ps) = apart (first f ps) (goes_on due l) && fit f ps
fit f (Group r due l ∷ ps) = right_group r due l && (apart (first f ps) (rest_goes_on r due l ps) && fit f ps)
fit f (Token c ∷ ps) = fit f ps
fit f (Maybe c ∷ ps) = fit f ps
fit f (Own ∷ ps) = fit f ps
fit f (TypeTokens ∷ ps) = fit f ps
fit f (KindName ∷ ps) = fit f ps
fit f (Then e ∷ ps) = fit f ps
fit f (Rest due ∷ ps) = true
fit f (Anything ∷ ps) = true

abbrev after_key : List Piece → List Piece
after_key (p ∷ (q ∷ ps)) = ps
after_key _ = []

abbrev is_leaf : List Piece → Bool
is_leaf (Own ∷ []) = true
is_leaf (Own ∷ (Then e ∷ [])) = true
is_leaf _ = false

abbrev is_led : List Piece → Bool
is_led (One s.Exp l ∷ ps) = nat_eq l 1
is_led (One s.MetaExp l ∷ ps) = nat_eq l 1
is_led _ = false

abbrev is_marked : List Piece → Bool
is_marked (Own ∷ (Token c ∷ ps)) = true
is_marked (One s.Id l ∷ (Token c ∷ ps)) = true
is_marked _ = false

abbrev is_entered : List Piece → Bool
is_entered (Token c ∷ (Then e ∷ (One s.TypeName l ∷ ps))) = true
is_entered (Token c ∷ (Token d ∷ (Then e ∷ (One s.TypeName l ∷ ps)))) = true
is_entered _ = false

-- what begins and goes on with a form is among what begins and goes on with its sort
abbrev is_within : Sort → Form → List Piece → Bool
is_within own f ps = within (first f ps) (starts own) && within (ends ps) (goes_on own (level f))

abbrev right_tail : Sort → Form → List Piece → Bool
right_tail own f ps = goes_on_by own f ps && (not (nat_lt (left_level ps) (level f)) && fit f (after_key ps))

abbrev are_events : List Piece → Bool
are_events [] = true
are_events (Then e ∷ ps) = are_events ps
are_events _ = false

-- the last operand, where it is of the form's own sort
abbrev last_clear : Sort → Form → List Punct → List Piece → Bool
last_clear own f all [] = true
last_clear own f all (One due k ∷ ps) = if are_events ps then not (is_sort due own) || all_clear own (level f) k all else last_clear own f all ps
last_clear own f all (p ∷ ps) = last_clear own f all ps

abbrev pub is_right_as : Role → Sort → Form → List Punct → List Piece → Bool
is_right_as role.Leafed own f all ps = is_leaf ps && begins_with own f ps
is_right_as role.Prefixed own f all ps = begins_with own f ps && (fit f ps && (last_clear own f all ps && is_within own f ps))
is_right_as role.Entered own f all ps = is_entered ps && (fit f ps && (last_clear own f all ps && is_within own f ps))
is_right_as role.Tailed own f all ps = right_tail own f ps && last_clear own f all (after_key ps)
is_right_as role.Led own f all ps = is_led ps && (fit f ps && is_within own f ps)
is_right_as role.Marked own f all ps = is_marked ps && fit f ps
is_right_as role.Declared own f all ps = fit f ps && is_within own f ps
is_right_as role.Due own f all ps = fit f ps && is_within own f ps
is_right_as role.Bare own f all ps = true
is_right_as role.Carried own f all ps = true

-- whether the row of a form is right where the form is read as a sort
abbrev pub is_right_row : List Punct → Sort → Form → Bool
is_right_row all own f = is_right_as (row f).role own f all (pieces_as own f)

-- the forms whose rows are not right
abbrev pub wrong : List Punct → List Form → List Form
wrong all [] = []
wrong all (f ∷ fs) = if is_right_row all (sort_of f) f then wrong all fs else f ∷ wrong all fs

-- the same where they are read as a sort
abbrev pub wrong_as : Sort → List Punct → List Form → List Form
wrong_as own all [] = []
wrong_as own all (f ∷ fs) = if is_right_row all own f then wrong_as own all fs else f ∷ wrong_as own all fs
