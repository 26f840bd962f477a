-- The end of the source is no token of a row.
use Rattle.std.specs.Prelude.{Bool, true, false, not, ◌&&◌, nat_eq, List, [], ◌∷◌, Option, Some, None}
use Rattle.c_tokens.specs.declared.class.Class.{Class}
use Rattle.c_tokens.specs.ClassNumbers.{class_number}
use Rattle.c_forms.specs.declared.pieces.Sort.{Sort}
use Rattle.c_forms.specs.declared.pieces.Sort.TheVariants as sort
use Rattle.c_forms.specs.declared.pieces.Repetition.{Repetition}
use Rattle.c_forms.specs.declared.pieces.Piece.{Piece}
use Rattle.c_forms.specs.declared.pieces.Piece.TheVariants.{Token, Maybe, Own, Group}
use Rattle.c_forms.specs.declared.forms.Form.{Form}
use Rattle.c_forms.specs.declared.forms.Form.TheVariants as form
use Rattle.c_forms.specs.declared.forms.DeclaratorForm.TheVariants as declarator
use Rattle.c_forms.specs.Sets.{has, held_class}
use Rattle.c_syntax.specs.Reading.{separator_of}

abbrev pub is_token : Class → Bool
is_token c = not (nat_eq (class_number c) 118)

abbrev pub all_tokens : Option Class → Bool
all_tokens (Some c) = is_token c
all_tokens None = true

-- whether the separator of a repetition is a token
abbrev pub is_sound : Repetition → Bool
is_sound r = all_tokens (separator_of r)

-- whether a piece of a form asks for no token that is the end of the source
abbrev pub piece_sound : Form → Piece → Bool
piece_sound f (Token c) = is_token c
piece_sound f (Maybe c) = is_token c
piece_sound f Own = not (has (held_class f) 118)
piece_sound f (Group r due least) = is_sound r
piece_sound f p = true

abbrev pub are_sound : Form → List Piece → Bool
are_sound f [] = true
are_sound f (p ∷ ps) = piece_sound f p && are_sound f ps

-- the elements of patterns may be any tokens
abbrev pub is_element : Form → Bool
is_element (form.Element f) = true
is_element f = false

-- ---- what may go on with a declarator

abbrev pub is_member_name : Sort → Bool
is_member_name sort.MemberName = true
is_member_name due = false

abbrev pub is_array : Form → Bool
is_array (form.Declarator declarator.ArrayOf) = true
is_array f = false
