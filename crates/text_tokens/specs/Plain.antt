-- Forms of plain C: neither of meta code nor of patterns.
use Rattle.std.specs.Prelude.{Bool, true, false, ◌&&◌}
use Rattle.c_forms.specs.declared.pieces.Sort.{Sort}
use Rattle.c_forms.specs.declared.pieces.Sort.TheVariants as s
use Rattle.c_forms.specs.declared.places.Occupant.{Occupant}
use Rattle.c_forms.specs.declared.places.Occupant.TheVariants as what
use Rattle.c_forms.specs.declared.forms.Form.{Form}
use Rattle.c_forms.specs.Measures.{is_plain}
use Rattle.c_forms.specs.Places.{occupant_of}

-- neither of meta code, nor of patterns, nor of groups without a token
abbrev pub is_of_c : Sort → Bool
is_of_c s.MetaExp = false
is_of_c s.Template = false
is_of_c s.Shape = false
is_of_c s.MetaStmt = false
is_of_c s.MetaBlock = false
is_of_c s.Local = false
is_of_c s.Element = false
is_of_c s.Binder = false
is_of_c s.Repeated = false
is_of_c s.Argument = false
is_of_c s.Round = false
is_of_c s.Rounds = false
is_of_c s.List = false
is_of_c s.Row = false
is_of_c s.MetaElsePart = false
is_of_c s.Assignment = false
is_of_c s.MetaValue = false
is_of_c s.MetaParam = false
is_of_c _ = true

abbrev pub is_of_c_as : Occupant → Bool
is_of_c_as (what.Sort sort) = is_of_c sort
is_of_c_as _ = false

-- a form of plain C, and no list of parts
abbrev pub is_c : Form → Bool
is_c f = is_plain f && is_of_c_as (occupant_of f)
