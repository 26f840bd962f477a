-- What the state of a declaration allows, and how deep nodes that do not count for the height lie in one another.
use Rattle.std.specs.Prelude.{ℕ, Bool, true, false, not, ◌&&◌, ◌||◌, is_some}
use Rattle.c_forms.specs.declared.pieces.Event.{Event}
use Rattle.c_forms.specs.declared.pieces.Event.TheVariants as event
use Rattle.c_forms.specs.declared.forms.Form.{Form}
use Rattle.c_forms.specs.Rules.{is_type, is_sole}
use Rattle.c_reader.specs.States.{State, is_function, is_bare, top}

-- Where a function's declarator is due, nothing but its parameters stands next to its name; and only where they do,
-- its body follows (ISO/IEC 9899:1990, 6.7.1).
abbrev pub may_happen : Event → State → Bool
may_happen event.Seal state = not (state.kept.is_function_due && is_bare state.kept.near)
may_happen event.Open state = is_function state
may_happen _ state = true

-- whether a type specifier, which allows no other or does, may be one more
abbrev pub fits_beside : State → Bool → Bool
fits_beside state true = not state.kept.has_type
fits_beside state false = not state.kept.is_sole

-- A structure, union, enumeration or typedef name stands where there is no other type specifier, and none stands beside it (6.5.2).
abbrev pub may_stand : State → Form → Bool
may_stand state f = not (is_type f) || fits_beside state (is_sole f)

-- the declarator whose parameters stand here has a name
abbrev pub has_name : State → Bool
has_name state = is_some (top state.aside).name

-- No more nodes that do not count for the height lie in one another: an item, its declaration, a declarator with its
-- initializer, the initializer, what it holds, the expression there, string literals, and one of these.
abbrev pub places : ℕ
places = 9
