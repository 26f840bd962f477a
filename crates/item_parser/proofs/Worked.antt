-- The definitions at work: readings of declarations, and a token that no source has.
use Rattle.std.proofs.Common.{refl, List, [], ◌∷◌}
use Rattle.c_tokens.specs.declared.token.Key.TheVariants as k
use Rattle.c_tokens.specs.declared.token.Punct.TheVariants as p
use Rattle.c_tokens.specs.declared.token.Shape.{Shape}
use Rattle.c_tokens.specs.declared.token.Shape.TheVariants.{Key, Punct as Sign, Word}
use Rattle.c_forms.specs.Forests.{Plain}
use Rattle.scope_tables.specs.declared.table.WordClass.TheVariants.{TypeName}
use Rattle.scope_tables.specs.Frames.{Frame}
use Rattle.c_reader.specs.Readers.{loop}
use Rattle.c_syntax.specs.Reading.{element_after, others, many, gathered, pieces_in, completed}
use Rattle.c_syntax.specs.Grammar.{whole, climb, declarator_head, declarator_of, specifier, external, in_place}
use Rattle.item_parser.specs.Readings.{Reading, IsFirstDead}
use Rattle.item_parser.proofs.Answered.{is_spelled, is_first_dead}

-- one scope in which nothing is declared, and one in which the word 0 is a type
abbrev bare : List Frame
bare = [] ∷ []

abbrev typed : List Frame
typed = ((0, TypeName) ∷ []) ∷ []

-- `int a ;`
abbrev declared_int : List Shape
declared_int = Key k.Int ∷ Word (record { 0 = 1 }) ∷ Sign p.Semicolon ∷ []

-- `T a ;`
abbrev declared_so : List Shape
declared_so = Word (record { 0 = 0 }) ∷ Word (record { 0 = 1 }) ∷ Sign p.Semicolon ∷ []

an_integer : (t : Plain) × Reading 1000 bare declared_int 0 t 3
unfolding element_after others many gathered pieces_in completed whole climb declarator_head declarator_of specifier external in_place loop
an_integer = (_, is_spelled bare declared_int 0 _ _ refl)

of_a_type : (t : Plain) × Reading 1000 typed declared_so 0 t 3
unfolding element_after others many gathered pieces_in completed whole climb declarator_head declarator_of specifier external in_place loop
of_a_type = (_, is_spelled typed declared_so 0 _ _ refl)

-- where T is no type, no source has a word after it
of_no_type : IsFirstDead bare declared_so 0 1
unfolding pieces_in completed whole climb declarator_head declarator_of external in_place loop
of_no_type = is_first_dead bare declared_so 0 1 refl
