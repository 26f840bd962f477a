-- The tables of signs as tables of the definition.
use Rattle.std.specs.Prelude.{map, ◌++◌}
use Rattle.c_tokens.specs.declared.lexical.Dialect.{Dialect}
use Rattle.c_tokens.specs.declared.lexical.Dialect.TheVariants.{C90, C95}
use Rattle.c_tokens.specs.Spelling.{Table}
use Rattle.c_lexer.specs.declared.piece.Meaning.{Meaning}
use Rattle.c_lexer.specs.declared.tables.TheConstants.{SIGNS, OTHER_SIGNS}

abbrev pub sign_table : Table Meaning
sign_table = map (λ entry. (entry.0.now, entry.1)) SIGNS

abbrev pub other_sign_table : Table Meaning
other_sign_table = map (λ entry. (entry.0.now, entry.1)) OTHER_SIGNS

-- the signs of a dialect
abbrev pub signs_in : Dialect → Table Meaning
signs_in C90 = sign_table
signs_in C95 = other_sign_table ++ sign_table
