-- What the program's meanings stand for.
use Rattle.c_tokens.specs.Spelling as spelled
use Rattle.c_tokens.specs.Spelling.{Spelling, space, marker, token, refused}
use Rattle.c_tokens.specs.Literals as literal
use Rattle.c_lexer.specs.declared.piece.Meaning.{Meaning}
use Rattle.c_lexer.specs.declared.piece.Meaning.TheVariants as m
use Rattle.c_lexer.specs.declared.piece.Sort.{Sort}
use Rattle.c_lexer.specs.declared.piece.Sort.TheVariants as s
use Rattle.c_lexer.specs.declared.literals.Met.{Met}
use Rattle.c_lexer.specs.declared.literals.Met.TheVariants as met
use Rattle.c_lexer.specs.declared.literals.Ending.{Ending}
use Rattle.c_lexer.specs.declared.literals.Ending.TheVariants as ending

abbrev pub sort_by : Sort → spelled.Sort
sort_by (s.Key k) = spelled.keyword k
sort_by (s.Punct p) = spelled.punctuator p
sort_by (s.Mark a) = spelled.mark a
sort_by s.Word = spelled.word
sort_by s.Int = spelled.integer
sort_by s.Float = spelled.floating
sort_by s.Char = spelled.character
sort_by s.Str = spelled.string

abbrev pub spelling_by : Meaning → Spelling
spelling_by m.Space = space
spelling_by m.Marker = marker
spelling_by (m.Token sort) = token (sort_by sort)
spelling_by (m.Refused offset cause) = refused offset cause

abbrev pub met_by : Met → literal.Met
met_by met.Inside = literal.inside
met_by met.Closing = literal.closing
met_by (met.Spoiled cause) = literal.spoiled cause

abbrev pub ending_by : Ending → literal.Ending
ending_by (ending.Closed place) = record { place = place; found = literal.closing }
ending_by (ending.Spoiled place cause) = record { place = place; found = literal.spoiled cause }
