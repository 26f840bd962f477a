-- Separators of elements.
use Rattle.std.proofs.Common.{◌≡◌, ◌≢◌, ℕ, true, not, [], ◌∷◌, Some, None, is_some, nat_eq, arith}
use Rattle.c_tokens.specs.ClassNumbers.{class_number}
use Rattle.c_forms.specs.declared.pieces.Sort.{Sort}
use Rattle.c_forms.specs.declared.pieces.Repetition.{Repetition}
use Rattle.c_forms.specs.declared.pieces.Repetition.TheVariants.{Optional, Greedy, Due, All, Any, Many, Spliced, Ended}
use Rattle.c_forms.specs.Sets.{has}
use Rattle.c_reader.specs.States.{Seen}
use Rattle.c_syntax.specs.Reading.{Gathered, goes, separator_of}
use Rattle.table_parser.specs.Sound.{is_sound}

no_end : (a c : ℕ) → not (nat_eq a 118) ≡ true → has (a ∷ []) c ≡ true → c ≢ 118
no_end a c s h = grind arith

-- a list goes on with a token where it has a separator
pub separator_token : (r : Repetition) (due : Sort) (g : Gathered) (x : Seen) → goes r due g x ≡ true → is_sound r ≡ true → is_some (separator_of r) ≡ true → x.class ≢ 118
separator_token (Many (Some c) least) due g x h s e = no_end (class_number c) x.class s h
separator_token (Spliced (Some c) least) due g x h s e = no_end (class_number c) x.class s h
separator_token (Ended c end_token) due g x h s e = no_end (class_number c) x.class s h
separator_token (Many None least) due g x h s e = grind (arith, e)
separator_token (Spliced None least) due g x h s e = grind (arith, e)
separator_token Optional due g x h s e = grind (arith, e)
separator_token Greedy due g x h s e = grind (arith, e)
separator_token Due due g x h s e = grind (arith, e)
separator_token All due g x h s e = grind (arith, e)
separator_token Any due g x h s e = grind (arith, e)
