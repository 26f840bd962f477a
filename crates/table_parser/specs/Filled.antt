-- A reader that puts the parts of pieces after others, piece by piece.
use Rattle.std.specs.Prelude.{◌≡◌, ◌≢◌, ℕ, Bool, true, false, List, [], ◌∷◌, Result, Ok, Err}
use Rattle.c_tokens.specs.ClassNumbers.{class_number}
use Rattle.c_forms.specs.declared.pieces.Sort.{Sort}
use Rattle.c_forms.specs.declared.pieces.Repetition.{Repetition}
use Rattle.c_forms.specs.declared.pieces.Repetition.TheVariants.{Ended}
use Rattle.c_forms.specs.declared.pieces.Piece.{Piece}
use Rattle.c_forms.specs.declared.pieces.Piece.TheVariants.{Token, Maybe, Own, TypeTokens, KindName, One, Group, Rest, Anything, Then}
use Rattle.c_forms.specs.declared.forms.Form.{Form}
use Rattle.c_forms.specs.Forests.{Plain}
use Rattle.c_forms.specs.Sets.{has, held_class}
use Rattle.c_reader.specs.declared.refusal.Refusal.{Refusal}
use Rattle.c_reader.specs.declared.refusal.Refusal.TheVariants.{Memory}
use Rattle.c_reader.specs.Readers.{Reader, Input, Outcome, Give, Refuse, Look, Next, Pick, Ask, Change, ◌>>=◌, ◌>>◌, choose, only, token}
use Rattle.c_syntax.specs.Allowed.{may_happen}
use Rattle.c_syntax.specs.Reading.{Parts, Listed, Before, Usual, Missing, Taken, one, joined, gathered, list_from, inside, before_by, is_absent, is_class}
use Rattle.table_parser.specs.declared.filling.Before.{Before as RustBefore}
use Rattle.table_parser.specs.declared.filling.Before.TheVariants as the_before
use Rattle.table_parser.specs.declared.filling.Filling.{Filling as RustFilling}
use Rattle.table_parser.specs.Founds.{is_none}
use Rattle.table_parser.specs.Nests.{read}

abbrev pub before_of : RustBefore → Before
before_of the_before.Usual = Usual
before_of the_before.Missing = Missing
before_of the_before.Taken = Taken

-- a list that may end in its separator is followed by no part that depends on it
abbrev pub before_after : Repetition → List Plain → Before
before_after (Ended separator end_token) trees = Usual
before_after r trees = before_by (is_none trees)

-- where the separator was read, the piece for it is skipped
abbrev pub skips : Repetition → Bool → Bool
skips (Ended separator end_token) is_ended = is_ended
skips r is_ended = false

-- the parts so far, what stood before the next piece, and whether that is skipped
pub record Filling : Type 0 where
  pub is_skipped : Bool
  pub before : Before
  pub done : Listed

abbrev pub filling_of : RustFilling → Listed → Filling
filling_of g done = record { is_skipped = g.is_skipped; before = before_of g.before; done = done }

abbrev pub going : Before → Listed → Filling
going before done = record { is_skipped = false; before = before; done = done }

abbrev pub by_piece : Parts → Sort → Form → Piece → Before → Listed → Reader Filling
by_piece part own f (Token c) before done = token (class_number c) >> Give (going Usual done)
by_piece part own f (Maybe c) before done = Look (λ x. choose (is_class c x) (Next (Give (going Usual done))) (Give (going Usual done)))
by_piece part own f Own before done = Pick (λ x. only (has (held_class f) x.class)) >> Give (going Usual done)
by_piece part own f (One due least) before done = part (inside own due) least >>= λ x. Give (going (before_by (is_absent x.tree)) (joined done (one x)))
by_piece part own f (Group r due least) before done = gathered r due (part due least) before
    >>= λ g. Give (record { is_skipped = skips r g.1.is_ended; before = before_after r g.1.trees; done = joined done (one (list_from g.0 g.1)) })
by_piece part own f (Then e) before done = Ask (λ i. choose (may_happen e i.state) (Change e (Give (going before done))) Refuse)
by_piece part own f TypeTokens before done = Refuse
by_piece part own f KindName before done = Refuse
by_piece part own f (Rest due) before done = Refuse
by_piece part own f Anything before done = Refuse

abbrev unless_skipped : Bool → Listed → Reader Filling → Reader Filling
unless_skipped true done r = Give (going Usual done)
unless_skipped false done r = r

unfoldable pub with_piece : Parts → Sort → Form → Piece → Filling → Reader Filling
with_piece part own f p g = unless_skipped g.is_skipped g.done (by_piece part own f p g.before g.done)

unfoldable pub filled : Parts → Sort → Form → List Piece → Filling → Reader Listed
filled part own f [] g = Give g.done
filled part own f (p ∷ ps) g = with_piece part own f p g >>= λ h. filled part own f ps h

-- what the pieces that are left answer
unfoldable pub parts_after : ℕ → Parts → Sort → Form → List Piece → Filling → Input → Outcome Listed
parts_after d part own f ps g i = read d (filled part own f ps g) i

-- what a function ensures that reads one piece and puts its parts after those of its caller
abbrev pub ReadsAs : Outcome Filling → Result RustFilling Refusal → Listed → Input → Type 0
ReadsAs outcome (Ok g) done new = outcome ≡ Ok (filling_of g done, new)
ReadsAs outcome (Err e) done new = e ≢ Memory → outcome ≡ Err e
