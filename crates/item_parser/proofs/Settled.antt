-- The scopes of an item that was read are settled.
use Rattle.std.proofs.Common.{◌≡◌, ◌<◌, refl, ap, subst, ◌∙◌, ℕ, Bool, List, [], ◌∷◌, ◌++◌, length, arith}
use Rattle.c_tokens.specs.declared.token.Shape.{Shape}
use Rattle.c_tokens.specs.declared.token.Token.{Token}
use Rattle.c_forms.specs.declared.pieces.Sort.TheVariants as sort
use Rattle.c_forms.specs.Forests.{Plain, Forest, empty, tree}
use Rattle.c_reader.specs.States.{Entry, Edge}
use Rattle.c_reader.specs.Tokens.{spot}
use Rattle.scope_tables.specs.declared.table.WordClass.TheVariants.{TypeName, Value}
use Rattle.scope_tables.specs.Frames.{Frame, entered, declared}
use Rattle.reader_states.specs.Scopes.{entries_of, entries_in, first_late, lates_outside}
use Rattle.scopes.specs.Events.{events}
use Rattle.scopes.specs.Settling.{settled, Scoped}
use Rattle.spelled_scopes.specs.Meant.{frames}
use Rattle.spelled_scopes.specs.Agreement.{Alike, no_span, unspanned}
use Rattle.spelled_scopes.proofs.Scoping.{items_agree, alike_agree}
use Rattle.draft_trees.specs.Placing.{placed, placed_span, respanned}
use Rattle.item_parser.specs.Readings.{start, Reading}
use Rattle.item_parser.specs.Answers.{Settles}

-- ---- the entries of scopes mean these scopes

meant_in : (f : Frame) (es : List Entry) (outer : List Frame) → frames es ≡ [] ∷ outer → frames (entries_in f ++ es) ≡ f ∷ outer
meant_in [] es outer e = e
meant_in ((word, TypeName) ∷ f) es outer e = ap (declared word TypeName) (meant_in f es outer e)
meant_in ((word, Value) ∷ f) es outer e = ap (declared word Value) (meant_in f es outer e)

meant_alone : (f : Frame) → frames (entries_in f) ≡ f ∷ []
meant_alone [] = refl
meant_alone ((word, TypeName) ∷ f) = ap (declared word TypeName) (meant_alone f)
meant_alone ((word, Value) ∷ f) = ap (declared word Value) (meant_alone f)

meant : (fs : List Frame) (lates : List Bool) → 0 < length fs → frames (entries_of fs lates) ≡ fs
meant [] lates some = absurd (omega (arith, some))
meant (f ∷ []) lates some = meant_alone f
meant (f ∷ (g ∷ outer)) lates some = meant_in f (Edge (first_late lates) ∷ entries_of (g ∷ outer) (lates_outside lates)) (g ∷ outer) (ap entered (meant (g ∷ outer) (lates_outside lates) (omega arith)))

-- ---- spans play no part

unspanned_placed : (ts : List Token) (t : Forest) → unspanned t ≡ unspanned (respanned (placed_span ts) t)
unspanned_placed ts empty = refl
unspanned_placed ts (tree f s ps rest) = ap (λ u. tree f no_span u (unspanned rest)) (unspanned_placed ts ps) ∙ ap (λ u. tree f no_span (unspanned (respanned (placed_span ts) ps)) u) (unspanned_placed ts rest)

alike_placed : (ts : List Token) (t : Plain) → Alike t (placed ts t)
alike_placed ts t = (refl, unspanned_placed ts t.parts)

-- an item that has a reading is settled in the scopes
pub settles : (ts : List Token) (fs : List Frame) (w : List Shape) (at : ℕ) (t : Plain) (end : ℕ) → 0 < length fs → Reading 1000 fs w at t end → Settles fs (placed ts t)
settles ts fs w at t end some R = (
  frames R.after.entries,
  subst (λ f. settled (events (placed ts t)) f ≡ Scoped (frames R.after.entries)) (meant fs [] some)
      (alike_agree sort.Item items_agree 1000 w 0 t (placed ts t) (start fs at) (spot end R.after) (alike_placed ts t) R.spelled refl),
)
