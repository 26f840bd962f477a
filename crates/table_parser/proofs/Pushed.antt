-- Parts after others, as the reader of the grammar puts them together.
use Rattle.std.proofs.Common.{◌≡◌, refl, sym, ap, ◌∙◌, ℕ, max, Bool, true, false, List, [], ◌∷◌, ◌++◌, Ok, Err, arith, append_assoc}
use Rattle.c_forms.specs.declared.pieces.Sort.{Sort}
use Rattle.c_forms.specs.declared.pieces.Repetition.{Repetition}
use Rattle.c_forms.specs.declared.pieces.Repetition.TheVariants.{Optional, Greedy, Due, All, Any, Many, Spliced, Ended}
use Rattle.c_forms.specs.declared.pieces.Piece.{Piece}
use Rattle.c_forms.specs.declared.pieces.Piece.TheVariants.{Token, Maybe, Own, TypeTokens, KindName, One, Group, Rest, Anything, Then}
use Rattle.c_forms.specs.declared.forms.Form.{Form}
use Rattle.c_forms.specs.Forests.{Plain}
use Rattle.c_reader.specs.declared.refusal.Refusal.{Refusal}
use Rattle.c_reader.specs.States.{happens}
use Rattle.c_reader.specs.Readers.{Reader, Found, Outcome, Input, Give, Refuse, Next, Change, and_then, choose, here, next, change}
use Rattle.c_syntax.specs.Allowed.{may_happen}
use Rattle.c_syntax.specs.Reading as Reading
use Rattle.c_syntax.specs.Reading.{Parts, Listed, Gathered, Before, nothing, one, joined, with_first, pieces_in, completed, gathered, list_from, is_class, before_by, is_absent}
use Rattle.table_parser.specs.Filled.{Filling, filled, with_piece, going, skips, before_after}
use Rattle.table_parser.specs.Founds.{is_none}
use Rattle.table_parser.specs.Nests.{read}

abbrev pub onto : Listed → Listed → Input → Outcome Listed
onto done g j = Ok (joined done g, j)

append-nil : {A : Type 0} (xs : List A) → xs ++ [] ≡ xs
append-nil [] = refl
append-nil (x ∷ xs) = ap (λ l. x ∷ l) (append-nil xs)

abbrev listed : List Plain → ℕ → Input → Outcome Listed
listed ts h j = Ok (record { trees = ts; height = h }, j)

same : (ts us : List Plain) (h k : ℕ) (j : Input) → ts ≡ us → h ≡ k → listed ts h j ≡ listed us k j
same ts us h k j e f = rw (e, f) refl

then_more : (done : Listed) (x : Found) (o : Outcome Listed) → and_then o (onto (joined done (one x))) ≡ and_then (and_then o (λ g j. Ok (with_first x g, j))) (onto done)
then_more done x (Ok p) = same _ _ _ _ p.1 (append_assoc done.trees (x.tree ∷ []) p.0.trees) (omega arith)
then_more done x (Err e) = refl

-- one part, and then the others
in_turn : {A : Type 0} (done : Listed) (o : Outcome A) (found : A → Found) (h : A → Input → Filling) (f : Filling → Input → Outcome Listed) (g : A → Input → Outcome Listed)
    → ((a : A) (j : Input) → f (h a j) j ≡ and_then (g a j) (onto (joined done (one (found a)))))
    → and_then (and_then o (λ a j. Ok (h a j, j))) f ≡ and_then (and_then o (λ a j. and_then (g a j) (λ h k. Ok (with_first (found a) h, k)))) (onto done)
in_turn done (Ok p) found h f g F = F p.0 p.1 ∙ then_more done (found p.0) (g p.0 p.1)
in_turn done (Err e) found h f g F = refl

after_token : {A : Type 0} (done : Listed) (o : Outcome A) (h : Filling) (f : Filling → Input → Outcome Listed) (g : Input → Outcome Listed)
    → ((j : Input) → f h j ≡ and_then (g j) (onto done)) → and_then (and_then o (λ _ j. Ok (h, j))) f ≡ and_then (and_then o (λ _ j. g j)) (onto done)
after_token done (Ok p) h f g F = F p.1
after_token done (Err e) h f g F = refl

maybe : (d : ℕ) (done : Listed) (b : Bool) (r s : Reader Filling) (f : Filling → Input → Outcome Listed) (q t : Reader Listed) (i : Input) → and_then (read d r i) f ≡ and_then (read d q i) (onto done)
    → and_then (read d s i) f ≡ and_then (read d t i) (onto done) → and_then (read d (choose b r s) i) f ≡ and_then (read d (choose b q t) i) (onto done)
maybe d done true r s f q t i e g = e
maybe d done false r s f q t i e g = g

module _ (d : ℕ) (part : Parts) (own : Sort) (f : Form) where
  abbrev filled_from : Bool → Before → List Piece → Listed → Input → Outcome Listed
  filled_from b before ps done j = read d (filled part own f ps (record { is_skipped = b; before = before; done = done })) j

  ended_last : (done : Listed) (b : Bool) (j : Input) → filled_from b Reading.Usual [] done j ≡ Ok (joined done nothing, j)
  unfolding filled
  ended_last done true j = same done.trees (done.trees ++ []) done.height (max done.height 0) j (sym (append-nil done.trees)) (omega arith)
  ended_last done false j = same done.trees (done.trees ++ []) done.height (max done.height 0) j (sym (append-nil done.trees)) (omega arith)

  ended_by : (p : Piece) (ps : List Piece) (done : Listed) (b : Bool) (j : Input)
      → filled_from false Reading.Usual ps done j ≡ and_then (read d (pieces_in part own f Reading.Usual ps) j) (onto done)
      → filled_from false Reading.Usual (p ∷ ps) done j ≡ and_then (read d (pieces_in part own f Reading.Usual (p ∷ ps)) j) (onto done)
      → filled_from b Reading.Usual (p ∷ ps) done j ≡ and_then (read d (choose b (pieces_in part own f Reading.Usual ps) (pieces_in part own f Reading.Usual (p ∷ ps))) j) (onto done)
  unfolding filled with_piece
  ended_by p ps done true j e h = e
  ended_by p ps done false j e h = h

  after_list : (r : Repetition) (due : Sort) (least : ℕ) (before : Before) (ps : List Piece) (done : Listed) (i : Input) (k : ℕ × Gathered → Input → Outcome Listed)
      → ((g : ℕ × Gathered) (j : Input) → filled_from (skips r g.1.is_ended) (before_after r g.1.trees) ps (joined done (one (list_from g.0 g.1))) j ≡ and_then (k g j) (onto (joined done (one (list_from g.0 g.1)))))
      → filled_from false before (Group r due least ∷ ps) done i ≡ and_then (and_then (read d (gathered r due (part due least) before) i) (λ g j. and_then (k g j) (λ h m. Ok (with_first (list_from g.0 g.1) h, m)))) (onto done)
  unfolding filled with_piece
  after_list r due least before ps done i k F = in_turn {A = ℕ × Gathered} done (read d (gathered r due (part due least) before) i) (λ g. list_from g.0 g.1) (λ g j. record { is_skipped = skips r g.1.is_ended; before = before_after r g.1.trees; done = joined done (one (list_from g.0 g.1)) }) (λ h j. read d (filled part own f ps h) j) k F

  pub pushed : (before : Before) (ps : List Piece) (done : Listed) (i : Input) → filled_from false before ps done i ≡ and_then (read d (pieces_in part own f before ps) i) (onto done)
  unfolding filled with_piece pieces_in
  pushed before [] done i = same done.trees (done.trees ++ []) done.height (max done.height 0) i (sym (append-nil done.trees)) (omega arith)
  pushed before (Token c ∷ ps) done i = after_token done _ (going Reading.Usual done) (λ h j. read d (filled part own f ps h) j) _ (λ j. pushed Reading.Usual ps done j)
  pushed before (Maybe c ∷ ps) done i = maybe d done (is_class c (here i)) (Next (Give (going Reading.Usual done))) (Give (going Reading.Usual done)) (λ h j. read d (filled part own f ps h) j) _ _ i (pushed Reading.Usual ps done (next i)) (pushed Reading.Usual ps done i)
  pushed before (Own ∷ ps) done i = after_token done _ (going Reading.Usual done) (λ h j. read d (filled part own f ps h) j) _ (λ j. pushed Reading.Usual ps done j)
  pushed before (One due least ∷ ps) done i = in_turn done _ (λ x. x) (λ x j. going (before_by (is_absent x.tree)) (joined done (one x))) (λ h j. read d (filled part own f ps h) j) _ (λ x j. pushed (before_by (is_absent x.tree)) ps (joined done (one x)) j)
  pushed before (Then e ∷ ps) done i = maybe d done (may_happen e i.at.state) (Change e (Give (going before done))) Refuse (λ h j. read d (filled part own f ps h) j) _ _ i (pushed before ps done (change (happens e) i)) refl
  pushed before (TypeTokens ∷ ps) done i = refl
  pushed before (KindName ∷ ps) done i = refl
  pushed before (Rest due ∷ ps) done i = refl
  pushed before (Anything ∷ ps) done i = refl
  pushed before (Group Optional due least ∷ ps) done i = after_list Optional due least before ps done i (λ g j. read d (pieces_in part own f (before_by (is_none g.1.trees)) ps) j) (λ g j. pushed (before_by (is_none g.1.trees)) ps (joined done (one (list_from g.0 g.1))) j)
  pushed before (Group Greedy due least ∷ ps) done i = after_list Greedy due least before ps done i (λ g j. read d (pieces_in part own f (before_by (is_none g.1.trees)) ps) j) (λ g j. pushed (before_by (is_none g.1.trees)) ps (joined done (one (list_from g.0 g.1))) j)
  pushed before (Group Due due least ∷ ps) done i = after_list Due due least before ps done i (λ g j. read d (pieces_in part own f (before_by (is_none g.1.trees)) ps) j) (λ g j. pushed (before_by (is_none g.1.trees)) ps (joined done (one (list_from g.0 g.1))) j)
  pushed before (Group All due least ∷ ps) done i = after_list All due least before ps done i (λ g j. read d (pieces_in part own f (before_by (is_none g.1.trees)) ps) j) (λ g j. pushed (before_by (is_none g.1.trees)) ps (joined done (one (list_from g.0 g.1))) j)
  pushed before (Group Any due least ∷ ps) done i = after_list Any due least before ps done i (λ g j. read d (pieces_in part own f (before_by (is_none g.1.trees)) ps) j) (λ g j. pushed (before_by (is_none g.1.trees)) ps (joined done (one (list_from g.0 g.1))) j)
  pushed before (Group (Many separator some) due least ∷ ps) done i = after_list (Many separator some) due least before ps done i (λ g j. read d (pieces_in part own f (before_by (is_none g.1.trees)) ps) j) (λ g j. pushed (before_by (is_none g.1.trees)) ps (joined done (one (list_from g.0 g.1))) j)
  pushed before (Group (Spliced separator some) due least ∷ ps) done i = after_list (Spliced separator some) due least before ps done i (λ g j. read d (pieces_in part own f (before_by (is_none g.1.trees)) ps) j) (λ g j. pushed (before_by (is_none g.1.trees)) ps (joined done (one (list_from g.0 g.1))) j)
  pushed before (Group (Ended separator end_token) due least ∷ []) done i = after_list (Ended separator end_token) due least before [] done i (λ g j. Ok (nothing, j)) (λ g j. ended_last (joined done (one (list_from g.0 g.1))) g.1.is_ended j)
  pushed before (Group (Ended separator end_token) due least ∷ (p ∷ ps)) done i = after_list (Ended separator end_token) due least before (p ∷ ps) done i
      (λ g j. read d (choose g.1.is_ended (pieces_in part own f Reading.Usual ps) (pieces_in part own f Reading.Usual (p ∷ ps))) j)
      (λ g j. ended_by p ps (joined done (one (list_from g.0 g.1))) g.1.is_ended j (pushed Reading.Usual ps (joined done (one (list_from g.0 g.1))) j) (pushed Reading.Usual (p ∷ ps) (joined done (one (list_from g.0 g.1))) j))

-- ---- nodes

abbrev pub node_over : Form → ℕ → Outcome Listed → Outcome Found
node_over f start o = and_then o (λ g j. Ok (Reading.node f start j.at.place g, j))

over_all : (f : Form) (start : ℕ) (done : Listed) (o : Outcome Listed) → and_then o (λ g j. Ok (Reading.node f start j.at.place (joined done g), j)) ≡ node_over f start (and_then o (onto done))
over_all f start done (Ok p) = refl
over_all f start done (Err e) = refl

module _ (d : ℕ) (part : Parts) (own : Sort) (f : Form) (start : ℕ) (done : Listed) (ps : List Piece) (i : Input) where
  completed_over : read d (completed part own f start done ps) i ≡ node_over f start (read d (filled part own f ps (going Reading.Usual done)) i)
  unfolding completed
  completed_over = over_all f start done (read d (pieces_in part own f Reading.Usual ps) i) ∙ ap (node_over f start) (sym (pushed d part own f Reading.Usual ps done i))

  pub completed_ok : (all : Listed) (j : Input) (x : Found) → read d (filled part own f ps (going Reading.Usual done)) i ≡ Ok (all, j) → x ≡ Reading.node f start j.at.place all
      → read d (completed part own f start done ps) i ≡ Ok (x, j)
  completed_ok all j x e h = completed_over ∙ ap (node_over f start) e ∙ ap (λ x. Ok (x, j)) (sym h)

  pub completed_broken : (x : Refusal) → read d (filled part own f ps (going Reading.Usual done)) i ≡ Err x → read d (completed part own f start done ps) i ≡ Err x
  completed_broken x e = completed_over ∙ ap (node_over f start) e

pub ruleset completions = (completed_ok, completed_broken)
