-- What the nodes of a valid tree of plain C hold, where it is known, is written.
use Rattle.std.proofs.Common.{◌≡◌, sym, subst, ℕ, true, ◌&&◌, List, [], ◌∷◌}
use Rattle.c_tokens.proofs.Tables.{and_true}
use Rattle.c_forms.specs.declared.pieces.Sort.{Sort}
use Rattle.c_forms.specs.declared.pieces.Sort.TheVariants as sort
use Rattle.c_forms.specs.declared.pieces.Piece.{Piece}
use Rattle.c_forms.specs.declared.pieces.Piece.TheVariants.{Token, Maybe, Own, TypeTokens, KindName, One, Group, Rest, Anything, Then}
use Rattle.c_forms.specs.declared.forms.Form.{Form}
use Rattle.c_forms.specs.Forests.{Plain, Forest, empty, tree}
use Rattle.c_forms.specs.Measures.{pieces, is_plain}
use Rattle.c_forms.specs.Places.{stands}
use Rattle.c_forms.specs.Fits.{all_stand, elements, fits}
use Rattle.c_forms.specs.Rules.{is_right}
use Rattle.c_forms.specs.Tokens.{held}
use Rattle.c_trees.specs.Valid.{valid, valid_tree}
use Rattle.c_trees.specs.Counts.{pure, pure_tree}
use Rattle.c_layout.specs.Marks.{separator_of, shape_of}
use Rattle.text_tokens.specs.Plain.{is_of_c, is_c}
use Rattle.text_tokens.specs.Written.{IsWrittenIfAny, AreWritten, TreeIsWritten}
use Rattle.text_tokens.proofs.Tidy.{is_fixed, is_spelled, spelled}
use Rattle.text_tokens.proofs.Standing.{stands-is_c, stands-list}
use Rattle.text_tokens.proofs.Free.{right-fits, elements-stand}
use Rattle.written_items.specs.Known.{IsKnownIfAny, HoldKnown, TreeHoldsKnown}
use Rattle.written_items.proofs.Held.{held_written}

module _ (names : List (List ℕ)) where
  abbrev NodeIsWritten : Form → Forest → Type 0
  NodeIsWritten f ps = IsWrittenIfAny names (held f) × AreWritten names ps

  -- each node of plain C in a forest
  abbrev NodesAreWritten : Forest → Type 0
  NodesAreWritten empty = Unit {0}
  NodesAreWritten (tree f s ps rest) = (is_c f ≡ true → NodeIsWritten f ps) × (NodesAreWritten ps × NodesAreWritten rest)

  elements_written : (due : Sort) (es : Forest) → is_of_c due ≡ true → all_stand due es ≡ true → pure es ≡ true → NodesAreWritten es → AreWritten names es
  elements_written due empty d h p n = tt
  elements_written due (tree f s ps rest) d h p n =
      let a = and_true (stands f due) (all_stand due rest) h in
      let b = and_true (is_plain f && pure ps) (pure rest) p in
      let w = n.0 (stands-is_c f due (and_true (is_plain f) (pure ps) b.0).0 d a.0) in
      (w.0, (w.1, elements_written due rest d a.1 b.1 n.1.1))

  list_written : (f : Form) → is_plain f ≡ true → stands f sort.List ≡ true → IsWrittenIfAny names (held f)
  list_written f p h = subst (λ f. IsWrittenIfAny names (held f)) (sym (stands-list f p h)) tt

  parts_written : (q : List Piece) (ts : Forest) → is_spelled q ≡ true → fits q ts ≡ true → pure ts ≡ true → NodesAreWritten ts → AreWritten names ts
  parts_written [] empty k h p n = tt
  parts_written [] (tree f s ps rest) k h p n = absurd cc
  parts_written (Token c ∷ q) ts k h p n = parts_written q ts (and_true (is_fixed (shape_of c)) (is_spelled q) k).1 h p n
  parts_written (Own ∷ q) ts k h p n = parts_written q ts k h p n
  parts_written (One due least ∷ q) empty k h p n = tt
  parts_written (One due least ∷ q) (tree f s ps rest) k h p n =
      let a = and_true (stands f due) (fits q rest) h in
      let b = and_true (is_plain f && pure ps) (pure rest) p in
      let c = and_true (is_of_c due) (is_spelled q) k in
      let w = n.0 (stands-is_c f due (and_true (is_plain f) (pure ps) b.0).0 c.0 a.0) in
      (w.0, (w.1, parts_written q rest c.1 a.1 b.1 n.1.1))
  parts_written (Group r due least ∷ q) empty k h p n = tt
  parts_written (Group r due least ∷ q) (tree f s es rest) k h p n =
      let a = and_true (stands f sort.List && elements r due es) (fits q rest) h in
      let l = and_true (stands f sort.List) (elements r due es) a.0 in
      let b = and_true (is_plain f && pure es) (pure rest) p in
      let e = and_true (is_plain f) (pure es) b.0 in
      let c = and_true (is_of_c due) (is_fixed (separator_of r) && is_spelled q) k in
      let d = and_true (is_fixed (separator_of r)) (is_spelled q) c.1 in
      (list_written f e.0 l.0, (elements_written due es c.0 (elements-stand r due es e.1 l.1) e.1 n.1.0, parts_written q rest d.1 a.1 b.1 n.1.1))
  parts_written (Maybe c ∷ q) ts k h p n = parts_written q ts k h p n
  parts_written (Then e ∷ q) ts k h p n = parts_written q ts k h p n
  parts_written (TypeTokens ∷ q) ts k h p n = parts_written q ts k h p n
  parts_written (KindName ∷ q) ts k h p n = parts_written q ts k h p n
  parts_written (Rest due ∷ q) ts k h p n = absurd cc
  parts_written (Anything ∷ q) ts k h p n = absurd cc

  node_written : (f : Form) (ps : Forest) → is_c f ≡ true → is_right f ps ≡ true → pure ps ≡ true → IsKnownIfAny names (held f) → NodesAreWritten ps → NodeIsWritten f ps
  node_written f ps c r p w n = (held_written names f c w, parts_written (pieces f) ps (spelled f c) (right-fits f ps r) p n)

  nodes_written : (t : Forest) → valid t ≡ true → pure t ≡ true → HoldKnown names t → NodesAreWritten t
  nodes_written empty v p w = tt
  nodes_written (tree f s ps rest) v p w =
      let a = and_true (is_right f ps && valid ps) (valid rest) v in
      let b = and_true (is_right f ps) (valid ps) a.0 in
      let c = and_true (is_plain f && pure ps) (pure rest) p in
      let d = and_true (is_plain f) (pure ps) c.0 in
      let n = nodes_written ps b.1 d.1 w.1.0 in
      ((λ k. node_written f ps k b.0 d.1 w.0 n), (n, nodes_written rest a.1 c.1 w.1.1))

  pub tree_written : (t : Plain) → is_c t.form ≡ true → valid_tree t ≡ true → pure_tree t ≡ true → TreeHoldsKnown names t → TreeIsWritten names t
  tree_written t c v p w =
      let a = and_true (is_right t.form t.parts) (valid t.parts) v in
      let b = and_true (is_plain t.form) (pure t.parts) p in
      node_written t.form t.parts c a.0 b.1 w.0 (nodes_written t.parts a.1 b.1 w.1)
