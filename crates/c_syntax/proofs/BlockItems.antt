-- A declaration or a statement of a block that was read is spelled.
use Rattle.std.proofs.Common.{◌≡◌, inl, inr, refl, subst, ap, sym, ◌∙◌, ℕ, zero, suc, ◌+◌, ◌≤◌, Bool, true, false, not, ◌&&◌, List, [], Some, None, Ok, arith}
use Rattle.std.proofs.lemmas.Bool.{or_right}
use Rattle.c_tokens.specs.declared.token.Word.{Word}
use Rattle.c_tokens.specs.declared.token.Punct.TheVariants as punct
use Rattle.c_tokens.specs.declared.token.Shape.{Shape}
use Rattle.c_tokens.specs.declared.token.Shape.TheVariants as shape
use Rattle.c_forms.specs.declared.pieces.Event.TheVariants as event
use Rattle.c_forms.specs.declared.pieces.Sort.TheVariants as s
use Rattle.c_forms.specs.declared.pieces.Repetition.TheVariants.{All}
use Rattle.c_forms.specs.declared.forms.Form.TheVariants as form
use Rattle.c_forms.specs.Forests.{Plain}
use Rattle.c_forms.specs.Forests as forests
use Rattle.c_forms.specs.Measures.{pieces}
use Rattle.c_forms.specs.Sets.{has, starts, type_word}
use Rattle.c_reader.specs.States.{class, happens}
use Rattle.c_reader.specs.Tokens.{Spot, step, turned, raw_at, seen_at, class_at}
use Rattle.c_reader.specs.Readers.{Input, Reader, Found, read, here, change, choose, ◌>>=◌}
use Rattle.c_reader.proofs.Local.{from}
use Rattle.c_reader.proofs.Loops.{split, same_pair}
use Rattle.c_reader.proofs.Sets.{both, not_true, same_class, single}
use Rattle.c_reader.proofs.Seen.{seen_type, is_a_type}
use Rattle.c_syntax.specs.Reading.{Parts, none_at, with_last, others, list_from, the_list, spanned, one}
use Rattle.c_syntax.specs.Grammar.{body, is_sign, is_value, is_type_word, begins, whole, after_first, after_part, label, id_leaf, statement, late, typedef_leaf, type_led, type_first, declaration_at, block_item}
use Rattle.c_syntax.specs.Spells.{IsNode}
use Rattle.c_syntax.proofs.Told.{levels, lower, In, Says, Calls, CallsOpened, Inner}
use Rattle.c_syntax.proofs.Groups.{Chained, others_read, plain_end}
use Rattle.c_syntax.proofs.Nodes.{node_of, completed_says, node_says, at_in}
use Rattle.c_syntax.proofs.Statements.{label_says, statement_says}

-- the type that stands first
leaf_spelled : (w : List Shape) (i : Spot) (word : Word) (n m : ℕ) → raw_at w i.place ≡ shape.Word word → class_at w i ≡ type_word
    → In (suc m) n w s.Spec 0 (typedef_leaf i.place (shape.Word word)).tree i (turned (happens event.SoleType) (step i))
leaf_spelled w i word n m e c =
    let t = is_a_type i.state word (ap (class i.state) (sym e) ∙ c) in
    at_in m n w s.Spec 0 (typedef_leaf i.place (shape.Word word)).tree i (turned (happens event.SoleType) (step i))
    (ap not t.0, record { parts = []; value = refl; may = refl; tight = omega arith; left = tt; matches = ((ap Some (sym e), single type_word (class_at w i) c), (refl, (refl, refl))) })

module _ (d : ℕ) (w : List Shape) (E : Calls d w) (EO : CallsOpened d w) (inner : Parts) (IS : Inner d w inner) (m : ℕ) (small : 4 ≤ m) (least : ℕ) (low : least ≤ 17) where
  type_led_says : (i : Spot) (x : Found) (p : Input) → is_type_word (seen_at w i) ≡ true → read body d (type_led inner i.place (seen_at w i)) (from w (step i)) ≡ Ok (x, p)
      → Says d w (λ n t i j. IsNode (levels n) (lower n w) (In (suc m) n w) w s.Decl least t i j) i x p
  type_led_says i x p y h =
      let c : class_at w i ≡ type_word = same_class (class_at w i) type_word y in
      let W = seen_type i.state (raw_at w i.place) c in
      let a = split (read body d (others All s.Spec (inner s.Spec 0) (with_last (none_at i.place) (typedef_leaf i.place (shape.Word W.0)) (i.place + 1))) (from w (turned (happens event.SoleType) (step i))))
      (λ g j. read body d (after_part inner s.Decl form.Decl i.place (list_from i.place g)) j) x p
      (subst (λ y. read body d (others All s.Spec (inner s.Spec 0) (with_last (none_at i.place) (typedef_leaf i.place y) (i.place + 1)) >>= λ g. after_part inner s.Decl form.Decl i.place (list_from i.place g)) (from w (turned (happens event.SoleType) (step i))) ≡ Ok (x, p)) W.1 h) in
      let C : Chained d w (λ n. In (suc m) n w s.Spec 0) (inner s.Spec 0) (λ i x p h. IS (suc m) s.Spec 0 i x p refl (omega arith) h) None i (with_last (none_at i.place) (typedef_leaf i.place (shape.Word W.0)) (i.place + 1)) (from w (turned (happens event.SoleType) (step i))) =
      record {
        place = turned (happens event.SoleType) (step i);
        placed = refl;
        last = refl;
        open_end = refl;
        high = omega arith;
        spelled = λ n le. (zero, ((typedef_leaf i.place (shape.Word W.0)).tree, (refl, leaf_spelled w i W.0 n m W.1 c)));
      } in
      let O = others_read d w (λ n. In (suc m) n w s.Spec 0) (inner s.Spec 0) (λ i x p h. IS (suc m) s.Spec 0 i x p refl (omega arith) h) All s.Spec (λ x _. tt) i (with_last (none_at i.place) (typedef_leaf i.place (shape.Word W.0)) (i.place + 1)) a.value
      (from w (turned (happens event.SoleType) (step i))) a.place C a.first in
      let K = O.0 in
      let S = completed_says d w E inner IS 5 (suc m) (omega arith) s.Decl form.Decl i K.place (one (list_from i.place a.value)) (after_first (pieces form.Decl)) x p refl refl (λ e. absurd (cc e)) K.high
      (λ n le ts j M. record {
        first = (list_from i.place a.value).tree;
        others = ts;
        place = K.place;
        value = refl;
        is_first = (
          a.value.trees,
          (
            ap (λ q. forests.node the_list (spanned i.place q) a.value.trees) K.last,
            (K.spelled n le, plain_end d w (λ n. In (suc m) n w s.Spec 0) (inner s.Spec 0) (λ i x p h. IS (suc m) s.Spec 0 i x p refl (omega arith) h) s.Spec K.place (subst (λ q. has (starts s.Spec) (here q).class ≡ false) K.placed O.1)),
          ),
        );
        are_others = M;
      })
      (subst (λ k. read body d (after_part inner s.Decl form.Decl i.place (list_from i.place a.value)) k ≡ Ok (x, p)) K.placed a.second) in
      record { place = S.place; placed = S.placed; high = S.high; spelled = λ n le. node_of w s.Decl least form.Decl n (suc m) x.tree i S.place refl low (S.spelled n le) }

  declared : (i : Spot) (x : Found) (p : Input) → i.state.is_late ≡ false → Says d w (λ n t i j. IsNode (levels n) (lower n w) (In (suc m) n w) w s.Decl least t i j) i x p → Says d w (λ n. In (suc (suc m)) n w s.BlockItem least) i x p
  declared i x p early S = record { place = S.place; placed = S.placed; high = S.high; spelled = λ n le. at_in (suc m) n w s.BlockItem least x.tree i S.place (inl (early, S.spelled n le)) }

  late_says : (r : Reader Found) (i k : Spot) (x : Found) (p : Input)
      → ((x : Found) (p : Input) → read body d r (from w k) ≡ Ok (x, p) → Says d w (λ n t i j. IsNode (levels n) (lower n w) (In (suc m) n w) w s.Stmt least t i j) i x p)
      → read body d (late r) (from w k) ≡ Ok (x, p) → Says d w (λ n. In (suc (suc m)) n w s.BlockItem least) i x p
  late_says r i k x p R h =
      let a = split (read body d r (from w k)) (λ x j. Ok (x, change (happens event.Statements) j)) x p h in
      let S = R a.value a.place a.first in
      subst (λ (y : Found × Input). Says d w (λ n. In (suc (suc m)) n w s.BlockItem least) i y.0 y.1) (same_pair a.value x (change (happens event.Statements) a.place) p a.second) (record {
        place = turned (happens event.Statements) S.place;
        placed = ap (change (happens event.Statements)) S.placed;
        high = S.high;
        spelled = λ n le. at_in (suc m) n w s.BlockItem least a.value.tree i (turned (happens event.Statements) S.place) (inr (S.place, (S.spelled n le, refl)));
      })

  by_colon : (i : Spot) (b : Bool) (x : Found) (p : Input) → i.state.is_late ≡ false → is_type_word (seen_at w i) ≡ true
      → read body d (choose b (late (label i.place (id_leaf i.place (raw_at w i.place)))) (type_led inner i.place (seen_at w i))) (from w (step i)) ≡ Ok (x, p) → Says d w (λ n. In (suc (suc m)) n w s.BlockItem least) i x p
  by_colon i true x p early y h = late_says (label i.place (id_leaf i.place (raw_at w i.place))) i (step i) x p
      (λ x p h. label_says d w E EO inner IS m (omega arith) least low i x p (or_right (is_value (seen_at w i)) (is_type_word (seen_at w i)) y) h) h
  by_colon i false x p early y h = declared i x p early (type_led_says i x p y h)

  by_type : (i : Spot) (b : Bool) (x : Found) (p : Input) → i.state.is_late ≡ false → is_type_word (seen_at w i) ≡ b
      → read body d (choose b (type_first inner i.place (seen_at w i)) (whole inner s.Decl form.Decl)) (from w i) ≡ Ok (x, p) → Says d w (λ n. In (suc (suc m)) n w s.BlockItem least) i x p
  unfolding type_first
  by_type i true x p early e h = by_colon i (is_sign punct.Colon (seen_at w (step i))) x p early e h
  by_type i false x p early e h = declared i x p early (node_says d w E inner IS 5 (suc m) (omega arith) s.Decl least form.Decl i x p refl low refl refl h)

  by_begin : (i : Spot) (b : Bool) (x : Found) (p : Input) → (not i.state.is_late && begins s.Decl (seen_at w i)) ≡ b
      → read body d (choose b (declaration_at inner i.place (seen_at w i)) (late (statement inner))) (from w i) ≡ Ok (x, p) → Says d w (λ n. In (suc (suc m)) n w s.BlockItem least) i x p
  by_begin i true x p e h = by_type i (is_type_word (seen_at w i)) x p (not_true i.state.is_late (both (not i.state.is_late) (begins s.Decl (seen_at w i)) e).0) refl h
  by_begin i false x p e h = late_says (statement inner) i i x p (λ x p h. statement_says d w E EO inner IS m (omega arith) least low i x p h) h

  pub block_item_says : (i : Spot) (x : Found) (p : Input) → read body d (block_item inner) (from w i) ≡ Ok (x, p) → Says d w (λ n. In (suc (suc m)) n w s.BlockItem least) i x p
  unfolding block_item
  block_item_says i x p h = by_begin i (not i.state.is_late && begins s.Decl (seen_at w i)) x p refl h
