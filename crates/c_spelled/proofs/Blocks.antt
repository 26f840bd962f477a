-- What spells a declaration or a statement of a block is read (ISO/IEC 9899:1990, 6.6.2).
use Rattle.std.proofs.Common.{◌≡◌, ◌⊎◌, inl, inr, refl, subst, ap, sym, ◌∙◌, ℕ, ◌+◌, ◌<◌, ◌≤◌, not, Bool, true, false, ◌||◌, ◌&&◌, List, [], ◌∷◌, nat_eq, Ok, Err, arith}
use Rattle.std.proofs.lemmas.Bool.{and_from}
use Rattle.c_tokens.specs.declared.token.Punct.TheVariants as punct
use Rattle.c_tokens.specs.declared.token.Shape.{Shape}
use Rattle.c_tokens.specs.declared.token.Shape.TheVariants as shape
use Rattle.c_tokens.specs.declared.class.Class.TheVariants as class
use Rattle.c_tokens.specs.ClassNumbers.{class_number}
use Rattle.c_forms.specs.declared.pieces.Event.TheVariants as event
use Rattle.c_forms.specs.declared.pieces.Sort.TheVariants as s
use Rattle.c_forms.specs.declared.pieces.Piece.{Piece}
use Rattle.c_forms.specs.declared.forms.Form.TheVariants as form
use Rattle.c_forms.specs.Forests.{Plain}
use Rattle.c_forms.specs.Forests as forests
use Rattle.c_forms.specs.Measures.{pieces}
use Rattle.c_forms.specs.Sets.{Classes, has, starts, goes_on}
use Rattle.c_reader.specs.States.{class as class_in, happens}
use Rattle.c_reader.specs.Tokens.{Spot, step, turned, raw_at, seen_at, class_at}
use Rattle.c_reader.specs.Readers.{Input, Reader, Found, Body, Refuse, read, and_then, choose, ◌>>=◌}
use Rattle.c_reader.proofs.Local.{from}
use Rattle.c_reader.proofs.Sets.{both, same_class, either}
use Rattle.c_syntax.specs.Allowed.{places}
use Rattle.c_syntax.specs.Reading.{Parts, one, called, is_starred, spanned, Usual, completed}
use Rattle.c_syntax.specs.Grammar.{late, typedef_leaf, type_led, type_first, declaration_at, block_item, label, id_leaf, word_led, statement, after_part, is_sign, after_first, whole}
use Rattle.c_syntax.specs.Spells.{Spelling, Is, Matches, parts_spelled, IsNode, AnyWord}
use Rattle.c_spelled.specs.Fitting.{opens, need, is_typed_list}
use Rattle.c_spelled.proofs.Off.{Off, off}
use Rattle.c_spelled.proofs.Opens.{starts_so}
use Rattle.c_spelled.proofs.Begins.{AllBegin}
use Rattle.c_spelled.proofs.Groups.{Got}
use Rattle.c_spelled.proofs.Pieces.{AllRead}
use Rattle.c_spelled.proofs.Shapes.{is_punct}
use Rattle.c_spelled.proofs.Nodes.{Room, off_within, same_got, the_parts, complete_node}
use Rattle.c_reader.proofs.Loops.{same_place, split}
use Rattle.c_reader.specs.declared.refusal.Refusal.TheVariants.{Syntax}
use Rattle.c_spelled.proofs.Alone.{decl_form}
use Rattle.c_spelled.proofs.Groups.{GotAll, listed, all_read, over_read, starts_all, nothing_on}
use Rattle.c_spelled.proofs.Stmts.{AtWord, stmt_read, at_statement, at_worded}
use Rattle.c_forms.specs.declared.pieces.Repetition.TheVariants.{All}
use Rattle.c_forms.specs.Rules.{is_none}
use Rattle.c_spelled.proofs.Begins.{node_begins}
use Rattle.c_forms.specs.Sets.{type_word, element_starts, goes_on_with}
use Rattle.c_syntax.specs.Reading.{Gathered, before_by, element_after, others, none_at, with_last, list_from}
use Rattle.c_spelled.proofs.Nodes.{node_read}

abbrev only_type : Classes → Bool
only_type [] = true
only_type (c ∷ cs) = (not (has (starts s.Decl) c) || nat_eq c type_word) && only_type cs

type_alone : (a : Classes) (c : ℕ) → only_type a ≡ true → has a c ≡ true → has (starts s.Decl) c ≡ true → c ≡ type_word
type_alone [] c o h k = absurd (cc h)
type_alone (x ∷ a) c o h k = let b = both (not (has (starts s.Decl) x) || nat_eq x type_word) _ o in elim (either (nat_eq x c) (has a c) h) [
  | inl e ↦ let same : x ≡ c = same_class x c e in sym same ∙ same_class x type_word (by_has (has (starts s.Decl) x) (nat_eq x type_word) (ap (has (starts s.Decl)) same ∙ k) b.0)
  | inr e ↦ type_alone a c b.1 e k
]
  where
    by_has : (d t : Bool) → d ≡ true → (not d || t) ≡ true → t ≡ true
    by_has true t e h = h
    by_has false t e h = absurd (cc e)

by_false : (b : Bool) → (b ≡ true → ⊥) → b ≡ false
by_false true f = absurd (f refl)
by_false false f = refl

-- both a declaration and a statement begin with a type's name alone
both_type : (c : ℕ) → has (starts s.Stmt) c ≡ true → has (starts s.Decl) c ≡ true → c ≡ type_word
both_type c h k = type_alone (starts s.Stmt) c refl h k

-- a specifier that begins with a type's name is that
abbrev pub AtType : Body → ℕ → List Shape → Parts → Type 0
AtType body d w part = (i : Spot) (x : Found) (j : Input) → class_at w i ≡ type_word → read body d (part s.Spec 0) (from w i) ≡ Ok (x, j) → (x ≡ typedef_leaf i.place (raw_at w i.place)) × (j ≡ from w (turned (happens event.SoleType) (step i)))

module _ (body : Body) (d top : ℕ) (w : List Shape) (levels : Type 0) (room : Room levels d top) (n : ℕ) (deeper inner : Spelling) (part : Parts)
    (DB : AllBegin w deeper) (IB : AllBegin w inner) (DE : AllRead body d top w places deeper called) (IE : AllRead body d top w n inner part) (low : need s.BlockItem ≤ n + 1)
    (DI : (least : ℕ) (t : Plain) (i j : Spot) → deeper s.Id least t i j → AnyWord w t i × (step i ≡ j)) (EW : AtWord body d w part) (ET : AtType body d w part) where
  abbrev Goal : Plain → Spot → Spot → Type 0
  Goal t i j = Got (read body d (block_item part) (from w i)) top t w j

  at_item : (i : Spot) (b : Bool) → (not i.state.is_late && has (starts s.Decl) (class_at w i)) ≡ b → read body d (block_item part) (from w i) ≡ read body d (choose b (declaration_at part i.place (seen_at w i)) (late (statement part))) (from w i)
  unfolding block_item
  at_item i b e = ap (λ b. read body d (choose b (declaration_at part i.place (seen_at w i)) (late (statement part))) (from w i)) e

  abbrev third : Spot → Bool → Reader Found
  third i b = choose b (late (label i.place (id_leaf i.place (raw_at w i.place)))) (type_led part i.place (seen_at w i))

  at_type : (i : Spot) (b : Bool) → class_at w i ≡ type_word → is_sign punct.Colon (seen_at w (step i)) ≡ b → read body d (declaration_at part i.place (seen_at w i)) (from w i) ≡ read body d (third i b) (from w (step i))
  unfolding type_first
  at_type i b c e = ap (λ b. read body d (choose b (type_first part i.place (seen_at w i)) (whole part s.Decl form.Decl)) (from w i)) (ap (λ n. nat_eq n type_word) c)
      ∙ ap (λ b. read body d (third i b) (from w (step i))) e

  -- ---- declarations

  decl_whole : (t : Plain) (i j : Spot) → IsNode levels deeper inner w s.Decl 0 t i j → Got (read body d (whole part s.Decl form.Decl) (from w i)) top t w j
  decl_whole t i j N = let e = decl_form t.form N.may in same_got top w t t j _ _ (ap (λ f. read body d (whole part s.Decl f) (from w i)) (sym e)) refl
      (node_read body d top w levels room n deeper inner part DB IB DE IE s.Decl 0 t i j refl refl (ap is_typed_list e) low N (λ _. refl))

  abbrev Specs : Type 1
  Specs = Reader Gathered

  spec_begins : (t : Plain) (i j : Spot) → inner s.Spec 0 t i j → (has (starts s.Spec) (class_at w i) ≡ true) × (i.place < j.place)
  spec_begins t i j p = elim (IB s.Spec 0 t i j refl p) [ inl b ↦ b | inr x ↦ absurd (cc x.0) ]

  spec_read : (t : Plain) (i j : Spot) → inner s.Spec 0 t i j → Off (goes_on s.Spec 0) w j.place → Got (read body d (part s.Spec 0) (from w i)) top t w j
  spec_read t i j p o = IE s.Spec 0 t i j refl (omega (arith, low)) p o

  type_decl : (t : Plain) (i j : Spot) (parts : List Plain) → class_at w i ≡ type_word → t ≡ forests.node form.Decl (spanned i.place j.place) parts → Matches inner w s.Decl form.Decl Usual (pieces form.Decl) parts i j
      → Got (read body d (declaration_at part i.place (seen_at w i)) (from w i)) top t w j
  unfolding element_after
  type_decl t i j parts c value M =
      let us : List Plain = M.is_first.0 in
      let k : Spot = M.place in
      let rest : List Piece = after_first (pieces form.Decl) in
      let set : List ℕ = class_number (class.Punct punct.LeftBrace) ∷ (class_number (class.Punct punct.Colon) ∷ []) in
      let out : Off set w k.place = elim (starts_so w inner IB s.Decl form.Decl (before_by (is_none M.first.parts)) rest M.others k j refl M.are_others) [
        | inl x ↦ off (opens s.Decl form.Decl rest) set w k.place refl (record { state = x.state; isin = x.isin })
        | inr b ↦ absurd (cc b.may)
      ] in
      let A : GotAll (read body d (element_after (part s.Spec 0) (none_at i.place) >>= λ g. others All s.Spec (part s.Spec 0) g) (from w i)) top us false k.place w k =
      all_read body d top w s.Spec 0 (inner s.Spec 0) (part s.Spec 0) spec_begins spec_read All (λ c h. starts_all body d top w s.Spec 0 (inner s.Spec 0) (part s.Spec 0) spec_begins spec_read All c h) refl us i.place i k M.is_first.1.1.0
      (off_within (goes_on s.Spec 0) set w k.place refl out) (nothing_on body d top w s.Spec 0 (inner s.Spec 0) (part s.Spec 0) spec_begins spec_read (class_at w k) M.is_first.1.1.1) in
      let first = split (read body d (element_after (part s.Spec 0) (none_at i.place)) (from w i)) _ (listed us A.height k.place false) (from w k) A.reads in
      let spec = split (read body d (part s.Spec 0) (from w i)) _ first.value first.place first.first in
      let K = ET i spec.value spec.place c spec.first in
      let leaf : Found = typedef_leaf i.place (raw_at w i.place) in
      let q : Spot = turned (happens event.SoleType) (step i) in
      let g : Gathered = with_last (none_at i.place) leaf (i.place + 1) in
      let begun_at : read body d (element_after (part s.Spec 0) (none_at i.place)) (from w i) ≡ Ok (g, from w q) = ap (λ o. and_then o (λ x j. Ok (with_last (none_at i.place) x j.at.place, j))) (spec.first ∙ ap (λ x. Ok (x, spec.place)) K.0 ∙ ap (λ j. Ok (leaf, j)) K.1) in
      let left : read body d (others All s.Spec (part s.Spec 0) g) (from w q) ≡ Ok (listed us A.height k.place false, from w k) = sym (ap (λ o. and_then o (λ g j. read body d (others All s.Spec (part s.Spec 0) g) j)) begun_at) ∙ A.reads in
      let no_colon : is_sign punct.Colon (seen_at w (step i)) ≡ false = by_false (is_sign punct.Colon (seen_at w (step i))) (λ y.
      let colon : Is w (class.Punct punct.Colon) (step i) = same_class (class_at w (step i)) (class_number (class.Punct punct.Colon)) y in
      let raw : raw_at w q.place ≡ shape.Punct punct.Colon = is_punct i.state (raw_at w (i.place + 1)) punct.Colon colon in
      let at_q : class_at w q ≡ class_number (class.Punct punct.Colon) = ap (class_in q.state) raw in
      let over = over_read body d top w s.Spec 0 (inner s.Spec 0) (part s.Spec 0) spec_begins spec_read All g q (ap (has (goes_on_with All (element_starts All s.Spec))) at_q) in
      let here : from w q ≡ from w k = same_place g (listed us A.height k.place false) (from w q) (from w k) (sym over ∙ left) in
      let f : true ≡ false = sym (ap (has set) at_q) ∙ ap (λ (x : Input). has set (class_in q.state (raw_at w x.at.place))) here ∙ out q.state in cc f) in
      let P = the_parts body d top w levels room n deeper inner part DB IB DE IE s.Decl form.Decl rest M.others k j refl (omega (arith, low)) refl (λ _. refl) M.are_others in
      let list : Found = list_from i.place (listed us A.height k.place false) in
      let C : Got (read body d (completed part s.Decl form.Decl i.place (one list) rest) (from w k)) top (forests.node form.Decl (spanned i.place j.place) (list.tree ∷ M.others)) w j =
      complete_node body d top w levels room n deeper inner part DB IB DE IE s.Decl form.Decl i.place (one list) rest M.others k j tt A.low P in
      let same : t ≡ forests.node form.Decl (spanned i.place j.place) (list.tree ∷ M.others) = value ∙ ap (λ ps. forests.node form.Decl (spanned i.place j.place) ps) (M.value ∙ ap (λ t. t ∷ M.others) M.is_first.1.0) in
      same_got top w t (forests.node form.Decl (spanned i.place j.place) (list.tree ∷ M.others)) j _ _
      (at_type i false c no_colon ∙ ap (λ o. and_then o (λ g j. read body d (after_part part s.Decl form.Decl i.place (list_from i.place g)) j)) left) same C

  decl_item : (t : Plain) (i j : Spot) → i.state.is_late ≡ false → IsNode levels deeper inner w s.Decl 0 t i j → Goal t i j
  decl_item t i j l N = same_got top w t t j _ _ (at_item i true (and_from (not i.state.is_late) _ (ap not l) begun_decl)) refl (by_type (nat_eq (class_at w i) type_word) refl)
    where
      begun_decl : has (starts s.Decl) (class_at w i) ≡ true
      begun_decl = elim (node_begins levels deeper inner w DB IB s.Decl 0 t i j refl N) [ inl b ↦ b.0 | inr x ↦ absurd (cc x.0) ]

      by_type : (b : Bool) → nat_eq (class_at w i) type_word ≡ b → Got (read body d (declaration_at part i.place (seen_at w i)) (from w i)) top t w j
      by_type false e = same_got top w t t j _ _ (ap (λ b. read body d (choose b (type_first part i.place (seen_at w i)) (whole part s.Decl form.Decl)) (from w i)) e) refl (decl_whole t i j N)
      by_type true e = let f = decl_form t.form N.may in
          type_decl t i j N.parts (same_class (class_at w i) type_word e) (N.value ∙ ap (λ f. forests.node f (spanned i.place j.place) N.parts) f)
          (subst (λ f. Matches (parts_spelled (is_starred f) deeper inner) w s.Decl f Usual (pieces f) N.parts i j) f N.matches)

  -- ---- statements

  after_stmt : (t : Plain) (i m j : Spot) → turned (happens event.Statements) m ≡ j → (r : Reader Found) (k : Spot) → (G : Got (read body d r (from w k)) top t w m) → Got (read body d (late r) (from w k)) top t w j
  after_stmt t i m j e r k G = record {
    height = G.height;
    low = G.low;
    reads = ap (λ o. and_then o (λ x j. Ok (x, record j { at = turned (happens event.Statements) j.at }))) G.reads ∙ ap (λ k. Ok (record { tree = t; height = G.height }, from w k)) e;
  }

  stmt_item : (t : Plain) (i m j : Spot) → IsNode levels deeper inner w s.Stmt 0 t i m → turned (happens event.Statements) m ≡ j → Goal t i j
  stmt_item t i m j N e = by_decl (not i.state.is_late && has (starts s.Decl) (class_at w i)) refl
    where
      G : Got (read body d (statement part) (from w i)) top t w m
      G = stmt_read body d top w levels room n deeper inner part DB IB DE IE (omega (arith, low)) DI EW t i m N

      begun_stmt : has (starts s.Stmt) (class_at w i) ≡ true
      begun_stmt = elim (node_begins levels deeper inner w DB IB s.Stmt 0 t i m refl N) [ inl b ↦ b.0 | inr x ↦ absurd (cc x.0) ]

      by_label : class_at w i ≡ type_word → (b : Bool) → is_sign punct.Colon (seen_at w (step i)) ≡ b → Got (read body d (declaration_at part i.place (seen_at w i)) (from w i)) top t w j
      by_label c true y = same_got top w t t j _ _ (at_type i true c y) refl (after_stmt t i m j e (label i.place (id_leaf i.place (raw_at w i.place))) (step i)
          (record {
            height = G.height;
            low = G.low;
            reads = sym (at_statement body d top w levels room n deeper inner part DB IB DE IE (omega (arith, low)) DI EW i true (ap (λ n. nat_eq n 113 || nat_eq n type_word) c)
                ∙ at_worded body d top w levels room n deeper inner part DB IB DE IE (omega (arith, low)) DI EW i true y) ∙ G.reads;
          }))
      by_label c false y = absurd (let bad : Err (Syntax (step i).place) ≡ Ok (record { tree = t; height = G.height }, from w m) = sym (at_statement body d top w levels room n deeper inner part DB IB DE IE (omega (arith, low)) DI EW i true (ap (λ n. nat_eq n 113 || nat_eq n type_word) c)
          ∙ at_worded body d top w levels room n deeper inner part DB IB DE IE (omega (arith, low)) DI EW i false y
          ∙ ap (λ b. read body d (choose b (word_led part i.place (seen_at w i)) Refuse) (from w (step i))) (ap (λ n. nat_eq n 113) c)) ∙ G.reads in cc bad)

      by_decl : (b : Bool) → (not i.state.is_late && has (starts s.Decl) (class_at w i)) ≡ b → Goal t i j
      by_decl false y = same_got top w t t j _ _ (at_item i false y) refl (after_stmt t i m j e (statement part) i G)
      by_decl true y = same_got top w t t j _ _ (at_item i true y) refl (by_label (both_type (class_at w i) begun_stmt (both (not i.state.is_late) _ y).1) (is_sign punct.Colon (seen_at w (step i))) refl)

  pub block_item_read : (t : Plain) (i j : Spot) → ((i.state.is_late ≡ false) × IsNode levels deeper inner w s.Decl 0 t i j) ⊎ ((m : Spot) × (IsNode levels deeper inner w s.Stmt 0 t i m × (turned (happens event.Statements) m ≡ j)))
      → Got (read body d (block_item part) (from w i)) top t w j
  block_item_read t i j (inl D) = decl_item t i j D.0 D.1
  block_item_read t i j (inr S) = stmt_item t i S.0 j S.1.0 S.1.1
