-- Words, literals, specifiers, parameters and initializers that were read are spelled.
use Rattle.std.proofs.Common.{◌≡◌, refl, subst, ap, sym, ◌∙◌, ℕ, suc, ◌+◌, ◌<◌, ◌≤◌, nat_lt, Bool, true, false, List, Option, Some, None, Ok, arith}
use borrow.Author.Tests.{ltb-true}
use Rattle.c_tokens.specs.declared.token.Word.{Word}
use Rattle.c_tokens.specs.declared.token.Punct.TheVariants as punct
use Rattle.c_tokens.specs.declared.token.Shape.{Shape}
use Rattle.c_tokens.specs.declared.token.Shape.TheVariants as shape
use Rattle.c_tokens.specs.declared.class.Class.TheVariants as class
use Rattle.c_tokens.specs.ClassNumbers.{class_number}
use Rattle.c_forms.specs.declared.pieces.Event.TheVariants as event
use Rattle.c_forms.specs.declared.pieces.Sort.{Sort}
use Rattle.c_forms.specs.declared.pieces.Sort.TheVariants as s
use Rattle.c_forms.specs.declared.forms.Form.{Form}
use Rattle.c_forms.specs.declared.forms.Form.TheVariants as form
use Rattle.c_forms.specs.declared.forms.SpecForm.TheVariants as spec
use Rattle.c_forms.specs.declared.forms.InitForm.TheVariants as init
use Rattle.c_forms.specs.Forests.{Plain}
use Rattle.c_forms.specs.Measures.{level, pieces}
use Rattle.c_forms.specs.Sets.{has, starts, type_word}
use Rattle.c_forms.specs.Tokens.{begun}
use Rattle.c_reader.specs.States.{happens, noted}
use Rattle.c_reader.specs.Tokens.{Spot, step, turned, raw_at, seen_at, class_at}
use Rattle.c_reader.specs.Readers.{Input, Found, Refuse, read, choose, pick, next, change}
use Rattle.c_reader.proofs.Local.{from}
use Rattle.c_reader.proofs.Loops.{split, same_answer, same_place, same_pair}
use Rattle.c_reader.proofs.Sets.{both, same_class}
use Rattle.c_syntax.specs.Allowed.{may_stand}
use Rattle.c_syntax.specs.Reading.{Parts, is_starred, nothing, node}
use Rattle.c_syntax.specs.Grammar.{body, is_sign, is_value, is_word, whole, leaf_if, literal_of, identifier, declared_identifier, parameter_identifier, enumerator_identifier, literal, is_type_word, typedef_of, spec_of, specifier_by, specifier, initializer}
use Rattle.c_syntax.specs.Spells.{Spelling, AnyWord, ValueWord, after_name, may_be, IsNode, At}
use Rattle.c_syntax.proofs.Told.{levels, lower, In, Tells, Says, Calls, Inner}
use Rattle.c_syntax.proofs.Parts.{fine_first, Holds}
use Rattle.c_syntax.proofs.Nodes.{node_of, ok, whole_says, node_says, at_in}
use Rattle.c_syntax.proofs.Rows.{SpecsOf, lowest, spec_begun, plain_begun, qualifier_begun, begun_right, owned_by}

-- ---- words

-- a word was taken
record Leaf (f : Word → Form) (b : Bool) (i : ℕ) (y : Shape) (q : Input) (x : Found) (p : Input) : Type 0 where
  word : Word
  shape : y ≡ shape.Word word
  tree : x ≡ node (f word) i (i + 1) nothing
  placed : p ≡ next q
  on : b ≡ true

leaf_read : (f : Word → Form) (b : Bool) (i c : ℕ) (y : Shape) (q : Input) (x : Found) (p : Input) → pick (leaf_if b f i (record { shape = y; class = c })) q ≡ Ok (x, p) → Leaf f b i y q x p
leaf_read f true i c (shape.Word word) q x p h = record { word = word; shape = refl; tree = sym (same_answer (node (f word) i (i + 1) nothing) x (next q) p h); placed = sym (same_place (node (f word) i (i + 1) nothing) x (next q) p h); on = refl }
leaf_read f true i c _ q x p h = absurd (cc h)
leaf_read f false i c y q x p h = absurd (cc h)

module _ (d : ℕ) (w : List Shape) where
  leaf_says : (b : Bool) (i : Spot) (q : Input) (x : Found) (p : Input) (j : Spot) (T : ℕ → Spot → Type 0) → next q ≡ from w j → (AnyWord w x.tree i → b ≡ true → (n : ℕ) → T n j)
      → pick (leaf_if b form.Id i.place (seen_at w i)) q ≡ Ok (x, p) → Tells d w x.height T p
  leaf_says b i q x p j T e f h =
      let L = leaf_read form.Id b i.place (class_at w i) (raw_at w i.place) q x p h in
      record {
        place = j;
        placed = L.placed ∙ e;
        high = (let z : x.height ≡ 0 = ap (λ x. x.height) L.tree in omega arith);
        spelled = λ n le. f (L.word, (L.shape, ap (λ x. x.tree) L.tree)) L.on n;
      }

  pub id_says : (k least : ℕ) (i : Spot) (x : Found) (p : Input) → read body d identifier (from w i) ≡ Ok (x, p) → Says d w (λ n. In (suc k) n w s.Id least) i x p
  id_says k least i x p h = leaf_says (is_word (seen_at w i)) i (from w i) x p (step i) (λ n j. In (suc k) n w s.Id least x.tree i j) refl (λ W on n. at_in k n w s.Id least x.tree i (step i) (W, refl)) h

  pub declared_says : (k least : ℕ) (i : Spot) (x : Found) (p : Input) → read body d declared_identifier (from w i) ≡ Ok (x, p) → Says d w (λ n. In (suc k) n w s.DeclaredId least) i x p
  declared_says k least i x p h = leaf_says (is_value (seen_at w i)) i (from w (turned (noted (raw_at w i.place)) i)) x p (after_name w i) (λ n j. In (suc k) n w s.DeclaredId least x.tree i j) refl
      (λ W on n. at_in k n w s.DeclaredId least x.tree i (after_name w i) ((W, same_class (class_at w i) (class_number class.Word) on), refl)) h

  pub enumerator_says : (k least : ℕ) (i : Spot) (x : Found) (p : Input) → read body d enumerator_identifier (from w i) ≡ Ok (x, p) → Says d w (λ n. In (suc k) n w s.EnumeratorId least) i x p
  enumerator_says k least i x p h = leaf_says (is_word (seen_at w i)) i (from w (turned (noted (raw_at w i.place)) i)) x p (after_name w i) (λ n j. In (suc k) n w s.EnumeratorId least x.tree i j) refl
      (λ W on n. at_in k n w s.EnumeratorId least x.tree i (after_name w i) (W, refl)) h

  pub parameter_says : (k least : ℕ) (i : Spot) (x : Found) (p : Input) → read body d parameter_identifier (from w i) ≡ Ok (x, p) → Says d w (λ n. In (suc k) n w s.ParameterId least) i x p
  parameter_says k least i x p h =
      let a = split (read body d declared_identifier (from w i)) (λ x j. Ok (x, change (happens event.DeclareValue) j)) x p h in
      let S = leaf_says (is_value (seen_at w i)) i (from w (turned (noted (raw_at w i.place)) i)) a.value a.place (after_name w i) (λ n j. (j ≡ after_name w i) × ValueWord w a.value.tree i) refl
      (λ W on n. (refl, (W, same_class (class_at w i) (class_number class.Word) on))) a.first in
      subst (λ (y : Found × Input). Says d w (λ n. In (suc k) n w s.ParameterId least) i y.0 y.1) (same_pair a.value x (change (happens event.DeclareValue) a.place) p a.second) (record {
        place = turned (happens event.DeclareValue) S.place;
        placed = ap (change (happens event.DeclareValue)) S.placed;
        high = S.high;
        spelled = λ n le. let V = S.spelled n le in at_in k n w s.ParameterId least a.value.tree i (turned (happens event.DeclareValue) S.place) (V.1, ap (turned (happens event.DeclareValue)) (sym V.0));
      })

  text_read : (y : Shape) (i : ℕ) (q : Input) (x : Found) (p : Input) → pick (literal_of y i) q ≡ Ok (x, p) → (word : Word) × ((y ≡ shape.Str word) × ((node (form.Literal word) i (i + 1) nothing ≡ x) × (next q ≡ p)))
  text_read (shape.Str word) i q x p h = (word, (refl, (same_answer (node (form.Literal word) i (i + 1) nothing) x (next q) p h, same_place (node (form.Literal word) i (i + 1) nothing) x (next q) p h)))
  text_read _ i q x p h = absurd (cc h)

  pub literal_says : (k least : ℕ) (i : Spot) (x : Found) (p : Input) → read body d literal (from w i) ≡ Ok (x, p) → Says d w (λ n. In (suc k) n w s.Literal least) i x p
  literal_says k least i x p h =
      let L = text_read (raw_at w i.place) i.place (from w i) x p h in
      record {
        place = step i;
        placed = sym L.1.1.1;
        high = (let z : 0 ≡ x.height = ap (λ x. x.height) L.1.1.0 in omega arith);
        spelled = λ n le. at_in k n w s.Literal least x.tree i (step i) ((L.0, (L.1.0, sym (ap (λ x. x.tree) L.1.1.0))), refl);
      }

-- ---- specifiers

pub record Specifies (due : Sort) : Type 1 where
  pub facts : SpecsOf due
  pub typedef : (word : Word) → has (starts due) type_word ≡ true → may_be due (form.Spec (spec.Typedef word)) ≡ true
  pub at : (levels : Type 0) (deeper inner : Spelling) (w : List Shape) (least : ℕ) (t : Plain) (i j : Spot) → may_stand i.state t.form ≡ true → IsNode levels deeper inner w due least t i j → At levels deeper inner w due least t i j

pub specs : Specifies s.Spec
specs = record { facts = spec_begun; typedef = λ word e. refl; at = λ levels deeper inner w least t i j may N. (may, N) }

pub plain_specs : Specifies s.PlainSpec
plain_specs = record { facts = plain_begun; typedef = λ word e. refl; at = λ levels deeper inner w least t i j may N. (may, N) }

pub qualifiers : Specifies s.Qualifier
qualifiers = record { facts = qualifier_begun; typedef = λ word e. absurd (cc e); at = λ levels deeper inner w least t i j may N. N }

module _ (d : ℕ) (w : List Shape) (E : Calls d w) (inner : Parts) (IS : Inner d w inner) (k : ℕ) (least : ℕ) (low : least ≤ 17) where
  module _ (due : Sort) (D : Specifies due) where
    spec_of_form : (f : Form) (b : Bool) (i : Spot) (x : Found) (p : Input) → may_stand i.state f ≡ b → may_be due f ≡ true → 17 ≤ level f → fine_first (ok (is_starred f) 0) due (pieces f) ≡ true → Holds f (pieces f) (raw_at w i.place)
        → read body d (choose b (whole inner due f) Refuse) (from w i) ≡ Ok (x, p) → Says d w (λ n. In (suc k) n w due least) i x p
    spec_of_form f true i x p stand may tight F o h =
        let S = whole_says d w E inner IS 0 k (omega arith) due f i x p F o h in
        record {
          place = S.place;
          placed = S.placed;
          high = S.high;
          spelled = λ n le.
              let G = S.spelled n le in
              at_in k n w due least x.tree i S.place (D.at (levels n) (lower n w) (In k n w) w least x.tree i S.place (ap (λ t. may_stand i.state t.form) G.value ∙ stand) (node_of w due least f n k x.tree i S.place may (omega arith) G));
        }
    spec_of_form f false i x p stand may tight F o h = absurd (cc h)

    by_form : (i : Spot) (o : Option Form) (x : Found) (p : Input) → begun_right due 0 o ≡ true → 17 ≤ lowest due + 1 → owned_by o (raw_at w i.place) ≡ Some (raw_at w i.place) → read body d (specifier_by inner due i.state o) (from w i) ≡ Ok (x, p) → Says d w (λ n. In (suc k) n w due least) i x p
    by_form i (Some f) x p R top o h =
        let r = both (may_be due f) _ R in
        let e = both (nat_lt (lowest due) (level f)) _ r.1 in
        let high : lowest due < level f = ltb-true (lowest due) (level f) e.0 in
        spec_of_form f (may_stand i.state f) i x p refl r.0 (omega arith) e.1 o h
    by_form i None x p R top o h = absurd (cc h)

    by_typedef : (i : Spot) (y : Shape) (x : Found) (p : Input) → raw_at w i.place ≡ y → has (starts due) type_word ≡ true → read body d (specifier_by inner due i.state (typedef_of y)) (from w i) ≡ Ok (x, p) → Says d w (λ n. In (suc k) n w due least) i x p
    by_typedef i (shape.Word word) x p e b h = spec_of_form (form.Spec (spec.Typedef word)) (may_stand i.state (form.Spec (spec.Typedef word))) i x p refl (D.typedef word b) (omega arith) refl (ap Some (sym e)) h
    by_typedef i _ x p e b h = absurd (cc h)

    by_kind : (i : Spot) (b : Bool) (x : Found) (p : Input) → 17 ≤ lowest due + 1 → is_type_word (seen_at w i) ≡ b → has (starts due) (class_at w i) ≡ true → read body d (specifier_by inner due i.state (spec_of due b (seen_at w i))) (from w i) ≡ Ok (x, p) → Says d w (λ n. In (suc k) n w due least) i x p
    by_kind i true x p top e b h = by_typedef i (raw_at w i.place) x p refl (ap (has (starts due)) (sym (same_class (class_at w i) type_word e)) ∙ b) h
    by_kind i false x p top e b h = let F = D.facts (raw_at w i.place) i.state b in by_form i (begun due (raw_at w i.place)) x p F.0 top F.1 h

    by_begin : (i : Spot) (b : Bool) (x : Found) (p : Input) → 17 ≤ lowest due + 1 → has (starts due) (class_at w i) ≡ b → read body d (choose b (specifier_by inner due i.state (spec_of due (is_type_word (seen_at w i)) (seen_at w i))) Refuse) (from w i) ≡ Ok (x, p) → Says d w (λ n. In (suc k) n w due least) i x p
    by_begin i true x p top e h = by_kind i (is_type_word (seen_at w i)) x p top refl e h
    by_begin i false x p top e h = absurd (cc h)

    pub specifier_says : (i : Spot) (x : Found) (p : Input) → 17 ≤ lowest due + 1 → read body d (specifier inner due) (from w i) ≡ Ok (x, p) → Says d w (λ n. In (suc k) n w due least) i x p
    unfolding specifier
    specifier_says i x p top h = by_begin i (has (starts due) (class_at w i)) x p top refl h

  -- ---- initializers

  by_brace : (i : Spot) (b : Bool) (x : Found) (p : Input) → 2 ≤ k → read body d (choose b (whole inner s.Init (form.Init init.Braces)) (whole inner s.Init (form.Init init.One))) (from w i) ≡ Ok (x, p) → Says d w (λ n. In (suc k) n w s.Init least) i x p
  by_brace i true x p small h = let S = node_says d w E inner IS 0 k (omega arith) s.Init least (form.Init init.Braces) i x p refl low refl refl h in
      record { place = S.place; placed = S.placed; high = S.high; spelled = λ n le. at_in k n w s.Init least x.tree i S.place (S.spelled n le) }
  by_brace i false x p small h = let S = node_says d w E inner IS 2 k small s.Init least (form.Init init.One) i x p refl low refl refl h in
      record { place = S.place; placed = S.placed; high = S.high; spelled = λ n le. at_in k n w s.Init least x.tree i S.place (S.spelled n le) }

  pub init_says : (i : Spot) (x : Found) (p : Input) → 2 ≤ k → read body d (initializer inner) (from w i) ≡ Ok (x, p) → Says d w (λ n. In (suc k) n w s.Init least) i x p
  init_says i x p small h = by_brace i (is_sign punct.LeftBrace (seen_at w i)) x p small h
