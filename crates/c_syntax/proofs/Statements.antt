-- A statement that was read is spelled.
use Rattle.std.proofs.Common.{◌≡◌, inl, inr, refl, subst, ap, sym, ℕ, suc, ◌+◌, ◌<◌, ◌≤◌, nat_lt, Bool, true, false, List, [], Option, Some, None, Ok, arith}
use borrow.Author.Tests.{ltb-true}
use Rattle.c_tokens.specs.declared.token.Word.{Word}
use Rattle.c_tokens.specs.declared.token.Punct.TheVariants as punct
use Rattle.c_tokens.specs.declared.token.Shape.{Shape}
use Rattle.c_tokens.specs.declared.token.Shape.TheVariants as shape
use Rattle.c_tokens.specs.declared.class.Class.TheVariants as class
use Rattle.c_tokens.specs.ClassNumbers.{class_number}
use Rattle.c_forms.specs.declared.pieces.Sort.TheVariants as s
use Rattle.c_forms.specs.declared.forms.Form.{Form}
use Rattle.c_forms.specs.declared.forms.Form.TheVariants as form
use Rattle.c_forms.specs.declared.forms.ExpForm.TheVariants as exp
use Rattle.c_forms.specs.declared.forms.StmtForm.TheVariants as stmt
use Rattle.c_forms.specs.Measures.{level}
use Rattle.c_forms.specs.Sets.{type_word}
use Rattle.c_forms.specs.Tokens.{begun}
use Rattle.c_reader.specs.Tokens.{Spot, step, raw_at, seen_at, class_at}
use Rattle.c_reader.specs.Readers.{Input, Found, Refuse, read, choose, ◌>>=◌}
use Rattle.c_reader.proofs.Local.{from}
use Rattle.c_reader.proofs.Loops.{split}
use Rattle.c_reader.proofs.Sets.{both, either, same_class, single}
use Rattle.c_reader.proofs.Seen.{seen_word, seen_type}
use Rattle.c_syntax.specs.Reading.{Parts, deeper}
use Rattle.c_syntax.specs.Grammar.{body, is_sign, is_value, is_word, is_type_word, whole, after_part, climb, label, name_leaf, id_leaf, word_led, worded, statement_by, statement, block}
use Rattle.c_syntax.specs.Spells.{IsNode}
use Rattle.c_syntax.proofs.Told.{levels, lower, In, Says, Calls, CallsOpened, Inner, lowered, spelled_in, roomy}
use Rattle.c_syntax.proofs.Nodes.{IsForm, node_of, as_node, after_says, whole_says, node_says, at_in}
use Rattle.c_syntax.proofs.Rows.{stmt_begun, begun_right, owned_by}
use Rattle.c_syntax.proofs.Climbs.{node_stands}
use Rattle.c_syntax.proofs.Expressions.{exp_leveled, goes_on}

-- what is seen as a word is one
pub is_a_word : (w : List Shape) (i : Spot) → is_word (seen_at w i) ≡ true → (word : Word) × (raw_at w i.place ≡ shape.Word word)
is_a_word w i e = elim (either (is_value (seen_at w i)) (is_type_word (seen_at w i)) e) [
  | inl v ↦ seen_word i.state (raw_at w i.place) (same_class (class_at w i) (class_number class.Word) v)
  | inr t ↦ seen_type i.state (raw_at w i.place) (same_class (class_at w i) type_word t)
]

module _ (d : ℕ) (w : List Shape) (E : Calls d w) (EO : CallsOpened d w) (inner : Parts) (IS : Inner d w inner) (m : ℕ) (small : 1 ≤ m) (least : ℕ) (low : least ≤ 17) where
  -- a statement, in place
  abbrev pub Stmt : Spot → Found → Input → Type 0
  Stmt i x p = Says d w (λ n t i j. IsNode (levels n) (lower n w) (In (suc m) n w) w s.Stmt least t i j) i x p

  word_part : (i : Spot) (word : Word) (n : ℕ) → raw_at w i.place ≡ shape.Word word → 0 + 1 ≤ n → lower n w s.Id 0 (id_leaf i.place (shape.Word word)).tree i (step i)
  word_part i word n e le = lowered w s.Id 0 (id_leaf i.place (shape.Word word)).tree i (step i) 0 n
      (λ n _. spelled_in n w s.Id 0 (id_leaf i.place (shape.Word word)).tree i (step i) (at_in 8 n w s.Id 0 (id_leaf i.place (shape.Word word)).tree i (step i) ((word, (e, refl)), refl))) le

  pub label_says : (i : Spot) (x : Found) (p : Input) → is_word (seen_at w i) ≡ true → read body d (label i.place (id_leaf i.place (raw_at w i.place))) (from w (step i)) ≡ Ok (x, p) → Stmt i x p
  label_says i x p y h =
      let W = is_a_word w i y in
      let v = roomy d 0 (nat_lt 0 d) _ (step i).place x p refl (subst (λ y. read body d (label i.place (id_leaf i.place y)) (from w (step i)) ≡ Ok (x, p)) W.1 h) in
      let S = after_says d w E inner IS 0 (suc m) (omega arith) s.Stmt (form.Stmt stmt.Label) s.Id 0 i (step i) (deeper (id_leaf i.place (shape.Word W.0))) x p refl refl refl refl (λ _. v.0) (omega (arith, v.0)) (λ n le. word_part i W.0 n W.1 le) v.1 in
      record { place = S.place; placed = S.placed; high = S.high; spelled = λ n le. node_of w s.Stmt least (form.Stmt stmt.Label) n (suc m) x.tree i S.place refl low (S.spelled n le) }

  name_form : (i : Spot) (word : Word) (n k : ℕ) → raw_at w i.place ≡ shape.Word word → class_at w i ≡ class_number class.Word → IsForm w s.Exp (form.Exp (exp.Name word)) n k (name_leaf i.place (shape.Word word)).tree i (step i)
  name_form i word n k e c = record { parts = []; value = refl; left = tt; matches = ((ap Some (sym e), single (class_number class.Word) (class_at w i) c), (refl, refl)) }

  name_says : (i : Spot) (word : Word) (k : ℕ) → raw_at w i.place ≡ shape.Word word → class_at w i ≡ class_number class.Word
      → Says d w (λ n t i j. IsForm w s.Exp (form.Exp (exp.Name word)) n k t i j) i (name_leaf i.place (shape.Word word)) (from w (step i))
  name_says i word k e c = record { place = step i; placed = refl; high = omega arith; spelled = λ n le. name_form i word n k e c }

  word_led_says : (i : Spot) (x : Found) (p : Input) → is_value (seen_at w i) ≡ true → read body d (word_led inner i.place (seen_at w i)) (from w (step i)) ≡ Ok (x, p) → Stmt i x p
  word_led_says i x p v h =
      let c : class_at w i ≡ class_number class.Word = same_class (class_at w i) (class_number class.Word) v in
      let W = seen_word i.state (raw_at w i.place) c in
      let a = split (read body d (climb s.Exp 1 i.place (record { found = name_leaf i.place (shape.Word W.0); level = 17 })) (from w (step i))) (λ y j. read body d (after_part inner s.Stmt (form.Stmt stmt.Express) i.place y) j) x p
      (subst (λ y. read body d (climb s.Exp 1 i.place (record { found = name_leaf i.place y; level = 17 }) >>= λ y. after_part inner s.Stmt (form.Stmt stmt.Express) i.place y) (from w (step i)) ≡ Ok (x, p)) W.1 h) in
      let T = node_stands d w E inner IS s.Exp exp_leveled m 1 (form.Exp (exp.Name W.0)) i (name_leaf i.place (shape.Word W.0)) (from w (step i)) refl (omega arith) (name_says i W.0 m W.1 c) (name_says i W.0 8 W.1 c) in
      let K = goes_on d w E EO inner IS m small 1 i (record { found = name_leaf i.place (shape.Word W.0); level = 17 }) (from w (step i)) a.value a.place T a.first in
      let S = after_says d w E inner IS 0 (suc m) (omega arith) s.Stmt (form.Stmt stmt.Express) s.Exp 1 i K.place a.value x p refl refl refl refl (λ e. absurd (cc e)) K.high (λ n le. (K.spelled n le).0)
      (subst (λ k. read body d (after_part inner s.Stmt (form.Stmt stmt.Express) i.place a.value) k ≡ Ok (x, p)) K.placed a.second) in
      record { place = S.place; placed = S.placed; high = S.high; spelled = λ n le. node_of w s.Stmt least (form.Stmt stmt.Express) n (suc m) x.tree i S.place refl low (S.spelled n le) }

  by_value : (i : Spot) (b : Bool) (x : Found) (p : Input) → is_value (seen_at w i) ≡ b → read body d (choose b (word_led inner i.place (seen_at w i)) Refuse) (from w (step i)) ≡ Ok (x, p) → Stmt i x p
  by_value i true x p e h = word_led_says i x p e h
  by_value i false x p e h = absurd (cc h)

  by_colon : (i : Spot) (b : Bool) (x : Found) (p : Input) → is_word (seen_at w i) ≡ true
      → read body d (choose b (label i.place (id_leaf i.place (raw_at w i.place))) (choose (is_value (seen_at w i)) (word_led inner i.place (seen_at w i)) Refuse)) (from w (step i)) ≡ Ok (x, p) → Stmt i x p
  by_colon i true x p y h = label_says i x p y h
  by_colon i false x p y h = by_value i (is_value (seen_at w i)) x p refl h

  by_begun : (i : Spot) (o : Option Form) (x : Found) (p : Input) → begun_right s.Stmt 2 o ≡ true → owned_by o (raw_at w i.place) ≡ Some (raw_at w i.place) → read body d (statement_by inner o) (from w i) ≡ Ok (x, p) → Stmt i x p
  by_begun i (Some f) x p R o h =
      let r = both _ _ R in
      let e = both (nat_lt 16 (level f)) _ r.1 in
      let high : 16 < level f = ltb-true 16 (level f) e.0 in
      node_says d w E inner IS 2 (suc m) (omega arith) s.Stmt least f i x p r.0 (omega arith) e.1 o h
  by_begun i None x p R o h = node_says d w E inner IS 2 (suc m) (omega arith) s.Stmt least (form.Stmt stmt.Express) i x p refl low refl refl h

  by_word : (i : Spot) (b : Bool) (x : Found) (p : Input) → is_word (seen_at w i) ≡ b → read body d (choose b (worded inner i.place (seen_at w i)) (statement_by inner (begun s.Stmt (raw_at w i.place)))) (from w i) ≡ Ok (x, p) → Stmt i x p
  unfolding worded
  by_word i true x p e h = by_colon i (is_sign punct.Colon (seen_at w (step i))) x p e h
  by_word i false x p e h = let F = stmt_begun (raw_at w i.place) in by_begun i (begun s.Stmt (raw_at w i.place)) x p F.0 F.1 h

  pub statement_says : (i : Spot) (x : Found) (p : Input) → read body d (statement inner) (from w i) ≡ Ok (x, p) → Stmt i x p
  unfolding statement
  statement_says i x p h = by_word i (is_word (seen_at w i)) x p refl h

-- a compound statement
module _ (d : ℕ) (w : List Shape) (E : Calls d w) (inner : Parts) (IS : Inner d w inner) (k : ℕ) (least : ℕ) (low : least ≤ 17) where
  by_brace : (i : Spot) (b : Bool) (x : Found) (p : Input) → read body d (choose b (whole inner s.Stmt (form.Stmt stmt.Block)) Refuse) (from w i) ≡ Ok (x, p) → Says d w (λ n. In (suc k) n w s.Block least) i x p
  by_brace i true x p h = let S = whole_says d w E inner IS 0 k (omega arith) s.Stmt (form.Stmt stmt.Block) i x p refl refl h in
      record { place = S.place; placed = S.placed; high = S.high; spelled = λ n le. at_in k n w s.Block least x.tree i S.place (as_node w s.Stmt s.Block least (form.Stmt stmt.Block) n k x.tree i S.place (λ ts M. M) refl low (S.spelled n le)) }
  by_brace i false x p h = absurd (cc h)

  pub block_says : (i : Spot) (x : Found) (p : Input) → read body d (block inner) (from w i) ≡ Ok (x, p) → Says d w (λ n. In (suc k) n w s.Block least) i x p
  block_says i x p h = by_brace i (is_sign punct.LeftBrace (seen_at w i)) x p h
