-- What spells a statement is read (ISO/IEC 9899:1990, 6.6).
use Rattle.std.proofs.Common.{◌≡◌, inl, inr, refl, subst, ap, sym, ◌∙◌, ℕ, ◌+◌, ◌≤◌, not, Bool, true, false, ◌||◌, ◌&&◌, List, length, [], ◌∷◌, nat_eq, Some, None, Ok, arith}
use Rattle.std.proofs.lemmas.Bool.{lt-ltb}
use Rattle.c_tokens.specs.declared.token.Key.TheVariants as key
use Rattle.c_tokens.specs.declared.token.Punct.TheVariants as punct
use Rattle.c_tokens.specs.declared.token.Shape.{Shape}
use Rattle.c_tokens.specs.declared.token.Shape.TheVariants as shape
use Rattle.c_tokens.specs.declared.class.Class.TheVariants as class
use Rattle.c_tokens.specs.ClassNumbers.{class_number}
use Rattle.c_forms.specs.declared.pieces.Sort.TheVariants as s
use Rattle.c_forms.specs.declared.forms.Form.{Form}
use Rattle.c_forms.specs.declared.forms.Form.TheVariants as form
use Rattle.c_forms.specs.declared.forms.StmtForm.TheVariants as stmt
use Rattle.c_forms.specs.Forests.{Plain}
use Rattle.c_forms.specs.Forests as forests
use Rattle.c_forms.specs.Measures.{pieces}
use Rattle.c_forms.specs.Tokens.{begun}
use Rattle.c_forms.specs.Sets.{has, starts, goes_on}
use Rattle.c_reader.specs.States.{State, seen, class as class_in}
use Rattle.c_reader.specs.Tokens.{Spot, step, raw_at, seen_at, class_at}
use Rattle.c_reader.specs.Readers.{Input, Reader, Found, Body, Refuse, read, and_then, choose, when}
use Rattle.c_reader.proofs.Local.{from}
use Rattle.c_reader.proofs.Sets.{single, same_class, either}
use Rattle.c_syntax.specs.Allowed.{places}
use Rattle.c_syntax.specs.Reading.{Parts, nothing, one, node, deeper as deeper_one, called, is_starred, spanned, Usual, completed}
use Rattle.c_syntax.specs.Grammar.{is_word, is_value, label, name_leaf, id_leaf, word_led, worded, statement_by, statement, after_part, Standing, is_sign, after_first, is_tail, continued_by, whole, climb}
use Rattle.c_syntax.specs.Spells.{Spelling, Is, Matches, Levels, parts_spelled, IsNode, may_be, AnyWord}
use Rattle.c_spelled.specs.Fitting.{need, is_typed_list}
use Rattle.c_spelled.proofs.Off.{Off, on_here, off}
use Rattle.c_spelled.proofs.Begins.{AllBegin}
use Rattle.c_spelled.proofs.Groups.{Got}
use Rattle.c_spelled.proofs.Pieces.{AllRead, is_it}
use Rattle.c_spelled.proofs.Shapes.{is_punct, is_key}
use Rattle.c_spelled.proofs.Nodes.{Room, same_got, the_parts, complete_node}
use Rattle.c_forms.specs.declared.forms.StmtForm.{StmtForm}
use Rattle.c_reader.specs.States.{is_type}
use Rattle.c_reader.proofs.Loops.{same_place}
use Rattle.c_spelled.proofs.Alone.{stmt_is}
use Rattle.c_spelled.proofs.Nodes.{node_read, a_word}
use Rattle.c_spelled.proofs.Climb.{turns, turn_off}
use Rattle.c_spelled.proofs.Turns.{stay, stop}

-- what begins an expression is no statement's own token
no_stmt : (state : State) (x : Shape) → has (starts s.Exp) (class_in state x) ≡ true → begun s.Stmt x ≡ None
no_stmt state (shape.Key key.Case) h = absurd (cc h)
no_stmt state (shape.Key key.Default) h = absurd (cc h)
no_stmt state (shape.Key key.If) h = absurd (cc h)
no_stmt state (shape.Key key.Switch) h = absurd (cc h)
no_stmt state (shape.Key key.While) h = absurd (cc h)
no_stmt state (shape.Key key.Do) h = absurd (cc h)
no_stmt state (shape.Key key.For) h = absurd (cc h)
no_stmt state (shape.Key key.Goto) h = absurd (cc h)
no_stmt state (shape.Key key.Continue) h = absurd (cc h)
no_stmt state (shape.Key key.Break) h = absurd (cc h)
no_stmt state (shape.Key key.Return) h = absurd (cc h)
no_stmt state (shape.Punct punct.Semicolon) h = absurd (cc h)
no_stmt state (shape.Punct punct.LeftBrace) h = absurd (cc h)
no_stmt state _ h = refl

-- how an expression goes on after a word
abbrev pub AtWord : Body → ℕ → List Shape → Parts → Type 0
AtWord body d w part = (i : Spot) → Is w class.Word i → read body d (part s.Exp 1) (from w i) ≡ read body d (climb s.Exp 1 i.place (record { found = name_leaf i.place (raw_at w i.place); level = 17 })) (from w (step i))

module _ (body : Body) (d : ℕ) (w : List Shape) where
  -- no expression goes on with a colon
  pub at_colon : (o : ℕ) (y : Standing) (k : Spot) → Is w (class.Punct punct.Colon) k → read body d (climb s.Exp 1 o y) (from w k) ≡ Ok (y.found, from w k)
  unfolding climb
  at_colon o y k c = ap (λ o. and_then o (λ z j. Ok (z.found, j))) (stop w (turns body d w s.Exp 1 o) y k y k y (from w k) (stay w (turns body d w s.Exp 1 o) y k)
      (turn_off body d w s.Exp 1 o y k (ap (λ x. is_tail s.Exp 1 k.state y (continued_by s.Exp x)) (is_punct k.state (raw_at w k.place) punct.Colon c))) (d + length w) (omega arith))

module _ (body : Body) (d top : ℕ) (w : List Shape) (levels : Type 0) (room : Room levels d top) (n : ℕ) (deeper inner : Spelling) (part : Parts)
    (DB : AllBegin w deeper) (IB : AllBegin w inner) (DE : AllRead body d top w places deeper called) (IE : AllRead body d top w n inner part) (low : need s.Stmt ≤ n + 1)
    (DI : (least : ℕ) (t : Plain) (i j : Spot) → deeper s.Id least t i j → AnyWord w t i × (step i ≡ j)) (EW : AtWord body d w part) where
  abbrev Node : Plain → Spot → Spot → Type 0
  Node t i j = IsNode levels deeper inner w s.Stmt 0 t i j

  abbrev Goal : Plain → Spot → Spot → Type 0
  Goal t i j = Got (read body d (statement part) (from w i)) top t w j

  pub at_statement : (i : Spot) (b : Bool) → is_word (seen_at w i) ≡ b → read body d (statement part) (from w i) ≡ read body d (choose b (worded part i.place (seen_at w i)) (statement_by part (begun s.Stmt (raw_at w i.place)))) (from w i)
  unfolding statement
  at_statement i b e = ap (λ b. read body d (choose b (worded part i.place (seen_at w i)) (statement_by part (begun s.Stmt (raw_at w i.place)))) (from w i)) e

  whole_node : (f : Form) (t : Plain) (i j : Spot) → t.form ≡ f → Node t i j → Got (read body d (whole part s.Stmt f) (from w i)) top t w j
  whole_node f t i j e N = same_got top w t t j _ _ (ap (λ f. read body d (whole part s.Stmt f) (from w i)) (sym e)) refl
      (node_read body d top w levels room n deeper inner part DB IB DE IE s.Stmt 0 t i j refl refl (no_list t.form N.may) low N (λ _. refl))
    where
      no_list : (f : Form) → may_be s.Stmt f ≡ true → is_typed_list f ≡ false
      no_list (form.Params f) m = absurd (cc m)
      no_list _ m = refl

  by_token : (f : Form) (x : Shape) (t : Plain) (i j : Spot) → t.form ≡ f → Node t i j → raw_at w i.place ≡ x → is_word (seen_at w i) ≡ false → begun s.Stmt x ≡ Some f → Goal t i j
  by_token f x t i j e N r c b = same_got top w t t j _ _ (at_statement i false c ∙ ap (λ o. read body d (statement_by part o) (from w i)) (ap (begun s.Stmt) r ∙ b)) refl (whole_node f t i j e N)

  abbrev second : Spot → Bool → Reader Found
  second i b = choose b (label i.place (id_leaf i.place (raw_at w i.place))) (choose (is_value (seen_at w i)) (word_led part i.place (seen_at w i)) Refuse)

  pub at_worded : (i : Spot) (b : Bool) → is_sign punct.Colon (seen_at w (step i)) ≡ b → read body d (worded part i.place (seen_at w i)) (from w i) ≡ read body d (second i b) (from w (step i))
  unfolding worded
  at_worded i b e = ap (λ b. read body d (second i b) (from w (step i))) e

  -- ---- labels

  label_node : (t : Plain) (i j : Spot) (parts : List Plain) → t ≡ forests.node (form.Stmt stmt.Label) (spanned i.place j.place) parts → levels → Matches deeper w s.Stmt (form.Stmt stmt.Label) Usual (pieces (form.Stmt stmt.Label)) parts i j → Goal t i j
  label_node t i j parts value v M =
      let f : Form = form.Stmt stmt.Label in
      let A = DI 0 M.first i M.place M.is_first in
      let word = A.0.0 in
      let raw : raw_at w i.place ≡ shape.Word word = A.0.1.0 in
      let X : Matches deeper w s.Stmt f Usual (after_first (pieces f)) M.others (step i) j = subst (λ k. Matches deeper w s.Stmt f Usual (after_first (pieces f)) M.others k j) (sym A.1) M.are_others in
      let some = (room v).1 in
      let leaf : Found = node (form.Id word) i.place (i.place + 1) nothing in
      let P = the_parts body d top w levels room n deeper inner part DB IB DE IE s.Stmt f (after_first (pieces f)) M.others (step i) j refl (omega arith) refl (λ _. refl) X in
      let C : Got (read body d (completed called s.Stmt f i.place (one (deeper_one leaf)) (after_first (pieces f))) (from w (step i))) top (forests.node f (spanned i.place j.place) (leaf.tree ∷ M.others)) w j =
      complete_node body d top w levels room n deeper inner part DB IB DE IE s.Stmt f i.place (one (deeper_one leaf)) (after_first (pieces f)) M.others (step i) j v (omega (arith, some)) P in
      let same : t ≡ forests.node f (spanned i.place j.place) (leaf.tree ∷ M.others) = value ∙ ap (λ ps. forests.node f (spanned i.place j.place) ps) (M.value ∙ ap (λ t. t ∷ M.others) A.0.1.1) in
      let is : is_word (seen_at w i) ≡ true = ap (λ x. is_word (seen i.state x)) raw ∙ a_word body d top w word (not i.state.kept.has_type && is_type i.state.entries word.0) in
      same_got top w t (forests.node f (spanned i.place j.place) (leaf.tree ∷ M.others)) j _ _
      (at_statement i true is ∙ at_worded i true (is_it w (class.Punct punct.Colon) (step i) X.0)
      ∙ ap (λ b. when b (read body d (after_part called s.Stmt f i.place (deeper_one (id_leaf i.place (raw_at w i.place)))) (from w (step i))) (step i).place) (lt-ltb 0 d (room v).0)
      ∙ ap (λ x. read body d (after_part called s.Stmt f i.place (deeper_one (id_leaf i.place x))) (from w (step i))) raw) same C

  -- ---- expressions

  express : (t : Plain) (i j : Spot) (parts : List Plain) → t.form ≡ form.Stmt stmt.Express → Node t i j → t ≡ forests.node (form.Stmt stmt.Express) (spanned i.place j.place) parts → Matches inner w s.Stmt (form.Stmt stmt.Express) Usual (pieces (form.Stmt stmt.Express)) parts i j → Goal t i j
  express t i j parts e N value M = by_word (is_word (seen_at w i)) refl
    where
      begins_exp : has (starts s.Exp) (class_at w i) ≡ true
      begins_exp = elim (IB s.Exp 1 M.first i M.place refl M.is_first) [ inl b ↦ b.0 | inr x ↦ absurd (cc x.0) ]

      value_word : is_word (seen_at w i) ≡ true → Is w class.Word i
      value_word y = elim (either (nat_eq (class_at w i) 113) (nat_eq (class_at w i) 3000) y) [
        | inl a ↦ same_class (class_at w i) 113 a
        | inr a ↦ absurd (let f : true ≡ false = sym begins_exp ∙ ap (has (starts s.Exp)) (same_class (class_at w i) 3000 a) in cc f)
      ]

      semicolon : Off (goes_on s.Exp 1) w M.place.place
      semicolon = off (class_number (class.Punct punct.Semicolon) ∷ []) (goes_on s.Exp 1) w M.place.place refl (on_here (class_number (class.Punct punct.Semicolon) ∷ []) w M.place (single (class_number (class.Punct punct.Semicolon)) (class_at w M.place) M.are_others.0))

      the_exp : Got (read body d (part s.Exp 1) (from w i)) top M.first w M.place
      the_exp = IE s.Exp 1 M.first i M.place refl (omega (arith, low)) M.is_first semicolon

      from_word : (b : Bool) → is_sign punct.Colon (seen_at w (step i)) ≡ b → Is w class.Word i → Got (read body d (second i b) (from w (step i))) top t w j
      from_word true c y = absurd (let name : Found = name_leaf i.place (raw_at w i.place) in
          let colon : Is w (class.Punct punct.Colon) (step i) = same_class (class_at w (step i)) (class_number (class.Punct punct.Colon)) c in
          let here : from w (step i) ≡ from w M.place = same_place name (record { tree = M.first; height = the_exp.height }) (from w (step i)) (from w M.place) (sym (EW i y ∙ at_colon body d w i.place (record { found = name; level = 17 }) (step i) colon) ∙ the_exp.reads) in
          let n : class_number (class.Punct punct.Colon) ≡ class_number (class.Punct punct.Semicolon) = sym colon ∙ ap (λ (k : Input). class_at w k.at) here ∙ M.are_others.0 in
          let f : false ≡ true = ap (λ n. nat_eq n (class_number (class.Punct punct.Semicolon))) n in cc f)
      from_word false c y =
          let f : Form = form.Stmt stmt.Express in
          let P = the_parts body d top w levels room n deeper inner part DB IB DE IE s.Stmt f (after_first (pieces f)) M.others M.place j refl (omega arith) refl (λ _. refl) M.are_others in
          let C : Got (read body d (completed part s.Stmt f i.place (one (record { tree = M.first; height = the_exp.height })) (after_first (pieces f))) (from w M.place)) top (forests.node f (spanned i.place j.place) (M.first ∷ M.others)) w j =
          complete_node body d top w levels room n deeper inner part DB IB DE IE s.Stmt f i.place (one (record { tree = M.first; height = the_exp.height })) (after_first (pieces f)) M.others M.place j tt the_exp.low P in
          same_got top w t (forests.node f (spanned i.place j.place) (M.first ∷ M.others)) j _ _
          (ap (λ b. read body d (choose b (word_led part i.place (seen_at w i)) Refuse) (from w (step i))) (is_it w class.Word i y)
          ∙ ap (λ o. and_then o (λ y j. read body d (after_part part s.Stmt f i.place y) j)) (sym (EW i y) ∙ the_exp.reads)) (value ∙ ap (λ ps. forests.node f (spanned i.place j.place) ps) M.value) C

      by_word : (b : Bool) → is_word (seen_at w i) ≡ b → Goal t i j
      by_word false y = same_got top w t t j _ _ (at_statement i false y ∙ ap (λ o. read body d (statement_by part o) (from w i)) (no_stmt i.state (raw_at w i.place) begins_exp)) refl (whole_node (form.Stmt stmt.Express) t i j e N)
      by_word true y = same_got top w t t j _ _ (at_statement i true y ∙ at_worded i (is_sign punct.Colon (seen_at w (step i))) refl) refl (from_word (is_sign punct.Colon (seen_at w (step i))) refl (value_word y))

  stmt_node : (g : StmtForm) (t : Plain) (i j : Spot) → t.form ≡ form.Stmt g → (N : Node t i j) → Matches (parts_spelled (is_starred (form.Stmt g)) deeper inner) w s.Stmt (form.Stmt g) Usual (pieces (form.Stmt g)) N.parts i j → Goal t i j
  stmt_node stmt.Case t i j e N M = by_token (form.Stmt stmt.Case) (shape.Key key.Case) t i j e N (is_key i.state (raw_at w i.place) key.Case M.0) (ap (λ n. nat_eq n 113 || nat_eq n 3000) M.0) refl
  stmt_node stmt.Default t i j e N M = by_token (form.Stmt stmt.Default) (shape.Key key.Default) t i j e N (is_key i.state (raw_at w i.place) key.Default M.0) (ap (λ n. nat_eq n 113 || nat_eq n 3000) M.0) refl
  stmt_node stmt.If t i j e N M = by_token (form.Stmt stmt.If) (shape.Key key.If) t i j e N (is_key i.state (raw_at w i.place) key.If M.0) (ap (λ n. nat_eq n 113 || nat_eq n 3000) M.0) refl
  stmt_node stmt.Switch t i j e N M = by_token (form.Stmt stmt.Switch) (shape.Key key.Switch) t i j e N (is_key i.state (raw_at w i.place) key.Switch M.0) (ap (λ n. nat_eq n 113 || nat_eq n 3000) M.0) refl
  stmt_node stmt.While t i j e N M = by_token (form.Stmt stmt.While) (shape.Key key.While) t i j e N (is_key i.state (raw_at w i.place) key.While M.0) (ap (λ n. nat_eq n 113 || nat_eq n 3000) M.0) refl
  stmt_node stmt.Do t i j e N M = by_token (form.Stmt stmt.Do) (shape.Key key.Do) t i j e N (is_key i.state (raw_at w i.place) key.Do M.0) (ap (λ n. nat_eq n 113 || nat_eq n 3000) M.0) refl
  stmt_node stmt.For t i j e N M = by_token (form.Stmt stmt.For) (shape.Key key.For) t i j e N (is_key i.state (raw_at w i.place) key.For M.0) (ap (λ n. nat_eq n 113 || nat_eq n 3000) M.0) refl
  stmt_node stmt.Goto t i j e N M = by_token (form.Stmt stmt.Goto) (shape.Key key.Goto) t i j e N (is_key i.state (raw_at w i.place) key.Goto M.0) (ap (λ n. nat_eq n 113 || nat_eq n 3000) M.0) refl
  stmt_node stmt.Continue t i j e N M = by_token (form.Stmt stmt.Continue) (shape.Key key.Continue) t i j e N (is_key i.state (raw_at w i.place) key.Continue M.0) (ap (λ n. nat_eq n 113 || nat_eq n 3000) M.0) refl
  stmt_node stmt.Break t i j e N M = by_token (form.Stmt stmt.Break) (shape.Key key.Break) t i j e N (is_key i.state (raw_at w i.place) key.Break M.0) (ap (λ n. nat_eq n 113 || nat_eq n 3000) M.0) refl
  stmt_node stmt.Return t i j e N M = by_token (form.Stmt stmt.Return) (shape.Key key.Return) t i j e N (is_key i.state (raw_at w i.place) key.Return M.0) (ap (λ n. nat_eq n 113 || nat_eq n 3000) M.0) refl
  stmt_node stmt.Empty t i j e N M = by_token (form.Stmt stmt.Empty) (shape.Punct punct.Semicolon) t i j e N (is_punct i.state (raw_at w i.place) punct.Semicolon M.0) (ap (λ n. nat_eq n 113 || nat_eq n 3000) M.0) refl
  stmt_node stmt.Block t i j e N M = by_token (form.Stmt stmt.Block) (shape.Punct punct.LeftBrace) t i j e N (is_punct i.state (raw_at w i.place) punct.LeftBrace M.0) (ap (λ n. nat_eq n 113 || nat_eq n 3000) M.0) refl
  stmt_node stmt.Label t i j e N M = label_node t i j N.parts (N.value ∙ ap (λ f. forests.node f (spanned i.place j.place) N.parts) e) (subst (λ f. Levels (is_starred f) levels) e N.left) M
  stmt_node stmt.Express t i j e N M = express t i j N.parts e N (N.value ∙ ap (λ f. forests.node f (spanned i.place j.place) N.parts) e) M

  pub stmt_read : (t : Plain) (i j : Spot) → IsNode levels deeper inner w s.Stmt 0 t i j → Got (read body d (statement part) (from w i)) top t w j
  stmt_read t i j N = let g = stmt_is t.form N.may in stmt_node g.0 t i j g.1 N (subst (λ f. Matches (parts_spelled (is_starred f) deeper inner) w s.Stmt f Usual (pieces f) N.parts i j) g.1 N.matches)
