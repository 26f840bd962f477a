-- What spells an expression is read (ISO/IEC 9899:1990, 6.3).
use Rattle.std.proofs.Common.{◌≡◌, ◌⊎◌, inl, inr, refl, subst, ap, sym, ◌∙◌, ℕ, zero, suc, ◌+◌, ◌-◌, ◌<◌, ◌≤◌, max, nat_lt, Bool, true, false, ◌||◌, List, [], ◌∷◌, nat_eq, Option, Some, None, Ok, arith}
use Rattle.std.proofs.lemmas.Bool.{lt-ltb}
use borrow.Author.Tests.{ltb-false}
use Rattle.c_tokens.specs.declared.token.Key.TheVariants as key
use Rattle.c_tokens.specs.declared.token.Punct.{Punct}
use Rattle.c_tokens.specs.declared.token.Punct.TheVariants as punct
use Rattle.c_tokens.specs.declared.token.Shape.{Shape}
use Rattle.c_tokens.specs.declared.token.Shape.TheVariants as shape
use Rattle.c_tokens.specs.declared.class.Class.{Class}
use Rattle.c_tokens.specs.declared.class.Class.TheVariants as class
use Rattle.c_tokens.specs.ClassNumbers.{class_number}
use Rattle.c_forms.specs.declared.operators.UnaryOperator.TheVariants as unary
use Rattle.c_forms.specs.declared.operators.BinaryOperator.TheVariants as binary
use Rattle.c_forms.specs.declared.operators.AssignmentOperator.TheVariants as assignment
use Rattle.c_forms.specs.declared.pieces.Event.TheVariants as event
use Rattle.c_forms.specs.declared.pieces.Sort.TheVariants as s
use Rattle.c_forms.specs.declared.pieces.Piece.{Piece}
use Rattle.c_forms.specs.declared.forms.Form.{Form}
use Rattle.c_forms.specs.declared.forms.Form.TheVariants as form
use Rattle.c_forms.specs.declared.forms.ExpForm.{ExpForm}
use Rattle.c_forms.specs.declared.forms.ExpForm.TheVariants as exp
use Rattle.c_forms.specs.Forests.{Plain}
use Rattle.c_forms.specs.Forests as forests
use Rattle.c_forms.specs.Measures.{level, pieces}
use Rattle.c_forms.specs.Tokens.{begun, continued}
use Rattle.c_forms.specs.Sets.{has, starts, goes_on, all_puncts}
use Rattle.c_reader.specs.States.{State, class as class_in, happens}
use Rattle.c_reader.specs.Tokens.{Spot, step, turned, raw_at, seen_at, class_at}
use Rattle.c_reader.specs.Readers.{Reader, Found, Outcome, Body, Opened, Refuse, Look, Next, Fits, Change, read, below, and_then, choose, when}
use Rattle.c_reader.proofs.Local.{from}
use Rattle.c_reader.proofs.Sets.{both, contrary, itself, single, only_single, same_class}
use Rattle.c_syntax.specs.Allowed.{places}
use Rattle.c_syntax.specs.Reading.{Parts, nothing, one, node, deeper as deeper_one, called, parts_of, is_starred, spanned, is_class, Usual, completed}
use Rattle.c_syntax.specs.Grammar.{Standing, standing, is_sign, begins, left_level, after_first, after_paren, may_follow, tight, whole, type_or, entered, sized, sized_opened, begun_by, primary, expression, opened, parenthesized, climb}
use Rattle.c_syntax.specs.Spells.{Spelling, Is, Matches, Levels, parts_spelled, IsNode, Wraps, IsLiteral, Parted, Chain}
use Rattle.c_spelled.specs.Fitting.{reads, follows, fitting, blank, needs, bound}
use Rattle.c_spelled.specs.Operators.{unapt, loose, prefix, operands_fit}
use Rattle.c_spelled.proofs.Off.{Off, on_here, off, off_both}
use Rattle.c_spelled.proofs.Opens.{starts_so}
use Rattle.c_spelled.proofs.Begins.{AllBegin}
use Rattle.c_spelled.proofs.Groups.{Got}
use Rattle.c_spelled.proofs.Pieces.{AllRead, is_it}
use Rattle.c_spelled.proofs.Shapes.{is_punct}
use Rattle.c_spelled.proofs.Nodes.{Room, off_within, whole_read, the_parts, complete_node}
use Rattle.c_spelled.proofs.Levels.{off_operator}
use Rattle.c_spelled.proofs.Alone.{exp_is}
use Rattle.c_spelled.proofs.Climb.{AllCalled, Lower, called_read, in_parens, Tight, stand, stands_at, tight_at, Rises, begin, longer, finish, ends_at}
use Rattle.c_spelled.proofs.Operands.{held_so, no_string, apt_so, EndOff, end_off, Enters, RisesExp}

module _ (body : Body) (d top : ℕ) (w : List Shape) (levels : Type 0) (room : Room levels d top) (under : top ≤ d) (deeper inner : Spelling) (part : Parts)
    (DB : AllBegin w deeper) (IB : AllBegin w inner) (DC : AllCalled body d top w deeper) (IE : AllRead body d top w 1 inner part) (IL : (least : ℕ) (t : Plain) (i j : Spot) → inner s.Literal least t i j → IsLiteral w t i)
    (DO : (t : Plain) (i j : Spot) → deeper s.Exp 15 t i j → Is w (class.Punct punct.LeftParen) i → Off (goes_on s.Exp 15) w j.place → (has (starts s.TypeName) (class_at w (turned (happens event.Aside) (step i))) ≡ false) × Lower (below body d Opened (from w (step i))) top t w j)
    (DR : (m l : ℕ) (t : Plain) (i k : Spot) → deeper s.Exp m t i k → l ≤ m → EndOff s.Exp w m k → RisesExp body d w part l top i t m k) where
  abbrev DE : AllRead body d top w places deeper called
  DE = called_read body d top w deeper DC

  abbrev Here : Form → List Piece → List Plain → Spot → Spot → Type 0
  Here f ps ts i j = Matches (parts_spelled (is_starred f) deeper inner) w s.Exp f Usual ps ts i j

  abbrev Goal : ℕ → ℕ → Form → List Plain → Spot → Spot → Type 0
  Goal l m f parts i j = RisesExp body d w part l (top + 1) i (forests.node f (spanned i.place j.place) parts) m j

  abbrev others_by : ℕ → Spot → Bool → Reader Standing
  others_by l i b = choose b (sized part l i.place) (choose (begins s.Exp (seen_at w i)) (begun_by part l (begun s.Exp (raw_at w i.place))) Refuse)

  at_primary : (l : ℕ) (i : Spot) (b : Bool) → is_sign punct.LeftParen (seen_at w i) ≡ b → read body d (primary part l) (from w i) ≡ read body d (choose b (entered l i.place) (others_by l i (is_class (class.Key key.Sizeof) (seen_at w i)))) (from w i)
  unfolding primary
  at_primary l i b e = ap (λ b. read body d (choose b (entered l i.place) (others_by l i (is_class (class.Key key.Sizeof) (seen_at w i)))) (from w i)) e

  not_paren : (l : ℕ) (i : Spot) (num : ℕ) (first : Standing) (place : Spot) → class_at w i ≡ num → nat_eq num (class_number (class.Punct punct.LeftParen)) ≡ false → Enters body d w l i first place
  not_paren l i num first place c n = λ _ y. absurd (let e : true ≡ false = sym (itself 34) ∙ ap (λ k. nat_eq k 34) (sym y ∙ c) ∙ n in cc e)

  by_token : (f : Form) (x : Shape) (num l m : ℕ) (parts : List Plain) (i j : Spot) → l ≤ m → m ≤ level f → Levels (is_starred f) levels → Off (unapt s.Exp (level f)) w j.place → Here f (pieces f) parts i j
      → raw_at w i.place ≡ x → class_at w i ≡ num → operands_fit s.Exp f (pieces f) ≡ true → needs s.Exp (pieces f) ≤ bound (is_starred f) 1
      → nat_eq num (class_number (class.Punct punct.LeftParen)) ≡ false → nat_eq num (class_number (class.Key key.Sizeof)) ≡ false → has (starts s.Exp) num ≡ true → begun s.Exp x ≡ Some f → Goal l m f parts i j
  by_token f x num l m parts i j le tight left o M e c F N n n' b g =
      let fit = both (reads s.Exp (pieces f)) _ F in
      let fit' = both (fitting s.Exp f (pieces f)) _ fit.1 in
      let G = whole_read body d top w levels room 1 deeper inner part DB IB DE IE s.Exp f parts i j left fit.0 N fit'.0 (off_within (follows s.Exp (pieces f)) (unapt s.Exp (level f)) w j.place fit'.1 o) M in
      begin body d w s.Exp l i.place (Enters body d w l i) (primary part l) (top + 1) i (forests.node f (spanned i.place j.place) parts) m G.height (level f) j (inl tight) (omega (arith, G.low))
      (at_primary l i false (ap (λ k. nat_eq k (class_number (class.Punct punct.LeftParen))) c ∙ n)
      ∙ ap (λ b. read body d (others_by l i b) (from w i)) (ap (λ k. nat_eq k (class_number (class.Key key.Sizeof))) c ∙ n')
      ∙ ap (λ b. read body d (choose b (begun_by part l (begun s.Exp (raw_at w i.place))) Refuse) (from w i)) (ap (has (starts s.Exp)) c ∙ b)
      ∙ ap (λ o. read body d (begun_by part l o) (from w i)) (ap (begun s.Exp) e ∙ g)
      ∙ tight_at body d w l f (whole part s.Exp f) top (forests.node f (spanned i.place j.place) parts) i j G (omega (arith, le, tight)))
      (not_paren l i num _ j c n)

  looser : (m n l : ℕ) → m ≤ n → Tight n l → Tight m l
  looser m n l e (inl k) = inl (omega (arith, e, k))
  looser m n l e (inr k) = inr k

  no_string_in : (p : Punct) → has (prefix s.Exp) (class_number (class.Punct p)) ≡ false
  no_string_in p = ap (λ b. b || false) (no_string p)

  chain_first : (n : ℕ) (c : Option Class) (ts : List Plain) (i j : Spot) → Chain (inner s.Literal 0) w c n ts i j → (t : Plain) × ((k : Spot) × inner s.Literal 0 t i k)
  chain_first zero c ts i j C = (C.0, (j, C.1.1))
  chain_first (suc n) c ts i j C = chain_first n c C.before i C.place C.first

  -- ---- operators

  by_operator : (f : Form) (n : ℕ) (p : Punct) (l m : ℕ) (parts : List Plain) (i j : Spot) → l ≤ m → m ≤ level f → Levels true levels → Off (unapt s.Exp (level f)) w j.place
      → (M : Parted (deeper s.Exp n) (λ t. Matches deeper w s.Exp f Usual (after_first (pieces f))) parts i j)
      → raw_at w M.place.place ≡ shape.Punct p → continued s.Exp p ≡ Some f → left_level (pieces f) ≡ n → is_starred f ≡ true → nat_lt n (level f) ≡ false → nat_lt 17 n ≡ false
      → ((state : State) (t : Plain) → may_follow s.Exp state t f ≡ true) → operands_fit s.Exp f (after_first (pieces f)) ≡ true → nat_lt places (needs s.Exp (after_first (pieces f))) ≡ false → blank s.Exp Usual (after_first (pieces f)) ≡ false → Goal l m f parts i j
  by_operator f n p l m parts i j le tight left o M raw found left_is star up few follow F N bl =
      let up' : level f ≤ n = ltb-false n (level f) up in
      let few' : n ≤ 17 = ltb-false 17 n few in
      let k : Spot = M.place in
      let R : RisesExp body d w part l top i M.first n k = DR n l M.first i k M.is_first (omega (arith, le, tight, up')) (λ l' T. off_both (prefix s.Exp) (loose s.Exp l' all_puncts) w k.place
      (λ state. ap (λ x. has (prefix s.Exp) (class_in state x)) raw ∙ no_string_in p) (off_operator s.Exp l' p f w k raw found (apt_so f n l' up' few' left_is T))) in
      let ahead : k.place < j.place = elim (starts_so w deeper DB s.Exp f Usual (after_first (pieces f)) M.others k j (both (reads s.Exp (after_first (pieces f))) _ F).0 M.are_others) [
        | inl s ↦ s.less
        | inr b ↦ absurd (contrary (blank s.Exp Usual (after_first (pieces f))) b.may bl)
      ] in
      let X = longer body d w s.Exp l i.place (Enters body d w l i) deeper top DB DE (primary part l) i k j M.first M.others f n (after_first (pieces f)) p refl (room left) under R few' (omega (arith, le, tight)) raw found left_is refl star (follow k.state M.first) F
      (ltb-false places (needs s.Exp (after_first (pieces f))) N) o M.are_others ahead in
      let made : Rises body d w s.Exp l i.place (Enters body d w l i) (primary part l) (top + 1) i (forests.node f (spanned i.place j.place) parts) (level f) j =
      subst (λ ts. Rises body d w s.Exp l i.place (Enters body d w l i) (primary part l) (top + 1) i (forests.node f (spanned i.place j.place) ts) (level f) j) (sym M.value) X in
      record { level = made.level; tight = looser m (level f) made.level tight made.tight; height = made.height; low = made.low; first = made.first; place = made.place; start = made.start; comes = made.comes; kept = made.kept }

  -- ---- forms with parentheses of their own

  abbrev unchosen : ℕ → Spot → Outcome Standing
  unchosen l i = read body d (primary part l) (from w i)

  abbrev aside : Spot → Spot
  aside i = turned (happens event.Aside) i

  in_type : (named other : Reader Standing) (i : Spot) (b : Bool) → has (starts s.TypeName) (class_at w (aside (step i))) ≡ b → read body d (type_or named other) (from w i) ≡ read body d (choose b named (Change event.Resume other)) (from w (aside (step i)))
  unfolding type_or
  in_type named other i b e = ap (λ b. read body d (choose b named (Change event.Resume other)) (from w (aside (step i)))) e

  type_begins : (t : Plain) (i j : Spot) → deeper s.TypeName 0 t i j → has (starts s.TypeName) (class_at w i) ≡ true
  type_begins t i j p = elim (DB s.TypeName 0 t i j refl p) [ inl b ↦ b.0 | inr e ↦ absurd (cc e.0) ]

  fits_here : (r : Reader Standing) (i : Spot) → levels → read body d (Fits 0 r) (from w i) ≡ read body d r (from w i)
  fits_here r i l = ap (λ b. when b (read body d r (from w i)) i.place) (lt-ltb 0 d (room l).0)

  -- the pieces after a parenthesis
  typed_parts : (f : Form) (ps : List Piece) (l m : ℕ) (parts : List Plain) (i k j : Spot) → l ≤ m → m ≤ level f → levels → Levels (is_starred f) levels → Off (unapt s.Exp (level f)) w j.place → Here f ps parts k j
      → operands_fit s.Exp f ps ≡ true → needs s.Exp ps ≤ bound (is_starred f) 1
      → Got (read body d (completed (parts_of f part) s.Exp f i.place nothing ps) (from w k)) top (forests.node f (spanned i.place j.place) parts) w j
  typed_parts f ps l m parts i k j le tight l' left o M F N =
      let fit = both (reads s.Exp ps) _ F in
      let fit' = both (fitting s.Exp f ps) _ fit.1 in
      complete_node body d top w levels room 1 deeper inner part DB IB DE IE s.Exp f i.place nothing ps parts k j left (omega arith)
      (the_parts body d top w levels room 1 deeper inner part DB IB DE IE s.Exp f ps parts k j fit.0 N fit'.0 (off_within (follows s.Exp ps) (unapt s.Exp (level f)) w j.place fit'.1 o) M)

  abbrev tight_type : ℕ → Spot → Reader Standing
  tight_type l i = tight l (form.Exp exp.SizeofType) (completed called s.Exp (form.Exp exp.SizeofType) i.place nothing (after_paren (pieces (form.Exp exp.SizeofType))))

  abbrev plain_operand : Spot → Reader Found
  plain_operand i = completed called s.Exp (form.Exp exp.SizeofExp) i.place nothing (after_first (pieces (form.Exp exp.SizeofExp)))

  abbrev after_sizeof : ℕ → Spot → Bool → Reader Standing
  after_sizeof l i b = choose b (type_or (tight_type l i) (tight l (form.Exp exp.SizeofExp) (sized_opened i.place))) (tight l (form.Exp exp.SizeofExp) (plain_operand i))

  at_sizeof : (l : ℕ) (i : Spot) → levels → Is w (class.Key key.Sizeof) i → read body d (primary part l) (from w i) ≡ read body d (Look (λ x. after_sizeof l i (is_sign punct.LeftParen x))) (from w (step i))
  at_sizeof l i v c = at_primary l i false (ap (λ k. nat_eq k 34) c) ∙ ap (λ b. read body d (others_by l i b) (from w i)) (ap (λ k. nat_eq k 22) c)
      ∙ fits_here (Next (Look (λ x. after_sizeof l i (is_sign punct.LeftParen x)))) i v

  paren_after : (l : ℕ) (i : Spot) (b : Bool) → is_sign punct.LeftParen (seen_at w (step i)) ≡ b → read body d (Look (λ x. after_sizeof l i (is_sign punct.LeftParen x))) (from w (step i)) ≡ read body d (after_sizeof l i b) (from w (step i))
  paren_after l i b e = ap (λ b. read body d (after_sizeof l i b) (from w (step i))) e

  sizeof_exp : (l m : ℕ) (parts : List Plain) (i j : Spot) → l ≤ m → m ≤ 15 → levels → Off (unapt s.Exp 15) w j.place → Here (form.Exp exp.SizeofExp) (pieces (form.Exp exp.SizeofExp)) parts i j → Goal l m (form.Exp exp.SizeofExp) parts i j
  sizeof_exp l m parts i j le high v o M = by_paren (is_sign punct.LeftParen (seen_at w (step i))) refl
    where
      by_paren : (b : Bool) → is_sign punct.LeftParen (seen_at w (step i)) ≡ b → Goal l m (form.Exp exp.SizeofExp) parts i j
      by_paren false e =
          let f : Form = form.Exp exp.SizeofExp in
          let t : Plain = forests.node f (spanned i.place j.place) parts in
          let G : Got (read body d (plain_operand i) (from w (step i))) top t w j = typed_parts f (after_first (pieces f)) l m parts i (step i) j le high v v o M.1 refl (omega arith) in
          begin body d w s.Exp l i.place (Enters body d w l i) (primary part l) (top + 1) i t m G.height 15 j (inl high) (omega (arith, G.low))
          (at_sizeof l i v M.0 ∙ paren_after l i false e ∙ tight_at body d w l f (plain_operand i) top t (step i) j G (omega (arith, le, high))) (not_paren l i 22 _ j M.0 refl)
      by_paren true e =
          let f : Form = form.Exp exp.SizeofExp in
          let t : Plain = forests.node f (spanned i.place j.place) parts in
          let P = M.1 in
          let place : P.place ≡ j = P.are_others.1 in
          let out : Off (goes_on s.Exp 15) w P.place.place = subst (λ (k : Spot). Off (goes_on s.Exp 15) w k.place) (sym place) (off_within (goes_on s.Exp 15) (unapt s.Exp 15) w j.place refl o) in
          let X = DO P.first (step i) P.place P.is_first (same_class (class_at w (step i)) 34 e) out in
          let made : forests.node f (spanned i.place P.place.place) (P.first ∷ []) ≡ t = ap (λ (k : Spot). forests.node f (spanned i.place k.place) (P.first ∷ [])) place ∙ ap (λ ps. forests.node f (spanned i.place j.place) ps) (ap (λ ts. P.first ∷ ts) (sym P.are_others.0) ∙ sym P.value) in
          let some = (room v).1 in
          let G : Got (read body d (sized_opened i.place) (from w (step (step i)))) top t w j = record {
            height = max 1 (X.1.height + 1);
            low = omega (arith, X.1.low, some);
            reads = ap (λ o. and_then o (λ x j. Ok (node f i.place j.at.place (one (deeper_one x)), j))) X.1.reads ∙ ap (λ t. Ok (record { tree = t; height = max 1 (X.1.height + 1) }, from w P.place)) made ∙ ap (λ k. Ok (record { tree = t; height = max 1 (X.1.height + 1) }, from w k)) place;
          } in
          begin body d w s.Exp l i.place (Enters body d w l i) (primary part l) (top + 1) i t m G.height 15 j (inl high) (omega (arith, G.low))
          (at_sizeof l i v M.0 ∙ paren_after l i true e ∙ in_type (tight_type l i) (tight l f (sized_opened i.place)) (step i) false X.0
          ∙ tight_at body d w l f (sized_opened i.place) top t (step (step i)) j G (omega (arith, le, high))) (not_paren l i 22 _ j M.0 refl)

  exp_node : (f : ExpForm) (l m : ℕ) (parts : List Plain) (i j : Spot) → l ≤ m → m ≤ level (form.Exp f) → Levels (is_starred (form.Exp f)) levels → Off (unapt s.Exp (level (form.Exp f))) w j.place
      → Here (form.Exp f) (pieces (form.Exp f)) parts i j → Goal l m (form.Exp f) parts i j
  exp_node (exp.Name word) l m parts i j le high left o M = by_token (form.Exp (exp.Name word)) (shape.Word word) 113 l m parts i j le high left o M (held_so (shape.Word word) (raw_at w i.place) M.0.0) (only_single 113 (class_at w i) M.0.1) refl (omega arith) refl refl refl refl
  exp_node (exp.Int word) l m parts i j le high left o M = by_token (form.Exp (exp.Int word)) (shape.Int word) 114 l m parts i j le high left o M (held_so (shape.Int word) (raw_at w i.place) M.0.0) (only_single 114 (class_at w i) M.0.1) refl (omega arith) refl refl refl refl
  exp_node (exp.Float word) l m parts i j le high left o M = by_token (form.Exp (exp.Float word)) (shape.Float word) 115 l m parts i j le high left o M (held_so (shape.Float word) (raw_at w i.place) M.0.0) (only_single 115 (class_at w i) M.0.1) refl (omega arith) refl refl refl refl
  exp_node (exp.Char word) l m parts i j le high left o M = by_token (form.Exp (exp.Char word)) (shape.Char word) 116 l m parts i j le high left o M (held_so (shape.Char word) (raw_at w i.place) M.0.0) (only_single 116 (class_at w i) M.0.1) refl (omega arith) refl refl refl refl
  exp_node exp.PreInc l m parts i j le high left o M = by_token (form.Exp exp.PreInc) (shape.Punct punct.PlusPlus) (class_number (class.Punct punct.PlusPlus)) l m parts i j le high left o M (is_punct i.state (raw_at w i.place) punct.PlusPlus M.0) M.0 refl (omega arith) refl refl refl refl
  exp_node exp.PreDec l m parts i j le high left o M = by_token (form.Exp exp.PreDec) (shape.Punct punct.MinusMinus) (class_number (class.Punct punct.MinusMinus)) l m parts i j le high left o M (is_punct i.state (raw_at w i.place) punct.MinusMinus M.0) M.0 refl (omega arith) refl refl refl refl
  exp_node (exp.Unary unary.Address) l m parts i j le high left o M = by_token (form.Exp (exp.Unary unary.Address)) (shape.Punct punct.Ampersand) (class_number (class.Punct punct.Ampersand)) l m parts i j le high left o M (held_so (shape.Punct punct.Ampersand) (raw_at w i.place) M.0.0) (only_single (class_number (class.Punct punct.Ampersand)) (class_at w i) M.0.1) refl (omega arith) refl refl refl refl
  exp_node (exp.Unary unary.Dereference) l m parts i j le high left o M = by_token (form.Exp (exp.Unary unary.Dereference)) (shape.Punct punct.Star) (class_number (class.Punct punct.Star)) l m parts i j le high left o M (held_so (shape.Punct punct.Star) (raw_at w i.place) M.0.0) (only_single (class_number (class.Punct punct.Star)) (class_at w i) M.0.1) refl (omega arith) refl refl refl refl
  exp_node (exp.Unary unary.Plus) l m parts i j le high left o M = by_token (form.Exp (exp.Unary unary.Plus)) (shape.Punct punct.Plus) (class_number (class.Punct punct.Plus)) l m parts i j le high left o M (held_so (shape.Punct punct.Plus) (raw_at w i.place) M.0.0) (only_single (class_number (class.Punct punct.Plus)) (class_at w i) M.0.1) refl (omega arith) refl refl refl refl
  exp_node (exp.Unary unary.Minus) l m parts i j le high left o M = by_token (form.Exp (exp.Unary unary.Minus)) (shape.Punct punct.Minus) (class_number (class.Punct punct.Minus)) l m parts i j le high left o M (held_so (shape.Punct punct.Minus) (raw_at w i.place) M.0.0) (only_single (class_number (class.Punct punct.Minus)) (class_at w i) M.0.1) refl (omega arith) refl refl refl refl
  exp_node (exp.Unary unary.Complement) l m parts i j le high left o M = by_token (form.Exp (exp.Unary unary.Complement)) (shape.Punct punct.Tilde) (class_number (class.Punct punct.Tilde)) l m parts i j le high left o M (held_so (shape.Punct punct.Tilde) (raw_at w i.place) M.0.0) (only_single (class_number (class.Punct punct.Tilde)) (class_at w i) M.0.1) refl (omega arith) refl refl refl refl
  exp_node (exp.Unary unary.Not) l m parts i j le high left o M = by_token (form.Exp (exp.Unary unary.Not)) (shape.Punct punct.Exclamation) (class_number (class.Punct punct.Exclamation)) l m parts i j le high left o M (held_so (shape.Punct punct.Exclamation) (raw_at w i.place) M.0.0) (only_single (class_number (class.Punct punct.Exclamation)) (class_at w i) M.0.1) refl (omega arith) refl refl refl refl
  exp_node exp.Str l m parts i j le high left o M = elim (M.is_first.1.1) [
    | inl A ↦ absurd (omega (arith, A.0))
    | inr C ↦ let x = chain_first C.0 None M.is_first.0 i M.place C.1 in let L = IL 0 x.0 i x.1.0 x.1.1 in
        by_token (form.Exp exp.Str) (shape.Str L.0) 117 l m parts i j le high left o M L.1.0 (ap (λ x. class_in i.state x) L.1.0) refl (omega arith) refl refl refl refl
  ]
  exp_node exp.SizeofExp l m parts i j le high left o M = sizeof_exp l m parts i j le high left o M
  exp_node exp.SizeofType l m parts i j le high left o M =
      let f : Form = form.Exp exp.SizeofType in
      let t : Plain = forests.node f (spanned i.place j.place) parts in
      let k : Spot = aside (step (step i)) in
      let G : Got (read body d (completed called s.Exp f i.place nothing (after_paren (pieces f))) (from w k)) top t w j = typed_parts f (after_paren (pieces f)) l m parts i k j le high left left o M.1.1.1 refl (omega arith) in
      begin body d w s.Exp l i.place (Enters body d w l i) (primary part l) (top + 1) i t m G.height (level f) j (inl high) (omega (arith, G.low))
      (at_sizeof l i left M.0 ∙ paren_after l i true (is_it w (class.Punct punct.LeftParen) (step i) M.1.0)
      ∙ in_type (tight_type l i) (tight l (form.Exp exp.SizeofExp) (sized_opened i.place)) (step i) true (type_begins M.1.1.1.first k M.1.1.1.place M.1.1.1.is_first)
      ∙ tight_at body d w l f (completed called s.Exp f i.place nothing (after_paren (pieces f))) top t k j G (omega (arith, le, high)))
      (not_paren l i 22 _ j M.0 refl)
  exp_node exp.Cast l m parts i j le high left o M =
      let f : Form = form.Exp exp.Cast in
      let t : Plain = forests.node f (spanned i.place j.place) parts in
      let k : Spot = aside (step i) in
      let G : Got (read body d (completed called s.Exp f i.place nothing (after_paren (pieces f))) (from w k)) top t w j = typed_parts f (after_paren (pieces f)) l m parts i k j le high left left o M.1.1 refl (omega arith) in
      begin body d w s.Exp l i.place (Enters body d w l i) (primary part l) (top + 1) i t m G.height (level f) j (inl high) (omega (arith, G.low))
      (at_primary l i true (is_it w (class.Punct punct.LeftParen) i M.0)
      ∙ fits_here (type_or (tight l f (completed called s.Exp f i.place nothing (after_paren (pieces f)))) (standing 17 (parenthesized s.Exp))) i left
      ∙ in_type (tight l f (completed called s.Exp f i.place nothing (after_paren (pieces f)))) (standing 17 (parenthesized s.Exp)) i true (type_begins M.1.1.first k M.1.1.place M.1.1.is_first)
      ∙ tight_at body d w l f (completed called s.Exp f i.place nothing (after_paren (pieces f))) top t k j G (omega (arith, le, high)))
      (λ h _. absurd (omega (arith, h, le, high)))
  exp_node exp.Index l m parts i j le high left o M = by_operator (form.Exp exp.Index) 16 punct.LeftBracket l m parts i j le high left o M (is_punct M.place.state (raw_at w M.place.place) punct.LeftBracket M.are_others.0) refl refl refl refl refl (λ _ _. refl) refl refl refl
  exp_node exp.Apply l m parts i j le high left o M = by_operator (form.Exp exp.Apply) 16 punct.LeftParen l m parts i j le high left o M (is_punct M.place.state (raw_at w M.place.place) punct.LeftParen M.are_others.0) refl refl refl refl refl (λ _ _. refl) refl refl refl
  exp_node exp.Field l m parts i j le high left o M = by_operator (form.Exp exp.Field) 16 punct.Dot l m parts i j le high left o M (is_punct M.place.state (raw_at w M.place.place) punct.Dot M.are_others.0) refl refl refl refl refl (λ _ _. refl) refl refl refl
  exp_node exp.Arrow l m parts i j le high left o M = by_operator (form.Exp exp.Arrow) 16 punct.Arrow l m parts i j le high left o M (is_punct M.place.state (raw_at w M.place.place) punct.Arrow M.are_others.0) refl refl refl refl refl (λ _ _. refl) refl refl refl
  exp_node exp.PostInc l m parts i j le high left o M = by_operator (form.Exp exp.PostInc) 16 punct.PlusPlus l m parts i j le high left o M (is_punct M.place.state (raw_at w M.place.place) punct.PlusPlus M.are_others.0) refl refl refl refl refl (λ _ _. refl) refl refl refl
  exp_node exp.PostDec l m parts i j le high left o M = by_operator (form.Exp exp.PostDec) 16 punct.MinusMinus l m parts i j le high left o M (is_punct M.place.state (raw_at w M.place.place) punct.MinusMinus M.are_others.0) refl refl refl refl refl (λ _ _. refl) refl refl refl
  exp_node exp.Conditional l m parts i j le high left o M = by_operator (form.Exp exp.Conditional) 4 punct.Question l m parts i j le high left o M (is_punct M.place.state (raw_at w M.place.place) punct.Question M.are_others.0) refl refl refl refl refl (λ _ _. refl) refl refl refl
  exp_node exp.Comma l m parts i j le high left o M = by_operator (form.Exp exp.Comma) 1 punct.Comma l m parts i j le high left o M (is_punct M.place.state (raw_at w M.place.place) punct.Comma M.are_others.0) refl refl refl refl refl (λ _ _. refl) refl refl refl
  exp_node (exp.Binary binary.LogicalOr) l m parts i j le high left o M = by_operator (form.Exp (exp.Binary binary.LogicalOr)) 4 punct.BarBar l m parts i j le high left o M (held_so (shape.Punct punct.BarBar) (raw_at w M.place.place) M.are_others.0.0) refl refl refl refl refl (λ _ _. refl) refl refl refl
  exp_node (exp.Binary binary.LogicalAnd) l m parts i j le high left o M = by_operator (form.Exp (exp.Binary binary.LogicalAnd)) 5 punct.AmpersandAmpersand l m parts i j le high left o M (held_so (shape.Punct punct.AmpersandAmpersand) (raw_at w M.place.place) M.are_others.0.0) refl refl refl refl refl (λ _ _. refl) refl refl refl
  exp_node (exp.Binary binary.BitOr) l m parts i j le high left o M = by_operator (form.Exp (exp.Binary binary.BitOr)) 6 punct.Bar l m parts i j le high left o M (held_so (shape.Punct punct.Bar) (raw_at w M.place.place) M.are_others.0.0) refl refl refl refl refl (λ _ _. refl) refl refl refl
  exp_node (exp.Binary binary.BitXor) l m parts i j le high left o M = by_operator (form.Exp (exp.Binary binary.BitXor)) 7 punct.Caret l m parts i j le high left o M (held_so (shape.Punct punct.Caret) (raw_at w M.place.place) M.are_others.0.0) refl refl refl refl refl (λ _ _. refl) refl refl refl
  exp_node (exp.Binary binary.BitAnd) l m parts i j le high left o M = by_operator (form.Exp (exp.Binary binary.BitAnd)) 8 punct.Ampersand l m parts i j le high left o M (held_so (shape.Punct punct.Ampersand) (raw_at w M.place.place) M.are_others.0.0) refl refl refl refl refl (λ _ _. refl) refl refl refl
  exp_node (exp.Binary binary.Equal) l m parts i j le high left o M = by_operator (form.Exp (exp.Binary binary.Equal)) 9 punct.EqualEqual l m parts i j le high left o M (held_so (shape.Punct punct.EqualEqual) (raw_at w M.place.place) M.are_others.0.0) refl refl refl refl refl (λ _ _. refl) refl refl refl
  exp_node (exp.Binary binary.NotEqual) l m parts i j le high left o M = by_operator (form.Exp (exp.Binary binary.NotEqual)) 9 punct.NotEqual l m parts i j le high left o M (held_so (shape.Punct punct.NotEqual) (raw_at w M.place.place) M.are_others.0.0) refl refl refl refl refl (λ _ _. refl) refl refl refl
  exp_node (exp.Binary binary.Less) l m parts i j le high left o M = by_operator (form.Exp (exp.Binary binary.Less)) 10 punct.Less l m parts i j le high left o M (held_so (shape.Punct punct.Less) (raw_at w M.place.place) M.are_others.0.0) refl refl refl refl refl (λ _ _. refl) refl refl refl
  exp_node (exp.Binary binary.Greater) l m parts i j le high left o M = by_operator (form.Exp (exp.Binary binary.Greater)) 10 punct.Greater l m parts i j le high left o M (held_so (shape.Punct punct.Greater) (raw_at w M.place.place) M.are_others.0.0) refl refl refl refl refl (λ _ _. refl) refl refl refl
  exp_node (exp.Binary binary.LessEqual) l m parts i j le high left o M = by_operator (form.Exp (exp.Binary binary.LessEqual)) 10 punct.LessEqual l m parts i j le high left o M (held_so (shape.Punct punct.LessEqual) (raw_at w M.place.place) M.are_others.0.0) refl refl refl refl refl (λ _ _. refl) refl refl refl
  exp_node (exp.Binary binary.GreaterEqual) l m parts i j le high left o M = by_operator (form.Exp (exp.Binary binary.GreaterEqual)) 10 punct.GreaterEqual l m parts i j le high left o M (held_so (shape.Punct punct.GreaterEqual) (raw_at w M.place.place) M.are_others.0.0) refl refl refl refl refl (λ _ _. refl) refl refl refl
  exp_node (exp.Binary binary.ShiftLeft) l m parts i j le high left o M = by_operator (form.Exp (exp.Binary binary.ShiftLeft)) 11 punct.ShiftLeft l m parts i j le high left o M (held_so (shape.Punct punct.ShiftLeft) (raw_at w M.place.place) M.are_others.0.0) refl refl refl refl refl (λ _ _. refl) refl refl refl
  exp_node (exp.Binary binary.ShiftRight) l m parts i j le high left o M = by_operator (form.Exp (exp.Binary binary.ShiftRight)) 11 punct.ShiftRight l m parts i j le high left o M (held_so (shape.Punct punct.ShiftRight) (raw_at w M.place.place) M.are_others.0.0) refl refl refl refl refl (λ _ _. refl) refl refl refl
  exp_node (exp.Binary binary.Add) l m parts i j le high left o M = by_operator (form.Exp (exp.Binary binary.Add)) 12 punct.Plus l m parts i j le high left o M (held_so (shape.Punct punct.Plus) (raw_at w M.place.place) M.are_others.0.0) refl refl refl refl refl (λ _ _. refl) refl refl refl
  exp_node (exp.Binary binary.Subtract) l m parts i j le high left o M = by_operator (form.Exp (exp.Binary binary.Subtract)) 12 punct.Minus l m parts i j le high left o M (held_so (shape.Punct punct.Minus) (raw_at w M.place.place) M.are_others.0.0) refl refl refl refl refl (λ _ _. refl) refl refl refl
  exp_node (exp.Binary binary.Multiply) l m parts i j le high left o M = by_operator (form.Exp (exp.Binary binary.Multiply)) 13 punct.Star l m parts i j le high left o M (held_so (shape.Punct punct.Star) (raw_at w M.place.place) M.are_others.0.0) refl refl refl refl refl (λ _ _. refl) refl refl refl
  exp_node (exp.Binary binary.Divide) l m parts i j le high left o M = by_operator (form.Exp (exp.Binary binary.Divide)) 13 punct.Slash l m parts i j le high left o M (held_so (shape.Punct punct.Slash) (raw_at w M.place.place) M.are_others.0.0) refl refl refl refl refl (λ _ _. refl) refl refl refl
  exp_node (exp.Binary binary.Remainder) l m parts i j le high left o M = by_operator (form.Exp (exp.Binary binary.Remainder)) 13 punct.Percent l m parts i j le high left o M (held_so (shape.Punct punct.Percent) (raw_at w M.place.place) M.are_others.0.0) refl refl refl refl refl (λ _ _. refl) refl refl refl
  exp_node (exp.Assign assignment.Assign) l m parts i j le high left o M = by_operator (form.Exp (exp.Assign assignment.Assign)) 15 punct.Equal l m parts i j le high left o M (held_so (shape.Punct punct.Equal) (raw_at w M.place.place) M.are_others.0.0) refl refl refl refl refl (λ _ _. refl) refl refl refl
  exp_node (exp.Assign assignment.Multiply) l m parts i j le high left o M = by_operator (form.Exp (exp.Assign assignment.Multiply)) 15 punct.StarEqual l m parts i j le high left o M (held_so (shape.Punct punct.StarEqual) (raw_at w M.place.place) M.are_others.0.0) refl refl refl refl refl (λ _ _. refl) refl refl refl
  exp_node (exp.Assign assignment.Divide) l m parts i j le high left o M = by_operator (form.Exp (exp.Assign assignment.Divide)) 15 punct.SlashEqual l m parts i j le high left o M (held_so (shape.Punct punct.SlashEqual) (raw_at w M.place.place) M.are_others.0.0) refl refl refl refl refl (λ _ _. refl) refl refl refl
  exp_node (exp.Assign assignment.Remainder) l m parts i j le high left o M = by_operator (form.Exp (exp.Assign assignment.Remainder)) 15 punct.PercentEqual l m parts i j le high left o M (held_so (shape.Punct punct.PercentEqual) (raw_at w M.place.place) M.are_others.0.0) refl refl refl refl refl (λ _ _. refl) refl refl refl
  exp_node (exp.Assign assignment.Add) l m parts i j le high left o M = by_operator (form.Exp (exp.Assign assignment.Add)) 15 punct.PlusEqual l m parts i j le high left o M (held_so (shape.Punct punct.PlusEqual) (raw_at w M.place.place) M.are_others.0.0) refl refl refl refl refl (λ _ _. refl) refl refl refl
  exp_node (exp.Assign assignment.Subtract) l m parts i j le high left o M = by_operator (form.Exp (exp.Assign assignment.Subtract)) 15 punct.MinusEqual l m parts i j le high left o M (held_so (shape.Punct punct.MinusEqual) (raw_at w M.place.place) M.are_others.0.0) refl refl refl refl refl (λ _ _. refl) refl refl refl
  exp_node (exp.Assign assignment.ShiftLeft) l m parts i j le high left o M = by_operator (form.Exp (exp.Assign assignment.ShiftLeft)) 15 punct.ShiftLeftEqual l m parts i j le high left o M (held_so (shape.Punct punct.ShiftLeftEqual) (raw_at w M.place.place) M.are_others.0.0) refl refl refl refl refl (λ _ _. refl) refl refl refl
  exp_node (exp.Assign assignment.ShiftRight) l m parts i j le high left o M = by_operator (form.Exp (exp.Assign assignment.ShiftRight)) 15 punct.ShiftRightEqual l m parts i j le high left o M (held_so (shape.Punct punct.ShiftRightEqual) (raw_at w M.place.place) M.are_others.0.0) refl refl refl refl refl (λ _ _. refl) refl refl refl
  exp_node (exp.Assign assignment.BitAnd) l m parts i j le high left o M = by_operator (form.Exp (exp.Assign assignment.BitAnd)) 15 punct.AmpersandEqual l m parts i j le high left o M (held_so (shape.Punct punct.AmpersandEqual) (raw_at w M.place.place) M.are_others.0.0) refl refl refl refl refl (λ _ _. refl) refl refl refl
  exp_node (exp.Assign assignment.BitXor) l m parts i j le high left o M = by_operator (form.Exp (exp.Assign assignment.BitXor)) 15 punct.CaretEqual l m parts i j le high left o M (held_so (shape.Punct punct.CaretEqual) (raw_at w M.place.place) M.are_others.0.0) refl refl refl refl refl (λ _ _. refl) refl refl refl
  exp_node (exp.Assign assignment.BitOr) l m parts i j le high left o M = by_operator (form.Exp (exp.Assign assignment.BitOr)) 15 punct.BarEqual l m parts i j le high left o M (held_so (shape.Punct punct.BarEqual) (raw_at w M.place.place) M.are_others.0.0) refl refl refl refl refl (λ _ _. refl) refl refl refl

  -- ---- any expression

  paren_off : (k : Spot) → Is w (class.Punct punct.RightParen) k → Off (goes_on s.Exp 1) w k.place
  paren_off k c = off (class_number (class.Punct punct.RightParen) ∷ []) (goes_on s.Exp 1) w k.place refl (on_here (class_number (class.Punct punct.RightParen) ∷ []) w k (single (class_number (class.Punct punct.RightParen)) (class_at w k) c))

  abbrev paren_type : ℕ → Spot → Reader Standing
  paren_type l i = tight l (form.Exp exp.Cast) (completed called s.Exp (form.Exp exp.Cast) i.place nothing (after_paren (pieces (form.Exp exp.Cast))))

  wrapped : (l m : ℕ) (t : Plain) (i j : Spot) → Wraps levels deeper w s.Exp t i j → RisesExp body d w part l (top + 1) i t m j
  wrapped l m t i j W =
      let L = DC s.Exp 1 t (step i) W.last refl W.within (paren_off W.last W.closes) in
      let G : Got (read body d (parenthesized s.Exp) (from w (step i))) top t w j = in_parens body d w s.Exp top t (step i) W.last j L W.closes W.ends in
      let S : read body d (standing 17 (parenthesized s.Exp)) (from w (step i)) ≡ Ok (stand t G.height 17, from w j) = stands_at body d w 17 (parenthesized s.Exp) top t (step i) j G in
      let B : has (starts s.Exp) (class_at w (step i)) ≡ true = elim (DB s.Exp 1 t (step i) W.last refl W.within) [ inl b ↦ b.0 | inr e ↦ absurd (cc e.0) ] in
      begin body d w s.Exp l i.place (Enters body d w l i) (primary part l) (top + 1) i t m G.height 17 j (inr refl) (omega (arith, G.low))
      (at_primary l i true (is_it w (class.Punct punct.LeftParen) i W.opens) ∙ fits_here (type_or (paren_type l i) (standing 17 (parenthesized s.Exp))) i W.left
      ∙ in_type (paren_type l i) (standing 17 (parenthesized s.Exp)) i false W.begins ∙ S)
      (λ _ _. (W.begins, ap (λ b. read body d (choose b (Fits 0 (standing 17 (parenthesized s.Exp))) Refuse) (from w (step i))) B ∙ fits_here (standing 17 (parenthesized s.Exp)) (step i) W.left ∙ S))

  by_node : (l m : ℕ) (t : Plain) (i j : Spot) → IsNode levels deeper inner w s.Exp m t i j → l ≤ m → EndOff s.Exp w m j → RisesExp body d w part l (top + 1) i t m j
  by_node l m t i j N le o =
      let g = exp_is t.form N.may in
      let M : (m ≤ level (form.Exp g.0)) × (Levels (is_starred (form.Exp g.0)) levels × Here (form.Exp g.0) (pieces (form.Exp g.0)) N.parts i j) =
      subst (λ f. (m ≤ level f) × (Levels (is_starred f) levels × Here f (pieces f) N.parts i j)) g.1 (N.tight, (N.left, N.matches)) in
      let X : Goal l m (form.Exp g.0) N.parts i j = exp_node g.0 l m N.parts i j le M.0 M.1.0 (o (level (form.Exp g.0)) (inl M.0)) M.1.1 in
      subst (λ t. RisesExp body d w part l (top + 1) i t m j) (ap (λ f. forests.node f (spanned i.place j.place) N.parts) (sym g.1) ∙ sym N.value) X

  pub exp_rises : (l m : ℕ) (t : Plain) (i j : Spot) → IsNode levels deeper inner w s.Exp m t i j ⊎ Wraps levels deeper w s.Exp t i j → l ≤ m → EndOff s.Exp w m j → RisesExp body d w part l (top + 1) i t m j
  exp_rises l m t i j (inl N) le o = by_node l m t i j N le o
  exp_rises l m t i j (inr W) le o = wrapped l m t i j W

  pub exp_read : (least : ℕ) (t : Plain) (i j : Spot) → IsNode levels deeper inner w s.Exp least t i j ⊎ Wraps levels deeper w s.Exp t i j → Off (goes_on s.Exp least) w j.place → Got (read body d (expression part least) (from w i)) top t w j
  unfolding expression
  exp_read least t i j A o = finish body d w s.Exp least i.place (Enters body d w least i) (primary part least) top i t least j refl (exp_rises least least t i j A (omega arith) (end_off least w j o)) o

  -- after the parenthesis that it begins with
  pub opened_read : (t : Plain) (i j : Spot) → IsNode levels deeper inner w s.Exp 15 t i j ⊎ Wraps levels deeper w s.Exp t i j → Is w (class.Punct punct.LeftParen) i → Off (goes_on s.Exp 15) w j.place
      → (has (starts s.TypeName) (class_at w (aside (step i))) ≡ false) × Got (read body d opened (from w (step i))) top t w j
  unfolding opened
  opened_read t i j A c o =
      let R = exp_rises 15 15 t i j A (omega arith) (end_off 15 w j o) in
      let K = R.kept (omega arith) c in
      let back : (step i).place - 1 ≡ i.place = omega arith in (
        K.0,
        record {
          height = R.height;
          low = omega (arith, R.low);
          reads = ap (λ o. and_then o (λ y j. read body d (climb s.Exp 15 ((step i).place - 1) y) j)) K.1
              ∙ ap (λ n. read body d (climb s.Exp 15 n R.first) (from w R.place)) back
              ∙ ends_at body d w s.Exp 15 i.place (Enters body d w 15 i) (primary part 15) (top + 1) i t 15 j refl R o;
        },
      )
