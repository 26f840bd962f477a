-- What spells a declarator without a name is read (ISO/IEC 9899:1990, 6.5.5).
use Rattle.std.proofs.Common.{◌≡◌, ◌⊎◌, inl, inr, refl, subst, ap, sym, ◌∙◌, ℕ, ◌+◌, ◌<◌, ◌≤◌, nat_lt, Bool, true, false, ◌&&◌, List, [], ◌∷◌, nat_eq, Some, Ok, arith}
use Rattle.std.proofs.lemmas.Bool.{lt-ltb, or_from, or_left, or_right}
use borrow.Author.Tests.{ltb-false}
use Rattle.c_tokens.specs.declared.token.Punct.{Punct}
use Rattle.c_tokens.specs.declared.token.Punct.TheVariants as punct
use Rattle.c_tokens.specs.declared.token.Shape.{Shape}
use Rattle.c_tokens.specs.declared.token.Shape.TheVariants as shape
use Rattle.c_tokens.specs.declared.class.Class.TheVariants as class
use Rattle.c_tokens.specs.ClassNumbers.{class_number}
use Rattle.c_forms.specs.declared.pieces.Event.TheVariants as event
use Rattle.c_forms.specs.declared.pieces.Sort.TheVariants as s
use Rattle.c_forms.specs.declared.pieces.Piece.{Piece}
use Rattle.c_forms.specs.declared.forms.Form.{Form}
use Rattle.c_forms.specs.declared.forms.Form.TheVariants as form
use Rattle.c_forms.specs.Forests.{Plain}
use Rattle.c_forms.specs.Forests as forests
use Rattle.c_forms.specs.Measures.{level, pieces}
use Rattle.c_forms.specs.Tokens.{continued}
use Rattle.c_forms.specs.Sets.{has, given, goes_on, all_puncts}
use Rattle.c_reader.specs.States.{class as class_in, happens}
use Rattle.c_reader.specs.Tokens.{Spot, step, turned, raw_at, seen_at, class_at}
use Rattle.c_reader.specs.Readers.{Reader, Body, Give, Refuse, Look, Next, Fits, read, choose, when}
use Rattle.c_reader.proofs.Local.{from}
use Rattle.c_reader.proofs.Sets.{both, contrary, single, only_single, same_class, either}
use Rattle.c_syntax.specs.Allowed.{places}
use Rattle.c_syntax.specs.Reading.{Parts, one, deeper as deeper_one, called, is_starred, spanned, is_class, is_absent, Usual, completed}
use Rattle.c_syntax.specs.Grammar.{begins_parenthesized, absent_at, the_declarator, nameless_function, opened_declarator, declarator_head, declarator_of, is_value, may_be_absent, may_be_named, Standing, standing, left_level, after_first, may_follow, tight, whole, parenthesized}
use Rattle.c_syntax.specs.Spells.{Spelling, Is, Matches, Levels, parts_spelled, IsNode, Wraps, may_be, ValueWord, Parted}
use Rattle.c_spelled.specs.Fitting.{parted, opens, reads, follows, fitting, blank, needs, bound}
use Rattle.c_spelled.specs.Operators.{unapt, loose, prefix, tails, operands_fit}
use Rattle.c_spelled.proofs.Off.{Off, on_here, off, off_both, off_left}
use Rattle.c_spelled.proofs.Opens.{starts_so}
use Rattle.c_spelled.proofs.Begins.{AllBegin}
use Rattle.c_spelled.proofs.Groups.{Got}
use Rattle.c_spelled.proofs.Pieces.{AllRead, is_it, is_not}
use Rattle.c_spelled.proofs.Shapes.{is_punct}
use Rattle.c_spelled.proofs.Nodes.{Room, off_within, same_got, whole_read, the_parts, complete_node}
use Rattle.c_spelled.proofs.Levels.{off_unapt, off_operator, not_less, goes_split}
use Rattle.c_spelled.proofs.Alone.{abstract_is}
use Rattle.c_spelled.proofs.Balance.{AllSame, group_same}
use Rattle.c_spelled.proofs.Operands.{EndOff, apt_so}
use Rattle.c_forms.specs.declared.pieces.Repetition.TheVariants.{Optional}
use Rattle.c_forms.specs.declared.forms.DeclaratorForm.{DeclaratorForm}
use Rattle.c_forms.specs.declared.forms.DeclaratorForm.TheVariants as declarator
use Rattle.c_spelled.proofs.Climb.{AllCalled, called_read, in_parens, Tight, tight_in, stand, stands_at, tight_at, begin, longer, finish}
use Rattle.c_spelled.proofs.Heads.{heads, Clear, RisesSo, There, seal_so, not_class}

module _ (body : Body) (d top : ℕ) (w : List Shape) (levels : Type 0) (room : Room levels d top) (under : top ≤ d) (deeper inner : Spelling) (part : Parts)
    (DB : AllBegin w deeper) (IB : AllBegin w inner) (DC : AllCalled body d top w deeper) (IE : AllRead body d top w 1 inner part) (ID : (least : ℕ) (t : Plain) (i j : Spot) → inner s.DeclaredId least t i j → ValueWord w t i)
    (DS : AllSame deeper) (DT : (m : ℕ) (t : Plain) (i k : Spot) → deeper s.AbstractDeclarator m t i k → There s.AbstractDeclarator t i k)
    (DR : (m l : ℕ) (t : Plain) (i k : Spot) → deeper s.AbstractDeclarator m t i k → l ≤ m → EndOff s.AbstractDeclarator w m k → Clear s.AbstractDeclarator w t k → RisesSo body d w part s.AbstractDeclarator l top i t m k) where
  abbrev DE : AllRead body d top w places deeper called
  DE = called_read body d top w deeper DC

  abbrev Here : Form → List Piece → List Plain → Spot → Spot → Type 0
  Here f ps ts i j = Matches (parts_spelled (is_starred f) deeper inner) w s.AbstractDeclarator f Usual ps ts i j

  abbrev Goal : ℕ → ℕ → Form → List Plain → Spot → Spot → Type 0
  Goal l m f parts i j = RisesSo body d w part s.AbstractDeclarator l (top + 1) i (forests.node f (spanned i.place j.place) parts) m j

  abbrev if_nothing : Spot → Reader Standing
  if_nothing i = choose (may_be_absent s.AbstractDeclarator) (Give (record { found = absent_at i.place; level = 17 })) Refuse

  abbrev if_other : ℕ → Spot → Bool → Reader Standing
  if_other l i b = choose b (tight l (the_declarator declarator.Pointer) (whole part s.AbstractDeclarator (the_declarator declarator.Pointer)))
      (choose (is_value (seen_at w i) && may_be_named s.AbstractDeclarator) (standing 17 (whole part s.AbstractDeclarator (the_declarator declarator.Named))) (if_nothing i))

  at_head : (l : ℕ) (i : Spot) (b : Bool) → is_class (class.Punct punct.LeftParen) (seen_at w i) ≡ b → read body d (declarator_head part s.AbstractDeclarator l) (from w i) ≡ read body d (choose b (opened_declarator s.AbstractDeclarator i.place) (if_other l i (is_class (class.Punct punct.Star) (seen_at w i)))) (from w i)
  unfolding declarator_head
  at_head l i b e = ap (λ b. read body d (choose b (opened_declarator s.AbstractDeclarator i.place) (if_other l i (is_class (class.Punct punct.Star) (seen_at w i)))) (from w i)) e

  fits_here : (r : Reader Standing) (i : Spot) → levels → read body d (Fits 0 r) (from w i) ≡ read body d r (from w i)
  fits_here r i l = ap (λ b. when b (read body d r (from w i)) i.place) (lt-ltb 0 d (room l).0)

  node_of : (f : Form) (l : ℕ) (parts : List Plain) (i j : Spot) → Levels (is_starred f) levels → Off (unapt s.AbstractDeclarator (level f)) w j.place → Here f (pieces f) parts i j → operands_fit s.AbstractDeclarator f (pieces f) ≡ true → needs s.AbstractDeclarator (pieces f) ≤ bound (is_starred f) 1
      → Got (read body d (whole part s.AbstractDeclarator f) (from w i)) top (forests.node f (spanned i.place j.place) parts) w j
  node_of f l parts i j left o M F N =
      let fit = both (reads s.AbstractDeclarator (pieces f)) _ F in
      let fit' = both (fitting s.AbstractDeclarator f (pieces f)) _ fit.1 in
      whole_read body d top w levels room 1 deeper inner part DB IB DE IE s.AbstractDeclarator f parts i j left fit.0 N fit'.0 (off_within (follows s.AbstractDeclarator (pieces f)) (unapt s.AbstractDeclarator (level f)) w j.place fit'.1 o) M

  looser : (m n l : ℕ) → m ≤ n → Tight n l → Tight m l
  looser m n l e (inl k) = inl (omega (arith, e, k))
  looser m n l e (inr k) = inr k

  no_prefix : (l : ℕ) (k : Spot) → Tight 2 l → Off (given (nat_lt l 2) (goes_on s.AbstractDeclarator l)) w k.place
  no_prefix l k T = λ state. ap (λ b. has (given b (goes_on s.AbstractDeclarator l)) (class_in state (raw_at w k.place))) (not_less l 2 (tight_in 2 l (omega arith) T))

  by_operator : (f : Form) (p : Punct) (l m : ℕ) (parts : List Plain) (i j : Spot) → l ≤ m → m ≤ level f → level f ≡ 2 → levels → Off (unapt s.AbstractDeclarator (level f)) w j.place
      → (M : Parted (deeper s.AbstractDeclarator 2) (λ t. Matches deeper w s.AbstractDeclarator f Usual (after_first (pieces f))) parts i j)
      → raw_at w M.place.place ≡ shape.Punct p → continued s.AbstractDeclarator p ≡ Some f → left_level (pieces f) ≡ 2 → is_starred f ≡ true
      → may_follow s.AbstractDeclarator M.place.state M.first f ≡ true → Clear s.AbstractDeclarator w M.first M.place → operands_fit s.AbstractDeclarator f (after_first (pieces f)) ≡ true → nat_lt places (needs s.AbstractDeclarator (after_first (pieces f))) ≡ false → blank s.AbstractDeclarator Usual (after_first (pieces f)) ≡ false → Goal l m f parts i j
  by_operator f p l m parts i j le high two left o M raw found left_is star follow clear F N bl =
      let k : Spot = M.place in
      let R : RisesSo body d w part s.AbstractDeclarator l top i M.first 2 k = DR 2 l M.first i k M.is_first (omega (arith, le, high, two)) (λ l' T. off_both (given (nat_lt l' 2) (goes_on s.AbstractDeclarator l')) (loose s.AbstractDeclarator l' all_puncts) w k.place
      (no_prefix l' k T) (off_operator s.AbstractDeclarator l' p f w k raw found (apt_so f 2 l' (omega (arith, two)) (omega arith) left_is T))) clear in
      let ahead : k.place < j.place = elim (starts_so w deeper DB s.AbstractDeclarator f Usual (after_first (pieces f)) M.others k j (both (reads s.AbstractDeclarator (after_first (pieces f))) _ F).0 M.are_others) [
        | inl s ↦ s.less
        | inr b ↦ absurd (contrary (blank s.AbstractDeclarator Usual (after_first (pieces f))) b.may bl)
      ] in
      let X = longer body d w s.AbstractDeclarator l i.place (λ _ _. Unit {0}) deeper top DB DE (declarator_head part s.AbstractDeclarator l) i k j M.first M.others f 2 (after_first (pieces f)) p refl (room left) under R (omega arith) (omega (arith, le, high)) raw found left_is refl star follow F
      (ltb-false places (needs s.AbstractDeclarator (after_first (pieces f))) N) o M.are_others ahead in
      let made : RisesSo body d w part s.AbstractDeclarator l (top + 1) i (forests.node f (spanned i.place j.place) parts) (level f) j =
      subst (λ ts. RisesSo body d w part s.AbstractDeclarator l (top + 1) i (forests.node f (spanned i.place j.place) ts) (level f) j) (sym M.value) X in
      record { level = made.level; tight = looser m (level f) made.level high made.tight; height = made.height; low = made.low; first = made.first; place = made.place; start = made.start; comes = made.comes; kept = made.kept }

  -- a bracket or a parenthesis after nothing
  sign_clear : (p : Punct) (t : Plain) (k : Spot) → Is w (class.Punct p) k → parted (class_number (class.Punct p) ∷ []) (heads s.AbstractDeclarator) ≡ true → Clear s.AbstractDeclarator w t k
  sign_clear p t k c P _ = off (class_number (class.Punct p) ∷ []) (heads s.AbstractDeclarator) w k.place P (on_here (class_number (class.Punct p) ∷ []) w k (single (class_number (class.Punct p)) (class_at w k) c))

  paren_off : (k : Spot) → Is w (class.Punct punct.RightParen) k → Off (goes_on s.AbstractDeclarator 1) w k.place
  paren_off k c = off (class_number (class.Punct punct.RightParen) ∷ []) (goes_on s.AbstractDeclarator 1) w k.place refl (on_here (class_number (class.Punct punct.RightParen) ∷ []) w k (single (class_number (class.Punct punct.RightParen)) (class_at w k) c))

  array : (l m : ℕ) (parts : List Plain) (i j : Spot) → l ≤ m → m ≤ 2 → levels → Off (unapt s.AbstractDeclarator 2) w j.place → Here (form.Declarator declarator.ArrayOf) (pieces (form.Declarator declarator.ArrayOf)) parts i j → Goal l m (form.Declarator declarator.ArrayOf) parts i j
  array l m parts i j le high v o M =
      let k : Spot = M.place in
      let X = M.are_others.1.1 in
      let S = group_same w deeper DS Optional s.Exp 3 Usual X.is_first.0 (turned (happens event.Aside) (step k)) X.place refl X.is_first.1.1 in
      by_operator (form.Declarator declarator.ArrayOf) punct.LeftBracket l m parts i j le high refl v o M (is_punct k.state (raw_at w k.place) punct.LeftBracket M.are_others.0) refl refl refl
      (seal_so k.state (k.state.kept ∷ k.state.aside) refl X.place.state S X.are_others.1.0) (sign_clear punct.LeftBracket M.first k M.are_others.0 refl) refl refl refl

  abbrev after_open : Spot → Bool → Reader Standing
  after_open i b = choose b (standing 17 (parenthesized s.AbstractDeclarator)) (nameless_function s.AbstractDeclarator i.place)

  at_open : (i : Spot) (b : Bool) → levels → begins_parenthesized (seen_at w (step i)) ≡ b → read body d (opened_declarator s.AbstractDeclarator i.place) (from w i) ≡ read body d (after_open i b) (from w (step i))
  at_open i b v e = fits_here (Next (Look (λ y. after_open i (begins_parenthesized y)))) i v ∙ ap (λ b. read body d (after_open i b) (from w (step i))) e

  and_no : (b : Bool) → (b && false) ≡ false
  and_no true = refl
  and_no false = refl

  no_begin : (i : Spot) → Off (class_number (class.Punct punct.Star) ∷ (class_number (class.Punct punct.LeftBracket) ∷ (class_number (class.Punct punct.LeftParen) ∷ []))) w i.place → begins_parenthesized (seen_at w i) ≡ false
  no_begin i o = let all : List ℕ = class_number (class.Punct punct.Star) ∷ (class_number (class.Punct punct.LeftBracket) ∷ (class_number (class.Punct punct.LeftParen) ∷ [])) in
      or_from (is_class (class.Punct punct.Star) (seen_at w i)) _ (is_not w (class.Punct punct.Star) i (off_within (class_number (class.Punct punct.Star) ∷ []) all w i.place refl o))
      (or_from (is_class (class.Punct punct.LeftBracket) (seen_at w i)) _ (is_not w (class.Punct punct.LeftBracket) i (off_within (class_number (class.Punct punct.LeftBracket) ∷ []) all w i.place refl o))
      (is_not w (class.Punct punct.LeftParen) i (off_within (class_number (class.Punct punct.LeftParen) ∷ []) all w i.place refl o)))

  -- parameters after nothing
  nameless : (l m : ℕ) (parts : List Plain) (i j : Spot) → l ≤ m → m ≤ 2 → levels → Off (unapt s.AbstractDeclarator 2) w j.place → (M : Here (form.Declarator declarator.FunctionOf) (pieces (form.Declarator declarator.FunctionOf)) parts i j) → i ≡ M.place → M.first ≡ (absent_at i.place).tree
      → Goal l m (form.Declarator declarator.FunctionOf) parts i j
  nameless l m parts i j le high v o M at nothing_there =
      let f : Form = form.Declarator declarator.FunctionOf in
      let t : Plain = forests.node f (spanned i.place j.place) parts in
      let X : Matches deeper w s.AbstractDeclarator f Usual (after_first (pieces f)) M.others i j = subst (λ k. Matches deeper w s.AbstractDeclarator f Usual (after_first (pieces f)) M.others k j) (sym at) M.are_others in
      let rest : List Piece = after_first (after_first (pieces f)) in
      let P = the_parts body d top w levels room 1 deeper inner part DB IB DE IE s.AbstractDeclarator f rest M.others (step i) j refl (omega arith) refl (off_within (follows s.AbstractDeclarator rest) (unapt s.AbstractDeclarator 2) w j.place refl o) X.1 in
      let some = (room v).1 in
      let C = complete_node body d top w levels room 1 deeper inner part DB IB DE IE s.AbstractDeclarator f i.place (one (deeper_one (absent_at i.place))) rest M.others (step i) j v (omega (arith, some)) P in
      let same : forests.node f (spanned i.place j.place) ((absent_at i.place).tree ∷ M.others) ≡ t = ap (λ ps. forests.node f (spanned i.place j.place) ps) (ap (λ t. t ∷ M.others) (sym nothing_there) ∙ sym M.value) in
      let G : Got (read body d (completed called s.AbstractDeclarator f i.place (one (deeper_one (absent_at i.place))) rest) (from w (step i))) top t w j = same_got top w t (forests.node f (spanned i.place j.place) ((absent_at i.place).tree ∷ M.others)) j _ _ refl (sym same) C in
      let begun = starts_so w deeper DB s.AbstractDeclarator f Usual rest M.others (step i) j refl X.1 in
      let set : List ℕ = class_number (class.Punct punct.Star) ∷ (class_number (class.Punct punct.LeftBracket) ∷ (class_number (class.Punct punct.LeftParen) ∷ [])) in
      let off_here : Off set w (step i).place = elim begun [
        | inl x ↦ off (opens s.AbstractDeclarator f rest) set w (step i).place refl (record { state = x.state; isin = x.isin })
        | inr b ↦ absurd (cc b.may)
      ] in
      begin body d w s.AbstractDeclarator l i.place (λ _ _. Unit {0}) (declarator_head part s.AbstractDeclarator l) (top + 1) i t m G.height 2 j (inl high) (omega (arith, G.low))
      (at_head l i true (is_it w (class.Punct punct.LeftParen) i X.0) ∙ at_open i false v (no_begin (step i) off_here)
      ∙ stands_at body d w 2 (completed called s.AbstractDeclarator f i.place (one (deeper_one (absent_at i.place))) rest) top t (step i) j G) tt

  begun_so : (i : Spot) → has (class_number (class.Punct punct.Star) ∷ (class_number (class.Punct punct.LeftBracket) ∷ (class_number (class.Punct punct.LeftParen) ∷ []))) (class_at w i) ≡ true → begins_parenthesized (seen_at w i) ≡ true
  begun_so i h = elim (either (nat_eq (class_number (class.Punct punct.Star)) (class_at w i)) _ h) [
    | inl e ↦ or_left (is_class (class.Punct punct.Star) (seen_at w i)) _ (is_it w (class.Punct punct.Star) i (sym (same_class (class_number (class.Punct punct.Star)) (class_at w i) e)))
    | inr h ↦ or_right (is_class (class.Punct punct.Star) (seen_at w i)) _ (elim (either (nat_eq (class_number (class.Punct punct.LeftBracket)) (class_at w i)) _ h) [
      | inl e ↦ or_left (is_class (class.Punct punct.LeftBracket) (seen_at w i)) _ (is_it w (class.Punct punct.LeftBracket) i (sym (same_class (class_number (class.Punct punct.LeftBracket)) (class_at w i) e)))
      | inr h ↦ or_right (is_class (class.Punct punct.LeftBracket) (seen_at w i)) _ (is_it w (class.Punct punct.LeftParen) i (only_single (class_number (class.Punct punct.LeftParen)) (class_at w i) h))
    ])
  ]

  function : (l m : ℕ) (parts : List Plain) (i j : Spot) → l ≤ m → m ≤ 2 → levels → Off (unapt s.AbstractDeclarator 2) w j.place → Here (form.Declarator declarator.FunctionOf) (pieces (form.Declarator declarator.FunctionOf)) parts i j → Goal l m (form.Declarator declarator.FunctionOf) parts i j
  function l m parts i j le high v o M = elim (DT 2 M.first i M.place M.is_first) [
    | inl e ↦ by_operator (form.Declarator declarator.FunctionOf) punct.LeftParen l m parts i j le high refl v o M (is_punct M.place.state (raw_at w M.place.place) punct.LeftParen M.are_others.0) refl refl refl
        refl (λ y. absurd (contrary (is_absent M.first) y e)) refl refl refl
    | inr e ↦ nameless l m parts i j le high v o M e.0 e.1
  ]

  decl_node : (g : DeclaratorForm) (l m : ℕ) (parts : List Plain) (i j : Spot) → l ≤ m → m ≤ level (form.Declarator g) → Levels (is_starred (form.Declarator g)) levels → Off (unapt s.AbstractDeclarator (level (form.Declarator g))) w j.place
      → Clear s.AbstractDeclarator w (forests.node (form.Declarator g) (spanned i.place j.place) parts) j → may_be s.AbstractDeclarator (form.Declarator g) ≡ true → Here (form.Declarator g) (pieces (form.Declarator g)) parts i j → Goal l m (form.Declarator g) parts i j
  decl_node declarator.Named l m parts i j le high v o clear may M = absurd (cc may)
  decl_node declarator.Absent l m parts i j le high v o clear may M =
      let out : Off (heads s.AbstractDeclarator) w i.place = subst (λ (k : Spot). Off (heads s.AbstractDeclarator) w k.place) (sym M.1) (clear refl) in
      let made : (absent_at i.place).tree ≡ forests.node (form.Declarator declarator.Absent) (spanned i.place j.place) parts = ap (λ (k : Spot). forests.node (form.Declarator declarator.Absent) (spanned i.place k.place) []) M.1 ∙ ap (λ ps. forests.node (form.Declarator declarator.Absent) (spanned i.place j.place) ps) (sym M.0) in
      begin body d w s.AbstractDeclarator l i.place (λ _ _. Unit {0}) (declarator_head part s.AbstractDeclarator l) (top + 1) i (forests.node (form.Declarator declarator.Absent) (spanned i.place j.place) parts) m 0 17 j (inl high) (omega arith)
      (at_head l i false (is_not w (class.Punct punct.LeftParen) i (off_within (class_number (class.Punct punct.LeftParen) ∷ []) (heads s.AbstractDeclarator) w i.place refl out))
      ∙ ap (λ b. read body d (if_other l i b) (from w i)) (is_not w (class.Punct punct.Star) i (off_within (class_number (class.Punct punct.Star) ∷ []) (heads s.AbstractDeclarator) w i.place refl out))
      ∙ ap (λ b. read body d (choose b (standing 17 (whole part s.AbstractDeclarator (the_declarator declarator.Named))) (if_nothing i)) (from w i)) (and_no (is_value (seen_at w i)))
      ∙ ap (λ t. Ok (stand t 0 17, from w i)) made ∙ ap (λ k. Ok (stand (forests.node (form.Declarator declarator.Absent) (spanned i.place j.place) parts) 0 17, from w k)) M.1) tt
  decl_node declarator.Pointer l m parts i j le high v o clear may M =
      let f : Form = form.Declarator declarator.Pointer in
      let G = node_of f l parts i j v o M refl (omega arith) in
      begin body d w s.AbstractDeclarator l i.place (λ _ _. Unit {0}) (declarator_head part s.AbstractDeclarator l) (top + 1) i (forests.node f (spanned i.place j.place) parts) m G.height 1 j (inl high) (omega (arith, G.low))
      (at_head l i false (not_class w (class.Punct punct.LeftParen) i (class_number (class.Punct punct.Star)) M.0 refl) ∙ ap (λ b. read body d (if_other l i b) (from w i)) (is_it w (class.Punct punct.Star) i M.0)
      ∙ tight_at body d w l f (whole part s.AbstractDeclarator f) top (forests.node f (spanned i.place j.place) parts) i j G (omega (arith, le, high))) tt
  decl_node declarator.ArrayOf l m parts i j le high v o clear may M = array l m parts i j le high v o M
  decl_node declarator.FunctionOf l m parts i j le high v o clear may M = function l m parts i j le high v o M

  wrapped : (l m : ℕ) (t : Plain) (i j : Spot) → Wraps levels deeper w s.AbstractDeclarator t i j → RisesSo body d w part s.AbstractDeclarator l (top + 1) i t m j
  wrapped l m t i j W =
      let L = DC s.AbstractDeclarator 1 t (step i) W.last refl W.within (paren_off W.last W.closes) in
      let G : Got (read body d (parenthesized s.AbstractDeclarator) (from w (step i))) top t w j = in_parens body d w s.AbstractDeclarator top t (step i) W.last j L W.closes W.ends in
      let S : read body d (standing 17 (parenthesized s.AbstractDeclarator)) (from w (step i)) ≡ Ok (stand t G.height 17, from w j) = stands_at body d w 17 (parenthesized s.AbstractDeclarator) top t (step i) j G in
      begin body d w s.AbstractDeclarator l i.place (λ _ _. Unit {0}) (declarator_head part s.AbstractDeclarator l) (top + 1) i t m G.height 17 j (inr refl) (omega (arith, G.low))
      (at_head l i true (is_it w (class.Punct punct.LeftParen) i W.opens) ∙ at_open i true W.left (begun_so (step i) W.begins) ∙ S) tt

  pub rises : (l m : ℕ) (t : Plain) (i j : Spot) → IsNode levels deeper inner w s.AbstractDeclarator m t i j ⊎ Wraps levels deeper w s.AbstractDeclarator t i j → l ≤ m → EndOff s.AbstractDeclarator w m j → Clear s.AbstractDeclarator w t j → RisesSo body d w part s.AbstractDeclarator l (top + 1) i t m j
  rises l m t i j (inl N) le o clear =
      let g = abstract_is t.form N.may in
      let M : (m ≤ level (form.Declarator g.0)) × (Levels (is_starred (form.Declarator g.0)) levels × ((may_be s.AbstractDeclarator (form.Declarator g.0) ≡ true) × Here (form.Declarator g.0) (pieces (form.Declarator g.0)) N.parts i j)) =
      subst (λ f. (m ≤ level f) × (Levels (is_starred f) levels × ((may_be s.AbstractDeclarator f ≡ true) × Here f (pieces f) N.parts i j))) g.1 (N.tight, (N.left, (N.may, N.matches))) in
      let same : forests.node (form.Declarator g.0) (spanned i.place j.place) N.parts ≡ t = ap (λ f. forests.node f (spanned i.place j.place) N.parts) (sym g.1) ∙ sym N.value in
      subst (λ t. RisesSo body d w part s.AbstractDeclarator l (top + 1) i t m j) same (decl_node g.0 l m N.parts i j le M.0 M.1.0 (o (level (form.Declarator g.0)) (inl M.0)) (λ e. clear (ap is_absent (sym same) ∙ e)) M.1.1.0 M.1.1.1)
  rises l m t i j (inr W) le o clear = wrapped l m t i j W

  end_off : (least : ℕ) (j : Spot) → Off (goes_on s.AbstractDeclarator least) w j.place → EndOff s.AbstractDeclarator w least j
  end_off least j o l (inl le) = off_unapt s.AbstractDeclarator least l w j.place refl le o
  end_off least j o l (inr e) = subst (λ l. Off (unapt s.AbstractDeclarator l) w j.place) (sym e) (λ _. refl)

  clear_off : (least : ℕ) (t : Plain) (i j : Spot) → IsNode levels deeper inner w s.AbstractDeclarator least t i j ⊎ Wraps levels deeper w s.AbstractDeclarator t i j → Off (goes_on s.AbstractDeclarator least) w j.place → Clear s.AbstractDeclarator w t j
  clear_off least t i j A o e = off_within (heads s.AbstractDeclarator) (prefix s.AbstractDeclarator) w j.place refl (off_left (prefix s.AbstractDeclarator) (tails s.AbstractDeclarator least all_puncts) w j.place (subst (λ a. Off a w j.place) (goes_split s.AbstractDeclarator least refl) o))

  pub declarator_read : (least : ℕ) (t : Plain) (i j : Spot) → IsNode levels deeper inner w s.AbstractDeclarator least t i j ⊎ Wraps levels deeper w s.AbstractDeclarator t i j → Off (goes_on s.AbstractDeclarator least) w j.place → Got (read body d (declarator_of part s.AbstractDeclarator least) (from w i)) top t w j
  unfolding declarator_of
  declarator_read least t i j A o = finish body d w s.AbstractDeclarator least i.place (λ _ _. Unit {0}) (declarator_head part s.AbstractDeclarator least) top i t least j refl (rises least least t i j A (omega arith) (end_off least j o) (clear_off least t i j A o)) o
