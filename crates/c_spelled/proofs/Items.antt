-- What spells an external declaration is read (ISO/IEC 9899:1990, 6.7).
use Rattle.std.proofs.Common.{◌≡◌, inl, inr, refl, subst, ap, sym, ◌∙◌, ℕ, ◌<◌, ◌≤◌, max, not, Bool, true, false, ◌||◌, ◌&&◌, List, [], ◌∷◌, nat_eq, Some, Ok, arith}
use Rattle.c_tokens.specs.declared.token.Shape.{Shape}
use Rattle.c_tokens.specs.declared.token.Shape.TheVariants as shape
use Rattle.c_tokens.specs.declared.token.Punct.{Punct}
use Rattle.c_tokens.specs.declared.token.Punct.TheVariants as punct
use Rattle.c_tokens.specs.ClassNumbers.{class_number}
use Rattle.c_forms.specs.declared.pieces.Sort.{Sort}
use Rattle.c_forms.specs.declared.pieces.Sort.TheVariants as s
use Rattle.c_forms.specs.declared.forms.Form.{Form}
use Rattle.c_forms.specs.declared.forms.Form.TheVariants as form
use Rattle.c_forms.specs.declared.forms.GroupForm.TheVariants as group
use Rattle.c_forms.specs.Forests.{Plain}
use Rattle.c_forms.specs.Forests as forests
use Rattle.c_forms.specs.Measures.{pieces}
use Rattle.c_forms.specs.Sets.{Classes, has, starts, goes_on, may_be_empty}
use Rattle.c_reader.specs.States.{is_function, seen}
use Rattle.c_reader.specs.Tokens.{Spot, raw_at, seen_at, class_at}
use Rattle.c_reader.specs.Readers.{Found, Outcome, Look, Ask, read, and_then, choose}
use Rattle.c_reader.proofs.Local.{from}
use Rattle.c_reader.proofs.Sets.{contrary, single, only_single}
use Rattle.c_syntax.specs.Allowed.{places}
use Rattle.c_syntax.specs.Reading.{Usual, before_by, Gathered, one, with_last, none_at, list_from, the_list, node, gathered, gathered_by, grouped, others, Parts, called, is_absent, is_starred, spanned}
use Rattle.c_syntax.specs.Grammar.{sign, is_sign, after_first, goes_on_declaring, function_from, declaration_of, declaration_from, outer_by, outer, specified, unspecified, external, in_place, body}
use Rattle.c_syntax.specs.Spells.{Elements, Parted, IsGroup, Spelling, Matches, parts_spelled, IsNode, InPlace}
use Rattle.c_spelled.specs.Fitting.{is_read, need}
use Rattle.c_spelled.proofs.Off.{Off, On, on_here, off}
use Rattle.c_spelled.proofs.Begins.{AllBegin, in_place_begins}
use Rattle.c_spelled.proofs.Groups.{Got, GotAll, listed, group_read, others_read, Others}
use Rattle.c_spelled.proofs.Pieces.{AllRead, is_not}
use Rattle.c_spelled.proofs.Nodes.{Room, off_within, same_got, the_parts, complete_node}
use Rattle.c_spelled.proofs.Sorts.{Deep, in_place_read}
use Rattle.std.proofs.lemmas.Bool.{or_from, or_right, and_from}
use Rattle.c_tokens.specs.declared.class.Class.{Class}
use Rattle.c_forms.specs.declared.pieces.Repetition.TheVariants.{All, Spliced}
use Rattle.c_forms.specs.declared.pieces.Piece.{Piece}
use Rattle.c_forms.specs.declared.forms.ItemForm.TheVariants as item
use Rattle.c_forms.specs.Forests.{forest}
use Rattle.c_spelled.specs.Fitting.{opens, follows}
use Rattle.c_spelled.proofs.Opens.{Starts, starts_so}
use Rattle.c_spelled.proofs.Shapes.{is_punct}
use Rattle.c_spelled.proofs.Alone.{init_declarator_form}
use Rattle.c_spelled.proofs.Climb.{called_read}

abbrev pub the_function : Form
the_function = form.Item item.Function

abbrev pub declares : Form
declares = form.Item item.Declaration

abbrev init_form : Form
init_form = form.Group group.InitDeclarator

abbrev pub comma : Class
comma = sign punct.Comma

-- after specifiers and a declarator, or a list of them
abbrev pub after_head : List Piece
after_head = after_first (after_first (pieces the_function))

abbrev pub after_list : List Piece
after_list = after_first (after_first (pieces form.Decl))

-- what goes on with a declaration
abbrev declaring : Classes
declaring = class_number comma ∷ (class_number (sign punct.Semicolon) ∷ (class_number (sign punct.Equal) ∷ []))

no_and : (b c : Bool) → c ≡ true → (b && not c) ≡ false
no_and true c e = ap not e
no_and false c e = refl

module _ (d top : ℕ) (w : List Shape) (levels : Type 0) (room : Room levels d top) (under : top ≤ d) (deeper : Spelling) (D : Deep d top w deeper) where
  abbrev spelled : ℕ → Spelling
  spelled n = InPlace n levels deeper w

  abbrev part : Parts
  part = in_place 8

  abbrev DE : AllRead body d top w places deeper called
  DE = called_read body d top w deeper D.calls

  abbrev IB : (n : ℕ) → AllBegin w (spelled n)
  IB n = in_place_begins n levels deeper w D.begins

  abbrev IE : (n : ℕ) → AllRead body d top w 8 (spelled n) part
  IE n = in_place_read d top w levels room under deeper D 8 n

  pub sort_begins : (n : ℕ) (due : Sort) (least : ℕ) → is_read due ≡ true → may_be_empty due ≡ false → (t : Plain) (i j : Spot) → spelled n due least t i j → (has (starts due) (class_at w i) ≡ true) × (i.place < j.place)
  sort_begins n due least r e t i j p = elim (IB n due least t i j r p) [ inl b ↦ b | inr x ↦ absurd (contrary (may_be_empty due) x.0 e) ]

  sort_read : (n : ℕ) (due : Sort) (least : ℕ) → is_read due ≡ true → need due ≤ 8 → (t : Plain) (i j : Spot) → spelled n due least t i j → Off (goes_on due least) w j.place → Got (read body d (part due least) (from w i)) top t w j
  sort_read n due least r few t i j p o = IE n due least t i j r few p o

  -- ---- specifiers

  pub specs_read : (m : ℕ) (us : List Plain) (i k : Spot) → IsGroup All s.Spec (spelled m s.Spec 0) Usual w us i k → Off (goes_on s.Spec 0) w k.place
      → (h : ℕ) × ((h ≤ top) × (read body d (grouped All s.Spec (part s.Spec 0) Usual) (from w i) ≡ Ok (list_from i.place (listed us h k.place false), from w k)))
  unfolding gathered
  specs_read m us i k G o =
      let A : GotAll (read body d (gathered_by All s.Spec (part s.Spec 0) Usual i.place) (from w i)) top us false k.place w k =
      group_read body d top w s.Spec 0 (spelled m s.Spec 0) (part s.Spec 0) (sort_begins m s.Spec 0 refl refl) (sort_read m s.Spec 0 refl (omega arith)) All Usual us i k refl refl G o (λ _ _. refl) in
      (A.height, (A.low, ap (λ (o : Outcome Gathered). and_then (and_then {A = Gathered} {B = ℕ × Gathered} o (λ g j. Ok ((i.place, g), j))) (λ g j. Ok (list_from g.0 g.1, j))) A.reads))

  pub at_external : (i : Spot) (b : Bool) → has (starts s.Spec) (class_at w i) ≡ b → read body d (external part) (from w i) ≡ read body d (choose b (specified part i.place) (unspecified part i.place)) (from w i)
  unfolding external
  at_external i b e = ap (λ b. read body d (choose b (specified part i.place) (unspecified part i.place)) (from w i)) e

  pub after_specs : (i k : Spot) (specs : Found) (b : Bool) → read body d (grouped All s.Spec (part s.Spec 0) Usual) (from w i) ≡ Ok (specs, from w k) → is_sign punct.Semicolon (seen_at w k) ≡ b
      → read body d (specified part i.place) (from w i) ≡ read body d (choose b (declaration_of part i.place specs (list_from k.place (none_at k.place))) (outer false part i.place specs)) (from w k)
  after_specs i k specs b r e = ap (λ o. and_then o (λ specs j. read body d (Ask (λ j. Look (λ y. choose (is_sign punct.Semicolon y) (declaration_of part i.place specs (list_from j.place (none_at j.place))) (outer false part i.place specs)))) j)) r
      ∙ ap (λ b. read body d (choose b (declaration_of part i.place specs (list_from k.place (none_at k.place))) (outer false part i.place specs)) (from w k)) e

  at_outer : (due : Bool) (o : ℕ) (specs x : Found) (k p : Spot) (b : Bool) → read body d (part s.Declarator 1) (from w k) ≡ Ok (x, from w p) → (due || (is_function p.state && not (goes_on_declaring (seen_at w p)))) ≡ b
      → read body d (outer due part o specs) (from w k) ≡ read body d (choose b (function_from part o specs x) (declaration_from part o specs k.place x)) (from w p)
  at_outer due o specs x k p b r e = ap (λ o'. and_then o' (λ x j. read body d (outer_by due part o specs k.place x) j)) r ∙ ap (λ b. read body d (choose b (function_from part o specs x) (declaration_from part o specs k.place x)) (from w p)) e

  -- ---- functions

  not_declaring : (p : Spot) → Off declaring w p.place → goes_on_declaring (seen_at w p) ≡ false
  not_declaring p o = or_from (is_sign punct.Comma (seen_at w p)) _ (is_not w comma p (off_within (class_number comma ∷ []) declaring w p.place refl o))
      (or_from (is_sign punct.Semicolon (seen_at w p)) _ (is_not w (sign punct.Semicolon) p (off_within (class_number (sign punct.Semicolon) ∷ []) declaring w p.place refl o))
      (is_not w (sign punct.Equal) p (off_within (class_number (sign punct.Equal) ∷ []) declaring w p.place refl o)))

  pub function_read : (due : Bool) (o : ℕ) (specs : Found) (others : List Plain) (k j : Spot) → specs.height ≤ top → Parted (spelled 8 s.Declarator 1) (λ t. Matches (spelled 8) w s.Item the_function (before_by (is_absent t)) after_head) others k j
      → Got (read body d (outer due part o specs) (from w k)) top (forests.node the_function (spanned o j.place) (specs.tree ∷ others)) w j
  function_read due o specs others k j low M =
      let p : Spot = M.place in
      let begun : On (opens s.Item the_function after_head) w p.place = elim (starts_so w (spelled 8) (IB 8) s.Item the_function (before_by (is_absent M.first)) after_head M.others p j refl M.are_others) [
        | inl x ↦ record { state = x.state; isin = x.isin }
        | inr b ↦ absurd (cc b.may)
      ] in
      let G = IE 8 s.Declarator 1 M.first k p refl (omega arith) M.is_first (off (opens s.Item the_function after_head) (goes_on s.Declarator 1) w p.place refl begun) in
      let x : Found = record { tree = M.first; height = G.height } in
      let is : (due || (is_function p.state && not (goes_on_declaring (seen_at w p)))) ≡ true =
      or_right due _ (and_from (is_function p.state) _ M.are_others.0 (ap not (not_declaring p (off (opens s.Item the_function after_head) declaring w p.place refl begun)))) in
      let P = the_parts body d top w levels room 8 deeper (spelled 8) part D.begins (IB 8) DE (IE 8) s.Item the_function after_head M.others p j refl (omega arith) refl (λ _. refl) M.are_others in
      let C = complete_node body d top w levels room 8 deeper (spelled 8) part D.begins (IB 8) DE (IE 8) s.Item the_function o (record { trees = specs.tree ∷ (M.first ∷ []); height = max specs.height G.height }) after_head M.others p j tt (omega (arith, low, G.low)) P in
      same_got top w (forests.node the_function (spanned o j.place) (specs.tree ∷ others)) (forests.node the_function (spanned o j.place) (specs.tree ∷ (M.first ∷ M.others))) j _ _ (at_outer due o specs x k p true G.reads is) (ap (λ ts. forests.node the_function (spanned o j.place) (specs.tree ∷ ts)) M.value) C

  -- ---- declarations

  pub decl_end : (o : ℕ) (specs list : Found) (ts : List Plain) (m j : Spot) → specs.height ≤ top → list.height ≤ top → Matches (spelled 7) w s.Decl form.Decl Usual after_list ts m j
      → Got (read body d (declaration_of part o specs list) (from w m)) top (forests.node declares (spanned o j.place) (forests.node form.Decl (spanned o j.place) (specs.tree ∷ (list.tree ∷ ts)) ∷ [])) w j
  decl_end o specs list ts m j low low' M =
      let P = the_parts body d top w levels room 8 deeper (spelled 7) part D.begins (IB 7) DE (IE 7) s.Decl form.Decl after_list ts m j refl (omega arith) refl (λ _. refl) M in
      let C = complete_node body d top w levels room 8 deeper (spelled 7) part D.begins (IB 7) DE (IE 7) s.Decl form.Decl o (record { trees = specs.tree ∷ (list.tree ∷ []); height = max specs.height list.height }) after_list ts m j tt (omega (arith, low, low')) P in
      record { height = C.height; low = C.low; reads = ap (λ o'. and_then o' (λ x j. Ok (node declares o j.at.place (one x), j))) C.reads }

  init_node : (t : Plain) (i j : Spot) → spelled 7 s.InitDeclarator 0 t i j → IsNode levels deeper (spelled 6) w s.InitDeclarator 0 t i j
  unfolding InPlace
  init_node t i j A = A

  pub decl_node : (t : Plain) (i j : Spot) → spelled 8 s.Decl 0 t i j → IsNode levels deeper (spelled 7) w s.Decl 0 t i j
  unfolding InPlace
  decl_node t i j A = A

  is_declaring : (p : Spot) (q : Punct) → (nat_eq (class_number (sign q)) (class_number comma) || (nat_eq (class_number (sign q)) (class_number (sign punct.Semicolon)) || nat_eq (class_number (sign q)) (class_number (sign punct.Equal)))) ≡ true → raw_at w p.place ≡ shape.Punct q → goes_on_declaring (seen_at w p) ≡ true
  is_declaring p q h r = ap (λ x. goes_on_declaring (seen p.state x)) r ∙ h

  -- the declarators, from the first on
  pub declarators_read : (o : ℕ) (specs : Found) (vs ts : List Plain) (k m j : Spot) → specs.height ≤ top → Elements (spelled 7 s.InitDeclarator 0) w (Some comma) vs k m → Matches (spelled 7) w s.Decl form.Decl Usual after_list ts m j
      → Got (read body d (outer false part o specs) (from w k)) top (forests.node declares (spanned o j.place) (forests.node form.Decl (spanned o j.place) (specs.tree ∷ (forests.node the_list (spanned k.place m.place) vs ∷ ts)) ∷ [])) w j
  declarators_read o specs vs ts k m j low C M =
      let semicolon : On (class_number (sign punct.Semicolon) ∷ []) w m.place = on_here (class_number (sign punct.Semicolon) ∷ []) w m (single (class_number (sign punct.Semicolon)) (class_at w m) M.0) in
      let H : Others body d top w s.InitDeclarator 0 (spelled 7 s.InitDeclarator 0) (part s.InitDeclarator 0) (sort_begins 7 s.InitDeclarator 0 refl refl) (sort_read 7 s.InitDeclarator 0 refl (omega arith)) (Spliced (Some comma) 0) vs k m =
      others_read body d top w s.InitDeclarator 0 (spelled 7 s.InitDeclarator 0) (part s.InitDeclarator 0) (sort_begins 7 s.InitDeclarator 0 refl refl) (sort_read 7 s.InitDeclarator 0 refl (omega arith)) (Spliced (Some comma) 0) (λ c h. h) refl vs k m C
      (off (class_number (sign punct.Semicolon) ∷ []) (goes_on s.InitDeclarator 0) w m.place refl semicolon) (off (class_number (sign punct.Semicolon) ∷ []) (class_number comma ∷ []) w m.place refl semicolon m.state) in
      let q : Spot = H.place in
      let N = init_node H.tree k q H.is_first in
      let form_is = init_declarator_form H.tree.form N.may in
      let X : Matches (spelled 6) w s.InitDeclarator init_form Usual (pieces init_form) N.parts k q = subst (λ f. Matches (parts_spelled (is_starred f) deeper (spelled 6)) w s.InitDeclarator f Usual (pieces f) N.parts k q) form_is N.matches in
      let p : Spot = X.place in
      let rest : List Piece = after_first (pieces init_form) in
      let begun : Starts w s.InitDeclarator init_form (before_by (is_absent X.first)) rest p q = starts_so w (spelled 6) (IB 6) s.InitDeclarator init_form (before_by (is_absent X.first)) rest X.others p q refl X.are_others in
      let out : Off (goes_on s.Declarator 1) w p.place = elim begun [
        | inl x ↦ off (opens s.InitDeclarator init_form rest) (goes_on s.Declarator 1) w p.place refl (record { state = x.state; isin = x.isin })
        | inr b ↦ subst (λ n. Off (goes_on s.Declarator 1) w n) (sym b.same) (off_within (goes_on s.Declarator 1) (goes_on s.InitDeclarator 0) w q.place refl H.ends)
      ] in
      let G = IE 6 s.Declarator 1 X.first k p refl (omega arith) X.is_first out in
      let x : Found = record { tree = X.first; height = G.height } in
      let goes : goes_on_declaring (seen_at w p) ≡ true = elim begun [
        | inl x ↦ is_declaring p punct.Equal refl (is_punct x.state (raw_at w p.place) punct.Equal (only_single (class_number (sign punct.Equal)) _ x.isin))
        | inr b ↦ elim (H.next) [
          | inl e ↦ is_declaring p punct.Semicolon refl (ap (raw_at w) (b.same ∙ ap (λ (k : Spot). k.place) e) ∙ is_punct m.state (raw_at w m.place) punct.Semicolon M.0)
          | inr e ↦ is_declaring p punct.Comma refl (ap (raw_at w) b.same ∙ is_punct q.state (raw_at w q.place) punct.Comma (only_single (class_number comma) _ e))
        ]
      ] in
      let no_function : (false || (is_function p.state && not (goes_on_declaring (seen_at w p)))) ≡ false = no_and (is_function p.state) (goes_on_declaring (seen_at w p)) goes in
      let P = the_parts body d top w levels room 8 deeper (spelled 6) part D.begins (IB 6) DE (IE 6) s.InitDeclarator init_form rest X.others p q refl (omega arith) refl (off_within (follows s.InitDeclarator rest) (goes_on s.InitDeclarator 0) w q.place refl H.ends) X.are_others in
      let I = complete_node body d top w levels room 8 deeper (spelled 6) part D.begins (IB 6) DE (IE 6) s.InitDeclarator init_form k.place (one x) rest X.others p q tt G.low P in
      let tree : forests.node init_form (spanned k.place q.place) (X.first ∷ X.others) ≡ H.tree = ap (λ ps. forests.node init_form (spanned k.place q.place) ps) (sym X.value) ∙ ap (λ f. forests.node f (spanned k.place q.place) N.parts) (sym form_is) ∙ sym N.value in
      let R = H.reads (max 0 I.height) (omega (arith, I.low)) in
      let E = decl_end o specs (list_from k.place (listed vs R.height m.place false)) ts m j low R.low M in
      same_got top w _ _ j _ _
      (at_outer false o specs x k p false G.reads no_function
      ∙ ap (λ o'. and_then o' (λ x j. and_then (read body d (others (Spliced (Some comma) 0) s.InitDeclarator (part s.InitDeclarator 0) (with_last (none_at k.place) x j.at.place)) j) (λ g j. read body d (declaration_of part o specs (list_from k.place g)) j)))
      (I.reads ∙ ap (λ t. Ok (record { tree = t; height = I.height }, from w q)) tree)
      ∙ ap (λ o'. and_then o' (λ g j. read body d (declaration_of part o specs (list_from k.place g)) j)) R.reads) refl E
