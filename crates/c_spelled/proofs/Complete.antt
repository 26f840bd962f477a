-- What spells an external declaration is read, and is no other (ISO/IEC 9899:1990, 6.7).
use Rattle.std.proofs.Common.{◌≡◌, inl, inr, refl, subst, ap, sym, ◌∙◌, ℕ, ◌≤◌, Bool, true, false, ◌&&◌, List, [], ◌∷◌, Some, None, Ok, arith}
use Rattle.c_tokens.specs.declared.token.Shape.{Shape}
use Rattle.c_tokens.specs.declared.token.Shape.TheVariants as shape
use Rattle.c_tokens.specs.declared.token.Punct.TheVariants as punct
use Rattle.c_tokens.specs.ClassNumbers.{class_number}
use Rattle.c_forms.specs.declared.pieces.Event.TheVariants as event
use Rattle.c_forms.specs.declared.pieces.Sort.TheVariants as s
use Rattle.c_forms.specs.declared.forms.Form.{Form}
use Rattle.c_forms.specs.declared.forms.Form.TheVariants as form
use Rattle.c_forms.specs.Forests.{Plain}
use Rattle.c_forms.specs.Forests as forests
use Rattle.c_forms.specs.Measures.{pieces}
use Rattle.c_forms.specs.Sets.{has, starts, goes_on}
use Rattle.c_reader.specs.States.{State, class as class_in, happens}
use Rattle.c_reader.specs.Tokens.{Spot, spot, turned, raw_at, class_at}
use Rattle.c_reader.specs.Readers.{Found, read}
use Rattle.c_reader.proofs.Local.{from}
use Rattle.c_reader.proofs.Sets.{contrary}
use Rattle.c_syntax.specs.Allowed.{places}
use Rattle.c_syntax.specs.Reading.{Usual, before_by, none_at, list_from, the_list, Parts, is_absent, is_starred, spanned}
use Rattle.c_syntax.specs.Grammar.{sign, after_first, declaration_of, outer, specified, external, in_place, body, item_reader}
use Rattle.c_syntax.specs.Spells.{Parted, IsList, IsGroup, started_by, has_no_specifiers, Spelling, Is, Matches, parts_spelled, IsNode, InPlace, Spells}
use Rattle.c_spelled.proofs.Off.{Off, on_here, off}
use Rattle.c_spelled.proofs.Begins.{AllBegin, in_place_begins}
use Rattle.c_spelled.proofs.Groups.{Got, listed}
use Rattle.c_spelled.proofs.Pieces.{is_it, is_not}
use Rattle.c_spelled.proofs.Nodes.{Room, off_within, same_got}
use Rattle.c_spelled.proofs.Sorts.{Deep}
use Rattle.c_forms.specs.declared.pieces.Repetition.TheVariants.{Any}
use Rattle.c_forms.specs.declared.pieces.Piece.{Piece}
use Rattle.c_forms.specs.declared.forms.ItemForm.TheVariants as item
use Rattle.c_forms.specs.Forests.{forest}
use Rattle.c_forms.specs.Rules.{is_none, in_first}
use Rattle.c_spelled.specs.Fitting.{opens}
use Rattle.c_spelled.proofs.Opens.{starts_so, chain_begins}
use Rattle.c_spelled.proofs.Params.{chain_some}
use Rattle.c_spelled.proofs.Alone.{item_is, decl_form}
use Rattle.c_spelled.proofs.Items as items
use Rattle.c_spelled.proofs.Items.{the_function, declares, after_head, after_list, comma}
use Rattle.c_spelled.proofs.Depths.{levels_of, deeper_of, room_of, deep, placed}

abbrev is_function_form : Form → Bool
is_function_form (form.Item item.Function) = true
is_function_form f = false

-- that a function is due makes no word another
due_alike : (state : State) (x : Shape) → class_in (happens event.FunctionDue state) x ≡ class_in state x
due_alike state (shape.Word word) = refl
due_alike state _ = refl

module _ (d top : ℕ) (w : List Shape) (levels : Type 0) (room : Room levels d top) (under : top ≤ d) (deeper : Spelling) (D : Deep d top w deeper) where
  abbrev spelled : ℕ → Spelling
  spelled n = InPlace n levels deeper w

  abbrev part : Parts
  part = in_place 8

  abbrev IB : (n : ℕ) → AllBegin w (spelled n)
  IB n = in_place_begins n levels deeper w D.begins

  abbrev At_item : Bool → Plain → Spot → Spot → Type 0
  At_item b t i j = IsNode levels deeper (spelled 8) w s.Item 0 t (started_by b i) j

  abbrev Goal : Plain → Spot → Spot → Type 0
  Goal t i j = Got (read body d (external part) (from w i)) top t w j

  -- ---- functions

  abbrev Head : List Plain → Spot → Spot → Type 0
  Head ts i j = Parted (IsList (IsGroup Any s.Spec (spelled 8 s.Spec 0) Usual w)) (λ t. Parted (spelled 8 s.Declarator 1) (λ t. Matches (spelled 8) w s.Item the_function (before_by (is_absent t)) after_head)) ts i j

  bare : (t : Plain) (parts : List Plain) (i j : Spot) → t ≡ forests.node the_function (spanned i.place j.place) parts → (M : Head parts i j) → has_no_specifiers t ≡ is_none (forest M.is_first.0)
  bare t parts i j v M = ap has_no_specifiers v ∙ ap (λ ps. is_none (in_first (forest ps))) M.value ∙ ap (λ (t : Plain). is_none t.parts) M.is_first.1.0

  unstarted : (t : Plain) (parts : List Plain) (i j : Spot) → has_no_specifiers t ≡ true → t ≡ forests.node the_function (spanned i.place j.place) parts → Head parts (turned (happens event.FunctionDue) i) j → Goal t i j
  unstarted t parts i j b v M =
      let i' : Spot = turned (happens event.FunctionDue) i in
      let k : Spot = M.place in
      let none : is_none (forest M.is_first.0) ≡ true = sym (bare t parts i' j v M) ∙ b in
      elim (M.is_first.1.1.0) [
        | inl A ↦ let at : i' ≡ k = A.1.1 in
            let off_spec : has (starts s.Spec) (class_at w i) ≡ false = ap (has (starts s.Spec)) (sym (due_alike i.state (raw_at w i.place))) ∙ ap (λ k. has (starts s.Spec) (class_at w k)) at ∙ M.is_first.1.1.1 in
            let specs : Found = list_from i.place (none_at i.place) in
            let R = items.function_read d top w levels room under deeper D true i.place specs M.others k j (omega arith) M.are_others in
            let first : M.first ≡ specs.tree = M.is_first.1.0 ∙ ap (λ (k : Spot). forests.node the_list (spanned i.place k.place) M.is_first.0) (sym at) ∙ ap (λ us. forests.node the_list (spanned i.place i.place) us) A.1.0 in
            let same : t ≡ forests.node the_function (spanned i.place j.place) (specs.tree ∷ M.others) = v ∙ ap (λ ps. forests.node the_function (spanned i.place j.place) ps) (M.value ∙ ap (λ t. t ∷ M.others) first) in
            same_got top w t (forests.node the_function (spanned i.place j.place) (specs.tree ∷ M.others)) j _ _
            (items.at_external d top w levels room under deeper D i false off_spec ∙ ap (λ k. read body d (outer true part i.place specs) (from w k)) at) same R
        | inr C ↦ absurd (contrary (is_none (forest M.is_first.0)) none (chain_some (spelled 8 s.Spec 0) w None C.0 M.is_first.0 i' k C.1))
      ]

  started : (t : Plain) (parts : List Plain) (i j : Spot) → has_no_specifiers t ≡ false → t ≡ forests.node the_function (spanned i.place j.place) parts → Head parts i j → Goal t i j
  started t parts i j b v M =
      let k : Spot = M.place in
      let us : List Plain = M.is_first.0 in
      let some : is_none (forest us) ≡ false = sym (bare t parts i j v M) ∙ b in
      elim (M.is_first.1.1.0) [
        | inl A ↦ absurd (contrary (is_none (forest us)) (ap (λ us. is_none (forest us)) A.1.0) some)
        | inr C ↦ let begun = chain_begins w s.Spec (spelled 8 s.Spec 0) (items.sort_begins d top w levels room under deeper D 8 s.Spec 0 refl refl) None C.0 us i k C.1 in
            let set : List ℕ = class_number (sign punct.LeftBrace) ∷ (class_number (sign punct.Semicolon) ∷ []) in
            let head = items.sort_begins d top w levels room under deeper D 8 s.Declarator 1 refl refl M.are_others.first k M.are_others.place M.are_others.is_first in
            let out : Off set w k.place = off (starts s.Declarator) set w k.place refl (on_here (starts s.Declarator) w k head.0) in
            let S = items.specs_read d top w levels room under deeper D 8 us i k (C, M.is_first.1.1.1) (off_within (goes_on s.Spec 0) set w k.place refl out) in
            let specs : Found = list_from i.place (listed us S.0 k.place false) in
            let R = items.function_read d top w levels room under deeper D false i.place specs M.others k j S.1.0 M.are_others in
            let same : t ≡ forests.node the_function (spanned i.place j.place) (specs.tree ∷ M.others) = v ∙ ap (λ ps. forests.node the_function (spanned i.place j.place) ps) (M.value ∙ ap (λ t. t ∷ M.others) M.is_first.1.0) in
            same_got top w t (forests.node the_function (spanned i.place j.place) (specs.tree ∷ M.others)) j _ _
            (items.at_external d top w levels room under deeper D i true begun.0
            ∙ items.after_specs d top w levels room under deeper D i k specs false S.1.1 (is_not w (sign punct.Semicolon) k (off_within (class_number (sign punct.Semicolon) ∷ []) set w k.place refl out))) same R
      ]

  function_item : (b : Bool) (t : Plain) (i j : Spot) → has_no_specifiers t ≡ b → t.form ≡ the_function → At_item b t i j → Goal t i j
  function_item true t i j b e N = unstarted t N.parts i j b (N.value ∙ ap (λ f. forests.node f (spanned i.place j.place) N.parts) e)
      (subst (λ f. Matches (parts_spelled (is_starred f) deeper (spelled 8)) w s.Item f Usual (pieces f) N.parts (turned (happens event.FunctionDue) i) j) e N.matches)
  function_item false t i j b e N = started t N.parts i j b (N.value ∙ ap (λ f. forests.node f (spanned i.place j.place) N.parts) e)
      (subst (λ f. Matches (parts_spelled (is_starred f) deeper (spelled 8)) w s.Item f Usual (pieces f) N.parts i j) e N.matches)

  -- ---- declarations

  declared : (t : Plain) (i j : Spot) → IsNode levels deeper (spelled 7) w s.Decl 0 t i j → Goal (forests.node declares (spanned i.place j.place) (t ∷ [])) i j
  declared t i j N =
      let e = decl_form t.form N.may in
      let X : Matches (spelled 7) w s.Decl form.Decl Usual (pieces form.Decl) N.parts i j = subst (λ f. Matches (parts_spelled (is_starred f) deeper (spelled 7)) w s.Decl f Usual (pieces f) N.parts i j) e N.matches in
      let k : Spot = X.place in
      let us : List Plain = X.is_first.0 in
      let G = X.is_first.1.1 in
      let rest : List Piece = after_first (pieces form.Decl) in
      let set : List ℕ = class_number (sign punct.LeftBrace) ∷ [] in
      let out : Off set w k.place = elim (starts_so w (spelled 7) (IB 7) s.Decl form.Decl (before_by (is_none X.first.parts)) rest X.others k j refl X.are_others) [
        | inl x ↦ off (opens s.Decl form.Decl rest) set w k.place refl (record { state = x.state; isin = x.isin })
        | inr b ↦ absurd (cc b.may)
      ] in
      let begun = chain_begins w s.Spec (spelled 7 s.Spec 0) (items.sort_begins d top w levels room under deeper D 7 s.Spec 0 refl refl) None G.0.0 us i k G.0.1 in
      let S = items.specs_read d top w levels room under deeper D 7 us i k G out in
      let specs : Found = list_from i.place (listed us S.0 k.place false) in
      let Y = X.are_others in
      let m : Spot = Y.place in
      let vs : List Plain = Y.is_first.0 in
      let head : read body d (external part) (from w i) ≡ read body d (specified part i.place) (from w i) = items.at_external d top w levels room under deeper D i true begun.0 in
      let front : t ≡ forests.node form.Decl (spanned i.place j.place) (specs.tree ∷ (forests.node the_list (spanned k.place m.place) vs ∷ Y.others)) =
      N.value ∙ ap (λ f. forests.node f (spanned i.place j.place) N.parts) e ∙ ap (λ ps. forests.node form.Decl (spanned i.place j.place) ps) (X.value ∙ ap (λ t. t ∷ X.others) X.is_first.1.0 ∙ ap (λ ts. specs.tree ∷ ts) (Y.value ∙ ap (λ t. t ∷ Y.others) Y.is_first.1.0)) in
      elim (Y.is_first.1.1) [
        | inl A ↦ let at : k ≡ m = A.1.1 in
            let semicolon : Is w (sign punct.Semicolon) k = ap (class_at w) at ∙ Y.are_others.0 in
            let list : Found = list_from k.place (none_at k.place) in
            let R = items.decl_end d top w levels room under deeper D i.place specs list Y.others m j S.1.0 (omega arith) Y.are_others in
            let last : forests.node the_list (spanned k.place m.place) vs ≡ list.tree = ap (λ (m : Spot). forests.node the_list (spanned k.place m.place) vs) (sym at) ∙ ap (λ us. forests.node the_list (spanned k.place k.place) us) A.1.0 in
            same_got top w (forests.node declares (spanned i.place j.place) (t ∷ [])) (forests.node declares (spanned i.place j.place) (forests.node form.Decl (spanned i.place j.place) (specs.tree ∷ (list.tree ∷ Y.others)) ∷ [])) j _ _
            (head ∙ items.after_specs d top w levels room under deeper D i k specs true S.1.1 (is_it w (sign punct.Semicolon) k semicolon) ∙ ap (λ k'. read body d (declaration_of part i.place specs list) (from w k')) at)
            (ap (λ t. forests.node declares (spanned i.place j.place) (t ∷ [])) (front ∙ ap (λ l. forests.node form.Decl (spanned i.place j.place) (specs.tree ∷ (l ∷ Y.others))) last)) R
        | inr C ↦ let first = chain_begins w s.InitDeclarator (spelled 7 s.InitDeclarator 0) (items.sort_begins d top w levels room under deeper D 7 s.InitDeclarator 0 refl refl) (Some comma) C.0 vs k m C.1 in
            let R = items.declarators_read d top w levels room under deeper D i.place specs vs Y.others k m j S.1.0 C Y.are_others in
            same_got top w (forests.node declares (spanned i.place j.place) (t ∷ [])) (forests.node declares (spanned i.place j.place) (forests.node form.Decl (spanned i.place j.place) (specs.tree ∷ (forests.node the_list (spanned k.place m.place) vs ∷ Y.others)) ∷ [])) j _ _
            (head ∙ items.after_specs d top w levels room under deeper D i k specs false S.1.1 (is_not w (sign punct.Semicolon) k (off (starts s.InitDeclarator) (class_number (sign punct.Semicolon) ∷ []) w k.place refl (on_here (starts s.InitDeclarator) w k first.0))))
            (ap (λ t. forests.node declares (spanned i.place j.place) (t ∷ [])) front) R
      ]

  declaration_item : (b : Bool) (t : Plain) (i j : Spot) → has_no_specifiers t ≡ b → t.form ≡ declares → At_item b t i j → Goal t i j
  declaration_item true t i j b e N = absurd (let f : false ≡ true = sym (ap (λ f. is_function_form f && is_none (in_first t.parts)) e) ∙ b in cc f)
  declaration_item false t i j b e N =
      let M : Matches (spelled 8) w s.Item declares Usual (pieces declares) N.parts i j = subst (λ f. Matches (parts_spelled (is_starred f) deeper (spelled 8)) w s.Item f Usual (pieces f) N.parts i j) e N.matches in
      let at : M.place ≡ j = M.are_others.1 in
      let same : t ≡ forests.node declares (spanned i.place j.place) (M.first ∷ []) = N.value ∙ ap (λ f. forests.node f (spanned i.place j.place) N.parts) e ∙ ap (λ ps. forests.node declares (spanned i.place j.place) ps) (M.value ∙ ap (λ ts. M.first ∷ ts) M.are_others.0) in
      same_got top w t (forests.node declares (spanned i.place j.place) (M.first ∷ [])) j _ _ refl same
      (subst (λ j. Goal (forests.node declares (spanned i.place j.place) (M.first ∷ [])) i j) at (declared M.first i M.place (items.decl_node d top w levels room under deeper D M.first i M.place M.is_first)))

  pub item_read : (t : Plain) (i j : Spot) → InPlace places levels deeper w s.Item 0 t i j → Got (read body d item_reader (from w i)) top t w j
  unfolding InPlace in_place
  item_read t i j N = elim (item_is t.form N.may) [
    | inl e ↦ function_item (has_no_specifiers t) t i j refl e N
    | inr e ↦ declaration_item (has_no_specifiers t) t i j refl e N
  ]

-- An external declaration that is spelled is read, with as many levels as it is deep, or more.
pub complete_at : (e d : ℕ) (w : List Shape) → e ≤ d → (t : Plain) (i j : Spot) → Spells e w s.Item 0 t i j → Got (read body d item_reader (from w i)) e t w j
complete_at e d w le t i j A = item_read d e w (levels_of e) (room_of e d le) le (deeper_of e w) (deep e d w le) t i j (placed e w s.Item 0 t i j A)

pub complete : (d : ℕ) (w : List Shape) (t : Plain) (state : State) (j : Spot) → Spells d w s.Item 0 t (spot 0 state) j → (x : Found) × ((read body d item_reader (from w (spot 0 state)) ≡ Ok (x, from w j)) × (x.tree ≡ t))
complete d w t state j A = let G = complete_at d d w (omega arith) t (spot 0 state) j A in (record { tree = t; height = G.height }, (G.reads, refl))
