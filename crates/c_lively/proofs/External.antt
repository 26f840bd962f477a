-- External declarations can be completed.
use Rattle.std.proofs.Common.{◌≡◌, refl, ℕ, max, not, true, false, ◌&&◌, ◌||◌, List, [], ◌∷◌, Some}
use Rattle.c_tokens.specs.declared.token.Punct.TheVariants as punct
use Rattle.c_tokens.specs.declared.token.Shape.{Shape}
use Rattle.c_tokens.specs.declared.token.Shape.TheVariants as shape
use Rattle.c_forms.specs.declared.pieces.Event.TheVariants as event
use Rattle.c_forms.specs.declared.pieces.Piece.{Piece}
use Rattle.c_forms.specs.declared.pieces.Repetition.{Repetition}
use Rattle.c_forms.specs.declared.pieces.Repetition.TheVariants.{All, Spliced}
use Rattle.c_forms.specs.declared.pieces.Sort.TheVariants as s
use Rattle.c_forms.specs.declared.forms.Form.{Form}
use Rattle.c_forms.specs.declared.forms.Form.TheVariants as form
use Rattle.c_forms.specs.declared.forms.ItemForm.TheVariants as item
use Rattle.c_forms.specs.declared.forms.GroupForm.TheVariants as group
use Rattle.c_forms.specs.Measures.{pieces}
use Rattle.c_forms.specs.Sets.{goes_on}
use Rattle.c_reader.specs.States.{State, Kept, Seen, seen, happens, is_function}
use Rattle.c_reader.specs.Tokens.{Spot, spot}
use Rattle.c_reader.specs.Readers.{Reader, Found, Give, Look, Bind, Ask, below, choose}
use Rattle.c_reader.proofs.Sets.{both}
use Rattle.c_reader.proofs.Leaves.{Leaves, anyhow, leaves_anyhow, leaving_ask, leaving_bind, leaving_give}
use Rattle.c_reader.proofs.Phrases.{Tokens, Finishes, fin_give, fin_ask, fin_look, fin_bind, fin_choose, fin_last}
use Rattle.c_reader.proofs.Live.{Live, live_bind, live_choose, live_map}
use Rattle.c_syntax.specs.Reading.{Usual, Parts, Gathered, Listed, node, one, none_at, with_last, list_from, gathered, grouped, others, completed, pieces_in}
use Rattle.c_syntax.specs.Grammar.{body, sign, is_sign, begins, after_first, after_part, goes_on_declaring, function_from, declaration_of, declaration_from, outer_by, outer, specified, unspecified, external, in_place}
use Rattle.c_alive.proofs.Tame.{bounded_group}
use Rattle.c_alive.proofs.Kept.{Still, stays_gathered, stays_others, kept_after, kept_in_place}
use Rattle.c_alive.proofs.Phrased.{none_of, opens_if}
use Rattle.c_alive.proofs.Gathers.{group_past, live_gathered, live_more, fin_more}
use Rattle.c_alive.proofs.Rows.{Ending, Able, fin_pieces, live_pieces}
use Rattle.c_alive.proofs.Nodes.{fin_completed, live_completed}
use Rattle.c_alive.proofs.Called.{calls, Due}
use Rattle.c_lively.proofs.Ranks.{reads}
use Rattle.c_lively.proofs.Endings.{ending}
use Rattle.c_lively.proofs.Alive.{able}
use Rattle.c_lively.proofs.Wholes.{live_rest}
use Rattle.c_lively.proofs.DueRows.{Function}
use Rattle.c_lively.proofs.DueEnds.{fin_event}
use Rattle.c_lively.proofs.DueLives.{live_event}
use Rattle.c_lively.proofs.DueLeaves.{leaves_declarator}
use Rattle.c_lively.proofs.DueDeclarators.{live_due}

abbrev pub inner : Parts
inner = in_place 8

abbrev E : Ending inner (reads 8)
E = ending 8

abbrev anywhere : Tokens
anywhere = none_of []

abbrev end_words : List Shape
end_words = shape.Punct punct.Semicolon ∷ []

abbrev pub after_declarators : List Piece
after_declarators = after_first (after_first (pieces form.Decl))

abbrev pub function_form : Form
function_form = form.Item item.Function

abbrev pub body_pieces : List Piece
body_pieces = after_first (after_first (after_first (pieces function_form)))

abbrev pub first_declarator : Form
first_declarator = form.Group group.InitDeclarator

abbrev by_commas : Repetition
by_commas = Spliced (Some (sign punct.Comma)) 0

abbrev pub two : Found → Found → Listed
two x y = record { trees = x.tree ∷ (y.tree ∷ []); height = max x.height y.height }

module _ (deep : ℕ) (a : List Kept) where
  abbrev Held : {A : Type 0} → A → State → Type 0
  Held x t = Still a t

  abbrev L : Able calls deep inner (reads 8)
  L = able deep 8

  -- ---- a declaration after its declarators

  abbrev pub in_item : ℕ → Found → Reader Found
  in_item i x = Ask (λ j. Give (node (form.Item item.Declaration) i j.place (one x)))

  abbrev pub ended : ℕ → Found → Found → Reader Found
  ended i specs list = completed inner s.Decl form.Decl i (two specs list) after_declarators

  fin_in_item : (i : ℕ) (x : Found) (t : State) → Still a t → Finishes body t anywhere Held (in_item i x) []
  fin_in_item i x t k = fin_ask body t anywhere Held (λ j. Give (node (form.Item item.Declaration) i j.place (one x))) [] (λ place. fin_give body t anywhere Held (node (form.Item item.Declaration) i place (one x)) k)

  fin_declaration : (i : ℕ) (specs list : Found) (t : State) → Still a t → Finishes body t anywhere Held (declaration_of inner i specs list) end_words
  fin_declaration i specs list t k = fin_last body t Held anywhere anywhere Held (ended i specs list) (in_item i) end_words
      (fin_completed (Still a) anywhere inner s.Decl form.Decl i (two specs list) after_declarators t end_words (fin_pieces inner s.Decl form.Decl (reads 8) E [] false Usual after_declarators refl a t k)) (λ x q. q) (λ x t k. fin_in_item i x t k)

  live_declaration : (i : ℕ) (specs list : Found) (t : State) (y : Shape) → Still a t → Live body calls deep t y anywhere Held (declaration_of inner i specs list)
  live_declaration i specs list t y k = live_bind body calls deep t y anyhow Held anywhere anywhere Held (ended i specs list) (in_item i)
      (live_rest deep inner (reads 8) E L s.Decl form.Decl [] a refl after_declarators refl i (two specs list) t y k) (leaves_anyhow body t y (ended i specs list))
      (record { tokens = []; opens = λ x q. q; finishes = λ x t k. fin_in_item i x t k }) (λ x t y _ place. tt)

  -- ---- after the first declarator

  abbrev between : Tokens
  between = none_of (group_past by_commas s.InitDeclarator 0)

  abbrev pub first_of_them : ℕ → Found → Reader Found
  first_of_them j d = after_part inner s.InitDeclarator first_declarator j d

  abbrev pub the_others : ℕ → Found → Spot → Reader Gathered
  the_others j x k = others by_commas s.InitDeclarator (inner s.InitDeclarator 0) (with_last (none_at j) x k.place)

  abbrev pub pieces_of_first : List Piece
  pieces_of_first = after_first (pieces first_declarator)

  fin_others : (j : ℕ) (x : Found) (t : State) → Still a t → Finishes body t between Held (Ask (the_others j x)) []
  fin_others j x t k = fin_ask body t between Held (the_others j x) [] (λ place. fin_more (Still a) s.InitDeclarator 0 (inner s.InitDeclarator 0) (λ h. absurd (cc h)) (E.ends s.InitDeclarator 0 refl a) by_commas (bounded_group by_commas s.InitDeclarator (inner s.InitDeclarator 0) refl refl (λ h. absurd (cc h))) (with_last (none_at j) x place) t k)

  fin_first : (j : ℕ) (d : Found) (t : State) → Still a t → Finishes body t between Held (first_of_them j d) []
  fin_first j d t k = fin_completed (Still a) between inner s.InitDeclarator first_declarator j (one d) pieces_of_first t [] (fin_pieces inner s.InitDeclarator first_declarator (reads 8) E (group_past by_commas s.InitDeclarator 0) false Usual pieces_of_first refl a t k)

  pub leaves_others : (j : ℕ) (x : Found) (t : State) (y : Shape) → Still a t → Leaves body t y (Ask (the_others j x)) Held
  leaves_others j x t y k d = leaving_ask (below body d) d t y (the_others j x) Held (λ place. stays_others (below body d) d Still by_commas s.InitDeclarator (inner s.InitDeclarator 0) (with_last (none_at j) x place)
      (λ a z y k. kept_in_place 8 s.InitDeclarator 0 a z y refl k d) a t y k)

  live_others : (j : ℕ) (x : Found) (t : State) (y : Shape) → Still a t → Live body calls deep t y between Held (Ask (the_others j x))
  live_others j x t y k = λ place. live_more (Still a) s.InitDeclarator 0 (inner s.InitDeclarator 0) (λ h. absurd (cc h)) (E.ends s.InitDeclarator 0 refl a) calls deep (λ z y k. L.lives s.InitDeclarator 0 refl a z y k) (λ z y k. L.leaves s.InitDeclarator 0 refl a z y k)
      by_commas (bounded_group by_commas s.InitDeclarator (inner s.InitDeclarator 0) refl refl (λ h. absurd (cc h))) (with_last (none_at j) x place) t y k

  abbrev pub declared_so : ℕ → Found → ℕ → Gathered → Reader Found
  declared_so i specs j g = declaration_of inner i specs (list_from j g)

  abbrev pub more_of_them : ℕ → Found → ℕ → Found → Reader Found
  more_of_them i specs j x = Bind (Ask (the_others j x)) (declared_so i specs j)

  fin_more_of_them : (i : ℕ) (specs : Found) (j : ℕ) (x : Found) (t : State) → Still a t → Finishes body t anywhere Held (more_of_them i specs j x) end_words
  fin_more_of_them i specs j x t k = fin_bind body t Held between anywhere Held (Ask (the_others j x)) (declared_so i specs j) [] end_words (fin_others j x t k) (opens_if (group_past by_commas s.InitDeclarator 0) end_words [] refl) (λ g t k. fin_declaration i specs (list_from j g) t k)

  live_more_of_them : (i : ℕ) (specs : Found) (j : ℕ) (x : Found) (t : State) (y : Shape) → Still a t → Live body calls deep t y anywhere Held (more_of_them i specs j x)
  live_more_of_them i specs j x t y k = live_bind body calls deep t y Held Held between anywhere Held (Ask (the_others j x)) (declared_so i specs j) (live_others j x t y k) (leaves_others j x t y k)
      (record { tokens = end_words; opens = opens_if (group_past by_commas s.InitDeclarator 0) end_words [] refl; finishes = λ g t k. fin_declaration i specs (list_from j g) t k }) (λ g t w k. live_declaration i specs (list_from j g) t w k)

  fin_declaring : (i : ℕ) (specs : Found) (j : ℕ) (d : Found) (t : State) → Still a t → Finishes body t anywhere Held (declaration_from inner i specs j d) end_words
  fin_declaring i specs j d t k = fin_bind body t Held between anywhere Held (first_of_them j d) (more_of_them i specs j) [] end_words (fin_first j d t k) (opens_if (group_past by_commas s.InitDeclarator 0) end_words [] refl) (λ x t k. fin_more_of_them i specs j x t k)

  live_declaring : (i : ℕ) (specs : Found) (j : ℕ) (d : Found) (t : State) (y : Shape) → Still a t → Live body calls deep t y anywhere Held (declaration_from inner i specs j d)
  live_declaring i specs j d t y k = live_bind body calls deep t y Held Held between anywhere Held (first_of_them j d) (more_of_them i specs j)
      (live_rest deep inner (reads 8) E L s.InitDeclarator first_declarator (group_past by_commas s.InitDeclarator 0) a refl pieces_of_first refl j (one d) t y k) (kept_after 8 s.InitDeclarator first_declarator j (one d) pieces_of_first refl a t y k)
      (record { tokens = end_words; opens = opens_if (group_past by_commas s.InitDeclarator 0) end_words [] refl; finishes = λ x t k. fin_more_of_them i specs j x t k }) (λ x t w k. live_more_of_them i specs j x t w k)

  -- ---- a function after its declarator

  abbrev in_body : Reader Listed
  in_body = pieces_in inner s.Item function_form Usual body_pieces

  abbrev body_words : List Shape
  body_words = shape.Punct punct.LeftBrace ∷ (shape.Punct punct.RightBrace ∷ [])

  live_function : (i : ℕ) (specs d : Found) (t : State) (y : Shape) → Still a (happens event.Open t) → Live body calls deep t y anywhere Held (function_from inner i specs d)
  unfolding pieces_in
  live_function i specs d t y k = live_completed (Still a) anywhere inner s.Item function_form i (two specs d) (after_first (after_first (pieces function_form))) calls deep t y
      (live_event deep event.Open in_body t y anywhere Held (λ _. live_pieces calls deep inner s.Item function_form (reads 8) (reads 8) E L [] false Usual body_pieces refl a (happens event.Open t) y k))

  fin_function : (i : ℕ) (specs d : Found) (t : State) → is_function t ≡ true → Still a (happens event.Open t) → Finishes body t anywhere Held (function_from inner i specs d) body_words
  unfolding pieces_in
  fin_function i specs d t f k = fin_completed (Still a) anywhere inner s.Item function_form i (two specs d) (after_first (after_first (pieces function_form))) t body_words
      (fin_event event.Open in_body t anywhere Held body_words f (fin_pieces inner s.Item function_form (reads 8) E [] false Usual body_pieces refl a (happens event.Open t) k))

  -- ---- with specifiers

  fin_undecided : (i : ℕ) (specs : Found) (j : ℕ) (d : Found) (t : State) → Still a t → Finishes body t anywhere Held (outer_by false inner i specs j d) end_words
  fin_undecided i specs j d t k = fin_ask body t anywhere Held (λ k. Look (deciding k)) end_words (λ place. fin_look body t anywhere Held (deciding (spot place t)) (shape.Punct punct.Semicolon) []
      (λ n. fin_choose body t anywhere Held (is_function t && false) (function_from inner i specs d) (declaration_from inner i specs j d) end_words (λ e. absurd (let f : false ≡ true = (both (is_function t) false e).1 in cc f)) (λ _. fin_declaring i specs j d t k)))
    where
      deciding : Spot → Seen → Reader Found
      deciding k y = choose (false || (is_function k.state && not (goes_on_declaring y))) (function_from inner i specs d) (declaration_from inner i specs j d)

  live_undecided : (i : ℕ) (specs : Found) (j : ℕ) (d : Found) (t : State) (y : Shape) → Still a t → Live body calls deep t y anywhere Held (outer_by false inner i specs j d)
  live_undecided i specs j d t y k = λ place. live_choose body calls deep t y anywhere Held (is_function t && not (goes_on_declaring (seen t y))) (function_from inner i specs d) (declaration_from inner i specs j d) (λ _. live_function i specs d t y (k.0, refl)) (λ _. live_declaring i specs j d t y k)

  live_outer : (i : ℕ) (specs : Found) (t : State) (y : Shape) → Still a t → Live body calls deep t y anywhere Held (outer false inner i specs)
  live_outer i specs t y k = λ place. live_bind body calls deep t y Held Held (none_of (goes_on s.Declarator 1)) anywhere Held (inner s.Declarator 1) (λ d. outer_by false inner i specs place d) (L.lives s.Declarator 1 refl a t y k) (L.leaves s.Declarator 1 refl a t y k)
      (record { tokens = end_words; opens = opens_if (goes_on s.Declarator 1) end_words [] refl; finishes = λ d t k. fin_undecided i specs place d t k }) (λ d t w k. live_undecided i specs place d t w k)

  abbrev pub after_specs : ℕ → Found → Reader Found
  after_specs i specs = Ask (λ j. Look (λ y. choose (is_sign punct.Semicolon y) (declaration_of inner i specs (list_from j.place (none_at j.place))) (outer false inner i specs)))

  fin_after_specs : (i : ℕ) (specs : Found) (t : State) → Still a t → Finishes body t anywhere Held (after_specs i specs) end_words
  fin_after_specs i specs t k = fin_ask body t anywhere Held _ end_words (λ place. fin_look body t anywhere Held _ (shape.Punct punct.Semicolon) [] (λ n. fin_declaration i specs (list_from place (none_at place)) t k))

  live_after_specs : (i : ℕ) (specs : Found) (t : State) (y : Shape) → Still a t → Live body calls deep t y anywhere Held (after_specs i specs)
  live_after_specs i specs t y k = λ place. live_choose body calls deep t y anywhere Held (is_sign punct.Semicolon (seen t y)) (declaration_of inner i specs (list_from place (none_at place))) (outer false inner i specs)
      (λ _. live_declaration i specs (list_from place (none_at place)) t y k) (λ _. live_outer i specs t y k)

  abbrev between_specs : Tokens
  between_specs = none_of (group_past All s.Spec 0)

  abbrev some_specs : Reader (ℕ × Gathered)
  some_specs = gathered All s.Spec (inner s.Spec 0) Usual

  pub leaves_specs : (t : State) (y : Shape) → Still a t → Leaves body t y (grouped All s.Spec (inner s.Spec 0) Usual) Held
  leaves_specs t y k d = leaving_bind (below body d) d t y some_specs (λ g. Give (list_from g.0 g.1)) Held Held (stays_gathered (below body d) d Still All s.Spec (inner s.Spec 0) Usual (λ a z y k. L.leaves s.Spec 0 refl a z y k d) a t y k)
      (λ g t w k. leaving_give (below body d) d t w (list_from g.0 g.1) Held k)

  live_specs : (t : State) (y : Shape) → Still a t → Live body calls deep t y between_specs Held (grouped All s.Spec (inner s.Spec 0) Usual)
  live_specs t y k = live_map body calls deep t y Held between_specs between_specs Held some_specs (λ g. list_from g.0 g.1) (λ x q. q) (λ g t k. k)
      (live_gathered (Still a) s.Spec 0 (inner s.Spec 0) (E.firm s.Spec 0) (E.ends s.Spec 0 refl a) calls deep (λ z y k. L.lives s.Spec 0 refl a z y k) (λ z y k. L.leaves s.Spec 0 refl a z y k) All Usual refl refl t y k)

  live_specified : (i : ℕ) (t : State) (y : Shape) → Still a t → Live body calls deep t y anywhere Held (specified inner i)
  live_specified i t y k = live_bind body calls deep t y Held Held between_specs anywhere Held (grouped All s.Spec (inner s.Spec 0) Usual) (after_specs i) (live_specs t y k) (leaves_specs t y k)
      (record { tokens = end_words; opens = opens_if (group_past All s.Spec 0) end_words [] refl; finishes = λ specs t k. fin_after_specs i specs t k }) (λ specs t w k. live_after_specs i specs t w k)

  -- ---- without

  fin_decided : (i : ℕ) (specs : Found) (j : ℕ) (d : Found) (t : State) → Function a t → Finishes body t anywhere Held (outer_by true inner i specs j d) body_words
  fin_decided i specs j d t k = fin_ask body t anywhere Held _ body_words (λ place. fin_look body t anywhere Held _ (shape.Punct punct.LeftBrace) (shape.Punct punct.RightBrace ∷ []) (λ n. fin_function i specs d t k.1 (k.0.0, refl)))

  live_decided : (i : ℕ) (specs : Found) (j : ℕ) (d : Found) (t : State) (y : Shape) → Due a t → Live body calls deep t y anywhere Held (outer_by true inner i specs j d)
  live_decided i specs j d t y k = λ place. live_function i specs d t y (k.0, refl)

  live_unspecified : (i : ℕ) (t : State) (y : Shape) → Due a (happens event.FunctionDue t) → Live body calls deep t y anywhere Held (unspecified inner i)
  live_unspecified i t y k = λ place. live_bind body calls deep (happens event.FunctionDue t) y (λ _ t. Due a t) (λ _ t. Function a t) (none_of (goes_on s.Declarator 1)) anywhere Held (inner s.Declarator 1) (λ d. outer_by true inner i (list_from i (none_at i)) place d)
      (live_due a deep 6 (happens event.FunctionDue t) y k) (leaves_declarator a (happens event.FunctionDue t) y k 8)
      (record { tokens = body_words; opens = opens_if (goes_on s.Declarator 1) body_words [] refl; finishes = λ d t k. fin_decided i (list_from i (none_at i)) place d t k }) (λ d t w k. live_decided i (list_from i (none_at i)) place d t w k)

  -- ---- both

  pub live_external : (z : State) (y : Shape) → Still a z → Due a (happens event.FunctionDue z) → Live body calls deep z y anywhere Held (external inner)
  unfolding external
  live_external z y k m = λ place. live_choose body calls deep z y anywhere Held (begins s.Spec (seen z y)) (specified inner place) (unspecified inner place) (λ _. live_specified place z y k) (λ _. live_unspecified place z y m)
