-- After an item the state is idle again: nothing is kept of a declaration, and none is put aside.
use Rattle.std.proofs.Common.{◌≡◌, refl, ℕ, not, Bool, true, false, ◌&&◌, ◌||◌, List, [], None, Ok, nat_eq}
use Rattle.c_tokens.specs.declared.token.Punct.TheVariants as punct
use Rattle.c_tokens.specs.declared.token.Shape.{Shape}
use Rattle.c_tokens.specs.ClassNumbers.{class_number}
use Rattle.c_forms.specs.declared.pieces.Event.TheVariants as event
use Rattle.c_forms.specs.declared.pieces.Repetition.TheVariants.{All, Many}
use Rattle.c_forms.specs.declared.pieces.Piece.{Piece}
use Rattle.c_forms.specs.declared.pieces.Sort.{Sort}
use Rattle.c_forms.specs.declared.pieces.Sort.TheVariants as s
use Rattle.c_forms.specs.declared.forms.Form.{Form}
use Rattle.c_forms.specs.declared.forms.Form.TheVariants as form
use Rattle.c_forms.specs.declared.forms.ItemForm.TheVariants as item
use Rattle.c_forms.specs.Measures.{pieces}
use Rattle.c_reader.specs.States.{State, Seen, seen, happens, is_function}
use Rattle.std.proofs.lemmas.Bool.{or_parts}
use Rattle.c_reader.specs.Tokens.{Spot, spot, raw_at}
use Rattle.c_reader.specs.Readers.{Reader, Found, Give, Look, Bind, Ask, below, choose, only, token, read}
use Rattle.c_reader.specs.Laws.{from}
use Rattle.c_reader.proofs.Leaves.{Leaves, leaving_give, leaving_look, leaving_ask, leaving_bind, leaving_pick, leaving_change, leaving_choose}
use Rattle.c_syntax.specs.Reading.{Usual, Listed, Gathered, node, one, joined, nothing, none_at, with_first, list_from, gathered, grouped, pieces_in, completed}
use Rattle.c_syntax.specs.Grammar.{body, sign, is_sign, begins, after_first, goes_on_declaring, function_from, declaration_of, declaration_from, outer_by, outer, specified, unspecified, external, item_reader, in_place}
use Rattle.c_alive.proofs.Kept.{Still, stays_gathered, kept_after, kept_in_place}
use Rattle.c_alive.proofs.Called.{Due}
use Rattle.c_lively.proofs.DueRows.{event_then}
use Rattle.c_lively.proofs.DueKept.{leaving_event, leaving_map}
use Rattle.c_lively.proofs.DueLeaves.{leaves_declarator}
use Rattle.c_lively.proofs.External.{inner, two, after_declarators, function_form, first_declarator, pieces_of_first, first_of_them, the_others, declared_so, more_of_them, after_specs, leaves_others, leaves_specs}
use Rattle.c_lively.proofs.Plain.{Idle, idle_still, idle_due}

abbrev Rest : {A : Type 0} → A → State → Type 0
Rest x t = Idle t

abbrev Held : {A : Type 0} → A → State → Type 0
Held x t = Still [] t

-- a node whose pieces clear the state
clears_node : (f : Form) (own : Sort) (i : ℕ) (done : Listed) (ps : List Piece) (t : State) (y : Shape) → Leaves body t y (pieces_in inner own f Usual ps) Rest → Leaves body t y (completed inner own f i done ps) Rest
unfolding completed
clears_node f own i done ps t y L e = leaving_bind (below body e) e t y (pieces_in inner own f Usual ps) (λ g. Ask (λ j. Give (node f i j.place (joined done g)))) Rest Rest (L e)
    (λ g u x k. leaving_ask (below body e) e u x (λ j. Give (node f i j.place (joined done g))) Rest (λ place. leaving_give (below body e) e u x (node f i place (joined done g)) Rest k))

abbrev semicolon : Reader (Unit {0})
semicolon = token (class_number (sign punct.Semicolon))

clears_end : (t : State) (y : Shape) → Still [] t → Leaves body t y (Bind semicolon (λ _. event_then event.Begin (Give nothing))) Rest
clears_end t y k e = leaving_bind (below body e) e t y semicolon (λ _. event_then event.Begin (Give nothing)) Held Rest (leaving_pick (below body e) e t y (λ x. only (nat_eq x.class (class_number (sign punct.Semicolon)))) Held (λ _ _. k))
    (λ _ t x k. leaving_event (below body e) e event.Begin (Give nothing) t x Rest (λ _. leaving_give (below body e) e (happens event.Begin t) x nothing Rest (refl, k.0)))

clears_declaration : (i : ℕ) (specs list : Found) (t : State) (y : Shape) → Still [] t → Leaves body t y (declaration_of inner i specs list) Rest
unfolding pieces_in
clears_declaration i specs list t y k e = leaving_bind (below body e) e t y (completed inner s.Decl form.Decl i (two specs list) after_declarators) (λ x. Ask (λ j. Give (node (form.Item item.Declaration) i j.place (one x)))) Rest Rest
    (clears_node form.Decl s.Decl i (two specs list) after_declarators t y (clears_end t y k) e)
    (λ x u w k. leaving_ask (below body e) e u w (λ j. Give (node (form.Item item.Declaration) i j.place (one x))) Rest (λ place. leaving_give (below body e) e u w (node (form.Item item.Declaration) i place (one x)) Rest k))

abbrev shutting : Reader Listed
shutting = event_then event.Shut (Give nothing)

abbrev then_shut : Found → Reader Listed
then_shut x = Bind shutting (λ g. Give (with_first x g))

abbrev with_block : Reader Listed
with_block = Bind (inner s.Block 0) then_shut

abbrev declarations : Reader (ℕ × Gathered)
declarations = gathered (Many None 0) s.Decl (inner s.Decl 0) Usual

abbrev in_body : Reader Listed
in_body = Bind declarations (λ g. Bind with_block (λ h. Give (with_first (list_from g.0 g.1) h)))

clears_body : (t : State) (y : Shape) → Still [] t → Leaves body t y in_body Rest
clears_body t y k e = leaving_bind (below body e) e t y declarations (λ g. Bind with_block (λ h. Give (with_first (list_from g.0 g.1) h))) Held Rest
    (stays_gathered (below body e) e Still (Many None 0) s.Decl (inner s.Decl 0) Usual (λ a z y k. kept_in_place 8 s.Decl 0 a z y refl k e) [] t y k)
    (λ g u x k. leaving_map (below body e) e with_block (λ h. with_first (list_from g.0 g.1) h) Idle u x (leaving_bind (below body e) e u x (inner s.Block 0) then_shut Held Rest (kept_in_place 8 s.Block 0 [] u x refl k e)
    (λ b v w k. leaving_map (below body e) e shutting (λ g. with_first b g) Idle v w (leaving_event (below body e) e event.Shut (Give nothing) v w Rest (λ _. leaving_give (below body e) e (happens event.Shut v) w nothing Rest (refl, k.0))))))

clears_function : (i : ℕ) (specs f : Found) (t : State) (y : Shape) → t.aside ≡ [] → Leaves body t y (function_from inner i specs f) Rest
unfolding pieces_in
clears_function i specs f t y k e = clears_node function_form s.Item i (two specs f) (after_first (after_first (pieces function_form))) t y
    (λ e. leaving_event (below body e) e event.Open in_body t y Rest (λ _. clears_body (happens event.Open t) y (k, refl) e)) e

clears_declaring : (i : ℕ) (specs : Found) (j : ℕ) (f : Found) (t : State) (y : Shape) → Still [] t → Leaves body t y (declaration_from inner i specs j f) Rest
clears_declaring i specs j f t y k e = leaving_bind (below body e) e t y (first_of_them e [] j f) (more_of_them e [] i specs j) Held Rest (kept_after 8 s.InitDeclarator first_declarator j (one f) (pieces_of_first e []) refl [] t y k e)
    (λ x u w k. leaving_bind (below body e) e u w (Ask (the_others e [] j x)) (declared_so e [] i specs j) Held Rest (leaves_others e [] j x u w k e) (λ g v z k. clears_declaration i specs (list_from j g) v z k e))

-- what follows the first declarator decides
clears_by : (due : Bool) (i : ℕ) (specs : Found) (j : ℕ) (f : Found) (t : State) (y : Shape) → t.aside ≡ [] → (due ≡ false → Still [] t) → Leaves body t y (outer_by due inner i specs j f) Rest
clears_by due i specs j f t y k still e = leaving_ask (below body e) e t y (λ k. Look (deciding k)) Rest (λ place. leaving_look (below body e) e t y (deciding (spot place t)) Rest
    (leaving_choose (below body e) e t y (due || (is_function t && not (goes_on_declaring (seen t y)))) (function_from inner i specs f) (declaration_from inner i specs j f) Rest (λ _. clears_function i specs f t y k e)
    (λ no. clears_declaring i specs j f t y (still (or_parts due (is_function t && not (goes_on_declaring (seen t y))) no).0) e)))
  where
    deciding : Spot → Seen → Reader Found
    deciding k y = choose (due || (is_function k.state && not (goes_on_declaring y))) (function_from inner i specs f) (declaration_from inner i specs j f)

clears_outer : (i : ℕ) (specs : Found) (t : State) (y : Shape) → Still [] t → Leaves body t y (outer false inner i specs) Rest
clears_outer i specs t y k e = leaving_ask (below body e) e t y (λ j. Bind (inner s.Declarator 1) (λ f. outer_by false inner i specs j.place f)) Rest (λ place. leaving_bind (below body e) e t y (inner s.Declarator 1) (λ f. outer_by false inner i specs place f) Held Rest
    (kept_in_place 8 s.Declarator 1 [] t y refl k e) (λ f u x k. clears_by false i specs place f u x k.0 (λ _. k) e))

clears_specified : (i : ℕ) (t : State) (y : Shape) → Still [] t → Leaves body t y (specified inner i) Rest
clears_specified i t y k e = leaving_bind (below body e) e t y (grouped All s.Spec (inner s.Spec 0) Usual) (after_specs e [] i) Held Rest (leaves_specs e [] t y k e)
    (λ specs u x k. leaving_ask (below body e) e u x (λ j. Look (by_end specs j)) Rest (λ place. leaving_look (below body e) e u x (by_end specs (spot place u)) Rest
    (leaving_choose (below body e) e u x (is_sign punct.Semicolon (seen u x)) (declaration_of inner i specs (list_from place (none_at place))) (outer false inner i specs) Rest (λ _. clears_declaration i specs (list_from place (none_at place)) u x k e) (λ _. clears_outer i specs u x k e))))
  where
    by_end : Found → Spot → Seen → Reader Found
    by_end specs j y = choose (is_sign punct.Semicolon y) (declaration_of inner i specs (list_from j.place (none_at j.place))) (outer false inner i specs)

clears_unspecified : (i : ℕ) (t : State) (y : Shape) → Due [] (happens event.FunctionDue t) → Leaves body t y (unspecified inner i) Rest
clears_unspecified i t y k e = leaving_change (below body e) e t y event.FunctionDue (outer true inner i (list_from i (none_at i))) Rest
    (leaving_ask (below body e) e (happens event.FunctionDue t) y (λ j. Bind (inner s.Declarator 1) (λ f. outer_by true inner i (list_from i (none_at i)) j.place f)) Rest
    (λ place. leaving_bind (below body e) e (happens event.FunctionDue t) y (inner s.Declarator 1) (λ f. outer_by true inner i (list_from i (none_at i)) place f) (λ _ t. Due [] t) Rest (leaves_declarator [] (happens event.FunctionDue t) y k 8 e)
    (λ f u x k. clears_by true i (list_from i (none_at i)) place f u x k.0 (λ no. absurd (cc no)) e)))

pub item_clears : (z : State) (y : Shape) → Idle z → Leaves body z y item_reader Rest
unfolding in_place external
item_clears z y k e = leaving_ask (below body e) e z y (λ i. Look (by_start i)) Rest (λ place. leaving_look (below body e) e z y (by_start (spot place z)) Rest
    (leaving_choose (below body e) e z y (begins s.Spec (seen z y)) (specified inner place) (unspecified inner place) Rest (λ _. clears_specified place z y (idle_still z k) e) (λ _. clears_unspecified place z y (idle_due z k) e)))
  where
    by_start : Spot → Seen → Reader Found
    by_start i x = choose (begins s.Spec x) (specified inner i.place) (unspecified inner i.place)

-- so an item is read from an idle state to an idle state
pub next_idle : (i j : Spot) (d : ℕ) (w : List Shape) (x : Found) → Idle i.state → read body d item_reader (from w i) ≡ Ok (x, from w j) → Idle j.state
next_idle i j d w x k e = item_clears i.state (raw_at w i.place) k d (from w i) refl refl x (from w j) e
