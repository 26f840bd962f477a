-- What stands in a block can be completed: a declaration or a statement.
use Rattle.std.proofs.Common.{refl, ℕ, ◌+◌, not, false, ◌&&◌, List, [], ◌∷◌}
use Rattle.c_tokens.specs.declared.token.Punct.TheVariants as punct
use Rattle.c_tokens.specs.declared.token.Shape.{Shape}
use Rattle.c_tokens.specs.declared.token.Shape.TheVariants as shape
use Rattle.c_forms.specs.declared.pieces.Event.TheVariants as event
use Rattle.c_forms.specs.declared.pieces.Repetition.TheVariants.{All}
use Rattle.c_forms.specs.declared.pieces.Sort.TheVariants as s
use Rattle.c_forms.specs.declared.forms.Form.TheVariants as form
use Rattle.c_forms.specs.Measures.{pieces}
use Rattle.c_reader.specs.States.{State, Seen, Kept, seen, happens}
use Rattle.c_reader.specs.Readers.{Reader, Found, Give, Look, Change, below, choose}
use Rattle.c_reader.proofs.Leaves.{anyhow, leaves_anyhow}
use Rattle.c_reader.proofs.Phrases.{Tokens, Finishes, fin_give, fin_change, fin_last, fin_look}
use Rattle.c_reader.proofs.Live.{Live, live_bind, live_choose, live_next}
use Rattle.c_syntax.specs.Reading.{Usual, Parts, Gathered, one, none_at, with_last, list_from, others}
use Rattle.c_syntax.specs.Grammar.{body, is_sign, is_type_word, begins, whole, after_first, after_part, label, id_leaf, typedef_leaf, statement, late, type_led, type_first, declaration_at, block_item}
use Rattle.c_alive.proofs.Tame.{bounded_group}
use Rattle.c_alive.proofs.Kept.{Still, event_within, stays_others}
use Rattle.c_alive.proofs.Phrased.{none_of, past, opens_if}
use Rattle.c_alive.proofs.Gathers.{group_past, live_more}
use Rattle.c_alive.proofs.Rows.{Ending, Able, fin_pieces}
use Rattle.c_alive.proofs.Nodes.{fin_completed}
use Rattle.c_alive.proofs.Called.{calls}
use Rattle.c_lively.proofs.Ranks.{reads}
use Rattle.c_lively.proofs.Wholes.{live_whole, live_rest}
use Rattle.c_lively.proofs.Statements.{colon_and_empty, fin_label, live_label, live_statement}

module _ (a : List Kept) where
  abbrev Held : {A : Type 0} → A → State → Type 0
  Held x t = Still a t

  abbrev beyond : Tokens
  beyond = none_of (past s.BlockItem 0)

  -- after a statement no declaration stands
  abbrev then_late : Found → Reader Found
  then_late x = Change event.Statements (Give x)

  fin_then : (x : Found) (t : State) → Still a t → Finishes body t beyond Held (then_late x) []
  fin_then x t k = fin_change body t beyond Held event.Statements (Give x) [] (fin_give body (happens event.Statements t) beyond Held x (event_within event.Statements false a t refl k))

  live_late : (deep : ℕ) (r : Reader Found) (z : State) (y : Shape) → Live body calls deep z y beyond Held r → Live body calls deep z y beyond Held (late r)
  live_late deep r z y L = live_bind body calls deep z y anyhow Held beyond beyond Held r then_late L (leaves_anyhow body z y r) (record { tokens = []; opens = λ x q. q; finishes = λ x t k. fin_then x t k }) (λ x t y _. tt)

  fin_late : (r : Reader Found) (z : State) (u : List Shape) → Finishes body z beyond Held r u → Finishes body z beyond Held (late r) u
  fin_late r z u F = fin_last body z Held beyond beyond Held r then_late u F (λ x q. q) (λ x t k. fin_then x t k)

  module _ (deep : ℕ) (inner : Parts) (E : Ending inner (reads 5)) (L : Able calls deep inner (reads 5)) (E2 : Ending inner (reads 2)) (L2 : Able calls deep inner (reads 2)) where
    abbrev after_specs : ℕ → Gathered → Reader Found
    after_specs i g = after_part inner s.Decl form.Decl i (list_from i g)

    abbrev first_spec : ℕ → Seen → Gathered
    first_spec i x = with_last (none_at i) (typedef_leaf i x.shape) (i + 1)

    abbrev between : Tokens
    between = none_of (group_past All s.Spec 0)

    abbrev specs : ℕ → Seen → Reader Gathered
    specs i x = others All s.Spec (inner s.Spec 0) (first_spec i x)

    -- a declaration whose first specifier was read
    live_type_led : (i : ℕ) (x : Seen) (z : State) (y : Shape) → Still a z → Live body calls deep z y beyond Held (type_led inner i x)
    live_type_led i x z y k = live_bind body calls deep (happens event.SoleType z) y Held Held between beyond Held (specs i x) (after_specs i)
        (live_more (Still a) s.Spec 0 (inner s.Spec 0) (E.firm s.Spec 0) (λ z k. E.ends s.Spec 0 refl a z k) calls deep (λ z y k. L.lives s.Spec 0 refl a z y k) (λ z y k. L.leaves s.Spec 0 refl a z y k)
        All (bounded_group All s.Spec (inner s.Spec 0) refl refl (E.firm s.Spec 0)) (first_spec i x) (happens event.SoleType z) y k)
        (λ d. stays_others (below body d) d Still All s.Spec (inner s.Spec 0) (first_spec i x) (λ a z y k. L.leaves s.Spec 0 refl a z y k d) a (happens event.SoleType z) y k)
        (record {
          tokens = shape.Punct punct.Semicolon ∷ [];
          opens = opens_if (group_past All s.Spec 0) (shape.Punct punct.Semicolon ∷ []) (past s.BlockItem 0) refl;
          finishes = λ g t k. fin_completed (Still a) beyond inner s.Decl form.Decl i (one (list_from i g)) (after_first (pieces form.Decl)) t (shape.Punct punct.Semicolon ∷ []) (fin_pieces inner s.Decl form.Decl (reads 5) E (past s.BlockItem 0) false Usual (after_first (pieces form.Decl)) refl a t k);
        })
        (λ g t x k. live_rest deep inner (reads 5) E L s.Decl form.Decl (past s.BlockItem 0) a refl (after_first (pieces form.Decl)) refl i (one (list_from i g)) t x k)

    abbrev by_colon : ℕ → Seen → Seen → Reader Found
    by_colon i x y = choose (is_sign punct.Colon y) (late (label i (id_leaf i x.shape))) (type_led inner i x)

    fin_colon : (i : ℕ) (x : Seen) (z : State) → Still a z → Finishes body z beyond Held (Look (by_colon i x)) colon_and_empty
    fin_colon i x z k = fin_look body z beyond Held (by_colon i x) (shape.Punct punct.Colon) (shape.Punct punct.Semicolon ∷ []) (λ n. fin_late (label i (id_leaf i x.shape)) z colon_and_empty (fin_label a i (id_leaf i x.shape) z k))

    live_type_first : (i : ℕ) (x : Seen) (z : State) (y : Shape) → Still a z → Live body calls deep z y beyond Held (type_first inner i x)
    unfolding type_first
    live_type_first i x z y k = live_next body calls deep z y beyond Held (Look (by_colon i x)) colon_and_empty (fin_colon i x z k)
        (λ y. live_choose body calls deep z y beyond Held (is_sign punct.Colon (seen z y)) (late (label i (id_leaf i x.shape))) (type_led inner i x) (λ e. live_late deep (label i (id_leaf i x.shape)) z y (live_label a deep i (id_leaf i x.shape) z y e k)) (λ _. live_type_led i x z y k))

    live_declaration : (i : ℕ) (z : State) (y : Shape) → Still a z → Live body calls deep z y beyond Held (declaration_at inner i (seen z y))
    live_declaration i z y k = live_choose body calls deep z y beyond Held (is_type_word (seen z y)) (type_first inner i (seen z y)) (whole inner s.Decl form.Decl) (λ _. live_type_first i (seen z y) z y k)
        (λ _. live_whole deep inner (reads 5) E L s.Decl form.Decl (past s.BlockItem 0) a refl z y refl k)

    pub live_block_item : (z : State) (y : Shape) → Still a z → Live body calls deep z y beyond Held (block_item inner)
    unfolding block_item
    live_block_item z y k = λ place. live_choose body calls deep z y beyond Held (not z.is_late && begins s.Decl (seen z y)) (declaration_at inner place (seen z y)) (late (statement inner)) (λ _. live_declaration place z y k)
        (λ _. live_late deep (statement inner) z y (live_statement a deep inner E2 L2 z y k))
