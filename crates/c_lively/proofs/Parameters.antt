-- Lists of parameters can be completed.
use Rattle.std.proofs.Common.{◌≡◌, refl, ℕ, not, false, ◌&&◌, List, []}
use Rattle.c_tokens.specs.declared.token.Punct.TheVariants as punct
use Rattle.c_tokens.specs.declared.token.Shape.{Shape}
use Rattle.c_tokens.specs.ClassNumbers.{class_number}
use Rattle.c_forms.specs.declared.pieces.Sort.TheVariants as s
use Rattle.c_forms.specs.declared.pieces.Repetition.{Repetition}
use Rattle.c_forms.specs.declared.pieces.Repetition.TheVariants.{Ended}
use Rattle.c_forms.specs.declared.forms.Form.TheVariants as form
use Rattle.c_forms.specs.declared.forms.ParamsForm.TheVariants as params
use Rattle.c_reader.specs.States.{State, Kept, seen}
use Rattle.c_reader.specs.Tokens.{Spot}
use Rattle.c_reader.specs.Readers.{Reader, Found, Give, Refuse, Bind, Ask, below, choose, token}
use Rattle.c_reader.proofs.Sets.{contrary}
use Rattle.c_reader.proofs.Leaves.{Leaves, anyhow, leaves_anyhow}
use Rattle.c_reader.proofs.Phrases.{Tokens, Finishes, fin_give, fin_ask, fin_choose}
use Rattle.c_reader.proofs.Live.{Live, live_bind, live_choose}
use Rattle.c_syntax.specs.Allowed.{has_name}
use Rattle.c_syntax.specs.Reading.{Usual, Parts, Gathered, node, one, list_from, gathered}
use Rattle.c_syntax.specs.Grammar.{body, sign, begins, is_value, whole, typed, parameters}
use Rattle.c_alive.proofs.Kept.{Still, stays_gathered}
use Rattle.c_alive.proofs.Phrased.{none_of, none_within, past}
use Rattle.c_alive.proofs.Gathers.{group_past}
use Rattle.c_alive.proofs.EndedLists.{live_listed}
use Rattle.c_alive.proofs.Rows.{Ending, Able}
use Rattle.c_alive.proofs.Called.{calls}
use Rattle.c_lively.proofs.Ranks.{reads}
use Rattle.c_lively.proofs.Wholes.{live_whole}

abbrev list_kind : Repetition
list_kind = Ended (sign punct.Comma) (sign punct.Ellipsis)

module _ (deep : ℕ) (inner : Parts) (E : Ending inner (reads 3)) (L : Able calls deep inner (reads 3)) (a : List Kept) where
  abbrev Held : {A : Type 0} → A → State → Type 0
  Held x t = Still a t

  abbrev beyond : Tokens
  beyond = none_of (past s.Params 0)

  abbrev between : Tokens
  between = none_of (group_past list_kind s.Param 0)

  abbrev Unended : ℕ × Gathered → State → Type 0
  Unended x t = Still a t × (x.1.is_ended ≡ false)

  abbrev more : ℕ → ℕ × Gathered → Spot → Reader Found
  more i g j = Give (node (form.Params params.TypedAndMore) i j.place (one (list_from g.0 g.1)))

  abbrev all : ℕ → ℕ × Gathered → Spot → Reader Found
  all i g j = Give (node (form.Params params.Typed) i j.place (one (list_from g.0 g.1)))

  abbrev dots : Reader (Unit {0})
  dots = token (class_number (sign punct.Ellipsis))

  abbrev with_dots : ℕ → ℕ × Gathered → Reader Found
  with_dots i g = Bind dots (λ _. Ask (more i g))

  abbrev rest : ℕ → ℕ × Gathered → Reader Found
  rest i g = choose g.1.is_ended (with_dots i g) (Ask (all i g))

  abbrev listed : Reader (ℕ × Gathered)
  listed = gathered list_kind s.Param (inner s.Param 0) Usual

  fin_more : (i : ℕ) (g : ℕ × Gathered) (t : State) → Still a t → Finishes body t beyond Held (Ask (more i g)) []
  fin_more i g t k = fin_ask body t beyond Held (more i g) [] (λ place. fin_give body t beyond Held (node (form.Params params.TypedAndMore) i place (one (list_from g.0 g.1))) k)

  fin_all : (i : ℕ) (g : ℕ × Gathered) (t : State) → Still a t → Finishes body t beyond Held (Ask (all i g)) []
  fin_all i g t k = fin_ask body t beyond Held (all i g) [] (λ place. fin_give body t beyond Held (node (form.Params params.Typed) i place (one (list_from g.0 g.1))) k)

  leaves_listed : (z : State) (y : Shape) → Still a z → Leaves body z y listed Held
  leaves_listed z y k d = stays_gathered (below body d) d Still list_kind s.Param (inner s.Param 0) Usual (λ a z y k. L.leaves s.Param 0 refl a z y k d) a z y k

  live_listing : (z : State) (y : Shape) → Still a z → Live body calls deep z y between Unended listed
  live_listing z y k = live_listed a s.Param 0 (inner s.Param 0) (sign punct.Comma) (sign punct.Ellipsis) refl (λ z k. E.ends s.Param 0 refl a z k) refl calls deep (λ z y k. L.lives s.Param 0 refl a z y k) (λ a z y k. L.leaves s.Param 0 refl a z y k) Usual z y k

  live_typed : (i : ℕ) (z : State) (y : Shape) → Still a z → Live body calls deep z y beyond Held (typed inner i)
  live_typed i z y k = live_bind body calls deep z y Held Unended between beyond Held listed (rest i) (live_listing z y k) (leaves_listed z y k)
      (record {
        tokens = [];
        opens = λ x q. none_within (group_past list_kind s.Param 0) (past s.Params 0) x refl q;
        finishes = λ g t m. fin_choose body t beyond Held g.1.is_ended (with_dots i g) (Ask (all i g)) [] (λ e. contrary g.1.is_ended e m.1) (λ _. fin_all i g t m.0);
      })
      (λ g t x m. live_choose body calls deep t x beyond Held g.1.is_ended (with_dots i g) (Ask (all i g))
      (λ _. live_bind body calls deep t x anyhow Held beyond beyond Held dots (λ _. Ask (more i g)) ((λ _ _. m), tt) (leaves_anyhow body t x dots) (record { tokens = []; opens = λ x q. q; finishes = λ _ t k. fin_more i g t k }) (λ _ t x _ place. tt)) (λ _ place. tt))

  pub live_parameters : (z : State) (y : Shape) → Still a z → Live body calls deep z y beyond Held (parameters inner)
  unfolding parameters
  live_parameters z y k = λ place. live_choose body calls deep z y beyond Held (begins s.Spec (seen z y)) (typed inner place) (choose (is_value (seen z y) && not (has_name z)) Refuse (whole inner s.Params (form.Params params.Ids)))
      (λ _. live_typed place z y k)
      (λ _. live_choose body calls deep z y beyond Held (is_value (seen z y) && not (has_name z)) Refuse (whole inner s.Params (form.Params params.Ids)) (λ _. tt)
      (λ _. live_whole deep inner (reads 3) E L s.Params (form.Params params.Ids) (past s.Params 0) a refl z y refl k))
