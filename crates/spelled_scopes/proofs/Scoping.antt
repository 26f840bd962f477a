-- The scopes of what is spelled are those of its tree.
use Rattle.std.proofs.Common.{◌≡◌, ap, sym, subst, ◌∙◌, ℕ, List, [], ◌∷◌}
use Rattle.std.specs.Prelude.{map}
use Rattle.c_tokens.specs.declared.token.Shape.{Shape}
use Rattle.c_forms.specs.declared.pieces.Sort.{Sort}
use Rattle.c_forms.specs.declared.pieces.Sort.TheVariants as s
use Rattle.c_forms.specs.Forests.{Plain}
use Rattle.c_reader.specs.States.{State}
use Rattle.c_reader.specs.Tokens.{Spot}
use Rattle.c_syntax.specs.Spells.{Spells}
use Rattle.scope_meanings.specs.declared.meaning.NameUse.TheVariants as naming
use Rattle.scopes.specs.Events.{in_order, events}
use Rattle.scopes.specs.Settling.{Scoped, settled}
use Rattle.spelled_scopes.specs.Meant.{frames, events_in}
use Rattle.spelled_scopes.specs.Agreement.{IsFree, AreScoped, Agrees, Alike, Items}
use Rattle.spelled_scopes.proofs.Joined.{append_nil}
use Rattle.spelled_scopes.proofs.Frames.{settled_on}
use Rattle.spelled_scopes.proofs.Spans.{scoped_alike}
use Rattle.spelled_scopes.proofs.Spelled.{spelled_law}

alone : (t : Plain) (s u : State) → settled (events_in naming.Nothing (t ∷ [])) (frames s.entries) ≡ Scoped (frames u.entries) → AreScoped t s u
alone t s u e = ap (λ es. settled es (frames s.entries)) (sym (append_nil (events t))) ∙ e

pub items_agree : Agrees s.Item
items_agree d w least t i j x f = alone t i.state j.state ((spelled_law d w s.Item least t i j x f).scoped naming.Nothing)

-- and none is begun after it
pub item_free : (d : ℕ) (w : List Shape) (least : ℕ) (t : Plain) (i j : Spot) → Spells d w s.Item least t i j → IsFree i.state → IsFree j.state × (j.state.aside ≡ i.state.aside)
item_free d w least t i j x f = let l = spelled_law d w s.Item least t i j x f in (l.free, l.aside)

pub declarations_agree : Agrees s.Decl
declarations_agree d w least t i j x f = alone t i.state j.state (spelled_law d w s.Decl least t i j x naming.Nothing f).0.scoped

pub statements_agree : Agrees s.Stmt
statements_agree d w least t i j x f = alone t i.state j.state (spelled_law d w s.Stmt least t i j x naming.Nothing f).0.scoped

pub block_items_agree : Agrees s.BlockItem
block_items_agree d w least t i j x f = alone t i.state j.state (spelled_law d w s.BlockItem least t i j x naming.Nothing f).0.scoped

pub blocks_agree : Agrees s.Block
blocks_agree d w least t i j x f = alone t i.state j.state ((spelled_law d w s.Block least t i j x).0 naming.Nothing f).0.scoped

pub expressions_agree : Agrees s.Exp
expressions_agree d w least t i j x f = alone t i.state j.state (spelled_law d w s.Exp least t i j x naming.Nothing f).0.scoped

pub type_names_agree : Agrees s.TypeName
type_names_agree d w least t i j x f = alone t i.state j.state (spelled_law d w s.TypeName least t i j x f naming.Nothing).scoped

pub specifiers_agree : Agrees s.Spec
specifiers_agree d w least t i j x f = alone t i.state j.state ((spelled_law d w s.Spec least t i j x).goes naming.Nothing).scoped

pub members_agree : Agrees s.Member
members_agree d w least t i j x f = alone t i.state j.state (spelled_law d w s.Member least t i j x naming.Nothing f).0.scoped

pub parameters_agree : Agrees s.Param
parameters_agree d w least t i j x f = alone t i.state j.state (spelled_law d w s.Param least t i j x naming.Nothing f).0.scoped

pub initializers_agree : Agrees s.Init
initializers_agree d w least t i j x f = alone t i.state j.state (spelled_law d w s.Init least t i j x naming.Nothing f).0.scoped

pub declarators_agree : Agrees s.Declarator
declarators_agree d w least t i j x f = alone t i.state j.state (spelled_law d w s.Declarator least t i j x).0.silent.scoped

-- also with other spans
pub alike_agree : (due : Sort) → Agrees due → (d : ℕ) (w : List Shape) (least : ℕ) (t v : Plain) (i j : Spot) → Alike t v → Spells d w due least t i j → IsFree i.state → AreScoped v i.state j.state
alike_agree due agrees d w least t v i j a x f = scoped_alike t v (frames i.state.entries) (frames j.state.entries) a (agrees d w least t i j x f)

-- Items one after the other, as a translation unit, are scoped, and end where no declaration is begun.
pub units_agree : (d : ℕ) (w : List Shape) (ts : List Plain) (i j : Spot) → Items d w ts i j → IsFree i.state
    → (settled (in_order (map events ts)) (frames i.state.entries) ≡ Scoped (frames j.state.entries)) × IsFree j.state
units_agree d w [] i j e f = (ap (λ (i : Spot). Scoped (frames i.state.entries)) e, subst (λ (i : Spot). IsFree i.state) e f)
units_agree d w (t ∷ ts) i j x f =
    let first = items_agree d w 0 t i x.0 x.1.0 f in
    let rest = units_agree d w ts x.0 j x.1.1 (item_free d w 0 t i x.0 x.1.0 f).0 in
    (settled_on (events t) (in_order (map events ts)) (frames i.state.entries) (frames x.0.state.entries) first ∙ rest.0, rest.1)
