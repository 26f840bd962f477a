-- What a tree that is spelled tells besides, by its sort.
use Rattle.std.specs.Prelude.{◌≡◌, ◌⊎◌, Bool, true, false, ◌||◌, List, is_some}
use Rattle.c_tokens.specs.declared.token.Shape.{Shape}
use Rattle.c_tokens.specs.declared.class.Class.TheVariants as class
use Rattle.c_tokens.specs.declared.token.Key.TheVariants as key
use Rattle.c_forms.specs.declared.pieces.Sort.{Sort}
use Rattle.c_forms.specs.declared.pieces.Sort.TheVariants as s
use Rattle.c_forms.specs.Forests.{Plain, empty, tree}
use Rattle.c_forms.specs.Opens.{ends_open}
use Rattle.c_forms.specs.Rules.{is_type, is_sole, is_name, named_at, names, function_at, has_function, is_decl}
use Rattle.c_forms.specs.Sets.{has, starts}
use Rattle.c_reader.specs.States.{State, Kept, Bare, is_bare, has_parameters}
use Rattle.c_reader.specs.Tokens.{Spot, class_at}
use Rattle.c_trees.specs.Valid.{valid_tree}
use Rattle.c_syntax.specs.Allowed.{may_stand}
use Rattle.c_syntax.specs.Reading.{is_absent}
use Rattle.c_syntax.specs.Spells.{Is, may_list}
use Rattle.spelled_trees.specs.Effects.{Leaves}

-- whether a declarator has a name, and a function part next to it
abbrev pub is_named : Plain → Bool
is_named t = named_at t.form (names t.parts)

abbrev pub is_function : Plain → Bool
is_function t = function_at t.form (is_name t.parts) (has_function t.parts)

-- whether it is a name alone
abbrev pub is_bare_name : Plain → Bool
is_bare_name t = is_name (tree t.form t.span empty empty)

-- a specifier that may stand there, and what it adds
pub record Specified (t : Plain) (old new : State) : Type 0 where
  pub may : may_stand old t.form ≡ true
  pub typed : new.kept.has_type ≡ (old.kept.has_type || is_type t.form)
  pub settled : new.kept.is_sole ≡ (old.kept.is_sole || is_sole t.form)

-- a declarator with a name, and what stands next to that
pub record Declared (t : Plain) (new : Kept) : Type 0 where
  pub named : is_named t ≡ true
  pub bare : is_bare new.near ≡ is_bare_name t
  pub function : has_parameters new.near ≡ is_function t

abbrev pub Besides : List Shape → Sort → Plain → Spot → Spot → Type 0
Besides w s.Spec t i j = Specified t i.state j.state
Besides w s.PlainSpec t i j = Specified t i.state j.state
Besides w s.DeclaredId t i j = j.state.kept.near ≡ Bare
Besides w s.Declarator t i j = Declared t j.state.kept
Besides w s.AbstractDeclarator t i j = is_named t ≡ false
Besides w s.ParamDeclarator t i j = is_some j.state.kept.name ≡ true → is_named t ≡ true
Besides w s.MemberName t i j = (is_absent t ≡ true) ⊎ (is_named t ≡ true)
Besides w s.Params t i j = may_list i.state t ≡ true
Besides w s.BlockItem t i j = (is_decl t.form ≡ true → i.state.is_late ≡ false) × (is_decl t.form ≡ false → j.state.is_late ≡ true)
Besides w due t i j = Unit {0}

-- no `else` follows what ends open
abbrev pub Ended : List Shape → Sort → Plain → Spot → Spot → Type 0
Ended w s.Stmt t i j = ends_open t ≡ true → has (starts s.ElsePart) (class_at w j) ≡ false
Ended w s.ElsePart t i j = Is w (class.Key key.Else) i × (ends_open t ≡ true → has (starts s.ElsePart) (class_at w j) ≡ false)
Ended w due t i j = Unit {0}

pub record Told (w : List Shape) (due : Sort) (t : Plain) (i j : Spot) : Type 0 where
  pub leaves : Leaves due i.state j.state
  pub valid : valid_tree t ≡ true
  pub besides : Besides w due t i j
