-- What a row asks of the parts of a node, one after the other, so that their tokens spell it.
use Rattle.std.specs.Prelude.{◌≡◌, ℕ, true, false, List, [], ◌∷◌, ◌++◌, Option, Some, None}
use Rattle.c_tokens.specs.declared.span.Span.{Span}
use Rattle.c_tokens.specs.declared.token.Shape.{Shape}
use Rattle.c_tokens.specs.declared.class.Class.{Class}
use Rattle.c_forms.specs.declared.pieces.Sort.{Sort}
use Rattle.c_forms.specs.declared.pieces.Repetition.{Repetition}
use Rattle.c_forms.specs.declared.pieces.Repetition.TheVariants.{Optional, Greedy, Due, All, Any, Many, Spliced, Ended}
use Rattle.c_forms.specs.declared.pieces.Piece.{Piece}
use Rattle.c_forms.specs.declared.pieces.Piece.TheVariants.{Token, Maybe, Own, TypeTokens, KindName, One, Group, Rest, Anything, Then}
use Rattle.c_forms.specs.declared.forms.Form.{Form}
use Rattle.c_forms.specs.Forests.{Plain, Forest, empty, tree}
use Rattle.c_forms.specs.Rules.{is_none}
use Rattle.c_forms.specs.Sets.{Classes, has, starts, held_class}
use Rattle.c_forms.specs.Tokens.{held}
use Rattle.c_reader.specs.States.{State, class, happens}
use Rattle.c_reader.specs.Tokens.{Spot, step, turned}
use Rattle.c_syntax.specs.Allowed.{may_happen}
use Rattle.c_syntax.specs.Reading.{Before, Usual, before_by, is_missing, is_absent, inside}
use Rattle.c_layout.specs.Marks.{shape_if, if_any}
use Rattle.c_layout.specs.Spelled.{spell, all_spelled, wholes, in_place, after_first, tokens}

abbrev pub the_tree : Form → Span → Forest → Plain
the_tree f sp ps = record { form = f; span = sp; parts = ps }

-- the tokens of a tree where at least a level is due
abbrev pub placed : ℕ → Plain → List Shape
placed least t = in_place least (record { form = t.form; tokens = tokens t })

-- the tokens of elements after the first, each after a separator
abbrev pub others : Option Class → ℕ → Forest → List Shape
others c least es = after_first (if_any (shape_if c)) least (wholes (all_spelled es))

-- after a separator
abbrev pub past : Option Class → Spot → Spot
past None i = i
past (Some c) i = step i

-- none of these begins the tokens that come next
abbrev pub IsOff : Classes → State → List Shape → Type 0
IsOff begin s [] = ⊥
IsOff begin s (x ∷ xs) = has begin (class s x) ≡ false

-- the token that a form holds is of its class there
pub record IsOwn (f : Form) (s : State) : Type 0 where
  pub shape : Shape
  pub held : held f ≡ Some shape
  pub seen : has (held_class f) (class s shape) ≡ true

-- Which trees are ready to be spelled where they stand and what follows, and what they do there.
module _ (Ready : Sort → Plain → State → Type 0) (Follows : Sort → Plain → List Shape → Type 0) (Does : Sort → Plain → Spot → Spot → Type 0) where
  -- a tree, and what comes after it
  abbrev pub IsReady : Sort → Plain → Spot → List Shape → (Spot → Type 0) → Type 0
  IsReady due t i after K = Ready due t i.state × (Follows due t after × ((j : Spot) → Does due t i j → K j))

  -- elements after the first
  abbrev pub OthersReady : Sort → ℕ → Option Class → Forest → Spot → List Shape → (Spot → Type 0) → Type 0
  OthersReady due least c empty i after K = K i
  OthersReady due least c (tree f sp ps rest) i after K = IsReady due (the_tree f sp ps) (past c i) (others c least rest ++ after) (λ j. OthersReady due least c rest j after K)

  -- elements, if there are some
  abbrev pub AreReady : Sort → ℕ → Option Class → Forest → Spot → List Shape → (Spot → Type 0) → Type 0
  AreReady due least c empty i after K = K i
  AreReady due least c (tree f sp ps rest) i after K = IsReady due (the_tree f sp ps) i (others c least rest ++ after) (λ j. OthersReady due least c rest j after K)

  abbrev pub GroupReady : Repetition → Sort → ℕ → Before → Forest → Spot → List Shape → (Spot → Type 0) → Type 0
  GroupReady Optional due least before es i after K = AreReady due least None es i after K
  GroupReady Greedy due least before empty i after K = IsOff (starts due) i.state after × K i
  GroupReady Greedy due least before (tree f sp ps rest) i after K = AreReady due least None (tree f sp ps rest) i after K
  GroupReady Due due least before empty i after K = (is_missing before ≡ false) × K i
  GroupReady Due due least before (tree f sp ps rest) i after K = AreReady due least None (tree f sp ps rest) i after K
  GroupReady All due least before es i after K = AreReady due least None es i after (λ j. IsOff (starts due) j.state after × K j)
  GroupReady Any due least before es i after K = AreReady due least None es i after (λ j. IsOff (starts due) j.state after × K j)
  GroupReady (Many c some) due least before es i after K = AreReady due least c es i after K
  GroupReady (Spliced c some) due least before es i after K = AreReady due least c es i after K
  GroupReady (Ended c end_token) due least before es i after K = AreReady due least (Some c) es i after K

  -- the parts that pieces ask for, and what is known at their end
  abbrev pub RowReady : Sort → Form → Before → List Piece → Forest → Spot → List Shape → (Spot → Type 0) → Type 0
  RowReady own f before [] empty i after K = K i
  RowReady own f before [] (tree g sp qs rest) i after K = ⊥
  RowReady own f before (Token c ∷ ps) ts i after K = RowReady own f Usual ps ts (step i) after K
  RowReady own f before (Maybe c ∷ ps) ts i after K = RowReady own f Usual ps ts i after K
  RowReady own f before (Own ∷ ps) ts i after K = IsOwn f i.state × RowReady own f Usual ps ts (step i) after K
  RowReady own f before (One due least ∷ ps) empty i after K = ⊥
  RowReady own f before (One due least ∷ ps) (tree g sp qs rest) i after K = IsReady (inside own due) (the_tree g sp qs) i (spell ps f (all_spelled rest) ++ after)
      (λ j. RowReady own f (before_by (is_absent (the_tree g sp qs))) ps rest j after K)
  RowReady own f before (Group r due least ∷ ps) empty i after K = ⊥
  RowReady own f before (Group r due least ∷ ps) (tree g sp es rest) i after K = GroupReady r due least before es i (spell ps f (all_spelled rest) ++ after)
      (λ j. RowReady own f (before_by (is_none es)) ps rest j after K)
  RowReady own f before (Then e ∷ ps) ts i after K = (may_happen e i.state ≡ true) × RowReady own f before ps ts (turned (happens e) i) after K
  RowReady own f before (TypeTokens ∷ ps) ts i after K = ⊥
  RowReady own f before (KindName ∷ ps) ts i after K = ⊥
  RowReady own f before (Rest due ∷ ps) ts i after K = ⊥
  RowReady own f before (Anything ∷ ps) ts i after K = ⊥
