-- Lists of one item and of two.
use Rattle.std.specs.Prelude.{List, [], ◌∷◌, Option, Some, None}

abbrev pub only_item : {A : Type 0} → List A → Option A
only_item (a ∷ []) = Some a
only_item _ = None

abbrev pub both_items : {A : Type 0} → List A → Option (A × A)
both_items (a ∷ b ∷ []) = Some (a, b)
both_items _ = None
