-- The rows of a table of functions.
use Rattle.std.proofs.Common.{◌≡◌, sym, ◌∙◌, ◌↔◌, ℕ, true, false, List, [], ◌∷◌, ◌++◌, position, Option, is_some, IsSome, nat_eq}
use Rattle.std.proofs.lemmas.List.{map-append}
use Rattle.std.specs.Map.{keys_of}
use Rattle.c_tokens.proofs.Texts.{position-map}
use Rattle.meta_types.specs.declared.functions.Types.{Types}
use Rattle.meta_types.specs.FunctionTable.{Function, function, number_of}
use Rattle.meta_types.specs.FunctionRows.{functions_in}

abbrev shown : ℕ × Types → Function
shown row = record { name = row.0; params = row.1.params.items; result = row.1.result }

pub number_of-rows : (name : ℕ) (rows : List (ℕ × Types)) → number_of name (functions_in rows) ≡ position (nat_eq name) (keys_of rows)
number_of-rows name rows =
    position-map (λ function. nat_eq name function.name) shown rows ∙ sym (position-map (nat_eq name) (λ row. row.0) rows)

pub functions_in-push : (rows : List (ℕ × Types)) (row : ℕ × Types) → functions_in (rows ++ row ∷ []) ≡ functions_in rows ++ function row.0 row.1.params.items row.1.result ∷ []
functions_in-push rows row = map-append shown rows (row ∷ [])

pub only_known : (P : Type 0) (o : Option ℕ) → P → is_some o ≡ true → P ↔ IsSome o
only_known P o p e = (λ _. e, λ _. p)

pub only_unknown : (P : Type 0) (o : Option ℕ) → (P → ⊥) → is_some o ≡ false → P ↔ IsSome o
only_unknown P o refused e = (λ p. absurd (refused p), λ h. absurd (let both : true ≡ false = sym h ∙ e in cc))
