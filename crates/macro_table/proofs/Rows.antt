-- The rows of a table of macros.
use Rattle.std.proofs.Common.{◌≡◌, refl, sym, ◌∙◌, ◌↔◌, ℕ, true, false, List, [], ◌∷◌, ◌++◌, position, Option, Some, None, is_some, IsSome, nat_eq}
use Rattle.std.proofs.lemmas.List.{map-append}
use Rattle.std.specs.Map.{keys_of}
use Rattle.c_tokens.proofs.Texts.{position-map}
use Rattle.macro_table.specs.declared.table.Entry.{Entry}
use Rattle.macro_table.specs.Macros.{Macro, macro_of, number_of}
use Rattle.macro_table.specs.MacroRows.{macros_in}

abbrev shown : ℕ × Entry → Macro
shown row = record { name = row.0; result = row.1.result; fit = row.1.fit }

pub number_of-rows : (name : ℕ) (rows : List (ℕ × Entry)) → number_of name (macros_in rows) ≡ position (nat_eq name) (keys_of rows)
number_of-rows name rows =
    position-map (λ m. nat_eq name m.name) shown rows ∙ sym (position-map (nat_eq name) (λ row. row.0) rows)

pub macros_in-push : (rows : List (ℕ × Entry)) (row : ℕ × Entry) → macros_in (rows ++ row ∷ []) ≡ macros_in rows ++ macro_of row.0 row.1.result row.1.fit ∷ []
macros_in-push rows row = map-append shown rows (row ∷ [])

pub only_known : (P : Type 0) (o : Option ℕ) → P → is_some o ≡ true → P ↔ IsSome o
only_known P o p e = (λ _. e, λ _. p)

pub only_unknown : (P : Type 0) (o : Option ℕ) → (P → ⊥) → is_some o ≡ false → P ↔ IsSome o
only_unknown P o refused e = (λ p. absurd (refused p), λ h. absurd (let both : true ≡ false = sym h ∙ e in cc))

-- there is no value
pub none_from : {A : Type 0} (o : Option A) → is_some o ≡ false → o ≡ None
none_from None e = refl
none_from (Some a) e = absurd cc
