-- Codes of what is read.
use Rattle.std.specs.Prelude.{ℕ, Bool, List, refl}
use Rattle.std.specs.Coded.{Coded, code_by, coded×, coded_ℕ, coded_bool, coded_list}
use Rattle.c_forms.specs.Forests.{Plain, plain_code}
use Rattle.c_reader.specs.Readers.{Found}
use Rattle.c_syntax.specs.Reading.{Listed, Gathered}
use Rattle.c_syntax.specs.Grammar.{Standing}

abbrev pub found_code : Coded Found
found_code = code_by (Plain × ℕ) (coded× plain_code coded_ℕ) (λ x. (x.tree, x.height)) (λ p. record { tree = p.0; height = p.1 }) (λ _. refl)

abbrev pub listed_code : Coded Listed
listed_code = code_by (List Plain × ℕ) (coded× (coded_list plain_code) coded_ℕ) (λ g. (g.trees, g.height)) (λ p. record { trees = p.0; height = p.1 }) (λ _. refl)

abbrev pub gathered_code : Coded Gathered
gathered_code = code_by (List Plain × (ℕ × (ℕ × Bool))) (coded× (coded_list plain_code) (coded× coded_ℕ (coded× coded_ℕ coded_bool)))
    (λ g. (g.trees, (g.height, (g.last, g.is_ended)))) (λ p. record { trees = p.0; height = p.1.0; last = p.1.1.0; is_ended = p.1.1.1 }) (λ _. refl)

abbrev pub standing_code : Coded Standing
standing_code = code_by (Plain × (ℕ × ℕ)) (coded× plain_code (coded× coded_ℕ coded_ℕ)) (λ y. (y.found.tree, (y.found.height, y.level))) (λ p. record { found = record { tree = p.0; height = p.1.0 }; level = p.1.1 }) (λ _. refl)
