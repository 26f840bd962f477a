-- Looking through a table of signs row by row.
use Rattle.std.proofs.Common.{◌≡◌, ap, true, false, ◌∙◌, ℕ, ◌+◌, ◌<◌, ◌≤◌, cond, List, length, drop, get_or, Some, None, nat_eq}
use Rattle.std.specs.Borrow.{Bor}
use Rattle.std.specs.List.{starts_with}
use Rattle.c_tokens.specs.Runs.{first_prefix}
use Rattle.c_tokens.specs.Shown.{shown}
use Rattle.c_tokens.proofs.Rows.{Rows, row, none_left}

pub starting-row : {A : Type 0} (text : List ℕ) (table : Rows A) (i : ℕ) (d : Bor (List ℕ) × A) → i < length table
    → first_prefix text (shown (drop i table)) ≡ cond (starts_with nat_eq text (get_or table i d).0.now) (Some ((get_or table i d).0.now, (get_or table i d).1)) (first_prefix text (shown (drop (i + 1) table)))
unfolding first_prefix shown
starting-row text table i d within = ap (λ rows. first_prefix text (shown rows)) (row table i d within)

pub starting-end : {A : Type 0} (text : List ℕ) (table : Rows A) (i : ℕ) → length table ≤ i → first_prefix text (shown (drop i table)) ≡ None
unfolding first_prefix shown
starting-end text table i past = ap (λ rows. first_prefix text (shown rows)) (none_left table i past)

pub starting-hit : {A : Type 0} (text : List ℕ) (table : Rows A) (i : ℕ) (d : Bor (List ℕ) × A) → i < length table → starts_with nat_eq text (get_or table i d).0.now ≡ true
    → first_prefix text (shown table) ≡ first_prefix text (shown (drop i table)) → first_prefix text (shown table) ≡ Some ((get_or table i d).0.now, (get_or table i d).1)
starting-hit text table i d within same so_far =
    so_far ∙ starting-row text table i d within ∙ ap (λ b. cond b (Some ((get_or table i d).0.now, (get_or table i d).1)) (first_prefix text (shown (drop (i + 1) table)))) same

pub starting-miss : {A : Type 0} (text : List ℕ) (table : Rows A) (i : ℕ) (d : Bor (List ℕ) × A) → i < length table → starts_with nat_eq text (get_or table i d).0.now ≡ false
    → first_prefix text (shown table) ≡ first_prefix text (shown (drop i table)) → first_prefix text (shown table) ≡ first_prefix text (shown (drop (i + 1) table))
starting-miss text table i d within other so_far =
    so_far ∙ starting-row text table i d within ∙ ap (λ b. cond b (Some ((get_or table i d).0.now, (get_or table i d).1)) (first_prefix text (shown (drop (i + 1) table)))) other
