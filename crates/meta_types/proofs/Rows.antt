-- Looking through a table row by row.
use Rattle.std.proofs.Common.{◌≡◌, refl, ap, true, false, ◌∙◌, ℕ, ◌+◌, ◌<◌, ◌≤◌, cond, List, [], ◌∷◌, length, drop, get_or, Some, None, bytes_eq, arith, add-one, drop-cons}
use Rattle.std.specs.Borrow.{Bor}
use Rattle.std.proofs.lemmas.Grind.{common_steps}
use Rattle.c_tokens.specs.Spelling.{find_text}
use Rattle.meta_types.specs.Shown.{shown}

abbrev Rows : Type 0 → Type 0
Rows A = List (Bor (List ℕ) × A)

row : {A : Type 0} (table : Rows A) (i : ℕ) (d : Bor (List ℕ) × A) → i < length table → drop i table ≡ get_or table i d ∷ drop (i + 1) table
row table i d within = rw (add-one, drop-cons table i d) refl

none_left : {A : Type 0} (table : Rows A) (i : ℕ) → length table ≤ i → drop i table ≡ []
none_left table i past = grind (arith, common_steps)

pub find-row : {A : Type 0} (text : List ℕ) (table : Rows A) (i : ℕ) (d : Bor (List ℕ) × A) → i < length table
    → find_text text (shown (drop i table)) ≡ cond (bytes_eq text (get_or table i d).0.now) (Some (get_or table i d).1) (find_text text (shown (drop (i + 1) table)))
unfolding find_text shown
find-row text table i d within = ap (λ rows. find_text text (shown rows)) (row table i d within)

pub find-end : {A : Type 0} (text : List ℕ) (table : Rows A) (i : ℕ) → length table ≤ i → find_text text (shown (drop i table)) ≡ None
unfolding find_text shown
find-end text table i past = ap (λ rows. find_text text (shown rows)) (none_left table i past)

pub find-hit : {A : Type 0} (text : List ℕ) (table : Rows A) (i : ℕ) (d : Bor (List ℕ) × A) → i < length table → bytes_eq text (get_or table i d).0.now ≡ true
    → find_text text (shown table) ≡ find_text text (shown (drop i table)) → find_text text (shown table) ≡ Some (get_or table i d).1
find-hit text table i d within same so_far =
    so_far ∙ find-row text table i d within ∙ ap (λ b. cond b (Some (get_or table i d).1) (find_text text (shown (drop (i + 1) table)))) same

pub find-miss : {A : Type 0} (text : List ℕ) (table : Rows A) (i : ℕ) (d : Bor (List ℕ) × A) → i < length table → bytes_eq text (get_or table i d).0.now ≡ false
    → find_text text (shown table) ≡ find_text text (shown (drop i table)) → find_text text (shown table) ≡ find_text text (shown (drop (i + 1) table))
find-miss text table i d within other so_far =
    so_far ∙ find-row text table i d within ∙ ap (λ b. cond b (Some (get_or table i d).1) (find_text text (shown (drop (i + 1) table)))) other
