-- Looking through a table row by row.
use Rattle.std.proofs.Common.{◌≡◌, refl, ap, sym, true, false, ◌∙◌, ℕ, ◌+◌, ◌<◌, ◌≤◌, cond, List, [], ◌∷◌, length, drop, get_or, Some, None, bytes_eq, arith, add-one, drop-cons}
use Rattle.std.specs.Borrow.{Bor}
use Rattle.std.proofs.lemmas.Grind.{common_steps}
use Rattle.c_tokens.specs.Spelling.{find_text}
use Rattle.c_tokens.specs.Shown.{shown}

abbrev pub Rows : Type 0 → Type 0
Rows A = List (Bor (List ℕ) × A)

pub row : {A : Type 0} (table : Rows A) (i : ℕ) (d : Bor (List ℕ) × A) → i < length table → drop i table ≡ get_or table i d ∷ drop (i + 1) table
row table i d within = rw (add-one, drop-cons table i d) refl

pub none_left : {A : Type 0} (table : Rows A) (i : ℕ) → length table ≤ i → drop i table ≡ []
none_left table i past = grind (arith, common_steps)

pub find-row : {A : Type 0} (text : List ℕ) (table : Rows A) (i : ℕ) (d : Bor (List ℕ) × A) → i < length table
    → find_text text (shown (drop i table)) ≡ cond (bytes_eq text (get_or table i d).0.now) (Some (get_or table i d).1) (find_text text (shown (drop (i + 1) table)))
unfolding find_text shown
find-row text table i d within = ap (λ rows. find_text text (shown rows)) (row table i d within)

pub find-end : {A : Type 0} (text : List ℕ) (table : Rows A) (i : ℕ) → length table ≤ i → find_text text (shown (drop i table)) ≡ None
unfolding find_text shown
find-end text table i past = ap (λ rows. find_text text (shown rows)) (none_left table i past)

pub find-hit : {A : Type 0} (text : List ℕ) (table : Rows A) (i : ℕ) (item : Bor (List ℕ) × A) → i < length table → item ≡ get_or table i item → bytes_eq text item.0.now ≡ true
    → find_text text (shown table) ≡ find_text text (shown (drop i table)) → Some item.1 ≡ find_text text (shown table)
find-hit text table i item within is same so_far =
    sym (so_far ∙ find-row text table i item within ∙ ap (λ e. cond (bytes_eq text e.0.now) (Some e.1) (find_text text (shown (drop (i + 1) table)))) (sym is)
    ∙ ap (λ b. cond b (Some item.1) (find_text text (shown (drop (i + 1) table)))) same)

pub find-miss : {A : Type 0} (text : List ℕ) (table : Rows A) (i : ℕ) (item : Bor (List ℕ) × A) → i < length table → item ≡ get_or table i item → bytes_eq text item.0.now ≡ false
    → find_text text (shown table) ≡ find_text text (shown (drop i table)) → find_text text (shown table) ≡ find_text text (shown (drop (i + 1) table))
find-miss text table i item within is other so_far =
    so_far ∙ find-row text table i item within ∙ ap (λ e. cond (bytes_eq text e.0.now) (Some e.1) (find_text text (shown (drop (i + 1) table)))) (sym is)
    ∙ ap (λ b. cond b (Some item.1) (find_text text (shown (drop (i + 1) table)))) other
