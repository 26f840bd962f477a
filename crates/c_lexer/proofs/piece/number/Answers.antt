use Rattle.std.proofs.Common.{◌≡◌, ◌<◌, ◌≤◌, ◌+◌, ap, ◌∙◌, rules, arith, length, drop, get_or}
use Rattle.std.proofs.lemmas.List.{length-take, length-drop}
use Rattle.c_tokens.specs.Runs.{number_run}
use Rattle.c_tokens.proofs.Reaches.{number_run-le}
use Rattle.c_lexer.proofs.Heads.{part}
use Rattle.c_lexer.proofs.Found.{some_in_number, number_found}
use Rattle.c_lexer.proofs.piece.number.Goals as goal

pub bounds-text-0 : goal.bounds-text-0
bounds-text-0 c = some_in_number c.args.text.now c.requires

pub slice_bounds-number_length-count : goal.slice_bounds-number_length-count
slice_bounds-number_length-count c = let some : 0 < length c.args.text.now = some_in_number c.args.text.now c.requires in omega arith

pub slice_bounds-number_length-start : goal.slice_bounds-number_length-start
slice_bounds-number_length-start c = let some : 0 < length c.args.text.now = some_in_number c.args.text.now c.requires in search rules

run_is : (c : goal.After-number_length-length) → c.number_length-length.result ≡ number_run (get_or c.args.text.now 0 0) (drop 1 c.args.text.now)
run_is c = c.number_length-length.ensures ∙ ap (number_run (get_or c.args.text.now 0 0)) (part c.args.text.now 1)

within : (c : goal.After-number_length-length) → 1 + c.number_length-length.result ≤ length c.args.text.now
within c =
    let some : 0 < length c.args.text.now = some_in_number c.args.text.now c.requires in
    omega (arith, run_is c, number_run-le (get_or c.args.text.now 0 0) (drop 1 c.args.text.now), length-drop 1 c.args.text.now)

pub overflow_add-length : goal.overflow_add-length
overflow_add-length c =
    let w : 1 + c.number_length-length.result ≤ length c.args.text.now = within c in
    search rules

pub slice_bounds-number_meaning-end : goal.slice_bounds-number_meaning-end
slice_bounds-number_meaning-end c = omega (arith, within c, length-take (1 + c.number_length-length.result) c.args.text.now)

pub returns : goal.returns
returns c d o =
    let n = 1 + c.number_length-length.result in
    number_found d c.args.text.now (record { length = n; meaning = c.number_meaning-meaning.result }) c.requires o
    (ap (λ k. 1 + k) (c.number_length-length.ensures ∙ ap (number_run (get_or c.args.text.now 0 0)) (part c.args.text.now 1))) c.number_meaning-meaning.ensures
