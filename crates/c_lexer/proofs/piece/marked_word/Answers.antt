use Rattle.std.proofs.Common.{rules, arith, length, drop, take, ◌-◌, ◌≤◌, ◌+◌}
use Rattle.std.proofs.lemmas.List.{length-take, length-drop}
use Rattle.std.proofs.lemmas.List.Sums.{prefix_len-le-length}
use Rattle.c_tokens.specs.Bytes.{is_word_byte}
use Rattle.c_lexer.proofs.piece.marked_word.Goals as goal

within : (c : goal.After-word_length) → c.args.start + c.word_length.result ≤ length c.args.text.now
within c =
    let rest = take (length c.args.text.now - c.args.start) (drop c.args.start c.args.text.now) in
    omega (arith, c.word_length.ensures, prefix_len-le-length is_word_byte rest, length-take (length c.args.text.now - c.args.start) (drop c.args.start c.args.text.now), length-drop c.args.start c.args.text.now)

pub overflow_add-length : goal.overflow_add-length
overflow_add-length c =
    let w : c.args.start + c.word_length.result ≤ length c.args.text.now = within c in
    search rules

pub slice_bounds-word_mark-end : goal.slice_bounds-word_mark-end
slice_bounds-word_mark-end c = omega (arith, within c, length-take (c.args.start + c.word_length.result) c.args.text.now)
