use Rattle.std.proofs.Common.{sym, ◌∙◌}
use Rattle.fresh_names.proofs.Words.{word_whole}
use Rattle.fresh_names.proofs.identifier.is_word.Goals as goal

pub returns-then-is_letter : goal.returns-then-is_letter
returns-then-is_letter c = word_whole c.args.text.now c.all_word_bytes.result c.in-len1-up.len_at_least (sym c.is_letter.ensures ∙ c.if-is_letter.true) c.all_word_bytes.ensures
