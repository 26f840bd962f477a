use Rattle.std.proofs.Common.{refl}
use Rattle.c_tokens.specs.Spelling.{is_word}
use Rattle.c_tokens.specs.Bytes.{is_letter}
use Rattle.fresh_names.proofs.tests.constants_are_no_names.Goals as goal

pub constant-requires-clause-no_word : goal.constant-requires-clause-no_word
unfolding is_word is_letter
constant-requires-clause-no_word g c = refl

pub constant-requires-2-clause-no_word : goal.constant-requires-2-clause-no_word
unfolding is_word is_letter
constant-requires-2-clause-no_word g c = refl

pub constant-requires-3-clause-no_word : goal.constant-requires-3-clause-no_word
unfolding is_word is_letter
constant-requires-3-clause-no_word g c = refl
