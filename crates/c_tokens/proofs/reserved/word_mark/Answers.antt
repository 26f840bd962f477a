use Rattle.c_tokens.specs.Spelling.{word_marks}
use Rattle.c_tokens.specs.Shown.{shown}
use Rattle.c_tokens.proofs.reserved.word_mark.Goals as goal

pub returns : goal.returns
unfolding word_marks shown
returns c = c.find.ensures
