use Rattle.c_tokens.specs.Spelling.{keywords}
use Rattle.c_tokens.specs.Shown.{shown}
use Rattle.c_tokens.proofs.reserved.keyword.Goals as goal

pub returns : goal.returns
unfolding keywords shown
returns c = c.find.ensures
