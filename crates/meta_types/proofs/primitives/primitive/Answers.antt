use Rattle.meta_types.specs.Signatures.{primitives}
use Rattle.meta_types.specs.Shown.{shown}
use Rattle.meta_types.proofs.primitives.primitive.Goals as goal

pub returns : goal.returns
unfolding primitives shown
returns c = c.find.ensures
