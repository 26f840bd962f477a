use Rattle.c_trees.specs.Deep.{deep_tree}
use Rattle.c_trees.proofs.opens.+ends_open.Given as goal

abbrev pub decreases-ends_open : goal.decreases-ends_open
decreases-ends_open l = deep_tree l.tree.now
