use Rattle.c_trees.proofs.Numbers.{exact_number}
use Rattle.c_trees.proofs.tree.Tree.exact_parts.Goals as goal

pub unreachable-requires : goal.unreachable-requires
unreachable-requires g c =
    c.in-None.ensures.cases (exact_number g.row.N c.args.self.now c.parts.result.now c.parts.ensures c.requires c.height-height.ensures.valid)
