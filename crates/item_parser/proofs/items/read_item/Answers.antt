use Rattle.std.proofs.Common.{map}
use Rattle.item_parser.specs.Answers.{answer_of}
use Rattle.table_parser.specs.Cursors.{shape_of}
use Rattle.item_parser.proofs.Answered.{draft_right, tree_stands, is_next, is_given, is_answered, is_first_dead, is_too_deep, only_memory, refused_with, lacking_with}
use Rattle.item_parser.proofs.items.read_item.Goals as goal

pub placed_tree-tree-requires : goal.placed_tree-tree-requires
placed_tree-tree-requires c = draft_right c.args.tokens.now c.args.scopes.now c.args.at c.in-Ok.found c.in-Ok.ensures.finds.0 c.in-Ok.end c.in-Ok.ensures.finds.1.0 c.in-Ok.ensures.finds.1.1 c.into_draft.result c.into_draft.ensures

pub item_at-requires-clause-item : goal.item_at-requires-clause-item
item_at-requires-clause-item c = tree_stands c.args.tokens.now c.args.scopes.now c.args.at c.in-Ok.found c.in-Ok.ensures.finds.0 c.in-Ok.end c.in-Ok.ensures.finds.1.0 c.in-Ok.ensures.finds.1.1 c.into_draft.result c.placed_tree-tree.result c.into_draft.ensures c.placed_tree-tree.ensures.placed

pub returns-in-Ok-clause-read : goal.returns-in-Ok-clause-read
returns-in-Ok-clause-read c = is_next c.args.tokens.now c.args.scopes.now c.args.at c.in-Ok.found c.in-Ok.ensures.finds.0 c.in-Ok.end c.in-Ok.ensures.finds.1.0 c.in-Ok.ensures.finds.1.1 c.next_found.ensures.some c.into_draft.result c.placed_tree-tree.result c.item_at.result c.into_draft.ensures c.placed_tree-tree.ensures.placed c.item_at.ensures.done

pub returns-in-Ok-clause-complete : goal.returns-in-Ok-clause-complete
returns-in-Ok-clause-complete c = is_given c.args.tokens.now c.args.scopes.now c.args.at c.in-Ok.found c.in-Ok.ensures.finds.0 c.in-Ok.end c.in-Ok.ensures.finds.1.0 c.in-Ok.ensures.finds.1.1 c.into_draft.result c.placed_tree-tree.result c.item_at.result c.into_draft.ensures c.placed_tree-tree.ensures.placed c.item_at.ensures.done c.item_at.ensures.refused

pub returns-in-Err-clause-complete : goal.returns-in-Err-clause-complete
returns-in-Err-clause-complete c depth item end le R =
    let A = is_answered c.args.scopes.now (map shape_of c.args.tokens.now) c.args.at depth item end le R in
    only_memory (answer_of c.args.scopes.now (map shape_of c.args.tokens.now) c.args.at) (A.0, A.1.0) c.in-Err.refusal A.1.1.0 c.in-Err.ensures.finds

pub returns-in-Err-clause-syntax : goal.returns-in-Err-clause-syntax
returns-in-Err-clause-syntax c k e = is_first_dead c.args.scopes.now (map shape_of c.args.tokens.now) c.args.at k (refused_with _ c.in-Err.refusal k e c.in-Err.ensures.finds)

pub returns-in-Err-clause-too_deep : goal.returns-in-Err-clause-too_deep
returns-in-Err-clause-too_deep c k e = is_too_deep c.args.scopes.now (map shape_of c.args.tokens.now) c.args.at k (lacking_with _ c.in-Err.refusal k e c.in-Err.ensures.finds)
