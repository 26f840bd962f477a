use Rattle.c_layout.proofs.Tokens.{tokens_added}
use Rattle.c_layout.proofs.layout.lay_out.Goals as goal

pub returns-clause-tokens : goal.returns-clause-tokens
returns-clause-tokens c =
    tokens_added c.args.marks.now.items c.push_line.new.marks.items c.put_tree.new.marks.items c.args.item.now c.in_ok-push_line.ensures c.in_ok-put_tree.ensures
