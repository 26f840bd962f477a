use Rattle.std.proofs.Common.{◌∙◌}
use Rattle.ms2_top.proofs.Ends.{line_within, column_within}
use Rattle.ms2_top.proofs.program.refusal_at.Goals as goal

pub returns : goal.returns
returns c = record {
  at = c.args.at;
  refused = c.requires.refused;
  line = c.place_at-place.ensures.line ∙ line_within c.args.bytes.now c.args.at c.min.result c.min.ensures;
  column = c.place_at-place.ensures.column ∙ column_within c.args.bytes.now c.args.at c.min.result c.min.ensures;
}
