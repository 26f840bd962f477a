use Rattle.std.proofs.Common.{◌∙◌, sym, ap}
use Rattle.macro_table.specs.Macros.{number_of}
use Rattle.macro_table.proofs.Rows.{number_of-rows}
use Rattle.macro_table.proofs.table.MacroTable.by_word.Goals as goal

pub returns-in-Some : goal.returns-in-Some
returns-in-Some c = c.in-Some.ensures.index ∙ sym (number_of-rows c.args.word.0 c.self.inside.macros.entries) ∙ ap (number_of c.args.word.0) c.self.view_is

pub returns-in-None : goal.returns-in-None
returns-in-None c = c.in-None.ensures.index ∙ sym (number_of-rows c.args.word.0 c.self.inside.macros.entries) ∙ ap (number_of c.args.word.0) c.self.view_is
