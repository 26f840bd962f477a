use Rattle.std.proofs.Common.{refl, ap, sym, ◌∙◌, [], ◌∷◌, ◌++◌, is_some, nat_eq}
use Rattle.indexmap.proofs.CallerLemmas.{insert_entry-new}
use Rattle.macro_table.specs.Macros.{macro_of, number_of}
use Rattle.macro_table.specs.MacroRows.{macros_in}
use Rattle.macro_table.proofs.Rows.{number_of-rows, macros_in-push, only_known, only_unknown, none_from}
use Rattle.macro_table.proofs.table.MacroTable.add.Goals as goal

pub returns-then-is_some-clause-taken : goal.returns-then-is_some-clause-taken
returns-then-is_some-clause-taken c =
    only_known _ _ refl
    (ap is_some (ap (number_of c.args.name.0) (sym c.self.view_is) ∙ number_of-rows c.args.name.0 c.self.inside.macros.entries ∙ sym c.get_index_of.ensures.index)
    ∙ sym c.is_some.ensures ∙ c.if-is_some.true)

pub returns-in-Ok-clause-added : goal.returns-in-Ok-clause-added
returns-in-Ok-clause-added c =
    ap macros_in (c.in-Ok.ensures.entries ∙ insert_entry-new nat_eq c.self.inside.macros c.args.name.0 _ (none_from _ (sym c.get_index_of.ensures.found ∙ sym c.is_some.ensures ∙ c.if-is_some.false)))
    ∙ macros_in-push c.self.inside.macros.entries _
    ∙ ap (λ macros. macros ++ macro_of c.args.name.0 c.args.given c.args.fit ∷ []) c.self.view_is

pub returns-in-Ok-clause-taken : goal.returns-in-Ok-clause-taken
returns-in-Ok-clause-taken c =
    only_unknown _ _ (λ e. cc)
    (ap is_some (ap (number_of c.args.name.0) (sym c.self.view_is) ∙ number_of-rows c.args.name.0 c.self.inside.macros.entries ∙ sym c.get_index_of.ensures.index)
    ∙ sym c.is_some.ensures ∙ c.if-is_some.false)

pub returns-clause-taken : goal.returns-clause-taken
returns-clause-taken c =
    only_unknown _ _ (λ e. cc)
    (ap is_some (ap (number_of c.args.name.0) (sym c.self.view_is) ∙ number_of-rows c.args.name.0 c.self.inside.macros.entries ∙ sym c.get_index_of.ensures.index)
    ∙ sym c.is_some.ensures ∙ c.if-is_some.false)
