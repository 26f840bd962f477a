use Rattle.std.proofs.Common.{refl, ap, sym, ◌∙◌, [], ◌∷◌, ◌++◌, is_some, nat_eq}
use Rattle.indexmap.proofs.CallerLemmas.{insert_entry-new}
use Rattle.meta_types.specs.FunctionTable.{function, number_of}
use Rattle.meta_types.specs.FunctionRows.{functions_in}
use Rattle.meta_types.proofs.Options.{none_from}
use Rattle.meta_types.proofs.Table.{number_of-rows, functions_in-push, only_known, only_unknown}
use Rattle.meta_types.proofs.functions.Functions.add.Goals as goal

pub returns-then-is_some-clause-taken : goal.returns-then-is_some-clause-taken
returns-then-is_some-clause-taken c =
    only_known _ _ refl
    (ap is_some (ap (number_of c.args.name.0) (sym c.self.view_is) ∙ number_of-rows c.args.name.0 c.self.inside.functions.entries ∙ sym c.get_index_of.ensures.index)
    ∙ sym c.is_some.ensures ∙ c.if-is_some.true)

pub returns-in-Ok-clause-added : goal.returns-in-Ok-clause-added
returns-in-Ok-clause-added c =
    ap functions_in (c.in-Ok.ensures.entries ∙ insert_entry-new nat_eq c.self.inside.functions c.args.name.0 _ (none_from _ (sym c.get_index_of.ensures.found ∙ sym c.is_some.ensures ∙ c.if-is_some.false)))
    ∙ functions_in-push c.self.inside.functions.entries _
    ∙ ap (λ functions. functions ++ function c.args.name.0 c.args.params.items c.args.given ∷ []) c.self.view_is

pub returns-in-Ok-clause-taken : goal.returns-in-Ok-clause-taken
returns-in-Ok-clause-taken c =
    only_unknown _ _ (λ e. cc)
    (ap is_some (ap (number_of c.args.name.0) (sym c.self.view_is) ∙ number_of-rows c.args.name.0 c.self.inside.functions.entries ∙ sym c.get_index_of.ensures.index)
    ∙ sym c.is_some.ensures ∙ c.if-is_some.false)

pub returns-clause-taken : goal.returns-clause-taken
returns-clause-taken c =
    only_unknown _ _ (λ e. cc)
    (ap is_some (ap (number_of c.args.name.0) (sym c.self.view_is) ∙ number_of-rows c.args.name.0 c.self.inside.functions.entries ∙ sym c.get_index_of.ensures.index)
    ∙ sym c.is_some.ensures ∙ c.if-is_some.false)
