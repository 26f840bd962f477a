-- Drafts side by side as a list.
use Rattle.std.specs.Prelude.{List, []}
use Rattle.draft_trees.specs.declared.drafts.Few.{Few}
use Rattle.draft_trees.specs.declared.drafts.Few.TheVariants as few
use Rattle.c_forms.specs.Forests.{Plain}

abbrev pub few_list : Few → List Plain
few_list few.None = []
few_list (few.One ts) = ts
few_list (few.Two ts) = ts
few_list (few.Many ts) = ts
