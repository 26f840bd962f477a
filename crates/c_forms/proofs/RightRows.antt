-- Each row is right: a list here that is not empty names the forms whose rows are not.
use Rattle.std.proofs.Common.{◌≡◌, refl, []}
use Rattle.c_forms.specs.AllForms.{exp_forms, spec_forms, declarator_forms, unnamed_forms, param_forms, init_forms, stmt_forms, item_forms, meta_exp_forms, template_forms, meta_stmt_forms, element_forms, hole_forms, group_forms, other_forms}
use Rattle.c_forms.specs.Sets.{all_puncts}
use Rattle.c_forms.specs.Right.{wrong, wrong_as}
use Rattle.c_forms.specs.declared.pieces.Sort.TheVariants as s

exps : wrong all_puncts exp_forms ≡ []
exps = refl

specs : wrong all_puncts spec_forms ≡ []
specs = refl

declarators : wrong all_puncts declarator_forms ≡ []
declarators = refl

abstract_declarators : wrong_as s.AbstractDeclarator all_puncts unnamed_forms ≡ []
abstract_declarators = refl

parameter_declarators : wrong_as s.ParamDeclarator all_puncts declarator_forms ≡ []
parameter_declarators = refl

parameters : wrong all_puncts param_forms ≡ []
parameters = refl

inits : wrong all_puncts init_forms ≡ []
inits = refl

stmts : wrong all_puncts stmt_forms ≡ []
stmts = refl

items : wrong all_puncts item_forms ≡ []
items = refl

meta_exps : wrong all_puncts meta_exp_forms ≡ []
meta_exps = refl

templates : wrong all_puncts template_forms ≡ []
templates = refl

meta_stmts : wrong all_puncts meta_stmt_forms ≡ []
meta_stmts = refl

elements : wrong all_puncts element_forms ≡ []
elements = refl

holes : wrong all_puncts hole_forms ≡ []
holes = refl

groups : wrong all_puncts group_forms ≡ []
groups = refl

others : wrong all_puncts other_forms ≡ []
others = refl
