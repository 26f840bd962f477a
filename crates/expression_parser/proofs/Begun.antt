-- The forms of expressions.
use Rattle.std.proofs.Common.{◌≡◌, refl, ap, ◌∙◌, Bool, false, Option, Some, None}
use Rattle.c_tokens.specs.declared.token.Shape.{Shape}
use Rattle.c_forms.specs.declared.pieces.Sort.TheVariants as sort
use Rattle.c_forms.specs.declared.forms.Form.{Form}
use Rattle.c_forms.specs.declared.forms.Form.TheVariants as form
use Rattle.c_forms.specs.declared.forms.ExpForm.{ExpForm}
use Rattle.c_forms.specs.Tokens.{begun, exp_begun, map_option}
use Rattle.table_parser.specs.Sound.{is_element}

abbrev element_in : Option Form → Bool
element_in (Some f) = is_element f
element_in None = false

no_element : (o : Option ExpForm) → element_in (map_option form.Exp o) ≡ false
no_element (Some f) = refl
no_element None = refl

pub begun_form : (x : Shape) (f : Form) → Some f ≡ begun sort.Exp x → is_element f ≡ false
begun_form x f e = ap element_in e ∙ no_element (exp_begun x)
