-- The forms of specifiers.
use Rattle.std.proofs.Common.{◌≡◌, refl, ap, sym, ◌∙◌, Bool, true, false, Option, Some, None}
use Rattle.c_tokens.specs.declared.token.Shape.{Shape}
use Rattle.c_tokens.specs.declared.token.Shape.TheVariants as shape
use Rattle.c_forms.specs.declared.pieces.Sort.{Sort}
use Rattle.c_forms.specs.declared.pieces.Sort.TheVariants as sort
use Rattle.c_forms.specs.declared.forms.Form.{Form}
use Rattle.c_forms.specs.declared.forms.Form.TheVariants as form
use Rattle.c_forms.specs.declared.forms.SpecForm.{SpecForm}
use Rattle.c_forms.specs.Tokens.{begun, map_option, spec_of_shape}
use Rattle.c_reader.specs.States.{Seen}
use Rattle.c_syntax.specs.Grammar.{spec_of, typedef_of}
use Rattle.table_parser.specs.Sound.{is_element}

pub key_form : (due : Sort) (x : Shape) → begun due ≡ begun sort.Spec → begun sort.Spec x ≡ begun due x
key_form due x h = ap (λ f. f x) (sym h)

abbrev element_in : Option Form → Bool
element_in (Some f) = is_element f
element_in None = false

no_element : (o : Option SpecForm) → element_in (map_option form.Spec o) ≡ false
no_element (Some f) = refl
no_element None = refl

no_type_element : (x : Shape) → element_in (typedef_of x) ≡ false
no_type_element (shape.Word word) = refl
no_type_element _ = refl

no_spec_element : (due : Sort) (b : Bool) (x : Seen) → begun due ≡ begun sort.Spec → element_in (spec_of due b x) ≡ false
no_spec_element due true x h = no_type_element x.shape
no_spec_element due false x h = ap element_in (sym (key_form due x.shape h)) ∙ no_element (spec_of_shape x.shape)

pub spec_form : (due : Sort) (b : Bool) (x : Seen) (f : Form) → begun due ≡ begun sort.Spec → Some f ≡ spec_of due b x → is_element f ≡ false
spec_form due b x f h e = ap element_in e ∙ no_spec_element due b x h
