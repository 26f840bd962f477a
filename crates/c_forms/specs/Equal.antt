-- When two forms are equal: of the same variant, with the same words, operators and types.
use Rattle.std.specs.Prelude.{Bool}
use Rattle.c_forms.specs.declared.forms.Form.{Form}
use Rattle.c_forms.specs.contracts.forms.FormPartialEq.TheImpl.{ghosts}

abbrev pub one_form : Form → Form → Bool
one_form = ghosts.eq
