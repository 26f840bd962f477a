-- Where sorts of plain C are due, forms of plain C stand.
use Rattle.std.proofs.Common.{◌≡◌, refl, false, not, ◌&&◌}
use Rattle.c_forms.specs.declared.pieces.Sort.{Sort}
use Rattle.c_forms.specs.declared.pieces.Sort.TheVariants as s
use Rattle.c_forms.specs.Places.{serves}
use Rattle.text_tokens.specs.Plain.{is_of_c}

no_metaexp : (due : Sort) → (is_of_c due && serves s.MetaExp due) ≡ false
no_metaexp s.Exp = refl
no_metaexp _ = refl

no_template : (due : Sort) → (is_of_c due && serves s.Template due) ≡ false
no_template s.Exp = refl
no_template _ = refl

no_shape : (due : Sort) → (is_of_c due && serves s.Shape due) ≡ false
no_shape s.Exp = refl
no_shape _ = refl

no_metastmt : (due : Sort) → (is_of_c due && serves s.MetaStmt due) ≡ false
no_metastmt s.Exp = refl
no_metastmt _ = refl

no_metablock : (due : Sort) → (is_of_c due && serves s.MetaBlock due) ≡ false
no_metablock s.Exp = refl
no_metablock _ = refl

no_local : (due : Sort) → (is_of_c due && serves s.Local due) ≡ false
no_local s.Exp = refl
no_local _ = refl

no_element : (due : Sort) → (is_of_c due && serves s.Element due) ≡ false
no_element s.Exp = refl
no_element _ = refl

no_binder : (due : Sort) → (is_of_c due && serves s.Binder due) ≡ false
no_binder s.Exp = refl
no_binder _ = refl

no_repeated : (due : Sort) → (is_of_c due && serves s.Repeated due) ≡ false
no_repeated s.Exp = refl
no_repeated _ = refl

no_argument : (due : Sort) → (is_of_c due && serves s.Argument due) ≡ false
no_argument s.Exp = refl
no_argument _ = refl

no_round : (due : Sort) → (is_of_c due && serves s.Round due) ≡ false
no_round s.Exp = refl
no_round _ = refl

no_rounds : (due : Sort) → (is_of_c due && serves s.Rounds due) ≡ false
no_rounds s.Exp = refl
no_rounds _ = refl

no_list : (due : Sort) → (is_of_c due && serves s.List due) ≡ false
no_list s.Exp = refl
no_list _ = refl

no_row : (due : Sort) → (is_of_c due && serves s.Row due) ≡ false
no_row s.Exp = refl
no_row _ = refl

no_metaelsepart : (due : Sort) → (is_of_c due && serves s.MetaElsePart due) ≡ false
no_metaelsepart s.Exp = refl
no_metaelsepart _ = refl

no_assignment : (due : Sort) → (is_of_c due && serves s.Assignment due) ≡ false
no_assignment s.Exp = refl
no_assignment _ = refl

no_metavalue : (due : Sort) → (is_of_c due && serves s.MetaValue due) ≡ false
no_metavalue s.Exp = refl
no_metavalue _ = refl

no_metaparam : (due : Sort) → (is_of_c due && serves s.MetaParam due) ≡ false
no_metaparam s.Exp = refl
no_metaparam _ = refl

-- what is not of plain C serves where it is not due
pub serves-of_c : (sort due : Sort) → (not (is_of_c sort) && (is_of_c due && serves sort due)) ≡ false
serves-of_c s.MetaExp due = no_metaexp due
serves-of_c s.Template due = no_template due
serves-of_c s.Shape due = no_shape due
serves-of_c s.MetaStmt due = no_metastmt due
serves-of_c s.MetaBlock due = no_metablock due
serves-of_c s.Local due = no_local due
serves-of_c s.Element due = no_element due
serves-of_c s.Binder due = no_binder due
serves-of_c s.Repeated due = no_repeated due
serves-of_c s.Argument due = no_argument due
serves-of_c s.Round due = no_round due
serves-of_c s.Rounds due = no_rounds due
serves-of_c s.List due = no_list due
serves-of_c s.Row due = no_row due
serves-of_c s.MetaElsePart due = no_metaelsepart due
serves-of_c s.Assignment due = no_assignment due
serves-of_c s.MetaValue due = no_metavalue due
serves-of_c s.MetaParam due = no_metaparam due
serves-of_c _ due = refl
