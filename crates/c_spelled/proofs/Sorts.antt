-- What is spelled is read, of each sort that is a part.
use Rattle.std.proofs.Common.{◌≡◌, inl, inr, refl, ℕ, zero, suc, ◌≤◌, Bool, true, false, List, arith}
use Rattle.c_tokens.specs.declared.token.Shape.{Shape}
use Rattle.c_tokens.specs.declared.token.Punct.TheVariants as punct
use Rattle.c_tokens.specs.declared.class.Class.TheVariants as class
use Rattle.c_forms.specs.declared.pieces.Event.TheVariants as event
use Rattle.c_forms.specs.declared.pieces.Sort.{Sort}
use Rattle.c_forms.specs.declared.pieces.Sort.TheVariants as s
use Rattle.c_forms.specs.declared.forms.Form.TheVariants as form
use Rattle.c_forms.specs.declared.forms.GroupForm.TheVariants as group
use Rattle.c_forms.specs.Forests.{Plain}
use Rattle.c_forms.specs.Sets.{has, starts, goes_on}
use Rattle.c_reader.specs.States.{happens}
use Rattle.c_reader.specs.Tokens.{Spot, step, turned, class_at}
use Rattle.c_reader.specs.Readers.{Opened, below}
use Rattle.c_reader.proofs.Local.{from}
use Rattle.c_syntax.specs.Allowed.{places}
use Rattle.c_syntax.specs.Reading.{called, is_absent}
use Rattle.c_syntax.specs.Grammar.{at_sort, in_place, body}
use Rattle.c_syntax.specs.Spells.{Spelling, Is, IsNode, AnyWord, ValueWord, IsLiteral, At, InPlace}
use Rattle.c_spelled.specs.Fitting.{is_read, need}
use Rattle.c_spelled.proofs.Off.{Off}
use Rattle.c_spelled.proofs.Begins.{AllBegin, in_place_begins}
use Rattle.c_spelled.proofs.Balance.{AllSame}
use Rattle.c_spelled.proofs.Pieces.{AllRead}
use Rattle.c_spelled.proofs.Nodes.{Room, only_read, id_read, declared_read, parameter_read, enumerator_read, literal_read}
use Rattle.c_spelled.proofs.Parts.{any_spec_read, plain_spec_read, qualifier_read, block_read, init_read}
use Rattle.c_spelled.proofs.Params.{params_read}
use Rattle.c_spelled.proofs.Climb.{AllCalled, Lower, called_read}
use Rattle.c_spelled.proofs.Exps.{exp_read}
use Rattle.c_spelled.proofs.Operands.{EndOff, RisesExp}
use Rattle.c_spelled.proofs.Heads.{Clear, RisesSo, There}
use Rattle.c_spelled.proofs.Declarators as with_name
use Rattle.c_spelled.proofs.Abstracts as without_name
use Rattle.c_spelled.proofs.ParamDeclarators as of_parameter
use Rattle.c_spelled.proofs.MemberNames as of_member
use Rattle.c_spelled.proofs.Stmts.{stmt_read}
use Rattle.c_spelled.proofs.Blocks.{block_item_read}
use Rattle.c_spelled.proofs.AtFirst.{at_word, at_type}
use Rattle.c_spelled.proofs.Alone.{type_name_form, member_form, enumerator_form, param_form, decl_form, init_declarator_form, initializer_form, member_declarator_form, width_form, members_form, enumerators_form, enumerator_value_form, else_part_form}

by_false : (b : Bool) → (b ≡ true → ⊥) → b ≡ false
by_false true f = absurd (f refl)
by_false false f = refl

read_needs : (due : Sort) → is_read due ≡ true → need due ≤ 0 → ⊥
read_needs s.Exp r few = omega (arith, few)
read_needs s.Declarator r few = omega (arith, few)
read_needs s.AbstractDeclarator r few = omega (arith, few)
read_needs s.ParamDeclarator r few = omega (arith, few)
read_needs s.MemberName r few = omega (arith, few)
read_needs s.Id r few = omega (arith, few)
read_needs s.DeclaredId r few = omega (arith, few)
read_needs s.Literal r few = omega (arith, few)
read_needs s.ParameterId r few = omega (arith, few)
read_needs s.EnumeratorId r few = omega (arith, few)
read_needs s.Spec r few = omega (arith, few)
read_needs s.PlainSpec r few = omega (arith, few)
read_needs s.Qualifier r few = omega (arith, few)
read_needs s.TypeName r few = omega (arith, few)
read_needs s.Member r few = omega (arith, few)
read_needs s.Enumerator r few = omega (arith, few)
read_needs s.Params r few = omega (arith, few)
read_needs s.Param r few = omega (arith, few)
read_needs s.Init r few = omega (arith, few)
read_needs s.Decl r few = omega (arith, few)
read_needs s.Stmt r few = omega (arith, few)
read_needs s.Block r few = omega (arith, few)
read_needs s.BlockItem r few = omega (arith, few)
read_needs s.InitDeclarator r few = omega (arith, few)
read_needs s.Initializer r few = omega (arith, few)
read_needs s.MemberDeclarator r few = omega (arith, few)
read_needs s.Width r few = omega (arith, few)
read_needs s.Members r few = omega (arith, few)
read_needs s.Enumerators r few = omega (arith, few)
read_needs s.EnumeratorValue r few = omega (arith, few)
read_needs s.ElsePart r few = omega (arith, few)
read_needs _ r few = cc r

-- A declarator that another goes on with is read as one of a sort, with readers of words and literals.
abbrev pub DeclaratorsRise : ℕ → ℕ → List Shape → Spelling → Sort → Sort → Type 0
DeclaratorsRise d top w deeper due sub = (n m l : ℕ) (t : Plain) (i k : Spot) → deeper sub m t i k → l ≤ m → EndOff due w m k → Clear due w t k → RisesSo body d w (in_place (suc n)) due l top i t m k

-- what is known of what lies one level deeper
pub record Deep (d top : ℕ) (w : List Shape) (deeper : Spelling) : Type 0 where
  pub begins : AllBegin w deeper
  pub same : AllSame deeper
  pub calls : AllCalled body d top w deeper
  pub opens : (t : Plain) (i j : Spot) → deeper s.Exp 15 t i j → Is w (class.Punct punct.LeftParen) i → Off (goes_on s.Exp 15) w j.place
      → (has (starts s.TypeName) (class_at w (turned (happens event.Aside) (step i))) ≡ false) × Lower (below body d Opened (from w (step i))) top t w j
  pub exps : (n m l : ℕ) (t : Plain) (i k : Spot) → deeper s.Exp m t i k → l ≤ m → EndOff s.Exp w m k → RisesExp body d w (in_place (suc n)) l top i t m k
  pub declarators : DeclaratorsRise d top w deeper s.Declarator s.Declarator
  pub abstracts : DeclaratorsRise d top w deeper s.AbstractDeclarator s.AbstractDeclarator
  pub parameters : DeclaratorsRise d top w deeper s.ParamDeclarator s.ParamDeclarator
  pub members : DeclaratorsRise d top w deeper s.MemberName s.Declarator
  pub ids : (least : ℕ) (t : Plain) (i j : Spot) → deeper s.Id least t i j → AnyWord w t i × (step i ≡ j)
  pub named : (m : ℕ) (t : Plain) (i k : Spot) → deeper s.Declarator m t i k → is_absent t ≡ true → ⊥
  pub abstract_there : (m : ℕ) (t : Plain) (i k : Spot) → deeper s.AbstractDeclarator m t i k → There s.AbstractDeclarator t i k
  pub parameter_there : (m : ℕ) (t : Plain) (i k : Spot) → deeper s.ParamDeclarator m t i k → There s.ParamDeclarator t i k

module _ (d top : ℕ) (w : List Shape) (levels : Type 0) (room : Room levels d top) (under : top ≤ d) (deeper : Spelling) (D : Deep d top w deeper) where
  abbrev DE : AllRead body d top w places deeper called
  DE = called_read body d top w deeper D.calls

  abbrev spelled : ℕ → Spelling
  spelled n = InPlace n levels deeper w

  abbrev IB : (n : ℕ) → AllBegin w (spelled n)
  IB n = in_place_begins n levels deeper w D.begins

  pub literals : (m least : ℕ) (t : Plain) (i j : Spot) → spelled m s.Literal least t i j → IsLiteral w t i
  unfolding InPlace
  literals zero least t i j A = absurd A
  literals (suc m) least t i j A = A.0

  pub declareds : (m least : ℕ) (t : Plain) (i j : Spot) → spelled m s.DeclaredId least t i j → ValueWord w t i
  unfolding InPlace
  declareds zero least t i j A = absurd A
  declareds (suc m) least t i j A = A.0

  -- words and literals are read wherever a node may lie
  pub leaf_reads : (m m' : ℕ) → AllRead body d top w 1 (spelled m') (in_place (suc m))
  unfolding InPlace in_place
  leaf_reads m zero due least t i j r few A o = absurd A
  leaf_reads m (suc m') s.Literal least t i j r few A o = literal_read body d top w t i j A.0 A.1
  leaf_reads m (suc m') s.DeclaredId least t i j r few A o = declared_read body d top w t i j A.0 A.1
  leaf_reads m (suc m') s.Exp least t i j r few A o = absurd (omega (arith, few))
  leaf_reads m (suc m') s.Declarator least t i j r few A o = absurd (omega (arith, few))
  leaf_reads m (suc m') s.AbstractDeclarator least t i j r few A o = absurd (omega (arith, few))
  leaf_reads m (suc m') s.ParamDeclarator least t i j r few A o = absurd (omega (arith, few))
  leaf_reads m (suc m') s.MemberName least t i j r few A o = absurd (omega (arith, few))
  leaf_reads m (suc m') s.Id least t i j r few A o = absurd (omega (arith, few))
  leaf_reads m (suc m') s.ParameterId least t i j r few A o = absurd (omega (arith, few))
  leaf_reads m (suc m') s.EnumeratorId least t i j r few A o = absurd (omega (arith, few))
  leaf_reads m (suc m') s.Spec least t i j r few A o = absurd (omega (arith, few))
  leaf_reads m (suc m') s.PlainSpec least t i j r few A o = absurd (omega (arith, few))
  leaf_reads m (suc m') s.Qualifier least t i j r few A o = absurd (omega (arith, few))
  leaf_reads m (suc m') s.TypeName least t i j r few A o = absurd (omega (arith, few))
  leaf_reads m (suc m') s.Member least t i j r few A o = absurd (omega (arith, few))
  leaf_reads m (suc m') s.Enumerator least t i j r few A o = absurd (omega (arith, few))
  leaf_reads m (suc m') s.Params least t i j r few A o = absurd (omega (arith, few))
  leaf_reads m (suc m') s.Param least t i j r few A o = absurd (omega (arith, few))
  leaf_reads m (suc m') s.Init least t i j r few A o = absurd (omega (arith, few))
  leaf_reads m (suc m') s.Decl least t i j r few A o = absurd (omega (arith, few))
  leaf_reads m (suc m') s.Stmt least t i j r few A o = absurd (omega (arith, few))
  leaf_reads m (suc m') s.Block least t i j r few A o = absurd (omega (arith, few))
  leaf_reads m (suc m') s.BlockItem least t i j r few A o = absurd (omega (arith, few))
  leaf_reads m (suc m') s.InitDeclarator least t i j r few A o = absurd (omega (arith, few))
  leaf_reads m (suc m') s.Initializer least t i j r few A o = absurd (omega (arith, few))
  leaf_reads m (suc m') s.MemberDeclarator least t i j r few A o = absurd (omega (arith, few))
  leaf_reads m (suc m') s.Width least t i j r few A o = absurd (omega (arith, few))
  leaf_reads m (suc m') s.Members least t i j r few A o = absurd (omega (arith, few))
  leaf_reads m (suc m') s.Enumerators least t i j r few A o = absurd (omega (arith, few))
  leaf_reads m (suc m') s.EnumeratorValue least t i j r few A o = absurd (omega (arith, few))
  leaf_reads m (suc m') s.ElsePart least t i j r few A o = absurd (omega (arith, few))
  leaf_reads m (suc m') _ least t i j r few A o = absurd (cc r)

  pub no_absent : (least : ℕ) (t : Plain) (i k : Spot) → deeper s.Declarator least t i k → There s.Declarator t i k
  no_absent least t i k A = inl (by_false (is_absent t) (D.named least t i k A))

  loosest : (due : Sort) (least : ℕ) (t : Plain) (i j : Spot) (n : ℕ) → IsNode levels deeper (spelled n) w due least t i j → IsNode levels deeper (spelled n) w due 0 t i j
  loosest due least t i j n N = record { parts = N.parts; value = N.value; may = N.may; tight = omega arith; left = N.left; matches = N.matches }

  -- a node where it stands, of each sort
  at_read : (n m : ℕ) → AllRead body d top w n (spelled m) (in_place n) → AllRead body d top w (suc n) (At levels deeper (spelled m) w) (at_sort (in_place n))
  at_read zero m IE s.Exp least t i j r few A o = absurd (omega (arith, few))
  at_read (suc n) m IE s.Exp least t i j r few A o = exp_read body d top w levels room under deeper (spelled m) (in_place (suc n)) D.begins (IB m) D.calls (leaf_reads n m) (literals m) D.opens (D.exps n) least t i j A o
  at_read zero m IE s.Declarator least t i j r few A o = absurd (omega (arith, few))
  at_read (suc n) m IE s.Declarator least t i j r few A o = with_name.declarator_read body d top w levels room under deeper (spelled m) (in_place (suc n)) D.begins (IB m) D.calls (leaf_reads n m) (declareds m) D.same no_absent D.named (D.declarators n) least t i j A o
  at_read zero m IE s.AbstractDeclarator least t i j r few A o = absurd (omega (arith, few))
  at_read (suc n) m IE s.AbstractDeclarator least t i j r few A o = without_name.declarator_read body d top w levels room under deeper (spelled m) (in_place (suc n)) D.begins (IB m) D.calls (leaf_reads n m) (declareds m) D.same D.abstract_there (D.abstracts n) least t i j A o
  at_read zero m IE s.ParamDeclarator least t i j r few A o = absurd (omega (arith, few))
  at_read (suc n) m IE s.ParamDeclarator least t i j r few A o = of_parameter.declarator_read body d top w levels room under deeper (spelled m) (in_place (suc n)) D.begins (IB m) D.calls (leaf_reads n m) (declareds m) D.same D.parameter_there (D.parameters n) least t i j A o
  at_read zero m IE s.MemberName least t i j r few A o = absurd (omega (arith, few))
  at_read (suc n) m IE s.MemberName least t i j r few A o = of_member.declarator_read body d top w levels room under deeper (spelled m) (in_place (suc n)) D.begins (IB m) D.calls (leaf_reads n m) (declareds m) D.same no_absent D.named (D.members n) least t i j A o
  at_read n m IE s.Id least t i j r few A o = id_read body d top w t i j A.0 A.1
  at_read n m IE s.DeclaredId least t i j r few A o = declared_read body d top w t i j A.0 A.1
  at_read n m IE s.ParameterId least t i j r few A o = parameter_read body d top w t i j A.0 A.1
  at_read n m IE s.EnumeratorId least t i j r few A o = enumerator_read body d top w t i j A.0 A.1
  at_read n m IE s.Literal least t i j r few A o = literal_read body d top w t i j A.0 A.1
  at_read n m IE s.Spec least t i j r few A o = any_spec_read body d top w levels room n deeper (spelled m) (in_place n) D.begins (IB m) DE IE (omega (arith, few)) least t i j A.0 A.1 o
  at_read n m IE s.PlainSpec least t i j r few A o = plain_spec_read body d top w levels room n deeper (spelled m) (in_place n) D.begins (IB m) DE IE (omega (arith, few)) least t i j A.0 A.1 o
  at_read n m IE s.Qualifier least t i j r few A o = qualifier_read body d top w levels room n deeper (spelled m) (in_place n) D.begins (IB m) DE IE (omega (arith, few)) least t i j A o
  at_read n m IE s.Params least t i j r few A o = params_read body d top w levels room n deeper (spelled m) (in_place n) D.begins (IB m) DE IE (omega (arith, few)) least t i j A.0 A.1 o
  at_read n m IE s.Init least t i j r few A o = init_read body d top w levels room n deeper (spelled m) (in_place n) D.begins (IB m) DE IE (omega (arith, few)) least t i j A o
  at_read n m IE s.Block least t i j r few A o = block_read body d top w levels room n deeper (spelled m) (in_place n) D.begins (IB m) DE IE (omega (arith, few)) least t i j A
  at_read zero m IE s.Stmt least t i j r few A o = absurd (omega (arith, few))
  at_read (suc n) m IE s.Stmt least t i j r few A o = stmt_read body d top w levels room (suc n) deeper (spelled m) (in_place (suc n)) D.begins (IB m) DE IE (omega (arith, few)) D.ids (at_word d w n) t i j (loosest s.Stmt least t i j m A)
  at_read zero m IE s.BlockItem least t i j r few A o = absurd (omega (arith, few))
  at_read (suc n) m IE s.BlockItem least t i j r few (inl A) o = block_item_read body d top w levels room (suc n) deeper (spelled m) (in_place (suc n)) D.begins (IB m) DE IE (omega (arith, few)) D.ids (at_word d w n) (at_type d w n) t i j
      (inl (A.0, loosest s.Decl least t i j m A.1))
  at_read (suc n) m IE s.BlockItem least t i j r few (inr A) o = block_item_read body d top w levels room (suc n) deeper (spelled m) (in_place (suc n)) D.begins (IB m) DE IE (omega (arith, few)) D.ids (at_word d w n) (at_type d w n) t i j
      (inr (A.0, (loosest s.Stmt least t i A.0 m A.1.0, A.1.1)))
  at_read n m IE s.TypeName least t i j r few A o = only_read body d top w levels room n deeper (spelled m) (in_place n) D.begins (IB m) DE IE s.TypeName (form.TypeName) least t i j refl refl refl (omega (arith, few)) (type_name_form t.form A.may) A o
  at_read n m IE s.Member least t i j r few A o = only_read body d top w levels room n deeper (spelled m) (in_place n) D.begins (IB m) DE IE s.Member (form.Member) least t i j refl refl refl (omega (arith, few)) (member_form t.form A.may) A o
  at_read n m IE s.Enumerator least t i j r few A o = only_read body d top w levels room n deeper (spelled m) (in_place n) D.begins (IB m) DE IE s.Enumerator (form.Enumerator) least t i j refl refl refl (omega (arith, few)) (enumerator_form t.form A.may) A o
  at_read n m IE s.Param least t i j r few A o = only_read body d top w levels room n deeper (spelled m) (in_place n) D.begins (IB m) DE IE s.Param (form.Param) least t i j refl refl refl (omega (arith, few)) (param_form t.form A.may) A o
  at_read n m IE s.Decl least t i j r few A o = only_read body d top w levels room n deeper (spelled m) (in_place n) D.begins (IB m) DE IE s.Decl (form.Decl) least t i j refl refl refl (omega (arith, few)) (decl_form t.form A.may) A o
  at_read n m IE s.InitDeclarator least t i j r few A o = only_read body d top w levels room n deeper (spelled m) (in_place n) D.begins (IB m) DE IE s.InitDeclarator (form.Group group.InitDeclarator) least t i j refl refl refl (omega (arith, few)) (init_declarator_form t.form A.may) A o
  at_read n m IE s.Initializer least t i j r few A o = only_read body d top w levels room n deeper (spelled m) (in_place n) D.begins (IB m) DE IE s.Initializer (form.Group group.Initializer) least t i j refl refl refl (omega (arith, few)) (initializer_form t.form A.may) A o
  at_read n m IE s.MemberDeclarator least t i j r few A o = only_read body d top w levels room n deeper (spelled m) (in_place n) D.begins (IB m) DE IE s.MemberDeclarator (form.Group group.MemberDeclarator) least t i j refl refl refl (omega (arith, few)) (member_declarator_form t.form A.may) A o
  at_read n m IE s.Width least t i j r few A o = only_read body d top w levels room n deeper (spelled m) (in_place n) D.begins (IB m) DE IE s.Width (form.Group group.Width) least t i j refl refl refl (omega (arith, few)) (width_form t.form A.may) A o
  at_read n m IE s.Members least t i j r few A o = only_read body d top w levels room n deeper (spelled m) (in_place n) D.begins (IB m) DE IE s.Members (form.Group group.Members) least t i j refl refl refl (omega (arith, few)) (members_form t.form A.may) A o
  at_read n m IE s.Enumerators least t i j r few A o = only_read body d top w levels room n deeper (spelled m) (in_place n) D.begins (IB m) DE IE s.Enumerators (form.Group group.Enumerators) least t i j refl refl refl (omega (arith, few)) (enumerators_form t.form A.may) A o
  at_read n m IE s.EnumeratorValue least t i j r few A o = only_read body d top w levels room n deeper (spelled m) (in_place n) D.begins (IB m) DE IE s.EnumeratorValue (form.Group group.EnumeratorValue) least t i j refl refl refl (omega (arith, few)) (enumerator_value_form t.form A.may) A o
  at_read n m IE s.ElsePart least t i j r few A o = only_read body d top w levels room n deeper (spelled m) (in_place n) D.begins (IB m) DE IE s.ElsePart (form.Group group.ElsePart) least t i j refl refl refl (omega (arith, few)) (else_part_form t.form A.may) A o
  at_read n m IE _ least t i j r few A o = absurd (cc r)

  -- nodes that lie in so many are read where more may lie in one another
  pub in_place_read : (n m : ℕ) → AllRead body d top w n (spelled m) (in_place n)
  unfolding InPlace in_place
  in_place_read n zero due least t i j r few A o = absurd A
  in_place_read zero (suc m) due least t i j r few A o = absurd (read_needs due r few)
  in_place_read (suc n) (suc m) due least t i j r few A o = at_read n m (in_place_read n m) due least t i j r few A o
