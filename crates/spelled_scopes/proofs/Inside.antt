-- A part that is no declarator inside one is of the sort that its piece names.
use Rattle.std.proofs.Common.{◌≡◌, refl}
use Rattle.c_forms.specs.declared.pieces.Sort.{Sort}
use Rattle.c_forms.specs.declared.pieces.Sort.TheVariants as s
use Rattle.c_syntax.specs.Reading.{inside}

pub inside_exp : (own : Sort) → inside own s.Exp ≡ s.Exp
inside_exp s.MemberName = refl
inside_exp own = refl

pub inside_id : (own : Sort) → inside own s.Id ≡ s.Id
inside_id s.MemberName = refl
inside_id own = refl

pub inside_type_name : (own : Sort) → inside own s.TypeName ≡ s.TypeName
inside_type_name s.MemberName = refl
inside_type_name own = refl

pub inside_enumerator_id : (own : Sort) → inside own s.EnumeratorId ≡ s.EnumeratorId
inside_enumerator_id s.MemberName = refl
inside_enumerator_id own = refl

pub inside_member_name : (own : Sort) → inside own s.MemberName ≡ s.MemberName
inside_member_name s.MemberName = refl
inside_member_name own = refl

pub inside_declared_id : (own : Sort) → inside own s.DeclaredId ≡ s.DeclaredId
inside_declared_id s.MemberName = refl
inside_declared_id own = refl

pub inside_params : (own : Sort) → inside own s.Params ≡ s.Params
inside_params s.MemberName = refl
inside_params own = refl

pub inside_param_declarator : (own : Sort) → inside own s.ParamDeclarator ≡ s.ParamDeclarator
inside_param_declarator s.MemberName = refl
inside_param_declarator own = refl

pub inside_declarator : (own : Sort) → inside own s.Declarator ≡ s.Declarator
inside_declarator s.MemberName = refl
inside_declarator own = refl

pub inside_abstract_declarator : (own : Sort) → inside own s.AbstractDeclarator ≡ s.AbstractDeclarator
inside_abstract_declarator s.MemberName = refl
inside_abstract_declarator own = refl

pub inside_init : (own : Sort) → inside own s.Init ≡ s.Init
inside_init s.MemberName = refl
inside_init own = refl

pub inside_decl : (own : Sort) → inside own s.Decl ≡ s.Decl
inside_decl s.MemberName = refl
inside_decl own = refl

pub inside_stmt : (own : Sort) → inside own s.Stmt ≡ s.Stmt
inside_stmt s.MemberName = refl
inside_stmt own = refl

pub inside_block : (own : Sort) → inside own s.Block ≡ s.Block
inside_block s.MemberName = refl
inside_block own = refl
