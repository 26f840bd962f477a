-- Each type fits itself.
use Rattle.std.proofs.Common.{◌≡◌, refl, ap, ◌∙◌, ℕ, true, ◌&&◌, nat_eq, arith}
use Rattle.std.proofs.lemmas.Bool.Decides.{nat_tests}
use Rattle.c_tokens.specs.declared.kind.Kind.{Kind}
use Rattle.c_tokens.specs.declared.kind.Kind.TheVariants.{Id, Num, Exp, Stmt, Decl, Item, Spec, Param, Member}
use Rattle.c_tokens.specs.declared.kind.Base.{Base}
use Rattle.c_tokens.specs.declared.kind.Base.TheVariants.{Int, Text, Tree}
use Rattle.c_tokens.specs.declared.kind.MetaType.{MetaType}
use Rattle.c_tokens.specs.Kinds.{is_below}
use Rattle.meta_types.specs.Fit.{does_base_fit, does_fit}

below-self : (k : Kind) → is_below k k ≡ true
below-self Id = refl
below-self Num = refl
below-self Exp = refl
below-self Stmt = refl
below-self Decl = refl
below-self Item = refl
below-self Spec = refl
below-self Param = refl
below-self Member = refl

base_fit-self : (b : Base) → does_base_fit b b ≡ true
base_fit-self Int = refl
base_fit-self Text = refl
base_fit-self (Tree k) = below-self k

nat_eq-self : (n : ℕ) → nat_eq n n ≡ true
nat_eq-self n = grind (arith, nat_tests)

pub does_fit-self : (a : MetaType) → does_fit a a ≡ true
unfolding does_fit
does_fit-self a = ap (λ b. b && does_base_fit a.base a.base) (nat_eq-self a.lists) ∙ base_fit-self a.base
