-- What a binder is bound to, element by element.
use Rattle.std.proofs.Common.{◌≡◌, ◌≢◌, ◌<◌, ◌≤◌, ◌-◌, ℕ, Bool, true, false, nat_lt, nat_eq, if◌then◌else◌, Option, refl, arith}
use Rattle.std.proofs.lemmas.Bool.Decides.{nat_tests}
use Rattle.c_tokens.specs.declared.token.Token.{Token}
use Rattle.c_tokens.specs.declared.token.Word.{Word}
use Rattle.c_tokens.specs.declared.kind.Kind.{Kind}
use Rattle.pattern_language.specs.Patterns.{Pattern, Bind, Repeat, Maybe}
use Rattle.c_forms.specs.Forests.{Plain, Forest}
use Rattle.c_forms.specs.Rules.{after_first}
use Rattle.checked_trees.specs.Bindings.{binders, has_one_part, first_of, in_list, bound_to}

below : (m n : ℕ) → m < n → nat_lt m n ≡ true
below m n h = grind (arith, nat_tests)

not_below : (m n : ℕ) → n ≤ m → nat_lt m n ≡ false
not_below m n h = grind (arith, nat_tests)

not_zero : (n : ℕ) → n ≢ 0 → nat_eq n 0 ≡ false
not_zero n h = grind (arith, nat_tests)

one : (b : Bool) (x y : Option Plain) → b ≡ true → (if b then x else y) ≡ x
one true x y h = refl
one false x y h = cc

other : (b : Bool) (x y : Option Plain) → b ≡ false → (if b then x else y) ≡ y
other true x y h = cc
other false x y h = refl

pub after_bind : (kind : Kind) (name : Word) (p : Pattern) (n : ℕ) (ps : Forest) → n ≢ 0 → bound_to (Bind kind name p) n ps ≡ bound_to p (n - 1) (after_first ps)
unfolding bound_to
after_bind kind name p n ps h = other (nat_eq n 0) (first_of ps) (bound_to p (n - 1) (after_first ps)) (not_zero n h)

pub in_repeat : (least : ℕ) (sep : Option Token) (body p : Pattern) (n : ℕ) (ps : Forest) → n < binders body → bound_to (Repeat least sep body p) n ps ≡ in_list (λ qs. bound_to body n qs) (has_one_part body) ps
unfolding bound_to
in_repeat least sep body p n ps h = one (nat_lt n (binders body)) (in_list (λ qs. bound_to body n qs) (has_one_part body) ps) (bound_to p (n - binders body) (after_first ps)) (below n (binders body) h)

pub after_repeat : (least : ℕ) (sep : Option Token) (body p : Pattern) (n : ℕ) (ps : Forest) → binders body ≤ n → bound_to (Repeat least sep body p) n ps ≡ bound_to p (n - binders body) (after_first ps)
unfolding bound_to
after_repeat least sep body p n ps h = other (nat_lt n (binders body)) (in_list (λ qs. bound_to body n qs) (has_one_part body) ps) (bound_to p (n - binders body) (after_first ps)) (not_below n (binders body) h)

pub in_maybe : (intro : Token) (body p : Pattern) (n : ℕ) (ps : Forest) → n < binders body → bound_to (Maybe intro body p) n ps ≡ in_list (λ qs. bound_to body n qs) (has_one_part body) ps
unfolding bound_to
in_maybe intro body p n ps h = one (nat_lt n (binders body)) (in_list (λ qs. bound_to body n qs) (has_one_part body) ps) (bound_to p (n - binders body) (after_first ps)) (below n (binders body) h)

pub after_maybe : (intro : Token) (body p : Pattern) (n : ℕ) (ps : Forest) → binders body ≤ n → bound_to (Maybe intro body p) n ps ≡ bound_to p (n - binders body) (after_first ps)
unfolding bound_to
after_maybe intro body p n ps h = other (nat_lt n (binders body)) (in_list (λ qs. bound_to body n qs) (has_one_part body) ps) (bound_to p (n - binders body) (after_first ps)) (not_below n (binders body) h)
