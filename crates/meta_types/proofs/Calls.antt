-- The types of calls, by the number of their arguments.
use Rattle.std.proofs.Common.{◌≡◌, refl, ap, sym, ◌∙◌, ◌≤◌, ◌<◌, Bool, true, false, cond, ◌&&◌, List, [], ◌∷◌, Option, Some, None, option_map, nat_le, arith, if◌then◌else◌}
use Rattle.std.specs.Option.{option_and_then, option_and}
use Rattle.std.proofs.lemmas.Bool.Decides.{nat_tests}
use Rattle.c_tokens.specs.declared.kind.MetaType.{MetaType}
use Rattle.meta_types.specs.Fit.{does_fit}
use Rattle.meta_types.specs.Items.{only_item, both_items}
use Rattle.meta_types.specs.Signatures.{Shown, just, variable, list, takes_one, takes_two, call_type, types_given, result_with, variable_of, element_of, list_of, int}
use Rattle.meta_types.proofs.Fitting.{does_fit-self}

-- a list of one item, and of two

only_is : (args : List MetaType) (a : MetaType) → only_item args ≡ Some a → args ≡ a ∷ []
only_is [] a e = absurd cc
only_is (x ∷ []) a e = cc
only_is (x ∷ y ∷ rest) a e = absurd cc

some_is : (x y : MetaType × MetaType) → Some x ≡ Some y → x ≡ y
some_is x y e = cc

both_are : (args : List MetaType) (a b : MetaType) → both_items args ≡ Some (a, b) → args ≡ a ∷ b ∷ []
both_are [] a b e = absurd cc
both_are (x ∷ []) a b e = absurd cc
both_are (x ∷ y ∷ []) a b e = let pair : (x, y) ≡ (a, b) = some_is (x, y) (a, b) e in ap (λ p. p.0 ∷ p.1 ∷ []) pair
both_are (x ∷ y ∷ z ∷ rest) a b e = absurd cc

nothing_more : {A B : Type 0} (b : Bool) (f : A → B) (o : Option A) → o ≡ None → cond b (option_map f o) None ≡ None
nothing_more true f o e = ap (option_map f) e
nothing_more false f o e = refl

nothing : {A : Type 0} (b : Bool) (o : Option A) → o ≡ None → cond b o None ≡ None
nothing true o e = e
nothing false o e = refl

no_parameter : (a : MetaType) (args : List MetaType) → types_given [] (a ∷ args) ≡ None
unfolding types_given
no_parameter a args = refl

no_argument : (p : Shown) (shown : List Shown) → types_given (p ∷ shown) [] ≡ None
unfolding types_given
no_argument (just s) shown = refl
no_argument variable shown = refl
no_argument list shown = refl

next_refused : (p : Shown) (shown : List Shown) (a : MetaType) (args : List MetaType) → types_given shown args ≡ None → types_given (p ∷ shown) (a ∷ args) ≡ None
unfolding types_given
next_refused (just s) shown a args e = nothing (does_fit a s) (types_given shown args) e
next_refused variable shown a args e = ap (option_map (λ types. a ∷ types)) e
next_refused list shown a args e = nothing_more (nat_le 1 a.lists) (λ types. element_of a ∷ types) (types_given shown args) e

one_refused : (p : Shown) (args : List MetaType) → only_item args ≡ None → types_given (p ∷ []) args ≡ None
one_refused p [] e = no_argument p []
one_refused p (a ∷ []) e = absurd cc
one_refused p (a ∷ b ∷ rest) e = next_refused p [] a (b ∷ rest) (no_parameter b rest)

two_refused : (p q : Shown) (args : List MetaType) → both_items args ≡ None → types_given (p ∷ q ∷ []) args ≡ None
two_refused p q [] e = no_argument p (q ∷ [])
two_refused p q (a ∷ []) e = next_refused p (q ∷ []) a [] (no_argument q [])
two_refused p q (a ∷ b ∷ []) e = absurd cc
two_refused p q (a ∷ b ∷ c ∷ rest) e = next_refused p (q ∷ []) a (b ∷ c ∷ rest) (next_refused q [] b (c ∷ rest) (no_parameter c rest))

pub no_one : (p r : Shown) (args : List MetaType) → only_item args ≡ None → call_type (takes_one p r) args ≡ None
unfolding call_type
no_one p r args e = ap (option_and_then (result_with r)) (one_refused p args e)

pub no_two : (p q r : Shown) (args : List MetaType) → both_items args ≡ None → call_type (takes_two p q r) args ≡ None
unfolding call_type
no_two p q r args e = ap (option_and_then (result_with r)) (two_refused p q args e)

-- arguments that fit

pub one_fits : (s r : MetaType) (args : List MetaType) (a : MetaType) (b : Bool) → only_item args ≡ Some a → does_fit a s ≡ b → call_type (takes_one (just s) (just r)) args ≡ cond b (Some r) None
unfolding call_type types_given
one_fits s r args a b is e = ap (call_type (takes_one (just s) (just r))) (only_is args a is) ∙ by b e
  where
    by : (b : Bool) → does_fit a s ≡ b → call_type (takes_one (just s) (just r)) (a ∷ []) ≡ cond b (Some r) None
    by true e = ap (λ c. option_and_then (result_with (just r)) (cond c (Some []) None)) e
    by false e = ap (λ c. option_and_then (result_with (just r)) (cond c (Some []) None)) e

pub two_fit : (s t r : MetaType) (args : List MetaType) (a b : MetaType) (c d : Bool) → both_items args ≡ Some (a, b) → does_fit a s ≡ c → does_fit b t ≡ d → call_type (takes_two (just s) (just t) (just r)) args ≡ cond (c && d) (Some r) None
unfolding call_type types_given
two_fit s t r args a b c d is e f = ap (call_type (takes_two (just s) (just t) (just r))) (both_are args a b is) ∙ ap (λ c. option_and_then (result_with (just r)) (cond c (cond (does_fit b t) (Some []) None) None)) e ∙ ap (λ d. option_and_then (result_with (just r)) (cond c (cond d (Some []) None) None)) f ∙ by c d
  where
    by : (c d : Bool) → option_and_then (result_with (just r)) (cond c (cond d (Some []) None) None) ≡ cond (c && d) (Some r) None
    by true true = refl
    by true false = refl
    by false d = refl

-- arguments that give a type

abbrev pub element : MetaType → Option MetaType
element a = if nat_le 1 a.lists then Some (element_of a) else None

plain : (o : Option MetaType) → option_map (λ t. t) o ≡ o
plain None = refl
plain (Some t) = refl

pub one_list_of : (args : List MetaType) (a : MetaType) → only_item args ≡ Some a → call_type (takes_one list variable) args ≡ option_and_then (λ t. variable_of (t ∷ [])) (element a)
unfolding call_type types_given
one_list_of args a is = ap (call_type (takes_one list variable)) (only_is args a is) ∙ by (nat_le 1 a.lists)
  where
    by : (b : Bool) → option_and_then (result_with variable) (cond b (Some (element_of a ∷ [])) None) ≡ option_and_then (λ t. variable_of (t ∷ [])) (cond b (Some (element_of a)) None)
    by true = plain (variable_of (element_of a ∷ []))
    by false = refl

pub item_and_list_of : (args : List MetaType) (a b : MetaType) → both_items args ≡ Some (a, b) → call_type (takes_two variable list variable) args ≡ option_and_then (λ t. variable_of (a ∷ t ∷ [])) (element b)
unfolding call_type types_given
item_and_list_of args a b is = ap (call_type (takes_two variable list variable)) (both_are args a b is) ∙ by (nat_le 1 b.lists)
  where
    by : (c : Bool) → option_and_then (result_with variable) (option_map (λ types. a ∷ types) (cond c (Some (element_of b ∷ [])) None)) ≡ option_and_then (λ t. variable_of (a ∷ t ∷ [])) (cond c (Some (element_of b)) None)
    by true = plain (variable_of (a ∷ element_of b ∷ []))
    by false = refl

pub two_lists_of : (args : List MetaType) (a b : MetaType) → both_items args ≡ Some (a, b) → call_type (takes_two list list variable) args ≡ option_and_then (λ s. option_and_then (λ t. variable_of (s ∷ t ∷ [])) (element b)) (element a)
unfolding call_type types_given
two_lists_of args a b is = ap (call_type (takes_two list list variable)) (both_are args a b is) ∙ by (nat_le 1 a.lists) (nat_le 1 b.lists)
  where
    by : (c d : Bool) → option_and_then (result_with variable) (cond c (option_map (λ types. element_of a ∷ types) (cond d (Some (element_of b ∷ [])) None)) None) ≡ option_and_then (λ s. option_and_then (λ t. variable_of (s ∷ t ∷ [])) (cond d (Some (element_of b)) None)) (cond c (Some (element_of a)) None)
    by true true = plain (variable_of (element_of a ∷ element_of b ∷ []))
    by true false = refl
    by false d = refl

-- what a variable stands for

one_is : (t : MetaType) (b : Bool) → nat_le t.lists 2 ≡ b → variable_of (t ∷ []) ≡ cond (b && true) (Some t) None
unfolding variable_of
one_is t b e = ap (λ c. cond (c && (does_fit t t && true)) (Some t) None) e ∙ ap (λ f. cond (b && (f && true)) (Some t) None) (does_fit-self t)

pub one_serves : (t : MetaType) → t.lists ≤ 2 → variable_of (t ∷ []) ≡ Some t
one_serves t few = one_is t true (grind (arith, nat_tests))

pub one_too_deep : (t : MetaType) → 2 < t.lists → variable_of (t ∷ []) ≡ None
one_too_deep t many = one_is t false (grind (arith, nat_tests))

two_are : (a b : MetaType) (c d : Bool) → (nat_le a.lists 2 && does_fit b a) ≡ c → (nat_le b.lists 2 && does_fit a b) ≡ d → variable_of (a ∷ b ∷ []) ≡ cond c (Some a) (cond d (Some b) None)
unfolding variable_of
two_are a b c d e f =
    ap (λ s. cond (nat_le a.lists 2 && (s && (does_fit b a && true))) (Some a) (cond (nat_le b.lists 2 && (does_fit a b && (does_fit b b && true))) (Some b) None)) (does_fit-self a)
    ∙ ap (λ s. cond (nat_le a.lists 2 && (does_fit b a && true)) (Some a) (cond (nat_le b.lists 2 && (does_fit a b && (s && true))) (Some b) None)) (does_fit-self b)
    ∙ ap (λ s. cond s (Some a) (cond (nat_le b.lists 2 && (does_fit a b && true)) (Some b) None)) (end (nat_le a.lists 2) (does_fit b a) ∙ e)
    ∙ ap (λ s. cond c (Some a) (cond s (Some b) None)) (end (nat_le b.lists 2) (does_fit a b) ∙ f)
  where
    end : (p q : Bool) → (p && (q && true)) ≡ (p && q)
    end true true = refl
    end true false = refl
    end false q = refl

pub first_serves : (a b : MetaType) → (nat_le a.lists 2 && does_fit b a) ≡ true → variable_of (a ∷ b ∷ []) ≡ Some a
first_serves a b e = two_are a b true (nat_le b.lists 2 && does_fit a b) e refl

pub second_serves : (a b : MetaType) → (nat_le a.lists 2 && does_fit b a) ≡ false → (nat_le b.lists 2 && does_fit a b) ≡ true → variable_of (a ∷ b ∷ []) ≡ Some b
second_serves a b e f = two_are a b false true e f

pub none_serves : (a b : MetaType) → (nat_le a.lists 2 && does_fit b a) ≡ false → (nat_le b.lists 2 && does_fit a b) ≡ false → variable_of (a ∷ b ∷ []) ≡ None
none_serves a b e f = two_are a b false false e f

-- results

pub list_type : (parameters : List Shown) (args : List MetaType) → call_type (record { parameters = parameters; result = list }) args ≡ option_map list_of (call_type (record { parameters = parameters; result = variable }) args)
unfolding call_type
list_type parameters args = by (types_given parameters args)
  where
    by : (o : Option (List MetaType)) → option_and_then (result_with list) o ≡ option_map list_of (option_and_then (result_with variable) o)
    by None = refl
    by (Some types) = ap (option_map list_of) (sym (plain (variable_of types)))

length_with : (o : Option MetaType) → option_map (λ t. int) o ≡ option_and (option_map (λ t. t) o) (Some int)
length_with None = refl
length_with (Some t) = refl

length_of_one : (a : MetaType) (b : Bool) → option_and_then (result_with (just int)) (cond b (Some (element_of a ∷ [])) None) ≡ option_and (option_and_then (result_with variable) (cond b (Some (element_of a ∷ [])) None)) (Some int)
length_of_one a true = length_with (variable_of (element_of a ∷ []))
length_of_one a false = refl

length_at : (a : MetaType) → call_type (takes_one list (just int)) (a ∷ []) ≡ option_and (call_type (takes_one list variable) (a ∷ [])) (Some int)
unfolding call_type types_given
length_at a = length_of_one a (nat_le 1 a.lists)

length_by : (args : List MetaType) (o : Option MetaType) → only_item args ≡ o → call_type (takes_one list (just int)) args ≡ option_and (call_type (takes_one list variable) args) (Some int)
length_by args None e = no_one list (just int) args e ∙ ap (λ r. option_and r (Some int)) (sym (no_one list variable args e))
length_by args (Some a) e = ap (call_type (takes_one list (just int))) (only_is args a e) ∙ length_at a ∙ ap (λ xs. option_and (call_type (takes_one list variable) xs) (Some int)) (sym (only_is args a e))

pub length_type : (args : List MetaType) → call_type (takes_one list (just int)) args ≡ option_and (call_type (takes_one list variable) args) (Some int)
length_type args = length_by args (only_item args) refl
