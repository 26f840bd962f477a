-- Places of texts in a table.
use Rattle.std.proofs.Common.{◌≡◌, refl, ap, sym, ◌∙◌, ℕ, suc, ◌+◌, ◌≤◌, Bool, true, false, cond, not, List, [], ◌∷◌, ◌++◌, map, length, Some, None, is_some, position, nat_lt, bytes_eq, arith, if◌then◌else◌, ◌||◌}
use Rattle.std.specs.List.{position_or_len, list_any, IsDistinct, AllByRecursion}
use Rattle.std.proofs.lemmas.Grind.{common_steps}
use Rattle.std.proofs.lemmas.Bool.Decides.{nat_tests}
use Rattle.std.proofs.lemmas.List.Folds.{position_or_len_push}
use Rattle.std.proofs.lemmas.List.Sums.{prefix_len-le-length}
use Rattle.std.proofs.lemmas.Slice.Eq.{bytes_eq-Decides}
use Rattle.c_tokens.specs.Tokens.{with_text}

position_or_len-map : {A B : Type 0} (p : B → Bool) (f : A → B) (xs : List A) → position_or_len p (map f xs) ≡ position_or_len (λ x. p (f x)) xs
position_or_len-map p f [] = refl
position_or_len-map p f (x ∷ xs) = ap (λ n. cond (not (p (f x))) (1 + n) 0) (position_or_len-map p f xs)

length_map : {A B : Type 0} (f : A → B) (xs : List A) → length (map f xs) ≡ length xs
length_map f [] = refl
length_map f (x ∷ xs) = ap suc (length_map f xs)

pub position-map : {A B : Type 0} (p : B → Bool) (f : A → B) (xs : List A) → position p (map f xs) ≡ position (λ x. p (f x)) xs
position-map p f xs = let e = position_or_len-map p f xs in let l = length_map f xs in cc

-- whether a list has an element, by its place
zero_below : (n : ℕ) → true ≡ nat_lt 0 (suc n)
zero_below n = grind (arith, nat_tests)

any_here : (b : Bool) (m n : ℕ) (r : Bool) → r ≡ nat_lt m n → (b || r) ≡ nat_lt (cond (not b) (1 + m) 0) (suc n)
any_here true m n r e = zero_below n
any_here false m n r e = e ∙ grind (arith, nat_tests)

list_any-position_or_len : {A : Type 0} (p : A → Bool) (xs : List A) → list_any p xs ≡ nat_lt (position_or_len p xs) (length xs)
list_any-position_or_len p [] = refl
list_any-position_or_len p (x ∷ xs) = any_here (p x) (position_or_len p xs) (length xs) (list_any p xs) (list_any-position_or_len p xs)

some_if : {A : Type 0} (b : Bool) (a : A) → is_some (cond b (Some a) None) ≡ b
some_if true a = refl
some_if false a = refl

pub list_any-position : {A : Type 0} (p : A → Bool) (xs : List A) → list_any p xs ≡ is_some (position p xs)
list_any-position p xs = list_any-position_or_len p xs ∙ sym (some_if (nat_lt (position_or_len p xs) (length xs)) (position_or_len p xs))

map_push : {A B : Type 0} (f : A → B) (xs : List A) (x : A) → map f (xs ++ x ∷ []) ≡ map f xs ++ f x ∷ []
map_push f [] x = refl
map_push f (y ∷ xs) x = ap (λ l. f y ∷ l) (map_push f xs x)

map_if : {A B : Type 0} (f : A → B) (b : Bool) (xs ys : List A) → map f (cond b xs ys) ≡ cond b (map f xs) (map f ys)
map_if f true xs ys = refl
map_if f false xs ys = refl

-- a table after a look-up, by what holds the texts
pub with_text-map : {A : Type 0} (f : A → List ℕ) (text : List ℕ) (xs : List A) (x : A) → f x ≡ text → (b : Bool) → b ≡ is_some (position (bytes_eq text) (map f xs)) → map f (cond b xs (xs ++ x ∷ [])) ≡ with_text (map f xs) text
unfolding with_text
with_text-map f text xs x same b e = map_if f b xs (xs ++ x ∷ []) ∙ ap (λ l. cond b (map f xs) l) (map_push f xs x) ∙ ap (λ t. cond b (map f xs) (map f xs ++ t ∷ [])) same ∙ ap (λ c. cond c (map f xs) (map f xs ++ text ∷ [])) e

pub bytes_eq-refl : (text : List ℕ) → bytes_eq text text ≡ true
bytes_eq-refl text = (bytes_eq-Decides text text).1 refl

push_found : {A : Type 0} (p : A → Bool) (xs : List A) (x : A) → false ≡ nat_lt (position_or_len p xs) (length xs) → p x ≡ true → position p (xs ++ x ∷ []) ≡ Some (position_or_len p xs)
push_found p xs x past passes = grind (arith, common_steps, nat_tests, position_or_len_push, prefix_len-le-length)

pushed : (names : List (List ℕ)) (text : List ℕ) → (b : Bool) → b ≡ nat_lt (position_or_len (bytes_eq text) names) (length names) → position (bytes_eq text) (if is_some (cond b (Some (position_or_len (bytes_eq text) names)) None) then names else names ++ text ∷ []) ≡ Some (position_or_len (bytes_eq text) names)
pushed names text true e = ap (λ c. cond c (Some (position_or_len (bytes_eq text) names)) None) (sym e)
pushed names text false e = push_found (bytes_eq text) names text e (bytes_eq-refl text)

-- a text has its place after it was looked up
pub position-with_text : (names : List (List ℕ)) (text : List ℕ) → position (bytes_eq text) (with_text names text) ≡ Some (position_or_len (bytes_eq text) names)
unfolding with_text
position-with_text names text = pushed names text (nat_lt (position_or_len (bytes_eq text) names) (length names)) refl

-- a table that has the text stays
pub with_text-known : (names : List (List ℕ)) (text : List ℕ) → is_some (position (bytes_eq text) names) ≡ true → with_text names text ≡ names
unfolding with_text
with_text-known names text known = ap (λ b. cond b names (names ++ text ∷ [])) known

-- what holds a text is put last, unless another holds the same text
pub inserted_table : {A : Type 0} (f : A → List ℕ) (text : List ℕ) (xs : List A) (x : A) (new : List A) → f x ≡ text → new ≡ cond (list_any (λ y. bytes_eq (f x) (f y)) xs) xs (xs ++ x ∷ []) → map f new ≡ with_text (map f xs) text
inserted_table f text xs x new same e =
    ap (map f) e ∙ with_text-map f text xs x same (list_any (λ y. bytes_eq (f x) (f y)) xs)
    (list_any-position (λ y. bytes_eq (f x) (f y)) xs ∙ ap (λ t. is_some (position (λ y. bytes_eq t (f y)) xs)) same ∙ ap is_some (sym (position-map (bytes_eq text) f xs)))

pub inserted_place : {A : Type 0} (f : A → List ℕ) (text : List ℕ) (xs : List A) (x : A) (at : ℕ) → f x ≡ text → at ≡ position_or_len (λ y. bytes_eq (f x) (f y)) xs → position (bytes_eq text) (with_text (map f xs) text) ≡ Some at
inserted_place f text xs x at same e =
    position-with_text (map f xs) text ∙ ap Some (position_or_len-map (bytes_eq text) f xs ∙ ap (λ t. position_or_len (λ y. bytes_eq t (f y)) xs) (sym same) ∙ sym e)

apart-map : {A : Type 0} (f : A → List ℕ) (x : A) (xs : List A) → AllByRecursion (λ y. bytes_eq (f x) (f y) ≡ false) xs → AllByRecursion (λ t. bytes_eq (f x) t ≡ false) (map f xs)
apart-map f x [] h = h
apart-map f x (y ∷ xs) h = (h.0, apart-map f x xs h.1)

pub distinct-map : {A : Type 0} (f : A → List ℕ) (xs : List A) → IsDistinct (λ a b. bytes_eq (f a) (f b)) xs → IsDistinct bytes_eq (map f xs)
unfolding IsDistinct
distinct-map f [] h = tt
distinct-map f (x ∷ xs) h = (apart-map f x xs h.0, distinct-map f xs h.1)

length_by : (names : List (List ℕ)) (text : List ℕ) (b : Bool) → length (cond b names (names ++ text ∷ [])) ≤ length names + 1
length_by names text true = omega arith
length_by names text false = grind (arith, common_steps)

-- a table gains at most one text at a look-up
pub length-with_text : (names : List (List ℕ)) (text : List ℕ) → length (with_text names text) ≤ length names + 1
unfolding with_text
length-with_text names text = length_by names text (is_some (position (bytes_eq text) names))
