-- Looking texts up, and what stands for nothing.
use Rattle.std.proofs.Common.{◌≡◌, refl, ap, ◌∙◌, ℕ, Bool, true, false, cond, not, ◌&&◌, ◌||◌, List, [], ◌∷◌, Some, None, is_some, nat_eq, bytes_eq}
use Rattle.std.specs.List.{list_all}
use Rattle.std.proofs.lemmas.Bool.{eqb-true}
use Rattle.std.proofs.lemmas.Slice.Eq.{bytes_eq-Decides}
use Rattle.c_tokens.specs.declared.lexical.Dialect.{Dialect}
use Rattle.c_tokens.specs.declared.lexical.Dialect.TheVariants.{C90, C95}
use Rattle.c_tokens.specs.Literals.{starts_literal}
use Rattle.c_tokens.specs.Skipped.{starts_comment, starts_directive}
use Rattle.c_tokens.specs.Runs.{opens}
use Rattle.c_tokens.specs.Spelling.{Table, find_text, punctuators, other_punctuators, others_in, sign_marks, word_marks, is_word, is_marked_word, is_number, is_space, space, word_spelling, number_spelling, literal_spelling, comment_spelling, directive_spelling, mark_or_refused, stray_spelling, sign_spelling, plain_spelling, spelling_of, token_or, punctuator, mark}

pub and_true : (a b : Bool) → (a && b) ≡ true → (a ≡ true) × (b ≡ true)
and_true true b h = (refl, h)
and_true false b h = absurd cc

pub and_false : (a b : Bool) → b ≡ false → (a && b) ≡ false
and_false true b h = h
and_false false b h = refl

pub not_true : (a : Bool) → not a ≡ true → a ≡ false
not_true true h = absurd cc
not_true false h = refl

by_test : {A : Type 0} (p : A → Bool) (x y : A) (b : Bool) → p x ≡ true → p y ≡ false → (b ≡ true → x ≡ y) → b ≡ false
by_test p x y true a c h = absurd (let e = ap p (h refl) in cc)
by_test p x y false a c h = refl

-- a byte of one kind is no byte of another kind
pub differs : (p : ℕ → Bool) (b c : ℕ) → p b ≡ true → p c ≡ false → nat_eq b c ≡ false
differs p b c yes_b no_c = by_test p b c (nat_eq b c) yes_b no_c (eqb-true b c)

text_differs : (p : List ℕ → Bool) (t s : List ℕ) → p t ≡ true → p s ≡ false → bytes_eq t s ≡ false
text_differs p t s yes_t no_s = by_test p t s (bytes_eq t s) yes_t no_s (bytes_eq-Decides t s).0

-- none of the texts passes a test
abbrev pub none_passes : {A : Type 0} → (List ℕ → Bool) → Table A → Bool
none_passes p table = list_all (λ entry. not (p entry.0)) table

-- a text that passes a test that none of the table's texts passes
pub find-none : {A : Type 0} (p : List ℕ → Bool) (text : List ℕ) (table : Table A) → p text ≡ true → none_passes p table ≡ true → find_text text table ≡ None
unfolding find_text
find-none p text [] yes_text none = refl
find-none p text (entry ∷ others) yes_text none =
    let h = and_true (not (p entry.0)) (none_passes p others) none in
    ap (λ b. cond b (Some entry.1) (find_text text others)) (text_differs p text entry.0 yes_text (not_true (p entry.0) h.0)) ∙ find-none p text others yes_text h.1

no_other : (p : List ℕ → Bool) (d : Dialect) → none_passes p other_punctuators ≡ true → none_passes p (others_in d) ≡ true
no_other p C90 h = refl
no_other p C95 h = h

pub no_sign : (d : Dialect) (p : List ℕ → Bool) (text : List ℕ) → p text ≡ true → none_passes p punctuators ≡ true → none_passes p sign_marks ≡ true → none_passes p (others_in d) ≡ true → sign_spelling d text ≡ stray_spelling text
unfolding sign_spelling
no_sign d p text yes_text a b c =
    ap (λ o. token_or punctuator o (token_or mark (find_text text sign_marks) (token_or punctuator (find_text text (others_in d)) (stray_spelling text)))) (find-none p text punctuators yes_text a)
    ∙ ap (λ o. token_or mark o (token_or punctuator (find_text text (others_in d)) (stray_spelling text))) (find-none p text sign_marks yes_text b)
    ∙ ap (λ o. token_or punctuator o (stray_spelling text)) (find-none p text (others_in d) yes_text c)

-- of a text of more than one byte
pub no_long_sign : (d : Dialect) (p : List ℕ → Bool) (text : List ℕ) → stray_spelling text ≡ None → p text ≡ true → none_passes p punctuators ≡ true → none_passes p sign_marks ≡ true → none_passes p other_punctuators ≡ true → sign_spelling d text ≡ None
no_long_sign d p text s yes_text a b c = no_sign d p text yes_text a b (no_other p d c) ∙ s

skipped : {A : Type 0} (b : Bool) (x y : A) → b ≡ false → cond b x y ≡ y
skipped b x y e = ap (λ c. cond c x y) e

taken : {A : Type 0} (b : Bool) (x y : A) → b ≡ true → cond b x y ≡ x
taken b x y e = ap (λ c. cond c x y) e

pub or_false : (a b : Bool) → (a || b) ≡ false → (a ≡ false) × (b ≡ false)
or_false true b h = absurd cc
or_false false b h = (refl, h)

pub spelling-literal : (d : Dialect) (t : List ℕ) → starts_literal t ≡ true → spelling_of d t ≡ literal_spelling t
unfolding spelling_of
spelling-literal d t a = taken (starts_literal t) _ _ a

pub spelling-comment : (d : Dialect) (t : List ℕ) → starts_literal t ≡ false → starts_comment t ≡ true → spelling_of d t ≡ comment_spelling t
unfolding spelling_of
spelling-comment d t a b = skipped (starts_literal t) _ _ a ∙ taken (starts_comment t) _ _ b

pub spelling-directive : (d : Dialect) (t : List ℕ) → starts_literal t ≡ false → starts_comment t ≡ false → starts_directive d t ≡ true → spelling_of d t ≡ directive_spelling t
unfolding spelling_of
spelling-directive d t a b c = skipped (starts_literal t) _ _ a ∙ skipped (starts_comment t) _ _ b ∙ taken (starts_directive d t) _ _ c

pub spelling-plain : (d : Dialect) (t : List ℕ) → opens d t ≡ false → spelling_of d t ≡ plain_spelling d t
unfolding spelling_of opens
spelling-plain d t o =
    let h = or_false (starts_literal t || starts_comment t) (starts_directive d t) o in
    let i = or_false (starts_literal t) (starts_comment t) h.0 in
    skipped (starts_literal t) _ _ i.0 ∙ skipped (starts_comment t) _ _ i.1 ∙ skipped (starts_directive d t) _ _ h.1

pub spelling-word : (d : Dialect) (t : List ℕ) → opens d t ≡ false → is_word t ≡ true → spelling_of d t ≡ Some (word_spelling t)
unfolding plain_spelling
spelling-word d t o a = spelling-plain d t o ∙ taken (is_word t) _ _ a

pub spelling-marked : (d : Dialect) (t : List ℕ) → opens d t ≡ false → is_word t ≡ false → is_marked_word t ≡ true → spelling_of d t ≡ Some (mark_or_refused (find_text t word_marks))
unfolding plain_spelling
spelling-marked d t o a b = spelling-plain d t o ∙ skipped (is_word t) _ _ a ∙ taken (is_marked_word t) _ _ b

pub spelling-number : (d : Dialect) (t : List ℕ) → opens d t ≡ false → is_word t ≡ false → is_marked_word t ≡ false → is_number t ≡ true → spelling_of d t ≡ Some (number_spelling t)
unfolding plain_spelling
spelling-number d t o a b c = spelling-plain d t o ∙ skipped (is_word t) _ _ a ∙ skipped (is_marked_word t) _ _ b ∙ taken (is_number t) _ _ c

pub spelling-space : (d : Dialect) (t : List ℕ) → opens d t ≡ false → is_word t ≡ false → is_marked_word t ≡ false → is_number t ≡ false → is_space t ≡ true → spelling_of d t ≡ Some space
unfolding plain_spelling
spelling-space d t o a b c e = spelling-plain d t o ∙ skipped (is_word t) _ _ a ∙ skipped (is_marked_word t) _ _ b ∙ skipped (is_number t) _ _ c ∙ taken (is_space t) _ _ e

pub spelling-sign : (d : Dialect) (t : List ℕ) → opens d t ≡ false → is_word t ≡ false → is_marked_word t ≡ false → is_number t ≡ false → is_space t ≡ false → spelling_of d t ≡ sign_spelling d t
unfolding plain_spelling
spelling-sign d t o a b c e = spelling-plain d t o ∙ skipped (is_word t) _ _ a ∙ skipped (is_marked_word t) _ _ b ∙ skipped (is_number t) _ _ c ∙ skipped (is_space t) _ _ e

pub spelling-none : (d : Dialect) (t : List ℕ) → opens d t ≡ false → is_word t ≡ false → is_marked_word t ≡ false → is_number t ≡ false → is_space t ≡ false → sign_spelling d t ≡ None → is_some (spelling_of d t) ≡ false
spelling-none d t o a b c e f = ap is_some (spelling-sign d t o a b c e ∙ f)
