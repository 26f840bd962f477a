-- What the program keeps of names, as names are added.
use Rattle.std.proofs.Common.{◌≡◌, refl, ap, sym, subst, ◌∙◌, ℕ, ◌^◌, ◌<◌, ◌≤◌, Bool, true, false, cond, ◌&&◌, ◌||◌, List, [], ◌∷◌, ◌++◌, length, map, is_some, not, unwrap_or, position, Option, Some, None, Result, Ok, Err, OnOk, OnErr, bytes_eq, decimal, nat_le, arith}
use Rattle.std.specs.List.{list_all, list_any}
use Rattle.std.specs.Map.{lookup}
use Rattle.std.specs.Str.Parse.{AllDigits}
use Rattle.std.proofs.lemmas.Bool.Decides.{nat_tests}
use Rattle.std.proofs.lemmas.Fmt.{decimal_is_IsNumeral}
use Rattle.std.proofs.lemmas.List.{map-append}
use Rattle.c_tokens.proofs.Texts.{bytes_eq-refl}
use Rattle.fresh_names.proofs.Words.{list_any-map}
use Rattle.std.proofs.lemmas.List.Folds.{list_all-append, list_any-append}
use Rattle.indexmap.specs.IndexMap.{insert_entry}
use Rattle.indexmap.specs.IndexSet.{insert_key}
use Rattle.c_tokens.specs.Bytes.{is_letter, is_digit, is_word_byte}
use Rattle.c_tokens.specs.Spelling.{is_word, find_text, keywords}
use Rattle.c_tokens.specs.Tokens.{with_text}
use Rattle.fresh_names.specs.Names.{is_name, is_among, numbered, TakenBelow, NameTable}
use Rattle.fresh_names.specs.Table.{AllTakenBelow, AreKnown}
use Rattle.fresh_names.proofs.Free.{same_text, is_among-list_any}

or_left : (a b : Bool) → a ≡ true → (a || b) ≡ true
or_left a b e = ap (λ c. c || b) e

pub is_among-push : (text other : List ℕ) (texts : List (List ℕ)) → is_among text texts ≡ true → is_among text (texts ++ other ∷ []) ≡ true
is_among-push text other texts e =
    is_among-list_any text (texts ++ other ∷ []) ∙ list_any-append (bytes_eq text) texts (other ∷ [])
    ∙ or_left (list_any (bytes_eq text) texts) (list_any (bytes_eq text) (other ∷ [])) (sym (is_among-list_any text texts) ∙ e)

push_or_not : (text other : List ℕ) (texts : List (List ℕ)) (b : Bool) → is_among text texts ≡ true → is_among text (cond b texts (texts ++ other ∷ [])) ≡ true
push_or_not text other texts true e = e
push_or_not text other texts false e = is_among-push text other texts e

pub is_among-with_text : (text other : List ℕ) (texts : List (List ℕ)) → is_among text texts ≡ true → is_among text (with_text texts other) ≡ true
unfolding with_text
is_among-with_text text other texts e = push_or_not text other texts (is_some (position (bytes_eq other) texts)) e

pub with_text-new : (text : List ℕ) (texts : List (List ℕ)) → is_among text texts ≡ false → with_text texts text ≡ texts ++ text ∷ []
unfolding with_text is_among
with_text-new text texts e = ap (λ b. cond b texts (texts ++ text ∷ [])) e

-- the numbers that are kept

pub taken-with_text : {A : Type 0} (text_of : A → List ℕ) (texts : List (List ℕ)) (text : List ℕ) (entries : List (A × ℕ)) → AllTakenBelow text_of texts entries → AllTakenBelow text_of (with_text texts text) entries
taken-with_text text_of texts text [] h = tt
taken-with_text text_of texts text (entry ∷ others) h =
    ((λ k less. is_among-with_text (numbered (text_of entry.0) k) text texts (h.0 k less)), taken-with_text text_of texts text others h.1)

inserted : {A : Type 0} (text_of : A → List ℕ) (texts : List (List ℕ)) (entry : A × ℕ) (key : A) (n : ℕ) (rest old : List (A × ℕ)) (b : Bool) → bytes_eq (text_of key) (text_of entry.0) ≡ b
    → TakenBelow (text_of entry.0) texts entry.1 → AllTakenBelow text_of texts old → AllTakenBelow text_of texts rest → TakenBelow (text_of key) texts n → AllTakenBelow text_of texts (cond b ((entry.0, n) ∷ old) (entry ∷ rest))
inserted text_of texts entry key n rest old true e here others more below = (subst (λ t. TakenBelow t texts n) (same_text (text_of key) (text_of entry.0) e) below, others)
inserted text_of texts entry key n rest old false e here others more below = (here, more)

pub taken-insert : {A : Type 0} (text_of : A → List ℕ) (texts : List (List ℕ)) (key : A) (n : ℕ) (entries : List (A × ℕ)) → AllTakenBelow text_of texts entries → TakenBelow (text_of key) texts n
    → AllTakenBelow text_of texts (insert_entry (λ a b. bytes_eq (text_of a) (text_of b)) entries key n)
taken-insert text_of texts key n [] h below = (below, tt)
taken-insert text_of texts key n (entry ∷ others) h below =
    inserted text_of texts entry key n (insert_entry (λ a b. bytes_eq (text_of a) (text_of b)) others key n) others (bytes_eq (text_of key) (text_of entry.0)) refl h.0 h.1 (taken-insert text_of texts key n others h.1 below) below

looked_up : {A : Type 0} (text_of : A → List ℕ) (texts : List (List ℕ)) (base : List ℕ) (n : ℕ) (entry : A × ℕ) (o : Option ℕ) (b : Bool) → bytes_eq base (text_of entry.0) ≡ b
    → TakenBelow (text_of entry.0) texts entry.1 → (o ≡ Some n → TakenBelow base texts n) → cond b (Some entry.1) o ≡ Some n → TakenBelow base texts n
looked_up text_of texts base n entry o true e here there found =
    let number : entry.1 ≡ n = cc in subst (λ k. TakenBelow base texts k) number (subst (λ t. TakenBelow t texts entry.1) (sym (same_text base (text_of entry.0) e)) here)
looked_up text_of texts base n entry o false e here there found = there found

pub taken-lookup : {A : Type 0} (text_of : A → List ℕ) (texts : List (List ℕ)) (base : List ℕ) (n : ℕ) (entries : List (A × ℕ)) → AllTakenBelow text_of texts entries
    → lookup (λ key. bytes_eq base (text_of key)) entries ≡ Some n → TakenBelow base texts n
taken-lookup text_of texts base n [] h found = absurd cc
taken-lookup text_of texts base n (entry ∷ others) h found =
    looked_up text_of texts base n entry (lookup (λ key. bytes_eq base (text_of key)) others) (bytes_eq base (text_of entry.0)) refl h.0 (taken-lookup text_of texts base n others h.1) found

-- the fresh names

and_both : (a b : Bool) → a ≡ true → b ≡ true → (a && b) ≡ true
and_both a b e f = ap (λ c. c && b) e ∙ f

and_left : (a b : Bool) → (a && b) ≡ true → a ≡ true
and_left true b e = refl
and_left false b e = absurd cc

and_right : (a b : Bool) → (a && b) ≡ true → b ≡ true
and_right true b e = e
and_right false b e = absurd cc

pub all-with_text : (fresh texts : List (List ℕ)) (text : List ℕ) → list_all (λ name. is_among name texts) fresh ≡ true → list_all (λ name. is_among name (with_text texts text)) fresh ≡ true
all-with_text [] texts text h = refl
all-with_text (name ∷ others) texts text h =
    and_both (is_among name (with_text texts text)) (list_all (λ name. is_among name (with_text texts text)) others) (is_among-with_text name text texts (and_left (is_among name texts) (list_all (λ name. is_among name texts) others) h))
    (all-with_text others texts text (and_right (is_among name texts) (list_all (λ name. is_among name texts) others) h))

pub known-with_text : (fresh texts : List (List ℕ)) (text : List ℕ) → AreKnown fresh texts → AreKnown fresh (with_text texts text)
known-with_text fresh texts text h = (h.0, all-with_text fresh texts text h.1)

found_among : (test : List ℕ → Bool) (text name : List ℕ) (others : List (List ℕ)) (b : Bool) → bytes_eq text name ≡ b → test name ≡ true → (list_any (bytes_eq text) others ≡ true → test text ≡ true) → (b || list_any (bytes_eq text) others) ≡ true → test text ≡ true
found_among test text name others true e here there h = ap test (same_text text name e) ∙ here
found_among test text name others false e here there h = there h

-- what holds of all holds of one of them
pub all-any : (test : List ℕ → Bool) (text : List ℕ) (names : List (List ℕ)) → list_all test names ≡ true → list_any (bytes_eq text) names ≡ true → test text ≡ true
all-any test text [] h k = absurd cc
all-any test text (name ∷ others) h k =
    found_among test text name others (bytes_eq text name) refl (and_left (test name) (list_all test others) h) (all-any test text others (and_right (test name) (list_all test others) h)) k

not_true : (a b : Bool) → (a ≡ true → b ≡ true) → b ≡ false → a ≡ false
not_true true b h e = absurd (let both : true ≡ false = sym (h refl) ∙ e in cc)
not_true false b h e = refl

-- a text that is not among the words is no fresh name
pub new-not_fresh : (fresh texts : List (List ℕ)) (text : List ℕ) → AreKnown fresh texts → is_among text texts ≡ false → is_among text fresh ≡ false
new-not_fresh fresh texts text h e =
    not_true (is_among text fresh) (is_among text texts) (λ k. all-any (λ name. is_among name texts) text fresh h.1 (sym (is_among-list_any text fresh) ∙ k)) e

-- nor is one that is no word
pub no_word-not_fresh : (fresh texts : List (List ℕ)) (text : List ℕ) → AreKnown fresh texts → is_word text ≡ false → is_among text fresh ≡ false
no_word-not_fresh fresh texts text h e =
    not_true (is_among text fresh) (is_word text) (λ k. all-any is_word text fresh h.0 (sym (is_among-list_any text fresh) ∙ k)) e

-- a fresh name is a word

digit_word : (c : ℕ) → 48 ≤ c → c < 58 → is_word_byte c ≡ true
unfolding is_word_byte is_letter is_digit
digit_word c low high = grind (arith, nat_tests)

all_digits : (ds : List ℕ) → AllDigits 10 ds → list_all is_word_byte ds ≡ true
all_digits [] h = refl
all_digits (c ∷ ds) h = and_both (is_word_byte c) (list_all is_word_byte ds) (digit_word c (grind (arith, nat_tests)) (grind (arith, nat_tests))) (all_digits ds h.1)

underscore : is_word_byte 95 ≡ true
unfolding is_word_byte is_letter
underscore = refl

ending : (n : ℕ) → n < 2 ^ 64 → list_all is_word_byte (95 ∷ decimal n) ≡ true
ending n small = and_both (is_word_byte 95) (list_all is_word_byte (decimal n)) underscore (all_digits (decimal n) (decimal_is_IsNumeral n small).0.1)

pub is_word-numbered : (base : List ℕ) (n : ℕ) → n < 2 ^ 64 → is_word base ≡ true → is_word (numbered base n) ≡ true
unfolding is_word numbered
is_word-numbered [] n small h = absurd cc
is_word-numbered (b ∷ rest) n small h =
    and_both (is_letter b) (list_all is_word_byte (rest ++ 95 ∷ decimal n)) (and_left (is_letter b) (list_all is_word_byte rest) h)
    (list_all-append is_word_byte rest (95 ∷ decimal n) ∙ and_both (list_all is_word_byte rest) (list_all is_word_byte (95 ∷ decimal n)) (and_right (is_letter b) (list_all is_word_byte rest) h) (ending n small))

abbrev pub names_of : List (List ℕ) → List (List ℕ) → NameTable
names_of texts fresh = record { texts = texts; fresh = fresh }

-- a table after a look-up that may have failed

pub kept_or : {T E : Type 0} (P : List (List ℕ) → Type 0) (r : Result T E) (old new : List (List ℕ)) (text : List ℕ) → OnOk r (new ≡ with_text old text) → OnErr r (new ≡ old) → P old → P (with_text old text) → P new
kept_or P (Ok x) old new text ok err before after = subst P (sym ok) after
kept_or P (Err x) old new text ok err before after = subst P (sym err) before

pub on_ok : {T E : Type 0} (P : Type 0) (r : Result T E) → P → OnOk r P
on_ok P (Ok x) p = p
on_ok P (Err x) p = tt

pub is_among-map : {A : Type 0} (f : A → List ℕ) (text : List ℕ) (xs : List A) → is_among text (map f xs) ≡ list_any (λ x. bytes_eq text (f x)) xs
is_among-map f text xs = is_among-list_any text (map f xs) ∙ list_any-map (bytes_eq text) f xs

pub not_both : (b : Bool) → b ≡ true → b ≡ false → ⊥
not_both b e f = let both : true ≡ false = sym e ∙ f in cc

push_map : {A : Type 0} (f : A → List ℕ) (key : A) (xs : List A) (b : Bool) → b ≡ false → map f (cond b xs (xs ++ key ∷ [])) ≡ map f xs ++ f key ∷ []
push_map f key xs b e = ap (λ c. map f (cond c xs (xs ++ key ∷ []))) e ∙ map-append f xs (key ∷ [])

pub inserted-map : {A : Type 0} (f : A → List ℕ) (key : A) (xs : List A) → is_among (f key) (map f xs) ≡ false → map f (insert_key (λ a b. bytes_eq (f a) (f b)) xs key) ≡ map f xs ++ f key ∷ []
inserted-map f key xs e = push_map f key xs (list_any (λ x. bytes_eq (f key) (f x)) xs) (sym (is_among-map f (f key) xs) ∙ e)

known_all : (texts : List (List ℕ)) (text : List ℕ) (fresh : List (List ℕ)) → list_all (λ name. is_among name texts) fresh ≡ true → list_all (λ name. is_among name (texts ++ text ∷ [])) fresh ≡ true
known_all texts text [] h = refl
known_all texts text (name ∷ others) h =
    and_both (is_among name (texts ++ text ∷ [])) (list_all (λ name. is_among name (texts ++ text ∷ [])) others) (is_among-push name text texts (and_left (is_among name texts) (list_all (λ name. is_among name texts) others) h))
    (known_all texts text others (and_right (is_among name texts) (list_all (λ name. is_among name texts) others) h))

here : (texts : List (List ℕ)) (text : List ℕ) → is_among text (texts ++ text ∷ []) ≡ true
here texts text =
    is_among-list_any text (texts ++ text ∷ []) ∙ list_any-append (bytes_eq text) texts (text ∷ [])
    ∙ ap (λ b. list_any (bytes_eq text) texts || (b || false)) (bytes_eq-refl text) ∙ or_end (list_any (bytes_eq text) texts)
  where
    or_end : (b : Bool) → (b || (true || false)) ≡ true
    or_end true = refl
    or_end false = refl

pub known-push : (fresh texts : List (List ℕ)) (text : List ℕ) → AreKnown fresh texts → is_word text ≡ true → AreKnown (fresh ++ text ∷ []) (texts ++ text ∷ [])
known-push fresh texts text h word = (
  list_all-append is_word fresh (text ∷ []) ∙ and_both (list_all is_word fresh) (is_word text && true) h.0 (and_both (is_word text) true word refl),
  list_all-append (λ name. is_among name (texts ++ text ∷ [])) fresh (text ∷ [])
      ∙ and_both (list_all (λ name. is_among name (texts ++ text ∷ [])) fresh) (is_among text (texts ++ text ∷ []) && true) (known_all texts text fresh h.1) (and_both (is_among text (texts ++ text ∷ [])) true (here texts text) refl),
)

taken-push : {A : Type 0} (text_of : A → List ℕ) (texts : List (List ℕ)) (text : List ℕ) (entries : List (A × ℕ)) → AllTakenBelow text_of texts entries → AllTakenBelow text_of (texts ++ text ∷ []) entries
taken-push text_of texts text [] h = tt
taken-push text_of texts text (entry ∷ others) h =
    ((λ k less. is_among-push (numbered (text_of entry.0) k) text texts (h.0 k less)), taken-push text_of texts text others h.1)

-- a word is put last, as a fresh name too
pub put-keeps : {A : Type 0} (text_of : A → List ℕ) (fresh texts fresh' texts' : List (List ℕ)) (text : List ℕ) (entries : List (A × ℕ)) → fresh' ≡ fresh ++ text ∷ [] → texts' ≡ texts ++ text ∷ []
    → AreKnown fresh texts × AllTakenBelow text_of texts entries → is_word text ≡ true → AreKnown fresh' texts' × AllTakenBelow text_of texts' entries
put-keeps text_of fresh texts fresh' texts' text entries e f h word =
    subst (λ names. AreKnown names texts' × AllTakenBelow text_of texts' entries) (sym e)
    (subst (λ words. AreKnown (fresh ++ text ∷ []) words × AllTakenBelow text_of words entries) (sym f) (known-push fresh texts text h.0 word, taken-push text_of texts text entries h.1))

pub same_names : (texts texts' fresh fresh' : List (List ℕ)) → texts ≡ texts' → fresh ≡ fresh' → names_of texts fresh ≡ names_of texts' fresh'
same_names texts texts' fresh fresh' e f = ap (λ t. names_of t fresh) e ∙ ap (names_of texts') f

taken-first_by : {A : Type 0} (text_of : A → List ℕ) (texts : List (List ℕ)) (base : List ℕ) (entries : List (A × ℕ)) → AllTakenBelow text_of texts entries → (o : Option ℕ) → lookup (λ key. bytes_eq base (text_of key)) entries ≡ o
    → TakenBelow base texts (unwrap_or o 0)
taken-first_by text_of texts base entries h None e k less = absurd (omega arith)
taken-first_by text_of texts base entries h (Some n) e k less = taken-lookup text_of texts base n entries h e k less

-- below the number that is kept for a base none is free
pub taken-first : {A : Type 0} (text_of : A → List ℕ) (texts : List (List ℕ)) (base : List ℕ) (entries : List (A × ℕ)) → AllTakenBelow text_of texts entries → (n : ℕ) → n ≡ unwrap_or (lookup (λ key. bytes_eq base (text_of key)) entries) 0
    → TakenBelow base texts n
taken-first text_of texts base entries h n e = subst (TakenBelow base texts) (sym e) (taken-first_by text_of texts base entries h (lookup (λ key. bytes_eq base (text_of key)) entries) refl)

pub not_says : (b : Bool) → not b ≡ true → b ≡ false
not_says true e = absurd cc
not_says false e = refl

pub not_denies : (b : Bool) → not b ≡ false → b ≡ true
not_denies true e = refl
not_denies false e = absurd cc

pub name_word : (text : List ℕ) → is_name text ≡ true → is_word text ≡ true
unfolding is_name
name_word text e = and_left (is_word text) (not (is_some (find_text text keywords))) (and_left (is_word text && not (is_some (find_text text keywords))) (nat_le (length text) 1023) e)

pub found_word : (base text : List ℕ) (n : ℕ) → n < 2 ^ 64 → text ≡ numbered base n → is_name base ≡ true → is_word text ≡ true
found_word base text n small e named = ap is_word e ∙ is_word-numbered base n small (name_word base named)

pub is_long : (named : Bool) (text name : List ℕ) → text ≡ name → 1023 < length text → (named && nat_le (length name) 1023) ≡ false
is_long named text name e long = ap (λ b. named && b) (ap (λ t. nat_le (length t) 1023) (sym e) ∙ longer (length text) long) ∙ never named
  where
    longer : (n : ℕ) → 1023 < n → nat_le n 1023 ≡ false
    longer n h = grind (arith, nat_tests)

    never : (b : Bool) → (b && false) ≡ false
    never true = refl
    never false = refl

pub is_short : (named : Bool) (text name : List ℕ) → named ≡ true → text ≡ name → length text ≤ 1023 → (named && nat_le (length name) 1023) ≡ true
is_short named text name f e short = and_both named (nat_le (length name) 1023) f (ap (λ t. nat_le (length t) 1023) (sym e) ∙ shorter (length text) short)
  where
    shorter : (n : ℕ) → n ≤ 1023 → nat_le n 1023 ≡ true
    shorter n h = grind (arith, nat_tests)
