-- The tokens of a text are known to the table that gained its words.
use Rattle.std.proofs.Common.{◌≡◌, refl, ap, sym, subst, ◌∙◌, ℕ, zero, suc, ◌+◌, ◌<◌, Bool, true, false, ◌||◌, cond, List, [], ◌∷◌, ◌++◌, length, map, Option, Some, None, Result, Ok, Err, is_some, position, unwrap_or, bytes_eq}
use Rattle.std.specs.Prelude.{slice_index_or}
use Rattle.std.specs.List.{list_any}
use Rattle.std.proofs.lemmas.List.Quantifiers.{position-Some}
use Rattle.std.proofs.lemmas.List.Folds.{list_any-append}
use Rattle.std.proofs.lemmas.Slice.Eq.{bytes_eq-Decides}
use Rattle.c_tokens.proofs.Texts.{list_any-position}
use Rattle.c_tokens.specs.declared.lexical.Dialect.TheVariants.{C90}
use Rattle.c_tokens.specs.declared.lexical.LexCause.TheVariants as cause
use Rattle.c_tokens.specs.declared.token.Token.{Token}
use Rattle.c_tokens.specs.Skipped.{stands_first}
use Rattle.c_tokens.specs.Spelling.{Sort, keyword, punctuator, mark, word, integer, floating, character, string, Spelling, space, marker, token, refused, spelling_of}
use Rattle.c_tokens.specs.Tokens.{Piece, Bad, bad, meaning, number_in, shape_of, before, adds, tokens_in, pieces, tokens_of, with_text, gains, gained_in, gained, token_at as made}
use Rattle.text_tokens.specs.Written.{IsSpelled}
use Rattle.written_items.specs.Known.{IsKnown, AreKnown}

-- ---- texts of a table

-- the table has the text
abbrev Has : List (List ℕ) → List ℕ → Type 0
Has names text = list_any (bytes_eq text) names ≡ true

or_left : (a b : Bool) → a ≡ true → (a || b) ≡ true
or_left true b e = refl
or_left false b e = absurd cc

or_right : (a b : Bool) → b ≡ true → (a || b) ≡ true
or_right true b e = refl
or_right false b e = e

has_left : (names : List (List ℕ)) (text u : List ℕ) → Has names text → Has (names ++ u ∷ []) text
has_left names text u h = list_any-append (bytes_eq text) names (u ∷ []) ∙ or_left _ _ h

has_last : (names : List (List ℕ)) (text : List ℕ) → Has (names ++ text ∷ []) text
has_last names text = list_any-append (bytes_eq text) names (text ∷ []) ∙ or_right (list_any (bytes_eq text) names) _ (or_left (bytes_eq text text) false ((bytes_eq-Decides text text).1 refl))

kept_if : (b : Bool) (names : List (List ℕ)) (text u : List ℕ) → Has names text → Has (cond b names (names ++ u ∷ [])) text
kept_if true names text u h = h
kept_if false names text u h = has_left names text u h

kept : (names : List (List ℕ)) (text u : List ℕ) → Has names text → Has (with_text names u) text
unfolding with_text
kept names text u h = kept_if (is_some (position (bytes_eq u) names)) names text u h

there_if : (b : Bool) (names : List (List ℕ)) (text : List ℕ) → list_any (bytes_eq text) names ≡ b → Has (cond b names (names ++ text ∷ [])) text
there_if true names text e = e
there_if false names text e = has_last names text

there : (names : List (List ℕ)) (text : List ℕ) → Has (with_text names text) text
unfolding with_text
there names text = there_if (is_some (position (bytes_eq text) names)) names text (list_any-position (bytes_eq text) names)

gains_keep : (names : List (List ℕ)) (text u : List ℕ) (m : Spelling) → Has names text → Has (gains names u m) text
gains_keep names text u (token word) h = kept names text u h
gains_keep names text u (token integer) h = kept names text u h
gains_keep names text u (token floating) h = kept names text u h
gains_keep names text u (token character) h = kept names text u h
gains_keep names text u (token string) h = kept names text u h
gains_keep names text u (token (keyword k)) h = h
gains_keep names text u (token (punctuator p)) h = h
gains_keep names text u (token (mark m)) h = h
gains_keep names text u space h = h
gains_keep names text u marker h = h
gains_keep names text u (refused offset c) h = h

gained_keep : (names : List (List ℕ)) (text : List ℕ) (ps : List Piece) → Has names text → Has (gained_in C90 names ps) text
unfolding gained_in
gained_keep names text [] h = h
gained_keep names text (p ∷ ps) h = gained_keep (gains names p.text (meaning C90 p.text)) text ps (gains_keep names text p.text (meaning C90 p.text) h)

-- ---- each piece

-- the table has the text of a word or a constant
abbrev Numbered : List (List ℕ) → List ℕ → Spelling → Type 0
Numbered names text (token word) = Has names text
Numbered names text (token integer) = Has names text
Numbered names text (token floating) = Has names text
Numbered names text (token character) = Has names text
Numbered names text (token string) = Has names text
Numbered names text _ = Unit {0}

unfoldable AllNumbered : List (List ℕ) → List Piece → Type 0
AllNumbered names [] = Unit {0}
AllNumbered names (p ∷ ps) = Numbered names p.text (meaning C90 p.text) × AllNumbered names ps

numbered_now : (names : List (List ℕ)) (text : List ℕ) (m : Spelling) (ps : List Piece) → Numbered (gained_in C90 (gains names text m) ps) text m
numbered_now names text (token word) ps = gained_keep (with_text names text) text ps (there names text)
numbered_now names text (token integer) ps = gained_keep (with_text names text) text ps (there names text)
numbered_now names text (token (keyword k)) ps = tt
numbered_now names text (token (punctuator p)) ps = tt
numbered_now names text (token (mark m)) ps = tt
numbered_now names text (token floating) ps = gained_keep (with_text names text) text ps (there names text)
numbered_now names text (token character) ps = gained_keep (with_text names text) text ps (there names text)
numbered_now names text (token string) ps = gained_keep (with_text names text) text ps (there names text)
numbered_now names text space ps = tt
numbered_now names text marker ps = tt
numbered_now names text (refused offset c) ps = tt

all_numbered : (names : List (List ℕ)) (ps : List Piece) → AllNumbered (gained_in C90 names ps) ps
unfolding AllNumbered gained_in
all_numbered names [] = tt
all_numbered names (p ∷ ps) = (numbered_now names p.text (meaning C90 p.text) ps, all_numbered (gains names p.text (meaning C90 p.text)) ps)

-- ---- each token

found : (names : List (List ℕ)) (text : List ℕ) (o : Option ℕ) → position (bytes_eq text) names ≡ o → is_some o ≡ true → (number_in names text < length names) × (slice_index_or names (number_in names text) [] ≡ text)
unfolding number_in
found names text None e h = absurd cc
found names text (Some n) e h =
    let F = position-Some (bytes_eq text) names n [] e in
    let same : unwrap_or (position (bytes_eq text) names) 0 ≡ n = ap (λ o. unwrap_or o 0) e in
    (rw same F.0, rw same (sym ((bytes_eq-Decides text _).0 F.1)))

spelled_as : (text : List ℕ) (o : Option Spelling) (sort : Sort) → spelling_of C90 text ≡ o → unwrap_or o (refused 0 cause.StrayByte) ≡ token sort → spelling_of C90 text ≡ Some (token sort)
spelled_as text None sort e h = absurd (cc h)
spelled_as text (Some x) sort e h = e ∙ ap Some h

means : (text : List ℕ) (sort : Sort) → meaning C90 text ≡ token sort → spelling_of C90 text ≡ Some (token sort)
unfolding meaning
means text sort h = spelled_as text (spelling_of C90 text) sort refl h

spelled_number : (names : List (List ℕ)) (text : List ℕ) (sort : Sort) → Has names text → meaning C90 text ≡ token sort → IsSpelled names (record { 0 = number_in names text }) sort
spelled_number names text sort h m =
    let F = found names text (position (bytes_eq text) names) refl (sym (list_any-position (bytes_eq text) names) ∙ h) in
    record { within = F.0; spelled = ap (spelling_of C90) F.1 ∙ means text sort m }

known_shape : (names : List (List ℕ)) (text : List ℕ) (sort : Sort) → Numbered names text (token sort) → meaning C90 text ≡ token sort → IsKnown names (shape_of names text sort)
known_shape names text (keyword k) h m = tt
known_shape names text (punctuator p) h m = tt
known_shape names text (mark x) h m = tt
known_shape names text word h m = spelled_number names text word h m
known_shape names text integer h m = spelled_number names text integer h m
known_shape names text floating h m = spelled_number names text floating h m
known_shape names text character h m = spelled_number names text character h m
known_shape names text string h m = spelled_number names text string h m

-- each token of a list
unfoldable Every : List (List ℕ) → List Token → Type 0
Every names [] = Unit {0}
Every names (t ∷ w) = IsKnown names t.shape × Every names w

every_at : (names : List (List ℕ)) (w : List Token) → Every names w → AreKnown names (map (λ t. t.shape) w)
unfolding Every
every_at names [] h k = tt
every_at names (t ∷ w) h zero = h.0
every_at names (t ∷ w) h (suc k) = every_at names w h.1 k

-- Ok of tokens that are all known
abbrev OkKnown : List (List ℕ) → Result (List Token) Bad → Type 0
OkKnown names (Ok w) = Every names w
OkKnown names (Err at) = Unit {0}

known_before : (names : List (List ℕ)) (t : Token) (others : Result (List Token) Bad) → IsKnown names t.shape → OkKnown names others → OkKnown names (before t others)
unfolding Every
known_before names t (Ok w) h k = (h, k)
known_before names t (Err at) h k = tt

known_if : (names : List (List ℕ)) (at : ℕ) (first : Bool) (others : Result (List Token) Bad) → OkKnown names others → OkKnown names (cond first others (bad at cause.Directive))
known_if names at true others k = k
known_if names at false others k = tt

known_adds : (names : List (List ℕ)) (bytes : List ℕ) (p : Piece) (m : Spelling) (others : Result (List Token) Bad) → meaning C90 p.text ≡ m → Numbered names p.text m → OkKnown names others → OkKnown names (adds names bytes p m others)
known_adds names bytes p space others e h k = k
known_adds names bytes p marker others e h k = known_if names p.start (stands_first bytes p.start) others k
known_adds names bytes p (token sort) others e h k = known_before names (made (shape_of names p.text sort) p.start (p.start + length p.text)) others (known_shape names p.text sort h e) k
known_adds names bytes p (refused offset c) others e h k = tt

known_in : (names : List (List ℕ)) (bytes : List ℕ) (ps : List Piece) → AllNumbered names ps → OkKnown names (tokens_in C90 names bytes ps)
unfolding tokens_in AllNumbered Every
known_in names bytes [] h = (tt, tt)
known_in names bytes (p ∷ ps) h = known_adds names bytes p (meaning C90 p.text) (tokens_in C90 names bytes ps) refl h.0 (known_in names bytes ps h.1)

known_result : (names : List (List ℕ)) (o : Result (List Token) Bad) (w : List Token) → o ≡ Ok w → OkKnown names o → Every names w
known_result names (Ok v) w e h = subst (Every names) (let same : v ≡ w = cc e in same) h
known_result names (Err at) w e h = absurd (cc e)

-- over a table that gained the words of a text, its tokens are known
pub known_tokens : (names : List (List ℕ)) (bytes : List ℕ) (w : List Token) → tokens_of C90 (gained C90 names bytes) bytes ≡ Ok w → AreKnown (gained C90 names bytes) (map (λ t. t.shape) w)
unfolding tokens_of gained
known_tokens names bytes w e = every_at _ w (known_result _ _ w e (known_in (gained_in C90 names (pieces C90 bytes)) bytes (pieces C90 bytes) (all_numbered names (pieces C90 bytes))))
