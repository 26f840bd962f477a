-- Each token that begins an expression can be followed by a phrase that completes it.
use Rattle.std.proofs.Common.{◌≡◌, refl, subst, sym, ap, ℕ, suc, ◌+◌, not, Bool, true, false, ◌&&◌, List, [], ◌∷◌, Option, Some, None, nat_eq, nat_lt}
use Rattle.c_tokens.specs.declared.token.Key.{Key}
use Rattle.c_tokens.specs.declared.token.Key.TheVariants as key
use Rattle.c_tokens.specs.declared.token.Punct.{Punct}
use Rattle.c_tokens.specs.declared.token.Punct.TheVariants as punct
use Rattle.c_tokens.specs.declared.token.Mark.{Mark}
use Rattle.c_tokens.specs.declared.token.Mark.TheVariants as mark
use Rattle.c_tokens.specs.declared.token.Word.{Word}
use Rattle.c_tokens.specs.declared.class.Class.TheVariants as class
use Rattle.c_tokens.specs.declared.token.Shape.{Shape}
use Rattle.c_tokens.specs.declared.token.Shape.TheVariants as shape
use Rattle.c_tokens.specs.ClassNumbers.{class_number}
use Rattle.c_forms.specs.declared.pieces.Piece.{Piece}
use Rattle.c_forms.specs.declared.pieces.Piece.TheVariants.{Token, Maybe, Own, TypeTokens, KindName, One, Group, Rest, Anything, Then}
use Rattle.c_forms.specs.declared.pieces.Repetition.{Repetition}
use Rattle.c_forms.specs.declared.pieces.Repetition.TheVariants.{Many}
use Rattle.c_forms.specs.declared.pieces.Sort.TheVariants as s
use Rattle.c_forms.specs.declared.forms.Form.{Form}
use Rattle.c_forms.specs.declared.forms.Form.TheVariants as form
use Rattle.c_forms.specs.declared.forms.ExpForm.TheVariants as exp
use Rattle.c_forms.specs.Measures.{level, pieces}
use Rattle.c_forms.specs.Tokens.{begun}
use Rattle.c_forms.specs.Sets.{Classes, has, starts, goes_on, held_class, element_starts, goes_on_with}
use Rattle.c_reader.specs.States.{State, Kept, Seen, seen, class, word_class, is_type}
use Rattle.c_reader.specs.Readers.{Reader, Found, Give, Refuse, Look, Pick, Bind, Ask, choose, only, token}
use Rattle.c_reader.proofs.Sets.{both, contrary, not_true}
use Rattle.c_reader.proofs.Seen.{word, written}
use Rattle.c_reader.proofs.Phrases.{Tokens, renewed, Finishes, Begun, anything, opens_anything, quiet, fin_give, fin_ask, fin_look, fin_bind, fin_choose, fin_next, fin_pick, fin_fits, fin_fewer, fin_map, fin_last, begun_phrase}
use Rattle.c_syntax.specs.Reading.{Usual, Parts, Listed, Gathered, nothing, node, joined, with_first, with_last, list_from, none_at, is_class, element_after, others, many, gathered_by, gathered, called, parts_by, parts_of, is_starred, pieces_in, completed}
use Rattle.c_syntax.specs.Grammar.{body, Standing, standing, whole, charged, entered, type_or, sized, begun_by, primary, climb, expression, is_sign, sign, begins, parenthesized, in_place, literal, literal_of}
use Rattle.c_alive.proofs.Kept.{Still}
use Rattle.c_alive.proofs.Phrased.{none_of, none_within, phrase, pieces_phrase, a_word}
use Rattle.c_alive.proofs.FitRows.{operand, operand_ends}
use Rattle.c_alive.proofs.Rows.{fit, fit_from, begins_with, fin_pieces}
use Rattle.c_alive.proofs.Nodes.{fin_completed}
use Rattle.c_alive.proofs.Operands.{in_body, operands_ending}
use Rattle.c_alive.proofs.Parens.{and_close, fin_wrapped}
use Rattle.c_alive.proofs.Entered.{fin_tight, fin_inside, cast}
use Rattle.c_alive.proofs.Sized.{fin_operand}
use Rattle.c_alive.proofs.Tame.{bounded_group, firm_in_place}
use Rattle.c_alive.proofs.Groups.{fin_others}
use Rattle.c_alive.proofs.Tails.{exp_over}
use Rattle.c_alive.proofs.Climbs.{fin_climb}
use Rattle.c_alive.proofs.Prefixes.{fin_literal, with_operands}
use Rattle.c_lively.proofs.Alone.{Alone, alone_begun, alone_ask, alone_look, alone_pick, alone_bind, alone_map}

-- the pieces after the first
abbrev phrase_after : List Piece → List Shape
phrase_after (Token c ∷ ps) = pieces_phrase s.Exp ps
phrase_after (Own ∷ ps) = pieces_phrase s.Exp ps
phrase_after ps = []

module _ (a : List Kept) where
  abbrev Held : {A : Type 0} → A → State → Type 0
  Held x t = Still a t

  abbrev beyond : Tokens
  beyond = none_of (goes_on s.Exp 1)

  -- ---- tokens that are no words

  -- a row that begins with the token
  fin_begun : (f : Form) (ps : List Piece) (out : Classes) (y : Shape) (z : State) → ((n : ℕ) → renewed n y ≡ y) → fit_from operand operand_ends s.Exp false ps out ≡ true → begins_with f ps (written y) ≡ true → Still a z
      → Finishes body z (none_of out) Held (pieces_in called s.Exp f Usual ps) (y ∷ phrase_after ps)
  unfolding pieces_in
  fin_begun f (Token c ∷ ps) out y z same h o k = fin_bind body z Held anything (none_of out) Held (token (class_number c)) (λ _. pieces_in called s.Exp f Usual ps) (y ∷ []) (pieces_phrase s.Exp ps)
      (fin_pick body z anything Held (λ x. only (nat_eq x.class (class_number c))) y (λ _. tt) (λ n. ap only o) (λ _. k)) (opens_anything (pieces_phrase s.Exp ps) (none_of out))
      (λ _ t k. fin_pieces called s.Exp f operand_ends (operands_ending true) out false Usual ps (both (fit operand_ends s.Exp false ps out) (fit_from operand operand_ends s.Exp false ps out) h).0 a t k)
  fin_begun f (Own ∷ ps) out y z same h o k = fin_bind body z Held anything (none_of out) Held (Pick (λ x. only (has (held_class f) x.class))) (λ _. pieces_in called s.Exp f Usual ps) (y ∷ []) (pieces_phrase s.Exp ps)
      (fin_pick body z anything Held (λ x. only (has (held_class f) x.class)) y (λ _. tt) (λ n. ap only o) (λ _. k)) (opens_anything (pieces_phrase s.Exp ps) (none_of out))
      (λ _ t k. fin_pieces called s.Exp f operand_ends (operands_ending true) out false Usual ps (both (fit operand_ends s.Exp false ps out) (fit_from operand operand_ends s.Exp false ps out) h).0 a t k)
  fin_begun f [] out y z same h o k = absurd (cc o)
  fin_begun f (Maybe c ∷ ps) out y z same h o k = absurd (cc o)
  fin_begun f (TypeTokens ∷ ps) out y z same h o k = absurd (cc o)
  fin_begun f (KindName ∷ ps) out y z same h o k = absurd (cc o)
  fin_begun f (One due least ∷ ps) out y z same h o k = absurd (cc o)
  fin_begun f (Group r due least ∷ ps) out y z same h o k = absurd (cc o)
  fin_begun f (Rest due ∷ ps) out y z same h o k = absurd (cc o)
  fin_begun f (Anything ∷ ps) out y z same h o k = absurd (cc o)
  fin_begun f (Then e ∷ ps) out y z same h o k = absurd (cc o)

  fin_starred : (inner : Parts) (f : Form) (place : ℕ) (y : Shape) (z : State) (b : Bool) → b ≡ true → with_operands f ≡ true → begins_with f (pieces f) (written y) ≡ true → ((n : ℕ) → renewed n y ≡ y) → Still a z
      → Finishes body z (none_of (goes_on s.Exp (level f))) Held (charged b (completed (parts_by b inner) s.Exp f place nothing (pieces f))) (y ∷ phrase_after (pieces f))
  fin_starred inner f place y z true e h o same k = fin_fits body z (none_of (goes_on s.Exp (level f))) Held 0 (completed called s.Exp f place nothing (pieces f)) (y ∷ phrase_after (pieces f))
      (fin_completed (Still a) (none_of (goes_on s.Exp (level f))) called s.Exp f place nothing (pieces f) z (y ∷ phrase_after (pieces f)) (fin_begun f (pieces f) (goes_on s.Exp (level f)) y z same h o k))
  fin_starred inner f place y z false e h o same k = absurd (cc e)

  abbrev phrase_opt : Option Form → List Shape
  phrase_opt (Some f) = phrase_after (pieces f)
  phrase_opt None = []

  abbrev prefixed : Shape → Option Form → Bool
  prefixed y (Some f) = (is_starred f && not (nat_lt (level f) 1)) && (with_operands f && begins_with f (pieces f) (written y))
  prefixed y None = false

  module _ (inner : Parts) where
    fin_prefixed : (y : Shape) (z : State) (o : Option Form) → prefixed y o ≡ true → ((n : ℕ) → renewed n y ≡ y) → Still a z → Finishes body z beyond Held (begun_by inner 1 o) (y ∷ phrase_opt o)
    unfolding whole
    fin_prefixed y z None h same k = absurd (cc h)
    fin_prefixed y z (Some f) h same k =
        let r = both (is_starred f && not (nat_lt (level f) 1)) (with_operands f && begins_with f (pieces f) (written y)) h in
        let l = both (is_starred f) (not (nat_lt (level f) 1)) r.0 in
        let o = both (with_operands f) (begins_with f (pieces f) (written y)) r.1 in
        fin_tight 1 a f (whole inner s.Exp f) z (y ∷ phrase_after (pieces f)) (not_true (nat_lt (level f) 1) l.1)
        (fin_ask body z (none_of (goes_on s.Exp (level f))) Held (λ i. charged (is_starred f) (completed (parts_of f inner) s.Exp f i.place nothing (pieces f))) (y ∷ phrase_after (pieces f)) (λ place. fin_starred inner f place y z (is_starred f) l.0 o.0 o.1 same k))

    fin_paren : (i : ℕ) (z : State) → Still a z → Finishes body z beyond Held (entered 1 i) (shape.Punct punct.LeftParen ∷ (a_word ∷ and_close))
    unfolding type_or
    fin_paren i z k = fin_fits body z beyond Held 0 _ (shape.Punct punct.LeftParen ∷ (a_word ∷ and_close)) (fin_next body z beyond Held _ (shape.Punct punct.LeftParen) (a_word ∷ and_close)
        (fin_inside 1 a (cast 1 a i) (standing 17 (parenthesized s.Exp)) (fin_wrapped s.Exp a (goes_on s.Exp 1) refl (in_body s.Exp 1 refl a)) z k))

    fin_sized : (i : ℕ) (z : State) → Still a z → Finishes body z beyond Held (sized inner 1 i) (shape.Key key.Sizeof ∷ (a_word ∷ []))
    fin_sized i z k = fin_fits body z beyond Held 0 _ (shape.Key key.Sizeof ∷ (a_word ∷ [])) (fin_next body z beyond Held _ (shape.Key key.Sizeof) (a_word ∷ []) (fin_operand a 1 refl i z k))

    -- what follows the token, if it is no word
    record Followed (z : State) (y : Shape) : Type 0 where
      words : List Shape
      same : (n : ℕ) → renewed n y ≡ y
      finishes : Finishes body z beyond Held (primary inner 1) (y ∷ words)

    is_prefixed : (p : Punct) → nat_eq (class_number (sign p)) (class_number (sign punct.LeftParen)) ≡ false → has (starts s.Exp) (class_number (sign p)) ≡ true → prefixed (shape.Punct p) (begun s.Exp (shape.Punct p)) ≡ true
    is_prefixed punct.LeftBracket e h = h
    is_prefixed punct.LeftParen e h = absurd (cc e)
    is_prefixed p e h = cc h

    first_sign : (p : Punct) (z : State) → has (starts s.Exp) (class_number (sign p)) ≡ true → Still a z → Followed z (shape.Punct p)
    unfolding primary
    first_sign punct.LeftParen z h k = record {
      words = a_word ∷ and_close;
      same = λ n. refl;
      finishes = fin_ask body z beyond Held _ (shape.Punct punct.LeftParen ∷ (a_word ∷ and_close)) (λ place. fin_look body z beyond Held _ (shape.Punct punct.LeftParen) (a_word ∷ and_close) (λ n. fin_paren place z k));
    }
    first_sign p z h k = record {
      words = phrase_opt (begun s.Exp (shape.Punct p));
      same = λ n. refl;
      finishes = fin_ask body z beyond Held _ (shape.Punct p ∷ phrase_opt (begun s.Exp (shape.Punct p))) (λ place. fin_look body z beyond Held _ (shape.Punct p) (phrase_opt (begun s.Exp (shape.Punct p)))
          (λ n. fin_choose body z beyond Held (has (starts s.Exp) (class_number (sign p))) (begun_by inner 1 (begun s.Exp (shape.Punct p))) Refuse (shape.Punct p ∷ phrase_opt (begun s.Exp (shape.Punct p)))
          (λ _. fin_prefixed (shape.Punct p) z (begun s.Exp (shape.Punct p)) (is_prefixed p refl h) (λ n. refl) k) (λ e. contrary (has (starts s.Exp) (class_number (sign p))) h e)));
    }

    first_key : (x : Key) (z : State) → has (starts s.Exp) (written (shape.Key x)) ≡ true → Still a z → Followed z (shape.Key x)
    unfolding primary
    first_key key.Sizeof z h k = record {
      words = a_word ∷ [];
      same = λ n. refl;
      finishes = fin_ask body z beyond Held _ (shape.Key key.Sizeof ∷ (a_word ∷ [])) (λ place. fin_look body z beyond Held _ (shape.Key key.Sizeof) (a_word ∷ []) (λ n. fin_sized place z k));
    }
    first_key _ z h k = absurd (cc h)

  -- ---- words, constants and string literals

  abbrev there : Tokens
  there = none_of (goes_on s.Exp 17)

  abbrev held : Form → Reader Listed
  held f = Bind (Pick (λ x. only (has (held_class f) x.class))) (λ _. Give nothing)

  alone_held : (f : Form) (z : State) (y : Shape) → has (held_class f) (class z y) ≡ true → Still a z → Alone z y beyond Held (held f)
  alone_held f z y h k = alone_bind z y beyond Held Held (Pick (λ x. only (has (held_class f) x.class))) (λ _. Give nothing) (alone_pick z y beyond Held (λ x. only (has (held_class f) x.class)) tt (ap only h) k) (λ _ t k. fin_give body t beyond Held nothing k)

  -- the node of a form with these parts
  alone_node : (inner : Parts) (f : Form) (i : ℕ) (z : State) (y : Shape) → Alone z y beyond Held (pieces_in inner s.Exp f Usual (pieces f)) → Alone z y beyond Held (completed inner s.Exp f i nothing (pieces f))
  unfolding completed
  alone_node inner f i z y F = alone_bind z y beyond Held Held (pieces_in inner s.Exp f Usual (pieces f)) (λ g. Ask (λ j. Give (node f i j.place (joined nothing g)))) F
      (λ g t k. fin_ask body t beyond Held (λ j. Give (node f i j.place (joined nothing g))) [] (λ place. fin_give body t beyond Held (node f i place (joined nothing g)) k))

  module _ (n : ℕ) where
    abbrev inner_parts : Parts
    inner_parts = in_place (suc n)

    standing_alone : (r : Reader Found) (z : State) (y : Shape) → Alone z y beyond Held r → Alone z y beyond Held (standing 17 r)
    standing_alone r z y F = alone_map z y beyond Held Held r (λ x. record { found = x; level = 17 }) F (λ x t k. k)

    abbrev started : ℕ → Seen → Reader Standing
    started i x = choose (is_sign punct.LeftParen x) (entered 1 i) (choose (is_class (class.Key key.Sizeof) x) (sized inner_parts 1 i) (choose (begins s.Exp x) (begun_by inner_parts 1 (begun s.Exp x.shape)) Refuse))

    alone_started : (z : State) (y : Shape) → ((place : ℕ) → Alone z y beyond Held (started place (seen z y))) → Alone z y beyond Held (primary inner_parts 1)
    unfolding primary
    alone_started z y F = alone_ask z y beyond Held (λ i. Look (started i.place)) (λ place. alone_look z y beyond Held (started place) (F place))

    alone_name : (w : Word) (z : State) → class z (shape.Word w) ≡ word → Still a z → Alone z (shape.Word w) beyond Held (whole inner_parts s.Exp (form.Exp (exp.Name w)))
    unfolding whole pieces_in
    alone_name w z e k = alone_ask z (shape.Word w) beyond Held _ (λ i. alone_node inner_parts (form.Exp (exp.Name w)) i z (shape.Word w) (alone_held (form.Exp (exp.Name w)) z (shape.Word w) (ap (has (held_class (form.Exp (exp.Name w)))) e) k))

    alone_word : (w : Word) (z : State) → class z (shape.Word w) ≡ word → Still a z → Alone z (shape.Word w) beyond Held (primary inner_parts 1)
    alone_word w z e k = alone_started z (shape.Word w) (λ place. subst (λ c. Alone z (shape.Word w) beyond Held (started place (record { shape = shape.Word w; class = c }))) (sym e)
        (standing_alone (whole inner_parts s.Exp (form.Exp (exp.Name w))) z (shape.Word w) (alone_name w z e k)))

    alone_int : (w : _) (z : State) → Still a z → Alone z (shape.Int w) beyond Held (primary inner_parts 1)
    unfolding whole pieces_in
    alone_int w z k = alone_started z (shape.Int w) (λ place. standing_alone (whole inner_parts s.Exp (form.Exp (exp.Int w))) z (shape.Int w)
        (alone_ask z (shape.Int w) beyond Held _ (λ i. alone_node inner_parts (form.Exp (exp.Int w)) i z (shape.Int w) (alone_held (form.Exp (exp.Int w)) z (shape.Int w) refl k))))

    alone_float : (w : _) (z : State) → Still a z → Alone z (shape.Float w) beyond Held (primary inner_parts 1)
    unfolding whole pieces_in
    alone_float w z k = alone_started z (shape.Float w) (λ place. standing_alone (whole inner_parts s.Exp (form.Exp (exp.Float w))) z (shape.Float w)
        (alone_ask z (shape.Float w) beyond Held _ (λ i. alone_node inner_parts (form.Exp (exp.Float w)) i z (shape.Float w) (alone_held (form.Exp (exp.Float w)) z (shape.Float w) refl k))))

    alone_char : (w : _) (z : State) → Still a z → Alone z (shape.Char w) beyond Held (primary inner_parts 1)
    unfolding whole pieces_in
    alone_char w z k = alone_started z (shape.Char w) (λ place. standing_alone (whole inner_parts s.Exp (form.Exp (exp.Char w))) z (shape.Char w)
        (alone_ask z (shape.Char w) beyond Held _ (λ i. alone_node inner_parts (form.Exp (exp.Char w)) i z (shape.Char w) (alone_held (form.Exp (exp.Char w)) z (shape.Char w) refl k))))

    abbrev texts : Repetition
    texts = Many None 1

    abbrev text : Reader Found
    text = inner_parts s.Literal 0

    fin_text : (z : State) → Still a z → Finishes body z beyond Held text (phrase s.Literal)
    unfolding in_place
    fin_text z k = fin_fewer body z (none_of []) beyond Held Held literal (phrase s.Literal) (λ x q. none_within [] (goes_on s.Exp 1) x refl q) (λ x t k. k) (fin_literal a z k)

    fin_texts : (g : Gathered) (z : State) → Still a z → Finishes body z beyond Held (others texts s.Literal text g) []
    fin_texts g z k = fin_others (Still a) beyond text (phrase s.Literal) fin_text texts s.Literal (bounded_group texts s.Literal text refl refl (firm_in_place (suc n) s.Literal 0))
        (λ z x q. quiet (goes_on_with texts (element_starts texts s.Literal)) z x (none_within (goes_on_with texts (element_starts texts s.Literal)) (goes_on s.Exp 1) x refl q)) z g k

    abbrev then_one : Gathered → Found → Reader Gathered
    then_one g x = Ask (λ j. Give (with_last g x j.place))

    abbrev rest : ℕ × Gathered → Reader Listed
    rest g = Bind (Give nothing) (λ h. Give (with_first (list_from g.0 g.1) h))

    alone_text : (w : _) (z : State) → Still a z → Alone z (shape.Str w) beyond Held text
    unfolding in_place
    alone_text w z k = alone_ask z (shape.Str w) beyond Held (λ i. Pick (λ x. literal_of x.shape i.place)) (λ place. alone_pick z (shape.Str w) beyond Held (λ x. literal_of x.shape place) (node (form.Literal w) place (place + 1) nothing) refl k)

    alone_list : (w : _) (z : State) → Still a z → Alone z (shape.Str w) beyond Held (gathered texts s.Literal text Usual)
    unfolding gathered many element_after
    alone_list w z k = alone_ask z (shape.Str w) beyond Held (λ i. Bind (gathered_by texts s.Literal text Usual i.place) (λ g. Give (i.place, g))) (λ place. alone_map z (shape.Str w) beyond Held Held (gathered_by texts s.Literal text Usual place) (λ g. (place, g))
        (alone_bind z (shape.Str w) beyond Held Held (Bind text (then_one (none_at place))) (λ g. others texts s.Literal text g)
        (alone_bind z (shape.Str w) beyond Held Held text (then_one (none_at place)) (alone_text w z k) (λ x t k. fin_ask body t beyond Held (λ j. Give (with_last (none_at place) x j.place)) [] (λ end_place. fin_give body t beyond Held (with_last (none_at place) x end_place) k)))
        (λ g t k. fin_texts g t k)) (λ g t k. k))

    alone_str : (w : _) (z : State) → Still a z → Alone z (shape.Str w) beyond Held (primary inner_parts 1)
    unfolding whole pieces_in
    alone_str w z k = alone_started z (shape.Str w) (λ place. standing_alone (whole inner_parts s.Exp (form.Exp exp.Str)) z (shape.Str w)
        (alone_ask z (shape.Str w) beyond Held _ (λ i. alone_node inner_parts (form.Exp exp.Str) i z (shape.Str w) (alone_bind z (shape.Str w) beyond Held Held (gathered texts s.Literal text Usual) rest (alone_list w z k)
        (λ g t k. fin_map body t Held beyond Held (Give nothing) (λ h. with_first (list_from g.0 g.1) h) [] (fin_give body t beyond Held nothing k) (λ h t k. k))))))

    -- ---- all of them

    climbing : ℕ → Standing → Reader Found
    climbing i y = climb s.Exp 1 i y

    fin_climbing : (i : ℕ) (y : Standing) (t : State) → Still a t → Finishes body t beyond Held (climbing i y) []
    unfolding climbing
    fin_climbing i y t k = fin_climb s.Exp 1 i (Still a) beyond (λ y z x q. exp_over 1 z y x q) t y k

    by_leaf : (z : State) (y : Shape) → Alone z y beyond Held (primary inner_parts 1) → Begun body z y beyond Held (expression inner_parts 1)
    unfolding expression climbing
    by_leaf z y F = alone_begun z y beyond Held (expression inner_parts 1) (alone_ask z y beyond Held (λ i. Bind (primary inner_parts 1) (climbing i.place)) (λ place. alone_bind z y beyond Held Held (primary inner_parts 1) (climbing place) F (λ x t k. fin_climbing place x t k)))

    by_phrase : (z : State) (y : Shape) → Followed inner_parts z y → Begun body z y beyond Held (expression inner_parts 1)
    unfolding expression climbing
    by_phrase z y F = begun_phrase body z y beyond Held (expression inner_parts 1) F.words F.same
        (fin_ask body z beyond Held (λ i. Bind (primary inner_parts 1) (climbing i.place)) (y ∷ F.words) (λ place. fin_last body z Held beyond beyond Held (primary inner_parts 1) (climbing place) (y ∷ F.words) F.finishes (λ x q. q) (λ x t k. fin_climbing place x t k)))

    a_value : (b : Bool) → has (starts s.Exp) (word_class b) ≡ true → word_class b ≡ word
    a_value true h = absurd (cc h)
    a_value false h = refl

    no_mark : (m : Mark) → has (starts s.Exp) (written (shape.Mark m)) ≡ true → ⊥
    no_mark mark.Syntax h = cc h
    no_mark _ h = cc h

    pub begun_expression : (z : State) (y : Shape) → begins s.Exp (seen z y) ≡ true → Still a z → Begun body z y beyond Held (expression inner_parts 1)
    begun_expression z (shape.Word w) h k = by_leaf z (shape.Word w) (alone_word w z (a_value (not z.kept.has_type && is_type z.entries w.0) h) k)
    begun_expression z (shape.Int w) h k = by_leaf z (shape.Int w) (alone_int w z k)
    begun_expression z (shape.Float w) h k = by_leaf z (shape.Float w) (alone_float w z k)
    begun_expression z (shape.Char w) h k = by_leaf z (shape.Char w) (alone_char w z k)
    begun_expression z (shape.Str w) h k = by_leaf z (shape.Str w) (alone_str w z k)
    begun_expression z (shape.Punct p) h k = by_phrase z (shape.Punct p) (first_sign inner_parts p z h k)
    begun_expression z (shape.Key x) h k = by_phrase z (shape.Key x) (first_key inner_parts x z h k)
    begun_expression z (shape.Mark m) h k = absurd (no_mark m h)
    begun_expression z shape.End h k = absurd (cc h)
