-- Statements can be completed.
use Rattle.std.proofs.Common.{◌≡◌, refl, ℕ, Bool, true, false, ◌&&◌, List, [], ◌∷◌, Option, Some, None, arith}
use Rattle.c_tokens.specs.declared.token.Key.{Key}
use Rattle.c_tokens.specs.declared.token.Key.TheVariants as key
use Rattle.c_tokens.specs.declared.token.Punct.{Punct}
use Rattle.c_tokens.specs.declared.token.Punct.TheVariants as punct
use Rattle.c_tokens.specs.declared.token.Shape.{Shape}
use Rattle.c_tokens.specs.declared.token.Shape.TheVariants as shape
use Rattle.c_forms.specs.declared.pieces.Piece.{Piece}
use Rattle.c_forms.specs.declared.pieces.Sort.TheVariants as s
use Rattle.c_forms.specs.declared.forms.Form.{Form}
use Rattle.c_forms.specs.declared.forms.Form.TheVariants as form
use Rattle.c_forms.specs.declared.forms.StmtForm.TheVariants as stmt
use Rattle.c_forms.specs.Measures.{pieces}
use Rattle.c_forms.specs.Tokens.{begun}
use Rattle.c_forms.specs.Sets.{goes_on}
use Rattle.c_reader.specs.States.{State, Seen, Kept, seen}
use Rattle.c_reader.specs.Readers.{Reader, Found, Refuse, Look, choose}
use Rattle.c_reader.proofs.Sets.{both}
use Rattle.c_reader.proofs.Phrases.{Tokens, Finishes, fin_fits, fin_look}
use Rattle.c_reader.proofs.Live.{Live, live_bind, live_choose, live_next}
use Rattle.c_syntax.specs.Reading.{Usual, Parts, one, deeper, called}
use Rattle.c_syntax.specs.Grammar.{body, is_sign, is_value, is_word, after_first, after_part, climb, label, id_leaf, name_leaf, word_led, worded, statement_by, statement}
use Rattle.c_alive.proofs.Kept.{Still, kept_climb}
use Rattle.c_alive.proofs.Phrased.{none_of, past, opens_if}
use Rattle.c_alive.proofs.Rows.{Ending, Able, fin_pieces, live_pieces, begun_pieces}
use Rattle.c_alive.proofs.Nodes.{fin_completed, live_completed, begun_completed}
use Rattle.c_alive.proofs.ExpTails.{live_climbing}
use Rattle.c_alive.proofs.Called.{calls}
use Rattle.c_lively.proofs.Ranks.{met, reads}
use Rattle.c_lively.proofs.Endings.{calling}
use Rattle.c_lively.proofs.Wholes.{fits, starts_so, callable, live_whole, live_rest}

-- whether the form that a token begins can be completed after it
abbrev stmt_fits : State → Shape → Option Form → Bool
stmt_fits z y (Some f) = fits (reads 2) s.Stmt f (pieces f) (past s.Stmt 0) && starts_so f z y
stmt_fits z y None = true

by_key : (z : State) (k : Key) → stmt_fits z (shape.Key k) (begun s.Stmt (shape.Key k)) ≡ true
by_key z key.Sizeof = refl
by_key z _ = refl

by_sign : (z : State) (p : Punct) → stmt_fits z (shape.Punct p) (begun s.Stmt (shape.Punct p)) ≡ true
by_sign z punct.LeftBracket = refl
by_sign z _ = refl

by_shape : (z : State) (y : Shape) → stmt_fits z y (begun s.Stmt y) ≡ true
by_shape z (shape.Key k) = by_key z k
by_shape z (shape.Punct p) = by_sign z p
by_shape z _ = refl

abbrev labelled : Form
labelled = form.Stmt stmt.Label

abbrev after_name : List Piece
after_name = after_first (pieces labelled)

abbrev express : Form
express = form.Stmt stmt.Express

abbrev pub colon_and_empty : List Shape
colon_and_empty = shape.Punct punct.Colon ∷ (shape.Punct punct.Semicolon ∷ [])

module _ (a : List Kept) where
  abbrev Held : {A : Type 0} → A → State → Type 0
  Held x t = Still a t

  abbrev beyond : Tokens
  beyond = none_of (past s.Stmt 0)

  -- ---- labels

  pub fin_label : (i : ℕ) (x : Found) (z : State) → Still a z → Finishes body z beyond Held (label i x) colon_and_empty
  fin_label i x z k = fin_fits body z beyond Held 0 (after_part called s.Stmt labelled i (deeper x)) colon_and_empty
      (fin_completed (Still a) beyond called s.Stmt labelled i (one (deeper x)) after_name z colon_and_empty (fin_pieces called s.Stmt labelled met calling (past s.Stmt 0) false Usual after_name refl a z k))

  pub live_label : (deep i : ℕ) (x : Found) (z : State) (y : Shape) → is_sign punct.Colon (seen z y) ≡ true → Still a z → Live body calls deep z y beyond Held (label i x)
  live_label deep i x z y o k = (
    begun_completed (Still a) beyond called s.Stmt labelled i (one (deeper x)) after_name z y (begun_pieces called s.Stmt labelled met met calling (past s.Stmt 0) false Usual after_name refl a z y k o),
    live_completed (Still a) beyond called s.Stmt labelled i (one (deeper x)) after_name calls 1 z y (live_pieces calls 1 called s.Stmt labelled met met calling (callable 1 (omega arith)) (past s.Stmt 0) false Usual after_name refl a z y k),
  )

  module _ (deep : ℕ) (inner : Parts) (E : Ending inner (reads 2)) (L : Able calls deep inner (reads 2)) where
    -- ---- what begins with a word

    abbrev named : ℕ → Seen → Reader Found
    named i x = climb s.Exp 1 i (record { found = name_leaf i x.shape; level = 17 })

    abbrev expressed : ℕ → Found → Reader Found
    expressed i y = after_part inner s.Stmt express i y

    live_word_led : (i : ℕ) (x : Seen) (z : State) (y : Shape) → Still a z → Live body calls deep z y beyond Held (word_led inner i x)
    live_word_led i x z y k = live_bind body calls deep z y Held Held (none_of (goes_on s.Exp 1)) beyond Held (named i x) (expressed i) (live_climbing 1 i a deep z y (record { found = name_leaf i x.shape; level = 17 }) k)
        (kept_climb s.Exp 1 i (record { found = name_leaf i x.shape; level = 17 }) a z y k)
        (record {
          tokens = shape.Punct punct.Semicolon ∷ [];
          opens = opens_if (goes_on s.Exp 1) (shape.Punct punct.Semicolon ∷ []) (past s.Stmt 0) refl;
          finishes = λ y t k. fin_completed (Still a) beyond inner s.Stmt express i (one y) (after_first (pieces express)) t (shape.Punct punct.Semicolon ∷ []) (fin_pieces inner s.Stmt express (reads 2) E (past s.Stmt 0) false Usual (after_first (pieces express)) refl a t k);
        })
        (λ y t x k. live_rest deep inner (reads 2) E L s.Stmt express (past s.Stmt 0) a refl (after_first (pieces express)) refl i (one y) t x k)

    abbrev by_colon : ℕ → Seen → Seen → Reader Found
    by_colon i x y = choose (is_sign punct.Colon y) (label i (id_leaf i x.shape)) (choose (is_value x) (word_led inner i x) Refuse)

    fin_colon : (i : ℕ) (x : Seen) (z : State) → Still a z → Finishes body z beyond Held (Look (by_colon i x)) colon_and_empty
    fin_colon i x z k = fin_look body z beyond Held (by_colon i x) (shape.Punct punct.Colon) (shape.Punct punct.Semicolon ∷ []) (λ n. fin_label i (id_leaf i x.shape) z k)

    live_worded : (i : ℕ) (x : Seen) (z : State) (y : Shape) → Still a z → Live body calls deep z y beyond Held (worded inner i x)
    unfolding worded
    live_worded i x z y k = live_next body calls deep z y beyond Held (Look (by_colon i x)) colon_and_empty (fin_colon i x z k)
        (λ y. live_choose body calls deep z y beyond Held (is_sign punct.Colon (seen z y)) (label i (id_leaf i x.shape)) (choose (is_value x) (word_led inner i x) Refuse) (λ e. live_label deep i (id_leaf i x.shape) z y e k)
        (λ _. live_choose body calls deep z y beyond Held (is_value x) (word_led inner i x) Refuse (λ _. live_word_led i x z y k) (λ _. tt)))

    -- ---- the others

    live_by : (z : State) (y : Shape) (o : Option Form) → stmt_fits z y o ≡ true → Still a z → Live body calls deep z y beyond Held (statement_by inner o)
    live_by z y (Some f) h k = let r = both (fits (reads 2) s.Stmt f (pieces f) (past s.Stmt 0)) (starts_so f z y) h in live_whole deep inner (reads 2) E L s.Stmt f (past s.Stmt 0) a r.0 z y r.1 k
    live_by z y None h k = live_whole deep inner (reads 2) E L s.Stmt express (past s.Stmt 0) a refl z y refl k

    pub live_statement : (z : State) (y : Shape) → Still a z → Live body calls deep z y beyond Held (statement inner)
    unfolding statement
    live_statement z y k = λ place. live_choose body calls deep z y beyond Held (is_word (seen z y)) (worded inner place (seen z y)) (statement_by inner (begun s.Stmt y)) (λ _. live_worded place (seen z y) z y k) (λ _. live_by z y (begun s.Stmt y) (by_shape z y) k)
