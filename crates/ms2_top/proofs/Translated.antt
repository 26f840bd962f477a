-- What comes of a source, from what its parts answer.
use Rattle.std.proofs.Common.{◌≡◌, refl, ap, sym, subst, ◌∙◌, ◌<◌, IfOk, ℕ, List, [], ◌∷◌, flat_map, length, Result, Ok, Err}
use Rattle.c_tokens.specs.declared.token.Token.{Token}
use Rattle.c_tokens.specs.declared.lexical.Dialect.TheVariants.{C90}
use Rattle.c_tokens.specs.declared.memory.Memory.{Memory as Gone}
use Rattle.c_tokens.specs.Tokens.{Bad, tokens_of}
use Rattle.c_forms.specs.Forests.{Plain}
use Rattle.c_layout.specs.Layout.{layout}
use Rattle.text_tokens.specs.Items.{AreWrittenItems}
use Rattle.expander.proofs.Progress.{all_settled}
use Rattle.ms2_top.proofs.Again.{all_written, twice_low}
use Rattle.c_text.specs.Text.{text as text_of_marks}
use Rattle.expander.specs.declared.stop.Stop.{Stop}
use Rattle.expander.specs.declared.stop.Stop.TheVariants.{Syntax, TooDeep, NotBuilt, Memory}
use Rattle.expander.specs.Meaning.{IsSource, IsStop, IsTranslation, HasNoItems}
use Rattle.ms2_top.specs.declared.source.Outcome.{Outcome}
use Rattle.ms2_top.specs.declared.source.Outcome.TheVariants.{Text, Lex, Stopped, TextTooLarge}
use Rattle.ms2_top.specs.Outcomes.{IsOutcome, texts_of, written, most_text_bytes, IsSourceOf, IsOnly, IsTextOf, HasTooMuch, HasNoReading, IsStopOf, IsPrintedText, IsPrinted}

same_tokens : (o : Result (List Token) Bad) (v w : List Token) → o ≡ Ok v → o ≡ Ok w → v ≡ w
same_tokens o v w e h = let g : ◌≡◌ {A = Result (List Token) Bad} (Ok v) (Ok w) = sym e ∙ h in cc g

module _ (bytes : List ℕ) (w : List Token) (lexed : tokens_of C90 (texts_of bytes) bytes ≡ Ok w) where
  source_of : (items : List Plain) → IsSourceOf bytes items → IsSource w items
  source_of items S = subst (λ v. IsSource v items) (same_tokens _ S.tokens w S.lexed lexed) S.read

  is_only : (items : List Plain) → IsTranslation w items → IsOnly bytes items
  is_only items T = record {
    source = record { tokens = w; lexed = lexed; read = T.source };
    only = λ others S. T.only others (source_of others S);
  }

  no_reading : HasNoItems w → HasNoReading bytes
  no_reading none items S = none items (source_of items S)

  is_stop : (stop : Stop) → (stop ≡ Memory → ⊥) → IsStop w stop → IsStopOf bytes stop
  is_stop (Syntax span) other S = record { tokens = w; lexed = lexed; stopped = S; none = no_reading S.1 }
  is_stop (TooDeep span) other S = record { tokens = w; lexed = lexed; stopped = S; none = no_reading S.1 }
  is_stop (NotBuilt span) other S = record { tokens = w; lexed = lexed; stopped = S; none = no_reading S.1 }
  is_stop Memory other S = absurd (other refl)

-- ---- over a table that is that of the source's texts

module _ (bytes : List ℕ) (names : List (List ℕ)) (table : names ≡ texts_of bytes) (w : List Token) (lexed : tokens_of C90 names bytes ≡ Ok w) where
  lexed_so : tokens_of C90 (texts_of bytes) bytes ≡ Ok w
  lexed_so = subst (λ n. tokens_of C90 n bytes ≡ Ok w) table lexed

  written_so : (items : List Plain) → text_of_marks names (flat_map layout items) ≡ written bytes items
  written_so items = ap (λ n. text_of_marks n (flat_map layout items)) table

  is_text : (items : List Plain) (text : List ℕ) → IsTranslation w items → IsPrintedText names items text → IsTextOf bytes text
  is_text items text T P =
      let Q : IsPrintedText (texts_of bytes) items text = subst (λ n. IsPrintedText n items text) table P in
      let R = T.source.read in
      let plain : AreWrittenItems (texts_of bytes) items = all_written bytes w lexed_so ([] ∷ []) items 0 T.source.end T.source.after R in
      record {
        items = items;
        reading = is_only bytes w lexed_so items T;
        value = Q.value;
        within = Q.within;
        plain = plain;
        tokens = Q.tokens plain;
        after = T.source.after;
        again = Q.again plain 2000 T.source.after (twice_low w ([] ∷ []) items 0 T.source.end T.source.after R) (all_settled w ([] ∷ []) items 0 T.source.end T.source.after R);
      }

  has_too_much : (items : List Plain) → IsTranslation w items → most_text_bytes < length (text_of_marks names (flat_map layout items)) → HasTooMuch bytes
  has_too_much items T large = record { items = items; reading = is_only bytes w lexed_so items T; large = subst (λ t. most_text_bytes < length t) (written_so items) large }

  as_printed : (items : List Plain) → IsTranslation w items → (found : Outcome) → IsPrinted names items found → IsOutcome bytes found
  as_printed items T (Text text) P = is_text items text T P
  as_printed items T TextTooLarge P = has_too_much items T P
  as_printed items T (Lex at cause) P = absurd P
  as_printed items T (Stopped stop) P = absurd P

  pub printed_outcome : (items : List Plain) → IsTranslation w items → (o : Result Outcome Gone) → IfOk o (IsPrinted names items) → IfOk o (IsOutcome bytes)
  printed_outcome items T (Ok found) P = as_printed items T found P
  printed_outcome items T (Err e) P = tt

  pub is_stop_there : (stop : Stop) → (stop ≡ Memory → ⊥) → IsStop w stop → IsStopOf bytes stop
  is_stop_there stop other S = is_stop bytes w lexed_so stop other S

-- an outcome that a stop gives
abbrev Gives : List ℕ → Stop → Result Outcome Gone → Type 0
Gives bytes stop o = IfOk o (λ found. (found ≡ Stopped stop) × (stop ≡ Memory → ⊥)) → ((stop ≡ Memory → ⊥) → IsStopOf bytes stop) → IfOk o (IsOutcome bytes)

pub as_outcome : (bytes : List ℕ) (stop : Stop) (o : Result Outcome Gone) → Gives bytes stop o
as_outcome bytes stop (Ok found) h s = subst (IsOutcome bytes) (sym h.0) (s h.1)
as_outcome bytes stop (Err e) h s = tt
