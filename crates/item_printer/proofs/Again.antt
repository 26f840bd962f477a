-- A text that has the tokens of items is read as these.
use Rattle.std.proofs.Common.{◌≡◌, ◌≤◌, ap, sym, subst, ◌∙◌, ℕ, ◌*◌, List, [], ◌∷◌, length}
use Rattle.std.proofs.lemmas.List.{length-map}
use Rattle.std.specs.Prelude.{map, flat_map}
use Rattle.c_tokens.specs.declared.token.Shape.TheVariants as shape
use Rattle.c_tokens.specs.declared.token.Token.{Token}
use Rattle.c_forms.specs.Forests.{Plain, forest}
use Rattle.c_reader.specs.Tokens.{spot}
use Rattle.c_layout.specs.Spelled.{tokens}
use Rattle.c_trees.specs.Counts.{high}
use Rattle.scope_tables.specs.Frames.{Frame}
use Rattle.scopes.specs.Events.{in_order, events}
use Rattle.scopes.specs.Settling.{Scoped, settled}
use Rattle.text_tokens.specs.Items.{AreWrittenItems}
use Rattle.text_tokens.specs.Written.{HasTokens}
use Rattle.printed_items.specs.Respelled.{file_start, AreItems, AreRespelled}
use Rattle.printed_items.proofs.Sources.{longer, source_respelled}
use Rattle.item_printer.specs.ReadAgain.{IsReadAgain}

are_items : (names : List (List ℕ)) (ts : List Plain) → AreWrittenItems names ts → AreItems ts
are_items names [] h = tt
are_items names (t ∷ ts) h = (record { stands = h.0.item; valid = h.0.valid; pure = h.0.pure }, are_items names ts h.1)

pub read_again : (names : List (List ℕ)) (bytes : List ℕ) (depth : ℕ) (ts : List Plain) (after : List Frame) → AreWrittenItems names ts → 2 * high (forest ts) ≤ depth → settled (in_order (map events ts)) ([] ∷ []) ≡ Scoped after → HasTokens names bytes (flat_map tokens ts) → IsReadAgain names bytes depth ts after
read_again names bytes depth ts after h b e T = record {
  tokens = T.tokens;
  «end» = length (flat_map tokens ts);
  lexed = T.lexed;
  before_end = sym (length-map T.tokens (λ (t : Token). t.shape)) ∙ ap length T.same ∙ longer (flat_map tokens ts) shape.End;
  spelled = subst (λ w. AreRespelled depth w ts (spot 0 file_start) (length (flat_map tokens ts)) after) (sym T.same) (source_respelled depth ts (shape.End ∷ []) after (are_items names ts h) b e);
}
