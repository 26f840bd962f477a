-- Items that were read, one by one.
use Rattle.std.proofs.Common.{◌≡◌, ◌≢◌, refl, ap, sym, subst, ◌∙◌, ℕ, ◌+◌, ◌<◌, ◌≤◌, List, [], ◌∷◌, ◌++◌, append_assoc, length, map, Bool, true, false, IsTrue, inl, inr, Result, Ok, Err, arith}
use Rattle.std.specs.Prelude.{if◌then◌else◌}
use Rattle.std.proofs.lemmas.Bool.{cases_lt}
use Rattle.std.proofs.Math.ListN.{get_or-map}
use Rattle.std.proofs.lemmas.List.{append-nil, get_or_past}
use Rattle.c_tokens.specs.declared.token.Token.{Token}
use Rattle.c_tokens.specs.declared.token.Shape.TheVariants.{End}
use Rattle.c_tokens.specs.Tokens.{token_at as a_token}
use Rattle.c_forms.specs.Forests.{Plain}
use Rattle.c_reader.specs.Tokens.{spot}
use Rattle.c_reader.specs.declared.refusal.Refusal.{Refusal}
use Rattle.c_reader.specs.declared.refusal.Refusal.TheVariants as refusal
use Rattle.scope_tables.specs.Frames.{Frame}
use Rattle.scopes.specs.Events.{in_order, events}
use Rattle.scopes.specs.Settling.{Scoped, settled}
use Rattle.spelled_scopes.proofs.Frames.{settled_on}
use Rattle.draft_trees.specs.Placing.{placed}
use Rattle.table_parser.specs.Cursors.{shape_of}
use Rattle.printed_items.proofs.Steps.{item_steps, item_some}
use Rattle.item_parser.specs.Answers.{IsNext, Gives}
use Rattle.item_parser.specs.Readings.{Reading, start, IsFirstDead, IsTooDeep}
use Rattle.expander.specs.declared.stop.Stop.{Stop}
use Rattle.expander.specs.declared.stop.Stop.TheVariants.{Syntax, TooDeep, NotBuilt, Memory}
use Rattle.expander.specs.Meaning.{limit, shape_at, span_at, is_definition, IsItem, Read, IsTranslation, HasNoItems, IsStop, HasNoItem, IsTaken, IsRefusal, stop_at}

-- items go on after those that were read
pub record Goes (w : List Token) (written others : List Plain) (at : ℕ) (scopes : List Frame) (end : ℕ) (after : List Frame) : Type 0 where
  pub rest : List Plain
  pub is : others ≡ written ++ rest
  pub read : Read w scopes rest at end after

-- what was read so far, with which the items of each whole source begin
pub record Progress (w : List Token) (scopes : List Frame) (written : List Plain) (at : ℕ) : Type 0 where
  pub read : Read w ([] ∷ []) written 0 at scopes
  pub only : (others : List Plain) (end : ℕ) (after : List Frame) → Read w ([] ∷ []) others 0 end after → shape_at w end ≡ End → Goes w written others at scopes end after

pub begun : (w : List Token) → Progress w ([] ∷ []) [] 0
unfolding Read
begun w = record { read = (refl, refl); only = λ others end after R e. record { rest = others; is = refl; read = R } }

-- ---- one more item

read_more : (w : List Token) (s : List Frame) (ts : List Plain) (t : Plain) (i j k : ℕ) (hs gs : List Frame) → Read w s ts i j hs → IsItem w hs j t k gs → Read w s (ts ++ t ∷ []) i k gs
unfolding Read
read_more w s [] t i j k hs gs R S = (k, (gs, (subst (λ n. IsItem w s n t k gs) (sym R.0) (subst (λ s. IsItem w s j t k gs) (sym R.1) S), (refl, refl))))
read_more w s (u ∷ us) t i j k hs gs R S = (R.0, (R.1.0, (R.1.1.0, read_more w R.1.0 us t R.0 j k hs gs R.1.1.1 S)))

same_scopes : (a b : List Frame) → Scoped a ≡ Scoped b → a ≡ b
same_scopes a b e = cc e

module _ (w : List Token) (scopes : List Frame) (written : List Plain) (at : ℕ) (new : List Frame) (new_written : List Plain) (end : ℕ)
    (more : shape_at w at ≢ End) (T : IsTaken w scopes written at new new_written end) where
  rest_goes : (others : List Plain) (last : ℕ) (after : List Frame) (rest : List Plain) → others ≡ written ++ rest → Read w scopes rest at last after → shape_at w last ≡ End → Goes w new_written others end new last after
  unfolding Read
  rest_goes others last after [] is R e = absurd (more (ap (shape_at w) R.0 ∙ e))
  rest_goes others last after (u ∷ us) is R e =
      let same = T.only u R.0 R.1.0 R.1.1.0 in
      let scopes_same : R.1.0 ≡ new = same_scopes R.1.0 new (sym R.1.1.0.settles ∙ ap (λ t. settled (events t) scopes) same.0 ∙ T.is_item.settles) in
      record {
        rest = us;
        is = is ∙ ap (λ t. written ++ t ∷ us) same.0 ∙ sym (append_assoc written (T.item ∷ []) us) ∙ ap (λ ts. ts ++ us) (sym T.written_is);
        read = subst (λ s. Read w s us end last after) scopes_same (subst (λ n. Read w R.1.0 us n last after) same.1 R.1.1.1);
      }

  pub taken : Progress w scopes written at → Progress w new new_written end
  taken P = record {
    read = subst (λ ts. Read w ([] ∷ []) ts 0 end new) (sym T.written_is) (read_more w ([] ∷ []) written T.item 0 at end scopes new P.read T.is_item);
    only = λ others last after R e. let G = P.only others last after R e in rest_goes others last after G.rest G.is G.read e;
  }

  -- an item takes a token
  pub nearer : at < end
  nearer = let R = T.is_item.reading in item_steps limit (map shape_of w) 0 T.is_item.read (start scopes at) (spot end R.after) R.spelled

-- ---- the end

module _ (w : List Token) (scopes : List Frame) (written : List Plain) (at : ℕ) (P : Progress w scopes written at) where
  at_end : (others rest : List Plain) (last : ℕ) (after : List Frame) → others ≡ written ++ rest → Read w scopes rest at last after → ((t : Plain) (end : ℕ) (after : List Frame) → IsItem w scopes at t end after → ⊥) → others ≡ written
  unfolding Read
  at_end others [] last after is R none = is ∙ append-nil written
  at_end others (u ∷ us) last after is R none = absurd (none u R.0 R.1.0 R.1.1.0)

  -- at the end of the source no item begins
  none_at_end : shape_at w at ≡ End → HasNoItem w scopes at
  none_at_end e t end after I = let R = I.reading in
      item_some limit (map shape_of w) 0 I.read (start scopes at) (spot end R.after) R.spelled (get_or-map shape_of w at (a_token End 0 0) ∙ e)

  pub finished : shape_at w at ≡ End → IsTranslation w written
  finished e = record {
    source = record { end = at; after = scopes; read = P.read; ends = e };
    only = λ others S. let G = P.only others S.end S.after S.read S.ends in at_end others G.rest S.end S.after G.is G.read (none_at_end e);
  }

  none_goes : shape_at w at ≢ End → HasNoItem w scopes at → (rest : List Plain) (last : ℕ) (after : List Frame) → Read w scopes rest at last after → shape_at w last ≡ End → ⊥
  unfolding Read
  none_goes more free [] last after R e = more (ap (shape_at w) R.0 ∙ e)
  none_goes more free (u ∷ us) last after R e = free u R.0 R.1.0 R.1.1.0

  none : shape_at w at ≢ End → HasNoItem w scopes at → HasNoItems w
  none more free others S = let G = P.only others S.end S.after S.read S.ends in none_goes more free G.rest S.end S.after G.read S.ends

  pub refused : (stop : Stop) → shape_at w at ≢ End → IsRefusal w scopes at stop → IsStop w stop
  refused (Syntax span) more R = (record { items = written; at = at; scopes = scopes; read = P.read; more = more; refused = R.0 }, none more R.1)
  refused (TooDeep span) more R = (record { items = written; at = at; scopes = scopes; read = P.read; more = more; refused = R.0 }, none more R.1)
  refused (NotBuilt span) more R = (record { items = written; at = at; scopes = scopes; read = P.read; more = more; refused = R.0 }, none more R.1)
  refused Memory more R = tt

-- the events of items that were read hold one after the other
pub all_settled : (w : List Token) (fs : List Frame) (ts : List Plain) (i j : ℕ) (gs : List Frame) → Read w fs ts i j gs → settled (in_order (map events ts)) fs ≡ Scoped gs
unfolding Read
all_settled w fs [] i j gs R = ap Scoped R.1
all_settled w fs (t ∷ ts) i j gs R = settled_on (events t) (in_order (map events ts)) fs R.1.0 R.1.1.0.settles ∙ all_settled w R.1.0 ts R.0 j gs R.1.1.1

-- ---- parts of the code

-- what is no end is within the tokens
pub within : (w : List Token) (at : ℕ) → shape_at w at ≢ End → at < length w
within w at more = elim (cases_lt at (length w)) [
  | inl less ↦ less
  | inr past ↦ absurd (more (ap (λ t. t.shape) (get_or_past w at (a_token End 0 0) past)))
]

pub not_true : (b : Bool) (P : Type 0) → b ≡ false → (P → IsTrue b) → P → ⊥
not_true true P e h p = absurd cc
not_true false P e h p = absurd (cc (h p))

-- ---- what the reader answers

module _ (w : List Token) (scopes : List Frame) (at : ℕ) where
  pub next_item : (t : Plain) (end : ℕ) (new : List Frame) → IsNext w scopes at (t, end) → settled (events t) scopes ≡ Scoped new → IsItem w scopes at t end new
  next_item t end new N S = record { read = N.item; reading = N.reading; is_placed = N.is_placed; settles = S }

  pub only_one : (t : Plain) (end : ℕ) → ((depth : ℕ) (item : Plain) (place : ℕ) → depth ≤ limit → Reading depth scopes (map shape_of w) at item place → Gives {A = Plain × ℕ} (placed w item, place) (Ok (t, end)))
      → (u : Plain) (place : ℕ) (after : List Frame) → IsItem w scopes at u place after → (u ≡ t) × (place ≡ end)
  only_one t end complete u place after I =
      let G = complete limit I.read place (omega arith) I.reading in
      (I.is_placed ∙ sym (ap (λ p. p.0) G), sym (ap (λ p. p.1) G))

  module _ (e : Refusal) (complete : (depth : ℕ) (item : Plain) (place : ℕ) → depth ≤ limit → Reading depth scopes (map shape_of w) at item place → e ≡ refusal.Memory) where
    none_there : (e ≡ refusal.Memory → ⊥) → HasNoItem w scopes at
    none_there other t end after I = other (complete limit I.read end (omega arith) I.reading)

  abbrev failed : Refusal → Result (Plain × ℕ) Refusal
  failed e = Err e

  by_definition : (k : ℕ) (b : Bool) → is_definition (shape_at w at) ≡ b → IsFirstDead scopes (map shape_of w) at k → HasNoItem w scopes at → IsRefusal w scopes at (if b then NotBuilt (span_at w at) else Syntax (span_at w k))
  by_definition k true e D none = ((e, refl), none)
  by_definition k false e D none = ((k, (D, (refl, e))), none)

  refused_so : (e : Refusal) → ((depth : ℕ) (item : Plain) (place : ℕ) → depth ≤ limit → Reading depth scopes (map shape_of w) at item place → e ≡ refusal.Memory)
      → ((k : ℕ) → failed e ≡ failed (refusal.Syntax k) → IsFirstDead scopes (map shape_of w) at k) → ((k : ℕ) → failed e ≡ failed (refusal.TooDeep k) → IsTooDeep limit scopes (map shape_of w) at k)
      → IsRefusal w scopes at (stop_at w at e)
  refused_so (refusal.Syntax k) complete dead deep = by_definition k (is_definition (shape_at w at)) refl (dead k refl) (none_there (refusal.Syntax k) complete (λ m. absurd (cc m)))
  refused_so (refusal.TooDeep k) complete dead deep = ((k, (deep k refl, refl)), none_there (refusal.TooDeep k) complete (λ m. absurd (cc m)))
  refused_so refusal.Memory complete dead deep = tt

  pub as_stop : (e : Refusal) (stop : Stop) → stop ≡ stop_at w at e → ((depth : ℕ) (item : Plain) (place : ℕ) → depth ≤ limit → Reading depth scopes (map shape_of w) at item place → e ≡ refusal.Memory)
      → ((k : ℕ) → failed e ≡ failed (refusal.Syntax k) → IsFirstDead scopes (map shape_of w) at k) → ((k : ℕ) → failed e ≡ failed (refusal.TooDeep k) → IsTooDeep limit scopes (map shape_of w) at k)
      → IsRefusal w scopes at stop
  as_stop e stop is complete dead deep = subst (IsRefusal w scopes at) (sym is) (refused_so e complete dead deep)

pub so_true : (b : Bool) (P : Type 0) → b ≡ true → (IsTrue b → P) → P
so_true true P e h = h refl
so_true false P e h = absurd (cc e)
