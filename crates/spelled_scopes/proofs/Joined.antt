-- Lists of trees side by side, and what reading one after the other does.
use Rattle.std.proofs.Common.{◌≡◌, refl, ap, sym, subst, ◌∙◌, inl, inr, ℕ, zero, suc, List, [], ◌∷◌, ◌++◌, append_assoc, Option, Some, None}
use Rattle.c_tokens.specs.declared.token.Shape.{Shape}
use Rattle.c_tokens.specs.declared.class.Class.{Class}
use Rattle.c_tokens.specs.declared.span.Span.{Span}
use Rattle.c_forms.specs.declared.pieces.Sort.{Sort}
use Rattle.c_forms.specs.declared.pieces.Repetition.{Repetition}
use Rattle.c_forms.specs.declared.pieces.Repetition.TheVariants.{Optional, Greedy, Due, All, Any, Many, Spliced, Ended}
use Rattle.c_forms.specs.Forests.{Plain, node}
use Rattle.c_reader.specs.States.{State}
use Rattle.c_reader.specs.Tokens.{Spot, step}
use Rattle.c_syntax.specs.Reading.{Before, the_list}
use Rattle.c_syntax.specs.Spells.{Separated, Chain, Absent, Once, IsGroup}
use Rattle.scope_meanings.specs.declared.meaning.NameUse.{NameUse}
use Rattle.scopes.specs.declared.event.Event.{Event}
use Rattle.scopes.specs.Events.{events_of, words_of}
use Rattle.scopes.specs.Settling.{Scoped, settled}
use Rattle.spelled_scopes.specs.Meant.{frames, after_words, Runs, events_in, words_in, Goes}
use Rattle.spelled_scopes.proofs.Frames.{settled_on, words_on}

-- ---- events

pub append_nil : (xs : List Event) → (xs ++ []) ≡ xs
append_nil [] = refl
append_nil (a ∷ xs) = ap (λ l. a ∷ l) (append_nil xs)

pub events_joined : (u : NameUse) (ts vs : List Plain) → events_in u (ts ++ vs) ≡ (events_in u ts ++ events_in u vs)
events_joined u [] vs = refl
events_joined u (t ∷ ts) vs = ap (λ l. events_of u t ++ l) (events_joined u ts vs) ∙ sym (append_assoc (events_of u t) (events_in u ts) (events_in u vs))

pub words_joined : (u : NameUse) (ts vs : List Plain) → words_in u (ts ++ vs) ≡ (words_in u ts ++ words_in u vs)
words_joined u [] vs = refl
words_joined u (t ∷ ts) vs = ap (λ l. words_of u t ++ l) (words_joined u ts vs) ∙ sym (append_assoc (words_of u t) (words_in u ts) (words_in u vs))

-- ---- runs

pub still : (s u : State) → s ≡ u → Runs [] [] s u
still s u e = record { scoped = ap (λ (s : State). Scoped (frames s.entries)) e; declared = ap (λ (s : State). s.entries) (sym e); aside = ap (λ (s : State). s.aside) (sym e) }

pub runs_on : (xs bs vs ws : List Event) (s m u : State) → Runs xs vs s m → Runs bs ws m u → Runs (xs ++ bs) (vs ++ ws) s u
runs_on xs bs vs ws s m u p q = record {
  scoped = settled_on xs bs (frames s.entries) (frames m.entries) p.scoped ∙ q.scoped;
  declared = q.declared ∙ ap (after_words ws) p.declared ∙ sym (words_on vs ws s.entries);
  aside = q.aside ∙ p.aside;
}

pub as_runs : (xs bs vs ws : List Event) (s u : State) → xs ≡ bs → vs ≡ ws → Runs xs vs s u → Runs bs ws s u
as_runs xs bs vs ws s u e f r = subst (λ ws. Runs bs ws s u) f (subst (λ xs. Runs xs vs s u) e r)

pub goes_on : (u : NameUse) (ts vs : List Plain) (s m z : State) → Goes u ts s m → Goes u vs m z → Goes u (ts ++ vs) s z
goes_on u ts vs s m z p q = as_runs _ _ _ _ s z (sym (events_joined u ts vs)) (sym (words_joined u ts vs)) (runs_on (events_in u ts) (events_in u vs) (words_in u ts) (words_in u vs) s m z p q)

-- events of a node are those of its parts
pub over_parts : (xs vs : List Event) (s u : State) → Runs xs vs s u → Runs ((xs ++ []) ++ []) ((vs ++ []) ++ []) s u
over_parts xs vs s u r = as_runs _ _ _ _ s u (sym (append_nil xs) ∙ sym (append_nil (xs ++ []))) (sym (append_nil vs) ∙ sym (append_nil (vs ++ []))) r

-- of a list
pub listed : (u : NameUse) (sp : Span) (ts : List Plain) (s z : State) → Goes u ts s z → Goes u (node the_list sp ts ∷ []) s z
listed u sp ts s z r = over_parts (events_in u ts) (words_in u ts) s z r

-- what does not matter to the scopes may differ
pub moved : (xs vs : List Event) (s r u z : State) → s.entries ≡ r.entries → s.aside ≡ r.aside → u.entries ≡ z.entries → u.aside ≡ z.aside → Runs xs vs s u → Runs xs vs r z
moved xs vs s r u z a b c d g = record {
  scoped = ap (λ es. settled xs (frames es)) (sym a) ∙ g.scoped ∙ ap (λ es. Scoped (frames es)) c;
  declared = sym c ∙ g.declared ∙ ap (after_words vs) a;
  aside = sym d ∙ g.aside ∙ b;
}

pub state_at : (i j : Spot) → i ≡ j → i.state ≡ j.state
state_at i j e = ap (λ (i : Spot). i.state) e

-- ---- groups, for whatever holds of no trees and of one list after another

between : (w : List Shape) (separator : Option Class) (i j : Spot) → Separated w separator i j → i.state ≡ j.state
between w None i j p = state_at i j p
between w (Some c) i j p = state_at (step i) j p.1

module _ (R : List Plain → State → State → Type 0) (none : (s : State) → R [] s s) (join : (ts vs : List Plain) (s m u : State) → R ts s m → R vs m u → R (ts ++ vs) s u)
    (w : List Shape) (one : Plain → Spot → Spot → Type 0) (single : (t : Plain) (i j : Spot) → one t i j → R (t ∷ []) i.state j.state) where
  pub chained : (separator : Option Class) (n : ℕ) (ts : List Plain) (i j : Spot) → Chain one w separator n ts i j → R ts i.state j.state
  chained separator zero ts i j c = subst (λ ts. R ts i.state j.state) (sym c.1.0) (single c.0 i j c.1.1)
  chained separator (suc n) ts i j c =
      let front : R c.before i.state c.next.state = subst (λ s. R c.before i.state s) (between w separator c.place c.next c.between) (chained separator n c.before i c.place c.first) in
      subst (λ ts. R ts i.state j.state) (sym c.value) (join c.before (c.last ∷ []) i.state c.next.state j.state front (single c.last c.next j c.second))

  absent : (ts : List Plain) (i j : Spot) → Absent ts i j → R ts i.state j.state
  absent ts i j a = subst (λ ts. R ts i.state j.state) (sym a.0) (subst (λ (j : Spot). R [] i.state j.state) a.1 (none i.state))

  once : (ts : List Plain) (i j : Spot) → Once one ts i j → R ts i.state j.state
  once ts i j o = subst (λ ts. R ts i.state j.state) (sym o.1.0) (single o.0 i j o.1.1)

  pub grouped : (r : Repetition) (due : Sort) (before : Before) (ts : List Plain) (i j : Spot) → IsGroup r due one before w ts i j → R ts i.state j.state
  grouped Optional due before ts i j (inl a) = absent ts i j a
  grouped Optional due before ts i j (inr o) = once ts i j o
  grouped Greedy due before ts i j (inl a) = absent ts i j a.1
  grouped Greedy due before ts i j (inr o) = once ts i j o
  grouped Due due before ts i j (inl a) = absent ts i j a.1
  grouped Due due before ts i j (inr o) = once ts i j o
  grouped All due before ts i j g = chained None g.0.0 ts i j g.0.1
  grouped Any due before ts i j (inl a, g) = absent ts i j a.1
  grouped Any due before ts i j (inr c, g) = chained None c.0 ts i j c.1
  grouped (Many separator least) due before ts i j (inl a) = absent ts i j a.1
  grouped (Many separator least) due before ts i j (inr c) = chained separator c.0 ts i j c.1
  grouped (Spliced separator least) due before ts i j (inl a) = absent ts i j a.1
  grouped (Spliced separator least) due before ts i j (inr c) = chained separator c.0 ts i j c.1
  grouped (Ended separator end_token) due before ts i j g = chained (Some separator) g.0 ts i j g.1
