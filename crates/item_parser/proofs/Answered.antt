-- What the answers of the reader of items say of readings.
use Rattle.std.proofs.Common.{◌≡◌, ◌≢◌, ◌≤◌, ◌<◌, length, refl, sym, ap, subst, ◌∙◌, ℕ, true, List, Ok, Err, Result, IfOk, IfErr, map, arith}
use Rattle.c_tokens.specs.declared.token.Shape.{Shape}
use Rattle.c_tokens.specs.declared.token.Token.{Token}
use Rattle.c_forms.specs.declared.pieces.Sort.TheVariants as sort
use Rattle.c_forms.specs.Forests.{Plain}
use Rattle.c_forms.specs.Places.{stands}
use Rattle.scope_tables.specs.Frames.{Frame}
use Rattle.c_reader.specs.declared.refusal.Refusal.{Refusal}
use Rattle.c_reader.specs.declared.refusal.Refusal.TheVariants.{Memory, Syntax, TooDeep}
use Rattle.c_reader.specs.Tokens.{spot}
use Rattle.c_reader.specs.Laws.{from, Completion, IsRead}
use Rattle.c_reader.specs.Readers.{Input, Outcome, Found, read}
use Rattle.c_reader.proofs.Finished.{dead, too_deep}
use Rattle.c_syntax.specs.Grammar.{body, item_reader}
use Rattle.c_syntax.specs.Spells.{Spells}
use Rattle.c_syntax.proofs.Sound.{sound}
use Rattle.c_spelled.proofs.Complete.{complete_at}
use Rattle.spelled_trees.proofs.Low.{spelled_low}
use Rattle.spelled_trees.proofs.Trees.{telling, spelled_item}
use Rattle.c_alive.proofs.Tame.{bodies, tame_item}
use Rattle.c_lively.proofs.Plain.{item_first_dead, item_only_deep}
use Rattle.draft_trees.specs.Placing.{placed}
use Rattle.draft_trees.specs.Right.{IsRight}
use Rattle.item_parser.specs.Answers.{IsNext, Gives, Settles, answer_of}
use Rattle.item_parser.proofs.Settled.{settles}
use Rattle.table_parser.specs.Cursors.{shape_of}
use Rattle.item_parser.specs.Readings.{start, Reading, Dead, DeepDead, Live, IsFirstDead, IsTooDeep}

module _ (frames : List Frame) (w : List Shape) (at : ℕ) where
  spelled_at : (d : ℕ) (v : List Shape) (x : Found) (p : Input) → read body d item_reader (from v (start frames at)) ≡ Ok (x, p) → Reading d frames v at x.tree p.at.place
  spelled_at d v x p e = let S = sound d v sort.Item 0 (start frames at) x p refl e in
      record { after = p.at.state; spelled = subst (Spells d v sort.Item 0 x.tree (start frames at)) (ap (λ q. q.at) (sym S.placed)) (S.spelled d S.high) }

  pub is_spelled : (x : Found) (p : Input) → answer_of frames w at ≡ Ok (x, p) → Reading 1000 frames w at x.tree p.at.place
  is_spelled x p e = spelled_at 1000 w x p e

  is_live : (k : ℕ) → Completion body item_reader (start frames at) w k → Live frames w at k
  is_live k C = record {
    others = C.source;
    agrees = C.agrees;
    depth = C.is_read.levels;
    item = C.is_read.answer.tree;
    «end» = C.is_read.after.place;
    reading = spelled_at C.is_read.levels C.source C.is_read.answer (from C.source C.is_read.after) C.is_read.reads;
  }

  pub is_right : (t : Plain) (end : ℕ) → Reading 1000 frames w at t end → IsRight t
  is_right t end R = record {
    valid = (spelled_item 1000 w 0 t (start frames at) (spot end R.after) R.spelled (record { untyped = refl; unsettled = refl; nameless = refl })).0;
    low = spelled_low 1000 w sort.Item 0 t (start frames at) (spot end R.after) R.spelled;
  }

  pub is_item : (t : Plain) (end : ℕ) → Reading 1000 frames w at t end → stands t.form sort.Item ≡ true
  is_item t end R = (telling 1000 w).stand sort.Item 0 t (start frames at) (spot end R.after) R.spelled

  is_read : (d : ℕ) (v : List Shape) (depth : ℕ) (t : Plain) (end : ℕ) → depth ≤ d → Reading depth frames v at t end → IsRead (λ e. e ≡ d) body item_reader (start frames at) v
  is_read d v depth t end le R = let G = complete_at depth d v le t (start frames at) (spot end R.after) R.spelled in
      record { levels = d; allowed = refl; answer = record { tree = t; height = G.height }; after = spot end R.after; reads = G.reads }

  pub is_dead : (k : ℕ) → answer_of frames w at ≡ Err (Syntax k) → Dead frames w at k
  is_dead k e v a depth t end R = let G = is_read depth v depth t end (omega arith) R in
      dead body bodies item_reader tame_item (start frames at) 1000 w k e v a (record { levels = G.levels; allowed = tt; answer = G.answer; after = G.after; reads = G.reads })

  pub is_deep_dead : (k : ℕ) → answer_of frames w at ≡ Err (TooDeep k) → DeepDead 1000 frames w at k
  is_deep_dead k e v a depth t end le R = let G = is_read 1000 v depth t end le R in
      too_deep body bodies item_reader tame_item (start frames at) 1000 w k e v a (record { levels = 1000; allowed = omega arith; answer = G.answer; after = G.after; reads = subst (λ d. read body d item_reader (from v (start frames at)) ≡ Ok (G.answer, from v G.after)) G.allowed G.reads })

  pub is_first_dead : (k : ℕ) → answer_of frames w at ≡ Err (Syntax k) → IsFirstDead frames w at k
  is_first_dead k e = let F = item_first_dead (start frames at) (refl, refl) 1000 w k e in (is_dead k e, λ p le less. is_live p (F.1 p le less))

  pub is_too_deep : (k : ℕ) → answer_of frames w at ≡ Err (TooDeep k) → IsTooDeep 1000 frames w at k
  is_too_deep k e = let F = item_only_deep (start frames at) (refl, refl) 1000 w k e in (is_deep_dead k e, is_live k F.1)

  -- what has a reading within the limit is answered
  pub is_answered : (depth : ℕ) (t : Plain) (end : ℕ) → depth ≤ 1000 → Reading depth frames w at t end → (x : Found) × ((p : Input) × ((answer_of frames w at ≡ Ok (x, p)) × ((x.tree ≡ t) × (p.at.place ≡ end))))
  is_answered depth t end le R = let G = complete_at depth 1000 w le t (start frames at) (spot end R.after) R.spelled in
      (record { tree = t; height = G.height }, (from w (spot end R.after), (G.reads, (refl, refl))))

-- what is read is not refused, but for want of memory
pub only_memory : (o : Outcome Found) (a : Found × Input) (e : Refusal) → o ≡ Ok a → (e ≢ Memory → o ≡ Err e) → e ≡ Memory
only_memory o a Memory ok refused = refl
only_memory o a (Syntax k) ok refused = absurd (let bad = refused (λ e. absurd (cc e)) in cc (ok, bad))
only_memory o a (TooDeep k) ok refused = absurd (let bad = refused (λ e. absurd (cc e)) in cc (ok, bad))

pub refused_with : {A : Type 0} (o : Outcome Found) (e : Refusal) (k : ℕ) → ◌≡◌ {A = Result A Refusal} (Err e) (Err (Syntax k)) → (e ≢ Memory → o ≡ Err e) → o ≡ Err (Syntax k)
refused_with o e k h refused = let same : e ≡ Syntax k = cc h in refused (λ m. absurd (cc (m, same))) ∙ ap Err same

pub lacking_with : {A : Type 0} (o : Outcome Found) (e : Refusal) (k : ℕ) → ◌≡◌ {A = Result A Refusal} (Err e) (Err (TooDeep k)) → (e ≢ Memory → o ≡ Err e) → o ≡ Err (TooDeep k)
lacking_with o e k h refused = let same : e ≡ TooDeep k = cc h in refused (λ m. absurd (cc (m, same))) ∙ ap Err same

-- ---- what is answered

abbrev found_in : Found → Outcome Found → Found
found_in x (Ok a) = a.0
found_in x (Err e) = x

abbrev after_in : Input → Outcome Found → Input
after_in p (Ok a) = a.1
after_in p (Err e) = p

module _ (tokens : List Token) (frames : List Frame) (at : ℕ) (x : Found) (p : Input) (end : ℕ) (o : answer_of frames (map shape_of tokens) at ≡ Ok (x, p)) (e : end ≡ p.at.place) where
  abbrev w : List Shape
  w = map shape_of tokens

  pub reading : Reading 1000 frames w at x.tree end
  reading = subst (λ n. Reading 1000 frames w at x.tree n) (sym e) (is_spelled frames w at x p o)

  pub draft_right : (t : Plain) → t ≡ x.tree → IsRight t
  draft_right t h = subst IsRight (sym h) (is_right frames w at x.tree end reading)

  pub tree_stands : (t : Plain) (tree : Result Plain Refusal) → t ≡ x.tree → IfOk tree (λ made. made ≡ placed tokens t) → IfOk tree (λ made. stands made.form sort.Item ≡ true)
  tree_stands t (Ok made) h m = subst (λ f. stands f sort.Item ≡ true) (sym (ap (λ t. t.form) m ∙ ap (λ t. t.form) h)) (is_item frames w at x.tree end reading)
  tree_stands t (Err r) h m = tt

  made_is : (t made item : Plain) (tree : Result Plain Refusal) → t ≡ x.tree → IfOk tree (λ made. made ≡ placed tokens t) → tree ≡ Ok item → item ≡ placed tokens x.tree
  made_is t made item (Ok this) h m k = ap (λ r. given r) (sym k) ∙ m ∙ ap (placed tokens) h
    where
      given : Result Plain Refusal → Plain
      given (Ok a) = a
      given (Err e) = item
  made_is t made item (Err r) h m k = absurd (cc k)

  pub is_next : 0 < length frames → (t : Plain) (tree : Result Plain Refusal) (r : Result (Plain × ℕ) Refusal) → t ≡ x.tree → IfOk tree (λ made. made ≡ placed tokens t) → IfOk r (λ a. (tree ≡ Ok a.0) × (a.1 ≡ end)) → IfOk r (λ a. IsNext tokens frames at a)
  is_next some t tree (Ok a) h m k =
      let this = made_is t t a.0 tree h m k.0 in
      record {
        item = x.tree;
        reading = subst (λ n. Reading 1000 frames w at x.tree n) (sym k.1) reading;
        is_placed = this;
        is_settled = subst (Settles frames) (sym this) (settles tokens frames w at x.tree end some reading);
      }
  is_next some t tree (Err r) h m k = tt

  pub is_given : (t : Plain) (tree : Result Plain Refusal) (r : Result (Plain × ℕ) Refusal) → t ≡ x.tree → IfOk tree (λ made. made ≡ placed tokens t) → IfOk r (λ a. (tree ≡ Ok a.0) × (a.1 ≡ end)) → IfErr r (λ e. e ≡ Memory)
      → (depth : ℕ) (item : Plain) (last : ℕ) → depth ≤ 1000 → Reading depth frames w at item last → Gives (placed tokens item, last) r
  is_given t tree (Ok a) h m k n depth item last le R =
      let A = is_answered frames w at depth item last le R in
      let same : x ≡ A.0 = ap (found_in x) (sym o ∙ A.1.1.0) in
      let stop : p ≡ A.1.0 = ap (after_in p) (sym o ∙ A.1.1.0) in
      let this : a.0 ≡ placed tokens item = made_is t t a.0 tree h m k.0 ∙ ap (λ x. placed tokens x.tree) same ∙ ap (placed tokens) A.1.1.1.0 in
      let there : a.1 ≡ last = k.1 ∙ e ∙ ap (λ p. p.at.place) stop ∙ A.1.1.1.1 in
      ap (λ i. (i, a.1)) this ∙ ap (λ n. (placed tokens item, n)) there
  is_given t tree (Err r) h m k n depth item last le R = n
