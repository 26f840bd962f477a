-- A row leaves each scope that it enters.
use Rattle.std.proofs.Common.{◌≡◌, inl, inr, refl, ap, sym, ◌∙◌, subst, ℕ, Bool, true, false, ◌||◌, List, [], ◌∷◌, ◌++◌, append_assoc, Option, Some, None}
use Rattle.c_tokens.specs.declared.token.Shape.{Shape}
use Rattle.c_forms.specs.declared.pieces.Event.{Event}
use Rattle.c_forms.specs.declared.pieces.Event.TheVariants as event
use Rattle.c_forms.specs.declared.pieces.Sort.{Sort}
use Rattle.c_forms.specs.declared.pieces.Sort.TheVariants as s
use Rattle.c_forms.specs.declared.pieces.Repetition.{Repetition}
use Rattle.c_forms.specs.declared.pieces.Repetition.TheVariants.{Many, Any}
use Rattle.c_forms.specs.declared.pieces.Piece.{Piece}
use Rattle.c_forms.specs.declared.pieces.Piece.TheVariants.{Token, Maybe, Own, TypeTokens, KindName, One, Group, Rest, Anything, Then}
use Rattle.c_forms.specs.declared.forms.Form.{Form}
use Rattle.c_forms.specs.declared.forms.Form.TheVariants as form
use Rattle.c_forms.specs.declared.forms.ItemForm.TheVariants as item
use Rattle.c_forms.specs.Forests.{Plain}
use Rattle.c_forms.specs.Measures.{pieces}
use Rattle.c_reader.specs.States.{State, Entry, Edge, AsType, AsValue, happens, outside, late_outside, declared, entry, parameters}
use Rattle.c_reader.specs.Tokens.{Spot, turned}
use Rattle.c_syntax.specs.Reading.{Before, Usual, before_by, is_absent, inside}
use Rattle.c_syntax.specs.Spells.{Spelling, IsGroup, Matches}
use Rattle.spelled_trees.specs.Effects.{is_plain_sort}
use Rattle.spelled_trees.specs.Scoped.{are_words, Grown, keeps_late, Scoped, Parametered}
use Rattle.spelled_trees.proofs.Parts.{left_of, right_of, group_fold}
use Rattle.spelled_trees.proofs.Fitted.{at_sort}
use Rattle.spelled_trees.proofs.Suits.{is_in_after, may_be_in, may_part, scopes}

-- ---- words

words_append : (vs ws : List Entry) → are_words vs ≡ true → are_words ws ≡ true → are_words (vs ++ ws) ≡ true
words_append [] ws h k = k
words_append (Edge late ∷ vs) ws h k = absurd (cc h)
words_append (AsType word ∷ vs) ws h k = words_append vs ws h k
words_append (AsValue word ∷ vs) ws h k = words_append vs ws h k

pub grown_none : (es : List Entry) → Grown es es
grown_none es = record { words = []; are = refl; value = refl }

pub grown_more : {xs ys zs : List Entry} → Grown xs ys → Grown ys zs → Grown xs zs
grown_more {xs = xs} G H = record { words = H.words ++ G.words; are = words_append H.words G.words H.are G.are; value = H.value ∙ (ap (λ l. H.words ++ l) G.value ∙ sym (append_assoc H.words G.words xs)) }

grown_one : (e : Entry) (es : List Entry) → are_words (e ∷ []) ≡ true → Grown es (e ∷ es)
grown_one e es h = record { words = e ∷ []; are = h; value = refl }

entry_word : (b : Bool) (n : ℕ) → are_words (entry b n ∷ []) ≡ true
entry_word true n = refl
entry_word false n = refl

pub grown_declared : (makes : ℕ → Entry) → ((n : ℕ) → are_words (makes n ∷ []) ≡ true) → (o : Option ℕ) (es : List Entry) → Grown es (declared makes o es)
grown_declared makes h (Some word) es = grown_one (makes word) es (h word)
grown_declared makes h None es = grown_none es

outside_words : (ws : List Entry) (late : Bool) (rest : List Entry) → are_words ws ≡ true → outside (ws ++ (Edge late ∷ rest)) ≡ rest
outside_words [] late rest h = refl
outside_words (Edge l ∷ ws) late rest h = absurd (cc h)
outside_words (AsType word ∷ ws) late rest h = outside_words ws late rest h
outside_words (AsValue word ∷ ws) late rest h = outside_words ws late rest h

late_words : (ws : List Entry) (late : Bool) (rest : List Entry) → are_words ws ≡ true → late_outside (ws ++ (Edge late ∷ rest)) ≡ late
late_words [] late rest h = refl
late_words (Edge l ∷ ws) late rest h = absurd (cc h)
late_words (AsType word ∷ ws) late rest h = late_words ws late rest h
late_words (AsValue word ∷ ws) late rest h = late_words ws late rest h

-- ---- outside of a row's own scope, or in it

pub record Outside (es : List Entry) (late : Bool) (now : State) : Type 0 where
  pub entries : Grown es now.entries
  pub same : now.is_late ≡ late

pub record Inside (es : List Entry) (late : Bool) (now : State) : Type 0 where
  pub rest : List Entry
  pub entries : Grown (Edge late ∷ rest) now.entries
  pub around : Grown es rest

abbrev pub Stands : Bool → List Entry → Bool → State → Type 0
Stands true es late now = Inside es late now
Stands false es late now = Outside es late now

pub left_again : (es : List Entry) (late : Bool) (now new : State) → new.entries ≡ outside now.entries → new.is_late ≡ late_outside now.entries → Inside es late now → Outside es late new
left_again es late now new e l I = let w = I.entries.words in record {
  entries = subst (λ x. Grown es x) (sym (e ∙ (ap outside I.entries.value ∙ outside_words w late I.rest I.entries.are))) I.around;
  same = l ∙ (ap late_outside I.entries.value ∙ late_words w late I.rest I.entries.are);
}

grown_in : (b : Bool) (es : List Entry) (late : Bool) (now new : State) → Grown now.entries new.entries → new.is_late ≡ now.is_late → Stands b es late now → Stands b es late new
grown_in true es late now new G l I = record { rest = I.rest; entries = grown_more I.entries G; around = I.around }
grown_in false es late now new G l O = record { entries = grown_more O.entries G; same = l ∙ O.same }

same_in : (b : Bool) (es : List Entry) (late : Bool) (now new : State) → new.entries ≡ now.entries → new.is_late ≡ now.is_late → Stands b es late now → Stands b es late new
same_in b es late now new e l S = grown_in b es late now new (subst (λ x. Grown now.entries x) (sym e) (grown_none now.entries)) l S

happened_in : (e : Event) (b : Bool) (es : List Entry) (late : Bool) (x : State) → may_be_in e b ≡ true → Stands b es late x → Stands (is_in_after e b) es late (happens e x)
happened_in event.Enter true es late x h S = absurd (cc h)
happened_in event.Enter false es late x h S = record { rest = x.entries; entries = subst (λ l. Grown (Edge l ∷ x.entries) (Edge x.is_late ∷ x.entries)) S.same (grown_none (Edge x.is_late ∷ x.entries)); around = S.entries }
happened_in event.Leave true es late x h S = left_again es late x (happens event.Leave x) refl refl S
happened_in event.Leave false es late x h S = absurd (cc h)
happened_in event.Close true es late x h S = left_again es late x (happens event.Close x) refl refl S
happened_in event.Close false es late x h S = absurd (cc h)
happened_in event.Open b es late x h S = absurd (cc h)
happened_in event.Shut b es late x h S = absurd (cc h)
happened_in event.Statements b es late x h S = absurd (cc h)
happened_in event.Declare b es late x h S = grown_in b es late x (happens event.Declare x) (grown_declared (entry x.kept.is_typedef) (entry_word x.kept.is_typedef) x.kept.name x.entries) refl S
happened_in event.DeclareValue b es late x h S = grown_in b es late x (happens event.DeclareValue x) (grown_declared AsValue (λ n. refl) x.kept.name x.entries) refl S
happened_in event.Begin b es late x h S = same_in b es late x (happens event.Begin x) refl refl S
happened_in event.Typedef b es late x h S = same_in b es late x (happens event.Typedef x) refl refl S
happened_in event.Typed b es late x h S = same_in b es late x (happens event.Typed x) refl refl S
happened_in event.SoleType b es late x h S = same_in b es late x (happens event.SoleType x) refl refl S
happened_in event.Aside b es late x h S = same_in b es late x (happens event.Aside x) refl refl S
happened_in event.Resume b es late x h S = same_in b es late x (happens event.Resume x) refl refl S
happened_in event.Seal b es late x h S = same_in b es late x (happens event.Seal x) refl refl S
happened_in event.FunctionDue b es late x h S = same_in b es late x (happens event.FunctionDue x) refl refl S

-- ---- pieces

-- what is spelled does to the words in scope what its sort may do
abbrev pub Scopes : Spelling → Type 0
Scopes P = (due : Sort) (least : ℕ) (t : Plain) (i j : Spot) → P due least t i j → is_plain_sort due ≡ true → Scoped due i.state j.state × Parametered due j.state.kept

module _ (w : List Shape) (P : Spelling) (C : Scopes P) where
  part_in : (due : Sort) (b : Bool) (es : List Entry) (late : Bool) (old new : State) → (keeps_late due || b) ≡ true → Scoped due old new → Stands b es late old → Stands b es late new
  part_in due true es late old new h S I = record { rest = I.rest; entries = grown_more I.entries S.entries; around = I.around }
  part_in due false es late old new h S O = record { entries = grown_more O.entries S.entries; same = S.late (or_first (keeps_late due) h) ∙ O.same }
    where
      or_first : (a : Bool) → (a || false) ≡ true → a ≡ true
      or_first true h = refl
      or_first false h = absurd (cc h)

  group_in : (due : Sort) (least : ℕ) (b : Bool) (es : List Entry) (late : Bool) → may_part due b ≡ true → (r : Repetition) (before : Before) (ts : List Plain) (i j : Spot) → IsGroup r due (P due least) before w ts i j → Stands b es late i.state → Stands b es late j.state
  group_in due least b es late h r before ts i j G = let p = is_plain_sort due in let k = keeps_late due || b in group_fold w (P due least) (λ ts i j. Stands b es late i.state → Stands b es late j.state) (λ i S. S)
      (λ ts t i j k' m R e q S. part_in due b es late k'.state m.state (right_of p k h) (C due least t k' m q (left_of p k h)).0 (subst (λ (x : State). Stands b es late x) (sym e) (R S))) r due before ts i j G

  pub row_in : (own : Sort) (f : Form) (before : Before) (ps : List Piece) (b : Bool) (es : List Entry) (late : Bool) (ts : List Plain) (i j : Spot) → scopes own b ps ≡ true → Stands b es late i.state → Matches P w own f before ps ts i j → Outside es late j.state
  row_in own f before [] true es late ts i j h S M = absurd (cc h)
  row_in own f before [] false es late ts i j h S M = subst (λ (x : Spot). Outside es late x.state) M.1 S
  row_in own f before (Token c ∷ ps) b es late ts i j h S M = row_in own f Usual ps b es late ts _ j h S M.1
  row_in own f before (Maybe c ∷ ps) b es late ts i j h S (inl M) = row_in own f Usual ps b es late ts _ j h S M.1
  row_in own f before (Maybe c ∷ ps) b es late ts i j h S (inr M) = row_in own f Usual ps b es late ts _ j h S M
  row_in own f before (Own ∷ ps) b es late ts i j h S M = row_in own f Usual ps b es late ts _ j h S M.1
  row_in own f before (One due least ∷ ps) b es late ts i j h S M = let d = inside own due in let m = may_part d b in let n = scopes own b ps in let p = is_plain_sort d in let k = keeps_late d || b in let o = left_of m n h in
      row_in own f _ ps b es late M.others M.place j (right_of m n h) (part_in d b es late i.state M.place.state (right_of p k o) (C d least M.first i M.place M.is_first (left_of p k o)).0 S) M.are_others
  row_in own f before (Group r due least ∷ ps) b es late ts i j h S M = let m = may_part due b in let n = scopes own b ps in
      row_in own f _ ps b es late M.others M.place j (right_of m n h) (group_in due least b es late (left_of m n h) r before M.is_first.0 i M.place M.is_first.1.1 S) M.are_others
  row_in own f before (Then e ∷ ps) b es late ts i j h S M = let m = may_be_in e b in let n = scopes own (is_in_after e b) ps in
      row_in own f before ps (is_in_after e b) es late ts _ j (right_of m n h) (happened_in e b es late i.state (left_of m n h) S) M.1
  row_in own f before (TypeTokens ∷ ps) b es late ts i j h S M = absurd M
  row_in own f before (KindName ∷ ps) b es late ts i j h S M = absurd M
  row_in own f before (Rest due ∷ ps) b es late ts i j h S M = absurd M
  row_in own f before (Anything ∷ ps) b es late ts i j h S M = absurd M

  -- a function's body is in the scope of its parameters
  pub function_in : (own : Sort) (before : Before) (es : List Entry) (late : Bool) (ts : List Plain) (i j : Spot) → Outside es late i.state → Matches P w own (form.Item item.Function) before (pieces (form.Item item.Function)) ts i j → Outside es late j.state
  function_in own before es late ts i j S M = let D = M.are_others in let L = D.are_others.1 in let B = L.are_others in
      let a = group_in s.Spec 0 false es late refl Any before M.is_first.0 i M.place M.is_first.1.1 S in
      let d = C s.Declarator 1 D.first M.place D.place (at_sort P own s.Declarator 1 D.first M.place D.place refl D.is_first) refl in
      let c = part_in s.Declarator false es late M.place.state D.place.state refl d.0 a in
      let x = D.place.state in let n = grown_declared AsValue (λ n. refl) x.kept.name x.entries in
      let o : Inside es late (happens event.Open x) = record {
        rest = declared AsValue x.kept.name x.entries;
        entries = subst (λ l. Grown (Edge l ∷ declared AsValue x.kept.name x.entries) (happens event.Open x).entries) c.same (record { words = parameters x.kept.near; are = d.1; value = refl });
        around = grown_more c.entries n;
      } in
      let e = group_in s.Decl 0 true es late refl (Many None 0) (before_by (is_absent D.first)) L.is_first.0 (turned (happens event.Open) D.place) L.place L.is_first.1.1 o in
      let b = C s.Block 0 B.first L.place B.place (at_sort P own s.Block 0 B.first L.place B.place refl B.is_first) refl in
      let f = part_in s.Block true es late L.place.state B.place.state refl b.0 e in
      subst (λ (k : Spot). Outside es late k.state) B.are_others.1.1 (left_again es late B.place.state (happens event.Shut B.place.state) refl refl f)
