-- Going through the elements of a list.
use Rattle.std.proofs.Common.{◌≡◌, refl, ap, sym, ◌∙◌, ℕ, ◌+◌, ◌-◌, ◌^◌, ◌<◌, ◌≤◌, min, subst, List, [], ◌∷◌, ◌++◌, length, take, drop, get_or, append_assoc, append-nil, arith, length-append, Some, None}
use Rattle.std.specs.List.{All}
use Rattle.std.proofs.lemmas.List.{take_more}
use Rattle.std.proofs.lemmas.List.Elements.{All-append}
use Rattle.c_tokens.specs.declared.token.Word.{Word}
use Rattle.c_tokens.specs.declared.kind.MetaType.{MetaType}
use Rattle.c_tokens.specs.declared.element.Element.{Element, roll-Element, out-Element, roll-out-Element}
use Rattle.c_tokens.specs.declared.element.Element.TheOpen.{Element-F}
use Rattle.c_tokens.specs.declared.element.Element.TheVariants.{rolls-Literal, rolls-Bind, rolls-Repeat, rolls-Maybe}
use Rattle.pattern_language.specs.Patterns.{Pattern, Done, Literal, Bind, Repeat, Maybe, element, pattern_of, names}
use Rattle.pattern_language.specs.Rules.{Place, Site, after, sites, in_repetition, in_option, Keeps, IsLowest, IsFirstBreak, IsJudged}
use Rattle.pattern_language.specs.Rules.{Passes, Fails}
use Rattle.pattern_language.proofs.Elements.{element_literal, element_bind, element_repeat, element_maybe, rest_step, rest_end}

-- ---- a pattern's first element

abbrev pub site : Pattern → Place → Site
site p at = record { pattern = p; place = at }

-- the sites in it
abbrev pub inner : Pattern → Place → List Site
inner (Repeat least sep body p) at = sites body (in_repetition sep body p at)
inner (Maybe intro body p) at = sites body (in_option p at)
inner _ at = []

-- its binders
abbrev pub own_names : Pattern → List Word
own_names (Bind kind name p) = name ∷ []
own_names (Repeat least sep body p) = names body
own_names (Maybe intro body p) = names body
own_names _ = []

same_place : (at : Place) → at ≡ after [] at
same_place at = ap (λ e. let q : Place = record at { earlier = e } in q) (sym (append-nil at.earlier))

split_at : (l : Element-F Element) (p : Pattern) (at : Place) → sites (element (roll-Element l) p) at ≡ site (element (roll-Element l) p) at ∷ (inner (element (roll-Element l) p) at ++ sites p (after (own_names (element (roll-Element l) p)) at))
unfolding sites
split_at (Element-F.Literal t) p at = rw (rolls-Literal t, element_literal t p) (ap (λ q. site (Literal t p) at ∷ sites p q) (same_place at))
split_at (Element-F.Bind kind name span) p at = rw (rolls-Bind kind name span, element_bind kind name span p) refl
split_at (Element-F.Repeat least sep body span) p at = rw (rolls-Repeat least sep body span, element_repeat least sep body span p) refl
split_at (Element-F.Maybe intro body span) p at = rw (rolls-Maybe intro body span, element_maybe intro body span p) refl

pub split_element : (e : Element) (p : Pattern) (at : Place) → sites (element e p) at ≡ site (element e p) at ∷ (inner (element e p) at ++ sites p (after (own_names (element e p)) at))
split_element e p at = rw roll-out-Element at (split_at (out-Element e) p at)

names_at : (l : Element-F Element) (p : Pattern) → names (element (roll-Element l) p) ≡ own_names (element (roll-Element l) p) ++ names p
unfolding names
names_at (Element-F.Literal t) p = rw (rolls-Literal t, element_literal t p) refl
names_at (Element-F.Bind kind name span) p = rw (rolls-Bind kind name span, element_bind kind name span p) refl
names_at (Element-F.Repeat least sep body span) p = rw (rolls-Repeat least sep body span, element_repeat least sep body span p) refl
names_at (Element-F.Maybe intro body span) p = rw (rolls-Maybe intro body span, element_maybe intro body span p) refl

names_element : (e : Element) (p : Pattern) → names (element e p) ≡ own_names (element e p) ++ names p
names_element e p = rw roll-out-Element at (names_at (out-Element e) p)

own_at : (l : Element-F Element) (p q : Pattern) → own_names (element (roll-Element l) p) ≡ own_names (element (roll-Element l) q)
own_at (Element-F.Literal t) p q = rw (rolls-Literal t, element_literal t p, element_literal t q) refl
own_at (Element-F.Bind kind name span) p q = rw (rolls-Bind kind name span, element_bind kind name span p, element_bind kind name span q) refl
own_at (Element-F.Repeat least sep body span) p q = rw (rolls-Repeat least sep body span, element_repeat least sep body span p, element_repeat least sep body span q) refl
own_at (Element-F.Maybe intro body span) p q = rw (rolls-Maybe intro body span, element_maybe intro body span p, element_maybe intro body span q) refl

own_same : (e : Element) (p q : Pattern) → own_names (element e p) ≡ own_names (element e q)
own_same e p q = rw roll-out-Element at (own_at (out-Element e) p q)

names_push : (xs : List Element) (e : Element) (p : Pattern) → names (pattern_of (xs ++ e ∷ [])) ≡ names (pattern_of xs) ++ own_names (element e p)
unfolding pattern_of names
names_push [] e p = names_element e Done ∙ append-nil (own_names (element e Done)) ∙ own_same e Done p
names_push (x ∷ xs) e p =
    names_element x (pattern_of (xs ++ e ∷ [])) ∙ ap (λ n. own_names (element x (pattern_of (xs ++ e ∷ []))) ++ n) (names_push xs e p)
    ∙ sym (append_assoc (own_names (element x (pattern_of (xs ++ e ∷ [])))) (names (pattern_of xs)) (own_names (element e p)))
    ∙ ap (λ n. n ++ own_names (element e p)) (ap (λ n. n ++ names (pattern_of xs)) (own_same x (pattern_of (xs ++ e ∷ [])) (pattern_of xs)) ∙ sym (names_element x (pattern_of xs)))

names_more : (es : List Element) (i : ℕ) (d : Element) (p : Pattern) → i < length es → names (pattern_of (take (i + 1) es)) ≡ names (pattern_of (take i es)) ++ own_names (element (get_or es i d) p)
names_more es i d p h = ap (λ xs. names (pattern_of xs)) (take_more es i d h) ∙ names_push (take i es) (get_or es i d) p

-- where the elements from number i on stand
abbrev pub place_at : List Element → ℕ → Place → Place
place_at es i at = after (names (pattern_of (take i es))) at

after_twice : (ms ns : List Word) (at : Place) → after ns (after ms at) ≡ after (ms ++ ns) at
after_twice ms ns at = ap (λ e. let q : Place = record at { earlier = e } in q) (append_assoc at.earlier ms ns)

place_more : (es : List Element) (i : ℕ) (d : Element) (p : Pattern) (at : Place) → i < length es → after (own_names (element (get_or es i d) p)) (place_at es i at) ≡ place_at es (i + 1) at
place_more es i d p at h = after_twice (names (pattern_of (take i es))) (own_names (element (get_or es i d) p)) at ∙ ap (λ n. after n at) (sym (names_more es i d p h))

-- the sites from element number i on
abbrev pub left : List Element → ℕ → Place → List Site
left es i at = sites (pattern_of (drop i es)) (place_at es i at)

pub left_step : (es : List Element) (i : ℕ) (d : Element) (at : Place) → i < length es →
    let p = element (get_or es i d) (pattern_of (drop (i + 1) es)) in
    left es i at ≡ site p (place_at es i at) ∷ (inner p (place_at es i at) ++ left es (i + 1) at)
left_step es i d at h =
    let later = pattern_of (drop (i + 1) es) in
    let p = element (get_or es i d) later in
    ap (λ q. sites q (place_at es i at)) (rest_step es i d h) ∙ split_element (get_or es i d) later (place_at es i at)
    ∙ ap (λ q. site p (place_at es i at) ∷ (inner p (place_at es i at) ++ sites later q)) (place_more es i d later at h)

-- ---- what was gone through

-- `rest` is left of the sites `all`, and those before it keep the rules.
pub record Passed (result : MetaType) (all rest : List Site) (first number : ℕ) : Type 0 where
  pub done : List Site
  pub split : all ≡ done ++ rest
  pub keeps : All (Keeps result) done
  pub next : number ≡ min (first + length done) (2 ^ 64 - 1)

none_breaks : (result : MetaType) → All (Keeps result) []
none_breaks result = λ k d h. absurd (omega arith)

pub passed_start : (result : MetaType) (all : List Site) (first : ℕ) → first < 2 ^ 64 → Passed result all all first first
passed_start result all first h = record { done = []; split = refl; keeps = none_breaks result; next = omega arith }

pub passed_more : (result : MetaType) (all own rest : List Site) (first number more : ℕ) → Passed result all (own ++ rest) first number → All (Keeps result) own → more ≡ min (number + length own) (2 ^ 64 - 1) → Passed result all rest first more
passed_more result all own rest first number more w h e =
    record { done = w.done ++ own; split = w.split ∙ sym (append_assoc w.done own rest); keeps = All-append (Keeps result) w.done own w.keeps h; next = omega (arith, length-append w.done own) }

pub passed_end : (result : MetaType) (all : List Site) (first number : ℕ) → Passed result all [] first number → Passes result all first number
passed_end result all first number w =
    let same : all ≡ w.done = w.split ∙ append-nil w.done in
    record { keeps = (let P : List Site → Type 0 = λ s. All (Keeps result) s in subst P (sym same) w.keeps); next = omega (arith, ap length same) }

pub passed_break : (result : MetaType) (all own rest : List Site) (first number place more rule : ℕ) → Passed result all (own ++ rest) first number → IsFirstBreak result own place rule → more ≡ min (number + place) (2 ^ 64 - 1) → Fails result all first more rule
passed_break result all own rest first number place more rule w b e =
    let split : all ≡ (w.done ++ b.kept) ++ b.site ∷ (b.others ++ rest) =
    w.split ∙ ap (λ s. w.done ++ (s ++ rest)) b.split ∙ ap (λ s. w.done ++ s) (append_assoc b.kept (b.site ∷ b.others) rest) ∙ sym (append_assoc w.done b.kept (b.site ∷ (b.others ++ rest))) in
    record {
      place = length w.done + place;
      breaks = record { kept = w.done ++ b.kept; site = b.site; others = b.others ++ rest; split = split; place = length-append w.done b.kept ∙ ap (λ n. length w.done + n) b.place; keeps = All-append (Keeps result) w.done b.kept w.keeps b.keeps; lowest = b.lowest };
      is = omega arith;
    }

-- ---- one element

one_keeps : (result : MetaType) (s : Site) → Keeps result s → All (Keeps result) (s ∷ [])
one_keeps result s h = λ k d small. subst (λ n. Keeps result (get_or (s ∷ []) n d)) (sym (first k small)) h
  where
    first : (k : ℕ) → k < 1 → k ≡ 0
    first k small = omega arith

pub here_keeps : (result : MetaType) (all rest : List Site) (p : Pattern) (at : Place) (first number more : ℕ) → Passed result all (site p at ∷ rest) first number → Keeps result (site p at) → more ≡ min (number + 1) (2 ^ 64 - 1) → Passed result all rest first more
here_keeps result all rest p at first number more w h e = passed_more result all (site p at ∷ []) rest first number more w (one_keeps result (site p at) h) e

pub here_breaks : (result : MetaType) (all rest : List Site) (p : Pattern) (at : Place) (first number rule : ℕ) → number < 2 ^ 64 → Passed result all (site p at ∷ rest) first number → IsLowest result (site p at) rule → Fails result all first number rule
here_breaks result all rest p at first number rule small w h =
    passed_break result all (site p at ∷ []) rest first number 0 number rule w
    (record { kept = []; site = site p at; others = []; split = refl; place = refl; keeps = none_breaks result; lowest = h }) (omega arith)

start_left : (es : List Element) (at : Place) → left es 0 at ≡ sites (pattern_of es) at
unfolding pattern_of names
start_left es at = ap (λ q. sites (pattern_of es) q) (sym (same_place at))

end_left : (es : List Element) (i : ℕ) (at : Place) → length es ≤ i → left es i at ≡ []
unfolding sites
end_left es i at h = ap (λ p. sites p (place_at es i at)) (rest_end es i h)

pub list_starts : (result : MetaType) (es : List Element) (at : Place) (first : ℕ) → first < 2 ^ 64 → Passed result (sites (pattern_of es) at) (left es 0 at) first first
list_starts result es at first h =
    let P : List Site → Type 0 = λ rest. Passed result (sites (pattern_of es) at) rest first first in
    subst P (sym (start_left es at)) (passed_start result (sites (pattern_of es) at) first h)

pub list_ends : (result : MetaType) (all : List Site) (es : List Element) (i : ℕ) (at : Place) (first number : ℕ) → length es ≤ i → Passed result all (left es i at) first number → Passes result all first number
list_ends result all es i at first number h w =
    let P : List Site → Type 0 = λ rest. Passed result all rest first number in
    passed_end result all first number (subst P (end_left es i at h) w)

-- the element of number i, before the others
abbrev pub at_element : List Element → ℕ → Element → Pattern
at_element es i d = element (get_or es i d) (pattern_of (drop (i + 1) es))

pub element_breaks : (result : MetaType) (all : List Site) (es : List Element) (i : ℕ) (d : Element) (at : Place) (first number rule : ℕ) → i < length es → number < 2 ^ 64 →
    Passed result all (left es i at) first number → IsJudged result (at_element es i d) (place_at es i at) (Some rule) → Fails result all first number rule
element_breaks result all es i d at first number rule h small w judged =
    let P : List Site → Type 0 = λ rest. Passed result all rest first number in
    let p = at_element es i d in
    here_breaks result all (inner p (place_at es i at) ++ left es (i + 1) at) p (place_at es i at) first number rule small (subst P (left_step es i d at h) w) judged

pub element_keeps : (result : MetaType) (all : List Site) (es : List Element) (i : ℕ) (d : Element) (at : Place) (first number more : ℕ) → i < length es →
    Passed result all (left es i at) first number → IsJudged result (at_element es i d) (place_at es i at) None → more ≡ min (number + 1) (2 ^ 64 - 1) →
    Passed result all (inner (at_element es i d) (place_at es i at) ++ left es (i + 1) at) first more
element_keeps result all es i d at first number more h w judged e =
    let P : List Site → Type 0 = λ rest. Passed result all rest first number in
    let p = at_element es i d in
    here_keeps result all (inner p (place_at es i at) ++ left es (i + 1) at) p (place_at es i at) first number more (subst P (left_step es i d at h) w) judged e
