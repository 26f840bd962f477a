-- One turn of the loop over the elements of a list.
use Rattle.std.proofs.Common.{◌≡◌, ap, sym, ◌∙◌, ℕ, ◌+◌, ◌-◌, ◌^◌, ◌<◌, ◌≤◌, min, subst, List, [], ◌++◌, length, drop, get_or, arith, Option, Some, None}
use Rattle.c_tokens.specs.declared.token.Token.{Token}
use Rattle.c_tokens.specs.declared.token.Word.{Word}
use Rattle.c_tokens.specs.declared.span.Span.{Span}
use Rattle.c_tokens.specs.declared.kind.Kind.{Kind}
use Rattle.c_tokens.specs.declared.kind.MetaType.{MetaType}
use Rattle.c_tokens.specs.declared.element.Element.{Element}
use Rattle.c_tokens.specs.declared.element.Element.TheVariants as v
use Rattle.pattern_language.specs.Patterns.{Pattern, element, pattern_of}
use Rattle.pattern_language.specs.Rules.{Place, Site, sites, in_repetition, in_option, Keeps, IsJudged, P1}
use Rattle.pattern_language.specs.Rules.{Passes, Fails}
use Rattle.pattern_language.proofs.Elements.{element_literal, element_bind, element_repeat, element_maybe}
use Rattle.pattern_language.proofs.Passing.{Passed, passed_more, passed_break, site, inner, left, place_at, at_element, element_breaks, element_keeps}

-- what is known of element number i: the code's own words for it, for those after it and for where it stands
pub record Here (es : List Element) (i : ℕ) (at : Place) (e : Element) (later : List Element) (q : Place) : Type 0 where
  pub within : i < length es
  pub is : e ≡ get_or es i e
  pub others : later ≡ drop (i + 1) es
  pub place : q ≡ place_at es i at

judged_there : (result : MetaType) (es : List Element) (i : ℕ) (at : Place) (e : Element) (later : List Element) (q : Place) (answer : Option ℕ) →
    Here es i at e later q → IsJudged result (element e (pattern_of later)) q answer → IsJudged result (at_element es i e) (place_at es i at) answer
judged_there result es i at e later q answer here judged =
    let P : Pattern → Type 0 = λ p. IsJudged result p q answer in
    let Q : Place → Type 0 = λ k. IsJudged result (at_element es i e) k answer in
    let same : element e (pattern_of later) ≡ at_element es i e = ap (λ d. element d (pattern_of later)) here.is ∙ ap (λ ys. element (get_or es i e) (pattern_of ys)) here.others in
    subst Q here.place (subst P same judged)

pub breaks_here : (result : MetaType) (all : List Site) (es : List Element) (i : ℕ) (at : Place) (e : Element) (later : List Element) (q : Place) (first number rule : ℕ) (answer : Option ℕ) →
    Here es i at e later q → number < 2 ^ 64 → Passed result all (left es i at) first number → answer ≡ Some rule → IsJudged result (element e (pattern_of later)) q answer → Fails result all first number rule
breaks_here result all es i at e later q first number rule answer here small w is judged =
    let P : Option ℕ → Type 0 = λ a. IsJudged result (element e (pattern_of later)) q a in
    element_breaks result all es i e at first number rule here.within small w (judged_there result es i at e later q (Some rule) here (subst P is judged))

pub keeps_here : (result : MetaType) (all : List Site) (es : List Element) (i : ℕ) (at : Place) (e : Element) (later : List Element) (q : Place) (first number more : ℕ) (answer : Option ℕ) →
    Here es i at e later q → Passed result all (left es i at) first number → answer ≡ None → IsJudged result (element e (pattern_of later)) q answer → more ≡ min (number + 1) (2 ^ 64 - 1) →
    Passed result all (inner (at_element es i e) (place_at es i at) ++ left es (i + 1) at) first more
keeps_here result all es i at e later q first number more answer here w is judged next =
    let P : Option ℕ → Type 0 = λ a. IsJudged result (element e (pattern_of later)) q a in
    element_keeps result all es i e at first number more here.within w (judged_there result es i at e later q None here (subst P is judged)) next

-- ---- the inner sites

inner_of : (e x : Element) (p : Pattern) (q : Place) → e ≡ x → inner (element e p) q ≡ inner (element x p) q
inner_of e x p q h = ap (λ d. inner (element d p) q) h

inner_literal : (e : Element) (t : Token) (p : Pattern) (q : Place) → e ≡ v.Literal t → inner (element e p) q ≡ []
inner_literal e t p q h = inner_of e (v.Literal t) p q h ∙ ap (λ r. inner r q) (element_literal t p)

inner_bind : (e : Element) (kind : Kind) (name : Word) (span : Span) (p : Pattern) (q : Place) → e ≡ v.Bind kind name span → inner (element e p) q ≡ []
inner_bind e kind name span p q h = inner_of e (v.Bind kind name span) p q h ∙ ap (λ r. inner r q) (element_bind kind name span p)

inner_repeat : (e : Element) (least : ℕ) (sep : Option Token) (body : List Element) (span : Span) (p : Pattern) (q : Place) → e ≡ v.Repeat least sep body span →
    inner (element e p) q ≡ sites (pattern_of body) (in_repetition sep (pattern_of body) p q)
inner_repeat e least sep body span p q h = inner_of e (v.Repeat least sep body span) p q h ∙ ap (λ r. inner r q) (element_repeat least sep body span p)

inner_maybe : (e : Element) (intro : Token) (body : List Element) (span : Span) (p : Pattern) (q : Place) → e ≡ v.Maybe intro body span →
    inner (element e p) q ≡ sites (pattern_of body) (in_option p q)
inner_maybe e intro body span p q h = inner_of e (v.Maybe intro body span) p q h ∙ ap (λ r. inner r q) (element_maybe intro body span p)

with_inner : (result : MetaType) (all own more rest : List Site) (first number : ℕ) → own ≡ more → Passed result all (own ++ rest) first number → Passed result all (more ++ rest) first number
with_inner result all own more rest first number h w =
    let P : List Site → Type 0 = λ s. Passed result all (s ++ rest) first number in
    subst P h w

pub after_literal : (result : MetaType) (all rest : List Site) (e : Element) (t : Token) (p : Pattern) (q : Place) (first number more : ℕ) →
    e ≡ v.Literal t → Passed result all (inner (element e p) q ++ rest) first number → more ≡ number → Passed result all rest first more
after_literal result all rest e t p q first number more h w same =
    let P : ℕ → Type 0 = λ n. Passed result all rest first n in
    subst P (sym same) (with_inner result all (inner (element e p) q) [] rest first number (inner_literal e t p q h) w)

pub after_binder : (result : MetaType) (all rest : List Site) (e : Element) (kind : Kind) (name : Word) (span : Span) (p : Pattern) (q : Place) (first number more : ℕ) →
    e ≡ v.Bind kind name span → Passed result all (inner (element e p) q ++ rest) first number → more ≡ number → Passed result all rest first more
after_binder result all rest e kind name span p q first number more h w same =
    let P : ℕ → Type 0 = λ n. Passed result all rest first n in
    subst P (sym same) (with_inner result all (inner (element e p) q) [] rest first number (inner_bind e kind name span p q h) w)

-- the sites of a body, as the call in it names them
pub after_inner : (result : MetaType) (all own body rest : List Site) (first number more last : ℕ) → own ≡ body → Passed result all (own ++ rest) first number → Passes result body number more → last ≡ more → Passed result all rest first last
after_inner result all own body rest first number more last h w passes same =
    passed_more result all body rest first number last (with_inner result all own body rest first number h w) passes.keeps (same ∙ passes.next)

pub in_inner : (result : MetaType) (all own body rest : List Site) (first number more rule : ℕ) → own ≡ body → Passed result all (own ++ rest) first number → Fails result body number more rule → Fails result all first more rule
in_inner result all own body rest first number more rule h w fails =
    passed_break result all body rest first number fails.place more rule (with_inner result all own body rest first number h w) fails.breaks fails.is

-- in element number i
pub sites_of_repetition : (es : List Element) (i : ℕ) (at : Place) (e : Element) (later : List Element) (q : Place) (least : ℕ) (sep : Option Token) (body slice other : List Element) (span : Span) (inside : Place) →
    Here es i at e later q → e ≡ v.Repeat least sep body span → slice ≡ body → other ≡ body → inside ≡ in_repetition sep (pattern_of slice) (pattern_of later) q →
    inner (at_element es i e) (place_at es i at) ≡ sites (pattern_of other) inside
sites_of_repetition es i at e later q least sep body slice other span inside here is same again in_ =
    inner_repeat (get_or es i e) least sep body span (pattern_of (drop (i + 1) es)) (place_at es i at) (sym here.is ∙ is)
    ∙ ap (λ xs. sites (pattern_of xs) (in_repetition sep (pattern_of body) (pattern_of (drop (i + 1) es)) (place_at es i at))) (sym again)
    ∙ ap (λ k. sites (pattern_of other) k) (sym (in_ ∙ ap (λ xs. in_repetition sep (pattern_of xs) (pattern_of later) q) same
    ∙ ap (λ xs. in_repetition sep (pattern_of body) (pattern_of xs) q) here.others ∙ ap (λ k. in_repetition sep (pattern_of body) (pattern_of (drop (i + 1) es)) k) here.place))

pub sites_of_option : (es : List Element) (i : ℕ) (at : Place) (e : Element) (later : List Element) (q : Place) (intro : Token) (body other : List Element) (span : Span) (inside : Place) →
    Here es i at e later q → e ≡ v.Maybe intro body span → other ≡ body → inside ≡ in_option (pattern_of later) q →
    inner (at_element es i e) (place_at es i at) ≡ sites (pattern_of other) inside
sites_of_option es i at e later q intro body other span inside here is again in_ =
    inner_maybe (get_or es i e) intro body span (pattern_of (drop (i + 1) es)) (place_at es i at) (sym here.is ∙ is)
    ∙ ap (λ xs. sites (pattern_of xs) (in_option (pattern_of (drop (i + 1) es)) (place_at es i at))) (sym again)
    ∙ ap (λ k. sites (pattern_of other) k) (sym (in_ ∙ ap (λ xs. in_option (pattern_of xs) q) here.others ∙ ap (λ k. in_option (pattern_of (drop (i + 1) es)) k) here.place))

-- ---- a repetition or an option that breaks no rule stands in less than three others

not_three : (n : ℕ) → ¬ (3 ≤ n) → n < 3
not_three n h = omega (arith, h)

pub few_repetition : (result : MetaType) (e : Element) (p : Pattern) (q : Place) (answer : Option ℕ) (least : ℕ) (sep : Option Token) (body : List Element) (span : Span) →
    e ≡ v.Repeat least sep body span → answer ≡ None → IsJudged result (element e p) q answer → q.depth < 3
few_repetition result e p q answer least sep body span is none judged =
    let P : Option ℕ → Type 0 = λ a. IsJudged result (element e p) q a in
    let Q : Pattern → Type 0 = λ r. Keeps result (site r q) in
    let keeps = subst Q (ap (λ d. element d p) is ∙ element_repeat least sep body span p) (subst P none judged) in
    not_three q.depth (keeps P1)

pub few_option : (result : MetaType) (e : Element) (p : Pattern) (q : Place) (answer : Option ℕ) (intro : Token) (body : List Element) (span : Span) →
    e ≡ v.Maybe intro body span → answer ≡ None → IsJudged result (element e p) q answer → q.depth < 3
few_option result e p q answer intro body span is none judged =
    let P : Option ℕ → Type 0 = λ a. IsJudged result (element e p) q a in
    let Q : Pattern → Type 0 = λ r. Keeps result (site r q) in
    let keeps = subst Q (ap (λ d. element d p) is ∙ element_maybe intro body span p) (subst P none judged) in
    not_three q.depth (keeps P1)
