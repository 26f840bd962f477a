-- A pattern, element by element.
use Rattle.std.proofs.Common.{◌≡◌, suc, refl, ap, sym, ◌∙◌, ℕ, ◌+◌, ◌<◌, ◌≤◌, List, [], ◌∷◌, ◌++◌, map, length, drop, get_or, arith, Option, false, ◌||◌, nat_eq, drop-cons, add-one, length-drop}
use Rattle.std.proofs.lemmas.Bool.Decides.{eqb_tells}
use Rattle.c_tokens.specs.declared.token.Token.{Token}
use Rattle.c_tokens.specs.declared.token.Word.{Word}
use Rattle.c_tokens.specs.declared.kind.Kind.{Kind}
use Rattle.c_tokens.specs.declared.span.Span.{Span}
use Rattle.c_tokens.specs.declared.element.Element.{Element, fold-Element, fold-roll-Element, roll-Element, out-Element, roll-out-Element}
use Rattle.c_tokens.specs.declared.element.Element.TheOpen.{Element-F}
use Rattle.c_tokens.specs.declared.element.Element.TheVariants as v
use Rattle.c_tokens.specs.declared.element.Element.TheVariants.{rolls-Literal, rolls-Bind, rolls-Repeat, rolls-Maybe}
use Rattle.pattern_language.specs.Patterns.{Pattern, Done, Literal, Bind, Repeat, Maybe, before, element, after_all, pattern_of, is_among}
use Rattle.pattern_language.specs.Rules.{is_done}
use Rattle.pattern_language.proofs.SetLemmas.{or_assoc}

each : (es : List Element) → after_all (map (fold-Element (Pattern → Pattern) before) es) Done ≡ pattern_of es
unfolding pattern_of element
each [] = refl
each (e ∷ es) = ap (fold-Element (Pattern → Pattern) before e) (each es)

pub element_literal : (t : Token) (p : Pattern) → element (v.Literal t) p ≡ Literal t p
unfolding element
element_literal t p = ap (λ e. element e p) (sym (rolls-Literal t)) ∙ ap (λ f. f p) (fold-roll-Element (Pattern → Pattern) before (Element-F.Literal t))

pub element_bind : (kind : Kind) (name : Word) (span : Span) (p : Pattern) → element (v.Bind kind name span) p ≡ Bind kind name p
unfolding element
element_bind kind name span p = ap (λ e. element e p) (sym (rolls-Bind kind name span)) ∙ ap (λ f. f p) (fold-roll-Element (Pattern → Pattern) before (Element-F.Bind kind name span))

pub element_repeat : (least : ℕ) (sep : Option Token) (body : List Element) (span : Span) (p : Pattern) → element (v.Repeat least sep body span) p ≡ Repeat least sep (pattern_of body) p
unfolding element
element_repeat least sep body span p = ap (λ e. element e p) (sym (rolls-Repeat least sep body span)) ∙ ap (λ f. f p) (fold-roll-Element (Pattern → Pattern) before (Element-F.Repeat least sep body span))
    ∙ ap (λ b. Repeat least sep b p) (each body)

pub element_maybe : (intro : Token) (body : List Element) (span : Span) (p : Pattern) → element (v.Maybe intro body span) p ≡ Maybe intro (pattern_of body) p
unfolding element
element_maybe intro body span p = ap (λ e. element e p) (sym (rolls-Maybe intro body span)) ∙ ap (λ f. f p) (fold-roll-Element (Pattern → Pattern) before (Element-F.Maybe intro body span))
    ∙ ap (λ b. Maybe intro b p) (each body)

pub ruleset forms = (element_literal, element_bind, element_repeat, element_maybe)

pub pattern_empty : (es : List Element) → length es ≡ 0 → pattern_of es ≡ Done
unfolding pattern_of
pattern_empty [] h = refl
pattern_empty (e ∷ es) h = absurd (cc h)

-- ---- the elements from number i on

pub rest_end : (es : List Element) (i : ℕ) → length es ≤ i → pattern_of (drop i es) ≡ Done
rest_end es i h = pattern_empty (drop i es) (omega (arith, length-drop i es))

pub rest_step : (es : List Element) (i : ℕ) (d : Element) → i < length es → pattern_of (drop i es) ≡ element (get_or es i d) (pattern_of (drop (i + 1) es))
unfolding pattern_of
rest_step es i d h = rw (add-one, drop-cons es i d) refl

pub rest_literal : (es : List Element) (i : ℕ) (d : Element) (t : Token) → i < length es → get_or es i d ≡ v.Literal t → pattern_of (drop i es) ≡ Literal t (pattern_of (drop (i + 1) es))
rest_literal es i d t h is = rest_step es i d h ∙ ap (λ e. element e (pattern_of (drop (i + 1) es))) is ∙ element_literal t (pattern_of (drop (i + 1) es))

pub rest_bind : (es : List Element) (i : ℕ) (d : Element) (kind : Kind) (name : Word) (span : Span) → i < length es → get_or es i d ≡ v.Bind kind name span → pattern_of (drop i es) ≡ Bind kind name (pattern_of (drop (i + 1) es))
rest_bind es i d kind name span h is = rest_step es i d h ∙ ap (λ e. element e (pattern_of (drop (i + 1) es))) is ∙ element_bind kind name span (pattern_of (drop (i + 1) es))

pub rest_repeat : (es : List Element) (i : ℕ) (d : Element) (least : ℕ) (sep : Option Token) (body : List Element) (span : Span) → i < length es → get_or es i d ≡ v.Repeat least sep body span → pattern_of (drop i es) ≡ Repeat least sep (pattern_of body) (pattern_of (drop (i + 1) es))
rest_repeat es i d least sep body span h is = rest_step es i d h ∙ ap (λ e. element e (pattern_of (drop (i + 1) es))) is ∙ element_repeat least sep body span (pattern_of (drop (i + 1) es))

pub rest_maybe : (es : List Element) (i : ℕ) (d : Element) (intro : Token) (body : List Element) (span : Span) → i < length es → get_or es i d ≡ v.Maybe intro body span → pattern_of (drop i es) ≡ Maybe intro (pattern_of body) (pattern_of (drop (i + 1) es))
rest_maybe es i d intro body span h is = rest_step es i d h ∙ ap (λ e. element e (pattern_of (drop (i + 1) es))) is ∙ element_maybe intro body span (pattern_of (drop (i + 1) es))

pub ruleset rests = (rest_literal, rest_bind, rest_repeat, rest_maybe, rest_end)

pub is_among-append : (xs ys : List Word) (w : Word) → is_among (xs ++ ys) w ≡ (is_among xs w || is_among ys w)
unfolding is_among
is_among-append [] ys w = refl
is_among-append (x ∷ xs) ys w = ap (λ b. nat_eq x.0 w.0 || b) (is_among-append xs ys w) ∙ or_assoc (nat_eq x.0 w.0) (is_among xs w) (is_among ys w)

pub ruleset among_lists = (is_among-append)

-- ---- no element is the end

not_done_at : (l : Element-F Element) (p : Pattern) → is_done (element (roll-Element l) p) ≡ false
not_done_at (Element-F.Literal t) p = rw (rolls-Literal t, element_literal t p) refl
not_done_at (Element-F.Bind kind name span) p = rw (rolls-Bind kind name span, element_bind kind name span p) refl
not_done_at (Element-F.Repeat least sep body span) p = rw (rolls-Repeat least sep body span, element_repeat least sep body span p) refl
not_done_at (Element-F.Maybe intro body span) p = rw (rolls-Maybe intro body span, element_maybe intro body span p) refl

not_done : (e : Element) (p : Pattern) → is_done (element e p) ≡ false
not_done e p = rw roll-out-Element at (not_done_at (out-Element e) p)

not_zero : (n : ℕ) → nat_eq (suc n) 0 ≡ false
not_zero n = grind (arith, eqb_tells (suc n) 0)

pub is_done_is : (es : List Element) → is_done (pattern_of es) ≡ nat_eq (length es) 0
unfolding pattern_of
is_done_is [] = refl
is_done_is (e ∷ es) = not_done e (pattern_of es) ∙ sym (not_zero (length es))

pub ruleset dones = (is_done_is)
