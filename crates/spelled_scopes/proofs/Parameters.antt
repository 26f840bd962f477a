-- The parameters of a function, and identifier lists.
use Rattle.std.proofs.Common.{◌≡◌, refl, ap, sym, subst, ◌∙◌, ℕ, Bool, true, false, nat_eq, if◌then◌else◌, List, [], ◌∷◌, ◌++◌, Some}
use borrow.Author.Tests.{eqb-true}
use Rattle.c_tokens.specs.declared.span.Span.{Span}
use Rattle.c_tokens.specs.declared.token.Shape.{Shape}
use Rattle.c_tokens.specs.declared.token.Punct.TheVariants as punct
use Rattle.c_tokens.specs.declared.class.Class.TheVariants as class
use Rattle.c_forms.specs.declared.pieces.Repetition.TheVariants.{Many}
use Rattle.c_forms.specs.declared.pieces.Sort.{Sort}
use Rattle.c_forms.specs.declared.pieces.Sort.TheVariants as s
use Rattle.c_forms.specs.declared.forms.Form.TheVariants as form
use Rattle.c_forms.specs.declared.forms.ParamsForm.{ParamsForm}
use Rattle.c_forms.specs.declared.forms.ParamsForm.TheVariants as params
use Rattle.c_forms.specs.Forests.{Plain, node}
use Rattle.c_forms.specs.Measures.{pieces}
use Rattle.c_reader.specs.States.{Entry, State, nothing_kept, is_type}
use Rattle.c_reader.specs.Tokens.{Spot}
use Rattle.c_syntax.specs.Reading.{Usual, spanned, the_list}
use Rattle.c_syntax.specs.Spells.{Spelling, Matches}
use Rattle.scope_tables.specs.Frames.{left}
use Rattle.scope_meanings.specs.declared.meaning.NameUse.TheVariants as naming
use Rattle.scopes.specs.Settling.{Scoped, settled}
use Rattle.spelled_scopes.specs.Meant.{frames, after_words, events_in, words_in}
use Rattle.spelled_scopes.proofs.Apart.{must_be_value}
use Rattle.spelled_scopes.proofs.Frames.{settled_on, words_on, words_left}
use Rattle.spelled_scopes.proofs.Joined.{append_nil, state_at, events_joined, words_joined, grouped}
use Rattle.spelled_scopes.proofs.Laws.{Says, Listed, Parameters}
use Rattle.spelled_scopes.proofs.Quiet.{Lawful, quiet_parts}

-- ---- identifier lists

-- a word that is a type in some entries is one in others
abbrev Types : List Entry → List Entry → Type 0
Types es os = (n : ℕ) → is_type es n ≡ true → is_type os n ≡ true

-- each is a value in the scopes around them too
abbrev Ids : List Plain → State → State → Type 0
Ids ts s m = s.kept.has_type ≡ false →
    (m.entries ≡ after_words (words_in naming.CheckedAndDeclared ts) s.entries) × ((m.aside ≡ s.aside) × ((m.kept.has_type ≡ false)
    × ((es : List Entry) → Types es s.entries → (settled (events_in naming.Checked ts) (frames es) ≡ Scoped (frames es)) × Types es m.entries)))

ids_none : (s : State) → Ids [] s s
ids_none s = λ f. (refl, (refl, (f, λ es o. (refl, o))))

ids_on : (ts vs : List Plain) (s m z : State) → Ids ts s m → Ids vs m z → Ids (ts ++ vs) s z
ids_on ts vs s m z p q = λ f.
    let x = p f in
    let y = q x.1.1.0 in (
      y.0 ∙ ap (after_words (words_in naming.CheckedAndDeclared vs)) x.0 ∙ sym (words_on (words_in naming.CheckedAndDeclared ts) (words_in naming.CheckedAndDeclared vs) s.entries)
          ∙ ap (λ ws. after_words ws s.entries) (sym (words_joined naming.CheckedAndDeclared ts vs)),
      (
        y.1.0 ∙ x.1.0,
        (
          y.1.1.0,
          λ es o.
              let a = x.1.1.1 es o in
              let b = y.1.1.1 es a.1 in
              (ap (λ l. settled l (frames es)) (events_joined naming.Checked ts vs) ∙ settled_on (events_in naming.Checked ts) (events_in naming.Checked vs) (frames es) (frames es) a.0 ∙ b.0, b.1),
        ),
      ),
    )

apart_from : (b : Bool) → b ≡ false → b ≡ true → ⊥
apart_from true f t = absurd (cc f)
apart_from false f t = absurd (cc t)

not_there : (b : Bool) → (b ≡ true → ⊥) → b ≡ false
not_there true n = absurd (n refl)
not_there false n = refl

kept_type : (c a b : Bool) → (c ≡ true → a ≡ true → ⊥) → (a ≡ true → b ≡ true) → a ≡ true → (if c then false else b) ≡ true
kept_type true a b n f e = absurd (n refl e)
kept_type false a b n f e = f e

id_says : (w : List Shape) (S : Spelling) → Lawful S → (t : Plain) (i j : Spot) → S s.ParameterId 0 t i j → Ids (t ∷ []) i.state j.state
id_says w S lawful t i j x = λ f.
    let l : Listed t i.state j.state = lawful s.ParameterId 0 t i j x in
    let v : is_type i.state.entries l.word.0 ≡ false = l.is_value f in
    subst (λ t. (j.state.entries ≡ after_words (words_in naming.CheckedAndDeclared (t ∷ [])) i.state.entries) × ((j.state.aside ≡ i.state.aside) × ((j.state.kept.has_type ≡ false)
    × ((es : List Entry) → Types es i.state.entries → (settled (events_in naming.Checked (t ∷ [])) (frames es) ≡ Scoped (frames es)) × Types es j.state.entries)))) (sym l.value) (
      l.entries,
      (
        l.aside,
        (
          l.has ∙ f,
          λ es o.
              let here : is_type es l.word.0 ≡ false = not_there (is_type es l.word.0) (λ e. apart_from (is_type i.state.entries l.word.0) v (o l.word.0 e)) in (
                must_be_value l.word l.span [] (record i.state { entries = es }) here,
                λ n e. subst (λ zs. is_type zs n ≡ true) (sym l.entries) (kept_type (nat_eq n l.word.0) (is_type es n) (is_type i.state.entries n)
                    (λ c e. apart_from (is_type es l.word.0) here (ap (is_type es) (sym (eqb-true n l.word.0 c)) ∙ e)) (o n) e),
              ),
        ),
      ),
    )

-- ---- parameters

module _ (w : List Shape) (S : Spelling) (lawful : Lawful S) (own : Sort) where
  ids_say : (sp : Span) (ts : List Plain) (i j : Spot) → Matches S w own (form.Params params.Ids) Usual (pieces (form.Params params.Ids)) ts i j → Parameters (node (form.Params params.Ids) sp ts) i.state j.state
  ids_say sp ts i j m =
      let l = m.is_first in
      let q : Plain = node the_list (spanned i.place m.place.place) l.0 in
      let tree : ts ≡ q ∷ [] = m.value ∙ ap (λ t. t ∷ m.others) l.1.0 ∙ ap (λ l. q ∷ l) m.are_others.0 in
      let g : Ids l.0 i.state m.place.state = grouped Ids ids_none ids_on w (S s.ParameterId 0) (id_says w S lawful) (Many (Some (class.Punct punct.Comma)) 0) s.ParameterId Usual l.0 i m.place l.1.1 in
      let free = λ (f : i.state.kept ≡ nothing_kept). g (ap (λ k. k.has_type) f) in
      subst (λ z. Parameters (node (form.Params params.Ids) sp ts) i.state z) (state_at m.place j m.are_others.1) (subst (λ ts. Parameters (node (form.Params params.Ids) sp ts) i.state m.place.state) (sym tree) (record {
        inner = events_in naming.Checked (q ∷ []);
        events = λ u. refl;
        no_words = λ u. refl;
        ends = λ f. record {
          last = frames i.state.entries;
          scoped = ap (λ l. settled l (frames i.state.entries)) (append_nil (events_in naming.Checked l.0 ++ []) ∙ append_nil (events_in naming.Checked l.0)) ∙ ((free f).1.1.1 i.state.entries (λ n e. e)).0;
          same = sym (words_left (words_in naming.CheckedAndDeclared l.0) i.state.entries) ∙ ap (λ es. left (frames es)) (sym (free f).0);
        };
        declared = λ f. (free f).0 ∙ ap (λ ws. after_words ws i.state.entries) (sym (append_nil (words_in naming.CheckedAndDeclared l.0 ++ []) ∙ append_nil (words_in naming.CheckedAndDeclared l.0)));
        aside = λ f. (free f).1.0;
        no_name = refl;
        beside = refl;
      }))

  typed_say : (sp : Span) (ts : List Plain) (i j : Spot) → Says naming.Nothing ts i.state j.state → Parameters (node (form.Params params.Typed) sp ts) i.state j.state
  typed_say sp ts i j g = record {
    inner = events_in naming.Nothing ts;
    events = λ u. refl;
    no_words = λ u. refl;
    ends = λ f. record { last = frames j.state.entries; scoped = (g f).0.scoped; same = refl };
    declared = λ f. (g f).0.declared;
    aside = λ f. (g f).0.aside;
    no_name = refl;
    beside = refl;
  }

  more_say : (sp : Span) (ts : List Plain) (i j : Spot) → Says naming.Nothing ts i.state j.state → Parameters (node (form.Params params.TypedAndMore) sp ts) i.state j.state
  more_say sp ts i j g = record {
    inner = events_in naming.Nothing ts;
    events = λ u. refl;
    no_words = λ u. refl;
    ends = λ f. record { last = frames j.state.entries; scoped = (g f).0.scoped; same = refl };
    declared = λ f. (g f).0.declared;
    aside = λ f. (g f).0.aside;
    no_name = refl;
    beside = refl;
  }

  pub params_say : (f : ParamsForm) (sp : Span) (ts : List Plain) (i j : Spot) → Matches S w own (form.Params f) Usual (pieces (form.Params f)) ts i j → Parameters (node (form.Params f) sp ts) i.state j.state
  params_say params.Ids sp ts i j m = ids_say sp ts i j m
  params_say params.Typed sp ts i j m = typed_say sp ts i j (quiet_parts w S lawful own (form.Params params.Typed) Usual (pieces (form.Params params.Typed)) ts i j refl m)
  params_say params.TypedAndMore sp ts i j m = more_say sp ts i j (quiet_parts w S lawful own (form.Params params.TypedAndMore) Usual (pieces (form.Params params.TypedAndMore)) ts i j refl m)
