-- A tree that is spelled in plain C90 is valid, and does to the declaration around it what its sort says.
use Rattle.std.proofs.Common.{◌≡◌, refl, ap, sym, ◌∙◌, ℕ, Bool, true, false, not, ◌&&◌, ◌||◌, if◌then◌else◌, List, [], ◌∷◌, Option, Some, None}
use Rattle.c_tokens.specs.declared.span.Span.{Span}
use Rattle.c_tokens.specs.declared.token.Shape.{Shape}
use Rattle.c_forms.specs.declared.pieces.Sort.{Sort}
use Rattle.c_forms.specs.declared.pieces.Sort.TheVariants as s
use Rattle.c_forms.specs.declared.forms.Form.{Form}
use Rattle.c_forms.specs.declared.forms.Form.TheVariants as form
use Rattle.c_forms.specs.declared.rules.Rule.{Rule}
use Rattle.c_forms.specs.declared.rules.Rule.TheVariants as rule
use Rattle.c_forms.specs.Forests.{Plain, forest, node}
use Rattle.c_forms.specs.Measures.{pieces}
use Rattle.c_forms.specs.Places.{stands}
use Rattle.c_forms.specs.Fits.{fits}
use Rattle.c_forms.specs.Rules.{is_type, is_sole, is_decl, is_nothing, is_right, among_rules}
use Rattle.c_reader.specs.States.{Kept}
use Rattle.c_reader.specs.Tokens.{Spot}
use Rattle.c_trees.specs.Valid.{valid, valid_tree}
use Rattle.c_syntax.specs.Reading.{Usual, is_starred, the_list}
use Rattle.c_syntax.specs.Spells.{Spelling, Matches, IsNode, may_be, parts_spelled, started_by}
use Rattle.spelled_trees.specs.Effects.{Need, NoMatter, Anew, Unnamed, needs, Meets, IsNew, Does, Keeps, Renews, LeavesName, Changes, does, Done, Leaves, is_plain_sort}
use Rattle.spelled_trees.specs.Told.{is_named, Declared, Besides, Told}
use Rattle.spelled_trees.proofs.Parts.{both, Each}
use Rattle.spelled_trees.proofs.Fitted.{fitted}
use Rattle.spelled_trees.proofs.Walks.{Know, Same, Typedefed, Typed, Sole, New, Nameless, Knows, specifies, ends_as, ends, starts_as}
use Rattle.spelled_trees.proofs.Suits.{is_declarator, is_stmt}
use Rattle.spelled_trees.proofs.Rows.{right}
use Rattle.spelled_trees.proofs.Walked.{walked}
use Rattle.spelled_trees.proofs.Named.{declared, abstract, of_param, of_member}
use Rattle.spelled_trees.proofs.Endings.{Ends}
use Rattle.spelled_trees.proofs.Rules.{rules}

-- ---- what is known at the end of a row

begun : (n : Need) (kept : Kept) → Meets n kept → Knows (starts_as n) kept kept
begun NoMatter kept M = refl
begun Anew kept M = M
begun Unnamed kept M = M

done_as : (d : Does) (n : Need) (k : Know) (first now : Kept) → Meets n first → ends_as d n k ≡ true → Knows k first now → Done d first now
done_as Keeps n Same first now M e K = K
done_as Keeps n k first now M e K = absurd (cc e)
done_as Renews n New first now M e K = K
done_as Renews n k first now M e K = absurd (cc e)
done_as LeavesName Unnamed New first now M e K = K.nameless ∙ sym M
done_as LeavesName Unnamed Nameless first now M e K = K ∙ sym M
done_as LeavesName n k first now M e K = absurd (cc e)
done_as Changes n k first now M e K = tt

name_kept : (k : Know) (f : Form) (first now : Kept) → specifies k f ≡ true → Knows k first now → now.name ≡ first.name
name_kept Same f first now e K = ap (λ (x : Kept). x.name) K
name_kept Typedefed f first now e K = ap (λ (x : Kept). x.name) K
name_kept Typed f first now e K = ap (λ (x : Kept). x.name) K
name_kept Sole f first now e K = ap (λ (x : Kept). x.name) K
name_kept k f first now e K = absurd (cc e)

done : (own : Sort) (f : Form) (k : Know) (first now : Kept) → Meets (needs own) first → ends own f k ≡ true → Knows k first now → Done (does own) first now
done s.Spec f k first now M e K = name_kept k f first now e K
done s.PlainSpec f k first now M e K = name_kept k f first now e K
done own f k first now M e K = done_as (does own) (needs own) k first now M e K

neither : (a b : Bool) → (not a && not b) ≡ true → (a ≡ false) × (b ≡ false)
neither true b e = absurd (cc e)
neither false true e = absurd (cc e)
neither false false e = (refl, refl)

first_alone : (a b : Bool) → (a && not b) ≡ true → (a ≡ true) × (b ≡ false)
first_alone true false e = (refl, refl)
first_alone true true e = absurd (cc e)
first_alone false b e = absurd (cc e)

and_both : (a b : Bool) → (a && b) ≡ true → (a ≡ true) × (b ≡ true)
and_both true true e = (refl, refl)
and_both true false e = absurd (cc e)
and_both false b e = absurd (cc e)

no_more : (a : Bool) {b : Bool} → b ≡ false → a ≡ (a || b)
no_more true e = refl
no_more false e = sym e

some_more : (a : Bool) {b : Bool} → b ≡ true → true ≡ (a || b)
some_more true e = refl
some_more false e = sym e

-- what a specifier adds
pub adds : (k : Know) (f : Form) (first now : Kept) → specifies k f ≡ true → Knows k first now → (now.has_type ≡ (first.has_type || is_type f)) × (now.is_sole ≡ (first.is_sole || is_sole f))
adds Same f first now e K = let h = neither (is_type f) (is_sole f) e in (ap (λ (x : Kept). x.has_type) K ∙ no_more first.has_type h.0, ap (λ (x : Kept). x.is_sole) K ∙ no_more first.is_sole h.1)
adds Typedefed f first now e K = let h = neither (is_type f) (is_sole f) e in (ap (λ (x : Kept). x.has_type) K ∙ no_more first.has_type h.0, ap (λ (x : Kept). x.is_sole) K ∙ no_more first.is_sole h.1)
adds Typed f first now e K = let h = first_alone (is_type f) (is_sole f) e in (ap (λ (x : Kept). x.has_type) K ∙ some_more first.has_type h.0, ap (λ (x : Kept). x.is_sole) K ∙ no_more first.is_sole h.1)
adds Sole f first now e K = let h = and_both (is_type f) (is_sole f) e in (ap (λ (x : Kept). x.has_type) K ∙ some_more first.has_type h.0, ap (λ (x : Kept). x.is_sole) K ∙ some_more first.is_sole h.1)
adds k f first now e K = absurd (cc e)

-- ---- validity

abbrev Valid : Plain → Type 0
Valid t = valid_tree t ≡ true

all_valid : (ts : List Plain) → Each Valid ts → valid (forest ts) ≡ true
all_valid [] E = refl
all_valid (t ∷ ts) E = both (valid_tree t) (valid (forest ts)) E.0 (all_valid ts E.1)

valid_lists : (sp : Span) (ts : List Plain) → Each Valid ts → Valid (node the_list sp ts)
valid_lists sp ts E = all_valid ts E

right_by : (b : Bool) (o : Option Rule) → b ≡ true → o ≡ None → is_nothing (if b then o else Some rule.Parts) ≡ true
right_by true o e k = ap is_nothing k
right_by false o e k = absurd (cc e)

pub stmt_no_decl : (f : Form) → is_stmt f ≡ true → is_decl f ≡ false
stmt_no_decl (form.Stmt f) h = refl
stmt_no_decl f h = absurd (cc h)

pub opposed : {A : Type 0} {b : Bool} → b ≡ true → b ≡ false → A
opposed e f = absurd (cc (e, f))

-- where a function may begin
pub anew_started : (b : Bool) (i : Spot) → IsNew i.state.kept → IsNew (started_by b i).state.kept
anew_started true i N = record { untyped = N.untyped; unsettled = N.unsettled; nameless = N.nameless }
anew_started false i N = N

pub aside_started : (b : Bool) (i : Spot) → (started_by b i).state.aside ≡ i.state.aside
aside_started true i = refl
aside_started false i = refl

-- ---- nodes

-- what holds of all that is spelled so, where its sort may begin
pub record Telling (w : List Shape) (P : Spelling) : Type 0 where
  pub tells : (due : Sort) (least : ℕ) (t : Plain) (i j : Spot) → P due least t i j → is_plain_sort due ≡ true → Meets (needs due) i.state.kept → Told w due t i j
  pub stand : (due : Sort) (least : ℕ) (t : Plain) (i j : Spot) → P due least t i j → stands t.form due ≡ true
  pub «ends» : Ends w P

by_kind : (w : List Shape) (b : Bool) (deeper inner : Spelling) → Telling w deeper → Telling w inner → Telling w (parts_spelled b deeper inner)
by_kind w true deeper inner D I = D
by_kind w false deeper inner D I = I

module _ (w : List Shape) (P : Spelling) (T : Telling w P) where
  -- a declarator, as one of four sorts
  pub as_declared : (f : Form) (sp : Span) (ts : List Plain) (i j : Spot) → is_declarator f ≡ true → may_be s.Declarator f ≡ true → Matches P w s.Declarator f Usual (pieces f) ts i j → Declared (node f sp ts) j.state.kept
  as_declared (form.Declarator g) sp ts i j h m M = declared w P T.tells T.stand g sp ts i j m M
  as_declared f sp ts i j h m M = absurd (cc h)

  pub as_abstract : (f : Form) (sp : Span) (ts : List Plain) (i j : Spot) → is_declarator f ≡ true → may_be s.AbstractDeclarator f ≡ true → i.state.kept.name ≡ None → Matches P w s.AbstractDeclarator f Usual (pieces f) ts i j → is_named (node f sp ts) ≡ false
  as_abstract (form.Declarator g) sp ts i j h m N M = abstract w P T.tells T.stand g sp ts i j m N M
  as_abstract f sp ts i j h m N M = absurd (cc h)

  pub as_param : (f : Form) (sp : Span) (ts : List Plain) (i j : Spot) → is_declarator f ≡ true → i.state.kept.name ≡ None → Matches P w s.ParamDeclarator f Usual (pieces f) ts i j → Besides w s.ParamDeclarator (node f sp ts) i j
  as_param (form.Declarator g) sp ts i j h N M = of_param w P T.tells T.stand g sp ts i j N M
  as_param f sp ts i j h N M = absurd (cc h)

  pub as_member : (f : Form) (sp : Span) (ts : List Plain) (i j : Spot) → is_declarator f ≡ true → Matches P w s.MemberName f Usual (pieces f) ts i j → Besides w s.MemberName (node f sp ts) i j
  as_member (form.Declarator g) sp ts i j h M = of_member w P T.tells T.stand g sp ts i j M
  as_member f sp ts i j h M = absurd (cc h)

-- a node whose parts tell what they must
pub record IsRight (own : Sort) (t : Plain) (i j : Spot) : Type 0 where
  pub leaves : Leaves own i.state j.state
  pub right : is_right t.form t.parts ≡ true
  pub parts : valid t.parts ≡ true
  pub know : Know
  pub ended : ends own t.form know ≡ true
  pub knows : Knows know i.state.kept j.state.kept

module _ (levels : Type 0) (deeper inner : Spelling) (w : List Shape) (D : Telling w deeper) (I : Telling w inner) where
  abbrev pub Spelled : Plain → Spelling
  Spelled t = parts_spelled (is_starred t.form) deeper inner

  pub parts_tell : (t : Plain) → Telling w (Spelled t)
  parts_tell t = by_kind w (is_starred t.form) deeper inner D I

  -- each node that is spelled is right over its parts
  pub node_right : (own : Sort) (least : ℕ) (t : Plain) (i j : Spot) → IsNode levels deeper inner w own least t i j → is_plain_sort own ≡ true → Meets (needs own) i.state.kept → IsRight own t i j
  node_right own least t i j N p M = let R = right own t.form p N.may in let T = parts_tell t in let e = ap (λ (x : Plain). x.parts) N.value in
      let W = walked w (Spelled t) Valid valid_lists (λ due least t i j q a m. let told = T.tells due least t i j q a m in (told.leaves, told.valid)) own t.form i.state.kept i.state.aside Usual (pieces t.form)
      (starts_as (needs own)) [] N.parts i j R.walked (begun (needs own) i.state.kept M) refl N.matches in record {
        leaves = record { aside = W.aside_same; kept = done own t.form W.know i.state.kept j.state.kept M W.ended W.knows };
        right = ap (λ l. is_right t.form l) e ∙ right_by (fits (pieces t.form) (forest N.parts)) (among_rules t.form (forest N.parts)) (fitted w (Spelled t) T.stand own t.form Usual (pieces t.form) N.parts i j R.fine N.matches)
            (rules w (Spelled t) T.tells T.stand T.ends t.form own N.parts i j R p M N.matches);
        parts = ap valid e ∙ all_valid N.parts W.each;
        know = W.know;
        ended = W.ended;
        knows = W.knows;
      }

  pub told : (own : Sort) (t : Plain) (i j : Spot) → IsRight own t i j → Besides w own t i j → Told w own t i j
  told own t i j R b = record { leaves = R.leaves; valid = both (is_right t.form t.parts) (valid t.parts) R.right R.parts; besides = b }
