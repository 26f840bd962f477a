-- What a tree keeps where its spans are placed.
use Rattle.std.proofs.Common.{◌≡◌, ◌+◌, ◌≤◌, refl, ap, sym, subst, ◌∙◌, Bool, true, false, ◌&&◌, List, [], ◌∷◌, map}
use Rattle.c_tokens.specs.declared.span.Span.{Span}
use Rattle.c_tokens.specs.declared.token.Token.{Token}
use Rattle.c_forms.specs.Measures.{weight, star, is_plain}
use Rattle.c_forms.specs.Forests.{Plain, tree, forest}
use Rattle.c_forms.specs.Rules.{is_right}
use Rattle.c_forms.specs.contracts.forms.FormEq.TheImpl.Laws.{laws-law}
use Rattle.c_forms.specs.Equal.{one_form}
use Rattle.c_trees.specs.Same.{same, same_tree}
use Rattle.c_trees.specs.Counts.{count_tree, high, high_tree, pure_tree}
use Rattle.c_trees.specs.Valid.{valid, valid_tree}
use Rattle.draft_trees.specs.Placing.{respanned, placed, placed_span}
use Rattle.draft_trees.proofs.Kept.{count_kept, high_kept, pure_kept, right_kept, valid_kept, same_as_before, same_kept, respanned_twice}

-- ---- trees side by side

pub placed_forest : (ts : List Token) (xs : List Plain) → forest (map (placed ts) xs) ≡ respanned (placed_span ts) (forest xs)
placed_forest ts [] = refl
placed_forest ts (x ∷ xs) = ap (λ t. tree x.form (placed_span ts x.span) (respanned (placed_span ts) x.parts) t) (placed_forest ts xs)

-- ---- a node over placed parts

first_true : (a b : Bool) → (a && b) ≡ true → a ≡ true
first_true true b h = refl
first_true false b h = cc

pub placed_parts : (ts : List Token) (t : Plain) (xs : List Plain) → forest xs ≡ t.parts → forest (map (placed ts) xs) ≡ respanned (placed_span ts) t.parts
placed_parts ts t xs e = placed_forest ts xs ∙ ap (respanned (placed_span ts)) e

pub placed_low : (ts : List Token) (t : Plain) (xs : List Plain) → forest xs ≡ t.parts → high_tree t ≤ 1000 → star t.form + high (forest (map (placed ts) xs)) ≤ 1000
placed_low ts t xs e h = subst (λ n. star t.form + n ≤ 1000) (sym (ap high (placed_parts ts t xs e) ∙ high_kept (placed_span ts) t.parts)) h

pub placed_right : (ts : List Token) (t : Plain) (xs : List Plain) → forest xs ≡ t.parts → valid_tree t ≡ true → is_right t.form (forest (map (placed ts) xs)) ≡ true
placed_right ts t xs e v = ap (is_right t.form) (placed_parts ts t xs e) ∙ right_kept (placed_span ts) t.form t.parts ∙ first_true (is_right t.form t.parts) (valid t.parts) v

-- ---- what a placed tree keeps

pub same_size : (ts : List Token) (t : Plain) → count_tree (placed ts t) ≡ count_tree t
same_size ts t = ap (λ n. weight t.form + n) (count_kept (placed_span ts) t.parts)

pub same_height : (ts : List Token) (t : Plain) → high_tree (placed ts t) ≡ high_tree t
same_height ts t = ap (λ n. star t.form + n) (high_kept (placed_span ts) t.parts)

pub same_purity : (ts : List Token) (t : Plain) → pure_tree (placed ts t) ≡ pure_tree t
same_purity ts t = ap (λ b. is_plain t.form && b) (pure_kept (placed_span ts) t.parts)

pub same_validity : (ts : List Token) (t : Plain) → valid_tree (placed ts t) ≡ valid_tree t
same_validity ts t = ap (λ b. b && valid (respanned (placed_span ts) t.parts)) (right_kept (placed_span ts) t.form t.parts) ∙ ap (λ b. is_right t.form t.parts && b) (valid_kept (placed_span ts) t.parts)

-- it is the same as the tree
pub same_tree_as_before : (ts : List Token) (t : Plain) → same_tree (placed ts t) t ≡ true
same_tree_as_before ts t = ap (λ b. b && same (respanned (placed_span ts) t.parts) t.parts) (laws-law.refl t.form) ∙ same_as_before (placed_span ts) t.parts

-- two are the same where they were before
pub same_sameness : (ts us : List Token) (t u : Plain) → same_tree (placed ts t) (placed us u) ≡ same_tree t u
same_sameness ts us t u = ap (λ b. one_form t.form u.form && b) (same_kept (placed_span ts) (placed_span us) t.parts u.parts)

-- its form and its parts are those of the tree, but for the spans: they are equal where each span is replaced by one and the same
pub same_but_spans : (s : Span) (ts : List Token) (t : Plain) → ((placed ts t).form ≡ t.form) × (respanned (λ _. s) (placed ts t).parts ≡ respanned (λ _. s) t.parts)
same_but_spans s ts t = (refl, respanned_twice (λ _. s) (placed_span ts) t.parts)
