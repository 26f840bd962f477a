-- What is spelled in plain C90 is a valid tree, by induction on the depth.
use Rattle.std.proofs.Common.{◌≡◌, inl, inr, refl, sym, ◌∙◌, subst, ℕ, zero, suc, Bool, true, List}
use Rattle.c_tokens.specs.declared.token.Shape.{Shape}
use Rattle.c_forms.specs.declared.pieces.Sort.{Sort}
use Rattle.c_forms.specs.declared.pieces.Sort.TheVariants as s
use Rattle.c_forms.specs.Forests.{Plain}
use Rattle.c_forms.specs.Rules.{is_right}
use Rattle.c_reader.specs.Tokens.{Spot, step}
use Rattle.c_trees.specs.Valid.{valid_tree}
use Rattle.c_syntax.specs.Allowed.{may_stand, places}
use Rattle.c_syntax.specs.Reading.{spanned}
use Rattle.c_syntax.specs.Spells.{Spelling, IsNode, At, InPlace, Spells, nothing_spelled, AnyWord, started_by, has_no_specifiers}
use Rattle.spelled_trees.specs.Effects.{needs, Meets, IsNew, Leaves, is_plain_sort}
use Rattle.spelled_trees.specs.Told.{Specified, Declared, Besides, Told}
use Rattle.spelled_trees.proofs.Fitted.{stands_at}
use Rattle.spelled_trees.proofs.Rows.{right}
use Rattle.spelled_trees.proofs.Endings.{ended_at}
use Rattle.spelled_trees.proofs.Valid.{Telling, IsRight, Spelled, parts_tell, node_right, told, adds, stmt_no_decl, opposed, anew_started, aside_started, as_declared, as_abstract, as_param, as_member}

module _ (levels : Type 0) (deeper inner : Spelling) (w : List Shape) (D : Telling w deeper) (I : Telling w inner) where
  abbrev Node : Sort → ℕ → Plain → Spot → Spot → Type 0
  Node own least t i j = IsNode levels deeper inner w own least t i j

  -- a specifier where it may stand
  of_spec : (t : Plain) (i j : Spot) → may_stand i.state t.form ≡ true → IsRight s.Spec t i j → Specified t i.state j.state
  of_spec t i j m R = let a = adds R.know t.form i.state.kept j.state.kept R.ended R.knows in record { may = m; typed = a.0; settled = a.1 }

  of_plain : (t : Plain) (i j : Spot) → may_stand i.state t.form ≡ true → IsRight s.PlainSpec t i j → Specified t i.state j.state
  of_plain t i j m R = let a = adds R.know t.form i.state.kept j.state.kept R.ended R.knows in record { may = m; typed = a.0; settled = a.1 }

  right_at : (own : Sort) (least : ℕ) (t : Plain) (i j : Spot) → Node own least t i j → is_plain_sort own ≡ true → Meets (needs own) i.state.kept → IsRight own t i j
  right_at own least t i j N p M = node_right levels deeper inner w D I own least t i j N p M

  told_at : (own : Sort) (least : ℕ) (t : Plain) (i j : Spot) → Node own least t i j → is_plain_sort own ≡ true → Meets (needs own) i.state.kept → Besides w own t i j → Told w own t i j
  told_at own least t i j N p M b = told levels deeper inner w D I own t i j (right_at own least t i j N p M) b

  word_valid : (t : Plain) (i : Spot) → AnyWord w t i → valid_tree t ≡ true
  word_valid t i A = rw (A.1.1) refl

  item_told : (b : Bool) (least : ℕ) (t : Plain) (i j : Spot) → Node s.Item least t (started_by b i) j → IsNew i.state.kept → Told w s.Item t i j
  item_told b least t i j N M = let R = told_at s.Item least t (started_by b i) j N refl (anew_started b i M) tt in
      record { leaves = record { aside = R.leaves.aside ∙ aside_started b i; kept = R.leaves.kept }; valid = R.valid; besides = tt }

  pub tells_at : (due : Sort) (least : ℕ) (t : Plain) (i j : Spot) → At levels deeper inner w due least t i j → is_plain_sort due ≡ true → Meets (needs due) i.state.kept → Told w due t i j
  tells_at s.Exp least t i j (inl N) p M = told_at s.Exp least t i j N p M tt
  tells_at s.Exp least t i j (inr W) p M = let R = D.tells s.Exp 1 t (step i) W.last W.within refl M in subst (λ k. Told w s.Exp t i k) W.ends (record { leaves = record { aside = R.leaves.aside; kept = R.leaves.kept }; valid = R.valid; besides = tt })
  tells_at s.Declarator least t i j (inl N) p M = told_at s.Declarator least t i j N p M (subst (λ x. Declared x j.state.kept) (sym N.value)
      (as_declared w (Spelled levels deeper inner w D I t) (parts_tell levels deeper inner w D I t) t.form (spanned i.place j.place) N.parts i j (right s.Declarator t.form refl N.may).suits N.may N.matches))
  tells_at s.Declarator least t i j (inr W) p M = let R = D.tells s.Declarator 1 t (step i) W.last W.within refl M in subst (λ k. Told w s.Declarator t i k) W.ends (record { leaves = record { aside = R.leaves.aside; kept = tt }; valid = R.valid; besides = R.besides })
  tells_at s.AbstractDeclarator least t i j (inl N) p M = told_at s.AbstractDeclarator least t i j N p M (subst (λ x. Besides w s.AbstractDeclarator x i j) (sym N.value)
      (as_abstract w (Spelled levels deeper inner w D I t) (parts_tell levels deeper inner w D I t) t.form (spanned i.place j.place) N.parts i j (right s.AbstractDeclarator t.form refl N.may).suits N.may M N.matches))
  tells_at s.AbstractDeclarator least t i j (inr W) p M = let R = D.tells s.AbstractDeclarator 1 t (step i) W.last W.within refl M in subst (λ k. Told w s.AbstractDeclarator t i k) W.ends (record { leaves = record { aside = R.leaves.aside; kept = R.leaves.kept }; valid = R.valid; besides = R.besides })
  tells_at s.ParamDeclarator least t i j (inl N) p M = told_at s.ParamDeclarator least t i j N p M (subst (λ x. Besides w s.ParamDeclarator x i j) (sym N.value)
      (as_param w (Spelled levels deeper inner w D I t) (parts_tell levels deeper inner w D I t) t.form (spanned i.place j.place) N.parts i j (right s.ParamDeclarator t.form refl N.may).suits M N.matches))
  tells_at s.ParamDeclarator least t i j (inr W) p M = let R = D.tells s.ParamDeclarator 1 t (step i) W.last W.within refl M in subst (λ k. Told w s.ParamDeclarator t i k) W.ends (record { leaves = record { aside = R.leaves.aside; kept = tt }; valid = R.valid; besides = R.besides })
  tells_at s.MemberName least t i j (inl N) p M = told_at s.MemberName least t i j N p M (subst (λ x. Besides w s.MemberName x i j) (sym N.value)
      (as_member w (Spelled levels deeper inner w D I t) (parts_tell levels deeper inner w D I t) t.form (spanned i.place j.place) N.parts i j (right s.MemberName t.form refl N.may).suits N.matches))
  tells_at s.MemberName least t i j (inr W) p M = let R = D.tells s.Declarator 1 t (step i) W.last W.within refl M in subst (λ k. Told w s.MemberName t i k) W.ends (record { leaves = record { aside = R.leaves.aside; kept = tt }; valid = R.valid; besides = inr R.besides.named })
  tells_at s.Id least t i j A p M = subst (λ k. Told w s.Id t i k) A.1 (record { leaves = record { aside = refl; kept = refl }; valid = word_valid t i A.0; besides = tt })
  tells_at s.DeclaredId least t i j A p M = subst (λ k. Told w s.DeclaredId t i k) A.1 (record { leaves = record { aside = refl; kept = tt }; valid = word_valid t i A.0.0; besides = refl })
  tells_at s.ParameterId least t i j A p M = subst (λ k. Told w s.ParameterId t i k) A.1 (record { leaves = record { aside = refl; kept = tt }; valid = word_valid t i A.0.0; besides = tt })
  tells_at s.EnumeratorId least t i j A p M = subst (λ k. Told w s.EnumeratorId t i k) A.1 (record { leaves = record { aside = refl; kept = tt }; valid = word_valid t i A.0; besides = tt })
  tells_at s.Literal least t i j A p M = subst (λ k. Told w s.Literal t i k) A.1 (record { leaves = record { aside = refl; kept = refl }; valid = rw (A.0.1.1) refl; besides = tt })
  tells_at s.Spec least t i j A p M = told_at s.Spec least t i j A.1 p M (of_spec t i j A.0 (right_at s.Spec least t i j A.1 p M))
  tells_at s.PlainSpec least t i j A p M = told_at s.PlainSpec least t i j A.1 p M (of_plain t i j A.0 (right_at s.PlainSpec least t i j A.1 p M))
  tells_at s.Params least t i j A p M = told_at s.Params least t i j A.1 p M A.0
  tells_at s.BlockItem least t i j (inl A) p M = let R = told_at s.Decl least t i j A.1 refl M tt in
      record { leaves = record { aside = R.leaves.aside; kept = R.leaves.kept }; valid = R.valid; besides = (λ h. A.0, λ h. opposed (right s.Decl t.form refl A.1.may).suits h) }
  tells_at s.BlockItem least t i j (inr A) p M = let R = told_at s.Stmt least t i A.0 A.1.0 refl M tt in subst (λ k. Told w s.BlockItem t i k) A.1.1
      (record { leaves = record { aside = R.leaves.aside; kept = R.leaves.kept }; valid = R.valid; besides = (λ h. opposed h (stmt_no_decl t.form (right s.Stmt t.form refl A.1.0.may).suits), λ h. refl) })
  tells_at s.Item least t i j A p M = item_told (has_no_specifiers t) least t i j A M
  tells_at due least t i j A p M = told_at due least t i j A p M tt

  telling_at : Telling w (At levels deeper inner w)
  telling_at = record { tells = tells_at; stand = stands_at levels deeper inner w D.stand; «ends» = ended_at levels deeper inner w D.ends I.ends }

pub nothing_telling : (w : List Shape) → Telling w nothing_spelled
nothing_telling w = record { tells = λ due least t i j P. absurd P; stand = λ due least t i j P. absurd P; «ends» = λ due least t i j P. absurd P }

-- in place
pub telling_in_place : (n : ℕ) (levels : Type 0) (deeper : Spelling) (w : List Shape) → Telling w deeper → Telling w (InPlace n levels deeper w)
unfolding InPlace
telling_in_place zero levels deeper w D = nothing_telling w
telling_in_place (suc n) levels deeper w D = telling_at levels deeper (InPlace n levels deeper w) w D (telling_in_place n levels deeper w D)

-- All that is spelled with a depth: it is valid, it does what its sort says, and tells what there is besides.
pub telling : (d : ℕ) (w : List Shape) → Telling w (Spells d w)
unfolding Spells
telling zero w = telling_in_place places ⊥ nothing_spelled w (nothing_telling w)
telling (suc d) w = telling_in_place places (Unit {0}) (Spells d w) w (telling d w)

-- What is spelled in plain C90 as a sort of it, where that sort may begin, is a valid tree.
pub spelled_valid : (d : ℕ) (w : List Shape) (due : Sort) (least : ℕ) (t : Plain) (i j : Spot) → Spells d w due least t i j → is_plain_sort due ≡ true → Meets (needs due) i.state.kept → valid_tree t ≡ true
spelled_valid d w due least t i j P p M = ((telling d w).tells due least t i j P p M).valid

-- and leaves the declarations around it as they were, and its own as its sort says
pub spelled_leaves : (d : ℕ) (w : List Shape) (due : Sort) (least : ℕ) (t : Plain) (i j : Spot) → Spells d w due least t i j → is_plain_sort due ≡ true → Meets (needs due) i.state.kept → Leaves due i.state j.state
spelled_leaves d w due least t i j P p M = ((telling d w).tells due least t i j P p M).leaves

-- A node by its row is right over its parts, with so many levels and so many nodes in place left for them.
pub spelled_node : (d n : ℕ) (w : List Shape) (own : Sort) (least : ℕ) (t : Plain) (i j : Spot) → IsNode (Unit {0}) (Spells d w) (InPlace n (Unit {0}) (Spells d w) w) w own least t i j
    → is_plain_sort own ≡ true → Meets (needs own) i.state.kept → is_right t.form t.parts ≡ true
spelled_node d n w own least t i j N p M = (node_right (Unit {0}) (Spells d w) (InPlace n (Unit {0}) (Spells d w) w) w (telling d w) (telling_in_place n (Unit {0}) (Spells d w) w (telling d w)) own least t i j N p M).right

pub spelled_node_lowest : (n : ℕ) (w : List Shape) (own : Sort) (least : ℕ) (t : Plain) (i j : Spot) → IsNode ⊥ nothing_spelled (InPlace n ⊥ nothing_spelled w) w own least t i j
    → is_plain_sort own ≡ true → Meets (needs own) i.state.kept → is_right t.form t.parts ≡ true
spelled_node_lowest n w own least t i j N p M = (node_right ⊥ nothing_spelled (InPlace n ⊥ nothing_spelled w) w (nothing_telling w) (telling_in_place n ⊥ nothing_spelled w (nothing_telling w)) own least t i j N p M).right

-- An external declaration, where no declaration has begun: after it none has begun either.
pub spelled_item : (d : ℕ) (w : List Shape) (least : ℕ) (t : Plain) (i j : Spot) → Spells d w s.Item least t i j → IsNew i.state.kept → (valid_tree t ≡ true) × IsNew j.state.kept × (j.state.aside ≡ i.state.aside)
spelled_item d w least t i j P N = let R = (telling d w).tells s.Item least t i j P refl N in (R.valid, R.leaves.kept, R.leaves.aside)
