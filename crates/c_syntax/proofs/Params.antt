-- Parameters that were read are spelled.
use Rattle.std.proofs.Common.{◌≡◌, inl, inr, refl, subst, ap, sym, ◌∙◌, ℕ, zero, suc, ◌≤◌, nat_eq, Bool, true, false, not, ◌&&◌, List, [], ◌∷◌, Option, Some, Ok, arith}
use Rattle.std.proofs.lemmas.Bool.{or_right}
use Rattle.c_tokens.specs.declared.token.Punct.TheVariants as punct
use Rattle.c_tokens.specs.declared.token.Shape.{Shape}
use Rattle.c_tokens.specs.declared.class.Class.{Class}
use Rattle.c_tokens.specs.declared.class.Class.TheVariants as class
use Rattle.c_tokens.specs.ClassNumbers.{class_number}
use Rattle.c_forms.specs.declared.pieces.Sort.TheVariants as s
use Rattle.c_forms.specs.declared.pieces.Repetition.TheVariants.{Many, Ended}
use Rattle.c_forms.specs.declared.forms.Form.TheVariants as form
use Rattle.c_forms.specs.declared.forms.ParamsForm.TheVariants as params
use Rattle.c_forms.specs.Forests.{Plain, forest}
use Rattle.c_forms.specs.Forests as forests
use Rattle.c_forms.specs.Rules.{is_none, in_first}
use Rattle.c_reader.specs.Tokens.{Spot, step, seen_at, class_at}
use Rattle.c_reader.specs.Readers.{Input, Found, Give, Refuse, Ask, read, choose, pick, only, token, ◌>>◌}
use Rattle.c_reader.proofs.Local.{from}
use Rattle.c_reader.proofs.Loops.{split, same_pair}
use Rattle.c_reader.proofs.Sets.{same_class, itself}
use Rattle.c_syntax.specs.Allowed.{has_name}
use Rattle.c_syntax.specs.Reading.{Parts, Usual, Gathered, one, node, spanned, list_from, gathered}
use Rattle.c_syntax.specs.Grammar.{body, sign, is_value, begins, whole, typed, parameters}
use Rattle.c_syntax.specs.Spells.{may_list, Chain, IsGroup, IsList}
use Rattle.c_syntax.proofs.Told.{In, Says, Calls, Inner}
use Rattle.c_syntax.proofs.Groups.{Ends}
use Rattle.c_syntax.proofs.Parts.{picked, group_of, is_list}
use Rattle.c_syntax.proofs.Nodes.{IsForm, node_of, ok, ok_at, parts_say, whole_says, at_in, in_at}

-- the first element of several
chain_first : (one : Plain → Spot → Spot → Type 0) (w : List Shape) (separator : Option Class) (n : ℕ) (ts : List Plain) (i j : Spot) → Chain one w separator n ts i j → (t : Plain) × ((m : Spot) × one t i m)
chain_first one w separator zero ts i j C = (C.0, (j, C.1.1))
chain_first one w separator (suc n) ts i j C = chain_first one w separator n C.before i C.place C.first

-- where no word that is a value stands, no parameter is listed
none_listed : (w : List Shape) (n k : ℕ) (ts : List Plain) (i j : Spot) → is_value (seen_at w i) ≡ false → IsGroup (Many (Some (sign punct.Comma)) 0) s.ParameterId (In (suc k) n w s.ParameterId 0) Usual w ts i j → is_none (forest ts) ≡ true
none_listed w n k ts i j e (inl A) = ap (λ ts. is_none (forest ts)) A.1.0
none_listed w n k ts i j e (inr C) =
    let F = chain_first (In (suc k) n w s.ParameterId 0) w (Some (sign punct.Comma)) C.0 ts i j C.1 in
    let V = in_at k n w s.ParameterId 0 F.0 i F.1.0 F.1.1 in
    absurd (let z : true ≡ false = sym (itself (class_number class.Word)) ∙ ap (λ c. nat_eq c (class_number class.Word)) (sym V.0.1) ∙ e in cc z)

names_none : (w : List Shape) (n k : ℕ) (t : Plain) (i j : Spot) → is_value (seen_at w i) ≡ false → IsForm w s.Params (form.Params params.Ids) n (suc k) t i j → is_none (in_first t.parts) ≡ true
names_none w n k t i j e F =
    let M = F.matches in
    ap (λ t. is_none (in_first t.parts)) F.value ∙ ap (λ ts. is_none (in_first (forest ts))) M.value ∙ ap (λ t. is_none t.parts) M.is_first.1.0 ∙ none_listed w n k M.is_first.0 i M.place e M.is_first.1.1

module _ (d : ℕ) (w : List Shape) (E : Calls d w) (inner : Parts) (IS : Inner d w inner) (m : ℕ) (small : 2 ≤ m) (least : ℕ) (low : least ≤ 17) where
  -- after the list
  by_end : (i : Spot) (t : ℕ × Gathered) (q : Input) (o : Bool) (x : Found) (p : Input) (place : Spot) → Ends w (Ended (sign punct.Comma) (sign punct.Ellipsis)) place o q → t.1.height ≤ d
      → ((n : ℕ) → t.1.height ≤ n → IsList (IsGroup (Ended (sign punct.Comma) (sign punct.Ellipsis)) s.Param (In (suc m) n w s.Param 0) Usual w) (list_from t.0 t.1).tree i place)
      → read body d (choose o (token (class_number (sign punct.Ellipsis)) >> Ask (λ j. Give (node (form.Params params.TypedAndMore) i.place j.place (one (list_from t.0 t.1)))))
      (Ask (λ j. Give (node (form.Params params.Typed) i.place j.place (one (list_from t.0 t.1)))))) q ≡ Ok (x, p) → Says d w (λ n. In (suc (suc m)) n w s.Params least) i x p
  by_end i t q true x p place N high L h =
      let a = split (pick (only (nat_eq (class_at w (step place)) (class_number (sign punct.Ellipsis)))) (from w (step place))) (λ _ j. Ok (node (form.Params params.TypedAndMore) i.place j.at.place (one (list_from t.0 t.1)), j)) x p
      (subst (λ q. read body d (token (class_number (sign punct.Ellipsis)) >> Ask (λ j. Give (node (form.Params params.TypedAndMore) i.place j.place (one (list_from t.0 t.1))))) q ≡ Ok (x, p)) N.1 h) in
      let T = picked (nat_eq (class_at w (step place)) (class_number (sign punct.Ellipsis))) a.value (from w (step place)) a.place a.first in
      subst (λ (y : Found × Input). Says d w (λ n. In (suc (suc m)) n w s.Params least) i y.0 y.1) (same_pair (node (form.Params params.TypedAndMore) i.place a.place.at.place (one (list_from t.0 t.1))) x a.place p a.second) (record {
        place = step (step place);
        placed = T.1;
        high = high;
        spelled = λ n le. at_in (suc m) n w s.Params least (node (form.Params params.TypedAndMore) i.place a.place.at.place (one (list_from t.0 t.1))).tree i (step (step place)) (
          or_right (has_name i.state) true refl,
          record {
            parts = (list_from t.0 t.1).tree ∷ [];
            value = ap (λ q. forests.node (form.Params params.TypedAndMore) (spanned i.place q.at.place) ((list_from t.0 t.1).tree ∷ [])) T.1;
            may = refl;
            tight = low;
            left = tt;
            matches = record {
              first = (list_from t.0 t.1).tree;
              others = [];
              place = place;
              value = refl;
              is_first = L n le;
              are_others = (N.0, (same_class (class_at w (step place)) (class_number (sign punct.Ellipsis)) T.0, (refl, refl)));
            };
          },
        );
      })
  by_end i t q false x p place N high L h =
      subst (λ (y : Found × Input). Says d w (λ n. In (suc (suc m)) n w s.Params least) i y.0 y.1) (same_pair (node (form.Params params.Typed) i.place q.at.place (one (list_from t.0 t.1))) x q p h) (record {
        place = place;
        placed = N;
        high = high;
        spelled = λ n le. at_in (suc m) n w s.Params least (node (form.Params params.Typed) i.place q.at.place (one (list_from t.0 t.1))).tree i place (
          or_right (has_name i.state) true refl,
          record {
            parts = (list_from t.0 t.1).tree ∷ [];
            value = ap (λ q. forests.node (form.Params params.Typed) (spanned i.place q.at.place) ((list_from t.0 t.1).tree ∷ [])) N;
            may = refl;
            tight = low;
            left = tt;
            matches = record { first = (list_from t.0 t.1).tree; others = []; place = place; value = refl; is_first = L n le; are_others = (refl, refl) };
          },
        );
      })

  typed_says : (i : Spot) (x : Found) (p : Input) → read body d (typed inner i.place) (from w i) ≡ Ok (x, p) → Says d w (λ n. In (suc (suc m)) n w s.Params least) i x p
  typed_says i x p h =
      let a = split (read body d (gathered (Ended (sign punct.Comma) (sign punct.Ellipsis)) s.Param (inner s.Param 0) Usual) (from w i))
      (λ g j. read body d (choose g.1.is_ended (token (class_number (sign punct.Ellipsis)) >> Ask (λ j. Give (node (form.Params params.TypedAndMore) i.place j.place (one (list_from g.0 g.1)))))
      (Ask (λ j. Give (node (form.Params params.Typed) i.place j.place (one (list_from g.0 g.1)))))) j) x p h in
      let G = group_of d w s.Params (form.Params params.Typed) inner (λ n. In (suc m) n w) (ok false (suc m)) (parts_say d w E inner IS false (suc m)) (Ended (sign punct.Comma) (sign punct.Ellipsis)) s.Param 0 Usual i a.value a.place refl
      (ok_at (suc m) s.Param 0 refl (omega arith)) a.first in
      by_end i a.value a.place a.value.1.is_ended x p G.group.place G.group.ends G.group.high
      (λ n le. is_list d w s.Params (form.Params params.Typed) inner (λ n. In (suc m) n w) (ok false (suc m)) (parts_say d w E inner IS false (suc m)) (Ended (sign punct.Comma) (sign punct.Ellipsis)) s.Param 0 Usual i a.value a.place G n le) a.second

  may_have : (i : Spot) (t : Plain) (b e : Bool) → has_name i.state ≡ b → is_value (seen_at w i) ≡ e → (e && not b) ≡ false → (is_value (seen_at w i) ≡ false → is_none (in_first t.parts) ≡ true) → may_list i.state t ≡ true
  may_have i t true e n v h f = rw n refl
  may_have i t false true n v h f = absurd (cc h)
  may_have i t false false n v h f = or_right (has_name i.state) _ (or_right _ (is_none (in_first t.parts)) (f v))

  by_name : (i : Spot) (b : Bool) (x : Found) (p : Input) → (is_value (seen_at w i) && not (has_name i.state)) ≡ b → read body d (choose b Refuse (whole inner s.Params (form.Params params.Ids))) (from w i) ≡ Ok (x, p)
      → Says d w (λ n. In (suc (suc m)) n w s.Params least) i x p
  by_name i true x p e h = absurd (cc h)
  by_name i false x p e h =
      let S = whole_says d w E inner IS 1 (suc m) (omega arith) s.Params (form.Params params.Ids) i x p refl refl h in
      record {
        place = S.place;
        placed = S.placed;
        high = S.high;
        spelled = λ n le. let F = S.spelled n le in
            at_in (suc m) n w s.Params least x.tree i S.place (
              may_have i x.tree (has_name i.state) (is_value (seen_at w i)) refl refl e (λ v. names_none w n m x.tree i S.place v F),
              node_of w s.Params least (form.Params params.Ids) n (suc m) x.tree i S.place refl low F,
            );
      }

  by_begin : (i : Spot) (b : Bool) (x : Found) (p : Input) → read body d (choose b (typed inner i.place) (choose (is_value (seen_at w i) && not (has_name i.state)) Refuse (whole inner s.Params (form.Params params.Ids)))) (from w i) ≡ Ok (x, p)
      → Says d w (λ n. In (suc (suc m)) n w s.Params least) i x p
  by_begin i true x p h = typed_says i x p h
  by_begin i false x p h = by_name i (is_value (seen_at w i) && not (has_name i.state)) x p refl h

  pub parameters_say : (i : Spot) (x : Found) (p : Input) → read body d (parameters inner) (from w i) ≡ Ok (x, p) → Says d w (λ n. In (suc (suc m)) n w s.Params least) i x p
  unfolding parameters
  parameters_say i x p h = by_begin i (begins s.Spec (seen_at w i)) x p h
