-- An external declaration that was read is spelled.
use Rattle.std.proofs.Common.{◌≡◌, ◌⊎◌, inl, inr, refl, subst, ap, sym, ◌∙◌, ℕ, zero, suc, ◌≤◌, max, Bool, true, false, not, ◌&&◌, ◌||◌, List, [], ◌∷◌, ◌++◌, Option, Some, None, Ok, arith}
use Rattle.std.proofs.lemmas.Bool.{or_parts}
use Rattle.c_tokens.specs.declared.token.Punct.TheVariants as punct
use Rattle.c_tokens.specs.declared.token.Shape.{Shape}
use Rattle.c_tokens.specs.declared.token.Shape.TheVariants as shape
use Rattle.c_tokens.specs.declared.class.Class.{Class}
use Rattle.c_tokens.specs.ClassNumbers.{class_number}
use Rattle.c_forms.specs.declared.pieces.Event.TheVariants as event
use Rattle.c_forms.specs.declared.pieces.Sort.TheVariants as s
use Rattle.c_forms.specs.declared.pieces.Repetition.TheVariants.{All, Any, Spliced}
use Rattle.c_forms.specs.declared.forms.Form.TheVariants as form
use Rattle.c_forms.specs.declared.forms.GroupForm.TheVariants as group
use Rattle.c_forms.specs.declared.forms.ItemForm.TheVariants as item
use Rattle.c_forms.specs.Forests.{Plain, forest}
use Rattle.c_forms.specs.Forests as forests
use Rattle.c_forms.specs.Measures.{pieces}
use Rattle.c_forms.specs.Rules.{is_none}
use Rattle.c_forms.specs.Sets.{has, starts}
use Rattle.c_reader.specs.States.{State, class, happens, is_function}
use Rattle.c_reader.specs.Tokens.{Spot, turned, raw_at, seen_at, class_at}
use Rattle.c_reader.specs.Readers.{Input, Found, Give, read, here, choose, ◌>>=◌}
use Rattle.c_reader.proofs.Local.{from}
use Rattle.c_reader.proofs.Loops.{split, same_pair}
use Rattle.c_reader.proofs.Sets.{only_single}
use Rattle.c_syntax.specs.Reading.{Parts, Usual, none_at, with_last, others, gathered, list_from, the_list, spanned, one, node, completed}
use Rattle.c_syntax.specs.Grammar.{body, sign, is_sign, after_first, after_part, goes_on_declaring, function_from, declaration_of, declaration_from, outer_by, outer, specified, unspecified, external}
use Rattle.c_syntax.specs.Spells.{IsNode, IsGroup, IsList, Chain, has_no_specifiers, started_by}
use Rattle.c_syntax.proofs.Told.{levels, lower, In, Says, Calls, Inner, told_both}
use Rattle.c_syntax.proofs.Groups.{Chained, others_read}
use Rattle.c_syntax.proofs.Parts.{group_of, is_list, ends_there}
use Rattle.c_syntax.proofs.Nodes.{node_of, ok, ok_at, parts_say, completed_tells, completed_says, after_says, at_in}

-- some elements are not none
chain_some : (one : Plain → Spot → Spot → Type 0) (w : List Shape) (separator : Option Class) (n : ℕ) (ts : List Plain) (i j : Spot) → Chain one w separator n ts i j → is_none (forest ts) ≡ false
chain_some one w separator zero ts i j C = ap (λ ts. is_none (forest ts)) C.1.0
chain_some one w separator (suc n) ts i j C = ap (λ ts. is_none (forest ts)) C.value ∙ with_more C.before C.last
  where
    with_more : (ts : List Plain) (t : Plain) → is_none (forest (ts ++ (t ∷ []))) ≡ false
    with_more [] t = refl
    with_more (x ∷ ts) t = refl

-- that a function is due makes no word another
class_due : (st : State) (x : Shape) → class (happens event.FunctionDue st) x ≡ class st x
class_due st (shape.Word w) = refl
class_due st _ = refl

module _ (d : ℕ) (w : List Shape) (E : Calls d w) (inner : Parts) (IS : Inner d w inner) (b : ℕ) (small : 4 ≤ b) (least : ℕ) (low : least ≤ 17) where
  -- ---- specifiers

  record Specified (i : Spot) (x : Found) (p : Input) : Type 0 where
    place : Spot
    placed : p ≡ from w place
    high : x.height ≤ d
    deep : (n : ℕ) → x.height ≤ n → IsList (IsGroup All s.Spec (In (suc b) n w s.Spec 0) Usual w) x.tree i place
    wide : (n : ℕ) → x.height ≤ n → IsList (IsGroup All s.Spec (In (suc (suc b)) n w s.Spec 0) Usual w) x.tree i place
    some : is_none x.tree.parts ≡ false

  specs_read : (i : Spot) (x : Found) (p : Input) → read body d (gathered All s.Spec (inner s.Spec 0) Usual >>= λ g. Give (list_from g.0 g.1)) (from w i) ≡ Ok (x, p) → Specified i x p
  specs_read i x p h =
      let a = split (read body d (gathered All s.Spec (inner s.Spec 0) Usual) (from w i)) (λ g j. Ok (list_from g.0 g.1, j)) x p h in
      let G = group_of d w s.Decl form.Decl inner (λ n. In (suc b) n w) (ok false (suc b)) (parts_say d w E inner IS false (suc b)) All s.Spec 0 Usual i a.value a.place refl (ok_at (suc b) s.Spec 0 refl (omega arith)) a.first in
      let H = group_of d w s.Decl form.Decl inner (λ n. In (suc (suc b)) n w) (ok false (suc (suc b))) (parts_say d w E inner IS false (suc (suc b))) All s.Spec 0 Usual i a.value a.place refl (ok_at (suc (suc b)) s.Spec 0 refl (omega arith)) a.first in
      let g : a.place ≡ from w G.group.place = ends_there w All G.group.place a.value.1.is_ended a.place refl G.group.ends in
      let k : a.place ≡ from w H.group.place = ends_there w All H.group.place a.value.1.is_ended a.place refl H.group.ends in
      subst (λ (y : Found × Input). Specified i y.0 y.1) (same_pair (list_from a.value.0 a.value.1) x a.place p a.second) (record {
        place = G.group.place;
        placed = g;
        high = G.group.high;
        deep = λ n le. is_list d w s.Decl form.Decl inner (λ n. In (suc b) n w) (ok false (suc b)) (parts_say d w E inner IS false (suc b)) All s.Spec 0 Usual i a.value a.place G n le;
        wide = λ n le. subst (IsList (IsGroup All s.Spec (In (suc (suc b)) n w s.Spec 0) Usual w) (list_from a.value.0 a.value.1).tree i) (ap (λ q. q.at) (sym k ∙ g))
            (is_list d w s.Decl form.Decl inner (λ n. In (suc (suc b)) n w) (ok false (suc (suc b))) (parts_say d w E inner IS false (suc (suc b))) All s.Spec 0 Usual i a.value a.place H n le);
        some = let C = (G.group.spelled a.value.1.height (omega arith)).0 in chain_some (In (suc b) a.value.1.height w s.Spec 0) w None C.0 a.value.1.trees i G.group.place C.1;
      })

  -- ---- functions and declarations

  -- An item, and whether specifiers stand before it; it is a function where one is due.
  Outer : Bool → Found → Spot → Found → Input → Type 0
  Outer due specs i x p = Says d w (λ n t i j. IsNode (levels n) (lower n w) (In (suc (suc b)) n w) w s.Item least t i j
      × ((has_no_specifiers t ≡ is_none specs.tree.parts) ⊎ ((due ≡ false) × (has_no_specifiers t ≡ false)))) i x p

  function_says : (due : Bool) (i q r : Spot) (specs name x : Found) (p : Input) → specs.height ≤ d → name.height ≤ d
      → ((n : ℕ) → specs.height ≤ n → IsList (IsGroup Any s.Spec (In (suc (suc b)) n w s.Spec 0) Usual w) specs.tree i q)
      → ((n : ℕ) → name.height ≤ n → In (suc (suc b)) n w s.Declarator 1 name.tree q r) → read body d (function_from inner i.place specs name) (from w r) ≡ Ok (x, p) → Outer due specs i x p
  unfolding Outer
  function_says due i q r specs name x p a c S D h =
      let F = completed_tells d w E inner IS 6 (suc (suc b)) (omega arith) s.Item (form.Item item.Function) i r (record { trees = specs.tree ∷ (name.tree ∷ []); height = max specs.height name.height })
      (after_first (after_first (pieces (form.Item item.Function)))) x p refl refl (λ e. absurd (cc e)) (omega arith)
      (λ n le ts j M. record {
        first = specs.tree;
        others = name.tree ∷ ts;
        place = q;
        value = refl;
        is_first = S n (omega arith);
        are_others = record { first = name.tree; others = ts; place = r; value = refl; is_first = D n (omega arith); are_others = M };
      }) h in
      record {
        place = F.place;
        placed = F.placed;
        high = F.high;
        spelled = λ n le. let G = F.spelled n le in (node_of w s.Item least (form.Item item.Function) n (suc (suc b)) x.tree i F.place refl low G.0, inl (ap has_no_specifiers G.1.1.1));
      }

  declaration_says : (due : Bool) (i q r : Spot) (specs list x : Found) (p : Input) → due ≡ false → specs.height ≤ d → list.height ≤ d
      → ((n : ℕ) → specs.height ≤ n → IsList (IsGroup All s.Spec (In (suc b) n w s.Spec 0) Usual w) specs.tree i q)
      → ((n : ℕ) → list.height ≤ n → IsList (IsGroup (Spliced (Some (sign punct.Comma)) 0) s.InitDeclarator (In (suc b) n w s.InitDeclarator 0) Usual w) list.tree q r)
      → read body d (declaration_of inner i.place specs list) (from w r) ≡ Ok (x, p) → Outer due specs i x p
  unfolding Outer
  declaration_says due i q r specs list x p none a c S L h =
      let e = split (read body d (completed inner s.Decl form.Decl i.place (record { trees = specs.tree ∷ (list.tree ∷ []); height = max specs.height list.height }) (after_first (after_first (pieces form.Decl)))) (from w r))
      (λ x j. Ok (node (form.Item item.Declaration) i.place j.at.place (one x), j)) x p h in
      let F = completed_says d w E inner IS 0 (suc b) (omega arith) s.Decl form.Decl i r (record { trees = specs.tree ∷ (list.tree ∷ []); height = max specs.height list.height })
      (after_first (after_first (pieces form.Decl))) e.value e.place refl refl (λ e. absurd (cc e)) (omega arith)
      (λ n le ts j M. record {
        first = specs.tree;
        others = list.tree ∷ ts;
        place = q;
        value = refl;
        is_first = S n (omega arith);
        are_others = record { first = list.tree; others = ts; place = r; value = refl; is_first = L n (omega arith); are_others = M };
      }) e.first in
      subst (λ (y : Found × Input). Outer due specs i y.0 y.1) (same_pair (node (form.Item item.Declaration) i.place e.place.at.place (one e.value)) x e.place p e.second) (record {
        place = F.place;
        placed = F.placed;
        high = F.high;
        spelled = λ n le. (
          record {
            parts = e.value.tree ∷ [];
            value = ap (λ q. forests.node (form.Item item.Declaration) (spanned i.place q.at.place) (e.value.tree ∷ [])) F.placed;
            may = refl;
            tight = low;
            left = tt;
            matches = record {
              first = e.value.tree;
              others = [];
              place = F.place;
              value = refl;
              is_first = at_in (suc b) n w s.Decl 0 e.value.tree i F.place (node_of w s.Decl 0 form.Decl n (suc b) e.value.tree i F.place refl (omega arith) (F.spelled n le));
              are_others = (refl, refl);
            };
          },
          inr (none, refl),
        );
      })

  -- one declarator with an initializer or none
  init_says : (q r : Spot) (name x : Found) (p : Input) → name.height ≤ d → ((n : ℕ) → name.height ≤ n → In b n w s.Declarator 1 name.tree q r)
      → read body d (after_part inner s.InitDeclarator (form.Group group.InitDeclarator) q.place name) (from w r) ≡ Ok (x, p) → Says d w (λ n. In (suc b) n w s.InitDeclarator 0) q x p
  init_says q r name x p a D h =
      let F = after_says d w E inner IS 4 b small s.InitDeclarator (form.Group group.InitDeclarator) s.Declarator 1 q r name x p refl refl refl refl (λ e. absurd (cc e)) a D h in
      record { place = F.place; placed = F.placed; high = F.high; spelled = λ n le. at_in b n w s.InitDeclarator 0 x.tree q F.place (node_of w s.InitDeclarator 0 (form.Group group.InitDeclarator) n b x.tree q F.place refl (omega arith) (F.spelled n le)) }

  init_read : (i : Spot) (x : Found) (p : Input) → read body d (inner s.InitDeclarator 0) (from w i) ≡ Ok (x, p) → Says d w (λ n. In (suc b) n w s.InitDeclarator 0) i x p
  init_read i x p h = IS (suc b) s.InitDeclarator 0 i x p refl (omega arith) h

  declared_says : (due : Bool) (i q r : Spot) (specs name x : Found) (p : Input) → due ≡ false → specs.height ≤ d → name.height ≤ d
      → ((n : ℕ) → specs.height ≤ n → IsList (IsGroup All s.Spec (In (suc b) n w s.Spec 0) Usual w) specs.tree i q) → ((n : ℕ) → name.height ≤ n → In b n w s.Declarator 1 name.tree q r)
      → read body d (declaration_from inner i.place specs q.place name) (from w r) ≡ Ok (x, p) → Outer due specs i x p
  declared_says due i q r specs name x p none a c S D h =
      let e = split (read body d (after_part inner s.InitDeclarator (form.Group group.InitDeclarator) q.place name) (from w r))
      (λ x j. read body d (others (Spliced (Some (sign punct.Comma)) 0) s.InitDeclarator (inner s.InitDeclarator 0) (with_last (none_at q.place) x j.at.place) >>= λ g. declaration_of inner i.place specs (list_from q.place g)) j) x p h in
      let F = init_says q r name e.value e.place c D e.first in
      let o = split (read body d (others (Spliced (Some (sign punct.Comma)) 0) s.InitDeclarator (inner s.InitDeclarator 0) (with_last (none_at q.place) e.value e.place.at.place)) e.place)
      (λ g j. read body d (declaration_of inner i.place specs (list_from q.place g)) j) x p e.second in
      let C : Chained d w (λ n. In (suc b) n w s.InitDeclarator 0) (inner s.InitDeclarator 0) init_read (Some (sign punct.Comma)) q (with_last (none_at q.place) e.value e.place.at.place) e.place =
      record { place = F.place; placed = F.placed; last = ap (λ k. k.at.place) F.placed; open_end = refl; high = omega (arith, F.high); spelled = λ n le. (zero, (e.value.tree, (refl, F.spelled n (omega arith)))) } in
      let O = others_read d w (λ n. In (suc b) n w s.InitDeclarator 0) (inner s.InitDeclarator 0) init_read (Spliced (Some (sign punct.Comma)) 0) s.InitDeclarator (λ x h. only_single (class_number (sign punct.Comma)) x h)
      q (with_last (none_at q.place) e.value e.place.at.place) o.value e.place o.place C o.first in
      declaration_says due i q O.0.place specs (list_from q.place o.value) x p none a O.0.high S
      (λ n le. (o.value.trees, (ap (λ k. forests.node the_list (spanned q.place k) o.value.trees) O.0.last, inr (O.0.spelled n le))))
      (subst (λ k. read body d (declaration_of inner i.place specs (list_from q.place o.value)) k ≡ Ok (x, p)) O.0.placed o.second)

  by_next : (due : Bool) (i q r : Spot) (specs name x : Found) (p : Input) (o : Bool) → (due || (is_function r.state && not (goes_on_declaring (seen_at w r)))) ≡ o → specs.height ≤ d → name.height ≤ d
      → ((n : ℕ) → specs.height ≤ n → IsList (IsGroup Any s.Spec (In (suc (suc b)) n w s.Spec 0) Usual w) specs.tree i q)
      → (due ≡ false → (n : ℕ) → specs.height ≤ n → IsList (IsGroup All s.Spec (In (suc b) n w s.Spec 0) Usual w) specs.tree i q)
      → ((n : ℕ) → name.height ≤ n → In (suc (suc b)) n w s.Declarator 1 name.tree q r × In b n w s.Declarator 1 name.tree q r)
      → read body d (choose o (function_from inner i.place specs name) (declaration_from inner i.place specs q.place name)) (from w r) ≡ Ok (x, p) → Outer due specs i x p
  by_next due i q r specs name x p true e a c F S D h = function_says due i q r specs name x p a c F (λ n le. (D n le).0) h
  by_next due i q r specs name x p false e a c F S D h = let none : due ≡ false = (or_parts due _ e).0 in declared_says due i q r specs name x p none a c (S none) (λ n le. (D n le).1) h

  outer_says : (due : Bool) (i q : Spot) (specs x : Found) (p : Input) → specs.height ≤ d
      → ((n : ℕ) → specs.height ≤ n → IsList (IsGroup Any s.Spec (In (suc (suc b)) n w s.Spec 0) Usual w) specs.tree i q)
      → (due ≡ false → (n : ℕ) → specs.height ≤ n → IsList (IsGroup All s.Spec (In (suc b) n w s.Spec 0) Usual w) specs.tree i q)
      → read body d (outer due inner i.place specs) (from w q) ≡ Ok (x, p) → Outer due specs i x p
  outer_says due i q specs x p a F S h =
      let e = split (read body d (inner s.Declarator 1) (from w q)) (λ y j. read body d (outer_by due inner i.place specs q.place y) j) x p h in
      let D = told_both d w e.value.height (λ n j. In (suc (suc b)) n w s.Declarator 1 e.value.tree q j) (λ n j. In b n w s.Declarator 1 e.value.tree q j) e.place
      (IS (suc (suc b)) s.Declarator 1 q e.value e.place refl (omega arith) e.first) (IS b s.Declarator 1 q e.value e.place refl (omega arith) e.first) in
      by_next due i q D.place specs e.value x p (due || (is_function D.place.state && not (goes_on_declaring (seen_at w D.place)))) refl a D.high F S D.spelled
      (subst (λ k. read body d (outer_by due inner i.place specs q.place e.value) k ≡ Ok (x, p)) D.placed e.second)

  -- ---- all of them

  Item : Spot → Found → Input → Type 0
  Item i x p = Says d w (λ n. In (suc (suc (suc b))) n w s.Item least) i x p

  begun_so : (due : Bool) (specs : Found) (i : Spot) (x : Found) (p : Input) → is_none specs.tree.parts ≡ due → Outer due specs (started_by due i) x p → Item i x p
  unfolding Outer Item
  begun_so due specs i x p e O = record {
    place = O.place;
    placed = O.placed;
    high = O.high;
    spelled = λ n le. let S = O.spelled n le in
        at_in (suc (suc b)) n w s.Item least x.tree i O.place (subst (λ b'. IsNode (levels n) (lower n w) (In (suc (suc b)) n w) w s.Item least x.tree (started_by b' i) O.place) (sym (elim S.1 [
          | inl k ↦ k ∙ e
          | inr k ↦ k.1 ∙ sym k.0
        ])) S.0);
  }

  by_semicolon : (i q : Spot) (specs x : Found) (p : Input) (o : Bool) → is_none specs.tree.parts ≡ false → specs.height ≤ d
      → ((n : ℕ) → specs.height ≤ n → IsList (IsGroup All s.Spec (In (suc b) n w s.Spec 0) Usual w) specs.tree i q)
      → ((n : ℕ) → specs.height ≤ n → IsList (IsGroup All s.Spec (In (suc (suc b)) n w s.Spec 0) Usual w) specs.tree i q)
      → read body d (choose o (declaration_of inner i.place specs (list_from q.place (none_at q.place))) (outer false inner i.place specs)) (from w q) ≡ Ok (x, p) → Item i x p
  by_semicolon i q specs x p true e a S W h = begun_so false specs i x p e
      (declaration_says false i q q specs (list_from q.place (none_at q.place)) x p refl a (omega arith) S (λ n le. ([], (refl, inl (refl, (refl, refl))))) h)
  by_semicolon i q specs x p false e a S W h = begun_so false specs i x p e
      (outer_says false i q specs x p a (λ n le. let L = W n le in (L.0, (L.1.0, (inr L.1.1.0, L.1.1.1)))) (λ _. S) h)

  specified_says : (i : Spot) (x : Found) (p : Input) → read body d (specified inner i.place) (from w i) ≡ Ok (x, p) → Item i x p
  specified_says i x p h =
      let e = split (read body d (gathered All s.Spec (inner s.Spec 0) Usual >>= λ g. Give (list_from g.0 g.1)) (from w i))
      (λ specs j. read body d (choose (is_sign punct.Semicolon (here j)) (declaration_of inner i.place specs (list_from j.at.place (none_at j.at.place))) (outer false inner i.place specs)) j) x p h in
      let S = specs_read i e.value e.place e.first in
      by_semicolon i S.place e.value x p (is_sign punct.Semicolon (seen_at w S.place)) S.some S.high S.deep S.wide
      (subst (λ j. read body d (choose (is_sign punct.Semicolon (here j)) (declaration_of inner i.place e.value (list_from j.at.place (none_at j.at.place))) (outer false inner i.place e.value)) j ≡ Ok (x, p)) S.placed e.second)

  by_begin : (i : Spot) (o : Bool) (x : Found) (p : Input) → has (starts s.Spec) (class_at w i) ≡ o → read body d (choose o (specified inner i.place) (unspecified inner i.place)) (from w i) ≡ Ok (x, p) → Item i x p
  by_begin i true x p e h = specified_says i x p h
  by_begin i false x p e h = begun_so true (list_from i.place (none_at i.place)) i x p refl
      (outer_says true (turned (happens event.FunctionDue) i) (turned (happens event.FunctionDue) i) (list_from i.place (none_at i.place)) x p (omega arith)
      (λ n le. ([], (refl, (inl (refl, (refl, refl)), ap (has (starts s.Spec)) (class_due i.state (raw_at w i.place)) ∙ e)))) (λ no. absurd (cc no)) h)

  pub external_says : (i : Spot) (x : Found) (p : Input) → read body d (external inner) (from w i) ≡ Ok (x, p) → Says d w (λ n. In (suc (suc (suc b))) n w s.Item least) i x p
  unfolding external Item
  external_says i x p h = by_begin i (has (starts s.Spec) (class_at w i)) x p refl h
