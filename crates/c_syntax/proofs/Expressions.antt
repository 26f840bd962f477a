-- An expression that was read is spelled.
use Rattle.std.proofs.Common.{◌≡◌, inl, inr, refl, subst, ap, sym, ◌∙◌, ℕ, zero, suc, ◌+◌, ◌-◌, ◌<◌, ◌≤◌, nat_lt, Bool, true, false, List, [], ◌∷◌, Option, Some, None, Ok, arith}
use Rattle.c_tokens.specs.declared.token.Key.TheVariants as key
use Rattle.c_tokens.specs.declared.token.Punct.TheVariants as punct
use Rattle.c_tokens.specs.declared.token.Shape.{Shape}
use Rattle.c_tokens.specs.declared.class.Class.TheVariants as class
use Rattle.c_tokens.specs.ClassNumbers.{class_number}
use Rattle.c_forms.specs.declared.pieces.Event.TheVariants as event
use Rattle.c_forms.specs.declared.pieces.Sort.TheVariants as s
use Rattle.c_forms.specs.declared.forms.Form.{Form}
use Rattle.c_forms.specs.declared.forms.Form.TheVariants as form
use Rattle.c_forms.specs.declared.forms.ExpForm.TheVariants as exp
use Rattle.c_forms.specs.declared.forms.DeclaratorForm.TheVariants as declarator
use Rattle.c_forms.specs.Forests.{Plain}
use Rattle.c_forms.specs.Forests as forests
use Rattle.c_forms.specs.Measures.{level, pieces}
use Rattle.c_forms.specs.Sets.{has, starts}
use Rattle.c_forms.specs.Tokens.{begun}
use Rattle.c_reader.specs.States.{happens}
use Rattle.c_reader.specs.Tokens.{Spot, step, turned, raw_at, seen_at, class_at}
use Rattle.c_reader.specs.Readers.{Input, Reader, Found, Opened, Refuse, Fits, Change, read, below, choose}
use Rattle.c_reader.proofs.Local.{from}
use Rattle.c_reader.proofs.Loops.{split, same_pair}
use Rattle.c_reader.proofs.Sets.{both, same_class}
use Rattle.c_syntax.specs.Reading.{Parts, is_absent, is_absent_form, is_class, nothing, one, node, spanned, deeper, called, completed}
use Rattle.c_syntax.specs.Grammar.{body, is_sign, begins, whole, after_first, after_paren, parenthesized, Standing, standing, tight, type_or, entered, sized, sized_opened, begun_by, primary, expression, opened, climb}
use Rattle.c_syntax.specs.Spells.{Is, may_be}
use Rattle.c_syntax.proofs.Told.{lower, In, Tells, Says, Calls, CallsOpened, Inner, some_level, lowered, in_spelled, roomy}
use Rattle.c_syntax.proofs.Nodes.{IsForm, node_of, completed_says, whole_says, in_at}
use Rattle.c_syntax.proofs.Rows.{exp_tails, exp_first, exp_begun, begun_right, owned_by}
use Rattle.c_syntax.proofs.Climbs.{Stood, Stands, Leveled, tight_read, paren_says, paren_stands, node_stands, climb_says}

pub exp_leveled : Leveled s.Exp
exp_leveled = record {
  tails = exp_tails;
  first = exp_first;
  same = refl;
  go = λ st t f e. tt;
  wrapped = λ w l f n k t i j go may le F. inl (node_of w s.Exp l f n k t i j may le F);
  node = λ levels deeper inner w l t i j N. inl N;
  wraps = λ levels deeper inner w l t i j W. inr W;
  wrapped_wraps = λ levels deeper inner w l t i j go W. inr W;
}

-- no expression is an absent declarator
exp_there : (f : Form) → may_be s.Exp f ≡ true → is_absent_form f ≡ false
exp_there (form.Declarator declarator.Absent) e = absurd (cc e)
exp_there (form.Declarator _) e = refl
exp_there _ e = refl

there : (n : ℕ) (w : List Shape) (t : Plain) (i j : Spot) → lower n w s.Exp 1 t i j → is_absent t ≡ false
there zero w t i j P = absurd P
there (suc n) w t i j P = elim (in_at 8 n w s.Exp 1 t i j (in_spelled n w s.Exp 1 t i j P)) [
  | inl N ↦ exp_there t.form N.may
  | inr W ↦ W.is_there
]

module _ (d : ℕ) (w : List Shape) (E : Calls d w) (EO : CallsOpened d w) (inner : Parts) (IS : Inner d w inner) (k : ℕ) (small : 1 ≤ k) (least : ℕ) where
  -- an expression in parentheses
  in_parens : (i : Spot) (y : Standing) (p : Input) → Is w (class.Punct punct.LeftParen) i → has (starts s.TypeName) (class_at w (turned (happens event.Aside) (step i))) ≡ false
      → read body d (standing 17 (parenthesized s.Exp)) (from w (step i)) ≡ Ok (y, p) → Stands d w s.Exp k least i y p
  in_parens i y p opens begins h =
      let a = split (read body d (parenthesized s.Exp) (from w (step i))) (λ x j. Ok (record { found = x; level = 17 }, j)) y p h in
      let P = paren_says d w E inner IS s.Exp exp_leveled k least s.Exp (step i) a.value a.place refl a.first in
      subst (λ (y : Standing × Input). Stands d w s.Exp k least i y.0 y.1) (same_pair (record { found = a.value; level = 17 }) y a.place p a.second)
      (paren_stands d w E inner IS s.Exp exp_leveled k least i a.value a.place opens begins (there a.value.height w a.value.tree (step i) P.last (P.spelled a.value.height (omega arith))) P)

  -- a form as tight as it must be, of which these pieces are left
  rest_stands : (f : Form) (i m : Spot) (y : Standing) (p : Input) (r : Reader Found) → may_be s.Exp f ≡ true
      → ((t : ℕ) (x : Found) (p : Input) → 1 ≤ t → read body d r (from w m) ≡ Ok (x, p) → Says d w (λ n t' i j. IsForm w s.Exp f n t t' i j) i x p)
      → read body d (tight least f r) (from w m) ≡ Ok (y, p) → Stands d w s.Exp k least i y p
  rest_stands f i m y p r may F h =
      let T = tight_read d least f r (from w m) y p h in
      subst (λ y. Stands d w s.Exp k least i y p) (sym T.value) (node_stands d w E inner IS s.Exp exp_leveled k least f i T.found p may T.tight (F k T.found p small T.reads) (F 8 T.found p (omega arith) T.reads))

  by_type : (named other : Reader Standing) (m : Spot) (b : Bool) (i : Spot) (y : Standing) (p : Input) → has (starts s.TypeName) (class_at w (turned (happens event.Aside) m)) ≡ b
      → (read body d named (from w (turned (happens event.Aside) m)) ≡ Ok (y, p) → Stands d w s.Exp k least i y p)
      → (has (starts s.TypeName) (class_at w (turned (happens event.Aside) m)) ≡ false → read body d other (from w m) ≡ Ok (y, p) → Stands d w s.Exp k least i y p)
      → read body d (choose b named (Change event.Resume other)) (from w (turned (happens event.Aside) m)) ≡ Ok (y, p) → Stands d w s.Exp k least i y p
  by_type named other m true i y p e N O h = N h
  by_type named other m false i y p e N O h = O e h

  type_or_says : (named other : Reader Standing) (m i : Spot) (y : Standing) (p : Input)
      → (read body d named (from w (turned (happens event.Aside) (step m))) ≡ Ok (y, p) → Stands d w s.Exp k least i y p)
      → (has (starts s.TypeName) (class_at w (turned (happens event.Aside) (step m))) ≡ false → read body d other (from w (step m)) ≡ Ok (y, p) → Stands d w s.Exp k least i y p)
      → read body d (type_or named other) (from w m) ≡ Ok (y, p) → Stands d w s.Exp k least i y p
  unfolding type_or
  type_or_says named other m i y p N O h = by_type named other (step m) (has (starts s.TypeName) (class_at w (turned (happens event.Aside) (step m)))) i y p refl N O h

  entered_says : (i : Spot) (y : Standing) (p : Input) → Is w (class.Punct punct.LeftParen) i → read body d (entered least i.place) (from w i) ≡ Ok (y, p) → Stands d w s.Exp k least i y p
  entered_says i y p opens h =
      let v = roomy d 0 (nat_lt 0 d) _ i.place y p refl h in
      type_or_says _ (standing 17 (parenthesized s.Exp)) i i y p
      (λ h. rest_stands (form.Exp exp.Cast) i (turned (happens event.Aside) (step i)) y p _ refl
      (λ t x p le h. completed_says d w E inner IS t t (omega arith) s.Exp (form.Exp exp.Cast) i (turned (happens event.Aside) (step i)) nothing (after_paren (pieces (form.Exp exp.Cast))) x p refl refl (λ _. v.0) (omega arith)
      (λ n le ts j M. (opens, (refl, M))) h) h)
      (λ begins h. in_parens i y p opens begins h) v.1

  sized_opened_says : (i : Spot) (t : ℕ) (x : Found) (p : Input) → Is w (class.Key key.Sizeof) i → Is w (class.Punct punct.LeftParen) (step i) → has (starts s.TypeName) (class_at w (turned (happens event.Aside) (step (step i)))) ≡ false
      → read body d (sized_opened i.place) (from w (step (step i))) ≡ Ok (x, p) → Says d w (λ n t' i j. IsForm w s.Exp (form.Exp exp.SizeofExp) n t t' i j) i x p
  sized_opened_says i t x p own opens start h =
      let a = split (below body d Opened (from w (step (step i)))) (λ x j. Ok (node (form.Exp exp.SizeofExp) i.place j.at.place (one (deeper x)), j)) x p h in
      let C = EO (step i) a.value a.place opens start a.first in
      subst (λ (y : Found × Input). Says d w (λ n t' i j. IsForm w s.Exp (form.Exp exp.SizeofExp) n t t' i j) i y.0 y.1) (same_pair (node (form.Exp exp.SizeofExp) i.place a.place.at.place (one (deeper a.value))) x a.place p a.second) (record {
        place = C.place;
        placed = C.placed;
        high = omega (arith, C.high);
        spelled = λ n le. record {
          parts = a.value.tree ∷ [];
          value = ap (λ q. forests.node (form.Exp exp.SizeofExp) (spanned i.place q.at.place) (a.value.tree ∷ [])) C.placed;
          left = some_level n (omega arith);
          matches = (own, record { first = a.value.tree; others = []; place = C.place; value = refl; is_first = lowered w s.Exp 15 a.value.tree (step i) C.place a.value.height n C.spelled (omega arith); are_others = (refl, refl) });
        };
      })

  by_paren : (i : Spot) (b : Bool) (y : Standing) (p : Input) → Is w (class.Key key.Sizeof) i → 0 < d → is_sign punct.LeftParen (seen_at w (step i)) ≡ b
      → read body d (choose b (type_or (tight least (form.Exp exp.SizeofType) (completed called s.Exp (form.Exp exp.SizeofType) i.place nothing (after_paren (pieces (form.Exp exp.SizeofType)))))
      (tight least (form.Exp exp.SizeofExp) (sized_opened i.place))) (tight least (form.Exp exp.SizeofExp) (completed called s.Exp (form.Exp exp.SizeofExp) i.place nothing (after_first (pieces (form.Exp exp.SizeofExp)))))) (from w (step i)) ≡ Ok (y, p)
      → Stands d w s.Exp k least i y p
  by_paren i true y p own room e h =
      let opens : Is w (class.Punct punct.LeftParen) (step i) = same_class (class_at w (step i)) (class_number (class.Punct punct.LeftParen)) e in
      type_or_says _ _ (step i) i y p
      (λ h. rest_stands (form.Exp exp.SizeofType) i (turned (happens event.Aside) (step (step i))) y p _ refl
      (λ t x p le h. completed_says d w E inner IS t t (omega arith) s.Exp (form.Exp exp.SizeofType) i (turned (happens event.Aside) (step (step i))) nothing (after_paren (pieces (form.Exp exp.SizeofType))) x p refl refl (λ _. room) (omega arith)
      (λ n le ts j M. (own, (opens, (refl, M)))) h) h)
      (λ begins h. rest_stands (form.Exp exp.SizeofExp) i (step (step i)) y p (sized_opened i.place) refl (λ t x p le h. sized_opened_says i t x p own opens begins h) h) h
  by_paren i false y p own room e h = rest_stands (form.Exp exp.SizeofExp) i (step i) y p _ refl
      (λ t x p le h. completed_says d w E inner IS t t (omega arith) s.Exp (form.Exp exp.SizeofExp) i (step i) nothing (after_first (pieces (form.Exp exp.SizeofExp))) x p refl refl (λ _. room) (omega arith) (λ n le ts j M. (own, M)) h) h

  sized_says : (i : Spot) (y : Standing) (p : Input) → Is w (class.Key key.Sizeof) i → read body d (sized inner least i.place) (from w i) ≡ Ok (y, p) → Stands d w s.Exp k least i y p
  sized_says i y p own h = let v = roomy d 0 (nat_lt 0 d) _ i.place y p refl h in by_paren i (is_sign punct.LeftParen (seen_at w (step i))) y p own v.0 refl v.1

  begun_says : (i : Spot) (o : Option Form) (y : Standing) (p : Input) → begun_right s.Exp 1 o ≡ true → owned_by o (raw_at w i.place) ≡ Some (raw_at w i.place) → read body d (begun_by inner least o) (from w i) ≡ Ok (y, p) → Stands d w s.Exp k least i y p
  begun_says i (Some f) y p R o h = let r = both (may_be s.Exp f) _ R in let e = both (nat_lt 0 (level f)) _ r.1 in
      rest_stands f i i y p (whole inner s.Exp f) r.0 (λ t x p le h. whole_says d w E inner IS 1 t le s.Exp f i x p e.1 o h) h
  begun_says i None y p R o h = absurd (cc h)

  by_start : (i : Spot) (b : Bool) (y : Standing) (p : Input) → read body d (choose b (begun_by inner least (begun s.Exp (raw_at w i.place))) Refuse) (from w i) ≡ Ok (y, p) → Stands d w s.Exp k least i y p
  by_start i true y p h = let e = exp_begun (raw_at w i.place) in begun_says i (begun s.Exp (raw_at w i.place)) y p e.0 e.1 h
  by_start i false y p h = absurd (cc h)

  by_sizeof : (i : Spot) (b : Bool) (y : Standing) (p : Input) → is_class (class.Key key.Sizeof) (seen_at w i) ≡ b
      → read body d (choose b (sized inner least i.place) (choose (begins s.Exp (seen_at w i)) (begun_by inner least (begun s.Exp (raw_at w i.place))) Refuse)) (from w i) ≡ Ok (y, p) → Stands d w s.Exp k least i y p
  by_sizeof i true y p e h = sized_says i y p (same_class (class_at w i) (class_number (class.Key key.Sizeof)) e) h
  by_sizeof i false y p e h = by_start i (begins s.Exp (seen_at w i)) y p h

  by_left : (i : Spot) (b : Bool) (y : Standing) (p : Input) → is_sign punct.LeftParen (seen_at w i) ≡ b
      → read body d (choose b (entered least i.place) (choose (is_class (class.Key key.Sizeof) (seen_at w i)) (sized inner least i.place) (choose (begins s.Exp (seen_at w i)) (begun_by inner least (begun s.Exp (raw_at w i.place))) Refuse))) (from w i) ≡ Ok (y, p)
      → Stands d w s.Exp k least i y p
  by_left i true y p e h = entered_says i y p (same_class (class_at w i) (class_number (class.Punct punct.LeftParen)) e) h
  by_left i false y p e h = by_sizeof i (is_class (class.Key key.Sizeof) (seen_at w i)) y p refl h

  primary_says : (i : Spot) (y : Standing) (p : Input) → read body d (primary inner least) (from w i) ≡ Ok (y, p) → Stands d w s.Exp k least i y p
  unfolding primary
  primary_says i y p h = by_left i (is_sign punct.LeftParen (seen_at w i)) y p refl h

  -- what began goes on
  pub goes_on : (i : Spot) (y : Standing) (q : Input) (x : Found) (p : Input) → Stands d w s.Exp k least i y q → read body d (climb s.Exp least i.place y) q ≡ Ok (x, p) → Tells d w x.height (λ n j. Stood w s.Exp k n least x.tree i j) p
  goes_on i y q x p S h = climb_says d w E inner IS s.Exp exp_leveled k least i y q x p S h

  pub expression_says : (i : Spot) (x : Found) (p : Input) → read body d (expression inner least) (from w i) ≡ Ok (x, p) → Says d w (λ n. In (suc k) n w s.Exp least) i x p
  unfolding expression
  expression_says i x p h =
      let a = split (read body d (primary inner least) (from w i)) (λ y j. read body d (climb s.Exp least i.place y) j) x p h in
      let K = goes_on i a.value a.place x p (primary_says i a.value a.place a.first) a.second in
      record { place = K.place; placed = K.placed; high = K.high; spelled = λ n le. (K.spelled n le).0 }

module _ (d : ℕ) (w : List Shape) (E : Calls d w) (EO : CallsOpened d w) (inner : Parts) (IS : Inner d w inner) where
  by_opened : (i : Spot) (b : Bool) (y : Standing) (p : Input) → Is w (class.Punct punct.LeftParen) i → has (starts s.TypeName) (class_at w (turned (happens event.Aside) (step i))) ≡ false
      → read body d (choose b (Fits 0 (standing 17 (parenthesized s.Exp))) Refuse) (from w (step i)) ≡ Ok (y, p) → Stands d w s.Exp 8 15 i y p
  by_opened i true y p opens start h = in_parens d w E EO inner IS 8 (omega arith) 15 i y p opens start (roomy d 0 (nat_lt 0 d) (read body d (standing 17 (parenthesized s.Exp)) (from w (step i))) (step i).place y p refl h).1
  by_opened i false y p opens start h = absurd (cc h)

  -- the operand of `sizeof` after its opening parenthesis
  pub opened_says : (i : Spot) (x : Found) (p : Input) → Is w (class.Punct punct.LeftParen) i → has (starts s.TypeName) (class_at w (turned (happens event.Aside) (step i))) ≡ false → read body d opened (from w (step i)) ≡ Ok (x, p)
      → Says d w (λ n. In 9 n w s.Exp 15) i x p
  unfolding opened
  opened_says i x p opens start h =
      let a = split (read body d (choose (begins s.Exp (seen_at w (step i))) (Fits 0 (standing 17 (parenthesized s.Exp))) Refuse) (from w (step i))) (λ y j. read body d (climb s.Exp 15 (i.place + 1 - 1) y) j) x p h in
      let K = goes_on d w E EO inner IS 8 (omega arith) 15 i a.value a.place x p (by_opened i (begins s.Exp (seen_at w (step i))) a.value a.place opens start a.first)
      (let back : i.place ≡ i.place + 1 - 1 = omega arith in ap (λ n. read body d (climb s.Exp 15 n a.value) a.place) back ∙ a.second) in
      record { place = K.place; placed = K.placed; high = K.high; spelled = λ n le. (K.spelled n le).0 }
