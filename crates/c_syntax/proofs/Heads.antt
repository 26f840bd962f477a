-- What begins a declarator is spelled, and what goes on with it.
use Rattle.std.proofs.Common.{◌≡◌, refl, subst, ap, sym, ℕ, suc, ◌<◌, ◌≤◌, nat_lt, nat_eq, Bool, true, false, ◌&&◌, ◌||◌, List, [], Ok, arith}
use Rattle.c_tokens.specs.declared.token.Punct.TheVariants as punct
use Rattle.c_tokens.specs.declared.token.Shape.{Shape}
use Rattle.c_tokens.specs.declared.class.Class.TheVariants as class
use Rattle.c_tokens.specs.ClassNumbers.{class_number}
use Rattle.c_forms.specs.declared.pieces.Sort.{Sort}
use Rattle.c_forms.specs.declared.pieces.Sort.TheVariants as s
use Rattle.c_forms.specs.declared.forms.DeclaratorForm.TheVariants as declarator
use Rattle.c_forms.specs.Forests.{Plain}
use Rattle.c_forms.specs.Measures.{level, pieces}
use Rattle.c_forms.specs.Sets.{has}
use Rattle.c_reader.specs.Tokens.{Spot, step, seen_at, class_at}
use Rattle.c_reader.specs.Readers.{Input, Found, Give, Refuse, Look, read, choose}
use Rattle.c_reader.proofs.Local.{from}
use Rattle.c_reader.proofs.Loops.{split, same_pair}
use Rattle.c_reader.proofs.Sets.{both, same_class}
use Rattle.c_syntax.specs.Reading.{Parts, is_absent, inside, one, deeper, called, completed}
use Rattle.c_syntax.specs.Grammar.{body, is_sign, is_value, whole, after_first, Standing, standing, tight, parenthesized, the_declarator, may_be_absent, may_be_named, parenthesized_sort, begins_parenthesized, absent_at, nameless_function, is_nameable, opened_declarator, declarator_head, declarator_of, climb}
use Rattle.c_syntax.specs.Spells.{Is, may_be, BeginsWrapped, Spells, nameless_starts, wrapped_sort}
use Rattle.c_syntax.proofs.Told.{levels, lower, In, Says, Calls, Inner, is_due, lowered, spelled_in, roomy}
use Rattle.c_syntax.proofs.Parts.{fine_first}
use Rattle.c_syntax.proofs.Nodes.{IsForm, node_of, ok, completed_says, whole_says, at_in}
use Rattle.c_syntax.proofs.Climbs.{Stands, Leveled, tight_read, paren_says, paren_stands, node_stands, climb_says}
use Rattle.c_syntax.proofs.Declarators.{declarator_leveled, abstract_leveled, param_leveled, member_leveled, there, abstract_there, param_there}

-- what a declarator in parentheses begins with
starts_nameless : (c : ℕ) (a b e : Bool) → nat_eq c (class_number (class.Punct punct.Star)) ≡ a → nat_eq c (class_number (class.Punct punct.LeftBracket)) ≡ b → nat_eq c (class_number (class.Punct punct.LeftParen)) ≡ e
    → (a || (b || e)) ≡ true → has nameless_starts c ≡ true
starts_nameless c true b e x y z h = ap (has nameless_starts) (same_class c (class_number (class.Punct punct.Star)) x)
starts_nameless c false true e x y z h = ap (has nameless_starts) (same_class c (class_number (class.Punct punct.LeftBracket)) y)
starts_nameless c false false true x y z h = ap (has nameless_starts) (same_class c (class_number (class.Punct punct.LeftParen)) z)
starts_nameless c false false false x y z h = absurd (cc h)

-- what is known of a sort of declarators that have a name, or may be absent
pub record Named (due : Sort) : Type 0 where
  pub parens : parenthesized_sort due ≡ wrapped_sort due
  pub begins : (w : List Shape) (i : Spot) → BeginsWrapped due w i
  pub there : (n : ℕ) (w : List Shape) (t : Plain) (i j : Spot) → lower n w (wrapped_sort due) 1 t i j → is_absent t ≡ false

-- and of one of those that need none
pub record Nameless (due : Sort) : Type 0 where
  pub parens : due ≡ wrapped_sort due
  pub inner : inside due s.InnerDeclarator ≡ due
  pub begins : (w : List Shape) (i : Spot) → has nameless_starts (class_at w i) ≡ true → BeginsWrapped due w i
  pub there : (n : ℕ) (w : List Shape) (t : Plain) (i j : Spot) → lower n w (wrapped_sort due) 1 t i j → has nameless_starts (class_at w i) ≡ true → Is w (class.Punct punct.RightParen) j → is_absent t ≡ false
  pub function : may_be due (the_declarator declarator.FunctionOf) ≡ true
  pub fine : fine_first is_due due (after_first (after_first (pieces (the_declarator declarator.FunctionOf)))) ≡ true
  pub absent : may_be due (the_declarator declarator.Absent) ≡ true

pub record Declares (due : Sort) : Type 1 where
  pub leveled : Leveled due
  pub wrapped_due : is_due (wrapped_sort due) 1 ≡ true
  pub named : is_nameable due ≡ true → Named due
  pub nameless : is_nameable due ≡ false → Nameless due
  pub name : may_be_named due ≡ true → may_be due (the_declarator declarator.Named) ≡ true
  pub name_fine : fine_first (ok false 1) due (pieces (the_declarator declarator.Named)) ≡ true
  pub pointer : may_be due (the_declarator declarator.Pointer) ≡ true
  pub pointer_fine : fine_first is_due due (pieces (the_declarator declarator.Pointer)) ≡ true
  pub absent : may_be_absent due ≡ true → may_be due (the_declarator declarator.Absent) ≡ true

pub declarators : Declares s.Declarator
declarators = record {
  leveled = declarator_leveled;
  wrapped_due = refl;
  named = λ _. record { parens = refl; begins = λ w i. tt; there = there };
  nameless = λ e. absurd (cc e);
  name = λ _. refl;
  name_fine = refl;
  pointer = refl;
  pointer_fine = refl;
  absent = λ e. absurd (cc e);
}

pub member_names : Declares s.MemberName
member_names = record {
  leveled = member_leveled;
  wrapped_due = refl;
  named = λ _. record { parens = refl; begins = λ w i. tt; there = there };
  nameless = λ e. absurd (cc e);
  name = λ _. refl;
  name_fine = refl;
  pointer = refl;
  pointer_fine = refl;
  absent = λ _. refl;
}

pub abstracts : Declares s.AbstractDeclarator
abstracts = record {
  leveled = abstract_leveled;
  wrapped_due = refl;
  named = λ e. absurd (cc e);
  nameless = λ _. record { parens = refl; inner = refl; begins = λ w i e. e; there = abstract_there; function = refl; fine = refl; absent = refl };
  name = λ e. absurd (cc e);
  name_fine = refl;
  pointer = refl;
  pointer_fine = refl;
  absent = λ _. refl;
}

pub parameters : Declares s.ParamDeclarator
parameters = record {
  leveled = param_leveled;
  wrapped_due = refl;
  named = λ e. absurd (cc e);
  nameless = λ _. record { parens = refl; inner = refl; begins = λ w i e. e; there = param_there; function = refl; fine = refl; absent = refl };
  name = λ _. refl;
  name_fine = refl;
  pointer = refl;
  pointer_fine = refl;
  absent = λ _. refl;
}

-- an absent declarator
absent_form : (w : List Shape) (due : Sort) (n k : ℕ) (i : Spot) → IsForm w due (the_declarator declarator.Absent) n k (absent_at i.place).tree i i
absent_form w due n k i = record { parts = []; value = refl; left = tt; matches = (refl, refl) }

module _ (d : ℕ) (w : List Shape) (E : Calls d w) (inner : Parts) (IS : Inner d w inner) (due : Sort) (D : Declares due) (k : ℕ) (small : 1 ≤ k) (least : ℕ) (low : least ≤ 2) where
  wrapped_stands : (i : Spot) (y : Standing) (p : Input) (a : Sort) → a ≡ wrapped_sort due → Is w (class.Punct punct.LeftParen) i → BeginsWrapped due w (step i)
      → ((n : ℕ) (t : Plain) (j : Spot) → lower n w (wrapped_sort due) 1 t (step i) j → Is w (class.Punct punct.RightParen) j → is_absent t ≡ false)
      → read body d (standing 17 (parenthesized a)) (from w (step i)) ≡ Ok (y, p) → Stands d w due k least i y p
  wrapped_stands i y p a same opens begins there h =
      let c = split (read body d (parenthesized (wrapped_sort due)) (from w (step i))) (λ x j. Ok (record { found = x; level = 17 }, j)) y p (subst (λ a. read body d (standing 17 (parenthesized a)) (from w (step i)) ≡ Ok (y, p)) same h) in
      let P = paren_says d w E inner IS due D.leveled k least (wrapped_sort due) (step i) c.value c.place D.wrapped_due c.first in
      subst (λ (y : Standing × Input). Stands d w due k least i y.0 y.1) (same_pair (record { found = c.value; level = 17 }) y c.place p c.second)
      (paren_stands d w E inner IS due D.leveled k least i c.value c.place opens begins (there c.value.height c.value.tree P.last (P.spelled c.value.height (omega arith)) P.closes) P)

  absent_spelled : (N : Nameless due) (n : ℕ) (i : Spot) → Spells n w due 2 (absent_at i.place).tree i i
  absent_spelled N n i = spelled_in n w due 2 (absent_at i.place).tree i i (at_in 8 n w due 2 (absent_at i.place).tree i i
      (D.leveled.node (levels n) (lower n w) (In 8 n w) w 2 (absent_at i.place).tree i i (node_of w due 2 (the_declarator declarator.Absent) n 8 (absent_at i.place).tree i i N.absent (omega arith) (absent_form w due n 8 i))))

  function_says : (N : Nameless due) (t : ℕ) (i : Spot) (x : Found) (p : Input) → Is w (class.Punct punct.LeftParen) i → 0 < d
      → read body d (completed called due (the_declarator declarator.FunctionOf) i.place (one (deeper (absent_at i.place))) (after_first (after_first (pieces (the_declarator declarator.FunctionOf))))) (from w (step i)) ≡ Ok (x, p)
      → Says d w (λ n t' i j. IsForm w due (the_declarator declarator.FunctionOf) n t t' i j) i x p
  function_says N t i x p opens room h = completed_says d w E inner IS t t (omega arith) due (the_declarator declarator.FunctionOf) i (step i) (one (deeper (absent_at i.place)))
      (after_first (after_first (pieces (the_declarator declarator.FunctionOf)))) x p N.fine refl (λ _. room) (omega (arith, room))
      (λ n le ts j M. record {
        first = (absent_at i.place).tree;
        others = ts;
        place = i;
        value = refl;
        is_first = subst (λ q. lower n w q 2 (absent_at i.place).tree i i) (sym N.inner) (lowered w due 2 (absent_at i.place).tree i i 0 n (λ n _. absent_spelled N n i) le);
        are_others = (opens, M);
      }) h

  nameless_says : (N : Nameless due) (i : Spot) (y : Standing) (p : Input) → Is w (class.Punct punct.LeftParen) i → 0 < d → read body d (nameless_function due i.place) (from w (step i)) ≡ Ok (y, p) → Stands d w due k least i y p
  nameless_says N i y p opens room h =
      let c = split (read body d (completed called due (the_declarator declarator.FunctionOf) i.place (one (deeper (absent_at i.place))) (after_first (after_first (pieces (the_declarator declarator.FunctionOf))))) (from w (step i)))
      (λ x j. Ok (record { found = x; level = level (the_declarator declarator.FunctionOf) }, j)) y p h in
      subst (λ (y : Standing × Input). Stands d w due k least i y.0 y.1) (same_pair (record { found = c.value; level = level (the_declarator declarator.FunctionOf) }) y c.place p c.second)
      (node_stands d w E inner IS due D.leveled k least (the_declarator declarator.FunctionOf) i c.value c.place N.function low (function_says N k i c.value c.place opens room c.first) (function_says N 8 i c.value c.place opens room c.first))

  by_begin : (N : Nameless due) (i : Spot) (b : Bool) (y : Standing) (p : Input) → Is w (class.Punct punct.LeftParen) i → 0 < d → begins_parenthesized (seen_at w (step i)) ≡ b
      → read body d (choose b (standing 17 (parenthesized due)) (nameless_function due i.place)) (from w (step i)) ≡ Ok (y, p) → Stands d w due k least i y p
  by_begin N i true y p opens room e h =
      let begins : has nameless_starts (class_at w (step i)) ≡ true = starts_nameless (class_at w (step i)) _ _ _ refl refl refl e in
      wrapped_stands i y p due N.parens opens (N.begins w (step i) begins) (λ n t j P closes. N.there n w t (step i) j P begins closes) h
  by_begin N i false y p opens room e h = nameless_says N i y p opens room h

  by_name : (i : Spot) (b : Bool) (y : Standing) (p : Input) → Is w (class.Punct punct.LeftParen) i → 0 < d → is_nameable due ≡ b
      → read body d (choose b (standing 17 (parenthesized (parenthesized_sort due))) (Look (λ y. choose (begins_parenthesized y) (standing 17 (parenthesized due)) (nameless_function due i.place)))) (from w (step i)) ≡ Ok (y, p) → Stands d w due k least i y p
  by_name i true y p opens room e h = let N = D.named e in wrapped_stands i y p (parenthesized_sort due) N.parens opens (N.begins w (step i)) (λ n t j P closes. N.there n w t (step i) j P) h
  by_name i false y p opens room e h = by_begin (D.nameless e) i (begins_parenthesized (seen_at w (step i))) y p opens room refl h

  opened_stands : (i : Spot) (y : Standing) (p : Input) → Is w (class.Punct punct.LeftParen) i → read body d (opened_declarator due i.place) (from w i) ≡ Ok (y, p) → Stands d w due k least i y p
  opened_stands i y p opens h = let v = roomy d 0 (nat_lt 0 d) _ i.place y p refl h in by_name i (is_nameable due) y p opens v.0 refl v.1

  pointer_stands : (i : Spot) (y : Standing) (p : Input) → read body d (tight least (the_declarator declarator.Pointer) (whole inner due (the_declarator declarator.Pointer))) (from w i) ≡ Ok (y, p) → Stands d w due k least i y p
  pointer_stands i y p h =
      let T = tight_read d least (the_declarator declarator.Pointer) (whole inner due (the_declarator declarator.Pointer)) (from w i) y p h in
      subst (λ y. Stands d w due k least i y p) (sym T.value) (node_stands d w E inner IS due D.leveled k least (the_declarator declarator.Pointer) i T.found p D.pointer T.tight
      (whole_says d w E inner IS k k (omega arith) due (the_declarator declarator.Pointer) i T.found p D.pointer_fine refl T.reads) (whole_says d w E inner IS 8 8 (omega arith) due (the_declarator declarator.Pointer) i T.found p D.pointer_fine refl T.reads))

  name_stands : (i : Spot) (y : Standing) (p : Input) → may_be_named due ≡ true → read body d (standing 17 (whole inner due (the_declarator declarator.Named))) (from w i) ≡ Ok (y, p) → Stands d w due k least i y p
  name_stands i y p may h =
      let c = split (read body d (whole inner due (the_declarator declarator.Named)) (from w i)) (λ x j. Ok (record { found = x; level = 17 }, j)) y p h in
      subst (λ (y : Standing × Input). Stands d w due k least i y.0 y.1) (same_pair (record { found = c.value; level = 17 }) y c.place p c.second)
      (node_stands d w E inner IS due D.leveled k least (the_declarator declarator.Named) i c.value c.place (D.name may) (omega arith)
      (whole_says d w E inner IS 1 k small due (the_declarator declarator.Named) i c.value c.place D.name_fine refl c.first) (whole_says d w E inner IS 1 8 (omega arith) due (the_declarator declarator.Named) i c.value c.place D.name_fine refl c.first))

  by_absent : (i : Spot) (b : Bool) (y : Standing) (p : Input) → may_be_absent due ≡ b → read body d (choose b (Give (record { found = absent_at i.place; level = 17 })) Refuse) (from w i) ≡ Ok (y, p) → Stands d w due k least i y p
  by_absent i true y p e h = subst (λ (y : Standing × Input). Stands d w due k least i y.0 y.1) (same_pair (record { found = absent_at i.place; level = 17 }) y (from w i) p h)
      (node_stands d w E inner IS due D.leveled k least (the_declarator declarator.Absent) i (absent_at i.place) (from w i) (D.absent e) (omega arith)
      (record { place = i; placed = refl; high = omega arith; spelled = λ n le. absent_form w due n k i }) (record { place = i; placed = refl; high = omega arith; spelled = λ n le. absent_form w due n 8 i }))
  by_absent i false y p e h = absurd (cc h)

  by_word : (i : Spot) (b : Bool) (y : Standing) (p : Input) → (is_value (seen_at w i) && may_be_named due) ≡ b
      → read body d (choose b (standing 17 (whole inner due (the_declarator declarator.Named))) (choose (may_be_absent due) (Give (record { found = absent_at i.place; level = 17 })) Refuse)) (from w i) ≡ Ok (y, p) → Stands d w due k least i y p
  by_word i true y p e h = name_stands i y p (both (is_value (seen_at w i)) (may_be_named due) e).1 h
  by_word i false y p e h = by_absent i (may_be_absent due) y p refl h

  by_star : (i : Spot) (b : Bool) (y : Standing) (p : Input)
      → read body d (choose b (tight least (the_declarator declarator.Pointer) (whole inner due (the_declarator declarator.Pointer))) (choose (is_value (seen_at w i) && may_be_named due) (standing 17 (whole inner due (the_declarator declarator.Named)))
      (choose (may_be_absent due) (Give (record { found = absent_at i.place; level = 17 })) Refuse))) (from w i) ≡ Ok (y, p) → Stands d w due k least i y p
  by_star i true y p h = pointer_stands i y p h
  by_star i false y p h = by_word i (is_value (seen_at w i) && may_be_named due) y p refl h

  by_paren : (i : Spot) (b : Bool) (y : Standing) (p : Input) → is_sign punct.LeftParen (seen_at w i) ≡ b
      → read body d (choose b (opened_declarator due i.place) (choose (is_sign punct.Star (seen_at w i)) (tight least (the_declarator declarator.Pointer) (whole inner due (the_declarator declarator.Pointer)))
      (choose (is_value (seen_at w i) && may_be_named due) (standing 17 (whole inner due (the_declarator declarator.Named))) (choose (may_be_absent due) (Give (record { found = absent_at i.place; level = 17 })) Refuse)))) (from w i) ≡ Ok (y, p)
      → Stands d w due k least i y p
  by_paren i true y p e h = opened_stands i y p (same_class (class_at w i) (class_number (class.Punct punct.LeftParen)) e) h
  by_paren i false y p e h = by_star i (is_sign punct.Star (seen_at w i)) y p h

  head_stands : (i : Spot) (y : Standing) (p : Input) → read body d (declarator_head inner due least) (from w i) ≡ Ok (y, p) → Stands d w due k least i y p
  unfolding declarator_head
  head_stands i y p h = by_paren i (is_sign punct.LeftParen (seen_at w i)) y p refl h

  pub declarator_says : (i : Spot) (x : Found) (p : Input) → read body d (declarator_of inner due least) (from w i) ≡ Ok (x, p) → Says d w (λ n. In (suc k) n w due least) i x p
  unfolding declarator_of
  declarator_says i x p h =
      let a = split (read body d (declarator_head inner due least) (from w i)) (λ y j. read body d (climb due least i.place y) j) x p h in
      let K = climb_says d w E inner IS due D.leveled k least i a.value a.place x p (head_stands i a.value a.place a.first) a.second in
      record { place = K.place; placed = K.placed; high = K.high; spelled = λ n le. (K.spelled n le).0 }
