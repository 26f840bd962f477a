-- Trees in the parentheses that a layout adds are spelled.
use Rattle.std.proofs.Common.{◌≡◌, refl, ap, sym, subst, ◌∙◌, inr, ℕ, suc, ◌+◌, ◌≤◌, Bool, true, false, ◌||◌, List, [], ◌∷◌, ◌++◌, nat_eq, nat_lt, if◌then◌else◌, arith}
use Rattle.c_tokens.specs.declared.span.Span.{Span}
use Rattle.c_tokens.specs.declared.token.Shape.{Shape}
use Rattle.c_tokens.specs.declared.token.Shape.TheVariants as shape
use Rattle.c_tokens.specs.declared.token.Punct.{Punct}
use Rattle.c_tokens.specs.declared.token.Punct.TheVariants as punct
use Rattle.c_tokens.specs.declared.token.Key.{Key}
use Rattle.c_tokens.specs.declared.token.Key.TheVariants as key
use Rattle.c_forms.specs.declared.pieces.Event.TheVariants as event
use Rattle.c_forms.specs.declared.pieces.Sort.{Sort}
use Rattle.c_forms.specs.declared.pieces.Sort.TheVariants as s
use Rattle.c_forms.specs.declared.forms.Form.{Form}
use Rattle.c_forms.specs.declared.forms.Form.TheVariants as form
use Rattle.c_forms.specs.declared.operators.BinaryOperator.{BinaryOperator}
use Rattle.c_forms.specs.declared.operators.BinaryOperator.TheVariants as operator
use Rattle.c_forms.specs.declared.forms.ExpForm.{ExpForm}
use Rattle.c_forms.specs.declared.forms.ExpForm.TheVariants as exp
use Rattle.c_forms.specs.declared.forms.DeclaratorForm.{DeclaratorForm}
use Rattle.c_forms.specs.declared.forms.DeclaratorForm.TheVariants as declarator
use Rattle.c_forms.specs.Forests.{Plain, Forest}
use Rattle.c_forms.specs.Measures.{level, star}
use Rattle.c_forms.specs.Places.{stands}
use Rattle.c_forms.specs.Sets.{starts, has}
use Rattle.c_reader.specs.States.{State, happens}
use Rattle.c_reader.specs.States as States
use Rattle.c_reader.specs.Tokens.{Spot, step, turned, raw_at}
use Rattle.c_syntax.specs.Allowed.{places}
use Rattle.c_syntax.specs.Reading.{is_absent, is_absent_form, is_starred}
use Rattle.c_syntax.specs.Spells.{Spelling, At, Wraps, wrapped_sort, nameless_starts, BeginsWrapped}
use Rattle.c_layout.specs.Spelled.{tokens}
use Rattle.c_trees.specs.Counts.{high}
use Rattle.spelled_trees.specs.Effects.{is_plain_sort}
use Rattle.spelled_trees.specs.Told.{is_named}
use Rattle.spelled_trees.proofs.Parts.{right_of}
use Rattle.spelled_trees.proofs.Scopes.{Scopes}
use Rattle.ready_rows.specs.Printed.{Run}
use Rattle.ready_rows.proofs.Runs.{cut}
use Rattle.ready_rows.proofs.Ready.{the_tree, placed, IsOff}
use Rattle.ready_rows.proofs.Rows.{Fit, Found, off}
use Rattle.ready_rows.proofs.Standing.{Ready, Follows, Made, Does, Holds}
use Rattle.ready_rows.proofs.Steps.{earlier, must_value}
use Rattle.ready_expressions.proofs.Expressions.{seen_value}
use Rattle.ready_expressions.proofs.Heads.{Good, begins_exp, begins_exp_sign, begins_exp_key, exp_head}
use Rattle.c_spelled.proofs.Alone.{exp_is, declarator_is, abstract_is, param_is, member_name_is}
use Rattle.printed_items.proofs.Ranks.{low, most, may_wrap, is_node, level_above}
use Rattle.printed_items.proofs.Forms.{may_of}
use Rattle.printed_items.proofs.Leaves.{Stood, stood}

-- ---- with and without parentheses

pub unwrapped : (least : ℕ) (t : Plain) → nat_lt (level t.form) least ≡ false → placed least t ≡ tokens t
unwrapped least t e = ap (λ b. if b then shape.Punct punct.LeftParen ∷ (tokens t ++ shape.Punct punct.RightParen ∷ []) else tokens t) e

pub wrapped : (least : ℕ) (t : Plain) → nat_lt (level t.form) least ≡ true → placed least t ≡ (shape.Punct punct.LeftParen ∷ (tokens t ++ shape.Punct punct.RightParen ∷ []))
wrapped least t e = ap (λ b. if b then shape.Punct punct.LeftParen ∷ (tokens t ++ shape.Punct punct.RightParen ∷ []) else tokens t) e

-- what counts for the height and is ready is spelled where no parentheses are added around it
abbrev pub PrintsStarred : List Shape → Spelling → (Sort → ℕ → Bool) → ℕ → Type 0
PrintsStarred w S lows k = (due : Sort) (least : ℕ) (t : Plain) (i : Spot) (after : List Shape) (m r : ℕ) → is_starred t.form ≡ true → Fit lows k due least t → nat_lt (level t.form) least ≡ false → Run w i.place (tokens t) m → Run w m after r → Ready due t i.state → Follows due t after
    → Found Ready Follows Does w S due least t i m

-- ---- no expression begins as a type name

sign_begins : (p : Punct) (u : State) (xs : List Shape) → begins_exp_sign p ≡ true → IsOff (starts s.TypeName) u (shape.Punct p ∷ xs)
sign_begins punct.LeftParen u xs e = refl
sign_begins punct.Ampersand u xs e = refl
sign_begins p u xs e = refl

key_begins : (k : Key) (u : State) (xs : List Shape) → begins_exp_key k ≡ true → IsOff (starts s.TypeName) u (shape.Key k ∷ xs)
key_begins key.Sizeof u xs e = refl
key_begins k u xs e = absurd (cc e)

fixed_begins : (x : Shape) (u : State) (xs : List Shape) → begins_exp x ≡ true → IsOff (starts s.TypeName) u (x ∷ xs)
fixed_begins (shape.Punct p) u xs e = sign_begins p u xs e
fixed_begins (shape.Key k) u xs e = key_begins k u xs e
fixed_begins (shape.Int w) u xs e = refl
fixed_begins (shape.Float w) u xs e = refl
fixed_begins (shape.Char w) u xs e = refl
fixed_begins (shape.Str w) u xs e = refl
fixed_begins x u xs e = absurd (cc e)

exp_begins : (f : Form) (sp : Span) (ps : Forest) (u : State) (xs : List Shape) → Good s.Exp (the_tree f sp ps) → Ready s.Exp (the_tree f sp ps) u → IsOff (starts s.TypeName) (happens event.Aside u) (tokens (the_tree f sp ps) ++ xs)
exp_begins f sp ps u xs n r = exp_head (IsOff (starts s.TypeName) (happens event.Aside u)) (λ es. Holds es (happens event.Aside u)) (λ xs ys h. earlier xs ys (happens event.Aside u) h) (λ x xs e. fixed_begins x (happens event.Aside u) xs e)
    (λ v sp xs h. ap (λ c. has (starts s.TypeName) c) (seen_value (happens event.Aside u) v (must_value v sp [] u.entries h.0 h.1).0)) f sp ps n r.1 xs

-- ---- only what counts for the height is put in parentheses

binary_starred : (g : BinaryOperator) → is_starred (form.Exp (exp.Binary g)) ≡ true
binary_starred operator.LogicalOr = refl
binary_starred g = refl

loose_starred : (g : ExpForm) → nat_lt (level (form.Exp g)) 17 ≡ true → is_starred (form.Exp g) ≡ true
loose_starred (exp.Name w) e = absurd (cc e)
loose_starred (exp.Int w) e = absurd (cc e)
loose_starred (exp.Float w) e = absurd (cc e)
loose_starred (exp.Char w) e = absurd (cc e)
loose_starred exp.Str e = absurd (cc e)
loose_starred (exp.Binary g) e = binary_starred g
loose_starred g e = refl

below_top : (l least : ℕ) → nat_lt least 18 ≡ true → nat_lt l least ≡ true → nat_lt l 17 ≡ true
below_top l least a b = grind arith

exp_starred : (f : Form) (least : ℕ) → (g : ExpForm) × (f ≡ form.Exp g) → nat_lt least 18 ≡ true → nat_lt (level f) least ≡ true → is_starred f ≡ true
exp_starred f least o a b = ap is_starred o.1 ∙ loose_starred o.0 (subst (λ f. nat_lt (level f) 17 ≡ true) o.1 (below_top (level f) least a b))

-- ---- only pointers are put in parentheses

less_two : (n : ℕ) → nat_lt n 3 ≡ true → nat_lt 17 n ≡ true → ⊥
less_two n e f = grind arith

equal_two : (n : ℕ) → nat_lt n 3 ≡ true → nat_lt 2 n ≡ true → ⊥
equal_two n e f = grind arith

pointer_by : (g : DeclaratorForm) (least : ℕ) → nat_lt least 3 ≡ true → nat_lt (level (form.Declarator g)) least ≡ true → g ≡ declarator.Pointer
pointer_by declarator.Named least e l = absurd (less_two least e l)
pointer_by declarator.Absent least e l = absurd (less_two least e l)
pointer_by declarator.Pointer least e l = refl
pointer_by declarator.ArrayOf least e l = absurd (equal_two least e l)
pointer_by declarator.FunctionOf least e l = absurd (equal_two least e l)

pub a_pointer : (f : Form) (least : ℕ) → (g : DeclaratorForm) × (f ≡ form.Declarator g) → nat_lt least 3 ≡ true → nat_lt (level f) least ≡ true → f ≡ form.Declarator declarator.Pointer
a_pointer f least o e l = o.1 ∙ ap (λ g. form.Declarator g) (pointer_by o.0 least e (subst (λ f. nat_lt (level f) least ≡ true) o.1 l))

starred_pointer : (f : Form) → f ≡ form.Declarator declarator.Pointer → is_starred f ≡ true
starred_pointer f e = ap is_starred e

absent_pointer : (f : Form) → f ≡ form.Declarator declarator.Pointer → is_absent_form f ≡ false
absent_pointer f e = ap is_absent_form e

star_first : (w : List Shape) (f : Form) (sp : Span) (ps : Forest) (p : ℕ) (xs : List Shape) (m : ℕ) → f ≡ form.Declarator declarator.Pointer → Run w p (tokens (the_tree f sp ps) ++ xs) m → raw_at w p ≡ shape.Punct punct.Star
star_first w f sp ps p xs m e run = let r : Run w p (tokens (the_tree (form.Declarator declarator.Pointer) sp ps) ++ xs) m = subst (λ f. Run w p (tokens (the_tree f sp ps) ++ xs) m) e run in r.0

above : (n : ℕ) → nat_lt 0 n ≡ true → nat_lt n 1 ≡ false
above n e = grind arith

exp_there : (f : Form) → (g : ExpForm) × (f ≡ form.Exp g) → is_absent_form f ≡ false
exp_there f o = ap is_absent_form o.1

pub good_of : (lows : Sort → ℕ → Bool) (k : ℕ) (due : Sort) (least : ℕ) (t : Plain) → Fit lows k due least t → Good due t
good_of lows k due least t F = record { is_plain = F.is_plain; pure = F.pure; stands = F.stands; right = F.right; valid = F.valid }

pub counted : (a b k : ℕ) → nat_eq a 1 ≡ true → a + b ≤ k → 1 ≤ k
counted a b k e h = grind arith

-- ---- in parentheses

module _ (levels : Type 0) (deeper inner : Spelling) (w : List Shape) (n k : ℕ) (left : 1 ≤ k → levels) (scopes : Scopes (At levels deeper inner w)) (T : PrintsStarred w deeper (low places) k) where
  -- a tree that is spelled between parentheses
  enclosed : (due : Sort) (least : ℕ) (t : Plain) (i : Spot) (after : List Shape) (m z : ℕ) → is_plain_sort due ≡ true → is_starred t.form ≡ true → Fit (low places) k (wrapped_sort due) 1 t → nat_lt (level t.form) 1 ≡ false → is_absent t ≡ false → BeginsWrapped due w (step i)
      → Ready (wrapped_sort due) t i.state → Follows (wrapped_sort due) t (shape.Punct punct.RightParen ∷ after) → ((v : State) → Made (wrapped_sort due) t i.state v → Made due t i.state v)
      → ((v : Plain) (j : Spot) → Wraps levels deeper w due v i j → At levels deeper inner w due least v i j)
      → Run w i.place (shape.Punct punct.LeftParen ∷ (tokens t ++ shape.Punct punct.RightParen ∷ [])) m → Run w m after z → Stood levels deeper inner w scopes due least t i m
  enclosed due least t i after m z p u F l a B R O made inject run next =
      let c = cut w (i.place + 1) (tokens t) (shape.Punct punct.RightParen ∷ []) m run.1 in
      let x = T (wrapped_sort due) 1 t (step i) (shape.Punct punct.RightParen ∷ after) c.middle z u F l c.first (c.second.0, subst (λ q. Run w q after z) (sym c.second.1) next) R O in
      let W : Wraps levels deeper w due x.tree i (step x.last) = record {
        last = x.last;
        left = left (counted (star t.form) (high t.parts) k u F.high);
        opens = ap (λ y. States.class i.state y) run.0;
        begins = B;
        within = x.spelled;
        is_there = ap is_absent_form (sym x.alike.0) ∙ a;
        closes = ap (λ q. States.class x.last.state (raw_at w q)) x.place ∙ ap (λ y. States.class x.last.state y) c.second.0;
        «ends» = refl;
      } in
      stood levels deeper inner w scopes due least t x.tree i (step x.last) m p (inject x.tree (step x.last) W) x.alike (ap (λ q. q + 1) x.place ∙ c.second.1) (made x.last.state x.does.made)

  -- what is tight enough inside of them
  within : (due : Sort) (least : ℕ) (t : Plain) → low places due 1 ≡ true → Fit (low (suc n)) k due least t → Fit (low places) k due 1 t
  within due least t l F = record { stands = F.stands; is_plain = F.is_plain; right = F.right; valid = F.valid; pure = F.pure; low = l; high = F.high }

  least_by : (due : Sort) (least : ℕ) (t : Plain) → Fit (low (suc n)) k due least t → nat_lt least (most due) ≡ true
  least_by due least t F = right_of _ (nat_lt least (most due)) F.low

  level_by : (due : Sort) (least : ℕ) (f : Form) (sp : Span) (ps : Forest) (u : State) → is_node due ≡ true → Fit (low (suc n)) k due least (the_tree f sp ps) → Ready due (the_tree f sp ps) u → nat_lt (level f) 1 ≡ false
  level_by due least f sp ps u x F r = above (level f) (level_above due f x (may_of due f sp ps u F.is_plain F.stands r))

  pub in_parentheses : (due : Sort) (least : ℕ) (f : Form) (sp : Span) (ps : Forest) (i : Spot) (after : List Shape) (m z : ℕ) → may_wrap due ≡ true → Fit (low (suc n)) k due least (the_tree f sp ps) → nat_lt (level f) least ≡ true
      → Run w i.place (shape.Punct punct.LeftParen ∷ (tokens (the_tree f sp ps) ++ shape.Punct punct.RightParen ∷ [])) m → Run w m after z → Ready due (the_tree f sp ps) i.state → Stood levels deeper inner w scopes due least (the_tree f sp ps) i m
  in_parentheses s.Exp least f sp ps i after m z x F e run next r = let t : Plain = the_tree f sp ps in
      enclosed s.Exp least t i after m z refl (exp_starred f least (exp_is f (may_of s.Exp f sp ps i.state F.is_plain F.stands r)) (least_by s.Exp least t F) e) (within s.Exp least t refl F) (level_by s.Exp least f sp ps i.state refl F r) (exp_there f (exp_is f (may_of s.Exp f sp ps i.state F.is_plain F.stands r)))
      (off w (starts s.TypeName) (turned (happens event.Aside) (step i)) (i.place + 1) m (tokens t ++ shape.Punct punct.RightParen ∷ []) refl run.1 (exp_begins f sp ps i.state (shape.Punct punct.RightParen ∷ []) (good_of (low (suc n)) k s.Exp least t F) r))
      r tt (λ v d. d) (λ v j W. inr W) run next
  in_parentheses s.Declarator least f sp ps i after m z x F e run next r = let t : Plain = the_tree f sp ps in
      let q = a_pointer f least (declarator_is f (may_of s.Declarator f sp ps i.state F.is_plain F.stands r)) (least_by s.Declarator least t F) e in
      enclosed s.Declarator least t i after m z refl (starred_pointer f q) (within s.Declarator least t refl F) (level_by s.Declarator least f sp ps i.state refl F r) (absent_pointer f q) tt r tt (λ v d. d) (λ v j W. inr W) run next
  in_parentheses s.AbstractDeclarator least f sp ps i after m z x F e run next r = let t : Plain = the_tree f sp ps in
      let q = a_pointer f least (abstract_is f (may_of s.AbstractDeclarator f sp ps i.state F.is_plain F.stands r)) (least_by s.AbstractDeclarator least t F) e in
      enclosed s.AbstractDeclarator least t i after m z refl (starred_pointer f q) (within s.AbstractDeclarator least t refl F) (level_by s.AbstractDeclarator least f sp ps i.state refl F r) (absent_pointer f q)
      (ap (λ y. has nameless_starts (States.class i.state y)) (star_first w f sp ps (i.place + 1) _ m q run.1)) r tt (λ v d. d) (λ v j W. inr W) run next
  in_parentheses s.ParamDeclarator least f sp ps i after m z x F e run next r = let t : Plain = the_tree f sp ps in
      let q = a_pointer f least (param_is f (may_of s.ParamDeclarator f sp ps i.state F.is_plain F.stands r)) (least_by s.ParamDeclarator least t F) e in
      enclosed s.ParamDeclarator least t i after m z refl (starred_pointer f q) (within s.ParamDeclarator least t refl F) (level_by s.ParamDeclarator least f sp ps i.state refl F r) (absent_pointer f q)
      (ap (λ y. has nameless_starts (States.class i.state y)) (star_first w f sp ps (i.place + 1) _ m q run.1)) r tt (λ v d. d) (λ v j W. inr W) run next
  in_parentheses s.MemberName least f sp ps i after m z x F e run next r = let t : Plain = the_tree f sp ps in
      let q = a_pointer f least (member_name_is f (may_of s.MemberName f sp ps i.state F.is_plain F.stands r)) (least_by s.MemberName least t F) e in
      enclosed s.MemberName least t i after m z refl (starred_pointer f q)
      (record { stands = ap (λ f. stands f s.Declarator) q; is_plain = F.is_plain; right = F.right; valid = F.valid; pure = F.pure; low = refl; high = F.high })
      (level_by s.MemberName least f sp ps i.state refl F r) (absent_pointer f q) tt (r.0, sym (ap (λ b. b || is_named t) (absent_pointer f q)) ∙ r.1) tt (λ v d. d) (λ v j W. inr W) run next
  in_parentheses due least f sp ps i after m z x F e run next r = absurd (cc x)
