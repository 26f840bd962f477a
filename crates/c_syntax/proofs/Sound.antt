-- What is read is spelled.
use Rattle.std.proofs.Common.{◌≡◌, refl, subst, ap, sym, ℕ, zero, suc, ◌≤◌, true, List, Ok, arith}
use Rattle.c_tokens.specs.declared.token.Shape.{Shape}
use Rattle.c_tokens.specs.declared.token.Punct.TheVariants as punct
use Rattle.c_tokens.specs.declared.class.Class.TheVariants as class
use Rattle.c_forms.specs.declared.pieces.Sort.{Sort}
use Rattle.c_forms.specs.declared.pieces.Sort.TheVariants as s
use Rattle.c_reader.specs.States.{State}
use Rattle.c_reader.specs.Tokens.{Spot, spot, step}
use Rattle.c_reader.specs.Readers.{Input, Found, Of, read, below}
use Rattle.c_reader.proofs.Local.{from}
use Rattle.c_syntax.specs.Allowed.{places}
use Rattle.c_syntax.specs.Grammar.{body, in_place, opened, item_reader}
use Rattle.c_syntax.specs.Spells.{Is, BeginsWrapped, Spells}
use Rattle.c_syntax.proofs.Told.{In, Says, Calls, CallsOpened, Inner, is_due, need, spelled_in}
use Rattle.c_syntax.proofs.Expressions.{opened_says}
use Rattle.c_syntax.proofs.Sorts.{at_sort_says}

need_some : (due : Sort) → 1 ≤ need due
need_some s.Exp = omega arith
need_some _ = omega arith

need_few : (due : Sort) → need due ≤ places
need_few s.Exp = omega arith
need_few _ = omega arith

module _ (d : ℕ) (w : List Shape) (E : Calls d w) (EO : CallsOpened d w) where
  in_place_says : (m : ℕ) → Inner d w (in_place m)
  unfolding in_place
  in_place_says zero k due least i x p g small h = absurd (cc h)
  in_place_says (suc m) zero due least i x p g small h = absurd (omega (arith, need_some due))
  in_place_says (suc m) (suc k) due least i x p g small h = at_sort_says d w E EO (in_place m) (in_place_says m) k due least i x p g small h

  spelled_there : (due : Sort) (least : ℕ) (i : Spot) (x : Found) (p : Input) → Says d w (λ n. In places n w due least) i x p → Says d w (λ n. Spells n w due least) i x p
  spelled_there due least i x p S = record { place = S.place; placed = S.placed; high = S.high; spelled = λ n le. spelled_in n w due least x.tree i S.place (S.spelled n le) }

  body_says : (due : Sort) (least : ℕ) (i : Spot) (x : Found) (p : Input) → is_due due least ≡ true → read body d (body (Of due least)) (from w i) ≡ Ok (x, p) → Says d w (λ n. Spells n w due least) i x p
  body_says due least i x p g h = spelled_there due least i x p (in_place_says places places due least i x p g (need_few due) h)

  opened_there : (i : Spot) (x : Found) (p : Input) → Is w (class.Punct punct.LeftParen) i → BeginsWrapped s.Exp w (step i) → read body d opened (from w (step i)) ≡ Ok (x, p) → Says d w (λ n. Spells n w s.Exp 15) i x p
  opened_there i x p opens begins h = spelled_there s.Exp 15 i x p (opened_says d w E EO (in_place places) (in_place_says places) i x p opens begins h)

-- what is called is spelled, with one level less
pub calls : (d : ℕ) (w : List Shape) → Calls d w × CallsOpened d w
unfolding below
calls zero w = (λ due least i x p g h. absurd (cc h), λ i x p opens begins h. absurd (cc h))
calls (suc d) w = let C = calls d w in (
  λ due least i x p g h. let S = body_says d w C.0 C.1 due least i x p g h in record { place = S.place; placed = S.placed; high = omega (arith, S.high); spelled = S.spelled },
  λ i x p opens begins h. let S = opened_there d w C.0 C.1 i x p opens begins h in record { place = S.place; placed = S.placed; high = omega (arith, S.high); spelled = S.spelled },
)

-- What is read as a tree of a sort, of a level that is due, is spelled at each depth from its height on, which is no more than the levels.
pub sound : (d : ℕ) (w : List Shape) (due : Sort) (least : ℕ) (i : Spot) (x : Found) (p : Input) → is_due due least ≡ true → read body d (in_place places due least) (from w i) ≡ Ok (x, p) → Says d w (λ n. Spells n w due least) i x p
sound d w due least i x p g h = let C = calls d w in body_says d w C.0 C.1 due least i x p g h

-- And so is the operand of `sizeof` that begins in parentheses, from the first of them.
pub opened_sound : (d : ℕ) (w : List Shape) (i : Spot) (x : Found) (p : Input) → Is w (class.Punct punct.LeftParen) i → BeginsWrapped s.Exp w (step i) → read body d opened (from w (step i)) ≡ Ok (x, p) → Says d w (λ n. Spells n w s.Exp 15) i x p
opened_sound d w i x p opens begins h = let C = calls d w in opened_there d w C.0 C.1 i x p opens begins h

-- An external declaration that was read is spelled by the tokens that were taken.
pub external_sound : (d : ℕ) (w : List Shape) (st : State) (x : Found) (j : Spot) → read body d item_reader (from w (spot 0 st)) ≡ Ok (x, from w j) → (x.height ≤ d) × Spells d w s.Item 0 x.tree (spot 0 st) j
external_sound d w st x j h = let S = sound d w s.Item 0 (spot 0 st) x (from w j) refl h in
    (S.high, subst (Spells d w s.Item 0 x.tree (spot 0 st)) (ap (λ q. q.at) (sym S.placed)) (S.spelled d S.high))
