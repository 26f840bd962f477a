-- What a reading told: where it ended, and what is spelled up to there.
use Rattle.std.proofs.Common.{◌≡◌, subst, ap, sym, ◌∙◌, ℕ, zero, suc, ◌+◌, ◌<◌, ◌≤◌, nat_lt, Bool, true, false, List, Ok, arith}
use borrow.Author.Tests.{ltb-true}
use Rattle.c_tokens.specs.declared.token.Shape.{Shape}
use Rattle.c_tokens.specs.declared.token.Punct.TheVariants as punct
use Rattle.c_tokens.specs.declared.class.Class.TheVariants as class
use Rattle.c_forms.specs.declared.pieces.Sort.{Sort}
use Rattle.c_forms.specs.declared.pieces.Sort.TheVariants as s
use Rattle.c_forms.specs.Forests.{Plain}
use Rattle.c_reader.specs.Tokens.{Spot, step}
use Rattle.c_reader.specs.Readers.{Input, Outcome, Found, Of, Opened, read, below, when}
use Rattle.c_reader.proofs.Local.{from}
use Rattle.c_reader.proofs.Loops.{split, same_pair}
use Rattle.c_syntax.specs.Allowed.{places}
use Rattle.c_syntax.specs.Reading.{Parts, deeper, called}
use Rattle.c_syntax.specs.Grammar.{body}
use Rattle.c_syntax.specs.Spells.{Spelling, nothing_spelled, Is, BeginsWrapped, InPlace, Spells}

abbrev pub levels : ℕ → Type 0
levels zero = ⊥
levels (suc n) = Unit {0}

-- what spells parts, where n levels are left above them
abbrev pub lower : ℕ → List Shape → Spelling
lower zero w = nothing_spelled
lower (suc n) w = Spells n w

-- what spells a tree where it stands, with n levels left, and k nodes in one another that do not count for the height
abbrev pub In : ℕ → ℕ → List Shape → Spelling
In k n w = InPlace k (levels n) (lower n w) w

pub some_level : (n : ℕ) → 0 < n → levels n
some_level zero h = absurd (omega arith)
some_level (suc n) h = tt

pub spelled_in : (n : ℕ) (w : List Shape) (due : Sort) (least : ℕ) (t : Plain) (i j : Spot) → In places n w due least t i j → Spells n w due least t i j
unfolding Spells
spelled_in zero w due least t i j P = P
spelled_in (suc n) w due least t i j P = P

pub in_spelled : (n : ℕ) (w : List Shape) (due : Sort) (least : ℕ) (t : Plain) (i j : Spot) → Spells n w due least t i j → In places n w due least t i j
unfolding Spells
in_spelled zero w due least t i j P = P
in_spelled (suc n) w due least t i j P = P

-- A reading ended at p, and what was read is spelled at each depth from its height on.
pub record Tells (d : ℕ) (w : List Shape) (height : ℕ) (T : ℕ → Spot → Type 0) (p : Input) : Type 0 where
  pub place : Spot
  pub placed : p ≡ from w place
  pub high : height ≤ d
  pub spelled : (n : ℕ) → height ≤ n → T n place

-- a tree that was read from a place is spelled so from there
abbrev pub Says : ℕ → List Shape → (ℕ → Plain → Spot → Spot → Type 0) → Spot → Found → Input → Type 0
Says d w T i x p = Tells d w x.height (λ n j. T n x.tree i j) p

-- a tree that was called, one level deeper
pub record Called (d : ℕ) (w : List Shape) (T : ℕ → Spot → Type 0) (height : ℕ) (p : Input) : Type 0 where
  pub place : Spot
  pub placed : p ≡ from w place
  pub high : height < d
  pub spelled : (n : ℕ) → height ≤ n → T n place

-- no tree binds tighter than a token, and no declarator than a function's
abbrev pub is_due : Sort → ℕ → Bool
is_due s.Declarator least = nat_lt least 3
is_due s.AbstractDeclarator least = nat_lt least 3
is_due s.ParamDeclarator least = nat_lt least 3
is_due s.MemberName least = nat_lt least 3
is_due _ least = nat_lt least 18

-- What is called is spelled.
abbrev pub Calls : ℕ → List Shape → Type 0
Calls d w = (due : Sort) (least : ℕ) (i : Spot) (x : Found) (p : Input) → is_due due least ≡ true → below body d (Of due least) (from w i) ≡ Ok (x, p)
    → Called d w (λ n j. Spells n w due least x.tree i j) x.height p

pub lowered : (w : List Shape) (due : Sort) (least : ℕ) (t : Plain) (i j : Spot) (h n : ℕ) → ((n : ℕ) → h ≤ n → Spells n w due least t i j) → h + 1 ≤ n → lower n w due least t i j
lowered w due least t i j h zero f le = absurd (omega arith)
lowered w due least t i j h (suc n) f le = f n (omega arith)

pub roomy : {A : Type 0} (d h : ℕ) (b : Bool) (o : Outcome A) (i : ℕ) (x : A) (p : Input) → nat_lt h d ≡ b → when b o i ≡ Ok (x, p) → (h < d) × (o ≡ Ok (x, p))
roomy d h true o i x p y e = (ltb-true h d y, e)
roomy d h false o i x p y e = absurd cc

-- a part one level deeper
pub called_says : (d : ℕ) (w : List Shape) (E : Calls d w) (due : Sort) (least : ℕ) (i : Spot) (x : Found) (p : Input) → is_due due least ≡ true
    → read body d (called due least) (from w i) ≡ Ok (x, p) → Says d w (λ n. lower n w due least) i x p
called_says d w E due least i x p g h =
    let a = split (below body d (Of due least) (from w i)) (λ x k. Ok (deeper x, k)) x p h in
    let C = E due least i a.value a.place g a.first in
    subst (λ (y : Found × Input). Says d w (λ n. lower n w due least) i y.0 y.1) (same_pair (deeper a.value) x a.place p a.second) (record {
      place = C.place;
      placed = C.placed;
      high = omega (arith, C.high);
      spelled = λ n le. lowered w due least a.value.tree i C.place a.value.height n C.spelled le;
    })

-- two things that were told of one reading
pub told_both : (d : ℕ) (w : List Shape) (h : ℕ) (T U : ℕ → Spot → Type 0) (p : Input) → Tells d w h T p → Tells d w h U p → Tells d w h (λ n j. T n j × U n j) p
told_both d w h T U p A B = record {
  place = A.place;
  placed = A.placed;
  high = A.high;
  spelled = λ n le. (A.spelled n le, subst (U n) (ap (λ k. k.at) (sym B.placed ∙ A.placed)) (B.spelled n le));
}

pub told_so : (d : ℕ) (w : List Shape) (h : ℕ) (T U : ℕ → Spot → Type 0) (p : Input) → ((n : ℕ) (j : Spot) → h ≤ n → T n j → U n j) → Tells d w h T p → Tells d w h U p
told_so d w h T U p f A = record { place = A.place; placed = A.placed; high = A.high; spelled = λ n le. f n A.place le (A.spelled n le) }

-- how deep nodes that do not count for the height may lie in one another, in a tree of a sort
abbrev pub need : Sort → ℕ
need s.Exp = 2
need s.Declarator = 2
need s.AbstractDeclarator = 2
need s.ParamDeclarator = 2
need s.MemberName = 2
need s.TypeName = 3
need s.Width = 3
need s.MemberDeclarator = 4
need s.Member = 5
need s.Members = 6
need s.EnumeratorValue = 3
need s.Enumerator = 4
need s.Enumerators = 5
need s.Param = 3
need s.Params = 4
need s.Init = 3
need s.Initializer = 4
need s.InitDeclarator = 5
need s.Decl = 6
need s.Stmt = 3
need s.ElsePart = 4
need s.BlockItem = 6
need s.Item = 7
need _ = 1

-- What is read where it stands is spelled.
abbrev pub Inner : ℕ → List Shape → Parts → Type 0
Inner d w inner = (k : ℕ) (due : Sort) (least : ℕ) (i : Spot) (x : Found) (p : Input) → is_due due least ≡ true → need due ≤ k → read body d (inner due least) (from w i) ≡ Ok (x, p) → Says d w (λ n. In k n w due least) i x p

-- What is called after an opening parenthesis, after which no type name begins, is an operand of `sizeof` that begins with it.
abbrev pub CallsOpened : ℕ → List Shape → Type 0
CallsOpened d w = (i : Spot) (x : Found) (p : Input) → Is w (class.Punct punct.LeftParen) i → BeginsWrapped s.Exp w (step i) → below body d Opened (from w (step i)) ≡ Ok (x, p)
    → Called d w (λ n j. Spells n w s.Exp 15 x.tree i j) x.height p
