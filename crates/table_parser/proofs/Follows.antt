-- Forms that go on after a first part.
use Rattle.std.proofs.Common.{◌≡◌, refl, ap, sym, ◌∙◌, ℕ, Bool, true, false, not, ◌&&◌, Option, Some, None, Ok, Err, ◌<◌, nat_lt, arith}
use Rattle.c_tokens.specs.declared.token.Shape.{Shape}
use Rattle.c_tokens.specs.declared.token.Shape.TheVariants as shape
use Rattle.c_tokens.specs.declared.token.Punct.{Punct}
use Rattle.c_tokens.specs.declared.token.Punct.TheVariants as punct
use Rattle.c_forms.specs.declared.pieces.Sort.{Sort}
use Rattle.c_forms.specs.declared.pieces.Sort.TheVariants as sort
use Rattle.c_forms.specs.declared.forms.Form.{Form}
use Rattle.c_forms.specs.Tokens.{continued}
use Rattle.c_forms.specs.declared.forms.Form.TheVariants as form
use Rattle.c_forms.specs.declared.forms.DeclaratorForm.TheVariants as declarator
use Rattle.c_forms.specs.Forests.{Plain}
use Rattle.c_reader.specs.States.{State, is_bare}
use Rattle.c_forms.specs.Measures.{level, pieces}
use Rattle.c_reader.specs.declared.refusal.Refusal.{Refusal}
use Rattle.c_reader.specs.Readers.{Found, Input, Outcome, and_then, here, when}
use Rattle.c_syntax.specs.Grammar.{Standing, after_first, after_part, continued_by, may_follow, standing, tail_by}
use Rattle.c_syntax.specs.Reading.{Parts, called, completed, deeper, one, parts_by, is_starred, is_absent}
use Rattle.table_parser.specs.Nests.{read}
use Rattle.table_parser.specs.Sound.{is_element, is_member_name, is_array}

-- it counts for the height, and is no element of a pattern
abbrev follows_so : Option Form → Bool
follows_so (Some f) = is_starred f && not (is_element f)
follows_so None = true

exp_follows : (p : Punct) → follows_so (continued sort.Exp p) ≡ true
exp_follows punct.LeftBracket = refl
exp_follows _ = refl

meta_follows : (p : Punct) → follows_so (continued sort.MetaExp p) ≡ true
meta_follows punct.Question = refl
meta_follows _ = refl

declarator_follows : (p : Punct) → follows_so (continued sort.Declarator p) ≡ true
declarator_follows punct.LeftBracket = refl
declarator_follows _ = refl

sort_follows : (due : Sort) (p : Punct) → follows_so (continued due p) ≡ true
sort_follows sort.Exp p = exp_follows p
sort_follows sort.MetaExp p = meta_follows p
sort_follows sort.Declarator p = declarator_follows p
sort_follows sort.AbstractDeclarator p = declarator_follows p
sort_follows sort.ParamDeclarator p = declarator_follows p
sort_follows sort.MemberName p = declarator_follows p
sort_follows sort.InnerDeclarator p = declarator_follows p
sort_follows _ p = refl

all_follow : (due : Sort) (x : Shape) → follows_so (continued_by due x) ≡ true
all_follow due (shape.Punct p) = sort_follows due p
all_follow due _ = refl

split : (a b : Bool) → (a && not b) ≡ true → (a ≡ true) × (b ≡ false)
split true false h = (refl, refl)
split true true h = absurd (cc h)
split false b h = absurd (cc h)

followed : (due : Sort) (x : Shape) (f : Form) → continued_by due x ≡ Some f → (is_starred f ≡ true) × (is_element f ≡ false)
followed due x f e = split (is_starred f) (is_element f) (sym (ap follows_so e) ∙ all_follow due x)

pub follow_starred : (due : Sort) (x : Shape) (f : Form) → Some f ≡ continued_by due x → is_starred f ≡ true
follow_starred due x f e = (followed due x f (sym e)).0

pub follow_form : (due : Sort) (x : Shape) (f : Form) → Some f ≡ continued_by due x → is_element f ≡ false
follow_form due x f e = (followed due x f (sym e)).1

-- parts that lie deeper are called
parts_called : (b : Bool) (inner : Parts) → b ≡ true → parts_by b inner ≡ parts_by b called
parts_called true inner h = refl
parts_called false inner h = absurd (cc h)

called_part : (inner : Parts) (due : Sort) (f : Form) (start : ℕ) (x : Found) → is_starred f ≡ true → after_part inner due f start x ≡ after_part called due f start x
called_part inner due f start x h = ap (λ part. completed part due f start (one x) (after_first (pieces f))) (parts_called (is_starred f) inner h)

module _ (d : ℕ) (inner : Parts) (due : Sort) (start : ℕ) (y : Standing) (x : Shape) (f : Form) (i : Input) (e : Some f ≡ continued_by due x) (room : y.found.height < d) where
  fits : (b : Bool) (o : Outcome Standing) → b ≡ true → when b o i.at.place ≡ o
  fits true o h = refl
  fits false o h = absurd (cc h)

  tail_read : read d (tail_by due start y (continued_by due x)) i ≡ and_then (read d (after_part inner due f start (deeper y.found)) i) (λ z j. Ok (record { found = z; level = level f }, j))
  tail_read = ap (λ o. read d (tail_by due start y o) i) (sym e)
      ∙ fits (nat_lt y.found.height d) (read d (standing (level f) (after_part called due f start (deeper y.found))) i) (grind (arith, room))
      ∙ ap (λ r. read d (standing (level f) r) i) (sym (called_part inner due f start (deeper y.found) (follow_starred due x f e)))

  -- where it is told by equations
  pub tail_ok : (first z : Found) (l : ℕ) (v : Standing) (j : Input) → x ≡ (here i).shape → first ≡ deeper y.found → v ≡ record { found = z; level = l } → l ≡ level f → read d (after_part inner due f start first) i ≡ Ok (z, j)
      → read d (tail_by due start y (continued_by due (here i).shape)) i ≡ Ok (v, j)
  tail_ok first z l v j at this made tight h = ap (λ x. read d (tail_by due start y (continued_by due x)) i) (sym at) ∙ tail_read
      ∙ ap (λ o. and_then o (λ z j. Ok (record { found = z; level = level f }, j))) (ap (λ x. read d (after_part inner due f start x) i) (sym this) ∙ h)
      ∙ ap (λ n. Ok (record { found = z; level = n }, j)) (sym tight) ∙ ap (λ v. Ok (v, j)) (sym made)

  pub tail_broken : (first : Found) (r : Refusal) → x ≡ (here i).shape → first ≡ deeper y.found → read d (after_part inner due f start first) i ≡ Err r → read d (tail_by due start y (continued_by due (here i).shape)) i ≡ Err r
  tail_broken first r at this h = ap (λ x. read d (tail_by due start y (continued_by due x)) i) (sym at) ∙ tail_read
      ∙ ap (λ o. and_then o (λ z j. Ok (record { found = z; level = level f }, j))) (ap (λ x. read d (after_part inner due f start x) i) (sym this) ∙ h)

pub ruleset follows = (follow_starred, follow_form)

-- ---- what may go on with a declarator

pub member_follows : (due : Sort) (z : State) (t : Plain) (f : Form) → is_member_name due ≡ true → may_follow due z t f ≡ not (is_absent t)
member_follows sort.MemberName z t f h = refl
member_follows _ z t f h = absurd (cc h)

pub array_follows : (due : Sort) (z : State) (t : Plain) (f : Form) → is_member_name due ≡ false → is_array f ≡ true → may_follow due z t f ≡ not (z.kept.is_function_due && is_bare z.kept.near)
array_follows sort.MemberName z t f h k = absurd (cc h)
array_follows _ z t (form.Declarator declarator.ArrayOf) h k = refl
array_follows _ z t _ h k = absurd (cc k)

pub other_follows : (due : Sort) (z : State) (t : Plain) (f : Form) → is_member_name due ≡ false → is_array f ≡ false → may_follow due z t f ≡ true
other_follows sort.MemberName z t f h k = absurd (cc h)
other_follows _ z t (form.Declarator declarator.ArrayOf) h k = absurd (cc k)
other_follows _ z t _ h k = refl

pub ruleset following = (member_follows, array_follows, other_follows)
