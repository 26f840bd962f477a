-- How many nodes that do not count for the height lie in one another in a tree of a sort.
use Rattle.std.proofs.Common.{◌≡◌, refl, ℕ, ◌≤◌, not, Bool, true, false, ◌&&◌, nat_lt, arith}
use Rattle.std.proofs.lemmas.Bool.{ltb-false, and_from}
use borrow.Author.Tests.{ltb-true}
use Rattle.c_forms.specs.declared.pieces.Sort.{Sort}
use Rattle.c_forms.specs.declared.pieces.Sort.TheVariants as s
use Rattle.c_reader.proofs.Sets.{both, not_true}
use Rattle.c_syntax.specs.Reading.{Parts}
use Rattle.c_alive.proofs.FitRows.{is_reached}
use Rattle.c_alive.proofs.Rows.{Known, Ending}

abbrev pub rank : Sort → ℕ
rank s.Id = 1
rank s.DeclaredId = 1
rank s.ParameterId = 1
rank s.EnumeratorId = 1
rank s.Literal = 1
rank s.Spec = 1
rank s.PlainSpec = 1
rank s.Qualifier = 1
rank s.Block = 1
rank s.Exp = 2
rank s.Declarator = 2
rank s.AbstractDeclarator = 2
rank s.ParamDeclarator = 2
rank s.MemberName = 2
rank s.TypeName = 3
rank s.Init = 3
rank s.Width = 3
rank s.EnumeratorValue = 3
rank s.Param = 3
rank s.Stmt = 3
rank s.Params = 4
rank s.MemberDeclarator = 4
rank s.Enumerator = 4
rank s.Initializer = 4
rank s.ElsePart = 4
rank s.Member = 5
rank s.Enumerators = 5
rank s.InitDeclarator = 5
rank s.Members = 6
rank s.Decl = 6
rank s.BlockItem = 7
rank due = 100

-- the sorts that parts of plain C are read as
abbrev pub met : Known
met due least = is_reached due least && nat_lt (rank due) 9

-- and those that are where there are places for so many
abbrev pub reads : ℕ → Known
reads n due least = not (nat_lt n (rank due)) && met due least

pub reads_at : (n : ℕ) (due : Sort) (least : ℕ) → reads n due least ≡ true → (rank due ≤ n) × (met due least ≡ true)
reads_at n due least h = let k = both (not (nat_lt n (rank due))) (met due least) h in (ltb-false n (rank due) (not_true (nat_lt n (rank due)) k.0), k.1)

pub reads_if : (n : ℕ) (due : Sort) (least : ℕ) → rank due ≤ n → met due least ≡ true → reads n due least ≡ true
reads_if n due least le h = and_from (not (nat_lt n (rank due))) (met due least) (by_test (nat_lt n (rank due)) refl) h
  where
    by_test : (b : Bool) → nat_lt n (rank due) ≡ b → not b ≡ true
    by_test false e = refl
    by_test true e = absurd (omega (arith, ltb-true n (rank due) e, le))

-- all of these are where there are nine
pub met_reads : (due : Sort) (least : ℕ) → met due least ≡ true → reads 9 due least ≡ true
met_reads due least h = reads_if 9 due least (omega (arith, ltb-true (rank due) 9 (both (is_reached due least) (nat_lt (rank due) 9) h).1)) h

-- in more places more are
pub reads_more : (n m : ℕ) → n ≤ m → (due : Sort) (least : ℕ) → reads n due least ≡ true → reads m due least ≡ true
reads_more n m le due least h = let k = reads_at n due least h in reads_if m due least (omega (arith, k.0, le)) k.1

pub none_read : (due : Sort) (least : ℕ) → reads 0 due least ≡ true → ⊥
none_read s.Exp least h = absurd (cc h)
none_read _ least h = absurd (cc h)

pub fewer_end : (part : Parts) (few many : Known) → ((due : Sort) (least : ℕ) → few due least ≡ true → many due least ≡ true) → Ending part many → Ending part few
fewer_end part few many up E = record { firm = E.firm; ends = λ due least h. E.ends due least (up due least h) }
