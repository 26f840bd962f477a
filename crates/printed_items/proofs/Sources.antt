-- A source that begins with the tokens of items.
use Rattle.std.proofs.Common.{◌≡◌, ◌≤◌, refl, ap, subst, ℕ, suc, ◌+◌, ◌*◌, List, [], ◌∷◌, ◌++◌, append_assoc, length, arith}
use Rattle.std.proofs.Math.Seq.{get_or-append_seam}
use Rattle.std.specs.Prelude.{map, flat_map}
use Rattle.c_tokens.specs.declared.token.Shape.{Shape}
use Rattle.c_tokens.specs.declared.token.Shape.TheVariants as shape
use Rattle.c_forms.specs.Forests.{Plain, forest}
use Rattle.c_reader.specs.Tokens.{spot}
use Rattle.c_layout.specs.Spelled.{tokens}
use Rattle.c_trees.specs.Counts.{high}
use Rattle.scope_tables.specs.Frames.{Frame}
use Rattle.scopes.specs.Events.{in_order, events}
use Rattle.scopes.specs.Settling.{Scoped, settled}
use Rattle.ready_rows.specs.Printed.{Run}
use Rattle.printed_items.specs.Respelled.{file_start, AreItems, AreRespelled}
use Rattle.printed_items.proofs.Lists.{all_respelled}

one_longer : (front : List Shape) (x : Shape) → length (front ++ x ∷ []) ≡ suc (length front)
one_longer [] x = refl
one_longer (y ∷ front) x = ap suc (one_longer front x)

pub longer : (front : List Shape) (x : Shape) → length (front ++ x ∷ []) ≡ length front + 1
longer front x = let h = one_longer front x in omega (arith, h)

none_more : (n : ℕ) → n ≡ n + 0
none_more n = omega arith

one_more : (m n : ℕ) → (m + 1) + n ≡ m + suc n
one_more m n = omega arith

-- tokens stand where they are put
stands : (front xs ys : List Shape) → Run (front ++ (xs ++ ys)) (length front) xs (length front + length xs)
stands front [] ys = none_more (length front)
stands front (x ∷ xs) ys = (
  get_or-append_seam front x (xs ++ ys) shape.End,
  subst (λ q. Run (front ++ (x ∷ (xs ++ ys))) (length front + 1) xs q) (one_more (length front) (length xs))
      (subst (λ p. Run (front ++ (x ∷ (xs ++ ys))) p xs (p + length xs)) (longer front x)
      (subst (λ w. Run w (length (front ++ x ∷ [])) xs (length (front ++ x ∷ []) + length xs)) (append_assoc front (x ∷ []) (xs ++ ys)) (stands (front ++ x ∷ []) xs ys))),
)

pub at_front : (xs ys : List Shape) → Run (xs ++ ys) 0 xs (length xs)
at_front xs ys = subst (λ q. Run (xs ++ ys) 0 xs q) (from_zero (length xs)) (stands [] xs ys)
  where
    from_zero : (n : ℕ) → 0 + n ≡ n
    from_zero n = omega arith

-- Where the events of items hold in the scope of a file, a source that begins with their tokens spells them there, and
-- nothing else.
pub source_respelled : (d : ℕ) (ts : List Plain) (others : List Shape) (fs : List Frame) → AreItems ts → 2 * high (forest ts) ≤ d → settled (in_order (map events ts)) ([] ∷ []) ≡ Scoped fs → AreRespelled d (flat_map tokens ts ++ others) ts (spot 0 file_start) (length (flat_map tokens ts)) fs
source_respelled d ts others fs I h e = all_respelled d (flat_map tokens ts ++ others) ts (spot 0 file_start) (length (flat_map tokens ts)) fs I h (at_front (flat_map tokens ts) others) refl e
