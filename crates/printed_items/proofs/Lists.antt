-- The tokens of items that are scoped spell them again, and nothing else.
use Rattle.std.proofs.Common.{◌≡◌, ◌≤◌, refl, ap, sym, subst, ◌∙◌, ℕ, ◌*◌, max, List, [], ◌∷◌, arith}
use Rattle.std.specs.Prelude.{map, flat_map}
use Rattle.c_tokens.specs.declared.token.Shape.{Shape}
use Rattle.c_forms.specs.Forests.{Plain, forest}
use Rattle.c_reader.specs.States.{nothing_kept}
use Rattle.c_reader.specs.Tokens.{Spot}
use Rattle.c_layout.specs.Spelled.{tokens}
use Rattle.c_trees.specs.Counts.{high, high_tree}
use Rattle.scope_tables.specs.Frames.{Frame}
use Rattle.scopes.specs.Events.{in_order, events}
use Rattle.scopes.specs.Settling.{Scoped, settled}
use Rattle.spelled_scopes.specs.Meant.{frames}
use Rattle.spelled_scopes.specs.Agreement.{Items}
use Rattle.ready_rows.specs.Printed.{Run}
use Rattle.ready_rows.proofs.Runs.{cut}
use Rattle.ready_rows.proofs.Steps.{one_end, split_at}
use Rattle.printed_items.specs.Respelled.{AreItems, AreAlike, AreRespelled}
use Rattle.printed_items.proofs.Items.{respelled}
use Rattle.printed_items.proofs.Steps.{one_list}

-- the same without what is known of other items
record Listed (d : ℕ) (w : List Shape) (ts : List Plain) (i : Spot) (m : ℕ) (fs : List Frame) : Type 0 where
  pub trees : List Plain
  pub last : Spot
  pub alike : AreAlike ts trees
  pub spelled : Items d w trees i last
  pub place : last.place ≡ m
  pub scopes : frames last.state.entries ≡ fs
  pub free : last.state.kept ≡ nothing_kept
  pub aside : last.state.aside ≡ i.state.aside

first_high : (a b d : ℕ) → 2 * max a b ≤ d → 2 * a ≤ d
first_high a b d h = omega (arith, h)

rest_high : (a b d : ℕ) → 2 * max a b ≤ d → 2 * b ≤ d
rest_high a b d h = omega (arith, h)

listed : (d : ℕ) (w : List Shape) (ts : List Plain) (i : Spot) (m : ℕ) (fs : List Frame) → AreItems ts → 2 * high (forest ts) ≤ d → Run w i.place (flat_map tokens ts) m → i.state.kept ≡ nothing_kept → settled (in_order (map events ts)) (frames i.state.entries) ≡ Scoped fs → Listed d w ts i m fs
listed d w [] i m fs I h run free e = record { trees = []; last = i; alike = tt; spelled = refl; place = run; scopes = one_end (frames i.state.entries) fs e; free = free; aside = refl }
listed d w (t ∷ ts) i m fs I h run free e =
    let c = cut w i.place (tokens t) (flat_map tokens ts) m run in
    let s = split_at (events t) (in_order (map events ts)) (frames i.state.entries) fs e in
    let x = respelled d w t i c.middle s.0 I.0 (first_high (high_tree t) (high (forest ts)) d h) c.first free s.1.0 in
    let y = listed d w ts x.last m fs I.1 (rest_high (high_tree t) (high (forest ts)) d h) (subst (λ p. Run w p (flat_map tokens ts) m) (sym x.place) c.second) x.free (ap (λ gs. settled (in_order (map events ts)) gs) x.scopes ∙ s.1.1) in
    record { trees = x.tree ∷ y.trees; last = y.last; alike = (x.alike, y.alike); spelled = (x.last, (x.spelled, y.spelled)); place = y.place; scopes = y.scopes; free = y.free; aside = y.aside ∙ x.aside }

-- Where no declaration is begun and the events of items hold one after the other, their tokens spell them, and nothing else.
pub all_respelled : (d : ℕ) (w : List Shape) (ts : List Plain) (i : Spot) (m : ℕ) (fs : List Frame) → AreItems ts → 2 * high (forest ts) ≤ d → Run w i.place (flat_map tokens ts) m → i.state.kept ≡ nothing_kept → settled (in_order (map events ts)) (frames i.state.entries) ≡ Scoped fs → AreRespelled d w ts i m fs
all_respelled d w ts i m fs I h run free e =
    let x = listed d w ts i m fs I h run free e in record {
      trees = x.trees;
      last = x.last;
      alike = x.alike;
      spelled = x.spelled;
      place = x.place;
      scopes = x.scopes;
      free = x.free;
      aside = x.aside;
      only = λ e us j y p. one_list d e w x.trees us i x.last j x.spelled y (p ∙ sym x.place);
    }
