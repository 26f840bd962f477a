-- The tokens of an item that is scoped spell it again.
use Rattle.std.proofs.Common.{◌≡◌, ◌≤◌, refl, sym, subst, ◌∙◌, ℕ, ◌*◌, false, List, [], nat_lt, arith}
use Rattle.c_tokens.specs.declared.token.Shape.{Shape}
use Rattle.c_forms.specs.declared.pieces.Sort.TheVariants as s
use Rattle.c_forms.specs.Forests.{Plain}
use Rattle.c_forms.specs.Measures.{is_plain, level}
use Rattle.c_forms.specs.Rules.{is_right}
use Rattle.c_reader.specs.States.{nothing_kept}
use Rattle.c_reader.specs.Tokens.{Spot}
use Rattle.c_syntax.specs.Allowed.{places}
use Rattle.c_layout.specs.Spelled.{tokens}
use Rattle.c_trees.specs.Counts.{pure, high_tree}
use Rattle.c_trees.specs.Valid.{valid}
use Rattle.scope_tables.specs.Frames.{Frame}
use Rattle.scopes.specs.Events.{events}
use Rattle.scopes.specs.Settling.{Scoped, settled}
use Rattle.spelled_scopes.specs.Meant.{frames}
use Rattle.spelled_trees.proofs.Parts.{left_of, right_of}
use Rattle.ready_rows.specs.Printed.{Run, IsItem, Respelled}
use Rattle.ready_rows.proofs.Rows.{Fit}
use Rattle.ready_rows.proofs.Steps.{one_end}
use Rattle.printed_items.proofs.Ranks.{low}
use Rattle.printed_items.proofs.Wrapped.{unwrapped}
use Rattle.printed_items.proofs.Whole.{printed}

never_less : (n : ℕ) → nat_lt n 0 ≡ false
never_less n = grind arith

same_height : (n : ℕ) → n ≤ n
same_height n = omega arith

fit : (t : Plain) → IsItem t → Fit (low places) (high_tree t) s.Item 0 t
fit t I = record {
  stands = I.stands;
  is_plain = left_of (is_plain t.form) (pure t.parts) I.pure;
  right = left_of (is_right t.form t.parts) (valid t.parts) I.valid;
  valid = right_of (is_right t.form t.parts) (valid t.parts) I.valid;
  pure = right_of (is_plain t.form) (pure t.parts) I.pure;
  low = refl;
  high = same_height (high_tree t);
}

-- Where no declaration is begun and the events of an item hold, its tokens spell it, with twice as many levels as it is high.
pub respelled : (d : ℕ) (w : List Shape) (t : Plain) (i : Spot) (m : ℕ) (fs : List Frame) → IsItem t → 2 * high_tree t ≤ d → Run w i.place (tokens t) m → i.state.kept ≡ nothing_kept → settled (events t) (frames i.state.entries) ≡ Scoped fs → Respelled d w t i m fs
respelled d w t i m fs I h run free e =
    let x = printed w (high_tree t) d h s.Item 0 t i [] m m (fit t I) (subst (λ xs. Run w i.place xs m) (sym (unwrapped 0 t (never_less (level t.form)))) run) refl (free, (fs, e)) tt in record {
      tree = x.tree;
      last = x.last;
      alike = x.alike;
      spelled = x.spelled;
      place = x.place;
      scopes = one_end (frames x.last.state.entries) fs (sym x.does.made.0.scoped ∙ e);
      free = x.does.made.1;
      aside = x.does.made.0.aside;
    }
