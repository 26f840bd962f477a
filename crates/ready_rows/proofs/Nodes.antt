-- A node whose row is ready is spelled.
use Rattle.std.proofs.Common.{◌≡◌, ◌≤◌, refl, ℕ, Bool, true, List}
use Rattle.c_tokens.specs.declared.span.Span.{Span}
use Rattle.c_tokens.specs.declared.token.Shape.{Shape}
use Rattle.c_forms.specs.declared.pieces.Sort.{Sort}
use Rattle.c_forms.specs.declared.forms.Form.{Form}
use Rattle.c_forms.specs.Forests.{Plain, Forest, node}
use Rattle.c_forms.specs.Fits.{fits}
use Rattle.c_forms.specs.Measures.{level, pieces}
use Rattle.c_reader.specs.States.{State}
use Rattle.c_reader.specs.Tokens.{Spot}
use Rattle.c_syntax.specs.Reading.{Usual, is_starred, spanned}
use Rattle.c_syntax.specs.Spells.{Spelling, Levels, IsNode, may_be, parts_spelled}
use Rattle.c_layout.specs.Spelled.{tokens}
use Rattle.spelled_scopes.specs.Agreement.{Alike}
use Rattle.spelled_trees.proofs.Fitted.{is_fine}
use Rattle.ready_rows.specs.Printed.{Run}
use Rattle.ready_rows.proofs.Ready as ready
use Rattle.ready_rows.proofs.Ready.{the_tree}
use Rattle.ready_rows.proofs.Rows.{Fine, Prints, completed, is_printable}

module _ (Ready : Sort → Plain → State → Type 0) (Follows : Sort → Plain → List Shape → Type 0) (Does : Sort → Plain → Spot → Spot → Type 0) (w : List Shape) (levels : Type 0) (deeper inner : Spelling) where
  -- a node that is spelled from a spot to a place, equal to a tree but for its spans, and what is known there
  pub record Spelled (due : Sort) (least : ℕ) (t : Plain) (i : Spot) (m : ℕ) (K : Spot → Type 0) : Type 0 where
    pub tree : Plain
    pub last : Spot
    pub is_node : IsNode levels deeper inner w due least tree i last
    pub alike : Alike t tree
    pub place : last.place ≡ m
    pub done : K last

  -- The tokens of a node spell it where its row is ready, and what is ready among its parts is spelled.
  pub node_spelled : (lows : Sort → ℕ → Bool) (k : ℕ) (due : Sort) (least : ℕ) (f : Form) (sp : Span) (ts : Forest) (i : Spot) (after : List Shape) (m z : ℕ) (K : Spot → Type 0)
      → Prints Ready Follows Does w (parts_spelled (is_starred f) deeper inner) lows k → may_be due f ≡ true → least ≤ level f → Levels (is_starred f) levels → is_printable lows due (pieces f) ≡ true → is_fine due (pieces f) ≡ true → fits (pieces f) ts ≡ true → Fine k ts
      → Run w i.place (tokens (the_tree f sp ts)) m → Run w m after z → ready.RowReady Ready Follows Does due f Usual (pieces f) ts i after K → Spelled due least (the_tree f sp ts) i m K
  node_spelled lows k due least f sp ts i after m z K P b l v c d t n run next R =
      let o = completed Ready Follows Does w (parts_spelled (is_starred f) deeper inner) lows k P due f Usual (pieces f) ts i after m z K c d t n run next R in
      record {
        tree = node f (spanned i.place o.last.place) o.trees;
        last = o.last;
        is_node = record { parts = o.trees; value = refl; may = b; tight = l; left = v; matches = o.matches };
        alike = (refl, o.same);
        place = o.place;
        done = o.done;
      }
