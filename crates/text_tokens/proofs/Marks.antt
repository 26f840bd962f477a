-- What holds of the tokens that the rows name holds of each mark of a layout.
use Rattle.std.proofs.Common.{ℕ, ◌+◌, Bool, true, false, nat_lt, cond, List, [], ◌∷◌, ◌++◌}
use Rattle.c_tokens.specs.declared.token.Punct.TheVariants.{RightParen}
use Rattle.c_forms.specs.declared.pieces.Piece.{Piece}
use Rattle.c_forms.specs.declared.pieces.Piece.TheVariants.{Token, Maybe, Own, TypeTokens, KindName, One, Group, Rest, Anything, Then}
use Rattle.c_forms.specs.declared.forms.Form.{Form}
use Rattle.c_forms.specs.Forests.{Plain, Forest, empty, tree}
use Rattle.c_forms.specs.Measures.{level, pieces}
use Rattle.c_forms.specs.Tokens.{held}
use Rattle.c_layout.specs.declared.marks.Mark.{Mark}
use Rattle.c_layout.specs.declared.standing.Standing.{Standing}
use Rattle.c_layout.specs.declared.standing.Standing.TheVariants as stands
use Rattle.c_layout.specs.declared.standing.GroupStanding.{GroupStanding}
use Rattle.c_layout.specs.declared.standing.GroupStanding.TheVariants as stand
use Rattle.c_layout.specs.Marks.{line, plain, separator_of, shape_of, token_in, if_any}
use Rattle.c_layout.specs.Standing.{standing_of_part, standing_of_group, is_block, follows_else}
use Rattle.c_layout.specs.Layout.{Head, Laid, heads, enclosed, placed, body, part, start, others, joined, inside, elements, put, laid, layout}
use Rattle.text_tokens.specs.Marks.{All, AllOfPieces, AllOfRows, OfAdded}

module _ (P : Mark → Type 0) (added : OfAdded P) where
  both : (a b : List Mark) → All P a → All P b → All P (a ++ b)
  both [] b h k = k
  both (m ∷ a) b h k = (h.0, both a b h.1 k)

  abbrev OfHead : Head → Type 0
  OfHead h = (depth : ℕ) → All P (h.marks depth)

  abbrev OfHeads : List Head → Type 0
  OfHeads [] = Unit {0}
  OfHeads (h ∷ hs) = OfHead h × OfHeads hs

  abbrev OfLaid : List Laid → Type 0
  OfLaid [] = Unit {0}
  OfLaid (l ∷ ls) = (OfHead l.head × OfHeads l.parts) × OfLaid ls

  of_heads : (ls : List Laid) → OfLaid ls → OfHeads (heads ls)
  of_heads [] h = tt
  of_heads (l ∷ ls) h = (h.0.0, of_heads ls h.1)

  of_line : (depth : ℕ) → All P (line depth ∷ [])
  of_line depth = (added.lines depth, tt)

  of_enclosed : (b : Bool) (ms : List Mark) → All P ms → All P (cond b (enclosed ms) ms)
  of_enclosed true ms h = (added.opening, both ms (plain RightParen ∷ []) h (added.closing, tt))
  of_enclosed false ms h = h

  of_placed : (due depth : ℕ) (h : Head) → OfHead h → All P (placed due depth h)
  of_placed due depth h all = of_enclosed (nat_lt (level h.form) due) (h.marks depth) (all depth)

  of_body : (goes_on : Bool) (due depth : ℕ) (h : Head) → OfHead h → All P (body goes_on due depth h)
  of_body true due depth h all = of_placed due depth h all
  of_body false due depth h all = (added.lines (depth + 1), of_placed due (depth + 1) h all)

  of_part : (s : Standing) (due depth : ℕ) (h : Head) → OfHead h → All P (part s due depth h)
  of_part stands.Along due depth h all = of_placed due depth h all
  of_part stands.Body due depth h all = of_body (is_block h.form) due depth h all
  of_part stands.BodyOfDo due depth h all = both (body (is_block h.form) due depth h) (line depth ∷ []) (of_body (is_block h.form) due depth h all) (of_line depth)
  of_part stands.BodyOfElse due depth h all = of_body (follows_else h.form) due depth h all

  of_start : (starts : Bool) (depth : ℕ) → All P (start starts depth)
  of_start true depth = of_line depth
  of_start false depth = tt

  of_others : (starts : Bool) (separator : List Mark) (due depth : ℕ) (hs : List Head) → All P separator → OfHeads hs → All P (others starts separator due depth hs)
  of_others starts separator due depth [] s all = tt
  of_others starts separator due depth (h ∷ hs) s all =
      both separator _ s (both (start starts depth) _ (of_start starts depth) (both (placed due depth h) _ (of_placed due depth h all.0) (of_others starts separator due depth hs s all.1)))

  of_joined : (starts : Bool) (separator : List Mark) (due depth : ℕ) (hs : List Head) → All P separator → OfHeads hs → All P (joined starts separator due depth hs)
  of_joined starts separator due depth [] s all = tt
  of_joined starts separator due depth (h ∷ hs) s all =
      both (start starts depth) _ (of_start starts depth) (both (placed due depth h) _ (of_placed due depth h all.0) (of_others starts separator due depth hs s all.1))

  of_inside : (separator : List Mark) (due depth : ℕ) (hs : List Head) → All P separator → OfHeads hs → All P (inside separator due depth hs)
  of_inside separator due depth hs s all = both (joined true separator due (depth + 1) hs) (line depth ∷ []) (of_joined true separator due (depth + 1) hs s all) (of_line depth)

  of_elements : (g : GroupStanding) (separator : List Mark) (due depth : ℕ) (hs : List Head) → All P separator → OfHeads hs → All P (elements g separator due depth hs)
  of_elements stand.Along separator due depth hs s all = of_joined false separator due depth hs s all
  of_elements stand.Inside separator due depth hs s all = of_inside separator due depth hs s all
  of_elements stand.Declarations separator due depth [] s all = tt
  of_elements stand.Declarations separator due depth (h ∷ hs) s all = of_inside separator due depth (h ∷ hs) s all
  of_elements stand.Else separator due depth hs s all = of_joined true separator due depth hs s all

  of_put : (q : List Piece) (f : Form) (ls : List Laid) (depth : ℕ) → AllOfPieces P f q → OfLaid ls → All P (put q f ls depth)
  of_put [] f ls depth h all = tt
  of_put (Token c ∷ q) f ls depth h all = both (if_any (token_in f (shape_of c))) _ h.0 (of_put q f ls depth h.1 all)
  of_put (Own ∷ q) f ls depth h all = both (if_any (token_in f (held f))) _ h.0 (of_put q f ls depth h.1 all)
  of_put (One due least ∷ q) f [] depth h all = tt
  of_put (One due least ∷ q) f (l ∷ ls) depth h all = both (part (standing_of_part f due) least depth l.head) _ (of_part (standing_of_part f due) least depth l.head all.0.0) (of_put q f ls depth h all.1)
  of_put (Group r due least ∷ q) f [] depth h all = tt
  of_put (Group r due least ∷ q) f (l ∷ ls) depth h all =
      both (elements (standing_of_group due) (if_any (token_in f (separator_of r))) least depth l.parts) _
      (of_elements (standing_of_group due) (if_any (token_in f (separator_of r))) least depth l.parts h.0 all.0.1) (of_put q f ls depth h.1 all.1)
  of_put (Maybe c ∷ q) f ls depth h all = of_put q f ls depth h all
  of_put (Then e ∷ q) f ls depth h all = of_put q f ls depth h all
  of_put (TypeTokens ∷ q) f ls depth h all = of_put q f ls depth h all
  of_put (KindName ∷ q) f ls depth h all = of_put q f ls depth h all
  of_put (Rest due ∷ q) f ls depth h all = of_put q f ls depth h all
  of_put (Anything ∷ q) f ls depth h all = of_put q f ls depth h all

  of_laid : (t : Forest) → AllOfRows P t → OfLaid (laid t)
  of_laid empty h = tt
  of_laid (tree f s ps rest) h =
      ((λ depth. of_put (pieces f) f (laid ps) depth h.0 (of_laid ps h.1.0), of_heads (laid ps) (of_laid ps h.1.0)), of_laid rest h.1.1)

  -- each mark of a layout
  pub layout-all : (t : Plain) → AllOfPieces P t.form (pieces t.form) → AllOfRows P t.parts → All P (layout t)
  layout-all t h parts = (added.lines 0, of_put (pieces t.form) t.form (laid t.parts) 0 h (of_laid t.parts parts))
