-- The tokens of a layout are those that the table says, whatever its depth: lines begin only between them.
use Rattle.std.proofs.Common.{◌≡◌, refl, ℕ, ◌+◌, Bool, true, false, nat_lt, if◌then◌else◌, Option, Some, None, List, [], ◌∷◌, ◌++◌, ap, ◌∙◌, append_assoc}
use Rattle.c_tokens.specs.declared.token.Punct.TheVariants.{LeftParen, RightParen}
use Rattle.c_tokens.specs.declared.token.Shape.{Shape}
use Rattle.c_tokens.specs.declared.token.Shape.TheVariants.{Punct}
use Rattle.c_forms.specs.declared.pieces.Piece.{Piece}
use Rattle.c_forms.specs.declared.pieces.Piece.TheVariants.{Token, Maybe, Own, TypeTokens, KindName, One, Group, Rest, Anything, Then}
use Rattle.c_forms.specs.declared.forms.Form.{Form}
use Rattle.c_forms.specs.Forests.{Plain, Forest, empty, tree}
use Rattle.c_forms.specs.Measures.{level, pieces}
use Rattle.c_forms.specs.Tokens.{held}
use Rattle.c_layout.specs.declared.marks.Mark.{Mark}
use Rattle.c_layout.specs.declared.marks.Mark.TheVariants as mark
use Rattle.c_layout.specs.declared.standing.Standing.{Standing}
use Rattle.c_layout.specs.declared.standing.Standing.TheVariants as stands
use Rattle.c_layout.specs.declared.standing.GroupStanding.{GroupStanding}
use Rattle.c_layout.specs.declared.standing.GroupStanding.TheVariants as stand
use Rattle.c_layout.specs.Marks.{line, plain, separator_of, shape_of, token_in, if_any}
use Rattle.c_layout.specs.Standing.{standing_of_part, standing_of_group, is_block, follows_else}
use Rattle.c_layout.specs.Layout.{heads, enclosed, placed, body, part, start, others, joined, inside, elements, put, laid, laid_at, layout}
use Rattle.c_layout.specs.Spelled.{wholes, in_place, after_first, separated, spell, all_spelled, tokens, tokens_among}

append : (a b : List Mark) → tokens_among (a ++ b) ≡ tokens_among a ++ tokens_among b
append [] b = refl
append (mark.Token s u ∷ a) b = ap (λ l. s ∷ l) (append a b)
append (mark.Line d ∷ a) b = append a b

line_last : (a : List Mark) (d : ℕ) → tokens_among (a ++ line d ∷ []) ≡ tokens_among a
line_last [] d = refl
line_last (mark.Token s u ∷ a) d = ap (λ l. s ∷ l) (line_last a d)
line_last (mark.Line e ∷ a) d = line_last a d

start_first : (b : Bool) (d : ℕ) (a : List Mark) → tokens_among (start b d ++ a) ≡ tokens_among a
start_first true d a = refl
start_first false d a = refl

mark_token : (f : Form) (o : Option Shape) → tokens_among (if_any (token_in f o)) ≡ if_any o
mark_token f None = refl
mark_token f (Some s) = refl

both : (a b : List Mark) (s t : List Shape) → tokens_among a ≡ s → tokens_among b ≡ t → tokens_among (a ++ b) ≡ s ++ t
both a b s t p q = append a b ∙ ap (λ l. l ++ tokens_among b) p ∙ ap (λ l. s ++ l) q

placed_tokens : (due d : ℕ) (f : Form) (m : ℕ → List Mark) (ts : List Shape) → ((e : ℕ) → tokens_among (m e) ≡ ts)
    → tokens_among (placed due d (record { form = f; marks = m })) ≡ in_place due (record { form = f; tokens = ts })
placed_tokens due d f m ts h =
    elim (nat_lt (level f) due) as (λ v. tokens_among (if v then enclosed (m d) else m d) ≡ (if v then Punct LeftParen ∷ (ts ++ Punct RightParen ∷ []) else ts)) [
      | true ↦ ap (λ l. Punct LeftParen ∷ l) (both (m d) (plain RightParen ∷ []) ts (Punct RightParen ∷ []) (h d) refl)
      | false ↦ h d
    ]

body_tokens : (b : Bool) (due d : ℕ) (f : Form) (m : ℕ → List Mark) (ts : List Shape) → ((e : ℕ) → tokens_among (m e) ≡ ts)
    → tokens_among (body b due d (record { form = f; marks = m })) ≡ in_place due (record { form = f; tokens = ts })
body_tokens true due d f m ts h = placed_tokens due d f m ts h
body_tokens false due d f m ts h = placed_tokens due (d + 1) f m ts h

part_tokens : (st : Standing) (due d : ℕ) (f : Form) (m : ℕ → List Mark) (ts : List Shape) → ((e : ℕ) → tokens_among (m e) ≡ ts)
    → tokens_among (part st due d (record { form = f; marks = m })) ≡ in_place due (record { form = f; tokens = ts })
part_tokens stands.Along due d f m ts h = placed_tokens due d f m ts h
part_tokens stands.Body due d f m ts h = body_tokens (is_block f) due d f m ts h
part_tokens stands.BodyOfDo due d f m ts h =
    line_last (body (is_block f) due d (record { form = f; marks = m })) d ∙ body_tokens (is_block f) due d f m ts h
part_tokens stands.BodyOfElse due d f m ts h = body_tokens (follows_else f) due d f m ts h

-- that each tree of a forest, and each part of each, has these tokens at every depth
abbrev Alike : Forest → Type 0
Alike empty = Unit {0}
Alike (tree f s ps rest) = ((d : ℕ) → tokens_among (put (pieces f) f (laid ps) d) ≡ spell (pieces f) f (all_spelled ps)) × (Alike ps × Alike rest)

others_tokens : (b : Bool) (sep : List Mark) (shapes : List Shape) → tokens_among sep ≡ shapes → (due d : ℕ) (ts : Forest) → Alike ts
    → tokens_among (others b sep due d (heads (laid ts))) ≡ after_first shapes due (wholes (all_spelled ts))
others_tokens b sep shapes e due d empty a = refl
others_tokens b sep shapes e due d (tree f s ps rest) a =
    both sep _ shapes _ e (start_first b d _ ∙ both (placed due d (record { form = f; marks = put (pieces f) f (laid ps) })) _ _ _
    (placed_tokens due d f (put (pieces f) f (laid ps)) (spell (pieces f) f (all_spelled ps)) a.0)
    (others_tokens b sep shapes e due d rest a.1.1))

joined_tokens : (b : Bool) (sep : List Mark) (shapes : List Shape) → tokens_among sep ≡ shapes → (due d : ℕ) (ts : Forest) → Alike ts
    → tokens_among (joined b sep due d (heads (laid ts))) ≡ separated shapes due (wholes (all_spelled ts))
joined_tokens b sep shapes e due d empty a = refl
joined_tokens b sep shapes e due d (tree f s ps rest) a =
    start_first b d _ ∙ both (placed due d (record { form = f; marks = put (pieces f) f (laid ps) })) _ _ _
    (placed_tokens due d f (put (pieces f) f (laid ps)) (spell (pieces f) f (all_spelled ps)) a.0)
    (others_tokens b sep shapes e due d rest a.1.1)

inside_tokens : (sep : List Mark) (shapes : List Shape) → tokens_among sep ≡ shapes → (due d : ℕ) (ts : Forest) → Alike ts
    → tokens_among (inside sep due d (heads (laid ts))) ≡ separated shapes due (wholes (all_spelled ts))
inside_tokens sep shapes e due d ts a =
    line_last (joined true sep due (d + 1) (heads (laid ts))) d ∙ joined_tokens true sep shapes e due (d + 1) ts a

elements_tokens : (st : GroupStanding) (sep : List Mark) (shapes : List Shape) → tokens_among sep ≡ shapes → (due d : ℕ) (ts : Forest) → Alike ts
    → tokens_among (elements st sep due d (heads (laid ts))) ≡ separated shapes due (wholes (all_spelled ts))
elements_tokens stand.Along sep shapes e due d ts a = joined_tokens false sep shapes e due d ts a
elements_tokens stand.Inside sep shapes e due d ts a = inside_tokens sep shapes e due d ts a
elements_tokens stand.Declarations sep shapes e due d empty a = refl
elements_tokens stand.Declarations sep shapes e due d (tree f s ps rest) a = inside_tokens sep shapes e due d (tree f s ps rest) a
elements_tokens stand.Else sep shapes e due d ts a = joined_tokens true sep shapes e due d ts a

put_tokens : (q : List Piece) (f : Form) (ts : Forest) → Alike ts → (d : ℕ) → tokens_among (put q f (laid ts) d) ≡ spell q f (all_spelled ts)
put_tokens [] f ts a d = refl
put_tokens (Token c ∷ q) f ts a d = both (if_any (token_in f (shape_of c))) _ _ _ (mark_token f (shape_of c)) (put_tokens q f ts a d)
put_tokens (Own ∷ q) f ts a d = both (if_any (token_in f (held f))) _ _ _ (mark_token f (held f)) (put_tokens q f ts a d)
put_tokens (One due least ∷ q) f empty a d = refl
put_tokens (One due least ∷ q) f (tree g s ps rest) a d =
    both (part (standing_of_part f due) least d (record { form = g; marks = put (pieces g) g (laid ps) })) _ _ _
    (part_tokens (standing_of_part f due) least d g (put (pieces g) g (laid ps)) (spell (pieces g) g (all_spelled ps)) a.0)
    (put_tokens q f rest a.1.1 d)
put_tokens (Group r due least ∷ q) f empty a d = refl
put_tokens (Group r due least ∷ q) f (tree g s ps rest) a d =
    both (elements (standing_of_group due) (if_any (token_in f (separator_of r))) least d (heads (laid ps))) _ _ _
    (elements_tokens (standing_of_group due) (if_any (token_in f (separator_of r))) (if_any (separator_of r)) (mark_token f (separator_of r)) least d ps a.1.0)
    (put_tokens q f rest a.1.1 d)
put_tokens (Maybe c ∷ q) f ts a d = put_tokens q f ts a d
put_tokens (Then e ∷ q) f ts a d = put_tokens q f ts a d
put_tokens (TypeTokens ∷ q) f ts a d = put_tokens q f ts a d
put_tokens (KindName ∷ q) f ts a d = put_tokens q f ts a d
put_tokens (Rest due ∷ q) f ts a d = put_tokens q f ts a d
put_tokens (Anything ∷ q) f ts a d = put_tokens q f ts a d

all_alike : (ts : Forest) → Alike ts
all_alike empty = tt
all_alike (tree f s ps rest) = (put_tokens (pieces f) f ps (all_alike ps), (all_alike ps, all_alike rest))

-- the tokens of marks and of a layout after them
pub tokens_after : (ms : List Mark) (t : Plain) → tokens_among (ms ++ layout t) ≡ tokens_among ms ++ tokens t
tokens_after ms t = both ms (layout t) (tokens_among ms) (tokens t) refl (put_tokens (pieces t.form) t.form t.parts (all_alike t.parts) 0)

pub tokens_added : (old begun new : List Mark) (t : Plain) → begun ≡ old ++ line 0 ∷ [] → new ≡ begun ++ laid_at 0 t → tokens_among new ≡ tokens_among old ++ tokens t
tokens_added old begun new t b n = ap tokens_among n ∙ ap (λ l. tokens_among (l ++ laid_at 0 t)) b ∙ ap tokens_among (append_assoc old (line 0 ∷ []) (laid_at 0 t)) ∙ tokens_after old t
