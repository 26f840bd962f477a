-- Parts of nodes among whose marks no two neighbours go on one another, whatever stands around them.
use Rattle.std.proofs.Common.{◌≡◌, refl, ℕ, ◌+◌, Bool, true, false, nat_lt, cond, List, [], ◌∷◌, ◌++◌}
use Rattle.c_tokens.specs.declared.token.Punct.TheVariants.{RightParen}
use Rattle.c_forms.specs.Measures.{level}
use Rattle.c_layout.specs.declared.marks.Mark.{Mark}
use Rattle.c_layout.specs.declared.standing.Standing.{Standing}
use Rattle.c_layout.specs.declared.standing.Standing.TheVariants as stands
use Rattle.c_layout.specs.declared.standing.GroupStanding.{GroupStanding}
use Rattle.c_layout.specs.declared.standing.GroupStanding.TheVariants as stand
use Rattle.c_tokens.specs.declared.token.Punct.TheVariants.{LeftParen}
use Rattle.c_layout.specs.Marks.{line, plain}
use Rattle.c_layout.specs.Standing.{is_block, follows_else}
use Rattle.c_layout.specs.Layout.{Head, enclosed, placed, body, part, start, others, joined, inside, elements}
use Rattle.text_tokens.proofs.Cuts.{Clean, none, both, one_line, one_token, is_some}

abbrev pub CleanHead : Head → Type 0
CleanHead h = (depth : ℕ) → Clean (h.marks depth)

abbrev pub CleanHeads : List Head → Type 0
CleanHeads [] = Unit {0}
CleanHeads (h ∷ hs) = CleanHead h × CleanHeads hs

clean_enclosed : (b : Bool) (ms : List Mark) → Clean ms → Clean (cond b (enclosed ms) ms)
clean_enclosed true ms h = both (plain LeftParen ∷ []) _ (one_token _ _ refl refl) (both ms (plain RightParen ∷ []) h (one_token _ _ refl refl))
clean_enclosed false ms h = h

pub clean_placed : (due depth : ℕ) (h : Head) → CleanHead h → Clean (placed due depth h)
clean_placed due depth h all = clean_enclosed (nat_lt (level h.form) due) (h.marks depth) (all depth)

clean_body : (goes_on : Bool) (due depth : ℕ) (h : Head) → CleanHead h → Clean (body goes_on due depth h)
clean_body true due depth h all = clean_placed due depth h all
clean_body false due depth h all = both (line (depth + 1) ∷ []) _ (one_line (depth + 1)) (clean_placed due (depth + 1) h all)

pub clean_part : (s : Standing) (due depth : ℕ) (h : Head) → CleanHead h → Clean (part s due depth h)
clean_part stands.Along due depth h all = clean_placed due depth h all
clean_part stands.Body due depth h all = clean_body (is_block h.form) due depth h all
clean_part stands.BodyOfDo due depth h all = both (body (is_block h.form) due depth h) (line depth ∷ []) (clean_body (is_block h.form) due depth h all) (one_line depth)
clean_part stands.BodyOfElse due depth h all = clean_body (follows_else h.form) due depth h all

clean_start : (starts : Bool) (depth : ℕ) → Clean (start starts depth)
clean_start true depth = one_line depth
clean_start false depth = none

clean_others : (starts : Bool) (separator : List Mark) (due depth : ℕ) (hs : List Head) → Clean separator → CleanHeads hs → Clean (others starts separator due depth hs)
clean_others starts separator due depth [] s all = none
clean_others starts separator due depth (h ∷ hs) s all =
    both separator _ s (both (start starts depth) _ (clean_start starts depth) (both (placed due depth h) _ (clean_placed due depth h all.0) (clean_others starts separator due depth hs s all.1)))

clean_joined : (starts : Bool) (separator : List Mark) (due depth : ℕ) (hs : List Head) → Clean separator → CleanHeads hs → Clean (joined starts separator due depth hs)
clean_joined starts separator due depth [] s all = none
clean_joined starts separator due depth (h ∷ hs) s all =
    both (start starts depth) _ (clean_start starts depth) (both (placed due depth h) _ (clean_placed due depth h all.0) (clean_others starts separator due depth hs s all.1))

clean_inside : (separator : List Mark) (due depth : ℕ) (hs : List Head) → Clean separator → CleanHeads hs → Clean (inside separator due depth hs)
clean_inside separator due depth hs s all = both (joined true separator due (depth + 1) hs) (line depth ∷ []) (clean_joined true separator due (depth + 1) hs s all) (one_line depth)

pub clean_elements : (g : GroupStanding) (separator : List Mark) (due depth : ℕ) (hs : List Head) → Clean separator → CleanHeads hs → Clean (elements g separator due depth hs)
clean_elements stand.Along separator due depth hs s all = clean_joined false separator due depth hs s all
clean_elements stand.Inside separator due depth hs s all = clean_inside separator due depth hs s all
clean_elements stand.Declarations separator due depth [] s all = none
clean_elements stand.Declarations separator due depth (h ∷ hs) s all = clean_inside separator due depth (h ∷ hs) s all
clean_elements stand.Else separator due depth hs s all = clean_joined true separator due depth hs s all

-- ---- some marks

abbrev pub SomeHead : Head → Type 0
SomeHead h = (depth : ℕ) → is_some (h.marks depth) ≡ true

pub some_before : (a b : List Mark) → is_some a ≡ true → is_some (a ++ b) ≡ true
some_before [] b h = absurd cc
some_before (m ∷ a) b h = refl

some_enclosed : (b : Bool) (ms : List Mark) → is_some ms ≡ true → is_some (cond b (enclosed ms) ms) ≡ true
some_enclosed true ms h = refl
some_enclosed false ms h = h

pub some_placed : (due depth : ℕ) (h : Head) → SomeHead h → is_some (placed due depth h) ≡ true
some_placed due depth h all = some_enclosed (nat_lt (level h.form) due) (h.marks depth) (all depth)

some_body : (goes_on : Bool) (due depth : ℕ) (h : Head) → SomeHead h → is_some (body goes_on due depth h) ≡ true
some_body true due depth h all = some_placed due depth h all
some_body false due depth h all = refl

pub some_part : (s : Standing) (due depth : ℕ) (h : Head) → SomeHead h → is_some (part s due depth h) ≡ true
some_part stands.Along due depth h all = some_placed due depth h all
some_part stands.Body due depth h all = some_body (is_block h.form) due depth h all
some_part stands.BodyOfDo due depth h all = some_before (body (is_block h.form) due depth h) (line depth ∷ []) (some_body (is_block h.form) due depth h all)
some_part stands.BodyOfElse due depth h all = some_body (follows_else h.form) due depth h all

pub some_elements : (g : GroupStanding) (separator : List Mark) (due depth : ℕ) (h : Head) (hs : List Head) → SomeHead h → is_some (elements g separator due depth (h ∷ hs)) ≡ true
some_elements stand.Along separator due depth h hs all = some_before (placed due depth h) (others false separator due depth hs) (some_placed due depth h all)
some_elements stand.Inside separator due depth h hs all = refl
some_elements stand.Declarations separator due depth h hs all = refl
some_elements stand.Else separator due depth h hs all = refl
