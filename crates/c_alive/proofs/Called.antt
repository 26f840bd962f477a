-- What is promised of the calls that the grammar makes.
use Rattle.std.proofs.Common.{◌≡◌, ◌∙◌, ◌<◌, ℕ, not, Bool, true, false, subst, ap, List, nat_eq}
use Rattle.c_tokens.specs.declared.token.Shape.{Shape}
use Rattle.c_forms.specs.declared.pieces.Sort.{Sort}
use Rattle.c_forms.specs.declared.pieces.Sort.TheVariants as s
use Rattle.c_forms.specs.Sets.{goes_on}
use Rattle.c_reader.specs.States.{State, Kept, Near, Other, is_function}
use Rattle.c_reader.specs.Readers.{Rule, Of, Opened, Found, Call}
use Rattle.c_reader.proofs.Sets.{contrary}
use Rattle.c_reader.proofs.Phrases.{Tokens, Finishes, fin_call, fin_map}
use Rattle.c_reader.proofs.Live.{Calls, Live, live_map}
use Rattle.c_syntax.specs.Reading.{called, deeper}
use Rattle.c_syntax.specs.Grammar.{body}
use Rattle.c_alive.proofs.Kept.{Still, is_item, is_called}
use Rattle.c_alive.proofs.Phrased.{none_of, phrase, past}
use Rattle.c_alive.proofs.FitRows.{is_reached}

abbrev pub follows : Rule → Tokens
follows (Of due least) = none_of (past due least)
follows Opened = none_of (goes_on s.Exp 15)

abbrev pub at_reached : Rule → Bool
at_reached (Of due least) = is_reached due least
at_reached Opened = true

-- the rules that are called where a function's declarator is due
abbrev pub is_due : Rule → Bool
is_due (Of s.Declarator least) = nat_eq least 1
is_due (Of s.Qualifier least) = true
is_due _ = false

-- what declares a name
abbrev pub names : Rule → Bool
names (Of s.Declarator least) = true
names _ = false

abbrev pub is_other : Near → Bool
is_other Other = true
is_other near = false

-- among the same declarations around, and a function's declarator is due, next to whose name nothing else stands
abbrev pub Due : List Kept → State → Type 0
Due a z = (z.aside ≡ a) × ((z.kept.is_function_due ≡ true) × (is_other z.kept.near ≡ false))

-- Each keeps the declarations around it, and a declarator that is due is a function's.
abbrev pub GivesBy : Bool → Rule → List Kept → State → Type 0
GivesBy false n a t = Still a t
GivesBy true n a t = Due a t × (names n ≡ true → is_function t ≡ true)

abbrev pub Good : Rule → State → Shape → Type 0
Good n z y = (is_called n ≡ true) × ((at_reached n ≡ true) × (z.kept.is_function_due ≡ true → (is_due n ≡ true) × (is_other z.kept.near ≡ false)))

abbrev pub Gives : Rule → State → Found → State → Type 0
Gives n z x t = GivesBy z.kept.is_function_due n z.aside t

abbrev pub calls : Calls
calls = record { Good = Good; needs = λ n. 0; following = follows; Gives = Gives }

-- where none is due
pub good : (n : Rule) (a : List Kept) (z : State) (y : Shape) → is_called n ≡ true → at_reached n ≡ true → Still a z → Good n z y
good n a z y c r k = (c, (r, λ e. contrary z.kept.is_function_due e k.1))

pub still : (n : Rule) (a : List Kept) (z : State) (x : Found) (t : State) → Still a z → Gives n z x t → Still a t
still n a z x t k m = let given : GivesBy false n z.aside t = subst (λ b. GivesBy b n z.aside t) k.1 m in (given.0 ∙ k.0, given.1)

pub live_rule : (deep : ℕ) → 0 < deep → (n : Rule) → is_called n ≡ true → at_reached n ≡ true → (a : List Kept) (z : State) (y : Shape) → Still a z → Live body calls deep z y (follows n) (λ _ t. Still a t) (Call n)
live_rule deep room n c r a z y k = (good n a z y c r k, (room, ((λ x q. q), ((λ x t m. still n a z x t k m), tt))))

pub live_called : (deep : ℕ) → 0 < deep → (due : Sort) (least : ℕ) → is_item due ≡ false → is_reached due least ≡ true → (a : List Kept) (z : State) (y : Shape) → Still a z → Live body calls deep z y (none_of (past due least)) (λ _ t. Still a t) (called due least)
live_called deep room due least h low a z y k = live_map body calls deep z y (λ _ t. Still a t) (none_of (past due least)) (none_of (past due least)) (λ _ t. Still a t) (Call (Of due least)) deeper (λ x q. q) (λ x t k. k) (live_rule deep room (Of due least) (ap not h) low a z y k)

pub fin_called : (due : Sort) (least : ℕ) (a : List Kept) (z : State) → Finishes body z (none_of (past due least)) (λ _ t. Still a t) (body (Of due least)) (phrase due) → Finishes body z (none_of (past due least)) (λ _ t. Still a t) (called due least) (phrase due)
fin_called due least a z F = fin_map body z (λ _ t. Still a t) (none_of (past due least)) (λ _ t. Still a t) (Call (Of due least)) deeper (phrase due) (fin_call body z (none_of (past due least)) (λ _ t. Still a t) (Of due least) (phrase due) F) (λ x t k. k)

-- where one is
pub when_due : (n : Rule) (a : List Kept) (z : State) (x : Found) (t : State) → Due a z → Gives n z x t → Due a t × (names n ≡ true → is_function t ≡ true)
when_due n a z x t k m = let given : GivesBy true n z.aside t = subst (λ b. GivesBy b n z.aside t) k.1.0 m in ((given.0.0 ∙ k.0, given.0.1), given.1)
