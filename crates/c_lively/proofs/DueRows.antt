-- The rows of declarators piece by piece, and the states in which they are read where a function's declarator is due.
use Rattle.std.proofs.Common.{◌≡◌, refl, ap, ◌∙◌, not, Bool, true, false, ◌&&◌, ℕ, List, ◌∷◌, None}
use Rattle.c_tokens.specs.declared.token.Punct.{Punct}
use Rattle.c_tokens.specs.declared.token.Punct.TheVariants as punct
use Rattle.c_tokens.specs.ClassNumbers.{class_number}
use Rattle.c_forms.specs.declared.pieces.Event.{Event}
use Rattle.c_forms.specs.declared.pieces.Event.TheVariants as event
use Rattle.c_forms.specs.declared.pieces.Sort.TheVariants as s
use Rattle.c_forms.specs.declared.pieces.Repetition.TheVariants.{Many, Optional}
use Rattle.c_forms.specs.declared.forms.Form.{Form}
use Rattle.c_forms.specs.declared.forms.DeclaratorForm.TheVariants as declarator
use Rattle.c_reader.specs.States.{State, Kept, Near, Bare, Parameters, Other, Entry, happens, top, under, is_bare, has_parameters, is_function, with_parameters, sealed, innermost}
use Rattle.c_reader.specs.Readers.{Reader, Found, Give, Refuse, Bind, Ask, Change, choose, token}
use Rattle.c_reader.proofs.Sets.{not_true}
use Rattle.c_syntax.specs.Allowed.{may_happen}
use Rattle.c_syntax.specs.Reading.{Usual, Listed, Gathered, nothing, called, with_first, list_from, gathered}
use Rattle.c_syntax.specs.Grammar.{sign, the_declarator}
use Rattle.c_alive.proofs.Kept.{Still}
use Rattle.c_alive.proofs.Called.{Due, is_other}

-- ---- rows

abbrev pub event_then : {A : Type 0} → Event → Reader A → Reader A
event_then e r = Ask (λ i. choose (may_happen e i.state) (Change e r) Refuse)

abbrev pub sign_of : Punct → ℕ
sign_of p = class_number (sign p)

abbrev pub pointer : Form
pointer = the_declarator declarator.Pointer

abbrev pub array : Form
array = the_declarator declarator.ArrayOf

abbrev pub function : Form
function = the_declarator declarator.FunctionOf

abbrev pub after_tree : Reader Listed → Found → Reader Listed
after_tree r x = Bind r (λ g. Give (with_first x g))

abbrev pub qualifiers : Reader (ℕ × Gathered)
qualifiers = gathered (Many None 0) s.Qualifier (called s.Qualifier 0) Usual

abbrev pub sealing : Reader Listed
sealing = event_then event.Seal (Give nothing)

abbrev pub pointed : Reader Listed
pointed = Bind (called s.Declarator 1) (after_tree sealing)

abbrev pub after_star : Reader Listed
after_star = Bind qualifiers (λ g. Bind pointed (λ h. Give (with_first (list_from g.0 g.1) h)))

abbrev pub pointer_row : Reader Listed
pointer_row = Bind (token (sign_of punct.Star)) (λ _. after_star)

abbrev pub size : Reader (ℕ × Gathered)
size = gathered Optional s.Exp (called s.Exp 3) Usual

abbrev pub bracket : Reader Listed
bracket = Bind (token (sign_of punct.RightBracket)) (λ _. Give nothing)

abbrev pub array_end : Reader Listed
array_end = event_then event.Resume (event_then event.Seal bracket)

abbrev pub sized_array : Reader Listed
sized_array = Bind size (λ g. Bind array_end (λ h. Give (with_first (list_from g.0 g.1) h)))

abbrev pub after_bracket : Reader Listed
after_bracket = event_then event.Aside sized_array

abbrev pub array_row : Reader Listed
array_row = Bind (token (sign_of punct.LeftBracket)) (λ _. after_bracket)

abbrev pub closing : Reader Listed
closing = event_then event.Close (Give nothing)

abbrev pub parameters_end : Reader Listed
parameters_end = Bind (token (sign_of punct.RightParen)) (λ _. closing)

abbrev pub listed : Reader Listed
listed = Bind (called s.Params 0) (after_tree parameters_end)

abbrev pub entering : Reader Listed
entering = event_then event.Enter listed

abbrev pub after_paren : Reader Listed
after_paren = event_then event.Aside entering

abbrev pub function_row : Reader Listed
function_row = Bind (token (sign_of punct.LeftParen)) (λ _. after_paren)

-- ---- states

-- a function's declarator is due, and stands there
abbrev pub Function : List Kept → State → Type 0
Function a z = Due a z × (is_function z ≡ true)

pub function_near : (near : Near) → has_parameters near ≡ true → (is_other near ≡ false) × (is_bare near ≡ false)
function_near (Parameters words) h = (refl, refl)
function_near Bare h = absurd (cc h)
function_near Other h = absurd (cc h)

pub near_function : (near : Near) → is_other near ≡ false → is_bare near ≡ false → has_parameters near ≡ true
near_function (Parameters words) h k = refl
near_function Bare h k = absurd (cc k)
near_function Other h k = absurd (cc h)

seal_near : (near : Near) → is_other near ≡ false → is_bare near ≡ false → sealed near ≡ near
seal_near (Parameters words) h k = refl
seal_near Bare h k = absurd (cc k)
seal_near Other h k = absurd (cc h)

close_near : (words : List Entry) (near : Near) → is_other near ≡ false → has_parameters (with_parameters words near) ≡ true
close_near words Bare h = refl
close_near words (Parameters more) h = refl
close_near words Other h = absurd (cc h)

pub not_bare : (z : State) → z.kept.is_function_due ≡ true → may_happen event.Seal z ≡ true → is_bare z.kept.near ≡ false
not_bare z d e = by_both z.kept.is_function_due (is_bare z.kept.near) d e
  where
    by_both : (a b : Bool) → a ≡ true → not (a && b) ≡ true → b ≡ false
    by_both true b d e = not_true b e
    by_both false b d e = absurd (cc d)

-- nothing is sealed but after parameters
pub seal_due : (a : List Kept) (z : State) → Due a z → may_happen event.Seal z ≡ true → Function a (happens event.Seal z)
seal_due a z h e = let b : is_bare z.kept.near ≡ false = not_bare z h.1.0 e in let same = seal_near z.kept.near h.1.1 b in ((h.0, (h.1.0, ap is_other same ∙ h.1.1)), ap has_parameters same ∙ near_function z.kept.near h.1.1 b)

-- where parameters stand it may be
pub may_seal : (a : List Kept) (z : State) → Function a z → may_happen event.Seal z ≡ true
may_seal a z h = ap (λ b. not (z.kept.is_function_due && b)) (function_near z.kept.near h.1).1 ∙ and_false z.kept.is_function_due
  where
    and_false : (b : Bool) → not (b && false) ≡ true
    and_false true = refl
    and_false false = refl

pub resume_due : (k : Kept) (a : List Kept) (t : State) → k.is_function_due ≡ true → is_other k.near ≡ false → Still (k ∷ a) t → Due a (happens event.Resume t)
resume_due k a t d o h = (ap under h.0, (ap (λ l. (top l).is_function_due) h.0 ∙ d, ap (λ l. is_other (top l).near) h.0 ∙ o))

pub resume_function : (k : Kept) (a : List Kept) (t : State) → k.is_function_due ≡ true → has_parameters k.near ≡ true → Still (k ∷ a) t → Function a (happens event.Resume t)
resume_function k a t d f h = (resume_due k a t d (function_near k.near f).0 h, ap (λ l. has_parameters (top l).near) h.0 ∙ f)

pub close_function : (k : Kept) (a : List Kept) (t : State) → k.is_function_due ≡ true → is_other k.near ≡ false → Still (k ∷ a) t → Function a (happens event.Close t)
close_function k a t d o h =
    let same : is_other (top t.aside).near ≡ false = ap (λ l. is_other (top l).near) h.0 ∙ o in
    let parts : has_parameters (with_parameters (innermost t.entries) (top t.aside).near) ≡ true = close_near (innermost t.entries) (top t.aside).near same in
    ((ap under h.0, (ap (λ l. (top l).is_function_due) h.0 ∙ d, (function_near (with_parameters (innermost t.entries) (top t.aside).near) parts).0)), parts)

pub aside_still : (a : List Kept) (z : State) → z.aside ≡ a → Still (z.kept ∷ a) (happens event.Aside z)
aside_still a z h = (ap (λ l. z.kept ∷ l) h, refl)
