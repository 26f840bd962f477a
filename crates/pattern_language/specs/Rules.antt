-- The rules by which the next token alone decides how a pattern goes on.
use Rattle.std.specs.Prelude.{◌≡◌, ℕ, ◌+◌, ◌-◌, ◌^◌, min, ◌≤◌, ◌<◌, ◌⊎◌, Bool, true, false, ◌&&◌, ◌||◌, nat_le, List, [], ◌∷◌, ◌++◌, length, Option, MatchOption, All}
use Rattle.c_tokens.specs.declared.token.Token.{Token}
use Rattle.c_tokens.specs.declared.token.Word.{Word}
use Rattle.c_tokens.specs.declared.kind.Kind.{Kind}
use Rattle.c_tokens.specs.declared.kind.Kind.TheVariants as t
use Rattle.c_tokens.specs.Kinds.{is_same_kind}
use Rattle.c_tokens.specs.declared.kind.Base.{Base}
use Rattle.c_tokens.specs.declared.kind.Base.TheVariants as b
use Rattle.c_tokens.specs.declared.kind.MetaType.{MetaType}
use Rattle.pattern_language.specs.Classes.{Classes, Meets, nothing}
use Rattle.pattern_language.specs.Kinds.{cont, continuations, is_some_class}
use Rattle.pattern_language.specs.Patterns.{Pattern, Done, Literal, Bind, Repeat, Maybe, token_class, can_be_empty, first_of, between, names, is_among, holds_binder}

-- Where a list of elements stands: in how many repetitions and options, after which binders,
-- what may follow the list, whether the end of the whole pattern may, and whether the list is the whole pattern.
pub record Place : Type 0 where
  pub depth : ℕ
  pub earlier : List Word
  pub follow : Classes
  pub ends : Bool
  pub whole : Bool

abbrev pub start : Place
start = record { depth = 0; earlier = []; follow = nothing; ends = true; whole = true }

-- Next of an element, where these elements follow it in a list that stands here
abbrev pub next : Pattern → Place → Classes
next p at c = first_of p c || (can_be_empty p && at.follow c)

-- it reaches the end of the whole pattern
abbrev pub reaches_end : Pattern → Place → Bool
reaches_end p at = can_be_empty p && at.ends

-- after binders of these names
abbrev pub after : List Word → Place → Place
after binders at = record at { earlier = at.earlier ++ binders }

-- in the body of a repetition with this separator, before these elements
abbrev pub in_repetition : Option Token → Pattern → Pattern → Place → Place
in_repetition sep body p at =
    record { depth = at.depth + 1; earlier = at.earlier; follow = λ c. between sep body c || next p at c; ends = reaches_end p at; whole = false }

abbrev pub in_option : Pattern → Place → Place
in_option p at = record { depth = at.depth + 1; earlier = at.earlier; follow = next p at; ends = reaches_end p at; whole = false }

-- an element, with those after it in its list, and where the list stands
pub record Site : Type 0 where
  pub pattern : Pattern
  pub place : Place

-- all elements in the order of writing, an outer one before its inner ones
unfoldable pub sites : Pattern → Place → List Site
sites Done at = []
sites (Literal t p) at = record { pattern = Literal t p; place = at } ∷ sites p at
sites (Bind kind name p) at = record { pattern = Bind kind name p; place = at } ∷ sites p (after (name ∷ []) at)
sites (Repeat least sep body p) at =
    record { pattern = Repeat least sep body p; place = at } ∷ (sites body (in_repetition sep body p at) ++ sites p (after (names body) at))
sites (Maybe intro body p) at =
    record { pattern = Maybe intro body p; place = at } ∷ (sites body (in_option p at) ++ sites p (after (names body) at))

-- ---- the rules, by when an element breaks them

-- it is a repetition or an option inside three others
abbrev pub BreaksP1 : Pattern → Place → Type 0
BreaksP1 (Repeat least sep body p) at = 3 ≤ at.depth
BreaksP1 (Maybe intro body p) at = 3 ≤ at.depth
BreaksP1 _ at = ⊥

-- it is a binder and an earlier binder has its name
abbrev pub BreaksP2 : Pattern → Place → Type 0
BreaksP2 (Bind kind name p) at = is_among at.earlier name ≡ true
BreaksP2 _ at = ⊥

-- the body holds no binder or can be empty
abbrev pub IsIdle : Pattern → Type 0
IsIdle body = (holds_binder body ≡ false) ⊎ (can_be_empty body ≡ true)

-- it is a repetition or an option whose body holds no binder or can be empty
abbrev pub BreaksP3 : Pattern → Place → Type 0
BreaksP3 (Repeat least sep body p) at = IsIdle body
BreaksP3 (Maybe intro body p) at = IsIdle body
BreaksP3 _ at = ⊥

-- it is a binder with which Next may go on
abbrev pub BreaksP4 : Pattern → Place → Type 0
BreaksP4 (Bind kind name p) at = Meets (cont kind) (next p at)
BreaksP4 _ at = ⊥

-- the next token does not tell whether the repetition goes on or the option is there
abbrev pub BreaksP5 : Pattern → Place → Type 0
BreaksP5 (Repeat least sep body p) at = Meets (between sep body) (next p at) ⊎ ((least ≡ 0) × Meets (first_of body) (next p at))
BreaksP5 (Maybe intro body p) at = next p at (token_class intro) ≡ true
BreaksP5 _ at = ⊥

-- something may go on with a tree of the kind
abbrev pub can_go_on : Kind → Bool
can_go_on kind = is_some_class (continuations kind)

abbrev pub is_tree_of : Kind → Base → Bool
is_tree_of kind (b.Tree other) = is_same_kind other kind
is_tree_of kind _ = false

-- a statement or a list of statements
abbrev pub is_statements : MetaType → Bool
is_statements result = is_tree_of t.Stmt result.base && nat_le result.lists 1

abbrev pub is_done : Pattern → Bool
is_done Done = true
is_done _ = false

-- the last element of the whole pattern may be a statement's binder where the result is one or more statements
abbrev pub is_last_statement : MetaType → Kind → Pattern → Place → Bool
is_last_statement result kind p at = at.whole && is_done p && is_same_kind kind t.Stmt && is_statements result

-- its Next reaches the end, and it is a repetition, an option, or a binder with which something may go on
abbrev pub BreaksP6 : MetaType → Pattern → Place → Type 0
BreaksP6 result (Bind kind name p) at = (reaches_end p at ≡ true) × (can_go_on kind ≡ true) × (is_last_statement result kind p at ≡ false)
BreaksP6 result (Repeat least sep body p) at = reaches_end p at ≡ true
BreaksP6 result (Maybe intro body p) at = reaches_end p at ≡ true
BreaksP6 result _ at = ⊥

pub data Rule : Type 0 where
  P1 : Rule
  P2 : Rule
  P3 : Rule
  P4 : Rule
  P5 : Rule
  P6 : Rule

abbrev pub rule_number : Rule → ℕ
rule_number P1 = 1
rule_number P2 = 2
rule_number P3 = 3
rule_number P4 = 4
rule_number P5 = 5
rule_number P6 = 6

abbrev pub Breaks : Rule → MetaType → Site → Type 0
Breaks P1 result s = BreaksP1 s.pattern s.place
Breaks P2 result s = BreaksP2 s.pattern s.place
Breaks P3 result s = BreaksP3 s.pattern s.place
Breaks P4 result s = BreaksP4 s.pattern s.place
Breaks P5 result s = BreaksP5 s.pattern s.place
Breaks P6 result s = BreaksP6 result s.pattern s.place

abbrev pub Keeps : MetaType → Site → Type 0
Keeps result s = (rule : Rule) → ¬ Breaks rule result s

-- No element breaks a rule: one token decides everywhere.
abbrev pub IsFit : MetaType → Pattern → Type 0
IsFit result p = All (Keeps result) (sites p start)

-- the lowest rule that an element breaks
pub record IsLowest (result : MetaType) (s : Site) (number : ℕ) : Type 0 where
  pub rule : Rule
  pub is : rule_number rule ≡ number
  pub breaks : Breaks rule result s
  pub lowest : (other : Rule) → rule_number other < number → ¬ Breaks other result s

-- the lowest rule that the element breaks, if it breaks one
abbrev pub IsJudged : MetaType → Pattern → Place → Option ℕ → Type 0
IsJudged result p at answer =
    let site : Site = record { pattern = p; place = at } in MatchOption answer (Keeps result site) (λ number. IsLowest result site number)

-- The first element that breaks a rule has this number, counted from 0, and this is the lowest rule that it breaks.
pub record IsFirstBreak (result : MetaType) (all : List Site) (element number : ℕ) : Type 0 where
  pub kept : List Site
  pub site : Site
  pub others : List Site
  pub split : all ≡ kept ++ site ∷ others
  pub place : length kept ≡ element
  pub keeps : All (Keeps result) kept
  pub lowest : IsLowest result site number

-- All elements of these sites keep the rules. Where the first is element number `first`, the next after them has this number,
-- or the largest number there is.
pub record Passes (result : MetaType) (all : List Site) (first number : ℕ) : Type 0 where
  pub keeps : All (Keeps result) all
  pub next : number ≡ min (first + length all) (2 ^ 64 - 1)

-- The first element that breaks a rule has this number, or the largest number there is.
pub record Fails (result : MetaType) (all : List Site) (first number rule : ℕ) : Type 0 where
  pub place : ℕ
  pub breaks : IsFirstBreak result all place rule
  pub is : number ≡ min (first + place) (2 ^ 64 - 1)
