-- Patterns as lists of elements: what they begin with, what goes on with them, and what may follow each element.
use Rattle.std.specs.Prelude.{ℕ, Bool, true, false, ◌&&◌, ◌||◌, nat_eq, nat_le, List, [], ◌∷◌, ◌++◌, Option, Some, None}
use Rattle.c_tokens.specs.declared.token.Token.{Token}
use Rattle.c_tokens.specs.declared.token.Shape.{Shape}
use Rattle.c_tokens.specs.declared.token.Shape.TheVariants as s
use Rattle.c_tokens.specs.declared.token.Word.{Word}
use Rattle.c_tokens.specs.declared.kind.Kind.{Kind}
use Rattle.c_tokens.specs.declared.class.Class.{Class}
use Rattle.c_tokens.specs.declared.element.Element.{Element, fold-Element}
use Rattle.c_tokens.specs.declared.element.Element.TheOpen.{Element-F}
use Rattle.c_tokens.specs.ClassOf.{class_of}
use Rattle.pattern_language.specs.Classes.{Classes, only}
use Rattle.pattern_language.specs.Kinds.{first, cont}

-- an element, and the elements after it in its list
pub data Pattern : Type 0 where
  Done : Pattern
  Literal : Token → Pattern → Pattern
  Bind : Kind → Word → Pattern → Pattern
  -- how often at least, the separator, and the body
  Repeat : ℕ → Option Token → Pattern → Pattern → Pattern
  -- the intro and the body
  Maybe : Token → Pattern → Pattern → Pattern

abbrev pub token_class : Token → Class
token_class t = class_of t.shape

-- ---- the elements that the program keeps

abbrev pub after_all : List (Pattern → Pattern) → Pattern → Pattern
after_all [] p = p
after_all (f ∷ fs) p = f (after_all fs p)

abbrev pub before : Element-F (Pattern → Pattern) → Pattern → Pattern
before (Element-F.Literal t) p = Literal t p
before (Element-F.Bind kind name span) p = Bind kind name p
before (Element-F.Repeat least sep body span) p = Repeat least sep (after_all body Done) p
before (Element-F.Maybe intro body span) p = Maybe intro (after_all body Done) p

-- an element before a pattern
unfoldable pub element : Element → Pattern → Pattern
element e = fold-Element (Pattern → Pattern) before e

unfoldable pub pattern_of : List Element → Pattern
pattern_of [] = Done
pattern_of (e ∷ es) = element e (pattern_of es)

-- ---- what it begins with, and what goes on with it

-- it can be spelled by no token
unfoldable pub can_be_empty : Pattern → Bool
can_be_empty Done = true
can_be_empty (Literal t p) = false
can_be_empty (Bind kind name p) = false
can_be_empty (Repeat least sep body p) = nat_eq least 0 && can_be_empty p
can_be_empty (Maybe intro body p) = can_be_empty p

-- First of a list of elements
unfoldable pub first_of : Pattern → Classes
first_of Done c = false
first_of (Literal t p) c = only (token_class t) c
first_of (Bind kind name p) c = first kind c
first_of (Repeat least sep body p) c = first_of body c || (nat_eq least 0 && first_of p c)
first_of (Maybe intro body p) c = only (token_class intro) c || first_of p c

-- what may stand after a turn of a repetition with this separator and this body
abbrev pub between : Option Token → Pattern → Classes
between (Some sep) body = only (token_class sep)
between None body = first_of body

-- Cont of a list of elements: what may go on with the elements after which the others can be empty
unfoldable pub cont_of : Pattern → Classes
cont_of Done c = false
cont_of (Literal t p) c = cont_of p c
cont_of (Bind kind name p) c = (can_be_empty p && cont kind c) || cont_of p c
cont_of (Repeat least sep body p) c = (can_be_empty p && (cont_of body c || between sep body c)) || cont_of p c
cont_of (Maybe intro body p) c = (can_be_empty p && (cont_of body c || only (token_class intro) c)) || cont_of p c

-- the names of the binders in the order of writing
unfoldable pub names : Pattern → List Word
names Done = []
names (Literal t p) = names p
names (Bind kind name p) = name ∷ names p
names (Repeat least sep body p) = names body ++ names p
names (Maybe intro body p) = names body ++ names p

-- one of the names is this word
unfoldable pub is_among : List Word → Word → Bool
is_among [] w = false
is_among (name ∷ others) w = nat_eq name.0 w.0 || is_among others w

-- some element is a binder, at any depth
unfoldable pub holds_binder : Pattern → Bool
holds_binder Done = false
holds_binder (Literal t p) = holds_binder p
holds_binder (Bind kind name p) = true
holds_binder (Repeat least sep body p) = holds_binder body || holds_binder p
holds_binder (Maybe intro body p) = holds_binder body || holds_binder p

-- it is a keyword, a punctuator or a word
abbrev pub is_spelled : Shape → Bool
is_spelled (s.Key k) = true
is_spelled (s.Punct p) = true
is_spelled (s.Word w) = true
is_spelled _ = false

abbrev pub is_separator : Option Token → Bool
is_separator None = true
is_separator (Some sep) = is_spelled sep.shape

-- each literal, separator and intro is a keyword, a punctuator or a word, and each repetition is written for none or one at least
unfoldable pub is_plain : Pattern → Bool
is_plain Done = true
is_plain (Literal t p) = is_spelled t.shape && is_plain p
is_plain (Bind kind name p) = is_plain p
is_plain (Repeat least sep body p) = nat_le least 1 && is_separator sep && is_plain body && is_plain p
is_plain (Maybe intro body p) = is_spelled intro.shape && is_plain body && is_plain p
