-- The phrase that completes each sort and the pieces of a row, and what may follow them.
use Rattle.std.proofs.Common.{◌≡◌, refl, ap, ℕ, suc, not, Bool, true, false, ◌&&◌, nat_eq, List, [], ◌∷◌, ◌++◌}
use Rattle.std.proofs.lemmas.Bool.{or_parts, or_from}
use Rattle.c_tokens.specs.declared.token.Shape.{Shape}
use Rattle.c_tokens.specs.declared.token.Shape.TheVariants as shape
use Rattle.c_tokens.specs.declared.token.Key.TheVariants as key
use Rattle.c_tokens.specs.declared.token.Punct.TheVariants as punct
use Rattle.c_tokens.specs.declared.class.Class.{Class}
use Rattle.c_tokens.specs.declared.class.Class.TheVariants as class
use Rattle.c_tokens.specs.ClassNumbers.{class_number}
use Rattle.c_forms.specs.declared.pieces.Sort.{Sort}
use Rattle.c_forms.specs.declared.pieces.Sort.TheVariants as s
use Rattle.c_forms.specs.declared.pieces.Repetition.{Repetition}
use Rattle.c_forms.specs.declared.pieces.Repetition.TheVariants.{Due, All, Many, Spliced, Ended}
use Rattle.c_forms.specs.declared.pieces.Piece.{Piece}
use Rattle.c_forms.specs.declared.pieces.Piece.TheVariants.{Token, One, Group}
use Rattle.c_forms.specs.Sets.{Classes, has, within, goes_on, type_word}
use Rattle.c_reader.specs.States.{State, seen, happens, noted}
use Rattle.c_reader.specs.Tokens.{spot}
use Rattle.c_reader.specs.Readers.{Reader, Turn, More, Last, Body, Give, Refuse, Look, Next, Pick, Note, Bind, Fits, Call, Loop, Ask, Change}
use Rattle.c_reader.proofs.Sets.{not_true, within_lacks}
use Rattle.c_reader.proofs.Seen.{word, written, blur}
use Rattle.c_reader.proofs.Leaves.{Turned}
use Rattle.c_reader.proofs.Phrases.{Tokens, but, Opens, fin_fewer, begun_fewer, opens_but}
use Rattle.c_reader.proofs.Live.{Calls, Live}
use Rattle.c_syntax.specs.Reading.{inside}

-- ---- phrases

abbrev pub a_word : Shape
a_word = shape.Word (record { 0 = 0 })

-- The phrase that completes a sort; nothing for what may be absent. A qualifier may stand beside every specifier.
abbrev pub phrase : Sort → List Shape
phrase s.Exp = a_word ∷ []
phrase s.Id = a_word ∷ []
phrase s.DeclaredId = a_word ∷ []
phrase s.ParameterId = a_word ∷ []
phrase s.EnumeratorId = a_word ∷ []
phrase s.Declarator = a_word ∷ []
phrase s.Init = a_word ∷ []
phrase s.InitDeclarator = a_word ∷ []
phrase s.Enumerator = a_word ∷ []
phrase s.PlainSpec = shape.Key key.Const ∷ []
phrase s.Spec = shape.Key key.Const ∷ []
phrase s.Qualifier = shape.Key key.Const ∷ []
phrase s.TypeName = shape.Key key.Const ∷ []
phrase s.Param = shape.Key key.Const ∷ []
phrase s.Width = shape.Punct punct.Colon ∷ (a_word ∷ [])
phrase s.MemberDeclarator = shape.Punct punct.Colon ∷ (a_word ∷ [])
phrase s.Member = shape.Key key.Const ∷ (shape.Punct punct.Colon ∷ (a_word ∷ (shape.Punct punct.Semicolon ∷ [])))
phrase s.Members = shape.Punct punct.LeftBrace ∷ (shape.Key key.Const ∷ (shape.Punct punct.Colon ∷ (a_word ∷ (shape.Punct punct.Semicolon ∷ (shape.Punct punct.RightBrace ∷ [])))))
phrase s.Enumerators = shape.Punct punct.LeftBrace ∷ (a_word ∷ (shape.Punct punct.RightBrace ∷ []))
phrase s.Stmt = shape.Punct punct.Semicolon ∷ []
phrase s.BlockItem = shape.Punct punct.Semicolon ∷ []
phrase s.Decl = shape.Key key.Const ∷ (shape.Punct punct.Semicolon ∷ [])
phrase s.Literal = shape.Str (record { 0 = 0 }) ∷ []
phrase s.Initializer = shape.Punct punct.Equal ∷ (a_word ∷ [])
phrase s.EnumeratorValue = shape.Punct punct.Equal ∷ (a_word ∷ [])
phrase s.ElsePart = shape.Key key.Else ∷ (shape.Punct punct.Semicolon ∷ [])
phrase s.Block = shape.Punct punct.LeftBrace ∷ (shape.Punct punct.RightBrace ∷ [])
phrase _ = []

abbrev pub shape_of : Class → Shape
shape_of (class.Key k) = shape.Key k
shape_of (class.Punct p) = shape.Punct p
shape_of _ = shape.End

-- whether it is a key word or punctuator
abbrev pub shape_class_of : Class → Bool
shape_class_of (class.Key k) = true
shape_class_of (class.Punct p) = true
shape_class_of _ = false

abbrev pub by_least : Bool → List Shape → List Shape
by_least true u = u
by_least false u = []

-- what the elements of a repetition need
abbrev pub group_phrase : Repetition → Sort → List Shape
group_phrase Due due = phrase due
group_phrase All due = phrase due
group_phrase (Ended separator end_token) due = phrase due
group_phrase (Many separator least) due = by_least (nat_eq least 1) (phrase due)
group_phrase (Spliced separator least) due = by_least (nat_eq least 1) (phrase due)
group_phrase _ due = []

-- the phrase that completes the pieces of a form that is read as a sort
abbrev pub pieces_phrase : Sort → List Piece → List Shape
pieces_phrase own [] = []
pieces_phrase own (Token c ∷ ps) = shape_of c ∷ pieces_phrase own ps
pieces_phrase own (One due least ∷ ps) = phrase (inside own due) ++ pieces_phrase own ps
pieces_phrase own (Group r due least ∷ ps) = group_phrase r due ++ pieces_phrase own ps
pieces_phrase own (p ∷ ps) = pieces_phrase own ps

-- ---- what may follow

-- the tokens that are seen as none of a set, whatever the state
abbrev pub none_of : Classes → Tokens
none_of set = but (blur set)

-- What may go on with a tree of a sort where it stands: an `else` does with a statement.
abbrev pub past : Sort → ℕ → Classes
past s.Stmt least = class_number (class.Key key.Else) ∷ []
past s.BlockItem least = class_number (class.Key key.Else) ∷ []
past s.ElsePart least = class_number (class.Key key.Else) ∷ []
past due least = goes_on due least

-- whether what opens a phrase, or what follows where it is empty, is none of a set
abbrev pub opens_so : Classes → List Shape → Classes → Bool
opens_so set [] past = within set past
opens_so set (x ∷ u) past = not (blur set (written x))

blur_within : (a b : Classes) (c : ℕ) → within a b ≡ true → blur b c ≡ false → blur a c ≡ false
blur_within a b c w h = let k = or_parts (has b c) (nat_eq c word && has b type_word) h in or_from (has a c) (nat_eq c word && has a type_word) (within_lacks a b c w k.0) (by_word (nat_eq c word) k.1)
  where
    by_word : (e : Bool) → (e && has b type_word) ≡ false → (e && has a type_word) ≡ false
    by_word true h = within_lacks a b type_word w h
    by_word false h = refl

-- fewer tokens are of no larger set
pub none_within : (a b : Classes) (x : Shape) → within a b ≡ true → none_of b x ≡ true → none_of a x ≡ true
none_within a b x w h = ap not (blur_within a b (written x) w (not_true (blur b (written x)) h))

pub opens_if : (set : Classes) (u : List Shape) (past : Classes) → opens_so set u past ≡ true → Opens (none_of set) u (none_of past)
opens_if set [] past h = λ x q. none_within set past x h q
opens_if set (x ∷ u) past h = opens_but (blur set) x u (none_of past) (not_true (blur set (written x)) h)

-- what is live where more tokens may follow, and more holds, is live where fewer may and less does
pub live_weaker : {A : Type 0} (body : Body) (calls : Calls) (deep : ℕ) (z : State) (y : Shape) (P Q : Tokens) (K J : A → State → Type 0) (r : Reader A) → ((x : Shape) → Q x ≡ true → P x ≡ true) → ((a : A) (t : State) → K a t → J a t) → Live body calls deep z y P K r → Live body calls deep z y Q J r
live_weaker body calls deep z y P Q K J (Give a) up so L = tt
live_weaker body calls deep z y P Q K J Refuse up so L = tt
live_weaker body calls deep z y P Q K J (Look f) up so L = live_weaker body calls deep z y P Q K J (f (seen z y)) up so L
live_weaker body calls deep z y P Q K J (Next r) up so L = (record { tokens = L.0.tokens; finishes = fin_fewer body z P Q K J r L.0.tokens up so L.0.finishes }, λ x. live_weaker body calls deep z x P Q K J r up so (L.1 x))
live_weaker body calls deep z y P Q K J (Pick f) up so L = ((λ a e. so a z (L.0 a e)), tt)
live_weaker body calls deep z y P Q K J (Note f) up so L = ((λ a e. so a (noted y z) (L.0 a e)), tt)
live_weaker body calls deep z y P Q K J (Bind r f) up so L = (
  L.0,
  (
    L.1.0,
    (
      L.1.1.0,
      (
        L.1.1.1.0,
        (
          L.1.1.1.1.0,
          (
            record { tokens = L.1.1.1.1.1.0.tokens; opens = fewer_opens L.0 P Q L.1.1.1.1.1.0.tokens up L.1.1.1.1.1.0.opens; finishes = λ b t k. fin_fewer body t P Q K J (f b) L.1.1.1.1.1.0.tokens up so (L.1.1.1.1.1.0.finishes b t k) },
            λ b t x k. live_weaker body calls deep t x P Q K J (f b) up so (L.1.1.1.1.1.1 b t x k),
          ),
        ),
      ),
    ),
  ),
)
  where
    fewer_opens : (O P Q : Tokens) (u : List Shape) → ((x : Shape) → Q x ≡ true → P x ≡ true) → Opens O u P → Opens O u Q
    fewer_opens O P Q [] up o = λ x q. o x (up x q)
    fewer_opens O P Q (x ∷ u) up o = o
live_weaker body calls deep z y P Q K J (Fits h r) up so L = (begun_fewer body z y P Q K J r up so L.0, live_weaker body calls (suc h) z y P Q K J r up so L.1)
live_weaker body calls deep z y P Q K J (Call n) up so L = (L.0, (L.1.0, ((λ x q. L.1.1.0 x (up x q)), ((λ a t m. so a t (L.1.1.1.0 a t m)), tt))))
live_weaker {A = A} body calls deep z y P Q K J (Loop {S = S} f t) up so L = (
  L.0,
  (
    L.1.0,
    (
      L.1.1.0,
      ((λ t z x k. live_weaker body calls deep z x P Q (Turned L.1.0 K) (Turned L.1.0 J) (f t) up turned (L.1.1.1.0 t z x k)), (L.1.1.1.1.0, λ t z k. fin_fewer body z P Q K J (Loop f t) [] up so (L.1.1.1.1.1 t z k))),
    ),
  ),
)
  where
    turned : (r : Turn S A) (t : State) → Turned L.1.0 K r t → Turned L.1.0 J r t
    turned (More u) t k = k
    turned (Last x) t k = so x t k
live_weaker body calls deep z y P Q K J (Ask f) up so L = λ place. live_weaker body calls deep z y P Q K J (f (spot place z)) up so (L place)
live_weaker body calls deep z y P Q K J (Change e r) up so L = live_weaker body calls deep (happens e z) y P Q K J r up so L

pub live_fewer : {A : Type 0} (body : Body) (calls : Calls) (deep : ℕ) (z : State) (y : Shape) (P Q : Tokens) (J : A → State → Type 0) (r : Reader A) → ((x : Shape) → Q x ≡ true → P x ≡ true) → Live body calls deep z y P J r → Live body calls deep z y Q J r
live_fewer body calls deep z y P Q J r up L = live_weaker body calls deep z y P Q J J r up (λ a t k. k) L

-- a token of a row is written as its class
pub token_written : (c : Class) → shape_class_of c ≡ true → written (shape_of c) ≡ class_number c
token_written (class.Key k) h = refl
token_written (class.Punct p) h = refl
token_written _ h = absurd (cc h)
