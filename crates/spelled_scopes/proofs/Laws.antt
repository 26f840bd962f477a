-- What reading a tree of each sort does: the events that hold, and what becomes of the declaration that stands there.
use Rattle.std.proofs.Common.{◌≡◌, refl, ap, sym, ◌∙◌, ℕ, ◌||◌, Bool, true, false, List, [], ◌∷◌, ◌++◌, Option, Some, None}
use Rattle.c_tokens.specs.declared.span.Span.{Span}
use Rattle.c_tokens.specs.declared.token.Word.{Word}
use Rattle.c_forms.specs.declared.pieces.Sort.{Sort}
use Rattle.c_forms.specs.declared.pieces.Sort.TheVariants as s
use Rattle.c_forms.specs.declared.forms.Form.TheVariants as form
use Rattle.c_forms.specs.Forests.{Plain, forest, node}
use Rattle.c_forms.specs.Rules.{is_name}
use Rattle.c_forms.specs.Rules as Rules
use Rattle.c_reader.specs.States.{State, Bare, AsValue, nothing_kept, is_type, parameters, is_bare}
use Rattle.scope_tables.specs.declared.table.WordClass.{WordClass}
use Rattle.scope_tables.specs.Frames.{Frame, class_named, left}
use Rattle.scope_meanings.specs.declared.meaning.NameUse.{NameUse}
use Rattle.scope_meanings.specs.declared.meaning.NameUse.TheVariants as naming
use Rattle.scope_meanings.specs.declared.meaning.Name.{Name}
use Rattle.scope_meanings.specs.Meanings.{is_typedef, has_type, has_typedef, checked_if, name_in}
use Rattle.scopes.specs.declared.event.Event.{Event}
use Rattle.scopes.specs.Events.{checked, declared, beside_name, words_of_params}
use Rattle.scopes.specs.Events as Events
use Rattle.scopes.specs.Settling.{Scoped, settled}
use Rattle.spelled_scopes.specs.Meant.{frames, after_words, events_in, words_in, Goes}
use Rattle.spelled_scopes.proofs.Joined.{still, goes_on}

-- ---- trees side by side

-- where no declaration is begun, and none is after them
abbrev pub Says : NameUse → List Plain → State → State → Type 0
Says u ts s m = s.kept ≡ nothing_kept → Goes u ts s m × (m.kept ≡ nothing_kept)

-- whatever is begun stays as it is
abbrev pub Keeps : List Plain → State → State → Type 0
Keeps ts s m = ((u : NameUse) → Goes u ts s m) × (m.kept ≡ s.kept)

-- qualifiers
abbrev pub Passes : List Plain → State → State → Type 0
Passes ts s m = Keeps ts s m × (m.entries ≡ s.entries)

-- whatever is begun
abbrev pub Lists : List Plain → State → State → Type 0
Lists ts s m = (u : NameUse) → Goes u ts s m

-- specifiers
pub record Specifies (ts : List Plain) (s m : State) : Type 0 where
  pub goes : (u : NameUse) → Goes u ts s m
  pub has : m.kept.has_type ≡ (s.kept.has_type || has_type (forest ts))
  pub typedef : m.kept.is_typedef ≡ (s.kept.is_typedef || has_typedef (forest ts))
  pub name : m.kept.name ≡ s.kept.name

-- declarators of members
abbrev pub Members : List Plain → State → State → Type 0
Members ts s m = (b : Bool) → (b ≡ true → s.kept.has_type ≡ false) → Goes (checked_if b) ts s m × (m.kept.has_type ≡ s.kept.has_type)

-- declarators with their initializers
abbrev pub Inits : List Plain → State → State → Type 0
Inits ts s m = (c : WordClass) (b : Bool) → (b ≡ true → s.kept.has_type ≡ false) → class_named s.kept.is_typedef ≡ c
    → Goes (naming.Declared c b) ts s m × ((m.kept.has_type ≡ s.kept.has_type) × (m.kept.is_typedef ≡ s.kept.is_typedef))

-- ---- one tree

abbrev pub number_or : Option Name → Option ℕ → Option ℕ
number_or (Some name) before = Some name.word.0
number_or None before = before

-- a declarator
pub record Names (t : Plain) (s m : State) : Type 0 where
  pub silent : Goes naming.Nothing (t ∷ []) s m
  pub asked : s.kept.has_type ≡ false → Goes naming.Checked (t ∷ []) s m
  -- its name is declared after it
  pub later : (c : WordClass) (b : Bool) → events_in (naming.Declared c b) (t ∷ []) ≡ events_in (checked_if b) (t ∷ []) ++ declared c (name_in (forest (t ∷ [])))
  pub later_words : (c : WordClass) (b : Bool) → words_in (naming.Declared c b) (t ∷ []) ≡ words_in (checked_if b) (t ∷ []) ++ declared c (name_in (forest (t ∷ [])))
  pub has : m.kept.has_type ≡ s.kept.has_type
  pub typedef : m.kept.is_typedef ≡ s.kept.is_typedef
  pub name : m.kept.name ≡ number_or (name_in (forest (t ∷ []))) s.kept.name
  -- its name is a value where it begins
  pub at_first : s.kept.has_type ≡ false → settled (checked (name_in (forest (t ∷ [])))) (frames s.entries) ≡ Scoped (frames s.entries)

-- what stands next to its name, where it has one
pub record Nears (t : Plain) (m : State) : Type 0 where
  pub words : parameters m.kept.near ≡ after_words (beside_name (forest (t ∷ []))) []
  pub bare : is_bare m.kept.near ≡ is_name (forest (t ∷ []))
  pub called : Name
  pub is_called : name_in (forest (t ∷ [])) ≡ Some called

-- the parameters of a function, in their scope
pub record Ends (events : List Event) (s m : State) : Type 0 where
  pub last : List Frame
  pub scoped : settled events (frames s.entries) ≡ Scoped last
  pub same : left last ≡ left (frames m.entries)

pub record Parameters (t : Plain) (s m : State) : Type 0 where
  pub inner : List Event
  -- they are a scope of their own
  pub events : (u : NameUse) → events_in u (t ∷ []) ≡ (Events.scope inner ++ [])
  pub no_words : (u : NameUse) → words_in u (t ∷ []) ≡ []
  pub ends : s.kept ≡ nothing_kept → Ends inner s m
  pub declared : s.kept ≡ nothing_kept → m.entries ≡ after_words (words_of_params (forest (t ∷ []))) s.entries
  pub aside : s.kept ≡ nothing_kept → m.aside ≡ s.aside
  -- they are no declarator
  pub no_name : name_in (forest (t ∷ [])) ≡ None
  pub beside : beside_name (forest (t ∷ [])) ≡ []

-- an identifier
pub record Noted (t : Plain) (s m : State) : Type 0 where
  pub word : Word
  pub span : Span
  pub value : t ≡ node (form.Id word) span []
  pub entries : m.entries ≡ s.entries
  pub aside : m.aside ≡ s.aside
  pub name : m.kept.name ≡ Some word.0

-- the name of a declarator
pub record Named (t : Plain) (s m : State) : Type 0 where
  pub noted : Noted t s m
  pub near : m.kept.near ≡ Bare
  pub has : m.kept.has_type ≡ s.kept.has_type
  pub typedef : m.kept.is_typedef ≡ s.kept.is_typedef
  pub is_value : s.kept.has_type ≡ false → is_type s.entries noted.word.0 ≡ false

-- an identifier of an identifier list
pub record Listed (t : Plain) (s m : State) : Type 0 where
  pub word : Word
  pub span : Span
  pub value : t ≡ node (form.Id word) span []
  pub entries : m.entries ≡ AsValue word.0 ∷ s.entries
  pub aside : m.aside ≡ s.aside
  pub has : m.kept.has_type ≡ s.kept.has_type
  pub is_value : s.kept.has_type ≡ false → is_type s.entries word.0 ≡ false

-- an item
pub record Finishes (t : Plain) (s m : State) : Type 0 where
  pub scoped : (u : NameUse) → settled (events_in u (t ∷ [])) (frames s.entries) ≡ Scoped (frames m.entries)
  pub aside : m.aside ≡ s.aside
  pub free : m.kept ≡ nothing_kept

-- ---- each sort

abbrev pub Law : Sort → Plain → State → State → Type 0
Law s.Exp t i j = (u : NameUse) → Says u (t ∷ []) i j
Law s.Id t i j = Says naming.Nothing (t ∷ []) i j
Law s.DeclaredId t i j = Named t i j
Law s.ParameterId t i j = Listed t i j
Law s.EnumeratorId t i j = Noted t i j
Law s.Literal t i j = (u : NameUse) → Says u (t ∷ []) i j
Law s.TypeName t i j = i.kept ≡ nothing_kept → Lists (t ∷ []) i j
Law s.Spec t i j = Specifies (t ∷ []) i j
Law s.PlainSpec t i j = Specifies (t ∷ []) i j
Law s.Qualifier t i j = Passes (t ∷ []) i j
Law s.Member t i j = (u : NameUse) → Says u (t ∷ []) i j
Law s.Enumerator t i j = Lists (t ∷ []) i j
Law s.Declarator t i j = Names t i j × Nears t j
Law s.AbstractDeclarator t i j = Names t i j
Law s.ParamDeclarator t i j = Names t i j
Law s.MemberName t i j = Names t i j
Law s.InnerDeclarator t i j = Names t i j
Law s.Params t i j = Parameters t i j
Law s.Param t i j = (u : NameUse) → Says u (t ∷ []) i j
Law s.Init t i j = (u : NameUse) → Says u (t ∷ []) i j
Law s.Decl t i j = (u : NameUse) → Says u (t ∷ []) i j
Law s.Stmt t i j = (u : NameUse) → Says u (t ∷ []) i j
Law s.Block t i j = ((u : NameUse) → Says u (t ∷ []) i j) × (beside_name (forest (t ∷ [])) ≡ [])
Law s.BlockItem t i j = (u : NameUse) → Says u (t ∷ []) i j
Law s.Item t i j = i.kept ≡ nothing_kept → Finishes t i j
Law s.InitDeclarator t i j = Inits (t ∷ []) i j
Law s.Initializer t i j = Keeps (t ∷ []) i j
Law s.MemberDeclarator t i j = Members (t ∷ []) i j
Law s.Width t i j = Keeps (t ∷ []) i j
Law s.Members t i j = (u : NameUse) → Says u (t ∷ []) i j
Law s.Enumerators t i j = Lists (t ∷ []) i j
Law s.EnumeratorValue t i j = Keeps (t ∷ []) i j
Law s.ElsePart t i j = (u : NameUse) → Says u (t ∷ []) i j
Law _ t i j = Unit {0}

-- ---- one list after another

pub says_none : (u : NameUse) (s : State) → Says u [] s s
says_none u s = λ f. (still s s refl, f)

pub says_on : (u : NameUse) (ts vs : List Plain) (s m z : State) → Says u ts s m → Says u vs m z → Says u (ts ++ vs) s z
says_on u ts vs s m z p q = λ f. let x = p f in let y = q x.1 in (goes_on u ts vs s m z x.0 y.0, y.1)

pub keeps_none : (s : State) → Keeps [] s s
keeps_none s = (λ u. still s s refl, refl)

pub keeps_on : (ts vs : List Plain) (s m z : State) → Keeps ts s m → Keeps vs m z → Keeps (ts ++ vs) s z
keeps_on ts vs s m z p q = (λ u. goes_on u ts vs s m z (p.0 u) (q.0 u), q.1 ∙ p.1)

pub passes_none : (s : State) → Passes [] s s
passes_none s = (keeps_none s, refl)

pub passes_on : (ts vs : List Plain) (s m z : State) → Passes ts s m → Passes vs m z → Passes (ts ++ vs) s z
passes_on ts vs s m z p q = (keeps_on ts vs s m z p.0 q.0, q.1 ∙ p.1)

pub lists_none : (s : State) → Lists [] s s
lists_none s = λ u. still s s refl

pub lists_on : (ts vs : List Plain) (s m z : State) → Lists ts s m → Lists vs m z → Lists (ts ++ vs) s z
lists_on ts vs s m z p q = λ u. goes_on u ts vs s m z (p u) (q u)

pub or_none : (a : Bool) → a ≡ (a || false)
or_none true = refl
or_none false = refl

or_assoc : (a b c : Bool) → ((a || b) || c) ≡ (a || (b || c))
or_assoc true b c = refl
or_assoc false b c = refl

has_joined : (ts vs : List Plain) → has_type (forest (ts ++ vs)) ≡ (has_type (forest ts) || has_type (forest vs))
has_joined [] vs = refl
has_joined (t ∷ ts) vs = ap (λ b. Rules.is_type t.form || b) (has_joined ts vs) ∙ sym (or_assoc (Rules.is_type t.form) (has_type (forest ts)) (has_type (forest vs)))

typedef_joined : (ts vs : List Plain) → has_typedef (forest (ts ++ vs)) ≡ (has_typedef (forest ts) || has_typedef (forest vs))
typedef_joined [] vs = refl
typedef_joined (t ∷ ts) vs = ap (λ b. is_typedef t.form || b) (typedef_joined ts vs) ∙ sym (or_assoc (is_typedef t.form) (has_typedef (forest ts)) (has_typedef (forest vs)))

pub specifies_none : (s : State) → Specifies [] s s
specifies_none s = record { goes = λ u. still s s refl; has = or_none s.kept.has_type; typedef = or_none s.kept.is_typedef; name = refl }

pub specifies_on : (ts vs : List Plain) (s m z : State) → Specifies ts s m → Specifies vs m z → Specifies (ts ++ vs) s z
specifies_on ts vs s m z p q = record {
  goes = λ u. goes_on u ts vs s m z (p.goes u) (q.goes u);
  has = q.has ∙ ap (λ b. b || has_type (forest vs)) p.has ∙ or_assoc s.kept.has_type (has_type (forest ts)) (has_type (forest vs)) ∙ ap (λ b. s.kept.has_type || b) (sym (has_joined ts vs));
  typedef = q.typedef ∙ ap (λ b. b || has_typedef (forest vs)) p.typedef ∙ or_assoc s.kept.is_typedef (has_typedef (forest ts)) (has_typedef (forest vs)) ∙ ap (λ b. s.kept.is_typedef || b) (sym (typedef_joined ts vs));
  name = q.name ∙ p.name;
}

pub members_none : (s : State) → Members [] s s
members_none s = λ b f. (still s s refl, refl)

pub members_on : (ts vs : List Plain) (s m z : State) → Members ts s m → Members vs m z → Members (ts ++ vs) s z
members_on ts vs s m z p q = λ b f.
    let x = p b f in
    let y = q b (λ e. x.1 ∙ f e) in
    (goes_on (checked_if b) ts vs s m z x.0 y.0, y.1 ∙ x.1)

pub inits_none : (s : State) → Inits [] s s
inits_none s = λ c b f g. (still s s refl, (refl, refl))

pub inits_on : (ts vs : List Plain) (s m z : State) → Inits ts s m → Inits vs m z → Inits (ts ++ vs) s z
inits_on ts vs s m z p q = λ c b f g.
    let x = p c b f g in
    let y = q c b (λ e. x.1.0 ∙ f e) (ap class_named x.1.1 ∙ g) in
    (goes_on (naming.Declared c b) ts vs s m z x.0 y.0, (y.1.0 ∙ x.1.0, y.1.1 ∙ x.1.1))
