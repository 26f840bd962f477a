-- Facts of the table: the forms that tokens begin and go on with.
use Rattle.std.proofs.Common.{◌≡◌, refl, ℕ, nat_lt, Bool, true, false, not, ◌&&◌, ◌||◌, List, ◌∷◌, Option, Some, None}
use Rattle.c_tokens.specs.declared.token.Key.{Key}
use Rattle.c_tokens.specs.declared.token.Key.TheVariants as key
use Rattle.c_tokens.specs.declared.token.Punct.{Punct}
use Rattle.c_tokens.specs.declared.token.Punct.TheVariants as punct
use Rattle.c_tokens.specs.declared.token.Shape.{Shape}
use Rattle.c_tokens.specs.declared.token.Shape.TheVariants as shape
use Rattle.c_forms.specs.declared.pieces.Sort.{Sort}
use Rattle.c_forms.specs.declared.pieces.Sort.TheVariants as s
use Rattle.c_forms.specs.declared.pieces.Piece.{Piece}
use Rattle.c_forms.specs.declared.pieces.Piece.TheVariants.{One}
use Rattle.c_forms.specs.declared.forms.Form.{Form}
use Rattle.c_forms.specs.Measures.{level, pieces}
use Rattle.c_forms.specs.Sets.{has, starts}
use Rattle.c_forms.specs.Tokens.{begun}
use Rattle.c_reader.specs.States.{State, class}
use Rattle.c_syntax.specs.Reading.{is_starred}
use Rattle.c_syntax.specs.Grammar.{after_first, left_level, continued_by}
use Rattle.c_syntax.specs.Spells.{may_be}
use Rattle.c_syntax.proofs.Told.{is_due}
use Rattle.c_syntax.proofs.Parts.{fine_first, owned}
use Rattle.c_syntax.proofs.Nodes.{none_due, ok}

-- ---- what tokens go on with

-- the sort of the first part
abbrev pub first_sort : Sort → Sort
first_sort s.Exp = s.Exp
first_sort _ = s.InnerDeclarator

abbrev pub begins_one : Sort → List Piece → Bool
begins_one s.Exp (One s.Exp least ∷ ps) = true
begins_one s.Exp _ = false
begins_one _ (One s.InnerDeclarator least ∷ ps) = true
begins_one _ _ = false

abbrev pub tail_right : Sort → Option Form → Bool
tail_right due (Some f) = may_be due f && (is_starred f && (begins_one due (pieces f) && (none_due (after_first (pieces f)) && fine_first is_due due (after_first (pieces f)))))
tail_right due None = true

abbrev pub owned_after : Option Form → Shape → Option Shape
owned_after (Some f) x = owned f (after_first (pieces f)) x
owned_after None x = Some x

-- what is known of the forms that tokens go on with
abbrev pub Tails : Sort → Type 0
Tails due = (x : Shape) → (tail_right due (continued_by due x) ≡ true) × (owned_after (continued_by due x) x ≡ Some x)

exp_puncts : (p : Punct) → (tail_right s.Exp (continued_by s.Exp (shape.Punct p)) ≡ true) × (owned_after (continued_by s.Exp (shape.Punct p)) (shape.Punct p) ≡ Some (shape.Punct p))
exp_puncts punct.LeftBracket = (refl, refl)
exp_puncts _ = (refl, refl)

pub exp_tails : Tails s.Exp
exp_tails (shape.Punct p) = exp_puncts p
exp_tails _ = (refl, refl)

declarator_puncts : (p : Punct) → (tail_right s.Declarator (continued_by s.Declarator (shape.Punct p)) ≡ true) × (owned_after (continued_by s.Declarator (shape.Punct p)) (shape.Punct p) ≡ Some (shape.Punct p))
declarator_puncts punct.LeftBracket = (refl, refl)
declarator_puncts _ = (refl, refl)

pub declarator_tails : Tails s.Declarator
declarator_tails (shape.Punct p) = declarator_puncts p
declarator_tails _ = (refl, refl)

abstract_puncts : (p : Punct) → (tail_right s.AbstractDeclarator (continued_by s.AbstractDeclarator (shape.Punct p)) ≡ true) × (owned_after (continued_by s.AbstractDeclarator (shape.Punct p)) (shape.Punct p) ≡ Some (shape.Punct p))
abstract_puncts punct.LeftBracket = (refl, refl)
abstract_puncts _ = (refl, refl)

pub abstract_tails : Tails s.AbstractDeclarator
abstract_tails (shape.Punct p) = abstract_puncts p
abstract_tails _ = (refl, refl)

param_puncts : (p : Punct) → (tail_right s.ParamDeclarator (continued_by s.ParamDeclarator (shape.Punct p)) ≡ true) × (owned_after (continued_by s.ParamDeclarator (shape.Punct p)) (shape.Punct p) ≡ Some (shape.Punct p))
param_puncts punct.LeftBracket = (refl, refl)
param_puncts _ = (refl, refl)

pub param_tails : Tails s.ParamDeclarator
param_tails (shape.Punct p) = param_puncts p
param_tails _ = (refl, refl)

member_puncts : (p : Punct) → (tail_right s.MemberName (continued_by s.MemberName (shape.Punct p)) ≡ true) × (owned_after (continued_by s.MemberName (shape.Punct p)) (shape.Punct p) ≡ Some (shape.Punct p))
member_puncts punct.LeftBracket = (refl, refl)
member_puncts _ = (refl, refl)

pub member_tails : Tails s.MemberName
member_tails (shape.Punct p) = member_puncts p
member_tails _ = (refl, refl)

pub exp_first : (ps : List Piece) → begins_one s.Exp ps ≡ true → ps ≡ One s.Exp (left_level ps) ∷ after_first ps
exp_first (One s.Exp least ∷ ps) e = refl
exp_first _ e = absurd (cc e)

-- ---- what tokens begin

-- all levels of a sort but those of expressions are above this
abbrev pub lowest : Sort → ℕ
lowest s.Exp = 0
lowest _ = 16

abbrev pub begun_right : Sort → ℕ → Option Form → Bool
begun_right due k (Some f) = may_be due f && (nat_lt (lowest due) (level f) && fine_first (ok (is_starred f) k) due (pieces f))
begun_right due k None = true

abbrev pub owned_by : Option Form → Shape → Option Shape
owned_by (Some f) x = owned f (pieces f) x
owned_by None x = Some x

exp_begun_puncts : (p : Punct) → (begun_right s.Exp 1 (begun s.Exp (shape.Punct p)) ≡ true) × (owned_by (begun s.Exp (shape.Punct p)) (shape.Punct p) ≡ Some (shape.Punct p))
exp_begun_puncts punct.LeftBracket = (refl, refl)
exp_begun_puncts _ = (refl, refl)

exp_begun_keys : (k : Key) → (begun_right s.Exp 1 (begun s.Exp (shape.Key k)) ≡ true) × (owned_by (begun s.Exp (shape.Key k)) (shape.Key k) ≡ Some (shape.Key k))
exp_begun_keys key.Auto = (refl, refl)
exp_begun_keys _ = (refl, refl)

pub exp_begun : (x : Shape) → (begun_right s.Exp 1 (begun s.Exp x) ≡ true) × (owned_by (begun s.Exp x) x ≡ Some x)
exp_begun (shape.Punct p) = exp_begun_puncts p
exp_begun (shape.Key k) = exp_begun_keys k
exp_begun _ = (refl, refl)

stmt_begun_puncts : (p : Punct) → (begun_right s.Stmt 2 (begun s.Stmt (shape.Punct p)) ≡ true) × (owned_by (begun s.Stmt (shape.Punct p)) (shape.Punct p) ≡ Some (shape.Punct p))
stmt_begun_puncts punct.LeftBracket = (refl, refl)
stmt_begun_puncts _ = (refl, refl)

stmt_begun_keys : (k : Key) → (begun_right s.Stmt 2 (begun s.Stmt (shape.Key k)) ≡ true) × (owned_by (begun s.Stmt (shape.Key k)) (shape.Key k) ≡ Some (shape.Key k))
stmt_begun_keys key.Auto = (refl, refl)
stmt_begun_keys _ = (refl, refl)

pub stmt_begun : (x : Shape) → (begun_right s.Stmt 2 (begun s.Stmt x) ≡ true) × (owned_by (begun s.Stmt x) x ≡ Some x)
stmt_begun (shape.Punct p) = stmt_begun_puncts p
stmt_begun (shape.Key k) = stmt_begun_keys k
stmt_begun _ = (refl, refl)

spec_keys : (k : Key) → (begun_right s.Spec 0 (begun s.Spec (shape.Key k)) ≡ true) × (owned_by (begun s.Spec (shape.Key k)) (shape.Key k) ≡ Some (shape.Key k))
spec_keys key.Auto = (refl, refl)
spec_keys _ = (refl, refl)

plain_keys : (k : Key) (st : State) → ((begun_right s.PlainSpec 0 (begun s.PlainSpec (shape.Key k)) || not (has (starts s.PlainSpec) (class st (shape.Key k)))) ≡ true)
    × (owned_by (begun s.PlainSpec (shape.Key k)) (shape.Key k) ≡ Some (shape.Key k))
plain_keys key.Auto st = (refl, refl)
plain_keys _ st = (refl, refl)

qualifier_keys : (k : Key) (st : State) → ((begun_right s.Qualifier 0 (begun s.Qualifier (shape.Key k)) || not (has (starts s.Qualifier) (class st (shape.Key k)))) ≡ true)
    × (owned_by (begun s.Qualifier (shape.Key k)) (shape.Key k) ≡ Some (shape.Key k))
qualifier_keys key.Auto st = (refl, refl)
qualifier_keys _ st = (refl, refl)

by_test : (a b : Bool) → (a || not b) ≡ true → b ≡ true → a ≡ true
by_test true b h e = refl
by_test false true h e = absurd (cc h)
by_test false false h e = absurd (cc e)

-- what begins a specifier of a sort
abbrev pub SpecsOf : Sort → Type 0
SpecsOf due = (x : Shape) (st : State) → has (starts due) (class st x) ≡ true → (begun_right due 0 (begun due x) ≡ true) × (owned_by (begun due x) x ≡ Some x)

pub spec_begun : SpecsOf s.Spec
spec_begun (shape.Key k) st b = spec_keys k
spec_begun _ st b = (refl, refl)

pub plain_begun : SpecsOf s.PlainSpec
plain_begun (shape.Key k) st b = let e = plain_keys k st in (by_test _ _ e.0 b, e.1)
plain_begun _ st b = (refl, refl)

pub qualifier_begun : SpecsOf s.Qualifier
qualifier_begun (shape.Key k) st b = let e = qualifier_keys k st in (by_test _ _ e.0 b, e.1)
qualifier_begun _ st b = (refl, refl)
