-- A row is walked through with what is known of the declaration: what it does is computed.
use Rattle.std.proofs.Common.{◌≡◌, Bool, true, false, not, ◌&&◌, List, [], ◌∷◌, None}
use Rattle.c_forms.specs.declared.pieces.Event.{Event}
use Rattle.c_forms.specs.declared.pieces.Event.TheVariants as event
use Rattle.c_forms.specs.declared.pieces.Sort.{Sort}
use Rattle.c_forms.specs.declared.pieces.Sort.TheVariants as s
use Rattle.c_forms.specs.declared.pieces.Piece.{Piece}
use Rattle.c_forms.specs.declared.pieces.Piece.TheVariants.{Token, Maybe, Own, One, Group, Then}
use Rattle.c_forms.specs.declared.forms.Form.{Form}
use Rattle.c_forms.specs.Rules.{is_type, is_sole}
use Rattle.c_reader.specs.States.{Kept}
use Rattle.c_syntax.specs.Reading.{inside}
use Rattle.spelled_trees.specs.Effects.{Need, NoMatter, Anew, Unnamed, needs, IsNew, Does, Keeps, Renews, LeavesName, Changes, does, is_plain_sort}

-- what is known of what a declaration has, where something was kept at first
pub data Know : Type 0 where
  -- the same, or that after something that happened
  Same : Know
  Typedefed : Know
  Typed : Know
  Sole : Know
  New : Know
  Nameless : Know
  Something : Know

abbrev pub Knows : Know → Kept → Kept → Type 0
Knows Same first now = now ≡ first
Knows Typedefed first now = now ≡ record first { is_typedef = true }
Knows Typed first now = now ≡ record first { has_type = true }
Knows Sole first now = now ≡ record first { has_type = true; is_sole = true }
Knows New first now = IsNew now
Knows Nameless first now = now.name ≡ None
Knows Something first now = Unit {0}

abbrev pub is_new : Know → Bool
is_new New = true
is_new k = false

abbrev pub is_nameless : Know → Bool
is_nameless New = true
is_nameless Nameless = true
is_nameless k = false

abbrev pub is_same : Know → Bool
is_same Same = true
is_same k = false

abbrev pub meets : Need → Know → Bool
meets NoMatter k = true
meets Anew k = is_new k
meets Unnamed k = is_nameless k

abbrev pub named_as_before : Know → Know
named_as_before New = Nameless
named_as_before Nameless = Nameless
named_as_before k = Something

abbrev pub after : Does → Know → Know
after Keeps k = k
after Renews k = k
after LeavesName k = named_as_before k
after Changes k = Something

-- where a renewing sort stands, all is new
abbrev pub is_met : Does → Know → Bool
is_met Renews k = is_new k
is_met d k = true

-- when something stands next to a name
abbrev pub blurred : Know → Know
blurred New = New
blurred Nameless = Nameless
blurred k = Something

abbrev pub marked : Know → Know → Know
marked Same k = k
marked other k = Something

-- what the knowledge of a specifier says of its form
abbrev pub specifies : Know → Form → Bool
specifies Same f = not (is_type f) && not (is_sole f)
specifies Typedefed f = not (is_type f) && not (is_sole f)
specifies Typed f = is_type f && not (is_sole f)
specifies Sole f = is_type f && is_sole f
specifies k f = false

abbrev pub ends_as : Does → Need → Know → Bool
ends_as Keeps n k = is_same k
ends_as Renews n k = is_new k
ends_as LeavesName Unnamed k = is_nameless k
ends_as LeavesName n k = false
ends_as Changes n k = true

abbrev pub ends : Sort → Form → Know → Bool
ends s.Spec f k = specifies k f
ends s.PlainSpec f k = specifies k f
ends own f k = ends_as (does own) (needs own) k

abbrev pub starts_as : Need → Know
starts_as NoMatter = Same
starts_as Anew = New
starts_as Unnamed = Nameless

abbrev is_none : List Know → Bool
is_none [] = true
is_none (k ∷ ks) = false

abbrev top : List Know → Know
top [] = Something
top (k ∷ ks) = k

abbrev under : List Know → List Know
under [] = []
under (k ∷ ks) = ks

abbrev pub now_after : Event → Know → List Know → Know
now_after event.Begin k ks = New
now_after event.Typedef k ks = marked k Typedefed
now_after event.Typed k ks = marked k Typed
now_after event.SoleType k ks = marked k Sole
now_after event.Aside k ks = New
now_after event.Resume k ks = top ks
now_after event.Seal k ks = blurred k
now_after event.Close k ks = blurred (top ks)
now_after event.FunctionDue k ks = blurred k
now_after event.Open k ks = New
now_after event.Shut k ks = New
now_after e k ks = k

abbrev pub aside_after : Event → Know → List Know → List Know
aside_after event.Aside k ks = k ∷ ks
aside_after event.Resume k ks = under ks
aside_after event.Close k ks = under ks
aside_after e k ks = ks

-- whether it may happen
abbrev pub is_fit : Event → List Know → Bool
is_fit event.Resume ks = not (is_none ks)
is_fit event.Close ks = not (is_none ks)
is_fit e ks = true

-- whether a sort may stand where so much is known
abbrev pub is_due : Sort → Know → Bool
is_due due k = is_plain_sort due && meets (needs due) k && is_met (does due) k

abbrev pub walks : Sort → Form → Know → List Know → List Piece → Bool
walks own f k ks [] = is_none ks && ends own f k
walks own f k ks (Token c ∷ ps) = walks own f k ks ps
walks own f k ks (Maybe c ∷ ps) = walks own f k ks ps
walks own f k ks (Own ∷ ps) = walks own f k ks ps
walks own f k ks (One due least ∷ ps) = is_due (inside own due) k && walks own f (after (does (inside own due)) k) ks ps
walks own f k ks (Group r due least ∷ ps) = is_due due k && is_due due (after (does due) k) && walks own f (after (does due) k) ks ps
walks own f k ks (Then e ∷ ps) = is_fit e ks && walks own f (now_after e k ks) (aside_after e k ks) ps
walks own f k ks (p ∷ ps) = false
