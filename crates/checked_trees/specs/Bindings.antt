-- What the binders of a macro's pattern are bound to in a call. The parts of a call stand in the order of writing: one
-- tree for a binder, and one node for a repetition or an option, over its rounds. A round of a body with one part is that
-- part, and a round of any other body is a row of its parts. A binder inside is bound to the list of what it matched.
use Rattle.std.specs.Prelude.{ℕ, zero, suc, ◌+◌, ◌-◌, nat_eq, nat_lt, Bool, false, if◌then◌else◌, List, [], ◌∷◌, ◌++◌, Option, Some, None}
use Rattle.c_tokens.specs.declared.element.Element.{Element}
use Rattle.pattern_language.specs.Patterns.{Pattern, Done, Literal, Bind, Repeat, Maybe, pattern_of}
use Rattle.pattern_language.specs.Rules.{is_done}
use Rattle.c_forms.specs.declared.forms.Form.TheVariants as form
use Rattle.c_forms.specs.declared.forms.GroupForm.TheVariants as group
use Rattle.c_forms.specs.Forests.{Plain, Forest, empty, tree, forest, node}
use Rattle.c_forms.specs.Rules.{after_first}

-- how many binders a pattern has
unfoldable pub binders : Pattern → ℕ
binders Done = 0
binders (Literal t p) = binders p
binders (Bind kind name p) = 1 + binders p
binders (Repeat least sep body p) = binders body + binders p
binders (Maybe intro body p) = binders body + binders p

-- whether a body is one element that has a part
unfoldable pub has_one_part : Pattern → Bool
has_one_part Done = false
has_one_part (Literal t p) = false
has_one_part (Bind kind name p) = is_done p
has_one_part (Repeat least sep body p) = is_done p
has_one_part (Maybe intro body p) = is_done p

abbrev pub first_of : Forest → Option Plain
first_of empty = None
first_of (tree f s ps rest) = Some (record { form = f; span = s; parts = ps })

abbrev pub as_list : Option Plain → List Plain
as_list None = []
as_list (Some t) = t ∷ []

-- what a binder of a body is bound to in each round, where `is_one` is whether the body has one part
abbrev pub in_rounds : (Forest → Option Plain) → Bool → Forest → List Plain
in_rounds of is_one empty = []
in_rounds of is_one (tree f s ps rest) = as_list (of (if is_one then tree f s ps empty else ps)) ++ in_rounds of is_one rest

-- the list of that over the rounds that the first part holds
abbrev pub in_list : (Forest → Option Plain) → Bool → Forest → Option Plain
in_list of is_one empty = None
in_list of is_one (tree f s rounds rest) = Some (node (form.Group group.List) s (in_rounds of is_one rounds))

-- what a binder is bound to, by its number from 0 on in the order of writing
unfoldable pub bound_to : Pattern → ℕ → Forest → Option Plain
bound_to Done n ps = None
bound_to (Literal t p) n ps = bound_to p n ps
bound_to (Bind kind name p) n ps = if nat_eq n 0 then first_of ps else bound_to p (n - 1) (after_first ps)
bound_to (Repeat least sep body p) n ps = if nat_lt n (binders body) then in_list (λ qs. bound_to body n qs) (has_one_part body) ps else bound_to p (n - binders body) (after_first ps)
bound_to (Maybe intro body p) n ps = if nat_lt n (binders body) then in_list (λ qs. bound_to body n qs) (has_one_part body) ps else bound_to p (n - binders body) (after_first ps)

-- what so many binders are bound to, the first ones
abbrev pub bound_below : Pattern → ℕ → Forest → List Plain
bound_below p zero ps = []
bound_below p (suc n) ps = bound_below p n ps ++ as_list (bound_to p n ps)

-- what the binders of a pattern are bound to, in the order of writing
abbrev pub bound_in : Pattern → Forest → Forest
bound_in p ps = forest (bound_below p (binders p) ps)

abbrev pub bound : List Element → Forest → Forest
bound elements ps = bound_in (pattern_of elements) ps
