-- What the binders of some patterns are bound to.
use Rattle.std.proofs.Common.{◌≡◌, refl, None}
use Rattle.c_tokens.specs.declared.token.Token.{Token}
use Rattle.c_tokens.specs.declared.token.Word.{Word}
use Rattle.c_tokens.specs.declared.kind.Kind.{Kind}
use Rattle.c_tokens.specs.declared.span.Span.{Span}
use Rattle.c_forms.specs.declared.forms.Form.{Form}
use Rattle.c_forms.specs.declared.forms.Form.TheVariants as form
use Rattle.c_forms.specs.declared.forms.GroupForm.TheVariants as group
use Rattle.c_forms.specs.Forests.{Forest, empty, tree}
use Rattle.pattern_language.specs.Patterns.{Done, Literal, Bind, Repeat, Maybe}
use Rattle.checked_trees.specs.Bindings.{binders, has_one_part, bound_to, bound_in}

abbrev list : Span → Forest → Forest → Forest
list s ps rest = tree (form.Group group.List) s ps rest

-- the part of a repetition or option in a call
abbrev rounds : Span → Forest → Forest → Forest
rounds s ps rest = tree (form.Group group.Rounds) s ps rest

abbrev row : Span → Forest → Forest → Forest
row s ps rest = tree (form.Group group.Row) s ps rest

-- a binder between literals
binder : (t u : Token) (k : Kind) (a : Word) (f : Form) (s : Span) (ps : Forest) → bound_in (Literal t (Bind k a (Literal u Done))) (tree f s ps empty) ≡ tree f s ps empty
unfolding binders bound_to
binder t u k a f s ps = refl

-- a repetition of one binder, after two rounds
repetition : (k : Kind) (a : Word) (f g : Form) (s t u : Span) (ps qs : Forest) → bound_in (Repeat 0 None (Bind k a Done) Done) (rounds u (tree f s ps (tree g t qs empty)) empty) ≡ list u (tree f s ps (tree g t qs empty)) empty
unfolding binders bound_to has_one_part
repetition k a f g s t u ps qs = refl

-- a repetition of two binders with a literal between them, after two rounds: two lists
two_binders : (t : Token) (k : Kind) (a b : Word) (f g h i : Form) (r s u v w x y : Span) →
    bound_in (Repeat 1 None (Bind k a (Literal t (Bind k b Done))) Done)
    (rounds r (row s (tree f u empty (tree g v empty empty)) (row s (tree h w empty (tree i x empty empty)) empty)) empty)
    ≡ list r (tree f u empty (tree h w empty empty)) (list r (tree g v empty (tree i x empty empty)) empty)
unfolding binders bound_to has_one_part
two_binders t k a b f g h i r s u v w x y = refl

-- a repetition in a repetition, with a literal and without: a list of lists
lists_of_lists : (t : Token) (k : Kind) (a : Word) (f g h : Form) (r s u v w x : Span) →
    bound_in (Repeat 0 None (Literal t (Repeat 0 None (Bind k a Done) Done)) Done)
    (rounds r (row s (rounds u (tree f v empty (tree g w empty empty)) empty) (row s (rounds x (tree h v empty empty) empty) empty)) empty)
    ≡ list r (list u (tree f v empty (tree g w empty empty)) (list x (tree h v empty empty) empty)) empty
unfolding binders bound_to has_one_part
lists_of_lists t k a f g h r s u v w x = refl

bare_lists_of_lists : (k : Kind) (a : Word) (f g h : Form) (r u v w x : Span) →
    bound_in (Repeat 0 None (Repeat 0 None (Bind k a Done) Done) Done)
    (rounds r (rounds u (tree f v empty (tree g w empty empty)) (rounds x (tree h v empty empty) empty)) empty)
    ≡ list r (list u (tree f v empty (tree g w empty empty)) (list x (tree h v empty empty) empty)) empty
unfolding binders bound_to has_one_part
bare_lists_of_lists k a f g h r u v w x = refl

-- an option that is absent, before a binder: an empty list, and the tree
absent : (t : Token) (k : Kind) (a b : Word) (f : Form) (s u : Span) (ps : Forest) → bound_in (Maybe t (Bind k a Done) (Bind k b Done)) (rounds s empty (tree f u ps empty)) ≡ list s empty (tree f u ps empty)
unfolding binders bound_to has_one_part
absent t k a b f s u ps = refl

-- an option of a literal, after its intro, and a binder: one tree
present : (t u : Token) (k : Kind) (a : Word) (f : Form) (r s v : Span) (ps : Forest) → bound_in (Maybe t (Literal u (Bind k a Done)) Done) (rounds r (row s (tree f v ps empty) empty) empty) ≡ list r (tree f v ps empty) empty
unfolding binders bound_to has_one_part
present t u k a f r s v ps = refl
