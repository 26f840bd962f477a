-- Declarators are ready where their events hold and a name that must be a value is one.
use Rattle.std.proofs.Common.{◌≡◌, refl, ap, sym, subst, ◌∙◌, ℕ, Bool, true, false, not, ◌&&◌, ◌||◌, if◌then◌else◌, List, [], ◌∷◌, ◌++◌, append_assoc, Option, Some, None}
use Rattle.std.specs.Prelude.{is_some}
use Rattle.c_tokens.specs.declared.span.Span.{Span}
use Rattle.c_tokens.specs.declared.token.Word.{Word}
use Rattle.c_tokens.specs.declared.token.Shape.{Shape}
use Rattle.c_tokens.specs.declared.token.Shape.TheVariants as shape
use Rattle.c_tokens.specs.declared.token.Punct.{Punct}
use Rattle.c_tokens.specs.declared.token.Punct.TheVariants as punct
use Rattle.c_forms.specs.declared.pieces.Event.TheVariants as event
use Rattle.c_forms.specs.declared.pieces.Repetition.TheVariants.{Optional, Many}
use Rattle.c_forms.specs.declared.pieces.Sort.{Sort}
use Rattle.c_forms.specs.declared.pieces.Sort.TheVariants as s
use Rattle.c_forms.specs.declared.forms.Form.{Form}
use Rattle.c_forms.specs.declared.forms.Form.TheVariants as form
use Rattle.c_forms.specs.declared.forms.ExpForm.TheVariants as exp
use Rattle.c_forms.specs.declared.forms.SpecForm.TheVariants as spec
use Rattle.c_forms.specs.declared.forms.StmtForm.TheVariants as stmt
use Rattle.c_forms.specs.declared.forms.TemplateForm.TheVariants as template
use Rattle.c_forms.specs.declared.forms.DeclaratorForm.{DeclaratorForm}
use Rattle.c_forms.specs.declared.forms.DeclaratorForm.TheVariants as declarator
use Rattle.c_forms.specs.declared.forms.ParamsForm.{ParamsForm}
use Rattle.c_forms.specs.declared.forms.ParamsForm.TheVariants as params
use Rattle.c_forms.specs.declared.forms.GroupForm.TheVariants as group
use Rattle.c_forms.specs.declared.operators.TypeQualifier.{TypeQualifier}
use Rattle.c_forms.specs.Forests.{Plain, Forest, empty, tree}
use Rattle.c_forms.specs.Fits.{fits, elements, is_list_of, all_stand}
use Rattle.c_forms.specs.Measures.{is_plain, pieces}
use Rattle.c_forms.specs.Places.{stands}
use Rattle.c_forms.specs.Rules.{is_none, in_first, is_name, names, named_at, has_function, function_at, has_ids, is_nothing, among_rules, is_right}
use Rattle.c_reader.specs.States.{Entry, State, Kept, Near, Bare, Other, Parameters as With, happens, sealed, with_parameters, parameters, is_bare, has_parameters, innermost, top, under}
use Rattle.c_reader.specs.Tokens.{Spot, step, turned}
use Rattle.c_syntax.specs.Reading.{Usual, inside, is_absent}
use Rattle.c_syntax.specs.Spells.{is_ids}
use Rattle.c_trees.specs.Counts.{pure}
use Rattle.c_trees.specs.Valid.{valid}
use Rattle.c_layout.specs.Spelled.{tokens}
use Rattle.scope_tables.specs.Frames.{left}
use Rattle.scope_meanings.specs.declared.meaning.NameUse.TheVariants as naming
use Rattle.scope_meanings.specs.declared.meaning.Name.{Name}
use Rattle.scope_meanings.specs.Meanings.{name_in, or_next}
use Rattle.scopes.specs.declared.event.Event.{Event}
use Rattle.scopes.specs.declared.event.Event.TheVariants.{Leave}
use Rattle.scopes.specs.Events.{scope, events_of, beside_at, beside_name, words_of_params}
use Rattle.scopes.specs.Settling.{Scoped, settled}
use Rattle.spelled_scopes.specs.Meant.{frames}
use Rattle.spelled_trees.specs.Told.{is_named, is_function, is_bare_name}
use Rattle.spelled_trees.proofs.Parts.{left_of, right_of}
use Rattle.ready_rows.proofs.Ready.{the_tree, placed}
use Rattle.ready_rows.proofs.Rows.{list_form, list_stand}
use Rattle.ready_rows.proofs.Standing.{Follows, asks, inner_asks, Holds, Ran, name_of, Declares, Ready, Made, Names, Nears, number_or}
use Rattle.ready_rows.proofs.Steps.{earlier, later, split_at, append_nil, one_end}
use Rattle.ready_rows.proofs.Calm.{RowReady, AreReady, OthersReady, calm_elements, at_end, part}
use Rattle.ready_expressions.proofs.Expressions.{never, never_two}
use Rattle.ready_expressions.proofs.Heads.{placed_head, Good, first_good, good_fits, right_fits, parts_of, id_form}
use Rattle.ready_expressions.proofs.Statements.{around, holds_rule}

-- ---- what is asked of a declarator by its sort

abbrev pub Wants : Sort → Plain → State → Type 0
Wants s.Declarator t u = is_named t ≡ true
Wants s.AbstractDeclarator t u = (is_named t ≡ false) × (u.kept.name ≡ None)
Wants s.ParamDeclarator t u = u.kept.name ≡ None
Wants s.MemberName t u = (is_absent t || is_named t) ≡ true
Wants due t u = ⊥

pub ready_as : (own : Sort) (t : Plain) (u : State) → Declares t u → Wants own t u → Ready own t u
ready_as s.Declarator t u d w = (d, w)
ready_as s.AbstractDeclarator t u d w = (d, w)
ready_as s.ParamDeclarator t u d w = (d, w)
ready_as s.MemberName t u d w = (d, w)
ready_as own t u d w = absurd w

-- inside of one that is not absent
inner_wants : (own : Sort) (t v : Plain) (u : State) → is_absent t ≡ false → is_named t ≡ is_named v → Wants own t u → Wants (inside own s.InnerDeclarator) v u
inner_wants s.Declarator t v u a n w = sym n ∙ w
inner_wants s.AbstractDeclarator t v u a n w = (sym n ∙ w.0, w.1)
inner_wants s.ParamDeclarator t v u a n w = w
inner_wants s.MemberName t v u a n w = sym n ∙ (sym (ap (λ b. b || is_named t) a) ∙ w)
inner_wants own t v u a n w = absurd w

inner_ready : (own : Sort) (t v : Plain) (u : State) → is_absent t ≡ false → is_named t ≡ is_named v → Declares v u → Wants own t u → Ready (inside own s.InnerDeclarator) v u
inner_ready s.Declarator t v u a n d w = (d, inner_wants s.Declarator t v u a n w)
inner_ready s.AbstractDeclarator t v u a n d w = (d, inner_wants s.AbstractDeclarator t v u a n w)
inner_ready s.ParamDeclarator t v u a n d w = (d, inner_wants s.ParamDeclarator t v u a n w)
inner_ready s.MemberName t v u a n d w = (d, inner_wants s.MemberName t v u a n w)
inner_ready own t v u a n d w = absurd w

inner_made : (own : Sort) (t v : Plain) (u z : State) → Wants own t u → Made (inside own s.InnerDeclarator) v u z → Names v u z
inner_made s.Declarator t v u z w m = m
inner_made s.AbstractDeclarator t v u z w m = m
inner_made s.ParamDeclarator t v u z w m = m
inner_made s.MemberName t v u z w m = m
inner_made own t v u z w m = absurd w

inner_follows : (own : Sort) (t v : Plain) (u : State) (after : List Shape) → Wants own t u → Follows (inside own s.InnerDeclarator) v after
inner_follows s.Declarator t v u after w = tt
inner_follows s.AbstractDeclarator t v u after w = tt
inner_follows s.ParamDeclarator t v u after w = tt
inner_follows s.MemberName t v u after w = tt
inner_follows own t v u after w = absurd w

-- ---- names

pub or_none : (b : Bool) → (b || false) ≡ b
or_none true = refl
or_none false = refl

pub next_none : (n : Option Name) → or_next n None ≡ n
next_none (Some n) = refl
next_none None = refl

name_names : (ts : Forest) → is_name ts ≡ true → names ts ≡ true
name_names (tree (form.Declarator declarator.Named) sp ps rest) e = refl
name_names (tree f sp ps rest) e = absurd (cc e)
name_names empty e = absurd (cc e)

or_mono : (a b c d : Bool) → (a ≡ true → c ≡ true) → (b ≡ true → d ≡ true) → (a || b) ≡ true → (c || d) ≡ true
or_mono true b c d f g e = ap (λ c. c || d) (f refl)
or_mono false b true d f g e = refl
or_mono false b false d f g e = g e

or_one : (a b c : Bool) → (a ≡ true → c ≡ true) → (b ≡ true → c ≡ true) → (a || b) ≡ true → c ≡ true
or_one true b c f g e = f refl
or_one false b c f g e = g e

-- what has a function part next to a name has a name
pub function_names : (ts : Forest) → has_function ts ≡ true → names ts ≡ true
function_names empty e = absurd (cc e)
function_names (tree (form.Declarator declarator.Named) sp ps rest) e = refl
function_names (tree (form.Declarator declarator.Absent) sp ps rest) e = function_names rest e
function_names (tree (form.Declarator declarator.Pointer) sp ps rest) e = or_mono (has_function ps) (has_function rest) (names ps) (names rest) (function_names ps) (function_names rest) e
function_names (tree (form.Declarator declarator.ArrayOf) sp ps rest) e = or_mono (has_function ps) (has_function rest) (names ps) (names rest) (function_names ps) (function_names rest) e
function_names (tree (form.Declarator declarator.FunctionOf) sp ps rest) e = or_mono (is_name ps || has_function ps) (has_function rest) (names ps) (names rest) (λ h. or_one (is_name ps) (has_function ps) (names ps) (name_names ps) (function_names ps) h) (function_names rest) e
function_names (tree f sp ps rest) e = function_names rest e

pub function_named : (f : Form) (sp : Span) (ps : Forest) → is_function (the_tree f sp ps) ≡ true → is_named (the_tree f sp ps) ≡ true
function_named f sp ps e = sym (or_none (named_at f (names ps))) ∙ function_names (tree f sp ps empty) (or_none (function_at f (is_name ps) (has_function ps)) ∙ e)

function_not_bare : (f : Form) (sp : Span) (ps : Forest) → is_function (the_tree f sp ps) ≡ true → is_bare_name (the_tree f sp ps) ≡ false
function_not_bare (form.Declarator declarator.Named) sp ps e = absurd (cc e)
function_not_bare (form.Declarator f) sp ps e = refl
function_not_bare f sp ps e = refl

may_seal : (a b : Bool) → (a ≡ true → b ≡ false) → not (a && b) ≡ true
may_seal true b f = ap not (f refl)
may_seal false b f = refl

must_function : (t : Plain) → is_bare_name t ≡ false → (is_function t || is_bare_name t) ≡ true → is_function t ≡ true
must_function t b e = sym (or_none (is_function t)) ∙ sym (ap (λ b. is_function t || b) b) ∙ e

-- where a function is due, one stands next to the name
seal_happens : (t : Plain) (g : Form) (gp : Span) (qs : Forest) (u j : State) → is_bare_name t ≡ false → is_function t ≡ is_function (the_tree g gp qs) → Declares t u → Names (the_tree g gp qs) u j → not (j.kept.is_function_due && is_bare j.kept.near) ≡ true
seal_happens t g gp qs u j b f D N = may_seal j.kept.is_function_due (is_bare j.kept.near) (λ e. let h = sym f ∙ must_function t b (D.function (sym N.due ∙ e)) in (N.near (function_named g gp qs h)).bare ∙ function_not_bare g gp qs h)

sealed_bare : (n : Near) → is_bare (sealed n) ≡ false
sealed_bare Bare = refl
sealed_bare (With words) = refl
sealed_bare Other = refl

sealed_parameters : (n : Near) → (has_parameters (sealed n) ≡ has_parameters n) × (parameters (sealed n) ≡ parameters n)
sealed_parameters Bare = (refl, refl)
sealed_parameters (With words) = (refl, refl)
sealed_parameters Other = (refl, refl)

-- what a declarator has of the one inside of it
record Around (t v : Plain) : Type 0 where
  pub named : is_named t ≡ is_named v
  pub name : name_of t ≡ name_of v
  pub function : is_function t ≡ is_function v
  pub words : beside_at t.form t.parts (beside_name t.parts) ≡ beside_at v.form v.parts (beside_name v.parts)

sealed_names : (t v : Plain) (u j z : State) → Around t v → is_bare_name t ≡ false → Names v u j → z.kept ≡ record j.kept { near = sealed j.kept.near } → Ran (events_of naming.Nothing t) u z → Names t u z
sealed_names t v u j z A b N k r = record {
  ran = r;
  typed = ap (λ (k : Kept). k.has_type) k ∙ N.typed;
  typedef = ap (λ (k : Kept). k.is_typedef) k ∙ N.typedef;
  due = ap (λ (k : Kept). k.is_function_due) k ∙ N.due;
  name = ap (λ (k : Kept). k.name) k ∙ N.name ∙ ap (λ n. number_or n u.kept.name) (sym A.name);
  named = λ n. ap (λ (k : Kept). is_some k.name) k ∙ N.named (sym A.named ∙ n);
  near = λ n. let M = N.near (sym A.named ∙ n) in record {
    bare = ap (λ (k : Kept). is_bare k.near) k ∙ sealed_bare j.kept.near ∙ sym b;
    function = ap (λ (k : Kept). has_parameters k.near) k ∙ (sealed_parameters j.kept.near).0 ∙ M.function ∙ sym A.function;
    words = λ es. ap (λ ws. settled ws (frames es)) A.words ∙ M.words es ∙ ap (λ ws. Scoped (frames (ws ++ es))) (sym (ap (λ (k : Kept). parameters k.near) k ∙ (sealed_parameters j.kept.near).1));
  };
}

inner_declares : (t v : Plain) (u : State) → is_bare_name t ≡ false → is_function t ≡ is_function v → name_of t ≡ name_of v → Holds (events_of naming.Nothing v) u → Declares t u → Declares v u
inner_declares t v u b f n h D = record { holds = h; value = λ name e. D.value name (n ∙ e); function = λ e. ap (λ b. b || is_bare_name v) (sym f ∙ must_function t b (D.function e)) }

-- ---- a name

named_row : (own : Sort) (sp : Span) (w : Word) (gp : Span) (qs : Forest) (i : Spot) (after : List Shape) → Declares (the_tree (form.Declarator declarator.Named) sp (tree (form.Id w) gp qs empty)) i.state
    → RowReady own (form.Declarator declarator.Named) Usual (pieces (form.Declarator declarator.Named)) (tree (form.Id w) gp qs empty) i after (λ j. Names (the_tree (form.Declarator declarator.Named) sp (tree (form.Id w) gp qs empty)) i.state j.state)
named_row own sp w gp qs i after D = part own s.DeclaredId (the_tree (form.Id w) gp qs) i _ _ refl (
  (λ word e. D.value (record { word = word; span = gp }) (ap (λ (w : Word). Some (record { word = w; span = gp })) (cc e))),
  (
    tt,
    λ j d. let N = d.made in record {
      ran = record { scoped = ap (λ es. Scoped (frames es)) (sym N.entries); aside = N.aside };
      typed = N.typed;
      typedef = N.typedef;
      due = N.due;
      name = N.name w refl;
      named = λ n. ap is_some (N.name w refl);
      near = λ n. record {
        bare = ap is_bare N.near;
        function = ap has_parameters N.near;
        words = λ es. ap (λ n. Scoped (frames (parameters n ++ es))) (sym N.near);
      };
    },
  ),
)

absent_row : (own : Sort) (sp : Span) (i : Spot) (after : List Shape)
    → RowReady own (form.Declarator declarator.Absent) Usual (pieces (form.Declarator declarator.Absent)) empty i after (λ j. Names (the_tree (form.Declarator declarator.Absent) sp empty) i.state j.state)
absent_row own sp i after = record { ran = record { scoped = refl; aside = refl }; typed = refl; typedef = refl; due = refl; name = refl; named = λ n. absurd (cc n); near = λ n. absurd (cc n) }

-- ---- arrays

array_around : (sp : Span) (g : Form) (gp : Span) (qs : Forest) (kp : Span) (es : Forest) → Around (the_tree (form.Declarator declarator.ArrayOf) sp (tree g gp qs (tree (form.Group group.List) kp es empty))) (the_tree g gp qs)
array_around sp g gp qs kp es = record { named = or_none _; name = next_none _; function = or_none _; words = append_nil _ }

array_row : (own : Sort) (sp : Span) (g : Form) (gp : Span) (qs : Forest) (kp : Span) (es : Forest) (i : Spot) (after : List Shape) → pure es ≡ true → all_stand s.Exp es ≡ true
    → Declares (the_tree (form.Declarator declarator.ArrayOf) sp (tree g gp qs (tree (form.Group group.List) kp es empty))) i.state → Wants own (the_tree (form.Declarator declarator.ArrayOf) sp (tree g gp qs (tree (form.Group group.List) kp es empty))) i.state
    → RowReady own (form.Declarator declarator.ArrayOf) Usual (pieces (form.Declarator declarator.ArrayOf)) (tree g gp qs (tree (form.Group group.List) kp es empty)) i after (λ j. Names (the_tree (form.Declarator declarator.ArrayOf) sp (tree g gp qs (tree (form.Group group.List) kp es empty))) i.state j.state)
array_row own sp g gp qs kp es i after p e D W =
    let t : Plain = the_tree (form.Declarator declarator.ArrayOf) sp (tree g gp qs (tree (form.Group group.List) kp es empty)) in
    let v : Plain = the_tree g gp qs in
    let A = array_around sp g gp qs kp es in
    let ds : List Event = events_of naming.Nothing v in
    let bs : List Event = asks naming.Nothing es in
    let gs = D.holds.0 in
    let x : ((ds ++ ((bs ++ []) ++ [])) ++ []) ≡ (ds ++ (bs ++ [])) = append_nil _ ∙ ap (λ l. ds ++ l) (append_nil _) in
    let H : settled (ds ++ (bs ++ [])) (frames i.state.entries) ≡ Scoped gs = ap (λ l. settled l (frames i.state.entries)) (sym x) ∙ D.holds.1 in (
      inner_ready own t v i.state refl A.named (inner_declares t v i.state refl A.function A.name (earlier ds (bs ++ []) i.state (gs, H)) D) W,
      (
        inner_follows own t v i.state _ W,
        λ j d. let N = inner_made own t v i.state j.state W d.made in (
          refl,
          calm_elements s.Exp 3 None es (turned (happens event.Aside) (step j)) _ [] gs (j.state.kept ∷ j.state.aside) _ refl p e
              (record { free = refl; holds = later ds (bs ++ []) (frames i.state.entries) (frames j.state.entries) gs N.ran.scoped H; aside = refl })
              (λ m h. let k = ap top h.aside in (
                refl,
                (
                  subst (λ (k : Kept). not (k.is_function_due && is_bare k.near) ≡ true) (sym k) (seal_happens t g gp qs i.state j.state refl A.function D N),
                  sealed_names t v i.state j.state (happens event.Seal (happens event.Resume m.state)) A refl N (ap (λ (k : Kept). record k { near = sealed k.near }) k)
                      (record { scoped = D.holds.1 ∙ ap Scoped (sym (at_end m.state gs (j.state.kept ∷ j.state.aside) h)); aside = ap under h.aside ∙ N.ran.aside }),
                ),
              )),
        ),
      ),
    )

-- ---- pointers

pub qualifier_form : (f : Form) → is_plain f ≡ true → stands f s.Qualifier ≡ true → (q : TypeQualifier) × (f ≡ form.Spec (spec.Qualifier q))
qualifier_form (form.Spec (spec.Qualifier q)) p e = (q, refl)
qualifier_form (form.Hole h) p e = absurd (cc p)
qualifier_form (form.Call n gives tail) p e = absurd (cc p)
qualifier_form (form.Exp (exp.Int w)) p e = absurd (cc e)
qualifier_form (form.Spec (spec.Storage c)) p e = absurd (cc e)
qualifier_form (form.Spec f) p e = absurd (cc e)
qualifier_form (form.Stmt stmt.Block) p e = absurd (cc e)
qualifier_form (form.Template (template.Many k)) p e = absurd (cc e)
qualifier_form (form.Group group.List) p e = absurd (cc e)
qualifier_form f p e = absurd (cc e)

qualifier_quiet : (q : TypeQualifier) (sp : Span) (ps : Forest) → is_right (form.Spec (spec.Qualifier q)) ps ≡ true → events_of naming.Nothing (the_tree (form.Spec (spec.Qualifier q)) sp ps) ≡ []
qualifier_quiet q sp empty r = refl
qualifier_quiet q sp (tree f fp qs rest) r = absurd (cc (right_fits (form.Spec (spec.Qualifier q)) (tree f fp qs rest) r))

pub qualifiers_quiet : (es : Forest) → pure es ≡ true → valid es ≡ true → all_stand s.Qualifier es ≡ true → asks naming.Nothing es ≡ []
qualifiers_quiet empty p v e = refl
qualifiers_quiet (tree f sp ps rest) p v e =
    let n = first_good s.Qualifier f sp ps rest p v (left_of (stands f s.Qualifier) (all_stand s.Qualifier rest) e) in
    let q = qualifier_form f n.is_plain n.stands in
    let x : events_of naming.Nothing (the_tree f sp ps) ≡ [] = subst (λ f. is_right f ps ≡ true → events_of naming.Nothing (the_tree f sp ps) ≡ []) (sym q.1) (qualifier_quiet q.0 sp ps) n.right in
    ap (λ l. l ++ asks naming.Nothing rest) x ∙ qualifiers_quiet rest (right_of (is_plain f && pure ps) (pure rest) p) (right_of (is_right f ps && valid ps) (valid rest) v) (right_of (stands f s.Qualifier) (all_stand s.Qualifier rest) e)

qualifiers_after : (es : Forest) (i : Spot) (after : List Shape) (K : Spot → Type 0) (u : State) → i.state ≡ u → ((j : Spot) → j.state ≡ u → K j) → OthersReady s.Qualifier 0 None es i after K
qualifiers_after empty i after K u e k = k i e
qualifiers_after (tree f sp ps rest) i after K u e k = (tt, (tt, λ j d. qualifiers_after rest j after K u (d.made ∙ e) k))

qualifiers_ready : (es : Forest) (i : Spot) (after : List Shape) (K : Spot → Type 0) → ((j : Spot) → j.state ≡ i.state → K j) → AreReady s.Qualifier 0 None es i after K
qualifiers_ready empty i after K k = k i refl
qualifiers_ready (tree f sp ps rest) i after K k = (tt, (tt, λ j d. qualifiers_after rest j after K i.state d.made k))

pointer_around : (sp kp : Span) (es : Forest) (g : Form) (gp : Span) (qs : Forest) → Around (the_tree (form.Declarator declarator.Pointer) sp (tree (form.Group group.List) kp es (tree g gp qs empty))) (the_tree g gp qs)
pointer_around sp kp es g gp qs = record { named = or_none _; name = next_none _; function = or_none _; words = append_nil _ }

pointer_row : (own : Sort) (sp kp : Span) (es : Forest) (g : Form) (gp : Span) (qs : Forest) (i : Spot) (after : List Shape) → asks naming.Nothing es ≡ []
    → Declares (the_tree (form.Declarator declarator.Pointer) sp (tree (form.Group group.List) kp es (tree g gp qs empty))) i.state → Wants own (the_tree (form.Declarator declarator.Pointer) sp (tree (form.Group group.List) kp es (tree g gp qs empty))) i.state
    → RowReady own (form.Declarator declarator.Pointer) Usual (pieces (form.Declarator declarator.Pointer)) (tree (form.Group group.List) kp es (tree g gp qs empty)) i after (λ j. Names (the_tree (form.Declarator declarator.Pointer) sp (tree (form.Group group.List) kp es (tree g gp qs empty))) i.state j.state)
pointer_row own sp kp es g gp qs i after z D W =
    let t : Plain = the_tree (form.Declarator declarator.Pointer) sp (tree (form.Group group.List) kp es (tree g gp qs empty)) in
    let v : Plain = the_tree g gp qs in
    let A = pointer_around sp kp es g gp qs in
    let ds : List Event = events_of naming.Nothing v in
    let gs = D.holds.0 in
    let x : (((asks naming.Nothing es ++ []) ++ (ds ++ [])) ++ []) ≡ (ds ++ []) = append_nil _ ∙ ap (λ l. (l ++ []) ++ (ds ++ [])) z in
    let H : settled (ds ++ []) (frames i.state.entries) ≡ Scoped gs = ap (λ l. settled l (frames i.state.entries)) (sym x) ∙ D.holds.1 in
    qualifiers_ready es (step i) _ _ (λ j e. (
      subst (λ u. Ready (inside own s.InnerDeclarator) v u) (sym e) (inner_ready own t v i.state refl A.named (inner_declares t v i.state refl A.function A.name (earlier ds [] i.state (gs, H)) D) W),
      (
        inner_follows own t v i.state _ W,
        λ m d. let N = inner_made own t v i.state m.state W (subst (λ u. Made (inside own s.InnerDeclarator) v u m.state) e d.made) in (
          seal_happens t g gp qs i.state m.state refl A.function D N,
          sealed_names t v i.state m.state (happens event.Seal m.state) A refl N refl
              (record { scoped = D.holds.1 ∙ ap Scoped (sym (one_end (frames m.state.entries) gs (later ds [] (frames i.state.entries) (frames m.state.entries) gs N.ran.scoped H))); aside = N.ran.aside }),
        ),
      ),
    ))

-- ---- functions

pub params_form : (f : Form) → is_plain f ≡ true → stands f s.Params ≡ true → (x : ParamsForm) × (f ≡ form.Params x)
params_form (form.Params x) p e = (x, refl)
params_form (form.Hole h) p e = absurd (cc p)
params_form (form.Call n gives tail) p e = absurd (cc p)
params_form (form.Exp (exp.Int w)) p e = absurd (cc e)
params_form (form.Spec (spec.Storage c)) p e = absurd (cc e)
params_form (form.Spec (spec.Qualifier q)) p e = absurd (cc e)
params_form (form.Stmt stmt.Block) p e = absurd (cc e)
params_form (form.Template (template.Many k)) p e = absurd (cc e)
params_form (form.Group group.List) p e = absurd (cc e)
params_form f p e = absurd (cc e)

or_true : (n : Bool) → (n || true) ≡ true
or_true true = refl
or_true false = refl

list_by : (a b n : Bool) → (a || not (not b)) ≡ true → (a ≡ true → n ≡ true) → (n || b) ≡ true
list_by true b n e f = ap (λ n. n || b) (f refl)
list_by false true n e f = or_true n
list_by false false n e f = absurd (cc e)

may_list_by : (x : ParamsForm) (fp : Span) (ps : Forest) (a n : Bool) → (a || not (has_ids (tree (form.Params x) fp ps empty))) ≡ true → (a ≡ true → n ≡ true) → (n || (not (is_ids (form.Params x)) || is_none (in_first ps))) ≡ true
may_list_by params.Ids fp ps a n e f = list_by a (is_none (in_first ps)) n e f
may_list_by x fp ps a n e f = or_true n

name_alone : (g : Form) (gp : Span) (qs rest : Forest) → is_name (tree g gp qs rest) ≡ is_bare_name (the_tree g gp qs)
name_alone (form.Declarator declarator.Named) gp qs rest = refl
name_alone (form.Declarator g) gp qs rest = refl
name_alone g gp qs rest = refl

module _ (sp : Span) (d : DeclaratorForm) (gp : Span) (qs : Forest) (x : ParamsForm) (fp : Span) (ps : Forest) where
  abbrev the_parts : Forest
  the_parts = tree (form.Declarator d) gp qs (tree (form.Params x) fp ps empty)

  abbrev a_function : Plain
  a_function = the_tree (form.Declarator declarator.FunctionOf) sp the_parts

  abbrev inner : Plain
  inner = the_tree (form.Declarator d) gp qs

  abbrev its_params : Plain
  its_params = the_tree (form.Params x) fp ps

  function_name : name_of a_function ≡ name_of inner
  function_name = next_none _

  function_named_as : is_named a_function ≡ is_named inner
  function_named_as = or_none _

  beside_alone : beside_name the_parts ≡ beside_at (form.Declarator d) qs (beside_name qs)
  beside_alone = append_nil _

  -- where something stands next to the name already, the parameters do not
  near_after : (words : List Entry) (n : Near) → ((es : List Entry) → settled (words_of_params (tree (form.Params x) fp ps empty)) (frames es) ≡ Scoped (frames (words ++ es))) → Nears inner n → Nears a_function (with_parameters words n)
  near_after words Bare P M = let e : is_name the_parts ≡ true = name_alone (form.Declarator d) gp qs _ ∙ sym M.bare in record {
    bare = refl;
    function = sym (ap (λ b. b || has_function the_parts) e);
    words = λ es. ap (λ b. settled (if b then words_of_params (tree (form.Params x) fp ps empty) else beside_name the_parts) (frames es)) e ∙ P es;
  }
  near_after words (With ws) P M = let e : is_name the_parts ≡ false = name_alone (form.Declarator d) gp qs _ ∙ sym M.bare in record {
    bare = refl;
    function = M.function ∙ sym (or_none _) ∙ sym (ap (λ b. b || has_function the_parts) e);
    words = λ es. ap (λ b. settled (if b then words_of_params (tree (form.Params x) fp ps empty) else beside_name the_parts) (frames es)) e ∙ ap (λ l. settled l (frames es)) beside_alone ∙ M.words es;
  }
  near_after words Other P M = let e : is_name the_parts ≡ false = name_alone (form.Declarator d) gp qs _ ∙ sym M.bare in record {
    bare = refl;
    function = M.function ∙ sym (or_none _) ∙ sym (ap (λ b. b || has_function the_parts) e);
    words = λ es. ap (λ b. settled (if b then words_of_params (tree (form.Params x) fp ps empty) else beside_name the_parts) (frames es)) e ∙ ap (λ l. settled l (frames es)) beside_alone ∙ M.words es;
  }

  -- where a function is due, the inner declarator is the name or has one next to it
  inner_due : (is_function a_function || is_bare_name a_function) ≡ true → (is_function inner || is_bare_name inner) ≡ true
  inner_due e = turn (is_name the_parts) (is_function inner) (is_bare_name inner) (name_alone (form.Declarator d) gp qs _) (sym (ap (λ b. is_name the_parts || b) (or_none _)) ∙ sym (or_none _) ∙ e)
    where
      turn : (a f b : Bool) → a ≡ b → (a || f) ≡ true → (f || b) ≡ true
      turn true f b n e = ap (λ b. f || b) (sym n) ∙ or_true f
      turn false f b n e = ap (λ f. f || b) e

  function_row : (own : Sort) (i : Spot) (after : List Shape) → is_nothing (among_rules (form.Declarator declarator.FunctionOf) the_parts) ≡ true → Declares a_function i.state → Wants own a_function i.state
      → RowReady own (form.Declarator declarator.FunctionOf) Usual (pieces (form.Declarator declarator.FunctionOf)) the_parts i after (λ j. Names a_function i.state j.state)
  function_row own i after q D W =
      let ds : List Event = events_of naming.Nothing inner in
      let bs : List Event = inner_asks naming.Nothing its_params in
      let gs = D.holds.0 in
      let e : ((ds ++ (scope bs ++ [])) ++ []) ≡ (ds ++ scope bs) = append_nil _ ∙ ap (λ l. ds ++ l) (append_nil _) in
      let H : settled (ds ++ scope bs) (frames i.state.entries) ≡ Scoped gs = ap (λ l. settled l (frames i.state.entries)) (sym e) ∙ D.holds.1 in (
        inner_ready own a_function inner i.state refl function_named_as (record { holds = earlier ds (scope bs) i.state (gs, H); value = λ name x. D.value name (function_name ∙ x); function = λ x. inner_due (D.function x) }) W,
        (
          inner_follows own a_function inner i.state _ W,
          λ j y.
              let N = inner_made own a_function inner i.state j.state W y.made in
              let p : State = happens event.Enter (happens event.Aside j.state) in
              let c = split_at bs (Leave ∷ []) (frames p.entries) gs (later ds (scope bs) (frames i.state.entries) (frames j.state.entries) gs N.ran.scoped H) in (
                refl,
                (
                  refl,
                  part own s.Params its_params (turned (happens event.Enter) (turned (happens event.Aside) (step j))) _ _ refl (
                    (refl, ((c.0, c.1.0), may_list_by x fp ps (names the_parts) (is_some j.state.kept.name) (holds_rule _ _ q) (λ n. N.named (sym function_named_as ∙ n)))),
                    (
                      refl,
                      λ m z.
                          let P = z.made in
                          let o = around j.state.is_late j.state.entries m.state.entries z.scoped.entries in
                          let k : (happens event.Close m.state).kept ≡ record j.state.kept { near = with_parameters (innermost m.state.entries) j.state.kept.near } = ap (λ a. record (top a) { near = with_parameters (innermost m.state.entries) (top a).near }) P.aside in (
                            refl,
                            record {
                              ran = record { scoped = D.holds.1 ∙ ap Scoped (sym (one_end (left c.0) gs c.1.1) ∙ P.left c.0 c.1.0 ∙ o.1 ∙ ap frames (sym o.0)); aside = ap under P.aside ∙ N.ran.aside };
                              typed = ap (λ (k : Kept). k.has_type) k ∙ N.typed;
                              typedef = ap (λ (k : Kept). k.is_typedef) k ∙ N.typedef;
                              due = ap (λ (k : Kept). k.is_function_due) k ∙ N.due;
                              name = ap (λ (k : Kept). k.name) k ∙ N.name ∙ ap (λ n. number_or n i.state.kept.name) (sym function_name);
                              named = λ n. ap (λ (k : Kept). is_some k.name) k ∙ N.named (sym function_named_as ∙ n);
                              near = λ n. subst (λ (k : Kept). Nears a_function k.near) (sym k) (near_after (innermost m.state.entries) j.state.kept.near (P.words refl) (N.near (sym function_named_as ∙ n)));
                            },
                          ),
                    ),
                  ),
                ),
              ),
        ),
      )

-- ---- each form

pub declared_stands : (f : Form) → is_plain f ≡ true → stands f s.DeclaredId ≡ true → stands f s.Id ≡ true
declared_stands (form.Hole h) p e = absurd (cc p)
declared_stands (form.Call n gives tail) p e = absurd (cc p)
declared_stands f p e = e

pub declarator_form : (f : Form) → is_plain f ≡ true → stands f s.Declarator ≡ true → (d : DeclaratorForm) × (f ≡ form.Declarator d)
declarator_form (form.Declarator d) p e = (d, refl)
declarator_form (form.Hole h) p e = absurd (cc p)
declarator_form (form.Call n gives tail) p e = absurd (cc p)
declarator_form (form.Exp (exp.Int w)) p e = absurd (cc e)
declarator_form (form.Spec (spec.Storage c)) p e = absurd (cc e)
declarator_form (form.Spec (spec.Qualifier q)) p e = absurd (cc e)
declarator_form (form.Stmt stmt.Block) p e = absurd (cc e)
declarator_form (form.Template (template.Many k)) p e = absurd (cc e)
declarator_form (form.Group group.List) p e = absurd (cc e)
declarator_form f p e = absurd (cc e)

pub inner_stands : (f : Form) → is_plain f ≡ true → stands f s.InnerDeclarator ≡ true → stands f s.Declarator ≡ true
inner_stands (form.Hole h) p e = absurd (cc p)
inner_stands (form.Call n gives tail) p e = absurd (cc p)
inner_stands f p e = e

abbrev DeclaratorRow : Sort → DeclaratorForm → Span → Forest → Spot → List Shape → Type 0
DeclaratorRow own f sp ts i after = Declares (the_tree (form.Declarator f) sp ts) i.state → Wants own (the_tree (form.Declarator f) sp ts) i.state → RowReady own (form.Declarator f) Usual (pieces (form.Declarator f)) ts i after (λ j. Names (the_tree (form.Declarator f) sp ts) i.state j.state)

pub head_plain : (f : Form) (sp : Span) (ps rest : Forest) → pure (tree f sp ps rest) ≡ true → is_plain f ≡ true
head_plain f sp ps rest p = left_of (is_plain f) (pure ps) (left_of (is_plain f && pure ps) (pure rest) p)

pub declarator_ready : (own : Sort) (f : DeclaratorForm) (sp : Span) (ts : Forest) (i : Spot) (after : List Shape) → fits (pieces (form.Declarator f)) ts ≡ true → pure ts ≡ true → valid ts ≡ true → is_nothing (among_rules (form.Declarator f) ts) ≡ true → DeclaratorRow own f sp ts i after
declarator_ready own declarator.Named sp empty i after t p v q D W = absurd (cc t)
declarator_ready own declarator.Named sp (tree g gp qs (tree k kp es rest)) i after t p v q D W = absurd (never _ t)
declarator_ready own declarator.Named sp (tree g gp qs empty) i after t p v q D W =
    let o = id_form g (head_plain g gp qs empty p) (declared_stands g (head_plain g gp qs empty p) (left_of (stands g s.DeclaredId) true t)) in
    subst (λ g. DeclaratorRow own declarator.Named sp (tree g gp qs empty) i after) (sym o.1) (λ D W. named_row own sp o.0 gp qs i after D) D W
declarator_ready own declarator.Absent sp empty i after t p v q D W = absent_row own sp i after
declarator_ready own declarator.Absent sp (tree g gp qs rest) i after t p v q D W = absurd (cc t)
declarator_ready own declarator.Pointer sp empty i after t p v q D W = absurd (cc t)
declarator_ready own declarator.Pointer sp (tree k kp es empty) i after t p v q D W = absurd (never _ t)
declarator_ready own declarator.Pointer sp (tree k kp es (tree g gp qs (tree h hp rs rest))) i after t p v q D W = absurd (never_two _ _ t)
declarator_ready own declarator.Pointer sp (tree k kp es (tree g gp qs empty)) i after t p v q D W =
    let l = left_of (is_list_of (Many None 0) s.Qualifier k es) _ t in
    let n = list_form k (head_plain k kp es (tree g gp qs empty) p) (left_of (stands k s.List) (elements (Many None 0) s.Qualifier es) l) in
    let a = parts_of k kp es (tree g gp qs empty) p v in
    subst (λ k. DeclaratorRow own declarator.Pointer sp (tree k kp es (tree g gp qs empty)) i after) (sym n)
    (pointer_row own sp kp es g gp qs i after (qualifiers_quiet es a.0 a.1 (list_stand (Many None 0) s.Qualifier es (right_of (stands k s.List) (elements (Many None 0) s.Qualifier es) l)))) D W
declarator_ready own declarator.ArrayOf sp empty i after t p v q D W = absurd (cc t)
declarator_ready own declarator.ArrayOf sp (tree g gp qs empty) i after t p v q D W = absurd (never _ t)
declarator_ready own declarator.ArrayOf sp (tree g gp qs (tree k kp es (tree h hp rs rest))) i after t p v q D W = absurd (never_two (stands g s.InnerDeclarator) (is_list_of Optional s.Exp k es) t)
declarator_ready own declarator.ArrayOf sp (tree g gp qs (tree k kp es empty)) i after t p v q D W =
    let l = left_of (is_list_of Optional s.Exp k es) true (right_of (stands g s.InnerDeclarator) _ t) in
    let r = right_of (is_plain g && pure qs) (pure (tree k kp es empty)) p in
    let n = list_form k (head_plain k kp es empty r) (left_of (stands k s.List) (elements Optional s.Exp es) l) in
    subst (λ k. DeclaratorRow own declarator.ArrayOf sp (tree g gp qs (tree k kp es empty)) i after) (sym n)
    (array_row own sp g gp qs kp es i after (right_of (is_plain k) (pure es) (left_of (is_plain k && pure es) true r)) (list_stand Optional s.Exp es (right_of (stands k s.List) (elements Optional s.Exp es) l))) D W
declarator_ready own declarator.FunctionOf sp empty i after t p v q D W = absurd (cc t)
declarator_ready own declarator.FunctionOf sp (tree g gp qs empty) i after t p v q D W = absurd (never _ t)
declarator_ready own declarator.FunctionOf sp (tree g gp qs (tree k kp es (tree h hp rs rest))) i after t p v q D W = absurd (never_two _ _ t)
declarator_ready own declarator.FunctionOf sp (tree g gp qs (tree k kp es empty)) i after t p v q D W =
    let r = right_of (is_plain g && pure qs) (pure (tree k kp es empty)) p in
    let o = params_form k (head_plain k kp es empty r) (left_of (stands k s.Params) true (right_of (stands g s.InnerDeclarator) _ t)) in
    let x = declarator_form g (head_plain g gp qs (tree k kp es empty) p) (inner_stands g (head_plain g gp qs (tree k kp es empty) p) (left_of (stands g s.InnerDeclarator) _ t)) in
    subst (λ g. is_nothing (among_rules (form.Declarator declarator.FunctionOf) (tree g gp qs (tree k kp es empty))) ≡ true → DeclaratorRow own declarator.FunctionOf sp (tree g gp qs (tree k kp es empty)) i after) (sym x.1)
    (subst (λ k. is_nothing (among_rules (form.Declarator declarator.FunctionOf) (tree (form.Declarator x.0) gp qs (tree k kp es empty))) ≡ true → DeclaratorRow own declarator.FunctionOf sp (tree (form.Declarator x.0) gp qs (tree k kp es empty)) i after) (sym o.1)
    (λ q. function_row sp x.0 gp qs o.0 kp es own i after q)) q D W

-- ---- the first token

-- What holds of whatever begins with a punctuator, and of the name, holds of a declarator and what comes after it.
module _ (P : List Shape → Type 0) (sign : (p : Punct) (xs : List Shape) → P (shape.Punct p ∷ xs)) where
  name_head : (w : Word) (g : Form) (gp : Span) (qs rest : Forest) (sp : Span) → g ≡ form.Id w → ((name : Name) → name_of (the_tree (form.Declarator declarator.Named) sp (tree g gp qs rest)) ≡ Some name → (xs : List Shape) → P (shape.Word name.word ∷ xs))
      → (xs : List Shape) → P ((placed 0 (the_tree g gp qs) ++ []) ++ xs)
  name_head w g gp qs rest sp e word xs = subst P (sym (append_assoc (placed 0 (the_tree g gp qs)) [] xs)) (placed_head P 0 (the_tree g gp qs) xs (λ ys. sign punct.LeftParen ys)
      (subst (λ g. ((name : Name) → name_of (the_tree (form.Declarator declarator.Named) sp (tree g gp qs rest)) ≡ Some name → (xs : List Shape) → P (shape.Word name.word ∷ xs)) → P (tokens (the_tree g gp qs) ++ xs)) (sym e)
      (λ word. word (record { word = w; span = gp }) refl xs) word))

  tail_head : (least : ℕ) (t : Plain) (more xs : List Shape) → ((ys : List Shape) → P ys → P (tokens t ++ ys)) → P (more ++ xs) → P ((placed least t ++ more) ++ xs)
  tail_head least t more xs h r = subst P (sym (append_assoc (placed least t) more xs)) (placed_head P least t (more ++ xs) (λ ys. sign punct.LeftParen ys) (h (more ++ xs) r))

  pub declarator_head : (f : Form) (sp : Span) (ps : Forest) → Good s.Declarator (the_tree f sp ps) → ((name : Name) → name_of (the_tree f sp ps) ≡ Some name → (xs : List Shape) → P (shape.Word name.word ∷ xs)) → (xs : List Shape) → P xs → P (tokens (the_tree f sp ps) ++ xs)
  declarator_head (form.Declarator declarator.Named) sp empty n word xs r = absurd (cc (good_fits s.Declarator _ n))
  declarator_head (form.Declarator declarator.Named) sp (tree g gp qs rest) n word xs r =
      let o = id_form g (head_plain g gp qs rest n.pure) (declared_stands g (head_plain g gp qs rest n.pure) (left_of (stands g s.DeclaredId) _ (good_fits s.Declarator _ n))) in
      name_head o.0 g gp qs rest sp o.1 word xs
  declarator_head (form.Declarator declarator.Absent) sp ps n word xs r = r
  declarator_head (form.Declarator declarator.Pointer) sp ps n word xs r = sign punct.Star _
  declarator_head (form.Declarator declarator.ArrayOf) sp empty n word xs r = absurd (cc (good_fits s.Declarator _ n))
  declarator_head (form.Declarator declarator.ArrayOf) sp (tree g gp qs rest) n word xs r =
      let c = inner_stands g (head_plain g gp qs rest n.pure) (left_of (stands g s.InnerDeclarator) _ (good_fits s.Declarator _ n)) in
      tail_head 2 (the_tree g gp qs) _ xs (λ ys y. declarator_head g gp qs (first_good s.Declarator g gp qs rest n.pure n.valid c) (λ name e. word name (ap (λ n. or_next n (name_in rest)) e)) ys y) (sign punct.LeftBracket _)
  declarator_head (form.Declarator declarator.FunctionOf) sp empty n word xs r = absurd (cc (good_fits s.Declarator _ n))
  declarator_head (form.Declarator declarator.FunctionOf) sp (tree g gp qs rest) n word xs r =
      let c = inner_stands g (head_plain g gp qs rest n.pure) (left_of (stands g s.InnerDeclarator) _ (good_fits s.Declarator _ n)) in
      tail_head 2 (the_tree g gp qs) _ xs (λ ys y. declarator_head g gp qs (first_good s.Declarator g gp qs rest n.pure n.valid c) (λ name e. word name (ap (λ n. or_next n (name_in rest)) e)) ys y) (sign punct.LeftParen _)
  declarator_head (form.Hole h) sp ps n word xs r = absurd (cc n.is_plain)
  declarator_head (form.Call m gives tail) sp ps n word xs r = absurd (cc n.is_plain)
  declarator_head (form.Exp (exp.Int w)) sp ps n word xs r = absurd (cc n.stands)
  declarator_head (form.Spec (spec.Storage c)) sp ps n word xs r = absurd (cc n.stands)
  declarator_head (form.Spec (spec.Qualifier k)) sp ps n word xs r = absurd (cc n.stands)
  declarator_head (form.Stmt stmt.Block) sp ps n word xs r = absurd (cc n.stands)
  declarator_head (form.Template (template.Many k)) sp ps n word xs r = absurd (cc n.stands)
  declarator_head (form.Group group.List) sp ps n word xs r = absurd (cc n.stands)
  declarator_head f sp ps n word xs r = absurd (cc n.stands)
