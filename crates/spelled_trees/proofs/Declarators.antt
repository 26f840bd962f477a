-- What a declarator with another inside of it leaves.
use Rattle.std.proofs.Common.{◌≡◌, refl, ap, sym, ◌∙◌, subst, ℕ, Bool, true, false, not, ◌||◌, List, [], ◌∷◌, None, is_some}
use Rattle.c_tokens.specs.declared.token.Shape.{Shape}
use Rattle.c_forms.specs.declared.pieces.Sort.{Sort}
use Rattle.c_forms.specs.declared.pieces.Sort.TheVariants as s
use Rattle.c_forms.specs.declared.forms.Form.{Form}
use Rattle.c_forms.specs.declared.forms.Form.TheVariants as form
use Rattle.c_forms.specs.declared.forms.DeclaratorForm.TheVariants as declarator
use Rattle.c_forms.specs.declared.forms.ParamsForm.TheVariants as params
use Rattle.c_forms.specs.Forests.{Plain, Forest, empty, tree, forest, node}
use Rattle.c_forms.specs.declared.pieces.Event.TheVariants as event
use Rattle.c_forms.specs.declared.pieces.Repetition.{Repetition}
use Rattle.c_forms.specs.declared.pieces.Repetition.TheVariants.{Optional, Many}
use Rattle.c_tokens.specs.declared.span.Span.{Span}
use Rattle.c_forms.specs.Measures.{pieces}
use Rattle.c_forms.specs.Places.{stands, serves}
use Rattle.c_forms.specs.Rules.{is_none, in_first, is_name, named_at, names, function_at, has_function, has_ids}
use Rattle.c_reader.specs.States.{Edge, AsType, AsValue, parameters, State, Kept, Entry, Near, Bare, Parameters, Other, sealed, with_parameters, is_bare, has_parameters, innermost, top, happens}
use Rattle.c_reader.specs.Tokens.{Spot, step, turned}
use Rattle.c_syntax.specs.Allowed.{has_name}
use Rattle.c_syntax.specs.Reading.{Before, Usual, inside, the_list}
use Rattle.c_syntax.specs.Spells.{Spelling, IsGroup, Matches, may_list}
use Rattle.spelled_trees.specs.Effects.{needs, Meets, Keeps, Done, does, is_plain_sort}
use Rattle.spelled_trees.specs.Scoped.{are_words}
use Rattle.spelled_trees.specs.Told.{is_named, is_function, is_bare_name, Told}
use Rattle.spelled_trees.proofs.Parts.{both, group_fold}
use Rattle.spelled_trees.proofs.Fitted.{at_sort, inside_stands}

-- ---- what stands next to a name

sealed_bare : (n : Near) → is_bare (sealed n) ≡ false
sealed_bare Bare = refl
sealed_bare (Parameters ws) = refl
sealed_bare Other = refl

sealed_parameters : (n : Near) → has_parameters (sealed n) ≡ has_parameters n
sealed_parameters Bare = refl
sealed_parameters (Parameters ws) = refl
sealed_parameters Other = refl

with_bare : (ws : List Entry) (n : Near) → is_bare (with_parameters ws n) ≡ false
with_bare ws Bare = refl
with_bare ws (Parameters vs) = refl
with_bare ws Other = refl

with_function : (ws : List Entry) (n : Near) → has_parameters (with_parameters ws n) ≡ (is_bare n || has_parameters n)
with_function ws Bare = refl
with_function ws (Parameters vs) = refl
with_function ws Other = refl

pub or_false : (a : Bool) → (a || false) ≡ a
or_false true = refl
or_false false = refl

sealed_words : (n : Near) → parameters (sealed n) ≡ parameters n
sealed_words Bare = refl
sealed_words (Parameters ws) = refl
sealed_words Other = refl

innermost_words : (es : List Entry) → are_words (innermost es) ≡ true
innermost_words [] = refl
innermost_words (Edge late ∷ es) = refl
innermost_words (AsType word ∷ es) = innermost_words es
innermost_words (AsValue word ∷ es) = innermost_words es

with_words : (ws : List Entry) (n : Near) → are_words ws ≡ true → are_words (parameters n) ≡ true → are_words (parameters (with_parameters ws n)) ≡ true
with_words ws Bare h k = h
with_words ws (Parameters vs) h k = k
with_words ws Other h k = k

-- ---- parameters are no declarators

params_unnamed : (f : Form) (b : Bool) → stands f s.Params ≡ true → named_at f b ≡ false
params_unnamed (form.Declarator f) b h = absurd (cc h)
params_unnamed f b h = refl

params_no_function : (f : Form) (a b : Bool) → stands f s.Params ≡ true → function_at f a b ≡ false
params_no_function (form.Declarator f) a b h = absurd (cc h)
params_no_function f a b h = refl

no_ids : (f : Form) (sp : Span) (ps rest : Forest) → stands f s.InnerDeclarator ≡ true → has_ids (tree f sp ps rest) ≡ has_ids rest
no_ids (form.Params params.Ids) sp ps rest h = absurd (cc h)
no_ids f sp ps rest h = refl

or_no : (a b : Bool) → b ≡ false → (a || (false || b)) ≡ true → a ≡ true
or_no true b e h = refl
or_no false b e h = absurd (cc (e, h))

not_none : (b : Bool) → not b ≡ true → b ≡ false
not_none true h = absurd (cc h)
not_none false h = refl

ids_named : (x : State) (f : Form) (sp : Span) (ps : Forest) → may_list x (record { form = f; span = sp; parts = ps }) ≡ true → has_ids (tree f sp ps empty) ≡ true → has_name x ≡ true
ids_named x (form.Params params.Ids) sp ps m h = or_no (has_name x) (is_none (in_first ps)) (not_none (is_none (in_first ps)) h) m
ids_named x f sp ps m h = absurd (cc h)

-- ---- the parts of a declarator

pub listed_names : (list part : Plain) (sp : Span) (xs : List Plain) → list ≡ node the_list sp xs → names (forest (list ∷ (part ∷ []))) ≡ is_named part
listed_names list part sp xs e = rw e (or_false (is_named part))

listed_function : (list part : Plain) (sp : Span) (xs : List Plain) → list ≡ node the_list sp xs → has_function (forest (list ∷ (part ∷ []))) ≡ is_function part
listed_function list part sp xs e = rw e (or_false (is_function part))

names_listed : (list part : Plain) (sp : Span) (xs : List Plain) → list ≡ node the_list sp xs → names (forest (part ∷ (list ∷ []))) ≡ is_named part
names_listed list part sp xs e = rw e (or_false (is_named part))

function_listed : (list part : Plain) (sp : Span) (xs : List Plain) → list ≡ node the_list sp xs → has_function (forest (part ∷ (list ∷ []))) ≡ is_function part
function_listed list part sp xs e = rw e (or_false (is_function part))

pub two : {ts us vs : List Plain} {a b : Plain} → ts ≡ a ∷ us → us ≡ b ∷ vs → vs ≡ [] → ts ≡ a ∷ (b ∷ [])
two {a = a} {b = b} e f g = e ∙ ap (λ l. a ∷ l) (f ∙ ap (λ l. b ∷ l) g)

bare_of : (f : Form) (sp : Span) (ps rest : Forest) → is_name (tree f sp ps rest) ≡ is_name (tree f sp empty empty)
bare_of (form.Declarator declarator.Named) sp ps rest = refl
bare_of f sp ps rest = refl

-- a declarator inside one, and what is left of it
pub record Within (P : Spelling) (own : Sort) (ts : List Plain) (i j : Spot) : Type 0 where
  pub part : Plain
  pub least : ℕ
  pub from : Spot
  pub upto : Spot
  pub spelled : P (inside own s.InnerDeclarator) least part from upto
  pub begins : i.state.kept.name ≡ None → from.state.kept.name ≡ None
  pub name : j.state.kept.name ≡ upto.state.kept.name
  pub bare : is_bare j.state.kept.near ≡ false
  pub named : names (forest ts) ≡ is_named part
  pub words : are_words (parameters upto.state.kept.near) ≡ true → are_words (parameters j.state.kept.near) ≡ true

module _ (w : List Shape) (P : Spelling) (T : (due : Sort) (least : ℕ) (t : Plain) (i j : Spot) → P due least t i j → is_plain_sort due ≡ true → Meets (needs due) i.state.kept → Told w due t i j)
    (S : (due : Sort) (least : ℕ) (t : Plain) (i j : Spot) → P due least t i j → stands t.form due ≡ true) where
  -- elements that leave all as it was
  pub kept_in : (due : Sort) (least : ℕ) → ((k : Kept) → Meets (needs due) k) → is_plain_sort due ≡ true → does due ≡ Keeps → (r : Repetition) (before : Before) (ts : List Plain) (i j : Spot) → IsGroup r due (P due least) before w ts i j → j.state.kept ≡ i.state.kept
  kept_in due least n p d r before ts i j G = group_fold w (P due least) (λ ts i j. j.state.kept ≡ i.state.kept) (λ i. refl)
      (λ ts t i j k m R s q. (subst (λ x. Done x k.state.kept m.state.kept) d (T due least t k m q p (n k.state.kept)).leaves.kept) ∙ (ap (λ (x : State). x.kept) s ∙ R)) r due before ts i j G

  pub aside_in : (due : Sort) (least : ℕ) → ((k : Kept) → Meets (needs due) k) → is_plain_sort due ≡ true → (r : Repetition) (before : Before) (ts : List Plain) (i j : Spot) → IsGroup r due (P due least) before w ts i j → j.state.aside ≡ i.state.aside
  aside_in due least n p r before ts i j G = group_fold w (P due least) (λ ts i j. j.state.aside ≡ i.state.aside) (λ i. refl)
      (λ ts t i j k m R s q. (T due least t k m q p (n k.state.kept)).leaves.aside ∙ (ap (λ (x : State). x.aside) s ∙ R)) r due before ts i j G

  pub record Pointed (own : Sort) (ts : List Plain) (i j : Spot) : Type 0 where
    pub within : Within P own ts i j
    pub parameters : has_parameters j.state.kept.near ≡ has_parameters within.upto.state.kept.near
    pub function : has_function (forest ts) ≡ is_function within.part

  pub pointer : (own : Sort) (before : Before) (ts : List Plain) (i j : Spot) → Matches P w own (form.Declarator declarator.Pointer) before (pieces (form.Declarator declarator.Pointer)) ts i j → Pointed own ts i j
  pointer own before ts i j M = let G = M.1 in let N = G.are_others in let e = two G.value N.value N.are_others.1.0 in let q = N.are_others.1.1 in record {
    within = record {
      part = N.first;
      least = 1;
      from = G.place;
      upto = N.place;
      spelled = N.is_first;
      begins = λ h. ap (λ (x : Kept). x.name) (kept_in s.Qualifier 0 (λ k. tt) refl refl (Many None 0) Usual G.is_first.0 (step i) G.place G.is_first.1.1) ∙ h;
      name = sym (ap (λ (x : Spot). x.state.kept.name) q);
      bare = sym (ap (λ (x : Spot). is_bare x.state.kept.near) q) ∙ sealed_bare N.place.state.kept.near;
      named = ap (λ l. names (forest l)) e ∙ listed_names G.first N.first _ G.is_first.0 G.is_first.1.0;
      words = λ h. sym (ap (λ (x : Spot). are_words (parameters x.state.kept.near)) q) ∙ (ap are_words (sealed_words N.place.state.kept.near) ∙ h);
    };
    parameters = sym (ap (λ (x : Spot). has_parameters x.state.kept.near) q) ∙ sealed_parameters N.place.state.kept.near;
    function = ap (λ l. has_function (forest l)) e ∙ listed_function G.first N.first _ G.is_first.0 G.is_first.1.0;
  }

  pub array : (own : Sort) (before : Before) (ts : List Plain) (i j : Spot) → Matches P w own (form.Declarator declarator.ArrayOf) before (pieces (form.Declarator declarator.ArrayOf)) ts i j → Pointed own ts i j
  array own before ts i j M = let G = M.are_others.1.1 in let e = two M.value G.value G.are_others.1.1.1.0 in let q = G.are_others.1.1.1.1 in
      let k = ap top (aside_in s.Exp 3 (λ k. tt) refl Optional Usual G.is_first.0 (turned (happens event.Aside) (step M.place)) G.place G.is_first.1.1) in record {
        within = record {
          part = M.first;
          least = 2;
          from = i;
          upto = M.place;
          spelled = M.is_first;
          begins = λ h. h;
          name = sym (ap (λ (x : Spot). x.state.kept.name) q) ∙ ap (λ (x : Kept). x.name) k;
          bare = sym (ap (λ (x : Spot). is_bare x.state.kept.near) q) ∙ sealed_bare (top G.place.state.aside).near;
          named = ap (λ l. names (forest l)) e ∙ names_listed G.first M.first _ G.is_first.0 G.is_first.1.0;
          words = λ h. sym (ap (λ (x : Spot). are_words (parameters x.state.kept.near)) q) ∙ (ap are_words (sealed_words (top G.place.state.aside).near) ∙ (ap (λ (x : Kept). are_words (parameters x.near)) k ∙ h));
        };
        parameters = sym (ap (λ (x : Spot). has_parameters x.state.kept.near) q) ∙ (sealed_parameters (top G.place.state.aside).near ∙ ap (λ (x : Kept). has_parameters x.near) k);
        function = ap (λ l. has_function (forest l)) e ∙ function_listed G.first M.first _ G.is_first.0 G.is_first.1.0;
      }

  pub record Applied (own : Sort) (ts : List Plain) (i j : Spot) : Type 0 where
    pub within : Within P own ts i j
    pub parameters : has_parameters j.state.kept.near ≡ (is_bare within.upto.state.kept.near || has_parameters within.upto.state.kept.near)
    pub function : has_function (forest ts) ≡ is_function within.part
    pub next : is_name (forest ts) ≡ is_bare_name within.part
    pub ids : has_ids (forest ts) ≡ true → is_some within.upto.state.kept.name ≡ true

  pub function : (own : Sort) → serves s.Declarator own ≡ true → (before : Before) (ts : List Plain) (i j : Spot) → Matches P w own (form.Declarator declarator.FunctionOf) before (pieces (form.Declarator declarator.FunctionOf)) ts i j → Applied own ts i j
  function own serve before ts i j M = let G = M.are_others.1.1.1 in let e = two M.value G.value G.are_others.1.1.0 in let q = G.are_others.1.1.1 in
      let start = turned (happens event.Enter) (turned (happens event.Aside) (step M.place)) in let p = at_sort P own s.Params 0 G.first start G.place refl G.is_first in
      let R = T s.Params 0 G.first start G.place p refl (record { untyped = refl; unsettled = refl; nameless = refl }) in let k = ap top R.leaves.aside in let c = S s.Params 0 G.first start G.place p in
      let d = inside_stands own s.InnerDeclarator 2 [] M.first.form (both (serves s.Declarator own) true serve refl) (S (inside own s.InnerDeclarator) 2 M.first i M.place M.is_first) in record {
        within = record {
          part = M.first;
          least = 2;
          from = i;
          upto = M.place;
          spelled = M.is_first;
          begins = λ h. h;
          name = sym (ap (λ (x : Spot). x.state.kept.name) q) ∙ ap (λ (x : Kept). x.name) k;
          bare = sym (ap (λ (x : Spot). is_bare x.state.kept.near) q) ∙ with_bare (innermost G.place.state.entries) (top G.place.state.aside).near;
          named = ap (λ l. names (forest l)) e ∙ (ap (λ b. is_named M.first || (b || false)) (params_unnamed G.first.form (names G.first.parts) c) ∙ or_false (is_named M.first));
          words = λ h. sym (ap (λ (x : Spot). are_words (parameters x.state.kept.near)) q) ∙ with_words (innermost G.place.state.entries) (top G.place.state.aside).near (innermost_words G.place.state.entries) (ap (λ (x : Kept). are_words (parameters x.near)) k ∙ h);
        };
        parameters = sym (ap (λ (x : Spot). has_parameters x.state.kept.near) q) ∙ (with_function (innermost G.place.state.entries) (top G.place.state.aside).near ∙ ap (λ (x : Kept). is_bare x.near || has_parameters x.near) k);
        function = ap (λ l. has_function (forest l)) e ∙ (ap (λ b. is_function M.first || (b || false)) (params_no_function G.first.form (is_name G.first.parts) (has_function G.first.parts) c) ∙ or_false (is_function M.first));
        next = ap (λ l. is_name (forest l)) e ∙ bare_of M.first.form M.first.span M.first.parts (forest (G.first ∷ []));
        ids = λ h. ids_named start.state G.first.form G.first.span G.first.parts R.besides (sym (no_ids M.first.form M.first.span M.first.parts (forest (G.first ∷ [])) d) ∙ (sym (ap (λ l. has_ids (forest l)) e) ∙ h));
      }
