-- Lists of parameters are ready where their events hold, and the words of their scope are what a body declares again.
use Rattle.std.proofs.Common.{◌≡◌, refl, ap, sym, subst, ◌∙◌, ℕ, Bool, true, false, not, ◌&&◌, if◌then◌else◌, List, [], ◌∷◌, ◌++◌, append_assoc, Some, nat_eq}
use Rattle.c_tokens.specs.declared.span.Span.{Span}
use Rattle.c_tokens.specs.declared.token.Word.{Word}
use Rattle.c_tokens.specs.declared.token.Shape.{Shape}
use Rattle.c_tokens.specs.declared.token.Punct.TheVariants as punct
use Rattle.c_tokens.specs.declared.class.Class.TheVariants as class
use Rattle.c_forms.specs.declared.pieces.Repetition.TheVariants.{Many, Ended}
use Rattle.c_forms.specs.declared.pieces.Sort.{Sort}
use Rattle.c_forms.specs.declared.pieces.Sort.TheVariants as s
use Rattle.c_forms.specs.declared.forms.Form.{Form}
use Rattle.c_forms.specs.declared.forms.Form.TheVariants as form
use Rattle.c_forms.specs.declared.forms.ParamsForm.{ParamsForm}
use Rattle.c_forms.specs.declared.forms.ParamsForm.TheVariants as params
use Rattle.c_forms.specs.declared.forms.GroupForm.TheVariants as group
use Rattle.c_forms.specs.Forests.{Plain, Forest, empty, tree}
use Rattle.c_forms.specs.Fits.{fits, all_stand, is_list_of}
use Rattle.c_forms.specs.Measures.{is_plain, pieces}
use Rattle.c_forms.specs.Places.{stands}
use Rattle.c_reader.specs.States.{Entry, Edge, AsType, AsValue, State, Kept, nothing_kept, is_type, innermost}
use Rattle.c_reader.specs.Tokens.{Spot}
use Rattle.c_syntax.specs.Reading.{Usual}
use Rattle.c_trees.specs.Counts.{pure}
use Rattle.c_trees.specs.Valid.{valid}
use Rattle.scope_tables.specs.declared.table.WordClass.{WordClass}
use Rattle.scope_tables.specs.declared.table.WordClass.TheVariants.{TypeName, Value}
use Rattle.scope_tables.specs.Frames.{Frame, left, declared}
use Rattle.scope_tables.specs.Frames as Frames
use Rattle.scope_meanings.specs.declared.meaning.NameUse.{NameUse}
use Rattle.scope_meanings.specs.declared.meaning.NameUse.TheVariants as naming
use Rattle.scopes.specs.declared.event.Event.{Event}
use Rattle.scopes.specs.Events.{events_of, words, words_of_params}
use Rattle.scopes.specs.Settling.{Scoped, settled}
use Rattle.spelled_scopes.specs.Meant.{frames, entry_as, after_words}
use Rattle.spelled_scopes.proofs.Frames.{some_frame, words_over, words_innermost, words_left}
use Rattle.spelled_scopes.proofs.Words.{Only, only_words}
use Rattle.spelled_trees.proofs.Parts.{left_of, right_of}
use Rattle.ready_rows.proofs.Ready.{the_tree, others}
use Rattle.ready_rows.proofs.Standing.{begins_sign, asks, inner_asks, Holds, Parameters}
use Rattle.ready_rows.proofs.Steps.{append_nil, same_end, one_end, must_value}
use Rattle.ready_rows.proofs.Calm.{Here, first_holds, goes_on, regrouped, at_end, RowReady, AreReady, OthersReady}
use Rattle.ready_expressions.proofs.Expressions.{never}
use Rattle.ready_expressions.proofs.Heads.{id_form, parts_of}
use Rattle.scoped_spelled.proofs.Specifiers.{a_list}
use Rattle.scoped_spelled.proofs.Words.{Tells, list_tells}

-- ---- the words of a scope

-- the entries that mean a scope
abbrev entries_of : Frame → List Entry
entries_of [] = []
entries_of ((word, k) ∷ f) = entry_as k word ∷ entries_of f

one_more : (k : WordClass) (n : ℕ) (es : List Entry) → entries_of (Frames.innermost (frames es)) ≡ innermost es → entries_of (Frames.innermost (declared n k (frames es))) ≡ (entry_as k n ∷ innermost es)
one_more k n es e = let o = some_frame es in
    ap (λ fs. entries_of (Frames.innermost (declared n k fs))) o.1.1 ∙ ap (λ l. entry_as k n ∷ l) (sym (ap (λ fs. entries_of (Frames.innermost fs)) o.1.1) ∙ e)

-- the scopes tell the entries of the innermost
entries_told : (es : List Entry) → entries_of (Frames.innermost (frames es)) ≡ innermost es
entries_told [] = refl
entries_told (Edge late ∷ es) = refl
entries_told (AsType n ∷ es) = one_more TypeName n es (entries_told es)
entries_told (AsValue n ∷ es) = one_more Value n es (entries_told es)

-- after events that declare these words
words_told : (es ws : List Event) (s u : State) → Tells es ws → Only ws → settled es (frames s.entries) ≡ Scoped (frames u.entries) → innermost u.entries ≡ after_words ws (innermost s.entries)
words_told es ws s u t o h =
    let f = some_frame s.entries in
    let r = t f.0 f.1.0 (frames u.entries) (ap (settled es) (sym f.1.1) ∙ h) in
    let e : frames (after_words ws s.entries) ≡ frames u.entries = one_end (frames (after_words ws s.entries)) (frames u.entries) (sym (o s.entries) ∙ ap (settled ws) f.1.1 ∙ r.1.1) in
    sym (entries_told u.entries) ∙ ap (λ fs. entries_of (Frames.innermost fs)) (sym e) ∙ entries_told (after_words ws s.entries) ∙ words_innermost ws s.entries

-- they are declared again over others
words_again : (ws : List Event) (s u : State) → Only ws → innermost u.entries ≡ after_words ws (innermost s.entries) → innermost s.entries ≡ [] → (es : List Entry) → settled ws (frames es) ≡ Scoped (frames (innermost u.entries ++ es))
words_again ws s u o e z es = o es ∙ ap (λ es. Scoped (frames es)) (sym (ap (λ l. l ++ es) (e ∙ ap (after_words ws) z) ∙ words_over ws [] es))

-- ---- parameters with their types

more_sign : (es : Forest) (after : List Shape) → begins_sign after ≡ true → begins_sign (others (Some (class.Punct punct.Comma)) 0 es ++ after) ≡ true
more_sign empty after c = c
more_sign (tree f sp ps rest) after c = refl

params_after : (es : Forest) (i : Spot) (after : List Shape) (more : List Event) (gs : List Frame) (a : List Kept) (K : Spot → Type 0) → begins_sign after ≡ true → Here i.state (asks naming.Nothing es ++ more) gs a
    → ((j : Spot) → Here j.state more gs a → K j) → OthersReady s.Param 0 (Some (class.Punct punct.Comma)) es i after K
params_after empty i after more gs a K c h k = k i h
params_after (tree f sp ps rest) i after more gs a K c h k =
    let ds : List Event = events_of naming.Nothing (the_tree f sp ps) in
    let H : Here i.state (ds ++ (asks naming.Nothing rest ++ more)) gs a = regrouped i.state _ _ gs a (append_assoc ds (asks naming.Nothing rest) more) h in (
      (h.free, first_holds i.state ds (asks naming.Nothing rest ++ more) gs a H),
      (more_sign rest after c, λ j d. params_after rest j after more gs a K c (goes_on i.state j.state ds (asks naming.Nothing rest ++ more) gs a H d.made.0 d.made.1) k),
    )

params_elements : (es : Forest) (i : Spot) (after : List Shape) (more : List Event) (gs : List Frame) (a : List Kept) (K : Spot → Type 0) → begins_sign after ≡ true → Here i.state (asks naming.Nothing es ++ more) gs a
    → ((j : Spot) → Here j.state more gs a → K j) → AreReady s.Param 0 (Some (class.Punct punct.Comma)) es i after K
params_elements empty i after more gs a K c h k = k i h
params_elements (tree f sp ps rest) i after more gs a K c h k =
    let ds : List Event = events_of naming.Nothing (the_tree f sp ps) in
    let H : Here i.state (ds ++ (asks naming.Nothing rest ++ more)) gs a = regrouped i.state _ _ gs a (append_assoc ds (asks naming.Nothing rest) more) h in (
      (h.free, first_holds i.state ds (asks naming.Nothing rest ++ more) gs a H),
      (more_sign rest after c, λ j d. params_after rest j after more gs a K c (goes_on i.state j.state ds (asks naming.Nothing rest ++ more) gs a H d.made.0 d.made.1) k),
    )

abbrev list_alone : Span → Forest → Forest
list_alone kp es = tree (form.Group group.List) kp es empty

list_events : (u : NameUse) (kp : Span) (es : Forest) (fs gs : List Frame) → settled (asks u (list_alone kp es)) fs ≡ Scoped gs → settled (asks u es ++ []) fs ≡ Scoped gs
list_events u kp es fs gs h = ap (λ l. settled l fs) (sym (append_nil (asks u es ++ []))) ∙ h

typed_done : (t : Plain) (kp : Span) (es : Forest) (m u : State) (gs : List Frame) → inner_asks naming.Nothing t ≡ asks naming.Nothing (list_alone kp es) → words_of_params (tree t.form t.span t.parts empty) ≡ words naming.Nothing (list_alone kp es)
    → pure es ≡ true → valid es ≡ true → all_stand s.Param es ≡ true → settled (asks naming.Nothing (list_alone kp es)) (frames m.entries) ≡ Scoped gs → Here u [] gs m.aside → Parameters t m u
typed_done t kp es m u gs x y p v e h H =
    let ds : List Event = asks naming.Nothing (list_alone kp es) in
    let ws : List Event = words naming.Nothing (list_alone kp es) in
    let run : settled ds (frames m.entries) ≡ Scoped (frames u.entries) = h ∙ ap Scoped (sym (at_end u gs m.aside H)) in
    let o : Only ws = only_words naming.Nothing (list_alone kp es) in record {
      aside = H.aside;
      left = λ fs k. ap left (same_end ds (frames m.entries) fs (frames u.entries) (ap (λ l. settled l (frames m.entries)) (sym x) ∙ k) run);
      words = λ z ns. ap (λ l. settled l (frames ns)) y ∙ words_again ws m u o (words_told ds ws m u (list_tells naming.Nothing s.Param kp es refl p v e) o run) z ns;
    }

-- ---- identifier lists

pub parameter_stands : (f : Form) → is_plain f ≡ true → stands f s.ParameterId ≡ true → stands f s.Id ≡ true
parameter_stands (form.Hole h) p e = absurd (cc p)
parameter_stands (form.Call n gives tail) p e = absurd (cc p)
parameter_stands f p e = e

-- values of some entries are values of others
abbrev Values : List Entry → List Entry → Type 0
Values outer es = (n : ℕ) → is_type outer n ≡ false → is_type es n ≡ false

one_value : (c b : Bool) → b ≡ false → (if c then false else b) ≡ false
one_value true b e = refl
one_value false b e = e

-- the first of some, and the others
first_id : (w : Word) (gp : Span) (qs rest : Forest) (m : State) (outer : List Entry) (gs : List Frame) → Values outer m.entries → m.kept.has_type ≡ false → settled (asks naming.Checked (tree (form.Id w) gp qs rest) ++ []) (frames outer) ≡ Scoped gs
    → ((word : Word) → form.Id w ≡ form.Id word → (not m.kept.has_type && is_type m.entries word.0) ≡ false) × (settled (asks naming.Checked rest ++ []) (frames outer) ≡ Scoped gs)
first_id w gp qs rest m outer gs V t h = let o = must_value w gp (asks naming.Checked rest ++ []) outer gs h in
    (λ word e. ap (λ (w : Word). not m.kept.has_type && is_type m.entries w.0) (cc e) ∙ ap (λ b. not b && is_type m.entries w.0) t ∙ V w.0 o.0, o.1)

ids_after : (es : Forest) (i : Spot) (after : List Shape) (outer : List Entry) (gs : List Frame) (a : List Kept) (K : Spot → Type 0) → pure es ≡ true → all_stand s.ParameterId es ≡ true → Values outer i.state.entries → i.state.kept.has_type ≡ false → i.state.aside ≡ a
    → settled (asks naming.Checked es ++ []) (frames outer) ≡ Scoped gs → ((j : Spot) → j.state.entries ≡ after_words (words naming.CheckedAndDeclared es) i.state.entries → j.state.aside ≡ a → gs ≡ frames outer → K j)
    → OthersReady s.ParameterId 0 (Some (class.Punct punct.Comma)) es i after K
ids_after empty i after outer gs a K p e V t x h k = k i refl x (one_end gs (frames outer) (sym h))
ids_after (tree f sp ps rest) i after outer gs a K p e V t x h k =
    let c = left_of (is_plain f) (pure ps) (left_of (is_plain f && pure ps) (pure rest) p) in
    let o = id_form f c (parameter_stands f c (left_of (stands f s.ParameterId) (all_stand s.ParameterId rest) e)) in
    subst (λ f. settled (asks naming.Checked (tree f sp ps rest) ++ []) (frames outer) ≡ Scoped gs → ((j : Spot) → j.state.entries ≡ after_words (words naming.CheckedAndDeclared (tree f sp ps rest)) i.state.entries → j.state.aside ≡ a → gs ≡ frames outer → K j)
    → OthersReady s.ParameterId 0 (Some (class.Punct punct.Comma)) (tree f sp ps rest) i after K) (sym o.1)
    (λ h k. let w = o.0 in let r = first_id w sp ps rest i.state outer gs V t h in (
      r.0,
      (
        tt,
        λ j d. let y = d.made.entries w refl in
            ids_after rest j after outer gs a K (right_of (is_plain f && pure ps) (pure rest) p) (right_of (stands f s.ParameterId) (all_stand s.ParameterId rest) e)
            (λ n v. ap (λ es. is_type es n) y ∙ one_value (nat_eq n w.0) (is_type i.state.entries n) (V n v)) (d.made.typed ∙ t) (d.made.aside ∙ x) r.1
            (λ m z. k m (z ∙ ap (after_words (words naming.CheckedAndDeclared rest)) y)),
      ),
    )) h k

ids_elements : (es : Forest) (i : Spot) (after : List Shape) (gs : List Frame) (K : Spot → Type 0) → pure es ≡ true → all_stand s.ParameterId es ≡ true → i.state.kept.has_type ≡ false → settled (asks naming.Checked es ++ []) (frames i.state.entries) ≡ Scoped gs
    → ((j : Spot) → j.state.entries ≡ after_words (words naming.CheckedAndDeclared es) i.state.entries → j.state.aside ≡ i.state.aside → gs ≡ frames i.state.entries → K j) → AreReady s.ParameterId 0 (Some (class.Punct punct.Comma)) es i after K
ids_elements empty i after gs K p e t h k = k i refl refl (one_end gs (frames i.state.entries) (sym h))
ids_elements (tree f sp ps rest) i after gs K p e t h k =
    let c = left_of (is_plain f) (pure ps) (left_of (is_plain f && pure ps) (pure rest) p) in
    let o = id_form f c (parameter_stands f c (left_of (stands f s.ParameterId) (all_stand s.ParameterId rest) e)) in
    subst (λ f. settled (asks naming.Checked (tree f sp ps rest) ++ []) (frames i.state.entries) ≡ Scoped gs
    → ((j : Spot) → j.state.entries ≡ after_words (words naming.CheckedAndDeclared (tree f sp ps rest)) i.state.entries → j.state.aside ≡ i.state.aside → gs ≡ frames i.state.entries → K j)
    → AreReady s.ParameterId 0 (Some (class.Punct punct.Comma)) (tree f sp ps rest) i after K) (sym o.1)
    (λ h k. let w = o.0 in let r = first_id w sp ps rest i.state i.state.entries gs (λ n v. v) t h in (
      r.0,
      (
        tt,
        λ j d. let y = d.made.entries w refl in
            ids_after rest j after i.state.entries gs i.state.aside K (right_of (is_plain f && pure ps) (pure rest) p) (right_of (stands f s.ParameterId) (all_stand s.ParameterId rest) e)
            (λ n v. ap (λ es. is_type es n) y ∙ one_value (nat_eq n w.0) (is_type i.state.entries n) v) (d.made.typed ∙ t) d.made.aside r.1
            (λ m z. k m (z ∙ ap (after_words (words naming.CheckedAndDeclared rest)) y)),
      ),
    )) h k

ids_done : (sp kp : Span) (es : Forest) (m u : State) (gs : List Frame) → settled (asks naming.Checked (list_alone kp es)) (frames m.entries) ≡ Scoped gs → u.entries ≡ after_words (words naming.CheckedAndDeclared es) m.entries → u.aside ≡ m.aside → gs ≡ frames m.entries
    → Parameters (the_tree (form.Params params.Ids) sp (list_alone kp es)) m u
ids_done sp kp es m u gs h x a g =
    let ws : List Event = words naming.CheckedAndDeclared (list_alone kp es) in
    let y : u.entries ≡ after_words ws m.entries = x ∙ ap (λ ws. after_words ws m.entries) (sym (append_nil (words naming.CheckedAndDeclared es ++ []) ∙ append_nil (words naming.CheckedAndDeclared es))) in
    record {
      aside = a;
      left = λ fs k. ap left (same_end (asks naming.Checked (list_alone kp es)) (frames m.entries) fs gs k h ∙ g) ∙ sym (ap (λ es. left (frames es)) y ∙ words_left ws m.entries);
      words = λ z ns. words_again ws m u (only_words naming.CheckedAndDeclared (list_alone kp es)) (ap innermost y ∙ words_innermost ws m.entries) z ns;
    }

-- ---- each form

abbrev ParamsRow : Sort → ParamsForm → Span → Forest → Spot → List Shape → Type 0
ParamsRow own x sp ts i after = Holds (inner_asks naming.Nothing (the_tree (form.Params x) sp ts)) i.state → RowReady own (form.Params x) Usual (pieces (form.Params x)) ts i after (λ j. Parameters (the_tree (form.Params x) sp ts) i.state j.state)

typed_row : (own : Sort) (sp kp : Span) (es : Forest) (i : Spot) (after : List Shape) → pure es ≡ true → valid es ≡ true → all_stand s.Param es ≡ true → begins_sign after ≡ true → i.state.kept ≡ nothing_kept → ParamsRow own params.Typed sp (list_alone kp es) i after
typed_row own sp kp es i after p v e c f h =
    params_elements es i after [] h.0 i.state.aside (λ j. Parameters (the_tree (form.Params params.Typed) sp (list_alone kp es)) i.state j.state) c (record { free = f; holds = list_events naming.Nothing kp es (frames i.state.entries) h.0 h.1; aside = refl })
    (λ j H. typed_done (the_tree (form.Params params.Typed) sp (list_alone kp es)) kp es i.state j.state h.0 refl refl p v e h.1 H)

more_row : (own : Sort) (sp kp : Span) (es : Forest) (i : Spot) (after : List Shape) → pure es ≡ true → valid es ≡ true → all_stand s.Param es ≡ true → i.state.kept ≡ nothing_kept → ParamsRow own params.TypedAndMore sp (list_alone kp es) i after
more_row own sp kp es i after p v e f h =
    params_elements es i _ [] h.0 i.state.aside _ refl (record { free = f; holds = list_events naming.Nothing kp es (frames i.state.entries) h.0 h.1; aside = refl })
    (λ j H. typed_done (the_tree (form.Params params.TypedAndMore) sp (list_alone kp es)) kp es i.state j.state h.0 refl refl p v e h.1 H)

ids_row : (own : Sort) (sp kp : Span) (es : Forest) (i : Spot) (after : List Shape) → pure es ≡ true → all_stand s.ParameterId es ≡ true → i.state.kept ≡ nothing_kept → ParamsRow own params.Ids sp (list_alone kp es) i after
ids_row own sp kp es i after p e f h =
    ids_elements es i after h.0 (λ j. Parameters (the_tree (form.Params params.Ids) sp (list_alone kp es)) i.state j.state) p e (ap (λ (k : Kept). k.has_type) f) (list_events naming.Checked kp es (frames i.state.entries) h.0 h.1)
    (λ j x a g. ids_done sp kp es i.state j.state h.0 h.1 x a g)

pub params_ready : (own : Sort) (x : ParamsForm) (sp : Span) (ts : Forest) (i : Spot) (after : List Shape) → fits (pieces (form.Params x)) ts ≡ true → pure ts ≡ true → valid ts ≡ true → begins_sign after ≡ true → i.state.kept ≡ nothing_kept → ParamsRow own x sp ts i after
params_ready own params.Ids sp empty i after t p v c f h = absurd (cc t)
params_ready own params.Ids sp (tree k kp es (tree g gp qs rest)) i after t p v c f h = absurd (never _ t)
params_ready own params.Ids sp (tree k kp es empty) i after t p v c f h =
    let a = a_list (Many (Some (class.Punct punct.Comma)) 0) s.ParameterId k kp es empty (left_of (is_list_of (Many (Some (class.Punct punct.Comma)) 0) s.ParameterId k es) true t) p in
    subst (λ k. ParamsRow own params.Ids sp (tree k kp es empty) i after) (sym a.0) (ids_row own sp kp es i after a.1.0 a.1.1 f) h
params_ready own params.Typed sp empty i after t p v c f h = absurd (cc t)
params_ready own params.Typed sp (tree k kp es (tree g gp qs rest)) i after t p v c f h = absurd (never _ t)
params_ready own params.Typed sp (tree k kp es empty) i after t p v c f h =
    let a = a_list (Ended (class.Punct punct.Comma) (class.Punct punct.Ellipsis)) s.Param k kp es empty (left_of (is_list_of (Ended (class.Punct punct.Comma) (class.Punct punct.Ellipsis)) s.Param k es) true t) p in
    subst (λ k. ParamsRow own params.Typed sp (tree k kp es empty) i after) (sym a.0) (typed_row own sp kp es i after a.1.0 (parts_of k kp es empty p v).1 a.1.1 c f) h
params_ready own params.TypedAndMore sp empty i after t p v c f h = absurd (cc t)
params_ready own params.TypedAndMore sp (tree k kp es (tree g gp qs rest)) i after t p v c f h = absurd (never _ t)
params_ready own params.TypedAndMore sp (tree k kp es empty) i after t p v c f h =
    let a = a_list (Ended (class.Punct punct.Comma) (class.Punct punct.Ellipsis)) s.Param k kp es empty (left_of (is_list_of (Ended (class.Punct punct.Comma) (class.Punct punct.Ellipsis)) s.Param k es) true t) p in
    subst (λ k. ParamsRow own params.TypedAndMore sp (tree k kp es empty) i after) (sym a.0) (more_row own sp kp es i after a.1.0 (parts_of k kp es empty p v).1 a.1.1 f) h
