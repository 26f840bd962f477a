-- How walks through events are put together, and how they are taken back.
use Rattle.std.proofs.Common.{◌≡◌, refl, ap, sym, subst, ◌∙◌, ℕ, zero, suc, ◌+◌, ◌<◌, ◌≤◌, Bool, true, false, List, [], ◌∷◌, ◌++◌, length, drop, get_or, drop-cons, arith, if◌then◌else◌, Option, Result, Ok, Err}
use Rattle.std.specs.Result.{IsErrAnd}
use Rattle.std.proofs.lemmas.Result.{err_from_is_err_and}
use Rattle.c_forms.specs.declared.forms.Form.{Form}
use Rattle.c_forms.specs.Forests.{Plain, Forest, forest}
use Rattle.c_tokens.specs.declared.span.Span.{Span}
use Rattle.c_tokens.specs.declared.token.Word.{Word}
use Rattle.scopes.specs.declared.event.Event.{Event}
use Rattle.scopes.specs.declared.event.Event.TheVariants.{Enter, Leave, Must, Declare}
use Rattle.scope_tables.specs.declared.table.WordClass.{WordClass}
use Rattle.scopes.specs.declared.event.WalkStop.{WalkStop}
use Rattle.scopes.specs.declared.event.WalkStop.TheVariants.{Clash, Memory}
use Rattle.scope_tables.specs.Frames.{Frame, class_of, entered, left, declared, undone, steps_in}
use Rattle.scope_meanings.specs.declared.meaning.NameUse.{NameUse}
use Rattle.scope_meanings.specs.declared.meaning.Meaning.TheVariants as means
use Rattle.scope_meanings.specs.Meanings.{meaning, inside, declares, name_in}
use Rattle.scopes.specs.Events.{scope, in_order, declared_as, words, words_by, words_of, by_meaning, each, events_of, name_checked, body, function}
use Rattle.scopes.specs.Events as events
use Rattle.scope_meanings.specs.declared.meaning.Name.{Name}
use Rattle.scope_tables.specs.declared.table.WordClass.TheVariants.{Value}
use Rattle.scopes.specs.Settling.{Scoped, Clashes, settled, is_same, Stops}
use Rattle.scopes.specs.Steps.{undone_by, IsLater, Goes, IsUnderWay}

-- events and then others

settled_same : (ys : List Event) (old mid : List Frame) → Scoped old ≡ Scoped mid → settled ys old ≡ settled ys mid
settled_same ys old mid e = ap (settled ys) (let same : old ≡ mid = cc in same)

pub settled-append : (xs ys : List Event) (old mid : List Frame) → settled xs old ≡ Scoped mid → settled (xs ++ ys) old ≡ settled ys mid
settled-append [] ys old mid e = settled_same ys old mid e
settled-append (Enter ∷ xs) ys old mid e = settled-append xs ys (entered old) mid e
settled-append (Leave ∷ xs) ys old mid e = settled-append xs ys (left old) mid e
settled-append (Declare word class ∷ xs) ys old mid e = settled-append xs ys (declared word.0 class old) mid e
settled-append (Must word wanted span ∷ xs) ys old mid e = by (is_same wanted (class_of word.0 old)) (settled-append xs ys old mid) e
  where
    by : (b : Bool) → (settled xs old ≡ Scoped mid → settled (xs ++ ys) old ≡ settled ys mid) → (if b then settled xs old else Clashes word wanted (class_of word.0 old) span) ≡ Scoped mid → (if b then settled (xs ++ ys) old else Clashes word wanted (class_of word.0 old) span) ≡ settled ys mid
    by true so e = so e
    by false so e = absurd (cc)

clashes-append : (xs ys : List Event) (old : List Frame) (w : Word) (a f : WordClass) (s : Span) → settled xs old ≡ Clashes w a f s → settled (xs ++ ys) old ≡ Clashes w a f s
clashes-append [] ys old w a f s e = absurd (cc)
clashes-append (Enter ∷ xs) ys old w a f s e = clashes-append xs ys (entered old) w a f s e
clashes-append (Leave ∷ xs) ys old w a f s e = clashes-append xs ys (left old) w a f s e
clashes-append (Declare word class ∷ xs) ys old w a f s e = clashes-append xs ys (declared word.0 class old) w a f s e
clashes-append (Must word wanted span ∷ xs) ys old w a f s e = by (is_same wanted (class_of word.0 old)) (clashes-append xs ys old w a f s) e
  where
    by : (b : Bool) → (settled xs old ≡ Clashes w a f s → settled (xs ++ ys) old ≡ Clashes w a f s) → (if b then settled xs old else Clashes word wanted (class_of word.0 old) span) ≡ Clashes w a f s → (if b then settled (xs ++ ys) old else Clashes word wanted (class_of word.0 old) span) ≡ Clashes w a f s
    by true so e = so e
    by false so e = e

stops-append : (stop : WalkStop) (xs ys : List Event) (old : List Frame) → Stops stop (settled xs old) → Stops stop (settled (xs ++ ys) old)
stops-append (Clash word wanted found span) xs ys old h = clashes-append xs ys old word wanted found span h
stops-append Memory xs ys old h = tt

-- taking back

pub later_same : (frames : List Frame) → IsLater frames frames
later_same frames = record { count = 0; steps = omega arith; back = refl }

suc-plus : (m n : ℕ) → suc m + n ≡ suc (m + n)
suc-plus m n = omega arith

undone_by-plus : (m n : ℕ) (frames : List Frame) → undone_by (m + n) frames ≡ undone_by n (undone_by m frames)
undone_by-plus zero n frames = ap (λ k. undone_by k frames) (let e : 0 + n ≡ n = omega arith in e)
undone_by-plus (suc m) n frames = ap (λ k. undone_by k frames) (suc-plus m n) ∙ undone_by-plus m n (undone frames)

pub later_still : (old mid now : List Frame) → IsLater old mid → IsLater mid now → IsLater old now
later_still old mid now h k = record { count = k.count + h.count; steps = omega (arith, h.steps, k.steps); back = undone_by-plus k.count h.count now ∙ ap (undone_by h.count) k.back ∙ h.back }

steps_declared : (frame : Frame) (outer : List Frame) (d : _) → steps_in ((d ∷ frame) ∷ outer) ≡ suc (steps_in (frame ∷ outer))
steps_declared frame [] d = refl
steps_declared frame (inner ∷ outer) d = omega arith

steps_entered : (inner : Frame) (outer : List Frame) → steps_in ([] ∷ (inner ∷ outer)) ≡ suc (steps_in (inner ∷ outer))
steps_entered inner outer = omega arith

pub later_entered : (old : List Frame) → 0 < length old → IsLater old (entered old)
later_entered [] deep = absurd (omega arith)
later_entered (inner ∷ outer) deep = record { count = 1; steps = let e : steps_in ([] ∷ (inner ∷ outer)) ≡ suc (steps_in (inner ∷ outer)) = steps_entered inner outer in omega arith; back = refl }

pub later_declared : (old : List Frame) (word : ℕ) (class : WordClass) → 0 < length old → IsLater old (declared word class old)
later_declared [] word class deep = absurd (omega arith)
later_declared (inner ∷ outer) word class deep = record { count = 1; steps = let e : steps_in (((word, class) ∷ inner) ∷ outer) ≡ suc (steps_in (inner ∷ outer)) = steps_declared inner outer (word, class) in omega arith; back = refl }

steps_undone : (now : List Frame) → 0 < steps_in now → suc (steps_in (undone now)) ≡ steps_in now
steps_undone [] h = absurd (omega arith)
steps_undone ([] ∷ []) h = absurd (omega arith)
steps_undone ([] ∷ (inner ∷ outer)) h = sym (steps_entered inner outer)
steps_undone ((d ∷ frame) ∷ outer) h = sym (steps_declared frame outer d)

back_one : (old now : List Frame) (count : ℕ) → steps_in old < steps_in now → steps_in now ≡ count + steps_in old → undone_by count now ≡ old → IsLater old (undone now)
back_one old now zero less steps back = absurd (omega arith)
back_one old now (suc count) less steps back = record {
  count = count;
  steps = let e : suc (steps_in (undone now)) ≡ steps_in now = steps_undone now (omega arith) in omega arith;
  back = back;
}

pub later_undone : (old now : List Frame) → IsLater old now → steps_in old < steps_in now → IsLater old (undone now)
later_undone old now h less = back_one old now h.count less h.steps h.back

same_after : (old now : List Frame) (count : ℕ) → steps_in now ≤ steps_in old → steps_in now ≡ count + steps_in old → undone_by count now ≡ old → now ≡ old
same_after old now zero few steps back = back
same_after old now (suc count) few steps back = absurd (omega arith)

pub later_all_back : (old now : List Frame) → IsLater old now → steps_in now ≤ steps_in old → now ≡ old
later_all_back old now h few = same_after old now h.count few h.steps h.back

more_steps : (old now : List Frame) (count : ℕ) → length old < length now → steps_in now ≡ count + steps_in old → undone_by count now ≡ old → steps_in old < steps_in now
more_steps old now zero deep steps back = absurd (let e : length now ≡ length old = ap length back in omega arith)
more_steps old now (suc count) deep steps back = omega arith

pub later_left : (old now : List Frame) → length old < length now → IsLater old now → IsLater old (left now)
later_left old [] deep h = absurd (omega arith)
later_left old ([] ∷ outer) deep h = later_undone old ([] ∷ outer) h (more_steps old ([] ∷ outer) h.count deep h.steps h.back)
later_left old ((d ∷ frame) ∷ outer) deep h =
    later_left old (frame ∷ outer) deep (later_undone old ((d ∷ frame) ∷ outer) h (more_steps old ((d ∷ frame) ∷ outer) h.count deep h.steps h.back))

-- walks

pub goes_nowhere : (x : Unit {0}) (frames : List Frame) → Goes (Ok x) [] frames frames
goes_nowhere x frames = record { ok = refl; level = refl; stop = tt; later = later_same frames }

-- memory may be wanting before the first event
pub goes_without : (events : List Event) (old now : List Frame) → now ≡ old → Goes (Err Memory) events old now
goes_without events old now e = record { ok = tt; level = tt; stop = tt; later = subst (λ frames. IsLater old frames) (sym e) (later_same old) }

pub goes_stops : {stop : WalkStop} {xs : List Event} {old now : List Frame} (ys : List Event) → Goes (Err stop) xs old now → Goes (Err stop) (xs ++ ys) old now
goes_stops {stop = stop} {xs = xs} {old = old} ys h = record { ok = tt; level = tt; stop = stops-append stop xs ys old h.stop; later = h.later }

pub goes_both : {x : Unit {0}} {r : Result (Unit {0}) WalkStop} {xs ys : List Event} {old mid now : List Frame} → Goes (Ok x) xs old mid → Goes r ys mid now → Goes r (xs ++ ys) old now
goes_both {r = Ok y} {xs = xs} {ys = ys} {old = old} {mid = mid} {now = now} h k = record { ok = settled-append xs ys old mid h.ok ∙ k.ok; level = k.level ∙ h.level; stop = tt; later = later_still old mid now h.later k.later }
goes_both {r = Err stop} {xs = xs} {ys = ys} {old = old} {mid = mid} {now = now} h k = record { ok = tt; level = tt; stop = subst (λ answer. Stops stop answer) (sym (settled-append xs ys old mid h.ok)) k.stop; later = later_still old mid now h.later k.later }

length_left : (frames : List Frame) (n : ℕ) → length frames ≡ suc n → length (left frames) ≡ n
length_left [] n e = absurd (omega arith)
length_left (frame ∷ outer) n e = omega arith

pub goes_scope : {x : Unit {0}} {inner : List Event} {old begun mid now : List Frame} (y : Unit {0}) → 0 < length old → begun ≡ entered old → Goes (Ok x) inner begun mid → now ≡ left mid → Goes (Ok y) (scope inner) old now
goes_scope {inner = inner} {old = old} {mid = mid} y deep e h f = record {
  ok = settled-append inner (Leave ∷ []) (entered old) mid (subst (λ frames. settled inner frames ≡ Scoped mid) e h.ok) ∙ ap Scoped (sym f);
  level = ap length f ∙ length_left mid (length old) (h.level ∙ ap length e);
  stop = tt;
  later =
      subst (λ frames. IsLater old frames) (sym f)
      (later_left old mid (let l : length mid ≡ suc (length old) = h.level ∙ ap length e in omega arith)
      (later_still old (entered old) mid (later_entered old deep) (subst (λ frames. IsLater frames mid) e h.later)));
}

pub goes_into : {stop : WalkStop} {inner : List Event} {old begun now : List Frame} → 0 < length old → begun ≡ entered old → Goes (Err stop) inner begun now → Goes (Err stop) (scope inner) old now
goes_into {stop = stop} {inner = inner} {old = old} {now = now} deep e h = record {
  ok = tt;
  level = tt;
  stop = stops-append stop inner (Leave ∷ []) (entered old) (subst (λ frames. Stops stop (settled inner frames)) e h.stop);
  later = later_still old (entered old) now (later_entered old deep) (subst (λ frames. IsLater frames now) e h.later);
}

length_declared : (word : ℕ) (class : WordClass) (frames : List Frame) → length (declared word class frames) ≡ length frames
length_declared word class [] = refl
length_declared word class (frame ∷ outer) = refl

pub goes_declared : (x : Unit {0}) (word : Word) (class : WordClass) (old now : List Frame) → 0 < length old → now ≡ declared word.0 class old → Goes (Ok x) (Declare word class ∷ []) old now
goes_declared x word class old now deep e = record {
  ok = ap Scoped (sym e);
  level = ap length e ∙ length_declared word.0 class old;
  stop = tt;
  later = subst (λ frames. IsLater old frames) (sym e) (later_declared old word.0 class deep);
}

pub goes_met : (x : Unit {0}) (word : Word) (wanted : WordClass) (span : Span) (frames : List Frame) → is_same wanted (class_of word.0 frames) ≡ true → Goes (Ok x) (Must word wanted span ∷ []) frames frames
goes_met x word wanted span frames e = record {
  ok = ap (λ b. if b then Scoped frames else Clashes word wanted (class_of word.0 frames) span) e;
  level = refl;
  stop = tt;
  later = later_same frames;
}

pub goes_clashes : (word : Word) (wanted found : WordClass) (span : Span) (frames : List Frame) → found ≡ class_of word.0 frames → is_same wanted (class_of word.0 frames) ≡ false → Goes (Err (Clash word wanted found span)) (Must word wanted span ∷ []) frames frames
goes_clashes word wanted found span frames was e = record {
  ok = tt;
  level = tt;
  stop = ap (λ b. if b then Scoped frames else Clashes word wanted (class_of word.0 frames) span) e ∙ ap (λ class. Clashes word wanted class span) (sym was);
  later = later_same frames;
}

-- one tree after another

pub under_way : (old : List Frame) (all : List Event) → IsUnderWay old old all all
under_way old all = record { same = refl; level = refl; later = later_same old }

pub further : {x : Unit {0}} {old mid now : List Frame} {all here : List Event} (others : List Event) → Goes (Ok x) here mid now → IsUnderWay old mid all (here ++ others) → IsUnderWay old now all others
further {old = old} {mid = mid} {now = now} {here = here} others k h = record { same = sym (settled-append here others mid now k.ok) ∙ h.same; level = k.level ∙ h.level; later = later_still old mid now h.later k.later }

pub stops_there : {stop : WalkStop} {old mid now : List Frame} {all here : List Event} (others : List Event) → Goes (Err stop) here mid now → IsUnderWay old mid all (here ++ others) → Goes (Err stop) all old now
stops_there {stop = stop} {old = old} {mid = mid} {now = now} {here = here} others k h = record {
  ok = tt;
  level = tt;
  stop = subst (λ answer. Stops stop answer) h.same (stops-append stop here others mid k.stop);
  later = later_still old mid now h.later k.later;
}

pub all_gone : (x : Unit {0}) (old now : List Frame) (all : List Event) → IsUnderWay old now all [] → Goes (Ok x) all old now
all_gone x old now all h = record { ok = sym h.same; level = h.level; stop = tt; later = h.later }

pub forest_next : (trees : List Plain) (at : ℕ) (here : Plain) → at < length trees → here ≡ get_or trees at here → forest (drop at trees) ≡ forest (here ∷ drop (at + 1) trees)
forest_next trees at here lt is =
    ap forest (drop-cons trees at here lt ∙ ap (λ t. t ∷ drop (suc at) trees) (sym is) ∙ ap (λ n. here ∷ drop n trees) (let e : suc at ≡ at + 1 = omega arith in e))

-- a call that stopped ends its caller
pub goes_out : {r : Result (Unit {0}) WalkStop} {stop : WalkStop} {events : List Event} {old now : List Frame} → IsErrAnd r (λ e. e ≡ stop) → Goes (Err stop) events old now → Goes r events old now
goes_out {r = r} {events = events} {old = old} {now = now} out h =
    let p = err_from_is_err_and r out in
    subst (λ s. Goes s events old now) (sym p.1) (subst (λ e. Goes (Err e) events old now) (sym p.2) (record { ok = tt; level = tt; stop = h.stop; later = h.later }))

-- a node that means what its parts mean

walked_is : (used : NameUse) (f : Form) (s : Span) (ps : Forest) (inner : NameUse) (class : Option WordClass) → means.Parts ≡ meaning f → inner ≡ inside f used ps → class ≡ declares f used
    → in_order (each inner ps) ++ declared_as class (name_in ps) ≡ events_of used (record { form = f; span = s; parts = ps })
walked_is used f s ps inner class m i d =
    ap (λ k. in_order (each inner ps) ++ declared_as k (name_in ps)) d ∙ ap (λ k. in_order (each k ps) ++ declared_as (declares f used) (name_in ps)) i
    ∙ ap (λ k. by_meaning k used (declares f used) s ps (each (inside f used ps) ps)) m

redeclared_is : (used : NameUse) (f : Form) (s : Span) (ps : Forest) (inner : NameUse) (class : Option WordClass) → means.Parts ≡ meaning f → inner ≡ inside f used ps → class ≡ declares f used
    → words inner ps ++ declared_as class (name_in ps) ≡ words_of used (record { form = f; span = s; parts = ps })
redeclared_is used f s ps inner class m i d =
    ap (λ k. words inner ps ++ declared_as k (name_in ps)) d ∙ ap (λ k. words k ps ++ declared_as (declares f used) (name_in ps)) i
    ∙ ap (λ k. words_by k used (declares f used) ps (words (inside f used ps) ps)) m

same_tree : (t : Plain) (f : Form) (ps : Forest) → f ≡ t.form → ps ≡ t.parts → (events : Plain → List Event) → events (record { form = f; span = t.span; parts = ps }) ≡ events t
same_tree t f ps e h events = ap (λ k. events (record { form = k; span = t.span; parts = ps })) e ∙ ap (λ k. events (record { form = t.form; span = t.span; parts = k })) h

pub walked_parts : (used : NameUse) (t : Plain) (f : Form) (ps : Forest) (inner : NameUse) (class : Option WordClass) → f ≡ t.form → ps ≡ t.parts → means.Parts ≡ meaning f → inner ≡ inside f used ps → class ≡ declares f used
    → in_order (each inner ps) ++ declared_as class (name_in ps) ≡ events_of used t
walked_parts used t f ps inner class e h m i d = walked_is used f t.span ps inner class m i d ∙ same_tree t f ps e h (events_of used)

pub redeclared_parts : (used : NameUse) (t : Plain) (f : Form) (ps : Forest) (inner : NameUse) (class : Option WordClass) → f ≡ t.form → ps ≡ t.parts → means.Parts ≡ meaning f → inner ≡ inside f used ps → class ≡ declares f used
    → words inner ps ++ declared_as class (name_in ps) ≡ words_of used t
redeclared_parts used t f ps inner class e h m i d = redeclared_is used f t.span ps inner class m i d ∙ same_tree t f ps e h (words_of used)

pub goes_along : {r : Result (Unit {0}) WalkStop} {xs ys : List Event} {old now : List Frame} → xs ≡ ys → Goes r xs old now → Goes r ys old now
goes_along {r = r} {old = old} {now = now} e h = subst (λ events. Goes r events old now) e h

-- a function definition by its parts
pub function_is : (used : NameUse) (parts others last : List Plain) (specs declarator : Plain) (name : Option Name) → parts ≡ specs ∷ others → others ≡ declarator ∷ last → name ≡ name_in (forest parts)
    → events_of used specs ++ (name_checked (forest parts) ++ (events_of used declarator ++ (events.declared Value name ++ body (forest parts) (each used (forest last))))) ≡ function (forest parts) (each used (forest parts))
function_is used parts others last specs declarator name e f g =
    ap (λ n. events_of used specs ++ (name_checked (forest parts) ++ (events_of used declarator ++ (events.declared Value n ++ body (forest parts) (each used (forest last)))))) g
    ∙ sym (ap (λ l. function (forest parts) (each used (forest l))) (e ∙ ap (λ l. specs ∷ l) f))
