-- What spells the parameters of a declarator is read (ISO/IEC 9899:1990, 6.5.4.3).
use Rattle.std.proofs.Common.{◌≡◌, inl, inr, refl, subst, ap, sym, ◌∙◌, ℕ, zero, suc, ◌+◌, ◌≤◌, not, Bool, true, false, ◌||◌, ◌&&◌, List, [], ◌∷◌, ◌++◌, nat_eq, Option, Some, Ok, arith}
use Rattle.c_tokens.specs.declared.token.Punct.TheVariants as punct
use Rattle.c_tokens.specs.declared.token.Shape.{Shape}
use Rattle.c_tokens.specs.declared.class.Class.{Class}
use Rattle.c_tokens.specs.declared.class.Class.TheVariants as class
use Rattle.c_tokens.specs.ClassNumbers.{class_number}
use Rattle.c_forms.specs.declared.pieces.Sort.TheVariants as s
use Rattle.c_forms.specs.declared.pieces.Repetition.TheVariants.{Ended}
use Rattle.c_forms.specs.declared.forms.Form.{Form}
use Rattle.c_forms.specs.declared.forms.Form.TheVariants as form
use Rattle.c_forms.specs.declared.forms.ParamsForm.TheVariants as params
use Rattle.c_forms.specs.Forests.{Plain, forest}
use Rattle.c_forms.specs.Forests as forests
use Rattle.c_forms.specs.Rules.{is_none, in_first}
use Rattle.c_forms.specs.Sets.{has, starts, goes_on}
use Rattle.c_reader.specs.Tokens.{Spot, step, raw_at, seen_at, class_at}
use Rattle.c_reader.specs.Readers.{Reader, Found, Outcome, Body, Refuse, Give, Ask, read, and_then, pick, only, choose, token, ◌>>◌}
use Rattle.c_reader.proofs.Local.{from}
use Rattle.c_reader.proofs.Sets.{either, contrary, single, apart_has}
use Rattle.c_syntax.specs.Allowed.{has_name, places}
use Rattle.c_syntax.specs.Reading.{Parts, Gathered, one, node, called, spanned, the_list, list_from, Usual, is_class, gathered, gathered_by, many}
use Rattle.c_syntax.specs.Grammar.{sign, is_value, begins, whole, typed, parameters}
use Rattle.c_syntax.specs.Spells.{Spelling, Is, IsNode, may_list, Chain}
use Rattle.c_spelled.specs.Fitting.{need}
use Rattle.c_spelled.proofs.Off.{Off, on_here, off}
use Rattle.c_spelled.proofs.Opens.{chain_begins}
use Rattle.c_spelled.proofs.Begins.{AllBegin}
use Rattle.c_spelled.proofs.Groups.{Got, GotAll, listed, ended_read}
use Rattle.c_spelled.proofs.Pieces.{AllRead, is_it, is_not}
use Rattle.c_spelled.proofs.Shapes.{no_hole}
use Rattle.c_spelled.proofs.Alone.{params_is}
use Rattle.c_spelled.proofs.Nodes.{Room, fits_of, off_within, same_got}
use Rattle.c_spelled.proofs.Parts.{NodeAs, node_as, as_read}

abbrev is_ids_form : Form → Bool
is_ids_form (form.Params params.Ids) = true
is_ids_form f = false

-- elements are some
pub chain_some : (one : Plain → Spot → Spot → Type 0) (w : List Shape) (c : Option Class) (n : ℕ) (ts : List Plain) (i j : Spot) → Chain one w c n ts i j → is_none (forest ts) ≡ false
chain_some one w c zero ts i j C = ap (λ ts. is_none (forest ts)) C.1.0
chain_some one w c (suc n) ts i j C = ap (λ ts. is_none (forest ts)) C.value ∙ by_front C.before
  where
    by_front : (us : List Plain) → is_none (forest (us ++ (C.last ∷ []))) ≡ false
    by_front [] = refl
    by_front (u ∷ us) = refl

named_then : (h n : Bool) → n ≡ false → (h || (false || n)) ≡ true → h ≡ true
named_then true n e y = refl
named_then false n e y = absurd (contrary n y e)

no_refusal : (v h : Bool) → h ≡ true → (v && not h) ≡ false
no_refusal true h e = ap not e
no_refusal false h e = refl

no_value : (v h : Bool) → v ≡ false → (v && not h) ≡ false
no_value v h e = ap (λ v. v && not h) e

module _ (body : Body) (d top : ℕ) (w : List Shape) (levels : Type 0) (room : Room levels d top) (n : ℕ) (deeper inner : Spelling) (part : Parts)
    (DB : AllBegin w deeper) (IB : AllBegin w inner) (DE : AllRead body d top w places deeper called) (IE : AllRead body d top w n inner part) (low : need s.Params ≤ n + 1) where
  abbrev As : Form → Plain → Spot → Spot → Type 0
  As f t i j = NodeAs body d top w levels room n deeper inner part DB IB DE IE s.Params f t i j

  choose_at : (b c : Bool) (r q : Reader Found) (i : Spot) → b ≡ c → read body d (choose b r q) (from w i) ≡ read body d (choose c r q) (from w i)
  choose_at b c r q i e = ap (λ b. read body d (choose b r q) (from w i)) e

  abbrev ids : Reader Found
  ids = whole part s.Params (form.Params params.Ids)

  untyped : (i : Spot) → has (starts s.Spec) (class_at w i) ≡ false → (is_value (seen_at w i) && not (has_name i.state)) ≡ false → read body d (parameters part) (from w i) ≡ read body d ids (from w i)
  unfolding parameters
  untyped i e f = choose_at (begins s.Spec (seen_at w i)) false (typed part i.place) (choose (is_value (seen_at w i) && not (has_name i.state)) Refuse ids) i e
      ∙ choose_at (is_value (seen_at w i) && not (has_name i.state)) false Refuse ids i f

  ids_read : (least : ℕ) (t : Plain) (i j : Spot) → may_list i.state t ≡ true → t.form ≡ form.Params params.Ids → IsNode levels deeper inner w s.Params least t i j → Off (goes_on s.Params 0) w j.place → Got (read body d (parameters part) (from w i)) top t w j
  ids_read least t i j L e N o = let A : As (form.Params params.Ids) t i j = node_as body d top w levels room n deeper inner part DB IB DE IE s.Params (form.Params params.Ids) least t i j e N in
      let M = A.matches in
      let us : List Plain = M.is_first.0 in
      let G = as_read body d top w levels room n deeper inner part DB IB DE IE s.Params (form.Params params.Ids) t i j (fits_of s.Params (form.Params params.Ids) refl refl refl refl) low A o in
      elim (M.is_first.1.1) [
        | inl X ↦ let same : i ≡ j = X.1.1 ∙ M.are_others.1 in
            let out : Off (goes_on s.Params 0) w i.place = subst (λ (k : Spot). Off (goes_on s.Params 0) w k.place) (sym same) o in
            same_got top w t t j _ _ (untyped i (off_within (starts s.Spec) (goes_on s.Params 0) w i.place refl out i.state)
            (no_value (is_value (seen_at w i)) (has_name i.state) (is_not w class.Word i (off_within (class_number class.Word ∷ []) (goes_on s.Params 0) w i.place refl out)))) refl G
        | inr C ↦ let b = chain_begins w s.ParameterId (inner s.ParameterId 0) (λ t i j p. elim (IB s.ParameterId 0 t i j refl p) [ inl b ↦ b | inr x ↦ absurd (cc x.0) ]) (Some (sign punct.Comma)) C.0 us i M.place C.1 in
            let some : is_none (in_first t.parts) ≡ false = ap (λ (t : Plain). is_none (in_first t.parts)) A.value ∙ ap (λ ps. is_none (in_first (forest ps))) M.value ∙ ap (λ (t : Plain). is_none t.parts) M.is_first.1.0
            ∙ chain_some (inner s.ParameterId 0) w (Some (sign punct.Comma)) C.0 us i M.place C.1 in
            let listed : (has_name i.state || (false || is_none (in_first t.parts))) ≡ true = ap (λ f. has_name i.state || (not (is_ids_form f) || is_none (in_first t.parts))) (sym e) ∙ L in
            same_got top w t t j _ _ (untyped i (apart_has (starts s.ParameterId) (starts s.Spec) (class_at w i) refl b.0)
            (no_refusal (is_value (seen_at w i)) (has_name i.state) (named_then (has_name i.state) (is_none (in_first t.parts)) some listed))) refl G
      ]

  -- ---- parameter type lists

  abbrev the_end : ℕ × Gathered → Reader Found
  the_end g = choose g.1.is_ended
      (token (class_number (sign punct.Ellipsis)) >> Ask (λ j. Give (node (form.Params params.TypedAndMore) g.0 j.place (one (list_from g.0 g.1)))))
      (Ask (λ j. Give (node (form.Params params.Typed) g.0 j.place (one (list_from g.0 g.1)))))

  the_elements : (us : List Plain) (i k : Spot) → (n : ℕ) → Chain (inner s.Param 0) w (Some (sign punct.Comma)) n us i k → Off (goes_on s.Param 0) w k.place
      → (is_class (sign punct.Comma) (seen_at w k) ≡ false → GotAll (read body d (gathered_by (Ended (sign punct.Comma) (sign punct.Ellipsis)) s.Param (part s.Param 0) Usual i.place) (from w i)) top us false k.place w k)
      × (Is w (sign punct.Comma) k → Is w (sign punct.Ellipsis) (step k) → GotAll (read body d (gathered_by (Ended (sign punct.Comma) (sign punct.Ellipsis)) s.Param (part s.Param 0) Usual i.place) (from w i)) top us true k.place w (step k))
  unfolding many
  the_elements us i k n C o = ended_read body d top w s.Param 0 (inner s.Param 0) (part s.Param 0) (λ t i j p. elim (IB s.Param 0 t i j refl p) [ inl b ↦ b | inr x ↦ absurd (cc x.0) ]) (λ t i j p o. IE s.Param 0 t i j refl (omega (arith, low)) p o)
      (sign punct.Comma) (sign punct.Ellipsis) refl refl us i.place i k (n, C) o

  begins_spec : (us : List Plain) (i k : Spot) (n : ℕ) → Chain (inner s.Param 0) w (Some (sign punct.Comma)) n us i k → has (starts s.Spec) (class_at w i) ≡ true
  begins_spec us i k n C = let b = chain_begins w s.Param (inner s.Param 0) (λ t i j p. elim (IB s.Param 0 t i j refl p) [ inl b ↦ b | inr x ↦ absurd (cc x.0) ]) (Some (sign punct.Comma)) n us i k C in
      elim (either (nat_eq 126 (class_at w i)) (has (starts s.Spec) (class_at w i)) b.0) [
        | inl h ↦ absurd (contrary (nat_eq 126 (class_at w i)) h (no_hole i.state (raw_at w i.place)))
        | inr h ↦ h
      ]

  typed_so : (i : Spot) (g : Gathered) (k : Spot) → has (starts s.Spec) (class_at w i) ≡ true → read body d (gathered_by (Ended (sign punct.Comma) (sign punct.Ellipsis)) s.Param (part s.Param 0) Usual i.place) (from w i) ≡ Ok (g, from w k)
      → read body d (parameters part) (from w i) ≡ read body d (the_end (i.place, g)) (from w k)
  unfolding parameters gathered
  typed_so i g k e f = choose_at (begins s.Spec (seen_at w i)) true (typed part i.place) (choose (is_value (seen_at w i) && not (has_name i.state)) Refuse ids) i e
      ∙ ap (λ (o : Outcome Gathered). and_then (and_then {A = Gathered} {B = ℕ × Gathered} o (λ g j. Ok ((i.place, g), j))) (λ g j. read body d (choose g.1.is_ended
      (token (class_number (sign punct.Ellipsis)) >> Ask (λ j. Give (node (form.Params params.TypedAndMore) i.place j.place (one (list_from g.0 g.1)))))
      (Ask (λ j. Give (node (form.Params params.Typed) i.place j.place (one (list_from g.0 g.1)))))) j)) f

  typed_read : (least : ℕ) (t : Plain) (i j : Spot) → t.form ≡ form.Params params.Typed → IsNode levels deeper inner w s.Params least t i j → Off (goes_on s.Params 0) w j.place → Got (read body d (parameters part) (from w i)) top t w j
  typed_read least t i j e N o = let A : As (form.Params params.Typed) t i j = node_as body d top w levels room n deeper inner part DB IB DE IE s.Params (form.Params params.Typed) least t i j e N in
      let M = A.matches in
      let us : List Plain = M.is_first.0 in
      let C = M.is_first.1.1 in
      let out : Off (goes_on s.Params 0) w M.place.place = subst (λ (k : Spot). Off (goes_on s.Params 0) w k.place) (sym M.are_others.1) o in
      let G = (the_elements us i M.place C.0 C.1 (off_within (goes_on s.Param 0) (goes_on s.Params 0) w M.place.place refl out)).0 (is_not w (sign punct.Comma) M.place (off_within (class_number (sign punct.Comma) ∷ []) (goes_on s.Params 0) w M.place.place refl out)) in
      let made : forests.node (form.Params params.Typed) (spanned i.place M.place.place) (forests.node the_list (spanned i.place M.place.place) us ∷ []) ≡ t =
      ap (λ (k : Spot). forests.node (form.Params params.Typed) (spanned i.place k.place) (forests.node the_list (spanned i.place M.place.place) us ∷ [])) M.are_others.1
      ∙ ap (λ ps. forests.node (form.Params params.Typed) (spanned i.place j.place) ps) (ap (λ t. t ∷ []) (sym M.is_first.1.0) ∙ ap (λ ts. M.first ∷ ts) (sym M.are_others.0) ∙ sym M.value) ∙ sym A.value in
      record {
        height = G.height;
        low = G.low;
        reads = typed_so i (listed us G.height M.place.place false) M.place (begins_spec us i M.place C.0 C.1) G.reads
            ∙ ap (λ t. Ok (record { tree = t; height = G.height }, from w M.place)) made ∙ ap (λ k. Ok (record { tree = t; height = G.height }, from w k)) M.are_others.1;
      }

  ellipsis : (b : Bool) (g : ℕ × Gathered) (k : Spot) → b ≡ true → and_then (pick (only b) (from w k)) (λ _ j. read body d (Ask (λ j. Give (node (form.Params params.TypedAndMore) g.0 j.place (one (list_from g.0 g.1))))) j)
      ≡ Ok (node (form.Params params.TypedAndMore) g.0 (k.place + 1) (one (list_from g.0 g.1)), from w (step k))
  ellipsis true g k e = refl
  ellipsis false g k e = absurd (cc e)

  more_read : (least : ℕ) (t : Plain) (i j : Spot) → t.form ≡ form.Params params.TypedAndMore → IsNode levels deeper inner w s.Params least t i j → Got (read body d (parameters part) (from w i)) top t w j
  more_read least t i j e N = let A : As (form.Params params.TypedAndMore) t i j = node_as body d top w levels room n deeper inner part DB IB DE IE s.Params (form.Params params.TypedAndMore) least t i j e N in
      let M = A.matches in
      let us : List Plain = M.is_first.0 in
      let C = M.is_first.1.1 in
      let k : Spot = M.place in
      let comma = M.are_others.0 in
      let last : step (step k) ≡ j = M.are_others.1.1.1 in
      let out : Off (goes_on s.Param 0) w k.place = off (class_number (sign punct.Comma) ∷ []) (goes_on s.Param 0) w k.place refl (on_here (class_number (sign punct.Comma) ∷ []) w k (single (class_number (sign punct.Comma)) (class_at w k) comma)) in
      let G = (the_elements us i k C.0 C.1 out).1 comma M.are_others.1.0 in
      let made : forests.node (form.Params params.TypedAndMore) (spanned i.place ((step k).place + 1)) (forests.node the_list (spanned i.place k.place) us ∷ []) ≡ t =
      ap (λ (k' : Spot). forests.node (form.Params params.TypedAndMore) (spanned i.place k'.place) (forests.node the_list (spanned i.place k.place) us ∷ [])) last
      ∙ ap (λ ps. forests.node (form.Params params.TypedAndMore) (spanned i.place j.place) ps) (ap (λ t. t ∷ []) (sym M.is_first.1.0) ∙ ap (λ ts. M.first ∷ ts) (sym M.are_others.1.1.0) ∙ sym M.value) ∙ sym A.value in
      record {
        height = G.height;
        low = G.low;
        reads = typed_so i (listed us G.height k.place true) (step k) (begins_spec us i k C.0 C.1) G.reads
            ∙ ellipsis (is_class (sign punct.Ellipsis) (seen_at w (step k))) (i.place, listed us G.height k.place true) (step k) (is_it w (sign punct.Ellipsis) (step k) M.are_others.1.0)
            ∙ ap (λ t. Ok (record { tree = t; height = G.height }, from w (step (step k)))) made ∙ ap (λ k. Ok (record { tree = t; height = G.height }, from w k)) last;
      }

  pub params_read : (least : ℕ) (t : Plain) (i j : Spot) → may_list i.state t ≡ true → IsNode levels deeper inner w s.Params least t i j → Off (goes_on s.Params 0) w j.place → Got (read body d (parameters part) (from w i)) top t w j
  params_read least t i j L N o = elim (params_is t.form N.may) [
    | inl e ↦ ids_read least t i j L e N o
    | inr (inl e) ↦ typed_read least t i j e N o
    | inr (inr e) ↦ more_read least t i j e N
  ]
