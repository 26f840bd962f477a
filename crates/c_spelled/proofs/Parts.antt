-- What spells specifiers, initializers, parameters and blocks is read.
use Rattle.std.proofs.Common.{◌≡◌, inl, inr, refl, subst, ap, sym, ◌∙◌, ℕ, ◌+◌, ◌≤◌, Bool, true, false, List, [], ◌∷◌, nat_eq, Option, Some, None}
use Rattle.c_tokens.specs.declared.token.Word.{Word}
use Rattle.c_tokens.specs.declared.token.Key.{Key}
use Rattle.c_tokens.specs.declared.token.Key.TheVariants as key
use Rattle.c_tokens.specs.declared.token.Punct.TheVariants as punct
use Rattle.c_tokens.specs.declared.token.Shape.{Shape}
use Rattle.c_tokens.specs.declared.token.Shape.TheVariants as shape
use Rattle.c_tokens.specs.declared.class.Class.TheVariants as class
use Rattle.c_tokens.specs.ClassNumbers.{class_number}
use Rattle.c_forms.specs.declared.operators.StorageClass.TheVariants as storage
use Rattle.c_forms.specs.declared.operators.TypeQualifier.TheVariants as qualifier
use Rattle.c_forms.specs.declared.operators.BasicType.TheVariants as basic
use Rattle.c_forms.specs.declared.operators.StructOrUnion.TheVariants as group_of
use Rattle.c_forms.specs.declared.pieces.Sort.{Sort}
use Rattle.c_forms.specs.declared.pieces.Sort.TheVariants as s
use Rattle.c_forms.specs.declared.forms.Form.{Form}
use Rattle.c_forms.specs.declared.forms.Form.TheVariants as form
use Rattle.c_forms.specs.declared.forms.SpecForm.{SpecForm}
use Rattle.c_forms.specs.declared.forms.SpecForm.TheVariants as spec
use Rattle.c_forms.specs.declared.forms.InitForm.TheVariants as init
use Rattle.c_forms.specs.declared.forms.ExpForm.TheVariants as exp
use Rattle.c_forms.specs.declared.forms.ItemForm.TheVariants as item
use Rattle.c_forms.specs.declared.forms.TemplateForm.TheVariants as template
use Rattle.c_forms.specs.declared.forms.GroupForm.TheVariants as group
use Rattle.c_forms.specs.declared.forms.StmtForm.TheVariants as stmt
use Rattle.c_forms.specs.Forests.{Plain, forest}
use Rattle.c_forms.specs.Forests as forests
use Rattle.c_forms.specs.Measures.{pieces}
use Rattle.c_forms.specs.Tokens.{map_option, begun, spec_of_shape}
use Rattle.c_forms.specs.Sets.{starts, goes_on, may_be_empty, type_word}
use Rattle.c_reader.specs.States.{State, seen}
use Rattle.c_reader.specs.Tokens.{Spot, raw_at, seen_at, class_at}
use Rattle.c_reader.specs.Readers.{Reader, Found, Body, Refuse, read, choose}
use Rattle.c_reader.proofs.Local.{from}
use Rattle.c_reader.proofs.Sets.{contrary, only_single}
use Rattle.c_syntax.specs.Allowed.{may_stand, places}
use Rattle.c_syntax.specs.Reading.{Parts, called, is_starred, spanned, Usual}
use Rattle.c_syntax.specs.Grammar.{is_sign, is_type_word, begins, whole, spec_of, specifier_by, specifier, initializer, block}
use Rattle.c_syntax.specs.Spells.{Spelling, Matches, Levels, parts_spelled, IsNode, may_be}
use Rattle.c_spelled.specs.Fitting.{follows, is_leveled, is_typed_list, need}
use Rattle.c_spelled.proofs.Off.{Off, on_here, off}
use Rattle.c_spelled.proofs.Begins.{AllBegin, node_begins}
use Rattle.c_spelled.proofs.Groups.{Got}
use Rattle.c_spelled.proofs.Pieces.{AllRead, is_it, is_not}
use Rattle.c_spelled.proofs.Rows.{has_row}
use Rattle.c_spelled.proofs.Shapes.{is_key}
use Rattle.c_spelled.proofs.Alone.{is_spec, spec_is, plain_spec_is, qualifier_is, init_is, block_form}
use Rattle.c_spelled.proofs.Nodes.{Room, Fits, fits_of, off_within, same_got, node_read, whole_read}

-- ---- the token that a specifier begins with decides for it

module _ (w : List Shape) (P : Spelling) (due : Sort) (B : (x : Shape) → begun due x ≡ map_option form.Spec (spec_of_shape x)) where
  by_key : (g : SpecForm) (k : Key) (i : Spot) → raw_at w i.place ≡ shape.Key k → nat_eq (class_number (class.Key k)) type_word ≡ false → map_option form.Spec (spec_of_shape (shape.Key k)) ≡ Some (form.Spec g)
      → spec_of due (is_type_word (seen_at w i)) (seen_at w i) ≡ Some (form.Spec g)
  by_key g k i e n f = ap (λ x. spec_of due (is_type_word (seen i.state x)) (seen i.state x)) e ∙ ap (λ b. spec_of due b (seen i.state (shape.Key k))) n ∙ B (shape.Key k) ∙ f

  abbrev held_or : Shape → Option Shape → Shape
  held_or x (Some y) = y
  held_or x None = x

  held_so : (i : Spot) (x : Shape) → Some x ≡ Some (raw_at w i.place) → raw_at w i.place ≡ x
  held_so i x e = ap (held_or x) (sym e)

  by_name : (word : Word) (i : Spot) → raw_at w i.place ≡ shape.Word word → class_at w i ≡ type_word → spec_of due (is_type_word (seen_at w i)) (seen_at w i) ≡ Some (form.Spec (spec.Typedef word))
  by_name word i e c = ap (λ b. spec_of due b (seen_at w i)) (ap (λ n. nat_eq n type_word) c) ∙ ap (λ x. spec_of due true (seen i.state x)) e

  pub spec_seen : (f : Form) (ts : List Plain) (i j : Spot) → is_spec f ≡ true → Matches P w due f Usual (pieces f) ts i j → spec_of due (is_type_word (seen_at w i)) (seen_at w i) ≡ Some f
  spec_seen (form.Spec (spec.Storage storage.Typedef)) ts i j b M = by_key (spec.Storage storage.Typedef) key.Typedef i (held_so i (shape.Key key.Typedef) M.0.0) refl refl
  spec_seen (form.Spec (spec.Storage storage.Extern)) ts i j b M = by_key (spec.Storage storage.Extern) key.Extern i (held_so i (shape.Key key.Extern) M.0.0) refl refl
  spec_seen (form.Spec (spec.Storage storage.Static)) ts i j b M = by_key (spec.Storage storage.Static) key.Static i (held_so i (shape.Key key.Static) M.0.0) refl refl
  spec_seen (form.Spec (spec.Storage storage.Auto)) ts i j b M = by_key (spec.Storage storage.Auto) key.Auto i (held_so i (shape.Key key.Auto) M.0.0) refl refl
  spec_seen (form.Spec (spec.Storage storage.Register)) ts i j b M = by_key (spec.Storage storage.Register) key.Register i (held_so i (shape.Key key.Register) M.0.0) refl refl
  spec_seen (form.Spec (spec.Qualifier qualifier.Const)) ts i j b M = by_key (spec.Qualifier qualifier.Const) key.Const i (held_so i (shape.Key key.Const) M.0.0) refl refl
  spec_seen (form.Spec (spec.Qualifier qualifier.Volatile)) ts i j b M = by_key (spec.Qualifier qualifier.Volatile) key.Volatile i (held_so i (shape.Key key.Volatile) M.0.0) refl refl
  spec_seen (form.Spec (spec.Basic basic.Void)) ts i j b M = by_key (spec.Basic basic.Void) key.Void i (held_so i (shape.Key key.Void) M.0.0) refl refl
  spec_seen (form.Spec (spec.Basic basic.Char)) ts i j b M = by_key (spec.Basic basic.Char) key.Char i (held_so i (shape.Key key.Char) M.0.0) refl refl
  spec_seen (form.Spec (spec.Basic basic.Short)) ts i j b M = by_key (spec.Basic basic.Short) key.Short i (held_so i (shape.Key key.Short) M.0.0) refl refl
  spec_seen (form.Spec (spec.Basic basic.Int)) ts i j b M = by_key (spec.Basic basic.Int) key.Int i (held_so i (shape.Key key.Int) M.0.0) refl refl
  spec_seen (form.Spec (spec.Basic basic.Long)) ts i j b M = by_key (spec.Basic basic.Long) key.Long i (held_so i (shape.Key key.Long) M.0.0) refl refl
  spec_seen (form.Spec (spec.Basic basic.Float)) ts i j b M = by_key (spec.Basic basic.Float) key.Float i (held_so i (shape.Key key.Float) M.0.0) refl refl
  spec_seen (form.Spec (spec.Basic basic.Double)) ts i j b M = by_key (spec.Basic basic.Double) key.Double i (held_so i (shape.Key key.Double) M.0.0) refl refl
  spec_seen (form.Spec (spec.Basic basic.Signed)) ts i j b M = by_key (spec.Basic basic.Signed) key.Signed i (held_so i (shape.Key key.Signed) M.0.0) refl refl
  spec_seen (form.Spec (spec.Basic basic.Unsigned)) ts i j b M = by_key (spec.Basic basic.Unsigned) key.Unsigned i (held_so i (shape.Key key.Unsigned) M.0.0) refl refl
  spec_seen (form.Spec (spec.StructOf group_of.Struct)) ts i j b M = by_key (spec.StructOf group_of.Struct) key.Struct i (held_so i (shape.Key key.Struct) M.0.0) refl refl
  spec_seen (form.Spec (spec.StructOf group_of.Union)) ts i j b M = by_key (spec.StructOf group_of.Union) key.Union i (held_so i (shape.Key key.Union) M.0.0) refl refl
  spec_seen (form.Spec (spec.Typedef word)) ts i j b M = by_name word i (held_so i (shape.Word word) M.0.0) (only_single type_word (class_at w i) M.0.1)
  spec_seen (form.Spec spec.EnumOf) ts i j b M = by_key spec.EnumOf key.Enum i (is_key i.state (raw_at w i.place) key.Enum M.0) refl refl
  spec_seen _ ts i j b M = absurd (cc b)

module _ (body : Body) (d top : ℕ) (w : List Shape) (levels : Type 0) (room : Room levels d top) (n : ℕ) (deeper inner : Spelling) (part : Parts)
    (DB : AllBegin w deeper) (IB : AllBegin w inner) (DE : AllRead body d top w places deeper called) (IE : AllRead body d top w n inner part) where
  -- a node of a form, whatever sort it stands for
  pub record NodeAs (own : Sort) (f : Form) (t : Plain) (i j : Spot) : Type 0 where
    pub parts : List Plain
    pub value : t ≡ forests.node f (spanned i.place j.place) parts
    pub left : Levels (is_starred f) levels
    pub matches : Matches (parts_spelled (is_starred f) deeper inner) w own f Usual (pieces f) parts i j

  pub node_as : (due : Sort) (f : Form) (least : ℕ) (t : Plain) (i j : Spot) → t.form ≡ f → IsNode levels deeper inner w due least t i j → NodeAs due f t i j
  node_as due f least t i j e N = subst (λ f. NodeAs due f t i j) e (record { parts = N.parts; value = N.value; left = N.left; matches = N.matches })

  pub as_read : (own : Sort) (f : Form) (t : Plain) (i j : Spot) → Fits own f → need own ≤ n + 1 → NodeAs own f t i j → Off (goes_on own 0) w j.place → Got (read body d (whole part own f) (from w i)) top t w j
  as_read own f t i j F low N o = same_got top w t (forests.node f (spanned i.place j.place) N.parts) j _ _ refl N.value
      (whole_read body d top w levels room n deeper inner part DB IB DE IE own f N.parts i j N.left F.reads (F.few n low) F.fits (off_within (follows own (pieces f)) (goes_on own 0) w j.place F.ends o) N.matches)

  abbrev nodes : (due : Sort) (least : ℕ) (t : Plain) (i j : Spot) → has_row due ≡ true → is_leveled due ≡ false → is_typed_list t.form ≡ false → need due ≤ n + 1 → IsNode levels deeper inner w due least t i j → Off (goes_on due least) w j.place
      → Got (read body d (whole part due t.form) (from w i)) top t w j
  nodes = node_read body d top w levels room n deeper inner part DB IB DE IE

  no_list : (f : Form) → is_spec f ≡ true → is_typed_list f ≡ false
  no_list (form.Spec f) e = refl
  no_list _ e = absurd (cc e)

  choose_at : (b c : Bool) (r q : Reader Found) (i : Spot) → b ≡ c → read body d (choose b r q) (from w i) ≡ read body d (choose c r q) (from w i)
  choose_at b c r q i e = ap (λ b. read body d (choose b r q) (from w i)) e

  spec_read : (due : Sort) → ((x : Shape) → begun due x ≡ map_option form.Spec (spec_of_shape x)) → ((f : Form) → may_be due f ≡ true → is_spec f ≡ true) → has_row due ≡ true → is_leveled due ≡ false → may_be_empty due ≡ false → need due ≤ n + 1
      → (least : ℕ) (t : Plain) (i j : Spot) → may_stand i.state t.form ≡ true → IsNode levels deeper inner w due least t i j → Off (goes_on due least) w j.place → Got (read body d (specifier part due) (from w i)) top t w j
  unfolding specifier
  spec_read due B only h l e low least t i j stands N o =
      let begun_so : begins due (seen_at w i) ≡ true = elim (node_begins levels deeper inner w DB IB due least t i j h N) [
        | inl b ↦ b.0
        | inr x ↦ absurd (contrary (may_be_empty due) x.0 e)
      ] in
      let found : spec_of due (is_type_word (seen_at w i)) (seen_at w i) ≡ Some t.form = spec_seen w (parts_spelled (is_starred t.form) deeper inner) due B t.form N.parts i j (only t.form N.may) N.matches in
      same_got top w t t j _ _
      (choose_at (begins due (seen_at w i)) true (specifier_by part due i.state (spec_of due (is_type_word (seen_at w i)) (seen_at w i))) Refuse i begun_so
      ∙ ap (λ f. read body d (specifier_by part due i.state f) (from w i)) found ∙ choose_at (may_stand i.state t.form) true (whole part due t.form) Refuse i stands) refl
      (nodes due least t i j h l (no_list t.form (only t.form N.may)) low N o)

  pub any_spec_read : need s.Spec ≤ n + 1 → (least : ℕ) (t : Plain) (i j : Spot) → may_stand i.state t.form ≡ true → IsNode levels deeper inner w s.Spec least t i j → Off (goes_on s.Spec least) w j.place → Got (read body d (specifier part s.Spec) (from w i)) top t w j
  any_spec_read low = spec_read s.Spec (λ x. refl) spec_is refl refl refl low

  pub plain_spec_read : need s.PlainSpec ≤ n + 1 → (least : ℕ) (t : Plain) (i j : Spot) → may_stand i.state t.form ≡ true → IsNode levels deeper inner w s.PlainSpec least t i j → Off (goes_on s.PlainSpec least) w j.place → Got (read body d (specifier part s.PlainSpec) (from w i)) top t w j
  plain_spec_read low = spec_read s.PlainSpec (λ x. refl) plain_spec_is refl refl refl low

  qualifier_stands : (state : State) (f : Form) → may_be s.Qualifier f ≡ true → may_stand state f ≡ true
  qualifier_stands state (form.Spec (spec.Qualifier q)) m = refl
  qualifier_stands state (form.Spec (spec.Storage c)) m = absurd (cc m)
  qualifier_stands state (form.Exp (exp.Int word)) m = absurd (cc m)
  qualifier_stands state (form.Stmt stmt.Block) m = absurd (cc m)
  qualifier_stands state (form.Item item.Function) m = absurd (cc m)
  qualifier_stands state (form.Template (template.Many k)) m = absurd (cc m)
  qualifier_stands state (form.Group group.List) m = absurd (cc m)
  qualifier_stands state _ m = absurd (cc m)

  pub qualifier_read : need s.Qualifier ≤ n + 1 → (least : ℕ) (t : Plain) (i j : Spot) → IsNode levels deeper inner w s.Qualifier least t i j → Off (goes_on s.Qualifier least) w j.place → Got (read body d (specifier part s.Qualifier) (from w i)) top t w j
  qualifier_read low least t i j N o = spec_read s.Qualifier (λ x. refl) qualifier_is refl refl refl low least t i j (qualifier_stands i.state t.form N.may) N o

  -- ---- blocks and initializers

  pub block_read : need s.Block ≤ n + 1 → (least : ℕ) (t : Plain) (i j : Spot) → IsNode levels deeper inner w s.Block least t i j → Got (read body d (block part) (from w i)) top t w j
  block_read low least t i j N = let M = node_as s.Block (form.Stmt stmt.Block) least t i j (block_form t.form N.may) N in
      let A : NodeAs s.Stmt (form.Stmt stmt.Block) t i j = record { parts = M.parts; value = M.value; left = M.left; matches = M.matches } in
      same_got top w t t j _ _ (choose_at (is_sign punct.LeftBrace (seen_at w i)) true (whole part s.Stmt (form.Stmt stmt.Block)) Refuse i (is_it w (class.Punct punct.LeftBrace) i M.matches.0)) refl
      (as_read s.Stmt (form.Stmt stmt.Block) t i j (fits_of s.Stmt (form.Stmt stmt.Block) refl refl refl refl) low A (λ s. refl))

  pub init_read : need s.Init ≤ n + 1 → (least : ℕ) (t : Plain) (i j : Spot) → IsNode levels deeper inner w s.Init least t i j → Off (goes_on s.Init least) w j.place → Got (read body d (initializer part) (from w i)) top t w j
  init_read low least t i j N o = elim (init_is t.form N.may) [
    | inl e ↦ let A = node_as s.Init (form.Init init.One) least t i j e N in
        let brace : Off (class_number (class.Punct punct.LeftBrace) ∷ []) w i.place = elim (IB s.Exp 2 A.matches.first i A.matches.place refl A.matches.is_first) [
          | inl b ↦ off (starts s.Exp) (class_number (class.Punct punct.LeftBrace) ∷ []) w i.place refl (on_here (starts s.Exp) w i b.0)
          | inr x ↦ absurd (cc x.0)
        ] in
        same_got top w t t j _ _ (choose_at (is_sign punct.LeftBrace (seen_at w i)) false (whole part s.Init (form.Init init.Braces)) (whole part s.Init (form.Init init.One)) i (is_not w (class.Punct punct.LeftBrace) i brace)) refl
        (as_read s.Init (form.Init init.One) t i j (fits_of s.Init (form.Init init.One) refl refl refl refl) low A o)
    | inr e ↦ let A = node_as s.Init (form.Init init.Braces) least t i j e N in
        same_got top w t t j _ _ (choose_at (is_sign punct.LeftBrace (seen_at w i)) true (whole part s.Init (form.Init init.Braces)) (whole part s.Init (form.Init init.One)) i (is_it w (class.Punct punct.LeftBrace) i A.matches.0)) refl
        (as_read s.Init (form.Init init.Braces) t i j (fits_of s.Init (form.Init init.Braces) refl refl refl refl) low A o)
  ]
