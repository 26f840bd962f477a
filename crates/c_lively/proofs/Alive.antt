-- Every sort of plain C can be completed, where it is read in place.
use Rattle.std.proofs.Common.{◌≡◌, refl, subst, sym, ℕ, zero, suc, ◌≤◌, true, List, [], nat_eq, arith}
use Rattle.std.proofs.lemmas.Bool.{eqb-true}
use Rattle.c_tokens.specs.declared.token.Punct.TheVariants as punct
use Rattle.c_tokens.specs.declared.token.Shape.{Shape}
use Rattle.c_forms.specs.declared.pieces.Sort.{Sort}
use Rattle.c_forms.specs.declared.pieces.Sort.TheVariants as s
use Rattle.c_forms.specs.declared.forms.Form.{Form}
use Rattle.c_forms.specs.declared.forms.Form.TheVariants as form
use Rattle.c_forms.specs.declared.forms.InitForm.TheVariants as init
use Rattle.c_forms.specs.declared.forms.StmtForm.TheVariants as stmt
use Rattle.c_forms.specs.declared.forms.GroupForm.TheVariants as group
use Rattle.c_forms.specs.Measures.{pieces}
use Rattle.c_reader.specs.States.{State, Kept, seen}
use Rattle.c_reader.specs.Readers.{Refuse}
use Rattle.c_reader.proofs.Sets.{both}
use Rattle.c_reader.proofs.Leaves.{Leaves}
use Rattle.c_reader.proofs.Live.{Live, live_choose}
use Rattle.c_forms.specs.Sets.{goes_on}
use Rattle.c_syntax.specs.Grammar.{body, is_sign, whole, expression, specifier, declarator_of, at_sort, in_place}
use Rattle.c_alive.proofs.Kept.{Still, is_declarator, kept_in_place}
use Rattle.c_alive.proofs.Phrased.{none_of, past}
use Rattle.c_alive.proofs.FitRows.{is_reached}
use Rattle.c_alive.proofs.Rows.{Ending, Able}
use Rattle.c_alive.proofs.Expressions.{live_expression}
use Rattle.c_alive.proofs.Names.{live_id, live_literal, live_declared, live_enumerator, live_parameter}
use Rattle.c_alive.proofs.Called.{calls}
use Rattle.c_lively.proofs.Ranks.{rank, met, reads, reads_at, reads_more, none_read, fewer_end}
use Rattle.c_lively.proofs.Endings.{ending, is_spec}
use Rattle.c_lively.proofs.Wholes.{fits, starts_so, live_whole, no_item}
use Rattle.c_lively.proofs.Specifiers.{live_specifier, no_part}
use Rattle.c_lively.proofs.Declarators.{live_declarator}
use Rattle.c_lively.proofs.Parameters.{live_parameters}
use Rattle.c_lively.proofs.Statements.{live_statement}
use Rattle.c_lively.proofs.BlockItems.{live_block_item}

exp_lives : (m least deep : ℕ) → 1 ≤ m → is_reached s.Exp least ≡ true → (a : List Kept) (z : State) (y : Shape) → Still a z → Live body calls deep z y (none_of (goes_on s.Exp least)) (λ _ t. Still a t) (expression (in_place m) least)
exp_lives zero least deep le low a z y k = absurd (omega (arith, le))
exp_lives (suc n) least deep le low a z y k = live_expression a n least deep low z y k

module _ (deep m : ℕ) (L : Able calls deep (in_place m) (reads m)) where
  E : (n : ℕ) → n ≤ m → Ending (in_place m) (reads n)
  E n le = fewer_end (in_place m) (reads n) (reads m) (λ due least h. reads_more n m le due least h) (ending m)

  A : (n : ℕ) → n ≤ m → Able calls deep (in_place m) (reads n)
  A n le = record { lives = λ due least h. L.lives due least (reads_more n m le due least h); leaves = λ due least h. L.leaves due least (reads_more n m le due least h) }

  no_parts : Ending (in_place m) no_part
  no_parts = fewer_end (in_place m) no_part (reads m) (λ due least h. absurd (cc h)) (ending m)

  module _ (a : List Kept) (z : State) (y : Shape) (k : Still a z) where
    abbrev Alive : Sort → ℕ → Type 1
    Alive due least = Live body calls deep z y (none_of (past due least)) (λ _ t. Still a t) (at_sort (in_place m) due least)

    whole_lives : (n : ℕ) → n ≤ m → (due : Sort) (f : Form) → fits (reads n) due f (pieces f) (past due 0) ≡ true → starts_so f z y ≡ true → Live body calls deep z y (none_of (past due 0)) (λ _ t. Still a t) (whole (in_place m) due f)
    whole_lives n le due f h o = live_whole deep (in_place m) (reads n) (E n le) (A n le) due f (past due 0) a h z y o k

    spec_lives : (due : Sort) → is_spec due ≡ true → Live body calls deep z y (none_of (past due 0)) (λ _ t. Still a t) (specifier (in_place m) due)
    spec_lives due h = live_specifier deep (in_place m) no_parts a due h z y k

    declarator_lives : (due : Sort) → is_declarator due ≡ true → 1 ≤ m → Live body calls deep z y (none_of (goes_on due 1)) (λ _ t. Still a t) (declarator_of (in_place m) due 1)
    declarator_lives due h le = live_declarator deep m (E 1 le) (A 1 le) due h a z y k

    first_level : (due : Sort) (least : ℕ) → nat_eq least 1 ≡ true → Alive due 1 → Alive due least
    first_level due least e L = subst (λ least. Alive due least) (sym (eqb-true least 1 e)) L

    lives_at : (due : Sort) (least : ℕ) → rank due ≤ suc m → met due least ≡ true → Alive due least
    unfolding in_place
    lives_at s.Exp least le h = exp_lives m least deep (omega (arith, le)) (both (is_reached s.Exp least) true h).0 a z y k
    lives_at s.Declarator least le h = first_level s.Declarator least (both (is_reached s.Declarator least) true h).0 (declarator_lives s.Declarator refl (omega (arith, le)))
    lives_at s.AbstractDeclarator least le h = first_level s.AbstractDeclarator least (both (is_reached s.AbstractDeclarator least) true h).0 (declarator_lives s.AbstractDeclarator refl (omega (arith, le)))
    lives_at s.ParamDeclarator least le h = first_level s.ParamDeclarator least (both (is_reached s.ParamDeclarator least) true h).0 (declarator_lives s.ParamDeclarator refl (omega (arith, le)))
    lives_at s.MemberName least le h = first_level s.MemberName least (both (is_reached s.MemberName least) true h).0 (declarator_lives s.MemberName refl (omega (arith, le)))
    lives_at s.Id least le h = live_id a (none_of []) m least deep z y k
    lives_at s.DeclaredId least le h = live_declared a (none_of []) m least deep z y k
    lives_at s.ParameterId least le h = live_parameter a (none_of []) m least deep z y k
    lives_at s.EnumeratorId least le h = live_enumerator a (none_of []) m least deep z y k
    lives_at s.Literal least le h = live_literal a (none_of []) m least deep z y k
    lives_at s.Spec least le h = spec_lives s.Spec refl
    lives_at s.PlainSpec least le h = spec_lives s.PlainSpec refl
    lives_at s.Qualifier least le h = spec_lives s.Qualifier refl
    lives_at s.TypeName least le h = whole_lives 2 (omega (arith, le)) s.TypeName form.TypeName refl refl
    lives_at s.Member least le h = whole_lives 4 (omega (arith, le)) s.Member form.Member refl refl
    lives_at s.Enumerator least le h = whole_lives 3 (omega (arith, le)) s.Enumerator form.Enumerator refl refl
    lives_at s.Params least le h = live_parameters deep (in_place m) (E 3 (omega (arith, le))) (A 3 (omega (arith, le))) a z y k
    lives_at s.Param least le h = whole_lives 2 (omega (arith, le)) s.Param form.Param refl refl
    lives_at s.Init least le h = live_choose body calls deep z y (none_of (past s.Init 0)) (λ _ t. Still a t) (is_sign punct.LeftBrace (seen z y)) (whole (in_place m) s.Init (form.Init init.Braces)) (whole (in_place m) s.Init (form.Init init.One))
        (λ e. whole_lives 2 (omega (arith, le)) s.Init (form.Init init.Braces) refl e) (λ _. whole_lives 2 (omega (arith, le)) s.Init (form.Init init.One) refl refl)
    lives_at s.Decl least le h = whole_lives 5 (omega (arith, le)) s.Decl form.Decl refl refl
    lives_at s.Stmt least le h = live_statement a deep (in_place m) (E 2 (omega (arith, le))) (A 2 (omega (arith, le))) z y k
    lives_at s.Block least le h = live_choose body calls deep z y (none_of (past s.Block 0)) (λ _ t. Still a t) (is_sign punct.LeftBrace (seen z y)) (whole (in_place m) s.Stmt (form.Stmt stmt.Block)) Refuse
        (λ e. live_whole deep (in_place m) (reads 0) (E 0 (omega arith)) (A 0 (omega arith)) s.Stmt (form.Stmt stmt.Block) (past s.Block 0) a refl z y e k) (λ _. tt)
    lives_at s.BlockItem least le h = live_block_item a deep (in_place m) (E 5 (omega (arith, le))) (A 5 (omega (arith, le))) (E 2 (omega (arith, le))) (A 2 (omega (arith, le))) z y k
    lives_at s.InitDeclarator least le h = whole_lives 4 (omega (arith, le)) s.InitDeclarator (form.Group group.InitDeclarator) refl refl
    lives_at s.Initializer least le h = whole_lives 3 (omega (arith, le)) s.Initializer (form.Group group.Initializer) refl refl
    lives_at s.MemberDeclarator least le h = whole_lives 3 (omega (arith, le)) s.MemberDeclarator (form.Group group.MemberDeclarator) refl refl
    lives_at s.Width least le h = whole_lives 2 (omega (arith, le)) s.Width (form.Group group.Width) refl refl
    lives_at s.Members least le h = whole_lives 5 (omega (arith, le)) s.Members (form.Group group.Members) refl refl
    lives_at s.Enumerators least le h = whole_lives 4 (omega (arith, le)) s.Enumerators (form.Group group.Enumerators) refl refl
    lives_at s.EnumeratorValue least le h = whole_lives 2 (omega (arith, le)) s.EnumeratorValue (form.Group group.EnumeratorValue) refl refl
    lives_at s.ElsePart least le h = whole_lives 3 (omega (arith, le)) s.ElsePart (form.Group group.ElsePart) refl refl
    lives_at _ least le h = absurd (cc h)

leaves_in : (n : ℕ) (due : Sort) (least : ℕ) → met due least ≡ true → (a : List Kept) (z : State) (y : Shape) → Still a z → Leaves body z y (in_place n due least) (λ _ t. Still a t)
leaves_in n due least h a z y k = kept_in_place n due least a z y (no_item due least h) k

lives_in : (deep n : ℕ) (due : Sort) (least : ℕ) → reads n due least ≡ true → (a : List Kept) (z : State) (y : Shape) → Still a z → Live body calls deep z y (none_of (past due least)) (λ _ t. Still a t) (in_place n due least)
unfolding in_place
lives_in deep zero due least h a z y k = absurd (none_read due least h)
lives_in deep (suc m) due least h a z y k = let r = reads_at (suc m) due least h in
    lives_at deep m (record { lives = lives_in deep m; leaves = λ due least h. leaves_in m due least (reads_at m due least h).1 }) a z y k due least r.0 r.1

-- wherever they are read in place
pub able : (deep n : ℕ) → Able calls deep (in_place n) (reads n)
able deep n = record { lives = lives_in deep n; leaves = λ due least h. leaves_in n due least (reads_at n due least h).1 }
