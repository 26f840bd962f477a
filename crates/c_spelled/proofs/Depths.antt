-- What is spelled is read, however deep it is, of each sort that is a part.
use Rattle.std.proofs.Common.{◌≡◌, inl, inr, refl, subst, ap, sym, ◌∙◌, ℕ, zero, suc, ◌+◌, ◌≤◌, Bool, true, false, List, [], arith}
use Rattle.c_tokens.specs.declared.token.Shape.{Shape}
use Rattle.c_tokens.specs.declared.token.Punct.TheVariants as punct
use Rattle.c_tokens.specs.declared.class.Class.TheVariants as class
use Rattle.c_forms.specs.declared.pieces.Event.TheVariants as event
use Rattle.c_forms.specs.declared.pieces.Sort.{Sort}
use Rattle.c_forms.specs.declared.pieces.Sort.TheVariants as s
use Rattle.c_forms.specs.declared.forms.Form.{Form}
use Rattle.c_forms.specs.declared.forms.Form.TheVariants as form
use Rattle.c_forms.specs.declared.forms.DeclaratorForm.{DeclaratorForm}
use Rattle.c_forms.specs.declared.forms.DeclaratorForm.TheVariants as declarator
use Rattle.c_forms.specs.Forests.{Plain}
use Rattle.c_forms.specs.Forests as forests
use Rattle.c_forms.specs.Measures.{pieces}
use Rattle.c_forms.specs.Sets.{has, starts, goes_on}
use Rattle.c_reader.specs.States.{happens}
use Rattle.c_reader.specs.Tokens.{Spot, step, turned, class_at}
use Rattle.c_reader.specs.Readers.{read, below}
use Rattle.c_reader.proofs.Local.{from}
use Rattle.c_reader.proofs.Sets.{contrary}
use Rattle.c_syntax.specs.Allowed.{places}
use Rattle.c_syntax.specs.Reading.{Usual, is_absent, is_starred, spanned}
use Rattle.c_syntax.specs.Grammar.{opened, in_place, body}
use Rattle.c_syntax.specs.Spells.{Spelling, nothing_spelled, Is, Matches, parts_spelled, IsNode, may_be, AnyWord, InPlace, Spells}
use Rattle.c_spelled.specs.Fitting.{is_read, need}
use Rattle.c_spelled.proofs.Off.{Off}
use Rattle.c_spelled.proofs.Begins.{AllBegin, in_place_begins, spells_begin}
use Rattle.c_spelled.proofs.Balance.{spells_same}
use Rattle.c_spelled.proofs.Groups.{Got}
use Rattle.c_spelled.proofs.Exps.{exp_rises, opened_read}
use Rattle.c_spelled.proofs.Operands.{EndOff, RisesExp}
use Rattle.c_spelled.proofs.Heads.{RisesSo, There}
use Rattle.c_spelled.proofs.Declarators as with_name
use Rattle.c_spelled.proofs.Abstracts as without_name
use Rattle.c_spelled.proofs.ParamDeclarators as of_parameter
use Rattle.c_spelled.proofs.MemberNames as of_member
use Rattle.c_spelled.proofs.Nodes.{Room}
use Rattle.c_spelled.proofs.Alone.{declarator_is, abstract_is, param_is}
use Rattle.c_spelled.proofs.Sorts.{DeclaratorsRise, Deep, in_place_read, leaf_reads, literals, declareds, no_absent}

few_in_all : (due : Sort) → need due ≤ places
few_in_all s.Exp = omega arith
few_in_all _ = omega arith

-- ---- one level more

module _ (d top : ℕ) (w : List Shape) (levels : Type 0) (room : Room levels d top) (under : top ≤ d) (deeper : Spelling) (D : Deep d top w deeper) where
  abbrev whole_spelled : Spelling
  whole_spelled = InPlace places levels deeper w

  abbrev IB : AllBegin w (InPlace 8 levels deeper w)
  IB = in_place_begins 8 levels deeper w D.begins

  next_exps : (n m l : ℕ) (t : Plain) (i k : Spot) → whole_spelled s.Exp m t i k → l ≤ m → EndOff s.Exp w m k → RisesExp body d w (in_place (suc n)) l (top + 1) i t m k
  unfolding InPlace
  next_exps n m l t i k A le o = exp_rises body d top w levels room under deeper (InPlace 8 levels deeper w) (in_place (suc n)) D.begins IB D.calls (leaf_reads d top w levels room under deeper D n 8) (literals d top w levels room under deeper D 8) D.opens (D.exps n) l m t i k A le o

  next_declarators : DeclaratorsRise d (top + 1) w whole_spelled s.Declarator s.Declarator
  unfolding InPlace
  next_declarators n m l t i k A le o clear = with_name.rises body d top w levels room under deeper (InPlace 8 levels deeper w) (in_place (suc n)) D.begins IB D.calls (leaf_reads d top w levels room under deeper D n 8) (declareds d top w levels room under deeper D 8) D.same
      (no_absent d top w levels room under deeper D) D.named (D.declarators n) l m t i k A le o clear

  next_abstracts : DeclaratorsRise d (top + 1) w whole_spelled s.AbstractDeclarator s.AbstractDeclarator
  unfolding InPlace
  next_abstracts n m l t i k A le o clear = without_name.rises body d top w levels room under deeper (InPlace 8 levels deeper w) (in_place (suc n)) D.begins IB D.calls (leaf_reads d top w levels room under deeper D n 8) (declareds d top w levels room under deeper D 8) D.same
      D.abstract_there (D.abstracts n) l m t i k A le o clear

  next_parameters : DeclaratorsRise d (top + 1) w whole_spelled s.ParamDeclarator s.ParamDeclarator
  unfolding InPlace
  next_parameters n m l t i k A le o clear = of_parameter.rises body d top w levels room under deeper (InPlace 8 levels deeper w) (in_place (suc n)) D.begins IB D.calls (leaf_reads d top w levels room under deeper D n 8) (declareds d top w levels room under deeper D 8) D.same
      D.parameter_there (D.parameters n) l m t i k A le o clear

  next_members : DeclaratorsRise d (top + 1) w whole_spelled s.MemberName s.Declarator
  unfolding InPlace
  next_members n m l t i k A le o clear = of_member.inner_rises body d top w levels room under deeper (InPlace 8 levels deeper w) (in_place (suc n)) D.begins IB D.calls (leaf_reads d top w levels room under deeper D n 8) (declareds d top w levels room under deeper D 8) D.same
      (no_absent d top w levels room under deeper D) D.named (D.members n) l m t i k A le o clear

  next_opens : (t : Plain) (i j : Spot) → whole_spelled s.Exp 15 t i j → Is w (class.Punct punct.LeftParen) i → Off (goes_on s.Exp 15) w j.place
      → (has (starts s.TypeName) (class_at w (turned (happens event.Aside) (step i))) ≡ false) × Got (read body d opened (from w (step i))) top t w j
  unfolding InPlace
  next_opens t i j A c o = opened_read body d top w levels room under deeper (InPlace 8 levels deeper w) (in_place (suc 0)) D.begins IB D.calls (leaf_reads d top w levels room under deeper D 0 8) (literals d top w levels room under deeper D 8) D.opens (D.exps 0) t i j A c o

  next_reads : (due : Sort) (least : ℕ) (t : Plain) (i j : Spot) → is_read due ≡ true → whole_spelled due least t i j → Off (goes_on due least) w j.place → Got (read body d (in_place places due least) (from w i)) top t w j
  next_reads due least t i j r A o = in_place_read d top w levels room under deeper D places places due least t i j r (few_in_all due) A o

-- ---- what a word, a name and nothing spell

abbrev form_absent : DeclaratorForm → Bool
form_absent g = is_absent (forests.node (form.Declarator g) (spanned 0 0) [])

module _ (levels : Type 0) (deeper : Spelling) (w : List Shape) where
  id_word : (least : ℕ) (t : Plain) (i j : Spot) → InPlace places levels deeper w s.Id least t i j → AnyWord w t i × (step i ≡ j)
  unfolding InPlace
  id_word least t i j A = A

  absent_no : (g : DeclaratorForm) → may_be s.Declarator (form.Declarator g) ≡ true → form_absent g ≡ false
  absent_no declarator.Absent m = absurd (cc m)
  absent_no declarator.Named m = refl
  absent_no declarator.Pointer m = refl
  absent_no declarator.ArrayOf m = refl
  absent_no declarator.FunctionOf m = refl

  is_named : (m : ℕ) (t : Plain) (i k : Spot) → InPlace places levels deeper w s.Declarator m t i k → is_absent t ≡ true → ⊥
  unfolding InPlace
  is_named m t i k (inl N) e = let g = declarator_is t.form N.may in
      contrary (is_absent t) e (ap (λ f. is_absent (forests.node f (spanned 0 0) [])) g.1 ∙ absent_no g.0 (ap (may_be s.Declarator) (sym g.1) ∙ N.may))
  is_named m t i k (inr W) e = contrary (is_absent t) e W.is_there

  there_so : (due : Sort) (g : DeclaratorForm) (t : Plain) (parts : List Plain) (P : Spelling) (i k : Spot) → t ≡ forests.node (form.Declarator g) (spanned i.place k.place) parts → Matches P w due (form.Declarator g) Usual (pieces (form.Declarator g)) parts i k → There due t i k
  there_so due declarator.Absent t parts P i k v M = inr (M.1, v ∙ ap (λ (k : Spot). forests.node (form.Declarator declarator.Absent) (spanned i.place k.place) parts) (sym M.1) ∙ ap (λ ps. forests.node (form.Declarator declarator.Absent) (spanned i.place i.place) ps) M.0)
  there_so due declarator.Named t parts P i k v M = inl (ap is_absent v)
  there_so due declarator.Pointer t parts P i k v M = inl (ap is_absent v)
  there_so due declarator.ArrayOf t parts P i k v M = inl (ap is_absent v)
  there_so due declarator.FunctionOf t parts P i k v M = inl (ap is_absent v)

  there_node : (due : Sort) (least : ℕ) (inner : Spelling) (t : Plain) (i k : Spot) → ((f : Form) → may_be due f ≡ true → (g : DeclaratorForm) × (f ≡ form.Declarator g)) → IsNode levels deeper inner w due least t i k → There due t i k
  there_node due least inner t i k only N = let g = only t.form N.may in
      there_so due g.0 t N.parts (parts_spelled (is_starred (form.Declarator g.0)) deeper inner) i k (N.value ∙ ap (λ f. forests.node f (spanned i.place k.place) N.parts) g.1)
      (subst (λ f. Matches (parts_spelled (is_starred f) deeper inner) w due f Usual (pieces f) N.parts i k) g.1 N.matches)

  abstract_so : (m : ℕ) (t : Plain) (i k : Spot) → InPlace places levels deeper w s.AbstractDeclarator m t i k → There s.AbstractDeclarator t i k
  unfolding InPlace
  abstract_so m t i k (inl N) = there_node s.AbstractDeclarator m (InPlace 8 levels deeper w) t i k abstract_is N
  abstract_so m t i k (inr W) = inl W.is_there

  parameter_so : (m : ℕ) (t : Plain) (i k : Spot) → InPlace places levels deeper w s.ParamDeclarator m t i k → There s.ParamDeclarator t i k
  unfolding InPlace
  parameter_so m t i k (inl N) = there_node s.ParamDeclarator m (InPlace 8 levels deeper w) t i k param_is N
  parameter_so m t i k (inr W) = inl W.is_there

-- ---- all levels

abbrev pub levels_of : ℕ → Type 0
levels_of zero = ⊥
levels_of (suc e) = Unit {0}

abbrev pub deeper_of : ℕ → List Shape → Spelling
deeper_of zero w = nothing_spelled
deeper_of (suc e) w = Spells e w

pub room_of : (e d : ℕ) → e ≤ d → Room (levels_of e) d e
room_of zero d le = λ l. absurd l
room_of (suc e) d le = λ l. (omega (arith, le), omega arith)

abbrev Places : ℕ → List Shape → Spelling
Places e w = InPlace places (levels_of e) (deeper_of e w) w

pub placed : (e : ℕ) (w : List Shape) (due : Sort) (least : ℕ) (t : Plain) (i j : Spot) → Spells e w due least t i j → Places e w due least t i j
unfolding Spells
placed zero w due least t i j A = A
placed (suc e) w due least t i j A = A

one_more : (e : ℕ) → e + 1 ≡ suc e
one_more e = omega arith

-- what lies deeper is read with as many levels as it has, or more
pub deep : (e d : ℕ) (w : List Shape) → e ≤ d → Deep d e w (deeper_of e w)
unfolding below
deep zero d w le = record {
  begins = λ due least t i j r A. absurd A;
  same = λ due least t i j r A. absurd A;
  calls = λ due least t i j r A o. absurd A;
  opens = λ t i j A c o. absurd A;
  exps = λ n m l t i k A le o. absurd A;
  declarators = λ n m l t i k A le o c. absurd A;
  abstracts = λ n m l t i k A le o c. absurd A;
  parameters = λ n m l t i k A le o c. absurd A;
  members = λ n m l t i k A le o c. absurd A;
  ids = λ least t i j A. absurd A;
  named = λ m t i k A e. absurd A;
  abstract_there = λ m t i k A. absurd A;
  parameter_there = λ m t i k A. absurd A;
}
deep (suc e) zero w le = absurd (omega (arith, le))
deep (suc e) (suc d) w le =
    let L : Type 0 = levels_of e in
    let P : Spelling = deeper_of e w in
    let D : Deep (suc d) e w P = deep e (suc d) w (omega (arith, le)) in
    let under : e ≤ suc d = omega (arith, le) in
    let room : Room L (suc d) e = room_of e (suc d) under in
    let D' : Deep d e w P = deep e d w (omega (arith, le)) in
    let under' : e ≤ d = omega (arith, le) in
    let room' : Room L d e = room_of e d under' in
    record {
      begins = spells_begin e w;
      same = spells_same e w;
      calls = λ due least t i j r A o. let G = next_reads d e w L room' under' P D' due least t i j r (placed e w due least t i j A) o in record { height = G.height; low = omega (arith, G.low); reads = G.reads };
      opens = λ t i j A c o. let K = next_opens d e w L room' under' P D' t i j (placed e w s.Exp 15 t i j A) c o in (K.0, record { height = K.1.height; low = omega (arith, K.1.low); reads = K.1.reads });
      exps = λ n m l t i k A le o. subst (λ b. RisesExp body (suc d) w (in_place (suc n)) l b i t m k) (one_more e) (next_exps (suc d) e w L room under P D n m l t i k (placed e w s.Exp m t i k A) le o);
      declarators = λ n m l t i k A le o c. subst (λ b. RisesSo body (suc d) w (in_place (suc n)) s.Declarator l b i t m k) (one_more e) (next_declarators (suc d) e w L room under P D n m l t i k (placed e w s.Declarator m t i k A) le o c);
      abstracts = λ n m l t i k A le o c. subst (λ b. RisesSo body (suc d) w (in_place (suc n)) s.AbstractDeclarator l b i t m k) (one_more e) (next_abstracts (suc d) e w L room under P D n m l t i k (placed e w s.AbstractDeclarator m t i k A) le o c);
      parameters = λ n m l t i k A le o c. subst (λ b. RisesSo body (suc d) w (in_place (suc n)) s.ParamDeclarator l b i t m k) (one_more e) (next_parameters (suc d) e w L room under P D n m l t i k (placed e w s.ParamDeclarator m t i k A) le o c);
      members = λ n m l t i k A le o c. subst (λ b. RisesSo body (suc d) w (in_place (suc n)) s.MemberName l b i t m k) (one_more e) (next_members (suc d) e w L room under P D n m l t i k (placed e w s.Declarator m t i k A) le o c);
      ids = λ least t i j A. id_word L P w least t i j (placed e w s.Id least t i j A);
      named = λ m t i k A. is_named L P w m t i k (placed e w s.Declarator m t i k A);
      abstract_there = λ m t i k A. abstract_so L P w m t i k (placed e w s.AbstractDeclarator m t i k A);
      parameter_there = λ m t i k A. parameter_so L P w m t i k (placed e w s.ParamDeclarator m t i k A);
    }

-- Whatever is spelled and does not go on is read, with as many levels as it is deep, or more.
pub spelled_read : (e d : ℕ) (w : List Shape) → e ≤ d → (due : Sort) (least : ℕ) (t : Plain) (i j : Spot) → is_read due ≡ true → Spells e w due least t i j → Off (goes_on due least) w j.place → Got (read body d (in_place places due least) (from w i)) e t w j
spelled_read e d w le due least t i j r A o = next_reads d e w (levels_of e) (room_of e d le) le (deeper_of e w) (deep e d w le) due least t i j r (placed e w due least t i j A) o
