-- The elements of a list, turn by turn.
use Rattle.std.proofs.Common.{◌≡◌, refl, ap, ◌∙◌, ℕ, ◌+◌, ◌-◌, ◌<◌, true, false, length, Ok, Err}
use Rattle.c_tokens.specs.declared.class.Class.{Class}
use Rattle.c_forms.specs.declared.pieces.Sort.{Sort}
use Rattle.c_forms.specs.declared.pieces.Repetition.{Repetition}
use Rattle.c_reader.specs.declared.refusal.Refusal.{Refusal}
use Rattle.c_reader.specs.declared.refusal.Refusal.TheVariants.{TooDeep}
use Rattle.c_reader.specs.Readers.{Reader, Found, Input, More, Last, here, next, and_then, Bind, Give}
use Rattle.c_syntax.specs.Reading.{Gathered, goes, separated, separator_of, element_after, others, others_ended, ended_turn, is_class, ended}
use Rattle.table_parser.specs.Nests.{read}
use Rattle.table_parser.specs.Turns.{others_from, ended_from}
use Rattle.table_parser.proofs.Loops.{chosen, unchosen, on, out, over, broken, loop_last, loop_more, loop_out, loop_broken}

module _ (d : ℕ) (r : Repetition) (due : Sort) (element : Reader Found) (g : Gathered) (i : Input) where
  pub others_begin : read d (others r due element g) i ≡ others_from d r due element (d + length i.tokens) g i
  unfolding others others_from
  others_begin = refl

  pub others_on : (n : ℕ) (h : Gathered) (j : Input) → 0 < n → goes r due g (here i) ≡ true → read d (separated (separator_of r) (element_after element g)) i ≡ Ok (h, j)
      → others_from d r due element n g i ≡ others_from d r due element (n - 1) h j
  unfolding others_from
  others_on n h j p e o = on d (goes r due) (λ _ g. separated (separator_of r) (element_after element g)) g i n h j p e o

  pub others_out : (n : ℕ) (h : Gathered) (j : Input) → n ≡ 0 → goes r due g (here i) ≡ true → read d (separated (separator_of r) (element_after element g)) i ≡ Ok (h, j)
      → others_from d r due element n g i ≡ Err (TooDeep j.at.place)
  unfolding others_from
  others_out n h j p e o = out d (goes r due) (λ _ g. separated (separator_of r) (element_after element g)) g i n h j p e o

  pub others_over : (n : ℕ) → goes r due g (here i) ≡ false → others_from d r due element n g i ≡ Ok (g, i)
  unfolding others_from
  others_over n e = over d (goes r due) (λ _ g. separated (separator_of r) (element_after element g)) g i n e

  pub others_broken : (n : ℕ) (x : Refusal) → goes r due g (here i) ≡ true → read d (separated (separator_of r) (element_after element g)) i ≡ Err x
      → others_from d r due element n g i ≡ Err x
  unfolding others_from
  others_broken n x e o = broken d (goes r due) (λ _ g. separated (separator_of r) (element_after element g)) g i n x e o

pub ruleset elements = (others_begin, others_on, others_out, others_over, others_broken)

module _ (d : ℕ) (separator end_token : Class) (element : Reader Found) (g : Gathered) (i : Input) where
  turn_over : is_class separator (here i) ≡ false → read d (ended_turn separator end_token element g) i ≡ Ok (Last g, i)
  turn_over e = unchosen d (is_class separator (here i)) _ (Give (Last g)) i e

  turn_end : is_class separator (here i) ≡ true → is_class end_token (here (next i)) ≡ true → read d (ended_turn separator end_token element g) i ≡ Ok (Last (ended g), next i)
  turn_end e f = chosen d (is_class separator (here i)) _ (Give (Last g)) i e ∙ chosen d (is_class end_token (here (next i))) (Give (Last (ended g))) _ (next i) f

  turn_more : (h : Gathered) (j : Input) → is_class separator (here i) ≡ true → is_class end_token (here (next i)) ≡ false → read d (element_after element g) (next i) ≡ Ok (h, j)
      → read d (ended_turn separator end_token element g) i ≡ Ok (More h, j)
  turn_more h j e f o = chosen d (is_class separator (here i)) _ (Give (Last g)) i e
      ∙ unchosen d (is_class end_token (here (next i))) (Give (Last (ended g))) (Bind (element_after element g) (λ h. Give (More h))) (next i) f
      ∙ ap (λ o. and_then o (λ h j. Ok (More h, j))) o

  turn_broken : (x : Refusal) → is_class separator (here i) ≡ true → is_class end_token (here (next i)) ≡ false → read d (element_after element g) (next i) ≡ Err x
      → read d (ended_turn separator end_token element g) i ≡ Err x
  turn_broken x e f o = chosen d (is_class separator (here i)) _ (Give (Last g)) i e
      ∙ unchosen d (is_class end_token (here (next i))) (Give (Last (ended g))) (Bind (element_after element g) (λ h. Give (More h))) (next i) f
      ∙ ap (λ o. and_then o (λ h j. Ok (More h, j))) o

  pub ended_begin : read d (others_ended separator end_token element g) i ≡ ended_from d separator end_token element (d + length i.tokens) g i
  unfolding others_ended ended_from
  ended_begin = refl

  pub ended_over : (n : ℕ) → is_class separator (here i) ≡ false → ended_from d separator end_token element n g i ≡ Ok (g, i)
  unfolding ended_from
  ended_over n e = loop_last (λ g j. read d (ended_turn separator end_token element g) j) g i n g i (turn_over e)

  pub ended_end : (n : ℕ) → is_class separator (here i) ≡ true → is_class end_token (here (next i)) ≡ true → ended_from d separator end_token element n g i ≡ Ok (ended g, next i)
  unfolding ended_from
  ended_end n e f = loop_last (λ g j. read d (ended_turn separator end_token element g) j) g i n (ended g) (next i) (turn_end e f)

  pub ended_on : (n : ℕ) (h : Gathered) (j : Input) → 0 < n → is_class separator (here i) ≡ true → is_class end_token (here (next i)) ≡ false → read d (element_after element g) (next i) ≡ Ok (h, j)
      → ended_from d separator end_token element n g i ≡ ended_from d separator end_token element (n - 1) h j
  unfolding ended_from
  ended_on n h j p e f o = loop_more (λ g j. read d (ended_turn separator end_token element g) j) g i n h j p (turn_more h j e f o)

  pub ended_out : (n : ℕ) (h : Gathered) (j : Input) → n ≡ 0 → is_class separator (here i) ≡ true → is_class end_token (here (next i)) ≡ false → read d (element_after element g) (next i) ≡ Ok (h, j)
      → ended_from d separator end_token element n g i ≡ Err (TooDeep j.at.place)
  unfolding ended_from
  ended_out n h j p e f o = loop_out (λ g j. read d (ended_turn separator end_token element g) j) g i n h j p (turn_more h j e f o)

  pub ended_broken : (n : ℕ) (x : Refusal) → is_class separator (here i) ≡ true → is_class end_token (here (next i)) ≡ false → read d (element_after element g) (next i) ≡ Err x
      → ended_from d separator end_token element n g i ≡ Err x
  unfolding ended_from
  ended_broken n x e f o = loop_broken (λ g j. read d (ended_turn separator end_token element g) j) g i n x (turn_broken x e f o)

pub ruleset ends = (ended_begin, ended_over, ended_end, ended_on, ended_out)
