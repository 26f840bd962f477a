-- The text of marks, one mark at a time.
use Rattle.std.proofs.Common.{◌≡◌, ap, sym, ◌∙◌, ℕ, ◌+◌, ◌<◌, ◌≤◌, List, [], ◌++◌, length, drop, get_or, append_assoc, add-one, length-append, arith}
use Rattle.std.specs.Prelude.{Option, Some}
use Rattle.std.proofs.Math.Seq.{drop-cons}
use Rattle.std.proofs.Math.ListN.{drop_of_length-le}
use Rattle.c_layout.specs.declared.marks.Mark.{Mark}
use Rattle.c_text.specs.Text.{text_after, text_of_mark, line_end}

text_goes_on : (names : List (List ℕ)) (last : Option Mark) (marks : List Mark) (at : ℕ) (d : Mark) → at < length marks
    → text_after names last (drop at marks) ≡ text_of_mark names last (get_or marks at d) ++ text_after names (Some (get_or marks at d)) (drop (at + 1) marks)
unfolding text_after
text_goes_on names last marks at d within = rw (add-one, drop-cons marks at d)

text_ends : (names : List (List ℕ)) (last : Option Mark) (marks : List Mark) (at : ℕ) → length marks ≤ at
    → text_after names last (drop at marks) ≡ line_end last
unfolding text_after
text_ends names last marks at past =
    let none : drop at marks ≡ [] = drop_of_length-le marks past
    in ap (λ u. text_after names last u) none

-- after one more mark, the text so far and that of the others are still the whole
pub text_steps : (names : List (List ℕ)) (last : Option Mark) (marks : List Mark) (at : ℕ) (d : Mark) (a b whole : List ℕ) → at < length marks
    → b ≡ a ++ text_of_mark names last (get_or marks at d)
    → a ++ text_after names last (drop at marks) ≡ whole → b ++ text_after names (Some (get_or marks at d)) (drop (at + 1) marks) ≡ whole
text_steps names last marks at d a b whole within eb e =
    rw eb (append_assoc a _ _ ∙ sym (ap (λ u. a ++ u) (text_goes_on names last marks at d within)) ∙ e)

-- a part that is too long makes the whole too long
too_long : (most : ℕ) (a b c whole : List ℕ) → most < length a + length b → a ++ (b ++ c) ≡ whole → most < length whole
too_long most a b c whole over e = omega (arith, ap length e, length-append a (b ++ c), length-append b c)

pub text_too_large : (names : List (List ℕ)) (last : Option Mark) (marks : List Mark) (at : ℕ) (d : Mark) (most : ℕ) (a whole : List ℕ) → at < length marks
    → most < length a + length (text_of_mark names last (get_or marks at d))
    → a ++ text_after names last (drop at marks) ≡ whole → most < length whole
text_too_large names last marks at d most a whole within over e =
    too_long most a (text_of_mark names last (get_or marks at d)) (text_after names (Some (get_or marks at d)) (drop (at + 1) marks)) whole over
    (sym (ap (λ u. a ++ u) (text_goes_on names last marks at d within)) ∙ e)

pub text_finished : (names : List (List ℕ)) (last : Option Mark) (marks : List Mark) (at : ℕ) (a b whole : List ℕ) → length marks ≤ at
    → b ≡ a ++ line_end last → a ++ text_after names last (drop at marks) ≡ whole → b ≡ whole
text_finished names last marks at a b whole past eb e = eb ∙ sym (ap (λ u. a ++ u) (text_ends names last marks at past)) ∙ e

pub text_end_too_large : (names : List (List ℕ)) (last : Option Mark) (marks : List Mark) (at : ℕ) (most : ℕ) (a whole : List ℕ) → length marks ≤ at
    → most < length a + length (line_end last) → a ++ text_after names last (drop at marks) ≡ whole → most < length whole
text_end_too_large names last marks at most a whole past over e =
    let all : a ++ line_end last ≡ whole = sym (ap (λ u. a ++ u) (text_ends names last marks at past)) ∙ e
    in omega (arith, ap length all, length-append a (line_end last))
