-- What a sink has gained of a line that is sent in pieces.
use Rattle.std.proofs.Common.{◌≡◌, ap, sym, subst, ◌∙◌, ℕ, suc, ◌+◌, ◌<◌, List, ◌++◌, length, get_or, take, drop, append_assoc, Option, Some, None, Result, Ok, Err, OnErr, Bor, arith}
use Rattle.std.proofs.Math.Seq.{drop-cons, take-append-add}
use Rattle.std.proofs.lemmas.Grind.{flat_map-append}
use Rattle.std.proofs.lemmas.List.{take-append-drop, take-append-le}
use Rattle.std.specs.List.{flat_map, SomeIndex}
use Rattle.io_edge.specs.Put.{Appends}
use Rattle.ms2_top.specs.Messages.{HasFront}

-- a front that ends in the middle one of three pieces
take_middle : (a b c : List ℕ) (n : ℕ) → n < length b → take (length a + n) (a ++ (b ++ c)) ≡ a ++ take n b
take_middle a b c n lt = take-append-add a (b ++ c) n ∙ ap (λ t. a ++ t) (take-append-le n b c (omega arith))

-- the sink took a piece, and of the next one a part
pub front_of : (old middle new : Option (List ℕ)) (a b c : List ℕ) → Appends old a middle → SomeIndex b (λ n. Appends middle (take n b) new) → HasFront old (a ++ (b ++ c)) new
front_of None middle new a b c first next = (0, tt)
front_of (Some held) middle new a b c first next =
    let later : Appends (Some (held ++ a)) (take next.0 b) new = subst (λ m. Appends m (take next.0 b) new) first next.2 in
    (length a + next.0, rw (take_middle a b c next.0 next.1, ← append_assoc held a (take next.0 b)) later)

-- the bytes of all pieces, split at one of them
split_at : (pieces : List (Bor (List ℕ))) (i : ℕ) (d : Bor (List ℕ)) → i < length pieces
    → flat_map (λ p. p.now) (take i pieces) ++ ((get_or pieces i d).now ++ flat_map (λ p. p.now) (drop (suc i) pieces)) ≡ flat_map (λ p. p.now) pieces
split_at pieces i d lt =
    ap (λ r. flat_map (λ p. p.now) (take i pieces) ++ flat_map (λ p. p.now) r) (sym (drop-cons pieces i d lt))
    ∙ sym (flat_map-append (λ p. p.now) (take i pieces) (drop i pieces))
    ∙ ap (flat_map (λ p. p.now)) (take-append-drop i pieces)

pub front_of_pieces : (old middle new : Option (List ℕ)) (pieces : List (Bor (List ℕ))) (i : ℕ) (d : Bor (List ℕ)) → i < length pieces
    → Appends old (flat_map (λ p. p.now) (take i pieces)) middle → SomeIndex (get_or pieces i d).now (λ n. Appends middle (take n (get_or pieces i d).now) new)
    → HasFront old (flat_map (λ p. p.now) pieces) new
front_of_pieces old middle new pieces i d lt first next =
    subst (λ line. HasFront old line new) (split_at pieces i d lt)
    (front_of old middle new (flat_map (λ p. p.now) (take i pieces)) (get_or pieces i d).now (flat_map (λ p. p.now) (drop (suc i) pieces)) first next)

pub on_err : {A E P : Type 0} (r : Result A E) → P → OnErr r P
on_err (Ok v) h = tt
on_err (Err e) h = h
