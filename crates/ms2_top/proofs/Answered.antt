-- What a run says of the file, from what reading and writing say.
use Rattle.std.proofs.Common.{◌≡◌, refl, sym, subst, ◌∙◌, ◌<◌, ◌≤◌, ◌⊎◌, ℕ, List, length, Option, Some, None, IfSome, inl, inr, arith}
use Rattle.ms2_top.specs.declared.status.Status.{Status}
use Rattle.ms2_top.specs.declared.status.Status.TheVariants.{Done, Refused, Usage, Read, Write, Memory, Limit}
use Rattle.ms2_top.specs.Outcomes.{most_bytes}
use Rattle.ms2_top.specs.Runs.{AreBytes, IsRun, IsAnswer, IsReadFile, IsSettled, IsTooLarge}

some_file : (told : Option (Option (List ℕ))) (bytes : List ℕ) → AreBytes told bytes → IsRun told None None Memory
some_file None bytes h = tt
some_file (Some file) bytes h = subst (λ f. IsRun (Some f) None None Memory) (sym h) refl

pub by_status : (told : Option (Option (List ℕ))) (bytes : List ℕ) (old new : Option (List ℕ)) (status : Status) → AreBytes told bytes → length bytes ≤ most_bytes → IsAnswer bytes old new status → IsRun told old new status
by_status told bytes old new Done t w h = record { bytes = bytes; is_told = t; within = w; answer = h }
by_status told bytes old new Write t w h = record { bytes = bytes; is_told = t; within = w; answer = h }
by_status told bytes old new Refused t w h = record { bytes = bytes; is_told = t; within = w; answer = h }
by_status told bytes old new Memory t w h = some_file told bytes t
by_status told bytes old new Usage t w h = absurd h
by_status told bytes old new Read t w h = absurd h
by_status told bytes old new Limit t w h = inr (record { bytes = bytes; is_told = t; within = w; answer = h })

-- ---- a file that is told

same_file : (a b : List ℕ) → ◌≡◌ {A = Option (List ℕ)} (Some a) (Some b) → b ≡ a
same_file a b e = cc e

answer_of_it : (told : Option (Option (List ℕ))) (bytes : List ℕ) (old new : Option (List ℕ)) (status : Status) → told ≡ Some (Some bytes) → IsReadFile told old new status → IsAnswer bytes old new status
answer_of_it told bytes old new status e F = subst (λ b. IsAnswer b old new status) (same_file bytes F.bytes (subst (λ t. AreBytes t F.bytes) e F.is_told)) F.answer

pub told_so : (told : Option (Option (List ℕ))) (bytes : List ℕ) (most : ℕ) → IfSome told (λ file. (file ≡ Some bytes) × (length bytes ≤ most)) → AreBytes told bytes
told_so None bytes most h = tt
told_so (Some file) bytes most h = h.0

small : (told : Option (Option (List ℕ))) (bytes : List ℕ) → told ≡ Some (Some bytes) → length bytes ≤ most_bytes → IsTooLarge told → ⊥
small told bytes e le big = let h : most_bytes < length bytes = subst IsTooLarge e big in omega (arith, h, le)

other_file : (told : Option (Option (List ℕ))) (bytes : List ℕ) → told ≡ Some (Some bytes) → told ≡ Some None → ⊥
other_file told bytes e f = let g : ◌≡◌ {A = Option (Option (List ℕ))} (Some (Some bytes)) (Some None) = sym e ∙ f in absurd (cc g)

-- where the file is told and within the limit, and no device fails, the status is the one that its bytes have
pub settles : {A B : Type 0} (told : Option (Option (List ℕ))) (bytes : List ℕ) (old new : Option (List ℕ)) (status : Status) → told ≡ Some (Some bytes) → length bytes ≤ most_bytes → IsRun told old new status
    → (status ≡ Read → A ⊎ (told ≡ Some None)) → (A → ⊥) → (status ≡ Write → B) → (B → ⊥) → (status ≡ Usage → ⊥) → IsSettled bytes status
settles told bytes old new Done e le R r na w nb u = let W = answer_of_it told bytes old new Done e R in (W.text, W.is_text)
settles told bytes old new Write e le R r na w nb u = absurd (nb (w refl))
settles told bytes old new Refused e le R r na w nb u = answer_of_it told bytes old new Refused e R
settles told bytes old new Usage e le R r na w nb u = absurd (u refl)
settles told bytes old new Read e le R r na w nb u = elim (r refl) [
  | inl a ↦ absurd (na a)
  | inr f ↦ absurd (other_file told bytes e f)
]
settles told bytes old new Memory e le R r na w nb u = tt
settles told bytes old new Limit e le R r na w nb u = elim R [
  | inl big ↦ absurd (small told bytes e le big)
  | inr F ↦ answer_of_it told bytes old new Limit e F
]
