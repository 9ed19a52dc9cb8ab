-- Laws of the tails that members told.
use Rattle.std.proofs.Common.{◌≡◌, ℕ, zero, suc, ◌+◌, ◌*◌, ◌≤◌, List, [], ◌∷◌, take, Option, Some, None, refl, sym, ap, ◌∙◌, arith}
use Rattle.epoch_coordinator.specs.declared.tail.Tail.{Tail}
use Rattle.std.specs.Prelude.{unwrap_or, if◌then◌else◌}
use Rattle.epoch_coordinator.specs.declared.coordinator.Phase.TheVariants.{Electing}
use Rattle.epoch_coordinator.specs.Coordinators.{CoordinatorState, untold, untold_from, is_told, electors_of}
use Rattle.epoch_coordinator.specs.MemberSteps.{numbers_from}

-- a beginning of those that told nothing
pub take_untold : (n m : ℕ) → n ≤ m → take n (untold m) ≡ untold n
take_untold zero m few = refl
take_untold (suc n) zero few = absurd (omega arith)
take_untold (suc n) (suc m) few = ap (λ (l : List (Option Tail)). None ∷ l) (take_untold n m (omega arith))

-- where nobody told, all are to be told
pub all_untold : (n first : ℕ) → untold_from first (untold n) ≡ numbers_from first n
all_untold zero first = refl
all_untold (suc n) first = ap (λ (l : List ℕ). first ∷ l) (all_untold n (first + 1))

abbrev pub all_told : ℕ → ℕ → List (Option Tail) → CoordinatorState
all_told members epoch told = record { members = members; epoch = epoch; job = None; phase = Electing; told = told }

-- an epoch that was begun, where its number was the pending one
pub begun_is : (members epoch : ℕ) (job : Option ℕ) → members ≤ 7 → job ≡ Some epoch → all_told members epoch (take members (untold 7)) ≡ all_told members (unwrap_or job 0) (untold members)
begun_is members epoch job few is =
    ap (λ (l : List (Option Tail)). all_told members epoch l) (take_untold members 7 few) ∙ ap (λ (e : ℕ). all_told members e (untold members)) (sym (ap (λ (j : Option ℕ). unwrap_or j 0) is))

-- the members that told as the sum of their bits, the first of which is this one
abbrev pub bits_from : ℕ → List (Option Tail) → ℕ
bits_from bit [] = 0
bits_from bit (x ∷ xs) = (if is_told x then bit else 0) + bits_from (2 * bit) xs

doubled : (xs : List (Option Tail)) (bit : ℕ) → bits_from (2 * bit) xs ≡ 2 * bits_from bit xs
doubled [] bit = refl
doubled (None ∷ xs) bit = let more = doubled xs (2 * bit) in omega (arith, more)
doubled (Some tail ∷ xs) bit = let more = doubled xs (2 * bit) in omega (arith, more)

pub bits_are : (xs : List (Option Tail)) → bits_from 1 xs ≡ electors_of xs
bits_are [] = refl
bits_are (None ∷ xs) = let twice = doubled xs 1 in let more = bits_are xs in omega (arith, twice, more)
bits_are (Some tail ∷ xs) = let twice = doubled xs 1 in let more = bits_are xs in omega (arith, twice, more)
