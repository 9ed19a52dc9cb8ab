-- Two majorities share a member; how many a list of flags counts.
use Rattle.std.proofs.Common.{inl, inr, ◌≡◌, ℕ, ◌+◌, ◌*◌, ◌/◌, ◌%◌, ◌<◌, Bool, true, false, List, [], ◌∷◌, length, map, refl, sym, ap, ◌∙◌, zero, suc, arith, Option, Some, None}
use Rattle.std.specs.Prelude.{◌==◌, nat_le, slice_index_or, slice_set, if◌then◌else◌}
use Rattle.epoch_coordinator.specs.declared.tail.Tail.{Tail}
use Rattle.epoch_coordinator.specs.MemberSteps.{reaching}
use Rattle.epoch_coordinator.specs.Coordinators.{is_told, repliers, electors_of, Told}
use Rattle.replication_laws.specs.Majorities.{votes, IsMajority, is_voter, flags_of}

abbrev Shared : List Bool → List Bool → Type 0
Shared a b = (i : ℕ) × (slice_index_or a i false ≡ true) × (slice_index_or b i false ≡ true)

further : (x y : Bool) (a b : List Bool) → Shared a b → Shared (x ∷ a) (y ∷ b)
further x y a b s = (suc s.0, s.1, s.2)

-- two tests with more passes together than there are places pass at one place together
common : (a b : List Bool) → length a ≡ length b → length a < votes a + votes b → Shared a b
common [] [] e h = absurd (omega (arith, h))
common [] (y ∷ b) e h = absurd (omega (arith, e))
common (x ∷ a) [] e h = absurd (omega (arith, e))
common (true ∷ a) (true ∷ b) e h = (0, refl, refl)
common (true ∷ a) (false ∷ b) e h = further true false a b (common a b (omega (arith, e)) (omega (arith, e, h)))
common (false ∷ a) (true ∷ b) e h = further false true a b (common a b (omega (arith, e)) (omega (arith, e, h)))
common (false ∷ a) (false ∷ b) e h = further false false a b (common a b (omega (arith, e)) (omega (arith, e, h)))

pub majorities : (n : ℕ) (a b : List Bool) → IsMajority n a → IsMajority n b → (k : ℕ) × (is_voter a k ≡ true) × (is_voter b k ≡ true)
majorities n a b p q =
    let s = common a b (p.each ∙ sym q.each) (omega (arith, p.each, q.each, p.most, q.most)) in
    (suc s.0, s.1, s.2)

-- those that told are as many as the flags that say so
pub told_votes : (told : List (Option Tail)) → votes (map is_told told) ≡ repliers told
told_votes [] = refl
told_votes (x ∷ xs) = ap (λ (n : ℕ). (if is_told x then 1 else 0) + n) (told_votes xs)

pub reaching_votes : (end : ℕ) (ends : List ℕ) → votes (map (nat_le end) ends) ≡ reaching end ends
reaching_votes end [] = refl
reaching_votes end (x ∷ xs) = ap (λ (n : ℕ). (if nat_le end x then 1 else 0) + n) (reaching_votes end xs)

-- one flag more
pub votes_set : (voters : List Bool) (i : ℕ) → i < length voters → slice_index_or voters i false ≡ false → votes (slice_set voters i true) ≡ 1 + votes voters
votes_set [] i h e = absurd (omega (arith, h))
votes_set (false ∷ bs) zero h e = omega arith
votes_set (true ∷ bs) zero h e = absurd cc
votes_set (b ∷ bs) (suc i) h e = let more = votes_set bs i (omega (arith, h)) e in omega (arith, more)

-- the bits that stand for the electors give their flags back
half : (b : Bool) (n : ℕ) → (((if b then 1 else 0) + 2 * n) / 2 ≡ n) × ((((if b then 1 else 0) + 2 * n) % 2 == 1) ≡ b)
half true n = (omega arith, odd n)
  where
    odd : (n : ℕ) → ((1 + 2 * n) % 2 == 1) ≡ true
    odd n = let e : (1 + 2 * n) % 2 ≡ 1 = omega arith in rw e refl
half false n = (omega arith, even n)
  where
    even : (n : ℕ) → ((0 + 2 * n) % 2 == 1) ≡ false
    even n = let e : (0 + 2 * n) % 2 ≡ 0 = omega arith in rw e refl

pub flags_are : (told : List (Option Tail)) → flags_of (length told) (electors_of told) ≡ map is_told told
flags_are [] = refl
flags_are (x ∷ xs) =
    let h = half (is_told x) (electors_of xs) in
    ap (λ (b : Bool). b ∷ flags_of (length xs) (((if is_told x then 1 else 0) + 2 * electors_of xs) / 2)) h.1
    ∙ ap (λ (n : ℕ). is_told x ∷ flags_of (length xs) n) h.0
    ∙ ap (λ (l : List Bool). is_told x ∷ l) (flags_are xs)

-- a flag stands for a tail that was told
pub told_at : (first : ℕ) (told : List (Option Tail)) (i : ℕ) → slice_index_or (map is_told told) i false ≡ true → (t : Tail) × Told first told (first + i) t
told_at first [] i h = absurd cc
told_at first (None ∷ xs) zero h = absurd cc
told_at first (Some t ∷ xs) zero h = (t, inl (omega arith, refl))
told_at first (x ∷ xs) (suc i) h =
    let r = told_at (first + 1) xs i h in
    let same : first + 1 + i ≡ first + suc i = omega arith in
    (r.0, inr (rw same at r.1))

-- and so by number
pub told_by : (told : List (Option Tail)) (k : ℕ) → is_voter (map is_told told) k ≡ true → (t : Tail) × Told 1 told k t
told_by told zero h = absurd cc
told_by told (suc i) h = let r = told_at 1 told i h in let same : 1 + i ≡ suc i = omega arith in (r.0, rw same at r.1)

pub flag_of : (first : ℕ) (told : List (Option Tail)) (k : ℕ) (t : Tail) → Told first told k t → (i : ℕ) × (k ≡ first + i) × (slice_index_or (map is_told told) i false ≡ true)
flag_of first [] k t h = absurd h
flag_of first (x ∷ xs) k t (inl p) = (0, omega (arith, p.0), ap is_told p.1)
flag_of first (x ∷ xs) k t (inr q) = let r = flag_of (first + 1) xs k t q in (suc r.0, omega (arith, r.1), r.2)

pub is_flagged : (told : List (Option Tail)) (k : ℕ) (t : Tail) → Told 1 told k t → is_voter (map is_told told) k ≡ true
is_flagged told k t h = let r = flag_of 1 told k t h in let same : k ≡ suc r.0 = omega (arith, r.1) in rw same r.2

-- where members told, one of them did
pub some_told : (told : List (Option Tail)) (first : ℕ) → 0 < repliers told → (k : ℕ) × (t : Tail) × Told first told k t
some_told [] first some = absurd (omega (arith, some))
some_told (None ∷ more) first some = let it = some_told more (first + 1) (omega (arith, some)) in (it.0, it.1, inr it.2)
some_told (Some tail ∷ more) first some = (first, tail, inl (refl, refl))
