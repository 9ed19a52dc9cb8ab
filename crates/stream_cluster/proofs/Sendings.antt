-- What is sent again, and what is shared.
use Rattle.std.proofs.Common.{◌≡◌, ◌≤◌, ◌<◌, ◌+◌, ℕ, zero, suc, List, [], ◌∷◌, ◌++◌, length, drop, slice_index_or, add-one, refl, sym, ap, ◌∙◌, arith}
use Rattle.std.proofs.lemmas.List.{append_assoc, append-nil}
use Rattle.std.proofs.Math.Seq.{drop-cons}
use Rattle.chunk_format.specs.declared.chunk.Chunk.{Chunk}
use Rattle.epoch_coordinator.specs.declared.message.Sent.{Sent}
use Rattle.epoch_coordinator.specs.MemberSteps.{nudged}
use Rattle.replication_laws.specs.Cluster.{Seat}
use Rattle.replication_laws.specs.Events.{nudges_by, member_nudges}

-- ---- nudges

none_left : (seats : List Seat) (i : ℕ) → length seats ≤ i → drop i seats ≡ []
none_left [] zero le = refl
none_left [] (suc i) le = refl
none_left (s ∷ seats) zero le = absurd (omega (arith, le))
none_left (s ∷ seats) (suc i) le = none_left seats i (omega (arith, le))

pub nudged_on : (seats : List Seat) (i : ℕ) (s : Seat) (sent next all : List Sent) → i < length seats → s ≡ slice_index_or seats i s → next ≡ sent ++ nudges_by s.up (nudged s.state)
    → sent ++ member_nudges (drop i seats) ≡ all → next ++ member_nudges (drop (i + 1) seats) ≡ all
nudged_on seats i s sent next all lt is on before =
    let first = drop-cons seats i s lt in
    let here : drop i seats ≡ s ∷ drop (suc i) seats = first ∙ ap (λ (x : Seat). x ∷ drop (suc i) seats) (sym is) in
    let more = member_nudges (drop (suc i) seats) in
    ap (λ (n : ℕ). next ++ member_nudges (drop n seats)) (add-one i)
    ∙ ap (λ (x : List Sent). x ++ more) on
    ∙ append_assoc sent (nudges_by s.up (nudged s.state)) more
    ∙ sym (ap (λ (x : List Seat). sent ++ member_nudges x) here)
    ∙ before

pub nudged_all : (seats : List Seat) (i : ℕ) (sent all : List Sent) → length seats ≤ i → sent ++ member_nudges (drop i seats) ≡ all → sent ≡ all
nudged_all seats i sent all le before = sym (append-nil sent) ∙ sym (ap (λ (x : List Seat). sent ++ member_nudges x) (none_left seats i le)) ∙ before

-- ---- what is ahead

pub ahead_within : (log job : List Chunk) (count : ℕ) → count ≤ length log → drop count (log ++ job) ≡ drop count log ++ job
ahead_within log job zero le = refl
ahead_within [] job (suc n) le = absurd (omega (arith, le))
ahead_within (c ∷ log) job (suc n) le = ahead_within log job n (omega (arith, le))

one_behind : (c : List Chunk) (n : ℕ) → length c ≤ 1 → drop (suc n) c ≡ []
one_behind [] n le = refl
one_behind (c ∷ []) zero le = refl
one_behind (c ∷ []) (suc n) le = refl
one_behind (c ∷ d ∷ more) n le = absurd (omega (arith, le))

pub ahead_behind : (log job : List Chunk) (count : ℕ) → length job ≤ 1 → length log < count → drop count (log ++ job) ≡ drop count log
ahead_behind log job zero few lt = absurd (omega (arith, lt))
ahead_behind [] job (suc n) few lt = one_behind job n few
ahead_behind (c ∷ log) job (suc n) few lt = ahead_behind log job n few (omega (arith, lt))
