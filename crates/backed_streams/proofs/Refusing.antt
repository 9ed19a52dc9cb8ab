-- Disks that belong to no stream.
use Rattle.std.proofs.Common.{◌≡◌, inl, inr, ℕ, zero, suc, ◌<◌, ◌≤◌, Bool, true, false, List, [], ◌∷◌, length, length-append, refl, ap, subst, arith}
use Rattle.disk_calls.specs.Disk.{DiskState}
use Rattle.frame_wire.specs.Fields as fields
use Rattle.chunk_format.specs.declared.chunk.Chunk.{Chunk}
use Rattle.chunk_format.specs.Logs.{GoesOn}
use Rattle.segment_pairs.specs.Held.{EachLog}
use Rattle.replication_laws.specs.Majorities.{IsMajority, is_voter}
use Rattle.replication_laws.specs.Cluster.{ClusterState, member, Holds, MayPromise}
use Rattle.replication_laws.specs.Events.{MayBegin}
use Rattle.replication_laws.specs.Literals.{three, first_chunk}
use Rattle.replication_laws.specs.Soundness.{IsSound}
use Rattle.replication_laws.proofs.Meetings.{majorities}
use Rattle.replication_laws.proofs.Refusals.{alone_sound, caught_sound}
use Rattle.segment_store.specs.Words.{epochs_file}
use Rattle.segment_store.specs.Stores.{promise_file}
use Rattle.backed_streams.specs.Backing.{Backed, Durable}
use Rattle.backed_streams.specs.Refused.{MayLeaveLog, MayLeaveWord, caught, alone}

-- one chunk isn't a log of two
one_of_two : (log : List Chunk) → length log ≡ 2 → first_chunk ∷ [] ≡ log → ⊥
one_of_two log two is = (let e : 1 ≡ length log = ap length is in omega (arith, e, two))

-- two chunks don't begin one
too_long : (a b : List Chunk) → length a ≡ 2 → length b ≡ 1 → GoesOn a b → ⊥
too_long a b two one p = (let e = ap length p.1 in let n = length-append a p.0 in omega (arith, e, n, two, one))

held_by : (stream k : ℕ) (w : ClusterState) (log : List Chunk) (disks : ℕ → DiskState) → 0 < k → k ≤ length w.seats → MayLeaveLog stream log (disks k) → Backed stream w disks → Holds (member w k) log
held_by stream k w log disks low high (F, pick, picks, is) b = subst (Holds (member w k)) is ((b.members k low high).log F pick picks)

pub lacks_committed : (stream : ℕ) (disks : ℕ → DiskState) → MayLeaveLog stream (first_chunk ∷ []) (disks 2) → Backed stream caught disks → ⊥
unfolding fields.u32_bytes
lacks_committed stream disks may b = one_of_two (member caught 2).log refl (held_by stream 2 caught (first_chunk ∷ []) disks (omega arith) (omega arith) may b)

pub lacks_written : (stream : ℕ) (disks : ℕ → DiskState) → MayLeaveLog stream (first_chunk ∷ []) (disks 1) → Backed stream alone disks → ⊥
lacks_written stream disks may b = one_of_two (member alone 1).log refl (held_by stream 1 alone (first_chunk ∷ []) disks (omega arith) (omega arith) may b)

pub promise_above : (stream : ℕ) (disks : ℕ → DiskState) → MayLeaveWord (promise_file stream) stream 2 (disks 1) → Backed stream three disks → ⊥
promise_above stream disks (files, left, is) b = by (subst (MayPromise (member three 1)) is ((b.members 1 (omega arith) (omega arith)).promise files left))
  where
    by : MayPromise (member three 1) 2 → ⊥
    by (inl e) = omega (arith, e)
    by (inr e) = absurd (cc e)

pub epoch_above : (stream : ℕ) (disks : ℕ → DiskState) → MayLeaveWord epochs_file stream 2 (disks 0) → Backed stream three disks → ⊥
epoch_above stream disks (files, left, is) b = by (subst (MayBegin three.coordinator) is (b.epoch files left))
  where
    by : MayBegin three.coordinator 2 → ⊥
    by (inl e) = omega (arith, e)
    by (inr e) = absurd (cc e)

-- ---- two of three disks lack a committed chunk

abbrev last_two : List Bool
last_two = false ∷ true ∷ true ∷ []

most_two : IsMajority 3 last_two
most_two = record { each = refl; most = omega arith }

not_begun : (stream : ℕ) (list : List Chunk) (s : DiskState) → length list ≡ 2 → MayLeaveLog stream (first_chunk ∷ []) s → EachLog stream (GoesOn list) s → ⊥
not_begun stream list s two (F, pick, picks, is) each = too_long list (first_chunk ∷ []) two refl (subst (GoesOn list) is (each F pick picks))

two_lack : (stream k : ℕ) (list : List Chunk) (disks : ℕ → DiskState) → length list ≡ 2 → is_voter last_two k ≡ true → MayLeaveLog stream (first_chunk ∷ []) (disks 2) → MayLeaveLog stream (first_chunk ∷ []) (disks 3) → EachLog stream (GoesOn list) (disks k) → ⊥
two_lack stream zero list disks two is second third each = absurd (cc is)
two_lack stream (suc zero) list disks two is second third each = absurd (cc is)
two_lack stream (suc (suc zero)) list disks two is second third each = not_begun stream list (disks 2) two second each
two_lack stream (suc (suc (suc zero))) list disks two is second third each = not_begun stream list (disks 3) two third each
two_lack stream (suc (suc (suc (suc k)))) list disks two is second third each = absurd (cc is)

pub not_durable : (stream : ℕ) (disks : ℕ → DiskState) → MayLeaveLog stream (first_chunk ∷ []) (disks 2) → MayLeaveLog stream (first_chunk ∷ []) (disks 3) → Durable 3 stream caught.committed disks → ⊥
unfolding fields.u32_bytes
not_durable stream disks second third d =
    let meet = majorities 3 d.voters last_two d.most most_two in
    two_lack stream meet.0 caught.committed disks refl meet.2 second third (d.keeps meet.0 meet.1)

pub caught_is_sound : IsSound 1 caught
caught_is_sound = caught_sound

pub alone_is_sound : IsSound 1 alone
alone_is_sound = alone_sound
