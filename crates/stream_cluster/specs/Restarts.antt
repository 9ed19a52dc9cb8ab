-- A member comes up again, with what its disk has.
use Rattle.std.specs.Prelude.{◌≡◌, ℕ, zero, suc, Bool, true, false, not, ◌&&◌, nat_lt, List, [], length}
use Rattle.chunk_format.specs.declared.chunk.Chunk.{Chunk}
use Rattle.chunk_format.specs.Logs.{end_of}
use Rattle.epoch_coordinator.specs.Members.{MemberState}
use Rattle.replication_laws.specs.Cluster.{ClusterState, seat, member, Holds, MayPromise}
use Rattle.replication_laws.specs.Events.{comes_up}
use Rattle.cluster_core.specs.declared.outcome.Outcome.{Outcome}
use Rattle.cluster_core.specs.declared.outcome.Outcome.TheVariants.{Did, Nothing, Later, Last, Differs, Memory}
use Rattle.cluster_core.specs.States.{ReplicaState, reigned, counted_on}

-- a member is there and down
abbrev pub is_down : ClusterState → ℕ → Bool
is_down w zero = false
is_down w (suc i) = nat_lt i (length w.seats) && not (seat w (suc i)).up

-- the disk of a member may have this log and this promise
pub record MayHave (m : MemberState) (promise : ℕ) (log : List Chunk) : Type 0 where
  pub log_is : Holds m log
  pub promise_is : MayPromise m promise

abbrev pub after_restart : ℕ → ℕ → List Chunk → ReplicaState → ReplicaState
after_restart k promise log r = record { cluster = reigned [] (comes_up k promise log r.cluster); numbers = counted_on k r.numbers }

-- A member that is down comes up with what its disk may have. Where the disk has something else, it is told where the log was to end, and where it ends.
abbrev pub RestartGives : ℕ → ℕ → List Chunk → Outcome → ReplicaState → ReplicaState → Type 0
RestartGives k promise log Did old new = (is_down old.cluster k ≡ true) × (MayHave (member old.cluster k) promise log × (new ≡ after_restart k promise log old))
RestartGives k promise log Nothing old new = (is_down old.cluster k ≡ false) × (new ≡ old)
RestartGives k promise log (Later n) old new = ⊥
RestartGives k promise log (Last epoch) old new = ⊥
RestartGives k promise log (Differs expected found) old new =
    (is_down old.cluster k ≡ true) × ((MayHave (member old.cluster k) promise log → ⊥) × ((expected ≡ end_of (member old.cluster k).log) × ((found ≡ end_of log) × (new ≡ old))))
RestartGives k promise log Memory old new = new ≡ old
