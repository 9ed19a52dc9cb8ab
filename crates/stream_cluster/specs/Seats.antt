-- The seats of a stream by their places, counted from 0, and what comes of an election.
use Rattle.std.specs.Prelude.{ℕ, Bool, true, false, ◌&&◌, ◌==◌, nat_lt, is_some, List, length, slice_index_or}
use Rattle.epoch_coordinator.specs.declared.coordinator.Elected.{Elected}
use Rattle.epoch_coordinator.specs.declared.coordinator.Elected.TheVariants as elected
use Rattle.epoch_coordinator.specs.Members.{MemberState, Stopped}
use Rattle.replication_laws.specs.Cluster.{Seat, nobody}
use Rattle.cluster_core.specs.declared.outcome.Outcome.{Outcome}
use Rattle.cluster_core.specs.Up.{is_up, has_job}
use Rattle.cluster_core.specs.States.{ReplicaState, number_at}
use Rattle.cluster_core.specs.declared.outcome.Outcome.TheVariants.{Did, Later, Last}

-- there is a seat at a place, and its member is up
abbrev pub seat_up : List Seat → ℕ → Bool
seat_up seats place = nat_lt place (length seats) && (slice_index_or seats place nobody).up

-- the member at a place has a job, or one that was cut off
abbrev pub seat_job : List Seat → ℕ → Bool
seat_job seats place = is_some (slice_index_or seats place nobody).state.job

-- what is said of the seat at a place
abbrev pub SeatAt : List Seat → ℕ → (Seat → Type 0) → Type 0
SeatAt seats place Says = Says (slice_index_or seats place nobody)

-- a member that is up
abbrev pub in_seat : MemberState → Seat
in_seat m = record { up = true; state = m }

-- a member that goes down
abbrev pub gone_down : Seat → Seat
gone_down s = record { up = false; state = record s.state { role = Stopped } }

-- what came of an election
abbrev pub outcome_of : Elected → Outcome
outcome_of (elected.Asked epoch) = Did
outcome_of elected.Later = Later 0
outcome_of (elected.Last epoch) = Last epoch

-- a job of this number is pending at the coordinator, number 0, or at a member
abbrev pub is_due : ℕ → ℕ → ReplicaState → Bool
is_due k number r = is_up r.cluster k && has_job r.cluster k && (number_at r k == number)
