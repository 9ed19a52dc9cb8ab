-- The stream after each event.
use Rattle.std.specs.Prelude.{◌≡◌, ℕ, suc, ◌+◌, Bool, true, List, [], ◌++◌, length, Option, Some, None, slice_index_or, if◌then◌else◌}
use Rattle.chunk_format.specs.declared.chunk.Chunk.{Chunk}
use Rattle.epoch_coordinator.specs.declared.message.Sent.{Sent}
use Rattle.epoch_coordinator.specs.Members.{MemberState}
use Rattle.epoch_coordinator.specs.MemberSteps.{Took, commit_end}
use Rattle.epoch_coordinator.specs.Coordinators.{Hears, elect}
use Rattle.replication_laws.specs.Cluster.{ClusterState, member, put, letter_in, marked, without, numbered, send}
use Rattle.replication_laws.specs.Events.{comes, performed, goes_down, reopens, nudges}
use Rattle.cluster_core.specs.declared.mail.Numbered.{Numbered}
use Rattle.cluster_core.specs.Parts.{lettered, did_mail, ahead_of, extended}
use Rattle.cluster_core.specs.States.{ReplicaState, coordinator_of, reigned, is_leader, counted_on}

-- what is said of the message at a place
abbrev pub At : List Numbered → ℕ → (Numbered → Type 0) → Type 0
At mail place Says = (n : Numbered) → n ≡ slice_index_or mail place n → Says n

-- the member at a place, counted from 0
abbrev pub member_at : ℕ → ClusterState → MemberState
member_at i w = member w (suc i)

-- what is shared before a member may commit it
abbrev pub ahead_at : ℕ → MemberState → List Chunk
ahead_at count m = if is_leader m.role then ahead_of count m else []

-- a member that is up changes and sends, and the list goes on by what was shared
abbrev pub took_ahead : ℕ → Took → ClusterState → ClusterState
took_ahead k t w = record (send (put w k (record { up = true; state = t.state })) t.sent) {
  committed = extended w.committed (ahead_at (length w.committed) (member w k)) (commit_end t.state);
}

-- the coordinator hears a message, which is marked, and what it sends is numbered on
abbrev pub hears_by : ℕ → Hears → Bool → List Numbered → ClusterState → ClusterState
hears_by members h up mail w = record w {
  coordinator = coordinator_of up h.state;
  mail = lettered mail ++ numbered w.last (did_mail members h.answer);
  last = w.last + length (numbered w.last (did_mail members h.answer));
}

-- ---- the stream after an event; its reigns are left out

abbrev pub with_cluster : ClusterState → ReplicaState → ReplicaState
with_cluster w r = record { cluster = reigned [] w; numbers = r.numbers }

abbrev pub after_elect : ReplicaState → ReplicaState
after_elect r = with_cluster (record r.cluster { coordinator = (elect r.cluster.coordinator).state }) r

abbrev pub delivered_by : Option Sent → ℕ → ℕ → ClusterState → ClusterState
delivered_by None number now w = w
delivered_by (Some s) number now w = comes now s.to s.message (record w { mail = marked number w.mail })

abbrev pub after_deliver : ℕ → ℕ → ReplicaState → ReplicaState
after_deliver number now r = with_cluster (delivered_by (letter_in number r.cluster.mail) number now r.cluster) r

abbrev pub after_lose : ℕ → ReplicaState → ReplicaState
after_lose number r = with_cluster (record r.cluster { mail = without number r.cluster.mail }) r

abbrev pub after_forget : ReplicaState → ReplicaState
after_forget r = with_cluster (record r.cluster { mail = []; last = 0 }) r

abbrev pub after_nudge : ReplicaState → ReplicaState
after_nudge r = with_cluster (send r.cluster (nudges r.cluster)) r

-- the next job has the next number
abbrev pub after_done : ℕ → ReplicaState → ReplicaState
after_done k r = record { cluster = reigned [] (performed k r.cluster); numbers = counted_on k r.numbers }

abbrev pub after_stop : ℕ → ReplicaState → ReplicaState
after_stop k r = with_cluster (goes_down k r.cluster) r

abbrev pub after_reopen : ℕ → ReplicaState → ReplicaState
after_reopen epoch r = record { cluster = reigned [] (reopens epoch r.cluster); numbers = counted_on 0 r.numbers }
