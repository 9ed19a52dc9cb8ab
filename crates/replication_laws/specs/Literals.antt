-- Runs of three members on literals, and three rules that would lose what was committed.
use Rattle.std.specs.Prelude.{ℕ, zero, suc, pos, Bool, true, false, ◌&&◌, ◌==◌, nat_lt, if◌then◌else◌, is_none, List, [], ◌∷◌, ◌++◌, length, Option, Some, None}
use Rattle.chunk_format.specs.declared.chunk.Chunk.{Chunk}
use Rattle.chunk_format.specs.Chunks.{end_of_chunk}
use Rattle.chunk_format.specs.Logs.{opening_chunk, end_of}
use Rattle.epoch_coordinator.specs.declared.message.Job.TheVariants.{Cut}
use Rattle.epoch_coordinator.specs.declared.message.Sent.{Sent}
use Rattle.epoch_coordinator.specs.declared.tail.Tail.{Tail}
use Rattle.epoch_coordinator.specs.declared.tail.Run.{Run}
use Rattle.epoch_coordinator.specs.Members.{Leading, MemberRole, MemberState, Stopped, Follower, Leader}
use Rattle.epoch_coordinator.specs.MemberSteps.{raise, majority_has, kept_end, cut_at}
use Rattle.epoch_coordinator.specs.Coordinators.{elect}
use Rattle.epoch_coordinator.specs.Scripts.{Act, Elects, Does, Delivers, Restarts, common, older_epoch, late_member}
use Rattle.replication_laws.specs.Cluster.{ClusterState, seat, member, put, last_number, letter_in, marked}
use Rattle.replication_laws.specs.Events.{comes, performed}
use Rattle.replication_laws.specs.Openings.{Start, opened_cluster}

-- ---- runs

abbrev pub delivered : ℕ → Option Sent → ClusterState → ClusterState
delivered n None w = w
delivered n (Some s) w = comes 0 s.to s.message (record w { mail = marked n w.mail })

-- one line of a script at moment 0; none of these has a restart
abbrev pub acts : Act → ClusterState → ClusterState
acts Elects w = record w { coordinator = (elect w.coordinator).state }
acts (Does k) w = performed k w
acts (Delivers n) w = delivered n (letter_in n w.mail) w
acts (Restarts k) w = w

abbrev pub acted : List Act → ClusterState → ClusterState
acted [] w = w
acted (act ∷ more) w = acted more (acts act w)

abbrev pub is_up : ClusterState → ℕ → Bool
is_up w zero = w.coordinator_up
is_up w (suc i) = nat_lt i (length w.seats) && (seat w (suc i)).up

abbrev pub has_no_job : ClusterState → ℕ → Bool
has_no_job w zero = is_none w.coordinator.job
has_no_job w (suc i) = is_none (member w (suc i)).job

abbrev pub is_due_by : Option Sent → ClusterState → Bool
is_due_by None w = false
is_due_by (Some s) w = is_up w s.to && has_no_job w s.to

-- the line is an event
abbrev pub is_due : Act → ClusterState → Bool
is_due Elects w = is_up w 0 && has_no_job w 0 && nat_lt w.coordinator.epoch last_number
is_due (Does k) w = is_up w k
is_due (Delivers n) w = is_due_by (letter_in n w.mail) w
is_due (Restarts k) w = false

abbrev pub all_due : List Act → ClusterState → Bool
all_due [] w = true
all_due (act ∷ more) w = is_due act w && all_due more (acts act w)

-- ---- the first state

abbrev pub first_chunk : Chunk
first_chunk = opening_chunk 1 (pos 0) []

-- epoch 1 ran, and each log has its opening chunk
abbrev pub first_start : Start
first_start = record { promise = 1; log = first_chunk ∷ [] }

abbrev pub three : ClusterState
three = opened_cluster 1 (first_start ∷ first_start ∷ first_start ∷ [])

-- ---- the leader alone is a majority

-- Members 1 and 2 elect 1 in epoch 2, and it writes a chunk that nobody gets.
abbrev pub wrote_alone : List Act
wrote_alone = Elects ∷ Does 0 ∷ Delivers 1 ∷ Does 1 ∷ Delivers 2 ∷ Does 2 ∷ Delivers 4 ∷ Delivers 5 ∷ Delivers 6 ∷ Does 1 ∷ []

-- what a leader would commit that counts itself as a majority
abbrev pub alone_from : ℕ → MemberState → List Chunk → ℕ
alone_from end m [] = end
alone_from end m (c ∷ log) = alone_from (if c.epoch == m.promise then end_of_chunk c else end) m log

abbrev pub commits_alone : MemberState → List Chunk
commits_alone m = cut_at (alone_from 0 m m.log) m.log

-- ---- older epochs are counted

-- Member 1 wrote a chunk in epoch 2, which in epoch 4 it sends to 3, so that two of three have it; member 2 wrote one in epoch 3.
abbrev pub sent_older : List Act
sent_older = common ++ older_epoch

-- the tail that member 3 then tells: its last chunk is of epoch 2
abbrev pub older_tail : Tail
older_tail = record { epoch = 2; end = 2 }

-- what a leader would count that takes each Ask as an acknowledgement
abbrev pub counts_any : ℕ → Tail → MemberRole → MemberRole
counts_any from tail Stopped = Stopped
counts_any from tail (Follower leader) = Follower leader
counts_any from tail (Leader l) = Leader (record l { acknowledged = raise from tail.end l.acknowledged })

-- what it would commit, where it counts chunks of older epochs
abbrev pub older_from : ℕ → MemberState → Leading → List Chunk → ℕ
older_from end m l [] = end
older_from end m l (c ∷ log) = older_from (if majority_has m.members (end_of_chunk c) l then end_of_chunk c else end) m l log

abbrev pub older_by : MemberRole → MemberState → ℕ
older_by Stopped m = 0
older_by (Follower leader) m = 0
older_by (Leader l) m = older_from 0 m l m.log

abbrev pub commits_older : ℕ → Tail → MemberState → List Chunk
commits_older from tail m = cut_at (older_by (counts_any from tail m.role) m) m.log

-- ---- a Shape cuts its own epoch

-- Member 1 follows 2 in epoch 3, cuts its chunk of epoch 2 and takes the one of epoch 3, which is then committed.
abbrev pub caught_up : List Act
caught_up = common ++ late_member

-- what a follower would do with a Shape that doesn't look for a chunk of its epoch
abbrev pub cuts_by_shape : List Run → MemberState → MemberState
cuts_by_shape runs m = if nat_lt (kept_end runs m.log) (end_of m.log) then record m { job = Some (Cut (kept_end runs m.log)) } else m

-- the runs that the Shape of epoch 3 tells: those of member 2's log before its chunk
abbrev pub told_runs : List Run
told_runs = record { epoch = 1; end = 1 } ∷ []

-- the state after the late Shape came to member 1 once more
abbrev pub cut_by : List Run → ClusterState → ClusterState
cut_by runs w = put w 1 (record { up = true; state = cuts_by_shape runs (member w 1) })
