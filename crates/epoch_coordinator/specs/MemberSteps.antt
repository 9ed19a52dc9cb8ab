-- What a member does with each message, with a finished job, with an offered chunk and with a nudge.
use Rattle.std.specs.Prelude.{ℕ, zero, suc, ◌+◌, ◌-◌, ◌*◌, Bool, true, false, not, ◌&&◌, ◌||◌, ◌==◌, if◌then◌else◌, nat_lt, nat_le, max, ℤ, pos, List, [], ◌∷◌, ◌++◌, length, map, slice_index, slice_set, Option, Some, None}
use Rattle.std.specs.List.{filter}
use Rattle.std.specs.Cmp.Lexicographic.{pointwise}
use Rattle.chunk_format.specs.declared.chunk.Chunk.{Chunk}
use Rattle.chunk_format.specs.declared.chunk.ChunkKind.{ChunkKind}
use Rattle.chunk_format.specs.declared.chunk.ChunkKind.TheVariants.{User, Delta, Snapshot}
use Rattle.chunk_format.specs.Chunks.{end_of_chunk, entries_bytes, entry_bytes}
use Rattle.chunk_format.specs.Logs.{end_of, snapshot_body, snapshot_entry_of, opening_chunk}
use Rattle.epoch_coordinator.specs.declared.tail.Tail.{Tail}
use Rattle.epoch_coordinator.specs.declared.tail.Run.{Run}
use Rattle.epoch_coordinator.specs.declared.message.Job.{Job}
use Rattle.epoch_coordinator.specs.declared.message.Job.TheVariants.{Write, Cut, Promise, Epoch}
use Rattle.epoch_coordinator.specs.declared.message.Message.{Message}
use Rattle.epoch_coordinator.specs.declared.message.Message.TheVariants as messages
use Rattle.epoch_coordinator.specs.declared.message.Sent.{Sent}
use Rattle.epoch_coordinator.specs.Tails.{tail_of, same_tail, runs_of, contains}
use Rattle.epoch_coordinator.specs.Members.{Leading, MemberRole, MemberState, Stopped, Follower, Leader, is_stopped}

-- a member after an event, and what it sends
pub record Took : Type 0 where
  pub state : MemberState
  pub sent : List Sent

abbrev pub silent : MemberState → Took
silent m = record { state = m; sent = [] }

abbrev pub mail : ℕ → Message → Sent
mail to message = record { to = to; message = message }

abbrev pub says : ℕ → Message → MemberState → Took
says to message m = record { state = m; sent = mail to message ∷ [] }

-- a stopped member tells the coordinator how its log ends
abbrev pub says_stopped : MemberState → Took
says_stopped m = says 0 (messages.Stopped m.promise m.number (tail_of m.log)) m

-- a follower tells its leader how its log ends, and so asks for what comes behind
abbrev pub asks : ℕ → MemberState → Took
asks leader m = says leader (messages.Ask m.promise m.number (tail_of m.log)) m

-- ---- who is named

abbrev pub epoch_of : Message → ℕ
epoch_of (messages.Stop epoch) = epoch
epoch_of (messages.Stopped epoch from tail) = epoch
epoch_of (messages.Open epoch) = epoch
epoch_of (messages.Follow epoch leader) = epoch
epoch_of (messages.Shape epoch runs) = epoch
epoch_of (messages.Ask epoch from tail) = epoch
epoch_of (messages.Append epoch previous chunk) = epoch

-- a member's number that isn't the receiver's own
abbrev pub is_another : ℕ → ℕ → ℕ → Bool
is_another members me number = nat_lt 0 number && nat_le number members && not (number == me)

-- who is named as sender or leader is a member, and not the receiver
abbrev pub names_another : ℕ → ℕ → Message → Bool
names_another members me (messages.Stop epoch) = true
names_another members me (messages.Stopped epoch from tail) = is_another members me from
names_another members me (messages.Open epoch) = true
names_another members me (messages.Follow epoch leader) = is_another members me leader
names_another members me (messages.Shape epoch runs) = true
names_another members me (messages.Ask epoch from tail) = is_another members me from
names_another members me (messages.Append epoch previous chunk) = true

-- ---- Stop

-- Above the promise: the member stops, and is to promise the epoch. A stopped member that promised it already answers again.
abbrev pub after_stop : ℕ → MemberState → Took
after_stop epoch m =
    if nat_lt m.promise epoch then silent (record m { role = Stopped; job = Some (Promise epoch) })
    else (if (epoch == m.promise) && is_stopped m.role then says_stopped m else silent m)

-- ---- Open

abbrev pub has_epoch : ℕ → List Chunk → Bool
has_epoch epoch [] = false
has_epoch epoch (c ∷ log) = (c.epoch == epoch) || has_epoch epoch log

-- the log has no chunk of the epoch, an offset is left behind it, and what it tracks fits one entry
abbrev pub can_open : ℕ → List Chunk → Bool
can_open epoch log = not (has_epoch epoch log) && nat_lt (end_of log) 18446744073709551615 && nat_le (length (snapshot_body log)) 2147483647

-- a zero for each
abbrev pub zeros : ℕ → List ℕ
zeros zero = []
zeros (suc n) = 0 ∷ zeros n

abbrev pub new_leading : ℕ → Leading
new_leading members = record { opened = false; kept = []; acknowledged = zeros members; queue = [] }

-- the stamp of a chunk that is made at a moment, in milliseconds; a later one than it can hold is its greatest
abbrev pub stamp_at : ℕ → ℤ
stamp_at now = pos (if nat_lt 9223372036854775807 now then 9223372036854775807 else now)

-- a stopped member begins to lead: a snapshot chunk of the epoch is to be written at its log's end
abbrev pub after_open : ℕ → MemberState → Took
after_open now m =
    if is_stopped m.role && can_open m.promise m.log
    then silent (record m { role = Leader (new_leading m.members); job = Some (Write (opening_chunk m.promise (stamp_at now) m.log)) })
    else silent m

-- ---- Follow

abbrev pub after_follow : ℕ → MemberState → Took
after_follow leader m = if is_stopped m.role then asks leader (record m { role = Follower leader }) else silent m

-- ---- Ask

-- the chunk that begins at an offset
abbrev pub chunk_from : ℕ → List Chunk → Option Chunk
chunk_from offset [] = None
chunk_from offset (c ∷ log) = if c.first == offset then Some c else chunk_from offset log

-- the k-th of the ends, counted from 1, becomes this one if it is more
abbrev pub raise : ℕ → ℕ → List ℕ → List ℕ
raise k end ends = slice_set ends (k - 1) (max end (slice_index ends (k - 1)))

-- where the tail is of the leader's epoch, its sender has acknowledged the tail's end, if that is more than before
abbrev pub acknowledge : ℕ → ℕ → Tail → Leading → Leading
acknowledge epoch from tail l = if tail.epoch == epoch then record l { acknowledged = raise from tail.end l.acknowledged } else l

-- the chunk that the sender lacks next, if there is one
abbrev pub send_next : Option Chunk → ℕ → Tail → MemberState → Took
send_next None from tail m = silent m
send_next (Some c) from tail m = says from (messages.Append m.promise tail c) m

-- An opened leader tells the shape of its log where it doesn't contain the sender's tail; else it hears the acknowledgement and sends the next chunk.
abbrev pub ask_of_leader : Leading → ℕ → Tail → MemberState → Took
ask_of_leader l from tail m =
    if contains (runs_of m.log) tail
    then send_next (chunk_from tail.end m.log) from tail (record m { role = Leader (acknowledge m.promise from tail l) })
    else says from (messages.Shape m.promise l.kept) m

abbrev pub after_ask : MemberRole → ℕ → Tail → MemberState → Took
after_ask Stopped from tail m = silent m
after_ask (Follower leader) from tail m = silent m
after_ask (Leader l) from tail m = if l.opened then ask_of_leader l from tail m else silent m

-- ---- Shape

-- the last chunk is of this epoch
abbrev pub ends_in : ℕ → List Chunk → Bool
ends_in epoch [] = false
ends_in epoch (c ∷ []) = c.epoch == epoch
ends_in epoch (c ∷ d ∷ log) = ends_in epoch (d ∷ log)

abbrev pub tail_after : Chunk → Tail
tail_after c = record { epoch = c.epoch; end = end_of_chunk c }

abbrev pub kept_from : ℕ → List Run → List Chunk → ℕ
kept_from end runs [] = end
kept_from end runs (c ∷ log) = kept_from (if contains runs (tail_after c) then end_of_chunk c else end) runs log

-- the end of the longest beginning whose tail the runs contain
abbrev pub kept_end : List Run → List Chunk → ℕ
kept_end runs log = kept_from 0 runs log

-- a follower cuts what the leader's log didn't have, or asks at once; but not a log that has a chunk of its leader
abbrev pub after_shape : MemberRole → List Run → MemberState → Took
after_shape Stopped runs m = silent m
after_shape (Leader l) runs m = silent m
after_shape (Follower leader) runs m =
    if ends_in m.promise m.log then silent m
    else (if nat_lt (kept_end runs m.log) (end_of m.log) then silent (record m { job = Some (Cut (kept_end runs m.log)) }) else asks leader m)

-- ---- Append

abbrev pub same_bytes : List ℕ → List ℕ → Bool
same_bytes a b = pointwise (λ x y. x == y) a b

-- a snapshot says what the log before it says
abbrev pub is_true_after : List Chunk → ChunkKind → Chunk → Bool
is_true_after log User c = true
is_true_after log Delta c = true
is_true_after log Snapshot c = same_bytes (entries_bytes c.entries) (entry_bytes (snapshot_entry_of log))

-- the chunk goes on from the log at the tail that is named, in an epoch that doesn't fall and isn't above the leader's
abbrev pub goes_on : ℕ → Tail → Chunk → List Chunk → Bool
goes_on epoch previous c log =
    same_tail previous (tail_of log) && (c.first == previous.end) && nat_le previous.epoch c.epoch && nat_le c.epoch epoch && is_true_after log c.kind c

abbrev pub after_append : MemberRole → Tail → Chunk → MemberState → Took
after_append Stopped previous c m = silent m
after_append (Leader l) previous c m = silent m
after_append (Follower leader) previous c m = if goes_on m.promise previous c m.log then silent (record m { job = Some (Write c) }) else silent m

-- ---- a message

-- a message of the epoch that was promised
abbrev pub heard : ℕ → Message → MemberState → Took
heard now (messages.Stop epoch) m = after_stop epoch m
heard now (messages.Stopped epoch from tail) m = silent m
heard now (messages.Open epoch) m = after_open now m
heard now (messages.Follow epoch leader) m = after_follow leader m
heard now (messages.Shape epoch runs) m = after_shape m.role runs m
heard now (messages.Ask epoch from tail) m = after_ask m.role from tail m
heard now (messages.Append epoch previous chunk) m = after_append m.role previous chunk m

-- a Stop of a later epoch
abbrev pub is_later_stop : ℕ → Message → Bool
is_later_stop promise (messages.Stop epoch) = nat_lt promise epoch
is_later_stop promise (messages.Stopped epoch from tail) = false
is_later_stop promise (messages.Open epoch) = false
is_later_stop promise (messages.Follow epoch leader) = false
is_later_stop promise (messages.Shape epoch runs) = false
is_later_stop promise (messages.Ask epoch from tail) = false
is_later_stop promise (messages.Append epoch previous chunk) = false

-- What a member without a pending job does with a message, at a moment in milliseconds. A message of another epoch than it promised is
-- ignored, but for a later Stop; and so is one that names as sender or leader what is no member, or the receiver.
abbrev pub taken : ℕ → Message → MemberState → Took
taken now message m =
    if names_another m.members m.number message && ((epoch_of message == m.promise) || is_later_stop m.promise message) then heard now message m else silent m

-- ---- a finished job

-- the chunks that end at an offset or before it
abbrev pub cut_at : ℕ → List Chunk → List Chunk
cut_at end log = filter (λ (c : Chunk). nat_le (end_of_chunk c) end) log

abbrev pub asks_by : MemberRole → MemberState → Took
asks_by Stopped m = silent m
asks_by (Follower leader) m = asks leader m
asks_by (Leader l) m = silent m

-- so many numbers from one on
abbrev pub numbers_from : ℕ → ℕ → List ℕ
numbers_from first zero = []
numbers_from first (suc n) = first ∷ numbers_from (first + 1) n

-- the members' numbers
abbrev pub all_members : ℕ → List ℕ
all_members members = numbers_from 1 members

abbrev pub other_members : ℕ → ℕ → List ℕ
other_members members me = filter (λ (k : ℕ). not (k == me)) (all_members members)

-- the next queued chunk is the next job
abbrev pub next_job : List Chunk → Option Job
next_job [] = None
next_job (c ∷ queue) = Some (Write c)

abbrev pub behind_first : List Chunk → List Chunk
behind_first [] = []
behind_first (c ∷ queue) = queue

-- the first chunk that a leader wrote opened it
abbrev pub written : List Chunk → Leading → Leading
written before l =
    record l { opened = true; kept = if l.opened then l.kept else runs_of before; queue = behind_first l.queue }

-- a leader's chunk goes to all others
abbrev pub wrote : MemberRole → Chunk → MemberState → Took
wrote Stopped c m = silent (record m { log = m.log ++ c ∷ []; job = None })
wrote (Follower leader) c m = asks leader (record m { log = m.log ++ c ∷ []; job = None })
wrote (Leader l) c m = record {
  state = record m { log = m.log ++ c ∷ []; role = Leader (written m.log l); job = next_job l.queue };
  sent = map (λ (k : ℕ). mail k (messages.Append m.promise (tail_of m.log) c)) (other_members m.members m.number);
}

abbrev pub finished_by : Option Job → MemberState → Took
finished_by None m = silent m
finished_by (Some (Write c)) m = wrote m.role c m
finished_by (Some (Cut end)) m = asks_by m.role (record m { log = cut_at end m.log; job = None })
finished_by (Some (Promise epoch)) m = says_stopped (record m { promise = epoch; job = None })
finished_by (Some (Epoch epoch)) m = silent m

-- what a member does when its pending job is done
abbrev pub finished : MemberState → Took
finished m = finished_by m.job m

-- ---- offers, nudges, restarts, commits

abbrev pub queued_by : Option Job → Chunk → Leading → MemberState → MemberState
queued_by None c l m = record m { job = Some (Write c) }
queued_by (Some job) c l m = record m { role = Leader (record l { queue = l.queue ++ c ∷ [] }) }

-- a leader takes a chunk: it writes it next, or queues it behind its job
abbrev pub offered_by : MemberRole → Chunk → MemberState → MemberState
offered_by Stopped c m = m
offered_by (Follower leader) c m = m
offered_by (Leader l) c m = queued_by m.job c l m

abbrev pub offered : Chunk → MemberState → MemberState
offered c m = offered_by m.role c m

abbrev pub nudged_by : MemberRole → MemberState → List Sent
nudged_by Stopped m = (says_stopped m).sent
nudged_by (Follower leader) m = (asks leader m).sent
nudged_by (Leader l) m = []

-- a nudge makes a stopped member and a follower tell their tails again
abbrev pub nudged : MemberState → List Sent
nudged m = nudged_by m.role m

-- a member that comes up, with what its disk has
abbrev pub restarted : ℕ → ℕ → ℕ → List Chunk → MemberState
restarted members number promise log = record { number = number; members = members; promise = promise; role = Stopped; log = log; job = None }

-- how many of the ends reach an offset
abbrev pub reaching : ℕ → List ℕ → ℕ
reaching end [] = 0
reaching end (x ∷ xs) = (if nat_le end x then 1 else 0) + reaching end xs

-- more than half of the members
abbrev pub is_majority : ℕ → ℕ → Bool
is_majority members n = nat_lt members (2 * n)

-- the leader has it in its log, and others acknowledged it
abbrev pub majority_has : ℕ → ℕ → Leading → Bool
majority_has members end l = is_majority members (1 + reaching end l.acknowledged)

abbrev pub commit_from : ℕ → MemberState → Leading → List Chunk → ℕ
commit_from end m l [] = end
commit_from end m l (c ∷ log) =
    commit_from (if (c.epoch == m.promise) && majority_has m.members (end_of_chunk c) l then end_of_chunk c else end) m l log

abbrev pub commit_by : MemberRole → MemberState → ℕ
commit_by Stopped m = 0
commit_by (Follower leader) m = 0
commit_by (Leader l) m = commit_from 0 m l m.log

-- the greatest end of a chunk of a leader's own epoch that a majority has; 0 where there is none
abbrev pub commit_end : MemberState → ℕ
commit_end m = commit_by m.role m
