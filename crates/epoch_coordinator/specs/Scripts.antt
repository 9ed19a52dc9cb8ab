-- Worked scripts: a coordinator and three members, the messages that they send, and what each line of a script does.
use Rattle.std.specs.Prelude.{ℕ, zero, suc, ◌-◌, ◌==◌, if◌then◌else◌, List, [], ◌∷◌, ◌++◌, map, codes, pos, Option, Some, None}
use Rattle.chunk_format.specs.Logs.{opening_chunk, end_of}
use Rattle.epoch_coordinator.specs.declared.message.Message.{Message}
use Rattle.epoch_coordinator.specs.declared.message.Message.TheVariants as messages
use Rattle.epoch_coordinator.specs.declared.message.Sent.{Sent}
use Rattle.epoch_coordinator.specs.declared.coordinator.Phase.TheVariants.{Running}
use Rattle.epoch_coordinator.specs.declared.coordinator.StoppedDid.{StoppedDid}
use Rattle.epoch_coordinator.specs.declared.coordinator.StoppedDid.TheVariants as did
use Rattle.epoch_coordinator.specs.Members.{MemberState}
use Rattle.epoch_coordinator.specs.MemberSteps.{Took, taken, finished, restarted, epoch_of, commit_end}
use Rattle.epoch_coordinator.specs.Coordinators.{CoordinatorState, Hears, elect, begun, stop_all, stopped, opening}

-- a coordinator, three members by number, and all messages in the order of their sending
pub record Trio : Type 0 where
  pub coordinator : CoordinatorState
  pub members : List MemberState
  pub sent : List Sent

-- a line of a script: an election, the pending job of a member or of 0, a message delivered by its number, a member that went down and comes up
pub data Act : Type 0 where
  Elects : Act
  Does : ℕ → Act
  Delivers : ℕ → Act
  Restarts : ℕ → Act

-- the k-th of a list, counted from 1, is changed
abbrev pub at : {A : Type 0} → ℕ → (A → A) → List A → List A
at k change [] = []
at k change (x ∷ xs) = if k == 1 then change x ∷ xs else x ∷ at (k - 1) change xs

-- what one of a list gives, counted from 1
abbrev pub from_one : {A B : Type 0} → ℕ → (A → List B) → List A → List B
from_one k of [] = []
from_one k of (x ∷ xs) = if k == 1 then of x else from_one (k - 1) of xs

abbrev pub changed : ℕ → (MemberState → Took) → Trio → Trio
changed k step t = record {
  coordinator = t.coordinator;
  members = at k (λ m. (step m).state) t.members;
  sent = t.sent ++ from_one k (λ m. (step m).sent) t.members;
}

abbrev pub opened : CoordinatorState → StoppedDid → List Sent
opened c did.Later = []
opened c did.Nothing = []
opened c (did.Send1 sent) = sent ∷ []
opened c (did.Opened epoch leader electors) = opening epoch leader c.told

abbrev pub heard_by : Hears → Trio → Trio
heard_by h t = record t { coordinator = h.state; sent = t.sent ++ opened h.state h.answer }

-- a message comes to the coordinator, which takes Stopped alone
abbrev pub to_coordinator : Message → Trio → Trio
to_coordinator (messages.Stopped epoch from tail) t = heard_by (stopped epoch from tail t.coordinator) t
to_coordinator (messages.Stop epoch) t = t
to_coordinator (messages.Open epoch) t = t
to_coordinator (messages.Follow epoch leader) t = t
to_coordinator (messages.Shape epoch runs) t = t
to_coordinator (messages.Ask epoch from tail) t = t
to_coordinator (messages.Append epoch previous chunk) t = t

abbrev pub comes : ℕ → Message → Trio → Trio
comes zero message t = to_coordinator message t
comes (suc k) message t = changed (suc k) (taken 0 message) t

abbrev pub delivers : ℕ → List Sent → Trio → Trio
delivers n [] t = t
delivers n (s ∷ more) t = if n == 1 then comes s.to s.message t else delivers (n - 1) more t

abbrev pub begins : Option ℕ → Trio → Trio
begins None t = t
begins (Some epoch) t =
    let c = begun epoch t.coordinator in
    record t { coordinator = c; sent = t.sent ++ stop_all c }

abbrev pub does : ℕ → Trio → Trio
does zero t = begins t.coordinator.job t
does (suc k) t = changed (suc k) finished t

abbrev pub acts : Act → Trio → Trio
acts Elects t = record t { coordinator = (elect t.coordinator).state }
acts (Does k) t = does k t
acts (Delivers n) t = delivers n t.sent t
acts (Restarts k) t = changed k (λ m. record { state = restarted m.members m.number m.promise m.log; sent = [] }) t

abbrev pub played : List Act → Trio → Trio
played [] t = t
played (act ∷ more) t = played more (acts act t)

-- ---- what is sent, as a script prints it

pub record Mailed : Type 0 where
  pub to : ℕ
  pub kind : List ℕ
  pub epoch : ℕ

abbrev pub kind_of : Message → List ℕ
kind_of (messages.Stop epoch) = codes "stop"
kind_of (messages.Stopped epoch from tail) = codes "stopped"
kind_of (messages.Open epoch) = codes "open"
kind_of (messages.Follow epoch leader) = codes "follow"
kind_of (messages.Shape epoch runs) = codes "shape"
kind_of (messages.Ask epoch from tail) = codes "ask"
kind_of (messages.Append epoch previous chunk) = codes "append"

abbrev pub mailed : Sent → Mailed
mailed s = record { to = s.to; kind = kind_of s.message; epoch = epoch_of s.message }

abbrev pub prints : Trio → List Mailed
prints t = map mailed t.sent

abbrev pub m : ℕ → List ℕ → ℕ → Mailed
m to kind epoch = record { to = to; kind = kind; epoch = epoch }

-- ---- the scripts

-- epoch 1 ran, each log has its opening chunk, and the coordinator has its members' tails
abbrev pub first_member : ℕ → MemberState
first_member number = restarted 3 number 1 (opening_chunk 1 (pos 0) [] ∷ [])

abbrev pub first_trio : Trio
first_trio = record {
  coordinator = record { members = 3; epoch = 1; job = None; phase = Running 1; told = None ∷ None ∷ None ∷ [] };
  members = first_member 1 ∷ first_member 2 ∷ first_member 3 ∷ [];
  sent = [];
}

-- Members 1 and 2 elect 1 in epoch 2, and it writes a chunk that nobody gets. Members 2 and 3 elect 2 in epoch 3.
abbrev pub common : List Act
common =
    Elects ∷ Does 0 ∷ Delivers 1 ∷ Does 1 ∷ Delivers 2 ∷ Does 2 ∷ Delivers 4 ∷ Delivers 5 ∷ Delivers 6 ∷ Does 1
    ∷ Elects ∷ Does 0 ∷ Delivers 11 ∷ Does 2 ∷ Delivers 12 ∷ Does 3 ∷ Delivers 13 ∷ Delivers 14 ∷ Delivers 15 ∷ Does 2 ∷ []

abbrev pub common_mail : List Mailed
common_mail =
    m 1 (codes "stop") 2 ∷ m 2 (codes "stop") 2 ∷ m 3 (codes "stop") 2
    ∷ m 0 (codes "stopped") 2 ∷ m 0 (codes "stopped") 2 ∷ m 1 (codes "open") 2 ∷ m 2 (codes "follow") 2
    ∷ m 2 (codes "append") 2 ∷ m 3 (codes "append") 2
    ∷ m 1 (codes "stop") 3 ∷ m 2 (codes "stop") 3 ∷ m 3 (codes "stop") 3
    ∷ m 0 (codes "stopped") 3 ∷ m 0 (codes "stopped") 3 ∷ m 2 (codes "open") 3 ∷ m 3 (codes "follow") 3
    ∷ m 1 (codes "append") 3 ∷ m 3 (codes "append") 3 ∷ []

-- Member 1 is elected again in epoch 4 and sends 3 the chunk of epoch 2, which then two of three have: it isn't committed by that.
abbrev pub older_epoch : List Act
older_epoch =
    Elects ∷ Does 0 ∷ Delivers 19 ∷ Does 1 ∷ Delivers 21 ∷ Does 3 ∷ Delivers 22 ∷ Delivers 23 ∷ Delivers 24 ∷ Does 1
    ∷ Delivers 25 ∷ Delivers 28 ∷ Delivers 29 ∷ Does 3 ∷ Delivers 30 ∷ []

abbrev pub older_epoch_mail : List Mailed
older_epoch_mail =
    m 1 (codes "stop") 4 ∷ m 2 (codes "stop") 4 ∷ m 3 (codes "stop") 4
    ∷ m 0 (codes "stopped") 4 ∷ m 0 (codes "stopped") 4 ∷ m 1 (codes "open") 4 ∷ m 3 (codes "follow") 4
    ∷ m 2 (codes "append") 4 ∷ m 3 (codes "append") 4
    ∷ m 1 (codes "ask") 4 ∷ m 3 (codes "append") 4 ∷ m 1 (codes "ask") 4 ∷ m 3 (codes "append") 4 ∷ []

-- Then members 2 and 3 elect 2 in epoch 5, whose last chunk is of epoch 3.
abbrev pub then_fifth : List Act
then_fifth = Elects ∷ Does 0 ∷ Delivers 33 ∷ Does 2 ∷ Delivers 34 ∷ Does 3 ∷ Delivers 35 ∷ Delivers 36 ∷ []

abbrev pub fifth_mail : List Mailed
fifth_mail =
    m 1 (codes "stop") 5 ∷ m 2 (codes "stop") 5 ∷ m 3 (codes "stop") 5
    ∷ m 0 (codes "stopped") 5 ∷ m 0 (codes "stopped") 5 ∷ m 2 (codes "open") 5 ∷ m 3 (codes "follow") 5 ∷ []

-- Member 1 follows 2 in epoch 3, cuts its chunk of epoch 2 and takes the one of epoch 3, which is then committed.
abbrev pub late_member : List Act
late_member =
    Delivers 10 ∷ Does 1 ∷ Delivers 19 ∷ Delivers 20 ∷ Delivers 21 ∷ Delivers 22 ∷ Does 1 ∷ Delivers 23 ∷ Delivers 24 ∷ Does 1 ∷ Delivers 25 ∷ []

abbrev pub late_member_mail : List Mailed
late_member_mail =
    m 0 (codes "stopped") 3 ∷ m 1 (codes "follow") 3 ∷ m 2 (codes "ask") 3 ∷ m 1 (codes "shape") 3 ∷ m 2 (codes "ask") 3 ∷ m 1 (codes "append") 3 ∷ m 2 (codes "ask") 3 ∷ []

-- It restarts, follows again, and late messages change nothing: the Shape doesn't cut its chunk of epoch 3.
abbrev pub late_messages : List Act
late_messages = Restarts 1 ∷ Delivers 20 ∷ Delivers 22 ∷ Does 1 ∷ Delivers 25 ∷ Delivers 25 ∷ []

-- the ends of the logs, by member
abbrev pub ends_of : Trio → List ℕ
ends_of t = map (λ (m : MemberState). end_of m.log) t.members

abbrev pub commit_ends : Trio → List ℕ
commit_ends t = map commit_end t.members
