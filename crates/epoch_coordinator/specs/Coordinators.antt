-- What the coordinator of a stream knows, and what it does.
use Rattle.std.specs.Prelude.{◌≡◌, ℕ, zero, suc, ◌+◌, ◌-◌, ◌*◌, ◌<◌, ◌≤◌, Bool, true, false, not, ◌&&◌, ◌==◌, if◌then◌else◌, nat_lt, List, [], ◌∷◌, map, slice_set, slice_index_or, ◌⊎◌, Option, Some, None}
use Rattle.epoch_coordinator.specs.declared.tail.Tail.{Tail}
use Rattle.epoch_coordinator.specs.declared.message.Message.{Message}
use Rattle.epoch_coordinator.specs.declared.message.Message.TheVariants as messages
use Rattle.epoch_coordinator.specs.declared.message.Sent.{Sent}
use Rattle.epoch_coordinator.specs.declared.coordinator.Phase.{Phase}
use Rattle.epoch_coordinator.specs.declared.coordinator.Phase.TheVariants.{Idle, Electing, Running}
use Rattle.epoch_coordinator.specs.declared.coordinator.Elected.{Elected}
use Rattle.epoch_coordinator.specs.declared.coordinator.Elected.TheVariants as elected
use Rattle.epoch_coordinator.specs.declared.coordinator.StoppedDid.{StoppedDid}
use Rattle.epoch_coordinator.specs.declared.coordinator.StoppedDid.TheVariants as did
use Rattle.epoch_coordinator.specs.declared.election.Candidate.{Candidate}
use Rattle.epoch_coordinator.specs.Tails.{is_behind, same_tail}
use Rattle.epoch_coordinator.specs.MemberSteps.{mail, is_another, all_members, is_majority}

-- The coordinator: how many members there are, its durable epoch, the epoch that its pending job is to make durable, what it does in
-- its epoch, and of each member, by number from 1 on, the tail that it told in that epoch first.
pub record CoordinatorState : Type 0 where
  pub members : ℕ
  pub epoch : ℕ
  pub job : Option ℕ
  pub phase : Phase
  pub told : List (Option Tail)

-- nobody told a tail
abbrev pub untold : ℕ → List (Option Tail)
untold zero = []
untold (suc n) = None ∷ untold n

-- a coordinator that is opened is idle, with its durable epoch
abbrev pub opened_with : ℕ → ℕ → CoordinatorState
opened_with members epoch = record { members = members; epoch = epoch; job = None; phase = Idle; told = untold members }

-- ---- an election

-- what the coordinator is after an election was asked for, and the answer
pub record Elects : Type 0 where
  pub state : CoordinatorState
  pub answer : Elected

abbrev pub elect_by : Option ℕ → CoordinatorState → Elects
elect_by (Some next) c = record { state = c; answer = elected.Later }
elect_by None c =
    if c.epoch == 18446744073709551615
    then record { state = c; answer = elected.Last c.epoch }
    else record { state = record c { job = Some (c.epoch + 1) }; answer = elected.Asked (c.epoch + 1) }

-- the next epoch is to be made durable; not while a job is pending, and none follows the greatest
abbrev pub elect : CoordinatorState → Elects
elect c = elect_by c.job c

-- to each of these members
abbrev pub to_each : Message → List ℕ → List Sent
to_each message members = map (λ (k : ℕ). mail k message) members

abbrev pub stop_all : CoordinatorState → List Sent
stop_all c = to_each (messages.Stop c.epoch) (all_members c.members)

-- the epoch is durable: it is being elected in, and each member is told to stop
abbrev pub begun : ℕ → CoordinatorState → CoordinatorState
begun epoch c = record { members = c.members; epoch = epoch; job = None; phase = Electing; told = untold c.members }

-- ---- a member has stopped

-- the first tail that a member tells is kept
abbrev pub first_of : Option Tail → Tail → Option Tail
first_of None tail = Some tail
first_of (Some before) tail = Some before

abbrev pub tell : ℕ → Tail → List (Option Tail) → List (Option Tail)
tell k tail told = slice_set told (k - 1) (first_of (slice_index_or told (k - 1) None) tail)

-- how many told a tail
abbrev pub is_told : Option Tail → Bool
is_told None = false
is_told (Some tail) = true

abbrev pub repliers : List (Option Tail) → ℕ
repliers [] = 0
repliers (x ∷ xs) = (if is_told x then 1 else 0) + repliers xs

-- a later one is taken only where its tail is greater
abbrev pub better : Option Candidate → ℕ → Option Tail → Option Candidate
better best number None = best
better None number (Some tail) = Some (record { number = number; tail = tail })
better (Some best) number (Some tail) = if is_behind best.tail tail then Some (record { number = number; tail = tail }) else Some best

abbrev pub best_from : ℕ → Option Candidate → List (Option Tail) → Option Candidate
best_from number best [] = best
best_from number best (x ∷ xs) = best_from (number + 1) (better best number x) xs

-- the leader's number, or 0 where nobody told a tail
abbrev pub number_of : Option Candidate → ℕ
number_of None = 0
number_of (Some c) = c.number

-- of those that told, the one of greatest tail, and of equals the one of least number
abbrev pub leader_of : List (Option Tail) → ℕ
leader_of told = number_of (best_from 1 None told)

-- the members that told, as bits: the lowest is member 1's
abbrev pub electors_of : List (Option Tail) → ℕ
electors_of [] = 0
electors_of (x ∷ xs) = (if is_told x then 1 else 0) + 2 * electors_of xs

-- what the coordinator is after a member told that it has stopped, and the answer
pub record Hears : Type 0 where
  pub state : CoordinatorState
  pub answer : StoppedDid

abbrev pub hears : CoordinatorState → StoppedDid → Hears
hears c answer = record { state = c; answer = answer }

-- with a majority the leader is chosen, and the epoch runs
abbrev pub counted : CoordinatorState → Hears
counted c =
    if is_majority c.members (repliers c.told)
    then hears (record c { phase = Running (leader_of c.told) }) (did.Opened c.epoch (leader_of c.told) (electors_of c.told))
    else hears c did.Nothing

-- of a running epoch the leader is to open, and another member to follow it
abbrev pub open_or_follow : ℕ → ℕ → ℕ → Sent
open_or_follow epoch leader k = mail k (if k == leader then messages.Open epoch else messages.Follow epoch leader)

abbrev pub told_in_epoch : Phase → ℕ → Tail → CoordinatorState → Hears
told_in_epoch Idle from tail c = hears c did.Nothing
told_in_epoch Electing from tail c = counted (record c { told = tell from tail c.told })
told_in_epoch (Running leader) from tail c = hears (record c { told = tell from tail c.told }) (did.Send1 (open_or_follow c.epoch leader from))

-- a member of an earlier epoch is told to stop, unless the coordinator is idle
abbrev pub told_before : Phase → ℕ → CoordinatorState → Hears
told_before Idle from c = hears c did.Nothing
told_before Electing from c = hears c (did.Send1 (mail from (messages.Stop c.epoch)))
told_before (Running leader) from c = hears c (did.Send1 (mail from (messages.Stop c.epoch)))

abbrev pub stopped_by : Option ℕ → ℕ → ℕ → Tail → CoordinatorState → Hears
stopped_by (Some next) epoch from tail c = hears c did.Later
stopped_by None epoch from tail c =
    if not (is_another c.members 0 from) then hears c did.Nothing
    else (if nat_lt epoch c.epoch then told_before c.phase from c
    else (if epoch == c.epoch then told_in_epoch c.phase from tail c else hears c did.Nothing))

-- what the coordinator does when a member tells that it has stopped
abbrev pub stopped : ℕ → ℕ → Tail → CoordinatorState → Hears
stopped epoch from tail c = stopped_by c.job epoch from tail c

-- the members that told, but for one, by number
abbrev pub others_from : ℕ → ℕ → List (Option Tail) → List ℕ
others_from number leader [] = []
others_from number leader (x ∷ xs) =
    if is_told x && not (number == leader) then number ∷ others_from (number + 1) leader xs else others_from (number + 1) leader xs

-- what an Opened stands for: Open to the leader, then Follow to each other member that told, by number
abbrev pub opening : ℕ → ℕ → List (Option Tail) → List Sent
opening epoch leader told = mail leader (messages.Open epoch) ∷ to_each (messages.Follow epoch leader) (others_from 1 leader told)

-- ---- a nudge

-- the members that told nothing, by number
abbrev pub untold_from : ℕ → List (Option Tail) → List ℕ
untold_from number [] = []
untold_from number (x ∷ xs) = if is_told x then untold_from (number + 1) xs else number ∷ untold_from (number + 1) xs

abbrev pub nudged_in : Phase → CoordinatorState → List Sent
nudged_in Idle c = []
nudged_in Electing c = to_each (messages.Stop c.epoch) (untold_from 1 c.told)
nudged_in (Running leader) c = to_each (messages.Stop c.epoch) (untold_from 1 c.told)

-- a coordinator that elects or runs tells each member that hasn't answered in its epoch to stop
abbrev pub nudged : CoordinatorState → List Sent
nudged c = nudged_in c.phase c

-- the epoch that runs, and its leader
abbrev pub running_in : Phase → ℕ → Option (ℕ × ℕ)
running_in Idle epoch = None
running_in Electing epoch = None
running_in (Running leader) epoch = Some (epoch, leader)

-- ---- which leader is right

-- the k-th of the tails, counted from a first number on, was told and is this one
abbrev pub Told : ℕ → List (Option Tail) → ℕ → Tail → Type 0
Told first [] k tail = ⊥
Told first (x ∷ xs) k tail = ((k ≡ first) × (x ≡ Some tail)) ⊎ Told (first + 1) xs k tail

-- a member whose tail isn't less than another's, and whose number isn't greater where both are equal
pub record GoesBefore (number : ℕ) (tail : Tail) (k : ℕ) (other : Tail) : Type 0 where
  pub greatest : is_behind tail other ≡ false
  pub least : same_tail tail other ≡ true → number ≤ k

-- of the members that told their tails the leader has the greatest, and the least number of equals
pub record IsLeader (told : List (Option Tail)) (leader : ℕ) : Type 0 where
  pub tail : Tail
  pub told_it : Told 1 told leader tail
  pub first : (k : ℕ) (other : Tail) → Told 1 told k other → GoesBefore leader tail k other

-- an epoch is opened rightly where its leader is right, and those that told their tails are more than half of the members
pub record OpensRightly (c : CoordinatorState) (epoch leader electors : ℕ) : Type 0 where
  pub epoch_is : epoch ≡ c.epoch
  pub chosen : IsLeader c.told leader
  pub majority : c.members < 2 * repliers c.told
  pub electors_are : electors ≡ electors_of c.told

-- where the answer is that an epoch was opened, it was opened rightly
abbrev pub IfOpened : CoordinatorState → StoppedDid → Type 0
IfOpened c did.Later = Unit {0}
IfOpened c did.Nothing = Unit {0}
IfOpened c (did.Send1 sent) = Unit {0}
IfOpened c (did.Opened epoch leader electors) = OpensRightly c epoch leader electors
