-- Messages by their numbers, and what a committed list gets next.
use Rattle.std.specs.Prelude.{ℕ, zero, suc, ◌+◌, ◌%◌, Bool, true, if◌then◌else◌, ◌&&◌, ◌==◌, not, map, nat_lt, List, [], ◌∷◌, ◌++◌, drop}
use Rattle.std.specs.List.{before_first}
use Rattle.chunk_format.specs.declared.chunk.Chunk.{Chunk}
use Rattle.chunk_format.specs.Chunks.{end_of_chunk}
use Rattle.chunk_format.specs.Logs.{end_of}
use Rattle.epoch_coordinator.specs.declared.message.Sent.{Sent}
use Rattle.epoch_coordinator.specs.declared.message.Message.TheVariants as messages
use Rattle.epoch_coordinator.specs.declared.coordinator.StoppedDid.{StoppedDid}
use Rattle.epoch_coordinator.specs.declared.coordinator.StoppedDid.TheVariants as did
use Rattle.epoch_coordinator.specs.Members.{MemberState, job_chunks}
use Rattle.epoch_coordinator.specs.Coordinators.{to_each}
use Rattle.epoch_coordinator.specs.MemberSteps.{mail}
use Rattle.replication_laws.specs.Majorities.{flags_of}
use Rattle.replication_laws.specs.Cluster.{Letter}
use Rattle.cluster_core.specs.declared.mail.Numbered.{Numbered}

-- ---- messages

abbrev pub letter_of : Numbered → Letter
letter_of n = record { number = n.number; delivered = n.delivered; sent = n.sent }

abbrev pub lettered : List Numbered → List Letter
lettered mail = map letter_of mail

abbrev pub has_number : ℕ → Numbered → Bool
has_number number n = n.number == number

-- the one at a place is marked as delivered
abbrev pub delivered_at : ℕ → List Numbered → List Numbered
delivered_at place [] = []
delivered_at zero (n ∷ mail) = record n { delivered = true } ∷ mail
delivered_at (suc place) (n ∷ mail) = n ∷ delivered_at place mail

-- a member whose flag is the lowest bit, if it is set and it isn't the leader
abbrev pub flagged : ℕ → ℕ → ℕ → List ℕ
flagged number leader bits = if (bits % 2 == 1) && not (number == leader) then number ∷ [] else []

-- the members whose flags are set, but for one, by number
abbrev pub flagged_from : ℕ → ℕ → List Bool → List ℕ
flagged_from number leader [] = []
flagged_from number leader (x ∷ xs) =
    if x && not (number == leader) then number ∷ flagged_from (number + 1) leader xs else flagged_from (number + 1) leader xs

-- an Open to the leader, and a Follow to each other member whose bit is set, by number
abbrev pub opening_mail : ℕ → ℕ → ℕ → ℕ → List Sent
opening_mail members epoch leader electors = mail leader (messages.Open epoch) ∷ to_each (messages.Follow epoch leader) (flagged_from 1 leader (flags_of members electors))

-- what the coordinator sends when a member told that it has stopped, by the bits of the electors
abbrev pub did_mail : ℕ → StoppedDid → List Sent
did_mail members did.Later = []
did_mail members did.Nothing = []
did_mail members (did.Send1 sent) = sent ∷ []
did_mail members (did.Opened epoch leader electors) = opening_mail members epoch leader electors

-- ---- the committed list

-- what may be committed next at a member: the chunks of its log behind so many, and the one that it writes
abbrev pub ahead_of : ℕ → MemberState → List Chunk
ahead_of count m = drop count (m.log ++ job_chunks m.job)

-- a chunk ends behind an offset
abbrev pub ends_behind : ℕ → Chunk → Bool
ends_behind end c = nat_lt end (end_of_chunk c)

-- a list goes on to an end, where that is longer
abbrev pub extended : List Chunk → List Chunk → ℕ → List Chunk
extended list ahead end = if nat_lt (end_of list) end then list ++ before_first (ends_behind end) ahead else list
