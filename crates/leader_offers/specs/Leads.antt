-- Chunks that go behind the sequence of a member that leads.
use Rattle.std.specs.Prelude.{◌≡◌, ℕ, ℤ, true, List, [], ◌∷◌, ◌++◌, ◌<◌, ◌≤◌, length, take, drop, Option, Some, None}
use Rattle.std.specs.List.{AllByRecursion}
use Rattle.chunk_format.specs.declared.entry.Entry.{Entry}
use Rattle.chunk_format.specs.declared.chunk.Chunk.{Chunk}
use Rattle.chunk_format.specs.declared.chunk.ChunkKind.TheVariants.{User}
use Rattle.chunk_format.specs.Logs.{end_of}
use Rattle.command_data.specs.declared.item.Tagged.{Tagged}
use Rattle.epoch_coordinator.specs.declared.message.Job.{Job}
use Rattle.epoch_coordinator.specs.declared.message.Job.TheVariants as jobs
use Rattle.epoch_coordinator.specs.Members.{Leading, MemberState, Leader, sequence_of}
use Rattle.epoch_coordinator.specs.Offers.{Item, user_chunk, with_snapshot, most_entries, laid, chunk_count}
use Rattle.member_core.specs.States.{offered_all, waiting_of}
use Rattle.offer_chunks.specs.Taken.{items_of, taken_from, IdFits}
use Rattle.frame_wire.specs.declared.limits.Limits.{Limits}
use Rattle.member_core.specs.Kept.{bytes_of, plain_count}
use Rattle.stream_terms.specs.declared.terms.What.TheVariants.{References, Consumers, LogBytes, Queue}
use Rattle.stream_terms.specs.declared.terms.OfferFault.{OfferFault}
use Rattle.stream_terms.specs.declared.terms.OfferFault.TheVariants as refused
use Rattle.leader_offers.specs.declared.put.Stop.{Stop}
use Rattle.leader_offers.specs.declared.put.Stop.TheVariants as stops
use Rattle.leader_offers.specs.declared.lay.Step.{Step}
use Rattle.leader_offers.specs.Adds.{HasRoom}

-- chunks wait only behind one that is being written
abbrev pub IsLine : Option Job → List Chunk → Type 0
IsLine None queue = queue ≡ []
IsLine (Some (jobs.Write c)) queue = Unit {0}
IsLine (Some (jobs.Cut end)) queue = ⊥
IsLine (Some (jobs.Promise epoch)) queue = ⊥
IsLine (Some (jobs.Epoch epoch)) queue = ⊥

-- a leader that is open, as a member keeps it
pub record Leads (m : MemberState) : Type 0 where
  pub leading : Leading
  pub role_is : m.role ≡ Leader leading
  pub opened : leading.opened ≡ true
  pub line : IsLine m.job leading.queue

-- chunks stand behind its sequence
pub record Behind (old : MemberState) (chunks : List Chunk) (new : MemberState) : Type 0 where
  pub state : new ≡ offered_all chunks old
  pub sequence : sequence_of new ≡ sequence_of old ++ chunks
  pub waiting : waiting_of new ≡ waiting_of old ++ chunks
  pub leads : Leads new
  pub promise_is : new.promise ≡ old.promise

-- some chunks do
abbrev pub SomeBehind : MemberState → MemberState → Type 0
SomeBehind old new = (chunks : List Chunk) × Behind old chunks new

-- and all have room
abbrev pub Put : MemberState → List Chunk → MemberState → Type 0
Put old chunks new = Behind old chunks new × AllByRecursion HasRoom chunks

-- it stopped where they have no room, or for want of memory
abbrev pub WhyStopped : List Chunk → Stop → Type 0
WhyStopped chunks stops.Large = AllByRecursion HasRoom chunks → ⊥
WhyStopped chunks stops.Memory = Unit {0}

-- a user chunk with these entries and this trailer
abbrev pub chunk_with : ℕ → ℤ → ℕ → List Entry → List ℕ → Chunk
chunk_with epoch stamp first entries trailer = record { kind = User; stamp = stamp; epoch = epoch; first = first; entries = entries; trailer = trailer }

-- the first chunk of items, with the snapshot that follows it, if there are items
abbrev pub run_chunks : ℕ → ℤ → List ℕ → List Chunk → List Item → List Chunk
run_chunks epoch stamp name sequence [] = []
run_chunks epoch stamp name sequence (item ∷ more) = with_snapshot sequence (user_chunk epoch stamp name (end_of sequence) (take most_entries (item ∷ more)))

-- all chunks of items
abbrev pub all_chunks : ℕ → ℤ → List ℕ → List Chunk → List Item → List Chunk
all_chunks epoch stamp name sequence items = laid (chunk_count (length items)) epoch stamp name sequence items

-- a run of the items that are taken is laid
pub record RunLaid (name : List ℕ) (greatest : Option ℕ) (items : List Tagged) (stamp : ℤ) (old : MemberState) (step : Step) (new : MemberState) : Type 0 where
  pub put : Put old (run_chunks old.promise stamp name (sequence_of old) (taken_from name greatest (items_of items))) new
  pub count_is : step.count ≡ length (take most_entries (taken_from name greatest (items_of items)))
  pub rest_is : taken_from name step.greatest (items_of step.rest.now) ≡ drop most_entries (taken_from name greatest (items_of items))
  pub shorter : 0 < length items → length step.rest.now < length items
  pub ids_fit : AllByRecursion IdFits (items_of step.rest.now) → AllByRecursion IdFits (items_of items)

-- a leader has more bytes than there may be, or else more chunks that aren't written
abbrev pub IsFull : Limits → MemberState → OfferFault → Type 0
IsFull limits m (refused.Stale asked running) = ⊥
IsFull limits m (refused.BadName len) = ⊥
IsFull limits m (refused.EmptyBatch place) = ⊥
IsFull limits m (refused.Limit LogBytes most) = (most ≡ limits.log_bytes) × (limits.log_bytes < bytes_of (sequence_of m))
IsFull limits m (refused.Limit Queue most) = (most ≡ limits.queue) × (bytes_of (sequence_of m) ≤ limits.log_bytes) × (limits.queue < plain_count (waiting_of m))
IsFull limits m (refused.Limit References most) = ⊥
IsFull limits m (refused.Limit Consumers most) = ⊥
IsFull limits m refused.Memory = ⊥

-- the answer where a leader stopped
abbrev pub IsStopped : Limits → Stop → OfferFault → Type 0
IsStopped limits stops.Large fault = fault ≡ refused.Limit LogBytes limits.log_bytes
IsStopped limits stops.Memory fault = fault ≡ refused.Memory
