-- What an offer and a stored offset add to a leader's sequence, and why they are refused.
use Rattle.std.specs.Prelude.{◌≡◌, ◌⊎◌, ℕ, ◌+◌, ◌^◌, ◌<◌, List, [], ◌∷◌, ◌++◌, true, false, length, position, Option, Some, None, Result, Ok, Err}
use Rattle.std.specs.List.{All, AllByRecursion}
use Rattle.frame_wire.specs.declared.limits.Limits.{Limits}
use Rattle.chunk_format.specs.declared.chunk.Chunk.{Chunk}
use Rattle.chunk_format.specs.declared.chunk.ChunkKind.{ChunkKind}
use Rattle.chunk_format.specs.declared.chunk.ChunkKind.TheVariants.{User, Delta, Snapshot}
use Rattle.chunk_format.specs.Chunks.{IsEntry, IsChunk, end_of_chunk}
use Rattle.chunk_format.specs.Logs.{end_of}
use Rattle.chunk_format.specs.ByName.{Greatest, LastStored, tag_names, stored_names, first_seen}
use Rattle.command_data.specs.declared.item.Tagged.{Tagged}
use Rattle.epoch_coordinator.specs.Members.{MemberState, sequence_of}
use Rattle.epoch_coordinator.specs.MemberSteps.{stamp_at}
use Rattle.epoch_coordinator.specs.Offers.{Item, accepted, offered_chunks, stored_chunks}
use Rattle.member_core.specs.Kept.{bytes_of, plain_count}
use Rattle.member_core.specs.States.{offered_all, waiting_of}
use Rattle.stream_terms.specs.declared.terms.Taken.{Taken}
use Rattle.stream_terms.specs.declared.terms.What.{What}
use Rattle.stream_terms.specs.declared.terms.What.TheVariants.{References, Consumers, LogBytes, Queue}
use Rattle.stream_terms.specs.declared.terms.OfferFault.{OfferFault}
use Rattle.stream_terms.specs.declared.terms.OfferFault.TheVariants as refused
use Rattle.stream_terms.specs.Views.{name_of}
use Rattle.stream_terms.specs.Steps.{names_one}
use Rattle.offer_chunks.specs.Taken.{items_of, is_empty_batch, IdFits}

-- ---- what is added

-- the items of an offer that are taken
abbrev pub taken_items : MemberState → List ℕ → List Tagged → List Item
taken_items m name items = accepted name (sequence_of m) (items_of items)

-- the chunks of an offer at a moment
abbrev pub offer_adds : MemberState → List ℕ → List Tagged → ℕ → List Chunk
offer_adds m name items now = offered_chunks m.promise (stamp_at now) name (sequence_of m) (items_of items)

-- the chunks of an offset that is stored for a name at a moment
abbrev pub offset_adds : MemberState → List ℕ → ℕ → ℕ → List Chunk
offset_adds m name offset now = stored_chunks m.promise (stamp_at now) name offset (sequence_of m)

-- A chunk has a spelling. What a snapshot says has one, where its offset and the length of its entry have room.
abbrev pub HasRoomBy : ChunkKind → Chunk → Type 0
HasRoomBy User c = IsChunk c
HasRoomBy Delta c = IsChunk c
HasRoomBy Snapshot c = All IsEntry c.entries × (end_of_chunk c < 2 ^ 64)

abbrev pub HasRoom : Chunk → Type 0
HasRoom c = HasRoomBy c.kind c

-- ---- limits

-- how many publishers, and how many consumers, have a name in chunks
abbrev pub references_of : List Chunk → ℕ
references_of chunks = length (first_seen (tag_names chunks))

abbrev pub consumers_of : List Chunk → ℕ
consumers_of chunks = length (first_seen (stored_names chunks))

abbrev pub most_of : Limits → What → ℕ
most_of limits References = limits.references
most_of limits Consumers = limits.consumers
most_of limits LogBytes = limits.log_bytes
most_of limits Queue = limits.queue

-- a name of which nothing is known makes one name more; the empty one is none
abbrev pub new_names : List ℕ → Option ℕ → ℕ
new_names [] known = 0
new_names (x ∷ name) None = 1
new_names (x ∷ name) (Some n) = 0

-- how many publishers have a name in a leader's sequence with this one, and how many consumers
abbrev pub references_with : List ℕ → MemberState → ℕ
references_with name m = references_of (sequence_of m) + new_names name (Greatest name (sequence_of m))

abbrev pub consumers_with : List ℕ → MemberState → ℕ
consumers_with name m = consumers_of (sequence_of m) + new_names name (LastStored name (sequence_of m))

-- With these chunks, which are of this name, the leader's sequence would have more than the limit, or bytes and offsets that no chunk has room for. Snapshots
-- don't count as queued.
abbrev pub Passes : Limits → MemberState → List ℕ → List Chunk → What → Type 0
Passes limits m name chunks References = limits.references < references_with name m
Passes limits m name chunks Consumers = limits.consumers < consumers_with name m
Passes limits m name chunks LogBytes = (limits.log_bytes < bytes_of (sequence_of m ++ chunks)) ⊎ (AllByRecursion HasRoom chunks → ⊥)
Passes limits m name chunks Queue = limits.queue < plain_count (waiting_of m ++ chunks)

-- the first of some limits that is passed
abbrev pub FirstOf : (What → Type 0) → List What → What → Type 0
FirstOf P [] what = ⊥
FirstOf P (first ∷ more) what = ((what ≡ first) × P first) ⊎ ((P first → ⊥) × FirstOf P more what)

-- what limits an offer and a stored offset, in order
abbrev pub offer_limits : List What
offer_limits = References ∷ LogBytes ∷ Queue ∷ []

abbrev pub offset_limits : List What
offset_limits = Consumers ∷ LogBytes ∷ Queue ∷ []

-- these chunks are refused by the first limit that they pass, where there are any
pub record Limited (limits : Limits) (m : MemberState) (name : List ℕ) (chunks : List Chunk) (whats : List What) (what : What) (most : ℕ) : Type 0 where
  pub some : 0 < length chunks
  pub first : FirstOf (Passes limits m name chunks) whats what
  pub most_is : most ≡ most_of limits what

-- none is passed, or nothing is added
abbrev pub Within : Limits → MemberState → List ℕ → List Chunk → List What → Type 0
Within limits m name chunks whats = (chunks ≡ []) ⊎ AllByRecursion (λ (what : What). Passes limits m name chunks what → ⊥) whats

-- ---- what the calls give

-- Exactly these chunks stand behind the leader's sequence, within the limits.
pub record Added (limits : Limits) (old : MemberState) (name : List ℕ) (chunks : List Chunk) (whats : List What) (t : Taken) (new : MemberState) : Type 0 where
  pub state : new ≡ offered_all chunks old
  pub sequence : sequence_of new ≡ sequence_of old ++ chunks
  pub room : AllByRecursion HasRoom chunks
  pub within : Within limits old name chunks whats
  pub end_is : t.end ≡ end_of (sequence_of old ++ chunks)

-- And the items that were taken are counted. The ids of all are below 2^64.
pub record OfferAdded (limits : Limits) (old : MemberState) (name : List ℕ) (items : List Tagged) (now : ℕ) (t : Taken) (new : MemberState) : Type 0 where
  pub whole : position is_empty_batch items ≡ None
  pub added : Added limits old name (offer_adds old name items now) offer_limits t new
  pub accepted_is : t.accepted ≡ length (taken_items old name items)
  pub ids_fit : AllByRecursion IdFits (items_of items)

-- Why an offer is refused: at the first sub-batch of no records; by a limit, where there is none; for want of memory.
abbrev pub OfferRefused : Limits → MemberState → List ℕ → List Tagged → ℕ → OfferFault → Type 0
OfferRefused limits old name items now (refused.Stale asked running) = ⊥
OfferRefused limits old name items now (refused.BadName len) = ⊥
OfferRefused limits old name items now (refused.EmptyBatch place) = position is_empty_batch items ≡ Some place
OfferRefused limits old name items now (refused.Limit what most) = (position is_empty_batch items ≡ None) × Limited limits old name (offer_adds old name items now) offer_limits what most
OfferRefused limits old name items now refused.Memory = Unit {0}

-- after a refusal nothing has changed
abbrev pub OfferGives : Limits → MemberState → List ℕ → List Tagged → ℕ → Result Taken OfferFault → MemberState → Type 0
OfferGives limits old name items now (Ok t) new = OfferAdded limits old name items now t new
OfferGives limits old name items now (Err fault) new = OfferRefused limits old name items now fault × (new ≡ old)

-- a stored offset adds its chunk, for a name of 1 to 255 bytes
pub record OffsetAdded (limits : Limits) (old : MemberState) (name : Option (List ℕ)) (offset now : ℕ) (t : Taken) (new : MemberState) : Type 0 where
  pub named : names_one name ≡ true
  pub added : Added limits old (name_of name) (offset_adds old (name_of name) offset now) offset_limits t new
  pub accepted_is : t.accepted ≡ 1

-- why an offset is refused: by its name; by a limit, where the name is right; for want of memory
abbrev pub OffsetRefused : Limits → MemberState → Option (List ℕ) → ℕ → ℕ → OfferFault → Type 0
OffsetRefused limits old name offset now (refused.Stale asked running) = ⊥
OffsetRefused limits old name offset now (refused.BadName len) = (names_one name ≡ false) × (len ≡ length (name_of name))
OffsetRefused limits old name offset now (refused.EmptyBatch place) = ⊥
OffsetRefused limits old name offset now (refused.Limit what most) = (names_one name ≡ true) × Limited limits old (name_of name) (offset_adds old (name_of name) offset now) offset_limits what most
OffsetRefused limits old name offset now refused.Memory = Unit {0}

abbrev pub OffsetGives : Limits → MemberState → Option (List ℕ) → ℕ → ℕ → Result Taken OfferFault → MemberState → Type 0
OffsetGives limits old name offset now (Ok t) new = OffsetAdded limits old name offset now t new
OffsetGives limits old name offset now (Err fault) new = OffsetRefused limits old name offset now fault × (new ≡ old)
