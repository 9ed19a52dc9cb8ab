-- The calls of a hub, and what kind of answer each has.
use Rattle.std.specs.Prelude.{ℕ, Bool, List, Option, Result}
use Rattle.std.specs.declared.alloc.AllocError.{AllocError}
use Rattle.chunk_format.specs.declared.chunk.Chunk.{Chunk}
use Rattle.command_fields.specs.declared.offset.OffsetSpec.{OffsetSpec}
use Rattle.command_data.specs.declared.item.Tagged.{Tagged}
use Rattle.stream_terms.specs.declared.terms.Pass.{Pass}
use Rattle.stream_terms.specs.declared.terms.Taken.{Taken}
use Rattle.stream_terms.specs.declared.terms.Confirm.{Confirm}
use Rattle.stream_terms.specs.declared.terms.DeclareFault.{DeclareFault}
use Rattle.stream_terms.specs.declared.terms.OfferFault.{OfferFault}
use Rattle.hub_terms.specs.declared.terms.Found.{Found}
use Rattle.hub_terms.specs.declared.terms.HubDid.{HubDid}
use Rattle.active_groups.specs.declared.consumer.ConsumerId.{ConsumerId}
use Rattle.active_groups.specs.declared.consumer.Change.{Change}

-- a text: null, or bytes
abbrev pub Words : Type 0
Words = Option (List ℕ)

pub data Call : Type 0 where
  Finding : List ℕ → Call
  Creating : Words → Call
  Deleting : Words → Call
  CreatingSuper : Words → List Words → List Words → Call
  DeletingSuper : Words → Call
  PartsOf : Words → Call
  Routing : Words → Words → Call
  Declaring : ℕ → ℕ → Words → Call
  Offering : ℕ → Pass → List Tagged → ℕ → Call
  StoringOffset : ℕ → Words → ℕ → ℕ → Call
  Confirming : ℕ → Call
  Starting : ℕ → OffsetSpec → Call
  NextChunk : ℕ → ℕ → Call
  GreatestOf : ℕ → Words → Call
  StoredOf : ℕ → Words → Call
  LastChunk : ℕ → Call
  Joining : ℕ → Words → ConsumerId → Call
  Leaving : ConsumerId → Call
  Changing : ℕ → Call
  Answering : ConsumerId → Call
  IsActive : ConsumerId → Call

abbrev pub Answer : Call → Type 0
Answer (Finding name) = Found
Answer (Creating name) = HubDid
Answer (Deleting name) = HubDid
Answer (CreatingSuper name parts keys) = HubDid
Answer (DeletingSuper name) = HubDid
Answer (PartsOf name) = Result (Option (List Words)) AllocError
Answer (Routing key name) = Result (Option (List Words)) AllocError
Answer (Declaring session stream name) = Result Pass DeclareFault
Answer (Offering stream pass items now) = Result Taken OfferFault
Answer (StoringOffset stream name offset now) = Result Taken OfferFault
Answer (Confirming session) = Result (List Confirm) AllocError
Answer (Starting stream spec) = Result ℕ AllocError
Answer (NextChunk stream from) = Result (Option Chunk) AllocError
Answer (GreatestOf stream name) = Result (Option ℕ) AllocError
Answer (StoredOf stream name) = Result (Option ℕ) AllocError
Answer (LastChunk stream) = Result (Option ℕ) AllocError
Answer (Joining stream name consumer) = Result (Unit {0}) AllocError
Answer (Leaving consumer) = Unit {0}
Answer (Changing session) = Option Change
Answer (Answering consumer) = Bool
Answer (IsActive consumer) = Bool
