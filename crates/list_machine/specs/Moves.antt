-- What can happen to a stream, move by move.
use Rattle.std.specs.Prelude.{◌≡◌, ℕ, ◌==◌, ◌≤◌, not, Bool, List, [], ◌∷◌, ◌++◌, length, map, filter, Option, Some}
use Rattle.chunk_format.specs.declared.chunk.Chunk.{Chunk}
use Rattle.command_data.specs.declared.item.Tagged.{Tagged}
use Rattle.command_fields.specs.declared.offset.OffsetSpec.{OffsetSpec}
use Rattle.list_machine.specs.Streams.{Subscription, unmade, live, ended, Stream}
use Rattle.list_machine.specs.Commits.{CommitStep}
use Rattle.list_machine.specs.Publishing.{DeclareStep, UndeclareStep, PublishStep, RefuseStep, ConfirmStep, closed, closed_of}
use Rattle.list_machine.specs.Subscribing.{SubscribeStep, UnsubscribeStep, AskStep, StartStep, RestStep, GrantStep, DeliverStep}

-- Those of a connection have its number first, then the id of a publisher or a subscription.
pub data Move : Type 0 where
  -- the stream is made with this name, as a partition of this super stream or of none; it ends
  begins : Option (List ℕ) → Option (List ℕ) → Move
  finishes : Move
  commits : Chunk → Move
  -- a publisher is declared, with or without a name; it ends; a frame of it is taken, or refused, or confirmed
  declares : ℕ → ℕ → Option (List ℕ) → Move
  undeclares : ℕ → ℕ → Move
  publishes : ℕ → ℕ → List Tagged → Move
  refuses : ℕ → ℕ → Move
  confirms : ℕ → ℕ → Option (List ℕ) → List Tagged → Move
  -- a subscription of a group or of none starts, with credits; it ends
  subscribes : ℕ → ℕ → Option (List ℕ) → OffsetSpec → ℕ → Move
  unsubscribes : ℕ → ℕ → Move
  -- under a correlation a consumer is asked to be active or to stop; it answers and starts anew, or stops
  asks : ℕ → ℕ → ℕ → Bool → Move
  starts : ℕ → ℕ → ℕ → OffsetSpec → Move
  rests : ℕ → ℕ → ℕ → Move
  grants : ℕ → ℕ → ℕ → Move
  delivers : ℕ → ℕ → Chunk → Move
  -- an offset is sent, to be stored under a name
  stores : List ℕ → ℕ → Move
  -- a connection ends; all stops
  leaves : ℕ → Move
  forgets : Move

-- names of streams have 1 to 255 bytes
abbrev pub IsStreamName : List ℕ → Type 0
IsStreamName name = (1 ≤ length name) × (length name ≤ 255)

pub record BeginStep (old : Stream) (text super : Option (List ℕ)) (new : Stream) : Type 0 where
  pub is_unmade : old.life ≡ unmade
  pub name : List ℕ
  pub text_is : text ≡ Some name
  pub is_name : IsStreamName name
  pub is : new ≡ record old { life = live; name = name; super = super }

-- a connection's declarations stand no longer, and its subscriptions are gone
abbrev pub without : ℕ → Stream → Stream
without connection old = record old {
  declarations = map (closed_of connection) old.declarations;
  subscriptions = filter (λ (s : Subscription). not (s.connection == connection)) old.subscriptions;
}

-- The list as seen is empty, no declaration stands, and no subscription is left.
abbrev pub forgotten : Stream → Stream
forgotten old = record old { seen = []; declarations = map closed old.declarations; subscriptions = [] }

abbrev pub MoveStep : Stream → Move → Stream → Type 0
MoveStep old (begins text super) new = BeginStep old text super new
MoveStep old finishes new = (old.life ≡ live) × (new ≡ record old { life = ended })
MoveStep old (commits chunk) new = CommitStep old chunk new
MoveStep old (declares connection id name) new = DeclareStep old connection id name new
MoveStep old (undeclares connection id) new = UndeclareStep old connection id new
MoveStep old (publishes connection id items) new = PublishStep old connection id items new
MoveStep old (refuses connection id) new = RefuseStep old connection id new
MoveStep old (confirms connection id name items) new = ConfirmStep old connection id name items new
MoveStep old (subscribes connection id group spec credits) new = SubscribeStep old connection id group spec credits new
MoveStep old (unsubscribes connection id) new = UnsubscribeStep old connection id new
MoveStep old (asks connection id correlation activate) new = AskStep old connection id correlation activate new
MoveStep old (starts connection id correlation spec) new = StartStep old connection id correlation spec new
MoveStep old (rests connection id correlation) new = RestStep old connection id correlation new
MoveStep old (grants connection id credits) new = GrantStep old connection id credits new
MoveStep old (delivers connection id chunk) new = DeliverStep old connection id chunk new
MoveStep old (stores name offset) new = new ≡ record old { stored = old.stored ++ record { name = name; offset = offset } ∷ [] }
MoveStep old (leaves connection) new = new ≡ without connection old
MoveStep old forgets new = new ≡ forgotten old

-- moves one after the other
abbrev pub StreamRun : Stream → List Move → Stream → Type 0
StreamRun old [] new = new ≡ old
StreamRun old (move ∷ moves) new = (mid : Stream) × MoveStep old move mid × StreamRun mid moves new
