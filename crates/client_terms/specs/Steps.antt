-- The steps of a client.
use Rattle.std.specs.Prelude.{◌≡◌, ℕ, ◌+◌, List, [], ◌∷◌, ◌++◌, drop, Option, Some, None}
use Rattle.command_fields.specs.declared.offset.OffsetSpec.{OffsetSpec}
use Rattle.command_all.specs.declared.command.Command.{Command}
use Rattle.client_terms.specs.declared.fault.ClientFault.{ClientFault}
use Rattle.client_terms.specs.declared.terms.Wish.TheVariants.{Query, Subscribe}
use Rattle.client_terms.specs.States.{ClientState, unlinked, linked}
use Rattle.client_terms.specs.Sending.{due, frame_due, behind}
use Rattle.client_terms.specs.Hearing.{Hears, Faults}

-- What is done with a client: a message is queued; a stream, the greatest id or a subscription is wished for; a connection
-- begins or is lost; the next frame is asked for; a frame is read, or one that it faults at; an entry is taken out.
pub data Input : Type 0 where
  enqueues : List ℕ → Input
  creates : Input
  queries : Input
  subscribes : OffsetSpec → ℕ → Input
  connects : Input
  loses : Input
  sends : Input
  hears : Command → Input
  faults : Command → ClientFault → Input
  takes : Input

abbrev pub enqueued : ClientState → List ℕ → ClientState
enqueued s body = record s { queue = s.queue ++ body ∷ [] }

abbrev pub created : ClientState → ClientState
created s = record s { creates = s.creates + 1 }

abbrev pub queried : ClientState → ClientState
queried s = record s { wishes = s.wishes ++ Query ∷ [] }

abbrev pub subscribed : ClientState → OffsetSpec → ℕ → ClientState
subscribed s spec credit = record s { wishes = s.wishes ++ Subscribe ∷ []; spec = spec; credit = credit }

-- the frame that is due, and what is kept once it was sent
abbrev pub SendStep : ClientState → Option Command → ClientState → Type 0
SendStep old frame new = (frame ≡ frame_due old (due old)) × (new ≡ behind old (due old))

-- the client before and after, and the frame that it sent
abbrev pub ClientStep : ClientState → Input → Option Command → ClientState → Type 0
ClientStep old (enqueues body) frame new = (frame ≡ None) × (new ≡ enqueued old body)
ClientStep old creates frame new = (frame ≡ None) × (new ≡ created old)
ClientStep old queries frame new = (frame ≡ None) × (new ≡ queried old)
ClientStep old (subscribes spec credit) frame new = (frame ≡ None) × (new ≡ subscribed old spec credit)
ClientStep old connects frame new = (frame ≡ None) × (new ≡ linked old)
ClientStep old loses frame new = (frame ≡ None) × (new ≡ unlinked old)
ClientStep old sends frame new = SendStep old frame new
ClientStep old (hears command) frame new = (frame ≡ None) × Hears old command new
ClientStep old (faults command fault) frame new = (frame ≡ None) × Faults old command fault × (new ≡ old)
ClientStep old takes frame new = (frame ≡ None) × (new ≡ record old { received = drop 1 old.received })
