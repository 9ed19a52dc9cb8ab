-- What each frame of a server means to a client.
use Rattle.std.specs.Prelude.{◌≡◌, ℕ, ◌+◌, ◌-◌, ◌≤◌, ◌<◌, ◌⊎◌, ◌↔◌, ◌==◌, ◌&&◌, nat_lt, if◌then◌else◌, Bool, true, false, List, [], ◌∷◌, ◌++◌, length, drop, Option, Some, None}
use Rattle.std.specs.Option.{option_eq, is_none}
use Rattle.chunk_format.specs.declared.entry.Entry.{Entry}
use Rattle.chunk_format.specs.declared.entry.Entry.TheVariants.{Simple, Batch}
use Rattle.chunk_format.specs.declared.chunk.Header.{Header}
use Rattle.chunk_format.specs.declared.chunk.Chunk.{Chunk}
use Rattle.chunk_format.specs.declared.fault.ChunkFault.{ChunkFault}
use Rattle.chunk_format.specs.Chunks.{entry_records, header_bytes}
use Rattle.chunk_format.specs.ByName.{same_name}
use Rattle.chunk_format.specs.Faults.{ChunkWrong, BeginsWith}
use Rattle.command_data.specs.declared.command.DataCommand.TheVariants as data_commands
use Rattle.command_data.specs.declared.item.Refusal.{Refusal}
use Rattle.command_admin.specs.declared.command.AdminCommand.TheVariants as admin_commands
use Rattle.command_all.specs.declared.command.Command.{Command}
use Rattle.command_all.specs.declared.command.Command.TheVariants.{Data, Admin}
use Rattle.command_all.specs.Commands.{layout_of, key_of}
use Rattle.client_terms.specs.declared.fault.ClientFault.{ClientFault}
use Rattle.client_terms.specs.declared.fault.ClientFault.TheVariants as faults
use Rattle.client_terms.specs.declared.terms.Received.{Received}
use Rattle.client_terms.specs.declared.terms.Request.{Request}
use Rattle.client_terms.specs.declared.terms.Request.TheVariants as requests
use Rattle.client_terms.specs.declared.terms.Stage.{Stage}
use Rattle.client_terms.specs.declared.terms.Stage.TheVariants.{Tuning, Tuned}
use Rattle.client_terms.specs.States.{Awaited, ClientState, IsWithin, IsConfirmed, wanted_from}

-- What a frame means: the client keeps this from now on; it faults; ids are confirmed; or a chunk was delivered, by its
-- 48 bytes and its payload, and this is kept besides.
pub data Meaning : Type 0 where
  passes : ClientState → Meaning
  fails : ClientFault → Meaning
  confirms : List ℕ → Meaning
  delivers : ClientState → List ℕ → Meaning

-- nothing asked for the frame with this key
abbrev pub unexpected : ℕ → Meaning
unexpected key = fails (faults.Unexpected key)

-- ---- frames that clients know

-- an answer, by its own key; that to a query may have a number
pub record Reply : Type 0 where
  pub key : ℕ
  pub corr : ℕ
  pub code : ℕ
  pub content : Option ℕ

-- An answer; ids of a publisher that are stored, or refused; a chunk of a subscription, with the number that version 2 tells;
-- a credit for no subscription; a stream's loss; the limits that the server offers; its Close; its Heartbeat; another, by its
-- key.
pub data Frame : Type 0 where
  answer : Reply → Frame
  confirm : ℕ → List ℕ → Frame
  error : ℕ → List Refusal → Frame
  delivery : ℕ → Option ℕ → Header → List ℕ → Frame
  uncredited : ℕ → ℕ → Frame
  update : ℕ → Option (List ℕ) → Frame
  tune : ℕ → Frame
  close : ℕ → Frame
  heartbeat : Frame
  other : ℕ → Frame

abbrev pub frame_of : Command → Frame
frame_of (Data (data_commands.PublishConfirm publisher ids)) = confirm publisher ids
frame_of (Data (data_commands.PublishError publisher refusals)) = error publisher refusals
frame_of (Data (data_commands.SequenceAnswer corr code content)) = answer (record { key = 0x8005; corr = corr; code = code; content = content })
frame_of (Data (data_commands.Deliver sub header payload)) = delivery sub None header payload
frame_of (Data (data_commands.Deliver2 sub committed header payload)) = delivery sub (Some committed) header payload
frame_of (Data (data_commands.CreditFault code sub)) = uncredited code sub
frame_of (Data (data_commands.Plain key corr code)) = answer (record { key = key; corr = corr; code = code; content = None })
frame_of (Admin (admin_commands.MetadataUpdate code stream)) = update code stream
frame_of (Admin (admin_commands.PeerAnswer corr code properties)) = answer (record { key = 0x8011; corr = corr; code = code; content = None })
frame_of (Admin (admin_commands.MechanismAnswer corr code items)) = answer (record { key = 0x8012; corr = corr; code = code; content = None })
frame_of (Admin (admin_commands.SaslAnswer corr code content)) = answer (record { key = 0x8013; corr = corr; code = code; content = None })
frame_of (Admin (admin_commands.Tune frame_max beat)) = tune frame_max
frame_of (Admin (admin_commands.HostAnswer corr code properties)) = answer (record { key = 0x8015; corr = corr; code = code; content = None })
frame_of (Admin (admin_commands.Close corr code reason)) = close code
frame_of (Admin admin_commands.Heartbeat) = heartbeat
frame_of (Admin (admin_commands.VersionsAnswer corr code items)) = answer (record { key = 0x801b; corr = corr; code = code; content = None })
frame_of (Admin (admin_commands.Plain key corr code)) = answer (record { key = key; corr = corr; code = code; content = None })
frame_of command = other (layout_of (key_of command)).code

-- ---- answers

abbrev pub key_of_request : Request → ℕ
key_of_request requests.PeerProperties = 0x0011
key_of_request requests.SaslHandshake = 0x0012
key_of_request requests.SaslAuthenticate = 0x0013
key_of_request requests.OpenHost = 0x0015
key_of_request requests.ExchangeVersions = 0x001b
key_of_request requests.Create = 0x000d
key_of_request requests.DeclarePublisher = 0x0001
key_of_request requests.QueryPublisherSequence = 0x0005
key_of_request requests.Subscribe = 0x0007

-- it answers the request, by key and correlation; the key of an answer is that of the request with the highest bit set
abbrev pub is_answer : Reply → Awaited → Bool
is_answer said awaited = (said.key == 0x8000 + key_of_request awaited.request) && (said.corr == awaited.corr)

abbrev pub sequence_told : ClientState → ℕ → Option ℕ → Meaning
sequence_told s key None = unexpected key
sequence_told s key (Some id) = passes (record s { awaited = None; answer = Some id; wishes = drop 1 s.wishes })

-- what a request that went well leaves
abbrev pub granted : ClientState → Reply → Request → Meaning
granted s said requests.Create = passes (record s { awaited = None; creates = s.creates - 1 })
granted s said requests.DeclarePublisher = passes (record s { awaited = None; declared = true })
granted s said requests.Subscribe = passes (record s { awaited = None; subscribed = true; wishes = drop 1 s.wishes })
granted s said requests.QueryPublisherSequence = sequence_told s said.key said.content
granted s said requests.PeerProperties = passes (record s { awaited = None })
granted s said requests.SaslHandshake = passes (record s { awaited = None })
granted s said requests.SaslAuthenticate = passes (record s { awaited = None })
granted s said requests.OpenHost = passes (record s { awaited = None })
granted s said requests.ExchangeVersions = passes (record s { awaited = None })

abbrev pub judged : ClientState → Reply → Request → Meaning
judged s said request = if said.code == 1 then granted s said request else fails (faults.Refused (key_of_request request) said.code)

abbrev pub answered : ClientState → Reply → Option Awaited → Meaning
answered s said None = unexpected said.key
answered s said (Some awaited) = if is_answer said awaited then judged s said awaited.request else unexpected said.key

-- ---- other frames

abbrev pub is_tuning : Stage → Bool
is_tuning Tuning = true
is_tuning stage = false

-- the first Tune behind the answer to SaslAuthenticate
abbrev pub tuned : ClientState → ℕ → Meaning
tuned s frame_max = if is_tuning s.stage && is_none s.awaited then passes (record s { stage = Tuned frame_max }) else unexpected 0x0014

-- an error of the client's own publisher with items is a refusal, by the first of them
abbrev pub refused : ClientState → List Refusal → Meaning
refused s (refusal ∷ refusals) = fails (faults.Refused 0x0002 refusal.code)
refused s [] = if s.declared then passes s else unexpected 0x0004

-- the 48 bytes and the payload of a delivery, which has no trailer
abbrev pub delivered_bytes : Header → List ℕ → List ℕ
delivered_bytes header payload = header_bytes (record header { trailer_len = 0 }) ++ payload

abbrev pub told_last : Option ℕ → Option ℕ → Option ℕ
told_last (Some committed) before = Some committed
told_last None before = before

-- each delivery is answered by one credit
abbrev pub delivered : ClientState → Option ℕ → Header → List ℕ → Meaning
delivered s committed header payload = delivers (record s { credits = s.credits + 1; committed = told_last committed s.committed }) (delivered_bytes header payload)

-- what a frame means; the client's publisher and its subscription are 0
abbrev pub means : ClientState → Frame → Meaning
means s (answer said) = answered s said s.awaited
means s (confirm publisher ids) = if (publisher == 0) && s.declared then confirms ids else unexpected 0x0003
means s (error publisher refusals) = if publisher == 0 then refused s refusals else unexpected 0x0004
means s (delivery sub committed header payload) = if (sub == 0) && s.subscribed then delivered s committed header payload else unexpected 0x0008
means s (uncredited code sub) = if sub == 0 then fails (faults.Refused 0x0009 code) else unexpected 0x8009
means s (update code stream) = if option_eq same_name stream s.stream then fails (faults.StreamLost code) else unexpected 0x0010
means s (tune frame_max) = tuned s frame_max
means s (close code) = fails (faults.Closed code)
means s heartbeat = passes s
means s (other key) = unexpected key

abbrev pub meaning : ClientState → Command → Meaning
meaning s command = means s (frame_of command)

-- ---- confirms

abbrev pub IsIn : List ℕ → ℕ → Type 0
IsIn [] id = ⊥
IsIn (x ∷ xs) id = (x ≡ id) ⊎ IsIn xs id

-- The ids that were sent since the connection are confirmed too, and no others. All ids up to the confirmed one are then
-- confirmed and the next isn't, and the messages up to it leave the queue.
pub record LearnStep (old : ClientState) (ids : List ℕ) (new : ClientState) : Type 0 where
  pub adds : (id : ℕ) → IsConfirmed new id ↔ (IsConfirmed old id ⊎ (IsIn ids id × (id ≤ old.last)))
  pub above : (id : ℕ) → IsWithin new.above id → new.confirmed + 1 < id
  pub left : List (List ℕ)
  pub queued : old.queue ≡ left ++ new.queue
  pub place : new.confirmed ≡ old.confirmed + length left
  pub is : new ≡ record old { confirmed = new.confirmed; above = new.above; queue = new.queue }

-- ---- deliveries

abbrev pub compression_of : Entry → Option ℕ
compression_of (Simple body) = None
compression_of (Batch compression spare records uncompressed body) = Some compression

abbrev pub body_of : Entry → List ℕ
body_of (Simple body) = body
body_of (Batch compression spare records uncompressed body) = body

abbrev pub received_at : ℕ → Entry → Received
received_at offset entry = record { offset = offset; records = entry_records entry; compression = compression_of entry; body = body_of entry }

-- entries of which the first takes this offset first, without those that end below what is wanted; a sub-batch is whole
abbrev pub received_from : ℕ → ℕ → List Entry → List Received
received_from wanted first [] = []
received_from wanted first (entry ∷ entries) =
    if nat_lt wanted (first + entry_records entry) then received_at first entry ∷ received_from wanted (first + entry_records entry) entries
    else received_from wanted (first + entry_records entry) entries

-- the bytes are a chunk, and its entries from the subscription's offset on stand behind those received before
pub record DeliverStep (old : ClientState) (bytes : List ℕ) (new : ClientState) : Type 0 where
  pub chunk : Chunk
  pub used : ℕ
  pub begins : BeginsWith chunk used bytes
  pub is : new ≡ record old { received = old.received ++ received_from (wanted_from old.spec) chunk.first chunk.entries }

-- ---- what a frame does

abbrev pub HearsBy : ClientState → Meaning → ClientState → Type 0
HearsBy old (passes kept) new = new ≡ kept
HearsBy old (fails fault) new = ⊥
HearsBy old (confirms ids) new = LearnStep old ids new
HearsBy old (delivers kept bytes) new = DeliverStep kept bytes new

abbrev pub Hears : ClientState → Command → ClientState → Type 0
Hears old command new = HearsBy old (meaning old command) new

abbrev pub FaultsBy : Meaning → ClientFault → Type 0
FaultsBy (passes kept) fault = ⊥
FaultsBy (fails is) fault = fault ≡ is
FaultsBy (confirms ids) fault = ⊥
FaultsBy (delivers kept bytes) fault = (refused : ChunkFault) × ChunkWrong bytes refused × (fault ≡ faults.Chunk refused)

abbrev pub Faults : ClientState → Command → ClientFault → Type 0
Faults s command fault = FaultsBy (meaning s command) fault
