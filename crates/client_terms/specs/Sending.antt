-- What a client sends next.
use Rattle.std.specs.Prelude.{ℕ, ◌+◌, ◌-◌, ◌&&◌, not, nat_lt, if◌then◌else◌, Bool, true, false, List, [], ◌∷◌, ◌++◌, drop, codes, Option, Some, None}
use Rattle.chunk_format.specs.declared.entry.Entry.TheVariants.{Simple}
use Rattle.command_data.specs.declared.item.Tagged.{Tagged}
use Rattle.command_data.specs.declared.command.DataCommand.TheVariants as data_commands
use Rattle.command_admin.specs.declared.command.AdminCommand.TheVariants as admin_commands
use Rattle.command_all.specs.declared.identity.Identity.{Identity}
use Rattle.command_all.specs.declared.command.Command.{Command}
use Rattle.command_all.specs.declared.command.Command.TheVariants.{Data, Admin}
use Rattle.client_terms.specs.declared.terms.Request.{Request}
use Rattle.client_terms.specs.declared.terms.Request.TheVariants as requests
use Rattle.client_terms.specs.declared.terms.Stage.{Stage}
use Rattle.client_terms.specs.declared.terms.Stage.TheVariants.{Away, Greeting, Shaking, Proving, Tuning, Tuned, Hosting, Agreeing, Open}
use Rattle.client_terms.specs.declared.terms.Wish.{Wish}
use Rattle.client_terms.specs.declared.terms.Wish.TheVariants.{Query, Subscribe}
use Rattle.client_terms.specs.States.{Awaited, ClientState, next_corr}

abbrev pub is_empty : {X : Type 0} → List X → Bool
is_empty [] = true
is_empty (x ∷ xs) = false

-- ---- which frame is due

-- the declaration is due where a queued message isn't confirmed
abbrev pub is_undeclared : ClientState → Bool
is_undeclared s = not s.declared && not (is_empty s.queue)

abbrev pub wished : List Wish → Option Request
wished [] = None
wished (Query ∷ wishes) = Some requests.QueryPublisherSequence
wished (Subscribe ∷ wishes) = Some requests.Subscribe

-- the request of an open connection: streams to be made first, then the declaration, then the other wishes
abbrev pub open_request : ClientState → Option Request
open_request s = if nat_lt 0 s.creates then Some requests.Create else if is_undeclared s then Some requests.DeclarePublisher else wished s.wishes

-- the request that comes next by the stage
abbrev pub request_at : Stage → ClientState → Option Request
request_at Away s = None
request_at Greeting s = Some requests.PeerProperties
request_at Shaking s = Some requests.SaslHandshake
request_at Proving s = Some requests.SaslAuthenticate
request_at Tuning s = None
request_at (Tuned frame_max) s = None
request_at Hosting s = Some requests.OpenHost
request_at Agreeing s = Some requests.ExchangeVersions
request_at Open s = open_request s

-- what the client sends next: nothing before another frame comes, a credit, the answer to Tune, a request, or a message
-- under its id
pub data Next : Type 0 where
  nothing : Next
  credit : Next
  tunes : ℕ → Next
  asks : Request → Next
  publishes : ℕ → List ℕ → Next

abbrev pub message_due : ℕ → List (List ℕ) → Next
message_due id [] = nothing
message_due id (body ∷ bodies) = publishes id body

-- a declared publisher's next message, at most 256 past the confirmed one
abbrev pub publish_due : ClientState → Next
publish_due s = if s.declared && nat_lt s.last (s.confirmed + 256) then message_due (s.last + 1) (drop (s.last - s.confirmed) s.queue) else nothing

abbrev pub request_or_publish : Option Request → ClientState → Next
request_or_publish (Some request) s = asks request
request_or_publish None s = publish_due s

-- a request waits for the answer to the one before
abbrev pub request_due : Option Awaited → ClientState → Next
request_due (Some awaited) s = publish_due s
request_due None s = request_or_publish (request_at s.stage s) s

abbrev pub due_at : Stage → ClientState → Next
due_at (Tuned frame_max) s = tunes frame_max
due_at other s = request_due s.awaited s

-- a credit goes before all others
abbrev pub due : ClientState → Next
due s = if nat_lt 0 s.credits then credit else due_at s.stage s

-- ---- its frame

-- a zero byte, the user, a zero byte, the password
abbrev pub plain : Identity → List ℕ
plain identity = 0 ∷ (identity.user ++ 0 ∷ identity.password)

abbrev pub frame_of_request : ClientState → Request → ℕ → Command
frame_of_request s requests.PeerProperties corr = Admin (admin_commands.PeerProperties corr [])
frame_of_request s requests.SaslHandshake corr = Admin (admin_commands.SaslHandshake corr)
frame_of_request s requests.SaslAuthenticate corr = Admin (admin_commands.SaslAuthenticate corr (Some (codes "PLAIN")) (Some (plain s.identity)))
frame_of_request s requests.OpenHost corr = Admin (admin_commands.OpenHost corr (Some (codes "/")))
frame_of_request s requests.ExchangeVersions corr = Admin (admin_commands.ExchangeVersions corr (record { key = 0x0008; least = 1; greatest = 2 } ∷ []))
frame_of_request s requests.Create corr = Admin (admin_commands.Create corr s.stream [])
frame_of_request s requests.DeclarePublisher corr = Data (data_commands.DeclarePublisher corr 0 s.name s.stream)
frame_of_request s requests.QueryPublisherSequence corr = Data (data_commands.QueryPublisherSequence corr s.name s.stream)
frame_of_request s requests.Subscribe corr = Data (data_commands.Subscribe corr 0 s.stream s.spec s.credit None)

abbrev pub message : ℕ → List ℕ → Tagged
message id body = record { id = id; entry = Simple body }

abbrev pub frame_due : ClientState → Next → Option Command
frame_due s nothing = None
frame_due s credit = Some (Data (data_commands.Credit 0 1))
frame_due s (tunes frame_max) = Some (Admin (admin_commands.TuneAnswer frame_max 0))
frame_due s (asks request) = Some (frame_of_request s request (next_corr s.corr))
frame_due s (publishes id body) = Some (Data (data_commands.Publish 0 (message id body ∷ [])))

-- ---- what is kept once it was sent

abbrev pub stage_behind : Request → Stage → Stage
stage_behind requests.PeerProperties stage = Shaking
stage_behind requests.SaslHandshake stage = Proving
stage_behind requests.SaslAuthenticate stage = Tuning
stage_behind requests.OpenHost stage = Agreeing
stage_behind requests.ExchangeVersions stage = Open
stage_behind requests.Create stage = stage
stage_behind requests.DeclarePublisher stage = stage
stage_behind requests.QueryPublisherSequence stage = stage
stage_behind requests.Subscribe stage = stage

abbrev pub behind : ClientState → Next → ClientState
behind s nothing = s
behind s credit = record s { credits = s.credits - 1 }
behind s (tunes frame_max) = record s { stage = Hosting }
behind s (asks request) = record s { stage = stage_behind request s.stage; corr = next_corr s.corr; awaited = Some (record { request = request; corr = next_corr s.corr }) }
behind s (publishes id body) = record s { last = id }
