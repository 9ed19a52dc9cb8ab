-- Which commands a session's replies are, and their bytes.
use Rattle.std.specs.Prelude.{◌≡◌, ◌≤◌, ◌<◌, ◌^◌, ◌==◌, ℕ, ℤ, pos, negsuc, nat_lt, List, [], ◌∷◌, ◌++◌, length, map, All, codes, Option, Some, None, if◌then◌else◌}
use Rattle.std.specs.Fmt.{decimal}
use Rattle.command_fields.specs.Codes.{number_of_code}
use Rattle.command_fields.specs.declared.property.Property.{Property}
use Rattle.command_fields.specs.declared.response.ResponseCode.{ResponseCode}
use Rattle.command_fields.specs.declared.response.ResponseCode.TheVariants as code
use Rattle.command_data.specs.declared.command.DataCommand.TheVariants as of_data
use Rattle.command_data.specs.declared.item.Refusal.{Refusal}
use Rattle.command_data.specs.declared.item.Tagged.{Tagged}
use Rattle.command_admin.specs.declared.command.AdminCommand.TheVariants as of_admin
use Rattle.command_admin.specs.declared.item.Broker.{Broker}
use Rattle.command_admin.specs.declared.item.KeyVersions.{KeyVersions}
use Rattle.command_admin.specs.declared.item.Statistic.{Statistic}
use Rattle.command_admin.specs.declared.item.StreamMetadata.{StreamMetadata}
use Rattle.command_all.specs.declared.command.Command.{Command}
use Rattle.command_all.specs.declared.command.Command.TheVariants.{Data, Admin}
use Rattle.command_all.specs.declared.identity.Identity.{Identity}
use Rattle.command_all.specs.Commands.{frame_of, Spells}
use Rattle.command_all.specs.Fitting.{IsTold}
use Rattle.session_tables.specs.declared.reply.Reply.{Reply}
use Rattle.session_tables.specs.declared.reply.Reply.TheVariants as say
use Rattle.session_tables.specs.declared.reply.Request.{Request}
use Rattle.session_tables.specs.declared.reply.Request.TheVariants as request

-- ---- what stands in the answers

-- why the server closes a connection
abbrev pub reason_of : ResponseCode → List ℕ
reason_of code.UnknownFrame = codes "unknown frame"
reason_of code.FrameTooLarge = codes "frame too large"
reason_of other = []

abbrev pub property : List ℕ → List ℕ → Property
property key value = record { key = Some key; value = Some value }

-- what the server is
abbrev pub product : List Property
product = property (codes "product") (codes "streamd") ∷ property (codes "version") (codes "1") ∷ []

-- where it is
abbrev pub place_of : Identity → List Property
place_of who = record { key = Some (codes "advertised_host"); value = who.host } ∷ property (codes "advertised_port") (decimal who.port) ∷ []

-- the one broker
abbrev pub broker_of : Identity → Broker
broker_of who = record { reference = 0; host = who.host; port = who.port }

abbrev pub refusal_of : ResponseCode → Tagged → Refusal
refusal_of response item = record { id = item.id; code = number_of_code response }

-- Each command in its first version, and a delivery in its second one too.
abbrev pub greatest_of : ℕ → ℕ
greatest_of key = if key == 0x0008 then 2 else 1

abbrev pub version_of : ℕ → KeyVersions
version_of key = record { key = key; least = 1; greatest = greatest_of key }

-- the keys of the requests
abbrev pub all_keys : List ℕ
all_keys = 1 ∷ 2 ∷ 3 ∷ 4 ∷ 5 ∷ 6 ∷ 7 ∷ 8 ∷ 9 ∷ 10 ∷ 11 ∷ 12 ∷ 13 ∷ 14 ∷ 15 ∷ 16 ∷ 17 ∷ 18 ∷ 19 ∷ 20 ∷ 21 ∷ 22 ∷ 23 ∷ 24 ∷ 25 ∷ 26 ∷ 27 ∷ 28 ∷ 29 ∷ 30 ∷ []

-- an offset as a number of eight bytes with a sign, at most the greatest
abbrev pub number_at : ℕ → ℤ
number_at n = pos (if nat_lt 9223372036854775807 n then 9223372036854775807 else n)

abbrev pub statistic : List ℕ → ℤ → Statistic
statistic name value = record { name = Some name; value = value }

abbrev pub numbers : ℤ → ℤ → List Statistic
numbers first committed = statistic (codes "first_chunk_id") first ∷ statistic (codes "committed_chunk_id") committed ∷ []

-- -1 twice where nothing is committed
abbrev pub numbers_of : Option ℕ → List Statistic
numbers_of None = numbers (negsuc 0) (negsuc 0)
numbers_of (Some last) = numbers (pos 0) (number_at last)

-- ---- the commands

-- the answer of a code alone
abbrev pub plain : Request → ℕ → ResponseCode → Command
plain request.DeclarePublisher corr response = Data (of_data.Plain 0x8001 corr (number_of_code response))
plain request.DeletePublisher corr response = Data (of_data.Plain 0x8006 corr (number_of_code response))
plain request.Subscribe corr response = Data (of_data.Plain 0x8007 corr (number_of_code response))
plain request.Unsubscribe corr response = Data (of_data.Plain 0x800c corr (number_of_code response))
plain request.Create corr response = Admin (of_admin.Plain 0x800d corr (number_of_code response))
plain request.Delete corr response = Admin (of_admin.Plain 0x800e corr (number_of_code response))
plain request.CreateSuper corr response = Admin (of_admin.Plain 0x801d corr (number_of_code response))
plain request.DeleteSuper corr response = Admin (of_admin.Plain 0x801e corr (number_of_code response))
plain request.Close corr response = Admin (of_admin.Plain 0x8016 corr (number_of_code response))

-- The answer to SaslAuthenticate has no content. Who is let in is offered the server's limits.
abbrev pub sasl : ℕ → ResponseCode → Command
sasl corr response = Admin (of_admin.SaslAnswer corr (number_of_code response) None)

abbrev pub tune : Command
tune = Admin (of_admin.Tune 1048576 60)

abbrev pub commands_of : Identity → Reply → List Command
commands_of who say.Heartbeat = Admin of_admin.Heartbeat ∷ []
commands_of who (say.Close corr response) = Admin (of_admin.Close corr (number_of_code response) (Some (reason_of response))) ∷ []
commands_of who (say.Answer asked corr response) = plain asked corr response ∷ []
commands_of who (say.Peer corr) = Admin (of_admin.PeerAnswer corr 1 (Some product)) ∷ []
commands_of who (say.Mechanisms corr) = Admin (of_admin.MechanismAnswer corr 1 (Some (Some (codes "PLAIN") ∷ []))) ∷ []
commands_of who (say.Sasl corr response) = sasl corr response ∷ []
commands_of who (say.Welcome corr) = sasl corr code.Ok ∷ tune ∷ []
commands_of who (say.Host corr) = Admin (of_admin.HostAnswer corr 1 (Some (place_of who))) ∷ []
commands_of who (say.NoHost corr) = Admin (of_admin.HostAnswer corr 12 (Some [])) ∷ []
commands_of who (say.PublishError id items response) = Data (of_data.PublishError id (map (refusal_of response) items)) ∷ []
commands_of who (say.Sequence corr response id) = Data (of_data.SequenceAnswer corr (number_of_code response) (Some id)) ∷ []
commands_of who (say.CreditFault id) = Data (of_data.CreditFault 4 id) ∷ []
commands_of who (say.Offset corr response offset) = Data (of_data.OffsetAnswer corr (number_of_code response) (Some offset)) ∷ []
commands_of who (say.Metadata corr streams) = Admin (of_admin.MetadataAnswer corr (broker_of who ∷ []) streams) ∷ []
commands_of who (say.Routes corr response names) = Admin (of_admin.RouteAnswer corr (number_of_code response) (Some names)) ∷ []
commands_of who (say.Partitions corr response names) = Admin (of_admin.PartitionsAnswer corr (number_of_code response) (Some names)) ∷ []
commands_of who (say.Versions corr) = Admin (of_admin.VersionsAnswer corr 1 (Some (map version_of all_keys))) ∷ []
commands_of who (say.Stats corr last) = Admin (of_admin.StatsAnswer corr 1 (Some (numbers_of last))) ∷ []
commands_of who (say.NoStats corr) = Admin (of_admin.StatsAnswer corr 2 (Some [])) ∷ []

-- ---- their frames

abbrev pub joined : List Command → List ℕ
joined [] = []
joined (c ∷ []) = frame_of c
joined (c ∷ d ∷ cs) = frame_of c ++ joined (d ∷ cs)

abbrev pub frames_of : Identity → Reply → List ℕ
frames_of who reply = joined (commands_of who reply)

abbrev pub some_frames : Identity → Option Reply → List ℕ
some_frames who None = []
some_frames who (Some reply) = frames_of who reply

-- one reply after another
abbrev pub all_frames : Identity → List Reply → List ℕ
all_frames who [] = []
all_frames who (reply ∷ replies) = frames_of who reply ++ all_frames who replies

-- ---- which replies have a spelling

-- what is told of the streams that one frame asked for
pub record WereAsked (told : List StreamMetadata) : Type 0 where
  pub corr : ℕ
  pub asked : List (Option (List ℕ))
  pub body : List ℕ
  pub spells : Spells (Admin (of_admin.Metadata corr asked)) body
  pub short : length body ≤ 1048576
  pub same : map (λ t. t.stream) told ≡ asked
  pub each : All IsTold told

-- Of the lists in replies the items are few; all else has its range by its type.
abbrev pub IsSayable : Reply → Type 0
IsSayable (say.PublishError id items response) = length items ≤ 1048576
IsSayable (say.Metadata corr streams) = WereAsked streams
IsSayable (say.Routes corr response names) = length names ≤ 65535
IsSayable (say.Partitions corr response names) = length names ≤ 65535
IsSayable other = Unit {0}
