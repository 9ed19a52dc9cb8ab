-- What a command does when it is handled, and how it is answered.
use Rattle.std.specs.Prelude.{◌≡◌, ℕ, ◌+◌, ◌==◌, ◌&&◌, ◌≤◌, nat_le, if◌then◌else◌, Bool, false, List, [], ◌∷◌, ◌++◌, length, map, codes, Option, Some, None, unwrap_or, ◌⊎◌}
use Rattle.std.specs.List.{AllByRecursion, list_any}
use Rattle.chunk_format.specs.declared.chunk.Chunk.{Chunk}
use Rattle.chunk_format.specs.Logs.{same_name, Greatest, LastStored}
use Rattle.command_fields.specs.declared.property.Property.{Property}
use Rattle.command_fields.specs.declared.offset.OffsetSpec.{OffsetSpec}
use Rattle.command_fields.specs.declared.offset.OffsetSpec.TheVariants.{Unset}
use Rattle.command_fields.specs.declared.response.ResponseCode.{ResponseCode}
use Rattle.command_fields.specs.declared.response.ResponseCode.TheVariants as says
use Rattle.command_fields.specs.Codes.{number_of_code}
use Rattle.command_data.specs.declared.item.Tagged.{Tagged}
use Rattle.command_data.specs.declared.item.Refusal.{Refusal}
use Rattle.command_data.specs.declared.command.DataCommand.TheVariants as data_commands
use Rattle.command_admin.specs.declared.item.KeyVersions.{KeyVersions}
use Rattle.command_admin.specs.declared.command.AdminCommand.TheVariants as admin_commands
use Rattle.command_all.specs.declared.command.Command.{Command}
use Rattle.command_all.specs.declared.command.Command.TheVariants.{Data, Admin}
use Rattle.command_all.specs.Reading.{ReadingEnd, Partial, Unspelt, TooLarge}
use Rattle.script_text.specs.declared.output.Ending.{Ending}
use Rattle.script_text.specs.declared.output.Ending.TheVariants.{ClosedByPeer, ClosedByUs}
use Rattle.list_machine.specs.Streams.{Activity, starting, stopping, Subscription}
use Rattle.list_machine.specs.Moves.{Move, declares, undeclares, publishes, refuses, subscribes, unsubscribes, starts, rests, grants, stores}
use Rattle.list_machine.specs.Machines.{open_now, leaving, Connection, Change, adds, drops, Machine, Moves, nowhere, only, changed, last_behind, IsNamed, IsMissing, AreNew, IsPartition, ArePartitions, IsUndeclared, IsUnsubscribed}
use Rattle.list_machine.specs.Lines.{linked}

-- What a command may do at a stream, as the moves of these names: it commits, confirms and delivers nothing.
pub data Act : Type 0 where
  declare : ℕ → ℕ → Option (List ℕ) → Act
  undeclare : ℕ → ℕ → Act
  publish : ℕ → ℕ → List Tagged → Act
  refuse : ℕ → ℕ → Act
  subscribe : ℕ → ℕ → Option (List ℕ) → OffsetSpec → ℕ → Act
  unsubscribe : ℕ → ℕ → Act
  start : ℕ → ℕ → ℕ → OffsetSpec → Act
  rest : ℕ → ℕ → ℕ → Act
  grant : ℕ → ℕ → ℕ → Act
  store : List ℕ → ℕ → Act

abbrev pub move_of : Act → Move
move_of (declare connection id name) = declares connection id name
move_of (undeclare connection id) = undeclares connection id
move_of (publish connection id items) = publishes connection id items
move_of (refuse connection id) = refuses connection id
move_of (subscribe connection id group spec credits) = subscribes connection id group spec credits
move_of (unsubscribe connection id) = unsubscribes connection id
move_of (start connection id correlation spec) = starts connection id correlation spec
move_of (rest connection id correlation) = rests connection id correlation
move_of (grant connection id credits) = grants connection id credits
move_of (store name offset) = stores name offset

-- What handling does: nothing but the answer; an act at one stream; a change of the streams; one of which it isn't known
-- whether it happened; another version of Deliver; or the connection's end.
pub data Outcome : Type 0 where
  nothing : Outcome
  acts : ℕ → Act → Outcome
  changes : Change → Outcome
  doubts : Change → Outcome
  agrees : ℕ → Outcome
  closes : Ending → Outcome

-- ---- answers of a code alone

abbrev pub data_says : ℕ → ℕ → ResponseCode → Option Command
data_says key corr code = Some (Data (data_commands.Plain key corr (number_of_code code)))

abbrev pub admin_says : ℕ → ℕ → ResponseCode → Option Command
admin_says key corr code = Some (Admin (admin_commands.Plain key corr (number_of_code code)))

-- ---- publishers

-- a null or empty reference is no name
abbrev pub name_of : Option (List ℕ) → Option (List ℕ)
name_of None = None
name_of (Some []) = None
name_of (Some (byte ∷ bytes)) = Some (byte ∷ bytes)

-- by the code of the answer: declared on the live stream of the name, under an id that wasn't; or not
abbrev pub Declares : Machine → ℕ → ℕ → Option (List ℕ) → Option (List ℕ) → ResponseCode → Outcome → Type 0
Declares old connection id reference stream says.Ok outcome =
    (number : ℕ) × IsNamed old stream number × IsUndeclared old connection id × (outcome ≡ acts number (declare connection id (name_of reference)))
Declares old connection id reference stream says.StreamDoesNotExist outcome = IsMissing old stream × (outcome ≡ nothing)
Declares old connection id reference stream other outcome = outcome ≡ nothing

-- the same code for each id, in order
abbrev pub refusals : ℕ → List Tagged → List Refusal
refusals code items = map (λ (x : Tagged). record { id = x.id; code = code }) items

-- A Publish frame without items does nothing. Else it is taken, and its confirm comes later; or it is refused whole; or
-- its publisher isn't declared.
pub data Publishes (old : Machine) (connection id : ℕ) (items : List Tagged) (answer : Option Command) (outcome : Outcome) : Type 0 where
  Empty : items ≡ [] → answer ≡ None → outcome ≡ nothing → Publishes old connection id items answer outcome
  Taken : (number : ℕ) → 1 ≤ length items → answer ≡ None → outcome ≡ acts number (publish connection id items) → Publishes old connection id items answer outcome
  Refused : (number : ℕ) (code : ResponseCode) → 1 ≤ length items → answer ≡ Some (Data (data_commands.PublishError id (refusals (number_of_code code) items)))
      → outcome ≡ acts number (refuse connection id) → Publishes old connection id items answer outcome
  Undeclared : 1 ≤ length items → IsUndeclared old connection id → answer ≡ Some (Data (data_commands.PublishError id (refusals (number_of_code says.PublisherDoesNotExist) items)))
      → outcome ≡ nothing → Publishes old connection id items answer outcome

-- the greatest id of a name, if there is a name
abbrev pub greatest_of : Option (List ℕ) → List Chunk → Option ℕ
greatest_of None chunks = None
greatest_of (Some name) chunks = Greatest name chunks

-- Sequence: the greatest id of the name in the list as seen, or 0
abbrev pub IsSequence : Machine → Option (List ℕ) → Option (List ℕ) → ResponseCode → ℕ → Type 0
IsSequence old reference stream says.Ok id = (number : ℕ) × IsNamed old stream number × (id ≡ unwrap_or (greatest_of (name_of reference) (old.streams number).seen) 0)
IsSequence old reference stream says.StreamDoesNotExist id = IsMissing old stream × (id ≡ 0)
IsSequence old reference stream other id = ⊥

abbrev pub Undeclares : Machine → ℕ → ℕ → ResponseCode → Outcome → Type 0
Undeclares old connection id says.Ok outcome = (number : ℕ) × (outcome ≡ acts number (undeclare connection id))
Undeclares old connection id says.PublisherDoesNotExist outcome = IsUndeclared old connection id × (outcome ≡ nothing)
Undeclares old connection id other outcome = ⊥

-- ---- subscriptions

-- a text is these bytes
abbrev pub is_text : List ℕ → Option (List ℕ) → Bool
is_text bytes None = false
is_text bytes (Some other) = same_name bytes other

-- the value of the first property with this key
abbrev pub property_of : List ℕ → List Property → Option (List ℕ)
property_of key [] = None
property_of key (p ∷ properties) = if is_text key p.key then p.value else property_of key properties

-- a single active consumer is one of the group of its name
abbrev pub group_of : Option (List Property) → Option (List ℕ)
group_of None = None
group_of (Some properties) = if is_text (codes "true") (property_of (codes "single-active-consumer") properties) then property_of (codes "name") properties else None

abbrev pub Subscribes : Machine → ℕ → ℕ → Option (List ℕ) → OffsetSpec → ℕ → Option (List Property) → ResponseCode → Outcome → Type 0
Subscribes old connection id stream spec credit properties says.Ok outcome =
    (number : ℕ) × IsNamed old stream number × IsUnsubscribed old connection id × (outcome ≡ acts number (subscribe connection id (group_of properties) spec credit))
Subscribes old connection id stream spec credit properties says.StreamDoesNotExist outcome = IsMissing old stream × (outcome ≡ nothing)
Subscribes old connection id stream spec credit properties other outcome = outcome ≡ nothing

-- credits for a subscription, or a fault where there is none
pub data Credits (old : Machine) (connection id credit : ℕ) (answer : Option Command) (outcome : Outcome) : Type 0 where
  Granted : (number : ℕ) → answer ≡ None → outcome ≡ acts number (grant connection id credit) → Credits old connection id credit answer outcome
  Unknown : IsUnsubscribed old connection id → answer ≡ Some (Data (data_commands.CreditFault (number_of_code says.SubscriptionIdDoesNotExist) id)) → outcome ≡ nothing
      → Credits old connection id credit answer outcome

abbrev pub Unsubscribes : Machine → ℕ → ℕ → ResponseCode → Outcome → Type 0
Unsubscribes old connection id says.Ok outcome = (number : ℕ) × (outcome ≡ acts number (unsubscribe connection id))
Unsubscribes old connection id says.SubscriptionIdDoesNotExist outcome = IsUnsubscribed old connection id × (outcome ≡ nothing)
Unsubscribes old connection id other outcome = ⊥

-- where an answer says nothing the consumer goes on at the end
abbrev pub spec_of : Option OffsetSpec → OffsetSpec
spec_of None = Unset
spec_of (Some spec) = spec

-- it was asked to be active or to stop, under this correlation
abbrev pub IsAsked : ℕ → Activity → Type 0
IsAsked corr activity = (activity ≡ starting corr) ⊎ (activity ≡ stopping corr)

-- no consumer of the connection was asked under this correlation
abbrev pub IsUnasked : Machine → ℕ → ℕ → Type 0
IsUnasked old connection corr =
    (number : ℕ) → AllByRecursion (λ (s : Subscription). s.connection ≡ connection → IsAsked corr s.activity → ⊥) (old.streams number).subscriptions

-- a consumer answers the question of this correlation, or nobody was asked
pub data Replies (old : Machine) (connection corr : ℕ) (content : Option OffsetSpec) (outcome : Outcome) : Type 0 where
  Starts : (number id : ℕ) → outcome ≡ acts number (start connection id corr (spec_of content)) → Replies old connection corr content outcome
  Rests : (number id : ℕ) → outcome ≡ acts number (rest connection id corr) → Replies old connection corr content outcome
  Unasked : IsUnasked old connection corr → outcome ≡ nothing → Replies old connection corr content outcome

-- ---- stored offsets

-- the offset is sent to the live stream of the name, under a reference that is a name; or it is dropped
pub data Stores (old : Machine) (reference stream : Option (List ℕ)) (offset : ℕ) (outcome : Outcome) : Type 0 where
  Kept : (number : ℕ) (name : List ℕ) → IsNamed old stream number → name_of reference ≡ Some name → outcome ≡ acts number (store name offset) → Stores old reference stream offset outcome
  Dropped : outcome ≡ nothing → Stores old reference stream offset outcome

-- Offset: the last stored offset of the name in the list as seen
abbrev pub IsOffset : Machine → Option (List ℕ) → Option (List ℕ) → ResponseCode → ℕ → Type 0
IsOffset old reference stream says.Ok offset =
    (number : ℕ) × (name : List ℕ) × IsNamed old stream number × (reference ≡ Some name) × (LastStored name (old.streams number).seen ≡ Some offset)
IsOffset old reference stream says.NoOffset offset =
    (number : ℕ) × IsNamed old stream number × ((name : List ℕ) → reference ≡ Some name → LastStored name (old.streams number).seen ≡ None) × (offset ≡ 0)
IsOffset old reference stream says.StreamDoesNotExist offset = IsMissing old stream × (offset ≡ 0)
IsOffset old reference stream other offset = ⊥

-- ---- changes of the streams

-- no stream is made or ends
abbrev pub no_change : Change
no_change = drops []

-- By the code of the answer: the change happened; after an internal error it isn't known whether; else it didn't.
abbrev pub Changes : ResponseCode → Change → Outcome → Type 0
Changes says.Ok change outcome = outcome ≡ changes change
Changes says.InternalError change outcome = outcome ≡ doubts change
Changes other change outcome = outcome ≡ changes no_change

-- where the change happened
abbrev pub IfDone : ResponseCode → Type 0 → Type 0
IfDone says.Ok Condition = Condition
IfDone other Condition = Unit {0}

-- names of new streams are free
abbrev pub Creates : Machine → Option (List ℕ) → List (Option (List ℕ)) → ResponseCode → Outcome → Type 0
Creates old super texts code outcome = IfDone code (AreNew old texts) × Changes code (adds super texts) outcome

-- the live stream of the name ends
abbrev pub Deletes : Machine → Option (List ℕ) → ResponseCode → Outcome → Type 0
Deletes old stream code outcome =
    (numbers : List ℕ) × AllByRecursion (IsNamed old stream) numbers × IfDone code (length numbers ≡ 1) × Changes code (drops numbers) outcome

-- the partitions of the super stream of the name end
abbrev pub DeletesSuper : Machine → Option (List ℕ) → ResponseCode → Outcome → Type 0
DeletesSuper old name code outcome =
    (super : List ℕ) × (numbers : List ℕ) × AllByRecursion (IsPartition old super) numbers × IfDone code ((name ≡ Some super) × ArePartitions old super numbers) × Changes code (drops numbers) outcome

-- ---- versions, and the end

-- version 2 of Deliver, where the peer takes it
abbrev pub takes_two : KeyVersions → Bool
takes_two v = (v.key == 0x0008) && nat_le v.least 2 && nat_le 2 v.greatest

abbrev pub version_of : List KeyVersions → ℕ
version_of items = if list_any takes_two items then 2 else 1

-- a peer that isn't let in is let go
abbrev pub Authenticates : ResponseCode → Outcome → Type 0
Authenticates says.AuthenticationFailure outcome = outcome ≡ closes (ClosedByUs (number_of_code says.AuthenticationFailure))
Authenticates says.SaslError outcome = outcome ≡ closes (ClosedByUs (number_of_code says.SaslError))
Authenticates other outcome = outcome ≡ nothing

-- the server's own requests count from 1 on each connection
abbrev pub next_asked : Machine → ℕ → ℕ
next_asked old connection = (old.connections connection).asked + 1

-- ---- the table: a command of a connection, its answer if it has one now, and what it does

abbrev pub Answers : Machine → ℕ → Command → Option Command → Outcome → Type 0
Answers old c (Data (data_commands.DeclarePublisher corr id reference stream)) answer outcome =
    (code : ResponseCode) × (answer ≡ data_says 0x8001 corr code) × Declares old c id reference stream code outcome
Answers old c (Data (data_commands.Publish id items)) answer outcome = Publishes old c id items answer outcome
Answers old c (Data (data_commands.QueryPublisherSequence corr reference stream)) answer outcome =
    (code : ResponseCode) × (id : ℕ) × (answer ≡ Some (Data (data_commands.SequenceAnswer corr (number_of_code code) (Some id)))) × IsSequence old reference stream code id × (outcome ≡ nothing)
Answers old c (Data (data_commands.DeletePublisher corr id)) answer outcome = (code : ResponseCode) × (answer ≡ data_says 0x8006 corr code) × Undeclares old c id code outcome
Answers old c (Data (data_commands.Subscribe corr id stream spec credit properties)) answer outcome =
    (code : ResponseCode) × (answer ≡ data_says 0x8007 corr code) × Subscribes old c id stream spec credit properties code outcome
Answers old c (Data (data_commands.Credit id credit)) answer outcome = Credits old c id credit answer outcome
Answers old c (Data (data_commands.StoreOffset reference stream offset)) answer outcome = (answer ≡ None) × Stores old reference stream offset outcome
Answers old c (Data (data_commands.QueryOffset corr reference stream)) answer outcome =
    (code : ResponseCode) × (offset : ℕ) × (answer ≡ Some (Data (data_commands.OffsetAnswer corr (number_of_code code) (Some offset)))) × IsOffset old reference stream code offset × (outcome ≡ nothing)
Answers old c (Data (data_commands.Unsubscribe corr id)) answer outcome = (code : ResponseCode) × (answer ≡ data_says 0x800c corr code) × Unsubscribes old c id code outcome
Answers old c (Data other) answer outcome = ⊥
Answers old c (Admin (admin_commands.Create corr stream properties)) answer outcome = (code : ResponseCode) × (answer ≡ admin_says 0x800d corr code) × Creates old None (stream ∷ []) code outcome
Answers old c (Admin (admin_commands.Delete corr stream)) answer outcome = (code : ResponseCode) × (answer ≡ admin_says 0x800e corr code) × Deletes old stream code outcome
Answers old c (Admin (admin_commands.CreateSuper corr name partitions keys properties)) answer outcome =
    (code : ResponseCode) × (answer ≡ admin_says 0x801d corr code) × Creates old name partitions code outcome
Answers old c (Admin (admin_commands.DeleteSuper corr name)) answer outcome = (code : ResponseCode) × (answer ≡ admin_says 0x801e corr code) × DeletesSuper old name code outcome
Answers old c (Admin (admin_commands.UpdateAnswer corr code content)) answer outcome = (answer ≡ None) × Replies old c corr content outcome
Answers old c (Admin (admin_commands.ExchangeVersions corr items)) answer outcome =
    (code : ℕ) × (versions : Option (List KeyVersions)) × (answer ≡ Some (Admin (admin_commands.VersionsAnswer corr code versions))) × (outcome ≡ agrees (version_of items))
Answers old c (Admin (admin_commands.Metadata corr names)) answer outcome =
    (brokers : _) × (streams : _) × (answer ≡ Some (Admin (admin_commands.MetadataAnswer corr brokers streams))) × (outcome ≡ nothing)
Answers old c (Admin (admin_commands.Route corr key super)) answer outcome =
    (code : ℕ) × (names : Option (List (Option (List ℕ)))) × (answer ≡ Some (Admin (admin_commands.RouteAnswer corr code names))) × (outcome ≡ nothing)
Answers old c (Admin (admin_commands.Partitions corr super)) answer outcome =
    (code : ℕ) × (names : Option (List (Option (List ℕ)))) × (answer ≡ Some (Admin (admin_commands.PartitionsAnswer corr code names))) × (outcome ≡ nothing)
Answers old c (Admin (admin_commands.StreamStats corr stream)) answer outcome =
    (code : ℕ) × (statistics : _) × (answer ≡ Some (Admin (admin_commands.StatsAnswer corr code statistics))) × (outcome ≡ nothing)
Answers old c (Admin (admin_commands.PeerProperties corr properties)) answer outcome =
    (code : ℕ) × (own : Option (List Property)) × (answer ≡ Some (Admin (admin_commands.PeerAnswer corr code own))) × (outcome ≡ nothing)
Answers old c (Admin (admin_commands.SaslHandshake corr)) answer outcome =
    (code : ℕ) × (names : Option (List (Option (List ℕ)))) × (answer ≡ Some (Admin (admin_commands.MechanismAnswer corr code names))) × (outcome ≡ nothing)
Answers old c (Admin (admin_commands.SaslAuthenticate corr mechanism opaque)) answer outcome =
    (code : ResponseCode) × (content : Option (Option (List ℕ))) × (answer ≡ Some (Admin (admin_commands.SaslAnswer corr (number_of_code code) content))) × Authenticates code outcome
Answers old c (Admin (admin_commands.TuneAnswer frame heartbeat)) answer outcome = (answer ≡ None) × (outcome ≡ nothing)
Answers old c (Admin (admin_commands.OpenHost corr host)) answer outcome =
    (code : ℕ) × (properties : Option (List Property)) × (answer ≡ Some (Admin (admin_commands.HostAnswer corr code properties))) × (outcome ≡ nothing)
Answers old c (Admin admin_commands.Heartbeat) answer outcome = (answer ≡ None) × (outcome ≡ nothing)
Answers old c (Admin (admin_commands.Close corr code reason)) answer outcome = (answer ≡ admin_says 0x8016 corr says.Ok) × (outcome ≡ closes ClosedByPeer)
Answers old c (Admin other) answer outcome = ⊥

-- The connection is closed with a code, by the server's next request.
abbrev pub ClosesBy : Machine → ℕ → ResponseCode → Option Command → Type 0
ClosesBy old c code answer = (reason : Option (List ℕ)) × (answer ≡ Some (Admin (admin_commands.Close (next_asked old c) (number_of_code code) reason)))

-- A command is answered by the table; or it is one that the connection's state doesn't take.
pub data Handles (old : Machine) (c : ℕ) (command : Command) (answer : Option Command) (outcome : Outcome) : Type 0 where
  Served : Answers old c command answer outcome → Handles old c command answer outcome
  Untaken : ClosesBy old c says.UnknownFrame answer → outcome ≡ closes (ClosedByUs (number_of_code says.UnknownFrame)) → Handles old c command answer outcome

-- ---- the step

abbrev pub moves_by : Machine → Outcome → Moves
moves_by old nothing = nowhere
moves_by old (acts number act) = only number (move_of act ∷ [])
moves_by old (changes change) = changed old.last change
moves_by old (doubts change) = nowhere
moves_by old (agrees version) = nowhere
moves_by old (closes how) = nowhere

-- the connection, once an answer was fixed
abbrev pub owing : List Command → Option Command → Connection → Connection
owing later None k = record k { inbox = later }
owing later (Some answer) k = record k { inbox = later; owed = k.owed ++ answer ∷ [] }

abbrev pub after_by : Machine → ℕ → Connection → Outcome → Machine
after_by old c k nothing = linked c k old
after_by old c k (acts number act) = linked c k old
after_by old c k (changes change) = record (linked c k old) { last = last_behind old.last change; unsure = [] }
after_by old c k (doubts change) = record (linked c k old) { unsure = old.unsure ++ change ∷ [] }
after_by old c k (agrees version) = linked c (record k { version = version }) old
after_by old c k (closes how) = linked c (record k { phase = leaving how; inbox = [] }) old

-- The first command that an open connection read and that isn't handled takes effect, and its answer is fixed.
pub record HandleStep (old : Machine) (c : ℕ) (command : Command) (answer : Option Command) (moves : Moves) (after : Machine) : Type 0 where
  pub is_open : (old.connections c).phase ≡ open_now
  pub later : List Command
  pub is_first : (old.connections c).inbox ≡ command ∷ later
  pub outcome : Outcome
  pub handles : Handles old c command answer outcome
  pub moves_are : moves ≡ moves_by old outcome
  pub after_is : after ≡ after_by old c (owing later answer (old.connections c)) outcome

-- what a frame that can't be read is answered by
abbrev pub IsMisread : ReadingEnd → ResponseCode → Type 0
IsMisread Partial code = ⊥
IsMisread (Unspelt fault) code = code ≡ says.UnknownFrame
IsMisread (TooLarge size) code = code ≡ says.FrameTooLarge

-- Behind the commands stands a frame that no command spells, or one too large: the connection is closed.
pub record MisreadStep (old : Machine) (c : ℕ) (answer : Command) (moves : Moves) (after : Machine) : Type 0 where
  pub is_open : (old.connections c).phase ≡ open_now
  pub is_last : (old.connections c).inbox ≡ []
  pub code : ResponseCode
  pub misread : IsMisread (old.connections c).cut code
  pub answer_is : ClosesBy old c code (Some answer)
  pub moves_are : moves ≡ nowhere
  pub after_is : after ≡ after_by old c (owing [] (Some answer) (old.connections c)) (closes (ClosedByUs (number_of_code code)))
