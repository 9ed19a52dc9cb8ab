-- Commands that fit a frame whatever their items are, for who writes answers.
use Rattle.std.specs.Prelude.{◌≡◌, ◌<◌, ◌≤◌, ◌^◌, ◌+◌, ◌*◌, ℕ, List, [], ◌∷◌, length, map, All, Option, Some}
use Rattle.frame_wire.specs.Fields.{IsText}
use Rattle.command_fields.specs.Tables.{FitsIn}
use Rattle.command_data.specs.declared.command.DataCommand.TheVariants.{PublishConfirm, PublishError}
use Rattle.command_data.specs.declared.item.Refusal.{Refusal}
use Rattle.command_admin.specs.declared.command.AdminCommand.TheVariants.{Metadata, MetadataAnswer, MechanismAnswer, RouteAnswer, PartitionsAnswer}
use Rattle.command_admin.specs.declared.item.Broker.{Broker}
use Rattle.command_admin.specs.declared.item.StreamMetadata.{StreamMetadata}
use Rattle.command_all.specs.declared.command.Command.{Command}
use Rattle.command_all.specs.declared.command.Command.TheVariants.{Data, Admin}
use Rattle.command_all.specs.Commands.{command_table, Spells}

abbrev pub Fits : Command → Type 0
Fits c = FitsIn command_table c

abbrev pub IsId : ℕ → Type 0
IsId id = id < 2 ^ 64

abbrev pub IsRefusal : Refusal → Type 0
IsRefusal refusal = (refusal.id < 2 ^ 64) × (refusal.code < 2 ^ 16)

-- confirms and errors of as many ids as a frame holds
pub record IdsFit : Type 0 where
  pub confirms : (publisher : ℕ) (ids : List ℕ) → publisher < 2 ^ 8 → All IsId ids → 9 + 8 * length ids ≤ 4294967295 → Fits (Data (PublishConfirm publisher ids))
  pub errors : (publisher : ℕ) (refused : List Refusal) → publisher < 2 ^ 8 → All IsRefusal refused → 9 + 10 * length refused ≤ 4294967295 → Fits (Data (PublishError publisher refused))

-- up to 65,535 names
pub record NamesFit : Type 0 where
  pub asked : (corr : ℕ) (names : List (Option (List ℕ))) → corr < 2 ^ 32 → All IsText names → length names ≤ 65535 → Fits (Admin (Metadata corr names))
  pub mechanisms : (corr code : ℕ) (names : List (Option (List ℕ))) → corr < 2 ^ 32 → code < 2 ^ 16 → All IsText names → length names ≤ 65535 → Fits (Admin (MechanismAnswer corr code (Some names)))
  pub route : (corr code : ℕ) (names : List (Option (List ℕ))) → corr < 2 ^ 32 → code < 2 ^ 16 → All IsText names → length names ≤ 65535 → Fits (Admin (RouteAnswer corr code (Some names)))
  pub partitions : (corr code : ℕ) (names : List (Option (List ℕ))) → corr < 2 ^ 32 → code < 2 ^ 16 → All IsText names → length names ≤ 65535 → Fits (Admin (PartitionsAnswer corr code (Some names)))

abbrev pub IsBroker : Broker → Type 0
IsBroker broker = (broker.reference < 2 ^ 16) × IsText broker.host × (broker.port < 2 ^ 32)

-- what is told of a stream without replicas
abbrev pub IsTold : StreamMetadata → Type 0
IsTold told = (told.code < 2 ^ 16) × (told.leader < 2 ^ 16) × (told.replicas ≡ [])

-- What is told of the streams that one frame of at most 1,048,576 bytes asked for.
abbrev pub AskedFit : Type 0
AskedFit =
    (corr : ℕ) (asked : List (Option (List ℕ))) (body : List ℕ) (answer : ℕ) (broker : Broker) (told : List StreamMetadata)
    → Spells (Admin (Metadata corr asked)) body → length body ≤ 1048576
    → answer < 2 ^ 32 → IsBroker broker → map (λ t. t.stream) told ≡ asked → All IsTold told
    → Fits (Admin (MetadataAnswer answer (broker ∷ []) told))
