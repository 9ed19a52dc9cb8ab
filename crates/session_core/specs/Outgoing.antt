-- What a session says unasked, as bytes.
use Rattle.std.specs.Prelude.{ℕ, ◌≤◌, List, [], ◌++◌, length, Option, None, Some, if◌then◌else◌}
use Rattle.chunk_format.specs.declared.chunk.Chunk.{Chunk}
use Rattle.chunk_format.specs.Chunks.{header_of, header_bytes, entries_bytes}
use Rattle.command_fields.specs.Codes.{number_of_code}
use Rattle.command_fields.specs.declared.response.ResponseCode.TheVariants as code
use Rattle.command_data.specs.declared.command.DataCommand.TheVariants.{PublishConfirm}
use Rattle.command_data.specs.Deliveries.{delivery_of}
use Rattle.command_admin.specs.declared.command.AdminCommand.TheVariants as of_admin
use Rattle.command_all.specs.declared.command.Command.{Command}
use Rattle.command_all.specs.declared.command.Command.TheVariants.{Data, Admin}
use Rattle.session_core.specs.declared.unasked.Unasked.{Unasked}
use Rattle.session_core.specs.declared.unasked.Unasked.TheVariants as say
use Rattle.session_core.specs.declared.outgoing.Outgoing.{Outgoing}

-- The command of each. The stream of a MetadataUpdate isn't available any more. A delivery names what is committed in version 2 alone.
abbrev pub command_of : Unasked → Command
command_of (say.Confirm id ids) = Data (PublishConfirm id ids)
command_of (say.MetadataUpdate stream) = Admin (of_admin.MetadataUpdate (number_of_code code.StreamNotAvailable) stream)
command_of (say.Update corr id active) = Admin (of_admin.ConsumerUpdate corr id (if active then 1 else 0))
command_of (say.Deliver id committed chunk) = Data (delivery_of id committed (header_of chunk) (entries_bytes chunk.entries))

-- a chunk's header and payload, without its trailer
abbrev pub delivered_bytes : Chunk → List ℕ
delivered_bytes chunk = header_bytes (header_of chunk) ++ entries_bytes chunk.entries

abbrev pub tail_of : Option Chunk → List ℕ
tail_of None = []
tail_of (Some chunk) = delivered_bytes chunk

-- head and tail, one behind the other
abbrev pub bytes_of_outgoing : Outgoing → List ℕ
bytes_of_outgoing o = o.head ++ tail_of o.tail

-- The ids of a confirm are few; all else has its range by its type.
abbrev pub IsSayableUnasked : Unasked → Type 0
IsSayableUnasked (say.Confirm id ids) = length ids ≤ 1048576
IsSayableUnasked other = Unit {0}
