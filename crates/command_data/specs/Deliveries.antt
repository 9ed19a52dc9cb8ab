-- The commands that deliver a chunk.
use Rattle.std.specs.Prelude.{ℕ, ◌+◌, List, ◌++◌, Option, Some, None}
use Rattle.frame_wire.specs.Fields.{u8_bytes, u16_bytes, u32_bytes, u64_bytes}
use Rattle.chunk_format.specs.declared.chunk.Header.{Header}
use Rattle.command_data.specs.declared.command.DataCommand.{DataCommand}
use Rattle.command_data.specs.declared.command.DataCommand.TheVariants.{Deliver, Deliver2}

-- a delivery of version 2 where it names a committed offset
abbrev pub delivery_of : ℕ → Option ℕ → Header → List ℕ → DataCommand
delivery_of sub None header payload = Deliver sub header payload
delivery_of sub (Some committed) header payload = Deliver2 sub committed header payload

-- what stands in a delivery's frame before the chunk: the size of the body, key, version, subscription and, in version 2,
-- the committed offset
abbrev pub delivery_head : ℕ → Option ℕ → ℕ → List ℕ
delivery_head sub None payload_len = u32_bytes (53 + payload_len) ++ (u16_bytes 8 ++ (u16_bytes 1 ++ u8_bytes sub))
delivery_head sub (Some committed) payload_len = u32_bytes (61 + payload_len) ++ (u16_bytes 8 ++ (u16_bytes 2 ++ (u8_bytes sub ++ u64_bytes committed)))
