use Rattle.std.proofs.Common.{◌≡◌, take, fold}
use Rattle.chunk_crc.specs.Crc.{byte_step}
use Rattle.chunk_crc.proofs.crc.next_each.Given as goal

abbrev pub invariant-loop-byte : goal.invariant-loop-byte
invariant-loop-byte l = l.crc ≡ fold byte_step l.initial.crc (take l.byte-index l.bytes)
