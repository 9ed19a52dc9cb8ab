use Rattle.std.proofs.Common.{◌≡◌, take, fold}
use Rattle.chunk_crc.specs.Crc.{byte_step}
use Rattle.chunk_crc.proofs.crc.crc32.Given as goal

abbrev pub invariant-loop-block : goal.invariant-loop-block
invariant-loop-block l = l.crc ≡ fold (fold byte_step) 0xffffffff (take l.block-index l.blocks)
