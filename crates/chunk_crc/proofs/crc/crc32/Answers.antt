use Rattle.std.proofs.Common.{◌≤◌, ◌*◌, ◌/◌, ℕ, length, drop, fold, ap, ◌∙◌, take_all, arith}
use Rattle.std.specs.Prelude.{bit_xor}
use Rattle.chunk_crc.specs.Crc.{byte_step}
use Rattle.chunk_crc.proofs.Parts.{blocks_are}
use Rattle.chunk_crc.proofs.crc.crc32.Goals as goal

pub returns : goal.returns
returns c =
    let bytes = c.args.bytes.now in
    let count : ℕ = length bytes / 16 in
    let done : length c.as_chunks.result.0.now ≤ c.loop-block.block-index = omega arith in
    let blocks = c.loop-block.invariant ∙ ap (fold (fold byte_step) 0xffffffff) (take_all _ _ done ∙ c.as_chunks.ensures.front) in
    ap (λ v. bit_xor v 0xffffffff)
    (c.next_each.ensures ∙ ap (fold byte_step c.loop-block.crc) c.as_chunks.ensures.back
    ∙ ap (λ v. fold byte_step v (drop (count * 16) bytes)) blocks ∙ blocks_are count bytes 0xffffffff)
