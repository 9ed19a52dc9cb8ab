use Rattle.std.proofs.Common.{◌≡◌, ◌+◌, ◌-◌, ◌<◌, ℕ, get_or, take, drop, ap, arith}
use Rattle.chunk_format.proofs.Splitting.{no_batch_length, no_batch_body, batch_split}
use Rattle.chunk_format.proofs.split.split_batch.Goals as goal

pub returns-then-bytes-lt11 : goal.returns-then-bytes-lt11
returns-then-bytes-lt11 c = no_batch_length c.args.bytes.now c.requires.first (omega arith)

pub returns-then-bytes-len : goal.returns-then-bytes-len
returns-then-bytes-len c = no_batch_body c.args.bytes.now c.u32_at-len.result c.requires.first (omega arith) c.u32_at-len.ensures (omega arith)

pub returns : goal.returns
returns c =
    let bytes = c.args.bytes.now in
    let len = c.u32_at-len.result in
    let same : 11 + len - 11 ≡ len = omega arith in
    let first : get_or bytes 0 0 < 256 = omega (arith, c.type_inv.bytes 0) in
    batch_split bytes (take (11 + len - 11) (drop 11 bytes)) c.u16_at-records.result c.u32_at-uncompressed.result len c.requires.first first (omega arith) (omega arith) (omega arith)
    c.u16_at-records.ensures c.u32_at-uncompressed.ensures c.u32_at-len.ensures (omega arith) (ap (λ (n : ℕ). take n (drop 11 bytes)) same)
