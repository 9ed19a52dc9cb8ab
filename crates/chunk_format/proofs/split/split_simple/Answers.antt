use Rattle.std.proofs.Common.{◌≡◌, ◌+◌, ◌-◌, ℕ, take, drop, ap, arith}
use Rattle.chunk_format.proofs.Splitting.{no_simple_length, no_simple_body, simple_split}
use Rattle.chunk_format.proofs.split.split_simple.Goals as goal

pub returns-then-bytes-lt4 : goal.returns-then-bytes-lt4
returns-then-bytes-lt4 c = no_simple_length c.args.bytes.now c.requires.first (omega arith)

pub returns-then-bytes-len : goal.returns-then-bytes-len
returns-then-bytes-len c = no_simple_body c.args.bytes.now c.u32_at-len.result c.requires.first (omega arith) c.u32_at-len.ensures (omega arith)

pub returns : goal.returns
returns c =
    let bytes = c.args.bytes.now in
    let len = c.u32_at-len.result in
    let same : 4 + len - 4 ≡ len = omega arith in
    simple_split bytes (take (4 + len - 4) (drop 4 bytes)) len c.requires.first (omega arith) c.u32_at-len.ensures (omega arith) (ap (λ (n : ℕ). take n (drop 4 bytes)) same)
