use Rattle.std.proofs.Common.{◌≡◌, ℕ, ◌+◌, ◌-◌, ◌<◌, get_or, take, drop, ap, arith}
use Rattle.chunk_format.proofs.Splitting.{named_whole, named_second, name_stands}
use Rattle.chunk_format.proofs.tracking.named_front.Goals as goal

pub returns-then-bytes-lt2 : goal.returns-then-bytes-lt2
returns-then-bytes-lt2 c = λ kind name more small is_name e. omega (arith, named_whole kind name more c.args.bytes.now e)

pub returns-then-len-eq0 : goal.returns-then-len-eq0
returns-then-len-eq0 c = λ kind name more small is_name e. omega (arith, is_name.0, named_second kind name more c.args.bytes.now is_name.1 e)

pub returns-then-bytes-len : goal.returns-then-bytes-len
returns-then-bytes-len c = λ kind name more small is_name e. omega (arith, named_second kind name more c.args.bytes.now is_name.1 e, named_whole kind name more c.args.bytes.now e)

pub returns : goal.returns
returns c =
    let bytes = c.args.bytes.now in
    let len = get_or bytes 1 0 in
    let same : 2 + len - 2 ≡ len = omega arith in
    let first : get_or bytes 0 0 < 256 = omega (arith, c.type_inv.bytes 0) in
    let second : len < 256 = omega (arith, c.type_inv.bytes 1) in
    (first, name_stands bytes (take (2 + len - 2) (drop 2 bytes)) (omega arith) (omega arith) first second (ap (λ (n : ℕ). take n (drop 2 bytes)) same))
