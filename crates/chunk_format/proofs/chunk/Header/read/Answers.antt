use Rattle.std.proofs.Common.{◌≡◌, ◌<◌, get_or, refl, arith}
use Rattle.chunk_format.proofs.ChunkLaws.{kind_low}
use Rattle.chunk_format.proofs.HeaderLaws.{two_bytes, not_reserved}
use Rattle.chunk_format.proofs.chunk.Header.read.Goals as goal

pub returns-then-u32_at-ne0 : goal.returns-then-u32_at-ne0
returns-then-u32_at-ne0 c =
    let bytes = c.args.bytes.now in
    let first : get_or bytes 0 0 ≡ 80 = omega arith in
    let second : get_or bytes 1 0 < 3 = omega (arith, c.in-Some.ensures, kind_low c.in-Some.kind) in
    ((omega arith, first, second), (λ zero. omega (arith, not_reserved bytes c.u32_at.result (omega arith) c.u32_at.ensures zero)), refl)

pub read_numbers-requires-clause-kind : goal.read_numbers-requires-clause-kind
read_numbers-requires-clause-kind c =
    let bytes = c.args.bytes.now in
    let first : get_or bytes 0 0 ≡ 80 = omega arith in
    two_bytes bytes c.in-Some.kind (omega arith) first c.in-Some.ensures
