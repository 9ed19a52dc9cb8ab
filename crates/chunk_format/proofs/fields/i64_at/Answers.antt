use Rattle.std.proofs.Common.{◌≡◌, ℤ, ◌+◌, ◌++◌, drop, subst, w64, to_z, of_z, arith}
use Rattle.std.proofs.lemmas.Int.{ints}
use Rattle.frame_wire.specs.Fields.{i64_bytes}
use Rattle.chunk_format.proofs.Places.{read_at}
use Rattle.chunk_format.proofs.fields.i64_at.Goals as goal

pub returns : goal.returns
returns c =
    let value = c.in-Ok.value in
    let same : value ≡ to_z w64 (of_z w64 value) = omega (arith, ints) in
    let read = read_at i64_bytes 8 c.args.place value c.args.bytes.now c.new-scan.result c.i64.new.self c.new-scan.ensures.rest c.in-Ok.ensures.spelled.0 c.in-Ok.ensures.spelled.2 in
    subst (λ (n : ℤ). drop c.args.place c.args.bytes.now ≡ i64_bytes n ++ drop (c.args.place + 8) c.args.bytes.now) same read
