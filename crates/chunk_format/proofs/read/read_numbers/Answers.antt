use Rattle.std.proofs.Common.{◌≡◌, ℤ, w64, to_z, of_z, subst, rules, arith}
use Rattle.std.specs.Int.RustNames.{FitsSigned}
use Rattle.std.proofs.lemmas.Int.{ints}
use Rattle.chunk_format.specs.declared.chunk.Header.{Header}
use Rattle.chunk_format.specs.Faults.{IsHeader, HeaderStands}
use Rattle.chunk_format.proofs.HeaderLaws.{fields_read}
use Rattle.chunk_format.proofs.read.read_numbers.Goals as goal

pub returns : goal.returns
returns c =
    let bytes = c.args.bytes.now in
    let with_stamp : ℤ → Header = λ z. record {
      kind = c.args.kind;
      entries = c.u16_at.result;
      records = c.u32_at.result;
      stamp = z;
      epoch = c.u64_at.result;
      first = c.u64_at-2.result;
      crc = c.u32_at-2.result;
      payload_len = c.u32_at-3.result;
      trailer_len = c.u32_at-4.result;
    } in
    let stamp = c.i64_at.result in
    let same : stamp ≡ to_z w64 (of_z w64 stamp) = omega (arith, ints) in
    let fits : FitsSigned w64 stamp = search rules in
    let header : IsHeader (with_stamp stamp) = record {
      entries = omega arith;
      records = omega arith;
      stamp = fits;
      epoch = omega arith;
      first = omega arith;
      crc = omega arith;
      payload_len = omega arith;
      trailer_len = omega arith;
    } in
    let stands : HeaderStands (with_stamp stamp) bytes = (
      header,
      fields_read bytes (with_stamp stamp) c.requires.kind c.u16_at.ensures c.u32_at.ensures c.i64_at.ensures c.u64_at.ensures c.u64_at-2.ensures
          c.u32_at-2.ensures c.u32_at-3.ensures c.u32_at-4.ensures c.requires.reserved,
    ) in
    subst (λ (z : ℤ). HeaderStands (with_stamp z) bytes) same stands
