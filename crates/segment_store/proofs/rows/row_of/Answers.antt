use Rattle.std.proofs.Common.{◌≡◌, ◌+◌, length, ap, sym, ◌∙◌, arith}
use Rattle.chunk_format.specs.declared.chunk.Header.{Header}
use Rattle.segment_pairs.specs.Log.{size_of}
use Rattle.segment_pairs.proofs.Reading.{spelled_is}
use Rattle.segment_store.proofs.rows.row_of.Goals as goal

pub returns-clause-row : goal.returns-clause-row
returns-clause-row c fits =
    let size : length c.bytes.result.now ≡ size_of c.args.chunk.now = ap length (c.bytes.ensures.spelled ∙ sym (spelled_is c.args.chunk.now)) in
    let after : c.saturating_add.result ≡ c.args.place + size_of c.args.chunk.now = omega (arith, size, fits, c.saturating_add.ensures, c.bytes.type_inv) in
    let first = ap (λ (h : Header). h.first) c.header-header.ensures.header in
    let records = ap (λ (h : Header). h.records) c.header-header.ensures.header in
    λ i. record {
      segment = c.args.segment;
      nth = c.args.nth;
      place = c.args.place;
      after = after i;
      end = first i + records i;
    }
