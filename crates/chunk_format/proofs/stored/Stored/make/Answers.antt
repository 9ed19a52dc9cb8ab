use Rattle.chunk_format.proofs.BackLaws.{back, viewed_whole}
use Rattle.chunk_format.proofs.stored.Stored.make.Goals as goal

pub invariant_of-result : goal.invariant_of-result
invariant_of-result c =
    let encoded = c.in_ok-encoded in viewed_whole encoded.encoded.header encoded.encoded.bytes c.args.chunk.now encoded.ensures.bytes encoded.ensures.header

pub returns : goal.returns
returns c =
    let encoded = c.in_ok-encoded in back encoded.encoded.header encoded.encoded.bytes c.args.chunk.now encoded.ensures.bytes encoded.ensures.header
