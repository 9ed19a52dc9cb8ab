use Rattle.std.proofs.Common.{◌≡◌, length, rules}
use Rattle.chunk_crc.proofs.Parts.{block_is}
use Rattle.chunk_crc.proofs.crc.next_sixteen.Goals as goal

pub returns : goal.returns
returns c =
    let long : length c.args.bytes.now ≡ 16 = search rules in
    rw (c.far.ensures, c.near.ensures) (block_is c.args.crc c.args.bytes.now long)
