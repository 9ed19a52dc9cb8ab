use Rattle.std.proofs.Common.{◌≡◌, length, rules, arith}
use Rattle.chunk_crc.proofs.Parts.{near_is}
use Rattle.chunk_crc.proofs.crc.near.Goals as goal

pub returns : goal.returns
returns c =
    let long : length c.args.bytes.now ≡ 16 = search rules in
    rw (c.moved.ensures, c.moved-2.ensures, c.moved-3.ensures, c.moved-4.ensures, c.to_le_bytes-low.ensures)
    (near_is c.args.crc c.args.bytes.now (omega arith) long)
