use Rattle.std.proofs.Common.{◌≡◌, length, rules}
use Rattle.chunk_crc.proofs.Parts.{far_is}
use Rattle.chunk_crc.proofs.crc.far.Goals as goal

pub returns : goal.returns
returns c =
    let long : length c.args.bytes.now ≡ 16 = search rules in
    rw (c.moved.ensures, c.moved-2.ensures, c.moved-3.ensures, c.moved-4.ensures, c.moved-5.ensures, c.moved-6.ensures, c.moved-7.ensures, c.moved-8.ensures, c.moved-9.ensures, c.moved-10.ensures, c.moved-11.ensures, c.moved-12.ensures)
    (far_is c.args.bytes.now long)
