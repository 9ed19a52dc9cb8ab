use Rattle.chunk_crc.proofs.Parts.{one_is}
use Rattle.chunk_crc.proofs.crc.next.Goals as goal

pub returns : goal.returns
returns c = rw (c.moved.ensures, c.to_le_bytes.ensures) (one_is c.args.crc c.args.byte)
