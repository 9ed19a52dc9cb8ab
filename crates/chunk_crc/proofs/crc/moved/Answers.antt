use Rattle.std.proofs.Common.{arith}
use Rattle.chunk_crc.proofs.TableRule.{table_rule}
use Rattle.chunk_crc.proofs.crc.moved.Goals as goal

pub returns : goal.returns
returns c = table_rule c.args.zeros c.args.byte c.requires (omega arith)
