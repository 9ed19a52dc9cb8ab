use Rattle.command_reader.proofs.RunLaws.{bytes_alone}
use Rattle.command_reader.proofs.laws.the_bytes_alone_count.Goals as goal

pub returns : goal.returns
returns c = bytes_alone
