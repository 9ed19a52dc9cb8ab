use Rattle.command_reader.proofs.RunLaws.{answers_follow}
use Rattle.command_reader.proofs.laws.answers_are_of_the_bytes.Goals as goal

pub returns : goal.returns
returns c = answers_follow
