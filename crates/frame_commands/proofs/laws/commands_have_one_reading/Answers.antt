use Rattle.frame_commands.proofs.Readings.{one_reading}
use Rattle.frame_commands.proofs.laws.commands_have_one_reading.Goals as goal

pub returns : goal.returns
returns c = one_reading
