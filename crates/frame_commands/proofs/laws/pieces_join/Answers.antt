use Rattle.frame_commands.proofs.Readings.{joins, splits}
use Rattle.frame_commands.proofs.laws.pieces_join.Goals as goal

pub returns-clause-joins : goal.returns-clause-joins
returns-clause-joins c = joins

pub returns-clause-splits : goal.returns-clause-splits
returns-clause-splits c = splits
