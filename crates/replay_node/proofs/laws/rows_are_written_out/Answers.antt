use Rattle.replay_node.proofs.PieceLaws.{publish_row, confirm_row}
use Rattle.replay_node.proofs.laws.rows_are_written_out.Goals as goal

pub returns : goal.returns
returns c = record { publish = publish_row; confirm = confirm_row }
