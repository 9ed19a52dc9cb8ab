use Rattle.replay_node.proofs.PieceLaws.{pieces_cut}
use Rattle.replay_node.proofs.laws.pieces_are_cut.Goals as goal

pub returns : goal.returns
returns c = pieces_cut
