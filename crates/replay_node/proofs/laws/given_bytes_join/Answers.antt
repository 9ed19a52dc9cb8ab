use Rattle.replay_node.proofs.GivenLaws.{gives_join, gives_once}
use Rattle.replay_node.proofs.laws.given_bytes_join.Goals as goal

pub returns : goal.returns
returns c = record { join = gives_join; once = gives_once }
