use Rattle.leader_offers.proofs.Spelled.{offer_spelled, offset_spelled}
use Rattle.leader_offers.proofs.laws.added_chunks_have_a_spelling.Goals as goal

pub returns-clause-offer : goal.returns-clause-offer
returns-clause-offer c = offer_spelled

pub returns-clause-offset : goal.returns-clause-offset
returns-clause-offset c = offset_spelled
