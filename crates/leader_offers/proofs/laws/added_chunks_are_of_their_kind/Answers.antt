use Rattle.leader_offers.proofs.Spelled.{offer_kinds, offset_kinds}
use Rattle.leader_offers.proofs.laws.added_chunks_are_of_their_kind.Goals as goal

pub returns-clause-offer : goal.returns-clause-offer
returns-clause-offer c = offer_kinds

pub returns-clause-offset : goal.returns-clause-offset
returns-clause-offset c = offset_kinds
