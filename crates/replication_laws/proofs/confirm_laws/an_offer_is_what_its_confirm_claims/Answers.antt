use Rattle.replication_laws.proofs.Causes.{offer_caused, caused_stands}
use Rattle.replication_laws.proofs.confirm_laws.an_offer_is_what_its_confirm_claims.Goals as goal

pub returns : goal.returns
returns c = record { offer = offer_caused; stands = caused_stands }
