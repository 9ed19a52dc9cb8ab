use Rattle.stream_terms.proofs.Keeping.{declared_holds, offered_holds, stored_holds}
use Rattle.stream_terms.proofs.laws.declarations_and_offers_keep_what_holds.Goals as goal

pub returns-clause-declared : goal.returns-clause-declared
returns-clause-declared c = declared_holds

pub returns-clause-offered : goal.returns-clause-offered
returns-clause-offered c = offered_holds

pub returns-clause-stored : goal.returns-clause-stored
returns-clause-stored c = stored_holds
