use Rattle.replication_laws.proofs.Properties.{step_with}
use Rattle.replication_laws.proofs.property_laws.properties_that_offers_keep.Goals as goal

pub returns : goal.returns
returns g c = step_with _
