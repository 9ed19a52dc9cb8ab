use Rattle.replication_laws.proofs.Starts.{start_has}
use Rattle.replication_laws.proofs.Reopened.{reopened_with}
use Rattle.replication_laws.proofs.property_laws.openings_have_the_property.Goals as goal

pub returns : goal.returns
returns g c = record { first = start_has _; again = λ o epoch w ss p s r. reopened_with _ w o epoch ss p s r }
