use Rattle.replication_laws.proofs.Properties.{step_with, all_have}
use Rattle.replication_laws.proofs.Snapshots.{rises_property, rises_offers}
use Rattle.replication_laws.proofs.property_laws.ids_rise.Goals as goal

pub returns : goal.returns
returns c = record {
  property = rises_property;
  offers = rises_offers;
  step = λ o w w' h s. step_with _ o w w' rises_property rises_offers h s;
  all = λ o w h. all_have _ o w rises_property h;
}
