use Rattle.replication_laws.proofs.Properties.{step_with, all_have}
use Rattle.replication_laws.proofs.Snapshots.{truthful_property, truthful_offers}
use Rattle.replication_laws.proofs.property_laws.snapshots_are_truthful.Goals as goal

pub returns : goal.returns
returns c = record {
  property = truthful_property;
  offers = truthful_offers;
  step = λ o w w' h s. step_with _ o w w' truthful_property truthful_offers h s;
  all = λ o w h. all_have _ o w truthful_property h;
}
