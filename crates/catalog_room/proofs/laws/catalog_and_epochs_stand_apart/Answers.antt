use Rattle.catalog_room.proofs.Apart.{catalog_stays, epochs_stay}
use Rattle.catalog_room.proofs.laws.catalog_and_epochs_stand_apart.Goals as goal

pub returns-clause-epochs : goal.returns-clause-epochs
returns-clause-epochs g c = λ hand old new. epochs_stay hand (g.D.Disk.state old) (g.D.Disk.state new)

pub returns-clause-catalog : goal.returns-clause-catalog
returns-clause-catalog g c = λ hand old new. catalog_stays hand (g.D.Disk.state old) (g.D.Disk.state new)
