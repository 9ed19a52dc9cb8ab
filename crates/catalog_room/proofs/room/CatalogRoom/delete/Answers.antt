use Rattle.stream_catalog.specs.Rules.{deletes}
use Rattle.stream_catalog.specs.InHand.{TellsNumber}
use Rattle.stream_catalog.proofs.Recording.{seen_leaves}
use Rattle.catalog_room.specs.Rooms.{room_of}
use Rattle.catalog_room.proofs.Changing.{room_does, room_undamaged}
use Rattle.catalog_room.proofs.room.CatalogRoom.delete.Goals as goal

pub returns-clause-does : goal.returns-clause-does
returns-clause-does g c = λ told.
    let was = room_of c.self.inside.catalog c.self.inside.epochs c.self.inside.disk c.self.inside.damages in
    let seen = seen_leaves (g.D.Disk.state c.self.inside.disk) (λ f. g.met.D.Disk.reads_image c.self.inside.disk f told) in
    room_does g.D.Disk.state (λ x. deletes c.args.name.now) TellsNumber was c.args.self.now c.delete-made.new.self c.delete-made.new.disk c.delete-made.result c.tell.result c.self.view_is c.tell.ensures.told seen (c.self.invariant.0 told) (c.delete-made.ensures.does told)

pub returns-clause-undamaged : goal.returns-clause-undamaged
returns-clause-undamaged g c = λ told.
    let was = room_of c.self.inside.catalog c.self.inside.epochs c.self.inside.disk c.self.inside.damages in
    let seen = seen_leaves (g.D.Disk.state c.self.inside.disk) (λ f. g.met.D.Disk.reads_image c.self.inside.disk f told) in
    room_undamaged g.D.Disk.state (λ x. deletes c.args.name.now) TellsNumber was c.args.self.now c.delete-made.new.self c.delete-made.new.disk c.delete-made.result c.tell.new.damages c.self.view_is c.tell.ensures.counted seen (c.self.invariant.0 told) (c.delete-made.ensures.does told)
