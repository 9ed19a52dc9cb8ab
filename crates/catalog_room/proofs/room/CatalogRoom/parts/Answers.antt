use Rattle.std.proofs.Common.{◌∙◌, sym, ap}
use Rattle.catalog_room.specs.Rooms.{Room}
use Rattle.catalog_room.proofs.room.CatalogRoom.parts.Goals as goal

pub returns-clause-told : goal.returns-clause-told
returns-clause-told g c = λ t is. c.parts.ensures.told t (is ∙ sym (ap (λ (x : Room _). x.catalog.names) c.self.view_is))
