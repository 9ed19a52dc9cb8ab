use Rattle.std.proofs.Common.{◌∙◌, ap}
use Rattle.stream_catalog.specs.Names.{Names, holder_of}
use Rattle.stream_catalog.proofs.Entries.{found}
use Rattle.stream_catalog.proofs.names.NameList.holder.Goals as goal

pub returns : goal.returns
returns c = c.get.ensures.value ∙ found c.args.name.now c.self.inside.held.entries ∙ ap (λ (n : Names). holder_of c.args.name.now n) c.self.view_is
