use Rattle.std.proofs.Common.{◌∙◌, ap}
use Rattle.std.specs.Map.{lookup}
use Rattle.chunk_format.specs.ByName.{same_name}
use Rattle.tracking_state.proofs.Pairs.{found}
use Rattle.tracking_state.proofs.named.Named.get.Goals as goal

pub returns : goal.returns
returns g c = c.copied.ensures ∙ c.get.ensures.value ∙ found c.args.name.now c.self.inside.values.entries ∙ ap (lookup (same_name c.args.name.now)) c.self.view_is
