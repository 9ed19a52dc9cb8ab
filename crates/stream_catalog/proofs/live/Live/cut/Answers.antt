use Rattle.std.proofs.Common.{◌∙◌, ap, sym, take}
use Rattle.std.proofs.lemmas.List.{take-map}
use Rattle.stream_catalog.proofs.Numbers.{firsts}
use Rattle.stream_catalog.proofs.live.Live.cut.Goals as goal

pub invariant_of-self : goal.invariant_of-self
invariant_of-self c = c.truncate.ensures.items ∙ ap (take c.args.len) c.self.invariant ∙ take-map _ c.args.len c.self.inside.places.entries ∙ sym (ap firsts c.truncate-2.ensures.entries)
