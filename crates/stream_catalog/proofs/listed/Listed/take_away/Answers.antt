use Rattle.std.proofs.Common.{◌∙◌, ap}
use Rattle.stream_catalog.specs.Rules.{count_of}
use Rattle.stream_catalog.proofs.Numbers.{taken}
use Rattle.stream_catalog.proofs.listed.Listed.take_away.Goals as goal

pub invariant_of-self : goal.invariant_of-self
invariant_of-self c =
    taken c.args.change.now c.self.inside.names c.take_away.new.self c.self.inside.live c.remove.new.self c.count_of-count.result c.requires c.self.invariant.1 c.self.invariant.0 c.take_away.ensures
    (c.count_of-count.ensures ∙ ap count_of c.holder_at.ensures) c.remove.ensures
