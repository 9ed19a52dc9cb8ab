use Rattle.std.proofs.Common.{◌∙◌, ap}
use Rattle.stream_catalog.specs.Names.{Names}
use Rattle.stream_catalog.specs.Rules.{changed}
use Rattle.stream_catalog.proofs.Numbers.{added, fronts}
use Rattle.stream_catalog.proofs.listed.Listed.add.Goals as goal

pub of-requires : goal.of-requires
of-requires c = added c.args.change c.args.self.now c.self.inside.names c.add.new.self c.self.view_is c.self.invariant.1 c.requires.fits c.in_ok-add.ensures.ok

pub invariant_of-self-in-Ok : goal.invariant_of-self-in-Ok
invariant_of-self-in-Ok c = (c.in-Ok.ensures, added c.args.change c.args.self.now c.self.inside.names c.add.new.self c.self.view_is c.self.invariant.1 c.requires.fits c.in_ok-add.ensures.ok)

pub returns-in-Ok-clause-ok : goal.returns-in-Ok-clause-ok
returns-in-Ok-clause-ok c = (
  c.in_ok-add.ensures.ok ∙ ap (λ (n : Names). changed c.args.change n) c.self.view_is,
  fronts c.args.change c.args.self.now c.self.inside.names c.add.new.self c.self.view_is c.self.invariant.1 c.requires.comes c.in_ok-add.ensures.ok,
)
