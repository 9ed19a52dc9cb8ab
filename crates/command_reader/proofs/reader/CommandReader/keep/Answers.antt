use Rattle.command_reader.proofs.Asks.{still_held, takes_by}
use Rattle.command_reader.proofs.reader.CommandReader.keep.Goals as goal

pub invariant_of-self : goal.invariant_of-self
invariant_of-self c = still_held c.push.result c.self.inside.pending c.push.new.self c.args.piece.now c.self.inside.unspelt c.args.self.now c.self.invariant.0 c.self.view_is c.requires c.push.ensures.pushed c.push.ensures.err

pub returns-clause-taken : goal.returns-clause-taken
returns-clause-taken c = takes_by c.push.result c.self.inside.pending c.push.new.self c.args.piece.now c.self.inside.unspelt c.args.self.now c.self.view_is c.requires c.push.ensures.pushed
