use Rattle.command_reader.proofs.Asks.{not_ended}
use Rattle.command_reader.proofs.reader.CommandReader.is_ended.Goals as goal

pub returns-in_default : goal.returns-in_default
returns-in_default c = (λ yes. absurd cc, λ ended. absurd (not_ended c.self.inside.pending c.self.inside.unspelt c.args.self.now c.front.result c.self.invariant.0 c.self.view_is c.in-None.is c.front.ensures c.in_default.not-TooLarge ended))
