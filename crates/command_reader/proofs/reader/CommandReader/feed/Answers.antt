use Rattle.command_reader.proofs.Asks.{short_goes_on}
use Rattle.command_reader.proofs.reader.CommandReader.feed.Goals as goal

pub keep-requires : goal.keep-requires
keep-requires c = short_goes_on c.self.inside.pending c.self.inside.unspelt c.args.self.now c.self.invariant.0 c.self.invariant.1 c.self.view_is (c.is_short.ensures c.if-is_short.true)
