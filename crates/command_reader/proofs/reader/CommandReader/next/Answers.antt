use Rattle.std.proofs.Common.{refl}
use Rattle.command_reader.proofs.Asks.{short_unspelt, none_left}
use Rattle.command_reader.proofs.reader.CommandReader.next.Goals as goal

pub returns-then-is_short-clause-given : goal.returns-then-is_short-clause-given
returns-then-is_short-clause-given c =
    let here = short_unspelt c.self.inside.pending c.self.inside.unspelt c.args.self.now c.self.invariant.0 c.self.invariant.1 c.self.view_is (c.is_short.ensures c.if-is_short.true) in
    (here.0, here.1, refl)

pub returns-then-is_short-clause-stays : goal.returns-then-is_short-clause-stays
returns-then-is_short-clause-stays c =
    none_left c.args.self.now.unspelt _ (short_unspelt c.self.inside.pending c.self.inside.unspelt c.args.self.now c.self.invariant.0 c.self.invariant.1 c.self.view_is (c.is_short.ensures c.if-is_short.true)).0
