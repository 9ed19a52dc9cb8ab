use Rattle.std.proofs.Common.{refl}
use Rattle.memory_stream.proofs.Offers.{again}
use Rattle.memory_stream.proofs.stream.MemoryStream.confirm_again.Goals as goal

pub returns : goal.returns
returns c =
    again c.args.self.now _ _ _ _ _ _ _ _ _ _ _ _ _ c.self.view_is c.self.invariant c.requires.holds c.requires.useful c.requires.whole c.requires.some c.requires.few c.requires.known c.requires.none c.in-Ok.ensures refl refl c.in_ok-add_wait.ensures.ok
