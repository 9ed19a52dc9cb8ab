use Rattle.std.proofs.Common.{length, ap, arith}
use Rattle.memory_stream.proofs.Offers.{appended, keeps_more, few_kept, made_as}
use Rattle.memory_stream.proofs.stream.MemoryStream.append.Goals as goal

pub overflow_cast-accepted : goal.overflow_cast-accepted
overflow_cast-accepted c = let few = few_kept _ _ _ _ c.requires.kept c.requires.few in let count = ap length c.as_slice.ensures in omega (arith, few, count)

pub invariant_of-self-2 : goal.invariant_of-self-2
invariant_of-self-2 c = keeps_more _ _ _ _ _ _ _ _ _ c.self.invariant c.in_ok-chunk.ensures.made.0.in_epoch c.end_of_stored-end.ensures c.in_ok-add_offer.ensures.chunks c.in_ok-add_offer.ensures.tracks

pub returns : goal.returns
returns c =
    appended c.args.self.now _ _ _ _ _ _ _ _ _ _ _ _ _ _ _ _ c.self.view_is c.self.invariant c.requires.holds c.requires.useful c.requires.whole c.requires.some c.requires.few c.requires.known c.requires.short c.requires.kept (made_as _ _ _ _ _ _ _ c.as_slice-2.ensures c.as_slice-3.ensures c.in_ok-chunk.ensures.made) c.in-Ok.ensures c.end_of_stored-end.ensures (ap length c.as_slice.ensures) c.in_ok-add_offer.ensures.chunks c.in_ok-add_offer.ensures.ready
