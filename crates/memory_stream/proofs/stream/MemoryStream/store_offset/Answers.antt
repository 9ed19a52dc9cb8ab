use Rattle.std.proofs.Common.{refl, arith}
use Rattle.memory_stream.proofs.Offers.{keeps_more, runs_as}
use Rattle.memory_stream.proofs.Offsets.{offset_given, offset_epoch}
use Rattle.memory_stream.proofs.stream.MemoryStream.store_offset.Goals as goal

pub invariant_of-self-2 : goal.invariant_of-self-2
invariant_of-self-2 c = keeps_more _ _ _ _ _ _ _ _ _ c.self.invariant (offset_epoch _ _ _ _ _ c.in_ok-chunk.ensures.made) c.end_of_stored-end.ensures c.in_ok-add_chunk.ensures.chunks c.in_ok-add_chunk.ensures.tracks

pub returns : goal.returns
returns c =
    let named = c.in_ok-bytes.ensures.named in
    offset_given c.args.self.now _ _ _ _ _ _ _ _ _ _ _ _ _ _ c.self.view_is c.self.invariant c.requires (runs_as c.self.inside.runs c.self.inside.epoch (grind (arith, c.if-not-self.false))) named.0 named.1 named.2 c.in_ok-chunk.ensures.made c.end_of_stored-end.ensures refl c.in_ok-add_chunk.ensures.chunks
