use Rattle.std.proofs.Common.{◌<◌, length, arith}
use Rattle.memory_hub.proofs.Standing.{stand_inside, stand_step, is_suc}
use Rattle.memory_hub.proofs.streams.stand_first.Goals as goal

pub stand_at-requires : goal.stand_at-requires
stand_at-requires c = stand_inside c.args.listed.now c.streams.place c.args.count c.args.streams.now.items c.streams.streams.items c.streams.invariant.0 (omega (arith, c.streams-test.true)) c.requires

pub streams-preserved : goal.streams-preserved
streams-preserved c =
    let below : c.streams.place < length c.args.streams.now.items = omega (arith, c.streams-test.true, c.requires) in (
      stand_step c.args.listed.now c.streams.place _ c.args.streams.now.items c.streams.streams.items _ (is_suc c.streams.place) below c.streams.invariant.0 c.stand_at.ensures,
      omega (arith, c.streams-test.true),
    )
