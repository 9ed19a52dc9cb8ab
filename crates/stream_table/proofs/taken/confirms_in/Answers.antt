use Rattle.std.proofs.Common.{◌<◌, length, arith}
use Rattle.stream_table.proofs.Places.{get_or_there}
use Rattle.stream_table.proofs.Hands.{no_hands, hands_turn, hands_lost, is_suc}
use Rattle.stream_table.proofs.taken.confirms_in.Goals as goal

pub streams-init : goal.streams-init
streams-init c = no_hands c.args.session c.args.streams.now _ c.new-out.ensures c.requires

pub returns-in-Err : goal.returns-in-Err
returns-in-Err c = λ t is h.
    let below : c.streams.i < length c.streams.streams = omega (arith, c.streams-test.true) in
    hands_lost t c.args.session c.streams.i c.args.streams.now c.streams.streams _ c.hand.new.self c.streams.out c.in-Err.refused c.streams.invariant (get_or_there c.streams.streams c.streams.i c.index-streams-i.result below) c.in-Err.ensures is h

pub streams-preserved : goal.streams-preserved
streams-preserved c =
    let below : c.streams.i < length c.streams.streams = omega (arith, c.streams-test.true) in
    hands_turn c.args.session c.streams.i _ c.args.streams.now c.streams.streams _ c.hand.new.self c.streams.out c.hand.new.out (is_suc c.streams.i) c.streams.invariant (get_or_there c.streams.streams c.streams.i c.index-streams-i.result below) c.in-Ok.ensures.0 c.in-Ok.ensures.1
