use Rattle.stream_table.proofs.Places.{at_in, at_place}
use Rattle.stream_table.proofs.Takes.{declare_at}
use Rattle.stream_table.proofs.taken.declare_in.Goals as goal

pub returns : goal.returns
returns c = λ t is h.
    let place = c.in-Some.ensures.some in
    declare_at t _ _ _ _ _ _ _ h (at_in t _ _ _ _ _ is (at_place c.args.streams.now c.args.stream c.in-Some.place c.index-streams-place.result c.declare.new.self place.0 place.1)) c.declare.ensures
