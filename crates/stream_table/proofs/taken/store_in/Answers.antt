use Rattle.stream_table.proofs.Places.{at_in, at_place, holds_get}
use Rattle.stream_table.proofs.Takes.{store_at}
use Rattle.stream_table.proofs.taken.store_in.Goals as goal

pub store_offset-requires : goal.store_offset-requires
store_offset-requires c = holds_get c.args.streams.now c.in-Some.place c.index-streams-place.result c.requires c.in-Some.ensures.some.1

pub returns : goal.returns
returns c = λ t is h.
    let place = c.in-Some.ensures.some in
    store_at t _ _ _ _ _ _ _ _ h (at_in t _ _ _ _ _ is (at_place c.args.streams.now c.args.stream c.in-Some.place c.index-streams-place.result c.store_offset.new.self place.0 place.1)) c.store_offset.ensures
