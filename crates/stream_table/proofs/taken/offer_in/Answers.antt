use Rattle.stream_table.proofs.Places.{at_in, at_place, holds_get}
use Rattle.stream_table.proofs.Takes.{offer_at}
use Rattle.stream_table.proofs.taken.offer_in.Goals as goal

pub offer-requires-clause-holds : goal.offer-requires-clause-holds
offer-requires-clause-holds c = holds_get c.args.streams.now c.in-Some.place c.index-streams-place.result c.requires.holds c.in-Some.ensures.some.1

pub returns : goal.returns
returns c = λ t is h.
    let place = c.in-Some.ensures.some in
    offer_at t _ _ _ _ _ _ _ _ h (at_in t _ _ _ _ _ is (at_place c.args.streams.now c.args.stream c.in-Some.place c.index-streams-place.result c.offer.new.self place.0 place.1)) c.offer.ensures
