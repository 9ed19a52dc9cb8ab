use Rattle.stream_terms.proofs.ListLaws.{is_next}
use Rattle.stream_terms.proofs.lists.next_above.Goals as goal

pub returns : goal.returns
returns c = is_next c.args.from c.place_above-place.result c.args.chunks.now c.first_above.result c.place_above-place.ensures.place c.first_above.ensures
