use Rattle.stream_terms_tests.proofs.Powers.{at_most_11}
use Rattle.stream_terms_tests.proofs.few.search_some.Goals as goal

pub returns : goal.returns
returns g c = at_most_11 _ _ c.requires.count c.find_place.ensures.steps
