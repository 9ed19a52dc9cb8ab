use Rattle.stream_terms_tests.proofs.Powers.{none_at_all}
use Rattle.stream_terms_tests.proofs.few.search_none.Goals as goal

pub returns-clause-steps : goal.returns-clause-steps
returns-clause-steps g c = none_at_all _ _ c.requires.count c.find_place.ensures.steps
