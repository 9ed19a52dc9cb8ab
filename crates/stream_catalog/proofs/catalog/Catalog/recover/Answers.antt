use Rattle.stream_catalog.proofs.Recording.{known_each, known_backed}
use Rattle.stream_catalog.proofs.catalog.Catalog.recover.Goals as goal

pub returns-clause-backed : goal.returns-clause-backed
returns-clause-backed g c = λ told. known_backed _ _ (c.in_ok-listed.ensures.known told)

pub returns-clause-only : goal.returns-clause-only
returns-clause-only g c = λ told. known_each _ _ _ _ (c.in_ok-listed.ensures.known told)
