use Rattle.chunk_search.proofs.Finders.{finder_is, finders_agree}
use Rattle.chunk_search.proofs.there_is_one_finder.Goals as goal

-- src/lib.rt
pub returns-clause-is : goal.returns-clause-is
returns-clause-is c = finder_is

pub returns-clause-one : goal.returns-clause-one
returns-clause-one c = finders_agree
