use Rattle.chunk_search.proofs.Found.{found, all_found}
use Rattle.chunk_search.proofs.a_chunk_is_found_in_bytes.Goals as goal

-- src/lib.rt
pub returns-clause-found : goal.returns-clause-found
returns-clause-found c = found

pub returns-clause-all : goal.returns-clause-all
returns-clause-all c = all_found
