use Rattle.osiris_audit.proofs.Causing.{read_cause, write_cause, reindex_complete}
use Rattle.osiris_audit.proofs.reindexing.reindex.Goals as goal

pub returns-clause-reindexes : goal.returns-clause-reindexes
returns-clause-reindexes g c = (c.reindex_file-outcome.result, c.status.ensures, c.reindex_file-outcome.ensures.reindexes)

pub returns-clause-read : goal.returns-clause-read
returns-clause-read g c = read_cause c.reindex_file-outcome.result c.status.result _ _ c.status.ensures c.reindex_file-outcome.ensures.read

pub returns-clause-write : goal.returns-clause-write
returns-clause-write g c = write_cause c.reindex_file-outcome.result c.status.result _ _ c.status.ensures c.reindex_file-outcome.ensures.write

pub returns-clause-complete : goal.returns-clause-complete
returns-clause-complete g c = reindex_complete c.reindex_file-outcome.result c.status.result _ _ _ _ _ _ _ _ c.status.ensures c.reindex_file-outcome.ensures.reindexes c.reindex_file-outcome.ensures.read c.reindex_file-outcome.ensures.write
