use Rattle.osiris_audit.proofs.Causing.{either_read, write_cause, inspect_complete}
use Rattle.osiris_audit.proofs.inspecting.inspect.Goals as goal

pub returns-clause-inspects : goal.returns-clause-inspects
returns-clause-inspects g c = (c.inspect_files-outcome.result, c.status.ensures, c.inspect_files-outcome.ensures.inspects)

pub returns-clause-read : goal.returns-clause-read
returns-clause-read g c = either_read c.inspect_files-outcome.result c.status.result _ _ _ _ c.status.ensures c.inspect_files-outcome.ensures.cause

pub returns-clause-write : goal.returns-clause-write
returns-clause-write g c = write_cause c.inspect_files-outcome.result c.status.result _ _ c.status.ensures c.inspect_files-outcome.ensures.write

pub returns-clause-complete : goal.returns-clause-complete
returns-clause-complete g c = inspect_complete c.inspect_files-outcome.result c.status.result _ _ _ _ _ _ _ _ _ _ _ _ c.status.ensures c.inspect_files-outcome.ensures.inspects c.inspect_files-outcome.ensures.cause c.inspect_files-outcome.ensures.write
