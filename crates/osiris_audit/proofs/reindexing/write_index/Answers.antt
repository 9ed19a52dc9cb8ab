use Rattle.osiris_audit.proofs.Causing.{cause_after}
use Rattle.osiris_audit.proofs.Indexed.{runs_start, unwritten_header}
use Rattle.osiris_audit.proofs.reindexing.write_index.Goals as goal

pub returns-in-Done-clause-indexes : goal.returns-in-Done-clause-indexes
returns-in-Done-clause-indexes g c = λ s0 seg took t. c.write_records.ensures.indexes s0 _ (runs_start s0 _ _ _ c.args.window.now seg took t c.in-Done.ensures.gave)

pub returns-in-Done-clause-write : goal.returns-in-Done-clause-write
returns-in-Done-clause-write g c = cause_after _ _ _ c.in-Done.ensures.cause.later c.write_records.ensures.write (λ e. e)

pub returns-in-Failed-clause-indexes : goal.returns-in-Failed-clause-indexes
returns-in-Failed-clause-indexes g c = λ s0 seg took t. unwritten_header c.in-Failed.ensures.gave.0 s0 _ _ _ c.args.window.now seg took t c.in-Failed.ensures.gave.1
