use Rattle.std.proofs.Common.{arith}
use Rattle.osiris_audit.proofs.Causing.{cause_after, cause_never, over_no_write}
use Rattle.osiris_audit.proofs.Opening.{made_other, made_broken, made_out, made_faulty}
use Rattle.osiris_audit.proofs.Indexed.{out_closed, out_broken}
use Rattle.osiris_audit.proofs.reindexing.reindex_file.Goals as goal

pub returns-in-Ok-false-clause-reindexes : goal.returns-in-Ok-false-clause-reindexes
returns-in-Ok-false-clause-reindexes g c = made_other c.in-Ok-false.field-0 _ _ _ c.take_header.new.window c.in-Ok-false.field-0-test c.in-Ok-false.ensures.takes

pub returns-in-Err-clause-reindexes : goal.returns-in-Err-clause-reindexes
returns-in-Err-clause-reindexes g c = made_broken c.in-Err.fault _ _ _ c.take_header.new.window c.in-Err.ensures.takes

pub returns-in-Err-write_index-clause-reindexes : goal.returns-in-Err-write_index-clause-reindexes
returns-in-Err-write_index-clause-reindexes g c = made_faulty c.in-Err-write_index.fault c.in-Ok-true.field-0 _ _ _ _ _ c.take_header.new.window c.in-Ok-true.field-0-test c.in-Ok-true.ensures.takes c.in-Err-write_index.ensures.indexes

pub returns-in-Ok-drain-clause-reindexes : goal.returns-in-Ok-drain-clause-reindexes
returns-in-Ok-drain-clause-reindexes g c = out_closed _ _ _ _ _ c.write_index.new.window (made_out c.in-Ok-true.field-0 _ _ _ _ _ c.take_header.new.window c.write_index.new.window c.in-Ok-true.field-0-test c.in-Ok-true.ensures.takes c.in-Ok.ensures.indexes) c.in-Ok-drain.ensures.drained

pub returns-clause-reindexes : goal.returns-clause-reindexes
returns-clause-reindexes g c = out_broken c.in-Err-drain.fault _ _ _ _ _ c.write_index.new.window (made_out c.in-Ok-true.field-0 _ _ _ _ _ c.take_header.new.window c.write_index.new.window c.in-Ok-true.field-0-test c.in-Ok-true.ensures.takes c.in-Ok.ensures.indexes) c.in-Err-drain.ensures.drained

pub returns-in-Ok-false-clause-read : goal.returns-in-Ok-false-clause-read
returns-in-Ok-false-clause-read g c = cause_never _ _ c.in-Ok-false.ensures.cause.later (λ e. absurd cc)

pub returns-in-Err-clause-read : goal.returns-in-Err-clause-read
returns-in-Err-clause-read g c = cause_after _ _ _ (omega arith) c.in-Err.ensures.cause (λ e. cc e)

pub returns-in-Err-clause-write : goal.returns-in-Err-clause-write
returns-in-Err-clause-write g c = cause_never _ _ (omega arith) (λ e. over_no_write c.in-Err.fault _ c.in-Err.ensures.takes.by.0 (cc e))

pub returns-in-Err-write_index-clause-read : goal.returns-in-Err-write_index-clause-read
returns-in-Err-write_index-clause-read g c = cause_after _ _ _ c.in-Ok-true.ensures.cause.later c.in-Err-write_index.ensures.read (λ e. cc e)

pub returns-in-Err-write_index-clause-write : goal.returns-in-Err-write_index-clause-write
returns-in-Err-write_index-clause-write g c = cause_after _ _ _ (omega arith) c.in-Err-write_index.ensures.write (λ e. cc e)

pub returns-in-Ok-drain-clause-read : goal.returns-in-Ok-drain-clause-read
returns-in-Ok-drain-clause-read g c =
    let one = c.in-Ok-true.ensures.cause.later in
    let two = c.in-Ok.ensures.read.later in
    let three = c.in-Ok-drain.ensures.cause.later in
    cause_never _ _ (omega arith) (λ e. absurd cc)

pub returns-in-Ok-drain-clause-write : goal.returns-in-Ok-drain-clause-write
returns-in-Ok-drain-clause-write g c = cause_never _ _ c.in-Ok.ensures.write.later (λ e. absurd cc)

pub returns-clause-read : goal.returns-clause-read
returns-clause-read g c =
    let one = c.in-Ok-true.ensures.cause.later in
    let two = c.in-Ok.ensures.read.later in
    cause_after _ _ _ (omega arith) c.in-Err-drain.ensures.cause (λ e. cc e)

pub returns-clause-write : goal.returns-clause-write
returns-clause-write g c = cause_never _ _ c.in-Ok.ensures.write.later (λ e. over_no_write c.in-Err-drain.fault _ c.in-Err-drain.ensures.drained.by (cc e))
