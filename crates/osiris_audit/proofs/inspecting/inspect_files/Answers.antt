use Rattle.std.proofs.Common.{ℕ, ◌-◌, ◌/◌, ◌∙◌, ap, arith}
use Rattle.osiris_audit.proofs.Finishing.{inspects_broken, segment_undrained, index_undrained, inspects_closed}
use Rattle.osiris_audit.proofs.Causing.{either_after, either_left, either_right, either_never, cause_after, cause_never, over_no_write, closes_no_read}
use Rattle.osiris_audit.proofs.inspecting.inspect_files.Goals as goal

pub returns-in-Err-clause-inspects : goal.returns-in-Err-clause-inspects
returns-in-Err-clause-inspects g c = inspects_broken c.in-Err.fault _ _ _ _ _ _ c.in-Err.ensures.reads

pub returns-in-Err-clause-cause : goal.returns-in-Err-clause-cause
returns-in-Err-clause-cause g c = either_after _ _ _ _ _ _ (omega arith) (omega arith) c.in-Err.ensures.cause (λ e. cc e)

pub returns-in-Err-drain-clause-inspects : goal.returns-in-Err-drain-clause-inspects
returns-in-Err-drain-clause-inspects g c = segment_undrained c.in-Err-drain.fault c.in-Ok.good _ _ _ _ _ _ _ c.read_both.new.segment_window c.read_both.new.index_window c.in-Ok.ensures.reads c.in-Err-drain.ensures.drained

pub returns-in-Err-drain-clause-cause : goal.returns-in-Err-drain-clause-cause
returns-in-Err-drain-clause-cause g c = either_left _ _ _ _ (cause_after _ _ _ c.in-Ok.ensures.cause.one_later c.in-Err-drain.ensures.cause (λ e. cc e)) c.in-Ok.ensures.cause.two_later (λ e. e)

pub returns-in-Err-drain-2-clause-inspects : goal.returns-in-Err-drain-2-clause-inspects
returns-in-Err-drain-2-clause-inspects g c = index_undrained c.in-Err-drain-2.fault c.in-Ok.good _ _ _ _ _ _ _ _ c.read_both.new.segment_window c.read_both.new.index_window c.in-Ok.ensures.reads c.in-Ok-drain.ensures.drained c.in-Err-drain-2.ensures.drained

pub returns-in-Err-drain-2-clause-cause : goal.returns-in-Err-drain-2-clause-cause
returns-in-Err-drain-2-clause-cause g c =
    let one = c.in-Ok.ensures.cause.one_later in
    let drained = c.in-Ok-drain.ensures.cause.later in
    either_right _ _ _ _ (omega arith) (cause_after _ _ _ c.in-Ok.ensures.cause.two_later c.in-Err-drain-2.ensures.cause (λ e. cc e)) (λ e. e)

pub returns-clause-inspects : goal.returns-clause-inspects
returns-clause-inspects g c = inspects_closed c.close.result c.in-Ok.good c.record_count-count.result _ _ _ _ _ _ _ _ _ c.read_both.new.segment_window c.read_both.new.index_window c.in-Ok.ensures.reads
    (c.record_count-count.ensures ∙ ap (λ (k : ℕ). (k - 8) / 29) c.place.ensures.place) c.in-Ok-drain.ensures.drained c.in-Ok-drain-2.ensures.drained c.close.ensures.closes

pub returns-clause-cause : goal.returns-clause-cause
returns-clause-cause g c =
    let one = c.in-Ok.ensures.cause.one_later in
    let two = c.in-Ok.ensures.cause.two_later in
    let drained = c.in-Ok-drain.ensures.cause.later in
    let index_drained = c.in-Ok-drain-2.ensures.cause.later in
    either_never _ _ _ _ (omega arith) (omega arith) (closes_no_read _ _ c.close.result _ _ c.close.ensures.closes)

pub returns-clause-write : goal.returns-clause-write
returns-clause-write g c = cause_after _ _ _ c.in-Ok.ensures.write.later c.close.ensures.write (λ e. e)

pub returns-in-Err-drain-clause-write : goal.returns-in-Err-drain-clause-write
returns-in-Err-drain-clause-write g c = cause_never _ _ c.in-Ok.ensures.write.later (λ e. over_no_write c.in-Err-drain.fault _ c.in-Err-drain.ensures.drained.by (cc e))

pub returns-in-Err-drain-2-clause-write : goal.returns-in-Err-drain-2-clause-write
returns-in-Err-drain-2-clause-write g c = cause_never _ _ c.in-Ok.ensures.write.later (λ e. over_no_write c.in-Err-drain-2.fault _ c.in-Err-drain-2.ensures.drained.by (cc e))
