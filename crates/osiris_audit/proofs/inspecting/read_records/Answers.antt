use Rattle.std.proofs.Common.{arith}
use Rattle.osiris_audit.proofs.Taking.{turn_went, turn_told}
use Rattle.osiris_audit.proofs.Causing.{either_after, either_never}
use Rattle.osiris_audit.proofs.inspecting.read_records.Goals as goal

pub records-init : goal.records-init
records-init g c = record { far = λ s0 i0 w0 f. f; later = omega arith; index_later = omega arith; out_later = omega arith }

pub records-smaller : goal.records-smaller
records-smaller g c =
    let goes = c.in-Ok-Next.ensures.goes (cc c.in-Ok-Next.field-0-is) in
    omega (arith, goes.0, goes.1)

pub records-preserved : goal.records-preserved
records-preserved g c =
    let later = c.records.invariant.later in
    let index_later = c.records.invariant.index_later in
    let out_later = c.records.invariant.out_later in
    let one = c.in-Ok-Next.ensures.cause.one_later in
    let two = c.in-Ok-Next.ensures.cause.two_later in
    let write = c.in-Ok-Next.ensures.write.later in
    record {
      far = λ s0 i0 w0 f. turn_went c.in-Ok-Next.field-0 s0 _ i0 _ w0 _ _ _ _ c.in-Ok-Next.field-0-is (c.in-Ok-Next.ensures.turn s0 i0 w0 (c.records.invariant.far s0 i0 w0 f));
      later = omega arith;
      index_later = omega arith;
      out_later = omega arith;
    }

pub returns-in-Ok-Last-clause-reads : goal.returns-in-Ok-Last-clause-reads
returns-in-Ok-Last-clause-reads g c = λ s0 i0 w0 f. turn_told c.in-Ok-Last.field-0 c.in-Ok-Last.good s0 _ i0 _ w0 _ _ _ _ c.in-Ok-Last.field-0-is (c.in-Ok-Last.ensures.turn s0 i0 w0 (c.records.invariant.far s0 i0 w0 f))

pub returns-in-Ok-Last-clause-cause : goal.returns-in-Ok-Last-clause-cause
returns-in-Ok-Last-clause-cause g c =
    let later = c.records.invariant.later in
    let index_later = c.records.invariant.index_later in
    let one = c.in-Ok-Last.ensures.cause.one_later in
    let two = c.in-Ok-Last.ensures.cause.two_later in
    either_never _ _ _ _ (omega arith) (omega arith) (λ e. absurd cc)

pub returns-in-Err-clause-reads : goal.returns-in-Err-clause-reads
returns-in-Err-clause-reads g c = λ s0 i0 w0 f. c.in-Err.ensures.turn s0 i0 w0 (c.records.invariant.far s0 i0 w0 f)

pub returns-in-Err-clause-cause : goal.returns-in-Err-clause-cause
returns-in-Err-clause-cause g c = either_after _ _ _ _ _ _ c.records.invariant.later c.records.invariant.index_later c.in-Err.ensures.cause (λ e. cc e)
