use Rattle.std.proofs.Common.{arith}
use Rattle.osiris_audit.proofs.Taking.{step_next, step_out}
use Rattle.osiris_audit.proofs.reindexing.write_records.Goals as goal

pub chunks-init : goal.chunks-init
chunks-init g c = record { runs = λ s0 w0 r. r; later = omega arith; out_later = omega arith }

pub chunks-smaller : goal.chunks-smaller
chunks-smaller g c =
    let goes = c.in-Ok-true.ensures.goes (cc c.in-Ok-true.field-0-test) in
    omega (arith, goes.0, goes.1)

pub chunks-preserved : goal.chunks-preserved
chunks-preserved g c =
    let later = c.chunks.invariant.later in
    let out_later = c.chunks.invariant.out_later in
    let read = c.in-Ok-true.ensures.read.later in
    let write = c.in-Ok-true.ensures.write.later in
    record {
      runs = λ s0 w0 r. step_next c.in-Ok-true.field-0 s0 _ w0 _ _ _ c.in-Ok-true.field-0-test (c.in-Ok-true.ensures.step s0 w0 (c.chunks.invariant.runs s0 w0 r));
      later = omega arith;
      out_later = omega arith;
    }

pub returns-in-Ok-false-clause-indexes : goal.returns-in-Ok-false-clause-indexes
returns-in-Ok-false-clause-indexes g c = λ s0 w0 r. step_out c.in-Ok-false.field-0 s0 _ w0 _ _ _ c.in-Ok-false.field-0-test (c.in-Ok-false.ensures.step s0 w0 (c.chunks.invariant.runs s0 w0 r))

pub returns-in-Err-clause-indexes : goal.returns-in-Err-clause-indexes
returns-in-Err-clause-indexes g c = λ s0 w0 r. c.in-Err.ensures.step s0 w0 (c.chunks.invariant.runs s0 w0 r)
