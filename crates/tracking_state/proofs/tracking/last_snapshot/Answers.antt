use Rattle.std.proofs.Common.{◌+◌, ◌∙◌, sym, ap, subst}
use Rattle.std.specs.List.{All}
use Rattle.std.proofs.lemmas.List.{take_all}
use Rattle.chunk_format.specs.declared.chunk.Header.{Header}
use Rattle.chunk_format.specs.Chunks.{IsChunk}
use Rattle.tracking_state.proofs.Calls.{LastSnapshot, last_here, last_same, each_more}
use Rattle.tracking_state.proofs.tracking.last_snapshot.Goals as goal
use Rattle.tracking_state.proofs.tracking.last_snapshot.Goals.{in-Snapshot, in_default}

pub loop-place-preserved : goal.loop-place-preserved
loop-place-preserved c =
    let log = c.args.log.now in
    let place = c.loop-place.place in
    let chunk = c.index-log-place.result in
    let last : LastSnapshot log (place + 1) c.match-header.last = elim c.match-header.branch [
      | in-Snapshot w ↦ last_here log place c.match-header.last chunk c.loop-place-test.true c.index-log-place.is (sym (ap (λ (h : Header). h.kind) c.header.ensures.header) ∙ w.in-Snapshot.is) w.last-is
      | in_default w ↦ last_same log place c.loop-place.last c.match-header.last c.loop-place.invariant.last w.last-is
    ] in
    record { each = each_more log place chunk c.loop-place-test.true c.index-log-place.is c.header.ensures.is_chunk c.loop-place.invariant.each; last = last }

pub returns-clause-each : goal.returns-clause-each
returns-clause-each c = subst (All IsChunk) (take_all c.loop-place.place c.args.log.now c.loop-place-test.false) c.loop-place.invariant.each
