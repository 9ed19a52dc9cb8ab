use Rattle.std.proofs.Common.{◌+◌, refl, ◌∙◌, arith}
use Rattle.std.proofs.lemmas.List.{take_rest}
use Rattle.client_program.proofs.LineLaws.{queued_none, queued_at, not_empty, queued_line, queued_stop, queued_last, next_is}
use Rattle.client_program.proofs.lines.queue_lines.Goals as goal

pub lines-init : goal.lines-init
lines-init c = record { queued = queued_none _ _ _; reader = refl }

pub take_line-requires-clause-number : goal.take_line-requires-clause-number
take_line-requires-clause-number c =
    let count = c.lines.invariant.queued.count in
    let room = c.lines.invariant.queued.room in
    let short = c.requires.short in
    omega arith

pub take_line-requires-clause-next : goal.take_line-requires-clause-next
take_line-requires-clause-next c = next_is _ _ _ _ _ _ c.lines.invariant.queued c.requires.next

pub returns-in-Err-clause-queues : goal.returns-in-Err-clause-queues
returns-in-Err-clause-queues c = queued_stop c.in-Err.fault _ _ _ _ _ _ _ _ _ c.lines.invariant.queued c.in-Some.ensures.1.0 c.in-Some.ensures.1.1 c.in-Err.ensures.takes

pub lines-preserved : goal.lines-preserved
lines-preserved c = record {
  queued = queued_at _ _ _ _ _ _ _ (take_rest c.lines.rest.now (c.in-Some.k + 1))
      (queued_line _ _ _ _ _ _ _ _ _ c.lines.invariant.queued c.in-Some.ensures.1.0 c.in-Some.ensures.1.1 c.in-Ok.ensures.takes);
  reader = c.in-Ok.ensures.reader ∙ c.lines.invariant.reader;
}

pub take_line-requires-2-clause-number : goal.take_line-requires-2-clause-number
take_line-requires-2-clause-number c =
    let count = c.lines.invariant.queued.count in
    let room = c.lines.invariant.queued.room in
    let short = c.requires.short in
    omega arith

pub take_line-requires-2-clause-next : goal.take_line-requires-2-clause-next
take_line-requires-2-clause-next c = next_is _ _ _ _ _ _ c.lines.invariant.queued c.requires.next

pub returns-clause-queues : goal.returns-clause-queues
returns-clause-queues c = queued_last c.take_line-2.result _ _ _ _ _ _ _ c.lines.invariant.queued (not_empty _ c.if-is_empty.ensures) c.in_default.ensures c.take_line-2.ensures.takes
