use Rattle.std.proofs.Common.{◌≡◌, length}
use Rattle.client_program.proofs.LineLaws.{Queued}
use Rattle.client_program.proofs.lines.queue_lines.Given as goal

-- what was queued so far
abbrev pub invariant-lines : goal.invariant-lines
invariant-lines l = record {
  queued : Queued l.fn.text l.rest l.number l.fn.passed l.fn.core.client l.core.client;
  reader : l.core.reader ≡ l.fn.core.reader;
}

abbrev pub decreases-lines : goal.decreases-lines
decreases-lines l = length l.rest
