use Rattle.std.proofs.Common.{◌≡◌, ◌≤◌, ◌+◌, ◌-◌, drop}
use Rattle.settling_laws.specs.Settling.{job_from}
use Rattle.stream_settle.proofs.next.first_busy.Given as goal

-- none of the members so far has a job
abbrev pub invariant-members : goal.invariant-members
invariant-members l = (l.place ≤ 7) × (job_from 1 l.cluster.state.cluster.seats ≡ job_from (l.place + 1) (drop l.place l.cluster.state.cluster.seats))

abbrev pub decreases-members : goal.decreases-members
decreases-members l = 7 - l.place
