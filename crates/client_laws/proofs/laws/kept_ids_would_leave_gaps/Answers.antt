use Rattle.std.proofs.Common.{refl}
use Rattle.client_laws.proofs.Worked.{jumps, is_gapped}
use Rattle.client_laws.proofs.laws.kept_ids_would_leave_gaps.Goals as goal

pub returns-clause-jumps : goal.returns-clause-jumps
returns-clause-jumps c = jumps

pub returns-clause-passes_last : goal.returns-clause-passes_last
returns-clause-passes_last c = refl

pub returns-clause-gapped : goal.returns-clause-gapped
returns-clause-gapped c = is_gapped
