use Rattle.std.proofs.Common.{ℕ, ◌/◌, ◌∙◌, ap}
use Rattle.std.specs.Prelude.{nat_le}
use Rattle.epoch_coordinator.specs.MemberSteps.{reaching}
use Rattle.member_core.proofs.Commits.{half}
use Rattle.member_core.proofs.commit.has_majority.Goals as goal

pub returns : goal.returns
returns c = ap (λ (n : ℕ). nat_le (c.args.members / 2) n) c.reaching.ensures ∙ half c.args.members (reaching c.args.end c.args.acknowledged.now)
