use Rattle.std.proofs.Common.{◌==◌, ℕ, not, rules}
use Rattle.std.proofs.lemmas.Fn.{filter_same}
use Rattle.member_disk.proofs.memory_stream.remove_due.Goals as goal

pub returns : goal.returns
returns c = filter_same _ (λ (n : ℕ). not (n == 0)) _ (λ x b f h. (search rules, search rules)) _ _ c.retain.ensures.filtered
