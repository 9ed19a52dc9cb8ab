use Rattle.std.proofs.Common.{not, rules}
use Rattle.std.proofs.lemmas.Fn.{filter_same}
use Rattle.member_disk.specs.FilesInOrder.{same}
use Rattle.member_disk.proofs.memory_stream.forget.Goals as goal

pub returns : goal.returns
returns c = filter_same _ (λ f. not (same f c.args.name)) _ (λ x b f h. (search rules, search rules)) _ _ c.retain.ensures.filtered
