use Rattle.std.proofs.Common.{◌≡◌, length, arith}
use Rattle.std.proofs.lemmas.Grind.{common_steps}
use Rattle.chunk_format.proofs.Splitting.{no_entry_in_nothing}
use Rattle.chunk_format.proofs.split.split_entry.Goals as goal

pub returns-then-is_empty : goal.returns-then-is_empty
returns-then-is_empty c = let none : length c.args.bytes.now ≡ 0 = grind (arith, common_steps) in no_entry_in_nothing c.args.bytes.now none
