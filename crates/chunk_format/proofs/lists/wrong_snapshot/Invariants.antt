use Rattle.std.proofs.Common.{ℕ, ◌-◌, length}
use Rattle.chunk_format.specs.Tags.{snapshot_bytes, IsSnapshot}
use Rattle.chunk_format.proofs.Gone.{Gone}
use Rattle.chunk_format.proofs.lists.wrong_snapshot.Given as goal

abbrev pub invariant-entries : goal.invariant-entries
invariant-entries l = (count : ℕ) × Gone snapshot_bytes IsSnapshot l.body count l.at

abbrev pub decreases-entries : goal.decreases-entries
decreases-entries l = length l.body - l.at
