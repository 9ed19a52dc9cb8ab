use Rattle.std.proofs.Common.{length, ◌-◌}
use Rattle.chunk_format.specs.Parts.{tag_of}
use Rattle.tracking_state.proofs.Reading.{Newest}
use Rattle.tracking_state.proofs.said.newest_tag.Given as goal

abbrev pub invariant-tags : goal.invariant-tags
invariant-tags l = Newest l.trailer l.at l.id (tag_of l.first)

abbrev pub decreases-tags : goal.decreases-tags
decreases-tags l = length l.trailer - l.at
