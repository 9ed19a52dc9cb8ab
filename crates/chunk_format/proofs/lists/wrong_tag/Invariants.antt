use Rattle.chunk_format.specs.Tags.{tag_bytes, IsTagOf}
use Rattle.chunk_format.proofs.Gone.{Gone}
use Rattle.chunk_format.proofs.lists.wrong_tag.Given as goal

abbrev pub invariant-tags : goal.invariant-tags
invariant-tags l = Gone tag_bytes (IsTagOf l.first.name.now) l.trailer l._done l.at
