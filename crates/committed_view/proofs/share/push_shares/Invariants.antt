use Rattle.std.proofs.Common.{◌≡◌, ◌++◌, take, length}
use Rattle.committed_view.proofs.share.push_shares.Given as goal

abbrev pub invariant-loop-chunk : goal.invariant-loop-chunk
invariant-loop-chunk l = (l.list.items ≡ l.initial.list.items ++ take l.chunk-index l.chunks) × (l.before ≡ length l.initial.list.items)
