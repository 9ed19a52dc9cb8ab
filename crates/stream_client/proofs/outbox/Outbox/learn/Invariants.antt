use Rattle.std.proofs.Common.{take}
use Rattle.stream_client.proofs.Posting.{Learned}
use Rattle.stream_client.proofs.outbox.Outbox.learn.Given as goal

abbrev pub invariant-loop-id : goal.invariant-loop-id
invariant-loop-id l = Learned l.fn.self (take l.id-index l.ids) l.self
