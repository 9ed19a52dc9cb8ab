use Rattle.member_disk.specs.MemoryDisks.{state_of}
use Rattle.stream_catalog.specs.InHand.{Backed}
use Rattle.catalog_call_tests.proofs.calls.play.Given as goal

abbrev pub invariant-loop-at : goal.invariant-loop-at
invariant-loop-at l = Backed l.catalog (state_of l.disk.streams l.disk.faults)
