use Rattle.member_disk.specs.MemoryDisks.{state_of}
use Rattle.segment_store_tests.specs.Backed.{IsBacked}
use Rattle.segment_store_tests.proofs.stopped.begin.Given as goal

abbrev pub invariant-loop-first : goal.invariant-loop-first
invariant-loop-first l = IsBacked l.store (state_of l.disk.streams l.disk.faults)
