use Rattle.member_disk.specs.MemoryDisks.{state_of}
use Rattle.segment_store_tests.specs.Backed.{IsBacked}
use Rattle.segment_store_tests.proofs.begun.grow.Given as goal

abbrev pub invariant-loop-written : goal.invariant-loop-written
invariant-loop-written l = IsBacked l.store (state_of l.disk.streams l.disk.faults)
