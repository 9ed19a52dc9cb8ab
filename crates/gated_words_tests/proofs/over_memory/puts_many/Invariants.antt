use Rattle.member_disk.specs.MemoryDisks.{state_of}
use Rattle.gated_words.specs.Backing.{Backs}
use Rattle.gated_words_tests.proofs.over_memory.puts_many.Given as goal

abbrev pub invariant-loop-k : goal.invariant-loop-k
invariant-loop-k l = Backs l.gated (state_of l.disk.streams l.disk.faults)
