use Rattle.segment_store_tests.proofs.Standing.{memory_returns}
use Rattle.segment_store_tests.proofs.over_memory.recover.Goals as goal

pub recover-requires : goal.recover-requires
recover-requires c = λ told. memory_returns 1 c.args.disk.now.streams c.args.disk.now.faults
