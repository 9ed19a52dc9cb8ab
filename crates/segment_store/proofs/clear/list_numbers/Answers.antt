use Rattle.segment_store.proofs.RecoveryNumbers.{names_step}
use Rattle.segment_store.proofs.clear.list_numbers.Goals as goal

pub loop-id-preserved : goal.loop-id-preserved
loop-id-preserved c = names_step c.args.names.now c.loop-id.id-index _ c.loop-id.numbers.items _ c.loop-id-test.true c.in_ok-add_number.ensures c.loop-id.invariant
