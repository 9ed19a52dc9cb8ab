use Rattle.segment_store.proofs.Wording.{word_last}
use Rattle.segment_store.proofs.epochs.EpochStore.perform.Goals as goal

pub returns-clause-given : goal.returns-clause-given
returns-clause-given g c = word_last c.args.stream c.args.epoch _ c.in_ok-put.ensures.last
