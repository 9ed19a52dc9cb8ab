use Rattle.segment_pairs.proofs.Torn.{torn_pair}
use Rattle.segment_pairs.proofs.Leaving.{torn_left}
use Rattle.segment_store.proofs.recover.settle.Goals as goal

pub returns-then-index_size-index_place-clause-images : goal.returns-then-index_size-index_place-clause-images
returns-then-index_size-index_place-clause-images g c = λ told cs t. torn_pair c.args.stream c.args.number cs c.args.place c.args.index_place (g.D.Disk.state c.args.disk.now) t

pub returns-then-index_size-index_place-clause-left : goal.returns-then-index_size-index_place-clause-left
returns-then-index_size-index_place-clause-left g c = λ told cs t. torn_left c.args.stream c.args.number cs c.args.place c.args.index_place (g.D.Disk.state c.args.disk.now) t
