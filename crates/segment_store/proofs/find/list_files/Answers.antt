use Rattle.segment_store.proofs.RecoveryWhole.{covers_seen}
use Rattle.segment_store.proofs.find.list_files.Goals as goal

pub returns-in_ok-numbers_of-in-Names-clause-covers : goal.returns-in_ok-numbers_of-in-Names-clause-covers
returns-in_ok-numbers_of-in-Names-clause-covers g c = λ told returns.
    covers_seen c.args.stream (g.D.Disk.state c.args.disk.now) (g.D.Disk.state c.names.new.self) _ _ _ c.names.ensures.looks returns (rw c.in-Names.is at (c.in_ok-names.ensures.names told)) c.as_slice.ensures c.in_ok-numbers_of-in-Names.ensures
