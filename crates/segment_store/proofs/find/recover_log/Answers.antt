use Rattle.segment_store.proofs.RecoveryJoined.{recovers_exactly}
use Rattle.segment_store.proofs.Returning.{err_same}
use Rattle.segment_store.proofs.find.recover_log.Goals as goal

pub returns-in_err-found-clause-never : goal.returns-in_err-found-clause-never
returns-in_err-found-clause-never g c = λ told can F segment at is.
    can.undamaged F (g.D.Disk.state c.args.disk.now).seen (λ f. g.met.D.Disk.reads_image c.args.disk.now f told) segment at (c.in_err-found.ensures.damaged told F segment at (err_same c.from_residual.result _ _ c.from_residual.ensures.1 is))

pub returns-in_err-found-clause-damaged : goal.returns-in_err-found-clause-damaged
returns-in_err-found-clause-damaged g c = λ told F segment at is. c.in_err-found.ensures.damaged told F segment at (err_same c.from_residual.result _ _ c.from_residual.ensures.1 is)

pub returns-clause-recovers : goal.returns-clause-recovers
returns-clause-recovers g c = λ told. rw c.of_rows.ensures.rows (c.in_ok-found.ensures.recovers told)

pub returns-clause-exact : goal.returns-clause-exact
returns-clause-exact g c = λ told. recovers_exactly c.args.stream _ _ (g.D.Disk.state c.args.disk.now) (g.D.Disk.state c.find_log.new.disk) (c.in_ok-found.ensures.recovers told)
