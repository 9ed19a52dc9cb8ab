use Rattle.segment_pairs.proofs.Lifting.{outside_then}
use Rattle.segment_store.proofs.RecoveryGhosts.{keeps_then, looks_keep}
use Rattle.segment_store.proofs.RecoveryJoined.{if_ok, outside_looks}
use Rattle.segment_store.proofs.RecoveryWhole.{found_damaged, found_keeps, found_outside, found_recovers, found_sound}
use Rattle.segment_store.proofs.Keeping.{images_recoverable}
use Rattle.segment_store.proofs.find.find_log.Goals as goal

pub returns-in_err-numbers-clause-images : goal.returns-in_err-numbers-clause-images
returns-in_err-numbers-clause-images g c = λ told. looks_keep c.args.stream (g.D.Disk.state c.args.disk.now) (g.D.Disk.state c.list_files.new.disk) c.list_files.ensures.looks

pub returns-in_err-numbers-clause-others : goal.returns-in_err-numbers-clause-others
returns-in_err-numbers-clause-others g c = outside_looks _ _ _ c.list_files.ensures.looks

pub returns-in_err-kept-clause-images : goal.returns-in_err-kept-clause-images
returns-in_err-kept-clause-images g c = λ told.
    keeps_then c.args.stream (g.D.Disk.state c.args.disk.now) (g.D.Disk.state c.list_files.new.disk) (g.D.Disk.state c.clear_numbers.new.disk) (looks_keep _ _ _ c.list_files.ensures.looks) (c.clear_numbers.ensures.images told)

pub returns-in_err-kept-clause-others : goal.returns-in_err-kept-clause-others
returns-in_err-kept-clause-others g c = outside_then _ _ _ _ (outside_looks _ _ _ c.list_files.ensures.looks) c.clear_numbers.ensures.others

pub read_log-requires : goal.read_log-requires
read_log-requires g c = λ told. rw c.deref-2.ensures.value (c.in_ok-kept.ensures.clears told).listed

pub returns-clause-images : goal.returns-clause-images
returns-clause-images g c = λ told.
    found_keeps c.args.stream (g.D.Disk.state c.args.disk.now) (g.D.Disk.state c.list_files.new.disk) (g.D.Disk.state c.clear_numbers.new.disk) (g.D.Disk.state c.read_log.new.disk) c.list_files.ensures.looks (c.clear_numbers.ensures.images told) (c.read_log.ensures.images told)

pub returns-clause-recovers : goal.returns-clause-recovers
returns-clause-recovers g c = λ told.
    if_ok _ _ _ (λ found. found_recovers c.args.stream _ found.rows.items found.chunks.items (g.D.Disk.state c.args.disk.now) (g.D.Disk.state c.list_files.new.disk) (g.D.Disk.state c.clear_numbers.new.disk) (g.D.Disk.state c.read_log.new.disk) c.list_files.ensures.looks (c.in_ok-kept.ensures.clears told)) (c.read_log.ensures.recovers told)

pub returns-clause-damaged : goal.returns-clause-damaged
returns-clause-damaged g c = λ told F segment at is.
    found_damaged F c.args.stream _ segment at (g.D.Disk.state c.args.disk.now) (g.D.Disk.state c.list_files.new.disk) (g.D.Disk.state c.clear_numbers.new.disk) c.list_files.ensures.looks (c.in_ok-kept.ensures.clears told) (c.read_log.ensures.damaged told F segment at is)

pub returns-clause-sound : goal.returns-clause-sound
returns-clause-sound g c = λ told F segment at.
    found_sound F c.args.stream _ segment at (g.D.Disk.state c.args.disk.now) (g.D.Disk.state c.list_files.new.disk) (g.D.Disk.state c.clear_numbers.new.disk) _ c.list_files.ensures.looks (c.in_ok-kept.ensures.clears told) (c.read_log.ensures.sound told F segment at)

pub returns-clause-others : goal.returns-clause-others
returns-clause-others g c = found_outside _ _ _ _ _ c.list_files.ensures.looks c.clear_numbers.ensures.others c.read_log.ensures.others

pub returns-in_err-numbers-clause-recoverable : goal.returns-in_err-numbers-clause-recoverable
returns-in_err-numbers-clause-recoverable g c = λ told. images_recoverable c.args.stream (g.D.Disk.state c.args.disk.now) (g.D.Disk.state c.list_files.new.disk) c.list_files.ensures.looks.images

pub returns-in_err-kept-clause-recoverable : goal.returns-in_err-kept-clause-recoverable
returns-in_err-kept-clause-recoverable g c = λ told r. c.clear_numbers.ensures.recoverable told (images_recoverable c.args.stream (g.D.Disk.state c.args.disk.now) (g.D.Disk.state c.list_files.new.disk) c.list_files.ensures.looks.images r)

pub returns-clause-recoverable : goal.returns-clause-recoverable
returns-clause-recoverable g c = λ told r. c.read_log.ensures.recoverable told (c.clear_numbers.ensures.recoverable told (images_recoverable c.args.stream (g.D.Disk.state c.args.disk.now) (g.D.Disk.state c.list_files.new.disk) c.list_files.ensures.looks.images r))
