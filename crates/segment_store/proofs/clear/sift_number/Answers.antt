use Rattle.segment_store.proofs.RecoveryGhosts.{looks_keep}
use Rattle.segment_store.proofs.RecoveryNumbers.{sift_keeps, told_none}
use Rattle.segment_store.proofs.Keeping.{images_recoverable, sift_recoverable}
use Rattle.segment_store.proofs.clear.sift_number.Goals as goal

pub returns-in_err-push-in-Some-true-clause-images : goal.returns-in_err-push-in-Some-true-clause-images
returns-in_err-push-in-Some-true-clause-images g c = λ told. looks_keep c.args.stream (g.D.Disk.state c.args.disk.now) (g.D.Disk.state c.has_records.new.disk) c.has_records.ensures.looks

pub returns-in-None-clause-images : goal.returns-in-None-clause-images
returns-in-None-clause-images g c = λ told. looks_keep c.args.stream (g.D.Disk.state c.args.disk.now) (g.D.Disk.state c.has_records.new.disk) c.has_records.ensures.looks

pub returns-in_ok-push-in-Some-true-clause-images : goal.returns-in_ok-push-in-Some-true-clause-images
returns-in_ok-push-in-Some-true-clause-images g c = λ told. looks_keep c.args.stream (g.D.Disk.state c.args.disk.now) (g.D.Disk.state c.has_records.new.disk) c.has_records.ensures.looks

pub returns-in-Some-false-clause-images : goal.returns-in-Some-false-clause-images
returns-in-Some-false-clause-images g c = λ told.
    sift_keeps c.args.stream c.args.number (g.D.Disk.state c.args.disk.now) (g.D.Disk.state c.has_records.new.disk) (g.D.Disk.state c.remove_number.new.disk) (λ f. g.met.D.Disk.reads_image c.has_records.new.disk f told) c.has_records.ensures.looks
    (told_none _ _ c.in-Some-false.field-0-test (c.in-Some-false.ensures.told told)) c.remove_number.ensures.others c.remove_number.ensures.images

pub returns-in_err-push-in-Some-true-clause-recoverable : goal.returns-in_err-push-in-Some-true-clause-recoverable
returns-in_err-push-in-Some-true-clause-recoverable g c = λ told some. images_recoverable c.args.stream (g.D.Disk.state c.args.disk.now) (g.D.Disk.state c.has_records.new.disk) c.has_records.ensures.looks.images

pub returns-in-None-clause-recoverable : goal.returns-in-None-clause-recoverable
returns-in-None-clause-recoverable g c = λ told some. images_recoverable c.args.stream (g.D.Disk.state c.args.disk.now) (g.D.Disk.state c.has_records.new.disk) c.has_records.ensures.looks.images

pub returns-in_ok-push-in-Some-true-clause-recoverable : goal.returns-in_ok-push-in-Some-true-clause-recoverable
returns-in_ok-push-in-Some-true-clause-recoverable g c = λ told some. images_recoverable c.args.stream (g.D.Disk.state c.args.disk.now) (g.D.Disk.state c.has_records.new.disk) c.has_records.ensures.looks.images

pub returns-in-Some-false-clause-recoverable : goal.returns-in-Some-false-clause-recoverable
returns-in-Some-false-clause-recoverable g c = λ told some.
    sift_recoverable c.args.stream c.args.number (g.D.Disk.state c.args.disk.now) (g.D.Disk.state c.has_records.new.disk) (g.D.Disk.state c.remove_number.new.disk) (λ f. g.met.D.Disk.reads_image c.has_records.new.disk f told) some c.has_records.ensures.looks
    (told_none _ _ c.in-Some-false.field-0-test (c.in-Some-false.ensures.told told)) c.remove_number.ensures.others c.remove_number.ensures.images (c.remove_number.ensures.left told)
