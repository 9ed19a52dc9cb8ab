use Rattle.std.proofs.Common.{arith}
use Rattle.segment_pairs.proofs.Lifting.{outside_log, outside_then}
use Rattle.segment_store.proofs.RecoveryGhosts.{looks_keep}
use Rattle.segment_store.proofs.RecoveryJoined.{headless_keeps, headless_recovers, last_damaged, last_sound, outside_looks, reads_keep, reads_recover}
use Rattle.segment_store.proofs.Keeping.{images_recoverable, reached_recoverable}
use Rattle.segment_store.proofs.recover.end_recovery.Goals as goal

pub returns-in_err-seen-clause-images : goal.returns-in_err-seen-clause-images
returns-in_err-seen-clause-images g c = λ told. looks_keep c.args.stream (g.D.Disk.state c.args.disk.now) (g.D.Disk.state c.look_at.new.disk) c.look_at.ensures.looks

pub returns-in-Failed-clause-images : goal.returns-in-Failed-clause-images
returns-in-Failed-clause-images g c = λ told. looks_keep c.args.stream (g.D.Disk.state c.args.disk.now) (g.D.Disk.state c.look_at.new.disk) c.look_at.ensures.looks

pub returns-in-Headless-clause-images : goal.returns-in-Headless-clause-images
returns-in-Headless-clause-images g c = λ told.
    headless_keeps c.args.stream c.args.number c.in-Headless.headless c.args.found.now.rows.items c.args.found.now.chunks.items (g.D.Disk.state c.args.disk.now) (g.D.Disk.state c.look_at.new.disk) (g.D.Disk.state c.end_headless.new.disk) (omega arith)
    (λ f. g.met.D.Disk.reads_image c.look_at.new.disk f told) (c.requires told) c.look_at.ensures.looks (rw c.in-Headless.is at (c.in_ok-seen.ensures.shows told)) c.end_headless.ensures.others (c.end_headless.ensures.images told)

pub returns-in-Headless-clause-recovers : goal.returns-in-Headless-clause-recovers
returns-in-Headless-clause-recovers g c = λ told.
    headless_recovers c.args.stream c.args.number c.in-Headless.headless c.args.found.now.rows.items c.args.found.now.chunks.items (g.D.Disk.state c.args.disk.now) (g.D.Disk.state c.look_at.new.disk) (g.D.Disk.state c.end_headless.new.disk) _ (omega arith)
    (λ f. g.met.D.Disk.reads_image c.look_at.new.disk f told) (c.requires told) c.look_at.ensures.looks (rw c.in-Headless.is at (c.in_ok-seen.ensures.shows told)) c.end_headless.ensures.others (c.end_headless.ensures.restarts told)

pub returns-in-Headless-clause-damaged : goal.returns-in-Headless-clause-damaged
returns-in-Headless-clause-damaged g c = λ told F segment at is.
    last_damaged F c.args.stream c.args.number segment at c.args.found.now.rows.items c.args.found.now.chunks.items (g.D.Disk.state c.args.disk.now) (g.D.Disk.state c.look_at.new.disk) (omega arith)
    (λ f. g.met.D.Disk.reads_image c.args.disk.now f told) (c.requires told) c.look_at.ensures.looks (c.end_headless.ensures.damaged told segment at is)

pub returns-in-Headless-clause-sound : goal.returns-in-Headless-clause-sound
returns-in-Headless-clause-sound g c = λ told F segment at.
    last_sound F c.args.stream c.args.number segment at c.args.found.now.rows.items c.args.found.now.chunks.items (g.D.Disk.state c.args.disk.now) (g.D.Disk.state c.look_at.new.disk) _ (omega arith)
    (λ f. g.met.D.Disk.reads_image c.args.disk.now f told) (c.requires told) c.look_at.ensures.looks (c.end_headless.ensures.sound told)

pub returns-in-Headless-clause-others : goal.returns-in-Headless-clause-others
returns-in-Headless-clause-others g c = outside_then c.args.stream (g.D.Disk.state c.args.disk.now) (g.D.Disk.state c.look_at.new.disk) (g.D.Disk.state c.end_headless.new.disk) (outside_looks _ _ _ c.look_at.ensures.looks) (outside_log _ c.args.number _ _ c.end_headless.ensures.others)

pub returns-in-Chunks-clause-images : goal.returns-in-Chunks-clause-images
returns-in-Chunks-clause-images g c = λ told.
    reads_keep c.args.stream c.args.number _ _ _ _ _ _ c.args.found.now.rows.items c.args.found.now.chunks.items (g.D.Disk.state c.args.disk.now) (g.D.Disk.state c.look_at.new.disk) (g.D.Disk.state c.end_chunks.new.disk) (omega arith)
    (λ f. g.met.D.Disk.reads_image c.look_at.new.disk f told) (c.requires told) c.look_at.ensures.looks (rw c.in-Chunks.is at (c.in_ok-seen.ensures.shows told)) c.end_chunks.ensures.others (c.end_chunks.ensures.images told)

pub returns-in-Chunks-clause-recovers : goal.returns-in-Chunks-clause-recovers
returns-in-Chunks-clause-recovers g c = λ told.
    reads_recover c.args.stream c.args.number _ _ _ _ _ _ c.args.found.now.rows.items c.end_chunks.new.found.rows.items c.args.found.now.chunks.items c.end_chunks.new.found.chunks.items (g.D.Disk.state c.args.disk.now) (g.D.Disk.state c.look_at.new.disk) (g.D.Disk.state c.end_chunks.new.disk) _ (omega arith)
    (λ f. g.met.D.Disk.reads_image c.look_at.new.disk f told) (c.requires told) c.look_at.ensures.looks (rw c.in-Chunks.is at (c.in_ok-seen.ensures.shows told)) c.end_chunks.ensures.others (c.end_chunks.ensures.ends told)

pub returns-in-Chunks-clause-damaged : goal.returns-in-Chunks-clause-damaged
returns-in-Chunks-clause-damaged g c = λ told F segment at is.
    last_damaged F c.args.stream c.args.number segment at c.args.found.now.rows.items c.args.found.now.chunks.items (g.D.Disk.state c.args.disk.now) (g.D.Disk.state c.look_at.new.disk) (omega arith)
    (λ f. g.met.D.Disk.reads_image c.args.disk.now f told) (c.requires told) c.look_at.ensures.looks (c.end_chunks.ensures.damaged told segment at is)

pub returns-in-Chunks-clause-sound : goal.returns-in-Chunks-clause-sound
returns-in-Chunks-clause-sound g c = λ told F segment at.
    last_sound F c.args.stream c.args.number segment at c.args.found.now.rows.items c.args.found.now.chunks.items (g.D.Disk.state c.args.disk.now) (g.D.Disk.state c.look_at.new.disk) _ (omega arith)
    (λ f. g.met.D.Disk.reads_image c.args.disk.now f told) (c.requires told) c.look_at.ensures.looks (c.end_chunks.ensures.sound told)

pub returns-in-Chunks-clause-others : goal.returns-in-Chunks-clause-others
returns-in-Chunks-clause-others g c = outside_then c.args.stream (g.D.Disk.state c.args.disk.now) (g.D.Disk.state c.look_at.new.disk) (g.D.Disk.state c.end_chunks.new.disk) (outside_looks _ _ _ c.look_at.ensures.looks) (outside_log _ c.args.number _ _ c.end_chunks.ensures.others)

pub returns-in_err-seen-clause-recoverable : goal.returns-in_err-seen-clause-recoverable
returns-in_err-seen-clause-recoverable g c = λ told. images_recoverable c.args.stream (g.D.Disk.state c.args.disk.now) (g.D.Disk.state c.look_at.new.disk) c.look_at.ensures.looks.images

pub returns-in-Failed-clause-recoverable : goal.returns-in-Failed-clause-recoverable
returns-in-Failed-clause-recoverable g c = λ told. images_recoverable c.args.stream (g.D.Disk.state c.args.disk.now) (g.D.Disk.state c.look_at.new.disk) c.look_at.ensures.looks.images

pub returns-in-Headless-clause-recoverable : goal.returns-in-Headless-clause-recoverable
returns-in-Headless-clause-recoverable g c = λ told.
    reached_recoverable c.args.stream c.args.number c.args.found.now.rows.items c.args.found.now.chunks.items (g.D.Disk.state c.args.disk.now) (g.D.Disk.state c.look_at.new.disk) (g.D.Disk.state c.end_headless.new.disk) (omega arith) (c.requires told) c.look_at.ensures.looks c.end_headless.ensures.others (c.end_headless.ensures.left told)

pub returns-in-Chunks-clause-recoverable : goal.returns-in-Chunks-clause-recoverable
returns-in-Chunks-clause-recoverable g c = λ told.
    reached_recoverable c.args.stream c.args.number c.args.found.now.rows.items c.args.found.now.chunks.items (g.D.Disk.state c.args.disk.now) (g.D.Disk.state c.look_at.new.disk) (g.D.Disk.state c.end_chunks.new.disk) (omega arith) (c.requires told) c.look_at.ensures.looks c.end_chunks.ensures.others (c.end_chunks.ensures.left told)
