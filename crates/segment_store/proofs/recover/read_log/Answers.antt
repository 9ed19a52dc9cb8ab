use Rattle.std.proofs.Common.{refl, rules}
use Rattle.segment_pairs.proofs.Lifting.{outside_then}
use Rattle.segment_store.proofs.RecoveryGhosts.{keeps_then, looks_keep, looks_none, looks_same_log, looks_then}
use Rattle.segment_store.proofs.RecoveryNumbers.{drop_end}
use Rattle.segment_store.proofs.RecoveryLast.{recovers_from, walks_end, walks_start}
use Rattle.segment_store.proofs.RecoveryDamage.{damaged_looks, damaged_looked}
use Rattle.segment_store.proofs.RecoveryJoined.{outside_looks, walks_broken, walks_misplaced, walks_on}
use Rattle.segment_store.proofs.Keeping.{images_recoverable}
use Rattle.segment_store.proofs.recover.read_log.Goals as goal

pub loop-next-init : goal.loop-next-init
loop-next-init g c = record {
  looks = looks_none _;
  walks = λ told. walks_start c.args.stream _ _ c.args.numbers.now (g.D.Disk.state c.args.disk.now) c.new-found.ensures.rows c.new-found.ensures.chunks (c.requires told);
  later = search rules;
}

pub loop-next-preserved : goal.loop-next-preserved
loop-next-preserved g c = record {
  looks = looks_then _ _ _ c.loop-next.invariant.looks c.read_older.ensures.looks;
  walks = λ told.
      walks_on c.args.stream c.loop-next.number _ c.loop-next.next-index c.args.numbers.now _ _ _ _ _ (g.D.Disk.state c.loop-next.disk) (g.D.Disk.state c.read_older.new.disk) c.loop-next-test.true refl c.read_older.ensures.looks (c.loop-next.invariant.walks told) (c.in_ok-end.ensures.adds told) (search rules);
  later = search rules;
}

pub returns-in_err-end-clause-images : goal.returns-in_err-end-clause-images
returns-in_err-end-clause-images g c = λ told. looks_keep c.args.stream (g.D.Disk.state c.args.disk.now) (g.D.Disk.state c.read_older.new.disk) (looks_then _ _ _ c.loop-next.invariant.looks c.read_older.ensures.looks)

pub returns-in_err-end-clause-damaged : goal.returns-in_err-end-clause-damaged
returns-in_err-end-clause-damaged g c = λ told F segment at is.
    walks_broken F c.args.stream c.loop-next.number _ segment at c.loop-next.next-index c.args.numbers.now _ _ (g.D.Disk.state c.args.disk.now) (g.D.Disk.state c.loop-next.disk) (g.D.Disk.state c.read_older.new.disk) c.loop-next-test.true refl
    (λ f. g.met.D.Disk.reads_image c.loop-next.disk f told) c.loop-next.invariant.looks c.read_older.ensures.looks (c.loop-next.invariant.walks told) (c.in_err-end.ensures.damaged told segment at (search rules))

pub returns-in_err-end-clause-others : goal.returns-in_err-end-clause-others
returns-in_err-end-clause-others g c = outside_looks _ _ _ (looks_then _ _ _ c.loop-next.invariant.looks c.read_older.ensures.looks)

pub returns-then-next-end-clause-images : goal.returns-then-next-end-clause-images
returns-then-next-end-clause-images g c = λ told. looks_keep c.args.stream (g.D.Disk.state c.args.disk.now) (g.D.Disk.state c.read_older.new.disk) (looks_then _ _ _ c.loop-next.invariant.looks c.read_older.ensures.looks)

pub returns-then-next-end-clause-damaged : goal.returns-then-next-end-clause-damaged
returns-then-next-end-clause-damaged g c = λ told F segment at is.
    walks_misplaced F c.args.stream c.loop-next.number _ segment at c.loop-next.next-index c.args.numbers.now _ _ _ _ _ (g.D.Disk.state c.args.disk.now) (g.D.Disk.state c.loop-next.disk) (g.D.Disk.state c.read_older.new.disk) c.loop-next-test.true refl
    (λ f. g.met.D.Disk.reads_image c.read_older.new.disk f told) c.loop-next.invariant.looks c.read_older.ensures.looks (c.loop-next.invariant.walks told) (c.in_ok-end.ensures.adds told) (search rules) is

pub returns-then-next-end-clause-others : goal.returns-then-next-end-clause-others
returns-then-next-end-clause-others g c = outside_looks _ _ _ (looks_then _ _ _ c.loop-next.invariant.looks c.read_older.ensures.looks)

pub end_recovery-requires : goal.end_recovery-requires
end_recovery-requires g c = λ told. walks_end c.args.stream c.loop-next.number _ _ _ (g.D.Disk.state c.loop-next.disk) (drop_end c.loop-next.next-index c.args.numbers.now c.loop-next-test.false) (c.loop-next.invariant.walks told)

pub returns-in_err-end_recovery-clause-images : goal.returns-in_err-end_recovery-clause-images
returns-in_err-end_recovery-clause-images g c = λ told. keeps_then c.args.stream (g.D.Disk.state c.args.disk.now) (g.D.Disk.state c.loop-next.disk) (g.D.Disk.state c.end_recovery.new.disk) (looks_keep _ _ _ c.loop-next.invariant.looks) (c.end_recovery.ensures.images told)

pub returns-in_err-end_recovery-clause-damaged : goal.returns-in_err-end_recovery-clause-damaged
returns-in_err-end_recovery-clause-damaged g c = λ told F segment at is.
    damaged_looks F c.args.stream (g.D.Disk.state c.args.disk.now) (g.D.Disk.state c.loop-next.disk) segment at c.loop-next.invariant.looks (c.in_err-end_recovery.ensures.damaged told F segment at (search rules))

pub returns-in_err-end_recovery-clause-others : goal.returns-in_err-end_recovery-clause-others
returns-in_err-end_recovery-clause-others g c = outside_then _ _ _ _ (outside_looks _ _ _ c.loop-next.invariant.looks) c.end_recovery.ensures.others

pub returns-clause-images : goal.returns-clause-images
returns-clause-images g c = λ told. keeps_then c.args.stream (g.D.Disk.state c.args.disk.now) (g.D.Disk.state c.loop-next.disk) (g.D.Disk.state c.end_recovery.new.disk) (looks_keep _ _ _ c.loop-next.invariant.looks) (c.end_recovery.ensures.images told)

pub returns-clause-recovers : goal.returns-clause-recovers
returns-clause-recovers g c = λ told. recovers_from c.args.stream _ _ (g.D.Disk.state c.args.disk.now) (g.D.Disk.state c.loop-next.disk) (g.D.Disk.state c.end_recovery.new.disk) (λ F. looks_same_log F _ _ _ c.loop-next.invariant.looks) (c.in_ok-end_recovery.ensures.recovers told)

pub returns-clause-sound : goal.returns-clause-sound
returns-clause-sound g c = λ told F segment at damaged. c.in_ok-end_recovery.ensures.sound told F segment at (damaged_looked F c.args.stream (g.D.Disk.state c.args.disk.now) (g.D.Disk.state c.loop-next.disk) segment at c.loop-next.invariant.looks damaged)

pub returns-clause-others : goal.returns-clause-others
returns-clause-others g c = outside_then _ _ _ _ (outside_looks _ _ _ c.loop-next.invariant.looks) c.end_recovery.ensures.others

pub returns-in_err-end-clause-recoverable : goal.returns-in_err-end-clause-recoverable
returns-in_err-end-clause-recoverable g c = λ told. images_recoverable c.args.stream (g.D.Disk.state c.args.disk.now) (g.D.Disk.state c.read_older.new.disk) (looks_then _ _ _ c.loop-next.invariant.looks c.read_older.ensures.looks).images

pub returns-then-next-end-clause-recoverable : goal.returns-then-next-end-clause-recoverable
returns-then-next-end-clause-recoverable g c = λ told. images_recoverable c.args.stream (g.D.Disk.state c.args.disk.now) (g.D.Disk.state c.read_older.new.disk) (looks_then _ _ _ c.loop-next.invariant.looks c.read_older.ensures.looks).images

pub returns-in_err-end_recovery-clause-recoverable : goal.returns-in_err-end_recovery-clause-recoverable
returns-in_err-end_recovery-clause-recoverable g c = λ told r. c.end_recovery.ensures.recoverable told (images_recoverable c.args.stream (g.D.Disk.state c.args.disk.now) (g.D.Disk.state c.loop-next.disk) c.loop-next.invariant.looks.images r)

pub returns-clause-recoverable : goal.returns-clause-recoverable
returns-clause-recoverable g c = λ told r. c.end_recovery.ensures.recoverable told (images_recoverable c.args.stream (g.D.Disk.state c.args.disk.now) (g.D.Disk.state c.loop-next.disk) c.loop-next.invariant.looks.images r)
