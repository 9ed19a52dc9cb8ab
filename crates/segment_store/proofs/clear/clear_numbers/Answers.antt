use Rattle.std.proofs.Common.{refl, rules}
use Rattle.segment_pairs.proofs.Lifting.{outside_log, outside_then, outside_same}
use Rattle.segment_store.proofs.RecoveryGhosts.{keeps_then}
use Rattle.segment_store.proofs.RecoveryNumbers.{clears_all, clears_start, drop_end, sifts_on}
use Rattle.segment_store.proofs.Keeping.{clears_above}
use Rattle.segment_store.proofs.clear.clear_numbers.Goals as goal

pub loop-number-init : goal.loop-number-init
loop-number-init g c = record {
  clears = λ told. clears_start c.args.stream c.new-kept.result.items c.args.numbers.now (g.D.Disk.state c.args.disk.now) c.new-kept.ensures.items c.requires.rising (c.requires.covers told);
  recoverable = λ told r. r;
  others = outside_same _ _;
  later = search rules;
}

pub returns-in_err-sift_number-clause-images : goal.returns-in_err-sift_number-clause-images
returns-in_err-sift_number-clause-images g c = λ told.
    keeps_then c.args.stream (g.D.Disk.state c.args.disk.now) (g.D.Disk.state c.loop-number.disk) (g.D.Disk.state c.sift_number.new.disk) (c.loop-number.invariant.clears told).keeps (c.sift_number.ensures.images told)

pub returns-in_err-sift_number-clause-others : goal.returns-in_err-sift_number-clause-others
returns-in_err-sift_number-clause-others g c = outside_then _ _ _ _ c.loop-number.invariant.others (outside_log _ _ _ _ c.sift_number.ensures.others)

pub loop-number-preserved : goal.loop-number-preserved
loop-number-preserved g c = record {
  clears = λ told.
      sifts_on c.args.stream _ c.loop-number.number-index c.loop-number.kept.items c.sift_number.new.kept.items c.args.numbers.now (g.D.Disk.state c.args.disk.now) (g.D.Disk.state c.loop-number.disk) (g.D.Disk.state c.sift_number.new.disk) c.loop-number-test.true refl
      (λ f. g.met.D.Disk.reads_image c.loop-number.disk f told) (λ f. g.met.D.Disk.reads_image c.sift_number.new.disk f told) c.sift_number.ensures.others (c.in_ok-sift_number.ensures.sifts told) (c.loop-number.invariant.clears told);
  recoverable = λ told r.
      let some = clears_above c.args.stream _ c.loop-number.number-index c.loop-number.kept.items c.args.numbers.now (g.D.Disk.state c.args.disk.now) (g.D.Disk.state c.loop-number.disk) c.loop-number-test.true refl (c.loop-number.invariant.clears told) in
      c.sift_number.ensures.recoverable told some (c.loop-number.invariant.recoverable told r);
  others = outside_then _ _ _ _ c.loop-number.invariant.others (outside_log _ _ _ _ c.sift_number.ensures.others);
  later = search rules;
}

pub returns-clause-clears : goal.returns-clause-clears
returns-clause-clears g c = λ told. clears_all c.args.stream c.loop-number.kept.items _ (g.D.Disk.state c.args.disk.now) (g.D.Disk.state c.loop-number.disk) (drop_end c.loop-number.number-index c.args.numbers.now c.loop-number-test.false) (c.loop-number.invariant.clears told)

pub returns-in_err-sift_number-clause-recoverable : goal.returns-in_err-sift_number-clause-recoverable
returns-in_err-sift_number-clause-recoverable g c = λ told r.
    let some = clears_above c.args.stream _ c.loop-number.number-index c.loop-number.kept.items c.args.numbers.now (g.D.Disk.state c.args.disk.now) (g.D.Disk.state c.loop-number.disk) c.loop-number-test.true refl (c.loop-number.invariant.clears told) in
    c.sift_number.ensures.recoverable told some (c.loop-number.invariant.recoverable told r)
