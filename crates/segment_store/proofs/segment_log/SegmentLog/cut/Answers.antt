use Rattle.std.proofs.Common.{sym, subst}
use Rattle.segment_pairs.specs.Held.{EachLog, all_chunks}
use Rattle.segment_store.specs.Rows.{FrontEnds}
use Rattle.segment_store.specs.Jobs.{Between}
use Rattle.segment_store.specs.Logs.{LogInHand, Standing}
use Rattle.segment_store.proofs.segment_log.SegmentLog.cut.Goals as goal

pub cut_log-requires : goal.cut_log-requires
cut_log-requires g c = λ told.
    let (segments, stands, ends) = c.requires told in
    (segments, ends.0, subst (λ (v : LogInHand). Standing v segments (g.D.Disk.state c.args.disk.now)) (sym c.self.view_is) stands, subst (λ (v : LogInHand). FrontEnds v.rows ends.0 c.args.end) (sym c.self.view_is) ends.1)

pub returns-clause-images : goal.returns-clause-images
returns-clause-images g c = λ told segments stands.
    let ends = (c.requires told).2 in
    subst (λ (v : LogInHand). EachLog v.stream (Between c.args.end (all_chunks segments)) (g.D.Disk.state c.cut_log.new.disk)) c.self.view_is
    (c.cut_log.ensures.images told segments ends.0 (subst (λ (v : LogInHand). Standing v segments (g.D.Disk.state c.args.disk.now)) (sym c.self.view_is) stands) (subst (λ (v : LogInHand). FrontEnds v.rows ends.0 c.args.end) (sym c.self.view_is) ends.1))

pub returns-clause-done : goal.returns-clause-done
returns-clause-done g c = λ told did segments stands.
    let ends = (c.requires told).2 in
    c.cut_log.ensures.done told did segments ends.0 (subst (λ (v : LogInHand). Standing v segments (g.D.Disk.state c.args.disk.now)) (sym c.self.view_is) stands) (subst (λ (v : LogInHand). FrontEnds v.rows ends.0 c.args.end) (sym c.self.view_is) ends.1)
