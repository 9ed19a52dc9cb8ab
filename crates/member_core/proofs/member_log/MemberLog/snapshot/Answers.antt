use Rattle.std.proofs.Common.{◌∙◌, sym, ap, subst}
use Rattle.std.specs.Int.{w64}
use Rattle.std.proofs.lemmas.Int.{to_z-of_z}
use Rattle.chunk_format.specs.Logs.{IsLog, end_of, opening_chunk}
use Rattle.epoch_coordinator.specs.declared.tail.Tail.{Tail}
use Rattle.member_core.specs.Kept.{whole}
use Rattle.member_core.proofs.Keeping.{whole_parts}
use Rattle.member_core.proofs.Snapshots.{tracks_whole, body_fits, snapshot_same, snapshot_right, made_is}
use Rattle.member_core.proofs.member_log.MemberLog.snapshot.Goals as goal

pub snapshot_entry-requires : goal.snapshot_entry-requires
snapshot_entry-requires c =
    let i = c.self.inside in
    let l = c.args.self.now in
    let tracks = tracks_whole i.written i.chunks.items c.as_slice-2.result.now l c.catch_up.new.self.tracking c.self.view_is c.as_slice-2.ensures.value c.in_ok-catch_up.ensures.ok in
    body_fits c.catch_up.new.self.tracking (whole l) tracks c.requires.len

pub make_snapshot-requires : goal.make_snapshot-requires
make_snapshot-requires c =
    let i = c.self.inside in
    let l = c.args.self.now in
    let tracks = tracks_whole i.written i.chunks.items c.as_slice-2.result.now l c.catch_up.new.self.tracking c.self.view_is c.as_slice-2.ensures.value c.in_ok-catch_up.ensures.ok in
    let all = whole_parts i.written i.chunks.items l c.self.view_is in
    let first = ap (λ (t : Tail). t.end) c.tail_of-first.ensures ∙ ap end_of (c.as_slice.ensures.value ∙ sym all) in
    let log = subst IsLog (sym all) c.self.invariant.0.is_log in
    snapshot_right c.args.epoch c.args.stamp _ c.tail_of-first.result.end c.in_ok-entry.entry (whole l) (to_z-of_z w64 c.args.stamp c.ranges.stamp) first (c.in_ok-entry.ensures.log (whole l) tracks) log c.ranges.stamp c.ranges.epoch.fits c.requires.end c.requires.len

pub returns-clause-chunk : goal.returns-clause-chunk
returns-clause-chunk c =
    let i = c.self.inside in
    let l = c.args.self.now in
    let tracks = tracks_whole i.written i.chunks.items c.as_slice-2.result.now l c.catch_up.new.self.tracking c.self.view_is c.as_slice-2.ensures.value c.in_ok-catch_up.ensures.ok in
    let all = whole_parts i.written i.chunks.items l c.self.view_is in
    let first = ap (λ (t : Tail). t.end) c.tail_of-first.ensures ∙ ap end_of (c.as_slice.ensures.value ∙ sym all) in
    let same = snapshot_same c.args.epoch c.args.stamp _ c.tail_of-first.result.end c.in_ok-entry.entry (whole l) (to_z-of_z w64 c.args.stamp c.ranges.stamp) first (c.in_ok-entry.ensures.log (whole l) tracks) in
    made_is c.make_snapshot.result _ (opening_chunk c.args.epoch c.args.stamp (whole l)) same c.make_snapshot.ensures
