use Rattle.std.proofs.Common.{◌+◌, ◌-◌, ◌++◌, ◌∷◌, [], ◌∙◌, ap, length, take, drop, refl}
use Rattle.tracking_state.specs.Tracked.{tracked_of}
use Rattle.tracking_state.proofs.Calls.{from_last, all_rest}
use Rattle.tracking_state.proofs.tracking.Tracking.of_log.Goals as goal

pub returns-in_default : goal.returns-in_default
returns-in_default c = c.in_ok-apply_all.ensures [] c.empty-tracking.ensures

pub returns : goal.returns
returns c =
    let log = c.args.log.now in
    let last = c.in-Some.last in
    let chunk = c.index-log-last.result in
    let there = c.in-Some.ensures.place in
    let start = from_last log last chunk c.in_ok-tracking.tracking c.requires c.in-Some.ensures.each there.0 there.1 c.index-log-last.is c.in_ok-tracking.ensures in
    c.in_ok-apply_all-2.ensures (take last log ++ chunk ∷ []) start ∙ ap tracked_of (all_rest log last chunk (take (length log - (last + 1)) (drop (last + 1) log)) there.0 c.index-log-last.is refl)
