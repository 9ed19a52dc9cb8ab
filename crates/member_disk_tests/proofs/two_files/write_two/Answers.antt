use Rattle.std.proofs.Common.{◌≢◌, inr, sym}
use Rattle.disk_calls.proofs.Chain.{written_longer}
use Rattle.member_disk_tests.proofs.Stages.{did_done, place_of, kept, kept_looks, sure_after}
use Rattle.member_disk_tests.proofs.two_files.write_two.Goals as goal

pub returns-in-Failed-clause-first : goal.returns-in-Failed-clause-first
returns-in-Failed-clause-first g c = λ told a settled x left.
    written_longer _ _ _ a c.args.first_end _ settled (place_of _ _ _ a (c.requires.first_there told) settled) c.write_at.ensures.changes x left

pub returns-in-Failed-sync-clause-first : goal.returns-in-Failed-sync-clause-first
returns-in-Failed-sync-clause-first g c = λ told a settled x left.
    written_longer _ _ _ a c.args.first_end _ settled (place_of _ _ _ a (c.requires.first_there told) settled) c.write_at.ensures.changes x (c.sync.ensures.looks.images _ x left)

pub returns-in-Failed-write_at-clause-in_order : goal.returns-in-Failed-write_at-clause-in_order
returns-in-Failed-write_at-clause-in_order g c = λ told a b first second.
    let ne : c.args.second ≢ c.args.first = λ e. c.requires.apart (sym e) in
    let end = place_of _ _ _ a (c.requires.first_there told) first in
    let end_second = place_of _ _ _ b (c.requires.second_there told) second in
    let written = c.write_at.ensures.written told (did_done c.write_at.result c.in_default.not-Failed) in
    let synced = c.sync.ensures.durable (did_done c.sync.result c.in_default-sync.not-Failed) in
    let sure = sure_after _ _ _ _ a _ c.args.first_end first end written c.sync.ensures.looks synced in
    let second_there = kept_looks _ _ _ b c.sync.ensures.looks (kept _ _ _ _ _ b ne c.write_at.ensures.changes second) in
    inr (
      kept _ _ _ _ _ _ c.requires.apart c.write_at-2.ensures.changes sure,
      λ x left. written_longer _ _ _ b c.args.second_end _ second_there end_second c.write_at-2.ensures.changes x left,
    )

pub returns-clause-in_order : goal.returns-clause-in_order
returns-clause-in_order g c = λ told a b first second.
    let ne : c.args.second ≢ c.args.first = λ e. c.requires.apart (sym e) in
    let end = place_of _ _ _ a (c.requires.first_there told) first in
    let end_second = place_of _ _ _ b (c.requires.second_there told) second in
    let written = c.write_at.ensures.written told (did_done c.write_at.result c.in_default.not-Failed) in
    let synced = c.sync.ensures.durable (did_done c.sync.result c.in_default-sync.not-Failed) in
    let sure = sure_after _ _ _ _ a _ c.args.first_end first end written c.sync.ensures.looks synced in
    let second_there = kept_looks _ _ _ b c.sync.ensures.looks (kept _ _ _ _ _ b ne c.write_at.ensures.changes second) in
    inr (
      kept_looks _ _ _ _ c.sync-2.ensures.looks (kept _ _ _ _ _ _ c.requires.apart c.write_at-2.ensures.changes sure),
      λ x left. written_longer _ _ _ b c.args.second_end _ second_there end_second c.write_at-2.ensures.changes x (c.sync-2.ensures.looks.images _ x left),
    )

pub returns-clause-done : goal.returns-clause-done
returns-clause-done g c = λ told is a b first second.
    let ne : c.args.second ≢ c.args.first = λ e. c.requires.apart (sym e) in
    let end = place_of _ _ _ a (c.requires.first_there told) first in
    let end_second = place_of _ _ _ b (c.requires.second_there told) second in
    let written = c.write_at.ensures.written told (did_done c.write_at.result c.in_default.not-Failed) in
    let synced = c.sync.ensures.durable (did_done c.sync.result c.in_default-sync.not-Failed) in
    let sure = sure_after _ _ _ _ a _ c.args.first_end first end written c.sync.ensures.looks synced in
    let second_there = kept_looks _ _ _ b c.sync.ensures.looks (kept _ _ _ _ _ b ne c.write_at.ensures.changes second) in
    let written_second = c.write_at-2.ensures.written told (did_done c.write_at-2.result c.in_default-write_at.not-Failed) in (
      kept_looks _ _ _ _ c.sync-2.ensures.looks (kept _ _ _ _ _ _ c.requires.apart c.write_at-2.ensures.changes sure),
      sure_after _ _ _ _ b _ c.args.second_end second_there end_second written_second c.sync-2.ensures.looks (c.sync-2.ensures.durable is),
    )
