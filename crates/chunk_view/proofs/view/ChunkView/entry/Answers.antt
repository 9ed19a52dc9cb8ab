use Rattle.std.proofs.Common.{◌≡◌, arith}
use Rattle.chunk_view.specs.Shown.{shown_entries, shown_by}
use Rattle.chunk_view.proofs.ShownLaws.{entry_shown, entry_row}
use Rattle.chunk_view.proofs.PlaceLaws.{shown_at_place, body_at_place}
use Rattle.chunk_view.proofs.WalkLaws.{next_at, stands_kth, some_left}
use Rattle.chunk_view.proofs.view.ChunkView.entry.Goals as goal

pub entries-preserved : goal.entries-preserved
entries-preserved c = next_at c.next.result c.entries.views c.next.new.self (shown_entries c.args.self.now) c.entries._done c.entries.invariant c.next.ensures.steps

pub unreachable-requires : goal.unreachable-requires
unreachable-requires c =
    let chunk = c.args.self.now in
    some_left chunk.first chunk.entries c.entries.views c.entries._done c.args.k c.entries.invariant (omega arith) c.requires c.in_default.ensures.front

pub unreachable-unreachable : goal.unreachable-unreachable
unreachable-unreachable c = c.unreachable.result

pub returns-clause-shown : goal.returns-clause-shown
returns-clause-shown c =
    let all : c.entries._done ≡ c.args.k = omega arith in
    let front = c.in-Some.ensures.front in
    stands_kth (shown_entries c.args.self.now) c.entries.views front.0 c.entries._done c.args.k (shown_by c.in-Some.view) c.entries.invariant all front.1

pub returns-clause-entry : goal.returns-clause-entry
returns-clause-entry c = entry_shown c.args.self.now c.args.k (shown_by c.in-Some.view) (returns-clause-shown c)

pub returns-clause-place : goal.returns-clause-place
returns-clause-place c = shown_at_place c.args.self.now c.args.k (shown_by c.in-Some.view) (returns-clause-entry c)

pub returns-clause-body : goal.returns-clause-body
returns-clause-body c = body_at_place c.args.self.now c.args.k (shown_by c.in-Some.view) (returns-clause-entry c)

pub returns-clause-row : goal.returns-clause-row
returns-clause-row c = λ user. entry_row c.args.self.now c.args.k (shown_by c.in-Some.view) user (returns-clause-shown c)
