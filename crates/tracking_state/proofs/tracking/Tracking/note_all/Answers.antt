use Rattle.std.proofs.Common.{◌-◌, length, take, drop, refl, arith}
use Rattle.chunk_format.specs.Tags.{snapshot_bytes, IsSnapshot}
use Rattle.chunk_format.specs.Parts.{snapshot_of}
use Rattle.chunk_format.proofs.Codes.{snapshot_code}
use Rattle.tracking_state.proofs.Reading.{noted_none, noted_more, noted_whole, item_left}
use Rattle.tracking_state.proofs.tracking.Tracking.note_all.Goals as goal

pub items-init : goal.items-init
items-init c = noted_none c.args.body.now c.args.self.now

pub returns-in_default : goal.returns-in_default
returns-in_default c items spells =
    let body = c.args.body.now in
    let notes = c.items.invariant in
    absurd (item_left snapshot_bytes IsSnapshot snapshot_code body notes.count c.items.at notes.gone c.items-test.true items spells.0 spells.1 (take (length body - c.items.at) (drop c.items.at body)) refl c.in_default.ensures)

pub items-smaller : goal.items-smaller
items-smaller c = let split = c.in-Some.ensures in omega (arith, c.items-test.true, split.2, snapshot_code.some (snapshot_of c.in-Some.item) split.0)

pub items-preserved : goal.items-preserved
items-preserved c =
    let split = c.in-Some.ensures in
    noted_more c.args.body.now c.items.at c.args.self.now c.items.self c.note.new.self c.items.invariant (snapshot_of c.in-Some.item) c.in-Some.len _ refl split.0 split.1 split.2 c.in_ok-note.ensures.ok

pub returns : goal.returns
returns c = noted_whole c.args.body.now c.items.at c.args.self.now c.items.self c.items.invariant c.items-test.false
