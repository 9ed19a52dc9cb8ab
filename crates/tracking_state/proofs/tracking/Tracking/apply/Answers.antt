use Rattle.std.proofs.Common.{◌∙◌, ap, sym}
use Rattle.chunk_format.specs.Parts.{snapshot_of}
use Rattle.tracking_state.specs.Tracked.{Tracked}
use Rattle.tracking_state.specs.Notes.{noted}
use Rattle.tracking_state.proofs.Tracks.{said_noted, nothing_noted}
use Rattle.tracking_state.proofs.Calls.{on_ok}
use Rattle.tracking_state.proofs.tracking.Tracking.apply.Goals as goal

pub returns-in-Some-clause-tracks : goal.returns-in-Some-clause-tracks
returns-in-Some-clause-tracks c =
    let item = snapshot_of c.in-Some.item in
    on_ok c.note.result c.note.ensures.ok (λ is log old. is ∙ ap (λ (t : Tracked). noted t item) old ∙ said_noted log c.args.chunk.now item c.in-Some.ensures.says)

pub returns-in-None-clause-tracks : goal.returns-in-None-clause-tracks
returns-in-None-clause-tracks c log old = old ∙ sym (nothing_noted log c.args.chunk.now c.in-None.ensures.says)
