use Rattle.std.proofs.Common.{◌≡◌, take}
use Rattle.chunk_format.specs.Logs.{Truthful}
use Rattle.tracking_state.specs.Tracked.{tracked_of}
use Rattle.tracking_state.proofs.tracking.first_untruthful.Given as goal

abbrev pub invariant-loop-place : goal.invariant-loop-place
invariant-loop-place l = record { truthful : Truthful (take l.place l.log); tracks : l.tracking ≡ tracked_of (take l.place l.log) }
