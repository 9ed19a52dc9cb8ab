use Rattle.std.proofs.Common.{length}
use Rattle.frame_commands.proofs.Readings.{SoFar}
use Rattle.frame_commands.proofs.given.read_frames.Given as goal

abbrev pub invariant-frames : goal.invariant-frames
invariant-frames l = SoFar l.max l.bytes l.commands l.left

abbrev pub decreases-frames : goal.decreases-frames
decreases-frames l = length l.left
