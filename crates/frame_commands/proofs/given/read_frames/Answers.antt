use Rattle.std.proofs.Common.{subst, arith}
use Rattle.frame_wire.specs.Frames.{size_of}
use Rattle.frame_wire.proofs.Streams.{frame_shortens}
use Rattle.frame_commands.specs.Fronts.{Adds}
use Rattle.frame_commands.proofs.Readings.{next_read, too_large, unspelt}
use Rattle.frame_commands.proofs.given.read_frames.Goals as goal

pub returns-in-TooLarge-clause-none : goal.returns-in-TooLarge-clause-none
returns-in-TooLarge-clause-none c = λ _. too_large c.args.max (omega arith) c.args.bytes.now c.frames.commands c.frames.left.now (size_of c.frames.left.now) c.frames.invariant c.in-TooLarge.ensures

pub returns-then-not-is_spelled-clause-none : goal.returns-then-not-is_spelled-clause-none
returns-then-not-is_spelled-clause-none c = λ _.
    let frame = c.in-Frame.ensures in
    let none = subst (Adds c.in-Frame.body.now c.frames.commands c.add_command.new.commands) c.if-not-is_spelled.true c.in_ok-is_spelled-in-Frame.ensures in
    unspelt c.args.max (omega arith) c.args.bytes.now c.frames.commands c.frames.left.now c.in-Frame.body.now c.in-Frame.behind.now c.frames.invariant frame.0 frame.1 none

pub frames-smaller : goal.frames-smaller
frames-smaller c = frame_shortens c.frames.left.now c.in-Frame.body.now c.in-Frame.behind.now c.in-Frame.ensures.0

pub frames-preserved : goal.frames-preserved
frames-preserved c =
    let frame = c.in-Frame.ensures in
    let adds = subst (Adds c.in-Frame.body.now c.frames.commands c.add_command.new.commands) c.if-not-is_spelled.false c.in_ok-is_spelled-in-Frame.ensures in
    next_read c.args.max c.args.bytes.now c.frames.commands c.frames.left.now c.in-Frame.body.now c.in-Frame.behind.now c.add_command.new.commands c.frames.invariant frame.0 frame.1 adds
