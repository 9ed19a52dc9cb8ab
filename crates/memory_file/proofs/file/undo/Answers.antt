use Rattle.std.proofs.Common.{◌-◌, arith}
use Rattle.memory_file.proofs.Undoing.{take_last, undone_step}
use Rattle.memory_file.proofs.file.undo.Goals as goal

pub loop-left-preserved : goal.loop-left-preserved
loop-left-preserved c =
    (omega arith, undone_step c.args.took.now c.loop-left.left (c.loop-left.left - 1) c.index-took-left.result _ _ _ (take_last c.args.took.now c.loop-left.left c.index-took-left.result (omega arith) (omega arith) c.index-took-left.is) c.loop-left.invariant.1 c.in_ok-give_back.ensures)
