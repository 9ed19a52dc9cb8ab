use Rattle.std.proofs.Common.{◌≡◌, take}
use Rattle.std.specs.List.{AllByRecursion}
use Rattle.frame_wire.specs.Fields.{IsText}
use Rattle.stream_catalog.proofs.asking.copy_texts.Given as goal

abbrev pub invariant-loop-index : goal.invariant-loop-index
invariant-loop-index l = (l.row ≡ take l.index l.texts) × AllByRecursion IsText l.row
