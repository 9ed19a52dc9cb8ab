use Rattle.std.proofs.Common.{List, Option, Ok, None, ap}
use Rattle.epoch_coordinator.specs.declared.tail.Tail.{Tail}
use Rattle.epoch_coordinator.specs.declared.coordinator.Phase.TheVariants.{Idle}
use Rattle.epoch_coordinator.proofs.Telling.{take_untold}
use Rattle.epoch_coordinator.proofs.coordinator.Coordinator.open.Goals as goal

pub returns : goal.returns
returns c =
    ap (λ (l : List (Option Tail)). Ok (record { members = c.args.members; epoch = c.args.epoch; job = None; phase = Idle; told = l })) (take_untold c.args.members 7 c.requires.most)
