use Rattle.std.proofs.Common.{◌≤◌, ◌^◌, rules, arith, refl, zero-add}
use Rattle.std.proofs.Math.Pow.{pow_mono}
use Rattle.epoch_coordinator.proofs.Telling.{bits_from, bits_are}
use Rattle.epoch_coordinator.proofs.election.electors_of.Goals as goal

pub overflow_mul-bit : goal.overflow_mul-bit
overflow_mul-bit c =
    let small : 2 ^ c.members.tail-index ≤ 2 ^ 6 = pow_mono {i = c.members.tail-index} {j = 6} (omega (arith, c.members-test.true, c.requires)) in
    omega (arith, small, c.members.invariant.bit)

pub members-init : goal.members-init
members-init c = record { sum = search (rules, bits_are c.args.told.now, zero-add (bits_from 1 c.args.told.now)); below = search rules; bit = refl }
