use Rattle.std.proofs.Common.{◌^◌, ◌-◌, ◌<◌, ◌≤◌, length, ap, sym, subst, refl, arith, List, ℕ}
use Rattle.memory_stream.proofs.Offers.{declares, keeps_pass, named_as, runs_as}
use Rattle.memory_stream.proofs.stream.MemoryStream.declare.Goals as goal

pub invariant_of-self-2 : goal.invariant_of-self-2
invariant_of-self-2 c =
    keeps_pass _ _ _ _ _ _ _ c.self.invariant (ap length c.as_slice-serial.ensures.value) (subst (λ (n : List ℕ). length n ≤ 255) (sym c.in-Ok.ensures) c.requires) c.in_ok-push_given.ensures.ok

pub returns : goal.returns
returns c =
    let count = ap length c.as_slice-serial.ensures.value in
    let room : length c.self.inside.passes.items < 2 ^ 32 - 1 = omega (arith, count, c.if-serial-ge4294967295.false) in
    declares c.args.self.now _ _ _ _ _ _ _ _ _ _ c.self.view_is refl refl (runs_as c.self.inside.runs c.self.inside.epoch (grind (arith, c.if-not-self.false))) count room c.self.invariant.serials (named_as _ _ _ c.in-Ok.ensures) c.in_ok-push_given.ensures.ok
