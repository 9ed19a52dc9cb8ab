use Rattle.std.proofs.Common.{◌^◌, ◌-◌, ◌<◌, ◌≤◌, length, ap, sym, subst, refl, arith, List, ℕ}
use Rattle.stream_passes.proofs.Steps.{declares, keeps_pass, named_as}
use Rattle.stream_passes.proofs.passes.Passes.declare.Goals as goal

pub invariant_of-self-2 : goal.invariant_of-self-2
invariant_of-self-2 c =
    (keeps_pass _ _ _ _ c.self.invariant.0 (ap length c.as_slice-serial.ensures.value) (subst (λ (n : List ℕ). length n ≤ 255) (sym c.in-Ok.ensures) c.requires) c.in_ok-push_given.ensures.ok, c.self.invariant.1)

pub returns : goal.returns
returns c =
    let s = c.self.inside in
    let count = ap length c.as_slice-serial.ensures.value in
    let room : length s.passes.items < 2 ^ 32 - 1 = omega (arith, count, c.if-serial-ge4294967295.false) in
    λ chunks queue. declares c.args.self.now s.number s.passes.items c.push_given.new.passes.items s.waiting.items s.ready.items c.args.running c.args.session c.args.name.now _ _ c.self.view_is refl refl c.in-Some.is count room c.self.invariant.0.serials (named_as _ _ _ c.in-Ok.ensures) c.in_ok-push_given.ensures.ok chunks queue
