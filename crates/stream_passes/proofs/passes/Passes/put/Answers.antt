use Rattle.std.proofs.Common.{sym, subst}
use Rattle.stream_passes.specs.Parts.{PassesState}
use Rattle.stream_passes.specs.Keeps.{IsLast}
use Rattle.stream_passes.proofs.Waiting.{keeps_put}
use Rattle.stream_passes.proofs.passes.Passes.put.Goals as goal

pub invariant_of-self : goal.invariant_of-self
invariant_of-self c =
    let s = c.self.inside in
    let last = subst (λ (x : PassesState). IsLast x.waiting c.args.waits) (sym c.self.view_is) c.requires in
    let p = c.put_waiting in
    (keeps_put p.result s.passes.items s.waiting.items p.new.waiting.items c.args.waits c.self.invariant.0 last p.ensures.ok p.ensures.err, p.ensures.room)
