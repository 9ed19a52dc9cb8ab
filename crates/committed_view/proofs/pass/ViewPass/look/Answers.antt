use Rattle.std.proofs.Common.{sym, subst}
use Rattle.committed_view.specs.Places.{seen_at}
use Rattle.committed_view.specs.Looking.{Enters}
use Rattle.committed_view.proofs.Looked.{polls}
use Rattle.committed_view.proofs.pass.ViewPass.look.Goals as goal

pub returns-clause-ok : goal.returns-clause-ok
returns-clause-ok c =
    polls c.args.self.now c.self.inside.place c.replace_with.new.dest c.self.inside.told.items c.clear.new.self.items (sym c.self.view_is) c.in_ok-replace_with.ensures.1.0.0 (subst (λ told. Enters (seen_at c.self.inside.place) told (seen_at c.replace_with.new.dest)) c.as_slice.ensures.value c.in_ok-replace_with.ensures.1.0.1) c.clear.ensures.items
