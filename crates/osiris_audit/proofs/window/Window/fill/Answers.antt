use Rattle.std.proofs.Common.{refl, sym, ap, ◌∙◌}
use Rattle.osiris_audit.specs.Windows.{WindowState}
use Rattle.osiris_audit.proofs.Growing.{grew_piece}
use Rattle.osiris_audit.proofs.window.Window.fill.Goals as goal

pub returns-in_ok-hold-in-Got-clause-grew : goal.returns-in_ok-hold-in-Got-clause-grew
returns-in_ok-hold-in-Got-clause-grew g c =
    grew_piece _ c.in-Got.count _ _ c.read.new.buf c.args.self.now c.hold.new.self refl c.in-Got.ensures.took.0 c.in-Got.ensures.took.1 c.in-Got.ensures.took.2 (ap (λ (w : WindowState). w.ended) (sym c.self.view_is) ∙ c.if-self.false) c.in_ok-hold-in-Got.ensures
