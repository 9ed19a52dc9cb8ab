use Rattle.std.proofs.Common.{◌∙◌, ap, sym}
use Rattle.std.specs.Option.{option_map}
use Rattle.tracking_state.specs.declared.note.Latest.{Latest}
use Rattle.tracking_state.proofs.Calls.{greatest_is}
use Rattle.tracking_state.proofs.tracking.Tracking.greatest.Goals as goal

pub returns-in_err-latest : goal.returns-in_err-latest
returns-in_err-latest c log is =
    c.from_residual.ensures ∙ ap (option_map (λ (l : Latest). l.id)) (sym c.in_err-latest.was)
    ∙ greatest_is c.get.result c.self.inside.references c.self.inside.consumers c.args.self.now c.args.name.now log c.get.ensures c.self.view_is is

pub returns : goal.returns
returns c log is = greatest_is _ c.self.inside.references c.self.inside.consumers c.args.self.now c.args.name.now log c.in_ok-latest.ensures c.self.view_is is
