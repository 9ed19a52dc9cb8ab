use Rattle.std.proofs.Common.{◌≡◌, Some, List, ◌∙◌, sym, ap, subst}
use Rattle.std.specs.Prelude.{◌↔◌, IsTrue}
use Rattle.stream_terms.specs.declared.terms.Given.{Given}
use Rattle.stream_passes.specs.Keeps.{WasGiven}
use Rattle.stream_passes.specs.Parts.{PassesState}
use Rattle.stream_passes.proofs.passes.Passes.is_of_use.Goals as goal

pub returns : goal.returns
returns c =
    subst (λ (s : PassesState). IsTrue c.is_of_use.result ↔ ((c.args.running ≡ Some c.args.pass.now.epoch) × WasGiven s.passes c.args.pass.now)) c.self.view_is
    (subst (λ (gs : List Given). IsTrue c.is_of_use.result ↔ ((c.args.running ≡ Some c.args.pass.now.epoch) × WasGiven gs c.args.pass.now)) c.as_slice.ensures.value c.is_of_use.ensures)
