use Rattle.std.proofs.Common.{◌∙◌, ap, sym, take}
use Rattle.std.proofs.lemmas.List.{take-map}
use Rattle.stream_catalog.specs.Names.{Names}
use Rattle.stream_catalog.proofs.Entries.{pairs}
use Rattle.stream_catalog.proofs.names.NameList.cut.Goals as goal

pub returns-clause-list : goal.returns-clause-list
returns-clause-list c = ap pairs c.truncate.ensures.entries ∙ sym (take-map _ c.args.len c.self.inside.held.entries) ∙ ap (λ (n : Names). take c.args.len n.list) c.self.view_is
