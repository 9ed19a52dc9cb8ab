use Rattle.std.proofs.Common.{◌≡◌, List, [], ◌∷◌, ◌++◌, ap, ◌∙◌, arith}
use Rattle.command_admin.specs.declared.item.Broker.{Broker}
use Rattle.session_tables.proofs.Fits.{metadata_fits}
use Rattle.session_tables.proofs.spelling.put_metadata.Goals as goal

pub put_frame-requires : goal.put_frame-requires
put_frame-requires c =
    metadata_fits c.args.corr c.args.identity.now c.in_ok-host.host c.push.new.self c.args.streams (omega arith) c.requires c.in_ok-host.ensures.short c.broker.ensures.port c.in_ok-host.ensures.is
    (c.in-Ok.ensures.ok ∙ ap (λ (r : List Broker). r ++ c.broker.result ∷ []) c.new-brokers.ensures ∙ ap (λ (b : Broker). b ∷ []) c.broker.ensures.is)
