use Rattle.replication_laws.proofs.Sendings.{sent_property, grown_sent, named_step, bare_step, offset_step, reached_stays, nothing_reached}
use Rattle.replication_laws.proofs.history_laws.what_stands_was_sent.Goals as goal

pub returns : goal.returns
returns c = record {
  property = sent_property;
  grows = grown_sent;
  named = named_step;
  unnamed = bare_step;
  offset = offset_step;
  reached = reached_stays;
  new = nothing_reached;
}
