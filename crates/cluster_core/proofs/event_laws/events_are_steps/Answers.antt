use Rattle.cluster_core.proofs.Streams.{elect_goes, deliver_goes, lose_goes, forget_goes, nudge_goes, done_goes, stop_goes, reopen_goes}
use Rattle.cluster_core.proofs.event_laws.events_are_steps.Goals as goal

pub returns : goal.returns
returns c = record { elect = elect_goes; deliver = deliver_goes; lose = lose_goes; forget = forget_goes; nudge = nudge_goes; done = done_goes; stop = stop_goes; reopen = reopen_goes }
