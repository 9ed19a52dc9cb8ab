use Rattle.backed_streams.proofs.Happening.{quiet_backed, quiet_in_hand, offer_backed, offer_in_hand}
use Rattle.backed_streams.proofs.stream_laws.quiet_events_keep_streams_backed.Goals as goal

pub returns-clause-event : goal.returns-clause-event
returns-clause-event g c = λ stream now r after disks. quiet_backed g.D.Disk.state stream now r after disks

pub returns-clause-event_in_hand : goal.returns-clause-event_in_hand
returns-clause-event_in_hand g c = λ stream now r after stores disks. quiet_in_hand g.D.Disk.state stream now r after stores disks

pub returns-clause-offer : goal.returns-clause-offer
returns-clause-offer g c = λ stream now w after disks. offer_backed g.D.Disk.state stream now w after disks

pub returns-clause-offer_in_hand : goal.returns-clause-offer_in_hand
returns-clause-offer_in_hand g c = λ stream now w after stores disks. offer_in_hand g.D.Disk.state stream now w after stores disks
