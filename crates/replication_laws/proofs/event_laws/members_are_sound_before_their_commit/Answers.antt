use Rattle.replication_laws.proofs.Joined.{taken_before, finished_before, commit_extends}
use Rattle.replication_laws.proofs.event_laws.members_are_sound_before_their_commit.Goals as goal

pub returns : goal.returns
returns c = record { taken = taken_before; finished = finished_before; extends = commit_extends }
