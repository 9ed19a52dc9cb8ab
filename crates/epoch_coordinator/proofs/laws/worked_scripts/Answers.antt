use Rattle.epoch_coordinator.proofs.Played as played
use Rattle.epoch_coordinator.proofs.laws.worked_scripts.Goals as goal

pub returns-clause-older_epoch : goal.returns-clause-older_epoch
returns-clause-older_epoch c = played.older_epoch_is

pub returns-clause-older_epoch_not_counted : goal.returns-clause-older_epoch_not_counted
returns-clause-older_epoch_not_counted c = played.older_epoch_not_counted_is

pub returns-clause-fifth : goal.returns-clause-fifth
returns-clause-fifth c = played.fifth_is

pub returns-clause-late_member : goal.returns-clause-late_member
returns-clause-late_member c = played.late_member_is

pub returns-clause-committed : goal.returns-clause-committed
returns-clause-committed c = played.committed_is

pub returns-clause-late_messages : goal.returns-clause-late_messages
returns-clause-late_messages c = played.late_messages_is

pub returns-clause-late_ends : goal.returns-clause-late_ends
returns-clause-late_ends c = played.late_ends_is
