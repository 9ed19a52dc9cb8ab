use Rattle.list_machine.proofs.TranscriptWorked.{worked_transcript, no_commit_unread}
use Rattle.list_machine.proofs.examples.transcripts_are_told_apart.Goals as goal

pub returns-clause-worked : goal.returns-clause-worked
returns-clause-worked c = worked_transcript

pub returns-clause-unread : goal.returns-clause-unread
returns-clause-unread c = no_commit_unread
