use Rattle.stream_catalog.proofs.ChangeLaws.{change_lawful, change_outcome, change_again}
use Rattle.stream_catalog.proofs.laws.changes_are_lawful.Goals as goal

pub returns : goal.returns
returns c = record { lawful = change_lawful; outcome = change_outcome; again = change_again }
