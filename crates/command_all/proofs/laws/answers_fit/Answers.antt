use Rattle.command_all.proofs.FitLaws.{ids_fit, names_fit, asked_fit}
use Rattle.command_all.proofs.laws.answers_fit.Goals as goal

pub returns : goal.returns
returns c = record { ids = ids_fit; names = names_fit; asked = asked_fit }
