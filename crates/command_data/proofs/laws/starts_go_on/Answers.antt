use Rattle.command_data.proofs.StartLaws as laws
use Rattle.command_data.proofs.laws.starts_go_on.Goals as goal

pub returns : goal.returns
returns c = laws.starts_go_on
