use Rattle.command_fields.proofs.TableLaws.{table_outcome}
use Rattle.command_all.specs.Commands.{command_table}
use Rattle.command_all.proofs.CommandLaws.{command_lawful}
use Rattle.command_all.proofs.laws.bodies_have_one_outcome.Goals as goal

pub returns : goal.returns
returns c = table_outcome command_table command_lawful
