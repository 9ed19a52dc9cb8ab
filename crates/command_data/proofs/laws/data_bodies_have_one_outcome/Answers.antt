use Rattle.command_fields.proofs.TableLaws.{table_outcome}
use Rattle.command_data.specs.Commands.{data_table}
use Rattle.command_data.proofs.DataLaws.{data_lawful}
use Rattle.command_data.proofs.laws.data_bodies_have_one_outcome.Goals as goal

pub returns : goal.returns
returns c = table_outcome data_table data_lawful
