use Rattle.std.proofs.Common.{arith}
use Rattle.command_fields.proofs.TableLaws.{is_found, is_only, is_told, is_refused}
use Rattle.command_data.specs.Commands.{data_table}
use Rattle.command_data.proofs.DataLaws.{data_lawful}
use Rattle.command_data.proofs.decode.decode_data.Goals as goal

pub returns-clause-found : goal.returns-clause-found
returns-clause-found c = is_found data_table data_lawful c.args.body.now c.read_body.result (λ i. omega (arith, c.type_inv.body i)) c.read_body.ensures

pub returns-clause-only : goal.returns-clause-only
returns-clause-only c = is_only data_table data_lawful c.args.body.now c.read_body.result c.read_body.ensures

pub returns-clause-told : goal.returns-clause-told
returns-clause-told c = is_told data_table data_lawful c.args.body.now c.read_body.result (λ i. omega (arith, c.type_inv.body i)) c.read_body.ensures

pub returns-clause-refused : goal.returns-clause-refused
returns-clause-refused c = is_refused data_table data_lawful c.args.body.now c.read_body.result c.read_body.ensures
