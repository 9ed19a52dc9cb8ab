use Rattle.std.proofs.Common.{arith}
use Rattle.command_fields.proofs.TableLaws.{is_found, is_only, is_told, is_refused}
use Rattle.command_all.specs.Commands.{command_table}
use Rattle.command_all.proofs.CommandLaws.{command_lawful}
use Rattle.command_all.proofs.decode.decode_command.Goals as goal

pub returns-clause-found : goal.returns-clause-found
returns-clause-found c = is_found command_table command_lawful c.args.body.now c.read_body.result (λ i. omega (arith, c.type_inv.body i)) c.read_body.ensures

pub returns-clause-only : goal.returns-clause-only
returns-clause-only c = is_only command_table command_lawful c.args.body.now c.read_body.result c.read_body.ensures

pub returns-clause-told : goal.returns-clause-told
returns-clause-told c = is_told command_table command_lawful c.args.body.now c.read_body.result (λ i. omega (arith, c.type_inv.body i)) c.read_body.ensures

pub returns-clause-refused : goal.returns-clause-refused
returns-clause-refused c = is_refused command_table command_lawful c.args.body.now c.read_body.result c.read_body.ensures
