use Rattle.command_fields.proofs.TableLaws.{table_outcome}
use Rattle.command_admin.specs.Commands.{admin_table}
use Rattle.command_admin.proofs.AdminLaws.{admin_lawful}
use Rattle.command_admin.proofs.laws.admin_bodies_have_one_outcome.Goals as goal

pub returns : goal.returns
returns c = table_outcome admin_table admin_lawful
