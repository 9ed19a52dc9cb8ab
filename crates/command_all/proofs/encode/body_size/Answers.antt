use Rattle.command_all.proofs.CommandLaws.{measured_known, data_measured, admin_measured}
use Rattle.command_all.proofs.encode.body_size.Goals as goal

pub returns-in-Data : goal.returns-in-Data
returns-in-Data c = measured_known c.data_size.result c.in-Data.is (data_measured c.in-Data.command c.data_size.result c.data_size.ensures)

pub returns-in-Admin : goal.returns-in-Admin
returns-in-Admin c = measured_known c.admin_size.result c.in-Admin.is (admin_measured c.in-Admin.command c.admin_size.result c.admin_size.ensures)
