use Rattle.command_all.proofs.CommandLaws.{fits_known, body_known}
use Rattle.command_all.proofs.encode.put_command.Goals as goal

pub put_data-requires : goal.put_data-requires
put_data-requires c = fits_known c.in-Data.is c.requires

pub put_admin-requires : goal.put_admin-requires
put_admin-requires c = fits_known c.in-Admin.is c.requires

pub returns-in-Data-clause-ok : goal.returns-in-Data-clause-ok
returns-in-Data-clause-ok c = body_known c.put_data.result c.args.out.now c.put_data.new.out c.in-Data.is c.put_data.ensures.ok

pub returns-in-Admin-clause-ok : goal.returns-in-Admin-clause-ok
returns-in-Admin-clause-ok c = body_known c.put_admin.result c.args.out.now c.put_admin.new.out c.in-Admin.is c.put_admin.ensures.ok
