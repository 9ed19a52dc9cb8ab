use Rattle.std.proofs.Common.{arith}
use Rattle.command_fields.proofs.SizeLaws.{body_long, body_measured}
use Rattle.command_admin.specs.Commands.{admin_table}
use Rattle.command_admin.proofs.fits.admin_size.Goals as goal

pub returns-then-size : goal.returns-then-size
returns-then-size c = body_long admin_table c.args.command.now c.in_ok-size.size c.in_ok-size.ensures c.if-size.true

pub returns : goal.returns
returns c = body_measured admin_table c.args.command.now c.in_ok-size.size (c.is_known.ensures.0 c.if-not-is_known.false) c.in_ok-size.ensures (omega (arith, c.if-size.false))
