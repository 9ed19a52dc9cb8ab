use Rattle.std.proofs.Common.{◌≡◌, ℕ, subst, IfOk}
use Rattle.command_admin.specs.declared.command.AdminCommand.TheVariants as of_admin
use Rattle.command_all.specs.declared.command.Command.TheVariants.{Admin}
use Rattle.command_all.specs.Commands.{frame_of}
use Rattle.session_core.specs.Outgoing.{bytes_of_outgoing}
use Rattle.session_core.proofs.outgoing.update.Goals as goal

pub returns : goal.returns
returns c = subst (λ (n : ℕ). IfOk c.head_alone.result (λ o. bytes_of_outgoing o ≡ frame_of (Admin (of_admin.ConsumerUpdate c.args.corr c.args.id n)))) c.flag_of.ensures.is c.head_alone.ensures
