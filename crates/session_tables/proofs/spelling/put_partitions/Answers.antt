use Rattle.std.proofs.Common.{◌≡◌, ◌++◌, ℕ, Some, OnOk, subst, arith}
use Rattle.command_admin.specs.declared.command.AdminCommand.TheVariants as of_admin
use Rattle.command_all.specs.declared.command.Command.TheVariants.{Admin}
use Rattle.command_all.specs.Commands.{frame_of}
use Rattle.session_tables.proofs.Fits.{partitions_fit}
use Rattle.session_tables.proofs.spelling.put_partitions.Goals as goal

pub put_frame-requires : goal.put_frame-requires
put_frame-requires c = partitions_fit c.args.corr c.number_of.result c.args.names (omega arith) c.number_of.ensures.small c.see_names.ensures c.requires

pub returns-clause-ok : goal.returns-clause-ok
returns-clause-ok c = subst (λ (n : ℕ). OnOk c.put_frame.result (c.put_frame.new.out ≡ c.args.out.now ++ frame_of (Admin (of_admin.PartitionsAnswer c.args.corr n (Some c.args.names))))) c.number_of.ensures.is c.put_frame.ensures.ok
