use Rattle.std.proofs.Common.{◌∙◌, ap, sym, subst, List, ℕ}
use Rattle.command_fields.specs.Tables.{FitsIn}
use Rattle.command_data.specs.declared.command.DataCommand.TheVariants.{PublishConfirm}
use Rattle.command_data.specs.Commands.{data_table}
use Rattle.replay_node.specs.NodeState.{ids}
use Rattle.replay_node.proofs.Commanding.{confirm_fits}
use Rattle.replay_node.proofs.output.confirm_line.Goals as goal

pub command_line-requires : goal.command_line-requires
command_line-requires c =
    subst (λ (l : List ℕ). FitsIn data_table (PublishConfirm c.args.offer.now.publisher l)) (sym (c.in_ok-ids_of.ensures ∙ ap ids c.as_slice.ensures)) (confirm_fits c.args.offer.now c.requires)
