use Rattle.std.proofs.Common.{◌∙◌, ◌++◌, List, ℕ, All, slice_set, ap, map, sym, subst, refl}
use Rattle.command_fields.specs.Tables.{FitsIn}
use Rattle.command_data.specs.declared.command.DataCommand.{DataCommand}
use Rattle.command_data.specs.Commands.{data_table}
use Rattle.frame_commands.specs.Given.{CommandsOf}
use Rattle.replay_node.specs.Commands.{frame_max}
use Rattle.replay_node.specs.Outputs.{output_lines}
use Rattle.replay_node.specs.Sessions.{serve_all}
use Rattle.replay_node.specs.declared.session.Link.{Link}
use Rattle.replay_node.specs.NodeFields.{IsPlace}
use Rattle.replay_node.specs.NodeState.{NodeState, send}
use Rattle.replay_node.proofs.Links.{place_puts}
use Rattle.replay_node.proofs.NodeSteps.{link_there, give_no_read, give_no_serve, gives_node, answers_fit, queued_more}
use Rattle.replay_node.proofs.node.Node.give.Goals as goal

pub returns-in-Ok-None : goal.returns-in-Ok-None
returns-in-Ok-None c =
    let none = rw c.in-Ok-None.field-0-is at c.in-Ok-None.ensures in
    let there = link_there c.args.self.now c.self.inside c.as_slice.result.now c.as_slice-2.result.now c.in-Some-place_of.k c.args.connection c.index-as_slice-k.result c.self.view_is c.as_slice.ensures.value c.as_slice-2.ensures.value c.in-Some-place_of.ensures c.index-as_slice-k.is in
    (give_no_read c.args.self.now c.args.connection c.args.bytes.now c.as_slice-3.result.now c.index-as_slice-k.result there c.as_slice-3.ensures (none.none refl), refl)

pub returns-in-Ok-None-serve_all : goal.returns-in-Ok-None-serve_all
returns-in-Ok-None-serve_all c =
    let read = rw c.in-Ok-Some.field-0-is at c.in-Ok-Some.ensures in
    let there = link_there c.args.self.now c.self.inside c.as_slice.result.now c.as_slice-2.result.now c.in-Some-place_of.k c.args.connection c.index-as_slice-k.result c.self.view_is c.as_slice.ensures.value c.as_slice-2.ensures.value c.in-Some-place_of.ensures c.index-as_slice-k.is in
    let reads = subst (λ (l : List ℕ). CommandsOf frame_max (l ++ c.args.bytes.now) c.in-Ok-Some.given.commands c.in-Ok-Some.given.rest) c.as_slice-3.ensures read.found in
    let live = sym (ap (λ (s : NodeState). s.stream) c.self.view_is) ∙ c.in-Some.is in
    let none = ap (λ (l : List ℕ). serve_all c.args.connection l c.index-as_slice-k.result.publishers c.in-Ok-Some.given.commands) (sym c.as_slice-4.ensures)
    ∙ ap (λ (l : List ℕ). serve_all c.args.connection c.as_slice-4.result.now l c.in-Ok-Some.given.commands) (sym c.as_slice-5.ensures) ∙ sym c.in-Ok-None-serve_all.ensures ∙ c.in-Ok-None-serve_all.field-0-is in
    (give_no_serve c.args.self.now c.args.connection c.args.bytes.now c.in-Some.stream c.index-as_slice-k.result c.in-Ok-Some.given.commands c.in-Ok-Some.given.rest there live reads none, refl)

pub command_lines-requires : goal.command_lines-requires
command_lines-requires c =
    let read = rw c.in-Ok-Some.field-0-is at c.in-Ok-Some.ensures in
    let served = sym c.in-Ok-Some-serve_all.ensures ∙ c.in-Ok-Some-serve_all.field-0-is in
    let fit = answers_fit _ c.as_slice-4.result.now c.as_slice-5.result.now c.args.connection c.in-Ok-Some.given.commands c.in-Ok-Some.given.rest c.in-Ok-Some-serve_all.served read.found served in
    subst (λ (l : List DataCommand). All (FitsIn data_table) l) (sym c.as_slice-6.ensures) fit.0

pub invariant_of-self-2 : goal.invariant_of-self-2
invariant_of-self-2 c =
    let read = rw c.in-Ok-Some.field-0-is at c.in-Ok-Some.ensures in
    let served = sym c.in-Ok-Some-serve_all.ensures ∙ c.in-Ok-Some-serve_all.field-0-is in
    let fit = answers_fit _ c.as_slice-4.result.now c.as_slice-5.result.now c.args.connection c.in-Ok-Some.given.commands c.in-Ok-Some.given.rest c.in-Ok-Some-serve_all.served read.found served in
    record {
      end = c.self.invariant.end;
      queued = queued_more c.self.inside.queued.items c.in-Ok-Some-serve_all.served.offers c.append.new.self.items
          (c.in-Ok-append.ensures.items ∙ ap (λ l. c.self.inside.queued.items ++ l) c.into_vec.ensures) c.self.invariant.queued fit.1;
      unconfirmed = c.self.invariant.unconfirmed;
    }

pub returns : goal.returns
returns c =
    let read = rw c.in-Ok-Some.field-0-is at c.in-Ok-Some.ensures in
    let there = link_there c.args.self.now c.self.inside c.as_slice.result.now c.as_slice-2.result.now c.in-Some-place_of.k c.args.connection c.index-as_slice-k.result c.self.view_is c.as_slice.ensures.value c.as_slice-2.ensures.value c.in-Some-place_of.ensures c.index-as_slice-k.is in
    let reads = subst (λ (l : List ℕ). CommandsOf frame_max (l ++ c.args.bytes.now) c.in-Ok-Some.given.commands c.in-Ok-Some.given.rest) c.as_slice-3.ensures read.found in
    let live = sym (ap (λ (s : NodeState). s.stream) c.self.view_is) ∙ c.in-Some.is in
    let serves = ap (λ (l : List ℕ). serve_all c.args.connection l c.index-as_slice-k.result.publishers c.in-Ok-Some.given.commands) (sym c.as_slice-4.ensures)
    ∙ ap (λ (l : List ℕ). serve_all c.args.connection c.as_slice-4.result.now l c.in-Ok-Some.given.commands) (sym c.as_slice-5.ensures) ∙ sym c.in-Ok-Some-serve_all.ensures ∙ c.in-Ok-Some-serve_all.field-0-is in
    let place = subst (λ (l : List Link). IsPlace c.in-Some-place_of.k c.args.connection l) c.as_slice.ensures.value c.in-Some-place_of.ensures in (
      map (send c.args.connection) c.in-Ok-Some-serve_all.served.answers,
      gives_node c.args.self.now c.self.inside c.args.connection c.args.bytes.now c.in-Some.stream c.index-as_slice-k.result c.in-Ok-Some.given.commands c.in-Ok-Some.given.rest c.in-Ok-Some-serve_all.served
          (slice_set c.self.inside.links.items c.in-Some-place_of.k (record { number = c.args.connection; rest = c.in-Ok-Some.given.rest; publishers = c.in-Ok-Some-serve_all.served.publishers })) c.append.new.self.items
          c.self.view_is there live reads serves
          (place_puts c.in-Some-place_of.k c.self.inside.links.items (record { number = c.args.connection; rest = c.in-Ok-Some.given.rest; publishers = c.in-Ok-Some-serve_all.served.publishers }) place)
          (c.in-Ok-append.ensures.items ∙ ap (λ l. c.self.inside.queued.items ++ l) c.into_vec.ensures),
      c.in-Ok.ensures ∙ ap (λ (l : List DataCommand). output_lines (map (send c.args.connection) l)) c.as_slice-6.ensures,
    )
