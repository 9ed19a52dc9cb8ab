use Rattle.std.proofs.Common.{◌∙◌, List, ap, map, refl, subst}
use Rattle.std.specs.Prelude.{IsSome}
use Rattle.replay_node.specs.declared.session.Offer.{Offer}
use Rattle.replay_node.specs.declared.session.Link.{Link}
use Rattle.replay_node.specs.Outputs.{output_lines}
use Rattle.replay_node.specs.NodeState.{NodeState, find_link, offers_of, confirm_of}
use Rattle.replay_node.proofs.NodeSteps.{polled_node, others_fit, place_told}
use Rattle.replay_node.proofs.node.Node.poll.Goals as goal

pub invariant_of-self : goal.invariant_of-self
invariant_of-self c = record {
  end = c.self.invariant.end;
  queued = c.self.invariant.queued;
  unconfirmed = others_fit c.args.connection c.self.inside.unconfirmed.items c.drop_offers.new.offers.items c.drop_offers.ensures c.self.invariant.unconfirmed;
}

pub returns : goal.returns
returns c =
    let links = c.as_slice.ensures.value ∙ ap (λ (s : NodeState). s.links) c.self.view_is in
    let offers = c.as_slice-2.ensures.value ∙ ap (λ (s : NodeState). s.unconfirmed) c.self.view_is in (
      map confirm_of (offers_of c.args.connection c.args.self.now.unconfirmed),
      (
        subst (λ (l : List Link). IsSome (find_link c.args.connection l)) links (place_told c.place_of.result c.is_none.result c.args.connection c.as_slice.result.now c.is_none.ensures c.if-is_none.false c.place_of.ensures),
        refl,
        polled_node c.args.self.now c.self.inside c.args.connection c.drop_offers.new.offers.items c.self.view_is c.drop_offers.ensures,
      ),
      c.in-Ok.ensures ∙ ap (λ (l : List Offer). output_lines (map confirm_of (offers_of c.args.connection l))) offers,
    )
