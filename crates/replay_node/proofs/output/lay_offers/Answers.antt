use Rattle.std.proofs.Common.{List, take, sym, subst}
use Rattle.command_data.specs.declared.item.Tagged.{Tagged}
use Rattle.replay_node.specs.Commits.{IsLaid, LaysOut}
use Rattle.replay_node.specs.NodeState.{entries, pieces_of, offer_pieces}
use Rattle.replay_node.proofs.Laying.{IsLaidOut, laid_out_more, pieces_more}
use Rattle.replay_node.proofs.Commanding.{offer_laid, offer_at}
use Rattle.replay_node.proofs.output.lay_offers.Goals as goal

pub lay_offer-requires : goal.lay_offer-requires
lay_offer-requires c =
    subst IsLaid (sym c.as_slice.ensures) (offer_laid c.offer-item.result (offer_at c.args.offers.now c.loop-offer.offer-index c.offer-item.result c.requires c.loop-offer-test.true c.offer-item.is))

pub loop-offer-preserved : goal.loop-offer-preserved
loop-offer-preserved c =
    let laid = subst (λ (items : List Tagged). LaysOut c.loop-offer.commits c.lay_offer.new.commits (pieces_of (entries items))) c.as_slice.ensures c.in_ok-lay_offer.ensures in
    subst (IsLaidOut c.args.end c.lay_offer.new.commits) (sym (pieces_more c.args.offers.now c.loop-offer.offer-index c.offer-item.result c.loop-offer-test.true c.offer-item.is))
    (laid_out_more c.args.end c.loop-offer.commits c.lay_offer.new.commits (offer_pieces (take c.loop-offer.offer-index c.args.offers.now)) (pieces_of (entries c.offer-item.result.items)) c.loop-offer.invariant laid)
