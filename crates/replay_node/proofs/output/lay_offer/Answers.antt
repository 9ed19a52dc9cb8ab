use Rattle.std.proofs.Common.{◌≤◌, length}
use Rattle.replay_node.proofs.Laying.{next_piece, laying_more, laying_end, least, some_left, none_left}
use Rattle.replay_node.proofs.output.lay_offer.Goals as goal

pub lay_piece-requires : goal.lay_piece-requires
lay_piece-requires c =
    let some : 1 ≤ length c.loop-rest.rest.now = some_left (length c.loop-rest.rest.now) c.loop-rest-test.ensures in
    let which = least (length c.loop-rest.rest.now) c.min-count.result some c.min-count.ensures in
    next_piece c.args.items.now c.loop-rest.rest.now c.split_at.result.0.now c.min-count.result c.args.commits.now c.loop-rest.commits c.loop-rest.invariant some which.1.0 which.1.1.0 which.1.1.1 c.split_at.ensures.front

pub loop-rest-preserved : goal.loop-rest-preserved
loop-rest-preserved c =
    let some : 1 ≤ length c.loop-rest.rest.now = some_left (length c.loop-rest.rest.now) c.loop-rest-test.ensures in
    let which = least (length c.loop-rest.rest.now) c.min-count.result some c.min-count.ensures in
    laying_more c.args.items.now c.loop-rest.rest.now c.split_at.result.0.now c.split_at.result.1.now c.min-count.result c.args.commits.now c.loop-rest.commits c.lay_piece.new.commits c.loop-rest.invariant some which.0
    c.split_at.ensures.front c.split_at.ensures.back c.in_ok-lay_piece.ensures

pub returns : goal.returns
returns c = laying_end c.args.items.now c.loop-rest.rest.now c.args.commits.now c.loop-rest.commits c.loop-rest.invariant (none_left (length c.loop-rest.rest.now) c.loop-rest-test.ensures)
