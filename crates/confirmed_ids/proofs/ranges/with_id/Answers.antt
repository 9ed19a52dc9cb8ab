use Rattle.confirmed_ids.proofs.Placing.{put_with}
use Rattle.confirmed_ids.proofs.ranges.with_id.Goals as goal

pub returns : goal.returns
returns c =
    put_with c.args.id c.place.result c.args.ranges.now _ _ _ c.put_behind.new.out.items c.place.ensures.is c.split_at.ensures.front c.split_at.ensures.back c.in_ok-out.ensures.items c.in_ok-put_behind.ensures
