use Rattle.active_groups.specs.Changes.{with_state}
use Rattle.active_groups.proofs.Places.{set_there}
use Rattle.active_groups.proofs.group.set_state.Goals as goal

pub returns : goal.returns
returns c = set_there (with_state c.args.state) c.args.seats.now.items c.args.place c.index_mut.result.now c.requires c.index_mut.ensures.value
