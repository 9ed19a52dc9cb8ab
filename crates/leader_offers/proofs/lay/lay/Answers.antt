use Rattle.std.proofs.Common.{◌+◌, length, refl, arith}
use Rattle.epoch_coordinator.specs.MemberSteps.{stamp_at}
use Rattle.leader_offers.proofs.Lines.{some_join}
use Rattle.leader_offers.proofs.Runs.{Laying, laying_begun, laying_more, count_fits, laid_all, counted_all, fit_all, stopped_all, rest_some, rest_none}
use Rattle.leader_offers.proofs.lay.lay.Goals as goal

pub runs-init : goal.runs-init
runs-init c = laying_begun c.args.leader.now c.args.name.now c.args.greatest (stamp_at c.args.now) c.args.items.now c.requires.leads

pub lay_run-requires-clause-leads : goal.lay_run-requires-clause-leads
lay_run-requires-clause-leads c = (let so : Laying c.args.leader.now c.args.name.now c.args.greatest (stamp_at c.args.now) c.args.items.now c.runs.leader c.runs.last c.runs.rest.now c.runs.count = c.runs.invariant in so.put.0.leads)

pub returns-in-Err-clause-err : goal.returns-in-Err-clause-err
returns-in-Err-clause-err c = (let so : Laying c.args.leader.now c.args.name.now c.args.greatest (stamp_at c.args.now) c.args.items.now c.runs.leader c.runs.last c.runs.rest.now c.runs.count = c.runs.invariant in some_join c.args.leader.now c.runs.leader c.lay_run.new.leader so.done so.put.0 c.in-Err.ensures.err)

pub returns-in-Err-clause-stopped : goal.returns-in-Err-clause-stopped
returns-in-Err-clause-stopped c = stopped_all c.args.leader.now c.args.name.now c.args.greatest (stamp_at c.args.now) c.args.items.now c.runs.leader c.runs.last c.runs.rest.now c.runs.count c.in-Err.stop c.runs.invariant c.in-Err.ensures.stopped

pub overflow_add-count : goal.overflow_add-count
overflow_add-count c = let fits = count_fits c.args.leader.now c.args.name.now c.args.greatest (stamp_at c.args.now) c.args.items.now c.runs.leader c.lay_run.new.leader c.runs.last c.runs.rest.now c.runs.count c.in-Ok.step c.runs.invariant c.in-Ok.ensures.ok c.requires.few in omega (arith, fits)

pub runs-smaller : goal.runs-smaller
runs-smaller c = c.in-Ok.ensures.ok.shorter (rest_some (length c.runs.rest.now) c.is_empty.result c.is_empty.ensures c.runs-test.true)

pub runs-preserved : goal.runs-preserved
runs-preserved c = laying_more c.args.leader.now c.args.name.now c.args.greatest (stamp_at c.args.now) c.args.items.now c.runs.leader c.lay_run.new.leader c.runs.last c.runs.rest.now c.runs.count (c.runs.count + c.in-Ok.step.count) c.in-Ok.step c.runs.invariant c.in-Ok.ensures.ok refl

pub returns-clause-put : goal.returns-clause-put
returns-clause-put c = laid_all c.args.leader.now c.args.name.now c.args.greatest (stamp_at c.args.now) c.args.items.now c.runs.leader c.runs.last c.runs.rest.now c.runs.count c.runs.invariant (rest_none (length c.runs.rest.now) c.is_empty.result c.is_empty.ensures c.runs-test.false)

pub returns-clause-count : goal.returns-clause-count
returns-clause-count c = counted_all c.args.leader.now c.args.name.now c.args.greatest (stamp_at c.args.now) c.args.items.now c.runs.leader c.runs.last c.runs.rest.now c.runs.count c.runs.invariant (rest_none (length c.runs.rest.now) c.is_empty.result c.is_empty.ensures c.runs-test.false)

pub returns-clause-fits : goal.returns-clause-fits
returns-clause-fits c = fit_all c.args.leader.now c.args.name.now c.args.greatest (stamp_at c.args.now) c.args.items.now c.runs.leader c.runs.last c.runs.rest.now c.runs.count c.runs.invariant (rest_none (length c.runs.rest.now) c.is_empty.result c.is_empty.ensures c.runs-test.false)
