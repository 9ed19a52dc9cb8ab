use Rattle.std.proofs.Common.{length, refl, sym, ap, ◌∙◌, arith}
use Rattle.epoch_coordinator.specs.MemberSteps.{stamp_at}
use Rattle.offer_chunks.specs.Taken.{items_of}
use Rattle.leader_offers.proofs.Lines.{some_same}
use Rattle.leader_offers.proofs.Runs.{run_few, run_none, run_some, run_stopped}
use Rattle.leader_offers.proofs.lay.lay_run.Goals as goal

pub returns-in-Err-clause-err : goal.returns-in-Err-clause-err
returns-in-Err-clause-err c = some_same c.args.leader.now c.args.leader.now c.requires.leads refl

pub returns-in-Err-clause-stopped : goal.returns-in-Err-clause-stopped
returns-in-Err-clause-stopped c = tt

pub returns-then-count-eq0-clause-ok : goal.returns-then-count-eq0-clause-ok
returns-then-count-eq0-clause-ok c = run_none c.args.name.now c.args.greatest c.args.items.now (stamp_at c.args.now) c.args.leader.now c.in-Ok.run' _ c.requires.leads c.in-Ok.ensures (ap length (sym c.as_slice-count.ensures) ∙ c.if-count-eq0.true) refl refl refl

pub overflow_cast-result : goal.overflow_cast-result
overflow_cast-result c = let few = run_few c.args.name.now c.args.greatest (items_of c.args.items.now) c.in-Ok.run' c.in-Ok.ensures in let count = ap length c.as_slice-count.ensures in omega (arith, few, count)

pub returns-in-Ok-put_entries-clause-ok : goal.returns-in-Ok-put_entries-clause-ok
returns-in-Ok-put_entries-clause-ok c = run_some c.args.name.now c.args.greatest c.args.items.now (stamp_at c.args.now) c.args.leader.now c.put_entries.new.leader c.in-Ok.run' _ c.in-Ok.ensures (λ e. c.if-count-eq0.false (ap length c.as_slice-count.ensures ∙ e)) (ap length c.as_slice-count.ensures) refl refl c.in-Ok-put_entries.ensures.ok

pub returns-in-Err-put_entries-clause-err : goal.returns-in-Err-put_entries-clause-err
returns-in-Err-put_entries-clause-err c = c.in-Err-put_entries.ensures.err

pub returns-in-Err-put_entries-clause-stopped : goal.returns-in-Err-put_entries-clause-stopped
returns-in-Err-put_entries-clause-stopped c = run_stopped c.args.name.now c.args.greatest c.args.items.now (stamp_at c.args.now) c.args.leader.now c.in-Ok.run' c.in-Err-put_entries.stop c.in-Ok.ensures (λ e. c.if-count-eq0.false (ap length c.as_slice-count.ensures ∙ e)) c.in-Err-put_entries.ensures.stopped
