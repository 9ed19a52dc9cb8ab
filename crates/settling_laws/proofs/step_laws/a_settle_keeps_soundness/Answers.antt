use Rattle.settling_laws.proofs.Evented.{settle_sound, settle_in_order, settle_grows, settle_kept}
use Rattle.settling_laws.proofs.step_laws.a_settle_keeps_soundness.Goals as goal

pub returns-clause-sound : goal.returns-clause-sound
returns-clause-sound c = settle_sound

pub returns-clause-order : goal.returns-clause-order
returns-clause-order c = settle_in_order

pub returns-clause-grows : goal.returns-clause-grows
returns-clause-grows c = settle_grows

pub returns-clause-kept : goal.returns-clause-kept
returns-clause-kept c = settle_kept
