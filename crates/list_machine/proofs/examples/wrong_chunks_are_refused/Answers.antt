use Rattle.list_machine.proofs.Refusing.{no_step, out_of_place, twice, lower_epoch, nobody_sent, passing, tag_twice, tag_falls}
use Rattle.list_machine.proofs.examples.wrong_chunks_are_refused.Goals as goal

pub returns-clause-out_of_place : goal.returns-clause-out_of_place
returns-clause-out_of_place c = no_step _ _ _ out_of_place

pub returns-clause-twice : goal.returns-clause-twice
returns-clause-twice c = no_step _ _ _ twice

pub returns-clause-lower_epoch : goal.returns-clause-lower_epoch
returns-clause-lower_epoch c = no_step _ _ _ lower_epoch

pub returns-clause-nobody_sent : goal.returns-clause-nobody_sent
returns-clause-nobody_sent c = no_step _ _ _ nobody_sent

pub returns-clause-passing : goal.returns-clause-passing
returns-clause-passing c = no_step _ _ _ passing

pub returns-clause-tag_twice : goal.returns-clause-tag_twice
returns-clause-tag_twice c = no_step _ _ _ tag_twice

pub returns-clause-tag_falls : goal.returns-clause-tag_falls
returns-clause-tag_falls c = no_step _ _ _ tag_falls
