use Rattle.segment_store.proofs.Performing.{write_leaves, write_stands}
use Rattle.segment_store.proofs.Keeping.{job_recoverable}
use Rattle.segment_store.proofs.member_store.MemberStore.write.Goals as goal

pub returns-clause-leaves : goal.returns-clause-leaves
returns-clause-leaves g c = λ told segments stands.
    write_leaves _ _ c.self.view_is segments _ _ _ stands c.write.ensures.others (λ here. c.write.ensures.images told segments here.log)

pub returns-clause-done : goal.returns-clause-done
returns-clause-done g c = λ told segments stands.
    write_stands _ _ c.self.view_is _ segments _ _ _ _ stands c.write.ensures.stream c.write.ensures.others (λ here. c.write.ensures.done told segments here.log)

pub returns-clause-recoverable : goal.returns-clause-recoverable
returns-clause-recoverable g c = λ told.
    let (segments, stands) = c.requires.backed told in
    job_recoverable _ _ c.self.view_is segments _ _ stands c.write.ensures.others (c.write.ensures.recoverable told)
