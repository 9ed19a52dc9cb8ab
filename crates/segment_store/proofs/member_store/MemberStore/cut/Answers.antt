use Rattle.segment_pairs.proofs.Moving.{did_done}
use Rattle.segment_store.proofs.Performing.{cut_leaves, cut_stands}
use Rattle.segment_store.proofs.Keeping.{job_recoverable}
use Rattle.segment_store.proofs.member_store.MemberStore.cut.Goals as goal

pub returns-in-Failed-clause-leaves : goal.returns-in-Failed-clause-leaves
returns-in-Failed-clause-leaves g c = λ told segments stands.
    cut_leaves _ _ c.self.view_is segments _ _ _ stands c.cut.ensures.others (λ here. c.cut.ensures.images told segments here.log)

pub returns-clause-leaves : goal.returns-clause-leaves
returns-clause-leaves g c = λ told segments stands.
    cut_leaves _ _ c.self.view_is segments _ _ _ stands c.cut.ensures.others (λ here. c.cut.ensures.images told segments here.log)

pub returns-clause-done : goal.returns-clause-done
returns-clause-done g c = λ told segments stands.
    cut_stands _ _ c.self.view_is _ segments _ _ _ stands c.cut.ensures.stream c.cut.ensures.others (λ here. c.cut.ensures.done told (did_done _ c.in_default.not-Failed) segments here.log)

pub returns-in-Failed-clause-recoverable : goal.returns-in-Failed-clause-recoverable
returns-in-Failed-clause-recoverable g c = λ told.
    let (segments, stands) = c.requires.backed told in
    job_recoverable _ _ c.self.view_is segments _ _ stands c.cut.ensures.others (c.cut.ensures.recoverable told)

pub returns-clause-recoverable : goal.returns-clause-recoverable
returns-clause-recoverable g c = λ told.
    let (segments, stands) = c.requires.backed told in
    job_recoverable _ _ c.self.view_is segments _ _ stands c.cut.ensures.others (c.cut.ensures.recoverable told)
