use Rattle.segment_store.proofs.Wording.{word_last}
use Rattle.segment_store.proofs.Performing.{put_between, put_stands}
use Rattle.segment_store.proofs.Keeping.{put_recoverable}
use Rattle.segment_store.proofs.member_store.MemberStore.put.Goals as goal

pub returns-in_err-put-clause-leaves : goal.returns-in_err-put-clause-leaves
returns-in_err-put-clause-leaves g c = λ told segments stands.
    put_between _ _ c.self.view_is segments _ _ _ stands c.in_err-put.ensures.others (c.in_err-put.ensures.images told)

pub returns-clause-leaves : goal.returns-clause-leaves
returns-clause-leaves g c = λ told segments stands.
    put_between _ _ c.self.view_is segments _ _ _ stands c.in_ok-put.ensures.others (c.in_ok-put.ensures.images told)

pub returns-clause-done : goal.returns-clause-done
returns-clause-done g c = λ told segments stands.
    put_stands _ _ c.self.view_is _ segments _ _ stands c.in_ok-put.ensures.id c.in_ok-put.ensures.others (c.in_ok-put.ensures.backs told) c.in_ok-put.ensures.sure

pub returns-clause-promised : goal.returns-clause-promised
returns-clause-promised g c = word_last _ c.args.epoch _ c.in_ok-put.ensures.last

pub returns-in_err-put-clause-recoverable : goal.returns-in_err-put-clause-recoverable
returns-in_err-put-clause-recoverable g c = λ told.
    let (segments, stands) = c.requires told in
    put_recoverable _ _ c.self.view_is _ segments _ _ stands c.in_err-put.ensures.id c.in_err-put.ensures.others (c.in_err-put.ensures.backs told)

pub returns-clause-recoverable : goal.returns-clause-recoverable
returns-clause-recoverable g c = λ told.
    let (segments, stands) = c.requires told in
    put_recoverable _ _ c.self.view_is _ segments _ _ stands c.in_ok-put.ensures.id c.in_ok-put.ensures.others (c.in_ok-put.ensures.backs told)
