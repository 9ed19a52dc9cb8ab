use Rattle.segment_store.proofs.Performing.{after_backed, after_log, after_promise}
use Rattle.segment_store.proofs.member_store.MemberStore.perform.Goals as goal

pub returns-clause-done : goal.returns-clause-done
returns-clause-done g c = λ told chunks backed.
    after_backed _ _ _ chunks _ _ backed (c.in_ok-change.ensures.done told backed.segments backed.stands)

pub returns-clause-only_log : goal.returns-clause-only_log
returns-clause-only_log g c = λ told chunks backed.
    after_log _ _ _ _ c.in_ok-change.ensures.keeper.stream (after_backed _ _ _ chunks _ _ backed (c.in_ok-change.ensures.done told backed.segments backed.stands))

pub returns-clause-only_promise : goal.returns-clause-only_promise
returns-clause-only_promise g c = λ told chunks backed.
    after_promise _ _ _ _ _ c.in_ok-change.ensures.keeper.stream c.in_ok-change.ensures.promised (after_backed _ _ _ chunks _ _ backed (c.in_ok-change.ensures.done told backed.segments backed.stands))
