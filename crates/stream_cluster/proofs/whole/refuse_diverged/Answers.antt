use Rattle.std.proofs.Common.{◌+◌, subst, arith}
use Rattle.stream_cluster.specs.Opens.{AllAgreeWith}
use Rattle.stream_cluster.proofs.Opening.{rest_is, agree_next, pair_by}
use Rattle.stream_cluster.proofs.whole.refuse_diverged.Goals as goal

pub returns-in-Err-clause-err : goal.returns-in-Err-clause-err
returns-in-Err-clause-err c = pair_by c.args.starts.now c.places.place c.index-starts-place.result c.places-test.true c.index-starts-place.is c.in-Err.fault c.places.invariant c.in-Err.ensures.err

pub places-preserved : goal.places-preserved
places-preserved c =
    let one = c.index-starts-place.result in
    agree_next c.args.starts.now c.places.place one c.places-test.true c.index-starts-place.is c.places.invariant
    (subst (AllAgreeWith one) (rest_is c.args.starts.now (c.places.place + 1)) c.in-Ok.ensures.ok)

pub returns-clause-ok : goal.returns-clause-ok
returns-clause-ok c = λ i j apart within. (let end = c.places-test.false in c.places.invariant i j (omega (arith, apart, within, end)) apart within)
