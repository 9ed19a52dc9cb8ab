use Rattle.std.proofs.Common.{sym, ◌∙◌, arith}
use Rattle.stream_settle.proofs.Nexts.{passed, plus_one}
use Rattle.stream_settle.proofs.next.first_busy.Goals as goal

pub members-preserved : goal.members-preserved
members-preserved c =
    let few = c.members-test.true in
    (omega (arith, few), c.members.invariant.1 ∙ passed c.members.place _ c.args.cluster.now.state.cluster (plus_one c.members.place) (sym c.is_busy.ensures ∙ c.if-is_busy.false))
