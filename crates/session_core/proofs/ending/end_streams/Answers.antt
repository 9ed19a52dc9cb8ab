use Rattle.std.proofs.Common.{length, refl, ap, ◌∙◌, arith}
use Rattle.session_core.proofs.Leading.{streams_next, streams_all}
use Rattle.session_core.proofs.ending.end_streams.Goals as goal

pub end_at-requires : goal.end_at-requires
end_at-requires g c =
    let lt = c.streams-test.true in
    let n = ap length c.as_slice-count.ensures in
    let k = ap length c.streams.invariant.same in
    omega (arith, lt, n, k)

pub streams-init : goal.streams-init
streams-init g c = record { so = λ got new run. run; same = refl; later = g.met.H.Hub.laws.seen.same c.args.hub.now }

pub streams-preserved : goal.streams-preserved
streams-preserved g c =
    let lt = c.streams-test.true in
    let n = ap length c.as_slice-count.ensures in record {
      so = streams_next g.H.Hub.meaning c.args.tables.now c.streams.tables c.end_at.new.tables c.args.out.now c.streams.out c.end_at.new.out c.streams.place c.args.hub.now c.streams.hub c.end_at.new.hub c.streams.invariant.so c.streams.invariant.same
          (omega (arith, lt, n)) c.in_ok-end_at.ensures.ok;
      same = c.in_ok-end_at.ensures.streams ∙ c.streams.invariant.same;
      later = g.met.H.Hub.laws.seen.joins c.args.hub.now c.streams.hub c.end_at.new.hub c.streams.invariant.later c.in_ok-end_at.ensures.later;
    }

pub returns-clause-ok : goal.returns-clause-ok
returns-clause-ok g c =
    let le = c.streams-test.false in
    let n = ap length c.as_slice-count.ensures in
    streams_all g.H.Hub.meaning c.args.tables.now c.streams.tables c.args.out.now c.streams.out c.streams.place c.args.hub.now c.streams.hub c.streams.invariant.so (omega (arith, le, n))
