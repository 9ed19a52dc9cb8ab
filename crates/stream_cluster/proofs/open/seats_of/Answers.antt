use Rattle.std.proofs.Common.{◌<◌, length, map, arith}
use Rattle.replication_laws.specs.Openings.{start_seats}
use Rattle.stream_cluster.specs.Opens.{start_of}
use Rattle.stream_cluster.proofs.Opening.{left_on, seats_on}
use Rattle.stream_cluster.proofs.open.seats_of.Goals as goal

pub starts-preserved : goal.starts-preserved
starts-preserved c =
    let st = c.starts in
    let r = c.remove-start in
    let n = r.ensures.len in
    let e = st.left.ok.0 in
    let lt : 0 < length st.left.items = omega (arith, n, e) in
    let all = start_seats c.args.members 1 (map start_of c.args.starts) in
    record {
      left = left_on c.args.members st.seats.items c.add_seat.new.seats.items all r.result c.in_ok-seat.seat c.in_ok-seat.ensures c.in_ok-add_seat.ensures st.left.items r.new.self.items lt r.ensures.items st.invariant.left;
      seats = seats_on c.args.members st.seats.items c.add_seat.new.seats.items all r.result c.in_ok-seat.seat c.in_ok-seat.ensures c.in_ok-add_seat.ensures st.left.items r.new.self.items lt r.ensures.value r.ensures.items st.invariant.left st.invariant.seats;
    }
