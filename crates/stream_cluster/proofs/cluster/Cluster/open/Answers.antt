use Rattle.stream_cluster.proofs.Indexing.{known_none}
use Rattle.std.proofs.Common.{◌≡◌, ◌≤◌, true, List, [], ◌∷◌, length, sym, ap, subst, ◌∙◌, arith}
use Rattle.chunk_format.specs.declared.chunk.Chunk.{Chunk}
use Rattle.epoch_coordinator.specs.Coordinators.{opened_with}
use Rattle.replication_laws.specs.Cluster.{last_number}
use Rattle.cluster_core.specs.declared.mail.Numbered.{Numbered}
use Rattle.cluster_core.specs.States.{IsStream, cluster_of, state_of}
use Rattle.stream_cluster.specs.Opens.{MayOpen}
use Rattle.stream_cluster.proofs.Opening.{opened_at}
use Rattle.stream_cluster.proofs.Handing.{opened_served}
use Rattle.stream_cluster.proofs.cluster.Cluster.open.Goals as goal

pub invariant_of-result : goal.invariant_of-result
invariant_of-result c =
    let count = ap length c.as_slice-2.ensures in
    let opened_so : c.in-Ok-open.coordinator ≡ opened_with (length c.as_slice-2.result.now) c.args.epoch = cc (sym c.in-Ok-open.is ∙ c.open.ensures) in
    let fits = c.ranges.epoch.fits in
    let below : c.args.epoch ≤ last_number = omega (arith, fits) in
    let seats = c.in-Ok.seats.items in
    let m = c.in-Ok-open.coordinator in
    let may = subst (MayOpen c.args.epoch) c.as_slice.ensures c.in_ok-refuse.ensures.ok in
    let stream = opened_at seats m (length c.as_slice-2.result.now) c.args.epoch c.args.starts c.requires.least c.requires.most below may c.in-Ok.ensures opened_so count in
    let is_stream = subst (λ (x : List Chunk). IsStream (cluster_of seats true m c.new.result.items 0 x)) (sym c.new-2.ensures.items) (subst (λ (x : List Numbered). IsStream (cluster_of seats true m x 0 [])) (sym c.new.ensures.items) stream) in
    (opened_served c.args.limits c.args.stream (state_of seats true m c.new.result.items 0 c.new-2.result.items (0 ∷ 0 ∷ 0 ∷ 0 ∷ 0 ∷ 0 ∷ 0 ∷ 0 ∷ [])) c.new-3.result c.new-3.ensures is_stream, known_none c.new-2.result.items c.nothing.result.count c.nothing.result.tracking c.nothing.ensures.count c.nothing.ensures.tracks)
