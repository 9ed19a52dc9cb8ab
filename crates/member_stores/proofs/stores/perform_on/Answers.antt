use Rattle.chunk_format.specs.declared.chunk.Chunk.{Chunk}
use Rattle.segment_store.specs.Stores.{BackedStore}
use Rattle.member_stores.specs.declared.shelf.Shelf.{Shelf}
use Rattle.member_stores.specs.Works.{IsUndone, JobLeft, Suits, asked}
use Rattle.member_stores.proofs.Working.{for_it}
use Rattle.member_stores.proofs.stores.perform_on.Goals as goal

pub returns-in-Some-clause-left : goal.returns-in-Some-clause-left
returns-in-Some-clause-left g c = λ told on chunks todo suits backed.
    let a = asked c.args.stream c.args.member c.args.number c.args.job.now in
    for_it (λ (x : Shelf). IsUndone a x → Suits a x.store → BackedStore x.store chunks (g.D.Disk.state c.args.disk.now) → JobLeft c.args.job.now x.store chunks (g.D.Disk.state c.perform.new.disk))
    c.args.shelf.now c.in-Some.on on c.in-Some.is todo.there (λ undone fits stood. c.perform.ensures.left told chunks stood undone fits) todo.undone suits backed
