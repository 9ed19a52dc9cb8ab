use Rattle.member_stores.specs.Works.{asked}
use Rattle.member_stores.proofs.Working.{stays_backed}
use Rattle.member_stores.proofs.shelf.Shelf.perform.Goals as goal

pub returns-in-None-clause-left : goal.returns-in-None-clause-left
returns-in-None-clause-left g c = λ told chunks backed undone suits. c.work.ensures.left told chunks backed suits

pub returns-in-None-clause-backed : goal.returns-in-None-clause-backed
returns-in-None-clause-backed g c = λ told. stays_backed g.D.Disk.state (asked c.args.stream c.args.member c.args.number c.args.job.now) c.work.result _ c.work.new.self c.args.disk.now c.work.new.disk (c.requires.backed told).0 (c.requires.backed told).1 (λ chunks backed. c.work.ensures.stands told chunks backed) c.work.ensures.apart (c.work.ensures.memory told) c.work.ensures.gives
