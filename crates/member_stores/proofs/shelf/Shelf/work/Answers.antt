use Rattle.std.proofs.Common.{inr}
use Rattle.member_stores.specs.Works.{asked}
use Rattle.member_stores.proofs.Working.{found_apart, receipt_is, works, streams_are}
use Rattle.member_stores.proofs.shelf.Shelf.work.Goals as goal

pub returns-then-not-suits-clause-exact : goal.returns-then-not-suits-clause-exact
returns-then-not-suits-clause-exact g c = λ told is suits. found_apart (asked c.args.stream c.args.member c.args.number c.args.job.now) c.args.self.now.store (c.requires.backed told).0 (g.D.Disk.state c.args.disk.now) c.suits.result (λ rise fits. c.suits.ensures.all rise c.args.number fits) c.if-not-suits.true (c.requires.backed told).1 suits

pub returns-then-not-suits-clause-left : goal.returns-then-not-suits-clause-left
returns-then-not-suits-clause-left g c = λ told chunks backed suits. absurd (found_apart (asked c.args.stream c.args.member c.args.number c.args.job.now) c.args.self.now.store chunks (g.D.Disk.state c.args.disk.now) c.suits.result (λ rise fits. c.suits.ensures.all rise c.args.number fits) c.if-not-suits.true backed suits)

pub perform-requires-clause-continues : goal.perform-requires-clause-continues
perform-requires-clause-continues g c = (c.suits.ensures.found c.if-not-suits.false c.args.number).continues

pub returns-in-Err-clause-gives : goal.returns-in-Err-clause-gives
returns-in-Err-clause-gives g c = works (asked c.args.stream c.args.member c.args.number c.args.job.now) c.args.self.now c.perform.new.self c.requires.undone (c.suits.ensures.found c.if-not-suits.false c.args.number) c.in-Err.ensures.keeper

pub returns-in-Err-clause-left : goal.returns-in-Err-clause-left
returns-in-Err-clause-left g c = λ told chunks backed suits. record { log = c.in-Err.ensures.log told chunks backed; promise = c.in-Err.ensures.promise told chunks backed; recoverable = c.in-Err.ensures.recoverable told }

pub returns-in-Err-clause-others : goal.returns-in-Err-clause-others
returns-in-Err-clause-others g c = streams_are 0 (asked c.args.stream c.args.member c.args.number c.args.job.now) c.args.self.now.store _ _ (c.suits.ensures.found c.if-not-suits.false c.args.number) c.in-Err.ensures.others

pub returns-in-Ok-clause-gives : goal.returns-in-Ok-clause-gives
returns-in-Ok-clause-gives g c =
    let a = asked c.args.stream c.args.member c.args.number c.args.job.now in
    let suits = c.suits.ensures.found c.if-not-suits.false c.args.number in
    let told = c.in-Ok.ensures.receipt in
    (receipt_is a c.in-Ok.receipt c.args.self.now.store suits told.0 told.1 told.2, inr (works a c.args.self.now c.perform.new.self c.requires.undone suits c.in-Ok.ensures.keeper))

pub returns-in-Ok-clause-left : goal.returns-in-Ok-clause-left
returns-in-Ok-clause-left g c = λ told chunks backed suits. record { log = c.in-Ok.ensures.log told chunks backed; promise = c.in-Ok.ensures.promise told chunks backed; recoverable = c.in-Ok.ensures.recoverable told }

pub returns-in-Ok-clause-stands : goal.returns-in-Ok-clause-stands
returns-in-Ok-clause-stands g c = λ told chunks backed. record { backed = c.in-Ok.ensures.done told chunks backed; log = c.in-Ok.ensures.only_log told chunks backed; promise = c.in-Ok.ensures.only_promise told chunks backed; promised = c.in-Ok.ensures.promised }

pub returns-in-Ok-clause-others : goal.returns-in-Ok-clause-others
returns-in-Ok-clause-others g c = streams_are 0 (asked c.args.stream c.args.member c.args.number c.args.job.now) c.args.self.now.store _ _ (c.suits.ensures.found c.if-not-suits.false c.args.number) c.in-Ok.ensures.others
