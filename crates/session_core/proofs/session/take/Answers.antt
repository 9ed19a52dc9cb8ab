use Rattle.session_core.proofs.Sessions.{stands_at, small_max, reads_as, serves, stood_still}
use Rattle.session_core.proofs.session.take.Goals as goal

pub answer_all-requires-clause-stands : goal.answer_all-requires-clause-stands
answer_all-requires-clause-stands g c = stands_at c.args.now c.args.piece.now c.args.tables.now c.receive.new.tables c.receive.ensures c.requires.stands

pub answer_all-requires-clause-small : goal.answer_all-requires-clause-small
answer_all-requires-clause-small g c = small_max c.args.reader.now c.feed.new.self c.args.piece.now c.requires.reads c.in_ok-feed.ensures.taken

pub returns-clause-ok : goal.returns-clause-ok
returns-clause-ok g c =
    serves g.H.Hub.meaning c.args.identity.now c.args.now c.args.piece.now c.args.tables.now c.receive.new.tables c.answer_all.new.tables c.send.new.tables c.args.reader.now c.feed.new.self c.answer_all.new.reader c.new-out.result c.answer_all.new.out c.as_slice.result.now c.args.hub.now c.answer_all.new.hub
    c.requires.reads c.in_ok-feed.ensures.taken c.receive.ensures c.new-out.ensures c.in_ok-answer_all.ensures.ok c.as_slice.ensures c.send.ensures

pub returns-clause-reads : goal.returns-clause-reads
returns-clause-reads g c = λ none.
    reads_as 1048576 c.args.reader.now c.feed.new.self c.answer_all.new.reader c.args.piece.now c.requires.reads c.in_ok-feed.ensures.taken (c.in_ok-answer_all.ensures.reads (stood_still c.as_slice.result.now c.answer_all.new.tables c.send.new.tables c.send.ensures none))
