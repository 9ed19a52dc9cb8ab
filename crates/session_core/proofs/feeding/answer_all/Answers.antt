use Rattle.std.proofs.Common.{arith}
use Rattle.command_fields.specs.declared.response.ResponseCode.TheVariants as code
use Rattle.session_core.proofs.Answering.{given_command, given_unspelt, given_large, given_more, given_framed, command_shortens, on_ok, is_over, begins, turned, goes_on, rests_as, ends_now, closes_unspelt, closes_large, closed_reads, waits}
use Rattle.session_core.proofs.feeding.answer_all.Goals as goal

pub turns-init : goal.turns-init
turns-init g c = record {
  so = begins g.H.Hub.meaning c.args.identity.now c.args.now c.args.tables.now c.args.out.now c.args.reader.now c.args.hub.now c.requires.stands;
  later = g.met.H.Hub.laws.seen.same c.args.hub.now;
}

pub answer-requires : goal.answer-requires
answer-requires g c =
    let given = given_command c.turns.reader c.next.new.self c.in_ok-command.field-0 c.in-Command.command c.in-Command.is c.in_ok-command.ensures.given in
    let so = c.turns.invariant.so in
    given_framed c.turns.reader c.next.new.self c.in-Command.command (omega (arith, so.same_max, c.requires.small)) given

pub turns-smaller : goal.turns-smaller
turns-smaller g c =
    let given = given_command c.turns.reader c.next.new.self c.in_ok-command.field-0 c.in-Command.command c.in-Command.is c.in_ok-command.ensures.given in
    command_shortens c.turns.reader c.next.new.self c.in-Command.command given

pub turns-preserved : goal.turns-preserved
turns-preserved g c =
    let given = given_command c.turns.reader c.next.new.self c.in_ok-command.field-0 c.in-Command.command c.in-Command.is c.in_ok-command.ensures.given in
    let turn = turned g.H.Hub.meaning c.args.identity.now c.args.now c.args.reader.now.max c.args.reader.now.rest c.args.tables.now c.turns.tables c.answer.new.tables c.args.out.now c.turns.out c.answer.new.out c.turns.reader c.next.new.self c.in-Command.command c.args.hub.now c.turns.hub c.answer.new.hub c.turns.invariant.so given c.in_ok-answer-in-Command.ensures.ok in record {
      so = goes_on g.H.Hub.meaning c.args.identity.now c.args.now c.args.reader.now.max c.args.reader.now.rest c.args.tables.now c.answer.new.tables c.args.out.now c.answer.new.out c.next.new.self c.args.hub.now c.answer.new.hub turn c.in-None.is;
      later = g.met.H.Hub.laws.seen.joins _ _ _ c.turns.invariant.later c.in_ok-answer-in-Command.ensures.later;
    }

pub returns-in-Some-clause-ok : goal.returns-in-Some-clause-ok
returns-in-Some-clause-ok g c =
    let given = given_command c.turns.reader c.next.new.self c.in_ok-command.field-0 c.in-Command.command c.in-Command.is c.in_ok-command.ensures.given in
    let turn = turned g.H.Hub.meaning c.args.identity.now c.args.now c.args.reader.now.max c.args.reader.now.rest c.args.tables.now c.turns.tables c.answer.new.tables c.args.out.now c.turns.out c.answer.new.out c.turns.reader c.next.new.self c.in-Command.command c.args.hub.now c.turns.hub c.answer.new.hub c.turns.invariant.so given c.in_ok-answer-in-Command.ensures.ok in
    ends_now g.H.Hub.meaning c.args.identity.now c.args.now c.args.reader.now.max c.args.reader.now.rest c.args.tables.now c.answer.new.tables c.args.out.now c.answer.new.out c.next.new.self c.args.hub.now c.answer.new.hub turn (is_over c.answer.new.tables c.in-Some.field-0 c.in-Some.is)

pub returns-in-Some-clause-reads : goal.returns-in-Some-clause-reads
returns-in-Some-clause-reads g c = λ none. absurd (is_over c.answer.new.tables c.in-Some.field-0 c.in-Some.is none)

pub returns-in-Unspelt-clause-ok : goal.returns-in-Unspelt-clause-ok
returns-in-Unspelt-clause-ok g c =
    let given = given_unspelt c.turns.reader c.next.new.self c.in_ok-command.field-0 c.in-Unspelt.fault c.in-Unspelt.is c.in_ok-command.ensures.given in
    on_ok c.close_with.result (closes_unspelt g.H.Hub.meaning c.args.identity.now c.args.now c.args.reader.now.max c.args.reader.now.rest c.args.tables.now c.turns.tables c.close_with.new.tables c.args.out.now c.turns.out c.close_with.new.out c.turns.reader c.next.new.self c.in-Unspelt.fault c.args.hub.now c.turns.hub c.turns.invariant.so given.0 given.1) c.close_with.ensures

pub returns-in-Unspelt-clause-reads : goal.returns-in-Unspelt-clause-reads
returns-in-Unspelt-clause-reads g c = on_ok c.close_with.result (closed_reads c.args.identity.now code.UnknownFrame c.turns.tables c.close_with.new.tables c.turns.out c.close_with.new.out _) c.close_with.ensures

pub returns-in-TooLarge-clause-ok : goal.returns-in-TooLarge-clause-ok
returns-in-TooLarge-clause-ok g c =
    let given = given_large c.turns.reader c.next.new.self c.in_ok-command.field-0 c.in-TooLarge.size c.in-TooLarge.is c.in_ok-command.ensures.given in
    on_ok c.close_with-in-TooLarge.result (closes_large g.H.Hub.meaning c.args.identity.now c.args.now c.args.reader.now.max c.args.reader.now.rest c.args.tables.now c.turns.tables c.close_with-in-TooLarge.new.tables c.args.out.now c.turns.out c.close_with-in-TooLarge.new.out c.turns.reader c.next.new.self c.in-TooLarge.size c.args.hub.now c.turns.hub c.turns.invariant.so given.1 given.2) c.close_with-in-TooLarge.ensures

pub returns-in-TooLarge-clause-reads : goal.returns-in-TooLarge-clause-reads
returns-in-TooLarge-clause-reads g c =
    on_ok c.close_with-in-TooLarge.result (closed_reads c.args.identity.now code.FrameTooLarge c.turns.tables c.close_with-in-TooLarge.new.tables c.turns.out c.close_with-in-TooLarge.new.out _) c.close_with-in-TooLarge.ensures

pub returns-in-More-clause-ok : goal.returns-in-More-clause-ok
returns-in-More-clause-ok g c =
    let given = given_more c.turns.reader c.next.new.self c.in_ok-command.field-0 c.in-More.is c.in_ok-command.ensures.given in
    rests_as g.H.Hub.meaning c.args.identity.now c.args.now c.args.reader.now.max c.args.reader.now.rest c.args.tables.now c.turns.tables c.args.out.now c.turns.out c.turns.reader c.next.new.self c.args.hub.now c.turns.hub c.turns.invariant.so given.1 given.2

pub returns-in-More-clause-reads : goal.returns-in-More-clause-reads
returns-in-More-clause-reads g c = λ none.
    let given = given_more c.turns.reader c.next.new.self c.in_ok-command.field-0 c.in-More.is c.in_ok-command.ensures.given in
    waits c.args.reader.now.max c.turns.reader c.next.new.self c.turns.invariant.so.same_max given
