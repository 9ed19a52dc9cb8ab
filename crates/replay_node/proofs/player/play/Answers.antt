use Rattle.std.proofs.Common.{◌≡◌, length, take, arith}
use Rattle.std.proofs.lemmas.List.{length-take}
use Rattle.replay_node.proofs.Pieces.{cause_since, open_none}
use Rattle.replay_node.proofs.Scripts.{script_start, script_piece, script_stopped, script_ended, script_too_long, not_read_fault}
use Rattle.replay_node.proofs.player.play.Goals as goal

pub pieces-init : goal.pieces-init
pieces-init g c = record {
  so_far = script_start _ _ _ _ _ c.requires.node c.requires.line c.requires.lines;
  begun = open_none _ c.requires.line;
  lines = let zero = c.requires.lines in omega arith;
  total = omega arith;
  reads = omega arith;
  writes = omega arith;
}

pub returns-in-End-clause-plays : goal.returns-in-End-clause-plays
returns-in-End-clause-plays g c =
    script_ended c.script_end.result _ _ _ _ c.pieces.player.line _ _ _ _ c.pieces.invariant.so_far c.in-End.ensures.took.0 c.in-End.ensures.took.1 c.pieces.invariant.begun c.pieces.invariant.total
    c.script_end.ensures.done c.script_end.ensures.bad

pub returns-then-total-gt-MOST_BYTES-clause-plays : goal.returns-then-total-gt-MOST_BYTES-clause-plays
returns-then-total-gt-MOST_BYTES-clause-plays g c =
    let fits = c.in-Got.ensures.took.1 in
    let long = c.if-total-gt-MOST_BYTES.true in
    script_too_long _ _ _ _ _ (take c.in-Got.count c.read.new.buf) _ _ c.in-Got.count _ _ c.pieces.invariant.so_far c.in-Got.ensures.took.2 (omega (arith, length-take c.in-Got.count c.read.new.buf)) c.pieces.invariant.total (omega arith)
    c.pieces.invariant.begun

pub pieces-preserved : goal.pieces-preserved
pieces-preserved g c =
    let fits = c.in-Got.ensures.took.1 in
    let short = c.if-total-gt-MOST_BYTES.false in
    let len : length (take c.in-Got.count c.read.new.buf) ≡ c.in-Got.count = omega (arith, length-take c.in-Got.count c.read.new.buf) in
    let both = script_piece _ _ _ _ _ _ (take c.in-Got.count c.read.new.buf) _ _ _ _ c.in-Got.count _ _ _ c.pieces.invariant.so_far c.in-Got.ensures.took.2 len c.in-Done.ensures.plays in
    let lines = c.pieces.invariant.lines in
    let count = c.in-Done.ensures.count in
    let reads = c.pieces.invariant.reads in
    let writes = c.pieces.invariant.writes in
    let read = c.in-Got.ensures.cause.later in
    let wrote = c.in-Done.ensures.cause.later in
    record {
      so_far = both.0;
      begun = both.1;
      lines = omega arith;
      total = omega arith;
      reads = omega arith;
      writes = omega arith;
    }

pub returns-in_default : goal.returns-in_default
returns-in_default g c =
    let fits = c.in-Got.ensures.took.1 in
    let short = c.if-total-gt-MOST_BYTES.false in
    let len : length (take c.in-Got.count c.read.new.buf) ≡ c.in-Got.count = omega (arith, length-take c.in-Got.count c.read.new.buf) in
    let lines = c.pieces.invariant.lines in
    let count = c.take_piece.ensures.count in
    let reads = c.pieces.invariant.reads in
    let read = c.in-Got.ensures.cause.later in
    record {
      plays = script_stopped c.take_piece.result _ _ _ _ _ _ (take c.in-Got.count c.read.new.buf) _ _ _ _ c.in-Got.count _ _ _ c.in_default.not-Done c.pieces.invariant.so_far c.in-Got.ensures.took.2 len (omega arith) c.take_piece.ensures.plays;
      count = omega arith;
      read = record { later = omega arith; failed = λ e. absurd (not_read_fault c.take_piece.result _ _ _ _ _ _ _ _ c.take_piece.ensures.plays e) };
      write = cause_since _ _ _ _ c.pieces.invariant.writes c.take_piece.ensures.cause;
    }
