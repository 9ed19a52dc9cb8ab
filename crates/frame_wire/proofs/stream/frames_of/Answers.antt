use Rattle.std.proofs.Common.{◌≡◌, ◌+◌, ◌++◌, List, ℕ, take, drop, subst, ◌∙◌, arith}
use Rattle.std.proofs.lemmas.Grind.{common_steps}
use Rattle.frame_wire.specs.Cutting.{CutsStream}
use Rattle.frame_wire.specs.declared.stream.StreamEnd.TheVariants.{Open}
use Rattle.frame_wire.proofs.Streams.{joined, piece_cut, stays_large, is_open, one_cut}
use Rattle.frame_wire.proofs.stream.frames_of.Goals as goal

pub returns-in-TooLarge-clause-frames : goal.returns-in-TooLarge-clause-frames
returns-in-TooLarge-clause-frames c =
    let pieces = c.args.pieces.now in
    let i = c.loop-piece.piece-index in
    let bodies = c.cut_frames.new.out in
    let rest = c.cut_frames.new.cutter.rest in
    let cut = piece_cut c.args.max pieces i c.piece-item.result c.as_slice.result.now c.loop-piece.cutter c.feed.new.self c.loop-piece.bodies bodies rest c.in_ok-end.end c.loop-piece-test.true c.piece-item.is c.as_slice.ensures c.loop-piece.invariant.frames c.loop-piece.invariant.max c.in_ok-feed.ensures.fed c.in_ok-end.ensures.frames in
    (rest ++ joined (drop (i + 1) pieces), stays_large c.args.max pieces (i + 1) bodies rest c.in_ok-end.end c.in-TooLarge.size c.in-TooLarge.is cut.0)

pub returns-in-TooLarge-clause-only : goal.returns-in-TooLarge-clause-only
returns-in-TooLarge-clause-only c = λ others other_rest end other.
    let pieces = c.args.pieces.now in
    let i = c.loop-piece.piece-index in
    let bodies = c.cut_frames.new.out in
    let rest = c.cut_frames.new.cutter.rest in
    let cut = piece_cut c.args.max pieces i c.piece-item.result c.as_slice.result.now c.loop-piece.cutter c.feed.new.self c.loop-piece.bodies bodies rest c.in_ok-end.end c.loop-piece-test.true c.piece-item.is c.as_slice.ensures c.loop-piece.invariant.frames c.loop-piece.invariant.max c.in_ok-feed.ensures.fed c.in_ok-end.ensures.frames in
    let mine = stays_large c.args.max pieces (i + 1) bodies rest c.in_ok-end.end c.in-TooLarge.size c.in-TooLarge.is cut.0 in
    one_cut c.args.max (omega arith) (joined pieces) others bodies other_rest (rest ++ joined (drop (i + 1) pieces)) end c.in_ok-end.end other mine

pub loop-piece-preserved : goal.loop-piece-preserved
loop-piece-preserved c =
    let pieces = c.args.pieces.now in
    let i = c.loop-piece.piece-index in
    let bodies = c.cut_frames.new.out in
    let rest = c.cut_frames.new.cutter.rest in
    let cut = piece_cut c.args.max pieces i c.piece-item.result c.as_slice.result.now c.loop-piece.cutter c.feed.new.self c.loop-piece.bodies bodies rest c.in_ok-end.end c.loop-piece-test.true c.piece-item.is c.as_slice.ensures c.loop-piece.invariant.frames c.loop-piece.invariant.max c.in_ok-feed.ensures.fed c.in_ok-end.ensures.frames in
    record { frames = is_open c.args.max (joined (take (i + 1) pieces)) bodies rest c.in_ok-end.end c.in_default.not-TooLarge cut.0; max = c.in_ok-end.ensures.max ∙ cut.1 }

pub returns-clause-only : goal.returns-clause-only
returns-clause-only c = λ bodies rest end other.
    let whole : take c.loop-piece.piece-index c.args.pieces.now ≡ c.args.pieces.now = search (arith, common_steps) in
    let mine = subst (λ (ps : List (List ℕ)). CutsStream c.args.max (joined ps) c.loop-piece.bodies c.loop-piece.cutter.rest Open) whole c.loop-piece.invariant.frames in
    one_cut c.args.max (omega arith) (joined c.args.pieces.now) bodies c.loop-piece.bodies rest c.loop-piece.cutter.rest end Open other mine
