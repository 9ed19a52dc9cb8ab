use Rattle.std.proofs.Common.{◌+◌, ◌<◌, ◌/◌, length, arith}
use Rattle.stream_terms.proofs.Searching.{starts, turns, above_at, below_at}
use Rattle.stream_terms.proofs.search.find_place.Goals as goal

pub search-init : goal.search-init
search-init g c = starts (g.E.Ends.ends c.args.list.now) c.args.offset c.args.steps.now c.len-left.result c.len-left.ensures

pub overflow_add-middle : goal.overflow_add-middle
overflow_add-middle g c = let within = c.search.invariant.within in omega (arith, within, c.len-left.ensures)

pub end_above-requires : goal.end_above-requires
end_above-requires g c = let within = c.search.invariant.within in omega (arith, within, c.search-test.true)

pub search-preserved-then-end_above : goal.search-preserved-then-end_above
search-preserved-then-end_above g c =
    let ends = g.E.Ends.ends c.args.list.now in
    let s = c.search.invariant in
    let within = s.within in
    let inside : c.search.low + c.search.left / 2 < length ends = omega (arith, within, c.search-test.true) in
    let above = above_at c.args.offset ends (c.search.low + c.search.left / 2) inside (grind (arith, c.if-end_above.ensures.above)) in
    turns ends c.args.offset c.args.steps.now c.search.steps c.search.low c.search.left c.end_above.new.steps c.search.low (c.search.left / 2) s c.end_above.ensures.step (omega (arith, c.search-test.true)) (omega arith) (omega (arith, within)) s.from above

pub overflow_add-low : goal.overflow_add-low
overflow_add-low g c = let within = c.search.invariant.within in omega (arith, within, c.search-test.true, c.len-left.ensures)

pub search-preserved : goal.search-preserved
search-preserved g c =
    let ends = g.E.Ends.ends c.args.list.now in
    let s = c.search.invariant in
    let within = s.within in
    let to = s.to in
    let inside : c.search.low + c.search.left / 2 < length ends = omega (arith, within, c.search-test.true) in
    let below = below_at c.args.offset ends (c.search.low + c.search.left / 2) c.requires inside (grind (arith, c.if-end_above.ensures.above)) in
    turns ends c.args.offset c.args.steps.now c.search.steps c.search.low c.search.left c.end_above.new.steps _ _ s c.end_above.ensures.step (omega (arith, c.search-test.true)) (omega arith) (omega (arith, within, c.search-test.true)) (omega (arith, below)) (omega (arith, to, c.search-test.true))

pub returns-clause-place : goal.returns-clause-place
returns-clause-place g c = let from = c.search.invariant.from in let to = c.search.invariant.to in omega (arith, from, to, c.search-test.false)

pub returns-clause-within : goal.returns-clause-within
returns-clause-within g c = let within = c.search.invariant.within in omega (arith, within)

pub returns-clause-steps : goal.returns-clause-steps
returns-clause-steps g c = c.search.invariant.bound
