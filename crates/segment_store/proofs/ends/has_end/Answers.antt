use Rattle.std.proofs.Common.{arith}
use Rattle.segment_store.proofs.Halving.{found_end, has_found}
use Rattle.segment_store.proofs.ends.has_end.Goals as goal

pub returns-in-Some-clause-found : goal.returns-in-Some-clause-found
returns-in-Some-clause-found c = λ is. found_end c.args.rows.now c.rows_before-at.result c.args.end _ _ c.in-Some.ensures.lookup.0 c.in-Some.ensures.lookup.1 is

pub returns-in-Some-clause-all : goal.returns-in-Some-clause-all
returns-in-Some-clause-all c = λ rise kept ends.
    has_found c.args.rows.now c.rows_before-at.result c.args.end kept _ _ c.in-Some.ensures.lookup.0 c.in-Some.ensures.lookup.1 (c.rows_before-at.ensures.none_before rise) rise (omega arith) ends
