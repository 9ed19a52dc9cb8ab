use Rattle.stream_terms.proofs.Searching.{Searching}
use Rattle.stream_terms.proofs.search.find_place.Given as goal

abbrev pub invariant-search : goal.invariant-search
invariant-search g l = Searching (g.E.Ends.ends l.list) l.offset l.fn.steps l.steps l.low l.left

abbrev pub decreases-search : goal.decreases-search
decreases-search g l = l.left
