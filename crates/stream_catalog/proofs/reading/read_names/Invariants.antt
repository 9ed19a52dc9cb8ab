use Rattle.std.proofs.Common.{◌≡◌, ◌+◌, ◌*◌, drop}
use Rattle.stream_catalog.specs.Files.{names_in, names_after}
use Rattle.stream_catalog.specs.Adding.{AreNumbered}
use Rattle.stream_catalog.proofs.reading.read_names.Given as goal

abbrev pub invariant-loop-index : goal.invariant-loop-index
invariant-loop-index l = AreNumbered l.names × (names_in l.bytes l.pairs ≡ names_after l.bytes (8 + 18 * l.index) (drop l.index l.pairs) l.names)
