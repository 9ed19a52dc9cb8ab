use Rattle.stream_catalog.proofs.Fresh.{Put}
use Rattle.stream_catalog.proofs.names.NameList.put_parts.Given as goal

abbrev pub invariant-loop-place : goal.invariant-loop-place
invariant-loop-place l = Put l.fn.self l.first l.parts l.place l.self
