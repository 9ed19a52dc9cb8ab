use Rattle.std.proofs.Common.{◌≡◌, ◌++◌}
use Rattle.member_disk.specs.Streams.{names_there}
use Rattle.member_disk.proofs.memory_stream.names_of.Given as goal

abbrev pub invariant-loop-name : goal.invariant-loop-name
invariant-loop-name l = l.found ++ names_there l.stream l.name-iterator ≡ names_there l.stream l.files.entries
