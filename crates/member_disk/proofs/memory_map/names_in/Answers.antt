use Rattle.member_disk.proofs.NamesThere.{names_of_stream}
use Rattle.member_disk.proofs.memory_map.names_in.Goals as goal

pub returns-in-Some : goal.returns-in-Some
returns-in-Some c = names_of_stream c.args.streams.now c.args.stream c.in-Some.files.now c.in-Some.ensures.value c.names.result c.names.ensures
