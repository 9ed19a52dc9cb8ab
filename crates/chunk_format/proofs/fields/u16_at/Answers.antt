use Rattle.frame_wire.specs.Fields.{u16_bytes}
use Rattle.chunk_format.proofs.Places.{read_at}
use Rattle.chunk_format.proofs.fields.u16_at.Goals as goal

pub returns : goal.returns
returns c = read_at u16_bytes 2 c.args.place c.in-Ok.value c.args.bytes.now c.new-scan.result c.u16.new.self c.new-scan.ensures.rest c.in-Ok.ensures.spelled.0 c.in-Ok.ensures.spelled.2
