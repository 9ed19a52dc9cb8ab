use Rattle.std.specs.Int.{w32}
use Rattle.frame_wire.specs.Fields.{u32_bytes}
use Rattle.frame_wire.proofs.Numbers.{number_read, number_found}
use Rattle.frame_wire.proofs.scan.Scan.u32.Goals as goal

pub returns-clause-spelled : goal.returns-clause-spelled
returns-clause-spelled c = number_read u32_bytes 4 c.in-Some.value c.self.inside.bytes.now c.self.inside.at c.args.self.now c.rest.result.now c.self.view_is c.rest.ensures c.in-Some.ensures.stands

pub returns-clause-read : goal.returns-clause-read
returns-clause-read c = number_found w32 c.in-Some.value c.self.inside.bytes.now c.self.inside.at c.args.self.now c.rest.result.now c.self.view_is c.rest.ensures c.in-Some.ensures.stands.1 c.in-Some.ensures.value
