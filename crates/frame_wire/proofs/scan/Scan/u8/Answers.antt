use Rattle.std.specs.Int.{w8}
use Rattle.frame_wire.specs.Fields.{u8_bytes}
use Rattle.frame_wire.proofs.Numbers.{number_read, number_found}
use Rattle.frame_wire.proofs.scan.Scan.u8.Goals as goal

pub returns-clause-spelled : goal.returns-clause-spelled
returns-clause-spelled c = number_read u8_bytes 1 c.in-Some.value c.self.inside.bytes.now c.self.inside.at c.args.self.now c.rest.result.now c.self.view_is c.rest.ensures c.in-Some.ensures.stands

pub returns-clause-read : goal.returns-clause-read
returns-clause-read c = number_found w8 c.in-Some.value c.self.inside.bytes.now c.self.inside.at c.args.self.now c.rest.result.now c.self.view_is c.rest.ensures c.in-Some.ensures.stands.1 c.in-Some.ensures.value
