use Rattle.std.specs.Int.{w16}
use Rattle.frame_wire.specs.Fields.{u16_bytes}
use Rattle.frame_wire.proofs.Numbers.{number_read, number_found}
use Rattle.frame_wire.proofs.scan.Scan.u16.Goals as goal

pub returns-clause-spelled : goal.returns-clause-spelled
returns-clause-spelled c = number_read u16_bytes 2 c.in-Some.value c.self.inside.bytes.now c.self.inside.at c.args.self.now c.rest.result.now c.self.view_is c.rest.ensures c.in-Some.ensures.stands

pub returns-clause-read : goal.returns-clause-read
returns-clause-read c = number_found w16 c.in-Some.value c.self.inside.bytes.now c.self.inside.at c.args.self.now c.rest.result.now c.self.view_is c.rest.ensures c.in-Some.ensures.stands.1 c.in-Some.ensures.value
