use Rattle.frame_wire.proofs.FieldFormats.{count_lawful}
use Rattle.frame_wire.proofs.Numbers.{count_spelled}
use Rattle.frame_wire.proofs.scan.Scan.count.Goals as goal

pub returns-clause-spelled : goal.returns-clause-spelled
returns-clause-spelled c = count_spelled c.in-Some.count c.self.inside.bytes.now c.self.inside.at c.args.self.now c.rest.result.now c.self.view_is c.rest.ensures c.in-Some.ensures.stands c.if-count-gt-GREATEST_COUNT.false

pub returns-clause-read : goal.returns-clause-read
returns-clause-read c = count_lawful.again c.args.self.now c.in-Some.count _ (count_spelled c.in-Some.count c.self.inside.bytes.now c.self.inside.at c.args.self.now c.rest.result.now c.self.view_is c.rest.ensures c.in-Some.ensures.stands c.if-count-gt-GREATEST_COUNT.false)
