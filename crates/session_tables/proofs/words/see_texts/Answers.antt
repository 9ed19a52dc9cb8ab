use Rattle.frame_wire.specs.Fields.{IsText}
use Rattle.session_tables.proofs.Rows.{seen_more, seen_all}
use Rattle.session_tables.proofs.words.see_texts.Goals as goal

pub names-preserved : goal.names-preserved
names-preserved c = seen_more IsText c.args.names.now c.names.name-index c.name-item.result c.names.invariant c.name-item.is c.names-test.true c.get-bytes.ensures.short

pub returns : goal.returns
returns c = seen_all IsText c.args.names.now c.names.name-index c.names.invariant c.names-test.false
