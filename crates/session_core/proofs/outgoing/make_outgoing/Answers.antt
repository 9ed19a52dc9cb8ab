use Rattle.session_core.specs.declared.unasked.Unasked.TheVariants as say
use Rattle.session_core.proofs.Sayable.{told_so}
use Rattle.session_core.proofs.outgoing.make_outgoing.Goals as goal

pub returns-in-Confirm : goal.returns-in-Confirm
returns-in-Confirm c = told_so c.args.unasked (say.Confirm c.in-Confirm.id c.in-Confirm.ids) c.confirm.result c.in-Confirm.is c.confirm.ensures

pub returns-in-MetadataUpdate : goal.returns-in-MetadataUpdate
returns-in-MetadataUpdate c = told_so c.args.unasked (say.MetadataUpdate c.in-MetadataUpdate.stream) c.metadata_update.result c.in-MetadataUpdate.is c.metadata_update.ensures

pub returns-in-Update : goal.returns-in-Update
returns-in-Update c = told_so c.args.unasked (say.Update c.in-Update.corr c.in-Update.id c.in-Update.active) c.update.result c.in-Update.is c.update.ensures

pub returns-in-Deliver : goal.returns-in-Deliver
returns-in-Deliver c = told_so c.args.unasked (say.Deliver c.in-Deliver.id c.in-Deliver.committed c.in-Deliver.chunk) c.deliver.result c.in-Deliver.is c.deliver.ensures
