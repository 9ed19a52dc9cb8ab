use Rattle.stream_catalog.proofs.Fresh.{comes_free}
use Rattle.stream_catalog.proofs.names.NameList.add.Goals as goal

pub add_super-requires-clause-free : goal.add_super-requires-clause-free
add_super-requires-clause-free c = comes_free c.args.change c.args.self.now c.in-CreateSuper.is c.requires.fits
