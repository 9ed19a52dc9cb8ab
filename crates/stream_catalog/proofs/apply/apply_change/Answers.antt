use Rattle.std.proofs.Common.{refl}
use Rattle.stream_catalog.proofs.Applying.{applied_memory}
use Rattle.stream_catalog.proofs.apply.apply_change.Goals as goal

pub returns-in_err-bytes-clause-applied : goal.returns-in_err-bytes-clause-applied
returns-in_err-bytes-clause-applied g c = λ told.
    applied_memory c.args.change c.args.listed.now c.args.listed.now c.args.words.now c.args.len.now c.args.sure.now c.from_residual.result (g.D.Disk.state c.args.disk.now) c.from_residual.ensures refl (c.requires.known told)
