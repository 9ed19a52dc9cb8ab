use Rattle.std.proofs.Common.{arith}
use Rattle.session_tables.proofs.Fits.{versions_fit}
use Rattle.session_tables.proofs.spelling.put_versions.Goals as goal

pub put_frame-requires : goal.put_frame-requires
put_frame-requires c = versions_fit c.args.corr c.in_ok-versions.field-0 (omega arith) c.in_ok-versions.ensures
