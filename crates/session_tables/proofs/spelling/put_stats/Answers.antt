use Rattle.std.proofs.Common.{arith}
use Rattle.session_tables.proofs.Fits.{stats_fit}
use Rattle.session_tables.proofs.spelling.put_stats.Goals as goal

pub put_frame-requires : goal.put_frame-requires
put_frame-requires c = stats_fit c.args.corr c.args.last c.in_ok-numbers.field-0 (omega arith) c.in_ok-numbers.ensures
