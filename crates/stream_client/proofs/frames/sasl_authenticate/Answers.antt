use Rattle.std.proofs.Common.{arith}
use Rattle.stream_client.proofs.Fits.{authentication_fits}
use Rattle.stream_client.proofs.frames.sasl_authenticate.Goals as goal

pub frame-requires : goal.frame-requires
frame-requires c = authentication_fits c.args.corr c.args.login.now _ _ (omega arith) c.user.ensures.short c.in_ok-mechanism.ensures c.in_ok-opaque.ensures
