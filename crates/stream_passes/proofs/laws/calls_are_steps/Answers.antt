use Rattle.std.proofs.Common.{refl}
use Rattle.std.specs.Prelude.{nat_lt}
use Rattle.chunk_format.specs.Logs.{end_of}
use Rattle.stream_passes.proofs.Steps.{put_view}
use Rattle.stream_passes.proofs.laws.calls_are_steps.Goals as goal

pub returns : goal.returns
returns c = record {
  put = λ chunks queue running w s. put_view (nat_lt (end_of chunks) w.end) chunks queue running w s;
  ready = λ chunks running s. refl;
  waiting = λ chunks running s. refl;
  handed = λ chunks queue running session s. record { out_is = refl; new_is = refl };
}
