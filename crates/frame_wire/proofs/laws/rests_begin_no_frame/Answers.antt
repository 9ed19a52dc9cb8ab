use Rattle.frame_wire.proofs.Streams.{no_frame_behind, no_frame_at_large}
use Rattle.frame_wire.proofs.laws.rests_begin_no_frame.Goals as goal

pub returns : goal.returns
returns c = record { behind_frames = no_frame_behind; at_a_large_size = no_frame_at_large }
