use Rattle.std.proofs.Common.{refl, arith}
use Rattle.segment_pairs.proofs.Reading.{no_match_short}
use Rattle.segment_pairs.proofs.Walking.{matched_parts}
use Rattle.segment_pairs.proofs.look.match_here.Goals as goal

pub returns-then-idx-lt29 : goal.returns-then-idx-lt29
returns-then-idx-lt29 c = no_match_short _ _ _ _ (omega arith)

pub returns-then-is_recorded : goal.returns-then-is_recorded
returns-then-is_recorded c = matched_parts _ _ _ _ _ _ _ c.in-Ok-read.ensures.read (omega arith) (omega arith) (c.if-is_recorded.ensures.0 refl)
