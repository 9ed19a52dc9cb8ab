use Rattle.std.specs.Prelude.{codes}
use Rattle.std.specs.String.{string_bytes}
use Rattle.std.specs.Fmt.{padded_integral}
use Rattle.disk_calls.proofs.Digits.{ok_as, shown_twenty}
use Rattle.disk_calls.proofs.file_text.name_of.Goals as goal

pub returns-in-Segment : goal.returns-in-Segment
unfolding padded_integral
returns-in-Segment c = rw c.in-Segment.is (ok_as c.format.result string_bytes _ _ (shown_twenty c.in-Segment.first (codes ".segment")) (rw c.laid_out.ensures at c.format.ensures.ok))

pub returns-in-Index : goal.returns-in-Index
unfolding padded_integral
returns-in-Index c = rw c.in-Index.is (ok_as c.format-in-Index.result string_bytes _ _ (shown_twenty c.in-Index.first (codes ".index")) (rw c.laid_out-in-Index.ensures at c.format-in-Index.ensures.ok))
