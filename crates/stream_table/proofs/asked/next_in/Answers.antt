use Rattle.std.proofs.Common.{sym}
use Rattle.stream_table.proofs.Places.{holds_view}
use Rattle.stream_table.proofs.asked.next_in.Goals as goal

pub next_chunk-requires : goal.next_chunk-requires
next_chunk-requires c = holds_view c.args.streams.now c.args.stream c.in-Some.one.now c.requires (sym c.in-Some.ensures)
