use Rattle.std.proofs.Common.{sym, ◌∙◌}
use Rattle.chunk_apart.proofs.TakeLaws.{user_right}
use Rattle.chunk_apart.proofs.take.take_checked.Goals as goal

pub returns : goal.returns
returns c = user_right c.args.header.now c.args.payload.now c.in_ok-entries.entries c.requires.kind c.in_ok-entries.ensures (sym c.crc32-computed.ensures ∙ c.if-computed-header.false)
