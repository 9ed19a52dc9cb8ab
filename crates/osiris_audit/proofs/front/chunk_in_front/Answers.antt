use Rattle.chunk_format.specs.declared.fault.ChunkFault.TheVariants.{Short}
use Rattle.osiris_audit.proofs.Truncated.{whole_chunk, never_stands, same_told}
use Rattle.osiris_audit.proofs.front.chunk_in_front.Goals as goal

pub returns-in-Ok : goal.returns-in-Ok
returns-in-Ok c = whole_chunk c.in-Ok.view c.in-Ok.ensures.found.0 c.args.bytes.now c.in-Ok.ensures.found.1

pub returns-else-is_short : goal.returns-else-is_short
returns-else-is_short c =
    never_stands c.args.bytes.now c.in-Err.fault c.in-Err.ensures.only (λ place wrong. same_told c.in-Err.fault (Short place) (c.in-Err.ensures.told (Short place) wrong)) (c.is_short.ensures c.if-is_short.false)
