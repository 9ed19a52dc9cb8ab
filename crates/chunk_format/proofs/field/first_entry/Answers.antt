use Rattle.std.proofs.Common.{arith}
use Rattle.chunk_format.specs.Parts.{entry_of}
use Rattle.chunk_format.proofs.FieldLaws.{entry_there, no_entry}
use Rattle.chunk_format.proofs.field.first_entry.Goals as goal

pub returns-in-Some : goal.returns-in-Some
returns-in-Some c = entry_there c.args.place c.args.bytes.now (entry_of c.in-Some.parts) c.in-Some.len c.in-Some.ensures

pub returns-in-None : goal.returns-in-None
returns-in-None c = no_entry c.args.place c.args.bytes.now (λ i. omega (arith, c.type_inv.bytes i)) c.in-None.ensures
