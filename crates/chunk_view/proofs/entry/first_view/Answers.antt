use Rattle.std.proofs.Common.{◌∙◌}
use Rattle.chunk_format.specs.Parts.{entry_of}
use Rattle.chunk_view.proofs.LeftLaws.{shown_split}
use Rattle.chunk_view.proofs.entry.first_view.Goals as goal

pub returns : goal.returns
returns c =
    let split = c.in-Some.ensures in
    shown_split c.args.bytes.now c.body_of.result.now c.args.first c.from.result c.in-Some.len (entry_of c.in-Some.parts) c.requires split.0 split.1 split.2 (c.from.ensures ∙ c.records.ensures) c.body_of.ensures
