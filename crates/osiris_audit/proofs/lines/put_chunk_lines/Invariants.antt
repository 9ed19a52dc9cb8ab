use Rattle.std.proofs.Common.{◌≡◌, ◌++◌}
use Rattle.std.specs.List.{flat_map}
use Rattle.osiris_audit.specs.Lines.{entry_line, chunk_lines}
use Rattle.osiris_audit.proofs.lines.put_chunk_lines.Given as goal

abbrev pub invariant-entries : goal.invariant-entries
invariant-entries l = l.text ++ flat_map entry_line l.views ≡ l.fn.text ++ chunk_lines l.view
