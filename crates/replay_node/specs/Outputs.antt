-- The lines that a node gives, as bytes.
use Rattle.std.specs.Prelude.{ℕ, List, map}
use Rattle.script_text.specs.declared.output.OutputLine.{OutputLine}
use Rattle.script_text.specs.Outputs.{output_bytes}

-- the bytes of several lines, one list a line
abbrev pub output_lines : List OutputLine → List (List ℕ)
output_lines outputs = map output_bytes outputs
