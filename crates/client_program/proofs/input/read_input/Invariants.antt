use Rattle.std.proofs.Common.{◌≡◌, ◌≤◌, ◌-◌, length}
use Rattle.outside_io.specs.Known.{before_known}
use Rattle.client_program.specs.Inputs.{most_input}
use Rattle.client_program.proofs.input.read_input.Given as goal

-- what was read so far
abbrev pub invariant-pieces : goal.invariant-pieces
invariant-pieces g l = record {
  took : g.S.Source.left l.fn.input ≡ before_known l.text (g.S.Source.left l.input);
  within : length l.text ≤ most_input;
  later : g.S.Source.faults l.fn.input ≤ g.S.Source.faults l.input;
}

abbrev pub decreases-pieces : goal.decreases-pieces
decreases-pieces g l = most_input - length l.text
