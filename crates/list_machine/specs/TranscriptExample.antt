-- A worked transcript: a script, line by line, and what is written.
use Rattle.std.specs.Prelude.{List, [], ◌∷◌}
use Rattle.script_text.specs.declared.script.ScriptLine.{ScriptLine}
use Rattle.script_text.specs.declared.script.ScriptLine.TheVariants as script
use Rattle.script_text.specs.declared.output.OutputLine.{OutputLine}
use Rattle.script_text.specs.declared.output.OutputLine.TheVariants as output
use Rattle.script_text.specs.declared.output.Ending.TheVariants.{PeerEnded}
use Rattle.list_machine.specs.Examples.{s_name}

-- stream "s" is made, a connection comes, a member is stopped, and the connection goes
abbrev pub a_script : List ScriptLine
a_script = script.Create s_name ∷ script.Connect 1 ∷ script.Stop 1 2 0 0 ∷ script.Leave 1 ∷ []

-- the member is down, and the connection has ended
abbrev pub its_output : List OutputLine
its_output = output.Down 1 2 ∷ output.Bye 1 PeerEnded ∷ []
