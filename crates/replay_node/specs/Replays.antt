-- A whole script, answered line by line: what was read, what was written, and how it ended.
use Rattle.std.specs.Prelude.{◌≡◌, ℕ, ◌+◌, ◌≤◌, ◌<◌, ◌⊎◌, List, [], ◌∷◌, ◌++◌, length, All, Option}
use Rattle.std.specs.List.{flat_map}
use Rattle.outside_io.specs.Known.{before_known, after_known, IsEmptyKnown}
use Rattle.script_text.specs.declared.script.ScriptLine.{ScriptLine}
use Rattle.replay_node.specs.declared.player.ReplayEnd.{ReplayEnd}
use Rattle.replay_node.specs.declared.player.ReplayEnd.TheVariants.{Done, Bad, ReadFault, WriteFault, Memory, TooLong}
use Rattle.script_text.specs.Words.{line_feed, Lacks}
use Rattle.script_text.specs.Script.{line_bytes, longest_line, IsScriptLine}
use Rattle.script_text.specs.declared.output.OutputLine.{OutputLine}
use Rattle.script_text.specs.declared.output.OutputLine.TheVariants as lines
use Rattle.script_text.specs.Outputs.{output_bytes}
use Rattle.replay_node.specs.NodeState.{NodeState, new_node, LineGives, IsBad}

-- the status of each end
abbrev pub status_of : ReplayEnd → ℕ
status_of Done = 0
status_of Bad = 3
status_of ReadFault = 4
status_of WriteFault = 5
status_of Memory = 6
status_of TooLong = 9

-- the most bytes of a script
abbrev pub most_bytes : ℕ
most_bytes = 1073741824

-- lines answered one after the other, each with its outputs
abbrev pub Answers : NodeState → List ScriptLine → List (List OutputLine) → NodeState → Type 0
Answers old [] [] new = new ≡ old
Answers old (line ∷ lines) (outputs ∷ more) new = (mid : NodeState) × LineGives old line outputs mid × Answers mid lines more new
Answers old [] (outputs ∷ more) new = ⊥
Answers old (line ∷ lines) [] new = ⊥

-- the bytes of lines, and of all that they gave
abbrev pub lines_bytes : List ScriptLine → List ℕ
lines_bytes lines = flat_map line_bytes lines

abbrev pub outputs_bytes : List OutputLine → List ℕ
outputs_bytes outputs = flat_map output_bytes outputs

abbrev pub all_bytes : List (List OutputLine) → List ℕ
all_bytes outputs = flat_map outputs_bytes outputs

-- the first bytes of these are those
abbrev pub Begins : List ℕ → List ℕ → Type 0
Begins front whole = (more : List ℕ) × (whole ≡ front ++ more)

-- a line that is not whole yet: no line feed, and no more bytes than a line may have
pub record IsOpen (bytes : List ℕ) : Type 0 where
  pub lacks : Lacks line_feed bytes
  pub short : length bytes ≤ longest_line

-- a line that is whole, or that has too many bytes already
abbrev pub IsComplete : List ℕ → Type 0
IsComplete line = ((text : List ℕ) × (line ≡ text ++ line_feed ∷ []) × Lacks line_feed text) ⊎ (Lacks line_feed line × (longest_line < length line))

-- the next line is complete, and Bad
pub record IsBadNext (node : NodeState) (rest : List ℕ) : Type 0 where
  pub line : List ℕ
  pub more : List ℕ
  pub parts : rest ≡ line ++ more
  pub complete : IsComplete line
  pub bad : IsBad node line

-- the script ended within a line, which is Bad
pub record IsBadLast (left : Option (List ℕ)) (node : NodeState) (rest : List ℕ) : Type 0 where
  pub some : 1 ≤ length rest
  pub lacks : Lacks line_feed rest
  pub ended : IsEmptyKnown left
  pub bad : IsBad node rest

-- the last line that is written: `end`, or `bad` and the number of the Bad line
abbrev pub end_line : List ℕ
end_line = output_bytes lines.End

abbrev pub bad_line : ℕ → List ℕ
bad_line number = output_bytes (lines.Bad number)

-- the next line of the rest is a line, and these bytes are what it gives
pub record IsNextGiven (node : NodeState) (rest given : List ℕ) : Type 0 where
  pub line : ScriptLine
  pub more : List ℕ
  pub parts : rest ≡ line_bytes line ++ more
  pub valid : IsScriptLine line
  pub outputs : List OutputLine
  pub after : NodeState
  pub gives : LineGives node line outputs after
  pub is : given ≡ outputs_bytes outputs

-- what is to be written next: what the next line gives, or `bad n`, or `end`
abbrev pub IsNext : Option (List ℕ) → NodeState → ℕ → List ℕ → List ℕ → Type 0
IsNext left node answered rest next =
    IsNextGiven node rest next
    ⊎ (((IsBadNext node rest ⊎ IsBadLast left node rest) × (next ≡ bad_line (answered + 1)))
    ⊎ ((rest ≡ []) × IsEmptyKnown left × (next ≡ end_line)))

-- How a script ended, after so many answered lines: what of the bytes taken was not answered, and what was written after the outputs.
abbrev pub Ends : ReplayEnd → Option (List ℕ) → List ℕ → NodeState → ℕ → List ℕ → List ℕ → Type 0
-- the script was read to its end, no line was Bad, and `end` was written
Ends Done left taken node answered rest tail = (rest ≡ []) × IsEmptyKnown left × (tail ≡ end_line)
-- the next line is Bad, and `bad n` was written
Ends Bad left taken node answered rest tail = (IsBadNext node rest ⊎ IsBadLast left node rest) × (tail ≡ bad_line (answered + 1))
-- a read failed, and each complete line was answered
Ends ReadFault left taken node answered rest tail = IsOpen rest × (tail ≡ [])
-- a write failed within what was to be written next
Ends WriteFault left taken node answered rest tail = (next : List ℕ) × IsNext left node answered rest next × Begins tail next
Ends Memory left taken node answered rest tail = tail ≡ []
-- the last read took too much; each line that was complete before it was answered
Ends TooLong left taken node answered rest tail =
    (earlier begun piece : List ℕ) × (taken ≡ earlier ++ piece) × (length earlier ≤ most_bytes) × (rest ≡ begun ++ piece) × IsOpen begun × (tail ≡ [])

-- more than so many bytes were taken exactly where the script was too long
abbrev pub IsWithin : ReplayEnd → ℕ → Type 0
IsWithin TooLong size = most_bytes < size
IsWithin Done size = size ≤ most_bytes
IsWithin Bad size = size ≤ most_bytes
IsWithin ReadFault size = size ≤ most_bytes
IsWithin WriteFault size = size ≤ most_bytes
IsWithin Memory size = size ≤ most_bytes

-- From one node to another, the stream is whole lines that were answered and a rest, and what was written is what they gave.
pub record Plays (old new : NodeState) (stream rest given : List ℕ) (answered : ℕ) : Type 0 where
  pub lines : List ScriptLine
  pub outputs : List (List OutputLine)
  pub run : Answers old lines outputs new
  pub valid : All IsScriptLine lines
  pub read : stream ≡ lines_bytes lines ++ rest
  pub written : given ≡ all_bytes outputs
  pub count : length lines ≡ answered

-- A script that was replayed from a new node, where what is left and what is written are told.
pub record Replays (end : ReplayEnd) (left_old left_new written_old written_new : Option (List ℕ)) : Type 0 where
  pub taken : List ℕ
  pub given : List ℕ
  pub rest : List ℕ
  pub tail : List ℕ
  pub node : NodeState
  pub answered : ℕ
  pub took : left_old ≡ before_known taken left_new
  pub plays : Plays new_node node taken rest given answered
  pub gave : written_new ≡ after_known written_old (given ++ tail)
  pub ending : Ends end left_new taken node answered rest tail
  pub limit : IsWithin end (length taken)
