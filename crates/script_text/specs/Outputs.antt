-- The lines that a node gives.
use Rattle.std.specs.Prelude.{◌≡◌, ℕ, ◌≤◌, ◌<◌, ◌^◌, List, [], ◌∷◌, ◌++◌, codes}
use Rattle.std.specs.Fmt.{decimal}
use Rattle.hex.specs.Hex.{encode_lower}
use Rattle.script_text.specs.Words.{space, line_feed, IsGiven, IsNumber, code_word}
use Rattle.script_text.specs.Script.{numbers}
use Rattle.script_text.specs.declared.output.Ending.{Ending}
use Rattle.script_text.specs.declared.output.Ending.TheVariants.{PeerEnded, ClosedByPeer, ClosedByUs, Silent}
use Rattle.script_text.specs.declared.output.MessageKind.{MessageKind}
use Rattle.script_text.specs.declared.output.MessageKind.TheVariants as kinds
use Rattle.script_text.specs.declared.output.OutputLine.{OutputLine}
use Rattle.script_text.specs.declared.output.OutputLine.TheVariants.{Sent, Bye, Committed, Message, Later, Down, Up, CoordinatorUp, Log, LogDown, Refused, End, Bad}

abbrev pub kind_word : MessageKind → List ℕ
kind_word kinds.Stop = codes "stop"
kind_word kinds.Stopped = codes "stopped"
kind_word kinds.Open = codes "open"
kind_word kinds.Follow = codes "follow"
kind_word kinds.Shape = codes "shape"
kind_word kinds.Ask = codes "ask"
kind_word kinds.Append = codes "append"

abbrev pub ending_words : Ending → List ℕ
ending_words PeerEnded = codes "ended"
ending_words ClosedByPeer = codes "closed"
ending_words (ClosedByUs code) = codes "us " ++ code_word code
ending_words Silent = codes "silent"

-- the words of a line, without its line feed
abbrev pub output_words : OutputLine → List ℕ
output_words (Sent connection frame) = codes "> " ++ (decimal connection ++ space ∷ encode_lower frame)
output_words (Bye connection how) = codes "bye " ++ (decimal connection ++ space ∷ ending_words how)
output_words (Committed stream chunk) = codes "k " ++ (decimal stream ++ space ∷ encode_lower chunk)
output_words (Message stream number receiver kind epoch) = codes "m " ++ (decimal stream ++ space ∷ (decimal number ++ space ∷ (decimal receiver ++ space ∷ (kind_word kind ++ space ∷ decimal epoch))))
output_words (Later stream member) = codes "later " ++ numbers stream (member ∷ [])
output_words (Down stream member) = codes "down " ++ numbers stream (member ∷ [])
output_words (Up stream member count end) = codes "up " ++ numbers stream (member ∷ count ∷ end ∷ [])
output_words (CoordinatorUp stream epoch) = codes "up " ++ numbers stream (0 ∷ epoch ∷ [])
output_words (Log stream member count end) = codes "l " ++ numbers stream (member ∷ count ∷ end ∷ [])
output_words (LogDown stream member) = codes "l " ++ (decimal stream ++ space ∷ (decimal member ++ codes " -"))
output_words (Refused code) = codes "no " ++ code_word code
output_words End = codes "end"
output_words (Bad number) = codes "bad " ++ decimal number

abbrev pub output_bytes : OutputLine → List ℕ
output_bytes line = output_words line ++ line_feed ∷ []

-- the number of a member, and not the coordinator's
abbrev pub IsMember : ℕ → Type 0
IsMember member = IsNumber member × (1 ≤ member)

abbrev pub IsEnding : Ending → Type 0
IsEnding PeerEnded = Unit {0}
IsEnding ClosedByPeer = Unit {0}
IsEnding (ClosedByUs code) = code < 2 ^ 16
IsEnding Silent = Unit {0}

-- what the words of a line may be
abbrev pub IsOutput : OutputLine → Type 0
IsOutput (Sent connection frame) = IsNumber connection × IsGiven frame
IsOutput (Bye connection how) = IsNumber connection × IsEnding how
IsOutput (Committed stream chunk) = IsNumber stream × IsGiven chunk
IsOutput (Message stream number receiver kind epoch) = IsNumber stream × IsNumber number × IsNumber receiver × IsNumber epoch
IsOutput (Later stream member) = IsNumber stream × IsNumber member
IsOutput (Down stream member) = IsNumber stream × IsNumber member
IsOutput (Up stream member count end) = IsNumber stream × IsMember member × IsNumber count × IsNumber end
IsOutput (CoordinatorUp stream epoch) = IsNumber stream × IsNumber epoch
IsOutput (Log stream member count end) = IsNumber stream × IsMember member × IsNumber count × IsNumber end
IsOutput (LogDown stream member) = IsNumber stream × IsMember member
IsOutput (Refused code) = code < 2 ^ 16
IsOutput End = Unit {0}
IsOutput (Bad number) = IsNumber number

-- these bytes are this line
pub record Writes (bytes : List ℕ) (line : OutputLine) : Type 0 where
  pub spelled : bytes ≡ output_bytes line
  pub valid : IsOutput line
