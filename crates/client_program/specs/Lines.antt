-- The lines of an input, which are the messages of a publisher.
use Rattle.std.specs.Prelude.{◌≡◌, ℕ, ◌<◌, ◌≤◌, nat_lt, if◌then◌else◌, List, [], ◌∷◌, ◌++◌, length, drop, flat_map, Result, Ok, Err}
use Rattle.std.specs.List.{All, Contains}
use Rattle.script_text.specs.Words.{line_feed, Lacks}
use Rattle.client_terms.specs.States.{ClientState}
use Rattle.client_program.specs.declared.lines.LinesFault.{LinesFault}
use Rattle.client_program.specs.declared.lines.LinesFault.TheVariants.{TooLong, Memory}

-- the most bytes of a line
abbrev pub longest_line : ℕ
longest_line = 1000000

abbrev pub with_feed : List ℕ → List ℕ
with_feed line = line ++ line_feed ∷ []

-- bytes behind the last line feed are a line where there are any
abbrev pub last_line : List ℕ → List (List ℕ)
last_line [] = []
last_line (x ∷ xs) = (x ∷ xs) ∷ []

-- these are the lines of the text
pub record AreLines (text : List ℕ) (lines : List (List ℕ)) : Type 0 where
  pub whole : List (List ℕ)
  pub rest : List ℕ
  pub parts : text ≡ flat_map with_feed whole ++ rest
  pub whole_lack : All (Lacks line_feed) whole
  pub rest_lacks : Lacks line_feed rest
  pub is : lines ≡ whole ++ last_line rest

abbrev pub IsShortLine : List ℕ → Type 0
IsShortLine line = length line ≤ longest_line

-- the client with more messages behind its own
abbrev pub filled : ClientState → List (List ℕ) → ClientState
filled s messages = record s { queue = s.queue ++ messages }

-- No line is too long, and those behind the first so many are queued; or there is a line that is too long.
abbrev pub Queues : Result (Unit {0}) LinesFault → List (List ℕ) → ℕ → ClientState → ClientState → Type 0
Queues (Ok u) lines passed old new = All IsShortLine lines × (new ≡ filled old (drop passed lines))
Queues (Err TooLong) lines passed old new = (line : List ℕ) × Contains lines line × (longest_line < length line)
Queues (Err Memory) lines passed old new = Unit {0}

pub record QueuesLines (result : Result (Unit {0}) LinesFault) (text : List ℕ) (passed : ℕ) (old new : ClientState) : Type 0 where
  pub lines : List (List ℕ)
  pub are : AreLines text lines
  pub by : Queues result lines passed old new

-- A line that is too long is told. Another is queued, where its number, counted from 1, is not one of the first so many.
abbrev pub TakesLine : Result (Unit {0}) LinesFault → List ℕ → ℕ → ℕ → ClientState → ClientState → Type 0
TakesLine (Ok u) line number passed old new = IsShortLine line × (new ≡ filled old (if nat_lt passed number then line ∷ [] else []))
TakesLine (Err TooLong) line number passed old new = longest_line < length line
TakesLine (Err Memory) line number passed old new = Unit {0}
