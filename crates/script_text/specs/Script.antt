-- The lines of a script.
use Rattle.std.specs.Prelude.{◌≡◌, ℕ, ◌≤◌, ◌<◌, List, [], ◌∷◌, ◌++◌, length, codes, Option, Some, None}
use Rattle.std.specs.Fmt.{decimal}
use Rattle.hex.specs.Hex.{encode_lower}
use Rattle.script_text.specs.Words.{space, line_feed, IsName, IsGiven, IsNumber}
use Rattle.script_text.specs.declared.script.ScriptLine.{ScriptLine}
use Rattle.script_text.specs.declared.script.ScriptLine.TheVariants.{Create, Connect, Prepare, Give, Poll, Leave, Tick, Elect, Deliver, Lose, Perform, Stop, Restart, Fail, Settle, Inspect, StopAll}

-- numbers, a space between two
abbrev pub numbers : ℕ → List ℕ → List ℕ
numbers n [] = decimal n
numbers n (m ∷ more) = decimal n ++ space ∷ numbers m more

-- the words of a line, a letter first
abbrev pub words_of : ScriptLine → List ℕ
words_of (Create name) = codes "n " ++ name
words_of (Connect connection) = codes "a " ++ numbers connection []
words_of (Prepare connection name) = codes "b " ++ (decimal connection ++ space ∷ name)
words_of (Give connection bytes) = codes "c " ++ (decimal connection ++ space ∷ encode_lower bytes)
words_of (Poll connection) = codes "p " ++ numbers connection []
words_of (Leave connection) = codes "q " ++ numbers connection []
words_of (Tick moment) = codes "t " ++ numbers moment []
words_of (Elect stream) = codes "e " ++ numbers stream []
words_of (Deliver stream message) = codes "d " ++ numbers stream (message ∷ [])
words_of (Lose stream message) = codes "u " ++ numbers stream (message ∷ [])
words_of (Perform stream member) = codes "w " ++ numbers stream (member ∷ [])
words_of (Stop stream member calls image) = codes "x " ++ numbers stream (member ∷ calls ∷ image ∷ [])
words_of (Restart stream member) = codes "r " ++ numbers stream (member ∷ [])
words_of (Fail stream member call) = codes "f " ++ numbers stream (member ∷ call ∷ [])
words_of (Settle stream) = codes "s " ++ numbers stream []
words_of (Inspect stream) = codes "i " ++ numbers stream []
words_of (StopAll calls image) = codes "z " ++ numbers calls (image ∷ [])

abbrev pub line_bytes : ScriptLine → List ℕ
line_bytes line = words_of line ++ line_feed ∷ []

-- an image is one of four
abbrev pub IsImage : ℕ → Type 0
IsImage image = image < 4

-- what the words of a line may be
abbrev pub HasGoodWords : ScriptLine → Type 0
HasGoodWords (Create name) = IsName name
HasGoodWords (Connect connection) = IsNumber connection
HasGoodWords (Prepare connection name) = IsNumber connection × IsName name
HasGoodWords (Give connection bytes) = IsNumber connection × IsGiven bytes
HasGoodWords (Poll connection) = IsNumber connection
HasGoodWords (Leave connection) = IsNumber connection
HasGoodWords (Tick moment) = IsNumber moment
HasGoodWords (Elect stream) = IsNumber stream
HasGoodWords (Deliver stream message) = IsNumber stream × IsNumber message
HasGoodWords (Lose stream message) = IsNumber stream × IsNumber message
HasGoodWords (Perform stream member) = IsNumber stream × IsNumber member
HasGoodWords (Stop stream member calls image) = IsNumber stream × IsNumber member × IsNumber calls × IsImage image
HasGoodWords (Restart stream member) = IsNumber stream × IsNumber member
HasGoodWords (Fail stream member call) = IsNumber stream × IsNumber member × IsNumber call × (1 ≤ call)
HasGoodWords (Settle stream) = IsNumber stream
HasGoodWords (Inspect stream) = IsNumber stream
HasGoodWords (StopAll calls image) = IsNumber calls × IsImage image

-- the most bytes of a line before its line feed
abbrev pub longest_line : ℕ
longest_line = 4194304

-- a line of the script language
pub record IsScriptLine (line : ScriptLine) : Type 0 where
  pub words : HasGoodWords line
  pub short : length (words_of line) ≤ longest_line

-- these bytes are this line
pub record Spells (bytes : List ℕ) (line : ScriptLine) : Type 0 where
  pub spelled : bytes ≡ line_bytes line
  pub valid : IsScriptLine line

-- which line these words are, if they are any
abbrev pub ReadsWords : List ℕ → Option ScriptLine → Type 0
ReadsWords words None = (line : ScriptLine) → HasGoodWords line → words ≡ words_of line → ⊥
ReadsWords words (Some line) = HasGoodWords line × (words ≡ words_of line)
