-- What a replay owes: an end without an excuse, and a confirm for each message.
use Rattle.std.specs.Prelude.{◌≡◌, ℕ, ◌≤◌, ◌⊎◌, List, [], ◌∷◌, ◌++◌, length, Option}
use Rattle.std.specs.List.{flat_map}
use Rattle.script_text.specs.declared.script.ScriptLine.{ScriptLine}
use Rattle.script_text.specs.declared.script.ScriptLine.TheVariants.{Give, Poll, Settle}
use Rattle.script_text.specs.Words.{line_feed, Lacks}
use Rattle.command_data.specs.declared.item.Tagged.{Tagged}
use Rattle.command_data.specs.declared.command.DataCommand.TheVariants.{Publish, PublishError}
use Rattle.replay_node.specs.Sessions.{refusals}
use Rattle.script_text.specs.declared.output.OutputLine.{OutputLine}
use Rattle.replay_node.specs.NodeState.{NodeState, new_node, GivesBytes, confirm_of, send}
use Rattle.replay_node.specs.Replays.{Answers, lines_bytes, IsBadNext, status_of, Replays}
use Rattle.replay_node.specs.declared.player.ReplayEnd.{ReplayEnd}

-- No line of the script is Bad: whatever lines of it a new node answers, the next is not, and it ends with a line feed.
abbrev pub IsGoodScript : List ℕ → Type 0
IsGoodScript script =
    (lines : List ScriptLine) (outputs : List (List OutputLine)) (node : NodeState) (rest : List ℕ) → Answers new_node lines outputs node → script ≡ lines_bytes lines ++ rest
    → (IsBadNext node rest → ⊥) × (1 ≤ length rest → Lacks line_feed rest → ⊥)

-- it is one of the list
abbrev pub IsIn : {X : Type 0} → X → List X → Type 0
IsIn x [] = ⊥
IsIn x (y ∷ ys) = (x ≡ y) ⊎ IsIn x ys

-- all outputs of some lines
abbrev pub all_outputs : List (List OutputLine) → List OutputLine
all_outputs outputs = flat_map (λ (o : List OutputLine). o) outputs

-- lines in which bytes are given, then a stream is settled, then the connection is polled
abbrev pub given_settled_polled : List ScriptLine → ℕ → List ℕ → List ScriptLine → ℕ → List ScriptLine → List ScriptLine
given_settled_polled before connection bytes between stream later = before ++ Give connection bytes ∷ (between ++ Settle stream ∷ (later ++ Poll connection ∷ []))

-- what lines before gave, and what a piece of bytes gave behind them
pub record GivenBehind (before : List ScriptLine) (connection : ℕ) (bytes : List ℕ) (outputs : List (List OutputLine)) : Type 0 where
  pub first : List (List OutputLine)
  pub node : NodeState
  pub run : Answers new_node before first node
  pub answers : List OutputLine
  pub after : NodeState
  pub gives : GivesBytes node connection bytes answers after
  pub more : List (List OutputLine)
  pub parts : outputs ≡ first ++ answers ∷ more

-- Each Publish frame with messages that a line c completed, and that came before a line s, has its confirm by the next
-- line p of its connection, or its messages were refused at once.
abbrev pub EachConfirmed : List ScriptLine → List (List OutputLine) → Type 0
EachConfirmed lines outputs =
    (before between later after : List ScriptLine) (connection stream : ℕ) (bytes : List ℕ)
    → lines ≡ given_settled_polled before connection bytes between stream later ++ after
    → (written more : List (List OutputLine)) × (outputs ≡ written ++ more)
    × (length written ≡ length (given_settled_polled before connection bytes between stream later))
    × (given : GivenBehind before connection bytes outputs)
    × ((publisher : ℕ) (items : List Tagged) → IsIn (Publish publisher items) given.gives.commands → 1 ≤ length items
    → IsIn (confirm_of (record { connection = connection; publisher = publisher; items = items })) (all_outputs written)
    ⊎ IsIn (send connection (PublishError publisher (refusals items))) given.answers)

-- What a replay answers: a status, by an end that holds of what was read and written, with each message confirmed.
abbrev pub ReplaysAs : ℕ → Option (List ℕ) → Option (List ℕ) → Option (List ℕ) → Option (List ℕ) → Type 0
ReplaysAs status left_old left_new written_old written_new =
    (end : ReplayEnd) × (status ≡ status_of end) × (replayed : Replays end left_old left_new written_old written_new) × EachConfirmed replayed.plays.lines replayed.plays.outputs
