-- One line, and the lines that it gives, on their way out.
use Rattle.std.specs.Prelude.{◌≡◌, ℕ, ◌+◌, ◌≤◌, ◌⊎◌, ◌++◌, ◌∷◌, [], List, length, Option}
use Rattle.std.specs.List.{flat_map}
use Rattle.outside_io.specs.Known.{before_known, after_known, IsEmptyKnown}
use Rattle.outside_io.specs.declared.sink.Gave.{Gave}
use Rattle.outside_io.specs.declared.sink.Gave.TheVariants as gave
use Rattle.script_text.specs.declared.script.ScriptLine.{ScriptLine}
use Rattle.replay_node.specs.declared.player.ReplayEnd.{ReplayEnd}
use Rattle.replay_node.specs.declared.player.ReplayEnd.TheVariants.{Done, Bad, ReadFault, WriteFault, Memory, TooLong}
use Rattle.script_text.specs.Words.{line_feed, Lacks}
use Rattle.script_text.specs.Script.{Spells}
use Rattle.script_text.specs.declared.output.OutputLine.{OutputLine}
use Rattle.replay_node.specs.NodeState.{NodeState, new_node, LineGives, IsBad}
use Rattle.replay_node.specs.Replays.{most_bytes, Begins, outputs_bytes, Plays, IsOpen, IsBadNext, IsBadLast, IsNextGiven, IsWithin, end_line, bad_line}

-- pieces, one after the other
abbrev pub joined : List (List ℕ) → List ℕ
joined pieces = flat_map (λ (piece : List ℕ). piece) pieces

-- all was written, or only its first bytes
abbrev pub Cuts : Gave → List ℕ → Option (List ℕ) → Option (List ℕ) → Type 0
Cuts gave.Done whole old new = new ≡ after_known old whole
Cuts gave.Failed whole old new = (front : List ℕ) × Begins front whole × (new ≡ after_known old front)

-- what came of one line
abbrev pub AnswersOne : ReplayEnd → NodeState → List ℕ → NodeState → Option (List ℕ) → Option (List ℕ) → Type 0
AnswersOne Done old bytes new written_old written_new =
    (line : ScriptLine) × Spells bytes line × (outputs : List OutputLine) × LineGives old line outputs new × (written_new ≡ after_known written_old (outputs_bytes outputs))
AnswersOne WriteFault old bytes new written_old written_new =
    (line : ScriptLine) × Spells bytes line × (outputs : List OutputLine) × LineGives old line outputs new
    × (front : List ℕ) × Begins front (outputs_bytes outputs) × (written_new ≡ after_known written_old front)
AnswersOne Bad old bytes new written_old written_new = IsBad old bytes × (new ≡ old) × (written_new ≡ written_old)
AnswersOne Memory old bytes new written_old written_new = (new ≡ old) × (written_new ≡ written_old)
AnswersOne ReadFault old bytes new written_old written_new = ⊥
AnswersOne TooLong old bytes new written_old written_new = ⊥

-- Lines of a stream were answered, and so many in all.
pub record SoFar (old new : NodeState) (stream rest : List ℕ) (old_count new_count : ℕ) (written_old written_new : Option (List ℕ)) : Type 0 where
  pub given : List ℕ
  pub answered : ℕ
  pub plays : Plays old new stream rest given answered
  pub count : new_count ≡ old_count + answered
  pub gave : written_new ≡ after_known written_old given

-- What stopped the answering of the complete lines of a stream, and what of the next line was written.
abbrev pub StopsAt : ReplayEnd → NodeState → List ℕ → List ℕ → List ℕ → Type 0
StopsAt Done node line rest tail = IsOpen rest × (line ≡ rest) × (tail ≡ [])
StopsAt Bad node line rest tail = IsBadNext node rest × (tail ≡ [])
StopsAt WriteFault node line rest tail = (next : List ℕ) × IsNextGiven node rest next × Begins tail next
StopsAt Memory node line rest tail = tail ≡ []
StopsAt ReadFault node line rest tail = ⊥
StopsAt TooLong node line rest tail = ⊥

-- The complete lines of a stream were answered, up to one that stopped it or to a line that is not whole.
pub record PiecePlays (end : ReplayEnd) (old new : NodeState) (stream line : List ℕ) (old_count new_count : ℕ) (written_old written_new : Option (List ℕ)) : Type 0 where
  pub rest : List ℕ
  pub tail : List ℕ
  pub given : List ℕ
  pub answered : ℕ
  pub node : NodeState
  pub plays : Plays old node stream rest given answered
  pub count : new_count ≡ old_count + answered
  pub gave : written_new ≡ after_known written_old (given ++ tail)
  pub ending : StopsAt end node line rest tail
  pub same : end ≡ Done → new ≡ node

-- a line feed, and none before it
abbrev pub IsLineEnd : List ℕ → Type 0
IsLineEnd bytes = (text : List ℕ) × (bytes ≡ text ++ line_feed ∷ []) × Lacks line_feed text

-- A script was answered so far, up to a line that is not whole.
pub record ScriptSoFar (left_old left_new : Option (List ℕ)) (node : NodeState) (line : List ℕ) (count total : ℕ) (written_old written_new : Option (List ℕ)) : Type 0 where
  pub taken : List ℕ
  pub given : List ℕ
  pub took : left_old ≡ before_known taken left_new
  pub plays : Plays new_node node taken line given count
  pub gave : written_new ≡ after_known written_old given
  pub size : length taken ≡ total

-- How the reading of a script ended, before its last line was written.
abbrev pub Stops : ReplayEnd → Option (List ℕ) → List ℕ → NodeState → List ℕ → List ℕ → Type 0
Stops Done left taken node rest tail = (rest ≡ []) × IsEmptyKnown left × (tail ≡ [])
Stops Bad left taken node rest tail = (IsBadNext node rest ⊎ IsBadLast left node rest) × (tail ≡ [])
Stops ReadFault left taken node rest tail = IsOpen rest × (tail ≡ [])
Stops WriteFault left taken node rest tail = (next : List ℕ) × IsNextGiven node rest next × Begins tail next
Stops Memory left taken node rest tail = tail ≡ []
Stops TooLong left taken node rest tail =
    (earlier begun piece : List ℕ) × (taken ≡ earlier ++ piece) × (length earlier ≤ most_bytes) × (rest ≡ begun ++ piece) × IsOpen begun × (tail ≡ [])

pub record ScriptPlays (end : ReplayEnd) (left_old left_new : Option (List ℕ)) (count : ℕ) (written_old written_new : Option (List ℕ)) : Type 0 where
  pub taken : List ℕ
  pub given : List ℕ
  pub rest : List ℕ
  pub tail : List ℕ
  pub node : NodeState
  pub took : left_old ≡ before_known taken left_new
  pub plays : Plays new_node node taken rest given count
  pub gave : written_new ≡ after_known written_old (given ++ tail)
  pub ending : Stops end left_new taken node rest tail
  pub limit : IsWithin end (length taken)

-- The last line was written, where there is one to write.
abbrev pub Closes : ReplayEnd → ℕ → ReplayEnd → Option (List ℕ) → Option (List ℕ) → Type 0
Closes Done count Done old new = new ≡ after_known old end_line
Closes Done count WriteFault old new = Cuts gave.Failed end_line old new
Closes Bad count Bad old new = new ≡ after_known old (bad_line (count + 1))
Closes Bad count WriteFault old new = Cuts gave.Failed (bad_line (count + 1)) old new
Closes Bad count Memory old new = new ≡ old
Closes ReadFault count ReadFault old new = new ≡ old
Closes WriteFault count WriteFault old new = new ≡ old
Closes Memory count Memory old new = new ≡ old
Closes TooLong count TooLong old new = new ≡ old
Closes end count other old new = ⊥
