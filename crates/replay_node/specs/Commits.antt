-- How chunks are laid one behind the other.
use Rattle.std.specs.Prelude.{◌≡◌, ℕ, ◌+◌, ◌≤◌, List, [], ◌∷◌, ◌++◌, length}
use Rattle.std.specs.List.{AllByRecursion}
use Rattle.chunk_format.specs.declared.entry.Entry.{Entry}
use Rattle.chunk_format.specs.Chunks.{IsEntry, IsChunk, entries_bytes}
use Rattle.command_data.specs.declared.item.Tagged.{Tagged}
use Rattle.replay_node.specs.declared.output.Commits.{Commits}
use Rattle.replay_node.specs.Commands.{frame_max, IsSimple}
use Rattle.replay_node.specs.NodeState.{chunk_max, entries, chunks_from}

-- a simple entry that has a spelling
abbrev pub IsMessage : Entry → Type 0
IsMessage entry = IsEntry entry × IsSimple entry

-- simple entries that stand in one frame
pub record IsLaid (items : List Tagged) : Type 0 where
  pub each : AllByRecursion IsMessage (entries items)
  pub short : length (entries_bytes (entries items)) ≤ frame_max

-- such entries, as many as a chunk may have
pub record IsPiece (items : List Tagged) : Type 0 where
  pub laid : IsLaid items
  pub some : 1 ≤ length items
  pub few : length items ≤ chunk_max

-- where the chunks of pieces end
abbrev pub end_behind : ℕ → List (List Entry) → ℕ
end_behind first [] = first
end_behind first (piece ∷ more) = end_behind (first + length piece) more

-- chunks of these pieces were laid behind the others, and have a spelling
pub record LaysOut (old new : Commits) (pieces : List (List Entry)) : Type 0 where
  pub chunks : new.chunks.items ≡ old.chunks.items ++ chunks_from old.end pieces
  pub end : new.end ≡ end_behind old.end pieces
  pub spelled : AllByRecursion IsChunk (chunks_from old.end pieces)
