-- How a stream of the machine and the view of a stream go together: what the view does is commits and confirms.
use Rattle.std.specs.Prelude.{◌≡◌, ℕ, List, [], ◌∷◌, ◌++◌, Option, Some, None}
use Rattle.std.specs.List.{AllByRecursion}
use Rattle.chunk_format.specs.declared.chunk.Chunk.{Chunk}
use Rattle.chunk_format.specs.LogRows.{Rows}
use Rattle.chunk_format.specs.Logs.{IsLog, bare_of, deltas_of}
use Rattle.command_data.specs.declared.item.Tagged.{Tagged}
use Rattle.stream_terms.specs.declared.terms.Waits.{Waits}
use Rattle.stream_terms.specs.Views.{StreamView, StreamHolds, spent_entries}
use Rattle.list_machine.specs.Items.{AtMostAsOften}
use Rattle.list_machine.specs.Streams.{Stream, sent_unnamed, confirmed_unnamed, entries_of}
use Rattle.list_machine.specs.Commits.{AllFollow, WasSent}
use Rattle.list_machine.specs.Sends.{ids_of_items}

-- All that stands in the list was sent to the stream, in order, and nothing was passed over.
pub record AllSent (stream : Stream) (chunks : List Chunk) : Type 0 where
  pub log : IsLog chunks
  pub rows : AllFollow stream.declarations [] (Rows chunks)
  pub bare : AtMostAsOften (bare_of chunks) (sent_unnamed stream.declarations)
  pub stored : AllByRecursion (WasSent stream.stored) (deltas_of chunks)

-- the stream once these chunks are committed, one by one
abbrev pub committed_all : Stream → List Chunk → Stream
committed_all stream [] = stream
committed_all stream (c ∷ cs) = committed_all (record stream { chunks = stream.chunks ++ c ∷ []; seen = stream.chunks ++ c ∷ [] }) cs

-- the name of a pass, which is none where it is empty
abbrev pub pass_name : List ℕ → Option (List ℕ)
pass_name [] = None
pass_name (byte ∷ bytes) = Some (byte ∷ bytes)

-- The view of a stream hands out a confirm of these items, where what it handed out before are the confirms of the stream,
-- and both have one list.
pub record HandsOut (stream : Stream) (view : StreamView) (spent : List Waits) (w : Waits) (items : List Tagged) : Type 0 where
  pub holds : StreamHolds view (spent ++ w ∷ [])
  pub chunks : stream.chunks ≡ view.chunks
  pub seen : stream.seen ≡ view.chunks
  pub ids : w.ids ≡ ids_of_items items
  pub entries : w.entries ≡ entries_of items
  pub before : confirmed_unnamed stream.confirmed ≡ spent_entries spent
