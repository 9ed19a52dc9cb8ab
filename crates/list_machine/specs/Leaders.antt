-- A server of one stream, as leaders of epochs: to see that the steps of the machine take what it commits and confirms.
use Rattle.std.specs.Prelude.{◌≡◌, ℕ, ◌≤◌, ◌⊎◌, true, List, [], ◌∷◌, ◌++◌, map, Some, None}
use Rattle.std.specs.List.{AllByRecursion}
use Rattle.chunk_format.specs.declared.chunk.Chunk.{Chunk}
use Rattle.chunk_format.specs.Chunks.{IsChunk}
use Rattle.chunk_format.specs.LogRows.{LogRow, Rows, chunk_rows}
use Rattle.chunk_format.specs.Logs.{end_of, last_epoch, chunk_deltas}
use Rattle.command_data.specs.declared.item.Tagged.{Tagged}
use Rattle.list_machine.specs.Items.{items_by, AnyByRecursion, IsReached, IsAbove}
use Rattle.list_machine.specs.Streams.{Declaration, live, Stream, items_of}
use Rattle.list_machine.specs.Commits.{WasSent}
use Rattle.list_machine.specs.Publishing.{is_unnamed, closed}

-- an item as a row, with the name of its publisher or without
abbrev pub row_of : ℕ → List ℕ → Tagged → LogRow
row_of offset name x = record { offset = offset; entry = x.entry; tag = Some (record { name = name; id = x.id }) }

abbrev pub bare_row : ℕ → Tagged → LogRow
bare_row offset x = record { offset = offset; entry = x.entry; tag = None }

-- What is appended for a frame of a publisher with a name: an item whose id is at most the greatest of the name is left
-- out, and each other one is a row.
abbrev pub Appends : List ℕ → List LogRow → List Tagged → List LogRow → Type 0
Appends name before [] rows = rows ≡ []
Appends name before (x ∷ items) rows =
    (IsReached (items_by name before) x.id × Appends name before items rows)
    ⊎ (IsAbove (items_by name before) x.id
    × (offset : ℕ) × (more : List LogRow) × (rows ≡ row_of offset name x ∷ more) × Appends name (before ++ row_of offset name x ∷ []) items more)

-- What is appended for a frame of a publisher without one: each item is a row.
abbrev pub AppendsBare : List Tagged → List LogRow → Type 0
AppendsBare [] rows = rows ≡ []
AppendsBare (x ∷ items) rows = (offset : ℕ) × (more : List LogRow) × (rows ≡ bare_row offset x ∷ more) × AppendsBare items more

-- The running leader's sequence, of log, job and queue, and all sequences that there were: each member's log is a beginning
-- of one. A declaration stands as long as the epoch runs in which it was made.
pub record Server : Type 0 where
  pub declarations : List Declaration
  pub sequence : List LogRow
  pub sequences : List (List LogRow)

abbrev pub new_server : Server
new_server = record { declarations = []; sequence = []; sequences = [] ∷ [] }

abbrev pub with_frame : Declaration → List Tagged → Declaration
with_frame declaration items = record declaration { frames = declaration.frames ++ record { items = items; waits = true } ∷ [] }

-- a frame of a declaration that stands is taken
pub record Offers (old : Server) (items : List Tagged) (rows : List LogRow) (new : Server) : Type 0 where
  pub before : List Declaration
  pub one : Declaration
  pub after : List Declaration
  pub declared : old.declarations ≡ before ++ one ∷ after
  pub stands : one.stands ≡ true
  pub appends : ((name : List ℕ) × (one.name ≡ Some name) × Appends name old.sequence items rows) ⊎ ((one.name ≡ None) × AppendsBare items rows)
  pub is : new ≡ record { declarations = before ++ with_frame one items ∷ after; sequence = old.sequence ++ rows; sequences = (old.sequence ++ rows) ∷ old.sequences }

-- a frame is refused whole, and a declaration with a name then stands no longer
pub record Refuses (old new : Server) : Type 0 where
  pub before : List Declaration
  pub one : Declaration
  pub after : List Declaration
  pub declared : old.declarations ≡ before ++ one ∷ after
  pub is : new ≡ record old { declarations = before ++ record one { stands = is_unnamed one.name } ∷ after }

-- Another leader, whose log is a beginning of some sequence, so that the end of the old one may be lost; no declaration
-- stands. The same where all stops and is opened anew.
pub record Elects (old new : Server) : Type 0 where
  pub log : List LogRow
  pub rest : List LogRow
  pub was : AnyByRecursion (λ (l : List LogRow). l ≡ log ++ rest) old.sequences
  pub is : new ≡ record { declarations = map closed old.declarations; sequence = log; sequences = old.sequences }

pub data Did : Type 0 where
  declared_one : Declaration → Did
  offered : List Tagged → List LogRow → Did
  refused_one : Did
  elected : Did

abbrev pub ServerStep : Server → Did → Server → Type 0
ServerStep old (declared_one d) new = (d.frames ≡ []) × (new ≡ record old { declarations = old.declarations ++ d ∷ [] })
ServerStep old (offered items rows) new = Offers old items rows new
ServerStep old refused_one new = Refuses old new
ServerStep old elected new = Elects old new

abbrev pub ServerRun : Server → List Did → Server → Type 0
ServerRun old [] new = new ≡ old
ServerRun old (did ∷ more) new = (mid : Server) × ServerStep old did mid × ServerRun mid more new

-- ---- what it has in common with a stream of the machine

-- declarations of the same names, which sent the same
abbrev pub SendSame : List Declaration → List Declaration → Type 0
SendSame [] [] = Unit {0}
SendSame (d ∷ ds) (e ∷ es) = (d.name ≡ e.name) × (items_of d ≡ items_of e) × SendSame ds es
SendSame [] (e ∷ es) = ⊥
SendSame (d ∷ ds) [] = ⊥

-- The stream's list is `before` of some sequence that the server had, and the chunk has the rows behind it; it is a chunk
-- at the list's end whose epoch doesn't fall, and what it stores was sent.
pub record CommitsNext (server : Server) (stream : Stream) (chunk : Chunk) : Type 0 where
  pub same : SendSame server.declarations stream.declarations
  pub rest : List LogRow
  pub was : AnyByRecursion (λ (l : List LogRow). l ≡ (Rows stream.chunks ++ chunk_rows chunk) ++ rest) server.sequences
  pub is_live : stream.life ≡ live
  pub is_chunk : IsChunk chunk
  pub at_end : chunk.first ≡ end_of stream.chunks
  pub epoch : last_epoch stream.chunks ≤ chunk.epoch
  pub stored : AllByRecursion (WasSent stream.stored) (chunk_deltas chunk)
