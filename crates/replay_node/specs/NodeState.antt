-- The node behind a script: one stream, several connections, and what each line gives.
use Rattle.std.specs.Prelude.{◌≡◌, ℕ, zero, suc, ◌+◌, ◌≤◌, ◌<◌, ◌==◌, not, if◌then◌else◌, pos, List, [], ◌∷◌, ◌++◌, length, take, drop, map, All, Option, Some, None, IsSome, Result, Ok, Err}
use Rattle.std.specs.List.{flat_map, filter}
use Rattle.frame_wire.specs.Frames.{frame}
use Rattle.chunk_format.specs.declared.entry.Entry.{Entry}
use Rattle.chunk_format.specs.declared.entry.Entry.TheVariants.{Simple}
use Rattle.chunk_format.specs.declared.chunk.ChunkKind.TheVariants.{User, Snapshot}
use Rattle.chunk_format.specs.declared.chunk.Chunk.{Chunk}
use Rattle.chunk_format.specs.Chunks.{chunk_bytes, end_of_chunk, IsChunk}
use Rattle.command_fields.specs.Tables.{body_of}
use Rattle.command_data.specs.declared.item.Tagged.{Tagged}
use Rattle.command_data.specs.declared.command.DataCommand.{DataCommand}
use Rattle.command_data.specs.declared.command.DataCommand.TheVariants.{PublishConfirm}
use Rattle.command_data.specs.Commands.{data_table}
use Rattle.frame_commands.specs.Given.{CommandsOf}
use Rattle.replay_node.specs.declared.session.Offer.{Offer}
use Rattle.replay_node.specs.declared.session.Link.{Link}
use Rattle.replay_node.specs.declared.session.Served.{Served}
use Rattle.script_text.specs.declared.script.ScriptLine.{ScriptLine}
use Rattle.script_text.specs.declared.script.ScriptLine.TheVariants.{Create, Prepare, Give, Poll, Settle}
use Rattle.script_text.specs.declared.script.LineFault.{LineFault}
use Rattle.script_text.specs.declared.script.LineFault.TheVariants.{Bad, Memory}
use Rattle.replay_node.specs.Commands.{frame_max}
use Rattle.replay_node.specs.Sessions.{serve_all}
use Rattle.script_text.specs.declared.output.OutputLine.{OutputLine}
use Rattle.script_text.specs.declared.output.OutputLine.TheVariants.{Committed, Sent}
use Rattle.replay_node.specs.Outputs.{output_lines}
use Rattle.script_text.specs.Script.{Spells}

-- What a node has: the name of stream 1, the connections in the order of their making, the committed list, the frames
-- that were taken and are not committed, and those that are but have no confirm.
pub record NodeState : Type 0 where
  pub stream : Option (List ℕ)
  pub links : List Link
  pub chunks : List Chunk
  pub queued : List Offer
  pub unconfirmed : List Offer

abbrev pub new_node : NodeState
new_node = record { stream = None; links = []; chunks = []; queued = []; unconfirmed = [] }

-- ---- the committed list

-- where a list of chunks ends
abbrev pub end_of_list : List Chunk → ℕ
end_of_list [] = 0
end_of_list (chunk ∷ []) = end_of_chunk chunk
end_of_list (chunk ∷ next ∷ more) = end_of_list (next ∷ more)

-- the chunk with which epoch 1 opens: a snapshot of nothing
abbrev pub opening : Chunk
opening = record { kind = Snapshot; stamp = pos 0; epoch = 1; first = 0; entries = Simple [] ∷ []; trailer = [] }

-- entries as a chunk of epoch 1
abbrev pub user_chunk : ℕ → List Entry → Chunk
user_chunk first entries = record { kind = User; stamp = pos 0; epoch = 1; first = first; entries = entries; trailer = [] }

-- the most entries of a chunk
abbrev pub chunk_max : ℕ
chunk_max = 4096

-- at most so many pieces, each of 4,096 but the last, which has what is left
abbrev pub first_pieces : {X : Type 0} → ℕ → List X → List (List X)
first_pieces zero xs = []
first_pieces (suc n) [] = []
first_pieces (suc n) (x ∷ xs) = take chunk_max (x ∷ xs) ∷ first_pieces n (drop chunk_max (x ∷ xs))

-- all of a list in such pieces
unfoldable pub pieces_of : {X : Type 0} → List X → List (List X)
pieces_of xs = first_pieces (length xs) xs

abbrev pub entries : List Tagged → List Entry
entries items = map (λ (item : Tagged). item.entry) items

-- the entries of each offer in its pieces, offer after offer
abbrev pub offer_pieces : List Offer → List (List Entry)
offer_pieces offers = flat_map (λ (offer : Offer). pieces_of (entries offer.items)) offers

-- a chunk for each piece of entries, one after the other from an offset on; each entry takes one offset
abbrev pub chunks_from : ℕ → List (List Entry) → List Chunk
chunks_from first [] = []
chunks_from first (piece ∷ more) = user_chunk first piece ∷ chunks_from (first + length piece) more

-- the chunks of the queued offers, at the end of the list
abbrev pub queued_chunks : NodeState → List Chunk
queued_chunks node = chunks_from (end_of_list node.chunks) (offer_pieces node.queued)

-- ---- connections

-- the connection of a number
abbrev pub find_link : ℕ → List Link → Option Link
find_link number [] = None
find_link number (link ∷ links) = if link.number == number then Some link else find_link number links

-- the same with this in the place of the connection of its number
abbrev pub put_link : Link → List Link → List Link
put_link new [] = []
put_link new (link ∷ links) = if link.number == new.number then new ∷ links else link ∷ put_link new links

-- a connection with publisher 0 declared
abbrev pub prepared_link : ℕ → Link
prepared_link number = record { number = number; rest = []; publishers = 0 ∷ [] }

-- the offers of a connection, and those of the others
abbrev pub offers_of : ℕ → List Offer → List Offer
offers_of connection offers = filter (λ (offer : Offer). offer.connection == connection) offers

abbrev pub offers_of_others : ℕ → List Offer → List Offer
offers_of_others connection offers = filter (λ (offer : Offer). not (offer.connection == connection)) offers

-- ---- what is written

abbrev pub commit_of : Chunk → OutputLine
commit_of chunk = Committed 1 (chunk_bytes chunk)

-- a command in a frame
abbrev pub send : ℕ → DataCommand → OutputLine
send connection command = Sent connection (frame (body_of data_table command))

-- the ids of items, in order
abbrev pub ids : List Tagged → List ℕ
ids items = map (λ (item : Tagged). item.id) items

-- the confirm of one Publish frame
abbrev pub confirm_of : Offer → OutputLine
confirm_of offer = send offer.connection (PublishConfirm offer.publisher (ids offer.items))

-- ---- what each line gives

-- Bytes come on a connection: what was held back and they are frames of commands, and a rest that is held back then.
-- Each command is served, and what it answers is written.
pub record GivesBytes (old : NodeState) (connection : ℕ) (bytes : List ℕ) (outputs : List OutputLine) (new : NodeState) : Type 0 where
  pub stream : List ℕ
  pub is_live : old.stream ≡ Some stream
  pub link : Link
  pub is_there : find_link connection old.links ≡ Some link
  pub commands : List DataCommand
  pub rest : List ℕ
  pub reads : CommandsOf frame_max (link.rest ++ bytes) commands rest
  pub served : Served
  pub serves : serve_all connection stream link.publishers commands ≡ Some served
  pub written : outputs ≡ map (send connection) served.answers
  pub is : new ≡ record old {
    links = put_link (record { number = connection; rest = rest; publishers = served.publishers }) old.links;
    queued = old.queued ++ served.offers;
  }

-- What each line gives, and the node after it. A line to which nothing is given here is Bad.
abbrev pub LineGives : NodeState → ScriptLine → List OutputLine → NodeState → Type 0
-- a stream is made, and opens with a snapshot
LineGives old (Create name) outputs new =
    (old.stream ≡ None)
    × (outputs ≡ commit_of opening ∷ [])
    × (new ≡ record old { stream = Some name; chunks = opening ∷ [] })
-- a connection is made, and prepared on the stream; there are at most sixteen
LineGives old (Prepare connection name) outputs new =
    (find_link connection old.links ≡ None)
    × (1 ≤ connection)
    × (connection ≤ 4294967295)
    × (length old.links < 16)
    × (old.stream ≡ Some name)
    × (outputs ≡ [])
    × (new ≡ record old { links = old.links ++ prepared_link connection ∷ [] })
-- bytes come on a connection
LineGives old (Give connection bytes) outputs new = GivesBytes old connection bytes outputs new
-- each offer that was taken is committed, in order, at the end of the list; all chunks have a spelling
LineGives old (Settle stream) outputs new =
    (stream ≡ 1)
    × IsSome old.stream
    × All IsChunk (queued_chunks old)
    × (outputs ≡ map commit_of (queued_chunks old))
    × (new ≡ record old {
      chunks = old.chunks ++ queued_chunks old;
      queued = [];
      unconfirmed = old.unconfirmed ++ old.queued;
    })
-- each committed offer of the connection that had no confirm is confirmed, in order
LineGives old (Poll connection) outputs new =
    IsSome (find_link connection old.links)
    × (outputs ≡ map confirm_of (offers_of connection old.unconfirmed))
    × (new ≡ record old { unconfirmed = offers_of_others connection old.unconfirmed })
-- this node serves no other line of the language
LineGives old other outputs new = ⊥

-- the line's own rules refuse it
abbrev pub Refuses : NodeState → ScriptLine → Type 0
Refuses node line = (outputs : List OutputLine) (new : NodeState) → LineGives node line outputs new → ⊥

-- no line of the language, or one that is refused
abbrev pub IsBad : NodeState → List ℕ → Type 0
IsBad node bytes = (line : ScriptLine) → Spells bytes line → Refuses node line

-- the bytes are a line, and these output lines are what it gives
pub record LineAnswered (old : NodeState) (bytes : List ℕ) (lines : List (List ℕ)) (new : NodeState) : Type 0 where
  pub line : ScriptLine
  pub spells : Spells bytes line
  pub outputs : List OutputLine
  pub gives : LineGives old line outputs new
  pub written : lines ≡ output_lines outputs

-- how a line that was read is answered
abbrev pub AnswersLine : NodeState → ScriptLine → Result (List (List ℕ)) LineFault → NodeState → Type 0
AnswersLine old line (Ok lines) new = (outputs : List OutputLine) × LineGives old line outputs new × (lines ≡ output_lines outputs)
AnswersLine old line (Err Bad) new = Refuses old line × (new ≡ old)
AnswersLine old line (Err Memory) new = new ≡ old
