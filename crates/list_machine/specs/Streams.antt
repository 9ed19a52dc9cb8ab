-- A stream: its list, who publishes to it, and who reads it.
use Rattle.std.specs.Prelude.{ℕ, Bool, List, [], map, flat_map, Option, Some, None}
use Rattle.chunk_format.specs.declared.entry.Entry.{Entry}
use Rattle.chunk_format.specs.declared.chunk.Chunk.{Chunk}
use Rattle.chunk_format.specs.Logs.{bare_of}
use Rattle.command_data.specs.declared.item.Tagged.{Tagged}
use Rattle.list_machine.specs.Items.{AtMostAsOften}

-- the items of a Publish frame that was taken, and whether it waits for its confirm
pub record Frame : Type 0 where
  pub items : List Tagged
  pub waits : Bool

-- the items of a frame that was confirmed, and the name of their publisher, if it has one
pub record Confirmed : Type 0 where
  pub name : Option (List ℕ)
  pub items : List Tagged

-- A publisher that was declared on the stream, by its connection and id. One that stands no longer is kept, since its
-- items may be committed later. `known` is what had been confirmed on the stream when its first item was taken.
pub record Declaration : Type 0 where
  pub connection : ℕ
  pub id : ℕ
  pub name : Option (List ℕ)
  pub frames : List Frame
  pub known : List Confirmed
  pub stands : Bool

-- What a subscription does. One of a group waits until it is asked to be active and has answered, and again once it was
-- asked to stop and has answered; the questions have correlations. One without a group is active.
pub data Activity : Type 0 where
  waiting : Activity
  starting : ℕ → Activity
  active : Activity
  stopping : ℕ → Activity

-- A subscription, by its connection and id: its group if it is a single active consumer, its next offset and its credits.
-- Besides: where it last started and what it was sent since, and all credits and all chunks that it got.
pub record Subscription : Type 0 where
  pub connection : ℕ
  pub id : ℕ
  pub group : Option (List ℕ)
  pub activity : Activity
  pub next : ℕ
  pub credits : ℕ
  pub start : ℕ
  pub delivered : List Chunk
  pub granted : ℕ
  pub sent : ℕ

-- an offset that a consumer sent, to be stored under a name
pub record StoredOffset : Type 0 where
  pub name : List ℕ
  pub offset : ℕ

pub data Life : Type 0 where
  unmade : Life
  live : Life
  ended : Life

-- A stream, with the super stream that it is a partition of, if any. `seen` is the list as the connections see it: the
-- whole list, or nothing between a stop of all and the next commit.
pub record Stream : Type 0 where
  pub life : Life
  pub name : List ℕ
  pub super : Option (List ℕ)
  pub chunks : List Chunk
  pub seen : List Chunk
  pub declarations : List Declaration
  pub subscriptions : List Subscription
  pub confirmed : List Confirmed
  pub stored : List StoredOffset

abbrev pub no_stream : Stream
no_stream = record {
  life = unmade;
  name = [];
  super = None;
  chunks = [];
  seen = [];
  declarations = [];
  subscriptions = [];
  confirmed = [];
  stored = [];
}

-- ---- what was sent and what was confirmed

-- all items of a declaration, in order
abbrev pub items_of : Declaration → List Tagged
items_of declaration = flat_map (λ (frame : Frame). frame.items) declaration.frames

abbrev pub entries_of : List Tagged → List Entry
entries_of items = map (λ (x : Tagged). x.entry) items

-- the entries of items of a publisher without a name
abbrev pub unnamed_by : Option (List ℕ) → List Tagged → List Entry
unnamed_by None items = entries_of items
unnamed_by (Some name) items = []

-- the entries that publishers without a name sent
abbrev pub sent_unnamed : List Declaration → List Entry
sent_unnamed declarations = flat_map (λ (d : Declaration). unnamed_by d.name (items_of d)) declarations

-- the entries that were confirmed to publishers without a name
abbrev pub confirmed_unnamed : List Confirmed → List Entry
confirmed_unnamed confirmed = flat_map (λ (c : Confirmed). unnamed_by c.name c.items) confirmed

-- Each entry stands in the list without a tag at least as often as it was confirmed to publishers without a name.
abbrev pub Counted : List Chunk → List Confirmed → Type 0
Counted chunks confirmed = AtMostAsOften (confirmed_unnamed confirmed) (bare_of chunks)
