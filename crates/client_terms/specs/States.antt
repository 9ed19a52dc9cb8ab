-- What a client keeps.
use Rattle.std.specs.Prelude.{◌≡◌, ℕ, ◌+◌, ◌≤◌, ◌<◌, ◌⊎◌, ◌==◌, if◌then◌else◌, Bool, false, List, [], ◌∷◌, ◌++◌, length, Option, None}
use Rattle.command_fields.specs.declared.offset.OffsetSpec.{OffsetSpec}
use Rattle.command_fields.specs.declared.offset.OffsetSpec.TheVariants.{Unset, First, Last, Next, At, Since}
use Rattle.command_all.specs.declared.identity.Identity.{Identity}
use Rattle.confirmed_ids.specs.declared.ranges.Range.{Range}
pub use Rattle.confirmed_ids.specs.Ids.{IsWithin}
use Rattle.client_terms.specs.declared.terms.Received.{Received}
use Rattle.client_terms.specs.declared.terms.Request.{Request}
use Rattle.client_terms.specs.declared.terms.Stage.{Stage}
use Rattle.client_terms.specs.declared.terms.Stage.TheVariants.{Away, Greeting}
use Rattle.client_terms.specs.declared.terms.Wish.{Wish}

-- a request that was sent since the connection and isn't answered, with its correlation
pub record Awaited : Type 0 where
  pub request : Request
  pub corr : ℕ

-- A client of one stream, under one name.
pub record ClientState : Type 0 where
  pub identity : Identity
  pub stream : Option (List ℕ)
  pub name : Option (List ℕ)
  -- all ids up to `confirmed` are confirmed, the next one isn't, and those in the ranges above it are
  pub confirmed : ℕ
  pub above : List Range
  -- the messages behind `confirmed`, by rising id, and the last id that was sent since the connection
  pub queue : List (List ℕ)
  pub last : ℕ
  -- how many wishes for a stream, and which others, have no answer; the last answer to a query
  pub creates : ℕ
  pub wishes : List Wish
  pub answer : Option ℕ
  -- the subscription, and the entries that it got and that weren't taken out
  pub spec : OffsetSpec
  pub credit : ℕ
  pub received : List Received
  -- of the connection: its opening, the last correlation, the request that waits, whether the declaration and the
  -- subscription were answered, how many credits are due, and what the last delivery of version 2 told
  pub stage : Stage
  pub corr : ℕ
  pub awaited : Option Awaited
  pub declared : Bool
  pub subscribed : Bool
  pub credits : ℕ
  pub committed : Option ℕ

-- ---- ids

-- the id is confirmed
abbrev pub IsConfirmed : ClientState → ℕ → Type 0
IsConfirmed s id = (id ≤ s.confirmed) ⊎ IsWithin s.above id

-- the last id that was given to a message
abbrev pub last_id : ClientState → ℕ
last_id s = s.confirmed + length s.queue

abbrev pub next_corr : ℕ → ℕ
next_corr corr = if corr == 4294967295 then 1 else corr + 1

-- the offset below which the subscription wants nothing
abbrev pub wanted_from : OffsetSpec → ℕ
wanted_from (At offset) = offset
wanted_from Unset = 0
wanted_from First = 0
wanted_from Last = 0
wanted_from Next = 0
wanted_from (Since moment) = 0

-- ---- states

-- a client of which all ids up to one are confirmed
abbrev pub started : Identity → Option (List ℕ) → Option (List ℕ) → ℕ → ClientState
started identity stream name confirmed = record {
  identity = identity;
  stream = stream;
  name = name;
  confirmed = confirmed;
  above = [];
  queue = [];
  last = confirmed;
  creates = 0;
  wishes = [];
  answer = None;
  spec = Unset;
  credit = 0;
  received = [];
  stage = Away;
  corr = 0;
  awaited = None;
  declared = false;
  subscribed = false;
  credits = 0;
  committed = None;
}

-- the connection is gone; the queue, the wishes and what was received stay
abbrev pub unlinked : ClientState → ClientState
unlinked s = record s { stage = Away; corr = 0; awaited = None; declared = false; subscribed = false; credits = 0 }

-- A connection begins. What was confirmed out of order is forgotten: it is sent again.
abbrev pub linked : ClientState → ClientState
linked s = record s { stage = Greeting; corr = 0; awaited = None; declared = false; subscribed = false; credits = 0; committed = None; above = []; last = s.confirmed }
