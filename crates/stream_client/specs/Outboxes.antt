-- The messages of a client that aren't confirmed.
use Rattle.std.specs.Prelude.{◌≡◌, ℕ, ◌+◌, ◌-◌, ◌^◌, ◌≤◌, ◌<◌, nat_lt, if◌then◌else◌, List, ◌++◌, length, drop, Result, Ok, Err}
use Rattle.std.specs.declared.alloc.AllocError.{AllocError}
use Rattle.std.specs.List.{AllByRecursion}
use Rattle.confirmed_ids.specs.declared.ranges.Range.{Range}
use Rattle.client_terms.specs.declared.fault.EnqueueFault.{EnqueueFault}
use Rattle.client_terms.specs.declared.fault.EnqueueFault.TheVariants.{TooLong, LastId, Memory}
use Rattle.client_terms.specs.States.{ClientState, IsWithin}
use Rattle.client_terms.specs.Sending.{Next, nothing, message_due}
use Rattle.client_terms.specs.Hearing.{LearnStep}

-- what is confirmed, the messages behind it, and the last id that was sent since the connection
pub record Outgoing : Type 0 where
  pub confirmed : ℕ
  pub above : List Range
  pub queue : List (List ℕ)
  pub last : ℕ

-- the client with these messages
abbrev pub posting : ClientState → Outgoing → ClientState
posting s o = record s { confirmed = o.confirmed; above = o.above; queue = o.queue; last = o.last }

abbrev pub IsShort : List ℕ → Type 0
IsShort body = length body ≤ 1000000

-- What is always so: an id that is confirmed was sent, one that was sent was given to a message, and ids have 64 bits.
pub record IsOutgoing (o : Outgoing) : Type 0 where
  pub sent : o.confirmed ≤ o.last
  pub within : (id : ℕ) → IsWithin o.above id → id ≤ o.last
  pub given : o.last ≤ o.confirmed + length o.queue
  pub ids : o.confirmed + length o.queue < 2 ^ 64
  pub short : AllByRecursion IsShort o.queue

-- the message that comes next, at most 256 past the confirmed one
abbrev pub message_in : Outgoing → Next
message_in o = if nat_lt o.last (o.confirmed + 256) then message_due (o.last + 1) (drop (o.last - o.confirmed) o.queue) else nothing

-- a message that comes next
pub record IsNext (o : Outgoing) (id : ℕ) (body : List ℕ) : Type 0 where
  pub is_next : id ≡ o.last + 1
  pub given : o.last < o.confirmed + length o.queue
  pub short : IsShort body

-- the ids were heard, or the first of them where memory ran out
abbrev pub LearnsSome : Result (Unit {0}) AllocError → List ℕ → Outgoing → Outgoing → Type 0
LearnsSome (Ok u) ids old new = (s : ClientState) → LearnStep (posting s old) ids (posting s new)
LearnsSome (Err e) ids old new = (heard : List ℕ) × (more : List ℕ) × (ids ≡ heard ++ more) × ((s : ClientState) → LearnStep (posting s old) heard (posting s new))

-- What queueing a message answers where this id was given last: the next one. One of more than 1,000,000 bytes is too long,
-- and its length is told; for others there is no id behind the greatest of 64 bits. Else memory may run out.
abbrev pub Enqueues : ℕ → List ℕ → Result ℕ EnqueueFault → Type 0
Enqueues last body (Ok id) = IsShort body × (last + 1 < 2 ^ 64) × (id ≡ last + 1)
Enqueues last body (Err (TooLong len)) = (1000000 < length body) × (len ≡ length body)
Enqueues last body (Err LastId) = IsShort body × (last + 1 ≡ 2 ^ 64)
Enqueues last body (Err Memory) = IsShort body × (last + 1 < 2 ^ 64)
