-- Deliveries: an active subscription gets the chunks that are due, as far as it has credit.
use Rattle.std.specs.Prelude.{ℕ, zero, suc, ◌+◌, ◌-◌, ◌==◌, Bool, true, false, List, [], ◌∷◌, ◌++◌, Option, None, Some, Result, Ok, Err, if◌then◌else◌}
use Rattle.std.specs.declared.alloc.AllocError.{AllocError}
use Rattle.chunk_format.specs.declared.chunk.Chunk.{Chunk}
use Rattle.chunk_format.specs.Chunks.{end_of_chunk}
use Rattle.hub_terms.specs.Calls.{NextChunk, LastChunk, IsActive}
use Rattle.hub_terms.specs.Programs.{Program, done, asking, lost}
use Rattle.session_tables.specs.Subscribing.{slot, put_slot}
use Rattle.session_tables.specs.declared.tables.Subscription.{Subscription}
use Rattle.session_tables.specs.declared.tables.Tables.{Tables}
use Rattle.session_core.specs.declared.unasked.Unasked.{Unasked}
use Rattle.session_core.specs.declared.unasked.Unasked.TheVariants as say
use Rattle.session_core.specs.Consuming.{consumer}
use Rattle.session_core.specs.Speaking.{Spoken, spoken, goes_on}

-- the subscription once it was sent a chunk
abbrev pub sent_to : Subscription → Chunk → Subscription
sent_to s c = record s { next = end_of_chunk c; credit = s.credit - 1 }

abbrev pub committed_told : Result (Option ℕ) AllocError → Program (Option ℕ)
committed_told (Ok last) = done last
committed_told (Err e) = lost

-- what a delivery names as committed: in version 2 the first offset of the last chunk, in version 1 nothing
abbrev pub committed_row : Bool → ℕ → Program (Option ℕ)
committed_row false stream = done None
committed_row true stream = asking (LastChunk stream) committed_told

-- the subscription is kept under its id
abbrev pub rests : Tables → ℕ → Subscription → List Unasked → Spoken
rests t id s said = spoken said (put_slot id (Some s) t)

abbrev pub chunk_by : (Subscription → List Unasked → Program Spoken) → Tables → ℕ → Subscription → List Unasked → Result (Option Chunk) AllocError → Program Spoken
chunk_by more t id s said (Ok None) = done (rests t id s said)
chunk_by more t id s said (Ok (Some c)) = goes_on (committed_row t.second s.stream) (λ committed. more (sent_to s c) (said ++ say.Deliver id committed c ∷ []))
chunk_by more t id s said (Err e) = lost

-- chunk after chunk, up to this many
unfoldable pub send : ℕ → Tables → ℕ → Subscription → List Unasked → Program Spoken
send zero t id s said = done (rests t id s said)
send (suc n) t id s said = asking (NextChunk s.stream s.next) (chunk_by (send n t id) t id s said)

abbrev pub active_row : Tables → List Unasked → ℕ → Subscription → Bool → Program Spoken
active_row t said id s active = if active then send s.credit t id s said else done (spoken said t)

-- one without a group is active
abbrev pub single_row : Tables → List Unasked → ℕ → Subscription → Option ℕ → Program Spoken
single_row t said id s None = send s.credit t id s said
single_row t said id s (Some serial) = asking (IsActive (consumer t serial)) (active_row t said id s)

abbrev pub slot_by : Tables → List Unasked → ℕ → Option Subscription → Program Spoken
slot_by t said id None = done (spoken said t)
slot_by t said id (Some s) = if s.credit == 0 then done (spoken said t) else single_row t said id s s.single

abbrev pub slot_row : ℕ → Tables → List Unasked → Program Spoken
slot_row id t said = slot_by t said id (slot id t)

-- so many ids, from this one on
unfoldable pub slots_row : ℕ → ℕ → Tables → List Unasked → Program Spoken
slots_row zero id t said = done (spoken said t)
slots_row (suc n) id t said = goes_on (slot_row id t said) (λ a. slots_row n (id + 1) a.tables a.said)
