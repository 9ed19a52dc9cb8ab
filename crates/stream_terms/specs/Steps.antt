-- What may happen to a stream.
use Rattle.std.specs.Prelude.{◌≡◌, ◌⊎◌, ℕ, ℤ, ◌-◌, ◌^◌, ◌<◌, ◌≤◌, Bool, true, false, not, ◌&&◌, ◌==◌, nat_lt, List, [], ◌∷◌, ◌++◌, map, length, position, unwrap_or, Option, Some, None, Result, Ok, Err}
use Rattle.std.specs.List.{filter, AllByRecursion, Contains}
use Rattle.chunk_format.specs.declared.entry.Entry.{Entry}
use Rattle.chunk_format.specs.declared.entry.Entry.TheVariants.{Simple}
use Rattle.chunk_format.specs.declared.chunk.ChunkKind.{ChunkKind}
use Rattle.chunk_format.specs.declared.chunk.ChunkKind.TheVariants.{User, Delta, Snapshot}
use Rattle.chunk_format.specs.declared.chunk.Chunk.{Chunk}
use Rattle.chunk_format.specs.Chunks.{entry_records}
use Rattle.chunk_format.specs.Logs.{end_of}
use Rattle.chunk_format.specs.Tags.{DeltaOffset, delta_bytes}
use Rattle.command_data.specs.declared.item.Tagged.{Tagged}
use Rattle.stream_terms.specs.declared.terms.Pass.{Pass}
use Rattle.stream_terms.specs.declared.terms.Given.{Given}
use Rattle.stream_terms.specs.declared.terms.Waits.{Waits}
use Rattle.stream_terms.specs.declared.terms.Taken.{Taken}
use Rattle.stream_terms.specs.declared.terms.DeclareFault.{DeclareFault}
use Rattle.stream_terms.specs.declared.terms.OfferFault.{OfferFault}
use Rattle.stream_terms.specs.declared.terms.OfferFault.TheVariants as refused
use Rattle.stream_terms.specs.declared.terms.DeclareFault.TheVariants as closed
use Rattle.stream_terms.specs.declared.terms.Confirm.{Confirm}
use Rattle.stream_terms.specs.Views.{StreamView, sequence, name_of, CausedBy, Known}

-- a declaration, an offer, an offset to be stored, the handing out of a session's confirms, and what the stream does by itself: more chunks, another epoch
pub data StreamAct : Type 0 where
  Declared : ℕ → Option (List ℕ) → Result Pass DeclareFault → StreamAct
  Offered : Pass → List Tagged → Result Taken OfferFault → StreamAct
  StoredOffset : Option (List ℕ) → ℕ → Result Taken OfferFault → StreamAct
  Handed : ℕ → List Waits → StreamAct
  Moved : List Chunk → StreamAct

abbrev pub item_id : Tagged → ℕ
item_id t = t.id

abbrev pub item_entry : Tagged → Entry
item_entry t = t.entry

-- The next pass of the epoch that runs. No pass before it has its serial.
pub record DeclaresPass (old : StreamView) (session : ℕ) (name : Option (List ℕ)) (p : Pass) (new : StreamView) : Type 0 where
  pub of_stream : p.stream ≡ old.number
  pub of_session : p.session ≡ session
  pub running : old.running ≡ Some p.epoch
  pub room : length old.passes < 2 ^ 32 - 1
  pub fresh : AllByRecursion (λ (g : Given). g.pass.serial < p.serial) old.passes
  pub new_is : new ≡ record old { passes = old.passes ++ record { pass = p; name = name_of name } ∷ [] }

-- no epoch runs, or the last pass was given, of which there are 4,294,967,295
abbrev pub DeclareRefused : StreamView → DeclareFault → Type 0
DeclareRefused old closed.Closed = (old.running ≡ None) ⊎ (2 ^ 32 - 1 ≤ length old.passes)
DeclareRefused old closed.Memory = Unit {0}

abbrev pub DeclareStep : StreamView → ℕ → Option (List ℕ) → Result Pass DeclareFault → StreamView → Type 0
DeclareStep old session name (Ok p) new = DeclaresPass old session name p new
DeclareStep old session name (Err fault) new = DeclareRefused old fault × (new ≡ old)

-- behind those that wait, or ready at once where the list reaches its end already
abbrev pub put_by : Bool → Waits → StreamView → StreamView
put_by true w v = record v { waiting = v.waiting ++ w ∷ [] }
put_by false w v = record v { ready = v.ready ++ w ∷ [] }

abbrev pub put_wait : Waits → StreamView → StreamView
put_wait w v = put_by (nat_lt (end_of v.chunks) w.end) w v

abbrev pub queued : List Chunk → StreamView → StreamView
queued took v = record v { queue = v.queue ++ took }

abbrev pub no_delta : ChunkKind → Bool
no_delta User = true
no_delta Delta = false
no_delta Snapshot = true

-- a sub-batch of no records
abbrev pub has_none : Tagged → Bool
has_none t = entry_records t.entry == 0

-- the pass was given, and its epoch runs
abbrev pub IsOfUse : StreamView → Pass → Type 0
IsOfUse v p = (v.running ≡ Some p.epoch) × ((g : Given) × Contains v.passes g × (g.pass ≡ p))

-- Why an offer was refused: the pass is of no use; at the first sub-batch of no records; by a limit, where neither is so.
abbrev pub OfferRefused : StreamView → Pass → List Tagged → OfferFault → Type 0
OfferRefused old p items (refused.Stale asked running) = (asked ≡ p.epoch) × (running ≡ unwrap_or old.running 0) × (IsOfUse old p → ⊥)
OfferRefused old p items (refused.BadName len) = ⊥
OfferRefused old p items (refused.EmptyBatch place) = IsOfUse old p × (position has_none items ≡ Some place)
OfferRefused old p items (refused.Limit what most) = IsOfUse old p × (position has_none items ≡ None)
OfferRefused old p items refused.Memory = Unit {0}

-- The range that was taken begins where all that was taken before ends, which is at or past the end of the list and of all that waits. What ends
-- within the list waits no more: such an offer added nothing, and its ids are not above the greatest.
pub record OfferTaken (old : StreamView) (p : Pass) (items : List Tagged) (t : Taken) (new : StreamView) : Type 0 where
  pub wait : Waits
  pub took : List Chunk
  pub passed : wait.given.pass ≡ p
  pub known : Known old.passes wait
  pub running : old.running ≡ Some p.epoch
  pub whole : position has_none items ≡ None
  pub ids : wait.ids ≡ map item_id items
  pub entries : wait.entries ≡ map item_entry items
  pub begins : wait.from ≡ end_of (sequence old)
  pub ends : wait.end ≡ end_of (sequence (queued took old))
  pub end_is : wait.end ≡ t.end
  pub few : t.accepted ≤ length items
  pub kinds : AllByRecursion (λ (c : Chunk). no_delta c.kind ≡ true) took
  pub past_list : end_of old.chunks ≤ wait.from
  pub past_waiting : AllByRecursion (λ (w : Waits). w.end ≤ wait.from) old.waiting
  pub at_once : wait.end ≤ end_of old.chunks → CausedBy wait.given.name wait old.chunks
  pub new_is : new ≡ put_wait wait (queued took old)

abbrev pub OfferStep : StreamView → Pass → List Tagged → Result Taken OfferFault → StreamView → Type 0
OfferStep old p items (Ok t) new = OfferTaken old p items t new
OfferStep old p items (Err fault) new = OfferRefused old p items fault × (new ≡ old)

-- the chunk that stores an offset for a name
abbrev pub offset_chunk : ℕ → ℤ → ℕ → List ℕ → ℕ → Chunk
offset_chunk epoch stamp first name offset = record {
  kind = Delta;
  stamp = stamp;
  epoch = epoch;
  first = first;
  entries = Simple (delta_bytes (DeltaOffset name offset)) ∷ [];
  trailer = [];
}

-- Exactly its chunk of the running epoch is queued, behind all that was taken, and at most snapshots behind it.
pub record OffsetTaken (old : StreamView) (name : Option (List ℕ)) (offset : ℕ) (t : Taken) (new : StreamView) : Type 0 where
  pub bytes : List ℕ
  pub name_is : name ≡ Some bytes
  pub some : 1 ≤ length bytes
  pub few : length bytes ≤ 255
  pub epoch : ℕ
  pub running : old.running ≡ Some epoch
  pub stamp : ℤ
  pub snapshots : List Chunk
  pub kinds : AllByRecursion (λ (c : Chunk). c.kind ≡ Snapshot) snapshots
  pub new_is : new ≡ queued (offset_chunk epoch stamp (end_of (sequence old)) bytes offset ∷ snapshots) old
  pub end_is : t.end ≡ end_of (sequence new)
  pub accepted : t.accepted ≡ 1

-- a name of 1 to 255 bytes
abbrev pub names_one : Option (List ℕ) → Bool
names_one name = nat_lt 0 (length (name_of name)) && nat_lt (length (name_of name)) 256

abbrev pub IsRunning : StreamView → Type 0
IsRunning v = (epoch : ℕ) × (v.running ≡ Some epoch)

-- Why an offset was refused: no epoch runs; by its name; by a limit, where neither is so.
abbrev pub OffsetRefused : StreamView → Option (List ℕ) → OfferFault → Type 0
OffsetRefused old name (refused.Stale asked running) = (asked ≡ 0) × (running ≡ 0) × (old.running ≡ None)
OffsetRefused old name (refused.BadName len) = IsRunning old × (names_one name ≡ false) × (len ≡ length (name_of name))
OffsetRefused old name (refused.EmptyBatch place) = ⊥
OffsetRefused old name (refused.Limit what most) = IsRunning old × (names_one name ≡ true)
OffsetRefused old name refused.Memory = Unit {0}

abbrev pub OffsetStep : StreamView → Option (List ℕ) → ℕ → Result Taken OfferFault → StreamView → Type 0
OffsetStep old name offset (Ok t) new = OffsetTaken old name offset t new
OffsetStep old name offset (Err fault) new = OffsetRefused old name fault × (new ≡ old)

abbrev pub is_of : ℕ → Waits → Bool
is_of session w = w.given.pass.session == session

abbrev pub is_other : ℕ → Waits → Bool
is_other session w = not (is_of session w)

-- exactly the ready ones of the session, in the order of their offers
pub record HandStep (old : StreamView) (session : ℕ) (out : List Waits) (new : StreamView) : Type 0 where
  pub out_is : out ≡ filter (is_of session) old.ready
  pub new_is : new ≡ record old { ready = filter (is_other session) old.ready }

abbrev pub is_reached : List Chunk → Waits → Bool
is_reached chunks w = not (nat_lt (end_of chunks) w.end)

abbrev pub of_epoch : Option ℕ → Waits → Bool
of_epoch None w = false
of_epoch (Some epoch) w = w.given.pass.epoch == epoch

abbrev pub still_waits : List Chunk → Option ℕ → Waits → Bool
still_waits chunks running w = nat_lt (end_of chunks) w.end && of_epoch running w

-- The list goes on, and while one epoch runs it takes what was queued, in order. Those that it now reaches are ready, and of the others those of the
-- running epoch go on waiting.
pub record MoveStep (old : StreamView) (more : List Chunk) (new : StreamView) : Type 0 where
  pub number : new.number ≡ old.number
  pub chunks : new.chunks ≡ old.chunks ++ more
  pub in_order : (epoch : ℕ) → old.running ≡ Some epoch → new.running ≡ Some epoch → old.queue ≡ more ++ new.queue
  pub passes : new.passes ≡ old.passes
  pub ready : new.ready ≡ old.ready ++ filter (is_reached new.chunks) old.waiting
  pub waiting : new.waiting ≡ filter (still_waits new.chunks new.running) old.waiting

abbrev pub StreamStep : StreamView → StreamAct → StreamView → Type 0
StreamStep old (Declared session name r) new = DeclareStep old session name r new
StreamStep old (Offered p items r) new = OfferStep old p items r new
StreamStep old (StoredOffset name offset r) new = OffsetStep old name offset r new
StreamStep old (Handed session out) new = HandStep old session out new
StreamStep old (Moved more) new = MoveStep old more new

-- what is handed out, as the session sees it
abbrev pub confirm_of : Waits → Confirm
confirm_of w = record { stream = w.given.pass.stream; serial = w.given.pass.serial; end = w.end; ids = w.ids }
