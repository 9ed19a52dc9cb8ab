-- Ends, epochs and runs of lists of chunks that are linked.
use Rattle.std.proofs.Common.{◌≡◌, ℕ, ◌≤◌, ◌<◌, ◌⊎◌, List, [], ◌∷◌, ◌++◌, length, refl, ap, subst, arith, inl, inr}
use Rattle.std.specs.List.{All}
use Rattle.std.proofs.lemmas.List.Elements.{All-head, All-cons, All-nil}
use Rattle.std.proofs.lemmas.List.Sums.{sum_by-cons}
use Rattle.chunk_format.specs.declared.entry.Entry.{Entry}
use Rattle.chunk_format.specs.declared.chunk.Chunk.{Chunk}
use Rattle.chunk_format.specs.Chunks.{entry_records, records_of, HasRecords, end_of_chunk, IsChunk}
use Rattle.chunk_format.specs.Logs.{end_from, end_of, epoch_from, last_epoch, Linked, IsLog, HasRun}

-- ---- ends and epochs of two parts

pub end_join : (at : ℕ) (a b : List Chunk) → end_from at (a ++ b) ≡ end_from (end_from at a) b
end_join at [] b = refl
end_join at (c ∷ cs) b = end_join (end_of_chunk c) cs b

pub end_push : (chunks : List Chunk) (c : Chunk) → end_of (chunks ++ c ∷ []) ≡ end_of_chunk c
end_push chunks c = end_join 0 chunks (c ∷ [])

pub epoch_join : (epoch : ℕ) (a b : List Chunk) → epoch_from epoch (a ++ b) ≡ epoch_from (epoch_from epoch a) b
epoch_join epoch [] b = refl
epoch_join epoch (c ∷ cs) b = epoch_join c.epoch cs b

pub epoch_push : (chunks : List Chunk) (c : Chunk) → last_epoch (chunks ++ c ∷ []) ≡ c.epoch
epoch_push chunks c = epoch_join 0 chunks (c ∷ [])

-- ---- parts of what is linked

pub linked_front : (at epoch : ℕ) (a b : List Chunk) → Linked at epoch (a ++ b) → Linked at epoch a
linked_front at epoch [] b l = tt
linked_front at epoch (c ∷ cs) b l = record { begins = l.begins; not_before = l.not_before; is = l.is; behind = linked_front (end_of_chunk c) c.epoch cs b l.behind }

-- what follows is linked from where the first part ends
pub linked_behind : (at epoch : ℕ) (a b : List Chunk) → Linked at epoch (a ++ b) → Linked (end_from at a) (epoch_from epoch a) b
linked_behind at epoch [] b l = l
linked_behind at epoch (c ∷ cs) b l = linked_behind (end_of_chunk c) c.epoch cs b l.behind

pub linked_join : (at epoch : ℕ) (a b : List Chunk) → Linked at epoch a → Linked (end_from at a) (epoch_from epoch a) b → Linked at epoch (a ++ b)
linked_join at epoch [] b l m = m
linked_join at epoch (c ∷ cs) b l m = record { begins = l.begins; not_before = l.not_before; is = l.is; behind = linked_join (end_of_chunk c) c.epoch cs b l.behind m }

pub linked_push : (at epoch : ℕ) (chunks : List Chunk) (c : Chunk) → Linked at epoch chunks → c.first ≡ end_from at chunks → epoch_from epoch chunks ≤ c.epoch → IsChunk c → Linked at epoch (chunks ++ c ∷ [])
linked_push at epoch chunks c l begins not_before is = linked_join at epoch chunks (c ∷ []) l (record { begins = begins; not_before = not_before; is = is; behind = tt })

pub linked_each : (at epoch : ℕ) (chunks : List Chunk) → Linked at epoch chunks → All IsChunk chunks
linked_each at epoch [] l = All-nil IsChunk
linked_each at epoch (c ∷ cs) l = All-cons IsChunk c cs l.is (linked_each (end_of_chunk c) c.epoch cs l.behind)

-- ---- a chunk takes at least one offset

some_records : (entries : List Entry) → 1 ≤ length entries → All HasRecords entries → 1 ≤ records_of entries
some_records [] some each = absurd (omega arith)
some_records (e ∷ es) some each = let here : 1 ≤ entry_records e = All-head HasRecords e es each in omega (arith, sum_by-cons entry_records e es)

pub chunk_goes_on : (c : Chunk) → IsChunk c → c.first < end_of_chunk c
chunk_goes_on c is = let some = some_records c.entries is.some is.recorded in omega arith

-- ---- along what is linked, ends rise and epochs don't fall

pub end_past : (at epoch : ℕ) (chunks : List Chunk) → Linked at epoch chunks → at ≤ end_from at chunks
end_past at epoch [] l = omega arith
end_past at epoch (c ∷ cs) l =
    let more = end_past (end_of_chunk c) c.epoch cs l.behind in
    let begins = l.begins in
    omega arith

pub end_beyond : (at epoch : ℕ) (c : Chunk) (cs : List Chunk) → Linked at epoch (c ∷ cs) → at < end_from at (c ∷ cs)
end_beyond at epoch c cs l =
    let more = end_past (end_of_chunk c) c.epoch cs l.behind in
    let goes = chunk_goes_on c l.is in
    let begins = l.begins in
    omega arith

pub epoch_past : (at epoch : ℕ) (chunks : List Chunk) → Linked at epoch chunks → epoch ≤ epoch_from epoch chunks
epoch_past at epoch [] l = omega arith
epoch_past at epoch (c ∷ cs) l =
    let more = epoch_past (end_of_chunk c) c.epoch cs l.behind in
    let not_before = l.not_before in
    omega arith

pub end_grows : (a b : List Chunk) → IsLog (a ++ b) → end_of a ≤ end_of (a ++ b)
end_grows a b l =
    let past = end_past (end_of a) (last_epoch a) b (linked_behind 0 0 a b l) in
    let join = end_join 0 a b in
    omega arith

pub epoch_grows : (a b : List Chunk) → IsLog (a ++ b) → last_epoch a ≤ last_epoch (a ++ b)
epoch_grows a b l =
    let past = epoch_past (end_of a) (last_epoch a) b (linked_behind 0 0 a b l) in
    let join = epoch_join 0 a b in
    omega arith

-- ---- runs

pub run_left : (a b : List Chunk) (epoch end : ℕ) → HasRun a epoch end → HasRun (a ++ b) epoch end
run_left [] b epoch end h = absurd h
run_left (c ∷ cs) b epoch end (inl h) = inl h
run_left (c ∷ cs) b epoch end (inr h) = inr (run_left cs b epoch end h)

pub run_right : (a b : List Chunk) (epoch end : ℕ) → HasRun b epoch end → HasRun (a ++ b) epoch end
run_right [] b epoch end h = h
run_right (c ∷ cs) b epoch end h = inr (run_right cs b epoch end h)

pub run_parts : (a b : List Chunk) (epoch end : ℕ) → HasRun (a ++ b) epoch end → HasRun a epoch end ⊎ HasRun b epoch end
run_parts [] b epoch end h = inr h
run_parts (c ∷ cs) b epoch end (inl h) = inl (inl h)
run_parts (c ∷ cs) b epoch end (inr h) = elim (run_parts cs b epoch end h) [ inl x ↦ inl (inr x) | inr y ↦ inr y ]

pub run_less : (chunks : List Chunk) (epoch end less : ℕ) → less ≤ end → HasRun chunks epoch end → HasRun chunks epoch less
run_less [] epoch end less le h = absurd h
run_less (c ∷ cs) epoch end less le (inl h) = inl (h.0, let reached = h.1 in omega arith)
run_less (c ∷ cs) epoch end less le (inr h) = inr (run_less cs epoch end less le h)

-- the tail of what isn't empty is one of its runs
pub run_tail : (chunks : List Chunk) (c : Chunk) → HasRun (chunks ++ c ∷ []) c.epoch (end_of_chunk c)
run_tail chunks c = run_right chunks (c ∷ []) c.epoch (end_of_chunk c) (inl (refl, omega arith))

-- a beginning whose last chunk has an epoch, and ends at an offset or later
pub record Reached (chunks : List Chunk) (at from epoch end : ℕ) : Type 0 where
  pub front : List Chunk
  pub rest : List Chunk
  pub parts : chunks ≡ front ++ rest
  pub epoch_is : epoch_from from front ≡ epoch
  pub reached : end ≤ end_from at front

-- a run is the tail of a beginning
pub run_reached : (chunks : List Chunk) (at from epoch end : ℕ) → HasRun chunks epoch end → Reached chunks at from epoch end
run_reached [] at from epoch end h = absurd h
run_reached (c ∷ cs) at from epoch end (inl h) = record { front = c ∷ []; rest = cs; parts = refl; epoch_is = h.0; reached = h.1 }
run_reached (c ∷ cs) at from epoch end (inr h) =
    let more = run_reached cs (end_of_chunk c) c.epoch epoch end h in
    record { front = c ∷ more.front; rest = more.rest; parts = ap (λ (l : List Chunk). c ∷ l) more.parts; epoch_is = more.epoch_is; reached = more.reached }

-- a run of a log is not past its tail
pub run_within : (chunks : List Chunk) (epoch end : ℕ) → IsLog chunks → HasRun chunks epoch end → (epoch ≤ last_epoch chunks) × (end ≤ end_of chunks)
run_within chunks epoch end l h =
    let r = run_reached chunks 0 0 epoch end h in
    let whole : IsLog (r.front ++ r.rest) = subst IsLog r.parts l in
    let epochs = epoch_grows r.front r.rest whole in
    let ends = end_grows r.front r.rest whole in
    let same_epoch = ap last_epoch r.parts in
    let same_end = ap end_of r.parts in
    let epoch_is = r.epoch_is in
    let reached = r.reached in
    (omega arith, omega arith)
