-- What the added chunks are.
use Rattle.std.proofs.Common.{◌≡◌, ℕ, zero, suc, Bool, true, false, cond, List, [], ◌∷◌, ◌++◌, length, take, drop, refl}
use Rattle.std.specs.Prelude.{ℤ, ◌==◌}
use Rattle.std.specs.List.{AllByRecursion}
use Rattle.std.proofs.lemmas.List.Elements.{All-from_recursion, All-head}
use Rattle.chunk_format.specs.declared.chunk.Chunk.{Chunk}
use Rattle.chunk_format.specs.declared.chunk.ChunkKind.{ChunkKind}
use Rattle.chunk_format.specs.declared.chunk.ChunkKind.TheVariants.{User, Delta, Snapshot}
use Rattle.chunk_format.specs.Chunks.{IsEntry, IsChunk}
use Rattle.chunk_format.specs.Logs.{end_of, opening_chunk}
use Rattle.chunk_format.specs.ByName.{snapshot_entry_of}
use Rattle.chunk_format.proofs.SnapshotLaws.{opening_right}
use Rattle.command_data.specs.declared.item.Tagged.{Tagged}
use Rattle.epoch_coordinator.specs.Members.{MemberState, sequence_of}
use Rattle.epoch_coordinator.specs.MemberSteps.{stamp_at}
use Rattle.epoch_coordinator.specs.Offers.{Item, user_chunk, offset_chunk, since_snapshot, snapshot_every, with_snapshot, most_entries, laid, chunk_count}
use Rattle.stream_terms.specs.Steps.{no_delta}
use Rattle.leader_offers.specs.Adds.{taken_items, offer_adds, offset_adds, HasRoom, HasRoomBy}
use Rattle.chunk_format.proofs.NameLaws.{each_join}
use Rattle.replication_laws.proofs.Snapshots.{each_left, each_right}

-- ---- a spelling

spelled : (k : ChunkKind) (c : Chunk) → (k ≡ Snapshot → ⊥) → HasRoomBy k c → IsChunk c
spelled User c not room = room
spelled Delta c not room = room
spelled Snapshot c not room = absurd (not refl)

opening_spelled : (list : List Chunk) (c : Chunk) → AllByRecursion IsChunk list → IsChunk c → HasRoom (opening_chunk c.epoch c.stamp (list ++ c ∷ [])) → IsChunk (opening_chunk c.epoch c.stamp (list ++ c ∷ []))
opening_spelled list c all is room =
    let after = list ++ c ∷ [] in
    opening_right c.epoch c.stamp after (All-from_recursion IsChunk after (each_join IsChunk list (c ∷ []) all (is, tt))) is.stamp_fits is.epoch_fits room.1 (All-head IsEntry (snapshot_entry_of after) [] room.0)

with_spelled : (list : List Chunk) (c : Chunk) → (c.kind ≡ Snapshot → ⊥) → AllByRecursion IsChunk list → AllByRecursion HasRoom (with_snapshot list c) → AllByRecursion IsChunk (with_snapshot list c)
with_spelled list c not all room = by (since_snapshot (list ++ c ∷ []) == snapshot_every) room
  where
    shot : Chunk
    shot = opening_chunk c.epoch c.stamp (list ++ c ∷ [])

    by : (b : Bool) → AllByRecursion HasRoom (cond b (c ∷ shot ∷ []) (c ∷ [])) → AllByRecursion IsChunk (cond b (c ∷ shot ∷ []) (c ∷ []))
    by true r = let is = spelled c.kind c not r.0 in (is, (opening_spelled list c all is r.1.0, tt))
    by false r = (spelled c.kind c not r.0, tt)

user_no : User ≡ Snapshot → ⊥
user_no is = absurd cc

delta_no : Delta ≡ Snapshot → ⊥
delta_no is = absurd cc

laid_spelled : (n epoch : ℕ) (stamp : ℤ) (name : List ℕ) (list : List Chunk) (items : List Item) → AllByRecursion IsChunk list → AllByRecursion HasRoom (laid n epoch stamp name list items) → AllByRecursion IsChunk (laid n epoch stamp name list items)
laid_spelled zero epoch stamp name list items all room = tt
laid_spelled (suc n) epoch stamp name list items all room =
    let c = user_chunk epoch stamp name (end_of list) (take most_entries items) in
    let chunks = with_snapshot list c in
    let more = laid n epoch stamp name (list ++ chunks) (drop most_entries items) in
    let first = with_spelled list c user_no all (each_left HasRoom chunks more room) in
    each_join IsChunk chunks more first (laid_spelled n epoch stamp name (list ++ chunks) (drop most_entries items) (each_join IsChunk list chunks all first) (each_right HasRoom chunks more room))

pub offer_spelled : (m : MemberState) (name : List ℕ) (items : List Tagged) (now : ℕ) → AllByRecursion IsChunk (sequence_of m) → AllByRecursion HasRoom (offer_adds m name items now) → AllByRecursion IsChunk (offer_adds m name items now)
offer_spelled m name items now all room = let kept = taken_items m name items in laid_spelled (chunk_count (length kept)) m.promise (stamp_at now) name (sequence_of m) kept all room

pub offset_spelled : (m : MemberState) (name : List ℕ) (offset now : ℕ) → AllByRecursion IsChunk (sequence_of m) → AllByRecursion HasRoom (offset_adds m name offset now) → AllByRecursion IsChunk (offset_adds m name offset now)
offset_spelled m name offset now all room = with_spelled (sequence_of m) (offset_chunk m.promise (stamp_at now) name offset (end_of (sequence_of m))) delta_no all room

-- ---- kinds

with_kinds : (P : Chunk → Type 0) (list : List Chunk) (c : Chunk) → P c → P (opening_chunk c.epoch c.stamp (list ++ c ∷ [])) → AllByRecursion P (with_snapshot list c)
with_kinds P list c p q = by (since_snapshot (list ++ c ∷ []) == snapshot_every)
  where
    by : (b : Bool) → AllByRecursion P (cond b (c ∷ opening_chunk c.epoch c.stamp (list ++ c ∷ []) ∷ []) (c ∷ []))
    by true = (p, (q, tt))
    by false = (p, tt)

laid_kinds : (n epoch : ℕ) (stamp : ℤ) (name : List ℕ) (list : List Chunk) (items : List Item) → AllByRecursion (λ (c : Chunk). no_delta c.kind ≡ true) (laid n epoch stamp name list items)
laid_kinds zero epoch stamp name list items = tt
laid_kinds (suc n) epoch stamp name list items =
    let P : Chunk → Type 0 = λ (c : Chunk). no_delta c.kind ≡ true in
    let c = user_chunk epoch stamp name (end_of list) (take most_entries items) in
    let chunks = with_snapshot list c in
    each_join P chunks (laid n epoch stamp name (list ++ chunks) (drop most_entries items)) (with_kinds P list c refl refl) (laid_kinds n epoch stamp name (list ++ chunks) (drop most_entries items))

pub offer_kinds : (m : MemberState) (name : List ℕ) (items : List Tagged) (now : ℕ) → AllByRecursion (λ (c : Chunk). no_delta c.kind ≡ true) (offer_adds m name items now)
offer_kinds m name items now = let kept = taken_items m name items in laid_kinds (chunk_count (length kept)) m.promise (stamp_at now) name (sequence_of m) kept

with_behind : (list : List Chunk) (c : Chunk) → (snapshots : List Chunk) × (with_snapshot list c ≡ c ∷ snapshots) × AllByRecursion (λ (d : Chunk). d.kind ≡ Snapshot) snapshots
with_behind list c = by (since_snapshot (list ++ c ∷ []) == snapshot_every)
  where
    shot : Chunk
    shot = opening_chunk c.epoch c.stamp (list ++ c ∷ [])

    by : (b : Bool) → (snapshots : List Chunk) × (cond b (c ∷ shot ∷ []) (c ∷ []) ≡ c ∷ snapshots) × AllByRecursion (λ (d : Chunk). d.kind ≡ Snapshot) snapshots
    by true = (shot ∷ [], refl, (refl, tt))
    by false = ([], refl, tt)

pub offset_kinds : (m : MemberState) (name : List ℕ) (offset now : ℕ) → (snapshots : List Chunk) × (offset_adds m name offset now ≡ offset_chunk m.promise (stamp_at now) name offset (end_of (sequence_of m)) ∷ snapshots) × AllByRecursion (λ (d : Chunk). d.kind ≡ Snapshot) snapshots
offset_kinds m name offset now = with_behind (sequence_of m) (offset_chunk m.promise (stamp_at now) name offset (end_of (sequence_of m)))
