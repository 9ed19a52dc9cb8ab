-- What an offer's confirm claims is true of the sequence after the offer, and stays true.
use Rattle.std.proofs.Common.{◌≡◌, ℕ, ◌+◌, ◌*◌, ◌^◌, ◌<◌, ◌≤◌, List, [], ◌∷◌, ◌++◌, length, map, take, drop, refl, sym, ap, ◌∙◌, subst, inl, inr, arith, Option, Some, None, Bool, true, false, cond, zero, suc}
use Rattle.std.specs.Prelude.{ℤ, ◌==◌, nat_lt, max}
use Rattle.std.specs.List.{AllByRecursion, All, flat_map, reduce}
use Rattle.std.proofs.lemmas.List.{append-nil, take-append-drop, length-drop}
use Rattle.std.proofs.lemmas.Grind.{flat_map-append}
use Rattle.std.proofs.lemmas.List.Elements.{recursion_from_All, All-head, All-tail}
use Rattle.std.proofs.lemmas.List.Sums.{sum_by-cons}
use Rattle.chunk_format.specs.declared.entry.Entry.{Entry}
use Rattle.chunk_format.specs.declared.chunk.ChunkKind.{ChunkKind}
use Rattle.chunk_format.specs.declared.chunk.ChunkKind.TheVariants.{User, Delta, Snapshot}
use Rattle.chunk_format.specs.declared.chunk.Chunk.{Chunk}
use Rattle.chunk_format.specs.Chunks.{IsChunk, HasRecords, entry_records, records_of, end_of_chunk}
use Rattle.chunk_format.specs.Tags.{Tag}
use Rattle.chunk_format.specs.LogRows.{Rows, rows_from, rows_by_kind, chunk_rows, first_tag, after_tag}
use Rattle.chunk_format.specs.Logs.{end_from, end_of, last_epoch, Linked, IsLog, opening_chunk, bare, bare_by, bare_of, is_within, bare_within, bare_in}
use Rattle.chunk_format.specs.ByName.{ids_of, Greatest, greater, AtMost}
use Rattle.chunk_format.proofs.LinkLaws.{end_join, linked_front, linked_behind, end_past}
use Rattle.chunk_format.proofs.NameLaws.{ids_join, reduce_join, greatest_join, at_most_left, at_most_right, at_most_grows}
use Rattle.chunk_format.proofs.BareLaws.{bare_join, bare_in_join, bare_in_stays}
use Rattle.epoch_coordinator.specs.Offers.{Item, is_new, rising_from, user_chunk, since_snapshot, snapshot_every, with_snapshot, most_entries, laid, chunk_count, offered_chunks}
use Rattle.replication_laws.specs.Events.{IsOffer}
use Rattle.replication_laws.specs.Confirms.{Stands, Caused}
use Rattle.replication_laws.proofs.Snapshots.{chunk_says, with_says, each_left, each_right, map_join, rising_fits}

-- ---- with a name: each id is reached

-- the chunks of an offer are enough for its items
pub back_fits : (n : ℕ) (items : List Item) → length items ≤ suc n * 4096 → length (drop most_entries items) ≤ n * 4096
back_fits n items h = (let e = length-drop 4096 items in omega (arith, e, h))

pub enough : (n : ℕ) → n ≤ chunk_count n * 4096
enough n = omega arith

-- what is laid out says just the items' ids, in order
laid_ids : (n epoch : ℕ) (stamp : ℤ) (x : ℕ) (name : List ℕ) (list : List Chunk) (items : List Item) → length items ≤ n * 4096 → length (x ∷ name) < 2 ^ 8 → AllByRecursion (λ (i : Item). i.id < 2 ^ 64) items
    → ids_of (x ∷ name) (laid n epoch stamp (x ∷ name) list items) ≡ map (λ (i : Item). i.id) items
laid_ids zero epoch stamp x name list [] h fits ids = refl
laid_ids zero epoch stamp x name list (i ∷ items) h fits ids = absurd (omega (arith, h))
laid_ids (suc n) epoch stamp x name list items h fits ids =
    let m = x ∷ name in
    let front = take most_entries items in
    let back = drop most_entries items in
    let parts : front ++ back ≡ items = take-append-drop most_entries items in
    let both : AllByRecursion (λ (i : Item). i.id < 2 ^ 64) (front ++ back) = subst (AllByRecursion (λ (i : Item). i.id < 2 ^ 64)) (sym parts) ids in
    let c = user_chunk epoch stamp m (end_of list) front in
    let chunks = with_snapshot list c in
    let one = with_says list c m front (chunk_says epoch stamp m (end_of list) front fits (each_left (λ (i : Item). i.id < 2 ^ 64) front back both)) in
    let own : ids_of m chunks ≡ map (λ (i : Item). i.id) front = elim one.own [ inl e ↦ absurd cc | inr e ↦ e ] in
    let rest = laid_ids n epoch stamp x name (list ++ chunks) back (back_fits n items h) fits (each_right (λ (i : Item). i.id < 2 ^ 64) front back both) in
    let more = laid n epoch stamp m (list ++ chunks) back in
    ids_join m chunks more ∙ (ap (λ (l : List ℕ). l ++ ids_of m more) own ∙ (ap (λ (l : List ℕ). map (λ (i : Item). i.id) front ++ l) rest
    ∙ (sym (map_join front back) ∙ ap (map (λ (i : Item). i.id)) parts)))

-- each id is at most the greatest before, or of an item that is taken
abbrev taken_ids : Option ℕ → List Item → List ℕ
taken_ids g items = map (λ (i : Item). i.id) (rising_from g items)

all_map : {A : Type 0} (P Q : A → Type 0) → ((x : A) → P x → Q x) → (xs : List A) → AllByRecursion P xs → AllByRecursion Q xs
all_map P Q f [] h = tt
all_map P Q f (x ∷ xs) h = (f x h.0, all_map P Q f xs h.1)

pub not_new : (g : Option ℕ) (id : ℕ) → is_new g id ≡ false → AtMost id g
not_new None id h = absurd cc
not_new (Some n) id h = le n id h
  where
    le : (a b : ℕ) → nat_lt a b ≡ false → b ≤ a
    le a b h = grind arith

reached : (g : Option ℕ) (items : List Item) → AllByRecursion (λ (id : ℕ). AtMost id (greater g (reduce max (taken_ids g items)))) (map (λ (i : Item). i.id) items)
reached g [] = tt
reached g (item ∷ more) = go (is_new g item.id) refl (reached (Some item.id) more) (reached g more)
  where
    go : (b : Bool) → is_new g item.id ≡ b
        → AllByRecursion (λ (id : ℕ). AtMost id (greater (Some item.id) (reduce max (taken_ids (Some item.id) more)))) (map (λ (i : Item). i.id) more)
        → AllByRecursion (λ (id : ℕ). AtMost id (greater g (reduce max (taken_ids g more)))) (map (λ (i : Item). i.id) more)
        → AllByRecursion (λ (id : ℕ). AtMost id (greater g (reduce max (map (λ (i : Item). i.id) (cond b (item ∷ rising_from (Some item.id) more) (rising_from g more)))))) (map (λ (i : Item). i.id) (item ∷ more))
    go false e next rest = (at_most_left item.id g (reduce max (taken_ids g more)) (not_new g item.id e), rest)
    go true e next rest =
        let ids = taken_ids (Some item.id) more in
        let top : reduce max (item.id ∷ ids) ≡ greater (Some item.id) (reduce max ids) = reduce_join (item.id ∷ []) ids in
        let up : (id : ℕ) → AtMost id (greater (Some item.id) (reduce max ids)) → AtMost id (greater g (reduce max (item.id ∷ ids))) = λ id h.
        at_most_right id g (reduce max (item.id ∷ ids)) (subst (AtMost id) (sym top) h) in
        (up item.id (at_most_left item.id (Some item.id) (reduce max ids) (omega arith)), all_map (λ (id : ℕ). AtMost id (greater (Some item.id) (reduce max ids))) (λ (id : ℕ). AtMost id (greater g (reduce max (item.id ∷ ids)))) up (map (λ (i : Item). i.id) more) next)

-- ---- without a name: each entry stands as it was offered

-- rows without tags are their entries
bare_rows : (at : ℕ) (entries : List Entry) (trailer : List ℕ) → trailer ≡ [] → flat_map bare (rows_from at entries trailer) ≡ entries
bare_rows at [] trailer none = refl
bare_rows at (e ∷ es) trailer none =
    let first : first_tag trailer ≡ None = ap first_tag none in
    let after : after_tag trailer ≡ [] = ap after_tag none in
    ap (λ (t : Option Tag). bare_by t e ++ flat_map bare (rows_from (at + entry_records e) es (after_tag trailer))) first
    ∙ ap (λ (l : List Entry). e ∷ l) (bare_rows (at + entry_records e) es (after_tag trailer) after)

chunk_bare : (epoch : ℕ) (stamp : ℤ) (first : ℕ) (items : List Item) → bare_of (user_chunk epoch stamp [] first items ∷ []) ≡ map (λ (i : Item). i.entry) items
chunk_bare epoch stamp first items =
    ap (flat_map bare) (append-nil (rows_from first (map (λ (i : Item). i.entry) items) [])) ∙ bare_rows first (map (λ (i : Item). i.entry) items) [] refl

with_bare : (list : List Chunk) (c : Chunk) → bare_of (with_snapshot list c) ≡ bare_of (c ∷ [])
with_bare list c = go (since_snapshot (list ++ c ∷ []) == snapshot_every)
  where
    shot : Chunk
    shot = opening_chunk c.epoch c.stamp (list ++ c ∷ [])

    go : (b : Bool) → bare_of (cond b (c ∷ shot ∷ []) (c ∷ [])) ≡ bare_of (c ∷ [])
    go false = refl
    go true = bare_join (c ∷ []) (shot ∷ []) ∙ append-nil (bare_of (c ∷ []))

entries_join : (a b : List Item) → map (λ (i : Item). i.entry) (a ++ b) ≡ map (λ (i : Item). i.entry) a ++ map (λ (i : Item). i.entry) b
entries_join [] b = refl
entries_join (x ∷ a) b = ap (λ (l : List Entry). x.entry ∷ l) (entries_join a b)

pub laid_bare : (n epoch : ℕ) (stamp : ℤ) (list : List Chunk) (items : List Item) → length items ≤ n * 4096 → bare_of (laid n epoch stamp [] list items) ≡ map (λ (i : Item). i.entry) items
laid_bare zero epoch stamp list [] h = refl
laid_bare zero epoch stamp list (i ∷ items) h = absurd (omega (arith, h))
laid_bare (suc n) epoch stamp list items h =
    let front = take most_entries items in
    let back = drop most_entries items in
    let parts : front ++ back ≡ items = take-append-drop most_entries items in
    let c = user_chunk epoch stamp [] (end_of list) front in
    let chunks = with_snapshot list c in
    let more = laid n epoch stamp [] (list ++ chunks) back in
    bare_join chunks more ∙ (ap (λ (l : List Entry). l ++ bare_of more) (with_bare list c ∙ chunk_bare epoch stamp (end_of list) front)
    ∙ (ap (λ (l : List Entry). map (λ (i : Item). i.entry) front ++ l) (laid_bare n epoch stamp (list ++ chunks) back (back_fits n items h))
    ∙ (sym (entries_join front back) ∙ ap (map (λ (i : Item). i.entry)) parts)))

inside : (from to at : ℕ) → from ≤ at → at < to → is_within from to at ≡ true
inside from to at h k = grind arith

before : (from to at : ℕ) → at < from → is_within from to at ≡ false
before from to at h = grind arith

rows_inside : (from to at : ℕ) (entries : List Entry) (trailer : List ℕ) → All HasRecords entries → from ≤ at → at + records_of entries ≤ to → flat_map (bare_within from to) (rows_from at entries trailer) ≡ flat_map bare (rows_from at entries trailer)
rows_inside from to at [] trailer r h k = refl
rows_inside from to at (e ∷ es) trailer r h k =
    let some : 1 ≤ entry_records e = All-head HasRecords e es r in
    let sum = sum_by-cons entry_records e es in
    ap (λ (b : Bool). cond b (bare_by (first_tag trailer) e) [] ++ flat_map (bare_within from to) (rows_from (at + entry_records e) es (after_tag trailer))) (inside from to at h (omega (arith, sum, some, k)))
    ∙ ap (λ (l : List Entry). bare_by (first_tag trailer) e ++ l) (rows_inside from to (at + entry_records e) es (after_tag trailer) (All-tail HasRecords e es r) (omega (arith, h)) (omega (arith, sum, k)))

rows_before : (from to at : ℕ) (entries : List Entry) (trailer : List ℕ) → All HasRecords entries → at + records_of entries ≤ from → flat_map (bare_within from to) (rows_from at entries trailer) ≡ []
rows_before from to at [] trailer r h = refl
rows_before from to at (e ∷ es) trailer r h =
    let some : 1 ≤ entry_records e = All-head HasRecords e es r in
    let sum = sum_by-cons entry_records e es in
    ap (λ (b : Bool). cond b (bare_by (first_tag trailer) e) [] ++ flat_map (bare_within from to) (rows_from (at + entry_records e) es (after_tag trailer))) (before from to at (omega (arith, sum, some, h)))
    ∙ rows_before from to (at + entry_records e) es (after_tag trailer) (All-tail HasRecords e es r) (omega (arith, sum, h))

kind_inside : (from to : ℕ) (kind : ChunkKind) (c : Chunk) → IsChunk c → from ≤ c.first → end_of_chunk c ≤ to → flat_map (bare_within from to) (rows_by_kind kind c) ≡ flat_map bare (rows_by_kind kind c)
kind_inside from to User c is h k = rows_inside from to c.first c.entries c.trailer is.recorded h k
kind_inside from to Delta c is h k = refl
kind_inside from to Snapshot c is h k = refl

kind_before : (from to : ℕ) (kind : ChunkKind) (c : Chunk) → IsChunk c → end_of_chunk c ≤ from → flat_map (bare_within from to) (rows_by_kind kind c) ≡ []
kind_before from to User c is h = rows_before from to c.first c.entries c.trailer is.recorded h
kind_before from to Delta c is h = refl
kind_before from to Snapshot c is h = refl

all_inside : (from to at epoch : ℕ) (chunks : List Chunk) → Linked at epoch chunks → from ≤ at → end_from at chunks ≤ to → bare_in from to chunks ≡ bare_of chunks
all_inside from to at epoch [] l h k = refl
all_inside from to at epoch (c ∷ cs) l h k =
    let begins = l.begins in
    let past = end_past (end_of_chunk c) c.epoch cs l.behind in
    flat_map-append (bare_within from to) (chunk_rows c) (Rows cs)
    ∙ (ap (λ (x : List Entry). x ++ bare_in from to cs) (kind_inside from to c.kind c l.is (omega (arith, begins, h)) (omega (arith, past, k)))
    ∙ (ap (λ (x : List Entry). flat_map bare (chunk_rows c) ++ x) (all_inside from to (end_of_chunk c) c.epoch cs l.behind (omega (arith, begins, h)) k)
    ∙ sym (flat_map-append bare (chunk_rows c) (Rows cs))))

all_before : (from to at epoch : ℕ) (chunks : List Chunk) → Linked at epoch chunks → end_from at chunks ≤ from → bare_in from to chunks ≡ []
all_before from to at epoch [] l h = refl
all_before from to at epoch (c ∷ cs) l h =
    let past = end_past (end_of_chunk c) c.epoch cs l.behind in
    flat_map-append (bare_within from to) (chunk_rows c) (Rows cs)
    ∙ (ap (λ (x : List Entry). x ++ bare_in from to cs) (kind_before from to c.kind c l.is (omega (arith, past, h)))
    ∙ all_before from to (end_of_chunk c) c.epoch cs l.behind h)

-- ---- both

-- after an offer its claim is true of the sequence
pub offer_caused : (epoch : ℕ) (stamp : ℤ) (name : List ℕ) (list : List Chunk) (items : List Item) → IsOffer name items → IsLog (list ++ offered_chunks epoch stamp name list items)
    → Caused name (map (λ (i : Item). i.id) items) (map (λ (i : Item). i.entry) items) (end_of list) (end_of (list ++ offered_chunks epoch stamp name list items)) (list ++ offered_chunks epoch stamp name list items)
offer_caused epoch stamp [] list items right is =
    let chunks = offered_chunks epoch stamp [] list items in
    let from = end_of list in
    let to = end_of (list ++ chunks) in
    let ends = end_join 0 list chunks in
    sym (bare_in_join from to list chunks
    ∙ (ap (λ (l : List Entry). l ++ bare_in from to chunks) (all_before from to 0 0 list (linked_front 0 0 list chunks is) (omega arith))
    ∙ (all_inside from to from (last_epoch list) chunks (linked_behind 0 0 list chunks is) (omega arith) (omega (arith, ends))
    ∙ laid_bare (chunk_count (length items)) epoch stamp list items (enough (length items)))))
offer_caused epoch stamp (x ∷ name) list items right is =
    let n = x ∷ name in
    let g = Greatest n list in
    let taken = rising_from g items in
    let fits = rising_fits g items (recursion_from_All (λ (i : Item). i.id < 2 ^ 64) items right.ids_fit) in
    let chunks = offered_chunks epoch stamp n list items in
    let ids : ids_of n chunks ≡ map (λ (i : Item). i.id) taken = laid_ids (chunk_count (length taken)) epoch stamp x name list taken (enough (length taken)) right.name_fits fits in
    let top : Greatest n (list ++ chunks) ≡ greater g (reduce max (taken_ids g items)) = greatest_join n list chunks ∙ ap (λ (l : List ℕ). greater g (reduce max l)) ids in
    all_map (λ (id : ℕ). AtMost id (greater g (reduce max (taken_ids g items)))) (λ (id : ℕ). AtMost id (Greatest n (list ++ chunks))) (λ id h. subst (AtMost id) (sym top) h) (map (λ (i : Item). i.id) items) (reached g items)

-- where it stands in a list, it is true of the list
pub caused_stands : (name ids : List ℕ) (entries : List Entry) (from end : ℕ) (list : List Chunk) → IsLog list → Stands (Caused name ids entries from end) end list → Caused name ids entries from end list
caused_stands [] ids entries from end list is h =
    let parts = h.begins.1 in
    let e = h.end_is in
    h.says ∙ (sym (bare_in_stays from end h.front h.begins.0 (subst IsLog parts is) (omega (arith, e))) ∙ ap (bare_in from end) (sym parts))
caused_stands (x ∷ name) ids entries from end list is h =
    all_map (λ (id : ℕ). AtMost id (Greatest (x ∷ name) h.front)) (λ (id : ℕ). AtMost id (Greatest (x ∷ name) list))
    (λ id k. subst (λ (l : List Chunk). AtMost id (Greatest (x ∷ name) l)) (sym h.begins.1) (at_most_grows id (x ∷ name) h.front h.begins.0 k)) ids h.says
