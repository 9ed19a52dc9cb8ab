-- The rows of one chunk more, and the ids of its tags.
use Rattle.std.proofs.Common.{◌≡◌, ℕ, ◌+◌, ◌<◌, ◌≤◌, Bool, true, false, cond, List, [], ◌∷◌, ◌++◌, map, length, max, Option, Some, None, refl, sym, ap, subst, ◌∙◌, arith}
use Rattle.std.specs.List.{flat_map, All, AllByRecursion, reduce}
use Rattle.std.proofs.lemmas.List.{append-nil, length-map}
use Rattle.std.proofs.lemmas.List.Elements.{All-head, All-tail, All-cons, All-nil}
use Rattle.std.proofs.lemmas.List.Sums.{sum_by-cons}
use Rattle.std.proofs.lemmas.Grind.{flat_map-append}
use Rattle.chunk_format.specs.declared.entry.Entry.{Entry}
use Rattle.chunk_format.specs.declared.chunk.ChunkKind.{ChunkKind}
use Rattle.chunk_format.specs.declared.chunk.ChunkKind.TheVariants.{User, Delta, Snapshot}
use Rattle.chunk_format.specs.declared.chunk.Chunk.{Chunk}
use Rattle.chunk_format.specs.Chunks.{end_of_chunk, entry_records, records_of, HasRecords, IsChunk}
use Rattle.chunk_format.specs.Tags.{Tag, IsName, IsTagOf, SpellsTags, tag_bytes}
use Rattle.chunk_format.specs.LogRows.{Rows, rows_from, rows_by_kind, chunk_rows, first_tag, after_tag}
use Rattle.chunk_format.specs.Logs.{end_from, end_of, Linked, IsLog, is_within, bare_by, bare_within, bare_in}
use Rattle.chunk_format.specs.ByName.{id_by, ids_of, Greatest, AtMost}
use Rattle.chunk_format.proofs.LinkLaws.{end_past}
use Rattle.chunk_format.proofs.NameLaws.{same_self, greatest_join, at_most_grows, at_most_right, each_at_most, each_map}
use Rattle.chunk_format.proofs.TagRows.{tag_of_row, ids_by_tags, one_rows, user_tags}
use Rattle.command_data.specs.declared.item.Tagged.{Tagged}
use Rattle.stream_terms.specs.Steps.{item_id, item_entry}
use Rattle.memory_stream.specs.Chosen.{is_new, new_items, tag_for, HasId}

-- ---- rows without a tag

before_from : (from to at : ℕ) → at < from → is_within from to at ≡ false
before_from from to at h = grind arith

inside : (from to at : ℕ) → from ≤ at → at < to → is_within from to at ≡ true
inside from to at h k = grind arith

none_rows : (from to at : ℕ) (entries : List Entry) (trailer : List ℕ) → All HasRecords entries → at + records_of entries ≤ from → flat_map (bare_within from to) (rows_from at entries trailer) ≡ []
none_rows from to at [] trailer each h = refl
none_rows from to at (entry ∷ entries) trailer each h =
    let one : 1 ≤ entry_records entry = All-head HasRecords entry entries each in
    let sum = sum_by-cons entry_records entry entries in
    ap (λ (b : Bool). cond b (bare_by (first_tag trailer) entry) [] ++ flat_map (bare_within from to) (rows_from (at + entry_records entry) entries (after_tag trailer))) (before_from from to at (omega (arith, one, sum, h)))
    ∙ none_rows from to (at + entry_records entry) entries (after_tag trailer) (All-tail HasRecords entry entries each) (omega (arith, sum, h))

none_chunk : (from to : ℕ) (kind : ChunkKind) (c : Chunk) → IsChunk c → end_of_chunk c ≤ from → flat_map (bare_within from to) (rows_by_kind kind c) ≡ []
none_chunk from to User c is h = none_rows from to c.first c.entries c.trailer is.recorded h
none_chunk from to Delta c is h = refl
none_chunk from to Snapshot c is h = refl

-- no row of a list lies at its end or later
none_before : (from to at epoch : ℕ) (cs : List Chunk) → Linked at epoch cs → end_from at cs ≤ from → bare_in from to cs ≡ []
none_before from to at epoch [] l h = refl
none_before from to at epoch (c ∷ cs) l h =
    let past = end_past (end_of_chunk c) c.epoch cs l.behind in
    flat_map-append (bare_within from to) (chunk_rows c) (Rows cs)
    ∙ ap (λ (x : List Entry). x ++ bare_in from to cs) (none_chunk from to c.kind c l.is (omega (arith, past, h)))
    ∙ none_before from to (end_of_chunk c) c.epoch cs l.behind h

all_rows : (from to at : ℕ) (entries : List Entry) → All HasRecords entries → from ≤ at → at + records_of entries ≤ to → flat_map (bare_within from to) (rows_from at entries []) ≡ entries
all_rows from to at [] each f h = refl
all_rows from to at (entry ∷ entries) each f h =
    let one : 1 ≤ entry_records entry = All-head HasRecords entry entries each in
    let sum = sum_by-cons entry_records entry entries in
    ap (λ (b : Bool). cond b (entry ∷ []) [] ++ flat_map (bare_within from to) (rows_from (at + entry_records entry) entries [])) (inside from to at f (omega (arith, one, sum, h)))
    ∙ ap (λ (es : List Entry). entry ∷ es) (all_rows from to (at + entry_records entry) entries (All-tail HasRecords entry entries each) (omega (arith, f)) (omega (arith, sum, h)))

-- the untagged rows of a new chunk's range are its entries
pub rows_more : (cs : List Chunk) (c : Chunk) → IsLog cs → IsChunk c → c.first ≡ end_of cs → c.kind ≡ User → c.trailer ≡ [] → bare_in (end_of cs) (end_of_chunk c) (cs ++ c ∷ []) ≡ c.entries
rows_more cs c l is f kind trailer =
    let from = end_of cs in
    let to = end_of_chunk c in
    let one : flat_map (bare_within from to) (chunk_rows c) ≡ c.entries =
    ap (λ (k : ChunkKind). flat_map (bare_within from to) (rows_by_kind k c)) kind
    ∙ ap (λ (t : List ℕ). flat_map (bare_within from to) (rows_from c.first c.entries t)) trailer
    ∙ all_rows from to c.first c.entries is.recorded (omega (arith, f)) (omega arith) in
    ap (flat_map (bare_within from to)) (flat_map-append chunk_rows cs (c ∷ []))
    ∙ flat_map-append (bare_within from to) (Rows cs) (Rows (c ∷ []))
    ∙ ap (λ (x : List Entry). x ++ flat_map (bare_within from to) (chunk_rows c ++ [])) (none_before from to 0 0 cs l (omega arith))
    ∙ ap (flat_map (bare_within from to)) (append-nil (chunk_rows c))
    ∙ one

-- ---- ids of tags

abbrev tags_for : List ℕ → List Tagged → List Tag
tags_for name items = map (tag_for name) items

are_tags : (name : List ℕ) (items : List Tagged) → IsName name → AllByRecursion HasId items → All (IsTagOf name) (tags_for name items)
are_tags name [] is ids = All-nil (IsTagOf name)
are_tags name (t ∷ ts) is ids = All-cons (IsTagOf name) (tag_for name t) (tags_for name ts) (refl, (is, ids.0)) (are_tags name ts is ids.1)

spelled_tags : (name : List ℕ) (items : List Tagged) → flat_map (λ (t : Tagged). tag_bytes (tag_for name t)) items ≡ flat_map tag_bytes (tags_for name items)
spelled_tags name [] = refl
spelled_tags name (t ∷ ts) = ap (λ (l : List ℕ). tag_bytes (tag_for name t) ++ l) (spelled_tags name ts)

ids_by : (name : List ℕ) (items : List Tagged) → flat_map (id_by name) (map Some (tags_for name items)) ≡ map item_id items
ids_by name [] = refl
ids_by name (t ∷ ts) =
    ap (λ (b : Bool). cond b (t.id ∷ []) [] ++ flat_map (id_by name) (map Some (tags_for name ts))) (same_self name) ∙ ap (λ (l : List ℕ). t.id ∷ l) (ids_by name ts)

-- the ids of a name in a chunk that was made of its items
pub ids_made : (name : List ℕ) (items : List Tagged) (c : Chunk) → IsName name → AllByRecursion HasId items → c.kind ≡ User → c.entries ≡ map item_entry items → c.trailer ≡ flat_map (λ (t : Tagged). tag_bytes (tag_for name t)) items
    → ids_of name (c ∷ []) ≡ map item_id items
ids_made name items c is ids kind entries trailer =
    let tags = tags_for name items in
    let count : length tags ≡ length items = length-map items (tag_for name) in
    let entries_count : length c.entries ≡ length items = ap length entries ∙ length-map items item_entry in
    let spells : SpellsTags (length c.entries) c.trailer tags = record { right = ((name, are_tags name items is ids), omega (arith, count, entries_count)); whole = omega (arith, count, entries_count); spelled = trailer ∙ spelled_tags name items } in
    ids_by_tags name (c ∷ []) ∙ ap (flat_map (id_by name)) (ap (map tag_of_row) (one_rows c) ∙ user_tags c tags kind spells) ∙ ids_by name items

-- ---- all ids of an offer are at most the greatest, once its new items stand in the list

below_too : (f : Option ℕ) (a id : ℕ) → AtMost a f → id ≤ a → AtMost id f
below_too None a id h le = h
below_too (Some greatest) a id h le = omega (arith, h, le)

old_at_most : (g : Option ℕ) (id : ℕ) → is_new g id ≡ false → AtMost id g
old_at_most None id e = absurd cc
old_at_most (Some greatest) id e = grind (arith, e)

bounded_by : (b : Bool) (f g : Option ℕ) (t : Tagged) (ts kept : List Tagged) → is_new g t.id ≡ b → ((id : ℕ) → AtMost id g → AtMost id f)
    → (((id : ℕ) → AtMost id (Some t.id) → AtMost id f) → AllByRecursion (λ (id : ℕ). AtMost id f) (map item_id (new_items (Some t.id) ts)) → AllByRecursion (λ (id : ℕ). AtMost id f) (map item_id ts))
    → (AllByRecursion (λ (id : ℕ). AtMost id f) (map item_id (new_items g ts)) → AllByRecursion (λ (id : ℕ). AtMost id f) (map item_id ts))
    → AllByRecursion (λ (id : ℕ). AtMost id f) (map item_id (cond b (t ∷ new_items (Some t.id) ts) (new_items g ts))) → AllByRecursion (λ (id : ℕ). AtMost id f) (map item_id (t ∷ ts))
bounded_by true f g t ts kept e below newer older h = (h.0, newer (λ id q. below_too f t.id id h.0 q) h.1)
bounded_by false f g t ts kept e below newer older h = (below t.id (old_at_most g t.id e), older h)

pub bounded : (f g : Option ℕ) (items : List Tagged) → ((id : ℕ) → AtMost id g → AtMost id f) → AllByRecursion (λ (id : ℕ). AtMost id f) (map item_id (new_items g items)) → AllByRecursion (λ (id : ℕ). AtMost id f) (map item_id items)
bounded f g [] below h = tt
bounded f g (t ∷ ts) below h = bounded_by (is_new g t.id) f g t ts ts refl below (bounded f (Some t.id) ts) (bounded f g ts below) h

pub ids_at_most : (name : List ℕ) (cs : List Chunk) (c : Chunk) (items kept : List Tagged) → kept ≡ new_items (Greatest name cs) items → ids_of name (c ∷ []) ≡ map item_id kept
    → AllByRecursion (λ (id : ℕ). AtMost id (Greatest name (cs ++ c ∷ []))) (map item_id items)
ids_at_most name cs c items kept is ids =
    let f = Greatest name (cs ++ c ∷ []) in
    let new : AllByRecursion (λ (id : ℕ). AtMost id (Greatest name (c ∷ []))) (map item_id kept) =
    subst (λ (l : List ℕ). AllByRecursion (λ (id : ℕ). AtMost id (reduce max l)) (map item_id kept)) (sym ids) (each_at_most (map item_id kept)) in
    let joined : AllByRecursion (λ (id : ℕ). AtMost id f) (map item_id kept) =
    each_map (λ (id : ℕ). AtMost id (Greatest name (c ∷ []))) (λ (id : ℕ). AtMost id f) (λ id q. subst (λ (o : Option ℕ). AtMost id o) (sym (greatest_join name cs (c ∷ []))) (at_most_right id (Greatest name cs) (Greatest name (c ∷ [])) q)) (map item_id kept) new in
    bounded f (Greatest name cs) items (λ id q. at_most_grows id name cs (c ∷ []) q) (subst (λ (l : List Tagged). AllByRecursion (λ (id : ℕ). AtMost id f) (map item_id l)) is joined)
