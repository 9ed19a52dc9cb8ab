-- What a snapshot lists: after a chunk that says nothing by name, and that it has a spelling.
use Rattle.std.proofs.Common.{◌≡◌, ℕ, ◌+◌, ◌^◌, ◌<◌, max, Bool, true, false, cond, not, ◌==◌, filter, List, [], ◌∷◌, ◌++◌, map, length, Option, Some, None, unwrap_or, refl, ap, ◌∙◌, arith}
use Rattle.std.specs.Prelude.{ℤ}
use Rattle.std.specs.Int.{w64}
use Rattle.std.specs.Int.RustNames.{FitsSigned}
use Rattle.std.specs.List.{find, fold, reduce, last_or, list_any, All, AllByRecursion}
use Rattle.std.specs.Option.{option_map, option_or}
use Rattle.std.proofs.lemmas.List.{append-nil}
use Rattle.std.proofs.lemmas.List.Elements.{All-from_recursion, recursion_from_All, All-cons, All-nil}
use Rattle.std.proofs.lemmas.List.Folds.{find-append}
use Rattle.chunk_format.specs.declared.entry.Entry.{Entry}
use Rattle.chunk_format.specs.declared.entry.Entry.TheVariants.{Simple}
use Rattle.chunk_format.specs.declared.chunk.ChunkKind.TheVariants.{Snapshot}
use Rattle.chunk_format.specs.declared.chunk.Chunk.{Chunk}
use Rattle.chunk_format.specs.Tags.{IsName, SnapshotEntry, SnapshotSequence, SnapshotOffset, IsSnapshot}
use Rattle.chunk_format.specs.Chunks.{IsEntry, HasRecords, entry_bytes, IsChunk}
use Rattle.chunk_format.specs.ByName.{same_name, first_seen, ids_of, Greatest, tag_names, has_id, first_with, sequence_item, sequence_items, offsets_of, stored_names, offset_item, offset_items, snapshot_items, snapshot_body}
use Rattle.chunk_format.specs.Logs.{end_of, opening_chunk}
use Rattle.chunk_format.proofs.Sizes.{simple_length}
use Rattle.chunk_format.proofs.NameLaws.{ids_join, tag_names_join, offsets_join, stored_names_join, each_join}
use Rattle.chunk_format.proofs.TagRows.{Untagged, untagged_snapshot, tag_names_right, ids_fit}
use Rattle.chunk_format.proofs.DeltaRows.{Unstored, unstored_snapshot, stored_names_right, offsets_fit}

-- ---- a chunk that says nothing by name

pub map_agree : {A B : Type 0} (f g : A → B) → ((x : A) → f x ≡ g x) → (xs : List A) → map f xs ≡ map g xs
map_agree f g same [] = refl
map_agree {A} {B} f g same (x ∷ xs) = ap (λ (y : B). y ∷ map f xs) (same x) ∙ ap (λ (l : List B). g x ∷ l) (map_agree f g same xs)

found_by : (b : Bool) (c : Chunk) (o : Option Chunk) → b ≡ false → option_or o (cond b (Some c) None) ≡ o
found_by b c None e = ap (λ (s : Bool). cond s (Some c) None) e
found_by b c (Some d) e = refl

-- a chunk without this id is not the first with it, where it comes last
pub first_with_stays : (name : List ℕ) (id : ℕ) (chunks : List Chunk) (c : Chunk) → has_id name id c ≡ false → first_with name id (chunks ++ c ∷ []) ≡ first_with name id chunks
first_with_stays name id chunks c none =
    ap (option_map (λ (d : Chunk). d.first)) (find-append (has_id name id) chunks (c ∷ []) ∙ found_by (has_id name id c) c (find (has_id name id) chunks) none)

pub ids_stay : (name : List ℕ) (chunks : List Chunk) (c : Chunk) → ids_of name (c ∷ []) ≡ [] → ids_of name (chunks ++ c ∷ []) ≡ ids_of name chunks
ids_stay name chunks c none = ids_join name chunks (c ∷ []) ∙ ap (λ (l : List ℕ). ids_of name chunks ++ l) none ∙ append-nil (ids_of name chunks)

-- what a snapshot says of a name stays where a chunk has no id of it
pub sequence_stays : (name : List ℕ) (chunks : List Chunk) (c : Chunk) → ids_of name (c ∷ []) ≡ [] → sequence_item (chunks ++ c ∷ []) name ≡ sequence_item chunks name
sequence_stays name chunks c none =
    let greatest : Greatest name (chunks ++ c ∷ []) ≡ Greatest name chunks = ap (λ (l : List ℕ). reduce max l) (ids_stay name chunks c none) in
    let id = unwrap_or (Greatest name chunks) 0 in
    let first : first_with name id (chunks ++ c ∷ []) ≡ first_with name id chunks = first_with_stays name id chunks c (ap (list_any (λ other. other == id)) none) in
    ap (λ (o : Option ℕ). SnapshotSequence name (unwrap_or (first_with name (unwrap_or o 0) (chunks ++ c ∷ [])) 0) (unwrap_or o 0)) greatest
    ∙ ap (λ (o : Option ℕ). SnapshotSequence name (unwrap_or o 0) id) first

pub sequences_stay : (chunks : List Chunk) (c : Chunk) → Untagged c → sequence_items (chunks ++ c ∷ []) ≡ sequence_items chunks
sequences_stay chunks c un =
    let names : tag_names (chunks ++ c ∷ []) ≡ tag_names chunks = tag_names_join chunks (c ∷ []) ∙ ap (λ (l : List (List ℕ)). tag_names chunks ++ l) un.no_names ∙ append-nil (tag_names chunks) in
    ap (λ (l : List (List ℕ)). map (sequence_item (chunks ++ c ∷ [])) (first_seen l)) names
    ∙ map_agree (sequence_item (chunks ++ c ∷ [])) (sequence_item chunks) (λ name. sequence_stays name chunks c (un.no_ids name)) (first_seen (tag_names chunks))

-- the same of a stored offset
pub offset_stays : (name : List ℕ) (chunks : List Chunk) (c : Chunk) → offsets_of name (c ∷ []) ≡ [] → offset_item (chunks ++ c ∷ []) name ≡ offset_item chunks name
offset_stays name chunks c none =
    let offsets : offsets_of name (chunks ++ c ∷ []) ≡ offsets_of name chunks = offsets_join name chunks (c ∷ []) ∙ ap (λ (l : List ℕ). offsets_of name chunks ++ l) none ∙ append-nil (offsets_of name chunks) in
    ap (λ (l : List ℕ). SnapshotOffset name (unwrap_or (last_or None l) 0)) offsets

pub offsets_stay : (chunks : List Chunk) (c : Chunk) → Unstored c → offset_items (chunks ++ c ∷ []) ≡ offset_items chunks
offsets_stay chunks c un =
    let names : stored_names (chunks ++ c ∷ []) ≡ stored_names chunks = stored_names_join chunks (c ∷ []) ∙ ap (λ (l : List (List ℕ)). stored_names chunks ++ l) un.no_names ∙ append-nil (stored_names chunks) in
    ap (λ (l : List (List ℕ)). map (offset_item (chunks ++ c ∷ [])) (first_seen l)) names
    ∙ map_agree (offset_item (chunks ++ c ∷ [])) (offset_item chunks) (λ name. offset_stays name chunks c (un.no_offsets name)) (first_seen (stored_names chunks))

pub items_stay : (chunks : List Chunk) (c : Chunk) → Untagged c → Unstored c → snapshot_items (chunks ++ c ∷ []) ≡ snapshot_items chunks
items_stay chunks c tags deltas =
    ap (λ (l : List SnapshotEntry). l ++ offset_items (chunks ++ c ∷ [])) (sequences_stay chunks c tags) ∙ ap (λ (l : List SnapshotEntry). sequence_items chunks ++ l) (offsets_stay chunks c deltas)

-- a snapshot says nothing anew
pub items_stay_snapshot : (chunks : List Chunk) (c : Chunk) → c.kind ≡ Snapshot → snapshot_items (chunks ++ c ∷ []) ≡ snapshot_items chunks
items_stay_snapshot chunks c kind = items_stay chunks c (untagged_snapshot c kind) (unstored_snapshot c kind)

-- ---- what is listed has a spelling

filter_each : {A : Type 0} (P : A → Type 0) (f : A → Bool) (xs : List A) → AllByRecursion P xs → AllByRecursion P (filter f xs)
filter_each P f [] each = tt
filter_each {A} P f (x ∷ xs) each =
    elim (f x) as (λ b. AllByRecursion P (cond b (x ∷ filter f xs) (filter f xs))) [ true ↦ (each.0, filter_each P f xs each.1) | false ↦ filter_each P f xs each.1 ]

pub seen_each : (P : List ℕ → Type 0) (names : List (List ℕ)) → AllByRecursion P names → AllByRecursion P (first_seen names)
seen_each P [] each = tt
seen_each P (x ∷ xs) each = (each.0, filter_each P (λ y. not (same_name x y)) (first_seen xs) (seen_each P xs each.1))

fold_fits : (n bound : ℕ) (xs : List ℕ) → n < bound → AllByRecursion (λ x. x < bound) xs → fold max n xs < bound
fold_fits n bound [] fits each = fits
fold_fits n bound (x ∷ xs) fits each = fold_fits (max n x) bound xs (let here : x < bound = each.0 in omega arith) each.1

pub greatest_fits : (bound : ℕ) (xs : List ℕ) → 0 < bound → AllByRecursion (λ x. x < bound) xs → unwrap_or (reduce max xs) 0 < bound
greatest_fits bound [] some each = some
greatest_fits bound (x ∷ xs) some each = fold_fits x bound xs each.0 each.1

last_fits : (bound : ℕ) (o : Option ℕ) (xs : List ℕ) → unwrap_or o 0 < bound → AllByRecursion (λ x. x < bound) xs → unwrap_or (last_or o xs) 0 < bound
last_fits bound o [] fits each = fits
last_fits bound o (x ∷ xs) fits each = last_fits bound (Some x) xs each.0 each.1

first_fits : (p : Chunk → Bool) (chunks : List Chunk) → AllByRecursion IsChunk chunks → unwrap_or (option_map (λ (c : Chunk). c.first) (find p chunks)) 0 < 2 ^ 64
first_fits p [] each = omega arith
first_fits p (c ∷ cs) each =
    let last = each.0.last in
    elim (p c) as (λ b. unwrap_or (option_map (λ (c : Chunk). c.first) (cond b (Some c) (find p cs))) 0 < 2 ^ 64) [ true ↦ omega arith | false ↦ first_fits p cs each.1 ]

sequences_by : (chunks : List Chunk) (names : List (List ℕ)) → AllByRecursion IsChunk chunks → AllByRecursion IsName names → AllByRecursion IsSnapshot (map (sequence_item chunks) names)
sequences_by chunks [] each right = tt
sequences_by chunks (name ∷ more) each right =
    let id = unwrap_or (Greatest name chunks) 0 in
    ((right.0, first_fits (has_id name id) chunks each, greatest_fits (2 ^ 64) (ids_of name chunks) (omega arith) (ids_fit name chunks each)), sequences_by chunks more each right.1)

offsets_by : (chunks : List Chunk) (names : List (List ℕ)) → AllByRecursion IsChunk chunks → AllByRecursion IsName names → AllByRecursion IsSnapshot (map (offset_item chunks) names)
offsets_by chunks [] each right = tt
offsets_by chunks (name ∷ more) each right = ((right.0, last_fits (2 ^ 64) None (offsets_of name chunks) (omega arith) (offsets_fit name chunks each)), offsets_by chunks more each right.1)

pub items_right : (chunks : List Chunk) → All IsChunk chunks → All IsSnapshot (snapshot_items chunks)
items_right chunks all =
    let each = recursion_from_All IsChunk chunks all in
    All-from_recursion IsSnapshot (snapshot_items chunks)
    (each_join IsSnapshot (sequence_items chunks) (offset_items chunks)
    (sequences_by chunks (first_seen (tag_names chunks)) each (seen_each IsName (tag_names chunks) (tag_names_right chunks each)))
    (offsets_by chunks (first_seen (stored_names chunks)) each (seen_each IsName (stored_names chunks) (stored_names_right chunks each))))

-- the chunk that opens an epoch has a spelling, where its numbers and its entry fit
pub opening_right : (epoch : ℕ) (stamp : ℤ) (chunks : List Chunk) → All IsChunk chunks → FitsSigned w64 stamp → epoch < 2 ^ 64 → end_of chunks + 1 < 2 ^ 64 → length (snapshot_body chunks) < 2 ^ 31 → IsChunk (opening_chunk epoch stamp chunks)
opening_right epoch stamp chunks all stamp_fits epoch_fits end_fits short =
    let body = snapshot_body chunks in
    let entries : List Entry = Simple body ∷ [] in
    let payload = ap length (append-nil (entry_bytes (Simple body))) ∙ simple_length body in
    record {
      stamp_fits = stamp_fits;
      epoch_fits = epoch_fits;
      some = omega arith;
      few = omega arith;
      each = All-cons IsEntry (Simple body) [] short (All-nil IsEntry);
      recorded = All-cons HasRecords (Simple body) [] (omega arith) (All-nil HasRecords);
      payload = omega (arith, payload, short);
      last = end_fits;
      content = (refl, (body, snapshot_items chunks, refl, (items_right chunks all, refl)));
    }
