-- What a snapshot lists of what is tracked: its length, its spelling, look-ups, and the notes of all that it lists.
use Rattle.std.proofs.Common.{◌≡◌, ℕ, ◌+◌, ◌^◌, ◌<◌, Bool, true, false, cond, ◌||◌, nat_lt, List, [], ◌∷◌, ◌++◌, map, length, Option, Some, None, Result, Ok, Err, OnOk, OnErr, is_some, unwrap_or, refl, sym, ap, subst, ◌∙◌, arith, length-append}
use Rattle.std.specs.List.{flat_map, last_or, All, AllByRecursion}
use Rattle.std.specs.Option.{option_map}
use Rattle.std.proofs.lemmas.Grind.{flat_map-append}
use Rattle.std.proofs.lemmas.List.{append-nil}
use Rattle.std.proofs.lemmas.List.Elements.{All-from_recursion, recursion_from_All}
use Rattle.chunk_format.specs.declared.chunk.Chunk.{Chunk}
use Rattle.chunk_format.specs.Tags.{IsName, DeltaEntry, DeltaSequence, DeltaOffset, SnapshotEntry, SnapshotSequence, SnapshotOffset, snapshot_bytes, IsSnapshot}
use Rattle.chunk_format.specs.ByName.{same_name, first_seen, Greatest, tag_names, deltas_of, offset_by, LastStored, stored_name, stored_names, sequence_item, offset_item, snapshot_items}
use Rattle.chunk_format.proofs.Codes.{named_number_length, sequence_length}
use Rattle.chunk_format.proofs.NameLaws.{same_decides, each_join}
use Rattle.tracking_state.specs.declared.note.Latest.{Latest}
use Rattle.tracking_state.specs.Tracked.{Tracked, latest_of, last_of, tracked_of, sequence_entry, offset_entry, items_of, body_of, IsTracked}
use Rattle.tracking_state.specs.Notes.{with_value, value_of, with_id, longer_by}
use Rattle.tracking_state.proofs.Seen.{among, same_flip, value_seen}
use Rattle.tracking_state.proofs.Tracks.{sequences_of, lasts_of, known_id}

-- ---- what is listed of a log

map_twice : {A B C : Type 0} (g : B → C) (f : A → B) (xs : List A) → map g (map f xs) ≡ map (λ x. g (f x)) xs
map_twice g f [] = refl
map_twice {A} {B} {C} g f (x ∷ xs) = ap (λ (l : List C). g (f x) ∷ l) (map_twice g f xs)

pub listed_of_log : (log : List Chunk) → items_of (tracked_of log) ≡ snapshot_items log
listed_of_log log =
    let sequences : map sequence_entry (sequences_of log) ≡ map (sequence_item log) (first_seen (tag_names log)) = map_twice sequence_entry (λ (name : List ℕ). (name, latest_of log name)) (first_seen (tag_names log)) in
    let offsets : map offset_entry (lasts_of log) ≡ map (offset_item log) (first_seen (stored_names log)) = map_twice offset_entry (λ (name : List ℕ). (name, last_of log name)) (first_seen (stored_names log)) in
    ap (λ (l : List SnapshotEntry). l ++ map offset_entry (lasts_of log)) sequences ∙ ap (λ (l : List SnapshotEntry). map (sequence_item log) (first_seen (tag_names log)) ++ l) offsets

-- ---- look-ups

greatest_by : (greatest : Option ℕ) (value : Latest) → value.id ≡ unwrap_or greatest 0 → option_map (λ (l : Latest). l.id) (cond (is_some greatest) (Some value) None) ≡ greatest
greatest_by None value is = refl
greatest_by (Some id) value is = ap Some is

pub greatest_found : (name : List ℕ) (log : List Chunk) → option_map (λ (l : Latest). l.id) (value_of name (sequences_of log)) ≡ Greatest name log
greatest_found name log =
    ap (option_map (λ (l : Latest). l.id)) (value_seen name (latest_of log) (tag_names log) ∙ ap (λ (b : Bool). cond b (Some (latest_of log name)) None) (known_id name log))
    ∙ greatest_by (Greatest name log) (latest_of log name) refl

some_last : (x : ℕ) (xs : List ℕ) → is_some (last_or (Some x) xs) ≡ true
some_last x [] = refl
some_last x (y ∷ ys) = some_last y ys

stored_by : (name : List ℕ) (deltas : List DeltaEntry) → among name (flat_map stored_name deltas) ≡ is_some (last_or None (flat_map (offset_by name) deltas))
stored_by name [] = refl
stored_by name (DeltaSequence other id ∷ ds) = stored_by name ds
stored_by name (DeltaOffset other offset ∷ ds) =
    let rest = flat_map (offset_by name) ds in
    elim (same_name name other) as (λ b. same_name other name ≡ b → (b || among name (flat_map stored_name ds)) ≡ is_some (last_or None (cond (same_name other name) (offset ∷ []) [] ++ rest))) [
      | true ↦ λ e. sym (ap (λ (b : Bool). is_some (last_or None (cond b (offset ∷ []) [] ++ rest))) e ∙ some_last offset rest)
      | false ↦ λ e. stored_by name ds ∙ ap (λ (b : Bool). is_some (last_or None (cond b (offset ∷ []) [] ++ rest))) (sym e)
    ] (same_flip other name)

last_by : (last : Option ℕ) → cond (is_some last) (Some (unwrap_or last 0)) None ≡ last
last_by None = refl
last_by (Some offset) = refl

pub stored_found : (name : List ℕ) (log : List Chunk) → value_of name (lasts_of log) ≡ LastStored name log
stored_found name log =
    value_seen name (last_of log) (stored_names log) ∙ ap (λ (b : Bool). cond b (Some (last_of log name)) None) (stored_by name (deltas_of log)) ∙ last_by (LastStored name log)

-- ---- lengths

-- entries of pairs, each with so many bytes beside its name
pub record Spelled {V : Type 0} (entry : List ℕ × V → SnapshotEntry) (head : ℕ) : Type 0 where
  pub long : (pair : List ℕ × V) → length (snapshot_bytes (entry pair)) ≡ head + length pair.0

pub sequence_spelled : Spelled sequence_entry 18
sequence_spelled = record { long = λ pair. sequence_length pair.0 pair.1.first pair.1.id }

pub offset_spelled : Spelled offset_entry 10
offset_spelled = record { long = λ pair. named_number_length 1 pair.0 pair.1 }

pub length_put : {V : Type 0} (entry : List ℕ × V → SnapshotEntry) (head : ℕ) → Spelled entry head → (name : List ℕ) (v : V) (pairs : List (List ℕ × V))
    → length (flat_map snapshot_bytes (map entry (with_value name v pairs))) ≡ length (flat_map snapshot_bytes (map entry pairs)) + longer_by (value_of name pairs) head name
length_put entry head s name v [] = omega (arith, ap length (append-nil (snapshot_bytes (entry (name, v)))), s.long (name, v))
length_put {V} entry head s name v (e ∷ es) =
    let size : List (List ℕ × V) → ℕ = λ pairs. length (flat_map snapshot_bytes (map entry pairs)) in
    let one : size (e ∷ es) ≡ length (snapshot_bytes (entry e)) + size es = length-append (snapshot_bytes (entry e)) (flat_map snapshot_bytes (map entry es)) in
    let more = length_put entry head s name v es in
    elim (same_name name e.0) as (λ b. size (cond b ((e.0, v) ∷ es) (e ∷ with_value name v es)) ≡ size (e ∷ es) + longer_by (cond b (Some e.1) (value_of name es)) head name) [
      | true ↦
          let other : size ((e.0, v) ∷ es) ≡ length (snapshot_bytes (entry (e.0, v))) + size es = length-append (snapshot_bytes (entry (e.0, v))) (flat_map snapshot_bytes (map entry es)) in
          omega (arith, one, other, s.long e, s.long (e.0, v))
      | false ↦
          let other : size (e ∷ with_value name v es) ≡ length (snapshot_bytes (entry e)) + size (with_value name v es) = length-append (snapshot_bytes (entry e)) (flat_map snapshot_bytes (map entry (with_value name v es))) in
          omega (arith, one, other, more)
    ]

length_items : (t : Tracked) → length (body_of t) ≡ length (flat_map snapshot_bytes (map sequence_entry t.sequences)) + length (flat_map snapshot_bytes (map offset_entry t.offsets))
length_items t =
    ap length (flat_map-append snapshot_bytes (map sequence_entry t.sequences) (map offset_entry t.offsets))
    ∙ length-append (flat_map snapshot_bytes (map sequence_entry t.sequences)) (flat_map snapshot_bytes (map offset_entry t.offsets))

length_id : (there : Option Latest) (name : List ℕ) (l : Latest) (pairs : List (List ℕ × Latest)) → value_of name pairs ≡ there
    → length (flat_map snapshot_bytes (map sequence_entry (with_id there name l pairs))) ≡ length (flat_map snapshot_bytes (map sequence_entry pairs)) + longer_by there 18 name
length_id None name l pairs is = length_put sequence_entry 18 sequence_spelled name l pairs ∙ ap (λ (o : Option Latest). length (flat_map snapshot_bytes (map sequence_entry pairs)) + longer_by o 18 name) is
length_id (Some before) name l pairs is =
    let put = length_put sequence_entry 18 sequence_spelled name l pairs ∙ ap (λ (o : Option Latest). length (flat_map snapshot_bytes (map sequence_entry pairs)) + longer_by o 18 name) is in
    elim (nat_lt before.id l.id) as (λ b. length (flat_map snapshot_bytes (map sequence_entry (cond b (with_value name l pairs) pairs))) ≡ length (flat_map snapshot_bytes (map sequence_entry pairs)) + 0) [
      | true ↦ put
      | false ↦ omega arith
    ]

-- ---- spelling

right_put : {V : Type 0} (entry : List ℕ × V → SnapshotEntry) (name : List ℕ) (v : V) → IsSnapshot (entry (name, v)) → (pairs : List (List ℕ × V)) → AllByRecursion IsSnapshot (map entry pairs)
    → AllByRecursion IsSnapshot (map entry (with_value name v pairs))
right_put entry name v right [] each = (right, tt)
right_put {V} entry name v right (e ∷ es) each =
    elim (same_name name e.0) as (λ b. same_name name e.0 ≡ b → AllByRecursion IsSnapshot (map entry (cond b ((e.0, v) ∷ es) (e ∷ with_value name v es)))) [
      | true ↦ λ is. (subst (λ (n : List ℕ). IsSnapshot (entry (n, v))) ((same_decides name e.0).0 is) right, each.1)
      | false ↦ λ is. (each.0, right_put entry name v right es each.1)
    ] refl

right_id : (there : Option Latest) (name : List ℕ) (l : Latest) → IsSnapshot (SnapshotSequence name l.first l.id) → (pairs : List (List ℕ × Latest)) → AllByRecursion IsSnapshot (map sequence_entry pairs)
    → AllByRecursion IsSnapshot (map sequence_entry (with_id there name l pairs))
right_id None name l right pairs each = right_put sequence_entry name l right pairs each
right_id (Some before) name l right pairs each =
    elim (nat_lt before.id l.id) as (λ b. AllByRecursion IsSnapshot (map sequence_entry (cond b (with_value name l pairs) pairs))) [ true ↦ right_put sequence_entry name l right pairs each | false ↦ each ]

each_left : {A : Type 0} (P : A → Type 0) (xs ys : List A) → AllByRecursion P (xs ++ ys) → AllByRecursion P xs
each_left P [] ys h = tt
each_left P (x ∷ xs) ys h = (h.0, each_left P xs ys h.1)

each_right : {A : Type 0} (P : A → Type 0) (xs ys : List A) → AllByRecursion P (xs ++ ys) → AllByRecursion P ys
each_right P [] ys h = h
each_right P (x ∷ xs) ys h = each_right P xs ys h.1

pub parts : (t : Tracked) → All IsSnapshot (items_of t) → AllByRecursion IsSnapshot (map sequence_entry t.sequences) × AllByRecursion IsSnapshot (map offset_entry t.offsets)
parts t all =
    let each = recursion_from_All IsSnapshot (items_of t) all in
    (each_left IsSnapshot (map sequence_entry t.sequences) (map offset_entry t.offsets) each, each_right IsSnapshot (map sequence_entry t.sequences) (map offset_entry t.offsets) each)

-- ---- what holds after a note

pub id_tracked : (len : ℕ) (t : Tracked) (name : List ℕ) (l : Latest) → IsName name → l.id < 2 ^ 64 → l.first < 2 ^ 64 → IsTracked len t
    → IsTracked (len + longer_by (value_of name t.sequences) 18 name) (record { sequences = with_id (value_of name t.sequences) name l t.sequences; offsets = t.offsets })
id_tracked len t name l is_name id_fits first_fits is =
    let there = value_of name t.sequences in
    let new : Tracked = record { sequences = with_id there name l t.sequences; offsets = t.offsets } in
    let p = parts t is.1 in
    let old_len = is.0 in (
      omega (arith, old_len, length_items t, length_items new, length_id there name l t.sequences refl),
      All-from_recursion IsSnapshot (items_of new) (each_join IsSnapshot (map sequence_entry new.sequences) (map offset_entry t.offsets) (right_id there name l (is_name, first_fits, id_fits) t.sequences p.0) p.1),
    )

pub offset_tracked : (len : ℕ) (t : Tracked) (name : List ℕ) (offset : ℕ) → IsName name → offset < 2 ^ 64 → IsTracked len t
    → IsTracked (len + longer_by (value_of name t.offsets) 10 name) (record { sequences = t.sequences; offsets = with_value name offset t.offsets })
offset_tracked len t name offset is_name fits is =
    let new : Tracked = record { sequences = t.sequences; offsets = with_value name offset t.offsets } in
    let p = parts t is.1 in
    let old_len = is.0 in (
      omega (arith, old_len, length_items t, length_items new, length_put offset_entry 10 offset_spelled name offset t.offsets),
      All-from_recursion IsSnapshot (items_of new) (each_join IsSnapshot (map sequence_entry t.sequences) (map offset_entry new.offsets) p.0 (right_put offset_entry name offset (is_name, fits) t.offsets p.1)),
    )

pub id_after : {T E : Type 0} (r : Result T E) (len new_len : ℕ) (sequences new : List (List ℕ × Latest)) (offsets : List (List ℕ × ℕ)) (name : List ℕ) (l : Latest)
    → OnOk r (new ≡ with_id (value_of name sequences) name l sequences) → OnOk r (new_len ≡ len + longer_by (value_of name sequences) 18 name) → OnErr r ((new ≡ sequences) × (new_len ≡ len))
    → IsSnapshot (SnapshotSequence name l.first l.id) → IsTracked len (record { sequences = sequences; offsets = offsets }) → IsTracked new_len (record { sequences = new; offsets = offsets })
id_after (Ok v) len new_len sequences new offsets name l ok long err right is =
    let t : Tracked = record { sequences = sequences; offsets = offsets } in
    let more = id_tracked len t name l right.0 right.2 right.1 is in
    subst (λ (s : List (List ℕ × Latest)). IsTracked new_len (record { sequences = s; offsets = offsets })) (sym ok)
    (subst (λ (n : ℕ). IsTracked n (record { sequences = with_id (value_of name sequences) name l sequences; offsets = offsets })) (sym long) more)
id_after (Err e) len new_len sequences new offsets name l ok long err right is =
    subst (λ (s : List (List ℕ × Latest)). IsTracked new_len (record { sequences = s; offsets = offsets })) (sym err.0)
    (subst (λ (n : ℕ). IsTracked n (record { sequences = sequences; offsets = offsets })) (sym err.1) is)

pub offset_after : {T E : Type 0} (r : Result T E) (len new_len : ℕ) (sequences : List (List ℕ × Latest)) (offsets new : List (List ℕ × ℕ)) (name : List ℕ) (offset : ℕ)
    → OnOk r (new ≡ with_value name offset offsets) → OnOk r (new_len ≡ len + longer_by (value_of name offsets) 10 name) → OnErr r ((new ≡ offsets) × (new_len ≡ len))
    → IsSnapshot (SnapshotOffset name offset) → IsTracked len (record { sequences = sequences; offsets = offsets }) → IsTracked new_len (record { sequences = sequences; offsets = new })
offset_after (Ok v) len new_len sequences offsets new name offset ok long err right is =
    let t : Tracked = record { sequences = sequences; offsets = offsets } in
    let more = offset_tracked len t name offset right.0 right.1 is in
    subst (λ (s : List (List ℕ × ℕ)). IsTracked new_len (record { sequences = sequences; offsets = s })) (sym ok)
    (subst (λ (n : ℕ). IsTracked n (record { sequences = sequences; offsets = with_value name offset offsets })) (sym long) more)
offset_after (Err e) len new_len sequences offsets new name offset ok long err right is =
    subst (λ (s : List (List ℕ × ℕ)). IsTracked new_len (record { sequences = sequences; offsets = s })) (sym err.0)
    (subst (λ (n : ℕ). IsTracked n (record { sequences = sequences; offsets = offsets })) (sym err.1) is)
