-- What is tracked of a log, after one chunk more.
use Rattle.std.proofs.Common.{◌≡◌, ℕ, ◌<◌, ◌≤◌, max, Bool, true, false, cond, ◌||◌, ◌==◌, nat_lt, List, [], ◌∷◌, ◌++◌, map, length, Option, Some, None, is_some, unwrap_or, refl, sym, ap, ◌∙◌, arith}
use Rattle.std.specs.List.{flat_map, find, fold, reduce, last_or, list_any, AllByRecursion}
use Rattle.std.specs.Option.{option_map, option_or}
use Rattle.std.proofs.lemmas.List.{append-nil}
use Rattle.std.proofs.lemmas.List.Elements.{recursion_from_All}
use Rattle.std.proofs.lemmas.List.Folds.{find-append, list_any-append}
use Rattle.chunk_format.specs.declared.chunk.ChunkKind.{ChunkKind}
use Rattle.chunk_format.specs.declared.chunk.ChunkKind.TheVariants.{User, Delta, Snapshot}
use Rattle.chunk_format.specs.declared.chunk.Chunk.{Chunk}
use Rattle.chunk_format.specs.Tags.{Tag, SpellsTags, DeltaEntry, DeltaSequence, DeltaOffset, SnapshotEntry, SnapshotSequence, SnapshotOffset}
use Rattle.chunk_format.specs.ByName.{same_name, first_seen, id_by, ids_of, greater, Greatest, AtMost, tag_name, tag_names, has_id, first_with, deltas_of, offset_by, offsets_of, LastStored, stored_name, stored_names}
use Rattle.chunk_format.proofs.NameLaws.{same_self, ids_join, tag_names_join, greatest_join, stored_join, stored_names_join, each_at_most, each_map}
use Rattle.chunk_format.proofs.TagRows.{row_tags, names_by_tags, ids_by_tags, user_names, user_ids, user_other_ids, Untagged, untagged_user, untagged_delta, untagged_snapshot}
use Rattle.chunk_format.proofs.DeltaRows.{delta_of_chunk, one_delta, Unstored, unstored_user, unstored_snapshot, unstored_sequence}
use Rattle.chunk_format.proofs.SnapshotLaws.{map_agree, ids_stay, first_with_stays}
use Rattle.tracking_state.specs.declared.note.Latest.{Latest}
use Rattle.tracking_state.specs.Tracked.{Tracked, latest_of, last_of, tracked_of}
use Rattle.tracking_state.specs.Notes.{with_value, value_of, with_id, noted}
use Rattle.tracking_state.specs.Said.{AreOf, SaysItem, SaysNothing}
use Rattle.tracking_state.proofs.Seen.{among, same_flip, with_values, Elsewhere, values_push, seen_known, seen_again, value_seen}

-- ---- a name is seen where it has an id

known_by : (name : List ℕ) (tags : List (Option Tag)) → among name (flat_map tag_name tags) ≡ is_some (reduce max (flat_map (id_by name) tags))
known_by name [] = refl
known_by name (None ∷ ts) = known_by name ts
known_by name (Some t ∷ ts) =
    let rest = flat_map (id_by name) ts in
    elim (same_name name t.name) as (λ b. same_name t.name name ≡ b → (b || among name (flat_map tag_name ts)) ≡ is_some (reduce max (cond (same_name t.name name) (t.id ∷ []) [] ++ rest))) [
      | true ↦ λ e. ap (λ (b : Bool). is_some (reduce max (cond b (t.id ∷ []) [] ++ rest))) (sym e)
      | false ↦ λ e. known_by name ts ∙ ap (λ (b : Bool). is_some (reduce max (cond b (t.id ∷ []) [] ++ rest))) (sym e)
    ] (same_flip t.name name)

pub known_id : (name : List ℕ) (chunks : List Chunk) → among name (tag_names chunks) ≡ is_some (Greatest name chunks)
known_id name chunks = ap (among name) (names_by_tags chunks) ∙ known_by name (row_tags chunks) ∙ ap (λ (l : List ℕ). is_some (reduce max l)) (sym (ids_by_tags name chunks))

-- ---- the first chunk with an id

pub found_id : (name : List ℕ) (id : ℕ) (chunks : List Chunk) → is_some (find (has_id name id) chunks) ≡ list_any (λ other. other == id) (ids_of name chunks)
found_id name id [] = refl
found_id name id (c ∷ cs) =
    let is : ℕ → Bool = λ other. other == id in
    let joined : list_any is (ids_of name (c ∷ cs)) ≡ (has_id name id c || list_any is (ids_of name cs)) = ap (list_any is) (ids_join name (c ∷ []) cs) ∙ list_any-append is (ids_of name (c ∷ [])) (ids_of name cs) in
    let more = found_id name id cs in
    elim (has_id name id c) as (λ b. is_some (cond b (Some c) (find (has_id name id) cs)) ≡ (b || list_any is (ids_of name cs))) [ true ↦ refl | false ↦ more ] ∙ sym joined

pub or_right : (a b : Bool) → b ≡ true → (a || b) ≡ true
or_right true b h = refl
or_right false b h = h

or_middle : (a b more : Bool) → (a || more) ≡ true → (a || (b || more)) ≡ true
or_middle true b more h = refl
or_middle false b more h = or_right b more h

is_max : (x y : ℕ) (p : ℕ → Bool) (more : Bool) → (p (max x y) || more) ≡ true → (p x || (p y || more)) ≡ true
is_max x y p more h =
    elim (nat_lt x y) as (λ b. nat_lt x y ≡ b → (p x || (p y || more)) ≡ true) [
      | true ↦ λ e. let is : max x y ≡ y = grind (arith, e) in or_right (p x) (p y || more) (ap (λ (n : ℕ). p n || more) (sym is) ∙ h)
      | false ↦ λ e. let is : max x y ≡ x = grind (arith, e) in or_middle (p x) (p y) more (ap (λ (n : ℕ). p n || more) (sym is) ∙ h)
    ] refl

eqb_self : (n : ℕ) → (n == n) ≡ true
eqb_self n = grind arith

fold_there : (x : ℕ) (xs : List ℕ) (p : ℕ → Bool) → p (fold max x xs) ≡ true → list_any p (x ∷ xs) ≡ true
fold_there x [] p h = ap (λ (b : Bool). b || false) h
fold_there x (y ∷ ys) p h = is_max x y p (list_any p ys) (fold_there (max x y) ys p h)

-- the greatest id is there
pub greatest_there : (xs : List ℕ) (id : ℕ) → reduce max xs ≡ Some id → list_any (λ other. other == id) xs ≡ true
greatest_there [] id is = absurd cc
greatest_there (x ∷ xs) id is =
    let same : fold max x xs ≡ id = cc in
    fold_there x xs (λ other. other == id) (ap (λ (n : ℕ). n == id) same ∙ eqb_self id)

-- and none above it
above_none : (id : ℕ) (xs : List ℕ) → AllByRecursion (λ x. x < id) xs → list_any (λ other. other == id) xs ≡ false
above_none id [] each = refl
above_none id (x ∷ xs) each = let less : x < id = each.0 in let here : (x == id) ≡ false = grind arith in ap (λ (b : Bool). b || list_any (λ other. other == id) xs) here ∙ above_none id xs each.1

at_most_below : (id : ℕ) (o : Option ℕ) (xs : List ℕ) → AllByRecursion (λ x. AtMost x o) xs → ((g : ℕ) → o ≡ Some g → g < id) → AllByRecursion (λ x. x < id) xs
at_most_below id None [] each h = tt
at_most_below id None (x ∷ xs) each h = absurd each.0
at_most_below id (Some g) xs each h = let less = h g refl in each_map (λ x. x ≤ g) (λ x. x < id) (λ x p. omega (arith, p, less)) xs each

pub greatest_below : (id : ℕ) (xs : List ℕ) → ((g : ℕ) → reduce max xs ≡ Some g → g < id) → list_any (λ other. other == id) xs ≡ false
greatest_below id xs h = above_none id xs (at_most_below id (reduce max xs) xs (each_at_most xs) h)

none_from : {A : Type 0} (o : Option A) → is_some o ≡ false → o ≡ None
none_from None e = refl
none_from (Some x) e = absurd cc

some_first : {A : Type 0} (o p : Option A) → is_some o ≡ true → option_or o p ≡ o
some_first None p e = absurd cc
some_first (Some x) p e = refl

pub first_new : (name : List ℕ) (id : ℕ) (log : List Chunk) (c : Chunk) → list_any (λ other. other == id) (ids_of name log) ≡ false → has_id name id c ≡ true → first_with name id (log ++ c ∷ []) ≡ Some c.first
first_new name id log c none has =
    let before : find (has_id name id) log ≡ None = none_from (find (has_id name id) log) (found_id name id log ∙ none) in
    ap (option_map (λ (d : Chunk). d.first)) (find-append (has_id name id) log (c ∷ []) ∙ ap (λ (o : Option Chunk). option_or o (cond (has_id name id c) (Some c) None)) before ∙ ap (λ (b : Bool). cond b (Some c) None) has)

pub first_kept : (name : List ℕ) (id : ℕ) (log : List Chunk) (c : Chunk) → list_any (λ other. other == id) (ids_of name log) ≡ true → first_with name id (log ++ c ∷ []) ≡ first_with name id log
first_kept name id log c there =
    ap (option_map (λ (d : Chunk). d.first)) (find-append (has_id name id) log (c ∷ []) ∙ some_first (find (has_id name id) log) (find (has_id name id) (c ∷ [])) (found_id name id log ∙ there))

-- ---- a user chunk with tags

-- what such a chunk adds to a log
pub record OneName (c : Chunk) (name : List ℕ) (id : ℕ) : Type 0 where
  pub more : List (List ℕ)
  pub again : AllByRecursion (λ other. other ≡ name) more
  pub names : tag_names (c ∷ []) ≡ name ∷ more
  pub greatest : Greatest name (c ∷ []) ≡ Some id
  pub others : (other : List ℕ) → same_name name other ≡ false → ids_of other (c ∷ []) ≡ []

names_again : (name : List ℕ) (tags : List Tag) → AllByRecursion (λ (tag : Tag). tag.name ≡ name) tags → AllByRecursion (λ other. other ≡ name) (map (λ (tag : Tag). tag.name) tags)
names_again name [] each = tt
names_again name (t ∷ ts) each = (each.0, names_again name ts each.1)

one_by : (c : Chunk) (name : List ℕ) (id : ℕ) (tags : List Tag) (kind : c.kind ≡ User) (spells : SpellsTags (length c.entries) c.trailer tags) → AreOf name id tags → OneName c name id
one_by c name id [] kind spells are = let none = are.1 in absurd cc
one_by c name id (t ∷ ts) kind spells are =
    let own = spells.right.0.0 in
    let same : own ≡ name = sym (spells.right.0.1 0 t (omega arith)).0 ∙ are.0 0 t (omega arith) in
    let each = recursion_from_All (λ (tag : Tag). tag.name ≡ name) (t ∷ ts) are.0 in
    record {
      more = map (λ (tag : Tag). tag.name) ts;
      again = names_again name ts each.1;
      names = user_names c (t ∷ ts) kind spells ∙ ap (λ (n : List ℕ). n ∷ map (λ (tag : Tag). tag.name) ts) each.0;
      greatest = ap (λ (n : List ℕ). Greatest n (c ∷ [])) (sym same) ∙ ap (λ (l : List ℕ). reduce max l) (user_ids c (t ∷ ts) kind spells) ∙ are.1;
      others = λ other differ. user_other_ids c (t ∷ ts) kind spells other (ap (λ (n : List ℕ). same_name n other) same ∙ differ);
    }

greater_new : (o : Option ℕ) (id : ℕ) → ((g : ℕ) → o ≡ Some g → g < id) → greater o (Some id) ≡ Some id
greater_new None id h = refl
greater_new (Some g) id h = let less = h g refl in ap Some (let e : max g id ≡ id = omega (arith, less) in e)

latest_by : (log : List Chunk) (name : List ℕ) (greatest first : Option ℕ) → Greatest name log ≡ greatest → first_with name (unwrap_or greatest 0) log ≡ first
    → latest_of log name ≡ record { id = unwrap_or greatest 0; first = unwrap_or first 0 }
latest_by log name greatest first g f =
    ap (λ (o : Option ℕ). let n : Latest = record { id = unwrap_or o 0; first = unwrap_or (first_with name (unwrap_or o 0) log) 0 } in n) g
    ∙ ap (λ (o : Option ℕ). let n : Latest = record { id = unwrap_or greatest 0; first = unwrap_or o 0 } in n) f

-- what is known of a name stays where a chunk has no id of it
pub latest_stays : (log : List Chunk) (c : Chunk) (name : List ℕ) → ids_of name (c ∷ []) ≡ [] → latest_of (log ++ c ∷ []) name ≡ latest_of log name
latest_stays log c name none =
    let id = unwrap_or (Greatest name log) 0 in
    latest_by (log ++ c ∷ []) name (Greatest name log) (first_with name id log) (ap (λ (l : List ℕ). reduce max l) (ids_stay name log c none))
    (first_with_stays name id log c (ap (list_any (λ other. other == id)) none))

abbrev latest : ℕ → ℕ → Latest
latest id first = record { id = id; first = first }

-- a chunk with a greater id, or the first of its name
latest_new : (log : List Chunk) (c : Chunk) (name : List ℕ) (id : ℕ) → OneName c name id → ((g : ℕ) → Greatest name log ≡ Some g → g < id) → latest_of (log ++ c ∷ []) name ≡ latest id c.first
latest_new log c name id one above =
    let has : has_id name id c ≡ true = greatest_there (ids_of name (c ∷ [])) id one.greatest in
    latest_by (log ++ c ∷ []) name (Some id) (Some c.first) (greatest_join name log (c ∷ []) ∙ ap (greater (Greatest name log)) one.greatest ∙ greater_new (Greatest name log) id above)
    (first_new name id log c (greatest_below id (ids_of name log) above) has)

-- a chunk without a greater id
latest_old : (log : List Chunk) (c : Chunk) (name : List ℕ) (id g : ℕ) → OneName c name id → Greatest name log ≡ Some g → id ≤ g → latest_of (log ++ c ∷ []) name ≡ latest_of log name
latest_old log c name id g one is below =
    let first = first_with name g log in
    let kept : first_with name g (log ++ c ∷ []) ≡ first = first_kept name g log c (greatest_there (ids_of name log) g is) in
    let greatest : max g id ≡ g = omega (arith, below) in
    latest_by (log ++ c ∷ []) name (Some g) first (greatest_join name log (c ∷ []) ∙ ap (greater (Greatest name log)) one.greatest ∙ ap (λ (o : Option ℕ). greater o (Some id)) is ∙ ap Some greatest) kept
    ∙ sym (latest_by log name (Some g) first is refl)

abbrev pub sequences_of : List Chunk → List (List ℕ × Latest)
sequences_of log = with_values (latest_of log) (first_seen (tag_names log))

sequences_push : (log : List Chunk) (c : Chunk) (name : List ℕ) (id : ℕ) → OneName c name id → sequences_of (log ++ c ∷ []) ≡ with_value name (latest_of (log ++ c ∷ []) name) (sequences_of log)
sequences_push log c name id one =
    let names : tag_names (log ++ c ∷ []) ≡ tag_names log ++ name ∷ one.more = tag_names_join log (c ∷ []) ∙ ap (λ (l : List (List ℕ)). tag_names log ++ l) one.names in
    let after = log ++ c ∷ [] in
    ap (λ (l : List (List ℕ)). with_values (latest_of after) (first_seen l)) names
    ∙ ap (with_values (latest_of after)) (seen_again name (tag_names log) one.more one.again)
    ∙ values_push name (latest_of log) (latest_of after) (λ other differ. latest_stays log c other (one.others other differ)) (tag_names log)

-- putting what is there changes nothing
put_same : (log : List Chunk) (name : List ℕ) → among name (tag_names log) ≡ true → with_value name (latest_of log name) (sequences_of log) ≡ sequences_of log
put_same log name known = sym (values_push name (latest_of log) (latest_of log) (λ other differ. refl) (tag_names log)) ∙ ap (with_values (latest_of log)) (seen_known name (tag_names log) known)

sequences_by : (log : List Chunk) (c : Chunk) (name : List ℕ) (id : ℕ) → OneName c name id → (greatest : Option ℕ) → Greatest name log ≡ greatest
    → sequences_of (log ++ c ∷ []) ≡ with_id (cond (is_some greatest) (Some (latest_of log name)) None) name (latest id c.first) (sequences_of log)
sequences_by log c name id one None is =
    let none : (g : ℕ) → Greatest name log ≡ Some g → g < id = λ g e. let both : None ≡ Some g = sym is ∙ e in absurd cc in
    sequences_push log c name id one ∙ ap (λ (l : Latest). with_value name l (sequences_of log)) (latest_new log c name id one none)
sequences_by log c name id one (Some g) is =
    let there : (latest_of log name).id ≡ g = ap (λ (o : Option ℕ). unwrap_or o 0) is in
    let push = sequences_push log c name id one in
    ((elim (nat_lt g id) as (λ b. nat_lt g id ≡ b → sequences_of (log ++ c ∷ []) ≡ cond b (with_value name (latest id c.first) (sequences_of log)) (sequences_of log)) [
      | true ↦ λ e.
          let above : (h : ℕ) → Greatest name log ≡ Some h → h < id = λ h f. let same : Some g ≡ Some h = sym is ∙ f in let is_g : g ≡ h = cc in grind (arith, e, is_g) in
          push ∙ ap (λ (l : Latest). with_value name l (sequences_of log)) (latest_new log c name id one above)
      | false ↦ λ e.
          let below : id ≤ g = grind (arith, e) in
          push ∙ ap (λ (l : Latest). with_value name l (sequences_of log)) (latest_old log c name id g one is below) ∙ put_same log name (known_id name log ∙ ap is_some is)
    ]) refl)
    ∙ ap (λ (n : ℕ). cond (nat_lt n id) (with_value name (latest id c.first) (sequences_of log)) (sequences_of log)) (sym there)

pub sequences_more : (log : List Chunk) (c : Chunk) (name : List ℕ) (id : ℕ) → OneName c name id → sequences_of (log ++ c ∷ []) ≡ with_id (value_of name (sequences_of log)) name (latest id c.first) (sequences_of log)
sequences_more log c name id one =
    sequences_by log c name id one (Greatest name log) refl
    ∙ ap (λ (o : Option Latest). with_id o name (latest id c.first) (sequences_of log)) (sym (value_seen name (latest_of log) (tag_names log) ∙ ap (λ (b : Bool). cond b (Some (latest_of log name)) None) (known_id name log)))

pub sequences_same : (log : List Chunk) (c : Chunk) → Untagged c → sequences_of (log ++ c ∷ []) ≡ sequences_of log
sequences_same log c un =
    let names : tag_names (log ++ c ∷ []) ≡ tag_names log = tag_names_join log (c ∷ []) ∙ ap (λ (l : List (List ℕ)). tag_names log ++ l) un.no_names ∙ append-nil (tag_names log) in
    ap (λ (l : List (List ℕ)). with_values (latest_of (log ++ c ∷ [])) (first_seen l)) names
    ∙ map_agree (λ (name : List ℕ). (name, latest_of (log ++ c ∷ []) name)) (λ (name : List ℕ). (name, latest_of log name)) (λ name. ap (λ (l : Latest). (name, l)) (latest_stays log c name (un.no_ids name))) (first_seen (tag_names log))

-- ---- stored offsets

abbrev pub lasts_of : List Chunk → List (List ℕ × ℕ)
lasts_of log = with_values (last_of log) (first_seen (stored_names log))

last_stays : (log : List Chunk) (c : Chunk) (name : List ℕ) → offsets_of name (c ∷ []) ≡ [] → last_of (log ++ c ∷ []) name ≡ last_of log name
last_stays log c name none = ap (λ (o : Option ℕ). unwrap_or o 0) (stored_join name log (c ∷ []) ∙ ap (λ (l : List ℕ). option_or (last_or None l) (LastStored name log)) none)

pub lasts_same : (log : List Chunk) (c : Chunk) → Unstored c → lasts_of (log ++ c ∷ []) ≡ lasts_of log
lasts_same log c un =
    let names : stored_names (log ++ c ∷ []) ≡ stored_names log = stored_names_join log (c ∷ []) ∙ ap (λ (l : List (List ℕ)). stored_names log ++ l) un.no_names ∙ append-nil (stored_names log) in
    ap (λ (l : List (List ℕ)). with_values (last_of (log ++ c ∷ [])) (first_seen l)) names
    ∙ map_agree (λ (name : List ℕ). (name, last_of (log ++ c ∷ []) name)) (λ (name : List ℕ). (name, last_of log name)) (λ name. ap (λ (n : ℕ). (name, n)) (last_stays log c name (un.no_offsets name))) (first_seen (stored_names log))

pub lasts_more : (log : List Chunk) (c : Chunk) (name : List ℕ) (offset : ℕ) → deltas_of (c ∷ []) ≡ DeltaOffset name offset ∷ [] → lasts_of (log ++ c ∷ []) ≡ with_value name offset (lasts_of log)
lasts_more log c name offset is =
    let after = log ++ c ∷ [] in
    let names : stored_names after ≡ stored_names log ++ name ∷ [] = stored_names_join log (c ∷ []) ∙ ap (λ (l : List (List ℕ)). stored_names log ++ l) (ap (flat_map stored_name) is) in
    let here : LastStored name (c ∷ []) ≡ Some offset = ap (λ (l : List DeltaEntry). last_or None (flat_map (offset_by name) l)) is ∙ ap (λ (b : Bool). last_or None (cond b (offset ∷ []) [] ++ [])) (same_self name) in
    let value : last_of after name ≡ offset = ap (λ (o : Option ℕ). unwrap_or o 0) (stored_join name log (c ∷ []) ∙ ap (λ (o : Option ℕ). option_or o (LastStored name log)) here) in
    let others : Elsewhere name (last_of log) (last_of after) =
    λ other differ. last_stays log c other (ap (flat_map (offset_by other)) is ∙ ap (λ (b : Bool). cond b (offset ∷ []) [] ++ []) differ) in
    ap (λ (l : List (List ℕ)). with_values (last_of after) (first_seen l)) names
    ∙ values_push name (last_of log) (last_of after) others (stored_names log)
    ∙ ap (λ (n : ℕ). with_value name n (lasts_of log)) value

-- ---- one chunk more

both : (s t : List (List ℕ × Latest)) (o p : List (List ℕ × ℕ)) → s ≡ t → o ≡ p → (let a : Tracked = record { sequences = s; offsets = o } in a) ≡ (let b : Tracked = record { sequences = t; offsets = p } in b)
both s t o p e f = ap (λ (l : List (List ℕ × Latest)). let a : Tracked = record { sequences = l; offsets = o } in a) e ∙ ap (λ (l : List (List ℕ × ℕ)). let b : Tracked = record { sequences = t; offsets = l } in b) f

-- what a chunk says is noted
pub said_noted : (log : List Chunk) (c : Chunk) (item : SnapshotEntry) → SaysItem c item → noted (tracked_of log) item ≡ tracked_of (log ++ c ∷ [])
said_noted log c (SnapshotSequence name first id) says =
    let one = one_by c name id says.2.0 says.0 says.2.1 says.2.2 in
    both (with_id (value_of name (sequences_of log)) name (latest id first) (sequences_of log)) (sequences_of (log ++ c ∷ [])) (lasts_of log) (lasts_of (log ++ c ∷ []))
    (ap (λ (n : ℕ). with_id (value_of name (sequences_of log)) name (latest id n) (sequences_of log)) says.1 ∙ sym (sequences_more log c name id one))
    (sym (lasts_same log c (unstored_user c says.0)))
said_noted log c (SnapshotOffset name offset) says =
    let deltas = one_delta c ∙ delta_of_chunk c says.1.0 (DeltaOffset name offset) says.0 says.1.1 says.1.2 in
    both (sequences_of log) (sequences_of (log ++ c ∷ [])) (with_value name offset (lasts_of log)) (lasts_of (log ++ c ∷ []))
    (sym (sequences_same log c (untagged_delta c says.0))) (sym (lasts_more log c name offset deltas))

same_by : (kind : ChunkKind) (log : List Chunk) (c : Chunk) → c.kind ≡ kind → SaysNothing kind c → tracked_of (log ++ c ∷ []) ≡ tracked_of log
same_by User log c kind says = both (sequences_of (log ++ c ∷ [])) (sequences_of log) (lasts_of (log ++ c ∷ [])) (lasts_of log) (sequences_same log c (untagged_user c kind says)) (lasts_same log c (unstored_user c kind))
same_by Delta log c kind says =
    both (sequences_of (log ++ c ∷ [])) (sequences_of log) (lasts_of (log ++ c ∷ [])) (lasts_of log) (sequences_same log c (untagged_delta c kind))
    (lasts_same log c (unstored_sequence c says.1 says.2 (delta_of_chunk c says.0 (DeltaSequence says.1 says.2) kind says.3 says.4)))
same_by Snapshot log c kind says = both (sequences_of (log ++ c ∷ [])) (sequences_of log) (lasts_of (log ++ c ∷ [])) (lasts_of log) (sequences_same log c (untagged_snapshot c kind)) (lasts_same log c (unstored_snapshot c kind))

-- a chunk that says nothing changes nothing
pub nothing_noted : (log : List Chunk) (c : Chunk) → SaysNothing c.kind c → tracked_of (log ++ c ∷ []) ≡ tracked_of log
nothing_noted log c says = same_by c.kind log c refl says

pub snapshot_noted : (log : List Chunk) (c : Chunk) → c.kind ≡ Snapshot → tracked_of (log ++ c ∷ []) ≡ tracked_of log
snapshot_noted log c kind = same_by Snapshot log c kind tt
