-- Notes of all that a snapshot of a log lists give what is tracked of it.
use Rattle.std.proofs.Common.{◌≡◌, ℕ, Bool, true, false, cond, ◌||◌, List, [], ◌∷◌, ◌++◌, map, Option, Some, None, refl, sym, ap, subst, ◌∙◌, append_assoc, nat_lt, arith}
use Rattle.std.specs.List.{fold, AllByRecursion}
use Rattle.std.proofs.lemmas.List.{append-nil}
use Rattle.std.proofs.lemmas.List.Sums.{fold-append}
use Rattle.chunk_format.specs.declared.chunk.Chunk.{Chunk}
use Rattle.chunk_format.specs.ByName.{same_name, first_seen, tag_names, stored_names, snapshot_items}
use Rattle.chunk_format.proofs.NameLaws.{same_self, each_map}
use Rattle.chunk_format.proofs.SnapshotLaws.{seen_each}
use Rattle.tracking_state.specs.declared.note.Latest.{Latest}
use Rattle.tracking_state.specs.Tracked.{Tracked, latest_of, last_of, tracked_of, sequence_entry, offset_entry}
use Rattle.tracking_state.specs.Notes.{with_value, value_of, with_id, noted}
use Rattle.tracking_state.proofs.Seen.{among, Distinct, same_flip, seen_distinct, with_values, lookup_by, push_by, values_push, seen_known, value_seen}
use Rattle.tracking_state.proofs.Tracks.{sequences_of, lasts_of, or_right}
use Rattle.tracking_state.proofs.Listed.{listed_of_log}

abbrev pub tracked : List (List ℕ × Latest) → List (List ℕ × ℕ) → Tracked
tracked sequences offsets = record { sequences = sequences; offsets = offsets }

less : (x : List ℕ) (xs ys : List (List ℕ)) → among x (xs ++ ys) ≡ false → among x xs ≡ false
less x [] ys e = refl
less x (y ∷ xs) ys e = elim (same_name x y) as (λ b. (b || among x (xs ++ ys)) ≡ false → (b || among x xs) ≡ false) [ true ↦ λ f. absurd cc | false ↦ λ f. less x xs ys f ] e

apart : (x : List ℕ) (xs ys : List (List ℕ)) (y : List ℕ) → among x (xs ++ y ∷ ys) ≡ false → same_name x y ≡ false
apart x [] ys y e = elim (same_name x y) as (λ b. (b || among x ys) ≡ false → b ≡ false) [ true ↦ λ f. absurd cc | false ↦ λ f. refl ] e
apart x (z ∷ xs) ys y e = elim (same_name x z) as (λ b. (b || among x (xs ++ y ∷ ys)) ≡ false → same_name x y ≡ false) [ true ↦ λ f. absurd cc | false ↦ λ f. apart x xs ys y f ] e

front_distinct : (xs ys : List (List ℕ)) → Distinct (xs ++ ys) → Distinct xs
front_distinct [] ys d = tt
front_distinct (x ∷ xs) ys d = (less x xs ys d.0, front_distinct xs ys d.1)

-- a name behind others is not among them
next_new : (xs ys : List (List ℕ)) (y : List ℕ) → Distinct (xs ++ y ∷ ys) → among y xs ≡ false
next_new [] ys y d = refl
next_new (x ∷ xs) ys y d = ap (λ (b : Bool). b || among y xs) (same_flip y x ∙ apart x xs ys y d.0) ∙ next_new xs ys y d.1

put_next : {V : Type 0} (f : List ℕ → V) (done more : List (List ℕ)) (name : List ℕ) → Distinct (done ++ name ∷ more) → with_value name (f name) (with_values f done) ≡ with_values f (done ++ name ∷ [])
put_next f done more name d =
    sym (push_by name f f (λ other differ. refl) done (front_distinct done (name ∷ more) d)) ∙ ap (λ (b : Bool). with_values f (cond b done (done ++ name ∷ []))) (next_new done more name d)

value_new : {V : Type 0} (f : List ℕ → V) (done more : List (List ℕ)) (name : List ℕ) → Distinct (done ++ name ∷ more) → value_of name (with_values f done) ≡ None
value_new {V} f done more name d = lookup_by name f done ∙ ap (λ (b : Bool). cond b (Some (f name)) None) (next_new done more name d)

sequences_from : (f : List ℕ → Latest) (offsets : List (List ℕ × ℕ)) (done names : List (List ℕ)) → Distinct (done ++ names)
    → fold noted (tracked (with_values f done) offsets) (map sequence_entry (with_values f names)) ≡ tracked (with_values f (done ++ names)) offsets
sequences_from f offsets done [] d = ap (λ (l : List (List ℕ)). tracked (with_values f l) offsets) (sym (append-nil done))
sequences_from f offsets done (x ∷ xs) d =
    let one : with_id (value_of x (with_values f done)) x (f x) (with_values f done) ≡ with_values f (done ++ x ∷ []) =
    ap (λ (o : Option Latest). with_id o x (f x) (with_values f done)) (value_new f done xs x d) ∙ put_next f done xs x d in
    let joined : (done ++ x ∷ []) ++ xs ≡ done ++ x ∷ xs = append_assoc done (x ∷ []) xs in
    ap (λ (s : List (List ℕ × Latest)). fold noted (tracked s offsets) (map sequence_entry (with_values f xs))) one
    ∙ sequences_from f offsets (done ++ x ∷ []) xs (subst Distinct (sym joined) d)
    ∙ ap (λ (l : List (List ℕ)). tracked (with_values f l) offsets) joined

offsets_from : (f : List ℕ → ℕ) (sequences : List (List ℕ × Latest)) (done names : List (List ℕ)) → Distinct (done ++ names)
    → fold noted (tracked sequences (with_values f done)) (map offset_entry (with_values f names)) ≡ tracked sequences (with_values f (done ++ names))
offsets_from f sequences done [] d = ap (λ (l : List (List ℕ)). tracked sequences (with_values f l)) (sym (append-nil done))
offsets_from f sequences done (x ∷ xs) d =
    let joined : (done ++ x ∷ []) ++ xs ≡ done ++ x ∷ xs = append_assoc done (x ∷ []) xs in
    ap (λ (o : List (List ℕ × ℕ)). fold noted (tracked sequences o) (map offset_entry (with_values f xs))) (put_next f done xs x d)
    ∙ offsets_from f sequences (done ++ x ∷ []) xs (subst Distinct (sym joined) d)
    ∙ ap (λ (l : List (List ℕ)). tracked sequences (with_values f l)) joined

pub all_noted : (log : List Chunk) → fold noted (tracked [] []) (snapshot_items log) ≡ tracked_of log
all_noted log =
    let sequences = map sequence_entry (sequences_of log) in
    let offsets = map offset_entry (lasts_of log) in
    ap (fold noted (tracked [] [])) (sym (listed_of_log log))
    ∙ fold-append noted (tracked [] []) sequences offsets
    ∙ ap (λ (t : Tracked). fold noted t offsets) (sequences_from (latest_of log) [] [] (first_seen (tag_names log)) (seen_distinct (tag_names log)))
    ∙ offsets_from (last_of log) (sequences_of log) [] (first_seen (stored_names log)) (seen_distinct (stored_names log))

-- ---- notes of what is there

-- names that stand in a list
abbrev pub Stand : List (List ℕ) → List (List ℕ) → Type 0
Stand names = AllByRecursion (λ name. among name names ≡ true)

own_stand : (names : List (List ℕ)) → Stand names names
own_stand [] = tt
own_stand (x ∷ xs) =
    (ap (λ (b : Bool). b || among x xs) (same_self x), each_map (λ name. among name xs ≡ true) (λ name. among name (x ∷ xs) ≡ true) (λ name here. or_right (same_name name x) (among name xs) here) xs (own_stand xs))

seen_stand : (names : List (List ℕ)) → Stand names (first_seen names)
seen_stand names = seen_each (λ name. among name names ≡ true) names (own_stand names)

put_there : {V : Type 0} (f : List ℕ → V) (names : List (List ℕ)) (name : List ℕ) → among name names ≡ true → with_value name (f name) (with_values f (first_seen names)) ≡ with_values f (first_seen names)
put_there f names name known = sym (values_push name f f (λ other differ. refl) names) ∙ ap (with_values f) (seen_known name names known)

not_above : (n : ℕ) → nat_lt n n ≡ false
not_above n = grind arith

id_there : (log : List Chunk) (name : List ℕ) → among name (tag_names log) ≡ true → with_id (value_of name (sequences_of log)) name (latest_of log name) (sequences_of log) ≡ sequences_of log
id_there log name known =
    ap (λ (o : Option Latest). with_id o name (latest_of log name) (sequences_of log)) (value_seen name (latest_of log) (tag_names log) ∙ ap (λ (b : Bool). cond b (Some (latest_of log name)) None) known)
    ∙ ap (λ (b : Bool). cond b (with_value name (latest_of log name) (sequences_of log)) (sequences_of log)) (not_above (latest_of log name).id)

ids_there : (log : List Chunk) (offsets : List (List ℕ × ℕ)) (names : List (List ℕ)) → Stand (tag_names log) names
    → fold noted (tracked (sequences_of log) offsets) (map sequence_entry (with_values (latest_of log) names)) ≡ tracked (sequences_of log) offsets
ids_there log offsets [] stand = refl
ids_there log offsets (x ∷ xs) stand =
    ap (λ (s : List (List ℕ × Latest)). fold noted (tracked s offsets) (map sequence_entry (with_values (latest_of log) xs))) (id_there log x stand.0) ∙ ids_there log offsets xs stand.1

offsets_there : (log : List Chunk) (sequences : List (List ℕ × Latest)) (names : List (List ℕ)) → Stand (stored_names log) names
    → fold noted (tracked sequences (lasts_of log)) (map offset_entry (with_values (last_of log) names)) ≡ tracked sequences (lasts_of log)
offsets_there log sequences [] stand = refl
offsets_there log sequences (x ∷ xs) stand =
    ap (λ (o : List (List ℕ × ℕ)). fold noted (tracked sequences o) (map offset_entry (with_values (last_of log) xs))) (put_there (last_of log) (stored_names log) x stand.0) ∙ offsets_there log sequences xs stand.1

-- a snapshot's own entries change nothing
pub noted_again : (log : List Chunk) → fold noted (tracked_of log) (snapshot_items log) ≡ tracked_of log
noted_again log =
    let sequences = map sequence_entry (sequences_of log) in
    let offsets = map offset_entry (lasts_of log) in
    ap (fold noted (tracked_of log)) (sym (listed_of_log log))
    ∙ fold-append noted (tracked_of log) sequences offsets
    ∙ ap (λ (t : Tracked). fold noted t offsets) (ids_there log (lasts_of log) (first_seen (tag_names log)) (seen_stand (tag_names log)))
    ∙ offsets_there log (sequences_of log) (first_seen (stored_names log)) (seen_stand (stored_names log))
