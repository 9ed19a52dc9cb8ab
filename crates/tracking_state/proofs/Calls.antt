-- What calls say of what is tracked of a log.
use Rattle.std.proofs.Common.{◌≡◌, ℕ, zero, suc, ◌+◌, ◌-◌, ◌<◌, List, [], ◌∷◌, ◌++◌, map, length, take, drop, get_or, slice_get, IfSome, subst, append_assoc, arith, Option, Some, None, Result, Ok, Err, OnOk, sym, ap, ◌∙◌}
use Rattle.std.specs.List.{All, HoldsAt, flat_map, fold}
use Rattle.std.specs.Option.{option_map}
use Rattle.std.proofs.lemmas.Grind.{flat_map-append}
use Rattle.std.proofs.lemmas.List.{append-nil, map-append, take_rest, take-append-drop, take_more}
use Rattle.std.proofs.lemmas.List.Elements.{All-head, All-tail, All-take, All-more, All-from_recursion, at_read}
use Rattle.std.proofs.Math.Seq.{drop-cons}
use Rattle.chunk_format.specs.declared.chunk.ChunkKind.TheVariants.{Snapshot}
use Rattle.chunk_format.specs.Tags.{SnapshotEntry, snapshot_bytes, IsSnapshot, SpellsSnapshot}
use Rattle.chunk_format.specs.Chunks.{IsChunk, IsOneSimple}
use Rattle.chunk_format.specs.Logs.{Truthful}
use Rattle.chunk_format.specs.ByName.{snapshot_items, snapshot_body, snapshot_entry_of}
use Rattle.chunk_format.proofs.SnapshotLaws.{items_right}
use Rattle.chunk_format.proofs.TruthLaws.{truthful_push}
use Rattle.chunk_format.specs.declared.chunk.Chunk.{Chunk}
use Rattle.chunk_format.specs.ByName.{Greatest, LastStored}
use Rattle.tracking_state.specs.declared.note.Latest.{Latest}
use Rattle.tracking_state.specs.Tracked.{Tracked, tracked_of, sequence_entry, offset_entry, body_of, IsTracked}
use Rattle.tracking_state.specs.Notes.{value_of, noted}
use Rattle.tracking_state.proofs.Tracks.{sequences_of, lasts_of, snapshot_noted}
use Rattle.tracking_state.proofs.Listed.{greatest_found, stored_found, listed_of_log, parts}
use Rattle.tracking_state.proofs.Restored.{tracked, all_noted}

pub on_ok : {T E A B : Type 0} (r : Result T E) → OnOk r A → (A → B) → OnOk r B
on_ok (Ok v) a h = h a
on_ok (Err e) a h = a

pub greatest_is : (found : Option Latest) (sequences : List (List ℕ × Latest)) (offsets : List (List ℕ × ℕ)) (t : Tracked) (name : List ℕ) (log : List Chunk)
    → found ≡ value_of name sequences → tracked sequences offsets ≡ t → t ≡ tracked_of log → option_map (λ (l : Latest). l.id) found ≡ Greatest name log
greatest_is found sequences offsets t name log is view tracks =
    let same : sequences ≡ sequences_of log = ap (λ (s : Tracked). s.sequences) (view ∙ tracks) in
    ap (option_map (λ (l : Latest). l.id)) (is ∙ ap (value_of name) same) ∙ greatest_found name log

pub stored_is : (found : Option ℕ) (sequences : List (List ℕ × Latest)) (offsets : List (List ℕ × ℕ)) (t : Tracked) (name : List ℕ) (log : List Chunk)
    → found ≡ value_of name offsets → tracked sequences offsets ≡ t → t ≡ tracked_of log → found ≡ LastStored name log
stored_is found sequences offsets t name log is view tracks =
    let same : offsets ≡ lasts_of log = ap (λ (s : Tracked). s.offsets) (view ∙ tracks) in
    is ∙ ap (value_of name) same ∙ stored_found name log

-- ---- items one by one

pub put_right : {V : Type 0} (entry : V → SnapshotEntry) (pairs : List V) (k : ℕ) (p : V) → All IsSnapshot (map entry pairs) → slice_get pairs k ≡ Some p → IsSnapshot (entry p)
put_right entry [] k p right is = absurd cc
put_right entry (x ∷ xs) zero p right is = let same : x ≡ p = cc in subst (λ v. IsSnapshot (entry v)) same (All-head IsSnapshot (entry x) (map entry xs) right)
put_right entry (x ∷ xs) (suc k) p right is = put_right entry xs k p (All-tail IsSnapshot (entry x) (map entry xs) right) is

take_next : {V : Type 0} (pairs : List V) (k : ℕ) (p : V) → slice_get pairs k ≡ Some p → take (suc k) pairs ≡ take k pairs ++ p ∷ []
take_next [] k p is = absurd cc
take_next {V} (x ∷ xs) zero p is = let same : x ≡ p = cc in ap (λ (v : V). v ∷ []) same
take_next {V} (x ∷ xs) (suc k) p is = ap (λ (l : List V). x ∷ l) (take_next xs k p is)

pub put_more : {V : Type 0} (entry : V → SnapshotEntry) (pairs : List V) (k : ℕ) (p : V) (before out new : List ℕ) → slice_get pairs k ≡ Some p → out ≡ before ++ flat_map snapshot_bytes (map entry (take k pairs))
    → new ≡ out ++ snapshot_bytes (entry p) → new ≡ before ++ flat_map snapshot_bytes (map entry (take (k + 1) pairs))
put_more {V} entry pairs k p before out new at is new_is =
    let bytes : List V → List ℕ = λ l. flat_map snapshot_bytes (map entry l) in
    let next : k + 1 ≡ suc k = omega arith in
    let one : bytes (take (k + 1) pairs) ≡ bytes (take k pairs) ++ snapshot_bytes (entry p) =
    ap (λ (n : ℕ). bytes (take n pairs)) next ∙ ap bytes (take_next pairs k p at) ∙ ap (flat_map snapshot_bytes) (map-append entry (take k pairs) (p ∷ [])) ∙ flat_map-append snapshot_bytes (map entry (take k pairs)) (entry p ∷ [])
    ∙ ap (λ (l : List ℕ). bytes (take k pairs) ++ l) (append-nil (snapshot_bytes (entry p))) in
    new_is ∙ ap (λ (l : List ℕ). l ++ snapshot_bytes (entry p)) is ∙ append_assoc before (bytes (take k pairs)) (snapshot_bytes (entry p)) ∙ ap (λ (l : List ℕ). before ++ l) (sym one)

-- ---- a snapshot

pub sequences_right : (len : ℕ) (t : Tracked) → IsTracked len t → All IsSnapshot (map sequence_entry t.sequences)
sequences_right len t is = All-from_recursion IsSnapshot (map sequence_entry t.sequences) (parts t is.1).0

pub offsets_right : (len : ℕ) (t : Tracked) → IsTracked len t → All IsSnapshot (map offset_entry t.offsets)
offsets_right len t is = All-from_recursion IsSnapshot (map offset_entry t.offsets) (parts t is.1).1

pub body_of_log : (t : Tracked) (log : List Chunk) → t ≡ tracked_of log → body_of t ≡ snapshot_body log
body_of_log t log tracks = ap body_of tracks ∙ ap (flat_map snapshot_bytes) (listed_of_log log)

pub written_is : (sequences : List (List ℕ × Latest)) (offsets : List (List ℕ × ℕ)) (t : Tracked) (start one body : List ℕ) → tracked sequences offsets ≡ t → start ≡ []
    → one ≡ start ++ flat_map snapshot_bytes (map sequence_entry sequences) → body ≡ one ++ flat_map snapshot_bytes (map offset_entry offsets) → body ≡ body_of t
written_is sequences offsets t start one body view none first second =
    let a = flat_map snapshot_bytes (map sequence_entry sequences) in
    let b = flat_map snapshot_bytes (map offset_entry offsets) in
    second ∙ ap (λ (l : List ℕ). l ++ b) (first ∙ ap (λ (l : List ℕ). l ++ a) none) ∙ sym (flat_map-append snapshot_bytes (map sequence_entry sequences) (map offset_entry offsets)) ∙ ap body_of view

pub len_is : (len : ℕ) (sequences : List (List ℕ × Latest)) (offsets : List (List ℕ × ℕ)) (t : Tracked) (log : List Chunk) → IsTracked len (tracked sequences offsets) → tracked sequences offsets ≡ t → t ≡ tracked_of log
    → len ≡ length (snapshot_body log)
len_is len sequences offsets t log is view tracks = is.0 ∙ ap length (ap body_of view ∙ body_of_log t log tracks)

pub restored_is : (snapshot : Chunk) (body : List ℕ) (log : List Chunk) (old new : Tracked) → All IsChunk log → snapshot.entries ≡ snapshot_entry_of log ∷ []
    → ((listed : List ℕ) → IsOneSimple snapshot.entries listed → body ≡ listed) → old ≡ tracked_of [] → ((items : List SnapshotEntry) → SpellsSnapshot body items → new ≡ fold noted old items) → new ≡ tracked_of log
restored_is snapshot body log old new all one here empty notes =
    let is : body ≡ snapshot_body log = here (snapshot_body log) one in
    notes (snapshot_items log) (items_right log all, is) ∙ ap (λ (t : Tracked). fold noted t (snapshot_items log)) empty ∙ all_noted log

-- ---- from the last snapshot on

-- the last of the chunks up to a place that are snapshots
abbrev pub LastSnapshot : List Chunk → ℕ → Option ℕ → Type 0
LastSnapshot log end last = IfSome last (λ place. (place < end) × HoldsAt (λ (c : Chunk). c.kind ≡ Snapshot) log place)

pub last_here : (log : List Chunk) (place : ℕ) (new : Option ℕ) (c : Chunk) → place < length log → c ≡ get_or log place c → c.kind ≡ Snapshot → new ≡ Some place → LastSnapshot log (place + 1) new
last_here log place new c within is kind new_is = subst (LastSnapshot log (place + 1)) (sym new_is) (omega arith, at_read log (λ (x : Chunk). x.kind ≡ Snapshot) place c within is kind)

last_later : (log : List Chunk) (place : ℕ) (old : Option ℕ) → LastSnapshot log place old → LastSnapshot log (place + 1) old
last_later log place None last = tt
last_later log place (Some p) last = (let before = last.0 in omega arith, last.1)

pub last_same : (log : List Chunk) (place : ℕ) (old new : Option ℕ) → LastSnapshot log place old → new ≡ old → LastSnapshot log (place + 1) new
last_same log place old new last new_is = subst (LastSnapshot log (place + 1)) (sym new_is) (last_later log place old last)

pub each_more : (log : List Chunk) (place : ℕ) (c : Chunk) → place < length log → c ≡ get_or log place c → IsChunk c → All IsChunk (take place log) → All IsChunk (take (place + 1) log)
each_more log place c within is right each = All-more IsChunk log place c within each (subst IsChunk is right)

pub split_log : (log : List Chunk) (k : ℕ) (c : Chunk) → k < length log → c ≡ get_or log k c → log ≡ take k log ++ c ∷ drop (k + 1) log
split_log log k c within is =
    let next : suc k ≡ k + 1 = omega arith in
    sym (take-append-drop k log) ∙ ap (λ (l : List Chunk). take k log ++ l) (drop-cons log k c within ∙ ap (λ (x : Chunk). x ∷ drop (suc k) log) (sym is) ∙ ap (λ (n : ℕ). c ∷ drop n log) next)

pub from_last : (log : List Chunk) (k : ℕ) (c : Chunk) (t : Tracked) → Truthful log → All IsChunk log → k < length log → HoldsAt (λ (x : Chunk). x.kind ≡ Snapshot) log k → c ≡ get_or log k c
    → ((before : List Chunk) → All IsChunk before → c.entries ≡ snapshot_entry_of before ∷ [] → t ≡ tracked_of before) → t ≡ tracked_of (take k log ++ c ∷ [])
from_last log k c t truthful all within kinds is restored =
    let kind : c.kind ≡ Snapshot = ap (λ (x : Chunk). x.kind) is ∙ kinds c in
    let entries = truthful (take k log) c (drop (k + 1) log) (split_log log k c within is) kind in
    restored (take k log) (All-take IsChunk k log all) entries ∙ sym (snapshot_noted (take k log) c kind)

pub all_rest : (log : List Chunk) (k : ℕ) (c : Chunk) (rest : List Chunk) → k < length log → c ≡ get_or log k c → rest ≡ take (length log - (k + 1)) (drop (k + 1) log) → (take k log ++ c ∷ []) ++ rest ≡ log
all_rest log k c rest within is rest_is =
    append_assoc (take k log) (c ∷ []) rest ∙ ap (λ (l : List Chunk). take k log ++ c ∷ l) (rest_is ∙ take_rest log (k + 1)) ∙ sym (split_log log k c within is)

-- one chunk more that agrees
pub take_log : (log : List Chunk) (place : ℕ) (c : Chunk) → place < length log → c ≡ get_or log place c → take (place + 1) log ≡ take place log ++ c ∷ []
take_log log place c within is = take_more log place c within ∙ ap (λ (x : Chunk). take place log ++ x ∷ []) (sym is)

pub truthful_more : (log : List Chunk) (place : ℕ) (c : Chunk) → place < length log → c ≡ get_or log place c → Truthful (take place log)
    → (c.kind ≡ Snapshot → c.entries ≡ snapshot_entry_of (take place log) ∷ []) → Truthful (take (place + 1) log)
truthful_more log place c within is before agrees = subst Truthful (sym (take_log log place c within is)) (truthful_push (take place log) c before agrees)

pub tracks_more : (log : List Chunk) (place : ℕ) (c : Chunk) (t : Tracked) → place < length log → c ≡ get_or log place c → t ≡ tracked_of (take place log ++ c ∷ []) → t ≡ tracked_of (take (place + 1) log)
tracks_more log place c t within is tracks = tracks ∙ ap tracked_of (sym (take_log log place c within is))
