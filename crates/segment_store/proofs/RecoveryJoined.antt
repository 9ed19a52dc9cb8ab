-- Recovery's steps, one after the other.
use Rattle.std.proofs.Common.{◌≡◌, ℕ, ◌+◌, ◌<◌, ◌^◌, List, [], length, drop, get_or, Ok, Err, Result, refl, sym, ◌∙◌, subst}
use Rattle.std.specs.Prelude.{IfOk, IsErrOf, OnOk}
use Rattle.disk_calls.specs.declared.file_id.FileId.{FileId}
use Rattle.disk_calls.specs.Disk.{DiskState, Looks}
use Rattle.chunk_format.specs.declared.chunk.Chunk.{Chunk}
use Rattle.segment_pairs.specs.declared.look.Headless.{Headless}
use Rattle.segment_pairs.specs.Log.{Finder}
use Rattle.segment_pairs.specs.Held.{files_of, BesidesPair, EachLog, KeepsLog, OutsideLog}
use Rattle.segment_pairs.proofs.Many.{log_held}
use Rattle.segment_store.specs.declared.fault.StoreFault.TheVariants as store
use Rattle.segment_store.specs.declared.rows.ChunkAt.{ChunkAt}
use Rattle.segment_store.specs.Recovery.{Adds, Clears, Ends, Exceeds, IsEnough, IsUneven, LogOrBefore, ReachedLast, Recovers, Restarts, SeenDamaged}
use Rattle.segment_store.proofs.RecoveryGhosts.{seen_same}
use Rattle.segment_store.proofs.RecoveryNumbers.{next_number}
use Rattle.segment_store.proofs.RecoveryFound.{LacksAt, ReadsAt, headless_log, read_log}
use Rattle.segment_store.proofs.RecoveryLast.{WalksTo, last_keeps, last_recovers, restart_ends, recovers_from, walks_more, told_damage}
use Rattle.segment_store.proofs.RecoveryDamage.{all_sound, broken_is, damaged_looks, enough_looks, exceeds_looks, misplaced_is, spoilt_last, uneven_looks}

pub on_ok : {T E A B : Type 0} (result : Result T E) → (A → B) → OnOk result A → OnOk result B
on_ok (Ok t) step a = step a
on_ok (Err e) step a = a

pub if_ok : {T E : Type 0} (P Q : T → Type 0) (result : Result T E) → ((t : T) → P t → Q t) → IfOk result P → IfOk result Q
if_ok P Q (Ok t) step p = step t p
if_ok P Q (Err e) step p = p

pub outside_looks : (stream : ℕ) (s t : DiskState) → Looks s t → OutsideLog stream s t
outside_looks stream s t looks = record { seen = λ f other. looks.seen f; images = λ f other c left. looks.images f c left }

-- ---- the last number

pub headless_keeps : (stream n : ℕ) (h : Headless) (rows : List ChunkAt) (chunks : List Chunk) (s t u : DiskState) → n < 2 ^ 64 → ((f : FileId) → t.images f (t.seen f)) → ReachedLast stream n rows chunks s → Looks s t → LacksAt stream n h t → BesidesPair stream n t u → LogOrBefore stream n [] t u → KeepsLog stream s u
headless_keeps stream n h rows chunks s t u lt law last looks lacks besides before = last_keeps stream n [] rows chunks s t u lt law last looks (λ F. headless_log F stream n h t lacks) besides before

pub headless_recovers : (stream n : ℕ) (h : Headless) (rows : List ChunkAt) (chunks : List Chunk) (s t u : DiskState) {T E : Type 0} (result : Result T E) → n < 2 ^ 64 → ((f : FileId) → t.images f (t.seen f)) → ReachedLast stream n rows chunks s → Looks s t → LacksAt stream n h t → BesidesPair stream n t u
    → OnOk result (Restarts stream n u) → OnOk result (Recovers stream rows chunks s u)
headless_recovers stream n h rows chunks s t u result lt law last looks lacks besides told =
    on_ok result (λ restarts. last_recovers stream n [] rows rows chunks chunks s t u lt law last looks (λ F. headless_log F stream n h t lacks) besides (restart_ends stream n [] rows rows chunks chunks u refl refl refl restarts)) told

pub reads_keep : (stream n place index_place end : ℕ) (cs : List Chunk) (size index_size : ℕ) (rows : List ChunkAt) (chunks : List Chunk) (s t u : DiskState) → n < 2 ^ 64 → ((f : FileId) → t.images f (t.seen f)) → ReachedLast stream n rows chunks s → Looks s t
    → ReadsAt stream n place index_place end cs size index_size t → BesidesPair stream n t u → LogOrBefore stream n cs t u → KeepsLog stream s u
reads_keep stream n place index_place end cs size index_size rows chunks s t u lt law last looks reads besides before =
    last_keeps stream n cs rows chunks s t u lt law last looks (λ F. read_log F stream n place index_place end cs size index_size t reads) besides before

pub reads_recover : (stream n place index_place end : ℕ) (cs : List Chunk) (size index_size : ℕ) (rows more_rows : List ChunkAt) (chunks more_chunks : List Chunk) (s t u : DiskState) {T E : Type 0} (result : Result T E) → n < 2 ^ 64 → ((f : FileId) → t.images f (t.seen f)) → ReachedLast stream n rows chunks s → Looks s t
    → ReadsAt stream n place index_place end cs size index_size t → BesidesPair stream n t u → OnOk result (Ends stream n cs rows more_rows chunks more_chunks u) → OnOk result (Recovers stream more_rows more_chunks s u)
reads_recover stream n place index_place end cs size index_size rows more_rows chunks more_chunks s t u result lt law last looks reads besides told =
    on_ok result (λ ends. last_recovers stream n cs rows more_rows chunks more_chunks s t u lt law last looks (λ F. read_log F stream n place index_place end cs size index_size t reads) besides ends) told

pub last_damaged : (F : Finder) (stream n segment at : ℕ) (rows : List ChunkAt) (chunks : List Chunk) (s t : DiskState) → n < 2 ^ 64 → ((f : FileId) → s.images f (s.seen f)) → ReachedLast stream n rows chunks s → Looks s t → (segment ≡ n) × Exceeds n (files_of stream t.seen n) at → SeenDamaged F stream s segment at
last_damaged F stream n segment at rows chunks s t lt law last looks told =
    subst (λ (k : ℕ). SeenDamaged F stream s k at) (sym told.0) (spoilt_last F stream n at rows chunks s lt law last (exceeds_looks stream n at s t looks told.1))

pub last_sound : (F : Finder) (stream n segment at : ℕ) (rows : List ChunkAt) (chunks : List Chunk) (s t : DiskState) {T E : Type 0} (result : Result T E) → n < 2 ^ 64 → ((f : FileId) → s.images f (s.seen f)) → ReachedLast stream n rows chunks s → Looks s t → OnOk result (IsEnough n (files_of stream t.seen n))
    → OnOk result (SeenDamaged F stream s segment at → ⊥)
last_sound F stream n segment at rows chunks s t result lt law last looks told =
    on_ok result (λ enough damaged. all_sound F stream n rows chunks s lt law last (enough_looks stream n s t looks enough) segment at damaged) told

-- ---- the walk

pub walks_on : (stream n next k : ℕ) (numbers : List ℕ) (rows more_rows : List ChunkAt) (chunks more_chunks : List Chunk) (end : ℕ) (s t : DiskState) → k < length numbers → next ≡ get_or numbers k 0 → Looks s t → WalksTo stream n rows chunks (drop k numbers) s → Adds stream n rows more_rows chunks more_chunks t end → next ≡ end
    → WalksTo stream next more_rows more_chunks (drop (k + 1) numbers) t
walks_on stream n next k numbers rows more_rows chunks more_chunks end s t lt at looks w a is =
    walks_more stream n next (drop (k + 1) numbers) rows more_rows chunks more_chunks end s t looks (subst (λ (l : List ℕ). WalksTo stream n rows chunks l s) (next_number k numbers next lt at) w) a is

pub walks_broken : (F : Finder) (stream n next segment at k : ℕ) (numbers : List ℕ) (rows : List ChunkAt) (chunks : List Chunk) (s t u : DiskState) → k < length numbers → next ≡ get_or numbers k 0 → ((f : FileId) → t.images f (t.seen f)) → Looks s t → Looks t u
    → WalksTo stream n rows chunks (drop k numbers) t → (segment ≡ n) × IsUneven n (files_of stream u.seen n) at → SeenDamaged F stream s segment at
walks_broken F stream n next segment at k numbers rows chunks s t u in_range at_next law looks more w told =
    damaged_looks F stream s t segment at looks (subst (λ (j : ℕ). SeenDamaged F stream t j at) (sym told.0)
    (broken_is F stream n next at (drop (k + 1) numbers) rows chunks t law (subst (λ (l : List ℕ). WalksTo stream n rows chunks l t) (next_number k numbers next in_range at_next) w) (uneven_looks stream n at t u more told.1)))

pub walks_misplaced : {T : Type 0} (F : Finder) (stream n next segment at k : ℕ) (numbers : List ℕ) (rows more_rows : List ChunkAt) (chunks more_chunks : List Chunk) (end : ℕ) (s t u : DiskState) → k < length numbers → next ≡ get_or numbers k 0 → ((f : FileId) → u.images f (u.seen f)) → Looks s t → Looks t u
    → WalksTo stream n rows chunks (drop k numbers) t → Adds stream n rows more_rows chunks more_chunks u end → (next ≡ end → ⊥) → IsErrOf {T = T} (Err (store.Damaged next 0)) (store.Damaged segment at) → SeenDamaged F stream s segment at
walks_misplaced F stream n next segment at k numbers rows more_rows chunks more_chunks end s t u in_range at_next law looks more w a ne is =
    let same = told_damage next 0 segment at is in
    let found = misplaced_is F stream n next (drop (k + 1) numbers) rows more_rows chunks more_chunks end t u law more (subst (λ (l : List ℕ). WalksTo stream n rows chunks l t) (next_number k numbers next in_range at_next) w) a ne in
    let here : SeenDamaged F stream u segment at = subst (λ (j : ℕ). SeenDamaged F stream u segment j) same.1 (subst (λ (j : ℕ). SeenDamaged F stream u j 0) same.0 found) in
    damaged_looks F stream s t segment at looks (damaged_looks F stream t u segment at more here)

-- ---- behind the first pass

pub cleared_recovers : (stream : ℕ) (numbers : List ℕ) (rows : List ChunkAt) (chunks : List Chunk) (s t u : DiskState) → Clears stream s t numbers → Recovers stream rows chunks t u → Recovers stream rows chunks s u
cleared_recovers stream numbers rows chunks s t u clears r = recovers_from stream rows chunks s t u (λ F. seen_same F stream s t clears.same) r

pub recovers_exactly : (stream : ℕ) (rows : List ChunkAt) (chunks : List Chunk) (s t : DiskState) → Recovers stream rows chunks s t → EachLog stream (λ log. log ≡ chunks) t
recovers_exactly stream rows chunks s t r F pick picks = log_held F stream r.segments t pick r.stands.held picks ∙ sym r.are
