-- The snapshot of all chunks.
use Rattle.std.proofs.Common.{◌≡◌, ℕ, ◌+◌, ◌<◌, ◌^◌, Bool, List, [], ◌∷◌, length, Result, Ok, Err, IfOk, sym, ap, subst, ◌∙◌}
use Rattle.std.specs.Prelude.{ℤ, IsTrue, ◌↔◌}
use Rattle.std.specs.Int.{w64}
use Rattle.std.specs.Int.RustNames.{FitsSigned}
use Rattle.chunk_format.specs.declared.entry.Entry.{Entry}
use Rattle.chunk_format.specs.declared.chunk.Chunk.{Chunk}
use Rattle.chunk_format.specs.declared.chunk.ChunkKind.TheVariants.{Snapshot}
use Rattle.chunk_format.specs.Chunks.{IsChunk}
use Rattle.chunk_format.specs.Logs.{IsLog, end_of, opening_chunk}
use Rattle.chunk_format.specs.ByName.{snapshot_body, snapshot_entry_of}
use Rattle.chunk_format.proofs.LinkLaws.{linked_each}
use Rattle.chunk_format.proofs.SnapshotLaws.{opening_right}
use Rattle.tracking_state.specs.Tracked.{Tracked, tracked_of, body_of}
use Rattle.tracking_state.proofs.Calls.{body_of_log}
use Rattle.epoch_coordinator.specs.MemberSteps.{is_true_after}
use Rattle.member_core.specs.Kept.{LogState, whole, snapshot_chunk}
use Rattle.member_core.proofs.Keeping.{parts, whole_parts}
use Rattle.member_core.proofs.Truths.{is_truth}

-- what was tracked of the code's list is tracked of all chunks
pub tracks_whole : (written : ℕ) (chunks lent : List Chunk) (l : LogState) (tracking : Tracked) → parts written chunks ≡ l → lent ≡ chunks → tracking ≡ tracked_of lent → tracking ≡ tracked_of (whole l)
tracks_whole written chunks lent l tracking view same tracks = tracks ∙ ap tracked_of (same ∙ sym (whole_parts written chunks l view))

pub body_fits : (tracking : Tracked) (chunks : List Chunk) → tracking ≡ tracked_of chunks → length (snapshot_body chunks) < 2 ^ 31 → length (body_of tracking) < 2 ^ 31
body_fits tracking chunks tracks fits = subst (λ (body : List ℕ). length body < 2 ^ 31) (sym (body_of_log tracking chunks tracks)) fits

pub snapshot_same : (epoch : ℕ) (stamp same_stamp : ℤ) (first : ℕ) (entry : Entry) (chunks : List Chunk) → same_stamp ≡ stamp → first ≡ end_of chunks → entry ≡ snapshot_entry_of chunks → snapshot_chunk epoch same_stamp first entry ≡ opening_chunk epoch stamp chunks
snapshot_same epoch stamp same_stamp first entry chunks stamp_is first_is entry_is =
    ap (λ (s : ℤ). snapshot_chunk epoch s first entry) stamp_is ∙ ap (λ (n : ℕ). snapshot_chunk epoch stamp n entry) first_is ∙ ap (λ (e : Entry). snapshot_chunk epoch stamp (end_of chunks) e) entry_is

pub snapshot_right : (epoch : ℕ) (stamp same_stamp : ℤ) (first : ℕ) (entry : Entry) (chunks : List Chunk) → same_stamp ≡ stamp → first ≡ end_of chunks → entry ≡ snapshot_entry_of chunks → IsLog chunks → FitsSigned w64 stamp → epoch < 2 ^ 64 → end_of chunks + 1 < 2 ^ 64 → length (snapshot_body chunks) < 2 ^ 31 → IsChunk (snapshot_chunk epoch same_stamp first entry)
snapshot_right epoch stamp same_stamp first entry chunks stamp_is first_is entry_is log stamp_fits epoch_fits end_fits body_fits =
    subst IsChunk (sym (snapshot_same epoch stamp same_stamp first entry chunks stamp_is first_is entry_is)) (opening_right epoch stamp chunks (linked_each 0 0 chunks log) stamp_fits epoch_fits end_fits body_fits)

pub made_is : {E : Type 0} (result : Result Chunk E) (a b : Chunk) → a ≡ b → IfOk result (λ c. c ≡ a) → IfOk result (λ c. c ≡ b)
made_is result a b is made = subst (λ (x : Chunk). IfOk result (λ c. c ≡ x)) is made

pub answers_truth : {E : Type 0} (result : Result Bool E) (chunks : List Chunk) (c : Chunk) → IsChunk c → IfOk result (λ b. IsTrue b ↔ (c.kind ≡ Snapshot → c.entries ≡ snapshot_entry_of chunks ∷ [])) → IfOk result (λ b. b ≡ is_true_after chunks c.kind c)
answers_truth (Ok b) chunks c right so = is_truth chunks c b right so
answers_truth (Err e) chunks c right so = tt
