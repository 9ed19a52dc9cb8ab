-- What is kept of a list stays right when the list changes.
use Rattle.std.proofs.Common.{◌≡◌, ℕ, suc, ◌+◌, ◌≤◌, ◌<◌, List, [], ◌∷◌, ◌++◌, length, take, drop, get_or, sym, ap, subst, ◌∙◌, arith, length-append, length-drop}
use Rattle.std.proofs.lemmas.List.{take_all, drop_all, length-take-le, take-append-le, drop-append-le, take-append-drop, append-nil}
use Rattle.std.proofs.Math.Seq.{drop-cons}
use Rattle.chunk_format.specs.declared.chunk.Chunk.{Chunk}
use Rattle.chunk_format.specs.declared.chunk.ChunkKind.{ChunkKind}
use Rattle.chunk_format.specs.Chunks.{chunk_bytes, end_of_chunk, IsChunk}
use Rattle.chunk_format.specs.Logs.{IsLog, Truthful, last_epoch}
use Rattle.chunk_format.proofs.LinkLaws.{linked_push, linked_front, epoch_grows}
use Rattle.chunk_format.proofs.TruthLaws.{truthful_push, truthful_front}
use Rattle.tracking_state.specs.Tracked.{Tracked, tracked_of}
use Rattle.epoch_coordinator.specs.declared.tail.Run.{Run}
use Rattle.epoch_coordinator.specs.Tails.{runs_of}
use Rattle.epoch_coordinator.specs.MemberSteps.{cut_at}
use Rattle.epoch_coordinator.specs.Offers.{counted_by}
use Rattle.member_core.specs.Kept.{LogState, whole, only, with_chunk, GoesBehind, plain_count, ended, with_run, IsKept, AreCounted, IsKnown}
use Rattle.member_core.proofs.CountLaws.{counted_push}
use Rattle.member_core.proofs.RunLaws.{runs_more}
use Rattle.member_core.proofs.EndLaws.{cut_is}

-- a list in two parts, of which so many are written
abbrev pub parts : ℕ → List Chunk → LogState
parts written chunks = record { log = take written chunks; ahead = drop written chunks }

pub whole_parts : (written : ℕ) (chunks : List Chunk) (l : LogState) → parts written chunks ≡ l → whole l ≡ chunks
whole_parts written chunks l is = ap whole (sym is) ∙ take-append-drop written chunks

-- all that is kept of a list
abbrev pub Keeps : List Chunk → ℕ → List Run → ℕ → ℕ → ℕ → ℕ → Tracked → Type 0
Keeps chunks written runs bytes since waiting count tracking = IsKept chunks written runs × AreCounted chunks (drop written chunks) bytes since waiting × IsKnown chunks count tracking

known_push : (chunks : List Chunk) (c : Chunk) (count : ℕ) (tracking : Tracked) → IsKnown chunks count tracking → IsKnown (chunks ++ c ∷ []) count tracking
known_push chunks c count tracking is =
    let within = is.within in
    let longer = length-append chunks (c ∷ []) in
    record { within = omega arith; tracks = is.tracks ∙ ap tracked_of (sym (take-append-le count chunks (c ∷ []) within)) }

kept_push : (chunks : List Chunk) (c : Chunk) (written : ℕ) (runs : List Run) → GoesBehind chunks c → IsChunk c → IsKept chunks written runs → IsKept (chunks ++ c ∷ []) written runs
kept_push chunks c written runs goes right is =
    let within = is.within in
    let longer = length-append chunks (c ∷ []) in
    record {
      is_log = linked_push 0 0 chunks c is.is_log goes.begins goes.not_before right;
      truthful = truthful_push chunks c is.truthful goes.truthful;
      within = omega arith;
      runs_are = is.runs_are ∙ ap runs_of (sym (take-append-le written chunks (c ∷ []) within));
    }

-- ---- one chunk more

pub put_keeps : (l : LogState) (chunks new : List Chunk) (c : Chunk) (written : ℕ) (runs : List Run) (bytes since waiting more_bytes more_since more_waiting count : ℕ) (tracking : Tracked) → parts written chunks ≡ l → GoesBehind (whole l) c → IsChunk c → new ≡ chunks ++ c ∷ []
    → Keeps chunks written runs bytes since waiting count tracking → more_bytes ≡ bytes + length (chunk_bytes c) → more_since ≡ counted_by c.kind since → more_waiting ≡ waiting + counted_by c.kind 0 → Keeps new written runs more_bytes more_since more_waiting count tracking
put_keeps l chunks new c written runs bytes since waiting more_bytes more_since more_waiting count tracking view goes right is keeps b s w =
    let within = keeps.0.within in
    let goes_on = subst (λ (x : List Chunk). GoesBehind x c) (whole_parts written chunks l view) goes in
    let counted = counted_push chunks (drop written chunks) c bytes since waiting more_bytes more_since more_waiting keeps.1 b s w in
    let kept : Keeps (chunks ++ c ∷ []) written runs more_bytes more_since more_waiting count tracking =
    (kept_push chunks c written runs goes_on right keeps.0, subst (λ (x : List Chunk). AreCounted (chunks ++ c ∷ []) x more_bytes more_since more_waiting) (sym (drop-append-le written chunks (c ∷ []) within)) counted, known_push chunks c count tracking keeps.2) in
    subst (λ (x : List Chunk). Keeps x written runs more_bytes more_since more_waiting count tracking) (sym is) kept

pub put_shows : (l : LogState) (chunks new : List Chunk) (c : Chunk) (written : ℕ) → parts written chunks ≡ l → written ≤ length chunks → new ≡ chunks ++ c ∷ [] → parts written new ≡ with_chunk c l
put_shows l chunks new c written view within is =
    ap (parts written) is ∙ ap (λ (x : List Chunk). record { log = x; ahead = drop written (chunks ++ c ∷ []) }) (take-append-le written chunks (c ∷ []) within)
    ∙ ap (λ (x : List Chunk). record { log = take written chunks; ahead = x }) (drop-append-le written chunks (c ∷ []) within)
    ∙ ap (with_chunk c) view

-- ---- a chunk that waited is written

pub some_wait : (written : ℕ) (chunks : List Chunk) (l : LogState) → parts written chunks ≡ l → 0 < length l.ahead → written < length chunks
some_wait written chunks l view some =
    let longer = length-drop written chunks in
    let same = ap (λ (x : LogState). length x.ahead) view in
    omega arith

pub write_keeps : (chunks : List Chunk) (c : Chunk) (written : ℕ) (runs new : List Run) (run : Run) (kind : ChunkKind) (bytes since waiting left count : ℕ) (tracking : Tracked) → written < length chunks → c ≡ get_or chunks written c → kind ≡ c.kind → run.epoch ≡ c.epoch → run.end ≡ end_of_chunk c
    → new ≡ with_run runs run → left + counted_by kind 0 ≡ waiting → Keeps chunks written runs bytes since waiting count tracking → Keeps chunks (written + 1) new bytes since left count tracking
write_keeps chunks c written runs new run kind bytes since waiting left count tracking within is same_kind epoch end added counted keeps =
    let next : suc written ≡ written + 1 = omega arith in
    let ahead : drop written chunks ≡ c ∷ drop (written + 1) chunks = drop-cons chunks written c within ∙ ap (λ (x : Chunk). x ∷ drop (suc written) chunks) (sym is) ∙ ap (λ (n : ℕ). c ∷ drop n chunks) next in
    let waited = keeps.1.waiting_is ∙ ap plain_count ahead in
    let kinds = ap (λ (k : ChunkKind). counted_by k 0) same_kind in (
      record { is_log = keeps.0.is_log; truthful = keeps.0.truthful; within = omega arith; runs_are = runs_more chunks written c runs new run within is epoch end keeps.0.runs_are added },
      record { bytes_are = keeps.1.bytes_are; since_is = keeps.1.since_is; waiting_is = omega (arith, waited, kinds, counted) },
      keeps.2,
    )

-- ---- a cut

-- what is kept of a front
pub front_keeps : (chunks new : List Chunk) (kept : ℕ) (runs : List Run) (bytes since waiting count : ℕ) (tracking : Tracked) → kept ≤ length chunks → IsLog chunks → Truthful chunks → new ≡ take kept chunks → runs ≡ runs_of (take kept chunks) → AreCounted (take kept chunks) [] bytes since waiting
    → count ≡ 0 → tracking ≡ tracked_of [] → Keeps new kept runs bytes since waiting count tracking
front_keeps chunks new kept runs bytes since waiting count tracking within log truthful is runs_are counted none nothing =
    let front = take kept chunks in
    let all : length front ≡ kept = length-take-le kept chunks within in
    let whole_front : take kept front ≡ front = take_all kept front (omega arith) in
    let nothing_left : drop kept front ≡ [] = drop_all kept front (omega arith) in
    let split : front ++ drop kept chunks ≡ chunks = take-append-drop kept chunks in
    let keeps : Keeps front kept runs bytes since waiting count tracking = (
      record {
        is_log = linked_front 0 0 front (drop kept chunks) (subst IsLog (sym split) log);
        truthful = truthful_front front (drop kept chunks) (subst Truthful (sym split) truthful);
        within = omega arith;
        runs_are = runs_are ∙ ap runs_of (sym whole_front);
      },
      subst (λ (x : List Chunk). AreCounted front x bytes since waiting) (sym nothing_left) counted,
      record { within = omega arith; tracks = nothing ∙ ap (λ (n : ℕ). tracked_of (take n front)) (sym none) },
    ) in
    subst (λ (x : List Chunk). Keeps x kept runs bytes since waiting count tracking) (sym is) keeps

pub cut_shows : (l : LogState) (chunks new : List Chunk) (written end kept : ℕ) → parts written chunks ≡ l → l.ahead ≡ [] → IsLog chunks → kept ≤ length chunks → kept ≡ ended end chunks → new ≡ take kept chunks → parts kept new ≡ only (cut_at end l.log)
cut_shows l chunks new written end kept view none log within place is =
    let front = take kept chunks in
    let all : length front ≡ kept = length-take-le kept chunks within in
    let same : chunks ≡ l.log = sym (whole_parts written chunks l view) ∙ ap (λ (x : List Chunk). l.log ++ x) none ∙ append-nil l.log in
    ap (parts kept) is
    ∙ ap (λ (x : List Chunk). record { log = x; ahead = drop kept front }) (take_all kept front (omega arith))
    ∙ ap (λ (x : List Chunk). record { log = front; ahead = x }) (drop_all kept front (omega arith))
    ∙ ap only (ap (λ (k : ℕ). take k chunks) place ∙ sym (cut_is end chunks log) ∙ ap (cut_at end) same)

-- a front ends in no later epoch
pub cut_falls : (l : LogState) (chunks new : List Chunk) (written kept : ℕ) → parts written chunks ≡ l → l.ahead ≡ [] → IsLog chunks → kept ≤ length chunks → new ≡ take kept chunks → last_epoch (take kept new) ≤ last_epoch l.log
cut_falls l chunks new written kept view none log within is =
    let front = take kept chunks in
    let all : length front ≡ kept = length-take-le kept chunks within in
    let same : chunks ≡ l.log = sym (whole_parts written chunks l view) ∙ ap (λ (x : List Chunk). l.log ++ x) none ∙ append-nil l.log in
    let split : front ++ drop kept chunks ≡ chunks = take-append-drop kept chunks in
    let grows = epoch_grows front (drop kept chunks) (subst IsLog (sym split) log) in
    let whole_epoch : last_epoch (front ++ drop kept chunks) ≡ last_epoch l.log = ap last_epoch (split ∙ same) in
    let here : take kept new ≡ front = ap (take kept) is ∙ take_all kept front (omega arith) in
    let front_epoch : last_epoch (take kept new) ≡ last_epoch front = ap last_epoch here in
    omega (arith, grows, whole_epoch, front_epoch)
