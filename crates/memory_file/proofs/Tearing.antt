-- Calls that were torn, or not.
use Rattle.std.proofs.Common.{◌≡◌, ℕ, ◌≤◌, Bool, true, false, List, [], ◌∷◌, ◌++◌, length, Some, None, refl, sym, subst, arith}
use Rattle.std.proofs.lemmas.List.{take_all}
use Rattle.disk_calls.specs.Disk.{Image, TornFile}
use Rattle.memory_file.specs.Memory.{done, all_done, Tears, TearsAll, has_write, torn_call, torn_last}
use Rattle.memory_file.specs.TornDone.{take_min, over_file, cut_done, done_tears}
use Rattle.memory_file.specs.declared.file.Call.{Call}
use Rattle.memory_file.specs.declared.file.Call.TheVariants as call

pub tears_last : (calls : List Call) (x : Call) (old new : Image) → TearsAll (calls ++ x ∷ []) old new → (d : Image) × TearsAll calls old d × Tears x d new
tears_last [] x old new (mid, step, is) = (old, refl, subst (λ (c : Image). Tears x old c) (sym is) step)
tears_last (c ∷ calls) x old new (mid, step, rest) =
    let found = tears_last calls x mid new rest in
    (found.0, (mid, step, found.1), found.2)

torn_stays : (at n : ℕ) (old : Image) → TornFile at n old old
torn_stays at n None = tt
torn_stays at n (Some old) = record { before = take_min at old; after = refl; no_shorter = omega arith; no_longer = omega arith }

pub stays : (c : Call) (old : Image) → Tears c old old
stays (call.Write at v) old = torn_stays at (length v) old
stays (call.Cut n) None = tt
stays (call.Cut n) (Some old) = record { no_shorter = omega arith; front = sym (take_all (length old) old (omega arith)) }

pub all_stay : (calls : List Call) (old : Image) → TearsAll calls old old
all_stay [] old = refl
all_stay (c ∷ calls) old = (old, stays c old, all_stay calls old)

pub all_done_push : (calls : List Call) (x : Call) (old : Image) → all_done (calls ++ x ∷ []) old ≡ done x (all_done calls old)
all_done_push [] x old = refl
all_done_push (c ∷ calls) x old = all_done_push calls x (done c old)

-- a write with fewer bytes is one that was torn
torn_call_tears : (tear : List ℕ → List ℕ) → ((v : List ℕ) → length (tear v) ≤ length v) → (c : Call) (later : Bool) (old : Image) → Tears c old (done (torn_call tear c later) old)
torn_call_tears tear less (call.Write at v) true old = done_tears (call.Write at v) old
torn_call_tears tear less (call.Write at v) false old = over_file old (tear v) at (length v) (less v)
torn_call_tears tear less (call.Cut n) later old = cut_done n old

pub torn_last_tears : (tear : List ℕ → List ℕ) → ((v : List ℕ) → length (tear v) ≤ length v) → (calls : List Call) (old : Image) → TearsAll calls old (all_done (torn_last tear calls) old)
torn_last_tears tear less [] old = refl
torn_last_tears tear less (c ∷ calls) old =
    let mid = done (torn_call tear c (has_write calls)) old in
    (mid, torn_call_tears tear less c (has_write calls) old, torn_last_tears tear less calls mid)
