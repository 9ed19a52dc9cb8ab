-- What the batches that wait make of the list that is shown.
use Rattle.std.proofs.Common.{◌≡◌, ℕ, List, [], ◌∷◌, ◌++◌, length, take, true, fold, Bool, refl, sym, ap, ◌∙◌}
use Rattle.std.proofs.lemmas.List.{append-nil}
use Rattle.committed_view.specs.declared.shown.Batch.{Batch}
use Rattle.committed_view.specs.Published.{Chunks}
use Rattle.committed_view.specs.Batches.{with_batch}
use Rattle.committed_view.specs.Rule.{applied_batch}
use Rattle.committed_view.specs.Writing.{EachKeeps, last_chunks}

take_front : {C : Type 0} (xs ys : List C) → take (length xs) (xs ++ ys) ≡ xs
take_front [] ys = refl
take_front (x ∷ xs) ys = ap (λ l. x ∷ l) (take_front xs ys)

behind : (list more : Chunks) (keep : ℕ) (chunks : Chunks) → keep ≡ length list → with_batch (list ++ more) keep chunks ≡ list ++ chunks
behind list more keep chunks is = ap (λ n. take n (list ++ more) ++ chunks) is ∙ ap (λ l. l ++ chunks) (take_front list more)

fold_more : (list more : Chunks) (pending : List Batch) → EachKeeps (length list) pending
    → fold applied_batch (list ++ more, true) pending ≡ (list ++ last_chunks more pending, true)
fold_more list more [] keeps = refl
fold_more list more (batch ∷ pending) keeps =
    ap (λ l. fold applied_batch (l, true) pending) (behind list more batch.keep batch.chunks.items keeps.0)
    ∙ fold_more list batch.chunks.items pending keeps.1

-- all batches that wait make of the list what the last one makes of it
pub fold_pending : (list : Chunks) (begun : Bool) (pending : List Batch) → begun ≡ true → EachKeeps (length list) pending
    → fold applied_batch (list, begun) pending ≡ (list ++ last_chunks [] pending, true)
fold_pending list begun pending is keeps =
    ap (λ b. fold applied_batch (list, b) pending) is ∙ (ap (λ l. fold applied_batch (l, true) pending) (sym (append-nil list)) ∙ fold_more list [] pending keeps)

pub last_pushed : (chunks : Chunks) (pending : List Batch) (batch : Batch) → last_chunks chunks (pending ++ batch ∷ []) ≡ batch.chunks.items
last_pushed chunks [] batch = refl
last_pushed chunks (b ∷ pending) batch = last_pushed b.chunks.items pending batch

pub keeps_pushed : (keep : ℕ) (pending : List Batch) (batch : Batch) → EachKeeps keep pending → batch.keep ≡ keep → EachKeeps keep (pending ++ batch ∷ [])
keeps_pushed keep [] batch each is = (is, tt)
keeps_pushed keep (b ∷ pending) batch each is = (each.0, keeps_pushed keep pending batch each.1 is)
