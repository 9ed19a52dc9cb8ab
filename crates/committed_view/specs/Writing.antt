-- What the writer holds between two publishes.
use Rattle.std.specs.Prelude.{◌≡◌, ℕ, List, [], ◌∷◌, true, length}
use Rattle.committed_view.specs.declared.shown.Shown.{Shown}
use Rattle.committed_view.specs.declared.shown.View.{View}
use Rattle.committed_view.specs.declared.shown.Batch.{Batch}
use Rattle.committed_view.specs.Published.{Chunks, newest}

-- each batch comes behind the first chunks of a list, so many as these
abbrev pub EachKeeps : ℕ → List Batch → Type 0
EachKeeps keep [] = Unit {0}
EachKeeps keep (batch ∷ batches) = (batch.keep ≡ keep) × EachKeeps keep batches

-- It knows all that was published, whose newest list is shown. A batch that could not be taken in keeps the list that is
-- shown, so the next one undoes it.
pub record IsWriter (v : View) (x : Shown) (pending : List Batch) : Type 0 where
  pub writes : v.writes ≡ true
  pub shown : newest v.published ≡ x.chunks.items
  pub begun : x.begun ≡ true
  pub undone : EachKeeps (length x.chunks.items) pending

-- the chunks of the last batch, or these where there is none
abbrev pub last_chunks : Chunks → List Batch → Chunks
last_chunks chunks [] = chunks
last_chunks chunks (batch ∷ batches) = last_chunks batch.chunks.items batches
