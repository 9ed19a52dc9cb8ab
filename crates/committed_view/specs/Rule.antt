-- The rule of a view's two copies: one run of publishes stands behind what is shown, and what each side knows of it.
use Rattle.std.specs.Prelude.{◌≡◌, ℕ, List, [], ◌∷◌, Bool, true, false}
use mathlib.Core.Option.{some}
use lib.ListN.{get_elem?}
use Rattle.chunk_format.specs.declared.chunk.Chunk.{Chunk}
use Rattle.committed_view.specs.declared.shown.Shown.{Shown}
use Rattle.committed_view.specs.declared.shown.View.{View}
use Rattle.committed_view.specs.declared.shown.Batch.{Batch}
use Rattle.committed_view.specs.Batches.{with_batch}
use Rattle.committed_view.specs.Published.{Published, newest, Grows, Later}

-- A reader knows a beginning of what was published, and the writer, at its one seat, all of it. Before the view is opened
-- nothing is published, and there is no writer.
pub record Fits (begun : Bool) (writer : ℕ) (published : Published) (seat : ℕ) (v : View) : Type 0 where
  pub beginning : Later v.published published
  pub all : v.writes ≡ true → (seat ≡ writer) × (v.published ≡ published) × (begun ≡ true)

-- what is shown is the newest list of one run of publishes, each of which goes on from the one before
pub record Keeps (x : Shown) (views : List View) : Type 0 where
  pub writer : ℕ
  pub published : Published
  pub grows : Grows published
  pub shown : newest published ≡ x.chunks.items
  pub unopened : x.begun ≡ false → published ≡ []
  pub each : (seat : ℕ) (v : View) → get_elem? views seat ≡ some v → Fits x.begun writer published seat v

-- one that knows nothing
abbrev pub newcomer : View
newcomer = record { writes = false; published = [] }

-- the writer
abbrev pub writer_of : Published → View
writer_of published = record { writes = true; published = published }

-- a look finds what is published, whose newest list is shown; it is all that was known, and what was published since
pub record Looks (v : View) (x y : Shown) (w : View) : Type 0 where
  pub writes : w.writes ≡ v.writes
  pub later : Later v.published w.published
  pub grows : Grows w.published
  pub whole : newest w.published ≡ x.chunks.items

-- the view is opened: who does this is its writer, and nothing is published
abbrev pub Opens : View → Shown → Shown → View → Type 0
Opens v x y w = w ≡ writer_of []

-- one list more is published
abbrev pub Publishes : View → Shown → Shown → View → Type 0
Publishes v x y w = w ≡ writer_of (y.chunks.items ∷ v.published)

-- what a batch makes of the list that is shown, and of whether the view is opened
abbrev pub applied_batch : List Chunk × Bool → Batch → List Chunk × Bool
applied_batch s batch = (with_batch s.0 batch.keep batch.chunks.items, true)
