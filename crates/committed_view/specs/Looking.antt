-- What a look at the list that is shown tells, and what it leaves.
use Rattle.std.specs.Prelude.{◌≡◌, List}
use Rattle.chunk_format.specs.Logs.{GoesOn}
use Rattle.committed_view.specs.declared.shown.Shown.{Shown}
use Rattle.committed_view.specs.declared.shown.View.{View}
use Rattle.committed_view.specs.Published.{Chunks, Grows, Later, newest, BeginsWithEach}
use Rattle.committed_view.specs.Rule.{Looks}

-- the list that is shown was found, and begins with each of these
pub record Entered (v : View) (told : List Chunks) (x : Shown) (w : View) : Type 0 where
  pub looks : Looks v x x w
  pub begins : BeginsWithEach told x.chunks.items

-- all that is published was found, and the newest list begins with each of these
pub record Enters (v : View) (told : List Chunks) (w : View) : Type 0 where
  pub later : Later v.published w.published
  pub grows : Grows w.published
  pub begins : BeginsWithEach told (newest w.published)

-- nothing was found, or a list that doesn't begin with each of the lists that were told
pub record Missed (v w : View) : Type 0 where
  pub writes : w.writes ≡ v.writes
  pub later : Later v.published w.published
  pub before : GoesOn (newest v.published) (newest w.published)
