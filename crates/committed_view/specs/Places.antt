-- Where a pass stands, and what it knows there.
use Rattle.std.specs.Prelude.{◌≡◌, Bool, true, false}
use Rattle.left_right.specs.Sides.{view}
use Rattle.committed_view.specs.declared.pass.Place.{Place}
use Rattle.committed_view.specs.declared.pass.Place.TheVariants.{Outside, Inside}
use Rattle.committed_view.specs.declared.shown.View.{View}
use Rattle.committed_view.specs.Published.{newest}

-- what the seat of a pass knows
abbrev pub seen_at : Place → View
seen_at (Outside reader) = view reader.place
seen_at (Inside reading) = view reading.place

abbrev pub is_inside : Place → Bool
is_inside (Outside reader) = false
is_inside (Inside reading) = true

-- inside the newest list that is known is at hand
abbrev pub HasNewest : Place → Type 0
HasNewest (Outside reader) = Unit {0}
HasNewest (Inside reading) = newest (view reading.place).published ≡ reading.part.value.chunks.items

-- a pass only reads
pub record OnlyReads (place : Place) : Type 0 where
  pub reads : (seen_at place).writes ≡ false
  pub at_hand : HasNewest place
