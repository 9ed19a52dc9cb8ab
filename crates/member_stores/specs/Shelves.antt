-- The stores of members, each at the place of its member's number.
use Rattle.std.specs.Prelude.{◌≡◌, ◌≢◌, ℕ, Bool, false, ◌&&◌, ◌==◌, List, Option, Some, None, slice_index_or}
use Rattle.disk_calls.specs.Disk.{DiskState}
use Rattle.chunk_format.specs.declared.chunk.Chunk.{Chunk}
use Rattle.segment_store.specs.Receipts.{JobDone}
use Rattle.segment_store.specs.Stores.{StoreInHand, BackedStore}
use Rattle.member_stores.specs.declared.shelf.Shelf.{Shelf}

-- what is there of a member
abbrev pub shelf_of : ℕ → List (Option Shelf) → Option Shelf
shelf_of member shelves = slice_index_or shelves member None

-- what is there of the other members stays
abbrev pub OthersStay : ℕ → List (Option Shelf) → List (Option Shelf) → Type 0
OthersStay member old new = (other : ℕ) → other ≢ member → shelf_of other new ≡ shelf_of other old

-- a store without a receipt, and with one
abbrev pub fresh : StoreInHand → Shelf
fresh store = record { store = store; kept = None }

abbrev pub keeping : JobDone → Shelf → Shelf
keeping receipt shelf = record { store = shelf.store; kept = Some receipt }

-- the store of a shelf, if one is there
abbrev pub store_on : Option Shelf → Option StoreInHand
store_on None = None
store_on (Some shelf) = Some shelf.store

-- ---- receipts

abbrev pub is_receipt_of : ℕ → ℕ → ℕ → JobDone → Bool
is_receipt_of stream member number r = (r.stream == stream) && ((r.member == member) && (r.number == number))

abbrev pub is_kept_of : ℕ → ℕ → ℕ → Option JobDone → Bool
is_kept_of stream member number None = false
is_kept_of stream member number (Some r) = is_receipt_of stream member number r

-- the receipt of this very job is kept
abbrev pub has_done : ℕ → ℕ → ℕ → Shelf → Bool
has_done stream member number shelf = is_kept_of stream member number shelf.kept

-- ---- disks

-- a disk is what is in hand of the store that is there, with some chunks
abbrev pub BackedShelf : Option Shelf → DiskState → Type 0
BackedShelf None s = Unit {0}
BackedShelf (Some shelf) s = (chunks : List Chunk) × BackedStore shelf.store chunks s
