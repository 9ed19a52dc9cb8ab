-- What a view publishes, and what its passes see of it.
use Rattle.std.specs.Prelude.{◌≡◌, Bool, false, List, [], ◌∷◌, ◌++◌, if◌then◌else◌}
use Rattle.chunk_format.specs.declared.chunk.Chunk.{Chunk}
use Rattle.chunk_format.specs.Logs.{GoesOn}

abbrev pub Chunks : Type 0
Chunks = List Chunk

-- the list that each publish had made whole, the newest first
abbrev pub Published : Type 0
Published = List Chunks

-- the list that the last publish had made whole; before the first it is empty
abbrev pub newest : Published → Chunks
newest [] = []
newest (list ∷ older) = list

-- each list begins with the one that was published before it
abbrev pub Grows : Published → Type 0
Grows [] = Unit {0}
Grows (list ∷ older) = GoesOn (newest older) list × Grows older

-- the second is the first and what was published since
abbrev pub Later : Published → Published → Type 0
Later old new = (since : Published) × (new ≡ since ++ old)

-- one more publish appends these chunks
abbrev pub with_publish : Published → Chunks → Published
with_publish published chunks = (newest published ++ chunks) ∷ published

-- What a pass knows: what was published when it polled last, and the list of each note that it learnt since then.
pub record Known : Type 0 where
  pub published : Published
  pub told : List Chunks

-- one that polled nothing and learnt nothing
abbrev pub nothing_known : Known
nothing_known = record { published = []; told = [] }

-- A pass: what it knows, and whether it lends its newest list.
pub record Pass : Type 0 where
  pub known : Known
  pub lent : Bool

abbrev pub new_pass : Pass
new_pass = record { known = nothing_known; lent = false }

-- the list that a pass lends
abbrev pub lent_list : Pass → Chunks
lent_list pass = if pass.lent then newest pass.known.published else []

-- the list begins with each of these lists
abbrev pub BeginsWithEach : List Chunks → Chunks → Type 0
BeginsWithEach [] list = Unit {0}
BeginsWithEach (told ∷ others) list = GoesOn told list × BeginsWithEach others list

-- a pass learns a note with this list
abbrev pub Learns : Known → Chunks → Known → Type 0
Learns old list new = (new.published ≡ old.published) × (new.told ≡ old.told ++ list ∷ [])

-- A pass polls a list, which some publish had made whole, or which is empty as nothing is published. It begins with the list
-- that the pass polled before and with that of each note that it learnt since.
pub record Polls (old : Known) (list : Chunks) (new : Known) : Type 0 where
  pub whole : newest new.published ≡ list
  pub grows : Grows new.published
  pub later : Later old.published new.published
  pub before : GoesOn (newest old.published) list
  pub told : BeginsWithEach old.told list
  pub none_left : new.told ≡ []

-- A poll that fails. It may have seen what was published since, and the notes are still to be met.
pub record PollFails (old new : Known) : Type 0 where
  pub later : Later old.published new.published
  pub before : GoesOn (newest old.published) (newest new.published)
  pub told : new.told ≡ old.told

-- what a pass did
pub data Act : Type 0 where
  Learnt : Chunks → Act
  Polled : Chunks → Act
  Failed : Act

abbrev pub Does : Known → Act → Known → Type 0
Does old (Learnt list) new = Learns old list new
Does old (Polled list) new = Polls old list new
Does old Failed new = PollFails old new

-- what a pass did, one after the other
abbrev pub Run : Known → List Act → Known → Type 0
Run old [] new = old ≡ new
Run old (act ∷ acts) new = (next : Known) × Does old act next × Run next acts new

-- the list begins with each list that was polled, and with each list that was learnt
abbrev pub GoesOnFromAll : List Act → Chunks → Type 0
GoesOnFromAll [] list = Unit {0}
GoesOnFromAll (Learnt told ∷ acts) list = GoesOn told list × GoesOnFromAll acts list
GoesOnFromAll (Polled before ∷ acts) list = GoesOn before list × GoesOnFromAll acts list
GoesOnFromAll (Failed ∷ acts) list = GoesOnFromAll acts list
