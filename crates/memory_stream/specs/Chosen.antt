-- Which items of an offer are new, and what their chunk is.
use Rattle.std.specs.Prelude.{◌≡◌, ℕ, ℤ, ◌<◌, ◌^◌, Bool, true, nat_lt, List, [], ◌∷◌, map, flat_map, Option, Some, None, if◌then◌else◌}
use Rattle.std.specs.List.{AllByRecursion}
use Rattle.chunk_format.specs.declared.chunk.Chunk.{Chunk}
use Rattle.chunk_format.specs.declared.chunk.ChunkKind.TheVariants.{User}
use Rattle.chunk_format.specs.Chunks.{IsChunk}
use Rattle.chunk_format.specs.Tags.{Tag, tag_bytes}
use Rattle.command_data.specs.declared.item.Tagged.{Tagged}
use Rattle.stream_terms.specs.declared.terms.Given.{Given}
use Rattle.stream_terms.specs.declared.terms.Waits.{Waits}
use Rattle.stream_terms.specs.declared.terms.OfferFault.{OfferFault}
use Rattle.stream_terms.specs.declared.terms.OfferFault.TheVariants as refused
use Rattle.stream_terms.specs.Steps.{item_id, item_entry, offset_chunk}

-- an id above the greatest, or any where there is none
abbrev pub is_new : Option ℕ → ℕ → Bool
is_new None id = true
is_new (Some greatest) id = nat_lt greatest id

-- of the items of a named publisher those with rising ids, from above the greatest on
abbrev pub new_items : Option ℕ → List Tagged → List Tagged
new_items greatest [] = []
new_items greatest (t ∷ ts) = if is_new greatest t.id then t ∷ new_items (Some t.id) ts else new_items greatest ts

-- of one without a name all
abbrev pub chosen : List ℕ → Option ℕ → List Tagged → List Tagged
chosen [] greatest items = items
chosen (x ∷ xs) greatest items = new_items greatest items

abbrev pub tag_for : List ℕ → Tagged → Tag
tag_for name t = record { name = name; id = t.id }

-- a tag for each, where the publisher has a name
abbrev pub trailer_for : List ℕ → List Tagged → List ℕ
trailer_for [] items = []
trailer_for (x ∷ xs) items = flat_map (λ t. tag_bytes (tag_for (x ∷ xs) t)) items

-- ids below 2^64, where the publisher has a name
abbrev pub HasId : Tagged → Type 0
HasId t = t.id < 2 ^ 64

abbrev pub HaveIds : List ℕ → List Tagged → Type 0
HaveIds [] items = Unit {0}
HaveIds (x ∷ xs) items = AllByRecursion HasId items

-- the chunk that these items of a publisher make at an offset
pub record IsLaid (epoch first : ℕ) (name : List ℕ) (items : List Tagged) (c : Chunk) : Type 0 where
  pub kind : c.kind ≡ User
  pub in_epoch : c.epoch ≡ epoch
  pub begins : c.first ≡ first
  pub entries : c.entries ≡ map item_entry items
  pub trailer : c.trailer ≡ trailer_for name items
  pub ids : HaveIds name items

-- and it has a spelling
abbrev pub IsMade : ℕ → ℕ → List ℕ → List Tagged → Chunk → Type 0
IsMade epoch first name items c = IsLaid epoch first name items c × IsChunk c

-- the chunk that stores an offset for a name
abbrev pub IsOffset : ℕ → ℕ → List ℕ → ℕ → Chunk → Type 0
IsOffset epoch first name offset c = ((stamp : ℤ) × (c ≡ offset_chunk epoch stamp first name offset)) × IsChunk c

-- what waits for the confirm of items
pub record IsWait (given : Given) (from end : ℕ) (items : List Tagged) (w : Waits) : Type 0 where
  pub given_is : w.given ≡ given
  pub begins : w.from ≡ from
  pub ends : w.end ≡ end
  pub ids : w.ids ≡ map item_id items
  pub entries : w.entries ≡ map item_entry items

-- a limit, or want of memory
abbrev pub IsLimit : OfferFault → Type 0
IsLimit (refused.Stale asked running) = ⊥
IsLimit (refused.BadName len) = ⊥
IsLimit (refused.EmptyBatch place) = ⊥
IsLimit (refused.Limit what most) = Unit {0}
IsLimit refused.Memory = Unit {0}
