-- How an index records a chunk of a segment.
use Rattle.std.specs.Prelude.{◌≡◌, ℕ, ◌^◌, ◌<◌, List, ◌++◌}
use Rattle.std.specs.Int.{w64}
use Rattle.std.specs.Int.RustNames.{FitsSigned}
use Rattle.frame_wire.specs.Fields.{u8_bytes, u32_bytes, u64_bytes, i64_bytes}
use Rattle.chunk_format.specs.declared.chunk.Header.{Header}
use Rattle.chunk_format.specs.Chunks.{kind_code}

-- 29 bytes: the first offset, the stamp, the epoch, the place of the chunk in its segment, and the kind
unfoldable pub index_bytes : Header → ℕ → List ℕ
index_bytes h place = u64_bytes h.first ++ (i64_bytes h.stamp ++ (u64_bytes h.epoch ++ (u32_bytes place ++ u8_bytes (kind_code h.kind))))

-- what an index holds of a header at a place has a spelling
pub record FitsIndex (h : Header) (place : ℕ) : Type 0 where
  pub first : h.first < 2 ^ 64
  pub stamp : FitsSigned w64 h.stamp
  pub epoch : h.epoch < 2 ^ 64
  pub place_fits : place < 2 ^ 32

-- two headers, at two places, agree in what an index holds
pub record SameIndexed (h : Header) (place : ℕ) (other : Header) (other_place : ℕ) : Type 0 where
  pub first : h.first ≡ other.first
  pub stamp : h.stamp ≡ other.stamp
  pub epoch : h.epoch ≡ other.epoch
  pub place_is : place ≡ other_place
  pub kind : h.kind ≡ other.kind
