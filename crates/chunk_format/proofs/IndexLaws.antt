-- The record of a chunk in an index gives back what it holds.
use Rattle.std.proofs.Common.{◌≡◌, ℕ, ◌^◌, ◌<◌, List, [], ◌++◌, ap}
use Rattle.frame_wire.specs.Fields.{u8_bytes}
use Rattle.frame_wire.proofs.FieldLaws.{u8_same, u32_same, u64_same}
use Rattle.chunk_format.specs.declared.chunk.Header.{Header}
use Rattle.chunk_format.specs.declared.chunk.Chunk.{Chunk}
use Rattle.chunk_format.specs.Chunks.{kind_code, header_of, IsChunk}
use Rattle.chunk_format.specs.Index.{index_bytes, FitsIndex, SameIndexed}
use Rattle.chunk_format.proofs.ChunkLaws.{kind_same, kind_small, first_fits}
use Rattle.chunk_format.proofs.HeaderLaws.{i64_same}

pub records_agree : (h other : Header) (place other_place : ℕ) → FitsIndex h place → FitsIndex other other_place → index_bytes h place ≡ index_bytes other other_place → SameIndexed h place other other_place
unfolding index_bytes
records_agree h other place other_place p q e =
    let s0 = u64_same h.first other.first _ _ p.first q.first e in
    let s1 = i64_same h.stamp other.stamp _ _ p.stamp q.stamp s0.1 in
    let s2 = u64_same h.epoch other.epoch _ _ p.epoch q.epoch s1.1 in
    let s3 = u32_same place other_place _ _ p.place_fits q.place_fits s2.1 in
    let code = kind_code h.kind in
    let other_code = kind_code other.kind in
    let last : u8_bytes code ++ [] ≡ u8_bytes other_code ++ [] = ap (λ (l : List ℕ). l ++ []) s3.1 in
    let s4 = u8_same code other_code [] [] (kind_small h.kind) (kind_small other.kind) last in
    record { first = s0.0; stamp = s1.0; epoch = s2.0; place_is = s3.0; kind = kind_same h.kind other.kind s4.0 }

pub fits_index : (c : Chunk) (place : ℕ) → IsChunk c → place < 2 ^ 32 → FitsIndex (header_of c) place
fits_index c place is fits = record { first = first_fits c is; stamp = is.stamp_fits; epoch = is.epoch_fits; place_fits = fits }
