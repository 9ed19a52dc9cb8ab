-- How long entries are.
use Rattle.std.proofs.Common.{◌≡◌, ℕ, ◌+◌, List, ◌++◌, length, arith, length-append}
use Rattle.frame_wire.specs.Fields.{u8_bytes, u16_bytes, u32_bytes}
use Rattle.frame_wire.proofs.FieldLaws.{u8_length, u16_length, u32_length}
use Rattle.chunk_format.specs.declared.entry.Entry.TheVariants.{Simple, Batch}
use Rattle.chunk_format.specs.Chunks.{batch_code, entry_bytes}

pub simple_length : (body : List ℕ) → length (entry_bytes (Simple body)) ≡ 4 + length body
simple_length body = omega (arith, length-append (u32_bytes (length body)) body, u32_length (length body))

pub batch_length : (compression spare records uncompressed : ℕ) (body : List ℕ) → length (entry_bytes (Batch compression spare records uncompressed body)) ≡ 11 + length body
batch_length compression spare records uncompressed body =
    let code = batch_code compression spare in
    let sized = u32_bytes (length body) ++ body in
    let a = length-append (u8_bytes code) (u16_bytes records ++ (u32_bytes uncompressed ++ sized)) in
    let b = length-append (u16_bytes records) (u32_bytes uncompressed ++ sized) in
    let c = length-append (u32_bytes uncompressed) sized in
    omega (arith, a, b, c, u8_length code, u16_length records, u32_length uncompressed, simple_length body)
