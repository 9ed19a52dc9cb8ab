-- The head of a delivery's frame and a chunk's bytes are the frame.
use Rattle.std.proofs.Common.{◌≡◌, ℕ, ◌+◌, List, ◌++◌, length, Option, Some, None, ap, ◌∙◌, append_assoc, arith}
use Rattle.std.proofs.lemmas.List.{length-append}
use Rattle.frame_wire.specs.Fields.{u8_bytes, u16_bytes, u32_bytes, u64_bytes}
use Rattle.frame_wire.specs.Frames.{frame}
use Rattle.frame_wire.proofs.FieldLaws.{u8_length, u16_length, u64_length}
use Rattle.chunk_format.specs.declared.chunk.Header.{Header}
use Rattle.chunk_format.specs.Chunks.{header_bytes}
use Rattle.chunk_format.proofs.FieldLaws.{header_long}
use Rattle.command_fields.specs.Tables.{body_of}
use Rattle.command_data.specs.Commands.{data_table}
use Rattle.command_data.specs.Deliveries.{delivery_of, delivery_head}

-- a front of parts, and what stands behind
joined : (old a b c d x : List ℕ) → (old ++ (a ++ (b ++ (c ++ d)))) ++ x ≡ old ++ (a ++ (b ++ (c ++ (d ++ x))))
joined old a b c d x = simp append_assoc

first_length : (sub : ℕ) (header : Header) (payload : List ℕ) → length (body_of data_table (delivery_of sub None header payload)) ≡ 53 + length payload
first_length sub header payload =
    omega (
      arith,
      length-append (u16_bytes 8) (u16_bytes 1 ++ (u8_bytes sub ++ (header_bytes header ++ payload))),
      length-append (u16_bytes 1) (u8_bytes sub ++ (header_bytes header ++ payload)),
      length-append (u8_bytes sub) (header_bytes header ++ payload),
      length-append (header_bytes header) payload,
      u16_length 8,
      u16_length 1,
      u8_length sub,
      header_long header,
    )

second_length : (sub committed : ℕ) (header : Header) (payload : List ℕ) → length (body_of data_table (delivery_of sub (Some committed) header payload)) ≡ 61 + length payload
second_length sub committed header payload =
    omega (
      arith,
      length-append (u16_bytes 8) (u16_bytes 2 ++ (u8_bytes sub ++ (u64_bytes committed ++ (header_bytes header ++ payload)))),
      length-append (u16_bytes 2) (u8_bytes sub ++ (u64_bytes committed ++ (header_bytes header ++ payload))),
      length-append (u8_bytes sub) (u64_bytes committed ++ (header_bytes header ++ payload)),
      length-append (u64_bytes committed) (header_bytes header ++ payload),
      length-append (header_bytes header) payload,
      u16_length 8,
      u16_length 2,
      u8_length sub,
      u64_length committed,
      header_long header,
    )

pub head_frame : (old new : List ℕ) (sub : ℕ) (committed : Option ℕ) (header : Header) → new ≡ old ++ delivery_head sub committed header.payload_len → (payload : List ℕ) → length payload ≡ header.payload_len
    → new ++ (header_bytes header ++ payload) ≡ old ++ frame (body_of data_table (delivery_of sub committed header payload))
head_frame old new sub None header is payload same =
    let chunk : List ℕ = header_bytes header ++ payload in
    let size : 53 + header.payload_len ≡ length (body_of data_table (delivery_of sub None header payload)) = omega (arith, first_length sub header payload, same) in
    ap (λ (n : List ℕ). n ++ chunk) is
    ∙ joined old (u32_bytes (53 + header.payload_len)) (u16_bytes 8) (u16_bytes 1) (u8_bytes sub) chunk
    ∙ ap (λ (n : ℕ). old ++ (u32_bytes n ++ body_of data_table (delivery_of sub None header payload))) size
head_frame old new sub (Some committed) header is payload same =
    let chunk : List ℕ = header_bytes header ++ payload in
    let size : 61 + header.payload_len ≡ length (body_of data_table (delivery_of sub (Some committed) header payload)) = omega (arith, second_length sub committed header payload, same) in
    ap (λ (n : List ℕ). n ++ chunk) is
    ∙ joined old (u32_bytes (61 + header.payload_len)) (u16_bytes 8) (u16_bytes 2) (u8_bytes sub ++ u64_bytes committed) chunk
    ∙ ap (λ (more : List ℕ). old ++ (u32_bytes (61 + header.payload_len) ++ (u16_bytes 8 ++ (u16_bytes 2 ++ more)))) (append_assoc (u8_bytes sub) (u64_bytes committed) chunk)
    ∙ ap (λ (n : ℕ). old ++ (u32_bytes n ++ body_of data_table (delivery_of sub (Some committed) header payload))) size
