use Rattle.std.proofs.Common.{◌≡◌, ℕ, ◌+◌, ◌-◌, take, drop, ap, arith}
use Rattle.chunk_format.proofs.ChunkFound.{right_heads, parts_wrong}
use Rattle.chunk_format.proofs.check.checked_header.Goals as goal

pub returns-in-Ok-check_parts : goal.returns-in-Ok-check_parts
returns-in-Ok-check_parts c =
    let bytes = c.args.bytes.now in
    let h = c.in-Ok.header in
    let payload_is : 48 + h.payload_len - 48 ≡ h.payload_len = omega arith in
    let trailer_is : 48 + h.payload_len + h.trailer_len - (48 + h.payload_len) ≡ h.trailer_len = omega arith in
    right_heads h bytes _ _ c.in-Ok-check_parts.ensures.0 c.in-Ok.ensures (omega arith) (ap (λ (n : ℕ). take n (drop 48 bytes)) payload_is) (ap (λ (n : ℕ). take n (drop (48 + h.payload_len) bytes)) trailer_is)
    c.in-Ok-check_parts.ensures.1

pub returns-in-Err-check_parts : goal.returns-in-Err-check_parts
returns-in-Err-check_parts c =
    let bytes = c.args.bytes.now in
    let h = c.in-Ok.header in
    let payload_is : 48 + h.payload_len - 48 ≡ h.payload_len = omega arith in
    let trailer_is : 48 + h.payload_len + h.trailer_len - (48 + h.payload_len) ≡ h.trailer_len = omega arith in
    parts_wrong h bytes _ _ c.in-Err-check_parts.fault c.in-Ok.ensures (omega arith) (ap (λ (n : ℕ). take n (drop 48 bytes)) payload_is) (ap (λ (n : ℕ). take n (drop (48 + h.payload_len) bytes)) trailer_is)
    c.in-Err-check_parts.ensures
