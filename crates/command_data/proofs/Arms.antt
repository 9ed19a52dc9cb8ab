-- The lengths of deliveries.
use Rattle.std.proofs.Common.{◌≡◌, ℕ, ◌+◌, ◌<◌, ◌≤◌, List, length, Some, None, arith}
use Rattle.std.proofs.lemmas.List.{length-append}
use Rattle.chunk_format.specs.declared.chunk.Header.{Header}
use Rattle.chunk_format.specs.Chunks.{header_bytes}
use Rattle.chunk_format.specs.Faults.{IsHeader}
use Rattle.chunk_format.proofs.FieldLaws.{header_long}
use Rattle.command_fields.specs.Sizes.{Measures}
use Rattle.command_data.specs.Items.{delivered}

delivered_length : (header : Header) (payload : List ℕ) → length (delivered.spell (header, payload)) ≡ 48 + length payload
delivered_length header payload = omega (arith, length-append (header_bytes header) payload, header_long header)

pub delivered_size : (header : Header) (payload : List ℕ) → IsHeader header → length payload ≡ header.payload_len → length payload ≤ 4294967247 → Measures delivered (header, payload) (Some (48 + length payload))
delivered_size header payload fits same short = ((fits, same), omega (arith, delivered_length header payload), omega arith)

pub delivered_other : (header : Header) (payload : List ℕ) → (length payload ≡ header.payload_len → ⊥) → Measures delivered (header, payload) None
delivered_other header payload other fits short = other fits.1

pub delivered_long : (header : Header) (payload : List ℕ) → 4294967247 < length payload → Measures delivered (header, payload) None
delivered_long header payload long fits short = omega (arith, delivered_length header payload, long, short)
