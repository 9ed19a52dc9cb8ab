-- An entry, and the 48 bytes of a header, each as one field of a command: every fault is told at its first byte.
use Rattle.std.specs.Prelude.{◌≡◌, ◌≤◌, ℕ, ℤ, ◌-◌, ◌/◌, ◌%◌, List, length, Option, Some, None, Result, Ok, Err, ◌==◌, if◌then◌else◌}
use Rattle.frame_wire.specs.declared.fault.FieldFault.{FieldFault}
use Rattle.frame_wire.specs.declared.fault.FieldFault.TheVariants.{Short}
use Rattle.frame_wire.specs.Formats.{Format, u8_field, u16_field, u32_field, u64_field, i64_field, count_field}
use Rattle.frame_wire.specs.Joins.{◌then◌}
use Rattle.frame_wire.specs.Views.{raw, behind, OneOf, Low, High, low_or_high, viewed, as_one}
use Rattle.chunk_format.specs.declared.entry.Entry.{Entry}
use Rattle.chunk_format.specs.declared.entry.Entry.TheVariants.{Simple, Batch}
use Rattle.chunk_format.specs.declared.chunk.ChunkKind.{ChunkKind}
use Rattle.chunk_format.specs.declared.chunk.ChunkKind.TheVariants.{User, Delta, Snapshot}
use Rattle.chunk_format.specs.declared.chunk.Header.{Header}
use Rattle.chunk_format.specs.declared.field.HeaderFault.{HeaderFault}
use Rattle.chunk_format.specs.declared.field.HeaderFault.TheVariants.{NotWhole, Wrong}
use Rattle.frame_wire.specs.Reading.{Spot, past}
use Rattle.chunk_format.specs.declared.split.EntryParts.{EntryParts}
use Rattle.chunk_format.specs.Parts.{entry_of}
use Rattle.chunk_format.specs.Chunks.{batch_code, entry_bytes, IsEntry, kind_code, header_bytes}
use Rattle.chunk_format.specs.Faults.{IsHeader}

-- ---- an entry

abbrev pub short : ℕ → FieldFault
short place = Short place

-- bit 0 and a length of 31 bits, and so many bytes
abbrev pub simple_field : Format (ℕ × List ℕ) FieldFault
simple_field = behind count_field (raw short)

-- a code from 128 on, records, uncompressed size, length, and so many bytes
abbrev pub batch_field : Format (ℕ × (ℕ × (ℕ × (ℕ × List ℕ)))) FieldFault
batch_field = u8_field then u16_field then u32_field then behind u32_field (raw short)

abbrev pub entry_made : OneOf (ℕ × List ℕ) (ℕ × (ℕ × (ℕ × (ℕ × List ℕ)))) → Option Entry
entry_made (Low (n, body)) = Some (Simple body)
entry_made (High (code, (records, (uncompressed, (n, body))))) = Some (Batch ((code - 128) / 16) (code % 16) records uncompressed body)

abbrev pub entry_parts : Entry → OneOf (ℕ × List ℕ) (ℕ × (ℕ × (ℕ × (ℕ × List ℕ))))
entry_parts (Simple body) = Low (length body, body)
entry_parts (Batch compression spare records uncompressed body) = High (batch_code compression spare, (records, (uncompressed, (length body, body))))

abbrev pub entry_format : Format Entry FieldFault
entry_format = as_one short (viewed entry_made entry_parts IsEntry short (low_or_high simple_field batch_field))

unfoldable pub entry_at : Spot → Result (Entry × Spot) FieldFault
entry_at s = entry_format.read s

-- no whole entry stands here
unfoldable pub NoEntry : Spot → FieldFault → Type 0
NoEntry s fault = entry_format.Wrong s fault

abbrev pub entry_field : Format Entry FieldFault
entry_field = record { spell = entry_bytes; Fits = IsEntry; read = entry_at; Wrong = NoEntry }

-- ---- a header

-- magic and version, kind, entries, records, stamp, epoch, first, checksum, lengths of payload and trailer, four zero bytes
abbrev pub HeaderNumbers : Type 0
HeaderNumbers = ℕ × (ℕ × (ℕ × (ℕ × (ℤ × (ℕ × (ℕ × (ℕ × (ℕ × (ℕ × ℕ)))))))))

abbrev pub header_numbers : Format HeaderNumbers FieldFault
header_numbers =
    u8_field then u8_field then u16_field then u32_field then i64_field then u64_field then u64_field then u32_field then u32_field then u32_field then u32_field

abbrev pub kind_made : ℕ → Option ChunkKind
kind_made code = if code == 0 then Some User else if code == 1 then Some Delta else if code == 2 then Some Snapshot else None

abbrev pub with_kind : HeaderNumbers → Option ChunkKind → Option Header
with_kind x None = None
with_kind (magic, (kind, (entries, (records, (stamp, (epoch, (first, (crc, (payload_len, (trailer_len, end)))))))))) (Some k) = Some (record {
  kind = k;
  entries = entries;
  records = records;
  stamp = stamp;
  epoch = epoch;
  first = first;
  crc = crc;
  payload_len = payload_len;
  trailer_len = trailer_len;
})

-- magic 5 and version 0, one of the three kinds, and four zero bytes at the end
abbrev pub header_made : HeaderNumbers → Option Header
header_made x = if x.0 == 0x50 then (if x.1.1.1.1.1.1.1.1.1.1 == 0 then with_kind x (kind_made x.1.0) else None) else None

abbrev pub header_parts : Header → HeaderNumbers
header_parts h = (0x50, (kind_code h.kind, (h.entries, (h.records, (h.stamp, (h.epoch, (h.first, (h.crc, (h.payload_len, (h.trailer_len, 0))))))))))

-- A header: a fault of one kind where it is not whole, and one of another where its magic, version, kind or zero bytes are wrong.
abbrev pub header_format : Format Header HeaderFault
header_format = viewed header_made header_parts IsHeader (λ place. Wrong place) (as_one (λ place. NotWhole place) header_numbers)

unfoldable pub header_at : Spot → Result (Header × Spot) HeaderFault
header_at s = header_format.read s

-- no header stands here
unfoldable pub NoHeader : Spot → HeaderFault → Type 0
NoHeader s fault = header_format.Wrong s fault

abbrev pub header_field : Format Header HeaderFault
header_field = record { spell = header_bytes; Fits = IsHeader; read = header_at; Wrong = NoHeader }

-- What a call gave is what reading gives: the header with the reader behind it, or the fault, and the reader stays.
abbrev pub ReadsHeader : Result Header HeaderFault → Spot → Spot → Type 0
ReadsHeader (Ok h) old new = header_at old ≡ Ok (h, new)
ReadsHeader (Err fault) old new = (header_at old ≡ Err fault) × (new ≡ old)

-- the header at the front of bytes, or the fault
abbrev pub FindsHeader : Result Header HeaderFault → Spot → Type 0
FindsHeader (Ok h) s = (header_at s ≡ Ok (h, past 48 s)) × (48 ≤ length s.rest)
FindsHeader (Err fault) s = header_at s ≡ Err fault

-- the entry at the front of bytes and the length of its field, or the fault
abbrev pub FindsEntry : Result (EntryParts × ℕ) FieldFault → Spot → Type 0
FindsEntry (Ok found) s = (entry_at s ≡ Ok (entry_of found.0, past found.1 s)) × (found.1 ≤ length s.rest)
FindsEntry (Err fault) s = entry_at s ≡ Err fault
