-- Reading fields from left to right.
use Rattle.std.specs.Prelude.{◌≡◌, ◌<◌, ◌≤◌, ℕ, ℤ, ◌+◌, List, ◌++◌, length, take, drop, Option, Some, None, Result, Ok, Err, nat_lt, ◌==◌, if◌then◌else◌}
use Rattle.std.specs.Int.{Width, w16, w32, w64, byte_len, from_be_bytes, cast_signed}
use Rattle.frame_wire.specs.declared.fault.FieldFault.{FieldFault}
use Rattle.frame_wire.specs.declared.fault.FieldFault.TheVariants.{Short, Negative}

-- where a reader stands: its place in the whole, and the bytes from there on
pub record Spot : Type 0 where
  pub at : ℕ
  pub rest : List ℕ

abbrev pub past : ℕ → Spot → Spot
past n s = record { at = s.at + n; rest = drop n s.rest }

-- A number of so many bytes was read: its spelling stood at the front, and the reader goes on behind it.
-- It is refused exactly where fewer bytes are left; the fault names its first place, and the reader stays there.
abbrev pub ReadsNumber : {X : Type 0} → (X → List ℕ) → ℕ → Result X FieldFault → Spot → Spot → Type 0
ReadsNumber spell size (Ok x) old new = (old.rest ≡ spell x ++ new.rest) × (size ≤ length old.rest) × (new ≡ past size old)
ReadsNumber spell size (Err fault) old new = (length old.rest < size) × (fault ≡ Short old.at) × (new ≡ old)

-- what stands at the front of bytes, where a number of so many bytes does
abbrev pub StandsFirst : {X : Type 0} → (X → List ℕ) → ℕ → List ℕ → Option X → Type 0
StandsFirst spell size bytes (Some x) = (bytes ≡ spell x ++ drop size bytes) × (size ≤ length bytes)
StandsFirst spell size bytes None = length bytes < size

-- ---- the same as functions, for formats that are joined of fields

-- the number that the first bytes give
abbrev pub number_of : Width → List ℕ → ℕ
number_of w bytes = from_be_bytes w (take (byte_len w) bytes)

-- What a call gave is what reading gives: the value and where the reader then stands, or the fault, and the reader stays.
abbrev pub Reads : {X Y : Type 0} → (X → Y) → Result X FieldFault → Spot → Spot → Result (Y × Spot) FieldFault → Type 0
Reads view (Ok x) old new read = read ≡ Ok (view x, new)
Reads view (Err fault) old new read = (read ≡ Err fault) × (new ≡ old)

abbrev pub number_at : Width → Spot → Result (ℕ × Spot) FieldFault
number_at w s = if nat_lt (length s.rest) (byte_len w) then Err (Short s.at) else Ok (number_of w s.rest, past (byte_len w) s)

abbrev pub signed_at : Spot → Result (ℤ × Spot) FieldFault
signed_at s = if nat_lt (length s.rest) 8 then Err (Short s.at) else Ok (cast_signed w64 (number_of w64 s.rest), past 8 s)

-- so many bytes that follow their length, in a field that began at this place
abbrev pub bytes_at : ℕ → ℕ → Spot → Result (Option (List ℕ) × Spot) FieldFault
bytes_at place n s = if nat_lt (length s.rest) n then Err (Short place) else Ok (Some (take n s.rest), past n s)

-- bytes with their length first, or null: the greatest length, and the one that is null
unfoldable pub counted_at : Width → ℕ → ℕ → Spot → Result (Option (List ℕ) × Spot) FieldFault
counted_at w greatest null s =
    if nat_lt (length s.rest) (byte_len w) then Err (Short s.at) else
    if number_of w s.rest == null then Ok (None, past (byte_len w) s) else
    if nat_lt greatest (number_of w s.rest) then Err (Negative s.at) else
    bytes_at s.at (number_of w s.rest) (past (byte_len w) s)

abbrev pub text_at : Spot → Result (Option (List ℕ) × Spot) FieldFault
text_at = counted_at w16 32767 65535

abbrev pub blob_at : Spot → Result (Option (List ℕ) × Spot) FieldFault
blob_at = counted_at w32 2147483647 4294967295

unfoldable pub count_at : Spot → Result (ℕ × Spot) FieldFault
count_at s =
    if nat_lt (length s.rest) 4 then Err (Short s.at) else
    if nat_lt 2147483647 (number_of w32 s.rest) then Err (Negative s.at) else
    Ok (number_of w32 s.rest, past 4 s)
