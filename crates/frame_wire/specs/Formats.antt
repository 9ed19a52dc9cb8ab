-- A format says how a value is spelled, which values have a spelling, how one is read from the front of bytes,
-- and which fault the bytes have that spell none.
use Rattle.std.specs.Prelude.{◌≡◌, ◌<◌, ◌≤◌, ◌^◌, ◌⊎◌, ℕ, ℤ, ◌+◌, List, ◌++◌, length, Option, Result, Ok, Err, FitsSigned}
use Rattle.std.specs.Int.{Width, w8, w16, w32, w64, byte_len}
use Rattle.frame_wire.specs.declared.fault.FieldFault.{FieldFault}
use Rattle.frame_wire.specs.declared.fault.FieldFault.TheVariants.{Short, Negative}
use Rattle.frame_wire.specs.Fields.{u8_bytes, u16_bytes, u32_bytes, u64_bytes, i64_bytes, text_bytes, blob_bytes, count_bytes, IsText, IsBlob, IsCount}
use Rattle.frame_wire.specs.Reading.{Spot, past, number_of, number_at, signed_at, text_at, blob_at, count_at}

-- values of a kind A, and faults of a kind F
pub record Format (A : Type 0) (F : Type 0) : Type 1 where
  pub spell : A → List ℕ
  pub Fits : A → Type 0
  pub read : Spot → Result (A × Spot) F
  -- the first field that is wrong in the bytes at a spot, and how
  pub Wrong : Spot → F → Type 0

-- the value stands spelled at s, and t is behind it
pub record Spelled {A : Type 0} {F : Type 0} (f : Format A F) (s : Spot) (x : A) (t : Spot) : Type 0 where
  pub fits : f.Fits x
  pub parts : s.rest ≡ f.spell x ++ t.rest
  pub moved : t.at ≡ s.at + length (f.spell x)

-- What a call gave, and where it left the reader: a value that stood there spelled, with the reader behind it,
-- or the fault that the bytes have, with the reader where it was.
abbrev pub ReadsBy : {X Y F : Type 0} → Format Y F → (X → Y) → Result X F → Spot → Spot → Type 0
ReadsBy f view (Ok x) old new = Spelled f old (view x) new
ReadsBy f view (Err fault) old new = f.Wrong old fault × (new ≡ old)

-- the same of the front of bytes: the value and the length of its spelling, or the fault
abbrev pub FindsBy : {X Y : Type 0} → Format Y FieldFault → (X → Y) → Result (X × ℕ) FieldFault → Spot → Type 0
FindsBy f view (Ok (x, n)) s = Spelled f s (view x) (past n s) × (f.read s ≡ Ok (view x, past n s)) × (n ≤ length s.rest)
FindsBy f view (Err fault) s = f.Wrong s fault × (f.read s ≡ Err fault)

-- ---- the fields

-- a number of so many bytes is not whole
abbrev pub NumberWrong : ℕ → Spot → FieldFault → Type 0
NumberWrong size s (Short place) = (length s.rest < size) × (place ≡ s.at)
NumberWrong size s (Negative place) = ⊥

abbrev pub u8_field : Format ℕ FieldFault
u8_field = record { spell = u8_bytes; Fits = λ n. n < 2 ^ 8; read = number_at w8; Wrong = NumberWrong 1 }

abbrev pub u16_field : Format ℕ FieldFault
u16_field = record { spell = u16_bytes; Fits = λ n. n < 2 ^ 16; read = number_at w16; Wrong = NumberWrong 2 }

abbrev pub u32_field : Format ℕ FieldFault
u32_field = record { spell = u32_bytes; Fits = λ n. n < 2 ^ 32; read = number_at w32; Wrong = NumberWrong 4 }

abbrev pub u64_field : Format ℕ FieldFault
u64_field = record { spell = u64_bytes; Fits = λ n. n < 2 ^ 64; read = number_at w64; Wrong = NumberWrong 8 }

abbrev pub i64_field : Format ℤ FieldFault
i64_field = record { spell = i64_bytes; Fits = FitsSigned w64; read = signed_at; Wrong = NumberWrong 8 }

-- Bytes with their length first are not whole: the length is not, or it is at most the greatest and fewer bytes follow it.
abbrev pub IsCutOff : Width → ℕ → List ℕ → Type 0
IsCutOff w greatest bytes = (length bytes < byte_len w) ⊎ ((byte_len w ≤ length bytes) × (number_of w bytes ≤ greatest) × (length bytes < byte_len w + number_of w bytes))

-- The length is whole and below -1: above the greatest, and not null.
abbrev pub IsBelowNull : Width → ℕ → ℕ → List ℕ → Type 0
IsBelowNull w greatest null bytes = (byte_len w ≤ length bytes) × (greatest < number_of w bytes) × (number_of w bytes < null)

abbrev pub CountedWrong : Width → ℕ → ℕ → Spot → FieldFault → Type 0
CountedWrong w greatest null s (Short place) = IsCutOff w greatest s.rest × (place ≡ s.at)
CountedWrong w greatest null s (Negative place) = IsBelowNull w greatest null s.rest × (place ≡ s.at)

-- a count is not whole, or below 0
abbrev pub CountWrong : Spot → FieldFault → Type 0
CountWrong s (Short place) = (length s.rest < 4) × (place ≡ s.at)
CountWrong s (Negative place) = (4 ≤ length s.rest) × (2147483647 < number_of w32 s.rest) × (place ≡ s.at)

abbrev pub text_field : Format (Option (List ℕ)) FieldFault
text_field = record { spell = text_bytes; Fits = IsText; read = text_at; Wrong = CountedWrong w16 32767 65535 }

abbrev pub blob_field : Format (Option (List ℕ)) FieldFault
blob_field = record { spell = blob_bytes; Fits = IsBlob; read = blob_at; Wrong = CountedWrong w32 2147483647 4294967295 }

abbrev pub count_field : Format ℕ FieldFault
count_field = record { spell = count_bytes; Fits = IsCount; read = count_at; Wrong = CountWrong }
