-- How the fields of the wire are spelled: big-endian numbers, and texts, blobs and lists with their length first.
use Rattle.std.specs.Prelude.{ℕ, ℤ, ◌^◌, ◌<◌, List, ◌++◌, length, Option, Some, None, IfSome}
use Rattle.std.specs.Int.{w8, w16, w32, w64, to_be_bytes, cast_unsigned}

unfoldable pub u8_bytes : ℕ → List ℕ
u8_bytes n = to_be_bytes w8 n

unfoldable pub u16_bytes : ℕ → List ℕ
u16_bytes n = to_be_bytes w16 n

unfoldable pub u32_bytes : ℕ → List ℕ
u32_bytes n = to_be_bytes w32 n

unfoldable pub u64_bytes : ℕ → List ℕ
u64_bytes n = to_be_bytes w64 n

-- a signed number, in two's complement
unfoldable pub i64_bytes : ℤ → List ℕ
i64_bytes n = to_be_bytes w64 (cast_unsigned w64 n)

-- a text: its length in two bytes and its bytes; null is the length -1
abbrev pub text_bytes : Option (List ℕ) → List ℕ
text_bytes None = u16_bytes 65535
text_bytes (Some bytes) = u16_bytes (length bytes) ++ bytes

-- a blob: its length in four bytes and its bytes; null is the length -1
abbrev pub blob_bytes : Option (List ℕ) → List ℕ
blob_bytes None = u32_bytes 4294967295
blob_bytes (Some bytes) = u32_bytes (length bytes) ++ bytes

-- the number of a list's items, before them
abbrev pub count_bytes : ℕ → List ℕ
count_bytes n = u32_bytes n

-- lengths and counts are signed, so half of the numbers have a spelling
abbrev pub IsText : Option (List ℕ) → Type 0
IsText text = IfSome text (λ bytes. length bytes < 2 ^ 15)

abbrev pub IsBlob : Option (List ℕ) → Type 0
IsBlob blob = IfSome blob (λ bytes. length bytes < 2 ^ 31)

abbrev pub IsCount : ℕ → Type 0
IsCount n = n < 2 ^ 31
