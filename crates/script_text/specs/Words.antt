-- The words of a line.
use Rattle.std.specs.Prelude.{◌≡◌, ◌≢◌, ℕ, ◌≤◌, ◌<◌, ◌^◌, Bool, ◌&&◌, ◌||◌, ◌==◌, nat_le, List, ◌∷◌, ◌++◌, length, slice_index, All}
use Rattle.std.specs.List.{AllPass}
use Rattle.std.specs.Fmt.{decimal}
use Rattle.hex.specs.Hex.{encode_lower}
use Rattle.frame_wire.specs.Fields.{u16_bytes}

-- between two words stands one space
abbrev pub space : ℕ
space = 32

-- a line ends with it
abbrev pub line_feed : ℕ
line_feed = 10

-- a letter, a digit, `-`, `_` or `.`
abbrev pub is_name_byte : ℕ → Bool
is_name_byte b = (nat_le 97 b && nat_le b 122) || (nat_le 65 b && nat_le b 90) || (nat_le 48 b && nat_le b 57) || (b == 45) || (b == 95) || (b == 46)

-- NAME: 1 to 255 of these bytes
abbrev pub IsName : List ℕ → Type 0
IsName name = (1 ≤ length name) × (length name ≤ 255) × AllPass is_name_byte name

-- bytes, at least one, as HEX spells them
abbrev pub IsGiven : List ℕ → Type 0
IsGiven bytes = (1 ≤ length bytes) × All (λ b. b < 2 ^ 8) bytes

-- a number, in decimal digits without a leading zero
abbrev pub IsNumber : ℕ → Type 0
IsNumber n = n < 2 ^ 64

-- a response code, in four hexadecimal digits
abbrev pub code_word : ℕ → List ℕ
code_word code = encode_lower (u16_bytes code)

-- a word behind others: a space, and the word
abbrev pub behind : List ℕ → List ℕ
behind word = space ∷ word

-- a number behind other words
abbrev pub behind_number : ℕ → List ℕ
behind_number n = space ∷ decimal n

-- no byte of the list is this one
abbrev pub Lacks : ℕ → List ℕ → Type 0
Lacks byte bytes = All (λ b. b ≢ byte) bytes

-- the list begins with a word, and other words follow it
abbrev pub SplitsAt : ℕ → List ℕ → List ℕ → List ℕ → Type 0
SplitsAt byte bytes word rest = (bytes ≡ word ++ byte ∷ rest) × Lacks byte word

-- some digits with no sign, and no zero before others
abbrev pub IsPlain : List ℕ → Type 0
IsPlain word = (0 < length word) × (slice_index word 0 ≢ 43) × (slice_index word 0 ≡ 48 → length word ≡ 1)
