-- What the bytes of a file of gated pairs stand for, in each of its two forms.
use Rattle.std.specs.Prelude.{◌≡◌, ◌≢◌, ◌⊎◌, ℕ, zero, suc, ◌+◌, ◌-◌, ◌*◌, ◌≤◌, ◌<◌, ◌^◌, Bool, true, List, [], ◌∷◌, ◌++◌, fold, length, take, drop, slice_index, bit_xor, if◌then◌else◌, ◌==◌, ◌&&◌}
use Rattle.std.specs.Int.{w64, to_be_bytes, from_be_bytes}
use Rattle.gated_words.specs.declared.record.Form.{Form}
use Rattle.gated_words.specs.declared.record.Form.TheVariants as form

-- `STGW`, and the number of the form as a u32
abbrev pub header : Form → List ℕ
header form.First = 83 ∷ 84 ∷ 71 ∷ 87 ∷ 0 ∷ 0 ∷ 0 ∷ 1 ∷ []
header form.Second = 83 ∷ 84 ∷ 71 ∷ 87 ∷ 0 ∷ 0 ∷ 0 ∷ 2 ∷ []

-- the bytes of a record
abbrev pub width : Form → ℕ
width form.First = 17
width form.Second = 18

-- the gate, the last byte of a whole record
abbrev pub gate : ℕ
gate = 165

-- a pair is two words of eight bytes, the highest byte first
unfoldable pub words : ℕ × ℕ → List ℕ
words pair = to_be_bytes w64 pair.0 ++ to_be_bytes w64 pair.1

unfoldable pub xor_of : List ℕ → ℕ
xor_of bytes = fold bit_xor 0 bytes

-- what stands behind the words: in the second form the xor of their bytes
abbrev pub check : Form → List ℕ → List ℕ
check form.First bytes = []
check form.Second bytes = xor_of bytes ∷ []

-- a record without its gate: the words and what checks them
abbrev pub shut : Form → ℕ × ℕ → List ℕ
shut f pair = words pair ++ check f (words pair)

-- a record for each pair, with its gate
abbrev pub records : Form → List (ℕ × ℕ) → List ℕ
records f [] = []
records f (pair ∷ pairs) = shut f pair ++ gate ∷ records f pairs

-- a file of these pairs and nothing else
unfoldable pub spelled : Form → List (ℕ × ℕ) → List ℕ
spelled f pairs = header f ++ records f pairs

-- both words are numbers of 64 bits
abbrev pub AllFit : List (ℕ × ℕ) → Type 0
AllFit [] = Unit {0}
AllFit (pair ∷ pairs) = (pair.0 < 2 ^ 64) × (pair.1 < 2 ^ 64) × AllFit pairs

-- the pair of the two words that begin here
unfoldable pub pair_at : List ℕ → ℕ × ℕ
pair_at bytes = (from_be_bytes w64 (take 8 bytes), from_be_bytes w64 (take 8 (drop 8 bytes)))

-- whether the words that begin here have their check behind them
abbrev pub is_checked : Form → List ℕ → Bool
is_checked form.First bytes = true
is_checked form.Second bytes = slice_index bytes 16 == xor_of (take 16 bytes)

-- whether a whole record with its gate and a right check begins here
abbrev pub is_record : Form → List ℕ → Bool
is_record f bytes = (slice_index bytes (width f - 1) == gate) && is_checked f bytes

-- the pairs of the records behind the first k bytes, up to the first that is not whole, or has another gate or another check
abbrev pub pairs_behind : Form → ℕ → List ℕ → List (ℕ × ℕ)
pairs_behind f k [] = []
pairs_behind f (suc k) (byte ∷ bytes) = pairs_behind f k bytes
pairs_behind f zero (byte ∷ bytes) = if is_record f (byte ∷ bytes) then pair_at (byte ∷ bytes) ∷ pairs_behind f (width f - 1) bytes else []

-- the pairs of a file: those of the records behind its header
abbrev pub pairs_in : Form → List ℕ → List (ℕ × ℕ)
pairs_in f bytes = pairs_behind f 8 bytes

-- where the records of a file end
abbrev pub end_of : Form → List ℕ → ℕ
end_of f bytes = 8 + width f * length (pairs_in f bytes)

-- a whole record with its gate begins here
abbrev pub HasGate : Form → List ℕ → Type 0
HasGate f bytes = (width f ≤ length bytes) × (slice_index bytes (width f - 1) ≡ gate)

-- none does
abbrev pub HasNoGate : Form → List ℕ → Type 0
HasNoGate f bytes = (length bytes < width f) ⊎ (slice_index bytes (width f - 1) ≢ gate)

-- what reading gives up behind the records: at most the bytes of one, and no whole record with its gate
abbrev pub GivenUp : Form → List ℕ → Type 0
GivenUp f rest = (length rest ≤ width f) × HasNoGate f rest

-- what no crash leaves behind the records: more bytes than those of one, or a whole record with its gate, whose check then is another
abbrev pub NoneLeaves : Form → List ℕ → Type 0
NoneLeaves f rest = (width f < length rest) ⊎ HasGate f rest

-- a file that can be opened: one with no more than a header has, or one with its header and what is given up behind its records
abbrev pub OpensAs : Form → List ℕ → Type 0
OpensAs f bytes = (length bytes ≤ 8) ⊎ ((take 8 bytes ≡ header f) × GivenUp f (drop (end_of f bytes) bytes))

-- a file that is damaged, and where: at its front where the header is another, else where its records end
abbrev pub DamagesAs : Form → ℕ → List ℕ → Type 0
DamagesAs f place bytes = (8 < length bytes) × (((take 8 bytes ≢ header f) × (place ≡ 0)) ⊎ ((take 8 bytes ≡ header f) × NoneLeaves f (drop (end_of f bytes) bytes) × (place ≡ end_of f bytes)))
