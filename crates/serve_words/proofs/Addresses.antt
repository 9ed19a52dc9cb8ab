-- Addresses and counts of members have one reading.
use Rattle.std.proofs.Common.{◌≡◌, ◌<◌, ◌≤◌, ◌^◌, ℕ, Bool, true, false, List, length, take, Option, sym, ap, subst, ◌∙◌, arith}
use Rattle.std.proofs.lemmas.Fmt.{decimal_injective}
use Rattle.std.proofs.lemmas.List.{length-take-le}
use Rattle.std.specs.Fmt.{decimal}
use Rattle.script_text.specs.Words.{Lacks, SplitsAt}
use Rattle.script_text.proofs.Splits.{cut_same, lacks_it_not}
use Rattle.clap.specs.Words.{Text}
use Rattle.serve_words.specs.Asked.{IsAddress, IsGroupSize, IsCount, colon}
use Rattle.serve_words.specs.Told.{Values}

abbrev fails : Bool → Type 0
fails true = ⊥
fails false = Unit {0}

-- a test that fails doesn't pass
pub never : {P : Type 0} (passes : Bool) → passes ≡ false → (P → passes ≡ true) → P → ⊥
never passes fails_it when holds = subst fails (sym fails_it ∙ when holds) tt

pub taken_length : (k : ℕ) (word : List ℕ) → k < length word → (1 ≤ length (take k word)) × (length (take k word) ≤ 255) → (1 ≤ k) × (k ≤ 255)
taken_length k word within is =
    let len : length (take k word) ≡ k = length-take-le k word (omega (arith, within)) in
    (omega (arith, len, is.0), omega (arith, len, is.1))

pub no_colon : (word host : List ℕ) (port : ℕ) → Lacks colon word → IsAddress word host port → ⊥
no_colon word host port lacks is = lacks_it_not colon host (decimal port) (subst (Lacks colon) is.spelled lacks)

-- the parts of an address are those that its first colon parts
parts_same : (word host a b : List ℕ) (port : ℕ) → SplitsAt colon word a b → IsAddress word host port → (a ≡ host) × (b ≡ decimal port)
parts_same word host a b port splits is = cut_same colon a host b (decimal port) splits.1 is.whole (sym splits.0 ∙ is.spelled)

pub no_port : (word host a b : List ℕ) (port : ℕ) → SplitsAt colon word a b → ((n : ℕ) → n < 2 ^ 64 → b ≡ decimal n → ⊥) → IsAddress word host port → ⊥
no_port word host a b port splits none is = none port (omega (arith, is.small)) (parts_same word host a b port splits is).1

pub other_length : (word host a b : List ℕ) (port : ℕ) → SplitsAt colon word a b → ((1 ≤ length a) × (length a ≤ 255) → ⊥) → IsAddress word host port → ⊥
other_length word host a b port splits none is =
    let same = ap length (parts_same word host a b port splits is).0 in
    none (omega (arith, same, is.some), omega (arith, same, is.short))

pub great_port : (word host a b : List ℕ) (port n : ℕ) → SplitsAt colon word a b → n < 2 ^ 64 → b ≡ decimal n → (n ≤ 65535 → ⊥) → IsAddress word host port → ⊥
great_port word host a b port n splits small spelled great is =
    let same : n ≡ port = decimal_injective n port small (omega (arith, is.small)) (sym spelled ∙ (parts_same word host a b port splits is).1) in
    great (omega (arith, same, is.small))

size_small : (count : ℕ) → IsGroupSize count → count < 2 ^ 64
size_small count size = omega (arith, size)

pub no_count : (word : List ℕ) → ((n : ℕ) → n < 2 ^ 64 → word ≡ decimal n → ⊥) → (count : ℕ) → IsCount word count → ⊥
no_count word none count is = none count (size_small count is.size) is.spelled

pub other_count : (word : List ℕ) (n : ℕ) → n < 2 ^ 64 → word ≡ decimal n → (IsGroupSize n → ⊥) → (count : ℕ) → IsCount word count → ⊥
other_count word n small spelled none count is =
    let same : n ≡ count = decimal_injective n count small (size_small count is.size) (sym spelled ∙ is.spelled) in
    none (subst IsGroupSize (sym same) is.size)

-- the values, one by one
abbrev pub valued : Option Text → Option Text → Option Text → Option Text → Option Text → Values
valued a b c d e = record { listen = a; dir = b; user = c; password = d; members = e }

pub all_told : (a b c d e p q r s t : Option Text) → a ≡ p → b ≡ q → c ≡ r → d ≡ s → e ≡ t → valued a b c d e ≡ valued p q r s t
all_told a b c d e p q r s t f g h i j =
    ap (λ (x : Option Text). valued x b c d e) f ∙ ap (λ (x : Option Text). valued p x c d e) g ∙ ap (λ (x : Option Text). valued p q x d e) h ∙ ap (λ (x : Option Text). valued p q r x e) i ∙ ap (λ (x : Option Text). valued p q r s x) j
