-- What reading the bytes of a file finds.
use Rattle.std.specs.Prelude.{◌≡◌, ◌⊎◌, ℕ, ◌<◌, ◌^◌, List, [], ◌∷◌, ◌++◌, take, drop, Some, None}
use Rattle.disk_calls.specs.declared.file_id.FileId.{FileId}
use Rattle.disk_calls.specs.Disk.{DiskState, Settled}
use Rattle.gated_words.specs.declared.record.Form.{Form}
use Rattle.gated_words.specs.Words.{header, gate, width, shut, records, spelled, pairs_behind, pairs_in, AllFit, GivenUp, OpensAs}
use Rattle.gated_words.specs.Files.{Files}

-- a record with its gate and a right check begins here, and it is that of this pair
pub record StartsWith (f : Form) (pair : ℕ × ℕ) (bytes : List ℕ) : Type 0 where
  pub pairs : pairs_behind f 0 bytes ≡ pair ∷ pairs_behind f 0 (drop (width f) bytes)
  pub split : bytes ≡ shut f pair ++ gate ∷ drop (width f) bytes
  pub first : pair.0 < 2 ^ 64
  pub second : pair.1 < 2 ^ 64

-- these are the pairs of a file with a header, and this is behind its records
pub record HasRead (f : Form) (bytes : List ℕ) (pairs : List (ℕ × ℕ)) : Type 0 where
  pub are : pairs_in f bytes ≡ pairs
  pub fit : AllFit pairs
  pub rest : List ℕ
  pub split : drop 8 bytes ≡ records f pairs ++ rest

-- a file with a header is these pairs, and what is given up behind them
pub record Splits (f : Form) (bytes : List ℕ) (pairs : List (ℕ × ℕ)) : Type 0 where
  pub rest : List ℕ
  pub split : bytes ≡ spelled f pairs ++ rest
  pub given_up : GivenUp f rest

-- a file that can be opened has these pairs
pub record Reads (f : Form) (bytes : List ℕ) (pairs : List (ℕ × ℕ)) : Type 0 where
  pub opens : OpensAs f bytes
  pub are : pairs_in f bytes ≡ pairs
  pub fit : AllFit pairs
  pub splits : take 8 bytes ≡ header f → Splits f bytes pairs

-- a file of a form can be opened, with these pairs
pub record HasPairs (f : Form) (pairs : List (ℕ × ℕ)) (bytes : List ℕ) : Type 0 where
  pub opens : OpensAs f bytes
  pub are : pairs_in f bytes ≡ pairs

-- a file that is missing, or one that is these bytes, all of it on the disk
abbrev pub Found : FileId → List ℕ → DiskState → Type 0
Found id bytes s = ((s.seen id ≡ None) × (bytes ≡ [])) ⊎ Settled id bytes s

-- the first file as it was, or none and these bytes as the second
abbrev pub Moves : List ℕ → List ℕ → Files → Type 0
Moves one two files = (files.first ≡ Some one) ⊎ ((files.first ≡ None) × (files.second ≡ Some two))
