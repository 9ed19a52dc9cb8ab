-- What is told of an object's past or future, and what reads and writes do to it.
use Rattle.std.specs.Prelude.{◌≡◌, ℕ, ◌≤◌, ◌<◌, List, [], ◌++◌, length, take, Option, Some, None}
use Rattle.std.specs.Option.{option_map}
use Rattle.outside_io.specs.declared.source.Took.{Took}
use Rattle.outside_io.specs.declared.source.Took.TheVariants as took
use Rattle.outside_io.specs.declared.sink.Gave.{Gave}
use Rattle.outside_io.specs.declared.sink.Gave.TheVariants as gave

-- items, and then those that are told
abbrev pub before_known : {A : Type 0} → List A → Option (List A) → Option (List A)
before_known items known = option_map (λ rest. items ++ rest) known

-- the items that are told, and then some more
abbrev pub after_known : {A : Type 0} → Option (List A) → List A → Option (List A)
after_known known items = option_map (λ told. told ++ items) known

-- no byte is there, where that is told
abbrev pub IsEmptyKnown : Option (List ℕ) → Type 0
IsEmptyKnown None = Unit {0}
IsEmptyKnown (Some rest) = rest ≡ []

-- a read gives the first of the bytes left, says that they ended only where none is left, and takes none if it fails
abbrev pub Reads : Option (List ℕ) → Took → List ℕ → Option (List ℕ) → Type 0
Reads old (took.Got n) buf new = (0 < n) × (n ≤ length buf) × (old ≡ before_known (take n buf) new)
Reads old took.End buf new = IsEmptyKnown old × (new ≡ old)
Reads old took.Failed buf new = new ≡ old

-- a write adds its whole piece, or a prefix of it if it fails
abbrev pub Writes : Option (List ℕ) → Gave → List ℕ → Option (List ℕ) → Type 0
Writes old gave.Done bytes new = new ≡ after_known old bytes
Writes old gave.Failed bytes new = (k : ℕ) × (new ≡ after_known old (take k bytes))
