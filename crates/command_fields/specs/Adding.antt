-- What a call adds at the end of a list of bytes.
use Rattle.std.specs.Prelude.{◌≡◌, ℕ, List, ◌++◌, length, take, Result, Ok, Err}
use Rattle.std.specs.declared.alloc.AllocError.{AllocError}

-- The bytes were added; after an error some of them may stand behind what was there.
abbrev pub Adds : Result (Unit {0}) AllocError → List ℕ → List ℕ → List ℕ → Type 0
Adds (Ok u) old new bytes = new ≡ old ++ bytes
Adds (Err e) old new bytes = take (length old) new ≡ old
