-- Bytes that are written over others.
use Rattle.std.specs.Prelude.{ℕ, ◌+◌, List, ◌++◌, length, take, drop}

-- the bytes with these at this place
abbrev pub over : List ℕ → ℕ → List ℕ → List ℕ
over old at bytes = take at old ++ bytes ++ drop (at + length bytes) old
