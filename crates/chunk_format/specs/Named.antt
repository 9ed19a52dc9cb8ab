-- A type and a name at the front of bytes.
use Rattle.std.specs.Prelude.{◌≡◌, ℕ, ◌+◌, ◌^◌, ◌<◌, List, ◌++◌, length, drop, Option, Some, None}
use Rattle.chunk_format.specs.declared.tracking.NamedParts.{NamedParts}
use Rattle.chunk_format.specs.Tags.{IsName, named_bytes}

-- this type and this name stand at the front
abbrev pub NameStands : ℕ → List ℕ → List ℕ → Type 0
NameStands kind name bytes = IsName name × (bytes ≡ named_bytes kind name ++ drop (2 + length name) bytes)

abbrev pub NamedFront : List ℕ → Option NamedParts → Type 0
NamedFront bytes None = (kind : ℕ) (name more : List ℕ) → kind < 2 ^ 8 → IsName name → bytes ≡ named_bytes kind name ++ more → ⊥
NamedFront bytes (Some parts) = (parts.kind < 2 ^ 8) × NameStands parts.kind parts.name.now bytes
