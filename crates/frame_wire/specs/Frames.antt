-- The frames of a stream of bytes: a size in four bytes, and so many bytes, the body.
use Rattle.std.specs.Prelude.{◌≡◌, ℕ, ◌+◌, ◌≤◌, ◌<◌, ◌⊎◌, List, ◌++◌, length, take, All}
use Rattle.std.specs.Int.{w32, from_be_bytes}
use Rattle.std.specs.List.{flat_map}
use Rattle.frame_wire.specs.Fields.{u32_bytes}

abbrev pub frame : List ℕ → List ℕ
frame body = u32_bytes (length body) ++ body

-- the size that the first four bytes give
abbrev pub size_of : List ℕ → ℕ
size_of bytes = from_be_bytes w32 (take 4 bytes)

-- less than a whole frame, and no size above max
abbrev pub IsPartial : ℕ → List ℕ → Type 0
IsPartial max bytes = (length bytes < 4) ⊎ ((size_of bytes ≤ max) × (length bytes < 4 + size_of bytes))

-- a size above max stands in a frame's place
pub record IsTooLarge (max : ℕ) (bytes : List ℕ) (size : ℕ) : Type 0 where
  pub whole : 4 ≤ length bytes
  pub is_size : size_of bytes ≡ size
  pub above : max < size

abbrev pub IsBody : ℕ → List ℕ → Type 0
IsBody max body = length body ≤ max

-- these frames, and then the rest
abbrev pub stream_of : List (List ℕ) → List ℕ → List ℕ
stream_of bodies rest = flat_map frame bodies ++ rest

-- The stream is these frames, each of at most max bytes, and a rest that begins no whole frame and no size above max.
pub record Frames (max : ℕ) (stream : List ℕ) (bodies : List (List ℕ)) (rest : List ℕ) : Type 0 where
  pub whole : stream ≡ stream_of bodies rest
  pub each : All (IsBody max) bodies
  pub partial : IsPartial max rest

-- The stream is these frames, each of at most max bytes, and then a size above max with any bytes after it.
pub record TooBig (max : ℕ) (stream : List ℕ) (bodies : List (List ℕ)) (rest : List ℕ) (size : ℕ) : Type 0 where
  pub whole : stream ≡ stream_of bodies rest
  pub each : All (IsBody max) bodies
  pub large : IsTooLarge max rest size

-- a whole frame of at most so many bytes of body stands at the front
pub record BeginsFrame (greatest : ℕ) (bytes : List ℕ) : Type 0 where
  pub body : List ℕ
  pub more : List ℕ
  pub fits : IsBody greatest body
  pub framed : bytes ≡ frame body ++ more
