-- What a cutter of a stream holds, and what its calls do.
use Rattle.std.specs.Prelude.{◌≡◌, ℕ, ◌+◌, List, [], ◌++◌, length, drop}
use Rattle.frame_wire.specs.declared.cutter.Front.{Front}
use Rattle.frame_wire.specs.declared.cutter.Front.TheVariants as looks
use Rattle.frame_wire.specs.declared.cutter.Cut.{Cut}
use Rattle.frame_wire.specs.declared.cutter.Cut.TheVariants.{Frame, More, TooLarge}
use Rattle.frame_wire.specs.declared.stream.StreamEnd.{StreamEnd}
use Rattle.frame_wire.specs.declared.stream.StreamEnd.TheVariants as ends
use Rattle.frame_wire.specs.Frames.{frame, size_of, IsPartial, IsTooLarge, IsBody, Frames, TooBig}

-- the greatest size, the body of the last frame, and the bytes that no frame was cut from yet
pub record Held : Type 0 where
  pub max : ℕ
  pub body : List ℕ
  pub rest : List ℕ

-- a size above the greatest stands in a frame's place
abbrev pub IsStuck : Held → Type 0
IsStuck held = IsTooLarge held.max held.rest (size_of held.rest)

-- the piece stands behind what was left, and no last body is kept
abbrev pub fed : Held → List ℕ → Held
fed held piece = record { max = held.max; body = []; rest = held.rest ++ piece }

-- what one cut does
abbrev pub Cuts : Held → Cut → Held → Type 0
Cuts old Frame new = (old.rest ≡ frame new.body ++ new.rest) × IsBody old.max new.body × (new.max ≡ old.max)
Cuts old More new = IsPartial old.max old.rest × (new ≡ old)
Cuts old (TooLarge size) new = IsTooLarge old.max old.rest size × (new ≡ old)

-- what stands at the front of bytes
abbrev pub Looks : ℕ → List ℕ → Front → Type 0
Looks max rest (looks.Frame body) = (rest ≡ frame body.now ++ drop (4 + length body.now) rest) × IsBody max body.now
Looks max rest looks.More = IsPartial max rest
Looks max rest (looks.TooLarge size) = IsTooLarge max rest size

-- how a stream ends behind its frames
abbrev pub CutsStream : ℕ → List ℕ → List (List ℕ) → List ℕ → StreamEnd → Type 0
CutsStream max stream bodies rest ends.Open = Frames max stream bodies rest
CutsStream max stream bodies rest (ends.TooLarge size) = TooBig max stream bodies rest size
