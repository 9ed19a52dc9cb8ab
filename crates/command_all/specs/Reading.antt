-- Bytes of a connection read as commands, frame by frame.
use Rattle.std.specs.Prelude.{◌≡◌, ◌<◌, ◌^◌, ℕ, List, [], ◌∷◌, ◌++◌, All}
use Rattle.frame_wire.specs.Frames.{stream_of, IsBody, BeginsFrame, Frames, TooBig}
use Rattle.command_fields.specs.declared.fault.DecodeFault.{DecodeFault}
use Rattle.command_all.specs.declared.command.Command.{Command}
use Rattle.command_all.specs.Commands.{Spells, Wrong}

-- each body spells the command at its place
abbrev pub AreSpelled : List (List ℕ) → List Command → Type 0
AreSpelled [] [] = Unit {0}
AreSpelled (body ∷ bodies) (command ∷ commands) = Spells command body × AreSpelled bodies commands
AreSpelled [] (command ∷ commands) = ⊥
AreSpelled (body ∷ bodies) [] = ⊥

-- how the commands of bytes end: with less than a whole frame, with a frame that no command spells, or with a size above
-- the greatest
pub data ReadingEnd : Type 0 where
  Partial : ReadingEnd
  Unspelt : DecodeFault → ReadingEnd
  TooLarge : ℕ → ReadingEnd

-- a frame that no command spells stands at the front, with this first wrong field
pub record BeginsUnspelt (max : ℕ) (bytes : List ℕ) (fault : DecodeFault) : Type 0 where
  pub frame : BeginsFrame max bytes
  pub wrong : Wrong frame.body fault

-- The bytes are these frames, each of at most max bytes, and then one that no command spells, with any bytes after it.
pub record UnspeltBehind (max : ℕ) (bytes : List ℕ) (bodies : List (List ℕ)) (rest : List ℕ) (fault : DecodeFault) : Type 0 where
  pub whole : bytes ≡ stream_of bodies rest
  pub each : All (IsBody max) bodies
  pub unspelt : BeginsUnspelt max rest fault

-- the frames before the end, and what is left from there on
abbrev pub FramesTo : ℕ → List ℕ → List (List ℕ) → List ℕ → ReadingEnd → Type 0
FramesTo max bytes bodies rest Partial = Frames max bytes bodies rest
FramesTo max bytes bodies rest (Unspelt fault) = UnspeltBehind max bytes bodies rest fault
FramesTo max bytes bodies rest (TooLarge size) = TooBig max bytes bodies rest size

-- The bytes are whole frames of at most max bytes of body that spell these commands, and what is left ends them so.
pub record Reading (max : ℕ) (bytes : List ℕ) (commands : List Command) (rest : List ℕ) (end : ReadingEnd) : Type 0 where
  pub bodies : List (List ℕ)
  pub framed : FramesTo max bytes bodies rest end
  pub spelled : AreSpelled bodies commands

-- some reading of bytes
pub record SomeReading (max : ℕ) (bytes : List ℕ) : Type 0 where
  pub commands : List Command
  pub rest : List ℕ
  pub end : ReadingEnd
  pub reading : Reading max bytes commands rest end

-- two readings of the same bytes are one
abbrev pub OneReading : Type 0
OneReading = (max : ℕ) (bytes : List ℕ) (cs ds : List Command) (r q : List ℕ) (e f : ReadingEnd) → max < 2 ^ 32 → Reading max bytes cs r e → Reading max bytes ds q f → (cs ≡ ds) × (r ≡ q) × (e ≡ f)

-- What a part leaves goes before the next part: the commands of both are those of the parts joined.
abbrev pub ReadingsJoin : Type 0
ReadingsJoin = (max : ℕ) (bytes more : List ℕ) (cs ds : List Command) (r q : List ℕ) (e : ReadingEnd) → Reading max bytes cs r Partial → Reading max (r ++ more) ds q e → Reading max (bytes ++ more) (cs ++ ds) q e

-- Where a frame that no command spells ends the commands, or a size above the greatest, any bytes may follow.
abbrev pub EndsStay : Type 0
EndsStay = (max : ℕ) (bytes more : List ℕ) (cs : List Command) (r : List ℕ) (e : ReadingEnd) → (e ≡ Partial → ⊥) → Reading max bytes cs r e → Reading max (bytes ++ more) cs (r ++ more) e
