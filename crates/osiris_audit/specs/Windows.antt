-- Bytes of a file that are read in pieces, and what reading on does.
use Rattle.std.specs.Prelude.{◌≡◌, ◌⊎◌, ℕ, ◌+◌, ◌<◌, ◌≤◌, List, ◌++◌, [], length, Bool, true, false, Option, Result, Ok, Err}
use Rattle.outside_io.specs.Known.{before_known, IsEmptyKnown}
use Rattle.segment_pairs.specs.Log.{begins}
use Rattle.osiris_audit.specs.declared.window.Fault.{Fault}
use Rattle.osiris_audit.specs.declared.window.Fault.TheVariants.{Read, Write, Memory, TooLong}

-- the most bytes that are taken of a file
abbrev pub most_bytes : ℕ
most_bytes = 268435456

-- how many bytes were passed over, the bytes that were read behind them, and whether the file was read to its end
pub record WindowState : Type 0 where
  pub place : ℕ
  pub rest : List ℕ
  pub ended : Bool

-- how many bytes were read
abbrev pub size_read : WindowState → ℕ
size_read w = w.place + length w.rest

-- more bytes than the most were taken exactly where the file is too long
abbrev pub IsOver : Fault → ℕ → Type 0
IsOver Read size = size ≤ most_bytes
IsOver Write size = ⊥
IsOver Memory size = size ≤ most_bytes
IsOver TooLong size = most_bytes < size

-- the end stands: it was found before, or no byte is left
abbrev pub HasEnded : Bool → Option (List ℕ) → Type 0
HasEnded before left = (before ≡ true) ⊎ IsEmptyKnown left

-- what a reading on left, for so many bytes in all; whether there are as many is told, and if not, the file ended
pub record Goes (n : ℕ) (enough : Bool) (piece : List ℕ) (left : Option (List ℕ)) (old new : WindowState) : Type 0 where
  pub place_is : new.place ≡ old.place
  pub rest_is : new.rest ≡ old.rest ++ piece
  pub some : enough ≡ true → n ≤ length new.rest
  pub few : enough ≡ false → length new.rest < n
  pub end : enough ≡ false → new.ended ≡ true
  pub keeps : old.ended ≡ true → new.ended ≡ true
  pub ended_is : new.ended ≡ true → HasEnded old.ended left
  pub short : size_read new ≤ most_bytes

-- a fault comes before there are so many bytes, or with the piece that makes them as many
abbrev pub IsNear : Fault → ℕ → ℕ → Type 0
IsNear Read size wanted = size < wanted
IsNear Write size wanted = Unit {0}
IsNear Memory size wanted = Unit {0}
IsNear TooLong size wanted = size < wanted + 16384

abbrev pub GrewBy : ℕ → Result Bool Fault → List ℕ → Option (List ℕ) → WindowState → WindowState → Type 0
GrewBy n (Ok enough) piece left old new = Goes n enough piece left old new
GrewBy n (Err fault) piece left old new = IsOver fault (size_read old + length piece) × IsNear fault (size_read old + length piece) (old.place + n)

-- what came in, which is nothing where the file had ended
pub record Grew (n : ℕ) (result : Result Bool Fault) (left_old left_new : Option (List ℕ)) (old new : WindowState) : Type 0 where
  pub piece : List ℕ
  pub took : left_old ≡ before_known piece left_new
  pub still : old.ended ≡ true → piece ≡ []
  pub by : GrewBy n result piece left_new old new

abbrev pub DrainedBy : Result (Unit {0}) Fault → List ℕ → Option (List ℕ) → WindowState → Type 0
DrainedBy (Ok done) piece left old = (size_read old + length piece ≤ most_bytes) × HasEnded old.ended left
DrainedBy (Err fault) piece left old = IsOver fault (size_read old + length piece)

-- a file was read to its end, or up to a fault
pub record Drained (result : Result (Unit {0}) Fault) (left_old left_new : Option (List ℕ)) (old : WindowState) : Type 0 where
  pub piece : List ℕ
  pub took : left_old ≡ before_known piece left_new
  pub still : old.ended ≡ true → piece ≡ []
  pub by : DrainedBy result piece left_new old

-- a piece was taken behind the bytes, unless it made them too many or there was no memory
abbrev pub Held : Result (Unit {0}) Fault → List ℕ → WindowState → WindowState → Type 0
Held (Ok done) piece old new = (new.place ≡ old.place) × (new.rest ≡ old.rest ++ piece) × (new.ended ≡ old.ended) × (size_read new ≤ most_bytes)
Held (Err fault) piece old new = IsOver fault (size_read old + length piece) × (fault ≡ Read → ⊥)

-- whether a header stood in front of a file, which is then passed over
pub record TakesEither (header : List ℕ) (told : Bool) (taken : List ℕ) (left : Option (List ℕ)) (new : WindowState) : Type 0 where
  pub right : told ≡ true → (taken ≡ header ++ new.rest) × (new.place ≡ 8)
  pub wrong : told ≡ false → (new.place ≡ 0) × (taken ≡ new.rest) × ((more : List ℕ) → (new.ended ≡ true → more ≡ []) → begins header (taken ++ more) ≡ false)
  pub known : told ≡ false → (8 ≤ length taken) ⊎ (new.ended ≡ true)
  pub ended_is : new.ended ≡ true → IsEmptyKnown left
  pub short : size_read new ≤ most_bytes

abbrev pub TakesBy : List ℕ → Result Bool Fault → List ℕ → Option (List ℕ) → WindowState → Type 0
TakesBy header (Ok right) taken left new = TakesEither header right taken left new
TakesBy header (Err fault) taken left new = IsOver fault (length taken) × ((length taken < 8) ⊎ (fault ≡ Memory))

pub record TakesHeader (header : List ℕ) (result : Result Bool Fault) (left_old left_new : Option (List ℕ)) (new : WindowState) : Type 0 where
  pub taken : List ℕ
  pub took : left_old ≡ before_known taken left_new
  pub by : TakesBy header result taken left_new new

-- so much was read and passed over
pub record Passes (left_old left_new : Option (List ℕ)) (old new : WindowState) : Type 0 where
  pub piece : List ℕ
  pub took : left_old ≡ before_known piece left_new
  pub still : old.ended ≡ true → piece ≡ []
  pub size_is : size_read new ≡ size_read old + length piece
  pub keeps : old.ended ≡ true → new.ended ≡ true
  pub ended_is : new.ended ≡ true → HasEnded old.ended left_new
  pub short : size_read new ≤ most_bytes
