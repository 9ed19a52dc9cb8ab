-- A piece that is written, and reads of two files.
use Rattle.std.specs.Prelude.{◌≡◌, ◌⊎◌, ℕ, ◌≤◌, List, take, Option, Bool, Result, Ok, Err}
use Rattle.outside_io.specs.Known.{after_known}
use Rattle.outside_io.specs.Causes.{Rose}
use Rattle.osiris_audit.specs.declared.window.Fault.{Fault}
use Rattle.osiris_audit.specs.declared.window.Fault.TheVariants.{Read, Write, Memory, TooLong}

-- counts of failures of two files around a call: they never fall, and one rose if the call failed
pub record EitherCause (one_before one_now two_before two_now : ℕ) (Failed : Type 0) : Type 0 where
  pub one_later : one_before ≤ one_now
  pub two_later : two_before ≤ two_now
  pub failed : Failed → Rose one_before one_now ⊎ Rose two_before two_now

-- the last line was written, or a front of it, or there was no memory
abbrev pub Closes : Bool → List ℕ → Result Bool Fault → Option (List ℕ) → Option (List ℕ) → Type 0
Closes good line (Ok told) old new = (told ≡ good) × (new ≡ after_known old line)
Closes good line (Err Write) old new = (k : ℕ) × (new ≡ after_known old (take k line))
Closes good line (Err Memory) old new = new ≡ old
Closes good line (Err Read) old new = ⊥
Closes good line (Err TooLong) old new = ⊥
